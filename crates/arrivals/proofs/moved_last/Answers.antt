-- `arrivals::moved_last` meets its contract: x is found exactly when it is listed. Assumes nothing.
use Rattle.std.proofs.Common.{sym, ap, ◌∙◌, ℕ, List, [], ◌∷◌, ◌++◌}
use Rattle.arrivals.specs.Order.{moved_last}
use Rattle.arrivals.proofs.Laws.{found, missed, cut_there}
use Rattle.arrivals.proofs.moved_last.Goals as goal

pub returns-in-Some : goal.returns-in-Some
unfolding moved_last
returns-in-Some c =
    let at = found c.args.x c.args.order c.in-Some.k (sym c.place_of.ensures ∙ c.in-Some.is) in
    rw at.0 (c.moved_up.ensures ∙ ap (λ (l : List ℕ). l ++ (c.args.x ∷ [])) (cut_there c.args.x c.args.order c.in-Some.k at.1))

pub returns-in-None : goal.returns-in-None
unfolding moved_last
returns-in-None c = rw (missed c.args.x c.args.order (sym c.place_of.ensures ∙ c.in-None.is))
