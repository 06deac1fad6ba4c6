-- `arrivals::deleted` meets its contract: x is found exactly when it is listed. Assumes nothing.
use Rattle.std.proofs.Common.{sym, ◌∙◌}
use Rattle.arrivals.specs.Order.{deleted}
use Rattle.arrivals.proofs.Laws.{found, missed, turned_first}
use Rattle.arrivals.proofs.deleted.Goals as goal

pub returns-in-Some : goal.returns-in-Some
unfolding deleted
returns-in-Some c =
    let order = c.args.order in
    let at = found c.args.x order c.in-Some.k (sym c.place_of.ensures ∙ c.in-Some.is) in
    rw at.0 (turned_first order _ c.args.x _ at.1 at.2 c.rotate_right.ensures.after)

pub returns-in_default : goal.returns-in_default
unfolding deleted
returns-in_default c = rw (missed c.args.x c.args.order (sym c.place_of.ensures ∙ c.in_default.is))
