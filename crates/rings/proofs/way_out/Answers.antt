-- `rings::way_out` meets its contract: the closure computes whether so many are held.
use Rattle.std.specs.Prelude.{leb}
use Rattle.std.proofs.Common.{rules, ◌∙◌}
use Rattle.rings.proofs.Laws.{past_getters}
use Rattle.rings.proofs.way_out.Goals as goal

pub returns : goal.returns
returns c = c.way_past.ensures (λ r. leb c.args.l r.held) (λ r x e. search rules) ∙ past_getters c.args.n c.args.l c.args.t.now
