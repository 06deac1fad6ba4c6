-- `rings::way_in` meets its contract: the closure computes whether there is room.
use Rattle.std.specs.Prelude.{◌+◌, leb}
use Rattle.std.proofs.Common.{rules, ◌∙◌}
use Rattle.rings.proofs.Laws.{past_putters}
use Rattle.rings.proofs.way_in.Goals as goal

pub returns : goal.returns
returns c = c.way_past.ensures (λ r. leb (r.held + c.args.l) r.size) (λ r x e. search rules) ∙ past_putters c.args.n c.args.l c.args.t.now
