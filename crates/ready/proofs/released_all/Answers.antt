use mathlib.Core.Path.{sym, ◌∙◌}
use native.Mathlib.Omega.{arith}
use Rattle.ready.proofs.Laws.{one_more, no_more}
use Rattle.ready.proofs.released_all.Goals as goal

pub loop-p-preserved : goal.loop-p-preserved
loop-p-preserved c = one_more c.args.members c.loop-p.p-index _ _ (omega arith) c.release.ensures ∙ c.loop-p.invariant

pub returns : goal.returns
returns c = sym (no_more c.args.members c.loop-p.p-index _ (omega arith)) ∙ c.loop-p.invariant
