use mathlib.Core.Path.{refl}
use native.Mathlib.Omega.{arith}
use Rattle.structures.specs.Structures.{free_bay}
use Rattle.structures.proofs.Laws.{bay_found, bay_behind, lowest_end}
use Rattle.structures.proofs.free_bay.Goals as goal

pub loop-b-init : goal.loop-b-init
unfolding free_bay
loop-b-init c = refl

pub returns-then-not-taken : goal.returns-then-not-taken
returns-then-not-taken c = bay_found c.args.structures c.loop-b.b c.taken.ensures (omega arith) c.if-not-taken.true (omega arith) c.loop-b.invariant

pub loop-b-preserved : goal.loop-b-preserved
loop-b-preserved c = bay_behind c.args.structures c.loop-b.b c.taken.ensures (omega arith) c.if-not-taken.false c.loop-b.invariant

pub returns : goal.returns
returns c = rw (← c.loop-b.invariant, lowest_end _ c.loop-b.b 9 (omega arith))
