-- `structures::free_bay` meets its contract: the lowest from the next bay on is the lowest of all.
use Prim.Native.Nat.{◌-◌}
use mathlib.Core.Path.{◌≡◌}
use mathlib.Core.Bool.{not}
use Rattle.structures.specs.Structures.{lowest_from, taken, free_bay}
use Rattle.structures.proofs.free_bay.Given as goal

abbrev pub invariant-loop-b : goal.invariant-loop-b
invariant-loop-b l = lowest_from (λ x. not (taken l.structures x)) l.b (9 - l.b) ≡ free_bay l.structures
