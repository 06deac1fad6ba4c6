-- `ready::released_all` meets its contract: to release those who are left gives what the whole gives.
use mathlib.Core.Path.{◌≡◌}
use lib.ListN.{drop}
use Rattle.ready.specs.Ready.{released_all}
use Rattle.ready.proofs.released_all.Given as goal

abbrev pub invariant-loop-p : goal.invariant-loop-p
invariant-loop-p l = released_all (drop l.p-index l.p-items) l.t ≡ released_all l.p-items l.initial.t
