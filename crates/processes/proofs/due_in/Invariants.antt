-- `processes::due_in` meets its contract: the first ones were looked at, the rest are as they were.
use mathlib.Core.Path.{◌≡◌}
use mathlib.Core.List.{map, ◌++◌}
use lib.ListN.{take, drop}
use Rattle.processes.specs.Processes.{or_nobody, due_of}
use Rattle.processes.proofs.due_in.Given as goal

abbrev pub invariant-loop-x : goal.invariant-loop-x
invariant-loop-x l = l.x-items ≡ map (or_nobody (due_of l.fn.t.processes)) (take l.x-index l.initial.x-items) ++ drop l.x-index l.initial.x-items
