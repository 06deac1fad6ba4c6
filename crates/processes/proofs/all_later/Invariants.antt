-- `processes::all_later` meets its contract: the first ones are later, the rest as they were.
use mathlib.Core.Path.{◌≡◌}
use mathlib.Core.List.{map, ◌++◌}
use lib.ListN.{take, drop}
use Rattle.processes.specs.Processes.{later}
use Rattle.processes.proofs.all_later.Given as goal

abbrev pub invariant-loop-process : goal.invariant-loop-process
invariant-loop-process l = l.process-items ≡ map (later l.k) (take l.process-index l.initial.process-items) ++ drop l.process-index l.initial.process-items
