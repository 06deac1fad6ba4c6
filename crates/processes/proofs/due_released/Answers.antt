-- `processes::due_released` meets its contract: releasing nobody changes nothing, so only those who are due are released.
use mathlib.Core.Path.{◌∙◌}
use Rattle.processes.specs.Processes.{due_of, due, due_released}
use Rattle.processes.proofs.Laws.{those_released}
use Rattle.processes.proofs.due_released.Goals as goal

pub returns : goal.returns
unfolding due_released due
returns c =
    let t = c.args.t in
    c.released_all.ensures ∙ rw c.due_in.ensures (those_released (due_of t.processes) t.order t)
