-- `processes::ready_has` meets its contract: one who stands in the ready line has the priority.
use mathlib.Core.Path.{◌∙◌}
use Rattle.tables.specs.declared.Line.TheVariants.{Ready}
use Rattle.tables.specs.Lines.{line, standing}
use Rattle.processes.specs.Processes.{priority_of, ready_has}
use Rattle.processes.proofs.Laws.{any_has}
use Rattle.processes.proofs.ready_has.Goals as goal

pub returns : goal.returns
unfolding ready_has line
returns c =
    let ps = c.args.t.processes in
    c.any_ready.ensures ∙ any_has (standing Ready ps) (priority_of ps) c.args.priority c.args.t.order
