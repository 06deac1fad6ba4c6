-- `tables::head_of` meets its contract: the first of the order who stands in the line is its head. Assumes nothing.
use Rattle.std.proofs.Common.{sym, ◌∙◌}
use Rattle.tables.specs.Lines.{line}
use Rattle.tables.proofs.Laws.{head_found}
use Rattle.tables.proofs.head_of.Goals as goal

pub returns : goal.returns
unfolding line
returns c = c.first_in.ensures ∙ sym (head_found c.args.which c.args.t.now.processes c.args.t.now.order)
