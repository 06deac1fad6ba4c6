-- `tables::stands_in` meets its contract: two lines are equal as the definition says it. Assumes nothing.
use Rattle.std.proofs.Common.{sym, ◌∙◌}
use Rattle.tables.proofs.Laws.{line_stands}
use Rattle.tables.proofs.stands_in.Goals as goal

pub returns-then-is_number : goal.returns-then-is_number
returns-then-is_number c = rw (sym c.is_number.ensures ∙ c.if-is_number.true, c.eq.ensures, c.line_at.ensures) (line_stands c.args.which c.args.place)
