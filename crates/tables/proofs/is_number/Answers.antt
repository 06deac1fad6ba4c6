-- `tables::is_number` meets its contract. Assumes nothing.
use Rattle.std.proofs.Common.{◌∙◌}
use Rattle.tables.proofs.Laws.{number_within}
use Rattle.tables.proofs.is_number.Goals as goal

pub returns : goal.returns
returns c =
    c.contains.ensures.value ∙ rw (c.new.ensures.start, c.new.ensures.end, c.new.ensures.exhausted) (number_within c.args.x)
