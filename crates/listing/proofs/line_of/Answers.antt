-- `listing::line_of` meets its contract: six fields one behind the other, which by the ranges of their types have room. Assumes nothing.
use Rattle.std.proofs.Common.{◌∙◌, arith}
use Rattle.listing.specs.Listing.{line_of}
use Rattle.listing.specs.Buffer.{written_append, line_fits}
use Rattle.listing.proofs.line_of.Goals as goal

pub returns : goal.returns
unfolding line_of
returns c =
    c.push_field.ensures
    ∙ simp (← line_fits c.args.call c.args.reply (omega arith) (omega arith) (omega arith) (omega arith) (omega arith) (omega arith), written_append, c.push_field-l-5.ensures, c.push_field-l-4.ensures, c.push_field-l-3.ensures, c.push_field-l-2.ensures, c.push_field-l.ensures, c.empty.ensures, c.from.ensures, c.from-2.ensures, c.from-3.ensures, c.from-4.ensures, c.from-5.ensures)
