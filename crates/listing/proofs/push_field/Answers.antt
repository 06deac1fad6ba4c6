-- `listing::push_field` meets its contract: the digits, then one byte more.
use Rattle.listing.specs.Listing.{field}
use Rattle.listing.specs.Buffer.{written, written_append}
use Rattle.listing.proofs.push_field.Goals as goal

pub returns : goal.returns
unfolding field written
returns c = rw (written_append, ← c.push_decimal.ensures) c.push.ensures
