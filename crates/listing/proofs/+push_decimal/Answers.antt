-- `listing::push_decimal` meets its contract: below ten one digit, else the digits of the tenth part and one more.
use Rattle.std.proofs.Common.{arith}
use Rattle.listing.specs.Buffer.{written, written_append}
use Rattle.listing.specs.Laws.{decimal_one, decimal_more}
use Rattle.listing.proofs.+push_decimal.Goals as goal

pub returns-then-x-lt10 : goal.returns-then-x-lt10
unfolding written
returns-then-x-lt10 t c = rw (decimal_one c.args.x (omega arith)) c.push.ensures

pub returns : goal.returns
unfolding written
returns t c = rw (decimal_more c.args.x (omega arith), written_append, ← c.push_decimal.ensures) c.push-2.ensures
