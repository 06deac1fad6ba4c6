-- The measure is the number.
use Rattle.listing.proofs.+push_decimal.Given as goal

abbrev pub decreases-push_decimal : goal.decreases-push_decimal
decreases-push_decimal l = l.x
