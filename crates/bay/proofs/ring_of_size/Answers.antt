-- `bay::ring_of_size` meets its contract: a ring that holds nothing is all zero.
use Rattle.bay.specs.Bay.{zeros, empty_bay}
use Rattle.bay.specs.Laws.{ring_of_nothing}
use Rattle.bay.proofs.ring_of_size.Goals as goal

pub returns : goal.returns
unfolding zeros empty_bay
returns c = rw c.empty_bay.ensures (ring_of_nothing 0 c.args.size)
