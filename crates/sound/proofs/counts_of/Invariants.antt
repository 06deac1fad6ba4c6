use Rattle.std.proofs.Common.{◌≡◌, take}
use Rattle.sound.specs.Tested.{listings_of}
use Rattle.sound.proofs.counts_of.Given as goal

abbrev pub invariant-loop-x : goal.invariant-loop-x
invariant-loop-x l = l.counts ≡ listings_of (take l.x-index l.numbers)
