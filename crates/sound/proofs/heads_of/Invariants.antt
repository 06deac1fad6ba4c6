-- From the last back: the heads among those that have come.
use Rattle.std.proofs.Common.{◌≡◌, map, reverse}
use Rattle.sound.specs.Tested.{heads_of}
use Rattle.sound.proofs.heads_of.Given as goal

abbrev pub invariant-loop-x : goal.invariant-loop-x
invariant-loop-x l = record {
  getters : map (λ x. x.getter) l.heads ≡ heads_of 5 l.t.processes (reverse (map (λ x. x.now) l.yielded));
  putters : map (λ x. x.putter) l.heads ≡ heads_of 6 l.t.processes (reverse (map (λ x. x.now) l.yielded));
}
