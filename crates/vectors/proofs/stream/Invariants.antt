-- Each request adds at most one wrong answer, so the sums fit.
use Rattle.std.proofs.Common.{◌≤◌}
use Rattle.vectors.proofs.stream.Given as goal

abbrev pub invariant-loop : goal.invariant-loop
invariant-loop g l = (l.wrong ≤ l.count) × (l.count ≤ l.counter)
