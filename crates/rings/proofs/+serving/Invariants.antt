-- The number of processes left in the two lines falls with each service: twice that number, and 1 more for `serve_getter`, which
-- calls `serve_putter` with the lines as they are.
use Rattle.std.specs.Prelude.{◌+◌, ◌*◌, length}
use Rattle.rings.proofs.+serving.Given as goal

abbrev pub decreases-serve_getter : goal.decreases-serve_getter
decreases-serve_getter l = 2 * (length l.turns.now.getters.now + length l.turns.now.putters.now) + 1

abbrev pub decreases-serve_putter : goal.decreases-serve_putter
decreases-serve_putter l = 2 * (length l.turns.now.getters.now + length l.turns.now.putters.now)
