-- The lines so far lie in the room.
use Rattle.std.proofs.Common.{◌≤◌, length}
use Rattle.panel.proofs.play.Given as goal

abbrev pub invariant-loop-request : goal.invariant-loop-request
invariant-loop-request l = l.end ≤ length l.room
