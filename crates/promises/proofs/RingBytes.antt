-- The promise of the rings, over any list of requests put to a fresh state.
use Rattle.std.specs.Prelude.{ℕ, ◌≡◌, List, ◌++◌}
use Rattle.promises.specs.Run.{run}
use Rattle.promises.specs.Turns.{held}
use Rattle.promises.specs.Rings.{Accounted}
use Rattle.promises.proofs.Rings.{accounted}
use Rattle.promises.proofs.RingDeedsOf.{ring_deed_of}
use Rattle.promises.specs.RingBytes.{moved_at}

-- The bytes put since creation or the last reset are the bytes got since then, and behind them the bytes held, in order
pub ring_bytes : (n : ℕ) (l : List (List ℕ)) → (moved_at n l).put_since ≡ (moved_at n l).got_since ++ held n (run l)
unfolding moved_at Accounted
ring_bytes n l = accounted n (ring_deed_of n) l
