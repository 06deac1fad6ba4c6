-- What a request does at ring n, from what a reader sees of it: the bytes put, the bytes got, and the bytes held before and after.
use Rattle.std.specs.Prelude.{ℕ, ◌≡◌, Bool, true, false, [], ◌++◌}
use Rattle.refusals.specs.Refusals.{either}
use Rattle.promises.specs.Run.{Event}
use Rattle.promises.specs.Turns.{answered, structure_begins, put, got, is_reset, held}

-- Structure n's life ends: it is deleted
unfoldable pub structure_ends : ℕ → Event → Bool
structure_ends n e = answered 11 n 0 e

-- From this request on the bytes are counted anew: structure n is created, deleted or reset
unfoldable pub starts_anew : ℕ → Event → Bool
starts_anew n e = either (structure_begins n e) (either (structure_ends n e) (is_reset n e))

-- The deeds. Bytes leave in the order in which they came:
--   rests: nothing is put or got, and the held bytes are the same;
--   moves: the bytes held before, and behind them the bytes put, are the bytes got, and behind them the bytes held after;
--   resets: the held bytes are thrown away, then bytes move as if nothing had been held;
--   begins, ends: structure n is created or deleted; nothing is put or got, and nothing is held after
pub data RingDeed (n : ℕ) (e : Event) : Type 0 where
  rests : starts_anew n e ≡ false → put n e ≡ [] → got n e ≡ [] → held n e.after ≡ held n e.before → RingDeed n e
  moves : starts_anew n e ≡ false → held n e.before ++ put n e ≡ got n e ++ held n e.after → RingDeed n e
  resets : is_reset n e ≡ true → put n e ≡ got n e ++ held n e.after → RingDeed n e
  begins : structure_begins n e ≡ true → put n e ≡ [] → got n e ≡ [] → held n e.after ≡ [] → RingDeed n e
  ends : structure_ends n e ≡ true → put n e ≡ [] → got n e ≡ [] → held n e.after ≡ [] → RingDeed n e
