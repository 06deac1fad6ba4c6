-- What is counted at a ring, request by request: the bytes put and the bytes got since creation or the last reset.
use Rattle.std.specs.Prelude.{ℕ, ◌≡◌, cond}
use mathlib.Core.List.{List, [], ◌++◌}
use Rattle.tables.specs.declared.Tables.{Tables}
use Rattle.promises.specs.Run.{Event}
use Rattle.promises.specs.Turns.{put, got, held}
use Rattle.promises.specs.RingDeeds.{starts_anew}

-- The bytes put, and the bytes got, since creation or the last reset, each in its order
pub record Transferred : Type 0 where
  pub put_since : List ℕ
  pub got_since : List ℕ

-- Nothing yet
abbrev pub nothing_yet : Transferred
nothing_yet = record { put_since = []; got_since = [] }

-- What a request adds: a creation, a deletion and a reset count anew, and what a reset serves moves after it
unfoldable pub transferred : ℕ → Transferred → Event → Transferred
transferred n c e =
    cond (starts_anew n e)
    (record { put_since = put n e; got_since = got n e })
    (record { put_since = c.put_since ++ put n e; got_since = c.got_since ++ got n e })

-- "Bytes put = bytes got ++ bytes held", in order
unfoldable pub Accounted : ℕ → Tables → Transferred → Type 0
Accounted n t c = c.put_since ≡ c.got_since ++ held n t
