-- What is counted of a ring over any list of requests put to a fresh state.
use Rattle.std.specs.Prelude.{ℕ, List}
use Rattle.tables.specs.Access.{fresh}
use Rattle.promises.specs.Run.{events, counted}
use Rattle.promises.specs.Rings.{Transferred, nothing_yet, transferred}

-- What was put into ring n, and what was got out of it, since it was created or reset last
unfoldable pub moved_at : ℕ → List (List ℕ) → Transferred
moved_at n l = counted (transferred n) nothing_yet (events fresh l)
