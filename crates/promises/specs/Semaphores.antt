-- What is counted of semaphores over any list of requests put to a fresh state.
use Rattle.std.specs.Prelude.{ℕ, List}
use Rattle.tables.specs.Access.{fresh}
use Rattle.promises.specs.Run.{run, events, counted}
use Rattle.promises.specs.SemaphoreDeedsKept.{Since, since, Asked, none_asked, asked_at, Sum, starts_with, sum_at}

-- The single releases at n and the turns of p there, over the requests of `later`, which are put after those of `before`
abbrev pub since_then : ℕ → ℕ → List (List ℕ) → List (List ℕ) → Since
since_then n p before later = counted (since n p) (record { single = 0; had = 0 }) (events (run before) later)

-- What p asked for and had at n over a run, since both live
abbrev pub asked_over : ℕ → ℕ → List (List ℕ) → Asked
asked_over n p l = counted (asked_at n p) none_asked (events fresh l)

-- What is counted of structure n over a run, since its creation
abbrev pub sum_over : ℕ → List (List ℕ) → Sum
sum_over n l = counted (sum_at n) (starts_with 0) (events fresh l)
