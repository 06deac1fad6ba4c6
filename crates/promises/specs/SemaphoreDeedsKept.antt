-- What is counted at a semaphore, request by request: the turn of one who stands in its line, what a process asked and had, and the sum.
use Rattle.std.specs.Prelude.{ℕ, suc, ◌+◌, ◌≤◌, ◌≡◌, true, List, length}
use Rattle.std.proofs.Math.Bool.{cond}
use Rattle.arrivals.specs.Order.{count, has, ahead}
use Rattle.tables.specs.declared.Kind.{Kind}
use Rattle.tables.specs.declared.Kind.TheVariants.{Free, Binary, Counting, Ring}
use Rattle.refusals.specs.Refusals.{either}
use Rattle.promises.specs.Run.{Event}
use Rattle.promises.specs.Turns.{turns, askers, single_releases, releases, lost, process_begins, structure_begins}

-- What is counted from some moment on: the single releases at n, and the turns that p has there
pub record Since : Type 0 where
  pub single : ℕ
  pub had : ℕ

-- Each request adds its part
unfoldable pub since : ℕ → ℕ → Since → Event → Since
since n p c e = record { single = c.single + single_releases n e; had = c.had + count p (turns n e) }

-- One who stood k-th: it has had its turn; or it stands there, and its position and the releases since add up to k
pub data InTurn (p k : ℕ) (line : List ℕ) (c : Since) : Type 0 where
  turned : 1 ≤ c.had → InTurn p k line c
  stands : c.had ≡ 0 → has p line ≡ true → suc (ahead p line) + c.single ≡ k → InTurn p k line c

-- What p asked for and had at n, since both live
pub record Asked : Type 0 where
  pub asked : ℕ
  pub had : ℕ

-- Nothing asked, nothing had
abbrev pub none_asked : Asked
none_asked = record { asked = 0; had = 0 }

-- Each request adds its part, and the count begins anew with either: "A process or structure lives from creation to deletion; a reused number is another one"
unfoldable pub asked_at : ℕ → ℕ → Asked → Event → Asked
asked_at n p c e =
    cond (either (process_begins p e) (structure_begins n e)) none_asked
    (record { asked = c.asked + count p (askers n e); had = c.had + count p (turns n e) })

-- What is counted of a structure since its creation: its starting count, the releases, the turns given, and the signals lost
pub record Sum : Type 0 where
  pub start : ℕ
  pub released : ℕ
  pub given : ℕ
  pub missed : ℕ

-- A structure that begins to live with this starting count
abbrev pub starts_with : ℕ → Sum
starts_with m = record { start = m; released = 0; given = 0; missed = 0 }

-- Each request adds its part, and the count begins anew with the structure
unfoldable pub sum_at : ℕ → Sum → Event → Sum
sum_at n c e =
    cond (structure_begins n e) (starts_with e.request.m)
    (record {
      start = c.start;
      released = c.released + releases n e;
      given = c.given + length (turns n e);
      missed = c.missed + lost n e;
    })

-- Starting count and releases are the turns given and the count now; of a binary semaphore with what is lost
abbrev pub Sums : Kind → Sum → Type 0
Sums Free c = Unit {0}
Sums (Binary v) c = c.start + c.released ≡ c.given + v + c.missed
Sums (Counting v) c = c.start + c.released ≡ c.given + v
Sums (Ring b) c = Unit {0}
