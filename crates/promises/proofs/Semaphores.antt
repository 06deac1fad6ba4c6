-- Demand 3 for semaphores: the turn, at most once, and the sum, over any list of requests put to a fresh state.
use Rattle.std.specs.Prelude.{ℕ, zero, suc, ◌+◌, ◌-◌, ◌≤◌, ◌≡◌, refl, true, cond, List, [], ◌∷◌, ◌++◌, eqb, get_or, replicate}
use Rattle.std.proofs.Common.{sym, ap, subst, ◌∙◌, true≢false, arith}
use Rattle.basics.specs.Tests.{test, holds, fails}
use Rattle.arrivals.specs.Order.{count, has, ahead}
use Rattle.arrivals.specs.Listed.{not_listed}
use Rattle.arrivals.specs.Views.{in_line, keep_none}
use Rattle.tables.specs.declared.Tables.{Tables}
use Rattle.tables.specs.declared.Process.{Process}
use Rattle.tables.specs.declared.Structure.{Structure}
use Rattle.tables.specs.declared.Kind.{Kind}
use Rattle.tables.specs.declared.Kind.TheVariants.{Free, Binary, Counting}
use Rattle.tables.specs.declared.Line.TheVariants.{Semaphore}
use Rattle.tables.specs.Access.{numbered, nobody, nothing, fresh, structure_of}
use Rattle.tables.specs.Lines.{line, stands, standing}
use Rattle.sound.specs.Sound.{ValueFits}
use Rattle.sound.specs.Sentences.{once_in_its_line}
use Rattle.promises.specs.KeptProcesses.{nowhere_stands}
use Rattle.promises.specs.Kept.{SoundTables, fresh_sound}
use Rattle.promises.specs.Run.{after_bytes, after_all, run, event, run_sound, over_events}
use Rattle.promises.specs.Turns.{answered, turns}
use Rattle.promises.specs.SemaphoreDeedsKept.{since, InTurn, turned, stands as stands_yet, none_asked, asked_at, starts_with, sum_at, Sums}
use Rattle.promises.proofs.SemaphoreDeedsKept.{turn_kept, all_turns, asked_kept, sum_kept}
use Rattle.promises.proofs.SemaphoreDeedsOf.{deed_of}
use Rattle.promises.specs.Semaphores.{asked_over, since_then, sum_over}

-- ---- a run goes on

-- The tables after one list and then another are those after both
after_both : (t : Tables) (a b : List (List ℕ)) → after_all t (a ++ b) ≡ after_all (after_all t a) b
unfolding after_all
after_both t [] b = refl
after_both t (q ∷ a) b = after_both (after_bytes t q) a b

-- so a run that goes on
pub run_on : (a b : List (List ℕ)) → run (a ++ b) ≡ after_all (run a) b
unfolding run
run_on a b = after_both fresh a b

-- ---- a fresh state

-- A list of one thing alone reads as it everywhere
alike : {A : Type 0} (k i : ℕ) (a : A) → get_or (replicate k a) i a ≡ a
alike zero i a = refl
alike (suc k) zero a = refl
alike (suc k) (suc i) a = alike k i a

-- The same by number
alike_numbered : {A : Type 0} (k n : ℕ) (a : A) → numbered (replicate k a) n a ≡ a
unfolding numbered
alike_numbered k n a = elim (test (eqb n 0)) [ holds z ↦ rw z | fails z ↦ rw z (alike k (n - 1) a) ]

-- ---- the turn

-- Who stands k-th in a semaphore's line has had its turn, or stands there, and its position and the single releases since add up to k
pub turn_or_stands : (n p k : ℕ) (before later : List (List ℕ)) → has p (line (Semaphore n) (run before)) ≡ true → suc (ahead p (line (Semaphore n) (run before))) ≡ k
    → InTurn p k (line (Semaphore n) (run (before ++ later))) (since_then n p before later)
unfolding after_bytes
turn_or_stands n p k before later there place =
    rw (run_on before later)
    (over_events (since n p) (λ t c. InTurn p k (line (Semaphore n) t) c) (λ t q c sound kept. turn_kept n p k (event t q) c (deed_of n t q sound) kept)
    (run before) later (record { single = 0; had = 0 }) (run_sound before) (stands_yet refl there (omega arith)))

-- "it has its turn at the latest with the k-th single release made there afterwards"
pub the_turn : (n p k : ℕ) (before later : List (List ℕ)) → has p (line (Semaphore n) (run before)) ≡ true → suc (ahead p (line (Semaphore n) (run before))) ≡ k
    → k ≤ (since_then n p before later).single → 1 ≤ (since_then n p before later).had
the_turn n p k before later there place enough =
    elim (turn_or_stands n p k before later there place) [ turned h ↦ h | stands_yet none yet sum ↦ absurd (omega arith) ]

-- "Signal all .. gives every one its turn": all who stood in the line, in their order, and nobody is left
pub all_have_their_turn : (n : ℕ) (before : List (List ℕ)) (q : List ℕ) → answered 15 n 0 (event (run before) q) ≡ true
    → (turns n (event (run before) q) ≡ line (Semaphore n) (run before)) × (line (Semaphore n) (after_bytes (run before) q) ≡ [])
all_have_their_turn n before q = all_turns n (event (run before) q) (deed_of n (run before) q (run_sound before))

-- ---- at most once

-- Nobody stands in a line of a fresh state
fresh_line : (n : ℕ) → line (Semaphore n) fresh ≡ []
unfolding line fresh
fresh_line n =
    keep_none (standing (Semaphore n) (replicate 32 nobody)) (replicate 32 0)
    (λ y h. ap (λ (q : Process). stands (Semaphore n) q.place) (alike_numbered 32 y nobody) ∙ nowhere_stands (Semaphore n))

-- Who stands in a line stands there once
stands_once : (n p : ℕ) (t : Tables) → SoundTables t → count p (line (Semaphore n) t) ≡ cond (has p (line (Semaphore n) t)) 1 0
unfolding line
stands_once n p t sound =
    elim (test (has p (line (Semaphore n) t))) [
      | fails h ↦ rw h (not_listed p (line (Semaphore n) t) h)
      | holds h ↦
          let there = (in_line (standing (Semaphore n) t.processes) p t.order h).0 in
          rw h (once_in_its_line sound.sound.settled (Semaphore n) p there
          (λ z. true≢false (sym there ∙ ap (stands (Semaphore n)) z ∙ nowhere_stands (Semaphore n))))
    ]

-- Asked is turns had, and 1 more while p stands in the line
pub asked_exactly : (n p : ℕ) (l : List (List ℕ))
    → (asked_over n p l).asked ≡ (asked_over n p l).had + cond (has p (line (Semaphore n) (run l))) 1 0
unfolding after_bytes run
asked_exactly n p l =
    over_events (asked_at n p) (λ t c. c.asked ≡ c.had + count p (line (Semaphore n) t)) (λ t q c sound kept. asked_kept n p (event t q) c (deed_of n t q sound) kept)
    fresh l none_asked fresh_sound (rw (fresh_line n) (omega arith))
    ∙ ap (λ (k : ℕ). (asked_over n p l).had + k) (stands_once n p (run l) (run_sound l))

-- "turns had <= turns asked"
pub at_most_once : (n p : ℕ) (l : List (List ℕ)) → (asked_over n p l).had ≤ (asked_over n p l).asked
at_most_once n p l = omega (arith, asked_exactly n p l)

-- ---- the sum

-- Every structure of a fresh state is free
fresh_kind : (n : ℕ) → (structure_of fresh n).kind ≡ Free
unfolding structure_of fresh
fresh_kind n = ap (λ (s : Structure). s.kind) (alike_numbered 24 n nothing)

-- The values of sound tables are in range
value_fits : (n : ℕ) (t : Tables) → SoundTables t → ValueFits (structure_of t n).kind
unfolding structure_of
value_fits n t sound = sound.sound.settled.values n

-- The sum of every kind of structure
sum_holds : (n : ℕ) (l : List (List ℕ)) → Sums (structure_of (run l) n).kind (sum_over n l)
unfolding after_bytes run
sum_holds n l =
    over_events (sum_at n) (λ t c. Sums (structure_of t n).kind c)
    (λ t q c sound kept. sum_kept n (event t q) c (value_fits n t sound) (deed_of n t q sound) kept)
    fresh l (starts_with 0) fresh_sound (rw (fresh_kind n) tt)

-- "starting count + releases = turns given + count now"
pub counting_sum : (n v : ℕ) (l : List (List ℕ)) → (structure_of (run l) n).kind ≡ Counting v
    → (sum_over n l).start + (sum_over n l).released ≡ (sum_over n l).given + v
counting_sum n v l is = subst (λ (k : Kind). Sums k (sum_over n l)) is (sum_holds n l)

-- the same with what is lost: a signal of a binary semaphore at 1
pub binary_sum : (n v : ℕ) (l : List (List ℕ)) → (structure_of (run l) n).kind ≡ Binary v
    → (sum_over n l).start + (sum_over n l).released ≡ (sum_over n l).given + v + (sum_over n l).missed
binary_sum n v l is = subst (λ (k : Kind). Sums k (sum_over n l)) is (sum_holds n l)
