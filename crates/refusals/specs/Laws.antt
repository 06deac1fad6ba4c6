-- Which refusal is given, over any list of codes: the number given applies, none before it does, and 0 is given exactly when none does.
use Rattle.std.specs.Prelude.{ℕ, zero, suc, ◌<◌, ◌≤◌, ◌≡◌, refl, Bool, true, false, cond, not, List, [], ◌∷◌, ◌++◌, eqb, ltb, get_or}
use Rattle.std.proofs.Common.{subst, sym, ◌∙◌, true≢false, arith, eq-eqb, ne_eqb, eqb-true, ltb-true}
use Rattle.basics.specs.Tests.{test, holds, fails}
use Rattle.arrivals.specs.Order.{has, ahead}
use Rattle.arrivals.specs.Listed.{has_behind}
use Rattle.tables.specs.declared.Tables.{Tables}
use Rattle.tables.specs.declared.Kind.{Kind}
use Rattle.tables.specs.Access.{structure_of}
use Rattle.tables.specs.Numbers.{is_live}
use Rattle.records.specs.declared.Record.{Record}
use Rattle.calls.specs.declared.Row.{Row}
use Rattle.calls.specs.declared.Number.{Number}
use Rattle.calls.specs.declared.Number.TheVariants as number
use Rattle.calls.specs.Calls.{unknown, is_unknown, row_of}
use Rattle.calls.specs.Laws.{unknown_numbers}
use Rattle.refusals.specs.Refusals.{unknown_call, both, either, some, named, of_named, wrong_for, dead_structure, wrong_kind, all_above, rising, first_that, early, late, codes, applies_to, applies, refusal}

-- A list without 0 has none in front and none behind
no_zero : (k : ℕ) (l : List ℕ) → has 0 (k ∷ l) ≡ false → k ≡ 0 → ⊥
no_zero k l z e = true≢false (rw (eq-eqb k 0 e) at z)

zero_behind : (k : ℕ) (l : List ℕ) → has 0 (k ∷ l) ≡ false → has 0 l ≡ false
zero_behind k l z = elim (test (eqb k 0)) [ holds q ↦ absurd (true≢false (rw q at z)) | fails q ↦ rw q at z ]

-- The number given applies
pub given_applies : (f : ℕ → Bool) (l : List ℕ) → (first_that f l ≡ 0 → ⊥) → f (first_that f l) ≡ true
given_applies f [] h = absurd (h refl)
given_applies f (k ∷ l) h = elim (test (f k)) [ holds e ↦ rw e e | fails e ↦ rw e (given_applies f l (λ z. h (rw e z))) ]

-- Nobody stands before the first
itself : (k : ℕ) (l : List ℕ) (i : ℕ) → i < ahead k (k ∷ l) → ⊥
itself k l i g = let z : i < 0 = rw (eq-eqb k k refl) at g in omega arith

-- No code that stands before it does
pub none_before : (f : ℕ → Bool) (l : List ℕ) (i : ℕ) → i < ahead (first_that f l) l → f (get_or l i 0) ≡ false
none_before f [] i h = absurd (omega arith)
none_before f (k ∷ l) zero h =
    elim (test (f k)) [
      | holds e ↦ (let s : first_that f (k ∷ l) ≡ k = rw e in absurd (itself k l 0 (subst (λ x. 0 < ahead x (k ∷ l)) s h)))
      | fails e ↦ e
    ]
none_before f (k ∷ l) (suc i) h =
    elim (test (f k)) [
      | holds e ↦ (let s : first_that f (k ∷ l) ≡ k = rw e in absurd (itself k l (suc i) (subst (λ x. suc i < ahead x (k ∷ l)) s h)))
      | fails e ↦
          let s : first_that f (k ∷ l) ≡ first_that f l = rw e in
          let g : suc i < ahead (first_that f l) (k ∷ l) = subst (λ x. suc i < ahead x (k ∷ l)) s h in
          elim (test (eqb k (first_that f l))) [
            | holds q ↦ (let z : suc i < 0 = rw q at g in absurd (omega arith))
            | fails q ↦ none_before f l i (let z : suc i < suc (ahead (first_that f l) l) = rw q at g in omega arith)
          ]
    ]

-- 0 is given exactly when none applies (0 itself is no code)
pub none_given : (f : ℕ → Bool) (l : List ℕ) → ((k : ℕ) → has k l ≡ true → f k ≡ false) → first_that f l ≡ 0
none_given f [] h = refl
none_given f (k ∷ l) h =
    rw (h k (rw (eq-eqb k k refl))) (none_given f l (λ j g. h j (has_behind k j l g)))

pub none_applies : (f : ℕ → Bool) (l : List ℕ) → has 0 l ≡ false → first_that f l ≡ 0 → (k : ℕ) → has k l ≡ true → f k ≡ false
none_applies f [] z e k h = absurd (true≢false (sym h))
none_applies f (a ∷ l) z e k h =
    elim (test (f a)) [
      | holds q ↦ absurd (no_zero a l z (rw q at e))
      | fails q ↦
          elim (test (eqb a k)) [
            | holds s ↦ rw (← eqb-true a k s) q
            | fails s ↦ none_applies f l (zero_behind a l z) (rw q at e) k (rw s at h)
          ]
    ]

-- A list after another is asked only where the first gives none
pub first_append : (f : ℕ → Bool) (a b : List ℕ) → has 0 a ≡ false → first_that f (a ++ b) ≡ cond (eqb (first_that f a) 0) (first_that f b) (first_that f a)
first_append f [] b z = refl
first_append f (k ∷ a) b z =
    elim (test (f k)) [
      | holds e ↦ rw (e, ne_eqb k 0 (no_zero k a z))
      | fails e ↦ rw e (first_append f a b (zero_behind k a z))
    ]

both_left : (a b : Bool) → both a b ≡ true → a ≡ true
both_left true b e = refl
both_left false b e = e

both_right : (a b : Bool) → both a b ≡ true → b ≡ true
both_right true b e = e
both_right false b e = absurd (true≢false (sym e))

above_all : (a : ℕ) (l : List ℕ) (k : ℕ) → all_above a l ≡ true → has k l ≡ true → a < k
above_all a [] k u h = absurd (true≢false (sym h))
above_all a (j ∷ l) k u h =
    elim (test (eqb j k)) [
      | holds s ↦ omega (arith, eqb-true j k s, ltb-true a j (both_left (ltb a j) (all_above a l) u))
      | fails s ↦ above_all a l k (both_right (ltb a j) (all_above a l) u) (rw s at h)
    ]

-- In a rising list the number given is the lowest that applies
pub lowest : (f : ℕ → Bool) (l : List ℕ) → rising l ≡ true → (k : ℕ) → has k l ≡ true → f k ≡ true → first_that f l ≤ k
lowest f [] up k h g = absurd (true≢false (sym h))
lowest f (a ∷ l) up k h g =
    elim (test (f a)) [
      | holds e ↦
          elim (test (eqb a k)) [
            | holds s ↦ rw e (omega (arith, eqb-true a k s))
            | fails s ↦ rw e (omega (arith, above_all a l k (both_left (all_above a l) (rising l) up) (rw s at h)))
          ]
      | fails e ↦
          elim (test (eqb a k)) [
            | holds s ↦ absurd (true≢false (sym (rw (← eqb-true a k s, e) at g)))
            | fails s ↦ rw e (lowest f l (both_right (all_above a l) (rising l) up) k (rw s at h) g)
          ]
    ]

-- Of the refusals of document 01: the one given is the lowest number that applies
pub lowest_refusal : (t : Tables) (r : Record) (k : ℕ) → has k codes ≡ true → applies k t r ≡ true → refusal t r ≤ k
unfolding refusal
lowest_refusal t r k h a = lowest (λ j. applies j t r) codes refl k h a

-- ---- the structures named

alone : (b : Bool) → either b false ≡ b
alone true = refl
alone false = refl

-- Of the list of the structures named, which has at most one
pub some_named : (f : ℕ → Bool) (u : Number) (n : ℕ) → some f (named u n) ≡ of_named u (f n)
unfolding named
some_named f number.Unused n = refl
some_named f number.Process n = refl
some_named f number.Structure n = alone (f n)
some_named f number.Semaphore n = alone (f n)
some_named f number.Ring n = alone (f n)

pub dead_named : (row : Row) (r : Record) (t : Tables) → dead_structure row r t ≡ of_named row.n (not (is_live (structure_of t r.n).kind))
unfolding dead_structure
dead_named row r t = some_named (λ n. not (is_live (structure_of t n).kind)) row.n r.n

only_named : (u : Number) (kind : Kind) → of_named u (wrong_for u kind) ≡ wrong_for u kind
only_named number.Unused kind = refl
only_named number.Process kind = refl
only_named number.Structure kind = refl
only_named number.Semaphore kind = refl
only_named number.Ring kind = refl

pub wrong_named : (row : Row) (r : Record) (t : Tables) → wrong_kind row r t ≡ wrong_for row.n (structure_of t r.n).kind
unfolding wrong_kind
wrong_named row r t = some_named (λ n. wrong_for row.n (structure_of t n).kind) row.n r.n ∙ only_named row.n (structure_of t r.n).kind

-- ---- the refusal, in the three parts in which it is found

-- 47 to 53 do not look at the row
pub late_by_number : (row : Row) (call : ℕ) (t : Tables) (r : Record) → first_that (applies_to row call t r) late ≡ first_that (applies_to unknown call t r) late
unfolding applies_to
late_by_number row call t r = refl

call_41 : (t : Tables) (r : Record) → applies_to (row_of r.what) r.what t r 41 ≡ is_unknown (row_of r.what)
unfolding applies_to unknown_call
call_41 t r = sym (unknown_numbers r.what)

pub refusal_parts : (t : Tables) (r : Record) → refusal t r ≡ cond (is_unknown (row_of r.what)) 41 (cond (eqb (first_that (applies_to (row_of r.what) r.what t r) early) 0) (first_that (applies_to (row_of r.what) r.what t r) late) (first_that (applies_to (row_of r.what) r.what t r) early))
unfolding refusal applies
refusal_parts t r = rw (← first_append (applies_to (row_of r.what) r.what t r) early late refl, ← call_41 t r)
