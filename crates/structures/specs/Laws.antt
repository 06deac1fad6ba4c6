-- What the lowest free number and the lowest free bay are.
use Rattle.std.specs.Prelude.{ℕ, zero, suc, ◌+◌, ◌≤◌, ◌<◌, ◌≡◌, refl, Bool, true, false, not, List, eqb}
use Rattle.std.proofs.Common.{arith, eqb-true}
use Rattle.std.proofs.lemmas.Bool.{eqb-false, not-true, not-false}
use Rattle.basics.specs.Tests.{test, holds, fails}
use Rattle.tables.specs.declared.Structure.{Structure}
use Rattle.structures.specs.Structures.{lowest_from, free, taken, free_number, free_bay}

-- It passes the test, and is one of the m numbers from n on
pub lowest_found : (f : ℕ → Bool) (n m : ℕ) → (lowest_from f n m ≡ 0 → ⊥)
    → (f (lowest_from f n m) ≡ true) × (n ≤ lowest_from f n m) × (lowest_from f n m < n + m)
unfolding lowest_from
lowest_found f n zero h = absurd (h refl)
lowest_found f n (suc m) h =
    elim (test (f n)) [
      | holds e ↦ rw e (e, omega arith, omega arith)
      | fails e ↦ let w = lowest_found f (suc n) m (rw e at h) in rw e (w.0, omega arith, omega arith)
    ]

-- None below it passes, and none at all where it is 0
pub lowest_least : (f : ℕ → Bool) (n m y : ℕ) → n ≤ y → y < lowest_from f n m → f y ≡ false
unfolding lowest_from
lowest_least f n zero y a b = absurd (omega arith)
lowest_least f n (suc m) y a b =
    elim (test (f n)) [
      | holds e ↦ absurd (omega (arith, rw e at b))
      | fails e ↦
          elim (test (eqb n y)) [
            | holds s ↦ rw (← eqb-true n y s) e
            | fails s ↦ lowest_least f (suc n) m y (omega (arith, eqb-false n y s)) (rw e at b)
          ]
    ]

pub lowest_none : (f : ℕ → Bool) (n m y : ℕ) → 0 < n → lowest_from f n m ≡ 0 → n ≤ y → y < n + m → f y ≡ false
unfolding lowest_from
lowest_none f n zero y some h a b = absurd (omega arith)
lowest_none f n (suc m) y some h a b =
    elim (test (f n)) [
      | holds e ↦ absurd (omega (arith, rw e at h))
      | fails e ↦
          elim (test (eqb n y)) [
            | holds s ↦ rw (← eqb-true n y s) e
            | fails s ↦ lowest_none f (suc n) m y (omega arith) (rw e at h) (omega (arith, eqb-false n y s)) (omega arith)
          ]
    ]

-- Creation's number is free, 1 to 24, and every lower one is live; where it is 0 all are live
pub number_free : (l : List Structure) → (free_number l ≡ 0 → ⊥) → (free l (free_number l) ≡ true) × (1 ≤ free_number l) × (free_number l < 25)
unfolding free_number
number_free l h = lowest_found (free l) 1 24 h

pub number_lowest : (l : List Structure) (y : ℕ) → 1 ≤ y → y < free_number l → free l y ≡ false
unfolding free_number
number_lowest l y a b = lowest_least (free l) 1 24 y a b

pub number_none : (l : List Structure) (y : ℕ) → free_number l ≡ 0 → 1 ≤ y → y < 25 → free l y ≡ false
unfolding free_number
number_none l y h a b = lowest_none (free l) 1 24 y (omega arith) h a b

-- A new ring's bay is taken by no structure, 1 to 8, and every lower one is taken; where it is 0 all are taken
pub bay_free : (l : List Structure) → (free_bay l ≡ 0 → ⊥) → (taken l (free_bay l) ≡ false) × (1 ≤ free_bay l) × (free_bay l < 9)
unfolding free_bay
bay_free l h = let w = lowest_found (λ b. not (taken l b)) 1 8 h in (not-true _ w.0, w.1, w.2)

pub bay_lowest : (l : List Structure) (y : ℕ) → 1 ≤ y → y < free_bay l → taken l y ≡ true
unfolding free_bay
bay_lowest l y a b = not-false _ (lowest_least (λ x. not (taken l x)) 1 8 y a b)

pub bay_none : (l : List Structure) (y : ℕ) → free_bay l ≡ 0 → 1 ≤ y → y < 9 → taken l y ≡ true
unfolding free_bay
bay_none l y h a b = not-false _ (lowest_none (λ x. not (taken l x)) 1 8 y (omega arith) h a b)
