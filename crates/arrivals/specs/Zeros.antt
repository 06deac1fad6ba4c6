-- The zeros of an arrival order stand first, and stay first; and where a number is missing there is a zero. Assumes nothing.
use Rattle.std.specs.Prelude.{◌≡◌, refl, ℕ, zero, suc, ◌+◌, ◌≤◌, ◌<◌, true, false, not, List, [], ◌∷◌, ◌++◌, length, eqb}
use Rattle.std.proofs.Common.{ap, ◌∙◌, arith, eqb-true, eq-eqb, ne_eqb}
use Rattle.std.proofs.lemmas.Bool.{eqb-false, not-true}
use Rattle.arrivals.specs.Order.{count, has, first, keep, without, joined, moved_last, deleted, zeros_first}
use Rattle.basics.specs.Tests.{holds, fails, test}
use Rattle.arrivals.specs.Listed.{absent, without_here, without_behind, not_listed, is_listed, is_not_listed, count_append, one_same, has_without}
use Rattle.arrivals.specs.Views.{count_keep, count_keep_le}

-- ---- the zeros stand first

-- where no zero is listed, none stands behind a number
pub no_zeros : (l : List ℕ) → has 0 l ≡ false → zeros_first l ≡ true
unfolding zeros_first
no_zeros [] h = refl
no_zeros (a ∷ l) h = elim (test (eqb a 0)) [ holds q ↦ cc | fails q ↦ simp (q, rw q at h) ]

-- the rest of an order, once its first is gone, has its zeros first
pub zeros_behind : (a : ℕ) (l : List ℕ) → zeros_first (a ∷ l) ≡ true → zeros_first l ≡ true
unfolding zeros_first
zeros_behind a l h =
    elim (test (eqb a 0)) [ holds q ↦ rw q at h | fails q ↦ no_zeros l (not-true (has 0 l) (rw q at h)) ]

-- a zero that is listed stands first
pub zero_first : (l : List ℕ) → zeros_first l ≡ true → has 0 l ≡ true → first l ≡ 0
unfolding zeros_first
zero_first [] z h = refl
zero_first (a ∷ l) z h = elim (test (eqb a 0)) [ holds q ↦ eqb-true a 0 q | fails q ↦ cc ]

-- one that is not zero may stand last
zeros_last : (x : ℕ) (l : List ℕ) → zeros_first l ≡ true → (x ≡ 0 → ⊥) → zeros_first (l ++ (x ∷ [])) ≡ true
unfolding zeros_first
zeros_last x [] z n = simp (ne_eqb x 0 n)
zeros_last x (a ∷ l) z n =
    elim (test (eqb a 0)) [
      | holds q ↦ rw q (zeros_last x l (rw q at z) n)
      | fails q ↦ rw (q, none (not_listed 0 l (not-true (has 0 l) (rw q at z))))
    ]
  where
    none : count 0 l ≡ 0 → has 0 (l ++ (x ∷ [])) ≡ false
    none h = is_not_listed 0 (l ++ (x ∷ [])) (rw (count_append, ne_eqb x 0 n) (omega arith))

-- anyone may go
zeros_without : (x : ℕ) (l : List ℕ) → zeros_first l ≡ true → zeros_first (without x l) ≡ true
unfolding zeros_first
zeros_without x [] z = rw (absent x [] refl)
zeros_without x (a ∷ l) z =
    elim (test (eqb a x)) [
      | holds e ↦ rw (without_here x a l e) (zeros_behind a l z)
      | fails e ↦ rw (without_behind x a l e) (elim (test (eqb a 0)) [
        | holds q ↦ rw q (zeros_without x l (rw q at z))
        | fails q ↦ rw (q, has_without 0 x l (not-true (has 0 l) (rw q at z)))
      ])
    ]

-- each change keeps the zeros first
pub zeros_moved : (x : ℕ) (l : List ℕ) → zeros_first l ≡ true → (x ≡ 0 → ⊥) → zeros_first (moved_last x l) ≡ true
unfolding moved_last
zeros_moved x l z n =
    elim (test (has x l)) [ holds h ↦ rw h (zeros_last x (without x l) (zeros_without x l z) n) | fails h ↦ rw h z ]

pub zeros_deleted : (x : ℕ) (l : List ℕ) → zeros_first l ≡ true → zeros_first (deleted x l) ≡ true
unfolding deleted zeros_first
zeros_deleted x l z = elim (test (has x l)) [ holds h ↦ rw h (zeros_without x l z) | fails h ↦ rw h z ]

pub zeros_joined : (x : ℕ) (l : List ℕ) → zeros_first l ≡ true → (x ≡ 0 → ⊥) → zeros_first (joined x l) ≡ true
unfolding joined
zeros_joined x [] z n = zeros_last x [] z n
zeros_joined x (a ∷ l) z n = zeros_last x l (zeros_behind a l z) n

-- ---- room: where a number from 1 to n is missing among n places, one of them is a zero

-- those that are not p
others : ℕ → List ℕ → List ℕ
others p l = keep (λ y. not (eqb y p)) l

others_length : (p : ℕ) (l : List ℕ) → length l ≡ count p l + length (others p l)
unfolding others
others_length p [] = refl
others_length p (a ∷ l) =
    elim (test (eqb a p)) [
      | holds q ↦ rw q (omega (arith, others_length p l))
      | fails q ↦ rw q (omega (arith, others_length p l))
    ]

others_less : (y p : ℕ) (l : List ℕ) → count y (others p l) ≤ count y l
unfolding others
others_less y p l = count_keep_le (λ z. not (eqb z p)) y l

others_none : (p : ℕ) (l : List ℕ) → count p (others p l) ≡ 0
unfolding others
others_none p l = count_keep (λ z. not (eqb z p)) p l ∙ rw (eq-eqb p p refl)

-- where no number is listed there is no place
nothing : (l : List ℕ) → ((p : ℕ) → count p l ≡ 0) → length l ≡ 0
nothing [] h = refl
nothing (a ∷ l) h = absurd (omega (arith, one_same a, h a))

-- an order of numbers up to n + 1, each at most once, is one of numbers up to n where n + 1 is left out
module _ (n : ℕ) (l : List ℕ) (above : (p : ℕ) → suc n < p → count p l ≡ 0) (once : (p : ℕ) → 0 < p → count p l ≤ 1) where
  above_others : (p : ℕ) → n < p → count p (others (suc n) l) ≡ 0
  above_others p h =
      elim (test (eqb p (suc n))) [
        | holds q ↦ rw (eqb-true p (suc n) q) (others_none (suc n) l)
        | fails q ↦ omega (arith, others_less p (suc n) l, above p (omega (arith, eqb-false p (suc n) q)))
      ]

  once_others : (p : ℕ) → 0 < p → count p (others (suc n) l) ≤ 1
  once_others p h = omega (arith, once p h, others_less p (suc n) l)

-- but for its zeros it has at most n places
at_most : (n : ℕ) (l : List ℕ) → ((p : ℕ) → n < p → count p l ≡ 0) → ((p : ℕ) → 0 < p → count p l ≤ 1) → length l ≤ count 0 l + n
at_most zero l above once = omega (arith, others_length 0 l, nothing (others 0 l) none)
  where
    none : (p : ℕ) → count p (others 0 l) ≡ 0
    none zero = others_none 0 l
    none (suc p) = omega (arith, others_less (suc p) 0 l, above (suc p) (omega arith))
at_most (suc n) l above once =
    omega (
      arith,
      others_length (suc n) l,
      once (suc n) (omega arith),
      others_less 0 (suc n) l,
      at_most n (others (suc n) l) (above_others n l above once) (once_others n l above once),
    )

-- and fewer where a number q from 1 to n is not listed
fewer : (n : ℕ) (l : List ℕ) → ((p : ℕ) → n < p → count p l ≡ 0) → ((p : ℕ) → 0 < p → count p l ≤ 1)
    → (q : ℕ) → 0 < q → q ≤ n → count q l ≡ 0 → length l < count 0 l + n
fewer zero l above once q some within missing = absurd (omega arith)
fewer (suc n) l above once q some within missing =
    elim (test (eqb q (suc n))) [
      | holds e ↦ omega (
        arith,
        others_length (suc n) l,
        ap (λ (z : ℕ). count z l) (eqb-true q (suc n) e),
        others_less 0 (suc n) l,
        at_most n (others (suc n) l) (above_others n l above once) (once_others n l above once),
      )
      | fails e ↦ omega (
        arith,
        others_length (suc n) l,
        once (suc n) (omega arith),
        others_less 0 (suc n) l,
        fewer n (others (suc n) l) (above_others n l above once) (once_others n l above once)
            q some (omega (arith, eqb-false q (suc n) e)) (omega (arith, others_less q (suc n) l)),
      )
    ]

module _ (n : ℕ) (l : List ℕ) (places : length l ≡ n) (above : (p : ℕ) → n < p → count p l ≡ 0) (once : (p : ℕ) → 0 < p → count p l ≤ 1)
    (q : ℕ) (some : 0 < q) (within : q ≤ n) (missing : count q l ≡ 0) where
  -- an order of n places, of numbers up to n, each listed at most once but for 0, in which q is not listed, has a zero
  pub room : has 0 l ≡ true
  room = is_listed 0 l (omega (arith, fewer n l above once q some within missing))

  -- and it stands first: the oldest place is free for a newcomer
  pub room_first : zeros_first l ≡ true → first l ≡ 0
  room_first zeros = zero_first l zeros room
