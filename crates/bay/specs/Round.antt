-- A circle of `size` bytes: where a count lies once it goes round the end, how far a byte lies behind the start, and which bytes lie in a stretch.
use Rattle.std.specs.Prelude.{◌≡◌, refl, Bool, true, false, cond, ◌⊎◌, List, [], ◌∷◌, ℕ, zero, suc, ◌+◌, ◌-◌, ◌≤◌, ◌<◌, ◌%◌, length, get_or, set, leb, ltb, eqb}
use Rattle.std.proofs.Common.{ap, sym, ◌∙◌, inl, inr, ⊎_elim, arith, mod-eq_of_lt, le_of_suc-le-suc, not-suc-le-zero, length-set, ext_get_or, get_or-set_same, get_or-set_other}
use Rattle.std.proofs.Math.Nat.{mod-eq-sub-mod}
use borrow.Author.Tests.{ltb-true, ltb-false, leb-true, leb-false, eqb-true, eqb-false}
use Rattle.basics.specs.Tests.{test, holds, fails}

-- ---- the list of n numbers that f gives

-- f 0, f 1 and so on, n of them
unfoldable pub table : ℕ → (ℕ → ℕ) → List ℕ
table zero f = []
table (suc n) f = f 0 ∷ table n (λ i. f (suc i))

-- how long it is, and what stands in it
pub length_table : (n : ℕ) (f : ℕ → ℕ) → length (table n f) ≡ n
unfolding table
length_table zero f = refl
length_table (suc n) f = ap suc (length_table n (λ i. f (suc i)))

pub get_d_table : (n : ℕ) (f : ℕ → ℕ) (i : ℕ) → i < n → get_or (table n f) i 0 ≡ f i
unfolding table
get_d_table zero f i h = absurd (not-suc-le-zero h)
get_d_table (suc n) f zero h = refl
get_d_table (suc n) f (suc i) h = get_d_table n (λ j. f (suc j)) i (le_of_suc-le-suc h)

-- a list of n numbers, each the one that f gives, is the table
pub tabled : (n : ℕ) (f : ℕ → ℕ) (l : List ℕ) → length l ≡ n → ((i : ℕ) → i < n → get_or l i 0 ≡ f i) → l ≡ table n f
tabled n f l e h = ext_get_or 0 l (table n f) (e ∙ sym (length_table n f)) (λ i y. h i (omega arith) ∙ sym (get_d_table n f i (omega arith)))

-- a store makes the table of another function, which differs at that index alone
pub set_table : (n : ℕ) (f g : ℕ → ℕ) (i v : ℕ) → i < n → g i ≡ v → ((k : ℕ) → (k ≡ i → ⊥) → f k ≡ g k) → set (table n f) i v ≡ table n g
set_table n f g i v h e other =
    tabled n g (set (table n f) i v) (length-set (table n f) i v ∙ length_table n f)
    (λ k y. elim (test (eqb k i)) [
      | holds t ↦ rw (eqb-true k i t) (get_or-set_same (table n f) i v 0 (rw length_table h) ∙ sym e)
      | fails t ↦ get_or-set_other (table n f) i k v 0 (eqb-false k i t) ∙ get_d_table n f k y ∙ other k (eqb-false k i t)
    ])

-- ---- going round

-- where the count k from the bay's first byte lies: it goes round at the size, once
unfoldable pub going_round : ℕ → ℕ → ℕ
going_round size k = cond (ltb k size) k (k - size)

-- how far the byte at k lies behind the start, round the end
unfoldable pub behind : ℕ → ℕ → ℕ → ℕ
behind start size k = cond (leb start k) (k - start) (k + size - start)

-- whether the byte at k lies in the circle, at least a and less than e behind the start
unfoldable pub lies : ℕ → ℕ → ℕ → ℕ → ℕ → Bool
lies start size a e k = cond (ltb k size) (cond (leb a (behind start size k)) (ltb (behind start size k) e) false) false

-- the two cases of each
pub round_cases : (size k : ℕ) → ((k < size) × (going_round size k ≡ k)) ⊎ ((size ≤ k) × (going_round size k ≡ k - size))
unfolding going_round
round_cases size k = elim (test (ltb k size)) [ holds e ↦ inl (ltb-true k size e, rw e) | fails e ↦ inr (ltb-false k size e, rw e) ]

pub behind_cases : (start size k : ℕ) → ((start ≤ k) × (behind start size k ≡ k - start)) ⊎ ((k < start) × (behind start size k ≡ k + size - start))
unfolding behind
behind_cases start size k = elim (test (leb start k)) [ holds e ↦ inl (leb-true start k e, rw e) | fails e ↦ inr (leb-false start k e, rw e) ]

-- ---- a stretch: a byte lies inside it or not, and the test says which

module _ (start size a e k : ℕ) where
  -- either, with the test's answer
  pub data Stretch : Type 0 where
    inside : k < size → a ≤ behind start size k → behind start size k < e → lies start size a e k ≡ true → Stretch
    outside : (k < size → a ≤ behind start size k → behind start size k < e → ⊥) → lies start size a e k ≡ false → Stretch

  -- each byte is one of the two
  pub stretch : Stretch
  unfolding lies
  stretch =
      elim (test (ltb k size)) [
        | fails u ↦ outside (λ x y z. omega (arith, ltb-false k size u)) (rw u)
        | holds u ↦ elim (test (leb a (behind start size k))) [
          | fails v ↦ outside (λ x y z. omega (arith, leb-false a (behind start size k) v)) (rw (u, v))
          | holds v ↦ elim (test (ltb (behind start size k) e)) [
            | fails w ↦ outside (λ x y z. omega (arith, ltb-false (behind start size k) e w)) (rw (u, v, w))
            | holds w ↦ inside (ltb-true k size u) (leb-true a (behind start size k) v) (ltb-true (behind start size k) e w) (rw (u, v, w))
          ]
        ]
      ]

  -- so for a byte that is known to lie inside, or not to
  pub lies_in : k < size → a ≤ behind start size k → behind start size k < e → lies start size a e k ≡ true
  lies_in u v w = elim stretch [ inside x y z t ↦ t | outside h t ↦ absurd (h u v w) ]

  pub lies_out : (k < size → a ≤ behind start size k → behind start size k < e → ⊥) → lies start size a e k ≡ false
  lies_out h = elim stretch [ inside u v w t ↦ absurd (h u v w) | outside x t ↦ t ]

-- the start moves on modulo the size: below twice the size, going round is the remainder,
pub round_modulo : (size k : ℕ) → k < size + size → going_round size k ≡ k % size
round_modulo size k h =
    ⊎_elim (λ w. w.1 ∙ sym (mod-eq_of_lt w.0))
    (λ w. w.1 ∙ sym (mod-eq-sub-mod w.0 ∙ mod-eq_of_lt (omega arith)))
    (round_cases size k)

-- and ends in the circle
pub round_within : (size k at : ℕ) → at ≡ going_round size k → k < size + size → at < size
round_within size k at e h = ⊎_elim (λ w. omega arith) (λ w. omega arith) (round_cases size k)

-- a byte of the circle lies less than the size behind the start
pub behind_below : (start size : ℕ) → start < size → (k : ℕ) → k < size → behind start size k < size
behind_below start size within k h = ⊎_elim (λ w. omega arith) (λ w. omega arith) (behind_cases start size k)

module _ (start size : ℕ) (within : start < size) where
  -- from the start on, so do the counts up to the size
  pub round_below : (i : ℕ) → i ≤ size → going_round size (start + i) < size
  round_below i h = round_within size (start + i) (going_round size (start + i)) refl (omega arith)

  -- the i-th byte from the start lies i behind it
  pub behind_round : (i : ℕ) → i < size → behind start size (going_round size (start + i)) ≡ i
  behind_round i h =
      ⊎_elim (λ v. ⊎_elim (λ w. omega arith) (λ w. omega arith) (behind_cases start size (going_round size (start + i))))
      (λ v. ⊎_elim (λ w. omega arith) (λ w. omega arith) (behind_cases start size (going_round size (start + i))))
      (round_cases size (start + i))

  -- the byte that lies so far behind the start is the byte itself
  pub round_behind : (k : ℕ) → k < size → going_round size (start + behind start size k) ≡ k
  round_behind k h =
      ⊎_elim (λ v. ⊎_elim (λ w. omega arith) (λ w. omega arith) (round_cases size (start + behind start size k)))
      (λ v. ⊎_elim (λ w. omega arith) (λ w. omega arith) (round_cases size (start + behind start size k)))
      (behind_cases start size k)

  -- once the start moved on by n, a byte lies n less behind it, or that round the end
  module _ (n k : ℕ) (some : n ≤ size) (circle : k < size) where
    behind_moved : (behind (going_round size (start + n)) size k + n ≡ behind start size k) ⊎ (behind (going_round size (start + n)) size k + n ≡ behind start size k + size)
    behind_moved =
        ⊎_elim
        (λ u. ⊎_elim
        (λ v. ⊎_elim (λ w. inl (omega arith)) (λ w. inr (omega arith)) (behind_cases (going_round size (start + n)) size k))
        (λ v. inl (⊎_elim (λ w. omega arith) (λ w. omega arith) (behind_cases (going_round size (start + n)) size k)))
        (behind_cases start size k))
        (λ u. ⊎_elim
        (λ v. inr (⊎_elim (λ w. omega arith) (λ w. omega arith) (behind_cases (going_round size (start + n)) size k)))
        (λ v. ⊎_elim (λ w. inl (omega arith)) (λ w. inr (omega arith)) (behind_cases (going_round size (start + n)) size k))
        (behind_cases start size k))
        (round_cases size (start + n))

    -- a byte that stays,
    pub behind_kept : n ≤ behind start size k → behind (going_round size (start + n)) size k ≡ behind start size k - n
    behind_kept h =
        ⊎_elim (λ w. omega arith)
        (λ w. omega (arith, behind_below (going_round size (start + n)) size (round_below n some) k circle))
        behind_moved

    -- and one that was left
    pub behind_left : behind start size k < n → behind (going_round size (start + n)) size k ≡ behind start size k + size - n
    behind_left h = ⊎_elim (λ w. omega arith) (λ w. omega arith) behind_moved

  -- ---- a stretch that grows by one byte

  module _ (a e f : ℕ) (one : f ≡ e + 1) (fits : e < size) where
    -- the next byte lies in the longer stretch,
    pub lies_next : a ≤ e → lies start size a f (going_round size (start + e)) ≡ true
    lies_next h =
        lies_in start size a f (going_round size (start + e)) (round_below e (omega arith)) (rw (behind_round e fits) h)
        (rw (behind_round e fits) (omega arith))

    -- and not in the shorter one;
    pub lies_not_yet : lies start size a e (going_round size (start + e)) ≡ false
    lies_not_yet = lies_out start size a e (going_round size (start + e)) (λ u v w. omega (arith, behind_round e fits))

    -- every other byte lies in both or in neither
    pub lies_other : (k : ℕ) → (k ≡ going_round size (start + e) → ⊥) → lies start size a e k ≡ lies start size a f k
    lies_other k ne =
        elim (stretch start size a e k) [
          | inside u v w t ↦ t ∙ sym (lies_in start size a f k u v (omega arith))
          | outside h t ↦ t ∙ sym (lies_out start size a f k (λ u v w. elim (test (ltb (behind start size k) e)) [
            | holds l ↦ h u v (ltb-true (behind start size k) e l)
            | fails l ↦ ne (sym (round_behind k u) ∙ ap (λ (b : ℕ). going_round size (start + b)) (omega (arith, ltb-false (behind start size k) e l)))
          ]))
        ]

-- no byte lies in a stretch of none
pub lies_none : (start size a e k : ℕ) → e ≤ a → lies start size a e k ≡ false
lies_none start size a e k h = lies_out start size a e k (λ u v w. omega arith)
