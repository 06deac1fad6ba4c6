-- Who is listed in an arrival order, how often, and how long it is: after one goes, and after each change. Assumes nothing.
use Rattle.std.specs.Prelude.{◌≡◌, refl, ℕ, suc, ◌+◌, ◌<◌, true, false, List, [], ◌∷◌, ◌++◌, length, drop, eqb, ltb}
use Rattle.std.proofs.Common.{sym, ap, ◌∙◌, arith, zero-add, length-append, length-drop, eqb-true, eq-eqb, ltb-true, ltb-false, lt-ltb, le-ltb}
use Rattle.std.proofs.Math.Dec.{leb-suc-suc}
use Rattle.basics.specs.Tests.{test, holds, fails}
use Rattle.arrivals.specs.Order.{one, count, has, ahead, first, without, joined, moved_last, deleted}

-- ---- one that goes: the first of a list, or one behind it

pub without_here : (x a : ℕ) (l : List ℕ) → eqb a x ≡ true → without x (a ∷ l) ≡ l
unfolding without
without_here x a l e = rw e

pub without_behind : (x a : ℕ) (l : List ℕ) → eqb a x ≡ false → without x (a ∷ l) ≡ a ∷ without x l
unfolding without
without_behind x a l e = rw e

-- one that is not listed does not go
pub absent : (x : ℕ) (l : List ℕ) → has x l ≡ false → without x l ≡ l
unfolding without
absent x [] h = refl
absent x (a ∷ l) h =
    elim (test (eqb a x)) [ holds e ↦ cc | fails e ↦ without_behind x a l e ∙ ap (λ (r : List ℕ). a ∷ r) (absent x l (rw e at h)) ]

-- a line that loses its head is its tail
pub head_goes : (x : ℕ) (l : List ℕ) → first l ≡ x → without x l ≡ drop 1 l
unfolding without
head_goes x [] h = refl
head_goes x (a ∷ l) h = without_here x a l (eq-eqb a x h)

-- The head of a list is in it, and so is whoever is behind it
pub has_here : (x : ℕ) (l : List ℕ) → has x (x ∷ l) ≡ true
has_here x l = rw (eq-eqb x x refl)

pub has_behind : (x p : ℕ) (l : List ℕ) → has p l ≡ true → has p (x ∷ l) ≡ true
has_behind x p l h = elim (test (eqb x p)) [ holds e ↦ rw e | fails e ↦ rw e h ]

-- x is listed where fewer than all stand before it
pub has_ahead : (x : ℕ) (l : List ℕ) → has x l ≡ ltb (ahead x l) (length l)
has_ahead x [] = refl
has_ahead x (a ∷ l) =
    elim (test (eqb a x)) [
      | holds q ↦ rw q (sym (lt-ltb 0 (suc (length l)) (omega arith)))
      | fails q ↦ rw q (has_ahead x l ∙ sym (leb-suc-suc (suc (ahead x l)) (length l)))
    ]

-- ---- how often a number is listed

-- listed means listed at least once
pub has_count : (x : ℕ) (l : List ℕ) → has x l ≡ ltb 0 (count x l)
has_count x [] = refl
has_count x (a ∷ l) =
    elim (test (eqb a x)) [ holds q ↦ rw q (sym (lt-ltb 0 (1 + count x l) (omega arith))) | fails q ↦ simp (q, zero-add, has_count x l) ]

-- the same, as facts about how often
pub listed : (x : ℕ) (l : List ℕ) → has x l ≡ true → 0 < count x l
listed x l h = ltb-true 0 (count x l) (sym (has_count x l) ∙ h)

pub not_listed : (x : ℕ) (l : List ℕ) → has x l ≡ false → count x l ≡ 0
not_listed x l h = omega (arith, ltb-false 0 (count x l) (sym (has_count x l) ∙ h))

pub is_listed : (x : ℕ) (l : List ℕ) → 0 < count x l → has x l ≡ true
is_listed x l h = has_count x l ∙ lt-ltb 0 (count x l) h

pub is_not_listed : (x : ℕ) (l : List ℕ) → count x l ≡ 0 → has x l ≡ false
is_not_listed x l h = has_count x l ∙ le-ltb 0 (count x l) (omega arith)

-- in two parts, as often as in both
pub count_append : (p : ℕ) (l r : List ℕ) → count p (l ++ r) ≡ count p l + count p r
count_append p [] r = omega arith
count_append p (a ∷ l) r = omega (arith, count_append p l r)

-- x is x once
pub one_same : (x : ℕ) → one x x ≡ 1
one_same x = rw (eq-eqb x x refl)

-- one x goes, and nobody else
pub count_without : (p x : ℕ) (l : List ℕ) → has x l ≡ true → one x p + count p (without x l) ≡ count p l
count_without p x [] h = cc
count_without p x (a ∷ l) h =
    elim (test (eqb a x)) [
      | holds q ↦ rw (without_here x a l q) (ap (λ (z : ℕ). one z p + count p l) (sym (eqb-true a x q)))
      | fails q ↦ rw (without_behind x a l q) (omega (arith, count_without p x l (rw q at h)))
    ]

-- who is not listed is not listed after x went
pub has_without : (p x : ℕ) (l : List ℕ) → has p l ≡ false → has p (without x l) ≡ false
has_without p x l n =
    elim (test (has x l)) [
      | holds h ↦ is_not_listed p (without x l) (omega (arith, count_without p x l h, not_listed p l n))
      | fails h ↦ rw (absent x l h) n
    ]

-- nobody is listed more or less often after a move
pub count_moved : (p x : ℕ) (l : List ℕ) → count p (moved_last x l) ≡ count p l
unfolding moved_last
count_moved p x l =
    elim (test (has x l)) [
      | holds h ↦ rw (h, count_append) (omega (arith, count_without p x l h))
      | fails h ↦ rw h
    ]

pub has_moved : (p x : ℕ) (l : List ℕ) → has p (moved_last x l) ≡ has p l
has_moved p x l = has_count p (moved_last x l) ∙ rw (count_moved p x l) (sym (has_count p l))

-- one x less, and one zero more
pub count_deleted : (p x : ℕ) (l : List ℕ) → has x l ≡ true → one x p + count p (deleted x l) ≡ one 0 p + count p l
unfolding deleted
count_deleted p x l h = rw h (omega (arith, count_without p x l h))

-- one zero less, and one x more
pub count_joined : (p x : ℕ) (l : List ℕ) → first l ≡ 0 → 0 < length l → one 0 p + count p (joined x l) ≡ one x p + count p l
unfolding joined
count_joined p x [] h k = absurd (omega arith)
count_joined p x (a ∷ l) h k = rw (h, count_append) (omega arith)

-- x, listed once, is not listed without it
pub once_gone : (x : ℕ) (l : List ℕ) → count x l ≡ 1 → has x (without x l) ≡ false
once_gone x l once =
    is_not_listed x (without x l) (omega (arith, one_same x, count_without x x l (is_listed x l (omega arith))))

-- ---- lengths: one that goes makes a list shorter by one, and each change keeps the length

pub length_without : (x : ℕ) (l : List ℕ) → has x l ≡ true → suc (length (without x l)) ≡ length l
length_without x [] h = cc
length_without x (a ∷ l) h =
    elim (test (eqb a x)) [
      | holds q ↦ rw (without_here x a l q)
      | fails q ↦ rw (without_behind x a l q) (ap suc (length_without x l (rw q at h)))
    ]

pub length_moved : (x : ℕ) (l : List ℕ) → length (moved_last x l) ≡ length l
unfolding moved_last
length_moved x l =
    elim (test (has x l)) [
      | holds h ↦ rw (h, length-append) (omega (arith, length_without x l h))
      | fails h ↦ rw h
    ]

pub length_deleted : (x : ℕ) (l : List ℕ) → length (deleted x l) ≡ length l
unfolding deleted
length_deleted x l = elim (test (has x l)) [ holds h ↦ rw h (length_without x l h) | fails h ↦ rw h ]

pub length_joined : (x : ℕ) (l : List ℕ) → 0 < length l → length (joined x l) ≡ length l
unfolding joined
length_joined x l h = simp (length-append, length-drop) (omega arith)
