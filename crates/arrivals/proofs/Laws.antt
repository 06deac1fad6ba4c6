-- Where x stands, and what a turn of the places up to there leaves, on lists of any length. Assumes nothing.
use Rattle.std.proofs.Common.{◌≡◌, ◌==◌, ℕ, ◌+◌, ◌-◌, ◌<◌, true, false, cond, Some, None, List, [], ◌∷◌, ◌++◌, length, get_or, slice_set, take, drop, refl, sym, ap, ◌∙◌, arith, add-one, eqb-true}
use Rattle.std.proofs.lemmas.List.{take_at, drop_at}
use lib.Seq.{take-suc, length-take-le}
use Rattle.std.specs.List.{position}
use Rattle.std.proofs.lemmas.List.Recursion.{is_position_or_len}
use Rattle.std.proofs.lemmas.List.Quantifiers.{position-Some}
use Rattle.basics.specs.Tests.{test, holds, fails}
use Rattle.arrivals.specs.Order.{has, ahead, cut, without}
use Rattle.arrivals.specs.Listed.{has_ahead}

module _ (x : ℕ) where
  -- x is found where it is listed, at its place
  place_is : (l : List ℕ) → position (λ y. y == x) l ≡ cond (has x l) (Some (ahead x l)) None
  place_is l =
      rw (has_ahead x l, is_position_or_len (ahead x) (λ y. y == x) refl (λ y ys. ap (λ (n : ℕ). cond (y == x) 0 n) (omega arith)) l)

  module _ (l : List ℕ) where
    pub found : (k : ℕ) → position (λ y. y == x) l ≡ Some k → (has x l ≡ true) × (k ≡ ahead x l) × (k < length l) × (get_or l k 0 ≡ x)
    found k e =
        let within : k < length l = (position-Some (λ (y : ℕ). y == x) l k 0 e).0 in
        let there : (get_or l k 0 == x) ≡ true = (position-Some (λ (y : ℕ). y == x) l k 0 e).1 in
        elim (test (has x l)) [
          | holds h ↦ let same : Some (ahead x l) ≡ Some k = sym (rw h at (place_is l)) ∙ e in (h, cc, within, eqb-true _ _ there)
          | fails h ↦ let none : None ≡ Some k = sym (rw h at (place_is l)) ∙ e in cc
        ]

    pub missed : position (λ y. y == x) l ≡ None → has x l ≡ false
    missed e =
        elim (test (has x l)) [
          | holds h ↦ let none : Some (ahead x l) ≡ None = sym (rw h at (place_is l)) ∙ e in cc
          | fails h ↦ h
        ]

-- The one at x's place goes
pub cut_there : (x : ℕ) (l : List ℕ) (k : ℕ) → k ≡ ahead x l → cut k l ≡ without x l
unfolding without
cut_there x l k e = ap (λ (i : ℕ). cut i l) e

-- A turn of the places up to x's puts it first, and a zero takes its place
pub turned_first : (l : List ℕ) (k x : ℕ) (ys : List ℕ) → k ≡ ahead x l → k < length l
    → ys ≡ drop (length (take (k + 1) l) - 1) (take (k + 1) l) ++ take (length (take (k + 1) l) - 1) (take (k + 1) l)
    → slice_set (ys ++ drop (k + 1) l) 0 0 ≡ 0 ∷ without x l
turned_first l k x ys place within e =
    let front : take (k + 1) l ≡ take k l ++ (get_or l k 0 ∷ []) = rw add-one (take-suc l k 0 within) in
    let long : length (take k l) ≡ k = length-take-le k l (omega arith) in
    let size : length (take (k + 1) l) - 1 ≡ k = omega (arith, length-take-le (k + 1) l (omega arith)) in
    rw (e, size, front, drop_at (take k l) (get_or l k 0 ∷ []) k long, take_at (take k l) (get_or l k 0 ∷ []) k long) (ap (λ (r : List ℕ). 0 ∷ r) (rw add-one (cut_there x l k place)))
