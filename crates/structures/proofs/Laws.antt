-- The lowest free number is one more than the place of the first free structure; the lowest free bay, and the ring in a bay, in std's words.
use Prim.Native.Nat.{ℕ, zero, suc, ◌+◌, ◌-◌, ◌≤◌, ◌<◌}
use mathlib.Core.Path.{◌≡◌, refl, sym, ap, ◌∙◌}
use mathlib.Core.Bool.{Bool, true, false, cond, not}
use mathlib.Core.List.{List, [], ◌∷◌}
use native.Mathlib.Numerals.{add-one}
use native.Mathlib.Omega.{arith}
use lib.Dec.{ltb}
use lib.ListN.{length, get_or, drop}
use lib.Seq.{drop-cons}
use borrow.Author.Tests.{ltb-true, ltb-false, lt-ltb, le-ltb, ne_eqb}
use Rattle.std.specs.List.{list_any, position, position_or_len}
use Rattle.std.proofs.Common.{Some, None}
use Rattle.std.proofs.lemmas.Option.{cond_some, none-some}
use Rattle.basics.specs.Tests.{test, holds, fails}
use Rattle.tables.specs.declared.Structure.{Structure}
use Rattle.tables.specs.Access.{numbered, nothing}
use Rattle.tables.specs.Laws.{numbered_at}
use Rattle.tables.specs.Numbers.{somebody}
use Rattle.structures.specs.Structures.{lowest_from, is_free, free, is_in, taken, free_number, free_bay}

-- A bay is taken where some structure is a ring in it
pub any_taken : (l : List Structure) (b : ℕ) → list_any (λ s. is_in b s.kind) l ≡ taken l b
unfolding taken
any_taken [] b = refl
any_taken (s ∷ l) b = elim (test (is_in b s.kind)) [ holds e ↦ rw e | fails e ↦ rw e (any_taken l b) ]

-- The lowest from n up to below k: n if it passes, else the lowest from n + 1; none where n is past them
pub lowest_on : (f : ℕ → Bool) (n k : ℕ) → n < k → lowest_from f n (k - n) ≡ cond (f n) n (lowest_from f (n + 1) (k - (n + 1)))
unfolding lowest_from
lowest_on f n k h =
    let e : k - n ≡ suc (k - (n + 1)) = omega arith in
    rw (e, add-one)

pub lowest_end : (f : ℕ → Bool) (n k : ℕ) → k ≤ n → lowest_from f n (k - n) ≡ 0
unfolding lowest_from
lowest_end f n k h =
    let e : k - n ≡ 0 = omega arith in
    rw e

-- A turn of the search for a free bay: b is found, or all is as before
module _ (l : List Structure) (b : ℕ) {r : Bool} (asked : r ≡ list_any (λ s. is_in b s.kind) l) (more : b < 9) where
  turn : lowest_from (λ x. not (taken l x)) b (9 - b) ≡ cond (not r) b (lowest_from (λ x. not (taken l x)) (b + 1) (9 - (b + 1)))
  turn = lowest_on (λ x. not (taken l x)) b 9 more ∙ rw (asked, any_taken l b)

  pub bay_found : r ≡ false → 1 ≤ b → lowest_from (λ x. not (taken l x)) b (9 - b) ≡ free_bay l → Some b ≡ somebody (free_bay l)
  bay_found e some known = rw (← known, turn, e, ne_eqb b 0 (omega arith))

  pub bay_behind : r ≡ true → lowest_from (λ x. not (taken l x)) b (9 - b) ≡ free_bay l → lowest_from (λ x. not (taken l x)) (b + 1) (9 - (b + 1)) ≡ free_bay l
  bay_behind e known = rw (turn, e) at known

-- The lowest free number is one more than the place of the first free structure
from_place : (l : List Structure) (i n m : ℕ) → n ≡ i + 1 → length l ≡ i + m
    → lowest_from (free l) n m ≡ cond (ltb (position_or_len (λ s. is_free s.kind) (drop i l)) m) (n + position_or_len (λ s. is_free s.kind) (drop i l)) 0
unfolding lowest_from
from_place l i n zero e h = rw (le-ltb (position_or_len (λ s. is_free s.kind) (drop i l)) 0 (omega arith))
from_place l i n (suc m) e h =
    let here : n - 1 ≡ i = omega arith in
    let is : numbered l n nothing ≡ get_or l i nothing = rw (numbered_at l n nothing nothing (omega arith) (omega arith), here) in
    let more : i < length l = omega arith in
    rw (is, drop-cons l i nothing more)
    (elim (test (is_free (get_or l i nothing).kind)) [
      | holds g ↦ rw (g, lt-ltb 0 (suc m) (omega arith)) (omega arith)
      | fails g ↦
          let p = position_or_len (λ s. is_free s.kind) (drop (suc i) l) in
          rw (g, from_place l (suc i) (suc n) m (omega arith) (omega arith))
          (elim (test (ltb p m)) [
            | holds k ↦ rw (k, lt-ltb (1 + p) (suc m) (omega (arith, ltb-true p m k))) (omega arith)
            | fails k ↦ rw (k, le-ltb (1 + p) (suc m) (omega (arith, ltb-false p m k)))
          ])
    ])

module _ (l : List Structure) (long : length l ≡ 24) where
  pub number_found : (i : ℕ) → position (λ s. is_free s.kind) l ≡ Some i → Some (i + 1) ≡ somebody (free_number l)
  unfolding free_number
  number_found i e =
      let found = cond_some _ _ _ (rw long at e) in
      rw (from_place l 0 1 24 refl long, found.0, found.1, ne_eqb (1 + i) 0 (omega arith)) (ap Some (omega arith))

  pub none_free : position (λ s. is_free s.kind) l ≡ None → None ≡ somebody (free_number l)
  unfolding free_number
  none_free e =
      elim (test (ltb (position_or_len (λ s. is_free s.kind) l) 24)) [
        | holds h ↦ absurd (none-some (position_or_len (λ s. is_free s.kind) l) (sym e ∙ rw (long, h)))
        | fails h ↦ rw (from_place l 0 1 24 refl long, h)
      ]
