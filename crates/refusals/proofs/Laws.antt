-- The data that are all zero, in std's words; and the refusal, by what its three parts answered.
use Prim.Native.Nat.{ℕ, ◌≤◌}
use mathlib.Core.Path.{◌≡◌, refl, sym, ◌∙◌}
use mathlib.Core.Bool.{true, false, cond}
use mathlib.Core.List.{List, [], ◌∷◌}
use native.Mathlib.Omega.{arith}
use lib.Dec.{eqb, ltb}
use borrow.Author.Tests.{eqb-true, ltb-false}
use Rattle.std.specs.List.{list_all}
use Rattle.basics.specs.Tests.{test, holds, fails}
use Rattle.tables.specs.declared.Tables.{Tables}
use Rattle.records.specs.declared.Record.{Record}
use Rattle.calls.specs.Calls.{unknown, is_unknown, row_of, call_number}
use Rattle.calls.specs.Laws.{unknown_numbers, number_of_deed}
use Rattle.refusals.specs.Laws.{refusal_parts, late_by_number}
use Rattle.refusals.specs.Refusals.{all_zero, first_that, early, late, applies_to, refusal}

pub all_zero_lem : (l : List ℕ) → all_zero l ≡ list_all (λ x. eqb x 0) l
all_zero_lem [] = refl
all_zero_lem (x ∷ l) = elim (test (eqb x 0)) [ holds e ↦ rw e (all_zero_lem l) | fails e ↦ rw e ]

-- ---- the refusal, by what its three parts answer

-- The number of a known call is that of the deed of its row
own_number : (call : ℕ) → is_unknown (row_of call) ≡ false → call_number (row_of call).deed ≡ call
own_number call h = number_of_deed call (known (sym (unknown_numbers call) ∙ h))
  where
    known : cond (eqb call 0) true (ltb 23 call) ≡ false → call ≤ 23
    known u = elim (test (eqb call 0)) [ holds q ↦ omega (arith, eqb-true call 0 q) | fails q ↦ omega (arith, ltb-false 23 call (rw q at u)) ]

-- 41 for an unknown call, else the first of the early ones, else the first of the late ones of the row's deed
pub refusal_found : (t : Tables) (r : Record) → refusal t r
    ≡ cond (is_unknown (row_of r.what)) 41
    (cond (eqb (first_that (applies_to (row_of r.what) r.what t r) early) 0) (first_that (applies_to unknown (call_number (row_of r.what).deed) t r) late)
    (first_that (applies_to (row_of r.what) r.what t r) early))
refusal_found t r =
    rw (refusal_parts t r)
    (elim (test (is_unknown (row_of r.what))) [
      | holds u ↦ rw u
      | fails u ↦ rw (u, own_number r.what u, late_by_number (row_of r.what) r.what t r)
    ])
