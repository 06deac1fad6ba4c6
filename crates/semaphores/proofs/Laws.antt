-- A line with zeros behind it is the line but for nobody.
use Prim.Native.Nat.{ℕ, zero, suc, ◌-◌}
use mathlib.Core.Path.{◌≡◌, refl, sym, ap, ◌∙◌}
use mathlib.Core.Bool.{Bool, true, false, true≢false}
use mathlib.Core.List.{List, [], ◌∷◌, append-nil}
use native.Mathlib.Omega.{arith}
use lib.Dec.{eqb}
use lib.ListN.{length, replicate}
use Rattle.std.specs.List.{count_by}
use Rattle.std.proofs.lemmas.List.Recursion.{is_count_by}
use borrow.Author.Tests.{eqb-true}
use Rattle.basics.specs.Tests.{test, holds, fails}
use Rattle.arrivals.specs.Order.{has, keep}
use Rattle.arrivals.specs.Views.{keep_append, keep_same, in_line}
use Rattle.tables.specs.declared.Tables.{Tables}
use Rattle.tables.specs.declared.Line.{Line}
use Rattle.tables.specs.Access.{nobody}
use Rattle.tables.specs.Lines.{standing, line, padded}
use Rattle.tables.specs.Laws.{numbered_zero}
use Rattle.tables.proofs.Laws.{nowhere}
use Rattle.ready.proofs.Laws.{nobody_released}
use Rattle.ready.specs.Ready.{released, released_all}
use Rattle.semaphores.specs.Semaphores.{somebody}

-- To release nobody changes nothing
pub released_somebody : (l : List ℕ) (t : Tables) → released_all (keep somebody l) t ≡ released_all l t
unfolding released_all
released_somebody [] t = refl
released_somebody (p ∷ l) t =
    elim (test (eqb p 0)) [
      | holds e ↦ rw (e, ← nobody_released p t (eqb-true p 0 e)) (released_somebody l t)
      | fails e ↦ rw e (released_somebody l (released p t))
    ]

-- Zeros are nobody
zeros : (m : ℕ) → keep somebody (replicate m 0) ≡ []
zeros zero = refl
zeros (suc m) = zeros m

-- A list in which everybody passes is its own view
keep_all : (f : ℕ → Bool) (l : List ℕ) → ((y : ℕ) → has y l ≡ true → f y ≡ true) → keep f l ≡ l
keep_all f l h = keep_same (λ y. true) f l h ∙ all l
  where
    all : (r : List ℕ) → keep (λ y. true) r ≡ r
    all [] = refl
    all (a ∷ r) = ap (λ (s : List ℕ). a ∷ s) (all r)

-- Whoever stands in a line is somebody
stands_somebody : (x : Line) (t : Tables) (y : ℕ) → has y (line x t) ≡ true → somebody y ≡ true
unfolding line
stands_somebody x t y h =
    elim (test (eqb y 0)) [
      | holds e ↦
          let none : standing x t.processes y ≡ false = rw (numbered_zero t.processes y nobody (eqb-true y 0 e)) (nowhere x) in
          absurd (true≢false (sym (in_line (standing x t.processes) y t.order h).0 ∙ none))
      | fails e ↦ rw e
    ]

-- Without the zeros behind it, it is the line
pub somebody_padded : (x : Line) (t : Tables) → keep somebody (padded (line x t)) ≡ line x t
unfolding padded
somebody_padded x t =
    keep_append somebody (line x t) (replicate (32 - length (line x t)) 0)
    ∙ rw (zeros, append-nil) (keep_all somebody (line x t) (stands_somebody x t))

-- How many pass
pub length_keep : (f : ℕ → Bool) (l : List ℕ) → length (keep f l) ≡ count_by f l
length_keep f l = is_count_by (λ m. length (keep f m)) f refl (λ x m. elim (test (f x)) [ holds e ↦ rw e (omega arith) | fails e ↦ rw e ]) l
