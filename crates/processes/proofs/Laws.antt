-- The searches of this crate, in std's words and in the definitions'; and those who are due.
use Prim.Native.Nat.{ℕ, suc, ◌+◌}
use mathlib.Core.Path.{◌≡◌, refl, sym, ap, ◌∙◌}
use mathlib.Core.Bool.{Bool, cond}
use mathlib.Core.List.{List, [], ◌∷◌, map}
use native.Mathlib.Omega.{arith}
use lib.Dec.{eqb}
use lib.ListN.{length}
use borrow.Author.Tests.{eqb-true, ne_eqb, lt-ltb, le-ltb, ltb-true, ltb-false}
use Rattle.std.specs.Prelude.{◌==◌}
use Rattle.std.specs.List.{filter, list_any, position, position_or_len}
use Rattle.std.proofs.Common.{Some, None, ltb}
use Rattle.std.proofs.lemmas.Option.{cond_some, none-some}
use Rattle.basics.specs.Tests.{test, holds, fails}
use Rattle.arrivals.specs.Order.{has, first, keep}
use Rattle.tables.specs.Lines.{ready_line}
use Rattle.tables.specs.Access.{with_process, replaced}
use Rattle.tables.specs.declared.Place.{Place}
use Rattle.tables.specs.declared.Tables.{Tables}
use Rattle.tables.specs.declared.Process.{Process}
use Rattle.tables.specs.Numbers.{somebody}
use Rattle.ready.specs.Ready.{with_place, runner_joins, released, released_all, runs, dispatched_to, dispatched}
use Rattle.ready.proofs.Laws.{nobody_released}
use Rattle.processes.specs.Processes.{is_free, lowest_free, or_nobody, head_runs}

-- The lowest free number is one more than the place of the first free process
from_place : (l : List Process) (n : ℕ) → lowest_free n l ≡ cond (ltb (position_or_len is_free l) (length l)) (n + position_or_len is_free l) 0
from_place [] n = refl
from_place (q ∷ l) n =
    elim (test (is_free q)) [
      | holds e ↦ rw (e, lt-ltb 0 (suc (length l)) (omega arith)) (omega arith)
      | fails e ↦
          let p = position_or_len is_free l in
          rw (e, from_place l (suc n))
          (elim (test (ltb p (length l))) [
            | holds h ↦ rw (h, lt-ltb (1 + p) (suc (length l)) (omega (arith, ltb-true p (length l) h))) (omega arith)
            | fails h ↦ rw (h, le-ltb (1 + p) (suc (length l)) (omega (arith, ltb-false p (length l) h)))
          ])
    ]

pub free_found : (l : List Process) (i : ℕ) → position is_free l ≡ Some i → Some (i + 1) ≡ somebody (lowest_free 1 l)
free_found l i e =
    let found = cond_some _ _ _ e in
    rw (from_place l 1, found.0, found.1, ne_eqb (1 + i) 0 (omega arith)) (ap Some (omega arith))

pub none_free : (l : List Process) → position is_free l ≡ None → None ≡ somebody (lowest_free 1 l)
none_free l e =
    elim (test (ltb (position_or_len is_free l) (length l))) [
      | holds h ↦ absurd (none-some (position_or_len is_free l) (sym e ∙ rw h))
      | fails h ↦ rw (from_place l 1, h)
    ]

-- Of those who pass, one has the number n under g
pub any_has : (f : ℕ → Bool) (g : ℕ → ℕ) (n : ℕ) (l : List ℕ) → list_any (λ x. g x == n) (filter f l) ≡ has n (map g (keep f l))
any_has f g n [] = refl
any_has f g n (x ∷ l) =
    elim (test (f x)) [
      | holds e ↦ elim (test (eqb (g x) n)) [ holds q ↦ rw (e, q) | fails q ↦ rw (e, q) (any_has f g n l) ]
      | fails e ↦ rw e (any_has f g n l)
    ]

-- With nobody in place of the others, those who pass the test are released
pub those_released : (f : ℕ → Bool) (l : List ℕ) (t : Tables) → released_all (map (or_nobody f) l) t ≡ released_all (keep f l) t
unfolding released_all
those_released f [] t = refl
those_released f (x ∷ l) t =
    elim (test (f x)) [
      | holds e ↦ rw e (those_released f l (released x t))
      | fails e ↦ rw (e, ← nobody_released 0 t refl) (those_released f l t)
    ]

-- The caller has joined the ready line and nobody runs: to dispatch is to let the head run
pub head_runs_next : (place : Place) (t : Tables) → head_runs (runner_joins place t) ≡ dispatched (runner_joins place t)
unfolding head_runs runner_joins dispatched dispatched_to runs with_place with_process replaced
head_runs_next place t =
    let u = runner_joins place t in
    elim (test (eqb (first (ready_line u)) 0)) [
      | holds e ↦ rw (e, eqb-true (first (ready_line u)) 0 e)
      | fails e ↦ rw e
    ]
