-- Releases one after the other, and what a dispatch does.
use Prim.Native.Nat.{ℕ, ◌+◌, ◌-◌, ◌≤◌, ◌<◌}
use mathlib.Core.Path.{◌≡◌, sym, ◌∙◌}
use mathlib.Core.Bool.{cond}
use mathlib.Core.List.{List}
use native.Mathlib.Omega.{arith}
use native.Mathlib.Numerals.{add-one}
use lib.Dec.{eqb, leb}
use lib.ListN.{length, get_or, set, drop, drop_of_length-le}
use lib.Seq.{drop-cons}
use borrow.Author.Tests.{eq-eqb, ne_eqb, le-ltb, lt-leb, lt-ltb, eqb-true, leb-false, ltb-true}
use Rattle.std.proofs.Common.{Some, None}
use Rattle.std.proofs.lemmas.Option.{cond_some, none-some, same_Some}
use Rattle.basics.specs.Tests.{test, holds, fails}
use Rattle.arrivals.specs.Order.{moved_last}
use Rattle.tables.specs.declared.Tables.{Tables}
use Rattle.tables.specs.declared.Process.{Process}
use Rattle.tables.specs.declared.Place.{Place}
use Rattle.tables.specs.declared.Place.TheVariants.{Ready}
use Rattle.tables.specs.Numbers.{somebody}
use Rattle.tables.specs.Access.{nobody, with_order, with_processes, with_process, process_of}
use Rattle.tables.specs.Laws.{numbered_at, numbered_past, replaced_at}
use Rattle.ready.specs.Ready.{placed, released_to, with_place, joins, runner_joins, released, released_all, runs, goes, ahead_of_runner, dispatched_to}

-- ---- releases

pub one_more : (l : List ℕ) (i : ℕ) (t u : Tables) → i < length l → u ≡ released (get_or l i 0) t → released_all (drop (i + 1) l) u ≡ released_all (drop i l) t
unfolding released_all
one_more l i t u h e = rw (e, add-one, drop-cons l i 0)

pub no_more : (l : List ℕ) (i : ℕ) (t : Tables) → length l ≤ i → released_all (drop i l) t ≡ t
unfolding released_all
no_more l i t h = rw (drop_of_length-le l {i = i} h)

-- Nobody joins no line, and is released into none
pub nobody_joins : (p : ℕ) (place : Place) (t : Tables) → p ≡ 0 → t ≡ joins p place t
unfolding joins
nobody_joins p place t e = rw (eq-eqb p 0 e)

pub nobody_released : (p : ℕ) (t : Tables) → p ≡ 0 → t ≡ released p t
unfolding released
nobody_released p t e = nobody_joins p _ t e

-- The tables with this order and these processes
abbrev pub seated : Tables → List ℕ → List Process → Tables
seated t order processes = with_processes (with_order t order) processes

-- A process of the table is released, on the order and the processes alone
pub one_released : (t : Tables) (order moved : List ℕ) (processes : List Process) (p : ℕ) → (p ≡ 0 → ⊥) → moved ≡ moved_last p order
    → (q d : Process) → p ≤ length processes → q ≡ placed (get_or processes (p - 1) d) (released_to (get_or processes (p - 1) d).suspended)
    → seated t moved (set processes (p - 1) q) ≡ released p (seated t order processes)
unfolding released joins with_place with_process process_of
one_released t order moved processes p some last q d h e =
    rw (ne_eqb p 0 some, numbered_at processes p nobody d some h, replaced_at processes p (placed (get_or processes (p - 1) d) _) some, last, e)

-- ---- dispatch

-- Past the table the priority is nobody's, 0
pub runners_priority : (t : Tables) (p : ℕ) → length t.processes ≡ 32 → cond (leb p 32) (process_of t p).priority 0 ≡ (process_of t p).priority
unfolding process_of
runners_priority t p long =
    elim (test (leb p 32)) [
      | holds b ↦ rw b
      | fails b ↦ rw (b, numbered_past t.processes p nobody (omega (arith, leb-false p 32 b)))
    ]

-- A head that is no more urgent than the runner does not go
pub stays_behind : (h head : ℕ) (t : Tables) → length t.processes ≡ 32 → somebody h ≡ Some head → (t.running ≡ 0 → ⊥)
    → (process_of t head).priority ≤ (process_of t t.running).priority → None ≡ ahead_of_runner h t
unfolding goes
stays_behind h head t long e some less =
    elim (test (eqb h 0)) [
      | holds a ↦ absurd (none-some _ (rw a at e))
      | fails a ↦
          let same = same_Some h _ (rw a at e) in
          rw (a, ne_eqb t.running 0 some, runners_priority t t.running long, same, le-ltb _ _ less)
    ]

-- The head that goes runs, and the runner has joined the ready line; nobody joins none
pub head_goes : (h head : ℕ) (t : Tables) → ahead_of_runner head t ≡ Some h → length t.processes ≡ 32 → runs h (joins t.running Ready t) ≡ dispatched_to head t
unfolding goes dispatched_to runs runner_joins with_place with_process process_of
head_goes h head t e long =
    elim (test (eqb head 0)) [
      | holds a ↦ absurd (none-some h (sym (rw a) ∙ e))
      | fails a ↦
          elim (test (eqb t.running 0)) [
            | holds b ↦ rw (a, b, ← nobody_joins t.running Ready t (eqb-true t.running 0 b), ← same_Some _ _ (rw (a, b) at e))
            | fails b ↦
                let went = cond_some _ _ _ (rw (a, b, runners_priority t t.running long) at e) in
                rw (a, b, lt-leb _ _ (ltb-true _ _ went.0), went.1)
          ]
    ]

-- Where none goes all stays
pub none_goes : (head : ℕ) (t : Tables) → ahead_of_runner head t ≡ None → length t.processes ≡ 32 → t ≡ dispatched_to head t
unfolding goes dispatched_to
none_goes head t e long =
    elim (test (eqb head 0)) [
      | holds a ↦ rw a
      | fails a ↦
          elim (test (eqb t.running 0)) [
            | holds b ↦ absurd (none-some head (sym e ∙ rw (a, b)))
            | fails b ↦
                elim (test (leb (process_of t head).priority (process_of t t.running).priority)) [
                  | holds k ↦ rw (a, b, k)
                  | fails k ↦ absurd (none-some head (sym e ∙ rw (a, b, runners_priority t t.running long, lt-ltb _ _ (leb-false _ _ k))))
                ]
          ]
    ]
