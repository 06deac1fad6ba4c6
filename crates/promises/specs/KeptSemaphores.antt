-- Wait and signal, their conditional forms, and signal all keep tables steady.
use Rattle.std.specs.Prelude.{ℕ, ◌≡◌, refl, true, false, eqb, ltb}
use Rattle.std.proofs.Common.{sym, ap, subst, ◌∙◌, true≢false, ⊎_elim, arith, eq-eqb, ne_eqb, eqb-true, ltb-true, ltb-false}
use Rattle.std.proofs.lemmas.Bool.{eqb-false, not-true}
use Rattle.basics.specs.Tests.{test, holds, fails}
use Rattle.arrivals.specs.Order.{has, first}
use Rattle.arrivals.specs.Listed.{is_listed}
use Rattle.arrivals.specs.Views.{has_keep, in_line}
use Rattle.std.specs.Prelude.{Option}
use Rattle.tables.specs.declared.Tables.{Tables}
use Rattle.tables.specs.declared.Process.{Process}
use Rattle.tables.specs.declared.Kind.{Kind}
use Rattle.tables.specs.declared.Kind.TheVariants as kinds
use Rattle.tables.specs.declared.Place.{Place}
use Rattle.tables.specs.declared.Place.TheVariants.{Nowhere, Running, Ready, Parked, Waiting, Getting, Putting, Asleep}
use Rattle.tables.specs.declared.Line.TheVariants.{Semaphore}
use Rattle.tables.specs.Numbers.{spot, is_ring, is_semaphore}
use Rattle.tables.specs.Access.{numbered, nobody, structure_of, with_structure}
use Rattle.tables.specs.Lines.{line, stands, standing, waits_at}
use Rattle.ready.specs.Ready.{let_through}
use Rattle.ready.specs.Laws.{first_has}
use Rattle.structures.specs.Structures.{is_free}
use Rattle.semaphores.specs.Semaphores.{kind_of, with_kind, value, lowered, raised, has_line, waited_at, waited, conditionally_waited, signalled_at, signalled, conditionally_signalled, all_released, all_signalled}
use Rattle.semaphores.specs.Laws.{no_line}
use Rattle.sound.specs.Sound.{place_at, kind_at, ring_at, parcel_at, bay_of, AtZero, PlaceFits, ValueFits, Settled}
use Rattle.promises.specs.Changes.{known_structure, Steady, Live, is_live, Unwaited, steady_plain}
use Rattle.promises.specs.KeptReady.{fits_as, movable, runner_joins_steady, released_steady, released_all_steady}

-- ---- who waits at a structure

-- Nobody waits at a structure that is no ring, if nobody stands in a semaphore's line there
unwaited_place : (n : ℕ) (kind : Kind) (size : ℕ) (q : Process) (h : Option ℕ) (place : Place) → (spot place ≡ n → PlaceFits kind size q h place) → is_ring kind ≡ false
    → (place ≡ Waiting n → ⊥) → waits_at n place ≡ false
unfolding waits_at
unwaited_place n kind size q h Nowhere f r w = refl
unwaited_place n kind size q h Running f r w = refl
unwaited_place n kind size q h Ready f r w = refl
unwaited_place n kind size q h Parked f r w = refl
unwaited_place n kind size q h (Waiting m) f r w = ne_eqb m n (λ e. w (ap Waiting e))
unwaited_place n kind size q h (Getting m l) f r w = ne_eqb m n (λ e. true≢false (sym (f e).0.ring ∙ r))
unwaited_place n kind size q h (Putting m l) f r w = ne_eqb m n (λ e. true≢false (sym (f e).0.ring ∙ r))
unwaited_place n kind size q h (Asleep k) f r w = refl

-- The same of all processes
pub unwaited : (n : ℕ) (t : Tables) → Settled t → is_ring (kind_at t.structures n) ≡ false → ((x : ℕ) → place_at t.processes x ≡ Waiting n → ⊥) → Unwaited n t
unfolding Unwaited
unwaited n t s r w x =
    unwaited_place n (kind_at t.structures n) (ring_at t.rings (bay_of (kind_at t.structures n))).size (numbered t.processes x nobody) (parcel_at t.parcels x).holds (place_at t.processes x)
    (λ e. subst (λ (m : ℕ). PlaceFits (kind_at t.structures m) (ring_at t.rings (bay_of (kind_at t.structures m))).size (numbered t.processes x nobody) (parcel_at t.parcels x).holds (place_at t.processes x)) e (s.fits x))
    r (w x)

-- A semaphore is no ring
no_ring : (kind : Kind) → is_semaphore kind ≡ true → is_ring kind ≡ false
no_ring kinds.Free e = absurd (true≢false (sym e))
no_ring (kinds.Binary v) e = refl
no_ring (kinds.Counting v) e = refl
no_ring (kinds.Ring c) e = absurd (true≢false (sym e))

-- and live
pub semaphore_live : (kind : Kind) → is_semaphore kind ≡ true → is_free kind ≡ false
semaphore_live kinds.Free e = absurd (true≢false (sym e))
semaphore_live (kinds.Binary v) e = refl
semaphore_live (kinds.Counting v) e = refl
semaphore_live (kinds.Ring c) e = absurd (true≢false (sym e))

-- A semaphore at which nobody waits gets another value
pub kind_steady : (n : ℕ) (kind : Kind) (t : Tables) → Steady t → is_semaphore (kind_at t.structures n) ≡ true → is_semaphore kind ≡ true → ValueFits kind → Unwaited n t → Steady (with_kind n kind t)
unfolding with_kind with_structure
kind_steady n kind t steady was is fits none =
    let here = known_structure n t (semaphore_live (kind_at t.structures n) was) in
    steady_plain n (record { kind = kind }) t steady here.0 here.1 (no_ring (kind_at t.structures n) was) (no_ring kind is) fits none

-- ---- wait

-- At 0 means: the value is 0
zero_value : (kind : Kind) → AtZero kind → value kind ≡ 0
zero_value kinds.Free e = absurd e
zero_value (kinds.Binary v) e = e
zero_value (kinds.Counting v) e = e
zero_value (kinds.Ring b) e = absurd e

at_zero : (kind : Kind) → is_semaphore kind ≡ true → value kind ≡ 0 → AtZero kind
at_zero kinds.Free e h = absurd (true≢false (sym e))
at_zero (kinds.Binary v) e h = h
at_zero (kinds.Counting v) e h = h
at_zero (kinds.Ring b) e h = absurd (true≢false (sym e))

-- A value that falls or rises stays in range
lowered_fits : (kind : Kind) → is_semaphore kind ≡ true → ValueFits kind → ValueFits (lowered kind) × (is_semaphore (lowered kind) ≡ true)
lowered_fits kinds.Free e f = absurd (true≢false (sym e))
lowered_fits (kinds.Binary v) e f = (omega arith, refl)
lowered_fits (kinds.Counting v) e f = (omega arith, refl)
lowered_fits (kinds.Ring b) e f = absurd (true≢false (sym e))

raised_fits : (kind : Kind) → is_semaphore kind ≡ true → ValueFits kind → ValueFits (raised kind) × (is_semaphore (raised kind) ≡ true)
raised_fits kinds.Free e f = absurd (true≢false (sym e))
raised_fits (kinds.Binary v) e f = (omega arith, refl)
raised_fits (kinds.Counting v) e f = (elim (test (ltb v 32767)) [ holds h ↦ rw h (omega (arith, ltb-true v 32767 h)) | fails h ↦ rw h f ], refl)
raised_fits (kinds.Ring b) e f = absurd (true≢false (sym e))

-- "value above 0 falls by 1 .. else the caller joins the line"
pub waited_steady : (n : ℕ) (t : Tables) → Steady t → Steady (waited n t).tables
unfolding waited waited_at kind_of structure_of movable
waited_steady n t steady =
    let kind = kind_at t.structures n in
    elim (test (eqb t.running 0)) [
      | holds z ↦ rw z steady
      | fails z ↦
          elim (test (is_semaphore kind)) [
            | fails e ↦ rw (z, e) steady
            | holds e ↦
                elim (test (ltb 0 (value kind))) [
                  | holds v ↦ rw (z, e, v)
                      (kind_steady n (lowered kind) t steady e (lowered_fits kind e (steady.settled.values n)).1 (lowered_fits kind e (steady.settled.values n)).0
                      (unwaited n t steady.settled (no_ring kind e) (λ x w. omega (arith, ltb-true 0 (value kind) v, zero_value kind (fits_as t steady.settled x (Waiting n) w)))))
                  | fails v ↦ rw (z, e, v)
                      (runner_joins_steady (Waiting n) t steady (eqb-false t.running 0 z) refl
                      (at_zero kind e (omega (arith, ltb-false 0 (value kind) v))))
                ]
          ]
    ]

-- "as wait if the value is above 0"
pub conditionally_waited_steady : (n : ℕ) (t : Tables) → Steady t → Steady (conditionally_waited n t).tables
unfolding conditionally_waited
conditionally_waited_steady n t steady = elim (test (ltb 0 (value (kind_of n t)))) [ holds e ↦ rw e (waited_steady n t steady) | fails e ↦ rw e steady ]

-- ---- signal

-- Who stands in a semaphore's line waits there,
pub waiting : (n : ℕ) (q : Place) → stands (Semaphore n) q ≡ true → q ≡ Waiting n
unfolding stands
waiting n Nowhere e = absurd (true≢false (sym e))
waiting n Running e = absurd (true≢false (sym e))
waiting n Ready e = absurd (true≢false (sym e))
waiting n Parked e = absurd (true≢false (sym e))
waiting n (Waiting m) e = ap Waiting (eqb-true m n e)
waiting n (Getting m l) e = absurd (true≢false (sym e))
waiting n (Putting m l) e = absurd (true≢false (sym e))
waiting n (Asleep k) e = absurd (true≢false (sym e))

-- and may be released
stands_movable : (n : ℕ) (q : Place) → stands (Semaphore n) q ≡ true → movable q ≡ true
unfolding movable
stands_movable n q e = ap movable (waiting n q e)

-- so each of its line
pub line_movable : (n : ℕ) (t : Tables) (x : ℕ) → has x (line (Semaphore n) t) ≡ true → movable (place_at t.processes x) ≡ true
unfolding line
line_movable n t x h = stands_movable n (place_at t.processes x) (in_line (standing (Semaphore n) t.processes) x t.order h).0

-- Whoever waits at n stands in its line
pub waiting_stands : (n : ℕ) → stands (Semaphore n) (Waiting n) ≡ true
unfolding stands
waiting_stands n = eq-eqb n n refl

waits_in_line : (n x : ℕ) (t : Tables) → Settled t → place_at t.processes x ≡ Waiting n → has x (line (Semaphore n) t) ≡ true
unfolding line
waits_in_line n x t s e =
    let live : Live x t = is_live x t s (rw e) in
    has_keep (standing (Semaphore n) t.processes) x t.order ∙ rw (e, waiting_stands n) (is_listed x t.order (omega (arith, live.once)))

-- The head of a line is in it
pub head_there : (n : ℕ) (t : Tables) → has_line n t ≡ true → has (first (line (Semaphore n) t)) (line (Semaphore n) t) ≡ true
unfolding has_line
head_there n t h = ⊎_elim (λ z. absurd (eqb-false _ 0 (not-true _ h) z)) (λ k. k) (first_has (line (Semaphore n) t))

-- "with a line, its head is released and the value stays; with none, counting rises by 1 and binary becomes 1"
pub signalled_steady : (n : ℕ) (t : Tables) → Steady t → Steady (signalled n t).tables
unfolding signalled signalled_at kind_of structure_of let_through
signalled_steady n t steady =
    let kind = kind_at t.structures n in
    elim (test (is_semaphore kind)) [
      | fails e ↦ rw e steady
      | holds e ↦
          elim (test (has_line n t)) [
            | holds h ↦ rw (e, h) (released_steady (first (line (Semaphore n) t)) t steady (line_movable n t (first (line (Semaphore n) t)) (head_there n t h)))
            | fails h ↦ rw (e, h)
                (kind_steady n (raised kind) t steady e (raised_fits kind e (steady.settled.values n)).1 (raised_fits kind e (steady.settled.values n)).0
                (unwaited n t steady.settled (no_ring kind e)
                (λ x w. true≢false (sym (waits_in_line n x t steady.settled w) ∙ ap (has x) (no_line n t h)))))
          ]
    ]

-- "as signal if there is a line"
pub conditionally_signalled_steady : (n : ℕ) (t : Tables) → Steady t → Steady (conditionally_signalled n t).tables
unfolding conditionally_signalled
conditionally_signalled_steady n t steady = elim (test (has_line n t)) [ holds e ↦ rw e (signalled_steady n t steady) | fails e ↦ rw e steady ]

-- "Signal all releases the whole line in order; the value stays"
pub all_signalled_steady : (n : ℕ) (t : Tables) → Steady t → Steady (all_signalled n t).tables
unfolding all_signalled all_released
all_signalled_steady n t steady =
    elim (test (is_semaphore (kind_of n t))) [
      | holds e ↦ rw e (released_all_steady (line (Semaphore n) t) t steady (line_movable n t))
      | fails e ↦ rw e steady
    ]
