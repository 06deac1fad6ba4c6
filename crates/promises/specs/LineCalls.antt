-- What leaves lines of structures as they are: every call but create and delete structure, where it acts at none of these structures.
use Rattle.std.specs.Prelude.{ℕ, zero, suc, ◌+◌, ◌-◌, ◌≡◌, true, false, eqb, ltb, take}
use Rattle.std.proofs.Math.Path.{refl}
use Rattle.std.proofs.Common.{sym, ap, subst, ◌∙◌, true≢false, ⊎_elim, eqb-true}
use mathlib.Core.List.{List, [], ◌∷◌}
use Rattle.basics.specs.Tests.{test, holds, fails}
use Rattle.arrivals.specs.Order.{has, first}
use Rattle.arrivals.specs.Views.{in_line}
use Rattle.bay.specs.declared.Ring as bays
use Rattle.bay.specs.declared.Parcel.{Parcel}
use Rattle.std.specs.Prelude.{Option, None, Some}
use Rattle.bay.specs.Bay.{empty_parcel, parcel_of, put_of, get_of}
use Rattle.tables.specs.declared.Tables.{Tables}
use Rattle.tables.specs.declared.Kind.{Kind}
use Rattle.tables.specs.declared.Kind.TheVariants as kinds
use Rattle.tables.specs.declared.Place.{Place}
use Rattle.tables.specs.declared.Place.TheVariants.{Nowhere, Running, Ready, Parked, Waiting, Getting, Putting, Asleep}
use Rattle.tables.specs.declared.Line.TheVariants.{Semaphore, Getters, Putters}
use Rattle.tables.specs.Numbers.{is_semaphore}
use Rattle.tables.specs.Access.{structure_of, ring_in, parcel_for, process_of, with_process, with_structure, with_ring, with_parcel}
use Rattle.tables.specs.Lines.{line, standing}
use Rattle.ready.specs.Ready.{with_place, joins, released, let_through}
use Rattle.ready.specs.Laws.{first_has}
use Rattle.records.specs.declared.Record.{Record}
use Rattle.calls.specs.declared.Deed.{Deed}
use Rattle.calls.specs.declared.Deed.TheVariants as deeds
use Rattle.calls.specs.Calls.{call_number}
use Rattle.steps.specs.Steps.{done}
use Rattle.structures.specs.Structures.{valued_as, valued_at, valued}
use Rattle.semaphores.specs.Semaphores.{kind_of, with_kind, value, lowered, raised, has_line, waited_at, waited, conditionally_waited, signalled_at, signalled, conditionally_signalled, all_released, all_signalled}
use Rattle.rings.specs.Changes.{getting, putting}
use Rattle.rings.specs.Laws as rule
use Rattle.rings.specs.Laws.{Next, neither, next}
use Rattle.rings.proofs.InTurn.{nobody_goes, nobody_yet, getter_next, putter_next}
use Rattle.arrivals.specs.Listed.{has_here, has_behind}
use Rattle.rings.specs.Serving.{length_for, who, in_turn, entered, with_moved, served_getter, served_putter, served_as, service, services, turns, served}
use Rattle.rings.specs.Rings.{put_through, put_waits, put_by, put_in, conditionally_put_by, conditionally_put, got_from, got_through, get_waits, got_by, got, conditionally_got_by, conditionally_got, reset_in, reset_kind, reset_ring, collected_bytes, collected_from, collected}
use Rattle.sound.specs.Sound.{place_at, kind_at, Settled}
use Rattle.promises.specs.Changes.{Steady}
use Rattle.promises.specs.KeptSemaphores.{waiting}
use Rattle.promises.specs.KeptRingsCalls.{way_in_lem, way_out_lem}
use Rattle.promises.specs.LineSame.{Part, SamePart, Off, part_none, part_then, part_beside, off_at, off_zero, off_runner, released_same, all_same, runner_joins_same, created_same, deleted_same, suspended_same, resumed_same, prioritised_same, scheduled_same, stated_same, slept_same, ticked_same}

-- ---- semaphores

-- A semaphore stays one when its value falls
lowered_semaphore : (kind : Kind) → is_semaphore (lowered kind) ≡ is_semaphore kind
lowered_semaphore kinds.Free = refl
lowered_semaphore (kinds.Binary v) = refl
lowered_semaphore (kinds.Counting v) = refl
lowered_semaphore (kinds.Ring b) = refl

-- or rises
raised_semaphore : (kind : Kind) → is_semaphore (raised kind) ≡ is_semaphore kind
raised_semaphore kinds.Free = refl
raised_semaphore (kinds.Binary v) = refl
raised_semaphore (kinds.Counting v) = refl
raised_semaphore (kinds.Ring b) = refl

-- Semaphore m is none of the part's: who stands in its line stands in none of these, and its value is not told
pub record SemaphoreApart (part : Part) (m : ℕ) (t : Tables) : Type 0 where
  pub line_apart : Off part (Waiting m)
  pub value_untold : (kind : Kind) → is_semaphore (kind_of m t) ≡ true → is_semaphore kind ≡ true → part.told (with_kind m kind t) ≡ part.told t

module _ (part : Part) (m : ℕ) (t : Tables) (apart : SemaphoreApart part m t) where
  -- Nobody of its line stands there,
  off_line : (x : ℕ) → has x (line (Semaphore m) t) ≡ true → Off part (place_at t.processes x)
  unfolding line
  off_line x h = off_at part t x (Waiting m) (waiting m (place_at t.processes x) (in_line (standing (Semaphore m) t.processes) x t.order h).0) apart.line_apart

  -- and its value may change
  value_same : (kind : Kind) → is_semaphore (kind_of m t) ≡ true → is_semaphore kind ≡ true → SamePart part t (with_kind m kind t)
  unfolding with_kind with_structure
  value_same kind was is = part_beside part t (with_kind m kind t) refl refl (apart.value_untold kind was is)

  -- Wait
  waited_same : Settled t → SamePart part t (waited m t).tables
  unfolding waited waited_at
  waited_same s =
      elim (test (eqb t.running 0)) [
        | holds z ↦ rw z (part_none part t)
        | fails z ↦
            elim (test (is_semaphore (kind_of m t))) [
              | fails e ↦ rw (z, e) (part_none part t)
              | holds e ↦
                  elim (test (ltb 0 (value (kind_of m t)))) [
                    | holds v ↦ rw (z, e, v) (value_same (lowered (kind_of m t)) e (lowered_semaphore (kind_of m t) ∙ e))
                    | fails v ↦ rw (z, e, v) (runner_joins_same part (Waiting m) t (off_runner part t s) apart.line_apart)
                  ]
            ]
      ]

  -- Conditional wait
  conditionally_waited_same : Settled t → SamePart part t (conditionally_waited m t).tables
  unfolding conditionally_waited
  conditionally_waited_same s = elim (test (ltb 0 (value (kind_of m t)))) [ holds v ↦ rw v (waited_same s) | fails v ↦ rw v (part_none part t) ]

  -- Signal
  signalled_same : SamePart part t (signalled m t).tables
  unfolding signalled signalled_at let_through
  signalled_same =
      let h = first (line (Semaphore m) t) in
      elim (test (is_semaphore (kind_of m t))) [
        | fails e ↦ rw e (part_none part t)
        | holds e ↦
            elim (test (has_line m t)) [
              | holds k ↦ rw (e, k) (released_same part h t (⊎_elim (off_zero part t h) (off_line h) (first_has (line (Semaphore m) t))))
              | fails k ↦ rw (e, k) (value_same (raised (kind_of m t)) e (raised_semaphore (kind_of m t) ∙ e))
            ]
      ]

  -- Conditional signal
  conditionally_signalled_same : SamePart part t (conditionally_signalled m t).tables
  unfolding conditionally_signalled
  conditionally_signalled_same = elim (test (has_line m t)) [ holds k ↦ rw k signalled_same | fails k ↦ rw k (part_none part t) ]

  -- Signal all
  all_signalled_same : SamePart part t (all_signalled m t).tables
  unfolding all_signalled all_released
  all_signalled_same =
      elim (test (is_semaphore (kind_of m t))) [ holds e ↦ rw e (all_same part (line (Semaphore m) t) t off_line) | fails e ↦ rw e (part_none part t) ]

-- ---- rings

-- The first of a list, or one of the rest
of_either : (Q : ℕ → Type 0) (x p : ℕ) (l : List ℕ) → has p (x ∷ l) ≡ true → Q x → (has p l ≡ true → Q p) → Q p
of_either Q x p l h one other = elim (test (eqb x p)) [ holds e ↦ subst Q (eqb-true x p e) one | fails e ↦ other (rw e at h) ]

-- Whom the rule serves stands in one of the two lines, so what holds of all there holds of it
module _ (Q : ℕ → Type 0) (k : List ℕ) (size : ℕ) where
  -- It holds of all of a list
  abbrev All : List ℕ → Type 0
  All l = (p : ℕ) → has p l ≡ true → Q p

  -- One turn more,
  who_next : (m : ℕ) → ((held : ℕ) (gs ps : List ℕ) → All gs → All ps → All (who m k size held gs ps))
      → {held : ℕ} {gs ps : List ℕ} → Next k size held gs ps → All gs → All ps → All (who (suc m) k size held gs ps)
  who_next m so {held} {gs} {ps} (rule.getter x rest g) a b p h =
      of_either Q x p (who m k size (held - length_for k x) rest ps) (rw (getter_next m k size held gs ps g) at h) (a x (has_here x rest))
      (so (held - length_for k x) rest ps (λ y i. a y (has_behind x y rest i)) b p)
  who_next m so {held} {gs} {ps} (rule.putter x rest g f) a b p h =
      of_either Q x p (who m k size (held + length_for k x) gs rest) (rw (putter_next m k size held gs ps g f) at h) (b x (has_here x rest))
      (so (held + length_for k x) gs rest a (λ y i. b y (has_behind x y rest i)) p)
  who_next m so {held} {gs} {ps} (neither g f) a b p h = absurd (true≢false (sym h ∙ ap (has p) (nobody_goes (suc m) k size held gs ps g f)))

  -- so all turns
  who_all : (m held : ℕ) (gs ps : List ℕ) → All gs → All ps → All (who m k size held gs ps)
  who_all zero held gs ps a b p h = absurd (true≢false (sym h ∙ ap (has p) (nobody_yet k size held gs ps)))
  who_all (suc m) held gs ps a b p h = who_next m (who_all m) (next k size held gs ps) a b p h

-- Ring m is none of the part's: who stands in its lines stands in none of these, and what lies in its bay is not told
pub record RingApart (part : Part) (m : ℕ) (t : Tables) : Type 0 where
  pub getters_apart : (l : ℕ) → Off part (Getting m l)
  pub putters_apart : (l : ℕ) → Off part (Putting m l)
  pub bay_untold : (b : ℕ) → kind_at t.structures m ≡ kinds.Ring b → (u : Tables) (ring : bays.Ring) → u.structures ≡ t.structures → part.told (with_ring u b ring) ≡ part.told u

-- Who is released changes no structure
released_structures : (p : ℕ) (t : Tables) → (released p t).structures ≡ t.structures
unfolding released joins with_place with_process
released_structures p t = elim (test (eqb p 0)) [ holds z ↦ rw z | fails z ↦ rw z ]

-- Other parcels
parcel_same : (part : Part) (p : ℕ) (parcel : Parcel) (t : Tables) → SamePart part t (with_parcel t p parcel)
unfolding with_parcel
parcel_same part p parcel t = part_beside part t (with_parcel t p parcel) refl refl (part.told_by t _ refl refl)

module _ (part : Part) (m : ℕ) (t : Tables) (apart : RingApart part m t) where
  module _ (b : ℕ) (is : kind_at t.structures m ≡ kinds.Ring b) where
    -- What lies in its bay changes
    bay_same : (u : Tables) (ring : bays.Ring) → u.structures ≡ t.structures → SamePart part u (with_ring u b ring)
    unfolding with_ring
    bay_same u ring e = part_beside part u (with_ring u b ring) refl refl (apart.bay_untold b is u ring e)

    -- "Served means transferred and released"
    moved_same : (p : ℕ) (ring : bays.Ring) (parcel : Parcel) (u : Tables) → u.structures ≡ t.structures → Off part (place_at u.processes p)
        → SamePart part u (released p (with_parcel (with_ring u b ring) p parcel)) × ((released p (with_parcel (with_ring u b ring) p parcel)).structures ≡ t.structures)
    unfolding with_ring with_parcel
    moved_same p ring parcel u e off = (
      part_then (part_then (bay_same u ring e) (parcel_same part p parcel (with_ring u b ring))) (released_same part p (with_parcel (with_ring u b ring) p parcel) off),
      released_structures p (with_parcel (with_ring u b ring) p parcel) ∙ e,
    )

    -- One who stands in none of the part's lines is served, by its place
    service_same : (p : ℕ) (place : Place) (u : Tables) → u.structures ≡ t.structures → Off part (place_at u.processes p)
        → SamePart part u (served_as b p place u) × ((served_as b p place u).structures ≡ t.structures)
    unfolding served_as served_getter served_putter with_moved entered
    service_same p Nowhere u e off = (part_none part u, e)
    service_same p Running u e off = (part_none part u, e)
    service_same p Ready u e off = (part_none part u, e)
    service_same p Parked u e off = (part_none part u, e)
    service_same p (Waiting n) u e off = (part_none part u, e)
    service_same p (Getting n l) u e off = moved_same p (get_of (ring_in u b) (parcel_for u p) 0 l).ring (get_of (ring_in u b) (parcel_for u p) 0 l).parcel u e off
    service_same p (Putting n l) u e off = moved_same p (put_of (ring_in u b) (parcel_for u p) 0 l) empty_parcel u e off
    service_same p (Asleep k) u e off = (part_none part u, e)

    -- These are served, one after the other
    services_same : (l : List ℕ) (u : Tables) → u.structures ≡ t.structures → ((p : ℕ) → has p l ≡ true → Off part (place_at u.processes p)) → SamePart part u (services b l u)
    unfolding services service process_of
    services_same [] u e off = part_none part u
    services_same (p ∷ l) u e off =
        let one = service_same p (place_at u.processes p) u e (off p (has_here p l)) in
        part_then one.0 (services_same l (service b p u) one.1 (λ x h i. one.0.places i x ∙ off x (has_behind p x l h) i))

    -- The ring changes, and the lines are served
    serving_same : (ring : bays.Ring) → SamePart part t (served m b (with_ring t b ring))
    unfolding served turns in_turn with_ring line
    serving_same ring =
        let u = with_ring t b ring in
        part_then (bay_same t ring refl) (services_same (turns m b u) u refl (who_all (λ p. Off part (place_at t.processes p)) _ _ _ _ _ _
        (λ p h. off_at part t p _ (getting m (place_at t.processes p) (in_line (standing (Getters m) t.processes) p t.order h).0) (apart.getters_apart _))
        (λ p h. off_at part t p _ (putting m (place_at t.processes p) (in_line (standing (Putters m) t.processes) p t.order h).0) (apart.putters_apart _))))

  -- Put
  put_same : (l : ℕ) (bytes : List ℕ) → Settled t → SamePart part t (put_in m l bytes t).tables
  unfolding put_in put_by put_through put_waits entered with_parcel
  put_same l bytes s =
      let parcel = parcel_of (take l bytes) in
      elim (test (eqb t.running 0)) [
        | holds z ↦ rw z (part_none part t)
        | fails z ↦ rw z (way_in_lem m l t (λ way. SamePart part t (put_by m l bytes way t).tables) (part_none part t) (λ b is w room. serving_same b is _) (λ b is w new.
            part_then (parcel_same part t.running parcel t) (runner_joins_same part (Putting m l) (with_parcel t t.running parcel) (off_runner part t s) (apart.putters_apart l))))
      ]

  -- Conditional put
  conditional_put_same : (l : ℕ) (bytes : List ℕ) → SamePart part t (conditionally_put m l bytes t).tables
  unfolding conditionally_put conditionally_put_by put_through entered
  conditional_put_same l bytes =
      way_in_lem m l t (λ way. SamePart part t (conditionally_put_by m l bytes way t).tables) (part_none part t) (λ b is w room. serving_same b is _) (λ b is w new. part_none part t)

  -- Get
  got_same : (l : ℕ) → Settled t → SamePart part t (got m l t).tables
  unfolding got got_by got_through got_from get_waits
  got_same l s =
      elim (test (eqb t.running 0)) [
        | holds z ↦ rw z (part_none part t)
        | fails z ↦ rw z (way_out_lem m l t (λ way. SamePart part t (got_by m l way t).tables) (part_none part t) (λ b is w enough. serving_same b is _) (λ b is w new.
            runner_joins_same part (Getting m l) t (off_runner part t s) (apart.getters_apart l)))
      ]

  -- Conditional get
  conditional_got_same : (l : ℕ) → SamePart part t (conditionally_got m l t).tables
  unfolding conditionally_got conditionally_got_by got_through got_from
  conditional_got_same l =
      elim (test (eqb t.running 0)) [
        | holds z ↦ rw z (part_none part t)
        | fails z ↦ rw z (way_out_lem m l t (λ way. SamePart part t (conditionally_got_by m l way t).tables) (part_none part t) (λ b is w enough. serving_same b is _) (λ b is w new. part_none part t))
      ]

  -- Reset, by the kind
  reset_kind_lem : (kind : Kind) → kind_at t.structures m ≡ kind → SamePart part t (reset_kind m kind t).tables
  unfolding reset_kind reset_in
  reset_kind_lem kinds.Free e = part_none part t
  reset_kind_lem (kinds.Binary v) e = part_none part t
  reset_kind_lem (kinds.Counting v) e = part_none part t
  reset_kind_lem (kinds.Ring b) e = serving_same b e _

-- ---- structure value, and collect

-- Structure value, by its kind: the tables stay as they are
valued_same : (part : Part) (m : ℕ) (t : Tables) (kind : Kind) → SamePart part t (valued_at m t kind).tables
unfolding valued_at valued_as
valued_same part m t kinds.Free = part_none part t
valued_same part m t (kinds.Binary v) = part_none part t
valued_same part m t (kinds.Counting v) = part_none part t
valued_same part m t (kinds.Ring b) = part_none part t

-- Collect, by what the parcel holds
collected_same : (part : Part) (t : Tables) (bytes : List ℕ) (holding : Option ℕ) → SamePart part t (collected_from bytes holding t).tables
unfolding collected_from collected_bytes
collected_same part t bytes None = part_none part t
collected_same part t bytes (Some l) = parcel_same part t.running empty_parcel t

-- ---- every call but two

-- The calls that act at a semaphore,
abbrev pub semaphore_calls : List ℕ
semaphore_calls = 13 ∷ 14 ∷ 15 ∷ 16 ∷ 17 ∷ []

-- and those that move a ring's bytes
abbrev pub ring_calls : List ℕ
ring_calls = 18 ∷ 19 ∷ 20 ∷ 21 ∷ 22 ∷ []

-- Any call but create and delete structure leaves a part as it was, if the semaphore or ring that it names is none of the part's
pub part_done : (part : Part) (deed : Deed) (r : Record) (t : Tables) → Steady t → has (call_number deed) (10 ∷ 11 ∷ []) ≡ false
    → (has (call_number deed) semaphore_calls ≡ true → SemaphoreApart part r.n t) → (has (call_number deed) ring_calls ≡ true → RingApart part r.n t)
    → SamePart part t (done deed r t).tables
unfolding done valued collected reset_ring structure_of
part_done part deeds.Unknown r t steady other semaphore ring = part_none part t
part_done part deeds.Tick r t steady other semaphore ring = ticked_same part 1 t
part_done part deeds.CreateProcess r t steady other semaphore ring = created_same part r.l t steady
part_done part deeds.DeleteMyself r t steady other semaphore ring = deleted_same part t steady
part_done part deeds.Suspend r t steady other semaphore ring = suspended_same part r.n t
part_done part deeds.Resume r t steady other semaphore ring = resumed_same part r.n t
part_done part deeds.ChangePriority r t steady other semaphore ring = prioritised_same part r.n r.l t
part_done part deeds.Schedule r t steady other semaphore ring = scheduled_same part t steady.settled
part_done part deeds.ProcessState r t steady other semaphore ring = stated_same part r.n t
part_done part deeds.Sleep r t steady other semaphore ring = slept_same part r.m t steady.settled
part_done part deeds.CreateStructure r t steady other semaphore ring = absurd (true≢false other)
part_done part deeds.DeleteStructure r t steady other semaphore ring = absurd (true≢false other)
part_done part deeds.StructureValue r t steady other semaphore ring = valued_same part r.n t (kind_at t.structures r.n)
part_done part deeds.Signal r t steady other semaphore ring = signalled_same part r.n t (semaphore refl)
part_done part deeds.ConditionalSignal r t steady other semaphore ring = conditionally_signalled_same part r.n t (semaphore refl)
part_done part deeds.SignalAll r t steady other semaphore ring = all_signalled_same part r.n t (semaphore refl)
part_done part deeds.Wait r t steady other semaphore ring = waited_same part r.n t (semaphore refl) steady.settled
part_done part deeds.ConditionalWait r t steady other semaphore ring = conditionally_waited_same part r.n t (semaphore refl) steady.settled
part_done part deeds.Put r t steady other semaphore ring = put_same part r.n t (ring refl) r.l r.bytes steady.settled
part_done part deeds.ConditionalPut r t steady other semaphore ring = conditional_put_same part r.n t (ring refl) r.l r.bytes
part_done part deeds.Get r t steady other semaphore ring = got_same part r.n t (ring refl) r.l steady.settled
part_done part deeds.ConditionalGet r t steady other semaphore ring = conditional_got_same part r.n t (ring refl) r.l
part_done part deeds.ResetRing r t steady other semaphore ring = reset_kind_lem part r.n t (ring refl) (kind_at t.structures r.n) refl
part_done part deeds.Collect r t steady other semaphore ring = collected_same part t (parcel_for t t.running).bytes (parcel_for t t.running).holds
