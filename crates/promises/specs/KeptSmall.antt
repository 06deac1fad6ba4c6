-- What soundness does not say of the numbers in the tables: priorities and bytes are below 256. Every deed leaves them so.
use Rattle.std.specs.Prelude.{ℕ, zero, suc, ◌+◌, ◌-◌, ◌<◌, Bool, cond, List, [], ◌∷◌, ◌++◌, eqb, leb, ltb, length, drop}
use Rattle.std.proofs.Math.Path.{refl}
use Rattle.std.proofs.Math.Bool.{true, false}
use Rattle.std.proofs.Common.{arith, eqb-true, leb-true, leb-false}
use Rattle.std.proofs.Math.ListN.{take}
use Rattle.std.proofs.lemmas.Bool.{eqb-false}
use Rattle.basics.specs.Tests.{test, holds, fails}
use Rattle.arrivals.specs.Order.{first}
use Rattle.bay.specs.declared.Ring as bays
use Rattle.bay.specs.declared.Parcel.{Parcel}
use Rattle.std.specs.Prelude.{Option, None, Some}
use Rattle.bay.specs.Round.{table, lies}
use Rattle.bay.specs.Bay.{zeros, contents, laid_byte, laid, ring_of, empty_bay, parcel_of, empty_parcel, put_fits, get_fits, in_range, coming_byte, entered_byte, entered as entered_ring, put_of, left_byte, left, filled, get_of, thrown_away, reset_of}
use Rattle.tables.specs.declared.Tables.{Tables}
use Rattle.tables.specs.declared.Process.{Process}
use Rattle.tables.specs.declared.Structure.{Structure}
use Rattle.tables.specs.declared.Place.{Place}
use Rattle.tables.specs.declared.Place.TheVariants.{Nowhere, Running, Ready, Parked, Waiting, Getting, Putting, Asleep}
use Rattle.tables.specs.declared.Kind.{Kind}
use Rattle.tables.specs.declared.Kind.TheVariants as kinds
use Rattle.tables.specs.Numbers.{is_semaphore}
use Rattle.tables.specs.Lines.{ready_line}
use Rattle.tables.specs.Access.{numbered, replaced, nobody, nothing, process_of, structure_of, ring_in, parcel_for, with_process, with_structure, with_ring, with_parcel}
use Rattle.tables.specs.Laws.{replaced_zero, replaced_past, replaced_same, replaced_other}
use Rattle.ready.specs.Ready.{placed, with_place, joins, runner_joins, released_to, released, let_through, released_all, runs, dispatched_to, dispatched}
use Rattle.semaphores.specs.Semaphores as semaphores
use Rattle.processes.specs.Processes as processes
use Rattle.structures.specs.Structures as structures
use Rattle.rings.specs.Serving.{entered, with_moved, served_getter, served_putter, served_as, service, services, served}
use Rattle.rings.specs.declared.Way.{Way}
use Rattle.rings.specs.declared.Way.TheVariants.{Closed, AtOnce, Blocked}
use Rattle.rings.specs.Rings as rings
use Rattle.records.specs.declared.Record.{Record}
use Rattle.records.specs.Records.{Bytes, Proper}
use Rattle.records.specs.Laws.{bytes_take, bytes_drop}
use Rattle.calls.specs.declared.Deed.{Deed}
use Rattle.calls.specs.declared.Deed.TheVariants as deeds
use Rattle.steps.specs.Steps.{done}
use Rattle.promises.specs.KeptStructures.{created_by}
use Rattle.promises.specs.KeptTick.{mapped_at}
use Rattle.layout.specs.Laws as layout

-- ---- bytes below 256

-- The numbers that f gives are bytes where each of them is
bytes_table : (n : ℕ) (f : ℕ → ℕ) → ((i : ℕ) → f i < 256) → Bytes (table n f)
unfolding table
bytes_table zero f h i = omega arith
bytes_table (suc n) f h zero = h 0
bytes_table (suc n) f h (suc i) = bytes_table n (λ j. f (suc j)) (λ j. h (suc j)) i

-- Zeros are bytes,
bytes_zeros : (n : ℕ) → Bytes (zeros n)
unfolding zeros
bytes_zeros n = layout.bytes_zeros n

-- and so are bytes behind bytes
bytes_append : (a b : List ℕ) → Bytes a → Bytes b → Bytes (a ++ b)
bytes_append [] b x y i = y i
bytes_append (c ∷ a) b x y zero = x 0
bytes_append (c ∷ a) b x y (suc i) = bytes_append a b (λ j. x (suc j)) y i

-- One of two bytes is a byte
either_byte : (b : Bool) (x y : ℕ) → x < 256 → y < 256 → cond b x y < 256
either_byte true x y a c = a
either_byte false x y a c = c

-- ---- rings and parcels of bytes

module _ (r : bays.Ring) (ring : Bytes r.bytes) where
  -- What a ring holds,
  bytes_contents : Bytes (contents r)
  unfolding contents
  bytes_contents = bytes_table r.held _ (λ i. ring _)

  -- the ring that a reset leaves,
  bytes_reset : Bytes (reset_of r).bytes
  unfolding reset_of thrown_away
  bytes_reset = elim (test (in_range r.start r.size r.held)) [ holds e ↦ rw e (bytes_zeros 256) | fails e ↦ rw e ring ]

  module _ (p : Parcel) (parcel : Bytes p.bytes) (at n : ℕ) where
    -- that a put leaves,
    bytes_put : Bytes (put_of r p at n).bytes
    unfolding put_of entered_ring entered_byte coming_byte
    bytes_put =
        elim (test (put_fits r.start r.size r.held at n)) [
          | holds e ↦ rw e (bytes_table 256 (entered_byte r p at n) (λ k. either_byte (lies r.start r.size r.held (r.held + n) k) _ _ (parcel _) (ring k)))
          | fails e ↦ rw e ring
        ]

    -- that a get leaves,
    bytes_get : Bytes (get_of r p at n).ring.bytes
    unfolding get_of left left_byte
    bytes_get =
        elim (test (get_fits r.start r.size r.held at n)) [
          | holds e ↦ rw e (bytes_table 256 (left_byte r n) (λ k. either_byte (lies r.start r.size 0 n k) 0 _ (omega arith) (ring k)))
          | fails e ↦ rw e ring
        ]

    -- and the parcel that it fills
    bytes_got : Bytes (get_of r p at n).parcel.bytes
    unfolding get_of filled
    bytes_got =
        elim (test (get_fits r.start r.size r.held at n)) [
          | holds e ↦ rw e (bytes_append (take at p.bytes ++ take n (contents r)) (drop (at + n) p.bytes)
              (bytes_append (take at p.bytes) (take n (contents r)) (bytes_take at p.bytes parcel) (bytes_take n (contents r) bytes_contents))
              (bytes_drop (at + n) p.bytes parcel))
          | fails e ↦ rw e parcel
        ]

-- A new ring,
bytes_new : (size : ℕ) → Bytes (ring_of 0 size []).bytes
unfolding ring_of laid laid_byte
bytes_new size = bytes_table 256 (laid_byte 0 size []) (λ k. either_byte (ltb k size) 0 0 (omega arith) (omega arith))

-- an empty bay,
pub bytes_empty_bay : Bytes empty_bay.bytes
unfolding empty_bay
bytes_empty_bay = bytes_zeros 256

-- an empty parcel,
pub bytes_empty_parcel : Bytes empty_parcel.bytes
unfolding empty_parcel
bytes_empty_parcel = bytes_zeros 64

-- and the parcel of some bytes
bytes_parcel : (b : List ℕ) → Bytes b → Bytes (parcel_of b).bytes
unfolding parcel_of
bytes_parcel b h = bytes_append b (zeros (64 - length b)) h (bytes_zeros (64 - length b))

-- ---- small numbers

-- Every priority and every byte of a ring or a parcel is below 256
pub record SmallIn (processes : List Process) (rings : List bays.Ring) (parcels : List Parcel) : Type 0 where
  pub priorities : (p : ℕ) → (numbered processes p nobody).priority < 256
  pub ring_bytes : (b : ℕ) → Bytes (numbered rings b empty_bay).bytes
  pub parcel_bytes : (p : ℕ) → Bytes (numbered parcels p empty_parcel).bytes

-- The same of whole tables
abbrev pub Small : Tables → Type 0
Small t = SmallIn t.processes t.rings t.parcels

-- A list with one entry anew: what holds of the new one and of all before holds of all
replaced_holds : {A : Type 0} (P : A → Type 0) (l : List A) (p : ℕ) (x d : A) → P x → ((q : ℕ) → P (numbered l q d)) → (q : ℕ) → P (numbered (replaced l p x) q d)
replaced_holds P l p x d new old q =
    elim (test (eqb q p)) [
      | fails e ↦ rw (replaced_other l p x q d (eqb-false q p e)) (old q)
      | holds e ↦ elim (test (eqb p 0)) [
        | holds z ↦ rw (replaced_zero l p x (eqb-true p 0 z)) (old q)
        | fails z ↦ elim (test (leb p (length l))) [
          | holds h ↦ rw (eqb-true q p e, replaced_same l p x d (eqb-false p 0 z) (leb-true p (length l) h)) new
          | fails h ↦ rw (replaced_past l p x (leb-false p (length l) h)) (old q)
        ]
      ]
    ]

module _ (t : Tables) (small : Small t) where
  -- Another process with a small priority,
  small_process : (p : ℕ) (q : Process) → q.priority < 256 → Small (with_process t p q)
  unfolding with_process
  small_process p q h =
      record {
        priorities = replaced_holds (λ x. x.priority < 256) t.processes p q nobody h small.priorities;
        ring_bytes = small.ring_bytes;
        parcel_bytes = small.parcel_bytes;
      }

  -- another ring of bytes,
  small_ring : (b : ℕ) (r : bays.Ring) → Bytes r.bytes → Small (with_ring t b r)
  unfolding with_ring
  small_ring b r h =
      record {
        priorities = small.priorities;
        ring_bytes = replaced_holds (λ x. Bytes x.bytes) t.rings b r empty_bay h small.ring_bytes;
        parcel_bytes = small.parcel_bytes;
      }

  -- another parcel of bytes,
  small_parcel : (p : ℕ) (y : Parcel) → Bytes y.bytes → Small (with_parcel t p y)
  unfolding with_parcel
  small_parcel p y h =
      record {
        priorities = small.priorities;
        ring_bytes = small.ring_bytes;
        parcel_bytes = replaced_holds (λ x. Bytes x.bytes) t.parcels p y empty_parcel h small.parcel_bytes;
      }

  -- and any other structure
  small_structure : (n : ℕ) (s : Structure) → Small (with_structure t n s)
  unfolding with_structure
  small_structure n s = small

  -- So with a process that joins a line,
  small_joins : (p : ℕ) (place : Place) → Small (joins p place t)
  unfolding joins with_place process_of
  small_joins p place =
      elim (test (eqb p 0)) [
        | holds e ↦ rw e small
        | fails e ↦ rw e (small_process p (placed (process_of t p) place) (small.priorities p))
      ]

  -- also the runner,
  small_runner_joins : (place : Place) → Small (runner_joins place t)
  unfolding runner_joins
  small_runner_joins place = small_joins t.running place

  -- with one that is released,
  small_released : (p : ℕ) → Small (released p t)
  unfolding released
  small_released p = small_joins p (released_to (process_of t p).suspended)

  -- and with one that runs
  small_runs : (p : ℕ) → Small (runs p t)
  unfolding runs with_place process_of
  small_runs p = small_process p (placed (process_of t p) Running) (small.priorities p)

-- and with many that are released
small_released_all : (l : List ℕ) (t : Tables) → Small t → Small (released_all l t)
unfolding released_all
small_released_all [] t small = small
small_released_all (p ∷ l) t small = small_released_all l (released p t) (small_released t small p)

-- ---- the ready line

-- At the end of every accepted call, once
pub small_dispatched : (t : Tables) → Small t → Small (dispatched t)
unfolding dispatched dispatched_to
small_dispatched t small =
    let head = first (ready_line t) in
    elim (test (eqb head 0)) [
      | holds h ↦ rw h small
      | fails h ↦ elim (test (eqb t.running 0)) [
        | holds z ↦ rw (h, z) (small_runs t small head)
        | fails z ↦ elim (test (leb (process_of t head).priority (process_of t t.running).priority)) [
          | holds e ↦ rw (h, z, e) small
          | fails e ↦ rw (h, z, e) (small_runs (runner_joins Ready t) (small_runner_joins t small Ready) head)
        ]
      ]
    ]

-- ---- semaphores

module _ (n : ℕ) (t : Tables) (small : Small t) where
  -- Wait
  small_waited : Small (semaphores.waited n t).tables
  unfolding semaphores.waited semaphores.waited_at semaphores.with_kind
  small_waited =
      elim (test (eqb t.running 0)) [
        | holds z ↦ rw z small
        | fails z ↦ elim (test (is_semaphore (semaphores.kind_of n t))) [
          | fails e ↦ rw (z, e) small
          | holds e ↦ elim (test (ltb 0 (semaphores.value (semaphores.kind_of n t)))) [
            | holds v ↦ rw (z, e, v) (small_structure t small n _)
            | fails v ↦ rw (z, e, v) (small_runner_joins t small (Waiting n))
          ]
        ]
      ]

  -- Conditional wait
  small_conditionally_waited : Small (semaphores.conditionally_waited n t).tables
  unfolding semaphores.conditionally_waited
  small_conditionally_waited = elim (test (ltb 0 (semaphores.value (semaphores.kind_of n t)))) [ holds v ↦ rw v small_waited | fails v ↦ rw v small ]

  -- Signal
  small_signalled : Small (semaphores.signalled n t).tables
  unfolding semaphores.signalled semaphores.signalled_at semaphores.with_kind let_through
  small_signalled =
      elim (test (is_semaphore (semaphores.kind_of n t))) [
        | fails e ↦ rw e small
        | holds e ↦ elim (test (semaphores.has_line n t)) [
          | holds h ↦ rw (e, h) (small_released t small _)
          | fails h ↦ rw (e, h) (small_structure t small n _)
        ]
      ]

  -- Conditional signal
  small_conditionally_signalled : Small (semaphores.conditionally_signalled n t).tables
  unfolding semaphores.conditionally_signalled
  small_conditionally_signalled = elim (test (semaphores.has_line n t)) [ holds h ↦ rw h small_signalled | fails h ↦ rw h small ]

  -- Signal all
  small_all_signalled : Small (semaphores.all_signalled n t).tables
  unfolding semaphores.all_signalled semaphores.all_released
  small_all_signalled = elim (test (is_semaphore (semaphores.kind_of n t))) [ holds e ↦ rw e (small_released_all _ t small) | fails e ↦ rw e small ]

-- ---- structures

-- A structure with a number,
small_numbered : (n : ℕ) (kind : Kind) (t : Tables) → Small t → Small (structures.numbered_as n kind t).tables
unfolding structures.numbered_as
small_numbered n kind t small = small_structure t small n (record { kind = kind })

-- and creation
small_created : (kind amount : ℕ) (t : Tables) → Small t → Small (structures.created kind amount t).tables
small_created kind amount t small =
    created_by kind amount t (λ s. Small s.tables) small (λ most z. small_numbered _ (kinds.Binary amount) t small) (λ most z. small_numbered _ (kinds.Counting amount) t small)
    (λ some most z y. small_numbered _ (kinds.Ring (structures.free_bay t.structures)) (with_ring t _ (ring_of 0 amount [])) (small_ring t small _ (ring_of 0 amount []) (bytes_new amount)))

-- Delete structure, by its kind
small_deleted : (n : ℕ) (kind : Kind) (t : Tables) → Small t → Small (structures.deleted_at n t kind).tables
unfolding structures.deleted_at
small_deleted n kinds.Free t small = small
small_deleted n (kinds.Binary v) t small = small_structure t small n nothing
small_deleted n (kinds.Counting v) t small = small_structure t small n nothing
small_deleted n (kinds.Ring b) t small = small_ring (with_structure t n nothing) (small_structure t small n nothing) b empty_bay bytes_empty_bay

-- Structure value, by its kind
small_valued : (n : ℕ) (kind : Kind) (t : Tables) → Small t → Small (structures.valued_at n t kind).tables
unfolding structures.valued_at structures.valued_as
small_valued n kinds.Free t small = small
small_valued n (kinds.Binary v) t small = small
small_valued n (kinds.Counting v) t small = small
small_valued n (kinds.Ring b) t small = small

-- ---- processes

-- Create process: the newcomer's priority is the request's
small_newcomer : (priority : ℕ) (t : Tables) → Small t → priority < 256 → Small (processes.created priority t).tables
unfolding processes.created processes.created_as
small_newcomer priority t small h =
    elim (test (eqb (processes.free_process t) 0)) [
      | holds e ↦ rw e small
      | fails e ↦ rw e (small_process t small (processes.free_process t) (processes.newcomer priority) h)
    ]

-- Delete myself
small_deleted_myself : (t : Tables) → Small t → Small (processes.deleted_myself t).tables
unfolding processes.deleted_myself processes.gone
small_deleted_myself t small =
    elim (test (eqb t.running 0)) [
      | holds e ↦ rw e small
      | fails e ↦ rw e (small_parcel (with_process t t.running nobody) (small_process t small t.running nobody (omega arith)) t.running empty_parcel bytes_empty_parcel)
    ]

-- A process with another entry joins a line
small_changed : (p : ℕ) (q : Process) (place : Place) (t : Tables) → Small t → q.priority < 256 → Small (joins p place (with_process t p q))
small_changed p q place t small priority = small_joins (with_process t p q) (small_process t small p q priority) p place

-- Suspend, resume and change priority, by the place of process p, whose entry is to be q but for the mark
module _ (p : ℕ) (q : Process) (t : Tables) (small : Small t) (priority : q.priority < 256) where
  -- Suspended or not, it keeps its priority
  small_marked : (b : Bool) → Small (with_process t p (processes.marked b q))
  small_marked b = small_process t small p (processes.marked b q) priority

  -- Suspend
  small_suspended_from : (place : Place) → Small (processes.suspended_from place p q t).tables
  unfolding processes.suspended_from processes.parked
  small_suspended_from Nowhere = small
  small_suspended_from Running = small_changed p (processes.marked true q) Parked t small priority
  small_suspended_from Ready = small_changed p (processes.marked true q) Parked t small priority
  small_suspended_from Parked = small
  small_suspended_from (Waiting n) = small_marked true
  small_suspended_from (Getting n k) = small_marked true
  small_suspended_from (Putting n k) = small_marked true
  small_suspended_from (Asleep m) = small_marked true

  -- Resume
  small_resumed_from : (place : Place) → Small (processes.resumed_from place p q t).tables
  unfolding processes.resumed_from
  small_resumed_from Nowhere = small
  small_resumed_from Running = small
  small_resumed_from Ready = small
  small_resumed_from Parked = small_changed p (processes.marked false q) Ready t small priority
  small_resumed_from (Waiting n) = small_marked false
  small_resumed_from (Getting n k) = small_marked false
  small_resumed_from (Putting n k) = small_marked false
  small_resumed_from (Asleep m) = small_marked false

  -- Change priority, to that of q
  small_prioritised_from : (place : Place) → Small (processes.prioritised_from place p q t).tables
  unfolding processes.prioritised_from
  small_prioritised_from Nowhere = small
  small_prioritised_from Running = small_process t small p q priority
  small_prioritised_from Ready = small_changed p q Ready t small priority
  small_prioritised_from Parked = small_process t small p q priority
  small_prioritised_from (Waiting n) = small_process t small p q priority
  small_prioritised_from (Getting n k) = small_process t small p q priority
  small_prioritised_from (Putting n k) = small_process t small p q priority
  small_prioritised_from (Asleep m) = small_process t small p q priority

module _ (t : Tables) (small : Small t) where
  -- Suspend: one that is suspended already is not suspended again
  small_suspended : (p : ℕ) → Small (processes.suspended p t).tables
  unfolding processes.suspended processes.suspended_of process_of numbered
  small_suspended p =
      elim (test (process_of t p).suspended) [
        | holds e ↦ rw e small
        | fails e ↦ rw e (small_suspended_from p (process_of t p) t small (small.priorities p) (process_of t p).place)
      ]

  -- Resume: one that is not suspended is not resumed
  small_resumed : (p : ℕ) → Small (processes.resumed p t).tables
  unfolding processes.resumed processes.resumed_of process_of numbered
  small_resumed p =
      elim (test (process_of t p).suspended) [
        | holds e ↦ rw e (small_resumed_from p (process_of t p) t small (small.priorities p) (process_of t p).place)
        | fails e ↦ rw e small
      ]

  -- Change priority: to the present value changes nothing
  small_prioritised : (p l : ℕ) → l < 256 → Small (processes.prioritised p l t).tables
  unfolding processes.prioritised processes.prioritised_of
  small_prioritised p l h =
      elim (test (processes.is_free (process_of t p))) [
        | holds f ↦ rw f small
        | fails f ↦ elim (test (eqb (process_of t p).priority l)) [
          | holds e ↦ rw (f, e) small
          | fails e ↦ rw (f, e) (small_prioritised_from p (processes.with_priority l (process_of t p)) t small h (process_of t p).place)
        ]
      ]

  -- Schedule
  small_scheduled : Small (processes.scheduled t).tables
  unfolding processes.scheduled processes.head_runs
  small_scheduled =
      elim (test (eqb t.running 0)) [
        | holds z ↦ rw z small
        | fails z ↦ elim (test (processes.ready_has (process_of t t.running).priority t)) [
          | holds e ↦ rw (z, e) (small_runs (runner_joins Ready t) (small_runner_joins t small Ready) _)
          | fails e ↦ rw (z, e) small
        ]
      ]

  -- Process state
  small_stated : (p : ℕ) → Small (processes.stated p t).tables
  unfolding processes.stated processes.stated_of
  small_stated p = elim (test (processes.is_free (process_of t p))) [ holds e ↦ rw e small | fails e ↦ rw e small ]

  -- Sleep
  small_slept : (m : ℕ) → Small (processes.slept m t).tables
  unfolding processes.slept
  small_slept m =
      elim (test (eqb t.running 0)) [
        | holds z ↦ rw z small
        | fails z ↦ elim (test (eqb m 0)) [ holds e ↦ rw (z, e) small | fails e ↦ rw (z, e) (small_runner_joins t small (Asleep m)) ]
      ]

  -- No priority changes with time
  small_later : (k : ℕ) → Small (processes.all_later k t)
  unfolding processes.all_later
  small_later k =
      record {
        priorities = λ p. rw (mapped_at (processes.later k) refl t.processes p) (small.priorities p);
        ring_bytes = small.ring_bytes;
        parcel_bytes = small.parcel_bytes;
      }

  -- Tick
  small_ticked : (k : ℕ) → Small (processes.ticked k t).tables
  unfolding processes.ticked processes.due_released
  small_ticked k = small_released_all _ (processes.all_later k t) (small_later k)

-- ---- rings

-- One service,
small_served_as : (b p : ℕ) (place : Place) (t : Tables) → Small t → Small (served_as b p place t)
unfolding served_as served_getter served_putter with_moved entered ring_in parcel_for
small_served_as b p Nowhere t small = small
small_served_as b p Running t small = small
small_served_as b p Ready t small = small
small_served_as b p Parked t small = small
small_served_as b p (Waiting n) t small = small
small_served_as b p (Getting n l) t small =
    let ring = small.ring_bytes b in
    let parcel = small.parcel_bytes p in
    small_released _ (small_parcel _ (small_ring t small b _ (bytes_get (ring_in t b) ring (parcel_for t p) parcel 0 l)) p _ (bytes_got (ring_in t b) ring (parcel_for t p) parcel 0 l)) p
small_served_as b p (Putting n l) t small =
    small_released _ (small_parcel _ (small_ring t small b _ (bytes_put (ring_in t b) (small.ring_bytes b) (parcel_for t p) (small.parcel_bytes p) 0 l)) p empty_parcel bytes_empty_parcel) p
small_served_as b p (Asleep k) t small = small

-- so many,
small_services : (b : ℕ) (l : List ℕ) (t : Tables) → Small t → Small (services b l t)
unfolding services service
small_services b [] t small = small
small_services b (p ∷ l) t small = small_services b l (served_as b p (process_of t p).place t) (small_served_as b p (process_of t p).place t small)

-- and the whole serving, once the ring in bay b is another
small_served : (n b : ℕ) (r : bays.Ring) (t : Tables) → Small t → Bytes r.bytes → Small (served n b (with_ring t b r))
unfolding served
small_served n b r t small h = small_services b _ (with_ring t b r) (small_ring t small b r h)

module _ (n l : ℕ) (t : Tables) (small : Small t) where
  -- A put that goes through brings bytes,
  small_put_through : (b : ℕ) (bytes : List ℕ) → Bytes bytes → Small (rings.put_through n b l bytes t).tables
  unfolding rings.put_through entered ring_in
  small_put_through b bytes h =
      small_served n b (put_of (ring_in t b) (parcel_of (take l bytes)) 0 l) t small
      (bytes_put (ring_in t b) (small.ring_bytes b) (parcel_of (take l bytes)) (bytes_parcel (take l bytes) (bytes_take l bytes h)) 0 l)

  -- and so does one that waits
  small_put_by : (way : Way) (bytes : List ℕ) → Bytes bytes → Small (rings.put_by n l bytes way t).tables
  unfolding rings.put_by rings.put_waits
  small_put_by Closed bytes h = small
  small_put_by (AtOnce b) bytes h = small_put_through b bytes h
  small_put_by Blocked bytes h =
      small_runner_joins (with_parcel t t.running (parcel_of (take l bytes)))
      (small_parcel t small t.running (parcel_of (take l bytes)) (bytes_parcel (take l bytes) (bytes_take l bytes h))) (Putting n l)

  -- Put
  small_put : (bytes : List ℕ) → Bytes bytes → Small (rings.put_in n l bytes t).tables
  unfolding rings.put_in
  small_put bytes h = elim (test (eqb t.running 0)) [ holds z ↦ rw z small | fails z ↦ rw z (small_put_by (rings.way_in n l t) bytes h) ]

  -- Conditional put
  small_conditional_put_by : (way : Way) (bytes : List ℕ) → Bytes bytes → Small (rings.conditionally_put_by n l bytes way t).tables
  unfolding rings.conditionally_put_by
  small_conditional_put_by Closed bytes h = small
  small_conditional_put_by (AtOnce b) bytes h = small_put_through b bytes h
  small_conditional_put_by Blocked bytes h = small

  -- A get that goes through takes bytes away,
  small_got_through : (b : ℕ) → Small (rings.got_through n b l t).tables
  unfolding rings.got_through rings.got_from ring_in
  small_got_through b =
      small_served n b (get_of (ring_in t b) empty_parcel 0 l).ring t small (bytes_get (ring_in t b) (small.ring_bytes b) empty_parcel bytes_empty_parcel 0 l)

  -- and one that waits takes none
  small_got_by : (way : Way) → Small (rings.got_by n l way t).tables
  unfolding rings.got_by rings.get_waits
  small_got_by Closed = small
  small_got_by (AtOnce b) = small_got_through b
  small_got_by Blocked = small_runner_joins t small (Getting n l)

  -- Get
  small_got : Small (rings.got n l t).tables
  unfolding rings.got
  small_got = elim (test (eqb t.running 0)) [ holds z ↦ rw z small | fails z ↦ rw z (small_got_by (rings.way_out n l t)) ]

  -- Conditional get, by its way
  small_conditional_got_by : (way : Way) → Small (rings.conditionally_got_by n l way t).tables
  unfolding rings.conditionally_got_by
  small_conditional_got_by Closed = small
  small_conditional_got_by (AtOnce b) = small_got_through b
  small_conditional_got_by Blocked = small

  -- Conditional get
  small_conditional_got : Small (rings.conditionally_got n l t).tables
  unfolding rings.conditionally_got
  small_conditional_got = elim (test (eqb t.running 0)) [ holds z ↦ rw z small | fails z ↦ rw z (small_conditional_got_by (rings.way_out n l t)) ]

-- Reset ring, by its kind
small_reset : (n : ℕ) (kind : Kind) (t : Tables) → Small t → Small (rings.reset_kind n kind t).tables
unfolding rings.reset_kind rings.reset_in ring_in
small_reset n kinds.Free t small = small
small_reset n (kinds.Binary v) t small = small
small_reset n (kinds.Counting v) t small = small
small_reset n (kinds.Ring b) t small = small_served n b (reset_of (ring_in t b)) t small (bytes_reset (ring_in t b) (small.ring_bytes b))

-- Collect, by what the parcel holds
small_collected : (bytes : List ℕ) (holding : Option ℕ) (t : Tables) → Small t → Small (rings.collected_from bytes holding t).tables
unfolding rings.collected_from rings.collected_bytes
small_collected bytes None t small = small
small_collected bytes (Some l) t small = small_parcel t small t.running empty_parcel bytes_empty_parcel

-- ---- what an accepted request does

-- Every deed of a request whose fields are in range leaves small numbers small
pub small_done : (deed : Deed) (r : Record) (t : Tables) → Proper r → Small t → Small (done deed r t).tables
unfolding done structures.deleted structures.valued rings.conditionally_put rings.reset_ring rings.collected
small_done deeds.Unknown r t proper small = small
small_done deeds.Tick r t proper small = small_ticked t small 1
small_done deeds.CreateProcess r t proper small = small_newcomer r.l t small proper.l_byte
small_done deeds.DeleteMyself r t proper small = small_deleted_myself t small
small_done deeds.Suspend r t proper small = small_suspended t small r.n
small_done deeds.Resume r t proper small = small_resumed t small r.n
small_done deeds.ChangePriority r t proper small = small_prioritised t small r.n r.l proper.l_byte
small_done deeds.Schedule r t proper small = small_scheduled t small
small_done deeds.ProcessState r t proper small = small_stated t small r.n
small_done deeds.Sleep r t proper small = small_slept t small r.m
small_done deeds.CreateStructure r t proper small = small_created r.l r.m t small
small_done deeds.DeleteStructure r t proper small = small_deleted r.n (structure_of t r.n).kind t small
small_done deeds.StructureValue r t proper small = small_valued r.n (structure_of t r.n).kind t small
small_done deeds.Signal r t proper small = small_signalled r.n t small
small_done deeds.ConditionalSignal r t proper small = small_conditionally_signalled r.n t small
small_done deeds.SignalAll r t proper small = small_all_signalled r.n t small
small_done deeds.Wait r t proper small = small_waited r.n t small
small_done deeds.ConditionalWait r t proper small = small_conditionally_waited r.n t small
small_done deeds.Put r t proper small = small_put r.n r.l t small r.bytes proper.bytes_range
small_done deeds.ConditionalPut r t proper small = small_conditional_put_by r.n r.l t small (rings.way_in r.n r.l t) r.bytes proper.bytes_range
small_done deeds.Get r t proper small = small_got r.n r.l t small
small_done deeds.ConditionalGet r t proper small = small_conditional_got r.n r.l t small
small_done deeds.ResetRing r t proper small = small_reset r.n (structure_of t r.n).kind t small
small_done deeds.Collect r t proper small = small_collected (parcel_for t t.running).bytes (parcel_for t t.running).holds t small
