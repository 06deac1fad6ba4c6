-- Every step keeps the fields of sound tables in the range of their types.
use Prim.Native.Nat.{ℕ, zero, suc, ◌-◌, ◌≤◌, ◌<◌}
use Rattle.std.specs.Prelude.{◌≡◌, refl, true, List, [], ◌∷◌, eqb, leb, length, get_or}
use Rattle.std.proofs.Common.{sym, ap, ◌∙◌, true≢false, leb-true, leb-false, ne_eqb}
use native.Mathlib.Omega.{arith}
use Rattle.basics.specs.Tests.{test, holds, fails}
use Rattle.arrivals.specs.Order.{count}
use Rattle.arrivals.specs.Listed.{one_same}
use Rattle.bay.specs.declared.Ring as bays
use Rattle.bay.specs.declared.Parcel.{Parcel}
use Rattle.std.specs.Prelude.{Option}
use Rattle.bay.specs.Bay.{empty_bay, empty_parcel, parcel_of}
use Rattle.bay.specs.Laws.{length_zeros, length_parcel_of, length_empty_parcel}
use Rattle.tables.specs.declared.Tables.{Tables}
use Rattle.tables.specs.declared.Process.{Process}
use Rattle.tables.specs.declared.Structure.{Structure}
use Rattle.tables.specs.declared.Place.{Place}
use Rattle.tables.specs.declared.Place.TheVariants.{Nowhere, Running, Ready, Parked, Waiting, Getting, Putting, Asleep}
use Rattle.tables.specs.declared.Kind.{Kind}
use Rattle.tables.specs.declared.Kind.TheVariants as kinds
use Rattle.tables.specs.Numbers.{spot, is_live, is_ring}
use Rattle.tables.specs.Access.{numbered, nobody, nothing}
use Rattle.tables.specs.Laws.{numbered_past}
use Rattle.records.specs.declared.Record.{Record}
use Rattle.records.specs.Records.{Bytes, Proper}
use Rattle.calls.specs.Calls.{row_of}
use Rattle.refusals.specs.Refusals.{refusal}
use Rattle.steps.specs.Steps.{done, replied_by, replied, refused, stepped_by, stepped}
use Rattle.layout.specs.Typed.{Every, every_map, PlaceTyped, KindTyped, ProcessTyped, StructureTyped, RingTyped, ParcelTyped, Typed}
use Rattle.sound.specs.Sound.{place_at, kind_at, ring_at, parcel_at, listings, AtZero, PlaceFits, Kept, none, some, ValueFits, BayFits, free, used}
use Rattle.promises.specs.Changes.{nowhere_runs}
use Rattle.promises.specs.Kept.{SoundTables, stepped_sound}
use Rattle.promises.specs.KeptSmall.{Small, bytes_empty_bay, bytes_empty_parcel, small_dispatched, small_done}

-- ---- each entry, and the one with each number

module _ {A : Type 0} (P : A → Type 0) (d : A) where
  -- What holds at each index holds of each entry,
  every_get_d : (l : List A) → ((i : ℕ) → P (get_or l i d)) → Every P l
  every_get_d [] h = tt
  every_get_d (x ∷ l) h = (h 0, every_get_d l (λ i. h (suc i)))

  -- and the other way, where it holds of what an index outside reads
  get_d_every : (l : List A) → P d → Every P l → (i : ℕ) → P (get_or l i d)
  get_d_every [] x e i = x
  get_d_every (y ∷ l) x e zero = e.0
  get_d_every (y ∷ l) x e (suc i) = get_d_every l x e.1 i

  -- So of the one with each number,
  every_numbered : (l : List A) → ((p : ℕ) → P (numbered l p d)) → Every P l
  unfolding numbered
  every_numbered l h = every_get_d l (λ i. let next : suc i - 1 ≡ i = omega arith in rw (ne_eqb (suc i) 0 (λ e. omega arith), next) at (h (suc i)))

  -- and the other way
  numbered_every : (l : List A) → P d → Every P l → (p : ℕ) → P (numbered l p d)
  unfolding numbered
  numbered_every l x e p = elim (test (eqb p 0)) [ holds z ↦ rw z x | fails z ↦ rw z (get_d_every l x e (p - 1)) ]

-- Tables whose fields are in range have small numbers
typed_small : (t : Tables) → Typed t → Small t
typed_small t typed =
    record {
      priorities = numbered_every (λ q. q.priority < 256) nobody t.processes (omega arith) (every_map ProcessTyped _ (λ q y. y.priority_range) t.processes typed.processes_range);
      ring_bytes = numbered_every (λ r. Bytes r.bytes) empty_bay t.rings bytes_empty_bay (every_map RingTyped _ (λ r y. y.bytes_range) t.rings typed.rings_range);
      parcel_bytes = numbered_every (λ x. Bytes x.bytes) empty_parcel t.parcels bytes_empty_parcel (every_map ParcelTyped _ (λ x y. y.bytes_range) t.parcels typed.parcels_range);
    }

-- ---- the numbers that a sound state has

-- Where nobody above n is listed, each listed number is at most n
listed_most : (n : ℕ) (l : List ℕ) → ((p : ℕ) → n < p → count p l ≡ 0) → (i : ℕ) → get_or l i 0 ≤ n
listed_most n [] h i = omega arith
listed_most n (x ∷ l) h zero = elim (test (leb x n)) [ holds e ↦ leb-true x n e | fails e ↦ absurd (omega (arith, one_same x, h x (leb-false x n e))) ]
listed_most n (x ∷ l) h (suc i) = listed_most n l (λ p u. omega (arith, h p u)) i

-- A structure that is live has a number of the table
live_most : (l : List Structure) (n : ℕ) → is_live (kind_at l n) ≡ true → n ≤ length l
live_most l n e =
    elim (test (leb n (length l))) [
      | holds h ↦ leb-true n (length l) h
      | fails h ↦ absurd (true≢false (sym e ∙ ap (λ (s : Structure). is_live s.kind) (numbered_past l n nothing (leb-false n (length l) h))))
    ]

-- A semaphore at 0 is live,
zero_live : (kind : Kind) → AtZero kind → is_live kind ≡ true
zero_live kinds.Free z = absurd z
zero_live (kinds.Binary v) z = refl
zero_live (kinds.Counting v) z = refl
zero_live (kinds.Ring b) z = refl

-- and so is a ring
ring_live : (kind : Kind) → is_ring kind ≡ true → is_live kind ≡ true
ring_live kinds.Free e = e
ring_live (kinds.Binary v) e = refl
ring_live (kinds.Counting v) e = refl
ring_live (kinds.Ring b) e = refl

-- So the numbers of a place that fits are in range,
place_typed : (l : List Structure) → length l ≡ 24 → (size : ℕ) (q : Process) (holding : Option ℕ) (place : Place) → PlaceFits (kind_at l (spot place)) size q holding place → PlaceTyped place
place_typed l long size q holding Nowhere fits = tt
place_typed l long size q holding Running fits = tt
place_typed l long size q holding Ready fits = tt
place_typed l long size q holding Parked fits = tt
place_typed l long size q holding (Waiting n) fits = omega (arith, live_most l n (zero_live (kind_at l n) fits))
place_typed l long size q holding (Getting n k) fits = (omega (arith, live_most l n (ring_live (kind_at l n) fits.0.ring)), omega (arith, fits.0.most))
place_typed l long size q holding (Putting n k) fits = (omega (arith, live_most l n (ring_live (kind_at l n) fits.0.ring)), omega (arith, fits.0.most))
place_typed l long size q holding (Asleep k) fits = omega (arith, fits.1)

-- the value of a structure,
kind_typed : (kind : Kind) → ValueFits kind → KindTyped kind
kind_typed kinds.Free fits = tt
kind_typed (kinds.Binary v) fits = omega arith
kind_typed (kinds.Counting v) fits = omega arith
kind_typed (kinds.Ring b) fits = omega (arith, fits.1)

-- a bay,
ring_typed : (uses : ℕ) (r : bays.Ring) → BayFits uses r → Bytes r.bytes → RingTyped r
unfolding empty_bay
ring_typed uses r (free u e) bytes = rw e (record { room = length_zeros 256; bytes_range = bytes_empty_bay; start_range = omega arith; size_range = omega arith; held_range = omega arith })
ring_typed uses r (used u good) bytes = record { room = good.room; bytes_range = bytes; start_range = omega arith; size_range = omega arith; held_range = omega arith }

-- and a parcel
parcel_typed : (x : Parcel) → Kept x → Bytes x.bytes → ParcelTyped x
unfolding empty_parcel parcel_of
parcel_typed x (none e) bytes = rw e (record { room = length_empty_parcel; bytes_range = bytes_empty_parcel; holds_range = tt })
parcel_typed x (some b one most e) bytes = record { room = rw e (length_parcel_of b most); bytes_range = bytes; holds_range = rw e (omega arith) }

-- ---- typed

module _ (t : Tables) (s : SoundTables t) where
  -- A number above 32 is nowhere,
  nowhere : (p : ℕ) → 32 < p → place_at t.processes p ≡ Nowhere
  nowhere p h = ap (λ (q : Process). q.place) (numbered_past t.processes p nobody (omega (arith, s.typed.processes)))

  -- does not run,
  running_most : t.running ≤ 32
  running_most =
      elim (test (leb t.running 32)) [
        | holds h ↦ leb-true t.running 32 h
        | fails h ↦
            let past : 32 < t.running = leb-false t.running 32 h in
            nowhere_runs (sym (nowhere t.running past) ∙ (s.sound.settled.runs t.running).runner (λ z. omega arith) refl)
      ]

  -- and is not listed
  order_most : (i : ℕ) → get_or t.order i 0 ≤ 32
  order_most = listed_most 32 t.order (λ p h. s.sound.settled.listed p (λ z. omega arith) ∙ ap listings (nowhere p h))

  -- Sound tables with small numbers have their fields in range
  pub sound_ranges : Small t → Typed t
  sound_ranges small =
      record {
        running_range = omega (arith, running_most);
        order_long = s.typed.order;
        order_range = λ i. omega (arith, order_most i);
        processes_long = s.typed.processes;
        processes_range = every_numbered ProcessTyped nobody t.processes
            (λ p. record { priority_range = small.priorities p; place_range = place_typed t.structures s.typed.structures _ (numbered t.processes p nobody) _ (place_at t.processes p) (s.sound.settled.fits p) });
        structures_long = s.typed.structures;
        structures_range = every_numbered StructureTyped nothing t.structures (λ n. record { kind_range = kind_typed (kind_at t.structures n) (s.sound.settled.values n) });
        rings_long = s.typed.rings;
        rings_range = every_numbered RingTyped empty_bay t.rings (λ b. ring_typed _ (ring_at t.rings b) (s.sound.settled.bays b) (small.ring_bytes b));
        parcels_long = s.typed.parcels;
        parcels_range = every_numbered ParcelTyped empty_parcel t.parcels (λ p. parcel_typed (parcel_at t.parcels p) (s.sound.settled.kept p) (small.parcel_bytes p));
      }

-- ---- a request

-- Every request leaves small numbers small: a refused one as they are, an accepted one by its deed and dispatched
stepped_small : (t : Tables) (r : Record) → Proper r → Small t → Small (stepped t r).tables
unfolding stepped stepped_by replied replied_by refused
stepped_small t r proper small =
    elim (test (eqb (refusal t r) 0)) [
      | holds e ↦ rw e (small_dispatched (done (row_of r.what).deed r t).tables (small_done (row_of r.what).deed r t proper small))
      | fails e ↦ rw e small
    ]

-- Every request whose fields are in range leaves every field of sound tables in the range of its type
pub stepped_typed : (t : Tables) (r : Record) → Proper r → Typed t → SoundTables t → Typed (stepped t r).tables
stepped_typed t r proper typed sound =
    sound_ranges (stepped t r).tables (stepped_sound t r proper.long sound) (stepped_small t r proper (typed_small t typed))
