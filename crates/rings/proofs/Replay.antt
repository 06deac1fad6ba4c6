-- The services, one after the other, on the parts of the tables that they change: the ring, the order, the processes and the parcels.
use Prim.Native.Nat.{ℕ, ◌+◌, ◌-◌, ◌%◌, ◌≤◌}
use mathlib.Core.Path.{ap, ◌≡◌, refl, sym, ◌∙◌}
use mathlib.Core.Bool.{Bool, true, false, cond, true≢false}
use mathlib.Core.List.{List}
use native.Mathlib.Omega.{arith}
use lib.Dec.{eqb, leb}
use lib.ListN.{length, get_or, set}
use lib.Seq.{set-set, set-get_or}
use borrow.Author.Tests.{eqb-true, eqb-false, leb-true, leb-false}
use Rattle.basics.specs.Tests.{test, holds, fails}
use Rattle.arrivals.specs.Order.{moved_last}
use Rattle.bay.specs.declared.Ring.{Ring}
use Rattle.bay.specs.declared.Parcel.{Parcel}
use Rattle.bay.specs.declared.Moved.{Moved}
use Rattle.bay.specs.Bay.{empty_bay, empty_parcel, in_range, put_fits, get_fits, put_of, get_of}
use Rattle.tables.specs.declared.Tables.{Tables}
use Rattle.tables.specs.declared.Process.{Process}
use Rattle.tables.specs.declared.Place.{Place}
use Rattle.tables.specs.declared.Place.TheVariants.{Nowhere, Running, Ready, Parked, Waiting, Getting, Putting, Asleep}
use Rattle.tables.specs.Access.{numbered, replaced, nobody, process_of, ring_in, parcel_for, with_ring, with_parcel}
use Rattle.tables.specs.Lines.{is_number}
use Rattle.tables.specs.Laws.{numbered_zero, numbered_past, numbered_at, replaced_at, replaced_same, length_replaced}
use Rattle.tables.proofs.Laws.{seen}
use Rattle.ready.specs.Ready.{placed, released_to}
use Rattle.ready.proofs.Laws.{one_released}
use Rattle.rings.specs.Serving.{IsRingOf, at_ring, exchanged, entered, with_moved, served_getter, served_putter, served_as, service}

-- ---- the ring that is taken out

-- A list with the one at p as it was
unreplaced : {A : Type 0} (l : List A) (p : ℕ) (d : A) → replaced l p (numbered l p d) ≡ l
unfolding replaced numbered
unreplaced l p d = elim (test (eqb p 0)) [ holds z ↦ rw z | fails z ↦ rw z (set-get_or l (p - 1) d) ]

-- Of two changes at p the second counts
replaced_again : {A : Type 0} (l : List A) (p : ℕ) (x y : A) → replaced (replaced l p x) p y ≡ replaced l p y
unfolding replaced
replaced_again l p x y = elim (test (eqb p 0)) [ holds z ↦ rw z | fails z ↦ rw z (set-set l (p - 1) x y) ]

-- The ring of bay b is the one that is put back there, and the tables are then as they were
pub put_back : (t : Tables) (b : ℕ) (ring : Ring) → ring ≡ ring_in t b → with_ring t b ring ≡ t
unfolding ring_in with_ring
put_back t b ring e = rw (e, unreplaced t.rings b empty_bay)

pub its_first : (t : Tables) (b : ℕ) (ring : Ring) → ring ≡ ring_in t b → IsRingOf b ring t
its_first t b ring e = ap (λ u. ring_in u b) (put_back t b ring e) ∙ sym e

-- A bay that no ring has gives nothing and takes nothing
no_get : (l : ℕ) → get_fits 0 0 0 0 l ≡ false
unfolding get_fits in_range
no_get l = elim (test (leb (0 + l) 64)) [ holds a ↦ rw a (elim (test (leb l 0)) [ holds c ↦ rw c | fails c ↦ rw c ]) | fails a ↦ rw a ]

no_put : (l : ℕ) → put_fits 0 0 0 0 l ≡ false
unfolding put_fits in_range
no_put l = elim (test (leb (0 + l) 64)) [ holds a ↦ rw a (elim (test (leb (0 + l) 0)) [ holds c ↦ rw c | fails c ↦ rw c ]) | fails a ↦ rw a ]

empty_stays : (place : Place) (x : Parcel) → (exchanged place empty_bay x).ring ≡ empty_bay
unfolding exchanged get_of put_of empty_bay
empty_stays Nowhere x = refl
empty_stays Running x = refl
empty_stays Ready x = refl
empty_stays Parked x = refl
empty_stays (Waiting n) x = refl
empty_stays (Getting n l) x = rw (no_get l)
empty_stays (Putting n l) x = rw (no_put l)
empty_stays (Asleep k) x = refl

-- After a service it is still the one of bay b
pub its_again : (t : Tables) (b : ℕ) (ring : Ring) (place : Place) (x : Parcel) (m : Moved) → m ≡ exchanged place ring x → IsRingOf b ring t → IsRingOf b m.ring t
unfolding ring_in with_ring
its_again t b ring place x m e its =
    let none : numbered (replaced t.rings b ring) b empty_bay ≡ empty_bay → empty_bay ≡ m.ring = λ w. rw (e, sym its ∙ w) (sym (empty_stays place x)) in
    elim (test (eqb b 0)) [
      | holds z ↦ numbered_zero _ b empty_bay (eqb-true b 0 z) ∙ none (numbered_zero _ b empty_bay (eqb-true b 0 z))
      | fails z ↦
          elim (test (leb b (length t.rings))) [
            | holds k ↦ replaced_same t.rings b m.ring empty_bay (eqb-false b 0 z) (leb-true b (length t.rings) k)
            | fails k ↦
                let past : (r : Ring) → numbered (replaced t.rings b r) b empty_bay ≡ empty_bay = λ r. numbered_past (replaced t.rings b r) b empty_bay (rw (length_replaced t.rings b r) (leb-false b (length t.rings) k)) in
                past m.ring ∙ none (past ring)
          ]
    ]

-- ---- a turn

-- A number that passed the test: its entry, and what was seen there
pub passed : (p k : ℕ) (c : Bool) → true ≡ cond (is_number p) c false → k ≡ (p + 31) % 32 → (p ≡ 0 → ⊥) × (p ≤ 32) × (k ≡ p - 1) × (c ≡ true)
unfolding is_number
passed p k c h e =
    elim (test (eqb p 0)) [
      | holds z ↦ absurd (true≢false (rw z at h))
      | fails z ↦
          elim (test (leb p 32)) [
            | holds g ↦
                let some : p ≡ 0 → ⊥ = eqb-false p 0 z in
                let known : p ≤ 32 = leb-true p 32 g in
                (some, known, omega arith, sym (rw (z, g) at h))
            | fails g ↦ absurd (true≢false (rw (z, g) at h))
          ]
    ]

-- One who stands in no line of a ring is passed over
away : (b p : ℕ) (place : Place) (t : Tables) → at_ring place ≡ false → t ≡ served_as b p place t
unfolding at_ring served_as
away b p Nowhere t h = refl
away b p Running t h = refl
away b p Ready t h = refl
away b p Parked t h = refl
away b p (Waiting n) t h = refl
away b p (Getting n l) t h = absurd (true≢false h)
away b p (Putting n l) t h = absurd (true≢false h)
away b p (Asleep k) t h = refl

-- Nobody stands at a ring
nobody_at : at_ring Nowhere ≡ false
unfolding at_ring
nobody_at = refl

pub none_served : (b p k : ℕ) (t : Tables) (c : Bool) (d : Process) → length t.processes ≡ 32 → k ≡ (p + 31) % 32
    → c ≡ cond (is_number p) (at_ring (get_or t.processes k d).place) false → c ≡ false → t ≡ service b p t
unfolding service process_of
none_served b p k t c d long e h n =
    away b p (numbered t.processes p nobody).place t (seen at_ring t.processes p d nobody_at long ∙ rw (← e) (sym h ∙ n))

-- The tables after a service: the order, the processes and the parcels are others
abbrev pub after : Tables → List ℕ → List Process → List Parcel → Tables
after t order processes parcels =
    record { running = t.running; order = order; processes = processes; structures = t.structures; rings = t.rings; parcels = parcels }

-- One who does is served: the ring and the parcel are exchanged, and it is released
module _ (t : Tables) (b : ℕ) (ring : Ring) (last : List ℕ) (p : ℕ) (m : Moved) (q d : Process) (x : Parcel)
    (some : p ≡ 0 → ⊥) (known : p ≤ length t.processes) (kept : p ≤ length t.parcels) (its : IsRingOf b ring t) (moves : last ≡ moved_last p t.order)
    (free : q ≡ placed (get_or t.processes (p - 1) d) (released_to (get_or t.processes (p - 1) d).suspended)) where
  served_as_lem : (place : Place) → at_ring place ≡ true → m ≡ exchanged place ring (get_or t.parcels (p - 1) x)
      → with_ring (after t last (set t.processes (p - 1) q) (set t.parcels (p - 1) m.parcel)) b m.ring ≡ served_as b p place (with_ring t b ring)
  unfolding at_ring exchanged served_as served_getter served_putter with_moved entered with_ring with_parcel ring_in parcel_for
  served_as_lem Nowhere h e = absurd (true≢false (sym h))
  served_as_lem Running h e = absurd (true≢false (sym h))
  served_as_lem Ready h e = absurd (true≢false (sym h))
  served_as_lem Parked h e = absurd (true≢false (sym h))
  served_as_lem (Waiting n) h e = absurd (true≢false (sym h))
  served_as_lem (Getting n l) h e =
      let g : Moved = get_of ring (get_or t.parcels (p - 1) x) 0 l in
      let u : Tables = with_ring (after t t.order t.processes (set t.parcels (p - 1) g.parcel)) b g.ring in
      rw (e, its, numbered_at t.parcels p empty_parcel x some kept, replaced_at t.parcels p g.parcel some, replaced_again t.rings b ring g.ring)
      (one_released u t.order last t.processes p some moves q d known free)
  served_as_lem (Putting n l) h e =
      let r : Ring = put_of ring (get_or t.parcels (p - 1) x) 0 l in
      let u : Tables = with_ring (after t t.order t.processes (set t.parcels (p - 1) empty_parcel)) b r in
      rw (e, its, numbered_at t.parcels p empty_parcel x some kept, replaced_at t.parcels p empty_parcel some, replaced_again t.rings b ring r)
      (one_released u t.order last t.processes p some moves q d known free)
  served_as_lem (Asleep k) h e = absurd (true≢false (sym h))

  numbered_served : at_ring (get_or t.processes (p - 1) d).place ≡ true → m ≡ exchanged (get_or t.processes (p - 1) d).place ring (get_or t.parcels (p - 1) x)
      → with_ring (after t last (set t.processes (p - 1) q) (set t.parcels (p - 1) m.parcel)) b m.ring ≡ service b p (with_ring t b ring)
  unfolding service process_of with_ring
  numbered_served h e = rw (numbered_at t.processes p nobody d some known) (served_as_lem (get_or t.processes (p - 1) d).place h e)

-- The same by the entry k of p
pub one_served : (t : Tables) (b : ℕ) (ring : Ring) (last : List ℕ) (p k : ℕ) (m : Moved) (q d : Process) (x : Parcel)
    → (p ≡ 0 → ⊥) → p ≤ length t.processes → p ≤ length t.parcels → k ≡ p - 1 → IsRingOf b ring t → last ≡ moved_last p t.order
    → q ≡ placed (get_or t.processes k d) (released_to (get_or t.processes k d).suspended)
    → at_ring (get_or t.processes k d).place ≡ true → m ≡ exchanged (get_or t.processes k d).place ring (get_or t.parcels k x)
    → with_ring (after t last (set t.processes k q) (set t.parcels k m.parcel)) b m.ring ≡ service b p (with_ring t b ring)
one_served t b ring last p k m q d x some known kept here its moves free h e =
    rw here (numbered_served t b ring last p m q d x some known kept its moves (rw here at free) (rw here at h) (rw here at e))
