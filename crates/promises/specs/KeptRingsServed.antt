-- Serving keeps tables settled, and still at every other ring; where it ends they are still at its own ring too.
use Rattle.std.specs.Prelude.{ℕ, ◌+◌, ◌≤◌, ◌≡◌, refl, Bool, true, false, List, ◌∷◌, eqb, length, take}
use Rattle.std.proofs.Math.Path.{sym, ap}
use Rattle.std.proofs.Common.{◌∙◌, arith, length-take-le, eqb-true, ne_eqb}
use Rattle.std.proofs.lemmas.Bool.{eqb-false}
use Rattle.basics.specs.Tests.{test, holds, fails}
use Rattle.arrivals.specs.Listed.{count_moved}
use Rattle.arrivals.specs.Zeros.{zeros_moved}
use Rattle.bay.specs.declared.Ring as bays
use Rattle.bay.specs.declared.Parcel.{Parcel}
use Rattle.std.specs.Prelude.{Option, None}
use Rattle.bay.specs.Bay.{Good, contents, empty_parcel, parcel_of, get_of}
use Rattle.bay.specs.Laws.{length_contents, get_good, get_parcel_of, put_good}
use Rattle.tables.specs.declared.Tables.{Tables}
use Rattle.tables.specs.declared.Process.{Process}
use Rattle.tables.specs.declared.Structure.{Structure}
use Rattle.tables.specs.declared.Place.TheVariants.{Running, Getting}
use Rattle.tables.specs.declared.Kind.TheVariants.{Ring}
use Rattle.tables.specs.declared.Line.TheVariants.{Getters, Putters}
use Rattle.tables.specs.Access.{nobody, process_of, ring_in, parcel_for, with_process, with_ring, with_parcel}
use Rattle.tables.specs.Laws.{replaced_same}
use Rattle.tables.specs.Lines.{line}
use Rattle.ready.specs.Ready.{placed, with_place, joins, released_to, released}
use Rattle.rings.specs.Serving.{asked, service, served}
use Rattle.rings.specs.Changes.{released_out, changed, Listed, changed_stays, changed_others, changed_ring, changed_rings, changed_running, changed_structures, changed_parcel, changed_parcels, changed_order, Fit}
use Rattle.rings.specs.Turns.{Chosen, gets, puts, is_getter, who_gets, ring_left, parcel_filled, getter_served, ring_size, is_putter, who_puts, ring_entered, putter_served, entered_size}
use Rattle.rings.proofs.Steps.{served_rests, served_keeps}
use Rattle.sound.specs.Sound.{place_at, kind_at, listings, Runs, Fits, PlaceFits, Kept, none, some, used, Settled, Still}
use Rattle.promises.specs.KeptRings.{one_ring, bay_used, But, Anew, settled_anew}
use Rattle.promises.specs.KeptRingsStill.{StillBut, getter_still, putter_still, WaitsAt, getter, putter, waits_live, waits_not_running, waits_apart}

-- ---- whoever is released

-- It is live,
released_live : (s : Bool) → listings (released_to s) ≡ 1
released_live true = refl
released_live false = refl

-- does not run,
released_not_running : (s : Bool) → released_to s ≡ Running → ⊥
released_not_running true e = let z : ◌≡◌ {A = ℕ} 0 1 = cc in omega arith
released_not_running false e = let z : ◌≡◌ {A = ℕ} 0 1 = cc in omega arith

-- and fits its place
released_fits : (structures : List Structure) (rings : List bays.Ring) (held : Option ℕ) (priority : ℕ) (s : Bool)
    → Fits structures rings (record { priority = priority; suspended = s; place = released_to s }) held
released_fits structures rings held priority true = refl
released_fits structures rings held priority false = refl

-- ---- one service

module _ (n b x : ℕ) (r : bays.Ring) (y : Parcel) (t : Tables) (s : Settled t) (fit : Fit b t) (is : Listed x t) (ring : kind_at t.structures n ≡ Ring b)
    (waits : WaitsAt n (process_of t x).place) (good : Good r) (size : r.size ≡ (ring_in t b).size) (kept : Kept y) where
  abbrev after : Tables
  after = changed b x r y t

  -- x is released, and otherwise as it was
  changed_process : process_of after x ≡ placed (process_of t x) (released_to (process_of t x).suspended)
  unfolding changed released joins with_place with_process with_ring with_parcel process_of
  changed_process = rw (ne_eqb x 0 is.some) (replaced_same t.processes x _ nobody is.some is.known)

  -- The rings have the sizes that they had
  changed_sizes : (c : ℕ) → (ring_in after c).size ≡ (ring_in t c).size
  changed_sizes c =
      elim (test (eqb c b)) [
        | holds e ↦ rw (eqb-true c b e, changed_ring b x r y t is fit.bay fit.within) size
        | fails e ↦ rw (changed_rings b x r y t is c (eqb-false c b e))
      ]

  -- Nothing but x, its parcel and the ring in bay b changes
  changed_but : But x t after
  unfolding process_of parcel_for ring_in
  changed_but =
      record {
        structures = changed_structures b x r y t is;
        counts = λ p. rw (changed_order b x r y t is) (count_moved p x t.order);
        zeros = rw (changed_order b x r y t is) (zeros_moved x t.order s.zeros is.some);
        others = changed_others b x r y t is;
        parcels = changed_parcels b x r y t is;
        sizes = changed_sizes;
      }

  -- Whoever runs runs on
  changed_runs : (p : ℕ) → Runs after.running after.processes p
  unfolding process_of
  changed_runs p =
      rw (changed_running b x r y t is) (elim (test (eqb p x)) [
        | holds e ↦ record {
          only = λ q. absurd (released_not_running (process_of t x).suspended (sym (ap (λ (z : Process). z.place) changed_process) ∙ ap (place_at after.processes) (sym (eqb-true p x e)) ∙ q));
          runner = λ z q. absurd (waits_not_running waits (ap (place_at t.processes) (sym (eqb-true p x e)) ∙ (s.runs p).runner z q));
        }
        | fails e ↦
            let same = ap (λ (z : Process). z.place) (changed_others b x r y t is p (eqb-false p x e)) in
            record { only = λ q. (s.runs p).only (sym same ∙ q); runner = λ z q. same ∙ (s.runs p).runner z q }
      ])

  -- The clauses of x, its parcel and the ring hold
  changed_anew : Anew x t after
  unfolding process_of parcel_for ring_in
  changed_anew =
      record {
        live = λ h. ap (λ (z : Process). listings z.place) changed_process ∙ released_live (process_of t x).suspended ∙ sym (waits_live waits);
        runs = changed_runs;
        fits = rw changed_process (released_fits t.structures t.rings _ (process_of t x).priority (process_of t x).suspended);
        kept = rw (changed_parcel b x r y t is) kept;
        bays = λ c. elim (test (eqb c b)) [
          | holds e ↦ rw (eqb-true c b e, changed_ring b x r y t is fit.bay fit.within) (used (bay_used n b s ring).0 good)
          | fails e ↦ rw (changed_rings b x r y t is c (eqb-false c b e)) (s.bays c)
        ];
      }

  -- So the tables are settled,
  pub settled_changed : Settled after
  settled_changed = settled_anew s changed_but changed_anew

  -- and as still at every other ring as before
  pub still_changed : StillBut n t → StillBut n after
  unfolding StillBut
  still_changed still m c other e =
      let was : kind_at t.structures m ≡ Ring c = rw (← changed_structures b x r y t is) e in
      let apart : c ≡ b → ⊥ = λ z. other (one_ring m n b s (was ∙ ap Ring z) ring) in
      let out = waits_apart m other waits in
      let bay = changed_rings b x r y t is c apart in
      record {
        getter = getter_still x t after (changed_others b x r y t is) m c bay (changed_stays b x r y t is (Getters m) (λ z. (released_out m z).0) out.0) out.0 ∙ (still m c other was).getter;
        putter = putter_still x t after (changed_others b x r y t is) m c bay (changed_stays b x r y t is (Putters m) (λ z. (released_out m z).1) out.1) out.1 ∙ (still m c other was).putter;
      }

-- What a getter and a putter have in their parcels
getter_fits : (structures : List Structure) (rings : List bays.Ring) (q : Process) (held : Option ℕ) (n l : ℕ) → q.place ≡ Getting n l → Fits structures rings q held → (1 ≤ l) × (l ≤ 64) × (held ≡ None)
getter_fits structures rings q held n l e f =
    let g : PlaceFits _ _ q held (Getting n l) = rw e at f in
    (g.0.some, g.0.most, g.1)

-- A parcel that holds nothing is empty
kept_empty : {parcel : Parcel} → Kept parcel → parcel.holds ≡ None → parcel ≡ empty_parcel
unfolding parcel_of
kept_empty (none e) h = e
kept_empty (some bytes a c e) h = let z : ◌≡◌ {A = ℕ} 0 1 = cc in absurd (omega arith)

-- Tables that are settled, and still but at ring n, which lies in bay b
pub record Serves (n b : ℕ) (t : Tables) : Type 0 where
  pub settled : Settled t
  pub still : StillBut n t
  pub ring : kind_at t.structures n ≡ Ring b

-- What one change keeps
serves_changed : (n b x : ℕ) (r : bays.Ring) (y : Parcel) (t : Tables) → Serves n b t → Fit b t → Listed x t → WaitsAt n (process_of t x).place → Good r → r.size ≡ (ring_in t b).size → Kept y → Serves n b (changed b x r y t)
serves_changed n b x r y t v fit is waits good size kept =
    record {
      settled = settled_changed n b x r y t v.settled fit is v.ring waits good size kept;
      still = still_changed n b x r y t v.settled fit is v.ring waits good size kept v.still;
      ring = rw (changed_structures b x r y t is) v.ring;
    }

-- The head getter
module _ (n b x : ℕ) (gs : List ℕ) (t : Tables) (fit : Fit b t) (v : Serves n b t) (e : line (Getters n) t ≡ x ∷ gs) (bytes : asked (process_of t x).place ≤ (ring_in t b).held) where
  abbrev want : ℕ
  want = asked (process_of t x).place

  -- Its parcel is empty before,
  getter_asks : (1 ≤ want) × (want ≤ 64) × ((parcel_for t x).holds ≡ None)
  unfolding process_of parcel_for
  getter_asks = getter_fits t.structures t.rings (process_of t x) (parcel_for t x).holds n want (is_getter n b x gs t fit e bytes) (v.settled.fits x)

  getter_empty : parcel_for t x ≡ empty_parcel
  unfolding parcel_for
  getter_empty = kept_empty (v.settled.kept x) getter_asks.2

  -- and holds its bytes then
  filled_kept : Kept (parcel_filled n b x gs t fit e bytes)
  filled_kept =
      let long : length (take want (contents (ring_in t b))) ≡ want = length-take-le want (contents (ring_in t b)) (rw (length_contents (ring_in t b)) bytes) in
      some (take want (contents (ring_in t b))) (rw long getter_asks.0) (rw long getter_asks.1) (ap (λ (y : Parcel). (get_of (ring_in t b) y 0 want).parcel) getter_empty ∙ get_parcel_of fit.good want bytes getter_asks.1)

  -- Its service is such a change
  serves_getter : Serves n b (service b x t)
  serves_getter =
      rw (getter_served n b x gs t fit e bytes)
      (serves_changed n b x (ring_left n b x gs t fit e bytes) (parcel_filled n b x gs t fit e bytes) t v fit (who_gets n b x gs t fit e bytes) (getter want (is_getter n b x gs t fit e bytes))
      (get_good fit.good want bytes (parcel_for t x) 0 (omega (arith, fit.short x))) (ring_size n b x gs t fit e bytes) filled_kept)

-- The head putter's service is one too
serves_putter : (n b x : ℕ) (ps : List ℕ) (t : Tables) → (fit : Fit b t) → Serves n b t → line (Putters n) t ≡ x ∷ ps → (ring_in t b).held + asked (process_of t x).place ≤ (ring_in t b).size → Serves n b (service b x t)
serves_putter n b x ps t fit v e room =
    rw (putter_served n b x ps t fit e room)
    (serves_changed n b x (ring_entered n b x ps t fit e room) empty_parcel t v fit (who_puts n b x ps t fit e room) (putter (asked (process_of t x).place) (is_putter n b x ps t fit e room))
    (put_good fit.good (parcel_for t x) 0 (asked (process_of t x).place) (fit.whole x) (omega (arith, fit.short x)) room) (entered_size n b x ps t fit e room) (none refl))

-- One service keeps it
pub serves_service : {n b x : ℕ} {t : Tables} → Fit b t → Chosen n b t x → Serves n b t → Serves n b (service b x t)
serves_service {n} {b} {x} {t} fit (gets y gs e bytes) v = serves_getter n b x gs t fit v e bytes
serves_service {n} {b} {x} {t} fit (puts y ps g e room) v = serves_putter n b x ps t fit v e room

-- ---- the whole serving

-- "until neither can"
pub served_sound : (n b : ℕ) (t : Tables) → Fit b t → Serves n b t → Settled (served n b t) × Still (served n b t)
unfolding Still StillBut
served_sound n b t fit v =
    let u = served_keeps n b t fit (λ w. Serves n b w) (λ w x f c q. serves_service f c q) v in (
      u.settled,
      λ m c e. elim (test (eqb m n)) [
        | holds q ↦
            let own : kind_at (served n b t).structures n ≡ Ring c = rw (eqb-true m n q) at e in
            let bay : c ≡ b = cc (own, u.ring) in
            rw (eqb-true m n q, bay) (record { getter = (served_rests n b t fit).0; putter = (served_rests n b t fit).1 })
        | fails q ↦ u.still m c (eqb-false m n q) e
      ],
    )
