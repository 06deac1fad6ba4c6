-- Each ring call leads from steady tables to steady ones: sound but for who is to run.
use Rattle.std.specs.Prelude.{ℕ, ◌+◌, ◌≤◌, ◌≡◌, Bool, true, false, cond, List, eqb, leb, length, take}
use Rattle.std.proofs.Math.Path.{refl, ap}
use Rattle.std.proofs.Common.{sym, ◌∙◌, true≢false, arith, length-take-le, eqb-true, leb-true}
use Rattle.std.proofs.lemmas.Bool.{eqb-false}
use Rattle.basics.specs.Tests.{test, holds, fails}
use Rattle.arrivals.specs.Order.{first}
use Rattle.bay.specs.declared.Ring as bays
use Rattle.bay.specs.declared.Parcel.{Parcel}
use Rattle.std.specs.Prelude.{Option, None, Some}
use Rattle.bay.specs.Bay.{Good, empty_bay, empty_parcel, parcel_of, ring_of, put_of, get_of, reset_of}
use Rattle.bay.specs.Laws.{length_parcel_of, put_ring, put_good, get_ring, get_good, reset_ring_lem, reset_good}
use Rattle.tables.specs.declared.Tables.{Tables}
use Rattle.tables.specs.declared.Process.{Process}
use Rattle.tables.specs.declared.Structure.{Structure}
use Rattle.tables.specs.declared.Place.TheVariants.{Running, Getting, Putting}
use Rattle.tables.specs.declared.Kind.{Kind}
use Rattle.tables.specs.declared.Kind.TheVariants.{Free, Binary, Counting, Ring}
use Rattle.tables.specs.declared.Line.TheVariants.{Getters, Putters}
use Rattle.tables.specs.Access.{numbered, replaced, process_of, structure_of, ring_in, parcel_for, with_ring, with_parcel}
use Rattle.tables.specs.Laws.{replaced_zero, replaced_same, replaced_other}
use Rattle.tables.specs.Lines.{line}
use Rattle.ready.specs.Ready.{placed}
use Rattle.rings.specs.declared.Way.{Way}
use Rattle.rings.specs.declared.Way.TheVariants.{Closed, AtOnce, Blocked}
use Rattle.rings.specs.Serving.{lengths_of, getter_can, putter_can, entered, served}
use Rattle.rings.specs.Changes.{Fit, fit_ring}
use Rattle.rings.specs.Turns.{nowhere_getting, nowhere_putting}
use Rattle.rings.specs.Rings.{allowed, at_once, way_of, way_into_ring, way_into_kind, way_in, way_out_of_ring, way_out_of_kind, way_out, put_through, put_waits, put_by, put_in, conditionally_put_by, conditionally_put, got_from, got_through, get_waits, got_by, got, conditionally_got_by, conditionally_got, reset_in, reset_kind, reset_ring, collected_bytes, collected_from, collected}
use Rattle.sound.specs.Sound.{kind_at, ring_at, parcel_at, bay_of, users, Asks, Fits, Kept, none, some, BayFits, used, Settled, Still}
use Rattle.promises.specs.Changes.{Steady}
use Rattle.promises.specs.KeptRings.{one_ring, bay_used, the_runner, settled_fit, But, Anew, settled_anew}
use Rattle.promises.specs.KeptRingsStill.{StillBut, getter_still, putter_still, getter, putter}
use Rattle.promises.specs.KeptRingsServed.{Serves, served_sound}
use Rattle.promises.specs.KeptRingsTyped.{typed_ring, typed_parcel, typed_runner_joins, typed_served}
use Rattle.promises.specs.KeptRingsJoined.{settled_joined, still_getter, still_putter}

-- ---- a transfer or a reset, then the lines are served

-- The ring in bay b is another good one of the same size
module _ (n b : ℕ) (r : bays.Ring) (t : Tables) (fit : Fit b t) (steady : Steady t) (ring : kind_at t.structures n ≡ Ring b) (good : Good r) (size : r.size ≡ (ring_in t b).size) where
  abbrev after : Tables
  after = with_ring t b r

  -- That ring, and the others
  ring_now : ring_in after b ≡ r
  unfolding with_ring ring_in
  ring_now = replaced_same t.rings b r empty_bay fit.bay fit.within

  ring_else : (c : ℕ) → (c ≡ b → ⊥) → ring_in after c ≡ ring_in t c
  unfolding with_ring ring_in
  ring_else c h = replaced_other t.rings b r c empty_bay h

  -- All have the sizes that they had,
  sizes_kept : (c : ℕ) → (ring_in after c).size ≡ (ring_in t c).size
  sizes_kept c =
      elim (test (eqb c b)) [
        | holds e ↦ rw (eqb-true c b e, ring_now) size
        | fails e ↦ rw (ring_else c (eqb-false c b e))
      ]

  -- and fit their bays
  bays_kept : (c : ℕ) → BayFits (users c t.structures) (ring_in after c)
  unfolding ring_in
  bays_kept c =
      elim (test (eqb c b)) [
        | holds e ↦ rw (eqb-true c b e, ring_now) (used (bay_used n b steady.settled ring).0 good)
        | fails e ↦ rw (ring_else c (eqb-false c b e)) (steady.settled.bays c)
      ]

  -- No process changes
  ring_but : But 0 t after
  unfolding with_ring ring_in
  ring_but =
      record {
        structures = refl;
        counts = λ p. refl;
        zeros = steady.settled.zeros;
        others = λ p h. refl;
        parcels = λ p h. refl;
        sizes = sizes_kept;
      }

  ring_anew : Anew 0 t after
  unfolding with_ring ring_in
  ring_anew = record { live = λ h. refl; runs = steady.settled.runs; fits = steady.settled.fits 0; kept = steady.settled.kept 0; bays = bays_kept }

  -- No line and no process changes
  same_lines : (m : ℕ) → (line (Getters m) after ≡ line (Getters m) t) × (line (Putters m) after ≡ line (Putters m) t)
  unfolding with_ring line
  same_lines m = (refl, refl)

  same_processes : (p : ℕ) → process_of after p ≡ process_of t p
  unfolding with_ring process_of
  same_processes p = refl

  -- So all but ring n is as settled and still as before
  pub serves_ring : Serves n b after
  unfolding with_ring process_of numbered StillBut Still
  serves_ring =
      record {
        settled = settled_anew steady.settled ring_but ring_anew;
        still = λ m c other e.
            let bay = ring_else c (λ z. other (one_ring m n b steady.settled (e ∙ ap Ring z) ring)) in
            let was = steady.still m c e in
            record {
              getter = getter_still 0 t after (λ p h. same_processes p) m c bay (same_lines m).0 (nowhere_getting m) ∙ was.getter;
              putter = putter_still 0 t after (λ p h. same_processes p) m c bay (same_lines m).1 (nowhere_putting m) ∙ was.putter;
            };
        ring = ring;
      }

  -- and once its lines are served, ring n too
  pub ring_served : Steady (served n b after)
  ring_served =
      let u = served_sound n b after (fit_ring fit r good) serves_ring in
      record { typed = typed_served n b after (typed_ring t steady.typed b r); settled = u.0; still = u.1 }

-- ---- the ways of a transfer

-- A length that a transfer may have
pub record Within (l size : ℕ) : Type 0 where
  pub some : 1 ≤ l
  pub most : l ≤ 64
  pub within : l ≤ size

-- as the test says
allowed_within : (l size : ℕ) → allowed l size ≡ true → Within l size
unfolding allowed
allowed_within l size h =
    elim (test (eqb l 0)) [
      | holds e ↦ absurd (true≢false (sym (rw e at h)))
      | fails e ↦ elim (test (leb l 64)) [
        | holds f ↦ record { some = omega (arith, eqb-false l 0 e); most = leb-true l 64 f; within = leb-true l size (rw (e, f) at h) }
        | fails f ↦ absurd (true≢false (sym (rw (e, f) at h)))
      ]
    ]

-- It fits the ring
asks : (n l b : ℕ) (t : Tables) → kind_at t.structures n ≡ Ring b → Within l (ring_in t b).size → Asks (kind_at t.structures n) (ring_at t.rings (bay_of (kind_at t.structures n))).size l
unfolding ring_in
asks n l b t ring w = rw ring (record { ring = refl; some = w.some; most = w.most; within = w.within })

-- It is closed; or it goes through at once, nobody before it and the room or bytes enough; or it is blocked, and is not enough where nobody is before it
module _ (P : Way → Type 0) (closed : P Closed) (b size l head : ℕ) (enough : Bool)
    (through : Within l size → head ≡ 0 → enough ≡ true → P (AtOnce b)) (waits : Within l size → (head ≡ 0 → enough ≡ false) → P Blocked) where
  at_once_lem : Within l size → P (cond (at_once head enough) (AtOnce b) Blocked)
  unfolding at_once
  at_once_lem w =
      elim (test (eqb head 0)) [
        | holds e ↦ rw e (elim (test enough) [
          | holds f ↦ rw f (through w (eqb-true head 0 e) f)
          | fails f ↦ rw f (waits w (λ z. f))
        ])
        | fails e ↦ rw e (waits w (λ z. absurd (eqb-false head 0 e z)))
      ]

  ways : P (way_of b size l head enough)
  unfolding way_of
  ways = elim (test (allowed l size)) [ holds e ↦ rw e (at_once_lem (allowed_within l size e)) | fails e ↦ rw e closed ]

-- The way in, and the way out
module _ (n l : ℕ) (t : Tables) (P : Way → Type 0) (closed : P Closed) where
  module _
      (through : (b : ℕ) → kind_at t.structures n ≡ Ring b → Within l (ring_in t b).size → (ring_in t b).held + l ≤ (ring_in t b).size → P (AtOnce b))
      (waits : (b : ℕ) → kind_at t.structures n ≡ Ring b → Within l (ring_in t b).size → (first (line (Putters n) t) ≡ 0 → leb ((ring_in t b).held + l) (ring_in t b).size ≡ false) → P Blocked) where
    -- Only a ring has a way in
    into_kind : (kind : Kind) → kind_at t.structures n ≡ kind → P (way_into_kind n l kind t)
    unfolding way_into_kind way_into_ring
    into_kind Free e = closed
    into_kind (Binary v) e = closed
    into_kind (Counting v) e = closed
    into_kind (Ring b) e =
        ways P closed b (ring_in t b).size l (first (line (Putters n) t)) (leb ((ring_in t b).held + l) (ring_in t b).size) (λ w h f. through b e w (leb-true _ _ f)) (waits b e)

    pub way_in_lem : P (way_in n l t)
    unfolding way_in structure_of
    way_in_lem = into_kind (kind_at t.structures n) refl

  module _
      (through : (b : ℕ) → kind_at t.structures n ≡ Ring b → Within l (ring_in t b).size → l ≤ (ring_in t b).held → P (AtOnce b))
      (waits : (b : ℕ) → kind_at t.structures n ≡ Ring b → Within l (ring_in t b).size → (first (line (Getters n) t) ≡ 0 → leb l (ring_in t b).held ≡ false) → P Blocked) where
    -- or out
    out_of_kind : (kind : Kind) → kind_at t.structures n ≡ kind → P (way_out_of_kind n l kind t)
    unfolding way_out_of_kind way_out_of_ring
    out_of_kind Free e = closed
    out_of_kind (Binary v) e = closed
    out_of_kind (Counting v) e = closed
    out_of_kind (Ring b) e =
        ways P closed b (ring_in t b).size l (first (line (Getters n) t)) (leb l (ring_in t b).held) (λ w h f. through b e w (leb-true _ _ f)) (waits b e)

    pub way_out_lem : P (way_out n l t)
    unfolding way_out structure_of
    way_out_lem = out_of_kind (kind_at t.structures n) refl

-- ---- put

module _ (n l : ℕ) (bytes : List ℕ) (t : Tables) (steady : Steady t) (long : length bytes ≡ 64) where
  module _ (b : ℕ) (ring : kind_at t.structures n ≡ Ring b) (w : Within l (ring_in t b).size) where
    -- So many bytes are brought
    front : length (take l bytes) ≡ l
    front = length-take-le l bytes (omega (arith, w.most))

    fit_now : Fit b t
    fit_now = settled_fit n b steady.typed steady.settled ring

    whole : length (parcel_of (take l bytes)).bytes ≡ 64
    whole = length_parcel_of (take l bytes) (omega (arith, front, w.most))

    -- "Put and get go through at once"
    put_through_lem : (ring_in t b).held + l ≤ (ring_in t b).size → Steady (put_through n b l bytes t).tables
    unfolding put_through entered ring_of
    put_through_lem room =
        ring_served n b (put_of (ring_in t b) (parcel_of (take l bytes)) 0 l) t fit_now steady ring
        (put_good fit_now.good (parcel_of (take l bytes)) 0 l whole (omega (arith, w.most)) room)
        (ap (λ (r : bays.Ring). r.size) (put_ring fit_now.good (parcel_of (take l bytes)) 0 l whole (omega (arith, w.most)) room))

    module _ (someone : t.running ≡ 0 → ⊥) (new : first (line (Putters n) t) ≡ 0 → leb ((ring_in t b).held + l) (ring_in t b).size ≡ false) where
      abbrev parcels_now : List Parcel
      parcels_now = replaced t.parcels t.running (parcel_of (take l bytes))

      -- Only the runner's parcel is another: it holds the bytes
      other_parcels : (p : ℕ) → (p ≡ t.running → ⊥) → parcel_at parcels_now p ≡ parcel_at t.parcels p
      other_parcels p h = replaced_other t.parcels t.running (parcel_of (take l bytes)) p empty_parcel h

      parcel_now : parcel_at parcels_now t.running ≡ parcel_of (take l bytes)
      parcel_now = replaced_same t.parcels t.running (parcel_of (take l bytes)) empty_parcel someone (rw steady.typed.parcels (the_runner steady.typed steady.settled someone).known)

      putter_fits : Fits t.structures t.rings (placed (process_of t t.running) (Putting n l)) (parcel_at parcels_now t.running).holds
      unfolding parcel_of
      putter_fits = (asks n l b t ring w, ap (λ (y : Parcel). y.holds) parcel_now ∙ ap Some front)

      putter_kept : Kept (parcel_at parcels_now t.running)
      putter_kept = some (take l bytes) (rw front w.some) (rw front w.most) parcel_now

      -- "else the caller joins that line, a putter with its bytes in its parcel"
      put_waits_lem : Steady (put_waits n l bytes t).tables
      unfolding put_waits with_parcel
      put_waits_lem =
          record {
            typed = typed_runner_joins (with_parcel t t.running (parcel_of (take l bytes))) (typed_parcel t steady.typed t.running (parcel_of (take l bytes))) (Putting n l);
            settled = settled_joined n (Putting n l) parcels_now t steady.typed steady.settled someone (putter l refl) other_parcels putter_fits putter_kept;
            still = still_putter n (Putting n l) parcels_now t steady.typed steady.settled someone (putter l refl) other_parcels putter_fits putter_kept steady.still b ring l refl new;
          }

  -- Call 18
  pub put_steady : Steady (put_in n l bytes t).tables
  unfolding put_in put_by
  put_steady =
      elim (test (eqb t.running 0)) [
        | holds e ↦ rw e steady
        | fails e ↦ rw e (way_in_lem n l t (λ way. Steady (put_by n l bytes way t).tables) steady
            put_through_lem (λ b ring w new. put_waits_lem b ring w (eqb-false t.running 0 e) new))
      ]

  -- Call 19
  pub conditional_put_steady : Steady (conditionally_put n l bytes t).tables
  unfolding conditionally_put conditionally_put_by
  conditional_put_steady =
      way_in_lem n l t (λ way. Steady (conditionally_put_by n l bytes way t).tables) steady
      put_through_lem (λ b ring w new. steady)

-- ---- get

module _ (n l : ℕ) (t : Tables) (steady : Steady t) where
  module _ (b : ℕ) (ring : kind_at t.structures n ≡ Ring b) (w : Within l (ring_in t b).size) where
    -- The bytes leave at once
    got_through_lem : l ≤ (ring_in t b).held → Steady (got_through n b l t).tables
    unfolding got_through got_from ring_of
    got_through_lem enough =
        let fit = settled_fit n b steady.typed steady.settled ring in
        ring_served n b (get_of (ring_in t b) empty_parcel 0 l).ring t fit steady ring
        (get_good fit.good l enough empty_parcel 0 (omega (arith, w.most)))
        (ap (λ (r : bays.Ring). r.size) (get_ring fit.good l enough empty_parcel 0 (omega (arith, w.most))))

    module _ (someone : t.running ≡ 0 → ⊥) (empty : (parcel_for t t.running).holds ≡ None) (new : first (line (Getters n) t) ≡ 0 → leb l (ring_in t b).held ≡ false) where
      getter_fits : Fits t.structures t.rings (placed (process_of t t.running) (Getting n l)) (parcel_at t.parcels t.running).holds
      unfolding parcel_for
      getter_fits = (asks n l b t ring w, empty)

      -- or the caller joins the getters
      get_waits_lem : Steady (get_waits n l t).tables
      unfolding get_waits
      get_waits_lem =
          record {
            typed = typed_runner_joins t steady.typed (Getting n l);
            settled = settled_joined n (Getting n l) t.parcels t steady.typed steady.settled someone (getter l refl) (λ p h. refl) getter_fits (steady.settled.kept t.running);
            still = still_getter n (Getting n l) t.parcels t steady.typed steady.settled someone (getter l refl) (λ p h. refl) getter_fits (steady.settled.kept t.running) steady.still b ring l refl new;
          }

  -- Call 20, by a process whose parcel holds nothing
  pub get_steady : (parcel_for t t.running).holds ≡ None → Steady (got n l t).tables
  unfolding got got_by
  get_steady empty =
      elim (test (eqb t.running 0)) [
        | holds e ↦ rw e steady
        | fails e ↦ rw e (way_out_lem n l t (λ way. Steady (got_by n l way t).tables) steady
            got_through_lem (λ b ring w new. get_waits_lem b ring w (eqb-false t.running 0 e) empty new))
      ]

  -- Call 21
  pub conditional_get_steady : Steady (conditionally_got n l t).tables
  unfolding conditionally_got conditionally_got_by
  conditional_get_steady =
      elim (test (eqb t.running 0)) [
        | holds e ↦ rw e steady
        | fails e ↦ rw e (way_out_lem n l t (λ way. Steady (conditionally_got_by n l way t).tables) steady
            got_through_lem (λ b ring w new. steady))
      ]

-- ---- reset

module _ (n : ℕ) (t : Tables) (steady : Steady t) where
  -- The held bytes are thrown away
  reset_in_lem : (b : ℕ) → kind_at t.structures n ≡ Ring b → Steady (reset_in n b t).tables
  unfolding reset_in ring_of
  reset_in_lem b ring =
      let fit = settled_fit n b steady.typed steady.settled ring in
      ring_served n b (reset_of (ring_in t b)) t fit steady ring (reset_good (ring_in t b) fit.good.numbers) (ap (λ (r : bays.Ring). r.size) (reset_ring_lem (ring_in t b) fit.good.numbers))

  -- of a ring; nothing else is reset
  reset_kind_lem : (kind : Kind) → kind_at t.structures n ≡ kind → Steady (reset_kind n kind t).tables
  unfolding reset_kind
  reset_kind_lem Free e = steady
  reset_kind_lem (Binary v) e = steady
  reset_kind_lem (Counting v) e = steady
  reset_kind_lem (Ring b) e = reset_in_lem b e

  -- Call 22
  pub reset_steady : Steady (reset_ring n t).tables
  unfolding reset_ring structure_of
  reset_steady = reset_kind_lem (kind_at t.structures n) refl

-- ---- collect

-- What a runner's parcel holds is free
running_fits : (structures : List Structure) (rings : List bays.Ring) (q : Process) (held now : Option ℕ) → q.place ≡ Running → Fits structures rings q held → Fits structures rings q now
running_fits structures rings q held now e f =
    let awake : q.suspended ≡ false = rw e at f in
    rw e awake

module _ (t : Tables) (steady : Steady t) where
  abbrev emptied : Tables
  emptied = with_parcel t t.running empty_parcel

  module _ (someone : t.running ≡ 0 → ⊥) where
    -- Only the runner's parcel changes
    emptied_but : But t.running t emptied
    unfolding with_parcel
    emptied_but =
        record {
          structures = refl;
          counts = λ p. refl;
          zeros = steady.settled.zeros;
          others = λ p h. refl;
          parcels = λ p h. replaced_other t.parcels t.running empty_parcel p empty_parcel h;
          sizes = λ c. refl;
        }

    emptied_anew : Anew t.running t emptied
    unfolding with_parcel
    emptied_anew =
        record {
          live = λ h. refl;
          runs = steady.settled.runs;
          fits = running_fits t.structures t.rings _ _ _ (the_runner steady.typed steady.settled someone).place (steady.settled.fits t.running);
          kept = none (replaced_same t.parcels t.running empty_parcel empty_parcel someone (rw steady.typed.parcels (the_runner steady.typed steady.settled someone).known));
          bays = steady.settled.bays;
        }

  -- The tables stay settled,
  emptied_settled : Settled emptied
  unfolding with_parcel
  emptied_settled =
      elim (test (eqb t.running 0)) [
        | holds e ↦ rw (replaced_zero t.parcels t.running empty_parcel (eqb-true t.running 0 e)) steady.settled
        | fails e ↦ settled_anew steady.settled (emptied_but (eqb-false t.running 0 e)) (emptied_anew (eqb-false t.running 0 e))
      ]

  -- and still
  emptied_still : Still emptied
  unfolding with_parcel Still getter_can putter_can line ring_in lengths_of
  emptied_still m c e = record { getter = (steady.still m c e).getter; putter = (steady.still m c e).putter }

  -- where there was something to collect
  collected_from_lem : (bytes : List ℕ) (held : Option ℕ) → Steady (collected_from bytes held t).tables
  unfolding collected_from collected_bytes
  collected_from_lem bytes None = steady
  collected_from_lem bytes (Some l) = record { typed = typed_parcel t steady.typed t.running empty_parcel; settled = emptied_settled; still = emptied_still }

  -- Call 23
  pub collect_steady : Steady (collected t).tables
  unfolding collected
  collect_steady = collected_from_lem (parcel_for t t.running).bytes (parcel_for t t.running).holds
