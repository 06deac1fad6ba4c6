-- The runner joins a line of a ring: the tables are settled and still again, since it stands behind others or could not be served.
use Rattle.std.specs.Prelude.{ℕ, ◌+◌, ◌≤◌, ◌≡◌, true, false, List, [], ◌∷◌, ◌++◌, eqb, leb, length}
use Rattle.std.proofs.Math.Path.{refl, sym, ap}
use Rattle.std.proofs.Common.{subst, ◌∙◌, eqb-true, eq-eqb, ne_eqb}
use Rattle.std.proofs.lemmas.Bool.{eqb-false}
use Rattle.basics.specs.Tests.{test, holds, fails}
use Rattle.arrivals.specs.Order.{first, count, moved_last}
use Rattle.arrivals.specs.Zeros.{zeros_moved}
use Rattle.bay.specs.declared.Parcel.{Parcel}
use Rattle.tables.specs.declared.Tables.{Tables}
use Rattle.tables.specs.declared.Process.{Process}
use Rattle.tables.specs.declared.Place.{Place}
use Rattle.tables.specs.declared.Place.TheVariants.{Running, Getting, Putting}
use Rattle.tables.specs.declared.Kind.TheVariants.{Ring}
use Rattle.tables.specs.declared.Line.{Line}
use Rattle.tables.specs.declared.Line.TheVariants.{Getters, Putters}
use Rattle.tables.specs.Access.{nobody, process_of, ring_in, with_process, with_parcels}
use Rattle.tables.specs.Laws.{replaced_same}
use Rattle.tables.specs.Lines.{line, stands}
use Rattle.ready.specs.Ready.{placed, with_place, joins, runner_joins}
use Rattle.ready.specs.Laws.{OnlyPlaces, joins_enters, joins_stays, only_runner_joins}
use Rattle.rings.specs.Turns.{sides}
use Rattle.sound.specs.Sound.{place_at, kind_at, parcel_at, listings, Runs, Fits, Kept, Settled, StillAt, Still}
use Rattle.sound.specs.Decided.{Typed}
use Rattle.promises.specs.KeptRings.{the_runner, But, Anew, settled_anew}
use Rattle.promises.specs.KeptRingsStill.{getter_still, putter_still, getter_joins, putter_joins, WaitsAt, waits_live, waits_not_running, waits_apart}

-- The runner stands in no line
running_out : (n : ℕ) → (stands (Getters n) Running ≡ false) × (stands (Putters n) Running ≡ false)
unfolding stands
running_out n = (refl, refl)

-- Who joins stands in the line
stands_now : (n l : ℕ) → (stands (Getters n) (Getting n l) ≡ true) × (stands (Putters n) (Putting n l) ≡ true)
unfolding stands
stands_now n l = (eq-eqb n n refl, eq-eqb n n refl)

-- The runner joins the line of those in this place, of ring n; its parcel may be another
module _ (n : ℕ) (place : Place) (parcels : List Parcel) (t : Tables) (typed : Typed t) (s : Settled t) (some : t.running ≡ 0 → ⊥) (waits : WaitsAt n place)
    (parcel : (p : ℕ) → (p ≡ t.running → ⊥) → parcel_at parcels p ≡ parcel_at t.parcels p)
    (fits : Fits t.structures t.rings (placed (process_of t t.running) place) (parcel_at parcels t.running).holds)
    (kept : Kept (parcel_at parcels t.running)) where
  abbrev x : ℕ
  x = t.running

  abbrev after : Tables
  after = runner_joins place (with_parcels t parcels)

  -- It runs, is listed once and has a number of the tables
  is_running : (process_of t x).place ≡ Running
  unfolding process_of
  is_running = (the_runner typed s some).place

  once : count x t.order ≡ 1
  once = (the_runner typed s some).once

  known : x ≤ length t.processes
  known = rw typed.processes (the_runner typed s some).known

  -- Nothing but its place, the order and who runs changes
  after_only : OnlyPlaces x x (with_parcels t parcels) after
  after_only = only_runner_joins x place (with_parcels t parcels)

  -- What it leaves: its own entry, all others,
  after_process : process_of after x ≡ placed (process_of t x) place
  unfolding runner_joins joins with_place with_process process_of
  after_process = rw (ne_eqb x 0 some) (replaced_same t.processes x _ nobody some known)

  after_others : (p : ℕ) → (p ≡ x → ⊥) → process_of after p ≡ process_of t p
  unfolding process_of
  after_others p h = after_only.places p h h

  -- the order, and the other lists
  after_order : after.order ≡ moved_last x t.order
  unfolding runner_joins joins with_place with_process
  after_order = rw (ne_eqb x 0 some)

  after_structures : after.structures ≡ t.structures
  after_structures = after_only.structures

  after_rings : after.rings ≡ t.rings
  after_rings = after_only.rings

  after_parcels : after.parcels ≡ parcels
  after_parcels = after_only.parcels

  after_running : after.running ≡ 0
  unfolding runner_joins
  after_running = refl

  after_ring : (c : ℕ) → ring_in after c ≡ ring_in t c
  unfolding ring_in
  after_ring c = rw after_rings

  -- Nothing but the runner and its parcel changes
  joined_but : But x t after
  unfolding process_of
  joined_but =
      record {
        structures = after_structures;
        counts = after_only.listed;
        zeros = rw after_order (zeros_moved x t.order s.zeros some);
        others = after_others;
        parcels = λ p h. rw after_parcels (parcel p h);
        sizes = λ c. rw after_rings refl;
      }

  -- Nobody runs
  joined_runs : (p : ℕ) → Runs after.running after.processes p
  unfolding process_of
  joined_runs p =
      record {
        only = λ q. elim (test (eqb p x)) [
          | holds e ↦ absurd (waits_not_running waits (sym (ap (λ (z : Process). z.place) after_process) ∙ ap (place_at after.processes) (sym (eqb-true p x e)) ∙ q))
          | fails e ↦ absurd (eqb-false p x e (sym ((s.runs p).only (sym (ap (λ (z : Process). z.place) (after_others p (eqb-false p x e))) ∙ q))))
        ];
        runner = λ z q. absurd (z (sym q ∙ after_running));
      }

  -- The clauses of the runner hold
  joined_anew : Anew x t after
  unfolding process_of
  joined_anew =
      record {
        live = λ h. ap (λ (z : Process). listings z.place) after_process ∙ waits_live waits ∙ sym (ap listings is_running);
        runs = joined_runs;
        fits = subst (λ (z : Process). Fits t.structures t.rings z (parcel_at after.parcels x).holds) (sym after_process) (subst (λ (l : List Parcel). Fits t.structures t.rings (placed (process_of t x) place) (parcel_at l x).holds) (sym after_parcels) fits);
        kept = rw after_parcels kept;
        bays = λ c. rw after_rings (s.bays c);
      }

  -- So the tables are settled
  pub settled_joined : Settled after
  settled_joined = settled_anew s joined_but joined_anew

  -- A line in which the runner does not stand now is as it was, in the other it stands last
  stays : (l : Line) → stands l Running ≡ false → stands l place ≡ false → line l after ≡ line l t
  unfolding runner_joins line process_of
  stays l was is = joins_stays x place (with_parcels t parcels) some known once l (rw is_running was) is

  enters : (l : Line) → stands l Running ≡ false → stands l place ≡ true → line l after ≡ line l t ++ (x ∷ [])
  unfolding runner_joins line process_of
  enters l was is = joins_enters x place (with_parcels t parcels) some known once l (rw is_running was) is

  -- Every ring but n is as still as it was
  other_still : Still t → (m c : ℕ) → (m ≡ n → ⊥) → kind_at after.structures m ≡ Ring c → StillAt m c after
  unfolding Still
  other_still still m c other e =
      let was = still m c (rw (← after_structures) e) in
      let out = waits_apart m other waits in
      record {
        getter = getter_still x t after after_others m c (after_ring c) (stays (Getters m) (running_out m).0 out.0) (rw is_running (running_out m).0) ∙ was.getter;
        putter = putter_still x t after after_others m c (after_ring c) (stays (Putters m) (running_out m).1 out.1) (rw is_running (running_out m).1) ∙ was.putter;
      }

  -- and so is ring n: where nobody stood in the line, the newcomer could not be served
  own_getter : (l b : ℕ) → place ≡ Getting n l → StillAt n b t → (first (line (Getters n) t) ≡ 0 → leb l (ring_in t b).held ≡ false) → StillAt n b after
  own_getter l b e still new =
      record {
        getter = getter_joins x t after after_others n b (after_ring b) (enters (Getters n) (running_out n).0 (rw e (stands_now n l).0)) (rw is_running (running_out n).0) some still.getter (λ z. rw (after_process, e) (new z));
        putter = putter_still x t after after_others n b (after_ring b) (stays (Putters n) (running_out n).1 (rw e (sides n l).0)) (rw is_running (running_out n).1) ∙ still.putter;
      }

  own_putter : (l b : ℕ) → place ≡ Putting n l → StillAt n b t → (first (line (Putters n) t) ≡ 0 → leb ((ring_in t b).held + l) (ring_in t b).size ≡ false) → StillAt n b after
  own_putter l b e still new =
      record {
        getter = getter_still x t after after_others n b (after_ring b) (stays (Getters n) (running_out n).0 (rw e (sides n l).1)) (rw is_running (running_out n).0) ∙ still.getter;
        putter = putter_joins x t after after_others n b (after_ring b) (enters (Putters n) (running_out n).1 (rw e (stands_now n l).1)) (rw is_running (running_out n).1) some still.putter (λ z. rw (after_process, e) (new z));
      }

  module _ (still : Still t) (b : ℕ) (ring : kind_at t.structures n ≡ Ring b) where
    -- So they are still at every ring
    still_joined : (StillAt n b t → StillAt n b after) → Still after
    unfolding Still
    still_joined own m c e =
        elim (test (eqb m n)) [
          | holds q ↦
              let now : kind_at t.structures n ≡ Ring c = rw (eqb-true m n q, after_structures) at e in
              let bay : c ≡ b = cc (now, ring) in
              rw (eqb-true m n q, bay) (own (still n b ring))
          | fails q ↦ other_still still m c (eqb-false m n q) e
        ]

    -- As a getter
    pub still_getter : (l : ℕ) → place ≡ Getting n l → (first (line (Getters n) t) ≡ 0 → leb l (ring_in t b).held ≡ false) → Still after
    still_getter l e new = still_joined (λ was. own_getter l b e was new)

    -- As a putter
    pub still_putter : (l : ℕ) → place ≡ Putting n l → (first (line (Putters n) t) ≡ 0 → leb ((ring_in t b).held + l) (ring_in t b).size ≡ false) → Still after
    still_putter l e new = still_joined (λ was. own_putter l b e was new)
