-- What settled tables say of a ring and its bay, and when tables of which one process, one parcel and one ring changed are settled again.
use Rattle.std.specs.Prelude.{ℕ, zero, suc, ◌-◌, ◌≤◌, ◌≡◌, refl, true, List, [], ◌∷◌, eqb, leb, length, get_or}
use Rattle.std.proofs.Common.{sym, ap, ◌∙◌, true≢false, arith, eqb-true, eq-eqb, ne_eqb, leb-true, leb-false}
use Rattle.std.proofs.lemmas.Bool.{eqb-false}
use Rattle.basics.specs.Tests.{test, holds, fails}
use Rattle.arrivals.specs.Order.{count, has, zeros_first}
use Rattle.arrivals.specs.Listed.{listed, is_listed}
use Rattle.bay.specs.declared.Parcel.{Parcel}
use Rattle.std.specs.Prelude.{Option}
use Rattle.bay.specs.Bay.{Good}
use Rattle.bay.specs.Laws.{length_parcel_of, length_empty_parcel}
use Rattle.tables.specs.declared.Tables.{Tables}
use Rattle.tables.specs.declared.Process.{Process}
use Rattle.tables.specs.declared.Structure.{Structure}
use Rattle.tables.specs.declared.Place.{Place}
use Rattle.tables.specs.declared.Place.TheVariants.{Nowhere, Running, Ready, Parked, Waiting, Getting, Putting, Asleep}
use Rattle.tables.specs.declared.Kind.{Kind}
use Rattle.tables.specs.declared.Kind.TheVariants.{Free, Ring}
use Rattle.tables.specs.Access.{numbered, nobody, nothing, process_of, ring_in, parcel_for}
use Rattle.tables.specs.Laws.{numbered_zero, numbered_past}
use Rattle.structures.specs.Structures.{is_in}
use Rattle.rings.specs.Serving.{asked}
use Rattle.rings.specs.Changes.{Fit}
use Rattle.sound.specs.Sound.{place_at, kind_at, ring_at, parcel_at, listings, users, Runs, Fits, PlaceFits, Kept, none, some, BayFits, free, used, Settled}
use Rattle.sound.specs.Decided.{Typed}
use Rattle.promises.specs.Changes.{listings_most}

-- ---- steady: sound but for who is to run

-- ---- each live ring has a bay of its own

-- A free number is no ring
free_no_ring : {b : ℕ} → Free ≡ Ring b → ⊥
free_no_ring e = let z : ◌≡◌ {A = ℕ} 0 1 = cc in omega arith

-- Who is a ring in bay b is among its users
module _ (b : ℕ) where
  users_one : (l : List Structure) (i : ℕ) → is_in b (get_or l i nothing).kind ≡ true → 1 ≤ users b l
  users_one [] i e = absurd (true≢false (sym e))
  users_one (s ∷ l) zero e = rw e (omega arith)
  users_one (s ∷ l) (suc i) e = omega (arith, users_one l i e)

  -- and two of them are two
  users_two : (l : List Structure) (i j : ℕ) → (i ≡ j → ⊥) → is_in b (get_or l i nothing).kind ≡ true → is_in b (get_or l j nothing).kind ≡ true → 2 ≤ users b l
  users_two [] i j h d e = absurd (true≢false (sym e))
  users_two (s ∷ l) zero zero h d e = absurd (h refl)
  users_two (s ∷ l) zero (suc j) h d e = rw d (omega (arith, users_one l j e))
  users_two (s ∷ l) (suc i) zero h d e = rw e (omega (arith, users_one l i d))
  users_two (s ∷ l) (suc i) (suc j) h d e = omega (arith, users_two l i j (λ q. h (ap suc q)) d e)

  -- A ring has a number
  ring_some : (l : List Structure) (n : ℕ) → kind_at l n ≡ Ring b → n ≡ 0 → ⊥
  ring_some l n e z = free_no_ring (sym (ap (λ (s : Structure). s.kind) (numbered_zero l n nothing z)) ∙ e)

  -- which names an entry of the list
  ring_at_lem : (l : List Structure) (n : ℕ) → (n ≡ 0 → ⊥) → numbered l n nothing ≡ get_or l (n - 1) nothing
  unfolding numbered
  ring_at_lem l n z = rw (ne_eqb n 0 z)

  -- so the entry is a ring in bay b
  ring_in_lem : (l : List Structure) (n : ℕ) → kind_at l n ≡ Ring b → is_in b (get_or l (n - 1) nothing).kind ≡ true
  ring_in_lem l n e =
      ap (λ (s : Structure). is_in b s.kind) (sym (ring_at_lem l n (ring_some l n e))) ∙ ap (is_in b) e ∙ eq-eqb b b refl

-- Of two rings in one bay both are the same
pub one_ring : {t : Tables} (m n b : ℕ) → Settled t → kind_at t.structures m ≡ Ring b → kind_at t.structures n ≡ Ring b → m ≡ n
one_ring {t} m n b s d e =
    elim (test (eqb m n)) [
      | holds q ↦ eqb-true m n q
      | fails q ↦
          let two = users_two b t.structures (m - 1) (n - 1) (λ z. eqb-false m n q (omega (arith, ring_some b t.structures m d, ring_some b t.structures n e))) (ring_in_lem b t.structures m d) (ring_in_lem b t.structures n e) in
          elim (s.bays b) [ free u z ↦ absurd (omega arith) | used u g ↦ absurd (omega arith) ]
    ]

-- The bay of a ring is used, so what lies there is good
pub bay_used : {t : Tables} (n b : ℕ) → Settled t → kind_at t.structures n ≡ Ring b → (users b t.structures ≡ 1) × Good (ring_at t.rings b)
bay_used {t} n b s e =
    let one = users_one b t.structures (n - 1) (ring_in_lem b t.structures n e) in
    elim (s.bays b) [ free u z ↦ absurd (omega arith) | used u g ↦ (u, g) ]

-- ---- settled tables are fit to be served

-- A length is at most 64
place_short : (kind : Kind) (size : ℕ) (q : Process) (held : Option ℕ) (place : Place) → PlaceFits kind size q held place → asked place ≤ 64
place_short kind size q held Nowhere f = omega arith
place_short kind size q held Running f = omega arith
place_short kind size q held Ready f = omega arith
place_short kind size q held Parked f = omega arith
place_short kind size q held (Waiting n) f = omega arith
place_short kind size q held (Getting n l) f = f.0.most
place_short kind size q held (Putting n l) f = f.0.most
place_short kind size q held (Asleep k) f = omega arith

-- A parcel has 64 bytes
pub kept_whole : {parcel : Parcel} → Kept parcel → length parcel.bytes ≡ 64
kept_whole (none e) = rw e length_empty_parcel
kept_whole (some bytes a h e) = rw e (length_parcel_of bytes h)

-- Who is listed has a number of the tables
pub listed_known : {t : Tables} (p : ℕ) → Typed t → Settled t → has p t.order ≡ true → p ≤ 32
listed_known {t} p typed s h =
    elim (test (leb p 32)) [
      | holds e ↦ leb-true p 32 e
      | fails e ↦
          let far = leb-false p 32 e in
          let none : listings (place_at t.processes p) ≡ 0 = ap (λ (q : Process). listings q.place) (numbered_past t.processes p nobody (rw typed.processes far)) in
          absurd (omega (arith, listed p t.order h, s.listed p (omega arith)))
    ]

-- Whoever runs has the place Running, is listed once, and has a number of the tables
pub record Runner (t : Tables) : Type 0 where
  pub place : place_at t.processes t.running ≡ Running
  pub once : count t.running t.order ≡ 1
  pub known : t.running ≤ 32

pub the_runner : {t : Tables} → Typed t → Settled t → (t.running ≡ 0 → ⊥) → Runner t
the_runner {t} typed s someone =
    let place = (s.runs t.running).runner someone refl in
    let once : count t.running t.order ≡ 1 = s.listed t.running someone ∙ ap listings place in
    record { place = place; once = once; known = listed_known t.running typed s (is_listed t.running t.order (omega arith)) }

-- A settled ring is fit to be served
pub settled_fit : {t : Tables} (n b : ℕ) → Typed t → Settled t → kind_at t.structures n ≡ Ring b → Fit b t
unfolding process_of ring_in parcel_for
settled_fit {t} n b typed s e =
    let v : (1 ≤ b) × (b ≤ 8) = rw e at (s.values n) in
    record {
      bay = λ z. omega (arith, v.0);
      within = rw typed.rings v.1;
      good = (bay_used n b s e).1;
      once = λ p h. rw (s.listed p h) (listings_most (place_at t.processes p));
      known = λ p h. (rw typed.processes (listed_known p typed s h), rw typed.parcels (listed_known p typed s h));
      short = λ p. place_short _ _ (numbered t.processes p nobody) _ (place_at t.processes p) (s.fits p);
      whole = λ p. kept_whole (s.kept p);
    }

-- ---- one process, one parcel and the bytes of rings change

-- Between t and u all is the same but process x, its parcel, who runs, the order's sequence, and the rings but for their sizes
pub record But (x : ℕ) (t u : Tables) : Type 0 where
  pub structures : u.structures ≡ t.structures
  pub counts : (p : ℕ) → count p u.order ≡ count p t.order
  pub zeros : zeros_first u.order ≡ true
  pub others : (p : ℕ) → (p ≡ x → ⊥) → numbered u.processes p nobody ≡ numbered t.processes p nobody
  pub parcels : (p : ℕ) → (p ≡ x → ⊥) → parcel_at u.parcels p ≡ parcel_at t.parcels p
  pub sizes : (c : ℕ) → (ring_at u.rings c).size ≡ (ring_at t.rings c).size

-- The clauses of x itself, of who runs, and of the bays
pub record Anew (x : ℕ) (t u : Tables) : Type 0 where
  pub live : (x ≡ 0 → ⊥) → listings (place_at u.processes x) ≡ listings (place_at t.processes x)
  pub runs : (p : ℕ) → Runs u.running u.processes p
  pub fits : Fits t.structures t.rings (numbered u.processes x nobody) (parcel_at u.parcels x).holds
  pub kept : Kept (parcel_at u.parcels x)
  pub bays : (c : ℕ) → BayFits (users c t.structures) (ring_at u.rings c)

module _ {x : ℕ} {t u : Tables} (s : Settled t) (but : But x t u) (anew : Anew x t u) where
  -- Everybody fits its place
  fits_anew : (p : ℕ) → Fits t.structures t.rings (numbered u.processes p nobody) (parcel_at u.parcels p).holds
  fits_anew p =
      elim (test (eqb p x)) [
        | holds e ↦ rw (eqb-true p x e) anew.fits
        | fails e ↦ rw (but.others p (eqb-false p x e), but.parcels p (eqb-false p x e)) (s.fits p)
      ]

  -- The tables are settled again
  pub settled_anew : Settled u
  settled_anew =
      record {
        listed = λ p h. but.counts p ∙ s.listed p h ∙ elim (test (eqb p x)) [
          | holds e ↦ rw (eqb-true p x e) (sym (anew.live (λ z. h (eqb-true p x e ∙ z))))
          | fails e ↦ sym (ap (λ (q : Process). listings q.place) (but.others p (eqb-false p x e)))
        ];
        runs = anew.runs;
        fits = λ p. rw (but.structures, but.sizes) (fits_anew p);
        kept = λ p. elim (test (eqb p x)) [
          | holds e ↦ rw (eqb-true p x e) anew.kept
          | fails e ↦ rw (but.parcels p (eqb-false p x e)) (s.kept p)
        ];
        values = λ n. rw but.structures (s.values n);
        bays = λ c. rw but.structures (anew.bays c);
        zeros = but.zeros;
      }
