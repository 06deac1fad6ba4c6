-- What a change leaves: "only process p changed" and "only structure n changed", and what stays settled and still with them.
use Rattle.std.specs.Prelude.{ℕ, zero, suc, ◌+◌, ◌-◌, ◌≤◌, ◌<◌, ◌≡◌, Bool, cond, List, [], ◌∷◌, ◌⊎◌, eqb, leb, length, get_or, set}
use Rattle.std.proofs.Math.Path.{refl, sym, ap}
use Rattle.std.proofs.Common.{subst, ◌∙◌, true≢false, inr, arith, eq-eqb, eqb-true, leb-true, leb-false}
use Rattle.std.proofs.Math.Bool.{true, false}
use Rattle.std.proofs.Math.Logic.{inl, ⊎_elim}
use Rattle.std.proofs.lemmas.Bool.{eqb-false}
use Rattle.basics.specs.Tests.{test, holds, fails}
use Rattle.arrivals.specs.Order.{count, first, keep, zeros_first, moved_last}
use Rattle.arrivals.specs.Listed.{count_moved, length_moved}
use Rattle.arrivals.specs.Views.{head_of, keep_none, stays_moved, stays}
use Rattle.arrivals.specs.Zeros.{zeros_moved}
use Rattle.bay.specs.declared.Ring as bays
use Rattle.tables.specs.declared.Tables.{Tables}
use Rattle.tables.specs.declared.Process.{Process}
use Rattle.tables.specs.declared.Structure.{Structure}
use Rattle.tables.specs.declared.Place.{Place}
use Rattle.tables.specs.declared.Place.TheVariants.{Nowhere, Running, Ready, Parked, Waiting, Getting, Putting, Asleep}
use Rattle.tables.specs.declared.Kind.{Kind}
use Rattle.tables.specs.declared.Kind.TheVariants as kinds
use Rattle.std.specs.Prelude.{Option}
use Rattle.tables.specs.declared.Line.{Line}
use Rattle.tables.specs.declared.Line.TheVariants.{Semaphore, Getters, Putters}
use Rattle.tables.specs.Access.{numbered, replaced, nobody, nothing, process_of, ring_in}
use Rattle.tables.specs.Lines.{line, stands, standing, waits_at}
use Rattle.tables.specs.Laws.{numbered_zero, numbered_past, numbered_at, replaced_at, length_replaced, replaced_same, replaced_other}
use Rattle.tables.specs.Numbers.{code, spot, is_ring}
use Rattle.sound.specs.Decided.{Typed}
use Rattle.rings.specs.Serving.{asked, lengths_of, length_for, getter_goes, putter_goes, getter_can, putter_can}
use Rattle.rings.specs.Changes.{length_of}
use Rattle.structures.specs.Structures.{is_in, is_free}
use Rattle.sound.specs.Sound.{place_at, kind_at, ring_at, parcel_at, bay_of, listings, users, Listed, Runs, PlaceFits, Fits, Kept, ValueFits, BayFits, Settled, StillAt, Still}

-- ---- nobody

-- Number 0 is nobody, and stands nowhere
pub place_zero : (l : List Process) (p : ℕ) → p ≡ 0 → place_at l p ≡ Nowhere
place_zero l p e = ap (λ (q : Process). q.place) (numbered_zero l p nobody e)

-- Who is nowhere does not run
pub nowhere_runs : {A : Type 0} → Nowhere ≡ Running → A
nowhere_runs e = let z : ◌≡◌ {A = ℕ} 0 1 = cc in absurd (omega arith)

-- Nobody is listed twice
pub listings_most : (q : Place) → listings q ≤ 1
listings_most Nowhere = omega arith
listings_most Running = omega arith
listings_most Ready = omega arith
listings_most Parked = omega arith
listings_most (Waiting n) = omega arith
listings_most (Getting n l) = omega arith
listings_most (Putting n l) = omega arith
listings_most (Asleep k) = omega arith

-- ---- still: only the heads of the rings' lines, what they ask, and the rings are looked at

-- A place in no line of a ring
unfoldable pub Apart : Place → Type 0
Apart q = (n : ℕ) → (stands (Getters n) q ≡ false) × (stands (Putters n) q ≡ false)

-- The head of a line asks for as much as before, where its place is as it was or it never stood there
head_asks : (x : Line) (t u : Tables) → ((p : ℕ) → (place_at u.processes p ≡ place_at t.processes p) ⊎ (stands x (place_at t.processes p) ≡ false))
    → length_for (lengths_of u) (first (line x t)) ≡ length_for (lengths_of t) (first (line x t))
unfolding line process_of
head_asks x t u same =
    let h = first (keep (standing x t.processes) t.order) in
    length_of u h ∙ ⊎_elim (λ e. ap asked e)
    (λ apart. ⊎_elim (λ e. let z : h ≡ 0 = ap first e in ap asked (place_zero u.processes h z ∙ sym (place_zero t.processes h z)))
    (λ w. absurd (true≢false (sym w.0 ∙ apart))) (head_of (standing x t.processes) t.order))
    (same h) ∙ sym (length_of t h)

-- The head getter and the head putter can be served as before, where they and the ring are the same
getter_same : (n b : ℕ) (t u : Tables) → line (Getters n) u ≡ line (Getters n) t → ring_in u b ≡ ring_in t b
    → length_for (lengths_of u) (first (line (Getters n) t)) ≡ length_for (lengths_of t) (first (line (Getters n) t)) → getter_can n b u ≡ getter_can n b t
unfolding getter_can getter_goes
getter_same n b t u l r e = rw (l, r, e)

putter_same : (n b : ℕ) (t u : Tables) → line (Putters n) u ≡ line (Putters n) t → ring_in u b ≡ ring_in t b
    → length_for (lengths_of u) (first (line (Putters n) t)) ≡ length_for (lengths_of t) (first (line (Putters n) t)) → putter_can n b u ≡ putter_can n b t
unfolding putter_can putter_goes
putter_same n b t u l r e = rw (l, r, e)

-- The lines of ring n are as they were, and so is the place of each who stands there
pub record SameLines (n : ℕ) (t u : Tables) : Type 0 where
  pub getters : line (Getters n) u ≡ line (Getters n) t
  pub putters : line (Putters n) u ≡ line (Putters n) t
  pub places : (p : ℕ) → (place_at u.processes p ≡ place_at t.processes p) ⊎ Apart (place_at t.processes p)

-- Then its heads can be served exactly where they could
pub still_at : (n b : ℕ) (t u : Tables) → SameLines n t u → ring_in u b ≡ ring_in t b → StillAt n b t → StillAt n b u
unfolding Apart
still_at n b t u same ring still =
    record {
      getter = getter_same n b t u same.getters ring (head_asks (Getters n) t u (λ p. ⊎_elim inl (λ a. inr (a n).0) (same.places p))) ∙ still.getter;
      putter = putter_same n b t u same.putters ring (head_asks (Putters n) t u (λ p. ⊎_elim inl (λ a. inr (a n).1) (same.places p))) ∙ still.putter;
    }

-- Structures, rings and the rings' lines the same: still as before
pub still_same : (t u : Tables) → u.structures ≡ t.structures → u.rings ≡ t.rings → ((n : ℕ) → SameLines n t u) → Still t → Still u
unfolding Still ring_in
still_same t u structures rings same still n b k =
    still_at n b t u (same n) (rw rings) (still n b (rw structures at k))

-- ---- only process p changed

-- Between t and u only process p differs: every other process, all structures, rings and parcels, the order but for p, and the lines in which p does not stand are the same
pub record OnlyProcess (p : ℕ) (t u : Tables) : Type 0 where
  pub structures : u.structures ≡ t.structures
  pub rings : u.rings ≡ t.rings
  pub parcels : (x : ℕ) → (x ≡ p → ⊥) → parcel_at u.parcels x ≡ parcel_at t.parcels x
  pub others : (x : ℕ) → (x ≡ p → ⊥) → numbered u.processes x nobody ≡ numbered t.processes x nobody
  pub counts : (x : ℕ) → (x ≡ 0 → ⊥) → (x ≡ p → ⊥) → count x u.order ≡ count x t.order
  pub zeros : zeros_first u.order ≡ true
  pub runner : (x : ℕ) → (x ≡ 0 → ⊥) → (x ≡ p → ⊥) → (u.running ≡ x → t.running ≡ x) × (t.running ≡ x → u.running ≡ x)
  pub lines : (x : Line) → stands x (place_at t.processes p) ≡ false → stands x (place_at u.processes p) ≡ false → line x u ≡ line x t

-- What remains to be shown of p itself
pub record Own (p : ℕ) (u : Tables) : Type 0 where
  pub listed : Listed u.order u.processes p
  pub runs : Runs u.running u.processes p
  pub fits : Fits u.structures u.rings (numbered u.processes p nobody) (parcel_at u.parcels p).holds
  pub kept : Kept (parcel_at u.parcels p)

module _ {p : ℕ} {t u : Tables} (only : OnlyProcess p t u) where
  -- The others are listed as before,
  others_listed : (x : ℕ) → (x ≡ p → ⊥) → Listed t.order t.processes x → Listed u.order u.processes x
  others_listed x h s z = only.counts x z h ∙ s z ∙ ap (λ (q : Process). listings q.place) (sym (only.others x h))

  -- run as before
  others_runs : (x : ℕ) → (x ≡ p → ⊥) → Runs t.running t.processes x → Runs u.running u.processes x
  others_runs x h s =
      let same : place_at u.processes x ≡ place_at t.processes x = ap (λ (q : Process). q.place) (only.others x h) in
      record {
        only = λ e. elim (test (eqb x 0)) [
          | holds z ↦ nowhere_runs (sym (place_zero u.processes x (eqb-true x 0 z)) ∙ e)
          | fails z ↦ (only.runner x (eqb-false x 0 z) h).1 (s.only (sym same ∙ e))
        ];
        runner = λ z e. same ∙ s.runner z ((only.runner x z h).0 e);
      }

  -- and fit as before
  others_fits : (x : ℕ) → (x ≡ p → ⊥) → Fits t.structures t.rings (numbered t.processes x nobody) (parcel_at t.parcels x).holds
      → Fits u.structures u.rings (numbered u.processes x nobody) (parcel_at u.parcels x).holds
  others_fits x h s = rw (only.structures, only.rings, only.others x h, only.parcels x h) s

  -- Settled tables stay settled where p's own clauses hold
  pub settled_only : Settled t → Own p u → Settled u
  settled_only s own =
      record {
        listed = λ x. elim (test (eqb x p)) [ holds e ↦ rw (eqb-true x p e) own.listed | fails e ↦ others_listed x (eqb-false x p e) (s.listed x) ];
        runs = λ x. elim (test (eqb x p)) [ holds e ↦ rw (eqb-true x p e) own.runs | fails e ↦ others_runs x (eqb-false x p e) (s.runs x) ];
        fits = λ x. elim (test (eqb x p)) [ holds e ↦ rw (eqb-true x p e) own.fits | fails e ↦ others_fits x (eqb-false x p e) (s.fits x) ];
        kept = λ x. elim (test (eqb x p)) [ holds e ↦ rw (eqb-true x p e) own.kept | fails e ↦ rw (only.parcels x (eqb-false x p e)) (s.kept x) ];
        values = rw only.structures s.values;
        bays = rw (only.structures, only.rings) s.bays;
        zeros = only.zeros;
      }

  -- and still, where p stands in no ring's line before and after
  pub still_only : Apart (place_at t.processes p) → Apart (place_at u.processes p) → Still t → Still u
  unfolding Apart
  still_only was is still =
      still_same t u only.structures only.rings
      (λ n. record {
        getters = only.lines (Getters n) (was n).0 (is n).0;
        putters = only.lines (Putters n) (was n).1 (is n).1;
        places = λ x. elim (test (eqb x p)) [
          | holds e ↦ rw (eqb-true x p e) (inr was)
          | fails e ↦ inl (ap (λ (q : Process). q.place) (only.others x (eqb-false x p e)))
        ];
      }) still

-- ---- steady: sound but for who is to run

-- Of the arrays' lengths, settled and still: sound but for urgent
pub record Steady (t : Tables) : Type 0 where
  pub typed : Typed t
  pub settled : Settled t
  pub still : Still t

-- Process p has another entry q, the runner is r, and p may have moved to the end of the order
abbrev pub order_as : Bool → ℕ → List ℕ → List ℕ
order_as true p l = moved_last p l
order_as false p l = l

-- The tables with that change
abbrev pub changed_to : Bool → ℕ → Process → ℕ → Tables → Tables
changed_to moved p q r t =
    record { running = r; order = order_as moved p t.order; processes = replaced t.processes p q; structures = t.structures; rings = t.rings; parcels = t.parcels }

-- Whoever is not p runs after it exactly where it ran before
unfoldable pub SameRunner : ℕ → ℕ → ℕ → Type 0
SameRunner p was is = (x : ℕ) → (x ≡ 0 → ⊥) → (x ≡ p → ⊥) → (is ≡ x → was ≡ x) × (was ≡ x → is ≡ x)

-- The same runner; p ran, and nobody does; nobody ran, and p does
pub runner_same : (p r : ℕ) → SameRunner p r r
unfolding SameRunner
runner_same p r x z h = (λ e. e, λ e. e)

pub runner_left : (p r : ℕ) → r ≡ p → SameRunner p r 0
unfolding SameRunner
runner_left p r s x z h = (λ e. absurd (z (sym e)), λ e. absurd (h (sym e ∙ s)))

pub runner_new : (p r : ℕ) → r ≡ 0 → SameRunner p r p
unfolding SameRunner
runner_new p r s x z h = (λ e. absurd (h (sym e)), λ e. absurd (z (sym e ∙ s)))

-- A live process: in the table, and listed once
pub record Live (p : ℕ) (t : Tables) : Type 0 where
  pub some : p ≡ 0 → ⊥
  pub known : p ≤ length t.processes
  pub once : count p t.order ≡ 1

-- Whoever is somewhere is listed once
listings_live : (q : Place) → eqb (code q) 0 ≡ false → listings q ≡ 1
listings_live Nowhere e = absurd (true≢false e)
listings_live Running e = refl
listings_live Ready e = refl
listings_live Parked e = refl
listings_live (Waiting n) e = refl
listings_live (Getting n l) e = refl
listings_live (Putting n l) e = refl
listings_live (Asleep k) e = refl

-- Whoever has a place is live
pub is_live : (p : ℕ) (t : Tables) → Settled t → eqb (code (place_at t.processes p)) 0 ≡ false → Live p t
is_live p t s e =
    let some : p ≡ 0 → ⊥ = λ z. true≢false (sym (ap (λ (q : Place). eqb (code q) 0) (place_zero t.processes p z)) ∙ e) in
    record {
      some = some;
      known = elim (test (leb p (length t.processes))) [
        | holds b ↦ leb-true p (length t.processes) b
        | fails b ↦ absurd (true≢false (sym (ap (λ (q : Process). eqb (code q.place) 0) (numbered_past t.processes p nobody (leb-false p (length t.processes) b))) ∙ e))
      ];
      once = s.listed p some ∙ listings_live (place_at t.processes p) e;
    }

-- How p may change: it stays live, runs exactly where it is the runner, fits its new place, and stands in no ring's line or where it stood
pub record Change (moved : Bool) (p : ℕ) (q : Process) (r : ℕ) (t : Tables) : Type 0 where
  pub live : Live p t
  pub lives : eqb (code q.place) 0 ≡ false
  pub runner : SameRunner p t.running r
  pub runs : (q.place ≡ Running → r ≡ p) × (r ≡ p → q.place ≡ Running)
  pub fits : Fits t.structures t.rings q (parcel_at t.parcels p).holds
  pub lines : (Apart (place_at t.processes p) × Apart q.place) ⊎ ((q.place ≡ place_at t.processes p) × (moved ≡ false))

module _ {moved : Bool} {p : ℕ} {q : Process} {r : ℕ} {t : Tables} (steady : Steady t) (c : Change moved p q r t) where
  -- The tables after the change
  abbrev after : Tables
  after = changed_to moved p q r t

  -- p has the new entry, the others have theirs
  entry : numbered (replaced t.processes p q) p nobody ≡ q
  entry = replaced_same t.processes p q nobody c.live.some c.live.known

  entries : (x : ℕ) → (x ≡ p → ⊥) → numbered (replaced t.processes p q) x nobody ≡ numbered t.processes x nobody
  entries x h = replaced_other t.processes p q x nobody h

  -- so the others stand where they stood
  agree : (x : Line) (y : ℕ) → (y ≡ p → ⊥) → standing x (replaced t.processes p q) y ≡ standing x t.processes y
  agree x y h = ap (λ (e : Process). stands x e.place) (entries y h)

  -- Each is listed as often as before, and the zeros stand first
  counts : (x : ℕ) → count x (order_as moved p t.order) ≡ count x t.order
  counts x = elim moved as (λ k. count x (order_as k p t.order) ≡ count x t.order) [ true ↦ count_moved x p t.order | false ↦ refl ]

  zeros : zeros_first (order_as moved p t.order) ≡ true
  zeros = elim moved as (λ k. zeros_first (order_as k p t.order) ≡ true) [ true ↦ zeros_moved p t.order steady.settled.zeros c.live.some | false ↦ steady.settled.zeros ]

  -- A line in which p stands neither before nor after is as it was
  lines_stay : (x : Line) → stands x (place_at t.processes p) ≡ false → stands x (place_at (replaced t.processes p q) p) ≡ false → line x after ≡ line x t
  unfolding line
  lines_stay x was is =
      elim moved as (λ k. line x (changed_to k p q r t) ≡ line x t) [
        | true ↦ stays_moved (standing x t.processes) (standing x (replaced t.processes p q)) p (agree x) t.order was is
        | false ↦ stays (standing x t.processes) (standing x (replaced t.processes p q)) p (agree x) t.order (is ∙ sym was)
      ]

  -- Only p changed,
  only_changed : OnlyProcess p t after
  unfolding SameRunner
  only_changed =
      record {
        structures = refl;
        rings = refl;
        parcels = λ x h. refl;
        others = entries;
        counts = λ x z h. counts x;
        zeros = zeros;
        runner = c.runner;
        lines = lines_stay;
      }

  -- its own clauses hold,
  own_changed : Own p after
  own_changed =
      record {
        listed = λ z. counts p ∙ c.live.once ∙ sym (listings_live q.place c.lives) ∙ ap (λ (e : Process). listings e.place) (sym entry);
        runs = record { only = λ e. c.runs.0 (sym (ap (λ (x : Process). x.place) entry) ∙ e); runner = λ z e. ap (λ (x : Process). x.place) entry ∙ c.runs.1 e };
        fits = rw entry c.fits;
        kept = steady.settled.kept p;
      }

  -- nobody can be served,
  still_changed : Still after
  unfolding Apart line
  still_changed =
      ⊎_elim
      (λ w. still_only only_changed w.0 (subst (λ (z : Place). Apart z) (sym (ap (λ (x : Process). x.place) entry)) w.1) steady.still)
      (λ w.
      let place : place_at (replaced t.processes p q) p ≡ place_at t.processes p = ap (λ (x : Process). x.place) entry ∙ w.0 in
      still_same t after refl refl
      (λ n. record {
        getters = rw w.1 (stays (standing (Getters n) t.processes) (standing (Getters n) (replaced t.processes p q)) p (agree (Getters n)) t.order (ap (stands (Getters n)) place));
        putters = rw w.1 (stays (standing (Putters n) t.processes) (standing (Putters n) (replaced t.processes p q)) p (agree (Putters n)) t.order (ap (stands (Putters n)) place));
        places = λ x. inl (elim (test (eqb x p)) [ holds e ↦ rw (eqb-true x p e) place | fails e ↦ ap (λ (y : Process). y.place) (entries x (eqb-false x p e)) ]);
      }) steady.still)
      c.lines

  -- and the lists are as long as they were
  typed_changed : Typed after
  typed_changed =
      record {
        order = elim moved as (λ k. length (order_as k p t.order) ≡ 32) [ true ↦ length_moved p t.order ∙ steady.typed.order | false ↦ steady.typed.order ];
        processes = length_replaced t.processes p q ∙ steady.typed.processes;
        structures = steady.typed.structures;
        rings = steady.typed.rings;
        parcels = steady.typed.parcels;
      }

  -- Steady tables stay steady under such a change
  pub steady_changed : Steady after
  steady_changed = record { typed = typed_changed; settled = settled_only only_changed steady.settled own_changed; still = still_changed }

-- ---- only structure n changed

-- How many of one kind are rings in bay b: 1 or 0
abbrev pub in_bay : ℕ → Kind → ℕ
in_bay b kind = cond (is_in b kind) 1 0

-- The same by place
users_set : (b : ℕ) (l : List Structure) (i : ℕ) (s : Structure) → i < length l
    → users b (set l i s) + in_bay b (get_or l i nothing).kind ≡ users b l + in_bay b s.kind
users_set b [] i s h = absurd (omega arith)
users_set b (x ∷ l) zero s h = omega arith
users_set b (x ∷ l) (suc i) s h = omega (arith, users_set b l i s (omega arith))

-- A bay has one user less by the old kind and one more by the new
pub users_replaced : (b : ℕ) (l : List Structure) (n : ℕ) (s : Structure) → (n ≡ 0 → ⊥) → n ≤ length l
    → users b (replaced l n s) + in_bay b (kind_at l n) ≡ users b l + in_bay b s.kind
users_replaced b l n s z h =
    ap (λ (x : Structure). users b (replaced l n s) + in_bay b x.kind) (numbered_at l n nothing nothing z h)
    ∙ ap (λ (r : List Structure). users b r + in_bay b (get_or l (n - 1) nothing).kind) (replaced_at l n s z)
    ∙ users_set b l (n - 1) s (omega arith)

-- Who does not wait at n stands in none of its lines ..
pub unwaited_lines : (n : ℕ) (q : Place) → waits_at n q ≡ false → (stands (Getters n) q ≡ false) × (stands (Putters n) q ≡ false) × (stands (Semaphore n) q ≡ false)
unfolding waits_at stands
unwaited_lines n Nowhere e = (refl, refl, refl)
unwaited_lines n Running e = (refl, refl, refl)
unwaited_lines n Ready e = (refl, refl, refl)
unwaited_lines n Parked e = (refl, refl, refl)
unwaited_lines n (Waiting m) e = (refl, refl, e)
unwaited_lines n (Getting m l) e = (e, refl, refl)
unwaited_lines n (Putting m l) e = (refl, e, refl)
unwaited_lines n (Asleep k) e = (refl, refl, refl)

-- .. and fits its place whatever structure n is
pub unwaited_fits : (k j : Kind) (a b : ℕ) (q : Process) (h : Option ℕ) (place : Place) → waits_at (spot place) place ≡ false → PlaceFits k a q h place → PlaceFits j b q h place
unfolding waits_at
unwaited_fits k j a b q h Nowhere e f = f
unwaited_fits k j a b q h Running e f = f
unwaited_fits k j a b q h Ready e f = f
unwaited_fits k j a b q h Parked e f = f
unwaited_fits k j a b q h (Waiting m) e f = absurd (true≢false (sym (eq-eqb m m refl) ∙ e))
unwaited_fits k j a b q h (Getting m l) e f = absurd (true≢false (sym (eq-eqb m m refl) ∙ e))
unwaited_fits k j a b q h (Putting m l) e f = absurd (true≢false (sym (eq-eqb m m refl) ∙ e))
unwaited_fits k j a b q h (Asleep m) e f = f

-- A live structure has a number of the table
pub known_structure : (n : ℕ) (t : Tables) → is_free (kind_at t.structures n) ≡ false → (n ≡ 0 → ⊥) × (n ≤ length t.structures)
known_structure n t e = (
  λ z. true≢false (sym (ap (λ (s : Structure). is_free s.kind) (numbered_zero t.structures n nothing z)) ∙ e),
  elim (test (leb n (length t.structures))) [
    | holds b ↦ leb-true n (length t.structures) b
    | fails b ↦ absurd (true≢false (sym (ap (λ (s : Structure). is_free s.kind) (numbered_past t.structures n nothing (leb-false n (length t.structures) b))) ∙ e))
  ],
)

-- Nobody waits in a line of structure n
unfoldable pub Unwaited : ℕ → Tables → Type 0
Unwaited n t = (x : ℕ) → waits_at n (place_at t.processes x) ≡ false

-- Structure n is of another kind, and the rings are these
abbrev pub structured_to : ℕ → Structure → List bays.Ring → Tables → Tables
structured_to n s rings t =
    record { running = t.running; order = t.order; processes = t.processes; structures = replaced t.structures n s; rings = rings; parcels = t.parcels }

-- How structure n may change: nobody waits there, its value fits, every other ring's bay is as it was, and each bay fits
pub record Restructured (n : ℕ) (s : Structure) (rings : List bays.Ring) (t : Tables) : Type 0 where
  pub some : n ≡ 0 → ⊥
  pub known : n ≤ length t.structures
  pub unwaited : Unwaited n t
  pub value : ValueFits s.kind
  pub others : (m : ℕ) → (m ≡ n → ⊥) → ring_at rings (bay_of (kind_at t.structures m)) ≡ ring_at t.rings (bay_of (kind_at t.structures m))
  pub bays : (b : ℕ) → BayFits (users b (replaced t.structures n s)) (ring_at rings b)
  pub eight : length rings ≡ 8

module _ {n : ℕ} {s : Structure} {rings : List bays.Ring} {t : Tables} (steady : Steady t) (c : Restructured n s rings t) where
  -- The tables after the change
  abbrev then : Tables
  then = structured_to n s rings t

  -- Every other structure is as it was
  kind_same : (m : ℕ) → (m ≡ n → ⊥) → kind_at (replaced t.structures n s) m ≡ kind_at t.structures m
  kind_same m h = ap (λ (x : Structure). x.kind) (replaced_other t.structures n s m nothing h)

  -- Each process fits its place,
  fits_then : (p : ℕ) → Fits (replaced t.structures n s) rings (numbered t.processes p nobody) (parcel_at t.parcels p).holds
  unfolding Unwaited
  fits_then p =
      let place = place_at t.processes p in
      elim (test (eqb (spot place) n)) [
        | holds e ↦ unwaited_fits (kind_at t.structures (spot place)) _ _ _ (numbered t.processes p nobody) (parcel_at t.parcels p).holds place
            (rw (eqb-true (spot place) n e) (c.unwaited p)) (steady.settled.fits p)
        | fails e ↦ rw (kind_same (spot place) (eqb-false (spot place) n e), c.others (spot place) (eqb-false (spot place) n e)) (steady.settled.fits p)
      ]

  -- so all is settled
  settled_then : Settled then
  settled_then =
      record {
        listed = steady.settled.listed;
        runs = steady.settled.runs;
        fits = fits_then;
        kept = steady.settled.kept;
        values = λ m. elim (test (eqb m n)) [
          | holds e ↦ rw (eqb-true m n e) (subst (λ (x : Structure). ValueFits x.kind) (sym (replaced_same t.structures n s nothing c.some c.known)) c.value)
          | fails e ↦ subst (λ (k : Kind). ValueFits k) (sym (kind_same m (eqb-false m n e))) (steady.settled.values m)
        ];
        bays = c.bays;
        zeros = steady.settled.zeros;
      }

  -- Nobody can be served at n, since nobody waits there,
  still_own : (b : ℕ) → StillAt n b then
  unfolding getter_can putter_can getter_goes putter_goes line Unwaited
  still_own b =
      record {
        getter = rw (keep_none (standing (Getters n) t.processes) t.order (λ y h. (unwaited_lines n (place_at t.processes y) (c.unwaited y)).0)) refl;
        putter = rw (keep_none (standing (Putters n) t.processes) t.order (λ y h. (unwaited_lines n (place_at t.processes y) (c.unwaited y)).1)) refl;
      }

  -- the other rings' lines are as they were,
  lines_then : (m : ℕ) → SameLines m t then
  unfolding line
  lines_then m = record { getters = refl; putters = refl; places = λ p. inl refl }

  -- so nobody can be served
  still_then : Still then
  unfolding Still ring_in
  still_then m b k =
      elim (test (eqb m n)) [
        | holds e ↦ rw (eqb-true m n e) (still_own b)
        | fails e ↦
            let was : kind_at t.structures m ≡ kinds.Ring b = sym (kind_same m (eqb-false m n e)) ∙ k in
            still_at m b t then (lines_then m) (rw was at (c.others m (eqb-false m n e))) (steady.still m b was)
      ]

  -- Steady tables stay steady under such a change
  pub steady_restructured : Steady then
  steady_restructured =
      record {
        typed = record {
          order = steady.typed.order;
          processes = steady.typed.processes;
          structures = length_replaced t.structures n s ∙ steady.typed.structures;
          rings = c.eight;
          parcels = steady.typed.parcels;
        };
        settled = settled_then;
        still = still_then;
      }

-- A structure that is no ring becomes another that is none
no_bay : (kind : Kind) (b : ℕ) → is_ring kind ≡ false → in_bay b kind ≡ 0
no_bay kinds.Free b e = refl
no_bay (kinds.Binary v) b e = refl
no_bay (kinds.Counting v) b e = refl
no_bay (kinds.Ring c) b e = absurd (true≢false e)

-- So tables stay steady
pub steady_plain : (n : ℕ) (s : Structure) (t : Tables) → Steady t → (n ≡ 0 → ⊥) → n ≤ length t.structures → is_ring (kind_at t.structures n) ≡ false → is_ring s.kind ≡ false
    → ValueFits s.kind → Unwaited n t → Steady (structured_to n s t.rings t)
steady_plain n s t steady z known was is fits none =
    steady_restructured {n = n} {s = s} {rings = t.rings} {t = t} steady
    (record {
      some = z;
      known = known;
      unwaited = none;
      value = fits;
      others = λ m h. refl;
      bays = λ b.
          let same : users b (replaced t.structures n s) ≡ users b t.structures
          = omega (arith, users_replaced b t.structures n s z known, no_bay (kind_at t.structures n) b was, no_bay s.kind b is) in
          rw same (steady.settled.bays b);
      eight = steady.typed.rings;
    })
