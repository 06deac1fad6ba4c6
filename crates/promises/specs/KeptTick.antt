-- A tick keeps tables steady: it is as if those who are due kept their remainder until they are released.
use Rattle.std.specs.Prelude.{ℕ, suc, ◌-◌, ◌<◌, ◌≡◌, refl, true, false, cond, List, [], ◌∷◌, map, ◌⊎◌, eqb, leb, length, get_or}
use Rattle.std.proofs.Common.{sym, ◌∙◌, true≢false, inl, inr, ⊎_elim, arith, ext_get_or, eqb-true, leb-true, leb-false}
use Rattle.std.proofs.Math.Path.{ap}
use Rattle.std.proofs.lemmas.List.{length-map}
use Rattle.std.proofs.Math.ListN.{get_or-map}
use Rattle.std.proofs.lemmas.Bool.{eqb-false}
use Rattle.basics.specs.Tests.{test, holds, fails}
use Rattle.arrivals.specs.Order.{has, keep, moved_last}
use Rattle.arrivals.specs.Listed.{is_listed}
use Rattle.arrivals.specs.Views.{keep_same, has_keep, in_line}
use Rattle.std.specs.Prelude.{Option}
use Rattle.tables.specs.declared.Tables.{Tables}
use Rattle.tables.specs.declared.Process.{Process}
use Rattle.tables.specs.declared.Kind.{Kind}
use Rattle.tables.specs.declared.Place.{Place}
use Rattle.tables.specs.declared.Place.TheVariants.{Nowhere, Running, Ready, Parked, Waiting, Getting, Putting, Asleep}
use Rattle.tables.specs.declared.Line.{Line}
use Rattle.tables.specs.declared.Line.TheVariants.{Getters, Putters}
use Rattle.tables.specs.Numbers.{code, spot}
use Rattle.tables.specs.Access.{numbered, replaced, nobody, process_of, with_processes, with_process}
use Rattle.tables.specs.Lines.{line, stands, standing}
use Rattle.tables.specs.Laws.{numbered_zero, numbered_at, length_replaced, numbered_past, replaced_past, replaced_same, replaced_other, replaced_unseen}
use Rattle.ready.specs.Ready.{placed, with_place, joins, released_to, released, released_all}
use Rattle.processes.specs.Processes.{fallen, later, all_later, is_due, due_of, due, due_released, ticked}
use Rattle.sound.specs.Sound.{place_at, kind_at, ring_at, parcel_at, bay_of, listings, PlaceFits, Settled}
use Rattle.promises.specs.Changes.{Apart, still_same, Steady, Live, is_live}
use Rattle.promises.specs.KeptReady.{apart_asleep, movable, released_all_steady}

-- ---- the places of those who are released do not matter

-- Two lists of processes that differ at most in the places of those of l
pub record Twin (l : List ℕ) (ps qs : List Process) : Type 0 where
  pub long : length ps ≡ length qs
  pub same : (x : ℕ) → (has x l ≡ true) ⊎ (numbered ps x nobody ≡ numbered qs x nobody)
  pub rest : (x : ℕ) → placed (numbered ps x nobody) Ready ≡ placed (numbered qs x nobody) Ready

-- They are the same list where l is empty
twin_none : (ps qs : List Process) → Twin [] ps qs → ps ≡ qs
twin_none ps qs w =
    ext_get_or nobody ps qs w.long
    (λ i h.
    let s : suc i - 1 ≡ i = omega arith in
    let both : get_or ps (suc i - 1) nobody ≡ get_or qs (suc i - 1) nobody
    = sym (numbered_at ps (suc i) nobody nobody (λ e. omega arith) (omega arith))
    ∙ ⊎_elim (λ e. absurd (true≢false (sym e))) (λ e. e) (w.same (suc i))
    ∙ numbered_at qs (suc i) nobody nobody (λ e. omega arith) (omega (arith, w.long)) in
    rw s at both)

-- p's entry becomes the same in both
twin_replaced : (p : ℕ) (l : List ℕ) (ps qs : List Process) (place other : Place) → place ≡ other → (p ≡ 0 → ⊥) → Twin (p ∷ l) ps qs
    → Twin l (replaced ps p (placed (numbered ps p nobody) place)) (replaced qs p (placed (numbered qs p nobody) other))
twin_replaced p l ps qs place other same z w =
    record {
      long = length_replaced ps p a ∙ w.long ∙ sym (length_replaced qs p b);
      same = λ x. elim (test (eqb x p)) [
        | holds e ↦ inr (rw (eqb-true x p e) at_p)
        | fails e ↦ ⊎_elim
            (λ h. inl (elim (test (eqb p x)) [ holds f ↦ absurd (eqb-false x p e (sym (eqb-true p x f))) | fails f ↦ rw f at h ]))
            (λ h. inr (replaced_other ps p a x nobody (eqb-false x p e) ∙ h ∙ sym (replaced_other qs p b x nobody (eqb-false x p e))))
            (w.same x)
      ];
      rest = λ x. replaced_unseen ps p a (λ q. placed q Ready) nobody refl x ∙ w.rest x ∙ sym (replaced_unseen qs p b (λ q. placed q Ready) nobody refl x);
    }
  where
    a : Process
    a = placed (numbered ps p nobody) place

    b : Process
    b = placed (numbered qs p nobody) other

    a_b : a ≡ b
    a_b = ap (λ (q : Process). placed q place) (w.rest p) ∙ ap (placed (numbered qs p nobody)) same

    at_p : numbered (replaced ps p a) p nobody ≡ numbered (replaced qs p b) p nobody
    at_p =
        elim (test (leb p (length ps))) [
          | holds h ↦ replaced_same ps p a nobody z (leb-true p (length ps) h) ∙ a_b ∙ sym (replaced_same qs p b nobody z (omega (arith, leb-true p (length ps) h, w.long)))
          | fails h ↦
              let past : length ps < p = leb-false p (length ps) h in
              rw (replaced_past ps p a past, replaced_past qs p b (omega (arith, w.long)), numbered_past ps p nobody past, numbered_past qs p nobody (omega (arith, w.long)))
        ]

-- Nobody's entry is the same in both
twin_zero : (p : ℕ) (l : List ℕ) (ps qs : List Process) → p ≡ 0 → Twin (p ∷ l) ps qs → Twin l ps qs
twin_zero p l ps qs z w =
    record {
      long = w.long;
      same = λ x. elim (test (eqb p x)) [
        | holds e ↦ let y : x ≡ 0 = sym (eqb-true p x e) ∙ z in inr (numbered_zero ps x nobody y ∙ sym (numbered_zero qs x nobody y))
        | fails e ↦ ⊎_elim (λ h. inl (rw e at h)) inr (w.same x)
      ];
      rest = w.rest;
    }

-- So the tables are the same once those of l are released
twin_released : (l : List ℕ) (t : Tables) (ps qs : List Process) → Twin l ps qs → released_all l (with_processes t ps) ≡ released_all l (with_processes t qs)
unfolding released_all released joins with_place with_process process_of
twin_released [] t ps qs w = rw (twin_none ps qs w)
twin_released (p ∷ l) t ps qs w =
    elim (test (eqb p 0)) [
      | holds z ↦ rw z (twin_released l t ps qs (twin_zero p l ps qs (eqb-true p 0 z) w))
      | fails z ↦
          let susp : (numbered ps p nobody).suspended ≡ (numbered qs p nobody).suspended = ap (λ (q : Process). q.suspended) (w.rest p) in
          rw z (twin_released l (record { running = t.running; order = moved_last p t.order; processes = t.processes; structures = t.structures; rings = t.rings; parcels = t.parcels })
          (replaced ps p (placed (numbered ps p nobody) (released_to (numbered ps p nobody).suspended))) (replaced qs p (placed (numbered qs p nobody) (released_to (numbered qs p nobody).suspended)))
          (twin_replaced p l ps qs (released_to (numbered ps p nobody).suspended) (released_to (numbered qs p nobody).suspended) (ap released_to susp) (eqb-false p 0 z) w))
    ]

-- ---- every remainder falls, but for those who are due

-- A remainder falls by k; one that would reach 0 stays
slower : ℕ → Place → Place
slower k Nowhere = Nowhere
slower k Running = Running
slower k Ready = Ready
slower k Parked = Parked
slower k (Waiting n) = Waiting n
slower k (Getting n m) = Getting n m
slower k (Putting n m) = Putting n m
slower k (Asleep m) = Asleep (cond (eqb (m - k) 0) m (m - k))

-- A process so
abbrev slowed : ℕ → Process → Process
slowed k q = placed q (slower k q.place)

-- The same place, or asleep before and after
slower_same : (k : ℕ) (place : Place) → (slower k place ≡ place) ⊎ Apart place
unfolding slower
slower_same k Nowhere = inl refl
slower_same k Running = inl refl
slower_same k Ready = inl refl
slower_same k Parked = inl refl
slower_same k (Waiting n) = inl refl
slower_same k (Getting n m) = inl refl
slower_same k (Putting n m) = inl refl
slower_same k (Asleep m) = inr (apart_asleep m)

-- It is listed as often,
slower_listings : (k : ℕ) (place : Place) → listings (slower k place) ≡ listings place
unfolding slower
slower_listings k Nowhere = refl
slower_listings k Running = refl
slower_listings k Ready = refl
slower_listings k Parked = refl
slower_listings k (Waiting n) = refl
slower_listings k (Getting n m) = refl
slower_listings k (Putting n m) = refl
slower_listings k (Asleep m) = refl

-- stands in the same lines,
slower_stands : (k : ℕ) (x : Line) (place : Place) → stands x (slower k place) ≡ stands x place
unfolding slower stands
slower_stands k x Nowhere = refl
slower_stands k x Running = refl
slower_stands k x Ready = refl
slower_stands k x Parked = refl
slower_stands k x (Waiting n) = refl
slower_stands k x (Getting n m) = refl
slower_stands k x (Putting n m) = refl
slower_stands k x (Asleep m) = refl

-- runs as before,
slower_runs : (k : ℕ) (place : Place) → (slower k place ≡ Running → place ≡ Running) × (place ≡ Running → slower k place ≡ Running)
unfolding slower
slower_runs k Nowhere = (λ e. e, λ e. e)
slower_runs k Running = (λ e. e, λ e. e)
slower_runs k Ready = (λ e. e, λ e. e)
slower_runs k Parked = (λ e. e, λ e. e)
slower_runs k (Waiting n) = (λ e. e, λ e. e)
slower_runs k (Getting n m) = (λ e. e, λ e. e)
slower_runs k (Putting n m) = (λ e. e, λ e. e)
slower_runs k (Asleep m) = (λ e. cc, λ e. cc)

-- and fits its place
slower_fits : (k : ℕ) (kinds : ℕ → Kind) (sizes : ℕ → ℕ) (q : Process) (h : Option ℕ) (place : Place) → PlaceFits (kinds (spot place)) (sizes (spot place)) q h place
    → PlaceFits (kinds (spot (slower k place))) (sizes (spot (slower k place))) (placed q (slower k place)) h (slower k place)
unfolding slower
slower_fits k kinds sizes q h Nowhere f = f
slower_fits k kinds sizes q h Running f = f
slower_fits k kinds sizes q h Ready f = f
slower_fits k kinds sizes q h Parked f = f
slower_fits k kinds sizes q h (Waiting n) f = f
slower_fits k kinds sizes q h (Getting n m) f = f
slower_fits k kinds sizes q h (Putting n m) f = f
slower_fits k kinds sizes q h (Asleep m) f =
    elim (test (eqb (m - k) 0)) [
      | holds e ↦ rw e f
      | fails e ↦ let some : m - k ≡ 0 → ⊥ = eqb-false (m - k) 0 e in rw e (omega arith, omega (arith, f.1))
    ]

-- Who is due may be released; all others' remainders fall alike
slower_due : (k : ℕ) (place : Place) → (is_due (fallen k place) ≡ true) ⊎ (fallen k place ≡ slower k place)
unfolding slower is_due
slower_due k Nowhere = inr refl
slower_due k Running = inr refl
slower_due k Ready = inr refl
slower_due k Parked = inr refl
slower_due k (Waiting n) = inr refl
slower_due k (Getting n m) = inr refl
slower_due k (Putting n m) = inr refl
slower_due k (Asleep m) = elim (test (eqb (m - k) 0)) [ holds e ↦ inl e | fails e ↦ inr (rw e) ]

-- Who is due is asleep, so live, and may be released
due_movable : (k : ℕ) (place : Place) → is_due (fallen k place) ≡ true → (movable (slower k place) ≡ true) × (eqb (code place) 0 ≡ false)
unfolding slower is_due movable
due_movable k Nowhere e = (e, sym e)
due_movable k Running e = (e, refl)
due_movable k Ready e = (refl, refl)
due_movable k Parked e = (refl, refl)
due_movable k (Waiting n) e = (refl, refl)
due_movable k (Getting n m) e = (e, refl)
due_movable k (Putting n m) e = (e, refl)
due_movable k (Asleep m) e = (refl, refl)

-- Nobody stays nobody
nobody_slowed : (k : ℕ) → slowed k nobody ≡ nobody
unfolding slower
nobody_slowed k = refl

-- A table of processes, each changed by a function that leaves nobody as it is
pub mapped_at : (f : Process → Process) → f nobody ≡ nobody → (l : List Process) (x : ℕ) → numbered (map f l) x nobody ≡ f (numbered l x nobody)
unfolding numbered
mapped_at f e l x =
    elim (test (eqb x 0)) [
      | holds z ↦ rw z (sym e)
      | fails z ↦ rw z (ap (λ (d : Process). get_or (map f l) (x - 1) d) (sym e) ∙ get_or-map f l (x - 1) nobody)
    ]

module _ (k : ℕ) (t : Tables) (steady : Steady t) where
  -- The processes so, each by its number, and their places
  abbrev slow : List Process
  slow = map (slowed k) t.processes

  slow_at : (x : ℕ) → numbered slow x nobody ≡ slowed k (numbered t.processes x nobody)
  slow_at x = mapped_at (slowed k) (nobody_slowed k) t.processes x

  slow_place : (x : ℕ) → place_at slow x ≡ slower k (place_at t.processes x)
  slow_place x = ap (λ (q : Process). q.place) (slow_at x)

  -- Every line is as it was,
  slow_line : (x : Line) → line x (with_processes t slow) ≡ line x t
  unfolding line
  slow_line x =
      keep_same (standing x t.processes) (standing x slow) t.order
      (λ y h. ap (stands x) (slow_place y) ∙ slower_stands k x (place_at t.processes y))

  -- all is settled,
  slow_settled : Settled (with_processes t slow)
  slow_settled =
      record {
        listed = λ x z. steady.settled.listed x z ∙ sym (slower_listings k (place_at t.processes x)) ∙ ap listings (sym (slow_place x));
        runs = λ x. record {
          only = λ e. (steady.settled.runs x).only ((slower_runs k (place_at t.processes x)).0 (sym (slow_place x) ∙ e));
          runner = λ z e. slow_place x ∙ (slower_runs k (place_at t.processes x)).1 ((steady.settled.runs x).runner z e);
        };
        fits = λ x.
            rw (slow_at x) (slower_fits k (kind_at t.structures) (λ n. (ring_at t.rings (bay_of (kind_at t.structures n))).size) (numbered t.processes x nobody)
            (parcel_at t.parcels x).holds (place_at t.processes x) (steady.settled.fits x));
        kept = steady.settled.kept;
        values = steady.settled.values;
        bays = steady.settled.bays;
        zeros = steady.settled.zeros;
      }

  -- and steady
  slow_steady : Steady (with_processes t slow)
  slow_steady =
      record {
        typed = record {
          order = steady.typed.order;
          processes = length-map t.processes (slowed k) ∙ steady.typed.processes;
          structures = steady.typed.structures;
          rings = steady.typed.rings;
          parcels = steady.typed.parcels;
        };
        settled = slow_settled;
        still = still_same t (with_processes t slow) refl refl
            (λ n. record {
              getters = slow_line (Getters n);
              putters = slow_line (Putters n);
              places = λ p. ⊎_elim (λ e. inl (slow_place p ∙ e)) inr (slower_same k (place_at t.processes p));
            }) steady.still;
      }

  -- ---- those who are due

  -- The processes a tick later
  abbrev late : List Process
  late = map (later k) t.processes

  late_at : (x : ℕ) → numbered late x nobody ≡ later k (numbered t.processes x nobody)
  late_at x = mapped_at (later k) refl t.processes x

  -- Who is due then
  abbrev dues : List ℕ
  dues = keep (due_of late) t.order

  -- Who is at 0 is one of them,
  due_listed : (x : ℕ) → is_due (fallen k (place_at t.processes x)) ≡ true → has x dues ≡ true
  due_listed x e =
      let live : Live x t = is_live x t steady.settled (due_movable k (place_at t.processes x) e).1 in
      let is : due_of late x ≡ true = ap (λ (q : Process). is_due q.place) (late_at x) ∙ e in
      has_keep (due_of late) x t.order ∙ rw is (is_listed x t.order (omega (arith, live.once)))

  -- and each of them may be released
  due_moves : (x : ℕ) → has x dues ≡ true → movable (place_at slow x) ≡ true
  due_moves x h =
      ap movable (slow_place x)
      ∙ (due_movable k (place_at t.processes x) (sym (ap (λ (q : Process). is_due q.place) (late_at x)) ∙ (in_line (due_of late) x t.order h).0)).0

  -- But for their places both tables of processes are the same
  twins : Twin dues late slow
  twins =
      record {
        long = length-map t.processes (later k) ∙ sym (length-map t.processes (slowed k));
        same = λ x. ⊎_elim (λ e. inl (due_listed x e))
            (λ e. inr (late_at x ∙ ap (λ (z : Place). placed (numbered t.processes x nobody) z) e ∙ sym (slow_at x)))
            (slower_due k (place_at t.processes x));
        rest = λ x. ap (λ (q : Process). placed q Ready) (late_at x) ∙ sym (ap (λ (q : Process). placed q Ready) (slow_at x));
      }

  -- "Every sleeper's remainder falls by 1; those at 0 are released in the order they went to sleep"
  pub ticked_steady : Steady (ticked k t).tables
  unfolding ticked due_released due all_later
  ticked_steady =
      rw (twin_released dues t late slow twins) (released_all_steady dues (with_processes t slow) slow_steady due_moves)
