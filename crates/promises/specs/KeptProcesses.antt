-- The steps of calls 2 to 9 keep tables steady.
use Rattle.std.specs.Prelude.{ℕ, zero, suc, ◌+◌, ◌-◌, ◌≤◌, ◌<◌, ◌≡◌, Bool, true, false, List, [], ◌∷◌, eqb, leb, length, get_or, set}
use Rattle.std.proofs.Math.Path.{refl, ap}
use Rattle.std.proofs.Common.{sym, subst, ◌∙◌, true≢false, append-nil, inr, arith, ne_eqb}
use Rattle.std.proofs.lemmas.Bool.{eqb-false}
use Rattle.basics.specs.Tests.{test, holds, fails}
use Rattle.arrivals.specs.Order.{one, count, first, keep, joined}
use Rattle.arrivals.specs.Order as order
use Rattle.arrivals.specs.Listed.{is_listed, is_not_listed, one_same, count_joined, length_joined, count_deleted, length_deleted}
use Rattle.arrivals.specs.Views.{arrives, stays_deleted}
use Rattle.arrivals.specs.Zeros.{zeros_joined, zeros_deleted, room_first}
use Rattle.std.specs.Prelude.{Option}
use Rattle.bay.specs.Bay.{empty_parcel}
use Rattle.tables.specs.declared.Tables.{Tables}
use Rattle.tables.specs.declared.Process.{Process}
use Rattle.tables.specs.declared.Kind.{Kind}
use Rattle.tables.specs.declared.Place.{Place}
use Rattle.tables.specs.declared.Place.TheVariants.{Nowhere, Running, Ready, Parked, Waiting, Getting, Putting, Asleep}
use Rattle.tables.specs.declared.Line.{Line}
use Rattle.tables.specs.declared.Line.TheVariants as lines
use Rattle.tables.specs.Numbers.{code}
use Rattle.tables.specs.Access.{numbered, replaced, nobody, process_of, with_process, with_running, with_parcel}
use Rattle.tables.specs.Lines.{line, stands, standing, ready_line}
use Rattle.tables.specs.Laws.{numbered_past, numbered_at, length_replaced, replaced_same, replaced_other, replaced_at}
use Rattle.ready.specs.Ready.{placed, with_place, joins, runner_joins}
use Rattle.ready.specs.Laws.{head_ready}
use Rattle.processes.specs.Processes.{is_free, lowest_free, free_process, newcomer, created_as, created, gone, deleted_myself, marked, parked, suspended_from, suspended_of, suspended, resumed_from, resumed_of, resumed, with_priority, prioritised_from, prioritised_of, prioritised, ready_has, head_runs, scheduled, stated_of, stated, slept}
use Rattle.sound.specs.Sound.{place_at, parcel_at, listings, PlaceFits, Fits, Settled}
use Rattle.sound.specs.Sound as sound
use Rattle.promises.specs.Changes.{listings_most, place_zero, nowhere_runs, Apart, OnlyProcess, Own, settled_only, still_only, Steady, changed_to, SameRunner, runner_same, runner_left, Live, is_live, steady_changed}
use Rattle.promises.specs.KeptReady.{left_steady, moved_steady, apart_running, apart_ready, runner_place, fits_as, runner_joins_steady, preempted_steady, runs_steady, head_top, urgency_zero, urgency_some, none_runs, movable, is_movable}

-- ---- one entry anew, and a move

-- Of two stores at one place the later counts
set_twice : {A : Type 0} (l : List A) (i : ℕ) (a b : A) → set (set l i a) i b ≡ set l i b
set_twice [] i a b = refl
set_twice (x ∷ l) zero a b = refl
set_twice (x ∷ l) (suc i) a b = ap (λ r. x ∷ r) (set_twice l i a b)

replaced_twice : {A : Type 0} (l : List A) (p : ℕ) (a b : A) → (p ≡ 0 → ⊥) → replaced (replaced l p a) p b ≡ replaced l p b
replaced_twice l p a b z = rw (replaced_at (replaced l p a) p b z, replaced_at l p a z, replaced_at l p b z) (set_twice l (p - 1) a b)

-- An entry anew, then a line joined, is one change
joins_as : (p : ℕ) (place : Place) (q : Process) (t : Tables) → Live p t → joins p place (with_process t p q) ≡ changed_to true p (placed q place) t.running t
unfolding joins with_place with_process process_of
joins_as p place q t live =
    rw (ne_eqb p 0 live.some, replaced_same t.processes p q nobody live.some live.known, replaced_twice t.processes p q (placed q place) live.some) refl

-- One who keeps its place may be marked, or have another priority
pub remarked_steady : (p : ℕ) (q : Process) (t : Tables) → Steady t → q.place ≡ place_at t.processes p → eqb (code (place_at t.processes p)) 0 ≡ false
    → Fits t.structures t.rings q (parcel_at t.parcels p).holds → Steady (with_process t p q)
unfolding with_process
remarked_steady p q t steady same lives fits =
    let live : Live p t = is_live p t steady.settled lives in
    steady_changed {moved = false} {p = p} {q = q} {r = t.running} {t = t} steady
    (record {
      live = live;
      lives = rw same lives;
      runner = runner_same p t.running;
      runs = (λ e. (steady.settled.runs p).only (sym same ∙ e), λ e. same ∙ (steady.settled.runs p).runner live.some e);
      fits = fits;
      lines = inr (same, refl);
    })

-- One who may move gets another entry and joins a line
pub entered_steady : (p : ℕ) (place : Place) (q : Process) (t : Tables) → Steady t → movable (place_at t.processes p) ≡ true → movable place ≡ true
    → Fits t.structures t.rings (placed q place) (parcel_at t.parcels p).holds → Steady (joins p place (with_process t p q))
entered_steady p place q t steady was is fits =
    rw (joins_as p place q t (is_live p t steady.settled (is_movable (place_at t.processes p) was).lives)) (moved_steady p (placed q place) t steady was is fits)

-- The runner may be parked
parked_runner : (p : ℕ) (q : Process) (t : Tables) → Steady t → place_at t.processes p ≡ Running → q.suspended ≡ true → Steady (with_running (joins p Parked (with_process t p q)) 0)
unfolding movable
parked_runner p q t steady was h =
    rw (joins_as p Parked q t (is_live p t steady.settled (rw was))) (left_steady p (placed q Parked) t steady was refl h)

-- ---- suspend and resume

-- "waiting or asleep is marked and keeps its position"
marked_fits : (b : Bool) (k : Kind) (a : ℕ) (q : Process) (h : Option ℕ) (place : Place) → leb 4 (code place) ≡ true → PlaceFits k a q h place → PlaceFits k a (marked b q) h place
marked_fits b k a q h Nowhere e f = absurd (true≢false (sym e))
marked_fits b k a q h Running e f = absurd (true≢false (sym e))
marked_fits b k a q h Ready e f = absurd (true≢false (sym e))
marked_fits b k a q h Parked e f = absurd (true≢false (sym e))
marked_fits b k a q h (Waiting n) e f = f
marked_fits b k a q h (Getting n l) e f = f
marked_fits b k a q h (Putting n l) e f = f
marked_fits b k a q h (Asleep m) e f = f

-- Who waits or sleeps is live
live_code : (q : Place) → leb 4 (code q) ≡ true → eqb (code q) 0 ≡ false
live_code Nowhere e = sym e
live_code Running e = refl
live_code Ready e = refl
live_code Parked e = refl
live_code (Waiting n) e = refl
live_code (Getting n l) e = refl
live_code (Putting n l) e = refl
live_code (Asleep m) e = refl

-- One who waits or sleeps is marked, or its mark is taken away
marked_steady : (b : Bool) (p : ℕ) (t : Tables) → Steady t → (place : Place) → place_at t.processes p ≡ place → leb 4 (code place) ≡ true → Steady (with_process t p (marked b (process_of t p)))
unfolding process_of
marked_steady b p t steady place was e =
    let now : leb 4 (code (place_at t.processes p)) ≡ true = rw was e in
    remarked_steady p (marked b (process_of t p)) t steady refl (live_code (place_at t.processes p) now)
    (marked_fits b _ _ (process_of t p) (parcel_at t.parcels p).holds (place_at t.processes p) now (steady.settled.fits p))

-- Suspend, by the place where p stands
suspended_from_lem : (p : ℕ) (t : Tables) → Steady t → (place : Place) → place_at t.processes p ≡ place → Steady (suspended_from place p (process_of t p) t).tables
unfolding suspended_from parked movable
suspended_from_lem p t steady Nowhere was = steady
suspended_from_lem p t steady Running was = parked_runner p (marked true (process_of t p)) t steady was refl
suspended_from_lem p t steady Ready was = entered_steady p Parked (marked true (process_of t p)) t steady (rw was refl) refl refl
suspended_from_lem p t steady Parked was = steady
suspended_from_lem p t steady (Waiting n) was = marked_steady true p t steady (Waiting n) was refl
suspended_from_lem p t steady (Getting n l) was = marked_steady true p t steady (Getting n l) was refl
suspended_from_lem p t steady (Putting n l) was = marked_steady true p t steady (Putting n l) was refl
suspended_from_lem p t steady (Asleep m) was = marked_steady true p t steady (Asleep m) was refl

-- "Running or ready goes to the end of the parked line; waiting or asleep is marked and keeps its position"
pub suspended_steady : (p : ℕ) (t : Tables) → Steady t → Steady (suspended p t).tables
unfolding suspended suspended_of process_of numbered
suspended_steady p t steady =
    elim (test (process_of t p).suspended) [ holds e ↦ rw e steady | fails e ↦ rw e (suspended_from_lem p t steady (place_at t.processes p) refl) ]

-- Resume, by the place where p stands
resumed_from_lem : (p : ℕ) (t : Tables) → Steady t → (place : Place) → place_at t.processes p ≡ place → Steady (resumed_from place p (process_of t p) t).tables
unfolding resumed_from movable
resumed_from_lem p t steady Nowhere was = steady
resumed_from_lem p t steady Running was = steady
resumed_from_lem p t steady Ready was = steady
resumed_from_lem p t steady Parked was = entered_steady p Ready (marked false (process_of t p)) t steady (rw was refl) refl refl
resumed_from_lem p t steady (Waiting n) was = marked_steady false p t steady (Waiting n) was refl
resumed_from_lem p t steady (Getting n l) was = marked_steady false p t steady (Getting n l) was refl
resumed_from_lem p t steady (Putting n l) was = marked_steady false p t steady (Putting n l) was refl
resumed_from_lem p t steady (Asleep m) was = marked_steady false p t steady (Asleep m) was refl

-- "Resume undoes either; a parked one joins the ready line"
pub resumed_steady : (p : ℕ) (t : Tables) → Steady t → Steady (resumed p t).tables
unfolding resumed resumed_of process_of numbered
resumed_steady p t steady =
    elim (test (process_of t p).suspended) [ holds e ↦ rw e (resumed_from_lem p t steady (place_at t.processes p) refl) | fails e ↦ rw e steady ]

-- ---- change priority, and schedule

-- No place asks for a priority
priority_fits : (l : ℕ) (k : Kind) (a : ℕ) (q : Process) (h : Option ℕ) (place : Place) → eqb (code place) 0 ≡ false → PlaceFits k a q h place → PlaceFits k a (with_priority l q) h place
priority_fits l k a q h Nowhere e f = absurd (true≢false e)
priority_fits l k a q h Running e f = f
priority_fits l k a q h Ready e f = f
priority_fits l k a q h Parked e f = f
priority_fits l k a q h (Waiting n) e f = f
priority_fits l k a q h (Getting n m) e f = f
priority_fits l k a q h (Putting n m) e f = f
priority_fits l k a q h (Asleep m) e f = f

-- A process gets the new number
numbered_steady : (l p : ℕ) (t : Tables) → Steady t → eqb (code (place_at t.processes p)) 0 ≡ false → Steady (with_process t p (with_priority l (process_of t p)))
unfolding process_of
numbered_steady l p t steady e =
    remarked_steady p (with_priority l (process_of t p)) t steady refl e
    (priority_fits l _ _ (process_of t p) (parcel_at t.parcels p).holds (place_at t.processes p) e (steady.settled.fits p))

-- Change priority, by the place where p stands
prioritised_from_lem : (l p : ℕ) (t : Tables) → Steady t → (place : Place) → place_at t.processes p ≡ place → eqb (code (place_at t.processes p)) 0 ≡ false
    → Steady (prioritised_from place p (with_priority l (process_of t p)) t).tables
unfolding prioritised_from movable process_of
prioritised_from_lem l p t steady Nowhere was e = steady
prioritised_from_lem l p t steady Running was e = numbered_steady l p t steady e
prioritised_from_lem l p t steady Ready was e = entered_steady p Ready (with_priority l (process_of t p)) t steady (rw was refl) refl (fits_as t steady.settled p Ready was)
prioritised_from_lem l p t steady Parked was e = numbered_steady l p t steady e
prioritised_from_lem l p t steady (Waiting n) was e = numbered_steady l p t steady e
prioritised_from_lem l p t steady (Getting n m) was e = numbered_steady l p t steady e
prioritised_from_lem l p t steady (Putting n m) was e = numbered_steady l p t steady e
prioritised_from_lem l p t steady (Asleep m) was e = numbered_steady l p t steady e

-- "a ready process is moved behind its new equals; others only get the new number"
pub prioritised_steady : (p l : ℕ) (t : Tables) → Steady t → Steady (prioritised p l t).tables
unfolding prioritised prioritised_of process_of is_free
prioritised_steady p l t steady =
    elim (test (eqb (code (place_at t.processes p)) 0)) [
      | holds e ↦ rw e steady
      | fails e ↦
          elim (test (eqb (process_of t p).priority l)) [
            | holds s ↦ rw (e, s) steady
            | fails s ↦ rw (e, s) (prioritised_from_lem l p t steady (place_at t.processes p) refl e)
          ]
    ]

-- The runner that joined the ready line is ready, so somebody heads it
joined_ready : (t : Tables) → Steady t → (t.running ≡ 0 → ⊥) → place_at (runner_joins Ready t).processes t.running ≡ Ready
unfolding runner_joins joins with_place with_process
joined_ready t steady z =
    let live : Live t.running t = is_live t.running t steady.settled (rw (runner_place t steady.settled z)) in
    rw (ne_eqb t.running 0 z) (ap (λ (q : Process). q.place) (replaced_same t.processes t.running (placed (process_of t t.running) Ready) nobody z live.known))

-- Where somebody is ready, somebody heads the ready line
pub somebody_heads : (t : Tables) → Settled t → (p : ℕ) → place_at t.processes p ≡ Ready → first (ready_line t) ≡ 0 → ⊥
somebody_heads t s p e h =
    let live : Live p t = is_live p t s (rw e) in
    omega (arith, head_top t s p e, urgency_zero t.processes (first (ready_line t)) h, urgency_some t.processes p live.some)

-- "the caller goes behind its equals and the head runs"
pub scheduled_steady : (t : Tables) → Steady t → Steady (scheduled t).tables
unfolding scheduled head_runs
scheduled_steady t steady =
    elim (test (eqb t.running 0)) [
      | holds z ↦ rw z steady
      | fails z ↦
          elim (test (ready_has (process_of t t.running).priority t)) [
            | holds r ↦
                let u = runner_joins Ready t in
                let after : Steady u = preempted_steady t steady (eqb-false t.running 0 z) in
                rw (z, r) (runs_steady (first (ready_line u)) u after (none_runs t)
                (head_ready u (somebody_heads u after.settled t.running (joined_ready t steady (eqb-false t.running 0 z)))))
            | fails r ↦ rw (z, r) steady
          ]
    ]

-- ---- process state, and sleep

-- The tables stay as they are
pub stated_steady : (p : ℕ) (t : Tables) → Steady t → Steady (stated p t).tables
unfolding stated stated_of
stated_steady p t steady = elim (test (is_free (process_of t p))) [ holds e ↦ rw e steady | fails e ↦ rw e steady ]

-- "M milliseconds, 0 to 2,147,483,647"
pub slept_steady : (m : ℕ) (t : Tables) → Steady t → m ≤ 2147483647 → Steady (slept m t).tables
unfolding slept movable
slept_steady m t steady most =
    elim (test (eqb t.running 0)) [
      | holds z ↦ rw z steady
      | fails z ↦
          elim (test (eqb m 0)) [
            | holds e ↦ rw (z, e) steady
            | fails e ↦
                let some : m ≡ 0 → ⊥ = eqb-false m 0 e in
                rw (z, e) (runner_joins_steady (Asleep m) t steady (eqb-false t.running 0 z) refl (omega arith, most))
          ]
    ]

-- ---- create process

-- Nothing is left
sub_self : (n : ℕ) → n - n ≡ 0
sub_self n = omega arith

-- Another number is not it
one_other : (a x : ℕ) → (a ≡ x → ⊥) → one a x ≡ 0
one_other a x h = rw (ne_eqb a x h)

-- The lowest free number is one of the table's, and nobody has it
lowest_free_lem : (n : ℕ) (l : List Process) → (lowest_free n l ≡ 0 → ⊥) → (n ≤ lowest_free n l) × (lowest_free n l < n + length l) × (is_free (get_or l (lowest_free n l - n) nobody) ≡ true)
lowest_free_lem n [] h = absurd (h refl)
lowest_free_lem n (q ∷ l) h =
    elim (test (is_free q)) [
      | holds e ↦ rw e (omega arith, omega arith, rw (sub_self n) e)
      | fails e ↦
          let w = lowest_free_lem (suc n) l (rw e at h) in
          rw e (omega (arith, w.0), omega (arith, w.1), at_next (lowest_free (suc n) l) w.0 w.2)
    ]
  where
    at_next : (m : ℕ) → suc n ≤ m → is_free (get_or l (m - suc n) nobody) ≡ true → is_free (get_or (q ∷ l) (m - n) nobody) ≡ true
    at_next m a e = let s : m - n ≡ suc (m - suc n) = omega arith in rw s e

-- A process that is free is nowhere
free_nowhere : (q : Place) → eqb (code q) 0 ≡ true → q ≡ Nowhere
free_nowhere Nowhere e = refl
free_nowhere Running e = absurd (true≢false (sym e))
free_nowhere Ready e = absurd (true≢false (sym e))
free_nowhere Parked e = absurd (true≢false (sym e))
free_nowhere (Waiting n) e = absurd (true≢false (sym e))
free_nowhere (Getting n l) e = absurd (true≢false (sym e))
free_nowhere (Putting n l) e = absurd (true≢false (sym e))
free_nowhere (Asleep k) e = absurd (true≢false (sym e))

-- Who is nowhere stands in no line
pub nowhere_stands : (x : Line) → stands x Nowhere ≡ false
unfolding stands
nowhere_stands lines.Ready = refl
nowhere_stands lines.Parked = refl
nowhere_stands (lines.Semaphore n) = refl
nowhere_stands (lines.Getters n) = refl
nowhere_stands (lines.Putters n) = refl
nowhere_stands lines.Sleepers = refl

apart_nowhere : Apart Nowhere
unfolding Apart
apart_nowhere n = (nowhere_stands (lines.Getters n), nowhere_stands (lines.Putters n))

-- A number of the table that nobody has
pub record Unused (p : ℕ) (t : Tables) : Type 0 where
  pub some : p ≡ 0 → ⊥
  pub known : p ≤ length t.processes
  pub nowhere : place_at t.processes p ≡ Nowhere

-- Creation's number is such a one
pub free_unused : (t : Tables) → (free_process t ≡ 0 → ⊥) → Unused (free_process t) t
unfolding free_process is_free
free_unused t z =
    let p = lowest_free 1 t.processes in
    let w = lowest_free_lem 1 t.processes z in
    let known : p ≤ length t.processes = omega (arith, w.1) in
    record {
      some = z;
      known = known;
      nowhere = ap (λ (q : Process). q.place) (numbered_at t.processes p nobody nobody z known) ∙ free_nowhere (get_or t.processes (p - 1) nobody).place w.2;
    }

module _ (p priority : ℕ) (t : Tables) (steady : Steady t) (unused : Unused p t) where
  -- The tables with the new process
  abbrev began : Tables
  began =
      record { running = t.running; order = joined p t.order; processes = replaced t.processes p (newcomer priority); structures = t.structures; rings = t.rings; parcels = t.parcels }

  -- It was not listed,
  unlisted : count p t.order ≡ 0
  unlisted = steady.settled.listed p unused.some ∙ ap listings unused.nowhere

  -- There is room for it
  room_is : first t.order ≡ 0
  room_is =
      room_first 32 t.order steady.typed.order
      (λ x h. steady.settled.listed x (λ e. omega arith) ∙ ap (λ (q : Process). listings q.place) (numbered_past t.processes x nobody (omega (arith, steady.typed.processes))))
      (λ x h. rw (steady.settled.listed x (λ e. omega arith)) (listings_most (place_at t.processes x)))
      p (omega (arith, unused.some)) (omega (arith, unused.known, steady.typed.processes)) unlisted steady.settled.zeros

  -- It is a newcomer, and ready
  entry : numbered (replaced t.processes p (newcomer priority)) p nobody ≡ newcomer priority
  entry = replaced_same t.processes p (newcomer priority) nobody unused.some unused.known

  entry_place : place_at (replaced t.processes p (newcomer priority)) p ≡ Ready
  entry_place = ap (λ (q : Process). q.place) entry

  -- It is listed in place of a zero
  counted : (x : ℕ) → one 0 x + count x (joined p t.order) ≡ one p x + count x t.order
  counted x = count_joined x p t.order room_is (omega (arith, steady.typed.order))

  -- The lines in which it does not stand are as they were
  pub began_lines : (x : Line) → stands x (place_at (replaced t.processes p (newcomer priority)) p) ≡ false → line x began ≡ line x t
  unfolding line
  began_lines x is =
      arrives (standing x t.processes) (standing x (replaced t.processes p (newcomer priority))) p
      (λ y h. ap (λ (q : Process). stands x q.place) (replaced_other t.processes p (newcomer priority) y nobody h))
      t.order (ap (stands x) (place_zero (replaced t.processes p (newcomer priority)) 0 refl) ∙ nowhere_stands x) room_is (is_not_listed p t.order unlisted)
      ∙ rw is (append-nil (keep (standing x t.processes) t.order))

  -- Only p changed,
  began_only : OnlyProcess p t began
  unfolding SameRunner
  began_only =
      record {
        structures = refl;
        rings = refl;
        parcels = λ x h. refl;
        others = λ x h. replaced_other t.processes p (newcomer priority) x nobody h;
        counts = λ x z h. omega (arith, counted x, one_other 0 x (λ e. z (sym e)), one_other p x (λ e. h (sym e)));
        zeros = zeros_joined p t.order steady.settled.zeros unused.some;
        runner = runner_same p t.running;
        lines = λ x was is. began_lines x is;
      }

  -- its own clauses hold,
  began_own : Own p began
  began_own =
      record {
        listed = λ z. omega (arith, counted p, one_other 0 p (λ e. z (sym e)), one_same p, unlisted, ap listings entry_place);
        runs = record {
          only = λ e. let y : Ready ≡ Running = sym entry_place ∙ e in let k : ◌≡◌ {A = ℕ} 0 1 = cc in absurd (omega arith);
          runner = λ z e. let y : Nowhere ≡ Running = sym unused.nowhere ∙ (steady.settled.runs p).runner z e in let k : ◌≡◌ {A = ℕ} 0 1 = cc in absurd (omega arith);
        };
        fits = rw entry refl;
        kept = steady.settled.kept p;
      }

  -- so tables stay steady
  began_steady : Steady began
  began_steady =
      record {
        typed = record {
          order = length_joined p t.order (omega (arith, steady.typed.order)) ∙ steady.typed.order;
          processes = length_replaced t.processes p (newcomer priority) ∙ steady.typed.processes;
          structures = steady.typed.structures;
          rings = steady.typed.rings;
          parcels = steady.typed.parcels;
        };
        settled = settled_only began_only steady.settled began_own;
        still = still_only began_only (subst (λ (q : Place). Apart q) (sym unused.nowhere) apart_nowhere) (subst (λ (q : Place). Apart q) (sym entry_place) apart_ready) steady.still;
      }

-- "Creation takes the lowest free number"; "A new process joins the ready line"
pub created_steady : (priority : ℕ) (t : Tables) → Steady t → Steady (created priority t).tables
unfolding created created_as with_process
created_steady priority t steady =
    elim (test (eqb (free_process t) 0)) [
      | holds z ↦ rw z steady
      | fails z ↦ rw z (began_steady (free_process t) priority t steady (free_unused t (eqb-false (free_process t) 0 z)))
    ]

-- ---- delete myself

module _ (t : Tables) (steady : Steady t) (z : t.running ≡ 0 → ⊥) where
  -- Who asks
  abbrev caller : ℕ
  caller = t.running

  -- The tables without it
  abbrev ended : Tables
  ended =
      record {
        running = 0;
        order = order.deleted caller t.order;
        processes = replaced t.processes caller nobody;
        structures = t.structures;
        rings = t.rings;
        parcels = replaced t.parcels caller empty_parcel;
      }

  -- It was live,
  was_live : Live caller t
  was_live = is_live caller t steady.settled (rw (runner_place t steady.settled z))

  -- is nobody now, nowhere, and its parcel is empty
  no_entry : numbered (replaced t.processes caller nobody) caller nobody ≡ nobody
  no_entry = replaced_same t.processes caller nobody nobody z was_live.known

  no_place : place_at (replaced t.processes caller nobody) caller ≡ Nowhere
  no_place = ap (λ (q : Process). q.place) no_entry

  no_parcel : parcel_at (replaced t.parcels caller empty_parcel) caller ≡ empty_parcel
  no_parcel = replaced_same t.parcels caller empty_parcel empty_parcel z (omega (arith, was_live.known, steady.typed.processes, steady.typed.parcels))

  -- It is listed no more: a zero is instead
  fewer : (x : ℕ) → one caller x + count x (order.deleted caller t.order) ≡ one 0 x + count x t.order
  fewer x = count_deleted x caller t.order (is_listed caller t.order (omega (arith, was_live.once)))

  -- The lines in which it did not stand are as they were
  pub ended_lines : (x : Line) → stands x (place_at t.processes caller) ≡ false → line x ended ≡ line x t
  unfolding line
  ended_lines x was =
      stays_deleted (standing x t.processes) (standing x (replaced t.processes caller nobody)) caller
      (λ y h. ap (λ (q : Process). stands x q.place) (replaced_other t.processes caller nobody y nobody h))
      t.order (ap (stands x) (place_zero (replaced t.processes caller nobody) 0 refl) ∙ nowhere_stands x) was (ap (stands x) no_place ∙ nowhere_stands x)

  -- Only it changed,
  ended_only : OnlyProcess caller t ended
  unfolding SameRunner
  ended_only =
      record {
        structures = refl;
        rings = refl;
        parcels = λ x h. replaced_other t.parcels caller empty_parcel x empty_parcel h;
        others = λ x h. replaced_other t.processes caller nobody x nobody h;
        counts = λ x y h. omega (arith, fewer x, one_other 0 x (λ e. y (sym e)), one_other caller x (λ e. h (sym e)));
        zeros = zeros_deleted caller t.order steady.settled.zeros;
        runner = runner_left caller t.running refl;
        lines = λ x was is. ended_lines x was;
      }

  -- its own clauses hold,
  ended_own : Own caller ended
  unfolding empty_parcel
  ended_own =
      record {
        listed = λ y. omega (arith, fewer caller, one_other 0 caller (λ e. y (sym e)), one_same caller, was_live.once, ap listings no_place);
        runs = record { only = λ e. nowhere_runs (sym no_place ∙ e); runner = λ y e. absurd (y (sym e)) };
        fits = rw (no_entry, no_parcel) (refl, refl, refl);
        kept = rw no_parcel (sound.none refl);
      }

  -- so tables stay steady
  ended_steady : Steady ended
  ended_steady =
      record {
        typed = record {
          order = length_deleted caller t.order ∙ steady.typed.order;
          processes = length_replaced t.processes caller nobody ∙ steady.typed.processes;
          structures = steady.typed.structures;
          rings = steady.typed.rings;
          parcels = length_replaced t.parcels caller empty_parcel ∙ steady.typed.parcels;
        };
        settled = settled_only ended_only steady.settled ended_own;
        still = still_only ended_only (subst (λ (q : Place). Apart q) (sym (runner_place t steady.settled z)) apart_running) (subst (λ (q : Place). Apart q) (sym no_place) apart_nowhere) steady.still;
      }

-- The runner is gone, and nobody runs
pub deleted_myself_steady : (t : Tables) → Steady t → Steady (deleted_myself t).tables
unfolding deleted_myself gone with_process with_parcel
deleted_myself_steady t steady =
    elim (test (eqb t.running 0)) [ holds z ↦ rw z steady | fails z ↦ rw z (ended_steady t steady (eqb-false t.running 0 z)) ]
