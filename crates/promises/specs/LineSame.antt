-- What leaves lines of structures as they are, and with them what the structures and the rings tell: the steps of calls 1 to 9, and whoever is due runs.
use Rattle.std.specs.Prelude.{ℕ, ◌≡◌, Bool, eqb, leb}
use Rattle.std.proofs.Math.Path.{refl, sym, ap}
use Rattle.std.proofs.Common.{◌∙◌, true≢false, eqb-true}
use Rattle.std.proofs.Math.Bool.{true, false}
use mathlib.Core.List.{List, [], ◌∷◌, map}
use Rattle.std.proofs.lemmas.Bool.{eqb-false}
use Rattle.basics.specs.Tests.{test, holds, fails}
use Rattle.arrivals.specs.Order.{has, first}
use Rattle.arrivals.specs.Views.{keep_same, moved_other, in_line}
use Rattle.arrivals.specs.Listed.{has_here, has_behind}
use Rattle.tables.specs.declared.Tables.{Tables}
use Rattle.tables.specs.declared.Process.{Process}
use Rattle.tables.specs.declared.Place.{Place}
use Rattle.tables.specs.declared.Place.TheVariants.{Nowhere, Running, Ready, Parked, Waiting, Getting, Putting, Asleep}
use Rattle.tables.specs.declared.Line.{Line}
use Rattle.tables.specs.Access.{numbered, replaced, nobody, process_of, with_running, with_process, with_parcel}
use Rattle.tables.specs.Lines.{line, stands, standing, ready_line}
use Rattle.tables.specs.Laws.{replaced_unseen}
use Rattle.tables.specs.Numbers.{code}
use Rattle.ready.specs.Ready.{placed, with_place, joins, runner_joins, released_to, released, released_all, runs, dispatched_to, dispatched}
use Rattle.ready.specs.Laws.{head_ready}
use Rattle.processes.specs.Processes.{is_free, free_process, newcomer, created_as, created, gone, deleted_myself, marked, parked, suspended_from, suspended_of, suspended, resumed_from, resumed_of, resumed, with_priority, prioritised_from, prioritised_of, prioritised, ready_has, head_runs, scheduled, stated_of, stated, slept, fallen, later, all_later, is_due, due_of, due, due_released, ticked}
use Rattle.sound.specs.Sound.{place_at, Settled}
use Rattle.promises.specs.Changes.{place_zero, changed_to, Steady}
use Rattle.promises.specs.KeptReady.{runner_place}
use Rattle.promises.specs.KeptProcesses.{Unused, free_unused, began_lines, ended_lines}
use Rattle.promises.specs.KeptTick.{mapped_at}

-- A place in no structure's line
abbrev pub Outside : Place → Type 0
Outside q = (eqb (code q) 4 ≡ false) × (eqb (code q) 5 ≡ false) × (eqb (code q) 6 ≡ false)

-- A part of the tables: lines of structures, of one side or of two, and something that the structures and the rings tell
pub record Part : Type 1 where
  pub Side : Type 0
  pub side : Side → Line
  pub outside : (i : Side) (q : Place) → Outside q → stands (side i) q ≡ false
  pub Told : Type 0
  pub told : Tables → Told
  pub told_by : (t u : Tables) → u.structures ≡ t.structures → u.rings ≡ t.rings → told u ≡ told t

-- Between t and u nothing is changed there: who stands in the lines, the lines, and what is told
pub record SamePart (part : Part) (t u : Tables) : Type 0 where
  pub places : (i : part.Side) (y : ℕ) → standing (part.side i) u.processes y ≡ standing (part.side i) t.processes y
  pub lines : (i : part.Side) → line (part.side i) u ≡ line (part.side i) t
  pub rest : part.told u ≡ part.told t

-- One step after the other
pub part_then : {part : Part} {t u v : Tables} → SamePart part t u → SamePart part u v → SamePart part t v
part_then a b = record { places = λ i y. b.places i y ∙ a.places i y; lines = λ i. b.lines i ∙ a.lines i; rest = b.rest ∙ a.rest }

module _ (part : Part) where
  -- ---- who stands in none of the lines

  -- A place in none of them
  abbrev pub Off : Place → Type 0
  Off q = (i : part.Side) → stands (part.side i) q ≡ false

  -- so of a process, by its place
  pub off_at : (t : Tables) (p : ℕ) (q : Place) → place_at t.processes p ≡ q → Off q → Off (place_at t.processes p)
  off_at t p q e off i = ap (stands (part.side i)) e ∙ off i

  -- One who is nowhere,
  off_nowhere : Off Nowhere
  off_nowhere i = part.outside i Nowhere (refl, refl, refl)

  -- one who runs,
  off_running : Off Running
  off_running i = part.outside i Running (refl, refl, refl)

  -- is ready,
  off_ready : Off Ready
  off_ready i = part.outside i Ready (refl, refl, refl)

  -- is parked,
  off_parked : Off Parked
  off_parked i = part.outside i Parked (refl, refl, refl)

  -- or sleeps stands in none of them;
  off_asleep : (k : ℕ) → Off (Asleep k)
  off_asleep k i = part.outside i (Asleep k) (refl, refl, refl)

  -- nor does one who is released,
  off_released : (s : Bool) → Off (released_to s)
  off_released true = off_parked
  off_released false = off_ready

  -- number 0,
  pub off_zero : (t : Tables) (p : ℕ) → p ≡ 0 → Off (place_at t.processes p)
  off_zero t p z = off_at t p Nowhere (place_zero t.processes p z) off_nowhere

  -- the runner,
  pub off_runner : (t : Tables) → Settled t → Off (place_at t.processes t.running)
  off_runner t s =
      elim (test (eqb t.running 0)) [
        | holds z ↦ off_zero t t.running (eqb-true t.running 0 z)
        | fails z ↦ off_at t t.running Running (runner_place t s (eqb-false t.running 0 z)) off_running
      ]

  -- or the head of the ready line
  off_head : (t : Tables) → Off (place_at t.processes (first (ready_line t)))
  off_head t =
      let h = first (ready_line t) in
      elim (test (eqb h 0)) [
        | holds z ↦ off_zero t h (eqb-true h 0 z)
        | fails z ↦ off_at t h Ready (head_ready t (eqb-false h 0 z)) off_ready
      ]

  -- ---- one process

  -- Nothing is done
  pub part_none : (t : Tables) → SamePart part t t
  part_none t = record { places = λ i y. refl; lines = λ i. refl; rest = refl }

  -- Neither the order nor a process changes
  pub part_beside : (t u : Tables) → u.order ≡ t.order → u.processes ≡ t.processes → part.told u ≡ part.told t → SamePart part t u
  unfolding line
  part_beside t u o p e = record { places = λ i y. rw p; lines = λ i. rw (o, p); rest = e }

  -- Another runs
  running_same : (r : ℕ) (t : Tables) → SamePart part t (with_running t r)
  running_same r t = part_beside t (with_running t r) refl refl (part.told_by t _ refl refl)

  -- p gets another entry, and stands in the lines if it stood there
  entry_same : (p : ℕ) (q : Process) (r : ℕ) (t : Tables) → ((i : part.Side) → stands (part.side i) q.place ≡ stands (part.side i) (place_at t.processes p)) → SamePart part t (changed_to false p q r t)
  unfolding line
  entry_same p q r t e =
      let each : (i : part.Side) (y : ℕ) → standing (part.side i) (replaced t.processes p q) y ≡ standing (part.side i) t.processes y
      = λ i. replaced_unseen t.processes p q (λ (x : Process). stands (part.side i) x.place) nobody (e i) in
      record {
        places = each;
        lines = λ i. keep_same (standing (part.side i) t.processes) (standing (part.side i) (replaced t.processes p q)) t.order (λ y h. each i y);
        rest = part.told_by t _ refl refl;
      }

  -- p moves to the end of the order, and stands in none of the lines before or after
  move_same : (p : ℕ) (q : Process) (r : ℕ) (t : Tables) → Off (place_at t.processes p) → Off q.place → SamePart part t (changed_to true p q r t)
  unfolding line
  move_same p q r t was is =
      let one : SamePart part t (changed_to false p q r t) = entry_same p q r t (λ i. is i ∙ sym (was i)) in
      record {
        places = one.places;
        lines = λ i. moved_other (standing (part.side i) (replaced t.processes p q)) p t.order (one.places i p ∙ was i) ∙ one.lines i;
        rest = part.told_by t _ refl refl;
      }

  -- A process with a mark or a priority keeps its place
  marked_same : (p : ℕ) (q : Process) (t : Tables) → q.place ≡ place_at t.processes p → SamePart part t (with_process t p q)
  unfolding with_process
  marked_same p q t e = entry_same p q t.running t (λ i. ap (stands (part.side i)) e)

  -- One who stands in none of the lines joins another
  joins_same : (p : ℕ) (place : Place) (t : Tables) → Off (place_at t.processes p) → Off place → SamePart part t (joins p place t)
  unfolding joins with_place with_process process_of
  joins_same p place t was is =
      elim (test (eqb p 0)) [ holds z ↦ rw z (part_none t) | fails z ↦ rw z (move_same p (placed (process_of t p) place) t.running t was is) ]

  -- marked before
  entered_same : (p : ℕ) (place : Place) (q : Process) (t : Tables) → q.place ≡ place_at t.processes p → Off (place_at t.processes p) → Off place → SamePart part t (joins p place (with_process t p q))
  entered_same p place q t e was is =
      let one : SamePart part t (with_process t p q) = marked_same p q t e in
      part_then one (joins_same p place (with_process t p q) (λ i. one.places i p ∙ was i) is)

  -- is released,
  pub released_same : (p : ℕ) (t : Tables) → Off (place_at t.processes p) → SamePart part t (released p t)
  unfolding released
  released_same p t was = joins_same p (released_to (process_of t p).suspended) t was (off_released (process_of t p).suspended)

  -- or runs
  runs_same : (p : ℕ) (t : Tables) → Off (place_at t.processes p) → SamePart part t (runs p t)
  unfolding runs with_place with_process
  runs_same p t was = entry_same p (placed (process_of t p) Running) p t (λ i. off_running i ∙ sym (was i))

  -- Such are released, one after the other
  pub all_same : (l : List ℕ) (t : Tables) → ((x : ℕ) → has x l ≡ true → Off (place_at t.processes x)) → SamePart part t (released_all l t)
  unfolding released_all
  all_same [] t h = part_none t
  all_same (p ∷ l) t h =
      let one : SamePart part t (released p t) = released_same p t (h p (has_here p l)) in
      part_then one (all_same l (released p t) (λ x k i. one.places i x ∙ h x (has_behind p x l k) i))

  -- The runner joins another line
  pub runner_joins_same : (place : Place) (t : Tables) → Off (place_at t.processes t.running) → Off place → SamePart part t (runner_joins place t)
  unfolding runner_joins
  runner_joins_same place t was is = part_then (joins_same t.running place t was is) (running_same 0 (joins t.running place t))

  -- "At the end of every accepted call, once": neither the runner nor the head of the ready line stands there
  pub part_dispatched : (t : Tables) → Settled t → SamePart part t (dispatched t)
  unfolding dispatched dispatched_to
  part_dispatched t s =
      let h = first (ready_line t) in
      elim (test (eqb h 0)) [
        | holds a ↦ rw a (part_none t)
        | fails a ↦
            elim (test (eqb t.running 0)) [
              | holds b ↦ rw (a, b) (runs_same h t (off_head t))
              | fails b ↦
                  elim (test (leb (process_of t h).priority (process_of t t.running).priority)) [
                    | holds k ↦ rw (a, b, k) (part_none t)
                    | fails k ↦
                        let left : SamePart part t (runner_joins Ready t) = runner_joins_same Ready t (off_runner t s) off_ready in
                        rw (a, b, k) (part_then left (runs_same h (runner_joins Ready t) (λ i. left.places i h ∙ off_head t i)))
                  ]
            ]
      ]

  -- ---- calls 2 to 9

  -- Create process: the new one is ready
  pub created_same : (priority : ℕ) (t : Tables) → Steady t → SamePart part t (created priority t).tables
  unfolding created created_as with_process
  created_same priority t steady =
      let p = free_process t in
      elim (test (eqb p 0)) [
        | holds z ↦ rw z (part_none t)
        | fails z ↦
            let unused : Unused p t = free_unused t (eqb-false p 0 z) in
            let was : Off (place_at t.processes p) = off_at t p Nowhere unused.nowhere off_nowhere in
            let one = entry_same p (newcomer priority) t.running t (λ i. off_ready i ∙ sym (was i)) in
            rw z (record {
              places = one.places;
              lines = λ i. began_lines p priority t steady unused (part.side i) (one.places i p ∙ was i);
              rest = part.told_by t _ refl refl;
            })
      ]

  -- Delete myself: the runner is nowhere then
  pub deleted_same : (t : Tables) → Steady t → SamePart part t (deleted_myself t).tables
  unfolding deleted_myself gone with_process with_parcel
  deleted_same t steady =
      elim (test (eqb t.running 0)) [
        | holds z ↦ rw z (part_none t)
        | fails z ↦
            let was : Off (place_at t.processes t.running) = off_runner t steady.settled in
            rw z (record {
              places = (entry_same t.running nobody 0 t (λ i. off_nowhere i ∙ sym (was i))).places;
              lines = λ i. ended_lines t steady (eqb-false t.running 0 z) (part.side i) (was i);
              rest = part.told_by t _ refl refl;
            })
      ]

  -- Suspend, by the place where p stands: one in a line is marked and keeps its position
  suspended_from_lem : (p : ℕ) (t : Tables) (place : Place) → place_at t.processes p ≡ place → SamePart part t (suspended_from place p (process_of t p) t).tables
  unfolding suspended_from parked process_of
  suspended_from_lem p t Nowhere was = part_none t
  suspended_from_lem p t Running was = part_then (entered_same p Parked (marked true (process_of t p)) t refl (off_at t p Running was off_running) off_parked) (running_same 0 _)
  suspended_from_lem p t Ready was = entered_same p Parked (marked true (process_of t p)) t refl (off_at t p Ready was off_ready) off_parked
  suspended_from_lem p t Parked was = part_none t
  suspended_from_lem p t (Waiting m) was = marked_same p (marked true (process_of t p)) t refl
  suspended_from_lem p t (Getting m l) was = marked_same p (marked true (process_of t p)) t refl
  suspended_from_lem p t (Putting m l) was = marked_same p (marked true (process_of t p)) t refl
  suspended_from_lem p t (Asleep k) was = marked_same p (marked true (process_of t p)) t refl

  -- Suspend
  pub suspended_same : (p : ℕ) (t : Tables) → SamePart part t (suspended p t).tables
  unfolding suspended suspended_of process_of numbered
  suspended_same p t =
      elim (test (process_of t p).suspended) [ holds e ↦ rw e (part_none t) | fails e ↦ rw e (suspended_from_lem p t (place_at t.processes p) refl) ]

  -- Resume, by the place where p stands
  resumed_from_lem : (p : ℕ) (t : Tables) (place : Place) → place_at t.processes p ≡ place → SamePart part t (resumed_from place p (process_of t p) t).tables
  unfolding resumed_from process_of
  resumed_from_lem p t Nowhere was = part_none t
  resumed_from_lem p t Running was = part_none t
  resumed_from_lem p t Ready was = part_none t
  resumed_from_lem p t Parked was = entered_same p Ready (marked false (process_of t p)) t refl (off_at t p Parked was off_parked) off_ready
  resumed_from_lem p t (Waiting m) was = marked_same p (marked false (process_of t p)) t refl
  resumed_from_lem p t (Getting m l) was = marked_same p (marked false (process_of t p)) t refl
  resumed_from_lem p t (Putting m l) was = marked_same p (marked false (process_of t p)) t refl
  resumed_from_lem p t (Asleep k) was = marked_same p (marked false (process_of t p)) t refl

  -- Resume
  pub resumed_same : (p : ℕ) (t : Tables) → SamePart part t (resumed p t).tables
  unfolding resumed resumed_of process_of numbered
  resumed_same p t =
      elim (test (process_of t p).suspended) [ holds e ↦ rw e (resumed_from_lem p t (place_at t.processes p) refl) | fails e ↦ rw e (part_none t) ]

  -- Change priority, by the place where p stands
  prioritised_from_lem : (l p : ℕ) (t : Tables) (place : Place) → place_at t.processes p ≡ place → SamePart part t (prioritised_from place p (with_priority l (process_of t p)) t).tables
  unfolding prioritised_from process_of
  prioritised_from_lem l p t Nowhere was = part_none t
  prioritised_from_lem l p t Running was = marked_same p (with_priority l (process_of t p)) t refl
  prioritised_from_lem l p t Ready was = entered_same p Ready (with_priority l (process_of t p)) t refl (off_at t p Ready was off_ready) off_ready
  prioritised_from_lem l p t Parked was = marked_same p (with_priority l (process_of t p)) t refl
  prioritised_from_lem l p t (Waiting m) was = marked_same p (with_priority l (process_of t p)) t refl
  prioritised_from_lem l p t (Getting m k) was = marked_same p (with_priority l (process_of t p)) t refl
  prioritised_from_lem l p t (Putting m k) was = marked_same p (with_priority l (process_of t p)) t refl
  prioritised_from_lem l p t (Asleep k) was = marked_same p (with_priority l (process_of t p)) t refl

  -- Change priority
  pub prioritised_same : (p l : ℕ) (t : Tables) → SamePart part t (prioritised p l t).tables
  unfolding prioritised prioritised_of process_of
  prioritised_same p l t =
      elim (test (is_free (process_of t p))) [
        | holds e ↦ rw e (part_none t)
        | fails e ↦
            elim (test (eqb (process_of t p).priority l)) [
              | holds s ↦ rw (e, s) (part_none t)
              | fails s ↦ rw (e, s) (prioritised_from_lem l p t (place_at t.processes p) refl)
            ]
      ]

  -- Schedule
  pub scheduled_same : (t : Tables) → Settled t → SamePart part t (scheduled t).tables
  unfolding scheduled head_runs
  scheduled_same t s =
      let u = runner_joins Ready t in
      elim (test (eqb t.running 0)) [
        | holds z ↦ rw z (part_none t)
        | fails z ↦
            elim (test (ready_has (process_of t t.running).priority t)) [
              | holds r ↦ rw (z, r) (part_then (runner_joins_same Ready t (off_runner t s) off_ready) (runs_same (first (ready_line u)) u (off_head u)))
              | fails r ↦ rw (z, r) (part_none t)
            ]
      ]

  -- Process state
  pub stated_same : (p : ℕ) (t : Tables) → SamePart part t (stated p t).tables
  unfolding stated stated_of
  stated_same p t = elim (test (is_free (process_of t p))) [ holds e ↦ rw e (part_none t) | fails e ↦ rw e (part_none t) ]

  -- Sleep
  pub slept_same : (m : ℕ) (t : Tables) → Settled t → SamePart part t (slept m t).tables
  unfolding slept
  slept_same m t s =
      elim (test (eqb t.running 0)) [
        | holds z ↦ rw z (part_none t)
        | fails z ↦
            elim (test (eqb m 0)) [
              | holds e ↦ rw (z, e) (part_none t)
              | fails e ↦ rw (z, e) (runner_joins_same (Asleep m) t (off_runner t s) (off_asleep m))
            ]
      ]

  -- ---- tick

  -- A sleeper whose remainder falls stands where it stood,
  fallen_stands : (k : ℕ) (x : Line) (q : Place) → stands x (fallen k q) ≡ stands x q
  unfolding stands
  fallen_stands k x Nowhere = refl
  fallen_stands k x Running = refl
  fallen_stands k x Ready = refl
  fallen_stands k x Parked = refl
  fallen_stands k x (Waiting m) = refl
  fallen_stands k x (Getting m l) = refl
  fallen_stands k x (Putting m l) = refl
  fallen_stands k x (Asleep m) = refl

  -- so every line is as it was
  later_same : (k : ℕ) (t : Tables) → SamePart part t (all_later k t)
  unfolding all_later line
  later_same k t =
      let each : (i : part.Side) (y : ℕ) → standing (part.side i) (map (later k) t.processes) y ≡ standing (part.side i) t.processes y
      = λ i y. ap (λ (q : Process). stands (part.side i) q.place) (mapped_at (later k) refl t.processes y) ∙ fallen_stands k (part.side i) (place_at t.processes y) in
      record {
        places = each;
        lines = λ i. keep_same (standing (part.side i) t.processes) (standing (part.side i) (map (later k) t.processes)) t.order (λ y h. each i y);
        rest = part.told_by t _ refl refl;
      }

  -- Who is due is asleep
  off_due : (q : Place) → is_due q ≡ true → Off q
  unfolding is_due
  off_due Nowhere e = absurd (true≢false (sym e))
  off_due Running e = absurd (true≢false (sym e))
  off_due Ready e = absurd (true≢false (sym e))
  off_due Parked e = absurd (true≢false (sym e))
  off_due (Waiting m) e = absurd (true≢false (sym e))
  off_due (Getting m l) e = absurd (true≢false (sym e))
  off_due (Putting m l) e = absurd (true≢false (sym e))
  off_due (Asleep m) e = off_asleep m

  -- Tick: those who are due were asleep
  pub ticked_same : (k : ℕ) (t : Tables) → SamePart part t (ticked k t).tables
  unfolding ticked due_released due
  ticked_same k t =
      let u = all_later k t in
      part_then (later_same k t) (all_same (due u) u (λ x h. off_due (place_at u.processes x) (in_line (due_of u.processes) x u.order h).0))
