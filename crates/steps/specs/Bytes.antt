-- Which steps leave all rings and parcels as they were: the dispatch, and every deed that moves no bytes. Assumes nothing.
use Rattle.std.specs.Prelude.{ℕ, ◌≡◌, false, List, [], ◌∷◌, eqb, ltb}
use Rattle.std.proofs.Math.Path.{refl}
use Rattle.std.proofs.Common.{◌∙◌, true≢false}
use Rattle.std.proofs.Math.Bool.{true}
use Rattle.basics.specs.Tests.{pick}
use Rattle.tables.specs.declared.Tables.{Tables}
use Rattle.tables.specs.declared.Process.{Process}
use Rattle.tables.specs.declared.Structure.{Structure}
use Rattle.tables.specs.declared.Kind.{Kind}
use Rattle.tables.specs.declared.Kind.TheVariants as kinds
use Rattle.tables.specs.declared.Place.{Place}
use Rattle.tables.specs.declared.Place.TheVariants.{Nowhere, Running, Ready, Parked, Waiting, Getting, Putting, Asleep}
use Rattle.tables.specs.Numbers.{is_semaphore}
use Rattle.tables.specs.Access.{process_of, structure_of, with_running, with_process, with_structure}
use Rattle.answers.specs.declared.Step.{Step}
use Rattle.ready.specs.Ready.{with_place, joins, runner_joins, released, let_through, released_all, runs, dispatched}
use Rattle.ready.specs.Laws.{OnlyPlaces, only_joins, only_runner_joins, dispatched_only}
use Rattle.records.specs.declared.Record.{Record}
use Rattle.calls.specs.declared.Deed.{Deed}
use Rattle.calls.specs.declared.Deed.TheVariants as deeds
use Rattle.calls.specs.Calls.{moves_bytes}
use Rattle.processes.specs.Processes as processes
use Rattle.structures.specs.Structures as structures
use Rattle.semaphores.specs.Semaphores as semaphores
use Rattle.steps.specs.Steps.{done, replied_by, replied}

-- Between t and u all rings and parcels are the same
pub record KeepsBytes (t u : Tables) : Type 0 where
  pub rings : u.rings ≡ t.rings
  pub parcels : u.parcels ≡ t.parcels

-- Nothing changes
keeps_none : (t : Tables) → KeepsBytes t t
keeps_none t = record { rings = refl; parcels = refl }

-- One change after another
keeps_then : {t u v : Tables} → KeepsBytes t u → KeepsBytes u v → KeepsBytes t v
keeps_then a b = record { rings = b.rings ∙ a.rings; parcels = b.parcels ∙ a.parcels }

-- A step after which all rings and parcels are as they were in t
abbrev StepKeeps : Tables → Step → Type 0
StepKeeps t s = KeepsBytes t s.tables

-- ---- lines, and who runs

-- Places, the order and who runs are no bytes
keeps_only : {p q : ℕ} {t u : Tables} → OnlyPlaces p q t u → KeepsBytes t u
keeps_only o = record { rings = o.rings; parcels = o.parcels }

-- Whoever runs
keeps_running : {t : Tables} (u : Tables) (p : ℕ) → KeepsBytes t u → KeepsBytes t (with_running u p)
keeps_running u p k = record { rings = k.rings; parcels = k.parcels }

module _ (t : Tables) where
  -- Another process,
  keeps_process : (p : ℕ) (q : Process) → KeepsBytes t (with_process t p q)
  unfolding with_process
  keeps_process p q = record { rings = refl; parcels = refl }

  -- another structure,
  keeps_structure : (n : ℕ) (s : Structure) → KeepsBytes t (with_structure t n s)
  unfolding with_structure
  keeps_structure n s = record { rings = refl; parcels = refl }

  -- a process that joins a line,
  keeps_joins : (p : ℕ) (place : Place) → KeepsBytes t (joins p place t)
  keeps_joins p place = keeps_only (only_joins p p place t)

  -- also the runner,
  keeps_runner_joins : (place : Place) → KeepsBytes t (runner_joins place t)
  keeps_runner_joins place = keeps_only (only_runner_joins t.running place t)

  -- one that is released,
  keeps_released : (p : ℕ) → KeepsBytes t (released p t)
  unfolding released
  keeps_released p = keeps_joins p _

  -- and one that runs
  keeps_runs : (p : ℕ) → KeepsBytes t (runs p t)
  unfolding runs with_place
  keeps_runs p = keeps_running (with_place t p Running) p (keeps_process p _)

-- Many that are released
keeps_released_all : (l : List ℕ) (t : Tables) → KeepsBytes t (released_all l t)
unfolding released_all
keeps_released_all [] t = keeps_none t
keeps_released_all (p ∷ l) t = keeps_then (keeps_released t p) (keeps_released_all l (released p t))

-- "At the end of every accepted call, once": whoever is due runs
pub dispatched_keeps : (t : Tables) → KeepsBytes t (dispatched t)
dispatched_keeps t = keeps_only (dispatched_only t)

-- ---- processes

-- A process with another entry joins a line
keeps_changed : (p : ℕ) (q : Process) (place : Place) (t : Tables) → KeepsBytes t (joins p place (with_process t p q))
keeps_changed p q place t = keeps_then (keeps_process t p q) (keeps_joins (with_process t p q) p place)

-- Suspend, resume and change priority, by the place of process p, whose entry is to be q but for the mark
module _ (p : ℕ) (q : Process) (t : Tables) where
  -- Suspend
  suspended_from_lem : (place : Place) → StepKeeps t (processes.suspended_from place p q t)
  unfolding processes.suspended_from processes.parked
  suspended_from_lem Nowhere = keeps_none t
  suspended_from_lem Running = keeps_running (processes.parked p q t) 0 (keeps_changed p (processes.marked true q) Parked t)
  suspended_from_lem Ready = keeps_changed p _ Parked t
  suspended_from_lem Parked = keeps_none t
  suspended_from_lem (Waiting n) = keeps_process t p _
  suspended_from_lem (Getting n k) = keeps_process t p _
  suspended_from_lem (Putting n k) = keeps_process t p _
  suspended_from_lem (Asleep m) = keeps_process t p _

  -- Resume
  resumed_from_lem : (place : Place) → StepKeeps t (processes.resumed_from place p q t)
  unfolding processes.resumed_from
  resumed_from_lem Nowhere = keeps_none t
  resumed_from_lem Running = keeps_none t
  resumed_from_lem Ready = keeps_none t
  resumed_from_lem Parked = keeps_changed p _ Ready t
  resumed_from_lem (Waiting n) = keeps_process t p _
  resumed_from_lem (Getting n k) = keeps_process t p _
  resumed_from_lem (Putting n k) = keeps_process t p _
  resumed_from_lem (Asleep m) = keeps_process t p _

  -- Change priority
  prioritised_from_lem : (place : Place) → StepKeeps t (processes.prioritised_from place p q t)
  unfolding processes.prioritised_from
  prioritised_from_lem Nowhere = keeps_none t
  prioritised_from_lem Running = keeps_process t p q
  prioritised_from_lem Ready = keeps_changed p q Ready t
  prioritised_from_lem Parked = keeps_process t p q
  prioritised_from_lem (Waiting n) = keeps_process t p q
  prioritised_from_lem (Getting n k) = keeps_process t p q
  prioritised_from_lem (Putting n k) = keeps_process t p q
  prioritised_from_lem (Asleep m) = keeps_process t p q

module _ (t : Tables) where
  -- Create process
  keeps_created : (priority : ℕ) → StepKeeps t (processes.created priority t)
  unfolding processes.created processes.created_as with_process
  keeps_created priority = pick (StepKeeps t) (eqb (processes.free_process t) 0) (keeps_none t) (record { rings = refl; parcels = refl })

  -- Suspend
  keeps_suspended : (p : ℕ) → StepKeeps t (processes.suspended p t)
  unfolding processes.suspended processes.suspended_of
  keeps_suspended p = pick (StepKeeps t) (process_of t p).suspended (keeps_none t) (suspended_from_lem p (process_of t p) t (process_of t p).place)

  -- Resume
  keeps_resumed : (p : ℕ) → StepKeeps t (processes.resumed p t)
  unfolding processes.resumed processes.resumed_of
  keeps_resumed p = pick (StepKeeps t) (process_of t p).suspended (resumed_from_lem p (process_of t p) t (process_of t p).place) (keeps_none t)

  -- Change priority
  keeps_prioritised : (p l : ℕ) → StepKeeps t (processes.prioritised p l t)
  unfolding processes.prioritised processes.prioritised_of
  keeps_prioritised p l =
      pick (StepKeeps t) (processes.is_free (process_of t p)) (keeps_none t)
      (pick (StepKeeps t) (eqb (process_of t p).priority l) (keeps_none t)
      (prioritised_from_lem p (processes.with_priority l (process_of t p)) t (process_of t p).place))

  -- Schedule
  keeps_scheduled : StepKeeps t (processes.scheduled t)
  unfolding processes.scheduled processes.head_runs
  keeps_scheduled =
      pick (StepKeeps t) (eqb t.running 0) (keeps_none t)
      (pick (StepKeeps t) (processes.ready_has (process_of t t.running).priority t)
      (keeps_then (keeps_runner_joins t Ready) (keeps_runs (runner_joins Ready t) _))
      (keeps_none t))

  -- Process state
  keeps_stated : (p : ℕ) → StepKeeps t (processes.stated p t)
  unfolding processes.stated processes.stated_of
  keeps_stated p = pick (StepKeeps t) (processes.is_free (process_of t p)) (keeps_none t) (keeps_none t)

  -- Sleep
  keeps_slept : (m : ℕ) → StepKeeps t (processes.slept m t)
  unfolding processes.slept
  keeps_slept m =
      pick (StepKeeps t) (eqb t.running 0) (keeps_none t)
      (pick (StepKeeps t) (eqb m 0) (keeps_none t) (keeps_runner_joins t (Asleep m)))

  -- Every sleeper's remainder falls,
  keeps_later : (k : ℕ) → KeepsBytes t (processes.all_later k t)
  unfolding processes.all_later
  keeps_later k = record { rings = refl; parcels = refl }

  -- and those at 0 are released: tick
  keeps_ticked : (k : ℕ) → StepKeeps t (processes.ticked k t)
  unfolding processes.ticked processes.due_released
  keeps_ticked k = keeps_then (keeps_later k) (keeps_released_all _ (processes.all_later k t))

-- ---- structures and semaphores

-- Structure value, by its kind
keeps_valued : (n : ℕ) (kind : Kind) (t : Tables) → StepKeeps t (structures.valued_at n t kind)
unfolding structures.valued_at structures.valued_as
keeps_valued n kinds.Free t = keeps_none t
keeps_valued n (kinds.Binary v) t = keeps_none t
keeps_valued n (kinds.Counting v) t = keeps_none t
keeps_valued n (kinds.Ring b) t = keeps_none t

module _ (n : ℕ) (t : Tables) where
  -- Signal
  keeps_signalled : StepKeeps t (semaphores.signalled n t)
  unfolding semaphores.signalled semaphores.signalled_at semaphores.with_kind let_through
  keeps_signalled =
      pick (StepKeeps t) (is_semaphore (semaphores.kind_of n t))
      (pick (KeepsBytes t) (semaphores.has_line n t) (keeps_released t _) (keeps_structure t n _))
      (keeps_none t)

  -- Conditional signal
  keeps_conditionally_signalled : StepKeeps t (semaphores.conditionally_signalled n t)
  unfolding semaphores.conditionally_signalled
  keeps_conditionally_signalled = pick (StepKeeps t) (semaphores.has_line n t) keeps_signalled (keeps_none t)

  -- Signal all
  keeps_all_signalled : StepKeeps t (semaphores.all_signalled n t)
  unfolding semaphores.all_signalled semaphores.all_released
  keeps_all_signalled = pick (StepKeeps t) (is_semaphore (semaphores.kind_of n t)) (keeps_released_all _ t) (keeps_none t)

  -- Wait
  keeps_waited : StepKeeps t (semaphores.waited n t)
  unfolding semaphores.waited semaphores.waited_at semaphores.with_kind
  keeps_waited =
      pick (StepKeeps t) (eqb t.running 0) (keeps_none t)
      (pick (StepKeeps t) (is_semaphore (semaphores.kind_of n t))
      (pick (StepKeeps t) (ltb 0 (semaphores.value (semaphores.kind_of n t))) (keeps_structure t n _) (keeps_runner_joins t (Waiting n)))
      (keeps_none t))

  -- Conditional wait
  keeps_conditionally_waited : StepKeeps t (semaphores.conditionally_waited n t)
  unfolding semaphores.conditionally_waited
  keeps_conditionally_waited = pick (StepKeeps t) (ltb 0 (semaphores.value (semaphores.kind_of n t))) keeps_waited (keeps_none t)

-- ---- what an accepted request does

-- A deed that moves no bytes leaves all rings and parcels as they were
pub done_keeps : (d : Deed) (r : Record) (t : Tables) → moves_bytes d ≡ false → KeepsBytes t (done d r t).tables
unfolding done moves_bytes structures.valued
done_keeps deeds.Unknown r t h = keeps_none t
done_keeps deeds.Tick r t h = keeps_ticked t 1
done_keeps deeds.CreateProcess r t h = keeps_created t r.l
done_keeps deeds.DeleteMyself r t h = absurd (true≢false h)
done_keeps deeds.Suspend r t h = keeps_suspended t r.n
done_keeps deeds.Resume r t h = keeps_resumed t r.n
done_keeps deeds.ChangePriority r t h = keeps_prioritised t r.n r.l
done_keeps deeds.Schedule r t h = keeps_scheduled t
done_keeps deeds.ProcessState r t h = keeps_stated t r.n
done_keeps deeds.Sleep r t h = keeps_slept t r.m
done_keeps deeds.CreateStructure r t h = absurd (true≢false h)
done_keeps deeds.DeleteStructure r t h = absurd (true≢false h)
done_keeps deeds.StructureValue r t h = keeps_valued r.n (structure_of t r.n).kind t
done_keeps deeds.Signal r t h = keeps_signalled r.n t
done_keeps deeds.ConditionalSignal r t h = keeps_conditionally_signalled r.n t
done_keeps deeds.SignalAll r t h = keeps_all_signalled r.n t
done_keeps deeds.Wait r t h = keeps_waited r.n t
done_keeps deeds.ConditionalWait r t h = keeps_conditionally_waited r.n t
done_keeps deeds.Put r t h = absurd (true≢false h)
done_keeps deeds.ConditionalPut r t h = absurd (true≢false h)
done_keeps deeds.Get r t h = absurd (true≢false h)
done_keeps deeds.ConditionalGet r t h = absurd (true≢false h)
done_keeps deeds.ResetRing r t h = absurd (true≢false h)
done_keeps deeds.Collect r t h = absurd (true≢false h)

-- and so does the whole accepted call
pub stepped_keeps : (d : Deed) (r : Record) (t : Tables) → moves_bytes d ≡ false → KeepsBytes t (replied (done d r t)).tables
unfolding replied replied_by
stepped_keeps d r t h = keeps_then (done_keeps d r t h) (dispatched_keeps (done d r t).tables)
