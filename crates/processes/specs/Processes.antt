-- The steps of calls 1 to 9: what each does to the tables once it is accepted, and what it answers.
use Rattle.std.specs.Prelude.{ℕ, suc, ◌-◌, Bool, true, false, cond, List, [], ◌∷◌, map, eqb, replicate}
use Rattle.arrivals.specs.Order.{has, first, keep, joined, deleted}
use Rattle.bay.specs.Bay.{empty_parcel}
use Rattle.tables.specs.declared.Tables.{Tables}
use Rattle.tables.specs.declared.Process.{Process}
use Rattle.tables.specs.declared.Place.{Place}
use Rattle.tables.specs.declared.Place.TheVariants.{Nowhere, Running, Ready, Parked, Waiting, Getting, Putting, Asleep}
use Rattle.tables.specs.declared.Line.TheVariants as lines
use Rattle.tables.specs.Numbers.{code, spot, place_code}
use Rattle.tables.specs.Access.{numbered, nobody, process_of, with_running, with_order, with_processes, with_process, with_parcel}
use Rattle.tables.specs.Lines.{line, ready_line}
use Rattle.answers.specs.declared.Outcome.TheVariants.{Done, Waits}
use Rattle.answers.specs.declared.Step.{Step}
use Rattle.answers.specs.Answers.{answer, plain, step, unmoved}
use Rattle.ready.specs.Ready.{placed, joins, runner_joins, released_all, runs}

-- ---- create process, and delete myself

-- A number is free when it is nowhere
unfoldable pub is_free : Process → Bool
is_free q = eqb (code q.place) 0

-- The lowest free number of those who are numbered from n on; 0 if none is free
abbrev pub lowest_free : ℕ → List Process → ℕ
lowest_free n [] = 0
lowest_free n (q ∷ l) = cond (is_free q) n (lowest_free (suc n) l)

-- The lowest free number of these processes, and of the tables'
abbrev pub free_in : List Process → ℕ
free_in processes = lowest_free 1 processes

unfoldable pub free_process : Tables → ℕ
free_process t = free_in t.processes

-- A new process: not suspended, ready
abbrev pub newcomer : ℕ → Process
newcomer priority = record { priority = priority; suspended = false; place = Ready }

-- A new process takes number p and joins the ready line
unfoldable pub created_as : ℕ → ℕ → Tables → Step
created_as p priority t =
    cond (eqb p 0) (unmoved t)
    (step (with_order (with_process t p (newcomer priority)) (joined p t.order)) (answer Done p 0 0 (replicate 64 0)))

-- Creation takes the lowest free number. A new process joins the ready line
unfoldable pub created : ℕ → Tables → Step
created priority t = created_as (free_process t) priority t

-- Process p is nobody again, its parcel is empty, and the order lists it no more: deleted numbers are used again
unfoldable pub gone : ℕ → Tables → Tables
gone p t = with_order (with_parcel (with_process t p nobody) p empty_parcel) (deleted p t.order)

-- Delete myself: the runner is gone, and nobody runs
unfoldable pub deleted_myself : Tables → Step
deleted_myself t = cond (eqb t.running 0) (unmoved t) (step (with_running (gone t.running t) 0) (plain Done))

-- ---- suspend and resume

-- A process that is suspended, or not
abbrev pub marked : Bool → Process → Process
marked b q = record { priority = q.priority; suspended = b; place = q.place }

-- Process p, marked, goes to the end of the parked line
unfoldable pub parked : ℕ → Process → Tables → Tables
parked p q t = joins p Parked (with_process t p (marked true q))

-- Running or ready goes to the end of the parked line; waiting or asleep is marked and keeps its position
unfoldable pub suspended_from : Place → ℕ → Process → Tables → Step
suspended_from Nowhere p q t = unmoved t
suspended_from Running p q t = step (with_running (parked p q t) 0) (plain Done)
suspended_from Ready p q t = step (parked p q t) (plain Done)
suspended_from Parked p q t = unmoved t
suspended_from (Waiting n) p q t = step (with_process t p (marked true q)) (plain Done)
suspended_from (Getting n k) p q t = step (with_process t p (marked true q)) (plain Done)
suspended_from (Putting n k) p q t = step (with_process t p (marked true q)) (plain Done)
suspended_from (Asleep m) p q t = step (with_process t p (marked true q)) (plain Done)

-- One that is suspended already is not suspended again
unfoldable pub suspended_of : ℕ → Process → Tables → Step
suspended_of p q t = cond q.suspended (unmoved t) (suspended_from q.place p q t)

-- Suspend process p
unfoldable pub suspended : ℕ → Tables → Step
suspended p t = suspended_of p (process_of t p) t

-- Resume undoes either; a parked one joins the ready line
unfoldable pub resumed_from : Place → ℕ → Process → Tables → Step
resumed_from Nowhere p q t = unmoved t
resumed_from Running p q t = unmoved t
resumed_from Ready p q t = unmoved t
resumed_from Parked p q t = step (joins p Ready (with_process t p (marked false q))) (plain Done)
resumed_from (Waiting n) p q t = step (with_process t p (marked false q)) (plain Done)
resumed_from (Getting n k) p q t = step (with_process t p (marked false q)) (plain Done)
resumed_from (Putting n k) p q t = step (with_process t p (marked false q)) (plain Done)
resumed_from (Asleep m) p q t = step (with_process t p (marked false q)) (plain Done)

-- One that is not suspended is not resumed
unfoldable pub resumed_of : ℕ → Process → Tables → Step
resumed_of p q t = cond q.suspended (resumed_from q.place p q t) (unmoved t)

-- Resume process p
unfoldable pub resumed : ℕ → Tables → Step
resumed p t = resumed_of p (process_of t p) t

-- ---- change priority, and schedule

-- A process with priority l
abbrev pub with_priority : ℕ → Process → Process
with_priority l q = record { priority = l; suspended = q.suspended; place = q.place }

-- A ready process is moved behind its new equals; others only get the new number
unfoldable pub prioritised_from : Place → ℕ → Process → Tables → Step
prioritised_from Nowhere p q t = unmoved t
prioritised_from Running p q t = step (with_process t p q) (plain Done)
prioritised_from Ready p q t = step (joins p Ready (with_process t p q)) (plain Done)
prioritised_from Parked p q t = step (with_process t p q) (plain Done)
prioritised_from (Waiting n) p q t = step (with_process t p q) (plain Done)
prioritised_from (Getting n k) p q t = step (with_process t p q) (plain Done)
prioritised_from (Putting n k) p q t = step (with_process t p q) (plain Done)
prioritised_from (Asleep m) p q t = step (with_process t p q) (plain Done)

-- Change priority to the present value changes nothing
unfoldable pub prioritised_of : ℕ → ℕ → Process → Tables → Step
prioritised_of p l q t =
    cond (is_free q) (unmoved t)
    (cond (eqb q.priority l) (step t (plain Done))
    (prioritised_from q.place p (with_priority l q) t))

-- Process p gets priority l
unfoldable pub prioritised : ℕ → ℕ → Tables → Step
prioritised p l t = prioritised_of p l (process_of t p) t

-- The priority of process p, 0 of nobody
abbrev pub priority_of : List Process → ℕ → ℕ
priority_of processes p = (numbered processes p nobody).priority

-- A ready process has priority l
unfoldable pub ready_has : ℕ → Tables → Bool
ready_has l t = has l (map (priority_of t.processes) (line lines.Ready t))

-- The head of the ready line runs
unfoldable pub head_runs : Tables → Tables
head_runs t = runs (first (ready_line t)) t

-- Schedule: if a ready process has the caller's priority, the caller goes behind its equals and the head runs
unfoldable pub scheduled : Tables → Step
scheduled t =
    cond (eqb t.running 0) (unmoved t)
    (cond (ready_has (process_of t t.running).priority t) (step (head_runs (runner_joins Ready t)) (plain Done))
    (step t (plain Done)))

-- ---- process state

-- N structure waited at or 0, L priority, M place code; the tables stay
unfoldable pub stated_of : Process → Tables → Step
stated_of q t = cond (is_free q) (unmoved t) (step t (answer Done (spot q.place) q.priority (place_code q) (replicate 64 0)))

-- The state of process p
unfoldable pub stated : ℕ → Tables → Step
stated p t = stated_of (process_of t p) t

-- ---- sleep, and tick

-- Sleep 0 is code 0 and changes nothing; else the caller joins the sleepers
unfoldable pub slept : ℕ → Tables → Step
slept m t =
    cond (eqb t.running 0) (unmoved t)
    (cond (eqb m 0) (step t (plain Done))
    (step (runner_joins (Asleep m) t) (plain Waits)))

-- A sleeper's remainder falls by k, to no less than 0
abbrev pub fallen : ℕ → Place → Place
fallen k Nowhere = Nowhere
fallen k Running = Running
fallen k Ready = Ready
fallen k Parked = Parked
fallen k (Waiting n) = Waiting n
fallen k (Getting n m) = Getting n m
fallen k (Putting n m) = Putting n m
fallen k (Asleep m) = Asleep (m - k)

-- A process k milliseconds later
abbrev pub later : ℕ → Process → Process
later k q = placed q (fallen k q.place)

-- Every sleeper's remainder falls by k, suspended or not
unfoldable pub all_later : ℕ → Tables → Tables
all_later k t = with_processes t (map (later k) t.processes)

-- A sleeper whose remainder is 0
unfoldable pub is_due : Place → Bool
is_due Nowhere = false
is_due Running = false
is_due Ready = false
is_due Parked = false
is_due (Waiting n) = false
is_due (Getting n m) = false
is_due (Putting n m) = false
is_due (Asleep m) = eqb m 0

-- Process p is due
abbrev pub due_of : List Process → ℕ → Bool
due_of processes p = is_due (numbered processes p nobody).place

-- Those at 0, in the order they went to sleep
unfoldable pub due : Tables → List ℕ
due t = keep (due_of t.processes) t.order

-- x if it passes the test f, else nobody
abbrev pub or_nobody : (ℕ → Bool) → ℕ → ℕ
or_nobody f x = cond (f x) x 0

-- Those at 0 are released
unfoldable pub due_released : Tables → Tables
due_released t = released_all (due t) t

-- Every sleeper's remainder falls; those at 0 are released in the order they went to sleep. A tick is k = 1
unfoldable pub ticked : ℕ → Tables → Step
ticked k t = step (due_released (all_later k t)) (plain Done)
