-- The ready line, and what released means.
use Rattle.std.specs.Prelude.{ℕ, Bool, true, false, cond, Option, Some, None, List, [], ◌∷◌, eqb, leb, ltb}
use Rattle.arrivals.specs.Order.{moved_last, first}
use Rattle.tables.specs.declared.Tables.{Tables}
use Rattle.tables.specs.declared.Process.{Process}
use Rattle.tables.specs.declared.Place.{Place}
use Rattle.tables.specs.declared.Place.TheVariants.{Running, Ready, Parked}
use Rattle.tables.specs.declared.Line.{Line}
use Rattle.tables.specs.Access.{process_of, with_process, with_order, with_running}
use Rattle.tables.specs.Lines.{line, ready_line}

abbrev pub placed : Process → Place → Process
placed q place = record { priority = q.priority; suspended = q.suspended; place = place }

-- Process p in another place; its position in the order stays
unfoldable pub with_place : Tables → ℕ → Place → Tables
with_place t p place = with_process t p (placed (process_of t p) place)

-- To join a line is to take its place and to be the last to have arrived. Nobody joins no line
unfoldable pub joins : ℕ → Place → Tables → Tables
joins p place t = cond (eqb p 0) t (with_order (with_place t p place) (moved_last p t.order))

-- The runner joins a line, and nobody runs
unfoldable pub runner_joins : Place → Tables → Tables
runner_joins place t = with_running (joins t.running place t) 0

-- Released means moved to the ready line, or to the end of the parked line if suspended (it is then plainly parked)
abbrev pub released_to : Bool → Place
released_to true = Parked
released_to false = Ready

unfoldable pub released : ℕ → Tables → Tables
released p t = joins p (released_to (process_of t p).suspended) t

-- The head of a line is let through: released
unfoldable pub let_through : Line → Tables → Tables
let_through x t = released (first (line x t)) t

-- These are released, one after the other
unfoldable pub released_all : List ℕ → Tables → Tables
released_all [] t = t
released_all (p ∷ l) t = released_all l (released p t)

unfoldable pub runs : ℕ → Tables → Tables
runs p t = with_running (with_place t p Running) p

-- At the end of every accepted call, once: if nobody runs, the head runs; if the head is strictly more urgent than the runner,
-- the runner goes to the ready line behind its equals and the head runs
unfoldable pub dispatched_to : ℕ → Tables → Tables
dispatched_to head t =
    cond (eqb head 0) t
    (cond (eqb t.running 0) (runs head t)
    (cond (leb (process_of t head).priority (process_of t t.running).priority) t
    (runs head (runner_joins Ready t))))

unfoldable pub dispatched : Tables → Tables
dispatched t = dispatched_to (first (ready_line t)) t

-- Does the head of these priorities go before the runner? A number above 32 counts as priority 0
unfoldable pub goes : ℕ → ℕ → ℕ → ℕ → Bool
goes head running newcomer runner = cond (eqb head 0) false (cond (eqb running 0) true (ltb (cond (leb running 32) runner 0) newcomer))

-- The head of the ready line, if it goes before the runner
abbrev pub ahead_of_runner : ℕ → Tables → Option ℕ
ahead_of_runner head t = cond (goes head t.running (process_of t head).priority (process_of t t.running).priority) (Some head) None
