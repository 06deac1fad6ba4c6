-- The lines: each is a view of the one arrival order.
use Rattle.std.specs.Prelude.{ℕ, suc, ◌-◌, List, [], ◌∷◌, ◌++◌, Bool, false, cond, eqb, leb, ltb, length, replicate, Option, None, Some}
use Rattle.arrivals.specs.Order.{keep}
use Rattle.tables.specs.declared.Tables.{Tables}
use Rattle.tables.specs.declared.Process.{Process}
use Rattle.tables.specs.declared.Place.{Place}
use Rattle.tables.specs.declared.Place.TheVariants.{Nowhere, Running, Ready, Parked, Waiting, Getting, Putting, Asleep}
use Rattle.tables.specs.declared.Line.{Line}
use Rattle.tables.specs.declared.Line.TheVariants as lines
use Rattle.tables.specs.Numbers.{code, spot}
use Rattle.tables.specs.Access.{numbered, nobody}

-- The place number of those who stand in a line, and the structure whose line it is, or 0
abbrev pub line_code : Line → ℕ
line_code lines.Ready = 2
line_code lines.Parked = 3
line_code (lines.Semaphore n) = 4
line_code (lines.Getters n) = 5
line_code (lines.Putters n) = 6
line_code lines.Sleepers = 7

abbrev pub line_spot : Line → ℕ
line_spot lines.Ready = 0
line_spot lines.Parked = 0
line_spot (lines.Semaphore n) = n
line_spot (lines.Getters n) = n
line_spot (lines.Putters n) = n
line_spot lines.Sleepers = 0

-- The line in which a process in this place stands, if it stands in one
abbrev pub line_at : Place → Option Line
line_at Nowhere = None
line_at Running = None
line_at Ready = Some lines.Ready
line_at Parked = Some lines.Parked
line_at (Waiting n) = Some (lines.Semaphore n)
line_at (Getting n k) = Some (lines.Getters n)
line_at (Putting n k) = Some (lines.Putters n)
line_at (Asleep k) = Some lines.Sleepers

-- Does a process in this place stand in this line?
unfoldable pub stands : Line → Place → Bool
stands x place = cond (eqb (code place) (line_code x)) (eqb (spot place) (line_spot x)) false

abbrev pub standing : Line → List Process → ℕ → Bool
standing x processes p = stands x (numbered processes p nobody).place

-- Numbers of processes are 1 to 32
unfoldable pub is_number : ℕ → Bool
is_number p = cond (eqb p 0) false (leb p 32)

-- A line in order of arrival: those of the order who stand in it
unfoldable pub line : Line → Tables → List ℕ
line x t = keep (standing x t.processes) t.order

-- Does a process in this place stand in a line of structure n?
unfoldable pub waits_at : ℕ → Place → Bool
waits_at n place = cond (leb 4 (code place)) (cond (leb (code place) 6) (eqb (spot place) n) false) false

abbrev pub waiting_at : ℕ → List Process → ℕ → Bool
waiting_at n processes p = waits_at n (numbered processes p nobody).place

-- How many stand in the lines of structure n
unfoldable pub in_lines_of : ℕ → Tables → ℕ
in_lines_of n t = length (keep (waiting_at n t.processes) t.order)

-- How urgent p is: nobody 0, a process 1 more than its priority
unfoldable pub urgency : List Process → ℕ → ℕ
urgency processes p = cond (eqb p 0) 0 (suc (numbered processes p nobody).priority)

-- A newcomer stands behind its equals, and ahead of the less urgent
abbrev pub behind_equals : (ℕ → ℕ) → ℕ → List ℕ → List ℕ
behind_equals f x [] = x ∷ []
behind_equals f x (y ∷ l) = cond (ltb (f y) (f x)) (x ∷ y ∷ l) (y ∷ behind_equals f x l)

-- Those of l, who come one after the other, stand in a line of falling urgency
abbrev pub by_urgency : (ℕ → ℕ) → List ℕ → List ℕ → List ℕ
by_urgency f stood [] = stood
by_urgency f stood (x ∷ l) = by_urgency f (behind_equals f x stood) l

-- The first of the most urgent among p and those of l behind it
abbrev pub better : (ℕ → ℕ) → ℕ → List ℕ → ℕ
better f p [] = p
better f p (x ∷ l) = better f (cond (ltb (f p) (f x)) x p) l

-- The ready line: falling priority; a newcomer stands behind its equals
unfoldable pub ready_line : Tables → List ℕ
ready_line t = by_urgency (urgency t.processes) [] (line lines.Ready t)

-- A line as the first of 32 numbers, zeros behind it
unfoldable pub padded : List ℕ → List ℕ
padded l = l ++ replicate (32 - length l) 0
