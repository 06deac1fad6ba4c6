-- Document 01's numbers for what the tables keep as enums.
use Rattle.std.specs.Prelude.{ℕ, ◌+◌, Bool, true, false, cond, eqb, leb, Option, None, Some}
use Rattle.tables.specs.declared.Process.{Process}
use Rattle.tables.specs.declared.Place.{Place}
use Rattle.tables.specs.declared.Place.TheVariants.{Nowhere, Running, Ready, Parked, Waiting, Getting, Putting, Asleep}
use Rattle.tables.specs.declared.Kind.{Kind}
use Rattle.tables.specs.declared.Kind.TheVariants.{Free, Binary, Counting, Ring}

-- The place: 1 running, 2 ready, 3 parked, 4 in a semaphore's line, 5 getting, 6 putting, 7 asleep; 0 nowhere
abbrev pub code : Place → ℕ
code Nowhere = 0
code Running = 1
code Ready = 2
code Parked = 3
code (Waiting n) = 4
code (Getting n k) = 5
code (Putting n k) = 6
code (Asleep k) = 7

-- The structure at which it waits, or 0
abbrev pub spot : Place → ℕ
spot Nowhere = 0
spot Running = 0
spot Ready = 0
spot Parked = 0
spot (Waiting n) = n
spot (Getting n k) = n
spot (Putting n k) = n
spot (Asleep k) = 0

-- The bytes that it wants or brings, or the milliseconds that it still sleeps; else 0
abbrev pub amount : Place → ℕ
amount Nowhere = 0
amount Running = 0
amount Ready = 0
amount Parked = 0
amount (Waiting n) = 0
amount (Getting n k) = k
amount (Putting n k) = k
amount (Asleep k) = k

-- In 4 to 7 it may also be suspended; its place code is then 16 more
unfoldable pub place_code : Process → ℕ
place_code q = cond q.suspended (cond (leb 4 (code q.place)) (code q.place + 16) (code q.place)) (code q.place)

-- Kind 1 binary, 2 counting, 3 ring; 0 free
abbrev pub kind_number : Kind → ℕ
kind_number Free = 0
kind_number (Binary v) = 1
kind_number (Counting v) = 2
kind_number (Ring b) = 3

-- A structure that is live, a semaphore, a ring
abbrev pub is_live : Kind → Bool
is_live Free = false
is_live (Binary v) = true
is_live (Counting v) = true
is_live (Ring b) = true

abbrev pub is_semaphore : Kind → Bool
is_semaphore Free = false
is_semaphore (Binary v) = true
is_semaphore (Counting v) = true
is_semaphore (Ring b) = false

abbrev pub is_ring : Kind → Bool
is_ring Free = false
is_ring (Binary v) = false
is_ring (Counting v) = false
is_ring (Ring b) = true

-- A number for somebody is above 0; 0 is nobody, or nothing
abbrev pub somebody : ℕ → Option ℕ
somebody x = cond (eqb x 0) None (Some x)
