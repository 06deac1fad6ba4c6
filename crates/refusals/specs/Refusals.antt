-- The refusals 41 to 53: when each applies, in document 01's words, and which one is given.
use Rattle.std.specs.Prelude.{ℕ, Bool, true, false, cond, not, List, [], ◌∷◌, ◌++◌, eqb, leb, ltb, drop}
use Rattle.std.specs.Prelude.{Option, None, Some}
use Rattle.tables.specs.declared.Tables.{Tables}
use Rattle.tables.specs.declared.Process.{Process}
use Rattle.tables.specs.declared.Kind.{Kind}
use Rattle.tables.specs.declared.Kind.TheVariants as kinds
use Rattle.tables.specs.Numbers.{code, is_live, is_semaphore, is_ring}
use Rattle.tables.specs.Access.{process_of, structure_of, ring_in, parcel_for}
use Rattle.tables.specs.Lines.{in_lines_of}
use Rattle.records.specs.declared.Record.{Record}
use Rattle.calls.specs.declared.Row.{Row}
use Rattle.calls.specs.declared.Number.{Number}
use Rattle.calls.specs.declared.Number.TheVariants as number
use Rattle.calls.specs.declared.Small.{Small}
use Rattle.calls.specs.declared.Small.TheVariants as small
use Rattle.calls.specs.declared.Amount.{Amount}
use Rattle.calls.specs.declared.Amount.TheVariants as amount
use Rattle.calls.specs.declared.Data.{Data}
use Rattle.calls.specs.declared.Data.TheVariants as bytes
use Rattle.calls.specs.Calls.{row_of, allowed}
use Rattle.processes.specs.Processes.{free_process}
use Rattle.structures.specs.Structures.{free_number, free_bay}

-- ---- tests

abbrev pub both : Bool → Bool → Bool
both a b = cond a b false

abbrev pub either : Bool → Bool → Bool
either a b = cond a true b

-- Some number of the list passes the test
abbrev pub some : (ℕ → Bool) → List ℕ → Bool
some f [] = false
some f (x ∷ l) = either (f x) (some f l)

-- Every byte is zero
abbrev pub all_zero : List ℕ → Bool
all_zero [] = true
all_zero (x ∷ l) = both (eqb x 0) (all_zero l)

-- ---- 41, 42: the call and the caller

-- 41: call 0 or above 23
unfoldable pub unknown_call : ℕ → Bool
unknown_call call = either (eqb call 0) (ltb 23 call)

-- 42: caller byte above 1, caller not allowed this call, or caller 1 while running is 0
unfoldable pub wrong_caller : Row → ℕ → ℕ → Bool
wrong_caller row caller running =
    either (ltb 1 caller) (either (not (allowed row.callers caller)) (both (eqb caller 1) (eqb running 0)))

-- ---- 43: a field out of range, or an unused one not zero

-- N of a structure or process: see 44, 46
abbrev pub number_fits : Number → ℕ → Bool
number_fits number.Unused n = eqb n 0
number_fits number.Process n = true
number_fits number.Structure n = true
number_fits number.Semaphore n = true
number_fits number.Ring n = true

-- Priority 0 to 255, which is any byte; kind 1 to 3; length 1 to 64
abbrev pub small_fits : Small → ℕ → Bool
small_fits small.Unused l = eqb l 0
small_fits small.Priority l = true
small_fits small.Kind l = both (leb 1 l) (leb l 3)
small_fits small.Length l = both (leb 1 l) (leb l 64)

-- Binary (value 0 or 1), counting (0 to 32,767), ring (size 1 to 256)
unfoldable pub start_fits : ℕ → ℕ → Bool
start_fits kind m =
    cond (eqb kind 1) (leb m 1)
    (cond (eqb kind 2) (leb m 32767)
    (cond (eqb kind 3) (both (leb 1 m) (leb m 256)) false))

-- Milliseconds 0 to 2,147,483,647
abbrev pub amount_fits : Amount → ℕ → ℕ → Bool
amount_fits amount.Unused l m = eqb m 0
amount_fits amount.Milliseconds l m = leb m 2147483647
amount_fits amount.StartOrSize l m = start_fits l m

-- Data beyond length L is zero
abbrev pub data_fit : Data → ℕ → List ℕ → Bool
data_fit bytes.Unused l b = all_zero b
data_fit bytes.UpToLength l b = all_zero (drop l b)

unfoldable pub bad_field : Row → Record → Bool
bad_field row r =
    not (both (number_fits row.n r.n) (both (small_fits row.l r.l) (both (amount_fits row.m r.l r.m) (data_fit row.bytes r.l r.bytes))))

-- ---- 44, 45: the structures that a request names

unfoldable pub named : Number → ℕ → List ℕ
named number.Unused n = []
named number.Process n = []
named number.Structure n = n ∷ []
named number.Semaphore n = n ∷ []
named number.Ring n = n ∷ []

-- A test of the structures named, where there is at most one
abbrev pub of_named : Number → Bool → Bool
of_named number.Unused b = false
of_named number.Process b = false
of_named number.Structure b = b
of_named number.Semaphore b = b
of_named number.Ring b = b

-- A semaphore call wants no ring, a ring call no semaphore
abbrev pub wrong_for : Number → Kind → Bool
wrong_for number.Unused kind = false
wrong_for number.Process kind = false
wrong_for number.Structure kind = false
wrong_for number.Semaphore kind = is_ring kind
wrong_for number.Ring kind = is_semaphore kind

-- 44: structure N not live, N = 0 or above 24 included
unfoldable pub dead_structure : Row → Record → Tables → Bool
dead_structure row r t = some (λ n. not (is_live (structure_of t n).kind)) (named row.n r.n)

-- 45: semaphore call on a ring, or ring call on a semaphore
unfoldable pub wrong_kind : Row → Record → Tables → Bool
wrong_kind row r t = some (λ n. wrong_for row.n (structure_of t n).kind) (named row.n r.n)

-- ---- 46, 47: the process that a request names

abbrev pub names_process : Number → Bool
names_process number.Unused = false
names_process number.Process = true
names_process number.Structure = false
names_process number.Semaphore = false
names_process number.Ring = false

-- 46: process N not live, 0 or above 32 included
unfoldable pub dead_process : Row → Process → Bool
dead_process row q = both (names_process row.n) (eqb (code q.place) 0)

-- 47: suspend of one suspended already, resume of one not suspended
unfoldable pub wrong_suspension : ℕ → Process → Bool
wrong_suspension call q = cond (eqb call 4) q.suspended (cond (eqb call 5) (not q.suspended) false)

-- ---- 48 to 51: what the parcel, the structure and its lines say

abbrev pub holds_bytes : Option ℕ → Bool
holds_bytes None = false
holds_bytes (Some n) = true

-- Calls 18 to 21
abbrev pub moves : ℕ → Bool
moves call = both (leb 18 call) (leb call 21)

-- 48: calls 18 to 21 by a process whose parcel holds uncollected bytes
unfoldable pub uncollected : ℕ → ℕ → Option ℕ → Bool
uncollected call caller holds = both (moves call) (both (eqb caller 1) (holds_bytes holds))

-- The size of a ring; of anything else no length is above it
abbrev pub above_size : ℕ → Kind → Tables → Bool
above_size l kinds.Free t = false
above_size l (kinds.Binary v) t = false
above_size l (kinds.Counting v) t = false
above_size l (kinds.Ring b) t = ltb (ring_in t b).size l

-- 49: length above the ring's size
unfoldable pub too_long : ℕ → ℕ → Kind → Tables → Bool
too_long call l kind t = both (moves call) (above_size l kind t)

abbrev pub is_full : Kind → Bool
is_full kinds.Free = false
is_full (kinds.Binary v) = false
is_full (kinds.Counting v) = eqb v 32767
is_full (kinds.Ring b) = false

-- 50: call 13 on a counting semaphore at 32,767
unfoldable pub signals_full : ℕ → Kind → Bool
signals_full call kind = both (eqb call 13) (is_full kind)

-- 51: delete of a structure with a process in a line
unfoldable pub deletes_in_use : ℕ → ℕ → Tables → Bool
deletes_in_use call n t = both (eqb call 11) (ltb 0 (in_lines_of n t))

-- ---- 52, 53: no number is free

-- 52: 32 processes live
unfoldable pub processes_full : ℕ → Tables → Bool
processes_full call t = both (eqb call 2) (eqb (free_process t) 0)

-- 53: 24 structures live, or kind 3 with 8 rings live
unfoldable pub structures_full : ℕ → ℕ → Tables → Bool
structures_full call kind t =
    both (eqb call 10) (either (eqb (free_number t.structures) 0) (both (eqb kind 3) (eqb (free_bay t.structures) 0)))

-- What is left of 48 and 49 for put and get, and of 53 for create structure
unfoldable pub refused_transfer : Tables → Record → ℕ
refused_transfer t r =
    cond (both (eqb r.who 1) (holds_bytes (parcel_for t t.running).holds)) 48
    (cond (above_size r.l (structure_of t r.n).kind t) 49 0)

unfoldable pub refused_creation : Tables → Record → ℕ
refused_creation t r =
    cond (either (eqb (free_number t.structures) 0) (both (eqb r.l 3) (eqb (free_bay t.structures) 0))) 53 0

-- ---- which one is given

-- Refusal k of a request with this row and call number
unfoldable pub applies_to : Row → ℕ → Tables → Record → ℕ → Bool
applies_to row call t r k =
    cond (eqb k 41) (unknown_call call)
    (cond (eqb k 42) (wrong_caller row r.who t.running)
    (cond (eqb k 43) (bad_field row r)
    (cond (eqb k 44) (dead_structure row r t)
    (cond (eqb k 45) (wrong_kind row r t)
    (cond (eqb k 46) (dead_process row (process_of t r.n))
    (cond (eqb k 47) (wrong_suspension call (process_of t r.n))
    (cond (eqb k 48) (uncollected call r.who (parcel_for t t.running).holds)
    (cond (eqb k 49) (too_long call r.l (structure_of t r.n).kind t)
    (cond (eqb k 50) (signals_full call (structure_of t r.n).kind)
    (cond (eqb k 51) (deletes_in_use call r.n t)
    (cond (eqb k 52) (processes_full call t)
    (cond (eqb k 53) (structures_full call r.l t) false))))))))))))

-- Refusal k applies to request r in tables t
unfoldable pub applies : ℕ → Tables → Record → Bool
applies k t r = applies_to (row_of r.what) r.what t r k

-- The first of a list of codes that applies, 0 for none
abbrev pub first_that : (ℕ → Bool) → List ℕ → ℕ
first_that f [] = 0
first_that f (k ∷ l) = cond (f k) k (first_that f l)

-- A list of rising numbers
abbrev pub all_above : ℕ → List ℕ → Bool
all_above k [] = true
all_above k (j ∷ l) = both (ltb k j) (all_above k l)

abbrev pub rising : List ℕ → Bool
rising [] = true
rising (k ∷ l) = both (all_above k l) (rising l)

-- The codes in the order in which they are tested
abbrev pub early : List ℕ
early = 42 ∷ 43 ∷ 44 ∷ 45 ∷ 46 ∷ []

abbrev pub late : List ℕ
late = 47 ∷ 48 ∷ 49 ∷ 50 ∷ 51 ∷ 52 ∷ 53 ∷ []

abbrev pub codes : List ℕ
codes = 41 ∷ (early ++ late)

-- The lowest number that applies is given; 0 where the request is accepted
unfoldable pub refusal : Tables → Record → ℕ
refusal t r = first_that (λ k. applies k t r) codes
