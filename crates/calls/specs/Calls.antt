-- The call table of document 01: a line for each request, at its call number.
use Rattle.std.specs.Prelude.{ℕ, Bool, true, false, cond, List, [], ◌∷◌, eqb, leb}
use Rattle.calls.specs.declared.Deed.{Deed}
use Rattle.calls.specs.declared.Deed.TheVariants.{
  Unknown,
  Tick,
  CreateProcess,
  DeleteMyself,
  Suspend,
  Resume,
  ChangePriority,
  Schedule,
  ProcessState,
  Sleep,
  CreateStructure,
  DeleteStructure,
  StructureValue,
  Signal,
  ConditionalSignal,
  SignalAll,
  Wait,
  ConditionalWait,
  Put,
  ConditionalPut,
  Get,
  ConditionalGet,
  ResetRing,
  Collect,
}
use Rattle.calls.specs.declared.Callers.{Callers}
use Rattle.calls.specs.declared.Callers.TheVariants.{Nobody, Process, Board, Either}
use Rattle.calls.specs.declared.Number.{Number}
use Rattle.calls.specs.declared.Number.TheVariants as number
use Rattle.calls.specs.declared.Small.{Small}
use Rattle.calls.specs.declared.Small.TheVariants as small
use Rattle.calls.specs.declared.Amount.{Amount}
use Rattle.calls.specs.declared.Amount.TheVariants as amount
use Rattle.calls.specs.declared.Data.{Data}
use Rattle.calls.specs.declared.Data.TheVariants as bytes
use Rattle.calls.specs.declared.Row.{Row}

-- A row: the deed, who may ask for it, and what the number N, the small field L, the amount M and the data are
abbrev pub row : Deed → Callers → Number → Small → Amount → Data → Row
row deed callers n l m bytes = record { deed = deed; callers = callers; n = n; l = l; m = m; bytes = bytes }

-- What a request uses; every field that it doesn't use is zero
abbrev pub uses_nothing : Deed → Callers → Row
uses_nothing d who = row d who number.Unused small.Unused amount.Unused bytes.Unused

abbrev pub uses_n : Deed → Callers → Number → Row
uses_n d who n = row d who n small.Unused amount.Unused bytes.Unused

abbrev pub uses_nl : Deed → Callers → Number → Small → Row
uses_nl d who n l = row d who n l amount.Unused bytes.Unused

abbrev pub uses_lm : Deed → Callers → Small → Amount → Row
uses_lm d who l m = row d who number.Unused l m bytes.Unused

abbrev pub uses_nl_and_data : Deed → Callers → Number → Small → Row
uses_nl_and_data d who n l = row d who n l amount.Unused bytes.UpToLength

-- There are twenty-three requests, told apart by byte 0. Process: from a process only. Board: from the board only. Either: either
unfoldable pub table : List (ℕ × Row)
table =
    (1, uses_nothing Tick Board)
    ∷ (2, uses_nl CreateProcess Either number.Unused small.Priority)
    ∷ (3, uses_nothing DeleteMyself Process)
    ∷ (4, uses_n Suspend Process number.Process)
    ∷ (5, uses_n Resume Either number.Process)
    ∷ (6, uses_nl ChangePriority Process number.Process small.Priority)
    ∷ (7, uses_nothing Schedule Process)
    ∷ (8, uses_n ProcessState Either number.Process)
    ∷ (9, uses_lm Sleep Process small.Unused amount.Milliseconds)
    ∷ (10, uses_lm CreateStructure Either small.Kind amount.StartOrSize)
    ∷ (11, uses_n DeleteStructure Either number.Structure)
    ∷ (12, uses_n StructureValue Either number.Structure)
    ∷ (13, uses_n Signal Either number.Semaphore)
    ∷ (14, uses_n ConditionalSignal Either number.Semaphore)
    ∷ (15, uses_n SignalAll Either number.Semaphore)
    ∷ (16, uses_n Wait Process number.Semaphore)
    ∷ (17, uses_n ConditionalWait Process number.Semaphore)
    ∷ (18, uses_nl_and_data Put Process number.Ring small.Length)
    ∷ (19, uses_nl_and_data ConditionalPut Either number.Ring small.Length)
    ∷ (20, uses_nl Get Process number.Ring small.Length)
    ∷ (21, uses_nl ConditionalGet Process number.Ring small.Length)
    ∷ (22, uses_n ResetRing Either number.Ring)
    ∷ (23, uses_nothing Collect Process)
    ∷ []

-- No request: nobody may make it
abbrev pub unknown : Row
unknown = uses_nothing Unknown Nobody

-- Is it no request?
abbrev pub no_request : Callers → Bool
no_request Nobody = true
no_request Process = false
no_request Board = false
no_request Either = false

abbrev pub is_unknown : Row → Bool
is_unknown r = no_request r.callers

-- The row with this number; unknown where there is none
unfoldable pub row_in : List (ℕ × Row) → ℕ → Row
row_in [] call = unknown
row_in (line ∷ lines) call = cond (eqb call line.0) line.1 (row_in lines call)

unfoldable pub row_of : ℕ → Row
row_of call = row_in table call

-- The call number of each deed; 0 for no request
abbrev pub call_number : Deed → ℕ
call_number Unknown = 0
call_number Tick = 1
call_number CreateProcess = 2
call_number DeleteMyself = 3
call_number Suspend = 4
call_number Resume = 5
call_number ChangePriority = 6
call_number Schedule = 7
call_number ProcessState = 8
call_number Sleep = 9
call_number CreateStructure = 10
call_number DeleteStructure = 11
call_number StructureValue = 12
call_number Signal = 13
call_number ConditionalSignal = 14
call_number SignalAll = 15
call_number Wait = 16
call_number ConditionalWait = 17
call_number Put = 18
call_number ConditionalPut = 19
call_number Get = 20
call_number ConditionalGet = 21
call_number ResetRing = 22
call_number Collect = 23

-- Does a request's deed change what rings and parcels hold? Delete myself does, as the process's parcel goes, and so do creation and deletion, of a ring's bay
unfoldable pub moves_bytes : Deed → Bool
moves_bytes Unknown = false
moves_bytes Tick = false
moves_bytes CreateProcess = false
moves_bytes DeleteMyself = true
moves_bytes Suspend = false
moves_bytes Resume = false
moves_bytes ChangePriority = false
moves_bytes Schedule = false
moves_bytes ProcessState = false
moves_bytes Sleep = false
moves_bytes CreateStructure = true
moves_bytes DeleteStructure = true
moves_bytes StructureValue = false
moves_bytes Signal = false
moves_bytes ConditionalSignal = false
moves_bytes SignalAll = false
moves_bytes Wait = false
moves_bytes ConditionalWait = false
moves_bytes Put = true
moves_bytes ConditionalPut = true
moves_bytes Get = true
moves_bytes ConditionalGet = true
moves_bytes ResetRing = true
moves_bytes Collect = true

-- May this caller, 0 the board or 1 the running process, make the request?
abbrev pub allowed : Callers → ℕ → Bool
allowed Nobody caller = false
allowed Process caller = eqb caller 1
allowed Board caller = eqb caller 0
allowed Either caller = leb caller 1
