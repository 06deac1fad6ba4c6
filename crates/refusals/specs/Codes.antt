-- Each refusal's code, and the number that stands for what was found: the code of the refusal, or 0.
use Rattle.std.specs.Prelude.{ℕ, Result, Ok, Err}
use Rattle.refusals.specs.declared.Refusal.{Refusal}
use Rattle.refusals.specs.declared.Refusal.TheVariants.{
  UnknownCall,
  WrongCaller,
  BadField,
  DeadStructure,
  WrongKind,
  DeadProcess,
  WrongSuspension,
  Uncollected,
  TooLong,
  SignalsFull,
  DeletesInUse,
  ProcessesFull,
  StructuresFull,
}

abbrev pub code_of : Refusal → ℕ
code_of UnknownCall = 41
code_of WrongCaller = 42
code_of BadField = 43
code_of DeadStructure = 44
code_of WrongKind = 45
code_of DeadProcess = 46
code_of WrongSuspension = 47
code_of Uncollected = 48
code_of TooLong = 49
code_of SignalsFull = 50
code_of DeletesInUse = 51
code_of ProcessesFull = 52
code_of StructuresFull = 53

-- 0 where nothing was found
abbrev pub refused_as : Result (Unit {0}) Refusal → ℕ
refused_as (Ok x) = 0
refused_as (Err e) = code_of e
