-- What a step gives: the tables after it, and the answer with document 01's number and values.
use Rattle.std.specs.Prelude.{ℕ, List, replicate}
use Rattle.tables.specs.declared.Tables.{Tables}
use Rattle.answers.specs.declared.Outcome.{Outcome}
use Rattle.answers.specs.declared.Outcome.TheVariants.{Done, No, Waits}
use Rattle.answers.specs.declared.Answer.{Answer}
use Rattle.answers.specs.declared.Step.{Step}

-- 0 done; 1 no: a conditional call not performed, or nothing to collect; 2 the caller now waits or sleeps
abbrev pub outcome_number : Outcome → ℕ
outcome_number Done = 0
outcome_number No = 1
outcome_number Waits = 2

abbrev pub answer : Outcome → ℕ → ℕ → ℕ → List ℕ → Answer
answer o n l m bytes = record { outcome = o; n = n; l = l; m = m; bytes = bytes }

-- Reply fields not named are zero
abbrev pub plain : Outcome → Answer
plain o = answer o 0 0 0 (replicate 64 0)

abbrev pub step : Tables → Answer → Step
step t a = record { tables = t; answer = a }

-- The tables as they were: where no request could be accepted
abbrev pub unmoved : Tables → Step
unmoved t = step t (plain No)
