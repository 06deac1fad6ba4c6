-- Semaphores: wait and signal, their conditional forms, and signal all. Lines are in order of arrival.
use Rattle.std.specs.Prelude.{ℕ, ◌+◌, ◌-◌, Bool, cond, not, Option, Some, None, List, eqb, ltb, length, replicate}
use Rattle.arrivals.specs.Order.{first}
use Rattle.tables.specs.declared.Tables.{Tables}
use Rattle.tables.specs.declared.Kind.{Kind}
use Rattle.tables.specs.declared.Kind.TheVariants.{Free, Binary, Counting, Ring}
use Rattle.tables.specs.declared.Place.TheVariants.{Waiting}
use Rattle.tables.specs.declared.Line.TheVariants.{Semaphore}
use Rattle.tables.specs.Numbers.{is_semaphore}
use Rattle.tables.specs.Access.{structure_of, with_structure}
use Rattle.tables.specs.Lines.{line}
use Rattle.answers.specs.declared.Outcome.TheVariants.{Done, No, Waits}
use Rattle.answers.specs.declared.Step.{Step}
use Rattle.answers.specs.Answers.{answer, plain, step, unmoved}
use Rattle.ready.specs.Ready.{runner_joins, let_through, released_all}

-- What structure n is, and the tables with structure n another
unfoldable pub kind_of : ℕ → Tables → Kind
kind_of n t = (structure_of t n).kind

unfoldable pub with_kind : ℕ → Kind → Tables → Tables
with_kind n kind t = with_structure t n (record { kind = kind })

-- What is a semaphore
abbrev pub semaphore_of : Kind → Option Kind
semaphore_of kind = cond (is_semaphore kind) (Some kind) None

-- A semaphore's value
abbrev pub value : Kind → ℕ
value Free = 0
value (Binary v) = v
value (Counting v) = v
value (Ring b) = 0

-- The value falls by 1
abbrev pub lowered : Kind → Kind
lowered Free = Free
lowered (Binary v) = Binary (v - 1)
lowered (Counting v) = Counting (v - 1)
lowered (Ring b) = Ring b

-- Counting rises by 1, up to 32,767, and binary becomes 1
abbrev pub raised : Kind → Kind
raised Free = Free
raised (Binary v) = Binary 1
raised (Counting v) = Counting (cond (ltb v 32767) (v + 1) v)
raised (Ring b) = Ring b

-- Somebody, and not 0
abbrev pub somebody : ℕ → Bool
somebody x = not (eqb x 0)

-- Is there a line at semaphore n? Then somebody stands at its head
unfoldable pub has_line : ℕ → Tables → Bool
has_line n t = somebody (first (line (Semaphore n) t))

-- Wait: value above 0 falls by 1, code 0; else the caller joins the line, code 2
unfoldable pub waited_at : ℕ → Tables → Kind → Step
waited_at n t kind =
    cond (ltb 0 (value kind))
    (step (with_kind n (lowered kind) t) (plain Done))
    (step (runner_joins (Waiting n) t) (plain Waits))

unfoldable pub waited : ℕ → Tables → Step
waited n t =
    cond (eqb t.running 0) (unmoved t)
    (cond (is_semaphore (kind_of n t)) (waited_at n t (kind_of n t)) (unmoved t))

-- Conditional wait: as wait if the value is above 0, else code 1
unfoldable pub conditionally_waited : ℕ → Tables → Step
conditionally_waited n t = cond (ltb 0 (value (kind_of n t))) (waited n t) (step t (plain No))

-- Signal: with a line, its head is released and the value stays; with none, counting rises by 1 and binary becomes 1.
-- A binary one at 1 stays 1, code 0
unfoldable pub signalled_at : ℕ → Tables → Kind → Tables
signalled_at n t kind = cond (has_line n t) (let_through (Semaphore n) t) (with_kind n (raised kind) t)

unfoldable pub signalled : ℕ → Tables → Step
signalled n t = cond (is_semaphore (kind_of n t)) (step (signalled_at n t (kind_of n t)) (plain Done)) (unmoved t)

-- Conditional signal: as signal if there is a line, else code 1
unfoldable pub conditionally_signalled : ℕ → Tables → Step
conditionally_signalled n t = cond (has_line n t) (signalled n t) (step t (plain No))

-- Signal all releases the whole line in order; the value stays. N is how many were released
unfoldable pub all_released : List ℕ → Tables → Step
all_released l t = step (released_all l t) (answer Done (length l) 0 0 (replicate 64 0))

unfoldable pub all_signalled : ℕ → Tables → Step
all_signalled n t = cond (is_semaphore (kind_of n t)) (all_released (line (Semaphore n) t) t) (unmoved t)
