-- `kernel::brombeertor_call` meets its contract: each return is the definition at the tests on the way.
use borrow.Author.Rules.{rules}
use mathlib.Core.Path.{◌≡◌, refl, ap}
use Rattle.calls.specs.declared.Row.{Row}
use Rattle.kernel.proofs.Laws.{no_state, no_sound, is_refused, is_done}
use Rattle.steps.specs.Steps.{done}
use Rattle.kernel.proofs.brombeertor_call.Goals as goal
use Rattle.kernel.proofs.brombeertor_call.Goals.{Joined-deed, in-Unknown, in-Tick, in-CreateProcess, in-DeleteMyself, in-Suspend, in-Resume, in-ChangePriority, in-Schedule, in-ProcessState, in-Sleep, in-CreateStructure, in-DeleteStructure, in-StructureValue, in-Signal, in-ConditionalSignal, in-SignalAll, in-Wait, in-ConditionalWait, in-Put, in-ConditionalPut, in-Get, in-ConditionalGet, in-ResetRing, in-Collect}

-- The step is that of the deed of the request's row, by whichever arm control came
step_is : (c : Joined-deed) → c.match-deed.step ≡ done c.row_of-deed.result.deed c.read-r.result c.read-t.result
unfolding done
step_is c =
    elim c.match-deed.branch [
      | in-Unknown w ↦ search rules
      | in-Tick w ↦ search rules
      | in-CreateProcess w ↦ search rules
      | in-DeleteMyself w ↦ search rules
      | in-Suspend w ↦ search rules
      | in-Resume w ↦ search rules
      | in-ChangePriority w ↦ search rules
      | in-Schedule w ↦ search rules
      | in-ProcessState w ↦ search rules
      | in-Sleep w ↦ search rules
      | in-CreateStructure w ↦ search rules
      | in-DeleteStructure w ↦ search rules
      | in-StructureValue w ↦ search rules
      | in-Signal w ↦ search rules
      | in-ConditionalSignal w ↦ search rules
      | in-SignalAll w ↦ search rules
      | in-Wait w ↦ search rules
      | in-ConditionalWait w ↦ search rules
      | in-Put w ↦ search rules
      | in-ConditionalPut w ↦ search rules
      | in-Get w ↦ search rules
      | in-ConditionalGet w ↦ search rules
      | in-ResetRing w ↦ search rules
      | in-Collect w ↦ search rules
    ]

pub returns-then-not-is_state : goal.returns-then-not-is_state
returns-then-not-is_state c =
    rw c.not_sound.ensures.code
    (no_state c.args.state.now c.args.request.now c.args.answer.now c.if-request-ne-LENGTH.false c.if-answer-ne-LENGTH.false
    c.is_state.ensures c.if-not-is_state.true refl c.not_sound.ensures.answer)

pub returns-then-not-sound : goal.returns-then-not-sound
returns-then-not-sound c =
    rw c.not_sound-then-not-sound.ensures.code
    (no_sound c.args.state.now c.args.request.now c.args.answer.now c.if-request-ne-LENGTH.false c.if-answer-ne-LENGTH.false
    (search rules)
    c.is_state.ensures c.if-not-is_state.false c.read-t.ensures c.sound.ensures
    c.if-not-sound.true refl c.not_sound-then-not-sound.ensures.answer)

pub returns-in-Err : goal.returns-in-Err
returns-in-Err c =
    is_refused c.args.state.now c.args.request.now c.args.answer.now c.if-request-ne-LENGTH.false c.if-answer-ne-LENGTH.false
    (search rules)
    c.is_state.ensures c.if-not-is_state.false c.read-t.ensures c.sound.ensures
    c.if-not-sound.false c.read-r.ensures c.check-checked.ensures
    c.in-Err.is c.into.ensures c.refused.ensures.code c.refused.ensures.answer

pub returns : goal.returns
returns c =
    is_done c.args.state.now c.args.request.now c.args.answer.now c.if-request-ne-LENGTH.false c.if-answer-ne-LENGTH.false
    (search rules)
    c.is_state.ensures c.if-not-is_state.false c.read-t.ensures c.sound.ensures
    c.if-not-sound.false c.read-r.ensures c.check-checked.ensures
    c.in_default.is (ap (λ (x : Row). x.deed) c.row_of-deed.ensures) (step_is (goal.at.returns c).Joined-deed)
    c.finished.ensures.code c.finished.ensures.state c.finished.ensures.answer c.finished.ensures.typed
