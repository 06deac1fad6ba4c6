-- `bay::reset` meets its contract: by what the test of the numbers says, the start stays below the size.
use mathlib.Core.Path.{sym, ◌∙◌}
use native.Mathlib.Omega.{arith}
use Rattle.bay.specs.Round.{round_within}
use Rattle.bay.specs.Bay.{Numbers, zeros, thrown_away}
use Rattle.bay.specs.Laws.{in_range_true, reset_done, reset_refused}
use Rattle.bay.proofs.reset.Goals as goal

pub returns-then-not-in_range : goal.returns-then-not-in_range
returns-then-not-in_range c = sym (reset_refused _ (sym c.in_range.ensures ∙ c.if-not-in_range.true))

pub overflow_cast-result : goal.overflow_cast-result
overflow_cast-result c =
    let a = c.args in
    let n : Numbers a.ring.start a.ring.size a.ring.held =
    in_range_true _ _ _ (sym c.in_range.ensures ∙ c.if-not-in_range.false) in
    omega (arith, round_within _ _ _ c.going_round.ensures (omega arith))

pub returns : goal.returns
unfolding thrown_away zeros
returns c =
    let a = c.args in
    rw c.going_round.ensures (sym (reset_done a.ring (sym c.in_range.ensures ∙ c.if-not-in_range.false)))
