-- `kernel::brombeertor_fresh` meets its contract: the state is filled with zeros.
use mathlib.Core.Path.{◌≡◌, refl, ◌∙◌}
use borrow.Author.Tests.{eq-eqb}
use lib.ListN.{length}
use Rattle.layout.specs.Layout.{state_length}
use Rattle.kernel.specs.Called.{fresh_code, fresh_state}
use Rattle.kernel.proofs.brombeertor_fresh.Goals as goal

pub returns : goal.returns
unfolding fresh_code fresh_state
returns c =
    let same : length c.args.state.now ≡ state_length = c.if-state-ne-LENGTH.false in
    rw (eq-eqb (length c.args.state.now) state_length same) (refl, c.fill.ensures.after (λ y e. e) ∙ rw same refl)
