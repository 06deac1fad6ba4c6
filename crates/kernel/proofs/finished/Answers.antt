-- `kernel::finished` meets its contract: the fields of the tables with whoever is due are in range, as the code has them by value.
use Rattle.steps.specs.Steps.{replied, replied_by}
use Rattle.layout.specs.Typed.{Typed}
use Rattle.layout.proofs.Owned.{tables_typed}
use Rattle.kernel.proofs.finished.Goals as goal

pub returns-clause-typed : goal.returns-clause-typed
unfolding replied replied_by
returns-clause-typed c =
    let typed : Typed c.dispatched-next.result = tables_typed c.dispatched-next.result _ c.dispatched-next.type_inv in
    rw (← c.dispatched-next.ensures) typed
