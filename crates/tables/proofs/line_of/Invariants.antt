-- `tables::line_of` meets its contract: each turn writes one more member to the front of the zeros.
use Rattle.std.proofs.Common.{◌≤◌, drop}
use Rattle.arrivals.specs.Order.{keep}
use Rattle.tables.specs.Lines.{standing}
use Rattle.tables.proofs.Laws.{Front}
use Rattle.tables.proofs.line_of.Given as goal

abbrev pub invariant-loop-x : goal.invariant-loop-x
invariant-loop-x l =
    (l.k ≤ l.x-index) × Front l.members l.k (keep (standing l.which l.t.processes) (drop l.x-index l.t.order)) (keep (standing l.which l.t.processes) l.t.order)
