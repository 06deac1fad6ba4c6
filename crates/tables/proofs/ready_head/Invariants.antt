-- `tables::ready_head` meets its contract: the head so far is the first of the most urgent so far.
use Rattle.std.proofs.Common.{◌≡◌, [], drop, unwrap_or}
use Rattle.arrivals.specs.Order.{keep, first}
use Rattle.tables.specs.declared.Line.TheVariants as lines
use Rattle.tables.specs.Numbers.{somebody}
use Rattle.tables.specs.Lines.{standing, better, by_urgency}
use Rattle.tables.specs.Lines as tables
use Rattle.tables.proofs.ready_head.Given as goal

abbrev pub invariant-loop-x : goal.invariant-loop-x
invariant-loop-x l =
    let urgency = tables.urgency l.t.processes in
    let line = keep (standing lines.Ready l.t.processes) in
    let head = unwrap_or l.head 0 in
    record {
      known : l.head ≡ somebody head;
      urgent : l.urgency ≡ urgency head;
      rest : better urgency head (line (drop l.x-index l.t.order)) ≡ first (by_urgency urgency [] (line l.t.order));
    }
