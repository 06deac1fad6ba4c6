-- `layout::write_entries` meets its contract: at each turn the entries before it are written.
use Rattle.layout.proofs.Laws.{Written}
use Rattle.layout.proofs.write_entries.Given as goal

abbrev pub invariant-loop-entry : goal.invariant-loop-entry
invariant-loop-entry g l = Written g.T.Stored.stored g.row.N l.at l.entries l.initial.s l.next l.s l.entry-index
