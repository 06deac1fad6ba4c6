-- `layout::read` meets its contract: at i the first i entries of a table are read, and all else is as it was.
use Rattle.std.proofs.Common.{◌≡◌}
use Rattle.layout.specs.Layout.{process_in, structure_in, bay_in, parcel_in}
use Rattle.layout.proofs.Laws.{filled}
use Rattle.layout.proofs.read.Given as goal

abbrev pub invariant-loop-i : goal.invariant-loop-i
invariant-loop-i l = l.t ≡ record l.initial.t { processes = filled (process_in l.fn.s) l.initial.t.processes l.i }

abbrev pub invariant-loop-i-2 : goal.invariant-loop-i-2
invariant-loop-i-2 l = l.t ≡ record l.initial.t { structures = filled (structure_in l.fn.s) l.initial.t.structures l.i }

abbrev pub invariant-loop-i-3 : goal.invariant-loop-i-3
invariant-loop-i-3 l = l.t ≡ record l.initial.t { rings = filled (bay_in l.fn.s) l.initial.t.rings l.i }

abbrev pub invariant-loop-i-4 : goal.invariant-loop-i-4
invariant-loop-i-4 l = l.t ≡ record l.initial.t { parcels = filled (parcel_in l.fn.s) l.initial.t.parcels l.i }
