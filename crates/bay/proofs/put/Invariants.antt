-- `bay::put` meets its contract. The loop: the first i bytes stand behind the held ones; all else is as it was.
use mathlib.Core.Path.{◌≡◌}
use Prim.Native.Nat.{◌+◌, ◌≤◌}
use Rattle.bay.specs.Round.{table}
use Rattle.bay.specs.Bay.{Numbers, entered_byte, with_bytes}
use Rattle.bay.proofs.put.Given as goal

abbrev pub invariant-loop-i : goal.invariant-loop-i
invariant-loop-i l =
    (Numbers l.start l.size l.held) × (l.first + l.count ≤ 64) × (l.held + l.count ≤ l.size) × (l.next ≡ with_bytes l.initial.next (table 256 (entered_byte l.initial.next l.parcel l.first l.i)))
