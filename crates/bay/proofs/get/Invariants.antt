-- `bay::get` meets its contract. The loop: of the first i held bytes each stands in the parcel and its cell is zero; all else is as it was.
use mathlib.Core.Path.{◌≡◌}
use Prim.Native.Nat.{◌+◌, ◌≤◌}
use lib.ListN.{length}
use lib.Seq.{paste}
use Rattle.bay.specs.Round.{table}
use Rattle.bay.specs.Bay.{Numbers, contents, left_byte, with_bytes}
use Rattle.bay.proofs.get.Given as goal

abbrev pub invariant-loop-i : goal.invariant-loop-i
invariant-loop-i l =
    (Numbers l.start l.size l.held) × (l.first + l.count ≤ 64) × (l.count ≤ l.held) × (length l.initial.bytes ≡ 64)
    × (l.next ≡ with_bytes l.initial.next (table 256 (left_byte l.initial.next l.i))) × (l.bytes ≡ paste l.initial.bytes l.first (contents l.initial.next) l.i)
