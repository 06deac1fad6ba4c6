-- `records::write` meets its contract: the front and the data, over all 72 bytes.
use Rattle.std.proofs.Common.{◌≡◌, ◌∙◌, length, arith, eq-eqb}
use Rattle.records.specs.Records.{record_length, written_to, bytes_of}
use Rattle.records.specs.Laws.{low_first_4}
use Rattle.records.proofs.Laws.{both_parts}
use Rattle.records.proofs.write.Goals as goal

pub returns : goal.returns
unfolding written_to bytes_of
returns c =
    let s = c.args.s.now in
    let front : length c.copy_from_slice.new.self ≡ 8 = rw c.copy_from_slice.ensures.after in
    let parts = both_parts 8 s c.copy_from_slice.new.self c.copy_from_slice-2.new.self front (omega (arith, c.copy_from_slice-2.ensures.len)) in
    parts ∙ rw (eq-eqb (length s) record_length c.if-s-ne-LENGTH.false, ← low_first_4, c.copy_from_slice.ensures.after, c.copy_from_slice-2.ensures.after, c.to_le_bytes.ensures)
