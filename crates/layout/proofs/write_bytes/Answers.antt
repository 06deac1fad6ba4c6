-- `layout::write_bytes` meets its contract: the parts follow each other from the bays on, up to the end.
use Rattle.std.proofs.Common.{◌≡◌, length, arith, rules, eq-eqb}
use Rattle.basics.specs.Lists.{len_map}
use Rattle.layout.specs.Layout.{bays_at, state_length, held_bytes, bytes_to}
use Rattle.layout.specs.Laws.{bays_size, holdings_size, ring_bytes_size, parcel_bytes_size}
use Rattle.layout.proofs.Owned.{rings_typed, parcels_typed}
use Rattle.layout.proofs.Laws.{begun_none, begun_more, begun_end}
use Rattle.layout.proofs.write_bytes.Goals as goal

pub returns : goal.returns
unfolding bytes_to held_bytes
returns c =
    let s = c.args.s.now in
    let long : length s ≡ state_length = c.if-s-ne-LENGTH.false in
    let r : length c.args.rings ≡ 8 = search (len_map, rules) in
    let p : length c.args.parcels ≡ 32 = search (len_map, rules) in
    let all =
    begun_more _ _ 2048
    (begun_more _ _ 2048
    (begun_more _ _ 64
    (begun_more _ _ 48 (begun_none s bays_at) (bays_size _ r) (omega arith) c.write_entries.ensures)
    (holdings_size _ p) (omega arith) c.write_entries-2.ensures)
    (ring_bytes_size _ (rings_typed c.args.rings _ c.well_formed.1.0) r) (omega arith) c.write_entries-3.ensures)
    (parcel_bytes_size _ (parcels_typed c.args.parcels _ c.well_formed.1.1.0) p) (omega arith) c.write_entries-4.ensures in
    rw (eq-eqb (length s) state_length long) (begun_end all (omega arith))
