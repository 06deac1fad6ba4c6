-- `layout::read` meets its contract: each table is that of the bytes once all its entries are read.
use Rattle.std.proofs.Common.{◌≡◌, ◌∙◌, refl, ap, arith, length, eq-eqb}
use Rattle.layout.specs.Pieces.{part}
use Rattle.layout.specs.Layout.{processes_at, structures_at, bays_at, holdings_at, ring_bytes_at, parcel_bytes_at, process_from, structure_from, process_in, structure_in, bay_in, parcel_in, tables_of, decode, state_length}
use Rattle.layout.specs.Laws.{fresh_typed}
use Rattle.layout.specs.Typed.{Typed}
use Rattle.layout.proofs.Laws.{entry_at, filled_more, filled_all}
use Rattle.layout.proofs.read.Goals as goal

pub loop-i-preserved : goal.loop-i-preserved
unfolding process_in
loop-i-preserved c =
    let o = c.loop-i in
    let typed : Typed c.fresh-t.result = rw c.fresh-t.ensures fresh_typed in
    let one = entry_at processes_at 8 32 o.i c.entries-processes.ensures.each c.in-Some.ensures.cases.same c.loop-i-test.true in
    let next : c.process_from.result ≡ process_in c.args.s.now o.i = c.process_from.ensures ∙ ap process_from one in
    rw (o.invariant, filled_more (process_in c.args.s.now) c.fresh-t.result.processes o.i _ (omega (arith, typed.processes_long)) next)

pub loop-i-2-preserved : goal.loop-i-2-preserved
unfolding structure_in
loop-i-2-preserved c =
    let o = c.loop-i-2 in
    let typed : Typed c.fresh-t.result = rw c.fresh-t.ensures fresh_typed in
    let long : length c.loop-i.t.structures ≡ 24 = rw c.loop-i.invariant typed.structures_long in
    let one = entry_at structures_at 3 24 o.i c.entries-structures.ensures.each c.in-Some.ensures.cases.same c.loop-i-2-test.true in
    let next : c.structure_from.result ≡ structure_in c.args.s.now o.i = c.structure_from.ensures ∙ ap structure_from one in
    rw (o.invariant, filled_more (structure_in c.args.s.now) c.loop-i.t.structures o.i _ (omega (arith, long)) next)

pub loop-i-3-preserved : goal.loop-i-3-preserved
unfolding bay_in
loop-i-3-preserved c =
    let o = c.loop-i-3 in
    let typed : Typed c.fresh-t.result = rw c.fresh-t.ensures fresh_typed in
    let long : length c.loop-i-2.t.rings ≡ 8 = rw (c.loop-i-2.invariant, c.loop-i.invariant) typed.rings_long in
    let numbers = entry_at bays_at 6 8 o.i c.entries-numbers.ensures.each c.in-Some.ensures.cases.same c.loop-i-3-test.true in
    let bytes = entry_at ring_bytes_at 256 8 o.i c.entries-ring_bytes.ensures.each c.in-Some.ensures.cases.same c.loop-i-3-test.true in
    let next : c.bay_from.result ≡ bay_in c.args.s.now o.i = c.bay_from.ensures ∙ rw (numbers, bytes) in
    rw (o.invariant, filled_more (bay_in c.args.s.now) c.loop-i-2.t.rings o.i _ (omega (arith, long)) next)

pub loop-i-4-preserved : goal.loop-i-4-preserved
unfolding parcel_in
loop-i-4-preserved c =
    let o = c.loop-i-4 in
    let typed : Typed c.fresh-t.result = rw c.fresh-t.ensures fresh_typed in
    let long : length c.loop-i-3.t.parcels ≡ 32 = rw (c.loop-i-3.invariant, c.loop-i-2.invariant, c.loop-i.invariant) typed.parcels_long in
    let holding = entry_at holdings_at 2 32 o.i c.entries-holdings.ensures.each c.in-Some.ensures.cases.same c.loop-i-4-test.true in
    let bytes = entry_at parcel_bytes_at 64 32 o.i c.entries-parcel_bytes.ensures.each c.in-Some.ensures.cases.same c.loop-i-4-test.true in
    let next : c.parcel_from.result ≡ parcel_in c.args.s.now o.i = c.parcel_from.ensures ∙ rw (holding, bytes) in
    rw (o.invariant, filled_more (parcel_in c.args.s.now) c.loop-i-3.t.parcels o.i _ (omega (arith, long)) next)

pub returns : goal.returns
unfolding decode tables_of part
returns c =
    let s = c.args.s.now in
    let long : length s ≡ state_length = c.in-Some.ensures.variant.0 refl in
    let typed : Typed c.fresh-t.result = rw c.fresh-t.ensures fresh_typed in
    let p : c.loop-i.i ≡ 32 = omega arith in
    let x : c.loop-i-2.i ≡ 24 = omega arith in
    let r : c.loop-i-3.i ≡ 8 = omega arith in
    let q : c.loop-i-4.i ≡ 32 = omega arith in
    let all_processes = filled_all (process_in s) c.fresh-t.result.processes 32 typed.processes_long in
    let all_structures = filled_all (structure_in s) c.fresh-t.result.structures 24 typed.structures_long in
    let all_rings = filled_all (bay_in s) c.fresh-t.result.rings 8 typed.rings_long in
    let all_parcels = filled_all (parcel_in s) c.fresh-t.result.parcels 32 typed.parcels_long in
    rw (eq-eqb (length s) state_length long, c.loop-i-4.invariant, c.loop-i-3.invariant, c.loop-i-2.invariant, c.loop-i.invariant, p, x, r, q, all_processes, all_structures, all_rings, all_parcels, c.copy_from_slice.ensures.after, c.in-Some.ensures.cases.same)
