-- `layout::write_control` meets its contract: the parts follow each other from the first byte on.
use Rattle.std.proofs.Common.{◌≡◌, refl, sym, length, set, arith, rules, eq-eqb}
use Rattle.basics.specs.Lists.{len_map}
use Rattle.layout.specs.Layout.{state_length, control_bytes, control_to}
use Rattle.layout.specs.PieceLaws.{copied_byte}
use Rattle.layout.specs.Laws.{processes_size, structures_size}
use Rattle.layout.proofs.Laws.{put_copied, begun_none, begun_more, begun_all}
use Rattle.layout.proofs.write_control.Goals as goal

pub returns : goal.returns
unfolding control_to control_bytes
returns c =
    let s = c.args.s.now in
    let long : length s ≡ state_length = c.if-s-ne-LENGTH.false in
    let p : length c.args.processes ≡ 32 = search (len_map, rules) in
    let x : length c.args.structures ≡ 24 = search (len_map, rules) in
    let order : length c.copy_from_slice.new.self ≡ 32 = rw c.copy_from_slice.ensures.after (search (len_map, rules)) in
    let all =
    begun_more _ _ 72
    (begun_more _ _ 256
    (begun_more _ _ 32
    (begun_more _ _ 1 (begun_none s 0) refl (omega arith) (copied_byte s 0 c.args.running (omega arith)))
    order (omega arith) (put_copied 1 32 (set s 0 c.args.running) c.copy_from_slice.new.self (sym order)))
    (processes_size _ p) (omega arith) c.write_entries.ensures)
    (structures_size _ x) (omega arith) c.write_entries-2.ensures in
    rw (eq-eqb (length s) state_length long, ← c.copy_from_slice.ensures.after) (begun_all all)
