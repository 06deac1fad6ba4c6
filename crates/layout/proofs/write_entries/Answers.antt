use Rattle.std.proofs.Common.{◌≡◌, ◌+◌, ◌≤◌, refl, ◌∙◌, arith, length, length-drop, length-take-le}
use Rattle.layout.proofs.Laws.{written_none, written_room, written_more, written_all}
use Rattle.layout.proofs.write_entries.Goals as goal

pub loop-entry-init : goal.loop-entry-init
loop-entry-init g c = written_none _ _ _ _ _

pub loop-entry-preserved : goal.loop-entry-preserved
loop-entry-preserved g c =
    let o = c.loop-entry in
    let room : o.next + g.row.N ≤ length c.args.s.now = written_room _ _ _ _ _ o.invariant c.loop-entry-test.true c.requires in
    let wide : length c.copy_from_slice.new.self ≡ g.row.N = c.copy_from_slice.ensures.len ∙ (length-take-le _ _ (rw length-drop (omega arith)) ∙ omega arith) in
    written_more _ _ _ _ _ c.copy_from_slice.new.self _ c.entry-item.result o.invariant c.loop-entry-test.true c.requires c.entry-item.is wide (c.copy_from_slice.ensures.after ∙ c.stored.ensures) refl

pub returns : goal.returns
returns g c = written_all _ _ _ _ _ c.loop-entry.invariant (omega arith)
