use Rattle.std.proofs.Common.{◌≡◌, ◌-◌, ◌∙◌, arith, length, take, drop, length-take-le, length-drop}
use Rattle.std.proofs.Math.Nat.{div-mul-le_self}
use Rattle.layout.proofs.Laws.{chunks_are}
use Rattle.layout.proofs.entries.Goals as goal

pub returns-clause-each : goal.returns-clause-each
returns-clause-each g c =
    let s = c.args.s.now in
    let m = c.args.to - c.args.from in
    let long : length (take m (drop c.args.from s)) ≡ m = length-take-le m (drop c.args.from s) (rw length-drop (omega arith)) in
    c.as_chunks.ensures.front ∙ rw long (chunks_are s c.args.from m g.row.N _ (omega arith) (div-mul-le_self m g.row.N))
