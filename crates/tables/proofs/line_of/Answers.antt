use Rattle.std.proofs.Common.{rules, refl, arith}
use Rattle.tables.specs.Lines.{standing, line}
use Rattle.tables.proofs.Laws.{next, keep_end, written, filled}
use Rattle.tables.proofs.line_of.Goals as goal
use Rattle.tables.proofs.line_of.Goals.{then-stands, else-stands}

pub loop-x-init : goal.loop-x-init
loop-x-init c = (search rules, record { long = refl; listed = refl; zeros = refl })

pub loop-x-preserved : goal.loop-x-preserved
loop-x-preserved c =
    let known = c.loop-x.invariant in
    let left = next (standing c.args.which c.args.t.now.processes) c.args.t.now.order c.loop-x.x-index (omega arith) in
    elim c.if-stands.branch [
      | then-stands w ↦ (omega arith, rw (w.members-is, w.k-is) (written _ _ _ _ _ (omega arith) (rw (left, ← c.stands.ensures, w.if-stands.true) at known.1)))
      | else-stands w ↦ (omega arith, rw (w.members-is, w.k-is) (rw (left, ← c.stands.ensures, w.if-stands.false) at known.1))
    ]

pub returns : goal.returns
unfolding line
returns c = filled _ _ _ (omega arith) (rw (keep_end _ c.args.t.now.order c.loop-x.x-index (omega arith)) at c.loop-x.invariant.1)
