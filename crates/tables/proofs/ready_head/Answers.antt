use Rattle.std.proofs.Common.{rules, ◌≡◌, ◌+◌, [], refl, ap, sym, ◌∙◌, length, drop, get_or, arith}
use Rattle.arrivals.specs.Order.{keep}
use Rattle.tables.specs.declared.Line.TheVariants as lines
use Rattle.tables.specs.Numbers.{somebody}
use Rattle.tables.specs.Lines.{standing, line, ready_line}
use Rattle.tables.specs.Lines as tables
use Rattle.tables.proofs.Laws.{next, keep_end, stands_somebody, better_later, better_earlier, urgency_nobody, urgency_some, head_better}
use Rattle.tables.proofs.ready_head.Goals as goal
use Rattle.tables.proofs.ready_head.Goals.{then-stands+then-urgency-its, then-stands+else-urgency-its, else-stands}

pub loop-x-init : goal.loop-x-init
loop-x-init c =
    let ps = c.args.t.now.processes in
    record {
      known = refl;
      urgent = sym (urgency_nobody ps);
      rest = sym (head_better (tables.urgency ps) (urgency_nobody ps) (urgency_some ps) [] (keep (standing lines.Ready ps) c.args.t.now.order));
    }

pub loop-x-preserved : goal.loop-x-preserved
loop-x-preserved c =
    let ps = c.args.t.now.processes in
    let order = c.args.t.now.order in
    let known = c.loop-x.invariant in
    let long : length ps ≡ 32 = search rules in
    let x = get_or order c.loop-x.x-index 0 in
    let left = next (standing lines.Ready ps) order c.loop-x.x-index (omega arith) in
    let rest = keep (standing lines.Ready ps) (drop (c.loop-x.x-index + 1) order) in
    elim c.if-stands.branch [
      | then-stands+then-urgency-its w ↦
          record {
            known = rw w.head-is (sym (stands_somebody lines.Ready ps x (sym c.stands.ensures ∙ w.if-stands.true)));
            urgent = rw (w.head-is, w.urgency-is) w.urgency_of-its.ensures;
            rest = rw w.head-is (sym (better_later (tables.urgency ps) _ x rest known.urgent (sym w.urgency_of-its.ensures) w.if-urgency-its.true) ∙ (rw (left, ← c.stands.ensures, w.if-stands.true) at known.rest));
          }
      | then-stands+else-urgency-its w ↦
          record {
            known = rw w.head-is known.known;
            urgent = rw (w.head-is, w.urgency-is) known.urgent;
            rest = rw w.head-is (sym (better_earlier (tables.urgency ps) _ x rest known.urgent (sym w.urgency_of-its.ensures) w.if-urgency-its.false) ∙ (rw (left, ← c.stands.ensures, w.if-stands.true) at known.rest));
          }
      | else-stands w ↦ record { known = rw w.head-is known.known; urgent = rw (w.head-is, w.urgency-is) known.urgent; rest = rw w.head-is (rw (left, ← c.stands.ensures, w.if-stands.false) at known.rest) }
    ]

pub returns : goal.returns
unfolding ready_line line
returns c =
    let known = c.loop-x.invariant in
    known.known ∙ ap somebody (rw (keep_end _ c.args.t.now.order c.loop-x.x-index (omega arith)) at known.rest)
