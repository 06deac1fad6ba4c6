-- `ready::newcomer` meets its contract: a head that is no more urgent than the runner does not go.
use lib.ListN.{length}
use mathlib.Core.Path.{◌≡◌, sym, ◌∙◌}
use borrow.Author.Rules.{rules}
use Rattle.tables.specs.Access.{process_of}
use Rattle.ready.proofs.Laws.{stays_behind}
use Rattle.ready.proofs.newcomer.Goals as goal

pub returns-then-newcomer-runner : goal.returns-then-newcomer-runner
unfolding process_of
returns-then-newcomer-runner c =
    let t = c.args.t.now in
    let long : length t.processes ≡ 32 = search rules in
    stays_behind _ _ t long (sym c.ready_head.ensures ∙ c.in_ok-head.was) c.if-t-eq0.false
    (rw (c.numbered-newcomer.ensures, c.numbered-runner.ensures, c.nobody.ensures, c.nobody-2.ensures) at c.if-newcomer-runner.true)
