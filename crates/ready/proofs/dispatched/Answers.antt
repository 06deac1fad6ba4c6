-- `ready::dispatched` meets its contract: the newcomer runs, or all stays.
use lib.ListN.{length}
use mathlib.Core.Path.{◌≡◌, sym, ◌∙◌}
use borrow.Author.Rules.{rules}
use Rattle.basics.specs.Lists.{len_map}
use Rattle.ready.specs.Ready.{dispatched}
use Rattle.ready.proofs.Laws.{head_goes, none_goes}
use Rattle.ready.proofs.dispatched.Goals as goal

pub returns-in-Some : goal.returns-in-Some
unfolding dispatched
returns-in-Some c =
    let long : length c.args.t.processes ≡ 32 = search (len_map, rules) in
    rw (c.run.ensures, c.join.ensures) (head_goes _ _ c.args.t (sym c.newcomer.ensures ∙ c.in-Some.is) long)

pub returns-in_default : goal.returns-in_default
unfolding dispatched
returns-in_default c =
    let long : length c.args.t.processes ≡ 32 = search (len_map, rules) in
    none_goes _ c.args.t (sym c.newcomer.ensures ∙ c.in_default.is) long
