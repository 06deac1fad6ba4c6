use Rattle.std.proofs.Common.{rules, ◌<◌, ◌≤◌, arith, get_or}
use Rattle.sound.proofs.Laws.{none_counted, one_counted, counted_few}
use Rattle.sound.proofs.counts_of.Goals as goal

pub loop-x-init : goal.loop-x-init
loop-x-init c = none_counted

pub overflow_add-counts : goal.overflow_add-counts
overflow_add-counts c =
    let l = c.loop-x in
    let x = get_or c.args.numbers.now l.x-index 0 in
    let small : x < 256 = search rules in
    let few : get_or l.counts x 0 ≤ l.x-index = rw l.invariant (counted_few c.args.numbers.now l.x-index x (omega arith) small) in
    record { fits = omega arith }

pub loop-x-preserved : goal.loop-x-preserved
loop-x-preserved c = rw c.loop-x.invariant (one_counted c.args.numbers.now c.loop-x.x-index (omega arith) (search rules))
