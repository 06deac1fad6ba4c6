-- The held bytes end before the circle does, or go round its end: what is not held is two stretches of bytes.
use Rattle.std.proofs.Common.{rules, ◌≡◌, length}
use Rattle.basics.specs.Lists.{len_map}
use Rattle.sound.proofs.Laws.{rest_straight, rest_round}
use Rattle.sound.proofs.rest_is_zero.Goals as goal

pub returns-then-is_zero : goal.returns-then-is_zero
returns-then-is_zero c =
    let r = c.args.ring.now in
    let long : length r.bytes ≡ 256 = search (len_map, rules) in
    rest_straight r.start r.size r.held r.bytes long c.if-end-size.true c.if-is_zero.true c.is_zero.ensures c.is_zero-then-is_zero.ensures

pub returns-then-is_zero-2 : goal.returns-then-is_zero-2
returns-then-is_zero-2 c =
    let r = c.args.ring.now in
    let long : length r.bytes ≡ 256 = search (len_map, rules) in
    rest_round r.start r.size r.held r.bytes long c.if-end-size.false c.if-is_zero-2.true c.is_zero-else-end-size.ensures c.is_zero-then-is_zero-2.ensures
