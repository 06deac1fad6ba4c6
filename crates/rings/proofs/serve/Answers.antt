-- `rings::serve` meets its contract: the ring, put back, the order, the processes and the parcels are those after the service.
use mathlib.Core.Path.{◌≡◌, sym, ◌∙◌}
use native.Mathlib.Omega.{arith}
use lib.ListN.{length}
use borrow.Author.Rules.{rules}
use Rattle.basics.specs.Lists.{len_map}
use Rattle.rings.proofs.Replay.{its_again, passed, none_served, one_served}
use Rattle.tables.specs.Access.{ring_in, with_ring}
use Rattle.rings.proofs.serve.Goals as goal

pub returns-then-at_ring : goal.returns-then-at_ring
unfolding ring_in with_ring
returns-then-at_ring c b its =
    let t = c.args.t.now in
    let whole : length t.processes ≡ 32 = search (len_map, rules) in
    let kept : length t.parcels ≡ 32 = search (len_map, rules) in
    let known = passed _ _ _ (sym c.if-at_ring.true ∙ c.at_ring.ensures) c.entry_of-k.ensures in (
      its_again t b _ _ _ _ c.exchanged-moved.ensures its,
      one_served t b _ _ _ _ _ _ _ _ known.0 (omega (arith, known.1, whole)) (omega (arith, known.1, kept)) known.2 its c.moved_last-t.ensures c.released_process.ensures known.3 c.exchanged-moved.ensures,
    )

pub returns-else-at_ring : goal.returns-else-at_ring
unfolding with_ring
returns-else-at_ring c b its = (its, none_served b _ _ _ _ _ (search (len_map, rules)) c.entry_of-k.ensures c.at_ring.ensures c.if-at_ring.false)
