-- `rings::lengths_of` meets its contract: the array's map is the list's.
use Rattle.std.proofs.Common.{rules, ◌≡◌, length}
use Rattle.basics.specs.Lists.{len_map}
use Rattle.tables.specs.Access.{nobody}
use Rattle.rings.specs.Serving.{asked, lengths_of}
use Rattle.rings.proofs.Laws.{mapped}
use Rattle.rings.proofs.lengths_of.Goals as goal

pub returns : goal.returns
unfolding lengths_of
returns c =
    let ps = c.args.t.processes in
    let long : length ps ≡ 32 = search (len_map, rules) in
    mapped _ _ (λ q. asked q.place) ps c.map.result 32 nobody long c.map.ensures.items (λ p x y q e. search rules)
