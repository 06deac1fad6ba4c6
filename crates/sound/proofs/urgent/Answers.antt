use Rattle.std.proofs.Common.{rules, ◌≡◌, ◌+◌, ◌∙◌, length}
use Rattle.std.proofs.lemmas.Iterator.{YieldsList-from_slice}
use Rattle.std.proofs.lemmas.Iterator.Search.{all_from_yields_List}
use Rattle.basics.specs.Lists.{len_map}
use Rattle.sound.specs.Tested.{rank_tested}
use Rattle.sound.proofs.Laws.{urgent_told}
use Rattle.sound.proofs.urgent.Goals as goal

pub returns : goal.returns
returns c =
    let l = c.args.t.now.processes in
    let long : length l ≡ 32 = search (len_map, rules) in
    all_from_yields_List (λ q. rank_tested c.urgency_of-top.result (q.priority + 1) q.place) _ _ _ c.all.ensures.ran (YieldsList-from_slice l (cc)) (λ x b q k. search rules)
    ∙ urgent_told c.args.t.now.running l long c.urgency_of-top.ensures
