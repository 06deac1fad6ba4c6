use Rattle.std.proofs.Common.{rules, ◌≡◌, ◌∙◌, ap, length}
use Rattle.std.proofs.lemmas.Iterator.{YieldsList-from_slice, YieldsList-from_zip}
use Rattle.std.proofs.lemmas.Iterator.Consumers.{YieldsList-at}
use Rattle.std.proofs.lemmas.Iterator.Search.{all_from_yields_List}
use Rattle.std.specs.List.{between}
use Rattle.basics.specs.Lists.{len_map}
use Rattle.sound.specs.Tested.{bay_tested, listings_of}
use Rattle.sound.proofs.Laws.{bays_told}
use Rattle.sound.proofs.bays_fit.Goals as goal

pub returns : goal.returns
returns c =
    let t = c.args.t.now in
    let rings : length t.rings ≡ 8 = search (len_map, rules) in
    all_from_yields_List (λ p. bay_tested p.1 p.0) c.all.new.self _ _ c.all.ensures.ran
    (YieldsList-from_zip (YieldsList-at c.zip.ensures.first (YieldsList-from_slice t.rings (cc))) (YieldsList-from_slice {s = c.zip.result.b} (between 1 256 c.counts_of-users.result) (search rules)))
    (λ x b q k. search rules)
    ∙ bays_told t.structures t.rings rings (c.counts_of-users.ensures ∙ ap listings_of c.bays_of.ensures)
