use Rattle.std.proofs.Common.{rules, ◌≡◌, ◌∙◌, refl, length}
use Rattle.std.proofs.lemmas.Iterator.{YieldsList-from_slice}
use Rattle.std.proofs.lemmas.Iterator.Search.{all_from_yields_List}
use Rattle.basics.specs.Lists.{len_map}
use Rattle.tables.specs.Access.{nothing}
use Rattle.sound.specs.Tested.{value_tested}
use Rattle.sound.proofs.Laws.{every_entry}
use Rattle.sound.proofs.values_fit.Goals as goal

pub returns : goal.returns
returns c =
    let l = c.args.t.now.structures in
    let long : length l ≡ 24 = search (len_map, rules) in
    all_from_yields_List (λ s. value_tested s.kind) _ _ _ c.all.ensures.ran (YieldsList-from_slice l (cc)) (λ x b q k. search rules) ∙ every_entry _ nothing l 24 _ long (λ p u v. refl)
