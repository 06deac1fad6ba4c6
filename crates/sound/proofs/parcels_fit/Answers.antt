use Rattle.std.proofs.Common.{rules, ◌≡◌, ◌∙◌, refl, length}
use Rattle.std.proofs.lemmas.Iterator.{YieldsList-from_slice}
use Rattle.std.proofs.lemmas.Iterator.Search.{all_from_yields_List}
use Rattle.basics.specs.Lists.{len_map}
use Rattle.bay.specs.Bay.{empty_parcel}
use Rattle.sound.specs.Tested.{kept_tested}
use Rattle.sound.proofs.Laws.{every_entry}
use Rattle.sound.proofs.parcels_fit.Goals as goal

pub returns : goal.returns
returns c =
    let l = c.args.t.now.parcels in
    let long : length l ≡ 32 = search (len_map, rules) in
    all_from_yields_List kept_tested _ _ _ c.all.ensures.ran (YieldsList-from_slice l (cc)) (λ x b q k. search rules) ∙ every_entry _ empty_parcel l 32 _ long (λ p u v. refl)
