use Rattle.std.proofs.Common.{rules, ◌≡◌, ◌∙◌, sym, map, length, ext_get_or, arith}
use Rattle.std.proofs.Math.ListN.{length-map, get_or-map}
use Rattle.basics.specs.Lists.{len_map}
use Rattle.tables.specs.declared.Structure.{Structure}
use Rattle.tables.specs.Access.{nothing}
use Rattle.sound.specs.Sound.{bay_of}
use Rattle.sound.proofs.bays_of.Goals as goal

pub returns : goal.returns
returns c =
    let l = c.args.structures.now in
    let made = c.map.ensures.items in
    let long : length l ≡ 24 = search (len_map, rules) in
    ext_get_or 0 c.map.result (map (λ (s : Structure). bay_of s.kind) l) (made.long ∙ sym (length-map l _ ∙ long))
    (λ i h. let called = made.at i nothing 0 (omega (arith, made.long)) in search rules ∙ sym (get_or-map (λ (s : Structure). bay_of s.kind) l i nothing))
