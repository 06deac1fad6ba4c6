use Rattle.std.proofs.Common.{rules, sym, ◌∙◌, get_or}
use Rattle.std.proofs.lemmas.Iterator.Search.{all_from_yields_List}
use Rattle.sound.specs.Sound.{kind_at}
use Rattle.sound.specs.Tested.{heads_wait}
use Rattle.sound.proofs.Laws.{each_number, no_head, nobody_rests, still_told}
use Rattle.sound.proofs.still.Goals as goal

pub returns-then-nobody_at_rings : goal.returns-then-nobody_at_rings
returns-then-nobody_at_rings c = sym (nobody_rests c.args.t.now (sym c.nobody_at_rings.ensures ∙ c.if-nobody_at_rings.true))

pub returns : goal.returns
returns c =
    let t = c.args.t.now in
    let heads = c.heads_of-heads in
    all_from_yields_List (λ n. heads_wait (get_or heads.result n no_head).getter (get_or heads.result n no_head).putter t (kind_at t.structures n)) _ _ _ c.all.ensures.ran
    (each_number 24 c.new.ensures.start c.new.ensures.end c.new.ensures.exhausted) (λ x b q k. search rules)
    ∙ still_told t heads.result heads.ensures.getters heads.ensures.putters
