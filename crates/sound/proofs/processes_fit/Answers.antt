use Rattle.std.proofs.Common.{rules, ◌∙◌, get_or}
use Rattle.std.proofs.lemmas.Iterator.Search.{all_from_yields_List}
use Rattle.sound.specs.Tested.{placed_tested}
use Rattle.sound.proofs.Laws.{each_number, placed_told}
use Rattle.sound.proofs.processes_fit.Goals as goal

pub returns : goal.returns
returns c =
    let t = c.args.t.now in
    all_from_yields_List (λ p. placed_tested (get_or c.counts_of-times.result p 0) t p) _ _ _ c.all.ensures.ran (each_number 32 c.new.ensures.start c.new.ensures.end c.new.ensures.exhausted) (λ x b q k. search rules)
    ∙ placed_told t c.counts_of-times.ensures
