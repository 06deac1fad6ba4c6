use Rattle.std.proofs.Common.{rules, ◌∙◌, eqb}
use Rattle.std.proofs.lemmas.Iterator.{YieldsList-from_slice}
use Rattle.std.proofs.lemmas.Iterator.Adapters.{YieldsList-from_skip_while}
use Rattle.std.proofs.lemmas.Iterator.Consumers.{YieldsList-at}
use Rattle.std.proofs.lemmas.Iterator.Search.{all_from_yields_List}
use borrow.Author.Tests.{tests}
use Rattle.tables.specs.Lines.{is_number}
use Rattle.sound.proofs.Laws.{ordered}
use Rattle.sound.proofs.order_fits.Goals as goal

pub returns : goal.returns
returns c =
    let l = c.args.order.now in
    all_from_yields_List is_number _ _ _ c.all.ensures.ran
    (YieldsList-from_skip_while _ _ _ (λ x. eqb x 0) _ (λ x b q k. search (rules, tests)) (YieldsList-at c.skip_while.ensures.source (YieldsList-from_slice l (cc))) c.skip_while.ensures.closure c.skip_while.ensures.done_skipping)
    (λ x b q k. search rules)
    ∙ ordered l
