use Rattle.std.proofs.Common.{rules, ◌∙◌, true, ◌&&◌, eqb}
use Rattle.std.proofs.lemmas.Iterator.{YieldsList-from_slice}
use Rattle.std.proofs.lemmas.Iterator.Consumers.{fold_from_yields_List}
use borrow.Author.Tests.{tests}
use Rattle.sound.proofs.Laws.{zero_folded}
use Rattle.sound.proofs.is_zero.Goals as goal

pub returns : goal.returns
returns c =
    fold_from_yields_List _ (λ z x. z && eqb x 0) true c.fold.result c.fold.ensures.ran (YieldsList-from_slice c.args.bytes.now (cc)) (λ a x b q k. search (rules, tests))
    ∙ zero_folded c.args.bytes.now
