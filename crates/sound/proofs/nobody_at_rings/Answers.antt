use Rattle.std.proofs.Common.{rules}
use Rattle.std.proofs.lemmas.Iterator.{YieldsList-from_slice}
use Rattle.std.proofs.lemmas.Iterator.Search.{all_from_yields_List}
use Rattle.sound.specs.Tested.{off_rings}
use Rattle.sound.proofs.nobody_at_rings.Goals as goal

pub returns : goal.returns
returns c = all_from_yields_List (λ q. off_rings q.place) _ _ _ c.all.ensures.ran (YieldsList-from_slice c.args.t.now.processes (cc)) (λ x b q k. search rules)
