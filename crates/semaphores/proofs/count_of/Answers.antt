-- `semaphores::count_of` meets its contract: those who pass are counted.
use mathlib.Core.Path.{◌≡◌, sym, ◌∙◌}
use borrow.Author.Rules.{rules}
use Rattle.std.specs.List.{count_by}
use Rattle.semaphores.specs.Semaphores.{somebody}
use Rattle.semaphores.proofs.Laws.{length_keep}
use Rattle.semaphores.proofs.count_of.Goals as goal

pub returns : goal.returns
returns c =
    let counted : c.count.result ≡ count_by somebody c.args.members = search rules in
    counted ∙ sym (length_keep somebody c.args.members)
