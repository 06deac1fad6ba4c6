-- `structures::free_number` meets its contract: one more than the place of the first free structure.
use mathlib.Core.Path.{◌≡◌, sym, ◌∙◌}
use borrow.Author.Rules.{rules}
use lib.ListN.{length}
use Rattle.basics.specs.Lists.{len_map}
use Rattle.structures.proofs.Laws.{number_found, none_free}
use Rattle.structures.proofs.free_number.Goals as goal

pub returns-in_err-i : goal.returns-in_err-i
returns-in_err-i c =
    let long : length c.args.structures ≡ 24 = search (len_map, rules) in
    c.from_residual.ensures ∙ none_free c.args.structures long (sym c.first_free.ensures ∙ c.in_err-i.was)

pub returns : goal.returns
returns c =
    let long : length c.args.structures ≡ 24 = search (len_map, rules) in
    number_found c.args.structures long _ (sym c.first_free.ensures ∙ c.in_ok-i.was)
