-- `processes::free_process` meets its contract: one more than the place of the first free process.
use mathlib.Core.Path.{sym, ◌∙◌}
use Rattle.processes.proofs.Laws.{free_found, none_free}
use Rattle.processes.proofs.free_process.Goals as goal

pub returns-in_err-i : goal.returns-in_err-i
returns-in_err-i c = c.from_residual.ensures ∙ none_free c.args.processes (sym c.first_free.ensures ∙ c.in_err-i.was)

pub returns : goal.returns
returns c = free_found c.args.processes _ (sym c.first_free.ensures ∙ c.in_ok-i.was)
