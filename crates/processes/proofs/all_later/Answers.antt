use borrow.Author.Rules.{rules}
use Rattle.std.proofs.lemmas.List.Edits.{map_over_more}
use Rattle.processes.specs.Processes.{later}
use Rattle.processes.proofs.all_later.Goals as goal

pub loop-process-preserved : goal.loop-process-preserved
loop-process-preserved c = search (rules, map_over_more (later c.args.k))
