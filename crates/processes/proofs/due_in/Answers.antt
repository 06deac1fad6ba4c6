use borrow.Author.Rules.{rules}
use Rattle.std.proofs.lemmas.List.Edits.{map_over_more}
use Rattle.processes.specs.Processes.{or_nobody, due_of}
use Rattle.processes.proofs.due_in.Goals as goal

pub loop-x-preserved : goal.loop-x-preserved
loop-x-preserved c = search (rules, map_over_more (or_nobody (due_of c.args.t.processes)))
