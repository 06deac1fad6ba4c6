-- `tables::stands` meets its contract: who is no process stands in no line, whatever entry is read. Assumes nothing.
use Rattle.std.proofs.Common.{rules, ◌≡◌, sym, ◌∙◌, length}
use Rattle.tables.specs.Lines.{stands}
use Rattle.tables.proofs.Laws.{seen, nowhere}
use Rattle.tables.proofs.stands.Goals as goal

pub returns : goal.returns
returns c =
    let a = c.args in
    let long : length a.processes.now ≡ 32 = search rules in
    c.stands_in.ensures ∙ rw c.entry_of.ensures (sym (seen (stands a.which) a.processes.now a.x _ (nowhere a.which) long))
