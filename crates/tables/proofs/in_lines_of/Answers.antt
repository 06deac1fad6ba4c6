-- `tables::in_lines_of` meets its contract: those who are counted are a view of the order. Assumes nothing.
use Rattle.std.proofs.Common.{rules, ap, length, ◌≡◌, ◌∙◌, arith}
use Rattle.std.proofs.lemmas.List.Sums.{length-filter, count_by-le-length}
use Rattle.tables.specs.Lines.{in_lines_of, waiting_at}
use Rattle.tables.proofs.Laws.{kept}
use Rattle.tables.proofs.in_lines_of.Goals as goal

pub overflow_cast-result : goal.overflow_cast-result
overflow_cast-result c =
    let a = c.args in
    let test = waiting_at a.n a.t.now.processes in
    let long : length a.t.now.order ≡ 32 = search rules in
    omega (arith, length-filter test a.t.now.order, count_by-le-length test a.t.now.order)

pub returns : goal.returns
unfolding in_lines_of
returns c = c.how_many.ensures ∙ ap length (kept (waiting_at c.args.n c.args.t.now.processes) c.args.t.now.order)
