-- `rings::serve_getter` and `rings::serve_putter` meet their contracts: who is served is who the rule says comes next.
use mathlib.Core.Path.{ap, ◌∙◌}
use native.Mathlib.Omega.{arith}
use Rattle.rings.specs.Serving.{to_come}
use Rattle.rings.proofs.Laws.{getter_out, fewer_getters, putter_out, fewer_putters, nobody_left, one_more, no_more}
use Rattle.rings.proofs.+serving.Goals as goal

pub serve_getter-serve_getter-requires : goal.serve_getter-serve_getter-requires
serve_getter-serve_getter-requires t c = omega (arith, fewer_getters c.args.turns.now c.getter.new.self c.in-Some.p c.in-Some.ensures)

pub serve_getter-returns-clause-all_served : goal.serve_getter-returns-clause-all_served
serve_getter-returns-clause-all_served t c b its =
    let once = c.serve.ensures b its in
    one_more b _ _ _ _ _ _ (getter_out c.args.turns.now c.getter.new.self _ c.in-Some.ensures) once.1 (c.serve_getter.ensures.all_served b once.0)

pub serve_putter-serve_getter-requires : goal.serve_putter-serve_getter-requires
serve_putter-serve_getter-requires t c = omega (arith, fewer_putters c.args.turns.now c.putter.new.self c.in-Some.p c.in-Some.ensures)

pub serve_putter-returns-in-Some-clause-all_served : goal.serve_putter-returns-in-Some-clause-all_served
serve_putter-returns-in-Some-clause-all_served t c b its =
    let once = c.serve.ensures b its in
    one_more b _ _ _ _ _ _ (putter_out c.args.turns.now c.putter.new.self _ c.requires c.in-Some.ensures) once.1 (c.serve_getter.ensures.all_served b once.0)

pub serve_putter-returns-in_default-clause-all_served : goal.serve_putter-returns-in_default-clause-all_served
serve_putter-returns-in_default-clause-all_served t c b its = no_more b _ _ (nobody_left c.args.turns.now c.requires c.in_default.ensures.0)

pub serve_putter-returns-in_default-clause-none_left : goal.serve_putter-returns-in_default-clause-none_left
serve_putter-returns-in_default-clause-none_left t c = ap to_come c.in_default.ensures.1 ∙ nobody_left c.args.turns.now c.requires c.in_default.ensures.0
