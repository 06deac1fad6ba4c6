-- `rings::served_in_turn` meets its contract: who is left to be served is who the rule serves of the tables, and the ring is put back.
use mathlib.Core.Path.{ap, ◌∙◌}
use Rattle.answers.specs.Answers.{step}
use Rattle.rings.specs.Serving.{served}
use Rattle.rings.proofs.Laws.{turns_read}
use Rattle.rings.proofs.Replay.{put_back, its_first}
use Rattle.rings.proofs.served_in_turn.Goals as goal

pub returns : goal.returns
unfolding served
returns c =
    let t = c.args.t in
    let b = c.args.b in
    let taken = c.ring_in-ring.ensures in
    let all = turns_read c.args.n b t _ _ _ _ taken c.lengths_of.ensures c.line_of.ensures c.line_of-2.ensures in
    ap (λ u. step u c.args.answer) (c.with_ring.ensures ∙ c.serve_getter.ensures.all_served b (its_first t b _ taken) ∙ rw (put_back t b _ taken, all))
