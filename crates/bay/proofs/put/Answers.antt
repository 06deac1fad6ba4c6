use mathlib.Core.Path.{sym, ap, ◌∙◌}
use Prim.Native.Nat.{◌+◌, ◌≤◌}
use native.Mathlib.Omega.{arith}
use borrow.Author.Rules.{rules}
use Rattle.bay.specs.Round.{round_within}
use Rattle.bay.specs.Bay.{Numbers, with_bytes}
use Rattle.bay.specs.Laws.{put_fits_true, put_done, put_refused}
use Rattle.bay.proofs.Laws.{entered_none, entered_turn, entered_all}
use Rattle.bay.proofs.put.Goals as goal

pub returns-then-not-put_fits : goal.returns-then-not-put_fits
returns-then-not-put_fits c = sym (put_refused _ _ _ _ (sym c.put_fits.ensures ∙ c.if-not-put_fits.true))

pub loop-i-init : goal.loop-i-init
loop-i-init c =
    let a = c.args in
    let f : (Numbers a.ring.start a.ring.size a.ring.held) × (a.from + a.n ≤ 64) × (a.ring.held + a.n ≤ a.ring.size) =
    put_fits_true _ _ _ _ _ (sym c.put_fits.ensures ∙ c.if-not-put_fits.false) in
    (f.0, f.1, f.2, ap (with_bytes a.ring) (entered_none a.ring a.parcel a.from (search rules)))

pub bounds-next-going_round : goal.bounds-next-going_round
bounds-next-going_round c = omega (arith, round_within _ _ _ c.going_round.ensures (omega arith))

pub loop-i-preserved : goal.loop-i-preserved
loop-i-preserved c =
    let a = c.args in
    let l = c.loop-i in
    (l.invariant.0, l.invariant.1, l.invariant.2, entered_turn a.ring a.parcel a.from l.invariant.0 l.i (omega arith) l.next c.going_round.result l.invariant.3 c.going_round.ensures)

pub returns : goal.returns
returns c =
    let a = c.args in
    let l = c.loop-i in
    entered_all a.ring a.parcel a.from a.n l.i l.next (omega arith) l.invariant.3
    ∙ sym (put_done _ _ _ _ (sym c.put_fits.ensures ∙ c.if-not-put_fits.false))
