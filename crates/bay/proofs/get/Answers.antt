use mathlib.Core.Path.{sym, ap, ◌∙◌}
use Prim.Native.Nat.{◌+◌, ◌≤◌}
use native.Mathlib.Omega.{arith}
use borrow.Author.Rules.{rules}
use lib.Seq.{paste-zero}
use Rattle.bay.specs.Round.{round_within}
use Rattle.bay.specs.Bay.{Numbers, contents, with_bytes}
use Rattle.bay.specs.Laws.{get_fits_true, get_done, get_refused}
use Rattle.bay.proofs.Laws.{left_none, left_turn, filled_turn, left_all}
use Rattle.bay.proofs.get.Goals as goal

pub returns-then-not-get_fits : goal.returns-then-not-get_fits
returns-then-not-get_fits c = sym (get_refused _ _ _ _ (sym c.get_fits.ensures ∙ c.if-not-get_fits.true))

pub loop-i-init : goal.loop-i-init
loop-i-init c =
    let a = c.args in
    let f : (Numbers a.ring.start a.ring.size a.ring.held) × (a.at + a.n ≤ 64) × (a.n ≤ a.ring.held) =
    get_fits_true _ _ _ _ _ (sym c.get_fits.ensures ∙ c.if-not-get_fits.false) in
    (f.0, f.1, f.2, search rules, ap (with_bytes a.ring) (left_none a.ring (search rules)), paste-zero a.parcel.bytes a.at (contents a.ring))

pub bounds-next-from : goal.bounds-next-from
bounds-next-from c = omega (arith, round_within _ _ _ c.going_round-from.ensures (omega arith))

pub bounds-next-from-in-loop-i : goal.bounds-next-from-in-loop-i
bounds-next-from-in-loop-i c = omega (arith, round_within _ _ _ c.going_round-from.ensures (omega arith))

pub loop-i-preserved : goal.loop-i-preserved
loop-i-preserved c =
    let a = c.args in
    let l = c.loop-i in (
      l.invariant.0,
      l.invariant.1,
      l.invariant.2,
      l.invariant.3,
      left_turn a.ring l.invariant.0 l.i (omega arith) l.next c.going_round-from.result l.invariant.4 c.going_round-from.ensures,
      filled_turn a.ring l.invariant.0 l.i (omega arith) l.next c.going_round-from.result a.at a.parcel.bytes l.bytes (omega arith) (omega arith) l.invariant.4 c.going_round-from.ensures l.invariant.5,
    )

pub overflow_cast-next : goal.overflow_cast-next
overflow_cast-next c = omega (arith, round_within _ _ _ c.going_round.ensures (omega arith))

pub returns : goal.returns
returns c =
    let a = c.args in
    let l = c.loop-i in
    left_all a.ring a.parcel a.at a.n l.i c.going_round.result l.next l.bytes (omega arith) c.going_round.ensures l.invariant.4 l.invariant.5
    ∙ sym (get_done _ _ _ _ (sym c.get_fits.ensures ∙ c.if-not-get_fits.false))
