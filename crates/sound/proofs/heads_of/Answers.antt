use Rattle.tables.specs.Access.{process_of}
use Rattle.std.proofs.Common.{rules, ◌≡◌, ◌∙◌, sym, ap, refl, map, reverse, arith}
use Rattle.std.proofs.lemmas.List.{map-set, reverse-reverse}
use Rattle.std.proofs.lemmas.Iterator.Adapters.{YieldsList-from_rev_slice}
use Rattle.std.proofs.lemmas.Iterator.Consumers.{YieldsList-end}
use Rattle.std.proofs.Math.Seq.{map-set_same}
use Rattle.sound.specs.declared.Heads.{Heads}
use Rattle.tables.specs.declared.Process.{Process}
use Rattle.tables.specs.declared.Place.TheVariants.{Getting, Putting}
use Rattle.tables.specs.Numbers.{code, spot}
use Rattle.sound.specs.Sound.{place_at}
use Rattle.sound.specs.Tested.{heads_of}
use Rattle.sound.proofs.Laws.{no_head, no_heads, head_noted, head_kept, off_ring}
use Rattle.sound.proofs.heads_of.Goals as goal

pub loop-x-init : goal.loop-x-init
loop-x-init c = record { getters = no_heads 5 c.args.t.now.processes; putters = no_heads 6 c.args.t.now.processes }

pub loop-x-preserved-in-Getting : goal.loop-x-preserved-in-Getting
unfolding process_of
loop-x-preserved-in-Getting c =
    let l = c.loop-x in
    let at : place_at c.args.t.now.processes c.in-Some.x.now ≡ Getting c.in-Getting.n c.in-Getting.field-1 = ap (λ (q : Process). q.place) (sym c.process_at.ensures) ∙ c.in-Getting.is in
    record {
      getters = map-set (λ (h : Heads). h.getter) l.heads c.in-Getting.n _ ∙ head_noted _ _ l.yielded c.in-Some.x c.in-Getting.n l.invariant.getters (ap code at) (ap spot at) (search rules);
      putters = map-set_same (λ (h : Heads). h.putter) l.heads c.in-Getting.n _ no_head refl ∙ head_kept _ _ l.yielded c.in-Some.x l.invariant.putters (λ e. omega (arith, ap code at));
    }

pub loop-x-preserved-in-Putting : goal.loop-x-preserved-in-Putting
unfolding process_of
loop-x-preserved-in-Putting c =
    let l = c.loop-x in
    let at : place_at c.args.t.now.processes c.in-Some.x.now ≡ Putting c.in-Putting.n c.in-Putting.field-1 = ap (λ (q : Process). q.place) (sym c.process_at.ensures) ∙ c.in-Putting.is in
    record {
      getters = map-set_same (λ (h : Heads). h.getter) l.heads c.in-Putting.n _ no_head refl ∙ head_kept _ _ l.yielded c.in-Some.x l.invariant.getters (λ e. omega (arith, ap code at));
      putters = map-set (λ (h : Heads). h.putter) l.heads c.in-Putting.n _ ∙ head_noted _ _ l.yielded c.in-Some.x c.in-Putting.n l.invariant.putters (ap code at) (ap spot at) (search rules);
    }

pub loop-x-preserved : goal.loop-x-preserved
unfolding process_of
loop-x-preserved c =
    let l = c.loop-x in
    let off = rw c.process_at.ensures at (off_ring c.process_at.result.place c.in_default.not-Getting c.in_default.not-Putting) in
    record {
      getters = head_kept _ _ l.yielded c.in-Some.x l.invariant.getters off.0;
      putters = head_kept _ _ l.yielded c.in-Some.x l.invariant.putters off.1;
    }

-- in the end all have come
all_come : (c : goal.In-None) → reverse (map (λ x. x.now) c.loop-x.yielded) ≡ c.args.t.now.order
all_come c =
    let l = c.loop-x in
    let order = c.args.t.now.order in
    let end = YieldsList-end (YieldsList-from_rev_slice order (cc)) l.yielded l.x-iterator l.yielded_by c.next.result c.next.new.self c.in-None.is c.next.ensures.steps in
    ap reverse end.0 ∙ reverse-reverse order

pub returns-clause-getters : goal.returns-clause-getters
returns-clause-getters c = c.loop-x.invariant.getters ∙ ap (heads_of 5 c.args.t.now.processes) (all_come c)

pub returns-clause-putters : goal.returns-clause-putters
returns-clause-putters c = c.loop-x.invariant.putters ∙ ap (heads_of 6 c.args.t.now.processes) (all_come c)
