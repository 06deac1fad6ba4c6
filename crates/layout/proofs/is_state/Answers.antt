-- `layout::is_state` meets its contract: where reading loses nothing, the bytes are those of the tables that are read.
use Rattle.std.proofs.Common.{◌≡◌, sym, refl, arith, ◌∙◌}
use Rattle.layout.specs.Layout.{is_state, processes_kept, structures_kept, holdings_kept}
use Rattle.layout.specs.Laws.{kept, is_state_kept}
use Rattle.layout.proofs.Laws.{all_entries}
use Rattle.layout.proofs.is_state.Goals as goal
use Rattle.layout.proofs.is_state.Goals.{then-processes_kept, else-processes_kept}

pub returns-then-structures_kept : goal.returns-then-structures_kept
returns-then-structures_kept c =
    let s = c.args.s.now in
    let is : is_state s ≡ kept s = is_state_kept s (c.in-Some.ensures.variant.0 refl) (λ i. omega (arith, c.type_inv.s i)) in
    let same = c.in-Some.ensures.cases.same in
    let processes : c.processes_kept.result ≡ processes_kept s = rw (c.processes_kept.ensures, all_entries, same) in
    let holdings : c.holdings_kept.result ≡ holdings_kept s = rw (c.holdings_kept.ensures, all_entries, same) in
    elim c.if-processes_kept.branch [
      | then-processes_kept w ↦
          let structures : w.structures_kept.result ≡ structures_kept s = rw (w.structures_kept.ensures, all_entries, same) in
          rw (is, sym processes ∙ w.if-processes_kept.true, sym structures ∙ sym w.value-is ∙ c.if-structures_kept.true) holdings
      | else-processes_kept w ↦ absurd (cc)
    ]

pub returns-else-structures_kept : goal.returns-else-structures_kept
returns-else-structures_kept c =
    let s = c.args.s.now in
    let is : is_state s ≡ kept s = is_state_kept s (c.in-Some.ensures.variant.0 refl) (λ i. omega (arith, c.type_inv.s i)) in
    let same = c.in-Some.ensures.cases.same in
    let processes : c.processes_kept.result ≡ processes_kept s = rw (c.processes_kept.ensures, all_entries, same) in
    elim c.if-processes_kept.branch [
      | then-processes_kept w ↦
          let structures : w.structures_kept.result ≡ structures_kept s = rw (w.structures_kept.ensures, all_entries, same) in
          rw (is, sym processes ∙ w.if-processes_kept.true, sym structures ∙ sym w.value-is ∙ c.if-structures_kept.false) c.if-structures_kept.false
      | else-processes_kept w ↦ rw (is, sym processes ∙ w.if-processes_kept.false) c.if-structures_kept.false
    ]
