-- `tables::numbered` meets its contract: at 0 and past the end the given one, else the entry with the number.
use Rattle.std.proofs.Common.{◌≡◌, ◌-◌, sym, ◌∙◌, arith}
use Rattle.tables.specs.Laws.{numbered_zero, numbered_past, numbered_at}
use Rattle.tables.proofs.numbered.Goals as goal

pub returns-in_default : goal.returns-in_default
returns-in_default g c = sym (numbered_zero _ _ _ (omega (arith, c.in_default.ensures)))

pub returns-then-i-table : goal.returns-then-i-table
returns-then-i-table g c =
    let i : c.in-Some.i ≡ c.args.n - 1 = omega (arith, c.in-Some.ensures) in
    c.index-table-i.is ∙ rw i (sym (numbered_at _ _ _ _ (λ z. omega (arith, c.in-Some.ensures)) (omega (arith, c.in-Some.ensures))))

pub returns-else-i-table : goal.returns-else-i-table
returns-else-i-table g c = sym (numbered_past _ _ _ (omega (arith, c.in-Some.ensures)))
