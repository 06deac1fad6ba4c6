-- `tables::replace` meets its contract: at 0 and past the end the table as it was, else with the new entry at the number.
use Rattle.std.proofs.Common.{◌≡◌, ◌-◌, sym, arith}
use Rattle.tables.specs.Laws.{replaced_zero, replaced_past, replaced_at}
use Rattle.tables.proofs.replace.Goals as goal

pub returns-in_default : goal.returns-in_default
returns-in_default g c = sym (replaced_zero _ _ _ (omega (arith, c.in_default.ensures)))

pub returns-then-i-table : goal.returns-then-i-table
returns-then-i-table g c =
    let i : c.in-Some.i ≡ c.args.n - 1 = omega (arith, c.in-Some.ensures) in
    rw i (sym (replaced_at _ _ _ (λ z. omega (arith, c.in-Some.ensures))))

pub returns-else-i-table : goal.returns-else-i-table
returns-else-i-table g c = sym (replaced_past _ _ _ (omega (arith, c.in-Some.ensures)))
