-- What changes nothing.
use Rattle.std.specs.Prelude.{ℕ, ◌≡◌, refl, false}
use Rattle.std.proofs.Common.{eq-eqb, ne_eqb}
use Rattle.tables.specs.declared.Tables.{Tables}
use Rattle.tables.specs.Access.{process_of}
use Rattle.answers.specs.declared.Outcome.TheVariants.{Done}
use Rattle.answers.specs.Answers.{plain, step}
use Rattle.processes.specs.Processes.{is_free, prioritised, prioritised_of, slept}

-- Sleep 0 is code 0 and changes nothing
pub sleep_0 : (t : Tables) → (t.running ≡ 0 → ⊥) → slept 0 t ≡ step t (plain Done)
unfolding slept
sleep_0 t h = rw (ne_eqb t.running 0 h)

-- Change priority to the present value changes nothing, and is done
pub same_priority : (p : ℕ) (t : Tables) → is_free (process_of t p) ≡ false → prioritised p (process_of t p).priority t ≡ step t (plain Done)
unfolding prioritised prioritised_of
same_priority p t h = rw (h, eq-eqb (process_of t p).priority (process_of t p).priority refl)
