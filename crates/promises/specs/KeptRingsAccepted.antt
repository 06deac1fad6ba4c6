-- What an accepted get says of its caller: the parcel holds nothing, since 48 would apply. The other ring calls ask for nothing more than steady tables and 64 bytes.
use Rattle.std.specs.Prelude.{ℕ, ◌≡◌, true, false, eqb, leb, ltb}
use Rattle.std.proofs.Math.Path.{refl}
use Rattle.std.proofs.Common.{sym, ap, ◌∙◌, true≢false, arith, leb-true, leb-false}
use Rattle.basics.specs.Tests.{test, holds, fails}
use Rattle.std.specs.Prelude.{Option, None, Some}
use Rattle.tables.specs.declared.Tables.{Tables}
use Rattle.tables.specs.Access.{parcel_for}
use Rattle.records.specs.declared.Record.{Record}
use Rattle.calls.specs.declared.Deed.TheVariants as deeds
use Rattle.calls.specs.declared.Row.{Row}
use Rattle.calls.specs.Calls.{table, row_in, row_of, call_number}
use Rattle.calls.specs.Laws.{number_of_deed, unknown_above}
use Rattle.refusals.specs.Refusals.{wrong_caller, uncollected, codes, applies_to, applies, refusal}
use Rattle.refusals.specs.Laws.{none_applies}

-- The number of a get is 20
get_number : (call : ℕ) → (row_of call).deed ≡ deeds.Get → call ≡ 20
get_number call e =
    elim (test (leb call 23)) [
      | holds h ↦ sym (number_of_deed call (leb-true call 23 h)) ∙ ap call_number e
      | fails h ↦
          let none = ap (λ (row : Row). row.deed) (unknown_above call (leb-false call 23 h)) in
          let z : ◌≡◌ {A = ℕ} 0 20 = ap call_number (sym none ∙ e) in
          absurd (omega arith)
    ]

-- It comes from a process
get_caller : (who running : ℕ) → wrong_caller (row_of 20) who running ≡ false → eqb who 1 ≡ true
unfolding wrong_caller row_of row_in table
get_caller who running h =
    elim (test (ltb 1 who)) [
      | holds a ↦ absurd (true≢false (rw a at h))
      | fails a ↦ elim (test (eqb who 1)) [ holds b ↦ b | fails b ↦ absurd (true≢false (rw (a, b) at h)) ]
    ]

-- whose parcel holds nothing
get_holds : (who : ℕ) (held : Option ℕ) → uncollected 20 who held ≡ false → eqb who 1 ≡ true → held ≡ None
unfolding uncollected
get_holds who None h e = refl
get_holds who (Some l) h e = absurd (true≢false (rw e at h))

module _ (t : Tables) (r : Record) (accepted : refusal t r ≡ 0) where
  -- Neither 42 nor 48 applies
  not_42 : wrong_caller (row_of r.what) r.who t.running ≡ false
  unfolding refusal applies applies_to
  not_42 = none_applies (λ k. applies k t r) codes refl accepted 42 refl

  not_48 : uncollected r.what r.who (parcel_for t t.running).holds ≡ false
  unfolding refusal applies applies_to
  not_48 = none_applies (λ k. applies k t r) codes refl accepted 48 refl

  -- So the parcel of an accepted get's caller holds nothing
  pub get_empty : (row_of r.what).deed ≡ deeds.Get → (parcel_for t t.running).holds ≡ None
  get_empty e =
      let call = get_number r.what e in
      get_holds r.who (parcel_for t t.running).holds (rw call at not_48) (get_caller r.who t.running (rw call at not_42))
