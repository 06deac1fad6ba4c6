-- The call table's numbers: each deed has its own, and the numbers without one are 0 and all above 23. Assumes nothing.
use Rattle.std.specs.Prelude.{ℕ, zero, suc, ◌≤◌, ◌<◌, ◌≡◌, refl, Bool, true, false, cond, not, List, [], ◌∷◌, eqb, ltb}
use Rattle.std.proofs.Common.{sym, true≢false, arith, eqb-true, ne_eqb, ltb-true, ltb-false, lt-ltb, le-ltb}
use Rattle.std.proofs.lemmas.Bool.{eqb-false, not-true}
use Rattle.basics.specs.Tests.{test, holds, fails}
use Rattle.calls.specs.declared.Deed.{Deed}
use Rattle.calls.specs.declared.Deed.TheVariants.{
  Unknown,
  Tick,
  CreateProcess,
  DeleteMyself,
  Suspend,
  Resume,
  ChangePriority,
  Schedule,
  ProcessState,
  Sleep,
  CreateStructure,
  DeleteStructure,
  StructureValue,
  Signal,
  ConditionalSignal,
  SignalAll,
  Wait,
  ConditionalWait,
  Put,
  ConditionalPut,
  Get,
  ConditionalGet,
  ResetRing,
  Collect,
}
use Rattle.calls.specs.declared.Row.{Row}
use Rattle.calls.specs.Calls.{unknown, is_unknown, table, row_in, row_of, call_number}

-- Each deed stands in the row with its number
pub deed_of_number : (d : Deed) → (row_of (call_number d)).deed ≡ d
unfolding table row_in row_of
deed_of_number Unknown = refl
deed_of_number Tick = refl
deed_of_number CreateProcess = refl
deed_of_number DeleteMyself = refl
deed_of_number Suspend = refl
deed_of_number Resume = refl
deed_of_number ChangePriority = refl
deed_of_number Schedule = refl
deed_of_number ProcessState = refl
deed_of_number Sleep = refl
deed_of_number CreateStructure = refl
deed_of_number DeleteStructure = refl
deed_of_number StructureValue = refl
deed_of_number Signal = refl
deed_of_number ConditionalSignal = refl
deed_of_number SignalAll = refl
deed_of_number Wait = refl
deed_of_number ConditionalWait = refl
deed_of_number Put = refl
deed_of_number ConditionalPut = refl
deed_of_number Get = refl
deed_of_number ConditionalGet = refl
deed_of_number ResetRing = refl
deed_of_number Collect = refl

-- A test that holds of every number below n
every : (ℕ → Bool) → ℕ → Bool
every f zero = true
every f (suc n) = cond (f n) (every f n) false

every_at : (f : ℕ → Bool) (n : ℕ) → every f n ≡ true → (k : ℕ) → k < n → f k ≡ true
unfolding every
every_at f zero h k l = absurd (omega arith)
every_at f (suc n) h k l =
    elim (test (f n)) [
      | holds e ↦
          elim (test (eqb k n)) [
            | holds q ↦ rw (eqb-true k n q) e
            | fails q ↦ every_at f n (rw e at h) k (omega (arith, eqb-false k n q))
          ]
      | fails e ↦ absurd (true≢false (sym (rw e at h)))
    ]

-- and the row with a number up to 23 has the deed of that number
pub number_of_deed : (call : ℕ) → call ≤ 23 → call_number (row_of call).deed ≡ call
unfolding table row_in row_of every
number_of_deed call h = eqb-true (call_number (row_of call).deed) call (every_at (λ k. eqb (call_number (row_of k).deed) k) 24 refl call (omega arith))

-- Every number of these lines is below b
unfoldable below : ℕ → List (ℕ × Row) → Bool
below b [] = true
below b (line ∷ lines) = cond (ltb line.0 b) (below b lines) false

-- A number past all the lines is in none
past : (b call : ℕ) (lines : List (ℕ × Row)) → below b lines ≡ true → b ≤ call → row_in lines call ≡ unknown
unfolding row_in below
past b call [] h k = refl
past b call (line ∷ lines) h k =
    elim (test (ltb line.0 b)) [
      | holds e ↦ rw (ne_eqb call line.0 (omega (arith, ltb-true line.0 b e))) (past b call lines (rw e at h) k)
      | fails e ↦ absurd (true≢false (sym (rw e at h)))
    ]

-- A number above 23 is no request
pub unknown_above : (call : ℕ) → 23 < call → row_of call ≡ unknown
unfolding row_of table below
unknown_above call h = past 24 call table refl (omega arith)

-- Unknown are call 0 and those above 23, and no others
pub unknown_numbers : (call : ℕ) → is_unknown (row_of call) ≡ cond (eqb call 0) true (ltb 23 call)
unfolding row_of table row_in every
unknown_numbers zero = refl
unknown_numbers (suc k) =
    elim (test (ltb k 23)) [
      | holds e ↦
          let h : k < 23 = ltb-true k 23 e in
          rw (ne_eqb (suc k) 0 (omega arith), le-ltb 23 (suc k) (omega arith))
          (not-true (is_unknown (row_of (suc k))) (every_at (λ j. not (is_unknown (row_of (suc j)))) 23 refl k h))
      | fails e ↦
          let h : 23 < suc k = omega (arith, ltb-false k 23 e) in
          rw (ne_eqb (suc k) 0 (omega arith), lt-ltb 23 (suc k) h, unknown_above (suc k) h)
    ]
