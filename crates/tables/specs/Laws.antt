-- What the accessors read: outside the numbers, within them, and after one entry was changed.
use Rattle.std.specs.Prelude.{ℕ, ◌-◌, ◌≤◌, ◌<◌, ◌≡◌, List, eqb, leb, length, get_or, set, Option, None, Some, unwrap_or}
use Rattle.tables.specs.Numbers.{somebody}
use Rattle.std.proofs.Common.{sym, ◌∙◌, ap, arith, length-set, get_or-set_same, get_or-set_other}
use Rattle.std.proofs.Math.ListN.{get_or-eq_default}
use Rattle.std.proofs.Math.Seq.{set_out}
use borrow.Author.Tests.{eq-eqb, ne_eqb, eqb-true, eqb-false, leb-true, leb-false}
use Rattle.basics.specs.Tests.{test, holds, fails}
use Rattle.basics.specs.Lists.{get_d_any}
use Rattle.tables.specs.Access.{numbered, replaced}

-- At 0, past the end, and at a number in between
module _ {A : Type 0} (l : List A) (p : ℕ) where
  pub numbered_zero : (d : A) → p ≡ 0 → numbered l p d ≡ d
  unfolding numbered
  numbered_zero d e = rw (eq-eqb p 0 e)

  pub numbered_past : (d : A) → length l < p → numbered l p d ≡ d
  unfolding numbered
  numbered_past d h = rw (ne_eqb p 0 (omega arith)) (get_or-eq_default l d {n = p - 1} (omega arith))

  pub numbered_at : (d e : A) → (p ≡ 0 → ⊥) → p ≤ length l → numbered l p d ≡ get_or l (p - 1) e
  unfolding numbered
  numbered_at d e z h = rw (ne_eqb p 0 z) (get_d_any l (p - 1) d e (omega arith))

  pub replaced_zero : (x : A) → p ≡ 0 → replaced l p x ≡ l
  unfolding replaced
  replaced_zero x e = rw (eq-eqb p 0 e)

  pub replaced_past : (x : A) → length l < p → replaced l p x ≡ l
  unfolding replaced
  replaced_past x h = rw (ne_eqb p 0 (omega arith)) (set_out l (p - 1) x (omega arith))

  pub replaced_at : (x : A) → (p ≡ 0 → ⊥) → replaced l p x ≡ set l (p - 1) x
  unfolding replaced
  replaced_at x z = rw (ne_eqb p 0 z)

-- After one entry was changed
module _ {A : Type 0} (l : List A) (p : ℕ) (x : A) where
  pub length_replaced : length (replaced l p x) ≡ length l
  unfolding replaced
  length_replaced = elim (test (eqb p 0)) [ holds e ↦ rw e | fails e ↦ rw e (length-set l (p - 1) x) ]

  pub replaced_same : (d : A) → (p ≡ 0 → ⊥) → p ≤ length l → numbered (replaced l p x) p d ≡ x
  unfolding numbered replaced
  replaced_same d z h = rw (ne_eqb p 0 z) (get_or-set_same l (p - 1) x d (omega arith))

  pub replaced_other : (q : ℕ) (d : A) → (q ≡ p → ⊥) → numbered (replaced l p x) q d ≡ numbered l q d
  unfolding numbered replaced
  replaced_other q d h =
      elim (test (eqb p 0)) [
        | holds e ↦ rw e
        | fails e ↦
            elim (test (eqb q 0)) [
              | holds f ↦ rw (e, f)
              | fails f ↦
                  rw (e, f) (get_or-set_other l (p - 1) (q - 1) x d (λ s. h (omega (arith, eqb-false p 0 e, eqb-false q 0 f))))
            ]
      ]

  -- What does not tell the new one from the old one sees no change
  pub replaced_unseen : {B : Type 0} (g : A → B) (d : A) → g x ≡ g (numbered l p d) → (q : ℕ) → g (numbered (replaced l p x) q d) ≡ g (numbered l q d)
  replaced_unseen g d e q =
      elim (test (eqb q p)) [
        | holds s ↦
            elim (test (eqb p 0)) [
              | holds z ↦ rw (replaced_zero l p x (eqb-true p 0 z))
              | fails z ↦
                  elim (test (leb p (length l))) [
                    | holds b ↦ rw (eqb-true q p s, replaced_same d (eqb-false p 0 z) (leb-true p (length l) b)) e
                    | fails b ↦ rw (replaced_past l p x (leb-false p (length l) b))
                  ]
            ]
        | fails s ↦ ap g (replaced_other q d (eqb-false q p s))
      ]

-- ---- somebody, or nobody

module _ (x : ℕ) where
  -- Nobody is 0,
  pub nobody_is : somebody x ≡ None → x ≡ 0
  nobody_is h = elim (test (eqb x 0)) [ holds e ↦ eqb-true x 0 e | fails e ↦ let k : Some x ≡ None = rw e at h in cc ]

  -- somebody is that number, and not 0,
  pub somebody_is : (p : ℕ) → somebody x ≡ Some p → p ≡ x
  somebody_is p h = elim (test (eqb x 0)) [ holds e ↦ let k : None ≡ Some p = rw e at h in cc | fails e ↦ let k : Some x ≡ Some p = rw e at h in cc ]

  pub somebody_not : (p : ℕ) → somebody x ≡ Some p → p ≡ 0 → ⊥
  somebody_not p h z =
      elim (test (eqb x 0)) [
        | holds e ↦ let k : None ≡ Some p = rw e at h in cc
        | fails e ↦ eqb-false x 0 e (sym (somebody_is p h) ∙ z)
      ]

  -- and nobody counts as 0
  pub somebody_or : {r : Option ℕ} → r ≡ somebody x → unwrap_or r 0 ≡ x
  somebody_or h = elim (test (eqb x 0)) [ holds e ↦ rw (h, e) (sym (eqb-true x 0 e)) | fails e ↦ rw (h, e) ]
