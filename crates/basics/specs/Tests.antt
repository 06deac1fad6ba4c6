-- A test with its outcome, so that a proof goes by cases and keeps the equation: `elim (test b) [ holds e ↦ .. | fails e ↦ .. ]`.
use Rattle.std.specs.Prelude.{◌≡◌, refl, Bool, true, false, cond}

pub data Test (b : Bool) : Type 0 where
  holds : b ≡ true → Test b
  fails : b ≡ false → Test b

pub test : (b : Bool) → Test b
test true = holds refl
test false = fails refl

-- What holds of both holds of the one that a test picks
pub pick : {A : Type 0} (P : A → Type 0) (b : Bool) {x y : A} → P x → P y → P (cond b x y)
pick P true p q = p
pick P false p q = q
