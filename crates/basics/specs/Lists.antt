-- Lists: what the logic's own libraries lack.
use Rattle.std.specs.Prelude.{ℕ, zero, suc, ◌<◌, ◌≡◌, refl, List, [], ◌∷◌, map, length, get_or}
use Rattle.std.proofs.Common.{sym, ◌∙◌, arith}
use Rattle.std.proofs.lemmas.List.{length-map}

-- An array's list has as many elements as its image: `search (len_map, needs)` finds an array's length
pub len_map : {A B : Type 0} (f : A → B) (l : List A) (n : ℕ) → length (map f l) ≡ n → length l ≡ n
len_map f l n e = sym (length-map l f) ∙ e

-- Within a list no default is read
pub get_d_any : {A : Type 0} (l : List A) (i : ℕ) (d e : A) → i < length l → get_or l i d ≡ get_or l i e
get_d_any [] i d e h = absurd (omega arith)
get_d_any (x ∷ l) zero d e h = refl
get_d_any (x ∷ l) (suc i) d e h = get_d_any l i d e (omega arith)
