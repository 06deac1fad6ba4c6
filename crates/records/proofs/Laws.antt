-- What the bytes of a number and the parts of a record are. Assumes nothing.
use Rattle.std.proofs.Common.{ℕ, ◌+◌, ◌-◌, ◌≤◌, ◌≡◌, List, [], ◌∷◌, ◌++◌, length, get_or, take, drop, arith, rules, drop-cons}
use Rattle.std.proofs.lemmas.Slice.{overwrites}
use borrow.Rule.Slice.PartMut.{put_mid}

-- Bytes 4 to 7 one by one
pub four : (s : List ℕ) → 8 ≤ length s → take 4 (drop 4 s) ≡ get_or s 4 0 ∷ get_or s 5 0 ∷ get_or s 6 0 ∷ get_or s 7 0 ∷ []
four s h =
    rw (drop-cons s 4 0 (omega arith), drop-cons s 5 0 (omega arith), drop-cons s 6 0 (omega arith), drop-cons s 7 0 (omega arith))

-- Two parts over all of s: the first k bytes, then the others
pub both_parts : (k : ℕ) (s a b : List ℕ) → length a ≡ k → length s ≡ k + length b → put_mid k (length (a ++ drop k s) - k) (a ++ drop k s) b ≡ a ++ b
both_parts k s a b h e = search (rules, overwrites)
