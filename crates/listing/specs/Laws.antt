-- A number's digits one by one and how many they are, that they are the library's, and how long a line is. Assumes nothing.
use Rattle.std.specs.Prelude.{ℕ, zero, suc, ◌/◌, ◌%◌, ◌^◌, ◌≤◌, ◌<◌, ◌≡◌, refl, [], ◌∷◌, ◌++◌, ltb, length}
use Rattle.std.proofs.Common.{sym, append_assoc, arith, pow-suc, lt-ltb, le-ltb, ltb-false, length-append}
use Rattle.std.specs.Fmt as printed
use Rattle.std.proofs.lemmas.Fmt.{decimal_by_steps}
use Rattle.basics.specs.Tests.{test, holds, fails}
use Rattle.records.specs.declared.Record.{Record}
use Rattle.records.specs.Records.{reply}
use Rattle.listing.specs.Listing.{digit, space, line_end, room, digits, decimal, field, line_of}

-- Any k and j above x give the same digits: all of them
digits_all : (k j x : ℕ) → x < k → x < j → digits k (ltb x 10) x ≡ digits j (ltb x 10) x
unfolding digits
digits_all zero j x h i = absurd (omega arith)
digits_all (suc k) zero x h i = absurd (omega arith)
digits_all (suc k) (suc j) x h i =
    elim (test (ltb x 10)) [
      | holds e ↦ rw e
      | fails e ↦ rw (e, digits_all k j (x / 10) (omega (arith, ltb-false x 10 e)) (omega (arith, ltb-false x 10 e)))
    ]

-- A number below ten is one digit
pub decimal_one : (x : ℕ) → x < 10 → decimal x ≡ digit x ∷ []
unfolding decimal digits
decimal_one x h = rw (lt-ltb x 10 h)

-- From ten on the last digit stands behind the digits of the tenth part
pub decimal_more : (x : ℕ) → 10 ≤ x → decimal x ≡ decimal (x / 10) ++ (digit (x % 10) ∷ [])
unfolding decimal digits
decimal_more x h = rw (le-ltb x 10 h, digits_all x (suc (x / 10)) (x / 10) (omega arith) (omega arith))

-- So they are the library's digits
pub decimal_printed : (x : ℕ) → x < 2 ^ 64 → printed.decimal x ≡ decimal x
decimal_printed x h = decimal_by_steps (λ y text. text ≡ decimal y) (λ y k. sym (decimal_one y k)) (λ y text k e. rw (e, decimal_more y k)) x h

-- A number below 10 ^ k has at most k digits, for k above 0
digits_long : (j k x : ℕ) → x < 10 ^ suc k → length (digits j (ltb x 10) x) ≤ suc k
unfolding digits
digits_long zero k x h = omega arith
digits_long (suc j) zero x h = rw (lt-ltb x 10 (omega arith)) (omega arith)
digits_long (suc j) (suc k) x h =
    elim (test (ltb x 10)) [
      | holds e ↦ rw e (omega arith)
      | fails e ↦ rw (e, length-append) (omega (arith, digits_long j k (x / 10) (omega (arith, rw pow-suc at h))))
    ]

pub decimal_long : (k x : ℕ) → x < 10 ^ suc k → length (decimal x) ≤ suc k
unfolding decimal
decimal_long k x h = digits_long (suc x) k x h

-- By the ranges of its fields every line has at most so many bytes
pub line_long : (call : ℕ) (r : Record) → call < 256 → r.what < 256 → r.who < 256 → r.n < 256 → r.l < 256 → r.m < 2 ^ 32 → length (line_of call r) ≤ room
unfolding line_of field
line_long call r a b c d e f =
    simp length-append
    (omega (arith, decimal_long 2 call (omega arith), decimal_long 2 r.what (omega arith), decimal_long 2 r.who (omega arith), decimal_long 2 r.n (omega arith), decimal_long 2 r.l (omega arith), decimal_long 9 r.m (omega arith)))

-- A line is what the library prints of its six numbers, with a space behind each and a line end behind the last
pub line_printed : (call : ℕ) (r : Record) → call < 256 → r.what < 256 → r.who < 256 → r.n < 256 → r.l < 256 → r.m < 2 ^ 32 → printed.decimal call ++ (space ∷ (printed.decimal r.what ++ (space ∷ (printed.decimal r.who ++ (space ∷ (printed.decimal r.n ++ (space ∷ (printed.decimal r.l ++ (space ∷ (printed.decimal r.m ++ (line_end ∷ []))))))))))) ≡ line_of call r
unfolding line_of field
line_printed call r a b c d e f =
    simp (append_assoc, decimal_printed call (omega arith), decimal_printed r.what (omega arith), decimal_printed r.who (omega arith), decimal_printed r.n (omega arith), decimal_printed r.l (omega arith), decimal_printed r.m (omega arith))

-- ---- computed: the paper's second line, 10 0 1 1 0 0, and the largest amount, 4294967295

second_line : line_of 10 (reply 0 1 1 0 0 []) ≡ 49 ∷ 48 ∷ 32 ∷ 48 ∷ 32 ∷ 49 ∷ 32 ∷ 49 ∷ 32 ∷ 48 ∷ 32 ∷ 48 ∷ 10 ∷ []
unfolding line_of field decimal digits
second_line = refl

largest_amount : decimal 4294967295 ≡ 52 ∷ 50 ∷ 57 ∷ 52 ∷ 57 ∷ 54 ∷ 55 ∷ 50 ∷ 57 ∷ 53 ∷ []
unfolding decimal digits
largest_amount = refl
