-- Listing: the program panel prints a line for each request: call (byte 0), code, running, N, L, M of the reply, decimal, one space between,
-- no header. A text is its bytes.
use Rattle.std.specs.Prelude.{ℕ, zero, suc, ◌+◌, ◌/◌, ◌%◌, Bool, true, false, List, [], ◌∷◌, ◌++◌, ltb}
use Rattle.records.specs.declared.Record.{Record}
use Rattle.records.specs.Records.{code, running}

-- The bytes of a digit, 0 to 9, of a space and of a line end
abbrev pub digit : ℕ → ℕ
digit d = 48 + d

abbrev pub space : ℕ
space = 32

abbrev pub line_end : ℕ
line_end = 10

-- How many bytes a line has at most: six numbers of 3, 3, 3, 3, 3 and 10 digits, and a byte behind each
abbrev pub room : ℕ
room = 40

-- The last k digits of a number, or all where it has fewer, the highest first; the test says whether it is below ten
unfoldable pub digits : ℕ → Bool → ℕ → List ℕ
digits zero small x = []
digits (suc k) true x = digit x ∷ []
digits (suc k) false x = digits k (ltb (x / 10) 10) (x / 10) ++ (digit (x % 10) ∷ [])

-- A number in decimal: all its digits, of which it has no more than x + 1, with no zeros in front
unfoldable pub decimal : ℕ → List ℕ
decimal x = digits (suc x) (ltb x 10) x

-- A number in decimal, and the byte behind it
unfoldable pub field : ℕ → ℕ → List ℕ
field x end = decimal x ++ (end ∷ [])

-- The line for a request with this call and this reply
unfoldable pub line_of : ℕ → Record → List ℕ
line_of call reply =
    field call space
    ++ field (code reply) space
    ++ field (running reply) space
    ++ field reply.n space
    ++ field reply.l space
    ++ field reply.m line_end
