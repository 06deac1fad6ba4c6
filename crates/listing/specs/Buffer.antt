-- A line in its room: its bytes, with zeros behind them, and how many they are.
-- Assumes nothing.
use Rattle.std.specs.Prelude.{ℕ, ◌+◌, ◌-◌, ◌^◌, ◌≤◌, ◌<◌, ◌≡◌, refl, cond, List, [], ◌∷◌, ◌++◌, ltb, length, set, replicate, take, suc}
use Rattle.std.proofs.Common.{append_assoc, append-nil, arith, lt-ltb, length-append}
use Rattle.std.proofs.Math.Seq.{set-append_seam, take-append_seam}
use Rattle.records.specs.declared.Record.{Record}
use Rattle.listing.specs.declared.Line.{Line}
use Rattle.listing.specs.Listing.{room, line_of}
use Rattle.listing.specs.Laws.{line_long}

-- A text in a line's room, with zeros behind it
unfoldable pub lined : List ℕ → Line
lined text = record { bytes = text ++ replicate (room - length text) 0; length = length text }

-- A line with one byte more, or as it was where there is no room
unfoldable pub pushed : Line → ℕ → Line
pushed l b = cond (ltb l.length room) (record { bytes = set l.bytes l.length b; length = l.length + 1 }) l

-- A line with a text more, byte by byte
unfoldable pub written : Line → List ℕ → Line
written l [] = l
written l (b ∷ text) = written (pushed l b) text

-- A text written behind another
pub written_append : (l : Line) (a b : List ℕ) → written l (a ++ b) ≡ written (written l a) b
unfolding written
written_append l [] b = refl
written_append l (x ∷ a) b = written_append (pushed l x) a b

-- Where there is room, a byte more is a text longer by that byte
pushed_lined : (text : List ℕ) (b : ℕ) → length text < room → pushed (lined text) b ≡ lined (text ++ (b ∷ []))
unfolding pushed lined
pushed_lined text b h =
    let one : room - length text ≡ suc (room - (length text + 1)) = omega arith in
    rw (lt-ltb (length text) room h, length-append, one, set-append_seam, append_assoc)

-- and a text more is the two texts
written_lined : (a b : List ℕ) → length a + length b ≤ room → written (lined a) b ≡ lined (a ++ b)
unfolding written
written_lined a [] h = rw append-nil
written_lined a (x ∷ b) h =
    rw (pushed_lined a x (omega arith), written_lined (a ++ (x ∷ [])) b (rw length-append (omega arith)), append_assoc)

-- So a text written to an empty line is that text
pub written_whole : (text : List ℕ) → length text ≤ room → written (lined []) text ≡ lined text
written_whole text h = written_lined [] text (omega arith)

-- A line's length is within its bytes, so that a caller may take that many
pub lined_within : {l : Line} (text : List ℕ) → l ≡ lined text → l.length ≤ length l.bytes
unfolding lined
lined_within text e = rw (e, length-append) (omega arith)

-- It prints as its text
pub lined_text : (text : List ℕ) → take (lined text).length (lined text).bytes ≡ text
unfolding lined
lined_text text = take-append_seam text (replicate (room - length text) 0)

-- What panel prints for a reply finds room
pub line_fits : (call : ℕ) (r : Record) → call < 256 → r.what < 256 → r.who < 256 → r.n < 256 → r.l < 256 → r.m < 2 ^ 32 → written (lined []) (line_of call r) ≡ lined (line_of call r)
line_fits call r a b c d e f = written_whole (line_of call r) (line_long call r a b c d e f)
