-- Records: request and reply have one layout of 72 bytes. Byte 0 call or code; byte 1 caller, in a reply the process running
-- afterwards; byte 2 number N; byte 3 small field L; bytes 4 to 7 amount M, low byte first; bytes 8 to 71 data.
use Rattle.std.specs.Prelude.{ℕ, zero, suc, ◌+◌, ◌*◌, ◌/◌, ◌%◌, ◌^◌, ◌<◌, ◌≡◌, cond, List, [], ◌∷◌, ◌++◌, eqb, length, get_or, take, drop, replicate}
use Rattle.records.specs.declared.Record.{Record}

-- How many data bytes a record has, and its whole length
abbrev pub data_length : ℕ
data_length = 64

abbrev pub record_length : ℕ
record_length = 8 + data_length

-- A record by its fields: a request, and a reply
abbrev pub fields : ℕ → ℕ → ℕ → ℕ → ℕ → List ℕ → Record
fields what who n l m bytes = record { what = what; who = who; n = n; l = l; m = m; bytes = bytes }

abbrev pub request : (call caller n l m : ℕ) (bytes : List ℕ) → Record
request call caller n l m bytes = fields call caller n l m bytes

abbrev pub reply : (code running n l m : ℕ) (bytes : List ℕ) → Record
reply code running n l m bytes = fields code running n l m bytes

-- Byte 0 is the call of a request, the code of a reply; byte 1 its caller, or the process running afterwards
abbrev pub call : Record → ℕ
call r = r.what

abbrev pub caller : Record → ℕ
caller r = r.who

abbrev pub code : Record → ℕ
code r = r.what

abbrev pub running : Record → ℕ
running r = r.who

-- The number of some bytes, and a number's bytes, low byte first
unfoldable pub number : List ℕ → ℕ
number [] = 0
number (b ∷ bytes) = b + 256 * number bytes

unfoldable pub low_first : ℕ → ℕ → List ℕ
low_first zero x = []
low_first (suc k) x = x % 256 ∷ low_first k (x / 256)

-- The bytes of a record, and the record of 72 bytes
unfoldable pub bytes_of : Record → List ℕ
bytes_of r = r.what ∷ r.who ∷ r.n ∷ r.l ∷ low_first 4 r.m ++ r.bytes

unfoldable pub record_of : List ℕ → Record
record_of s = fields (get_or s 0 0) (get_or s 1 0) (get_or s 2 0) (get_or s 3 0) (number (take 4 (drop 4 s))) (take data_length (drop 8 s))

abbrev pub zero_record : Record
zero_record = fields 0 0 0 0 0 (replicate data_length 0)

-- What stands in a buffer; a record of zeros where it is not exactly 72 bytes
unfoldable pub record_at : List ℕ → Record
record_at s = cond (eqb (length s) record_length) (record_of s) zero_record

-- A buffer with the record written to it; as it was where it is not exactly 72 bytes
unfoldable pub written_to : List ℕ → Record → List ℕ
written_to s r = cond (eqb (length s) record_length) (bytes_of r) s

-- Every element is a byte; past the end a list reads as 0
abbrev pub Bytes : List ℕ → Type 0
Bytes s = (i : ℕ) → get_or s i 0 < 256

-- A record's fields are in range; by its type every record of the code is so
pub record Proper (r : Record) : Type 0 where
  pub what_byte : r.what < 256
  pub who_byte : r.who < 256
  pub n_byte : r.n < 256
  pub l_byte : r.l < 256
  pub m_range : r.m < 256 ^ 4
  pub long : length r.bytes ≡ data_length
  pub bytes_range : Bytes r.bytes
