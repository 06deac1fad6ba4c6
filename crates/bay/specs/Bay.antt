-- Rings and parcels: what a ring holds, the canonical ring and parcel, a good ring, and what put, get and reset leave.
use Rattle.std.specs.Prelude.{◌≡◌, Bool, false, cond, List, ◌++◌, ℕ, ◌+◌, ◌-◌, ◌≤◌, ◌<◌, length, get_or, take, drop, replicate, leb, ltb}
use Rattle.std.proofs.Math.Seq.{paste}
use Rattle.std.specs.Prelude.{None, Some}
use Rattle.bay.specs.declared.Parcel.{Parcel}
use Rattle.bay.specs.declared.Ring.{Ring}
use Rattle.bay.specs.declared.Moved.{Moved}
use Rattle.bay.specs.Round.{table, going_round, behind, lies}

-- n zero bytes
unfoldable pub zeros : ℕ → List ℕ
zeros n = replicate n 0

-- the ring with other bytes
abbrev pub with_bytes : Ring → List ℕ → Ring
with_bytes r l = record { bytes = l; start = r.start; size = r.size; held = r.held }

-- the ring with another held count
abbrev pub with_held : Ring → ℕ → Ring
with_held r h = record { bytes = r.bytes; start = r.start; size = r.size; held = h }

-- the held bytes in order, from the start, round the end
unfoldable pub contents : Ring → List ℕ
contents r = table r.held (λ i. get_or r.bytes (going_round r.size (r.start + i)) 0)

-- the byte at k of a bay whose ring holds c from the start on: all room that is not held is zero
unfoldable pub laid_byte : ℕ → ℕ → List ℕ → ℕ → ℕ
laid_byte start size c k = cond (ltb k size) (get_or c (behind start size k) 0) 0

-- the bay's 256 bytes, so laid
unfoldable pub laid : ℕ → ℕ → List ℕ → List ℕ
laid start size c = table 256 (laid_byte start size c)

-- the ring of that start and size that holds c, and zero everywhere else
unfoldable pub ring_of : ℕ → ℕ → List ℕ → Ring
ring_of start size c = record { bytes = laid start size c; start = start; size = size; held = length c }

-- a bay that no ring has: all zero
unfoldable pub empty_bay : Ring
empty_bay = record { bytes = zeros 256; start = 0; size = 0; held = 0 }

-- the parcel that holds these bytes, and zero behind them
unfoldable pub parcel_of : List ℕ → Parcel
parcel_of b = record { bytes = b ++ zeros (64 - length b); holds = Some (length b) }

-- the parcel that holds nothing: all zero
unfoldable pub empty_parcel : Parcel
empty_parcel = record { bytes = zeros 64; holds = None }

-- n bytes of the parcel, from its byte `from` on
abbrev pub bytes_from : Parcel → ℕ → ℕ → List ℕ
bytes_from p from n = take n (drop from p.bytes)

-- the numbers of a ring: "size 1 to 256", the start below it, no more held than it
pub record Numbers (start size held : ℕ) : Type 0 where
  pub small : size ≤ 256
  pub within : start < size
  pub most : held ≤ size

-- a good ring: a bay of 256 bytes, the numbers of a ring, and "all unused room is zero"
pub record Good (r : Ring) : Type 0 where
  pub room : length r.bytes ≡ 256
  pub numbers : Numbers r.start r.size r.held
  pub clear : (k : ℕ) → lies r.start r.size 0 r.held k ≡ false → get_or r.bytes k 0 ≡ 0

-- the test of a ring's numbers
unfoldable pub in_range : ℕ → ℕ → ℕ → Bool
in_range start size held = cond (leb size 256) (cond (ltb start size) (leb held size) false) false

-- n bytes lie in a parcel from its byte `from` on, and find room in the ring
unfoldable pub put_fits : ℕ → ℕ → ℕ → ℕ → ℕ → Bool
put_fits start size held from n = cond (leb (from + n) 64) (cond (leb (held + n) size) (in_range start size held) false) false

-- n bytes are held, and find room in a parcel from its byte `at` on
unfoldable pub get_fits : ℕ → ℕ → ℕ → ℕ → ℕ → Bool
get_fits start size held at n = cond (leb (at + n) 64) (cond (leb n held) (in_range start size held) false) false

-- the parcel's byte that comes to lie at k: its byte `from` lies just behind the held ones, the others follow
unfoldable pub coming_byte : Ring → Parcel → ℕ → ℕ → ℕ
coming_byte r p from k = get_or p.bytes (from + (behind r.start r.size k - r.held)) 0

-- the byte at k, once n bytes of the parcel from its byte `from` on stand behind the held ones
unfoldable pub entered_byte : Ring → Parcel → ℕ → ℕ → ℕ → ℕ
entered_byte r p from n k = cond (lies r.start r.size r.held (r.held + n) k) (coming_byte r p from k) (get_or r.bytes k 0)

-- the ring with those n bytes in it
unfoldable pub entered : Ring → Parcel → ℕ → ℕ → Ring
entered r p from n = record { bytes = table 256 (entered_byte r p from n); start = r.start; size = r.size; held = r.held + n }

-- put: the bytes enter; numbers that do not fit leave the ring
unfoldable pub put_of : Ring → Parcel → ℕ → ℕ → Ring
put_of r p from n = cond (put_fits r.start r.size r.held from n) (entered r p from n) r

-- the byte at k, once the first n held bytes have left: what they leave is zero
unfoldable pub left_byte : Ring → ℕ → ℕ → ℕ
left_byte r n k = cond (lies r.start r.size 0 n k) 0 (get_or r.bytes k 0)

-- the ring without its first n held bytes: the start moves on by the number of bytes that leave, round the end
unfoldable pub left : Ring → ℕ → Ring
left r n = record { bytes = table 256 (left_byte r n); start = going_round r.size (r.start + n); size = r.size; held = r.held - n }

-- the parcel with the first n bytes of c from its byte `at` on
unfoldable pub filled : Parcel → ℕ → List ℕ → ℕ → Parcel
filled p at c n = record { bytes = paste p.bytes at c n; holds = Some (at + n) }

-- a ring and a parcel
abbrev pub moved : Ring → Parcel → Moved
moved r p = record { ring = r; parcel = p }

-- get: the first n held bytes go into the parcel; numbers that do not fit leave both
unfoldable pub get_of : Ring → Parcel → ℕ → ℕ → Moved
get_of r p at n = cond (get_fits r.start r.size r.held at n) (moved (left r n) (filled p at (contents r) n)) (moved r p)

-- the ring without its held bytes
unfoldable pub thrown_away : Ring → Ring
thrown_away r = record { bytes = zeros 256; start = going_round r.size (r.start + r.held); size = r.size; held = 0 }

-- reset: "throws the held bytes away"; numbers that are no ring's leave it
unfoldable pub reset_of : Ring → Ring
reset_of r = cond (in_range r.start r.size r.held) (thrown_away r) r
