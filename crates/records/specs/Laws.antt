-- A record and its 72 bytes say the same. Assumes nothing.
use Rattle.std.specs.Prelude.{ℕ, zero, suc, ◌+◌, ◌*◌, ◌/◌, ◌%◌, ◌^◌, ◌<◌, ◌≡◌, refl, List, [], ◌∷◌, ◌++◌, length, take, drop}
use Rattle.std.proofs.Common.{sym, ap, ◌∙◌, arith, pow-suc, eq-eqb, length-append, length-drop, take-append-drop, take_all, take_at, drop_at, drop-cons, drop-drop, get_or-drop, length-take-le}
use Rattle.std.specs.Int.{w16, w32, to_le_bytes, from_le_bytes}
use Rattle.records.specs.declared.Record.{Record}
use Rattle.records.specs.Records.{data_length, record_length, number, low_first, bytes_of, record_of, record_at, written_to, Bytes, Proper}

-- ---- numbers of any width, low byte first

pub length_low_first : (k x : ℕ) → length (low_first k x) ≡ k
unfolding low_first
length_low_first zero x = refl
length_low_first (suc k) x = ap suc (length_low_first k (x / 256))

-- A number's bytes are that number
pub number_low_first : (k x : ℕ) → x < 256 ^ k → number (low_first k x) ≡ x
unfolding number low_first
number_low_first zero x h = omega arith
number_low_first (suc k) x h = rw (number_low_first k (x / 256) (omega (arith, rw pow-suc at h))) (omega arith)

-- Bytes are the bytes of their number
pub low_first_number : (s : List ℕ) → Bytes s → low_first (length s) (number s) ≡ s
unfolding number low_first
low_first_number [] h = refl
low_first_number (b ∷ s) h =
    let low : (b + 256 * number s) % 256 ≡ b = omega (arith, h 0) in
    let rest : (b + 256 * number s) / 256 ≡ number s = omega (arith, h 0) in
    rw (low, rest) (ap (λ l. b ∷ l) (low_first_number s (λ i. h (suc i))))

-- The library's words for them: the bytes of a number, four and two,
pub low_first_4 : (x : ℕ) → to_le_bytes w32 x ≡ low_first 4 x
unfolding low_first
low_first_4 x =
    let third : x / 65536 ≡ x / 256 / 256 = omega arith in
    let fourth : x / 16777216 ≡ x / 256 / 256 / 256 = omega arith in
    rw (third, fourth)

pub low_first_2 : (x : ℕ) → to_le_bytes w16 x ≡ low_first 2 x
unfolding low_first
low_first_2 x = refl

-- and the number of four bytes, and of two
pub number_4 : (s : List ℕ) → length s ≡ 4 → from_le_bytes w32 s ≡ number s
unfolding number
number_4 [] h = absurd (omega arith)
number_4 (a ∷ []) h = absurd (omega arith)
number_4 (a ∷ b ∷ []) h = absurd (omega arith)
number_4 (a ∷ b ∷ c ∷ []) h = absurd (omega arith)
number_4 (a ∷ b ∷ c ∷ d ∷ []) h = omega arith
number_4 (a ∷ b ∷ c ∷ d ∷ e ∷ s) h = absurd (omega arith)

pub number_2 : (s : List ℕ) → length s ≡ 2 → from_le_bytes w16 s ≡ number s
unfolding number
number_2 [] h = absurd (omega arith)
number_2 (a ∷ []) h = absurd (omega arith)
number_2 (a ∷ b ∷ []) h = omega arith
number_2 (a ∷ b ∷ c ∷ s) h = absurd (omega arith)

-- A part of a list of bytes has bytes only
pub bytes_drop : (n : ℕ) (s : List ℕ) → Bytes s → Bytes (drop n s)
bytes_drop n s b i = rw get_or-drop (b (n + i))

pub bytes_take : (n : ℕ) (s : List ℕ) → Bytes s → Bytes (take n s)
bytes_take zero s b i = omega arith
bytes_take (suc n) [] b i = b i
bytes_take (suc n) (x ∷ s) b zero = b zero
bytes_take (suc n) (x ∷ s) b (suc i) = bytes_take n s (λ j. b (suc j)) i

-- The number of n bytes is below 256 ^ n
pub number_range : (s : List ℕ) → Bytes s → number s < 256 ^ length s
unfolding number
number_range [] h = omega arith
number_range (b ∷ s) h = rw pow-suc (omega (arith, h 0, number_range s (λ i. h (suc i))))

-- ---- the record

-- A record has 72 bytes
pub length_bytes_of : (r : Record) → Proper r → length (bytes_of r) ≡ record_length
unfolding bytes_of
length_bytes_of r p = simp (length-append, length_low_first) (omega (arith, p.long))

-- What is written reads back as the same record
pub record_back : (r : Record) → Proper r → record_of (bytes_of r) ≡ r
unfolding bytes_of record_of
record_back r p =
    let len : length (low_first 4 r.m) ≡ 4 = length_low_first 4 r.m in
    rw (take_at (low_first 4 r.m) r.bytes 4 len, drop_at (low_first 4 r.m) r.bytes 4 len, number_low_first 4 r.m p.m_range, take_all data_length r.bytes (omega (arith, p.long)))

-- so two records with the same bytes are one
pub same_bytes : (r q : Record) → Proper r → Proper q → bytes_of r ≡ bytes_of q → r ≡ q
same_bytes r q a b e = sym (record_back r a) ∙ ap record_of e ∙ record_back q b

-- 72 bytes, read and written again, are the same bytes
pub bytes_back : (s : List ℕ) → length s ≡ record_length → Bytes s → bytes_of (record_of s) ≡ s
unfolding bytes_of record_of
bytes_back s h b =
    let amount : List ℕ = take 4 (drop 4 s) in
    let four : length amount ≡ 4 = length-take-le 4 (drop 4 s) (rw length-drop (omega arith)) in
    let same : low_first 4 (number amount) ≡ amount = rw four at (low_first_number amount (bytes_take 4 (drop 4 s) (bytes_drop 4 s b))) in
    let rest : take data_length (drop 8 s) ≡ drop 8 s = take_all data_length (drop 8 s) (rw length-drop (omega arith)) in
    let whole : amount ++ drop 8 s ≡ drop 4 s = rw drop-drop at (take-append-drop 4 (drop 4 s)) in
    rw (same, rest, whole, ← drop-cons s 3 0 (omega arith), ← drop-cons s 2 0 (omega arith), ← drop-cons s 1 0 (omega arith), ← drop-cons s 0 0 (omega arith))

-- Whatever bytes a buffer holds, the record in it is proper
pub record_proper : (s : List ℕ) → length s ≡ record_length → Bytes s → Proper (record_of s)
unfolding record_of
record_proper s h b =
    let four : length (take 4 (drop 4 s)) ≡ 4 = length-take-le 4 (drop 4 s) (rw length-drop (omega arith)) in
    record {
      what_byte = b 0;
      who_byte = b 1;
      n_byte = b 2;
      l_byte = b 3;
      m_range = rw four at (number_range (take 4 (drop 4 s)) (bytes_take 4 (drop 4 s) (bytes_drop 4 s b)));
      long = length-take-le data_length (drop 8 s) (rw length-drop (omega arith));
      bytes_range = bytes_take data_length (drop 8 s) (bytes_drop 8 s b);
    }

-- What is written to a buffer of a record's length is what is read there
pub read_written : (s : List ℕ) (r : Record) → length s ≡ record_length → Proper r → record_at (written_to s r) ≡ r
unfolding record_at written_to
read_written s r h p =
    rw (eq-eqb (length s) record_length h, eq-eqb (length (bytes_of r)) record_length (length_bytes_of r p)) (record_back r p)
