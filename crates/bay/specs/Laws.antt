-- The laws of rings and parcels: the tests, what is held, the canonical ring, and what put, get and reset do to a good ring.
use Rattle.std.specs.Prelude.{◌≡◌, Bool, true, false, List, [], ◌++◌, ℕ, ◌+◌, ◌-◌, ◌≤◌, ◌<◌, take, drop, replicate, leb, ltb}
use Rattle.std.proofs.Math.Path.{refl, ap, sym}
use Rattle.std.proofs.Common.{◌∙◌, zero-add, arith, lt-ltb, le-ltb, le-leb, ltb-true, ltb-false, leb-true, length-append, length-drop, length-take-le, drop_at, get_or-append-add, get_or-take, get_or-drop}
use Rattle.std.proofs.Math.Bool.{cond}
use Rattle.std.proofs.Math.ListN.{length, get_or, get_or-append, get_or-eq_default}
use Rattle.std.proofs.lemmas.List.{length-replicate, get_or-replicate, replicate-append-replicate}
use Rattle.std.proofs.Math.Seq.{take-append_seam}
use Rattle.bay.specs.declared.Parcel.{Parcel}
use Rattle.bay.specs.declared.Ring.{Ring}
use Rattle.basics.specs.Tests.{test, holds, fails}
use Rattle.bay.specs.Round.{stretch, inside, outside, table, tabled, length_table, get_d_table, going_round, behind, lies, lies_in, lies_out, round_behind, behind_round, behind_kept, behind_left, round_below}
use Rattle.bay.specs.Bay.{Numbers, Good, moved, bytes_from, coming_byte, entered_byte, left_byte, in_range, put_fits, get_fits, put_of, get_of, reset_of, entered, left, filled, thrown_away, contents, laid_byte, laid, ring_of, zeros, empty_bay, empty_parcel, parcel_of}

-- ---- tests

-- a test has one answer
never : false ≡ true → ⊥
never e = let z : ◌≡◌ {A = ℕ} 0 1 = cc in omega arith

-- where both must hold and do, each does
both : (a b : Bool) → cond a b false ≡ true → (a ≡ true) × (b ≡ true)
both true b e = (refl, e)
both false b e = absurd (never e)

-- what does not hold fails
refused : (b : Bool) → (b ≡ true → ⊥) → b ≡ false
refused true h = absurd (h refl)
refused false h = refl

-- ---- the test of the numbers

-- it holds of a ring's numbers and of no others
pub in_range_true : (start size held : ℕ) → in_range start size held ≡ true → Numbers start size held
unfolding in_range
in_range_true start size held t =
    let u : (leb size 256 ≡ true) × (cond (ltb start size) (leb held size) false ≡ true) = both _ _ t in
    let v : (ltb start size ≡ true) × (leb held size ≡ true) = both _ _ u.1 in
    record { small = leb-true size 256 u.0; within = ltb-true start size v.0; most = leb-true held size v.1 }

-- and the other way
pub numbers_in_range : {start size held : ℕ} → Numbers start size held → in_range start size held ≡ true
unfolding in_range
numbers_in_range {start} {size} {held} n = simp (le-leb size 256 n.small, lt-ltb start size n.within, le-leb held size n.most)

-- what the test of a put says,
pub put_fits_true : (start size held from n : ℕ) → put_fits start size held from n ≡ true → (Numbers start size held) × (from + n ≤ 64) × (held + n ≤ size)
unfolding put_fits
put_fits_true start size held from n t =
    let u : (leb (from + n) 64 ≡ true) × (cond (leb (held + n) size) (in_range start size held) false ≡ true) = both _ _ t in
    let v : (leb (held + n) size ≡ true) × (in_range start size held ≡ true) = both _ _ u.1 in
    (in_range_true start size held v.1, leb-true (from + n) 64 u.0, leb-true (held + n) size v.0)

-- and the other way;
pub numbers_put_fits : {start size held : ℕ} (from n : ℕ) → Numbers start size held → from + n ≤ 64 → held + n ≤ size → put_fits start size held from n ≡ true
unfolding put_fits
numbers_put_fits {start} {size} {held} from n r p h = simp (numbers_in_range r, le-leb (from + n) 64 p, le-leb (held + n) size h)

-- and that of a get
pub get_fits_true : (start size held at n : ℕ) → get_fits start size held at n ≡ true → (Numbers start size held) × (at + n ≤ 64) × (n ≤ held)
unfolding get_fits
get_fits_true start size held at n t =
    let u : (leb (at + n) 64 ≡ true) × (cond (leb n held) (in_range start size held) false ≡ true) = both _ _ t in
    let v : (leb n held ≡ true) × (in_range start size held ≡ true) = both _ _ u.1 in
    (in_range_true start size held v.1, leb-true (at + n) 64 u.0, leb-true n held v.0)

-- and the other way
pub numbers_get_fits : {start size held : ℕ} (at n : ℕ) → Numbers start size held → at + n ≤ 64 → n ≤ held → get_fits start size held at n ≡ true
unfolding get_fits
numbers_get_fits {start} {size} {held} at n r p h = simp (numbers_in_range r, le-leb (at + n) 64 p, le-leb n held h)

-- ---- put, get and reset, by their tests

module _ (r : Ring) (p : Parcel) (from n : ℕ) where
  -- numbers that fit: the bytes enter
  pub put_done : put_fits r.start r.size r.held from n ≡ true → put_of r p from n ≡ entered r p from n
  unfolding put_of
  put_done t = rw t

  -- others: the ring stays
  pub put_refused : put_fits r.start r.size r.held from n ≡ false → put_of r p from n ≡ r
  unfolding put_of
  put_refused t = rw t

  -- numbers that fit: the bytes leave into the parcel
  pub get_done : get_fits r.start r.size r.held from n ≡ true → get_of r p from n ≡ moved (left r n) (filled p from (contents r) n)
  unfolding get_of
  get_done t = rw t

  -- others: both stay
  pub get_refused : get_fits r.start r.size r.held from n ≡ false → get_of r p from n ≡ moved r p
  unfolding get_of
  get_refused t = rw t

  -- numbers that do not fit leave everything as it is
  pub put_unfit : (Numbers r.start r.size r.held → from + n ≤ 64 → r.held + n ≤ r.size → ⊥) → put_of r p from n ≡ r
  put_unfit h = put_refused (refused _ (λ t. h (fit t).0 (fit t).1 (fit t).2))
    where
      fit : put_fits r.start r.size r.held from n ≡ true → (Numbers r.start r.size r.held) × (from + n ≤ 64) × (r.held + n ≤ r.size)
      fit = put_fits_true r.start r.size r.held from n

  pub get_unfit : (Numbers r.start r.size r.held → from + n ≤ 64 → n ≤ r.held → ⊥) → get_of r p from n ≡ moved r p
  get_unfit h = get_refused (refused _ (λ t. h (fit t).0 (fit t).1 (fit t).2))
    where
      fit : get_fits r.start r.size r.held from n ≡ true → (Numbers r.start r.size r.held) × (from + n ≤ 64) × (n ≤ r.held)
      fit = get_fits_true r.start r.size r.held from n

-- ---- the bytes after a put and after a get, by where they lie

module _ (r : Ring) (p : Parcel) (from n k : ℕ) where
  -- a byte that a put brings
  pub entered_in : lies r.start r.size r.held (r.held + n) k ≡ true → entered_byte r p from n k ≡ get_or p.bytes (from + (behind r.start r.size k - r.held)) 0
  unfolding entered_byte coming_byte
  entered_in t = ap (λ (b : Bool). cond b (coming_byte r p from k) (get_or r.bytes k 0)) t

  -- and any other
  pub entered_out : lies r.start r.size r.held (r.held + n) k ≡ false → entered_byte r p from n k ≡ get_or r.bytes k 0
  unfolding entered_byte
  entered_out t = ap (λ (b : Bool). cond b (coming_byte r p from k) (get_or r.bytes k 0)) t

module _ (r : Ring) (n k : ℕ) where
  -- a byte that a get takes
  pub left_in : lies r.start r.size 0 n k ≡ true → left_byte r n k ≡ 0
  unfolding left_byte
  left_in t = rw t

  -- and any other
  pub left_out : lies r.start r.size 0 n k ≡ false → left_byte r n k ≡ get_or r.bytes k 0
  unfolding left_byte
  left_out t = rw t

-- ---- reset by its test, and what is held

module _ (r : Ring) where
  -- a ring's numbers: what is held is thrown away
  pub reset_done : in_range r.start r.size r.held ≡ true → reset_of r ≡ thrown_away r
  unfolding reset_of
  reset_done t = rw t

  -- others: the ring stays
  pub reset_refused : in_range r.start r.size r.held ≡ false → reset_of r ≡ r
  unfolding reset_of
  reset_refused t = rw t

  -- as many bytes are held as the ring says, the i-th of them i behind the start

  pub length_contents : length (contents r) ≡ r.held
  unfolding contents
  length_contents = length_table r.held _

  pub get_d_contents : (i : ℕ) → i < r.held → get_or (contents r) i 0 ≡ get_or r.bytes (going_round r.size (r.start + i)) 0
  unfolding contents
  get_d_contents i h = get_d_table r.held _ i h

-- ---- the canonical ring

-- a byte of the circle is what lies so far behind the start
pub laid_inside : (start size : ℕ) (c : List ℕ) (k : ℕ) → k < size → laid_byte start size c k ≡ get_or c (behind start size k) 0
unfolding laid_byte
laid_inside start size c k h = rw (lt-ltb k size h)

-- the bay's other bytes are zero
pub laid_outside : (start size : ℕ) (c : List ℕ) (k : ℕ) → size ≤ k → laid_byte start size c k ≡ 0
unfolding laid_byte
laid_outside start size c k h = rw (le-ltb k size h)

-- a bay has 256 bytes
pub laid_long : (start size : ℕ) (c : List ℕ) → length (laid start size c) ≡ 256
unfolding laid
laid_long start size c = length_table 256 (laid_byte start size c)

-- a bay of 256 bytes is so laid if each of its bytes is
pub laid_by : (start size : ℕ) (c l : List ℕ) → length l ≡ 256 → ((k : ℕ) → k < 256 → k < size → get_or l k 0 ≡ get_or c (behind start size k) 0) → ((k : ℕ) → k < 256 → size ≤ k → get_or l k 0 ≡ 0) → l ≡ laid start size c
unfolding laid
laid_by start size c l h inner outer =
    tabled 256 (laid_byte start size c) l h
    (λ k y. elim (test (ltb k size)) [
      | holds t ↦ inner k y (ltb-true k size t) ∙ sym (laid_inside start size c k (ltb-true k size t))
      | fails t ↦ outer k y (ltb-false k size t) ∙ sym (laid_outside start size c k (ltb-false k size t))
    ])

-- ---- zero bytes

-- how long they are, what they are, and what is left of them
pub length_zeros : (n : ℕ) → length (zeros n) ≡ n
unfolding zeros
length_zeros n = length-replicate n 0

pub get_d_zeros : (n i : ℕ) → i < n → get_or (zeros n) i 0 ≡ 0
unfolding zeros
get_d_zeros n i h = get_or-replicate n i 0 0 h

pub drop_zeros : (n m : ℕ) → n ≤ m → drop n (zeros m) ≡ zeros (m - n)
unfolding zeros
drop_zeros n m h =
    let e : m ≡ n + (m - n) = omega arith in
    ap (λ (k : ℕ). drop n (replicate k 0)) e ∙ ap (drop n) (sym (replicate-append-replicate n (m - n) 0))
    ∙ drop_at (replicate n 0) (replicate (m - n) 0) n (length-replicate n 0)

-- a ring that holds nothing is all zero
pub nothing_laid : (start size : ℕ) → zeros 256 ≡ laid start size []
nothing_laid start size = laid_by start size [] (zeros 256) (length_zeros 256) (λ k y u. get_d_zeros 256 k y) (λ k y u. get_d_zeros 256 k y)

-- and its record written out
pub ring_of_nothing : (start size : ℕ) → record { bytes = zeros 256; start = start; size = size; held = 0 } ≡ ring_of start size []
unfolding ring_of
ring_of_nothing start size = rw (nothing_laid start size)

-- so is the empty bay
pub empty_bay_ring_of : empty_bay ≡ ring_of 0 0 []
unfolding empty_bay
empty_bay_ring_of = ring_of_nothing 0 0

-- ---- a good ring is the canonical one of its start, size and contents

module _ {r : Ring} (good : Good r) where
  -- a held byte, by how far it lies behind the start
  held_byte : (k : ℕ) → k < r.size → behind r.start r.size k < r.held → get_or r.bytes k 0 ≡ get_or (contents r) (behind r.start r.size k) 0
  held_byte k u v =
      sym (get_d_contents r (behind r.start r.size k) v ∙ ap (λ (j : ℕ). get_or r.bytes j 0) (round_behind r.start r.size good.numbers.within k u))

  -- any byte of the circle: past the held ones both are 0
  circle_byte : (k : ℕ) → k < r.size → get_or r.bytes k 0 ≡ get_or (contents r) (behind r.start r.size k) 0
  circle_byte k u =
      elim (test (ltb (behind r.start r.size k) r.held)) [
        | holds t ↦ held_byte k u (ltb-true (behind r.start r.size k) r.held t)
        | fails t ↦ good.clear k (lies_out r.start r.size 0 r.held k (λ x y z. omega (arith, ltb-false (behind r.start r.size k) r.held t)))
            ∙ sym (get_or-eq_default (contents r) 0 (rw length_contents (ltb-false (behind r.start r.size k) r.held t)))
      ]

  -- its bytes
  pub canonical_bytes : r.bytes ≡ laid r.start r.size (contents r)
  canonical_bytes =
      laid_by r.start r.size (contents r) r.bytes good.room (λ k y. circle_byte k)
      (λ k y u. good.clear k (lies_out r.start r.size 0 r.held k (λ v w x. omega arith)))

  -- and the whole ring
  pub canonical : r ≡ ring_of r.start r.size (contents r)
  unfolding ring_of
  canonical = rw (length_contents r, ← canonical_bytes)

-- two good rings of the same start, size and contents are the same ring
pub same_ring : {r q : Ring} → Good r → Good q → r.start ≡ q.start → r.size ≡ q.size → contents r ≡ contents q → r ≡ q
same_ring r q s z c = canonical r ∙ rw (c, s, z) (sym (canonical q))

module _ (start size : ℕ) (c : List ℕ) (numbers : Numbers start size (length c)) where
  -- the byte at k
  laid_at : (k : ℕ) → k < 256 → get_or (laid start size c) k 0 ≡ laid_byte start size c k
  unfolding laid
  laid_at k h = get_d_table 256 (laid_byte start size c) k h

  -- the canonical ring holds what it was made of,
  pub contents_ring_of : contents (ring_of start size c) ≡ c
  unfolding contents ring_of
  contents_ring_of =
      sym (tabled (length c) (λ i. get_or (laid start size c) (going_round size (start + i)) 0) c refl
      (λ i y. sym (laid_at (going_round size (start + i)) (omega (arith, round_below start size numbers.within i (omega arith)))
      ∙ laid_inside start size c (going_round size (start + i)) (round_below start size numbers.within i (omega arith))
      ∙ ap (λ (j : ℕ). get_or c j 0) (behind_round start size numbers.within i (omega arith)))))

  -- zero where nothing is held
  laid_clear : (k : ℕ) → lies start size 0 (length c) k ≡ false → get_or (laid start size c) k 0 ≡ 0
  laid_clear k t =
      elim (test (ltb k 256)) [
        | fails u ↦ get_or-eq_default (laid start size c) 0 (rw (laid_long start size c) (ltb-false k 256 u))
        | holds u ↦ laid_at k (ltb-true k 256 u) ∙ elim (test (ltb k size)) [
          | fails v ↦ laid_outside start size c k (ltb-false k size v)
          | holds v ↦ laid_inside start size c k (ltb-true k size v) ∙ elim (test (ltb (behind start size k) (length c))) [
            | fails w ↦ get_or-eq_default c 0 (ltb-false (behind start size k) (length c) w)
            | holds w ↦ absurd (never (sym t ∙ lies_in start size 0 (length c) k (ltb-true k size v) (omega arith) (ltb-true (behind start size k) (length c) w)))
          ]
        ]
      ]

  -- and is good
  pub ring_of_good : Good (ring_of start size c)
  unfolding ring_of
  ring_of_good = record { room = laid_long start size c; numbers = numbers; clear = laid_clear }

-- ---- parcels

module _ (b : List ℕ) where
  -- a parcel has 64 bytes
  pub length_parcel_of : length b ≤ 64 → length (parcel_of b).bytes ≡ 64
  unfolding parcel_of
  length_parcel_of h = rw (length-append, length_zeros) (omega arith)

  -- the bytes that the parcel holds
  pub bytes_from_parcel_of : bytes_from (parcel_of b) 0 (length b) ≡ b
  unfolding parcel_of
  bytes_from_parcel_of = take-append_seam b (zeros (64 - length b))

-- the empty one too
pub length_empty_parcel : length empty_parcel.bytes ≡ 64
unfolding empty_parcel
length_empty_parcel = length_zeros 64

-- the first n bytes of c, put into an empty parcel, are the parcel of these bytes
pub filled_empty : (c : List ℕ) (n : ℕ) → n ≤ 64 → n ≤ length c → filled empty_parcel 0 c n ≡ parcel_of (take n c)
unfolding filled empty_parcel parcel_of
filled_empty c n h k = rw (length-take-le n c k, zero-add, drop_zeros n 64 h)

-- ---- put, on a good ring with numbers that fit

module _ {r : Ring} (good : Good r) (p : Parcel) (from n : ℕ) (whole : length p.bytes ≡ 64) (part : from + n ≤ 64) (room : r.held + n ≤ r.size) where
  -- how many come, and how many are held then
  length_part : length (bytes_from p from n) ≡ n
  length_part = length-take-le n (drop from p.bytes) (rw (length-drop, whole) (omega arith))

  length_both : length (contents r ++ bytes_from p from n) ≡ r.held + n
  length_both = rw (length-append, length_contents, length_part)

  -- a byte that came, by how far it lies behind the start
  came : (b : ℕ) → r.held ≤ b → b < r.held + n → get_or p.bytes (from + (b - r.held)) 0 ≡ get_or (contents r ++ bytes_from p from n) b 0
  came b u v =
      let e : b ≡ length (contents r) + (b - r.held) = omega (arith, length_contents r) in
      sym (ap (λ (j : ℕ). get_or (contents r ++ bytes_from p from n) j 0) e
      ∙ get_or-append-add (contents r) (bytes_from p from n) (b - r.held) 0
      ∙ get_or-take n (drop from p.bytes) (b - r.held) 0 (omega arith)
      ∙ get_or-drop from p.bytes (b - r.held) 0)

  -- a byte that was there
  stayed : (k : ℕ) → k < r.size → (r.held ≤ behind r.start r.size k → behind r.start r.size k < r.held + n → ⊥)
      → get_or r.bytes k 0 ≡ get_or (contents r ++ bytes_from p from n) (behind r.start r.size k) 0
  stayed k u h =
      elim (test (ltb (behind r.start r.size k) r.held)) [
        | holds t ↦ circle_byte good k u ∙ sym (get_or-append (contents r) (bytes_from p from n) 0 (behind r.start r.size k) (rw length_contents (ltb-true _ _ t)))
        | fails t ↦ elim (test (ltb (behind r.start r.size k) (r.held + n))) [
          | holds l ↦ absurd (h (ltb-false _ _ t) (ltb-true _ _ l))
          | fails l ↦ circle_byte good k u ∙ get_or-eq_default (contents r) 0 (rw length_contents (ltb-false _ _ t))
              ∙ sym (get_or-eq_default (contents r ++ bytes_from p from n) 0 (rw length_both (ltb-false _ _ l)))
        ]
      ]

  -- each byte of the circle
  entered_byte_lem : (k : ℕ) → k < 256 → k < r.size → get_or (table 256 (entered_byte r p from n)) k 0 ≡ get_or (contents r ++ bytes_from p from n) (behind r.start r.size k) 0
  entered_byte_lem k y u =
      get_d_table 256 (entered_byte r p from n) k y
      ∙ elim (stretch r.start r.size r.held (r.held + n) k) [
        | inside x v w t ↦ entered_in r p from n k t ∙ came (behind r.start r.size k) v w
        | outside h t ↦ entered_out r p from n k t ∙ stayed k u (h u)
      ]

  -- and the ring
  entered_ring : entered r p from n ≡ ring_of r.start r.size (contents r ++ bytes_from p from n)
  unfolding entered ring_of
  entered_ring =
      rw (
        length_both,
        ← laid_by r.start r.size (contents r ++ bytes_from p from n) (table 256 (entered_byte r p from n)) (length_table 256 (entered_byte r p from n)) entered_byte_lem
            (λ k y u. get_d_table 256 (entered_byte r p from n) k y ∙ entered_out r p from n k (lies_out r.start r.size r.held (r.held + n) k (λ v w x. omega arith))
            ∙ good.clear k (lies_out r.start r.size 0 r.held k (λ v w x. omega arith))),
      )

  -- it is the ring of the same start whose contents are those of before and the parcel's bytes behind them
  pub put_ring : put_of r p from n ≡ ring_of r.start r.size (contents r ++ bytes_from p from n)
  put_ring = put_done r p from n (numbers_put_fits from n good.numbers part room) ∙ entered_ring

  -- its numbers are a ring's,
  put_numbers : Numbers r.start r.size (length (contents r ++ bytes_from p from n))
  put_numbers = rw length_both (record { small = good.numbers.small; within = good.numbers.within; most = room })

  -- so it holds that,
  pub put_contents : contents (put_of r p from n) ≡ contents r ++ bytes_from p from n
  put_contents = rw put_ring (contents_ring_of r.start r.size (contents r ++ bytes_from p from n) put_numbers)

  -- and is good again
  pub put_good : Good (put_of r p from n)
  put_good = rw put_ring (ring_of_good r.start r.size (contents r ++ bytes_from p from n) put_numbers)

-- a whole parcel goes in
pub put_parcel_of : {r : Ring} → Good r → (b : List ℕ) → length b ≤ 64 → r.held + length b ≤ r.size → put_of r (parcel_of b) 0 (length b) ≡ ring_of r.start r.size (contents r ++ b)
put_parcel_of {r} good b h room =
    put_ring good (parcel_of b) 0 (length b) (length_parcel_of b h) (omega arith) room
    ∙ ap (λ (c : List ℕ). ring_of r.start r.size (contents r ++ c)) (bytes_from_parcel_of b)

-- ---- get, on a good ring with numbers that fit

module _ {r : Ring} (good : Good r) (n : ℕ) (some : n ≤ r.held) where
  -- how many stay
  length_rest : length (drop n (contents r)) ≡ r.held - n
  length_rest = rw (length-drop, length_contents)

  -- each byte of the circle, seen from the new start
  left_byte_lem : (k : ℕ) → k < 256 → k < r.size → get_or (table 256 (left_byte r n)) k 0 ≡ get_or (drop n (contents r)) (behind (going_round r.size (r.start + n)) r.size k) 0
  left_byte_lem k y u =
      get_d_table 256 (left_byte r n) k y
      ∙ elim (stretch r.start r.size 0 n k) [
        | inside x v w t ↦ left_in r n k t ∙ sym (get_or-eq_default (drop n (contents r)) 0
            (omega (arith, length_rest, good.numbers.most, behind_left r.start r.size good.numbers.within n k (omega (arith, good.numbers.most)) u w)))
        | outside h t ↦ elim (test (ltb (behind r.start r.size k) n)) [
          | holds l ↦ absurd (h u (omega arith) (ltb-true _ _ l))
          | fails l ↦ left_out r n k t ∙ circle_byte good k u
              ∙ sym (get_or-drop n (contents r) (behind (going_round r.size (r.start + n)) r.size k) 0
              ∙ ap (λ (j : ℕ). get_or (contents r) j 0) (omega (arith, ltb-false (behind r.start r.size k) n l, behind_kept r.start r.size good.numbers.within n k (omega (arith, good.numbers.most)) u (ltb-false _ _ l))))
        ]
      ]

  -- and the ring
  left_ring : left r n ≡ ring_of (going_round r.size (r.start + n)) r.size (drop n (contents r))
  unfolding left ring_of
  left_ring =
      rw (
        length_rest,
        ← laid_by (going_round r.size (r.start + n)) r.size (drop n (contents r)) (table 256 (left_byte r n)) (length_table 256 (left_byte r n)) left_byte_lem
            (λ k y u. get_d_table 256 (left_byte r n) k y ∙ left_out r n k (lies_out r.start r.size 0 n k (λ v w x. omega arith))
            ∙ good.clear k (lies_out r.start r.size 0 r.held k (λ v w x. omega arith))),
      )

  -- its numbers are a ring's
  get_numbers : Numbers (going_round r.size (r.start + n)) r.size (length (drop n (contents r)))
  get_numbers =
      rw length_rest
      (record { small = good.numbers.small; within = round_below r.start r.size good.numbers.within n (omega (arith, good.numbers.most)); most = omega (arith, good.numbers.most) })

  module _ (p : Parcel) (at : ℕ) (part : at + n ≤ 64) where
    -- the numbers fit
    gotten : get_of r p at n ≡ moved (left r n) (filled p at (contents r) n)
    gotten = get_done r p at n (numbers_get_fits at n good.numbers part some)

    -- the ring starts n bytes on and holds the rest
    pub get_ring : (get_of r p at n).ring ≡ ring_of (going_round r.size (r.start + n)) r.size (drop n (contents r))
    get_ring = rw gotten left_ring

    -- so it holds them,
    pub get_contents : contents (get_of r p at n).ring ≡ drop n (contents r)
    get_contents = rw get_ring (contents_ring_of (going_round r.size (r.start + n)) r.size (drop n (contents r)) get_numbers)

    -- and is good again
    pub get_good : Good (get_of r p at n).ring
    get_good = rw get_ring (ring_of_good (going_round r.size (r.start + n)) r.size (drop n (contents r)) get_numbers)

    -- the parcel holds the first n bytes from its byte `at` on, and keeps its others
    pub get_parcel : (get_of r p at n).parcel ≡ filled p at (contents r) n
    get_parcel = rw gotten

  -- out of an empty parcel comes the parcel of the first n bytes
  pub get_parcel_of : n ≤ 64 → (get_of r empty_parcel 0 n).parcel ≡ parcel_of (take n (contents r))
  get_parcel_of h = get_parcel empty_parcel 0 (omega arith) ∙ filled_empty (contents r) n h (rw length_contents some)

-- ---- reset

module _ (r : Ring) (numbers : Numbers r.start r.size r.held) where
  -- the ring holds nothing and starts behind what was held
  pub reset_ring_lem : reset_of r ≡ ring_of (going_round r.size (r.start + r.held)) r.size []
  unfolding thrown_away
  reset_ring_lem = reset_done r (numbers_in_range numbers) ∙ ring_of_nothing (going_round r.size (r.start + r.held)) r.size

  -- its numbers are a ring's,
  reset_numbers : Numbers (going_round r.size (r.start + r.held)) r.size 0
  reset_numbers = record { small = numbers.small; within = round_below r.start r.size numbers.within r.held numbers.most; most = omega arith }

  -- so it holds nothing,
  pub reset_contents : contents (reset_of r) ≡ []
  reset_contents = rw reset_ring_lem (contents_ring_of (going_round r.size (r.start + r.held)) r.size [] reset_numbers)

  -- and is good again
  pub reset_good : Good (reset_of r)
  reset_good = rw reset_ring_lem (ring_of_good (going_round r.size (r.start + r.held)) r.size [] reset_numbers)
