-- What the loops of put and get do: one byte more enters, one byte more leaves.
use mathlib.Core.Path.{◌≡◌, refl, ap, sym, ◌∙◌}
use mathlib.Core.Bool.{Bool, cond}
use mathlib.Core.List.{List}
use Prim.Native.Nat.{ℕ, ◌+◌, ◌-◌, ◌<◌}
use native.Mathlib.Numerals.{add-one}
use native.Mathlib.Omega.{arith}
use lib.ListN.{length, get_or, set}
use lib.Seq.{paste, paste-suc}
use Rattle.bay.specs.declared.Parcel.{Parcel}
use Rattle.bay.specs.declared.Ring.{Ring}
use Rattle.std.specs.Prelude.{Some}
use Rattle.bay.specs.Round.{table, tabled, get_d_table, set_table, going_round, lies_none, lies_next, lies_other, lies_not_yet, round_below, behind_round}
use Rattle.bay.specs.Bay.{moved, filled, Numbers, contents, coming_byte, entered_byte, entered, left_byte, left, with_bytes, with_held}
use Rattle.bay.specs.Laws.{entered_in, entered_out, left_in, left_out, length_contents, get_d_contents}

-- ---- one byte more enters

module _ (r : Ring) (p : Parcel) (from : ℕ) where
  -- before put's loop
  pub entered_none : length r.bytes ≡ 256 → r.bytes ≡ table 256 (entered_byte r p from 0)
  entered_none h =
      tabled 256 (entered_byte r p from 0) r.bytes h (λ k y. sym (entered_out r p from 0 k (lies_none r.start r.size r.held (r.held + 0) k (omega arith))))

  module _ (n : Numbers r.start r.size r.held) (i : ℕ) (fits : r.held + i < r.size) where
    -- the byte that enters next
    next_entered : entered_byte r p from (i + 1) (going_round r.size (r.start + (r.held + i))) ≡ get_or p.bytes (from + i) 0
    next_entered =
        entered_in r p from (i + 1) (going_round r.size (r.start + (r.held + i)))
        (lies_next r.start r.size n.within r.held (r.held + i) (r.held + (i + 1)) (omega arith) fits (omega arith))
        ∙ ap (λ (j : ℕ). get_or p.bytes (from + j) 0) (omega (arith, behind_round r.start r.size n.within (r.held + i) fits))

    -- the others stay
    others_entered : (k : ℕ) → (k ≡ going_round r.size (r.start + (r.held + i)) → ⊥) → entered_byte r p from i k ≡ entered_byte r p from (i + 1) k
    unfolding entered_byte
    others_entered k ne =
        ap (λ (b : Bool). cond b (coming_byte r p from k) (get_or r.bytes k 0))
        (lies_other r.start r.size n.within r.held (r.held + i) (r.held + (i + 1)) (omega arith) fits k ne)

    -- so one store is one byte more
    entered_more : set (table 256 (entered_byte r p from i)) (going_round r.size (r.start + (r.held + i))) (get_or p.bytes (from + i) 0) ≡ table 256 (entered_byte r p from (i + 1))
    entered_more =
        set_table 256 (entered_byte r p from i) (entered_byte r p from (i + 1)) (going_round r.size (r.start + (r.held + i))) (get_or p.bytes (from + i) 0)
        (omega (arith, round_below r.start r.size n.within (r.held + i) (omega arith)))
        next_entered
        others_entered

    -- a turn of put's loop
    pub entered_turn : (next : Ring) (at : ℕ) → next ≡ with_bytes r (table 256 (entered_byte r p from i)) → at ≡ going_round r.size (r.start + (r.held + i)) → with_bytes next (set next.bytes at (get_or p.bytes (from + i) 0)) ≡ with_bytes r (table 256 (entered_byte r p from (i + 1)))
    entered_turn next at e a = rw (e, a) (ap (with_bytes r) entered_more)

  -- after the loop
  pub entered_all : (n i : ℕ) (next : Ring) → i ≡ n → next ≡ with_bytes r (table 256 (entered_byte r p from i)) → with_held next (r.held + n) ≡ entered r p from n
  unfolding entered
  entered_all n i next e f = rw (f, e)

-- ---- one byte more leaves

module _ (r : Ring) where
  -- before get's loop
  pub left_none : length r.bytes ≡ 256 → r.bytes ≡ table 256 (left_byte r 0)
  left_none h = tabled 256 (left_byte r 0) r.bytes h (λ k y. sym (left_out r 0 k (lies_none r.start r.size 0 0 k (omega arith))))

  module _ (n : Numbers r.start r.size r.held) (i : ℕ) (fits : i < r.size) where
    -- the next byte to leave is still what it was
    left_next : left_byte r i (going_round r.size (r.start + i)) ≡ get_or r.bytes (going_round r.size (r.start + i)) 0
    left_next = left_out r i (going_round r.size (r.start + i)) (lies_not_yet r.start r.size n.within 0 i (i + 1) refl fits)

    -- and then zero
    next_left : left_byte r (i + 1) (going_round r.size (r.start + i)) ≡ 0
    next_left = left_in r (i + 1) (going_round r.size (r.start + i)) (lies_next r.start r.size n.within 0 i (i + 1) refl fits (omega arith))

    -- the others stay
    others_left : (k : ℕ) → (k ≡ going_round r.size (r.start + i) → ⊥) → left_byte r i k ≡ left_byte r (i + 1) k
    unfolding left_byte
    others_left k ne = rw (lies_other r.start r.size n.within 0 i (i + 1) refl fits k ne)

    -- so one store is one byte less
    left_more : set (table 256 (left_byte r i)) (going_round r.size (r.start + i)) 0 ≡ table 256 (left_byte r (i + 1))
    left_more =
        set_table 256 (left_byte r i) (left_byte r (i + 1)) (going_round r.size (r.start + i)) 0
        (omega (arith, round_below r.start r.size n.within i (omega arith)))
        next_left
        others_left

    -- a turn of get's loop: the ring,
    pub left_turn : (next : Ring) (at : ℕ) → next ≡ with_bytes r (table 256 (left_byte r i)) → at ≡ going_round r.size (r.start + i) → with_bytes next (set next.bytes at 0) ≡ with_bytes r (table 256 (left_byte r (i + 1)))
    left_turn next at e a = rw (e, a) (ap (with_bytes r) left_more)

    -- and the parcel's bytes
    pub filled_turn : (next : Ring) (at to : ℕ) (b l : List ℕ) → i < r.held → to + i < length b → next ≡ with_bytes r (table 256 (left_byte r i)) → at ≡ going_round r.size (r.start + i) → l ≡ paste b to (contents r) i → set l (to + i) (get_or next.bytes at 0) ≡ paste b to (contents r) (i + 1)
    filled_turn next at to b l h w e a f =
        let same : get_or next.bytes at 0 ≡ get_or (contents r) i 0 =
        rw (e, a) (get_d_table 256 (left_byte r i) _ (omega (arith, round_below r.start r.size n.within i (omega arith))) ∙ left_next ∙ sym (get_d_contents r i h)) in
        rw (f, same, add-one) (paste-suc b to (contents r) i 0 w (rw length_contents h))

  -- after the loop
  pub left_all : (p : Parcel) (to n i at : ℕ) (next : Ring) (l : List ℕ) → i ≡ n → at ≡ going_round r.size (r.start + n) → next ≡ with_bytes r (table 256 (left_byte r i)) → l ≡ paste p.bytes to (contents r) i → moved (record { bytes = next.bytes; start = at; size = next.size; held = r.held - n }) (record { bytes = l; holds = Some (to + n) }) ≡ moved (left r n) (filled p to (contents r) n)
  unfolding left filled
  left_all p to n i at next l e a f g = rw (f, g, e, a)
