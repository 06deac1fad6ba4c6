-- What the code's chains and loops see: each of a list, each number, how often one comes, who heads a line.
use Rattle.std.specs.Prelude.{ℕ, zero, suc, ◌+◌, ◌-◌, ◌≤◌, ◌<◌, ◌≡◌, refl, Bool, true, false, cond, not, ◌&&◌, List, [], ◌∷◌, map, eqb, leb, length, get_or, set, drop, take, replicate}
use Rattle.std.proofs.Common.{sym, ap, ◌∙◌, true≢false, arith, add-one, take-suc, length-take-le, length-drop, get_or-drop}
use Rattle.std.proofs.lemmas.List.{length-replicate, get_or-replicate, map-append, reverse-append}
use Rattle.std.proofs.Common.{Bor, ◌++◌, reverse}
use Rattle.std.proofs.Math.Bool.{and-true, and_assoc}
use Rattle.std.proofs.Math.ListN.{get_or-map}
use Rattle.std.proofs.lemmas.Slice.{between_is, between_to_end}
use Rattle.std.proofs.lemmas.Slice.Zip.{length-zip, get_or-zip}
use Rattle.std.specs.List.{between, fold, list_all, prefix_len, range_with_len, zip}
use Rattle.std.specs.Iterator.{AlwaysYields}
use Rattle.std.specs.Range.{range_inclusive_len}
use Rattle.std.specs.declared.ops.RangeInclusive.{RangeInclusive}
use Rattle.std.proofs.iter.runs.Sources.{nat_range_inclusive_steps}
use Rattle.std.proofs.lemmas.Iterator.{YieldsList}
use borrow.Author.Tests.{eq-eqb, ne_eqb, eqb-true, le-leb, lt-leb}
use Rattle.basics.specs.Tests.{test, holds, fails}
use Rattle.arrivals.specs.Order.{one, count, has, keep, first, zeros_first}
use Rattle.arrivals.specs.Listed.{one_same, count_append}
use Rattle.arrivals.specs.Views.{keep_none}
use Rattle.bay.specs.Round.{table, tabled, get_d_table, length_table, set_table}
use Rattle.bay.specs.declared.Ring as bays
use Rattle.bay.specs.Bay.{empty_bay}
use Rattle.tables.specs.declared.Tables.{Tables}
use Rattle.tables.specs.declared.Process.{Process}
use Rattle.tables.specs.declared.Structure.{Structure}
use Rattle.tables.specs.declared.Place.{Place}
use Rattle.tables.specs.declared.Place.TheVariants.{Getting, Putting}
use Rattle.tables.specs.declared.Kind.{Kind}
use Rattle.tables.specs.declared.Kind.TheVariants.{Ring}
use Rattle.tables.specs.Numbers.{code, spot}
use Rattle.tables.specs.Laws.{numbered_at}
use Rattle.tables.specs.Access.{numbered, nobody, process_of, ring_in}
use Rattle.tables.specs.Lines.{is_number, urgency, line, stands}
use Rattle.rings.specs.Serving.{asked, lengths_of, length_for, getter_goes, putter_goes, getter_can, putter_can}
use Rattle.rings.specs.Changes.{length_of}
use Rattle.structures.specs.Structures.{is_in}
use Rattle.sound.specs.Sound.{bay_of, users, place_at, kind_at, ring_at, parcel_at}
use Rattle.sound.specs.declared.Heads.{Heads}
use Rattle.sound.specs.Deciding.{and_first, and_second}
use Rattle.sound.specs.Tested.{every, bay_tested, all_zero, clear_tested, all_within, order_tested, off_rings, listings_of, heads_of, stands_in, heads_wait, neither_goes, still_tested, stillness_tested, rank_tested, urgency_tested, placed_tested, kept_tested, process_tested, listed_tested, runs_tested, fits_tested}

-- ---- bytes

folded : (z : Bool) (l : List ℕ) → fold (λ z x. z && eqb x 0) z l ≡ (z && all_zero l)
folded z [] = sym (and-true z)
folded z (x ∷ l) = folded (z && eqb x 0) l ∙ and_assoc z (eqb x 0) (all_zero l)

pub zero_folded : (l : List ℕ) → fold (λ z x. z && eqb x 0) true l ≡ all_zero l
zero_folded l = folded true l

-- what a ring does not hold, where the held bytes end before the circle does, and where they go round
module _ (start size held : ℕ) (bytes : List ℕ) {a b : Bool} (long : length bytes ≡ 256) where
  pub rest_straight : start + held ≤ size → a ≡ true → a ≡ all_zero (take start bytes) → b ≡ all_zero (between (start + held) 256 bytes) → b ≡ clear_tested start size held bytes
  unfolding clear_tested
  rest_straight h t e f = f ∙ rw (le-leb (start + held) size h, ← e, t, between_to_end bytes (start + held) 256 (omega arith))

  pub rest_round : size < start + held → a ≡ true → a ≡ all_zero (between (start + held - size) start bytes) → b ≡ all_zero (between size 256 bytes) → b ≡ clear_tested start size held bytes
  unfolding clear_tested
  rest_round h t e f = f ∙ rw (lt-leb (start + held) size h, ← between_is bytes (start + held - size) start, ← e, t, between_to_end bytes size 256 (omega arith))

-- ---- the order

-- numbers of processes alone: there is no zero
in_order : (l : List ℕ) → list_all is_number l ≡ (not (has 0 l) && all_within 32 l)
unfolding is_number
in_order [] = refl
in_order (x ∷ l) =
    elim (test (eqb x 0)) [
      | holds e ↦ rw e
      | fails e ↦ rw (e, in_order l) (swap (leb x 32) (not (has 0 l)) (all_within 32 l))
    ]
  where
    swap : (a b c : Bool) → (a && (b && c)) ≡ (b && (a && c))
    swap false false c = refl
    swap false true c = refl
    swap true b c = refl

pub ordered : (l : List ℕ) → list_all is_number (drop (prefix_len (λ x. eqb x 0) l) l) ≡ order_tested l
unfolding order_tested zeros_first
ordered [] = refl
ordered (x ∷ l) =
    elim (test (eqb x 0)) [
      | holds e ↦ let more : 1 + prefix_len (λ y. eqb y 0) l ≡ suc (prefix_len (λ y. eqb y 0) l) = omega arith in rw (eqb-true x 0 e, more) (ordered l)
      | fails e ↦ rw e (in_order (x ∷ l) ∙ rw e)
    ]

-- ---- every number

pub every_none : (f : ℕ → Bool) → every 0 f ≡ true
unfolding every
every_none f = refl

every_from : (n : ℕ) (f : ℕ → Bool) → every (suc n) f ≡ (f 1 && every n (λ k. f (suc k)))
unfolding every
every_from zero f = sym (and-true (f 1))
every_from (suc n) f = ap (λ b. b && f (suc (suc n))) (every_from n f) ∙ and_assoc (f 1) (every n (λ k. f (suc k))) (f (suc (suc n)))

-- Tests that agree on 1 to n
pub every_same : (n : ℕ) (f g : ℕ → Bool) → ((p : ℕ) → 1 ≤ p → p ≤ n → f p ≡ g p) → every n f ≡ every n g
unfolding every
every_same zero f g h = refl
every_same (suc n) f g h = rw (every_same n f g (λ p u v. h p u (omega arith)), h (suc n) (omega arith) (omega arith))

-- Two tests at once
every_both : (n : ℕ) (f g : ℕ → Bool) → every n (λ p. f p && g p) ≡ (every n f && every n g)
unfolding every
every_both zero f g = refl
every_both (suc n) f g = rw (every_both n f g) (middle (every n f) (every n g) (f (suc n)) (g (suc n)))
  where
    middle : (a b c d : Bool) → ((a && b) && (c && d)) ≡ ((a && c) && (b && d))
    middle false b c d = refl
    middle true true c d = refl
    middle true false true d = refl
    middle true false false d = refl

-- Each number of 1..=n
counted_from : (f : ℕ → Bool) (n a : ℕ) → list_all f (range_with_len (suc a) n) ≡ every n (λ k. f (a + k))
counted_from f zero a = sym (every_none (λ k. f (a + k)))
counted_from f (suc n) a =
    let more : suc a + 1 ≡ suc (suc a) = omega arith in
    let here : f (suc a) ≡ f (a + 1) = ap f (omega arith) in
    rw (more, every_from n (λ k. f (a + k)), here, counted_from f n (suc a)) (ap (λ b. f (a + 1) && b) (every_same n _ _ (λ k u v. ap f (omega arith))))

pub every_number : (n : ℕ) (f g : ℕ → Bool) → ((p : ℕ) → 1 ≤ p → p ≤ n → f p ≡ g p) → list_all f (range_with_len 1 n) ≡ every n g
every_number n f g h = counted_from f n 0 ∙ every_same n _ g (λ p u v. ap f (omega arith) ∙ h p u v)

-- the numbers that 1..=n gives
abbrev left : RangeInclusive ℕ → ℕ
left s = range_inclusive_len (λ x y. y - x) s.start s.end s.exhausted

goes_on : (s : RangeInclusive ℕ) (b : Bool) → s.exhausted ≡ b → 1 ≤ left s → s.exhausted ≡ false
goes_on s false e h = e
goes_on s true e h = absurd (omega (arith, ap (range_inclusive_len (λ x y. y - x) s.start s.end) e))

inclusive : (n a : ℕ) (s : RangeInclusive ℕ) → left s ≡ n → (1 ≤ n → s.start ≡ a) → AlwaysYields nat_range_inclusive_steps (λ x. x) s (range_with_len a n)
inclusive zero a s e f = λ x j p. omega (arith, p.1.1)
inclusive (suc n) a s e f = (
  (λ j p. omega (arith, p.1.0)),
  λ x j p. (p.1.0 ∙ f (omega arith), inclusive n (a + 1) j (omega (arith, p.1.1)) (λ h. p.1.2 (goes_on j j.exhausted refl (omega (arith, p.1.1))) ∙ ap (λ k. k + 1) (f (omega arith)))),
)

pub each_number : {s : RangeInclusive ℕ} (n : ℕ) → s.start ≡ 1 → s.end ≡ n → s.exhausted ≡ false → YieldsList nat_range_inclusive_steps (λ x. x) s (range_with_len 1 n)
each_number {s} n a e f = record { runs = inclusive n 1 s (ap (range_inclusive_len (λ x y. y - x) s.start s.end) f ∙ omega arith) (λ h. a) }

-- Each entry of a list: the one with number k is the next one of a longer list
pub next_entry : {A : Type 0} (l : List A) (x d : A) (k : ℕ) → 1 ≤ k → numbered l k d ≡ numbered (x ∷ l) (suc k) d
unfolding numbered
next_entry l x d k h =
    let next : suc k - 1 ≡ suc (k - 1) = omega arith in
    rw (ne_eqb k 0 (λ z. omega arith), ne_eqb (suc k) 0 (λ z. omega arith), next)

by_number : {A : Type 0} (f : A → Bool) (d : A) (l : List A) → list_all f l ≡ every (length l) (λ k. f (numbered l k d))
unfolding numbered
by_number f d [] = sym (every_none _)
by_number f d (x ∷ l) =
    ap (λ b. f x && b) (by_number f d l ∙ every_same (length l) _ _ (λ k u v. ap f (next_entry l x d k u)))
    ∙ sym (every_from (length l) (λ k. f (numbered (x ∷ l) k d)))

pub every_entry : {A : Type 0} (f : A → Bool) (d : A) (l : List A) (n : ℕ) (g : ℕ → Bool) → length l ≡ n → ((p : ℕ) → 1 ≤ p → p ≤ n → f (numbered l p d) ≡ g p) → list_all f l ≡ every n g
every_entry f d l n g e h = rw (← e) (by_number f d l) ∙ every_same n _ g h

-- ---- who is ready

rank_at : (ps : List Process) (p : ℕ) → 1 ≤ p → (numbered ps p nobody).priority + 1 ≡ urgency ps p
unfolding urgency
rank_at ps p u = rw (ne_eqb p 0 (λ z. omega arith), add-one)

pub urgent_told : (running : ℕ) (ps : List Process) {top : ℕ} → length ps ≡ 32 → top ≡ urgency ps running → list_all (λ q. rank_tested top (q.priority + 1) q.place) ps ≡ urgency_tested running ps
unfolding urgency_tested
urgent_told running ps {top} long e = every_entry _ nobody ps 32 _ long (λ p u v. rw (e, rank_at ps p u))

-- ---- how often a number comes

-- a table of zeros
blank : (f : ℕ → ℕ) → ((k : ℕ) → f k ≡ 0) → replicate {A = ℕ} 256 0 ≡ table 256 f
blank f h = tabled 256 f (replicate {A = ℕ} 256 0) (length-replicate {A = ℕ} 256 0) (λ i y. get_or-replicate 256 i 0 0 y ∙ sym (h i))

pub none_counted : replicate {A = ℕ} 256 0 ≡ listings_of []
unfolding listings_of
none_counted = blank (λ p. count p []) (λ k. refl)

-- one more comes
count_next : (l : List ℕ) (i k : ℕ) → i < length l → count k (take (i + 1) l) ≡ one (get_or l i 0) k + count k (take i l)
count_next l i k h = rw (add-one, take-suc l i 0 h, count_append) (omega arith)

pub one_counted : (l : List ℕ) (i : ℕ) → i < length l → get_or l i 0 < 256 → set (listings_of (take i l)) (get_or l i 0) (get_or (listings_of (take i l)) (get_or l i 0) 0 + 1) ≡ listings_of (take (i + 1) l)
unfolding listings_of
one_counted l i h small =
    let x = get_or l i 0 in
    set_table 256 (λ p. count p (take i l)) (λ p. count p (take (i + 1) l)) x _ small
    (omega (arith, count_next l i x h, one_same x, get_d_table 256 (λ p. count p (take i l)) x small))
    (λ k ne. sym (count_next l i k h ∙ rw (ne_eqb x k (λ q. ne (sym q))) (omega arith)))

-- none comes more often than there are places
pub count_most : (p : ℕ) (l : List ℕ) → count p l ≤ length l
count_most p [] = omega arith
count_most p (a ∷ l) = elim (test (eqb a p)) [ holds e ↦ rw e (omega (arith, count_most p l)) | fails e ↦ rw e (omega (arith, count_most p l)) ]

pub counted_at : (l : List ℕ) (p : ℕ) → p < 256 → get_or (listings_of l) p 0 ≡ count p l
unfolding listings_of
counted_at l p h = get_d_table 256 (λ k. count k l) p h

pub length_listings : (l : List ℕ) → length (listings_of l) ≡ 256
unfolding listings_of
length_listings l = length_table 256 (λ p. count p l)

pub counted_few : (l : List ℕ) (i p : ℕ) → i ≤ length l → p < 256 → get_or (listings_of (take i l)) p 0 ≤ i
counted_few l i p h small = rw (counted_at (take i l) p small) (omega (arith, count_most p (take i l), length-take-le i l h))

-- ---- the heads of the lines with place number c

-- Another function with the same values makes the same table
same_table : (f g : ℕ → ℕ) → ((k : ℕ) → g k ≡ f k) → table 256 f ≡ table 256 g
same_table f g e = tabled 256 g (table 256 f) (length_table 256 f) (λ i y. get_d_table 256 f i y ∙ sym (e i))

pub no_heads : (c : ℕ) (ps : List Process) → replicate {A = ℕ} 256 0 ≡ heads_of c ps []
unfolding heads_of
no_heads c ps = blank (λ k. 0) (λ k. refl)

-- one more has come, from the last back
turned : (xs : List (Bor ℕ)) (x : Bor ℕ) → reverse (map (λ y. y.now) (xs ++ x ∷ [])) ≡ x.now ∷ reverse (map (λ y. y.now) xs)
turned xs x = simp (map-append, reverse-append)

module _ (c : ℕ) (ps : List Process) (xs : List (Bor ℕ)) (x : Bor ℕ) where
  pub head_noted : (n : ℕ) {heads : List ℕ} → heads ≡ heads_of c ps (reverse (map (λ y. y.now) xs)) → code (place_at ps x.now) ≡ c → spot (place_at ps x.now) ≡ n → n < 256 → set heads n x.now ≡ heads_of c ps (reverse (map (λ y. y.now) (xs ++ x ∷ [])))
  unfolding heads_of
  head_noted n e is at small =
      rw (e, turned xs x) (set_table 256 _ _ n _ small
      (rw (eq-eqb _ c is, eq-eqb _ n at) refl)
      (λ k ne. rw (eq-eqb _ c is, ne_eqb _ k (λ q. ne (sym q ∙ at))) refl))

  pub head_kept : {heads : List ℕ} → heads ≡ heads_of c ps (reverse (map (λ y. y.now) xs)) → (code (place_at ps x.now) ≡ c → ⊥) → heads ≡ heads_of c ps (reverse (map (λ y. y.now) (xs ++ x ∷ [])))
  unfolding heads_of
  head_kept e off = e ∙ rw (turned xs x) (same_table _ _ (λ k. rw (ne_eqb _ c off) refl))

-- neither getting nor putting: a place has neither of the two numbers
pub off_ring : (x : Place) → ((n l : ℕ) → x ≡ Getting n l → ⊥) → ((n l : ℕ) → x ≡ Putting n l → ⊥) → (code x ≡ 5 → ⊥) × (code x ≡ 6 → ⊥)
off_ring (Getting n l) h k = absurd (h n l refl)
off_ring (Putting n l) h k = absurd (k n l refl)
off_ring _ h k = (λ e. omega arith, λ e. omega arith)

-- ---- the processes, by how often each is listed, and by what its parcel holds

pub placed_told : (t : Tables) {times : List ℕ} → times ≡ listings_of t.order → list_all (λ p. placed_tested (get_or times p 0) t p) (range_with_len 1 32) ≡ every 32 (λ p. placed_tested (count p t.order) t p)
placed_told t {times} e = every_number 32 (λ p. placed_tested (get_or times p 0) t p) (λ p. placed_tested (count p t.order) t p) (λ p u v. rw (e, counted_at t.order p (omega arith)))

every_parts : (n : ℕ) (f g h : ℕ → Bool) → every n (λ p. f p && (g p && h p)) ≡ (every n (λ p. f p && g p) && every n h)
every_parts n f g h = every_same n _ _ (λ p u v. sym (and_assoc (f p) (g p) (h p))) ∙ every_both n (λ p. f p && g p) h

pub process_parts : (t : Tables) → every 32 (process_tested t) ≡ (every 32 (λ p. placed_tested (count p t.order) t p) && every 32 (λ p. kept_tested (parcel_at t.parcels p)))
unfolding process_tested placed_tested
process_parts t =
    every_parts 32 (λ p. listed_tested (count p t.order) (place_at t.processes p) && runs_tested t.running (place_at t.processes p) p)
    (λ p. fits_tested t.structures t.rings (numbered t.processes p nobody) (parcel_at t.parcels p).holds) (λ p. kept_tested (parcel_at t.parcels p))

-- ---- the bays, by how many rings each has

-- a structure that is a ring in bay b
is_ring_in : (b : ℕ) → 1 ≤ b → (kind : Kind) → one (bay_of kind) b ≡ cond (is_in b kind) 1 0
is_ring_in b h (Ring c) = refl
is_ring_in b h _ = rw (ne_eqb 0 b (λ z. omega arith))

count_users : (b : ℕ) → 1 ≤ b → (l : List Structure) → count b (map (λ s. bay_of s.kind) l) ≡ users b l
count_users b h [] = refl
count_users b h (s ∷ l) = rw (is_ring_in b h s.kind, count_users b h l)

numbered_zip : {A B : Type 0} (l : List A) (m : List B) (k : ℕ) (d : A × B) → 1 ≤ k → k ≤ length l → k ≤ length m → numbered (zip l m) k d ≡ (numbered l k d.0, get_or m (k - 1) d.1)
numbered_zip l m k d u v w =
    numbered_at (zip l m) k d d (λ z. omega arith) (omega (arith, length-zip l m)) ∙ get_or-zip l m (k - 1) d (omega arith) (omega arith)
    ∙ ap (λ x. (x, get_or m (k - 1) d.1)) (sym (numbered_at l k d.0 d.0 (λ z. omega arith) v))

pub bays_told : (structures : List Structure) (rings : List bays.Ring) {uses : List ℕ} → length rings ≡ 8 → uses ≡ listings_of (map (λ s. bay_of s.kind) structures)
    → list_all (λ p. bay_tested p.1 p.0) (zip rings (between 1 256 uses)) ≡ every 8 (λ b. bay_tested (users b structures) (ring_at rings b))
bays_told structures rings {uses} few e =
    let many : length uses ≡ 256 = rw e (length_listings (map (λ s. bay_of s.kind) structures)) in
    let rest : between 1 256 uses ≡ drop 1 uses = between_to_end uses 1 256 (omega arith) in
    let more : length (drop 1 uses) ≡ 255 = rw (length-drop, many) refl in
    rw rest (every_entry (λ p. bay_tested p.1 p.0) (empty_bay, 0) (zip rings (drop 1 uses)) 8 (λ b. bay_tested (users b structures) (ring_at rings b)) (length-zip rings (drop 1 uses) ∙ omega arith) (λ k u v.
    let next : 1 + (k - 1) ≡ k = omega arith in
    let uses_of : get_or (drop 1 uses) (k - 1) 0 ≡ users k structures = get_or-drop 1 uses (k - 1) 0 ∙ rw (next, e) (counted_at (map (λ s. bay_of s.kind) structures) k (omega arith)) ∙ count_users k u structures in
    rw (numbered_zip rings (drop 1 uses) k (empty_bay, 0) u (omega arith) (omega arith), uses_of)))

-- ---- the heads of the rings' lines

-- nobody heads a line
abbrev pub no_head : Heads
no_head = record { getter = 0; putter = 0 }

-- The length of process p
length_at : (t : Tables) (p : ℕ) → length_for (lengths_of t) p ≡ asked (place_at t.processes p)
unfolding process_of
length_at t p = length_of t p

pub head_at : (c : ℕ) (ps : List Process) (order : List ℕ) (n : ℕ) → n < 256 → get_or (heads_of c ps order) n 0 ≡ first (keep (stands_in c ps n) order)
unfolding heads_of
head_at c ps order n h = get_d_table 256 (λ k. first (keep (stands_in c ps k) order)) n h

still_at : (t : Tables) (n : ℕ) → n < 256 → (kind : Kind) → heads_wait (get_or (heads_of 5 t.processes t.order) n 0) (get_or (heads_of 6 t.processes t.order) n 0) t kind ≡ still_tested n t kind
unfolding heads_wait still_tested neither_goes getter_can putter_can getter_goes putter_goes ring_in line stands
still_at t n h (Ring b) = rw (head_at 5 t.processes t.order n h, head_at 6 t.processes t.order n h, length_at t (first (keep (stands_in 5 t.processes n) t.order)), length_at t (first (keep (stands_in 6 t.processes n) t.order)))
still_at t n h _ = refl

pub still_told : (t : Tables) (heads : List Heads) → map (λ x. x.getter) heads ≡ heads_of 5 t.processes t.order → map (λ x. x.putter) heads ≡ heads_of 6 t.processes t.order
    → list_all (λ n. heads_wait (get_or heads n no_head).getter (get_or heads n no_head).putter t (kind_at t.structures n)) (range_with_len 1 24) ≡ stillness_tested t
unfolding stillness_tested
still_told t heads e f =
    every_number 24 (λ n. heads_wait (get_or heads n no_head).getter (get_or heads n no_head).putter t (kind_at t.structures n)) (λ n. still_tested n t (kind_at t.structures n))
    (λ n u v.
    let getter : (get_or heads n no_head).getter ≡ get_or (heads_of 5 t.processes t.order) n 0 = sym (get_or-map (λ (x : Heads). x.getter) heads n no_head) ∙ ap (λ (l : List ℕ). get_or l n 0) e in
    let putter : (get_or heads n no_head).putter ≡ get_or (heads_of 6 t.processes t.order) n 0 = sym (get_or-map (λ (x : Heads). x.putter) heads n no_head) ∙ ap (λ (l : List ℕ). get_or l n 0) f in
    rw (getter, putter) (still_at t n (omega arith) (kind_at t.structures n)))

-- Where nobody is at a ring, no line of a ring has a head, so none could be served
passes : {A : Type 0} (f : A → Bool) (d : A) (l : List A) → f d ≡ true → list_all f l ≡ true → (p : ℕ) → f (numbered l p d) ≡ true
unfolding numbered
passes {A} f d l h e p = elim (test (eqb p 0)) [ holds z ↦ rw z h | fails z ↦ rw z (at l (p - 1) e) ]
  where
    at : (m : List A) (i : ℕ) → list_all f m ≡ true → f (get_or m i d) ≡ true
    at [] i e = h
    at (x ∷ m) zero e = and_first (f x) (list_all f m) e
    at (x ∷ m) (suc i) e = at m i (and_second (f x) (list_all f m) e)

off_code : (x : Place) → off_rings x ≡ true → (code x ≡ 5 → ⊥) × (code x ≡ 6 → ⊥)
unfolding off_rings
off_code (Getting n l) h = absurd (true≢false (sym h))
off_code (Putting n l) h = absurd (true≢false (sym h))
off_code _ h = (λ e. omega arith, λ e. omega arith)

headless : (c : ℕ) (ps : List Process) (order : List ℕ) (n : ℕ) → ((p : ℕ) → code (place_at ps p) ≡ c → ⊥) → first (keep (stands_in c ps n) order) ≡ 0
headless c ps order n none = ap first (keep_none (stands_in c ps n) order (λ y k. rw (ne_eqb (code (place_at ps y)) c (none y)) refl))

unheaded : (t : Tables) (n : ℕ) (kind : Kind) → first (keep (stands_in 5 t.processes n) t.order) ≡ 0 → first (keep (stands_in 6 t.processes n) t.order) ≡ 0 → still_tested n t kind ≡ true
unfolding still_tested getter_can putter_can getter_goes putter_goes line stands
unheaded t n (Ring b) e f = rw (e, f)
unheaded t n _ e f = refl

every_true : (n : ℕ) (f : ℕ → Bool) → ((p : ℕ) → f p ≡ true) → every n f ≡ true
unfolding every
every_true zero f h = refl
every_true (suc n) f h = rw (every_true n f h, h (suc n))

pub nobody_rests : (t : Tables) → list_all (λ q. off_rings q.place) t.processes ≡ true → stillness_tested t ≡ true
unfolding stillness_tested off_rings
nobody_rests t e =
    let off : (p : ℕ) → (code (place_at t.processes p) ≡ 5 → ⊥) × (code (place_at t.processes p) ≡ 6 → ⊥) = λ p. off_code (place_at t.processes p) (passes (λ q. off_rings q.place) nobody t.processes refl e p) in
    every_true 24 (λ n. still_tested n t (kind_at t.structures n)) (λ n. unheaded t n (kind_at t.structures n) (headless 5 t.processes t.order n (λ p. (off p).0)) (headless 6 t.processes t.order n (λ p. (off p).1)))
