-- What the loops over the order see, a line written to the front of zeros, and one entry anew.
use Prim.Native.Nat.{ℕ, suc, ◌+◌, ◌-◌, ◌%◌, ◌≤◌, ◌<◌}
use mathlib.Core.Path.{◌≡◌, refl, sym, ap, ◌∙◌}
use mathlib.Core.Bool.{Bool, true, false, cond, true≢false}
use mathlib.Core.List.{List, [], ◌∷◌, ◌++◌, append-nil, append_assoc}
use mathlib.Core.Logic.{◌⊎◌, ⊎_elim}
use native.Mathlib.Omega.{arith}
use native.Mathlib.Numerals.{add-one}
use lib.Dec.{eqb, leb, ltb}
use lib.ListN.{length, get_or, set, take, drop, replicate, length-set, take-append-drop, drop_of_length-le}
use lib.Seq.{drop-cons, take-suc-set, drop-set-lt, length-take-le, drop-drop}
use borrow.Author.Tests.{ne_eqb, eqb-true, eqb-false, leb-true, leb-false, ltb-false, lt-ltb, le-ltb}
use Rattle.arrivals.specs.Order.{keep, first}
use Rattle.basics.specs.Tests.{test, holds, fails}
use Rattle.tables.specs.declared.Process.{Process}
use Rattle.tables.specs.declared.Place.{Place}
use Rattle.tables.specs.declared.Place.TheVariants.{Nowhere, Running, Ready, Parked, Waiting, Getting, Putting, Asleep}
use Rattle.tables.specs.declared.Line.{Line}
use Rattle.tables.specs.declared.Line.TheVariants as lines
use Rattle.tables.specs.Laws.{numbered_zero, numbered_past, numbered_at, replaced_zero, replaced_past, replaced_at}
use Rattle.tables.specs.Numbers.{code}
use Rattle.tables.specs.Access.{numbered, replaced, nobody}
use Rattle.std.proofs.lemmas.Bool.Decides.{nat_tests}
use Rattle.std.proofs.Common.{is_le, nat_cmp, ◌&&◌, Some}
use Rattle.std.specs.Option.{option_eq}
use Rattle.std.specs.List.{find, filter}
use Rattle.tables.specs.Numbers.{somebody}
use Rattle.tables.specs.Lines.{standing}
use Rattle.tables.specs.contracts.LinePartialEq as same_line
use Rattle.tables.specs.Lines.{line_at, is_number, stands, waits_at, urgency, behind_equals, by_urgency, better, padded}

-- The places have numbers up to 7
pub small : (x : Place) → code x ≤ 7
small Nowhere = omega arith
small Running = omega arith
small Ready = omega arith
small Parked = omega arith
small (Waiting n) = omega arith
small (Getting n k) = omega arith
small (Putting n k) = omega arith
small (Asleep k) = omega arith

-- Nobody waits at a structure
pub waits_not : (n : ℕ) → waits_at n Nowhere ≡ false
unfolding waits_at
waits_not n = refl

-- ---- urgency

-- Nobody's urgency is 0, and only nobody's
pub urgency_nobody : (ps : List Process) → urgency ps 0 ≡ 0
unfolding urgency
urgency_nobody ps = refl

pub urgency_some : (ps : List Process) (x : ℕ) → urgency ps x ≡ 0 → x ≡ 0
unfolding urgency
urgency_some ps x e = elim (test (eqb x 0)) [ holds z ↦ eqb-true x 0 z | fails z ↦ absurd (omega (arith, rw z at e)) ]

module _ (f : ℕ → ℕ) (none : f 0 ≡ 0) (some : (x : ℕ) → f x ≡ 0 → x ≡ 0) where
  -- Who stands at the head when x has come
  behind_head : (x : ℕ) (s : List ℕ) → first (behind_equals f x s) ≡ cond (ltb (f (first s)) (f x)) x (first s)
  behind_head x [] = elim (test (ltb (f 0) (f x))) [ holds e ↦ rw e | fails e ↦ rw e (some x (omega (arith, ltb-false (f 0) (f x) e))) ]
  behind_head x (y ∷ s) = elim (test (ltb (f y) (f x))) [ holds e ↦ rw e | fails e ↦ rw e ]

  -- The head of a line of falling urgency is the first of the most urgent
  pub head_better : (s l : List ℕ) → first (by_urgency f s l) ≡ better f (first s) l
  head_better s [] = refl
  head_better s (x ∷ l) = head_better (behind_equals f x s) l ∙ ap (λ p. better f p l) (behind_head x s)

-- Of two, the later is the better one only if it is more urgent
pub better_later : (f : ℕ → ℕ) (p x : ℕ) (l : List ℕ) {u v : ℕ} → u ≡ f p → f x ≡ v → u < v → better f p (x ∷ l) ≡ better f x l
better_later f p x l a b h = rw (lt-ltb (f p) (f x) (omega arith))

pub better_earlier : (f : ℕ → ℕ) (p x : ℕ) (l : List ℕ) {u v : ℕ} → u ≡ f p → f x ≡ v → v ≤ u → better f p (x ∷ l) ≡ better f p l
better_earlier f p x l a b h = rw (le-ltb (f p) (f x) (omega arith))

-- ---- what a loop over the order sees

-- A test of places that nobody passes, asked of the entry that the code reads for x
pub seen : (f : Place → Bool) (ps : List Process) (x : ℕ) (d : Process) → f Nowhere ≡ false → length ps ≡ 32 → f (numbered ps x nobody).place ≡ cond (is_number x) (f (get_or ps ((x + 31) % 32) d).place) false
unfolding is_number
seen f ps x d n h =
    elim (test (eqb x 0)) [
      | holds e ↦ rw (numbered_zero ps x nobody (eqb-true x 0 e), e) n
      | fails e ↦
          elim (test (leb x 32)) [
            | holds g ↦
                let z : x ≡ 0 → ⊥ = eqb-false x 0 e in
                let b : x ≤ 32 = leb-true x 32 g in
                let k : (x + 31) % 32 ≡ x - 1 = omega arith in
                rw (e, g, k, numbered_at ps x nobody d z (omega arith))
            | fails g ↦
                let b : 32 < x = leb-false x 32 g in
                rw (e, g, numbered_past ps x nobody (omega arith)) n
          ]
    ]

-- Nobody stands in a line
pub nowhere : (x : Line) → stands x Nowhere ≡ false
unfolding stands
nowhere lines.Ready = refl
nowhere lines.Parked = refl
nowhere (lines.Semaphore n) = refl
nowhere (lines.Getters n) = refl
nowhere (lines.Putters n) = refl
nowhere lines.Sleepers = refl

-- What is left of a view from place i of a list on, by the test b of the one at i
abbrev pub Left : (Place → Bool) → List Process → List ℕ → ℕ → Bool → Type 0
Left f ps l i b =
    keep (λ x. f (numbered ps x nobody).place) (drop i l)
    ≡ cond b (get_or l i 0 ∷ keep (λ x. f (numbered ps x nobody).place) (drop (i + 1) l)) (keep (λ x. f (numbered ps x nobody).place) (drop (i + 1) l))

-- A turn of a loop over the order, which reads the entry at k
pub turn : (f : Place → Bool) (ps : List Process) (l : List ℕ) (i k : ℕ) (b : Bool) (d : Process) → f Nowhere ≡ false → length ps ≡ 32 → i < length l → k ≡ (get_or l i 0 + 31) % 32 → b ≡ cond (is_number (get_or l i 0)) (f (get_or ps k d).place) false → Left f ps l i b
turn f ps l i k b d n long h e g =
    let same : f (numbered ps (get_or l i 0) nobody).place ≡ b = seen f ps (get_or l i 0) d n long ∙ rw (← e) (sym g) in
    rw (add-one, drop-cons l i 0, same)

-- Of a number that passed a test, the urgency is 1 more than the priority of its entry
pub urgency_entry : (ps : List Process) (x k : ℕ) (b : Bool) (d : Process) → length ps ≡ 32 → k ≡ (x + 31) % 32 → true ≡ cond (is_number x) b false → urgency ps x ≡ (get_or ps k d).priority + 1
unfolding urgency is_number
urgency_entry ps x k b d long e h =
    elim (test (eqb x 0)) [
      | holds z ↦ absurd (true≢false (rw z at h))
      | fails z ↦
          elim (test (leb x 32)) [
            | holds g ↦
                let j : k ≡ x - 1 = omega (arith, eqb-false x 0 z, leb-true x 32 g) in
                rw (z, add-one, j, numbered_at ps x nobody d (eqb-false x 0 z) (omega (arith, leb-true x 32 g)))
            | fails g ↦ absurd (true≢false (rw (z, g) at h))
          ]
    ]

-- Past the end nobody is left
pub keep_end : (f : ℕ → Bool) (l : List ℕ) (i : ℕ) → length l ≤ i → keep f (drop i l) ≡ []
keep_end f l i h = rw (drop_of_length-le l {i = i} h)

-- ---- a line written to the front of zeros

-- k members stand in front, and zeros behind them
pub record Front (members : List ℕ) (k : ℕ) (rest whole : List ℕ) : Type 0 where
  pub long : length members ≡ 32
  pub listed : take k members ++ rest ≡ whole
  pub zeros : drop k members ≡ replicate (32 - k) 0

-- One more is written behind them
pub written : (members : List ℕ) (k x : ℕ) (rest whole : List ℕ) → k < 32 → Front members k (x ∷ rest) whole → Front (set members k x) (k + 1) rest whole
written members k x rest whole h a =
    let fewer : 32 - k ≡ suc (32 - suc k) = omega arith in
    let tail : drop 1 (replicate {A = ℕ} (32 - k) 0) ≡ replicate (32 - suc k) 0 = rw fewer in
    record {
      long = length-set members k x ∙ a.long;
      listed = rw (add-one, take-suc-set members k x (omega (arith, a.long))) (append_assoc (take k members) (x ∷ []) rest ∙ a.listed);
      zeros = rw (add-one, drop-set-lt (suc k) members k x (omega arith)) (sym (rw (add-one k) at (drop-drop 1 k members)) ∙ ap (drop 1) a.zeros ∙ tail);
    }

-- With nobody left it is the padded line
pub filled : (members : List ℕ) (k : ℕ) (whole : List ℕ) → k ≤ 32 → Front members k [] whole → members ≡ padded whole
unfolding padded
filled members k whole h a =
    let front : take k members ≡ whole = sym (append-nil _) ∙ a.listed in
    let size : length whole ≡ k = ap length (sym front) ∙ length-take-le k members (omega (arith, a.long)) in
    sym (take-append-drop k members) ∙ rw (front, size, a.zeros)

-- ---- one entry anew

-- The ways to a list that has x at its number p, if p is from 1 to n, and else is as it was: each is the list with x as number p
pub anew : {A : Type 0} (l : List A) (p n : ℕ) (x : A) {r : List A} → length l ≡ n
    → ((1 ≤ p) × (r ≡ set l (p - 1) x)) ⊎ (((n < p) × (r ≡ l)) ⊎ ((p < 1) × (r ≡ l))) → r ≡ replaced l p x
anew l p n x long =
    ⊎_elim
    (λ w. w.1 ∙ sym (replaced_at l p x (omega (arith, w.0))))
    (⊎_elim
    (λ w. w.1 ∙ sym (replaced_past l p x (omega (arith, w.0))))
    (λ w. w.1 ∙ sym (replaced_zero l p x (omega (arith, w.0)))))

-- ---- tests

-- The numbers from 1 to 32
pub number_within : (x : ℕ) → (is_le (nat_cmp 1 x) && is_le (nat_cmp x 32)) ≡ is_number x
unfolding is_number
number_within x = grind (arith, nat_tests)

-- Who stands in a line is in a place of that line
pub line_stands : (which : Line) (place : Place) → option_eq same_line.TheImpl.eq-value.it (line_at place) (Some which) ≡ stands which place
unfolding stands
line_stands lines.Ready Nowhere = refl
line_stands lines.Parked Nowhere = refl
line_stands (lines.Semaphore m) Nowhere = refl
line_stands (lines.Getters m) Nowhere = refl
line_stands (lines.Putters m) Nowhere = refl
line_stands lines.Sleepers Nowhere = refl
line_stands lines.Ready Running = refl
line_stands lines.Parked Running = refl
line_stands (lines.Semaphore m) Running = refl
line_stands (lines.Getters m) Running = refl
line_stands (lines.Putters m) Running = refl
line_stands lines.Sleepers Running = refl
line_stands lines.Ready Ready = refl
line_stands lines.Parked Ready = refl
line_stands (lines.Semaphore m) Ready = refl
line_stands (lines.Getters m) Ready = refl
line_stands (lines.Putters m) Ready = refl
line_stands lines.Sleepers Ready = refl
line_stands lines.Ready Parked = refl
line_stands lines.Parked Parked = refl
line_stands (lines.Semaphore m) Parked = refl
line_stands (lines.Getters m) Parked = refl
line_stands (lines.Putters m) Parked = refl
line_stands lines.Sleepers Parked = refl
line_stands lines.Ready (Waiting n) = refl
line_stands lines.Parked (Waiting n) = refl
line_stands (lines.Semaphore m) (Waiting n) = refl
line_stands (lines.Getters m) (Waiting n) = refl
line_stands (lines.Putters m) (Waiting n) = refl
line_stands lines.Sleepers (Waiting n) = refl
line_stands lines.Ready (Getting n k) = refl
line_stands lines.Parked (Getting n k) = refl
line_stands (lines.Semaphore m) (Getting n k) = refl
line_stands (lines.Getters m) (Getting n k) = refl
line_stands (lines.Putters m) (Getting n k) = refl
line_stands lines.Sleepers (Getting n k) = refl
line_stands lines.Ready (Putting n k) = refl
line_stands lines.Parked (Putting n k) = refl
line_stands (lines.Semaphore m) (Putting n k) = refl
line_stands (lines.Getters m) (Putting n k) = refl
line_stands (lines.Putters m) (Putting n k) = refl
line_stands lines.Sleepers (Putting n k) = refl
line_stands lines.Ready (Asleep k) = refl
line_stands lines.Parked (Asleep k) = refl
line_stands (lines.Semaphore m) (Asleep k) = refl
line_stands (lines.Getters m) (Asleep k) = refl
line_stands (lines.Putters m) (Asleep k) = refl
line_stands lines.Sleepers (Asleep k) = refl

-- Who stands in a line is somebody
pub stands_somebody : (which : Line) (ps : List Process) (x : ℕ) → standing which ps x ≡ true → somebody x ≡ Some x
unfolding numbered
stands_somebody which ps x e = rw (ne_eqb x 0 (λ z. true≢false (sym e ∙ rw z (nowhere which))))

-- A line's head is the first of the order who stands in it
pub head_found : (which : Line) (ps : List Process) (l : List ℕ) → somebody (first (keep (standing which ps) l)) ≡ find (standing which ps) l
unfolding numbered
head_found which ps [] = refl
head_found which ps (a ∷ l) =
    elim (test (standing which ps a)) [
      | holds e ↦ rw e (stands_somebody which ps a e)
      | fails e ↦ rw e (head_found which ps l)
    ]

-- A view is a filtered list
pub kept : (f : ℕ → Bool) (l : List ℕ) → filter f l ≡ keep f l
kept f [] = refl
kept f (a ∷ l) = elim (test (f a)) [ holds e ↦ rw e (ap (λ (r : List ℕ). a ∷ r) (kept f l)) | fails e ↦ rw e (kept f l) ]

-- What is left of a view from place i of a list on
pub next : (f : ℕ → Bool) (l : List ℕ) (i : ℕ) → i < length l
    → keep f (drop i l) ≡ cond (f (get_or l i 0)) (get_or l i 0 ∷ keep f (drop (i + 1) l)) (keep f (drop (i + 1) l))
next f l i h = rw (add-one, drop-cons l i 0)
