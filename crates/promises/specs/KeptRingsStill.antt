-- Whether the head of a ring's line could be served, when one process has changed; and who waits at a ring.
use Rattle.std.specs.Prelude.{ℕ, ◌+◌, ◌≡◌, refl, Bool, true, false, cond, List, [], ◌∷◌, ◌++◌, eqb}
use Rattle.std.proofs.Common.{sym, ap, ◌∙◌, true≢false, arith, eq-eqb, ne_eqb}
use Rattle.std.proofs.Math.Dec.{leb}
use Rattle.arrivals.specs.Order.{first, has}
use Rattle.tables.specs.declared.Tables.{Tables}
use Rattle.tables.specs.declared.Process.{Process}
use Rattle.tables.specs.declared.Place.{Place}
use Rattle.tables.specs.declared.Place.TheVariants.{Running, Getting, Putting}
use Rattle.tables.specs.declared.Kind.TheVariants.{Ring}
use Rattle.tables.specs.declared.Line.{Line}
use Rattle.tables.specs.declared.Line.TheVariants.{Getters, Putters}
use Rattle.tables.specs.Access.{process_of, ring_in}
use Rattle.tables.specs.Lines.{line, stands}
use Rattle.rings.specs.Serving.{asked, lengths_of, length_for, getter_goes, putter_goes, getter_can, putter_can}
use Rattle.rings.specs.Changes.{length_of, not_in}
use Rattle.sound.specs.Sound.{kind_at, listings, StillAt}

-- ---- still

-- "no head of a line could be served", but for ring n's
unfoldable pub StillBut : ℕ → Tables → Type 0
StillBut n t = (m c : ℕ) → (m ≡ n → ⊥) → kind_at t.structures m ≡ Ring c → StillAt m c t

-- Of the head of a line: a test that agrees on all who stand there
head_same : (f g : ℕ → Bool) (l : List ℕ) → ((p : ℕ) → has p l ≡ true → f p ≡ g p) → cond (eqb (first l) 0) false (f (first l)) ≡ cond (eqb (first l) 0) false (g (first l))
head_same f g [] h = refl
head_same f g (x ∷ l) h = rw (h x (rw (eq-eqb x x refl)))

-- and one that nobody passes: neither the head, nor a newcomer where there is none
head_joined : (f g : ℕ → Bool) (l : List ℕ) (x : ℕ) → ((p : ℕ) → has p l ≡ true → f p ≡ g p) → cond (eqb (first l) 0) false (g (first l)) ≡ false → (first l ≡ 0 → f x ≡ false) → (x ≡ 0 → ⊥)
    → cond (eqb (first (l ++ (x ∷ []))) 0) false (f (first (l ++ (x ∷ [])))) ≡ false
head_joined f g [] x h was new z = rw (ne_eqb x 0 z) (new refl)
head_joined f g (y ∷ l) x h was new z = rw (h y (rw (eq-eqb y y refl))) was

-- All but x are as they were: a line that is as it was and in which x does not stand has a head that could be served exactly if it could before
module _ (x : ℕ) (t u : Tables) (others : (p : ℕ) → (p ≡ x → ⊥) → process_of u p ≡ process_of t p) where
  -- Who stands there asks for as much as before
  lengths_same : (l : Line) → stands l (process_of t x).place ≡ false → (p : ℕ) → has p (line l t) ≡ true → length_for (lengths_of u) p ≡ length_for (lengths_of t) p
  lengths_same l out p h =
      length_of u p ∙ ap (λ (q : Process). asked q.place) (others p (λ e. true≢false (sym h ∙ rw e (not_in l t x out)))) ∙ sym (length_of t p)

  module _ (m c : ℕ) (ring : ring_in u c ≡ ring_in t c) where
    -- of the getters,
    pub getter_still : line (Getters m) u ≡ line (Getters m) t → stands (Getters m) (process_of t x).place ≡ false → getter_can m c u ≡ getter_can m c t
    unfolding getter_can getter_goes
    getter_still same out =
        rw (same, ring) (head_same (λ p. leb (length_for (lengths_of u) p) (ring_in t c).held) (λ p. leb (length_for (lengths_of t) p) (ring_in t c).held) (line (Getters m) t) (λ p h. rw (lengths_same (Getters m) out p h)))

    -- and of the putters
    pub putter_still : line (Putters m) u ≡ line (Putters m) t → stands (Putters m) (process_of t x).place ≡ false → putter_can m c u ≡ putter_can m c t
    unfolding putter_can putter_goes
    putter_still same out =
        rw (same, ring) (head_same (λ p. leb ((ring_in t c).held + length_for (lengths_of u) p) (ring_in t c).size) (λ p. leb ((ring_in t c).held + length_for (lengths_of t) p) (ring_in t c).size) (line (Putters m) t) (λ p h. rw (lengths_same (Putters m) out p h)))

    -- One who joins a line without being served there leaves it so
    pub getter_joins : line (Getters m) u ≡ line (Getters m) t ++ (x ∷ []) → stands (Getters m) (process_of t x).place ≡ false → (x ≡ 0 → ⊥) → getter_can m c t ≡ false
        → (first (line (Getters m) t) ≡ 0 → leb (asked (process_of u x).place) (ring_in t c).held ≡ false) → getter_can m c u ≡ false
    unfolding getter_can getter_goes
    getter_joins joined out some was new =
        rw (joined, ring) (head_joined (λ p. leb (length_for (lengths_of u) p) (ring_in t c).held) (λ p. leb (length_for (lengths_of t) p) (ring_in t c).held) (line (Getters m) t) x (λ p h. rw (lengths_same (Getters m) out p h)) was (λ e. rw (length_of u x) (new e)) some)

    -- the same of the putters
    pub putter_joins : line (Putters m) u ≡ line (Putters m) t ++ (x ∷ []) → stands (Putters m) (process_of t x).place ≡ false → (x ≡ 0 → ⊥) → putter_can m c t ≡ false
        → (first (line (Putters m) t) ≡ 0 → leb ((ring_in t c).held + asked (process_of u x).place) (ring_in t c).size ≡ false) → putter_can m c u ≡ false
    unfolding putter_can putter_goes
    putter_joins joined out some was new =
        rw (joined, ring) (head_joined (λ p. leb ((ring_in t c).held + length_for (lengths_of u) p) (ring_in t c).size) (λ p. leb ((ring_in t c).held + length_for (lengths_of t) p) (ring_in t c).size) (line (Putters m) t) x (λ p h. rw (lengths_same (Putters m) out p h)) was (λ e. rw (length_of u x) (new e)) some)

-- ---- who waits at a ring

-- It is a getter or a putter of ring n
pub data WaitsAt (n : ℕ) (place : Place) : Type 0 where
  getter : (l : ℕ) → place ≡ Getting n l → WaitsAt n place
  putter : (l : ℕ) → place ≡ Putting n l → WaitsAt n place

-- so it is live,
pub waits_live : {n : ℕ} {place : Place} → WaitsAt n place → listings place ≡ 1
waits_live (getter l e) = ap listings e
waits_live (putter l e) = ap listings e

-- does not run,
pub waits_not_running : {n : ℕ} {place : Place} → WaitsAt n place → place ≡ Running → ⊥
waits_not_running (getter l e) q = let z : ◌≡◌ {A = ℕ} 0 1 = cc in omega arith
waits_not_running (putter l e) q = let z : ◌≡◌ {A = ℕ} 0 1 = cc in omega arith

-- and stands in no line of another ring
stands_own : (m n l : ℕ) → (m ≡ n → ⊥) → (stands (Getters m) (Getting n l) ≡ false) × (stands (Putters m) (Getting n l) ≡ false) × (stands (Getters m) (Putting n l) ≡ false) × (stands (Putters m) (Putting n l) ≡ false)
unfolding stands
stands_own m n l h = (ne_eqb n m (λ e. h (sym e)), refl, refl, ne_eqb n m (λ e. h (sym e)))

-- In the words of its place
pub waits_apart : {n : ℕ} {place : Place} (m : ℕ) → (m ≡ n → ⊥) → WaitsAt n place → (stands (Getters m) place ≡ false) × (stands (Putters m) place ≡ false)
waits_apart {n} m h (getter l e) = (rw e (stands_own m n l h).0, rw e (stands_own m n l h).1)
waits_apart {n} m h (putter l e) = (rw e (stands_own m n l h).2, rw e (stands_own m n l h).3)
