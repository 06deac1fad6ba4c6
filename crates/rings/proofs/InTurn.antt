-- Who is served, in turn: who is next, how many turns there are, and what stands behind the lines.
use Prim.Native.Nat.{ℕ, zero, suc, ◌+◌, ◌-◌, ◌≤◌}
use Rattle.std.specs.Prelude.{◌≡◌, refl, true, false, drop, replicate}
use Rattle.std.proofs.Common.{sym, ◌∙◌, true≢false, suc-add, add-suc, length-append}
use mathlib.Core.List.{List, [], ◌∷◌, ◌++◌}
use native.Mathlib.Omega.{arith}
use Rattle.std.proofs.Math.ListN.{length}
use Rattle.arrivals.specs.Order.{first}
use Rattle.rings.specs.Laws.{Next, next, getter, putter, neither, getter_zeros, putter_zeros}
use Rattle.rings.specs.Serving.{length_for, getter_goes, putter_goes, who, in_turn}

-- ---- who is next

-- nobody is served where no head can be
pub nobody_goes : (m : ℕ) (k : List ℕ) (size held : ℕ) (gs ps : List ℕ) → getter_goes k held gs ≡ false → putter_goes k size held ps ≡ false → who m k size held gs ps ≡ []
unfolding who
nobody_goes zero k size held gs ps g p = refl
nobody_goes (suc m) k size held gs ps g p = rw (g, p)

-- in no turn nobody is served
pub nobody_yet : (k : List ℕ) (size held : ℕ) (gs ps : List ℕ) → who zero k size held gs ps ≡ []
unfolding who
nobody_yet k size held gs ps = refl

-- the head getter is served first,
pub getter_next : (m : ℕ) (k : List ℕ) (size held : ℕ) (gs ps : List ℕ) → getter_goes k held gs ≡ true
    → who (suc m) k size held gs ps ≡ first gs ∷ who m k size (held - length_for k (first gs)) (drop 1 gs) ps
unfolding who
getter_next m k size held gs ps g = rw g

-- else the head putter
pub putter_next : (m : ℕ) (k : List ℕ) (size held : ℕ) (gs ps : List ℕ) → getter_goes k held gs ≡ false → putter_goes k size held ps ≡ true
    → who (suc m) k size held gs ps ≡ first ps ∷ who m k size (held + length_for k (first ps)) gs (drop 1 ps)
unfolding who
putter_next m k size held gs ps g p = rw (g, p)

-- The same of two whole lines
pub getter_first : (k : List ℕ) (size held : ℕ) (gs ps : List ℕ) → getter_goes k held gs ≡ true
    → in_turn k size held gs ps ≡ first gs ∷ in_turn k size (held - length_for k (first gs)) (drop 1 gs) ps
unfolding in_turn getter_goes
getter_first k size held [] ps g = absurd (true≢false (sym g))
getter_first k size held (x ∷ gs) ps g = rw suc-add (getter_next (length gs + length ps) k size held (x ∷ gs) ps g)

pub putter_first : (k : List ℕ) (size held : ℕ) (gs ps : List ℕ) → getter_goes k held gs ≡ false → putter_goes k size held ps ≡ true
    → in_turn k size held gs ps ≡ first ps ∷ in_turn k size (held + length_for k (first ps)) gs (drop 1 ps)
unfolding in_turn putter_goes
putter_first k size held gs [] g p = absurd (true≢false (sym p))
putter_first k size held gs (x ∷ ps) g p = rw add-suc (putter_next (length gs + length ps) k size held gs (x ∷ ps) g p)

pub nobody_first : (k : List ℕ) (size held : ℕ) (gs ps : List ℕ) → getter_goes k held gs ≡ false → putter_goes k size held ps ≡ false
    → in_turn k size held gs ps ≡ []
unfolding in_turn
nobody_first k size held gs ps g p = nobody_goes (length gs + length ps) k size held gs ps g p

-- ---- how many turns, and what stands behind the lines

-- As many turns as there are members are enough
module _ (k : List ℕ) (size : ℕ) where
  abbrev Enough : ℕ → ℕ → List ℕ → List ℕ → Type 0
  Enough m held gs ps = length gs + length ps ≤ m → who m k size held gs ps ≡ in_turn k size held gs ps

  one_turn_more : (m : ℕ) → ((held : ℕ) (gs ps : List ℕ) → Enough m held gs ps) → {held : ℕ} {gs ps : List ℕ} → Next k size held gs ps → Enough (suc m) held gs ps
  one_turn_more m so {held} {gs} {ps} (neither g p) h = nobody_goes (suc m) k size held gs ps g p ∙ sym (nobody_first k size held gs ps g p)
  one_turn_more m so {held} {gs} {ps} (getter x rest g) h =
      getter_next m k size held gs ps g ∙ rw (so (held - length_for k x) rest ps (omega arith)) (sym (getter_first k size held gs ps g))
  one_turn_more m so {held} {gs} {ps} (putter x rest g p) h =
      putter_next m k size held gs ps g p ∙ rw (so (held + length_for k x) gs rest (omega arith)) (sym (putter_first k size held gs ps g p))

  pub enough : (m held : ℕ) (gs ps : List ℕ) → length gs + length ps ≤ m → who m k size held gs ps ≡ in_turn k size held gs ps
  unfolding in_turn
  enough zero held gs ps h = let none : length gs + length ps ≡ 0 = omega arith in rw none
  enough (suc m) held gs ps h = one_turn_more m (enough m) (next k size held gs ps) h

-- Zeros behind the lines are nobody
module _ (k : List ℕ) (size i j : ℕ) where
  abbrev Same : ℕ → ℕ → List ℕ → List ℕ → Type 0
  Same m held gs ps = who m k size held (gs ++ replicate i 0) (ps ++ replicate j 0) ≡ who m k size held gs ps

  zeros_once : (m : ℕ) → ((held : ℕ) (gs ps : List ℕ) → Same m held gs ps) → {held : ℕ} {gs ps : List ℕ} → Next k size held gs ps → Same (suc m) held gs ps
  zeros_once m so {held} {gs} {ps} (neither g p) =
      nobody_goes (suc m) k size held (gs ++ replicate i 0) (ps ++ replicate j 0) (getter_zeros k size held gs i ∙ g) (putter_zeros k size held ps j ∙ p)
      ∙ sym (nobody_goes (suc m) k size held gs ps g p)
  zeros_once m so {held} {gs} {ps} (getter x rest g) =
      getter_next m k size held (gs ++ replicate i 0) (ps ++ replicate j 0) (getter_zeros k size held gs i ∙ g)
      ∙ rw (so (held - length_for k x) rest ps) (sym (getter_next m k size held gs ps g))
  zeros_once m so {held} {gs} {ps} (putter x rest g p) =
      putter_next m k size held (gs ++ replicate i 0) (ps ++ replicate j 0) (getter_zeros k size held gs i ∙ g) (putter_zeros k size held ps j ∙ p)
      ∙ rw (so (held + length_for k x) gs rest) (sym (putter_next m k size held gs ps g p))

  pub who_zeros : (m held : ℕ) (gs ps : List ℕ) → who m k size held (gs ++ replicate i 0) (ps ++ replicate j 0) ≡ who m k size held gs ps
  who_zeros zero held gs ps = nobody_yet k size held _ _ ∙ sym (nobody_yet k size held _ _)
  who_zeros (suc m) held gs ps = zeros_once m (who_zeros m) (next k size held gs ps)

-- so they change nothing
pub zeros_behind : (k : List ℕ) (size held : ℕ) (gs ps : List ℕ) (i j : ℕ) → in_turn k size held (gs ++ replicate i 0) (ps ++ replicate j 0) ≡ in_turn k size held gs ps
unfolding in_turn
zeros_behind k size held gs ps i j =
    who_zeros k size i j (length (gs ++ replicate i 0) + length (ps ++ replicate j 0)) held gs ps
    ∙ enough k size (length (gs ++ replicate i 0) + length (ps ++ replicate j 0)) held gs ps (simp length-append (omega arith))
