-- An array's map; a turn of the serving; where nobody waits; the ways past a line; the lines served one after the other.
use Prim.Native.Nat.{ℕ, ◌+◌, ◌<◌}
use mathlib.Core.Path.{◌≡◌, refl, sym, ◌∙◌}
use mathlib.Core.Bool.{Bool, true, false, cond, true≢false}
use mathlib.Core.List.{List, [], ◌∷◌, map}
use lib.Dec.{eqb, leb}
use Rattle.basics.specs.Tests.{test, holds, fails}
use Rattle.arrivals.specs.Order.{first, keep}
use Rattle.bay.specs.declared.Parcel.{Parcel}
use Rattle.bay.specs.declared.Ring.{Ring}
use Rattle.tables.specs.declared.Tables.{Tables}
use Rattle.rings.specs.declared.Turns.{Turns}
use Rattle.std.specs.Prelude.{Some}
use Rattle.tables.specs.declared.Place.{Place}
use Rattle.tables.specs.declared.Kind.{Kind}
use Rattle.tables.specs.declared.Kind.TheVariants as kinds
use Rattle.tables.specs.declared.Line.TheVariants.{Getters, Putters}
use Rattle.tables.specs.Access.{numbered, nobody, process_of, structure_of, ring_in, with_process, with_parcel}
use borrow.Author.Tests.{eqb-true}
use Rattle.tables.specs.Numbers.{code, spot}
use Rattle.tables.specs.Lines.{stands, standing, line, padded, waits_at, waiting_at, in_lines_of}
use Rattle.ready.specs.Ready.{with_place, joins, runner_joins}
use Rattle.rings.specs.Serving.{lengths_of, length_for, getter_goes, putter_goes, in_turn, to_come, GetterTurn, PutterTurn, service, services, turns, served}
use Rattle.rings.specs.Rings.{way_to_kind, way_past, way_into_ring, way_into_kind, way_in, way_out_of_ring, way_out_of_kind, way_out}
use Rattle.rings.proofs.InTurn.{getter_first, putter_first, nobody_first, zeros_behind}
use native.Mathlib.Omega.{arith}
use lib.ListN.{length, get_or, drop}
use Rattle.std.specs.List.{between}
use Rattle.std.proofs.lemmas.Slice.{between_to_end}
use Rattle.std.proofs.lemmas.List.{same_lists, get_or-map, length-map}
use Rattle.std.specs.Array.{IsMapOf}
use denote.Param.Members.{Mut, Called}

-- ---- an array's map is the list's

module _ {F A B : Type 0} (g : Mut F (A × Unit {0}) B) (f : F) (h : A → B) (xs : List A) (ys : List B) (n : ℕ) (d : A)
    (long : length xs ≡ n) (is : IsMapOf g f xs ys n) (calls : (p : F) (x : A) (y : B) (q : F) → Called g p (x, tt) y q → y ≡ h x) where
  mapped_at : (k : ℕ) (e : B) → k < length ys → get_or ys k e ≡ get_or (map h xs) k e
  mapped_at k e within =
      let call = is.at k d e (rw is.long at within) in
      calls call.0 _ _ call.1 call.2 ∙ sym (get_or-map h xs k d e (omega (arith, is.long)))

  pub mapped : ys ≡ map h xs
  mapped = same_lists ys (map h xs) (is.long ∙ sym long ∙ sym (length-map xs h)) mapped_at

-- ---- a turn of the serving

-- The code's tests of the two heads are the rule's
pub getter_test : (k gs : List ℕ) (held p l : ℕ) (b : Bool) → l ≡ numbered k p 0 → p ≡ first gs → b ≡ cond (eqb p 0) false (leb l held) → getter_goes k held gs ≡ b
unfolding getter_goes length_for
getter_test k gs held p l b its head goes = rw (goes, its, head)

pub putter_test : (k ps : List ℕ) (size held p l : ℕ) (b : Bool) → l ≡ numbered k p 0 → p ≡ first ps → b ≡ cond (eqb p 0) false (leb (held + l) size) → putter_goes k size held ps ≡ b
unfolding putter_goes length_for
putter_test k ps size held p l b its head goes = rw (goes, its, head)

-- A line without its head
pub behind : (l : List ℕ) → between 1 (length l) l ≡ drop 1 l
behind l = between_to_end l 1 (length l) (omega arith)

-- A head getter or putter that can go stands in its line
some_getter : (k : List ℕ) (held : ℕ) (gs : List ℕ) → getter_goes k held gs ≡ true → length (drop 1 gs) < length gs
unfolding getter_goes
some_getter k held [] h = absurd (true≢false (sym h))
some_getter k held (x ∷ gs) h = omega arith

some_putter : (k : List ℕ) (size held : ℕ) (ps : List ℕ) → putter_goes k size held ps ≡ true → length (drop 1 ps) < length ps
unfolding putter_goes
some_putter k size held [] h = absurd (true≢false (sym h))
some_putter k size held (x ∷ ps) h = omega arith

-- The head getter is served, and then whoever comes next; fewer are left
pub getter_out : (old new : Turns) (p : ℕ) → GetterTurn old (Some p) new → to_come old ≡ p ∷ to_come new
getter_out old new p (goes, head, size, held, lengths, getters, putters) =
    rw (size, held, lengths, getters, putters, head) (getter_first old.lengths.now old.size old.held old.getters.now old.putters.now goes)

pub fewer_getters : (old new : Turns) (p : ℕ) → GetterTurn old (Some p) new → length new.getters.now + length new.putters.now < length old.getters.now + length old.putters.now
fewer_getters old new p (goes, head, size, held, lengths, getters, putters) =
    rw (getters, putters) (omega (arith, some_getter old.lengths.now old.held old.getters.now goes))

-- If it cannot go, the same of the head putter
pub putter_out : (old new : Turns) (p : ℕ) → getter_goes old.lengths.now old.held old.getters.now ≡ false → PutterTurn old (Some p) new → to_come old ≡ p ∷ to_come new
putter_out old new p none (goes, head, size, held, lengths, getters, putters) =
    rw (size, held, lengths, getters, putters, head) (putter_first old.lengths.now old.size old.held old.getters.now old.putters.now none goes)

-- If neither can go, that is all
pub nobody_left : (left : Turns) → getter_goes left.lengths.now left.held left.getters.now ≡ false → putter_goes left.lengths.now left.size left.held left.putters.now ≡ false → to_come left ≡ []
nobody_left left g p = nobody_first left.lengths.now left.size left.held left.getters.now left.putters.now g p

pub fewer_putters : (old new : Turns) (p : ℕ) → PutterTurn old (Some p) new → length new.getters.now + length new.putters.now < length old.getters.now + length old.putters.now
fewer_putters old new p (goes, head, size, held, lengths, getters, putters) =
    rw (getters, putters) (omega (arith, some_putter old.lengths.now old.size old.held old.putters.now goes))

-- ---- nobody stands in the lines of a ring

-- Where nobody passes a test, nobody passes a narrower one
none_kept : (f g : ℕ → Bool) → ((x : ℕ) → f x ≡ true → g x ≡ true) → (l : List ℕ) → length (keep g l) ≡ 0 → keep f l ≡ []
none_kept f g narrower [] h = refl
none_kept f g narrower (x ∷ l) h =
    elim (test (g x)) [
      | holds e ↦ absurd (omega (arith, rw e at h))
      | fails e ↦
          elim (test (f x)) [
            | holds k ↦ absurd (true≢false (sym (narrower x k) ∙ e))
            | fails k ↦ rw k (none_kept f g narrower l (rw e at h))
          ]
    ]

-- Who stands in a line of structure n waits at it: at codes 4 to 6
line_waits : (k n : ℕ) (place : Place) → leb 4 k ≡ true → leb k 6 ≡ true → cond (eqb (code place) k) (eqb (spot place) n) false ≡ true → waits_at n place ≡ true
unfolding waits_at
line_waits k n place low high h =
    elim (test (eqb (code place) k)) [
      | holds e ↦ rw (eqb-true (code place) k e, low, high) (rw e at h)
      | fails e ↦ absurd (true≢false (sym (rw e at h)))
    ]

-- Then nobody is served
none_turns : (n b : ℕ) (t : Tables) → in_lines_of n t ≡ 0 → turns n b t ≡ []
unfolding turns line in_lines_of stands getter_goes putter_goes
none_turns n b t h =
    rw (
      none_kept (standing (Getters n) t.processes) (waiting_at n t.processes) (λ x. line_waits 5 n (numbered t.processes x nobody).place refl refl) t.order h,
      none_kept (standing (Putters n) t.processes) (waiting_at n t.processes) (λ x. line_waits 6 n (numbered t.processes x nobody).place refl refl) t.order h,
    )
    (nobody_first (lengths_of t) (ring_in t b).size (ring_in t b).held [] [] refl refl)

pub none_waiting : (n b : ℕ) (t : Tables) → in_lines_of n t ≡ 0 → t ≡ served n b t
unfolding served services
none_waiting n b t h = rw (none_turns n b t h)

-- ---- the way past a line

into_kind : (n l : ℕ) (kind : Kind) (t : Tables) → way_to_kind (Putters n) (λ r. leb (r.held + l) r.size) l kind t ≡ way_into_kind n l kind t
unfolding way_to_kind way_into_kind way_into_ring
into_kind n l kinds.Free t = refl
into_kind n l (kinds.Binary v) t = refl
into_kind n l (kinds.Counting v) t = refl
into_kind n l (kinds.Ring b) t = refl

-- The way in is past the putters, where there is room
pub past_putters : (n l : ℕ) (t : Tables) → way_past (Putters n) (λ r. leb (r.held + l) r.size) n l t ≡ way_in n l t
unfolding way_past way_in
past_putters n l t = into_kind n l (structure_of t n).kind t

out_of_kind : (n l : ℕ) (kind : Kind) (t : Tables) → way_to_kind (Getters n) (λ r. leb l r.held) l kind t ≡ way_out_of_kind n l kind t
unfolding way_to_kind way_out_of_kind way_out_of_ring
out_of_kind n l kinds.Free t = refl
out_of_kind n l (kinds.Binary v) t = refl
out_of_kind n l (kinds.Counting v) t = refl
out_of_kind n l (kinds.Ring b) t = refl

-- The way out is past the getters, where so many are held
pub past_getters : (n l : ℕ) (t : Tables) → way_past (Getters n) (λ r. leb l r.held) n l t ≡ way_out n l t
unfolding way_past way_out
past_getters n l t = out_of_kind n l (structure_of t n).kind t

-- ---- who waits

-- The runner's parcel may be filled once it has joined
pub parcel_joins : (place : Place) (x : Parcel) (t : Tables) → with_parcel (runner_joins place t) t.running x ≡ runner_joins place (with_parcel t t.running x)
unfolding runner_joins joins with_place with_process with_parcel process_of
parcel_joins place x t =
    elim (test (eqb t.running 0)) [
      | holds e ↦ rw e
      | fails e ↦ rw e
    ]

-- ---- the lines are served

-- The numbers that are read are those of the rule: zeros behind a line are nobody
pub turns_read : (n b : ℕ) (t : Tables) (ring : Ring) (k gs ps : List ℕ) → ring ≡ ring_in t b → k ≡ lengths_of t → gs ≡ padded (line (Getters n) t) → ps ≡ padded (line (Putters n) t)
    → in_turn k ring.size ring.held gs ps ≡ turns n b t
unfolding turns padded
turns_read n b t ring k gs ps its known getters putters = rw (its, known, getters, putters, zeros_behind)

-- One is served, and then the others
pub one_more : (b p : ℕ) (l more : List ℕ) (t u v : Tables) → l ≡ p ∷ more → u ≡ service b p t → v ≡ services b more u → v ≡ services b l t
unfolding services
one_more b p l more t u v e w h = rw (e, ← w) h

-- Nobody is left
pub no_more : (b : ℕ) (l : List ℕ) (t : Tables) → l ≡ [] → t ≡ services b l t
unfolding services
no_more b l t e = rw e
