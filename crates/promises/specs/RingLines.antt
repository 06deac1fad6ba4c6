-- What leaves ring n alone: its two lines and its bytes are as they were. Every step of every call but those that act there.
use Rattle.std.specs.Prelude.{ℕ, ◌≡◌, refl, Bool, true, false, List, [], ◌∷◌}
use Rattle.std.proofs.Common.{sym, ap, ◌∙◌, true≢false, ne_eqb}
use Rattle.arrivals.specs.Order.{has}
use Rattle.bay.specs.declared.Ring as bays
use Rattle.bay.specs.Bay.{empty_bay}
use Rattle.tables.specs.declared.Tables.{Tables}
use Rattle.tables.specs.declared.Structure.{Structure}
use Rattle.tables.specs.declared.Kind.{Kind}
use Rattle.tables.specs.declared.Kind.TheVariants as kinds
use Rattle.tables.specs.declared.Place.{Place}
use Rattle.tables.specs.declared.Place.TheVariants.{Waiting, Getting, Putting}
use Rattle.tables.specs.declared.Line.{Line}
use Rattle.tables.specs.declared.Line.TheVariants.{Getters, Putters}
use Rattle.tables.specs.Access.{numbered, replaced, nothing, structure_of, ring_in, with_structure, with_ring}
use Rattle.tables.specs.Laws.{replaced_unseen, replaced_other}
use Rattle.tables.specs.Lines.{line, stands}
use Rattle.tables.specs.Numbers.{is_semaphore}
use Rattle.ready.specs.Ready.{dispatched}
use Rattle.records.specs.declared.Record.{Record}
use Rattle.calls.specs.declared.Deed.{Deed}
use Rattle.calls.specs.Calls.{call_number}
use Rattle.semaphores.specs.Semaphores.{kind_of, with_kind}
use Rattle.steps.specs.Steps.{done}
use Rattle.sound.specs.Sound.{kind_at, Settled}
use Rattle.promises.specs.Changes.{Steady}
use Rattle.promises.specs.KeptRings.{one_ring}
use Rattle.promises.specs.Turns.{held, held_by}
use Rattle.promises.specs.LineSame.{Part, SamePart, Outside, part_dispatched}
use Rattle.promises.specs.LineCalls.{SemaphoreApart, RingApart, ring_calls, part_done}

-- Between t and u ring n is the same: its lines and its bytes
pub record SameRing (n : ℕ) (t u : Tables) : Type 0 where
  pub getters : line (Getters n) u ≡ line (Getters n) t
  pub putters : line (Putters n) u ≡ line (Putters n) t
  pub bytes : held n u ≡ held n t

-- Nothing changes
pub same_none : (n : ℕ) (t : Tables) → SameRing n t t
same_none n t = record { getters = refl; putters = refl; bytes = refl }

-- Two changes that leave ring n alone
pub same_then : {n : ℕ} {t u v : Tables} → SameRing n t u → SameRing n u v → SameRing n t v
same_then a b = record { getters = b.getters ∙ a.getters; putters = b.putters ∙ a.putters; bytes = b.bytes ∙ a.bytes }

-- ---- the bytes

-- A structure of this kind holds the same bytes where its ring, if it is one, is the same
bytes_of : (kind : Kind) (t u : Tables) → ((b : ℕ) → kind ≡ kinds.Ring b → ring_in u b ≡ ring_in t b) → held_by kind u ≡ held_by kind t
unfolding held_by
bytes_of kinds.Free t u same = refl
bytes_of (kinds.Binary v) t u same = refl
bytes_of (kinds.Counting v) t u same = refl
bytes_of (kinds.Ring b) t u same = rw (same b refl)

-- So structure n, which is of the same kind
pub same_held : (n : ℕ) (t u : Tables) → kind_at u.structures n ≡ kind_at t.structures n → ((b : ℕ) → kind_at t.structures n ≡ kinds.Ring b → ring_in u b ≡ ring_in t b) → held n u ≡ held n t
unfolding held structure_of
same_held n t u kind same =
    ap (λ (k : Kind). held_by k u) kind ∙ bytes_of (kind_at t.structures n) t u same

-- The same structures and rings hold the same bytes
pub same_bytes : (n : ℕ) (t u : Tables) → u.structures ≡ t.structures → u.rings ≡ t.rings → held n u ≡ held n t
unfolding ring_in
same_bytes n t u s r = same_held n t u (ap (λ (l : List Structure). kind_at l n) s) (λ b e. ap (λ (l : List bays.Ring). numbered l b empty_bay) r)

-- A semaphore holds no bytes
pub semaphore_holds : (kind : Kind) (t : Tables) → is_semaphore kind ≡ true → held_by kind t ≡ []
unfolding held_by
semaphore_holds kinds.Free t e = absurd (true≢false (sym e))
semaphore_holds (kinds.Binary v) t e = refl
semaphore_holds (kinds.Counting v) t e = refl
semaphore_holds (kinds.Ring b) t e = absurd (true≢false (sym e))

-- so its value changes the bytes of no ring
value_held : (n m : ℕ) (kind : Kind) (t : Tables) → is_semaphore (kind_of m t) ≡ true → is_semaphore kind ≡ true → held n (with_kind m kind t) ≡ held n t
unfolding with_kind with_structure held structure_of ring_in kind_of
value_held n m kind t was is =
    let s : Structure = record { kind = kind } in
    bytes_of (numbered (replaced t.structures m s) n nothing).kind t (with_structure t m s) (λ b k. refl)
    ∙ replaced_unseen t.structures m s (λ (z : Structure). held_by z.kind t) nothing (semaphore_holds kind t is ∙ sym (semaphore_holds (structure_of t m).kind t was)) n

-- ---- the ring as a part of the tables

-- Its getters' line, or its putters'
abbrev ring_line : ℕ → Bool → Line
ring_line n true = Getters n
ring_line n false = Putters n

-- Who is outside the structures' lines stands in neither
outside_ring : (n : ℕ) (i : Bool) (q : Place) → Outside q → stands (ring_line n i) q ≡ false
unfolding stands
outside_ring n true q o = rw o.1
outside_ring n false q o = rw o.2

-- Its two lines, and the bytes that it holds
unfoldable ring_part : ℕ → Part
ring_part n = record { Side = Bool; side = ring_line n; outside = outside_ring n; Told = List ℕ; told = held n; told_by = same_bytes n }

-- In its own words
same_ring : (n : ℕ) {t u : Tables} → SamePart (ring_part n) t u → SameRing n t u
unfolding ring_part
same_ring n s = record { getters = s.lines true; putters = s.lines false; bytes = s.rest }

-- No semaphore is a part of it,
semaphore_apart : (n m : ℕ) (t : Tables) → SemaphoreApart (ring_part n) m t
unfolding ring_part stands
semaphore_apart n m t = record { line_apart = sides; value_untold = λ kind was is. value_held n m kind t was is }
  where
    sides : (i : Bool) → stands (ring_line n i) (Waiting m) ≡ false
    sides true = refl
    sides false = refl

-- and no other ring
ring_apart : (n m : ℕ) (t : Tables) → Settled t → (n ≡ m → ⊥) → RingApart (ring_part n) m t
unfolding ring_part stands with_ring ring_in
ring_apart n m t s other =
    record {
      getters_apart = getters;
      putters_apart = putters;
      bay_untold = λ b is u ring e. same_held n u (with_ring u b ring) refl
          (λ c k. replaced_other u.rings b ring c empty_bay (λ z. other (one_ring n m b s (rw (← e) k ∙ ap kinds.Ring z) is)));
    }
  where
    getters : (l : ℕ) (i : Bool) → stands (ring_line n i) (Getting m l) ≡ false
    getters l true = ne_eqb m n (λ e. other (sym e))
    getters l false = refl

    putters : (l : ℕ) (i : Bool) → stands (ring_line n i) (Putting m l) ≡ false
    putters l true = refl
    putters l false = ne_eqb m n (λ e. other (sym e))

-- ---- what leaves it alone

-- "At the end of every accepted call, once": whoever is due runs, and no ring changes
pub same_dispatched : (n : ℕ) (t : Tables) → Settled t → SameRing n t (dispatched t)
same_dispatched n t s = same_ring n (part_dispatched (ring_part n) t s)

-- Any call but create and delete structure, if it does not act at this ring
pub same_done : (n : ℕ) (deed : Deed) (r : Record) (t : Tables) → Steady t → has (call_number deed) (10 ∷ 11 ∷ []) ≡ false
    → (has (call_number deed) ring_calls ≡ true → n ≡ r.n → ⊥) → SameRing n t (done deed r t).tables
same_done n deed r t steady structure other =
    same_ring n (part_done (ring_part n) deed r t steady structure (λ c. semaphore_apart n r.n t) (λ c. ring_apart n r.n t steady.settled (other c)))
