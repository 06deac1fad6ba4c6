-- What leaves a semaphore as it is: its line and its kind. Every step of every call but those that act there.
use Rattle.std.specs.Prelude.{ℕ, ◌≡◌, true, false, not, eqb}
use Rattle.std.proofs.Math.Path.{refl, ap}
use Rattle.std.proofs.Common.{sym, ◌∙◌}
use mathlib.Core.List.{List, [], ◌∷◌}
use borrow.Author.Tests.{ne_eqb}
use Rattle.arrivals.specs.Order.{has, first}
use Rattle.bay.specs.declared.Ring as bays
use Rattle.bay.specs.Bay.{empty_bay}
use Rattle.tables.specs.declared.Tables.{Tables}
use Rattle.tables.specs.declared.Structure.{Structure}
use Rattle.tables.specs.declared.Kind.{Kind}
use Rattle.tables.specs.declared.Kind.TheVariants as kinds
use Rattle.tables.specs.declared.Line.TheVariants.{Semaphore}
use Rattle.tables.specs.Numbers.{is_semaphore}
use Rattle.tables.specs.Access.{nothing, structure_of, with_structure, with_ring}
use Rattle.tables.specs.Lines.{line, stands}
use Rattle.tables.specs.Laws.{replaced_same, replaced_other}
use Rattle.ready.specs.Ready.{dispatched}
use Rattle.records.specs.declared.Record.{Record}
use Rattle.calls.specs.declared.Deed.{Deed}
use Rattle.calls.specs.Calls.{call_number}
use Rattle.steps.specs.Steps.{done}
use Rattle.semaphores.specs.Semaphores.{kind_of, with_kind, has_line}
use Rattle.structures.specs.Structures as structures
use Rattle.sound.specs.Sound.{kind_at, Settled}
use Rattle.promises.specs.Changes.{Steady, known_structure}
use Rattle.promises.specs.KeptSemaphores.{semaphore_live}
use Rattle.promises.specs.LineSame.{Part, SamePart, part_dispatched}
use Rattle.promises.specs.LineCalls.{semaphore_calls, part_done}

-- Between t and u nothing is changed at semaphore n
pub record Same (n : ℕ) (t u : Tables) : Type 0 where
  pub line_same : line (Semaphore n) u ≡ line (Semaphore n) t
  pub kind_same : (structure_of u n).kind ≡ (structure_of t n).kind

-- Nothing is changed by nothing
pub same_none : (n : ℕ) (t : Tables) → Same n t t
same_none n t = record { line_same = refl; kind_same = refl }

-- One step after the other
pub same_then : {n : ℕ} {t u v : Tables} → Same n t u → Same n u v → Same n t v
same_then a b = record { line_same = b.line_same ∙ a.line_same; kind_same = b.kind_same ∙ a.kind_same }

module _ (n : ℕ) where
  -- ---- the semaphore as a part of the tables

  -- Its line, and its kind
  unfoldable semaphore_part : Part
  unfolding stands structure_of
  semaphore_part =
      record {
        Side = Unit {0};
        side = λ i. Semaphore n;
        outside = λ i q o. rw o.0;
        Told = Kind;
        told = λ t. (structure_of t n).kind;
        told_by = λ t u s r. ap (λ (l : List Structure). kind_at l n) s;
      }

  -- In its own words
  same_part : {t u : Tables} → SamePart semaphore_part t u → Same n t u
  unfolding semaphore_part
  same_part s = record { line_same = s.lines tt; kind_same = s.rest }

  -- Another structure is changed
  pub structure_same : (m : ℕ) (s : Structure) (t : Tables) → (n ≡ m → ⊥) → Same n t (with_structure t m s)
  unfolding with_structure line structure_of
  structure_same m s t other = record { line_same = refl; kind_same = ap (λ (x : Structure). x.kind) (replaced_other t.structures m s n nothing other) }

  -- A ring in its bay does not matter
  pub ring_same : (b : ℕ) (ring : bays.Ring) (t : Tables) → Same n t (with_ring t b ring)
  unfolding with_ring line structure_of
  ring_same b ring t = record { line_same = refl; kind_same = refl }

  -- ---- what leaves it as it is

  -- Whoever is due runs
  pub dispatched_same : (t : Tables) → Settled t → Same n t (dispatched t)
  dispatched_same t s = same_part (part_dispatched semaphore_part t s)

  -- Any call but create and delete structure, if it does not act at this semaphore
  pub done_same : (deed : Deed) (r : Record) (t : Tables) → Steady t → has (call_number deed) (10 ∷ 11 ∷ []) ≡ false
      → (has (call_number deed) semaphore_calls ≡ true → n ≡ r.n → ⊥) → Same n t (done deed r t).tables
  unfolding semaphore_part stands with_kind with_ring structure_of
  done_same deed r t steady there other =
      same_part (part_done semaphore_part deed r t steady there
      (λ c. record {
        line_apart = λ i. ne_eqb r.n n (λ e. other c (sym e));
        value_untold = λ kind was is. (structure_same r.n (record { kind = kind }) t (other c)).kind_same;
      })
      (λ c. record { getters_apart = λ l i. refl; putters_apart = λ l i. refl; bay_untold = λ b is u ring e. refl }))

  -- Delete of another structure
  pub elsewhere_deleted : (m : ℕ) (t : Tables) → (n ≡ m → ⊥) → Same n t (structures.deleted m t).tables
  unfolding structures.deleted structures.deleted_at
  elsewhere_deleted m t other = of (structure_of t m).kind
    where
      of : (kind : Kind) → Same n t (structures.deleted_at m t kind).tables
      of kinds.Free = same_none n t
      of (kinds.Binary v) = structure_same m nothing t other
      of (kinds.Counting v) = structure_same m nothing t other
      of (kinds.Ring b) = same_then (structure_same m nothing t other) (ring_same b empty_bay (with_structure t m nothing))

-- ---- a semaphore's value, and an empty line

-- A semaphore with another value has it, and its line stays
pub kind_now : (n : ℕ) (kind : Kind) (t : Tables) → is_semaphore (kind_of n t) ≡ true → (structure_of (with_kind n kind t) n).kind ≡ kind
unfolding with_kind with_structure structure_of kind_of
kind_now n kind t is =
    let here = known_structure n t (semaphore_live (kind_at t.structures n) is) in
    ap (λ (s : Structure). s.kind) (replaced_same t.structures n (record { kind = kind }) nothing here.0 here.1)

pub kind_line : (n : ℕ) (kind : Kind) (t : Tables) → line (Semaphore n) (with_kind n kind t) ≡ line (Semaphore n) t
unfolding with_kind with_structure line
kind_line n kind t = refl

-- Nobody heads an empty line
pub no_head : (n : ℕ) (t : Tables) → line (Semaphore n) t ≡ [] → has_line n t ≡ false
unfolding has_line
no_head n t empty = ap (λ (l : List ℕ). not (eqb (first l) 0)) empty
