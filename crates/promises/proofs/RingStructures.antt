-- Create and delete structure: a ring begins and ends with nothing put, got and held, and every other ring rests.
use Rattle.std.specs.Prelude.{ℕ, ◌≤◌, ◌≡◌, true, false, eqb, length, replicate}
use Rattle.std.proofs.Math.Path.{refl, ap}
use Rattle.std.proofs.Common.{sym, ◌∙◌}
use mathlib.Core.List.{List, []}
use native.Mathlib.Omega.{arith}
use borrow.Author.Tests.{eq-eqb, eqb-true, eqb-false}
use Rattle.basics.specs.Tests.{test, holds, fails}
use Rattle.bay.specs.declared.Ring as bays
use Rattle.bay.specs.Bay.{contents, ring_of, empty_bay}
use Rattle.bay.specs.Laws.{contents_ring_of}
use Rattle.tables.specs.declared.Tables.{Tables}
use Rattle.tables.specs.declared.Structure.{Structure}
use Rattle.tables.specs.declared.Kind.{Kind}
use Rattle.tables.specs.declared.Kind.TheVariants as kinds
use Rattle.tables.specs.declared.Line.TheVariants.{Getters, Putters}
use Rattle.tables.specs.Numbers.{is_semaphore}
use Rattle.tables.specs.Access.{replaced, nothing, structure_of, ring_in, with_structure, with_ring}
use Rattle.tables.specs.Laws.{replaced_same, replaced_other}
use Rattle.tables.specs.Lines.{line}
use Rattle.answers.specs.declared.Outcome.TheVariants.{Done}
use Rattle.answers.specs.declared.Answer.{Answer}
use Rattle.answers.specs.declared.Step.{Step}
use Rattle.answers.specs.Answers.{answer, plain, step}
use Rattle.records.specs.declared.Record.{Record}
use Rattle.refusals.specs.Refusals.{either}
use Rattle.steps.specs.Steps.{replied_by, replied}
use Rattle.structures.specs.Structures.{is_free, free_number, free_bay, numbered_as, created, deleted_at, deleted}
use Rattle.structures.specs.Laws.{bay_free}
use Rattle.sound.specs.Sound.{kind_at, Settled}
use Rattle.promises.specs.Changes.{known_structure, Steady, structured_to}
use Rattle.promises.specs.KeptRings.{one_ring}
use Rattle.promises.specs.KeptStructures.{free_vacant, created_by}
use Rattle.promises.specs.Run.{Event}
use Rattle.promises.specs.Turns.{answered, creates, structure_begins, left_line, parcels_bytes, put, got, held, held_by}
use Rattle.promises.specs.RingDeeds.{structure_ends, RingDeed, begins, ends}
use Rattle.promises.specs.Answered.{seen, not_among, by_call}
use Rattle.promises.specs.RingLines.{SameRing, same_held, same_dispatched, semaphore_holds}
use Rattle.promises.specs.RingRests.{unmoved_rests, at_ring, idle, calls_at, stays_none, step_rests}

-- ---- structure m is another, and the rings are these

module _ (n m : ℕ) (s : Structure) (rings : List bays.Ring) (t : Tables) where
  -- The tables then
  abbrev then : Tables
  then = structured_to m s rings t

  -- No line changes,
  same_lines : (line (Getters n) then ≡ line (Getters n) t) × (line (Putters n) then ≡ line (Putters n) t)
  unfolding line
  same_lines = (refl, refl)

  -- every other structure is as it was,
  same_kind : (n ≡ m → ⊥) → kind_at then.structures n ≡ kind_at t.structures n
  same_kind h = ap (λ (y : Structure). y.kind) (replaced_other t.structures m s n nothing h)

  -- and so is what it holds, if its ring is the same
  same_other : (n ≡ m → ⊥) → ((b : ℕ) → kind_at t.structures n ≡ kinds.Ring b → ring_in then b ≡ ring_in t b) → SameRing n t then
  same_other h rest = record { getters = same_lines.0; putters = same_lines.1; bytes = same_held n t then (same_kind h) rest }

  -- What structure m holds then
  own_held : (m ≡ 0 → ⊥) → m ≤ length t.structures → held m then ≡ held_by s.kind then
  unfolding held structure_of
  own_held some known = ap (λ (y : Structure). held_by y.kind then) (replaced_same t.structures m s nothing some known)

-- Where the rings stay another structure is the same,
same_rings : (n m : ℕ) (s : Structure) (t : Tables) → (n ≡ m → ⊥) → SameRing n t (structured_to m s t.rings t)
unfolding ring_in
same_rings n m s t h = same_other n m s t.rings t h (λ b k. refl)

-- and where all stay but the one in bay b, another that lies elsewhere
same_but : (n m b : ℕ) (s : Structure) (x : bays.Ring) (t : Tables) → (n ≡ m → ⊥) → (kind_at t.structures n ≡ kinds.Ring b → ⊥) → SameRing n t (structured_to m s (replaced t.rings b x) t)
unfolding ring_in
same_but n m b s x t h apart = same_other n m s (replaced t.rings b x) t h (λ c k. replaced_other t.rings b x c empty_bay (λ e. apart (k ∙ ap kinds.Ring e)))

-- ---- a life begins, or ends

module _ (n : ℕ) (t u : Tables) (r : Record) (a : Answer) (settled : Settled u) (lines : (line (Getters n) u ≡ line (Getters n) t) × (line (Putters n) u ≡ line (Putters n) t)) where
  -- What a reader sees
  abbrev e : Event
  e = seen t r (replied (step u a))

  -- Nobody left a line of ring n,
  none_left : (left_line (Getters n) e ≡ []) × (left_line (Putters n) e ≡ [])
  unfolding replied replied_by
  none_left = (
    stays_none (Getters n) e ((same_dispatched n u settled).getters ∙ lines.0),
    stays_none (Putters n) e ((same_dispatched n u settled).putters ∙ lines.1),
  )

  -- so nothing is put by a call that is no put,
  nothing_put : either (answered 18 n 0 e) (answered 19 n 0 e) ≡ false → put n e ≡ []
  unfolding put parcels_bytes
  nothing_put h = rw (h, none_left.1)

  -- or got
  nothing_got : either (answered 20 n 0 e) (answered 21 n 0 e) ≡ false → got n e ≡ []
  unfolding got parcels_bytes
  nothing_got h = rw (h, none_left.0)

  -- and nothing is held, also when whoever is due runs
  nothing_held : held n u ≡ [] → held n e.after ≡ []
  unfolding replied replied_by
  nothing_held h = (same_dispatched n u settled).bytes ∙ h

-- Structure m is created, and the reply says so: ring n begins if it is that one, and else rests
created_one : (n m : ℕ) (t u : Tables) (r : Record) → r.what ≡ 10 → Settled u → (line (Getters n) u ≡ line (Getters n) t) × (line (Putters n) u ≡ line (Putters n) t)
    → held m u ≡ [] → ((n ≡ m → ⊥) → SameRing n t u) → RingDeed n (seen t r (replied (step u (answer Done m 0 0 (replicate 64 0)))))
unfolding replied replied_by structure_begins creates answered
created_one n m t u r call settled lines own other =
    let new = answer Done m 0 0 (replicate 64 0) in
    let reader = seen t r (replied (step u new)) in
    elim (test (eqb m n)) [
      | holds q ↦ begins (rw (call, q)) (nothing_put n t u r new settled lines (rw call)) (nothing_got n t u r new settled lines (rw call)) (nothing_held n t u r new settled lines (rw (← eqb-true m n q) own))
      | fails q ↦ step_rests n t r (step u new) settled
          (idle n reader (rw (call, q)) (λ c k. by_call c n 0 reader (rw call (not_among 10 calls_at refl c k))))
          (other (λ h. eqb-false m n q (sym h)))
    ]

-- ---- create structure

module _ (n : ℕ) (t : Tables) (r : Record) (steady : Steady t) (call : r.what ≡ 10) where
  -- The new number, and what a step of this call does
  abbrev m : ℕ
  m = free_number t.structures

  abbrev DeedOf : Step → Type 0
  DeedOf s = Settled s.tables → RingDeed n (seen t r (replied s))

  -- A semaphore
  semaphore_created : (kind : Kind) → is_semaphore kind ≡ true → (m ≡ 0 → ⊥) → DeedOf (numbered_as m kind t)
  unfolding numbered_as with_structure
  semaphore_created kind is z settled =
      let s : Structure = record { kind = kind } in
      created_one n m t (then n m s t.rings t) r call settled (same_lines n m s t.rings t)
      (own_held n m s t.rings t z (free_vacant t steady z).known ∙ semaphore_holds kind (then n m s t.rings t) is) (same_rings n m s t)

  -- A ring, in a bay that no other has,
  module _ (size : ℕ) (some : size ≡ 0 → ⊥) (most : size ≤ 256) (z : m ≡ 0 → ⊥) (y : free_bay t.structures ≡ 0 → ⊥) where
    -- Its bay, and the tables with it
    abbrev b : ℕ
    b = free_bay t.structures

    abbrev made : Tables
    made = structured_to m (record { kind = kinds.Ring b }) (replaced t.rings b (ring_of 0 size [])) t

    -- It is a ring there
    made_kind : kind_at made.structures m ≡ kinds.Ring b
    made_kind = ap (λ (x : Structure). x.kind) (replaced_same t.structures m (record { kind = kinds.Ring b }) nothing z (free_vacant t steady z).known)

    -- and holds nothing
    made_held : held m made ≡ []
    unfolding held_by ring_in
    made_held =
        own_held n m (record { kind = kinds.Ring b }) (replaced t.rings b (ring_of 0 size [])) t z (free_vacant t steady z).known
        ∙ ap contents (replaced_same t.rings b (ring_of 0 size []) empty_bay y (omega (arith, (bay_free t.structures y).2, steady.typed.rings)))
        ∙ contents_ring_of 0 size [] (record { small = most; within = omega arith; most = omega arith })

    -- Another ring lies elsewhere
    made_apart : Settled made → (n ≡ m → ⊥) → kind_at t.structures n ≡ kinds.Ring b → ⊥
    made_apart settled h k = h (one_ring n m b settled (same_kind n m (record { kind = kinds.Ring b }) made.rings t h ∙ k) made_kind)

    -- So it begins, and every other rests
    ring_made : DeedOf (numbered_as m (kinds.Ring b) (with_ring t b (ring_of 0 size [])))
    unfolding numbered_as with_structure with_ring
    ring_made settled =
        created_one n m t made r call settled (same_lines n m (record { kind = kinds.Ring b }) made.rings t) made_held
        (λ h. same_but n m b (record { kind = kinds.Ring b }) (ring_of 0 size []) t h (made_apart settled h))

  -- Call 10
  pub created_deed : (kind amount : ℕ) → DeedOf (created kind amount t)
  created_deed kind amount =
      created_by kind amount t DeedOf (unmoved_rests n t r) (λ most. semaphore_created (kinds.Binary amount) refl) (λ most. semaphore_created (kinds.Counting amount) refl) (ring_made amount)

-- ---- delete structure

module _ (n : ℕ) (t : Tables) (r : Record) (steady : Steady t) (call : r.what ≡ 11) where
  -- Structure N is free then: if it was ring n, that ends, and else ring n rests
  deleted_one : (rings : List bays.Ring) → is_free (kind_at t.structures r.n) ≡ false → ((n ≡ r.n → ⊥) → SameRing n t (structured_to r.n nothing rings t)) → Settled (structured_to r.n nothing rings t)
      → RingDeed n (seen t r (replied (step (structured_to r.n nothing rings t) (plain Done))))
  unfolding replied replied_by structure_ends answered held_by
  deleted_one rings live other settled =
      let u = structured_to r.n nothing rings t in
      let lines = same_lines r.n r.n nothing rings t in
      let here = known_structure r.n t live in
      at_ring n t r (step u (plain Done)) (rw call)
      (ends (rw (eq-eqb r.what 11 call, eq-eqb r.n r.n refl))
      (nothing_put r.n t u r (plain Done) settled lines (rw call))
      (nothing_got r.n t u r (plain Done) settled lines (rw call))
      (nothing_held r.n t u r (plain Done) settled lines (own_held r.n r.n nothing rings t here.0 here.1)))
      other settled

  -- Delete, by the kind of structure N
  deleted_by : (kind : Kind) → kind_at t.structures r.n ≡ kind → Settled (deleted_at r.n t kind).tables → RingDeed n (seen t r (replied (deleted_at r.n t kind)))
  unfolding deleted_at with_structure with_ring
  deleted_by kinds.Free e settled = unmoved_rests n t r settled
  deleted_by (kinds.Binary v) e settled = deleted_one t.rings (rw e) (same_rings n r.n nothing t) settled
  deleted_by (kinds.Counting v) e settled = deleted_one t.rings (rw e) (same_rings n r.n nothing t) settled
  deleted_by (kinds.Ring b) e settled =
      deleted_one (replaced t.rings b empty_bay) (rw e)
      (λ other. same_but n r.n b nothing empty_bay t other (λ k. other (one_ring n r.n b steady.settled k e))) settled

  -- Call 11
  pub deleted_deed : Settled (deleted r.n t).tables → RingDeed n (seen t r (replied (deleted r.n t)))
  unfolding deleted structure_of
  deleted_deed settled = deleted_by (kind_at t.structures r.n) refl settled
