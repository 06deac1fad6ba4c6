-- Structures 1 to 24, of kind 1 binary, 2 counting, 3 ring, and eight ring bays: creation, deletion, and the value that is asked for.
use Rattle.std.specs.Prelude.{ℕ, zero, suc, Bool, true, false, cond, not, List, [], ◌∷◌, eqb, leb, replicate}
use Rattle.bay.specs.Bay.{ring_of, empty_bay}
use Rattle.tables.specs.declared.Tables.{Tables}
use Rattle.tables.specs.declared.Structure.{Structure}
use Rattle.tables.specs.declared.Kind.{Kind}
use Rattle.tables.specs.declared.Kind.TheVariants as kinds
use Rattle.tables.specs.Numbers.{kind_number}
use Rattle.tables.specs.Access.{numbered, nothing, structure_of, ring_in, with_structure, with_ring}
use Rattle.tables.specs.Lines.{in_lines_of}
use Rattle.answers.specs.declared.Outcome.TheVariants.{Done}
use Rattle.answers.specs.declared.Step.{Step}
use Rattle.answers.specs.Answers.{answer, plain, step, unmoved}

-- The lowest of the m numbers from n on that passes the test, or 0
unfoldable pub lowest_from : (ℕ → Bool) → ℕ → ℕ → ℕ
lowest_from free n zero = 0
lowest_from free n (suc m) = cond (free n) n (lowest_from free (suc n) m)

-- A number is free where no structure is live
abbrev pub is_free : Kind → Bool
is_free kinds.Free = true
is_free (kinds.Binary v) = false
is_free (kinds.Counting v) = false
is_free (kinds.Ring b) = false

abbrev pub free : List Structure → ℕ → Bool
free structures n = is_free (numbered structures n nothing).kind

-- A bay is taken where a live structure is a ring in it
abbrev pub is_in : ℕ → Kind → Bool
is_in b kinds.Free = false
is_in b (kinds.Binary v) = false
is_in b (kinds.Counting v) = false
is_in b (kinds.Ring c) = eqb c b

unfoldable pub taken : List Structure → ℕ → Bool
taken [] b = false
taken (s ∷ l) b = cond (is_in b s.kind) true (taken l b)

-- The lowest free number of 1 to 24, and the lowest free bay of 1 to 8; 0 where there is none
unfoldable pub free_number : List Structure → ℕ
free_number structures = lowest_from (free structures) 1 24

unfoldable pub free_bay : List Structure → ℕ
free_bay structures = lowest_from (λ b. not (taken structures b)) 1 8

-- A structure of this kind has the number n from now on, and the answer says so
unfoldable pub numbered_as : ℕ → Kind → Tables → Step
numbered_as n kind t = step (with_structure t n (record { kind = kind })) (answer Done n 0 0 (replicate 64 0))

-- A semaphore with the number n; where there is no number nothing is created
unfoldable pub created_semaphore : ℕ → Kind → Tables → Step
created_semaphore n kind t = cond (eqb n 0) (unmoved t) (numbered_as n kind t)

-- A ring with the number n in bay b, which begins at 0 and holds nothing; where there is no number or no bay nothing is created
unfoldable pub created_ring : ℕ → ℕ → ℕ → Tables → Step
created_ring n b size t =
    cond (eqb n 0) (unmoved t)
    (cond (eqb b 0) (unmoved t)
    (numbered_as n (kinds.Ring b) (with_ring t b (ring_of 0 size []))))

-- Creation takes the lowest free number and, for a ring, bay. Kind 1 binary (value 0 or 1), 2 counting (0 to 32,767), 3 ring (size 1 to 256)
unfoldable pub created : ℕ → ℕ → Tables → Step
created kind amount t =
    cond (eqb kind 1) (cond (leb amount 1) (created_semaphore (free_number t.structures) (kinds.Binary amount) t) (unmoved t))
    (cond (eqb kind 2) (cond (leb amount 32767) (created_semaphore (free_number t.structures) (kinds.Counting amount) t) (unmoved t))
    (cond (eqb kind 3)
    (cond (eqb amount 0) (unmoved t)
    (cond (leb amount 256) (created_ring (free_number t.structures) (free_bay t.structures) amount t) (unmoved t)))
    (unmoved t)))

-- Deleted numbers and bays are used again: the number is free, and a ring's bay is all zero
unfoldable pub deleted_at : ℕ → Tables → Kind → Step
deleted_at n t kinds.Free = unmoved t
deleted_at n t (kinds.Binary v) = step (with_structure t n nothing) (plain Done)
deleted_at n t (kinds.Counting v) = step (with_structure t n nothing) (plain Done)
deleted_at n t (kinds.Ring b) = step (with_ring (with_structure t n nothing) b empty_bay) (plain Done)

unfoldable pub deleted : ℕ → Tables → Step
deleted n t = deleted_at n t (structure_of t n).kind

-- Structure value: N processes in its lines, L kind, M value or bytes held
unfoldable pub valued_as : ℕ → Tables → Kind → ℕ → Step
valued_as n t kind m = step t (answer Done (in_lines_of n t) (kind_number kind) m (replicate 64 0))

unfoldable pub valued_at : ℕ → Tables → Kind → Step
valued_at n t kinds.Free = unmoved t
valued_at n t (kinds.Binary v) = valued_as n t (kinds.Binary v) v
valued_at n t (kinds.Counting v) = valued_as n t (kinds.Counting v) v
valued_at n t (kinds.Ring b) = valued_as n t (kinds.Ring b) (ring_in t b).held

unfoldable pub valued : ℕ → Tables → Step
valued n t = valued_at n t (structure_of t n).kind
