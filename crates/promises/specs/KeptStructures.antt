-- Create, delete and value of a structure keep tables steady.
use Rattle.std.specs.Prelude.{ℕ, zero, suc, ◌-◌, ◌≤◌, ◌≡◌, refl, true, false, List, [], ◌∷◌, eqb, leb, length, get_or}
use Rattle.std.proofs.Common.{sym, ap, subst, ◌∙◌, true≢false, arith, eq-eqb, ne_eqb, eqb-true, leb-true}
use Rattle.std.proofs.lemmas.Bool.{eqb-false}
use Rattle.basics.specs.Tests.{test, holds, fails}
use Rattle.arrivals.specs.Order.{has, keep}
use Rattle.arrivals.specs.Listed.{is_listed}
use Rattle.arrivals.specs.Views.{has_keep}
use Rattle.bay.specs.declared.Ring as bays
use Rattle.bay.specs.Bay.{ring_of, empty_bay}
use Rattle.bay.specs.Laws.{ring_of_good}
use Rattle.tables.specs.declared.Tables.{Tables}
use Rattle.tables.specs.declared.Structure.{Structure}
use Rattle.tables.specs.declared.Kind.{Kind}
use Rattle.tables.specs.declared.Kind.TheVariants as kinds
use Rattle.tables.specs.declared.Place.{Place}
use Rattle.tables.specs.declared.Place.TheVariants.{Nowhere, Running, Ready, Parked, Waiting, Getting, Putting, Asleep}
use Rattle.tables.specs.Numbers.{code, is_ring}
use Rattle.tables.specs.Access.{numbered, replaced, nothing, structure_of, with_structure, with_ring}
use Rattle.tables.specs.Lines.{waits_at, waiting_at, in_lines_of}
use Rattle.tables.specs.Laws.{numbered_zero, length_replaced, replaced_same, replaced_other}
use Rattle.answers.specs.declared.Step.{Step}
use Rattle.answers.specs.Answers.{unmoved}
use Rattle.structures.specs.Structures.{is_in, is_free, taken, free_number, free_bay, numbered_as, created_semaphore, created_ring, created, deleted_at, deleted, valued_as, valued_at, valued}
use Rattle.structures.specs.Laws.{number_free, bay_free}
use Rattle.sound.specs.Sound.{place_at, kind_at, bay_of, users, ValueFits, BayFits, Settled}
use Rattle.sound.specs.Sound as sound
use Rattle.promises.specs.Changes.{known_structure, Steady, Live, is_live, in_bay, users_replaced, Unwaited, steady_restructured, steady_plain}
use Rattle.promises.specs.KeptReady.{fits_as}
use Rattle.promises.specs.KeptSemaphores.{unwaited}

-- ---- the users of a bay

-- A ring in bay b is a user of it
users_at : (b : ℕ) (l : List Structure) (i : ℕ) → is_in b (get_or l i nothing).kind ≡ true → 1 ≤ users b l
users_at b [] i e = absurd (true≢false (sym e))
users_at b (s ∷ l) zero e = rw e (omega arith)
users_at b (s ∷ l) (suc i) e = omega (arith, users_at b l i e)

-- The same by number
pub users_some : (b : ℕ) (l : List Structure) (m : ℕ) → is_in b (kind_at l m) ≡ true → 1 ≤ users b l
unfolding numbered
users_some b l m e =
    elim (test (eqb m 0)) [
      | holds z ↦ absurd (true≢false (sym e ∙ ap (λ (s : Structure). is_in b s.kind) (numbered_zero l m nothing (eqb-true m 0 z))))
      | fails z ↦
          let same : get_or l (m - 1) nothing ≡ numbered l m nothing = rw z in
          users_at b l (m - 1) (ap (λ (s : Structure). is_in b s.kind) same ∙ e)
    ]

-- A bay that is not taken has no user
not_taken : (l : List Structure) (b : ℕ) → taken l b ≡ false → users b l ≡ 0
unfolding taken
not_taken [] b e = refl
not_taken (s ∷ l) b e =
    elim (test (is_in b s.kind)) [ holds h ↦ absurd (true≢false (rw h at e)) | fails h ↦ rw h (omega (arith, not_taken l b (rw h at e))) ]

-- A structure's bay is where it lies
bay_is : (kind : Kind) (b : ℕ) → (b ≡ 0 → ⊥) → bay_of kind ≡ b → is_in b kind ≡ true
bay_is kinds.Free b z e = absurd (z (sym e))
bay_is (kinds.Binary v) b z e = absurd (z (sym e))
bay_is (kinds.Counting v) b z e = absurd (z (sym e))
bay_is (kinds.Ring c) b z e = eq-eqb c b e

-- No structure lies in a bay without users
no_user : (l : List Structure) (b m : ℕ) → (b ≡ 0 → ⊥) → users b l ≡ 0 → bay_of (kind_at l m) ≡ b → ⊥
no_user l b m z none e = omega (arith, users_some b l m (bay_is (kind_at l m) b z e))

-- ---- create structure

-- A free number is in the table, no ring, and nobody waits there
is_free_lem : (kind : Kind) → is_free kind ≡ true → kind ≡ kinds.Free
is_free_lem kinds.Free e = refl
is_free_lem (kinds.Binary v) e = absurd (true≢false (sym e))
is_free_lem (kinds.Counting v) e = absurd (true≢false (sym e))
is_free_lem (kinds.Ring b) e = absurd (true≢false (sym e))

-- A number of the table that no structure has: nobody waits there
pub record Vacant (n : ℕ) (t : Tables) : Type 0 where
  pub some : n ≡ 0 → ⊥
  pub known : n ≤ length t.structures
  pub kind : kind_at t.structures n ≡ kinds.Free
  pub none : Unwaited n t

-- Creation's number is such a one
pub free_vacant : (t : Tables) → Steady t → (free_number t.structures ≡ 0 → ⊥) → Vacant (free_number t.structures) t
free_vacant t steady z =
    let n = free_number t.structures in
    let w = number_free t.structures z in
    let kind : kind_at t.structures n ≡ kinds.Free = is_free_lem (kind_at t.structures n) w.0 in
    record {
      some = z;
      known = omega (arith, w.2, steady.typed.structures);
      kind = kind;
      none = unwaited n t steady.settled (rw kind refl) (λ x e. subst (λ (k : Kind). sound.AtZero k) kind (fits_as t steady.settled x (Waiting n) e));
    }

-- A semaphore is created
created_semaphore_lem : (kind : Kind) (t : Tables) → Steady t → is_ring kind ≡ false → ValueFits kind → (free_number t.structures ≡ 0 → ⊥) → Steady (numbered_as (free_number t.structures) kind t).tables
unfolding numbered_as with_structure
created_semaphore_lem kind t steady is fits z =
    let v : Vacant (free_number t.structures) t = free_vacant t steady z in
    steady_plain (free_number t.structures) (record { kind = kind }) t steady v.some v.known (ap is_ring v.kind) is fits v.none

-- A ring's bay, and the others'
module _ (n b : ℕ) (s : Structure) (r : bays.Ring) (t : Tables) (steady : Steady t) (z : n ≡ 0 → ⊥) (known : n ≤ length t.structures) (bay : b ≡ 0 → ⊥) (within : b ≤ 8) (none : Unwaited n t)
    (value : ValueFits s.kind) (alone : (m : ℕ) → (m ≡ n → ⊥) → bay_of (kind_at t.structures m) ≡ b → ⊥)
    (own : BayFits (users b (replaced t.structures n s)) r)
    (apart : (c : ℕ) → (c ≡ b → ⊥) → (in_bay c (kind_at t.structures n) ≡ 0) × (in_bay c s.kind ≡ 0)) where
  pub ring_steady : Steady (record { running = t.running; order = t.order; processes = t.processes; structures = replaced t.structures n s; rings = replaced t.rings b r; parcels = t.parcels })
  ring_steady =
      steady_restructured {n = n} {s = s} {rings = replaced t.rings b r} {t = t} steady
      (record {
        some = z;
        known = known;
        unwaited = none;
        value = value;
        others = λ m h. replaced_other t.rings b r (bay_of (kind_at t.structures m)) empty_bay (alone m h);
        bays = λ c. elim (test (eqb c b)) [
          | holds e ↦ rw (eqb-true c b e, replaced_same t.rings b r empty_bay bay (omega (arith, steady.typed.rings))) own
          | fails e ↦
              let same : users c (replaced t.structures n s) ≡ users c t.structures
              = omega (arith, users_replaced c t.structures n s z known, (apart c (eqb-false c b e)).0, (apart c (eqb-false c b e)).1) in
              rw (same, replaced_other t.rings b r c empty_bay (eqb-false c b e)) (steady.settled.bays c)
        ];
        eight = length_replaced t.rings b r ∙ steady.typed.rings;
      })

-- A ring lies in its bay and in no other
other_bay : (b c : ℕ) → (c ≡ b → ⊥) → in_bay c (kinds.Ring b) ≡ 0
other_bay b c h = rw (ne_eqb b c (λ e. h (sym e)))

same_bay : (b : ℕ) → in_bay b (kinds.Ring b) ≡ 1
same_bay b = rw (eq-eqb b b refl)

-- A ring is created, in a bay that nobody uses
created_ring_lem : (size : ℕ) (t : Tables) → Steady t → (size ≡ 0 → ⊥) → size ≤ 256 → (free_number t.structures ≡ 0 → ⊥) → (free_bay t.structures ≡ 0 → ⊥)
    → Steady (numbered_as (free_number t.structures) (kinds.Ring (free_bay t.structures)) (with_ring t (free_bay t.structures) (ring_of 0 size []))).tables
unfolding numbered_as with_structure with_ring
created_ring_lem size t steady some most z y =
    let n = free_number t.structures in
    let b = free_bay t.structures in
    let v : Vacant n t = free_vacant t steady z in
    let w = bay_free t.structures y in
    let unused : users b t.structures ≡ 0 = not_taken t.structures b w.0 in
    ring_steady n b (record { kind = kinds.Ring b }) (ring_of 0 size []) t steady v.some v.known y (omega (arith, w.2)) v.none
    (omega (arith, w.1), omega (arith, w.2))
    (λ m h e. no_user t.structures b m y unused e)
    (sound.used (omega (arith, users_replaced b t.structures n (record { kind = kinds.Ring b }) v.some v.known, ap (in_bay b) v.kind, same_bay b)) (ring_of_good 0 size [] (record { small = most; within = omega arith; most = omega arith })))
    (λ c h. (ap (in_bay c) v.kind, other_bay b c h))

-- What creation does, by the kind and the amount: nothing, or a structure with the lowest free number and, if it is a ring, in the lowest free bay
module _ (kind amount : ℕ) (t : Tables) (P : Step → Type 0) (none : P (unmoved t)) where
  -- The number,
  abbrev n : ℕ
  n = free_number t.structures

  -- and the bay
  abbrev b : ℕ
  b = free_bay t.structures

  -- A semaphore, where there is a number
  semaphore_by : (k : Kind) → ((n ≡ 0 → ⊥) → P (numbered_as n k t)) → P (created_semaphore n k t)
  unfolding created_semaphore
  semaphore_by k new = elim (test (eqb n 0)) [ holds z ↦ rw z none | fails z ↦ rw z (new (eqb-false n 0 z)) ]

  -- A ring, where there is a number and a bay
  ring_by : ((n ≡ 0 → ⊥) → (b ≡ 0 → ⊥) → P (numbered_as n (kinds.Ring b) (with_ring t b (ring_of 0 amount [])))) → P (created_ring n b amount t)
  unfolding created_ring
  ring_by new =
      elim (test (eqb n 0)) [
        | holds z ↦ rw z none
        | fails z ↦ elim (test (eqb b 0)) [ holds y ↦ rw (z, y) none | fails y ↦ rw (z, y) (new (eqb-false n 0 z) (eqb-false b 0 y)) ]
      ]

  -- "Kind 1 binary (value 0 or 1), 2 counting (0 to 32,767), 3 ring (size 1 to 256)"
  pub created_by : (amount ≤ 1 → (n ≡ 0 → ⊥) → P (numbered_as n (kinds.Binary amount) t)) → (amount ≤ 32767 → (n ≡ 0 → ⊥) → P (numbered_as n (kinds.Counting amount) t))
      → ((amount ≡ 0 → ⊥) → amount ≤ 256 → (n ≡ 0 → ⊥) → (b ≡ 0 → ⊥) → P (numbered_as n (kinds.Ring b) (with_ring t b (ring_of 0 amount [])))) → P (created kind amount t)
  unfolding created
  created_by binary counting ring =
      elim (test (eqb kind 1)) [
        | holds c ↦ elim (test (leb amount 1)) [ holds d ↦ rw (c, d) (semaphore_by (kinds.Binary amount) (binary (leb-true amount 1 d))) | fails d ↦ rw (c, d) none ]
        | fails c ↦ elim (test (eqb kind 2)) [
          | holds d ↦ elim (test (leb amount 32767)) [ holds e ↦ rw (c, d, e) (semaphore_by (kinds.Counting amount) (counting (leb-true amount 32767 e))) | fails e ↦ rw (c, d, e) none ]
          | fails d ↦ elim (test (eqb kind 3)) [
            | fails e ↦ rw (c, d, e) none
            | holds e ↦ elim (test (eqb amount 0)) [
              | holds f ↦ rw (c, d, e, f) none
              | fails f ↦ elim (test (leb amount 256)) [ holds g ↦ rw (c, d, e, f, g) (ring_by (ring (eqb-false amount 0 f) (leb-true amount 256 g))) | fails g ↦ rw (c, d, e, f, g) none ]
            ]
          ]
        ]
      ]

-- "Creation takes the lowest free number and, for a ring, bay"
pub created_steady : (kind amount : ℕ) (t : Tables) → Steady t → Steady (created kind amount t).tables
created_steady kind amount t steady =
    created_by kind amount t (λ s. Steady s.tables) steady
    (λ most. created_semaphore_lem (kinds.Binary amount) t steady refl most) (λ most. created_semaphore_lem (kinds.Counting amount) t steady refl most) (created_ring_lem amount t steady)

-- ---- delete structure

-- Nobody waits where nobody is in a line
waits_live : (n : ℕ) (q : Place) → waits_at n q ≡ true → eqb (code q) 0 ≡ false
unfolding waits_at
waits_live n Nowhere e = sym e
waits_live n Running e = refl
waits_live n Ready e = refl
waits_live n Parked e = refl
waits_live n (Waiting m) e = refl
waits_live n (Getting m l) e = refl
waits_live n (Putting m l) e = refl
waits_live n (Asleep k) e = refl

-- An empty line has nobody
none_has : (l : List ℕ) (x : ℕ) → length l ≡ 0 → has x l ≡ false
none_has [] x e = refl
none_has (y ∷ l) x e = absurd (omega arith)

-- With nobody in its lines nobody waits at a structure
pub no_lines : (n : ℕ) (t : Tables) → Settled t → in_lines_of n t ≡ 0 → Unwaited n t
unfolding Unwaited in_lines_of
no_lines n t s none x =
    elim (test (waits_at n (place_at t.processes x))) [
      | fails e ↦ e
      | holds e ↦
          let live : Live x t = is_live x t s (waits_live n (place_at t.processes x) e) in
          let in_it : has x (keep (waiting_at n t.processes) t.order) ≡ true
          = has_keep (waiting_at n t.processes) x t.order ∙ rw e (is_listed x t.order (omega (arith, live.once))) in
          absurd (true≢false (sym in_it ∙ none_has (keep (waiting_at n t.processes) t.order) x none))
    ]

-- A bay with a user has one
one_user : {uses : ℕ} {r : bays.Ring} → 1 ≤ uses → BayFits uses r → uses ≡ 1
one_user h (sound.free e q) = absurd (omega arith)
one_user h (sound.used e q) = e

-- Delete, by the kind of structure n
deleted_at_lem : (n : ℕ) (t : Tables) → Steady t → Unwaited n t → (kind : Kind) → kind_at t.structures n ≡ kind → Steady (deleted_at n t kind).tables
unfolding deleted_at with_structure with_ring
deleted_at_lem n t steady none kinds.Free is = steady
deleted_at_lem n t steady none (kinds.Binary v) is =
    let here = known_structure n t (ap is_free is) in
    steady_plain n nothing t steady here.0 here.1 (ap is_ring is) refl tt none
deleted_at_lem n t steady none (kinds.Counting v) is =
    let here = known_structure n t (ap is_free is) in
    steady_plain n nothing t steady here.0 here.1 (ap is_ring is) refl tt none
deleted_at_lem n t steady none (kinds.Ring b) is =
    let here = known_structure n t (ap is_free is) in
    let fits : ValueFits (kinds.Ring b) = subst (λ (k : Kind). ValueFits k) is (steady.settled.values n) in
    let some : b ≡ 0 → ⊥ = λ e. omega (arith, fits.0) in
    let here_in : is_in b (kind_at t.structures n) ≡ true = ap (is_in b) is ∙ eq-eqb b b refl in
    let one : users b t.structures ≡ 1 = one_user (users_some b t.structures n here_in) (steady.settled.bays b) in
    let left : users b (replaced t.structures n nothing) ≡ 0 = omega (arith, users_replaced b t.structures n nothing here.0 here.1, ap (in_bay b) is, same_bay b) in
    ring_steady n b nothing empty_bay t steady here.0 here.1 some fits.1 none tt
    (λ m h e. no_user (replaced t.structures n nothing) b m some left (ap (λ (s : Structure). bay_of s.kind) (replaced_other t.structures n nothing m nothing h) ∙ e))
    (sound.free left refl)
    (λ c h. (ap (in_bay c) is ∙ other_bay b c h, refl))

-- "Deleted numbers and bays are used again"; none with a process in a line is deleted
pub deleted_steady : (n : ℕ) (t : Tables) → Steady t → in_lines_of n t ≡ 0 → Steady (deleted n t).tables
unfolding deleted structure_of
deleted_steady n t steady none = deleted_at_lem n t steady (no_lines n t steady.settled none) (kind_at t.structures n) refl

-- ---- structure value

-- The tables stay as they are
valued_at_lem : (n : ℕ) (t : Tables) → Steady t → (kind : Kind) → Steady (valued_at n t kind).tables
unfolding valued_at valued_as
valued_at_lem n t steady kinds.Free = steady
valued_at_lem n t steady (kinds.Binary v) = steady
valued_at_lem n t steady (kinds.Counting v) = steady
valued_at_lem n t steady (kinds.Ring b) = steady

pub valued_steady : (n : ℕ) (t : Tables) → Steady t → Steady (valued n t).tables
unfolding valued
valued_steady n t steady = valued_at_lem n t steady (structure_of t n).kind
