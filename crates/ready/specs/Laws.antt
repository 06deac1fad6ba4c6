-- What joining a line, a release and a dispatch do to the lines and the tables.
use Rattle.std.specs.Prelude.{ℕ, ◌≤◌, ◌<◌, ◌≡◌, refl, Bool, true, false, cond, List, [], ◌∷◌, ◌++◌, ◌⊎◌, eqb, leb, ltb, length}
use Rattle.std.proofs.Common.{sym, ◌∙◌, true≢false, inl, inr, ⊎_elim, arith, eq-eqb, ne_eqb, leb-true, leb-false}
use Rattle.std.proofs.Math.Path.{ap}
use Rattle.basics.specs.Tests.{test, holds, fails}
use Rattle.arrivals.specs.Order.{count, has, first, without}
use Rattle.arrivals.specs.Listed.{count_moved}
use Rattle.arrivals.specs.Views.{in_line, enters, leaves_moved, stays_moved}
use Rattle.tables.specs.declared.Tables.{Tables}
use Rattle.tables.specs.declared.Place.{Place}
use Rattle.tables.specs.declared.Place.TheVariants.{Nowhere, Running, Ready, Parked, Waiting, Getting, Putting, Asleep}
use Rattle.tables.specs.declared.Line.{Line}
use Rattle.tables.specs.declared.Line.TheVariants as lines
use Rattle.tables.specs.Numbers.{code}
use Rattle.tables.specs.Access.{numbered, process_of, with_process, with_running, replaced, nobody}
use Rattle.tables.specs.Lines.{line, stands, standing, urgency, behind_equals, by_urgency, ready_line}
use Rattle.tables.specs.Laws.{numbered_past, replaced_same, replaced_other, replaced_unseen}
use Rattle.ready.specs.Ready.{placed, with_place, joins, runner_joins, released_to, released, runs, dispatched, dispatched_to}

-- Process p joins a line of those in this place; p is live and listed once
module _ (p : ℕ) (place : Place) (t : Tables) (some : p ≡ 0 → ⊥) (known : p ≤ length t.processes) (once : count p t.order ≡ 1) where
  -- The test of a line x before and after
  before : Line → ℕ → Bool
  before x = standing x t.processes

  after : Line → ℕ → Bool
  after x = standing x (replaced t.processes p (placed (process_of t p) place))

  agree : (x : Line) (y : ℕ) → (y ≡ p → ⊥) → after x y ≡ before x y
  unfolding before after
  agree x y h = ap (λ q. stands x q.place) (replaced_other t.processes p (placed (process_of t p) place) y nobody h)

  now_at : (x : Line) → after x p ≡ stands x place
  unfolding after
  now_at x = ap (λ q. stands x q.place) (replaced_same t.processes p (placed (process_of t p) place) nobody some known)

  -- It stands last in the line that it enters
  pub joins_enters : (x : Line) → stands x (process_of t p).place ≡ false → stands x place ≡ true → line x (joins p place t) ≡ line x t ++ (p ∷ [])
  unfolding line joins with_place with_process process_of before after
  joins_enters x was is = rw (ne_eqb p 0 some) (enters (before x) (after x) p (agree x) t.order once was (now_at x ∙ is))

  -- It is gone from a line that it leaves
  pub joins_leaves : (x : Line) → stands x place ≡ false → line x (joins p place t) ≡ without p (line x t)
  unfolding line joins with_place with_process process_of before after
  joins_leaves x is = rw (ne_eqb p 0 some) (leaves_moved (before x) (after x) p (agree x) t.order once (now_at x ∙ is))

  -- Every other line stays as it was
  pub joins_stays : (x : Line) → stands x (process_of t p).place ≡ false → stands x place ≡ false → line x (joins p place t) ≡ line x t
  unfolding line joins with_place with_process process_of before after
  joins_stays x was is = rw (ne_eqb p 0 some) (stays_moved (before x) (after x) p (agree x) t.order was (now_at x ∙ is))

-- A release takes a process out of every line but the ready and the parked one ..
pub release_leaves : (p : ℕ) (t : Tables) → (p ≡ 0 → ⊥) → p ≤ length t.processes → count p t.order ≡ 1 → (x : Line) → ((b : Bool) → stands x (released_to b) ≡ false) → line x (released p t) ≡ without p (line x t)
unfolding released
release_leaves p t some known once x apart = joins_leaves p _ t some known once x (apart (process_of t p).suspended)

-- .. and puts it last into the one of these two where it then stands
pub release_enters : (p : ℕ) (t : Tables) → (p ≡ 0 → ⊥) → p ≤ length t.processes → count p t.order ≡ 1 → (x : Line) → stands x (process_of t p).place ≡ false → stands x (released_to (process_of t p).suspended) ≡ true → line x (released p t) ≡ line x t ++ (p ∷ [])
unfolding released
release_enters p t some known once x was is = joins_enters p _ t some known once x was is

-- Suspended it is in the parked line, else in the ready line
pub released_stands : (b : Bool) → stands (cond b lines.Parked lines.Ready) (released_to b) ≡ true
unfolding stands
released_stands true = refl
released_stands false = refl

-- ---- the head of the ready line

module _ (f : ℕ → ℕ) where
  -- A newcomer stands in the line with the others
  pub has_inserted : (x z : ℕ) (l : List ℕ) → has z (behind_equals f x l) ≡ cond (eqb x z) true (has z l)
  has_inserted x z [] = refl
  has_inserted x z (y ∷ l) =
      elim (test (ltb (f y) (f x))) [
        | holds e ↦ rw e
        | fails e ↦ rw (e, has_inserted x z l) (elim (test (eqb x z)) [
          | holds a ↦ elim (test (eqb y z)) [ holds b ↦ rw (a, b) | fails b ↦ rw (a, b) ]
          | fails a ↦ elim (test (eqb y z)) [ holds b ↦ rw (a, b) | fails b ↦ rw (a, b) ]
        ])
      ]

  -- Those of both lists stand in it
  pub has_all : (z : ℕ) (s l : List ℕ) → has z (by_urgency f s l) ≡ cond (has z s) true (has z l)
  has_all z s [] = elim (test (has z s)) [ holds e ↦ rw e | fails e ↦ rw e ]
  has_all z s (x ∷ l) =
      has_all z (behind_equals f x s) l ∙ rw (has_inserted x z s) (elim (test (eqb x z)) [
        | holds a ↦ elim (test (has z s)) [ holds b ↦ rw (a, b) | fails b ↦ rw (a, b) ]
        | fails a ↦ elim (test (has z s)) [ holds b ↦ rw (a, b) | fails b ↦ rw (a, b) ]
      ])

-- A list is empty, or has its head
pub first_has : (l : List ℕ) → (first l ≡ 0) ⊎ (has (first l) l ≡ true)
first_has [] = inl refl
first_has (x ∷ l) = inr (rw (eq-eqb x x refl))

-- Who stands in the ready line is ready
pub stands_ready : (q : Place) → stands lines.Ready q ≡ true → q ≡ Ready
unfolding stands
stands_ready Nowhere e = absurd (true≢false (sym e))
stands_ready Running e = absurd (true≢false (sym e))
stands_ready Ready e = refl
stands_ready Parked e = absurd (true≢false (sym e))
stands_ready (Waiting n) e = absurd (true≢false (sym e))
stands_ready (Getting n l) e = absurd (true≢false (sym e))
stands_ready (Putting n l) e = absurd (true≢false (sym e))
stands_ready (Asleep k) e = absurd (true≢false (sym e))

-- Who stands there stands in the line of those who are ready
in_ready : (z : ℕ) (t : Tables) → has z (ready_line t) ≡ has z (line lines.Ready t)
unfolding ready_line
in_ready z t = has_all (urgency t.processes) z [] (line lines.Ready t)

-- Its head, if there is one, is ready
pub head_ready : (t : Tables) → (first (ready_line t) ≡ 0 → ⊥) → (numbered t.processes (first (ready_line t)) nobody).place ≡ Ready
unfolding line
head_ready t z =
    ⊎_elim (λ e. absurd (z e))
    (λ h. stands_ready _ (in_line (standing lines.Ready t.processes) (first (ready_line t)) t.order (sym (in_ready (first (ready_line t)) t) ∙ h)).0)
    (first_has (ready_line t))

-- and a number of the table
pub head_known : (t : Tables) → first (ready_line t) ≤ length t.processes
head_known t =
    let h = first (ready_line t) in
    elim (test (leb h (length t.processes))) [
      | holds b ↦ leb-true h (length t.processes) b
      | fails b ↦
          let past : length t.processes < h = leb-false h (length t.processes) b in
          let z : ◌≡◌ {A = ℕ} 0 2 = ap (λ q. code q.place) (sym (numbered_past t.processes h nobody past)) ∙ ap code (head_ready t (omega arith)) in
          absurd (omega arith)
    ]

-- ---- what stays

-- Between t and u at most the places of p and of q, the order's sequence and the runner differ
pub record OnlyPlaces (p q : ℕ) (t u : Tables) : Type 0 where
  pub structures : u.structures ≡ t.structures
  pub rings : u.rings ≡ t.rings
  pub parcels : u.parcels ≡ t.parcels
  pub listed : (x : ℕ) → count x u.order ≡ count x t.order
  pub places : (x : ℕ) → (x ≡ p → ⊥) → (x ≡ q → ⊥) → process_of u x ≡ process_of t x
  pub rest : (x : ℕ) → placed (process_of u x) Ready ≡ placed (process_of t x) Ready

only_none : (p q : ℕ) (t : Tables) → OnlyPlaces p q t t
only_none p q t = record { structures = refl; rings = refl; parcels = refl; listed = λ x. refl; places = λ x a b. refl; rest = λ x. refl }

-- A place is all that a new place changes
place_rest : (p x : ℕ) (place : Place) (t : Tables) → placed (process_of (with_place t p place) x) Ready ≡ placed (process_of t x) Ready
unfolding with_place with_process process_of
place_rest p x place t = replaced_unseen t.processes p (placed (process_of t p) place) (λ q. placed q Ready) nobody refl x

only_runs : (p h : ℕ) (t u : Tables) → OnlyPlaces p h t u → OnlyPlaces p h t (runs h u)
unfolding runs with_place with_process process_of
only_runs p h t u o =
    record {
      structures = o.structures;
      rings = o.rings;
      parcels = o.parcels;
      listed = o.listed;
      places = λ x a b. replaced_other u.processes h (placed (process_of u h) Running) x nobody b ∙ o.places x a b;
      rest = λ x. place_rest h x Running u ∙ o.rest x;
    }

-- Joining a line changes nothing but the place of the one who joins, and the order,
pub only_joins : (p h : ℕ) (place : Place) (t : Tables) → OnlyPlaces p h t (joins p place t)
unfolding joins with_place with_process process_of
only_joins p h place t =
    elim (test (eqb p 0)) [
      | holds z ↦ rw z (only_none p h t)
      | fails z ↦
          rw z (record {
            structures = refl;
            rings = refl;
            parcels = refl;
            listed = λ x. count_moved x p t.order;
            places = λ x a b. replaced_other t.processes p (placed (process_of t p) place) x nobody a;
            rest = λ x. place_rest p x place t;
          })
    ]

only_running : (p h r : ℕ) (t u : Tables) → OnlyPlaces p h t u → OnlyPlaces p h t (with_running u r)
unfolding process_of
only_running p h r t u o =
    record { structures = o.structures; rings = o.rings; parcels = o.parcels; listed = o.listed; places = o.places; rest = o.rest }

-- and when the runner does, also who runs
pub only_runner_joins : (h : ℕ) (place : Place) (t : Tables) → OnlyPlaces t.running h t (runner_joins place t)
unfolding runner_joins
only_runner_joins h place t = only_running t.running h 0 t (joins t.running place t) (only_joins t.running h place t)

-- Dispatched changes nothing but the runner's and the head's place, the order and who runs
pub dispatched_only : (t : Tables) → OnlyPlaces t.running (first (ready_line t)) t (dispatched t)
unfolding dispatched dispatched_to
dispatched_only t =
    let h = first (ready_line t) in
    let p = t.running in
    elim (test (eqb h 0)) [
      | holds a ↦ rw a (only_none p h t)
      | fails a ↦
          elim (test (eqb p 0)) [
            | holds b ↦ rw (a, b) (only_runs p h t t (only_none p h t))
            | fails b ↦
                elim (test (leb (process_of t h).priority (process_of t p).priority)) [
                  | holds k ↦ rw (a, b, k) (only_none p h t)
                  | fails k ↦ rw (a, b, k) (only_runs p h t (runner_joins Ready t) (only_runner_joins h Ready t))
                ]
          ]
    ]
