-- What the semaphores' steps do to values and to lines.
use Rattle.std.specs.Prelude.{ℕ, ◌≤◌, ◌<◌, ◌≡◌, refl, Bool, true, false, cond, List, [], ◌∷◌, ◌++◌, eqb, leb, length, drop}
use Rattle.std.proofs.Common.{sym, ap, ◌∙◌, ⊎_elim, true≢false, arith, eq-eqb, ne_eqb, eqb-true, leb-true, leb-false, le-ltb}
use Rattle.std.proofs.lemmas.Bool.{eqb-false, not-true, not-false}
use Rattle.basics.specs.Tests.{test, holds, fails}
use Rattle.arrivals.specs.Order.{count, has, first, keep}
use Rattle.arrivals.specs.Listed.{head_goes, has_moved}
use Rattle.arrivals.specs.Views.{has_keep, head_of, no_head, keep_none}
use Rattle.tables.specs.declared.Tables.{Tables}
use Rattle.tables.specs.declared.Process.{Process}
use Rattle.tables.specs.declared.Place.TheVariants.{Nowhere, Waiting}
use Rattle.tables.specs.declared.Line.TheVariants.{Semaphore}
use Rattle.tables.specs.Access.{replaced, nobody, process_of, with_process}
use Rattle.tables.specs.Lines.{stands, standing, line}
use Rattle.tables.specs.Laws.{numbered_zero, numbered_past, replaced_zero, replaced_past, replaced_same, replaced_other}
use Rattle.ready.specs.Ready.{placed, with_place, joins, runner_joins, released_to, released, let_through, released_all}
use Rattle.ready.specs.Laws.{joins_enters, release_leaves}
use Rattle.tables.specs.Numbers.{is_semaphore}
use Rattle.semaphores.specs.Semaphores.{kind_of, value, has_line, waited_at, waited, signalled_at, signalled, all_released, all_signalled}

-- ---- who stands in a semaphore's line

-- Neither nobody nor one who was released
nobody_stands : (n : ℕ) → stands (Semaphore n) Nowhere ≡ false
unfolding stands
nobody_stands n = refl

pub released_apart : (n : ℕ) (b : Bool) → stands (Semaphore n) (released_to b) ≡ false
unfolding stands
released_apart n true = refl
released_apart n false = refl

-- Where there is no line nobody stands
pub no_line : (n : ℕ) (t : Tables) → has_line n t ≡ false → line (Semaphore n) t ≡ []
unfolding has_line line
no_line n t h =
    no_head (standing (Semaphore n) t.processes) t.order
    (rw (numbered_zero t.processes 0 nobody refl) (nobody_stands n)) (eqb-true _ 0 (not-false _ h))

-- ---- the value stays

released_structures : (p : ℕ) (t : Tables) → (released p t).structures ≡ t.structures
unfolding released joins with_place with_process
released_structures p t = elim (test (eqb p 0)) [ holds e ↦ rw e | fails e ↦ rw e ]

all_structures : (l : List ℕ) (t : Tables) → (released_all l t).structures ≡ t.structures
unfolding released_all
all_structures [] t = refl
all_structures (p ∷ l) t = all_structures l (released p t) ∙ released_structures p t

-- A signal that meets a line leaves every structure as it is
pub signal_keeps : (n : ℕ) (t : Tables) → has_line n t ≡ true → (signalled n t).tables.structures ≡ t.structures
unfolding signalled signalled_at let_through
signal_keeps n t h =
    elim (test (is_semaphore (kind_of n t))) [ holds e ↦ rw (e, h) (released_structures (first (line (Semaphore n) t)) t) | fails e ↦ rw e ]

-- So does every signal all
pub all_keeps : (n : ℕ) (t : Tables) → (all_signalled n t).tables.structures ≡ t.structures
unfolding all_signalled all_released
all_keeps n t =
    elim (test (is_semaphore (kind_of n t))) [ holds e ↦ rw e (all_structures (line (Semaphore n) t) t) | fails e ↦ rw e ]

-- ---- the line gets shorter

-- The head of a line is a process of the table
head_known : (n : ℕ) (t : Tables) → has_line n t ≡ true → first (line (Semaphore n) t) ≤ length t.processes
unfolding has_line line
head_known n t h = ⊎_elim (λ e. absurd (true≢false (sym h ∙ rw e))) (λ w. go w.0) (head_of (standing (Semaphore n) t.processes) t.order)
  where
    p : ℕ
    p = first (keep (standing (Semaphore n) t.processes) t.order)

    go : standing (Semaphore n) t.processes p ≡ true → p ≤ length t.processes
    go is =
        elim (test (leb p (length t.processes))) [
          | holds b ↦ leb-true p (length t.processes) b
          | fails b ↦
              let none : standing (Semaphore n) t.processes p ≡ false
              = rw (numbered_past t.processes p nobody (leb-false p (length t.processes) b)) (nobody_stands n) in
              absurd (true≢false (sym is ∙ none))
        ]

-- A signal that meets a line takes its head out of it, and nobody else, where the head is listed once
pub signal_takes_head : (n : ℕ) (t : Tables) → is_semaphore (kind_of n t) ≡ true → has_line n t ≡ true
    → count (first (line (Semaphore n) t)) t.order ≡ 1 → line (Semaphore n) (signalled n t).tables ≡ drop 1 (line (Semaphore n) t)
unfolding signalled signalled_at let_through has_line
signal_takes_head n t is h once =
    let p = first (line (Semaphore n) t) in
    rw (is, h)
    (release_leaves p t (eqb-false p 0 (not-true _ h)) (head_known n t h) once (Semaphore n) (released_apart n)
    ∙ head_goes p (line (Semaphore n) t) refl)

-- A wait that does not pass puts the caller last into the line
pub wait_joins_line : (n : ℕ) (t : Tables) → is_semaphore (kind_of n t) ≡ true → value (kind_of n t) ≡ 0
    → (t.running ≡ 0 → ⊥) → t.running ≤ length t.processes → count t.running t.order ≡ 1
    → stands (Semaphore n) (process_of t t.running).place ≡ false
    → line (Semaphore n) (waited n t).tables ≡ line (Semaphore n) t ++ (t.running ∷ [])
unfolding waited waited_at runner_joins line stands
wait_joins_line n t is none some known once was =
    rw (ne_eqb t.running 0 some, is, le-ltb 0 (value (kind_of n t)) (omega arith))
    (joins_enters t.running (Waiting n) t some known once (Semaphore n) was (eq-eqb n n refl))

-- ---- signal all leaves nobody in the line

-- One whose entry is that of somebody elsewhere does not stand in the line; the others as before
replaced_test : (n p y : ℕ) (l : List Process) (q : Process) → stands (Semaphore n) q.place ≡ false
    → standing (Semaphore n) (replaced l p q) y ≡ cond (eqb p y) false (standing (Semaphore n) l y)
replaced_test n p y l q away =
    elim (test (eqb p y)) [
      | holds e ↦ rw (e, ← eqb-true p y e) gone
      | fails e ↦ rw e (ap (λ (r : Process). stands (Semaphore n) r.place) (replaced_other l p q y nobody (λ s. eqb-false p y e (sym s))))
    ]
  where
    gone : standing (Semaphore n) (replaced l p q) p ≡ false
    gone =
        elim (test (eqb p 0)) [
          | holds z ↦ rw (numbered_zero (replaced l p q) p nobody (eqb-true p 0 z)) (nobody_stands n)
          | fails z ↦
              elim (test (leb p (length l))) [
                | holds b ↦ rw (replaced_same l p q nobody (eqb-false p 0 z) (leb-true p (length l) b)) away
                | fails b ↦
                    let past : length l < p = leb-false p (length l) b in
                    rw (replaced_past l p q past, numbered_past l p nobody past) (nobody_stands n)
              ]
        ]

-- Who stands in a line after a release, and after many: neither those released nor those who did not stand in it before
released_test : (n p y : ℕ) (t : Tables)
    → standing (Semaphore n) (released p t).processes y ≡ cond (eqb p y) false (standing (Semaphore n) t.processes y)
unfolding released joins with_place with_process
released_test n p y t =
    let changed = replaced_test n p y t.processes (placed (process_of t p) (released_to (process_of t p).suspended)) (released_apart n (process_of t p).suspended) in
    elim (test (eqb p 0)) [
      | holds z ↦ rw z (rw (replaced_zero t.processes p _ (eqb-true p 0 z)) at changed)
      | fails z ↦ rw z changed
    ]

all_test : (n : ℕ) (l : List ℕ) (y : ℕ) (t : Tables)
    → standing (Semaphore n) (released_all l t).processes y ≡ cond (has y l) false (standing (Semaphore n) t.processes y)
unfolding released_all
all_test n [] y t = refl
all_test n (p ∷ l) y t =
    all_test n l y (released p t)
    ∙ rw (released_test n p y t) (elim (test (eqb p y)) [
      | holds e ↦ elim (test (has y l)) [ holds h ↦ rw (e, h) | fails h ↦ rw (e, h) ]
      | fails e ↦ rw e
    ])

-- Nobody is listed or gone by a release
released_has : (p y : ℕ) (t : Tables) → has y (released p t).order ≡ has y t.order
unfolding released joins
released_has p y t = elim (test (eqb p 0)) [ holds e ↦ rw e | fails e ↦ rw e (has_moved y p t.order) ]

all_has : (l : List ℕ) (y : ℕ) (t : Tables) → has y (released_all l t).order ≡ has y t.order
unfolding released_all
all_has [] y t = refl
all_has (p ∷ l) y t = all_has l y (released p t) ∙ released_has p y t

-- After signal all nobody stands in the line
pub all_empties : (n : ℕ) (t : Tables) → is_semaphore (kind_of n t) ≡ true → line (Semaphore n) (all_signalled n t).tables ≡ []
unfolding all_signalled all_released line
all_empties n t is = rw is (keep_none (standing (Semaphore n) u.processes) u.order none)
  where
    f : ℕ → Bool
    f = standing (Semaphore n) t.processes

    u : Tables
    u = released_all (keep f t.order) t

    none : (y : ℕ) → has y u.order ≡ true → standing (Semaphore n) u.processes y ≡ false
    none y k =
        all_test n (keep f t.order) y t
        ∙ rw (has_keep f y t.order, sym (all_has (keep f t.order) y t) ∙ k)
        (elim (test (f y)) [ holds e ↦ rw e | fails e ↦ rw e ])
