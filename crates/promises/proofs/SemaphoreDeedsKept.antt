-- What every deed at a semaphore keeps: the turn of one who stands in its line, what a process asked and had, and the sum. Of deeds alone: no call is named here.
use Rattle.std.specs.Prelude.{ℕ, suc, ◌+◌, ◌<◌, ◌≡◌, refl, Bool, true, false, List, [], ◌∷◌, ◌++◌, eqb, length}
use Rattle.std.proofs.Common.{sym, ap, ◌∙◌, true≢false, arith}
use Rattle.std.proofs.Math.Bool.{cond}
use borrow.Author.Tests.{eqb-true, eqb-false}
use Rattle.basics.specs.Tests.{test, holds, fails}
use Rattle.arrivals.specs.Order.{count, has, ahead}
use Rattle.arrivals.specs.Listed.{listed, count_append}
use Rattle.tables.specs.declared.Kind.{Kind}
use Rattle.tables.specs.declared.Kind.TheVariants.{Free, Binary, Counting, Ring}
use Rattle.tables.specs.declared.Line.TheVariants.{Semaphore}
use Rattle.semaphores.specs.Semaphores.{value, lowered}
use Rattle.sound.specs.Sound.{ValueFits}
use Rattle.promises.specs.Kept.{both_first}
use Rattle.promises.specs.Run.{Event}
use Rattle.promises.specs.Turns.{answered, creates, is_single_release, is_passed, line_before, line_after, kind_before, kind_after, turns, askers, single_releases, releases, is_raised, process_begins, structure_begins}
use Rattle.promises.specs.SemaphoreDeeds.{Shows, risen, lost_at, StartsAt, DeedAt, rests, passes, joins_line, raises, releases_head, frees_all, begins, ends}
use Rattle.promises.specs.SemaphoreDeedsKept.{Asked, InTurn, Since, Sum, Sums, asked_at, since, stands, starts_with, sum_at, turned}

-- ---- the turn

-- Who stands in a line stands there, and where it stood, when others stand behind it
has_before : (p : ℕ) (l r : List ℕ) → has p l ≡ true → has p (l ++ r) ≡ true
has_before p [] r h = absurd (true≢false (sym h))
has_before p (a ∷ l) r h = elim (test (eqb a p)) [ holds e ↦ rw e | fails e ↦ rw e (has_before p l r (rw e at h)) ]

ahead_before : (p : ℕ) (l r : List ℕ) → has p l ≡ true → ahead p (l ++ r) ≡ ahead p l
ahead_before p [] r h = absurd (true≢false (sym h))
ahead_before p (a ∷ l) r h = elim (test (eqb a p)) [ holds e ↦ rw e | fails e ↦ rw e (ap suc (ahead_before p l r (rw e at h))) ]

-- Nobody stands in an empty line
nobody_there : {A : Type 0} (p : ℕ) (l : List ℕ) → l ≡ [] → has p l ≡ true → A
nobody_there p l e h = absurd (true≢false (sym h ∙ ap (has p) e))

-- What a deed shows is what is counted
shown_turn : {n p k : ℕ} {e : Event} (c : Since) {line had asked : List ℕ} {kind : Kind} {single all missed : ℕ} {new : Bool}
    → Shows n e line kind had asked single all missed new → InTurn p k line (record { single = c.single + single; had = c.had + count p had })
    → InTurn p k (line_after (Semaphore n) e) (since n p c e)
unfolding since
shown_turn c s t = rw (s.the_line_after, s.who_had, s.singles) t

-- The head of a line has its turn, and who is not the head moves up by one
head_turn : (p k x : ℕ) (rest : List ℕ) (c : Since) → c.had ≡ 0 → has p (x ∷ rest) ≡ true → suc (ahead p (x ∷ rest)) + c.single ≡ k
    → InTurn p k rest (record { single = c.single + 1; had = c.had + count p (x ∷ []) })
head_turn p k x rest c none there place =
    elim (test (eqb x p)) [
      | holds e ↦ turned (rw e (omega arith))
      | fails e ↦ stands (rw e (omega arith)) (rw e at there) (omega (arith, rw e at place))
    ]

-- Every deed keeps it
pub turn_kept : (n p k : ℕ) (e : Event) (c : Since) → DeedAt n e → InTurn p k (line_before (Semaphore n) e) c → InTurn p k (line_after (Semaphore n) e) (since n p c e)
unfolding since
turn_kept n p k e c d (turned h) = turned (omega arith)
turn_kept n p k e c (rests s) (stands none there place) = shown_turn c s (stands (omega arith) there (omega arith))
turn_kept n p k e c (passes x above s) (stands none there place) =
    shown_turn c s (elim (test (eqb x p)) [ holds q ↦ turned (rw q (omega arith)) | fails q ↦ stands (rw q (omega arith)) there (omega arith) ])
turn_kept n p k e c (joins_line x s) (stands none there place) =
    let l = line_before (Semaphore n) e in
    shown_turn c s (stands (omega arith) (has_before p l (x ∷ []) there) (omega (arith, ahead_before p l (x ∷ []) there)))
turn_kept n p k e c (raises empty s) (stands none there place) = nobody_there p (line_before (Semaphore n) e) empty there
turn_kept n p k e c (releases_head x rest is s) (stands none there place) =
    shown_turn c s (head_turn p k x rest c none (rw is at there) (rw is at place))
turn_kept n p k e c (frees_all s) (stands none there place) = shown_turn c s (turned (omega (arith, listed p (line_before (Semaphore n) e) there)))
turn_kept n p k e c (begins kind start empty s) (stands none there place) = nobody_there p (line_before (Semaphore n) e) empty there
turn_kept n p k e c (ends empty s) (stands none there place) = nobody_there p (line_before (Semaphore n) e) empty there

-- ---- signal all

-- What a reader counts of a performed signal all: one release for each in line, no single one, and nobody asks
module _ (n : ℕ) (e : Event) (done : answered 15 n 0 e ≡ true) where
  -- It was call 15,
  called_15 : e.request.what ≡ 15
  unfolding answered
  called_15 = eqb-true e.request.what 15 (both_first (eqb e.request.what 15) _ done)

  -- one release for each process in line,
  all_releases : releases n e ≡ length (line_before (Semaphore n) e)
  unfolding releases answered
  all_releases = rw called_15 (rw called_15 at (ap (λ (b : Bool). cond b (length (line_before (Semaphore n) e)) 0) done))

  -- no single one,
  all_singles : single_releases n e ≡ 0
  unfolding single_releases is_single_release answered
  all_singles = rw called_15

  -- nobody asks,
  all_askers : askers n e ≡ []
  unfolding askers is_passed answered
  all_askers = rw called_15

  -- and no structure begins to live
  all_begins : structure_begins n e ≡ false
  unfolding structure_begins creates
  all_begins = rw called_15

-- An empty line, by its length
no_length : (l : List ℕ) → length l ≡ 0 → l ≡ []
no_length [] h = refl
no_length (a ∷ l) h = absurd (omega arith)

-- Where somebody asks, the list of those who ask is not empty
no_asker : {A : Type 0} (p : ℕ) → ◌≡◌ {A = List ℕ} (p ∷ []) [] → A
no_asker p h = let z : ◌≡◌ {A = ℕ} 1 0 = ap length h in absurd (omega arith)

-- Everyone in the line has its turn, in their order, and the line is empty
pub all_turns : (n : ℕ) (e : Event) → DeedAt n e → answered 15 n 0 e ≡ true → (turns n e ≡ line_before (Semaphore n) e) × (line_after (Semaphore n) e ≡ [])
all_turns n e (rests s) h =
    let empty : line_before (Semaphore n) e ≡ [] = no_length (line_before (Semaphore n) e) (sym (all_releases n e h) ∙ s.released) in
    (s.who_had ∙ sym empty, s.the_line_after ∙ empty)
all_turns n e (passes p above s) h = no_asker p (sym s.who_asked ∙ all_askers n e h)
all_turns n e (joins_line p s) h = no_asker p (sym s.who_asked ∙ all_askers n e h)
all_turns n e (raises empty s) h = (s.who_had ∙ sym empty, s.the_line_after)
all_turns n e (releases_head p rest is s) h = absurd (omega (arith, s.singles, all_singles n e h))
all_turns n e (frees_all s) h = (s.who_had, s.the_line_after)
all_turns n e (begins kind start empty s) h = absurd (true≢false (sym s.begun ∙ all_begins n e h))
all_turns n e (ends empty s) h = (s.who_had ∙ sym empty, s.the_line_after)

-- ---- at most once

-- Who asks has its turn or stands in the line, and who has its turn has asked now or stood there: for every process, wherever it stands
balanced : (n p : ℕ) (e : Event) → DeedAt n e
    → count p (line_before (Semaphore n) e) + count p (askers n e) ≡ count p (turns n e) + count p (line_after (Semaphore n) e)
balanced n p e (rests s) = rw (s.the_line_after, s.who_had, s.who_asked) (omega arith)
balanced n p e (passes x above s) = rw (s.the_line_after, s.who_had, s.who_asked) (omega arith)
balanced n p e (joins_line x s) = rw (s.the_line_after, s.who_had, s.who_asked) (omega (arith, count_append p (line_before (Semaphore n) e) (x ∷ [])))
balanced n p e (raises empty s) = rw (s.the_line_after, s.who_had, s.who_asked, empty) (omega arith)
balanced n p e (releases_head x rest is s) = rw (s.the_line_after, s.who_had, s.who_asked, is) (omega arith)
balanced n p e (frees_all s) = rw (s.the_line_after, s.who_had, s.who_asked) (omega arith)
balanced n p e (begins kind start empty s) = rw (s.the_line_after, s.who_had, s.who_asked, empty) (omega arith)
balanced n p e (ends empty s) = rw (s.the_line_after, s.who_had, s.who_asked, empty) (omega arith)

-- A process that begins to live does not stand in the line
newcomer_away : (n p : ℕ) (e : Event) → DeedAt n e → process_begins p e ≡ true → count p (line_after (Semaphore n) e) ≡ 0
newcomer_away n p e (rests s) h = rw s.the_line_after (s.newcomers p h)
newcomer_away n p e (passes x above s) h = rw s.the_line_after (s.newcomers p h)
newcomer_away n p e (joins_line x s) h = rw s.the_line_after (s.newcomers p h)
newcomer_away n p e (raises empty s) h = rw s.the_line_after (s.newcomers p h)
newcomer_away n p e (releases_head x rest is s) h = rw s.the_line_after (s.newcomers p h)
newcomer_away n p e (frees_all s) h = rw s.the_line_after (s.newcomers p h)
newcomer_away n p e (begins kind start empty s) h = rw s.the_line_after (s.newcomers p h)
newcomer_away n p e (ends empty s) h = rw s.the_line_after (s.newcomers p h)

-- Nobody stands in the line of a structure that begins to live
new_empty : (n p : ℕ) (e : Event) → DeedAt n e → structure_begins n e ≡ true → count p (line_after (Semaphore n) e) ≡ 0
new_empty n p e (rests s) h = absurd (true≢false (sym h ∙ s.begun))
new_empty n p e (passes x above s) h = absurd (true≢false (sym h ∙ s.begun))
new_empty n p e (joins_line x s) h = absurd (true≢false (sym h ∙ s.begun))
new_empty n p e (raises empty s) h = absurd (true≢false (sym h ∙ s.begun))
new_empty n p e (releases_head x rest is s) h = absurd (true≢false (sym h ∙ s.begun))
new_empty n p e (frees_all s) h = absurd (true≢false (sym h ∙ s.begun))
new_empty n p e (begins kind start empty s) h = rw s.the_line_after refl
new_empty n p e (ends empty s) h = absurd (true≢false (sym h ∙ s.begun))

-- Every deed keeps it: asked is turns had, and 1 more while p stands in the line
pub asked_kept : (n p : ℕ) (e : Event) (c : Asked) → DeedAt n e → c.asked ≡ c.had + count p (line_before (Semaphore n) e)
    → (asked_at n p c e).asked ≡ (asked_at n p c e).had + count p (line_after (Semaphore n) e)
unfolding asked_at
asked_kept n p e c d kept =
    elim (test (process_begins p e)) [
      | holds h ↦ rw h (omega (arith, newcomer_away n p e d h))
      | fails h ↦
          elim (test (structure_begins n e)) [
            | holds g ↦ rw (h, g) (omega (arith, new_empty n p e d g))
            | fails g ↦ rw (h, g) (omega (arith, balanced n p e d))
          ]
    ]

-- ---- the sum

-- So many releases, turns and lost signals more
abbrev more : Sum → ℕ → ℕ → ℕ → Sum
more c all given missed = record { start = c.start; released = c.released + all; given = c.given + given; missed = c.missed + missed }

-- As many turns as releases, and the value stays
even_sum : (kind : Kind) (c : Sum) (a : ℕ) → Sums kind c → Sums kind (more c a a 0)
even_sum Free c a s = tt
even_sum (Binary v) c a s = omega arith
even_sum (Counting v) c a s = omega arith
even_sum (Ring b) c a s = tt

-- A turn, and the value falls by 1
lowered_sum : (kind : Kind) (c : Sum) → 0 < value kind → Sums kind c → Sums (lowered kind) (more c 0 1 0)
lowered_sum Free c h s = tt
lowered_sum (Binary v) c h s = omega arith
lowered_sum (Counting v) c h s = omega arith
lowered_sum (Ring b) c h s = tt

-- A release, and the value rises by 1 or the signal is lost
risen_sum : (kind : Kind) (c : Sum) → ValueFits kind → Sums kind c → Sums (risen kind) (more c 1 0 (lost_at kind))
unfolding is_raised
risen_sum Free c h s = tt
risen_sum (Binary v) c h s = elim (test (eqb v 1)) [ holds q ↦ rw q (omega (arith, eqb-true v 1 q)) | fails q ↦ rw q (omega (arith, eqb-false v 1 q)) ]
risen_sum (Counting v) c h s = omega arith
risen_sum (Ring b) c h s = tt

-- It begins with the starting count
start_sum : (kind : Kind) (m : ℕ) → StartsAt m kind → Sums kind (starts_with m)
start_sum Free m h = tt
start_sum (Binary v) m h = omega arith
start_sum (Counting v) m h = omega arith
start_sum (Ring b) m h = tt

-- What a deed shows is what is counted
shown_sum : {n : ℕ} {e : Event} (c : Sum) {line had asked : List ℕ} {kind : Kind} {single all missed : ℕ}
    → Shows n e line kind had asked single all missed false → Sums kind (more c all (length had) missed) → Sums (kind_after n e) (sum_at n c e)
unfolding sum_at
shown_sum c s t = rw (s.begun, s.the_kind_after, s.who_had, s.released, s.loses) t

-- Every deed keeps it
pub sum_kept : (n : ℕ) (e : Event) (c : Sum) → ValueFits (kind_before n e) → DeedAt n e → Sums (kind_before n e) c → Sums (kind_after n e) (sum_at n c e)
unfolding sum_at
sum_kept n e c fits (rests s) kept = shown_sum c s (even_sum (kind_before n e) c 0 kept)
sum_kept n e c fits (passes x above s) kept = shown_sum c s (lowered_sum (kind_before n e) c above kept)
sum_kept n e c fits (joins_line x s) kept = shown_sum c s (even_sum (kind_before n e) c 0 kept)
sum_kept n e c fits (raises empty s) kept = shown_sum c s (risen_sum (kind_before n e) c fits kept)
sum_kept n e c fits (releases_head x rest is s) kept = shown_sum c s (even_sum (kind_before n e) c 1 kept)
sum_kept n e c fits (frees_all s) kept = shown_sum c s (even_sum (kind_before n e) c (length (line_before (Semaphore n) e)) kept)
sum_kept n e c fits (begins kind start empty s) kept = rw (s.begun, s.the_kind_after) (start_sum kind e.request.m start)
sum_kept n e c fits (ends empty s) kept = rw (s.begun, s.the_kind_after) tt
