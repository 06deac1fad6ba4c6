-- Every request does one of the deeds at every structure: each of the 23 calls, every refusal, and what is no request.
use Rattle.std.specs.Prelude.{ℕ, ◌≤◌, ◌<◌, ◌≡◌, true, not, List, [], ◌∷◌, ◌++◌, ◌⊎◌, eqb, ltb, length}
use Rattle.std.proofs.Math.Path.{refl, ap}
use Rattle.std.proofs.Common.{sym, subst, ◌∙◌, true≢false, inl, inr, ⊎_elim, arith, eq-eqb, ne_eqb, eqb-true, ltb-true, lt-ltb}
use Rattle.std.proofs.Math.Bool.{false}
use Rattle.std.proofs.Math.ListN.{drop}
use Rattle.std.proofs.lemmas.Bool.{eqb-false}
use Rattle.basics.specs.Tests.{test, holds, fails}
use Rattle.arrivals.specs.Order.{count, has, first}
use Rattle.arrivals.specs.Listed.{head_goes, is_not_listed, not_listed, one_same}
use Rattle.arrivals.specs.Views.{count_keep_le, keep_none, has_not}
use Rattle.tables.specs.declared.Tables.{Tables}
use Rattle.tables.specs.declared.Structure.{Structure}
use Rattle.tables.specs.declared.Kind.{Kind}
use Rattle.tables.specs.declared.Kind.TheVariants as kinds
use Rattle.tables.specs.declared.Place.TheVariants.{Waiting}
use Rattle.tables.specs.declared.Line.TheVariants.{Semaphore}
use Rattle.tables.specs.Numbers.{is_semaphore}
use Rattle.tables.specs.Access.{nothing, process_of, structure_of, with_process, with_structure, with_ring}
use Rattle.tables.specs.Lines.{line, stands, standing, in_lines_of}
use Rattle.tables.specs.Laws.{replaced_same}
use Rattle.answers.specs.declared.Outcome.TheVariants.{Done, Waits}
use Rattle.answers.specs.declared.Step.{Step}
use Rattle.answers.specs.Answers.{plain, step, unmoved}
use Rattle.ready.specs.Ready.{joins, runner_joins, with_place, released, let_through, dispatched}
use Rattle.ready.specs.Laws.{joins_enters, release_leaves}
use Rattle.records.specs.declared.Record.{Record}
use Rattle.calls.specs.declared.Deed.{Deed}
use Rattle.calls.specs.declared.Deed.TheVariants as deeds
use Rattle.calls.specs.Calls.{row_of, call_number}
use Rattle.refusals.specs.Refusals.{both, signals_full, is_full, applies_to, applies, refusal}
use Rattle.semaphores.specs.Semaphores.{kind_of, with_kind, value, lowered, raised, has_line, waited_at, waited, conditionally_waited, signalled_at, signalled, conditionally_signalled, all_released, all_signalled}
use Rattle.semaphores.specs.Laws.{no_line, released_apart, all_empties, all_keeps}
use Rattle.processes.specs.Processes as processes
use Rattle.structures.specs.Structures as structures
use Rattle.bay.specs.declared.Ring as bays
use Rattle.bay.specs.Bay.{ring_of, empty_bay}
use Rattle.steps.specs.Steps.{done, replied_by, replied, refused}
use Rattle.sound.specs.Sound.{place_at, kind_at, ValueFits, Settled}
use Rattle.promises.specs.Changes.{known_structure, Steady, Live, is_live, Unwaited, unwaited_lines}
use Rattle.promises.specs.KeptReady.{is_movable, runner_place}
use Rattle.promises.specs.KeptSemaphores.{line_movable, head_there, waiting_stands}
use Rattle.promises.specs.Kept.{both_second, SoundTables, none_refuses, call_known, call_is, deletes_unused}
use Rattle.promises.specs.Run.{event}
use Rattle.promises.specs.Turns.{line_after, creates, process_begins, structure_begins}
use Rattle.promises.specs.SemaphoreDeeds.{risen, StartsAt, DeedAt, rests, passes, joins_line, raises, releases_head, frees_all, begins, ends}
use Rattle.promises.specs.Answered.{seen, both_none, not_among, not_called, not_created, here_or_elsewhere, of_event}
use Rattle.promises.specs.LineCalls.{semaphore_calls}
use Rattle.promises.specs.SemaphoreShown.{Unasked, uncalled, unnamed, unperformed, nothing_shown, no_newcomer, left_head, left_all, performed_shown}
use Rattle.promises.specs.SemaphoreSame.{Same, same_none, same_then, kind_now, kind_line, no_head, dispatched_same, ring_same, done_same, structure_same, elsewhere_deleted}
use Rattle.promises.specs.KeptProcesses.{nowhere_stands, free_unused}
use Rattle.promises.specs.KeptStructures.{Vacant, free_vacant, created_by, no_lines}

-- ---- nothing is done at n

module _ (n : ℕ) (t : Tables) (r : Record) where
  -- By a step that leaves n as it is, which asks nothing there and creates nothing
  rests_of : (s : Step) → Settled s.tables → Same n t s.tables → Unasked n (seen t r (replied s)) → structure_begins n (seen t r (replied s)) ≡ false
      → ((p : ℕ) → process_begins p (seen t r (replied s)) ≡ true → count p (line (Semaphore n) t) ≡ 0) → DeedAt n (seen t r (replied s))
  unfolding replied replied_by
  rests_of s settled same unasked old newcomers =
      let whole = same_then same (dispatched_same n s.tables settled) in
      rests (nothing_shown n _ unasked _ _ false whole.line_same whole.kind_same old newcomers)

  -- by any call but the creations and delete structure, which is none of the semaphores' or names another structure,
  elsewhere_of : (deed : Deed) → Steady t → r.what ≡ call_number deed → has (call_number deed) (10 ∷ 11 ∷ []) ≡ false → eqb (call_number deed) 2 ≡ false
      → (has (call_number deed) semaphore_calls ≡ true → n ≡ r.n → ⊥) → Settled (done deed r t).tables → DeedAt n (seen t r (replied (done deed r t)))
  unfolding process_begins structure_begins
  elsewhere_of deed steady what structure process other settled =
      let e = seen t r (replied (done deed r t)) in
      rests_of (done deed r t) settled (done_same n deed r t steady structure other)
      (elim (test (has (call_number deed) semaphore_calls)) [ holds c ↦ unnamed n e (ne_eqb r.n n (λ q. other c (sym q))) | fails c ↦ uncalled n e (rw what c) ])
      (not_called 10 n e (rw what (not_among (call_number deed) (10 ∷ 11 ∷ []) structure 10 refl))) (no_newcomer e (line (Semaphore n) t) (λ p. not_called 2 p e (rw what process)))

  -- by a call that is answered 1,
  unmoved_of : Settled t → DeedAt n (seen t r (replied (unmoved t)))
  unfolding replied replied_by process_begins structure_begins
  unmoved_of settled =
      let e = seen t r (replied (unmoved t)) in
      rests_of (unmoved t) settled (same_none n t) (unperformed n e refl refl) (not_created 10 n e refl) (no_newcomer e (line (Semaphore n) t) (λ p. not_created 2 p e refl))

  -- and by one that is refused
  refused_of : (k : ℕ) → eqb k 0 ≡ false → eqb k 2 ≡ false → DeedAt n (seen t r (refused k t))
  unfolding refused process_begins structure_begins
  refused_of k a b =
      let e = seen t r (refused k t) in
      rests (nothing_shown n e (unperformed n e a b) _ _ false refl refl (not_created 10 n e a) (no_newcomer e (line (Semaphore n) t) (λ p. not_created 2 p e a)))

  -- A step by its other form
  by_step : (s u : Step) → s ≡ u → Settled s.tables → (Settled u.tables → DeedAt n (seen t r (replied u))) → DeedAt n (seen t r (replied s))
  by_step s u same settled deed =
      subst (λ (x : Step). DeedAt n (seen t r (replied x))) (sym same) (deed (subst (λ (x : Step). Settled x.tables) same settled))

-- ---- signal, conditional signal, signal all

-- A counting semaphore below 32,767 rises by 1
raised_risen : (kind : Kind) → is_full kind ≡ false → ValueFits kind → raised kind ≡ risen kind
raised_risen kinds.Free h f = refl
raised_risen (kinds.Binary v) h f = refl
raised_risen (kinds.Counting v) h f = rw (lt-ltb v 32767 (omega (arith, eqb-false v 32767 h)))
raised_risen (kinds.Ring b) h f = refl

-- What a signal does
data Signalled (n : ℕ) (t : Tables) : Type 0 where
  idle : signalled n t ≡ unmoved t → Signalled n t
  raise : is_semaphore (kind_of n t) ≡ true → line (Semaphore n) t ≡ [] → signalled n t ≡ step (with_kind n (raised (kind_of n t)) t) (plain Done) → Signalled n t
  release : has_line n t ≡ true → signalled n t ≡ step (let_through (Semaphore n) t) (plain Done) → Signalled n t

-- It is one of these
signalled_as : (n : ℕ) (t : Tables) → Signalled n t
unfolding signalled signalled_at
signalled_as n t =
    elim (test (is_semaphore (kind_of n t))) [
      | fails e ↦ idle (rw e)
      | holds e ↦ elim (test (has_line n t)) [ holds h ↦ release h (rw (e, h)) | fails h ↦ raise e (no_line n t h) (rw (e, h)) ]
    ]

-- A line whose head is somebody is its head and the rest
head_rest : (l : List ℕ) → not (eqb (first l) 0) ≡ true → l ≡ first l ∷ drop 1 l
head_rest [] h = absurd (true≢false (sym h))
head_rest (a ∷ l) h = refl

-- The head of the line is let through
module _ (n : ℕ) (t : Tables) (steady : Steady t) (there : has_line n t ≡ true) where
  -- The line, and its head
  abbrev l : List ℕ
  l = line (Semaphore n) t

  abbrev head : ℕ
  head = first l

  -- The line is its head and the rest
  l_is : l ≡ head ∷ drop 1 l
  unfolding has_line
  l_is = head_rest l there

  -- The head is a live process
  head_live : Live head t
  head_live = is_live head t steady.settled (is_movable (place_at t.processes head) (line_movable n t head (head_there n t there))).lives

  -- It stands there once
  once : has head (drop 1 l) ≡ false
  unfolding line
  once =
      is_not_listed head (drop 1 l)
      (omega (arith, head_live.once, count_keep_le (standing (Semaphore n) t.processes) head t.order, one_same head, ap (count head) l_is))

  -- and leaves the rest
  rest_stays : line (Semaphore n) (let_through (Semaphore n) t) ≡ drop 1 l
  unfolding let_through
  rest_stays = release_leaves head t head_live.some head_live.known head_live.once (Semaphore n) (released_apart n) ∙ head_goes head l refl

  -- The value stays
  kind_stays : (structure_of (let_through (Semaphore n) t) n).kind ≡ (structure_of t n).kind
  unfolding let_through released joins with_place with_process structure_of
  kind_stays = elim (test (eqb head 0)) [ holds z ↦ rw z | fails z ↦ rw z ]

  -- It has its turn, by a signal or by a conditional signal
  released_of : (r : Record) → r.n ≡ n → (r.what ≡ 13) ⊎ (r.what ≡ 14) → Settled (let_through (Semaphore n) t) → DeedAt n (seen t r (replied (step (let_through (Semaphore n) t) (plain Done))))
  unfolding replied replied_by
  released_of r here what settled =
      let e = seen t r (replied (step (let_through (Semaphore n) t) (plain Done))) in
      let after : Same n (let_through (Semaphore n) t) (dispatched (let_through (Semaphore n) t)) = dispatched_same n (let_through (Semaphore n) t) settled in
      let now : line_after (Semaphore n) e ≡ drop 1 l = after.line_same ∙ rest_stays in
      let kind : (structure_of e.after n).kind ≡ (structure_of t n).kind = after.kind_same ∙ kind_stays in
      releases_head head (drop 1 l) l_is (⊎_elim
      (λ w. performed_shown 13 0 n e (record { what = w; number = here; reply_code = refl }) refl refl (head ∷ drop 1 l) (drop 1 l) (head ∷ []) _ l_is now kind (left_head head (drop 1 l) once))
      (λ w. performed_shown 14 0 n e (record { what = w; number = here; reply_code = refl }) refl refl (head ∷ drop 1 l) (drop 1 l) (head ∷ []) _ l_is now kind (left_head head (drop 1 l) once))
      what)

-- A signal that meets no line
raised_of : (n : ℕ) (t : Tables) (r : Record) → Steady t → r.n ≡ n → r.what ≡ 13 → is_semaphore (kind_of n t) ≡ true → is_full (kind_of n t) ≡ false → line (Semaphore n) t ≡ []
    → Settled (with_kind n (raised (kind_of n t)) t) → DeedAt n (seen t r (replied (step (with_kind n (raised (kind_of n t)) t) (plain Done))))
unfolding replied replied_by kind_of structure_of
raised_of n t r steady here what is full empty settled =
    let u = with_kind n (raised (kind_of n t)) t in
    let e = seen t r (replied (step u (plain Done))) in
    let after : Same n u (dispatched u) = dispatched_same n u settled in
    raises empty
    (performed_shown 13 0 n e (record { what = what; number = here; reply_code = refl }) refl refl [] [] [] (risen (kind_of n t)) empty
    (after.line_same ∙ kind_line n (raised (kind_of n t)) t ∙ empty)
    (after.kind_same ∙ kind_now n (raised (kind_of n t)) t is ∙ raised_risen (kind_of n t) full (steady.settled.values n)) refl)

-- Signal
signal_of : (n : ℕ) (t : Tables) (r : Record) → Steady t → r.n ≡ n → r.what ≡ 13 → is_full (kind_of n t) ≡ false
    → Settled (signalled n t).tables → DeedAt n (seen t r (replied (signalled n t)))
signal_of n t r steady here what full settled =
    elim (signalled_as n t) [
      | idle e ↦ by_step n t r _ _ e settled (unmoved_of n t r)
      | raise is empty e ↦ by_step n t r _ _ e settled (raised_of n t r steady here what is full empty)
      | release there e ↦ by_step n t r _ _ e settled (released_of n t steady there r here (inl what))
    ]

-- Conditional signal
conditional_signal_of : (n : ℕ) (t : Tables) (r : Record) → Steady t → r.n ≡ n → r.what ≡ 14
    → Settled (conditionally_signalled n t).tables → DeedAt n (seen t r (replied (conditionally_signalled n t)))
unfolding conditionally_signalled
conditional_signal_of n t r steady here what settled =
    elim (test (has_line n t)) [
      | fails h ↦ by_step n t r (conditionally_signalled n t) (unmoved t) (rw h) settled (unmoved_of n t r)
      | holds h ↦
          by_step n t r (conditionally_signalled n t) (signalled n t) (rw h) settled (λ after. elim (signalled_as n t) [
            | idle e ↦ by_step n t r _ _ e after (unmoved_of n t r)
            | raise is empty e ↦ absurd (true≢false (sym h ∙ no_head n t empty))
            | release there e ↦ by_step n t r _ _ e after (released_of n t steady there r here (inr what))
          ])
    ]

-- Signal all
all_of : (n : ℕ) (t : Tables) (r : Record) → r.n ≡ n → r.what ≡ 15
    → Settled (all_signalled n t).tables → DeedAt n (seen t r (replied (all_signalled n t)))
unfolding all_signalled all_released replied replied_by structure_of
all_of n t r here what settled =
    elim (test (is_semaphore (kind_of n t))) [
      | fails e ↦ by_step n t r (all_signalled n t) (unmoved t) (rw e) settled (unmoved_of n t r)
      | holds is ↦
          let l = line (Semaphore n) t in
          let same : all_signalled n t ≡ all_released l t = rw is in
          by_step n t r (all_signalled n t) (all_released l t) same settled (λ after.
          let u = (all_released l t).tables in
          let e = seen t r (replied (all_released l t)) in
          let then : Same n u (dispatched u) = dispatched_same n u after in
          frees_all (performed_shown 15 0 n e (record { what = what; number = here; reply_code = refl }) refl refl l [] l _ refl
          (then.line_same ∙ ap (λ (x : Step). line (Semaphore n) x.tables) (sym same) ∙ all_empties n t is)
          (then.kind_same ∙ ap (λ (x : Step). (structure_of x.tables n).kind) (sym same) ∙ ap (λ (x : List Structure). kind_at x n) (all_keeps n t)) (left_all l)))
    ]

-- ---- wait, conditional wait

-- What a wait does
data Waited (n : ℕ) (t : Tables) : Type 0 where
  idle : waited n t ≡ unmoved t → Waited n t
  pass : is_semaphore (kind_of n t) ≡ true → 0 < value (kind_of n t) → waited n t ≡ step (with_kind n (lowered (kind_of n t)) t) (plain Done) → Waited n t
  join : (t.running ≡ 0 → ⊥) → ltb 0 (value (kind_of n t)) ≡ false → waited n t ≡ step (runner_joins (Waiting n) t) (plain Waits) → Waited n t

-- It is one of these
waited_as : (n : ℕ) (t : Tables) → Waited n t
unfolding waited waited_at
waited_as n t =
    elim (test (eqb t.running 0)) [
      | holds z ↦ idle (rw z)
      | fails z ↦
          elim (test (is_semaphore (kind_of n t))) [
            | fails e ↦ idle (rw (z, e))
            | holds e ↦
                elim (test (ltb 0 (value (kind_of n t)))) [
                  | holds v ↦ pass e (ltb-true 0 (value (kind_of n t)) v) (rw (z, e, v))
                  | fails v ↦ join (eqb-false t.running 0 z) v (rw (z, e, v))
                ]
          ]
    ]

-- The value falls by 1, by a wait or by a conditional wait
passed_of : (n : ℕ) (t : Tables) (r : Record) → r.n ≡ n → (r.what ≡ 16) ⊎ (r.what ≡ 17) → is_semaphore (kind_of n t) ≡ true → 0 < value (kind_of n t)
    → Settled (with_kind n (lowered (kind_of n t)) t) → DeedAt n (seen t r (replied (step (with_kind n (lowered (kind_of n t)) t) (plain Done))))
unfolding replied replied_by kind_of structure_of
passed_of n t r here what is above settled =
    let u = with_kind n (lowered (kind_of n t)) t in
    let e = seen t r (replied (step u (plain Done))) in
    let after : Same n u (dispatched u) = dispatched_same n u settled in
    let l = line (Semaphore n) t in
    let now : line_after (Semaphore n) e ≡ l = after.line_same ∙ kind_line n (lowered (kind_of n t)) t in
    let kind : (structure_of e.after n).kind ≡ lowered (kind_of n t) = after.kind_same ∙ kind_now n (lowered (kind_of n t)) t is in
    passes t.running above (⊎_elim
    (λ w. performed_shown 16 0 n e (record { what = w; number = here; reply_code = refl }) refl refl l l _ _ refl now kind refl)
    (λ w. performed_shown 17 0 n e (record { what = w; number = here; reply_code = refl }) refl refl l l _ _ refl now kind refl)
    what)

-- A runner that joins the line stands last in it, and the value stays
runner_enters : (n : ℕ) (t : Tables) → Steady t → (t.running ≡ 0 → ⊥) → line (Semaphore n) (runner_joins (Waiting n) t) ≡ line (Semaphore n) t ++ (t.running ∷ [])
unfolding runner_joins line process_of stands
runner_enters n t steady some =
    let live : Live t.running t = is_live t.running t steady.settled (rw (runner_place t steady.settled some)) in
    joins_enters t.running (Waiting n) t some live.known live.once (Semaphore n) (ap (stands (Semaphore n)) (runner_place t steady.settled some)) (waiting_stands n)

runner_kind : (n : ℕ) (t : Tables) → (structure_of (runner_joins (Waiting n) t) n).kind ≡ (structure_of t n).kind
unfolding runner_joins joins with_place with_process structure_of
runner_kind n t = elim (test (eqb t.running 0)) [ holds z ↦ rw z | fails z ↦ rw z ]

-- The caller joins the line
joined_of : (n : ℕ) (t : Tables) (r : Record) → Steady t → r.n ≡ n → r.what ≡ 16 → (t.running ≡ 0 → ⊥)
    → Settled (runner_joins (Waiting n) t) → DeedAt n (seen t r (replied (step (runner_joins (Waiting n) t) (plain Waits))))
unfolding replied replied_by
joined_of n t r steady here what some settled =
    let p = t.running in
    let u = runner_joins (Waiting n) t in
    let e = seen t r (replied (step u (plain Waits))) in
    let after : Same n u (dispatched u) = dispatched_same n u settled in
    let l = line (Semaphore n) t in
    joins_line p (performed_shown 16 2 n e (record { what = what; number = here; reply_code = refl }) refl refl l (l ++ (p ∷ [])) _ _ refl
    (after.line_same ∙ runner_enters n t steady some) (after.kind_same ∙ runner_kind n t) refl)

-- Wait
wait_of : (n : ℕ) (t : Tables) (r : Record) → Steady t → r.n ≡ n → r.what ≡ 16 → Settled (waited n t).tables → DeedAt n (seen t r (replied (waited n t)))
wait_of n t r steady here what settled =
    elim (waited_as n t) [
      | idle e ↦ by_step n t r _ _ e settled (unmoved_of n t r)
      | pass is above e ↦ by_step n t r _ _ e settled (passed_of n t r here (inl what) is above)
      | join some none e ↦ by_step n t r _ _ e settled (joined_of n t r steady here what some)
    ]

-- Conditional wait
conditional_wait_of : (n : ℕ) (t : Tables) (r : Record) → Steady t → r.n ≡ n → r.what ≡ 17
    → Settled (conditionally_waited n t).tables → DeedAt n (seen t r (replied (conditionally_waited n t)))
unfolding conditionally_waited
conditional_wait_of n t r steady here what settled =
    elim (test (ltb 0 (value (kind_of n t)))) [
      | fails v ↦ by_step n t r (conditionally_waited n t) (unmoved t) (rw v) settled (unmoved_of n t r)
      | holds v ↦
          by_step n t r (conditionally_waited n t) (waited n t) (rw v) settled (λ after. elim (waited_as n t) [
            | idle e ↦ by_step n t r _ _ e after (unmoved_of n t r)
            | pass is above e ↦ by_step n t r _ _ e after (passed_of n t r here (inr what) is above)
            | join some none e ↦ absurd (true≢false (sym v ∙ none))
          ])
    ]

-- ---- creation and deletion

-- A new process stood in no line
new_apart : (n priority : ℕ) (t : Tables) (r : Record) (p : ℕ) → process_begins p (seen t r (replied (processes.created priority t))) ≡ true → standing (Semaphore n) t.processes p ≡ false
unfolding process_begins creates replied replied_by processes.created processes.created_as
new_apart n priority t r p h =
    let m = processes.free_process t in
    elim (test (eqb m 0)) [
      | holds z ↦ absurd (true≢false (sym (rw (z, both_none (eqb r.what 2)) at h)))
      | fails z ↦ rw (← eqb-true m p (both_second (eqb r.what 2) (eqb m p) (rw z at h))) (ap (stands (Semaphore n)) (free_unused t (eqb-false m 0 z)).nowhere ∙ nowhere_stands (Semaphore n))
    ]

-- Create process: no structure is touched
create_process_of : (n : ℕ) (t : Tables) (r : Record) → Steady t → r.what ≡ 2 → Settled (processes.created r.l t).tables → DeedAt n (seen t r (replied (processes.created r.l t)))
unfolding line done process_begins structure_begins
create_process_of n t r steady what settled =
    let e = seen t r (replied (processes.created r.l t)) in
    rests_of n t r (processes.created r.l t) settled (done_same n deeds.CreateProcess r t steady refl (λ c. absurd (true≢false (sym c)))) (uncalled n e (rw what)) (not_called 10 n e (rw what))
    (λ p h. not_listed p (line (Semaphore n) t) (has_not (standing (Semaphore n) t.processes) p t.order (new_apart n r.l t r p h)))

-- Nobody waits at a structure, so its line is empty
unwaited_empty : (n : ℕ) (t : Tables) → Unwaited n t → line (Semaphore n) t ≡ []
unfolding Unwaited line
unwaited_empty n t none = keep_none (standing (Semaphore n) t.processes) t.order (λ y h. (unwaited_lines n (place_at t.processes y) (none y)).2)

-- A structure of another kind: every line stays, and it has the kind
structure_line : (n m : ℕ) (kind : Kind) (t : Tables) → line (Semaphore n) (with_structure t m (record { kind = kind })) ≡ line (Semaphore n) t
unfolding with_structure line
structure_line n m kind t = refl

structure_now : (m n : ℕ) (kind : Kind) (t : Tables) → m ≡ n → (m ≡ 0 → ⊥) → m ≤ length t.structures → (structure_of (with_structure t m (record { kind = kind })) n).kind ≡ kind
unfolding with_structure structure_of
structure_now m n kind t here some known = rw (← here) (ap (λ (s : Structure). s.kind) (replaced_same t.structures m (record { kind = kind }) nothing some known))

-- The new structure, and every other one
numbered_of : (n : ℕ) (t u : Tables) (r : Record) (k : Kind) → Steady t → r.what ≡ 10 → (structures.free_number t.structures ≡ 0 → ⊥) → StartsAt r.m k
    → Same n t u → u.structures ≡ t.structures → Settled (structures.numbered_as (structures.free_number t.structures) k u).tables
    → DeedAt n (seen t r (replied (structures.numbered_as (structures.free_number t.structures) k u)))
unfolding structures.numbered_as replied replied_by process_begins structure_begins creates
numbered_of n t u r k steady what some start same kept settled =
    let m = structures.free_number t.structures in
    let s = structures.numbered_as m k u in
    let e = seen t r (replied s) in
    let none : (p : ℕ) → process_begins p e ≡ false = λ p. not_called 2 p e (rw what) in
    let after = dispatched_same n s.tables settled in
    elim (test (eqb m n)) [
      | fails q ↦
          rests_of n t r s settled (same_then same (structure_same n m (record { kind = k }) u (λ x. eqb-false m n q (sym x)))) (uncalled n e (rw what))
          (rw (what, q)) (no_newcomer e (line (Semaphore n) t) none)
      | holds q ↦
          let v : Vacant m t = free_vacant t steady some in
          let here : m ≡ n = eqb-true m n q in
          let empty : line (Semaphore n) t ≡ [] = unwaited_empty n t (subst (λ (x : ℕ). Unwaited x t) here v.none) in
          begins k start empty (nothing_shown n e (uncalled n e (rw what)) [] k true
          (after.line_same ∙ structure_line n m k u ∙ same.line_same ∙ empty)
          (after.kind_same ∙ structure_now m n k u here v.some (rw kept v.known))
          (rw (what, q)) (no_newcomer e [] none))
    ]

-- Create structure
create_structure_of : (n : ℕ) (t : Tables) (r : Record) → Steady t → r.what ≡ 10 → Settled (structures.created r.l r.m t).tables
    → DeedAt n (seen t r (replied (structures.created r.l r.m t)))
unfolding with_ring
create_structure_of n t r steady what =
    created_by r.l r.m t (λ s. Settled s.tables → DeedAt n (seen t r (replied s))) (unmoved_of n t r)
    (λ most some. numbered_of n t t r (kinds.Binary r.m) steady what some refl (same_none n t) refl)
    (λ most some. numbered_of n t t r (kinds.Counting r.m) steady what some refl (same_none n t) refl)
    (λ size most some bay. numbered_of n t _ r (kinds.Ring (structures.free_bay t.structures)) steady what some tt (ring_same n (structures.free_bay t.structures) (ring_of 0 r.m []) t) refl)

-- Structure n is free, and nobody stood in its line
ended_of : (n : ℕ) (t u : Tables) (r : Record) → r.what ≡ 11 → line (Semaphore n) t ≡ [] → line (Semaphore n) u ≡ line (Semaphore n) t → (structure_of u n).kind ≡ kinds.Free
    → Settled u → DeedAt n (seen t r (replied (step u (plain Done))))
unfolding replied replied_by process_begins structure_begins
ended_of n t u r what empty same free settled =
    let e = seen t r (replied (step u (plain Done))) in
    let after = dispatched_same n u settled in
    ends empty (nothing_shown n e (uncalled n e (rw what)) [] kinds.Free false (after.line_same ∙ same ∙ empty) (after.kind_same ∙ free)
    (not_called 10 n e (rw what)) (no_newcomer e [] (λ p. not_called 2 p e (rw what))))

-- A ring in its bay changes no line and no kind
bay_line : (n b : ℕ) (ring : bays.Ring) (t : Tables) → line (Semaphore n) (with_ring t b ring) ≡ line (Semaphore n) t
bay_line n b ring t = (ring_same n b ring t).line_same

bay_kind : (n b : ℕ) (ring : bays.Ring) (t : Tables) → (structure_of (with_ring t b ring) n).kind ≡ (structure_of t n).kind
bay_kind n b ring t = (ring_same n b ring t).kind_same

-- Delete, by the kind that structure n has
delete_at : (n : ℕ) (t : Tables) (r : Record) (kind : Kind) → Settled t → r.what ≡ 11 → line (Semaphore n) t ≡ [] → (structure_of t n).kind ≡ kind
    → Settled (structures.deleted_at n t kind).tables → DeedAt n (seen t r (replied (structures.deleted_at n t kind)))
unfolding structures.deleted_at structure_of
delete_at n t r kinds.Free before what empty is settled = unmoved_of n t r before
delete_at n t r (kinds.Binary v) before what empty is settled =
    let here = known_structure n t (ap structures.is_free is) in
    ended_of n t (with_structure t n nothing) r what empty (structure_line n n kinds.Free t) (structure_now n n kinds.Free t refl here.0 here.1) settled
delete_at n t r (kinds.Counting v) before what empty is settled =
    let here = known_structure n t (ap structures.is_free is) in
    ended_of n t (with_structure t n nothing) r what empty (structure_line n n kinds.Free t) (structure_now n n kinds.Free t refl here.0 here.1) settled
delete_at n t r (kinds.Ring b) before what empty is settled =
    let here = known_structure n t (ap structures.is_free is) in
    let u = with_structure t n nothing in
    ended_of n t (with_ring u b empty_bay) r what empty (bay_line n b empty_bay u ∙ structure_line n n kinds.Free t)
    (bay_kind n b empty_bay u ∙ structure_now n n kinds.Free t refl here.0 here.1) settled

-- Delete structure: nobody is in its lines, or 51 would apply
delete_of : (n : ℕ) (t : Tables) (r : Record) → Steady t → r.what ≡ 11 → in_lines_of n t ≡ 0 → Settled (structures.deleted n t).tables
    → DeedAt n (seen t r (replied (structures.deleted n t)))
unfolding structures.deleted
delete_of n t r steady what none settled =
    delete_at n t r (structure_of t n).kind steady.settled what (unwaited_empty n t (no_lines n t steady.settled none)) refl settled

-- ---- every accepted request

module _ (n : ℕ) (t : Tables) (r : Record) (steady : Steady t) where
  -- A call that is none of the semaphores'
  quiet : (deed : Deed) → r.what ≡ call_number deed → has (call_number deed) (10 ∷ 11 ∷ []) ≡ false → eqb (call_number deed) 2 ≡ false → has (call_number deed) semaphore_calls ≡ false
      → Settled (done deed r t).tables → DeedAt n (seen t r (replied (done deed r t)))
  quiet deed what structure process none settled = elsewhere_of n t r deed steady what structure process (λ c. absurd (true≢false (sym c ∙ none))) settled

  -- A semaphore's call, by what it does at the semaphore that it names
  at_semaphore : (deed : Deed) → r.what ≡ call_number deed → has (call_number deed) (10 ∷ 11 ∷ []) ≡ false → eqb (call_number deed) 2 ≡ false
      → Settled (done deed r t).tables → DeedAt r.n (seen t r (replied (done deed r t))) → DeedAt n (seen t r (replied (done deed r t)))
  at_semaphore deed what structure process settled here =
      here_or_elsewhere (λ (m : ℕ). DeedAt m (seen t r (replied (done deed r t)))) n r.n here (λ other. elsewhere_of n t r deed steady what structure process (λ c. other) settled)

  -- Delete structure, of another one
  deleted_elsewhere : r.what ≡ 11 → Settled (structures.deleted r.n t).tables → (n ≡ r.n → ⊥) → DeedAt n (seen t r (replied (structures.deleted r.n t)))
  unfolding process_begins structure_begins
  deleted_elsewhere what settled other =
      let e = seen t r (replied (structures.deleted r.n t)) in
      rests_of n t r (structures.deleted r.n t) settled (elsewhere_deleted n r.n t other) (uncalled n e (rw what)) (not_called 10 n e (rw what))
      (no_newcomer e (line (Semaphore n) t) (λ p. not_called 2 p e (rw what)))

  -- What the request does, by its deed: accepted, a signal met no counting semaphore at 32,767, and nobody is in a line of a structure that is deleted
  done_of : (deed : Deed) → r.what ≡ call_number deed → (deed ≡ deeds.Signal → is_full (kind_of r.n t) ≡ false) → (deed ≡ deeds.DeleteStructure → in_lines_of r.n t ≡ 0)
      → Settled (done deed r t).tables → DeedAt n (seen t r (replied (done deed r t)))
  unfolding done
  done_of deeds.Unknown what signals deletes settled = unmoved_of n t r settled
  done_of deeds.Tick what signals deletes settled = quiet deeds.Tick what refl refl refl settled
  done_of deeds.CreateProcess what signals deletes settled = create_process_of n t r steady what settled
  done_of deeds.DeleteMyself what signals deletes settled = quiet deeds.DeleteMyself what refl refl refl settled
  done_of deeds.Suspend what signals deletes settled = quiet deeds.Suspend what refl refl refl settled
  done_of deeds.Resume what signals deletes settled = quiet deeds.Resume what refl refl refl settled
  done_of deeds.ChangePriority what signals deletes settled = quiet deeds.ChangePriority what refl refl refl settled
  done_of deeds.Schedule what signals deletes settled = quiet deeds.Schedule what refl refl refl settled
  done_of deeds.ProcessState what signals deletes settled = quiet deeds.ProcessState what refl refl refl settled
  done_of deeds.Sleep what signals deletes settled = quiet deeds.Sleep what refl refl refl settled
  done_of deeds.CreateStructure what signals deletes settled = create_structure_of n t r steady what settled
  done_of deeds.DeleteStructure what signals deletes settled =
      here_or_elsewhere (λ (m : ℕ). DeedAt m (seen t r (replied (structures.deleted r.n t)))) n r.n (delete_of r.n t r steady what (deletes refl) settled) (deleted_elsewhere what settled)
  done_of deeds.StructureValue what signals deletes settled = quiet deeds.StructureValue what refl refl refl settled
  done_of deeds.Signal what signals deletes settled = at_semaphore deeds.Signal what refl refl settled (signal_of r.n t r steady refl what (signals refl) settled)
  done_of deeds.ConditionalSignal what signals deletes settled = at_semaphore deeds.ConditionalSignal what refl refl settled (conditional_signal_of r.n t r steady refl what settled)
  done_of deeds.SignalAll what signals deletes settled = at_semaphore deeds.SignalAll what refl refl settled (all_of r.n t r refl what settled)
  done_of deeds.Wait what signals deletes settled = at_semaphore deeds.Wait what refl refl settled (wait_of r.n t r steady refl what settled)
  done_of deeds.ConditionalWait what signals deletes settled = at_semaphore deeds.ConditionalWait what refl refl settled (conditional_wait_of r.n t r steady refl what settled)
  done_of deeds.Put what signals deletes settled = quiet deeds.Put what refl refl refl settled
  done_of deeds.ConditionalPut what signals deletes settled = quiet deeds.ConditionalPut what refl refl refl settled
  done_of deeds.Get what signals deletes settled = quiet deeds.Get what refl refl refl settled
  done_of deeds.ConditionalGet what signals deletes settled = quiet deeds.ConditionalGet what refl refl refl settled
  done_of deeds.ResetRing what signals deletes settled = quiet deeds.ResetRing what refl refl refl settled
  done_of deeds.Collect what signals deletes settled = quiet deeds.Collect what refl refl refl settled

-- ---- every request

-- 50 applies to a signal of a counting semaphore at 32,767, so an accepted one met none
signals_below : (t : Tables) (r : Record) → refusal t r ≡ 0 → (row_of r.what).deed ≡ deeds.Signal → is_full (kind_of r.n t) ≡ false
unfolding applies applies_to signals_full kind_of
signals_below t r accepted e =
    let no : both (eqb r.what 13) (is_full (structure_of t r.n).kind) ≡ false = none_refuses t r accepted 50 refl in
    rw (eq-eqb r.what 13 (call_is t r accepted deeds.Signal e)) at no

-- Every byte string does one of the deeds at every structure
pub deed_of : (n : ℕ) (t : Tables) (q : List ℕ) → SoundTables t → DeedAt n (event t q)
deed_of n t q sound =
    of_event (DeedAt n) t sound (λ k r. refused_of n t r k)
    (λ r steady long accepted. done_of n t r steady (row_of r.what).deed (sym (call_known t r accepted)) (signals_below t r accepted) (deletes_unused t r accepted)) q
