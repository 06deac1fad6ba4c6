-- The nine signals, in the user's words: on a binary semaphore with nobody in line any number of signals lets exactly one wait through before the next waits;
-- on a counting one as many as there were signals, with its value before.
use Rattle.std.specs.Prelude.{ℕ, zero, suc, ◌+◌, ◌-◌, ◌≤◌, ◌<◌, ◌≡◌, refl, true, false, List, [], ◌∷◌, ◌++◌, eqb, leb, length, replicate}
use Rattle.std.proofs.Common.{sym, ap, subst, ◌∙◌, true≢false, arith, ne_eqb, lt-ltb, le-ltb}
use Rattle.std.proofs.lemmas.Bool.{eqb-false}
use Rattle.basics.specs.Tests.{test, holds, fails}
use Rattle.arrivals.specs.Order.{first}
use Rattle.tables.specs.declared.Tables.{Tables}
use Rattle.tables.specs.declared.Kind.{Kind}
use Rattle.tables.specs.declared.Kind.TheVariants.{Free, Binary, Counting, Ring}
use Rattle.tables.specs.declared.Line.TheVariants.{Semaphore}
use Rattle.tables.specs.Numbers.{is_semaphore}
use Rattle.tables.specs.Access.{process_of, structure_of, with_structure}
use Rattle.tables.specs.Lines.{line, ready_line}
use Rattle.answers.specs.declared.Outcome.TheVariants.{Done}
use Rattle.answers.specs.declared.Step.{Step}
use Rattle.answers.specs.Answers.{plain, step}
use Rattle.ready.specs.Ready.{runs, dispatched_to, dispatched}
use Rattle.records.specs.declared.Record.{Record}
use Rattle.records.specs.Records.{request, number, low_first, bytes_of, record_of, record_length}
use Rattle.calls.specs.Calls.{table, row_in, row_of}
use Rattle.refusals.specs.Refusals.{unknown_call, wrong_caller, bad_field, named, dead_structure, wrong_kind, dead_process, wrong_suspension, uncollected, too_long, is_full, signals_full, deletes_in_use, processes_full, structures_full, applies_to, applies, refusal}
use Rattle.semaphores.specs.Semaphores.{kind_of, with_kind, value, lowered, raised, waited_at, waited, signalled_at, signalled}
use Rattle.steps.specs.Steps.{After, done, replied_by, replied, stepped_by, stepped}
use Rattle.sound.specs.Sound.{Settled}
use Rattle.promises.specs.KeptReady.{sound_steady}
use Rattle.promises.specs.KeptSemaphores.{signalled_steady, waited_steady}
use Rattle.promises.specs.Kept.{SoundTables}
use Rattle.promises.specs.Run.{handled, after_bytes, run, event, events, codes_of, handled_request, bytes_sound, run_sound}
use Rattle.promises.specs.SemaphoreSame.{Same, dispatched_same, kind_now, kind_line, no_head}

-- ---- the requests, and what they are answered

-- A request that names structure n and nothing else
abbrev pub asks : ℕ → ℕ → ℕ → Record
asks call caller n = request call caller n 0 0 (replicate 64 0)

-- The board signals semaphore n, and the running process waits there
abbrev pub signal : ℕ → List ℕ
signal n = bytes_of (asks 13 0 n)

abbrev pub wait : ℕ → List ℕ
wait n = bytes_of (asks 16 1 n)

-- So many times the same
abbrev pub times : {A : Type 0} → ℕ → A → List A
times zero a = []
times (suc k) a = a ∷ times k a

-- ---- both are accepted

-- They are 72 bytes,
asks_length : (call caller n : ℕ) → length (bytes_of (asks call caller n)) ≡ record_length
unfolding bytes_of low_first
asks_length call caller n = refl

-- which read back as the request
asks_back : (call caller n : ℕ) → record_of (bytes_of (asks call caller n)) ≡ asks call caller n
unfolding record_of bytes_of low_first number
asks_back call caller n = refl

-- No refusal applies to a signal below 32,767,
signal_accepted : (n : ℕ) (t : Tables) (kind : Kind) → (structure_of t n).kind ≡ kind → is_semaphore kind ≡ true → is_full kind ≡ false → refusal t (asks 13 0 n) ≡ 0
unfolding refusal applies applies_to unknown_call wrong_caller bad_field dead_structure wrong_kind named dead_process wrong_suspension uncollected too_long signals_full deletes_in_use processes_full structures_full row_of row_in table
signal_accepted n t Free is e f = absurd (true≢false (sym e))
signal_accepted n t (Binary v) is e f = rw is
signal_accepted n t (Counting v) is e f = rw (is, f)
signal_accepted n t (Ring b) is e f = absurd (true≢false (sym e))

-- nor to a wait of somebody who runs,
wait_accepted : (n : ℕ) (t : Tables) (kind : Kind) → (structure_of t n).kind ≡ kind → is_semaphore kind ≡ true → (t.running ≡ 0 → ⊥) → refusal t (asks 16 1 n) ≡ 0
unfolding refusal applies applies_to unknown_call wrong_caller bad_field dead_structure wrong_kind named dead_process wrong_suspension uncollected too_long signals_full deletes_in_use processes_full structures_full row_of row_in table
wait_accepted n t Free is e z = absurd (true≢false (sym e))
wait_accepted n t (Binary v) is e z = rw (ne_eqb t.running 0 z, is)
wait_accepted n t (Counting v) is e z = rw (ne_eqb t.running 0 z, is)
wait_accepted n t (Ring b) is e z = absurd (true≢false (sym e))

-- so the signal is carried out,
signal_handled : (n : ℕ) (t : Tables) → is_semaphore (structure_of t n).kind ≡ true → is_full (structure_of t n).kind ≡ false → handled t (signal n) ≡ replied (signalled n t)
unfolding stepped stepped_by done row_of row_in table
signal_handled n t e f =
    handled_request t (signal n) (asks_length 13 0 n) ∙ ap (stepped t) (asks_back 13 0 n) ∙ rw (signal_accepted n t (structure_of t n).kind refl e f)

-- and the wait too
wait_handled : (n : ℕ) (t : Tables) → is_semaphore (structure_of t n).kind ≡ true → (t.running ≡ 0 → ⊥) → handled t (wait n) ≡ replied (waited n t)
unfolding stepped stepped_by done row_of row_in table
wait_handled n t e z =
    handled_request t (wait n) (asks_length 16 1 n) ∙ ap (stepped t) (asks_back 16 1 n) ∙ rw (wait_accepted n t (structure_of t n).kind refl e z)

-- ---- one request

-- Somebody runs, nobody stands in the line of semaphore n, and it is this one
pub record Open (n : ℕ) (kind : Kind) (t : Tables) : Type 0 where
  pub sound : SoundTables t
  pub runner : t.running ≡ 0 → ⊥
  pub empty : line (Semaphore n) t ≡ []
  pub is : (structure_of t n).kind ≡ kind

-- Where somebody ran, somebody runs
dispatched_runs : (t : Tables) → (t.running ≡ 0 → ⊥) → (dispatched t).running ≡ 0 → ⊥
unfolding dispatched dispatched_to runs
dispatched_runs t z =
    let h = first (ready_line t) in
    elim (test (eqb h 0)) [
      | holds a ↦ rw a z
      | fails a ↦
          elim (test (leb (process_of t h).priority (process_of t t.running).priority)) [
            | holds k ↦ rw (a, ne_eqb t.running 0 z, k) z
            | fails k ↦ rw (a, ne_eqb t.running 0 z, k) (eqb-false h 0 a)
          ]
    ]

-- A value is not who runs
kind_runner : (n : ℕ) (kind : Kind) (t : Tables) → (t.running ≡ 0 → ⊥) → (with_kind n kind t).running ≡ 0 → ⊥
unfolding with_kind with_structure
kind_runner n kind t z = z

-- A request that changes the value of n and nothing else, and is answered 0
data Passes (n : ℕ) (kind : Kind) (t : Tables) (q : List ℕ) : Type 0 where
  passes : (event t q).reply.what ≡ 0 → Open n kind (after_bytes t q) → Passes n kind t q

-- A step that gives semaphore n another value and answers 0 is such a request
valued : (n : ℕ) (was is : Kind) (t : Tables) (q : List ℕ) → Open n was t → is_semaphore was ≡ true → handled t q ≡ replied (step (with_kind n is t) (plain Done))
    → Settled (with_kind n is t) → Passes n is t q
unfolding after_bytes replied replied_by kind_of
valued n was is t q o semaphore e settled =
    let u = with_kind n is t in
    let after : Same n u (dispatched u) = dispatched_same n u settled in
    let tables : after_bytes t q ≡ dispatched u = ap (λ (a : After). a.tables) e in
    passes (ap (λ (a : After). a.reply.what) e)
    (record {
      sound = bytes_sound t q o.sound;
      runner = subst (λ (x : Tables). x.running ≡ 0 → ⊥) (sym tables) (dispatched_runs u (kind_runner n is t o.runner));
      empty = ap (line (Semaphore n)) tables ∙ after.line_same ∙ kind_line n is t ∙ o.empty;
      is = ap (λ (x : Tables). (structure_of x n).kind) tables ∙ after.kind_same ∙ kind_now n is t (rw o.is semaphore);
    })

-- A signal where nobody stands in line: the value rises
signal_passes : (n : ℕ) (kind : Kind) (t : Tables) → Open n kind t → is_semaphore kind ≡ true → is_full kind ≡ false → Passes n (raised kind) t (signal n)
unfolding signalled signalled_at kind_of
signal_passes n kind t o e f =
    let u = with_kind n (raised kind) t in
    let raised_it : signalled n t ≡ step u (plain Done) = rw (o.is, e, no_head n t o.empty) in
    valued n kind (raised kind) t (signal n) o e (signal_handled n t (rw o.is e) (rw o.is f) ∙ ap replied raised_it)
    (subst (λ (s : Step). Settled s.tables) raised_it (signalled_steady n t (sound_steady t o.sound.typed o.sound.sound)).settled)

-- A wait with the value above 0: it falls
wait_passes : (n : ℕ) (kind : Kind) (t : Tables) → Open n kind t → is_semaphore kind ≡ true → 0 < value kind → Passes n (lowered kind) t (wait n)
unfolding waited waited_at kind_of
wait_passes n kind t o e v =
    let u = with_kind n (lowered kind) t in
    let lowered_it : waited n t ≡ step u (plain Done) = rw (ne_eqb t.running 0 o.runner, o.is, e, lt-ltb 0 (value kind) v) in
    valued n kind (lowered kind) t (wait n) o e (wait_handled n t (rw o.is e) o.runner ∙ ap replied lowered_it)
    (subst (λ (s : Step). Settled s.tables) lowered_it (waited_steady n t (sound_steady t o.sound.typed o.sound.sound)).settled)

-- A wait with the value 0: the caller waits
wait_waits : (n : ℕ) (kind : Kind) (t : Tables) → Open n kind t → is_semaphore kind ≡ true → value kind ≡ 0 → (event t (wait n)).reply.what ≡ 2
unfolding waited waited_at kind_of replied replied_by
wait_waits n kind t o e v =
    ap (λ (a : After). a.reply.what) (wait_handled n t (rw o.is e) o.runner)
    ∙ rw (ne_eqb t.running 0 o.runner, o.is, e, le-ltb 0 (value kind) (omega arith))

-- ---- any number of them

-- The code of the first request, then those of the rest
codes_then : {n : ℕ} {kind : Kind} (t : Tables) (q : List ℕ) (l : List (List ℕ)) (codes : List ℕ) → Passes n kind t q → (Open n kind (after_bytes t q) → codes_of (after_bytes t q) l ≡ codes)
    → codes_of t (q ∷ l) ≡ 0 ∷ codes
unfolding codes_of events
codes_then t q l codes (passes e o) rest = rw (e, rest o)

-- The last wait
codes_last : (n : ℕ) (kind : Kind) (t : Tables) → Open n kind t → is_semaphore kind ≡ true → value kind ≡ 0 → codes_of t (wait n ∷ []) ≡ 2 ∷ []
unfolding codes_of events
codes_last n kind t o e v = rw (wait_waits n kind t o e v)

-- A binary semaphore after any number of signals
binary_codes : (n v k : ℕ) (t : Tables) → Open n (Binary v) t → codes_of t (times (suc k) (signal n) ++ (wait n ∷ wait n ∷ [])) ≡ times (suc k) 0 ++ (0 ∷ 2 ∷ [])
binary_codes n v zero t o =
    codes_then t (signal n) _ _ (signal_passes n (Binary v) t o refl refl) (λ a.
    codes_then _ (wait n) _ _ (wait_passes n (Binary 1) _ a refl (omega arith)) (λ b. codes_last n (Binary 0) _ b refl refl))
binary_codes n v (suc k) t o = codes_then t (signal n) _ _ (signal_passes n (Binary v) t o refl refl) (λ a. binary_codes n 1 k _ a)

-- A counting semaphore that is waited for as often as its value, and once more
waits_codes : (n v : ℕ) (t : Tables) → Open n (Counting v) t → codes_of t (times v (wait n) ++ (wait n ∷ [])) ≡ times v 0 ++ (2 ∷ [])
waits_codes n zero t o = codes_last n (Counting 0) t o refl refl
waits_codes n (suc v) t o =
    let same : suc v - 1 ≡ v = omega arith in
    codes_then t (wait n) _ _ (wait_passes n (Counting (suc v)) t o refl (omega arith)) (λ a. waits_codes n v _ (subst (λ (x : ℕ). Open n (Counting x) (after_bytes t (wait n))) same a))

-- after signals: its value is w then
counting_codes : (n v k w : ℕ) (t : Tables) → Open n (Counting v) t → v + k ≡ w → w ≤ 32767
    → codes_of t (times k (signal n) ++ (times w (wait n) ++ (wait n ∷ []))) ≡ times k 0 ++ (times w 0 ++ (2 ∷ []))
counting_codes n v zero w t o sum most =
    let same : v ≡ w = omega arith in
    waits_codes n w t (subst (λ (x : ℕ). Open n (Counting x) t) same o)
counting_codes n v (suc k) w t o sum most =
    let up : raised (Counting v) ≡ Counting (v + 1) = rw (lt-ltb v 32767 (omega arith)) in
    codes_then t (signal n) _ _ (signal_passes n (Counting v) t o refl (ne_eqb v 32767 (λ e. omega arith)))
    (λ a. counting_codes n (v + 1) k w _ (subst (λ (x : Kind). Open n x (after_bytes t (signal n))) up a) (omega arith) most)

-- ---- in the user's words

module _ (n v : ℕ) (before : List (List ℕ)) (runner : (run before).running ≡ 0 → ⊥) (empty : line (Semaphore n) (run before) ≡ []) where
  -- A binary semaphore with nobody in line: after any number of signals, but none, one wait goes through and the next waits
  pub one_passes : (structure_of (run before) n).kind ≡ Binary v → (k : ℕ)
      → codes_of (run before) (times (suc k) (signal n) ++ (wait n ∷ wait n ∷ [])) ≡ times (suc k) 0 ++ (0 ∷ 2 ∷ [])
  one_passes is k = binary_codes n v k (run before) (record { sound = run_sound before; runner = runner; empty = empty; is = is })

  -- A counting semaphore with nobody in line: as many waits go through as its value and the signals, and the next waits
  pub as_many_pass : (structure_of (run before) n).kind ≡ Counting v → (k : ℕ) → v + k ≤ 32767
      → codes_of (run before) (times k (signal n) ++ (times (v + k) (wait n) ++ (wait n ∷ []))) ≡ times k 0 ++ (times (v + k) 0 ++ (2 ∷ []))
  as_many_pass is k most = counting_codes n v k (v + k) (run before) (record { sound = run_sound before; runner = runner; empty = empty; is = is }) refl most
