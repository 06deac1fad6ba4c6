-- "Lines are judged after each request": nobody stands at the head of a line that could serve him.
use Rattle.std.specs.Prelude.{ℕ, ◌+◌, ◌≤◌, ◌<◌, ◌≡◌, refl, true, false, cond, List, [], ◌∷◌, eqb, leb, length}
use Rattle.std.proofs.Common.{sym, ◌∙◌, arith, ne_eqb, eqb-true, leb-false}
use Rattle.std.proofs.Math.Path.{ap}
use Rattle.std.proofs.Math.Bool.{true≢false}
use Rattle.std.proofs.lemmas.Bool.{eqb-false}
use Rattle.basics.specs.Tests.{test, holds, fails}
use Rattle.arrivals.specs.Order.{has}
use Rattle.arrivals.specs.Views.{in_line}
use Rattle.bay.specs.Laws.{length_contents}
use Rattle.tables.specs.declared.Tables.{Tables}
use Rattle.tables.specs.declared.Process.{Process}
use Rattle.tables.specs.declared.Kind.{Kind}
use Rattle.tables.specs.declared.Kind.TheVariants as kinds
use Rattle.tables.specs.declared.Place.TheVariants.{Nowhere}
use Rattle.tables.specs.declared.Line.{Line}
use Rattle.tables.specs.declared.Line.TheVariants.{Semaphore, Getters, Putters}
use Rattle.tables.specs.Numbers.{is_ring}
use Rattle.tables.specs.Access.{nobody, process_of, structure_of, ring_in}
use Rattle.tables.specs.Laws.{numbered_zero}
use Rattle.tables.specs.Lines.{line, stands, standing, urgency, ready_line}
use Rattle.rings.specs.Serving.{asked, getter_goes, putter_goes, getter_can, putter_can}
use Rattle.rings.specs.Changes.{getting, putting, length_of}
use Rattle.rings.specs.Turns.{nowhere_getting, nowhere_putting}
use Rattle.arrivals.specs.Listed.{has_here}
use Rattle.sound.specs.Sound.{kind_at, bay_of, AtZero, Sound}
use Rattle.sound.specs.Sentences.{semaphore_with_a_line_is_at_0, ring_heads_wait, getter_length_fits, putter_length_fits, no_less_urgent_than_the_head, nobody_runs_nobody_ready}
use Rattle.promises.specs.KeptReady.{urgency_some}
use Rattle.promises.specs.Run.{run, run_sound}
use Rattle.promises.specs.Turns.{held, held_by}

-- The size of ring n
abbrev pub size_of : ℕ → Tables → ℕ
size_of n t = (ring_in t (bay_of (structure_of t n).kind)).size

-- Whoever heads a semaphore's line finds it at 0; whoever heads a ring's getters wants more than is held; whoever heads its putters has no room;
-- the head of the ready line is no more urgent than whoever runs; and nobody runs only with an empty ready line
pub record NoHeadWaitsInVain (t : Tables) : Type 0 where
  pub semaphore : (n x : ℕ) (behind : List ℕ) → line (Semaphore n) t ≡ x ∷ behind → AtZero (structure_of t n).kind
  pub getters : (n x : ℕ) (behind : List ℕ) → line (Getters n) t ≡ x ∷ behind → length (held n t) < asked (process_of t x).place
  pub putters : (n x : ℕ) (behind : List ℕ) → line (Putters n) t ≡ x ∷ behind → size_of n t < length (held n t) + asked (process_of t x).place
  pub ready : (x : ℕ) (behind : List ℕ) → ready_line t ≡ x ∷ behind → (process_of t x).priority ≤ (process_of t t.running).priority
  pub idle : t.running ≡ 0 → ready_line t ≡ []

-- A line with a head is not empty
not_empty : (x : ℕ) (l : List ℕ) → [] ≡ x ∷ l → ⊥
not_empty x l e = true≢false (sym (has_here x l) ∙ ap (has x) (sym e))

-- A ring lies in its bay
is_ring_lem : (kind : Kind) → is_ring kind ≡ true → kind ≡ kinds.Ring (bay_of kind)
is_ring_lem kinds.Free e = absurd (true≢false (sym e))
is_ring_lem (kinds.Binary v) e = absurd (true≢false (sym e))
is_ring_lem (kinds.Counting v) e = absurd (true≢false (sym e))
is_ring_lem (kinds.Ring b) e = refl

-- How many bytes a ring holds
holds_many : (n b : ℕ) (t : Tables) → (structure_of t n).kind ≡ kinds.Ring b → length (held n t) ≡ (ring_in t b).held
unfolding held held_by
holds_many n b t e = rw e (length_contents (ring_in t b))

-- Of a test of a head that fails: somebody stands there and does not find enough
fails_head : (x a b : ℕ) → (x ≡ 0 → ⊥) → cond (eqb x 0) false (leb a b) ≡ false → b < a
fails_head x a b z e = leb-false a b (rw (ne_eqb x 0 z) at e)

module _ (t : Tables) (s : Sound t) where
  -- Whoever heads a line stands there
  head_at : (l : Line) (x : ℕ) (behind : List ℕ) → line l t ≡ x ∷ behind → stands l (process_of t x).place ≡ true
  unfolding line process_of
  head_at l x behind e = (in_line (standing l t.processes) x t.order (rw e (has_here x behind))).0

  -- and is somebody
  head_some : (l : Line) (x : ℕ) (behind : List ℕ) → stands l Nowhere ≡ false → line l t ≡ x ∷ behind → x ≡ 0 → ⊥
  unfolding process_of
  head_some l x behind out e z = true≢false (sym (head_at l x behind e) ∙ ap (λ (q : Process). stands l q.place) (numbered_zero t.processes x nobody z) ∙ out)

  -- The head getter wants more than is held
  getter_waits : (n x : ℕ) (behind : List ℕ) → line (Getters n) t ≡ x ∷ behind → length (held n t) < asked (process_of t x).place
  unfolding process_of structure_of getter_can getter_goes
  getter_waits n x behind e =
      let place = getting n (process_of t x).place (head_at (Getters n) x behind e) in
      let ring = is_ring_lem (kind_at t.structures n) (getter_length_fits s.settled x n (asked (process_of t x).place) place).ring in
      let can = rw (e, length_of t x) at (ring_heads_wait s n (bay_of (kind_at t.structures n)) ring).getter in
      rw (holds_many n (bay_of (kind_at t.structures n)) t ring) (fails_head x _ _ (head_some (Getters n) x behind (nowhere_getting n) e) can)

  -- and the head putter has no room
  putter_waits : (n x : ℕ) (behind : List ℕ) → line (Putters n) t ≡ x ∷ behind → size_of n t < length (held n t) + asked (process_of t x).place
  unfolding process_of structure_of putter_can putter_goes
  putter_waits n x behind e =
      let place = putting n (process_of t x).place (head_at (Putters n) x behind e) in
      let ring = is_ring_lem (kind_at t.structures n) (putter_length_fits s.settled x n (asked (process_of t x).place) place).ring in
      let can = rw (e, length_of t x) at (ring_heads_wait s n (bay_of (kind_at t.structures n)) ring).putter in
      rw (holds_many n (bay_of (kind_at t.structures n)) t ring) (fails_head x _ _ (head_some (Putters n) x behind (nowhere_putting n) e) can)

  -- The head of the ready line is no more urgent than the runner
  ready_waits : (x : ℕ) (behind : List ℕ) → ready_line t ≡ x ∷ behind → (process_of t x).priority ≤ (process_of t t.running).priority
  unfolding process_of
  ready_waits x behind e =
      let runs : t.running ≡ 0 → ⊥ = λ z. not_empty x behind (sym (nobody_runs_nobody_ready t s.urgent z) ∙ e) in
      let less : urgency t.processes x ≤ urgency t.processes t.running = rw e at (no_less_urgent_than_the_head t s.urgent) in
      elim (test (eqb x 0)) [
        | holds z ↦ rw (ap (λ (q : Process). q.priority) (numbered_zero t.processes x nobody (eqb-true x 0 z))) (omega arith)
        | fails z ↦ omega (arith, less, urgency_some t.processes x (eqb-false x 0 z), urgency_some t.processes t.running runs)
      ]

  -- So of sound tables
  pub heads_wait : NoHeadWaitsInVain t
  unfolding structure_of
  heads_wait =
      record {
        semaphore = λ n x behind e. semaphore_with_a_line_is_at_0 s.settled n (λ none. not_empty x behind (sym none ∙ e));
        getters = getter_waits;
        putters = putter_waits;
        ready = ready_waits;
        idle = nobody_runs_nobody_ready t s.urgent;
      }

-- After any list of requests nobody stands at the head of a line that could serve him
pub no_head_waits_in_vain : (l : List (List ℕ)) → NoHeadWaitsInVain (run l)
no_head_waits_in_vain l = heads_wait (run l) (run_sound l).sound
