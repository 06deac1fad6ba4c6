-- The ready line's steps keep tables steady, and dispatched makes them sound.
use Rattle.std.specs.Prelude.{ℕ, suc, ◌≤◌, ◌≡◌, refl, Bool, true, false, List, [], ◌∷◌, ◌⊎◌, eqb, leb, ltb}
use Rattle.std.proofs.Common.{sym, ap, subst, ◌∙◌, true≢false, inl, inr, ⊎_elim, arith, eq-eqb, ne_eqb, eqb-true, leb-true, leb-false, ltb-true, ltb-false}
use Rattle.std.proofs.lemmas.Bool.{eqb-false}
use Rattle.basics.specs.Tests.{test, holds, fails}
use Rattle.arrivals.specs.Order.{has, first, keep}
use Rattle.arrivals.specs.Listed.{is_listed}
use Rattle.arrivals.specs.Views.{has_keep}
use Rattle.tables.specs.declared.Tables.{Tables}
use Rattle.tables.specs.declared.Process.{Process}
use Rattle.tables.specs.declared.Place.{Place}
use Rattle.tables.specs.declared.Place.TheVariants.{Nowhere, Running, Ready, Parked, Waiting, Getting, Putting, Asleep}
use Rattle.tables.specs.declared.Line.TheVariants as lines
use Rattle.tables.specs.declared.Kind.{Kind}
use Rattle.std.specs.Prelude.{Option}
use Rattle.tables.specs.Numbers.{code, spot}
use Rattle.tables.specs.Access.{numbered, nobody, process_of, with_process}
use Rattle.tables.specs.Lines.{line, stands, standing, urgency, behind_equals, by_urgency, ready_line}
use Rattle.tables.specs.Laws.{replaced_same, replaced_other}
use Rattle.ready.specs.Ready.{placed, with_place, joins, runner_joins, released_to, released, released_all, runs, dispatched_to, dispatched}
use Rattle.ready.specs.Laws.{has_inserted, has_all, head_ready, dispatched_only}
use Rattle.sound.specs.Sound.{place_at, kind_at, ring_at, parcel_at, bay_of, PlaceFits, Fits, Settled, Urgent, Sound}
use Rattle.sound.specs.Decided.{Typed}
use Rattle.promises.specs.Changes.{Apart, Steady, changed_to, runner_same, runner_left, runner_new, Live, is_live, steady_changed}

-- ---- the head of the ready line is the most urgent

module _ (f : ℕ → ℕ) where
  -- Nobody in the line is more urgent than its head
  abbrev Top : List ℕ → Type 0
  Top l = (z : ℕ) → has z l ≡ true → f z ≤ f (first l)

  -- so with each newcomer
  top_inserted : (x : ℕ) (l : List ℕ) → Top l → Top (behind_equals f x l)
  top_inserted x [] top z h =
      elim (test (eqb x z)) [ holds a ↦ rw (eqb-true x z a) (omega arith) | fails a ↦ absurd (true≢false (sym (rw a at h))) ]
  top_inserted x (y ∷ l) top z h =
      elim (test (ltb (f y) (f x))) [
        | holds e ↦ rw e (elim (test (eqb x z)) [
          | holds a ↦ rw (eqb-true x z a) (omega arith)
          | fails a ↦ omega (arith, ltb-true (f y) (f x) e, top z (rw (e, a) at h))
        ])
        | fails e ↦ rw e (elim (test (eqb x z)) [
          | holds a ↦ rw (← eqb-true x z a) (ltb-false (f y) (f x) e)
          | fails a ↦ top z (rw (e, has_inserted f x z l, a) at h)
        ])
      ]

  -- and with all of them
  top_all : (s l : List ℕ) → Top s → Top (by_urgency f s l)
  top_all s [] top = top
  top_all s (x ∷ l) top = top_all (behind_equals f x s) l (top_inserted x s top)

-- Who is ready stands in the ready line
ready_stands : stands lines.Ready Ready ≡ true
unfolding stands
ready_stands = refl

-- Nobody who is ready is more urgent than the head of the ready line
pub head_top : (t : Tables) → Settled t → (p : ℕ) → place_at t.processes p ≡ Ready → urgency t.processes p ≤ urgency t.processes (first (ready_line t))
unfolding line ready_line
head_top t s p e =
    let live : Live p t = is_live p t s (rw e) in
    top_all (urgency t.processes) [] (keep (standing lines.Ready t.processes) t.order) (λ z h. absurd (true≢false (sym h))) p
    (has_all (urgency t.processes) p [] (keep (standing lines.Ready t.processes) t.order)
    ∙ has_keep (standing lines.Ready t.processes) p t.order ∙ rw (e, ready_stands) (is_listed p t.order (omega (arith, live.once))))

-- ---- places outside the rings' lines

-- Running, ready, parked, at a semaphore, asleep
pub apart_running : Apart Running
unfolding Apart stands
apart_running n = (refl, refl)

pub apart_ready : Apart Ready
unfolding Apart stands
apart_ready n = (refl, refl)

pub apart_parked : Apart Parked
unfolding Apart stands
apart_parked n = (refl, refl)

pub apart_waiting : (m : ℕ) → Apart (Waiting m)
unfolding Apart stands
apart_waiting m n = (refl, refl)

pub apart_asleep : (m : ℕ) → Apart (Asleep m)
unfolding Apart stands
apart_asleep m n = (refl, refl)

-- A place from which one is released, or into which: live, not running, and in no ring's line
unfoldable pub movable : Place → Bool
movable Nowhere = false
movable Running = false
movable Ready = true
movable Parked = true
movable (Waiting n) = true
movable (Getting n l) = false
movable (Putting n l) = false
movable (Asleep k) = true

-- What that means
pub record Movable (q : Place) : Type 0 where
  pub lives : eqb (code q) 0 ≡ false
  pub idle : q ≡ Running → ⊥
  pub apart : Apart q

pub is_movable : (q : Place) → movable q ≡ true → Movable q
unfolding movable
is_movable Nowhere e = absurd (true≢false (sym e))
is_movable Running e = absurd (true≢false (sym e))
is_movable Ready e = record { lives = refl; idle = λ h. let y : ◌≡◌ {A = ℕ} 0 1 = cc in omega arith; apart = apart_ready }
is_movable Parked e = record { lives = refl; idle = λ h. let y : ◌≡◌ {A = ℕ} 0 1 = cc in omega arith; apart = apart_parked }
is_movable (Waiting n) e = record { lives = refl; idle = λ h. let y : ◌≡◌ {A = ℕ} 0 1 = cc in omega arith; apart = apart_waiting n }
is_movable (Getting n l) e = absurd (true≢false (sym e))
is_movable (Putting n l) e = absurd (true≢false (sym e))
is_movable (Asleep k) e = record { lives = refl; idle = λ h. let y : ◌≡◌ {A = ℕ} 0 1 = cc in omega arith; apart = apart_asleep k }

-- ---- the runner

-- The runner's place is Running, and it is live
pub runner_place : (t : Tables) → Settled t → (t.running ≡ 0 → ⊥) → place_at t.processes t.running ≡ Running
runner_place t s z = (s.runs t.running).runner z refl

-- What a place asks of a process in it
pub fits_as : (t : Tables) → Settled t → (p : ℕ) (place : Place) → place_at t.processes p ≡ place
    → PlaceFits (kind_at t.structures (spot place)) (ring_at t.rings (bay_of (kind_at t.structures (spot place)))).size (numbered t.processes p nobody) (parcel_at t.parcels p).holds place
fits_as t s p place e =
    subst
    (λ (z : Place). PlaceFits (kind_at t.structures (spot z)) (ring_at t.rings (bay_of (kind_at t.structures (spot z)))).size (numbered t.processes p nobody) (parcel_at t.parcels p).holds z)
    e (s.fits p)

-- Nobody else runs
pub not_running : (t : Tables) → Settled t → (p : ℕ) → (p ≡ 0 → ⊥) → (place_at t.processes p ≡ Running → ⊥) → t.running ≡ p → ⊥
not_running t s p z h e = h ((s.runs p).runner z e)

-- The runner may leave for a place that it fits, outside the rings' lines
pub left_steady : (p : ℕ) (q : Process) (t : Tables) → Steady t → place_at t.processes p ≡ Running → movable q.place ≡ true
    → Fits t.structures t.rings q (parcel_at t.parcels p).holds → Steady (changed_to true p q 0 t)
left_steady p q t steady was is fits =
    let new : Movable q.place = is_movable q.place is in
    let live : Live p t = is_live p t steady.settled (rw was) in
    steady_changed {moved = true} {p = p} {q = q} {r = 0} {t = t} steady
    (record {
      live = live;
      lives = new.lives;
      runner = runner_left p t.running ((steady.settled.runs p).only was);
      runs = (λ e. absurd (new.idle e), λ e. absurd (live.some (sym e)));
      fits = fits;
      lines = inl (subst (λ (x : Place). Apart x) (sym was) apart_running, new.apart);
    })

-- The runner joins a line
pub runner_joins_steady : (place : Place) (t : Tables) → Steady t → (t.running ≡ 0 → ⊥) → movable place ≡ true
    → Fits t.structures t.rings (placed (process_of t t.running) place) (parcel_at t.parcels t.running).holds → Steady (runner_joins place t)
unfolding runner_joins joins with_place with_process
runner_joins_steady place t steady z is fits =
    rw (ne_eqb t.running 0 z) (left_steady t.running (placed (process_of t t.running) place) t steady (runner_place t steady.settled z) is fits)

-- ---- the head runs

-- One who is ready runs, where nobody ran
pub runs_steady : (p : ℕ) (t : Tables) → Steady t → t.running ≡ 0 → place_at t.processes p ≡ Ready → Steady (runs p t)
unfolding runs with_place with_process process_of
runs_steady p t steady none was =
    steady_changed {moved = false} {p = p} {q = placed (process_of t p) Running} {r = p} {t = t} steady
    (record {
      live = is_live p t steady.settled (rw was);
      lives = refl;
      runner = runner_new p t.running none;
      runs = (λ e. refl, λ e. refl);
      fits = fits_as t steady.settled p Ready was;
      lines = inl (subst (λ (q : Place). Apart q) (sym was) apart_ready, apart_running);
    })

-- The runner goes to the ready line
pub preempted_steady : (t : Tables) → Steady t → (t.running ≡ 0 → ⊥) → Steady (runner_joins Ready t)
unfolding process_of movable
preempted_steady t steady z =
    runner_joins_steady Ready t steady z refl
    (fits_as t steady.settled t.running Running (runner_place t steady.settled z))

-- One who was ready is ready when the runner has joined the ready line
ready_yet : (t : Tables) → Settled t → (p : ℕ) → place_at t.processes p ≡ Ready → place_at (runner_joins Ready t).processes p ≡ Ready
unfolding runner_joins joins with_place with_process
ready_yet t s p was =
    elim (test (eqb t.running 0)) [
      | holds z ↦ rw z was
      | fails z ↦ rw z (ap (λ (q : Process). q.place) (replaced_other t.processes t.running (placed (process_of t t.running) Ready) p nobody (other (eqb-false t.running 0 z))) ∙ was)
    ]
  where
    other : (t.running ≡ 0 → ⊥) → p ≡ t.running → ⊥
    other z e = let y : Running ≡ Ready = sym (runner_place t s z) ∙ rw (← e) was in let k : ◌≡◌ {A = ℕ} 0 1 = cc in omega arith

-- Nobody runs once the runner joined a line
pub none_runs : (t : Tables) → (runner_joins Ready t).running ≡ 0
unfolding runner_joins
none_runs t = refl

-- "if nobody runs, the head runs; if the head is strictly more urgent than the runner, the runner goes to the ready line behind its equals and the head runs"
pub dispatched_steady : (t : Tables) → Steady t → Steady (dispatched t)
unfolding dispatched dispatched_to
dispatched_steady t steady =
    let h = first (ready_line t) in
    elim (test (eqb h 0)) [
      | holds a ↦ rw a steady
      | fails a ↦
          elim (test (eqb t.running 0)) [
            | holds b ↦ rw (a, b) (runs_steady h t steady (eqb-true t.running 0 b) (head_ready t (eqb-false h 0 a)))
            | fails b ↦
                elim (test (leb (process_of t h).priority (process_of t t.running).priority)) [
                  | holds k ↦ rw (a, b, k) steady
                  | fails k ↦ rw (a, b, k) (runs_steady h (runner_joins Ready t) (preempted_steady t steady (eqb-false t.running 0 b)) (none_runs t) (ready_yet t steady.settled h (head_ready t (eqb-false h 0 a))))
                ]
          ]
    ]

-- ---- dispatched restores urgent

-- The same priority is the same urgency
urgency_same : (l m : List Process) (p : ℕ) → (numbered l p nobody).priority ≡ (numbered m p nobody).priority → urgency l p ≡ urgency m p
unfolding urgency
urgency_same l m p e = rw e

-- Dispatched leaves how urgent each is
dispatched_urgency : (t : Tables) (p : ℕ) → urgency (dispatched t).processes p ≡ urgency t.processes p
unfolding process_of
dispatched_urgency t p = urgency_same (dispatched t).processes t.processes p (ap (λ (q : Process). q.priority) ((dispatched_only t).rest p))

-- Who is ready then was ready, or ran
ready_before : (t : Tables) → (first (ready_line t) ≡ 0 → ⊥) → (p : ℕ) → place_at (dispatched t).processes p ≡ Ready → (place_at t.processes p ≡ Ready) ⊎ (p ≡ t.running)
unfolding process_of
ready_before t z p e =
    elim (test (eqb p t.running)) [
      | holds a ↦ inr (eqb-true p t.running a)
      | fails a ↦ inl (elim (test (eqb p (first (ready_line t)))) [
        | holds b ↦ rw (eqb-true p (first (ready_line t)) b) (head_ready t z)
        | fails b ↦ sym (ap (λ (q : Process). q.place) ((dispatched_only t).places p (eqb-false p t.running a) (eqb-false p (first (ready_line t)) b))) ∙ e
      ])
    ]

-- The head runs, and the one who ran was less urgent
head_urgent : (t : Tables) → Settled t → (first (ready_line t) ≡ 0 → ⊥) → (dispatched t).running ≡ first (ready_line t)
    → urgency t.processes t.running ≤ urgency t.processes (first (ready_line t)) → Urgent (dispatched t)
unfolding Urgent
head_urgent t s z now more p e =
    rw (dispatched_urgency t p, dispatched_urgency t (dispatched t).running, now)
    (⊎_elim (λ was. head_top t s p was) (λ ran. rw ran more) (ready_before t z p e))

-- Nobody who is ready is more urgent than the head, and the head no more than the runner
runner_urgent : (t : Tables) → Settled t → urgency t.processes (first (ready_line t)) ≤ urgency t.processes t.running → Urgent t
unfolding Urgent
runner_urgent t s less p e = omega (arith, head_top t s p e)

-- Nobody ranks 0, a process 1 more than its priority
pub urgency_zero : (l : List Process) (p : ℕ) → p ≡ 0 → urgency l p ≡ 0
unfolding urgency
urgency_zero l p e = rw (eq-eqb p 0 e)

pub urgency_some : (l : List Process) (p : ℕ) → (p ≡ 0 → ⊥) → urgency l p ≡ suc (numbered l p nobody).priority
unfolding urgency
urgency_some l p z = rw (ne_eqb p 0 z)

-- Who runs is the runner
head_runs : (p : ℕ) (t : Tables) → (runs p t).running ≡ p
unfolding runs
head_runs p t = refl

-- Nobody who is ready is more urgent than the runner
pub dispatched_urgent : (t : Tables) → Settled t → Urgent (dispatched t)
unfolding dispatched dispatched_to process_of
dispatched_urgent t s =
    let h = first (ready_line t) in
    let l = t.processes in
    elim (test (eqb h 0)) [
      | holds a ↦ rw a (runner_urgent t s (omega (arith, urgency_zero l h (eqb-true h 0 a))))
      | fails a ↦
          elim (test (eqb t.running 0)) [
            | holds b ↦ head_urgent t s (eqb-false h 0 a) (rw (a, b) (head_runs h t)) (omega (arith, urgency_zero l t.running (eqb-true t.running 0 b)))
            | fails b ↦
                let some = urgency_some l h (eqb-false h 0 a) in
                let runner = urgency_some l t.running (eqb-false t.running 0 b) in
                elim (test (leb (numbered l h nobody).priority (numbered l t.running nobody).priority)) [
                  | holds k ↦ rw (a, b, k) (runner_urgent t s (omega (arith, some, runner, leb-true (numbered l h nobody).priority (numbered l t.running nobody).priority k)))
                  | fails k ↦ head_urgent t s (eqb-false h 0 a) (rw (a, b, k) (head_runs h (runner_joins Ready t))) (omega (arith, some, runner, leb-false (numbered l h nobody).priority (numbered l t.running nobody).priority k))
                ]
          ]
    ]

-- Dispatched of steady tables is sound
pub dispatched_sound : (t : Tables) → Steady t → Sound (dispatched t)
dispatched_sound t steady =
    let after = dispatched_steady t steady in
    record { settled = after.settled; still = after.still; urgent = dispatched_urgent t steady.settled }

-- Sound tables of the arrays' lengths are steady
pub sound_steady : (t : Tables) → Typed t → Sound t → Steady t
sound_steady t typed sound = record { typed = typed; settled = sound.settled; still = sound.still }

-- ---- released

-- Who is released may be released again
pub released_movable : (b : Bool) → movable (released_to b) ≡ true
unfolding movable
released_movable true = refl
released_movable false = refl

-- "moved to the ready line, or to the end of the parked line if suspended (it is then plainly parked)": it fits there
pub released_fits : (k : ℕ → Kind) (size : ℕ → ℕ) (q : Process) (h : Option ℕ) (b : Bool) → q.suspended ≡ b
    → PlaceFits (k (spot (released_to b))) (size (spot (released_to b))) (placed q (released_to b)) h (released_to b)
released_fits k size q h true e = e
released_fits k size q h false e = e

-- One who may move goes to the end of a line outside the rings' that it fits
pub moved_steady : (p : ℕ) (q : Process) (t : Tables) → Steady t → movable (place_at t.processes p) ≡ true → movable q.place ≡ true
    → Fits t.structures t.rings q (parcel_at t.parcels p).holds → Steady (changed_to true p q t.running t)
moved_steady p q t steady was is fits =
    let old : Movable (place_at t.processes p) = is_movable (place_at t.processes p) was in
    let new : Movable q.place = is_movable q.place is in
    let live : Live p t = is_live p t steady.settled old.lives in
    steady_changed {moved = true} {p = p} {q = q} {r = t.running} {t = t} steady
    (record {
      live = live;
      lives = new.lives;
      runner = runner_same p t.running;
      runs = (λ e. absurd (new.idle e), λ e. absurd (not_running t steady.settled p live.some old.idle e));
      fits = fits;
      lines = inl (old.apart, new.apart);
    })

-- To join a line is such a move
pub joins_steady : (p : ℕ) (place : Place) (t : Tables) → Steady t → movable (place_at t.processes p) ≡ true → movable place ≡ true
    → Fits t.structures t.rings (placed (process_of t p) place) (parcel_at t.parcels p).holds → Steady (joins p place t)
unfolding joins with_place with_process
joins_steady p place t steady was is fits =
    let live : Live p t = is_live p t steady.settled (is_movable (place_at t.processes p) was).lives in
    rw (ne_eqb p 0 live.some) (moved_steady p (placed (process_of t p) place) t steady was is fits)

-- A release
pub released_steady : (p : ℕ) (t : Tables) → Steady t → movable (place_at t.processes p) ≡ true → Steady (released p t)
unfolding released process_of
released_steady p t steady was =
    let b = (process_of t p).suspended in
    joins_steady p (released_to b) t steady was (released_movable b)
    (released_fits (kind_at t.structures) (λ n. (ring_at t.rings (bay_of (kind_at t.structures n))).size) (process_of t p) (parcel_at t.parcels p).holds b refl)

-- Who may move may move after a release
released_moves : (p x : ℕ) (t : Tables) → Settled t → movable (place_at t.processes p) ≡ true → movable (place_at t.processes x) ≡ true → movable (place_at (released p t).processes x) ≡ true
unfolding released joins with_place with_process
released_moves p x t s was h =
    let live : Live p t = is_live p t s (is_movable (place_at t.processes p) was).lives in
    let q = placed (process_of t p) (released_to (process_of t p).suspended) in
    rw (ne_eqb p 0 live.some) (elim (test (eqb x p)) [
      | holds e ↦ rw (eqb-true x p e) (ap (λ (y : Process). movable y.place) (replaced_same t.processes p q nobody live.some live.known) ∙ released_movable (process_of t p).suspended)
      | fails e ↦ ap (λ (y : Process). movable y.place) (replaced_other t.processes p q x nobody (eqb-false x p e)) ∙ h
    ])

-- These are released, one after the other
pub released_all_steady : (l : List ℕ) (t : Tables) → Steady t → ((x : ℕ) → has x l ≡ true → movable (place_at t.processes x) ≡ true) → Steady (released_all l t)
unfolding released_all
released_all_steady [] t steady h = steady
released_all_steady (p ∷ l) t steady h =
    let here : movable (place_at t.processes p) ≡ true = h p (rw (eq-eqb p p refl)) in
    released_all_steady l (released p t) (released_steady p t steady here)
    (λ x k. released_moves p x t steady.settled here (h x (elim (test (eqb p x)) [ holds e ↦ rw e | fails e ↦ rw e k ])))
