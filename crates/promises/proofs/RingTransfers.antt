-- Put and get, their conditional forms, and reset: bytes move at the ring that is named.
use Rattle.std.specs.Prelude.{ℕ, ◌+◌, ◌≤◌, ◌≡◌, Bool, true, false, ◌⊎◌, eqb, take, drop}
use Rattle.std.proofs.Math.Path.{refl, ap}
use Rattle.std.proofs.Common.{sym, ◌∙◌, arith, take-append-drop}
use mathlib.Core.List.{List, [], ◌∷◌, ◌++◌, append_assoc}
use Rattle.std.proofs.Math.Logic.{⊎_elim}
use Rattle.std.proofs.Math.ListN.{length}
use Rattle.std.proofs.Math.Seq.{length-take-le}
use borrow.Author.Tests.{eq-eqb, eqb-false}
use Rattle.basics.specs.Tests.{test, holds, fails}
use Rattle.bay.specs.declared.Ring as bays
use Rattle.bay.specs.declared.Parcel.{Parcel}
use Rattle.bay.specs.Bay.{Good, contents, ring_of, empty_parcel, parcel_of, put_of, get_of, reset_of}
use Rattle.bay.specs.Laws.{length_contents, length_parcel_of, bytes_from_parcel_of, put_ring, put_good, get_ring, get_good, get_parcel_of, reset_ring_lem, reset_good}
use Rattle.tables.specs.declared.Tables.{Tables}
use Rattle.tables.specs.declared.Place.{Place}
use Rattle.tables.specs.declared.Place.TheVariants.{Running, Getting, Putting}
use Rattle.tables.specs.declared.Kind.{Kind}
use Rattle.tables.specs.declared.Kind.TheVariants as kinds
use Rattle.tables.specs.declared.Line.{Line}
use Rattle.tables.specs.declared.Line.TheVariants.{Getters, Putters}
use Rattle.tables.specs.Access.{replaced, process_of, structure_of, ring_in, parcel_for, with_parcels, with_ring, with_parcel}
use Rattle.tables.specs.Lines.{line, stands}
use Rattle.answers.specs.declared.Outcome.TheVariants.{Waits}
use Rattle.answers.specs.Answers.{plain, step}
use Rattle.ready.specs.Ready.{runner_joins, dispatched}
use Rattle.ready.specs.Laws.{joins_enters, joins_stays, only_runner_joins, dispatched_only}
use Rattle.records.specs.declared.Record.{Record}
use Rattle.refusals.specs.Refusals.{both, either}
use Rattle.steps.specs.Steps.{replied_by, replied}
use Rattle.rings.specs.Serving.{entered, served}
use Rattle.rings.specs.Changes.{Fit, fit_ring}
use Rattle.rings.specs.Turns.{nowhere_getting, nowhere_putting}
use Rattle.rings.proofs.Steps.{served_structures}
use Rattle.rings.proofs.Calls.{holds_then, holds_still, holds_nothing}
use Rattle.rings.specs.Rings.{put_through, put_waits, put_by, put_in, conditionally_put_by, conditionally_put, got_from, got_through, get_waits, got_by, got as got_in, conditionally_got_by, conditionally_got, reset_in, reset_kind, reset_ring}
use Rattle.sound.specs.Sound.{kind_at, Settled}
use Rattle.promises.specs.Changes.{Steady, Apart}
use Rattle.promises.specs.KeptReady.{apart_running, runner_place}
use Rattle.promises.specs.KeptRings.{the_runner, settled_fit}
use Rattle.promises.specs.KeptRingsCalls.{serves_ring, Within, way_in_lem, way_out_lem}
use Rattle.promises.specs.Run.{Event}
use Rattle.promises.specs.Turns.{answered, creates, structure_begins, is_reset, left_line, parcels_bytes, put, got, held, held_by}
use Rattle.promises.specs.RingDeeds.{structure_ends, starts_anew, RingDeed, moves, resets}
use Rattle.promises.specs.RingLines.{SameRing, same_bytes, same_dispatched}
use Rattle.promises.specs.RingServed.{parcels_same, those_who_left, line_once, Served, all_served}
use Rattle.promises.specs.Answered.{seen}
use Rattle.promises.specs.RingRests.{unmoved_rests, idle_code, stays_none, grows_none, idle_rests}

-- A ring holds its contents
held_ring : (n b : ℕ) (t : Tables) → kind_at t.structures n ≡ kinds.Ring b → held n t ≡ contents (ring_in t b)
unfolding held held_by structure_of
held_ring n b t e = rw e

-- ---- a transfer or a reset at ring m, then its lines are served

-- Ring m lies in bay b, and what lies there then is another good ring of the same size
record Moving (m b : ℕ) (x : bays.Ring) (t : Tables) : Type 0 where
  fit : Fit b t
  steady : Steady t
  ring : kind_at t.structures m ≡ kinds.Ring b
  good : Good x
  size : x.size ≡ (ring_in t b).size

module _ (m b : ℕ) (x : bays.Ring) (t : Tables) (go : Moving m b x t) where
  -- The tables once the ring is the other one, and once its lines are served
  abbrev moved : Tables
  moved = with_ring t b x

  abbrev after : Tables
  after = served m b moved

  -- They are fit to be served,
  fit_moved : Fit b moved
  fit_moved = fit_ring go.fit x go.good

  -- and no structure changes
  kinds_after : after.structures ≡ t.structures
  unfolding with_ring
  kinds_after = served_structures m b moved fit_moved

  module _ (q s : Record) where
    -- What a reader sees
    abbrev e : Event
    e = record { before = t; request = q; reply = s; after = dispatched after }

    -- Who was served, and whose bytes they were
    serving : Served m b moved after
    serving = all_served m b moved fit_moved (serves_ring m b x t go.fit go.steady go.ring go.good go.size)

    -- Whoever is due runs, and ring m stays so
    then_same : SameRing m after (dispatched after)
    then_same = same_dispatched m after serving.serves.settled

    -- The lines before: those who were served, and those who stand there then
    getters_before : line (Getters m) t ≡ serving.got_theirs ++ line (Getters m) after
    unfolding line with_ring
    getters_before = serving.getters

    putters_before : line (Putters m) t ≡ serving.put_theirs ++ line (Putters m) after
    unfolding line with_ring
    putters_before = serving.putters

    -- so those who left are those who were served
    getters_left : left_line (Getters m) e ≡ serving.got_theirs
    unfolding left_line
    getters_left =
        rw (then_same.getters, getters_before)
        (those_who_left serving.got_theirs (line (Getters m) after) (λ p. rw (← getters_before) (line_once go.fit (Getters m) (nowhere_getting m) p)))

    putters_left : left_line (Putters m) e ≡ serving.put_theirs
    unfolding left_line
    putters_left =
        rw (then_same.putters, putters_before)
        (those_who_left serving.put_theirs (line (Putters m) after) (λ p. rw (← putters_before) (line_once go.fit (Putters m) (nowhere_putting m) p)))

    -- Their parcels are the same in the tables that a reader sees
    parcels_before : parcels_bytes moved serving.put_theirs ≡ parcels_bytes t serving.put_theirs
    unfolding with_ring parcel_for
    parcels_before = parcels_same t moved serving.put_theirs (λ p h. refl)

    parcels_after : parcels_bytes (dispatched after) serving.got_theirs ≡ parcels_bytes after serving.got_theirs
    unfolding parcel_for
    parcels_after = parcels_same after (dispatched after) serving.got_theirs (λ p h. rw (dispatched_only after).parcels)

    -- and so is what is held
    held_after : held m (dispatched after) ≡ contents (ring_in after b)
    held_after = then_same.bytes ∙ held_ring m b after (rw kinds_after go.ring)

    -- What the other ring holds, and behind it the putters' bytes, is the getters' bytes, and behind them what is held then
    served_bytes : contents (ring_in moved b) ++ parcels_bytes t (left_line (Putters m) e) ≡ parcels_bytes e.after (left_line (Getters m) e) ++ held m e.after
    served_bytes = rw (putters_left, getters_left, held_after, ← parcels_before, parcels_after) serving.bytes

-- ---- the runner joins a line

-- Nobody leaves a ring's line by it, and no ring's bytes change
module _ (place : Place) (parcels : List Parcel) (t : Tables) (steady : Steady t) (some : t.running ≡ 0 → ⊥) (n : ℕ) (r : Record) (settled : Settled (runner_joins place (with_parcels t parcels))) where
  -- The tables then, and what a reader sees
  abbrev joined : Tables
  joined = runner_joins place (with_parcels t parcels)

  abbrev e_waits : Event
  e_waits = seen t r (replied (step joined (plain Waits)))

  -- The runner has a number of the table
  known : t.running ≤ length t.processes
  known = rw steady.typed.processes (the_runner steady.typed steady.settled some).known

  -- It stands last in a line that it enters, and every other line stays
  enters : (l : Line) → stands l Running ≡ false → stands l place ≡ true → line l joined ≡ line l t ++ (t.running ∷ [])
  unfolding runner_joins line process_of
  enters l was is = joins_enters t.running place (with_parcels t parcels) some known (the_runner steady.typed steady.settled some).once l (rw (runner_place t steady.settled some) was) is

  stays : (l : Line) → stands l Running ≡ false → stands l place ≡ false → line l joined ≡ line l t
  unfolding runner_joins line process_of
  stays l was is = joins_stays t.running place (with_parcels t parcels) some known (the_runner steady.typed steady.settled some).once l (rw (runner_place t steady.settled some) was) is

  -- so nobody left it
  nobody_left : (l : Line) → stands l Running ≡ false → line l (dispatched joined) ≡ line l joined → left_line l e_waits ≡ []
  unfolding replied replied_by
  nobody_left l was same =
      elim (test (stands l place)) [
        | holds is ↦ grows_none l e_waits t.running (same ∙ enters l was is)
        | fails is ↦ stays_none l e_waits (same ∙ stays l was is)
      ]

  -- Structures and rings stay, so ring n rests
  waits_rests : RingDeed n e_waits
  unfolding replied replied_by Apart
  waits_rests =
      let same = same_dispatched n joined settled in
      let only = only_runner_joins t.running place (with_parcels t parcels) in
      let out : (stands (Getters n) Running ≡ false) × (stands (Putters n) Running ≡ false) = apart_running n in
      idle_rests n e_waits (idle_code n e_waits refl)
      (nobody_left (Getters n) out.0 same.getters)
      (nobody_left (Putters n) out.1 same.putters)
      (same.bytes ∙ same_bytes n t joined only.structures only.rings)

-- ---- put

-- A request is one of two calls
one_of : (what a b : ℕ) (rest : Bool) → (what ≡ a) ⊎ (what ≡ b) → rest ≡ true → either (both (eqb what a) rest) (both (eqb what b) rest) ≡ true
one_of what a b rest call h =
    rw h (⊎_elim (λ c. rw (eq-eqb what a c)) (λ c. rw (eq-eqb what b c) (either_true (both (eqb what a) true))) call)
  where
    either_true : (x : Bool) → either x true ≡ true
    either_true true = refl
    either_true false = refl

-- Its bytes stand behind those that are held
put_equation : (before moved bytes putters getters after : List ℕ) → moved ≡ before ++ bytes → moved ++ putters ≡ getters ++ after → before ++ (bytes ++ putters) ≡ getters ++ after
put_equation before now bytes putters getters later e f = sym (append_assoc before bytes putters) ∙ ap (λ (c : List ℕ). c ++ putters) (sym e) ∙ f

module _ (t : Tables) (r : Record) (steady : Steady t) (long : length r.bytes ≡ 64) (call : (r.what ≡ 18) ⊎ (r.what ≡ 19)) where
  module _ (b : ℕ) (ring : kind_at t.structures r.n ≡ kinds.Ring b) (w : Within r.l (ring_in t b).size) (room : (ring_in t b).held + r.l ≤ (ring_in t b).size) where
    -- What is brought, the ring with it, and what a reader sees
    abbrev brought : Parcel
    brought = parcel_of (take r.l r.bytes)

    abbrev filled_ring : bays.Ring
    filled_ring = put_of (ring_in t b) brought 0 r.l

    abbrev e_put : Event
    e_put = seen t r (replied (put_through r.n b r.l r.bytes t))

    -- The bytes enter
    putting_in : Moving r.n b filled_ring t
    unfolding ring_of
    putting_in =
        let fit : Fit b t = settled_fit r.n b steady.typed steady.settled ring in
        let many : length (take r.l r.bytes) ≡ r.l = length-take-le r.l r.bytes (omega (arith, w.most)) in
        let whole : length brought.bytes ≡ 64 = length_parcel_of (take r.l r.bytes) (omega (arith, w.most)) in
        record {
          fit = fit;
          steady = steady;
          ring = ring;
          good = put_good fit.good brought 0 r.l whole (omega (arith, w.most)) room;
          size = ap (λ (y : bays.Ring). y.size) (put_ring fit.good brought 0 r.l whole (omega (arith, w.most)) room);
        }

    -- It is a put of this ring that was done, no get, and nothing is counted anew
    is_put : either (answered 18 r.n 0 e_put) (answered 19 r.n 0 e_put) ≡ true
    unfolding answered replied replied_by put_through
    is_put = one_of r.what 18 19 (both (eqb r.n r.n) true) call (rw (eq-eqb r.n r.n refl))

    put_no_get : either (answered 20 r.n 0 e_put) (answered 21 r.n 0 e_put) ≡ false
    unfolding answered
    put_no_get = ⊎_elim (λ c. rw c) (λ c. rw c) call

    put_no_start : starts_anew r.n e_put ≡ false
    unfolding starts_anew structure_begins creates structure_ends is_reset answered
    put_no_start = ⊎_elim (λ c. rw c) (λ c. rw c) call

    -- So bytes move
    put_own : RingDeed r.n e_put
    unfolding put got replied replied_by put_through entered
    put_own =
        moves put_no_start
        (rw (is_put, put_no_get, held_ring r.n b t ring)
        (put_equation (contents (ring_in t b)) (contents (ring_in (with_ring t b filled_ring) b)) (take r.l r.bytes) (parcels_bytes t (left_line (Putters r.n) e_put)) (parcels_bytes e_put.after (left_line (Getters r.n) e_put)) (held r.n e_put.after)
        (holds_then r.n b r.l r.bytes t putting_in.fit w.most (omega (arith, w.most)) room)
        (served_bytes r.n b filled_ring t putting_in r e_put.reply)))

  -- "else the caller joins that line": nothing is put yet
  put_waits_lem : (t.running ≡ 0 → ⊥) → Settled (put_waits r.n r.l r.bytes t).tables → RingDeed r.n (seen t r (replied (put_waits r.n r.l r.bytes t)))
  unfolding put_waits with_parcel
  put_waits_lem some settled = waits_rests (Putting r.n r.l) (replaced t.parcels t.running (parcel_of (take r.l r.bytes))) t steady some r.n r settled

  -- Call 18
  pub put_deed : Settled (put_in r.n r.l r.bytes t).tables → RingDeed r.n (seen t r (replied (put_in r.n r.l r.bytes t)))
  unfolding put_in put_by
  put_deed =
      elim (test (eqb t.running 0)) [
        | holds z ↦ rw z (unmoved_rests r.n t r)
        | fails z ↦ rw z (way_in_lem r.n r.l t (λ way. Settled (put_by r.n r.l r.bytes way t).tables → RingDeed r.n (seen t r (replied (put_by r.n r.l r.bytes way t))))
            (unmoved_rests r.n t r) (λ b ring w room settled. put_own b ring w room) (λ b ring w new. put_waits_lem (eqb-false t.running 0 z)))
      ]

  -- Call 19
  pub conditional_put_deed : Settled (conditionally_put r.n r.l r.bytes t).tables → RingDeed r.n (seen t r (replied (conditionally_put r.n r.l r.bytes t)))
  unfolding conditionally_put conditionally_put_by
  conditional_put_deed =
      way_in_lem r.n r.l t (λ way. Settled (conditionally_put_by r.n r.l r.bytes way t).tables → RingDeed r.n (seen t r (replied (conditionally_put_by r.n r.l r.bytes way t))))
      (unmoved_rests r.n t r) (λ b ring w room settled. put_own b ring w room) (λ b ring w new. unmoved_rests r.n t r)

-- ---- get

-- Its bytes are the oldest
get_equation : (l : ℕ) (before moved putters getters after : List ℕ) → moved ≡ drop l before → moved ++ putters ≡ getters ++ after → before ++ putters ≡ (take l before ++ getters) ++ after
get_equation l before now putters getters later e f =
    ap (λ (c : List ℕ). c ++ putters) (sym (take-append-drop l before))
    ∙ append_assoc (take l before) (drop l before) putters
    ∙ ap (λ (c : List ℕ). take l before ++ c) (ap (λ (c : List ℕ). c ++ putters) (sym e) ∙ f)
    ∙ sym (append_assoc (take l before) getters later)

module _ (t : Tables) (r : Record) (steady : Steady t) (call : (r.what ≡ 20) ⊎ (r.what ≡ 21)) where
  module _ (b : ℕ) (ring : kind_at t.structures r.n ≡ kinds.Ring b) (w : Within r.l (ring_in t b).size) (enough : r.l ≤ (ring_in t b).held) where
    -- The ring without the bytes, and what a reader sees
    abbrev left_ring : bays.Ring
    left_ring = (get_of (ring_in t b) empty_parcel 0 r.l).ring

    abbrev e_get : Event
    e_get = seen t r (replied (got_through r.n b r.l t))

    -- The bytes leave
    getting_out : Moving r.n b left_ring t
    unfolding ring_of
    getting_out =
        let fit : Fit b t = settled_fit r.n b steady.typed steady.settled ring in
        record {
          fit = fit;
          steady = steady;
          ring = ring;
          good = get_good fit.good r.l enough empty_parcel 0 (omega (arith, w.most));
          size = ap (λ (y : bays.Ring). y.size) (get_ring fit.good r.l enough empty_parcel 0 (omega (arith, w.most)));
        }

    -- It is a get of this ring that was done, no put, and nothing is counted anew
    is_get : either (answered 20 r.n 0 e_get) (answered 21 r.n 0 e_get) ≡ true
    unfolding answered replied replied_by got_through got_from
    is_get = one_of r.what 20 21 (both (eqb r.n r.n) true) call (rw (eq-eqb r.n r.n refl))

    get_no_put : either (answered 18 r.n 0 e_get) (answered 19 r.n 0 e_get) ≡ false
    unfolding answered
    get_no_put = ⊎_elim (λ c. rw c) (λ c. rw c) call

    get_no_start : starts_anew r.n e_get ≡ false
    unfolding starts_anew structure_begins creates structure_ends is_reset answered
    get_no_start = ⊎_elim (λ c. rw c) (λ c. rw c) call

    -- The reply brings the oldest bytes
    reply_bytes : take r.l (get_of (ring_in t b) empty_parcel 0 r.l).parcel.bytes ≡ take r.l (contents (ring_in t b))
    reply_bytes =
        let oldest = take r.l (contents (ring_in t b)) in
        let many : length oldest ≡ r.l = length-take-le r.l (contents (ring_in t b)) (rw (length_contents (ring_in t b)) enough) in
        ap (λ (y : Parcel). take r.l y.bytes) (get_parcel_of getting_out.fit.good r.l enough w.most)
        ∙ ap (λ (k : ℕ). take k (parcel_of oldest).bytes) (sym many) ∙ bytes_from_parcel_of oldest

    -- So bytes move
    get_own : RingDeed r.n e_get
    unfolding put got replied replied_by got_through got_from
    get_own =
        moves get_no_start
        (rw (is_get, get_no_put, held_ring r.n b t ring, reply_bytes)
        (get_equation r.l (contents (ring_in t b)) (contents (ring_in (with_ring t b left_ring) b)) (parcels_bytes t (left_line (Putters r.n) e_get)) (parcels_bytes e_get.after (left_line (Getters r.n) e_get)) (held r.n e_get.after)
        (holds_still r.n b r.l t getting_out.fit w.most enough)
        (served_bytes r.n b left_ring t getting_out r e_get.reply)))

  -- Or the caller joins the getters: nothing is got yet
  get_waits_lem : (t.running ≡ 0 → ⊥) → Settled (get_waits r.n r.l t).tables → RingDeed r.n (seen t r (replied (get_waits r.n r.l t)))
  unfolding get_waits
  get_waits_lem some settled = waits_rests (Getting r.n r.l) t.parcels t steady some r.n r settled

  -- Call 20
  pub get_deed : Settled (got_in r.n r.l t).tables → RingDeed r.n (seen t r (replied (got_in r.n r.l t)))
  unfolding got_in got_by
  get_deed =
      elim (test (eqb t.running 0)) [
        | holds z ↦ rw z (unmoved_rests r.n t r)
        | fails z ↦ rw z (way_out_lem r.n r.l t (λ way. Settled (got_by r.n r.l way t).tables → RingDeed r.n (seen t r (replied (got_by r.n r.l way t))))
            (unmoved_rests r.n t r) (λ b ring w enough settled. get_own b ring w enough) (λ b ring w new. get_waits_lem (eqb-false t.running 0 z)))
      ]

  -- Call 21
  pub conditional_get_deed : Settled (conditionally_got r.n r.l t).tables → RingDeed r.n (seen t r (replied (conditionally_got r.n r.l t)))
  unfolding conditionally_got conditionally_got_by
  conditional_get_deed =
      elim (test (eqb t.running 0)) [
        | holds z ↦ rw z (unmoved_rests r.n t r)
        | fails z ↦ rw z (way_out_lem r.n r.l t (λ way. Settled (conditionally_got_by r.n r.l way t).tables → RingDeed r.n (seen t r (replied (conditionally_got_by r.n r.l way t))))
            (unmoved_rests r.n t r) (λ b ring w enough settled. get_own b ring w enough) (λ b ring w new. unmoved_rests r.n t r))
      ]

-- ---- reset

module _ (t : Tables) (r : Record) (steady : Steady t) (call : r.what ≡ 22) where
  module _ (b : ℕ) (ring : kind_at t.structures r.n ≡ kinds.Ring b) where
    -- The ring without its held bytes, and what a reader sees
    abbrev empty_ring : bays.Ring
    empty_ring = reset_of (ring_in t b)

    abbrev e_reset : Event
    e_reset = seen t r (replied (reset_in r.n b t))

    -- The held bytes are thrown away
    throwing_away : Moving r.n b empty_ring t
    unfolding ring_of
    throwing_away =
        let fit : Fit b t = settled_fit r.n b steady.typed steady.settled ring in
        record {
          fit = fit;
          steady = steady;
          ring = ring;
          good = reset_good (ring_in t b) fit.good.numbers;
          size = ap (λ (y : bays.Ring). y.size) (reset_ring_lem (ring_in t b) fit.good.numbers);
        }

    -- It is a reset of this ring that was done, no put and no get
    is_reset_lem : is_reset r.n e_reset ≡ true
    unfolding is_reset answered replied replied_by reset_in
    is_reset_lem = rw (eq-eqb r.what 22 call, eq-eqb r.n r.n refl)

    reset_no_put : either (answered 18 r.n 0 e_reset) (answered 19 r.n 0 e_reset) ≡ false
    unfolding answered
    reset_no_put = rw call

    reset_no_get : either (answered 20 r.n 0 e_reset) (answered 21 r.n 0 e_reset) ≡ false
    unfolding answered
    reset_no_get = rw call

    -- "what a reset serves moves after it"
    reset_own : RingDeed r.n e_reset
    unfolding put got replied replied_by reset_in
    reset_own =
        resets is_reset_lem
        (rw (reset_no_put, reset_no_get)
        (ap (λ (c : List ℕ). c ++ parcels_bytes t (left_line (Putters r.n) e_reset)) (sym (holds_nothing r.n b t throwing_away.fit))
        ∙ served_bytes r.n b empty_ring t throwing_away r e_reset.reply))

  -- Nothing but a ring is reset
  reset_by : (kind : Kind) → kind_at t.structures r.n ≡ kind → Settled (reset_kind r.n kind t).tables → RingDeed r.n (seen t r (replied (reset_kind r.n kind t)))
  unfolding reset_kind
  reset_by kinds.Free e settled = unmoved_rests r.n t r settled
  reset_by (kinds.Binary v) e settled = unmoved_rests r.n t r settled
  reset_by (kinds.Counting v) e settled = unmoved_rests r.n t r settled
  reset_by (kinds.Ring b) e settled = reset_own b e

  -- Call 22
  pub reset_deed : Settled (reset_ring r.n t).tables → RingDeed r.n (seen t r (replied (reset_ring r.n t)))
  unfolding reset_ring structure_of
  reset_deed settled = reset_by (kind_at t.structures r.n) refl settled
