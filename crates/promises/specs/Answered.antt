-- A request as a reader sees it; how it was not answered, by its call, by the number that it names, or by the code of its reply; and how any byte string is answered.
use Rattle.std.specs.Prelude.{ℕ, ◌≡◌, Bool, true, false, List, eqb, length}
use Rattle.std.proofs.Math.Path.{refl, subst}
use Rattle.std.proofs.Common.{sym, ◌∙◌, true≢false, arith}
use borrow.Author.Tests.{ne_eqb, eqb-true, eqb-false}
use Rattle.basics.specs.Tests.{test, holds, fails}
use Rattle.arrivals.specs.Order.{has}
use Rattle.tables.specs.declared.Tables.{Tables}
use Rattle.records.specs.declared.Record.{Record}
use Rattle.records.specs.Records.{record_length, record_of}
use Rattle.calls.specs.Calls.{row_of}
use Rattle.refusals.specs.Refusals.{both, codes, applies_to, applies, refusal}
use Rattle.refusals.specs.Laws.{given_applies}
use Rattle.steps.specs.Steps.{After, done, replied, refused, stepped_by, stepped}
use Rattle.sound.specs.Sound.{Settled}
use Rattle.promises.specs.Changes.{Steady}
use Rattle.promises.specs.KeptReady.{sound_steady}
use Rattle.promises.specs.KeptRingsAccepted.{get_empty}
use Rattle.promises.specs.Kept.{SoundTables, done_steady, sleeps_short, deletes_unused}
use Rattle.promises.specs.Run.{after_bytes, Event, event, data_long, handled_request, handled_rubbish}
use Rattle.promises.specs.Turns.{answered, creates}

-- The tables before it, what was asked, what was replied, and the tables after it
abbrev pub seen : Tables → Record → After → Event
seen t r a = record { before = t; request = r; reply = a.reply; after = a.tables }

-- One of two tests that fails makes both fail
pub both_none : (a : Bool) → both a false ≡ false
both_none true = refl
both_none false = refl

-- Another call is not this one
pub not_among : (call : ℕ) (l : List ℕ) → has call l ≡ false → (k : ℕ) → has k l ≡ true → eqb call k ≡ false
not_among call l no_one k h = ne_eqb call k (λ e. true≢false (sym h ∙ rw (← e) no_one))

module _ (call n code : ℕ) (e : Event) where
  -- This call for number n was not answered with this code: it was another call,
  pub by_call : eqb e.request.what call ≡ false → answered call n code e ≡ false
  unfolding answered
  by_call h = rw h

  -- it named another number,
  pub by_number : eqb e.request.n n ≡ false → answered call n code e ≡ false
  unfolding answered
  by_number h = rw h (both_none (eqb e.request.what call))

  -- or the code is another
  pub by_code : eqb e.reply.what code ≡ false → answered call n code e ≡ false
  unfolding answered
  by_code h = rw (h, both_none (eqb e.request.n n)) (both_none (eqb e.request.what call))

-- Nothing begins to live by another call,
pub not_called : (call n : ℕ) (e : Event) → eqb e.request.what call ≡ false → creates call n e ≡ false
unfolding creates
not_called call n e h = rw h

-- nor where the request was not performed
pub not_created : (call n : ℕ) (e : Event) → eqb e.reply.what 0 ≡ false → creates call n e ≡ false
unfolding creates
not_created call n e h = rw h (both_none (eqb e.request.what call))

-- ---- the structure that a request names, and the others

-- What is done at the number m that it names, and at every other
pub here_or_elsewhere : (D : ℕ → Type 0) (n m : ℕ) → D m → ((n ≡ m → ⊥) → D n) → D n
here_or_elsewhere D n m here elsewhere = elim (test (eqb m n)) [ holds q ↦ subst D (eqb-true m n q) here | fails q ↦ elsewhere (λ e. eqb-false m n q (sym e)) ]

-- ---- any byte string

-- No refusal is given the number 2
not_2 : (t : Tables) (r : Record) → refusal t r ≡ 2 → ⊥
unfolding refusal applies applies_to
not_2 t r e =
    let given : applies (refusal t r) t r ≡ true = given_applies (λ k. applies k t r) codes (λ z. let y : ◌≡◌ {A = ℕ} 0 2 = sym z ∙ e in omega arith) in
    true≢false (sym (rw e at given))

-- What holds of every refusal and of every accepted request holds of all that is put to sound tables
module _ (D : Event → Type 0) (t : Tables) (sound : SoundTables t) (of_refused : (k : ℕ) (r : Record) → eqb k 0 ≡ false → eqb k 2 ≡ false → D (seen t r (refused k t)))
    (of_accepted : (r : Record) → Steady t → length r.bytes ≡ 64 → refusal t r ≡ 0 → Settled (done (row_of r.what).deed r t).tables → D (seen t r (replied (done (row_of r.what).deed r t)))) where
  -- A request of 72 bytes
  of_stepped : (r : Record) → length r.bytes ≡ 64 → D (seen t r (stepped t r))
  unfolding stepped stepped_by
  of_stepped r long =
      let steady : Steady t = sound_steady t sound.typed sound.sound in
      elim (test (eqb (refusal t r) 0)) [
        | fails k ↦ rw k (of_refused (refusal t r) r k (ne_eqb (refusal t r) 2 (not_2 t r)))
        | holds k ↦
            let accepted = eqb-true (refusal t r) 0 k in
            rw k (of_accepted r steady long accepted
            (done_steady (row_of r.what).deed r t steady long (sleeps_short t r accepted) (deletes_unused t r accepted) (get_empty t r accepted)).settled)
      ]

  -- and any other
  pub of_event : (q : List ℕ) → D (event t q)
  unfolding after_bytes
  of_event q =
      elim (test (eqb (length q) record_length)) [
        | holds e ↦
            let long = eqb-true (length q) record_length e in
            subst (λ (a : After). D (seen t (record_of q) a)) (sym (handled_request t q long)) (of_stepped (record_of q) (data_long q long))
        | fails e ↦ subst (λ (a : After). D (seen t (record_of q) a)) (sym (handled_rubbish t q (eqb-false (length q) record_length e))) (of_refused 39 (record_of q) refl refl)
      ]
