-- Each outcome of a call from what the callees answered. s, q and p are the three buffers as they came.
use Prim.Native.Nat.{ℕ, ◌<◌}
use mathlib.Core.Path.{◌≡◌, refl, sym, ap, ◌∙◌}
use mathlib.Core.Bool.{Bool, true, false, true≢false}
use mathlib.Core.List.{List}
use native.Mathlib.Omega.{arith}
use lib.Dec.{eqb}
use lib.ListN.{length}
use borrow.Author.Tests.{eq-eqb, eqb-true}
use Rattle.basics.specs.Tests.{test, holds, fails}
use Rattle.std.proofs.Common.{Result, Ok, Err}
use Rattle.tables.specs.declared.Tables.{Tables}
use Rattle.answers.specs.declared.Outcome.{Outcome}
use Rattle.answers.specs.declared.Outcome.TheVariants.{Done, No, Waits}
use Rattle.answers.specs.declared.Step.{Step}
use Rattle.answers.specs.Answers.{outcome_number}
use Rattle.records.specs.declared.Record.{Record}
use Rattle.records.specs.Records.{record_length, record_of, record_at, bytes_of, written_to, Bytes}
use Rattle.calls.specs.declared.Deed.{Deed}
use Rattle.calls.specs.Calls.{row_of, moves_bytes}
use Rattle.refusals.specs.declared.Refusal.{Refusal}
use Rattle.refusals.specs.declared.Refusal.TheVariants as refusals
use Rattle.refusals.specs.Codes.{code_of, refused_as}
use Rattle.refusals.specs.Refusals.{refusal}
use Rattle.steps.specs.Steps.{done as deed_done, replied, replied_by, refused as refused_step, stepped_by, stepped}
use Rattle.steps.specs.Bytes.{stepped_keeps}
use Rattle.layout.specs.Typed.{Typed}
use Rattle.layout.specs.Layout.{encode, decode, is_state}
use Rattle.layout.specs.Laws.{is_state_true, is_state_false, decode_typed, same_tables, control_written, all_written}
use Rattle.sound.specs.Tested.{sound_b}
use Rattle.sound.specs.Decided as decided
use Rattle.kernel.specs.Called.{Holds, Lengths, refusal_reply, Called, length_wrong, not_sound, refused, done}
use Rattle.kernel.specs.Stored.{stored}

small : (o : Outcome) → outcome_number o < 3
small Done = omega arith
small No = omega arith
small Waits = omega arith

-- 0 is no refusal's code
code_ne_0 : (e : Refusal) → code_of e ≡ 0 → ⊥
code_ne_0 refusals.UnknownCall z = omega arith
code_ne_0 refusals.WrongCaller z = omega arith
code_ne_0 refusals.BadField z = omega arith
code_ne_0 refusals.DeadStructure z = omega arith
code_ne_0 refusals.WrongKind z = omega arith
code_ne_0 refusals.DeadProcess z = omega arith
code_ne_0 refusals.WrongSuspension z = omega arith
code_ne_0 refusals.Uncollected z = omega arith
code_ne_0 refusals.TooLong z = omega arith
code_ne_0 refusals.SignalsFull z = omega arith
code_ne_0 refusals.DeletesInUse z = omega arith
code_ne_0 refusals.ProcessesFull z = omega arith
code_ne_0 refusals.StructuresFull z = omega arith

-- The step of a refused request, that of an accepted one, and the code of the latter
pub refused_step_lem : (t : Tables) (r : Record) → (refusal t r ≡ 0 → ⊥) → (stepped t r).reply ≡ refusal_reply (refusal t r) t.running
unfolding stepped stepped_by refused_step
refused_step_lem t r h = elim (test (eqb (refusal t r) 0)) [ holds e ↦ absurd (h (eqb-true _ 0 e)) | fails e ↦ rw e ]

pub accepted_step : (t : Tables) (r : Record) → refusal t r ≡ 0 → stepped t r ≡ replied (deed_done (row_of r.what).deed r t)
unfolding stepped stepped_by
accepted_step t r h = rw (eq-eqb (refusal t r) 0 h)

pub done_code : (t : Tables) (r : Record) → refusal t r ≡ 0 → (stepped t r).reply.what < 3
unfolding replied replied_by
done_code t r h = rw (accepted_step t r h) (small (deed_done (row_of r.what).deed r t).answer.outcome)

-- ---- the buffers

-- Tables whose fields are in range have lists of the arrays' lengths
pub lists_long : (t : Tables) → Typed t → decided.Typed t
lists_long t typed =
    record {
      order = typed.order_long;
      processes = typed.processes_long;
      structures = typed.structures_long;
      rings = typed.rings_long;
      parcels = typed.parcels_long;
    }

written : (p : List ℕ) (r : Record) → length p ≡ record_length → written_to p r ≡ bytes_of r
unfolding written_to
written p r h = rw (eq-eqb (length p) record_length h)

read_at : (q : List ℕ) → length q ≡ record_length → record_at q ≡ record_of q
unfolding record_at
read_at q h = rw (eq-eqb (length q) record_length h)

module _ (s q p : List ℕ) where
  pub request_wrong : (length q ≡ record_length → ⊥) → Called s q p 39 s p
  request_wrong h = length_wrong (λ l. h l.request) refl refl refl

  pub answer_wrong : (length p ≡ record_length → ⊥) → Called s q p 39 s p
  answer_wrong h = length_wrong (λ l. h l.answer) refl refl refl

  module _ (ql : length q ≡ record_length) (pl : length p ≡ record_length) where
    lengths : Lengths q p
    lengths = record { request = ql; answer = pl }

    -- 40 where the bytes are no state
    pub no_state : {b : Bool} {r : Record} {p' : List ℕ} → b ≡ is_state s → b ≡ false → r ≡ refusal_reply 40 0 → p' ≡ written_to p r → Called s q p 40 s p'
    no_state {b} {r} is h e w =
        not_sound lengths (λ t a. is_state_false s (sym is ∙ h) t a.typed a.bytes) refl refl (w ∙ written p r pl ∙ ap bytes_of e)

    module _ (bytes : Bytes s) {b d : Bool} {t : Tables} (is : b ≡ is_state s) (state : b ≡ true) (reads : t ≡ decode s) (tests : d ≡ sound_b t) where
      stands : encode t ≡ s
      stands = ap encode reads ∙ is_state_true s (sym is ∙ state)

      typed : Typed t
      typed = rw reads (decode_typed s bytes)

      lists : decided.Typed t
      lists = lists_long t typed

      -- 40 where they are a state that is not sound
      pub no_sound : {r : Record} {p' : List ℕ} → d ≡ false → r ≡ refusal_reply 40 0 → p' ≡ written_to p r → Called s q p 40 s p'
      no_sound {r} h e w =
          not_sound lengths
          (λ u a.
          true≢false
          (sym ((decided.sound_decided t lists).sure (rw (same_tables t u typed a.typed (stands ∙ sym a.bytes)) a.sound)) ∙ sym tests ∙ h))
          refl refl (w ∙ written p r pl ∙ ap bytes_of e)

      -- Else they are the sound state that was read
      pub state_held : d ≡ true → Holds s t
      state_held h = record { typed = typed; bytes = stands; sound = (decided.sound_decided t lists).yes (sym tests ∙ h) }

      module _ (sound : d ≡ true) {r : Record} (asked : r ≡ record_at q) where
        asked_here : r ≡ record_of q
        asked_here = asked ∙ read_at q ql

        refuses_here : (x : Result (Unit {0}) Refusal) → refused_as x ≡ refusal t r → refused_as x ≡ refusal t (record_of q)
        refuses_here x h = h ∙ ap (refusal t) asked_here

        -- A refusal
        pub is_refused : {x : Result (Unit {0}) Refusal} {e : Refusal} {n k : ℕ} {p' : List ℕ} → refused_as x ≡ refusal t r → x ≡ Err e → n ≡ code_of e → k ≡ n → p' ≡ written_to p (refusal_reply n t.running) → Called s q p k s p'
        is_refused {x} {e} {n} refuses h c k w =
            let same : n ≡ refusal t (record_of q) = c ∙ sym (ap refused_as h) ∙ refuses_here x refuses in
            refused lengths t (state_held sound) (λ z. code_ne_0 e (sym c ∙ same ∙ z)) (k ∙ same) refl
            (w ∙ written p (refusal_reply n t.running) pl ∙ ap (λ a. bytes_of (refusal_reply a t.running)) same)

        -- Done
        pub is_done : {x : Result (Unit {0}) Refusal} {y : Unit {0}} {z : Step} {d : Deed} {k : ℕ} {s' p' : List ℕ} → refused_as x ≡ refusal t r → x ≡ Ok y → d ≡ (row_of r.what).deed → z ≡ deed_done d r t
            → k ≡ (replied z).reply.what → s' ≡ stored (moves_bytes d) s (replied z).tables → p' ≡ written_to p (replied z).reply → Typed (replied z).tables → Called s q p k s' p'
        is_done {x} {y} {z} {d} refuses h row steps c v w fits =
            done lengths t (state_held sound) accepted (c ∙ ap (λ a. a.reply.what) here) (v ∙ all_stored ∙ ap (λ a. encode a.tables) here)
            (w ∙ written p (replied z).reply pl ∙ ap (λ a. bytes_of a.reply) here)
          where
            accepted : refusal t (record_of q) ≡ 0
            accepted = sym (refuses_here x refuses) ∙ ap refused_as h

            here : replied z ≡ stepped t (record_of q)
            here =
                ap replied (steps ∙ ap (λ a. deed_done a r t) row ∙ ap (λ a. deed_done (row_of a.what).deed a t) asked_here)
                ∙ sym (accepted_step t (record_of q) accepted)

            -- What is written are the bytes of the tables
            all_stored : stored (moves_bytes d) s (replied z).tables ≡ encode (replied z).tables
            all_stored =
                unfold stored in
                elim (test (moves_bytes d)) [
                  | holds e ↦ rw (e, ← stands) (all_written t (replied z).tables typed fits.order_long fits.processes_long fits.structures_long)
                  | fails e ↦
                      (let keeps = stepped_keeps d r t e in
                      let same = ap replied steps in
                      rw (e, ← stands) (control_written t (replied z).tables typed (rw same keeps.rings) (rw same keeps.parcels)))
                ]
