-- A sound state stays sound: after every request but the rings' calls, and after these where their steps keep tables steady.
use Rattle.std.specs.Prelude.{ℕ, ◌≤◌, ◌≡◌, Bool, eqb, ltb, length}
use Rattle.std.proofs.Math.Path.{refl}
use Rattle.std.proofs.Common.{sym, ap, subst, ◌∙◌, true≢false, arith}
use Rattle.std.proofs.Math.Bool.{true, false}
use borrow.Author.Tests.{eq-eqb, eqb-true, leb-true, ltb-false, not-false}
use Rattle.basics.specs.Tests.{test, holds, fails}
use Rattle.arrivals.specs.Order.{has}
use Rattle.tables.specs.declared.Tables.{Tables}
use Rattle.tables.specs.Lines.{in_lines_of}
use Rattle.records.specs.declared.Record.{Record}
use Rattle.calls.specs.declared.Deed.{Deed}
use Rattle.calls.specs.declared.Deed.TheVariants as deeds
use Rattle.calls.specs.Calls.{table, row_in, row_of, call_number}
use Rattle.calls.specs.Laws.{number_of_deed}
use Rattle.refusals.specs.Refusals.{unknown_call, both, either, bad_field, amount_fits, number_fits, small_fits, data_fit, deletes_in_use, codes, applies_to, applies, refusal}
use Rattle.refusals.specs.Laws.{none_applies}
use Rattle.ready.specs.Ready.{dispatched}
use Rattle.steps.specs.Steps.{done, replied_by, replied, refused, stepped_by, stepped}
use Rattle.sound.specs.Fresh.{fresh_sound as fresh_is_sound}
use Rattle.sound.specs.Sound.{Sound}
use Rattle.tables.specs.Access.{fresh, parcel_for}
use Rattle.sound.specs.Decided.{Typed}
use Rattle.promises.specs.KeptRingsCalls.{put_steady, conditional_put_steady, get_steady, conditional_get_steady, reset_steady, collect_steady}
use Rattle.promises.specs.KeptRingsAccepted.{get_empty}
use Rattle.std.specs.Prelude.{None}
use Rattle.promises.specs.Changes.{Steady}
use Rattle.promises.specs.KeptReady.{dispatched_steady, dispatched_sound, sound_steady}
use Rattle.promises.specs.KeptSemaphores.{waited_steady, conditionally_waited_steady, signalled_steady, conditionally_signalled_steady, all_signalled_steady}
use Rattle.promises.specs.KeptProcesses as processes
use Rattle.promises.specs.KeptStructures as structures
use Rattle.promises.specs.KeptTick.{ticked_steady}

-- ---- what an accepted request does

-- Every deed keeps tables steady: sleep for at most 2,147,483,647 milliseconds, delete where nobody is in a line, and get where the caller's parcel holds nothing
pub done_steady : (deed : Deed) (r : Record) (t : Tables) → Steady t → length r.bytes ≡ 64 → (deed ≡ deeds.Sleep → r.m ≤ 2147483647) → (deed ≡ deeds.DeleteStructure → in_lines_of r.n t ≡ 0)
    → (deed ≡ deeds.Get → (parcel_for t t.running).holds ≡ None)
    → Steady (done deed r t).tables
unfolding done
done_steady deeds.Unknown r t steady long sleeps deletes gets = steady
done_steady deeds.Tick r t steady long sleeps deletes gets = ticked_steady 1 t steady
done_steady deeds.CreateProcess r t steady long sleeps deletes gets = processes.created_steady r.l t steady
done_steady deeds.DeleteMyself r t steady long sleeps deletes gets = processes.deleted_myself_steady t steady
done_steady deeds.Suspend r t steady long sleeps deletes gets = processes.suspended_steady r.n t steady
done_steady deeds.Resume r t steady long sleeps deletes gets = processes.resumed_steady r.n t steady
done_steady deeds.ChangePriority r t steady long sleeps deletes gets = processes.prioritised_steady r.n r.l t steady
done_steady deeds.Schedule r t steady long sleeps deletes gets = processes.scheduled_steady t steady
done_steady deeds.ProcessState r t steady long sleeps deletes gets = processes.stated_steady r.n t steady
done_steady deeds.Sleep r t steady long sleeps deletes gets = processes.slept_steady r.m t steady (sleeps refl)
done_steady deeds.CreateStructure r t steady long sleeps deletes gets = structures.created_steady r.l r.m t steady
done_steady deeds.DeleteStructure r t steady long sleeps deletes gets = structures.deleted_steady r.n t steady (deletes refl)
done_steady deeds.StructureValue r t steady long sleeps deletes gets = structures.valued_steady r.n t steady
done_steady deeds.Signal r t steady long sleeps deletes gets = signalled_steady r.n t steady
done_steady deeds.ConditionalSignal r t steady long sleeps deletes gets = conditionally_signalled_steady r.n t steady
done_steady deeds.SignalAll r t steady long sleeps deletes gets = all_signalled_steady r.n t steady
done_steady deeds.Wait r t steady long sleeps deletes gets = waited_steady r.n t steady
done_steady deeds.ConditionalWait r t steady long sleeps deletes gets = conditionally_waited_steady r.n t steady
done_steady deeds.Put r t steady long sleeps deletes gets = put_steady r.n r.l r.bytes t steady long
done_steady deeds.ConditionalPut r t steady long sleeps deletes gets = conditional_put_steady r.n r.l r.bytes t steady long
done_steady deeds.Get r t steady long sleeps deletes gets = get_steady r.n r.l t steady (gets refl)
done_steady deeds.ConditionalGet r t steady long sleeps deletes gets = conditional_get_steady r.n r.l t steady
done_steady deeds.ResetRing r t steady long sleeps deletes gets = reset_steady r.n t steady
done_steady deeds.Collect r t steady long sleeps deletes gets = collect_steady t steady

-- ---- what is known of an accepted request

-- No refusal applies to it
pub none_refuses : (t : Tables) (r : Record) → refusal t r ≡ 0 → (k : ℕ) → has k codes ≡ true → applies k t r ≡ false
unfolding refusal
none_refuses t r e k h = none_applies (λ j. applies j t r) codes refl e k h

-- What a test of two, or of one of two, says of each
pub both_second : (a b : Bool) → both a b ≡ true → b ≡ true
both_second true b e = e
both_second false b e = absurd (true≢false (sym e))

pub both_first : (a b : Bool) → both a b ≡ true → a ≡ true
both_first true b e = refl
both_first false b e = absurd (true≢false (sym e))

either_second : (a b : Bool) → either a b ≡ false → b ≡ false
either_second true b e = absurd (true≢false e)
either_second false b e = e

module _ (t : Tables) (r : Record) (accepted : refusal t r ≡ 0) where
  -- Its call number is the number of its deed
  pub call_known : call_number (row_of r.what).deed ≡ r.what
  unfolding applies applies_to unknown_call
  call_known = number_of_deed r.what (ltb-false 23 r.what (either_second (eqb r.what 0) (ltb 23 r.what) (none_refuses t r accepted 41 refl)))

  -- so a deed tells its call
  pub call_is : (deed : Deed) → (row_of r.what).deed ≡ deed → r.what ≡ call_number deed
  call_is deed e = sym call_known ∙ ap call_number e

  -- "M milliseconds, 0 to 2,147,483,647"
  pub sleeps_short : (row_of r.what).deed ≡ deeds.Sleep → r.m ≤ 2147483647
  unfolding applies applies_to bad_field row_of row_in table
  sleeps_short e =
      let row = row_of r.what in
      let fields : both (number_fits row.n r.n) (both (small_fits row.l r.l) (both (amount_fits row.m r.l r.m) (data_fit row.bytes r.l r.bytes))) ≡ true
      = not-false _ (none_refuses t r accepted 43 refl) in
      let fits : amount_fits row.m r.l r.m ≡ true
      = both_first (amount_fits row.m r.l r.m) (data_fit row.bytes r.l r.bytes) (both_second (small_fits row.l r.l) _ (both_second (number_fits row.n r.n) _ fields)) in
      leb-true r.m 2147483647 (subst (λ (call : ℕ). amount_fits (row_of call).m r.l r.m ≡ true) (call_is deeds.Sleep e) fits)

  -- Nobody is in a line of a structure that is deleted
  pub deletes_unused : (row_of r.what).deed ≡ deeds.DeleteStructure → in_lines_of r.n t ≡ 0
  unfolding applies applies_to deletes_in_use
  deletes_unused e =
      let no : both (eqb r.what 11) (ltb 0 (in_lines_of r.n t)) ≡ false = none_refuses t r accepted 51 refl in
      omega (arith, ltb-false 0 (in_lines_of r.n t) (rw (eq-eqb r.what 11 (call_is deeds.DeleteStructure e)) at no))

-- ---- a request

-- Tables of the arrays' lengths that are sound
pub record SoundTables (t : Tables) : Type 0 where
  pub typed : Typed t
  pub sound : Sound t

-- Dispatched of steady tables
sound_dispatched : (t : Tables) → Steady t → SoundTables (dispatched t)
sound_dispatched t steady = record { typed = (dispatched_steady t steady).typed; sound = dispatched_sound t steady }

-- Every request leaves sound tables sound: a refused one as they are, an accepted one by its deed and dispatched
pub stepped_sound : (t : Tables) (r : Record) → length r.bytes ≡ 64 → SoundTables t → SoundTables (stepped t r).tables
unfolding stepped stepped_by replied replied_by refused
stepped_sound t r long before =
    elim (test (eqb (refusal t r) 0)) [
      | holds e ↦
          (let accepted = eqb-true (refusal t r) 0 e in
          rw e (sound_dispatched (done (row_of r.what).deed r t).tables
          (done_steady (row_of r.what).deed r t (sound_steady t before.typed before.sound) long (sleeps_short t r accepted) (deletes_unused t r accepted) (get_empty t r accepted))))
      | fails e ↦ rw e before
    ]

-- ---- the fresh state

-- Its lists have the arrays' lengths
fresh_typed : Typed fresh
unfolding fresh
fresh_typed = record { order = refl; processes = refl; structures = refl; rings = refl; parcels = refl }

-- A fresh state is sound
pub fresh_sound : SoundTables fresh
fresh_sound = record { typed = fresh_typed; sound = fresh_is_sound }
