-- Every request does one of the deeds at ring n, and nothing else: all 23 calls, refusals, and what is no request.
use Rattle.std.specs.Prelude.{ℕ, ◌≡◌, false, List, [], ◌∷◌, eqb, length}
use Rattle.std.proofs.Math.Path.{refl}
use Rattle.std.proofs.Common.{sym, ◌∙◌, true≢false, inl, inr}
use Rattle.arrivals.specs.Order.{has}
use Rattle.tables.specs.declared.Tables.{Tables}
use Rattle.records.specs.declared.Record.{Record}
use Rattle.calls.specs.declared.Deed.{Deed}
use Rattle.calls.specs.declared.Deed.TheVariants as deeds
use Rattle.calls.specs.Calls.{row_of, call_number}
use Rattle.arrivals.specs.Listed.{has_behind}
use Rattle.steps.specs.Steps.{done, replied, refused}
use Rattle.sound.specs.Sound.{Settled}
use Rattle.promises.specs.Changes.{Steady}
use Rattle.promises.specs.Kept.{call_known, SoundTables}
use Rattle.promises.specs.Run.{event}
use Rattle.promises.specs.RingDeeds.{RingDeed}
use Rattle.promises.specs.Answered.{seen, not_among, of_event}
use Rattle.promises.specs.LineCalls.{ring_calls}
use Rattle.promises.specs.RingLines.{same_none, same_done}
use Rattle.promises.specs.RingRests.{calls_at, idle_code, idle_call, same_rests, step_rests, at_ring}
use Rattle.promises.proofs.RingStructures.{created_deed, deleted_deed}
use Rattle.promises.proofs.RingTransfers.{put_deed, conditional_put_deed, get_deed, conditional_get_deed, reset_deed}

-- ---- an accepted request

module _ (n : ℕ) (r : Record) (t : Tables) (steady : Steady t) (long : length r.bytes ≡ 64) where
  -- A call that is no ring's
  quiet : (deed : Deed) → call_number deed ≡ r.what → has (call_number deed) (10 ∷ 11 ∷ []) ≡ false → has (call_number deed) (10 ∷ calls_at) ≡ false → Settled (done deed r t).tables
      → RingDeed n (seen t r (replied (done deed r t)))
  quiet deed call structure none settled =
      step_rests n t r (done deed r t) settled (idle_call n (seen t r (replied (done deed r t))) (rw (← call) none))
      (same_done n deed r t steady structure (λ c. absurd (true≢false (sym (has_behind 10 (call_number deed) calls_at (has_behind 11 (call_number deed) ring_calls c)) ∙ none))))

  -- A ring's call, by what it does at the ring that it names
  at_named : (deed : Deed) → call_number deed ≡ r.what → has (call_number deed) (10 ∷ 11 ∷ []) ≡ false → Settled (done deed r t).tables
      → RingDeed r.n (seen t r (replied (done deed r t))) → RingDeed n (seen t r (replied (done deed r t)))
  at_named deed call structure settled own =
      at_ring n t r (done deed r t) (rw (← call) (not_among (call_number deed) (10 ∷ 11 ∷ []) structure 10 refl)) own (λ other. same_done n deed r t steady structure (λ c. other)) settled

  -- Each deed of the call table
  accepted_deed : (deed : Deed) → call_number deed ≡ r.what → Settled (done deed r t).tables → RingDeed n (seen t r (replied (done deed r t)))
  unfolding done
  accepted_deed deeds.Unknown call settled = quiet deeds.Unknown call refl refl settled
  accepted_deed deeds.Tick call settled = quiet deeds.Tick call refl refl settled
  accepted_deed deeds.CreateProcess call settled = quiet deeds.CreateProcess call refl refl settled
  accepted_deed deeds.DeleteMyself call settled = quiet deeds.DeleteMyself call refl refl settled
  accepted_deed deeds.Suspend call settled = quiet deeds.Suspend call refl refl settled
  accepted_deed deeds.Resume call settled = quiet deeds.Resume call refl refl settled
  accepted_deed deeds.ChangePriority call settled = quiet deeds.ChangePriority call refl refl settled
  accepted_deed deeds.Schedule call settled = quiet deeds.Schedule call refl refl settled
  accepted_deed deeds.ProcessState call settled = quiet deeds.ProcessState call refl refl settled
  accepted_deed deeds.Sleep call settled = quiet deeds.Sleep call refl refl settled
  accepted_deed deeds.CreateStructure call settled = created_deed n t r steady (sym call) r.l r.m settled
  accepted_deed deeds.DeleteStructure call settled = deleted_deed n t r steady (sym call) settled
  accepted_deed deeds.StructureValue call settled = quiet deeds.StructureValue call refl refl settled
  accepted_deed deeds.Signal call settled = quiet deeds.Signal call refl refl settled
  accepted_deed deeds.ConditionalSignal call settled = quiet deeds.ConditionalSignal call refl refl settled
  accepted_deed deeds.SignalAll call settled = quiet deeds.SignalAll call refl refl settled
  accepted_deed deeds.Wait call settled = quiet deeds.Wait call refl refl settled
  accepted_deed deeds.ConditionalWait call settled = quiet deeds.ConditionalWait call refl refl settled
  accepted_deed deeds.Put call settled = at_named deeds.Put call refl settled (put_deed t r steady long (inl (sym call)) settled)
  accepted_deed deeds.ConditionalPut call settled = at_named deeds.ConditionalPut call refl settled (conditional_put_deed t r steady long (inr (sym call)) settled)
  accepted_deed deeds.Get call settled = at_named deeds.Get call refl settled (get_deed t r steady (inl (sym call)) settled)
  accepted_deed deeds.ConditionalGet call settled = at_named deeds.ConditionalGet call refl settled (conditional_get_deed t r steady (inr (sym call)) settled)
  accepted_deed deeds.ResetRing call settled = at_named deeds.ResetRing call refl settled (reset_deed t r steady (sym call) settled)
  accepted_deed deeds.Collect call settled = quiet deeds.Collect call refl refl settled

-- ---- any request

-- "A refusal leaves the state unchanged"
refused_deed : (n code : ℕ) (t : Tables) (r : Record) → eqb code 0 ≡ false → RingDeed n (seen t r (refused code t))
unfolding refused
refused_deed n code t r h = same_rests n (seen t r (refused code t)) (idle_code n (seen t r (refused code t)) h) (same_none n t)

-- Any byte string
pub ring_deed_of : (n : ℕ) (t : Tables) (q : List ℕ) → SoundTables t → RingDeed n (event t q)
ring_deed_of n t q sound =
    of_event (RingDeed n) t sound (λ k r done waits. refused_deed n k t r done)
    (λ r steady long accepted. accepted_deed n r t steady long (row_of r.what).deed (call_known t r accepted)) q
