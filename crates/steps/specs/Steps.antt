-- The kernel's step: from this page and those it names a reader can work out any request by hand.
use Rattle.std.specs.Prelude.{ℕ, cond, eqb, replicate}
use Rattle.tables.specs.declared.Tables.{Tables}
use Rattle.answers.specs.declared.Step.{Step}
use Rattle.answers.specs.Answers.{outcome_number, unmoved}
use Rattle.ready.specs.Ready.{dispatched}
use Rattle.records.specs.declared.Record.{Record}
use Rattle.records.specs.Records.{reply}
use Rattle.calls.specs.declared.Deed.{Deed}
use Rattle.calls.specs.declared.Deed.TheVariants as deeds
use Rattle.calls.specs.Calls.{row_of}
use Rattle.refusals.specs.Refusals.{refusal}
use Rattle.processes.specs.Processes as processes
use Rattle.structures.specs.Structures as structures
use Rattle.semaphores.specs.Semaphores as semaphores
use Rattle.rings.specs.Rings as rings

-- The tables after a request, and the reply to it
pub record After : Type 0 where
  pub tables : Tables
  pub reply : Record

-- What an accepted request does to the tables, and what it answers
unfoldable pub done : Deed → Record → Tables → Step
done deeds.Unknown r t = unmoved t
done deeds.Tick r t = processes.ticked 1 t
done deeds.CreateProcess r t = processes.created r.l t
done deeds.DeleteMyself r t = processes.deleted_myself t
done deeds.Suspend r t = processes.suspended r.n t
done deeds.Resume r t = processes.resumed r.n t
done deeds.ChangePriority r t = processes.prioritised r.n r.l t
done deeds.Schedule r t = processes.scheduled t
done deeds.ProcessState r t = processes.stated r.n t
done deeds.Sleep r t = processes.slept r.m t
done deeds.CreateStructure r t = structures.created r.l r.m t
done deeds.DeleteStructure r t = structures.deleted r.n t
done deeds.StructureValue r t = structures.valued r.n t
done deeds.Signal r t = semaphores.signalled r.n t
done deeds.ConditionalSignal r t = semaphores.conditionally_signalled r.n t
done deeds.SignalAll r t = semaphores.all_signalled r.n t
done deeds.Wait r t = semaphores.waited r.n t
done deeds.ConditionalWait r t = semaphores.conditionally_waited r.n t
done deeds.Put r t = rings.put_in r.n r.l r.bytes t
done deeds.ConditionalPut r t = rings.conditionally_put r.n r.l r.bytes t
done deeds.Get r t = rings.got r.n r.l t
done deeds.ConditionalGet r t = rings.conditionally_got r.n r.l t
done deeds.ResetRing r t = rings.reset_ring r.n t
done deeds.Collect r t = rings.collected t

abbrev pub after : Tables → Record → After
after t r = record { tables = t; reply = r }

-- At the end of every accepted call, once, whoever is due runs; byte 1 of the reply is the process running afterwards
unfoldable pub replied_by : Tables → Step → After
replied_by t s = after t (reply (outcome_number s.answer.outcome) t.running s.answer.n s.answer.l s.answer.m s.answer.bytes)

unfoldable pub replied : Step → After
replied s = replied_by (dispatched s.tables) s

-- A refusal leaves the state unchanged. The reply is the code, the running process, and zeros
unfoldable pub refused : ℕ → Tables → After
refused code t = after t (reply code t.running 0 0 0 (replicate 64 0))

-- The lowest number that applies refuses the request; with none the deed of its row is done
unfoldable pub stepped_by : ℕ → Tables → Record → After
stepped_by code t r = cond (eqb code 0) (replied (done (row_of r.what).deed r t)) (refused code t)

unfoldable pub stepped : Tables → Record → After
stepped t r = stepped_by (refusal t r) t r
