-- A ring call leaves every list as long as it was.
use Rattle.std.specs.Prelude.{ℕ, List, [], ◌∷◌, eqb}
use Rattle.std.proofs.Common.{◌∙◌}
use Rattle.basics.specs.Tests.{test, holds, fails}
use Rattle.arrivals.specs.Listed.{length_moved}
use Rattle.bay.specs.declared.Ring as bays
use Rattle.bay.specs.declared.Parcel.{Parcel}
use Rattle.bay.specs.Bay.{empty_parcel, put_of, get_of}
use Rattle.tables.specs.declared.Tables.{Tables}
use Rattle.tables.specs.declared.Place.{Place}
use Rattle.tables.specs.declared.Place.TheVariants.{Nowhere, Running, Ready, Parked, Waiting, Getting, Putting, Asleep}
use Rattle.tables.specs.Access.{process_of, ring_in, parcel_for, with_process, with_ring, with_parcel}
use Rattle.tables.specs.Laws.{length_replaced}
use Rattle.ready.specs.Ready.{placed, with_place, joins, runner_joins, released}
use Rattle.rings.specs.Serving.{entered, with_moved, served_getter, served_putter, served_as, service, services, turns, served}
use Rattle.sound.specs.Decided.{Typed}

module _ (t : Tables) (typed : Typed t) where
  -- Another ring,
  pub typed_ring : (b : ℕ) (r : bays.Ring) → Typed (with_ring t b r)
  unfolding with_ring
  typed_ring b r = record { order = typed.order; processes = typed.processes; structures = typed.structures; rings = length_replaced t.rings b r ∙ typed.rings; parcels = typed.parcels }

  -- another parcel,
  pub typed_parcel : (p : ℕ) (y : Parcel) → Typed (with_parcel t p y)
  unfolding with_parcel
  typed_parcel p y = record { order = typed.order; processes = typed.processes; structures = typed.structures; rings = typed.rings; parcels = length_replaced t.parcels p y ∙ typed.parcels }

  -- and a process that joins a line
  pub typed_joins : (p : ℕ) (place : Place) → Typed (joins p place t)
  unfolding joins with_place with_process
  typed_joins p place =
      elim (test (eqb p 0)) [
        | holds e ↦ rw e typed
        | fails e ↦ rw e (record {
          order = length_moved p t.order ∙ typed.order;
          processes = length_replaced t.processes p (placed (process_of t p) place) ∙ typed.processes;
          structures = typed.structures;
          rings = typed.rings;
          parcels = typed.parcels;
        })
      ]

  -- also the runner
  pub typed_runner_joins : (place : Place) → Typed (runner_joins place t)
  unfolding runner_joins
  typed_runner_joins place =
      let j = typed_joins t.running place in
      record { order = j.order; processes = j.processes; structures = j.structures; rings = j.rings; parcels = j.parcels }

-- One service,
typed_served_as : (b p : ℕ) (place : Place) (t : Tables) → Typed t → Typed (served_as b p place t)
unfolding served_as served_getter served_putter with_moved entered released
typed_served_as b p Nowhere t y = y
typed_served_as b p Running t y = y
typed_served_as b p Ready t y = y
typed_served_as b p Parked t y = y
typed_served_as b p (Waiting n) t y = y
typed_served_as b p (Getting n l) t y = typed_joins _ (typed_parcel _ (typed_ring t y b (get_of (ring_in t b) (parcel_for t p) 0 l).ring) p (get_of (ring_in t b) (parcel_for t p) 0 l).parcel) p _
typed_served_as b p (Putting n l) t y = typed_joins _ (typed_parcel _ (typed_ring t y b (put_of (ring_in t b) (parcel_for t p) 0 l)) p empty_parcel) p _
typed_served_as b p (Asleep k) t y = y

-- so many,
typed_services : (b : ℕ) (l : List ℕ) (t : Tables) → Typed t → Typed (services b l t)
unfolding services service
typed_services b [] t y = y
typed_services b (p ∷ l) t y = typed_services b l (served_as b p (process_of t p).place t) (typed_served_as b p (process_of t p).place t y)

-- and the whole serving
pub typed_served : (n b : ℕ) (t : Tables) → Typed t → Typed (served n b t)
unfolding served
typed_served n b t y = typed_services b (turns n b t) t y
