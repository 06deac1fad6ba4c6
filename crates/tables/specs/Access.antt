-- The tables' parts by their numbers, and the tables with one part changed. A number outside reads as nobody or nothing and changes nothing.
use Rattle.std.specs.Prelude.{ℕ, ◌-◌, List, false, cond, eqb, get_or, set, replicate}
use Rattle.bay.specs.declared.Ring.{Ring}
use Rattle.bay.specs.declared.Parcel.{Parcel}
use Rattle.bay.specs.Bay.{empty_bay, empty_parcel}
use Rattle.tables.specs.declared.Tables.{Tables}
use Rattle.tables.specs.declared.Process.{Process}
use Rattle.tables.specs.declared.Place.TheVariants.{Nowhere}
use Rattle.tables.specs.declared.Structure.{Structure}
use Rattle.tables.specs.declared.Kind.TheVariants.{Free}

-- The one with number p, counted from 1; d where there is none
unfoldable pub numbered : {A : Type 0} → List A → ℕ → A → A
numbered l p d = cond (eqb p 0) d (get_or l (p - 1) d)

-- The list with x as the one with number p; as it was where there is none
unfoldable pub replaced : {A : Type 0} → List A → ℕ → A → List A
replaced l p x = cond (eqb p 0) l (set l (p - 1) x)

-- A number that is not live, and a structure that is free
abbrev pub nobody : Process
nobody = record { priority = 0; suspended = false; place = Nowhere }

abbrev pub nothing : Structure
nothing = record { kind = Free }

-- A fresh state has nothing live, running 0, and zero everywhere
unfoldable pub fresh : Tables
fresh =
    record {
      running = 0;
      order = replicate 32 0;
      processes = replicate 32 nobody;
      structures = replicate 24 nothing;
      rings = replicate 8 empty_bay;
      parcels = replicate 32 empty_parcel;
    }

-- The tables with one field anew
abbrev pub with_running : Tables → ℕ → Tables
with_running t p = record { running = p; order = t.order; processes = t.processes; structures = t.structures; rings = t.rings; parcels = t.parcels }

abbrev pub with_order : Tables → List ℕ → Tables
with_order t l = record { running = t.running; order = l; processes = t.processes; structures = t.structures; rings = t.rings; parcels = t.parcels }

abbrev pub with_processes : Tables → List Process → Tables
with_processes t l = record { running = t.running; order = t.order; processes = l; structures = t.structures; rings = t.rings; parcels = t.parcels }

abbrev pub with_structures : Tables → List Structure → Tables
with_structures t l = record { running = t.running; order = t.order; processes = t.processes; structures = l; rings = t.rings; parcels = t.parcels }

abbrev pub with_rings : Tables → List Ring → Tables
with_rings t l = record { running = t.running; order = t.order; processes = t.processes; structures = t.structures; rings = l; parcels = t.parcels }

abbrev pub with_parcels : Tables → List Parcel → Tables
with_parcels t l = record { running = t.running; order = t.order; processes = t.processes; structures = t.structures; rings = t.rings; parcels = l }

-- Process p, structure n, the ring in bay b and process p's parcel
unfoldable pub process_of : Tables → ℕ → Process
process_of t p = numbered t.processes p nobody

unfoldable pub structure_of : Tables → ℕ → Structure
structure_of t n = numbered t.structures n nothing

unfoldable pub ring_in : Tables → ℕ → Ring
ring_in t b = numbered t.rings b empty_bay

unfoldable pub parcel_for : Tables → ℕ → Parcel
parcel_for t p = numbered t.parcels p empty_parcel

-- The tables with one of them anew
unfoldable pub with_process : Tables → ℕ → Process → Tables
with_process t p q = with_processes t (replaced t.processes p q)

unfoldable pub with_structure : Tables → ℕ → Structure → Tables
with_structure t n s = with_structures t (replaced t.structures n s)

unfoldable pub with_ring : Tables → ℕ → Ring → Tables
with_ring t b r = with_rings t (replaced t.rings b r)

unfoldable pub with_parcel : Tables → ℕ → Parcel → Tables
with_parcel t p x = with_parcels t (replaced t.parcels p x)
