-- What owning tables tells: by their types their fields are in range. A proof has it of its parameters by `c.well_formed`, of a call's result by that call's `.type_inv`.
use Prim.Native.Nat.{ℕ, zero, suc, ◌<◌}
use mathlib.Core.Path.{◌≡◌}
use mathlib.Core.List.{List, [], ◌∷◌}
use native.Mathlib.Omega.{arith}
use borrow.Author.Rules.{rules}
use mir.Val.{Val}
use denote.Shadow.{shadow}
use denote.RattleType.{RattleType}
use denote.Array.{Array, each}
use denote.Struct.Field.{Field}
use denote.Builtin as builtin
use lib.ListN.{length}
use Rattle.std.specs.Prelude.{Option, None, Some}
use Rattle.bay.specs.declared.Ring.{Ring}
use Rattle.bay.specs.declared.Parcel.{Parcel}
use Rattle.tables.specs.declared.Tables.{Tables}
use Rattle.tables.specs.declared.Process.{Process}
use Rattle.tables.specs.declared.Place.{Place}
use Rattle.tables.specs.declared.Place.TheVariants.{Nowhere, Running, Ready, Parked, Waiting, Getting, Putting, Asleep}
use Rattle.tables.specs.declared.Structure.{Structure}
use Rattle.tables.specs.declared.Kind.{Kind}
use Rattle.tables.specs.declared.Kind.TheVariants as kinds
use Rattle.bay.specs.contracts.Ring as ring_type
use Rattle.bay.specs.contracts.Parcel as parcel_type
use Rattle.tables.specs.contracts.Process as process_type
use Rattle.tables.specs.contracts.Structure as structure_type
use Rattle.tables.specs.contracts.Tables as tables_type
use Rattle.tables.specs.contracts.Place as place_type
use Rattle.tables.specs.contracts.Kind as kind_type
use Rattle.std.specs.contracts.option.Option as option_type
use Rattle.records.specs.Records.{Bytes}
use Rattle.layout.specs.Typed.{Every, PlaceTyped, KindTyped, HoldingTyped, ProcessTyped, StructureTyped, RingTyped, ParcelTyped, Typed}

-- What a value of a field's type owns, as facts, and what an array of values of a type owns
abbrev pub Owns : (F : Field) → F.Value → List Val → Type 0
Owns F x vs = shadow (F.row.own_val (F.into x) vs)

abbrev pub OwnsArray : (R : RattleType) → ℕ → List R.Denot → List Val → Type 0
OwnsArray R n l vs = shadow ((Array R n).own_val l vs)

module _ (R : RattleType) (n : ℕ) where
  -- An array has its length,
  pub array_long : (l : List R.Denot) (vs : List Val) → OwnsArray R n l vs → length l ≡ n
  array_long l vs o = o.1.0.1

  module _ (P : R.Denot → Type 0) (one : (x : R.Denot) (vs : List Val) → shadow (R.own_val x vs) → P x) where
    each_typed : (l : List R.Denot) (us : List Val) → shadow (each R.Denot R.own_val l us) → Every P l
    each_typed [] us o = tt
    each_typed (x ∷ l) [] o = absurd o
    each_typed (x ∷ l) (u ∷ us) o = (one x (u ∷ []) o.0, each_typed l us o.1)

    -- and its elements are values of their type
    pub array_typed : (l : List R.Denot) (vs : List Val) → OwnsArray R n l vs → Every P l
    array_typed l vs o = each_typed l o.0 o.1.1

-- An array of bytes
bytes_typed : (n : ℕ) (l : List ℕ) (vs : List Val) → OwnsArray builtin.u8 n l vs → Bytes l
bytes_typed n l vs o = bytes l (array_typed builtin.u8 n (λ x. x < 256) (λ x vs o. o.1) l vs o)
  where
    bytes : (l : List ℕ) → Every (λ x. x < 256) l → Bytes l
    bytes [] e i = omega arith
    bytes (x ∷ l) e zero = e.0
    bytes (x ∷ l) e (suc i) = bytes l e.1 i

place_typed : (x : Place) (vs : List Val) → Owns place_type.the_field x vs → PlaceTyped x
place_typed Nowhere vs o = tt
place_typed Running vs o = tt
place_typed Ready vs o = tt
place_typed Parked vs o = tt
place_typed (Waiting n) vs o = search rules
place_typed (Getting n k) vs o = search rules
place_typed (Putting n k) vs o = search rules
place_typed (Asleep k) vs o = search rules

kind_typed : (x : Kind) (vs : List Val) → Owns kind_type.the_field x vs → KindTyped x
kind_typed kinds.Free vs o = tt
kind_typed (kinds.Binary v) vs o = search rules
kind_typed (kinds.Counting v) vs o = search rules
kind_typed (kinds.Ring b) vs o = search rules

holding_typed : (x : Option ℕ) (vs : List Val) → Owns (option_type.the_field builtin.u8) x vs → HoldingTyped x
holding_typed None vs o = tt
holding_typed (Some l) vs o = search rules

process_typed : (x : Process) (vs : List Val) → Owns process_type.the_field x vs → ProcessTyped x
process_typed x vs o = record { priority_range = o.1.1.0.1; place_range = place_typed x.place _ o.1.1.1.1.0 }

structure_typed : (x : Structure) (vs : List Val) → Owns structure_type.the_field x vs → StructureTyped x
structure_typed x vs o = record { kind_range = kind_typed x.kind _ o.1.1.0 }

ring_typed : (x : Ring) (vs : List Val) → Owns ring_type.the_field x vs → RingTyped x
ring_typed x vs o =
    record {
      room = array_long builtin.u8 256 x.bytes _ o.1.1.0;
      bytes_range = bytes_typed 256 x.bytes _ o.1.1.0;
      start_range = o.1.1.1.0.1;
      size_range = o.1.1.1.1.0.1;
      held_range = o.1.1.1.1.1.0.1;
    }

parcel_typed : (x : Parcel) (vs : List Val) → Owns parcel_type.the_field x vs → ParcelTyped x
parcel_typed x vs o =
    record {
      room = array_long builtin.u8 64 x.bytes _ o.1.1.0;
      bytes_range = bytes_typed 64 x.bytes _ o.1.1.0;
      holds_range = holding_typed x.holds _ o.1.1.1.0;
    }

-- Arrays of rings and of parcels that are parameters
pub rings_typed : (l : List Ring) (vs : List Val) → OwnsArray ring_type.the_row 8 l vs → Every RingTyped l
rings_typed l vs o = array_typed ring_type.the_row 8 RingTyped ring_typed l vs o

pub parcels_typed : (l : List Parcel) (vs : List Val) → OwnsArray parcel_type.the_row 32 l vs → Every ParcelTyped l
parcels_typed l vs o = array_typed parcel_type.the_row 32 ParcelTyped parcel_typed l vs o

-- Tables
pub tables_typed : (t : Tables) (vs : List Val) → Owns tables_type.the_field t vs → Typed t
tables_typed t vs o =
    record {
      running_range = o.1.1.0.1;
      order_long = array_long builtin.u8 32 t.order _ o.1.1.1.0;
      order_range = bytes_typed 32 t.order _ o.1.1.1.0;
      processes_long = array_long process_type.the_row 32 t.processes _ o.1.1.1.1.0;
      processes_range = array_typed process_type.the_row 32 ProcessTyped process_typed t.processes _ o.1.1.1.1.0;
      structures_long = array_long structure_type.the_row 24 t.structures _ o.1.1.1.1.1.0;
      structures_range = array_typed structure_type.the_row 24 StructureTyped structure_typed t.structures _ o.1.1.1.1.1.0;
      rings_long = array_long ring_type.the_row 8 t.rings _ o.1.1.1.1.1.1.0;
      rings_range = array_typed ring_type.the_row 8 RingTyped ring_typed t.rings _ o.1.1.1.1.1.1.0;
      parcels_long = array_long parcel_type.the_row 32 t.parcels _ o.1.1.1.1.1.1.1.0;
      parcels_range = array_typed parcel_type.the_row 32 ParcelTyped parcel_typed t.parcels _ o.1.1.1.1.1.1.1.0;
    }
