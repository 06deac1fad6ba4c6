-- What the end of an accepted call writes over a state's bytes: a device of the code; that it is the whole state is shown in its proof.
use Rattle.std.specs.Prelude.{ℕ, Bool, cond, List}
use Rattle.tables.specs.declared.Tables.{Tables}
use Rattle.layout.specs.Layout.{control_to, bytes_to}

-- The control part of the tables u, and what rings and parcels hold where a deed moved bytes
unfoldable pub stored : Bool → List ℕ → Tables → List ℕ
stored moves s u =
    let control = control_to s u.running u.order u.processes u.structures in
    cond moves (bytes_to control u.rings u.parcels) control
