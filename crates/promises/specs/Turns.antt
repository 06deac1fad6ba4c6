-- "Turns and bytes for demand 3": what a reader counts of a request, from the request, its reply, and the lines and rings before and after it.
use Rattle.std.specs.Prelude.{ℕ, Bool, true, false, cond, not, List, [], ◌∷◌, ◌++◌, eqb, length, take}
use Rattle.arrivals.specs.Order.{has, keep}
use Rattle.std.specs.Prelude.{Option, None, Some}
use Rattle.bay.specs.Bay.{contents}
use Rattle.tables.specs.declared.Tables.{Tables}
use Rattle.tables.specs.declared.Kind.{Kind}
use Rattle.tables.specs.declared.Kind.TheVariants as kinds
use Rattle.tables.specs.declared.Line.{Line}
use Rattle.tables.specs.declared.Line.TheVariants.{Semaphore, Getters, Putters}
use Rattle.tables.specs.Access.{structure_of, ring_in, parcel_for}
use Rattle.tables.specs.Lines.{line}
use Rattle.refusals.specs.Refusals.{both, either}
use Rattle.promises.specs.Run.{Event}

-- ---- a request, as it was asked and answered

-- This call for number n was answered with this code
unfoldable pub answered : ℕ → ℕ → ℕ → Event → Bool
answered call n code e = both (eqb e.request.what call) (both (eqb e.request.n n) (eqb e.reply.what code))

-- A line before the request, and after it
abbrev pub line_before : Line → Event → List ℕ
line_before x e = line x e.before

abbrev pub line_after : Line → Event → List ℕ
line_after x e = line x e.after

-- Those who stood in a line before and do not stand in it afterwards, in their order
unfoldable pub left_line : Line → Event → List ℕ
left_line x e = keep (λ p. not (has p (line_after x e))) (line_before x e)

-- ---- lives: "A process or structure lives from creation to deletion; a reused number is another one"

-- A creation that was answered with this number
unfoldable pub creates : ℕ → ℕ → Event → Bool
creates call n e = both (eqb e.request.what call) (both (eqb e.reply.what 0) (eqb e.reply.n n))

-- Process p, or structure n, begins to live
unfoldable pub process_begins : ℕ → Event → Bool
process_begins p e = creates 2 p e

unfoldable pub structure_begins : ℕ → Event → Bool
structure_begins n e = creates 10 n e

-- ---- semaphores

-- A line has somebody in it
abbrev pub is_line : List ℕ → Bool
is_line [] = false
is_line (p ∷ l) = true

-- "A single release is an accepted signal that met a line, or a performed conditional signal"
unfoldable pub is_single_release : ℕ → Event → Bool
is_single_release n e = either (both (answered 13 n 0 e) (is_line (line_before (Semaphore n) e))) (answered 14 n 0 e)

unfoldable pub single_releases : ℕ → Event → ℕ
single_releases n e = cond (is_single_release n e) 1 0

-- A signal, a conditional signal or a signal all that was performed
unfoldable pub is_release : ℕ → Event → Bool
is_release n e = either (answered 13 n 0 e) (either (answered 14 n 0 e) (answered 15 n 0 e))

-- "a wait or conditional wait there with code 0"
unfoldable pub is_passed : ℕ → Event → Bool
is_passed n e = either (answered 16 n 0 e) (answered 17 n 0 e)

-- Who has a turn: "at each wait or conditional wait there with code 0, and at each release there that takes it out of the line, suspended or not"
unfoldable pub turns : ℕ → Event → List ℕ
turns n e = cond (is_passed n e) (e.before.running ∷ []) (cond (is_release n e) (left_line (Semaphore n) e) [])

-- Who has asked: "once for each wait with code 0 or 2 and each conditional wait with code 0"
unfoldable pub askers : ℕ → Event → List ℕ
askers n e = cond (either (is_passed n e) (answered 16 n 2 e)) (e.before.running ∷ []) []

-- "The sum for counting semaphores counts each accepted signal as a release, also one that met no line";
-- "Signal all is one release for each process in line"
unfoldable pub releases : ℕ → Event → ℕ
releases n e =
    cond (either (answered 13 n 0 e) (answered 14 n 0 e)) 1
    (cond (answered 15 n 0 e) (length (line_before (Semaphore n) e)) 0)

-- What structure n is
abbrev pub kind_before : ℕ → Event → Kind
kind_before n e = (structure_of e.before n).kind

abbrev pub kind_after : ℕ → Event → Kind
kind_after n e = (structure_of e.after n).kind

-- A binary semaphore at 1
unfoldable pub is_raised : Kind → Bool
is_raised kinds.Free = false
is_raised (kinds.Binary v) = eqb v 1
is_raised (kinds.Counting v) = false
is_raised (kinds.Ring b) = false

-- What is lost: a signal of a binary semaphore at 1 that met no line. "A binary one at 1 stays 1"
unfoldable pub lost : ℕ → Event → ℕ
lost n e = cond (both (answered 13 n 0 e) (both (not (is_line (line_before (Semaphore n) e))) (is_raised (kind_before n e)))) 1 0

-- ---- rings

-- The bytes that a parcel holds
unfoldable pub held_as : Option ℕ → List ℕ → List ℕ
held_as None bytes = []
held_as (Some l) bytes = take l bytes

abbrev pub parcel_bytes : Tables → ℕ → List ℕ
parcel_bytes t p = held_as (parcel_for t p).holds (parcel_for t p).bytes

-- The bytes of these processes' parcels, one after the other
unfoldable pub parcels_bytes : Tables → List ℕ → List ℕ
parcels_bytes t [] = []
parcels_bytes t (p ∷ l) = parcel_bytes t p ++ parcels_bytes t l

-- The bytes put: those of a put or conditional put that went through, then those of the putters whose turn it was.
-- "A waiting put counts as put when its bytes enter the ring"
unfoldable pub put : ℕ → Event → List ℕ
put n e =
    cond (either (answered 18 n 0 e) (answered 19 n 0 e)) (take e.request.l e.request.bytes) []
    ++ parcels_bytes e.before (left_line (Putters n) e)

-- The bytes got: those that the reply to a get or conditional get brings, then those of the getters whose turn it was.
-- "a get as got when they leave it"
unfoldable pub got : ℕ → Event → List ℕ
got n e =
    cond (either (answered 20 n 0 e) (answered 21 n 0 e)) (take e.reply.l e.reply.bytes) []
    ++ parcels_bytes e.after (left_line (Getters n) e)

-- The held bytes are thrown away
unfoldable pub is_reset : ℕ → Event → Bool
is_reset n e = answered 22 n 0 e

-- The bytes held by a structure of this kind
unfoldable pub held_by : Kind → Tables → List ℕ
held_by kinds.Free t = []
held_by (kinds.Binary v) t = []
held_by (kinds.Counting v) t = []
held_by (kinds.Ring b) t = contents (ring_in t b)

unfoldable pub held : ℕ → Tables → List ℕ
held n t = held_by (structure_of t n).kind t
