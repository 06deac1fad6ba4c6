-- The laws of the state's bytes: what was written reads back, and only tables' bytes pass the test. Assumes nothing.
use Rattle.std.specs.Prelude.{ℕ, zero, suc, ◌+◌, ◌*◌, ◌%◌, ◌^◌, ◌≤◌, ◌<◌, ◌≡◌, Bool, true, false, ◌&&◌, List, [], ◌∷◌, ◌++◌, eqb, get_or, take, drop, replicate}
use Rattle.std.proofs.Math.Path.{refl}
use Rattle.std.proofs.Common.{sym, ap, ◌∙◌, true≢false, append_assoc, append-nil, suc-mul, zero-mul, mul-le-mul_right}
use native.Mathlib.Omega.{arith}
use borrow.Author.Tests.{eq-eqb, ne_eqb, eqb-true}
use Rattle.std.proofs.Math.ListN.{length, length-append, length-drop}
use Rattle.std.proofs.lemmas.List.{length-replicate, replicate-append-replicate}
use Rattle.std.proofs.Math.Seq.{take_at, drop_at}
use Rattle.basics.specs.Tests.{test, holds, fails, pick}
use Rattle.std.specs.Prelude.{Option, None, Some}
use Rattle.bay.specs.declared.Parcel.{Parcel}
use Rattle.bay.specs.declared.Ring.{Ring}
use Rattle.bay.specs.Bay.{zeros, empty_bay, empty_parcel}
use Rattle.tables.specs.declared.Tables.{Tables}
use Rattle.tables.specs.declared.Process.{Process}
use Rattle.tables.specs.declared.Place.{Place}
use Rattle.tables.specs.declared.Place.TheVariants.{Nowhere, Running, Ready, Parked, Waiting, Getting, Putting, Asleep}
use Rattle.tables.specs.declared.Structure.{Structure}
use Rattle.tables.specs.declared.Kind.{Kind}
use Rattle.tables.specs.declared.Kind.TheVariants as kinds
use Rattle.tables.specs.Numbers.{code, spot, amount, kind_number}
use Rattle.tables.specs.Access.{nobody, nothing, fresh}
use Rattle.records.specs.Records.{number, low_first, Bytes}
use Rattle.records.specs.Laws.{number_low_first, low_first_number, bytes_drop, bytes_take, number_range}
use Rattle.layout.specs.Pieces.{flat, entries, part, same}
use Rattle.layout.specs.PieceLaws.{length_part, part_bytes, part_join, part_first, part_second, part_whole, length_flat, flat_part, length_entries, get_d_entries, entries_are, every_entry, flat_entries, same_true, same_refl, all_to_each, each_all_to}
use Rattle.layout.specs.Typed.{Every, every_at, every_of, every_map, PlaceTyped, KindTyped, HoldingTyped, ProcessTyped, StructureTyped, RingTyped, ParcelTyped, Typed}
use Rattle.layout.specs.Layout.{order_at, processes_at, structures_at, bays_at, holdings_at, ring_bytes_at, parcel_bytes_at, state_length, flag, place_of, process_bytes, process_from, value_of, kind_of, structure_bytes, structure_from, bay_bytes, bay_from, ring_bytes, holding_flag, holding_length, holding_of, holding_bytes, parcel_from, parcel_bytes, control_bytes, held_bytes, encode, process_in, structure_in, bay_in, parcel_in, tables_of, decode, control_to, bytes_to, process_kept, structure_kept, holding_kept, processes_kept, structures_kept, holdings_kept, is_state}

-- ---- how wide the entries are

pub process_wide : (l : List Process) → Every (λ p. length (process_bytes p) ≡ 8) l
unfolding process_bytes low_first
process_wide = every_of _ (λ p. refl)

pub structure_wide : (l : List Structure) → Every (λ x. length (structure_bytes x) ≡ 3) l
unfolding structure_bytes low_first
structure_wide = every_of _ (λ x. refl)

pub bay_wide : (l : List Ring) → Every (λ r. length (bay_bytes r) ≡ 6) l
unfolding bay_bytes low_first
bay_wide = every_of _ (λ r. refl)

pub holding_wide : (l : List Parcel) → Every (λ p. length (holding_bytes p) ≡ 2) l
unfolding holding_bytes
holding_wide = every_of _ (λ p. refl)

pub ring_wide : (l : List Ring) → Every RingTyped l → Every (λ r. length (ring_bytes r) ≡ 256) l
ring_wide = every_map RingTyped _ (λ r e. e.room)

pub parcel_wide : (l : List Parcel) → Every ParcelTyped l → Every (λ p. length (parcel_bytes p) ≡ 64) l
parcel_wide = every_map ParcelTyped _ (λ p e. e.room)

-- ---- how long the parts are, and where their entries stand

-- A table of m entries, w bytes each
table_long : {A : Type 0} (f : A → List ℕ) (w m : ℕ) (l : List A) → Every (λ x. length (f x) ≡ w) l → length l ≡ m → length (flat f l) ≡ m * w
table_long f w m l e h = rw h at (length_flat f w l e)

pub processes_size : (l : List Process) → length l ≡ 32 → length (flat process_bytes l) ≡ 256
processes_size l = table_long process_bytes 8 32 l (process_wide l)

pub structures_size : (l : List Structure) → length l ≡ 24 → length (flat structure_bytes l) ≡ 72
structures_size l = table_long structure_bytes 3 24 l (structure_wide l)

pub bays_size : (l : List Ring) → length l ≡ 8 → length (flat bay_bytes l) ≡ 48
bays_size l = table_long bay_bytes 6 8 l (bay_wide l)

pub holdings_size : (l : List Parcel) → length l ≡ 32 → length (flat holding_bytes l) ≡ 64
holdings_size l = table_long holding_bytes 2 32 l (holding_wide l)

pub ring_bytes_size : (l : List Ring) → Every RingTyped l → length l ≡ 8 → length (flat ring_bytes l) ≡ 2048
ring_bytes_size l e = table_long ring_bytes 256 8 l (ring_wide l e)

pub parcel_bytes_size : (l : List Parcel) → Every ParcelTyped l → length l ≡ 32 → length (flat parcel_bytes l) ≡ 2048
parcel_bytes_size l e = table_long parcel_bytes 64 32 l (parcel_wide l e)

-- The two parts of the tables' bytes
abbrev control : Tables → List ℕ
control t = control_bytes t.running t.order t.processes t.structures

abbrev held : Tables → List ℕ
held t = held_bytes t.rings t.parcels

-- The first reaches to the bays
control_size : (t : Tables) → length t.order ≡ 32 → length t.processes ≡ 32 → length t.structures ≡ 24 → length (control t) ≡ bays_at
unfolding control_bytes
control_size t o p x = simp (length-append, o, processes_size t.processes p, structures_size t.structures x)

-- ---- what stands in each part

-- Parts behind each other, and where each begins
abbrev joined : List (List ℕ) → List ℕ
joined = flat (λ b. b)

in_section : (l : List (List ℕ)) (j k at n : ℕ) → j < length l → length (joined (take j l)) ≡ k → at + n ≤ length (get_or l j []) → part (joined l) (k + at) n ≡ part (get_or l j []) at n
unfolding flat
in_section [] j k at n h e f = absurd (omega arith)
in_section (x ∷ l) zero k at n h e f =
    let none : k + at ≡ at = omega arith in
    rw (none, part_first x (joined l) at n f)
in_section (x ∷ l) (suc j) k at n h e f =
    let rest : length x + length (joined (take j l)) ≡ k = rw length-append at e in
    let next : k + at ≡ length x + (length (joined (take j l)) + at) = omega arith in
    rw (next, part_second x (joined l) (length x) (length (joined (take j l)) + at) n refl)
    (in_section l j (length (joined (take j l))) at n (omega arith) refl f)

abbrev sections : Tables → List (List ℕ)
sections t =
    (t.running ∷ [])
    ∷ t.order
    ∷ flat process_bytes t.processes
    ∷ flat structure_bytes t.structures
    ∷ flat bay_bytes t.rings
    ∷ flat holding_bytes t.parcels
    ∷ flat ring_bytes t.rings
    ∷ flat parcel_bytes t.parcels
    ∷ []

-- Two times four parts
eight_joined : (a b c d e f g h : List ℕ) → a ++ b ++ c ++ d ++ (e ++ f ++ g ++ h) ≡ joined (a ∷ b ∷ c ∷ d ∷ e ∷ f ∷ g ∷ h ∷ [])
unfolding flat
eight_joined a b c d e f g h = simp (append_assoc, append-nil)

encode_sections : (t : Tables) → encode t ≡ joined (sections t)
unfolding encode control_bytes held_bytes
encode_sections t = eight_joined (t.running ∷ []) t.order _ _ _ _ _ _

module _ (t : Tables) (typed : Typed t) where
  -- Where the parts begin, and where the last one ends
  begins : (length (joined (take 2 (sections t))) ≡ processes_at) × (length (joined (take 3 (sections t))) ≡ structures_at) × (length (joined (take 4 (sections t))) ≡ bays_at) × (length (joined (take 5 (sections t))) ≡ holdings_at) × (length (joined (take 6 (sections t))) ≡ ring_bytes_at) × (length (joined (take 7 (sections t))) ≡ parcel_bytes_at) × (length (joined (sections t)) ≡ state_length)
  unfolding flat
  begins =
      simp length-append
      (omega (
        arith,
        typed.order_long,
        processes_size t.processes typed.processes_long,
        structures_size t.structures typed.structures_long,
        bays_size t.rings typed.rings_long,
        holdings_size t.parcels typed.parcels_long,
        ring_bytes_size t.rings typed.rings_range typed.rings_long,
        parcel_bytes_size t.parcels typed.parcels_range typed.parcels_long,
      ))

  -- The tables' bytes are a state's number of bytes
  pub length_encode : length (encode t) ≡ state_length
  length_encode = ap length (encode_sections t) ∙ begins.6

  -- and from the bays on they are the second part
  held_behind : drop bays_at (encode t) ≡ held t
  unfolding encode
  held_behind = drop_at (control t) (held t) bays_at (control_size t typed.order_long typed.processes_long typed.structures_long)

-- An entry of a table of m that is the j-th part, found at its place
entry_part : {A : Type 0} (t : Tables) (f : A → List ℕ) (l : List A) (j k m w i : ℕ) (d : A) → j < 8 → length (joined (take j (sections t))) ≡ k → get_or (sections t) j [] ≡ flat f l → Every (λ x. length (f x) ≡ w) l → length l ≡ m → i < m → part (encode t) (k + i * w) w ≡ f (get_or l i d)
entry_part t f l j k m w i d h e g wide long less =
    let one : suc i * w ≤ length l * w = mul-le-mul_right w (omega arith) in
    let fits : i * w + w ≤ length (flat f l) = rw (length_flat f w l wide, ← suc-mul) one in
    rw (encode_sections t, in_section (sections t) j k (i * w) w h e (rw g fits), g) (flat_part f w l i d wide (omega arith))

module _ (t : Tables) (typed : Typed t) (i : ℕ) where
  process_part : (d : Process) → i < 32 → part (encode t) (processes_at + i * 8) 8 ≡ process_bytes (get_or t.processes i d)
  process_part d h =
      entry_part t process_bytes t.processes 2 processes_at 32 8 i d (omega arith) (begins t typed).0 refl (process_wide t.processes) typed.processes_long h

  structure_part : (d : Structure) → i < 24 → part (encode t) (structures_at + i * 3) 3 ≡ structure_bytes (get_or t.structures i d)
  structure_part d h =
      entry_part t structure_bytes t.structures 3 structures_at 24 3 i d (omega arith) (begins t typed).1 refl (structure_wide t.structures) typed.structures_long h

  bay_part : (d : Ring) → i < 8 → part (encode t) (bays_at + i * 6) 6 ≡ bay_bytes (get_or t.rings i d)
  bay_part d h =
      entry_part t bay_bytes t.rings 4 bays_at 8 6 i d (omega arith) (begins t typed).2 refl (bay_wide t.rings) typed.rings_long h

  holding_part : (d : Parcel) → i < 32 → part (encode t) (holdings_at + i * 2) 2 ≡ holding_bytes (get_or t.parcels i d)
  holding_part d h =
      entry_part t holding_bytes t.parcels 5 holdings_at 32 2 i d (omega arith) (begins t typed).3 refl (holding_wide t.parcels) typed.parcels_long h

  ring_part : (d : Ring) → i < 8 → part (encode t) (ring_bytes_at + i * 256) 256 ≡ ring_bytes (get_or t.rings i d)
  ring_part d h =
      entry_part t ring_bytes t.rings 6 ring_bytes_at 8 256 i d (omega arith) (begins t typed).4 refl (ring_wide t.rings typed.rings_range) typed.rings_long h

  parcel_part : (d : Parcel) → i < 32 → part (encode t) (parcel_bytes_at + i * 64) 64 ≡ parcel_bytes (get_or t.parcels i d)
  parcel_part d h =
      entry_part t parcel_bytes t.parcels 7 parcel_bytes_at 32 64 i d (omega arith) (begins t typed).5 refl (parcel_wide t.parcels typed.parcels_range) typed.parcels_long h

module _ (t : Tables) (typed : Typed t) where
  order_part : part (encode t) order_at 32 ≡ t.order
  unfolding flat
  order_part =
      rw (encode_sections t, in_section (sections t) 1 1 0 32 (omega arith) refl (omega (arith, typed.order_long))) (part_whole t.order 32 typed.order_long)

  running_part : get_or (encode t) 0 0 ≡ t.running
  unfolding flat
  running_part = rw encode_sections

-- ---- an entry's bytes read back

flag_back : (b : Bool) → eqb (flag b) 1 ≡ b
flag_back true = refl
flag_back false = refl

place_back : (x : Place) → PlaceTyped x → place_of (code x) (spot x) (number (low_first 4 (amount x))) ≡ x
unfolding place_of
place_back Nowhere h = refl
place_back Running h = refl
place_back Ready h = refl
place_back Parked h = refl
place_back (Waiting n) h = refl
place_back (Getting n k) h =
    let low : k % 256 ≡ k = omega arith in
    rw (number_low_first 4 k (omega arith), low)
place_back (Putting n k) h =
    let low : k % 256 ≡ k = omega arith in
    rw (number_low_first 4 k (omega arith), low)
place_back (Asleep k) h = rw (number_low_first 4 k h)

process_back : (p : Process) → ProcessTyped p → process_from (process_bytes p) ≡ p
unfolding process_from process_bytes
process_back p h = rw (flag_back p.suspended, place_back p.place h.place_range)

kind_back : (x : Kind) → KindTyped x → kind_of (kind_number x) (number (low_first 2 (value_of x))) ≡ x
unfolding kind_of
kind_back kinds.Free h = refl
kind_back (kinds.Binary v) h =
    let low : v % 256 ≡ v = omega arith in
    rw (number_low_first 2 v (omega arith), low)
kind_back (kinds.Counting v) h = rw (number_low_first 2 v h)
kind_back (kinds.Ring b) h =
    let low : b % 256 ≡ b = omega arith in
    rw (number_low_first 2 b (omega arith), low)

structure_back : (x : Structure) → StructureTyped x → structure_from (structure_bytes x) ≡ x
unfolding structure_from structure_bytes
structure_back x h = rw (kind_back x.kind h.kind_range)

bay_back : (r : Ring) → RingTyped r → bay_from (bay_bytes r) (ring_bytes r) ≡ r
unfolding bay_from bay_bytes part low_first
bay_back r h =
    rw (number_low_first 2 r.start h.start_range, number_low_first 2 r.size h.size_range, number_low_first 2 r.held h.held_range)

holding_back : (x : Option ℕ) → holding_of (holding_flag x) (holding_length x) ≡ x
unfolding holding_of
holding_back None = refl
holding_back (Some l) = refl

parcel_back : (p : Parcel) → parcel_from (holding_bytes p) (parcel_bytes p) ≡ p
unfolding parcel_from holding_bytes
parcel_back p = rw (holding_back p.holds)

-- ---- what was written reads back

module _ (t : Tables) (typed : Typed t) where
  processes_back : entries 32 (process_in (encode t)) ≡ t.processes
  unfolding process_in
  processes_back =
      entries_are _ 32 t.processes nobody typed.processes_long
      (λ i h. rw (process_part t typed i nobody h) (process_back _ (every_at ProcessTyped t.processes i nobody typed.processes_range (omega (arith, typed.processes_long)))))

  structures_back : entries 24 (structure_in (encode t)) ≡ t.structures
  unfolding structure_in
  structures_back =
      entries_are _ 24 t.structures nothing typed.structures_long
      (λ i h. rw (structure_part t typed i nothing h) (structure_back _ (every_at StructureTyped t.structures i nothing typed.structures_range (omega (arith, typed.structures_long)))))

  rings_back : entries 8 (bay_in (encode t)) ≡ t.rings
  unfolding bay_in
  rings_back =
      entries_are _ 8 t.rings empty_bay typed.rings_long
      (λ i h. rw (bay_part t typed i empty_bay h, ring_part t typed i empty_bay h) (bay_back _ (every_at RingTyped t.rings i empty_bay typed.rings_range (omega (arith, typed.rings_long)))))

  parcels_back : entries 32 (parcel_in (encode t)) ≡ t.parcels
  unfolding parcel_in
  parcels_back =
      entries_are _ 32 t.parcels empty_parcel typed.parcels_long
      (λ i h. rw (holding_part t typed i empty_parcel h, parcel_part t typed i empty_parcel h) (parcel_back _))

  -- Reading what was written gives the same tables,
  pub decode_encode : decode (encode t) ≡ t
  unfolding decode tables_of
  decode_encode =
      rw (eq-eqb (length (encode t)) state_length (length_encode t typed), running_part t typed, order_part t typed, processes_back, structures_back, rings_back, parcels_back)

-- so two tables with the same bytes are one
pub same_tables : (t u : Tables) → Typed t → Typed u → encode t ≡ encode u → t ≡ u
same_tables t u a b e = sym (decode_encode t a) ∙ ap decode e ∙ decode_encode u b

-- ---- which bytes are a state

-- The test holds of bytes that, read and written again, are the same,
pub is_state_true : (s : List ℕ) → is_state s ≡ true → encode (decode s) ≡ s
unfolding is_state
is_state_true s e = same_true (encode (decode s)) s e

-- and so it holds of every tables' bytes:
pub encode_is_state : (t : Tables) → Typed t → is_state (encode t) ≡ true
unfolding is_state
encode_is_state t typed = rw (decode_encode t typed) (same_refl (encode t))

-- where it fails, no tables have those bytes
pub is_state_false : (s : List ℕ) → is_state s ≡ false → (t : Tables) → Typed t → encode t ≡ s → ⊥
is_state_false s e t typed g = true≢false (sym (encode_is_state t typed) ∙ ap is_state g ∙ e)

-- ---- whatever bytes are read, the tables are in range

place_typed : (c n k : ℕ) → n < 256 → k < 256 ^ 4 → PlaceTyped (place_of c n k)
unfolding place_of
place_typed c n k h g =
    pick PlaceTyped (eqb c 1) tt
    (pick PlaceTyped (eqb c 2) tt
    (pick PlaceTyped (eqb c 3) tt
    (pick PlaceTyped (eqb c 4) h
    (pick PlaceTyped (eqb c 5) (h, omega arith)
    (pick PlaceTyped (eqb c 6) (h, omega arith)
    (pick PlaceTyped (eqb c 7) g tt))))))

kind_typed : (k v : ℕ) → v < 256 ^ 2 → KindTyped (kind_of k v)
unfolding kind_of
kind_typed k v h = pick KindTyped (eqb k 1) (omega arith) (pick KindTyped (eqb k 2) h (pick KindTyped (eqb k 3) (omega arith) tt))

holding_typed : (k l : ℕ) → l < 256 → HoldingTyped (holding_of k l)
unfolding holding_of
holding_typed k l h = pick HoldingTyped (eqb k 1) h tt

module _ (s : List ℕ) (bytes : Bytes s) where
  bytes_part : (at n : ℕ) → Bytes (part s at n)
  unfolding part
  bytes_part at n = bytes_take n (drop at s) (bytes_drop at s bytes)

  number_part : (at n : ℕ) → at + n ≤ length s → number (part s at n) < 256 ^ n
  number_part at n h = rw (length_part s at n h) at (number_range (part s at n) (bytes_part at n))

-- Pieces of such bytes
process_from_typed : (b : List ℕ) → length b ≡ 8 → Bytes b → ProcessTyped (process_from b)
unfolding process_from
process_from_typed b h y =
    let four : length (drop 4 b) ≡ 4 = rw length-drop (omega arith) in
    record { priority_range = y 0; place_range = place_typed (get_or b 2 0) (get_or b 3 0) (number (drop 4 b)) (y 3) (rw four at (number_range (drop 4 b) (bytes_drop 4 b y))) }

structure_from_typed : (b : List ℕ) → length b ≡ 3 → Bytes b → StructureTyped (structure_from b)
unfolding structure_from
structure_from_typed b h y =
    let two : length (drop 1 b) ≡ 2 = rw length-drop (omega arith) in
    record { kind_range = kind_typed (get_or b 0 0) (number (drop 1 b)) (rw two at (number_range (drop 1 b) (bytes_drop 1 b y))) }

bay_from_typed : (b l : List ℕ) → length b ≡ 6 → Bytes b → length l ≡ 256 → Bytes l → RingTyped (bay_from b l)
unfolding bay_from
bay_from_typed b l h y k z =
    record {
      room = k;
      bytes_range = z;
      start_range = number_part b y 0 2 (omega arith);
      size_range = number_part b y 2 2 (omega arith);
      held_range = number_part b y 4 2 (omega arith);
    }

parcel_from_typed : (b l : List ℕ) → Bytes b → length l ≡ 64 → Bytes l → ParcelTyped (parcel_from b l)
unfolding parcel_from
parcel_from_typed b l y k z = record { room = k; bytes_range = z; holds_range = holding_typed (get_or b 0 0) (get_or b 1 0) (y 1) }

module _ (s : List ℕ) (long : length s ≡ state_length) (bytes : Bytes s) where
  tables_typed : Typed (tables_of s)
  unfolding tables_of process_in structure_in bay_in parcel_in
  tables_typed =
      record {
        running_range = bytes 0;
        order_long = length_part s order_at 32 (omega arith);
        order_range = bytes_part s bytes order_at 32;
        processes_long = length_entries (process_in s) 32;
        processes_range = every_entry (process_in s) ProcessTyped 32 (λ i h. process_from_typed _ (length_part s (processes_at + i * 8) 8 (omega arith)) (bytes_part s bytes (processes_at + i * 8) 8));
        structures_long = length_entries (structure_in s) 24;
        structures_range = every_entry (structure_in s) StructureTyped 24 (λ i h. structure_from_typed _ (length_part s (structures_at + i * 3) 3 (omega arith)) (bytes_part s bytes (structures_at + i * 3) 3));
        rings_long = length_entries (bay_in s) 8;
        rings_range = every_entry (bay_in s) RingTyped 8 (λ i h. bay_from_typed _ _ (length_part s (bays_at + i * 6) 6 (omega arith)) (bytes_part s bytes (bays_at + i * 6) 6) (length_part s (ring_bytes_at + i * 256) 256 (omega arith)) (bytes_part s bytes (ring_bytes_at + i * 256) 256));
        parcels_long = length_entries (parcel_in s) 32;
        parcels_range = every_entry (parcel_in s) ParcelTyped 32 (λ i h. parcel_from_typed _ _ (bytes_part s bytes (holdings_at + i * 2) 2) (length_part s (parcel_bytes_at + i * 64) 64 (omega arith)) (bytes_part s bytes (parcel_bytes_at + i * 64) 64));
      }

-- Eight parts, each with a part that is the same
together : {a b c d e f g h a' b' c' d' e' f' g' h' : List ℕ} → a ≡ a' → b ≡ b' → c ≡ c' → d ≡ d' → e ≡ e' → f ≡ f' → g ≡ g' → h ≡ h' → a ++ b ++ c ++ d ++ (e ++ f ++ g ++ h) ≡ a' ++ b' ++ c' ++ d' ++ (e' ++ f' ++ g' ++ h')
together p q r s t u v w = λ i. p i ++ q i ++ r i ++ s i ++ (t i ++ u i ++ v i ++ w i)

-- ---- fresh tables are all zero bytes

every_replicate : {A : Type 0} (P : A → Type 0) (x : A) → P x → (n : ℕ) → Every P (replicate n x)
every_replicate P x p zero = tt
every_replicate P x p (suc n) = (p, every_replicate P x p n)

pub bytes_zeros : (n : ℕ) → Bytes (replicate n 0)
bytes_zeros zero i = omega arith
bytes_zeros (suc n) zero = omega arith
bytes_zeros (suc n) (suc i) = bytes_zeros n i

bay_empty : RingTyped empty_bay
unfolding empty_bay zeros
bay_empty = record { room = length-replicate {A = ℕ} 256 0; bytes_range = bytes_zeros 256; start_range = omega arith; size_range = omega arith; held_range = omega arith }

parcel_empty : ParcelTyped empty_parcel
unfolding empty_parcel zeros
parcel_empty = record { room = length-replicate {A = ℕ} 64 0; bytes_range = bytes_zeros 64; holds_range = tt }

pub fresh_typed : Typed fresh
unfolding fresh
fresh_typed =
    record {
      running_range = omega arith;
      order_long = length-replicate {A = ℕ} 32 0;
      order_range = bytes_zeros 32;
      processes_long = length-replicate 32 nobody;
      processes_range = every_replicate ProcessTyped nobody (record { priority_range = omega arith; place_range = tt }) 32;
      structures_long = length-replicate 24 nothing;
      structures_range = every_replicate StructureTyped nothing (record { kind_range = tt }) 24;
      rings_long = length-replicate 8 empty_bay;
      rings_range = every_replicate RingTyped empty_bay bay_empty 8;
      parcels_long = length-replicate 32 empty_parcel;
      parcels_range = every_replicate ParcelTyped empty_parcel parcel_empty 32;
    }

-- Whatever bytes are read, the tables are in range
pub decode_typed : (s : List ℕ) → Bytes s → Typed (decode s)
unfolding decode
decode_typed s bytes =
    elim (test (eqb (length s) state_length)) [
      | holds e ↦ rw e (tables_typed s (eqb-true (length s) state_length e) bytes)
      | fails e ↦ rw e fresh_typed
    ]

no_zeros : [] ≡ zeros 0
unfolding zeros
no_zeros = refl

zeros_join : (n m : ℕ) → zeros n ++ zeros m ≡ zeros (n + m)
unfolding zeros
zeros_join n m = replicate-append-replicate n m 0

flat_zeros : {A : Type 0} (f : A → List ℕ) (x : A) (w : ℕ) → f x ≡ zeros w → (n : ℕ) → flat f (replicate n x) ≡ zeros (n * w)
unfolding flat
flat_zeros f x w e zero = rw zero-mul no_zeros
flat_zeros f x w e (suc n) =
    let k : w + n * w ≡ suc n * w = rw suc-mul (omega arith) in
    rw (e, flat_zeros f x w e n, zeros_join, k)

process_zeros : process_bytes nobody ≡ zeros 8
unfolding process_bytes low_first zeros
process_zeros = refl

structure_zeros : structure_bytes nothing ≡ zeros 3
unfolding structure_bytes low_first zeros
structure_zeros = refl

bay_zeros : bay_bytes empty_bay ≡ zeros 6
unfolding bay_bytes empty_bay low_first zeros
bay_zeros = refl

holding_zeros : holding_bytes empty_parcel ≡ zeros 2
unfolding holding_bytes empty_parcel zeros
holding_zeros = refl

ring_zeros : ring_bytes empty_bay ≡ zeros 256
unfolding empty_bay
ring_zeros = refl

parcel_zeros : parcel_bytes empty_parcel ≡ zeros 64
unfolding empty_parcel
parcel_zeros = refl

running_zeros : 0 ∷ [] ≡ zeros 1
unfolding zeros
running_zeros = refl

order_zeros : replicate 32 0 ≡ zeros 32
unfolding zeros
order_zeros = refl

zeros_together : zeros 1 ++ zeros 32 ++ zeros 256 ++ zeros 72 ++ (zeros 48 ++ zeros 64 ++ zeros 2048 ++ zeros 2048) ≡ zeros state_length
zeros_together = simp zeros_join

pub encode_fresh : encode fresh ≡ zeros state_length
unfolding encode control_bytes held_bytes fresh
encode_fresh =
    together running_zeros order_zeros (flat_zeros process_bytes nobody 8 process_zeros 32) (flat_zeros structure_bytes nothing 3 structure_zeros 24) (flat_zeros bay_bytes empty_bay 6 bay_zeros 8)
    (flat_zeros holding_bytes empty_parcel 2 holding_zeros 32) (flat_zeros ring_bytes empty_bay 256 ring_zeros 8) (flat_zeros parcel_bytes empty_parcel 64 parcel_zeros 32)
    ∙ zeros_together

-- ---- the test compares only what reading could lose

-- The same bytes are the same
same_of : {a b : List ℕ} → a ≡ b → same a b ≡ true
same_of {a} {b} e = rw e (same_refl b)

-- Two tests that follow from each other have one answer
agree : (a b : Bool) → (a ≡ true → b ≡ true) → (b ≡ true → a ≡ true) → a ≡ b
agree true b f g = sym (f refl)
agree false true f g = g refl
agree false false f g = refl

and-true : (a b : Bool) → a && b ≡ true → (a ≡ true) × (b ≡ true)
and-true true b e = (refl, e)
and-true false b e = absurd (true≢false (sym e))

-- The numbers of a bay read one to one
bay_kept : (b l : List ℕ) → length b ≡ 6 → Bytes b → bay_bytes (bay_from b l) ≡ b
unfolding bay_bytes bay_from
bay_kept b l h y =
    rw (two 0 (omega arith), two 2 (omega arith), two 4 (omega arith), part_join b 0 2 2, part_join b 0 4 2) (part_whole b 6 h)
  where
    two : (at : ℕ) → at + 2 ≤ 6 → low_first 2 (number (part b at 2)) ≡ part b at 2
    two at k = rw (length_part b at 2 (omega arith)) at (low_first_number (part b at 2) (bytes_part b y at 2))

-- Reading loses nothing of the processes, the structures, and what the parcels hold
abbrev pub kept : List ℕ → Bool
kept s = processes_kept s && structures_kept s && holdings_kept s

module _ (s : List ℕ) (long : length s ≡ state_length) (bytes : Bytes s) where
  decode_long : decode s ≡ tables_of s
  unfolding decode
  decode_long = rw (eq-eqb (length s) state_length long)

  -- The parts together are all bytes
  all_parts : part s 0 1 ++ part s 1 32 ++ part s 33 256 ++ part s 289 72 ++ (part s 361 48 ++ part s 409 64 ++ part s 473 2048 ++ part s 2521 2048) ≡ s
  all_parts =
      rw (part_join s 0 1 32, part_join s 0 33 256, part_join s 0 289 72, part_join s 361 48 64, part_join s 361 112 2048, part_join s 361 2160 2048, part_join s 0 361 4208)
      (part_whole s state_length long)

  running_kept : get_or s 0 0 ∷ [] ≡ part s 0 1
  unfolding entries
  running_kept = rw (part_bytes s 0 1 (omega arith))

  processes_kept_lem : processes_kept s ≡ true → flat process_bytes (entries 32 (process_in s)) ≡ part s processes_at 256
  unfolding process_in process_kept
  processes_kept_lem k = flat_entries (process_in s) process_bytes s processes_at 8 32 (λ i h. same_true _ _ (all_to_each 32 _ k i h))

  structures_kept_lem : structures_kept s ≡ true → flat structure_bytes (entries 24 (structure_in s)) ≡ part s structures_at 72
  unfolding structure_in structure_kept
  structures_kept_lem k = flat_entries (structure_in s) structure_bytes s structures_at 3 24 (λ i h. same_true _ _ (all_to_each 24 _ k i h))

  bays_kept : flat bay_bytes (entries 8 (bay_in s)) ≡ part s bays_at 48
  unfolding bay_in
  bays_kept = flat_entries (bay_in s) bay_bytes s bays_at 6 8 (λ i h. bay_kept (part s (bays_at + i * 6) 6) (part s (ring_bytes_at + i * 256) 256) (length_part s (bays_at + i * 6) 6 (omega arith)) (bytes_part s bytes (bays_at + i * 6) 6))

  holdings_kept_lem : holdings_kept s ≡ true → flat holding_bytes (entries 32 (parcel_in s)) ≡ part s holdings_at 64
  unfolding parcel_in holding_kept holding_bytes parcel_from
  holdings_kept_lem k = flat_entries (parcel_in s) holding_bytes s holdings_at 2 32 (λ i h. same_true _ _ (all_to_each 32 _ k i h))

  rings_kept : flat ring_bytes (entries 8 (bay_in s)) ≡ part s ring_bytes_at 2048
  unfolding bay_in bay_from
  rings_kept = flat_entries (bay_in s) ring_bytes s ring_bytes_at 256 8 (λ i h. refl)

  parcels_kept : flat parcel_bytes (entries 32 (parcel_in s)) ≡ part s parcel_bytes_at 2048
  unfolding parcel_in parcel_from
  parcels_kept = flat_entries (parcel_in s) parcel_bytes s parcel_bytes_at 64 32 (λ i h. refl)

  -- Where the three tests hold, the bytes are those of the tables,
  kept_same : kept s ≡ true → encode (tables_of s) ≡ s
  unfolding encode control_bytes held_bytes tables_of
  kept_same e =
      let both : (processes_kept s && structures_kept s ≡ true) × (holdings_kept s ≡ true) = and-true _ _ e in
      let each : (processes_kept s ≡ true) × (structures_kept s ≡ true) = and-true _ _ both.0 in
      together running_kept refl (processes_kept_lem each.0) (structures_kept_lem each.1) bays_kept (holdings_kept_lem both.1) rings_kept parcels_kept ∙ all_parts

  -- and the other way
  module _ (e : encode (tables_of s) ≡ s) (i : ℕ) where
    process_same : i < 32 → process_kept (part s (processes_at + i * 8) 8) ≡ true
    unfolding process_kept tables_of process_in
    process_same h = same_of (sym (rw (e, get_d_entries (process_in s) 32 i nobody h) at (process_part (tables_of s) (tables_typed s long bytes) i nobody h)))

    structure_same : i < 24 → structure_kept (part s (structures_at + i * 3) 3) ≡ true
    unfolding structure_kept tables_of structure_in
    structure_same h = same_of (sym (rw (e, get_d_entries (structure_in s) 24 i nothing h) at (structure_part (tables_of s) (tables_typed s long bytes) i nothing h)))

    holding_same : i < 32 → holding_kept (part s (holdings_at + i * 2) 2) ≡ true
    unfolding holding_kept tables_of parcel_in holding_bytes parcel_from
    holding_same h = same_of (sym (rw (e, get_d_entries (parcel_in s) 32 i empty_parcel h) at (holding_part (tables_of s) (tables_typed s long bytes) i empty_parcel h)))

  same_kept : encode (tables_of s) ≡ s → kept s ≡ true
  same_kept e = rw (each_all_to 32 _ (process_same e), each_all_to 24 _ (structure_same e)) (each_all_to 32 _ (holding_same e))

  -- So they are the test of the whole
  pub is_state_kept : is_state s ≡ kept s
  unfolding is_state
  is_state_kept =
      rw decode_long
      (agree (same (encode (tables_of s)) s) (kept s) (λ e. same_kept (same_true _ _ e)) (λ e. same_of (kept_same e)))

-- Bytes of another length read as fresh tables, and are no state
pub decode_short : (s : List ℕ) → (length s ≡ state_length → ⊥) → decode s ≡ fresh
unfolding decode
decode_short s h = rw (ne_eqb (length s) state_length h)

pub is_state_short : (s : List ℕ) → (length s ≡ state_length → ⊥) → is_state s ≡ false
is_state_short s h =
    elim (test (is_state s)) [
      | holds e ↦ absurd (h (sym (ap length (is_state_true s e)) ∙ rw (decode_short s h) (length_encode fresh fresh_typed)))
      | fails e ↦ e
    ]

-- ---- a state with one part written to it, and the other

module _ (t u : Tables) (typed : Typed t) where
  -- The second part stays
  control_over : control_to (encode t) u.running u.order u.processes u.structures ≡ control u ++ held t
  unfolding control_to
  control_over = rw (eq-eqb (length (encode t)) state_length (length_encode t typed), held_behind t typed)

  -- So the control part is all to write where the bays and the parcels hold what they held,
  pub control_written : u.rings ≡ t.rings → u.parcels ≡ t.parcels → control_to (encode t) u.running u.order u.processes u.structures ≡ encode u
  unfolding encode
  control_written r p = rw (r, p) control_over

  -- and both parts are all in any case
  pub all_written : length u.order ≡ 32 → length u.processes ≡ 32 → length u.structures ≡ 24 → bytes_to (control_to (encode t) u.running u.order u.processes u.structures) u.rings u.parcels ≡ encode u
  unfolding bytes_to encode
  all_written o p x =
      let front : length (control u) ≡ bays_at = control_size u o p x in
      let long : length (control u ++ held t) ≡ state_length = rw (length-append, front, ← held_behind t typed, length-drop, length_encode t typed) in
      rw (control_over, eq-eqb (length (control u ++ held t)) state_length long, take_at (control u) (held t) bays_at front)
