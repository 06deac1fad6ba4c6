-- Any list of byte strings put to a fresh state: its states and replies, defined once, by the kernel's step. All that is promised of a run speaks of it.
use Rattle.std.specs.Prelude.{ℕ, ◌≡◌, cond, List, [], ◌∷◌, map, eqb, length, drop}
use Rattle.std.proofs.Common.{sym, subst, length-take-le, arith, eq-eqb, ne_eqb, eqb-true, length-drop}
use Rattle.std.proofs.lemmas.Bool.{eqb-false}
use Rattle.basics.specs.Tests.{test, holds, fails}
use Rattle.tables.specs.declared.Tables.{Tables}
use Rattle.tables.specs.Access.{fresh}
use Rattle.records.specs.declared.Record.{Record}
use Rattle.records.specs.Records.{record_length, record_of}
use Rattle.steps.specs.Steps.{After, refused, stepped}
use Rattle.promises.specs.Kept.{SoundTables, stepped_sound, fresh_sound}

-- What one byte string does: a request of 72 bytes is carried out; any other is answered 39, by the returned number alone, and changes nothing
unfoldable pub handled : Tables → List ℕ → After
handled t q = cond (eqb (length q) record_length) (stepped t (record_of q)) (refused 39 t)

-- The tables after one byte string
unfoldable pub after_bytes : Tables → List ℕ → Tables
after_bytes t q = (handled t q).tables

-- The tables after a list of byte strings, from these tables on
unfoldable pub after_all : Tables → List (List ℕ) → Tables
after_all t [] = t
after_all t (q ∷ l) = after_all (after_bytes t q) l

-- A run: any list of byte strings put to a fresh state
unfoldable pub run : List (List ℕ) → Tables
run l = after_all fresh l

-- ---- what a reader sees of a run

-- One request: the tables before it, the request, the reply, and the tables after it
pub record Event : Type 0 where
  pub before : Tables
  pub request : Record
  pub reply : Record
  pub after : Tables

abbrev pub event : Tables → List ℕ → Event
event t q = record { before = t; request = record_of q; reply = (handled t q).reply; after = after_bytes t q }

-- The requests of a list, one after the other, from these tables on
unfoldable pub events : Tables → List (List ℕ) → List Event
events t [] = []
events t (q ∷ l) = event t q ∷ events (after_bytes t q) l

-- The codes that they are answered
unfoldable pub codes_of : Tables → List (List ℕ) → List ℕ
codes_of t l = map (λ (e : Event). e.reply.what) (events t l)

-- What is counted over them: c so far, and each request adds its part
unfoldable pub counted : {C : Type 0} → (C → Event → C) → C → List Event → C
counted f c [] = c
counted f c (e ∷ l) = counted f (f c e) l

-- ---- every state of a run is sound

pub data_long : (q : List ℕ) → length q ≡ record_length → length (record_of q).bytes ≡ 64
unfolding record_of
data_long q h = length-take-le 64 (drop 8 q) (omega (arith, length-drop 8 q))

-- A request of 72 bytes is carried out, and any other is not
pub handled_request : (t : Tables) (q : List ℕ) → length q ≡ record_length → handled t q ≡ stepped t (record_of q)
unfolding handled
handled_request t q h = rw (eq-eqb (length q) record_length h)

pub handled_rubbish : (t : Tables) (q : List ℕ) → (length q ≡ record_length → ⊥) → handled t q ≡ refused 39 t
unfolding handled
handled_rubbish t q h = rw (ne_eqb (length q) record_length h)

-- One byte string, request or rubbish, leaves sound tables sound
pub bytes_sound : (t : Tables) (q : List ℕ) → SoundTables t → SoundTables (after_bytes t q)
unfolding after_bytes refused
bytes_sound t q sound =
    elim (test (eqb (length q) record_length)) [
      | holds e ↦
          (let long = eqb-true (length q) record_length e in
          subst (λ (a : After). SoundTables a.tables) (sym (handled_request t q long)) (stepped_sound t (record_of q) (data_long q long) sound))
      | fails e ↦ subst (λ (a : After). SoundTables a.tables) (sym (handled_rubbish t q (eqb-false (length q) record_length e))) sound
    ]

-- A sound state stays sound, however the requests go
pub all_sound : (t : Tables) (l : List (List ℕ)) → SoundTables t → SoundTables (after_all t l)
unfolding after_all
all_sound t [] sound = sound
all_sound t (q ∷ l) sound = all_sound (after_bytes t q) l (bytes_sound t q sound)

-- From a fresh start every state is sound
pub run_sound : (l : List (List ℕ)) → SoundTables (run l)
unfolding run
run_sound l = all_sound fresh l fresh_sound

-- What each request keeps, of sound tables and what is counted, holds over any list: the one induction that every promise uses
pub over_events : {C : Type 0} (f : C → Event → C) (Kept : Tables → C → Type 0)
    → ((t : Tables) (q : List ℕ) (c : C) → SoundTables t → Kept t c → Kept (after_bytes t q) (f c (event t q)))
    → (t : Tables) (l : List (List ℕ)) (c : C) → SoundTables t → Kept t c → Kept (after_all t l) (counted f c (events t l))
unfolding after_all events counted
over_events f Kept step t [] c sound kept = kept
over_events f Kept step t (q ∷ l) c sound kept =
    over_events f Kept step (after_bytes t q) l (f c (event t q)) (bytes_sound t q sound) (step t q c sound kept)
