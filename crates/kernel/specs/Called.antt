-- What a call does to the three lent buffers, in document 01's words: a case for each outcome.
use Rattle.std.specs.Prelude.{ℕ, ◌≡◌, cond, List, eqb, length, replicate}
use Rattle.tables.specs.declared.Tables.{Tables}
use Rattle.records.specs.declared.Record.{Record}
use Rattle.records.specs.Records.{record_length, record_of, bytes_of, reply}
use Rattle.refusals.specs.Refusals.{refusal}
use Rattle.steps.specs.Steps.{stepped}
use Rattle.layout.specs.Typed.{Typed}
use Rattle.layout.specs.Layout.{state_length, encode}
use Rattle.sound.specs.Sound.{Sound}

-- The bytes s are the sound state t
pub record Holds (s : List ℕ) (t : Tables) : Type 0 where
  pub typed : Typed t
  pub bytes : encode t ≡ s
  pub sound : Sound t

-- Request and reply buffer are exactly 72 bytes
pub record Lengths (q p : List ℕ) : Type 0 where
  pub request : length q ≡ record_length
  pub answer : length p ≡ record_length

-- The reply to a refusal: the code, the running process, and zeros
abbrev pub refusal_reply : ℕ → ℕ → Record
refusal_reply code running = reply code running 0 0 0 (replicate 64 0)

-- State s, request q and reply buffer p go in; the code, state s' and reply buffer p' come out
pub data Called (s q p : List ℕ) (code : ℕ) (s' p' : List ℕ) : Type 0 where
  -- 39: request or reply buffer not exactly 72 bytes; the code is only the returned number and the reply buffer keeps its bytes
  length_wrong : (Lengths q p → ⊥) → code ≡ 39 → s' ≡ s → p' ≡ p → Called s q p code s' p'
  -- 40: state of the wrong length or not sound; the running byte is 0 as well
  not_sound : Lengths q p → ((t : Tables) → Holds s t → ⊥) → code ≡ 40 → s' ≡ s → p' ≡ bytes_of (refusal_reply 40 0) → Called s q p code s' p'
  -- A refusal leaves the state unchanged. The reply is the code, the running process, and zeros
  refused : Lengths q p → (t : Tables) → Holds s t → (refusal t (record_of q) ≡ 0 → ⊥)
      → code ≡ refusal t (record_of q) → s' ≡ s → p' ≡ bytes_of (refusal_reply (refusal t (record_of q)) t.running) → Called s q p code s' p'
  -- Else state and reply are the step's
  done : Lengths q p → (t : Tables) → Holds s t → refusal t (record_of q) ≡ 0
      → code ≡ (stepped t (record_of q)).reply.what → s' ≡ encode (stepped t (record_of q)).tables → p' ≡ bytes_of (stepped t (record_of q)).reply
      → Called s q p code s' p'

-- Making a fresh state in a lent buffer returns 0; of the wrong length, 40, and nothing changes
unfoldable pub fresh_code : List ℕ → ℕ
fresh_code s = cond (eqb (length s) state_length) 0 40

unfoldable pub fresh_state : List ℕ → List ℕ
fresh_state s = cond (eqb (length s) state_length) (replicate state_length 0) s
