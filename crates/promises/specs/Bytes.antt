-- Demand 1, whole, of one call on any bytes; and over a list of calls the bytes are those of the tables.
use Rattle.std.specs.Prelude.{ℕ, ◌<◌, ◌≤◌, ◌≡◌, Bool, List, [], ◌∷◌, eqb, length}
use Rattle.std.proofs.Math.Path.{refl, sym, ap, subst}
use Rattle.std.proofs.Common.{◌∙◌, arith, eq-eqb, ne_eqb, eqb-true}
use Rattle.std.proofs.Math.Bool.{true, false, true≢false}
use Rattle.std.proofs.lemmas.Bool.{eqb-false}
use Rattle.basics.specs.Tests.{test, holds, fails}
use Rattle.arrivals.specs.Order.{has}
use Rattle.arrivals.specs.Listed.{has_behind}
use Rattle.tables.specs.declared.Tables.{Tables}
use Rattle.tables.specs.Access.{fresh}
use Rattle.bay.specs.Bay.{zeros}
use Rattle.answers.specs.declared.Outcome.{Outcome}
use Rattle.answers.specs.declared.Outcome.TheVariants.{Done, No, Waits}
use Rattle.answers.specs.Answers.{outcome_number}
use Rattle.calls.specs.Calls.{row_of}
use Rattle.records.specs.declared.Record.{Record}
use Rattle.records.specs.Records.{record_length, record_of, bytes_of, written_to, Bytes}
use Rattle.records.specs.Laws.{record_proper}
use Rattle.refusals.specs.Refusals.{first_that, codes, applies, refusal}
use Rattle.refusals.specs.Laws.{given_applies, none_applies, lowest as lowest_of, lowest_refusal}
use Rattle.steps.specs.Steps.{After, done as deed_done, replied, replied_by, refused as refused_step, stepped_by, stepped}
use Rattle.layout.specs.Typed.{Typed, Every}
use Rattle.layout.specs.Layout.{state_length, encode, decode, is_state}
use Rattle.layout.specs.Laws.{fresh_typed, encode_fresh}
use Rattle.sound.specs.Tested.{sound_b}
use Rattle.kernel.specs.Called.{Holds, Lengths, refusal_reply, Called, length_wrong, not_sound, refused, done, fresh_state}
use Rattle.kernel.specs.Laws.{one_state}
use Rattle.kernel.proofs.Laws.{request_wrong, answer_wrong, no_state, no_sound, state_held, lists_long, refused_step_lem, done_code}
use Rattle.promises.specs.Kept.{SoundTables, stepped_sound, fresh_sound}
use Rattle.promises.specs.KeptTyped.{stepped_typed}
use Rattle.promises.specs.Run.{handled, handled_request, handled_rubbish, after_bytes, after_all, run, events, codes_of, bytes_sound}

-- ---- exactly one outcome: `one_outcome` says that there is no other

pub record Result (s q p : List ℕ) : Type 0 where
  pub code : ℕ
  pub state : List ℕ
  pub answer : List ℕ
  pub called : Called s q p code state answer

-- For every state, request and reply buffer there is an outcome
pub some_outcome : (s q p : List ℕ) → Bytes s → Result s q p
some_outcome s q p bytes =
    elim (test (eqb (length q) record_length)) [
      | fails e ↦ record { code = 39; state = s; answer = p; called = request_wrong s q p (eqb-false (length q) record_length e) }
      | holds e ↦
          elim (test (eqb (length p) record_length)) [
            | fails f ↦ record { code = 39; state = s; answer = p; called = answer_wrong s q p (eqb-false (length p) record_length f) }
            | holds f ↦
                (let ql = eqb-true (length q) record_length e in
                let pl = eqb-true (length p) record_length f in
                elim (test (is_state s)) [
                  | fails g ↦
                      record {
                        code = 40;
                        state = s;
                        answer = written_to p (refusal_reply 40 0);
                        called = no_state s q p ql pl {b = is_state s} refl (rw g refl) refl refl;
                      }
                  | holds g ↦ read_outcome s q p bytes ql pl g
                ])
          ]
    ]
  where
    -- The outcome where the bytes are a state
    read_outcome : (s q p : List ℕ) → Bytes s → length q ≡ record_length → length p ≡ record_length → is_state s ≡ true → Result s q p
    read_outcome s q p bytes ql pl g =
        elim (test (sound_b (decode s))) [
          | fails h ↦
              record {
                code = 40;
                state = s;
                answer = written_to p (refusal_reply 40 0);
                called = no_sound s q p ql pl bytes {b = is_state s} {d = sound_b (decode s)} refl (rw g refl) refl refl (rw h refl) refl refl;
              }
          | holds h ↦
              (let t = decode s in
              let lengths : Lengths q p = record { request = ql; answer = pl } in
              let held = state_held s q p ql pl bytes {b = is_state s} {d = sound_b t} refl (rw g refl) refl refl (rw h refl) in
              let after = stepped t (record_of q) in
              let refusing = refusal_reply (refusal t (record_of q)) t.running in
              elim (test (eqb (refusal t (record_of q)) 0)) [
                | holds i ↦
                    record {
                      code = after.reply.what;
                      state = encode after.tables;
                      answer = bytes_of after.reply;
                      called = done lengths t held (eqb-true _ 0 i) refl refl refl;
                    }
                | fails i ↦ record { code = refusing.what; state = s; answer = bytes_of refusing; called = refused lengths t held (eqb-false _ 0 i) refl refl refl }
              ])
        ]

-- ---- "the lowest number that applies is given, and none is given unless it applies"

-- A refusal applies to a call: 39 and 40 by the buffers, 41 to 53 by the state's tables
pub data Applies (s q p : List ℕ) (k : ℕ) : Type 0 where
  wrong_length : (Lengths q p → ⊥) → k ≡ 39 → Applies s q p k
  unsound : ((t : Tables) → Holds s t → ⊥) → k ≡ 40 → Applies s q p k
  listed : (t : Tables) → Holds s t → has k codes ≡ true → applies k t (record_of q) ≡ true → Applies s q p k

-- A returned number: the lowest that applies, or, where none does, 0, 1 or 2 as the step says
pub data Numbered (s q p : List ℕ) (code : ℕ) : Type 0 where
  lowest : Applies s q p code → ((k : ℕ) → Applies s q p k → code ≤ k) → Numbered s q p code
  step_says : ((k : ℕ) → Applies s q p k → ⊥) → (t : Tables) → Holds s t → code ≡ (stepped t (record_of q)).reply.what → code < 3 → Numbered s q p code

-- Every code of the list is above 40
code_above : (k : ℕ) → has k codes ≡ true → 40 < k
code_above k h = lowest_of (λ j. true) codes refl k h refl

-- A number given is in the list
given_listed : (f : ℕ → Bool) (l : List ℕ) → (first_that f l ≡ 0 → ⊥) → has (first_that f l) l ≡ true
given_listed f [] h = absurd (h refl)
given_listed f (k ∷ l) h =
    elim (test (f k)) [
      | holds e ↦ (let s : first_that f (k ∷ l) ≡ k = rw e in subst (λ x. has x (k ∷ l) ≡ true) (sym s) (rw (eq-eqb k k refl)))
      | fails e ↦
          let s : first_that f (k ∷ l) ≡ first_that f l = rw e in
          let behind : has (first_that f l) l ≡ true = given_listed f l (λ z. h (s ∙ z)) in
          subst (λ x. has x (k ∷ l) ≡ true) (sym s) (elim (test (eqb k (first_that f l))) [ holds q ↦ rw q | fails q ↦ rw q behind ])
    ]

module _ (s q p : List ℕ) where
  -- Where the tables of the state are known, only the list applies, and only to them
  only_listed : (t : Tables) → Lengths q p → Holds s t → (k : ℕ) → Applies s q p k → (has k codes ≡ true) × (applies k t (record_of q) ≡ true)
  only_listed t lengths held k (wrong_length w e) = absurd (w lengths)
  only_listed t lengths held k (unsound u e) = absurd (u t held)
  only_listed t lengths held k (listed v h m a) = (m, rw (one_state s t v held h) a)

  -- The returned number of every call is the one that document 01 gives
  pub code_numbered : {code : ℕ} {s' p' : List ℕ} → Called s q p code s' p' → Numbered s q p code
  code_numbered {code} (length_wrong w a b c) =
      lowest (wrong_length w a) (λ k x. least k x)
    where
      least : (k : ℕ) → Applies s q p k → code ≤ k
      least k (wrong_length v e) = omega (arith, a, e)
      least k (unsound u e) = omega (arith, a, e)
      least k (listed t h m g) = omega (arith, a, code_above k m)
  code_numbered {code} (not_sound l h a b c) =
      lowest (unsound h a) (λ k x. least k x)
    where
      least : (k : ℕ) → Applies s q p k → code ≤ k
      least k (wrong_length v e) = absurd (v l)
      least k (unsound u e) = omega (arith, a, e)
      least k (listed t i m g) = absurd (h t i)
  code_numbered {code} (refused l t h n a b c) =
      lowest (listed t h (rw a (given t n).0) (rw a (given t n).1)) (λ k x. rw a (lowest_refusal t (record_of q) k (only_listed t l h k x).0 (only_listed t l h k x).1))
    where
      given : (t : Tables) → (refusal t (record_of q) ≡ 0 → ⊥) → (has (refusal t (record_of q)) codes ≡ true) × (applies (refusal t (record_of q)) t (record_of q) ≡ true)
      given t n = unfold refusal in (given_listed (λ k. applies k t (record_of q)) codes n, given_applies (λ k. applies k t (record_of q)) codes n)
  code_numbered {code} (done l t h z a b c) =
      step_says (λ k x. true≢false (sym (only_listed t l h k x).1 ∙ none t z k (only_listed t l h k x).0)) t h a (rw a (done_code t (record_of q) z))
    where
      none : (t : Tables) → refusal t (record_of q) ≡ 0 → (k : ℕ) → has k codes ≡ true → applies k t (record_of q) ≡ false
      none t z k m = unfold refusal in none_applies (λ j. applies j t (record_of q)) codes refl z k m

  -- "A refusal leaves the state unchanged"
  pub refusal_changes_nothing : {code : ℕ} {s' p' : List ℕ} → Called s q p code s' p' → 39 ≤ code → s' ≡ s
  refusal_changes_nothing (length_wrong w a b c) h = b
  refusal_changes_nothing (not_sound l n a b c) h = b
  refusal_changes_nothing (refused l t i n a b c) h = b
  refusal_changes_nothing (done l t i z a b c) h = absurd (omega (arith, a, done_code t (record_of q) z))

-- ---- bytes and tables agree

-- What one call with a reply buffer of 72 bytes answers and leaves behind is what `handled` says of the tables
pub record Agrees (t : Tables) (q : List ℕ) (code : ℕ) (s' p' : List ℕ) : Type 0 where
  pub same_code : code ≡ (handled t q).reply.what
  pub same_state : s' ≡ encode (after_bytes t q)
  pub same_reply : length q ≡ record_length → p' ≡ bytes_of (handled t q).reply

module _ (t : Tables) (q p : List ℕ) (typed : Typed t) (sound : SoundTables t) (long : length p ≡ record_length) where
  held : Holds (encode t) t
  held = record { typed = typed; bytes = refl; sound = sound.sound }

  refused_tables : (r : Record) → (refusal t r ≡ 0 → ⊥) → (stepped t r).tables ≡ t
  unfolding stepped stepped_by refused_step
  refused_tables r n = rw (ne_eqb (refusal t r) 0 n)

  pub call_agrees : {code : ℕ} {s' p' : List ℕ} → Called (encode t) q p code s' p' → Agrees t q code s' p'
  unfolding after_bytes refused_step
  call_agrees (length_wrong w a b c) =
      let rubbish = handled_rubbish t q (λ h. w (record { request = h; answer = long })) in
      record { same_code = a ∙ sym (ap (λ x. x.reply.what) rubbish); same_state = b ∙ ap encode (sym (ap (λ x. x.tables) rubbish)); same_reply = λ h. absurd (w (record { request = h; answer = long })) }
  call_agrees (not_sound l n a b c) = absurd (n t held)
  call_agrees {code} {s'} {p'} (refused l u h n a b c) =
      let same = one_state (encode t) u t h held in
      let request = handled_request t q l.request in
      let n' : refusal t (record_of q) ≡ 0 → ⊥ = subst (λ x. refusal x (record_of q) ≡ 0 → ⊥) same n in
      let reply : (handled t q).reply ≡ refusal_reply (refusal t (record_of q)) t.running = ap (λ x. x.reply) request ∙ refused_step_lem t (record_of q) n' in
      record {
        same_code = a ∙ ap (λ x. refusal x (record_of q)) same ∙ sym (ap (λ x. x.what) reply);
        same_state = b ∙ ap encode (sym (ap (λ x. x.tables) request ∙ refused_tables (record_of q) n'));
        same_reply = λ i. c ∙ ap (λ x. bytes_of (refusal_reply (refusal x (record_of q)) x.running)) same ∙ sym (ap bytes_of reply);
      }
  call_agrees (done l u h z a b c) =
      let same = one_state (encode t) u t h held in
      let request = handled_request t q l.request in
      record {
        same_code = a ∙ ap (λ x. (stepped x (record_of q)).reply.what) same ∙ sym (ap (λ x. x.reply.what) request);
        same_state = b ∙ ap (λ x. encode (stepped x (record_of q)).tables) same ∙ sym (ap (λ x. encode x.tables) request);
        same_reply = λ i. c ∙ ap (λ x. bytes_of (stepped x (record_of q)).reply) same ∙ sym (ap (λ x. bytes_of x.reply) request);
      }

-- ---- a state that was accepted once is accepted ever after

-- The bytes are those of some sound tables: the state is accepted
pub record Accepted (s : List ℕ) : Type 0 where
  pub tables : Tables
  pub holds_them : Holds s tables

module _ (s q p : List ℕ) (bytes : Bytes q) where
  pub accepted_stays : {code : ℕ} {s' p' : List ℕ} → Accepted s → Called s q p code s' p' → Accepted s'
  accepted_stays a (length_wrong w c e f) = rw e a
  accepted_stays a (not_sound l n c e f) = absurd (n a.tables a.holds_them)
  accepted_stays a (refused l t h n c e f) = rw e a
  accepted_stays a (done l t h z c e f) =
      let before : SoundTables t = record { typed = lists_long t h.typed; sound = h.sound } in
      let proper = record_proper q l.request bytes in
      record {
        tables = (stepped t (record_of q)).tables;
        holds_them = record {
          typed = stepped_typed t (record_of q) proper h.typed before;
          bytes = sym e;
          sound = (stepped_sound t (record_of q) proper.long before).sound;
        };
      }

-- ---- over a list

-- The numbers returned for a list of requests, each with a reply buffer of 72 bytes, and the state in the end: by the contract alone
pub data Follows : List ℕ → List (List ℕ) → List ℕ → List ℕ → Type 0 where
  ended : (s : List ℕ) → Follows s [] [] s
  called : (s s' s'' q p p' : List ℕ) (code : ℕ) (l : List (List ℕ)) (returned : List ℕ)
      → length p ≡ record_length → Called s q p code s' p' → Follows s' l returned s'' → Follows s (q ∷ l) (code ∷ returned) s''

-- Every byte string of a list is made of bytes
abbrev pub AllBytes : List (List ℕ) → Type 0
AllBytes l = Every Bytes l

-- ---- the numbers of a run

-- Document 01's numbers but 40
abbrev pub numbers : List ℕ
numbers = 0 ∷ 1 ∷ 2 ∷ 39 ∷ codes

-- An outcome's number, and a refusal's, are among them
outcome_number_lem : (o : Outcome) → has (outcome_number o) numbers ≡ true
outcome_number_lem Done = refl
outcome_number_lem No = refl
outcome_number_lem Waits = refl

refusal_number : (k : ℕ) → has k codes ≡ true → has k numbers ≡ true
refusal_number k h = has_behind 0 k (1 ∷ 2 ∷ 39 ∷ codes) (has_behind 1 k (2 ∷ 39 ∷ codes) (has_behind 2 k (39 ∷ codes) (has_behind 39 k codes h)))

stepped_number : (t : Tables) (r : Record) → has (stepped t r).reply.what numbers ≡ true
unfolding stepped stepped_by refused_step replied replied_by
stepped_number t r =
    elim (test (eqb (refusal t r) 0)) [
      | holds e ↦ rw e (outcome_number_lem (deed_done (row_of r.what).deed r t).answer.outcome)
      | fails e ↦ rw e (refusal_number (refusal t r) (unfold refusal in given_listed (λ k. applies k t r) codes (eqb-false (refusal t r) 0 e)))
    ]

handled_number : (t : Tables) (q : List ℕ) → has (handled t q).reply.what numbers ≡ true
unfolding refused_step
handled_number t q =
    elim (test (eqb (length q) record_length)) [
      | holds e ↦ subst (λ (a : After). has a.reply.what numbers ≡ true) (sym (handled_request t q (eqb-true (length q) record_length e))) (stepped_number t (record_of q))
      | fails e ↦ subst (λ (a : After). has a.reply.what numbers ≡ true) (sym (handled_rubbish t q (eqb-false (length q) record_length e))) refl
    ]

-- Every reply's number is one of document 01's, and none is 40
pub codes_known : (t : Tables) (l : List (List ℕ)) → Every (λ code. has code numbers ≡ true) (codes_of t l)
unfolding events codes_of
codes_known t [] = tt
codes_known t (q ∷ l) = (handled_number t q, codes_known (after_bytes t q) l)

none_is : (k : ℕ) (l : List ℕ) → has k numbers ≡ false → Every (λ code. has code numbers ≡ true) l → has k l ≡ false
none_is k [] h e = refl
none_is k (c ∷ l) h e =
    elim (test (eqb c k)) [
      | holds q ↦ absurd (true≢false (sym e.0 ∙ ap (λ (x : ℕ). has x numbers) (eqb-true c k q) ∙ h))
      | fails q ↦ rw q (none_is k l h e.1)
    ]

-- One byte string keeps the fields in range
bytes_typed : (t : Tables) (q : List ℕ) → Bytes q → Typed t → SoundTables t → Typed (after_bytes t q)
unfolding after_bytes refused_step
bytes_typed t q bytes typed sound =
    elim (test (eqb (length q) record_length)) [
      | holds e ↦
          (let long = eqb-true (length q) record_length e in
          subst (λ (a : After). Typed a.tables) (sym (handled_request t q long)) (stepped_typed t (record_of q) (record_proper q long bytes) typed sound))
      | fails e ↦ subst (λ (a : After). Typed a.tables) (sym (handled_rubbish t q (eqb-false (length q) record_length e))) typed
    ]

-- Following the contract over a list gives the encoding of the tables after it, and their codes
pub bytes_agree : (t : Tables) (l : List (List ℕ)) (returned s : List ℕ) → AllBytes l → Typed t → SoundTables t → Follows (encode t) l returned s
    → (s ≡ encode (after_all t l)) × (returned ≡ codes_of t l)
unfolding after_all events codes_of
bytes_agree t l returned s bytes typed sound follows = by (encode t) l returned s t bytes typed sound refl follows
  where
    by : (s₀ : List ℕ) (l : List (List ℕ)) (returned s : List ℕ) (t : Tables) → AllBytes l → Typed t → SoundTables t → s₀ ≡ encode t → Follows s₀ l returned s
        → (s ≡ encode (after_all t l)) × (returned ≡ codes_of t l)
    by s₀ [] returned s t bytes typed sound e (ended z) = unfold after_all events codes_of in (e, refl)
    by s₀ (q ∷ l) returned s t bytes typed sound e (called a s' b r p p' code m cs long call follows) =
        unfold after_all events codes_of in
        (let one = call_agrees t q p typed sound long (subst (λ x. Called x q p code s' p') e call) in
        let rest = by s' l cs s (after_bytes t q) bytes.1 (bytes_typed t q bytes.0 typed sound) (bytes_sound t q sound) one.same_state follows in
        (rest.0, ap (λ c. c ∷ cs) one.same_code ∙ ap (λ c. (handled t q).reply.what ∷ c) rest.1))

-- A state that was accepted once is accepted ever after
pub accepted_ever_after : (s s' : List ℕ) (l : List (List ℕ)) (returned : List ℕ) → AllBytes l → Accepted s → Follows s l returned s' → Accepted s'
accepted_ever_after s s' [] returned bytes a (ended z) = a
accepted_ever_after s s' (q ∷ l) returned bytes a (called z u v r p p' code m cs long call follows) =
    accepted_ever_after u s' l cs bytes.1 (accepted_stays s q p bytes.0 a call) follows

-- From a fresh start: the bytes are the encoding of `run`, the numbers returned are those of its replies, each is one of
-- document 01's, and 40 is never given
pub record FreshStart (l : List (List ℕ)) (returned s : List ℕ) : Type 0 where
  pub state : s ≡ encode (run l)
  pub replies : returned ≡ codes_of fresh l
  pub known : Every (λ code. has code numbers ≡ true) returned
  pub never_40 : has 40 returned ≡ false

pub run_agrees : (s₀ : List ℕ) (l : List (List ℕ)) (returned s : List ℕ) → length s₀ ≡ state_length → AllBytes l → Follows (fresh_state s₀) l returned s → FreshStart l returned s
unfolding run fresh_state zeros
run_agrees s₀ l returned s long bytes follows =
    let begins : fresh_state s₀ ≡ encode fresh = rw (eq-eqb (length s₀) state_length long) (sym encode_fresh) in
    let agrees = bytes_agree fresh l returned s bytes fresh_typed fresh_sound (subst (λ x. Follows x l returned s) begins follows) in
    let known = subst (λ x. Every (λ code. has code numbers ≡ true) x) (sym agrees.1) (codes_known fresh l) in
    record { state = agrees.0; replies = agrees.1; known = known; never_40 = none_is 40 returned refl known }
