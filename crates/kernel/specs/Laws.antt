-- Any two outcomes of one call are identical.
use Rattle.std.specs.Prelude.{ℕ, ◌≡◌, List}
use Rattle.std.proofs.Common.{sym, ap, ◌∙◌}
use Rattle.tables.specs.declared.Tables.{Tables}
use Rattle.records.specs.Records.{record_of, bytes_of}
use Rattle.refusals.specs.Refusals.{refusal}
use Rattle.steps.specs.Steps.{stepped}
use Rattle.layout.specs.Layout.{encode}
use Rattle.layout.specs.Laws.{same_tables}
use Rattle.kernel.specs.Called.{Holds, refusal_reply, Called, length_wrong, not_sound, refused, done}

-- Bytes are at most one state
pub one_state : (s : List ℕ) (t u : Tables) → Holds s t → Holds s u → t ≡ u
one_state s t u a b = same_tables t u a.typed b.typed (a.bytes ∙ sym b.bytes)

pub record Same (code code' : ℕ) (s s' p p' : List ℕ) : Type 0 where
  pub codes : code ≡ code'
  pub states : s ≡ s'
  pub replies : p ≡ p'

module _ (s q p : List ℕ) where
  same_refused : {c d : ℕ} {s' s'' p' p'' : List ℕ} (t u : Tables) → t ≡ u
      → c ≡ refusal t (record_of q) → s' ≡ s → p' ≡ bytes_of (refusal_reply (refusal t (record_of q)) t.running)
      → d ≡ refusal u (record_of q) → s'' ≡ s → p'' ≡ bytes_of (refusal_reply (refusal u (record_of q)) u.running)
      → Same c d s' s'' p' p''
  same_refused t u e a b c d f g =
      record {
        codes = a ∙ ap (λ x. refusal x (record_of q)) e ∙ sym d;
        states = b ∙ sym f;
        replies = c ∙ ap (λ x. bytes_of (refusal_reply (refusal x (record_of q)) x.running)) e ∙ sym g;
      }

  same_done : {c d : ℕ} {s' s'' p' p'' : List ℕ} (t u : Tables) → t ≡ u
      → c ≡ (stepped t (record_of q)).reply.what → s' ≡ encode (stepped t (record_of q)).tables → p' ≡ bytes_of (stepped t (record_of q)).reply
      → d ≡ (stepped u (record_of q)).reply.what → s'' ≡ encode (stepped u (record_of q)).tables → p'' ≡ bytes_of (stepped u (record_of q)).reply
      → Same c d s' s'' p' p''
  same_done t u e a b c d f g =
      record {
        codes = a ∙ ap (λ x. (stepped x (record_of q)).reply.what) e ∙ sym d;
        states = b ∙ ap (λ x. encode (stepped x (record_of q)).tables) e ∙ sym f;
        replies = c ∙ ap (λ x. bytes_of (stepped x (record_of q)).reply) e ∙ sym g;
      }

  -- Any two outcomes that satisfy the contract are identical
  pub one_outcome : {c d : ℕ} {s' s'' p' p'' : List ℕ} → Called s q p c s' p' → Called s q p d s'' p'' → Same c d s' s'' p' p''
  one_outcome (length_wrong w a b c) (length_wrong v d e f) = record { codes = a ∙ sym d; states = b ∙ sym e; replies = c ∙ sym f }
  one_outcome (length_wrong w a b c) (not_sound l h d e f) = absurd (w l)
  one_outcome (length_wrong w a b c) (refused l t h r d e f) = absurd (w l)
  one_outcome (length_wrong w a b c) (done l t h r d e f) = absurd (w l)
  one_outcome (not_sound l h a b c) (length_wrong v d e f) = absurd (v l)
  one_outcome (not_sound l h a b c) (not_sound m i d e f) = record { codes = a ∙ sym d; states = b ∙ sym e; replies = c ∙ sym f }
  one_outcome (not_sound l h a b c) (refused m t i r d e f) = absurd (h t i)
  one_outcome (not_sound l h a b c) (done m t i r d e f) = absurd (h t i)
  one_outcome (refused l t h r a b c) (length_wrong v d e f) = absurd (v l)
  one_outcome (refused l t h r a b c) (not_sound m i d e f) = absurd (i t h)
  one_outcome (refused l t h r a b c) (refused m u i w d e f) = same_refused t u (one_state s t u h i) a b c d e f
  one_outcome (refused l t h r a b c) (done m u i w d e f) = absurd (r (ap (λ x. refusal x (record_of q)) (one_state s t u h i) ∙ w))
  one_outcome (done l t h r a b c) (length_wrong v d e f) = absurd (v l)
  one_outcome (done l t h r a b c) (not_sound m i d e f) = absurd (i t h)
  one_outcome (done l t h r a b c) (refused m u i w d e f) = absurd (w (ap (λ x. refusal x (record_of q)) (one_state s u t i h) ∙ r))
  one_outcome (done l t h r a b c) (done m u i w d e f) = same_done t u (one_state s t u h i) a b c d e f
