-- A request that does nothing at ring n: nothing is put, got or counted anew, and the held bytes stay.
use Rattle.std.specs.Prelude.{ℕ, ◌≡◌, refl, true, false, not, List, [], ◌∷◌, ◌++◌, eqb}
use Rattle.std.proofs.Common.{sym, ◌∙◌, append-nil, ne_eqb}
use Rattle.arrivals.specs.Order.{has, keep}
use Rattle.arrivals.specs.Views.{keep_none}
use Rattle.tables.specs.declared.Tables.{Tables}
use Rattle.tables.specs.declared.Line.{Line}
use Rattle.tables.specs.declared.Line.TheVariants.{Getters, Putters}
use Rattle.tables.specs.Lines.{line}
use Rattle.answers.specs.declared.Step.{Step}
use Rattle.answers.specs.Answers.{unmoved}
use Rattle.records.specs.declared.Record.{Record}
use Rattle.refusals.specs.Refusals.{either}
use Rattle.arrivals.specs.Listed.{has_behind}
use Rattle.steps.specs.Steps.{replied_by, replied}
use Rattle.sound.specs.Sound.{Settled}
use Rattle.promises.specs.Run.{Event}
use Rattle.promises.specs.Turns.{answered, left_line, structure_begins, parcels_bytes, put, got, is_reset, held}
use Rattle.promises.specs.RingDeeds.{structure_ends, starts_anew, RingDeed, rests}
use Rattle.promises.specs.RingLines.{SameRing, same_none, same_then, same_dispatched}
use Rattle.promises.specs.RingServed.{has_front}
use Rattle.promises.specs.LineCalls.{ring_calls}
use Rattle.promises.specs.Answered.{seen, not_among, by_call, by_number, by_code, not_called, not_created, here_or_elsewhere}

-- Nothing is put, got, or counted anew by it,
pub record Idle (n : ℕ) (e : Event) : Type 0 where
  pub not_put : either (answered 18 n 0 e) (answered 19 n 0 e) ≡ false
  pub not_got : either (answered 20 n 0 e) (answered 21 n 0 e) ≡ false
  pub not_anew : starts_anew n e ≡ false

-- The calls at a ring: its deletion, and those that move its bytes
abbrev pub calls_at : List ℕ
calls_at = 11 ∷ ring_calls

-- as none of a ring's calls was answered with code 0
pub idle : (n : ℕ) (e : Event) → structure_begins n e ≡ false → ((call : ℕ) → has call calls_at ≡ true → answered call n 0 e ≡ false) → Idle n e
unfolding starts_anew structure_ends is_reset
idle n e no_begin none =
    record {
      not_put = rw (none 18 refl, none 19 refl);
      not_got = rw (none 20 refl, none 21 refl);
      not_anew = rw (no_begin, none 11 refl, none 22 refl);
    }

-- It was not done
pub idle_code : (n : ℕ) (e : Event) → eqb e.reply.what 0 ≡ false → Idle n e
unfolding structure_begins
idle_code n e h = idle n e (not_created 10 n e h) (λ call k. by_code call n 0 e h)

-- It is no call of a ring
pub idle_call : (n : ℕ) (e : Event) → has e.request.what (10 ∷ calls_at) ≡ false → Idle n e
unfolding structure_begins
idle_call n e h =
    let other = not_among e.request.what (10 ∷ calls_at) h in
    idle n e (not_called 10 n e (other 10 refl)) (λ call k. by_call call n 0 e (other call (has_behind 10 call calls_at k)))

-- It is a call of another number, and no creation
idle_number : (n : ℕ) (e : Event) → eqb e.request.what 10 ≡ false → eqb e.request.n n ≡ false → Idle n e
unfolding structure_begins
idle_number n e h m = idle n e (not_called 10 n e h) (λ call k. by_number call n 0 e m)

-- Nobody left a line whose members are all there still:
none_left : (l r : List ℕ) → keep (λ p. not (has p (l ++ r))) l ≡ []
none_left l r = keep_none (λ p. not (has p (l ++ r))) l (λ y h. rw (has_front y l r h) refl)

-- a line that is as it was,
pub stays_none : (x : Line) (e : Event) → line x e.after ≡ line x e.before → left_line x e ≡ []
unfolding left_line
stays_none x e same = rw (same ∙ sym (append-nil (line x e.before))) (none_left (line x e.before) [])

-- or a line that one has joined
pub grows_none : (x : Line) (e : Event) (p : ℕ) → line x e.after ≡ line x e.before ++ (p ∷ []) → left_line x e ≡ []
unfolding left_line
grows_none x e p same = rw same (none_left (line x e.before) (p ∷ []))

-- A request that does nothing there, by which nobody leaves a line, and the held bytes stay
pub idle_rests : (n : ℕ) (e : Event) → Idle n e → left_line (Getters n) e ≡ [] → left_line (Putters n) e ≡ [] → held n e.after ≡ held n e.before → RingDeed n e
unfolding put got parcels_bytes
idle_rests n e i getters putters same = rests i.not_anew (rw (i.not_put, putters)) (rw (i.not_got, getters)) same

-- The same by the ring's lines and bytes
pub same_rests : (n : ℕ) (e : Event) → Idle n e → SameRing n e.before e.after → RingDeed n e
same_rests n e i same = idle_rests n e i (stays_none (Getters n) e same.getters) (stays_none (Putters n) e same.putters) same.bytes

-- An accepted request whose step does nothing there
pub step_rests : (n : ℕ) (t : Tables) (r : Record) (s : Step) → Settled s.tables → Idle n (seen t r (replied s)) → SameRing n t s.tables → RingDeed n (seen t r (replied s))
unfolding replied replied_by
step_rests n t r s settled i same = same_rests n (seen t r (replied s)) i (same_then same (same_dispatched n s.tables settled))

-- Nothing is done
pub unmoved_rests : (n : ℕ) (t : Tables) (r : Record) → Settled t → RingDeed n (seen t r (replied (unmoved t)))
unfolding replied replied_by
unmoved_rests n t r s = step_rests n t r (unmoved t) s (idle_code n (seen t r (replied (unmoved t))) refl) (same_none n t)

-- ---- the ring that a request names, and the others

-- A step at the ring that is named does a deed there; if that is not ring n, ring n rests
pub at_ring : (n : ℕ) (t : Tables) (r : Record) (s : Step) → eqb r.what 10 ≡ false → RingDeed r.n (seen t r (replied s)) → ((n ≡ r.n → ⊥) → SameRing n t s.tables) → Settled s.tables → RingDeed n (seen t r (replied s))
at_ring n t r s call own other settled =
    here_or_elsewhere (λ (k : ℕ). RingDeed k (seen t r (replied s))) n r.n own
    (λ else. step_rests n t r s settled (idle_number n (seen t r (replied s)) call (ne_eqb r.n n (λ q. else (sym q)))) (other else))
