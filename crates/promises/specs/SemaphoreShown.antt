-- What a reader counts of a request at a structure: nothing where it asked nothing there or was not performed; else what its call and its answer say.
use Rattle.std.specs.Prelude.{ℕ, ◌≡◌, refl, Bool, true, false, cond, not, List, [], ◌∷◌, eqb, length}
use Rattle.std.proofs.Common.{sym, ap, ◌∙◌, true≢false, eq-eqb}
use Rattle.arrivals.specs.Order.{count, has, keep}
use Rattle.arrivals.specs.Views.{keep_none}
use Rattle.tables.specs.declared.Kind.{Kind}
use Rattle.tables.specs.declared.Line.TheVariants.{Semaphore}
use Rattle.refusals.specs.Refusals.{both, either}
use Rattle.promises.specs.Run.{Event}
use Rattle.promises.specs.Turns.{answered, line_before, line_after, left_line, process_begins, structure_begins, is_line, is_single_release, single_releases, is_release, is_passed, turns, askers, releases, kind_before, kind_after, is_raised, lost}
use Rattle.promises.specs.Answered.{not_among, by_call, by_number, by_code, not_called}
use Rattle.promises.specs.LineCalls.{semaphore_calls}
use Rattle.promises.specs.SemaphoreDeeds.{Shows}

-- ---- a request that asked nothing at n, or that was not performed

-- None of the semaphores' calls for n was answered 0 or 2:
abbrev pub Unasked : ℕ → Event → Type 0
Unasked n e = (call : ℕ) → has call semaphore_calls ≡ true → (answered call n 0 e ≡ false) × (answered call n 2 e ≡ false)

-- it was another call,
pub uncalled : (n : ℕ) (e : Event) → has e.request.what semaphore_calls ≡ false → Unasked n e
uncalled n e h call k = let other = not_among e.request.what semaphore_calls h call k in (by_call call n 0 e other, by_call call n 2 e other)

-- it named another structure,
pub unnamed : (n : ℕ) (e : Event) → eqb e.request.n n ≡ false → Unasked n e
unnamed n e h call k = (by_number call n 0 e h, by_number call n 2 e h)

-- or it was not performed: answered by another code than 0 and 2
pub unperformed : (n : ℕ) (e : Event) → eqb e.reply.what 0 ≡ false → eqb e.reply.what 2 ≡ false → Unasked n e
unperformed n e h g call k = (by_code call n 0 e h, by_code call n 2 e g)

-- Then nobody asks and nobody has a turn there, and nothing is released
pub nothing_shown : (n : ℕ) (e : Event) → Unasked n e → (line : List ℕ) (kind : Kind) (new : Bool)
    → line_after (Semaphore n) e ≡ line → kind_after n e ≡ kind → structure_begins n e ≡ new → ((p : ℕ) → process_begins p e ≡ true → count p line ≡ 0)
    → Shows n e line kind [] [] 0 0 0 new
unfolding turns askers single_releases releases lost is_single_release is_passed is_release
nothing_shown n e u line kind new l k b p =
    record {
      the_line_after = l;
      the_kind_after = k;
      who_had = rw ((u 16 refl).0, (u 17 refl).0, (u 13 refl).0, (u 14 refl).0, (u 15 refl).0);
      who_asked = rw ((u 16 refl).0, (u 17 refl).0, (u 16 refl).1);
      singles = rw ((u 13 refl).0, (u 14 refl).0);
      released = rw ((u 13 refl).0, (u 14 refl).0, (u 15 refl).0);
      loses = rw (u 13 refl).0;
      begun = b;
      newcomers = p;
    }

-- Where no process begins to live no newcomer is in the way
pub no_newcomer : (e : Event) (line : List ℕ) → ((p : ℕ) → process_begins p e ≡ false) → (p : ℕ) → process_begins p e ≡ true → count p line ≡ 0
no_newcomer e line none p h = absurd (true≢false (sym h ∙ none p))

-- ---- a request that named n and was performed

-- This call for structure n, answered by this code
pub record Answered (call n code : ℕ) (e : Event) : Type 0 where
  pub what : e.request.what ≡ call
  pub number : e.request.n ≡ n
  pub reply_code : e.reply.what ≡ code

pub said : (call n code : ℕ) (e : Event) → Answered call n code e → (c k : ℕ) → answered c n k e ≡ both (eqb call c) (eqb code k)
unfolding answered
said call n code e a c k = rw (a.what, a.number, a.reply_code, eq-eqb n n refl)

-- Those who leave a line when its head goes: the head, if it stands there once
pub left_head : (p : ℕ) (rest : List ℕ) → has p rest ≡ false → keep (λ x. not (has x rest)) (p ∷ rest) ≡ p ∷ []
left_head p rest once = rw (once, keep_none (λ x. not (has x rest)) rest (λ y h. rw h))

-- and when all go: all
pub left_all : (l : List ℕ) → keep (λ x. not (has x [])) l ≡ l
left_all [] = refl
left_all (a ∷ l) = ap (λ (r : List ℕ). a ∷ r) (left_all l)

-- What is counted of it, by the call and the code, with the line before it and those who left
abbrev is : ℕ → ℕ → ℕ → ℕ → Bool
is call code c k = both (eqb call c) (eqb code k)

abbrev had_by : ℕ → ℕ → ℕ → List ℕ → List ℕ
had_by call code running left =
    cond (either (is call code 16 0) (is call code 17 0)) (running ∷ [])
    (cond (either (is call code 13 0) (either (is call code 14 0) (is call code 15 0))) left [])

abbrev asked_by : ℕ → ℕ → ℕ → List ℕ
asked_by call code running = cond (either (either (is call code 16 0) (is call code 17 0)) (is call code 16 2)) (running ∷ []) []

abbrev single_by : ℕ → ℕ → List ℕ → ℕ
single_by call code line = cond (either (both (is call code 13 0) (is_line line)) (is call code 14 0)) 1 0

abbrev all_by : ℕ → ℕ → List ℕ → ℕ
all_by call code line = cond (either (is call code 13 0) (is call code 14 0)) 1 (cond (is call code 15 0) (length line) 0)

abbrev lost_by : ℕ → ℕ → List ℕ → Kind → ℕ
lost_by call code line kind = cond (both (is call code 13 0) (both (not (is_line line)) (is_raised kind))) 1 0

pub performed_shown : (call code n : ℕ) (e : Event) → Answered call n code e → eqb call 10 ≡ false → eqb call 2 ≡ false
    → (before after left : List ℕ) (kind : Kind) → line_before (Semaphore n) e ≡ before → line_after (Semaphore n) e ≡ after → kind_after n e ≡ kind
    → keep (λ x. not (has x after)) before ≡ left
    → Shows n e after kind (had_by call code e.before.running left) (asked_by call code e.before.running) (single_by call code before) (all_by call code before) (lost_by call code before (kind_before n e)) false
unfolding turns askers single_releases releases lost is_single_release is_passed is_release left_line process_begins structure_begins
performed_shown call code n e a structure process before after left kind was now k gone =
    let s = said call n code e a in
    record {
      the_line_after = now;
      the_kind_after = k;
      who_had = rw (s 16 0, s 17 0, s 13 0, s 14 0, s 15 0, was, now, gone);
      who_asked = rw (s 16 0, s 17 0, s 16 2);
      singles = rw (s 13 0, s 14 0, was);
      released = rw (s 13 0, s 14 0, s 15 0, was);
      loses = rw (s 13 0, was);
      begun = not_called 10 n e (rw a.what structure);
      newcomers = no_newcomer e after (λ p. not_called 2 p e (rw a.what process));
    }
