-- From the deeds alone: the bytes put since creation or the last reset are the bytes got since then, and behind them the bytes held.
use Rattle.std.specs.Prelude.{ℕ, zero, suc, ◌-◌, ◌≡◌, refl, Bool, true, false, eqb, get_or, replicate}
use Rattle.std.proofs.Math.Path.{sym, ap}
use Rattle.std.proofs.Common.{◌∙◌}
use mathlib.Core.List.{List, ◌++◌, append-nil, append_assoc}
use Rattle.basics.specs.Tests.{test, holds, fails}
use Rattle.tables.specs.declared.Tables.{Tables}
use Rattle.tables.specs.Access.{numbered, nothing, fresh, structure_of}
use Rattle.refusals.specs.Refusals.{either}
use Rattle.promises.specs.Kept.{SoundTables, fresh_sound}
use Rattle.promises.specs.Run.{Event, event, events, run, counted, over_events}
use Rattle.promises.specs.Turns.{structure_begins, put, got, is_reset, held, held_by}
use Rattle.promises.specs.RingDeeds.{structure_ends, starts_anew, RingDeed, rests, moves, resets, begins, ends}
use Rattle.promises.specs.Rings.{Accounted, Transferred, nothing_yet, transferred}

-- ---- one request

-- A test of three is true where the first is,
begins_anew : (a b c : Bool) → a ≡ true → either a (either b c) ≡ true
begins_anew a b c e = rw e

-- the second,
ends_anew : (a b c : Bool) → b ≡ true → either a (either b c) ≡ true
ends_anew true b c e = refl
ends_anew false b c e = rw e

-- or the third
resets_anew : (a b c : Bool) → c ≡ true → either a (either b c) ≡ true
resets_anew true b c e = refl
resets_anew false true c e = refl
resets_anew false false c e = e

module _ (n : ℕ) (e : Event) (c : Transferred) where
  -- Counted anew: what this request put is what it got, and behind it what is held then
  accounted_anew : starts_anew n e ≡ true → put n e ≡ got n e ++ held n e.after → Accounted n e.after (transferred n c e)
  unfolding Accounted transferred
  accounted_anew anew same = rw anew same

  -- Counted on: what was held and what it put is what it got and what is held then
  accounted_on : starts_anew n e ≡ false → held n e.before ++ put n e ≡ got n e ++ held n e.after → Accounted n e.before c → Accounted n e.after (transferred n c e)
  unfolding Accounted transferred
  accounted_on on same kept =
      rw on (ap (λ (l : List ℕ). l ++ put n e) kept
      ∙ append_assoc c.got_since (held n e.before) (put n e)
      ∙ ap (λ (l : List ℕ). c.got_since ++ l) same
      ∙ sym (append_assoc c.got_since (got n e) (held n e.after)))

  -- Each deed keeps the account
  pub accounted_by : RingDeed n e → Accounted n e.before c → Accounted n e.after (transferred n c e)
  unfolding starts_anew
  accounted_by (rests on none_put none_got same) kept = accounted_on on (rw (none_put, none_got, same) (append-nil (held n e.before))) kept
  accounted_by (moves on same) kept = accounted_on on same kept
  accounted_by (resets reset same) kept = accounted_anew (resets_anew (structure_begins n e) (structure_ends n e) (is_reset n e) reset) same
  accounted_by (begins new none_put none_got none_held) kept = accounted_anew (begins_anew (structure_begins n e) (structure_ends n e) (is_reset n e) new) (rw (none_put, none_got, none_held))
  accounted_by (ends end none_put none_got none_held) kept = accounted_anew (ends_anew (structure_begins n e) (structure_ends n e) (is_reset n e) end) (rw (none_put, none_got, none_held))

-- ---- any list of requests

-- All are nothing
all_nothing : (m i : ℕ) → get_or (replicate m nothing) i nothing ≡ nothing
all_nothing zero i = refl
all_nothing (suc m) zero = refl
all_nothing (suc m) (suc i) = all_nothing m i

-- In a fresh state no structure is live
fresh_nothing : (n : ℕ) → structure_of fresh n ≡ nothing
unfolding structure_of numbered fresh
fresh_nothing n = elim (test (eqb n 0)) [ holds e ↦ rw e | fails e ↦ rw e (all_nothing 24 (n - 1)) ]

-- so nothing is put, got or held
fresh_accounted : (n : ℕ) → Accounted n fresh nothing_yet
unfolding Accounted held held_by
fresh_accounted n = rw (fresh_nothing n)

-- Where every request does one of the deeds, the account is kept over any list
pub accounted : (n : ℕ) → ((t : Tables) (q : List ℕ) → SoundTables t → RingDeed n (event t q)) → (l : List (List ℕ)) → Accounted n (run l) (counted (transferred n) nothing_yet (events fresh l))
unfolding run
accounted n deeds l =
    over_events (transferred n) (Accounted n) (λ t q c sound kept. accounted_by n (event t q) c (deeds t q sound) kept) fresh l nothing_yet fresh_sound (fresh_accounted n)
