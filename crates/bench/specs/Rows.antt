-- Document 01's starred cases, 'Tried at the bench': a table of requests, each with the reply that it must get, and the test of such a table
-- by the kernel's own definition. To add a case is to add rows.
use Rattle.std.specs.Prelude.{ℕ, zero, suc, ◌-◌, Bool, true, false, cond, List, [], ◌∷◌, ◌++◌, eqb, length, replicate}
use Rattle.tables.specs.declared.Tables.{Tables}
use Rattle.tables.specs.Access.{fresh}
use Rattle.records.specs.declared.Record.{Record}
use Rattle.records.specs.Records.{fields}
use Rattle.steps.specs.Steps.{stepped}

-- A record with these data and zeros behind them
abbrev pub filled : ℕ → ℕ → ℕ → ℕ → ℕ → List ℕ → Record
filled what who n l m b = fields what who n l m (b ++ replicate (64 - length b) 0)

-- A request: call, caller, N, L, M; a request that brings bytes; a reply: code, running, N, L, M; a reply that brings bytes
abbrev pub ask : ℕ → ℕ → ℕ → ℕ → ℕ → Record
ask call caller n l m = filled call caller n l m []

abbrev pub bring : ℕ → ℕ → ℕ → List ℕ → Record
bring call caller n b = filled call caller n (length b) 0 b

abbrev pub say : ℕ → ℕ → ℕ → ℕ → ℕ → Record
say code running n l m = filled code running n l m []

abbrev pub give : ℕ → ℕ → List ℕ → Record
give code running b = filled code running 0 (length b) 0 b

abbrev pub Row : Type 0
Row = Record × Record

-- The same row so many times
abbrev pub times : ℕ → Row → List Row
times zero x = []
times (suc k) x = x ∷ times k x

-- ---- the test

abbrev pub same_bytes : List ℕ → List ℕ → Bool
same_bytes [] [] = true
same_bytes [] (y ∷ m) = false
same_bytes (x ∷ l) [] = false
same_bytes (x ∷ l) (y ∷ m) = cond (eqb x y) (same_bytes l m) false

abbrev pub same_record : Record → Record → Bool
same_record r q =
    cond (eqb r.what q.what) (cond (eqb r.who q.who) (cond (eqb r.n q.n) (cond (eqb r.l q.l) (cond (eqb r.m q.m)
    (same_bytes r.bytes q.bytes) false) false) false) false) false

-- Each request of a case gets its reply, one after the other
unfoldable pub answers_all : Tables → List Row → Bool
answers_all t [] = true
answers_all t (row ∷ rows) =
    let s = stepped t row.0 in
    cond (same_record s.reply row.1) (answers_all s.tables rows) false

-- Each case from a fresh start
unfoldable pub all_hold : List (List Row) → Bool
all_hold [] = true
all_hold (rows ∷ cases) = cond (answers_all fresh rows) (all_hold cases) false

-- ---- the table

-- Binary at 0, nine signals, no line: first wait 0, second 2
abbrev pub nine_on_binary : List Row
nine_on_binary =
    (ask 2 0 0 10 0, say 0 1 1 0 0)
    ∷ (ask 10 0 0 1 0, say 0 1 1 0 0)
    ∷ times 9 (ask 13 0 1 0 0, say 0 1 0 0 0)
    ++ (ask 16 1 1 0 0, say 0 1 0 0 0)
    ∷ (ask 16 1 1 0 0, say 2 0 0 0 0)
    ∷ []

-- Counting at 0, the same: nine waits 0, the tenth 2
abbrev pub nine_on_counting : List Row
nine_on_counting =
    (ask 2 0 0 10 0, say 0 1 1 0 0)
    ∷ (ask 10 0 0 2 0, say 0 1 1 0 0)
    ∷ times 9 (ask 13 0 1 0 0, say 0 1 0 0 0)
    ++ times 9 (ask 16 1 1 0 0, say 0 1 0 0 0)
    ++ (ask 16 1 1 0 0, say 2 0 0 0 0)
    ∷ []

-- Counting at 32,766: signal 0, signal 50
abbrev pub counting_full : List Row
counting_full =
    (ask 10 0 0 2 32766, say 0 0 1 0 0)
    ∷ (ask 13 0 1 0 0, say 0 0 0 0 0)
    ∷ (ask 13 0 1 0 0, say 50 0 0 0 0)
    ∷ (ask 12 0 1 0 0, say 0 0 0 2 32767)
    ∷ []

-- Ring of 8: p1 gets 6 and waits; put 4, put 4: p1 served, 2 held
abbrev pub getter_served : List Row
getter_served =
    (ask 2 0 0 10 0, say 0 1 1 0 0)
    ∷ (ask 2 0 0 5 0, say 0 1 2 0 0)
    ∷ (ask 10 0 0 3 8, say 0 1 1 0 0)
    ∷ (ask 20 1 1 6 0, say 2 2 0 0 0)
    ∷ (bring 18 1 1 (1 ∷ 2 ∷ 3 ∷ 4 ∷ []), say 0 2 0 0 0)
    ∷ (bring 18 1 1 (5 ∷ 6 ∷ 7 ∷ 8 ∷ []), say 0 1 0 0 0)
    ∷ (ask 12 0 1 0 0, say 0 1 0 3 2)
    ∷ (ask 23 1 0 0 0, give 0 1 (1 ∷ 2 ∷ 3 ∷ 4 ∷ 5 ∷ 6 ∷ []))
    ∷ []

-- Ring of 8: p1 gets 6, p2 gets 1; p3 puts 5: nobody served; p3's conditional get of 1: code 1; p3 puts 1: p1 served, 0 held, p2 waits
abbrev pub small_get_waits : List Row
small_get_waits =
    (ask 2 0 0 10 0, say 0 1 1 0 0)
    ∷ (ask 2 0 0 9 0, say 0 1 2 0 0)
    ∷ (ask 2 0 0 8 0, say 0 1 3 0 0)
    ∷ (ask 10 0 0 3 8, say 0 1 1 0 0)
    ∷ (ask 20 1 1 6 0, say 2 2 0 0 0)
    ∷ (ask 20 1 1 1 0, say 2 3 0 0 0)
    ∷ (bring 18 1 1 (1 ∷ 2 ∷ 3 ∷ 4 ∷ 5 ∷ []), say 0 3 0 0 0)
    ∷ (ask 12 0 1 0 0, say 0 3 2 3 5)
    ∷ (ask 21 1 1 1 0, say 1 3 0 0 0)
    ∷ (bring 18 1 1 (6 ∷ []), say 0 1 0 0 0)
    ∷ (ask 12 0 1 0 0, say 0 1 1 3 0)
    ∷ (ask 8 0 2 0 0, say 0 1 1 9 5)
    ∷ []

-- The standoff, size 8, held 4, a get of 6 and a put of 5; then reset: the put of 5 enters, the get of 6 still waits
abbrev pub standoff : List Row
standoff =
    (ask 2 0 0 10 0, say 0 1 1 0 0)
    ∷ (ask 2 0 0 9 0, say 0 1 2 0 0)
    ∷ (ask 2 0 0 8 0, say 0 1 3 0 0)
    ∷ (ask 10 0 0 3 8, say 0 1 1 0 0)
    ∷ (bring 19 0 1 (1 ∷ 2 ∷ 3 ∷ 4 ∷ []), say 0 1 0 0 0)
    ∷ (ask 20 1 1 6 0, say 2 2 0 0 0)
    ∷ (bring 18 1 1 (5 ∷ 6 ∷ 7 ∷ 8 ∷ 9 ∷ []), say 2 3 0 0 0)
    ∷ (ask 12 0 1 0 0, say 0 3 2 3 4)
    ∷ (ask 22 0 1 0 0, say 0 2 0 0 0)
    ∷ (ask 12 0 1 0 0, say 0 2 1 3 5)
    ∷ (ask 8 0 1 0 0, say 0 2 1 10 5)
    ∷ []

-- A suspended waiter signalled: place 3, runner unchanged
abbrev pub suspended_waiter : List Row
suspended_waiter =
    (ask 2 0 0 10 0, say 0 1 1 0 0)
    ∷ (ask 2 0 0 5 0, say 0 1 2 0 0)
    ∷ (ask 10 0 0 2 0, say 0 1 1 0 0)
    ∷ (ask 16 1 1 0 0, say 2 2 0 0 0)
    ∷ (ask 4 1 1 0 0, say 0 2 0 0 0)
    ∷ (ask 8 0 1 0 0, say 0 2 1 10 20)
    ∷ (ask 13 0 1 0 0, say 0 2 0 0 0)
    ∷ (ask 8 0 1 0 0, say 0 2 0 10 3)
    ∷ []

-- Put length 64 in a ring of 256: 0. Length 65 or 0: 43. Length 9, ring of 8: 49. Length 0 on a dead structure: 43, not 44
abbrev pub lengths : List Row
lengths =
    (ask 2 0 0 10 0, say 0 1 1 0 0)
    ∷ (ask 10 0 0 3 256, say 0 1 1 0 0)
    ∷ (ask 10 0 0 3 8, say 0 1 2 0 0)
    ∷ (bring 18 1 1 (replicate 64 7), say 0 1 0 0 0)
    ∷ (ask 12 0 1 0 0, say 0 1 0 3 64)
    ∷ (ask 18 1 1 65 0, say 43 1 0 0 0)
    ∷ (ask 18 1 1 0 0, say 43 1 0 0 0)
    ∷ (ask 18 1 2 9 0, say 49 1 0 0 0)
    ∷ (ask 18 1 3 0 0, say 43 1 0 0 0)
    ∷ []

-- Running 0, caller 1: 42
abbrev pub nobody_calls : List Row
nobody_calls = (ask 7 1 0 0 0, say 42 0 0 0 0) ∷ []

-- All of them
abbrev pub starred : List (List Row)
starred =
    nine_on_binary ∷ nine_on_counting ∷ counting_full ∷ getter_served ∷ small_get_waits ∷ standoff ∷ suspended_waiter ∷ lengths ∷ nobody_calls ∷ []
