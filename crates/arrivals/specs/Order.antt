-- The arrival order: numbers of processes, from the oldest to the newest in a line, 0 for nobody. The zeros stand first.
-- Everything is said of lists of any length. Assumes nothing.
use Rattle.std.specs.Prelude.{ℕ, suc, ◌+◌, Bool, true, false, cond, not, List, [], ◌∷◌, ◌++◌, take, drop, eqb}

-- 1 where a is p, else 0
abbrev pub one : ℕ → ℕ → ℕ
one a p = cond (eqb a p) 1 0

-- how often p is listed
abbrev pub count : ℕ → List ℕ → ℕ
count p [] = 0
count p (a ∷ l) = one a p + count p l

-- x is listed
abbrev pub has : ℕ → List ℕ → Bool
has x [] = false
has x (a ∷ l) = cond (eqb a x) true (has x l)

-- how many stand before the first x; all of them where x is not listed
abbrev pub ahead : ℕ → List ℕ → ℕ
ahead x [] = 0
ahead x (a ∷ l) = cond (eqb a x) 0 (suc (ahead x l))

-- the head of a line; 0, nobody, of an empty one
abbrev pub first : List ℕ → ℕ
first [] = 0
first (a ∷ l) = a

-- a line as a view of the order: those that pass the test f, in order of arrival
abbrev pub keep : (ℕ → Bool) → List ℕ → List ℕ
keep f [] = []
keep f (a ∷ l) = cond (f a) (a ∷ keep f l) (keep f l)

-- the one at place k goes, and the gap is closed
abbrev pub cut : ℕ → List ℕ → List ℕ
cut k l = take k l ++ drop (suc k) l

-- the first x goes, and the gap is closed; nothing goes where x is not listed
unfoldable pub without : ℕ → List ℕ → List ℕ
without x l = cut (ahead x l) l

-- a new process joins: the oldest place, a zero, makes room, and x stands last
unfoldable pub joined : ℕ → List ℕ → List ℕ
joined x l = drop 1 l ++ (x ∷ [])

-- x joins a line: it goes to the end. One that is not listed changes nothing
unfoldable pub moved_last : ℕ → List ℕ → List ℕ
moved_last x l = cond (has x l) (without x l ++ (x ∷ [])) l

-- x is deleted: it goes, and there is one zero more in front. One that is not listed changes nothing
unfoldable pub deleted : ℕ → List ℕ → List ℕ
deleted x l = cond (has x l) (0 ∷ without x l) l

-- no zero stands behind a number that is not zero
unfoldable pub zeros_first : List ℕ → Bool
zeros_first [] = true
zeros_first (a ∷ l) = cond (eqb a 0) (zeros_first l) (not (has 0 l))
