-- A run projected onto one semaphore: what a request does there is one of eight deeds, told by the line and the kind before it and after it, and by what a reader counts of it.
use Rattle.std.specs.Prelude.{ℕ, ◌+◌, ◌<◌, ◌≡◌, Bool, true, false, cond, List, [], ◌∷◌, ◌++◌, length}
use Rattle.arrivals.specs.Order.{count}
use Rattle.tables.specs.declared.Kind.{Kind}
use Rattle.tables.specs.declared.Kind.TheVariants.{Free, Binary, Counting, Ring}
use Rattle.tables.specs.declared.Line.TheVariants.{Semaphore}
use Rattle.semaphores.specs.Semaphores.{value, lowered}
use Rattle.promises.specs.Run.{Event}
use Rattle.promises.specs.Turns.{line_before, line_after, kind_before, kind_after, turns, askers, single_releases, releases, lost, is_raised, process_begins, structure_begins}

-- ---- what a reader sees of a request at structure n

-- Its line and kind afterwards, who has had a turn there, who has asked, the single releases, all releases, the signals lost,
-- whether the structure begins to live; and a process that begins to live does not stand in the line
pub record Shows (n : ℕ) (e : Event) (line : List ℕ) (kind : Kind) (had asked : List ℕ) (single all missed : ℕ) (new : Bool) : Type 0 where
  pub the_line_after : line_after (Semaphore n) e ≡ line
  pub the_kind_after : kind_after n e ≡ kind
  pub who_had : turns n e ≡ had
  pub who_asked : askers n e ≡ asked
  pub singles : single_releases n e ≡ single
  pub released : releases n e ≡ all
  pub loses : lost n e ≡ missed
  pub begun : structure_begins n e ≡ new
  pub newcomers : (p : ℕ) → process_begins p e ≡ true → count p line ≡ 0

-- ---- values

-- "counting rises by 1 and binary becomes 1"
abbrev pub risen : Kind → Kind
risen Free = Free
risen (Binary v) = Binary 1
risen (Counting v) = Counting (v + 1)
risen (Ring b) = Ring b

-- "A binary one at 1 stays 1": that signal is lost
abbrev pub lost_at : Kind → ℕ
lost_at kind = cond (is_raised kind) 1 0

-- A semaphore created with this amount has it as its value
abbrev pub StartsAt : ℕ → Kind → Type 0
StartsAt m Free = Unit {0}
StartsAt m (Binary v) = v ≡ m
StartsAt m (Counting v) = v ≡ m
StartsAt m (Ring b) = Unit {0}

-- ---- the deeds

pub data DeedAt (n : ℕ) (e : Event) : Type 0 where
  -- nothing is done there
  rests : Shows n e (line_before (Semaphore n) e) (kind_before n e) [] [] 0 0 0 false → DeedAt n e
  -- "value above 0 falls by 1": p asks and has its turn
  passes : (p : ℕ) → 0 < value (kind_before n e) → Shows n e (line_before (Semaphore n) e) (lowered (kind_before n e)) (p ∷ []) (p ∷ []) 0 0 0 false → DeedAt n e
  -- "else the caller joins the line": p asks and stands last
  joins_line : (p : ℕ) → Shows n e (line_before (Semaphore n) e ++ (p ∷ [])) (kind_before n e) [] (p ∷ []) 0 0 0 false → DeedAt n e
  -- a signal that meets no line: the value rises, or the signal is lost
  raises : line_before (Semaphore n) e ≡ [] → Shows n e [] (risen (kind_before n e)) [] [] 0 1 (lost_at (kind_before n e)) false → DeedAt n e
  -- a single release: the head p has its turn, and the value stays
  releases_head : (p : ℕ) (rest : List ℕ) → line_before (Semaphore n) e ≡ p ∷ rest → Shows n e rest (kind_before n e) (p ∷ []) [] 1 1 0 false → DeedAt n e
  -- signal all: everyone in the line has its turn, and the value stays
  frees_all : Shows n e [] (kind_before n e) (line_before (Semaphore n) e) [] 0 (length (line_before (Semaphore n) e)) 0 false → DeedAt n e
  -- the structure is created, with nobody in line
  begins : (kind : Kind) → StartsAt e.request.m kind → line_before (Semaphore n) e ≡ [] → Shows n e [] kind [] [] 0 0 0 true → DeedAt n e
  -- the structure is deleted, with nobody in line
  ends : line_before (Semaphore n) e ≡ [] → Shows n e [] Free [] [] 0 0 0 false → DeedAt n e
