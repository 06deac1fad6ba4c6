-- The laws of views: what each change of the arrival order does to every line. Stated over any list and any test. Assumes nothing.
use Rattle.std.specs.Prelude.{◌≡◌, refl, ◌⊎◌, ℕ, ◌+◌, ◌≤◌, Bool, true, false, cond, List, [], ◌∷◌, ◌++◌, drop, eqb}
use Rattle.std.proofs.Common.{sym, ap, ◌∙◌, inl, inr, ⊎_elim, arith, zero-add, true≢false, append-nil, eqb-true, eq-eqb}
use Rattle.std.proofs.lemmas.Bool.{eqb-false}
use Rattle.arrivals.specs.Order.{one, count, has, first, keep, without, joined, moved_last, deleted}
use Rattle.basics.specs.Tests.{Test, holds, fails, test}
use Rattle.arrivals.specs.Listed.{absent, head_goes, not_listed, is_listed, once_gone}

-- ---- a view, and each change

-- a view of two parts is the two views
pub keep_append : (f : ℕ → Bool) (l r : List ℕ) → keep f (l ++ r) ≡ keep f l ++ keep f r
keep_append f [] r = refl
keep_append f (a ∷ l) r = elim (test (f a)) [ holds e ↦ simp (e, keep_append f l r) | fails e ↦ simp (e, keep_append f l r) ]

-- equal numbers pass the same tests
same_test : (f : ℕ → Bool) (x a : ℕ) → eqb a x ≡ true → f x ≡ f a
same_test f x a q = ap f (sym (eqb-true a x q))

-- x is in a line exactly when it is listed and passes
pub has_keep : (f : ℕ → Bool) (x : ℕ) (l : List ℕ) → has x (keep f l) ≡ cond (f x) (has x l) false
has_keep f x [] = elim (test (f x)) [ holds e ↦ rw e | fails e ↦ rw e ]
has_keep f x (a ∷ l) =
    elim (test (eqb a x)) [
      | holds q ↦ elim (test (f a)) [
        | holds e ↦ simp (e, q, same_test f x a q)
        | fails e ↦ simp (e, q, same_test f x a q, has_keep f x l)
      ]
      | fails q ↦ elim (test (f a)) [ holds e ↦ simp (e, q, has_keep f x l) | fails e ↦ simp (e, q, has_keep f x l) ]
    ]

-- one that does not pass is in no such line
pub has_not : (f : ℕ → Bool) (x : ℕ) (l : List ℕ) → f x ≡ false → has x (keep f l) ≡ false
has_not f x l e = simp (has_keep, e)

-- who goes from the order goes from every line
pub keep_without : (f : ℕ → Bool) (x : ℕ) (l : List ℕ) → keep f (without x l) ≡ without x (keep f l)
unfolding without
keep_without f x [] = refl
keep_without f x (a ∷ l) =
    elim (test (eqb a x)) [
      | holds q ↦ elim (test (f a)) [
        | holds e ↦ simp (e, q)
        | fails e ↦ simp (e, q) (sym (absent x (keep f l) (has_not f x l (same_test f x a q ∙ e))))
      ]
      | fails q ↦ elim (test (f a)) [
        | holds e ↦ simp (e, q) (ap (λ (r : List ℕ). a ∷ r) (keep_without f x l))
        | fails e ↦ simp (e, q) (keep_without f x l)
      ]
    ]

-- a move to the end is the same move in every line
pub keep_moved : (f : ℕ → Bool) (x : ℕ) (l : List ℕ) → keep f (moved_last x l) ≡ moved_last x (keep f l)
unfolding moved_last
keep_moved f x l =
    elim (test (has x l)) [
      | holds h ↦ elim (test (f x)) [
        | holds e ↦ simp (has_keep, h, e, keep_append, keep_without)
        | fails e ↦ simp (has_keep, h, e, keep_append, keep_without, append-nil) (absent x (keep f l) (has_not f x l e))
      ]
      | fails h ↦ elim (test (f x)) [ holds e ↦ simp (has_keep, h, e) | fails e ↦ simp (has_keep, h, e) ]
    ]

-- a line after somebody outside it moves last is as it was
pub moved_other : (f : ℕ → Bool) (x : ℕ) (l : List ℕ) → f x ≡ false → keep f (moved_last x l) ≡ keep f l
unfolding moved_last
moved_other f x l e = keep_moved f x l ∙ rw (has_not f x l e)

-- a newcomer stands last in each line that it joins: the oldest place was a zero, which stands in no line
pub keep_joined : (f : ℕ → Bool) (x : ℕ) (l : List ℕ) → f 0 ≡ false → first l ≡ 0 → keep f (joined x l) ≡ keep f l ++ keep f (x ∷ [])
unfolding joined
keep_joined f x [] e h = refl
keep_joined f x (a ∷ l) e h = simp (h, e, keep_append)

-- the same for one that passes, and for one that does not
pub joined_in : (f : ℕ → Bool) (x : ℕ) (l : List ℕ) → f 0 ≡ false → first l ≡ 0 → f x ≡ true → keep f (joined x l) ≡ keep f l ++ (x ∷ [])
joined_in f x l e h p = keep_joined f x l e h ∙ rw p

pub joined_other : (f : ℕ → Bool) (x : ℕ) (l : List ℕ) → f 0 ≡ false → first l ≡ 0 → f x ≡ false → keep f (joined x l) ≡ keep f l
joined_other f x l e h p = keep_joined f x l e h ∙ rw p (append-nil (keep f l))

-- one that is deleted goes from each line
pub keep_deleted : (f : ℕ → Bool) (x : ℕ) (l : List ℕ) → f 0 ≡ false → keep f (deleted x l) ≡ without x (keep f l)
unfolding deleted
keep_deleted f x l e =
    elim (test (has x l)) [
      | holds h ↦ simp (h, e, keep_without)
      | fails h ↦ rw h (sym (absent x (keep f l) (elim (test (f x)) [ holds p ↦ simp (has_keep, p, h) | fails p ↦ has_not f x l p ])))
    ]

-- a line after somebody outside it is deleted is as it was
pub deleted_other : (f : ℕ → Bool) (x : ℕ) (l : List ℕ) → f 0 ≡ false → f x ≡ false → keep f (deleted x l) ≡ keep f l
deleted_other f x l e p = keep_deleted f x l e ∙ absent x (keep f l) (has_not f x l p)

-- a line has whoever passes as often as the order
pub count_keep : (f : ℕ → Bool) (p : ℕ) (l : List ℕ) → count p (keep f l) ≡ cond (f p) (count p l) 0
count_keep f p l = elim (test (f p)) [ holds e ↦ rw e (go l e) | fails e ↦ rw e (not_listed p (keep f l) (has_not f p l e)) ]
  where
    go : (r : List ℕ) → f p ≡ true → count p (keep f r) ≡ count p r
    go [] e = refl
    go (a ∷ r) e =
        elim (test (f a)) [
          | holds t ↦ rw t (ap (λ (n : ℕ). one a p + n) (go r e))
          | fails t ↦ elim (test (eqb a p)) [ holds q ↦ cc (same_test f p a q) | fails q ↦ simp (t, q, zero-add) (go r e) ]
        ]

-- and nobody more often
pub count_keep_le : (f : ℕ → Bool) (p : ℕ) (l : List ℕ) → count p (keep f l) ≤ count p l
count_keep_le f p l = rw (count_keep f p l) (elim (test (f p)) [ holds e ↦ rw e (omega arith) | fails e ↦ rw e (omega arith) ])

-- ---- who stands in a line

-- whoever is in a line passes its test and is listed
pub in_line : (f : ℕ → Bool) (x : ℕ) (l : List ℕ) → has x (keep f l) ≡ true → (f x ≡ true) × (has x l ≡ true)
in_line f x l h = go (test (f x)) (sym (has_keep f x l) ∙ h)
  where
    go : Test (f x) → cond (f x) (has x l) false ≡ true → (f x ≡ true) × (has x l ≡ true)
    go (holds e) q = (e, rw e at q)
    go (fails e) q = (cc, cc)

-- a line is empty, or its head passes its test and is listed
pub head_of : (f : ℕ → Bool) (l : List ℕ)
    → (keep f l ≡ []) ⊎ ((f (first (keep f l)) ≡ true) × (has (first (keep f l)) l ≡ true))
head_of f l = go (keep f l) refl
  where
    go : (r : List ℕ) → keep f l ≡ r → (keep f l ≡ []) ⊎ ((f (first (keep f l)) ≡ true) × (has (first (keep f l)) l ≡ true))
    go [] e = inl e
    go (a ∷ r) e = inr (in_line f (first (keep f l)) l (rw e (rw (eq-eqb a a refl) refl)))

-- a line that nobody heads is empty
pub no_head : (f : ℕ → Bool) (l : List ℕ) → f 0 ≡ false → first (keep f l) ≡ 0 → keep f l ≡ []
no_head f l e h = ⊎_elim (λ q. q) (λ w. go w.0) (head_of f l)
  where
    go : f (first (keep f l)) ≡ true → keep f l ≡ []
    go q = cc

-- ---- x changes its place: f is a line's test before, g after, and they agree but at x

-- lines whose tests agree on whoever is listed are the same
pub keep_same : (f g : ℕ → Bool) (l : List ℕ) → ((y : ℕ) → has y l ≡ true → g y ≡ f y) → keep g l ≡ keep f l
keep_same f g [] h = refl
keep_same f g (a ∷ l) h =
    rw (h a (rw (eq-eqb a a refl) refl), keep_same f g l (λ y k. h y (elim (test (eqb a y)) [ holds q ↦ rw q refl | fails q ↦ rw q k ])))

-- a line that nobody who is listed passes is empty
pub keep_none : (f : ℕ → Bool) (l : List ℕ) → ((y : ℕ) → has y l ≡ true → f y ≡ false) → keep f l ≡ []
keep_none f l h = keep_same (λ y. false) f l h ∙ none l
  where
    none : (r : List ℕ) → keep (λ y. false) r ≡ []
    none [] = refl
    none (a ∷ r) = none r

module _ (f g : ℕ → Bool) (x : ℕ) (agree : (y : ℕ) → (y ≡ x → ⊥) → g y ≡ f y) where
  -- where x is not listed the line is as it was
  pub keep_others : (l : List ℕ) → has x l ≡ false → keep g l ≡ keep f l
  keep_others l h = keep_same f g l (λ y k. agree y (λ e. true≢false (sym k ∙ ap (λ (z : ℕ). has z l) e ∙ h)))

  -- x passes as before: the line is as it was
  pub stays : (l : List ℕ) → g x ≡ f x → keep g l ≡ keep f l
  stays l same =
      keep_same f g l
      (λ y k. elim (test (eqb y x)) [ holds q ↦ sym (same_test g x y q) ∙ same ∙ same_test f x y q | fails q ↦ agree y (eqb-false y x q) ])

  -- x passes neither before nor after: the line is as it was, though x moved last or was deleted
  pub stays_moved : (l : List ℕ) → f x ≡ false → g x ≡ false → keep g (moved_last x l) ≡ keep f l
  stays_moved l p q = moved_other g x l q ∙ stays l (q ∙ sym p)

  pub stays_deleted : (l : List ℕ) → g 0 ≡ false → f x ≡ false → g x ≡ false → keep g (deleted x l) ≡ keep f l
  stays_deleted l z p q = deleted_other g x l z q ∙ stays l (q ∙ sym p)

  -- x is new: it stands at the end of each line whose test it passes
  pub arrives : (l : List ℕ) → g 0 ≡ false → first l ≡ 0 → has x l ≡ false → keep g (joined x l) ≡ keep f l ++ keep g (x ∷ [])
  arrives l z h n = keep_joined g x l z h ∙ rw (keep_others l n)

  module _ (l : List ℕ) (once : count x l ≡ 1) where
    -- x moves last: it goes from the line, and stands at its end if it passes now
    pub moves : keep g (moved_last x l) ≡ without x (keep f l) ++ keep g (x ∷ [])
    unfolding moved_last
    moves =
        simp (is_listed x l (omega arith), keep_append, keep_others (without x l) (once_gone x l once), keep_without)

    -- x joins the line: it stands at its end
    pub enters : f x ≡ false → g x ≡ true → keep g (moved_last x l) ≡ keep f l ++ (x ∷ [])
    enters p q = moves ∙ rw (absent x (keep f l) (has_not f x l p), q)

    -- x is in the line before and after: it goes to its end
    pub ends : g x ≡ true → keep g (moved_last x l) ≡ without x (keep f l) ++ (x ∷ [])
    ends q = moves ∙ rw q

    -- x leaves the line, and the others keep their order; where x was the head, the tail is left
    pub leaves_moved : g x ≡ false → keep g (moved_last x l) ≡ without x (keep f l)
    leaves_moved q = moves ∙ rw q (append-nil (without x (keep f l)))

    pub leaves : g x ≡ false → keep g l ≡ without x (keep f l)
    leaves q = sym (moved_other g x l q) ∙ leaves_moved q

    pub leaves_deleted : g 0 ≡ false → g x ≡ false → keep g (deleted x l) ≡ without x (keep f l)
    leaves_deleted z q = deleted_other g x l z q ∙ leaves q

    pub head_leaves : g x ≡ false → first (keep f l) ≡ x → keep g l ≡ drop 1 (keep f l)
    head_leaves q h = leaves q ∙ head_goes x (keep f l) h

    pub head_leaves_moved : g x ≡ false → first (keep f l) ≡ x → keep g (moved_last x l) ≡ drop 1 (keep f l)
    head_leaves_moved q h = leaves_moved q ∙ head_goes x (keep f l) h
