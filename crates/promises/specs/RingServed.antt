-- Serving ring n in settled tables: who left its lines, and that their parcels had, or have, the bytes that went in and out.
use Rattle.std.specs.Prelude.{ℕ, ◌+◌, ◌-◌, ◌≤◌, ◌≡◌, refl, true, false, not, List, [], ◌∷◌, ◌++◌, eqb}
use Rattle.std.proofs.Common.{subst, sym, ap, ◌∙◌, true≢false, append-nil, append_assoc, arith, eqb-true}
use Rattle.std.proofs.lemmas.List.Edits.{take-paste}
use Rattle.std.proofs.lemmas.Bool.{eqb-false}
use Rattle.basics.specs.Tests.{test, holds, fails}
use Rattle.arrivals.specs.Order.{count, has, keep}
use Rattle.arrivals.specs.Listed.{listed, is_not_listed, is_listed, count_append, has_here, has_behind}
use Rattle.arrivals.specs.Views.{keep_append, keep_none, count_keep, count_keep_le}
use Rattle.std.specs.Prelude.{Some}
use Rattle.bay.specs.Bay.{contents, filled}
use Rattle.bay.specs.Laws.{length_contents}
use Rattle.tables.specs.declared.Tables.{Tables}
use Rattle.tables.specs.declared.Place.TheVariants.{Nowhere, Putting}
use Rattle.tables.specs.declared.Line.{Line}
use Rattle.tables.specs.declared.Line.TheVariants.{Getters, Putters}
use Rattle.tables.specs.Access.{numbered, process_of, ring_in, parcel_for}
use Rattle.tables.specs.Lines.{line, stands, standing}
use Rattle.rings.specs.Serving.{getter_can, asked, entering, leaving, service, served}
use Rattle.rings.specs.Changes.{changed_parcel, changed_parcels, Fit}
use Rattle.rings.specs.Turns.{Chosen, gets, puts, Turn, nowhere_getting, who_gets, getter_served, parcel_is, none_put, got_bytes, is_putter, who_puts, putter_served, put_bytes, none_got, getter_turn, putter_turn}
use Rattle.rings.proofs.Steps.{served_keeps}
use Rattle.sound.specs.Sentences.{in_no_other_line}
use Rattle.promises.specs.KeptReady.{fits_as}
use Rattle.promises.specs.KeptRingsServed.{Serves, serves_service}
use Rattle.promises.specs.Turns.{held_as, parcel_bytes, parcels_bytes}

-- ---- parcels' bytes

-- The same parcels have the same bytes
pub parcels_same : (t u : Tables) (l : List ℕ) → ((p : ℕ) → has p l ≡ true → parcel_for u p ≡ parcel_for t p) → parcels_bytes u l ≡ parcels_bytes t l
unfolding parcels_bytes
parcels_same t u [] h = refl
parcels_same t u (p ∷ l) h = rw (h p (has_here p l), parcels_same t u l (λ x k. h x (has_behind p x l k)))

-- One more parcel behind
parcels_last : (t : Tables) (l : List ℕ) (x : ℕ) → parcels_bytes t (l ++ (x ∷ [])) ≡ parcels_bytes t l ++ parcel_bytes t x
unfolding parcels_bytes
parcels_last t [] x = append-nil (parcel_bytes t x)
parcels_last t (p ∷ l) x = rw (parcels_last t l x) (sym (append_assoc (parcel_bytes t p) (parcels_bytes t l) (parcel_bytes t x)))

-- ---- who left a line

-- Those of a line whose first ones went, and of whom nobody is listed twice, are those first ones
pub those_who_left : (gone l : List ℕ) → ((p : ℕ) → count p (gone ++ l) ≤ 1) → keep (λ p. not (has p l)) (gone ++ l) ≡ gone
those_who_left gone l once =
    keep_append (λ p. not (has p l)) gone l
    ∙ rw (keep_none (λ p. not (has p l)) l (λ y h. rw h refl))
    (append-nil (keep (λ p. not (has p l)) gone) ∙ all gone (λ y h. rw (is_not_listed y l (omega (arith, once y, count_append y gone l, listed y gone h))) refl))
  where
    all : (r : List ℕ) → ((y : ℕ) → has y r ≡ true → not (has y l) ≡ true) → keep (λ p. not (has p l)) r ≡ r
    all [] h = refl
    all (y ∷ r) h = rw (h y (has_here y r)) (ap (λ (z : List ℕ). y ∷ z) (all r (λ x k. h x (has_behind y x r k))))

-- Nobody is twice in a line
pub line_once : {b : ℕ} {t : Tables} → Fit b t → (x : Line) → stands x Nowhere ≡ false → (p : ℕ) → count p (line x t) ≤ 1
unfolding line numbered
line_once {b} {t} fit x none p =
    elim (test (eqb p 0)) [
      | holds e ↦ rw (eqb-true p 0 e, count_keep (standing x t.processes) 0 t.order, none) (omega arith)
      | fails e ↦ omega (arith, count_keep_le (standing x t.processes) p t.order, fit.once p (eqb-false p 0 e))
    ]

-- ---- what was served so far

-- Of those who stood in the two lines in tables t these are gone in tables u, each from the front; the putters' parcels of t went into the ring, the getters' bytes lie in their parcels of u
pub record Served (n b : ℕ) (t u : Tables) : Type 0 where
  pub got_theirs : List ℕ
  pub put_theirs : List ℕ
  pub getters : line (Getters n) t ≡ got_theirs ++ line (Getters n) u
  pub putters : line (Putters n) t ≡ put_theirs ++ line (Putters n) u
  pub bytes : contents (ring_in t b) ++ parcels_bytes t put_theirs ≡ parcels_bytes u got_theirs ++ contents (ring_in u b)
  pub parcels : (p : ℕ) → has p (line (Putters n) u) ≡ true → parcel_for u p ≡ parcel_for t p
  pub serves : Serves n b u

-- Nobody is served yet
served_none : (n b : ℕ) (t : Tables) → Serves n b t → Served n b t t
unfolding parcels_bytes
served_none n b t v =
    record { got_theirs = []; put_theirs = []; getters = refl; putters = refl; bytes = append-nil (contents (ring_in t b)); parcels = λ p h. refl; serves = v }

-- Nobody is in both lines
both_lines : (n p : ℕ) (t : Tables) → has p (line (Getters n) t) ≡ true → has p (line (Putters n) t) ≡ true → ⊥
both_lines n p t g h = let z : ◌≡◌ {A = ℕ} 5 6 = (in_no_other_line t (Getters n) (Putters n) p g h).0 in omega arith

-- In two parts, where in one
pub has_front : (p : ℕ) (l r : List ℕ) → has p l ≡ true → has p (l ++ r) ≡ true
has_front p l r h = is_listed p (l ++ r) (omega (arith, count_append p l r, listed p l h))

-- or in the second
has_end : (p : ℕ) (l r : List ℕ) → has p r ≡ true → has p (l ++ r) ≡ true
has_end p l r h = is_listed p (l ++ r) (omega (arith, count_append p l r, listed p r h))

-- Who is in one part of a list that has each once is not in the other
not_both : (p : ℕ) (l r : List ℕ) → ((x : ℕ) → count x (l ++ r) ≤ 1) → has p l ≡ true → has p r ≡ true → ⊥
not_both p l r once h k = omega (arith, once p, count_append p l r, listed p l h, listed p r k)

module _ (n b : ℕ) (t : Tables) (fit_before : Fit b t) (u : Tables) (fit : Fit b u) (s : Served n b t u) where
  -- Each was in its line once
  getters_once : (p : ℕ) → count p (s.got_theirs ++ line (Getters n) u) ≤ 1
  getters_once p = rw (← s.getters) (line_once fit_before (Getters n) (nowhere_getting n) p)

  -- Whoever got its bytes before is not in the getters' line,
  no_getter_again : (p : ℕ) → has p s.got_theirs ≡ true → has p (line (Getters n) u) ≡ true → ⊥
  no_getter_again p h k = not_both p s.got_theirs (line (Getters n) u) getters_once h k

  -- nor in the putters'
  no_putter_then : (p : ℕ) → has p s.got_theirs ≡ true → has p (line (Putters n) u) ≡ true → ⊥
  no_putter_then p h k =
      both_lines n p t (rw s.getters (has_front p s.got_theirs (line (Getters n) u) h)) (rw s.putters (has_end p s.put_theirs (line (Putters n) u) k))

  -- The head getter is served next
  module _ (x : ℕ) (gs : List ℕ) (e : line (Getters n) u ≡ x ∷ gs) (enough : asked (process_of u x).place ≤ (ring_in u b).held) where
    -- What it wants, and the tables then
    abbrev want : ℕ
    want = asked (process_of u x).place

    abbrev next : Tables
    next = service b x u

    -- It is the rule's turn
    turn : Turn n b x u gs (line (Putters n) u) ((ring_in u b).held - want)
    turn = getter_turn n b x gs u fit e enough

    -- Only its parcel changes,
    next_parcels : (p : ℕ) → (p ≡ x → ⊥) → parcel_for next p ≡ parcel_for u p
    next_parcels p h = rw (getter_served n b x gs u fit e enough) (changed_parcels b x _ _ u (who_gets n b x gs u fit e enough) p h)

    -- and has the bytes that left the ring:
    next_parcel : parcel_for next x ≡ filled (parcel_for u x) 0 (contents (ring_in u b)) want
    next_parcel = rw (getter_served n b x gs u fit e enough) (changed_parcel b x _ _ u (who_gets n b x gs u fit e enough) ∙ parcel_is n b x gs u fit e enough)

    -- they are what the parcel holds
    next_bytes : parcel_bytes next x ≡ leaving b x u
    unfolding held_as filled
    next_bytes =
        rw (next_parcel, got_bytes n b x gs u fit e enough)
        (take-paste (parcel_for u x).bytes 0 (contents (ring_in u b)) want (omega (arith, fit.whole x, fit.short x)) (rw (length_contents (ring_in u b)) enough))

    -- Whoever got its bytes before has them still
    got_still : parcels_bytes next s.got_theirs ≡ parcels_bytes u s.got_theirs
    got_still = parcels_same u next s.got_theirs (λ p h. next_parcels p (λ z. no_getter_again p h (rw e (subst (λ y. has y (x ∷ gs) ≡ true) (sym z) (has_here x gs)))))

    -- So it is one more of those who got theirs
    getter_next : Served n b t next
    getter_next =
        record {
          got_theirs = s.got_theirs ++ (x ∷ []);
          put_theirs = s.put_theirs;
          getters = s.getters ∙ rw (e, turn.getters) (sym (append_assoc s.got_theirs (x ∷ []) gs));
          putters = s.putters ∙ rw turn.putters;
          bytes =
              s.bytes
              ∙ ap (λ (l : List ℕ). parcels_bytes u s.got_theirs ++ l) (sym (append-nil (contents (ring_in u b))) ∙ ap (λ (l : List ℕ). contents (ring_in u b) ++ l) (sym (none_put n b x gs u fit e enough)) ∙ turn.bytes)
              ∙ sym (append_assoc (parcels_bytes u s.got_theirs) (leaving b x u) (contents (ring_in next b)))
              ∙ rw (parcels_last next s.got_theirs x, got_still, next_bytes);
          parcels = λ p h.
              let was : has p (line (Putters n) u) ≡ true = rw turn.putters at h in
              next_parcels p (λ z. true≢false (sym was ∙ rw z turn.no_putter)) ∙ s.parcels p was;
          serves = serves_service fit (gets x gs e enough) s.serves;
        }

  -- or the head putter
  module _ (x : ℕ) (ps : List ℕ) (g : getter_can n b u ≡ false) (e : line (Putters n) u ≡ x ∷ ps) (room : (ring_in u b).held + asked (process_of u x).place ≤ (ring_in u b).size) where
    -- What it brings, and the tables then
    abbrev bring : ℕ
    bring = asked (process_of u x).place

    abbrev then : Tables
    then = service b x u

    -- It is the rule's turn
    turn_then : Turn n b x u (line (Getters n) u) ps ((ring_in u b).held + bring)
    turn_then = putter_turn n b x ps u fit e room

    -- Only its parcel changes,
    then_parcels : (p : ℕ) → (p ≡ x → ⊥) → parcel_for then p ≡ parcel_for u p
    then_parcels p h = rw (putter_served n b x ps u fit e room) (changed_parcels b x _ _ u (who_puts n b x ps u fit e room) p h)

    -- whose bytes, as many as it brings, enter the ring
    putter_holds : (parcel_for u x).holds ≡ Some bring
    unfolding process_of parcel_for
    putter_holds = (fits_as u s.serves.settled x (Putting n bring) (is_putter n b x ps u fit e room)).1

    -- It stood in line until now, so its parcel is the one of tables t
    in_line_yet : has x (line (Putters n) u) ≡ true
    in_line_yet = rw e (has_here x ps)

    then_bytes : parcel_bytes t x ≡ entering x u
    unfolding held_as
    then_bytes = rw (← s.parcels x in_line_yet, putter_holds, put_bytes n b x ps u fit e room)

    -- Whoever got its bytes before has them still
    got_then : parcels_bytes then s.got_theirs ≡ parcels_bytes u s.got_theirs
    got_then = parcels_same u then s.got_theirs (λ p h. then_parcels p (λ z. no_putter_then p h (rw z in_line_yet)))

    -- So it is one more of those who put theirs
    putter_next : Served n b t then
    putter_next =
        record {
          got_theirs = s.got_theirs;
          put_theirs = s.put_theirs ++ (x ∷ []);
          getters = s.getters ∙ rw turn_then.getters;
          putters = s.putters ∙ rw (e, turn_then.putters) (sym (append_assoc s.put_theirs (x ∷ []) ps));
          bytes =
              rw (parcels_last t s.put_theirs x, got_then, then_bytes)
              (sym (append_assoc (contents (ring_in t b)) (parcels_bytes t s.put_theirs) (entering x u))
              ∙ ap (λ (l : List ℕ). l ++ entering x u) s.bytes
              ∙ append_assoc (parcels_bytes u s.got_theirs) (contents (ring_in u b)) (entering x u)
              ∙ ap (λ (l : List ℕ). parcels_bytes u s.got_theirs ++ l) (turn_then.bytes ∙ ap (λ (l : List ℕ). l ++ contents (ring_in then b)) (none_got n b x ps u fit e room)));
          parcels = λ p h.
              let now : has p ps ≡ true = rw turn_then.putters at h in
              then_parcels p (λ z. true≢false (sym now ∙ rw z turn_then.no_putter)) ∙ s.parcels p (rw e (has_behind x p ps now));
          serves = serves_service fit (puts x ps g e room) s.serves;
        }

-- One service more
served_next : {n b x : ℕ} {t u : Tables} → Fit b t → Fit b u → Chosen n b u x → Served n b t u → Served n b t (service b x u)
served_next {n} {b} {x} {t} {u} fit_before fit (gets y gs e enough) s = getter_next n b t fit_before u fit s x gs e enough
served_next {n} {b} {x} {t} {u} fit_before fit (puts y ps g e room) s = putter_next n b t fit_before u fit s x ps g e room

-- The whole serving
pub all_served : (n b : ℕ) (t : Tables) → Fit b t → Serves n b t → Served n b t (served n b t)
all_served n b t fit v = served_keeps n b t fit (λ u. Served n b t u) (λ u x f c s. served_next fit f c s) (served_none n b t v)
