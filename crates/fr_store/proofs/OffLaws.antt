-- Laws of places off the way, for proofs: what something else there changes, and what it leaves as it is.
use Rattle.std.proofs.Common.{◌≡◌, ◌≢◌, ◌↔◌, ◌⊎◌, ℕ, zero, suc, ◌<◌, Bool, true, List, [], ◌∷◌, ◌++◌, append-nil, inl, inr, refl, sym, ◌∙◌, ap, subst, arith}
use Rattle.fr_store.specs.Below.{AreUnplaced, HasPlace, IsClosed, IsOffTheWay, Kid, Kids, Place, Plot, Tree, Val, at, begun_plot, body_in, cells_in, entered_plot, gone, kid, no_kids, there, tree_of, whole_plot}
use Rattle.fr_store.specs.LeaveLaws.{kid_at_append}
use Rattle.fr_store.specs.Walks.{IsStoredAt}
use Rattle.fr_store.specs.Ways.{kid_nth, kid_at, put_nth, put_at, slots_along, AllMarked, StoredBut, LeadsUnstored, Reaches}
use Rattle.fr_store.specs.WayLaws.{same_or_other, nth_put, count_put, kid_put_at, marked_at, marked_put_nth, marked_put_at, tree_of_nth, leads_at, count_in, marked_nth}

-- Children of one place.

pub nth_other : (i j : ℕ) (new : Kid) (ks : Kids) → i ≢ j → kid_nth j (put_nth i new ks) ≡ kid_nth j ks
nth_other i j new no_kids ne = refl
nth_other zero zero new (kid k ks) ne = absurd (ne refl)
nth_other zero (suc j) new (kid k ks) ne = refl
nth_other (suc i) zero new (kid k ks) ne = refl
nth_other (suc i) (suc j) new (kid k ks) ne = nth_other i j new ks (λ e. ne (ap suc e))

pub but_nth : (i j : ℕ) (Below : Kid → Type 0) (ks : Kids) → StoredBut j Below ks → i ≢ j → AllMarked true (kid_nth i ks)
but_nth i j Below no_kids but ne = absurd but
but_nth zero zero Below (kid k ks) but ne = absurd (ne refl)
but_nth zero (suc j) Below (kid k ks) but ne = but.0
but_nth (suc i) zero Below (kid k ks) but ne = marked_nth true i ks but.1
but_nth (suc i) (suc j) Below (kid k ks) but ne = but_nth i j Below ks but.1 (λ e. ne (ap suc e))

below_nth : (j : ℕ) (Below : Kid → Type 0) (ks : Kids) → StoredBut j Below ks → Below (kid_nth j ks)
below_nth j Below no_kids but = absurd but
below_nth zero Below (kid k ks) but = but.0
below_nth (suc j) Below (kid k ks) but = below_nth j Below ks but.1

-- another child than the one on the way
but_other : (i j : ℕ) (Below : Kid → Type 0) (new : Kid) (ks : Kids) → StoredBut j Below ks → i ≢ j → AllMarked true new
    → StoredBut j Below (put_nth i new ks)
but_other i j Below new no_kids but ne is = absurd but
but_other zero zero Below new (kid k ks) but ne is = absurd (ne refl)
but_other zero (suc j) Below new (kid k ks) but ne is = (is, but.1)
but_other (suc i) zero Below new (kid k ks) but ne is = (but.0, marked_put_nth true i new ks but.1 is)
but_other (suc i) (suc j) Below new (kid k ks) but ne is = (but.0, but_other i j Below new ks but.1 (λ e. ne (ap suc e)) is)

-- the child on the way
but_same : (j : ℕ) (Below : Kid → Type 0) (new : Kid) (ks : Kids) → StoredBut j Below ks → Below new
    → StoredBut j Below (put_nth j new ks)
but_same j Below new no_kids but is = absurd but
but_same zero Below new (kid k ks) but is = (is, but.1)
but_same (suc j) Below new (kid k ks) but is = (but.0, but_same j Below new ks but.1 is)

-- Places off the way.

off_below : (i : ℕ) (place here : Place) → IsOffTheWay (i ∷ place) (i ∷ here) → IsOffTheWay place here
off_below i place here off way e = off way (ap (λ (p : Place). i ∷ p) e)

off_same : {i j : ℕ} (place here : Place) → i ≡ j → IsOffTheWay (j ∷ place) (i ∷ here) → IsOffTheWay place here
off_same {j} place here e off = off_below j place here (subst (λ (n : ℕ). IsOffTheWay (j ∷ place) (n ∷ here)) e off)

pub leads_same : {i j : ℕ} (place : Place) (ks : Kids) → i ≡ j → StoredBut j (λ below. LeadsUnstored place below) ks
    → LeadsUnstored place (kid_nth i ks)
leads_same {j} place ks e but =
    subst (λ (n : ℕ). LeadsUnstored place (kid_nth n ks)) (sym e) (below_nth j (λ below. LeadsUnstored place below) ks but)

-- a stored place is off the way
pub off_stored : (place here : Place) (k : Kid) {slot : ℕ} {plot : Plot} → LeadsUnstored place k
    → kid_at here k ≡ at slot true plot → IsOffTheWay place here
off_stored place here k {slot} {plot} leads is way e =
    go way (subst (λ (x : Kid). LeadsUnstored way x) is (leads_at here way k (subst (λ (p : Place). LeadsUnstored p k) e leads)))
  where
    go : (way : Place) → LeadsUnstored way (at slot true plot) → ⊥
    go [] l = let apart = l.0 in cc
    go (i ∷ way) l = let apart = l.0 in cc

-- what lies in slots off the way is stored
pub marked_off : (place here : Place) (k : Kid) → LeadsUnstored place k → IsOffTheWay place here → Reaches here k
    → AllMarked true (kid_at here k)
marked_off place [] k leads off reach = absurd (off place refl)
marked_off [] (i ∷ here) (at slot stored (begun_plot tracker kids)) leads off reach =
    marked_at true here (kid_nth i kids) (marked_nth true i kids leads.1)
marked_off (j ∷ place) (i ∷ here) (at slot stored (begun_plot tracker kids)) leads off reach =
    go (same_or_other i j)
    (λ e. marked_off place here (kid_nth i kids) (leads_same place kids e leads.1) (off_same place here e off) reach.1)
  where
    go : (i ≡ j) ⊎ (i ≢ j) → (i ≡ j → AllMarked true (kid_at here (kid_nth i kids)))
        → AllMarked true (kid_at here (kid_nth i kids))
    go (inl e) below = below e
    go (inr ne) below = marked_at true here (kid_nth i kids) (but_nth i j (λ below. LeadsUnstored place below) kids leads.1 ne)
marked_off place (i ∷ here) _ leads off reach = absurd reach

-- the way goes on where something else is put off it, and through the same slots
pub way_off : (place here : Place) (new k : Kid) → LeadsUnstored place k → IsOffTheWay place here → Reaches here k → AllMarked true new
    → LeadsUnstored place (put_at here new k) × (slots_along place (put_at here new k) ≡ slots_along place k)
way_off place [] new k leads off reach is = absurd (off place refl)
way_off [] (i ∷ here) new (at slot stored (begun_plot tracker kids)) leads off reach is = (
  (
    leads.0,
    marked_put_nth true i (put_at here new (kid_nth i kids)) kids leads.1
        (marked_put_at true here new (kid_nth i kids) (marked_nth true i kids leads.1) is),
  ),
  refl,
)
way_off (j ∷ place) (i ∷ here) new (at slot stored (begun_plot tracker kids)) leads off reach is =
    let so = go (same_or_other i j)
    (λ e. way_off place here new (kid_nth i kids) (leads_same place kids e leads.1) (off_same place here e off) reach.1 is) in
    ((leads.0, so.0), ap (λ (slots : List ℕ). slot ∷ slots) so.1)
  where
    child : Kid
    child = put_at here new (kid_nth i kids)

    go : (i ≡ j) ⊎ (i ≢ j) → (i ≡ j → LeadsUnstored place child × (slots_along place child ≡ slots_along place (kid_nth i kids)))
        → StoredBut j (λ below. LeadsUnstored place below) (put_nth i child kids)
        × (slots_along place (kid_nth j (put_nth i child kids)) ≡ slots_along place (kid_nth j kids))
    go (inl e) on = (
      subst (λ (n : ℕ). StoredBut j (λ below. LeadsUnstored place below) (put_nth n child kids)) (sym e)
          (but_same j (λ below. LeadsUnstored place below) child kids leads.1 (on e).0),
      ap (λ (n : ℕ). slots_along place (kid_nth n (put_nth i child kids))) (sym e)
          ∙ ap (slots_along place) (nth_put i child kids reach.0)
          ∙ (on e).1 ∙ ap (λ (n : ℕ). slots_along place (kid_nth n kids)) e,
    )
    go (inr ne) on = (
      but_other i j (λ below. LeadsUnstored place below) child kids leads.1 ne
          (marked_put_at true here new (kid_nth i kids) (but_nth i j (λ below. LeadsUnstored place below) kids leads.1 ne) is),
      ap (slots_along place) (nth_other i j child kids ne),
    )
way_off place (i ∷ here) new _ leads off reach is = absurd reach

-- Places of the tree.

-- a place that is reached is one of the tree
pub reach_place : (place : Place) (k : Kid) → Reaches place k → HasPlace place (tree_of k)
reach_place [] k reach = tt
reach_place (i ∷ place) (at slot stored (begun_plot tracker kids)) reach = (
  omega (arith, count_in kids, reach.0),
  subst (λ (t : Tree). HasPlace place t) (tree_of_nth i kids) (reach_place place (kid_nth i kids) reach.1),
)
reach_place (i ∷ place) _ reach = absurd reach

-- Stored places.

pub is_none_at : (place : Place) → ((slot : ℕ) (stored : Bool) (plot : Plot) → kid_at place gone ≡ at slot stored plot → ⊥)
is_none_at [] slot stored plot e = cc
is_none_at (i ∷ place) slot stored plot e = is_none_at place slot stored plot e

pub is_none_in : (place : Place) (v : Val) {slot : ℕ} {stored : Bool} {plot : Plot} → kid_at place (there v) ≡ at slot stored plot → ⊥
is_none_in [] v e = cc
is_none_in (i ∷ place) v {slot} {stored} {plot} e = is_none_at place slot stored plot e

unplaced_nth : (j : ℕ) (way : Place) (ks : Kids) {slot : ℕ} {stored : Bool} {plot : Plot} → AreUnplaced (cells_in ks)
    → kid_at way (kid_nth j ks) ≡ at slot stored plot → ⊥
unplaced_nth j way no_kids {slot} {stored} {plot} closed e = is_none_at way slot stored plot e
unplaced_nth zero way (kid gone ks) {slot} {stored} {plot} closed e = is_none_at way slot stored plot e
unplaced_nth zero way (kid (there v) ks) {slot} {stored} {plot} closed e = is_none_in way v e
unplaced_nth zero way (kid (at m mark below) ks) closed e = absurd closed.0
unplaced_nth (suc j) way (kid k ks) {slot} {stored} {plot} closed e = unplaced_nth j way ks closed.1 e

-- beneath a place none of whose children is in a slot, none is
pub closed_below : (j : ℕ) (way : Place) (own : ℕ) (mark : Bool) (top : Plot) {slot : ℕ} {stored : Bool} {plot : Plot}
    → IsClosed (body_in top) → kid_at (j ∷ way) (at own mark top) ≡ at slot stored plot → ⊥
closed_below j way own mark entered_plot {slot} {stored} {plot} closed e = is_none_at way slot stored plot e
closed_below j way own mark (whole_plot v) {slot} {stored} {plot} closed e = is_none_at way slot stored plot e
closed_below j way own mark (begun_plot tracker kids) {slot} {stored} {plot} closed e = unplaced_nth j way kids closed e

-- a place is neither this one nor beneath it
abbrev pub IsNotBeneath : (here other : Place) → Type 0
IsNotBeneath here other = (way : Place) → other ≡ here ++ way → ⊥

-- a stored place other than a closed one isn't beneath it
pub stored_beside : (here : Place) {other : Place} {k : Kid} {n : ℕ} {m : ℕ} {plot : Plot} → kid_at here k ≡ at n true plot
    → IsClosed (body_in plot) → IsStoredAt k m other → other ≢ here → IsNotBeneath here other
stored_beside here is closed stored ne [] e = ne (e ∙ append-nil here)
stored_beside here {k} {n} {m} {plot} is closed stored ne (j ∷ way) e =
    closed_below j way n true plot closed
    (ap (kid_at (j ∷ way)) (sym is) ∙ sym (kid_at_append here (j ∷ way) k) ∙ ap (λ (p : Place). kid_at p k) (sym e) ∙ stored.is)

-- it is stored there just where it is once something else is put here
pub stored_both : (here other : Place) (k new : Kid) (m : ℕ) → Reaches here k → IsNotBeneath here other
    → IsStoredAt k m other ↔ IsStoredAt (put_at here new k) m other
stored_both [] other k new m reach beside = absurd (beside other refl)
stored_both (i ∷ here) [] (at slot mark (begun_plot tracker kids)) new m reach beside = (
  λ stored. here_too (begun_plot tracker (put_nth i (put_at here new (kid_nth i kids)) kids)) stored.plot stored.is,
  λ stored. here_too (begun_plot tracker kids) stored.plot stored.is,
)
  where
    here_too : {old : Plot} (other plot : Plot) → at slot mark old ≡ at m true plot → IsStoredAt (at slot mark other) m []
    here_too other plot is =
        let same : slot ≡ m = cc in
        let marked : mark ≡ true = cc in
        record { plot = other; reaches = tt; is = ap (λ (n : ℕ). at n mark other) same ∙ ap (λ (b : Bool). at m b other) marked }
stored_both (i ∷ here) (j ∷ other) (at slot mark (begun_plot tracker kids)) new m reach beside =
    go (same_or_other i j) (λ e. stored_both here other (kid_nth i kids) new m reach.1
    (λ way same. beside way (ap (λ (n : ℕ). n ∷ other) (sym e) ∙ ap (λ (p : Place). i ∷ p) same)))
  where
    child : Kid
    child = put_at here new (kid_nth i kids)

    -- so it is of the place where it is of the child on the way to it
    up : IsStoredAt (kid_nth j kids) m other ↔ IsStoredAt (kid_nth j (put_nth i child kids)) m other
        → IsStoredAt (at slot mark (begun_plot tracker kids)) m (j ∷ other)
        ↔ IsStoredAt (at slot mark (begun_plot tracker (put_nth i child kids))) m (j ∷ other)
    up among = (
      λ stored. let below = among.0 (record { plot = stored.plot; reaches = stored.reaches.1; is = stored.is }) in
          record {
            plot = below.plot;
            reaches = (subst (λ (n : ℕ). j < n) (sym (count_put i child kids)) stored.reaches.0, below.reaches);
            is = below.is;
          },
      λ stored. let below = among.1 (record { plot = stored.plot; reaches = stored.reaches.1; is = stored.is }) in
          record {
            plot = below.plot;
            reaches = (subst (λ (n : ℕ). j < n) (count_put i child kids) stored.reaches.0, below.reaches);
            is = below.is;
          },
    )

    go : (i ≡ j) ⊎ (i ≢ j) → (i ≡ j → IsStoredAt (kid_nth i kids) m other ↔ IsStoredAt child m other)
        → IsStoredAt (at slot mark (begun_plot tracker kids)) m (j ∷ other)
        ↔ IsStoredAt (at slot mark (begun_plot tracker (put_nth i child kids))) m (j ∷ other)
    go (inl e) below =
        up (subst (λ (n : ℕ). IsStoredAt (kid_nth n kids) m other ↔ IsStoredAt (kid_nth n (put_nth i child kids)) m other) e
        (subst (λ (x : Kid). IsStoredAt (kid_nth i kids) m other ↔ IsStoredAt x m other) (sym (nth_put i child kids reach.0)) (below e)))
    go (inr ne) below =
        up (subst (λ (x : Kid). IsStoredAt (kid_nth j kids) m other ↔ IsStoredAt x m other) (sym (nth_other i j child kids ne))
        (λ stored. stored, λ stored. stored))
stored_both (i ∷ here) other _ new m reach beside = absurd reach

-- where a value is put what is stored then was stored before
pub stored_before : (here : Place) {other : Place} (k : Kid) (v : Val) {m : ℕ} → Reaches here k
    → IsStoredAt (put_at here (there v) k) m other → IsStoredAt k m other
stored_before here {other} k v {m} reach stored =
    (stored_both here other k (there v) m reach (λ way e. is_none_in
    way v (ap (kid_at way) (sym (kid_put_at here (there v) k reach)) ∙ sym (kid_at_append here way (put_at here (there v) k))
    ∙ ap (λ (p : Place). kid_at p (put_at here (there v) k)) (sym e) ∙ stored.is))).1 stored

-- what was put there is stored no more
pub stored_no_more : {here : Place} (k : Kid) (v : Val) {m : ℕ} → Reaches here k → IsStoredAt (put_at here (there v) k) m here → ⊥
stored_no_more {here} k v {m} reach stored =
    let both : there v ≡ at m true stored.plot = sym (kid_put_at here (there v) k reach) ∙ stored.is in
    cc

-- Ways in two parts.

pub reaches_append : (place below : Place) (k : Kid) → Reaches (place ++ below) k → Reaches place k × Reaches below (kid_at place k)
reaches_append [] below k reach = (tt, reach)
reaches_append (i ∷ place) below (at slot stored (begun_plot tracker kids)) reach =
    let rest = reaches_append place below (kid_nth i kids) reach.1 in
    ((reach.0, rest.0), rest.1)
reaches_append (i ∷ place) below _ reach = absurd reach

pub reaches_both : (place below : Place) (k : Kid) → Reaches place k → Reaches below (kid_at place k) → Reaches (place ++ below) k
reaches_both [] below k reach rest = rest
reaches_both (i ∷ place) below (at slot stored (begun_plot tracker kids)) reach rest =
    (reach.0, reaches_both place below (kid_nth i kids) reach.1 rest)
reaches_both (i ∷ place) below _ reach rest = absurd reach

-- where something else is put the way leads still
pub reach_put : (place : Place) (new k : Kid) → Reaches place k → Reaches place (put_at place new k)
reach_put [] new k reach = tt
reach_put (i ∷ place) new (at slot stored (begun_plot tracker kids)) reach = (
  subst (λ (n : ℕ). i < n) (sym (count_put i (put_at place new (kid_nth i kids)) kids)) reach.0,
  subst (Reaches place) (sym (nth_put i (put_at place new (kid_nth i kids)) kids reach.0)) (reach_put place new (kid_nth i kids) reach.1),
)
reach_put (i ∷ place) new _ reach = absurd reach

-- a place is this one or lies beneath it, or it doesn't
pub beneath_or_not : (above other : Place) → ((way : Place) × (other ≡ above ++ way)) ⊎ IsNotBeneath above other
beneath_or_not [] other = inl (other, refl)
beneath_or_not (i ∷ above) [] = inr (λ way e. cc)
beneath_or_not (i ∷ above) (j ∷ other) = go (same_or_other i j) (beneath_or_not above other)
  where
    go : (i ≡ j) ⊎ (i ≢ j) → ((way : Place) × (other ≡ above ++ way)) ⊎ IsNotBeneath above other
        → ((way : Place) × (j ∷ other ≡ i ∷ above ++ way)) ⊎ IsNotBeneath (i ∷ above) (j ∷ other)
    go (inl e) (inl found) = inl (found.0, ap (λ (n : ℕ). n ∷ other) (sym e) ∙ ap (λ (p : Place). i ∷ p) found.1)
    go (inl e) (inr beside) = inr (λ way same. let rest : other ≡ above ++ way = cc in beside way rest)
    go (inr ne) rest = inr (λ way same. let first : i ≡ j = cc in ne first)
