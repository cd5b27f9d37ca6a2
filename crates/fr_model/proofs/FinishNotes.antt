-- What the end of deferred mode notes is what is due, and it can't end exactly where something due isn't there.
use Rattle.std.proofs.Common.{◌≡◌, ◌≢◌, ◌⊎◌, ◌+◌, ◌<◌, ◌≤◌, ◌==◌, if◌then◌else◌, ◌∷◌, ◌++◌, ◌↔◌}
use Rattle.fr_model.proofs.Common.{inl, inr, ⊎_elim, ℕ, zero, suc, Bool, true, false, eqb-true, eq-eqb, [], append_assoc, append-nil, Option, Some, None, refl, sym, ◌∙◌, ap, subst, arith, Contains, Contains-append_left, Contains-append_right, Contains-append_cases, Table, Val, IsAbove, IsLeft, IsHole, IsCursor, IsDue, StuckOrNoted, NotesWhatIsDue, Note, wrote_at, Journal, Held, in_parts, written, just_entered, untouched, held, child_makes, completes, both_notes, each_notes, writing, closing_by, closing, closing_here_by, closing_here, finish_notes, Place, deferred_column, child_count, child_shape, shape_at, fill_at}
use Rattle.fr_model.specs.DueNotes.{IsStuck}
use Rattle.fr_model.proofs.Agreement.{hole_makes}
use Rattle.fr_model.proofs.Templates.{only_one}

-- a note writes the value that is due at its place
pub record IsNoteOf (Due : Place → Option Val → Type 0) (note : Note) : Type 0 where
  pub here : Place
  pub value : Val
  pub writes : note ≡ wrote_at here value
  pub due : Due here (Some value)

-- the notes are of just what is due, and each value that is due is there
pub record AreOf (Due : Place → Option Val → Type 0) (notes : Journal) : Type 0 where
  pub never : (here : Place) → Due here None → ⊥
  pub noted : (note : Note) → Contains notes note → IsNoteOf Due note
  pub is_noted : (here : Place) (value : Val) → Due here (Some value) → Contains notes (wrote_at here value)

-- there are no notes, as a value that is due isn't there; or they are of just what is due
pub Means : (Due : Place → Option Val → Type 0) → Option Journal → Type 0
Means Due None = (here : Place) × Due here None
Means Due (Some notes) = AreOf Due notes

-- the same things are due
means_same : (Due Other : Place → Option Val → Type 0) (found : Option Journal)
    → ((here : Place) (value : Option Val) → Due here value → Other here value)
    → ((here : Place) (value : Option Val) → Other here value → Due here value) → Means Due found → Means Other found
unfolding Means
means_same Due Other None to from stuck = (stuck.0, to stuck.0 None stuck.1)
means_same Due Other (Some notes) to from are = record {
  never = λ here due. are.never here (from here None due);
  noted = λ note among.
      let there = are.noted note among in
      record { here = there.here; value = there.value; writes = there.writes; due = to there.here _ there.due };
  is_noted = λ here value due. are.is_noted here value (from here (Some value) due);
}

-- nothing is due
means_nothing : (Due : Place → Option Val → Type 0) → ((here : Place) (value : Option Val) → Due here value → ⊥) → Means Due (Some [])
unfolding Means
means_nothing Due nothing = record {
  never = λ here due. nothing here None due;
  noted = λ note among. absurd (let below = among.1 in omega arith);
  is_noted = λ here value due. absurd (nothing here (Some value) due);
}

-- one value is due, at one place
abbrev One : Place → Option Val → Place → Option Val → Type 0
One there makes here value = (here ≡ there) × (value ≡ makes)

means_writing : (there : Place) (makes : Option Val) → Means (One there makes) (writing there makes)
unfolding Means
means_writing there None = (there, (refl, refl))
means_writing there (Some v) = record {
  never = λ here due. let same = due.1 in cc;
  noted = λ note among. record { here = there; value = v; writes = only_one _ note among; due = (refl, refl) };
  is_noted = λ here value due. it_is here value due.0 due.1;
}
  where
    it_is : (here : Place) (value : Val) → here ≡ there → Some value ≡ Some v → Contains (wrote_at there v ∷ []) (wrote_at here value)
    it_is here value at same = let is : value ≡ v = cc in (zero, omega arith, cc)

-- what is due by one or by the other
abbrev Either : (Due Other : Place → Option Val → Type 0) → Place → Option Val → Type 0
Either Due Other here value = Due here value ⊎ Other here value

means_both : (Due Other : Place → Option Val → Type 0) (some others : Option Journal) → Means Due some → Means Other others
    → Means (Either Due Other) (both_notes some others)
unfolding Means
means_both Due Other None others one more = (one.0, inl one.1)
means_both Due Other (Some some) None one more = (more.0, inr more.1)
means_both Due Other (Some some) (Some others) one more = record {
  never = λ here due. ⊎_elim (one.never here) (more.never here) due;
  noted = λ note among.
      ⊎_elim (λ c. by_one note (one.noted note c)) (λ c. by_more note (more.noted note c))
      (Contains-append_cases some others note among);
  is_noted = λ here value due.
      ⊎_elim (λ d. Contains-append_left some others _ (one.is_noted here value d))
      (λ d. Contains-append_right some others _ (more.is_noted here value d)) due;
}
  where
    by_one : (note : Note) → IsNoteOf Due note → IsNoteOf (Either Due Other) note
    by_one note there = record { here = there.here; value = there.value; writes = there.writes; due = inl there.due }

    by_more : (note : Note) → IsNoteOf Other note → IsNoteOf (Either Due Other) note
    by_more note there = record { here = there.here; value = there.value; writes = there.writes; due = inr there.due }

-- what is due by one of so many, number i first
abbrev Among : (ℕ → Place → Option Val → Type 0) → (count i : ℕ) → Place → Option Val → Type 0
Among Due count i here value = (k : ℕ) × (i ≤ k) × (k < i + count) × Due k here value

means_each : (Due : ℕ → Place → Option Val → Type 0) (noted : ℕ → Option Journal) → ((k : ℕ) → Means (Due k) (noted k))
    → (count i : ℕ) → Means (Among Due count i) (each_notes noted count i)
means_each Due noted each zero i =
    means_nothing _ (λ here value due. let above = due.1 in let below = due.2 in omega arith)
means_each Due noted each (suc count) i =
    means_same _ _ _
    (λ here value due. ⊎_elim (λ d. (i, omega arith, omega arith, d)) (λ d. later here value d) due) (λ here value due.
    first_or here value due.0 due.1 due.2 due.3)
    (means_both (Due i) (Among Due count (suc i)) (noted i) (each_notes noted count (suc i)) (each i)
    (means_each Due noted each count (suc i)))
  where
    later : (here : Place) (value : Option Val) → Among Due count (suc i) here value → Among Due (suc count) i here value
    later here value d = let above = d.1 in let below = d.2 in (d.0, omega arith, omega arith, d.3)

    first_or : (here : Place) (value : Option Val) (k : ℕ) → i ≤ k → k < i + suc count → Due k here value
        → Either (Due i) (Among Due count (suc i)) here value
    first_or here value k above below d = go (i == k) refl
      where
        go : (b : Bool) → (i == k) ≡ b → Either (Due i) (Among Due count (suc i)) here value
        go true e = inl (subst (λ (m : ℕ). Due m here value) (sym (eqb-true i k e)) d)
        go false e = inr (k, grind arith, omega arith, d)

-- The notes along the way

-- of child j of the place `above` of shape s, which isn't on the way
pub record IsBeside (table : Table) (notes : Journal) (s : ℕ) (above : Place) (on_way j : ℕ) (here : Place) (value : Option Val)
    : Type 0 where
  pub apart : j ≢ on_way
  pub touched : held notes (above ++ j ∷ []) ≢ untouched
  pub child : here ≡ above ++ j ∷ []
  pub makes : value ≡ completes deferred_column table notes (child_shape table s j) (above ++ j ∷ [])

means_closing : (there : Place) (makes : Option Val) (h : Held)
    → Means (λ here value. (h ≢ untouched) × One there makes here value) (closing_by h (writing there makes))
means_closing there makes untouched = means_nothing _ (λ here value due. due.0 refl)
means_closing there makes _ =
    means_same _ _ _ (λ here value due. ((λ e. cc), due)) (λ here value due. due.1) (means_writing there makes)

-- of the parts of a place that has any, or of itself
abbrev ByHeld : Held → (Parts : Place → Option Val → Type 0) → Place → (itself : Option Val) → Place → Option Val → Type 0
ByHeld h Parts above itself here value = ((h ≡ in_parts) × Parts here value) ⊎ ((h ≢ in_parts) × One above itself here value)

means_by : (Parts : Place → Option Val → Type 0) (above : Place) (itself : Option Val) (h : Held) (parts : Option Journal)
    → Means Parts parts → Means (ByHeld h Parts above itself) (closing_here_by h parts (writing above itself))
means_by Parts above itself h parts means = go h
  where
    alone : (other : Held) → other ≢ in_parts → Means (ByHeld other Parts above itself) (writing above itself)
    alone other no_parts =
        means_same _ _ _ (λ here value due. inr (no_parts, due))
        (λ here value due. ⊎_elim (λ p. absurd (no_parts p.0)) (λ own. own.1) due) (means_writing above itself)

    go : (h : Held) → Means (ByHeld h Parts above itself) (closing_here_by h parts (writing above itself))
    go in_parts =
        means_same Parts _ parts (λ here value due. inl (refl, due))
        (λ here value due. ⊎_elim (λ p. p.1) (λ own. absurd (own.0 refl)) due) means
    go (written v) = alone (written v) (λ e. cc)
    go just_entered = alone just_entered (λ e. cc)
    go untouched = alone untouched (λ e. cc)

module _ (table : Table) (notes : Journal) where
  means_beside : (s : ℕ) (above : Place) (on_way j : ℕ) → Means (IsBeside table notes s above on_way j)
      (if j == on_way then Some [] else closing table notes (child_shape table s j) (above ++ j ∷ []))
  means_beside s above on_way j = go (j == on_way) refl
    where
      go : (b : Bool) → (j == on_way) ≡ b → Means (IsBeside table notes s above on_way j)
          (if b then Some [] else closing table notes (child_shape table s j) (above ++ j ∷ []))
      go true e = means_nothing _ (λ here value due. due.apart (eqb-true j on_way e))
      go false e =
          means_same _ (IsBeside table notes s above on_way j) _
          (λ here value due. record {
            apart = λ same. let yes = eq-eqb j on_way same in cc;
            touched = due.0;
            child = due.1.0;
            makes = due.1.1;
          }) (λ here value due. (due.touched, (due.child, due.makes))) (means_closing (above ++ j ∷ [])
          (completes deferred_column table notes (child_shape table s j) (above ++ j ∷ [])) (held notes (above ++ j ∷ [])))

  -- of child j of the cursor's place `above` of shape s, which has parts
  abbrev pub PartOf : ℕ → Place → ℕ → Place → Option Val → Type 0
  PartOf s above j =
      One (above ++ j ∷ []) (child_makes (held notes (above ++ j ∷ [])) (fill_at deferred_column table s j)
      (completes deferred_column table notes (child_shape table s j) (above ++ j ∷ [])))

  -- of the cursor's place `above` of shape s, or of its parts
  abbrev pub DueHere : ℕ → Place → Place → Option Val → Type 0
  DueHere s above here value =
      ((held notes above ≡ in_parts) × Among (PartOf s above) (child_count table s) 0 here value)
      ⊎ ((held notes above ≢ in_parts) × One above (completes deferred_column table notes s above) here value)

  means_here : (s : ℕ) (above : Place) → Means (DueHere s above) (closing_here table notes s above)
  means_here s above = means_by _ above _ _ _ (means_each _ _ (λ j. means_writing _ _) _ 0)

  -- from the place `above` of shape s on, the rest of the way leading to the cursor
  abbrev pub DueFrom : ℕ → (above rest : Place) → Place → Option Val → Type 0
  DueFrom s above [] here value = DueHere s above here value
  DueFrom s above (i ∷ rest) here value =
      Among (IsBeside table notes s above i) (child_count table s) 0 here value
      ⊎ DueFrom (child_shape table s i) (above ++ i ∷ []) rest here value

  means_finish : (rest : Place) (s : ℕ) (above : Place) → Means (DueFrom s above rest) (finish_notes table notes s above rest)
  means_finish [] s above = means_here s above
  means_finish (i ∷ rest) s above =
      means_both _ _ _ _ (means_each _ _ (λ j. means_beside s above i j) _ 0)
      (means_finish rest (child_shape table s i) (above ++ i ∷ []))

-- Place by place

shape_on : (table : Table) (s : ℕ) (above : Place) (i : ℕ)
    → shape_at table s (above ++ i ∷ []) ≡ child_shape table (shape_at table s above) i
shape_on table s [] i = refl
shape_on table s (j ∷ above) i = shape_on table _ above i

-- two ways on from one place begin alike, and none leads back
pub same_first : (above : Place) (i j : ℕ) (rest way : Place) → above ++ i ∷ rest ≡ above ++ j ∷ way → i ≡ j
same_first [] i j rest way e = cc
same_first (k ∷ above) i j rest way e = let on : above ++ i ∷ rest ≡ above ++ j ∷ way = cc in same_first above i j rest way on

never_back : (above : Place) (j : ℕ) (way : Place) → above ≡ above ++ j ∷ way → ⊥
never_back [] j way e = cc
never_back (k ∷ above) j way e = let on : above ≡ above ++ j ∷ way = cc in never_back above j way on

pub touched_makes : (h : Held) (fill own : Option Val) → h ≢ untouched → child_makes h fill own ≡ own
touched_makes untouched fill own touched = absurd (touched refl)
touched_makes _ fill own touched = refl

data TouchedOr (h : Held) : Type 0 where
  is_untouched : h ≡ untouched → TouchedOr h
  is_touched : h ≢ untouched → TouchedOr h

touched_or : (h : Held) → TouchedOr h
touched_or untouched = is_untouched refl
touched_or _ = is_touched (λ e. cc)

-- down a way, to the children beside it and to its end

module _ (table : Table) (notes : Journal) (here : Place) (value : Option Val) where
  reach : (up : Place) (s : ℕ) (done : Place) (i : ℕ) (rest : Place) (j : ℕ) → j < child_count table (shape_at table s up)
      → IsBeside table notes (shape_at table s up) (done ++ up) i j here value → DueFrom table notes s done (up ++ i ∷ rest) here value
  reach [] s done i rest j there beside =
      inl (
        j,
        omega arith,
        omega arith,
        subst (λ (place : Place). IsBeside table notes s place i j here value) (append-nil done) beside,
      )
  reach (k ∷ up) s done i rest j there beside =
      inr (reach up (child_shape table s k) (done ++ k ∷ []) i rest j there
      (subst (λ (place : Place). IsBeside table notes (shape_at table (child_shape table s k) up) place i j here value)
      (sym (append_assoc done (k ∷ []) up)) beside))

  reach_end : (rest : Place) (s : ℕ) (done : Place) → DueHere table notes (shape_at table s rest) (done ++ rest) here value
      → DueFrom table notes s done rest here value
  reach_end [] s done due = subst (λ (place : Place). DueHere table notes s place here value) (append-nil done) due
  reach_end (k ∷ rest) s done due =
      inr (reach_end rest _ _
      (subst (λ (place : Place). DueHere table notes (shape_at table (child_shape table s k) rest) place here value)
      (sym (append_assoc done (k ∷ []) rest)) due))

module _ (table : Table) (root : ℕ) (notes : Journal) (cursor : Place) where
  abbrev Due : Place → Option Val → Type 0
  Due here value = IsDue table root notes cursor here value

  -- what a child makes, in both forms
  own_at : (above : Place) (j : ℕ) (here : Place) → here ≡ above ++ j ∷ []
      → completes deferred_column table notes (child_shape table (shape_at table root above) j) (above ++ j ∷ [])
      ≡ completes deferred_column table notes (shape_at table root here) here
  own_at above j here child =
      ap (λ (s : ℕ). completes deferred_column table notes s (above ++ j ∷ [])) (sym (shape_on table root above j))
      ∙ ap (λ (place : Place). completes deferred_column table notes (shape_at table root place) place) (sym child)

  beside_due : (above : Place) (i : ℕ) (rest here : Place) (value : Option Val) (j : ℕ) → cursor ≡ above ++ i ∷ rest
      → j < child_count table (shape_at table root above) → IsBeside table notes (shape_at table root above) above i j here value
      → Due here value
  beside_due above i rest here value j way there beside = inl (record {
    above = above;
    i = j;
    child = beside.child;
    closes = inl (record { step = i; rest = rest; way = way });
    there = there;
    touched = subst (λ (place : Place). held notes place ≢ untouched) (sym beside.child) beside.touched;
    off = λ on leads. beside.apart (same_first above j i on rest (on_the_way on leads));
    makes = beside.makes ∙ own_at above j here beside.child;
  })
    where
      on_the_way : (on : Place) → cursor ≡ here ++ on → above ++ j ∷ on ≡ above ++ i ∷ rest
      on_the_way on leads =
          sym (append_assoc above (j ∷ []) on) ∙ ap (λ (place : Place). place ++ on) (sym beside.child) ∙ sym leads ∙ way

  part_due : (here : Place) (value : Option Val) (j : ℕ) → held notes cursor ≡ in_parts
      → j < child_count table (shape_at table root cursor) → PartOf table notes (shape_at table root cursor) cursor j here value
      → Due here value
  part_due here value j parts there part = go (touched_or (held notes (cursor ++ j ∷ [])))
    where
      go : TouchedOr (held notes (cursor ++ j ∷ [])) → Due here value
      go (is_untouched e) = inr (inl (record {
        i = j;
        parts = parts;
        child = part.0;
        there = there;
        hole = ap (λ (place : Place). held notes place) part.0 ∙ e;
        takes = part.1 ∙ hole_makes _ _ _ e;
      }))
      go (is_touched touched) = inl (record {
        above = cursor;
        i = j;
        child = part.0;
        closes = inr (refl, parts);
        there = there;
        touched = subst (λ (place : Place). held notes place ≢ untouched) (sym part.0) touched;
        off = λ on leads. never_back cursor j on
            (leads ∙ ap (λ (place : Place). place ++ on) part.0 ∙ append_assoc cursor (j ∷ []) on);
        makes = part.1 ∙ touched_makes _ _ _ touched ∙ own_at cursor j here part.0;
      })

  itself_due : (here : Place) (value : Option Val) → held notes cursor ≢ in_parts
      → One cursor (completes deferred_column table notes (shape_at table root cursor) cursor) here value → Due here value
  itself_due here value no_parts own = inr (inr (record {
    whole = no_parts;
    same = own.0;
    makes = own.1 ∙ ap (λ (place : Place). completes deferred_column table notes (shape_at table root place) place) (sym own.0);
  }))

  from_due : (rest above : Place) (s : ℕ) (here : Place) (value : Option Val) → cursor ≡ above ++ rest
      → s ≡ shape_at table root above → DueFrom table notes s above rest here value → Due here value
  from_due [] above s here value way shape due =
      at_end (subst (λ (place : Place). DueHere table notes (shape_at table root place) place here value)
      (sym (way ∙ append-nil above)) (subst (λ (m : ℕ). DueHere table notes m above here value) shape due))
    where
      at_end : DueHere table notes (shape_at table root cursor) cursor here value → Due here value
      at_end due =
          ⊎_elim (λ some. part_due here value some.1.0 some.0 (let below = some.1.2 in omega arith) some.1.3)
          (λ own. itself_due here value own.0 own.1) due
  from_due (i ∷ rest) above s here value way shape due =
      ⊎_elim (λ some. beside_due above i rest here value some.0 way
      (subst (λ (m : ℕ). some.0 < child_count table m) shape (let below = some.2 in omega arith))
      (subst (λ (m : ℕ). IsBeside table notes m above i some.0 here value) shape some.3))
      (λ on. from_due rest _ _ here value (way ∙ sym (append_assoc above (i ∷ []) rest))
      (ap (λ (m : ℕ). child_shape table m i) shape ∙ sym (shape_on table root above i)) on) due

  left_from : (here : Place) (value : Option Val) → IsLeft table root notes cursor here value
      → DueFrom table notes root [] cursor here value
  left_from here value left = ⊎_elim (λ above. strictly above) (λ same. at_cursor same.0 same.1) left.closes
    where
      makes : value ≡ completes deferred_column table notes (child_shape table (shape_at table root left.above) left.i)
          (left.above ++ left.i ∷ [])
      makes = left.makes ∙ sym (own_at left.above left.i here left.child)

      touched : held notes (left.above ++ left.i ∷ []) ≢ untouched
      touched = subst (λ (place : Place). held notes place ≢ untouched) left.child left.touched

      strictly : IsAbove left.above cursor → DueFrom table notes root [] cursor here value
      strictly above =
          subst (λ (place : Place). DueFrom table notes root [] place here value) (sym above.way)
          (reach table notes here value left.above root [] above.step above.rest left.i left.there (record {
            apart = λ same. left.off above.rest (above.way ∙ ap (λ (k : ℕ). left.above ++ k ∷ above.rest) (sym same)
                ∙ sym (append_assoc left.above (left.i ∷ []) above.rest)
                ∙ ap (λ (place : Place). place ++ above.rest) (sym left.child));
            touched = touched;
            child = left.child;
            makes = makes;
          }))

      at_cursor : left.above ≡ cursor → held notes cursor ≡ in_parts → DueFrom table notes root [] cursor here value
      at_cursor same parts =
          reach_end table notes here value cursor root []
          (inl (
            parts,
            (
              left.i,
              omega arith,
              omega (arith, subst (λ (place : Place). left.i < child_count table (shape_at table root place)) same left.there),
              subst (λ (place : Place). PartOf table notes (shape_at table root place) place left.i here value) same
                  (left.child, makes ∙ sym (touched_makes _ _ _ touched)),
            ),
          ))

  due_from : (here : Place) (value : Option Val) → Due here value → DueFrom table notes root [] cursor here value
  due_from here value due =
      ⊎_elim (λ left. left_from here value left) (λ others. ⊎_elim (λ some. of_hole some) (λ own. of_itself own) others) due
    where
      of_hole : IsHole table root notes cursor here value → DueFrom table notes root [] cursor here value
      of_hole some =
          reach_end table notes here value cursor root []
          (inl (
            some.parts,
            (
              some.i,
              omega arith,
              omega (arith, some.there),
              (
                some.child,
                some.takes ∙ sym (hole_makes _ _ _ (ap (λ (place : Place). held notes place) (sym some.child) ∙ some.hole)),
              ),
            ),
          ))

      of_itself : IsCursor table root notes cursor here value → DueFrom table notes root [] cursor here value
      of_itself own =
          reach_end table notes here value cursor root []
          (inr (
            own.whole,
            (
              own.same,
              own.makes ∙ ap (λ (place : Place). completes deferred_column table notes (shape_at table root place) place) own.same,
            ),
          ))

  pub means_due : Means Due (finish_notes table notes root [] cursor)
  means_due =
      means_same _ Due _
      (λ here value due. from_due cursor [] root here value refl refl due) (λ here value due. due_from here value due)
      (means_finish table notes cursor root [])

pub stuck_or_noted : StuckOrNoted
unfolding Means
stuck_or_noted table root notes cursor = go _ (means_due table root notes cursor)
  where
    go : (found : Option Journal) → Means (Due table root notes cursor) found → (found ≡ None) ↔ IsStuck table root notes cursor
    go None stuck = (λ e. record { here = stuck.0; due = stuck.1 }, λ there. refl)
    go (Some added) are = (λ e. cc, λ there. absurd (are.never there.here there.due))

pub notes_what_is_due : NotesWhatIsDue
unfolding Means
notes_what_is_due table root notes added cursor note e = (
  λ among.
      let there = are.noted note among in
      record { here = there.here; value = there.value; writes = there.writes; due = there.due },
  λ due. subst (λ (n : Note). Contains added n) (sym due.writes) (are.is_noted due.here due.value due.due),
)
  where
    are : AreOf (Due table root notes cursor) added
    are = subst (Means (Due table root notes cursor)) e (means_due table root notes cursor)
