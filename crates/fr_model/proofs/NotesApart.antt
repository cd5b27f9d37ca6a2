-- No two notes of the end of deferred mode cover each other.
use Rattle.std.proofs.Common.{◌≡◌, ◌≢◌, ◌≤◌, ◌==◌, if◌then◌else◌, ◌∷◌, ◌++◌}
use Rattle.fr_model.proofs.Common.{⊎_elim, ℕ, zero, suc, Bool, true, false, eq-eqb, [], append_assoc, append-nil, Option, Some, None, refl, sym, ◌∙◌, ap, subst, arith, Contains, Contains-append_cases, Contains-get_or, Table, Val, AreDisjoint, LieApart, NotesLieApart, Note, Journal, Held, in_parts, untouched, held, place_of, both_notes, each_notes, writing, closing_by, closing, closing_beside, closing_parts, closing_here_by, finish_notes, Place, child_count, child_shape}
use Rattle.std.proofs.lemmas.List.Kept.{AllPairs-cons}
use Rattle.fr_model.proofs.FinishNotes.{same_first}
use Rattle.fr_model.proofs.Templates.{further, itself, only_one}

abbrev Apart : Note → Note → Type 0
Apart one other = AreDisjoint (place_of one) (place_of other)

-- pairs of two lists together

one_then_rest : (note : Note) (notes : Journal) → LieApart (note ∷ notes) → LieApart notes
one_then_rest note notes apart i j d before within = apart (suc i) (suc j) d (omega arith) (omega arith)

one_and_other : (note : Note) (notes : Journal) → LieApart (note ∷ notes) → (other : Note) → Contains notes other → Apart note other
one_and_other note notes apart other (k, within, is) =
    subst (λ (n : Note). Apart note n) is (apart 0 (suc k) other (omega arith) (omega arith))

both_apart : (some others : Journal) → LieApart some → LieApart others
    → ((one other : Note) → Contains some one → Contains others other → Apart one other) → LieApart (some ++ others)
both_apart [] others apart more across = more
both_apart (note ∷ some) others apart more across =
    AllPairs-cons Apart note _ (λ k d within. with_note _
    (Contains-get_or (some ++ others) k d within)) (both_apart some others (one_then_rest note some apart) more
    (λ one other among beyond. across one other (further note some one among) beyond))
  where
    with_note : (other : Note) → Contains (some ++ others) other → Apart note other
    with_note other has =
        ⊎_elim (λ among. one_and_other note some apart other among) (λ beyond. across note other (itself note some note refl) beyond)
        (Contains-append_cases some others other has)

-- the notes, if there are any, lie apart, and of each something is known
abbrev Spread : (Known : Note → Type 0) → Option Journal → Type 0
Spread Known None = Unit {0}
Spread Known (Some notes) = LieApart notes × ((note : Note) → Contains notes note → Known note)

spread_same : (Known Other : Note → Type 0) (found : Option Journal) → ((note : Note) → Known note → Other note)
    → Spread Known found → Spread Other found
spread_same Known Other None knows spread = tt
spread_same Known Other (Some notes) knows spread = (spread.0, λ note among. knows note (spread.1 note among))

spread_nothing : (Known : Note → Type 0) → Spread Known (Some [])
spread_nothing Known =
    (λ i j d before within. absurd (omega arith), λ note among. let below = among.1 in absurd (omega arith))

-- the note is on this place
abbrev IsOn : Place → Note → Type 0
IsOn here note = place_of note ≡ here

spread_writing : (here : Place) (value : Option Val) → Spread (IsOn here) (writing here value)
spread_writing here None = tt
spread_writing here (Some v) = (λ i j d before within. absurd (omega arith), λ note among. ap place_of (only_one _ note among))

spread_both : (Known Other Both : Note → Type 0) (some others : Option Journal)
    → ((one other : Note) → Known one → Other other → Apart one other) → ((note : Note) → Known note → Both note)
    → ((note : Note) → Other note → Both note) → Spread Known some → Spread Other others → Spread Both (both_notes some others)
spread_both Known Other Both None others across first later one more = tt
spread_both Known Other Both (Some some) None across first later one more = tt
spread_both Known Other Both (Some some) (Some others) across first later one more = (
  both_apart some others one.0 more.0 (λ note other among beyond. across note other (one.1 note among) (more.1 other beyond)),
  λ note has. ⊎_elim (λ among. first note (one.1 note among)) (λ beyond. later note (more.1 note beyond))
      (Contains-append_cases some others note has),
)

-- something is known of the note, for a number from i on
abbrev KnownFrom : (ℕ → Note → Type 0) → (i : ℕ) → Note → Type 0
KnownFrom Known i note = (k : ℕ) × (i ≤ k) × Known k note

spread_each : (Known : ℕ → Note → Type 0) (noted : ℕ → Option Journal)
    → ((j k : ℕ) (one other : Note) → j ≢ k → Known j one → Known k other → Apart one other)
    → ((k : ℕ) → Spread (Known k) (noted k)) → (count i : ℕ) → Spread (KnownFrom Known i) (each_notes noted count i)
spread_each Known noted across each zero i = spread_nothing _
spread_each Known noted across each (suc count) i =
    spread_both (Known i) _ _ (noted i) _
    (λ one other here there. let above = there.1 in across i there.0 one other (λ same. omega arith) here there.2)
    (λ note here. (i, omega arith, here)) (λ note there. let above = there.1 in (there.0, omega arith, there.2)) (each i)
    (spread_each Known noted across each count (suc i))

-- two ways on from one place that begin otherwise lead apart
ways_apart : (above : Place) (i j : ℕ) (way other : Place) → i ≢ j → AreDisjoint (above ++ i ∷ way) (above ++ j ∷ other)
ways_apart above i j way other apart = record {
  not_above = λ on leads. apart (sym (same_first above j i other _ (leads ∙ append_assoc above (i ∷ way) on)));
  not_beneath = λ on leads. apart (same_first above i j way _ (leads ∙ append_assoc above _ on));
}

-- the note is on a place, or beneath it; on child j of a place, or beneath that
abbrev IsFrom : Place → Note → Type 0
IsFrom above note = (way : Place) × (place_of note ≡ above ++ way)

abbrev IsOfChild : Place → ℕ → Note → Type 0
IsOfChild above j note = (way : Place) × (place_of note ≡ above ++ j ∷ way)

children_apart : (above : Place) (i j : ℕ) (one other : Note) → i ≢ j → IsOfChild above i one → IsOfChild above j other → Apart one other
children_apart above i j one other apart here there =
    subst (λ (place : Place). AreDisjoint place (place_of other)) (sym here.1)
    (subst (λ (place : Place). AreDisjoint (above ++ i ∷ here.0) place) (sym there.1) (ways_apart above i j here.0 there.0 apart))

on_child : (above : Place) (j : ℕ) (note : Note) → IsOn (above ++ j ∷ []) note → IsOfChild above j note
on_child above j note on = ([], on)

from_child : (above : Place) (j : ℕ) (note : Note) → IsFrom (above ++ j ∷ []) note → IsOfChild above j note
from_child above j note from = (from.0, from.1 ∙ append_assoc above (j ∷ []) from.0)

spread_closing : (here : Place) (value : Option Val) (h : Held) → Spread (IsOn here) (closing_by h (writing here value))
spread_closing here value untouched = spread_nothing (IsOn here)
spread_closing here value _ = spread_writing here value

spread_by : (above : Place) (itself : Option Val) (h : Held) (parts : Option Journal) → Spread (IsFrom above) parts
    → Spread (IsFrom above) (closing_here_by h parts (writing above itself))
spread_by above itself h parts spread = go h
  where
    alone : Spread (IsFrom above) (writing above itself)
    alone = spread_same _ _ _ (λ note on. ([], on ∙ sym (append-nil above))) (spread_writing above itself)

    go : (h : Held) → Spread (IsFrom above) (closing_here_by h parts (writing above itself))
    go in_parts = spread
    go _ = alone

module _ (table : Table) (notes : Journal) where
  -- of child j of the place `above`, which isn't the one on the way
  abbrev IsBesideWay : Place → (on_way j : ℕ) → Note → Type 0
  IsBesideWay above on_way j note = (j ≢ on_way) × IsOfChild above j note

  spread_beside : (s : ℕ) (above : Place) (on_way j : ℕ) → Spread (IsBesideWay above on_way j)
      (if j == on_way then Some [] else closing table notes (child_shape table s j) (above ++ j ∷ []))
  spread_beside s above on_way j = go _ refl
    where
      go : (b : Bool) → (j == on_way) ≡ b → Spread (IsBesideWay above on_way j)
          (if b then Some [] else closing table notes (child_shape table s j) (above ++ j ∷ []))
      go true e = spread_nothing _
      go false e =
          spread_same _ _ _ (λ note on. (λ same. let yes = eq-eqb j on_way same in cc, on_child above j note on))
          (spread_closing (above ++ j ∷ []) _ (held notes (above ++ j ∷ [])))

  spread_parts : (s : ℕ) (above : Place) → Spread (IsFrom above) (closing_parts table notes s above)
  spread_parts s above =
      spread_same _ _ _ (λ note there. (there.0 ∷ there.2.0, there.2.1)) (spread_each _ _ (children_apart above)
      (λ j. spread_same (IsOn (above ++ j ∷ [])) (IsOfChild above j) _ (on_child above j) (spread_writing (above ++ j ∷ []) _))
      (child_count table s) 0)

  spread_finish : (rest : Place) (s : ℕ) (above : Place) → Spread (IsFrom above) (finish_notes table notes s above rest)
  spread_finish [] s above = spread_by above _ _ _ (spread_parts s above)
  spread_finish (i ∷ rest) s above =
      spread_both (KnownFrom (IsBesideWay above i) 0) (IsFrom (above ++ i ∷ [])) (IsFrom above)
      (closing_beside table notes s above i) (finish_notes table notes (child_shape table s i) (above ++ i ∷ []) rest)
      (λ one other beside from. children_apart above beside.0 i one other beside.2.0 beside.2.1 (from_child above i other from))
      (λ note beside. (beside.0 ∷ beside.2.1.0, beside.2.1.1))
      (λ note from. let there = from_child above i note from in (i ∷ there.0, there.1)) (spread_each (IsBesideWay above i) _
      (λ j k one other apart here there. children_apart above j k one other apart here.1 there.1)
      (λ j. spread_beside s above i j) (child_count table s) 0) (spread_finish rest (child_shape table s i) (above ++ i ∷ []))

pub notes_lie_apart : NotesLieApart
notes_lie_apart table root notes added cursor e =
    (subst (λ (found : Option Journal). Spread (IsFrom []) found) e (spread_finish table notes cursor root [])).0
