-- What an orderly command does to the cursor's place: to two of the same look it does the same.
use Rattle.std.proofs.Common.{◌≡◌, ◌≢◌, ◌<◌, ◌∷◌, ◌++◌, ◌⊎◌, inl, inr}
use Rattle.fr_model.proofs.Common.{ℕ, zero, suc, true, false, [], append-nil, Option, Some, None, Result, Ok, Err, refl, sym, ◌∙◌, ap, ap₂, subst, arith, Def, ReflectErrorKind, Table, def_of, Val, Place, Tracker, as_items, ItemsKind, selected, variant_of, Tree, hole, entered, whole, begun, Trees, no_trees, branch, tree_nth, change_nth, tree_at, change_at, and_last, count_trees, child_as, holes, fresh, State, cursor_tree, one_more_call, Way, enters, entered_on, number_on, is_hole, field_refusal, named_refusal, unless_refused, is_closed_slice}
use Rattle.fr_laws.proofs.PassageTrees.{IsRightAs}
use Rattle.fr_laws.proofs.PassageSides.{is_pointer}
use Rattle.fr_laws.specs.Passage.{is_entered}

-- Looks

-- the holes are the same
pub record HaveSameHoles (ts us : Trees) : Type 0 where
  pub count : count_trees ts ≡ count_trees us
  pub each : (j : ℕ) → is_hole (tree_nth j ts) ≡ is_hole (tree_nth j us)

-- two places of this definition look the same, or one is a closed pointer to a slice and the other whole
abbrev pub LookSame : Def → (t u : Tree) → Type 0
LookSame def entered entered = Unit {0}
LookSame def (whole v) (whole w) = Unit {0}
LookSame def (begun tracker ts) (begun other us) = (tracker ≡ other) × HaveSameHoles ts us
LookSame def (whole v) (begun other us) = (other ≡ as_items ItemsKind.ClosedSlice) × (is_pointer def ≡ true)
LookSame def (begun other us) (whole v) = (other ≡ as_items ItemsKind.ClosedSlice) × (is_pointer def ≡ true)
LookSame def _ _ = ⊥

-- What is done

abbrev pub AllHoles : Trees → Type 0
AllHoles ts = (j : ℕ) → tree_nth j ts ≡ hole

-- both are entered, and so begun with holes; or both are begun so
abbrev pub AreBegunSo : (t u : Tree) → Tracker → (ts us : Trees) → Type 0
AreBegunSo t u tracker ts us =
    ((t ≡ entered) × (u ≡ entered) × AllHoles ts × (ts ≡ us)) ⊎ ((t ≡ begun tracker ts) × (u ≡ begun tracker us))

-- a child that was a hole is entered, or becomes whole
pub data Put (table : Table) (s : ℕ) (tracker : Tracker) (i : ℕ) (way : Place) (x : Tree) : Type 0 where
  as_fresh : way ≡ i ∷ [] → x ≡ fresh (def_of table (child_as table s tracker i)) → Put table s tracker i way x
  as_value : (v : Val) → way ≡ [] → x ≡ whole v → Put table s tracker i way x

-- Of two places: nothing is done; both become whole with the same; both are begun with holes; a hole of each is entered or becomes whole;
-- a child is added to each and entered, and to a map a hole behind it. The way leads on from there.
pub data Does (table : Table) (s : ℕ) (t u : Tree) (way : Place) (m n : Tree) : Type 0 where
  nothing : way ≡ [] → m ≡ t → n ≡ u → Does table s t u way m n
  values : (v : Val) → t ≡ entered → u ≡ entered → way ≡ [] → m ≡ whole v → n ≡ whole v → Does table s t u way m n
  begins : (tracker : Tracker) (ts : Trees) → t ≡ entered → u ≡ entered → AllHoles ts → IsRightAs table s tracker (count_trees ts)
      → way ≡ [] → m ≡ begun tracker ts → n ≡ begun tracker ts → Does table s t u way m n
  fills_one : (tracker : Tracker) (ts us : Trees) (i : ℕ) (x : Tree) → is_closed_slice tracker ≡ false → AreBegunSo t u tracker ts us
      → IsRightAs table s tracker (count_trees ts) → i < count_trees ts → tree_nth i ts ≡ hole → tree_nth i us ≡ hole
      → Put table s tracker i way x → m ≡ begun tracker (change_nth i (λ old. x) ts) → n ≡ begun tracker (change_nth i (λ old. x) us)
      → Does table s t u way m n
  adds : (tracker : Tracker) (ts us : Trees) (x : Tree) → is_closed_slice tracker ≡ false → t ≡ begun tracker ts → u ≡ begun tracker us
      → IsRightAs table s tracker (suc (count_trees ts)) → way ≡ count_trees ts ∷ []
      → x ≡ fresh (def_of table (child_as table s tracker (count_trees ts)))
      → m ≡ begun tracker (and_last ts x) → n ≡ begun tracker (and_last us x) → Does table s t u way m n
  adds_entry : (tracker : Tracker) (ts us : Trees) (x : Tree) → is_closed_slice tracker ≡ false → t ≡ begun tracker ts → u ≡ begun tracker us
      → IsRightAs table s tracker (suc (suc (count_trees ts))) → way ≡ count_trees ts ∷ []
      → x ≡ fresh (def_of table (child_as table s tracker (count_trees ts)))
      → m ≡ begun tracker (and_last (and_last ts x) hole) → n ≡ begun tracker (and_last (and_last us x) hole) → Does table s t u way m n

holes_count : (def : Def) (t u : Tree) (tracker : Tracker) (ts us : Trees) → LookSame def t u → AreBegunSo t u tracker ts us
    → count_trees ts ≡ count_trees us
holes_count def t u tracker ts us look (inl (is, is', holes, same)) = ap count_trees same
holes_count def t u tracker ts us look (inr (is, is')) =
    let both : LookSame def (begun tracker ts) (begun tracker us) = rw (is, is') at look in both.1.count

begun_swapped : (t u : Tree) (tracker : Tracker) (ts us : Trees) → AreBegunSo t u tracker ts us → AreBegunSo u t tracker us ts
begun_swapped t u tracker ts us (inl (is, is', holes, same)) = inl (is', is, subst AllHoles same holes, sym same)
begun_swapped t u tracker ts us (inr (is, is')) = inr (is', is)

-- it is done to the second and the first as well
pub does_swapped : (table : Table) (s : ℕ) (t u : Tree) (way : Place) (m n : Tree) → LookSame (def_of table s) t u → Does table s t u way m n
    → Does table s u t way n m
does_swapped table s t u way m n look (nothing is e e') = nothing is e' e
does_swapped table s t u way m n look (values v left right is e e') = values v right left is e' e
does_swapped table s t u way m n look (begins tracker ts left right holes full is e e') = begins tracker ts right left holes full is e' e
does_swapped table s t u way m n look (fills_one tracker ts us i x shut so full below at at' put e e') =
    let count = holes_count (def_of table s) t u tracker ts us look so in
    fills_one tracker us ts i x shut (begun_swapped t u tracker ts us so) (subst (IsRightAs table s tracker) count full) (omega (arith, below, count)) at' at put e' e
does_swapped table s t u way m n look (adds tracker ts us x shut left right full is anew e e') =
    let count = holes_count (def_of table s) t u tracker ts us look (inr (left, right)) in
    adds tracker us ts x shut right left (subst (λ (k : ℕ). IsRightAs table s tracker (suc k)) count full) (is ∙ ap (λ (k : ℕ). k ∷ []) count)
    (anew ∙ ap (λ (k : ℕ). fresh (def_of table (child_as table s tracker k))) count) e' e
does_swapped table s t u way m n look (adds_entry tracker ts us x shut left right full is anew e e') =
    let count = holes_count (def_of table s) t u tracker ts us look (inr (left, right)) in
    adds_entry tracker us ts x shut right left (subst (λ (k : ℕ). IsRightAs table s tracker (suc (suc k))) count full) (is ∙ ap (λ (k : ℕ). k ∷ []) count)
    (anew ∙ ap (λ (k : ℕ). fresh (def_of table (child_as table s tracker k))) count) e' e

begun_itself : (t u : Tree) (tracker : Tracker) (ts us : Trees) → AreBegunSo t u tracker ts us → AreBegunSo t t tracker ts ts
begun_itself t u tracker ts us (inl (is, is', holes, same)) = inl (is, is, holes, refl)
begun_itself t u tracker ts us (inr (is, is')) = inr (is, is)

-- and to the first beside itself
pub does_itself : (table : Table) (s : ℕ) (t u : Tree) (way : Place) (m n : Tree) → Does table s t u way m n → Does table s t t way m m
does_itself table s t u way m n (nothing is e e') = nothing is e e
does_itself table s t u way m n (values v left right is e e') = values v left left is e e
does_itself table s t u way m n (begins tracker ts left right holes full is e e') = begins tracker ts left left holes full is e e
does_itself table s t u way m n (fills_one tracker ts us i x shut so full below at at' put e e') =
    fills_one tracker ts ts i x shut (begun_itself t u tracker ts us so) full below at at put e e
does_itself table s t u way m n (adds tracker ts us x shut left right full is anew e e') = adds tracker ts ts x shut left left full is anew e e
does_itself table s t u way m n (adds_entry tracker ts us x shut left right full is anew e e') = adds_entry tracker ts ts x shut left left full is anew e e

pub look_itself : (def : Def) (t : Tree) → t ≢ hole → LookSame def t t
look_itself def hole there = absurd (there refl)
look_itself def entered there = tt
look_itself def (whole v) there = tt
look_itself def (begun tracker ts) there = (refl, record { count = refl; each = λ j. refl })

-- the state in which this stands at the cursor's place, and the cursor has gone on from there
abbrev pub does : State → Place → Tree → State
does state way m = record state {
  tree = change_at state.cursor (λ old. m) state.tree;
  cursor = state.cursor ++ way;
  calls = one_more_call state.calls;
}

pub record Doing (table : Table) (s : ℕ) (one other next after : State) : Type 0 where
  pub way : Place
  pub m : Tree
  pub n : Tree
  pub is : Does table s (cursor_tree one) (cursor_tree other) way m n
  pub left : next ≡ does one way m
  pub right : after ≡ does other way n

-- both go on, and do so, or neither does
abbrev pub BothDo : Table → ℕ → (one other : State) → Result State ReflectErrorKind → Result State ReflectErrorKind → Type 0
BothDo table s one other (Ok next) (Ok after) = Doing table s one other next after
BothDo table s one other (Err kind) (Err why) = Unit {0}
BothDo table s one other _ _ = ⊥

-- a change at a place depends on what stands there

pub nth_same : (i : ℕ) (f g : Tree → Tree) (ts : Trees) → f (tree_nth i ts) ≡ g (tree_nth i ts) → change_nth i f ts ≡ change_nth i g ts
nth_same i f g no_trees same = refl
nth_same zero f g (branch t ts) same = ap (λ (u : Tree). branch u ts) same
nth_same (suc i) f g (branch t ts) same = ap (branch t) (nth_same i f g ts same)

pub change_is : (here : Place) (f : Tree → Tree) (t : Tree) → change_at here f t ≡ change_at here (λ old. f (tree_at here t)) t
change_is [] f t = refl
change_is (i ∷ here) f (begun tracker ts) =
    ap (begun tracker) (nth_same i (λ child. change_at here f child) (λ child. change_at here (λ old. f (tree_at here (tree_nth i ts))) child) ts
    (change_is here f (tree_nth i ts)))
change_is (i ∷ here) f hole = refl
change_is (i ∷ here) f entered = refl
change_is (i ∷ here) f (whole v) = refl

nth_kept : (i : ℕ) (f : Tree → Tree) (ts : Trees) → f (tree_nth i ts) ≡ tree_nth i ts → change_nth i f ts ≡ ts
nth_kept i f no_trees same = refl
nth_kept zero f (branch t ts) same = ap (λ (u : Tree). branch u ts) same
nth_kept (suc i) f (branch t ts) same = ap (branch t) (nth_kept i f ts same)

pub change_none : (here : Place) (t : Tree) → change_at here (λ old. tree_at here t) t ≡ t
change_none [] t = refl
change_none (i ∷ here) (begun tracker ts) =
    ap (begun tracker) (nth_kept i (λ child. change_at here (λ old. tree_at here (tree_nth i ts)) child) ts (change_none here (tree_nth i ts)))
change_none (i ∷ here) hole = refl
change_none (i ∷ here) entered = refl
change_none (i ∷ here) (whole v) = refl

pub nth_holes : (j n : ℕ) → tree_nth j (holes n) ≡ hole
nth_holes j zero = refl
nth_holes zero (suc n) = refl
nth_holes (suc j) (suc n) = nth_holes j n

pub no_nth : (j : ℕ) → tree_nth j no_trees ≡ hole
no_nth j = refl

pub one_hole : (j : ℕ) → tree_nth j (branch hole no_trees) ≡ hole
one_hole zero = refl
one_hole (suc j) = refl

pub is_a_hole : (t : Tree) → is_hole t ≡ true → t ≡ hole
is_a_hole hole e = refl
is_a_hole entered e = cc
is_a_hole (whole v) e = cc
is_a_hole (begun tracker ts) e = cc

pub is_entered_is : (t : Tree) → is_entered t ≡ true → t ≡ entered
is_entered_is hole e = cc
is_entered_is entered e = refl
is_entered_is (whole v) e = cc
is_entered_is (begun tracker ts) e = cc

-- what is entered beside what looks the same
pub entered_too : (def : Def) (t u : Tree) → LookSame def t u → t ≡ entered → u ≡ entered
entered_too def t u look is = go t u look is
  where
    go : (t u : Tree) → LookSame def t u → t ≡ entered → u ≡ entered
    go entered entered look is = refl
    go hole u look is = cc
    go (whole v) u look is = cc
    go (begun tracker ts) u look is = cc
    go entered hole look is = absurd look
    go entered (whole w) look is = absurd look
    go entered (begun other us) look is = absurd look

pub selected_same : (def : Def) (t u : Tree) → LookSame def t u → selected t ≡ selected u
selected_same def entered entered look = refl
selected_same def (whole v) (whole w) look = refl
selected_same def (begun tracker ts) (begun other us) look = ap variant_of look.0
selected_same def (whole v) (begun other us) look = sym (ap variant_of look.0)
selected_same def (begun other us) (whole v) look = ap variant_of look.0
selected_same def hole u look = absurd look
selected_same def _ _ look = absurd look

-- child i of a field or an array is refused alike
pub refused_same : (def : Def) (t u : Tree) (i : ℕ) → LookSame def t u → field_refusal def t i ≡ field_refusal def u i
refused_same (Def.Enum enumeration) t u i look = rw (selected_same (Def.Enum enumeration) t u look) refl
refused_same (Def.Array item n) t u i look = go t u look
  where
    go : (t u : Tree) → LookSame (Def.Array item n) t u → field_refusal (Def.Array item n) t i ≡ field_refusal (Def.Array item n) u i
    go entered entered look = refl
    go (whole v) (whole w) look = refl
    go (begun tracker ts) (begun other us) look = refl
    go (whole v) (begun other us) look = let none = look.1 in cc
    go (begun other us) (whole v) look = let none = look.1 in cc
    go hole u look = absurd look
    go _ _ look = absurd look
refused_same _ t u i look = refl

pub named_same : (def : Def) (t u : Tree) → LookSame def t u → named_refusal def t ≡ named_refusal def u
named_same (Def.Enum enumeration) t u look = rw (selected_same (Def.Enum enumeration) t u look) refl
named_same _ t u look = refl

-- two states in which something is done

module _ (table : Table) (s : ℕ) (one other : State) where
  abbrev t : Tree
  t = cursor_tree one

  abbrev u : Tree
  u = cursor_tree other

  abbrev Both : Result State ReflectErrorKind → Result State ReflectErrorKind → Type 0
  Both = BothDo table s one other

  entering : (state : State) (way : Way) (i : ℕ) (m : Tree) → number_on way (cursor_tree state) ≡ i
      → entered_on table s way (cursor_tree state) ≡ m → enters table s state way ≡ does state (i ∷ []) m
  entering state way i m number is =
      ap₂ (λ (tree : Tree) (j : ℕ). record state { tree = tree; cursor = state.cursor ++ j ∷ []; calls = one_more_call state.calls })
      (change_is state.cursor (entered_on table s way) state.tree ∙ ap (λ (w : Tree). change_at state.cursor (λ old. w) state.tree) is) number

  staying : (state : State) (f : Tree → Tree) (m : Tree) → f (cursor_tree state) ≡ m
      → ◌≡◌ {A = State} (record state { tree = change_at state.cursor f state.tree; calls = one_more_call state.calls }) (does state [] m)
  staying state f m is =
      ap₂ (λ (tree : Tree) (here : Place). record state { tree = tree; cursor = here; calls = one_more_call state.calls })
      (change_is state.cursor f state.tree ∙ ap (λ (w : Tree). change_at state.cursor (λ old. w) state.tree) is) (sym (append-nil state.cursor))

  pub both_enter : (way way' : Way) (i : ℕ) (m n : Tree) → number_on way t ≡ i → number_on way' u ≡ i → entered_on table s way t ≡ m
      → entered_on table s way' u ≡ n → Does table s t u (i ∷ []) m n → Both (Ok (enters table s one way)) (Ok (enters table s other way'))
  both_enter way way' i m n number number' is is' does_so =
      record { way = i ∷ []; m = m; n = n; is = does_so; left = entering one way i m number is; right = entering other way' i n number' is' }

  pub both_stay : (f g : Tree → Tree) (m n : Tree) → f t ≡ m → g u ≡ n → Does table s t u [] m n
      → Both (Ok (record one { tree = change_at one.cursor f one.tree; calls = one_more_call one.calls }))
      (Ok (record other { tree = change_at other.cursor g other.tree; calls = one_more_call other.calls }))
  both_stay f g m n is is' does_so =
      record { way = []; m = m; n = n; is = does_so; left = staying one f m is; right = staying other g n is' }

  pub unless : (refusal : Option ReflectErrorKind) (a b : State) → Both (Ok a) (Ok b) → Both (unless_refused refusal a) (unless_refused refusal b)
  unless (Some kind) a b both = tt
  unless None a b both = both
