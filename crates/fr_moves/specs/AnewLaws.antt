-- A place that starts anew before a field or an element of it is entered, as a conversion does; and the way to such a child.
use Rattle.std.proofs.Common.{◌≡◌, ◌<◌, ℕ, Bool, true, false, List, [], ◌∷◌, ◌++◌, length, nat_lt, Option, Some, None, if◌then◌else◌, refl, sym, ◌∙◌, ap, subst, arith}
use Rattle.fr_shape.specs.Lists.{is_nil}
use Rattle.std.proofs.lemmas.Bool.{ltb-true}
use Rattle.fr_moves.specs.Common.{ContentKind, Def, Describes, Field, Opening, Operation, Plan, State, Table, Tree, Trees, Way, Tracker, Val, Vals, as_content, as_elements, as_fields, begun, change_child, count_trees, cursor_tree, def_of, entered, field_refusal, fresh, hole, is_begun_conversion, no_trees, number_told, onward, one_more_call, opened, opened_value, parts_as, put_child, selected, takes_at_end, whole, without_source, LooksLike}
use Rattle.fr_model.specs.Entering.{Way as Onward, entered_on, enters, number_on}
use Rattle.fr_model.specs.Step.{enter_child}
use Rattle.fr_model.specs.Trackers.{Conversion}
use Rattle.fr_moves.specs.Moving.{gone, IsSourcedOn, MayGo, child_way}
use Rattle.fr_model.proofs.Opening.{without_source_is}
use Rattle.fr_model.specs.Tree.{over_base}
use Rattle.fr_moves.specs.TrackerLaws.{of_fields, IsFullTree}
use Rattle.fr_moves.specs.TreeLaws.{alike_here}
use Rattle.fr_moves.specs.LookLaws.{converts_alike}

pub below_limit : (i n : ℕ) (operation : Operation) → (if nat_lt i n then None else Some operation) ≡ None → i < n
below_limit i n operation e = go (nat_lt i n) refl
  where
    go : (b : Bool) → nat_lt i n ≡ b → i < n
    go true h = ltb-true i n h
    go false h = let some : Some operation ≡ None = rw h at e in cc

-- What starts anew.

nil_is : {A : Type 0} (xs : List A) → is_nil xs ≡ true → xs ≡ []
nil_is [] e = refl
nil_is (x ∷ xs) e = cc

-- where a field or an element of it may be entered, nothing was put in
pub fresh_entered : (def : Def) (i : ℕ) → field_refusal def (fresh def) i ≡ None → fresh def ≡ entered
fresh_entered (Def.Struct struct) i may = go (is_nil struct.fields) refl
  where
    go : (b : Bool) → is_nil struct.fields ≡ b → fresh (Def.Struct struct) ≡ entered
    go false e = rw e refl
    go true e =
        let below : i < length struct.fields = below_limit i (length struct.fields) Operation.FieldIndexOutOfBounds may in
        let none : length struct.fields ≡ 0 = ap (λ (fields : List Field). length fields) (nil_is struct.fields e) in
        absurd (omega (arith, below, none))
fresh_entered _ i may = refl

-- and none may that may not be of what was just entered
pub fresh_refusal : (def : Def) (i : ℕ) → field_refusal def entered i ≡ field_refusal def (fresh def) i
fresh_refusal (Def.Struct struct) i = refl
fresh_refusal _ i = refl

-- Of a conversion.

a_conversion : (So : Tree → Type 0) → ((conversion : Conversion) (ts : Trees) → So (begun (as_content (ContentKind.Source conversion)) ts))
    → (tree : Tree) → is_begun_conversion tree ≡ true → So tree
a_conversion So each (begun (as_content (ContentKind.Source conversion)) ts) is = each conversion ts
a_conversion So each (begun _ ts) is = cc
a_conversion So each _ is = cc

source_refusal : (def : Def) (i : ℕ) (conversion : Conversion) (ts : Trees)
    → field_refusal def (begun (as_content (ContentKind.Source conversion)) ts) i ≡ None → field_refusal def (fresh def) i ≡ None
source_refusal (Def.Struct struct) i conversion ts may = may
source_refusal (Def.Array item n) i conversion ts may = may
source_refusal _ i conversion ts may = cc

-- what may be entered of it may be entered once it starts anew
pub anew_admitted : (def : Def) (i : ℕ) (tree : Tree) → is_begun_conversion tree ≡ true → field_refusal def tree i ≡ None
    → field_refusal def (fresh def) i ≡ None
anew_admitted def i =
    a_conversion (λ tree. field_refusal def tree i ≡ None → field_refusal def (fresh def) i ≡ None) (source_refusal def i)

none_selected : (tree : Tree) → is_begun_conversion tree ≡ true → selected tree ≡ None
none_selected = a_conversion (λ tree. selected tree ≡ None) (λ conversion ts. refl)

-- as what it is begun then
pub describes_anew : (table : Table) (s : ℕ) (tree anew : Tree) (opening : Opening) → selected tree ≡ None → Describes table s tree opening
    → Describes table s anew opening
describes_anew table s tree anew opening none says =
    record { begun = says.begun; variant = λ k is. let no = sym none ∙ says.variant k is in cc; plain = says.plain }

-- The way to a field or an element.

-- It may be taken from a place of shape s at which this stands, and leads to child i: a conversion starts anew first.
pub record LeadsToChild (table : Table) (s : ℕ) (tree : Tree) (i : ℕ) (way : Way) : Type 0 where
  pub may : MayGo table s tree way
  pub sourced : (plan : Plan) → IsSourcedOn plan way
  pub told : number_told way ≡ i
  pub number : number_on (onward way tree) tree ≡ i
  pub enters : entered_on table s (onward way tree) tree ≡ enter_child table s i (without_source (def_of table s) tree)

pub to_child : (table : Table) (s : ℕ) (tree : Tree) (i : ℕ) (opening : Opening) (converts : Bool) → is_begun_conversion tree ≡ converts
    → Describes table s tree opening → field_refusal (def_of table s) tree i ≡ None
    → LeadsToChild table s tree i (if converts then Way.Anew i opening else Way.Child i opening)
to_child table s tree i opening true is says may = record {
  may = (
    describes_anew table s tree (fresh (def_of table s)) opening (none_selected tree is) says,
    anew_admitted (def_of table s) i tree is may,
  );
  sourced = λ plan. tt;
  told = refl;
  number = refl;
  enters =
      ap (λ (b : Bool). enter_child table s i (if b then fresh (def_of table s) else tree)) (sym is);
}
to_child table s tree i opening false is says may =
    record { may = (says, may, is); sourced = λ plan. tt; told = refl; number = refl; enters = refl }

-- as it is told by what looks like that
pub to_child_seen : (table : Table) (s : ℕ) (tree seen : Tree) (i : ℕ) (opening : Opening) → LooksLike seen tree
    → Describes table s tree opening → field_refusal (def_of table s) tree i ≡ None → (way : Way) → way ≡ child_way seen i opening
    → LeadsToChild table s tree i way
to_child_seen table s tree seen i opening alike says may way is =
    subst (LeadsToChild table s tree i)
    (ap (λ (converts : Bool). if converts then Way.Anew i opening else Way.Child i opening) (sym (converts_alike seen tree alike))
    ∙ sym is) (to_child table s tree i opening (is_begun_conversion tree) refl says may)

-- the state then is the one that the command means
pub child_gone : (table : Table) (s : ℕ) (state : State) (i : ℕ) (way : Way) → LeadsToChild table s (cursor_tree state) i way
    → enters table s state (Onward.Child i) ≡ gone table s state way
child_gone table s state i way leads =
    ap (λ (n : ℕ). record state {
      tree = change_at_child;
      cursor = state.cursor ++ n ∷ [];
      calls = one_more_call state.calls;
    }) (sym leads.number)
    ∙ ap (λ (t : Tree). record state {
      tree = t;
      cursor = state.cursor ++ number_on (onward way (cursor_tree state)) (cursor_tree state) ∷ [];
      calls = one_more_call state.calls;
    }) (alike_here state.cursor (entered_on table s (Onward.Child i)) (entered_on table s (onward way (cursor_tree state))) state.tree
    (sym leads.enters))
  where
    change_at_child : Tree
    change_at_child = (enters table s state (Onward.Child i)).tree

-- A value that is put at such a child goes up as it is.

-- children are neither completed as they are left nor converted here
abbrev pub IsPlain : Tree → Type 0
IsPlain tree = (takes_at_end tree ≡ false) × (is_begun_conversion tree ≡ false)

opened_whole : (tracker : Tracker) (i : ℕ) (v w : Val) (parts : Option Vals) → IsPlain (begun (over_base tracker w) no_trees)
    → IsPlain (change_child i (λ old. whole v) (opened_value tracker w parts))
opened_whole tracker i v w (Some vs) plain = plain
opened_whole tracker i v w None plain = (refl, refl)

put_apart : (def : Def) (i : ℕ) (v : Val) (t : Tree) → IsFullTree def t → is_begun_conversion t ≡ false → field_refusal def t i ≡ None
    → IsPlain (change_child i (λ old. whole v) (opened def t))
put_apart def i v hole full apart may = (refl, refl)
put_apart def i v entered full apart may = go def may
  where
    go : (def : Def) → field_refusal def entered i ≡ None → IsPlain (change_child i (λ old. whole v) (opened def entered))
    go (Def.Struct struct) may = (refl, refl)
    go (Def.Array item n) may = (refl, refl)
    go _ may = cc
put_apart def i v (whole w) full apart may = go def may
  where
    go : (def : Def) → field_refusal def (whole w) i ≡ None → IsPlain (change_child i (λ old. whole v) (opened def (whole w)))
    go (Def.Struct struct) may = opened_whole (as_fields None) i v w (parts_as (as_fields None) w) (refl, refl)
    go (Def.Array item n) may = opened_whole as_elements i v w (parts_as as_elements w) (refl, refl)
    go _ may = cc
put_apart def i v (begun made ts) full apart may =
    of_fields (λ tracker. IsPlain (begun tracker no_trees)) (refl, refl) (refl, refl) (λ k. (refl, refl)) def (begun made ts) made
    (count_trees ts) i apart full may

pub put_plain : (def : Def) (i : ℕ) (v : Val) (t : Tree) → IsFullTree def t → field_refusal def t i ≡ None
    → IsPlain (put_child def i v t)
put_plain def i v t full may =
    without_source_is (λ (u : Tree). IsPlain (change_child i (λ old. whole v) (opened def u))) def t (λ is.
    let so = anew_admitted def i t is may in
    let nothing = fresh_entered def i so in
    subst (λ (u : Tree). IsPlain (change_child i (λ old. whole v) (opened def u))) (sym nothing)
    (put_apart def i v entered tt refl (subst (λ (u : Tree). field_refusal def u i ≡ None) nothing so)))
    (λ apart. put_apart def i v t full apart may)
