-- What completes, what fits of it, and what it holds.
use Rattle.std.proofs.Common.{◌≡◌, ◌+◌, ◌≤◌, ◌||◌}
use Rattle.fr_shape.specs.Hooks.{Meaning, gives, refuses, unsupported, IfGives, FitsTarget, HoldsTokensOf, IsLawful}
use Rattle.fr_model.proofs.Common.{ℕ, zero, suc, Bool, true, is_none, is_some, Option, Some, None, refl, sym, ◌∙◌, ap, subst, arith, option_or, ReflectErrorKind, Def, IsChecked, preset_of, fits, count_vals, Meanings, Table, def_of, Val, Vals, none, no_vals, first, occurs, vals_occur, Column, strict_column, child_count, one_more, each_child, fill_at, Tracker, as_fields, Tree, hole, entered, whole, begun, Trees, no_trees, branch, child_as, count_trees, tree_occurs, trees_occur, left_out_of, dropped_by_completing, dropped_among, left_out, complete, complete_all, unless_there, failing_child, unless_failing, valid_child, not_taken_among, taken, not_taken, value_given, refusal_through, Through, ContentKind, as_content, is_conversion, hole_takes, missing_child, made, made_of_fills, made_by, lack_of_hole, lack_of_holes, lack_by, lack, lack_among, IsFullAs, Suits}
use Rattle.fr_model.proofs.Structs.{OneMore, one_more_is, ChildrenFit, made_is, SuitFrom, IsSoundAs, sound_as, taken_as, value_fits, value_holds, settled_as}
use Rattle.fr_model.proofs.Templates.{IsTemplate, template_holds, preset_template, fill_in_template, fill_template}

-- either a value or a lack

pub no_made : (tracker : Tracker) (values : Option Vals) → is_none (made tracker values) ≡ is_none values
no_made tracker (Some vs) = refl
no_made tracker None = refl

pub not_all : (value : Option Val) (values : Option Vals) (here there : Option ReflectErrorKind)
    → is_none value ≡ is_some here → is_none values ≡ is_some there → is_none (one_more value values) ≡ is_some (option_or here there)
not_all None values (Some kind) there e f = refl
not_all None values None there e f = cc
not_all (Some v) values (Some kind) there e f = cc
not_all (Some v) None None there e f = f
not_all (Some v) (Some vs) None there e f = f

-- where what fails isn't there a source is converted
given_or_refused : (through : Through) (source target : ℕ) (meaning : Meaning)
    → is_none (unless_failing (refusal_through through source target meaning) (value_given meaning))
    ≡ is_some (refusal_through through source target meaning)
given_or_refused through source target (gives v) = refl
given_or_refused Through.Proxy source target (refuses message) = refl
given_or_refused Through.Proxy source target unsupported = refl
given_or_refused Through.Wrapper source target (refuses message) = refl
given_or_refused Through.Wrapper source target unsupported = refl

itself_or_failing : (failing : Option ReflectErrorKind) (value : Option Val)
    → is_none (unless_failing failing value) ≡ (is_none value || is_some failing)
itself_or_failing (Some kind) (Some v) = refl
itself_or_failing (Some kind) None = refl
itself_or_failing None (Some v) = refl
itself_or_failing None None = refl

-- a value that is there may fail, and one that isn't there fails nothing
pub none_valid : (hooks : Meanings) (table : Table) (s : ℕ) (tracker : Tracker) (i : ℕ) (value : Option Val)
    → is_none (valid_child hooks table s tracker i value) ≡ (is_none value || is_some (failing_child hooks table s tracker i value))
none_valid hooks table s (as_content (ContentKind.Source conversion)) i (Some v) =
    given_or_refused conversion.through conversion.source s (hooks.convert table conversion.hook s v)
none_valid hooks table s (as_content (ContentKind.Source conversion)) i None = refl
none_valid hooks table s tracker i value = itself_or_failing (failing_child hooks table s tracker i value) value

pub some_or : (a b : Option ReflectErrorKind) → is_some (option_or a b) ≡ (is_some a || is_some b)
some_or (Some kind) b = refl
some_or None b = refl

valid_or_failing : (hooks : Meanings) (table : Table) (s : ℕ) (tracker : Tracker) (i : ℕ) (made : Option Val)
    (lacking : Option ReflectErrorKind) → is_none made ≡ is_some lacking → is_none (valid_child hooks table s tracker i made)
    ≡ is_some (option_or lacking (failing_child hooks table s tracker i made))
valid_or_failing hooks table s tracker i made lacking e =
    none_valid hooks table s tracker i made ∙ ap (λ (b : Bool). b || is_some (failing_child hooks table s tracker i made)) e
    ∙ sym (some_or lacking _)

hole_or_lacks : (hooks : Meanings) (table : Table) (s : ℕ) (tracker : Tracker) (i : ℕ)
    → is_none (valid_child hooks table s tracker i (hole_takes strict_column table s tracker i))
    ≡ is_some (lack_of_hole hooks table s tracker i)
hole_or_lacks hooks table s tracker i =
    valid_or_failing hooks table s tracker i _ _ (there (hole_takes strict_column table s tracker i))
  where
    there : (made : Option Val) → is_none made ≡ is_some (unless_there made (missing_child s tracker i))
    there (Some v) = refl
    there None = refl

holes_or_lack : (hooks : Meanings) (table : Table) (s count i : ℕ)
    → is_none (each_child (λ k. valid_child hooks table s (as_fields None) k (fill_at strict_column table s k)) count i)
    ≡ is_some (lack_of_holes hooks table s (as_fields None) count i)
holes_or_lack hooks table s zero i = refl
holes_or_lack hooks table s (suc count) i =
    not_all _ (each_child (λ k. valid_child hooks table s (as_fields None) k _) count (suc i)) _ _
    (hole_or_lacks hooks table s (as_fields None) i) (holes_or_lack hooks table s count (suc i))

-- an entered place of this definition makes no value exactly where it lacks something, whatever its fills lack
pub made_or_lacks : (def : Def) (preset of_fills : Option Val) (of_holes : Option ReflectErrorKind)
    (missing : ReflectErrorKind) → is_none of_fills ≡ is_some of_holes
    → is_none (made_by def preset of_fills) ≡ is_some (lack_by def preset of_holes missing)
made_or_lacks (Def.Struct struct) (Some v) of_fills of_holes missing e = refl
made_or_lacks (Def.Struct struct) None of_fills of_holes missing e = e
made_or_lacks (Def.Option t) (Some v) of_fills of_holes missing e = refl
made_or_lacks (Def.Option t) None of_fills of_holes missing e = refl
made_or_lacks _ preset of_fills of_holes missing e = refl

entered_or_lacks : (hooks : Meanings) (table : Table) (s : ℕ)
    → is_none (complete strict_column hooks table s entered) ≡ is_some (lack hooks table s entered)
entered_or_lacks hooks table s =
    made_or_lacks _ _ _ _ _ (no_made (as_fields None) (each_child (λ k. valid_child hooks table s (as_fields None) k _) _ 0)
    ∙ holes_or_lack hooks table s (child_count table s) 0)

first_grouped : (a b c : Option ReflectErrorKind) → option_or (option_or a b) c ≡ option_or a (option_or b c)
first_grouped (Some kind) b c = refl
first_grouped None b c = refl

child_or_lacks : (hooks : Meanings) (table : Table) (s : ℕ) (tracker : Tracker) (i : ℕ) (made : Option Val)
    (rest : Option Vals) (lacking others : Option ReflectErrorKind) → is_none made ≡ is_some lacking
    → is_none rest ≡ is_some others → is_none (one_more (valid_child hooks table s tracker i made) rest)
    ≡ is_some (option_or lacking (option_or (failing_child hooks table s tracker i made) others))
child_or_lacks hooks table s tracker i made rest lacking others e f =
    not_all _ rest _ others
    (valid_or_failing hooks table s tracker i made lacking e) f ∙ ap (λ (o : Option ReflectErrorKind). is_some o)
    (first_grouped lacking (failing_child hooks table s tracker i made) others)

mutual
  pub completes_or_lacks : (hooks : Meanings) (table : Table) (s : ℕ) (t : Tree)
      → is_none (complete strict_column hooks table s t) ≡ is_some (lack hooks table s t)
  completes_or_lacks hooks table s entered = entered_or_lacks hooks table s
  completes_or_lacks hooks table s (begun tracker ts) =
      no_made tracker (complete_all strict_column hooks table s tracker 0 ts) ∙ all_complete_or_lack hooks table s tracker 0 ts
  completes_or_lacks hooks table s _ = refl

  all_complete_or_lack : (hooks : Meanings) (table : Table) (s : ℕ) (tracker : Tracker) (i : ℕ) (ts : Trees)
      → is_none (complete_all strict_column hooks table s tracker i ts) ≡ is_some (lack_among hooks table s tracker i ts)
  all_complete_or_lack hooks table s tracker i no_trees = refl
  all_complete_or_lack hooks table s tracker i (branch hole ts) =
      not_all _ (complete_all strict_column hooks table s tracker (suc i) ts) _ (lack_among hooks table s tracker (suc i) ts)
      (hole_or_lacks hooks table s tracker i) (all_complete_or_lack hooks table s tracker (suc i) ts)
  all_complete_or_lack hooks table s tracker i (branch t ts) =
      child_or_lacks hooks table s tracker i _ _ (lack hooks table (child_as table s tracker i) t)
      (lack_among hooks table s tracker (suc i) ts) (completes_or_lacks hooks table (child_as table s tracker i) t)
      (all_complete_or_lack hooks table s tracker (suc i) ts)

-- what completes fits

-- the hooks by which something in a tree is converted are lawful
abbrev mutual
  pub LawfulIn : Meanings → Tree → Type 0
  LawfulIn hooks (begun tracker ts) = (is_conversion tracker ≡ true → IsLawful hooks) × AllLawfulIn hooks ts
  LawfulIn hooks _ = Unit {0}

  pub AllLawfulIn : Meanings → Trees → Type 0
  AllLawfulIn hooks no_trees = Unit {0}
  AllLawfulIn hooks (branch t ts) = LawfulIn hooks t × AllLawfulIn hooks ts

mutual
  pub lawful_in : (hooks : Meanings) (t : Tree) → IsLawful hooks → LawfulIn hooks t
  lawful_in hooks (begun tracker ts) lawful = (λ conversion. lawful, all_lawful_in hooks ts lawful)
  lawful_in hooks _ lawful = tt

  pub all_lawful_in : (hooks : Meanings) (ts : Trees) → IsLawful hooks → AllLawfulIn hooks ts
  all_lawful_in hooks no_trees lawful = tt
  all_lawful_in hooks (branch t ts) lawful = (lawful_in hooks t lawful, all_lawful_in hooks ts lawful)

-- what passes was taken
valid_is : (hooks : Meanings) (table : Table) (s : ℕ) (tracker : Tracker) (i : ℕ) (made : Option Val) (v : Val)
    → valid_child hooks table s tracker i made ≡ Some v → taken hooks table s tracker made ≡ Some v
valid_is hooks table s tracker i made v e = go _ e
  where
    go : (failing : Option ReflectErrorKind) → unless_failing failing (taken hooks table s tracker made) ≡ Some v
        → taken hooks table s tracker made ≡ Some v
    go (Some kind) e = cc
    go None e = e

-- a value that fits, and holds these tokens, but for those that are dropped
pub record Made (table : Table) (s : ℕ) (dropped held : ℕ → ℕ) (v : Val) : Type 0 where
  pub fit : fits table s v ≡ true
  pub hold : (t : ℕ) → occurs v t + dropped t ≡ held t

-- so it is of what is taken of a child's value: a source's is converted by a lawful hook
taken_made : (hooks : Meanings) (table : Table) (s : ℕ) (tracker : Tracker) (i : ℕ) (made : Option Val) (w : Val)
    (dropped held : ℕ → ℕ) → (is_conversion tracker ≡ true → IsLawful hooks) → IsChecked table → IsSoundAs table s tracker
    → ((v : Val) → made ≡ Some v → Made table (child_as table s tracker i) dropped held v)
    → taken hooks table s tracker made ≡ Some w
    → Made table (taken_as table s tracker i) (λ t. dropped t + not_taken made (taken hooks table s tracker made) t) held w
taken_made hooks table s (as_content (ContentKind.Source conversion)) i (Some v) w dropped held lawful checked sound child e =
    go (hooks.convert table conversion.hook s v) ((lawful refl).converted_fits table conversion.hook s v)
    ((lawful refl).converted_tokens table conversion.hook s v) e
  where
    go : (meaning : Meaning) → IfGives meaning (FitsTarget table s) → IfGives meaning (HoldsTokensOf v table s)
        → value_given meaning ≡ Some w → Made table s (λ t. dropped t + not_taken (Some v) (value_given meaning) t) held w
    go (gives u) fit few e =
        let same : u ≡ w = cc in
        rw same
        (record {
          fit = subst (λ (x : Val). fits table s x ≡ true) same (fit checked sound);
          hold = λ t. (let fewer : occurs w t ≤ occurs v t = subst (λ (x : Val). occurs x t ≤ occurs v t) same (few checked sound t) in
              omega (arith, (child v refl).hold t));
        })
    go _ fit few e = cc
taken_made hooks table s (as_content (ContentKind.Source conversion)) i None w dropped held lawful checked sound child e = cc
taken_made hooks table s _ i (Some v) w dropped held lawful checked sound child e =
    let same : v ≡ w = cc in
    let own = child v refl in
    rw (← same) (record { fit = own.fit; hold = λ t. omega (arith, own.hold t) })
taken_made hooks table s _ i None w dropped held lawful checked sound child e = cc

-- what a hole takes, if it takes anything, as a child of a place that is begun so
taken_template : (column : Column) (table : Table) (s : ℕ) (tracker : Tracker) (i : ℕ) (v : Val) → IsChecked table
    → hole_takes column table s tracker i ≡ Some v → IsTemplate table (child_as table s tracker i) v
taken_template column table s (as_fields None) i v checked e = fill_template column table s i v checked e
taken_template column table s (as_fields (Some k)) i v checked e = fill_in_template column table s (Some k) i v checked e
taken_template column table s _ i v checked e = cc

made_of_template : (table : Table) (s : ℕ) (v : Val) → IsTemplate table s v → Made table s (λ t. 0) (λ t. 0) v
made_of_template table s v template = record { fit = template.fit; hold = λ t. omega (arith, template_holds table s v t template) }

-- the tokens that are dropped by children and by what isn't taken of them
abbrev pub dropped_below : Column → Meanings → Table → ℕ → Tracker → ℕ → Trees → ℕ → ℕ
dropped_below column hooks table s tracker i ts t =
    dropped_among column hooks table s tracker i ts t + not_taken_among column hooks table s tracker i ts t

-- what is taken of children fits, one for each, and holds these tokens, but for those that are dropped
pub record Children (table : Table) (s : ℕ) (tracker : Tracker) (i count : ℕ) (dropped held : ℕ → ℕ) (vs : Vals) : Type 0 where
  pub fit : ChildrenFit table s tracker i vs
  pub counted : count_vals vs ≡ count
  pub hold : (t : ℕ) → vals_occur vs t + dropped t ≡ held t

no_children : (table : Table) (s : ℕ) (tracker : Tracker) (i : ℕ) (vs : Vals)
    → ◌≡◌ {A = Option Vals} (Some no_vals) (Some vs) → Children table s tracker i 0 (λ t. 0) (λ t. 0) vs
no_children table s tracker i no_vals e = record { fit = tt; counted = refl; hold = λ t. refl }
no_children table s tracker i (first v vs) e = cc

child_and_more : (hooks : Meanings) (table : Table) (s : ℕ) (tracker : Tracker) (i count : ℕ)
    (by_child by_rest dropped of_child of_rest : ℕ → ℕ) (made : Option Val) (rest : Option Vals) (vs : Vals)
    → ((t : ℕ) → dropped t ≡ by_child t + by_rest t) → ((w : Val) → taken hooks table s tracker made ≡ Some w → Made table (taken_as table s tracker i) by_child of_child w)
    → ((ws : Vals) → rest ≡ Some ws → Children table s tracker (suc i) count by_rest of_rest ws)
    → one_more (valid_child hooks table s tracker i made) rest ≡ Some vs
    → Children table s tracker i (suc count) dropped (λ t. of_child t + of_rest t) vs
child_and_more hooks table s tracker i count by_child by_rest dropped of_child of_rest made rest vs all child others e =
    rw parts.same (record {
      fit = (here.fit, more.fit);
      counted = ap suc more.counted;
      hold = λ t. omega (arith, here.hold t, more.hold t, all t);
    })
  where
    parts : OneMore (valid_child hooks table s tracker i made) rest vs
    parts = one_more_is _ rest vs e

    here : Made table (taken_as table s tracker i) by_child of_child parts.head
    here = child parts.head (valid_is hooks table s tracker i made parts.head parts.head_is)

    more : Children table s tracker (suc i) count by_rest of_rest parts.tail
    more = others parts.tail parts.tail_is

hole_child : (column : Column) (hooks : Meanings) (table : Table) (s : ℕ) (tracker : Tracker) (i : ℕ) → IsChecked table → (w : Val)
    → taken hooks table s tracker (hole_takes column table s tracker i) ≡ Some w
    → Made table (taken_as table s tracker i) (λ t. 0) (λ t. 0) w
hole_child column hooks table s (as_fields selected) i checked w e =
    made_of_template table _ w (taken_template column table s (as_fields selected) i w checked e)
hole_child column hooks table s (as_content (ContentKind.Source conversion)) i checked w e = cc
hole_child column hooks table s _ i checked w e = cc

fills_fit : (column : Column) (hooks : Meanings) (table : Table) (s count i : ℕ) (vs : Vals) → IsChecked table
    → each_child (λ k. valid_child hooks table s (as_fields None) k (fill_at column table s k)) count i ≡ Some vs
    → Children table s (as_fields None) i count (λ t. 0) (λ t. 0) vs
fills_fit column hooks table s zero i vs checked e = no_children table s _ i vs e
fills_fit column hooks table s (suc count) i vs checked e =
    child_and_more hooks table s _ i count (λ t. 0) (λ t. 0) (λ t. 0) (λ t. 0) (λ t. 0) _
    (each_child (λ k. valid_child hooks table s (as_fields None) k _) count (suc i)) vs (λ t. refl)
    (hole_child column hooks table s (as_fields None) i checked) (λ ws. fills_fit column hooks table s count (suc i) ws checked) e

made_of_children : (table : Table) (s : ℕ) (tracker : Tracker) (count : ℕ) (by_children dropped held : ℕ → ℕ)
    (children : Option Vals) (v : Val) → IsFullAs (def_of table s) tracker count → IsSoundAs table s tracker
    → ((vs : Vals) → children ≡ Some vs → (t : ℕ) → dropped t ≡ by_children t + left_out tracker vs t)
    → ((vs : Vals) → children ≡ Some vs → Children table s tracker 0 count by_children held vs)
    → made tracker children ≡ Some v → Made table s dropped held v
made_of_children table s tracker count by_children dropped held children v full_as sound drops each e =
    let parts = made_is tracker children v e in
    let those = each parts.parts parts.parts_are in
    let all_there : IsFullAs _ tracker _ = rw those.counted full_as in
    rw parts.same (record {
      fit = value_fits table s tracker parts.parts all_there sound those.fit;
      hold = λ t. omega (
        arith,
        value_holds table s tracker parts.parts all_there those.fit t,
        those.hold t,
        drops parts.parts parts.parts_are t,
      );
    })

entered_makes : (column : Column) (hooks : Meanings) (table : Table) (s : ℕ) (v : Val) → IsChecked table
    → complete column hooks table s entered ≡ Some v → Made table s (λ t. 0) (λ t. 0) v
entered_makes column hooks table s v checked e = go (def_of table s) (preset_of table s) refl refl e
  where
    go : (def : Def) (preset : Option Val) → def_of table s ≡ def → preset_of table s ≡ preset
        → made_by def preset (made_of_fills column hooks table s) ≡ Some v → Made table s (λ t. 0) (λ t. 0) v
    go (Def.Struct struct) (Some u) is there e =
        let same : u ≡ v = cc in rw (← same) (made_of_template table s u (preset_template table s u checked there))
    go (Def.Struct struct) None is there e =
        made_of_children table s (as_fields None) (child_count table s) (λ t. 0) (λ t. 0) (λ t. 0)
        (each_child (λ k. valid_child hooks table s (as_fields None) k (fill_at column table s k)) (child_count table s) 0) v
        (rw is refl) tt (λ vs is t. refl) (λ vs. fills_fit column hooks table s (child_count table s) 0 vs checked) e
    go (Def.Option content) (Some u) is there e =
        let same : none ≡ v = cc in rw (← same) (record { fit = rw (settled_as table s is refl) refl; hold = λ t. refl })
    go (Def.Option content) None is there e = cc
    go _ preset is there e = cc

mutual
  pub completing_makes : (column : Column) (hooks : Meanings) (table : Table) (tree : Tree) (s : ℕ) (v : Val)
      → LawfulIn hooks tree → IsChecked table → Suits table s tree → complete column hooks table s tree ≡ Some v
      → Made table s (λ t. dropped_by_completing column hooks table s tree t) (λ t. tree_occurs tree t) v
  completing_makes column hooks table hole s v lawful checked suits e = cc
  completing_makes column hooks table entered s v lawful checked suits e = entered_makes column hooks table s v checked e
  completing_makes column hooks table (whole u) s v lawful checked suits e =
      let same : u ≡ v = cc in rw (← same) (record { fit = suits; hold = λ t. omega arith })
  completing_makes column hooks table (begun tracker trees) s v lawful checked suits e =
      made_of_children table s tracker (count_trees trees) (λ t. dropped_below column hooks table s tracker 0 trees t)
      (λ t. dropped_by_completing column hooks table s (begun tracker trees) t) (λ t. trees_occur trees t)
      (complete_all column hooks table s tracker 0 trees) v suits.0.0
      (sound_as table s tracker trees suits.2)
      (λ vs is t. ap (λ (values : Option Vals). dropped_below column hooks table s tracker 0 trees t + left_out_of tracker values t) is)
      (λ vs. all_completing_make column hooks table trees s tracker 0 vs lawful.0 lawful.1 checked (sound_as table s tracker trees suits.2) suits.1) e

  pub all_completing_make : (column : Column) (hooks : Meanings) (table : Table) (trees : Trees) (s : ℕ) (tracker : Tracker) (i : ℕ)
      (vs : Vals) → (is_conversion tracker ≡ true → IsLawful hooks) → AllLawfulIn hooks trees → IsChecked table → IsSoundAs table s tracker → SuitFrom table s tracker i trees → complete_all column hooks table s tracker i trees ≡ Some vs
      → Children table s tracker i (count_trees trees) (λ t. dropped_below column hooks table s tracker i trees t)
      (λ t. trees_occur trees t) vs
  all_completing_make column hooks table no_trees s tracker i vs lawful all checked sound suits e = no_children table s tracker i vs e
  all_completing_make column hooks table (branch hole trees) s tracker i vs lawful all checked sound suits e =
      child_and_more hooks table s tracker i (count_trees trees) (λ t. 0)
      (λ t. dropped_below column hooks table s tracker (suc i) trees t)
      (λ t. dropped_below column hooks table s tracker i (branch hole trees) t) (λ t. 0) (λ t. trees_occur trees t)
      (hole_takes column table s tracker i) (complete_all column hooks table s tracker (suc i) trees) vs (λ t. omega arith)
      (hole_child column hooks table s tracker i checked)
      (λ ws. all_completing_make column hooks table trees s tracker (suc i) ws lawful all.1 checked sound suits.1) e
  all_completing_make column hooks table (branch tree trees) s tracker i vs lawful all checked sound suits e =
      child_and_more hooks table s tracker i (count_trees trees)
      (λ t. dropped_by_completing column hooks table (child_as table s tracker i) tree t
      + not_taken (complete column hooks table (child_as table s tracker i) tree)
      (taken hooks table s tracker (complete column hooks table (child_as table s tracker i) tree)) t)
      (λ t. dropped_below column hooks table s tracker (suc i) trees t)
      (λ t. dropped_below column hooks table s tracker i (branch tree trees) t) (λ t. tree_occurs tree t) (λ t. trees_occur trees t)
      (complete column hooks table (child_as table s tracker i) tree) (complete_all column hooks table s tracker (suc i) trees) vs
      (λ t. omega arith)
      (λ w. taken_made hooks table s tracker i _ w _ _ lawful checked sound
      (λ v is. completing_makes column hooks table tree (child_as table s tracker i) v all.0 checked suits.0 is))
      (λ ws. all_completing_make column hooks table trees s tracker (suc i) ws lawful all.1 checked sound suits.1) e
