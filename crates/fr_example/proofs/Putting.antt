-- What one pair makes of a struct that was filled with others.
use Rattle.std.proofs.Common.{◌≡◌, ◌==◌, ◌||◌, ℕ, ◌+◌, ◌<◌, Bool, true, false, List, [], ◌∷◌, ◌++◌, length, Option, Some, None, Result, Ok, if◌then◌else◌, refl, sym, ◌∙◌, ap, subst, arith}
use Rattle.std.proofs.lemmas.Bool.Decides.{nat_tests}
use Rattle.std.specs.Option.{option_or}
use Rattle.fr_shape.specs.declared.error.ReflectErrorKind.{ReflectErrorKind}
use Rattle.fr_shape.specs.declared.shape.Def.{Def}
use Rattle.fr_shape.specs.declared.shape.Field.{Field}
use Rattle.fr_shape.specs.declared.shape.ScalarKind.{ScalarKind}
use Rattle.fr_shape.specs.declared.shape.StructDef.{StructDef}
use Rattle.fr_shape.specs.Checked.{IsChecked, is_sized}
use Rattle.fr_shape.specs.Hooks.{Meanings}
use Rattle.fr_shape.specs.Fills.{is_empty_struct}
use Rattle.fr_shape.specs.Lists.{is_nil}
use Rattle.fr_shape.specs.Look.{Table, def_of}
use Rattle.fr_shape.specs.Named.{field_named}
use Rattle.fr_shape.specs.Plannable.{is_dynamic}
use Rattle.fr_shape.specs.Val.{Val, text, product, dyn, no_vals}
use Rattle.fr_shape.specs.Val.{dyn_text}
use Rattle.fr_model.specs.Commands.{Call}
use Rattle.fr_model.specs.Complete.{complete}
use Rattle.fr_model.specs.ScalarsAsDynamics.{converted}
use Rattle.fr_model.specs.Items.{is_open_slice}
use Rattle.fr_model.specs.Places.{strict_column, child_count, child_shape}
use Rattle.fr_model.specs.Step.{unless_refused, at_shape, named_refusal, opened_as, opened, enter, enter_child, enters_named, begins_named, set_refusal, puts, puts_dynamic, set_dynamic, set, puts_made, ended, step}
use Rattle.fr_model.specs.Trackers.{Tracker, as_fields}
use Rattle.fr_model.specs.Tree.{tracker_at, selected, Tree, entered, whole, begun, Trees, child_as, change_nth, change_child, fresh, without_source, strict, State, one_more_call}
use Rattle.fr_model.specs.Variants.{field_found}
use Rattle.fr_example.specs.declared.record.Pair.{Pair}
use Rattle.fr_example.specs.Meant.{takes_text, refusal_at, refusal_of, is_found, text_in, text_at, given, last_given}
use Rattle.fr_example.specs.Putting.{then_call, puts_pair}
use Rattle.fr_example.proofs.OnePairMore.{last_given_more, found_within}
use Rattle.fr_example.proofs.Sized.{field_is_sized, takes_its_own}
use Rattle.fr_example.proofs.Slots.{slots, slots_holes, put_slot, put_again, put_there}

-- the struct once these pairs were put, and the builder at it
abbrev pub tree_of : Table → ℕ → List Pair → Tree
tree_of table root [] = fresh (def_of table root)
tree_of table root (pair ∷ pairs) =
    begun (as_fields None) (slots (last_given table root (pair ∷ pairs)) (child_count table root) 0)

abbrev pub filling : Table → ℕ → List Pair → ℕ → State
filling table root pairs calls = record { tree = tree_of table root pairs; cursor = []; mode = strict; calls = calls }

-- the builder at field i of a struct with these children
abbrev pub at_field : ℕ → Trees → ℕ → State
at_field i ts calls = record { tree = begun (as_fields None) ts; cursor = i ∷ []; mode = strict; calls = calls }

opened_fresh : (fields : List Field) (i count : ℕ) → i < length fields
    → opened_as (as_fields None) count (if is_nil fields then whole (product no_vals) else entered)
    ≡ begun (as_fields None) (slots (λ k. None) count 0)
opened_fresh [] i count below = absurd (omega arith)
opened_fresh (field ∷ fields) i count below = ap (λ (ts : Trees). begun (as_fields None) ts) (slots_holes count 0)

-- the struct as its fields see it
opened_tree : (table : Table) (root : ℕ) (struct : StructDef) (i : ℕ) (pairs : List Pair)
    → def_of table root ≡ Def.Struct struct → i < length struct.fields
    → opened (def_of table root) (tree_of table root pairs)
    ≡ begun (as_fields None) (slots (last_given table root pairs) (child_count table root) 0)
opened_tree table root struct i [] is below = rw is (opened_fresh struct.fields i (length struct.fields) below)
opened_tree table root struct i (pair ∷ pairs) is below = refl

tree_more : (table : Table) (root : ℕ) (pairs : List Pair) (pair : Pair)
    → begun (as_fields None) (slots (last_given table root (pairs ++ pair ∷ [])) (child_count table root) 0)
    ≡ tree_of table root (pairs ++ pair ∷ [])
tree_more table root [] pair = refl
tree_more table root (p ∷ pairs) pair = refl

-- what the pair gives

given_here : (table : Table) (root : ℕ) (pair : Pair) (i : ℕ) → field_named pair.name (def_of table root) ≡ Some i
    → given table root pair i ≡ Some (text_at table root i pair.text)
given_here table root pair i e =
    ap (λ (found : Option ℕ). if is_found i found then Some (text_at table root i pair.text) else None) e
    ∙ ap (λ (b : Bool). if b then Some (text_at table root i pair.text) else None) (same i)
  where
    same : (i : ℕ) → (i == i) ≡ true
    same i = grind (arith, nat_tests)

given_elsewhere : (table : Table) (root : ℕ) (pair : Pair) (i m : ℕ) → field_named pair.name (def_of table root) ≡ Some i
    → ¬ (m ≡ i) → given table root pair m ≡ None
given_elsewhere table root pair i m e apart =
    ap (λ (found : Option ℕ). if is_found m found then Some (text_at table root m pair.text) else None) e
    ∙ ap (λ (b : Bool). if b then Some (text_at table root m pair.text) else None) (other m i apart)
  where
    other : (m i : ℕ) → ¬ (m ≡ i) → (m == i) ≡ false
    other m i apart = grind (arith, nat_tests)

-- the children once the pair is put
put_given : (table : Table) (root : ℕ) (pairs : List Pair) (pair : Pair) (i count : ℕ)
    → field_named pair.name (def_of table root) ≡ Some i
    → change_nth i (λ old. whole (text_at table root i pair.text)) (slots (last_given table root pairs) count 0)
    ≡ slots (last_given table root (pairs ++ pair ∷ [])) count 0
put_given table root pairs pair i count e =
    put_slot (last_given table root pairs) (last_given table root (pairs ++ pair ∷ [])) (text_at table root i pair.text) count
    0 i i (omega arith)
    (last_given_more table root pairs pair i
    ∙ ap (λ (o : Option Val). option_or o (last_given table root pairs i)) (given_here table root pair i e))
    (λ m apart. sym (last_given_more table root pairs pair m
    ∙ ap (λ (o : Option Val). option_or o (last_given table root pairs m)) (given_elsewhere table root pair i m e apart)))

-- the three calls

-- a struct is begun as one, and no variant of it is selected

none_of_fresh : (empty : Bool) → selected (if empty then whole (product no_vals) else entered) ≡ None
none_of_fresh true = refl
none_of_fresh false = refl

none_selected : (table : Table) (root : ℕ) (pairs : List Pair) → selected (tree_of table root pairs) ≡ None
none_selected table root [] = none_of_fresh (is_empty_struct (def_of table root))
none_selected table root (pair ∷ pairs) = refl

struct_of_fresh : (struct : StructDef) (empty : Bool)
    → tracker_at (Def.Struct struct) (if empty then whole (product no_vals) else entered) ≡ as_fields None
struct_of_fresh struct true = refl
struct_of_fresh struct false = refl

begun_struct : (table : Table) (root : ℕ) (struct : StructDef) (pairs : List Pair) → def_of table root ≡ Def.Struct struct
    → tracker_at (def_of table root) (tree_of table root pairs) ≡ as_fields None
begun_struct table root struct [] is = rw is (struct_of_fresh struct (is_nil struct.fields))
begun_struct table root struct (pair ∷ pairs) is = refl

-- and is no conversion

plain_fresh : (def : Def) (empty : Bool)
    → without_source def (if empty then whole (product no_vals) else entered) ≡ (if empty then whole (product no_vals) else entered)
plain_fresh def true = refl
plain_fresh def false = refl

no_source : (table : Table) (root : ℕ) (pairs : List Pair)
    → without_source (def_of table root) (tree_of table root pairs) ≡ tree_of table root pairs
no_source table root [] = plain_fresh (def_of table root) (is_empty_struct (def_of table root))
no_source table root (pair ∷ pairs) = refl

pub begins : (hooks : Meanings) (table : Table) (root : ℕ) (struct : StructDef) (name : List ℕ) (pairs : List Pair) (calls : ℕ)
    → def_of table root ≡ Def.Struct struct
    → step hooks table root (filling table root pairs calls) (Call.BeginField name)
    ≡ enters_named table root (filling table root pairs calls) (field_named name (def_of table root))
begins hooks table root struct name pairs calls is =
    ap
    (λ (o : Option ℕ).
    begins_named table root (filling table root pairs calls)
    (at_shape root (named_refusal (def_of table root) (tree_of table root pairs)))
    (field_found name (def_of table root) o))
    (none_selected table root pairs)
    ∙ rw is refl

-- the children with field i entered
abbrev pub with_entered : Table → ℕ → List Pair → ℕ → Trees
with_entered table root pairs i =
    change_nth i (enter (def_of table (child_shape table root i)))
    (slots (last_given table root pairs) (child_count table root) 0)

pub entered_field : (table : Table) (root : ℕ) (struct : StructDef) (i : ℕ) (pairs : List Pair) (calls : ℕ)
    → def_of table root ≡ Def.Struct struct → i < length struct.fields
    → enters_named table root (filling table root pairs calls) (Some i)
    ≡ Ok (at_field i (with_entered table root pairs i) (one_more_call calls))
entered_field table root struct i pairs calls is below =
    ap
    (λ (t : Tree).
    Ok (record {
      tree = enter_child table root i t;
      cursor = i ∷ [];
      mode = strict;
      calls = one_more_call calls;
    }))
    (no_source table root pairs)
    ∙ ap
    (λ (tracker : Tracker).
    Ok (record {
      tree =
          change_child i (enter (def_of table (child_as table root tracker i)))
          (opened (def_of table root) (tree_of table root pairs));
      cursor = i ∷ [];
      mode = strict;
      calls = one_more_call calls;
    }))
    (begun_struct table root struct pairs is)
    ∙ ap
    (λ (t : Tree).
    Ok (record {
      tree = change_child i (enter (def_of table (child_shape table root i))) t;
      cursor = i ∷ [];
      mode = strict;
      calls = one_more_call calls;
    }))
    (opened_tree table root struct i pairs is below)

ends : (hooks : Meanings) (table : Table) (root : ℕ) (i : ℕ) (pairs : List Pair) (pair : Pair) (calls : ℕ)
    → field_named pair.name (def_of table root) ≡ Some i → i < child_count table root
    → step hooks table root (puts (at_field i (with_entered table root pairs i) calls) (text_at table root i pair.text)) Call.End
    ≡ Ok (filling table root (pairs ++ pair ∷ []) (one_more_call (one_more_call calls)))
ends hooks table root i pairs pair calls e below =
    ap
    (λ (t : Tree).
    if is_open_slice t then puts_made hooks table (child_shape table root i)
    (puts (at_field i (with_entered table root pairs i) calls) (text_at table root i pair.text))
    (complete strict_column hooks table (child_shape table root i) t)
    else ended hooks table (child_shape table root i)
    (puts (at_field i (with_entered table root pairs i) calls) (text_at table root i pair.text))
    (complete strict_column hooks table (child_shape table root i) t))
    (put_there i (text_at table root i pair.text) (last_given table root pairs) (child_count table root) 0
    (enter (def_of table (child_shape table root i))) below)
    ∙ ap
    (λ (ts : Trees).
    Ok (record { tree = begun (as_fields None) ts; cursor = []; mode = strict; calls = one_more_call (one_more_call calls) }))
    (put_again i (text_at table root i pair.text) (λ old. whole (text_at table root i pair.text)) (with_entered table root pairs i)
    ∙ put_again i (text_at table root i pair.text) (enter (def_of table (child_shape table root i)))
    (slots (last_given table root pairs) (child_count table root) 0)
    ∙ put_given table root pairs pair i (child_count table root) e)
    ∙ ap
    (λ (t : Tree). Ok (record { tree = t; cursor = []; mode = strict; calls = one_more_call (one_more_call calls) }))
    (tree_more table root pairs pair)

-- Putting a text

-- a dynamic shape is no text's
dynamic_apart : (table : Table) (s string : ℕ) → is_dynamic (def_of table s) ≡ true
    → def_of table string ≡ Def.Scalar ScalarKind.String → (s == string) ≡ false
dynamic_apart table s string dynamic text_shape = go (s == string) refl
  where
    go : (same : Bool) → (s == string) ≡ same → same ≡ false
    go false e = refl
    go true e =
        let at : s ≡ string = grind (arith, nat_tests, e) in
        let not : is_dynamic (def_of table string) ≡ true = subst (λ (k : ℕ). is_dynamic (def_of table k) ≡ true) at dynamic in
        let never : is_dynamic (Def.Scalar ScalarKind.String) ≡ true = subst (λ (def : Def). is_dynamic def ≡ true) text_shape not in
        cc

-- a place that has a size takes the text, or refuses its shape
pub sets : (table : Table) (s string : ℕ) (here : State) (codes : List ℕ) → def_of table string ≡ Def.Scalar ScalarKind.String
    → is_sized (def_of table s) ≡ true
    → set table s here string (text codes)
    ≡ unless_refused
    (if takes_text table s string then None
    else Some (ReflectErrorKind.WrongShape (record { 0 = s }) (record { 0 = string })))
    (puts here (text_in (def_of table s) codes))
sets table s string here codes text_shape sized = go (is_dynamic (def_of table s)) refl
  where
    go : (dynamic : Bool) → is_dynamic (def_of table s) ≡ dynamic
        → (if dynamic then set_dynamic table s here string (text codes)
        else unless_refused (set_refusal table s string) (puts here (text codes)))
        ≡ unless_refused
        (if dynamic || s == string then None
        else Some (ReflectErrorKind.WrongShape (record { 0 = s }) (record { 0 = string })))
        (puts here (if dynamic then dyn (dyn_text codes) else text codes))
    go true is =
        ap
        (λ (same : Bool).
        if same then Ok (puts here (text codes))
        else puts_dynamic here string (converted table s (def_of table string) (text codes)))
        (dynamic_apart table s string is text_shape)
        ∙ ap (λ (def : Def). puts_dynamic here string (converted table s def (text codes))) text_shape
    go false is =
        ap
        (λ (taken : Bool).
        unless_refused
        (if taken then None
        else Some (ReflectErrorKind.WrongShape (record { 0 = s }) (record { 0 = string })))
        (puts here (text codes)))
        (takes_its_own table s string sized)

-- what stands at the root after the field was entered, or not
entered_or_not : (hooks : Meanings) (table : Table) (root string : ℕ) (struct : StructDef) (pairs : List Pair) (pair : Pair)
    (calls : ℕ) (found : Option ℕ) → def_of table root ≡ Def.Struct struct
    → field_named pair.name (def_of table root) ≡ found
    → puts_pair hooks table root string (filling table root pairs calls) pair
    ≡ then_call hooks table root
    (then_call hooks table root (enters_named table root (filling table root pairs calls) found)
    (Call.Set string (text pair.text)))
    Call.End
entered_or_not hooks table root string struct pairs pair calls found is e =
    ap
    (λ (r : Result State ReflectErrorKind).
    then_call hooks table root (then_call hooks table root r (Call.Set string (text pair.text))) Call.End)
    (begins hooks table root struct pair.name pairs calls is
    ∙ ap (λ (o : Option ℕ). enters_named table root (filling table root pairs calls) o) e)

pub within : (table : Table) (root : ℕ) (struct : StructDef) (name : List ℕ) (i : ℕ) → def_of table root ≡ Def.Struct struct
    → field_named name (def_of table root) ≡ Some i → i < length struct.fields
within table root struct name i is e =
    let below : i < 0 + length struct.fields = found_within name 0 i struct.fields (rw is at e) in omega arith

set_or_not : (hooks : Meanings) (table : Table) (root : ℕ) (here after : State) (kind : ReflectErrorKind) (b : Bool)
    → step hooks table root here Call.End ≡ Ok after
    → then_call hooks table root (unless_refused (if b then None else Some kind) here) Call.End
    ≡ unless_refused (if b then None else Some kind) after
set_or_not hooks table root here after kind true e = e
set_or_not hooks table root here after kind false e = refl

-- the pair is refused, or the struct is filled with it too
pub puts_pair_is : (hooks : Meanings) (table : Table) (root string : ℕ) (struct : StructDef) (pairs : List Pair) (pair : Pair) (calls : ℕ)
    → IsChecked table → def_of table root ≡ Def.Struct struct → def_of table string ≡ Def.Scalar ScalarKind.String
    → puts_pair hooks table root string (filling table root pairs calls) pair
    ≡ unless_refused (refusal_of table root string pair)
    (filling table root (pairs ++ pair ∷ []) (one_more_call (one_more_call (one_more_call calls))))
puts_pair_is hooks table root string struct pairs pair calls checked is text_shape =
    go (field_named pair.name (def_of table root)) refl
  where
    go : (found : Option ℕ) → field_named pair.name (def_of table root) ≡ found
        → puts_pair hooks table root string (filling table root pairs calls) pair
        ≡ unless_refused (refusal_at table root string found)
        (filling table root (pairs ++ pair ∷ []) (one_more_call (one_more_call (one_more_call calls))))
    go None e = entered_or_not hooks table root string struct pairs pair calls None is e
    go (Some i) e =
        let below : i < length struct.fields = within table root struct pair.name i is e in
        let child : i < child_count table root = rw is below in
        let here : State = at_field i (with_entered table root pairs i) (one_more_call calls) in
        entered_or_not hooks table root string struct pairs pair calls (Some i) is e
        ∙ ap
        (λ (r : Result State ReflectErrorKind).
        then_call hooks table root (then_call hooks table root r (Call.Set string (text pair.text))) Call.End)
        (entered_field table root struct i pairs calls is below)
        ∙ ap (λ (r : Result State ReflectErrorKind). then_call hooks table root r Call.End)
        (sets table (child_shape table root i) string here pair.text text_shape
        (field_is_sized table root struct i checked is below))
        ∙ set_or_not hooks table root (puts here (text_at table root i pair.text))
        (filling table root (pairs ++ pair ∷ []) (one_more_call (one_more_call (one_more_call calls))))
        (ReflectErrorKind.WrongShape (record { 0 = child_shape table root i }) (record { 0 = string }))
        (takes_text table (child_shape table root i) string) (ends hooks table root i pairs pair (one_more_call calls) e child)
