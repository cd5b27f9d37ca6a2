-- The loop over the pairs, and what is built in the end.
use Rattle.std.proofs.Common.{◌≡◌, inl, inr, ℕ, zero, suc, ◌*◌, min, true, List, [], ◌∷◌, ◌++◌, length, append_assoc, length-append, Option, Some, None, Result, Ok, Err, refl, sym, ◌∙◌, ap, subst, arith}
use Rattle.std.specs.Option.{option_or}
use Rattle.fr_shape.specs.declared.error.ReflectErrorKind.{ReflectErrorKind}
use Rattle.fr_shape.specs.declared.shape.Def.{Def}
use Rattle.fr_shape.specs.declared.shape.ScalarKind.{ScalarKind}
use Rattle.fr_shape.specs.declared.shape.StructDef.{StructDef}
use Rattle.fr_shape.specs.Checked.{IsChecked}
use Rattle.fr_shape.specs.Hooks.{Meanings}
use Rattle.fr_shape.specs.Look.{Table, IsIn, def_of}
use Rattle.fr_shape.specs.Val.{Val}
use Rattle.fr_model.specs.Step.{unless_refused, build}
use Rattle.fr_model.specs.Tree.{State, one_more_call, most_calls}
use Rattle.fr_partial.specs.Builder.{Builder, IsStepTo, IsBuilt, meaning_of_build}
use Rattle.fr_work.specs.BuiltValue.{BuiltValue}
use Rattle.fr_work.specs.declared.reflect_error.ReflectError.{ReflectError}
use Rattle.fr_model.specs.Run.{alloc_refusal}
use Rattle.fr_shape.specs.declared.error.AllocError.{AllocError}
use Rattle.fr_example.specs.declared.record.Pair.{Pair}
use Rattle.fr_example.specs.Meant.{is_struct, refusal_of, first_refusal, unrefused, refused_or, pairs_meant, unplanned, record_meant, IsMeant}
use Rattle.fr_example.specs.Putting.{puts_pair}
use Rattle.fr_example.proofs.FilledStructs.{makes}
use Rattle.fr_example.proofs.OnePairMore.{first_refusal_later}
use Rattle.fr_example.proofs.Putting.{filling, puts_pair_is}

pub struct_of : (def : Def) → is_struct def ≡ true → (struct : StructDef) × (def ≡ Def.Struct struct)
struct_of (Def.Struct struct) e = (struct, refl)
struct_of _ e = cc

-- a struct is in its table
pub struct_within : (table : Table) (id : ℕ) → is_struct (def_of table id) ≡ true → IsIn table id
struct_within [] id struct = cc
struct_within (shape ∷ shapes) zero struct = omega arith
struct_within (shape ∷ shapes) (suc id) struct = let within = struct_within shapes id struct in omega arith

-- the builder works at a struct that is filled with these pairs, none of which was refused
pub record IsFilled (table : Table) (root string : ℕ) (pairs : List Pair) (here : State) : Type 0 where
  pub is : here ≡ filling table root pairs (min (3 * length pairs) most_calls)
  pub unrefused : first_refusal table root string pairs ≡ None

calls_more : (pairs : List Pair) (pair : Pair)
    → one_more_call (one_more_call (one_more_call (min (3 * length pairs) most_calls)))
    ≡ min (3 * length (pairs ++ pair ∷ [])) most_calls
calls_more pairs pair = omega (arith, length-append pairs (pair ∷ []))

-- a pair more
put_means : (hooks : Meanings) (table : Table) (root string : ℕ) (pairs : List Pair) (pair : Pair) (here : State) → IsChecked table
    → is_struct (def_of table root) ≡ true → def_of table string ≡ Def.Scalar ScalarKind.String
    → IsFilled table root string pairs here
    → puts_pair hooks table root string here pair
    ≡ unless_refused (refusal_of table root string pair)
    (filling table root (pairs ++ pair ∷ []) (min (3 * length (pairs ++ pair ∷ [])) most_calls))
put_means hooks table root string pairs pair here checked struct text_shape at =
    let known : (s : StructDef) × (def_of table root ≡ Def.Struct s) = struct_of (def_of table root) struct in
    ap (λ (s : State). puts_pair hooks table root string s pair) at.is
    ∙ puts_pair_is hooks table root string known.0 pairs pair (min (3 * length pairs) most_calls) checked known.1 text_shape
    ∙ ap
    (λ (calls : ℕ). unless_refused (refusal_of table root string pair) (filling table root (pairs ++ pair ∷ []) calls))
    (calls_more pairs pair)

-- it was put
pub filled_more : (hooks : Meanings) (table : Table) (root string : ℕ) (pairs : List Pair) (pair : Pair) (here after : State) → IsChecked table
    → is_struct (def_of table root) ≡ true → def_of table string ≡ Def.Scalar ScalarKind.String
    → IsFilled table root string pairs here
    → puts_pair hooks table root string here pair ≡ Ok after → IsFilled table root string (pairs ++ pair ∷ []) after
filled_more hooks table root string pairs pair here after checked struct text_shape at e =
    go (refusal_of table root string pair) refl (sym (put_means hooks table root string pairs pair here checked struct text_shape at) ∙ e)
  where
    go : (refusal : Option ReflectErrorKind) → refusal_of table root string pair ≡ refusal
        → unless_refused refusal
        (filling table root (pairs ++ pair ∷ []) (min (3 * length (pairs ++ pair ∷ [])) most_calls))
        ≡ Ok after
        → IsFilled table root string (pairs ++ pair ∷ []) after
    go (Some kind) is e = cc
    go None none e = record {
      is = cc;
      unrefused =
          first_refusal_later table root string pairs (pair ∷ []) at.unrefused
          ∙ ap (λ (o : Option ReflectErrorKind). option_or o None) none;
    }

-- it was refused, for the reason of its own
pub pair_refused : (hooks : Meanings) (table : Table) (root string : ℕ) (pairs : List Pair) (pair : Pair) (here : State) (kind : ReflectErrorKind)
    → IsChecked table → is_struct (def_of table root) ≡ true → def_of table string ≡ Def.Scalar ScalarKind.String
    → IsFilled table root string pairs here → puts_pair hooks table root string here pair ≡ Err kind
    → refusal_of table root string pair ≡ Some kind
pair_refused hooks table root string pairs pair here kind checked struct text_shape at e =
    go (refusal_of table root string pair) (sym (put_means hooks table root string pairs pair here checked struct text_shape at) ∙ e)
  where
    go : (refusal : Option ReflectErrorKind)
        → unless_refused refusal
        (filling table root (pairs ++ pair ∷ []) (min (3 * length (pairs ++ pair ∷ [])) most_calls))
        ≡ Err kind
        → refusal ≡ Some kind
    go (Some other) e = cc
    go None e = cc

-- and that is what is meant
put_refused : (hooks : Meanings) (table : Table) (root string : ℕ) (pairs : List Pair) (pair : Pair) (others : List Pair) (here : State)
    (kind : ReflectErrorKind) → IsChecked table → is_struct (def_of table root) ≡ true
    → def_of table string ≡ Def.Scalar ScalarKind.String → IsFilled table root string pairs here
    → puts_pair hooks table root string here pair ≡ Err kind
    → pairs_meant hooks table root string (pairs ++ pair ∷ others) ≡ Err kind
put_refused hooks table root string pairs pair others here kind checked struct text_shape at e =
    ap
    (λ (o : Option ReflectErrorKind). refused_or o (unrefused hooks table root (pairs ++ pair ∷ others)))
    (first_refusal_later table root string pairs (pair ∷ others) at.unrefused
    ∙ ap (λ (o : Option ReflectErrorKind). option_or o (first_refusal table root string others))
    (pair_refused hooks table root string pairs pair here kind checked struct text_shape at e))

-- what the whole loop meets where a pair isn't put
pub loop_refused : {H : Type 0} (hooks : Meanings) (table : Table) (root string : ℕ) (pairs : List Pair) (pair : Pair) (others all : List Pair)
    (before : Builder H) (error : ReflectError) → IsChecked table → is_struct (def_of table root) ≡ true
    → def_of table string ≡ Def.Scalar ScalarKind.String → before.root ≡ root
    → IsFilled table root string pairs before.state → all ≡ pairs ++ pair ∷ others
    → IsStepTo before (puts_pair hooks table before.root string before.state pair) (Err error)
    → IsMeant (pairs_meant hooks table root string all) (Err error)
loop_refused hooks table root string pairs pair others all before error checked struct text_shape at_root filled are (inl memory) = inl memory
loop_refused hooks table root string pairs pair others all before error checked struct text_shape at_root filled are (inr e) =
    inr (
    ap (λ (ps : List Pair). pairs_meant hooks table root string ps) are
    ∙ put_refused hooks table root string pairs pair others before.state error.kind checked struct text_shape filled
    (ap (λ (r : ℕ). puts_pair hooks table r string before.state pair) (sym at_root) ∙ e)
    )

-- what is built
built_means : {H : Type 0} (hooks : Meanings) (before : Builder H) (meant : Result Val ReflectErrorKind) (result : Result BuiltValue ReflectError)
    → meaning_of_build hooks before ≡ meant → IsBuilt hooks before result → IsMeant meant result
built_means hooks before meant (Ok built) e so = sym e ∙ so.0
built_means hooks before meant (Err error) e (inl memory) = inl memory
built_means hooks before meant (Err error) e (inr so) = inr (sym e ∙ so)

pub loop_built : {H : Type 0} (hooks : Meanings) (table : Table) (root string : ℕ) (pairs all : List Pair) (before : Builder H)
    (result : Result BuiltValue ReflectError) → is_struct (def_of table root) ≡ true
    → before.shapes ≡ table → before.root ≡ root → IsFilled table root string pairs before.state → all ≡ pairs
    → IsBuilt hooks before result → IsMeant (pairs_meant hooks table root string all) result
loop_built hooks table root string pairs all before result struct same at_root filled are so =
    built_means hooks before (pairs_meant hooks table root string all) result
    (ap (λ (t : Table). build hooks t before.root before.state) same
    ∙ ap (λ (r : ℕ). build hooks table r before.state) at_root
    ∙ ap (λ (s : State). build hooks table root s) filled.is
    ∙ makes hooks table root known.0 pairs (min (3 * length pairs) most_calls) known.1
    ∙ ap (λ (o : Option ReflectErrorKind). refused_or o (unrefused hooks table root pairs)) (sym filled.unrefused)
    ∙ ap (λ (ps : List Pair). pairs_meant hooks table root string ps) (sym are))
    so
  where
    known : (s : StructDef) × (def_of table root ≡ Def.Struct s)
    known = struct_of (def_of table root) struct

-- where there is a builder, the pairs alone count
pub planned_means : (hooks : Meanings) (table : Table) (root string : ℕ) (pairs : List Pair) (result : Result BuiltValue ReflectError)
    → alloc_refusal table root ≡ None → IsMeant (pairs_meant hooks table root string pairs) result
    → IsMeant (record_meant hooks table root string pairs) result
planned_means hooks table root string pairs result none =
    subst (λ (meant : Result Val ReflectErrorKind). IsMeant meant result)
    (ap (λ (refusal : Option AllocError). refused_or (unplanned refusal) (pairs_meant hooks table root string pairs)) (sym none))

-- the list of what is left, and of what was taken

pub nothing_more : (pairs : List Pair) → pairs ++ [] ≡ pairs
nothing_more [] = refl
nothing_more (pair ∷ pairs) = ap (λ (ps : List Pair). pair ∷ ps) (nothing_more pairs)

pub all_taken : (pairs left all : List Pair) → all ≡ pairs ++ left → length left ≡ 0 → all ≡ pairs
all_taken pairs [] all e none = e ∙ nothing_more pairs
all_taken pairs (pair ∷ left) all e none = absurd (omega (arith, none))

pub one_taken : (pairs left rest all : List Pair) (pair : Pair) → all ≡ pairs ++ left → left ≡ pair ∷ rest
    → all ≡ (pairs ++ pair ∷ []) ++ rest
one_taken pairs left rest all pair e taken =
    e ∙ ap (λ (ps : List Pair). pairs ++ ps) taken ∙ sym (append_assoc pairs (pair ∷ []) rest)
