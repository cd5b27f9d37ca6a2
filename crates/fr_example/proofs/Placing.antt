-- The place that an error tells.
use Rattle.std.proofs.Common.{◌≡◌, ◌≢◌, ◌⊎◌, inl, inr, IfErr, ℕ, Bool, true, false, List, [], ◌∷◌, ◌++◌, Option, Some, None, Result, Ok, Err, if◌then◌else◌, refl, sym, ◌∙◌, ap, subst}
use Rattle.std.specs.Option.{option_or}
use Rattle.fr_shape.specs.declared.error.PlanError.{PlanError}
use Rattle.fr_shape.specs.declared.error.ReflectErrorKind.{ReflectErrorKind}
use Rattle.fr_shape.specs.declared.shape.Def.{Def}
use Rattle.fr_shape.specs.declared.shape.ScalarKind.{ScalarKind}
use Rattle.fr_shape.specs.declared.shape.StructDef.{StructDef}
use Rattle.fr_shape.specs.declared.value.Value.{Value}
use Rattle.fr_shape.specs.declared.error.AllocError.{AllocError}
use Rattle.fr_shape.specs.Checked.{IsChecked}
use Rattle.fr_shape.specs.Hooks.{Meanings}
use Rattle.fr_shape.specs.Look.{Table, def_of}
use Rattle.fr_shape.specs.Named.{field_named}
use Rattle.fr_shape.specs.Val.{Val, text}
use Rattle.fr_shape.specs.View.{view}
use Rattle.fr_path.specs.declared.path_steps.PathStep.{PathStep}
use Rattle.fr_model.specs.Commands.{Call}
use Rattle.fr_model.specs.Paths.{path_of}
use Rattle.fr_model.specs.Places.{child_shape}
use Rattle.fr_model.specs.Run.{alloc_refusal}
use Rattle.fr_model.specs.Step.{unless_refused, enters_named, puts, step}
use Rattle.fr_model.specs.Tree.{State, one_more_call}
use Rattle.fr_partial.specs.Builder.{Builder, IsCall, IsStepTo, TellsPlaceBefore}
use Rattle.fr_work.specs.BuiltValue.{BuiltValue}
use Rattle.fr_work.specs.Starting.{RefusedWith}
use Rattle.fr_work.specs.declared.reflect_error.ReflectError.{ReflectError}
use Rattle.fr_example.specs.declared.record.Pair.{Pair}
use Rattle.fr_example.specs.Meant.{is_struct, kind_of, takes_text, text_at, refusal_of, first_refusal, unplanned, place_found, place_of, refused_here_or, place_refused, record_place, IsPlaceOfAny, TellsPlace}
use Rattle.fr_example.specs.Putting.{then_call, enters_field, sets_text, puts_pair, FailsAfter, FailsPutting}
use Rattle.fr_example.proofs.Loop.{IsFilled, struct_of, pair_refused, nothing_more}
use Rattle.fr_example.proofs.Putting.{filling, at_field, with_entered, begins, entered_field, sets, within}
use Rattle.fr_example.proofs.Sized.{field_is_sized}
use Rattle.fr_example.proofs.TextsWithoutTokens.{text_value}

-- Calls after others, told over the hooks, the table, the root and the call that are meant

module _ {H : Type 0} (hooks own : Meanings) (table : Table) (root : ℕ) (meant : Result State ReflectErrorKind) (before : Builder H) (call told : Call) (old new : List ℕ) (means : own ≡ hooks) (same : before.shapes ≡ table) (at : before.root ≡ root) (is : meant ≡ Ok before.state) (so : call ≡ told) where
  -- one that failed
  pub fails_after : (error : ReflectError) → IsCall own before call (Err error) old new → FailsAfter hooks table root meant told error
  fails_after error owed =
      subst (λ (m : Result State ReflectErrorKind). FailsAfter hooks table root m told error) (sym is)
      (subst (λ (c : Call). FailsAfter hooks table root (Ok before.state) c error) so
      (subst (λ (r : ℕ). FailsAfter hooks table r (Ok before.state) call error) at
      (subst (λ (t : Table). FailsAfter hooks t before.root (Ok before.state) call error) same
      (subst (λ (h : Meanings). FailsAfter h before.shapes before.root (Ok before.state) call error) means (owed.path, owed.step)))))

  -- one that was done
  pub goes_on : (after : Builder H) → IsCall own before call (Ok after) old new
      → (then_call hooks table root meant told ≡ Ok after.state) × (after.shapes ≡ table) × (after.root ≡ root) × (after.hooks ≡ before.hooks)
  goes_on after owed = (
    ap (λ (m : Result State ReflectErrorKind). then_call hooks table root m told) is
        ∙ sym (
        ap (λ (h : Meanings). step h before.shapes before.root before.state call) means
        ∙ ap (λ (t : Table). step hooks t before.root before.state call) same
        ∙ ap (λ (r : ℕ). step hooks table r before.state call) at
        ∙ ap (λ (c : Call). step hooks table root before.state c) so
        )
        ∙ owed.step.0,
    owed.step.1 ∙ same,
    owed.step.2 ∙ at,
    owed.step.3,
  )

-- the last call, done or not
pub ends_so : {H : Type 0} (hooks own : Meanings) (table : Table) (root string : ℕ) (state : State) (pair : Pair) (before : Builder H)
    (result : Result (Builder H) ReflectError) (old new : List ℕ) → own ≡ hooks → before.shapes ≡ table → before.root ≡ root
    → sets_text hooks table root string state pair ≡ Ok before.state → IsCall own before Call.End result old new
    → IfErr result (FailsPutting hooks table root string state pair)
ends_so hooks own table root string state pair before (Ok after) old new means same at is owed = tt
ends_so hooks own table root string state pair before (Err error) old new means same at is owed =
    inr (inr (
    fails_after hooks own table root (sets_text hooks table root string state pair) before Call.End Call.End old new means same at is refl
    error owed
    ))

-- the text is what is set
pub text_set : (shape string : ℕ) (v : Val) (bytes : List ℕ) → shape ≡ string → v ≡ view (Value.Text bytes)
    → Call.Set shape v ≡ Call.Set string (text bytes)
text_set shape string v bytes at is = ap (λ (s : ℕ). Call.Set s v) at ∙ ap (λ (u : Val). Call.Set string u) (is ∙ text_value bytes)

-- One pair

-- the error tells the place of the pair, or memory ran out at the root
abbrev IsPlaced : Table → (root : ℕ) → Pair → ReflectError → Type 0
IsPlaced table root pair error =
    (error.path ≡ place_of table root pair) ⊎ ((error.kind ≡ ReflectErrorKind.OutOfMemory) × (error.path ≡ []))

module _ (hooks : Meanings) (table : Table) (root string : ℕ) (struct : StructDef) (checked : IsChecked table) (is : def_of table root ≡ Def.Struct struct) (text_shape : def_of table string ≡ Def.Scalar ScalarKind.String) where
  -- at the field whatever was set there or not
  at_set : (i : ℕ) (here : State) (v : Val) (kind : ReflectErrorKind) (taken : Bool) (error : ReflectError)
      → path_of (puts here v) ≡ PathStep.Field i ∷ []
      → FailsAfter hooks table root (unless_refused (if taken then None else Some kind) (puts here v)) Call.End error
      → error.path ≡ PathStep.Field i ∷ []
  at_set i here v kind true error there fails = fails.0 ∙ there
  at_set i here v kind false error there fails = absurd fails

  placed : (pairs : List Pair) (pair : Pair) (calls : ℕ) (error : ReflectError)
      → FailsPutting hooks table root string (filling table root pairs calls) pair error → IsPlaced table root pair error
  placed pairs pair calls error = go (field_named pair.name (def_of table root)) refl
    where
      begun : (found : Option ℕ) → field_named pair.name (def_of table root) ≡ found
          → enters_field hooks table root (filling table root pairs calls) pair ≡ enters_named table root (filling table root pairs calls) found
      begun found e =
          begins hooks table root struct pair.name pairs calls is
          ∙ ap (λ (o : Option ℕ). enters_named table root (filling table root pairs calls) o) e

      go : (found : Option ℕ) → field_named pair.name (def_of table root) ≡ found
          → FailsPutting hooks table root string (filling table root pairs calls) pair error
          → (error.path ≡ place_of table root pair) ⊎ ((error.kind ≡ ReflectErrorKind.OutOfMemory) × (error.path ≡ []))
      go None e (inl first) = inl (first.0 ∙ sym (ap place_found e))
      go None e (inr (inl second)) =
          absurd (subst (λ (r : Result State ReflectErrorKind). FailsAfter hooks table root r (Call.Set string (text pair.text)) error) (begun None e) second)
      go None e (inr (inr third)) =
          absurd (subst (λ (r : Result State ReflectErrorKind). FailsAfter hooks table root (then_call hooks table root r (Call.Set string (text pair.text))) Call.End error) (begun None e) third)
      go (Some i) e fails =
          let below = within table root struct pair.name i is e in
          let entered = begun (Some i) e ∙ entered_field table root struct i pairs calls is below in
          at_i fails entered
          (sets table (child_shape table root i) string (at_field i (with_entered table root pairs i) (one_more_call calls)) pair.text text_shape
          (field_is_sized table root struct i checked is below))
        where
          at_i : FailsPutting hooks table root string (filling table root pairs calls) pair error
              → enters_field hooks table root (filling table root pairs calls) pair ≡ Ok (at_field i (with_entered table root pairs i) (one_more_call calls))
              → step hooks table root (at_field i (with_entered table root pairs i) (one_more_call calls)) (Call.Set string (text pair.text))
              ≡ unless_refused
              (if takes_text table (child_shape table root i) string then None
              else Some (ReflectErrorKind.WrongShape (record { 0 = child_shape table root i }) (record { 0 = string })))
              (puts (at_field i (with_entered table root pairs i) (one_more_call calls)) (text_at table root i pair.text))
              → (error.path ≡ place_of table root pair) ⊎ ((error.kind ≡ ReflectErrorKind.OutOfMemory) × (error.path ≡ []))
          at_i (inl (told, inl memory)) entered set = inr (memory, told)
          at_i (inl (told, inr refused)) entered set = cc
          at_i (inr (inl second)) entered set =
              let there : FailsAfter hooks table root (Ok (at_field i (with_entered table root pairs i) (one_more_call calls))) (Call.Set string (text pair.text)) error
              = subst (λ (r : Result State ReflectErrorKind). FailsAfter hooks table root r (Call.Set string (text pair.text)) error) entered second in
              inl (there.0 ∙ sym (ap place_found e))
          at_i (inr (inr third)) entered set =
              inl (
              at_set i (at_field i (with_entered table root pairs i) (one_more_call calls)) (text_at table root i pair.text)
              (ReflectErrorKind.WrongShape (record { 0 = child_shape table root i }) (record { 0 = string }))
              (takes_text table (child_shape table root i) string) error refl
              (subst (λ (r : Result State ReflectErrorKind). FailsAfter hooks table root r Call.End error)
              (ap (λ (r : Result State ReflectErrorKind). then_call hooks table root r (Call.Set string (text pair.text))) entered ∙ set) third)
              ∙ sym (ap place_found e)
              )

-- All pairs

module _ (table : Table) (root string : ℕ) where
  -- after pairs that aren't refused, the others decide
  place_later : (pairs others : List Pair) → first_refusal table root string pairs ≡ None
      → place_refused table root string (pairs ++ others) ≡ place_refused table root string others
  place_later [] others none = refl
  place_later (pair ∷ pairs) others none =
      go (refusal_of table root string pair) none (λ rest. place_later pairs others rest)
    where
      go : (refusal : Option ReflectErrorKind) → option_or refusal (first_refusal table root string pairs) ≡ None
          → (first_refusal table root string pairs ≡ None
          → place_refused table root string (pairs ++ others) ≡ place_refused table root string others)
          → refused_here_or refusal (place_of table root pair) (place_refused table root string (pairs ++ others))
          ≡ place_refused table root string others
      go (Some kind) e later = cc
      go None e later = later e

  at_root : (pairs : List Pair) (path : List PathStep) → path ≡ [] → IsPlaceOfAny table root pairs path
  at_root [] path e = e
  at_root (pair ∷ pairs) path e = inr (at_root pairs path e)

  at_pair : (pairs : List Pair) (pair : Pair) (others : List Pair) (path : List PathStep) → path ≡ place_of table root pair
      → IsPlaceOfAny table root (pairs ++ pair ∷ others) path
  at_pair [] pair others path e = inl e
  at_pair (p ∷ pairs) pair others path e = inr (at_pair pairs pair others path e)

  -- where there is a builder, the pairs alone count
  planned_place : (pairs : List Pair) → alloc_refusal table root ≡ None
      → record_place table root string pairs ≡ place_refused table root string pairs
  planned_place pairs planned =
      ap (λ (refusal : Option AllocError). refused_here_or (unplanned refusal) [] (place_refused table root string pairs)) planned

  -- an error at the root, where no pair is refused
  built_place : (pairs all : List Pair) (before : State) (error : ReflectError) → alloc_refusal table root ≡ None
      → IsFilled table root string pairs before → all ≡ pairs → error.path ≡ path_of before
      → TellsPlace table root string all error
  built_place pairs all before error planned filled are told =
      let root_told : error.path ≡ [] = told ∙ ap path_of filled.is in
      record {
        refused = λ memory.
            root_told
            ∙ sym (
            planned_place all planned ∙ ap (place_refused table root string) (are ∙ sym (nothing_more pairs))
            ∙ place_later pairs [] filled.unrefused
            );
        anywhere = at_root all error.path root_told;
      }

  pub if_built_place : {H : Type 0} (pairs all : List Pair) (before : Builder H) (result : Result BuiltValue ReflectError)
      → alloc_refusal table root ≡ None → IsFilled table root string pairs before.state → all ≡ pairs
      → TellsPlaceBefore before result → IfErr result (TellsPlace table root string all)
  if_built_place pairs all before (Ok built) planned filled are told = tt
  if_built_place pairs all before (Err error) planned filled are told = built_place pairs all before.state error planned filled are told

  -- there is no builder
  pub unplanned_place : (pairs : List Pair) (why : PlanError) (error : ReflectError)
      → RefusedWith {A = Unit {0}} (alloc_refusal table root) (Err why) → error.kind ≡ kind_of why → error.path ≡ []
      → TellsPlace table root string pairs error
  unplanned_place pairs (PlanError.Alloc why) error refused kind told = record {
    refused = λ memory.
        told
        ∙ sym (ap (λ (refusal : Option AllocError). refused_here_or (unplanned refusal) [] (place_refused table root string pairs)) refused);
    anywhere = at_root pairs error.path told;
  }
  unplanned_place pairs PlanError.OutOfMemory error refused kind told =
      record { refused = λ memory. absurd (memory kind); anywhere = at_root pairs error.path told }

  -- a pair isn't put
  pub loop_place : {H : Type 0} (hooks : Meanings) (pairs : List Pair) (pair : Pair) (others all : List Pair) (before : Builder H) (error : ReflectError)
      → IsChecked table → is_struct (def_of table root) ≡ true → def_of table string ≡ Def.Scalar ScalarKind.String
      → before.root ≡ root → IsFilled table root string pairs before.state → all ≡ pairs ++ pair ∷ others
      → alloc_refusal table root ≡ None
      → IsStepTo before (puts_pair hooks table before.root string before.state pair) (Err error)
      → FailsPutting hooks table before.root string before.state pair error → TellsPlace table root string all error
  loop_place hooks pairs pair others all before error checked struct text_shape at_root_shape filled are planned step_to fails = record {
    refused = λ memory. at_refused memory step_to there;
    anywhere = subst (λ (ps : List Pair). IsPlaceOfAny table root ps error.path) (sym are) (any there);
  }
    where
      known : (s : StructDef) × (def_of table root ≡ Def.Struct s)
      known = struct_of (def_of table root) struct

      there : IsPlaced table root pair error
      there =
          placed hooks table root string known.0 checked known.1 text_shape pairs pair _ error
          (subst (λ (s : State). FailsPutting hooks table root string s pair error) filled.is
          (subst (λ (r : ℕ). FailsPutting hooks table r string before.state pair error) at_root_shape fails))

      any : IsPlaced table root pair error → IsPlaceOfAny table root (pairs ++ pair ∷ others) error.path
      any (inl told) = at_pair pairs pair others error.path told
      any (inr memory) = at_root (pairs ++ pair ∷ others) error.path memory.1

      at_refused : error.kind ≢ ReflectErrorKind.OutOfMemory
          → IsStepTo before (puts_pair hooks table before.root string before.state pair) (Err error)
          → IsPlaced table root pair error → error.path ≡ record_place table root string all
      at_refused memory (inl out) told = absurd (memory out)
      at_refused memory (inr e) (inr out) = absurd (memory out.0)
      at_refused memory (inr e) (inl told) =
          told
          ∙ sym (
          planned_place all planned ∙ ap (place_refused table root string) are ∙ place_later pairs (pair ∷ others) filled.unrefused
          ∙ ap (λ (refusal : Option ReflectErrorKind). refused_here_or refusal (place_of table root pair) (place_refused table root string others))
          (pair_refused hooks table root string pairs pair before.state error.kind checked struct text_shape filled
          (ap (λ (r : ℕ). puts_pair hooks table r string before.state pair) (sym at_root_shape) ∙ e))
          )
