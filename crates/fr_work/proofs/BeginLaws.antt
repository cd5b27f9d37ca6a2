-- Going on to a child: what it is refused for, and what it means.
use Rattle.std.proofs.Common.{◌≡◌, ℕ, suc, ◌+◌, ◌<◌, Bool, true, false, List, [], ◌∷◌, length, Option, Some, None, Ok, Err, nat_lt, slice_get, inl, refl, sym, ◌∙◌, ap, subst, arith}
use Rattle.fr_work.specs.Common.{Call, ComesTo, Def, Describes, Field, IsFullAs, IsRefused, Meanings, Move, Opening, Operation, ReflectErrorKind, Sees, ShapeId, Site, State, Table, Tree, VariantDef, Way, as_tracker, cursor_tree, def_of, field_found, field_refusal, named_refusal, selected, shape_at, step, variant_fields, variants_of}
use Rattle.std.specs.Str.{bytes_eq}
use Rattle.std.proofs.lemmas.Bool.{lt-ltb}
use Rattle.fr_shape.specs.Named.{first_declared}
use Rattle.fr_plan.specs.Names.{declared_field}
use Rattle.fr_model.specs.Entering.{Way as Onward, enters}
use Rattle.fr_model.specs.Scripts.{value_brought}
use Rattle.fr_moves.specs.Moving.{child_way}
use Rattle.fr_moves.specs.AnewLaws.{child_gone, to_child_seen}
use Rattle.fr_work.proofs.DecidingLaws.{goes}
use Rattle.fr_work.proofs.SeenLaws.{shape_seen, def_seen, named_seen, refusal_seen, selected_seen}

declared_below : (name : List ℕ) (k : ℕ) (fields : List Field) (i : ℕ) → first_declared name k fields ≡ Some i
    → i < k + length fields
declared_below name k [] i e = cc
declared_below name k (field ∷ fields) i e = go (bytes_eq field.name name) refl (λ h. declared_below name (suc k) fields i h)
  where
    go : (b : Bool) → bytes_eq field.name name ≡ b → (first_declared name (suc k) fields ≡ Some i → i < suc k + length fields)
        → i < k + length (field ∷ fields)
    go true h rest =
        let here : Some k ≡ Some i = rw h at e in
        let which : k ≡ i = cc in
        omega arith
    go false h rest = let below : i < suc k + length fields = rest (rw h at e) in omega arith

-- a field that is found by its name may be entered
pub named_within : (def : Def) (t : Tree) (name : List ℕ) (i : ℕ) → named_refusal def t ≡ None
    → field_found name def (selected t) ≡ Some i → field_refusal def t i ≡ None
named_within (Def.Struct struct) t name i may e = go (selected t) refl e
  where
    go : (chosen : Option ℕ) → selected t ≡ chosen → field_found name (Def.Struct struct) chosen ≡ Some i
        → field_refusal (Def.Struct struct) t i ≡ None
    go None is found =
        let below : i < 0 + length struct.fields = declared_below name 0 struct.fields i found in
        let test : nat_lt i (length struct.fields) ≡ true = lt-ltb i (length struct.fields) (omega arith) in
        rw test refl
    go (Some k) is found = cc
named_within (Def.Enum enumeration) t name i may e = go (selected t) refl e
  where
    go : (chosen : Option ℕ) → selected t ≡ chosen → field_found name (Def.Enum enumeration) chosen ≡ Some i
        → field_refusal (Def.Enum enumeration) t i ≡ None
    go None is found = cc
    go (Some k) is found =
        let below : i < 0 + length (variant_fields (Def.Enum enumeration) k)
        = declared_below name 0 (variant_fields (Def.Enum enumeration) k) i found in
        let test : nat_lt i (length (variant_fields (Def.Enum enumeration) k)) ≡ true
        = lt-ltb i (length (variant_fields (Def.Enum enumeration) k)) (omega arith) in
        rw (is, test) refl
named_within _ t name i may e = cc

-- the lookup of the plan is that of the definitions
pub declared_is : (name : List ℕ) (def : Def) (variant : Option ℕ) → declared_field def variant name ≡ field_found name def variant
declared_is name def None = refl
declared_is name def (Some k) = go (slice_get (variants_of def) k) refl
  where
    go : (found : Option VariantDef) → slice_get (variants_of def) k ≡ found
        → declared_field def (Some k) name ≡ field_found name def (Some k)
    go None e = rw e refl
    go (Some variant) e = rw e refl

-- By what the site sees.

module _ {site : Site} {table : Table} {shape : ShapeId} {seen : Tree} (at : Sees site table shape seen) where
  -- what the table says of the place's shape
  pub describes_here : (opening : Opening) → Describes table shape.0 seen opening
      → Describes site.shapes (shape_at site) (cursor_tree site.state) opening
  describes_here opening says = record {
    begun = subst (λ (def : Def). IsFullAs def (as_tracker opening.tracker) opening.count) (def_seen at) says.begun;
    variant = λ k is. sym (selected_seen at) ∙ says.variant k is;
    plain = says.plain;
  }

  -- a call that enters the child goes there
  pub goes_to_child : (call : Call) (i : ℕ) (opening : Opening) → value_brought call ≡ None → Describes table shape.0 seen opening
      → field_refusal (def_of site.shapes (shape_at site)) (cursor_tree site.state) i ≡ None
      → ((hooks : Meanings) → step hooks site.shapes site.root site.state call
      ≡ Ok (enters site.shapes (shape_at site) site.state (Onward.Child i)))
      → (way : Way) → way ≡ child_way seen i opening → ComesTo site call (Move.Go way)
  goes_to_child call i opening none says may means way is =
      let leads =
      to_child_seen site.shapes (shape_at site) (cursor_tree site.state) seen i opening at.looks (describes_here opening says) may way
      is in
      goes site call way none leads.may (λ hooks.
      means hooks ∙ ap (λ (next : State). Ok next) (child_gone site.shapes (shape_at site) site.state i way leads))

  module _ (name : List ℕ) where
    -- no field is entered by its name there
    pub named_unopened : (operation : Operation) → Some operation ≡ named_refusal (def_of table shape.0) seen
        → IsRefused site (Call.BeginField name) (ReflectErrorKind.OperationFailed shape operation)
    named_unopened operation is =
        inl (
          (λ out. cc),
          λ hooks. rw (← (is ∙ named_seen at))
              (ap (λ (s : ShapeId). Err (ReflectErrorKind.OperationFailed s operation)) (shape_seen at)),
        )

    module _ (may : None ≡ named_refusal (def_of table shape.0) seen) (variant : Option ℕ) (chosen : variant ≡ selected seen)
        (found : Option ℕ) (found_is : found ≡ field_found name (def_of site.shapes (shape_at site)) variant) where
      found_here : found ≡ field_found name (def_of site.shapes (shape_at site)) (selected (cursor_tree site.state))
      found_here = found_is ∙ ap (field_found name (def_of site.shapes (shape_at site))) (chosen ∙ selected_seen at)

      -- none has the name
      pub named_unknown : found ≡ None → IsRefused site (Call.BeginField name) (ReflectErrorKind.FieldError shape)
      named_unknown none =
          inl (
            (λ out. cc),
            λ hooks. rw (← (may ∙ named_seen at), ← (sym none ∙ found_here))
                (ap (λ (s : ShapeId). Err (ReflectErrorKind.FieldError s)) (shape_seen at)),
          )

      -- or the first that has it may be entered
      module _ (i : ℕ) (one : found ≡ Some i) where
        admitted_here : field_refusal (def_of site.shapes (shape_at site)) (cursor_tree site.state) i ≡ None
        admitted_here =
            named_within (def_of site.shapes (shape_at site)) (cursor_tree site.state) name i (sym (may ∙ named_seen at))
            (sym found_here ∙ one)

        pub named_admitted : field_refusal (def_of table shape.0) seen i ≡ None
        named_admitted = refusal_seen at i ∙ admitted_here

        pub named_goes : (opening : Opening) → Describes table shape.0 seen opening → (way : Way) → way ≡ child_way seen i opening
            → ComesTo site (Call.BeginField name) (Move.Go way)
        named_goes opening says =
            goes_to_child (Call.BeginField name) i opening refl says admitted_here
            (λ hooks. rw (← (may ∙ named_seen at), ← (sym one ∙ found_here)) refl)
