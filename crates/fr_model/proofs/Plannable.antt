-- A root of which no reached shape is refused has no first refusal, and so a plain root is never refused.
use Rattle.std.proofs.Common.{◌≡◌, ◌⊎◌, if◌then◌else◌, ◌∷◌}
use Rattle.fr_model.proofs.Common.{inl, inr, ℕ, zero, suc, Bool, true, false, List, [], map, length, slice_get, Option, Some, None, refl, ap, ◌∙◌, arith, Contains, flat_map, option_or, Contains-append_left, Contains-append_right, Contains-append_cases, Shape, ShapeId, Def, Field, AllocError, PlanFault, fields_of, Table, children_of, made_of, own_sources, field_sources, leads_to, Reached, at_root, further, IsPlannable, Walk, field_parts, parts_by, parts_before, own_refusal, each_in_turn, visit_shape, visit, first_refusal, IsPlain, unsized_refusal, alloc_refusal}
use Rattle.fr_shape.specs.Plannable.{unless_refused}

-- what is built before a shape is among what it leads to

abbrev FieldPart : List Field → ShapeId → Type 0
FieldPart fields next = Contains (map (λ (field : Field). field.shape) fields) next ⊎ Contains (flat_map field_sources fields) next

part_of_field : (fields : List Field) (next : ShapeId) → Contains (flat_map field_parts fields) next → FieldPart fields next
part_of_field [] next has = absurd (omega (arith, has.1))
part_of_field (field ∷ fields) next has =
    go (Contains-append_cases (field_parts field) (flat_map field_parts fields) next has)
    (λ (rest : Contains _ next). part_of_field fields next rest)
  where
    shapes : List ShapeId
    shapes = map (λ (f : Field). f.shape) fields

    own : Contains (field_sources field) next ⊎ Contains (field.shape ∷ []) next → FieldPart (field ∷ fields) next
    own (inl source) = inr (Contains-append_left (field_sources field) _ next source)
    own (inr shape) = inl (Contains-append_left (field.shape ∷ []) shapes next shape)

    later : FieldPart fields next → FieldPart (field ∷ fields) next
    later (inl shape) = inl (Contains-append_right (field.shape ∷ []) shapes next shape)
    later (inr source) = inr (Contains-append_right (field_sources field) _ next source)

    go : Contains (field_parts field) next ⊎ Contains (flat_map field_parts fields) next
        → (Contains (flat_map field_parts fields) next → FieldPart fields next) → FieldPart (field ∷ fields) next
    go (inl here) among = own (Contains-append_cases (field_sources field) (field.shape ∷ []) next here)
    go (inr rest) among = later (among rest)

abbrev Beneath : Shape → ShapeId → Type 0
Beneath shape next = Contains (children_of shape) next ⊎ Contains (flat_map field_sources (fields_of shape.def)) next

part_beneath : (shape : Shape) (next : ShapeId) → Contains (parts_by shape.def shape) next → Beneath shape next
part_beneath shape next has = go shape.def refl has
  where
    of_fields : (def : Def) → FieldPart (fields_of def) next
        → Contains (made_of def) next ⊎ Contains (flat_map field_sources (fields_of def)) next
    of_fields def (inl child) = inl (Contains-append_left _ _ next (Contains-append_left _ _ next child))
    of_fields def (inr source) = inr source

    go : (def : Def) → shape.def ≡ def → Contains (parts_by def shape) next → Beneath shape next
    go (Def.Struct struct) is has = rw is (of_fields (Def.Struct struct) (part_of_field (fields_of (Def.Struct struct)) next has))
    go (Def.Enum enumeration) is has =
        rw is (of_fields (Def.Enum enumeration) (part_of_field (fields_of (Def.Enum enumeration)) next has))
    go _ is has = rw is (inl has)

parts_lead : (shape : Shape) (next : ShapeId) → Contains (parts_before shape) next → Contains (leads_to shape) next
parts_lead shape next has = go (Contains-append_cases (own_sources shape) (parts_by shape.def shape) next has)
  where
    beneath : Beneath shape next → Contains (leads_to shape) next
    beneath (inl child) = Contains-append_left _ _ next (Contains-append_right (own_sources shape) (children_of shape) next child)
    beneath (inr source) = Contains-append_right _ _ next source

    go : Contains (own_sources shape) next ⊎ Contains (parts_by shape.def shape) next → Contains (leads_to shape) next
    go (inl source) = Contains-append_left _ _ next (Contains-append_left (own_sources shape) (children_of shape) next source)
    go (inr part) = beneath (part_beneath shape next part)

-- the walk

module _ (table : Table) (root : ℕ) (plannable : IsPlannable table root) where
  abbrev NoneRefused : (List ℕ → ℕ → Walk) → Type 0
  NoneRefused visits = (begun : List ℕ) (id : ℕ) → Reached table root id → (visits begun id).refused ≡ None

  abbrev AreReached : List ShapeId → Type 0
  AreReached ids = (next : ShapeId) → Contains ids next → Reached table root next.0

  abbrev skipped : List ℕ → Walk
  skipped begun = record { begun = begun; refused = None }

  goes_on : (walk : Walk) (rest : List ℕ → Walk) → walk.refused ≡ None → (rest walk.begun).refused ≡ None
      → (unless_refused walk rest).refused ≡ None
  goes_on walk rest here after = rw here after

  turns_pass : (visits : List ℕ → ℕ → Walk) → NoneRefused visits → (ids : List ShapeId) (begun : List ℕ)
      → AreReached ids → (each_in_turn visits begun ids).refused ≡ None
  turns_pass visits none [] begun all = refl
  turns_pass visits none (id ∷ ids) begun all =
      goes_on _ (λ after. each_in_turn visits after ids) (none begun id.0 (all id (zero, omega arith, refl)))
      (turns_pass visits none ids (visits begun id.0).begun (λ next has. all next (Contains-append_right (id ∷ []) ids next has)))

  shape_passes : (visits : List ℕ → ℕ → Walk) → NoneRefused visits → (begun : List ℕ) (id : ℕ) (found : Option Shape)
      → slice_get table id ≡ found → Reached table root id → (visit_shape visits begun id found).refused ≡ None
  shape_passes visits none begun id None is reached = refl
  shape_passes visits none begun id (Some shape) is reached =
      goes_on _ (λ after. record { begun = after; refused = own_refusal id _ })
      (turns_pass visits none _ begun (λ next has. further reached is (parts_lead shape next has)))
      (ap (λ (fault : Option PlanFault). own_refusal id fault) (plannable id shape reached is))

  visit_passes : (depth : ℕ) → NoneRefused (λ begun id. visit table depth begun id)
  visit_passes zero begun id reached = refl
  visit_passes (suc depth) begun id reached =
      go _ (shape_passes (λ seen next. visit table depth seen next) (visit_passes depth) (id ∷ begun) id _ refl reached)
    where
      fresh : Walk
      fresh = visit_shape (λ seen next. visit table depth seen next) (id ∷ begun) id (slice_get table id)

      go : (b : Bool) → fresh.refused ≡ None → (if b then skipped begun else fresh).refused ≡ None
      go true passes = refl
      go false passes = passes

no_first_refusal : (table : Table) (root : ℕ) → IsPlannable table root → first_refusal table root ≡ None
no_first_refusal table root plannable = visit_passes table root plannable (suc (length table)) [] root at_root

-- a plain root isn't refused
pub none_refused : (table : Table) (root : ℕ) → IsPlain table root → alloc_refusal table root ≡ None
none_refused table root plain =
    ap (λ (refusal : Option AllocError). option_or refusal (unsized_refusal table root))
    (no_first_refusal table root plain.plannable) ∙ of_size
  where
    of_size : unsized_refusal table root ≡ None
    of_size = rw plain.sized refl
