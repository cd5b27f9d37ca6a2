-- What is told of a plan's nodes is what is told of their outlines.
use Rattle.std.proofs.Common.{◌≡◌, ℕ, ◌+◌, List, [], ◌∷◌, ◌++◌, map, take, Option, Some, None, Ok, Err, codes, refl, sym, ap, subst, ◌∙◌}
use Rattle.std.specs.Prelude.{slice_get, IsSomeAnd, Result, IsOk}
use Rattle.std.proofs.lemmas.List.{take_more, map-append}
use Rattle.std.proofs.lemmas.Option.{slice_get_within, get_or_from_slice_get}
use Rattle.serde_json.specs.Data.{Data}
use Rattle.fr_shape.specs.declared.shape.Shape.{Shape}
use Rattle.fr_shape.specs.declared.shape.ShapeId.{ShapeId}
use Rattle.fr_shape.specs.declared.shape.Def.{Def}
use Rattle.fr_shape.specs.Look.{Table}
use Rattle.fr_shape.specs.Val.{Val}
use Rattle.fr_model.specs.Run.{Refusal}
use Rattle.fr_plan.specs.declared.nodes.NodeId.{NodeId}
use Rattle.fr_plan.specs.declared.nodes.TypePlanNode.{TypePlanNode}
use Rattle.fr_plan.specs.declared.nodes.TypePlanNodeKind.{TypePlanNodeKind}
use Rattle.fr_plan.specs.declared.outlines.Outline.{Outline}
use Rattle.fr_plan.specs.declared.outlines.Role.{Role}
use Rattle.fr_plan.specs.declared.plan_lists.PlanLists.{PlanLists}
use Rattle.fr_plan.specs.declared.plans.StructPlan.{StructPlan}
use Rattle.fr_plan.specs.declared.plans.EnumPlan.{EnumPlan}
use Rattle.fr_plan.specs.Nodes.{struct_plan_of, enum_plan_of, IsKindBy, IsOwnKind, IsKindOf, IsNode, AreNodes}
use Rattle.fr_script.specs.PlanReports.{NodeLine, node_kind_name, own_kind_name, kind_name_in, kind_name_of, strategy_name, node_line, outline_line}
use Rattle.fr_script.specs.Reports.{line_data, planned, unplanned, status_of, plan_of, run_of, outcome_of_run, outcome_of_plan, outcome_of_document, outcome_of}
use Rattle.fr_script.specs.DocumentFacts.{IsInOrder, Succeeds}
use Rattle.fr_script.specs.Documents.{Document, document_of}
use Rattle.fr_script.specs.declared.subcommand.Subcommand.{Subcommand}
use Rattle.fr_doc.specs.declared.fault.DocFault.{DocFault}
use Rattle.fr_doc.specs.Details.{name_in}
use Rattle.fr_shape.specs.Plannable.{IsPlannable}
use Rattle.fr_plan.specs.RefusalLaws.{refusal_in, RefusesFirst, PlansPlannable}
use Rattle.fr_script.proofs.InOrder.{document_in_order}
use Rattle.fr_plan.specs.Build.{Built, Made, planned as the_plan}
use Rattle.fr_plan.specs.TypePlan.{Plan, IsPlanOf}
use Rattle.fr_shape.specs.declared.error.AllocError.{AllocError}
use Rattle.fr_shape.specs.declared.error.PlanError.{PlanError}
use Rattle.fr_plan.specs.Results.{IsMeant}

-- Kinds.

struct_named : (is : TypePlanNodeKind) (P : StructPlan → Type 0) → IsSomeAnd (struct_plan_of is) P → node_kind_name is ≡ codes "Struct"
struct_named (TypePlanNodeKind.Struct plan) P holds = refl
struct_named _ P holds = absurd holds

enum_named : (is : TypePlanNodeKind) (P : EnumPlan → Type 0) → IsSomeAnd (enum_plan_of is) P → node_kind_name is ≡ codes "Enum"
enum_named (TypePlanNodeKind.Enum plan) P holds = refl
enum_named _ P holds = absurd holds

module _ (table : Table) (lists : PlanLists) where
  kind_named : (id : ShapeId) (nodes : List NodeId) (shape : Shape) (def : Def) (is : TypePlanNodeKind)
      → IsKindBy table lists id nodes shape def is → node_kind_name is ≡ own_kind_name shape def
  kind_named id nodes shape (Def.Scalar kind) is same = ap node_kind_name same
  kind_named id nodes shape Def.Str is same = ap node_kind_name same
  kind_named id nodes shape (Def.Option t) is same = ap node_kind_name same
  kind_named id nodes shape (Def.List t) is same = ap node_kind_name same
  kind_named id nodes shape (Def.Set t) is same = ap node_kind_name same
  kind_named id nodes shape (Def.Array t n) is same = ap node_kind_name same
  kind_named id nodes shape (Def.Slice t) is same = ap node_kind_name same
  kind_named id nodes shape (Def.Result t e) is same = ap node_kind_name same
  kind_named id nodes shape (Def.Map k v) is same = ap node_kind_name same
  kind_named id nodes shape (Def.Pointer pointer) is same = ap node_kind_name same
  kind_named id nodes shape Def.Dynamic is same = ap node_kind_name same
  kind_named id nodes shape (Def.Struct struct) is plan = struct_named is _ plan
  kind_named id nodes shape (Def.Enum enumeration) is plan = enum_named is _ plan
  kind_named id nodes shape Def.Opaque is same = ap node_kind_name same
  kind_named id nodes shape Def.Undefined is same = ap node_kind_name same
  kind_named id nodes shape Def.Other is same = ap node_kind_name same

  own_named : (id : ShapeId) (nodes : List NodeId) (found : Option Shape) (is : TypePlanNodeKind)
      → IsOwnKind table lists id nodes found is → node_kind_name is ≡ kind_name_in found
  own_named id nodes (Some shape) is told = kind_named id nodes shape shape.def is told
  own_named id nodes None is same = ap node_kind_name same

  role_named : (outline : Outline) (role : Role) (is : TypePlanNodeKind) → IsKindOf table lists outline role is
      → node_kind_name is ≡ kind_name_of table outline role
  role_named outline Role.Own is told = own_named outline.shape outline.children (slice_get table outline.shape.0) is told
  role_named outline Role.BackRef is same = ap node_kind_name same
  role_named outline (Role.FieldProxy field) is same = ap node_kind_name same

  -- Lines.

  abbrev line : (kind shape strategy : List ℕ) → NodeLine
  line kind shape strategy = record { kind = kind; shape = shape; strategy = strategy }

  line_told : (outline : Outline) (node : TypePlanNode) → IsNode table lists outline node
      → node_line table node ≡ outline_line table outline
  line_told outline node is =
      let kinds = role_named outline outline.role node.kind is.kind in
      let names : name_in table node.shape.0 ≡ name_in table outline.shape.0 = ap (λ (id : ShapeId). name_in table id.0) is.shape in
      let strategies = ap strategy_name is.strategy in
      ap (λ kind. line kind (name_in table node.shape.0) (strategy_name node.strategy)) kinds
      ∙ (ap (λ shape. line (kind_name_of table outline outline.role) shape (strategy_name node.strategy)) names
      ∙ ap (λ strategy. line (kind_name_of table outline outline.role) (name_in table outline.shape.0) strategy) strategies)

  pub lines_told : (outlines : List Outline) (nodes : List TypePlanNode) → AreNodes table lists outlines nodes
      → map (node_line table) nodes ≡ map (outline_line table) outlines
  lines_told [] [] all = refl
  lines_told [] (node ∷ nodes) all = absurd all
  lines_told (outline ∷ outlines) [] all = absurd all
  lines_told (outline ∷ outlines) (node ∷ nodes) all =
      ap (λ first. first ∷ map (node_line table) nodes) (line_told outline node all.0)
      ∙ ap (λ rest. outline_line table outline ∷ rest) (lines_told outlines nodes all.1)

-- one more item
pub next_told : {J : Type 0} (seen : J → Data) (items more : List J) (json : J) (before after : List Data) (line : Data)
    → more ≡ items ++ json ∷ [] → seen json ≡ line → map seen items ≡ before → after ≡ before ++ line ∷ []
    → map seen more ≡ after
next_told seen items more json before after line pushed told so_far next =
    ap (map seen) pushed
    ∙ (map-append seen items (json ∷ [])
    ∙ (ap (λ ds. ds ++ seen json ∷ []) so_far ∙ (ap (λ d. before ++ d ∷ []) told ∙ sym next)))

-- one more node
pub next_line : (table : Table) (nodes : List TypePlanNode) (i : ℕ) (node : TypePlanNode) → slice_get nodes i ≡ Some node
    → map line_data (map (node_line table) (take (i + 1) nodes))
    ≡ map line_data (map (node_line table) (take i nodes)) ++ line_data (node_line table node) ∷ []
next_line table nodes i node is =
    let here : take (i + 1) nodes ≡ take i nodes ++ node ∷ []
    = take_more nodes i node (slice_get_within nodes i node is)
    ∙ ap (λ (n : TypePlanNode). take i nodes ++ n ∷ []) (get_or_from_slice_get nodes i node node is) in
    rw (here, map-append, map-append) refl

-- a plan comes to what is meant to be planned
pub planned_told : (table : Table) (root : ShapeId) (plan : Plan) → IsPlanOf table root plan
    → planned (map (node_line table) plan.nodes) plan.root.0 ≡ outcome_of_plan table (the_plan table root)
planned_told table root plan is =
    ap (λ lines. planned lines plan.root.0) (lines_told table plan.lists plan.walk.nodes plan.nodes is.told)
    ∙ sym (ap (outcome_of_plan table) is.built)

-- a refusal is the one that is meant
pub refused_so : (table : Table) (root : ShapeId) (told : PlanError) (error : AllocError) → told ≡ PlanError.Alloc error
    → IsMeant (the_plan table root) told → the_plan table root ≡ Err error
refused_so table root told error same = subst (IsMeant (the_plan table root)) same

-- so it comes to what is meant too
pub refused_told : (table : Table) (root : ShapeId) (told : PlanError) (error : AllocError) → told ≡ PlanError.Alloc error
    → IsMeant (the_plan table root) told → unplanned error.operation ≡ outcome_of_plan table (the_plan table root)
refused_told table root told error same meant =
    sym (ap (outcome_of_plan table) (refused_so table root told error same meant))

-- a plan that isn't refused has the status of a plan
not_refused : (table : Table) (made : Built Made) → refusal_in made ≡ None → status_of (outcome_of_plan table made) ≡ 0
not_refused table (Ok made) none = refl
not_refused table (Err error) none = cc

value_status : (document : Document) (ran : Result Val Refusal) → IsOk ran → status_of (outcome_of_run document ran) ≡ 0
value_status document (Ok v) completes = refl
value_status document (Err refusal) completes = cc

module _ (refuses : RefusesFirst) (plans : PlansPlannable) where
  known_planned : (document : Document) → IsInOrder document → IsPlannable document.shapes document.root
      → status_of (outcome_of_plan document.shapes (plan_of document)) ≡ 0
  known_planned document in_order plannable =
      let root : ShapeId = record { 0 = document.root } in
      not_refused document.shapes (plan_of document)
      (refuses document.shapes root ∙ (plans document.shapes root in_order.checked in_order.rooted).1 plannable)

  in_any_case : (subcommand : Subcommand) (found : Result Document DocFault)
      → ((document : Document) → found ≡ Ok document → IsInOrder document) → Succeeds subcommand found
      → status_of (outcome_of_document subcommand found) ≡ 0
  in_any_case Subcommand.Build (Ok document) known completes = value_status document (run_of document) completes
  in_any_case Subcommand.Plan (Ok document) known plannable = known_planned document (known document refl) plannable
  in_any_case Subcommand.Build (Err fault) known none = absurd none
  in_any_case Subcommand.Plan (Err fault) known none = absurd none

  pub succeeds : (subcommand : Subcommand) (bytes : List ℕ) → Succeeds subcommand (document_of bytes)
      → status_of (outcome_of subcommand bytes) ≡ 0
  succeeds subcommand bytes = in_any_case subcommand (document_of bytes) (document_in_order bytes)
