-- While shapes are built, a node is added for each shape that is finished, for each reference, and for each field with proxies,
-- and no others.
use Rattle.std.proofs.Common.{◌≡◌, subst, ℕ, suc, ◌+◌, ◌≤◌, List, [], ◌∷◌, length, slice_get, arith, Some, None, Ok}
use Rattle.std.specs.Bool.{⊤}
use Rattle.std.specs.Result.{MatchResult}
use Rattle.std.proofs.lemmas.List.{length-append}
use Rattle.fr_shape.specs.declared.shape.Shape.{Shape}
use Rattle.fr_shape.specs.declared.shape.ShapeId.{ShapeId}
use Rattle.fr_shape.specs.declared.shape.Def.{Def}
use Rattle.fr_shape.specs.declared.error.AllocError.{AllocError}
use Rattle.fr_shape.specs.Look.{Table}
use Rattle.fr_shape.specs.Plannable.{field_sources, children_by}
use Rattle.fr_plan.specs.declared.nodes.NodeId.{NodeId}
use Rattle.fr_plan.specs.declared.outlines.Outline.{Outline}
use Rattle.fr_plan.specs.declared.outlines.Mark.{Mark}
use Rattle.fr_plan.specs.declared.outlines.Walk.{Walk}
use Rattle.fr_plan.specs.Build.{Built, Made, MadeAll, Placed, and_then, none_yet, with_one, with_node, each_built, fields_from, variant_fields_from, behind_proxies, field_built, fields_built, children_built}
use Rattle.fr_plan.proofs.Wholeness.Kept.{match_then, match_weaker}
use Rattle.fr_plan.proofs.Wholeness.Sizes.{cost_by, field_cost, placed_cost, placed_from, variants_from, children_cost, weight_in}
use Rattle.fr_plan.proofs.Wholeness.Weights.{finished_weight}

abbrev pub Any : AllocError → Type 0
Any refused = ⊤

module _ (table : Table) where
  abbrev pub weighs : List Mark → ℕ
  weighs marks = finished_weight (weight_in table) 0 marks

  -- at most k nodes were added that no finished shape pays for, and whatever was being built still is
  pub record Adds (k : ℕ) (before after : Walk) : Type 0 where
    pub count : length after.nodes + weighs before.marks ≤ length before.nodes + weighs after.marks + k
    pub building :
        (i : ℕ) → slice_get before.marks i ≡ Some Mark.Building → slice_get after.marks i ≡ Some Mark.Building

  pub adds_none : (walk : Walk) → Adds 0 walk walk
  adds_none walk = record { count = omega arith; building = λ i at. at }

  pub adds_twice : (j k n : ℕ) (first second third : Walk) → j + k ≤ n → Adds j first second → Adds k second third
      → Adds n first third
  adds_twice j k n first second third room once again = record {
    count = omega (arith, room, once.count, again.count);
    building = λ i at. again.building i (once.building i at);
  }

  pub adds_one : (walk : Walk) (outline : Outline) → Adds 1 walk (with_node walk outline).walk
  adds_one walk outline = record {
    count = omega (arith, length-append walk.nodes (outline ∷ []));
    building = λ i at. at;
  }

  -- calls that add one node at most
  pub record AddsOne (builds : Walk → ShapeId → Built Made) : Type 0 where
    pub each : (walk : Walk) (id : ShapeId) → MatchResult (builds walk id) (λ made. Adds 1 walk made.walk) Any

  module _ (builds : Walk → ShapeId → Built Made) (one : AddsOne builds) where
    pub each_adds : (made : MadeAll) (ids : List ShapeId)
        → MatchResult (each_built builds made ids) (λ all. Adds (length ids) made.walk all.walk) Any
    each_adds made [] = adds_none made.walk
    each_adds made (id ∷ ids) =
        match_then (λ (first : Made). Adds 1 made.walk first.walk)
        (λ (all : MadeAll). Adds (suc (length ids)) made.walk all.walk) Any (builds made.walk id)
        (λ first. each_built builds (with_one made first) ids) (one.each made.walk id)
        (λ first adds.
        match_weaker (λ (all : MadeAll). Adds (length ids) first.walk all.walk)
        (λ (all : MadeAll). Adds (suc (length ids)) made.walk all.walk) Any
        (λ all more. adds_twice 1 (length ids) (suc (length ids)) made.walk first.walk all.walk (omega arith) adds more)
        (each_built builds (with_one made first) ids) (each_adds (with_one made first) ids))

    -- fields

    behind_adds : (before : Walk) (k : ℕ) (placed : Placed) (sources : List NodeId) (own : Made) → Adds k before own.walk
        → MatchResult (behind_proxies placed sources own) (λ made. Adds (k + 1) before made.walk) Any
    behind_adds before k placed [] own adds =
        adds_twice k 0 (k + 1) before own.walk own.walk (omega arith) adds (adds_none own.walk)
    behind_adds before k placed (source ∷ sources) own adds =
        adds_twice k 1 (k + 1) before own.walk _ (omega arith) adds (adds_one own.walk _)

    field_by : (walk : Walk) (placed : Placed) (ids : List ShapeId)
        → MatchResult
        (and_then (each_built builds (none_yet walk) ids) (λ sources.
        and_then (builds sources.walk placed.field.shape) (λ own. behind_proxies placed sources.nodes own)))
        (λ made. Adds (cost_by ids) walk made.walk) Any
    field_by walk placed [] =
        match_then (λ (own : Made). Adds 1 walk own.walk) (λ (made : Made). Adds 1 walk made.walk) Any
        (builds walk placed.field.shape) (λ own. Ok own) (one.each walk placed.field.shape) (λ own adds. adds)
    field_by walk placed (source ∷ sources) =
        let n : ℕ = length (source ∷ sources) in
        match_then (λ (all : MadeAll). Adds n walk all.walk) (λ (made : Made). Adds (n + 2) walk made.walk) Any
        (each_built builds (none_yet walk) (source ∷ sources)) _ (each_adds (none_yet walk) (source ∷ sources))
        (λ all adds.
        match_then (λ (own : Made). Adds 1 all.walk own.walk) (λ (made : Made). Adds (n + 2) walk made.walk) Any
        (builds all.walk placed.field.shape) _ (one.each all.walk placed.field.shape)
        (λ own more.
        match_weaker (λ (made : Made). Adds (n + 1 + 1) walk made.walk) (λ (made : Made). Adds (n + 2) walk made.walk) Any
        (λ made whole. adds_twice (n + 1 + 1) 0 (n + 2) walk made.walk made.walk (omega arith) whole (adds_none made.walk))
        (behind_proxies placed all.nodes own)
        (behind_adds walk (n + 1) placed all.nodes own
        (adds_twice n 1 (n + 1) walk all.walk own.walk (omega arith) adds more))))

    field_adds : (walk : Walk) (placed : Placed)
        → MatchResult (field_built builds walk placed) (λ made. Adds (field_cost placed.field) walk made.walk) Any
    unfolding field_built
    field_adds walk placed = field_by walk placed (field_sources placed.field)

    fields_add : (made : MadeAll) (fields : List Placed)
        → MatchResult (fields_built builds made fields) (λ all. Adds (placed_cost fields) made.walk all.walk) Any
    fields_add made [] = adds_none made.walk
    fields_add made (placed ∷ fields) =
        let k : ℕ = field_cost placed.field in
        let n : ℕ = placed_cost fields in
        match_then (λ (first : Made). Adds k made.walk first.walk) (λ (all : MadeAll). Adds (k + n) made.walk all.walk) Any
        (field_built builds made.walk placed) (λ first. fields_built builds (with_one made first) fields)
        (field_adds made.walk placed)
        (λ first adds.
        match_weaker (λ (all : MadeAll). Adds n first.walk all.walk) (λ (all : MadeAll). Adds (k + n) made.walk all.walk) Any
        (λ all more. adds_twice k n (k + n) made.walk first.walk all.walk (omega arith) adds more)
        (fields_built builds (with_one made first) fields) (fields_add (with_one made first) fields))

    pub children_add : (walk : Walk) (id : ShapeId) (def : Def) (shape : Shape)
        → MatchResult (children_built builds walk id def shape) (λ all. Adds (children_cost def shape) walk all.walk) Any
    unfolding children_built
    children_add walk id (Def.Struct struct) shape =
        let P : ℕ → Type 0 =
        λ k. MatchResult (fields_built builds (none_yet walk) (fields_from id None 0 struct.fields))
        (λ (all : MadeAll). Adds k walk all.walk) Any in
        subst P (placed_from id None 0 struct.fields) (fields_add (none_yet walk) (fields_from id None 0 struct.fields))
    children_add walk id (Def.Enum enumeration) shape =
        let P : ℕ → Type 0 =
        λ k. MatchResult (fields_built builds (none_yet walk) (variant_fields_from id 0 enumeration.variants))
        (λ (all : MadeAll). Adds k walk all.walk) Any in
        subst P (variants_from id 0 enumeration.variants)
        (fields_add (none_yet walk) (variant_fields_from id 0 enumeration.variants))
    children_add walk id def shape = each_adds (none_yet walk) (children_by def shape)
