-- What is planned of a root is refused with the root's first refusal.
use Rattle.std.proofs.Common.{◌≡◌, ◌∙◌, ap, sym, refl, subst, ℕ, suc, zero, ◌+◌, ◌<◌, Bool, true, false, if◌then◌else◌, List, [], ◌∷◌, ◌++◌, length, slice_get, nat_eq, arith, Option, Some, None, Ok, Err}
use Rattle.std.specs.List.{list_any, flat_map}
use Rattle.std.proofs.lemmas.List.{length-replicate}
use Rattle.std.proofs.lemmas.List.Concat.{flat_map-append}
use Rattle.std.proofs.lemmas.Option.{none-some, slice_get_within}
use Rattle.fr_shape.specs.declared.shape.Shape.{Shape}
use Rattle.fr_shape.specs.declared.shape.ShapeId.{ShapeId}
use Rattle.fr_shape.specs.declared.shape.Def.{Def}
use Rattle.fr_shape.specs.declared.shape.Field.{Field}
use Rattle.fr_shape.specs.declared.shape.VariantDef.{VariantDef}
use Rattle.fr_shape.specs.declared.error.AllocError.{AllocError}
use Rattle.fr_shape.specs.Look.{Table}
use Rattle.fr_shape.specs.Plannable.{Walk as Visited, unless_refused, each_in_turn, visit_shape, visit, own_sources, field_sources, field_parts, children_by, parts_by, refusal_of, own_refusal}
use Rattle.fr_plan.specs.declared.nodes.NodeId.{NodeId}
use Rattle.fr_plan.specs.declared.outlines.Outline.{Outline}
use Rattle.fr_plan.specs.declared.outlines.Mark.{Mark}
use Rattle.fr_plan.specs.declared.outlines.Walk.{Walk}
use Rattle.fr_plan.specs.Build.{Built, Made, MadeAll, Placed, unless, none_yet, with_one, with_node, back_reference, with_shape_mark, done, each_built, fields_from, variant_fields_from, behind_proxies, field_built, fields_built, children_built, finish, build_new, build_by, build, start_of, planned}
use Rattle.fr_plan.specs.RefusalLaws.{refusal_in, RefusesFirst}
use Rattle.fr_plan.proofs.Wholeness.Marks.{IsBegun, is_unseen, slice_get-set_same, slice_get-replicate}
use Rattle.fr_plan.proofs.Wholeness.Kept.{get_not_none}
use Rattle.fr_plan.proofs.Wholeness.Turns.{refused_twice, turn-append, Agrees, agrees_itself, Meets, meets_since, meets_then, Simulates, walk_one, walk_all, each_meets, agrees_added, agrees_begun, agrees_finished}

-- the parts of fields, in order

abbrev parts_of_placed : Placed → List ShapeId
parts_of_placed placed = field_parts placed.field

parts_from : (id : ShapeId) (variant : Option ℕ) (i : ℕ) (fields : List Field)
    → flat_map parts_of_placed (fields_from id variant i fields) ≡ flat_map field_parts fields
parts_from id variant i [] = refl
parts_from id variant i (field ∷ fields) =
    ap (λ (l : List ShapeId). field_parts field ++ l) (parts_from id variant (i + 1) fields)

variant_parts_from : (id : ShapeId) (i : ℕ) (variants : List VariantDef)
    → flat_map parts_of_placed (variant_fields_from id i variants)
    ≡ flat_map field_parts (flat_map (λ (variant : VariantDef). variant.fields) variants)
variant_parts_from id i [] = refl
variant_parts_from id i (variant ∷ variants) =
    let rest : List Field = flat_map (λ (variant : VariantDef). variant.fields) variants in
    flat_map-append parts_of_placed (fields_from id (Some i) 0 variant.fields) (variant_fields_from id (i + 1) variants)
    ∙ ap (λ (l : List ShapeId). l ++ flat_map parts_of_placed (variant_fields_from id (i + 1) variants))
    (parts_from id (Some i) 0 variant.fields)
    ∙ ap (λ (l : List ShapeId). flat_map field_parts variant.fields ++ l) (variant_parts_from id (i + 1) variants)
    ∙ sym (flat_map-append field_parts variant.fields rest)

module _ (table : Table) (builds : Walk → ShapeId → Built Made) (visits : List ℕ → ℕ → Visited)
    (simulates : Simulates table builds visits) where
  behind_meets : (before : List Mark) (placed : Placed) (sources : List NodeId) (own : Made) (begun : List ℕ)
      → Agrees table before own.walk.marks begun
      → Meets table own.walk.marks walk_one (behind_proxies placed sources own) (record { begun = begun; refused = None })
  behind_meets before placed [] own begun agrees = (refl, agrees_itself table before own.walk.marks begun agrees)
  behind_meets before placed (source ∷ sources) own begun agrees =
      (refl, agrees_itself table before own.walk.marks begun agrees)

  field_meets : (before : List Mark) (walk : Walk) (begun : List ℕ) (placed : Placed) → Agrees table before walk.marks begun
      → Meets table walk.marks walk_one (field_built builds walk placed) (each_in_turn visits begun (field_parts placed.field))
  unfolding field_built
  field_meets before walk begun placed agrees =
      let P : Visited → Type 0 = λ v. Meets table walk.marks walk_one (field_built builds walk placed) v in
      subst P (sym (turn-append visits begun (field_sources placed.field) (placed.field.shape ∷ [])))
      (meets_then table walk.marks walk_all walk_one (each_built builds (none_yet walk) (field_sources placed.field))
      (each_in_turn visits begun (field_sources placed.field)) _ _
      (each_meets table builds visits simulates before (none_yet walk) begun (field_sources placed.field) agrees)
      (λ sources after agree.
      meets_then table sources.walk.marks walk_one walk_one (builds sources.walk placed.field.shape)
      (visits after placed.field.shape.0) _ (λ at. each_in_turn visits at [])
      (simulates.each walk.marks sources.walk after placed.field.shape agree)
      (λ own at same. behind_meets sources.walk.marks placed sources.nodes own at same)))

  fields_meet : (before : List Mark) (made : MadeAll) (begun : List ℕ) (fields : List Placed)
      → Agrees table before made.walk.marks begun
      → Meets table made.walk.marks walk_all (fields_built builds made fields)
      (each_in_turn visits begun (flat_map parts_of_placed fields))
  fields_meet before made begun [] agrees = (refl, agrees_itself table before made.walk.marks begun agrees)
  fields_meet before made begun (placed ∷ fields) agrees =
      let P : Visited → Type 0 = λ v. Meets table made.walk.marks walk_all (fields_built builds made (placed ∷ fields)) v in
      subst P (sym (turn-append visits begun (field_parts placed.field) (flat_map parts_of_placed fields)))
      (meets_then table made.walk.marks walk_one walk_all (field_built builds made.walk placed)
      (each_in_turn visits begun (field_parts placed.field)) (λ one. fields_built builds (with_one made one) fields)
      (λ after. each_in_turn visits after (flat_map parts_of_placed fields))
      (field_meets before made.walk begun placed agrees)
      (λ one after agree. fields_meet made.walk.marks (with_one made one) after fields agree))

  children_meet : (before : List Mark) (walk : Walk) (begun : List ℕ) (id : ShapeId) (def : Def) (shape : Shape)
      → Agrees table before walk.marks begun
      → Meets table walk.marks walk_all (children_built builds walk id def shape)
      (each_in_turn visits begun (parts_by def shape))
  unfolding children_built
  children_meet before walk begun id (Def.Struct struct) shape agrees =
      let P : List ShapeId → Type 0 =
      λ l. Meets table walk.marks walk_all (fields_built builds (none_yet walk) (fields_from id None 0 struct.fields))
      (each_in_turn visits begun l) in
      subst P (parts_from id None 0 struct.fields)
      (fields_meet before (none_yet walk) begun (fields_from id None 0 struct.fields) agrees)
  children_meet before walk begun id (Def.Enum enumeration) shape agrees =
      let P : List ShapeId → Type 0 =
      λ l. Meets table walk.marks walk_all
      (fields_built builds (none_yet walk) (variant_fields_from id 0 enumeration.variants)) (each_in_turn visits begun l) in
      subst P (variant_parts_from id 0 enumeration.variants)
      (fields_meet before (none_yet walk) begun (variant_fields_from id 0 enumeration.variants) agrees)
  children_meet before walk begun id def shape agrees =
      each_meets table builds visits simulates before (none_yet walk) begun (children_by def shape) agrees

  -- a shape that was not met before

  finish_meets : (before : List Mark) (walk : Walk) (begun : List ℕ) (id : ShapeId) (outline : Outline)
      (refused : Option AllocError) → IsBegun walk.marks id.0 → Agrees table before walk.marks begun
      → Meets table before walk_one (unless refused (done id (with_node walk outline)))
      (record { begun = begun; refused = refused })
  finish_meets before walk begun id outline None there agrees =
      (refl, agrees_finished table before walk.marks begun id.0 (Mark.Done (record { 0 = length walk.nodes })) refl there agrees)
  finish_meets before walk begun id outline (Some error) there agrees = refl

  pub new_meets : (before : List Mark) (walk : Walk) (begun : List ℕ) (id : ShapeId) (found : Option Shape)
      → slice_get table id.0 ≡ found → slice_get walk.marks id.0 ≡ Some Mark.Unseen → Agrees table before walk.marks begun
      → Meets table walk.marks walk_one (build_new builds walk id found) (visit_shape visits (id.0 ∷ begun) id.0 found)
  unfolding build_new finish
  new_meets before walk begun id None here unseen agrees =
      let inside : id.0 < length table =
      omega (arith, slice_get_within walk.marks id.0 Mark.Unseen unseen, agrees.marks_length) in
      absurd (get_not_none table id.0 inside here)
  new_meets before walk begun id (Some shape) here unseen agrees =
      let start : Walk = with_shape_mark walk id Mark.Building in
      let last : List ℕ → Visited =
      λ after. record { begun = after; refused = own_refusal id.0 (refusal_of shape) } in
      let started : Agrees table walk.marks start.marks (id.0 ∷ begun) =
      agrees_begun table before walk.marks begun id.0 unseen agrees in
      let begins : IsBegun start.marks id.0 =
      record {
        mark = Mark.Building;
        here = slice_get-set_same walk.marks id.0 Mark.Building Mark.Unseen unseen;
        seen = refl;
      } in
      let P : Visited → Type 0 = λ v. Meets table walk.marks walk_one (build_new builds walk id (Some shape)) v in
      let parted : unless_refused (each_in_turn visits (id.0 ∷ begun) (own_sources shape))
      (λ after. unless_refused (each_in_turn visits after (parts_by shape.def shape)) last)
      ≡ unless_refused (each_in_turn visits (id.0 ∷ begun) (own_sources shape ++ parts_by shape.def shape)) last =
      refused_twice (each_in_turn visits (id.0 ∷ begun) (own_sources shape)) _
      (λ after. each_in_turn visits after (parts_by shape.def shape)) last (λ after. refl)
      ∙ ap (λ (v : Visited). unless_refused v last)
      (sym (turn-append visits (id.0 ∷ begun) (own_sources shape) (parts_by shape.def shape))) in
      subst P parted
      (meets_since table walk.marks start.marks started.kept walk_one _ _
      (meets_then table start.marks walk_all walk_one (each_built builds (none_yet start) (own_sources shape))
      (each_in_turn visits (id.0 ∷ begun) (own_sources shape)) _ _
      (each_meets table builds visits simulates walk.marks (none_yet start) (id.0 ∷ begun) (own_sources shape) started)
      (λ sources after agree.
      meets_then table sources.walk.marks walk_all walk_one (children_built builds sources.walk id shape.def shape)
      (each_in_turn visits after (parts_by shape.def shape)) _ last
      (children_meet start.marks sources.walk after id shape.def shape agree)
      (λ children at same.
      finish_meets children.walk.marks children.walk at id _ (own_refusal id.0 (refusal_of shape))
      (same.kept id.0 (agree.kept id.0 begins)) (agrees_itself table sources.walk.marks children.walk.marks at same)))))

-- a shape, by how far it has come

module _ (table : Table) (depth : ℕ)
    (simulates : Simulates table (λ at next. build table depth at next) (λ seen next. visit table depth seen next)) where
  abbrev fresh : Walk → ShapeId → Built Made
  fresh at new = build_new (λ at next. build table depth at next) at new (slice_get table new.0)

  abbrev visited_by : Bool → List ℕ → ShapeId → Visited
  visited_by begun_before begun id =
      if begun_before then record { begun = begun; refused = None }
      else visit_shape (λ seen next. visit table depth seen next) (id.0 ∷ begun) id.0 (slice_get table id.0)

  module _ (before : List Mark) (walk : Walk) (begun : List ℕ) (id : ShapeId) (agrees : Agrees table before walk.marks begun) where
    seen_meets : (made : Made) → made.walk.marks ≡ walk.marks → list_any (nat_eq id.0) begun ≡ true
        → Meets table walk.marks walk_one (Ok made) (visited_by (list_any (nat_eq id.0) begun) begun id)
    seen_meets made same is =
        let P : Bool → Type 0 = λ b. Meets table walk.marks walk_one (Ok made) (visited_by b begun id) in
        let Q : List Mark → Type 0 = λ m. Agrees table walk.marks m begun in
        subst P (sym is) (refl, subst Q (sym same) (agrees_itself table before walk.marks begun agrees))

    -- an id that no mark stands for is none of the table
    past_meets : (made : Made) → made.walk.marks ≡ walk.marks → slice_get walk.marks id.0 ≡ None → (seen : Bool)
        → Meets table walk.marks walk_one (Ok made) (visited_by seen begun id)
    past_meets made same at true =
        let Q : List Mark → Type 0 = λ m. Agrees table walk.marks m begun in
        (refl, subst Q (sym same) (agrees_itself table before walk.marks begun agrees))
    past_meets made same at false = by_shape (slice_get table id.0) refl
      where
        by_shape : (found : Option Shape) → slice_get table id.0 ≡ found
            → Meets table walk.marks walk_one (Ok made)
            (visit_shape (λ seen next. visit table depth seen next) (id.0 ∷ begun) id.0 found)
        by_shape None is =
            let Q : List Mark → Type 0 = λ m. Agrees table walk.marks m (id.0 ∷ begun) in (
              refl,
              subst Q (sym same)
                  (agrees_itself table before walk.marks (id.0 ∷ begun)
                  (agrees_added table before walk.marks begun id.0 (λ unseen. none_some_mark unseen) agrees)),
            )
          where
            none_some_mark : slice_get walk.marks id.0 ≡ Some Mark.Unseen → ⊥
            none_some_mark unseen = none-some Mark.Unseen (sym at ∙ unseen)
        by_shape (Some shape) is =
            let inside : id.0 < length walk.marks =
            omega (arith, slice_get_within table id.0 shape is, agrees.marks_length) in
            absurd (get_not_none walk.marks id.0 inside at)

    by_meets : (mark : Option Mark) → slice_get walk.marks id.0 ≡ mark
        → Meets table walk.marks walk_one (build_by mark fresh walk id) (visited_by (list_any (nat_eq id.0) begun) begun id)
    by_meets (Some (Mark.Done node)) is =
        seen_meets (record { walk = walk; node = node }) refl
        (agrees.seen id.0 (record { mark = Mark.Done node; here = is; seen = refl }))
    by_meets (Some Mark.Building) is =
        seen_meets (with_node walk (back_reference id)) refl (agrees.seen id.0 (record { mark = Mark.Building; here = is; seen = refl }))
    by_meets (Some Mark.Unseen) is =
        let P : Bool → Type 0 = λ b. Meets table walk.marks walk_one (fresh walk id) (visited_by b begun id) in
        subst P (sym (agrees.unseen id.0 is))
        (new_meets table (λ at next. build table depth at next) (λ seen next. visit table depth seen next) simulates before walk
        begun id (slice_get table id.0) refl is agrees)
    by_meets None is = past_meets (with_node walk (back_reference id)) refl is (list_any (nat_eq id.0) begun)

build_meets : (table : Table) (depth : ℕ)
    → Simulates table (λ at next. build table depth at next) (λ seen next. visit table depth seen next)
build_meets table zero = record {
  each = λ before walk begun id agrees. (refl, agrees_itself table before walk.marks begun agrees);
}
build_meets table (suc depth) = record {
  each =
      λ before walk begun id agrees.
      by_meets table depth (build_meets table depth) before walk begun id agrees (slice_get walk.marks id.0) refl;
}

-- the whole plan

start_agrees : (table : Table) → Agrees table (start_of table).marks (start_of table).marks []
start_agrees table = record {
  marks_length = length-replicate (length table) Mark.Unseen;
  unseen = λ i at. refl;
  seen =
      λ i there.
      let is : Mark.Unseen ≡ there.mark = slice_get-replicate (length table) i Mark.Unseen there.mark there.here in
      let both : true ≡ false = ap is_unseen is ∙ there.seen in
      absurd (cc);
  kept = λ i there. there;
}

met_refusal : (table : Table) (before : List Mark) (built : Built Made) (visited : Visited)
    → Meets table before walk_one built visited → refusal_in built ≡ visited.refused
met_refusal table before (Ok made) visited meets = sym meets.0
met_refusal table before (Err refused) visited meets = sym meets

pub refuses_first : RefusesFirst
refuses_first table root =
    let simulates = build_meets table (suc (length table)) in
    met_refusal table (start_of table).marks (planned table root) (visit table (suc (length table)) [] root.0)
    (simulates.each (start_of table).marks (start_of table) [] root (start_agrees table))
