-- A plan has at most as many nodes as reachable shapes, their references, and their fields with proxies together.
use Rattle.std.proofs.Common.{◌≡◌, ◌≢◌, ◌∙◌, ap, sym, refl, subst, ℕ, suc, zero, ◌+◌, ◌≤◌, ◌⊎◌, inl, inr, Bool, true, false, ◌||◌, if◌then◌else◌, List, [], ◌∷◌, length, set, slice_get, zero-add, arith, Option, Some, None, Ok}
use Rattle.std.specs.List.{list_any, sum_by, count_by}
use Rattle.std.specs.Result.{MatchResult}
use Rattle.std.proofs.lemmas.List.{length-append}
use Rattle.std.proofs.lemmas.List.Sums.{sum_by-cons}
use Rattle.std.proofs.lemmas.Option.{same_Some}
use Rattle.std.proofs.lemmas.Result.{MatchResult-at_ok}
use Rattle.fr_shape.specs.declared.shape.Shape.{Shape}
use Rattle.fr_shape.specs.declared.shape.ShapeId.{ShapeId}
use Rattle.fr_shape.specs.declared.error.AllocError.{AllocError}
use Rattle.fr_shape.specs.Checked.{fields_of}
use Rattle.fr_shape.specs.Look.{Table, IsIn, def_of}
use Rattle.fr_shape.specs.Plannable.{Reached, own_sources, refusal_of, own_refusal}
use Rattle.fr_plan.specs.declared.nodes.NodeId.{NodeId}
use Rattle.fr_plan.specs.declared.outlines.Outline.{Outline}
use Rattle.fr_plan.specs.declared.outlines.Mark.{Mark}
use Rattle.fr_plan.specs.declared.outlines.Walk.{Walk}
use Rattle.fr_plan.specs.Build.{Built, Made, MadeAll, unless, none_yet, with_node, back_reference, with_shape_mark, done, each_built, children_built, finish, build_new, build_by, build, start_of, planned}
use Rattle.fr_plan.specs.PlanLaws.{IsComplete}
use Rattle.fr_plan.specs.SizeLaws.{is_proxied, with_references, PlansAreSmall, PlainPlansAreSmall}
use Rattle.fr_plan.proofs.Wholeness.Marks.{slice_get-set_same, slice_get-set_other}
use Rattle.fr_plan.proofs.Wholeness.Adding.{same_or_other}
use Rattle.fr_plan.proofs.Wholeness.Adds.{Any, weighs, Adds, adds_none, adds_twice, adds_one, AddsOne, each_adds, children_add}
use Rattle.fr_plan.proofs.Wholeness.Kept.{match_then, match_weaker, get_not_none}
use Rattle.fr_plan.proofs.Wholeness.Sizes.{children_cost, weight_of, weight_in, weight_pays}
use Rattle.fr_plan.proofs.Wholeness.Weights.{finished_weight, begun_weighs, done_weighs, start_weighs, finished_in, finished_less}
use Rattle.fr_plan.proofs.Wholeness.Whole.{slice_get-replicate_in, plans_are_complete}

module _ (table : Table) where
  -- a shape that was not met before pays for its own node and for all that was built for it
  module _ (walk after : Walk) (id : ShapeId) (shape : Shape) (outline : Outline)
      (unseen : slice_get walk.marks id.0 ≡ Some Mark.Unseen) (here : slice_get table id.0 ≡ Some shape)
      (adds : Adds table (length (own_sources shape) + children_cost shape.def shape) (with_shape_mark walk id Mark.Building) after) where
    finish_adds : (refused : Option AllocError)
        → MatchResult (unless refused (done id (with_node after outline))) (λ made. Adds table 0 walk made.walk) Any
    finish_adds (Some error) = tt
    finish_adds None =
        let own : Mark = Mark.Done (record { 0 = length after.nodes }) in
        let begun : slice_get (with_shape_mark walk id Mark.Building).marks id.0 ≡ Some Mark.Building =
        slice_get-set_same walk.marks id.0 Mark.Building Mark.Unseen unseen in
        let there : slice_get after.marks id.0 ≡ Some Mark.Building = adds.building id.0 begun in
        let number : 0 + id.0 ≡ id.0 = omega arith in
        let gained = done_weighs (weight_in table) 0 after.marks id.0 (record { 0 = length after.nodes }) there in
        let weighed : weight_in table (0 + id.0) ≡ weight_of (Some shape) =
        ap (weight_in table) number ∙ ap weight_of here in
        record {
          count =
              omega (
                arith,
                adds.count,
                begun_weighs (weight_in table) 0 walk.marks id.0 unseen,
                gained,
                weighed,
                weight_pays shape,
                length-append after.nodes (outline ∷ []),
              );
          building = λ i at. still_building i at (same_or_other id.0 i);
        }
      where
        still_building : (i : ℕ) → slice_get walk.marks i ≡ Some Mark.Building → (i ≡ id.0) ⊎ (i ≢ id.0)
            → slice_get (set after.marks id.0 (Mark.Done (record { 0 = length after.nodes }))) i ≡ Some Mark.Building
        still_building i at (inl same) =
            let is : Mark.Unseen ≡ Mark.Building =
            same_Some Mark.Unseen Mark.Building (sym unseen ∙ ap (slice_get walk.marks) (sym same) ∙ at) in
            absurd (cc)
        still_building i at (inr apart) =
            slice_get-set_other after.marks id.0 i _ apart
            ∙ adds.building i (slice_get-set_other walk.marks id.0 i Mark.Building apart ∙ at)

  module _ (builds : Walk → ShapeId → Built Made) (one : AddsOne table builds) where
    new_adds : (walk : Walk) (id : ShapeId) (shape : Shape) → slice_get table id.0 ≡ Some shape
        → slice_get walk.marks id.0 ≡ Some Mark.Unseen
        → MatchResult (build_new builds walk id (Some shape)) (λ made. Adds table 0 walk made.walk) Any
    unfolding build_new finish
    new_adds walk id shape here unseen =
        let start : Walk = with_shape_mark walk id Mark.Building in
        let j : ℕ = length (own_sources shape) in
        let k : ℕ = children_cost shape.def shape in
        match_then (λ (all : MadeAll). Adds table j start all.walk) (λ (made : Made). Adds table 0 walk made.walk) Any
        (each_built builds (none_yet start) (own_sources shape)) _
        (each_adds table builds one (none_yet start) (own_sources shape))
        (λ sources first.
        match_then (λ (all : MadeAll). Adds table k sources.walk all.walk) (λ (made : Made). Adds table 0 walk made.walk) Any
        (children_built builds sources.walk id shape.def shape) _
        (children_add table builds one sources.walk id shape.def shape)
        (λ children second.
        finish_adds walk children.walk id shape _ unseen here
        (adds_twice table j k (j + k) start sources.walk children.walk (omega arith) first second)
        (own_refusal id.0 (refusal_of shape))))

    new_adds_one : (walk : Walk) (id : ShapeId) (found : Option Shape) → slice_get table id.0 ≡ found
        → slice_get walk.marks id.0 ≡ Some Mark.Unseen
        → MatchResult (build_new builds walk id found) (λ made. Adds table 1 walk made.walk) Any
    unfolding build_new
    new_adds_one walk id None here unseen = adds_one table walk (back_reference id)
    new_adds_one walk id (Some shape) here unseen =
        match_weaker (λ (made : Made). Adds table 0 walk made.walk) (λ (made : Made). Adds table 1 walk made.walk) Any
        (λ made adds. adds_twice table 0 0 1 walk made.walk made.walk (omega arith) adds (adds_none table made.walk))
        (build_new builds walk id (Some shape)) (new_adds walk id shape here unseen)

  by_adds : (mark : Option Mark) (fresh : Walk → ShapeId → Built Made) (walk : Walk) (id : ShapeId)
      → slice_get walk.marks id.0 ≡ mark
      → (slice_get walk.marks id.0 ≡ Some Mark.Unseen
      → MatchResult (fresh walk id) (λ made. Adds table 1 walk made.walk) Any)
      → MatchResult (build_by mark fresh walk id) (λ made. Adds table 1 walk made.walk) Any
  by_adds (Some (Mark.Done node)) fresh walk id is new =
      adds_twice table 0 0 1 walk walk walk (omega arith) (adds_none table walk) (adds_none table walk)
  by_adds (Some Mark.Unseen) fresh walk id is new = new is
  by_adds (Some Mark.Building) fresh walk id is new = adds_one table walk (back_reference id)
  by_adds None fresh walk id is new = adds_one table walk (back_reference id)

  build_adds : (depth : ℕ) → AddsOne table (λ at next. build table depth at next)
  build_adds zero = record { each = λ walk id. adds_one table walk (back_reference id) }
  build_adds (suc depth) = record {
    each =
        λ walk id.
        by_adds (slice_get walk.marks id.0) _ walk id refl
        (λ unseen.
        new_adds_one (λ at next. build table depth at next) (build_adds depth) walk id (slice_get table id.0) refl unseen);
  }

  -- the whole plan

  module _ (root : ShapeId) where
    abbrev fresh : Walk → ShapeId → Built Made
    fresh at new = build_new (λ at next. build table (length table) at next) at new (slice_get table new.0)

    fresh_adds : (walk : Walk) (found : Option Shape) → slice_get walk.marks root.0 ≡ Some Mark.Unseen
        → IsIn table root.0 → slice_get table root.0 ≡ found
        → MatchResult (build_new (λ at next. build table (length table) at next) walk root found)
        (λ made. Adds table 0 walk made.walk) Any
    fresh_adds walk None unseen inside here = absurd (get_not_none table root.0 inside here)
    fresh_adds walk (Some shape) unseen inside here =
        new_adds (λ at next. build table (length table) at next) (build_adds (length table)) walk root shape here unseen

    root_adds : IsIn table root.0
        → MatchResult (planned table root) (λ made. Adds table 0 (start_of table) made.walk) Any
    root_adds inside =
        let unseen : slice_get (start_of table).marks root.0 ≡ Some Mark.Unseen =
        slice_get-replicate_in (length table) root.0 Mark.Unseen inside in
        let P : Option Mark → Type 0 =
        λ m. MatchResult (build_by m fresh (start_of table) root) (λ made. Adds table 0 (start_of table) made.walk) Any in
        subst P (sym unseen) (fresh_adds (start_of table) (slice_get table root.0) unseen inside refl)

    -- the finished shapes pay for all nodes
    nodes_paid : (made : Made) → IsIn table root.0 → planned table root ≡ Ok made
        → length made.walk.nodes ≤ weighs table made.walk.marks
    nodes_paid made inside is =
        let adds : Adds table 0 (start_of table) made.walk =
        MatchResult-at_ok (λ (made : Made). Adds table 0 (start_of table) made.walk) Any made is (root_adds inside) in
        omega (arith, adds.count, start_weighs (weight_in table) 0 (length table))

    -- a finished shape is reached
    done_reached : (made : Made) → IsComplete table root made → (i : ℕ) (node : NodeId)
        → slice_get made.walk.marks i ≡ Some (Mark.Done node) → Reached table root.0 i
    done_reached made complete i node at =
        let own = complete.done (record { 0 = i }) node at in
        let P : ShapeId → Type 0 = λ id. Reached table root.0 id.0 in
        subst P own.shape (complete.nodes node.0 own.outline own.here).reached

-- sums

sum_of_both : (f g h : ℕ → ℕ) → ((i : ℕ) → h i ≤ f i + g i) → (ids : List ℕ) → sum_by h ids ≤ sum_by f ids + sum_by g ids
sum_of_both f g h each [] = omega arith
sum_of_both f g h each (i ∷ ids) =
    omega (arith, sum_by-cons f i ids, sum_by-cons g i ids, sum_by-cons h i ids, each i, sum_of_both f g h each ids)

abbrev references_at : Table → ℕ → ℕ
references_at table i = with_references (slice_get table i)

abbrev proxied_at : Table → ℕ → ℕ
proxied_at table i = count_by is_proxied (fields_of (def_of table i))

weight_is : (table : Table) (i : ℕ) → weight_in table i ≤ references_at table i + proxied_at table i
weight_is table i = by_shape (slice_get table i) refl
  where
    by_shape : (found : Option Shape) → slice_get table i ≡ found → weight_in table i ≤ references_at table i + proxied_at table i
    by_shape None is = rw is (omega arith)
    by_shape (Some shape) is = rw is (omega arith)

pub plans_are_small : PlansAreSmall
plans_are_small table root made reached checked inside is has =
    let complete = plans_are_complete table root made checked inside is in
    let all : weighs table made.walk.marks ≤ sum_by (weight_in table) reached =
    finished_in (weight_in table) reached made.walk.marks
    (λ i node at. has i (done_reached table root made complete i node at)) in
    omega (
      arith,
      nodes_paid table root made inside is,
      all,
      sum_of_both (references_at table) (proxied_at table) (weight_in table) (weight_is table) reached,
    )

-- without fields with proxies

none_counted : {X : Type 0} (p : X → Bool) (xs : List X) → list_any p xs ≡ false → count_by p xs ≡ 0
none_counted p [] none = refl
none_counted p (x ∷ xs) none =
    let both = neither (p x) (list_any p xs) none in
    let one_if : Bool → ℕ = λ b. if b then 1 else 0 in
    let first : one_if (p x) ≡ 0 = ap one_if both.0 in
    sum_by-cons (λ y. one_if (p y)) x xs ∙ ap (λ (n : ℕ). n + count_by p xs) first ∙ zero-add (count_by p xs)
    ∙ none_counted p xs both.1
  where
    neither : (a b : Bool) → (a || b) ≡ false → (a ≡ false) × (b ≡ false)
    neither true b is = absurd (cc)
    neither false b is = (refl, is)

pub plain_plans_are_small : PlainPlansAreSmall
plain_plans_are_small table root made reached checked inside is plain has =
    let complete = plans_are_complete table root made checked inside is in
    let met : (i : ℕ) (node : NodeId) → slice_get made.walk.marks i ≡ Some (Mark.Done node) → Reached table root.0 i =
    done_reached table root made complete in
    let zero_more : (i : ℕ) → i ≡ 0 + i = λ i. omega arith in
    let less : weighs table made.walk.marks ≤ finished_weight (references_at table) 0 made.walk.marks =
    finished_less (weight_in table) (references_at table) 0 made.walk.marks
    (λ i node at.
    let P : ℕ → Type 0 = λ n. weight_in table n ≤ references_at table n in
    subst P (zero_more i) (lighter i (met i node at) (slice_get table i) refl)) in
    let all : finished_weight (references_at table) 0 made.walk.marks ≤ sum_by (references_at table) reached =
    finished_in (references_at table) reached made.walk.marks (λ i node at. has i (met i node at)) in
    omega (arith, nodes_paid table root made inside is, less, all)
  where
    lighter : (i : ℕ) → Reached table root.0 i → (found : Option Shape) → slice_get table i ≡ found
        → weight_in table i ≤ references_at table i
    lighter i there None here = rw here (omega arith)
    lighter i there (Some shape) here =
        let none : count_by is_proxied (fields_of shape.def) ≡ 0 =
        none_counted is_proxied (fields_of shape.def) (plain i shape there here) in
        rw here (omega (arith, none))
