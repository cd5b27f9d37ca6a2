-- A walk stays sound while shapes are built, as long as its depth is greater than the number of shapes not met yet.
use Rattle.std.proofs.Common.{◌≡◌, sym, refl, subst, ℕ, suc, zero, false, ◌<◌, List, [], ◌∷◌, ◌++◌, length, slice_get, arith, None, Ok, Err}
use Rattle.std.specs.List.{All, AllZip}
use Rattle.std.specs.Result.{MatchResult}
use Rattle.std.proofs.lemmas.List.{append-nil, append_assoc}
use Rattle.std.proofs.lemmas.List.Elements.{All-nil, All-head, All-tail}
use Rattle.std.proofs.lemmas.Option.{none-some}
use Rattle.fr_shape.specs.declared.shape.Shape.{Shape}
use Rattle.fr_shape.specs.declared.shape.ShapeId.{ShapeId}
use Rattle.fr_shape.specs.declared.shape.Def.{Def}
use Rattle.fr_shape.specs.declared.error.AllocError.{AllocError}
use Rattle.fr_shape.specs.Checked.{fields_of}
use Rattle.fr_shape.specs.Look.{Table}
use Rattle.fr_shape.specs.Plannable.{Reached, field_sources, children_by}
use Rattle.fr_plan.specs.declared.nodes.NodeId.{NodeId}
use Rattle.fr_plan.specs.declared.outlines.Outline.{Outline}
use Rattle.fr_plan.specs.declared.outlines.Role.{Role}
use Rattle.fr_plan.specs.declared.outlines.Walk.{Walk}
use Rattle.fr_plan.specs.Build.{Built, Made, MadeAll, Placed, and_then, none_yet, with_one, with_node, each_built, fields_from, variant_fields_from, behind_proxies, field_built, fields_built, children_built}
use Rattle.fr_plan.specs.PlanLaws.{IsNodeOf, IsFieldNode, AreChildrenBy}
use Rattle.fr_plan.proofs.Wholeness.Marks.{slice_get_last, zip_push, zip_all, unseen_in, IsBegun}
use Rattle.fr_plan.proofs.Wholeness.Sound.{IsThere, IsSound, Keeps, IsKept, AreKept, IsBlamed, keeps_itself, keeps_twice, nodes_stay, fields_stay}
use Rattle.fr_plan.proofs.Wholeness.Adding.{added_stays, put_kept}
use Rattle.fr_plan.proofs.Wholeness.Led.{AreReached, IsFieldReached, fields_all, variant_fields_all}

-- what was built, and what is built after it

pub match_weaker : {X : Type 0} (P Q : X → Type 0) (R : AllocError → Type 0) → ((x : X) → P x → Q x) → (built : Built X)
    → MatchResult built P R → MatchResult built Q R
match_weaker P Q R weaker (Ok x) told = weaker x told
match_weaker P Q R weaker (Err e) told = told

pub match_then : {X Y : Type 0} (P : X → Type 0) (Q : Y → Type 0) (R : AllocError → Type 0) (built : Built X)
    (go_on : X → Built Y) → MatchResult built P R → ((x : X) → P x → MatchResult (go_on x) Q R)
    → MatchResult (and_then built go_on) Q R
match_then P Q R (Ok x) go_on told more = more x told
match_then P Q R (Err e) go_on told more = told

-- lists place by place

zip_nil : {A B : Type 0} (R : A → B → Type 0) (ys : List B) → AllZip R [] ys → ys ≡ []
zip_nil R [] all = refl
zip_nil R (y ∷ ys) all = absurd all

pub get_not_none : {X : Type 0} (xs : List X) (i : ℕ) → i < length xs → slice_get xs i ≡ None → ⊥
get_not_none [] i inside at = absurd (omega (arith, inside))
get_not_none (x ∷ xs) zero inside at = none-some x (sym at)
get_not_none (x ∷ xs) (suc i) inside at = get_not_none xs i (omega (arith, inside)) at

pub nodes_there : (nodes : List Outline) (listed : List NodeId) (ids : List ShapeId) → AllZip (IsNodeOf nodes) listed ids
    → All (IsThere nodes) listed
nodes_there nodes listed ids all =
    zip_all (IsNodeOf nodes) (IsThere nodes) (λ node id is. record { outline = is.outline; here = is.here }) listed ids all

fields_there : (nodes : List Outline) (listed : List NodeId) (fields : List Placed) → AllZip (IsFieldNode nodes) listed fields
    → All (IsThere nodes) listed
fields_there nodes listed fields all =
    zip_all (IsFieldNode nodes) (IsThere nodes) (λ node placed is. record { outline = is.outline; here = is.here }) listed
    fields all

pub children_there : (nodes : List Outline) (id : ShapeId) (shape : Shape) (def : Def) (listed : List NodeId)
    → AreChildrenBy nodes id shape def listed → All (IsThere nodes) listed
children_there nodes id shape (Def.Struct struct) listed are = fields_there nodes listed _ are
children_there nodes id shape (Def.Enum enumeration) listed are = fields_there nodes listed _ are
children_there nodes id shape def listed are = nodes_there nodes listed (children_by def shape) are

-- calls of this depth build well
pub record BuildsWell (table : Table) (root : ShapeId) (depth : ℕ) (builds : Walk → ShapeId → Built Made) : Type 0 where
  pub each :
      (walk : Walk) (id : ShapeId) → IsSound table root walk → unseen_in walk.marks < depth → Reached table root.0 id.0
      → MatchResult (builds walk id) (IsKept table root walk id) (IsBlamed table root)

-- a field was built
record IsFieldKept (table : Table) (root : ShapeId) (before : Walk) (placed : Placed) (made : Made) : Type 0 where
  sound : IsSound table root made.walk
  keeps : Keeps before made.walk
  node : IsFieldNode made.walk.nodes made.node placed

module _ (table : Table) (root : ShapeId) (depth : ℕ) (builds : Walk → ShapeId → Built Made)
    (well : BuildsWell table root depth builds) where
  abbrev IsReached : ShapeId → Type 0
  IsReached id = Reached table root.0 id.0

  abbrev AreNodesOf : List ShapeId → List Outline → List NodeId → Type 0
  AreNodesOf ids nodes listed = AllZip (IsNodeOf nodes) listed ids

  abbrev AreFieldNodes : List Placed → List Outline → List NodeId → Type 0
  AreFieldNodes fields nodes listed = AllZip (IsFieldNode nodes) listed fields

  pub each_kept : (made : MadeAll) (ids more : List ShapeId) → IsSound table root made.walk
      → unseen_in made.walk.marks < depth → AreReached table root more → AllZip (IsNodeOf made.walk.nodes) made.nodes ids
      → MatchResult (each_built builds made more) (λ all. AreKept table root made.walk all (AreNodesOf (ids ++ more)))
      (IsBlamed table root)
  each_kept made ids [] sound few reached so_far =
      let P : List ShapeId → Type 0 = λ l. AllZip (IsNodeOf made.walk.nodes) made.nodes l in
      record { sound = sound; keeps = keeps_itself made.walk; nodes = subst P (sym (append-nil ids)) so_far }
  each_kept made ids (id ∷ more) sound few reached so_far =
      let Before : Made → Type 0 = IsKept table root made.walk id in
      let Whole : MadeAll → Type 0 = λ all. AreKept table root made.walk all (AreNodesOf (ids ++ id ∷ more)) in
      match_then Before Whole (IsBlamed table root) (builds made.walk id) (λ one. each_built builds (with_one made one) more)
      (well.each made.walk id sound few (All-head IsReached id more reached))
      (λ one kept.
      let Rest : MadeAll → Type 0 = λ all. AreKept table root one.walk all (AreNodesOf ((ids ++ id ∷ []) ++ more)) in
      match_weaker Rest Whole (IsBlamed table root)
      (λ all are.
      let P : List ShapeId → Type 0 = λ l. AllZip (IsNodeOf all.walk.nodes) all.nodes l in
      record {
        sound = are.sound;
        keeps = keeps_twice made.walk one.walk all.walk kept.keeps are.keeps;
        nodes = subst P (append_assoc ids (id ∷ []) more) are.nodes;
      })
      (each_built builds (with_one made one) more)
      (each_kept (with_one made one) (ids ++ id ∷ []) more kept.sound (omega (arith, few, kept.keeps.unseen))
      (All-tail IsReached id more reached)
      (zip_push (IsNodeOf one.walk.nodes) made.nodes ids one.node id
      (nodes_stay made.walk.nodes one.walk.nodes kept.keeps.nodes made.nodes ids so_far) kept.node)))

  -- fields

  behind_kept : (before : Walk) (placed : Placed) (sources : List NodeId) (own : Made) → IsSound table root own.walk
      → Keeps before own.walk → IsNodeOf own.walk.nodes own.node placed.field.shape
      → AllZip (IsNodeOf own.walk.nodes) sources (field_sources placed.field) → Reached table root.0 placed.field.shape.0
      → MatchResult (behind_proxies placed sources own) (IsFieldKept table root before placed) (IsBlamed table root)
  behind_kept before placed [] own sound keeps node all reached = record {
    sound = sound;
    keeps = keeps;
    node = record {
      outline = node.outline;
      here = node.here;
      shape = node.shape;
      proxied = λ some. absurd (some (zip_nil (IsNodeOf own.walk.nodes) (field_sources placed.field) all));
    };
  }
  behind_kept before placed (source ∷ sources) own sound keeps node all reached =
      let outline : Outline =
      record {
        shape = placed.field.shape;
        role = Role.FieldProxy placed.meant;
        sources = source ∷ sources;
        children = [];
        converts = false;
      } in
      let P : ShapeId → Type 0 = λ id. IsBegun own.walk.marks id.0 in
      let kept : IsKept table root own.walk placed.field.shape (with_node own.walk outline) =
      put_kept table root own.walk outline (λ (same : Role.FieldProxy placed.meant ≡ Role.Own). absurd (cc)) sound
      (subst P node.shape (sound.begun own.node.0 node.outline node.here)) (All-nil (IsThere own.walk.nodes))
      (nodes_there own.walk.nodes (source ∷ sources) (field_sources placed.field) all) reached in
      record {
        sound = kept.sound;
        keeps = keeps_twice before own.walk (with_node own.walk outline).walk keeps kept.keeps;
        node = record {
          outline = outline;
          here = slice_get_last own.walk.nodes outline;
          shape = refl;
          proxied =
              λ some. (
                refl,
                nodes_stay own.walk.nodes (own.walk.nodes ++ outline ∷ []) (added_stays own.walk.nodes outline)
                    (source ∷ sources) (field_sources placed.field) all,
              );
        };
      }

  field_kept : (walk : Walk) (placed : Placed) → IsSound table root walk → unseen_in walk.marks < depth
      → IsFieldReached table root placed.field
      → MatchResult (field_built builds walk placed) (IsFieldKept table root walk placed) (IsBlamed table root)
  unfolding field_built
  field_kept walk placed sound few reached =
      let Sources : MadeAll → Type 0 = λ all. AreKept table root walk all (AreNodesOf (field_sources placed.field)) in
      match_then Sources (IsFieldKept table root walk placed) (IsBlamed table root)
      (each_built builds (none_yet walk) (field_sources placed.field)) _
      (each_kept (none_yet walk) [] (field_sources placed.field) sound few reached.sources tt)
      (λ sources are.
      match_then (IsKept table root sources.walk placed.field.shape) (IsFieldKept table root walk placed) (IsBlamed table root)
      (builds sources.walk placed.field.shape) _
      (well.each sources.walk placed.field.shape are.sound (omega (arith, few, are.keeps.unseen)) reached.shape)
      (λ own kept.
      behind_kept walk placed sources.nodes own kept.sound (keeps_twice walk sources.walk own.walk are.keeps kept.keeps)
      kept.node
      (nodes_stay sources.walk.nodes own.walk.nodes kept.keeps.nodes sources.nodes (field_sources placed.field) are.nodes)
      reached.shape))

  pub fields_kept : (made : MadeAll) (fields more : List Placed) → IsSound table root made.walk
      → unseen_in made.walk.marks < depth → All (λ (placed : Placed). IsFieldReached table root placed.field) more
      → AllZip (IsFieldNode made.walk.nodes) made.nodes fields
      → MatchResult (fields_built builds made more) (λ all. AreKept table root made.walk all (AreFieldNodes (fields ++ more)))
      (IsBlamed table root)
  fields_kept made fields [] sound few reached so_far =
      let P : List Placed → Type 0 = λ l. AllZip (IsFieldNode made.walk.nodes) made.nodes l in
      record { sound = sound; keeps = keeps_itself made.walk; nodes = subst P (sym (append-nil fields)) so_far }
  fields_kept made fields (placed ∷ more) sound few reached so_far =
      let Before : Made → Type 0 = IsFieldKept table root made.walk placed in
      let Whole : MadeAll → Type 0 = λ all. AreKept table root made.walk all (AreFieldNodes (fields ++ placed ∷ more)) in
      let Led : Placed → Type 0 = λ p. IsFieldReached table root p.field in
      match_then Before Whole (IsBlamed table root) (field_built builds made.walk placed)
      (λ one. fields_built builds (with_one made one) more)
      (field_kept made.walk placed sound few (All-head Led placed more reached))
      (λ one kept.
      let Rest : MadeAll → Type 0 = λ all. AreKept table root one.walk all (AreFieldNodes ((fields ++ placed ∷ []) ++ more)) in
      match_weaker Rest Whole (IsBlamed table root)
      (λ all are.
      let P : List Placed → Type 0 = λ l. AllZip (IsFieldNode all.walk.nodes) all.nodes l in
      record {
        sound = are.sound;
        keeps = keeps_twice made.walk one.walk all.walk kept.keeps are.keeps;
        nodes = subst P (append_assoc fields (placed ∷ []) more) are.nodes;
      })
      (fields_built builds (with_one made one) more)
      (fields_kept (with_one made one) (fields ++ placed ∷ []) more kept.sound (omega (arith, few, kept.keeps.unseen))
      (All-tail Led placed more reached)
      (zip_push (IsFieldNode one.walk.nodes) made.nodes fields one.node placed
      (fields_stay made.walk.nodes one.walk.nodes kept.keeps.nodes made.nodes fields so_far) kept.node)))

  -- children

  pub children_kept : (walk : Walk) (id : ShapeId) (def : Def) (shape : Shape) → IsSound table root walk
      → unseen_in walk.marks < depth → All (IsFieldReached table root) (fields_of def)
      → AreReached table root (children_by def shape)
      → MatchResult (children_built builds walk id def shape)
      (λ all. AreKept table root walk all (λ nodes listed. AreChildrenBy nodes id shape def listed))
      (IsBlamed table root)
  unfolding children_built
  children_kept walk id (Def.Struct struct) shape sound few fields children =
      fields_kept (none_yet walk) [] (fields_from id None 0 struct.fields) sound few
      (fields_all (IsFieldReached table root) id None 0 struct.fields fields) tt
  children_kept walk id (Def.Enum enumeration) shape sound few fields children =
      fields_kept (none_yet walk) [] (variant_fields_from id 0 enumeration.variants) sound few
      (variant_fields_all (IsFieldReached table root) id 0 enumeration.variants fields) tt
  children_kept walk id def shape sound few fields children =
      each_kept (none_yet walk) [] (children_by def shape) sound few children tt
