-- Entering a child: the place may be begun, is begun around it, and the child's node is the plan's.
use Rattle.std.proofs.Common.{◌≡◌, ℕ, zero, suc, ◌<◌, true, false, List, [], ◌∷◌, length, Option, Some, None, nat_lt, nat_le, if◌then◌else◌, option_map, unwrap_or, refl, sym, ◌∙◌, ap, subst, arith}
use Rattle.fr_moves.specs.Common.{Def, Field, HasChild, IsFullAs, IsOfShape, Kid, Leads, MayOpen, Mode, NodeId, Operation, Place, Plan, Plot, Suits, Table, Tracker, Tree, TypePlanNode, Val, Vals, as_fields, at, begun, begun_plot, body_in, change_at, child_node, child_tree, count_trees, def_of, entered_plot, field_refusal, fits, holes, is_begun_conversion, is_some, no_vals, node_along, opened_as, opened_value, option_or, parts_as, selected, shape_of, tree_in, tree_nth, tree_of, trees_in, unit, whole, whole_plot}
use Rattle.fr_shape.specs.declared.shape.StructDef.{StructDef}
use Rattle.fr_shape.specs.Fits.{fields_fit, count_vals}
use Rattle.fr_shape.specs.Val.{product, first}
use Rattle.fr_model.specs.Places.{array_limit}
use Rattle.fr_model.specs.Trackers.{is_conversion}
use Rattle.fr_model.specs.Tree.{wholes}
use Rattle.fr_store.specs.Ways.{kid_below, node_below}
use Rattle.fr_store.specs.WayLaws.{tree_of_below}
use Rattle.fr_values.proofs.MadeDynamic.{settled_plain}
use Rattle.fr_moves.specs.FitLaws.{both_true, fits_apart}
use Rattle.fr_moves.specs.TrackerLaws.{struct_tracker, begun_as, over_so}
use Rattle.fr_moves.specs.TreeLaws.{nth_changed, nth_leads}

-- What may be begun.

both_none : (a b : Option Operation) (x : Operation) → option_or a (option_or b (Some x)) ≡ None → ⊥
both_none (Some o) b x e = cc
both_none None (Some o) x e = cc
both_none None None x e = cc

count_fields : (table : Table) (fields : List Field) (vs : Vals) → fields_fit table fields vs ≡ true
    → count_vals vs ≡ length fields
count_fields table [] no_vals h = refl
count_fields table [] (first v vs) h = cc
count_fields table (field ∷ fields) no_vals h = cc
count_fields table (field ∷ fields) (first v vs) h =
    ap suc (count_fields table fields vs (both_true (fits table field.shape.0 v) (fields_fit table fields vs) h).1)

-- a whole struct has as many parts as fields
record HasParts (tracker : Tracker) (v : Val) (count : ℕ) : Type 0 where
  parts : Vals
  are : parts_as tracker v ≡ Some parts
  counts : count_vals parts ≡ count

struct_parts : (table : Table) (s : ℕ) (struct : StructDef) → def_of table s ≡ Def.Struct struct → (v : Val)
    → fits table s v ≡ true → HasParts (as_fields None) v (length struct.fields)
struct_parts table s struct is (product vs) h = record {
  parts = vs;
  are = refl;
  counts = count_fields table struct.fields vs (rw (settled_plain table s (Def.Struct struct) is (λ other. cc)) at h);
}
struct_parts table s struct is unit h = cc
struct_parts table s struct is _ h =
    let no = rw (settled_plain table s (Def.Struct struct) is (λ other. cc)) at h in
    cc

whole_parts : (table : Table) (s i : ℕ) (v : Val) (tracker : Tracker) (count : ℕ) → is_conversion tracker ≡ false
    → IsFullAs (def_of table s) tracker count → fits table s v ≡ true → field_refusal (def_of table s) (whole v) i ≡ None
    → HasParts tracker v count
whole_parts table s i v tracker count plain full fit may = go (def_of table s) refl full may
  where
    go : (def : Def) → def_of table s ≡ def → IsFullAs def tracker count → field_refusal def (whole v) i ≡ None → HasParts tracker v count
    go (Def.Struct struct) e b none =
        subst (λ (n : ℕ). HasParts tracker v n) (sym (struct_tracker struct tracker count plain b).1)
        (subst (λ (f : Tracker). HasParts f v (length struct.fields)) (sym (struct_tracker struct tracker count plain b).0)
        (struct_parts table s struct e v fit))
    go (Def.Array t n) e b none =
        absurd (both_none (if nat_lt i n then None else Some Operation.ArrayIndexOutOfBounds)
        (if nat_le n array_limit then None else Some Operation.ArrayTooLarge) Operation.ElementOfWholeArray none)
    go _ e b none = cc

pub count_holes : (n : ℕ) → count_trees (holes n) ≡ n
count_holes zero = refl
count_holes (suc n) = ap suc (count_holes n)

count_wholes : (vs : Vals) → count_trees (wholes vs) ≡ count_vals vs
count_wholes no_vals = refl
count_wholes (first v vs) = ap suc (count_wholes vs)

pub may_open : (table : Table) (s i : ℕ) (tracker : Tracker) (count : ℕ) (plot : Plot) → is_conversion tracker ≡ false
    → IsFullAs (def_of table s) tracker count → Suits table s (tree_in plot) → field_refusal (def_of table s) (tree_in plot) i ≡ None → MayOpen tracker (body_in plot)
may_open table s i tracker count (whole_plot v) plain full suits may =
    let parts = whole_parts table s i v tracker count plain full suits may in
    (ap is_some parts.are, fits_apart table s v suits)
may_open table s i tracker count _ plain full suits may = tt

pub has_child : (table : Table) (s i : ℕ) (tracker : Tracker) (count : ℕ) (plot : Plot) → is_conversion tracker ≡ false
    → IsFullAs (def_of table s) tracker count → ((k : ℕ) → tracker ≡ as_fields (Some k) → selected (tree_in plot) ≡ Some k)
    → is_begun_conversion (tree_in plot) ≡ false → i < count → Suits table s (tree_in plot)
    → field_refusal (def_of table s) (tree_in plot) i ≡ None → HasChild tracker i (opened_as tracker count (tree_in plot))
has_child table s i tracker count entered_plot plain full variant apart below suits may = (refl, omega (arith, count_holes count))
has_child table s i tracker count (begun_plot made kids) plain full variant apart below suits may =
    let same = begun_as (def_of table s) made (trees_in kids) tracker count i plain full variant apart suits.0.0 may in
    (sym same.0, omega (arith, same.1))
has_child table s i tracker count (whole_plot v) plain full variant apart below suits may =
    let parts = whole_parts table s i v tracker count plain full suits may in
    subst (λ (found : Option Vals). HasChild tracker i (opened_value tracker v found)) (sym parts.are)
    (over_so (def_of table s) (whole v) tracker count i plain full may v, omega (arith, count_wholes parts.parts, parts.counts))

-- The plan's node at a place, by the tree.

abbrev node_by : Plan → NodeId → ℕ → Tree → NodeId
node_by plan node i (begun tracker ts) = child_node plan node tracker i
node_by plan node i _ = node

node_in_tree : Plan → NodeId → Place → Tree → NodeId
node_in_tree plan node [] t = node
node_in_tree plan node (i ∷ place) t = node_in_tree plan (node_by plan node i t) place (child_tree i t)

by_tree : (plan : Plan) (node : NodeId) (i : ℕ) (k : Kid) → node_below plan node i k ≡ node_by plan node i (tree_of k)
by_tree plan node i (at slot stored entered_plot) = refl
by_tree plan node i (at slot stored _) = refl
by_tree plan node i _ = refl

along_tree : (plan : Plan) (node : NodeId) (place : Place) (k : Kid)
    → node_along plan node place k ≡ node_in_tree plan node place (tree_of k)
unfolding node_in_tree
along_tree plan node [] k = refl
along_tree plan node (i ∷ place) k =
    ap (λ (n : NodeId). node_along plan n place (kid_below i k)) (by_tree plan node i k)
    ∙ along_tree plan (node_by plan node i (tree_of k)) place (kid_below i k)
    ∙ ap (node_in_tree plan (node_by plan node i (tree_of k)) place) (tree_of_below i k)

-- what is put at the place itself doesn't matter
same_node : (mode : Mode) (plan : Plan) (node : NodeId) (place : Place) (change : Tree → Tree) (t : Tree) → Leads mode place t
    → node_in_tree plan node place (change_at place change t) ≡ node_in_tree plan node place t
unfolding node_in_tree
same_node mode plan node [] change t leads = refl
same_node mode plan node (i ∷ place) change (begun tracker ts) leads =
    ap (node_in_tree plan (child_node plan node tracker i) place)
    (nth_changed mode i (λ child. Leads mode place child) (λ child. change_at place change child) ts leads)
    ∙ same_node mode plan (child_node plan node tracker i) place change (tree_nth i ts)
    (nth_leads mode i (λ child. Leads mode place child) ts leads)
same_node mode plan node (i ∷ place) change _ leads = absurd leads

-- the node stays where something else is put at the place
pub node_stays : (mode : Mode) (plan : Plan) (node : NodeId) (place now : Place) (change : Tree → Tree) (before after : Kid)
    → now ≡ place → Leads mode place (tree_of before) → tree_of after ≡ change_at place change (tree_of before)
    → node_along plan node now after ≡ node_along plan node place before
node_stays mode plan node place now change before after same leads is =
    ap (λ (p : Place). node_along plan node p after) same ∙ along_tree plan node place after
    ∙ ap (node_in_tree plan node place) is ∙ same_node mode plan node place change (tree_of before) leads
    ∙ sym (along_tree plan node place before)

-- The definition of a place that is built by a node.
pub def_entered : (table : Table) (plan : Plan) (node : NodeId) (s : ℕ) → IsOfShape plan node s
    → def_of table (shape_of plan node) ≡ def_of table s
def_entered table plan node s shaped =
    ap (λ (found : Option TypePlanNode). def_of table
    (unwrap_or (option_map (λ (n : TypePlanNode). n.shape) found) (record { 0 = 0 })).0) shaped.there
    ∙ ap (def_of table) shaped.shape
