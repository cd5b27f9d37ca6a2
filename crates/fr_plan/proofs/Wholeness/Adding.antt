-- A walk stays sound as a node is added, as a shape is begun, and as it is finished.
use Rattle.std.proofs.Common.{◌≡◌, ◌≢◌, ◌∙◌, ap, sym, refl, subst, ℕ, suc, zero, ◌+◌, ◌⊎◌, inl, inr, false, List, [], ◌∷◌, ◌++◌, length, set, slice_get, arith, Some}
use Rattle.std.specs.List.{All}
use Rattle.std.proofs.lemmas.List.{length-set}
use Rattle.std.proofs.lemmas.List.Elements.{All-nil}
use Rattle.std.proofs.lemmas.Option.{same_Some}
use Rattle.fr_shape.specs.declared.shape.ShapeId.{ShapeId}
use Rattle.fr_shape.specs.Look.{Table}
use Rattle.fr_shape.specs.Plannable.{Reached}
use Rattle.fr_plan.specs.declared.outlines.Outline.{Outline}
use Rattle.fr_plan.specs.declared.outlines.Role.{Role}
use Rattle.fr_plan.specs.declared.outlines.Mark.{Mark}
use Rattle.fr_plan.specs.declared.outlines.Walk.{Walk}
use Rattle.fr_plan.specs.Build.{Made, with_node, with_shape_mark, back_reference}
use Rattle.fr_plan.proofs.Wholeness.Marks.{slice_get_stays, slice_get_last, slice_get_either, slice_get-set_same, slice_get-set_other, is_unseen, IsBegun}
use Rattle.fr_plan.proofs.Wholeness.Sound.{IsThere, IsRight, IsSound, Stays, IsKept, own_stays, right_stays}

pub same_or_other : (i j : ℕ) → (j ≡ i) ⊎ (j ≢ i)
same_or_other zero zero = inl refl
same_or_other zero (suc j) = inr (λ same. absurd (omega (arith, same)))
same_or_other (suc i) zero = inr (λ same. absurd (omega (arith, same)))
same_or_other (suc i) (suc j) =
    elim (same_or_other i j) [ inl same ↦ inl (ap suc same) | inr other ↦ inr (λ same. other (omega (arith, same))) ]

pub same_id : (id other : ShapeId) → other.0 ≡ id.0 → id ≡ other
same_id id other same = ap (λ (n : ℕ). record { 0 = n }) (sym same)

-- a mark that isn't Unseen takes no shape's begin away
pub begun_set : (marks : List Mark) (i : ℕ) (mark : Mark) → is_unseen mark ≡ false → (j : ℕ) → IsBegun marks j
    → IsBegun (set marks i mark) j
begun_set [] i mark seen j begun = begun
begun_set (m ∷ marks) zero mark seen zero begun = record { mark = mark; here = refl; seen = seen }
begun_set (m ∷ marks) zero mark seen (suc j) begun = record { mark = begun.mark; here = begun.here; seen = begun.seen }
begun_set (m ∷ marks) (suc i) mark seen zero begun = record { mark = begun.mark; here = begun.here; seen = begun.seen }
begun_set (m ∷ marks) (suc i) mark seen (suc j) begun =
    let rest : IsBegun (set marks i mark) j =
    begun_set marks i mark seen j (record { mark = begun.mark; here = begun.here; seen = begun.seen }) in
    record { mark = rest.mark; here = rest.here; seen = rest.seen }

-- a mark that was written is there
pub written : (marks : List Mark) (i : ℕ) (mark : Mark) → IsBegun marks i → slice_get (set marks i mark) i ≡ Some mark
written marks i mark begun = slice_get-set_same marks i mark begun.mark begun.here

-- whoever is being built after another mark was written was so before
pub building_before : (marks : List Mark) (i : ℕ) (mark : Mark) → mark ≢ Mark.Building → IsBegun marks i → (j : ℕ)
    → slice_get (set marks i mark) j ≡ Some Mark.Building → (j ≢ i) × (slice_get marks j ≡ Some Mark.Building)
building_before marks i mark other begun j at =
    elim (same_or_other i j) [
      | inl same ↦
          absurd (other (same_Some mark Mark.Building
          (sym (written marks i mark begun) ∙ ap (slice_get (set marks i mark)) (sym same) ∙ at)))
      | inr apart ↦ (apart, sym (slice_get-set_other marks i j mark apart) ∙ at)
    ]

pub added_stays : (nodes : List Outline) (outline : Outline) → Stays nodes (nodes ++ outline ∷ [])
added_stays nodes outline = record { each = λ i there at. slice_get_stays nodes (outline ∷ []) i there at }

pub begun_added : (nodes : List Outline) (outline : Outline) (marks : List Mark)
    → ((i : ℕ) (there : Outline) → slice_get nodes i ≡ Some there → IsBegun marks there.shape.0)
    → IsBegun marks outline.shape.0 → (i : ℕ) (there : Outline) → slice_get (nodes ++ outline ∷ []) i ≡ Some there
    → IsBegun marks there.shape.0
begun_added nodes outline marks before begun i there at =
    let P : Outline → Type 0 = λ o. IsBegun marks o.shape.0 in
    elim (slice_get_either nodes outline i there at) [
      | inl old ↦ before i there old
      | inr same ↦ subst P same begun
    ]

module _ (table : Table) (root : ShapeId) where
  pub right_added : (nodes : List Outline) (outline : Outline)
      → ((i : ℕ) (there : Outline) → slice_get nodes i ≡ Some there → IsRight table root nodes there)
      → IsRight table root nodes outline → (i : ℕ) (there : Outline) → slice_get (nodes ++ outline ∷ []) i ≡ Some there
      → IsRight table root (nodes ++ outline ∷ []) there
  right_added nodes outline before right i there at =
      let P : Outline → Type 0 = λ o. IsRight table root (nodes ++ outline ∷ []) o in
      elim (slice_get_either nodes outline i there at) [
        | inl old ↦ right_stays nodes (nodes ++ outline ∷ []) (added_stays nodes outline) table root there (before i there old)
        | inr same ↦
            subst P same
            (right_stays nodes (nodes ++ outline ∷ []) (added_stays nodes outline) table root outline right)
      ]

  -- a node that refers back is put behind the others
  pub put_kept : (walk : Walk) (outline : Outline) → outline.role ≢ Role.Own → IsSound table root walk
      → IsBegun walk.marks outline.shape.0 → All (IsThere walk.nodes) outline.children
      → All (IsThere walk.nodes) outline.sources → Reached table root.0 outline.shape.0
      → IsKept table root walk outline.shape (with_node walk outline)
  put_kept walk outline other sound begun children sources reached =
      let right : IsRight table root walk.nodes outline =
      record { linked = λ own. absurd (other own); children = children; sources = sources; reached = reached } in
      record {
        sound = record {
          marks = sound.marks;
          done =
              λ id node mark.
              own_stays walk.nodes (walk.nodes ++ outline ∷ []) (added_stays walk.nodes outline) node id (sound.done id node mark);
          begun = begun_added walk.nodes outline walk.marks sound.begun begun;
          nodes = right_added walk.nodes outline sound.nodes right;
        };
        keeps = record {
          nodes = added_stays walk.nodes outline;
          building = λ i at. at;
          begun = λ i there. there;
          unseen = omega arith;
        };
        node = record { outline = outline; here = slice_get_last walk.nodes outline; shape = refl };
      }

  pub referred : (walk : Walk) (id : ShapeId) → IsSound table root walk → IsBegun walk.marks id.0 → Reached table root.0 id.0
      → IsKept table root walk id (with_node walk (back_reference id))
  referred walk id sound begun reached =
      put_kept walk (back_reference id) (λ (own : Role.BackRef ≡ Role.Own). absurd (cc)) sound begun
      (All-nil (IsThere walk.nodes)) (All-nil (IsThere walk.nodes)) reached

  -- an unseen shape is begun
  pub begun_sound : (walk : Walk) (id : ShapeId) → IsSound table root walk → slice_get walk.marks id.0 ≡ Some Mark.Unseen
      → IsSound table root (with_shape_mark walk id Mark.Building)
  begun_sound walk id sound unseen = record {
    marks = length-set walk.marks id.0 Mark.Building ∙ sound.marks;
    done =
        λ other node mark.
        elim (same_or_other id.0 other.0) [
          | inl same ↦
              let is : Mark.Building ≡ Mark.Done node =
              same_Some Mark.Building (Mark.Done node)
              (sym (slice_get-set_same walk.marks id.0 Mark.Building Mark.Unseen unseen)
              ∙ ap (slice_get (set walk.marks id.0 Mark.Building)) (sym same) ∙ mark) in
              absurd (cc)
          | inr apart ↦ sound.done other node (sym (slice_get-set_other walk.marks id.0 other.0 Mark.Building apart) ∙ mark)
        ];
    begun = λ i there at. begun_set walk.marks id.0 Mark.Building refl there.shape.0 (sound.begun i there at);
    nodes = sound.nodes;
  }

  -- a shape is finished by its own node
  pub record IsFinished (before : Walk) (id : ShapeId) (made : Made) : Type 0 where
    pub kept : IsKept table root before id made
    pub mark : slice_get made.walk.marks id.0 ≡ Some (Mark.Done made.node)
    pub last : made.node.0 + 1 ≡ length made.walk.nodes
