-- The walk that builds nodes goes the way of the walk that looks for the first refusal, shape by shape.
use Rattle.std.proofs.Common.{◌≡◌, ◌≢◌, ◌∙◌, ap, sym, refl, subst, ℕ, ◌⊎◌, inl, inr, Bool, true, false, ◌||◌, List, [], ◌∷◌, ◌++◌, length, set, slice_get, eq-eqb, eqb-true, nat_eq, Option, Some, None, Ok, Err}
use Rattle.std.specs.List.{list_any}
use Rattle.std.proofs.lemmas.List.{length-set}
use Rattle.std.proofs.lemmas.Option.{same_Some}
use Rattle.fr_shape.specs.declared.shape.ShapeId.{ShapeId}
use Rattle.fr_shape.specs.declared.error.AllocError.{AllocError}
use Rattle.fr_shape.specs.Look.{Table}
use Rattle.fr_shape.specs.Plannable.{Walk as Visited, refused_or, unless_refused, each_in_turn}
use Rattle.fr_plan.specs.declared.outlines.Mark.{Mark}
use Rattle.fr_plan.specs.declared.outlines.Walk.{Walk}
use Rattle.fr_plan.specs.Build.{Built, Made, MadeAll, and_then, with_one, each_built}
use Rattle.fr_plan.proofs.Wholeness.Marks.{is_unseen, IsBegun, slice_get-set_same, slice_get-set_other}
use Rattle.fr_plan.proofs.Wholeness.Adding.{same_or_other, begun_set}

-- one after the other, unless there was a refusal

pub refused_twice : (visited : Visited) (go_on : List ℕ → Visited) (first then : List ℕ → Visited)
    → ((after : List ℕ) → go_on after ≡ unless_refused (first after) then)
    → unless_refused visited go_on ≡ unless_refused (unless_refused visited first) then
refused_twice visited go_on first then same = by_refused visited.refused refl
  where
    by_refused : (refused : Option AllocError) → visited.refused ≡ refused
        → refused_or refused visited go_on ≡ unless_refused (refused_or refused visited first) then
    by_refused None is = same visited.begun
    by_refused (Some error) is = sym (ap (λ (r : Option AllocError). refused_or r visited then) is)

pub turn-append : (visits : List ℕ → ℕ → Visited) (begun : List ℕ) (xs ys : List ShapeId)
    → each_in_turn visits begun (xs ++ ys)
    ≡ unless_refused (each_in_turn visits begun xs) (λ after. each_in_turn visits after ys)
turn-append visits begun [] ys = refl
turn-append visits begun (x ∷ xs) ys =
    refused_twice (visits begun x.0) (λ after. each_in_turn visits after (xs ++ ys)) (λ after. each_in_turn visits after xs)
    (λ after. each_in_turn visits after ys) (λ after. turn-append visits after xs ys)

-- the marks say which shapes were begun, and whoever was begun before still is
pub record Agrees (table : Table) (before : List Mark) (marks : List Mark) (begun : List ℕ) : Type 0 where
  pub marks_length : length marks ≡ length table
  pub unseen : (i : ℕ) → slice_get marks i ≡ Some Mark.Unseen → list_any (nat_eq i) begun ≡ false
  pub seen : (i : ℕ) → IsBegun marks i → list_any (nat_eq i) begun ≡ true
  pub kept : (i : ℕ) → IsBegun before i → IsBegun marks i

pub agrees_itself : (table : Table) (before marks : List Mark) (begun : List ℕ) → Agrees table before marks begun
    → Agrees table marks marks begun
agrees_itself table before marks begun agrees = record {
  marks_length = agrees.marks_length;
  unseen = agrees.unseen;
  seen = agrees.seen;
  kept = λ i there. there;
}

pub agrees_since : (table : Table) (first second marks : List Mark) (begun : List ℕ)
    → ((i : ℕ) → IsBegun first i → IsBegun second i) → Agrees table second marks begun → Agrees table first marks begun
agrees_since table first second marks begun kept agrees = record {
  marks_length = agrees.marks_length;
  unseen = agrees.unseen;
  seen = agrees.seen;
  kept = λ i there. agrees.kept i (kept i there);
}

-- both met the same refusal, or none
abbrev pub Meets : Table → List Mark → {X : Type 0} → (walk_of : X → Walk) → Built X → Visited → Type 0
Meets table before walk_of (Ok x) visited = (visited.refused ≡ None) × Agrees table before (walk_of x).marks visited.begun
Meets table before walk_of (Err refused) visited = visited.refused ≡ Some refused

module _ (table : Table) (first second : List Mark) (kept : (i : ℕ) → IsBegun first i → IsBegun second i)
    {X : Type 0} (walk_of : X → Walk) where
  pub meets_since : (built : Built X) (visited : Visited) → Meets table second walk_of built visited
      → Meets table first walk_of built visited
  meets_since (Ok x) visited meets = (meets.0, agrees_since table first second (walk_of x).marks visited.begun kept meets.1)
  meets_since (Err e) visited meets = meets

module _ (table : Table) (before : List Mark) {X Y : Type 0} (walk_of : X → Walk) (walk_then : Y → Walk) where
  pub meets_then : (built : Built X) (visited : Visited) (go_on : X → Built Y) (then : List ℕ → Visited)
      → Meets table before walk_of built visited
      → ((x : X) (after : List ℕ) → Agrees table before (walk_of x).marks after
      → Meets table (walk_of x).marks walk_then (go_on x) (then after))
      → Meets table before walk_then (and_then built go_on) (unless_refused visited then)
  meets_then (Ok x) visited go_on then meets more =
      let P : Visited → Type 0 = λ v. Meets table before walk_then (go_on x) v in
      subst P (sym (ap (λ (r : Option AllocError). refused_or r visited then) meets.0))
      (meets_since table before (walk_of x).marks meets.1.kept walk_then (go_on x) (then visited.begun)
      (more x visited.begun meets.1))
  meets_then (Err e) visited go_on then meets more =
      ap (λ (r : Option AllocError). (refused_or r visited then).refused) meets ∙ meets

-- calls that meet the same refusals
pub record Simulates (table : Table) (builds : Walk → ShapeId → Built Made) (visits : List ℕ → ℕ → Visited) : Type 0 where
  pub each :
      (before : List Mark) (walk : Walk) (begun : List ℕ) (id : ShapeId) → Agrees table before walk.marks begun
      → Meets table walk.marks (λ (made : Made). made.walk) (builds walk id) (visits begun id.0)

abbrev pub walk_one : Made → Walk
walk_one made = made.walk

abbrev pub walk_all : MadeAll → Walk
walk_all all = all.walk

module _ (table : Table) (builds : Walk → ShapeId → Built Made) (visits : List ℕ → ℕ → Visited)
    (simulates : Simulates table builds visits) where
  pub each_meets : (before : List Mark) (made : MadeAll) (begun : List ℕ) (ids : List ShapeId)
      → Agrees table before made.walk.marks begun
      → Meets table made.walk.marks walk_all (each_built builds made ids) (each_in_turn visits begun ids)
  each_meets before made begun [] agrees = (refl, agrees_itself table before made.walk.marks begun agrees)
  each_meets before made begun (id ∷ ids) agrees =
      meets_then table made.walk.marks walk_one walk_all (builds made.walk id) (visits begun id.0)
      (λ one. each_built builds (with_one made one) ids) (λ after. each_in_turn visits after ids)
      (simulates.each before made.walk begun id agrees)
      (λ one after agree. each_meets made.walk.marks (with_one made one) after ids agree)

-- marks

apart_test : (i j : ℕ) → (i ≢ j) → nat_eq i j ≡ false
apart_test i j apart = by_test (nat_eq i j) refl
  where
    by_test : (b : Bool) → nat_eq i j ≡ b → b ≡ false
    by_test true is = absurd (apart (eqb-true i j is))
    by_test false is = refl

-- a shape that isn't unseen is added to those that were begun
pub agrees_added : (table : Table) (before marks : List Mark) (begun : List ℕ) (id : ℕ)
    → (slice_get marks id ≡ Some Mark.Unseen → ⊥) → Agrees table before marks begun → Agrees table before marks (id ∷ begun)
agrees_added table before marks begun id met agrees = record {
  marks_length = agrees.marks_length;
  unseen =
      λ i at.
      rw (apart_test i id (λ same. met (ap (slice_get marks) (sym same) ∙ at))) (agrees.unseen i at);
  seen =
      λ i there.
      let e : list_any (nat_eq i) begun ≡ true = agrees.seen i there in
      or_true (nat_eq i id) (list_any (nat_eq i) begun) e;
  kept = agrees.kept;
}
  where
    or_true : (a b : Bool) → b ≡ true → (a || b) ≡ true
    or_true true b is = refl
    or_true false b is = is

-- an unseen shape is begun
pub agrees_begun : (table : Table) (before marks : List Mark) (begun : List ℕ) (id : ℕ)
    → slice_get marks id ≡ Some Mark.Unseen → Agrees table before marks begun
    → Agrees table marks (set marks id Mark.Building) (id ∷ begun)
agrees_begun table before marks begun id unseen agrees = record {
  marks_length = length-set marks id Mark.Building ∙ agrees.marks_length;
  unseen = λ i at. unseen_by i at (same_or_other id i);
  seen = λ i there. seen_by i there (same_or_other id i);
  kept = begun_set marks id Mark.Building refl;
}
  where
    unseen_by : (i : ℕ) → slice_get (set marks id Mark.Building) i ≡ Some Mark.Unseen → (i ≡ id) ⊎ (i ≢ id)
        → list_any (nat_eq i) (id ∷ begun) ≡ false
    unseen_by i at (inl same) =
        let is : Mark.Building ≡ Mark.Unseen =
        same_Some Mark.Building Mark.Unseen
        (sym (slice_get-set_same marks id Mark.Building Mark.Unseen unseen)
        ∙ ap (slice_get (set marks id Mark.Building)) (sym same) ∙ at) in
        absurd (cc)
    unseen_by i at (inr apart) =
        rw (apart_test i id apart) (agrees.unseen i (sym (slice_get-set_other marks id i Mark.Building apart) ∙ at))

    seen_by : (i : ℕ) → IsBegun (set marks id Mark.Building) i → (i ≡ id) ⊎ (i ≢ id)
        → list_any (nat_eq i) (id ∷ begun) ≡ true
    seen_by i there (inl same) = rw (eq-eqb i id same) refl
    seen_by i there (inr apart) =
        rw (apart_test i id apart)
        (agrees.seen i (record {
          mark = there.mark;
          here = sym (slice_get-set_other marks id i Mark.Building apart) ∙ there.here;
          seen = there.seen;
        }))

-- a shape that was begun is finished
pub agrees_finished : (table : Table) (before marks : List Mark) (begun : List ℕ) (id : ℕ) (mark : Mark)
    → is_unseen mark ≡ false → IsBegun marks id → Agrees table before marks begun
    → Agrees table before (set marks id mark) begun
agrees_finished table before marks begun id mark seen there agrees = record {
  marks_length = length-set marks id mark ∙ agrees.marks_length;
  unseen = λ i at. unseen_by i at (same_or_other id i);
  seen = λ i done. seen_by i done (same_or_other id i);
  kept = λ i was. begun_set marks id mark seen i (agrees.kept i was);
}
  where
    unseen_by : (i : ℕ) → slice_get (set marks id mark) i ≡ Some Mark.Unseen → (i ≡ id) ⊎ (i ≢ id)
        → list_any (nat_eq i) begun ≡ false
    unseen_by i at (inl same) =
        let is : mark ≡ Mark.Unseen =
        same_Some mark Mark.Unseen
        (sym (slice_get-set_same marks id mark there.mark there.here) ∙ ap (slice_get (set marks id mark)) (sym same) ∙ at) in
        let both : true ≡ false = sym (ap is_unseen is) ∙ seen in
        absurd (cc)
    unseen_by i at (inr apart) = agrees.unseen i (sym (slice_get-set_other marks id i mark apart) ∙ at)

    seen_by : (i : ℕ) → IsBegun (set marks id mark) i → (i ≡ id) ⊎ (i ≢ id) → list_any (nat_eq i) begun ≡ true
    seen_by i done (inl same) =
        let P : ℕ → Type 0 = λ n. list_any (nat_eq n) begun ≡ true in subst P (sym same) (agrees.seen id there)
    seen_by i done (inr apart) =
        agrees.seen i (record {
          mark = done.mark;
          here = sym (slice_get-set_other marks id i mark apart) ∙ done.here;
          seen = done.seen;
        })
