-- A place by itself, as it is completed: what it takes memory for, and how many children it may have.
use Rattle.std.proofs.Common.{◌≡◌, ℕ, Bool, true, false, ◌||◌, List, [], ◌∷◌, length, Option, Some, None, inl, inr, refl, sym, ◌∙◌, ap, subst}
use Rattle.std.specs.Prelude.{is_none}
use Rattle.fr_moves.specs.Common.{Body, Cell, ItemsKind, KeepsTracker, MayHave, MayHaveIts, Meanings, ReflectErrorKind, Rules, Table, Tracker, Val, Vals, WhyNot, as_content, as_items, begun, begun_body, entered_body, given, needs_none_by, own_tree, takes_memory, takes_no_memory, trees_of, whole_body}
use Rattle.fr_model.specs.Places.{one_more}
use Rattle.fr_frame.specs.Bodies.{boxes, gathers}
use Rattle.fr_values.specs.Cells.{values_of}
use Rattle.fr_frame.specs.Completing.{takes_template, WhyNot as WhyNotAt}
pub use Rattle.fr_store.specs.TurnedLaws.{count_of}
use Rattle.fr_moves.specs.WithoutMemory.{has_no_hole}

-- What takes a template has a hole.

more_none : (v : Val) (values : Option Vals) → is_none (one_more (Some v) values) ≡ true → is_none values ≡ true
more_none v (Some vs) h = cc
more_none v None h = refl

has_hole : (cells : List Cell) → is_none (values_of cells) ≡ true → has_no_hole (trees_of cells) ≡ false
has_hole [] h = cc
has_hole (given v ∷ cells) h = has_hole cells (more_none v (values_of cells) h)
has_hole _ h = refl

takes : (body : Body) → takes_template body ≡ true → takes_no_memory (own_tree body) ≡ false
takes entered_body h = refl
takes (whole_body v) h = cc
takes (begun_body tracker cells) h = go (boxes tracker || gathers tracker) refl
  where
    go : (b : Bool) → (boxes tracker || gathers tracker) ≡ b → takes_no_memory (begun tracker (trees_of cells)) ≡ false
    go true e = rw e refl
    go false e = rw e (has_hole cells h)

-- What becomes of a place that keeps its tracker.

-- where it took no memory to complete it, it takes none now
pub unboxed : (rules : Rules) (was now : Body) → KeepsTracker was now → needs_none_by rules (own_tree was) ≡ true
    → takes_memory now ≡ false
unboxed Rules.Deferred was now keeps none = cc
unboxed Rules.Strict entered_body now keeps none = keeps
unboxed Rules.Strict (whole_body v) now keeps none = ap takes_memory keeps
unboxed Rules.Strict (begun_body tracker cells) (begun_body other others) keeps none =
    ap (λ (f : Tracker). boxes f || gathers f) keeps.0 ∙ go (boxes tracker || gathers tracker) refl
  where
    go : (b : Bool) → (boxes tracker || gathers tracker) ≡ b → (boxes tracker || gathers tracker) ≡ false
    go false e = e
    go true e = let no : false ≡ true = rw e at none in cc
unboxed Rules.Strict (begun_body tracker cells) _ keeps none = absurd keeps

-- one that takes no box may have any number of children
many_may : (tracker : Tracker) (count : ℕ) → (boxes tracker || gathers tracker) ≡ false → MayHave tracker count
many_may (as_content kind) count h = cc
many_may (as_items ItemsKind.Slice) count h = cc
many_may (as_items ItemsKind.ClosedSlice) count h = cc
many_may _ count h = tt

-- so it is of one that keeps its tracker
pub keeps_may : (was now : Body) → KeepsTracker was now → MayHaveIts was → MayHaveIts now
keeps_may entered_body (begun_body tracker cells) keeps may = many_may tracker (length cells) keeps
keeps_may entered_body _ keeps may = tt
keeps_may (whole_body v) now keeps may = subst MayHaveIts (sym keeps) tt
keeps_may (begun_body tracker cells) (begun_body other others) keeps may =
    subst (λ (f : Tracker). MayHave f (length others)) (sym keeps.0) (subst (λ (n : ℕ). MayHave tracker n) (sym keeps.1) may)
keeps_may (begun_body tracker cells) _ keeps may = absurd keeps

-- why it makes no value, told by what was put there
pub why_of : (means : Meanings) (table : Table) (s : ℕ) (body : Body) (kind : ReflectErrorKind) → WhyNotAt means table s body kind
    → WhyNot means table s (own_tree body) kind
why_of means table s body kind (inl lacking) = inl (record { incomplete = lacking.incomplete; lacks = lacking.lacks })
why_of means table s body kind (inr wants) =
    inr
    (record {
      memory = wants.memory;
      needed = elim wants.needed [
        | inl made ↦ inl (made.0, takes body made.1)
        | inr said ↦ inr said
      ];
    })
