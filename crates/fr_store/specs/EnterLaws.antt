-- Laws of a place that is just entered, for proofs.
use Rattle.std.proofs.Common.{◌≡◌, Bool, true, false, refl}
use Rattle.std.specs.Prelude.{if◌then◌else◌}
use Rattle.fr_store.specs.Below.{Def, IsClosed, Plot, body_in, entered, entered_body, entered_plot, fresh, fresh_body, is_empty_struct, no_vals, product, tree_in, whole, whole_body, whole_plot}

-- what lies in its slot
abbrev pub fresh_plot : Def → Plot
fresh_plot def = if is_empty_struct def then whole_plot (product no_vals) else entered_plot

pub fresh_same : (def : Def) → body_in (fresh_plot def) ≡ fresh_body def
fresh_same def = go (is_empty_struct def)
  where
    go : (b : Bool) → body_in (if b then whole_plot (product no_vals) else entered_plot)
        ≡ (if b then whole_body (product no_vals) else entered_body)
    go true = refl
    go false = refl

pub fresh_tree : (def : Def) → tree_in (fresh_plot def) ≡ fresh def
fresh_tree def = go (is_empty_struct def)
  where
    go : (b : Bool) → tree_in (if b then whole_plot (product no_vals) else entered_plot)
        ≡ (if b then whole (product no_vals) else entered)
    go true = refl
    go false = refl

pub fresh_closed : (def : Def) → IsClosed (body_in (fresh_plot def))
fresh_closed def = go (is_empty_struct def)
  where
    go : (b : Bool) → IsClosed (body_in (if b then whole_plot (product no_vals) else entered_plot))
    go true = tt
    go false = tt
