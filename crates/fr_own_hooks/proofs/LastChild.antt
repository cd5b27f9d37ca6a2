-- The last child of a product, and the others.
use Rattle.std.proofs.Common.{◌≡◌, ℕ, ◌+◌, true, false, List, [], ◌∷◌, ◌++◌, Option, Some, refl, ap, ◌∙◌, arith}
use Rattle.std.specs.Option.{option_or}
use Rattle.fr_shape.specs.declared.value.Value.{Value}
use Rattle.fr_shape.specs.Fits.{fits}
use Rattle.fr_shape.specs.Hooks.{gives, unsupported}
use Rattle.fr_shape.specs.Look.{Table}
use Rattle.fr_shape.specs.Released.{Conserved, Room, RoseBy}
use Rattle.fr_shape.specs.TokenLaws.{both, Room_fewer, Room_risen, Room_same}
use Rattle.fr_shape.specs.Tokens.{occurs, vals_occur}
use Rattle.fr_shape.specs.Val.{Val, product}
use Rattle.fr_shape.specs.View.{view, vals_view}
use Rattle.fr_own_hooks.specs.OwnHooks.{child_if_it_fits, last_child, last_in}

-- the last of some children is the one behind the others
last_behind : (others : List Value) (last : Value) → last_in (vals_view (others ++ last ∷ [])) ≡ Some (view last)
last_behind [] last = refl
last_behind (x ∷ others) last = ap (λ (found : Option Val). option_or found (Some (view x))) (last_behind others last)

-- and they hold what it holds and what the others do
tokens_behind : (others : List Value) (last : Value) (t : ℕ)
    → vals_occur (vals_view (others ++ last ∷ [])) t ≡ vals_occur (vals_view others) t + occurs (view last) t
tokens_behind [] last t = omega arith
tokens_behind (x ∷ others) last t = omega (arith, tokens_behind others last t)

given : (table : Table) (target : ℕ) (v : Val) → fits table target v ≡ true → child_if_it_fits table target (Some v) ≡ gives v
given table target v e = rw e refl

not_given : (table : Table) (target : ℕ) (v : Val) → fits table target v ≡ false → child_if_it_fits table target (Some v) ≡ unsupported
not_given table target v e = rw e refl

module _ (source : Val) (others : List Value) (last : Value) (is : source ≡ product (vals_view (others ++ last ∷ []))) where
  source_holds : (t : ℕ) → occurs source t ≡ vals_occur (vals_view others) t + occurs (view last) t
  source_holds t = ap (λ (v : Val). occurs v t) is ∙ tokens_behind others last t

  meant : (table : Table) (target : ℕ) → last_child table target source ≡ child_if_it_fits table target (Some (view last))
  meant table target =
      ap (λ (v : Val). last_child table target v) is ∙ ap (child_if_it_fits table target) (last_behind others last)

  pub meant_where_it_fits : (table : Table) (target : ℕ) → fits table target (view last) ≡ true → last_child table target source ≡ gives (view last)
  meant_where_it_fits table target e = meant table target ∙ given table target (view last) e

  pub meant_elsewhere : (table : Table) (target : ℕ) → fits table target (view last) ≡ false → last_child table target source ≡ unsupported
  meant_elsewhere table target e = meant table target ∙ not_given table target (view last) e

  -- where there is room for the product, there is for the others
  pub others_have_room : (ledger : List ℕ) → Room (occurs source) ledger → Room (vals_occur (vals_view others)) ledger
  others_have_room ledger =
      Room_fewer (vals_occur (vals_view others)) (occurs source) ledger (λ t. omega (arith, source_holds t))

  module _ (before after : List ℕ) (rose : RoseBy (vals_occur (vals_view others)) before after) where
    -- and for the last child once they are released
    pub last_has_room : Room (occurs source) before → Room (occurs (view last)) after
    last_has_room room =
        Room_risen (vals_occur (vals_view others)) (occurs (view last)) before after
        (Room_same (occurs source) (both (vals_occur (vals_view others)) (occurs (view last))) before source_holds room) rose

    pub last_is_left : Conserved (occurs source) before (occurs (view last)) after
    last_is_left = record {
      same_length = rose.same_length;
      kept_or_released = λ t. omega (arith, rose.each t, source_holds t);
      none_falls = λ t. omega (arith, rose.each t);
    }

    -- all is released with the last child
    pub all_rose : (last_after : List ℕ) → RoseBy (occurs (view last)) after last_after → RoseBy (occurs source) before last_after
    all_rose last_after more = record {
      same_length = more.same_length ∙ rose.same_length;
      each = λ t. omega (arith, rose.each t, more.each t, source_holds t);
    }
