-- The children of a whole map: the keys and values of its entries, in turn.
use Rattle.std.proofs.Common.{◌≡◌, ℕ, ◌+◌, List, [], ◌∷◌, length, refl, subst, arith}
use Rattle.fr_frame.specs.Common.{Cell, Entries, IfSome, IsSome, Val, Value, cells_of_vals, entries_of, entries_view, entry, in_turn, map_of, no_entries}
use Rattle.fr_model.specs.Places.{base_in, count_entries}

abbrev pub entry_cells : List (Value × Value) → List Cell
entry_cells es = cells_of_vals (in_turn (entries_view es))

pub entry_count : (es : List (Value × Value)) → length es + length es ≡ length (entry_cells es)
entry_count [] = refl
entry_count (e ∷ es) = omega (arith, entry_count es)

pub entries_counted : (v : Val) (es : List (Value × Value)) (count : ℕ) → v ≡ map_of (entries_view es)
    → IfSome (entries_of v) (λ vs. count + count ≡ length (cells_of_vals vs)) → count ≡ length es
entries_counted v es count is counted =
    let twice : count + count ≡ length (entry_cells es)
    = subst (λ (w : Val). IfSome (entries_of w) (λ vs. count + count ≡ length (cells_of_vals vs))) is counted in
    omega (arith, twice, entry_count es)

turns_counted : (es : Entries) → length (cells_of_vals (in_turn es)) ≡ count_entries es + count_entries es
turns_counted no_entries = refl
turns_counted (entry key held es) = omega (arith, turns_counted es)

-- as many as the entries of the value, which are its base
pub base_counted : (v : Val) (count : ℕ) → IsSome (entries_of v) → IfSome (entries_of v) (λ vs. count + count ≡ length (cells_of_vals vs))
    → count ≡ base_in v
base_counted (map_of es) count has counted = omega (arith, turns_counted es, counted)
base_counted _ count has counted = absurd (cc)
