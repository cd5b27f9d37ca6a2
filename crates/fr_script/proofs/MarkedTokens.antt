-- Marking tokens: of a list in two parts, and in a loop over values or entries.
use Rattle.std.proofs.Common.{◌≡◌, ℕ, ◌+◌, ◌<◌, ◌&&◌, not, nat_lt, cond, Bool, true, false, List, [], ◌∷◌, ◌++◌, length, get_or, set, drop, Option, Some, None, option_and_then, refl, sym, ap, ◌∙◌}
use Rattle.std.proofs.lemmas.List.{drop_more}
use Rattle.fr_shape.specs.declared.value.Value.{Value}
use Rattle.fr_shape.specs.Tokens.{tokens, vals_tokens, entries_tokens}
use Rattle.fr_shape.specs.View.{view, vals_view, entries_view}
use Rattle.fr_script.specs.Marks.{tokens_marked}

kept : (b : Bool) (o : Option (List Bool)) (next : List Bool → Option (List Bool)) → option_and_then next (cond b o None) ≡ cond b (option_and_then next o) None
kept true o next = refl
kept false o next = refl

marked_append : (ss ts : List ℕ) (marks : List Bool) → tokens_marked (ss ++ ts) marks ≡ option_and_then (tokens_marked ts) (tokens_marked ss marks)
marked_append [] ts marks = refl
marked_append (s ∷ ss) ts marks =
    ap (λ o. cond (nat_lt s (length marks) && not (get_or marks s false)) o None) (marked_append ss ts (set marks s true))
    ∙ sym (kept (nat_lt s (length marks) && not (get_or marks s false)) (tokens_marked ss (set marks s true)) (tokens_marked ts))

-- the first part's answer is known
marked_front : (ss ts : List ℕ) (marks : List Bool) (found : Option (List Bool)) → tokens_marked ss marks ≡ found → tokens_marked (ss ++ ts) marks ≡ option_and_then (tokens_marked ts) found
marked_front ss ts marks found is = marked_append ss ts marks ∙ ap (option_and_then (tokens_marked ts)) is

from_item : {X : Type 0} (xs : List X) (i : ℕ) (x : X) → i < length xs → x ≡ get_or xs i x → drop i xs ≡ x ∷ drop (i + 1) xs
from_item xs i x h is = drop_more xs i x h ∙ ap (λ y. y ∷ drop (i + 1) xs) (sym is)

module _ (xs : List Value) (i : ℕ) (x : Value) (h : i < length xs) (is : x ≡ get_or xs i x) (marks : List Bool) where
  pub values_from : (found : Option (List Bool)) → tokens_marked (tokens (view x)) marks ≡ found
      → tokens_marked (vals_tokens (vals_view (drop i xs))) marks
      ≡ option_and_then (tokens_marked (vals_tokens (vals_view (drop (i + 1) xs)))) found
  values_from found here =
      ap (λ (ys : List Value). tokens_marked (vals_tokens (vals_view ys)) marks) (from_item xs i x h is)
      ∙ marked_front (tokens (view x)) (vals_tokens (vals_view (drop (i + 1) xs))) marks found here

module _ (es : List (Value × Value)) (i : ℕ) (e : Value × Value) (h : i < length es) (is : e ≡ get_or es i e) (marks : List Bool) where
  abbrev rest : List ℕ
  rest = entries_tokens (entries_view (drop (i + 1) es))

  pub key_from : (found : Option (List Bool)) → tokens_marked (tokens (view e.0)) marks ≡ found
      → tokens_marked (entries_tokens (entries_view (drop i es))) marks
      ≡ option_and_then (tokens_marked (tokens (view e.1) ++ entries_tokens (entries_view (drop (i + 1) es)))) found
  key_from found here =
      ap (λ (ds : List (Value × Value)). tokens_marked (entries_tokens (entries_view ds)) marks) (from_item es i e h is)
      ∙ marked_front (tokens (view e.0)) (tokens (view e.1) ++ rest) marks found here

  pub entry_from : (between : List Bool) (found : Option (List Bool)) → tokens_marked (tokens (view e.0)) marks ≡ Some between → tokens_marked (tokens (view e.1)) between ≡ found
      → tokens_marked (entries_tokens (entries_view (drop i es))) marks
      ≡ option_and_then (tokens_marked (entries_tokens (entries_view (drop (i + 1) es)))) found
  entry_from between found key here = key_from (Some between) key ∙ marked_front (tokens (view e.1)) rest between found here
