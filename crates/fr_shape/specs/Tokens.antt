-- The tokens that a value holds.
use Rattle.std.specs.Prelude.{ℕ, ◌+◌, cond, List, [], ◌∷◌, ◌++◌, nat_eq, count_by}
use Rattle.fr_shape.specs.Val.{Val, Vals, Entries, unit, bool, char, int, nat, text, token, product, variant, none, some, ok, err, list_of, map_of, set_of, ptr, dyn, no_vals, first, no_entries, entry}

abbrev mutual
  -- the tokens of a value, left to right
  pub tokens : Val → List ℕ
  tokens unit = []
  tokens (bool b) = []
  tokens (char c) = []
  tokens (int z) = []
  tokens (nat n) = []
  tokens (text t) = []
  tokens (token t) = t ∷ []
  tokens (product vs) = vals_tokens vs
  tokens (variant i vs) = vals_tokens vs
  tokens none = []
  tokens (some v) = tokens v
  tokens (ok v) = tokens v
  tokens (err v) = tokens v
  tokens (list_of vs) = vals_tokens vs
  tokens (map_of es) = entries_tokens es
  tokens (set_of vs) = vals_tokens vs
  tokens (ptr v) = tokens v
  tokens (dyn d) = []

  pub vals_tokens : Vals → List ℕ
  vals_tokens no_vals = []
  vals_tokens (first v vs) = tokens v ++ vals_tokens vs

  pub entries_tokens : Entries → List ℕ
  entries_tokens no_entries = []
  entries_tokens (entry k v es) = tokens k ++ (tokens v ++ entries_tokens es)

-- how often a token stands in a list
abbrev pub times : List ℕ → ℕ → ℕ
times ts t = count_by (λ s. nat_eq s t) ts

abbrev mutual
  -- how often a token stands in a value
  pub occurs : Val → ℕ → ℕ
  occurs unit t = 0
  occurs (bool b) t = 0
  occurs (char c) t = 0
  occurs (int z) t = 0
  occurs (nat n) t = 0
  occurs (text s) t = 0
  occurs (token s) t = cond (nat_eq s t) 1 0
  occurs (product vs) t = vals_occur vs t
  occurs (variant i vs) t = vals_occur vs t
  occurs none t = 0
  occurs (some v) t = occurs v t
  occurs (ok v) t = occurs v t
  occurs (err v) t = occurs v t
  occurs (list_of vs) t = vals_occur vs t
  occurs (map_of es) t = entries_occur es t
  occurs (set_of vs) t = vals_occur vs t
  occurs (ptr v) t = occurs v t
  occurs (dyn d) t = 0

  pub vals_occur : Vals → ℕ → ℕ
  vals_occur no_vals t = 0
  vals_occur (first v vs) t = occurs v t + vals_occur vs t

  pub entries_occur : Entries → ℕ → ℕ
  entries_occur no_entries t = 0
  entries_occur (entry k v es) t = occurs k t + (occurs v t + entries_occur es t)
