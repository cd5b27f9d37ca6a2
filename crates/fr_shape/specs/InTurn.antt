-- Releasing a list of tokens one by one, in their order.
use Rattle.std.specs.Prelude.{ℕ, ◌+◌, Bool, true, ◌&&◌, List, [], ◌∷◌, length, nat_lt, slice_index, slice_set}

-- the ledger after one release of a token
abbrev pub raised : ℕ → List ℕ → List ℕ
raised token ledger = slice_set ledger token (slice_index ledger token + 1)

-- the ledger after the releases
abbrev pub released : (tokens : List ℕ) → List ℕ → List ℕ
released [] ledger = ledger
released (token ∷ tokens) ledger = released tokens (raised token ledger)

-- each token is the ledger's, and below the largest count when its turn comes
abbrev pub can_release : (tokens : List ℕ) → List ℕ → Bool
can_release [] ledger = true
can_release (token ∷ tokens) ledger =
    nat_lt token (length ledger) && (nat_lt (slice_index ledger token) 4294967295 && can_release tokens (raised token ledger))
