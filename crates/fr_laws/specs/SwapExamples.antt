-- Worked examples of excursions, and of scripts in which two are swapped.
use Rattle.std.specs.Prelude.{◌∷◌, ◌++◌}
use Rattle.fr_model.specs.Common.{ℕ, List, [], Ok, no_hooks, nat, token, product}
use Rattle.fr_model.specs.Basis.{Call, entered, whole, hole, Tree, deferred, State, BeginNthField, End, Set}
use Rattle.fr_laws.specs.ContentExamples.{one, two, put_in, in_deferred, Runs}
use Rattle.fr_laws.specs.DefaultExamples.{defaults, begun_two}
use Rattle.fr_laws.specs.SwapLaws.{IsExcursion}

-- a struct of two fields in deferred mode, after so many calls
abbrev pub two_fields : Tree → (calls : ℕ) → State
two_fields tree calls = record { tree = tree; cursor = []; mode = deferred 0; calls = calls }

abbrev pub number_in_first : (n : ℕ) → List Call
number_in_first n = put_in 0 0 (nat n)

abbrev pub token_in_second : List Call
token_in_second = put_in 1 1 (token 0)

pub record SwapExamples : Type 0 where
  -- a field is entered, set and left
  pub excursion : IsExcursion no_hooks defaults 4 0 (two_fields entered 1) (number_in_first 1) (two_fields (begun_two (whole (nat 1)) hole) 4)
  -- the excursion ends as soon as its place is reached again
  pub no_longer : (last : State) → IsExcursion no_hooks defaults 4 0 (two_fields entered 1) (number_in_first 1 ++ token_in_second) last → ⊥
  pub no_shorter : (last : State) → IsExcursion no_hooks defaults 4 0 (two_fields entered 1) (BeginNthField 0 ∷ Set 0 (nat 1) ∷ []) last → ⊥
  -- either field may be set first, of a whole struct too
  pub in_order : Runs defaults 4 (in_deferred (number_in_first 1 ++ token_in_second)) (Ok (product (two (nat 1) (token 0))))
  pub swapped : Runs defaults 4 (in_deferred (token_in_second ++ number_in_first 1)) (Ok (product (two (nat 1) (token 0))))
  pub of_whole : Runs defaults 4 (Set 4 (product (two (nat 9) (token 1))) ∷ in_deferred (token_in_second ++ number_in_first 1))
      (Ok (product (two (nat 1) (token 0))))
  -- one field that is set twice has what it was set to last
  pub same_field : Runs defaults 2 (in_deferred (number_in_first 1 ++ number_in_first 2)) (Ok (product (one (nat 2))))
  pub same_field_swapped : Runs defaults 2 (in_deferred (number_in_first 2 ++ number_in_first 1)) (Ok (product (one (nat 1))))
  -- a field that is left and entered again stays as it was
  pub again : Runs defaults 2 (in_deferred (number_in_first 1 ++ BeginNthField 0 ∷ End ∷ [])) (Ok (product (one (nat 1))))
