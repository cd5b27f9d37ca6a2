-- The path that a builder keeps, where it goes on and where it goes back.
use Rattle.std.proofs.Common.{◌≡◌, ℕ, List, [], ◌∷◌, ◌++◌, length, Option, Some, None, IsNone, IfSome, ◌↔◌, refl, sym, ◌∙◌, ap}
use Rattle.fr_moves.specs.Common.{PathStep, State, path_of}
use Rattle.fr_model.specs.PathLaws.{PathIsAsDeep}

-- a path with a last step isn't empty
pub never_empty : (before : List PathStep) (last : PathStep) → before ++ last ∷ [] ≡ [] → ⊥
never_empty [] last e = cc
never_empty (step ∷ before) last e = cc

-- one step back
pub went_back : (undone : (before after : List PathStep) (step last : PathStep) → before ++ step ∷ [] ≡ after ++ last ∷ []
    → (after ≡ before) × (last ≡ step)) → (taken : Option PathStep) (before old new : List PathStep) (last : PathStep)
    → IfSome taken (λ step. old ≡ new ++ step ∷ []) → IsNone taken ↔ (old ≡ []) → old ≡ before ++ last ∷ [] → new ≡ before
went_back undone (Some step) before old new last split none is = (undone before new last step (sym is ∙ split)).0
went_back undone None before old new last split none is = absurd (never_empty before last (sym is ∙ none.0 refl))

-- the last step of a path that isn't empty
pub record Ends (steps : List PathStep) : Type 0 where
  pub before : List PathStep
  pub last : PathStep
  pub split : steps ≡ before ++ last ∷ []

ends : (step : PathStep) (steps : List PathStep) → Ends (step ∷ steps)
ends step [] = record { before = []; last = step; split = refl }
ends step (next ∷ steps) =
    let rest : Ends (next ∷ steps) = ends next steps in
    record { before = step ∷ rest.before; last = rest.last; split = ap (λ (ps : List PathStep). step ∷ ps) rest.split }

-- below the root a path has a last step
pub below_root : PathIsAsDeep → (state : State) (above : List ℕ) (i : ℕ) → state.cursor ≡ above ++ i ∷ [] → Ends (path_of state)
below_root deep state above i cursor = go (path_of state) (deep state)
  where
    longer : (place : List ℕ) → length (place ++ i ∷ []) ≡ 0 → ⊥
    longer [] e = cc
    longer (j ∷ place) e = cc

    go : (steps : List PathStep) → length steps ≡ length state.cursor → Ends steps
    go [] e = absurd (longer above (sym (ap (λ (place : List ℕ). length place) cursor) ∙ sym e))
    go (step ∷ steps) e = ends step steps
