-- What `build` means: a value in strict mode at the root, and otherwise a refusal.
use Rattle.std.proofs.Common.{◌≡◌, ◌≢◌, ◌⊎◌, ℕ, Bool, true, false, [], ◌∷◌, Option, Some, None, IsSome, IsErr, Ok, Err, inl, inr, refl, sym, ◌∙◌, ap, subst}
use Rattle.fr_work.specs.Common.{IsSound, Meanings, Mode, Parts, Place, ReflectErrorKind, Site, State, Table, Val, Value, WhyNot, complete, cursor_tree, deferred, fits, mode_of, shape_in, site, strict, strict_column, takes_no_memory, top_place, top_shape, top_tree, tree_at, view, whole_tree}
use Rattle.fr_model.specs.Laws.{CompletingFits}
use Rattle.fr_shape.specs.Hooks.{IsLawful}
use Rattle.fr_shape.specs.Invariants.{keeps_invariants}
use Rattle.fr_shape.specs.declared.error.Invariant.{Invariant}
use Rattle.fr_model.specs.Step.{build, built, cause, violates}
use Rattle.fr_frame.specs.Completing.{IsOfValidator}
use Rattle.fr_work.specs.Building.{build_refusal, meant_by_build, IsKeptIf}
use Rattle.fr_moves.specs.CompletedPlaces.{PassesValidators}
use Rattle.fr_moves.specs.LackLaws.{only_wants}

-- there is something to be built in strict mode and at the root alone
strict_then : (state : State) → build_refusal state ≡ None → state.mode ≡ strict
strict_then state is = go state.mode refl
  where
    go : (mode : Mode) → state.mode ≡ mode → state.mode ≡ strict
    go strict m = m
    go (deferred start) m = let no = rw m at is in cc

root_then : (state : State) → build_refusal state ≡ None → state.cursor ≡ []
root_then state is = go state.cursor refl
  where
    go : (place : Place) → state.cursor ≡ place → state.cursor ≡ []
    go [] e = e
    go (i ∷ place) e = let no = rw (strict_then state is, e) at is in cc

-- then the root is built
builds : (means : Meanings) (table : Table) (root : ℕ) (state : State) → state.mode ≡ strict → state.cursor ≡ []
    → build means table root state ≡ built means table root state.tree (complete strict_column means table root state.tree)
builds means table root state mode at_root = rw (mode, at_root) refl

-- what is kept keeps its invariants, and what isn't breaks one
pub kept_then : (keeps : Bool) (v : Val) (kept : Value) → IsKeptIf keeps v (Ok kept) → (keeps ≡ true) × (view kept ≡ v)
kept_then true v kept is = (refl, is)
kept_then false v kept is = absurd is

pub broken_then : (keeps : Bool) (v : Val) (kind : ReflectErrorKind) → IsKeptIf keeps v (Err kind)
    → (keeps ≡ false) × (kind ≡ violates Invariant.TypeInvariant)
broken_then true v kind is = absurd is
broken_then false v kind is = (refl, is)

-- The builder of these parts, as contracts see it, may build.
pub record IsDue (parts : Parts) (seen : Site) : Type 0 where
  pub sound : IsSound parts
  pub is : site parts ≡ seen
  pub mode : mode_of parts.frames.mode ≡ strict
  pub at_root : top_place parts.frames ≡ []

-- it may where `build` isn't refused
pub due_now : {parts : Parts} {seen : Site} → IsSound parts → site parts ≡ seen → build_refusal seen.state ≡ None
    → IsDue parts seen
due_now {parts} {seen} sound is admitted =
    let so : build_refusal (site parts).state ≡ None = subst (λ (s : Site). build_refusal s.state ≡ None) (sym is) admitted in
    record { sound = sound; is = is; mode = strict_then (site parts).state so; at_root = root_then (site parts).state so }

module _ {parts : Parts} {seen : Site} (due : IsDue parts seen) (means : Meanings) where
  -- the place on top is the root
  root_made : {made : Option Val}
      → complete strict_column means parts.frames.table.now (top_shape parts.frames) (top_tree parts.frames) ≡ made
      → complete strict_column means parts.frames.table.now parts.frames.root.0 (whole_tree parts.frames) ≡ made
  root_made {made} is =
      subst
      (λ (p : Place). complete strict_column means parts.frames.table.now
      (shape_in parts.frames.table.now parts.frames.root.0 p (whole_tree parts.frames)) (tree_at p (whole_tree parts.frames)) ≡ made)
      due.at_root is

  root_cause : cause means parts.frames.table.now (top_shape parts.frames) (top_tree parts.frames)
      ≡ cause means parts.frames.table.now parts.frames.root.0 (whole_tree parts.frames)
  root_cause =
      ap
      (λ (p : Place). cause means parts.frames.table.now
      (shape_in parts.frames.table.now parts.frames.root.0 p (whole_tree parts.frames)) (tree_at p (whole_tree parts.frames)))
      due.at_root

  builds_so : (made : Option Val)
      → complete strict_column means parts.frames.table.now (top_shape parts.frames) (top_tree parts.frames) ≡ made
      → meant_by_build means seen
      ≡ built means parts.frames.table.now parts.frames.root.0 (whole_tree parts.frames) made
  builds_so made is =
      ap (meant_by_build means) (sym due.is)
      ∙ builds means parts.frames.table.now parts.frames.root.0 (site parts).state due.mode due.at_root
      ∙ ap (built means parts.frames.table.now parts.frames.root.0 (whole_tree parts.frames)) (root_made is)

  -- It makes this value.
  module _ {v : Val}
      (made : complete strict_column means parts.frames.table.now (top_shape parts.frames) (top_tree parts.frames) ≡ Some v) where
    -- that fits the root
    pub fits_root : CompletingFits → IsLawful means → fits parts.frames.table.now parts.frames.root.0 v ≡ true
    fits_root law lawful =
        law strict_column means parts.frames.table.now parts.frames.root.0 (whole_tree parts.frames) v lawful
        due.sound.at_work.ready.checked due.sound.at_work.ready.suits.suits (root_made made)

    pub fits_so : CompletingFits → IsLawful means → fits seen.shapes seen.root v ≡ true
    fits_so law lawful = subst (λ (s : Site). fits s.shapes s.root v ≡ true) due.is (fits_root law lawful)

    -- so it is built if it keeps its invariants, and else that is the refusal
    pub built_so : keeps_invariants means.check parts.frames.table.now parts.frames.root.0 v ≡ true
        → meant_by_build means seen ≡ Ok v
    built_so keeps = builds_so (Some v) made ∙ rw keeps refl

    pub broken_so : keeps_invariants means.check parts.frames.table.now parts.frames.root.0 v ≡ false
        → meant_by_build means seen ≡ Err (violates Invariant.TypeInvariant)
    broken_so breaks = builds_so (Some v) made ∙ rw breaks refl

  -- It makes none, or there was no memory.
  module _ {kind : ReflectErrorKind}
      (why : WhyNot means parts.frames.table.now (top_shape parts.frames) (top_tree parts.frames) kind) where
    -- so it is refused
    pub built_not : (kind ≡ ReflectErrorKind.OutOfMemory) ⊎ (meant_by_build means seen ≡ Err kind)
    built_not =
        elim why [
          | inl lacking ↦ inr (builds_so None lacking.incomplete
              ∙ ap (λ (k : ReflectErrorKind). Err k) (sym (lacking.lacks ∙ root_cause)))
          | inr wants ↦ inl wants.memory
        ]

    module _ (wanted : kind ≡ ReflectErrorKind.OutOfMemory)
        (passes : PassesValidators (meant_by_build means seen)) where
      wants : IsSome (complete strict_column means parts.frames.table.now (top_shape parts.frames) (top_tree parts.frames))
          × (takes_no_memory (top_tree parts.frames) ≡ false)
      wants =
          only_wants means parts.frames.table.now _ _ kind why wanted
          (λ none said. subst PassesValidators (builds_so None none) passes (inl (subst IsOfValidator root_cause said)))

      -- one that is refused isn't out of memory, unless the value breaks an invariant
      pub refused_first : IsErr (meant_by_build means seen)
          → meant_by_build means seen ≢ Err (violates Invariant.TypeInvariant) → ⊥
      refused_first refused unbroken =
          go (complete strict_column means parts.frames.table.now (top_shape parts.frames) (top_tree parts.frames)) refl wants.0
        where
          by_invariants : (v : Val) (keeps : Bool)
              → complete strict_column means parts.frames.table.now (top_shape parts.frames) (top_tree parts.frames) ≡ Some v
              → keeps_invariants means.check parts.frames.table.now parts.frames.root.0 v ≡ keeps → ⊥
          by_invariants v true is keeps = let no : false ≡ true = rw (built_so is keeps) at refused in cc
          by_invariants v false is breaks = unbroken (broken_so is breaks)

          go : (made : Option Val)
              → complete strict_column means parts.frames.table.now (top_shape parts.frames) (top_tree parts.frames) ≡ made
              → IsSome made → ⊥
          go (Some v) is some = by_invariants v (keeps_invariants means.check parts.frames.table.now parts.frames.root.0 v) is refl
          go None is some = cc

      -- nor is one that takes none
      pub needed_none : takes_no_memory (cursor_tree seen.state) ≡ true → ⊥
      needed_none none =
          let no : false ≡ true = sym wants.1 ∙ ap (λ (s : Site). takes_no_memory (cursor_tree s.state)) due.is ∙ none in
          cc
