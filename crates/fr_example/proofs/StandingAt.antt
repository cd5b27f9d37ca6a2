-- A builder whose state is known, and what it is after calls that are admitted there.
use Rattle.std.proofs.Common.{◌≡◌, ◌⊎◌, inl, inr, ℕ, ◌++◌, List, [], ◌∷◌, Result, Ok, Err, sym, ◌∙◌, ap, subst}
use Rattle.fr_shape.specs.Hooks.{Meanings}
use Rattle.fr_shape.specs.Look.{Table}
use Rattle.fr_shape.specs.declared.error.ReflectErrorKind.{ReflectErrorKind}
use Rattle.fr_model.specs.Commands.{Call}
use Rattle.fr_model.specs.Step.{step}
use Rattle.fr_model.specs.Sequences.{AllLeadTo, IsAdmittedThen}
use Rattle.fr_model.specs.Tree.{State, tree_occurs}
use Rattle.fr_partial.specs.Builder.{Builder, IsStep, holds}
use Rattle.fr_partial.specs.Several.{AreSteps}
use Rattle.fr_work.specs.declared.reflect_error.ReflectError.{ReflectError}

-- the builder stands for this state, at this root of this table
pub record IsAt {H : Type 0} (table : Table) (root : ℕ) (at : State) (builder : Builder H) : Type 0 where
  pub shapes : builder.shapes ≡ table
  pub root_is : builder.root ≡ root
  pub state : builder.state ≡ at

-- the builder stands for this state, or there was no memory
abbrev pub GoesTo : {H : Type 0} → Table → (root : ℕ) → State → Result (Builder H) ReflectError → Type 0
GoesTo table root next (Ok after) = IsAt table root next after
GoesTo table root next (Err error) = error.kind ≡ ReflectErrorKind.OutOfMemory

module _ (hooks : Meanings) (table : Table) (root : ℕ) where
  -- calls lead to one state alone
  led_to_one : (calls : List Call) (state last other : State) → AllLeadTo hooks table root state calls last
      → AllLeadTo hooks table root state calls other → other ≡ last
  led_to_one [] state last other led also = sym also ∙ led
  led_to_one (call ∷ calls) state last other led also =
      go (λ next one two. led_to_one calls next last other one two) (step hooks table root state call) led also
    where
      go : ((next : State) → AllLeadTo hooks table root next calls last → AllLeadTo hooks table root next calls other → other ≡ last)
          → (outcome : Result State ReflectErrorKind) → IsAdmittedThen outcome (λ next. AllLeadTo hooks table root next calls last)
          → IsAdmittedThen outcome (λ next. AllLeadTo hooks table root next calls other) → other ≡ last
      go again (Ok next) led also = again next led also
      go again (Err kind) led also = absurd led

  -- none of the calls that lead somewhere is refused where those before it lead
  none_refused : (made : List Call) (stopped : Call) (unmade : List Call) (state at last : State) (kind : ReflectErrorKind)
      → AllLeadTo hooks table root state (made ++ stopped ∷ unmade) last → AllLeadTo hooks table root state made at
      → step hooks table root at stopped ≡ Err kind → ⊥
  none_refused [] stopped unmade state at last kind led here refused =
      subst (λ (o : Result State ReflectErrorKind). IsAdmittedThen o (λ next. AllLeadTo hooks table root next unmade last))
      (ap (λ (s : State). step hooks table root s stopped) here ∙ refused) led
  none_refused (call ∷ made) stopped unmade state at last kind led here refused =
      go (λ next one two. none_refused made stopped unmade next at last kind one two refused) (step hooks table root state call) led here
    where
      go : ((next : State) → AllLeadTo hooks table root next (made ++ stopped ∷ unmade) last → AllLeadTo hooks table root next made at → ⊥)
          → (outcome : Result State ReflectErrorKind)
          → IsAdmittedThen outcome (λ next. AllLeadTo hooks table root next (made ++ stopped ∷ unmade) last)
          → IsAdmittedThen outcome (λ next. AllLeadTo hooks table root next made at) → ⊥
      go again (Ok next) led here = again next led here
      go again (Err kind) led here = led

-- a call is as it is at the known state
step_at : {H : Type 0} (hooks : Meanings) (table : Table) (root : ℕ) (at : State) (before : Builder H) (call : Call)
    → IsAt table root at before → step hooks before.shapes before.root before.state call ≡ step hooks table root at call
step_at hooks table root at before call is =
    ap (λ (t : Table). step hooks t before.root before.state call) is.shapes
    ∙ ap (λ (r : ℕ). step hooks table r before.state call) is.root_is
    ∙ ap (λ (s : State). step hooks table root s call) is.state

one_state : (outcome : Result State ReflectErrorKind) (s t : State) → outcome ≡ Ok s → outcome ≡ Ok t → s ≡ t
one_state outcome s t one other = cc

not_both : (outcome : Result State ReflectErrorKind) (s : State) (kind : ReflectErrorKind) → outcome ≡ Ok s → outcome ≡ Err kind → ⊥
not_both outcome s kind one other = cc

-- a call that is admitted there
pub called : {H : Type 0} (hooks : Meanings) (table : Table) (root : ℕ) (at next : State) (before : Builder H) (call : Call)
    (result : Result (Builder H) ReflectError) → step hooks table root at call ≡ Ok next → IsAt table root at before
    → IsStep hooks before call result → GoesTo table root next result
called hooks table root at next before call (Ok after) admitted is meant = record {
  shapes = meant.1 ∙ is.shapes;
  root_is = meant.2 ∙ is.root_is;
  state = one_state _ after.state next meant.0 (step_at hooks table root at before call is ∙ admitted);
}
called hooks table root at next before call (Err error) admitted is (inl memory) = memory
called hooks table root at next before call (Err error) admitted is (inr refused) =
    absurd (not_both _ next error.kind (step_at hooks table root at before call is ∙ admitted) refused)

-- several such calls
pub all_called : {H : Type 0} (hooks : Meanings) (table : Table) (root : ℕ) (at next : State) (before : Builder H) (calls : List Call)
    (result : Result (Builder H) ReflectError) → AllLeadTo hooks table root at calls next → IsAt table root at before
    → AreSteps hooks before calls result → GoesTo table root next result
all_called {H} hooks table root at next before calls (Ok after) lead is meant = record {
  shapes = meant.1 ∙ is.shapes;
  root_is = meant.2 ∙ is.root_is;
  state = led_to_one hooks table root calls at next after.state lead (led_at after.state meant.0);
}
  where
    led_at : (last : State) → AllLeadTo hooks before.shapes before.root before.state calls last → AllLeadTo hooks table root at calls last
    led_at last led =
        subst (λ (s : State). AllLeadTo hooks table root s calls last) is.state
        (subst (λ (r : ℕ). AllLeadTo hooks table r before.state calls last) is.root_is
        (subst (λ (t : Table). AllLeadTo hooks t before.root before.state calls last) is.shapes led))
all_called {H} hooks table root at next before calls (Err error) lead is stops = go stops.refused
  where
    made_at : AllLeadTo hooks table root at stops.made stops.at
    made_at =
        subst (λ (s : State). AllLeadTo hooks table root s stops.made stops.at) is.state
        (subst (λ (r : ℕ). AllLeadTo hooks table r before.state stops.made stops.at) is.root_is
        (subst (λ (t : Table). AllLeadTo hooks t before.root before.state stops.made stops.at) is.shapes stops.led))

    go : (error.kind ≡ ReflectErrorKind.OutOfMemory) ⊎ (step hooks before.shapes before.root stops.at stops.stopped ≡ Err error.kind)
        → error.kind ≡ ReflectErrorKind.OutOfMemory
    go (inl memory) = memory
    go (inr refused) =
        absurd (
        none_refused hooks table root stops.made stops.stopped stops.unmade at stops.at next error.kind
        (subst (λ (cs : List Call). AllLeadTo hooks table root at cs next) stops.in_order lead) made_at
        (subst (λ (r : ℕ). step hooks table r stops.at stops.stopped ≡ Err error.kind) is.root_is
        (subst (λ (t : Table). step hooks t before.root stops.at stops.stopped ≡ Err error.kind) is.shapes refused))
        )

-- no token is held where the state holds none
pub none_at : {H : Type 0} (table : Table) (root : ℕ) (at : State) (builder : Builder H) → IsAt table root at builder
    → ((t : ℕ) → tree_occurs at.tree t ≡ 0) → (t : ℕ) → holds builder t ≡ 0
none_at table root at builder is none t = ap (λ (s : State). tree_occurs s.tree t) is.state ∙ none t
