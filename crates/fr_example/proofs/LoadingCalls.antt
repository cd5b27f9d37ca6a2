-- Calls that a builder is given one after another, told over the builder with which they began.
use Rattle.std.proofs.Common.{◌≡◌, ◌⊎◌, inl, inr, ℕ, ◌++◌, List, [], ◌∷◌, map, append_assoc, Result, Ok, Err, refl, sym, ◌∙◌, ap, subst}
use Rattle.std.proofs.lemmas.List.{append-nil, map-append}
use Rattle.fr_shape.specs.Hooks.{Meanings}
use Rattle.fr_shape.specs.Look.{Table}
use Rattle.fr_shape.specs.declared.error.ReflectErrorKind.{ReflectErrorKind}
use Rattle.fr_model.specs.Commands.{Call}
use Rattle.fr_model.specs.Step.{step}
use Rattle.fr_model.specs.Sequences.{AllLeadTo}
use Rattle.fr_model.specs.Tree.{State}
use Rattle.fr_partial.specs.Builder.{Builder, IsCall}
use Rattle.fr_work.specs.declared.reflect_error.ReflectError.{ReflectError}
use Rattle.fr_example.specs.Loading.{calls_of_pair}
use Rattle.fr_partial.specs.Several.{StopsAtOne, AreSteps}
use Rattle.fr_example.proofs.LoadingRuns.{lead_on, leads}

-- the builder works with what another does
pub record IsOver {H : Type 0} (table : Table) (at : ℕ) (given : H) (now : Builder H) : Type 0 where
  pub shapes : now.shapes ≡ table
  pub root : now.root ≡ at
  pub hooks : now.hooks ≡ given

-- Calls that are made for the names of a list, up to what is left of it: they lead to a state.
pub record IsThrough (hooks : Meanings) (shapes : Table) (root : ℕ) (start : State) (calls : List (List ℕ) → List Call) (all : List (List ℕ)) (now : State) (rest : List (List ℕ)) : Type 0 where
  pub done : List (List ℕ)
  pub in_order : all ≡ done ++ rest
  pub led : AllLeadTo hooks shapes root start (calls done) now

module _ {H : Type 0} (means : H → Meanings) (shapes : Table) (root : ℕ) (hooks : H) where
  pub same_step : (now : Builder H) (call : Call) → IsOver shapes root hooks now
      → step (means hooks) shapes root now.state call ≡ step (means now.hooks) now.shapes now.root now.state call
  same_step now call over =
      sym (
      ap (λ (h : H). step (means h) now.shapes now.root now.state call) over.hooks
      ∙ ap (λ (t : Table). step (means hooks) t now.root now.state call) over.shapes
      ∙ ap (λ (r : ℕ). step (means hooks) shapes r now.state call) over.root
      )

  -- a call that was admitted
  pub admitted : (now after : Builder H) (call : Call) (old new : List ℕ) → IsOver shapes root hooks now
      → IsCall (means now.hooks) now call (Ok after) old new → step (means hooks) shapes root now.state call ≡ Ok after.state
  admitted now after call old new over owed = same_step now call over ∙ owed.step.0

  pub over_after : (now after : Builder H) (call : Call) (old new : List ℕ) → IsOver shapes root hooks now
      → IsCall (means now.hooks) now call (Ok after) old new → IsOver shapes root hooks after
  over_after now after call old new over owed = record {
    shapes = owed.step.1 ∙ over.shapes;
    root = owed.step.2 ∙ over.root;
    hooks = owed.step.3 ∙ over.hooks;
  }

  -- a call after others, admitted
  pub led_on : (start : State) (made : List Call) (now after : Builder H) (call : Call) (old new : List ℕ) → IsOver shapes root hooks now
      → AllLeadTo (means hooks) shapes root start made now.state → IsCall (means now.hooks) now call (Ok after) old new
      → AllLeadTo (means hooks) shapes root start (made ++ call ∷ []) after.state
  led_on start made now after call old new over led owed =
      lead_on (means hooks) shapes root made (call ∷ []) start now.state after.state led
      (leads (means hooks) shapes root call now.state after.state (admitted now after call old new over owed))

  -- and refused
  pub stops : (first now : Builder H) (calls made : List Call) (call : Call) (unmade : List Call) (error : ReflectError) (old new : List ℕ)
      → IsOver shapes root hooks first → IsOver shapes root hooks now → calls ≡ made ++ call ∷ unmade
      → AllLeadTo (means hooks) shapes root first.state made now.state
      → IsCall (means now.hooks) now call (Err error) old new → StopsAtOne (means first.hooks) first calls error
  stops first now calls made call unmade error old new first_over over in_order led owed = record {
    made = made;
    stopped = call;
    unmade = unmade;
    in_order = in_order;
    at = now.state;
    led =
        subst (λ (h : H). AllLeadTo (means h) first.shapes first.root first.state made now.state) (sym first_over.hooks)
        (subst (λ (t : Table). AllLeadTo (means hooks) t first.root first.state made now.state) (sym first_over.shapes)
        (subst (λ (r : ℕ). AllLeadTo (means hooks) shapes r first.state made now.state) (sym first_over.root) led));
    refused = refused owed.step;
    path = owed.path;
  }
    where
      refused : (error.kind ≡ ReflectErrorKind.OutOfMemory) ⊎ (step (means now.hooks) now.shapes now.root now.state call ≡ Err error.kind)
          → (error.kind ≡ ReflectErrorKind.OutOfMemory) ⊎ (step (means first.hooks) first.shapes first.root now.state call ≡ Err error.kind)
      refused (inl memory) = inl memory
      refused (inr e) =
          inr (
          ap (λ (h : H). step (means h) first.shapes first.root now.state call) first_over.hooks
          ∙ ap (λ (t : Table). step (means hooks) t first.root now.state call) first_over.shapes
          ∙ ap (λ (r : ℕ). step (means hooks) shapes r now.state call) first_over.root
          ∙ same_step now call over ∙ e
          )

  -- a call for the next name, admitted
  pub through_more : (start : State) (calls : List (List ℕ) → List Call) (one : List ℕ → Call)
      → ((done : List (List ℕ)) (name : List ℕ) → calls done ++ one name ∷ [] ≡ calls (done ++ name ∷ []))
      → (all : List (List ℕ)) (now after : Builder H) (name : List ℕ) (rest : List (List ℕ)) (old new : List ℕ) → IsOver shapes root hooks now
      → IsThrough (means hooks) shapes root start calls all now.state (name ∷ rest)
      → IsCall (means now.hooks) now (one name) (Ok after) old new
      → IsThrough (means hooks) shapes root start calls all after.state rest
  through_more start calls one more all now after name rest old new over through owed = record {
    done = through.done ++ name ∷ [];
    in_order = through.in_order ∙ sym (append_assoc through.done (name ∷ []) rest);
    led =
        subst (λ (made : List Call). AllLeadTo (means hooks) shapes root start made after.state) (more through.done name)
        (led_on start (calls through.done) now after (one name) old new over through.led owed);
  }

-- it works with what it works with itself
pub over_itself : {H : Type 0} (first : Builder H) → IsOver first.shapes first.root first.hooks first
over_itself first = record { shapes = refl; root = refl; hooks = refl }

-- the calls for all names
pub all_through : (hooks : Meanings) (shapes : Table) (root : ℕ) (start : State) (calls : List (List ℕ) → List Call) (all : List (List ℕ)) (now : State)
    → IsThrough hooks shapes root start calls all now [] → AllLeadTo hooks shapes root start (calls all) now
all_through hooks shapes root start calls all now through =
    subst (λ (names : List (List ℕ)). AllLeadTo hooks shapes root start (calls names) now)
    (sym (through.in_order ∙ append-nil through.done)) through.led

-- no name yet
pub through_none : (hooks : Meanings) (shapes : Table) (root : ℕ) (start : State) (calls : List (List ℕ) → List Call) (all : List (List ℕ)) (now : State)
    → AllLeadTo hooks shapes root start (calls []) now → IsThrough hooks shapes root start calls all now all
through_none hooks shapes root start calls all now led = record { done = []; in_order = refl; led = led }

-- The calls of a pair

-- so far names were entered
abbrev pub entering : List (List ℕ) → List Call
entering names = map Call.BeginField names

-- all were entered, the value was parsed, and some were left
abbrev pub leaving : (names : List (List ℕ)) → (value : List ℕ) → List (List ℕ) → List Call
leaving names value left = map Call.BeginField names ++ Call.ParseFromStr value ∷ map (λ name. Call.End) left

pub entering_more : (done : List (List ℕ)) (name : List ℕ) → entering done ++ Call.BeginField name ∷ [] ≡ entering (done ++ name ∷ [])
entering_more done name = sym (map-append Call.BeginField done (name ∷ []))

pub leaving_more : (names : List (List ℕ)) (value : List ℕ) (done : List (List ℕ)) (name : List ℕ)
    → leaving names value done ++ Call.End ∷ [] ≡ leaving names value (done ++ name ∷ [])
leaving_more names value done name =
    append_assoc (map Call.BeginField names) (Call.ParseFromStr value ∷ map (λ n. Call.End) done) (Call.End ∷ [])
    ∙ ap (λ (calls : List Call). map Call.BeginField names ++ Call.ParseFromStr value ∷ calls)
    (sym (map-append (λ (n : List ℕ). Call.End) done (name ∷ [])))

-- where it stops: at a name, at the value, on the way back
pub stops_entering : (names : List (List ℕ)) (value : List ℕ) (done : List (List ℕ)) (name : List ℕ) (rest : List (List ℕ))
    → names ≡ done ++ name ∷ rest
    → calls_of_pair names value
    ≡ entering done ++ Call.BeginField name ∷ (map Call.BeginField rest ++ Call.ParseFromStr value ∷ map (λ n. Call.End) names)
stops_entering names value done name rest e =
    ap (λ (ns : List (List ℕ)). map Call.BeginField ns ++ Call.ParseFromStr value ∷ map (λ n. Call.End) names) e
    ∙ ap (λ (calls : List Call). calls ++ Call.ParseFromStr value ∷ map (λ n. Call.End) names) (map-append Call.BeginField done (name ∷ rest))
    ∙ append_assoc (map Call.BeginField done) (Call.BeginField name ∷ map Call.BeginField rest) (Call.ParseFromStr value ∷ map (λ n. Call.End) names)

pub stops_leaving : (names : List (List ℕ)) (value : List ℕ) (done : List (List ℕ)) (name : List ℕ) (rest : List (List ℕ))
    → names ≡ done ++ name ∷ rest
    → calls_of_pair names value ≡ leaving names value done ++ Call.End ∷ map (λ n. Call.End) rest
stops_leaving names value done name rest e =
    ap (λ (calls : List Call). map Call.BeginField names ++ Call.ParseFromStr value ∷ calls)
    (ap (λ (ns : List (List ℕ)). map (λ (n : List ℕ). Call.End) ns) e ∙ map-append (λ (n : List ℕ). Call.End) done (name ∷ rest))
    ∙ sym (append_assoc (map Call.BeginField names) (Call.ParseFromStr value ∷ map (λ n. Call.End) done) (Call.End ∷ map (λ n. Call.End) rest))

-- steps that are told over equal calls
pub same_calls : {H : Type 0} (hooks : Meanings) (before : Builder H) (calls told : List Call) (result : Result (Builder H) ReflectError)
    → calls ≡ told → AreSteps hooks before calls result → AreSteps hooks before told result
same_calls hooks before calls told result e = subst (λ (cs : List Call). AreSteps hooks before cs result) e
