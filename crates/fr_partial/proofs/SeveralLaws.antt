-- Several calls are one call and those after it.
use Rattle.std.proofs.Common.{◌≡◌, ◌⊎◌, ◌∷◌, ◌+◌, ℕ, List, [], Result, Ok, Err, refl, sym, ap, subst, ◌∙◌, inl, arith}
use Rattle.fr_shape.specs.Hooks.{Meanings}
use Rattle.fr_shape.specs.Released.{Conserved, RoseBy}
use Rattle.fr_shape.specs.ShapedValue.{ShapedValue}
use Rattle.fr_shape.specs.Val.{Val}
use Rattle.fr_shape.specs.declared.error.ReflectErrorKind.{ReflectErrorKind}
use Rattle.fr_model.specs.Commands.{Call}
use Rattle.fr_model.specs.Paths.{path_of}
use Rattle.fr_model.specs.Removed.{removed}
use Rattle.fr_model.specs.Scripts.{brings, brought}
use Rattle.fr_model.specs.Sequences.{AllLeadTo, IsAdmittedThen, dropped_then, removed_by_all}
use Rattle.fr_model.specs.Tree.{State, tree_occurs}
use Rattle.fr_partial.specs.Builder.{Builder, IsCall, holds, left, meaning}
use Rattle.fr_partial.specs.Several.{AreCalls, AreSteps, StopsAtOne, dropped_by_calls}
use Rattle.fr_work.specs.declared.reflect_error.ReflectError.{ReflectError}

-- where it stopped, all was dropped that was held and brought
all_dropped : (held : ℕ → ℕ) (old new : List ℕ) → Conserved held old (λ t. 0) new → RoseBy held old new
all_dropped held old new c = record { same_length = c.same_length; each = λ t. omega (arith, c.kept_or_released t) }

-- it stopped at the first of them
at_once : {H : Type 0} (hooks : Meanings) (before : Builder H) (call : Call) (calls : List Call) (error : ReflectError)
    → (error.kind ≡ ReflectErrorKind.OutOfMemory) ⊎ (meaning hooks before call ≡ Err error.kind) → error.path ≡ path_of before.state
    → StopsAtOne hooks before (call ∷ calls) error
at_once hooks before call calls error refused path = record {
  made = [];
  stopped = call;
  unmade = calls;
  in_order = refl;
  at = before.state;
  led = refl;
  refused = refused;
  path = path;
}

pub stopped : {H : Type 0} (hooks : Meanings) (before : Builder H) (call : Call) (calls : List Call) (error : ReflectError) (old mid new : List ℕ)
    → IsCall hooks before call (Err error) old mid → RoseBy (brought calls) mid new → AreCalls hooks before (call ∷ calls) (Err error) old new
stopped hooks before call calls error old mid new is rose =
    let conserved : Conserved (λ t. holds before t + brought (call ∷ calls) t) old (λ t. 0) new = record {
      same_length = rose.same_length ∙ is.tokens.same_length;
      kept_or_released = λ t. omega (arith, is.tokens.kept_or_released t, rose.each t);
      none_falls = λ t. omega (arith, is.tokens.none_falls t, rose.each t);
    } in record {
      steps = at_once hooks before call calls error is.step is.path;
      tokens = conserved;
      removed = all_dropped (λ t. holds before t + brought (call ∷ calls) t) old new conserved;
    }

-- there was no memory before the first of them was made
pub without_memory : {H : Type 0} (hooks : Meanings) (before : Builder H) (call : Call) (calls : List Call) (error : ReflectError) (old mid new : List ℕ)
    → error.kind ≡ ReflectErrorKind.OutOfMemory → error.path ≡ path_of before.state → RoseBy (brought (call ∷ calls)) old mid
    → RoseBy (holds before) mid new → AreCalls hooks before (call ∷ calls) (Err error) old new
without_memory hooks before call calls error old mid new kind path brought_rose held_rose =
    let rose : RoseBy (λ t. holds before t + brought (call ∷ calls) t) old new = record {
      same_length = held_rose.same_length ∙ brought_rose.same_length;
      each = λ t. omega (arith, brought_rose.each t, held_rose.each t);
    } in record {
      steps = at_once hooks before call calls error (inl kind) path;
      tokens = record {
        same_length = rose.same_length;
        kept_or_released = λ t. omega (arith, rose.each t);
        none_falls = λ t. omega (arith, rose.each t);
      };
      removed = rose;
    }

module _ {H : Type 0} (hooks : Meanings) (before : Builder H) (call : Call) (calls : List Call) (at : State)
    (admitted : meaning hooks before call ≡ Ok at) where
  -- a call that is admitted leads on to what the others lead to
  led_on : (last : State) → AllLeadTo hooks before.shapes before.root at calls last
      → AllLeadTo hooks before.shapes before.root before.state (call ∷ calls) last
  led_on last led =
      subst (λ (o : Result State ReflectErrorKind). IsAdmittedThen o (λ next. AllLeadTo hooks before.shapes before.root next calls last))
      (sym admitted) led

  stops_later : (error : ReflectError) → StopsAtOne hooks (record before { state = at }) calls error
      → StopsAtOne hooks before (call ∷ calls) error
  stops_later error stops = record {
    made = call ∷ stops.made;
    stopped = stops.stopped;
    unmade = stops.unmade;
    in_order = ap (λ (cs : List Call). call ∷ cs) stops.in_order;
    at = stops.at;
    led =
        subst (λ (o : Result State ReflectErrorKind). IsAdmittedThen o (λ next. AllLeadTo hooks before.shapes before.root next stops.made stops.at))
        (sym admitted) stops.led;
    refused = stops.refused;
    path = stops.path;
  }

  steps_on : (result : Result (Builder H) ReflectError) → AreSteps hooks (record before { state = at }) calls result
      → AreSteps hooks before (call ∷ calls) result
  steps_on (Ok after) (led, shapes, root, hooks, plan) = (led_on after.state led, shapes, root, hooks, plan)
  steps_on (Err error) stops = stops_later error stops

  all_removed : (t : ℕ) → removed_by_all hooks before.shapes before.root before.state (call ∷ calls) t
      ≡ removed hooks before.shapes before.root before.state call t + removed_by_all hooks before.shapes before.root at calls t
  all_removed t =
      ap (λ (o : Result State ReflectErrorKind). removed hooks before.shapes before.root before.state call t
      + dropped_then o (λ next. removed_by_all hooks before.shapes before.root next calls t)) admitted

  module _ (old mid new : List ℕ) (kept : Conserved (λ t. holds before t + brings call t) old (tree_occurs at.tree) mid)
      (rose : RoseBy (removed hooks before.shapes before.root before.state call) old mid) where
    tokens_on : (result : Result (Builder H) ReflectError)
        → Conserved (λ t. tree_occurs at.tree t + brought calls t) mid (left result) new
        → Conserved (λ t. holds before t + brought (call ∷ calls) t) old (left result) new
    tokens_on result later = record {
      same_length = later.same_length ∙ kept.same_length;
      kept_or_released = λ t. omega (arith, kept.kept_or_released t, later.kept_or_released t);
      none_falls = λ t. omega (arith, kept.none_falls t, later.none_falls t);
    }

    removed_on : (result : Result (Builder H) ReflectError)
        → Conserved (λ t. tree_occurs at.tree t + brought calls t) mid (left result) new
        → RoseBy (dropped_by_calls hooks (record before { state = at }) calls result) mid new
        → RoseBy (dropped_by_calls hooks before (call ∷ calls) result) old new
    removed_on (Ok after) later removed_later = record {
      same_length = removed_later.same_length ∙ rose.same_length;
      each = λ t. let sum = all_removed t in omega (arith, rose.each t, removed_later.each t, sum);
    }
    removed_on (Err error) later removed_later =
        all_dropped (λ t. holds before t + brought (call ∷ calls) t) old new (tokens_on (Err error) later)

    on : (result : Result (Builder H) ReflectError) → AreCalls hooks (record before { state = at }) calls result mid new
        → AreCalls hooks before (call ∷ calls) result old new
    on result are = record {
      steps = steps_on result are.steps;
      tokens = tokens_on result are.tokens;
      removed = removed_on result are.tokens are.removed;
    }

-- a builder over the same table, root, hooks and plan is the same but for its state
same_but_state : {H : Type 0} (before next : Builder H) → next.shapes ≡ before.shapes → next.root ≡ before.root → next.hooks ≡ before.hooks
    → next.plan ≡ before.plan → ◌≡◌ {A = Builder H} next (record before { state = next.state })
same_but_state {H} before next shapes root hooks plan =
    ap (λ (s : _). record next { shapes = s }) shapes ∙ ap (λ (r : ℕ). record next { shapes = before.shapes; root = r }) root
    ∙ ap (λ (h : H). record next { shapes = before.shapes; root = before.root; hooks = h }) hooks
    ∙ ap (λ (p : _). record next { shapes = before.shapes; root = before.root; hooks = before.hooks; plan = p }) plan

-- the first is admitted, and then the others are made
pub then : {H : Type 0} (means : H → Meanings) (before next : Builder H) (call : Call) (calls : List Call) (result : Result (Builder H) ReflectError)
    (old mid new : List ℕ) → IsCall (means before.hooks) before call (Ok next) old mid → AreCalls (means next.hooks) next calls result mid new
    → AreCalls (means before.hooks) before (call ∷ calls) result old new
then {H} means before next call calls result old mid new is are =
    on (means before.hooks) before call calls next.state is.step.0 old mid new is.tokens is.removed result
    (subst (λ (b : Builder H). AreCalls (means b.hooks) b calls result mid new)
    (same_but_state before next is.step.1 is.step.2 is.step.3 is.step.4) are)

-- the last one
pub last : {H : Type 0} (hooks : Meanings) (before : Builder H) (call : Call) (result : Result (Builder H) ReflectError) (old new : List ℕ)
    → IsCall hooks before call result old new → AreCalls hooks before (call ∷ []) result old new
last hooks before call (Ok after) old new is = record {
  steps = (led_on hooks before call [] after.state is.step.0 after.state refl, is.step.1, is.step.2, is.step.3, is.step.4);
  tokens = record {
    same_length = is.tokens.same_length;
    kept_or_released = λ t. omega (arith, is.tokens.kept_or_released t);
    none_falls = is.tokens.none_falls;
  };
  removed = record {
    same_length = is.removed.same_length;
    each = λ t. let sum = all_removed hooks before call [] after.state is.step.0 t in omega (arith, is.removed.each t, sum);
  };
}
last hooks before call (Err error) old new is =
    stopped hooks before call [] error old new new is (record { same_length = refl; each = λ t. omega arith })

-- calls with a value that was made, with its shape, without any release
pub as_made : {H : Type 0} (hooks : Meanings) (before : Builder H) (calls : ℕ → Val → List Call) (made : ShapedValue) (shape : ℕ) (v : Val)
    (result : Result (Builder H) ReflectError) (old from new : List ℕ) → made.shape ≡ shape → made.value ≡ v → from ≡ old
    → AreCalls hooks before (calls made.shape made.value) result from new → AreCalls hooks before (calls shape v) result old new
as_made hooks before calls made shape v result old from new shape_is value_is same are =
    subst (λ (cs : List Call). AreCalls hooks before cs result old new)
    (ap (λ (s : ℕ). calls s made.value) shape_is ∙ ap (λ (w : Val). calls shape w) value_is)
    (subst (λ (ledger : List ℕ). AreCalls hooks before (calls made.shape made.value) result ledger new) same are)
