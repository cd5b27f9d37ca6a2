-- What `load` returns, told of its lines.
use Rattle.std.proofs.Common.{◌≡◌, ℕ, ◌+◌, ◌++◌, List, [], ◌∷◌, append_assoc, length-append, arith, Bool, true, false, Option, None, Result, Ok, if◌then◌else◌, refl, sym, ◌∙◌, ap, subst}
use Rattle.std.specs.Str.{trim}
use Rattle.std.specs.List.{slice_split, before_first, after_first}
use Rattle.std.specs.Prelude.{◌==◌}
use Rattle.fr_shape.specs.Hooks.{Meanings}
use Rattle.fr_shape.specs.declared.shape.Def.{Def}
use Rattle.fr_shape.specs.Fills.{is_empty_struct}
use Rattle.fr_shape.specs.Look.{Table, def_of}
use Rattle.fr_shape.specs.Val.{Val, product, no_vals}
use Rattle.fr_model.specs.Commands.{Call}
use Rattle.fr_model.specs.Run.{Refusal}
use Rattle.fr_model.specs.Step.{begin_deferred}
use Rattle.fr_model.specs.Sequences.{AllLeadTo}
use Rattle.fr_model.specs.Tree.{State, initial, fresh, tree_occurs, whole, entered, deferred, one_more_call}
use Rattle.fr_partial.specs.Builder.{Builder}
use Rattle.fr_work.specs.BuiltValue.{BuiltValue}
use Rattle.fr_example.specs.declared.loader.LoadError.{LoadError}
use Rattle.fr_example.specs.Loading.{says_nothing, has_equals_sign, is_equals_sign, names_of, value_of, calls_of_pair, calls_of_line, calls_of_lines, IsRunTold, IsToldUnless}
use Rattle.fr_partial.specs.Several.{AreSteps}
use Rattle.fr_example.proofs.LoadingCalls.{IsOver, same_calls}
use Rattle.fr_example.proofs.LoadingEnds.{IsReading}
use Rattle.fr_example.proofs.LoadingRuns.{leads, lead_on, one_line_more}

-- The calls of a line

pub calls_if_nothing : (line : List ℕ) → says_nothing line ≡ true → calls_of_line line ≡ []
calls_if_nothing line e =
    ap (λ (s : Bool). if s then [] else if has_equals_sign line then calls_of_pair (names_of line) (value_of line) else []) e

pub calls_if_unparted : (line : List ℕ) → says_nothing line ≡ false → has_equals_sign line ≡ false → calls_of_line line ≡ []
calls_if_unparted line e none =
    ap (λ (s : Bool). if s then [] else if has_equals_sign line then calls_of_pair (names_of line) (value_of line) else []) e
    ∙ ap (λ (h : Bool). if h then calls_of_pair (names_of line) (value_of line) else []) none

calls_if_parted : (line : List ℕ) → says_nothing line ≡ false → has_equals_sign line ≡ true
    → calls_of_line line ≡ calls_of_pair (names_of line) (value_of line)
calls_if_parted line e has =
    ap (λ (s : Bool). if s then [] else if has_equals_sign line then calls_of_pair (names_of line) (value_of line) else []) e
    ∙ ap (λ (h : Bool). if h then calls_of_pair (names_of line) (value_of line) else []) has

-- those of its key and its value, as they were read
pub calls_read : (line key value key_read value_read : List ℕ) → says_nothing line ≡ false → has_equals_sign line ≡ true
    → key ≡ before_first is_equals_sign line → value ≡ after_first is_equals_sign line → key_read ≡ trim key → value_read ≡ trim value
    → calls_of_pair (slice_split (λ b. b == 46) key_read) value_read ≡ calls_of_line line
calls_read line key value key_read value_read says has key_is value_is key_trimmed value_trimmed =
    ap (λ (k : List ℕ). calls_of_pair (slice_split (λ b. b == 46) k) value_read) (key_trimmed ∙ ap trim key_is)
    ∙ ap (λ (v : List ℕ). calls_of_pair (names_of line) v) (value_trimmed ∙ ap trim value_is)
    ∙ sym (calls_if_parted line says has)

-- no call leaves the builder as it is
pub no_steps : {H : Type 0} (hooks : Meanings) (before : Builder H) (line : List ℕ) → calls_of_line line ≡ []
    → AreSteps hooks before (calls_of_line line) (Ok before)
no_steps hooks before line e = same_calls hooks before [] (calls_of_line line) (Ok before) (sym e) (refl, refl, refl, refl, refl)

-- The whole

-- no line was read yet
pub reads_none : (hooks : Meanings) (table : Table) (root : ℕ) (all : List (List ℕ)) (count : ℕ) (first now : State) → count ≡ 0
    → first ≡ initial table root → begin_deferred first ≡ Ok now → IsReading hooks table root all count now all
reads_none hooks table root all count first now none is begun = record {
  done = [];
  in_order = refl;
  counted = none;
  led =
      leads hooks table root Call.BeginDeferred (initial table root) now
      (subst (λ (state : State). begin_deferred state ≡ Ok now) is begun);
}

-- a line more was read
pub reads_more : (hooks : Meanings) (table : Table) (root : ℕ) (all : List (List ℕ)) (count more : ℕ) (before after : State) (line : List ℕ)
    (rest : List (List ℕ)) → more ≡ count + 1 → IsReading hooks table root all count before (line ∷ rest)
    → AllLeadTo hooks table root before (calls_of_line line) after → IsReading hooks table root all more after rest
reads_more hooks table root all count more before after line rest is reading led = record {
  done = reading.done ++ line ∷ [];
  in_order = reading.in_order ∙ sym (append_assoc reading.done (line ∷ []) rest);
  counted = omega (arith, is, reading.counted, length-append reading.done (line ∷ []));
  led =
      subst (λ (calls : List Call). AllLeadTo hooks table root (initial table root) calls after) (sym (one_line_more reading.done line))
      (lead_on hooks table root (calls_of_lines reading.done) (calls_of_line line) (initial table root) before after reading.led led);
}

-- the same count
pub recounted : (hooks : Meanings) (table : Table) (root : ℕ) (all : List (List ℕ)) (count told : ℕ) (now : State) (rest : List (List ℕ))
    → told ≡ count → IsReading hooks table root all count now rest → IsReading hooks table root all told now rest
recounted hooks table root all count told now rest e = subst (λ (n : ℕ). IsReading hooks table root all n now rest) (sym e)

-- each is one, and the run is told
pub run_told : (found : Option ℕ) (meant : Result Val Refusal) (result : Result BuiltValue LoadError) → None ≡ found → IsRunTold meant result
    → IsToldUnless found meant result
run_told found meant result e told = subst (λ (f : Option ℕ). IsToldUnless f meant result) e told

-- calls over what was given
pub given_calls : {H : Type 0} (means : H → Meanings) (given : H) (table : Table) (root : ℕ) (before : Builder H) (calls : List Call) (after : State)
    → IsOver table root given before → AllLeadTo (means before.hooks) before.shapes before.root before.state calls after
    → AllLeadTo (means given) table root before.state calls after
given_calls {H} means given table root before calls after over led =
    subst (λ (h : H). AllLeadTo (means h) table root before.state calls after) over.hooks
    (subst (λ (t : Table). AllLeadTo (means before.hooks) t root before.state calls after) over.shapes
    (subst (λ (r : ℕ). AllLeadTo (means before.hooks) before.shapes r before.state calls after) over.root led))

-- No token is held at the start

none_fresh : (def : Def) (t : ℕ) → tree_occurs (fresh def) t ≡ 0
none_fresh def t = go (is_empty_struct def)
  where
    go : (empty : Bool) → tree_occurs (if empty then whole (product no_vals) else entered) t ≡ 0
    go true = refl
    go false = refl

pub none_at_start : (table : Table) (root : ℕ) (first now : State) → first ≡ initial table root → begin_deferred first ≡ Ok now → (t : ℕ)
    → tree_occurs now.tree t ≡ 0
none_at_start table root first now is begun t =
    let started : begin_deferred (initial table root) ≡ Ok now = subst (λ (state : State). begin_deferred state ≡ Ok now) is begun in
    let same : record (initial table root) { mode = deferred 0; calls = one_more_call 0 } ≡ now = cc in
    sym (ap (λ (state : State). tree_occurs state.tree t) same) ∙ none_fresh (def_of table root) t
