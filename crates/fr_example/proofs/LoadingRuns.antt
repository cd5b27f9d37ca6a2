-- A run of calls, of which the first are admitted.
use Rattle.std.proofs.Common.{◌≡◌, ℕ, ◌+◌, ◌-◌, ◌<◌, ◌≤◌, ◌++◌, List, [], ◌∷◌, length, append_assoc, length-append, Result, Ok, Err, refl, sym, ◌∙◌, ap, subst, arith}
use Rattle.std.specs.Prelude.{flat_map}
use Rattle.std.proofs.lemmas.Grind.{flat_map-append}
use Rattle.std.proofs.Math.Seq.{take-append_seam, take-append-add, take-length}
use Rattle.fr_shape.specs.Hooks.{Meanings}
use Rattle.fr_shape.specs.Look.{Table}
use Rattle.fr_shape.specs.declared.error.ReflectErrorKind.{ReflectErrorKind}
use Rattle.fr_model.specs.Commands.{Call}
use Rattle.fr_model.specs.Run.{refused_at, run_from, and_then}
use Rattle.fr_model.specs.Step.{step}
use Rattle.fr_model.specs.Sequences.{AllLeadTo, IsAdmittedThen}
use Rattle.fr_model.specs.Tree.{State}
use Rattle.fr_example.specs.Loading.{calls_of_line, calls_of_lines, script_of, calls_up_to, IsOfLine}

module _ (hooks : Meanings) (table : Table) (root : ℕ) where
  -- calls, and then others
  pub lead_on : (calls others : List Call) (state between last : State) → AllLeadTo hooks table root state calls between
      → AllLeadTo hooks table root between others last → AllLeadTo hooks table root state (calls ++ others) last
  lead_on [] others state between last led others_led =
      subst (λ (s : State). AllLeadTo hooks table root s others last) (sym led) others_led
  lead_on (call ∷ calls) others state between last led others_led =
      go (λ next led. lead_on calls others next between last led others_led) (step hooks table root state call) led
    where
      go : ((next : State) → AllLeadTo hooks table root next calls between → AllLeadTo hooks table root next (calls ++ others) last)
          → (outcome : Result State ReflectErrorKind) → IsAdmittedThen outcome (λ next. AllLeadTo hooks table root next calls between)
          → IsAdmittedThen outcome (λ next. AllLeadTo hooks table root next (calls ++ others) last)
      go again (Ok next) led = again next led
      go again (Err kind) led = absurd led

  -- one call
  pub leads : (call : Call) (state next : State) → step hooks table root state call ≡ Ok next
      → AllLeadTo hooks table root state (call ∷ []) next
  leads call state next e = subst (λ (o : Result State ReflectErrorKind). IsAdmittedThen o (λ s. s ≡ next)) (sym e) refl

  -- the run goes on behind the calls that are admitted
  pub runs_behind : (n : ℕ) (calls others : List Call) (state last : State) → AllLeadTo hooks table root state calls last
      → run_from hooks table root n state (calls ++ others) ≡ run_from hooks table root (n + length calls) last others
  runs_behind n [] others state last led =
      ap (λ (s : State). run_from hooks table root n s others) led
      ∙ ap (λ (m : ℕ). run_from hooks table root m last others) (omega arith)
  runs_behind n (call ∷ calls) others state last led =
      go (λ next led. runs_behind (n + 1) calls others next last led) (step hooks table root state call) led
    where
      go : ((next : State) → AllLeadTo hooks table root next calls last
          → run_from hooks table root (n + 1) next (calls ++ others) ≡ run_from hooks table root (n + 1 + length calls) last others)
          → (outcome : Result State ReflectErrorKind) → IsAdmittedThen outcome (λ next. AllLeadTo hooks table root next calls last)
          → and_then n state outcome (λ next. run_from hooks table root (n + 1) next (calls ++ others))
          ≡ run_from hooks table root (n + length (call ∷ calls)) last others
      go again (Ok next) led =
          again next led ∙ ap (λ (m : ℕ). run_from hooks table root m last others) (omega arith)
      go again (Err kind) led = absurd led

  -- and is refused with the first that isn't
  pub run_refused : (n : ℕ) (made : List Call) (stopped : Call) (unmade : List Call) (state at : State) (kind : ReflectErrorKind)
      → AllLeadTo hooks table root state made at → step hooks table root at stopped ≡ Err kind
      → run_from hooks table root n state (made ++ stopped ∷ unmade) ≡ Err (refused_at (n + length made) at kind)
  run_refused n made stopped unmade state at kind led refused =
      runs_behind n made (stopped ∷ unmade) state at led
      ∙ ap (λ (o : Result State ReflectErrorKind). and_then (n + length made) at o (λ next. run_from hooks table root (n + length made + 1) next unmade)) refused

-- Calls of lines

pub lines_in_order : (done rest : List (List ℕ)) → calls_of_lines (done ++ rest) ≡ calls_of_lines done ++ flat_map calls_of_line rest
lines_in_order done rest = ap (λ (calls : List Call). Call.BeginDeferred ∷ calls) (flat_map-append calls_of_line done rest)

no_more : (calls : List Call) → calls ++ [] ≡ calls
no_more [] = refl
no_more (call ∷ calls) = ap (λ (cs : List Call). call ∷ cs) (no_more calls)

-- one line more
pub one_line_more : (done : List (List ℕ)) (line : List ℕ) → calls_of_lines (done ++ line ∷ []) ≡ calls_of_lines done ++ calls_of_line line
one_line_more done line =
    lines_in_order done (line ∷ []) ∙ ap (λ (calls : List Call). calls_of_lines done ++ calls) (no_more (calls_of_line line))

rearranged : (before made unmade after last : List Call) (stopped : Call)
    → (before ++ ((made ++ stopped ∷ unmade) ++ after)) ++ last ≡ (before ++ made) ++ stopped ∷ (unmade ++ after ++ last)
rearranged before made unmade after last stopped = simp append_assoc

-- where a line's calls stop at one, the script does
pub script_stops : (all done : List (List ℕ)) (line : List ℕ) (rest : List (List ℕ)) (made : List Call) (stopped : Call) (unmade : List Call)
    → all ≡ done ++ line ∷ rest → calls_of_line line ≡ made ++ stopped ∷ unmade
    → script_of all
    ≡ (calls_of_lines done ++ made) ++ stopped ∷ (unmade ++ flat_map calls_of_line rest ++ Call.FinishDeferred ∷ [])
script_stops all done line rest made stopped unmade is stops =
    ap (λ (lines : List (List ℕ)). script_of lines) is
    ∙ ap (λ (calls : List Call). calls ++ Call.FinishDeferred ∷ []) (lines_in_order done (line ∷ rest))
    ∙ ap (λ (calls : List Call). (calls_of_lines done ++ (calls ++ flat_map calls_of_line rest)) ++ Call.FinishDeferred ∷ []) stops
    ∙ rearranged (calls_of_lines done) made unmade (flat_map calls_of_line rest) (Call.FinishDeferred ∷ []) stopped

-- how many calls come before the line, and up to its end
pub calls_before : (done : List (List ℕ)) (line : List ℕ) (rest : List (List ℕ))
    → calls_up_to (done ++ line ∷ rest) (length done) ≡ length (calls_of_lines done)
calls_before done line rest =
    ap (λ (lines : List (List ℕ)). length (calls_of_lines lines)) (take-append_seam done (line ∷ rest))

pub calls_through : (done : List (List ℕ)) (line : List ℕ) (rest : List (List ℕ))
    → calls_up_to (done ++ line ∷ rest) (length done + 1) ≡ length (calls_of_lines done) + length (calls_of_line line)
calls_through done line rest =
    ap (λ (lines : List (List ℕ)). length (calls_of_lines lines)) (take-append-add done (line ∷ rest) 1)
    ∙ ap (λ (calls : List Call). length calls) (one_line_more done line)
    ∙ length-append (calls_of_lines done) (calls_of_line line)

pub is_of_line : (all done : List (List ℕ)) (line : List ℕ) (rest : List (List ℕ)) (made : List Call) (stopped : Call) (unmade : List Call)
    (at : State) (kind : ReflectErrorKind)
    → all ≡ done ++ line ∷ rest → calls_of_line line ≡ made ++ stopped ∷ unmade
    → IsOfLine all (length done + 1) (refused_at (0 + length (calls_of_lines done ++ made)) at kind)
is_of_line all done line rest made stopped unmade at kind is stops =
    subst (λ (lines : List (List ℕ)). IsOfLine lines (length done + 1) (refused_at (0 + length (calls_of_lines done ++ made)) at kind)) (sym is)
    (first, second)
  where
    counted : length (calls_of_line line) ≡ length made + (length unmade + 1)
    counted = ap (λ (calls : List Call). length calls) stops ∙ length-append made (stopped ∷ unmade) ∙ omega arith

    first : calls_up_to (done ++ line ∷ rest) (length done + 1 - 1) ≤ 0 + length (calls_of_lines done ++ made)
    first =
        let number : length done + 1 - 1 ≡ length done = omega arith in
        rw number (omega (arith, calls_before done line rest, length-append (calls_of_lines done) made))

    second : 0 + length (calls_of_lines done ++ made) < calls_up_to (done ++ line ∷ rest) (length done + 1)
    second = omega (arith, calls_through done line rest, counted, length-append (calls_of_lines done) made)

-- the end comes after all lines
pub calls_of_all : (lines : List (List ℕ)) → calls_up_to lines (length lines) ≡ length (calls_of_lines lines)
calls_of_all lines = ap (λ (ls : List (List ℕ)). length (calls_of_lines ls)) (take-length lines)
