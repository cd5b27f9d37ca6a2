use Rattle.std.proofs.Common.{◌≡◌, ◌⊎◌, inl, inr, ⊎_elim, ℕ, ◌+◌, List, ◌∷◌, length, Option, None, Result, Ok, Err, refl, sym, ap, ◌∙◌, subst, arith}
use Rattle.std.specs.Result.{result_ok}
use Rattle.fr_shape.specs.declared.error.AllocError.{AllocError}
use Rattle.fr_shape.specs.declared.error.PlanError.{PlanError}
use Rattle.fr_shape.specs.declared.error.ReflectErrorKind.{ReflectErrorKind}
use Rattle.fr_shape.specs.Released.{Room}
use Rattle.fr_shape.specs.TokenLaws.{both, nothing, Room_same, Room_aside}
use Rattle.fr_shape.specs.Val.{Val}
use Rattle.fr_model.specs.declared.command.Command.{Command}
use Rattle.fr_model.specs.Commands.{call_of, calls_of}
use Rattle.fr_model.specs.Run.{Refusal, run_from, unless_alloc}
use Rattle.fr_model.specs.Scripts.{AllFitting, brings, brought}
use Rattle.fr_model.specs.Step.{step}
use Rattle.fr_model.specs.Tree.{initial, one_more_call}
use Rattle.fr_partial.specs.Builder.{holds}
use Rattle.fr_work.specs.Starting.{RefusedWith}
use Rattle.fr_script.specs.Outcomes.{kind_without_plan}
use Rattle.fr_script.proofs.AdmittedCommands.{same_step, runs_on, one_call_more}
use Rattle.fr_script.proofs.building.build_script.Given.{Over}
use Rattle.fr_script.proofs.building.build_script.Goals as goal
use Rattle.fr_script.proofs.building.build_script.Goals.{In-Some}

-- the first command and the others bring what the commands bring
split : (g : Over) (c : In-Some g) (t : ℕ)
    → brought (calls_of c.loop-command.commands.items) t
    ≡ brings (call_of c.in-Some.command) t + brought (calls_of c.pop_front.new.self.items) t
split g c t = ap (λ (commands : List Command). brought (calls_of commands) t) c.in-Some.ensures.items

room : (g : Over) (c : In-Some g)
    → Room
    (both (λ t. holds c.loop-command.partial t + brings (call_of c.in-Some.command) t)
    (brought (calls_of c.pop_front.new.self.items)))
    c.loop-command.ledger
room g c =
    Room_same (λ t. holds c.loop-command.partial t + brought (calls_of c.loop-command.commands.items) t)
    (both (λ t. holds c.loop-command.partial t + brings (call_of c.in-Some.command) t)
    (brought (calls_of c.pop_front.new.self.items)))
    c.loop-command.ledger (λ t. omega (arith, split g c t)) c.loop-command.invariant.room

pub release_commands-requires-in-Err-call : goal.release_commands-requires-in-Err-call
release_commands-requires-in-Err-call g c =
    Room_same (both nothing (brought (calls_of c.pop_front.new.self.items)))
    (brought (calls_of c.pop_front.new.self.items)) c.call.new.ledger (λ t. omega arith)
    (Room_aside (λ t. holds c.loop-command.partial t + brings (call_of c.in-Some.command) t) c.loop-command.ledger
    nothing c.call.new.ledger (brought (calls_of c.pop_front.new.self.items)) c.in-Err-call.ensures.call.tokens
    (room g (goal.at.release_commands-requires-in-Err-call g c).In-Some))

-- where there is no builder and memory isn't wanting, no run gives a value
unplanned : (why : PlanError) (refusal : Option AllocError) → RefusedWith {A = Unit {0}} refusal (Err why)
    → (kind_without_plan why ≡ ReflectErrorKind.OutOfMemory)
    ⊎ ((run : Result Val Refusal) → result_ok (unless_alloc refusal run) ≡ None)
unplanned (PlanError.Alloc error) refusal is =
    inr (λ run. ap (λ (found : Option AllocError). result_ok (unless_alloc found run)) is)
unplanned PlanError.OutOfMemory refusal is = inl refl

pub returns-in-Err-clause-journal : goal.returns-in-Err-clause-journal
returns-in-Err-clause-journal g c plain fields =
    ⊎_elim (λ memory. inl (c.kind_without_plan.ensures ∙ memory))
    (λ none.
    inr
    (sym
    (c.law_agree.ensures.agree (g.H.Hooks.means c.args.hooks.now) c.args.table.now c.args.root.0 (calls_of c.args.script) plain
    c.requires.root fields c.requires.valid.fitting)
    ∙ none
    (run_from (g.H.Hooks.means c.args.hooks.now) c.args.table.now c.args.root.0 0
    (initial c.args.table.now c.args.root.0) (calls_of c.args.script))))
    (unplanned c.in-Err.refused _ c.in-Err.ensures.refused)

-- the commands that are left after the first
one_fewer : (all rest : List Command) (first : Command) → all ≡ first ∷ rest → length all ≡ 1 + length rest
one_fewer all rest first is = ap (λ (commands : List Command). length commands) is ∙ omega arith

pub loop-command-preserved : goal.loop-command-preserved
loop-command-preserved g c =
    let means = g.H.Hooks.means c.args.hooks.now in
    let before = c.loop-command.partial in
    let rest = c.pop_front.new.self.items in
    let meant : step means c.args.table.now c.args.root.0 before.state (call_of c.in-Some.command) ≡ Ok c.in-Ok-call.next.state
    = same_step (g.H.Hooks.means before.hooks) means before.shapes c.args.table.now before.root c.args.root.0 before.state
    (call_of c.in-Some.command) (Ok c.in-Ok-call.next.state) (ap g.H.Hooks.means c.loop-command.invariant.hooks)
    c.loop-command.invariant.shapes c.loop-command.invariant.root c.in-Ok-call.ensures.call.step.0 in
    let counted : c.in-Ok-call.next.state.calls ≡ one_more_call before.state.calls
    = one_call_more means c.args.table.now c.args.root.0 before.state c.in-Ok-call.next.state (call_of c.in-Some.command) meant in
    let fewer : length c.loop-command.commands.items ≡ 1 + length rest
    = one_fewer c.loop-command.commands.items rest c.in-Some.command c.in-Some.ensures.items in
    record {
      count = omega (arith, fewer, c.loop-command.invariant.count);
      shapes = c.in-Ok-call.ensures.call.step.1 ∙ c.loop-command.invariant.shapes;
      hooks = c.in-Ok-call.ensures.call.step.3 ∙ c.loop-command.invariant.hooks;
      root = c.in-Ok-call.ensures.call.step.2 ∙ c.loop-command.invariant.root;
      made = omega (arith, counted, fewer, c.loop-command.invariant.made, c.loop-command.invariant.count, c.requires.few);
      run =
          runs_on means c.args.table.now c.args.root.0 c.loop-command.number before.state c.in-Ok-call.next.state
          (call_of c.in-Some.command) (calls_of rest) meant
          ∙ (ap
          (λ (commands : List Command). run_from means c.args.table.now c.args.root.0 c.loop-command.number before.state (calls_of commands))
          (sym c.in-Some.ensures.items)
          ∙ c.loop-command.invariant.run);
      fitting =
          (subst (λ (commands : List Command). AllFitting c.args.table.now (calls_of commands)) c.in-Some.ensures.items
          c.loop-command.invariant.fitting).1;
      conserved = record {
        same_length = c.in-Ok-call.ensures.call.tokens.same_length ∙ c.loop-command.invariant.conserved.same_length;
        kept_or_released = λ t.
            omega (
              arith,
              c.loop-command.invariant.conserved.kept_or_released t,
              c.in-Ok-call.ensures.call.tokens.kept_or_released t,
              split g (goal.at.loop-command-preserved g c).In-Some t,
            );
        none_falls = λ t.
            omega (
              arith,
              c.loop-command.invariant.conserved.none_falls t,
              c.in-Ok-call.ensures.call.tokens.none_falls t,
            );
      };
      room =
          Room_aside (λ t. holds before t + brings (call_of c.in-Some.command) t) c.loop-command.ledger
          (holds c.in-Ok-call.next) c.call.new.ledger (brought (calls_of rest)) c.in-Ok-call.ensures.call.tokens
          (room g (goal.at.loop-command-preserved g c).In-Some);
    }
