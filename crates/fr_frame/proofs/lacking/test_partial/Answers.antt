use Rattle.std.proofs.Common.{◌≡◌, ℕ, List, Option, Some, None, inl, refl, sym, ◌∙◌, ap, subst}
use Rattle.std.proofs.lemmas.Result.{on_ok_weaker, IfErr-weaker}
use Rattle.fr_frame.specs.Common.{Cell, IfErr, IsAnswer, Meanings, OnOk, PartialValue, Question, ReflectErrorKind, Table, Tracker, as_fields, as_tracker, ask, asked, begun_body, body_of, false, first_asked, is_conversion, is_conversion_body, shape_of}
use Rattle.fr_frame.proofs.AskLaws.{lack_is, unmet_is}
use Rattle.fr_frame.proofs.RulesOnChildren.{fields_are}
use Rattle.fr_frame.proofs.lacking.test_partial.Goals as goal

asked_begun : (question : Question) (means : Meanings) (table : Table) (s : ℕ) (tracker : Tracker) (cells : List Cell)
    → asked question means table s (begun_body tracker cells) ≡ first_asked (ask question means table s tracker) 0 cells
asked_begun Question.Strict means table s tracker cells = lack_is means table s tracker 0 cells
asked_begun Question.Marks means table s tracker cells = unmet_is means table s tracker 0 cells
asked_begun Question.There means table s tracker cells = refl

answers : (question : Question) (lacking : Option ReflectErrorKind) (kind : ReflectErrorKind) → lacking ≡ Some kind
    → IsAnswer question lacking kind
answers Question.Strict lacking kind e = inl e
answers _ lacking kind e = e

asked_partial : (question : Question) (means : Meanings) (table : Table) (s : ℕ) {partial : PartialValue} {tracker : _} {cells : List Cell}
    → partial ≡ PartialValue.Begun tracker cells
    → asked question means table s (body_of partial) ≡ first_asked (ask question means table s (as_tracker tracker)) 0 cells
asked_partial question means table s {partial} {tracker} {cells} is =
    ap (λ (p : PartialValue). asked question means table s (body_of p)) is
    ∙ asked_begun question means table s (as_tracker tracker) cells

pub returns-in-Some : goal.returns-in-Some
returns-in-Some g c =
    let question = c.args.question in
    let means = g.H.Hooks.means c.args.hooks.now in
    let table = c.args.table.now in
    let s = shape_of c.args.plan.now c.args.node in
    let is : asked question means table s (body_of c.args.partial.now)
    ≡ first_asked (ask question means table s (as_fields c.in-Some.selected)) 0 c.in-Begun.children
    = asked_partial question means table s c.in-Begun.is
    ∙ ap (λ (tracker : Tracker). first_asked (ask question means table s tracker) 0 c.in-Begun.children)
    (fields_are (as_tracker c.in-Begun.tracker) c.in-Some.selected (sym c.in-Some.ensures)) in
    record {
      passing = subst (λ (o : Option ReflectErrorKind). OnOk c.test_fields.result (o ≡ None)) (sym is) c.test_fields.ensures.passing;
      failing = subst (λ (o : Option ReflectErrorKind). IfErr c.test_fields.result (IsAnswer question o)) (sym is)
          c.test_fields.ensures.failing;
    }

pub returns-in-None : goal.returns-in-None
returns-in-None g c =
    let question = c.args.question in
    let means = g.H.Hooks.means c.args.hooks.now in
    let table = c.args.table.now in
    let tracker = as_tracker c.in-Begun.tracker in
    let is = asked_partial question means table (shape_of c.args.plan.now c.args.node) c.in-Begun.is in
    let plain : is_conversion tracker ≡ false
    = ap (λ (p : PartialValue). is_conversion_body (body_of p)) (sym c.in-Begun.is) ∙ c.requires.unconverted in
    record {
      passing = on_ok_weaker c.test_others.result (λ h. is ∙ h means table tracker (sym c.in-None.ensures) plain)
          c.test_others.ensures.passing;
      failing = IfErr-weaker c.test_others.result _ _ (λ kind h. answers question _ kind
          (is ∙ h means table tracker (sym c.in-None.ensures) plain))
          c.test_others.ensures.failing;
    }
