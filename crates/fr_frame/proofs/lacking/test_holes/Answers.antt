use Rattle.std.proofs.Common.{◌≡◌, ℕ, replicate, None, Option, refl, sym, ◌∙◌, ap, subst}
use Rattle.fr_frame.specs.Common.{IfErr, IsAnswer, IsFullAs, Meanings, OnOk, Question, ReflectErrorKind, Table, absent, as_fields, ask, ask_holes, child_count, def_of, first_asked, first_unmet, shape_of}
use Rattle.fr_frame.proofs.AskLaws.{holes_are, holes_lack, unmet_is}
use Rattle.std.proofs.lemmas.List.{length-replicate}
use Rattle.fr_frame.proofs.lacking.test_holes.Goals as goal

holes_asked : (question : Question) (means : Meanings) (table : Table) (s : ℕ)
    → first_asked (ask question means table s (as_fields None)) 0 (replicate (child_count table s) absent) ≡ ask_holes question means table s
holes_asked Question.Strict means table s = sym (holes_lack means table s (as_fields None) (child_count table s) 0)
holes_asked Question.Marks means table s =
    sym (unmet_is means table s (as_fields None) 0 (replicate (child_count table s) absent))
    ∙ ap (first_unmet table s (as_fields None) 0) (holes_are (child_count table s))
holes_asked Question.There means table s = refl

pub test_fields-requires-clause-full : goal.test_fields-requires-clause-full
test_fields-requires-clause-full g c =
    subst (IsFullAs (def_of c.args.table.now (shape_of c.args.plan.now c.args.node)) (as_fields None))
    (sym (length-replicate (child_count c.args.table.now (shape_of c.args.plan.now c.args.node)) absent)) c.requires.described

pub returns-clause-passing : goal.returns-clause-passing
returns-clause-passing g c =
    subst (λ (o : Option ReflectErrorKind). OnOk c.test_fields.result (o ≡ None))
    (holes_asked c.args.question (g.H.Hooks.means c.args.hooks.now) c.args.table.now (shape_of c.args.plan.now c.args.node))
    c.test_fields.ensures.passing

pub returns-clause-failing : goal.returns-clause-failing
returns-clause-failing g c =
    subst (λ (o : Option ReflectErrorKind). IfErr c.test_fields.result (IsAnswer c.args.question o))
    (holes_asked c.args.question (g.H.Hooks.means c.args.hooks.now) c.args.table.now (shape_of c.args.plan.now c.args.node))
    c.test_fields.ensures.failing
