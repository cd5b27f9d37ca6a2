use Rattle.std.proofs.Common.{[], ap, ◌∙◌}
use Rattle.serde_json.specs.Written.{has_float}
use Rattle.fr_script.proofs.FloatFree.{plan_answer_float_free}
use Rattle.fr_script.proofs.plan_report.plan_report_of.Goals as goal

pub line_of-requires : goal.line_of-requires
line_of-requires c = ap has_float (c.in_ok-json.ensures [] 0) ∙ plan_answer_float_free [] 0 c.args.answer.now
