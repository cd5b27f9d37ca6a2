use Rattle.std.proofs.Common.{None, sym, ◌∙◌, lit<}
use Rattle.std.proofs.lemmas.Str.Pattern.{split_once_first}
use Rattle.fr_example.proofs.LoadingTexts.{unparted_has}
use Rattle.fr_example.proofs.LoadingTold.{calls_if_unparted, no_steps}
use Rattle.fr_example.proofs.loader.put_line.Goals as goal

pub returns-in-None-clause-steps : goal.returns-in-None-clause-steps
returns-in-None-clause-steps g c =
    no_steps (g.H.Hooks.means c.args.partial.hooks) c.args.partial c.args.line.now
    (calls_if_unparted c.args.line.now (sym c.says_nothing.ensures ∙ c.if-says_nothing.false)
    (unparted_has c.args.line.now (split_once_first 61 c.args.line.now None c.in-None.ensures.cases (lit< tt))))
