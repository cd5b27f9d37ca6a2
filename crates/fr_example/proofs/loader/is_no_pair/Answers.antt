use Rattle.std.proofs.Common.{sym, ◌∙◌, lit<}
use Rattle.std.proofs.lemmas.Str.Pattern.{split_once_first}
use Rattle.fr_example.proofs.LoadingTexts.{no_pair_is}
use Rattle.fr_example.proofs.loader.is_no_pair.Goals as goal

pub returns-then-not-says_nothing : goal.returns-then-not-says_nothing
returns-then-not-says_nothing c =
    no_pair_is c.args.line.now c.split_once.result c.is_none.result (sym c.says_nothing.ensures ∙ c.if-not-says_nothing.true)
    (split_once_first 61 c.args.line.now c.split_once.result c.split_once.ensures.cases (lit< tt)) c.is_none.ensures
