use Rattle.std.proofs.Common.{◌≡◌, ℕ, ◌++◌, List, [], Bool, false, None, append-nil, sym, ◌∙◌, ap₂, lit<}
use Rattle.std.specs.Prelude.{if◌then◌else◌}
use Rattle.std.proofs.lemmas.Str.Pattern.{split_once_first}
use Rattle.fr_shape.specs.Look.{Table}
use Rattle.fr_example.specs.declared.missing.Mention.{Mention}
use Rattle.fr_example.specs.Loading.{has_equals_sign, names_of, says_nothing}
use Rattle.fr_example.specs.Mentions.{mentions_from, mentions_of_line}
use Rattle.fr_example.proofs.LoadingTexts.{unparted_has}
use Rattle.fr_example.proofs.missing.mention_line.Goals as goal

-- a line without a `=` brings none
brings_none : (table : Table) (shape : ℕ) (field : List ℕ) (root : ℕ) (line : List ℕ) (mentions : List Mention) → says_nothing line ≡ false
    → has_equals_sign line ≡ false → mentions ≡ mentions ++ mentions_of_line table shape field root line
brings_none table shape field root line mentions says has =
    sym (
    ap₂ (λ (s h : Bool). mentions ++ (if s then [] else if h then mentions_from table shape field root (names_of line) else [])) says has
    ∙ append-nil mentions
    )

pub returns-in-None : goal.returns-in-None
returns-in-None c =
    brings_none c.args.table.now c.args.shape.0 c.args.wanted.now c.args.root.0 c.args.line.now c.args.mentions.now
    (sym c.says_nothing.ensures ∙ c.if-says_nothing.false)
    (unparted_has c.args.line.now (split_once_first 61 c.args.line.now None c.in-None.ensures.cases (lit< tt)))
