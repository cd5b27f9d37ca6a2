use Rattle.std.proofs.Common.{◌≡◌, ℕ, List, IfOk, ◌∙◌, ap, subst, rules}
use Rattle.std.specs.Str.Lines.{lines}
use Rattle.fr_example.specs.Mentions.{mentions_in, unnamed_keys}
use Rattle.fr_example.specs.Missing.{missing_keys}
use Rattle.fr_example.proofs.MissingKeys.{missing_of}
use Rattle.fr_example.proofs.missing.missing_keys.Goals as goal

pub returns : goal.returns
returns c =
    let table = c.args.table.now in
    let field = c.args.field in
    let all = lines c.args.text.now in
    let found : c.as_slice.result.now ≡ mentions_in table field.shape.0 c.as_str-name.result.now c.args.root.0 all
    = first_of (cc (c.as_slice.ensures.items, c.in_ok-mentions.ensures), cc (c.as_slice.ensures.items, c.mentions.view_is, c.in_ok-mentions.ensures), search rules) in
    let told : unnamed_keys c.as_slice.result.now ≡ missing_keys table c.args.root.0 field all
    = ap unnamed_keys found
    ∙ ap (λ (name : List ℕ). unnamed_keys (mentions_in table field.shape.0 name c.args.root.0 all)) c.as_str-name.ensures.bytes
    ∙ missing_of table c.args.root.0 field c.in-Some.wanted.now all c.in-Some.ensures.field in
    record {
      missing = subst (λ (want : List (List ℕ)). IfOk c.unnamed_keys.result (λ keys. keys ≡ want)) told c.unnamed_keys.ensures;
    }
