use Rattle.std.proofs.Common.{◌≡◌, sym, ◌∙◌, string_bytes, rules}
use Rattle.serde_json.specs.Data.{string}
use Rattle.serde_json.specs.View.{view as data_of}
use Rattle.serde_json.specs.declared.value.Value.{the_lemmas as value_lemmas}
use Rattle.fr_script.proofs.Arguments.{none_with_many}
use Rattle.fr_script.proofs.command_form.command_of.Goals as goal

pub returns-in_default-arguments : goal.returns-in_default-arguments
returns-in_default-arguments c =
    let arm = c.in-Some-String-default in
    let named : data_of arm.field-0-0.now ≡ string (string_bytes arm.word) = rw arm.field-0-0-is (search (rules, value_lemmas)) in
    none_with_many c.args.json.now c.in-Array.items arm.field-0-0.now (string_bytes arm.word) arm.arguments.now c.in-Array.is
    (sym c.as_slice.ensures.value ∙ arm.ensures.cases.0) named c.in_default-arguments.len_at_least
