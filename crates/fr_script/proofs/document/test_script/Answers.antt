use Rattle.std.proofs.Common.{◌≡◌, [], None, Some, false, replicate, sym, ap, ◌∙◌}
use Rattle.fr_model.specs.Commands.{calls_of}
use Rattle.fr_script.specs.Documents.{first_invalid, invalid, script_passes}
use Rattle.fr_script.proofs.BroughtLaws.{new_verdict}
use Rattle.fr_script.proofs.document.test_script.Goals as goal

pub returns-in-None : goal.returns-in-None
unfolding script_passes
returns-in-None c =
    let document = c.args.document.now in
    let new : c.as_mut_slice.result.now ≡ replicate document.tokens false = c.as_mut_slice.ensures.value ∙ c.in-Ok.ensures.items_if_clones_equal (λ y same. same) in
    let none : first_invalid document.table (replicate document.tokens 0) [] 0 (calls_of document.script) ≡ None
    = sym (new_verdict document.table document.tokens (calls_of document.script) c.as_mut_slice.result.now new) ∙ sym c.in-None.ensures in
    ap invalid none

pub returns : goal.returns
unfolding script_passes
returns c =
    let document = c.args.document.now in
    let new : c.as_mut_slice.result.now ≡ replicate document.tokens false = c.as_mut_slice.ensures.value ∙ c.in-Ok.ensures.items_if_clones_equal (λ y same. same) in
    let found : first_invalid document.table (replicate document.tokens 0) [] 0 (calls_of document.script) ≡ Some c.in-Some.i
    = sym (new_verdict document.table document.tokens (calls_of document.script) c.as_mut_slice.result.now new) ∙ sym c.in-Some.ensures in
    ap invalid found
