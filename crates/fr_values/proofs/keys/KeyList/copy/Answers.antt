use Rattle.std.proofs.Common.{List, ap, ◌∙◌}
use Rattle.std.proofs.lemmas.Result.{IfOk-weaker}
use Rattle.fr_values.specs.Common.{Value, names_of}
use Rattle.fr_model.specs.Dynamics.{key_nth}
use Rattle.fr_values.specs.SliceLaws.{got}
use Rattle.fr_values.proofs.KeyLaws.{name_nth, no_name_nth}
use Rattle.fr_values.proofs.keys.KeyList.copy.Goals as goal

pub returns-in-Some : goal.returns-in-Some
returns-in-Some c = record {
  copy =
      IfOk-weaker c.copy_of.result _ _ (λ key is. is ∙ name_nth c.deref.result.now c.args.i c.in-Some.name.now
      (got c.deref.result.now c.args.i c.in-Some.name.now c.in-Some.ensures.lookup.3.0 c.in-Some.ensures.lookup.1)
      ∙ ap (λ (names : List Value). key_nth (names_of names) c.args.i) c.deref.ensures.value
      ∙ ap (λ keys. key_nth keys c.args.i) c.self.view_is) c.copy_of.ensures;
}

pub returns-in-None : goal.returns-in-None
returns-in-None c = record {
  copy =
      c.default.ensures ∙ no_name_nth c.deref.result.now c.args.i c.in-None.ensures.lookup.3
      ∙ ap (λ (names : List Value). key_nth (names_of names) c.args.i) c.deref.ensures.value
      ∙ ap (λ keys. key_nth keys c.args.i) c.self.view_is;
}
