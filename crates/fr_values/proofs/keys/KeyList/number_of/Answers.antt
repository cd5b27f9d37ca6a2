use Rattle.std.proofs.Common.{rules}
use Rattle.fr_values.specs.Common.{the_lemmas}
use Rattle.fr_values.proofs.KeyLaws.{found_in}
use Rattle.fr_values.proofs.keys.KeyList.number_of.Goals as goal

pub returns-clause-number : goal.returns-clause-number
returns-clause-number c =
    found_in c.args.key c.args.self.now c.self.inside.names.items c.as_slice.result.now _ c.find-found.result
    c.find-found.ensures.there c.find-found.ensures.found c.find-found.ensures.same (search (rules, the_lemmas))
    c.as_slice.ensures.value c.self.invariant.texts c.self.view_is c.requires.apart
