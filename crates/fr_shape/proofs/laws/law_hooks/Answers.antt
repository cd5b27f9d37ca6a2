use Rattle.fr_shape.proofs.laws.law_hooks.Goals as goal

pub returns : goal.returns
returns g c = record { lawful = λ hooks. g.met.H.Hooks.lawful hooks }
