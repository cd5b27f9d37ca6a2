use Rattle.std.proofs.Common.{ℕ, MatchOption, sym, subst}
use Rattle.fr_shape.specs.Checked.{EachKeeps}
use Rattle.fr_shape.specs.Faults.{keeps, IsBrokenAt}
use Rattle.fr_shape.proofs.checking.first_fault.Goals as goal

-- names are the second rule
pub returns-in-Ok-clause-broken : goal.returns-in-Ok-clause-broken
returns-in-Ok-clause-broken c =
    let table = c.args.table.now in
    subst (λ (rule : ℕ). MatchOption c.in-Ok.taken (EachKeeps table (keeps table rule)) (λ entry. IsBrokenAt table rule entry))
    (sym c.if-rule-eq2.true) c.in-Ok.ensures.taken
