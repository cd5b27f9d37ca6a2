use Rattle.std.proofs.Common.{◌≡◌, ◌-◌, ◌++◌, ℕ, List, length, take, ap, sym, arith, ◌∙◌}
use Rattle.fr_values.specs.Common.{Value, parts_of_entries}
use Rattle.fr_values.proofs.EntriesInTurn.{last_gone, not_none}
use Rattle.fr_values.proofs.child_values.ChildValues.pop.Goals as goal

pub returns : goal.returns
returns c =
    let es = c.self.inside.entries.items in
    let vs = c.self.inside.values.items in
    let count : c.len-2.result ≡ length vs = omega arith in
    ap (λ (l : List Value). parts_of_entries es ++ l) c.truncate-2.ensures.items
    ∙ ap (λ (n : ℕ). parts_of_entries es ++ take (n - 1) vs) count ∙ last_gone es vs (omega (arith, not_none _ (sym c.is_empty.ensures ∙ c.if-is_empty.false)))
    ∙ ap (λ (l : List Value). take (length l - 1) l) c.self.view_is
