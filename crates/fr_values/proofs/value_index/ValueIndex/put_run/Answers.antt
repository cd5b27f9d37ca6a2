use Rattle.std.proofs.Common.{◌<◌, ◌∷◌, ◌++◌, [], length, map, take, sym, ap, ◌∙◌, arith}
use Rattle.std.proofs.lemmas.List.{take_more_set, map_push, take-map}
use Rattle.fr_values.proofs.value_index.ValueIndex.put_run.Goals as goal

pub returns-then-from-len-clause-put : goal.returns-then-from-len-clause-put
returns-then-from-len-clause-put c =
    let runs = c.args.self.now.runs.items in
    let h : c.args.from < length runs = omega arith in
    ap (map (λ run. run.items)) (c.truncate.ensures.items ∙ take_more_set runs c.args.from c.args.run h)
    ∙ map_push (λ run. run.items) (take c.args.from runs) c.args.run
    ∙ ap (λ l. l ++ c.args.run.items ∷ []) (sym (take-map (λ run. run.items) c.args.from runs))
