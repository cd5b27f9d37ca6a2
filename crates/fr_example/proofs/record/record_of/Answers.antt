use Rattle.std.proofs.Common.{◌≡◌, ℕ, List, ◌++◌, length, Result, Err, sym, ◌∙◌, ap, subst, arith, rules}
use Rattle.std.specs.Vec.Iter.{into_iter_items}
use Rattle.fr_shape.specs.Hooks.{Meanings}
use Rattle.fr_shape.specs.Look.{Table}
use Rattle.fr_work.specs.BuiltValue.{BuiltValue}
use Rattle.fr_work.specs.declared.reflect_error.ReflectError.{ReflectError}
use Rattle.fr_example.specs.declared.record.Pair.{Pair}
use Rattle.fr_example.specs.Meant.{pairs_meant, record_meant, IsMeant, TellsPlace}
use Rattle.fr_example.proofs.Loop.{struct_within, planned_means, filled_more, loop_refused, loop_built, all_taken, one_taken}
use Rattle.fr_example.proofs.Placing.{unplanned_place, loop_place, if_built_place}
use Rattle.fr_example.proofs.TextsWithoutTokens.{stays}
use Rattle.fr_example.proofs.record.record_of.Goals as goal

-- what the hooks of the builder mean, those that were handed in mean
over_given : (own given : Meanings) (table : Table) (root string : ℕ) (pairs : List Pair) (result : Result BuiltValue ReflectError)
    → own ≡ given → IsMeant (record_meant own table root string pairs) result → IsMeant (record_meant given table root string pairs) result
over_given own given table root string pairs result same =
    subst (λ (hooks : Meanings). IsMeant (record_meant hooks table root string pairs) result) same

pub returns-in_err-partial-clause-meant : goal.returns-in_err-partial-clause-meant
returns-in_err-partial-clause-meant g c =
    let own = g.H.Hooks.means c.loop-pair.partial.hooks in
    let told : IsMeant (pairs_meant own c.args.table.now c.args.root.0 c.args.string.0 c.args.pairs) (Err c.in_err-partial.field-0.0)
    = loop_refused own c.args.table.now c.args.root.0 c.args.string.0 c.loop-pair.yielded c.in-Some.pair
    (into_iter_items c.next.new.self) c.args.pairs c.loop-pair.partial c.in_err-partial.field-0.0 c.requires.checked c.requires.root c.requires.string
    c.loop-pair.invariant.root c.loop-pair.invariant.filled
    (c.loop-pair.invariant.pairs
    ∙ ap (λ left. c.loop-pair.yielded ++ left) c.in-Some.ensures.steps.0)
    c.in_err-partial.ensures.put in
    let meant : IsMeant (record_meant (g.H.Hooks.means c.args.hooks.now) c.args.table.now c.args.root.0 c.args.string.0 c.args.pairs)
    (Err c.in_err-partial.field-0.0)
    = over_given own _ c.args.table.now c.args.root.0 c.args.string.0 c.args.pairs (Err c.in_err-partial.field-0.0)
    (ap g.H.Hooks.means c.loop-pair.invariant.hooks)
    (planned_means own c.args.table.now c.args.root.0 c.args.string.0 c.args.pairs (Err c.in_err-partial.field-0.0)
    c.in-Ok.ensures.refused told) in
    search rules

pub loop-pair-preserved : goal.loop-pair-preserved
loop-pair-preserved g c = record {
  pairs =
      one_taken c.loop-pair.yielded (into_iter_items c.loop-pair.pair-iterator) (into_iter_items c.next.new.self)
      c.args.pairs c.in-Some.pair c.loop-pair.invariant.pairs c.in-Some.ensures.steps.0;
  left =
      omega (
        arith,
        c.loop-pair.invariant.left,
        ap (λ items. length items) c.in-Some.ensures.steps.0,
        c.in-Some.ensures.steps.1,
      );
  shapes = c.in_ok-partial.ensures.put.1 ∙ c.loop-pair.invariant.shapes;
  hooks = c.in_ok-partial.ensures.put.3 ∙ c.loop-pair.invariant.hooks;
  root = c.in_ok-partial.ensures.put.2 ∙ c.loop-pair.invariant.root;
  filled =
      filled_more (g.H.Hooks.means c.loop-pair.partial.hooks) c.args.table.now c.args.root.0 c.args.string.0 c.loop-pair.yielded c.in-Some.pair
      c.loop-pair.partial.state c.in_ok-partial.partial.state c.requires.checked c.requires.root c.requires.string c.loop-pair.invariant.filled
      (rw (← c.loop-pair.invariant.root) c.in_ok-partial.ensures.put.0);
  tokens = c.in_ok-partial.ensures.tokens;
  ledger = c.put.ensures.released ∙ c.loop-pair.invariant.ledger;
}

pub returns-clause-meant : goal.returns-clause-meant
returns-clause-meant g c =
    let own = g.H.Hooks.means c.loop-pair.partial.hooks in
    over_given own _ c.args.table.now c.args.root.0 c.args.string.0 c.args.pairs c.build.result (ap g.H.Hooks.means c.loop-pair.invariant.hooks)
    (planned_means own c.args.table.now c.args.root.0 c.args.string.0 c.args.pairs c.build.result c.in-Ok.ensures.refused
    (loop_built own c.args.table.now c.args.root.0 c.args.string.0 c.loop-pair.yielded c.args.pairs c.loop-pair.partial
    c.build.result c.requires.root c.loop-pair.invariant.shapes c.loop-pair.invariant.root
    c.loop-pair.invariant.filled
    (all_taken c.loop-pair.yielded (into_iter_items c.loop-pair.pair-iterator) c.args.pairs
    c.loop-pair.invariant.pairs (sym c.loop-pair.invariant.left ∙ c.in-None.ensures.steps.0))
    c.build.ensures.build.built))

pub returns-clause-released : goal.returns-clause-released
returns-clause-released g c = stays _ _ _ _ c.build.ensures.build.tokens c.loop-pair.invariant.tokens ∙ c.loop-pair.invariant.ledger

pub alloc_shape-requires-clause-shape : goal.alloc_shape-requires-clause-shape
alloc_shape-requires-clause-shape g c = struct_within c.args.table.now c.args.root.0 c.requires.root

pub returns-in-Err-clause-place : goal.returns-in-Err-clause-place
returns-in-Err-clause-place g c =
    unplanned_place c.args.table.now c.args.root.0 c.args.string.0 c.args.pairs c.in-Err.refused c.unplanned.result c.in-Err.ensures.refused
    c.unplanned.ensures.kind c.unplanned.ensures.path

pub returns-in_err-partial-clause-place : goal.returns-in_err-partial-clause-place
returns-in_err-partial-clause-place g c =
    let told : TellsPlace c.args.table.now c.args.root.0 c.args.string.0 c.args.pairs c.in_err-partial.field-0.0
    = loop_place c.args.table.now c.args.root.0 c.args.string.0 (g.H.Hooks.means c.loop-pair.partial.hooks) c.loop-pair.yielded
    c.in-Some.pair (into_iter_items c.next.new.self) c.args.pairs c.loop-pair.partial c.in_err-partial.field-0.0 c.requires.checked c.requires.root c.requires.string
    c.loop-pair.invariant.root c.loop-pair.invariant.filled
    (c.loop-pair.invariant.pairs ∙ ap (λ left. c.loop-pair.yielded ++ left) c.in-Some.ensures.steps.0) c.in-Ok.ensures.refused
    c.in_err-partial.ensures.put c.in_err-partial.ensures.place in
    search rules

pub returns-clause-place : goal.returns-clause-place
returns-clause-place g c =
    if_built_place c.args.table.now c.args.root.0 c.args.string.0 c.loop-pair.yielded c.args.pairs c.loop-pair.partial c.build.result
    c.in-Ok.ensures.refused c.loop-pair.invariant.filled
    (all_taken c.loop-pair.yielded (into_iter_items c.loop-pair.pair-iterator) c.args.pairs
    c.loop-pair.invariant.pairs (sym c.loop-pair.invariant.left ∙ c.in-None.ensures.steps.0))
    c.build.ensures.build.path
