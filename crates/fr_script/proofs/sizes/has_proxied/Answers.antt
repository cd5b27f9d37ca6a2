use Rattle.std.proofs.Common.{◌≡◌, ◌||◌, Bool, true, false, Some, get_or, sym, ap, ◌∙◌}
use Rattle.std.specs.Prelude.{slice_get}
use Rattle.std.proofs.lemmas.List.Folds.{list_any_at, list_any_more}
use Rattle.std.proofs.lemmas.Option.{slice_get_within, get_or_from_slice_get}
use Rattle.fr_shape.specs.declared.shape.Shape.{Shape}
use Rattle.fr_model.specs.Conversions.{has_proxies}
use Rattle.fr_script.proofs.sizes.has_proxied.Goals as goal

is_proxied : Shape → Bool
is_proxied shape = has_proxies shape.proxy shape.format_proxies

pub returns-then-is_proxied : goal.returns-then-is_proxied
unfolding is_proxied
returns-then-is_proxied c =
    let table = c.args.table.now in
    let id = c.loop-id.id in
    let shape = c.in-Some.shape.now in
    let found : slice_get table id ≡ Some shape = sym c.in-Some.ensures.value in
    let proxied : is_proxied shape ≡ true = sym c.is_proxied.ensures ∙ c.if-is_proxied.true in
    sym
    (list_any_at is_proxied table id shape (slice_get_within table id shape found)
    (ap is_proxied (get_or_from_slice_get table id shape shape found) ∙ proxied))

pub loop-id-preserved : goal.loop-id-preserved
unfolding is_proxied
loop-id-preserved c =
    let table = c.args.table.now in
    let id = c.loop-id.id in
    let shape = c.in-Some.shape.now in
    let found : slice_get table id ≡ Some shape = sym c.in-Some.ensures.value in
    let plain : is_proxied shape ≡ false = sym c.is_proxied.ensures ∙ c.if-is_proxied.false in
    list_any_more is_proxied table id shape (slice_get_within table id shape found)
    ∙ (ap (λ (before : Bool). before || is_proxied (get_or table id shape)) c.loop-id.invariant
    ∙ (ap is_proxied (get_or_from_slice_get table id shape shape found) ∙ plain))
