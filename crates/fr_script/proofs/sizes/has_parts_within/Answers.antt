use Rattle.std.proofs.Common.{◌≡◌, Some, sym}
use Rattle.std.specs.Prelude.{slice_get}
use Rattle.std.proofs.lemmas.Option.{slice_get_within, get_or_from_slice_get}
use Rattle.fr_shape.specs.declared.shape.Shape.{Shape}
use Rattle.fr_script.specs.Documents.{part_count}
use Rattle.fr_script.proofs.SizeLaws.{counted_off, too_many, is_over}
use Rattle.fr_script.proofs.sizes.has_parts_within.Goals as goal

pub returns-in-None : goal.returns-in-None
returns-in-None c =
    let table = c.args.table.now in
    let id = c.loop-id.id in
    let shape = c.in-Some.shape.now in
    let found : slice_get table id ≡ Some shape = sym c.in-Some.ensures.value in
    is_over _ _ (too_many (λ (s : Shape). part_count s.def) table id c.loop-id.left c.args.limit c.loop-id.invariant shape
    (slice_get_within table id shape found) (sym (get_or_from_slice_get table id shape shape found)) c.in-None.ensures)

pub loop-id-preserved : goal.loop-id-preserved
loop-id-preserved c =
    let table = c.args.table.now in
    let id = c.loop-id.id in
    let shape = c.in-Some.shape.now in
    let found : slice_get table id ≡ Some shape = sym c.in-Some.ensures.value in
    counted_off (λ (s : Shape). part_count s.def) table id c.loop-id.left c.args.limit c.loop-id.invariant shape
    (slice_get_within table id shape found) (sym (get_or_from_slice_get table id shape shape found)) c.in-Some-count_off.others
    c.in-Some-count_off.ensures
