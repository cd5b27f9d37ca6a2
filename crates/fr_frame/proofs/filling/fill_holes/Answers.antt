use Rattle.std.proofs.Common.{◌≡◌, Option, length, sym, ◌∙◌, ap, arith}
use Rattle.fr_frame.specs.Common.{Val, as_fields, column_of, defaulted_nth, hole_takes, shape_of}
use Rattle.fr_frame.proofs.LacksByChildren.{its_fill, names_field, told_here}
use Rattle.fr_frame.proofs.FillingHoles.{alike_at, all_there_stay, first_all, first_more}
use Rattle.fr_frame.proofs.filling.fill_holes.Goals as goal

pub returns-then-are_all_there-clause-filled : goal.returns-then-are_all_there-clause-filled
returns-then-are_all_there-clause-filled c =
    all_there_stay (column_of c.args.column) c.args.table.now (shape_of c.args.plan.now c.args.node) (as_fields c.args.selected) 0
    c.args.children.now (sym c.if-are_all_there.ensures.all_there)

pub fill_hole-requires : goal.fill_hole-requires
fill_hole-requires c =
    let alike = alike_at (column_of c.args.column) c.args.table.now (shape_of c.args.plan.now c.args.node)
    (as_fields c.args.selected)
    c.requires.checked c.loop-i.i c.loop-i.invariant in
    let count = c.plans_of_fields-told.ensures.count (length c.args.children.now) c.requires.full in
    let same : length c.loop-i.children ≡ length c.args.children.now = alike.count in
    record {
      checked = c.requires.checked;
      named =
          names_field (told_here c.plans_of_fields-told.ensures c.loop-i.i c.index-told-i.result c.loop-i-test.true c.index-told-i.is);
      inside = omega arith;
      closed = alike.closed c.requires.closed;
    }

pub returns-in_err-fill_hole-clause-tokens : goal.returns-in_err-fill_hole-clause-tokens
returns-in_err-fill_hole-clause-tokens c =
    (alike_at (column_of c.args.column) c.args.table.now (shape_of c.args.plan.now c.args.node) (as_fields c.args.selected)
    c.requires.checked c.loop-i.i (c.in_err-fill_hole.ensures.refused ∙ c.loop-i.invariant)).same_tokens

pub returns-in_err-fill_hole-clause-closed : goal.returns-in_err-fill_hole-clause-closed
returns-in_err-fill_hole-clause-closed c =
    (alike_at (column_of c.args.column) c.args.table.now (shape_of c.args.plan.now c.args.node) (as_fields c.args.selected)
    c.requires.checked c.loop-i.i (c.in_err-fill_hole.ensures.refused ∙ c.loop-i.invariant)).closed c.requires.closed

pub loop-i-preserved : goal.loop-i-preserved
loop-i-preserved c =
    let column = column_of c.args.column in
    let table = c.args.table.now in
    let s = shape_of c.args.plan.now c.args.node in
    let tracker = as_fields c.args.selected in
    let told = told_here c.plans_of_fields-told.ensures c.loop-i.i c.index-told-i.result c.loop-i-test.true c.index-told-i.is in
    c.in_ok-fill_hole.ensures.filled
    ∙ ap (λ (fill : Option Val). defaulted_nth fill c.loop-i.i c.loop-i.children) (its_fill told column)
    ∙ ap (defaulted_nth (hole_takes column table s tracker c.loop-i.i) c.loop-i.i) c.loop-i.invariant
    ∙ first_more column table s tracker c.loop-i.i c.args.children.now

pub returns : goal.returns
returns c =
    let column = column_of c.args.column in
    let table = c.args.table.now in
    let s = shape_of c.args.plan.now c.args.node in
    let tracker = as_fields c.args.selected in
    let count = c.plans_of_fields-told.ensures.count (length c.args.children.now) c.requires.full in
    let alike = alike_at column table s tracker c.requires.checked c.loop-i.i c.loop-i.invariant in
    record {
      filled = c.loop-i.invariant ∙ first_all column table s tracker 0 c.loop-i.i c.args.children.now (omega arith);
      memory = tt;
      tokens = alike.same_tokens;
      closed = alike.closed c.requires.closed;
    }
