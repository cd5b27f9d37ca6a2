use Rattle.std.proofs.Common.{◌≡◌, ℕ, List, true, slice_index, sym, ap, ◌∙◌, subst, arith}
use Rattle.fr_work.specs.Common.{IsUnconverted, Room, RoseBy, Table, Val, converted, converts_at, copies_to_convert, def_of, dyn_view, fits, occurs, shape_at, takes_shape, view}
use Rattle.fr_work.proofs.PutLaws.{converted_seen, converts_seen, converts_to, not_taken, only_copies, taken, takes_seen, unconverted}
use Rattle.fr_work.proofs.work.Work.set_shape_move.Goals as goal
use Rattle.fr_work.proofs.work.Work.set_shape_move.Goals.{After-converts, After-takes_shape, Then-converts}

-- whether the place converts a value of that shape
told : (c : After-converts) → converts_at c.args.self.now.shapes (shape_at c.args.self.now) c.args.value.shape ≡ c.converts.result
told c =
    sym (converts_seen c.place.ensures.seen c.shape-actual.result.0 c.args.value.shape c.shape-actual.ensures.shape)
    ∙ sym c.converts.ensures.converted

-- and whether it takes one as it is
takes : (c : After-takes_shape) → takes_shape c.args.self.now.shapes (shape_at c.args.self.now) c.args.value.shape
    ≡ c.takes_shape.result
takes c =
    sym (takes_seen c.place.ensures.seen c.shape-actual.result.0 c.args.value.shape c.shape-actual.ensures.shape)
    ∙ sym c.takes_shape.ensures.taken

as_other : (c : Then-converts) → converts_at c.args.self.now.shapes (shape_at c.args.self.now) c.args.value.shape ≡ true
as_other c =
    sym (converts_seen c.place.ensures.seen c.shape-actual.result.0 c.args.value.shape c.shape-actual.ensures.shape)
    ∙ sym c.converts.ensures.converted ∙ c.if-converts.true

pub converted-requires-clause-fits : goal.converted-requires-clause-fits
converted-requires-clause-fits c =
    ap (λ (t : Table). fits t c.shape-actual.result.0 (view c.into_value-plain.result)) c.place.ensures.seen.table_is
    ∙ ap (λ (n : ℕ). fits c.args.self.now.shapes n (view c.into_value-plain.result)) c.shape-actual.ensures.shape
    ∙ ap (fits c.args.self.now.shapes c.args.value.shape) c.into_value-plain.ensures.value ∙ c.requires.fits

pub converted-requires-clause-room : goal.converted-requires-clause-room
converted-requires-clause-room c =
    subst (λ (v : Val). Room (occurs v) c.args.ledger.now) (sym c.into_value-plain.ensures.value) c.requires.room

pub release-requires : goal.release-requires
release-requires c = record {
  room = subst (λ (v : Val). Room (occurs v) c.args.ledger.now) (sym c.into_value-plain.ensures.value) c.requires.room;
}

pub returns-in-Ok-clause-decides : goal.returns-in-Ok-clause-decides
returns-in-Ok-clause-decides c =
    converts_to c.args.self.now c.args.value.shape c.args.value.value
    (as_other (goal.at.returns-in-Ok-clause-decides c).Then-converts) c.dynamic.result (dyn_view c.in-Ok.made)
    c.dynamic.ensures c.requires.fits (λ t.
    let same : occurs (view c.into_value-plain.result) t ≡ occurs c.args.value.value t
    = ap (λ (v : Val). occurs v t) c.into_value-plain.ensures.value in
    let stays : slice_index c.converted.new.ledger t ≡ slice_index c.args.ledger.now t
    = ap (λ (ledger : List ℕ). slice_index ledger t) c.in-Ok.ensures.unreleased in
    omega (arith, same, stays, c.converted.ensures.released.each t)) (sym
    (converted_seen c.place.ensures.seen c.shape-actual.result.0 c.args.value.shape c.shape-actual.ensures.shape (view c.into_value-plain.result)
    c.args.value.value c.into_value-plain.ensures.value) ∙ c.in-Ok.ensures.made)

pub returns-in-Err-clause-decides : goal.returns-in-Err-clause-decides
returns-in-Err-clause-decides c =
    unconverted c.args.self.now c.args.value.shape c.args.value.value
    (as_other (goal.at.returns-in-Err-clause-decides c).Then-converts) c.in-Err.kind
    (subst (λ made. IsUnconverted made c.args.value.shape c.in-Err.kind)
    (converted_seen c.place.ensures.seen c.shape-actual.result.0 c.args.value.shape c.shape-actual.ensures.shape (view c.into_value-plain.result)
    c.args.value.value c.into_value-plain.ensures.value) (subst (λ (n : ℕ). IsUnconverted
    (converted c.place.result.0.now c.place.result.1.0 (def_of c.place.result.0.now c.shape-actual.result.0)
    (view c.into_value-plain.result)) n c.in-Err.kind) c.shape-actual.ensures.shape c.in-Err.ensures.refused))

pub returns-in-Err-clause-memory : goal.returns-in-Err-clause-memory
returns-in-Err-clause-memory c none =
    let no = c.converted.ensures.memory
    (ap (λ (t : Table). copies_to_convert (def_of t c.shape-actual.result.0)) c.place.ensures.seen.table_is
    ∙ ap (λ (n : ℕ). copies_to_convert (def_of c.args.self.now.shapes n)) c.shape-actual.ensures.shape
    ∙ only_copies c.args.self.now.shapes (shape_at c.args.self.now) c.args.value.shape
    (as_other (goal.at.returns-in-Err-clause-memory c).Then-converts) none) in
    rw c.in-Err.is at no

pub returns-in-Err-clause-released : goal.returns-in-Err-clause-released
returns-in-Err-clause-released c =
    subst (λ (v : Val). RoseBy (occurs v) c.args.ledger.now c.converted.new.ledger) c.into_value-plain.ensures.value
    c.converted.ensures.released

pub returns-then-takes_shape-clause-decides : goal.returns-then-takes_shape-clause-decides
returns-then-takes_shape-clause-decides c =
    taken c.args.self.now c.args.value.shape c.args.value.value
    (told (goal.at.returns-then-takes_shape-clause-decides c).After-converts ∙ c.if-converts.false)
    c.into_value-plain.result c.into_value-plain.ensures.value c.requires.fits
    (takes (goal.at.returns-then-takes_shape-clause-decides c).After-takes_shape ∙ c.if-takes_shape.true)

pub returns-else-takes_shape-clause-decides : goal.returns-else-takes_shape-clause-decides
returns-else-takes_shape-clause-decides c =
    not_taken c.args.self.now c.args.value.shape c.args.value.value
    (told (goal.at.returns-else-takes_shape-clause-decides c).After-converts ∙ c.if-converts.false) c.place.result.1
    c.shape-actual.result c.place.ensures.seen.shape_is c.shape-actual.ensures.shape
    (takes (goal.at.returns-else-takes_shape-clause-decides c).After-takes_shape ∙ c.if-takes_shape.false)

pub returns-else-takes_shape-clause-released : goal.returns-else-takes_shape-clause-released
returns-else-takes_shape-clause-released c =
    subst (λ (v : Val). RoseBy (occurs v) c.args.ledger.now c.release.new.ledger) c.into_value-plain.ensures.value
    c.release.ensures.released
