use Rattle.std.proofs.Common.{◌≡◌, ℕ, List, [], ◌∷◌, Bool, true, false, if◌then◌else◌, refl, ap, sym, ◌∙◌, length, None}
use Rattle.fr_frame.specs.Outlines.{is_begun_body}
use Rattle.fr_moves.specs.Common.{Body, Def, Field, MayOpenAs, Tracker, Tree, as_fields, as_tracker, begun, begun_by, def_of, begun_body, entered, entered_body, fresh, holes, is_begun, is_begun_conversion, opened, opened_as, opened_value, own_tree, parts_as, top_shape, top_tree, tracker_of, whole, whole_body}
use Rattle.fr_model.specs.Places.{count_children}
use Rattle.fr_moves.specs.Moving.{opened_here}
use Rattle.fr_refusals.specs.declared.beginning.Beginning.{Beginning}
use Rattle.fr_moves.proofs.TopBodyLaws.{may_open_here}
use Rattle.fr_moves.proofs.KeepLaws.{are_open, became_marked, changed_as, unchanged_as}
use Rattle.fr_moves.proofs.BegunAroundLaws.{on_ok}
use Rattle.fr_moves.specs.LookLaws.{begun_alike, converts_alike}
use Rattle.fr_moves.proofs.opening.open_here.Goals as goal

-- a place that is opened so is opened as its definition tells
opened_alike : (def : Def) (tracker : Tracker) (count : ℕ) (tree : Tree) → MayOpenAs def tracker count tree
    → opened_as tracker count tree ≡ opened def tree
opened_alike def tracker count entered may =
    ap (λ (f : Tracker). begun f (holes count)) may.0 ∙ ap (λ (n : ℕ). begun (tracker_of def) (holes n)) may.1
opened_alike def tracker count (whole v) may = ap (λ (f : Tracker). opened_value f v (parts_as f v)) may.0
opened_alike def tracker count _ may = refl

-- where it is no conversion
opened_plain : (def : Def) (tree : Tree) → is_begun_conversion tree ≡ false → opened def tree ≡ opened_here def tree
opened_plain def tree apart = ap (λ (b : Bool). opened def (if b then fresh def else tree)) (sym apart)

-- one that is begun stays as it is
begun_stays : (def : Def) (tree : Tree) → is_begun tree ≡ true → is_begun_conversion tree ≡ false → tree ≡ opened_here def tree
begun_stays def (begun tracker ts) is apart = opened_plain def (begun tracker ts) apart
begun_stays def _ is apart = cc

-- a place by itself is begun as what it shows is
own_begun : (body : Body) → is_begun (own_tree body) ≡ is_begun_body body
own_begun entered_body = refl
own_begun (whole_body v) = refl
own_begun (begun_body tracker cells) = refl

-- and a conversion starts anew
opened_fresh : (def : Def) → begun (tracker_of def) (holes (count_children def)) ≡ opened def (fresh def)
opened_fresh (Def.Struct struct) = go struct.fields refl
  where
    go : (fields : List Field) → struct.fields ≡ fields
        → begun (as_fields None) (holes (length struct.fields)) ≡ opened (Def.Struct struct) (fresh (Def.Struct struct))
    go [] e = rw e refl
    go (field ∷ fields) e = rw e refl
opened_fresh _ = refl

begins_anew : (def : Def) (tracker : Tracker) (count : ℕ) (tree : Tree) → is_begun_conversion tree ≡ true → MayOpenAs def tracker count tree
    → begun tracker (holes count) ≡ opened_here def tree
begins_anew def tracker count (begun made ts) converts may =
    let so = may converts in
    ap (λ (f : Tracker). begun f (holes count)) so.0 ∙ ap (λ (n : ℕ). begun (tracker_of def) (holes n)) so.1 ∙ opened_fresh def
    ∙ ap (λ (b : Bool). opened def (if b then fresh def else begun made ts)) (sym converts)
begins_anew def tracker count _ converts may = cc

pub begin-requires-clause-is_open : goal.begin-requires-clause-is_open
begin-requires-clause-is_open c = record { plan = c.args.plan.now; is_open = c.requires.at_work.ready.shown }

pub begin-requires-clause-may_open : goal.begin-requires-clause-may_open
begin-requires-clause-may_open c = may_open_here c.requires.at_work.ready.shown _ _ _ c.requires.may_open

pub returns-then-converts-clause-changed : goal.returns-then-converts-clause-changed
returns-then-converts-clause-changed c =
    on_ok c.begin_so.result (λ begun. changed_as (begun_by Beginning.Anew (as_tracker c.args.opening.tracker) c.args.opening.count)
    (opened_here (def_of c.args.frames.now.table.now (top_shape c.args.frames.now)))
    (begins_anew _ _ _ (top_tree c.args.frames.now)
    (sym (converts_alike _ _ c.place_here.ensures.partial) ∙ sym c.is_conversion-converts.ensures.conversion ∙ c.if-converts.true)
    c.requires.may_open) (begun c.args.plan.now (are_open c.requires.at_work))) c.begin_so.ensures.changed

pub returns-then-begun-clause-changed : goal.returns-then-begun-clause-changed
returns-then-begun-clause-changed c =
    unchanged_as (are_open c.requires.at_work) _
    (begun_stays _ _ (sym (begun_alike _ _ c.place_here.ensures.partial) ∙ own_begun _ ∙ sym c.is_begun-begun.ensures.begun ∙ c.if-begun.true)
    (sym (converts_alike _ _ c.place_here.ensures.partial) ∙ sym c.is_conversion-converts.ensures.conversion ∙ c.if-converts.false))

pub returns-else-begun-clause-changed : goal.returns-else-begun-clause-changed
returns-else-begun-clause-changed c =
    on_ok c.begin.result (λ begun. changed_as (opened_as (as_tracker c.args.opening.tracker) c.args.opening.count)
    (opened_here (def_of c.args.frames.now.table.now (top_shape c.args.frames.now)))
    (opened_alike _ _ _ _ c.requires.may_open
    ∙ opened_plain _ (top_tree c.args.frames.now)
    (sym (converts_alike _ _ c.place_here.ensures.partial) ∙ sym c.is_conversion-converts.ensures.conversion ∙ c.if-converts.false))
    (became_marked (are_open c.requires.at_work) c.begin.ensures.marks
    (begun c.args.plan.now c.requires.at_work.ready.shown))) c.begin.ensures.begun
