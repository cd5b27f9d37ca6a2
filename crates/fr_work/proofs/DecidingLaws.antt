-- What a call comes to, or why it is refused, by what is seen of the place at which the builder works.
use Rattle.std.proofs.Common.{◌≡◌, ◌≢◌, ℕ, Option, Some, None, Ok, Err, inl, sym, ◌∙◌, ap, subst}
use Rattle.fr_work.specs.Common.{Call, Change, ComesTo, Expected, IsRefused, MayGo, MayStay, Meanings, Move, Operation, ReflectErrorKind, Sees, ShapeId, Site, State, Table, Tree, Val, Way, at_shape, carried_by, cursor_tree, shape_at, step, unless_refused}
use Rattle.fr_model.specs.Scripts.{occurs_if_any, value_brought, FitsIfAny}
use Rattle.fr_moves.specs.Moving.{gone, stays}
use Rattle.fr_work.proofs.SeenLaws.{shape_seen}

-- nothing is refused
pub admitted : {refusal : Option ReflectErrorKind} {next : State} → None ≡ refusal → unless_refused refusal next ≡ Ok next
admitted {refusal} {next} is = ap (λ (o : Option ReflectErrorKind). unless_refused o next) (sym is)

-- A call that brings nothing.
module _ (site : Site) (call : Call) where
  -- it goes on
  pub goes : (way : Way) → value_brought call ≡ None → MayGo site.shapes (shape_at site) (cursor_tree site.state) way
      → ((hooks : Meanings) → step hooks site.shapes site.root site.state call
      ≡ Ok (gone site.shapes (shape_at site) site.state way)) → ComesTo site call (Move.Go way)
  goes way none may means = record {
    fitting = subst (λ (v : Option (ℕ × Val)). FitsIfAny site.shapes v) (sym none) tt;
    same_tokens = λ t. ap (λ (v : Option (ℕ × Val)). occurs_if_any v t) none;
    may = may;
    late = λ late. cc;
    means = means;
  }

  -- it stays, and puts nothing that holds a token
  pub remains : (change : Change) → value_brought call ≡ None → ((t : ℕ) → carried_by change t ≡ 0)
      → MayStay site.shapes (shape_at site) (cursor_tree site.state) change
      → ((hooks : Meanings) → step hooks site.shapes site.root site.state call
      ≡ Ok (stays site.shapes (shape_at site) site.state change)) → ComesTo site call (Move.Stay change)
  remains change none light may means = record {
    fitting = subst (λ (v : Option (ℕ × Val)). FitsIfAny site.shapes v) (sym none) tt;
    same_tokens = λ t. ap (λ (v : Option (ℕ × Val)). occurs_if_any v t) none ∙ sym (light t);
    may = may;
    late = λ late. cc;
    means = means;
  }

  -- it goes on where no operation is refused
  pub goes_unless : {refusal : Option Operation} (way : Way) → value_brought call ≡ None
      → ((hooks : Meanings) → step hooks site.shapes site.root site.state call
      ≡ unless_refused (at_shape (shape_at site) refusal) (gone site.shapes (shape_at site) site.state way))
      → None ≡ refusal → MayGo site.shapes (shape_at site) (cursor_tree site.state) way → ComesTo site call (Move.Go way)
  goes_unless way none means is may = goes way none may (λ hooks. means hooks ∙ admitted (ap (at_shape (shape_at site)) is))

  -- it is refused, and not for want of memory
  pub refused_by : {refusal : Option ReflectErrorKind} (next : State) (kind : ReflectErrorKind)
      → ((hooks : Meanings) → step hooks site.shapes site.root site.state call ≡ unless_refused refusal next)
      → Some kind ≡ refusal → kind ≢ ReflectErrorKind.OutOfMemory → IsRefused site call kind
  refused_by next kind means is named =
      inl (named, λ hooks. means hooks ∙ ap (λ (o : Option ReflectErrorKind). unless_refused o next) (sym is))

module _ {site : Site} {table : Table} {shape : ShapeId} {seen : Tree} (at : Sees site table shape seen) (call : Call) where
  -- the operation can't be done at the place
  pub cannot : {refusal : Option Operation} (next : State) (operation : Operation)
      → ((hooks : Meanings) → step hooks site.shapes site.root site.state call
      ≡ unless_refused (at_shape (shape_at site) refusal) next)
      → Some operation ≡ refusal → IsRefused site call (ReflectErrorKind.OperationFailed shape operation)
  cannot next operation means is =
      refused_by site call next (ReflectErrorKind.OperationFailed shape operation) means
      (ap (λ (s : ShapeId). Some (ReflectErrorKind.OperationFailed s operation)) (sym (shape_seen at))
      ∙ ap (at_shape (shape_at site)) is) (λ out. cc)

  -- its shape isn't such a one
  pub is_not : (expected : Expected) → ((hooks : Meanings) → step hooks site.shapes site.root site.state call
      ≡ Err (ReflectErrorKind.WasNotA expected (record { 0 = shape_at site })))
      → IsRefused site call (ReflectErrorKind.WasNotA expected shape)
  is_not expected means =
      inl ((λ out. cc), λ hooks. means hooks ∙ ap (λ (s : ShapeId). Err (ReflectErrorKind.WasNotA expected s)) (shape_seen at))
