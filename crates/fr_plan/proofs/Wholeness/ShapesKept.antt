-- A walk stays sound while a shape is built, whatever its mark.
use Rattle.std.proofs.Common.{◌≡◌, refl, ℕ, suc, zero, ◌<◌, [], length, slice_get, arith, Option, Some, None, is_some}
use Rattle.std.specs.List.{AllZip}
use Rattle.std.specs.Result.{MatchResult}
use Rattle.std.proofs.lemmas.Option.{slice_get_within}
use Rattle.fr_shape.specs.declared.shape.Shape.{Shape}
use Rattle.fr_shape.specs.declared.shape.ShapeId.{ShapeId}
use Rattle.fr_shape.specs.declared.error.PlanFault.{PlanFault}
use Rattle.fr_shape.specs.Look.{Table, IsIn}
use Rattle.fr_shape.specs.Plannable.{Reached, own_sources, refusal_of, own_refusal}
use Rattle.fr_plan.specs.declared.outlines.Role.{Role}
use Rattle.fr_plan.specs.declared.outlines.Mark.{Mark}
use Rattle.fr_plan.specs.declared.outlines.Walk.{Walk}
use Rattle.fr_plan.specs.Build.{Built, Made, MadeAll, unless, none_yet, with_node, with_shape_mark, done, each_built, children_built, finish, build_new, build_by, build}
use Rattle.fr_plan.specs.PlanLaws.{IsNodeOf, AreChildrenBy}
use Rattle.fr_plan.proofs.Wholeness.Marks.{unseen_in, unseen_fewer}
use Rattle.fr_plan.proofs.Wholeness.Sound.{IsSound, IsKept, AreKept, IsBlamed, keeps_itself, keeps_twice, nodes_stay}
use Rattle.fr_plan.proofs.Wholeness.Adding.{referred, begun_sound, IsFinished}
use Rattle.fr_plan.proofs.Wholeness.Finishing.{finished}
use Rattle.fr_plan.proofs.Wholeness.Led.{sources_led, children_led, fields_led}
use Rattle.fr_plan.proofs.Wholeness.Kept.{BuildsWell, match_weaker, match_then, get_not_none, nodes_there, children_there, each_kept, children_kept}

module _ (table : Table) (root : ShapeId) where
  -- a shape that was not met before

  module _ (walk : Walk) (id : ShapeId) (shape : Shape) (sources : MadeAll) (children : MadeAll)
      (unseen : slice_get walk.marks id.0 ≡ Some Mark.Unseen) (here : slice_get table id.0 ≡ Some shape)
      (reached : Reached table root.0 id.0)
      (first : AreKept table root (with_shape_mark walk id Mark.Building) sources (λ nodes listed. AllZip (IsNodeOf nodes) listed (own_sources shape)))
      (second : AreKept table root sources.walk children (λ nodes listed. AreChildrenBy nodes id shape shape.def listed)) where
    sources_there : AllZip (IsNodeOf children.walk.nodes) sources.nodes (own_sources shape)
    sources_there =
        nodes_stay sources.walk.nodes children.walk.nodes second.keeps.nodes sources.nodes (own_sources shape) first.nodes

    finished_by : (fault : Option PlanFault) → refusal_of shape ≡ fault
        → MatchResult
        (unless (own_refusal id.0 fault) (done id (with_node children.walk (record {
          shape = id;
          role = Role.Own;
          sources = sources.nodes;
          children = children.nodes;
          converts = is_some shape.convert;
        }))))
        (IsFinished table root walk id) (IsBlamed table root)
    finished_by (Some fault) is = record { shape = shape; here = here; reached = reached; fault = is }
    finished_by None is =
        finished table root walk children.walk id _ unseen
        (keeps_twice (with_shape_mark walk id Mark.Building) sources.walk children.walk first.keeps second.keeps) second.sound
        (record {
          linked =
              λ own.
              record {
                shape = shape;
                here = here;
                sources = sources_there;
                children = second.nodes;
                converts = refl;
                plannable = is;
              };
          children = children_there children.walk.nodes id shape shape.def children.nodes second.nodes;
          sources = nodes_there children.walk.nodes sources.nodes (own_sources shape) sources_there;
          reached = reached;
        })
        refl refl

  module _ (depth : ℕ) (builds : Walk → ShapeId → Built Made) (well : BuildsWell table root depth builds) where
    pub new_kept : (walk : Walk) (id : ShapeId) (found : Option Shape) → slice_get table id.0 ≡ found
        → IsSound table root walk → unseen_in walk.marks < suc depth → slice_get walk.marks id.0 ≡ Some Mark.Unseen
        → Reached table root.0 id.0
        → MatchResult (build_new builds walk id found) (IsFinished table root walk id) (IsBlamed table root)
    unfolding build_new finish
    new_kept walk id None here sound few unseen reached =
        let inside : id.0 < length table =
        omega (arith, slice_get_within walk.marks id.0 Mark.Unseen unseen, sound.marks) in
        absurd (get_not_none table id.0 inside here)
    new_kept walk id (Some shape) here sound few unseen reached =
        let start : Walk = with_shape_mark walk id Mark.Building in
        let begun : IsSound table root start = begun_sound table root walk id sound unseen in
        let fewer : unseen_in start.marks < depth = omega (arith, few, unseen_fewer walk.marks id.0 unseen) in
        let Sources : MadeAll → Type 0 =
        λ all. AreKept table root start all (λ nodes listed. AllZip (IsNodeOf nodes) listed (own_sources shape)) in
        match_then Sources (IsFinished table root walk id) (IsBlamed table root)
        (each_built builds (none_yet start) (own_sources shape)) _
        (each_kept table root depth builds well (none_yet start) [] (own_sources shape) begun fewer
        (sources_led table root id shape reached here) tt)
        (λ sources first.
        let Children : MadeAll → Type 0 =
        λ all. AreKept table root sources.walk all (λ nodes listed. AreChildrenBy nodes id shape shape.def listed) in
        match_then Children (IsFinished table root walk id) (IsBlamed table root)
        (children_built builds sources.walk id shape.def shape) _
        (children_kept table root depth builds well sources.walk id shape.def shape first.sound
        (omega (arith, fewer, first.keeps.unseen)) (fields_led table root id shape reached here)
        (children_led table root id shape reached here))
        (λ children second.
        finished_by walk id shape sources children unseen here reached first second (refusal_of shape) refl))

  -- a shape, by how far it has come

  module _ (ranged : (id : ℕ) → Reached table root.0 id → IsIn table id) where
    by_kept : (mark : Option Mark) (fresh : Walk → ShapeId → Built Made) (walk : Walk) (id : ShapeId)
        → slice_get walk.marks id.0 ≡ mark → IsSound table root walk → Reached table root.0 id.0
        → (slice_get walk.marks id.0 ≡ Some Mark.Unseen
        → MatchResult (fresh walk id) (IsKept table root walk id) (IsBlamed table root))
        → MatchResult (build_by mark fresh walk id) (IsKept table root walk id) (IsBlamed table root)
    by_kept (Some (Mark.Done node)) fresh walk id is sound reached new =
        let own = sound.done id node is in
        record {
          sound = sound;
          keeps = keeps_itself walk;
          node = record { outline = own.outline; here = own.here; shape = own.shape };
        }
    by_kept (Some Mark.Unseen) fresh walk id is sound reached new = new is
    by_kept (Some Mark.Building) fresh walk id is sound reached new =
        referred table root walk id sound (record { mark = Mark.Building; here = is; seen = refl }) reached
    by_kept None fresh walk id is sound reached new =
        let inside : id.0 < length walk.marks = omega (arith, ranged id.0 reached, sound.marks) in
        absurd (get_not_none walk.marks id.0 inside is)

    pub build_kept : (depth : ℕ) → BuildsWell table root depth (λ then next. build table depth then next)
    build_kept zero = record { each = λ walk id sound few reached. absurd (omega (arith, few)) }
    build_kept (suc depth) = record {
      each =
          λ walk id sound few reached.
          by_kept (slice_get walk.marks id.0) _ walk id refl sound reached
          (λ unseen.
          match_weaker (IsFinished table root walk id) (IsKept table root walk id) (IsBlamed table root)
          (λ made is. is.kept) _
          (new_kept depth (λ then next. build table depth then next) (build_kept depth) walk id (slice_get table id.0) refl
          sound few unseen reached));
    }
