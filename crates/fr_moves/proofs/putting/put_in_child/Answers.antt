use Rattle.std.proofs.Common.{◌≡◌, ℕ, false, List, [], ◌∷◌, ◌++◌, refl, ap, ◌∙◌, subst, sym, ◌<◌}
use Rattle.fr_moves.specs.Common.{Became, Changed, Conserved, Frames, Place, Room_conserved, Table, Tree, Val, change_at, change_child, def_of, held_in, is_root, put_child, takes_at_end, top_place, top_shape, tree_at, up, view, whole, whole_tree, top_tree, without_source, is_begun_conversion}
use Rattle.fr_shape.specs.Tokens.{times}
use Rattle.fr_shape.specs.TokenLaws.{occurs_times}
use Rattle.fr_model.specs.Step.{enter_child}
use Rattle.fr_store.specs.LeaveLaws.{up_append}
use Rattle.fr_moves.specs.AnewLaws.{put_plain, to_child_seen, LeadsToChild}
use Rattle.fr_moves.proofs.GoingLaws.{made_here, tree_then}
use Rattle.fr_moves.specs.PlaceLaws.{here_along}
use Rattle.fr_moves.specs.TrackerLaws.{full_tree}
use Rattle.fr_moves.proofs.KeepLaws.{became, became_after, changed_as, kept_released, room_here}
use Rattle.fr_moves.specs.RemovedLaws.{kept_through}
use Rattle.fr_moves.proofs.BegunAroundLaws.{on_ok}
use Rattle.fr_moves.specs.StateLaws.{open_then}
use Rattle.fr_moves.specs.TreeLaws.{alike_here, changed_below, changed_twice, put_over}
use Rattle.fr_moves.proofs.putting.put_in_child.Goals as goal
use Rattle.fr_moves.proofs.putting.put_in_child.Goals.{After-child_way-way, After-set}
use Rattle.std.specs.Result.{OkIff}

-- the way leads to the child
leads : (c : After-child_way-way) → LeadsToChild c.args.frames.now.table.now (top_shape c.args.frames.now) (top_tree c.args.frames.now) c.args.i c.child_way-way.result
leads c =
    to_child_seen _ _ (top_tree c.args.frames.now) _ c.args.i c.args.opening c.place_here.ensures.partial c.requires.opening
    c.requires.admitted c.child_way-way.result c.child_way-way.ensures.way

pub enter-requires : goal.enter-requires
enter-requires c =
    let way = leads (goal.at.enter-requires c).After-child_way-way in
    record {
      at_work = c.requires.at_work;
      may = way.may;
      sourced = way.sourced c.args.plan.now;
      small =
          subst (λ (n : ℕ). n < 4294967296) (sym way.told)
          (subst (λ (r : _). OkIff r (c.args.i < 4294967296) c.args.i) c.in-Ok.is c.try_from.ensures).0;
      room = c.requires.room;
    }

-- it is entered, once a conversion has started anew
abbrev entered_at : (table : Table) (s i : ℕ) → Tree → Tree
entered_at table s i = λ old. enter_child table s i (without_source (def_of table s) old)

went : (c : After-set) → Became c.args.plan.now (top_place c.args.frames.now ++ c.args.i ∷ [])
    (change_at (top_place c.args.frames.now)
    (entered_at c.args.frames.now.table.now (top_shape c.args.frames.now) c.args.i) (whole_tree c.args.frames.now))
    c.args.frames.now c.enter.new.frames
went c =
    let way =
    to_child_seen _ _ (top_tree c.args.frames.now) _ c.args.i c.args.opening c.place_here.ensures.partial c.requires.opening
    c.requires.admitted c.child_way-way.result c.child_way-way.ensures.way in
    let place : Place = top_place c.args.frames.now in
    let tree : Tree = whole_tree c.args.frames.now in
    subst (λ (n : ℕ). Became c.args.plan.now (place ++ n ∷ [])
    (change_at place (entered_at c.args.frames.now.table.now (top_shape c.args.frames.now) c.args.i) tree) c.args.frames.now
    c.enter.new.frames) way.number
    (changed_as _ (entered_at c.args.frames.now.table.now (top_shape c.args.frames.now) c.args.i) way.enters
    c.in_ok-enter.ensures.entered)

pub set-requires-clause-is_open : goal.set-requires-clause-is_open
set-requires-clause-is_open c = record { plan = c.args.plan.now; is_open = c.in_ok-enter.ensures.entered.stands.open_still }

pub set-requires-clause-room : goal.set-requires-clause-room
set-requires-clause-room c =
    room_here _ _ _ _ c.in_ok-enter.ensures.entered.stands.open_still
    (Room_conserved (held_in c.args.frames.now) _ (held_in c.enter.new.frames) _ c.enter.ensures.tokens c.requires.room)

never_root : (place : Place) (i : ℕ) → is_root (place ++ i ∷ []) ≡ false
never_root [] i = refl
never_root (j ∷ place) i = refl

-- the places then
abbrev now : After-set → Frames
now c = record c.enter.new.frames { slots = c.set.new.slots; store = c.set.new.store }

-- all is kept that is held or was released, until the value is put
keeps : (c : After-set) → Conserved (held_in c.args.frames.now) c.args.ledger.now (held_in (now c)) c.set.new.ledger
keeps c =
    kept_through _ _ _ _ _ _ c.enter.ensures.tokens
    (kept_released c.in_ok-enter.ensures.entered.stands.open_still (λ old. whole (view c.args.value))
    (c.set.ensures.set c.args.plan.now c.in_ok-enter.ensures.entered.stands.open_still)
    c.set.ensures.released (λ t. occurs_times (view c.args.value) t ∙ ap (λ (ts : List ℕ). times ts t) c.requires.light))

-- the value is put at the child
child_set : (c : After-set) → Changed c.args.plan.now (λ old. whole (view c.args.value)) c.enter.new.frames (now c)
child_set c =
    became (open_then c.in_ok-enter.ensures.entered) c.set.ensures.kept c.set.ensures.marks
    (c.set.ensures.set c.args.plan.now c.in_ok-enter.ensures.entered.stands.open_still)

-- which is to be put there at the place above
is_set : (c : After-set) → Became c.args.plan.now (top_place c.args.frames.now ++ c.args.i ∷ [])
    (change_at (top_place c.args.frames.now)
    (put_child (def_of c.args.frames.now.table.now (top_shape c.args.frames.now)) c.args.i (view c.args.value))
    (whole_tree c.args.frames.now)) c.args.frames.now (now c)
is_set c =
    let v : Val = view c.args.value in
    let table : Table = c.args.frames.now.table.now in
    let s : ℕ = top_shape c.args.frames.now in
    let place : Place = top_place c.args.frames.now in
    let tree : Tree = whole_tree c.args.frames.now in
    subst (λ (t : Tree). Became c.args.plan.now (place ++ c.args.i ∷ []) t c.args.frames.now (now c))
    (changed_below place c.args.i (λ old. whole v) (change_at place (entered_at table s c.args.i) tree)
    ∙ changed_twice place (change_child c.args.i (λ old. whole v)) (entered_at table s c.args.i) tree
    ∙ alike_here place (λ (x : Tree). change_child c.args.i (λ old. whole v) (entered_at table s c.args.i x))
    (put_child (def_of table s) c.args.i v) tree (put_over c.args.i v _ _))
    (became_after (λ p. p) (λ p. change_at p (λ old. whole v)) (went c) (child_set c))

pub leave_whole-requires : goal.leave_whole-requires
leave_whole-requires c =
    let at = (goal.at.leave_whole-requires c).After-set in
    let set = is_set at in
    let v : Val = view c.args.value in
    let place : Place = top_place c.args.frames.now in
    let shown = c.requires.at_work.ready.shown in
    let here =
    here_along c.law_plan_lookups.ensures.agree c.law_plan_lookups.ensures.paths c.law_plan_reach.ensures.reached c.law_plan_reach.ensures.nodes _ _ _ _ _ c.requires.at_work.ready in
    let plain =
    put_plain _ c.args.i v (top_tree c.args.frames.now) (full_tree _ _ (top_tree c.args.frames.now) here.suits) c.requires.admitted in
    record {
      are_open = record { plan = c.args.plan.now; are_open = open_then set };
      below = ap is_root set.stands.cursor ∙ never_root place c.args.i;
      not_item =
          ap (λ (p : Place). takes_at_end (tree_at p (whole_tree (now at)))) (ap up set.stands.cursor ∙ up_append place c.args.i)
          ∙ ap (λ (t : Tree). takes_at_end (tree_at place t)) set.stands.built
          ∙ ap takes_at_end (made_here c.args.frames.now shown (put_child _ c.args.i v)) ∙ plain.0;
      not_source =
          ap (λ (p : Place). is_begun_conversion (tree_at p (whole_tree (now at)))) (ap up set.stands.cursor ∙ up_append place c.args.i)
          ∙ ap (λ (t : Tree). is_begun_conversion (tree_at place t)) set.stands.built
          ∙ ap is_begun_conversion (made_here c.args.frames.now shown (put_child _ c.args.i v)) ∙ plain.1;
      holds_value = (v, tree_then c.enter.new.frames c.in_ok-enter.ensures.entered.stands.open_still (λ old. whole v) (child_set at));
      room = Room_conserved (held_in c.args.frames.now) _ (held_in (now at)) _ (keeps at) c.requires.room;
    }

pub returns-clause-changed : goal.returns-clause-changed
returns-clause-changed c =
    let at = (goal.at.returns-clause-changed c).After-set in
    on_ok c.leave_whole.result (λ left. subst (λ (p : Place). Became c.args.plan.now p (change_at (top_place c.args.frames.now)
    (put_child (def_of c.args.frames.now.table.now (top_shape c.args.frames.now)) c.args.i (view c.args.value))
    (whole_tree c.args.frames.now)) c.args.frames.now c.leave_whole.new.frames)
    (up_append (top_place c.args.frames.now) c.args.i) (became_after up (λ p t. t) (is_set at) (left c.args.plan.now (open_then (is_set at))))) c.leave_whole.ensures.left

pub returns-clause-tokens : goal.returns-clause-tokens
returns-clause-tokens c =
    kept_through _ _ _ _ _ _ (keeps (goal.at.returns-clause-tokens c).After-set) c.leave_whole.ensures.tokens
