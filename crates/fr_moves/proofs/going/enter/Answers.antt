use Rattle.std.proofs.Common.{◌≡◌, false, refl, ap, sym, subst, ◌∙◌}
use Rattle.fr_moves.specs.Common.{Changed, MayHave, Tracker, Way, as_tracker, base_of_tracker, child_node, is_map_tracker, node_here, opened_as}
use Rattle.fr_frame.specs.Bodies.{TakesItems}
use Rattle.fr_store.specs.StackMoves.{count_here}
use Rattle.fr_moves.proofs.ChildLaws.{child_there, object_node, tracker_has, tracker_is, tracker_there}
use Rattle.fr_moves.proofs.BelowLaws.{around_base, around_map}
use Rattle.fr_moves.proofs.GoingLaws.{anew_has, has_then, is_object, is_planned, keys_are_apart, keys_are_counted, may_go, node_after, node_is, none_then, of_anew, of_opening, opened_has, opens, went, went_after, went_entry, Goes}
use Rattle.fr_moves.proofs.KeepLaws.{are_open, became, became_marked}
use Rattle.fr_moves.proofs.BegunAroundLaws.{has_content, may_have_one, on_ok, whole_some}
use Rattle.fr_moves.proofs.BegunListLaws.{has_count, has_tracker}
use Rattle.fr_moves.proofs.MapLaws.{has_last, has_map, value_lacks}
use Rattle.fr_moves.specs.StateLaws.{open_then}
use Rattle.fr_moves.proofs.going.enter.Goals as goal
use Rattle.fr_moves.proofs.going.enter.Goals.{After-node_here-above, In_ok-begin-in-Child}

-- the way, as it is met
abbrev goes : (c : After-node_here-above) {way : Way} → c.args.way ≡ way → Goes c.args.plan.now c.args.frames.now c.args.way way
goes c is = record {
  agree = c.law_plan_lookups.ensures.agree;
  paths = c.law_plan_lookups.ensures.paths;
  reached = c.law_plan_reach.ensures.reached;
  nodes = c.law_plan_reach.ensures.nodes;
  work = c.requires.at_work;
  may = c.requires.may;
  sourced = c.requires.sourced;
  is = is;
  above = c.node_here-above.result;
  above_is = c.node_here-above.ensures c.args.plan.now (are_open c.requires.at_work);
}

pub node_here-above-requires : goal.node_here-above-requires
node_here-above-requires c = record { plan = c.args.plan.now; are_open = are_open c.requires.at_work }

-- A field or an element.

pub begin-requires : goal.begin-requires
begin-requires c =
    let way = goes (goal.at.begin-requires c).After-node_here-above c.in-Child.is in
    record {
      is_open = record { plan = c.args.plan.now; is_open = c.requires.at_work.ready.shown };
      may_open = opens way;
      may_have = of_opening way (λ tracker. MayHave tracker c.in-Child.opening.count) tt tt (λ k. tt);
      base = of_opening way (λ tracker. base_of_tracker tracker ≡ 0) refl refl (λ k. refl);
    }

begun : (c : In_ok-begin-in-Child) → Changed c.args.plan.now (opened_as (as_tracker c.in-Child.opening.tracker) c.in-Child.opening.count)
    c.args.frames.now (record c.args.frames.now { slots = c.begin.new.slots })
begun c = became_marked (are_open c.requires.at_work) c.begin.ensures.marks
    (c.in_ok-begin-in-Child.ensures.begun c.args.plan.now c.requires.at_work.ready.shown)

pub enter-requires : goal.enter-requires
enter-requires c =
    let at = goal.at.enter-requires c in
    let way = goes at.After-node_here-above c.in-Child.is in
    let now = begun at.In_ok-begin-in-Child in
    let shown = c.requires.at_work.ready.shown in
    let has = has_then shown _ now _ _ (opened_has way) in
    record {
      is_open = now.stands.open_still;
      kept = now.kept;
      may = (
        child_there _ _ _ has,
        none_then shown _ now _ _ (opened_has way) (of_opening way (λ tracker. is_map_tracker tracker ≡ false) refl refl (λ k. refl)),
      );
      node =
          node_after shown _ now (as_tracker c.in-Child.opening.tracker) c.in-Child.i (node_is way c.child_node-node.ensures)
          ∙ ap (λ (f : Tracker). child_node c.args.plan.now (node_here c.args.plan.now c.begin.new.slots c.args.frames.now.stack) f c.in-Child.i) (tracker_there _ _ _ has);
      planned = is_planned way c.child_node-node.ensures;
    }

pub returns-in_ok-begin-in-Child-clause-entered : goal.returns-in_ok-begin-in-Child-clause-entered
returns-in_ok-begin-in-Child-clause-entered c =
    let at = goal.at.returns-in_ok-begin-in-Child-clause-entered c in
    let now = begun at.In_ok-begin-in-Child in
    on_ok c.enter.result (λ done. went (goes at.After-node_here-above c.in-Child.is) c.child_node-node.ensures
    (went_after c.requires.at_work.ready.shown _ now _ _
    (became (open_then now) c.enter.ensures.kept c.enter.ensures.marks done))) c.enter.ensures.entered

-- One of a place that starts anew.

pub begin_so-requires : goal.begin_so-requires
begin_so-requires c =
    let way = goes (goal.at.begin_so-requires c).After-node_here-above c.in-Anew.is in
    record {
      are_open = record { plan = c.args.plan.now; are_open = are_open c.requires.at_work };
      may_have = of_anew way (λ tracker. MayHave tracker c.in-Anew.opening.count) tt tt (λ k. tt);
      base = of_anew way (λ tracker. base_of_tracker tracker ≡ 0) refl refl (λ k. refl);
      parts = λ in_place. cc;
      room = c.requires.room;
    }

pub enter-requires-in-Anew : goal.enter-requires-in-Anew
enter-requires-in-Anew c =
    let way = goes (goal.at.enter-requires-in-Anew c).After-node_here-above c.in-Anew.is in
    let now = c.in_ok-begin_so-in-Anew.ensures.changed c.args.plan.now (are_open c.requires.at_work) in
    let shown = c.requires.at_work.ready.shown in
    let has = has_then shown _ now _ _ (anew_has way) in
    record {
      is_open = now.stands.open_still;
      kept = now.kept;
      may = (
        child_there _ _ _ has,
        none_then shown _ now _ _ (anew_has way) (of_anew way (λ tracker. is_map_tracker tracker ≡ false) refl refl (λ k. refl)),
      );
      node =
          node_after shown _ now (as_tracker c.in-Anew.opening.tracker) c.in-Anew.i (node_is way c.child_node-node-in-Anew.ensures)
          ∙ ap (λ (f : Tracker). child_node c.args.plan.now (node_here c.args.plan.now c.begin_so.new.frames.slots c.begin_so.new.frames.stack) f c.in-Anew.i) (tracker_there _ _ _ has);
      planned = is_planned way c.child_node-node-in-Anew.ensures;
    }

pub returns-in_ok-begin_so-in-Anew-clause-entered : goal.returns-in_ok-begin_so-in-Anew-clause-entered
returns-in_ok-begin_so-in-Anew-clause-entered c =
    let now = c.in_ok-begin_so-in-Anew.ensures.changed c.args.plan.now (are_open c.requires.at_work) in
    on_ok c.enter-in-Anew.result (λ done.
    went (goes (goal.at.returns-in_ok-begin_so-in-Anew-clause-entered c).After-node_here-above c.in-Anew.is)
    c.child_node-node-in-Anew.ensures (went_after c.requires.at_work.ready.shown _ now _ _
    (became (open_then now) c.enter-in-Anew.ensures.kept c.enter-in-Anew.ensures.marks done)))
    c.enter-in-Anew.ensures.entered

-- An item.

pub enter-requires-in-Item : goal.enter-requires-in-Item
enter-requires-in-Item c =
    let way = goes (goal.at.enter-requires-in-Item c).After-node_here-above c.in-Item.is in
    let may = may_go way in
    let has = has_tracker _ _ _ may.0 in
    let there = tracker_is _ _ has in
    record {
      is_open = c.requires.at_work.ready.shown;
      kept = c.requires.at_work.kept;
      may = (tracker_has _ _ has, subst TakesItems there may.1);
      node =
          node_is way c.child_node-node-in-Item.ensures
          ∙ ap (child_node c.args.plan.now _ (as_tracker c.in-Item.opening.tracker)) (sym (has_count _ _ _ may.0))
          ∙ ap (λ (f : Tracker). child_node c.args.plan.now (node_here c.args.plan.now c.args.frames.now.slots c.args.frames.now.stack) f (count_here c.args.frames.now.slots c.args.frames.now.stack)) there;
      planned = is_planned way c.child_node-node-in-Item.ensures;
    }

pub returns-in-Item-clause-entered : goal.returns-in-Item-clause-entered
returns-in-Item-clause-entered c =
    on_ok c.enter-in-Item.result (λ done.
    went (goes (goal.at.returns-in-Item-clause-entered c).After-node_here-above c.in-Item.is) c.child_node-node-in-Item.ensures
    (became (are_open c.requires.at_work) c.enter-in-Item.ensures.kept c.enter-in-Item.ensures.marks done))
    c.enter-in-Item.ensures.entered

-- A key.

pub enter-requires-in-Key : goal.enter-requires-in-Key
enter-requires-in-Key c =
    let way = goes (goal.at.enter-requires-in-Key c).After-node_here-above c.in-Key.is in
    let may = may_go way in
    record {
      is_open = c.requires.at_work.ready.shown;
      kept = c.requires.at_work.kept;
      may = has_map _ _ _ may.0 may.1;
      node =
          node_is way c.child_node-node-in-Key.ensures
          ∙ ap (child_node c.args.plan.now _ (as_tracker c.in-Key.opening.tracker)) (sym (has_count _ _ _ may.0))
          ∙ ap (λ (f : Tracker). child_node c.args.plan.now (node_here c.args.plan.now c.args.frames.now.slots c.args.frames.now.stack) f (count_here c.args.frames.now.slots c.args.frames.now.stack))
          (tracker_is _ _ (has_tracker _ _ _ may.0));
      planned = is_planned way c.child_node-node-in-Key.ensures;
    }

pub returns-in-Key-clause-entered : goal.returns-in-Key-clause-entered
returns-in-Key-clause-entered c =
    on_ok c.enter-in-Key.result (λ done.
    went (goes (goal.at.returns-in-Key-clause-entered c).After-node_here-above c.in-Key.is) c.child_node-node-in-Key.ensures
    (became (are_open c.requires.at_work) c.enter-in-Key.ensures.kept c.enter-in-Key.ensures.marks done))
    c.enter-in-Key.ensures.entered

-- A value.

pub enter-requires-in-Value : goal.enter-requires-in-Value
enter-requires-in-Value c =
    let way = goes (goal.at.enter-requires-in-Value c).After-node_here-above c.in-Value.is in
    let may = may_go way in
    let has = has_last _ _ _ may.0 in
    record {
      is_open = c.requires.at_work.ready.shown;
      kept = c.requires.at_work.kept;
      may = (child_there _ _ _ has, λ of_map. value_lacks _ _ _ may.0 may.2);
      node =
          node_is way c.child_node-node-in-Value.ensures
          ∙ ap (λ (f : Tracker). child_node c.args.plan.now (node_here c.args.plan.now c.args.frames.now.slots c.args.frames.now.stack) f c.in-Value.opening.count) (tracker_there _ _ _ has);
      planned = is_planned way c.child_node-node-in-Value.ensures;
    }

pub returns-in-Value-clause-entered : goal.returns-in-Value-clause-entered
returns-in-Value-clause-entered c =
    on_ok c.enter-in-Value.result (λ done.
    went (goes (goal.at.returns-in-Value-clause-entered c).After-node_here-above c.in-Value.is) c.child_node-node-in-Value.ensures
    (became (are_open c.requires.at_work) c.enter-in-Value.ensures.kept c.enter-in-Value.ensures.marks done))
    c.enter-in-Value.ensures.entered

-- An entry.

pub enter-requires-in-Entry : goal.enter-requires-in-Entry
enter-requires-in-Entry c =
    let way = goes (goal.at.enter-requires-in-Entry c).After-node_here-above c.in-Entry.is in
    record {
      is_open = c.requires.at_work.ready.shown;
      kept = c.requires.at_work.kept;
      may = (is_object way, keys_are_apart way, keys_are_counted way);
      node = c.node_here-above.ensures c.args.plan.now (are_open c.requires.at_work) ∙ object_node c.args.plan.now _ _ _ (is_object way);
      planned = is_planned way refl;
    }

pub returns-in-Entry-clause-entered : goal.returns-in-Entry-clause-entered
returns-in-Entry-clause-entered c =
    on_ok c.enter-in-Entry.result (λ done.
    went_entry (goes (goal.at.returns-in-Entry-clause-entered c).After-node_here-above c.in-Entry.is)
    (became (are_open c.requires.at_work) c.enter-in-Entry.ensures.kept c.enter-in-Entry.ensures.marks done))
    c.enter-in-Entry.ensures.entered

-- A content.

pub begin_so-requires-in-Content : goal.begin_so-requires-in-Content
begin_so-requires-in-Content c =
    let may = may_go (goes (goal.at.begin_so-requires-in-Content c).After-node_here-above c.in-Content.is) in
    record {
      are_open = record { plan = c.args.plan.now; are_open = are_open c.requires.at_work };
      may_have = may_have_one _ may.0;
      base = around_base _ may.0;
      parts = whole_some _ _ _ may.2;
      room = c.requires.room;
    }

pub enter-requires-in-Content : goal.enter-requires-in-Content
enter-requires-in-Content c =
    let way = goes (goal.at.enter-requires-in-Content c).After-node_here-above c.in-Content.is in
    let may = may_go way in
    let now = c.in_ok-begin_so-in-Content.ensures.changed c.args.plan.now (are_open c.requires.at_work) in
    let shown = c.requires.at_work.ready.shown in
    let has = has_then shown _ now _ _ (has_content _ _ _ may.2) in
    record {
      is_open = now.stands.open_still;
      kept = now.kept;
      may = (child_there _ _ _ has, none_then shown _ now _ _ (has_content _ _ _ may.2) (around_map _ may.0));
      node =
          node_after shown _ now (as_tracker c.in-Content.tracker) 0 (node_is way c.child_node-node-in-Content.ensures)
          ∙ ap (λ (f : Tracker). child_node c.args.plan.now (node_here c.args.plan.now c.begin_so-in-Content.new.frames.slots c.begin_so-in-Content.new.frames.stack) f 0) (tracker_there _ _ _ has);
      planned = is_planned way c.child_node-node-in-Content.ensures;
    }

pub returns-in_ok-begin_so-in-Content-clause-entered : goal.returns-in_ok-begin_so-in-Content-clause-entered
returns-in_ok-begin_so-in-Content-clause-entered c =
    let now = c.in_ok-begin_so-in-Content.ensures.changed c.args.plan.now (are_open c.requires.at_work) in
    on_ok c.enter-in-Content.result (λ done.
    went (goes (goal.at.returns-in_ok-begin_so-in-Content-clause-entered c).After-node_here-above c.in-Content.is)
    c.child_node-node-in-Content.ensures (went_after c.requires.at_work.ready.shown _ now _ _
    (became (open_then now) c.enter-in-Content.ensures.kept c.enter-in-Content.ensures.marks done)))
    c.enter-in-Content.ensures.entered
