-- Laws of a place that is marked anew, as stored or as not, for proofs: all else is as it was.
use Rattle.std.proofs.Common.{◌≡◌, ◌≢◌, ℕ, zero, suc, ◌+◌, Bool, List, [], ◌∷◌, nat_eq, option_map, Option, refl, sym, ◌∙◌, ap, subst, arith}
use Rattle.fr_store.specs.Common.{AgreeBeside, AllStayPut, AreLeftRightly, FrameOwner, Holds, IsOpen, IsOpenAt, IsSome, Kid, Kids, LeadsUnstored, Node, Place, Plan, Plot, Reaches, Replaces, Shows, Slot, Stands, Tree, Trees, all_kept, at, begun, begun_plot, branch, cell_of, counts_if, counts_own, heap_of, holds_frame_in, kid, kid_at, kid_here, kid_nth, no_kids, open_at_from, put_at, put_nth, replaces_at, slot_other, slots_along, tree_in_slots, tree_of, trees_in, used_mapped, uses, uses_at, uses_in, uses_put_at, with_mark}
use Rattle.fr_store.specs.TopLaws.{slot_here}
use Rattle.fr_store.proofs.PlacesBeside.{stay_all, stay_marked, stay_shown}

-- A part with the same tree.

trees_kept : (i : ℕ) (new : Kid) (ks : Kids) → tree_of new ≡ tree_of (kid_nth i ks) → trees_in (put_nth i new ks) ≡ trees_in ks
trees_kept i new no_kids same = refl
trees_kept zero new (kid k ks) same = ap (λ (t : Tree). branch t (trees_in ks)) same
trees_kept (suc i) new (kid k ks) same = ap (λ (ts : Trees). branch (tree_of k) ts) (trees_kept i new ks same)

pub tree_kept : (place : Place) (new k : Kid) → tree_of new ≡ tree_of (kid_at place k) → tree_of (put_at place new k) ≡ tree_of k
tree_kept [] new k same = same
tree_kept (i ∷ place) new (at slot stored (begun_plot tracker kids)) same =
    ap (λ (ts : Trees). begun tracker ts)
    (trees_kept i (put_at place new (kid_nth i kids)) kids (tree_kept place new (kid_nth i kids) same))
tree_kept (i ∷ place) new _ same = refl

-- A place of an open builder is marked anew: it is open still, with the same tree, where the way goes on in what is there then.
module _ {plan : Plan} {before : List Slot} {stack : List ℕ} (open_now : IsOpen plan before stack) (after : List Slot)
    (here : Place) {slot : ℕ} {was : Bool} (mark : Bool) {plot : Plot} (reach : Reaches here (kid_here before stack)) (is : kid_at
    here (kid_here before stack) ≡ at slot was plot) (shows : Shows after (with_mark (heap_of before) slot mark)) where
  abbrev k : Kid
  k = kid_here before stack

  abbrev new : Kid
  new = at slot mark plot

  own : (m : ℕ) → uses (kid_at here (kid_here before stack)) m ≡ counts_if (nat_eq slot m) + uses_in plot m
  own m = ap (λ (x : Kid). uses x m) is

  elsewhere : (m : ℕ) → m ≢ slot → heap_of after m ≡ heap_of before m
  elsewhere m ne =
      shows m ∙ slot_other (heap_of before) slot (option_map (λ (x : Node). record x { stored = mark }) (heap_of before slot)) m ne

  agree : AgreeBeside (heap_of before) (heap_of after) k (kid_at here k)
  agree m h = elsewhere m (λ e. absurd (omega (arith, counts_own e, own m, open_now.stands.once m)))

  replaces : Replaces plan (heap_of before) (heap_of after) (kid_at here k) new
  replaces node owner depth holds =
      let held = subst (λ (x : Kid). Holds plan (heap_of before) node owner depth x) is holds in (
        shows slot ∙ slot_here (heap_of before) slot (option_map (λ (x : Node). record x { stored = mark }) (heap_of before slot))
            ∙ ap (option_map (λ (x : Node). record x { stored = mark })) held.0,
        held.1,
        holds_frame_in plan (heap_of before) (heap_of after) node slot (suc depth) plot held.2
            (λ m h. elsewhere m (λ e. absurd (omega (arith, counts_own e, own m, uses_at here k m, open_now.stands.once m)))),
      )

  pub open_marked : {next : List ℕ} (place : Place) → LeadsUnstored place (put_at here (at slot mark plot) (kid_here before stack))
      → next ≡ slots_along place (put_at here (at slot mark plot) (kid_here before stack)) → AreLeftRightly
      (put_at here (at slot mark plot) (kid_here before stack)) → IsOpenAt plan after next place (tree_in_slots before stack)
      × AllStayPut (kid_here before stack) (kid_here after next)
  open_marked {next} place leads along left = (
    open_at_from after stands (all_kept (heap_of before) (heap_of after) here new k reach open_now.all (λ m used. used_mapped
        (heap_of before) slot (λ (x : Node). record x { stored = mark }) m (subst (λ (o : Option Node). IsSome o) (shows m) used))
        (λ m. omega (arith, own m))) (tree_kept here new k (ap tree_of (sym is))),
    stay_shown after k stands (stay_all here new k reach (stay_marked {new = new} is refl)),
  )
    where
      stands : Stands plan (heap_of after) next place (put_at here (at slot mark plot) (kid_here before stack))
      stands = record {
        holds =
            replaces_at plan (heap_of before) (heap_of after) here new k (ap cell_of (sym is)) agree replaces plan.root
            FrameOwner.Root 0 open_now.stands.holds;
        once = λ m. omega (arith, uses_put_at here new k m reach, own m, open_now.stands.once m);
        leads = leads;
        along = along;
        left = left;
      }
