-- A builder as its open places give it: it is in order and at rest, and stays so from state to state.
use Rattle.std.proofs.Common.{◌≡◌, ℕ, suc, Bool, true, false, List, [], ◌∷◌, length, None, Result, Ok, refl, sym, ◌∙◌, ap, subst, arith}
use Rattle.fr_moves.specs.Common.{AreOpen, Became, Call, ConversionsSuit, Frames, IsInOrder, IsKept, IsMade, IsMeant, IsOpen, IsOpenAt, IsSound, Kid, Meanings, Move, NothingStored, Parts, PathStep, Place, Plan, ReflectErrorKind, RestsAround, Site, Slot, State, StoresNothing, Tree, at, begun_plot, cursor_in, deferred, heap_of, is_root, kid_shown, meant_by, mode_of, one_more_call, path_of, plan_in, site, step, strict}
use Rattle.fr_shape.specs.Hooks.{IsLawful}
use Rattle.fr_model.specs.Laws.{StepKeepsConversions, StepKeepsOrder, StepKeepsRest}
use Rattle.fr_model.specs.Paths.{steps_in}
use Rattle.fr_model.specs.Scripts.{IsFitting}
use Rattle.fr_model.specs.Tree.{Mode as StateMode}
use Rattle.fr_frame.specs.Heap.{marked}
use Rattle.fr_store.specs.Stored.{StoresNoMore}
use Rattle.fr_store.specs.Ways.{kid_nth, slots_along, LeadsUnstored}
use Rattle.fr_store.specs.WayLaws.{leads_at}
use Rattle.fr_refusals.specs.declared.mode.Mode.{Mode}
use Rattle.fr_refusals.specs.Modes.{IsBelowStart}
use Rattle.fr_moves.specs.Underway.{state_of}

-- what a builder works with is in order
abbrev pub IsSiteInOrder : Site → Type 0
IsSiteInOrder site = IsInOrder site.shapes site.root site.state

-- the state after one more call, where the builder works at this place of this tree
abbrev pub state_then : Parts → Place → Tree → State
state_then parts place tree = record {
  tree = tree;
  cursor = place;
  mode = mode_of parts.frames.mode;
  calls = one_more_call parts.calls;
}

-- slots and stack that stand for a tree and a place are the state
pub state_is : {plan : Plan} {slots : List Slot} {stack : List ℕ} {place : Place} {tree : Tree} (mode : StateMode) (calls count : ℕ)
    → IsOpenAt plan slots stack place tree → calls ≡ count
    → state_of slots stack mode calls ≡ record { tree = tree; cursor = place; mode = mode; calls = count }
state_is {plan} {slots} {stack} {place} {tree} mode calls count is same =
    ap (λ (t : Tree). record { tree = t; cursor = cursor_in slots stack; mode = mode; calls = calls }) is.built
    ∙ ap (λ (p : Place). record { tree = tree; cursor = p; mode = mode; calls = calls }) is.cursor
    ∙ ap (λ (n : ℕ). record { tree = tree; cursor = place; mode = mode; calls = n }) same

-- a well state, but for its tokens
pub record IsWellThen (parts : Parts) (next : State) : Type 0 where
  pub in_order : IsInOrder parts.frames.table.now parts.frames.root.0 next
  pub rests : RestsAround next.cursor next.tree
  pub conversions : ConversionsSuit parts.frames.table.now parts.frames.root.0 None next.tree

module _ {parts : Parts} (sound : IsSound parts) where
  -- the state itself
  pub order : IsSiteInOrder (site parts)
  order = record { suits = sound.at_work.ready.suits.suits; leads = sound.leads; began = sound.began }

  -- an admitted command that is fitting keeps the order, what rests around the place, and conversions that suit their places
  pub well_after : StepKeepsOrder → StepKeepsRest → StepKeepsConversions → (hooks : Meanings) → IsLawful hooks → (next : State) (command : Call)
      → IsFitting parts.frames.table.now command
      → step hooks parts.frames.table.now parts.frames.root.0 (site parts).state command ≡ Ok next → IsWellThen parts next
  well_after keeps_order keeps_rest keeps_conversions hooks lawful next command fitting is = record {
    in_order =
        keeps_order hooks parts.frames.table.now parts.frames.root.0 (site parts).state next command lawful
        sound.at_work.ready.checked order fitting is;
    rests =
        keeps_rest hooks parts.frames.table.now parts.frames.root.0 (site parts).state next command sound.at_work.ready.checked order
        sound.rests fitting is;
    conversions =
        keeps_conversions hooks parts.frames.table.now parts.frames.root.0 (site parts).state next command lawful
        sound.at_work.ready.checked order sound.at_work.ready.suits.conversions is;
  }

  -- the same table, root and plan with other slots, another stack, store and mode
  pub sound_so : (slots : List Slot) (stack store : List ℕ) (mode : Mode) (path : List PathStep) (calls : ℕ) (state : State)
      → IsOpen (plan_in parts.plan) slots stack → IsKept store slots → StoresNothing (mode_of mode) store
      → state_of slots stack (mode_of mode) calls ≡ state → IsWellThen parts state → path ≡ path_of state
      → IsSound (record parts {
        frames = record parts.frames { slots = slots; stack = stack; store = store; mode = mode };
        path = path;
        calls = calls;
      })
  sound_so slots stack store mode path calls state shown kept stores is well way =
      let now : State = state_of slots stack (mode_of mode) calls in
      let reached : IsWellThen parts now = subst (IsWellThen parts) (sym is) well in
      record {
        numbered = sound.numbered;
        at_work = record {
          ready = record {
            inside = sound.at_work.ready.inside;
            checked = sound.at_work.ready.checked;
            planned = sound.at_work.ready.planned;
            shown = shown;
            suits = record { suits = reached.in_order.suits; conversions = reached.conversions };
          };
          kept = kept;
          stores = stores;
        };
        leads = reached.in_order.leads;
        began = reached.in_order.began;
        rests = reached.rests;
        path = way ∙ ap path_of (sym is);
      }

  -- One more call came to a move, and the open places became so: then it is sound, where that is what the move means.
  module _ {plan : Plan} (same : plan ≡ plan_in parts.plan) {place : Place} {tree : Tree} {frames : Frames}
      (became : Became plan place tree parts.frames frames) {calls : ℕ} (more : calls ≡ one_more_call parts.calls) where
    pub sound_moved : StepKeepsOrder → StepKeepsRest → StepKeepsConversions → (hooks : Meanings) → IsLawful hooks → {move : Move} → IsMeant (site parts) move
        → meant_by hooks (site parts) move ≡ Ok (state_then parts place tree) → (path : List PathStep)
        → path ≡ steps_in place tree → IsSound (record parts { frames = frames; path = path; calls = calls })
    sound_moved keeps_order keeps_rest keeps_conversions hooks lawful {move} meant is path way =
        let next : State = state_then parts place tree in
        let steps = meant.1.means hooks ∙ is in
        subst (λ (f : Frames). IsSound (record parts { frames = f; path = path; calls = calls })) (sym became.same)
        (sound_so frames.slots frames.stack frames.store parts.frames.mode path calls next
        (subst (λ (p : Plan). IsOpen p frames.slots frames.stack) same became.stands.open_still) became.kept became.stores
        (state_is (mode_of parts.frames.mode) calls next.calls became.stands more)
        (well_after keeps_order keeps_rest keeps_conversions hooks lawful next meant.0 meant.1.fitting steps) way)

    -- and so the contracts see it
    pub site_moved : (path : List PathStep) → site (record parts { frames = frames; path = path; calls = calls })
        ≡ record (site parts) { state = state_then parts place tree }
    site_moved path =
        ap (λ (f : Frames). site (record parts { frames = f; path = path; calls = calls })) became.same
        ∙ ap (λ (s : State). record (site parts) { state = s })
        (state_is (mode_of parts.frames.mode) calls (one_more_call parts.calls) became.stands more)

    -- and so the move is made
    pub made_moved : {A : Type 0} (done : A) (path : List PathStep) {meant : Result State ReflectErrorKind}
        → meant ≡ Ok (state_then parts place tree)
        → IsMade parts (record parts { frames = frames; path = path; calls = calls }) meant (Ok done)
    made_moved done path is =
        let now = site_moved path in (
          is ∙ ap (λ (s : Site). Ok s.state) (sym now),
          ap (λ (s : Site). s.shapes) now,
          ap (λ (s : Site). s.root) now,
          ap (λ (s : Site). s.plan) now,
        )

-- The open places became so, and then so: all in all they became what they are now.
pub became_through : {plan : Plan} {place other : Place} {tree next : Tree} {before between after : Frames}
    → Became plan place tree before between → Became plan other next between after → Became plan other next before after
became_through {plan} {place} {other} {tree} {next} {before} {between} {after} first second = record {
  stands = second.stands;
  kept = second.kept;
  stores = subst (λ (f : Frames). StoresNothing (mode_of f.mode) after.store) first.same second.stores;
  same =
      second.same ∙ ap (λ (f : Frames). record f { slots = after.slots; stack = after.stack; store = after.store }) first.same;
}

-- and they are open then
pub open_then : {plan : Plan} {place : Place} {tree : Tree} {before after : Frames} → Became plan place tree before after
    → AreOpen plan after
open_then {plan} {place} {tree} {before} {after} became = record {
  shown = became.stands.open_still;
  kept = became.kept;
  stores = subst (λ (f : Frames). StoresNothing (mode_of f.mode) after.store) (sym became.same) became.stores;
}

-- What is stored.

-- an empty store keeps nothing, and where nothing is stored it is empty
none_kept : (slots : List Slot) → IsKept [] slots → NothingStored slots
none_kept slots kept n = by_mark (marked (heap_of slots) n) refl
  where
    by_mark : (x : Bool) → marked (heap_of slots) n ≡ x → marked (heap_of slots) n ≡ false
    by_mark false e = e
    by_mark true e =
        let listed = (kept n).0 e in
        absurd (omega (arith, listed.1))

-- where nothing is stored, an empty store lists it all
pub kept_none : (slots : List Slot) → NothingStored slots → IsKept [] slots
kept_none slots none n = (λ e. let apart : true ≡ false = sym e ∙ none n in cc, λ listed. absurd (omega (arith, listed.1)))

none_listed : (store : List ℕ) (slots : List Slot) → IsKept store slots → NothingStored slots → store ≡ []
none_listed [] slots kept none = refl
none_listed (n ∷ store) slots kept none =
    let marked_so : marked (heap_of slots) n ≡ true = (kept n).1 (0, omega arith, refl) in
    let apart : true ≡ false = sym marked_so ∙ none n in
    cc

-- in strict mode nothing is stored
pub strict_stores : (mode : StateMode) (store : List ℕ) (slots : List Slot) → mode ≡ strict → StoresNothing mode store
    → IsKept store slots → NothingStored slots
strict_stores strict store slots is stores kept = none_kept slots (subst (λ (listed : List ℕ). IsKept listed slots) stores kept)
strict_stores (deferred start) store slots is stores kept = cc

-- so it stays where nothing more is stored
pub stores_after : (mode : StateMode) (store next : List ℕ) (before after : List Slot) → StoresNothing mode store
    → IsKept store before → IsKept next after → StoresNoMore before after → StoresNothing mode next
stores_after strict store next before after stores kept kept_next no_more =
    none_listed next after kept_next (λ n. no_more n (strict_stores strict store before refl stores kept n))
stores_after (deferred start) store next before after stores kept kept_next no_more = tt

-- the stack has one slot for the root, and one for each step
along_length : (place : Place) (k : Kid) → LeadsUnstored place k → length (slots_along place k) ≡ suc (length place)
along_length [] (at slot stored plot) leads = refl
along_length (i ∷ place) (at slot stored (begun_plot tracker kids)) leads =
    ap suc (along_length place (kid_nth i kids) (leads_at (i ∷ []) place (at slot stored (begun_plot tracker kids)) leads))
along_length (i ∷ place) (at slot stored _) leads = absurd leads.1
along_length _ _ leads = absurd leads

-- of an open builder
pub stack_length : (plan : Plan) (slots : List Slot) (stack : List ℕ) → IsOpen plan slots stack
    → length stack ≡ suc (length (cursor_in slots stack))
stack_length plan slots stack shown =
    ap length shown.stands.along ∙ along_length (cursor_in slots stack) (kid_shown (heap_of slots) stack) shown.stands.leads

-- what lies deeper than where deferred mode began isn't the root, and there anything may be stored
pub below_start : (mode : StateMode) (place : Place) → IsBelowStart mode place
    → (is_root place ≡ false) × ((store : List ℕ) → StoresNothing mode store)
below_start (deferred start) (i ∷ place) deep = (refl, λ store. tt)
below_start (deferred start) [] deep = absurd (omega (arith, deep))
below_start strict place deep = absurd deep
