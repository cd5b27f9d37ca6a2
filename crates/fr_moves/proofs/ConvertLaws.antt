-- A source that ends in strict mode: what the conversion above it makes of its value, or why it isn't made.
use Rattle.std.proofs.Common.{◌≡◌, ◌⊎◌, ℕ, zero, suc, true, false, List, [], ◌∷◌, ◌++◌, is_none, is_some, Option, Some, None, IsSome, IsErr, Ok, Err, inl, inr, refl, sym, ◌∙◌, ap, subst, arith}
use Rattle.std.specs.Option.{option_or}
use Rattle.fr_moves.specs.Common.{ContentKind, Frames, IsAtWork, Leads, LookupPathsAgree, LookupsAgree, Meanings, Mode, Place, Plan, ReflectErrorKind, State, Table, Tree, Val, as_content, begun, branch, change_at, child_tree, complete, deferred, hole, is_begun_conversion, is_root, no_trees, no_vals, shape_in, strict_column, top_place, top_shape, top_tree, tree_at, tree_nth, up, whole, whole_tree, Became, Call, Changed, IsInOrder, IsSuited, fits, no_hooks, step, SameMarks, Slot}
use Rattle.fr_shape.specs.Hooks.{Meaning, gives, refuses, unsupported}
use Rattle.fr_model.specs.Complete.{failing_child, lack, made, valid_child}
use Rattle.fr_model.specs.Conversions.{refusal_through}
use Rattle.fr_model.specs.Laws.{CompletesOrLacks, StepKeepsConversions, StepKeepsOrder}
use Rattle.fr_model.specs.Places.{one_more}
use Rattle.fr_model.specs.Step.{above, cause, ends_source, or_missing, puts}
use Rattle.fr_model.specs.Trackers.{Conversion, Through, Tracker}
use Rattle.fr_model.specs.Tree.{for_hole, shape_below}
use Rattle.fr_model.specs.Well.{IsTouched, Suits}
use Rattle.fr_plan.specs.ReachLaws.{NodesAreReached, ReachedHaveNodes}
use Rattle.fr_store.specs.LeaveLaws.{below_root, up_append}
use Rattle.fr_moves.specs.ConvertingMoves.{shape_above, tree_above, IsSourceOnTop, WhyUnconverted, IsConverted}
use Rattle.fr_moves.specs.CompletedPlaces.{IsOfConversion, IsOfUntaken, PassesValidators}
use Rattle.fr_moves.specs.LackLaws.{lacks_named}
use Rattle.fr_moves.specs.Common.{WhyNot}
use Rattle.fr_moves.specs.AboveLaws.{above_along}
use Rattle.fr_moves.proofs.LeadLaws.{tree_leads}
use Rattle.fr_moves.specs.TreeLaws.{nth_leads, put_above, shape_above_stays, source_stays, tracker_stays}
use Rattle.fr_shape.specs.declared.error.TryFromFault.{TryFromFault}
use Rattle.fr_shape.specs.HookLaws.{no_hooks_are_lawful}
use Rattle.fr_store.specs.StackMoves.{tracker_in, HasTracker}
use Rattle.fr_store.specs.Turns.{root_shape}
use Rattle.fr_moves.proofs.ChildLaws.{tracker_is}
use Rattle.fr_moves.specs.PlaceLaws.{root_is}
use Rattle.fr_moves.specs.FitLaws.{fits_in}
use Rattle.fr_moves.proofs.GoingLaws.{tree_then}
use Rattle.fr_moves.proofs.KeepLaws.{became_after, became_marked}
use Rattle.fr_moves.specs.SetLaws.{keeps_own, takes_own}
use Rattle.fr_moves.specs.SetLaws.{set_is}
use Rattle.fr_store.specs.ConvertingSources.{IsConvertedUp, IsRefusedUp}
use Rattle.fr_moves.specs.StateLaws.{open_then}

-- What stands at the end of a way.

tree_last : (above : Place) (i : ℕ) (t : Tree) → tree_at (above ++ i ∷ []) t ≡ child_tree i (tree_at above t)
tree_last [] i t = refl
tree_last (j ∷ above) i t = tree_last above i (child_tree j t)

shape_last : (table : Table) (s : ℕ) (above : Place) (i : ℕ) (t : Tree)
    → shape_in table s (above ++ i ∷ []) t ≡ shape_below table (shape_in table s above t) i (tree_at above t)
shape_last table s [] i t = refl
shape_last table s (j ∷ above) i t = shape_last table (shape_below table s j t) above i (child_tree j t)

leads_touched : (mode : Mode) (place : Place) (t : Tree) → Leads mode place t → IsTouched (tree_at place t)
leads_touched mode [] hole leads = absurd leads
leads_touched mode [] _ leads = tt
leads_touched mode (i ∷ place) (begun tracker ts) leads =
    leads_touched mode place (tree_nth i ts) (nth_leads mode i (λ child. Leads mode place child) ts leads)
leads_touched mode (i ∷ place) _ leads = absurd leads

-- A conversion with its source.

-- what is begun so around this source
abbrev pub converted_from : Conversion → Tree → Tree
converted_from conversion source = begun (as_content (ContentKind.Source conversion)) (branch source no_trees)

-- a conversion has a child of this number, its source
record HasSource (table : Table) (s i : ℕ) (tree : Tree) : Type 0 where
  conversion : Conversion
  is : tree ≡ converted_from conversion (child_tree i tree)
  shape : shape_below table s i tree ≡ conversion.source

has_source : (table : Table) (s i : ℕ) (tree : Tree) → is_begun_conversion tree ≡ true → Suits table s tree → IsTouched (child_tree i tree)
    → HasSource table s i tree
has_source table s zero (begun (as_content (ContentKind.Source conversion)) (branch t no_trees)) converts suits touched =
    record { conversion = conversion; is = refl; shape = refl }
has_source table s (suc i) (begun (as_content (ContentKind.Source conversion)) (branch t no_trees)) converts suits touched = absurd touched
has_source table s i (begun (as_content (ContentKind.Source conversion)) no_trees) converts suits touched = absurd touched
has_source table s i (begun (as_content (ContentKind.Source conversion)) (branch t (branch u ts))) converts suits touched =
    absurd (omega (arith, suits.0.0))
has_source table s i (begun _ ts) converts suits touched = absurd (cc)
has_source table s i _ converts suits touched = absurd (cc)

-- so it is of the place above the one on top
pub record IsSourceHere (frames : Frames) : Type 0 where
  pub conversion : Conversion
  pub above_is : tree_above frames ≡ converted_from conversion (top_tree frames)
  pub shape_is : top_shape frames ≡ conversion.source
  pub touched : IsTouched (top_tree frames)

pub source_here : LookupsAgree → LookupPathsAgree → NodesAreReached → ReachedHaveNodes → {plan : Plan} {frames : Frames}
    → IsAtWork plan frames → IsSourceOnTop frames → IsSourceHere frames
source_here agree paths reached nodes {plan} {frames} at_work source =
    let last = below_root (top_place frames) source.0 in
    let same : up (top_place frames) ≡ last.0 = ap up last.2 ∙ up_append last.0 last.1 in
    let along = above_along agree paths reached nodes frames.table.now frames.root plan frames.slots frames.stack at_work.ready source.0 in
    let tree = whole_tree frames in
    let top : top_tree frames ≡ child_tree last.1 (tree_above frames)
    = ap (λ (p : Place). tree_at p tree) last.2 ∙ tree_last last.0 last.1 tree
    ∙ ap (λ (p : Place). child_tree last.1 (tree_at p tree)) (sym same) in
    let shape : top_shape frames ≡ shape_below frames.table.now (shape_above frames) last.1 (tree_above frames)
    = ap (λ (p : Place). shape_in frames.table.now frames.root.0 p tree) last.2
    ∙ shape_last frames.table.now frames.root.0 last.0 last.1 tree
    ∙ ap (λ (p : Place). shape_below frames.table.now (shape_in frames.table.now frames.root.0 p tree) last.1 (tree_at p tree))
    (sym same) in
    let touched : IsTouched (top_tree frames)
    = leads_touched (deferred 0) (top_place frames) tree (tree_leads 0 (top_place frames) _ at_work.ready.shown.stands.leads) in
    let has = has_source frames.table.now (shape_above frames) last.1 (tree_above frames) source.1 along.suits (subst IsTouched top touched) in
    record {
      conversion = has.conversion;
      above_is = has.is ∙ ap (converted_from has.conversion) (sym top);
      shape_is = shape ∙ has.shape;
      touched = touched;
    }

-- What it makes.

for_touched : {A : Type 0} (t : Tree) → IsTouched t → (of_hole of_other : A) → for_hole t of_hole of_other ≡ of_other
for_touched hole touched of_hole of_other = absurd touched
for_touched _ touched of_hole of_other = refl

module _ (hooks : Meanings) (table : Table) (s : ℕ) (conversion : Conversion) (t : Tree) (touched : IsTouched t) where
  abbrev tracker : Tracker
  tracker = as_content (ContentKind.Source conversion)

  abbrev value : Option Val
  value = complete strict_column hooks table conversion.source t

  makes : complete strict_column hooks table s (converted_from conversion t)
      ≡ made tracker (one_more (valid_child hooks table s tracker 0 value) (Some no_vals))
  makes =
      ap (λ (x : Option Val). made tracker (one_more (valid_child hooks table s tracker 0 x) (Some no_vals)))
      (for_touched t touched _ _)

  lacks : lack hooks table s (converted_from conversion t)
      ≡ option_or (lack hooks table conversion.source t) (option_or (failing_child hooks table s tracker 0 value) None)
  lacks = for_touched t touched _ _

  -- its source makes this value
  module _ (law : CompletesOrLacks) (v : Val) (is : value ≡ Some v) where
    abbrev meaning : Meaning
    meaning = hooks.convert table conversion.hook s v

    -- which the hook converts
    pub converts_to : (w : Val) → meaning ≡ gives w → complete strict_column hooks table s (converted_from conversion t) ≡ Some w
    converts_to w e = makes ∙ rw (is, e) refl

    nothing_lacks : lack hooks table conversion.source t ≡ None
    nothing_lacks =
        go (lack hooks table conversion.source t) refl
        (sym (law hooks table conversion.source t) ∙ ap (λ (x : Option Val). is_none x) is)
      where
        go : (lacking : Option ReflectErrorKind) → lack hooks table conversion.source t ≡ lacking → is_some lacking ≡ false
            → lack hooks table conversion.source t ≡ None
        go None e h = e
        go (Some kind) e h = cc

    -- or refuses, which is the cause then
    refused_none : (kind : ReflectErrorKind) → refusal_through conversion.through conversion.source s meaning ≡ Some kind
        → complete strict_column hooks table s (converted_from conversion t) ≡ None
    refused_none kind e = makes ∙ rw (is, e) refl

    refused_cause : (kind : ReflectErrorKind) → refusal_through conversion.through conversion.source s meaning ≡ Some kind
        → cause hooks table s (converted_from conversion t) ≡ kind
    refused_cause kind e = ap (or_missing s) lacks ∙ rw (nothing_lacks, is, e) refl

    pub refused : (kind : ReflectErrorKind) → refusal_through conversion.through conversion.source s meaning ≡ Some kind
        → WhyUnconverted hooks table s (converted_from conversion t) kind
    refused kind e = inl (record { incomplete = refused_none kind e; lacks = sym (refused_cause kind e) })

    -- for either of these memory may be wanting
    untaken : (kind : ReflectErrorKind) → refusal_through conversion.through conversion.source s meaning ≡ Some kind → IsOfConversion kind
        → IsSome (complete strict_column hooks table s (converted_from conversion t))
        ⊎ IsOfUntaken (cause hooks table s (converted_from conversion t))
    untaken kind e of_conversion = inr (subst IsOfUntaken (sym (refused_cause kind e)) (inr of_conversion))

    wants : IsSome (complete strict_column hooks table s (converted_from conversion t))
        ⊎ IsOfUntaken (cause hooks table s (converted_from conversion t))
    wants = go conversion.through refl meaning refl
      where
        go : (through : Through) → conversion.through ≡ through → (given : Meaning) → meaning ≡ given
            → IsSome (complete strict_column hooks table s (converted_from conversion t))
            ⊎ IsOfUntaken (cause hooks table s (converted_from conversion t))
        go through e (gives w) f = inl (ap (λ (x : Option Val). is_some x) (converts_to w f))
        go Through.Proxy e (refuses message) f =
            untaken (ReflectErrorKind.CustomDeserializationError message (record { 0 = conversion.source }) (record { 0 = s }))
            (rw (e, f) refl) tt
        go Through.Proxy e unsupported f =
            untaken (ReflectErrorKind.CustomDeserializationError [] (record { 0 = conversion.source }) (record { 0 = s }))
            (rw (e, f) refl) tt
        go Through.Wrapper e (refuses message) f =
            untaken
            (ReflectErrorKind.TryFromError (record { 0 = conversion.source }) (record { 0 = s }) (TryFromFault.Generic message))
            (rw (e, f) refl) tt
        go Through.Wrapper e unsupported f =
            untaken
            (ReflectErrorKind.TryFromError (record { 0 = conversion.source }) (record { 0 = s }) TryFromFault.UnsupportedSourceType)
            (rw (e, f) refl) tt

    pub wants_memory : (kind : ReflectErrorKind) → kind ≡ ReflectErrorKind.OutOfMemory
        → WhyUnconverted hooks table s (converted_from conversion t) kind
    wants_memory kind out = inr (record { memory = out; needed = wants })

  -- its source makes none: that is the cause
  module _ (law : CompletesOrLacks) (none : value ≡ None) where
    source_none : complete strict_column hooks table s (converted_from conversion t) ≡ None
    source_none = makes ∙ rw none refl

    source_lacks : cause hooks table s (converted_from conversion t) ≡ cause hooks table conversion.source t
    source_lacks =
        go (lack hooks table conversion.source t) refl
        (sym (law hooks table conversion.source t) ∙ ap (λ (x : Option Val). is_none x) none)
      where
        go : (lacking : Option ReflectErrorKind) → lack hooks table conversion.source t ≡ lacking → is_some lacking ≡ true
            → cause hooks table s (converted_from conversion t) ≡ cause hooks table conversion.source t
        go (Some kind) e h = ap (or_missing s) lacks ∙ rw e refl
        go None e h = cc

  -- why it isn't made, where the source doesn't complete
  pub why_not : CompletesOrLacks → (kind : ReflectErrorKind) → WhyNot hooks table conversion.source t kind
      → WhyUnconverted hooks table s (converted_from conversion t) kind
  why_not law kind (inl lacking) =
      inl (record {
        incomplete = source_none law lacking.incomplete;
        lacks = lacking.lacks ∙ sym (source_lacks law lacking.incomplete);
      })
  why_not law kind (inr wants) =
      elim wants.needed [
        | inl made ↦ made_some value refl made.0
        | inr said ↦ inr
            (record {
              memory = wants.memory;
              needed = inr (subst IsOfUntaken (sym (source_lacks law said.0)) (inl said.1));
            })
      ]
    where
      made_some : (made : Option Val) → value ≡ made → IsSome made → WhyUnconverted hooks table s (converted_from conversion t) kind
      made_some (Some v) e some = wants_memory law v e kind wants.memory
      made_some None e some = cc

-- The state then.

module _ (hooks : Meanings) (table : Table) (root : ℕ) (state : State) where
  abbrev shape_over : ℕ
  shape_over = shape_in table root (up state.cursor) state.tree

  abbrev tree_over : Tree
  tree_over = tree_at (up state.cursor) state.tree

  pub ends_so : (w : Val) → complete strict_column hooks table shape_over tree_over ≡ Some w
      → ends_source hooks table root state ≡ Ok (puts (above state) w)
  ends_so w e = rw e refl

  -- what isn't made is refused so
  pub ends_not : {kind : ReflectErrorKind} → WhyUnconverted hooks table shape_over tree_over kind
      → (kind ≡ ReflectErrorKind.OutOfMemory) ⊎ (ends_source hooks table root state ≡ Err kind)
  ends_not {kind} (inl lacking) =
      inr (rw lacking.incomplete (ap (λ (k : ReflectErrorKind). Err k) (sym lacking.lacks)))
  ends_not {kind} (inr wants) = inl wants.memory

  -- and never out of memory, where the value isn't one that isn't taken
  pub refused_first : {kind : ReflectErrorKind} → WhyUnconverted hooks table shape_over tree_over kind
      → kind ≡ ReflectErrorKind.OutOfMemory → PassesValidators (ends_source hooks table root state)
      → IsErr (ends_source hooks table root state) → ⊥
  refused_first {kind} (inl lacking) out passes refused = lacks_named hooks table shape_over tree_over (sym lacking.lacks ∙ out)
  refused_first {kind} (inr wants) out passes refused =
      go (complete strict_column hooks table shape_over tree_over) refl wants.needed
    where
      go : (made : Option Val) → complete strict_column hooks table shape_over tree_over ≡ made
          → IsSome (complete strict_column hooks table shape_over tree_over) ⊎ IsOfUntaken (cause hooks table shape_over tree_over) → ⊥
      go (Some w) e needed = let no : false ≡ true = rw (ends_so w e) at refused in cc
      go None e (inl some) = let no : false ≡ true = rw e at some in cc
      go None e (inr untaken) = (rw e at passes) untaken

-- What a value at the source leaves as it was.

-- a value that fits may be put at the place on top
pub suited_put : StepKeepsOrder → StepKeepsConversions → {plan : Plan} {frames : Frames} → IsAtWork plan frames → (v : Val)
    → fits frames.table.now (top_shape frames) v ≡ true
    → IsSuited frames.table.now frames.root.0 (change_at (top_place frames) (λ old. whole v) (whole_tree frames))
suited_put keeps_order keeps_conversions {plan} {frames} at_work v fit =
    let state : State = record { tree = whole_tree frames; cursor = top_place frames; mode = deferred 0; calls = 0 } in
    let call : Call = Call.Set (top_shape frames) v in
    let ordered : IsInOrder frames.table.now frames.root.0 state = record {
      suits = at_work.ready.suits.suits;
      leads = tree_leads 0 (top_place frames) _ at_work.ready.shown.stands.leads;
      began = omega arith;
    } in
    let steps : step no_hooks frames.table.now frames.root.0 state call ≡ Ok (puts state v)
    = set_is frames.table.now (top_shape frames) (top_shape frames) state v
    ∙ rw (keeps_own frames.table.now (top_shape frames), takes_own frames.table.now (top_shape frames)) refl in
    record {
      suits =
          (keeps_order no_hooks frames.table.now frames.root.0 state (puts state v) call no_hooks_are_lawful at_work.ready.checked ordered
          (fits_in frames.table.now (top_shape frames) v fit, fit) steps).suits;
      conversions =
          keeps_conversions no_hooks frames.table.now frames.root.0 state (puts state v) call no_hooks_are_lawful at_work.ready.checked
          ordered at_work.ready.suits.conversions steps;
    }

-- The source holds this value, and nothing else changed.
module _ {plan : Plan} {before between : Frames} (at_work : IsAtWork plan before) (source : IsSourceOnTop before) (v : Val)
    (put : Changed plan (λ old. whole v) before between) where
  pub at_work_between : IsSuited before.table.now before.root.0 (change_at (top_place before) (λ old. whole v) (whole_tree before))
      → IsAtWork plan between
  at_work_between suited =
      subst (IsAtWork plan) (sym put.same)
      (record {
        ready = record {
          inside = at_work.ready.inside;
          checked = at_work.ready.checked;
          planned = at_work.ready.planned;
          shown = put.stands.open_still;
          suits = subst (λ (t : Tree). IsSuited before.table.now before.root.0 t) (sym put.stands.built) suited;
        };
        kept = put.kept;
        stores = put.stores;
      })

  pub top_between : top_tree between ≡ whole v
  top_between = tree_then before at_work.ready.shown (λ old. whole v) put

  same_tracker : tracker_in (tree_above between) ≡ tracker_in (tree_above before)
  same_tracker =
      ap (λ (p : Place). tracker_in (tree_at (up p) (whole_tree between))) put.stands.cursor
      ∙ ap (λ (t : Tree). tracker_in (tree_at (up (top_place before)) t)) put.stands.built
      ∙ tracker_stays (top_place before) (λ old. whole v) (whole_tree before) source.0

  pub source_between : IsSourceOnTop between
  source_between = (
    ap is_root put.stands.cursor ∙ source.0,
    ap (λ (p : Place). is_begun_conversion (tree_at (up p) (whole_tree between))) put.stands.cursor
        ∙ ap (λ (t : Tree). is_begun_conversion (tree_at (up (top_place before)) t)) put.stands.built
        ∙ source_stays (top_place before) (λ old. whole v) (whole_tree before) source.0 ∙ source.1,
  )

  -- the conversion above it is the same
  pub same_conversion : (here : IsSourceHere before) (conversion : Conversion)
      → HasTracker (as_content (ContentKind.Source conversion)) (tree_above between) → conversion ≡ here.conversion
  same_conversion here conversion has =
      let one : as_content (ContentKind.Source conversion) ≡ tracker_in (tree_above between)
      = tracker_is (as_content (ContentKind.Source conversion)) (tree_above between) has in
      let other : tracker_in (tree_above before) ≡ as_content (ContentKind.Source here.conversion) = ap tracker_in here.above_is in
      let both : as_content (ContentKind.Source conversion) ≡ as_content (ContentKind.Source here.conversion) = one ∙ same_tracker ∙ other in
      cc

  -- of a place of the same shape
  pub same_shape : LookupPathsAgree → shape_in between.table.now (root_shape plan) (up (top_place between)) (whole_tree between) ≡ shape_above before
  same_shape paths =
      ap (λ (f : Frames). shape_in f.table.now (root_shape plan) (up (top_place between)) (whole_tree between)) put.same
      ∙ ap (λ (n : ℕ). shape_in before.table.now n (up (top_place between)) (whole_tree between))
      (root_is paths at_work.ready.checked at_work.ready.inside at_work.ready.planned)
      ∙ ap (λ (p : Place). shape_in before.table.now before.root.0 (up p) (whole_tree between)) put.stands.cursor
      ∙ ap (λ (t : Tree). shape_in before.table.now before.root.0 (up (top_place before)) t) put.stands.built
      ∙ shape_above_stays before.table.now before.root.0 (top_place before) (λ old. whole v) (whole_tree before)

  -- and then the place above is whole
  pub raised : {after : Frames} (w : Val)
      → Became plan (up (top_place between)) (change_at (up (top_place between)) (λ old. whole w) (whole_tree between)) between after
      → Became plan (up (top_place before)) (change_at (up (top_place before)) (λ old. whole w) (whole_tree before)) before after
  raised {after} w done =
      subst (λ (t : Tree). Became plan (up (top_place before)) t before after)
      (put_above (top_place before) w (λ old. whole v) (whole_tree before) source.0)
      (became_after up (λ p t. change_at (up p) (λ old. whole w) t) put done)

  -- What comes of that value.
  module _ (paths : LookupPathsAgree) (law : CompletesOrLacks) (means : Meanings) (here : IsSourceHere before)
      (made : complete strict_column means before.table.now (top_shape before) (top_tree before) ≡ Some v) where
    source_made : complete strict_column means before.table.now here.conversion.source (top_tree before) ≡ Some v
    source_made = ap (λ (s : ℕ). complete strict_column means before.table.now s (top_tree before)) (sym here.shape_is) ∙ made

    meaning_is : (conversion : Conversion) → conversion ≡ here.conversion
        → means.convert between.table.now conversion.hook
        (shape_in between.table.now (root_shape plan) (up (top_place between)) (whole_tree between)) v
        ≡ means.convert before.table.now here.conversion.hook (shape_above before) v
    meaning_is conversion same =
        ap (λ (c : Conversion). means.convert between.table.now c.hook
        (shape_in between.table.now (root_shape plan) (up (top_place between)) (whole_tree between)) v) same
        ∙ ap (λ (n : ℕ). means.convert between.table.now here.conversion.hook n v) (same_shape paths)
        ∙ ap (λ (f : Frames). means.convert f.table.now here.conversion.hook (shape_above before) v) put.same

    -- the hook made this of it
    pub converted_up : {slots : List Slot} {stack : List ℕ} → SameMarks between.slots slots
        → IsConvertedUp means between.table.now plan between.slots between.stack slots stack v
        → IsConverted means plan before (record between { slots = slots; stack = stack })
    converted_up marks done = record {
      value = done.result;
      meant =
          ap (complete strict_column means before.table.now (shape_above before)) here.above_is
          ∙ converts_to means before.table.now (shape_above before) here.conversion (top_tree before) here.touched law v source_made
          done.result (sym (meaning_is done.conversion (same_conversion here done.conversion done.above)) ∙ done.meant);
      became = raised done.result (became_marked (open_then put) marks done.stands);
    }

    -- or refused it so
    pub refused_up : (kind : ReflectErrorKind) → IsRefusedUp means between.table.now plan between.slots between.stack v kind
        → WhyUnconverted means before.table.now (shape_above before) (tree_above before) kind
    refused_up kind done =
        let same = same_conversion here done.conversion done.above in
        let through : refusal_through here.conversion.through here.conversion.source (shape_above before)
        (means.convert before.table.now here.conversion.hook (shape_above before) v) ≡ Some kind
        = ap (λ (c : Conversion). refusal_through c.through c.source (shape_above before)
        (means.convert before.table.now here.conversion.hook (shape_above before) v)) (sym same)
        ∙ ap (refusal_through done.conversion.through done.conversion.source (shape_above before)) (sym (meaning_is done.conversion same))
        ∙ ap (λ (n : ℕ). refusal_through done.conversion.through done.conversion.source n
        (means.convert between.table.now done.conversion.hook
        (shape_in between.table.now (root_shape plan) (up (top_place between)) (whole_tree between)) v)) (sym (same_shape paths))
        ∙ done.refused in
        subst (λ (t : Tree). WhyUnconverted means before.table.now (shape_above before) t kind) (sym here.above_is)
        (refused means before.table.now (shape_above before) here.conversion (top_tree before) here.touched law v source_made kind
        through)

    -- or there was no memory
    pub wanted_up : (kind : ReflectErrorKind) → kind ≡ ReflectErrorKind.OutOfMemory
        → WhyUnconverted means before.table.now (shape_above before) (tree_above before) kind
    wanted_up kind out =
        subst (λ (t : Tree). WhyUnconverted means before.table.now (shape_above before) t kind) (sym here.above_is)
        (wants_memory means before.table.now (shape_above before) here.conversion (top_tree before) here.touched law v source_made kind
        out)

-- why it isn't made, where the source doesn't complete, or there is no memory for its value
pub why_unmade : CompletesOrLacks → {frames : Frames} (means : Meanings) (here : IsSourceHere frames) (kind : ReflectErrorKind)
    → WhyNot means frames.table.now (top_shape frames) (top_tree frames) kind
    → WhyUnconverted means frames.table.now (shape_above frames) (tree_above frames) kind
why_unmade law {frames} means here kind why =
    subst (λ (t : Tree). WhyUnconverted means frames.table.now (shape_above frames) t kind) (sym here.above_is)
    (why_not means frames.table.now (shape_above frames) here.conversion (top_tree frames) here.touched law kind
    (subst (λ (s : ℕ). WhyNot means frames.table.now s (top_tree frames) kind) here.shape_is why))
