-- Places at which a content is entered or a variant is selected: what is kept of them, and how they start anew.
use Rattle.std.proofs.Common.{◌≡◌, ◌&&◌, ◌+◌, ◌==◌, if◌then◌else◌, ◌∷◌}
use Rattle.fr_model.proofs.Common.{ℕ, eqb-true, Bool, true, false, List, [], length, Option, Some, None, unwrap_or, refl, sym, ◌∙◌, ap, ap₂, subst, arith, option_map, option_or, Def, ShapeId, VariantDef, Operation, is_option, Field, ConversionsSuit, fits, Table, IsIn, Conversion, def_of, Val, some, is_result, pointer_refusal, variant_anew, around, content_anew, slice_anew, kept_so, kept_in, reopened, kept_slice, content_of, kept_option, Place, content_shape, Tracker, as_fields, as_content, ContentKind, as_items, ItemsKind, as_entries, EntriesKind, base_of_tracker, keys_of_tracker, hook_of_tracker, source_of_tracker, same_keys, same_tracker, Tree, hole, entered, whole, begun, Trees, no_trees, branch, child_as, tree_occurs, Mode, strict, deferred, is_enum, fields_or_none, variant_fields, has_discriminant, selection_refusal, HasContent, HasFieldsOf, HasFields, TakesItemsAs, IsFullAs, MayBegin, IsBegunAs, MayPoint, IsTouched, IsContent, IsBegunRightly, Suits, IsBehindBase, RestsAround, AtCursor, OffBut, Leads}
use Rattle.fr_model.proofs.Converts.{convert_alike}
use Rattle.fr_model.specs.StateCode.{tracker_numbered, tracker_comes_back}
use Rattle.fr_model.proofs.Basis.{bytes_are, may_work, enter_touched, fresh_suits, fresh_at_cursor, holes_off, all_deferred, rests_here, holes_rest, fresh_rests, rest_but, has_pointee, count_holes, holes_suit, settled_as, both_true, fresh_holds, holes_hold, done_none, done_but, suit_alike}

-- what is begun just so

same_keys_are : (keys others : List (List ℕ)) → same_keys keys others ≡ true → keys ≡ others
same_keys_are [] [] e = refl
same_keys_are [] (other ∷ others) e = cc
same_keys_are (key ∷ keys) [] e = cc
same_keys_are (key ∷ keys) (other ∷ others) e =
    let both = both_true _ _ e in
    ap₂ (λ (first : List ℕ) (rest : List (List ℕ)). first ∷ rest) (bytes_are key other both.0) (same_keys_are keys others both.1)

same_tracker_is : (one other : Tracker) → same_tracker one other ≡ true → one ≡ other
same_tracker_is one other e =
    let keys_too = same_keys _ (keys_of_tracker other) in
    let base_too = keys_too && (base_of_tracker one == base_of_tracker other) in
    let hook_too = base_too && (hook_of_tracker one == hook_of_tracker other) in
    let source_too = hook_too && (source_of_tracker one == source_of_tracker other) in
    let all = both_true source_too _ e in
    let with_source = both_true hook_too _ all.0 in
    let with_hook = both_true base_too _ with_source.0 in
    let with_base = both_true keys_too _ with_hook.0 in
    let number = eqb-true _ _ all.1 in
    let source = eqb-true _ _ with_source.1 in
    let hook = eqb-true _ _ with_hook.1 in
    let base = eqb-true _ _ with_base.1 in
    let keys = same_keys_are _ _ with_base.0 in
    sym (tracker_comes_back one) ∙ (λ j. tracker_numbered (number j) (base j) (keys j) (hook j) (source j)) ∙ tracker_comes_back other

pub record KeptSo (tracker : Tracker) (t kept : Tree) : Type 0 where
  pub children : Trees
  pub is : t ≡ begun tracker children
  pub same : kept ≡ begun tracker children

pub kept_so_is : (tracker : Tracker) (t kept : Tree) → kept_so tracker t ≡ Some kept → KeptSo tracker t kept
kept_so_is tracker (begun made ts) kept e = go _ refl e
  where
    go : (b : Bool) → same_tracker made tracker ≡ b → (if b then Some (begun made ts) else None) ≡ Some kept
        → KeptSo tracker (begun made ts) kept
    go true same e =
        let is = same_tracker_is made tracker same in
        let kept_is : begun made ts ≡ kept = cc in
        record {
          children = ts;
          is = ap (λ (known : Tracker). begun known ts) is;
          same = sym kept_is ∙ ap (λ (known : Tracker). begun known ts) is;
        }
    go false same e = cc
kept_so_is tracker _ kept e = cc

-- what becomes of a place: it suits its shape, and the cursor may go on from it this way
pub record Placed (mode : Mode) (table : Table) (s : ℕ) (way : Place) (after : Tree) : Type 0 where
  pub suits : Suits table s after
  pub leads : Leads mode way after

-- what is dropped of a place unless it is kept
abbrev pub lost : (kept : Option Tree) (old : Tree) → ℕ → ℕ
lost (Some kept) old t = 0
lost None old t = tree_occurs old t

pub record Becoming (mode : Mode) (table : Table) (s : ℕ) (way : Place) (old : Tree) (kept : Option Tree) (anew : Tree) : Type 0 where
  pub placed : Placed mode table s way (unwrap_or kept anew)
  pub rest : RestsAround [] old → RestsAround way (unwrap_or kept anew)
  pub hold : (t : ℕ) → tree_occurs (unwrap_or kept anew) t + lost kept old t ≡ tree_occurs old t
  pub converts : (field : Option Field) → ConversionsSuit table s field anew → ConversionsSuit table s field old
      → ConversionsSuit table s field (unwrap_or kept anew)

-- what is kept is placed so, and holds what the place held
pub record IsKept (mode : Mode) (table : Table) (s : ℕ) (way : Place) (old kept : Tree) : Type 0 where
  pub placed : Placed mode table s way kept
  pub rest : RestsAround [] old → RestsAround way kept
  pub hold : (t : ℕ) → tree_occurs kept t ≡ tree_occurs old t
  pub converts : (field : Option Field) → ConversionsSuit table s field old → ConversionsSuit table s field kept

-- what is kept just as it was
pub stays_kept : (mode : Mode) (table : Table) (s : ℕ) (t kept : Tree) → Suits table s t → AtCursor mode t
    → ◌≡◌ {A = Option Tree} (Some t) (Some kept) → IsKept mode table s [] t kept
stays_kept mode table s t kept suits at e =
    let same : t ≡ kept = cc in
    rw (← same) (record { placed = record { suits = suits; leads = at }; rest = λ rested. rested; hold = λ token. refl; converts = λ field there. there })

pub becoming : (mode : Mode) (table : Table) (s : ℕ) (way : Place) (old : Tree) (kept : Option Tree) (anew : Tree)
    → ((tree : Tree) → kept ≡ Some tree → IsKept mode table s way old tree) → Placed mode table s way anew
    → RestsAround way anew → ((t : ℕ) → tree_occurs anew t ≡ 0) → Becoming mode table s way old kept anew
becoming mode table s way old (Some tree) anew keeps placed rests none =
    let there = keeps tree refl in
    record {
      placed = there.placed;
      rest = there.rest;
      hold = λ t. omega (arith, there.hold t);
      converts = λ field new old. there.converts field old;
    }
becoming mode table s way old None anew keeps placed rests none =
    record { placed = placed; rest = λ rested. rests; hold = λ t. omega (arith, none t); converts = λ field new old. new }

-- Contents

-- a place that is begun so holds one
abbrev pub HoldsOne : Tracker → Type 0
HoldsOne (as_content kind) = Unit {0}
HoldsOne _ = ⊥

-- it has no base
one_baseless : (tracker : Tracker) → HoldsOne tracker → base_of_tracker tracker ≡ 0
one_baseless (as_entries (EntriesKind.Map base)) holds = absurd holds
one_baseless _ holds = refl

one_behind : (tracker : Tracker) (i : ℕ) → HoldsOne tracker → IsBehindBase tracker i
one_behind (as_entries (EntriesKind.Map base)) i holds = absurd holds
one_behind _ i holds = tt

-- a place of this shape may be begun so around a child that is no hole
pub record MayHold (table : Table) (s : ℕ) (tracker : Tracker) : Type 0 where
  pub full_as : IsFullAs (def_of table s) tracker 1
  pub may : MayBegin tracker 1
  pub rightly : (child : Tree) → IsTouched child → IsBegunRightly table s tracker (branch child no_trees)
  pub holds : HoldsOne tracker

around_placed : (mode : Mode) (table : Table) (s : ℕ) (tracker : Tracker) (child : Tree) → MayHold table s tracker
    → Suits table (child_as table s tracker 0) child → IsTouched child → AtCursor mode child
    → Placed mode table s (0 ∷ []) (around tracker child)
around_placed mode table s tracker child holds suits touched at =
    record { suits = ((holds.full_as, holds.may), (suits, tt), holds.rightly child touched); leads = (at, tt) }

anew_placed : (mode : Mode) (table : Table) (s : ℕ) (tracker : Tracker) → MayHold table s tracker
    → Placed mode table s (0 ∷ []) (content_anew table s tracker)
anew_placed mode table s tracker holds =
    around_placed mode table s tracker _ holds
    (fresh_suits table (child_as table s tracker 0)) (enter_touched (def_of table (child_as table s tracker 0)) hole)
    (fresh_at_cursor mode (def_of table (child_as table s tracker 0)))

anew_rests : (table : Table) (s : ℕ) (tracker : Tracker) → HoldsOne tracker → RestsAround (0 ∷ []) (content_anew table s tracker)
anew_rests table s tracker holds =
    let def = def_of table _ in (
      done_none tracker (one_baseless tracker holds),
      (rests_here _ (fresh_rests def), tt),
      one_behind tracker 0 holds,
    )

anew_holds : (table : Table) (s : ℕ) (tracker : Tracker) (t : ℕ) → tree_occurs (content_anew table s tracker) t ≡ 0
anew_holds table s tracker t = let none = fresh_holds (def_of table (child_as table s tracker 0)) t in omega arith

has_content : (table : Table) (s : ℕ) (tracker : Tracker) (ts : Trees) → HoldsOne tracker → IsBegunRightly table s tracker ts → IsContent ts
has_content table s (as_content ContentKind.Pointer) ts holds rightly = rightly.0
has_content table s (as_content (ContentKind.Source conversion)) ts holds rightly = rightly.0
has_content table s (as_content _) ts holds rightly = rightly
has_content table s _ ts holds rightly = absurd holds

touched_at : (start : ℕ) (t : Tree) → IsTouched t → AtCursor (deferred start) t
touched_at start hole touched = absurd touched
touched_at start (begun tracker ts) touched = (tt, all_deferred start ts)
touched_at start _ touched = tt

content_leads : (start : ℕ) (ts : Trees) → IsContent ts → OffBut (deferred start) 0 (λ child. Leads (deferred start) [] child) ts
content_leads start no_trees has = absurd has
content_leads start (branch t ts) has = (touched_at start t has, all_deferred start ts)

-- a begun content, side or pointee is entered again
kept_in_keeps : (mode : Mode) (table : Table) (s : ℕ) (tracker : Tracker) (t kept : Tree) → HoldsOne tracker → Suits table s t
    → kept_in mode tracker t ≡ Some kept → IsKept mode table s (0 ∷ []) t kept
kept_in_keeps strict table s tracker t kept holds suits e = cc
kept_in_keeps (deferred start) table s tracker t kept holds suits e =
    let to = kept_so_is tracker t kept e in
    let there : Suits table s (begun tracker to.children) = subst (λ (tree : Tree). Suits table s tree) to.is suits in
    rw to.same (record {
      placed = record {
        suits = there;
        leads = content_leads start to.children (has_content table s tracker to.children holds there.2);
      };
      rest = λ rested.
          let there : RestsAround [] (begun tracker to.children) = subst (λ (tree : Tree). RestsAround [] tree) to.is rested in
          let behind = one_behind tracker 0 holds in
          (done_but tracker 0 to.children behind there.0, rest_but 0 to.children there.1, behind);
      hold = λ t. ap (λ (tree : Tree). tree_occurs tree t) (sym to.is);
      converts = λ field there. subst (ConversionsSuit table s field) to.is there;
    })

pub content_becomes : (mode : Mode) (table : Table) (s : ℕ) (tracker : Tracker) (t : Tree) → MayHold table s tracker → Suits table s t
    → Becoming mode table s (0 ∷ []) t (kept_in mode tracker t) (content_anew table s tracker)
content_becomes mode table s tracker t holds suits =
    becoming mode table s (0 ∷ []) t _ _
    (λ tree e. kept_in_keeps mode table s tracker t tree holds.holds suits e) (anew_placed mode table s tracker holds)
    (anew_rests table s tracker holds.holds) (anew_holds table s tracker)

-- Options

record IsOption (table : Table) (s : ℕ) : Type 0 where
  content : ShapeId
  is : def_of table s ≡ Def.Option content

option_is : (table : Table) (s : ℕ) → is_option (def_of table s) ≡ true → IsOption table s
option_is table s e = go _ refl e
  where
    go : (def : Def) → def_of table s ≡ def → is_option def ≡ true → IsOption table s
    go (Def.Option t) is e = record { content = t; is = is }
    go _ is e = cc

pub option_holds : (table : Table) (s : ℕ) → is_option (def_of table s) ≡ true → MayHold table s (as_content ContentKind.Some)
option_holds table s e =
    let here = option_is table s e in record { full_as = rw here.is refl; may = tt; rightly = λ child touched. touched; holds = tt }

-- a whole `Some` is entered in place
some_keeps : (mode : Mode) (table : Table) (s : ℕ) (v : Val) (kept : Tree) → MayHold table s (as_content ContentKind.Some) → IsOption table s
    → fits table s v ≡ true → option_map (λ (held : Val). around (as_content ContentKind.Some) (whole held)) (content_of v) ≡ Some kept
    → IsKept mode table s (0 ∷ []) (whole v) kept
some_keeps mode table s (some held) kept holds here fit e =
    let same : around _ _ ≡ kept = cc in
    let content_fits : fits table here.content.0 held ≡ true = rw (settled_as table s here.is refl) at fit in
    let shape : child_as table s (as_content ContentKind.Some) 0 ≡ here.content.0 = rw here.is refl in
    rw (← same) (record {
      placed = around_placed mode table s _ (whole held) holds (rw shape content_fits) tt tt;
      rest = λ rested. (tt, (tt, tt), tt);
      hold = λ t. omega arith;
      converts = λ field there. (tt, (tt, tt));
    })
some_keeps mode table s _ kept holds here fit e = cc

kept_option_keeps : (mode : Mode) (table : Table) (s : ℕ) (t kept : Tree) → MayHold table s (as_content ContentKind.Some) → IsOption table s
    → Suits table s t → kept_option mode (def_of table (content_shape (def_of table s))) t ≡ Some kept → IsKept mode table s (0 ∷ []) t kept
kept_option_keeps mode table s hole kept holds here suits e = cc
kept_option_keeps mode table s entered kept holds here suits e = cc
kept_option_keeps mode table s (whole v) kept holds here suits e = go _ e
  where
    go : (b : Bool)
        → (if b then option_map (λ (held : Val). around (as_content ContentKind.Some) (whole held)) (content_of v) else None) ≡ Some kept
        → IsKept mode table s (0 ∷ []) (whole v) kept
    go true e = some_keeps mode table s v kept holds here suits e
    go false e = cc
kept_option_keeps mode table s (begun tracker ts) kept holds here suits e = kept_in_keeps mode table s _ _ kept tt suits e

pub option_becomes : (mode : Mode) (table : Table) (s : ℕ) (t : Tree) → is_option (def_of table s) ≡ true → Suits table s t
    → Becoming mode table s (0 ∷ []) t (kept_option mode (def_of table (content_shape (def_of table s))) t)
    (content_anew table s (as_content ContentKind.Some))
option_becomes mode table s t e suits =
    becoming mode table s (0 ∷ []) t _ _
    (λ tree is. kept_option_keeps mode table s t tree (option_holds table s e) (option_is table s e) suits is)
    (anew_placed mode table s (as_content ContentKind.Some) (option_holds table s e)) (anew_rests table s (as_content ContentKind.Some) tt) (anew_holds table s (as_content ContentKind.Some))

-- an option that starts anew
pub option_anew : (mode : Mode) (table : Table) (s : ℕ) (t : Tree) → is_option (def_of table s) ≡ true
    → Becoming mode table s (0 ∷ []) t None (content_anew table s (as_content ContentKind.Some))
option_anew mode table s t e =
    becoming mode table s (0 ∷ []) t None _ (λ tree is. cc) (anew_placed mode table s (as_content ContentKind.Some) (option_holds table s e))
    (anew_rests table s (as_content ContentKind.Some) tt) (anew_holds table s (as_content ContentKind.Some))

-- Results and pointers

abbrev pub IsSide : Tracker → Type 0
IsSide (as_content ContentKind.Ok) = Unit {0}
IsSide (as_content ContentKind.Err) = Unit {0}
IsSide _ = ⊥

has_sides : (def : Def) → is_result def ≡ true → HasContent def ContentKind.Ok 1 × HasContent def ContentKind.Err 1
has_sides (Def.Result t e) is = (refl, refl)
has_sides _ is = cc

pub side_holds : (table : Table) (s : ℕ) (side : Tracker) → IsSide side → is_result (def_of table s) ≡ true → MayHold table s side
side_holds table s (as_content ContentKind.Ok) of_result e =
    record { full_as = (has_sides _ e).0; may = tt; rightly = λ child touched. touched; holds = tt }
side_holds table s (as_content ContentKind.Err) of_result e =
    record { full_as = (has_sides _ e).1; may = tt; rightly = λ child touched. touched; holds = tt }
side_holds table s _ of_result e = absurd of_result

pub pointer_holds : (table : Table) (s : ℕ) → MayPoint table s false → MayHold table s (as_content ContentKind.Pointer)
pointer_holds table s points =
    record { full_as = has_pointee table _ points.0; may = tt; rightly = λ child touched. (touched, points); holds = tt }

pub source_holds : (table : Table) (s : ℕ) (conversion : Conversion) → IsIn table s
    → MayHold table s (as_content (ContentKind.Source conversion))
source_holds table s conversion there =
    record { full_as = refl; may = tt; rightly = λ child touched. (touched, there); holds = tt }

-- a pointer to a slice is open for items

is_pointer : (table : Table) (def : Def) → pointer_refusal table def ≡ None → TakesItemsAs def ItemsKind.Slice
is_pointer table (Def.Pointer pointer) e = tt
is_pointer table _ e = cc

taken_closed : (def : Def) → TakesItemsAs def ItemsKind.Slice → TakesItemsAs def ItemsKind.ClosedSlice
taken_closed (Def.Pointer pointer) takes = takes
taken_closed _ takes = absurd takes

taken_open : (def : Def) → TakesItemsAs def ItemsKind.ClosedSlice → TakesItemsAs def ItemsKind.Slice
taken_open (Def.Pointer pointer) takes = takes
taken_open _ takes = absurd takes

pub closed_suits : (table : Table) (s : ℕ) (ts : Trees) → Suits table s (begun (as_items ItemsKind.Slice) ts)
    → Suits table s (begun (as_items ItemsKind.ClosedSlice) ts)
closed_suits table s ts suits = (
  (taken_closed _ suits.0.0, suits.0.1),
  suit_alike table s (as_items ItemsKind.Slice) (as_items ItemsKind.ClosedSlice) (λ i. refl) 0 ts suits.1,
  suits.2,
)

open_suits : (table : Table) (s : ℕ) (ts : Trees) → Suits table s (begun (as_items ItemsKind.ClosedSlice) ts)
    → Suits table s (begun (as_items ItemsKind.Slice) ts)
open_suits table s ts suits = (
  (taken_open _ suits.0.0, suits.0.1),
  suit_alike table s (as_items ItemsKind.ClosedSlice) (as_items ItemsKind.Slice) (λ i. refl) 0 ts suits.1,
  suits.2,
)

reopened_keeps : (start : ℕ) (table : Table) (s : ℕ) (tracker : Tracker) (ts : Trees) (kept : Tree) → Suits table s (begun tracker ts)
    → reopened tracker ts ≡ Some kept → IsKept (deferred start) table s [] (begun tracker ts) kept
reopened_keeps start table s (as_items ItemsKind.Slice) ts kept suits e = stays_kept _ table s _ kept suits (tt, all_deferred start ts) e
reopened_keeps start table s (as_items ItemsKind.ClosedSlice) ts kept suits e =
    let same : begun (as_items ItemsKind.Slice) ts ≡ kept = cc in
    rw (← same) (record {
      placed = record { suits = open_suits table s ts suits; leads = (tt, all_deferred start ts) };
      rest = λ rested. (tt, rested.1);
      hold = λ t. refl;
      converts = λ field there.
          (tt, convert_alike table s (as_items ItemsKind.ClosedSlice) (as_items ItemsKind.Slice) (λ i. refl) (λ i. refl) 0 ts there.1);
    })
reopened_keeps start table s _ ts kept suits e = cc

kept_slice_keeps : (mode : Mode) (table : Table) (s : ℕ) (t kept : Tree) → Suits table s t → kept_slice mode t ≡ Some kept
    → IsKept mode table s [] t kept
kept_slice_keeps strict table s t kept suits e = cc
kept_slice_keeps (deferred start) table s (begun tracker ts) kept suits e = reopened_keeps start table s tracker ts kept suits e
kept_slice_keeps (deferred start) table s _ kept suits e = cc

pub slice_becomes : (mode : Mode) (table : Table) (s : ℕ) (t : Tree) → MayPoint table s true → Suits table s t
    → Becoming mode table s [] t (kept_slice mode t) slice_anew
slice_becomes mode table s t points suits =
    becoming mode table s [] t _ slice_anew (λ tree e. kept_slice_keeps mode table s t tree suits e)
    (record { suits = ((is_pointer table _ points.0, tt), tt, (tt, points)); leads = (may_work mode _ refl, tt) }) (tt, tt) (λ token. refl)

-- Variants

has_variant : (def : Def) (k : ℕ) → is_enum def ≡ true → selection_refusal def k ≡ None
    → HasFields def (Some k) (length (variant_fields def k))
has_variant (Def.Enum enumeration) k is e = go _ _ e
  where
    go : (layout : Option Operation) (found : Option VariantDef)
        → option_or layout (if has_discriminant found then None else Some Operation.VariantWithoutDiscriminant) ≡ None
        → HasFieldsOf found (length (fields_or_none found))
    go (Some operation) found e = cc
    go None (Some variant) e = refl
    go None None e = cc
has_variant _ k is e = cc

pub variant_becomes : (mode : Mode) (table : Table) (s k : ℕ) (t : Tree) → is_enum (def_of table s) ≡ true
    → selection_refusal (def_of table s) k ≡ None → AtCursor mode t → Suits table s t
    → Becoming mode table s [] t (kept_so (as_fields (Some k)) t) (variant_anew (def_of table s) k)
variant_becomes mode table s k t is admitted at suits =
    becoming mode table s [] t _ _ keeps anew (tt, holes_rest _) (holes_hold (length (variant_fields (def_of table s) k)))
  where
    keeps : (tree : Tree) → kept_so (as_fields (Some k)) t ≡ Some tree → IsKept mode table s [] t tree
    keeps tree e =
        let to = kept_so_is (as_fields (Some k)) t tree e in
        let same : tree ≡ t = to.same ∙ sym to.is in
        rw same (record { placed = record { suits = suits; leads = at }; rest = λ rested. rested; hold = λ token. refl; converts = λ field there. there })

    anew : Placed mode table s [] (variant_anew (def_of table s) k)
    anew = record {
      suits = (
        subst (λ (n : ℕ). IsBegunAs (def_of table s) (as_fields (Some k)) n) (sym (count_holes _)) (has_variant _ k is admitted, tt),
        holes_suit table s (as_fields (Some k)) 0 _,
        admitted,
      );
      leads = (may_work mode _ refl, holes_off mode _);
    }
