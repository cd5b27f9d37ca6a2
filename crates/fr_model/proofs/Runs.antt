-- A whole script does the same to the journal and to the tree, and the relation place by place, which says the same as the one node by
-- node that the proofs go by, is kept.
use Rattle.std.proofs.Common.{◌≡◌, ◌+◌, ◌<◌, ◌∷◌, if◌then◌else◌}
use Rattle.fr_model.proofs.Common.{ℕ, suc, [], refl, sym, subst, arith, Def, Table, def_of, Val, product, no_vals, Place, child_shape, shape_at, Journal, Held, in_parts, written, just_entered, untouched, held, Tracker, Tree, hole, entered, whole, begun, Trees, no_trees, branch, tree_nth, tree_at, child_as, count_trees, HasPlace, HasParts, StandsFor, Suits, Bool, true, false, List, Option, Some, None, Result, Ok, Err, ◌∙◌, ap, ap₂, AllocError, ReflectErrorKind, Invariant, Meanings, IsPlain, Call, IsFieldCall, IsFieldScript, strict_column, is_root, longest, completes, Progress, initial_progress, rule, then_rules, rules, outcome_in, outcome, journal_run, Mode, strict, deferred, State, initial, complete, violates, step, built, build_in, IsRelated, BothGoOn, Refusal, numbered, and_then, run_from, unless_alloc, full_run, IsFitting, AllFitting, IsInOrder}
use Rattle.fr_model.proofs.Basis.{IsWhole, by_value, by_entry, Agrees, AgreeAll, agree_nth, child_as_is, down, held_down, suit_nth, completing_makes, completes_tree, fresh_agrees, start_in_order}
use Rattle.fr_model.proofs.TokensInTrees.{fresh_is}
use Rattle.std.specs.Result.{result_ok}
use Rattle.fr_shape.specs.Invariants.{keeps_invariants}
use Rattle.fr_shape.specs.InvariantLaws.{plain_keeps}
use Rattle.fr_model.proofs.Plannable.{none_refused}
use Rattle.fr_model.proofs.StepsAlike.{agrees_lawful, Alike, BothStep, steps_alike}

-- what a node tells of what the journal holds

holds_of_hole : (def : Def) (h : Held) → StandsFor def h hole → h ≡ untouched
holds_of_hole def untouched e = refl
holds_of_hole def just_entered e = absurd (fresh_is (λ (u : Tree). hole ≡ u → ⊥) def (λ empty e. cc) (λ other e. cc) e)
holds_of_hole def (written v) e = cc
holds_of_hole def in_parts e = absurd e

holds_of_entered : (def : Def) (h : Held) → StandsFor def h entered → h ≡ just_entered
holds_of_entered def just_entered e = refl
holds_of_entered def in_parts e = absurd e
holds_of_entered def _ e = cc

-- and as what it is begun
begun_stands : (def : Def) (h : Held) (tracker : Tracker) (ts : Trees) → StandsFor def h (begun tracker ts)
    → (h ≡ in_parts) × HasParts tracker
begun_stands def in_parts tracker ts e = (refl, e.0)
begun_stands def untouched tracker ts e = absurd cc
begun_stands def just_entered tracker ts e =
    absurd (fresh_is (λ (u : Tree). begun tracker ts ≡ u → ⊥) def (λ empty e. cc) (λ other e. cc) e)
begun_stands def (written v) tracker ts e = absurd cc

holds_of_whole : (table : Table) (s : ℕ) (h : Held) (v : Val) → StandsFor (def_of table s) h (whole v) → IsWhole table s v h
holds_of_whole table s untouched v e = cc
holds_of_whole table s just_entered v e =
    fresh_is (λ (u : Tree). whole v ≡ u → IsWhole table s v just_entered) (def_of table s)
    (λ empty e. let same : v ≡ product no_vals = cc in by_entry refl empty same) (λ other e. cc) e
holds_of_whole table s (written u) v e = let same : v ≡ u = cc in subst (λ w. IsWhole table s v (written w)) same (by_value refl)
holds_of_whole table s in_parts v e = absurd e

-- at each place of the tree, from a place of shape s, stands what the journal holds of it
abbrev pub EachStands : Table → ℕ → Journal → Tree → Type 0
EachStands table s notes t =
    (place : Place) → HasPlace place t → StandsFor (def_of table (shape_at table s place)) (held notes place) (tree_at place t)

mutual
  pub agrees_each : (table : Table) (t : Tree) (s : ℕ) (notes : Journal) → EachStands table s notes t → Agrees table s notes t
  agrees_each table hole s notes each = holds_of_hole (def_of table s) (held notes []) (each [] tt)
  agrees_each table entered s notes each = holds_of_entered (def_of table s) (held notes []) (each [] tt)
  agrees_each table (whole v) s notes each = holds_of_whole table s (held notes []) v (each [] tt)
  agrees_each table (begun tracker ts) s notes each =
      let stands = begun_stands (def_of table s) (held notes []) tracker ts (each [] tt) in (
        stands.0,
        agree_among table ts s tracker 0 notes stands.1 (λ j k place e below has. subst (λ (m : ℕ).
            StandsFor (def_of table (shape_at table (child_shape table s m) place)) (held notes (m ∷ place))
            (tree_at place (tree_nth j ts))) (omega arith) (each (j ∷ place) (below, has))),
        stands.1,
      )

  -- of the children from number i on
  agree_among : (table : Table) (ts : Trees) (s : ℕ) (tracker : Tracker) (i : ℕ) (notes : Journal) → HasParts tracker
      → ((j k : ℕ) (place : Place) → k ≡ i + j → j < count_trees ts → HasPlace place (tree_nth j ts)
      → StandsFor (def_of table (shape_at table (child_shape table s k) place)) (held notes (k ∷ place))
      (tree_at place (tree_nth j ts))) → AgreeAll table s tracker notes i ts
  agree_among table no_trees s tracker i notes parts each = tt
  agree_among table (branch t ts) s tracker i notes parts each = (
    agrees_each table t (child_as table s tracker i) (down i notes) (λ place has.
        subst (λ (m : ℕ). StandsFor (def_of table (shape_at table m place)) (held (down i notes) place) (tree_at place t))
        (sym (child_as_is table s tracker i parts))
        (subst (λ (h : Held). StandsFor (def_of table (shape_at table (child_shape table s i) place)) h (tree_at place t))
        (held_down i notes place) (each 0 i place (omega arith) (omega arith) has))),
    agree_among table ts s tracker (suc i) notes parts (λ j k place e below has. each (suc j) k place (omega arith) (omega arith) has),
  )

pub each_stands : (table : Table) (place : Place) (t : Tree) (s : ℕ) (notes : Journal) → Suits table s t
    → Agrees table s notes t → HasPlace place t → StandsFor (def_of table (shape_at table s place)) (held notes place) (tree_at place t)
each_stands table [] hole s notes suits agrees has = rw agrees refl
each_stands table [] entered s notes suits agrees has = rw (agrees, suits) refl
each_stands table [] (whole v) s notes suits (by_value e) has = rw e refl
each_stands table [] (whole v) s notes suits (by_entry e empty same) has = rw (e, empty, same) refl
each_stands table [] (begun tracker ts) s notes suits agrees has = rw agrees.0 (agrees.2, suits.0.0)
each_stands table (i ∷ place) (begun tracker ts) s notes suits agrees has =
    subst (λ (m : ℕ). StandsFor (def_of table (shape_at table m place)) (held notes (i ∷ place)) (tree_at place (tree_nth i ts)))
    (child_as_is table s tracker i agrees.2)
    (subst (λ (h : Held). StandsFor (def_of table (shape_at table (child_as table s tracker i) place)) h (tree_at place (tree_nth i ts)))
    (sym (held_down i notes place)) (each_stands table place (tree_nth i ts) (child_as table s tracker i) (down i notes)
    (suit_nth table s tracker i 0 ts i (omega arith) suits.1)
    (agree_nth table s tracker i 0 ts i notes (omega arith) has.0 agrees.1) has.1))
each_stands table (i ∷ place) _ s notes suits agrees has = absurd has

joined : (table : Table) (root number : ℕ) (state : State) (step_gives : Result State ReflectErrorKind) (rule_gives : Option Progress)
    (by_steps : State → Result Val Refusal) (by_rules : Progress → Option Progress) → BothStep table root step_gives rule_gives
    → ((next : State) (run : Progress) → Alike table root next run → result_ok (by_steps next) ≡ outcome table root (by_rules run))
    → result_ok (and_then number state step_gives by_steps) ≡ outcome table root (then_rules rule_gives by_rules)
joined table root number state (Ok next) (Some after) by_steps by_rules both rest = rest next after both
joined table root number state (Ok next) None by_steps by_rules both rest = absurd both
joined table root number state (Err kind) (Some after) by_steps by_rules both rest = absurd both
joined table root number state (Err kind) None by_steps by_rules both rest = refl

-- what completes is built, where it keeps its invariants
built_same : (hooks : Meanings) (table : Table) (root number : ℕ) (state : State) (t : Tree) (value by_notes : Option Val)
    → ((v : Val) → value ≡ Some v → keeps_invariants hooks.check table root v ≡ true) → by_notes ≡ value
    → result_ok (numbered number state (built hooks table root t value)) ≡ by_notes
built_same hooks table root number state t (Some v) by_notes keeps same = rw (keeps v refl) (sym same)
built_same hooks table root number state t None by_notes keeps same = sym same

module _ (hooks : Meanings) (table : Table) (root : ℕ) (plain : IsPlain table root) where
  build_same : (number : ℕ) (state : State) (run : Progress) → Alike table root state run
      → result_ok (run_from hooks table root number state []) ≡ outcome table root (Some run)
  build_same number state run alike = rw alike.same_mode (by_mode state.mode)
    where
      same : completes strict_column table run.notes root [] ≡ complete strict_column hooks table root state.tree
      same =
          completes_tree strict_column hooks table state.tree (longest run.notes) root run.notes plain.checked plain.plain
          alike.in_order.suits alike.agrees (omega arith)

      keeps : (v : Val) → complete strict_column hooks table root state.tree ≡ Some v → keeps_invariants hooks.check table root v ≡ true
      keeps v is =
          let made = completing_makes strict_column hooks table state.tree root v
          (agrees_lawful hooks table root run.notes state.tree alike.agrees) plain.checked alike.in_order.suits is in
          plain_keeps hooks.check table root v plain made.fit

      go : (b : Bool) → result_ok (numbered number state
          (if b then built hooks table root state.tree (complete strict_column hooks table root state.tree)
          else Err (violates Invariant.BuildOpenFrames))) ≡ (if b then completes strict_column table run.notes root [] else None)
      go true =
          built_same hooks table root number state state.tree (complete strict_column hooks table root state.tree)
          (completes strict_column table run.notes root []) keeps same
      go false = refl

      by_mode : (mode : Mode) → result_ok (numbered number state (build_in hooks table root state mode)) ≡ outcome_in table root run mode
      by_mode strict = rw alike.same_cursor (go (is_root state.cursor))
      by_mode (deferred start) = refl

  both_step : (state : State) (run : Progress) (command : Call) → Alike table root state run → IsFieldCall command
      → IsFitting table command → BothStep table root (step hooks table root state command) (rule table root run command)
  both_step state run command alike of_field fit =
      subst (λ (there : Progress). BothStep table root (step hooks table root state command) (rule table root there command)) (sym
      (ap₂ (λ (here : Place) (mode : Mode). record { notes = run.notes; cursor = here; mode = mode }) alike.same_cursor
      alike.same_mode))
      (steps_alike hooks table plain.checked root plain.sized plain.plain state run.notes alike.in_order alike.agrees command of_field fit)

  run_same : (script : List Call) (number : ℕ) (state : State) (run : Progress) → Alike table root state run
      → IsFieldScript script → AllFitting table script
      → result_ok (run_from hooks table root number state script) ≡ outcome table root (rules table root run script)
  run_same [] number state run alike of_fields fit = build_same number state run alike
  run_same (command ∷ commands) number state run alike of_fields fit =
      joined table root number state (step hooks table root state command) (rule table root run command)
      (λ next. run_from hooks table root (number + 1) next commands) (λ next. rules table root next commands)
      (both_step state run command alike of_fields.0 fit.0)
      (λ next after both. run_same commands (number + 1) next after both of_fields.1 fit.1)

-- at the start

start_alike : (table : Table) (root : ℕ) → Alike table root (initial table root) initial_progress
start_alike table root =
    record { in_order = start_in_order table root; agrees = fresh_agrees table root _ refl; same_cursor = refl; same_mode = refl }

-- the whole run of a plain root, which is never refused
pub machine_agrees : (hooks : Meanings) (table : Table) (root : ℕ) (script : List Call) → IsPlain table root
    → IsFieldScript script → AllFitting table script → result_ok (full_run hooks table root script) ≡ journal_run table root script
machine_agrees hooks table root script plain of_fields fit =
    ap (λ (refusal : Option AllocError).
    result_ok (unless_alloc refusal (run_from hooks table root 0 (initial table root) script))) (none_refused table root plain)
    ∙ run_same hooks table root plain script 0 (initial table root) initial_progress
    (start_alike table root) of_fields fit

-- the relation place by place

related_alike : (table : Table) (root : ℕ) (state : State) (run : Progress) → IsInOrder table root state
    → IsRelated table root state run → Alike table root state run
related_alike table root state run order related = record {
  in_order = order;
  agrees = agrees_each table state.tree root run.notes related.each_place;
  same_cursor = related.same_cursor;
  same_mode = related.same_mode;
}

alike_related : (table : Table) (root : ℕ) (state : State) (run : Progress) → Alike table root state run → IsRelated table root state run
alike_related table root state run alike = record {
  same_cursor = alike.same_cursor;
  same_mode = alike.same_mode;
  each_place = λ place has. each_stands table place state.tree root run.notes alike.in_order.suits alike.agrees has;
}

pub start_is_related : (table : Table) (root : ℕ) → IsRelated table root (initial table root) initial_progress
start_is_related table root = alike_related table root (initial table root) initial_progress (start_alike table root)

pub step_keeps_related : (hooks : Meanings) (table : Table) (root : ℕ) (state : State) (run : Progress) (command : Call)
    → IsPlain table root → IsInOrder table root state → IsRelated table root state run → IsFieldCall command
    → IsFitting table command → BothGoOn table root (step hooks table root state command) (rule table root run command)
step_keeps_related hooks table root state run command plain order related of_field fit =
    go _ _ (both_step hooks table root plain state run command
    (related_alike table root state run order related) of_field fit)
  where
    go : (outcome : Result State ReflectErrorKind) (ruled : Option Progress) → BothStep table root outcome ruled
        → BothGoOn table root outcome ruled
    go (Ok next) (Some after) both = alike_related table root next after both
    go (Ok next) None both = absurd both
    go (Err kind) (Some after) both = absurd both
    go (Err kind) None both = tt
