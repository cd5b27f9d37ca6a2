-- What an admitted command keeps.
use Rattle.std.proofs.Common.{◌≡◌, ◌+◌, ◌≤◌, if◌then◌else◌, ◌∷◌}
use Rattle.fr_model.proofs.Common.{ℕ, zero, suc, Bool, true, false, [], append-nil, Option, Some, None, Result, Ok, Err, refl, ◌∙◌, ap, subst, arith, ReflectErrorKind, Invariant, IsChecked, Meanings, Table, def_of, Val, Call, complete, above, up, number_in, ConversionsSuit, Place, strict_column, is_root, removed, removed_by, replaced, removed_at_build, removed_by_build, IsFitting, brings, violates, step, cause, built, build_in, build, fresh, Tree, whole, change_at, Mode, strict, deferred, State, cursor_shape, cursor_tree, initial, tree_occurs, Suits, RestsAround, IsInOrder, AreDistinct, IsWell}
use Rattle.fr_model.specs.Laws.{held_after, built_occurs, IsFresh}
use Rattle.fr_model.proofs.Move.{Move, stays, goes_on, goes_up, is_taken, is_same, is_converted, stays_behind, is_parsed, is_deferred, is_over}
use Rattle.fr_model.proofs.CommandMoves.{moves}
use Rattle.fr_shape.specs.Hooks.{IsLawful}
use Rattle.fr_model.proofs.Basis.{lawful_in, rest_converted, began_strict, template_holds, put_in_order, completing_makes, completed_in_order, changed_in_order, moved_in_order, made_at, start_in_order, left_in_order, deferred_in_order, rests_here, fresh_rests, rest_on, rest_up, rest_put_up, rest_took, fresh_holds, change_holds}
use Rattle.fr_model.proofs.Ending.{took_in_order, took_holds, made_above, converted_in_order, converted_holds}
use Rattle.fr_model.proofs.Converts.{fresh_converts, converts_changed, took_converts}
use Rattle.fr_model.proofs.FinishRests.{finish_rests}
use Rattle.fr_model.proofs.Finishes.{finish_keeps}
use Rattle.fr_model.proofs.StepsAlike.{finished_in_order}

-- tokens

moves_tokens : (hooks : Meanings) (table : Table) (root : ℕ) (state next : State) (command : Call) (t : ℕ)
    → IsLawful hooks → IsChecked table → IsInOrder table root state → Move hooks table root state command next
    → tree_occurs state.tree t + brings command t
    ≡ tree_occurs next.tree t + replaced hooks table root (cursor_shape table root state) state command t
moves_tokens hooks table root state next command t lawful checked order (stays same change placed hold rest converts) =
    omega (arith, change_holds state.mode state.cursor state.tree change t order.leads, hold lawful t)
moves_tokens hooks table root state next command t lawful checked order (goes_on same i change placed hold rest converts) =
    omega (arith, change_holds state.mode state.cursor state.tree change t order.leads, hold t)
moves_tokens hooks table root state next command t lawful checked order (goes_up column v began may no_set is drops) =
    let there = change_holds state.mode state.cursor state.tree (λ old. whole v) t order.leads in
    let made = made_at column hooks table root state v (lawful_in hooks (cursor_tree state) lawful) checked is order in
    omega (arith, made.hold t, drops t)
moves_tokens hooks table root state next command t lawful checked order (is_taken column v began below of_set is drops) =
    let there = took_holds table root state v t below of_set order.leads in
    let made = made_at column hooks table root state v (lawful_in hooks (cursor_tree state) lawful) checked is order in
    omega (arith, made.hold t, drops t)
moves_tokens hooks table root state next command t lawful checked order (is_same same drops none) = omega (arith, drops t, none t)
moves_tokens hooks table root state next command t lawful checked order (is_converted v strictly below is drops) =
    let there = converted_holds state v t order.leads in
    let made = made_above strict_column hooks table root state v (lawful_in hooks (cursor_tree (above state)) lawful) checked is order in
    omega (arith, made.hold t, drops t)
moves_tokens hooks table root state next command t lawful checked order (stays_behind start mode deeper shut no_set no_part drops) =
    omega (arith, drops t)
moves_tokens hooks table root state next command t lawful checked order (is_parsed same v template drops none) =
    let there = change_holds state.mode state.cursor state.tree (λ old. whole v) t order.leads in
    omega (arith, there, template_holds table _ v t (template lawful), drops t, none t)
moves_tokens hooks table root state next command t lawful checked order (is_deferred is) = refl
moves_tokens hooks table root state next command t lawful checked order (is_over tree is) =
    let kept = finish_keeps hooks table root state.cursor state.tree tree (lawful_in hooks state.tree lawful) checked order.suits is in
    omega (arith, kept.hold t)

-- whatever comes of a command: nothing is lost and nothing doubled
pub step_keeps_tokens : (hooks : Meanings) (table : Table) (root : ℕ) (state : State) (command : Call)
    → IsLawful hooks → IsChecked table → IsInOrder table root state → (t : ℕ) → tree_occurs state.tree t + brings command t
    ≡ held_after (step hooks table root state command) t + removed hooks table root state command t
step_keeps_tokens hooks table root state command lawful checked order t = go (step hooks table root state command) refl
  where
    go : (outcome : Result State ReflectErrorKind) → step hooks table root state command ≡ outcome
        → tree_occurs state.tree t + brings command t
        ≡ held_after outcome t + removed_by hooks table root (cursor_shape table root state) state command outcome t
    go (Ok next) e =
        moves_tokens hooks table root state next command t lawful checked order (moves hooks table checked root state next order command e)
    go (Err kind) e = omega arith

pub build_keeps_tokens : (hooks : Meanings) (table : Table) (root : ℕ) (state : State) → IsLawful hooks → IsChecked table
    → Suits table root state.tree → (t : ℕ) → tree_occurs state.tree t
    ≡ built_occurs (build hooks table root state) t + removed_at_build hooks table root state t
build_keeps_tokens hooks table root state lawful checked suits t = by_mode state.mode
  where
    built_is : (b : Bool) (v u : Val) → (if b then Ok v else Err (violates Invariant.TypeInvariant)) ≡ Ok u → Some v ≡ Some u
    built_is true v u e = ap Some cc
    built_is false v u e = cc

    kept : (outcome : Result Val ReflectErrorKind)
        → ((v : Val) → outcome ≡ Ok v → complete strict_column hooks table root state.tree ≡ Some v)
        → tree_occurs state.tree t ≡ built_occurs outcome t + removed_by_build hooks table root state outcome t
    kept (Ok v) is =
        let made = completing_makes strict_column hooks table state.tree root v (lawful_in hooks state.tree lawful) checked suits (is v refl) in
        omega (arith, made.hold t)
    kept (Err kind) is = omega arith

    go : (b : Bool) (value : Option Val) → complete strict_column hooks table root state.tree ≡ value → tree_occurs state.tree t
        ≡ built_occurs (if b then built hooks table root state.tree value else Err (violates Invariant.BuildOpenFrames)) t
        + removed_by_build hooks table root state (if b then built hooks table root state.tree value else Err (violates Invariant.BuildOpenFrames)) t
    go true (Some v) is = kept (built hooks table root state.tree (Some v)) (λ u e. is ∙ built_is _ v u e)
    go true None is = kept (Err (cause hooks table root state.tree)) (λ u e. cc)
    go false value is = kept (Err (violates Invariant.BuildOpenFrames)) (λ u e. cc)

    by_mode : (mode : Mode) → tree_occurs state.tree t
        ≡ built_occurs (build_in hooks table root state mode) t + removed_by_build hooks table root state (build_in hooks table root state mode) t
    by_mode strict = go (is_root state.cursor) (complete strict_column hooks table root state.tree) refl
    by_mode (deferred start) = kept (Err (violates Invariant.BuildDeferred)) (λ u e. cc)

-- states stay well

-- the place at the cursor becomes another, and the cursor stays
rest_there : (state : State) (change : Tree → Tree)
    → (RestsAround [] (cursor_tree state) → RestsAround [] (change (cursor_tree state))) → RestsAround state.cursor state.tree
    → RestsAround state.cursor (change_at state.cursor change state.tree)
rest_there state change step rests =
    subst (λ (place : Place). RestsAround place (change_at state.cursor change state.tree)) (append-nil state.cursor)
    (rest_on state.cursor [] state.tree change step rests)

moves_in_order : (hooks : Meanings) (table : Table) (root : ℕ) (state next : State) (command : Call) → IsLawful hooks → IsChecked table
    → IsFitting table command → IsInOrder table root state → Move hooks table root state command next → IsInOrder table root next
moves_in_order hooks table root state next command lawful checked fit order (stays same change placed hold rest converts) =
    changed_in_order table root state change (placed lawful fit).suits (placed lawful fit).leads order
moves_in_order hooks table root state next command lawful checked fit order (goes_on same i change placed hold rest converts) =
    moved_in_order table root state i change placed.suits placed.leads order
moves_in_order hooks table root state next command lawful checked fit order (goes_up column v began may no_set is drops) =
    completed_in_order column hooks table root state v (lawful_in hooks (cursor_tree state) lawful) checked began may is order
moves_in_order hooks table root state next command lawful checked fit order (is_taken column v began below of_set is drops) =
    took_in_order column hooks table root state v (lawful_in hooks (cursor_tree state) lawful) checked below of_set began is order
moves_in_order hooks table root state next command lawful checked fit order (is_same same drops none) =
    record { suits = order.suits; leads = order.leads; began = order.began }
moves_in_order hooks table root state next command lawful checked fit order (is_converted v strictly below is drops) =
    converted_in_order strict_column hooks table root state v (lawful_in hooks (cursor_tree (above state)) lawful) checked below
    (began_strict state.mode (up state.cursor) strictly) is order
moves_in_order hooks table root state next command lawful checked fit order (stays_behind start mode deeper shut no_set no_part drops) =
    left_in_order table root start state mode deeper order
moves_in_order hooks table root state next command lawful checked fit order (is_parsed same v template drops none) =
    put_in_order table root state v (template lawful).fit order
moves_in_order hooks table root state next command lawful checked fit order (is_deferred is) = deferred_in_order table root state is order
moves_in_order hooks table root state next command lawful checked fit order (is_over tree is) =
    finished_in_order hooks table root state tree (lawful_in hooks state.tree lawful) checked order is

pub step_keeps_order : (hooks : Meanings) (table : Table) (root : ℕ) (state next : State) (command : Call)
    → IsLawful hooks → IsChecked table → IsInOrder table root state → IsFitting table command
    → step hooks table root state command ≡ Ok next → IsInOrder table root next
step_keeps_order hooks table root state next command lawful checked order fit e =
    moves_in_order hooks table root state next command lawful checked fit order (moves hooks table checked root state next order command e)

moves_rest : (hooks : Meanings) (table : Table) (root : ℕ) (state next : State) (command : Call)
    → RestsAround state.cursor state.tree → Move hooks table root state command next → RestsAround next.cursor next.tree
moves_rest hooks table root state next command rests (stays same change placed hold rest converts) = rest_there state change rest rests
moves_rest hooks table root state next command rests (goes_on same i change placed hold rest converts) =
    rest_on state.cursor (i ∷ []) state.tree change rest rests
moves_rest hooks table root state next command rests (goes_up column v began may no_set is drops) =
    rest_put_up state.cursor state.tree v no_set rests
moves_rest hooks table root state next command rests (is_taken column v began below of_set is drops) =
    rest_took state.cursor state.tree v below rests
moves_rest hooks table root state next command rests (is_same same drops none) = rests
moves_rest hooks table root state next command rests (is_converted v strictly below is drops) =
    rest_converted state.cursor state.tree v rests
moves_rest hooks table root state next command rests (stays_behind start mode deeper shut no_set no_part drops) =
    rest_up state.cursor state.tree shut no_set no_part rests
moves_rest hooks table root state next command rests (is_parsed same v template drops none) =
    rest_there state (λ old. whole v) (λ rested. tt) rests
moves_rest hooks table root state next command rests (is_deferred is) = rests
moves_rest hooks table root state next command rests (is_over tree is) =
    finish_rests hooks table root state.cursor state.tree tree rests is

-- what lies around the cursor rests
pub step_keeps_rest : (hooks : Meanings) (table : Table) (root : ℕ) (state next : State) (command : Call) → IsChecked table
    → IsInOrder table root state → RestsAround state.cursor state.tree → IsFitting table command
    → step hooks table root state command ≡ Ok next → RestsAround next.cursor next.tree
step_keeps_rest hooks table root state next command checked order rests fit e =
    moves_rest hooks table root state next command rests (moves hooks table checked root state next order command e)

moves_convert : (hooks : Meanings) (table : Table) (root : ℕ) (state next : State) (command : Call) → IsLawful hooks → IsChecked table
    → IsInOrder table root state → ConversionsSuit table root None state.tree → Move hooks table root state command next
    → ConversionsSuit table root None next.tree
moves_convert hooks table root state next command lawful checked order old (stays same change placed hold rest converts) =
    converts_changed table root None state.cursor state.tree change old converts
moves_convert hooks table root state next command lawful checked order old (goes_on same i change placed hold rest converts) =
    converts_changed table root None state.cursor state.tree change old converts
moves_convert hooks table root state next command lawful checked order old (goes_up column v began may no_set is drops) =
    converts_changed table root None state.cursor state.tree (λ there. whole v) old (λ there. tt)
moves_convert hooks table root state next command lawful checked order old (is_taken column v began below of_set is drops) =
    converts_changed table root None (up state.cursor) state.tree _ old (took_converts table _ _ (number_in state.cursor) v _ of_set)
moves_convert hooks table root state next command lawful checked order old (is_converted v strictly below is drops) =
    converts_changed table root None (up state.cursor) state.tree (λ there. whole v) old (λ there. tt)
moves_convert hooks table root state next command lawful checked order old (is_parsed same v template drops none) =
    converts_changed table root None state.cursor state.tree (λ there. whole v) old (λ there. tt)
moves_convert hooks table root state next command lawful checked order old (is_over tree is) =
    (finish_keeps hooks table root state.cursor state.tree tree (lawful_in hooks state.tree lawful) checked order.suits is).converts None old
moves_convert hooks table root state next command lawful checked order old _ = old

-- each conversion is one of its place's
pub step_keeps_conversions : (hooks : Meanings) (table : Table) (root : ℕ) (state next : State) (command : Call) → IsLawful hooks
    → IsChecked table → IsInOrder table root state → ConversionsSuit table root None state.tree → step hooks table root state command ≡ Ok next
    → ConversionsSuit table root None next.tree
step_keeps_conversions hooks table root state next command lawful checked order old e =
    moves_convert hooks table root state next command lawful checked order old (moves hooks table checked root state next order command e)

pub step_keeps_distinct : (hooks : Meanings) (table : Table) (root : ℕ) (state next : State) (command : Call)
    → IsLawful hooks → IsChecked table → IsWell table root state → IsFresh state command
    → step hooks table root state command ≡ Ok next → AreDistinct next.tree
step_keeps_distinct hooks table root state next command lawful checked well fresh e t = once (brings command t) refl
  where
    no_more : tree_occurs next.tree t ≤ tree_occurs state.tree t + brings command t
    no_more =
        let kept = moves_tokens hooks table root state next command t lawful checked well.in_order
        (moves hooks table checked root state next well.in_order command e) in
        omega arith

    once : (n : ℕ) → brings command t ≡ n → tree_occurs next.tree t ≤ 1
    once zero none = omega (arith, no_more, well.distinct t)
    once (suc n) some = omega (arith, no_more, fresh.distinct t, fresh.new t (omega arith))

pub start_is_well : (table : Table) (root : ℕ) → IsWell table root (initial table root)
start_is_well table root = record {
  in_order = start_in_order table root;
  rests = rests_here _ (fresh_rests (def_of table root));
  conversions = fresh_converts table root None (def_of table root);
  distinct = λ t. omega (arith, fresh_holds (def_of table root) t);
}
