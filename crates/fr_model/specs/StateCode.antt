-- The code of a builder's state, for the models above: a tree is stored as a value that gives it back.
use Rattle.std.specs.Prelude.{◌≡◌, ◌∷◌}
use Rattle.fr_model.specs.Common.{ℕ, zero, suc, List, [], refl, None, Some, Val, Vals, unit, nat, text, product, variant, none, some, list_of, no_vals, first}
use Rattle.std.specs.Coded.{Coded, code_by, coded×, coded_ℕ, coded_list}
use mathlib.Core.Path.{ap, ◌∙◌}
use Rattle.fr_model.specs.Trackers.{number_through}
use Rattle.fr_shape.specs.Code.{val_code}
use Rattle.fr_model.specs.Basis.{Tracker, as_fields, as_elements, as_content, ContentKind, Through, as_items, ItemsKind, as_entries, EntriesKind, base_of_tracker, keys_of_tracker, hook_of_tracker, source_of_tracker, tracker_number, part, Tree, hole, entered, whole, begun, Trees, no_trees, branch, Mode, strict, deferred, State}

abbrev pub converted_so : Through → (hook source : ℕ) → Tracker
converted_so through hook source = as_content (ContentKind.Source (record { through = through; hook = hook; source = source }))

-- the tracker that has a number, and of a map this base, of an object these keys, of a conversion this hook and this source
abbrev pub tracker_numbered : ℕ → (base : ℕ) → (keys : List (List ℕ)) → (hook source : ℕ) → Tracker
tracker_numbered zero base keys hook source = as_fields None
tracker_numbered (suc zero) base keys hook source = as_elements
tracker_numbered (suc (suc zero)) base keys hook source = as_content ContentKind.Some
tracker_numbered (suc (suc (suc zero))) base keys hook source = as_content ContentKind.Ok
tracker_numbered (suc (suc (suc (suc zero)))) base keys hook source = as_content ContentKind.Err
tracker_numbered (suc (suc (suc (suc (suc zero))))) base keys hook source = as_content ContentKind.Pointer
tracker_numbered (suc (suc (suc (suc (suc (suc zero)))))) base keys hook source = as_items ItemsKind.List
tracker_numbered (suc (suc (suc (suc (suc (suc (suc zero))))))) base keys hook source = as_items ItemsKind.Slice
tracker_numbered (suc (suc (suc (suc (suc (suc (suc (suc zero)))))))) base keys hook source = as_items ItemsKind.ClosedSlice
tracker_numbered (suc (suc (suc (suc (suc (suc (suc (suc (suc zero))))))))) base keys hook source = as_items ItemsKind.Set
tracker_numbered (suc (suc (suc (suc (suc (suc (suc (suc (suc (suc zero)))))))))) base keys hook source = as_entries (EntriesKind.Map base)
tracker_numbered (suc (suc (suc (suc (suc (suc (suc (suc (suc (suc (suc zero))))))))))) base keys hook source = as_items ItemsKind.Array
tracker_numbered (suc (suc (suc (suc (suc (suc (suc (suc (suc (suc (suc (suc zero)))))))))))) base keys hook source = as_entries (EntriesKind.Object keys)
tracker_numbered (suc (suc (suc (suc (suc (suc (suc (suc (suc (suc (suc (suc (suc zero))))))))))))) base keys hook source = converted_so Through.Wrapper hook source
tracker_numbered (suc (suc (suc (suc (suc (suc (suc (suc (suc (suc (suc (suc (suc (suc zero)))))))))))))) base keys hook source = converted_so Through.Proxy hook source
tracker_numbered (suc (suc (suc (suc (suc (suc (suc (suc (suc (suc (suc (suc (suc (suc (suc k))))))))))))))) base keys hook source = as_fields (Some k)

-- the keys of an object, as values that give them back

abbrev pub stored_keys : List (List ℕ) → Vals
stored_keys [] = no_vals
stored_keys (key ∷ keys) = first (text key) (stored_keys keys)

abbrev pub restored_key : Val → List ℕ
restored_key (text key) = key
restored_key _ = []

abbrev pub restored_keys : Vals → List (List ℕ)
restored_keys no_vals = []
restored_keys (first v vs) = restored_key v ∷ restored_keys vs

abbrev pub keys_come_back : (keys : List (List ℕ)) → restored_keys (stored_keys keys) ≡ keys
keys_come_back [] = refl
keys_come_back (key ∷ keys) = ap (λ (rest : List (List ℕ)). key ∷ rest) (keys_come_back keys)

abbrev pub tracker_comes_back : (tracker : Tracker) → tracker_numbered
    (tracker_number tracker) (base_of_tracker tracker) (keys_of_tracker tracker) (hook_of_tracker tracker) (source_of_tracker tracker)
    ≡ tracker
tracker_comes_back (as_fields None) = refl
tracker_comes_back (as_fields (Some k)) = refl
tracker_comes_back as_elements = refl
tracker_comes_back (as_content (ContentKind.Source conversion)) = comes_back conversion.through
  where
    comes_back : (through : Through) → tracker_numbered (number_through through) 0 [] conversion.hook conversion.source
        ≡ converted_so through conversion.hook conversion.source
    comes_back Through.Wrapper = refl
    comes_back Through.Proxy = refl
tracker_comes_back (as_content _) = refl
tracker_comes_back (as_items ItemsKind.List) = refl
tracker_comes_back (as_items _) = refl
tracker_comes_back (as_entries (EntriesKind.Map base)) = refl
tracker_comes_back (as_entries (EntriesKind.Object keys)) = refl

abbrev pub restored_keys_in : Val → List (List ℕ)
restored_keys_in (list_of vs) = restored_keys vs
restored_keys_in _ = []

abbrev pub nat_in : Val → ℕ
nat_in (nat n) = n
nat_in _ = 0

-- the base of a map, and the hook and the source of a conversion
abbrev pub numbers_stored : Tracker → Val
numbers_stored tracker =
    product (first (nat (base_of_tracker tracker)) (first (nat (hook_of_tracker tracker)) (first (nat (source_of_tracker tracker)) no_vals)))

-- the tracker of this number that has these
abbrev pub tracker_restored : ℕ → (numbers : Val) → (keys : List (List ℕ)) → Tracker
tracker_restored number numbers keys =
    tracker_numbered number (nat_in (part numbers 0)) keys (nat_in (part numbers 1)) (nat_in (part numbers 2))

abbrev mutual
  pub stored : Tree → Val
  stored hole = none
  stored entered = unit
  stored (whole v) = some v
  stored (begun tracker ts) =
      variant (tracker_number tracker)
      (first (numbers_stored tracker) (first (list_of (stored_keys (keys_of_tracker tracker))) (all_stored ts)))

  pub all_stored : Trees → Vals
  all_stored no_trees = no_vals
  all_stored (branch t ts) = first (stored t) (all_stored ts)

abbrev mutual
  pub restored : Val → Tree
  restored none = hole
  restored (some v) = whole v
  restored (variant number no_vals) = entered
  restored (variant number (first numbers no_vals)) = entered
  restored (variant number (first numbers (first keys vs))) =
      begun (tracker_restored number numbers (restored_keys_in keys)) (all_restored vs)
  restored _ = entered

  pub all_restored : Vals → Trees
  all_restored no_vals = no_trees
  all_restored (first v vs) = branch (restored v) (all_restored vs)

abbrev mutual
  pub stored_comes_back : (t : Tree) → restored (stored t) ≡ t
  stored_comes_back (begun tracker ts) =
      ap (λ (known : Tracker). begun known (all_restored (all_stored ts)))
      (ap (tracker_restored (tracker_number tracker) (numbers_stored tracker)) (keys_come_back (keys_of_tracker tracker)) ∙ tracker_comes_back tracker)
      ∙ ap (begun tracker) (all_stored_come_back ts)
  stored_comes_back _ = refl

  pub all_stored_come_back : (ts : Trees) → all_restored (all_stored ts) ≡ ts
  all_stored_come_back no_trees = refl
  all_stored_come_back (branch t ts) =
      ap (λ u. branch u (all_restored (all_stored ts))) (stored_comes_back t) ∙ ap (branch t) (all_stored_come_back ts)

abbrev pub tree_code : Coded Tree
tree_code = code_by Val val_code stored restored stored_comes_back

-- a mode is stored as a number that gives it back
abbrev pub mode_stored : Mode → ℕ
mode_stored strict = 0
mode_stored (deferred start) = suc start

abbrev pub mode_restored : ℕ → Mode
mode_restored zero = strict
mode_restored (suc start) = deferred start

abbrev pub mode_comes_back : (mode : Mode) → mode_restored (mode_stored mode) ≡ mode
mode_comes_back strict = refl
mode_comes_back (deferred start) = refl

abbrev pub mode_code : Coded Mode
mode_code = code_by ℕ coded_ℕ mode_stored mode_restored mode_comes_back

abbrev pub state_code : Coded State
state_code =
    code_by (Tree × (List ℕ × (Mode × ℕ))) (coded× tree_code (coded× (coded_list coded_ℕ) (coded× mode_code coded_ℕ)))
    (λ s. (s.tree, (s.cursor, (s.mode, s.calls))))
    (λ p. record { tree = p.0; cursor = p.1.0; mode = p.1.1.0; calls = p.1.1.1 }) (λ s. refl)
