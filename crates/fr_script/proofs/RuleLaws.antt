-- The rules of a table one after another, against the rules of a checked table.
use Rattle.std.proofs.Common.{◌≡◌, ℕ, zero, suc, ◌+◌, ◌-◌, ◌<◌, ◌≤◌, cond, Bool, true, false, List, [], ◌∷◌, length, Option, Some, None, Ok, Err, refl, sym, ap, ◌∙◌, subst, arith}
use Rattle.std.specs.Prelude.{Result, slice_get, slice_index_or}
use Rattle.fr_shape.specs.declared.shape.Shape.{Shape}
use Rattle.fr_shape.specs.Checked.{EachKeeps, IsChecked}
use Rattle.fr_shape.specs.Faults.{rules_of, EarlierRulesHold, EarlierEntriesKeep, IsBrokenAt}
use Rattle.fr_shape.specs.Look.{Table}
use Rattle.fr_doc.specs.declared.fault.DocFault.{DocFault}
use Rattle.fr_doc.specs.FaultSteps.{◌>>=◌}
use Rattle.fr_script.specs.Documents.{first_breaking, breaks, each_rule, rules_pass}

-- One rule at the entries from number i on.
module _ (keeps : ℕ → Shape → Bool) where
  here : (i : ℕ) (shape : Shape) (value : Bool) → keeps (i + 0) shape ≡ value → keeps i shape ≡ value
  here i shape value is = let same : i + 0 ≡ i = omega arith in subst (λ n. keeps n shape ≡ value) same is

  next : (i k : ℕ) (shape : Shape) (value : Bool) → keeps (i + suc k) shape ≡ value → keeps (i + 1 + k) shape ≡ value
  next i k shape value is =
      let same : i + suc k ≡ i + 1 + k = omega arith in subst (λ n. keeps n shape ≡ value) same is

  before : (i k : ℕ) (shape : Shape) (value : Bool) → keeps (i + 1 + k) shape ≡ value → keeps (i + suc k) shape ≡ value
  before i k shape value is =
      let same : i + 1 + k ≡ i + suc k = omega arith in subst (λ n. keeps n shape ≡ value) same is

  none_breaks : (shapes : List Shape) (i : ℕ)
      → ((k : ℕ) (shape : Shape) → slice_get shapes k ≡ Some shape → keeps (i + k) shape ≡ true)
      → first_breaking keeps i shapes ≡ None
  none_breaks [] i each = refl
  none_breaks (shape ∷ shapes) i each =
      let kept : keeps i shape ≡ true = here i shape true (each 0 shape refl) in
      rw kept (none_breaks shapes (i + 1) (λ k other is. next i k other true (each (suc k) other is)))

  first_breaks : (shapes : List Shape) (i e : ℕ) (broken : Shape) → slice_get shapes e ≡ Some broken
      → keeps (i + e) broken ≡ false
      → ((k : ℕ) (shape : Shape) → k < e → slice_get shapes k ≡ Some shape → keeps (i + k) shape ≡ true)
      → first_breaking keeps i shapes ≡ Some (i + e)
  first_breaks [] i e broken there wrong earlier = cc
  first_breaks (shape ∷ shapes) i zero broken there wrong earlier =
      let same : shape ≡ broken = cc in
      let not_kept : keeps i shape ≡ false = here i shape false (subst (λ s. keeps (i + 0) s ≡ false) (sym same) wrong) in
      let number : i ≡ i + 0 = omega arith in
      rw not_kept (ap Some number)
  first_breaks (shape ∷ shapes) i (suc e) broken there wrong earlier =
      let kept : keeps i shape ≡ true = here i shape true (earlier 0 shape (omega arith) refl) in
      let number : i + 1 + e ≡ i + suc e = omega arith in
      rw kept
      (first_breaks shapes (i + 1) e broken there (next i e broken false wrong)
      (λ k other below is. next i k other true (earlier (suc k) other (omega arith) is))
      ∙ ap Some number)

  go_on : (shape : Shape) (rest : Option ℕ) (i : ℕ) → cond (keeps i shape) rest (Some i) ≡ None
      → (keeps i shape ≡ true) × (rest ≡ None)
  go_on shape rest i is = chosen (keeps i shape) refl is
    where
      chosen : (b : Bool) → keeps i shape ≡ b → cond b rest (Some i) ≡ None → (keeps i shape ≡ true) × (rest ≡ None)
      chosen true kept none = (kept, none)
      chosen false kept none = cc

  each_kept : (shapes : List Shape) (i : ℕ) → first_breaking keeps i shapes ≡ None → (k : ℕ) (shape : Shape)
      → slice_get shapes k ≡ Some shape → keeps (i + k) shape ≡ true
  each_kept [] i none k shape is = cc
  each_kept (first ∷ shapes) i none zero shape is =
      let kept = (go_on first (first_breaking keeps (i + 1) shapes) i none).0 in
      let same : first ≡ shape = cc in
      let number : i ≡ i + 0 = omega arith in
      subst (λ s. keeps (i + 0) s ≡ true) same (subst (λ n. keeps n first ≡ true) number kept)
  each_kept (first ∷ shapes) i none (suc k) shape is =
      before i k shape true (each_kept shapes (i + 1) (go_on first (first_breaking keeps (i + 1) shapes) i none).1 k shape is)

-- Several rules.
module _ (table : Table) where
  abbrev AllKeep : List (ℕ → Shape → Bool) → Type 0
  AllKeep [] = Unit {0}
  AllKeep (rule ∷ rules) = EachKeeps table rule × AllKeep rules

  unnumbered : (rule : ℕ → Shape → Bool) → EachKeeps table rule → (k : ℕ) (shape : Shape)
      → slice_get table k ≡ Some shape → rule (0 + k) shape ≡ true
  unnumbered rule each k shape is =
      let same : k ≡ 0 + k = omega arith in subst (λ n. rule n shape ≡ true) same (each k shape is)

  rule_kept : (rule : ℕ → Shape → Bool) → EachKeeps table rule → first_breaking rule 0 table ≡ None
  rule_kept rule each = none_breaks rule table 0 (unnumbered rule each)

  rules_kept : (rules : List (ℕ → Shape → Bool)) (r : ℕ) → AllKeep rules → each_rule table r rules ≡ Ok tt
  rules_kept [] r all = refl
  rules_kept (rule ∷ rules) r all = rw (rule_kept rule all.0) (rules_kept rules (r + 1) all.1)

  rule_broken : (rules : List (ℕ → Shape → Bool)) (otherwise : ℕ → Shape → Bool) (r k e : ℕ) → k < length rules
      → ((j : ℕ) → j < k → EachKeeps table (slice_index_or rules j otherwise))
      → (shape : Shape) → slice_get table e ≡ Some shape → slice_index_or rules k otherwise e shape ≡ false
      → ((i : ℕ) (other : Shape) → i < e → slice_get table i ≡ Some other → slice_index_or rules k otherwise i other ≡ true)
      → each_rule table r rules ≡ Err (DocFault.Unchecked (record { rule = r + k; entry = e }))
  rule_broken [] otherwise r k e within earlier_rules shape there wrong earlier = absurd (omega arith)
  rule_broken (rule ∷ rules) otherwise r zero e within earlier_rules shape there wrong earlier =
      let number : r ≡ r + 0 = omega arith in
      let none_before : 0 + e ≡ e = omega arith in
      let found : first_breaking rule 0 table ≡ Some e
      = first_breaks rule table 0 e shape there (subst (λ n. rule n shape ≡ false) (sym none_before) wrong)
      (λ i other below is. unnumbered_at rule i other (earlier i other below is))
      ∙ ap Some none_before in
      rw found (ap (λ n. Err (DocFault.Unchecked (record { rule = n; entry = e }))) number)
    where
      unnumbered_at : (rule : ℕ → Shape → Bool) (i : ℕ) (other : Shape) → rule i other ≡ true → rule (0 + i) other ≡ true
      unnumbered_at rule i other is = let same : i ≡ 0 + i = omega arith in subst (λ n. rule n other ≡ true) same is
  rule_broken (rule ∷ rules) otherwise r (suc k) e within earlier_rules shape there wrong earlier =
      let number : r + 1 + k ≡ r + suc k = omega arith in
      rw (rule_kept rule (earlier_rules 0 (omega arith)))
      (rule_broken rules otherwise (r + 1) k e (omega arith) (λ j below. earlier_rules (suc j) (omega arith)) shape there
      wrong earlier
      ∙ ap (λ n. Err (DocFault.Unchecked (record { rule = n; entry = e }))) number)

  numbered : (rule : ℕ → Shape → Bool)
      → ((k : ℕ) (shape : Shape) → slice_get table k ≡ Some shape → rule (0 + k) shape ≡ true) → EachKeeps table rule
  numbered rule each k shape is =
      let same : 0 + k ≡ k = omega arith in subst (λ n. rule n shape ≡ true) same (each k shape is)

  passed_rule : (rule : ℕ) (found : Option ℕ) (rest : Result (Unit {0}) DocFault) (u : Unit {0})
      → (breaks rule found >>= λ _. rest) ≡ Ok u → (found ≡ None) × (rest ≡ Ok u)
  passed_rule rule None rest u is = (refl, is)
  passed_rule rule (Some i) rest u is = cc

  all_keep : (rules : List (ℕ → Shape → Bool)) (r : ℕ) (u : Unit {0}) → each_rule table r rules ≡ Ok u → AllKeep rules
  all_keep [] r u is = tt
  all_keep (rule ∷ rules) r u is =
      let parts = passed_rule r (first_breaking rule 0 table) (each_rule table (r + 1) rules) u is in
      (numbered rule (each_kept rule table 0 parts.0), all_keep rules (r + 1) u parts.1)

  -- the test of all rules passes exactly where the table is checked

  pub checked_passes : IsChecked table → rules_pass table ≡ Ok tt
  unfolding rules_pass
  checked_passes checked =
      rules_kept (rules_of table) 1 (
        checked.ids,
        (
          checked.names,
          (
            checked.sizes,
            (
              checked.variants,
              (checked.validators, (checked.templates, (checked.conversions, (checked.hooks, (checked.options, tt))))),
            ),
          ),
        ),
      )

  pub broken_refused : (rule entry : ℕ) → 1 ≤ rule → rule ≤ 9 → IsBrokenAt table rule entry → EarlierRulesHold table rule
      → EarlierEntriesKeep table rule entry → rules_pass table ≡ Err (DocFault.Unchecked (record { rule = rule; entry = entry }))
  unfolding rules_pass
  broken_refused rule entry low high broken earlier_rules earlier =
      let number : 1 + (rule - 1) ≡ rule = omega arith in
      rule_broken (rules_of table) (λ i shape. true) 1 (rule - 1) entry (omega arith)
      (λ j below. subst (λ n. EachKeeps table (slice_index_or (rules_of table) n (λ i shape. true))) (back j) (earlier_rules (j + 1) (omega arith) (omega arith)))
      broken.0 broken.1 broken.2 earlier
      ∙ ap (λ n. Err (DocFault.Unchecked (record { rule = n; entry = entry }))) number
    where
      back : (j : ℕ) → j + 1 - 1 ≡ j
      back j = omega arith

  pub passes_checked : (u : Unit {0}) → rules_pass table ≡ Ok u → IsChecked table
  unfolding rules_pass
  passes_checked u passes =
      let all = all_keep (rules_of table) 1 u passes in
      record {
        ids = all.0;
        names = all.1.0;
        sizes = all.1.1.0;
        variants = all.1.1.1.0;
        validators = all.1.1.1.1.0;
        templates = all.1.1.1.1.1.0;
        conversions = all.1.1.1.1.1.1.0;
        hooks = all.1.1.1.1.1.1.1.0;
        options = all.1.1.1.1.1.1.1.1.0;
      }
