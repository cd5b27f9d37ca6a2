-- From the run of a generated script to its summary.
use Rattle.std.proofs.Common.{◌≡◌, ◌⊎◌, ⊎_elim, ℕ, ◌+◌, ◌-◌, ◌*◌, ◌<◌, ◌≤◌, ◌^◌, min, List, Option, Some, None, false, length, replicate, refl, ap, sym, ◌∙◌, subst, arith}
use Rattle.std.specs.Option.{option_map_or}
use Rattle.std.proofs.lemmas.List.{length-map}
use Rattle.fr_shape.specs.Look.{Table, IsIn}
use Rattle.fr_shape.specs.Plannable.{IsPlain}
use Rattle.fr_shape.specs.Tokens.{occurs}
use Rattle.fr_shape.specs.Val.{Val}
use Rattle.fr_shape.specs.declared.error.ReflectErrorKind.{ReflectErrorKind}
use Rattle.fr_model.specs.Commands.{Call, call_of, calls_of, IsFieldScript}
use Rattle.fr_model.specs.declared.command.Command.{Command}
use Rattle.fr_model.specs.Journal.{journal_run}
use Rattle.fr_model.specs.Scripts.{IsValid, brought}
use Rattle.fr_model.specs.Settled.{IsSettled}
use Rattle.fr_script.specs.Generator.{grid, grid_table, generated, grid_value}
use Rattle.fr_script.specs.Outcomes.{is_want_of_memory}
use Rattle.fr_script.specs.Summaries.{made_by, summary_data, sum_of_grid, tokens_in}
use Rattle.fr_script.specs.Tokens.{counted_once}
use Rattle.fr_script.proofs.AnswerLaws.{not_memory}
use Rattle.fr_script.proofs.GridRuns.{makes_grid}
use Rattle.fr_script.proofs.GridTables.{grid_plain, grid_in}
use Rattle.fr_script.proofs.GridTokens.{generated_fields, generated_length, generated_released, generated_valid, sum_within}
use Rattle.fr_script.proofs.ReleasedTokens.{released_tokens}

some_is : {A : Type 0} {x y : A} → Some x ≡ Some y → x ≡ y
some_is same = cc

is_grid : (count : ℕ) (v : Val) → made_by count ≡ Some v → grid_value count ≡ v
is_grid count v made = let both : Some (grid_value count) ≡ Some v = sym (makes_grid count) ∙ made in some_is both

pub released_count : (count : ℕ) (v : Val) (after : List ℕ) → count ≤ 50000 → made_by count ≡ Some v
    → IsSettled (brought (generated count)) (replicate (count + 8) 0) (occurs v) after
    → length (counted_once 0 after) ≡ tokens_in (generated count) - 8
released_count count v after few made settled =
    let is : grid_value count ≡ v = is_grid count v made in
    let held : IsSettled (brought (generated count)) (replicate (count + 8) 0) (occurs (grid_value count)) after
    = subst (λ (w : Val). IsSettled (brought (generated count)) (replicate (count + 8) 0) (occurs w) after) (sym is) settled in
    ap length
    (released_tokens grid_table (generated count) (count + 8) after (occurs (grid_value count))
    (generated_valid count (omega (arith, few))) held)
    ∙ generated_released count

pub sum_told : (count sum : ℕ) (v : Val) → count ≤ 50000 → made_by count ≡ Some v
    → sum ≡ min (sum_of_grid v) 18446744073709551615 → sum ≡ option_map_or sum_of_grid (made_by count) 0
sum_told count sum v few made told =
    let is : grid_value count ≡ v = is_grid count v made in
    let within : sum_of_grid v ≤ 16 * count = subst (λ (w : Val). sum_of_grid w ≤ 16 * count) is (sum_within count) in
    let all : sum ≡ sum_of_grid v = omega (arith, told, within, few) in
    all ∙ sym (ap (λ (w : Option Val). option_map_or sum_of_grid w 0) made)

pub summary_is : (count commands released sum : ℕ) (v : Val) (after : List ℕ) → count ≤ 50000 → made_by count ≡ Some v
    → commands ≡ length (generated count)
    → IsSettled (brought (generated count)) (replicate (count + 8) 0) (occurs v) after
    → released ≡ length (counted_once 0 after)
    → sum ≡ min (sum_of_grid v) 18446744073709551615
    → summary_data commands released sum
    ≡ summary_data (length (generated count)) (tokens_in (generated count) - 8) (option_map_or sum_of_grid (made_by count) 0)
summary_is count commands released sum v after few made long settled counted told =
    rw (long, counted ∙ released_count count v after few made settled, sum_told count sum v few made told) refl

-- what build_script asks of the table, the script and the ledger
pub in_table : (table : Table) → table ≡ grid_table → IsIn table grid
in_table table is = subst (λ (t : Table). IsIn t grid) (sym is) grid_in

pub script_valid : (table : Table) (script : List Call) (ledger : List ℕ) (count : ℕ) → count ≤ 50000 → table ≡ grid_table
    → script ≡ generated count → ledger ≡ replicate (count + 8) 0 → IsValid table script ledger
script_valid table script ledger count few is same zeros =
    subst (λ (t : Table). IsValid t script ledger) (sym is)
    (subst (λ (calls : List Call). IsValid grid_table calls ledger) (sym same)
    (subst (IsValid grid_table (generated count)) (sym zeros) (generated_valid count (omega (arith, few)))))

pub script_length : (script : List Command) (count : ℕ) → calls_of script ≡ generated count
    → length script ≡ 5 * count + 42
script_length script count same =
    sym (length-map script call_of) ∙ ap (λ (calls : List Call). length calls) same ∙ generated_length count

-- what the journal of such a script comes to, and that it is no refusal
module _ (table : Table) (script : List Call) (count : ℕ) (is : table ≡ grid_table) (same : script ≡ generated count) where
  table_plain : IsPlain table grid
  table_plain = subst (λ (t : Table). IsPlain t grid) (sym is) grid_plain

  script_fields : IsFieldScript script
  script_fields = subst IsFieldScript (sym same) (generated_fields count)

  same_run : journal_run table grid script ≡ made_by count
  same_run = ap (λ (t : Table). journal_run t grid script) is ∙ ap (journal_run grid_table grid) same

  pub made : (v : Val) → (IsPlain table grid → IsFieldScript script → journal_run table grid script ≡ Some v)
      → made_by count ≡ Some v
  made v journal = sym same_run ∙ journal table_plain script_fields

  none_made : journal_run table grid script ≡ None → ⊥
  none_made none =
      let both : Some (grid_value count) ≡ None = sym (makes_grid count) ∙ (sym same_run ∙ none) in
      cc

  pub never_refused : (kind : ReflectErrorKind) → is_want_of_memory kind ≡ false
      → (IsPlain table grid → IsFieldScript script
      → (kind ≡ ReflectErrorKind.OutOfMemory) ⊎ (journal_run table grid script ≡ None))
      → ⊥
  never_refused kind other journal =
      ⊎_elim (not_memory kind other) none_made (journal table_plain script_fields)

pub settled_as : (script : List Call) (count : ℕ) (before : List ℕ) (v : Val) (after : List ℕ) → script ≡ generated count
    → before ≡ replicate (count + 8) 0 → IsSettled (brought script) before (occurs v) after
    → IsSettled (brought (generated count)) (replicate (count + 8) 0) (occurs v) after
settled_as script count before v after same zeros settled =
    subst (λ (calls : List Call). IsSettled (brought calls) (replicate (count + 8) 0) (occurs v) after) same
    (subst (λ (counts : List ℕ). IsSettled (brought script) counts (occurs v) after) zeros settled)
