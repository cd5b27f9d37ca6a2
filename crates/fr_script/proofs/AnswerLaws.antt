-- From a run of a document's script to its outcome.
use Rattle.std.proofs.Common.{◌≡◌, ℕ, List, Ok, Err, Some, None, replicate, sym, ap, ◌∙◌, subst, true, false}
use Rattle.fr_shape.specs.Fits.{fits}
use Rattle.fr_shape.specs.Plannable.{IsPlain}
use Rattle.fr_shape.specs.Tokens.{occurs}
use Rattle.fr_shape.specs.Val.{Val}
use Rattle.fr_shape.specs.declared.error.ReflectErrorKind.{ReflectErrorKind}
use Rattle.fr_model.specs.Commands.{IsFieldScript}
use Rattle.fr_model.specs.Run.{Refusal}
use Rattle.fr_model.specs.Scripts.{brought}
use Rattle.fr_model.specs.Settled.{IsSettled}
use Rattle.fr_script.specs.DocumentFacts.{IsInOrder}
use Rattle.fr_script.specs.Documents.{Document}
use Rattle.fr_script.specs.Headline.{IsBuiltRightly, IsRefusedRightly, completed}
use Rattle.fr_script.specs.Outcomes.{is_want_of_memory}
use Rattle.fr_script.specs.Reports.{built, refused, outcome_of_run, run_of, none_answered}
use Rattle.fr_script.specs.Tokens.{counted_once, StandOnce}
use Rattle.fr_script.proofs.ReleasedTokens.{released_tokens, stand_once}

pub not_memory : (kind : ReflectErrorKind) → is_want_of_memory kind ≡ false → kind ≡ ReflectErrorKind.OutOfMemory → ⊥
not_memory kind other e =
    let yes : is_want_of_memory kind ≡ true = ap is_want_of_memory e in
    cc

module _ (document : Document) (in_order : IsInOrder document) (before after released : List ℕ)
    (new : before ≡ replicate document.tokens 0) (counted : released ≡ counted_once 0 after) where
  settled_new : (answered : ℕ → ℕ) → IsSettled (brought document.script) before answered after
      → IsSettled (brought document.script) (replicate document.tokens 0) answered after
  settled_new answered settled =
      subst (λ (ledger : List ℕ). IsSettled (brought document.script) ledger answered after) new settled

  pub built_outcome : (v : Val) → run_of document ≡ Ok v → IsSettled (brought document.script) before (occurs v) after
      → built v released ≡ outcome_of_run document (run_of document)
  built_outcome v ran settled =
      ap (built v)
      (counted
      ∙ released_tokens document.shapes document.script document.tokens after (occurs v) in_order.valid
      (settled_new (occurs v) settled))
      ∙ ap (outcome_of_run document) (sym ran)

  pub built_promise : (v : Val) → (IsPlain document.shapes document.root → IsFieldScript document.script → completed document ≡ Some v) → fits document.shapes document.root v ≡ true
      → IsSettled (brought document.script) before (occurs v) after → IsBuiltRightly document v released
  built_promise v journal fitting settled = record {
    journal = journal;
    fits = fitting;
    tokens =
        subst (StandOnce (brought document.script) (occurs v)) (sym counted)
        (stand_once document.shapes document.script document.tokens after (occurs v) in_order.valid
        (settled_new (occurs v) settled));
  }

  pub refused_outcome : (refusal : Refusal) → run_of document ≡ Err refusal
      → IsSettled (brought document.script) before none_answered after
      → refused refusal released ≡ outcome_of_run document (run_of document)
  refused_outcome refusal ran settled =
      ap (refused refusal)
      (counted
      ∙ released_tokens document.shapes document.script document.tokens after none_answered in_order.valid
      (settled_new none_answered settled))
      ∙ ap (outcome_of_run document) (sym ran)

  pub refused_promise : (IsPlain document.shapes document.root → IsFieldScript document.script → completed document ≡ None) → IsSettled (brought document.script) before none_answered after
      → IsRefusedRightly document released
  refused_promise journal settled = record {
    journal = journal;
    tokens =
        subst (StandOnce (brought document.script) none_answered) (sym counted)
        (stand_once document.shapes document.script document.tokens after none_answered in_order.valid
        (settled_new none_answered settled));
  }
