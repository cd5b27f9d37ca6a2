use Rattle.std.proofs.Common.{sym, ◌∙◌, ⊎_elim}
use Rattle.fr_script.specs.Reading.{document_view}
use Rattle.fr_script.proofs.AnswerLaws.{not_memory, built_outcome, built_promise, refused_outcome, refused_promise}
use Rattle.fr_script.proofs.serving.answer_document.Goals as goal

pub returns-in-Ok-released_tokens-clause-outcome : goal.returns-in-Ok-released_tokens-clause-outcome
returns-in-Ok-released_tokens-clause-outcome c =
    built_outcome (document_view c.args.document) c.requires c.in-Ok.ledger c.build_script.new.ledger
    c.in-Ok-released_tokens.released c.in-Ok.ensures.zeros c.in-Ok-released_tokens.ensures c.in-Ok-build_script.built.value
    c.in-Ok-build_script.ensures.run c.in-Ok-build_script.ensures.settled

pub returns-in-Ok-released_tokens-clause-promise : goal.returns-in-Ok-released_tokens-clause-promise
returns-in-Ok-released_tokens-clause-promise c =
    built_promise (document_view c.args.document) c.requires c.in-Ok.ledger c.build_script.new.ledger
    c.in-Ok-released_tokens.released c.in-Ok.ensures.zeros c.in-Ok-released_tokens.ensures c.in-Ok-build_script.built.value
    c.in-Ok-build_script.ensures.journal c.in-Ok-build_script.ensures.fits c.in-Ok-build_script.ensures.settled

pub returns-in-Ok-released_tokens-2-clause-outcome : goal.returns-in-Ok-released_tokens-2-clause-outcome
returns-in-Ok-released_tokens-2-clause-outcome c =
    refused_outcome (document_view c.args.document) c.requires c.in-Ok.ledger c.build_script.new.ledger
    c.in-Ok-released_tokens-2.released c.in-Ok.ensures.zeros c.in-Ok-released_tokens-2.ensures
    (record { number = c.in-Err.error.number; kind = c.in-Err.error.kind; path = c.in-Err.error.path })
    (⊎_elim
    (λ memory. absurd (not_memory c.in-Err.error.kind (sym c.is_want_of_memory.ensures ∙ c.if-is_want_of_memory.false) memory))
    (λ ran. ran) c.in-Err.ensures.run)
    c.in-Err.ensures.settled

pub returns-in-Ok-released_tokens-2-clause-promise : goal.returns-in-Ok-released_tokens-2-clause-promise
returns-in-Ok-released_tokens-2-clause-promise c =
    refused_promise (document_view c.args.document) c.requires c.in-Ok.ledger c.build_script.new.ledger
    c.in-Ok-released_tokens-2.released c.in-Ok.ensures.zeros c.in-Ok-released_tokens-2.ensures
    (λ plain fields.
    ⊎_elim
    (λ memory. absurd (not_memory c.in-Err.error.kind (sym c.is_want_of_memory.ensures ∙ c.if-is_want_of_memory.false) memory))
    (λ completes. completes) (c.in-Err.ensures.journal plain fields))
    c.in-Err.ensures.settled
