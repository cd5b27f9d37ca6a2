use Rattle.std.proofs.Common.{◌≡◌, ℕ, List, Option, Some, Result, take, refl, sym, ap, inl, ◌∙◌, subst}
use Rattle.std.specs.Io.KnownBytes.{append_known}
use Rattle.fr_doc.specs.declared.looping.TheConstants.{INPUT_LIMIT}
use Rattle.fr_doc.specs.Causes.{TakesBeginning}
use Rattle.fr_script.specs.Reports.{outcome_of, outcome_of_document, status_of, report_of}
use Rattle.fr_doc.specs.declared.fault.DocFault.{DocFault}
use Rattle.fr_script.specs.Documents.{Document, document_of}
use Rattle.fr_script.specs.Headline.{KeepsPromise, IsPromised}
use Rattle.fr_script.specs.Runs.{asked}
use Rattle.fr_script.specs.Summaries.{summary_of}
use Rattle.fr_script.specs.declared.subcommand.Subcommand.{Subcommand}
use Rattle.fr_script.proofs.TakeLaws.{at_limit, outcome_at_limit, report_at_limit, loses, over_told}
use Rattle.fr_script.proofs.running.run.Goals as goal

pub returns-in_default-respond-clause-reads : goal.returns-in_default-respond-clause-reads
returns-in_default-respond-clause-reads g c = loses INPUT_LIMIT _ _ c.in-Ok.ensures.rest

pub returns-in-Ok-write_report-clause-reads : goal.returns-in-Ok-write_report-clause-reads
returns-in-Ok-write_report-clause-reads g c = loses INPUT_LIMIT _ _ c.in-Ok.ensures.rest

pub returns-clause-reads : goal.returns-clause-reads
returns-clause-reads g c = loses INPUT_LIMIT _ _ c.in-Ok.ensures.rest

-- what was read has the outcome of all that was left, under the subcommand that is asked for
same_outcome : (subcommand asked : Subcommand) (read bytes slice : List ℕ) → subcommand ≡ asked → slice ≡ read → read ≡ take INPUT_LIMIT bytes
    → outcome_of subcommand slice ≡ outcome_of asked bytes
same_outcome subcommand asked read bytes slice same whole cut =
    ap (outcome_of subcommand) (whole ∙ cut) ∙ outcome_at_limit subcommand INPUT_LIMIT bytes refl ∙ ap (λ w. outcome_of w bytes) same

-- and their report
same_report : (subcommand asked : Subcommand) (read bytes slice : List ℕ) → subcommand ≡ asked → slice ≡ read → read ≡ take INPUT_LIMIT bytes
    → report_of subcommand slice ≡ report_of asked bytes
same_report subcommand asked read bytes slice same whole cut =
    ap (report_of subcommand) (whole ∙ cut) ∙ report_at_limit subcommand INPUT_LIMIT bytes refl ∙ ap (λ w. report_of w bytes) same

only_one : (found : Option Subcommand) (subcommand asked : Subcommand) → found ≡ Some subcommand → found ≡ Some asked → subcommand ≡ asked
only_one found subcommand asked is same = cc

pub returns-in-Ok-write_report-clause-reported : goal.returns-in-Ok-write_report-clause-reported
returns-in-Ok-write_report-clause-reported g c subcommand asks low =
    over_told (g.S.Source.left c.args.source.now) (λ bytes. c.in-Ok.bytes ≡ take INPUT_LIMIT bytes) _
    (λ bytes cut.
    let is : c.in-Some.subcommand ≡ subcommand = only_one (asked c.args.words.now) c.in-Some.subcommand subcommand (sym c.in-Some.ensures) asks in
    let same : outcome_of c.in-Some.subcommand c.as_slice.result.now ≡ outcome_of subcommand bytes
    = same_outcome c.in-Some.subcommand subcommand c.in-Ok.bytes bytes c.as_slice.result.now is c.as_slice.ensures.items cut in
    let told : report_of c.in-Some.subcommand c.as_slice.result.now ≡ report_of subcommand bytes
    = same_report c.in-Some.subcommand subcommand c.in-Ok.bytes bytes c.as_slice.result.now is c.as_slice.ensures.items cut in
    record {
      status = c.in-Ok-respond.ensures.status ∙ ap status_of same;
      written =
          c.in-Ok-write_report.ensures.ok
          ∙ ap (append_known (g.K.Sink.taken c.args.sink.now))
          (c.as_bytes.ensures.value ∙ c.in-Ok-respond.ensures.text ∙ told);
    })
    c.in-Ok.ensures.bytes

pub returns-clause-beginning : goal.returns-clause-beginning
returns-clause-beginning g c subcommand asks five =
    over_told (g.S.Source.left c.args.source.now) (λ bytes. c.in-Ok.bytes ≡ take INPUT_LIMIT bytes) _
    (λ bytes cut.
    let told : report_of c.in-Some.subcommand c.as_slice.result.now ≡ report_of subcommand bytes
    = same_report c.in-Some.subcommand subcommand c.in-Ok.bytes bytes c.as_slice.result.now
    (only_one (asked c.args.words.now) c.in-Some.subcommand subcommand (sym c.in-Some.ensures) asks) c.as_slice.ensures.items cut in
    subst (λ (text : List ℕ). TakesBeginning (g.K.Sink.taken c.args.sink.now) (g.K.Sink.taken c.write_report.new.sink) text)
    (c.as_bytes.ensures.value ∙ c.in-Ok-respond.ensures.text ∙ told)
    c.in-Err.ensures.err)
    c.in-Ok.ensures.bytes

pub returns-in-Ok-write_report-clause-promised : goal.returns-in-Ok-write_report-clause-promised
returns-in-Ok-write_report-clause-promised g c asks low =
    over_told (g.S.Source.left c.args.source.now) (λ bytes. c.in-Ok.bytes ≡ take INPUT_LIMIT bytes) _
    (λ bytes cut.
    let same : c.in-Some.subcommand ≡ Subcommand.Build
    = only_one (asked c.args.words.now) c.in-Some.subcommand Subcommand.Build (sym c.in-Some.ensures) asks in
    subst (λ (document : Result Document DocFault). KeepsPromise document (outcome_of_document Subcommand.Build document))
    (ap document_of (c.as_slice.ensures.items ∙ cut) ∙ at_limit INPUT_LIMIT bytes refl)
    (subst (λ (subcommand : Subcommand). IsPromised subcommand c.as_slice.result.now) same c.in-Ok-respond.ensures.promise))
    c.in-Ok.ensures.bytes

pub returns-in-Ok-write_report-clause-succeeds : goal.returns-in-Ok-write_report-clause-succeeds
returns-in-Ok-write_report-clause-succeeds g c subcommand asks calm quiet =
    over_told (g.S.Source.left c.args.source.now) (λ bytes. c.in-Ok.bytes ≡ take INPUT_LIMIT bytes) _
    (λ bytes cut succeeds.
    let same : outcome_of c.in-Some.subcommand c.as_slice.result.now ≡ outcome_of subcommand bytes
    = same_outcome c.in-Some.subcommand subcommand c.in-Ok.bytes bytes c.as_slice.result.now
    (only_one (asked c.args.words.now) c.in-Some.subcommand subcommand (sym c.in-Some.ensures) asks) c.as_slice.ensures.items cut in
    inl (c.in-Ok-respond.ensures.status ∙ ap status_of same ∙ c.law_successes.ensures.succeeds subcommand bytes succeeds))
    c.in-Ok.ensures.bytes

same_steps : (found : Option ℕ) (count asked : ℕ) → found ≡ Some count → found ≡ Some asked → count ≡ asked
same_steps found count asked is same = cc

pub returns-in-Some-find_steps-clause-summary : goal.returns-in-Some-find_steps-clause-summary
returns-in-Some-find_steps-clause-summary g c count asks done =
    c.run_generated.ensures.summary done
    ∙ ap (λ (n : ℕ). append_known (g.K.Sink.taken c.args.sink.now) (summary_of n))
    (same_steps _ c.in-Some-find_steps.count count (sym c.in-Some-find_steps.ensures.asked) asks)

pub returns-in-Some-find_steps-clause-summary_beginning : goal.returns-in-Some-find_steps-clause-summary_beginning
returns-in-Some-find_steps-clause-summary_beginning g c count asks five =
    subst
    (λ (n : ℕ). TakesBeginning (g.K.Sink.taken c.args.sink.now) (g.K.Sink.taken c.run_generated.new.sink) (summary_of n))
    (same_steps _ c.in-Some-find_steps.count count (sym c.in-Some-find_steps.ensures.asked) asks)
    (c.run_generated.ensures.beginning five)
