use Rattle.std.proofs.Common.{◌≡◌, ℕ, Bool, true, false, if◌then◌else◌, List, Err, sym, subst}
use Rattle.std.proofs.lemmas.Bool.{false_from_ne_true}
use Rattle.std.proofs.lemmas.Str.{IsUtf8-from_is_utf8, is_utf8-from_IsUtf8}
use Rattle.std.specs.Str.{is_utf8}
use Rattle.fr_shape.specs.Hooks.{Answers}
use Rattle.fr_doc.specs.DocHooks.{refused, text_parsed}
use Rattle.fr_doc.proofs.doc_hooks.parse_utf8.Goals as goal

pub returns-in-Ok : goal.returns-in-Ok
returns-in-Ok c =
    let cases = c.in-Ok.ensures.cases in
    let utf8 : is_utf8 c.args.bytes.now ≡ true = is_utf8-from_IsUtf8 _ cases.1 in
    let meaning = λ (text : List ℕ). text_parsed c.args.table.now c.args.target.0 text in
    rw utf8 (subst (λ (text : List ℕ). Answers (meaning text) c.parse_text.result) cases.0 c.parse_text.ensures)

pub returns-in-Err : goal.returns-in-Err
returns-in-Err c =
    let other : is_utf8 c.args.bytes.now ≡ false =
    false_from_ne_true _ (λ e. c.in-Err.ensures.cases.0 (IsUtf8-from_is_utf8 _ e)) in
    let meaning = text_parsed c.args.table.now c.args.target.0 c.args.bytes.now in
    subst (λ (b : Bool). Answers (if b then meaning else refused) (Err c.refusal.result)) (sym other) c.refusal.ensures
