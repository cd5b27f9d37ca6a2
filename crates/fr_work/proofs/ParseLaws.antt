-- What a text or bytes that are parsed come to: the value that they mean is put, or is refused.
use Rattle.std.proofs.Common.{◌≡◌, ℕ, refl, sym, ◌∙◌, ap}
use Rattle.fr_work.specs.Common.{Call, Change, IsChecked, IsMeant, Meanings, Move, Operation, Sees, ShapeId, Site, Table, Tree, Value, shape_at, step, view}
use Rattle.fr_shape.specs.Hooks.{Meaning, gives, IsLawful}
use Rattle.fr_model.specs.Scripts.{brings}
use Rattle.fr_model.specs.Step.{puts_parsed}
use Rattle.fr_model.proofs.Templates.{bytes_template, text_template}
use Rattle.fr_model.proofs.Templates.{IsTemplate, template_holds}
use Rattle.fr_work.specs.Deciding.{ComesToBy}
use Rattle.fr_work.specs.ParseHooks.{input_meant, input_refusal, parse_call}
use Rattle.fr_work.specs.declared.parse_moves.ParseInput.{ParseInput}
use Rattle.fr_work.proofs.PutLaws.{taken}
use Rattle.fr_work.proofs.SeenLaws.{seen_by}
use Rattle.fr_moves.specs.SetLaws.{keeps_own, takes_own}

abbrev unparsing : ParseInput → Operation
unparsing (ParseInput.Text codes) = Operation.NoParsing
unparsing (ParseInput.Bytes bytes) = Operation.NoParsingOfBytes

module _ {site : Site} {table : Table} {shape : ShapeId} {seen : Tree} (at : Sees site table shape seen) (hooks : Meanings) where
  meant_seen : (input : ParseInput) → input_meant hooks table shape.0 input ≡ input_meant hooks site.shapes (shape_at site) input
  meant_seen input = seen_by at (λ table s tree. input_meant hooks table s input) (λ table s tracker ts. refl)

  step_is : (input : ParseInput) → step hooks site.shapes site.root site.state (parse_call input)
      ≡ puts_parsed (shape_at site) site.state (input_meant hooks site.shapes (shape_at site) input)
      (input_refusal (shape_at site) input) (unparsing input)
  step_is (ParseInput.Text codes) = refl
  step_is (ParseInput.Bytes bytes) = refl

  stepped : (input : ParseInput) (meaning : Meaning) → input_meant hooks table shape.0 input ≡ meaning
      → step hooks site.shapes site.root site.state (parse_call input)
      ≡ puts_parsed (shape_at site) site.state meaning (input_refusal (shape_at site) input) (unparsing input)
  stepped input meaning is =
      step_is input
      ∙ ap
      (λ (m : Meaning). puts_parsed (shape_at site) site.state m (input_refusal (shape_at site) input) (unparsing input))
      (sym (meant_seen input) ∙ is)

  -- It means this value.
  module _ (checked : IsChecked site.shapes) (lawful : IsLawful hooks) (value : Value) where
    parsed_template : (input : ParseInput) → input_meant hooks table shape.0 input ≡ gives (view value)
        → IsTemplate site.shapes (shape_at site) (view value)
    parsed_template (ParseInput.Text codes) is =
        text_template hooks site.shapes (shape_at site) codes.now (view value) checked lawful
        (sym (meant_seen (ParseInput.Text codes)) ∙ is)
    parsed_template (ParseInput.Bytes bytes) is =
        bytes_template hooks site.shapes (shape_at site) bytes.now (view value) checked lawful
        (sym (meant_seen (ParseInput.Bytes bytes)) ∙ is)

    -- to put it may as well be a `set` of it
    pub put_meant : (input : ParseInput) → input_meant hooks table shape.0 input ≡ gives (view value)
        → IsMeant site (Move.Stay (Change.Put value))
    put_meant input is = (
      Call.Set (shape_at site) (view value),
      taken site (shape_at site) (view value) (keeps_own site.shapes (shape_at site)) value refl (parsed_template input is).fit
          (takes_own site.shapes (shape_at site)),
    )

    none_brought : (input : ParseInput) (t : ℕ) → brings (parse_call input) t ≡ 0
    none_brought (ParseInput.Text codes) t = refl
    none_brought (ParseInput.Bytes bytes) t = refl

    pub put_so : (input : ParseInput) → input_meant hooks table shape.0 input ≡ gives (view value)
        → ComesToBy hooks site (parse_call input) (Move.Stay (Change.Put value))
    put_so input is = record {
      same_tokens = λ t. none_brought input t
          ∙ sym (template_holds site.shapes (shape_at site) (view value) t (parsed_template input is));
      late = λ late. cc;
      means = stepped input (gives (view value)) is;
    }
