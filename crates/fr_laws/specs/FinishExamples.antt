-- Worked examples of the end of deferred mode among enums, options, results and pointers, computed from the definitions.
use Rattle.std.specs.Prelude.{◌∷◌, ◌++◌}
use Rattle.fr_model.specs.Common.{pos, [], Some, None, Ok, codes, Def, EnumRepr, KnownPointer, Table, plain_field, plain_shape, nat, text, some, ok, ptr, PathStep}
use Rattle.fr_model.specs.Basis.{missing_field, BeginDeferred, BeginNthField, BeginOk, BeginSmartPtr, BeginSome, End, FinishDeferred, SelectNthVariant, Set}
use Rattle.fr_laws.specs.ContentExamples.{lacks, id, u32, string, struct_of, enum_of, variant_of_name, pointer_to, put_in, in_deferred, refused, Runs, options, point, results, in_field, arcs}

-- structs of a number and an option of a text, of a pointer to a text and a number, and of a result and an enum
abbrev pub places : Table
places =
    u32 ∷ string
    ∷ plain_shape (codes "OptString") (Def.Option (id 1))
    ∷ plain_shape (codes "NumberOption") (struct_of (plain_field (codes "n") 0 ∷ plain_field (codes "o") 2 ∷ []))
    ∷ plain_shape (codes "BoxString") (pointer_to (Some KnownPointer.Box) 1)
    ∷ plain_shape (codes "PointerNumber") (struct_of (plain_field (codes "p") 4 ∷ plain_field (codes "n") 0 ∷ []))
    ∷ plain_shape (codes "R") (Def.Result (id 1) (id 0))
    ∷ plain_shape (codes "E") (enum_of EnumRepr.U8 (
    variant_of_name (codes "A") (plain_field (codes "x") 0 ∷ []) (Some (pos 0)) ∷ []
    ))
    ∷ plain_shape (codes "ResultEnum") (struct_of (plain_field (codes "r") 6 ∷ plain_field (codes "e") 7 ∷ [])) ∷ []

pub record FinishExamples : Type 0 where
  -- of two places that fail the deeper one is told, and a content lies a step deeper than what holds it
  pub content_is_deeper : Runs places 3 (in_deferred (in_field 0 [] ++ in_field 1 (BeginSome ∷ End ∷ []))) (lacks 7 1 [])
  pub pointee_is_deeper : Runs places 5 (in_deferred (in_field 1 [] ++ in_field 0 (BeginSmartPtr ∷ End ∷ []))) (lacks 7 1 [])
  -- of two that lie as deep the first step by step, whichever was left first
  pub first_field_is_told :
      Runs places 8 (in_deferred (in_field 1 (SelectNthVariant 0 ∷ in_field 0 []) ++ in_field 0 (BeginOk ∷ End ∷ []))) (lacks 10 1 [])
  -- the place at which the builder works is told last, however deep it lies
  pub cursor_is_last :
      Runs places 8 (BeginDeferred ∷ in_field 0 [] ++ BeginNthField 1 ∷ SelectNthVariant 0
      ∷ BeginNthField 0 ∷ FinishDeferred ∷ []) (lacks 6 6 (PathStep.Field 1 ∷ PathStep.Field 0 ∷ []))
  -- deferred mode ends with the cursor inside a content: it stays there, and is left in strict mode
  pub inside_option : Runs options 4 (BeginDeferred ∷ BeginSome ∷ Set 0 (nat 5) ∷ FinishDeferred ∷ End ∷ []) (Ok (some (nat 5)))
  pub inside_side : Runs results 2 (BeginDeferred ∷ BeginOk ∷ FinishDeferred ∷ []) (lacks 2 1 (PathStep.ResultOk ∷ []))
  pub inside_side_whole :
      Runs results 2 (BeginDeferred ∷ BeginOk ∷ Set 1 (text (codes "a")) ∷ FinishDeferred
      ∷ Set 1 (text (codes "b")) ∷ End ∷ []) (Ok (ok (text (codes "b"))))
  -- what stands inside stays begun, so that its fields can be set again
  pub inside_pointer :
      Runs arcs 4 (BeginDeferred ∷ BeginSmartPtr ∷ put_in 0 0 (nat 1) ++ put_in 1 0 (nat 2) ++ FinishDeferred
      ∷ put_in 0 0 (nat 9) ++ End ∷ []) (Ok (ptr (point 9 2)))
  pub inside_option_half_done :
      Runs options 6 (BeginDeferred ∷ BeginSome ∷ put_in 0 0 (nat 1) ++ FinishDeferred ∷ [])
      (refused 5 (missing_field 2 None 1) (PathStep.OptionSome ∷ []))
  -- above the cursor a place stays begun, and in strict mode a begun option starts anew
  pub above_starts_anew :
      Runs options 4 (BeginDeferred ∷ BeginSome ∷ Set 0 (nat 5) ∷ FinishDeferred ∷ End
      ∷ BeginSome ∷ End ∷ []) (lacks 6 0 (PathStep.OptionSome ∷ []))
