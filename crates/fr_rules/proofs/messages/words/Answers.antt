-- Each message is the pieces that its format prints in a row.
use Rattle.std.proofs.Common.{append_assoc}
use Rattle.std.specs.Prelude.{codes}
use Rattle.fr_rules.proofs.Pieces.{said_as, two_quoted}
use Rattle.fr_rules.proofs.messages.words.Goals as goal

pub returns-in_ok-got-in-Min : goal.returns-in_ok-got-in-Min
returns-in_ok-got-in-Min c =
    said_as _ _ _ c.format.ensures.ok (simp (c.in-Min.is, c.in_ok-got-in-Min.ensures, append_assoc))

pub returns-in_ok-got-in-Max : goal.returns-in_ok-got-in-Max
returns-in_ok-got-in-Max c =
    said_as _ _ _ c.format-in-Max.ensures.ok (simp (c.in-Max.is, c.in_ok-got-in-Max.ensures, append_assoc))

pub returns-in-MinLength : goal.returns-in-MinLength
returns-in-MinLength c =
    said_as _ _ _ c.format-in-MinLength.ensures.ok (simp (c.in-MinLength.is, c.text_in-text.ensures, append_assoc))

pub returns-in-MaxLength : goal.returns-in-MaxLength
returns-in-MaxLength c =
    said_as _ _ _ c.format-in-MaxLength.ensures.ok (simp (c.in-MaxLength.is, c.text_in-text.ensures, append_assoc))

pub returns-in-Url : goal.returns-in-Url
returns-in-Url c =
    said_as _ _ _ c.format-in-Url.ensures.ok (simp (c.in-Url.is, c.text_in-text.ensures, append_assoc))

pub returns-in-Regex : goal.returns-in-Regex
returns-in-Regex c =
    said_as _ _ _ c.format-in-Regex.ensures.ok
    (simp (c.in-Regex.is, c.as_str-pattern.ensures.bytes, c.text_in-text.ensures)
    (two_quoted _ (codes " does not match pattern ") _))

pub returns-in-Contains : goal.returns-in-Contains
returns-in-Contains c =
    said_as _ _ _ c.format-in-Contains.ensures.ok
    (simp (c.in-Contains.is, c.as_str-needle.ensures.bytes, c.text_in-text.ensures)
    (two_quoted _ (codes " does not contain ") _))
