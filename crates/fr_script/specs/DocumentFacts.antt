-- What the builder may count on in a document that was read.
use Rattle.std.specs.Prelude.{◌≤◌, length, replicate, Result, Ok, Err, IsOk}
use Rattle.fr_shape.specs.Checked.{IsChecked}
use Rattle.fr_shape.specs.Look.{IsIn}
use Rattle.fr_shape.specs.Plannable.{IsPlannable}
use Rattle.fr_doc.specs.declared.fault.DocFault.{DocFault}
use Rattle.fr_shape.specs.Numbered.{IsNumbered}
use Rattle.fr_model.specs.Scripts.{IsValid}
use Rattle.fr_script.specs.declared.sizes.TheConstants.{COMMAND_LIMIT, TOKEN_LIMIT}
use Rattle.fr_script.specs.declared.subcommand.Subcommand.{Subcommand}
use Rattle.fr_script.specs.Documents.{Document}
use Rattle.fr_script.specs.Reports.{run_of}

-- The document's table is checked and its root is in it, its script is valid, and their sizes are within the limits. So it meets all
-- that the builder asks.
pub record IsInOrder (document : Document) : Type 0 where
  pub checked : IsChecked document.shapes
  pub rooted : IsIn document.shapes document.root
  pub numbered : IsNumbered document.shapes
  pub few_commands : length document.script ≤ COMMAND_LIMIT
  pub few_tokens : document.tokens ≤ TOKEN_LIMIT
  pub valid : IsValid document.shapes document.script (replicate document.tokens 0)

-- The document has no fault, and what the subcommand asks of it can be done: its script runs to a value, or its root can be
-- planned.
abbrev pub Succeeds : Subcommand → Result Document DocFault → Type 0
Succeeds Subcommand.Build (Ok document) = IsOk (run_of document)
Succeeds Subcommand.Plan (Ok document) = IsPlannable document.shapes document.root
Succeeds subcommand (Err fault) = ⊥
