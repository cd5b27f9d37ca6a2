-- What the reading of a part of a document gives, where what was read stands for something else.
use Rattle.std.specs.Prelude.{◌≡◌, option_map, Result, Ok, Err, ⊤}
use Rattle.serde_json.specs.View.{view as data_of}
use Rattle.fr_doc.specs.declared.fault.DocFault.{DocFault}
use Rattle.fr_doc.specs.declared.fault.ReadError.{ReadError}
use Rattle.fr_model.specs.Commands.{calls_of}
use Rattle.fr_script.specs.Documents.{Document}
use Rattle.fr_script.specs.Members.{Members}
use Rattle.fr_script.specs.declared.document.Document.{Document as ReadDocument}
use Rattle.fr_script.specs.declared.members.Members.{Members as FoundMembers}

-- what was read stands for what the part is, a fault is the part's fault, and memory may be wanting anywhere
abbrev pub GivesFor : {A X : Type 0} → (A → X) → Result X DocFault → Result A (ReadError DocFault) → Type 0
GivesFor stands_for part (Ok found) = part ≡ Ok (stands_for found)
GivesFor stands_for part (Err (ReadError.Fault fault)) = part ≡ Err fault
GivesFor stands_for part (Err ReadError.Memory) = ⊤

-- the document that was read
abbrev pub document_view : ReadDocument → Document
document_view document = record {
  shapes = document.table;
  root = document.root.0;
  tokens = document.tokens;
  script = calls_of document.script;
}

-- the members that were found
abbrev pub members_view : FoundMembers → Members
members_view found = record {
  shapes = data_of found.shapes.now;
  root = data_of found.root.now;
  tokens = option_map (λ json. data_of json.now) found.tokens;
  commands = data_of found.commands.now;
}
