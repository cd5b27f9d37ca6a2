-- The members of a document.
use Rattle.std.specs.Prelude.{ℕ, List, [], ◌∷◌, Option, Some, None, codes, if◌then◌else◌}
use Rattle.serde_json.specs.Data.{Data}
use Rattle.serde_json.specs.Find.{get, as_object}
use Rattle.fr_doc.specs.Keys.{has_no_other}
use Rattle.fr_doc.specs.Steps.{◌>>=◌}

-- what stands under the keys of a document
pub record Members : Type 0 where
  pub shapes : Data
  pub root : Data
  pub tokens : Option Data
  pub commands : Data

abbrev pub document_keys : List (List ℕ)
document_keys = codes "shapes" ∷ codes "root" ∷ codes "tokens" ∷ codes "commands" ∷ []

-- an object of shapes, a root, commands, perhaps a number of tokens, and nothing else
unfoldable pub members_form : Data → Option Members
members_form d = do
  members ← as_object d
  if has_no_other members document_keys then (do
    shapes ← get (codes "shapes") d
    root ← get (codes "root") d
    commands ← get (codes "commands") d
    Some (record { shapes = shapes; root = root; tokens = get (codes "tokens") d; commands = commands })) else None
