-- The members of a document, found one after another.
use Rattle.std.proofs.Common.{◌≡◌, true, false, Option, Some, None, codes, refl}
use Rattle.serde_json.specs.Data.{Data, Members as Entries}
use Rattle.serde_json.specs.Find.{get, as_object}
use Rattle.fr_doc.specs.Keys.{has_no_other}
use Rattle.fr_script.specs.Members.{document_keys, members_form}

pub no_members : (d : Data) (entries : Entries) → as_object d ≡ Some entries → has_no_other entries document_keys ≡ false
    → None ≡ members_form d
unfolding members_form
no_members d entries object others = rw (object, others) refl

pub all_members : (d : Data) (entries : Entries) → as_object d ≡ Some entries → has_no_other entries document_keys ≡ true
    → (shapes root commands : Data) → get (codes "shapes") d ≡ Some shapes → get (codes "root") d ≡ Some root
    → get (codes "commands") d ≡ Some commands → (tokens : Option Data) → tokens ≡ get (codes "tokens") d
    → Some (record { shapes = shapes; root = root; tokens = tokens; commands = commands }) ≡ members_form d
unfolding members_form
all_members d entries object none_other shapes root commands first second third tokens is =
    rw (object, none_other, first, second, third, is) refl
