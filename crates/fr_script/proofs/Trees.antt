-- What the reading of JSON tells of the tree of some bytes.
use Rattle.std.proofs.Common.{◌≡◌, ℕ, List, Bool, true, false, cond, Option, Some, None, refl}
use Rattle.std.specs.Str.{IsUtf8, is_utf8}
use Rattle.std.proofs.lemmas.Str.{is_utf8-from_IsUtf8, IsUtf8-from_is_utf8}
use Rattle.serde_json.specs.Data.{Data}
use Rattle.serde_json.specs.Read.{read}
use Rattle.fr_script.specs.Documents.{tree_of}

pub tree_read : (bytes : List ℕ) (d : Data) → IsUtf8 bytes → read bytes ≡ Some d → tree_of bytes ≡ Some d
tree_read bytes d text is = rw (is_utf8-from_IsUtf8 bytes text) is

none_by : (b : Bool) (found : Option Data) → (b ≡ true → found ≡ None) → cond b found None ≡ None
none_by true found is = is refl
none_by false found is = refl

pub no_tree : (bytes : List ℕ) → (IsUtf8 bytes → read bytes ≡ None) → tree_of bytes ≡ None
no_tree bytes is = none_by (is_utf8 bytes) (read bytes) (λ text. is (IsUtf8-from_is_utf8 bytes text))
