-- The variants that JSON stands for.
use Rattle.std.specs.Prelude.{ℕ, false, List, [], ◌∷◌, Option, Some, None, codes}
use Rattle.serde_json.specs.Data.{Data}
use Rattle.serde_json.specs.Find.{get, as_array, as_str}
use Rattle.fr_shape.specs.declared.shape.StructKind.{StructKind}
use Rattle.fr_shape.specs.declared.shape.VariantDef.{VariantDef}
use Rattle.fr_doc.specs.FieldForms.{fields_form}
use Rattle.fr_doc.specs.Keys.{object_of, required, optional, flag}
use Rattle.fr_doc.specs.Names.{kind_named}
use Rattle.fr_doc.specs.Numerals.{small_int_form}
use Rattle.fr_doc.specs.Steps.{◌>>=◌, each}

-- how the variant is written: with named fields where nothing is given
unfoldable pub kind_form : Option Data → Option StructKind
kind_form None = Some StructKind.Struct
kind_form (Some d) = do
  word ← as_str d
  kind_named word

abbrev pub variant_keys : List (List ℕ)
variant_keys =
    codes "name" ∷ codes "fields" ∷ codes "rename" ∷ codes "kind" ∷ codes "discriminant" ∷ codes "other" ∷ []

-- an object that has no other keys than a variant's
unfoldable pub variant_object : Data → Option Data
variant_object d = object_of variant_keys d

-- an object of a name and fields, and of what else is said of the variant
unfoldable pub described_variant_form : Data → Option VariantDef
described_variant_form d = do
  variant ← variant_object d
  kind ← kind_form (get (codes "kind") variant)
  discriminant ← optional (codes "discriminant") small_int_form variant
  other ← flag (codes "other") false variant
  name ← required (codes "name") as_str variant
  rename ← optional (codes "rename") as_str variant
  fields ← required (codes "fields") fields_form variant
  Some (record {
    name = name;
    rename = rename;
    kind = kind;
    fields = fields;
    discriminant = discriminant;
    other = other;
  })

-- an array of variants
unfoldable pub variants_form : Data → Option (List VariantDef)
variants_form d = do
  items ← as_array d
  each described_variant_form items
