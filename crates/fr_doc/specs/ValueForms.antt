-- The values that JSON stands for.
use Rattle.std.specs.Prelude.{Option, Some, None, option_map}
use Rattle.serde_json.specs.Data.{Data, null, boolean, number, string, array, object, Items, no_items, item, Members, no_members, member}
use Rattle.serde_json.specs.Find.{as_u64}
use Rattle.fr_shape.specs.Val.{Val, Vals, Entries, bool, char, int, nat, text, token, product, variant, none, some, ok, err, list_of, map_of, set_of, ptr, dyn, no_vals, first, no_entries, entry}
use Rattle.fr_doc.specs.declared.tag.Tag.{Tag}
use Rattle.fr_doc.specs.DynForms.{dyn_form}
use Rattle.fr_doc.specs.Numerals.{nat_form, int_form, char_form, whole_number}
use Rattle.fr_doc.specs.Steps.{◌>>=◌}
use Rattle.fr_doc.specs.Tags.{tag_of}

-- What stands under a key. The last four say what it is as a value, as the items of a list, as a variant's number and
-- fields, and as the entries of a map.
abbrev pub tagged_form : Tag → Data → (whole : Option Val) (items : Option Vals) (chosen : Option Val) (entries : Option Entries) → Option Val
tagged_form Tag.Nat inner whole items chosen entries = option_map nat (nat_form inner)
tagged_form Tag.Int inner whole items chosen entries = option_map int (int_form inner)
tagged_form Tag.Char inner whole items chosen entries = option_map char (char_form inner)
tagged_form Tag.Token inner whole items chosen entries = option_map token (whole_number inner)
tagged_form Tag.Variant inner whole items chosen entries = chosen
tagged_form Tag.Some inner whole items chosen entries = option_map some whole
tagged_form Tag.Ok inner whole items chosen entries = option_map ok whole
tagged_form Tag.Err inner whole items chosen entries = option_map err whole
tagged_form Tag.Pointer inner whole items chosen entries = option_map ptr whole
tagged_form Tag.List inner whole items chosen entries = option_map list_of items
tagged_form Tag.Set inner whole items chosen entries = option_map set_of items
tagged_form Tag.Map inner whole items chosen entries = option_map map_of entries
tagged_form Tag.Dynamic inner whole items chosen entries = option_map dyn (dyn_form inner)

abbrev mutual
  -- the value of a form, if it is one
  pub value_form : Data → Option Val
  value_form null = Some none
  value_form (boolean b) = Some (bool b)
  value_form (number n) = option_map nat (as_u64 n)
  value_form (string s) = Some (text s)
  value_form (array ds) = option_map product (vals_form ds)
  value_form (object ms) = one_key_form ms

  -- an object of exactly one key
  pub one_key_form : Members → Option Val
  one_key_form (member key inner no_members) = do
    tag ← tag_of key
    tagged_form tag inner (value_form inner) (list_form inner) (variant_form inner) (map_form inner)
  one_key_form _ = None

  pub vals_form : Items → Option Vals
  vals_form no_items = Some no_vals
  vals_form (item d ds) = do
    v ← value_form d
    vs ← vals_form ds
    Some (first v vs)

  -- an array of values
  pub list_form : Data → Option Vals
  list_form (array ds) = vals_form ds
  list_form _ = None

  -- a variant's number, and its fields in order
  pub variant_form : Data → Option Val
  variant_form (array (item index (item fields no_items))) = do
    i ← whole_number index
    vs ← list_form fields
    Some (variant i vs)
  variant_form _ = None

  -- an array of a map's entries
  pub map_form : Data → Option Entries
  map_form (array ds) = entries_form ds
  map_form _ = None

  pub entries_form : Items → Option Entries
  entries_form no_items = Some no_entries
  entries_form (item d ds) = do
    e ← entry_form d
    es ← entries_form ds
    Some (entry e.0 e.1 es)

  -- a key and the value under it
  pub entry_form : Data → Option (Val × Val)
  entry_form (array (item key (item d no_items))) = do
    k ← value_form key
    v ← value_form d
    Some (k, v)
  entry_form _ = None
