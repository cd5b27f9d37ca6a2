-- The values of a dynamic shape that JSON stands for.
use Rattle.std.specs.Prelude.{ℕ, List, Option, Some, None, option_map}
use Rattle.serde_json.specs.Data.{Data, null, boolean, number, string, array, object, Items, no_items, item, Members, no_members, member}
use Rattle.serde_json.specs.Find.{as_u64, as_str}
use Rattle.fr_shape.specs.Val.{Dynamic, dyn_null, dyn_bool, dyn_int, dyn_nat, dyn_text, dyn_bytes, dyn_array, dyn_object, Dynamics, no_dynamics, first_dynamic}
use Rattle.fr_shape.specs.Val.{Members as DynMembers, no_members as no_dyn_members, member as dyn_member}
use Rattle.fr_doc.specs.declared.tag.DynTag.{DynTag}
use Rattle.fr_doc.specs.Numerals.{small_int_form, byte}
use Rattle.fr_doc.specs.Steps.{◌>>=◌, each}
use Rattle.fr_doc.specs.Tags.{dyn_tag_of}

-- an array of bytes
abbrev pub bytes_form : Data → Option (List ℕ)
bytes_form (array ds) = each byte ds
bytes_form _ = None

-- what stands under a key; `entries` is what it is as the entries of an object
abbrev pub dyn_tagged_form : DynTag → Data → (entries : Option DynMembers) → Option Dynamic
dyn_tagged_form DynTag.Int inner entries = option_map dyn_int (small_int_form inner)
dyn_tagged_form DynTag.Bytes inner entries = option_map dyn_bytes (bytes_form inner)
dyn_tagged_form DynTag.Object inner entries = option_map dyn_object entries

abbrev mutual
  pub dyn_form : Data → Option Dynamic
  dyn_form null = Some dyn_null
  dyn_form (boolean b) = Some (dyn_bool b)
  dyn_form (number n) = option_map dyn_nat (as_u64 n)
  dyn_form (string text) = Some (dyn_text text)
  dyn_form (array ds) = option_map dyn_array (dynamics_form ds)
  dyn_form (object ms) = dyn_one_key_form ms

  -- an object of exactly one key
  pub dyn_one_key_form : Members → Option Dynamic
  dyn_one_key_form (member key inner no_members) = do
    tag ← dyn_tag_of key
    dyn_tagged_form tag inner (dyn_object_form inner)
  dyn_one_key_form _ = None

  pub dynamics_form : Items → Option Dynamics
  dynamics_form no_items = Some no_dynamics
  dynamics_form (item d ds) = do
    x ← dyn_form d
    xs ← dynamics_form ds
    Some (first_dynamic x xs)

  -- an array of a dynamic object's entries
  pub dyn_object_form : Data → Option DynMembers
  dyn_object_form (array ds) = dyn_members_form ds
  dyn_object_form _ = None

  pub dyn_members_form : Items → Option DynMembers
  dyn_members_form no_items = Some no_dyn_members
  dyn_members_form (item d ds) = do
    m ← dyn_member_form d
    ms ← dyn_members_form ds
    Some (dyn_member m.0 m.1 ms)

  -- a key and the value under it
  pub dyn_member_form : Data → Option (List ℕ × Dynamic)
  dyn_member_form (array (item key (item d no_items))) = do
    text ← as_str key
    x ← dyn_form d
    Some (text, x)
  dyn_member_form _ = None
