-- The keys of an object, and what stands under them.
use Rattle.std.specs.Prelude.{ℕ, ◌&&◌, Bool, true, List, Option, Some, None, option_map, if◌then◌else◌}
use Rattle.std.specs.List.{list_any}
use Rattle.std.specs.Str.{bytes_eq}
use Rattle.serde_json.specs.Data.{Data, Members, no_members, member}
use Rattle.serde_json.specs.Find.{get, as_bool, as_object}
use Rattle.fr_doc.specs.Steps.{◌>>=◌}

abbrev pub is_among : List ℕ → List (List ℕ) → Bool
is_among key keys = list_any (bytes_eq key) keys

-- the object has no other keys than these; it may lack some
abbrev pub has_no_other : Members → List (List ℕ) → Bool
has_no_other no_members keys = true
has_no_other (member key d ms) keys = is_among key keys && has_no_other ms keys

-- an object that has no other keys than these
unfoldable pub object_of : (keys : List (List ℕ)) → Data → Option Data
object_of keys d = do
  members ← as_object d
  if has_no_other members keys then Some d else None

-- the key of an object that has no other, and what stands under it
unfoldable pub only_member : Members → Option (List ℕ × Data)
only_member (member key inner no_members) = Some (key, inner)
only_member _ = None

-- what stands under a key that has to be there
abbrev pub required : {X : Type 0} → (key : List ℕ) → (Data → Option X) → Data → Option X
required key form d = do
  inner ← get key d
  form inner

-- what is given, if something is
unfoldable pub given : {X : Type 0} → (Data → Option X) → Option Data → Option (Option X)
given form None = Some None
given form (Some d) = option_map Some (form d)

-- what stands under a key that may be missing
abbrev pub optional : {X : Type 0} → (key : List ℕ) → (Data → Option X) → Data → Option (Option X)
optional key form d = given form (get key d)

-- a flag that is given, or what it is where none is
unfoldable pub flag_form : (otherwise : Bool) → Option Data → Option Bool
flag_form otherwise None = Some otherwise
flag_form otherwise (Some d) = as_bool d

-- the flag under a key that may be missing
abbrev pub flag : (key : List ℕ) → (otherwise : Bool) → Data → Option Bool
flag key otherwise d = flag_form otherwise (get key d)
