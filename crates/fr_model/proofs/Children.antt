-- Which children may be entered, by the machine and by the journal.
use Rattle.std.proofs.Common.{◌≡◌, ◌+◌, ◌<◌, ◌≤◌, ◌&&◌, if◌then◌else◌, ◌∷◌}
use Rattle.fr_model.proofs.Common.{ℕ, suc, le-ltb, lt-ltb, ltb-true, leb-true, Bool, true, false, List, [], length, nat_lt, nat_le, Option, Some, None, refl, ◌∙◌, ap, arith, is_begun_conversion, without_source, fresh, Def, ShapeId, StructDef, EnumDef, Field, Operation, Table, def_of, Val, first_declared, field_named, array_limit, count_children, Journal, Held, held, is_written, may_enter_children, Tracker, as_fields, selected, Tree, hole, entered, whole, begun, count_trees, Mode, field_refusal, named_refusal, variant_fields, field_found, IsFullAs, Suits, AtCursor}
use Rattle.fr_model.proofs.TokensInTrees.{fresh_is}
use Rattle.fr_model.proofs.Basis.{without_source_is, IsWhole, by_value, by_entry, Agrees, IsOpen, Enterable, a_field, an_element, a_variant_field}

-- of an array, the journal holds a value exactly where the tree has one

abbrev pub is_whole : Tree → Bool
is_whole (whole v) = true
is_whole _ = false

abbrev pub SeesWhole : Def → Tree → Held → Type 0
SeesWhole (Def.Array item n) t h = is_written h ≡ is_whole t
SeesWhole _ t h = Unit {0}

pub sees_whole : (mode : Mode) (table : Table) (s : ℕ) (t : Tree) (notes : Journal) → AtCursor mode t → Agrees table s notes t
    → SeesWhole (def_of table s) t (held notes [])
sees_whole mode table s t notes at agrees = go _ refl
  where
    array_whole : (item : ShapeId) (n : ℕ) (v : Val) → def_of table s ≡ Def.Array item n
        → IsWhole table s v (held notes []) → is_written (held notes []) ≡ true
    array_whole item n v is (by_value e) = ap is_written e
    array_whole item n v is (by_entry e empty same) = let none = rw is at empty in cc

    array : (item : ShapeId) (n : ℕ) (t : Tree) → def_of table s ≡ Def.Array item n → AtCursor mode t
        → Agrees table s notes t → is_written (held notes []) ≡ is_whole t
    array item n hole is at agrees = absurd at
    array item n entered is at agrees = ap is_written agrees
    array item n (whole v) is at agrees = array_whole item n v is agrees
    array item n (begun tracker ts) is at agrees = ap is_written agrees.0

    go : (def : Def) → def_of table s ≡ def → SeesWhole def t (held notes [])
    go (Def.Array item n) is = array item n t is at agrees
    go _ is = tt

-- begin_nth_field

abbrev pub may_enter_by : Def → ℕ → Held → Bool
may_enter_by def i h = nat_lt i (count_children def) && may_enter_children def h

-- an enterable child of a place of this definition
pub data ChildOf (def : Def) (i : ℕ) (t : Tree) : Type 0 where
  field_of : (struct : StructDef) → def ≡ Def.Struct struct → i < length struct.fields → ChildOf def i t
  element_of : (item : ShapeId) (n : ℕ) → def ≡ Def.Array item n → i < n → n ≤ array_limit → IsOpen t → ChildOf def i t
  variant_field_of : (k : ℕ) (enumeration : EnumDef) → def ≡ Def.Enum enumeration → selected t ≡ Some k
      → i < length (variant_fields def k) → ChildOf def i t

pub enterable : (table : Table) (s i : ℕ) (t : Tree) → is_begun_conversion t ≡ false → ChildOf (def_of table s) i t → Enterable table s i t
enterable table s i t apart (field_of struct is below) = a_field struct is below apart
enterable table s i t apart (element_of item n is below few not_whole) = an_element item n is below few not_whole apart
enterable table s i t apart (variant_field_of k enumeration is chosen below) = a_variant_field k enumeration is chosen below

-- no variant is selected at a conversion, nor where it has started anew
pub without_source_selects : (def : Def) (t : Tree) → selected (without_source def t) ≡ selected t
without_source_selects def t = without_source_is (λ u. selected u ≡ selected t) def t (anew t) (λ apart. refl)
  where
    anew : (t : Tree) → is_begun_conversion t ≡ true → selected (fresh def) ≡ selected t
    anew (begun (as_fields chosen) ts) conversion = cc
    anew (begun _ ts) conversion = fresh_is (λ u. selected u ≡ None) def (λ e. refl) (λ e. refl)
    anew _ conversion = cc

fresh_open : (item : ShapeId) (n : ℕ) (def : Def) → def ≡ Def.Array item n → IsOpen (fresh def)
fresh_open item n def is = rw is tt

-- it has the child that it would have
pub without_source_child : (def : Def) (i : ℕ) (t : Tree) → ChildOf def i t → ChildOf def i (without_source def t)
without_source_child def i t (field_of struct is below) = field_of struct is below
without_source_child def i t (element_of item n is below few not_whole) =
    element_of item n is below few (without_source_is IsOpen def t (λ anew. fresh_open item n def is) (λ apart. not_whole))
without_source_child def i t (variant_field_of k enumeration is chosen below) =
    variant_field_of k enumeration is (without_source_selects def t ∙ chosen) below

-- a child that the journal may enter too, one of a variant, which the journal doesn't know, or none
pub data ChildCase (def : Def) (i : ℕ) (t : Tree) : Type 0 where
  a_child : ChildOf def i t → field_refusal def t i ≡ None
      → ((h : Held) → SeesWhole def t h → may_enter_by def i h ≡ true) → ChildCase def i t
  a_variant_child : (k : ℕ) → ChildOf def i t → field_refusal def t i ≡ None → selected t ≡ Some k → ChildCase def i t
  no_child : (operation : Operation) → field_refusal def t i ≡ Some operation
      → ((h : Held) → SeesWhole def t h → may_enter_by def i h ≡ false) → ChildCase def i t

pub nothing_below : (i : ℕ) → nat_lt i 0 ≡ false
nothing_below i = le-ltb i 0 (omega arith)

struct_case : (struct : StructDef) (i : ℕ) (t : Tree) (b : Bool) → nat_lt i (length struct.fields) ≡ b → ChildCase (Def.Struct struct) i t
struct_case struct i t true e = a_child (field_of struct refl (ltb-true i (length struct.fields) e)) (rw e refl) (λ h sees. rw e refl)
struct_case struct i t false e = no_child Operation.FieldIndexOutOfBounds (rw e refl) (λ h sees. rw e refl)

array_case : (item : ShapeId) (n i : ℕ) (t : Tree) (below small : Bool) → nat_lt i n ≡ below → nat_le n array_limit ≡ small
    → ChildCase (Def.Array item n) i t
array_case item n i t false small e f = no_child Operation.ArrayIndexOutOfBounds (rw e refl) (λ h sees. rw e refl)
array_case item n i t true false e f = no_child Operation.ArrayTooLarge (rw (e, f) refl) (λ h sees. rw (e, f) refl)
array_case item n i (whole v) true true e f = no_child Operation.ElementOfWholeArray (rw (e, f) refl) (λ h sees. rw (e, f, sees) refl)
array_case item n i _ true true e f =
    a_child (element_of item n refl (ltb-true i n e) (leb-true n array_limit f) tt) (rw (e, f) refl) (λ h sees. rw (e, f, sees) refl)

variant_case : (enumeration : EnumDef) (i : ℕ) (t : Tree) (chosen : Option ℕ) → selected t ≡ chosen → ChildCase (Def.Enum enumeration) i t
variant_case enumeration i t None is = no_child Operation.FieldOfUnselectedVariant (rw is refl) (λ h sees. rw (nothing_below i) refl)
variant_case enumeration i t (Some k) is = go _ refl
  where
    go : (b : Bool) → nat_lt i (length (variant_fields (Def.Enum enumeration) k)) ≡ b → ChildCase (Def.Enum enumeration) i t
    go true e =
        a_variant_child k (variant_field_of k enumeration refl is (ltb-true i (length (variant_fields (Def.Enum enumeration) k)) e))
        (rw (is, e) refl) is
    go false e = no_child Operation.VariantFieldIndexOutOfBounds (rw (is, e) refl) (λ h sees. rw (nothing_below i) refl)

pub child_case : (def : Def) (i : ℕ) (t : Tree) → ChildCase def i t
child_case (Def.Struct struct) i t = struct_case struct i t (nat_lt i (length struct.fields)) refl
child_case (Def.Array item n) i t = array_case item n i t (nat_lt i n) (nat_le n array_limit) refl refl
child_case (Def.Enum enumeration) i t = variant_case enumeration i t (selected t) refl
child_case (Def.Slice item) i t = no_child Operation.FieldOfSlice refl (λ h sees. rw (nothing_below i) refl)
child_case Def.Opaque i t = no_child Operation.FieldOfOpaque refl (λ h sees. rw (nothing_below i) refl)
child_case _ i t = no_child Operation.FieldOfOther refl (λ h sees. rw (nothing_below i) refl)

-- begin_field

found_below : (name : List ℕ) (i k : ℕ) (fields : List Field) → first_declared name i fields ≡ Some k → (i ≤ k) × (k < i + length fields)
found_below name i k [] e = cc
found_below name i k (field ∷ fields) e = go _ e (λ later. found_below name (suc i) k fields later)
  where
    go : (b : Bool) → (if b then Some i else first_declared name (suc i) fields) ≡ Some k
        → (first_declared name (suc i) fields ≡ Some k → (suc i ≤ k) × (k < suc i + length fields))
        → (i ≤ k) × (k < i + suc (length fields))
    go true e rest = let same : i ≡ k = cc in (omega arith, omega arith)
    go false e rest = let later = rest e in (omega (arith, later.0), omega (arith, later.1))

-- a variant is selected only at an enum
abbrev pub OnlyOfEnum : Def → Tree → Type 0
OnlyOfEnum (Def.Enum enumeration) t = Unit {0}
OnlyOfEnum _ t = selected t ≡ None

none_selected : (def : Def) (t : Tree) → selected t ≡ None → OnlyOfEnum def t
none_selected (Def.Enum enumeration) t none = tt
none_selected _ t none = none

pub only_of_enum : (table : Table) (s : ℕ) (t : Tree) → Suits table s t → OnlyOfEnum (def_of table s) t
only_of_enum table s hole suits = none_selected (def_of table s) hole refl
only_of_enum table s entered suits = none_selected (def_of table s) entered refl
only_of_enum table s (whole v) suits = none_selected (def_of table s) (whole v) refl
only_of_enum table s (begun tracker ts) suits = go (def_of table s) tracker suits.0.0
  where
    go : (def : Def) (tracker : Tracker) → IsFullAs def tracker (count_trees ts) → OnlyOfEnum def (begun tracker ts)
    go (Def.Enum enumeration) tracker full_as = tt
    go _ (as_fields (Some k)) full_as = absurd full_as
    go _ _ full_as = refl

-- a field that the journal may enter too, one of a variant, which the journal doesn't know, or none
pub data NamedCase (name : List ℕ) (def : Def) (t : Tree) : Type 0 where
  a_named : (i : ℕ) → ChildOf def i t → named_refusal def t ≡ None → field_found name def (selected t) ≡ Some i
      → field_named name def ≡ Some i → ((h : Held) → may_enter_by def i h ≡ true) → NamedCase name def t
  a_variant_named : (i k : ℕ) → ChildOf def i t → named_refusal def t ≡ None → field_found name def (selected t) ≡ Some i
      → selected t ≡ Some k → NamedCase name def t
  no_such_name : named_refusal def t ≡ None → field_found name def (selected t) ≡ None → field_named name def ≡ None → NamedCase name def t
  no_names : (operation : Operation) → named_refusal def t ≡ Some operation → field_named name def ≡ None → NamedCase name def t

named_in_variant : (name : List ℕ) (enumeration : EnumDef) (t : Tree) (chosen : Option ℕ) → selected t ≡ chosen
    → NamedCase name (Def.Enum enumeration) t
named_in_variant name enumeration t None is = no_names Operation.NamedFieldOfUnselectedVariant (rw is refl) refl
named_in_variant name enumeration t (Some k) is = go _ refl
  where
    go : (found : Option ℕ) → first_declared name 0 (variant_fields (Def.Enum enumeration) k) ≡ found
        → NamedCase name (Def.Enum enumeration) t
    go (Some i) e =
        let there = found_below name 0 i _ e in
        a_variant_named i k (variant_field_of k enumeration refl is (omega (arith, there.1))) (rw is refl) (rw is e) is
    go None e = no_such_name (rw is refl) (rw is e) refl

pub named_case : (name : List ℕ) (def : Def) (t : Tree) → OnlyOfEnum def t → NamedCase name def t
named_case name (Def.Struct struct) t only = go _ refl
  where
    go : (found : Option ℕ) → first_declared name 0 struct.fields ≡ found → NamedCase name (Def.Struct struct) t
    go (Some i) e =
        let there = found_below name 0 i struct.fields e in
        a_named i (field_of struct refl (omega (arith, there.1))) refl (rw only e) e
        (λ h. rw (lt-ltb i (length struct.fields) (omega (arith, there.1))) refl)
    go None e = no_such_name refl (rw only e) e
named_case name (Def.Enum enumeration) t only = named_in_variant name enumeration t _ refl
named_case name Def.Undefined t only = no_names Operation.NamedFieldOfUndefined refl refl
named_case name (Def.Scalar kind) t only = no_names Operation.NamedFieldOfPrimitive refl refl
named_case name Def.Str t only = no_names Operation.NamedFieldOfPrimitive refl refl
named_case name (Def.Array item n) t only = no_names Operation.NamedFieldOfSequence refl refl
named_case name (Def.Slice item) t only = no_names Operation.NamedFieldOfSequence refl refl
named_case name Def.Opaque t only = no_names Operation.NamedFieldOfOpaque refl refl
named_case name (Def.Pointer pointer) t only = no_names Operation.NamedFieldOfPointer refl refl
named_case name _ t only = no_names Operation.FieldOfOther refl refl
