-- A field or an element that may be entered is one of those that the place is begun with.
use Rattle.std.proofs.Common.{◌≡◌, ℕ, ◌<◌, length, Option, Some, None, refl, subst, arith}
use Rattle.fr_moves.specs.Common.{Def, Describes, IsFullAs, Opening, Operation, Table, Tracker, Tree, as_tracker, def_of, field_refusal, option_or, selected, variant_fields}
use Rattle.fr_moves.specs.AnewLaws.{below_limit}
use Rattle.fr_moves.specs.TrackerLaws.{struct_tracker, array_tracker, enum_tracker, variant_count}

neither : (first rest : Option Operation) → option_or first rest ≡ None → first ≡ None
neither (Some operation) rest e = cc
neither None rest e = refl

-- it is one of the children that the place is begun with
pub opened_within : (table : Table) (s : ℕ) (t : Tree) (i : ℕ) (opening : Opening) → Describes table s t opening
    → field_refusal (def_of table s) t i ≡ None → i < opening.count
opened_within table s t i opening says may = go (def_of table s) says.begun may
  where
    go : (def : Def) → IsFullAs def (as_tracker opening.tracker) opening.count → field_refusal def t i ≡ None → i < opening.count
    go (Def.Struct struct) full none =
        let below : i < length struct.fields = below_limit i (length struct.fields) Operation.FieldIndexOutOfBounds none in
        omega (arith, below, (struct_tracker struct (as_tracker opening.tracker) opening.count says.plain full).1)
    go (Def.Array item n) full none =
        let below : i < n = below_limit i n Operation.ArrayIndexOutOfBounds (neither _ _ none) in
        omega (arith, below, (array_tracker item n (as_tracker opening.tracker) opening.count says.plain full).1)
    go (Def.Enum enumeration) full none =
        let is = enum_tracker enumeration (as_tracker opening.tracker) opening.count says.plain full in
        let one : selected t ≡ Some is.variant = says.variant is.variant is.tracker_is in
        let below : i < length (variant_fields (Def.Enum enumeration) is.variant)
        = below_limit i (length (variant_fields (Def.Enum enumeration) is.variant)) Operation.VariantFieldIndexOutOfBounds
        (rw one at none) in
        omega (
          arith,
          below,
          variant_count enumeration is.variant opening.count
              (subst (λ (f : Tracker). IsFullAs (Def.Enum enumeration) f opening.count) is.tracker_is full),
        )
    go (Def.Slice item) full none = cc
    go Def.Opaque full none = cc
    go _ full none = cc
