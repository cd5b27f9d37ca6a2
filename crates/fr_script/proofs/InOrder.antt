-- What was read of a document meets what the builder asks.
use Rattle.std.proofs.Common.{◌≡◌, ℕ, zero, suc, ◌+◌, ◌<◌, ◌≤◌, nat_lt, cond, Bool, true, false, List, [], ◌∷◌, length, replicate, not, Option, Some, None, Ok, Err, refl, ap, subst, sum_by, arith}
use Rattle.std.specs.Prelude.{Result, nat_le, slice_get}
use Rattle.std.specs.Option.{ok_or}
use Rattle.std.proofs.lemmas.Bool.{ltb-true, leb-true}
use Rattle.std.proofs.lemmas.List.Sums.{sum_by-cons}
use Rattle.serde_json.specs.Data.{Data}
use Rattle.serde_json.specs.Written.{has_float}
use Rattle.fr_shape.specs.Look.{Table, IsIn, def_of}
use Rattle.fr_shape.specs.Numbered.{field_count, IsNumbered}
use Rattle.fr_shape.specs.Look.{variants_of}
use Rattle.fr_doc.specs.declared.fault.DocFault.{DocFault}
use Rattle.fr_doc.specs.declared.fault.DocPlace.{DocPlace}
use Rattle.fr_doc.specs.declared.fault.DocSize.{DocSize}
use Rattle.fr_doc.specs.FaultSteps.{◌>>=◌}
use Rattle.fr_doc.specs.Numerals.{whole_number}
use Rattle.fr_model.specs.Scripts.{IsValid}
use Rattle.fr_script.specs.DocumentFacts.{IsInOrder}
use Rattle.fr_script.specs.Documents.{Document, asks, broken, shapes_form, below, root_form, tokens_form, script_form, document_form, part_count, part_total, at_most, sizes_pass, rules_pass, first_invalid, invalid, script_passes, tree_of, document_of}
use Rattle.fr_script.specs.Members.{members_form}
use Rattle.fr_script.specs.declared.sizes.TheConstants.{SHAPE_LIMIT, PART_LIMIT, COMMAND_LIMIT, TOKEN_LIMIT}
use Rattle.fr_doc.specs.declared.looping.TheConstants.{DOCUMENT_LIMIT}
use Rattle.fr_shape.specs.declared.shape.Def.{Def}
use Rattle.fr_shape.specs.declared.shape.Shape.{Shape}
use Rattle.fr_shape.specs.declared.shape.VariantDef.{VariantDef}
use Rattle.fr_script.proofs.RuleLaws.{passes_checked}
use Rattle.fr_script.proofs.ValidScripts.{valid_where_none_invalid}

-- Steps that succeeded.

passed : {A B E : Type 0} (r : Result A E) (next : A → Result B E) (y : B) → (r >>= next) ≡ Ok y → (x : A) × (r ≡ Ok x) × (next x ≡ Ok y)
passed (Ok x) next y is = (x, refl, is)
passed (Err e) next y is = cc

asked : (b : Bool) (fault : DocFault) (u : Unit {0}) → asks b fault ≡ Ok u → b ≡ true
asked true fault u is = refl
asked false fault u is = cc

found : {X : Type 0} (o : Option X) (fault : DocFault) (x : X) → ok_or o fault ≡ Ok x → o ≡ Some x
found None fault x is = cc
found (Some y) fault x is = cc

within : (limit n : ℕ) (fault : DocFault) (u : Unit {0}) → at_most limit n fault ≡ Ok u → n ≤ limit
within limit n fault u is = leb-true n limit (asked (nat_le n limit) fault u is)

-- Sizes.

pub record HasFew (document : Document) : Type 0 where
  pub few_shapes : length document.shapes ≤ SHAPE_LIMIT
  pub few_parts : part_total document.shapes ≤ PART_LIMIT
  pub few_calls : length document.script ≤ COMMAND_LIMIT
  pub few_tokens : document.tokens ≤ TOKEN_LIMIT

pub sizes_known : (document : Document) (u : Unit {0}) → sizes_pass document ≡ Ok u → HasFew document
unfolding sizes_pass
sizes_known document u is =
    let shapes = passed (at_most SHAPE_LIMIT (length document.shapes) (DocFault.TooLarge DocSize.Shapes)) _ u is in
    let parts = passed (at_most PART_LIMIT (part_total document.shapes) (DocFault.TooLarge DocSize.Fields)) _ u shapes.2 in
    let calls = passed (at_most COMMAND_LIMIT (length document.script) (DocFault.TooLarge DocSize.Commands)) _ u parts.2 in
    let tokens = passed (at_most TOKEN_LIMIT document.tokens (DocFault.TooLarge DocSize.Tokens)) _ u calls.2 in
    record {
      few_shapes = within SHAPE_LIMIT (length document.shapes) _ shapes.0 shapes.1;
      few_parts = within PART_LIMIT (part_total document.shapes) _ parts.0 parts.1;
      few_calls = within COMMAND_LIMIT (length document.script) _ calls.0 calls.1;
      few_tokens = within TOKEN_LIMIT document.tokens _ tokens.0 tokens.1;
    }

fields_are_parts : (def : Def) → field_count def ≤ part_count def
fields_are_parts (Def.Struct struct) = omega arith
fields_are_parts (Def.Enum enum) = omega arith
fields_are_parts (Def.Scalar kind) = omega arith
fields_are_parts Def.Str = omega arith
fields_are_parts Def.Opaque = omega arith
fields_are_parts (Def.Option t) = omega arith
fields_are_parts (Def.Result t e) = omega arith
fields_are_parts (Def.List t) = omega arith
fields_are_parts (Def.Map k v) = omega arith
fields_are_parts (Def.Set t) = omega arith
fields_are_parts (Def.Array t n) = omega arith
fields_are_parts (Def.Pointer pointer) = omega arith
fields_are_parts (Def.Slice t) = omega arith
fields_are_parts Def.Dynamic = omega arith
fields_are_parts Def.Undefined = omega arith
fields_are_parts Def.Other = omega arith

-- how many variants there are, and fields in all of them
abbrev variant_parts : List VariantDef → ℕ
variant_parts variants = sum_by (λ variant. 1 + length variant.fields) variants

next_parts : (variant : VariantDef) (variants : List VariantDef) → variant_parts (variant ∷ variants) ≡ 1 + length variant.fields + variant_parts variants
next_parts variant variants = sum_by-cons (λ (v : VariantDef). 1 + length v.fields) variant variants

fewer_variants : (variants : List VariantDef) → length variants ≤ variant_parts variants
fewer_variants [] = omega arith
fewer_variants (variant ∷ variants) = let rest = fewer_variants variants in let all = next_parts variant variants in omega arith

fewer_fields : (variants : List VariantDef) (i : ℕ) (found : VariantDef) → slice_get variants i ≡ Some found → length found.fields ≤ variant_parts variants
fewer_fields [] i found is = cc
fewer_fields (variant ∷ variants) zero found is =
    let same : variant ≡ found = cc in
    let all = next_parts variant variants in
    let len : length variant.fields ≡ length found.fields = ap (λ (v : VariantDef). length v.fields) same in
    omega arith
fewer_fields (variant ∷ variants) (suc i) found is =
    let rest = fewer_fields variants i found is in
    let all = next_parts variant variants in
    omega arith

variants_are_parts : (def : Def) → variant_parts (variants_of def) ≤ part_count def
variants_are_parts (Def.Struct struct) = omega arith
variants_are_parts (Def.Enum enum) = omega arith
variants_are_parts (Def.Scalar kind) = omega arith
variants_are_parts Def.Str = omega arith
variants_are_parts Def.Opaque = omega arith
variants_are_parts (Def.Option t) = omega arith
variants_are_parts (Def.Result t e) = omega arith
variants_are_parts (Def.List t) = omega arith
variants_are_parts (Def.Map k v) = omega arith
variants_are_parts (Def.Set t) = omega arith
variants_are_parts (Def.Array t n) = omega arith
variants_are_parts (Def.Pointer pointer) = omega arith
variants_are_parts (Def.Slice t) = omega arith
variants_are_parts Def.Dynamic = omega arith
variants_are_parts Def.Undefined = omega arith
variants_are_parts Def.Other = omega arith

parts_counted : (table : Table) (id : ℕ) → part_count (def_of table id) ≤ part_total table
parts_counted [] id = omega arith
parts_counted (shape ∷ shapes) zero =
    let all = sum_by-cons (λ (s : Shape). part_count s.def) shape shapes in
    omega arith
parts_counted (shape ∷ shapes) (suc id) =
    let rest = parts_counted shapes id in
    let all = sum_by-cons (λ (s : Shape). part_count s.def) shape shapes in
    omega arith

few_numbered : (table : Table) → length table ≤ SHAPE_LIMIT → part_total table ≤ PART_LIMIT → IsNumbered table
few_numbered table shapes parts = record {
  shapes = omega arith;
  fields = λ id.
      let here = fields_are_parts (def_of table id) in
      let counted = parts_counted table id in
      omega arith;
  variants = λ id.
      let fewer = fewer_variants (variants_of (def_of table id)) in
      let here = variants_are_parts (def_of table id) in
      let counted = parts_counted table id in
      omega arith;
  variant_fields = λ id i variant is.
      let fewer = fewer_fields (variants_of (def_of table id)) i variant is in
      let here = variants_are_parts (def_of table id) in
      let counted = parts_counted table id in
      omega arith;
}

-- Forms.

kept_where : (b : Bool) (n root : ℕ) → cond b (Some n) None ≡ Some root → (b ≡ true) × (n ≡ root)
kept_where true n root is = (refl, cc)
kept_where false n root is = cc

below_limit : (limit n root : ℕ) → below limit n ≡ Some root → root < limit
below_limit limit n root is =
    let kept = kept_where (nat_lt n limit) n root is in
    let small = ltb-true n limit kept.0 in
    let same = kept.1 in
    omega arith

root_within : (shapes : ℕ) (d : Data) (root : ℕ) → root_form shapes d ≡ Ok root → root < shapes
unfolding root_form
root_within shapes d root is =
    let number = passed (broken DocPlace.Root (whole_number d)) _ root is in
    below_limit shapes number.0 root (found (below shapes number.0) (DocFault.BadForm DocPlace.Root) root number.2)

same_document : (made document : Document) (P : Document → Type 0) → ◌≡◌ {A = Result Document DocFault} (Ok made) (Ok document) → P made → P document
same_document made document P is holds = let same : made ≡ document = cc in subst P same holds

root_known : (d : Data) (document : Document) → document_form d ≡ Ok document → IsIn document.shapes document.root
unfolding document_form
root_known d document is =
    let members = passed (broken DocPlace.Document (members_form d)) _ document is in
    let shapes = passed (shapes_form members.0.shapes) _ document members.2 in
    let root = passed (root_form (length shapes.0) members.0.root) _ document shapes.2 in
    let tokens = passed (tokens_form members.0.tokens) _ document root.2 in
    let script = passed (script_form members.0.commands) _ document tokens.2 in
    same_document _ document (λ read. IsIn read.shapes read.root) script.2
    (root_within (length shapes.0) members.0.root root.0 root.1)

-- The script.

none_invalid : (found : Option ℕ) (u : Unit {0}) → invalid found ≡ Ok u → found ≡ None
none_invalid None u is = refl
none_invalid (Some i) u is = cc

script_known : (document : Document) (u : Unit {0}) → script_passes document ≡ Ok u → IsValid document.shapes document.script (replicate document.tokens 0)
unfolding script_passes
script_known document u is =
    valid_where_none_invalid (replicate document.tokens 0) document.shapes document.script
    (none_invalid (first_invalid document.shapes (replicate document.tokens 0) [] 0 document.script) u is)

-- All together.

pub document_in_order : (bytes : List ℕ) (document : Document) → document_of bytes ≡ Ok document → IsInOrder document
unfolding document_of
document_in_order bytes document is =
    let short = passed (at_most DOCUMENT_LIMIT (length bytes) DocFault.TooLong) _ document is in
    let tree = passed (ok_or (tree_of bytes) DocFault.NotJson) _ document short.2 in
    let float = passed (asks (not (has_float tree.0)) DocFault.HasFloat) _ document tree.2 in
    let form = passed (document_form tree.0) _ document float.2 in
    let sizes = passed (sizes_pass form.0) _ document form.2 in
    let rules = passed (rules_pass form.0.shapes) _ document sizes.2 in
    let script = passed (script_passes form.0) _ document rules.2 in
    let few = sizes_known form.0 sizes.0 sizes.1 in
    same_document form.0 document IsInOrder script.2 (record {
      checked = passes_checked form.0.shapes rules.0 rules.1;
      rooted = root_known tree.0 form.0 form.1;
      numbered = few_numbered form.0.shapes few.few_shapes few.few_parts;
      few_commands = few.few_calls;
      few_tokens = few.few_tokens;
      valid = script_known form.0 script.0 script.1;
    })
