-- Looking for a type that is made of others: by the shapes of its parts, where they are there.
use Rattle.std.proofs.Common.{◌≡◌, ℕ, ◌+◌, Bool, false, List, [], ◌∷◌, Option, None, refl, sym, ap, ◌∙◌}
use Rattle.std.specs.List.{position_from}
use Rattle.std.proofs.lemmas.Iterator.Adapters.{position_from-zero}
use Rattle.fr_shape.specs.declared.shape.Def.{Def}
use Rattle.fr_shape.specs.declared.shape.Shape.{Shape}
use Rattle.fr_shape.specs.Look.{Table}
use Rattle.fr_facet.specs.Facets.{first_own}
use Rattle.fr_facet.specs.Nameable.{nameable}

none_from : (shapes : List Shape) (i : ℕ) → position_from (λ (shape : Shape). false) i shapes ≡ None
none_from [] i = refl
none_from (shape ∷ shapes) i = none_from shapes (i + 1)

-- no shape passes a test that nothing passes
pub first_of_none : (table : Table) (test : Def → Bool) → ((def : Def) → test def ≡ false) → first_own (λ _ def. test def) table ≡ None
first_of_none table test fails =
    simp fails
    (position_from-zero (λ (shape : Shape). false) (nameable table) ∙ none_from (nameable table) 0)

-- `test` says which definitions are the type's own, by the number of the part's shape
module _ (test : Option ℕ → Def → Bool) (part : Table → Def → Bool) (table : Table) where
  pub part_found : (id found : Option ℕ) → id ≡ first_own part table → found ≡ first_own (λ _ def. test id def) table
      → found ≡ first_own (λ table def. test (first_own part table) def) table
  part_found id found is first = first ∙ ap (λ (o : Option ℕ). first_own (λ _ def. test o def) table) is

  pub part_missing : ((def : Def) → test None def ≡ false) → None ≡ first_own part table
      → None ≡ first_own (λ table def. test (first_own part table) def) table
  part_missing fails is = part_found None None is (sym (first_of_none table (test None) fails))

-- the same of a type that is made of two
module _ (test : Option ℕ → Option ℕ → Def → Bool) (part other : Table → Def → Bool) (table : Table) where
  abbrev both_parts : Table → Def → Bool
  both_parts table def = test (first_own part table) (first_own other table) def

  pub parts_found : (id second found : Option ℕ) → id ≡ first_own part table → second ≡ first_own other table
      → found ≡ first_own (λ _ def. test id second def) table → found ≡ first_own both_parts table
  parts_found id second found is is_second first =
      first
      ∙ ap (λ (o : Option ℕ). first_own (λ _ def. test o second def) table) is
      ∙ ap (λ (o : Option ℕ). first_own (λ _ def. test (first_own part table) o def) table) is_second

  pub parts_missing : (id second : Option ℕ) → id ≡ first_own part table → second ≡ first_own other table
      → ((def : Def) → test id second def ≡ false) → None ≡ first_own both_parts table
  parts_missing id second is is_second fails =
      parts_found id second None is is_second (sym (first_of_none table (test id second) fails))
