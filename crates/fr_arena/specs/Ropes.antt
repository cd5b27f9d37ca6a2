-- What contracts see of a rope.
use Rattle.std.specs.Prelude.{ℕ, List, [], ◌∷◌, ◌++◌, refl}
use Rattle.std.specs.Coded.{Coded, code_by, coded×, coded_ℕ, coded_list}

-- the items in order, how many of the first are marked, and how many items a chunk takes
pub record Rope (T : Type 0) : Type 0 where
  pub items : List T
  pub marked : ℕ
  pub chunk_size : ℕ

-- a rope is stored as the tuple of its fields
abbrev pub rope_code : {T : Type 0} → Coded T → Coded (Rope T)
rope_code {T} code =
    code_by (List T × (ℕ × ℕ)) (coded× (coded_list code) (coded× coded_ℕ coded_ℕ)) (λ r. (r.items, (r.marked, r.chunk_size))) (λ p. record { items = p.0; marked = p.1.0; chunk_size = p.1.1 }) (λ _. refl)

-- a rope of these items, so many of them marked, with chunks of this size
abbrev pub rope_of : {T : Type 0} → List T → ℕ → ℕ → Rope T
rope_of items marked size = record { items = items; marked = marked; chunk_size = size }

-- a rope of no items
abbrev pub empty_rope : {T : Type 0} → ℕ → Rope T
empty_rope size = rope_of [] 0 size

-- the rope with one more item
abbrev pub with_item : {T : Type 0} → Rope T → T → Rope T
with_item r item = record r { items = r.items ++ item ∷ [] }
