-- How a rope lies in chunks. No public clause cites this module.
use Rattle.std.specs.Prelude.{◌≡◌, ℕ, ◌-◌, ◌<◌, min, Bool, false, ltb, List, [], ◌∷◌, ◌++◌, length, vec_capacity}
use Rattle.std.specs.List.{flat_map}
use Rattle.std.specs.declared.vec.Vec.{Vec}
use Rattle.std.specs.declared.alloc.Global.{Global}

-- a chunk of a rope
abbrev pub Chunk : Type 0 → Type 0
Chunk T = Vec T Global

module _ {T : Type 0} where
  -- the items of the chunks, one chunk after another
  abbrev pub items_of : List (Chunk T) → List T
  items_of chunks = flat_map (λ (chunk : Chunk T). chunk.items) chunks

  -- the last chunk takes one more item
  abbrev pub is_open : ℕ → List (Chunk T) → Bool
  is_open size [] = false
  is_open size (chunk ∷ []) = ltb (length chunk.items) size
  is_open size (chunk ∷ next ∷ chunks) = is_open size (next ∷ chunks)

  -- so many items fill chunks of this capacity from the front, and no chunk is empty
  abbrev pub AreFilled : ℕ → ℕ → List (Chunk T) → Type 0
  AreFilled size count [] = count ≡ 0
  AreFilled size count (chunk ∷ chunks) = (0 < count) × (length chunk.items ≡ min size count) × (vec_capacity chunk ≡ size)
      × AreFilled size (count - size) chunks

  -- there is one more chunk, of this capacity, which holds this item alone
  pub record EndsWithChunk (old new : List (Chunk T)) (size : ℕ) (item : T) : Type 0 where
    pub chunk : Chunk T
    pub added : new ≡ old ++ chunk ∷ []
    pub holds : chunk.items ≡ item ∷ []
    pub room : vec_capacity chunk ≡ size
