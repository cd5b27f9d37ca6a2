-- Chunks that are filled from the front: their items, their number, one more item, and an item by its number.
use Rattle.std.proofs.Common.{◌≡◌, ℕ, zero, suc, ◌+◌, ◌-◌, ◌*◌, ◌/◌, ◌%◌, ◌<◌, ◌≤◌, true, false, ltb, List, [], ◌∷◌, ◌++◌, length, get_or, Some, refl, sym, ap, ◌∙◌, subst, append_assoc, length-append, arith}
use Rattle.std.specs.Int.{div_ceil}
use Rattle.std.specs.List.{FoldsTo, slice_get, slice_set as set_at}
use Rattle.std.specs.Vec.{vec_capacity}
use Rattle.std.proofs.Math.Nat.{suc-mul, lt_of_mul-lt-mul_right}
use Rattle.std.proofs.lemmas.Bool.{ltb-true, ltb-false}
use Rattle.std.proofs.lemmas.Grind.{div_ceil_times}
use Rattle.std.proofs.lemmas.List.{append-nil, get_or_append_left, get_or-append_right}
use Rattle.std.proofs.lemmas.Nat.{div-add-mod', mod_below}
use Rattle.std.proofs.lemmas.Option.{slice_get_read}
use Rattle.fr_arena.specs.Chunks.{Chunk, EndsWithChunk, items_of, is_open, AreFilled}
use Rattle.fr_arena.specs.Ropes.{Rope, rope_of, with_item}

-- one number of parts of this size covers the count, and one less does not
one_cover : (a b count size : ℕ) → count ≤ a * size → a * size < count + size → count ≤ b * size → b * size < count + size → a ≡ b
one_cover a b count size a_up a_low b_up b_low =
    let next_b : suc b * size ≡ b * size + size = suc-mul b size in
    let next_a : suc a * size ≡ a * size + size = suc-mul a size in
    let below : a < suc b = lt_of_mul-lt-mul_right size (omega arith) in
    let above : b < suc a = lt_of_mul-lt-mul_right size (omega arith) in
    omega arith

-- an item behind the first part lies in the parts that follow
more_left : (size q r count : ℕ) → suc q * size + r < count → q * size + r < count - size
more_left size q r count below =
    let more : suc q * size ≡ q * size + size = suc-mul q size in
    omega arith

module _ {T : Type 0} where
  -- ---- the last chunk

  step_in : (chunk next : Chunk T) (chunks : List (Chunk T)) → length (chunk ∷ next ∷ chunks) - 1 ≡ suc (length (next ∷ chunks) - 1)
  step_in chunk next chunks = omega arith

  last_of : (chunk next : Chunk T) (chunks : List (Chunk T)) (last : Chunk T) → last ≡ get_or (chunk ∷ next ∷ chunks) (length (chunk ∷ next ∷ chunks) - 1) last
      → last ≡ get_or (next ∷ chunks) (length (next ∷ chunks) - 1) last
  last_of chunk next chunks last is = is ∙ ap (λ k. get_or (chunk ∷ next ∷ chunks) k last) (step_in chunk next chunks)

  -- the test looks at the last chunk
  pub open_by_last : (size : ℕ) (chunks : List (Chunk T)) (last : Chunk T) → 0 < length chunks → last ≡ get_or chunks (length chunks - 1) last → ltb (length last.items) size ≡ is_open size chunks
  open_by_last size [] last some is = absurd (omega arith)
  open_by_last size (chunk ∷ []) last some is = ap (λ (c : Chunk T). ltb (length c.items) size) is
  open_by_last size (chunk ∷ next ∷ chunks) last some is = open_by_last size (next ∷ chunks) last (omega arith) (last_of chunk next chunks last is)

module _ {T : Type 0} (size : ℕ) (positive : 0 < size) where
  -- ---- how many items, and how many chunks

  covered : (count : ℕ) (chunks : List (Chunk T)) → AreFilled size count chunks → (count ≤ length chunks * size) × (length chunks * size < count + size)
  covered count [] filled = (omega arith, omega arith)
  covered count (chunk ∷ []) filled = (omega arith, omega arith)
  covered count (chunk ∷ next ∷ chunks) filled =
      let rest : (count - size ≤ length (next ∷ chunks) * size) × (length (next ∷ chunks) * size < count - size + size) = covered (count - size) (next ∷ chunks) filled.3 in
      let one_more : length (chunk ∷ next ∷ chunks) * size ≡ length (next ∷ chunks) * size + size = suc-mul (length (next ∷ chunks)) size in
      let more : 0 < count - size = filled.3.0 in
      (omega arith, omega arith)

  pub chunks-count : (count : ℕ) (chunks : List (Chunk T)) → AreFilled size count chunks → length chunks ≡ div_ceil count size
  chunks-count count chunks filled =
      let here : (count ≤ length chunks * size) × (length chunks * size < count + size) = covered count chunks filled in
      let there : (count ≤ div_ceil count size * size) × (div_ceil count size * size < count + size) = div_ceil_times count size positive in
      one_cover (length chunks) (div_ceil count size) count size here.0 here.1 there.0 there.1

  pub rope_chunks : (count marked n : ℕ) (chunks : List (Chunk T)) (rope : Rope T) → rope_of (items_of chunks) marked size ≡ rope
      → AreFilled size count chunks → count ≡ length (items_of chunks) → n ≡ length chunks → n ≡ div_ceil (length rope.items) rope.chunk_size
  rope_chunks count marked n chunks rope view filled counted is =
      subst (λ (r : Rope T). n ≡ div_ceil (length r.items) r.chunk_size) view (is ∙ chunks-count count chunks filled ∙ ap (λ k. div_ceil k size) counted)

  -- ---- one more item

  -- a last chunk that is not full has room
  pub room_in_last : (count : ℕ) (chunks : List (Chunk T)) (last : Chunk T) → AreFilled size count chunks → is_open size chunks ≡ true
      → last ≡ get_or chunks (length chunks - 1) last → length last.items < vec_capacity last
  room_in_last count [] last filled unfilled is = absurd cc
  room_in_last count (chunk ∷ []) last filled unfilled is =
      let below : length chunk.items < size = ltb-true _ _ unfilled in
      let room : length chunk.items < vec_capacity chunk = omega (arith, filled.2) in
      subst (λ (c : Chunk T). length c.items < vec_capacity c) (sym is) room
  room_in_last count (chunk ∷ next ∷ chunks) last filled unfilled is = room_in_last (count - size) (next ∷ chunks) last filled.3 unfilled (last_of chunk next chunks last is)

  -- the last chunk took one more
  pub put_last : (count : ℕ) (chunks : List (Chunk T)) (last new : Chunk T) (item : T) → AreFilled size count chunks → is_open size chunks ≡ true
      → last ≡ get_or chunks (length chunks - 1) last → new.items ≡ last.items ++ item ∷ [] → vec_capacity new ≡ vec_capacity last
      → AreFilled size (count + 1) (set_at chunks (length chunks - 1) new) × (items_of (set_at chunks (length chunks - 1) new) ≡ items_of chunks ++ item ∷ [])
  put_last count [] last new item filled unfilled is grew same = absurd cc
  put_last count (chunk ∷ []) last new item filled unfilled is grew same =
      let below : length chunk.items < size = ltb-true _ _ unfilled in
      let grown : new.items ≡ chunk.items ++ item ∷ [] = grew ∙ ap (λ (c : Chunk T). c.items ++ item ∷ []) is in
      let longer : length new.items ≡ length chunk.items + 1 = ap length grown ∙ length-append chunk.items (item ∷ []) in
      let capacity : vec_capacity new ≡ size = same ∙ ap (λ (c : Chunk T). vec_capacity c) is ∙ filled.2 in (
        (omega arith, omega (arith, filled.1), capacity, omega (arith, filled.1, filled.3)),
        append-nil new.items ∙ grown ∙ ap (λ xs. xs ++ item ∷ []) (sym (append-nil chunk.items)),
      )
  put_last count (chunk ∷ next ∷ chunks) last new item filled unfilled is grew same =
      let rest = put_last (count - size) (next ∷ chunks) last new item filled.3 unfilled (last_of chunk next chunks last is) grew same in
      let more : 0 < count - size = filled.3.0 in
      let taken : count + 1 - size ≡ count - size + 1 = omega arith in
      let place : set_at (chunk ∷ next ∷ chunks) (length (chunk ∷ next ∷ chunks) - 1) new ≡ chunk ∷ set_at (next ∷ chunks) (length (next ∷ chunks) - 1) new
      = ap (λ k. set_at (chunk ∷ next ∷ chunks) k new) (step_in chunk next chunks) in
      let filled_rest : AreFilled size (count + 1 - size) (set_at (next ∷ chunks) (length (next ∷ chunks) - 1) new) = subst (λ n. AreFilled size n (set_at (next ∷ chunks) (length (next ∷ chunks) - 1) new)) (sym taken) rest.0 in (
        subst (AreFilled size (count + 1)) (sym place) (omega arith, omega (arith, filled.1), filled.2, filled_rest),
        ap items_of place ∙ ap (λ xs. chunk.items ++ xs) rest.1 ∙ sym (append_assoc chunk.items _ _),
      )

  -- a new chunk took it, where the last one is full
  pub put_new : (count : ℕ) (chunks : List (Chunk T)) (new : Chunk T) (item : T) → AreFilled size count chunks → is_open size chunks ≡ false
      → new.items ≡ item ∷ [] → vec_capacity new ≡ size
      → AreFilled size (count + 1) (chunks ++ new ∷ []) × (items_of (chunks ++ new ∷ []) ≡ items_of chunks ++ item ∷ [])
  put_new count [] new item filled full made room =
      let one : length new.items ≡ 1 = ap length made in
      ((omega arith, omega arith, room, omega arith), append-nil new.items ∙ made)
  put_new count (chunk ∷ []) new item filled full made room =
      let one : length new.items ≡ 1 = ap length made in
      let all : size ≤ length chunk.items = ltb-false _ _ full in (
        (omega arith, omega (arith, filled.1), filled.2, (omega (arith, filled.1, filled.3), omega (arith, filled.1, filled.3), room, omega (arith, filled.1, filled.3))),
        ap (λ xs. chunk.items ++ xs) (append-nil new.items ∙ made) ∙ ap (λ xs. xs ++ item ∷ []) (sym (append-nil chunk.items)),
      )
  put_new count (chunk ∷ next ∷ chunks) new item filled full made room =
      let rest = put_new (count - size) (next ∷ chunks) new item filled.3 full made room in
      let more : 0 < count - size = filled.3.0 in
      let taken : count + 1 - size ≡ count - size + 1 = omega arith in
      let filled_rest : AreFilled size (count + 1 - size) (next ∷ chunks ++ new ∷ []) = subst (λ n. AreFilled size n (next ∷ chunks ++ new ∷ [])) (sym taken) rest.0 in (
        (omega arith, omega (arith, filled.1), filled.2, filled_rest),
        ap (λ xs. chunk.items ++ xs) rest.1 ∙ sym (append_assoc chunk.items _ _),
      )

  -- ---- what `push` leaves

  -- the fields after one more item
  pub record Grown (count marked : ℕ) (chunks : List (Chunk T)) (before : Rope T) (item : T) : Type 0 where
    pub filled : AreFilled size (count + 1) chunks
    pub counted : count + 1 ≡ length (items_of chunks)
    pub view : rope_of (items_of chunks) marked size ≡ with_item before item

  grown : (count marked : ℕ) (chunks new : List (Chunk T)) (before : Rope T) (item : T) → rope_of (items_of chunks) marked size ≡ before → count ≡ length (items_of chunks)
      → AreFilled size (count + 1) new × (items_of new ≡ items_of chunks ++ item ∷ []) → Grown count marked new before item
  grown count marked chunks new before item view counted put = record {
    filled = put.0;
    counted = sym (ap length put.1 ∙ length-append (items_of chunks) (item ∷ []) ∙ ap (λ n. n + 1) (sym counted));
    view = ap (λ xs. rope_of xs marked size) put.1 ∙ ap (λ r. with_item r item) view;
  }

  pub grown_last : (count marked place : ℕ) (chunks : List (Chunk T)) (last new : Chunk T) (before : Rope T) (item : T) → rope_of (items_of chunks) marked size ≡ before
      → AreFilled size count chunks → count ≡ length (items_of chunks) → is_open size chunks ≡ true
      → place ≡ length chunks - 1 → last ≡ get_or chunks place last → new.items ≡ last.items ++ item ∷ [] → vec_capacity new ≡ vec_capacity last
      → Grown count marked (set_at chunks place new) before item
  grown_last count marked place chunks last new before item view filled counted unfilled at is grew same =
      let put = put_last count chunks last new item filled unfilled (is ∙ ap (λ k. get_or chunks k last) at) grew same in
      subst (λ k. Grown count marked (set_at chunks k new) before item) (sym at) (grown count marked chunks _ before item view counted put)

  pub grown_new : (count marked : ℕ) (chunks new : List (Chunk T)) (before : Rope T) (item : T) → rope_of (items_of chunks) marked size ≡ before
      → AreFilled size count chunks → count ≡ length (items_of chunks) → is_open size chunks ≡ false → EndsWithChunk chunks new size item
      → Grown count marked new before item
  grown_new count marked chunks new before item view filled counted full ends =
      let put = put_new count chunks ends.chunk item filled full ends.holds ends.room in
      subst (λ cs. Grown count marked cs before item) (sym ends.added) (grown count marked chunks _ before item view counted put)

  -- ---- an item by its number: the item number q * size + r is item r of chunk q

  chunk_there : (q r count : ℕ) (chunks : List (Chunk T)) → AreFilled size count chunks → q * size + r < count → q < length chunks
  chunk_there q r count [] filled below = absurd (omega arith)
  chunk_there zero r count (first ∷ chunks) filled below = omega arith
  chunk_there (suc q) r count (first ∷ chunks) filled below =
      let rest : q < length chunks = chunk_there q r (count - size) chunks filled.3 (more_left size q r count below) in
      omega arith

  item_there : (q r count : ℕ) (chunks : List (Chunk T)) (chunk : Chunk T) → AreFilled size count chunks → r < size → q * size + r < count
      → chunk ≡ get_or chunks q chunk → r < length chunk.items
  item_there q r count [] chunk filled within below is = absurd (omega arith)
  item_there zero r count (first ∷ chunks) chunk filled within below is =
      let long : r < length first.items = omega (arith, filled.1) in
      subst (λ (c : Chunk T). r < length c.items) (sym is) long
  item_there (suc q) r count (first ∷ chunks) chunk filled within below is =
      item_there q r (count - size) chunks chunk filled.3 within (more_left size q r count below) is

  item_at : (q r count : ℕ) (chunks : List (Chunk T)) (chunk : Chunk T) (d : T) → AreFilled size count chunks → r < size → q * size + r < count
      → chunk ≡ get_or chunks q chunk → get_or (items_of chunks) (q * size + r) d ≡ get_or chunk.items r d
  item_at q r count [] chunk d filled within below is = absurd (omega arith)
  item_at zero r count (first ∷ chunks) chunk d filled within below is =
      let long : r < length first.items = omega (arith, filled.1) in
      let at : zero * size + r ≡ r = omega arith in
      ap (λ k. get_or (first.items ++ items_of chunks) k d) at ∙ get_or_append_left first.items (items_of chunks) d r long ∙ ap (λ (c : Chunk T). get_or c.items r d) (sym is)
  item_at (suc q) r count (first ∷ chunks) chunk d filled within below is =
      let more : suc q * size ≡ q * size + size = suc-mul q size in
      let full : length first.items ≡ size = omega (arith, filled.1) in
      let at : suc q * size + r - size ≡ q * size + r = omega arith in
      get_or-append_right first.items (items_of chunks) size (suc q * size + r) d full (omega arith) ∙ ap (λ k. get_or (items_of chunks) k d) at
      ∙ item_at q r (count - size) chunks chunk d filled.3 within (more_left size q r count below) is

  -- ---- what `get` finds

  module _ (count marked i : ℕ) (chunks : List (Chunk T)) (rope : Rope T) (view : rope_of (items_of chunks) marked size ≡ rope)
      (filled : AreFilled size count chunks) (counted : count ≡ length (items_of chunks)) (inside : i < length rope.items) where
    within : i % size < size
    within = mod_below i size positive

    below : i / size * size + i % size < count
    below =
        let split : i / size * size + i % size ≡ i = div-add-mod' i size in
        let long : length (items_of chunks) ≡ length rope.items = ap (λ (r : Rope T). length r.items) view in
        omega arith

    pub chunk_of_item : i / size < length chunks
    chunk_of_item = chunk_there (i / size) (i % size) count chunks filled below

    pub place_of_item : (chunk : Chunk T) → chunk ≡ get_or chunks (i / size) chunk → i % size < length chunk.items
    place_of_item chunk is = item_there (i / size) (i % size) count chunks chunk filled within below is

    pub found_item : (chunk : Chunk T) (item : T) → chunk ≡ get_or chunks (i / size) chunk → item ≡ get_or chunk.items (i % size) item
        → slice_get rope.items i ≡ Some item
    found_item chunk item is found =
        let here : get_or (items_of chunks) (i / size * size + i % size) item ≡ get_or chunk.items (i % size) item = item_at (i / size) (i % size) count chunks chunk item filled within below is in
        let there : get_or (items_of chunks) i item ≡ get_or (items_of chunks) (i / size * size + i % size) item = ap (λ k. get_or (items_of chunks) k item) (sym (div-add-mod' i size)) in
        let same : get_or (items_of chunks) i item ≡ get_or rope.items i item = ap (λ (r : Rope T). get_or r.items i item) view in
        slice_get_read rope.items (length rope.items) i item refl inside (found ∙ sym here ∙ sym there ∙ same)

-- ---- the calls at the items of one chunk after another

pub calls_joined : {P A : Type 0} (R : P → A → P → Type 0) (xs ys : List A) (p q last : P) → FoldsTo R p xs q → FoldsTo R q ys last → FoldsTo R p (xs ++ ys) last
calls_joined R [] ys p q last here there = subst (λ s. FoldsTo R s ys last) (sym here) there
calls_joined R (x ∷ xs) ys p q last here there = (here.0, here.1, calls_joined R xs ys here.0 q last here.2 there)
