-- Groups that keys lead through, and the keys of a field there.
use Rattle.std.proofs.Common.{◌≡◌, ℕ, ◌<◌, ◌≤◌, ◌==◌, Bool, true, false, cond, eqb, ◌&&◌, ◌||◌, List, [], ◌∷◌, ◌++◌, length, map, Option, Some, None, refl, sym, ◌∙◌, ap, ap₂, subst, arith, append_assoc, append-nil, length-append, lt_irrefl}
use Rattle.std.specs.Prelude.{flat_map, if◌then◌else◌}
use Rattle.std.specs.List.{AllByRecursion, filter, list_any, onto_first, slice_split, starts_with}
use Rattle.std.specs.Option.{option_map_or, option_and_then}
use Rattle.std.specs.Str.{bytes_eq}
use Rattle.std.specs.Cmp.Lexicographic.{unequal}
use Rattle.std.proofs.Math.Bool.{and-false}
use Rattle.std.proofs.lemmas.List.{map-append}
use Rattle.std.proofs.lemmas.List.Folds.{list_any-append}
use Rattle.std.proofs.lemmas.Simd.{map-map}
use Rattle.std.proofs.lemmas.Bool.Decides.{same_from_decides, Decides-like}
use Rattle.std.proofs.lemmas.Slice.Eq.{bytes_eq-Decides}
use Rattle.fr_shape.specs.Look.{Table}
use Rattle.fr_example.specs.declared.missing.Mention.{Mention}
use Rattle.fr_example.specs.Mentions.{is_named, mention_below, mention_here, mentions_from}
use Rattle.fr_example.specs.Missing.{is_group_of, key_in, led_through, shape_below, shape_under}

-- Lists

pub filter-map : {X Y : Type 0} (p : Y → Bool) (f : X → Y) (xs : List X) → filter p (map f xs) ≡ map f (filter (λ x. p (f x)) xs)
filter-map p f [] = refl
filter-map p f (x ∷ xs) = go (filter-map p f xs) (p (f x))
  where
    go : filter p (map f xs) ≡ map f (filter (λ y. p (f y)) xs) → (b : Bool)
        → cond b (f x ∷ filter p (map f xs)) (filter p (map f xs)) ≡ map f (cond b (x ∷ filter (λ y. p (f y)) xs) (filter (λ y. p (f y)) xs))
    go again true = ap (λ ys. f x ∷ ys) again
    go again false = again

pub filter_alike : {X : Type 0} (p q : X → Bool) (xs : List X) → AllByRecursion (λ x. p x ≡ q x) xs → filter p xs ≡ filter q xs
filter_alike p q [] alike = refl
filter_alike p q (x ∷ xs) (e, alike) = ap₂ (λ b ys. cond b (x ∷ ys) ys) e (filter_alike p q xs alike)

pub filter_none : {X : Type 0} (xs : List X) → filter (λ x. false) xs ≡ []
filter_none [] = refl
filter_none (x ∷ xs) = filter_none xs

pub each_map : {X Y : Type 0} (P : Y → Type 0) (f : X → Y) (xs : List X) → AllByRecursion (λ x. P (f x)) xs → AllByRecursion P (map f xs)
each_map P f [] all = tt
each_map P f (x ∷ xs) (so, all) = (so, each_map P f xs all)

pub each_append : {X : Type 0} (P : X → Type 0) (xs ys : List X) → AllByRecursion P xs → AllByRecursion P ys → AllByRecursion P (xs ++ ys)
each_append P [] ys all others = others
each_append P (x ∷ xs) ys (so, all) others = (so, each_append P xs ys all others)

pub each_weaker : {X : Type 0} (P Q : X → Type 0) (xs : List X) → ((x : X) → P x → Q x) → AllByRecursion P xs → AllByRecursion Q xs
each_weaker P Q [] weaker all = tt
each_weaker P Q (x ∷ xs) weaker (so, all) = (weaker x so, each_weaker P Q xs weaker all)

pub each_of : {X : Type 0} (P : X → Type 0) (xs : List X) → ((x : X) → P x) → AllByRecursion P xs
each_of P [] so = tt
each_of P (x ∷ xs) so = (so x, each_of P xs so)

-- what passes a test, of all of which this holds
pub each_passing : {X : Type 0} (P : X → Type 0) (p : X → Bool) (xs : List X) → AllByRecursion P xs
    → AllByRecursion (λ x. P x × (p x ≡ true)) (filter p xs)
each_passing P p [] all = tt
each_passing P p (x ∷ xs) (so, all) = go (each_passing P p xs all) (p x) refl
  where
    go : AllByRecursion (λ y. P y × (p y ≡ true)) (filter p xs) → (b : Bool) → p x ≡ b → AllByRecursion (λ y. P y × (p y ≡ true)) (cond b (x ∷ filter p xs) (filter p xs))
    go again true e = ((so, e), again)
    go again false e = again

pub any_alike : {X : Type 0} (p q : X → Bool) (xs : List X) → AllByRecursion (λ x. p x ≡ q x) xs → list_any p xs ≡ list_any q xs
any_alike p q [] alike = refl
any_alike p q (x ∷ xs) (e, alike) = ap₂ (λ b c. b || c) e (any_alike p q xs alike)

pub any-map : {X Y : Type 0} (p : Y → Bool) (f : X → Y) (xs : List X) → list_any p (map f xs) ≡ list_any (λ x. p (f x)) xs
any-map p f [] = refl
any-map p f (x ∷ xs) = ap (λ b. p (f x) || b) (any-map p f xs)

pub any-flat_map : {X Y : Type 0} (p : Y → Bool) (f : X → List Y) (xs : List X) → list_any p (flat_map f xs) ≡ list_any (λ x. list_any p (f x)) xs
any-flat_map p f [] = refl
any-flat_map p f (x ∷ xs) = list_any-append p (f x) (flat_map f xs) ∙ ap (λ b. list_any p (f x) || b) (any-flat_map p f xs)

pub any_false : {X : Type 0} (p : X → Bool) (xs : List X) → AllByRecursion (λ x. p x ≡ false) xs → list_any p xs ≡ false
any_false p [] all = refl
any_false p (x ∷ xs) (so, all) = ap₂ (λ b c. b || c) so (any_false p xs all)

-- Names without dots

abbrev pub IsDotless : List ℕ → Type 0
IsDotless name = list_any (λ (b : ℕ). b == 46) name ≡ false

abbrev pub AreDotless : List (List ℕ) → Type 0
AreDotless names = AllByRecursion IsDotless names

pub parted_dotless : (bytes : List ℕ) → AreDotless (slice_split (λ b. b == 46) bytes)
parted_dotless [] = (refl, tt)
parted_dotless (b ∷ bytes) = go (b == 46) refl (slice_split (λ (c : ℕ). c == 46) bytes) (parted_dotless bytes)
  where
    go : (dot : Bool) → (b == 46) ≡ dot → (parts : List (List ℕ)) → AreDotless parts → AreDotless (cond dot ([] ∷ parts) (onto_first b parts))
    go true is parts all = (refl, all)
    go false is [] all = (ap (λ (c : Bool). c || false) is, tt)
    go false is (part ∷ parts) (first, all) = (ap₂ (λ (c d : Bool). c || d) is first, all)

pub led_dotless : (names : List (List ℕ)) → AreDotless names → AllByRecursion AreDotless (led_through names)
led_dotless [] all = tt
led_dotless (name ∷ names) (first, all) = (
  tt,
  each_map AreDotless (λ (group : List (List ℕ)). name ∷ group) (led_through names)
      (each_weaker AreDotless (λ (group : List (List ℕ)). AreDotless (name ∷ group)) (led_through names) (λ group so. (first, so)) (led_dotless names all)),
)

later : (b : ℕ) (name : List ℕ) → IsDotless (b ∷ name) → IsDotless name
later b name is = go (b == 46) is
  where
    go : (dot : Bool) → (dot || list_any (λ (c : ℕ). c == 46) name) ≡ false → IsDotless name
    go true e = cc
    go false e = e

-- two texts that begin with names without dots and go on behind a dot
dotted_alike : (n m x y : List ℕ) → IsDotless n → IsDotless m → bytes_eq (n ++ 46 ∷ x) (m ++ 46 ∷ y) ≡ (bytes_eq n m && bytes_eq x y)
dotted_alike [] [] x y n_is m_is = refl
dotted_alike [] (b ∷ m) x y n_is m_is = grind arith
dotted_alike (a ∷ n) [] x y n_is m_is = grind arith
dotted_alike (a ∷ n) (b ∷ m) x y n_is m_is = go (dotted_alike n m x y (later a n n_is) (later b m m_is)) (eqb a b)
  where
    go : bytes_eq (n ++ 46 ∷ x) (m ++ 46 ∷ y) ≡ (bytes_eq n m && bytes_eq x y) → (e : Bool) → (e && bytes_eq (n ++ 46 ∷ x) (m ++ 46 ∷ y)) ≡ ((e && bytes_eq n m) && bytes_eq x y)
    go again true = again
    go again false = refl

-- The keys of a field

-- the keys of the mentions that one list of names brings
pub keys_mentioned : (table : Table) (shape : ℕ) (field : List ℕ) (at : ℕ) (names : List (List ℕ))
    → map (λ (m : Mention). m.key) (mentions_from table shape field at names)
    ≡ map (key_in field) (filter (is_group_of table at shape) (led_through names))
keys_mentioned table shape field at [] = refl
keys_mentioned table shape field at (name ∷ names) = go (λ b. keys_mentioned table shape field b names) (at == shape)
  where
    Again : Type 0
    Again =
        (b : ℕ)
        → map (λ (m : Mention). m.key) (mentions_from table shape field b names)
        ≡ map (key_in field) (filter (is_group_of table b shape) (led_through names))

    below : Again → (o : Option ℕ)
        → map (λ (m : Mention). m.key)
        (option_map_or (λ (b : ℕ). map (mention_below name) (mentions_from table shape field b names)) o [])
        ≡ map (key_in field)
        (map (λ (group : List (List ℕ)). name ∷ group)
        (filter (λ (group : List (List ℕ)). option_map_or (λ (f : ℕ). f == shape) (option_and_then (λ (b : ℕ). shape_under table b group) o) false)
        (led_through names)))
    below again None = sym (ap (λ groups. map (key_in field) (map (λ (group : List (List ℕ)). name ∷ group) groups)) (filter_none (led_through names)))
    below again (Some b) =
        map-map (λ (m : Mention). m.key) (mention_below name) (mentions_from table shape field b names)
        ∙ sym (map-map (λ (key : List ℕ). name ++ 46 ∷ key) (λ (m : Mention). m.key) (mentions_from table shape field b names))
        ∙ ap (map (λ (key : List ℕ). name ++ 46 ∷ key)) (again b)
        ∙ map-map (λ (key : List ℕ). name ++ 46 ∷ key) (key_in field) (filter (is_group_of table b shape) (led_through names))
        ∙ sym (map-map (key_in field) (λ (group : List (List ℕ)). name ∷ group) (filter (is_group_of table b shape) (led_through names)))

    rest : Again → map (λ (m : Mention). m.key)
        (option_map_or (λ (b : ℕ). map (mention_below name) (mentions_from table shape field b names)) (shape_below table at name) [])
        ≡ map (key_in field) (filter (is_group_of table at shape) (map (λ (group : List (List ℕ)). name ∷ group) (led_through names)))
    rest again =
        below again (shape_below table at name)
        ∙ sym (ap (map (key_in field)) (filter-map (is_group_of table at shape) (λ (group : List (List ℕ)). name ∷ group) (led_through names)))

    go : Again → (here : Bool)
        → map (λ (m : Mention). m.key)
        ((if here then record { key = field; named = bytes_eq name field } ∷ [] else [])
        ++ option_map_or (λ (b : ℕ). map (mention_below name) (mentions_from table shape field b names)) (shape_below table at name) [])
        ≡ map (key_in field)
        (cond here ([] ∷ filter (is_group_of table at shape) (map (λ (group : List (List ℕ)). name ∷ group) (led_through names)))
        (filter (is_group_of table at shape) (map (λ (group : List (List ℕ)). name ∷ group) (led_through names))))
    go again true = ap (λ keys. field ∷ keys) (rest again)
    go again false = rest again

-- How long keys are

pub mentions_long : (table : Table) (shape : ℕ) (field : List ℕ) (at : ℕ) (names : List (List ℕ))
    → AllByRecursion (λ (m : Mention). length field ≤ length m.key) (mentions_from table shape field at names)
mentions_long table shape field at [] = tt
mentions_long table shape field at (name ∷ names) =
    each_append (λ (m : Mention). length field ≤ length m.key)
    (mention_here shape at field (bytes_eq name field))
    (option_map_or (λ (b : ℕ). map (mention_below name) (mentions_from table shape field b names)) (shape_below table at name) [])
    (here (at == shape)) (below (λ b. mentions_long table shape field b names) (shape_below table at name))
  where
    here : (b : Bool) → AllByRecursion (λ (m : Mention). length field ≤ length m.key) (if b then record { key = field; named = bytes_eq name field } ∷ [] else [])
    here true = (omega arith, tt)
    here false = tt

    below : ((b : ℕ) → AllByRecursion (λ (m : Mention). length field ≤ length m.key) (mentions_from table shape field b names))
        → (o : Option ℕ) → AllByRecursion (λ (m : Mention). length field ≤ length m.key)
        (option_map_or (λ (b : ℕ). map (mention_below name) (mentions_from table shape field b names)) o [])
    below again None = tt
    below again (Some b) =
        each_map (λ (m : Mention). length field ≤ length m.key) (mention_below name) (mentions_from table shape field b names)
        (each_weaker (λ (m : Mention). length field ≤ length m.key) (λ (m : Mention). length field ≤ length (name ++ 46 ∷ m.key))
        (mentions_from table shape field b names) (λ m so. omega (arith, so, length-append name (46 ∷ m.key)))
        (again b))

key_long : (field : List ℕ) (group : List (List ℕ)) → length field ≤ length (key_in field group)
key_long field [] = omega arith
key_long field (name ∷ group) = omega (arith, key_long field group, length-append name (46 ∷ key_in field group))

unlike : (xs ys : List ℕ) → length xs < length ys → (bytes_eq xs ys ≡ false) × (bytes_eq ys xs ≡ false)
unlike xs ys shorter = (
  unequal eqb xs ys (λ e. lt_irrefl (length ys) (subst (λ n. n < length ys) e shorter)),
  unequal eqb ys xs (λ e. lt_irrefl (length ys) (subst (λ n. n < length ys) (sym e) shorter)),
)

-- Whether the field is named

and_true : (a b : Bool) → b ≡ true → ((a && b) || false) ≡ a
and_true true b e = ap (λ (c : Bool). c || false) e
and_true false b e = refl

symmetric : (xs ys : List ℕ) → bytes_eq xs ys ≡ bytes_eq ys xs
symmetric xs ys =
    same_from_decides (bytes_eq xs ys) (bytes_eq ys xs) (bytes_eq-Decides xs ys)
    (Decides-like (bytes_eq ys xs) (λ e. sym e) (λ e. sym e) (bytes_eq-Decides ys xs))

-- the mentions that a key's names bring name the field in a group where the key goes on with the field's name
pub named_there : (table : Table) (shape : ℕ) (field : List ℕ) (at : ℕ) (names group : List (List ℕ)) → AreDotless names → AreDotless group
    → is_group_of table at shape group ≡ true
    → is_named (mentions_from table shape field at names) (key_in field group) ≡ starts_with bytes_eq names (group ++ field ∷ [])
named_there table shape field at [] [] names_are group_are found = refl
named_there table shape field at [] (m ∷ group) names_are group_are found = refl
named_there table shape field at (name ∷ names) [] names_are group_are found =
    list_any-append (λ (m : Mention). m.named && bytes_eq m.key field)
    (mention_here shape at field (bytes_eq name field))
    (option_map_or (λ (b : ℕ). map (mention_below name) (mentions_from table shape field b names)) (shape_below table at name) [])
    ∙ ap₂ (λ (b c : Bool). b || c) (here (at == shape) found) (below (shape_below table at name))
    ∙ last (bytes_eq field name)
  where
    here : (b : Bool) → b ≡ true
        → list_any (λ (m : Mention). m.named && bytes_eq m.key field) (if b then record { key = field; named = bytes_eq name field } ∷ [] else [])
        ≡ bytes_eq field name
    here false e = cc
    here true e =
        and_true (bytes_eq name field) (bytes_eq field field) ((bytes_eq-Decides field field).1 refl) ∙ symmetric name field

    below : (o : Option ℕ)
        → list_any (λ (m : Mention). m.named && bytes_eq m.key field)
        (option_map_or (λ (b : ℕ). map (mention_below name) (mentions_from table shape field b names)) o []) ≡ false
    below None = refl
    below (Some b) =
        any-map (λ (m : Mention). m.named && bytes_eq m.key field) (mention_below name) (mentions_from table shape field b names)
        ∙ any_false (λ (m : Mention). m.named && bytes_eq (name ++ 46 ∷ m.key) field) (mentions_from table shape field b names)
        (each_weaker (λ (m : Mention). length field ≤ length m.key) (λ (m : Mention). (m.named && bytes_eq (name ++ 46 ∷ m.key) field) ≡ false)
        (mentions_from table shape field b names)
        (λ m so. ap (λ (c : Bool). m.named && c)
        (let longer : length field < length (name ++ 46 ∷ m.key) = omega (arith, so, length-append name (46 ∷ m.key)) in (unlike field (name ++ 46 ∷ m.key) longer).1)
        ∙ and-false m.named)
        (mentions_long table shape field b names))

    last : (b : Bool) → (b || false) ≡ (b && true)
    last true = refl
    last false = refl
named_there table shape field at (name ∷ names) (m ∷ group) (name_is, names_are) (m_is, group_are) found =
    list_any-append (λ (k : Mention). k.named && bytes_eq k.key (m ++ 46 ∷ key_in field group))
    (mention_here shape at field (bytes_eq name field))
    (option_map_or (λ (b : ℕ). map (mention_below name) (mentions_from table shape field b names)) (shape_below table at name) [])
    ∙ ap₂ (λ (b c : Bool). b || c) (here (at == shape))
    (below (λ b so. named_there table shape field b names group names_are group_are so) (shape_below table at name) refl)
  where
    shorter : length field < length (m ++ 46 ∷ key_in field group)
    shorter = omega (arith, key_long field group, length-append m (46 ∷ key_in field group))

    here : (b : Bool)
        → list_any (λ (k : Mention). k.named && bytes_eq k.key (m ++ 46 ∷ key_in field group))
        (if b then record { key = field; named = bytes_eq name field } ∷ [] else [])
        ≡ false
    here false = refl
    here true =
        ap (λ (c : Bool). (bytes_eq name field && c) || false) (unlike field (m ++ 46 ∷ key_in field group) shorter).0
        ∙ ap (λ (c : Bool). c || false) (and-false (bytes_eq name field))

    leads : (o : Option ℕ) → shape_below table at m ≡ o
        → option_map_or (λ (f : ℕ). f == shape) (option_and_then (λ (b : ℕ). shape_under table b group) o) false ≡ true
    leads o is =
        sym (ap (λ (p : Option ℕ). option_map_or (λ (f : ℕ). f == shape) (option_and_then (λ (b : ℕ). shape_under table b group) p) false) is) ∙ found

    Again : Type 0
    Again =
        (b : ℕ) → is_group_of table b shape group ≡ true
        → is_named (mentions_from table shape field b names) (key_in field group) ≡ starts_with bytes_eq names (group ++ field ∷ [])

    alike : Again → (b : ℕ) → shape_below table at name ≡ Some b → (same : Bool) → bytes_eq name m ≡ same
        → list_any (λ (k : Mention). k.named && (same && bytes_eq k.key (key_in field group))) (mentions_from table shape field b names)
        ≡ (same && starts_with bytes_eq names (group ++ field ∷ []))
    alike again b is true e =
        again b
        (leads (Some b) (ap (shape_below table at) (sym ((bytes_eq-Decides name m).0 e)) ∙ is))
    alike again b is false e =
        any_false (λ (k : Mention). k.named && false) (mentions_from table shape field b names)
        (each_of (λ (k : Mention). (k.named && false) ≡ false) (mentions_from table shape field b names) (λ k. and-false k.named))

    none : (same : Bool) → bytes_eq m name ≡ same → shape_below table at name ≡ None
        → false ≡ (same && starts_with bytes_eq names (group ++ field ∷ []))
    none false e is = refl
    none true e is =
        let led : false ≡ true = leads None (ap (shape_below table at) ((bytes_eq-Decides m name).0 e) ∙ is) in cc

    below : Again → (o : Option ℕ) → shape_below table at name ≡ o
        → list_any (λ (k : Mention). k.named && bytes_eq k.key (m ++ 46 ∷ key_in field group))
        (option_map_or (λ (b : ℕ). map (mention_below name) (mentions_from table shape field b names)) o [])
        ≡ (bytes_eq m name && starts_with bytes_eq names (group ++ field ∷ []))
    below again None is = none (bytes_eq m name) refl is
    below again (Some b) is =
        any-map (λ (k : Mention). k.named && bytes_eq k.key (m ++ 46 ∷ key_in field group)) (mention_below name)
        (mentions_from table shape field b names)
        ∙ any_alike (λ (k : Mention). k.named && bytes_eq (name ++ 46 ∷ k.key) (m ++ 46 ∷ key_in field group))
        (λ (k : Mention). k.named && (bytes_eq name m && bytes_eq k.key (key_in field group))) (mentions_from table shape field b names)
        (each_of
        (λ (k : Mention). (k.named && bytes_eq (name ++ 46 ∷ k.key) (m ++ 46 ∷ key_in field group))
        ≡ (k.named && (bytes_eq name m && bytes_eq k.key (key_in field group))))
        (mentions_from table shape field b names)
        (λ k. ap (λ (c : Bool). k.named && c) (dotted_alike name m k.key (key_in field group) name_is m_is)))
        ∙ alike again b is (bytes_eq name m) refl
        ∙ ap (λ (c : Bool). c && starts_with bytes_eq names (group ++ field ∷ [])) (symmetric name m)

-- Mentions behind what was gone through

-- the same mention, with this in front of its key
abbrev pub mention_behind : (before : List ℕ) → Mention → Mention
mention_behind before mention = record { key = before ++ mention.key; named = mention.named }

behind_nothing : (mentions : List Mention) → map (mention_behind []) mentions ≡ mentions
behind_nothing [] = refl
behind_nothing (mention ∷ mentions) = ap (λ (ms : List Mention). mention ∷ ms) (behind_nothing mentions)

behind_more : (before name : List ℕ) (mentions : List Mention)
    → map (mention_behind before) (map (mention_below name) mentions) ≡ map (mention_behind ((before ++ name) ++ 46 ∷ [])) mentions
behind_more before name [] = refl
behind_more before name (mention ∷ mentions) =
    ap₂ (λ (key : List ℕ) (ms : List Mention). record { key = key; named = mention.named } ∷ ms)
    (sym (append_assoc (before ++ name) (46 ∷ []) mention.key ∙ append_assoc before name (46 ∷ mention.key)))
    (behind_more before name mentions)

module _ (table : Table) (shape : ℕ) (field : List ℕ) (at : ℕ) (before name : List ℕ) (names : List (List ℕ)) where
  onward : (o : Option ℕ) (behind : List Mention) → shape_below table at name ≡ o
      → map (mention_behind before)
      (option_map_or (λ (b : ℕ). map (mention_below name) (mentions_from table shape field b names)) o [])
      ≡ behind
      → map (mention_behind before) (mentions_from table shape field at (name ∷ names)) ≡ mention_here shape at (before ++ field) (bytes_eq name field) ++ behind
  onward o behind is e =
      map-append (mention_behind before) (mention_here shape at field (bytes_eq name field))
      (option_map_or (λ (b : ℕ). map (mention_below name) (mentions_from table shape field b names)) (shape_below table at name) [])
      ∙ ap₂ (λ (xs ys : List Mention). xs ++ ys) (here (at == shape))
      (ap (λ (p : Option ℕ). map (mention_behind before)
      (option_map_or (λ (b : ℕ). map (mention_below name) (mentions_from table shape field b names)) p [])) is ∙ e)
    where
      here : (h : Bool)
          → map (mention_behind before) (if h then record { key = field; named = bytes_eq name field } ∷ [] else [])
          ≡ (if h then record { key = before ++ field; named = bytes_eq name field } ∷ [] else [])
      here true = refl
      here false = refl

  -- a key goes on into a group
  pub goes_on : (below : ℕ) → shape_below table at name ≡ Some below
      → map (mention_behind before) (mentions_from table shape field at (name ∷ names))
      ≡ mention_here shape at (before ++ field) (bytes_eq name field)
      ++ map (mention_behind ((before ++ name) ++ 46 ∷ [])) (mentions_from table shape field below names)
  goes_on below is =
      onward (Some below) (map (mention_behind ((before ++ name) ++ 46 ∷ [])) (mentions_from table shape field below names)) is
      (behind_more before name (mentions_from table shape field below names))

  -- or leads no further
  pub goes_nowhere : shape_below table at name ≡ None
      → map (mention_behind before) (mentions_from table shape field at (name ∷ names)) ≡ mention_here shape at (before ++ field) (bytes_eq name field)
  goes_nowhere is = onward None [] is refl ∙ append-nil (mention_here shape at (before ++ field) (bytes_eq name field))

-- What is noted so far, and what other names bring in the group that was reached, is all.
abbrev pub IsAllNoted : Table → (shape : ℕ) → (field : List ℕ) → (all noted : List Mention) → (before : List ℕ) → (at : ℕ) → (rest : List (List ℕ))
    → Type 0
IsAllNoted table shape field all noted before at rest =
    noted ++ map (mention_behind before) (mentions_from table shape field at rest) ≡ all

pub noted_none : (table : Table) (shape : ℕ) (field : List ℕ) (noted : List Mention) (before : List ℕ) (at : ℕ) (names : List (List ℕ)) → before ≡ []
    → IsAllNoted table shape field (noted ++ mentions_from table shape field at names) noted before at names
noted_none table shape field noted before at names none =
    ap (λ (bytes : List ℕ). noted ++ map (mention_behind bytes) (mentions_from table shape field at names)) none
    ∙ ap (λ (ms : List Mention). noted ++ ms) (behind_nothing (mentions_from table shape field at names))

module _ (table : Table) (shape : ℕ) (field : List ℕ) (all noted now : List Mention) (before text name : List ℕ) (at : ℕ) (named : Bool)
    (now_is : now ≡ noted ++ mention_here shape at (text ++ field) named) (text_is : text ≡ before) (named_is : named ≡ bytes_eq name field) where
  here_noted : now ≡ noted ++ mention_here shape at (before ++ field) (bytes_eq name field)
  here_noted =
      now_is ∙ ap₂ (λ (bytes : List ℕ) (b : Bool). noted ++ mention_here shape at (bytes ++ field) b) text_is named_is

  pub noted_more : (below : ℕ) (after : List ℕ) (rest : List (List ℕ)) → Some below ≡ shape_below table at name
      → after ≡ (before ++ name) ++ 46 ∷ [] → IsAllNoted table shape field all noted before at (name ∷ rest)
      → IsAllNoted table shape field all now after below rest
  noted_more below after rest below_is after_is so =
      ap₂ (λ (ms : List Mention) (bytes : List ℕ). ms ++ map (mention_behind bytes) (mentions_from table shape field below rest)) here_noted after_is
      ∙ append_assoc noted (mention_here shape at (before ++ field) (bytes_eq name field))
      (map (mention_behind ((before ++ name) ++ 46 ∷ [])) (mentions_from table shape field below rest))
      ∙ ap (λ (ms : List Mention). noted ++ ms) (sym (goes_on table shape field at before name rest below (sym below_is)))
      ∙ so

  pub noted_last : (rest : List (List ℕ)) → None ≡ shape_below table at name → IsAllNoted table shape field all noted before at (name ∷ rest)
      → now ≡ all
  noted_last rest none so =
      here_noted ∙ ap (λ (ms : List Mention). noted ++ ms) (sym (goes_nowhere table shape field at before name rest (sym none))) ∙ so

pub noted_all : (table : Table) (shape : ℕ) (field : List ℕ) (all noted : List Mention) (before : List ℕ) (at : ℕ)
    → IsAllNoted table shape field all noted before at [] → noted ≡ all
noted_all table shape field all noted before at so = sym (append-nil noted) ∙ so
