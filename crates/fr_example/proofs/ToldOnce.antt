-- Keys that are told once.
use Rattle.std.proofs.Common.{◌≡◌, ℕ, ◌+◌, ◌<◌, Bool, true, false, cond, not, ◌&&◌, ◌||◌, List, [], ◌∷◌, ◌++◌, length, map, get_or, take, refl, sym, ◌∙◌, ap, ap₂, append-nil, Bor, BTreeSet, nat_cmp}
use Rattle.std.specs.BTreeMap.{is_at}
use Rattle.std.specs.BTreeSet.{contains_by}
use Rattle.std.specs.Cmp.Lexicographic.{slice_cmp}
use Rattle.std.specs.List.{filter, list_any}
use Rattle.std.specs.Str.{bytes_eq}
use Rattle.std.proofs.Math.Bool.{or-false, or-true}
use Rattle.std.proofs.lemmas.List.{map-append, take_more}
use Rattle.std.proofs.lemmas.List.Elements.{filter-append}
use Rattle.std.proofs.lemmas.List.Folds.{list_any-append, list_any_more}
use Rattle.std.proofs.lemmas.Map.Text.{is_eq-slice_cmp}
use Rattle.std.proofs.lemmas.Slice.Eq.{bytes_eq-Decides}
use Rattle.fr_example.specs.declared.missing.Mention.{Mention}
use Rattle.fr_example.specs.Mentions.{is_named}
use Rattle.fr_example.specs.Missing.{each_once}

-- what passes p is looked for among what passes q, where that is all of it
any_kept : {X : Type 0} (p q : X → Bool) (xs : List X) → ((x : X) → p x ≡ true → q x ≡ true) → list_any p (filter q xs) ≡ list_any p xs
any_kept p q [] kept = refl
any_kept p q (x ∷ xs) kept = go (any_kept p q xs kept) (p x) (q x) refl refl
  where
    go : list_any p (filter q xs) ≡ list_any p xs → (b c : Bool) → p x ≡ b → q x ≡ c
        → list_any p (cond c (x ∷ filter q xs) (filter q xs)) ≡ (p x || list_any p xs)
    go again b true p_is q_is = ap (λ d. p x || d) again
    go again false false p_is q_is = again ∙ sym (ap (λ d. d || list_any p xs) p_is)
    go again true false p_is q_is = let e : true ≡ false = sym (kept x p_is) ∙ q_is in cc

-- one key more
pub each_once_more : (keys : List (List ℕ)) (key : List ℕ)
    → each_once (keys ++ key ∷ []) ≡ each_once keys ++ cond (list_any (λ (k : List ℕ). bytes_eq k key) (each_once keys)) [] (key ∷ [])
each_once_more [] key = refl
each_once_more (first ∷ keys) key =
    ap (λ (ks : List (List ℕ)). first ∷ filter differs ks) (each_once_more keys key)
    ∙ ap (λ (ks : List (List ℕ)). first ∷ ks)
    (filter-append differs (each_once keys) (cond (list_any (λ (k : List ℕ). bytes_eq k key) (each_once keys)) [] (key ∷ []))
    ∙ ap (λ (ks : List (List ℕ)). filter differs (each_once keys) ++ ks)
    (go (bytes_eq first key) (list_any (λ (k : List ℕ). bytes_eq k key) (each_once keys)) refl refl))
  where
    differs : List ℕ → Bool
    differs other = not (bytes_eq first other)

    kept : bytes_eq first key ≡ false → (k : List ℕ) → bytes_eq k key ≡ true → not (bytes_eq first k) ≡ true
    kept apart k same = ap (λ (other : List ℕ). not (bytes_eq first other)) ((bytes_eq-Decides k key).0 same) ∙ ap not apart

    last : (any : Bool) → bytes_eq first key ≡ false → filter differs (cond any [] (key ∷ [])) ≡ cond any [] (key ∷ [])
    last true apart = refl
    last false apart = ap (λ (b : Bool). cond (not b) (key ∷ []) []) apart

    go : (same any : Bool) → bytes_eq first key ≡ same → list_any (λ (k : List ℕ). bytes_eq k key) (each_once keys) ≡ any
        → filter differs (cond any [] (key ∷ []))
        ≡ cond (bytes_eq first key || list_any (λ (k : List ℕ). bytes_eq k key) (filter differs (each_once keys))) [] (key ∷ [])
    go true true same_is any_is = ap (λ (b : Bool). cond (b || list_any (λ (k : List ℕ). bytes_eq k key) (filter differs (each_once keys))) [] (key ∷ [])) (sym same_is)
    go true false same_is any_is =
        ap (λ (b : Bool). cond (not b) (key ∷ []) []) same_is
        ∙ ap (λ (b : Bool). cond (b || list_any (λ (k : List ℕ). bytes_eq k key) (filter differs (each_once keys))) [] (key ∷ [])) (sym same_is)
    go false any same_is any_is =
        last any same_is
        ∙ sym (
        ap₂ (λ (b c : Bool). cond (b || c) [] (key ∷ [])) same_is
        (any_kept (λ (k : List ℕ). bytes_eq k key) differs (each_once keys) (kept same_is) ∙ any_is)
        )

-- one more that is told, unless it is named or told
pub told_more : (named : List ℕ → Bool) (keys : List (List ℕ)) (key : List ℕ)
    → each_once (filter (λ (k : List ℕ). not (named k)) (keys ++ key ∷ []))
    ≡ each_once (filter (λ (k : List ℕ). not (named k)) keys)
    ++ cond (named key || list_any (λ (k : List ℕ). bytes_eq k key) (each_once (filter (λ (k : List ℕ). not (named k)) keys))) [] (key ∷ [])
told_more named keys key =
    ap each_once (filter-append (λ (k : List ℕ). not (named k)) keys (key ∷ [])) ∙ go (named key)
  where
    go : (b : Bool)
        → each_once (filter (λ (k : List ℕ). not (named k)) keys ++ cond (not b) (key ∷ []) [])
        ≡ each_once (filter (λ (k : List ℕ). not (named k)) keys)
        ++ cond (b || list_any (λ (k : List ℕ). bytes_eq k key) (each_once (filter (λ (k : List ℕ). not (named k)) keys))) [] (key ∷ [])
    go true =
        ap each_once (append-nil (filter (λ (k : List ℕ). not (named k)) keys))
        ∙ sym (append-nil (each_once (filter (λ (k : List ℕ). not (named k)) keys)))
    go false = each_once_more (filter (λ (k : List ℕ). not (named k)) keys) key

-- Sets of texts

abbrev pub has_text : BTreeSet (Bor (List ℕ)) → Bor (List ℕ) → Bool
has_text set q = contains_by (λ (k : Bor (List ℕ)). slice_cmp nat_cmp q.now k.now) set

-- what a set has that was given one more text
pub has_more : (old new : BTreeSet (Bor (List ℕ))) (key : Bor (List ℕ)) (text : List ℕ) (q : Bor (List ℕ)) → key.now ≡ text
    → has_text new q ≡ cond (is_at (λ (k : Bor (List ℕ)). slice_cmp nat_cmp key.now k.now) q) true (has_text old q)
    → has_text new q ≡ (has_text old q || bytes_eq text q.now)
has_more old new key text q is more =
    more
    ∙ ap (λ (b : Bool). cond b true (has_text old q)) (is_eq-slice_cmp key.now q.now ∙ ap (λ (bytes : List ℕ). bytes_eq bytes q.now) is)
    ∙ turned (bytes_eq text q.now) (has_text old q)
  where
    turned : (b c : Bool) → cond b true c ≡ (c || b)
    turned true true = refl
    turned true false = refl
    turned false true = refl
    turned false false = refl

-- the mentions so far, and one more
pub named_more : (mentions : List Mention) (i : ℕ) (mention : Mention) (key : List ℕ) → i < length mentions → mention ≡ get_or mentions i mention
    → is_named (take (i + 1) mentions) key ≡ (is_named (take i mentions) key || (mention.named && bytes_eq mention.key key))
named_more mentions i mention key within is =
    list_any_more (λ (m : Mention). m.named && bytes_eq m.key key) mentions i mention within
    ∙ ap (λ (m : Mention). is_named (take i mentions) key || (m.named && bytes_eq m.key key)) (sym is)

pub keys_more : (mentions : List Mention) (i : ℕ) (mention : Mention) → i < length mentions → mention ≡ get_or mentions i mention
    → map (λ (m : Mention). m.key) (take (i + 1) mentions) ≡ map (λ (m : Mention). m.key) (take i mentions) ++ mention.key ∷ []
keys_more mentions i mention within is =
    ap (map (λ (m : Mention). m.key)) (take_more mentions i mention within ∙ ap (λ (m : Mention). take i mentions ++ m ∷ []) (sym is))
    ∙ map-append (λ (m : Mention). m.key) (take i mentions) (mention ∷ [])

-- a text is seen if it is named or was told, and one more is told, unless it was seen
pub seen_more : (named : List ℕ → Bool) (keys : List (List ℕ)) (key q : List ℕ) (seen : Bool)
    → (named key || list_any (λ (k : List ℕ). bytes_eq k key) keys) ≡ seen
    → ((named q || list_any (λ (k : List ℕ). bytes_eq k q) keys) || bytes_eq key q)
    ≡ (named q || list_any (λ (k : List ℕ). bytes_eq k q) (keys ++ cond seen [] (key ∷ [])))
seen_more named keys key q true is =
    go (bytes_eq key q) refl
    ∙ ap (λ (ks : List (List ℕ)). named q || list_any (λ (k : List ℕ). bytes_eq k q) ks) (sym (append-nil keys))
  where
    go : (same : Bool) → bytes_eq key q ≡ same
        → ((named q || list_any (λ (k : List ℕ). bytes_eq k q) keys) || same) ≡ (named q || list_any (λ (k : List ℕ). bytes_eq k q) keys)
    go false e = or-false (named q || list_any (λ (k : List ℕ). bytes_eq k q) keys)
    go true e =
        or-true (named q || list_any (λ (k : List ℕ). bytes_eq k q) keys)
        ∙ sym (
        ap (λ (x : List ℕ). named x || list_any (λ (k : List ℕ). bytes_eq k x) keys) (sym ((bytes_eq-Decides key q).0 e)) ∙ is
        )
seen_more named keys key q false is =
    joined (named q) (list_any (λ (k : List ℕ). bytes_eq k q) keys) (bytes_eq key q)
    ∙ ap (λ (b : Bool). named q || b) (sym (list_any-append (λ (k : List ℕ). bytes_eq k q) keys (key ∷ [])))
  where
    joined : (a b c : Bool) → ((a || b) || c) ≡ (a || (b || (c || false)))
    joined true b c = refl
    joined false true c = refl
    joined false false true = refl
    joined false false false = refl
