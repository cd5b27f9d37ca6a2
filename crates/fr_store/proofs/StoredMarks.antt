-- The list of stored places, and the marks in the slots.
use Rattle.std.proofs.Common.{◌≡◌, ◌≢◌, ◌⊎◌, ◌↔◌, ℕ, Bool, true, false, List, [], ◌∷◌, ◌++◌, Contains, Option, Some, None, IsSome, inl, inr, refl, sym, ◌∙◌, ap, subst}
use Rattle.std.proofs.lemmas.List.Elements.{Contains-append_left, Contains-push, Contains-push_cases}
use Rattle.fr_store.specs.Common.{Heap, IsInUse, IsKept, Node, Shows, Slot, heap_of, marked, option_map, same_or_other, slot_other, stored_in, with_mark}
use Rattle.fr_store.specs.TopLaws.{slot_here}

now_marked : (found : Option Node) (mark : Bool) → IsSome found
    → stored_in (option_map (λ (at : Node). record at { stored = mark }) found) ≡ mark
now_marked (Some at) mark h = refl
now_marked None mark h = absurd (cc)

pub mark_here : (heap : Heap) (n : ℕ) (mark : Bool) → IsSome (heap n) → marked (with_mark heap n mark) n ≡ mark
mark_here heap n mark h =
    ap stored_in (slot_here heap n (option_map (λ (at : Node). record at { stored = mark }) (heap n))) ∙ now_marked (heap n) mark h

pub mark_other : (heap : Heap) (n : ℕ) (mark : Bool) (m : ℕ) → m ≢ n → marked (with_mark heap n mark) m ≡ marked heap m
mark_other heap n mark m ne =
    ap stored_in (slot_other heap n (option_map (λ (at : Node). record at { stored = mark }) (heap n)) m ne)

marked_found : (found : Option Node) → stored_in found ≡ true → IsSome found
marked_found (Some at) h = refl
marked_found None h = absurd (cc)

-- what is stored is in use
pub marked_in_use : (slots : List Slot) (n : ℕ) → marked (heap_of slots) n ≡ true → IsInUse slots n
marked_in_use slots n h = marked_found (heap_of slots n) h

-- one place is stored no more, and the marks of all others stay
pub kept_but : (store rest : List ℕ) (before after : List Slot) (place : ℕ) → IsKept store before → marked (heap_of after) place ≡ false
    → ((n : ℕ) → n ≢ place → marked (heap_of after) n ≡ marked (heap_of before) n)
    → ((n : ℕ) → Contains rest n ↔ (Contains store n × (n ≢ place))) → IsKept rest after
kept_but store rest before after place kept freed same less n = (
  λ is. (less n).1 ((kept n).0 (sym (same n (ne is)) ∙ is), ne is),
  λ found. let both = (less n).0 found in same n both.1 ∙ (kept n).1 both.0,
)
  where
    ne : marked (heap_of after) n ≡ true → n ≢ place
    ne is e = let no : false ≡ true = sym freed ∙ ap (marked (heap_of after)) (sym e) ∙ is in cc

module _ (store : List ℕ) (slots after : List Slot) (place : ℕ) (kept : IsKept store slots) (in_use : IsInUse slots place) where
  -- a place is stored
  pub kept_more : Shows after (with_mark (heap_of slots) place true) → IsKept (store ++ place ∷ []) after
  kept_more shows n = go (same_or_other n place)
    where
      is : marked (heap_of after) n ≡ marked (with_mark (heap_of slots) place true) n
      is = ap stored_in (shows n)

      go : (n ≡ place) ⊎ (n ≢ place) → (marked (heap_of after) n ≡ true) ↔ Contains (store ++ place ∷ []) n
      go (inl e) = (
        λ h. subst (Contains (store ++ place ∷ [])) (sym e) (Contains-push store place),
        λ h. is ∙ ap (marked (with_mark (heap_of slots) place true)) e ∙ mark_here (heap_of slots) place true in_use,
      )
      go (inr ne) =
          let same : marked (heap_of after) n ≡ marked (heap_of slots) n = is ∙ mark_other (heap_of slots) place true n ne in (
            λ h. Contains-append_left store (place ∷ []) n ((kept n).0 (sym same ∙ h)),
            λ h. same ∙ (kept n).1 (by_case (Contains-push_cases store place n h)),
          )
        where
          by_case : Contains store n ⊎ (place ≡ n) → Contains store n
          by_case (inl h) = h
          by_case (inr e) = absurd (ne (sym e))

  -- a place is stored no more
  pub kept_less : (rest : List ℕ) → Shows after (with_mark (heap_of slots) place false)
      → ((n : ℕ) → Contains rest n ↔ (Contains store n × (n ≢ place))) → IsKept rest after
  kept_less rest shows less =
      kept_but store rest slots after place kept (ap stored_in (shows place) ∙ mark_here (heap_of slots) place false in_use)
      (λ n ne. ap stored_in (shows n) ∙ mark_other (heap_of slots) place false n ne) less
