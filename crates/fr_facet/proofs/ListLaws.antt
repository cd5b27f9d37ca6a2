-- Turning a list over from its end: what is left of it, and what was made of the rest, which stands the other way round.
use Rattle.std.proofs.Common.{◌≡◌, ℕ, ◌+◌, Bool, true, false, ◌&&◌, List, [], ◌∷◌, ◌++◌, map, reverse, append_assoc, refl, sym, ap, subst, ◌∙◌, arith}
use Rattle.std.proofs.lemmas.List.{map-append, reverse-append}
use Rattle.fr_shape.specs.Released.{Room, RoseBy}
use Rattle.fr_shape.specs.TokenLaws.{both, Room_left, Room_risen, Room_same, RoseBy_both, RoseBy_same}
use Rattle.fr_shape.specs.Tokens.{occurs, vals_occur}
use Rattle.fr_shape.specs.Val.{Val}
use Rattle.fr_shape.specs.View.{vals_of}
use Rattle.fr_facet.specs.declared.facet.FacetFault.{FacetFault}
use Rattle.fr_facet.specs.Elements.{each_taken}
use Rattle.fr_facet.specs.Facets.{IsRefusedIf}

-- how often a token occurs in a list of values
abbrev pub held : List Val → ℕ → ℕ
held vs = vals_occur (vals_of vs)

held_append : (vs ws : List Val) (t : ℕ) → held (vs ++ ws) t ≡ held vs t + held ws t
held_append [] ws t = omega arith
held_append (v ∷ vs) ws t = omega (arith, held_append vs ws t)

held_reverse : (vs : List Val) (t : ℕ) → held (reverse vs) t ≡ held vs t
held_reverse [] t = refl
held_reverse (v ∷ vs) t =
    ap (λ (ws : List Val). held ws t) (reverse-append (v ∷ []) vs)
    ∙ omega (arith, held_append (reverse vs) (v ∷ []) t, held_reverse vs t)

map_reverse : {A : Type 0} (f : A → Val) (xs : List A) → map f (reverse xs) ≡ reverse (map f xs)
map_reverse f [] = refl
map_reverse f (x ∷ xs) =
    ap (map f) (reverse-append (x ∷ []) xs)
    ∙ map-append f (reverse xs) (x ∷ [])
    ∙ ap (λ (vs : List Val). vs ++ f x ∷ []) (map_reverse f xs)
    ∙ sym (reverse-append (f x ∷ []) (map f xs))

taken_last : (takes : Val → Bool) (vs : List Val) (v : Val) (is : Bool) → takes v ≡ is
    → each_taken takes (vals_of (vs ++ v ∷ [])) ≡ (each_taken takes (vals_of vs) && is)
taken_last takes [] v true e = rw e refl
taken_last takes [] v false e = rw e refl
taken_last takes (w ∷ vs) v is e = grind (arith, taken_last takes vs v is e)

and_true : (a : Bool) → (a && true) ≡ a
and_true true = refl
and_true false = refl

and_false : (a : Bool) → (a && false) ≡ false
and_false true = refl
and_false false = refl

-- The whole list is what is left, and then what was made, turned round.
abbrev pub IsTurned : {A B : Type 0} → (f : A → Val) → (g : B → Val) → (whole : List Val) → (left : List A) → (made : List B) → Type 0
IsTurned f g whole left made = whole ≡ map f left ++ reverse (map g made)

-- what is left of the whole decides whether all are taken
abbrev pub IsDecidedBy : {A : Type 0} → (f : A → Val) → (takes : Val → Bool) → (whole : List Val) → (left : List A) → Type 0
IsDecidedBy f takes whole left = each_taken takes (vals_of (map f left)) ≡ each_taken takes (vals_of whole)

module _ {A : Type 0} (f : A → Val) (xs ys : List A) (x : A) (e : xs ≡ ys ++ x ∷ []) where
  pub mapped : map f xs ≡ map f ys ++ f x ∷ []
  mapped = ap (map f) e ∙ map-append f ys (x ∷ [])

  pub held_popped : (t : ℕ) → held (map f xs) t ≡ both (occurs (f x)) (held (map f ys)) t
  held_popped t = ap (λ (vs : List Val). held vs t) mapped ∙ omega (arith, held_append (map f ys) (f x ∷ []) t)

  pub popped_room : (ledger : List ℕ) → Room (held (map f xs)) ledger → Room (occurs (f x)) ledger
  popped_room ledger room =
      Room_left (occurs (f x)) (held (map f ys)) ledger
      (Room_same (held (map f xs)) (both (occurs (f x)) (held (map f ys))) ledger held_popped room)

  pub left_room : (before after : List ℕ) → Room (held (map f xs)) before → RoseBy (occurs (f x)) before after → Room (held (map f ys)) after
  left_room before after room rose =
      Room_risen (occurs (f x)) (held (map f ys)) before after
      (Room_same (held (map f xs)) (both (occurs (f x)) (held (map f ys))) before held_popped room) rose

  pub all_rose : (before between after : List ℕ) → RoseBy (occurs (f x)) before between → RoseBy (held (map f ys)) between after
      → RoseBy (held (map f xs)) before after
  all_rose before between after one rest =
      RoseBy_same (both (occurs (f x)) (held (map f ys))) (held (map f xs)) before after (λ t. sym (held_popped t))
      (RoseBy_both (occurs (f x)) (held (map f ys)) before between after one rest)

  pub decided_next : (takes : Val → Bool) (whole : List Val) → takes (f x) ≡ true → IsDecidedBy f takes whole xs → IsDecidedBy f takes whole ys
  decided_next takes whole taken decided =
      sym (ap (λ (vs : List Val). each_taken takes (vals_of vs)) mapped ∙ taken_last takes (map f ys) (f x) true taken ∙ and_true (each_taken takes (vals_of (map f ys))))
      ∙ decided

  pub decided_none : (takes : Val → Bool) (whole : List Val) → takes (f x) ≡ false → IsDecidedBy f takes whole xs
      → each_taken takes (vals_of whole) ≡ false
  decided_none takes whole refused decided =
      sym decided
      ∙ ap (λ (vs : List Val). each_taken takes (vals_of vs)) mapped
      ∙ taken_last takes (map f ys) (f x) false refused
      ∙ and_false (each_taken takes (vals_of (map f ys)))

  module _ {B : Type 0} (g : B → Val) (whole : List Val) (made : List B) (turned : IsTurned f g whole xs made) where
    pub turned_next : (more : List B) → map g more ≡ map g made ++ f x ∷ [] → IsTurned f g whole ys more
    turned_next more appended =
        turned
        ∙ ap (λ (vs : List Val). vs ++ reverse (map g made)) mapped
        ∙ append_assoc (map f ys) (f x ∷ []) (reverse (map g made))
        ∙ ap (λ (vs : List Val). map f ys ++ vs)
        (sym (ap (λ (vs : List Val). reverse vs) appended ∙ reverse-append (map g made) (f x ∷ [])))

    held_whole : (t : ℕ) → held whole t ≡ occurs (f x) t + (held (map g made) t + held (map f ys) t)
    held_whole t =
        ap (λ (vs : List Val). held vs t) turned
        ∙ omega (arith, held_append (map f xs) (reverse (map g made)) t, held_reverse (map g made) t, held_popped t)

    -- what was made, and what is left
    abbrev pub rest : ℕ → ℕ
    rest = both (held (map g made)) (held (map f ys))

    whole_room : (ledger : List ℕ) → Room (held whole) ledger → Room (both (occurs (f x)) rest) ledger
    whole_room ledger room = Room_same (held whole) (both (occurs (f x)) rest) ledger held_whole room

    pub item_room : (ledger : List ℕ) → Room (held whole) ledger → Room (occurs (f x)) ledger
    item_room ledger room = Room_left (occurs (f x)) rest ledger (whole_room ledger room)

    pub rest_room : (before after : List ℕ) → Room (held whole) before → RoseBy (occurs (f x)) before after → Room rest after
    rest_room before after room rose = Room_risen (occurs (f x)) rest before after (whole_room before room) rose

    pub whole_rose : (before between after : List ℕ) → RoseBy (occurs (f x)) before between → RoseBy rest between after
        → RoseBy (held whole) before after
    whole_rose before between after one others =
        RoseBy_same (both (occurs (f x)) rest) (held whole) before after (λ t. sym (held_whole t))
        (RoseBy_both (occurs (f x)) rest before between after one others)

-- nothing is left: the whole is what was made, turned round
pub turned_whole : {A B : Type 0} (f : A → Val) (g : B → Val) (whole : List Val) (left : List A) (made turned : List B)
    → left ≡ [] → turned ≡ reverse made → IsTurned f g whole left made → map g turned ≡ whole
turned_whole f g whole left made turned none reversed is =
    ap (map g) reversed ∙ map_reverse g made ∙ sym (is ∙ ap (λ (xs : List _). map f xs ++ reverse (map g made)) none)

pub decided_whole : {A : Type 0} (f : A → Val) (takes : Val → Bool) (whole : List Val) (left : List A) → left ≡ [] → IsDecidedBy f takes whole left
    → each_taken takes (vals_of whole) ≡ true
decided_whole f takes whole left none decided = sym decided ∙ ap (λ (xs : List _). each_taken takes (vals_of (map f xs))) none

-- a fault at one value is a fault of all
pub fault_of_all : (one all : Bool) (fault : FacetFault) → (one ≡ false → all ≡ false) → IsRefusedIf one fault → IsRefusedIf all fault
fault_of_all one all FacetFault.Mismatch refuses is = refuses is
fault_of_all one all FacetFault.OutOfMemory refuses is = tt

pub turned_kept : {A B : Type 0} (f : A → Val) (g : B → Val) (whole : List Val) (left : List A) (made now : List B)
    → now ≡ made → IsTurned f g whole left made → IsTurned f g whole left now
turned_kept f g whole left made now same turned = turned ∙ ap (λ (ys : List _). map f left ++ reverse (map g ys)) (sym same)

pub room_at : (held : ℕ → ℕ) (now before : List ℕ) → now ≡ before → Room held before → Room held now
room_at held now before same room = subst (λ (ledger : List ℕ). Room held ledger) (sym same) room

pub rose_from : (held : ℕ → ℕ) (now before after : List ℕ) → now ≡ before → RoseBy held now after → RoseBy held before after
rose_from held now before after same rose = subst (λ (ledger : List ℕ). RoseBy held ledger after) same rose

pub room_swapped : (f g : ℕ → ℕ) (ledger : List ℕ) → Room (both f g) ledger → Room (both g f) ledger
room_swapped f g ledger room = Room_same (both f g) (both g f) ledger (λ t. omega arith) room

pub rose_swapped : (f g : ℕ → ℕ) (before after : List ℕ) → RoseBy (both f g) before after → RoseBy (both g f) before after
rose_swapped f g before after rose = RoseBy_same (both f g) (both g f) before after (λ t. omega arith) rose
