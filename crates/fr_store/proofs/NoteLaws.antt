-- Lists of stored places with the same slots.
use Rattle.std.proofs.Common.{◌≡◌, ℕ, ◌<◌, List, length, get_or, set, sym, ◌∙◌, ap, arith}
use Rattle.std.proofs.lemmas.List.{get_or-map, length-map, map-set, set-get_or}
use Rattle.fr_store.specs.Common.{StoredPlace, slot_of, slots_of}

pub slot_read : (xs ys : List StoredPlace) (i : ℕ) (d : StoredPlace) → i < length xs → slots_of xs ≡ slots_of ys
    → slot_of (get_or xs i d) ≡ slot_of (get_or ys i d)
slot_read xs ys i d h e =
    let long = ap (λ (l : List ℕ). length l) e in
    sym (get_or-map slot_of xs i d 0 h) ∙ ap (λ (l : List ℕ). get_or l i 0) e
    ∙ get_or-map slot_of ys i d 0 (omega (arith, length-map xs slot_of, length-map ys slot_of))

pub slots_set : (xs : List StoredPlace) (i : ℕ) (v d : StoredPlace) → i < length xs → slot_of v ≡ slot_of (get_or xs i d)
    → slots_of (set xs i v) ≡ slots_of xs
slots_set xs i v d h e =
    map-set slot_of xs i v ∙ ap (set (slots_of xs) i) (e ∙ sym (get_or-map slot_of xs i d 0 h)) ∙ set-get_or (slots_of xs) i 0
