-- Reading the items of an array one after another.
use Rattle.std.proofs.Common.{◌≡◌, ℕ, ◌+◌, ◌<◌, ◌≤◌, List, [], ◌∷◌, ◌++◌, length, drop, get_or, Option, Some, None, Err, map, option_map, refl, sym, ap, ◌∙◌, append_assoc, append-nil, drop-cons, add-one}
use Rattle.std.proofs.lemmas.List.{drop_all, map-append}
use Rattle.serde_json.specs.Data.{Data}
use Rattle.serde_json.specs.View.{view, items_view}
use Rattle.serde_json.specs.declared.value.Value.{Value}
use Rattle.fr_doc.specs.declared.fault.ReadError.{ReadError}
use Rattle.fr_doc.specs.declared.read_error.Broken.{Broken}
use Rattle.fr_doc.specs.Reading.{Reads}
use Rattle.fr_doc.specs.Steps.{◌>>=◌, each}

-- where a step finds a broken form, or no memory, so does the whole
pub then_fails : {A B X Y : Type 0} (seen : A → X) (saw : B → Y) (e : ReadError Broken) (form : Option X) (next : X → Option Y) {whole : Option Y} → whole ≡ (form >>= next) → Reads seen form (Err e) → Reads saw whole (Err e)
then_fails seen saw ReadError.Memory form next steps found = tt
then_fails seen saw (ReadError.Fault broken) form next steps found = steps ∙ ap (λ o. o >>= next) found

-- what was read so far, before what is still to be read
abbrev pub behind : {X : Type 0} → List X → Option (List X) → Option (List X)
behind xs rest = option_map (λ ys. xs ++ ys) rest

module _ {X : Type 0} (form : Data → Option X) where
  -- what stands from item i on
  abbrev pub left : List Value → ℕ → Option (List X)
  left vs i = each form (items_view (drop i vs))

  -- the invariant: what was read, with what is left, is the whole
  abbrev pub IsSoFar : List Value → ℕ → List X → Type 0
  IsSoFar vs i xs = behind xs (left vs i) ≡ each form (items_view vs)

  one_more : (xs : List X) (x : X) (o : Option (List X)) → behind xs (o >>= λ ys. Some (x ∷ ys)) ≡ behind (xs ++ x ∷ []) o
  one_more xs x None = refl
  one_more xs x (Some ys) = ap Some (sym (append_assoc xs (x ∷ []) ys))

  left_step : (vs : List Value) (i : ℕ) (d : Value) → i < length vs → left vs i ≡ (form (view (get_or vs i d)) >>= λ x. left vs (i + 1) >>= λ ys. Some (x ∷ ys))
  left_step vs i d h = rw (drop-cons vs i d, add-one)

  so_far_step : (vs : List Value) (i : ℕ) (d : Value) (xs : List X) (x : X) → i < length vs → d ≡ get_or vs i d → form (view d) ≡ Some x → IsSoFar vs i xs → IsSoFar vs (i + 1) (xs ++ x ∷ [])
  so_far_step vs i d xs x h is found so_far =
      let next : left vs i ≡ (left vs (i + 1) >>= λ ys. Some (x ∷ ys)) = left_step vs i d h ∙ rw (← is, found) in
      sym (one_more xs x (left vs (i + 1))) ∙ (sym (ap (behind xs) next) ∙ so_far)

  pub so_far_next : {A : Type 0} (seen : A → X) (vs : List Value) (i : ℕ) (d : Value) (found : List A) (one : A) → i < length vs → d ≡ get_or vs i d → form (view d) ≡ Some (seen one) → IsSoFar vs i (map seen found) → IsSoFar vs (i + 1) (map seen (found ++ one ∷ []))
  so_far_next seen vs i d found one h is read so_far =
      rw map-append (so_far_step vs i d (map seen found) (seen one) h is read so_far)

  so_far_broken : (vs : List Value) (i : ℕ) (d : Value) (xs : List X) → i < length vs → d ≡ get_or vs i d → form (view d) ≡ None → IsSoFar vs i xs → each form (items_view vs) ≡ None
  so_far_broken vs i d xs h is found so_far =
      let next : left vs i ≡ None = left_step vs i d h ∙ rw (← is, found) in
      sym so_far ∙ ap (behind xs) next

  module _ {Y : Type 0} (back : List X → Y) (vs : List Value) (whole : Option Y) (split : whole ≡ option_map back (each form (items_view vs))) where
    pub fails : {A B : Type 0} (seen : A → X) (saw : B → Y) (i : ℕ) (d : Value) (xs : List X) (e : ReadError Broken) → i < length vs → d ≡ get_or vs i d → Reads seen (form (view d)) (Err e) → IsSoFar vs i xs → Reads saw whole (Err e)
    fails seen saw i d xs ReadError.Memory h is found so_far = tt
    fails seen saw i d xs (ReadError.Fault broken) h is found so_far = split ∙ ap (option_map back) (so_far_broken vs i d xs h is found so_far)

    pub ends : (i : ℕ) (xs : List X) → length vs ≤ i → IsSoFar vs i xs → whole ≡ Some (back xs)
    ends i xs h so_far =
        split ∙ ap (option_map back) (sym so_far ∙ (ap (λ ws. behind xs (each form (items_view ws))) (drop_all i vs h) ∙ ap Some (append-nil xs)))
