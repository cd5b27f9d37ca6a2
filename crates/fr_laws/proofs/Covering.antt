-- The scan of a journal gives what the rules say.
use Rattle.std.proofs.Common.{◌≡◌, ◌==◌, ◌||◌, if◌then◌else◌, ◌∷◌, ◌++◌}
use Rattle.fr_model.proofs.Common.{ℕ, eq-eqb, eqb-true, Bool, true, false, [], Option, Some, None, refl, sym, ◌∙◌, ap, arith, list_any, option_map_or, Val, Place, Note, entered_at, wrote_at, Journal, Standing, covers, beneath, beside, standing, Held, in_parts, written, just_entered, untouched, after_write, at_least_entered, after_entry, held}
use Rattle.fr_laws.specs.Covering.{way_down, goes_on, is_entry_at, is_beneath, part_given, covering_part, since_covered, held_by_rules}

-- how a noted place lies, in both forms
data Lies (noted here : Place) : Type 0 where
  it_covers : (way : Place) → standing noted here ≡ covers way → way_down noted here ≡ Some way
      → goes_on (way_down here noted) ≡ false → Lies noted here
  it_is_beneath : standing noted here ≡ beneath → way_down noted here ≡ None → goes_on (way_down here noted) ≡ true → Lies noted here
  it_is_beside : standing noted here ≡ beside → way_down noted here ≡ None → goes_on (way_down here noted) ≡ false → Lies noted here

swapped : (i j : ℕ) (b : Bool) → (i == j) ≡ b → (j == i) ≡ b
swapped i j true e = eq-eqb j i (sym (eqb-true i j e))
swapped i j false e = grind arith

one_lower : (i : ℕ) (noted here : Place) (j : ℕ) → Lies noted here → Lies (i ∷ noted) (j ∷ here)
one_lower i noted here j below = go (i == j) refl below
  where
    go : (b : Bool) → (i == j) ≡ b → Lies noted here → Lies (i ∷ noted) (j ∷ here)
    go true e (it_covers way is down up) = it_covers way (rw e is) (rw e down) (rw (swapped i j true e) up)
    go true e (it_is_beneath is down up) = it_is_beneath (rw e is) (rw e down) (rw (swapped i j true e) up)
    go true e (it_is_beside is down up) = it_is_beside (rw e is) (rw e down) (rw (swapped i j true e) up)
    go false e _ = it_is_beside (rw e refl) (rw e refl) (rw (swapped i j false e) refl)

lies : (noted here : Place) → Lies noted here
lies [] [] = it_covers [] refl refl refl
lies [] (j ∷ here) = it_covers (j ∷ here) refl refl refl
lies (i ∷ noted) [] = it_is_beneath refl refl refl
lies (i ∷ noted) (j ∷ here) = one_lower i noted here j (lies noted here)

-- the rules, of what they look at
abbrev ruled : Bool → Option Val → Bool → Held
ruled has_beneath covering was_entered =
    if has_beneath then in_parts else option_map_or written covering (if was_entered then just_entered else untouched)

covered_now : (note : Note) (notes : Journal) (here : Place) (v : Val) → part_given note here ≡ Some v
    → held_by_rules (note ∷ notes) here ≡ written v
covered_now note notes here v given = rw given refl

not_covered_now : (note : Note) (notes : Journal) (here : Place) (below entry : Bool) → part_given note here ≡ None
    → is_beneath here note ≡ below → is_entry_at here note ≡ entry → held_by_rules (note ∷ notes) here
    ≡ ruled (below || list_any (is_beneath here) (since_covered notes here)) (covering_part notes here)
    (entry || list_any (is_entry_at here) notes)
not_covered_now note notes here below entry given is_below is_entry = rw (given, is_below, is_entry) refl

entered_now : (has_beneath : Bool) (covering : Option Val) (was_entered : Bool)
    → at_least_entered (ruled has_beneath covering was_entered) ≡ ruled has_beneath covering true
entered_now true covering was_entered = refl
entered_now false (Some v) was_entered = refl
entered_now false None true = refl
entered_now false None false = refl

wrote_agrees : (noted : Place) (v : Val) (notes : Journal) (here : Place) → held notes here ≡ held_by_rules notes here
    → Lies noted here → held (wrote_at noted v ∷ notes) here ≡ held_by_rules (wrote_at noted v ∷ notes) here
wrote_agrees noted v notes here before (it_covers way is down up) =
    ap (λ (lie : Standing). after_write v lie (held notes here)) is ∙ sym (covered_now (wrote_at noted v) notes here _ (rw down refl))
wrote_agrees noted v notes here before (it_is_beneath is down up) =
    ap (λ (lie : Standing). after_write v lie (held notes here)) is
    ∙ sym (not_covered_now (wrote_at noted v) notes here true false (rw down refl) up refl)
wrote_agrees noted v notes here before (it_is_beside is down up) =
    ap (λ (lie : Standing). after_write v lie (held notes here)) is
    ∙ before ∙ sym (not_covered_now (wrote_at noted v) notes here false false (rw down refl) up refl)

entry_agrees : (noted : Place) (notes : Journal) (here : Place) → held notes here ≡ held_by_rules notes here
    → Lies noted here → held (entered_at noted ∷ notes) here ≡ held_by_rules (entered_at noted ∷ notes) here
entry_agrees noted notes here before (it_covers [] is down up) =
    ap (λ (lie : Standing). after_entry lie (held notes here)) is ∙ ap at_least_entered before ∙ entered_now _ _ _
    ∙ sym (not_covered_now (entered_at noted) notes here false true refl up (rw down refl))
entry_agrees noted notes here before (it_covers (i ∷ way) is down up) =
    ap (λ (lie : Standing). after_entry lie (held notes here)) is
    ∙ before ∙ sym (not_covered_now (entered_at noted) notes here false false refl up (rw down refl))
entry_agrees noted notes here before (it_is_beneath is down up) =
    ap (λ (lie : Standing). after_entry lie (held notes here)) is
    ∙ sym (not_covered_now (entered_at noted) notes here true false refl up (rw down refl))
entry_agrees noted notes here before (it_is_beside is down up) =
    ap (λ (lie : Standing). after_entry lie (held notes here)) is
    ∙ before ∙ sym (not_covered_now (entered_at noted) notes here false false refl up (rw down refl))

pub scan_agrees : (notes : Journal) (here : Place) → held notes here ≡ held_by_rules notes here
scan_agrees [] here = refl
scan_agrees (wrote_at noted v ∷ notes) here = wrote_agrees noted v notes here (scan_agrees notes here) (lies noted here)
scan_agrees (entered_at noted ∷ notes) here = entry_agrees noted notes here (scan_agrees notes here) (lies noted here)

-- the way down

pub way_leads : (above here way : Place) → way_down above here ≡ Some way → here ≡ above ++ way
way_leads [] here way e = cc
way_leads (i ∷ above) [] way e = cc
way_leads (i ∷ above) (j ∷ here) way e = go (i == j) refl (λ h. way_leads above here way h)
  where
    go : (b : Bool) → (i == j) ≡ b → (way_down above here ≡ Some way → here ≡ above ++ way) → (j ∷ here) ≡ (i ∷ (above ++ way))
    go true same rest =
        let below = rest (rw same at e) in
        let first = eqb-true i j same in
        cc
    go false apart rest = let none : None ≡ Some way = rw apart at e in cc

pub way_is : (above way : Place) → way_down above (above ++ way) ≡ Some way
way_is [] way = refl
way_is (i ∷ above) way = rw (eq-eqb i i refl) (way_is above way)
