-- Laws of places that stay in their slots, for proofs: where what lies at one place is replaced, all beside it stays.
use Rattle.std.proofs.Common.{◌≡◌, ◌≢◌, ◌⊎◌, ℕ, zero, suc, ◌<◌, Bool, List, [], ◌∷◌, ◌++◌, append-nil, inl, inr, refl, sym, ◌∙◌, ap, subst}
use Rattle.fr_store.specs.Common.{AllStayPut, AreUnplaced, FrameOwner, IsClosed, IsHere, IsOpen, IsPlaced, IsUnplaced, Kid, Kids, Place, Plan, Plot, Reaches, Shows, Slot, Stands, StayPutBut, StayPutButBeneath, StaysPut, at, begun_plot, body_in, cell_of, cells_in, count_put, entered_plot, gone, heap_of, holds_frame, kid, kid_at, kid_here, kid_is, kid_nth, no_kids, nth_put, put_at, put_nth, same_or_other, slot_at, slot_here, whole_plot}
use Rattle.fr_store.proofs.OffLaws.{nth_other}

pub stay_same : (k : Kid) → AllStayPut k k
stay_same k place placed = (placed, refl)

-- Where what lies at one place is replaced, a place stays where it does within the new.
pub stay_at : (part : Place) (new k : Kid) → Reaches part k → (place : Place)
    → ((rest : Place) → place ≡ part ++ rest → StaysPut (kid_at part k) new rest) → StaysPut k (put_at part new k) place
stay_at [] new k reach place within = within place refl
stay_at (i ∷ part) new (at slot stored (begun_plot tracker kids)) reach [] within =
    λ placed. (record { reaches = tt; here = tt }, refl)
stay_at (i ∷ part) new (at slot stored (begun_plot tracker kids)) reach (j ∷ place) within =
    λ placed. go placed (same_or_other i j) (λ e. stay_at part new (kid_nth i kids) reach.1 place (beneath e))
  where
    child : Kid
    child = put_at part new (kid_nth i kids)

    beneath : i ≡ j → (rest : Place) → place ≡ part ++ rest → StaysPut (kid_at part (kid_nth i kids)) new rest
    beneath e rest is = within rest (ap (λ (m : ℕ). m ∷ place) (sym e) ∙ ap (λ (p : Place). i ∷ p) is)

    -- what is there of child j
    from : (x : Kid) → kid_nth j (put_nth i child kids) ≡ x → IsPlaced (at slot stored (begun_plot tracker kids)) (j ∷ place)
        → IsPlaced x place × (slot_at x place ≡ slot_at (kid_nth j kids) place)
        → IsPlaced (at slot stored (begun_plot tracker (put_nth i child kids))) (j ∷ place)
        × (slot_at (at slot stored (begun_plot tracker (put_nth i child kids))) (j ∷ place)
        ≡ slot_at (at slot stored (begun_plot tracker kids)) (j ∷ place))
    from x is placed stays = (
      record {
        reaches = (
          subst (λ (count : ℕ). j < count) (sym (count_put i child kids)) placed.reaches.0,
          subst (λ (y : Kid). Reaches place y) (sym is) stays.0.reaches,
        );
        here = subst (λ (y : Kid). IsHere (kid_at place y)) (sym is) stays.0.here;
      },
      ap (λ (y : Kid). slot_here (kid_at place y)) is ∙ stays.1,
    )

    go : IsPlaced (at slot stored (begun_plot tracker kids)) (j ∷ place) → (i ≡ j) ⊎ (i ≢ j)
        → (i ≡ j → StaysPut (kid_nth i kids) child place)
        → IsPlaced (at slot stored (begun_plot tracker (put_nth i child kids))) (j ∷ place)
        × (slot_at (at slot stored (begun_plot tracker (put_nth i child kids))) (j ∷ place)
        ≡ slot_at (at slot stored (begun_plot tracker kids)) (j ∷ place))
    go placed (inl e) rest =
        let below : IsPlaced (kid_nth i kids) place = subst (λ (m : ℕ). IsPlaced (kid_nth m kids) place) (sym e)
        (record { reaches = placed.reaches.1; here = placed.here }) in
        let stays = rest e below in
        let now : kid_nth j (put_nth i child kids) ≡ child
        = ap (λ (m : ℕ). kid_nth m (put_nth i child kids)) (sym e) ∙ nth_put i child kids reach.0 in
        from child now placed (stays.0, stays.1 ∙ ap (λ (m : ℕ). slot_at (kid_nth m kids) place) e)
    go placed (inr ne) rest =
        from (kid_nth j kids) (nth_other i j child kids ne) placed
        (record { reaches = placed.reaches.1; here = placed.here }, refl)
stay_at (i ∷ part) new _ reach place within = absurd reach

-- Where each place within it stays, all stay.
pub stay_all : (part : Place) (new k : Kid) → Reaches part k → AllStayPut (kid_at part k) new → AllStayPut k (put_at part new k)
stay_all part new k reach within place = stay_at part new k reach place (λ rest e. within rest)

-- Within one place.

-- it is marked anew
pub stay_marked : {old new : Kid} {slot : ℕ} {was mark : Bool} {plot : Plot} → old ≡ at slot was plot → new ≡ at slot mark plot
    → AllStayPut old new
stay_marked {new} {slot} {was} {mark} {plot} e f =
    subst (λ (x : Kid). AllStayPut x new) (sym e) (subst (λ (x : Kid). AllStayPut (at slot was plot) x) (sym f) go)
  where
    go : AllStayPut (at slot was plot) (at slot mark plot)
    go [] placed = (record { reaches = tt; here = tt }, refl)
    go (i ∷ place) placed = (record { reaches = placed.reaches; here = placed.here }, refl)

-- nothing lay in a slot there
pub not_placed : (k : Kid) (place : Place) → IsUnplaced (cell_of k) → IsPlaced k place → ⊥
not_placed (at slot stored plot) place unplaced placed = unplaced
not_placed _ [] unplaced placed = placed.here
not_placed _ (i ∷ place) unplaced placed = placed.reaches

pub stay_unplaced : (old new : Kid) → IsUnplaced (cell_of old) → AllStayPut old new
stay_unplaced old new unplaced place placed = absurd (not_placed old place unplaced placed)

-- none of its children lay in a slot
pub none_below : (i : ℕ) (ks : Kids) {place : Place} → AreUnplaced (cells_in ks) → IsPlaced (kid_nth i ks) place → ⊥
none_below i no_kids {place} closed placed = not_placed gone place tt placed
none_below zero (kid k ks) {place} closed placed = not_placed k place closed.0 placed
none_below (suc i) (kid k ks) {place} closed placed = none_below i ks closed.1 placed

pub closed_below : {old : Kid} {slot : ℕ} {stored : Bool} {plot : Plot} → old ≡ at slot stored plot → IsClosed (body_in plot)
    → (i : ℕ) (place : Place) → IsPlaced old (i ∷ place) → ⊥
closed_below {slot} {stored} {plot} e closed i place placed
    = go plot closed (subst (λ (x : Kid). IsPlaced x (i ∷ place)) e placed)
  where
    go : (plot : Plot) → IsClosed (body_in plot) → IsPlaced (at slot stored plot) (i ∷ place) → ⊥
    go entered_plot closed placed = placed.reaches
    go (whole_plot v) closed placed = placed.reaches
    go (begun_plot tracker kids) closed placed =
        none_below i kids closed (record { reaches = placed.reaches.1; here = placed.here })

-- Something else at one place.

-- that was none of whose children lay in a slot, and is in none itself: each place but it stays
pub stay_but : (part : Place) (new k : Kid) {slot : ℕ} {stored : Bool} {plot : Plot} → Reaches part k
    → kid_at part k ≡ at slot stored plot → IsClosed (body_in plot) → StayPutBut part k (put_at part new k)
stay_but part new k {slot} {stored} {plot} reach is closed place ne = stay_at part new k reach place (λ rest e. go rest e)
  where
    go : (rest : Place) → place ≡ part ++ rest → StaysPut (kid_at part k) new rest
    go [] e placed = absurd (ne (e ∙ append-nil part))
    go (i ∷ rest) e placed = absurd (closed_below is closed i rest placed)

-- in the same slot: each place that isn't strictly beneath it stays
pub stay_but_beneath : (part : Place) {new : Kid} (k : Kid) {slot : ℕ} {was mark : Bool} {old plot : Plot} → Reaches part k
    → kid_at part k ≡ at slot was old → new ≡ at slot mark plot → StayPutButBeneath part k (put_at part new k)
stay_but_beneath part {new} k reach is now place beside = stay_at part new k reach place (λ rest e. go rest e)
  where
    go : (rest : Place) → place ≡ part ++ rest → StaysPut (kid_at part k) new rest
    go [] e placed =
        subst (λ (x : Kid). IsPlaced x [] × (slot_at x [] ≡ slot_at (kid_at part k) [])) (sym now)
        (record { reaches = tt; here = tt }, sym (ap slot_here is))
    go (i ∷ rest) e placed = absurd (beside (record { step = i; rest = rest; way = e }))

-- Open builders.

-- what stands is what is shown
pub stay_shown : {plan : Plan} (slots : List Slot) {stack : List ℕ} {place : Place} {k : Kid} (before : Kid)
    → Stands plan (heap_of slots) stack place k → AllStayPut before k → AllStayPut before (kid_here slots stack)
stay_shown {plan} slots {stack} {place} {k} before stands stay =
    subst (λ (x : Kid). AllStayPut before x) (sym (kid_is stands)) stay

-- slots that show the same
pub stay_refused : {plan : Plan} {before : List Slot} (after : List Slot) {stack : List ℕ} → IsOpen plan before stack
    → Shows after (heap_of before) → AllStayPut (kid_here before stack) (kid_here after stack)
stay_refused {plan} {before} after {stack} open_now shows = stay_shown after (kid_here before stack) (record {
  holds =
      holds_frame plan (heap_of before) (heap_of after) plan.root FrameOwner.Root 0 (kid_here before stack)
      open_now.stands.holds (λ n h. shows n);
  once = open_now.stands.once;
  leads = open_now.stands.leads;
  along = open_now.stands.along;
  left = open_now.stands.left;
}) (stay_same (kid_here before stack))
