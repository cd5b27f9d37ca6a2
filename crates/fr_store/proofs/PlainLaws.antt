-- Laws of places that are no conversions, for proofs: none of their children is in a slot.
use Rattle.std.proofs.Common.{◌≡◌, Bool, false, List, ℕ, refl, sym, ◌∙◌, ap, subst}
use Rattle.fr_store.specs.Common.{AreLeftRightly, IsClosed, IsOpen, Kid, NothingStored, Place, Plan, Plot, Slot, Suits, Table, at, begun_plot, body_in, closed_plain, cursor_in, is_begun_conversion, is_conversion_body, kid_at, kid_here, left_at, open_reach, open_top, root_shape, shape_in, tree_at, tree_in, tree_in_slots, tree_of, tree_of_at}
use Rattle.fr_store.specs.MoveLaws.{closed_open}
use Rattle.fr_store.proofs.ClosingLaws.{suits_at}
use Rattle.fr_store.proofs.OffLaws.{reach_place}
use Rattle.fr_store.specs.Ways.{Reaches}

pub plot_plain : (plot : Plot) → is_begun_conversion (tree_in plot) ≡ is_conversion_body (body_in plot)
plot_plain (begun_plot tracker kids) = refl
plot_plain _ = refl

-- what lies in a slot and has no child in one is no conversion
pub plain_at : (table : Table) (s : ℕ) (place : Place) (k : Kid) {slot : ℕ} {stored : Bool} {plot : Plot} → Suits table s (tree_of k)
    → AreLeftRightly k → Reaches place k → kid_at place k ≡ at slot stored plot → IsClosed (body_in plot)
    → is_conversion_body (body_in plot) ≡ false
plain_at table s place k {slot} {stored} {plot} suits left reach is closed =
    closed_plain table (shape_in table s place (tree_of k)) plot
    (subst (Suits table (shape_in table s place (tree_of k))) (sym (tree_of_at place k) ∙ ap tree_of is)
    (suits_at table s place (tree_of k) (reach_place place k reach) suits)) (subst AreLeftRightly is (left_at place k left)) closed

-- nor is the place at which a builder works where nothing is stored
pub open_plain : {plan : Plan} {slots : List Slot} {stack : List ℕ} (open_now : IsOpen plan slots stack) → NothingStored slots
    → (table : Table) → Suits table (root_shape plan) (tree_in_slots slots stack)
    → is_begun_conversion (tree_at (cursor_in slots stack) (tree_in_slots slots stack)) ≡ false
open_plain {plan} {slots} {stack} open_now none table suits =
    let top = open_top open_now in
    ap is_begun_conversion (sym (tree_of_at (cursor_in slots stack) (kid_here slots stack)) ∙ ap tree_of top.is)
    ∙ plot_plain top.plot ∙ plain_at table (root_shape plan) (cursor_in slots stack) (kid_here slots stack) suits
    open_now.stands.left (open_reach open_now) top.is (closed_open open_now none)
