-- Laws of ways in two parts, and of children of a begun place, for proofs.
use Rattle.std.proofs.Common.{◌≡◌, ℕ, zero, suc, ◌<◌, Bool, true, false, List, [], ◌∷◌, ◌++◌, nat_eq, Some, slice_get, set, refl, sym, ◌∙◌, ap, subst, arith}
use Rattle.std.specs.Prelude.{if◌then◌else◌}
use Rattle.std.proofs.lemmas.Grind.{common_steps}
use Rattle.std.proofs.lemmas.Bool.Decides.{nat_tests}
use Rattle.fr_store.specs.Below.{Cell, FrameOwner, Kid, Kids, MayHave, Place, Plot, Tracker, absent, at, begun_body, begun_plot, cell_at, cell_of, cells_in, gone, is_root, kid, no_kids, placed, unlinked, unlinked_by, up, with_cell}
use Rattle.fr_store.specs.Ways.{count_kids, kid_nth, kid_below, kid_at, put_nth, put_below, put_at, slots_above, LeadsUnstored, owner_along, owner_below}
use Rattle.fr_store.specs.WayLaws.{count_put, leads_at}

-- Ways in two parts.

pub kid_at_append : (place below : Place) (k : Kid) → kid_at (place ++ below) k ≡ kid_at below (kid_at place k)
kid_at_append [] below k = refl
kid_at_append (i ∷ place) below k = kid_at_append place below (kid_below i k)

pub owner_append : (owner : FrameOwner) (place : Place) (i : ℕ) (k : Kid)
    → owner_along owner (place ++ i ∷ []) k ≡ owner_below (owner_along owner place k) i (kid_at place k)
owner_append owner [] i k = refl
owner_append owner (j ∷ place) i k = owner_append (owner_below owner j k) place i (kid_below j k)

pub put_append : (place below : Place) (new k : Kid)
    → put_at (place ++ below) new k ≡ put_at place (put_at below new (kid_at place k)) k
put_append [] below new k = refl
put_append (i ∷ place) below new k = ap (λ (x : Kid). put_below i x k) (put_append place below new (kid_below i k))

pub above_append : (place : Place) (i : ℕ) (k : Kid) → LeadsUnstored (place ++ i ∷ []) k → {q : ℕ} {stored : Bool} {plot : Plot}
    → kid_at place k ≡ at q stored plot → slots_above (place ++ i ∷ []) k ≡ slots_above place k ++ q ∷ []
above_append [] i (at slot s p) leads {q} e =
    let same : slot ≡ q = cc in ap (λ (n : ℕ). n ∷ []) same
above_append [] i _ leads e = absurd leads
above_append (j ∷ place) i (at slot s (begun_plot tracker kids)) leads {q} {stored} {plot} e =
    ap (λ (slots : List ℕ). slot ∷ slots)
    (above_append place i (kid_nth j kids) (leads_at (j ∷ []) (place ++ i ∷ []) (at slot s (begun_plot tracker kids)) leads) e)
above_append (j ∷ place) i (at slot s _) leads e = absurd leads.1
above_append (j ∷ place) i _ leads e = absurd leads

-- a place that isn't the root's has one above
pub below_root : (place : Place) → is_root place ≡ false → (above : Place) × (i : ℕ) × (place ≡ above ++ i ∷ [])
below_root [] h = absurd (cc)
below_root (i ∷ []) h = ([], i, refl)
below_root (i ∷ j ∷ place) h =
    let rest = below_root (j ∷ place) refl in
    (i ∷ rest.0, rest.1, ap (λ (p : Place). i ∷ p) rest.2)

pub up_append : (above : Place) (i : ℕ) → up (above ++ i ∷ []) ≡ above
up_append [] i = refl
up_append (j ∷ []) i = refl
up_append (j ∷ m ∷ above) i = ap (λ (p : Place). j ∷ p) (up_append (m ∷ above) i)

-- Cells.

pub cells_nth : (i : ℕ) (ks : Kids) → i < count_kids ks → slice_get (cells_in ks) i ≡ Some (cell_of (kid_nth i ks))
cells_nth i no_kids h = absurd (omega arith)
cells_nth zero (kid k ks) h = refl
cells_nth (suc i) (kid k ks) h = cells_nth i ks (omega arith)

pub cells_put : (i : ℕ) (new : Kid) (ks : Kids) → set (cells_in ks) i (cell_of new) ≡ cells_in (put_nth i new ks)
cells_put i new no_kids = refl
cells_put zero new (kid k ks) = refl
cells_put (suc i) new (kid k ks) = ap (λ (cs : List Cell). cell_of k ∷ cs) (cells_put i new ks)

pub cell_of_child : (tracker : Tracker) (i : ℕ) (ks : Kids) → MayHave tracker (count_kids ks) → i < count_kids ks
    → cell_at (begun_body tracker (cells_in ks)) i ≡ Some (cell_of (kid_nth i ks))
cell_of_child tracker i ks may h = cells_nth i ks h

pub with_child : (tracker : Tracker) (i : ℕ) (new : Kid) (ks : Kids) → MayHave tracker (count_kids ks) → i < count_kids ks
    → with_cell (begun_body tracker (cells_in ks)) i (cell_of new) ≡ begun_body tracker (cells_in (put_nth i new ks))
with_child tracker i new ks may h = ap (begun_body tracker) (cells_put i new ks)

-- as many children as before
pub may_have_put : (tracker : Tracker) (i : ℕ) (new : Kid) (ks : Kids) → MayHave tracker (count_kids ks)
    → MayHave tracker (count_kids (put_nth i new ks))
may_have_put tracker i new ks may = subst (λ (n : ℕ). MayHave tracker n) (sym (count_put i new ks)) may

pub within_put : (i : ℕ) (new : Kid) (ks : Kids) → i < count_kids ks → i < count_kids (put_nth i new ks)
within_put i new ks h = subst (λ (n : ℕ). i < n) (sym (count_put i new ks)) h

pub unlinked_child : (tracker : Tracker) (i n : ℕ) (ks : Kids) → MayHave tracker (count_kids ks) → i < count_kids ks
    → cell_of (kid_nth i ks) ≡ placed n
    → unlinked n i (begun_body tracker (cells_in ks)) ≡ begun_body tracker (cells_in (put_nth i gone ks))
unlinked_child tracker i n ks may h is =
    let e : nat_eq n n ≡ true = grind (arith, common_steps, nat_tests) in
    ap (unlinked_by n i (begun_body tracker (cells_in ks))) (cell_of_child tracker i ks may h ∙ ap (λ (c : Cell). Some c) is) ∙ ap
    (λ (b : Bool). if b then with_cell (begun_body tracker (cells_in ks)) i absent
    else begun_body tracker (cells_in ks)) e ∙ with_child tracker i gone ks may h
