-- Ways through places in slots: what lies at the end of a way of child numbers, what lies along it and beside it.
use Rattle.std.specs.Prelude.{◌≡◌, ℕ, zero, suc, ◌+◌, ◌<◌, Bool, true, false, List, [], ◌∷◌, nat_eq, if◌then◌else◌}
use Rattle.fr_store.specs.Below.{FrameOwner, Kid, Kids, NodeId, Place, Plan, Plot, at, begun_plot, child_node, child_owner, entered_plot, gone, kid, no_kids, there, whole_plot}

-- The end of a way.

abbrev pub count_kids : Kids → ℕ
count_kids no_kids = zero
count_kids (kid k ks) = suc (count_kids ks)

-- the child of this number (past the end there is none)
abbrev pub kid_nth : ℕ → Kids → Kid
kid_nth i no_kids = gone
kid_nth zero (kid k ks) = k
kid_nth (suc i) (kid k ks) = kid_nth i ks

abbrev pub kid_in_plot : ℕ → Plot → Kid
kid_in_plot i entered_plot = gone
kid_in_plot i (whole_plot v) = gone
kid_in_plot i (begun_plot tracker kids) = kid_nth i kids

abbrev pub kid_below : ℕ → Kid → Kid
kid_below i gone = gone
kid_below i (there v) = gone
kid_below i (at slot stored plot) = kid_in_plot i plot

-- what lies at a place
abbrev pub kid_at : Place → Kid → Kid
kid_at [] k = k
kid_at (i ∷ place) k = kid_at place (kid_below i k)

-- Something else at the end of a way.

abbrev pub put_nth : ℕ → Kid → Kids → Kids
put_nth i new no_kids = no_kids
put_nth zero new (kid k ks) = kid new ks
put_nth (suc i) new (kid k ks) = kid k (put_nth i new ks)

abbrev pub put_in_plot : ℕ → Kid → Plot → Plot
put_in_plot i new entered_plot = entered_plot
put_in_plot i new (whole_plot v) = whole_plot v
put_in_plot i new (begun_plot tracker kids) = begun_plot tracker (put_nth i new kids)

abbrev pub put_below : ℕ → Kid → Kid → Kid
put_below i new gone = gone
put_below i new (there v) = there v
put_below i new (at slot stored plot) = at slot stored (put_in_plot i new plot)

-- the same with something else at a place
abbrev pub put_at : Place → (new : Kid) → Kid → Kid
put_at [] new k = new
put_at (i ∷ place) new k = put_below i (put_at place new (kid_below i k)) k

-- Slots.

-- the slots from the top down to a place
abbrev pub slots_along : Place → Kid → List ℕ
slots_along [] gone = []
slots_along [] (there v) = []
slots_along [] (at slot stored plot) = slot ∷ []
slots_along (i ∷ place) gone = []
slots_along (i ∷ place) (there v) = []
slots_along (i ∷ place) (at slot stored plot) = slot ∷ slots_along place (kid_in_plot i plot)

-- the same without the place's own
abbrev pub slots_above : Place → Kid → List ℕ
slots_above [] k = []
slots_above (i ∷ place) gone = []
slots_above (i ∷ place) (there v) = []
slots_above (i ∷ place) (at slot stored plot) = slot ∷ slots_above place (kid_in_plot i plot)

abbrev pub counts_if : Bool → ℕ
counts_if same = if same then 1 else 0

-- how often a slot serves in it
abbrev mutual
  pub uses : Kid → ℕ → ℕ
  uses gone n = 0
  uses (there v) n = 0
  uses (at slot stored plot) n = counts_if (nat_eq slot n) + uses_in plot n

  pub uses_in : Plot → ℕ → ℕ
  uses_in entered_plot n = 0
  uses_in (whole_plot v) n = 0
  uses_in (begun_plot tracker kids) n = uses_among kids n

  pub uses_among : Kids → ℕ → ℕ
  uses_among no_kids n = 0
  uses_among (kid k ks) n = uses k n + uses_among ks n

-- Which of them are stored.

-- every place in a slot is marked so
abbrev mutual
  pub AllMarked : Bool → Kid → Type 0
  AllMarked mark gone = Unit {0}
  AllMarked mark (there v) = Unit {0}
  AllMarked mark (at slot stored plot) = (stored ≡ mark) × AllMarkedIn mark plot

  pub AllMarkedIn : Bool → Plot → Type 0
  AllMarkedIn mark entered_plot = Unit {0}
  AllMarkedIn mark (whole_plot v) = Unit {0}
  AllMarkedIn mark (begun_plot tracker kids) = AllMarkedAmong mark kids

  pub AllMarkedAmong : Bool → Kids → Type 0
  AllMarkedAmong mark no_kids = Unit {0}
  AllMarkedAmong mark (kid k ks) = AllMarked mark k × AllMarkedAmong mark ks

-- no place in a slot is stored
abbrev pub NoneStored : Kid → Type 0
NoneStored k = AllMarked false k

-- all children but one are stored, as far as they are in slots, and of that one something holds
abbrev pub StoredBut : ℕ → (Kid → Type 0) → Kids → Type 0
StoredBut i Below no_kids = ⊥
StoredBut zero Below (kid k ks) = Below k × AllMarkedAmong true ks
StoredBut (suc i) Below (kid k ks) = AllMarked true k × StoredBut i Below ks

abbrev pub StoredButIn : ℕ → (Kid → Type 0) → Plot → Type 0
StoredButIn i Below entered_plot = ⊥
StoredButIn i Below (whole_plot v) = ⊥
StoredButIn i Below (begun_plot tracker kids) = StoredBut i Below kids

-- The way leads to a place in a slot. No place on it is stored, and every other place in a slot is.
abbrev pub LeadsUnstored : Place → Kid → Type 0
LeadsUnstored [] gone = ⊥
LeadsUnstored [] (there v) = ⊥
LeadsUnstored [] (at slot stored plot) = (stored ≡ false) × AllMarkedIn true plot
LeadsUnstored (i ∷ place) gone = ⊥
LeadsUnstored (i ∷ place) (there v) = ⊥
LeadsUnstored (i ∷ place) (at slot stored plot) = (stored ≡ false) × StoredButIn i (λ below. LeadsUnstored place below) plot

-- the way goes on through places in slots that are begun
abbrev pub ReachesIn : ℕ → (Kid → Type 0) → Plot → Type 0
ReachesIn i Below entered_plot = ⊥
ReachesIn i Below (whole_plot v) = ⊥
ReachesIn i Below (begun_plot tracker kids) = (i < count_kids kids) × Below (kid_nth i kids)

abbrev pub Reaches : Place → Kid → Type 0
Reaches [] k = Unit {0}
Reaches (i ∷ place) gone = ⊥
Reaches (i ∷ place) (there v) = ⊥
Reaches (i ∷ place) (at slot stored plot) = ReachesIn i (λ below. Reaches place below) plot

-- What a place is, by what lies above it.

abbrev pub node_in_plot : Plan → NodeId → ℕ → Plot → NodeId
node_in_plot plan node i entered_plot = node
node_in_plot plan node i (whole_plot v) = node
node_in_plot plan node i (begun_plot tracker kids) = child_node plan node tracker i

abbrev pub node_below : Plan → NodeId → ℕ → Kid → NodeId
node_below plan node i gone = node
node_below plan node i (there v) = node
node_below plan node i (at slot stored plot) = node_in_plot plan node i plot

-- the plan's node of a place, that of the top being this
abbrev pub node_along : Plan → NodeId → Place → Kid → NodeId
node_along plan node [] k = node
node_along plan node (i ∷ place) k = node_along plan (node_below plan node i k) place (kid_below i k)

abbrev pub owner_in_plot : FrameOwner → (slot : ℕ) → ℕ → Plot → FrameOwner
owner_in_plot owner slot i entered_plot = owner
owner_in_plot owner slot i (whole_plot v) = owner
owner_in_plot owner slot i (begun_plot tracker kids) = child_owner slot i

abbrev pub owner_below : FrameOwner → ℕ → Kid → FrameOwner
owner_below owner i gone = owner
owner_below owner i (there v) = owner
owner_below owner i (at slot stored plot) = owner_in_plot owner slot i plot

-- the owner of a place, that of the top being this
abbrev pub owner_along : FrameOwner → Place → Kid → FrameOwner
owner_along owner [] k = owner
owner_along owner (i ∷ place) k = owner_along (owner_below owner i k) place (kid_below i k)
