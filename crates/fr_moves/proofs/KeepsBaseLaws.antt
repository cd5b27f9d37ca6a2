-- What a place keeps as it comes to hold its value: a map has its base still, and nothing that is never stored is.
use Rattle.std.proofs.Common.{◌≡◌, ◌≤◌, ◌||◌, ℕ, suc, ◌+◌, false, List, [], ◌∷◌, length, Some, refl, sym, subst, arith, Bool, true, None}
use Rattle.fr_moves.specs.Common.{Body, Cell, EntriesKind, KeepsTracker, Plot, Tracker, Val, Vals, as_entries, base_of_tracker, begun_body, begun_plot, body_in, entered_body, entered_plot, given, gone, value_of, whole_body, whole_plot}
use Rattle.fr_model.specs.Places.{entry_of}
use Rattle.fr_frame.specs.Bodies.{boxes, gathers}
use Rattle.fr_values.specs.Cells.{values_of}
use Rattle.fr_frame.specs.Kids.{kids_in, AreLeftIn, AreLeftAll}
use Rattle.fr_store.specs.HereLaws.{closed_plot}
use Rattle.fr_store.specs.LeftLaws.{left_end, left_value}
use Rattle.fr_store.specs.TopLaws.{cells_count}
use Rattle.fr_store.specs.ValueLaws.{made_of, made_value, more_is}
use Rattle.fr_model.specs.Trackers.{is_conversion}

-- where each child has its value, none of the base is missing, if there are as many as that
all_given : (tracker : Tracker) (i : ℕ) (cells : List Cell) (vs : Vals) (m : ℕ) → is_conversion tracker ≡ false → m ≡ i + length cells
    → base_of_tracker tracker ≤ entry_of m
    → values_of cells ≡ Some vs → AreLeftAll tracker i (kids_in (λ slot. gone) cells)
all_given tracker i [] vs m plain many past e =
    let same : m ≡ i = omega (arith, many) in
    subst (λ (n : ℕ). base_of_tracker tracker ≤ entry_of n) same past
all_given tracker i (given v ∷ cells) vs m plain many past e =
    let rest = more_is v (values_of cells) e in
    (left_value tracker i v plain, tt, all_given tracker (suc i) cells rest.0 m plain (omega (arith, many)) past rest.1)
all_given tracker i _ vs m plain many past e = absurd (cc)

-- no conversion makes its value by itself
makes_plain : (tracker : Tracker) (cells : List Cell) (v : Val) → value_of (begun_body tracker cells) ≡ Some v → is_conversion tracker ≡ false
makes_plain tracker cells v held = go (is_conversion tracker) refl
  where
    go : (b : Bool) → is_conversion tracker ≡ b → is_conversion tracker ≡ false
    go false e = e
    go true e = let no : None ≡ Some v = rw e at held in cc

no_base_of : (tracker : Tracker) → (boxes tracker || gathers tracker) ≡ false → base_of_tracker tracker ≡ 0
no_base_of (as_entries (EntriesKind.Map base)) h = cc
no_base_of _ h = refl

begun_left : (tracker : Tracker) (cells : List Cell) (v : Val) → base_of_tracker tracker ≤ entry_of (length cells)
    → value_of (begun_body tracker cells) ≡ Some v → AreLeftIn (closed_plot (begun_body tracker cells))
begun_left tracker cells v past held =
    let values = made_of tracker (values_of cells) (made_value tracker cells held) in
    all_given tracker 0 cells values.0 (length cells) (makes_plain tracker cells v held) (omega arith) past values.1

-- what holds its value, and kept its tracker, keeps what it had
pub held_left : (plot : Plot) (now : Body) (v : Val) → KeepsTracker (body_in plot) now → value_of now ≡ Some v → AreLeftIn plot
    → AreLeftIn (closed_plot now)
held_left entered_plot (begun_body tracker cells) v keeps held left =
    begun_left tracker cells v (let none : base_of_tracker tracker ≡ 0 = no_base_of tracker keeps in omega (arith, none)) held
held_left (begun_plot tracker kids) (begun_body other cells) v keeps held left =
    let same : base_of_tracker other ≤ entry_of (length cells)
    = subst (λ (f : Tracker). base_of_tracker f ≤ entry_of (length cells)) (sym keeps.0)
    (left_end tracker 0 kids (length cells) (omega (arith, keeps.1, cells_count kids)) left) in
    begun_left other cells v same held
held_left (whole_plot v) (begun_body tracker cells) w keeps held left = cc
held_left plot entered_body v keeps held left = tt
held_left plot (whole_body w) v keeps held left = tt
