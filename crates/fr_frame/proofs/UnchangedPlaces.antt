-- Places that stay as they are: one that is begun again, and a list, of whose items no validator is told.
use Rattle.std.proofs.Common.{◌≡◌, ℕ, true, false, List, Option, Some, None, IsSomeAnd, refl, sym, ◌∙◌, ap, subst}
use Rattle.fr_frame.specs.Common.{Body, Heap, IfInUse, ItemsKind, Meanings, Node, Shows, Slot, Table, Tracker, as_items, begun_body, fields_of_tracker, heap_of, invalid, is_begun_body, is_conversion, is_list_body, opened, with_body, with_slot}
use Rattle.fr_frame.specs.Outlines.{has_items}
use Rattle.fr_frame.proofs.HeapLaws.{changed, with_same}
use Rattle.fr_frame.proofs.ChangedPlaces.{found_so, in_use_so}
use Rattle.fr_frame.proofs.AskLaws.{others_valid}

-- a place that is changed to what it was
unchanged : (heap : Heap) (n : ℕ) (change : Body → Body) → IsSomeAnd (heap n) (λ (at : Node). change at.body ≡ at.body)
    → heap ≡ with_body heap n change
unchanged heap n change same =
    let at = found_so (heap n) (λ (x : Node). change x.body ≡ x.body) same in
    sym (ap (λ (found : Option Node). with_slot heap n (changed change found)) at.1
    ∙ ap (λ (b : Body). with_slot heap n (Some (record at.0 { body = b }))) at.2 ∙ ap (with_slot heap n) (sym at.1) ∙ with_same heap n)

opened_begun : (tracker : Tracker) (count : ℕ) (body : Body) → is_begun_body body ≡ true → opened tracker count body ≡ body
opened_begun tracker count (begun_body before cells) begun = refl
opened_begun tracker count _ begun = cc

-- a place that is begun already stays so
pub begun_before : (slots : List Slot) (n : ℕ) (tracker : Tracker) (count : ℕ)
    → IfInUse slots n (λ (at : Node). is_begun_body at.body ≡ true)
    → Shows slots (with_body (heap_of slots) n (opened tracker count))
begun_before slots n tracker count begun =
    subst (Shows slots) (unchanged (heap_of slots) n (opened tracker count)
    (in_use_so slots n (λ (at : Node). is_begun_body at.body ≡ true) (λ (at : Node). opened tracker count at.body ≡ at.body)
    (λ at. opened_begun tracker count at.body) begun)) (λ m. refl)

parts_of_items : (tracker : Tracker) → has_items tracker ≡ true → fields_of_tracker tracker ≡ None
parts_of_items (as_items ItemsKind.List) items = refl
parts_of_items (as_items ItemsKind.Slice) items = refl
parts_of_items (as_items ItemsKind.ClosedSlice) items = refl
parts_of_items _ items = cc

plain_items : (tracker : Tracker) → has_items tracker ≡ true → is_conversion tracker ≡ false
plain_items (as_items kind) items = refl
plain_items _ items = cc

-- the items of a list have no validators
pub list_valid : (means : Meanings) (table : Table) (s : ℕ) (body : Body) → is_list_body body ≡ true
    → invalid means table s body ≡ None
list_valid means table s (begun_body tracker cells) list =
    others_valid means table s tracker (parts_of_items tracker list) (plain_items tracker list) 0 cells
list_valid means table s _ list = refl
