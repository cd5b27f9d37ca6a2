-- Releases in turn: of a list in two parts, and what they make of held tokens and the ledger.
use Rattle.std.proofs.Common.{◌≡◌, ℕ, ◌+◌, ◌<◌, true, List, [], ◌∷◌, ◌++◌, length, get_or, lt-ltb, nat_lt, drop, refl, sym, ap, ◌∙◌, arith}
use Rattle.std.proofs.lemmas.List.{drop_more}
use Rattle.std.proofs.lemmas.Bool.Decides.{nat_tests}
use Rattle.fr_shape.specs.declared.value.Value.{Value}
use Rattle.fr_shape.specs.Val.{Val}
use Rattle.fr_shape.specs.View.{view, vals_view, entries_view}
use Rattle.fr_shape.specs.Tokens.{tokens, vals_tokens, entries_tokens, times, occurs}
use Rattle.fr_shape.specs.Released.{Room, RoseBy}
use Rattle.fr_shape.specs.TokenLaws.{times_append, both, one, RoseBy_one, RoseBy_both, RoseBy_nothing, RoseBy_same, Room_same, Room_left, Room_risen, occurs_times}
use Rattle.fr_shape.specs.InTurn.{raised, released, can_release}

pub released_append : (ss ts ledger : List ℕ) → released (ss ++ ts) ledger ≡ released ts (released ss ledger)
released_append [] ts ledger = refl
released_append (s ∷ ss) ts ledger = released_append ss ts (raised s ledger)

pub front_can : (ss ts ledger : List ℕ) → can_release (ss ++ ts) ledger ≡ true → can_release ss ledger ≡ true
front_can [] ts ledger can = refl
front_can (s ∷ ss) ts ledger can = grind (arith, front_can ss ts (raised s ledger))

pub back_can : (ss ts ledger : List ℕ) → can_release (ss ++ ts) ledger ≡ true → can_release ts (released ss ledger) ≡ true
back_can [] ts ledger can = can
back_can (s ∷ ss) ts ledger can = grind (arith, back_can ss ts (raised s ledger))

one_more : (s : ℕ) (ss : List ℕ) (t : ℕ) → times (s ∷ ss) t ≡ both (one s) (times ss) t
one_more s ss t = omega (arith, times_append (s ∷ []) ss t)

one_self : (s : ℕ) → one s s ≡ 1
one_self s = grind (arith, nat_tests)

-- what room for a list says of its first token, and of the others once that is released
module _ (s : ℕ) (ss ledger : List ℕ) (room : Room (times (s ∷ ss)) ledger) where
  parts : Room (both (one s) (times ss)) ledger
  parts = Room_same (times (s ∷ ss)) (both (one s) (times ss)) ledger (one_more s ss) room

  known : s < length ledger
  known = let held : 0 < one s s = omega (arith, one_self s) in (Room_left (one s) (times ss) ledger parts s held).0

  below : get_or ledger s 0 < 4294967295
  below =
      let held : 0 < one s s = omega (arith, one_self s) in
      omega (arith, (Room_left (one s) (times ss) ledger parts s held).1, one_self s)

  others : Room (times ss) (raised s ledger)
  others = Room_risen (one s) (times ss) ledger (raised s ledger) parts (RoseBy_one s ledger known)

-- room for what is held is room for each release in its turn
pub can_times : (ts ledger : List ℕ) → Room (times ts) ledger → can_release ts ledger ≡ true
can_times [] ledger room = refl
can_times (s ∷ ss) ledger room =
    let first : nat_lt s (length ledger) ≡ true = lt-ltb s (length ledger) (known s ss ledger room) in
    let second : nat_lt (get_or ledger s 0) 4294967295 ≡ true = lt-ltb (get_or ledger s 0) 4294967295 (below s ss ledger room) in
    rw (first, second) (can_times ss (raised s ledger) (others s ss ledger room))

-- and each count rises by as many
pub rose_times : (ts ledger : List ℕ) → Room (times ts) ledger → RoseBy (times ts) ledger (released ts ledger)
rose_times [] ledger room = RoseBy_nothing ledger
rose_times (s ∷ ss) ledger room =
    RoseBy_same (both (one s) (times ss)) (times (s ∷ ss)) ledger (released ss (raised s ledger))
    (λ t. sym (one_more s ss t))
    (RoseBy_both (one s) (times ss) ledger (raised s ledger) (released ss (raised s ledger))
    (RoseBy_one s ledger (known s ss ledger room)) (rose_times ss (raised s ledger) (others s ss ledger room)))

-- a value's tokens can be released where there is room for it
pub value_can : (v : Val) (ledger : List ℕ) → Room (occurs v) ledger → can_release (tokens v) ledger ≡ true
value_can v ledger room =
    can_times (tokens v) ledger (Room_same (occurs v) (times (tokens v)) ledger (occurs_times v) room)

-- and their releases are what it held
pub value_rose : (v : Val) (ledger : List ℕ) → Room (occurs v) ledger → RoseBy (occurs v) ledger (released (tokens v) ledger)
value_rose v ledger room =
    RoseBy_same (times (tokens v)) (occurs v) ledger (released (tokens v) ledger) (λ t. sym (occurs_times v t))
    (rose_times (tokens v) ledger (Room_same (occurs v) (times (tokens v)) ledger (occurs_times v) room))

-- A loop over a list: what the item at `i` and those after it ask for, and lead to.

from_item : {X : Type 0} (xs : List X) (i : ℕ) (x : X) → i < length xs → x ≡ get_or xs i x → drop i xs ≡ x ∷ drop (i + 1) xs
from_item xs i x h is = drop_more xs i x h ∙ ap (λ y. y ∷ drop (i + 1) xs) (sym is)

module _ (xs : List Value) (i : ℕ) (x : Value) (h : i < length xs) (is : x ≡ get_or xs i x) (ledger : List ℕ) where
  values_from : vals_tokens (vals_view (drop i xs)) ≡ tokens (view x) ++ vals_tokens (vals_view (drop (i + 1) xs))
  values_from = ap (λ (ys : List Value). vals_tokens (vals_view ys)) (from_item xs i x h is)

  pub value_can_now : can_release (vals_tokens (vals_view (drop i xs))) ledger ≡ true → can_release (tokens (view x)) ledger ≡ true
  value_can_now can =
      front_can (tokens (view x)) (vals_tokens (vals_view (drop (i + 1) xs))) ledger
      (sym (ap (λ (ts : List ℕ). can_release ts ledger) values_from) ∙ can)

  pub values_can_next : can_release (vals_tokens (vals_view (drop i xs))) ledger ≡ true → can_release (vals_tokens (vals_view (drop (i + 1) xs))) (released (tokens (view x)) ledger) ≡ true
  values_can_next can =
      back_can (tokens (view x)) (vals_tokens (vals_view (drop (i + 1) xs))) ledger
      (sym (ap (λ (ts : List ℕ). can_release ts ledger) values_from) ∙ can)

  pub values_next : released (vals_tokens (vals_view (drop (i + 1) xs))) (released (tokens (view x)) ledger) ≡ released (vals_tokens (vals_view (drop i xs))) ledger
  values_next =
      sym (released_append (tokens (view x)) (vals_tokens (vals_view (drop (i + 1) xs))) ledger)
      ∙ sym (ap (λ (ts : List ℕ). released ts ledger) values_from)

module _ (es : List (Value × Value)) (i : ℕ) (e : Value × Value) (h : i < length es) (is : e ≡ get_or es i e) (ledger : List ℕ) where
  abbrev here : List ℕ
  here = entries_tokens (entries_view (drop i es))

  abbrev next : List ℕ
  next = entries_tokens (entries_view (drop (i + 1) es))

  entries_from : here ≡ tokens (view e.0) ++ (tokens (view e.1) ++ next)
  entries_from = ap (λ (ds : List (Value × Value)). entries_tokens (entries_view ds)) (from_item es i e h is)

  entry_can : can_release here ledger ≡ true → can_release (tokens (view e.0) ++ (tokens (view e.1) ++ next)) ledger ≡ true
  entry_can can = sym (ap (λ (ts : List ℕ). can_release ts ledger) entries_from) ∙ can

  pub key_can_now : can_release here ledger ≡ true → can_release (tokens (view e.0)) ledger ≡ true
  key_can_now can = front_can (tokens (view e.0)) (tokens (view e.1) ++ next) ledger (entry_can can)

  after_key : can_release here ledger ≡ true → can_release (tokens (view e.1) ++ next) (released (tokens (view e.0)) ledger) ≡ true
  after_key can = back_can (tokens (view e.0)) (tokens (view e.1) ++ next) ledger (entry_can can)

  pub entry_can_now : can_release here ledger ≡ true → can_release (tokens (view e.1)) (released (tokens (view e.0)) ledger) ≡ true
  entry_can_now can = front_can (tokens (view e.1)) next (released (tokens (view e.0)) ledger) (after_key can)

  pub entries_can_next : can_release here ledger ≡ true → can_release next (released (tokens (view e.1)) (released (tokens (view e.0)) ledger)) ≡ true
  entries_can_next can = back_can (tokens (view e.1)) next (released (tokens (view e.0)) ledger) (after_key can)

  pub entries_next : released next (released (tokens (view e.1)) (released (tokens (view e.0)) ledger)) ≡ released here ledger
  entries_next =
      sym (released_append (tokens (view e.1)) next (released (tokens (view e.0)) ledger))
      ∙ sym (released_append (tokens (view e.0)) (tokens (view e.1) ++ next) ledger)
      ∙ sym (ap (λ (ts : List ℕ). released ts ledger) entries_from)
