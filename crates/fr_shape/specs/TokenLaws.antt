-- Laws of tokens and ledgers, for proofs: how the words on held and released tokens fit together.
use Rattle.std.proofs.Common.{◌≡◌, ℕ, ◌+◌, ◌<◌, ◌≤◌, cond, List, ◌++◌, length, get_or, set, length-set, nat_eq, refl, ◌∙◌, arith}
use Rattle.std.proofs.lemmas.List.Sums.{sum_by-append}
use Rattle.std.proofs.lemmas.Grind.{common_steps}
use Rattle.std.proofs.lemmas.Bool.Decides.{nat_tests}
use Rattle.fr_shape.specs.Val.{Val, Vals, Entries, unit, bool, char, int, nat, text, token, product, variant, none, some, ok, err, list_of, map_of, set_of, ptr, dyn, no_vals, first, no_entries, entry}
use Rattle.fr_shape.specs.Tokens.{tokens, vals_tokens, entries_tokens, times, occurs, vals_occur, entries_occur}
use Rattle.fr_shape.specs.Released.{Room, RoseBy, Conserved}

-- holding both: the counts add up
abbrev pub both : (ℕ → ℕ) → (ℕ → ℕ) → ℕ → ℕ
both f g t = f t + g t

-- holding nothing
abbrev pub nothing : ℕ → ℕ
nothing t = 0

pub times_append : (ss ts : List ℕ) (t : ℕ) → times (ss ++ ts) t ≡ times ss t + times ts t
times_append ss ts t = sum_by-append (λ s. cond (nat_eq s t) 1 0) ss ts

mutual
  -- how often a token occurs is how often it stands among the tokens
  pub occurs_times : (v : Val) (t : ℕ) → occurs v t ≡ times (tokens v) t
  occurs_times unit t = refl
  occurs_times (bool b) t = refl
  occurs_times (char c) t = refl
  occurs_times (int z) t = refl
  occurs_times (nat n) t = refl
  occurs_times (text s) t = refl
  occurs_times (token s) t = omega arith
  occurs_times (product vs) t = vals_occur_times vs t
  occurs_times (variant i vs) t = vals_occur_times vs t
  occurs_times none t = refl
  occurs_times (some v) t = occurs_times v t
  occurs_times (ok v) t = occurs_times v t
  occurs_times (err v) t = occurs_times v t
  occurs_times (list_of vs) t = vals_occur_times vs t
  occurs_times (map_of es) t = entries_occur_times es t
  occurs_times (set_of vs) t = vals_occur_times vs t
  occurs_times (ptr v) t = occurs_times v t
  occurs_times (dyn d) t = refl

  pub vals_occur_times : (vs : Vals) (t : ℕ) → vals_occur vs t ≡ times (vals_tokens vs) t
  vals_occur_times no_vals t = refl
  vals_occur_times (first v vs) t =
      omega (arith, times_append (tokens v) (vals_tokens vs) t, occurs_times v t, vals_occur_times vs t)

  pub entries_occur_times : (es : Entries) (t : ℕ) → entries_occur es t ≡ times (entries_tokens es) t
  entries_occur_times no_entries t = refl
  entries_occur_times (entry k v es) t =
      omega
      (arith, times_append (tokens k) (tokens v ++ entries_tokens es) t, times_append (tokens v) (entries_tokens es) t, occurs_times k t, occurs_times v t, entries_occur_times es t)

-- Room. What has room by itself: a part of what has, and what is left of it.

pub Room_same : (f g : ℕ → ℕ) (ledger : List ℕ) → ((t : ℕ) → f t ≡ g t) → Room f ledger → Room g ledger
Room_same f g ledger same room t h =
    let held : 0 < f t = omega (arith, h, same t) in (
      (room t held).0,
      omega (arith, (room t held).1, same t),
    )

-- what is held at most as often has room too
pub Room_fewer : (f g : ℕ → ℕ) (ledger : List ℕ) → ((t : ℕ) → f t ≤ g t) → Room g ledger → Room f ledger
Room_fewer f g ledger fewer room t h =
    let held : 0 < g t = omega (arith, h, fewer t) in (
      (room t held).0,
      omega (arith, (room t held).1, fewer t),
    )

pub Room_left : (f g : ℕ → ℕ) (ledger : List ℕ) → Room (both f g) ledger → Room f ledger
Room_left f g ledger = Room_fewer f (both f g) ledger (λ t. omega arith)

-- what is left has room in the ledger that the rest was released into
pub Room_conserved : (held : ℕ → ℕ) (before : List ℕ) (left : ℕ → ℕ) (after : List ℕ) → Conserved held before left after → Room held before → Room left after
Room_conserved held before left after c room t h =
    let was : 0 < held t = omega (arith, h, c.kept_or_released t, c.none_falls t) in (
      omega (arith, (room t was).0, c.same_length),
      omega (arith, (room t was).1, c.kept_or_released t),
    )

-- Rises

pub RoseBy_nothing : (ledger : List ℕ) → RoseBy nothing ledger ledger
RoseBy_nothing ledger = record { same_length = refl; each = λ t. omega arith }

pub RoseBy_same : (f g : ℕ → ℕ) (before after : List ℕ) → ((t : ℕ) → f t ≡ g t) → RoseBy f before after → RoseBy g before after
RoseBy_same f g before after same r =
    record { same_length = r.same_length; each = λ t. omega (arith, r.each t, same t) }

-- one release after another
pub RoseBy_both : (f g : ℕ → ℕ) (before between after : List ℕ) → RoseBy f before between → RoseBy g between after → RoseBy (both f g) before after
RoseBy_both f g before between after r s = record {
  same_length = s.same_length ∙ r.same_length;
  each = λ t. omega (arith, r.each t, s.each t);
}

-- the other part keeps its room
pub Room_risen : (f g : ℕ → ℕ) (before after : List ℕ) → Room (both f g) before → RoseBy f before after → Room g after
Room_risen f g before after room r t h =
    let held : 0 < both f g t = omega (arith, h) in (
      omega (arith, (room t held).0, r.same_length),
      omega (arith, (room t held).1, r.each t),
    )

-- Conserved

pub Conserved_same : (f g : ℕ → ℕ) (before : List ℕ) (f' g' : ℕ → ℕ) (after : List ℕ) → ((t : ℕ) → f t ≡ g t) → ((t : ℕ) → f' t ≡ g' t) → Conserved f before f' after → Conserved g before g' after
Conserved_same f g before f' g' after same same' c = record {
  same_length = c.same_length;
  kept_or_released = λ t. omega (arith, c.kept_or_released t, same t, same' t);
  none_falls = c.none_falls;
}

-- what is held aside meanwhile
pub Conserved_aside : (held : ℕ → ℕ) (before : List ℕ) (left : ℕ → ℕ) (after : List ℕ) (aside : ℕ → ℕ) → Conserved held before left after → Conserved (both held aside) before (both left aside) after
Conserved_aside held before left after aside c = record {
  same_length = c.same_length;
  kept_or_released = λ t. omega (arith, c.kept_or_released t);
  none_falls = c.none_falls;
}

-- the other part keeps its room
pub Room_aside : (held : ℕ → ℕ) (before : List ℕ) (left : ℕ → ℕ) (after : List ℕ) (aside : ℕ → ℕ) → Conserved held before left after → Room (both held aside) before → Room (both left aside) after
Room_aside held before left after aside c =
    Room_conserved (both held aside) before (both left aside) after (Conserved_aside held before left after aside c)

-- one token, whose count is raised by one
abbrev pub one : ℕ → ℕ → ℕ
one s t = cond (nat_eq s t) 1 0

pub RoseBy_one : (s : ℕ) (ledger : List ℕ) → s < length ledger → RoseBy (one s) ledger (set ledger s (get_or ledger s 0 + 1))
RoseBy_one s ledger h = record { same_length = length-set ledger s (get_or ledger s 0 + 1); each = λ t. grind (arith, common_steps, nat_tests) }
