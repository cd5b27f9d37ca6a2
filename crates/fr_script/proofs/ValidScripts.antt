-- A script in which no command is invalid is one that may be handed to the builder.
use Rattle.std.proofs.Common.{◌≡◌, ◌≢◌, ◌⊎◌, inl, inr, ℕ, ◌+◌, ◌<◌, ◌≤◌, ◌&&◌, ◌||◌, not, nat_lt, nat_eq, cond, Bool, true, false, List, [], ◌∷◌, ◌++◌, length, get_or, Option, Some, None, refl, sym, subst, ◌∙◌, arith, zero-add}
use Rattle.std.proofs.lemmas.Bool.{ltb-true}
use Rattle.std.proofs.lemmas.Bool.Decides.{nat_tests, eqb_tells}
use Rattle.std.proofs.lemmas.List.Folds.{list_any-append}
use Rattle.std.specs.List.{list_any}
use Rattle.fr_shape.specs.Fits.{fits}
use Rattle.fr_shape.specs.Look.{Table}
use Rattle.fr_shape.specs.Tokens.{tokens, times, occurs}
use Rattle.fr_shape.specs.TokenLaws.{times_append, occurs_times}
use Rattle.fr_shape.specs.Val.{Val}
use Rattle.fr_model.specs.Commands.{Call}
use Rattle.fr_model.specs.Scripts.{value_brought, tokens_if_any, tokens_of, occurs_if_any, FitsIfAny, brought, AllFitting, IsValid}
use Rattle.fr_script.specs.Documents.{is_new, are_new, may_be_brought, is_valid_call, first_invalid}

-- a token that comes n times comes as it may: once, as one of the ledger's, never released, and not brought before
record ComesNew (ledger before : List ℕ) (t n : ℕ) : Type 0 where
  once : n ≤ 1
  known : 0 < n → t < length ledger
  unreleased : 0 < n → get_or ledger t 0 ≡ 0
  new : 0 < n → list_any (nat_eq t) before ≡ false

both : (a b : Bool) → (a && b) ≡ true → (a ≡ true) × (b ≡ true)
both true b is = (refl, is)
both false b is = cc

neither : (a b : Bool) → (a || b) ≡ false → (a ≡ false) × (b ≡ false)
neither true b is = cc
neither false b is = (refl, is)

not_true : (a : Bool) → not a ≡ true → a ≡ false
not_true true is = sym is
not_true false is = refl

comes_never : (ledger before : List ℕ) (t n : ℕ) → n ≡ 0 → ComesNew ledger before t n
comes_never ledger before t n is = record {
  once = omega arith;
  known = λ some. absurd (omega arith);
  unreleased = λ some. absurd (omega arith);
  new = λ some. absurd (omega arith);
}

pub times_more : (s : ℕ) (ss : List ℕ) (t : ℕ) → times (s ∷ ss) t ≡ cond (nat_eq s t) 1 0 + times ss t
times_more s ss t = omega (arith, times_append (s ∷ []) ss t)

-- what isn't among them doesn't come
not_among : (ts : List ℕ) (t : ℕ) → list_any (nat_eq t) ts ≡ false → times ts t ≡ 0
not_among [] t none = refl
not_among (s ∷ ss) t none =
    let parts = neither (nat_eq t s) (list_any (nat_eq t) ss) none in
    let rest = not_among ss t parts.1 in
    grind (arith, nat_tests, times_more s ss t)

module _ (ledger : List ℕ) where
  this_one : (before : List ℕ) (s t n : ℕ) → s ≡ t → nat_lt s (length ledger) ≡ true → nat_eq (get_or ledger s 0) 0 ≡ true → list_any (nat_eq s) before ≡ false → ComesNew ledger (s ∷ before) t n → ComesNew ledger before t (1 + n)
  this_one before s t n same known unreleased new rest =
      let alone : n ≡ 0 = grind (arith, nat_tests, rest.new) in
      record {
        once = omega arith;
        known = λ some. grind (arith, nat_tests);
        unreleased = λ some. grind (arith, nat_tests);
        new = λ some. subst (λ u. list_any (nat_eq u) before ≡ false) same new;
      }

  another : (before : List ℕ) (s t n : ℕ) → ComesNew ledger (s ∷ before) t n → ComesNew ledger before t (0 + n)
  another before s t n rest = rw zero-add record {
    once = rest.once;
    known = rest.known;
    unreleased = rest.unreleased;
    new = λ some. (neither (nat_eq t s) (list_any (nat_eq t) before) (rest.new some)).1;
  }

  either : (before : List ℕ) (s t n : ℕ) → ((nat_eq s t ≡ true) × (s ≡ t)) ⊎ ((nat_eq s t ≡ false) × (s ≢ t)) → nat_lt s (length ledger) ≡ true → nat_eq (get_or ledger s 0) 0 ≡ true → list_any (nat_eq s) before ≡ false → ComesNew ledger (s ∷ before) t n → ComesNew ledger before t (cond (nat_eq s t) 1 0 + n)
  either before s t n (inl same) known unreleased new rest = rw same.0 (this_one before s t n same.1 known unreleased new rest)
  either before s t n (inr apart) known unreleased new rest = rw apart.0 (another before s t n rest)

  one_more : (before : List ℕ) (s : ℕ) (ss : List ℕ) (t : ℕ) → nat_lt s (length ledger) ≡ true → nat_eq (get_or ledger s 0) 0 ≡ true → list_any (nat_eq s) before ≡ false → ComesNew ledger (s ∷ before) t (times ss t) → ComesNew ledger before t (times (s ∷ ss) t)
  one_more before s ss t known unreleased new rest =
      rw (times_more s ss t) (either before s t (times ss t) (eqb_tells s t) known unreleased new rest)

  tokens_new : (ts before : List ℕ) (t : ℕ) → are_new ledger before ts ≡ true → ComesNew ledger before t (times ts t)
  tokens_new [] before t are = comes_never ledger before t 0 refl
  tokens_new (s ∷ ss) before t are =
      let first = both (nat_lt s (length ledger) && nat_eq (get_or ledger s 0) 0 && is_new s before) (are_new ledger (s ∷ before) ss) are in
      let tests = both (nat_lt s (length ledger) && nat_eq (get_or ledger s 0) 0) (is_new s before) first.0 in
      let counts = both (nat_lt s (length ledger)) (nat_eq (get_or ledger s 0) 0) tests.0 in
      one_more before s ss t counts.0 counts.1 (not_true (list_any (nat_eq s) before) tests.1) (tokens_new ss (s ∷ before) t first.1)

  -- what comes with a call, and what comes after it
  after : (before ts : List ℕ) (t m n : ℕ) → m ≡ times ts t → ComesNew ledger before t (times ts t) → ComesNew ledger (ts ++ before) t n → ComesNew ledger before t (m + n)
  after before ts t m n is now then =
      let parts : 0 < n → (list_any (nat_eq t) ts ≡ false) × (list_any (nat_eq t) before ≡ false) = λ some. neither (list_any (nat_eq t) ts) (list_any (nat_eq t) before) (sym (list_any-append (nat_eq t) ts before) ∙ then.new some) in
      let apart : 0 < n → times ts t ≡ 0 = λ some. not_among ts t (parts some).0 in
      record {
        once = grind (arith, now.once, then.once, apart);
        known = λ some. grind (arith, now.known, then.known);
        unreleased = λ some. grind (arith, now.unreleased, then.unreleased);
        new = λ some. grind (arith, now.new, parts);
      }

  module _ (table : Table) where
    chosen : (valid : Bool) (rest : Option ℕ) (i : ℕ) → cond valid rest (Some i) ≡ None → (valid ≡ true) × (rest ≡ None)
    chosen true rest i is = (refl, is)
    chosen false rest i is = cc

    -- the value, if there is one, comes as it may, and so does what comes after it
    value_new : (value : Option (ℕ × Val)) (before : List ℕ) (t n : ℕ) → may_be_brought table ledger before value ≡ true → ComesNew ledger (tokens_if_any value ++ before) t n → ComesNew ledger before t (occurs_if_any value t + n)
    value_new (Some (shape, v)) before t n may then =
        let tests = both (nat_lt shape (length table) && fits table shape v) (are_new ledger before (tokens v)) may in
        after before (tokens v) t (occurs v t) n (occurs_times v t) (tokens_new (tokens v) before t tests.1) then
    value_new None before t n may then = rw zero-add then

    script_new : (script : List Call) (before : List ℕ) (i t : ℕ) → first_invalid table ledger before i script ≡ None → ComesNew ledger before t (brought script t)
    script_new [] before i t is = comes_never ledger before t 0 refl
    script_new (call ∷ calls) before i t is =
        let parts = chosen (is_valid_call table ledger before call) (first_invalid table ledger (tokens_of call ++ before) (i + 1) calls) i is in
        value_new (value_brought call) before t (brought calls t) parts.0 (script_new calls (tokens_of call ++ before) (i + 1) t parts.1)

    value_fits : (value : Option (ℕ × Val)) (before : List ℕ) → may_be_brought table ledger before value ≡ true → FitsIfAny table value
    value_fits (Some (shape, v)) before may =
        let tests = both (nat_lt shape (length table) && fits table shape v) (are_new ledger before (tokens v)) may in
        let fitting = both (nat_lt shape (length table)) (fits table shape v) tests.0 in
        (ltb-true shape (length table) fitting.0, fitting.1)
    value_fits None before may = tt

    all_fit : (script : List Call) (before : List ℕ) (i : ℕ) → first_invalid table ledger before i script ≡ None → AllFitting table script
    all_fit [] before i is = tt
    all_fit (call ∷ calls) before i is =
        let parts = chosen (is_valid_call table ledger before call) (first_invalid table ledger (tokens_of call ++ before) (i + 1) calls) i is in
        (value_fits (value_brought call) before parts.0, all_fit calls (tokens_of call ++ before) (i + 1) parts.1)

    pub valid_where_none_invalid : (script : List Call) → first_invalid table ledger [] 0 script ≡ None → IsValid table script ledger
    valid_where_none_invalid script none = record {
      fitting = all_fit script [] 0 none;
      once = λ t. (script_new script [] 0 t none).once;
      known = λ t. (script_new script [] 0 t none).known;
      unreleased = λ t. (script_new script [] 0 t none).unreleased;
    }
