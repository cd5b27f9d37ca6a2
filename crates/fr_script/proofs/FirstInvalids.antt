-- The first command that isn't valid is where a script stops being one that may be handed to the builder.
use Rattle.std.proofs.Common.{◌≡◌, ℕ, suc, ◌+◌, ◌<◌, ◌≤◌, not, nat_lt, nat_eq, cond, Bool, true, false, List, [], ◌∷◌, ◌++◌, length, take, get_or, Option, Some, None, refl, subst, ap, ◌∙◌, zero-add, arith}
use Rattle.std.proofs.lemmas.Bool.{lt-ltb, and_from}
use Rattle.std.proofs.lemmas.Bool.Decides.{nat_tests}
use Rattle.std.specs.List.{list_any}
use Rattle.fr_shape.specs.Look.{Table}
use Rattle.fr_shape.specs.Tokens.{tokens, times, occurs}
use Rattle.fr_shape.specs.TokenLaws.{times_append, occurs_times}
use Rattle.fr_shape.specs.Val.{Val}
use Rattle.fr_model.specs.Commands.{Call}
use Rattle.fr_model.specs.Scripts.{value_brought, tokens_if_any, occurs_if_any, FitsIfAny, brought, AllFitting, IsValid, tokens_of}
use Rattle.fr_script.specs.Documents.{are_new, may_be_brought, is_valid_call, first_invalid}
use Rattle.fr_script.specs.FirstInvalid.{IsFirstInvalid}
use Rattle.fr_script.proofs.ValidScripts.{times_more, valid_where_none_invalid}

-- Where a token comes so often, beside how often it came before.
record MayCome (ledger before : List ℕ) (t n : ℕ) : Type 0 where
  once : times before t + n ≤ 1
  known : 0 < n → t < length ledger
  unreleased : 0 < n → get_or ledger t 0 ≡ 0

-- what doesn't come isn't among them
among_none : (ts : List ℕ) (t : ℕ) → times ts t ≡ 0 → list_any (nat_eq t) ts ≡ false
among_none [] t none = refl
among_none (s ∷ ss) t none =
    let rest = among_none ss t (omega (arith, times_more s ss t)) in
    grind (arith, nat_tests, times_more s ss t)

comes_first : (s : ℕ) (ss : List ℕ) → times (s ∷ ss) s ≡ suc (times ss s)
comes_first s ss = grind (arith, nat_tests, times_more s ss s)

module _ (ledger : List ℕ) where
  fewer : (before : List ℕ) (t m n : ℕ) → m ≤ n → MayCome ledger before t n → MayCome ledger before t m
  fewer before t m n less may = record {
    once = let most = may.once in omega arith;
    known = λ some. may.known (omega arith);
    unreleased = λ some. may.unreleased (omega arith);
  }

  -- some of them came
  later : (before ts : List ℕ) (t n : ℕ) → MayCome ledger before t (times ts t + n) → MayCome ledger (ts ++ before) t n
  later before ts t n may = record {
    once = let most = may.once in let both = times_append ts before t in omega arith;
    known = λ some. may.known (omega arith);
    unreleased = λ some. may.unreleased (omega arith);
  }

  tokens_new : (ts before : List ℕ) → ((t : ℕ) → MayCome ledger before t (times ts t)) → are_new ledger before ts ≡ true
  tokens_new [] before may = refl
  tokens_new (s ∷ ss) before may =
      let first = may s in
      let often = comes_first s ss in
      let known : nat_lt s (length ledger) ≡ true = lt-ltb s (length ledger) (first.known (omega arith)) in
      let count : nat_eq (get_or ledger s 0) 0 ≡ true = let none = first.unreleased (omega arith) in grind (arith, nat_tests) in
      let most = first.once in
      let new : list_any (nat_eq s) before ≡ false = among_none before s (omega arith) in
      let rest : are_new ledger (s ∷ before) ss ≡ true
      = tokens_new ss (s ∷ before) (λ t. later before (s ∷ []) t (times ss t) (subst (MayCome ledger before t) (times_append (s ∷ []) ss t) (may t))) in
      and_from _ _ (and_from _ _ (and_from _ _ known count) (ap not new)) rest

  module _ (table : Table) where
    valid_goes_on : (valid : Bool) (rest : Option ℕ) (i : ℕ) → valid ≡ true → rest ≡ None → cond valid rest (Some i) ≡ None
    valid_goes_on true rest i is none = none
    valid_goes_on false rest i is none = cc

    -- the value, if there is one, may be brought, and what comes after it may come
    value_may : (value : Option (ℕ × Val)) (before : List ℕ) (others : ℕ → ℕ) → FitsIfAny table value
        → ((t : ℕ) → MayCome ledger before t (occurs_if_any value t + others t))
        → (may_be_brought table ledger before value ≡ true) × ((t : ℕ) → MayCome ledger (tokens_if_any value ++ before) t (others t))
    value_may (Some (shape, v)) before others fitting may =
        let same : (t : ℕ) → occurs v t ≡ times (tokens v) t = occurs_times v in (
          and_from _ _ (and_from _ _ (lt-ltb shape (length table) fitting.0) fitting.1)
              (tokens_new (tokens v) before (λ t. let is = same t in fewer before t (times (tokens v) t) (occurs v t + others t) (omega arith) (may t))),
          λ t. later before (tokens v) t (others t) (subst (λ n. MayCome ledger before t (n + others t)) (same t) (may t)),
        )
    value_may None before others fitting may = (refl, λ t. fewer before t (others t) (0 + others t) (omega arith) (may t))

    none_among : (script : List Call) (before : List ℕ) (i : ℕ) → AllFitting table script → ((t : ℕ) → MayCome ledger before t (brought script t)) → first_invalid table ledger before i script ≡ None
    none_among [] before i fitting may = refl
    none_among (call ∷ calls) before i fitting may =
        let first = value_may (value_brought call) before (brought calls) fitting.0 may in
        valid_goes_on (is_valid_call table ledger before call) (first_invalid table ledger (tokens_of call ++ before) (i + 1) calls) i first.0
        (none_among calls (tokens_of call ++ before) (i + 1) fitting.1 first.1)

    none_invalid : (script : List Call) → IsValid table script ledger → first_invalid table ledger [] 0 script ≡ None
    none_invalid script valid = none_among script [] 0 valid.fitting (λ t. record {
      once = rw zero-add (valid.once t);
      known = valid.known t;
      unreleased = valid.unreleased t;
    })

    -- The commands up to the first that isn't valid, without it and with it.
    record Cut (script : List Call) (before : List ℕ) (i n : ℕ) : Type 0 where
      within : n < length script
      none : first_invalid table ledger before i (take n script) ≡ None
      one : first_invalid table ledger before i (take (suc n) script) ≡ Some (i + n)

    cut : (valid : Bool) (call : Call) (calls : List Call) (before : List ℕ) (i found : ℕ) → is_valid_call table ledger before call ≡ valid
        → ((j : ℕ) → first_invalid table ledger (tokens_of call ++ before) (i + 1) calls ≡ Some j → (n : ℕ) × (j ≡ i + 1 + n) × Cut calls (tokens_of call ++ before) (i + 1) n)
        → cond valid (first_invalid table ledger (tokens_of call ++ before) (i + 1) calls) (Some i) ≡ Some found
        → (n : ℕ) × (found ≡ i + n) × Cut (call ∷ calls) before i n
    cut true call calls before i found is rest tells =
        let below = rest found tells in
        let far = below.1 in
        let within = below.2.within in (
          suc below.0,
          omega arith,
          record {
            within = omega arith;
            none = rw is below.2.none;
            one = rw is (below.2.one ∙ ap Some (omega arith));
          },
        )
    cut false call calls before i found is rest tells =
        let same : i ≡ found = cc in
        (0, omega arith, record { within = omega arith; none = refl; one = rw is (ap Some (omega arith)) })

    cut_at : (script : List Call) (before : List ℕ) (i found : ℕ) → first_invalid table ledger before i script ≡ Some found → (n : ℕ) × (found ≡ i + n) × Cut script before i n
    cut_at [] before i found tells = cc
    cut_at (call ∷ calls) before i found tells =
        cut (is_valid_call table ledger before call) call calls before i found refl
        (λ j. cut_at calls (tokens_of call ++ before) (i + 1) j) tells

    pub is_first : (script : List Call) (n : ℕ) → first_invalid table ledger [] 0 script ≡ Some n → IsFirstInvalid table script ledger n
    is_first script n tells =
        let found = cut_at script [] 0 n tells in
        let at : found.0 ≡ n = omega arith in
        let there : Cut script [] 0 n = subst (Cut script [] 0) at found.2 in
        let next : n + 1 ≡ suc n = omega arith in
        record {
          within = there.within;
          before = valid_where_none_invalid ledger table (take n script) there.none;
          with_it = λ valid. let none = none_invalid (take (suc n) script) (subst (λ m. IsValid table (take m script) ledger) next valid) in let one = there.one in cc;
          whole = λ valid. let none = none_invalid script valid in cc;
        }
