-- Marks against what was brought.
use Rattle.std.proofs.Common.{◌≡◌, ℕ, zero, suc, ◌+◌, ◌<◌, ◌&&◌, ◌||◌, not, nat_lt, nat_eq, ltb-true, cond, drop, Bool, true, false, List, [], ◌∷◌, ◌++◌, length, length-set, get_or, set, replicate, Option, Some, None, refl, sym, ap, ◌∙◌, subst, arith}
use Rattle.std.proofs.lemmas.Bool.Decides.{nat_tests}
use Rattle.std.proofs.lemmas.Grind.{common_steps}
use Rattle.std.proofs.lemmas.List.{drop_more, length-replicate}
use Rattle.std.proofs.lemmas.List.Folds.{list_any-append}
use Rattle.std.specs.List.{list_any}
use Rattle.fr_shape.specs.Fits.{fits}
use Rattle.fr_shape.specs.Look.{Table}
use Rattle.fr_shape.specs.Tokens.{tokens}
use Rattle.fr_shape.specs.Val.{Val}
use Rattle.fr_model.specs.declared.command.Command.{Command}
use Rattle.fr_model.specs.Commands.{Call, call_of, calls_of}
use Rattle.fr_model.specs.Scripts.{value_brought, tokens_if_any, tokens_of}
use Rattle.fr_script.specs.Documents.{is_new, are_new, may_be_brought, first_invalid}
use Rattle.fr_script.specs.Marks.{AreMarks, tokens_marked, marked_if_any, marked_by, here_or, first_unmarked}

-- the same tokens were brought, in another order
AreSame : List ℕ → List ℕ → Type 0
AreSame a b = (t : ℕ) → list_any (nat_eq t) a ≡ list_any (nat_eq t) b

later : (a b c : Bool) → (b || (a || c)) ≡ (a || (b || c))
later true true c = refl
later true false c = refl
later false true c = refl
later false false c = refl

moved : (s : ℕ) (ss brought : List ℕ) → AreSame (ss ++ s ∷ brought) (s ∷ (ss ++ brought))
unfolding AreSame
moved s ss brought t =
    list_any-append (nat_eq t) ss (s ∷ brought)
    ∙ (later (nat_eq t s) (list_any (nat_eq t) ss) (list_any (nat_eq t) brought)
    ∙ ap (λ b. nat_eq t s || b) (sym (list_any-append (nat_eq t) ss brought)))

reordered : (ledger a b : List ℕ) (marks : List Bool) → AreSame a b → AreMarks ledger a marks → AreMarks ledger b marks
unfolding AreSame
reordered ledger a b marks same are = record {
  same_length = are.same_length;
  each = λ t h. are.each t h ∙ ap (λ found. not (nat_eq (get_or ledger t 0) 0 && not found)) (same t);
}

and_assoc : (a b c : Bool) → (a && (b && c)) ≡ ((a && b) && c)
and_assoc true b c = refl
and_assoc false b c = refl

-- how the tests of a token come out, given that it is or isn't the ledger's
tested : (known : Bool) (mark free : Bool) → (known ≡ true → mark ≡ not free) → (known && not mark) ≡ (known && free)
tested true mark true is = ap not (is refl)
tested true mark false is = ap not (is refl)
tested false mark free is = refl

module _ (ledger : List ℕ) where
  -- it is one of the ledger's, was never released, and wasn't brought before
  abbrev may_come : List ℕ → ℕ → Bool
  may_come brought t = nat_lt t (length ledger) && nat_eq (get_or ledger t 0) 0 && is_new t brought

  may_be_marked : (brought : List ℕ) (marks : List Bool) (t : ℕ) → AreMarks ledger brought marks → (nat_lt t (length marks) && not (get_or marks t false)) ≡ may_come brought t
  may_be_marked brought marks t are =
      ap (λ n. nat_lt t n && not (get_or marks t false)) are.same_length
      ∙ tested (nat_lt t (length ledger)) (get_or marks t false) (nat_eq (get_or ledger t 0) 0 && is_new t brought)
      (λ known. are.each t (ltb-true t (length ledger) known))
      ∙ and_assoc (nat_lt t (length ledger)) (nat_eq (get_or ledger t 0) 0) (is_new t brought)

  -- one more token is marked
  one_marked : (brought : List ℕ) (marks : List Bool) (s : ℕ) → AreMarks ledger brought marks → s < length ledger → AreMarks ledger (s ∷ brought) (set marks s true)
  one_marked brought marks s are within = record {
    same_length = length-set marks s true ∙ are.same_length;
    each = λ t h. grind (arith, nat_tests, common_steps, are.each t h, are.same_length);
  }

  -- the marks are those after these tokens, or one of them may not come
  Meets : List ℕ → List ℕ → Option (List Bool) → Type 0
  Meets brought ts None = are_new ledger brought ts ≡ false
  Meets brought ts (Some after) = (are_new ledger brought ts ≡ true) × AreMarks ledger (ts ++ brought) after

  in_turn : (brought : List ℕ) (s : ℕ) (ss : List ℕ) → are_new ledger brought (s ∷ ss) ≡ (may_come brought s && are_new ledger (s ∷ brought) ss)
  in_turn brought s ss = refl

  first_meets : (brought : List ℕ) (s : ℕ) (ss : List ℕ) (found : Option (List Bool)) → may_come brought s ≡ true → Meets (s ∷ brought) ss found → Meets brought (s ∷ ss) found
  unfolding Meets
  first_meets brought s ss None may rest = in_turn brought s ss ∙ rw may rest
  first_meets brought s ss (Some after) may rest = (
    in_turn brought s ss ∙ rw may rest.0,
    reordered ledger (ss ++ s ∷ brought) (s ∷ (ss ++ brought)) after (moved s ss brought) rest.1,
  )

  chosen : (brought : List ℕ) (s : ℕ) (ss : List ℕ) (may : Bool) (found : Option (List Bool)) → may ≡ may_come brought s → (may ≡ true → Meets (s ∷ brought) ss found) → Meets brought (s ∷ ss) (cond may found None)
  unfolding Meets
  chosen brought s ss true found is rest = first_meets brought s ss found (sym is) (rest refl)
  chosen brought s ss false found is rest = in_turn brought s ss ∙ rw (← is) refl

  within : (brought : List ℕ) (s : ℕ) → may_come brought s ≡ true → s < length ledger
  within brought s may = grind (arith, nat_tests, may)

  tokens_meet : (ts brought : List ℕ) (marks : List Bool) → AreMarks ledger brought marks → Meets brought ts (tokens_marked ts marks)
  unfolding Meets
  tokens_meet [] brought marks are = (refl, are)
  tokens_meet (s ∷ ss) brought marks are =
      let test = may_be_marked brought marks s are in
      chosen brought s ss (nat_lt s (length marks) && not (get_or marks s false)) (tokens_marked ss (set marks s true)) test
      (λ may. tokens_meet ss (s ∷ brought) (set marks s true) (one_marked brought marks s are (within brought s (sym test ∙ may))))

  module _ (table : Table) where
    -- the marks are those after the value, if there is one, or it may not be brought
    MeetsValue : List ℕ → Option (ℕ × Val) → Option (List Bool) → Type 0
    MeetsValue brought value None = may_be_brought table ledger brought value ≡ false
    MeetsValue brought value (Some after) =
        (may_be_brought table ledger brought value ≡ true) × AreMarks ledger (tokens_if_any value ++ brought) after

    fitting_meets : (brought : List ℕ) (shape : ℕ) (v : Val) (fitting : Bool) (found : Option (List Bool)) → fitting ≡ (nat_lt shape (length table) && fits table shape v) → Meets brought (tokens v) found → MeetsValue brought (Some (shape, v)) (cond fitting found None)
    unfolding Meets MeetsValue
    fitting_meets brought shape v true None is rest = ap (λ b. b && are_new ledger brought (tokens v)) (sym is) ∙ rest
    fitting_meets brought shape v true (Some after) is rest =
        (ap (λ b. b && are_new ledger brought (tokens v)) (sym is) ∙ rest.0, rest.1)
    fitting_meets brought shape v false found is rest = ap (λ b. b && are_new ledger brought (tokens v)) (sym is)

    value_meets : (brought : List ℕ) (marks : List Bool) (value : Option (ℕ × Val)) → AreMarks ledger brought marks → MeetsValue brought value (marked_if_any table value marks)
    unfolding MeetsValue
    value_meets brought marks (Some (shape, v)) are =
        fitting_meets brought shape v (nat_lt shape (length table) && fits table shape v) (tokens_marked (tokens v) marks) refl (tokens_meet (tokens v) brought marks are)
    value_meets brought marks None are = (refl, are)

    decided : (brought : List ℕ) (call : Call) (calls : List Call) (i : ℕ) (found : Option (List Bool)) → MeetsValue brought (value_brought call) found
        → ((after : List Bool) → AreMarks ledger (tokens_of call ++ brought) after
        → first_unmarked table after (i + 1) calls ≡ first_invalid table ledger (tokens_of call ++ brought) (i + 1) calls)
        → here_or i (λ after. first_unmarked table after (i + 1) calls) found
        ≡ first_invalid table ledger brought i (call ∷ calls)
    unfolding MeetsValue
    decided brought call calls i None wrong rest = rw wrong refl
    decided brought call calls i (Some after) meets rest = rw meets.0 (rest after meets.1)

    -- the first call that can't be marked is the first that isn't valid
    pub unmarked_invalid : (calls : List Call) (brought : List ℕ) (marks : List Bool) (i : ℕ) → AreMarks ledger brought marks
        → first_unmarked table marks i calls ≡ first_invalid table ledger brought i calls
    unmarked_invalid [] brought marks i are = refl
    unmarked_invalid (call ∷ calls) brought marks i are =
        decided brought call calls i (marked_by table call marks) (value_meets brought marks (value_brought call) are)
        (λ after those. unmarked_invalid calls (tokens_of call ++ brought) after (i + 1) those)

-- a new ledger has no mark
unmarked : (n t : ℕ) → get_or (replicate n false) t false ≡ false
unmarked zero t = refl
unmarked (suc n) zero = refl
unmarked (suc n) (suc t) = unmarked n t

uncounted : (n t : ℕ) → ◌≡◌ {A = ℕ} (get_or (replicate n 0) t 0) 0
uncounted zero t = refl
uncounted (suc n) zero = refl
uncounted (suc n) (suc t) = uncounted n t

pub none_marked : (n : ℕ) → AreMarks (replicate n 0) [] (replicate n false)
none_marked n = record {
  same_length = simp length-replicate;
  each = λ t h. unmarked n t ∙ sym (ap (λ count. not (nat_eq count 0 && true)) (uncounted n t));
}

pub new_verdict : (table : Table) (n : ℕ) (calls : List Call) (marks : List Bool) → marks ≡ replicate n false
    → first_unmarked table marks 0 calls ≡ first_invalid table (replicate n 0) [] 0 calls
new_verdict table n calls marks is =
    unmarked_invalid (replicate n 0) table calls [] marks 0 (subst (AreMarks (replicate n 0) []) (sym is) (none_marked n))

-- In a loop over commands.
module _ (table : Table) (marks : List Bool) (script : List Command) (i : ℕ) (command : Command) (h : i < length script) (is : command ≡ get_or script i command) where
  abbrev from : List Bool → ℕ → List Command → Option ℕ
  from before j commands = first_unmarked table before j (calls_of commands)

  here : from marks i (drop i script) ≡ here_or i (λ after. from after (i + 1) (drop (i + 1) script)) (marked_by table (call_of command) marks)
  here = ap (from marks i) (drop_more script i command h ∙ ap (λ c. c ∷ drop (i + 1) script) (sym is))

  pub not_valid : marked_by table (call_of command) marks ≡ None → from marks i (drop i script) ≡ Some i
  not_valid none = here ∙ ap (here_or i (λ after. from after (i + 1) (drop (i + 1) script))) none

  pub go_on : (after : List Bool) → marked_by table (call_of command) marks ≡ Some after → from marks i (drop i script) ≡ from after (i + 1) (drop (i + 1) script)
  go_on after found = here ∙ ap (here_or i (λ tokens_marked. from tokens_marked (i + 1) (drop (i + 1) script))) found
