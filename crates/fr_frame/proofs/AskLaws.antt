-- What is lacking first among children, each of which is asked by its number and its own value.
use Rattle.std.proofs.Common.{◌≡◌, ℕ, zero, suc, ◌+◌, ◌<◌, ◌≤◌, Bool, true, false, List, [], ◌∷◌, length, drop, replicate, Option, Some, None, IsSome, inl, inr, refl, sym, ◌∙◌, ap, subst, arith}
use Rattle.fr_frame.specs.Common.{Cell, IsAnswer, Meanings, Question, ReflectErrorKind, Table, Tracker, Val, Vals, absent, ask, deferred_column, failing_child, first_asked, first_invalid, first_unmet, given, holes, is_conversion, lack_among, lack_of_child, lack_of_holes, missing_child, missing_value, one_more, option_or, strict_column, trees_of, unmet_child, value_at, value_of_cell, values_of, fields_of_tracker}
use Rattle.fr_model.specs.Complete.{unless_there}
use Rattle.fr_model.specs.Failing.{first_missing}
use Rattle.fr_model.specs.Tree.{hole, branch}
use Rattle.fr_frame.specs.Filling.{child_value}
use Rattle.fr_frame.proofs.RulesOnChildren.{others_missing, others_pass, others_take, others_unmarked}

-- of two things

pub first_none : {a b : Option ReflectErrorKind} → a ≡ None → option_or a b ≡ b
first_none {a} {b} e = ap (λ (o : Option ReflectErrorKind). option_or o b) e

pub or_none : (a b : Option ReflectErrorKind) → option_or a b ≡ None → (a ≡ None) × (b ≡ None)
or_none (Some k) b h = absurd (cc)
or_none None b h = (refl, h)

answer_first : (question : Question) (a b : Option ReflectErrorKind) (kind : ReflectErrorKind) → IsAnswer question a kind
    → IsAnswer question (option_or a b) kind
answer_first Question.Strict (Some k) b kind h = h
answer_first Question.Strict None b kind (inl e) = absurd (cc)
answer_first Question.Strict None b kind (inr h) = absurd h.1
answer_first _ a b kind h = ap (λ (o : Option ReflectErrorKind). option_or o b) h

pub both_there : (value : Option Val) (values : Option Vals) → IsSome (one_more value values) → IsSome value × IsSome values
both_there (Some v) (Some vs) h = (refl, refl)
both_there (Some v) None h = absurd (cc)
both_there None values h = absurd (cc)

pub more_there : (value : Option Val) (values : Option Vals) → IsSome value → IsSome values → IsSome (one_more value values)
more_there (Some v) (Some vs) a b = refl
more_there (Some v) None a b = absurd (cc)
more_there None values a b = absurd (cc)

module _ (asks : ℕ → Option Val → Option ReflectErrorKind) where
  asked_next : (cs : List Cell) (k i : ℕ) → k < length cs
      → first_asked asks i (drop k cs) ≡ option_or (asks i (value_at cs k)) (first_asked asks (suc i) (drop (suc k) cs))
  asked_next [] k i h = absurd (omega arith)
  asked_next (c ∷ cs) zero i h = refl
  asked_next (c ∷ cs) (suc k) i h = asked_next cs k i (omega arith)

  -- child by child: the first i of them lack nothing

  pub asked_preserved : (cs : List Cell) (i : ℕ) (own : Option Val) → first_asked asks 0 cs ≡ first_asked asks i (drop i cs)
      → i < length cs → own ≡ value_at cs i → asks i own ≡ None → first_asked asks 0 cs ≡ first_asked asks (i + 1) (drop (i + 1) cs)
  asked_preserved cs i own so_far h e passes =
      let next : suc i ≡ i + 1 = omega arith in
      so_far ∙ asked_next cs i i h ∙ first_none (ap (asks i) (sym e) ∙ passes)
      ∙ ap (λ (k : ℕ). first_asked asks k (drop k cs)) next

  pub asked_cause : (question : Question) (cs : List Cell) (i : ℕ) (own : Option Val) → first_asked asks 0 cs ≡ first_asked asks i (drop i cs)
      → i < length cs → own ≡ value_at cs i → (kind : ReflectErrorKind) → IsAnswer question (asks i own) kind
      → IsAnswer question (first_asked asks 0 cs) kind
  asked_cause question cs i own so_far h e kind answer =
      subst (λ (o : Option ReflectErrorKind). IsAnswer question o kind)
      (ap (λ (v : Option Val). option_or (asks i v) (first_asked asks (suc i) (drop (suc i) cs))) e
      ∙ sym (so_far ∙ asked_next cs i i h))
      (answer_first question (asks i own) (first_asked asks (suc i) (drop (suc i) cs)) kind answer)

  pub asked_ends : (cs : List Cell) (i : ℕ) → first_asked asks 0 cs ≡ first_asked asks i (drop i cs) → length cs ≤ i
      → first_asked asks 0 cs ≡ None
  asked_ends cs i so_far h = so_far ∙ none_left cs i i h
    where
      none_left : (cs : List Cell) (k i : ℕ) → length cs ≤ k → first_asked asks i (drop k cs) ≡ None
      none_left [] zero i h = refl
      none_left [] (suc k) i h = refl
      none_left (c ∷ cs) zero i h = absurd (omega arith)
      none_left (c ∷ cs) (suc k) i h = none_left cs k i (omega arith)

  pub never_lacks : ((i : ℕ) (own : Option Val) → asks i own ≡ None) → (i : ℕ) (cs : List Cell) → first_asked asks i cs ≡ None
  never_lacks so i [] = refl
  never_lacks so i (c ∷ cs) = first_none (so i (value_of_cell c)) ∙ never_lacks so (suc i) cs

  -- where each child that lacks nothing is there, all are
  pub passing_there : ((i : ℕ) (own : Option Val) → asks i own ≡ None → IsSome own) → (i : ℕ) (cs : List Cell)
      → first_asked asks i cs ≡ None → IsSome (values_of cs)
  passing_there so i [] h = refl
  passing_there so i (c ∷ cs) h =
      let both : (asks i (value_of_cell c) ≡ None) × (first_asked asks (suc i) cs ≡ None)
      = or_none (asks i (value_of_cell c)) (first_asked asks (suc i) cs) h in
      more_there (value_of_cell c) (values_of cs) (so i (value_of_cell c) both.0) (passing_there so (suc i) cs both.1)

  module _ (passes : (i : ℕ) (v : Val) → asks i (Some v) ≡ None) where
    pub there_passes : (i : ℕ) (cs : List Cell) → IsSome (values_of cs) → first_asked asks i cs ≡ None
    there_passes i [] h = refl
    there_passes i (given v ∷ cs) h = first_none (passes i v) ∙ there_passes (suc i) cs (both_there (Some v) (values_of cs) h).1
    there_passes i _ h = absurd (cc)

    -- and where each that isn't there lacks the same, that is what is lacking
    pub hole_fails : (kind : ReflectErrorKind) → ((i : ℕ) → asks i None ≡ Some kind) → (i : ℕ) (cs : List Cell) → values_of cs ≡ None
        → first_asked asks i cs ≡ Some kind
    hole_fails kind fails i [] h = absurd (cc)
    hole_fails kind fails i (given v ∷ cs) h = first_none (passes i v) ∙ hole_fails kind fails (suc i) cs (rest (values_of cs) h)
      where
        rest : (vs : Option Vals) → one_more (Some v) vs ≡ None → vs ≡ None
        rest (Some vs) h = absurd (cc)
        rest None h = refl
    hole_fails kind fails i (c ∷ cs) h = ap (λ (o : Option ReflectErrorKind). option_or o (first_asked asks (suc i) cs)) (fails i)

-- two questions that come to the same of what is there
pub there_same : (f g : ℕ → Option Val → Option ReflectErrorKind) → ((i : ℕ) (v : Val) → f i (Some v) ≡ g i (Some v)) → (i : ℕ) (cs : List Cell)
    → IsSome (values_of cs) → first_asked f i cs ≡ first_asked g i cs
there_same f g so i [] h = refl
there_same f g so i (given v ∷ cs) h =
    ap (λ (o : Option ReflectErrorKind). option_or o (first_asked f (suc i) cs)) (so i v)
    ∙ ap (option_or (g i (Some v))) (there_same f g so (suc i) cs (both_there (Some v) (values_of cs) h).1)
there_same f g so i _ h = absurd (cc)

-- The model's questions, as they are asked of trees.

pub holes_are : (n : ℕ) → trees_of (replicate n absent) ≡ holes n
holes_are zero = refl
holes_are (suc n) = ap (branch hole) (holes_are n)

module _ (means : Meanings) (table : Table) (s : ℕ) (tracker : Tracker) where
  abbrev pub value_then : ℕ → Option Val → Option Val
  value_then i own = child_value deferred_column table s tracker i own

  abbrev pub misses : ℕ → Option Val → Option ReflectErrorKind
  misses i own = unless_there (value_then i own) (missing_child s tracker i)

  abbrev pub fails : ℕ → Option Val → Option ReflectErrorKind
  fails i own = failing_child means table s tracker i (value_then i own)

  pub lack_is : (i : ℕ) (cs : List Cell)
      → lack_among means table s tracker i (trees_of cs) ≡ first_asked (lack_of_child strict_column means table s tracker) i cs
  lack_is i [] = refl
  lack_is i (absent ∷ cs) = ap (option_or (lack_of_child strict_column means table s tracker i None)) (lack_is (suc i) cs)
  lack_is i (c ∷ cs) = ap (option_or (lack_of_child strict_column means table s tracker i (value_of_cell c))) (lack_is (suc i) cs)

  pub holes_lack : (count i : ℕ) → lack_of_holes means table s tracker count i
      ≡ first_asked (lack_of_child strict_column means table s tracker) i (replicate count absent)
  holes_lack zero i = refl
  holes_lack (suc count) i = ap (option_or (lack_of_child strict_column means table s tracker i None)) (holes_lack count (suc i))

  pub unmet_is : (i : ℕ) (cs : List Cell) → first_unmet table s tracker i (trees_of cs) ≡ first_asked (unmet_child table s tracker) i cs
  unmet_is i [] = refl
  unmet_is i (absent ∷ cs) = ap (option_or (unmet_child table s tracker i None)) (unmet_is (suc i) cs)
  unmet_is i (c ∷ cs) = ap (option_or (unmet_child table s tracker i (value_of_cell c))) (unmet_is (suc i) cs)

  pub missing_is : (i : ℕ) (cs : List Cell) → first_missing table s tracker i (trees_of cs) ≡ first_asked misses i cs
  missing_is i [] = refl
  missing_is i (absent ∷ cs) = ap (option_or (misses i None)) (missing_is (suc i) cs)
  missing_is i (c ∷ cs) = ap (option_or (misses i (value_of_cell c))) (missing_is (suc i) cs)

  pub invalid_is : (i : ℕ) (cs : List Cell) → first_invalid means table s tracker i (trees_of cs) ≡ first_asked fails i cs
  invalid_is i [] = refl
  invalid_is i (absent ∷ cs) = ap (option_or (fails i None)) (invalid_is (suc i) cs)
  invalid_is i (c ∷ cs) = ap (option_or (fails i (value_of_cell c))) (invalid_is (suc i) cs)

-- Children that aren't fields, of a place that is no conversion.

-- only marks are asked for
abbrev pub is_marks : Question → Bool
is_marks Question.Marks = true
is_marks _ = false

module _ (means : Meanings) (table : Table) (s : ℕ) (tracker : Tracker) (others : fields_of_tracker tracker ≡ None)
    (plain : is_conversion tracker ≡ false) where
  others_value : (question : Question) (i : ℕ) (v : Val) → ask question means table s tracker i (Some v) ≡ None
  others_value Question.Strict i v = others_pass table s means tracker others plain i (Some v)
  others_value _ i v = refl

  others_hole : (question : Question) → is_marks question ≡ false → (i : ℕ) → ask question means table s tracker i None
      ≡ Some (missing_value s)
  others_hole Question.Strict all i =
      ap
      (λ (fill : Option Val). option_or (unless_there fill (missing_child s tracker i)) (failing_child means table s tracker i fill))
      (others_take table s strict_column tracker others i) ∙ ap Some (others_missing s tracker others i)
  others_hole Question.Marks all i = absurd (cc)
  others_hole Question.There all i = ap Some (others_missing s tracker others i)

  -- where all are there they lack nothing
  pub others_there : (question : Question) (cs : List Cell) → IsSome (values_of cs)
      → first_asked (ask question means table s tracker) 0 cs ≡ None
  others_there question cs there = there_passes (ask question means table s tracker) (others_value question) 0 cs there

  -- and where one isn't, their place lacks its value
  pub others_lack : (question : Question) → is_marks question ≡ false → (cs : List Cell) → values_of cs ≡ None
      → first_asked (ask question means table s tracker) 0 cs ≡ Some (missing_value s)
  others_lack question all cs none =
      hole_fails (ask question means table s tracker) (others_value question) (missing_value s)
      (others_hole question all) 0 cs none

  pub others_met : (i : ℕ) (cs : List Cell) → first_asked (unmet_child table s tracker) i cs ≡ None
  others_met i cs = never_lacks (unmet_child table s tracker) met i cs
    where
      met : (i : ℕ) (own : Option Val) → unmet_child table s tracker i own ≡ None
      met i (Some v) = refl
      met i None = others_unmarked table s tracker others i

  pub others_valid : (i : ℕ) (cs : List Cell) → first_invalid means table s tracker i (trees_of cs) ≡ None
  others_valid i cs =
      invalid_is means table s tracker i cs
      ∙ never_lacks (fails means table s tracker)
      (λ k own. others_pass table s means tracker others plain k (value_then means table s tracker k own)) i cs
