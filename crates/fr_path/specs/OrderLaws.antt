-- Laws of the walk's order, for proofs: it is total, and only equal steps and equal paths stand at one place of it.
use Rattle.std.proofs.Common.{◌≡◌, List, [], ◌∷◌, length, IsTrue, ◌↔◌, ap, refl, sym, ◌∙◌, arith}
use Rattle.std.specs.declared.cmp.Ordering.{Ordering}
use Rattle.std.specs.declared.cmp.Ordering.TheVariants.{Less, Equal, Greater}
use Rattle.std.specs.Cmp.{IsTotalOrder, Equal-is}
use Rattle.std.specs.Cmp.Lexicographic.{slice_cmp}
use Rattle.std.specs.Ordering.{nat_cmp, ordering_then, is_eq}
use Rattle.std.proofs.lemmas.Cmp.{then_total, on_total, back_total, lists_total, nat_cmp_total, nat_list_cmp_total, tied_itself}
use Rattle.std.proofs.lemmas.Map.Lookups.{exact_unsigned, exact_bytes}
use Rattle.fr_path.specs.declared.path_steps.PathStep.{PathStep}
use Rattle.fr_path.specs.Order.{rank, number, key, step_order, walk_order, step_eq, path_eq}

pub step_total : IsTotalOrder step_order
step_total =
    then_total (on_total rank nat_cmp_total) (then_total (on_total number nat_cmp_total) (on_total key nat_list_cmp_total))

pub walk_total : IsTotalOrder walk_order
walk_total =
    then_total (back_total (on_total (λ (path : List PathStep). length path) nat_cmp_total)) (lists_total step_total)

-- two orders, one after the other, tie only where both do
both_tie : (r s : Ordering) → ordering_then r s ≡ Equal → (r ≡ Equal) × (s ≡ Equal)
both_tie Less s e = absurd (cc)
both_tie Equal s e = (refl, e)
both_tie Greater s e = absurd (cc)

-- a step is its variant, its number and its key
same_parts : (a b : PathStep) → rank a ≡ rank b → number a ≡ number b → key a ≡ key b → a ≡ b
same_parts (PathStep.Field i) (PathStep.Field j) r n k = ap PathStep.Field n
same_parts (PathStep.Index i) (PathStep.Index j) r n k = ap PathStep.Index n
same_parts PathStep.Deref PathStep.Deref r n k = refl
same_parts PathStep.Inner PathStep.Inner r n k = refl
same_parts PathStep.OptionSome PathStep.OptionSome r n k = refl
same_parts PathStep.Proxy PathStep.Proxy r n k = refl
same_parts (PathStep.MapKey i) (PathStep.MapKey j) r n k = ap PathStep.MapKey n
same_parts (PathStep.MapValue i) (PathStep.MapValue j) r n k = ap PathStep.MapValue n
same_parts PathStep.ResultOk PathStep.ResultOk r n k = refl
same_parts PathStep.ResultErr PathStep.ResultErr r n k = refl
same_parts PathStep.SetItem PathStep.SetItem r n k = refl
same_parts (PathStep.Entry a) (PathStep.Entry b) r n k = ap PathStep.Entry k
same_parts _ _ r n k = absurd (omega arith)

pub step_tie : (a b : PathStep) → step_order a b ≡ Equal → a ≡ b
step_tie a b e =
    let by_rank = both_tie _ _ e in
    let by_number = both_tie _ _ by_rank.1 in
    same_parts a b (exact_unsigned _ _ by_rank.0) (exact_unsigned _ _ by_number.0) (exact_bytes _ _ by_number.1)

steps_tie : (p q : List PathStep) → slice_cmp step_order p q ≡ Equal → p ≡ q
steps_tie [] [] e = refl
steps_tie [] (b ∷ q) e = absurd (cc)
steps_tie (a ∷ p) [] e = absurd (cc)
steps_tie (a ∷ p) (b ∷ q) e =
    let ties = both_tie (step_order a b) (slice_cmp step_order p q) e in
    let heads : a ≡ b = step_tie a b ties.0 in
    let tails : p ≡ q = steps_tie p q ties.1 in
    cc

pub walk_tie : (p q : List PathStep) → walk_order p q ≡ Equal → p ≡ q
walk_tie p q e = steps_tie p q (both_tie (nat_cmp (length q) (length p)) (slice_cmp step_order p q) e).1

-- what is equal ties
pub walk_itself : (p q : List PathStep) → p ≡ q → walk_order p q ≡ Equal
walk_itself p q e = sym (ap (walk_order p) e) ∙ tied_itself walk_total p

pub step_itself : (a b : PathStep) → a ≡ b → step_order a b ≡ Equal
step_itself a b e = sym (ap (step_order a) e) ∙ tied_itself step_total a

-- the tests say what is equal
pub step_eq_tells : (a b : PathStep) → IsTrue (step_eq a b) ↔ (a ≡ b)
step_eq_tells a b = (λ t. step_tie a b ((Equal-is (step_order a b)).0 t), λ e. ap is_eq (step_itself a b e))

pub path_eq_tells : (p q : List PathStep) → IsTrue (path_eq p q) ↔ (p ≡ q)
path_eq_tells p q = (λ t. walk_tie p q ((Equal-is (walk_order p q)).0 t), λ e. ap is_eq (walk_itself p q e))
