use Rattle.std.proofs.Common.{◌≡◌, ℕ, suc, ◌+◌, ap, sym, ◌∙◌, List, [], ◌∷◌, ◌<◌, refl, length, replicate, add-one, arith}
use Rattle.std.specs.List.{AllZip}
use Rattle.fr_plan.proofs.Root.{root_inside}
use Rattle.std.proofs.lemmas.List.{length-replicate}
use Rattle.fr_shape.specs.declared.shape.ShapeId.{ShapeId}
use Rattle.fr_shape.specs.Look.{Table}
use Rattle.fr_plan.specs.declared.outlines.Mark.{Mark}
use Rattle.fr_plan.specs.declared.outlines.Walk.{Walk}
use Rattle.fr_plan.specs.Build.{build, planned}
use Rattle.fr_plan.proofs.type_plan.TypePlanCore.from_shape.Goals as goal

-- as deep as there are marks, and one more
planned_from : (table : Table) (id : ShapeId) (walk : Walk) (shapes marks : ℕ)
    → walk ≡ record { nodes = []; marks = replicate shapes Mark.Unseen } → shapes ≡ length table → marks ≡ length walk.marks
    → build table (marks + 1) walk id ≡ planned table id
planned_from table id walk shapes marks begun all long =
    let deep : marks + 1 ≡ suc (length table) =
    ap (λ (n : ℕ). n + 1)
    (long ∙ ap (λ (w : Walk). length w.marks) begun ∙ length-replicate shapes Mark.Unseen ∙ all)
    ∙ add-one (length table) in
    ap (λ (depth : ℕ). build table depth walk id) deep
    ∙ ap (λ (at : Walk). build table (suc (length table)) at id)
    (begun ∙ ap (λ (n : ℕ). record { nodes = []; marks = replicate n Mark.Unseen }) all)

pub returns-in-Ok-nodes_of-clause-plan : goal.returns-in-Ok-nodes_of-clause-plan
returns-in-Ok-nodes_of-clause-plan c = record {
  built =
      sym (planned_from c.args.table.now c.args.id c.in-Ok.walk c.len.result c.len-depth.result c.in-Ok.ensures c.len.ensures.count c.len-depth.ensures.count)
      ∙ c.in-Ok-build_shape.ensures;
  told = c.in-Ok-nodes_of.ensures.told;
  fields = c.in-Ok-all_kept.ensures;
  invariants = c.have_invariants-has_invariants.ensures;
}

-- as many nodes as outlines
length-zip : {A B : Type 0} (R : A → B → Type 0) (xs : List A) (ys : List B) → AllZip R xs ys → length xs ≡ length ys
length-zip R [] [] all = refl
length-zip R [] (y ∷ ys) all = absurd all
length-zip R (x ∷ xs) [] all = absurd all
length-zip R (x ∷ xs) (y ∷ ys) all = ap suc (length-zip R xs ys all.1)

pub invariant_of-result : goal.invariant_of-result
invariant_of-result c =
    let built = sym (planned_from c.args.table.now c.args.id c.in-Ok.walk c.len.result c.len-depth.result c.in-Ok.ensures c.len.ensures.count c.len-depth.ensures.count)
    ∙ c.in-Ok-build_shape.ensures in
    let inside : c.in-Ok-build_shape.root.0 < length c.build_shape.new.walk.nodes = root_inside c.args.table.now c.args.id _ built in
    omega (arith, inside, length-zip _ _ _ c.in-Ok-nodes_of.ensures.told)
