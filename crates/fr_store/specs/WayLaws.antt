-- Laws of ways, for proofs: what something else at a place changes.
use Rattle.std.proofs.Common.{◌≡◌, ◌≢◌, ◌⊎◌, ℕ, zero, suc, ◌+◌, ◌<◌, ◌≤◌, Bool, true, false, List, [], ◌∷◌, ◌++◌, nat_eq, refl, sym, ◌∙◌, ap, arith}
use Rattle.std.proofs.lemmas.Grind.{common_steps}
use Rattle.std.proofs.lemmas.Bool.Decides.{nat_tests}
use Rattle.fr_store.specs.Below.{Kid, Kids, Place, Plot, Tree, Trees, at, begun, begun_plot, branch, change_at, change_nth, child_tree, count_trees, entered_plot, gone, kid, kid_occurs, kids_occur, no_kids, plot_occurs, there, tree_at, tree_in, tree_nth, tree_occurs, tree_of, trees_in, trees_occur, whole_plot}
use Rattle.fr_store.specs.Ways.{count_kids, kid_nth, kid_below, kid_at, put_nth, put_below, put_at, slots_along, slots_above, counts_if, uses, uses_among, AllMarked, AllMarkedAmong, StoredBut, LeadsUnstored, Reaches}

-- Numbers of slots.

pub counts_same : (n : ℕ) → counts_if (nat_eq n n) ≡ 1
counts_same n = let e : nat_eq n n ≡ true = grind (arith, common_steps, nat_tests) in ap counts_if e

pub counts_own : {m n : ℕ} → m ≡ n → counts_if (nat_eq n m) ≡ 1
counts_own {n} e = ap (λ (x : ℕ). counts_if (nat_eq n x)) e ∙ counts_same n

pub counts_other : (m n : ℕ) → m ≢ n → counts_if (nat_eq m n) ≡ 0
counts_other m n ne = let e : nat_eq m n ≡ false = grind (arith, common_steps, nat_tests) in ap counts_if e

pub same_or_other : (m n : ℕ) → (m ≡ n) ⊎ (m ≢ n)
same_or_other m n = grind (arith, common_steps, nat_tests)

-- Where ways lead.

reaches_among : (i : ℕ) (Below : Kid → Type 0) (ks : Kids) → StoredBut i Below ks → (i < count_kids ks) × Below (kid_nth i ks)
reaches_among i Below no_kids leads = absurd leads
reaches_among zero Below (kid k ks) leads = (omega arith, leads.0)
reaches_among (suc i) Below (kid k ks) leads =
    let rest = reaches_among i Below ks leads.1 in
    (let within : i < count_kids ks = rest.0 in omega arith, rest.1)

-- the way to a place, and each part of it, leads through places in slots
pub leads_reach : (place below : Place) (k : Kid) → LeadsUnstored (place ++ below) k → Reaches place k
leads_reach [] below k leads = tt
leads_reach (i ∷ place) below (at slot stored (begun_plot tracker kids)) leads =
    let child = reaches_among i (λ k. LeadsUnstored (place ++ below) k) kids leads.1 in
    (child.0, leads_reach place below (kid_nth i kids) child.1)
leads_reach (i ∷ place) below (at slot stored entered_plot) leads = absurd leads.1
leads_reach (i ∷ place) below (at slot stored (whole_plot v)) leads = absurd leads.1
leads_reach (i ∷ place) below gone leads = absurd leads
leads_reach (i ∷ place) below (there v) leads = absurd leads

pub leads_at : (place below : Place) (k : Kid) → LeadsUnstored (place ++ below) k → LeadsUnstored below (kid_at place k)
leads_at [] below k leads = leads
leads_at (i ∷ place) below (at slot stored (begun_plot tracker kids)) leads =
    let child = reaches_among i (λ k. LeadsUnstored (place ++ below) k) kids leads.1 in
    leads_at place below (kid_nth i kids) child.1
leads_at (i ∷ place) below (at slot stored entered_plot) leads = absurd leads.1
leads_at (i ∷ place) below (at slot stored (whole_plot v)) leads = absurd leads.1
leads_at (i ∷ place) below gone leads = absurd leads
leads_at (i ∷ place) below (there v) leads = absurd leads

leads_among : (i : ℕ) (Below After : Kid → Type 0) (new : Kid) (ks : Kids) → StoredBut i Below ks → After new
    → StoredBut i After (put_nth i new ks)
leads_among i Below After new no_kids leads is = absurd leads
leads_among zero Below After new (kid k ks) leads is = (is, leads.1)
leads_among (suc i) Below After new (kid k ks) leads is = (leads.0, leads_among i Below After new ks leads.1 is)

-- the way goes on otherwise from a place
pub leads_put_at : (place old below : Place) (new k : Kid) → LeadsUnstored (place ++ old) k → LeadsUnstored below new
    → LeadsUnstored (place ++ below) (put_at place new k)
leads_put_at [] old below new k leads on = on
leads_put_at (i ∷ place) old below new (at slot stored (begun_plot tracker kids)) leads on =
    let child = reaches_among i (λ k. LeadsUnstored (place ++ old) k) kids leads.1 in (
      leads.0,
      leads_among i (λ k. LeadsUnstored (place ++ old) k) (λ k. LeadsUnstored (place ++ below) k) (put_at place new (kid_nth i kids)) kids
          leads.1 (leads_put_at place old below new (kid_nth i kids) child.1 on),
    )
leads_put_at (i ∷ place) old below new (at slot stored entered_plot) leads on = absurd leads.1
leads_put_at (i ∷ place) old below new (at slot stored (whole_plot v)) leads on = absurd leads.1
leads_put_at (i ∷ place) old below new gone leads on = absurd leads
leads_put_at (i ∷ place) old below new (there v) leads on = absurd leads

-- Slots along ways.

pub nth_put : (i : ℕ) (new : Kid) (ks : Kids) → i < count_kids ks → kid_nth i (put_nth i new ks) ≡ new
nth_put i new no_kids h = absurd (omega arith)
nth_put zero new (kid k ks) h = refl
nth_put (suc i) new (kid k ks) h = nth_put i new ks (omega arith)

pub count_put : (i : ℕ) (new : Kid) (ks : Kids) → count_kids (put_nth i new ks) ≡ count_kids ks
count_put i new no_kids = refl
count_put zero new (kid k ks) = refl
count_put (suc i) new (kid k ks) = ap suc (count_put i new ks)

-- what was put at a place lies there
pub kid_put_at : (place : Place) (new k : Kid) → Reaches place k → kid_at place (put_at place new k) ≡ new
kid_put_at [] new k reach = refl
kid_put_at (i ∷ place) new (at slot stored (begun_plot tracker kids)) reach =
    ap (kid_at place) (nth_put i (put_at place new (kid_nth i kids)) kids reach.0) ∙ kid_put_at place new (kid_nth i kids) reach.1
kid_put_at (i ∷ place) new _ reach = absurd reach

pub along_put_at : (place below : Place) (new k : Kid) → Reaches place k
    → slots_along (place ++ below) (put_at place new k) ≡ slots_above place k ++ slots_along below new
along_put_at [] below new k reach = refl
along_put_at (i ∷ place) below new (at slot stored (begun_plot tracker kids)) reach =
    ap (λ (child : Kid). slot ∷ slots_along (place ++ below) child) (nth_put i (put_at place new (kid_nth i kids)) kids reach.0)
    ∙ ap (λ (slots : List ℕ). slot ∷ slots) (along_put_at place below new (kid_nth i kids) reach.1)
along_put_at (i ∷ place) below new _ reach = absurd reach

pub along_at : (place below : Place) (k : Kid) → Reaches place k
    → slots_along (place ++ below) k ≡ slots_above place k ++ slots_along below (kid_at place k)
along_at [] below k reach = refl
along_at (i ∷ place) below (at slot stored (begun_plot tracker kids)) reach =
    ap (λ (slots : List ℕ). slot ∷ slots) (along_at place below (kid_nth i kids) reach.1)
along_at (i ∷ place) below _ reach = absurd reach

-- How often slots serve.

pub uses_put_nth : (i : ℕ) (new : Kid) (ks : Kids) (n : ℕ) → i < count_kids ks
    → uses_among (put_nth i new ks) n + uses (kid_nth i ks) n ≡ uses_among ks n + uses new n
uses_put_nth i new no_kids n h = absurd (omega arith)
uses_put_nth zero new (kid k ks) n h = omega arith
uses_put_nth (suc i) new (kid k ks) n h =
    let rest : uses_among (put_nth i new ks) n + uses (kid_nth i ks) n ≡ uses_among ks n + uses new n
    = uses_put_nth i new ks n (omega arith) in
    omega arith

pub uses_put_at : (place : Place) (new k : Kid) (n : ℕ) → Reaches place k
    → uses (put_at place new k) n + uses (kid_at place k) n ≡ uses k n + uses new n
uses_put_at [] new k n reach = omega arith
uses_put_at (i ∷ place) new (at slot stored (begun_plot tracker kids)) n reach =
    let here = uses_put_nth i (put_at place new (kid_nth i kids)) kids n reach.0 in
    let rest = uses_put_at place new (kid_nth i kids) n reach.1 in
    omega arith
uses_put_at (i ∷ place) new _ n reach = absurd reach

pub uses_nth : (i : ℕ) (ks : Kids) (n : ℕ) → uses (kid_nth i ks) n ≤ uses_among ks n
uses_nth i no_kids n = omega arith
uses_nth zero (kid k ks) n = omega arith
uses_nth (suc i) (kid k ks) n = let rest = uses_nth i ks n in omega arith

pub uses_below : (i : ℕ) (k : Kid) (n : ℕ) → uses (kid_below i k) n ≤ uses k n
uses_below i (at slot stored (begun_plot tracker kids)) n = let rest = uses_nth i kids n in omega arith
uses_below i _ n = omega arith

-- a part uses no slot oftener than the whole
pub uses_at : (place : Place) (k : Kid) (n : ℕ) → uses (kid_at place k) n ≤ uses k n
uses_at [] k n = omega arith
uses_at (i ∷ place) k n =
    let rest = uses_at place (kid_below i k) n in
    let here = uses_below i k n in
    omega arith

-- Tokens.

-- the tokens are those of the tree
mutual
  pub tree_tokens : (k : Kid) (t : ℕ) → kid_occurs k t ≡ tree_occurs (tree_of k) t
  tree_tokens gone t = refl
  tree_tokens (there v) t = refl
  tree_tokens (at slot stored plot) t = plot_tokens plot t

  plot_tokens : (plot : Plot) (t : ℕ) → plot_occurs plot t ≡ tree_occurs (tree_in plot) t
  plot_tokens entered_plot t = refl
  plot_tokens (whole_plot v) t = refl
  plot_tokens (begun_plot tracker kids) t = kids_tokens kids t

  kids_tokens : (ks : Kids) (t : ℕ) → kids_occur ks t ≡ trees_occur (trees_in ks) t
  kids_tokens no_kids t = refl
  kids_tokens (kid k ks) t = omega (arith, tree_tokens k t, kids_tokens ks t)

-- Marks.

pub marked_put_nth : (mark : Bool) (i : ℕ) (new : Kid) (ks : Kids) → AllMarkedAmong mark ks → AllMarked mark new
    → AllMarkedAmong mark (put_nth i new ks)
marked_put_nth mark i new no_kids all is = tt
marked_put_nth mark zero new (kid k ks) all is = (is, all.1)
marked_put_nth mark (suc i) new (kid k ks) all is = (all.0, marked_put_nth mark i new ks all.1 is)

pub marked_nth : (mark : Bool) (i : ℕ) (ks : Kids) → AllMarkedAmong mark ks → AllMarked mark (kid_nth i ks)
marked_nth mark i no_kids all = tt
marked_nth mark zero (kid k ks) all = all.0
marked_nth mark (suc i) (kid k ks) all = marked_nth mark i ks all.1

pub marked_below : (mark : Bool) (i : ℕ) (k : Kid) → AllMarked mark k → AllMarked mark (kid_below i k)
marked_below mark i (at slot stored (begun_plot tracker kids)) all = marked_nth mark i kids all.1
marked_below mark i _ all = tt

pub marked_at : (mark : Bool) (place : Place) (k : Kid) → AllMarked mark k → AllMarked mark (kid_at place k)
marked_at mark [] k all = all
marked_at mark (i ∷ place) k all = marked_at mark place (kid_below i k) (marked_below mark i k all)

pub marked_put_at : (mark : Bool) (place : Place) (new k : Kid) → AllMarked mark k → AllMarked mark new
    → AllMarked mark (put_at place new k)
marked_put_at mark [] new k all is = is
marked_put_at mark (i ∷ place) new gone all is = tt
marked_put_at mark (i ∷ place) new (there v) all is = tt
marked_put_at mark (i ∷ place) new (at slot stored entered_plot) all is = all
marked_put_at mark (i ∷ place) new (at slot stored (whole_plot v)) all is = all
marked_put_at mark (i ∷ place) new (at slot stored (begun_plot tracker kids)) all is = (
  all.0,
  marked_put_nth mark i (put_at place new (kid_nth i kids)) kids all.1
      (marked_put_at mark place new (kid_nth i kids) (marked_nth mark i kids all.1) is),
)

-- a child in the stead of one of many that are stored
pub stored_but : (i : ℕ) (Below : Kid → Type 0) (new : Kid) (ks : Kids) → i < count_kids ks → AllMarkedAmong true ks
    → Below new → StoredBut i Below (put_nth i new ks)
stored_but i Below new no_kids h marked so = absurd (omega arith)
stored_but zero Below new (kid k ks) h marked so = (so, marked.1)
stored_but (suc i) Below new (kid k ks) h marked so = (marked.0, stored_but i Below new ks (omega arith) marked.1 so)

-- Trees.

pub tree_of_nth : (i : ℕ) (ks : Kids) → tree_of (kid_nth i ks) ≡ tree_nth i (trees_in ks)
tree_of_nth i no_kids = refl
tree_of_nth zero (kid k ks) = refl
tree_of_nth (suc i) (kid k ks) = tree_of_nth i ks

pub tree_of_below : (i : ℕ) (k : Kid) → tree_of (kid_below i k) ≡ child_tree i (tree_of k)
tree_of_below i (at slot stored (begun_plot tracker kids)) = tree_of_nth i kids
tree_of_below i _ = refl

-- what lies at a place is the tree there
pub tree_of_at : (place : Place) (k : Kid) → tree_of (kid_at place k) ≡ tree_at place (tree_of k)
tree_of_at [] k = refl
tree_of_at (i ∷ place) k = tree_of_at place (kid_below i k) ∙ ap (tree_at place) (tree_of_below i k)

pub tree_put_nth : (i : ℕ) (new : Kid) (change : Tree → Tree) (ks : Kids) → tree_of new ≡ change (tree_nth i (trees_in ks))
    → trees_in (put_nth i new ks) ≡ change_nth i change (trees_in ks)
tree_put_nth i new change no_kids is = refl
tree_put_nth zero new change (kid k ks) is = ap (λ (tree : Tree). branch tree (trees_in ks)) is
tree_put_nth (suc i) new change (kid k ks) is = ap (λ (trees : Trees). branch (tree_of k) trees) (tree_put_nth i new change ks is)

-- what is put at a place changes the tree there
pub tree_change_at : (place : Place) (change : Tree → Tree) (new k : Kid) → tree_of new ≡ change (tree_at place (tree_of k))
    → tree_of (put_at place new k) ≡ change_at place change (tree_of k)
tree_change_at [] change new k is = is
tree_change_at (i ∷ place) change new (at slot stored (begun_plot tracker kids)) is =
    let nth = tree_of_nth i kids in
    ap (λ (trees : Trees). begun tracker trees)
    (tree_put_nth i (put_at place new (kid_nth i kids)) (λ child. change_at place change child) kids
    (tree_change_at place change new (kid_nth i kids) (is ∙ ap (λ (t : Tree). change (tree_at place t)) (sym nth))
    ∙ ap (λ (t : Tree). change_at place change t) nth))
tree_change_at (i ∷ place) change new _ is = refl

pub tree_put_at : (place : Place) (new k : Kid) → tree_of (put_at place new k) ≡ change_at place (λ old. tree_of new) (tree_of k)
tree_put_at place new k = tree_change_at place (λ old. tree_of new) new k refl

-- Something put twice at one place.

pub put_nth_twice : (i : ℕ) (old new : Kid) (ks : Kids) → put_nth i new (put_nth i old ks) ≡ put_nth i new ks
put_nth_twice i old new no_kids = refl
put_nth_twice zero old new (kid k ks) = refl
put_nth_twice (suc i) old new (kid k ks) = ap (λ (xs : Kids). kid k xs) (put_nth_twice i old new ks)

pub put_below_twice : (i : ℕ) (old new k : Kid) → put_below i new (put_below i old k) ≡ put_below i new k
put_below_twice i old new (at slot stored (begun_plot tracker kids)) =
    ap (λ (xs : Kids). at slot stored (begun_plot tracker xs)) (put_nth_twice i old new kids)
put_below_twice i old new _ = refl

pub put_at_twice : (place : Place) (old new k : Kid) → Reaches place k → put_at place new (put_at place old k) ≡ put_at place new k
put_at_twice [] old new k reach = refl
put_at_twice (i ∷ place) old new (at slot stored (begun_plot tracker kids)) reach =
    ap (λ (x : Kid). put_below i (put_at place new x) (at slot stored (begun_plot tracker (put_nth i (put_at place old (kid_nth i kids)) kids))))
    (nth_put i (put_at place old (kid_nth i kids)) kids reach.0)
    ∙ put_below_twice i (put_at place old (kid_nth i kids)) (put_at place new (put_at place old (kid_nth i kids)))
    (at slot stored (begun_plot tracker kids)) ∙ ap (λ (x : Kid). put_below i x (at slot stored (begun_plot tracker kids)))
    (put_at_twice place old new (kid_nth i kids) reach.1)
put_at_twice (i ∷ place) old new _ reach = absurd reach

-- Paths.

-- its tree has as many children
pub count_in : (ks : Kids) → count_trees (trees_in ks) ≡ count_kids ks
count_in no_kids = refl
count_in (kid k ks) = ap suc (count_in ks)
