-- Where slots lead their tree leads.
use Rattle.std.proofs.Common.{ℕ, zero, suc, [], ◌∷◌}
use Rattle.fr_moves.specs.Common.{Kid, Leads, OffBut, Place, Trees, at, begun_plot, branch, deferred, gone, no_trees, tree_of, trees_in}
use Rattle.fr_model.specs.Well.{AllOff}
use Rattle.fr_frame.specs.Kids.{there, Kids, no_kids, kid}
use Rattle.fr_store.specs.Ways.{StoredBut, LeadsUnstored}

-- Where slots lead to a place, their tree leads there, whatever lies off the way.

none_off : (start : ℕ) (ts : Trees) → AllOff (deferred start) ts
none_off start no_trees = tt
none_off start (branch t ts) = (tt, none_off start ts)

leads_but : (start i : ℕ) (place : Place) (kids : Kids) → StoredBut i (λ below. LeadsUnstored place below) kids
    → ((k : Kid) → LeadsUnstored place k → Leads (deferred start) place (tree_of k))
    → OffBut (deferred start) i (λ child. Leads (deferred start) place child) (trees_in kids)
leads_but start i place no_kids leads each = absurd leads
leads_but start zero place (kid k ks) leads each = (each k leads.0, none_off start (trees_in ks))
leads_but start (suc i) place (kid k ks) leads each = (tt, leads_but start i place ks leads.1 each)

pub tree_leads : (start : ℕ) (place : Place) (k : Kid) → LeadsUnstored place k → Leads (deferred start) place (tree_of k)
tree_leads start [] (at slot stored (begun_plot tracker kids)) leads = (tt, none_off start (trees_in kids))
tree_leads start [] gone leads = absurd leads
tree_leads start [] (there v) leads = absurd leads
tree_leads start [] _ leads = tt
tree_leads start (i ∷ place) (at slot stored (begun_plot tracker kids)) leads =
    leads_but start i place kids leads.1 (tree_leads start place)
tree_leads start (i ∷ place) gone leads = absurd leads
tree_leads start (i ∷ place) (there v) leads = absurd leads
tree_leads start (i ∷ place) _ leads = absurd leads.1
