use Rattle.std.proofs.Common.{◌≡◌, ℕ, nat_lt, not, List, [], ◌∷◌, length, refl, sym, ◌∙◌, ap, arith}
use Rattle.std.proofs.lemmas.Grind.{common_steps}
use Rattle.std.proofs.lemmas.Bool.Decides.{nat_tests}
use Rattle.fr_model.specs.Trackers.{keys_of_tracker, same_keys}
use Rattle.fr_frame.specs.Common.{as_tracker}
use Rattle.fr_frame.specs.declared.places.EntriesKind.{EntriesKind}
use Rattle.fr_frame.specs.declared.places.Tracker.{Tracker}
use Rattle.fr_frame.proofs.places.EntriesKind.has_keys.Goals as goal

some_keys : (keys : List (List ℕ)) → nat_lt 0 (length keys) ≡ not (same_keys keys [])
some_keys [] = refl
some_keys (key ∷ keys) = grind (arith, common_steps, nat_tests)

pub returns-in-Object : goal.returns-in-Object
returns-in-Object c =
    ap (λ (n : ℕ). nat_lt 0 n) c.len.ensures.count ∙ some_keys c.in-Object.keys
    ∙ ap (λ (kind : EntriesKind). not (same_keys (keys_of_tracker (as_tracker (Tracker.Entries kind))) [])) (sym c.in-Object.is)
