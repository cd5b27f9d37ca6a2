use Rattle.std.proofs.Common.{◌≡◌, map}
use Rattle.serde_json.specs.View.{members_view}
use Rattle.fr_doc.specs.Keys.{has_no_other}
use Rattle.fr_doc.proofs.members.has_only.Given as goal

abbrev pub invariant-loop-key : goal.invariant-loop-key
invariant-loop-key l =
    has_no_other (members_view l.members.entries) (map (λ key. key.now) l.keys)
    ≡ has_no_other (members_view l.key-iterator) (map (λ key. key.now) l.keys)
