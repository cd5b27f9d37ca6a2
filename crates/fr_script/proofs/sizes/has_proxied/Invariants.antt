use Rattle.std.proofs.Common.{◌≡◌, false, take}
use Rattle.fr_script.specs.Documents.{has_proxied}
use Rattle.fr_script.proofs.sizes.has_proxied.Given as goal

-- none of the shapes so far has a proxy
abbrev pub invariant-loop-id : goal.invariant-loop-id
invariant-loop-id l = has_proxied (take l.id l.table) ≡ false
