use Rattle.std.proofs.Common.{◌≡◌, drop}
use Rattle.fr_model.specs.Conversions.{proxy_named}
use Rattle.fr_refusals.proofs.conversions.proxy_named.Given as goal

-- what is left to look through has the same answer
abbrev pub invariant-loop-formatted : goal.invariant-loop-formatted
invariant-loop-formatted l =
    proxy_named l.format (drop l.formatted-index l.format_proxies) ≡ proxy_named l.format l.format_proxies
