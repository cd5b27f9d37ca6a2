use Rattle.std.proofs.Common.{◌≡◌, drop, map}
use Rattle.std.specs.List.{list_all}
use Rattle.fr_shape.specs.declared.shape.FormatProxy.{FormatProxy}
use Rattle.fr_shape.specs.Checked.{proxies_of}
use Rattle.fr_shape.specs.Tests.{proxy_passes}
use Rattle.fr_shape.proofs.parts.proxies_pass.Given as goal

abbrev pub invariant-loop-formatted : goal.invariant-loop-formatted
invariant-loop-formatted l =
    list_all (proxy_passes l.table l.test) (proxies_of l.proxy l.format_proxies)
    ≡ list_all (proxy_passes l.table l.test) (map (λ (formatted : FormatProxy). formatted.proxy) (drop l.formatted-index l.formatted-items))
