use Rattle.std.proofs.Common.{◌≡◌, map, drop, ◌++◌}
use Rattle.fr_shape.specs.declared.shape.FormatProxy.{FormatProxy}
use Rattle.fr_shape.specs.declared.shape.ProxyDef.{ProxyDef}
use Rattle.fr_shape.specs.Checked.{proxies_of}
use Rattle.fr_plan.proofs.walking.sources_of.Given as goal

abbrev pub invariant-loop-formatted : goal.invariant-loop-formatted
invariant-loop-formatted l =
    l.sources
    ++ map (λ (proxy : ProxyDef). proxy.source) (map (λ (formatted : FormatProxy). formatted.proxy) (drop l.formatted-index l.formatted-items))
    ≡ map (λ (proxy : ProxyDef). proxy.source) (proxies_of l.fn.proxy l.fn.format_proxies)
