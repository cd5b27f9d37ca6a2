use Rattle.fr_doc.proofs.Loops.{IsSoFar}
use Rattle.fr_doc.specs.ProxyForms.{format_proxy_form}
use Rattle.fr_doc.proofs.proxy_form.read_format_proxies.Given as goal

abbrev pub invariant-loop-item : goal.invariant-loop-item
invariant-loop-item l = IsSoFar format_proxy_form l.item-items l.item-index l.proxies
