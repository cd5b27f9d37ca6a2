use Rattle.std.proofs.Common.{◌≡◌, Bool, true, ◌&&◌, ap, sym, ◌∙◌}
use Rattle.std.specs.List.{list_all}
use Rattle.fr_shape.specs.declared.parts.FieldTest.{FieldTest}
use Rattle.fr_shape.specs.Checked.{fields_of, proxies_of}
use Rattle.fr_shape.specs.Tests.{proxy_passes, field_passes}
use Rattle.fr_shape.proofs.Faults.{proxies_split}
use Rattle.fr_shape.proofs.rules.all_proxies_pass.Goals as goal

pub returns-then-proxies_pass : goal.returns-then-proxies_pass
returns-then-proxies_pass c =
    let own : list_all (proxy_passes c.args.table.now c.args.test) (proxies_of c.args.shape.now.proxy c.args.shape.now.format_proxies) ≡ true = sym c.proxies_pass.ensures ∙ c.if-proxies_pass.true in
    c.fields_pass.ensures
    ∙ sym (proxies_split c.args.table.now c.args.test c.args.shape.now
    ∙ ap (λ (b : Bool). b && list_all (field_passes c.args.table.now (FieldTest.Proxies c.args.test)) (fields_of c.args.shape.now.def)) own)
