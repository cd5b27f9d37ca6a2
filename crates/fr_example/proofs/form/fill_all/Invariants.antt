use Rattle.std.proofs.Common.{◌≡◌, ℕ, ◌*◌, drop}
use Rattle.fr_model.specs.Run.{run_from}
use Rattle.fr_partial.specs.Builder.{holds}
use Rattle.fr_example.specs.Forms.{form_script}
use Rattle.fr_example.proofs.form.fill_all.Given as goal

-- The run goes on from here, with the fields that are left, as it would from the start.
abbrev pub invariant-loop-field : goal.invariant-loop-field
invariant-loop-field g l =
    record {
      shapes : l.partial.shapes ≡ l.fn.partial.shapes;
      hooks : l.partial.hooks ≡ l.fn.partial.hooks;
      root : l.partial.root ≡ l.fn.partial.root;
      run :
          run_from (g.H.Hooks.means l.fn.partial.hooks) l.fn.partial.shapes l.fn.partial.root (3 * l.field-index) l.partial.state
          (form_script (drop l.field-index l.fields))
          ≡ run_from (g.H.Hooks.means l.fn.partial.hooks) l.fn.partial.shapes l.fn.partial.root 0 l.fn.partial.state (form_script l.fields);
      tokens : (t : ℕ) → holds l.partial t ≡ 0;
      ledger : l.ledger ≡ l.fn.ledger;
    }
