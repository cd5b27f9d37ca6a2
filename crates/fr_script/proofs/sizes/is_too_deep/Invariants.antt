use Rattle.std.proofs.Common.{◌≡◌, ◌≤◌, drop}
use Rattle.fr_model.specs.Commands.{calls_of}
use Rattle.fr_script.specs.Documents.{too_deep}
use Rattle.fr_script.proofs.sizes.is_too_deep.Given as goal

abbrev pub invariant-loop-command : goal.invariant-loop-command
invariant-loop-command l = record {
  begun_fits : l.begun ≤ l.command-index;
  ended_fits : l.ended ≤ l.command-index;
  so_far : too_deep l.proxied 0 0 (calls_of l.script) ≡ too_deep l.proxied l.begun l.ended (calls_of (drop l.command-index l.script));
}
