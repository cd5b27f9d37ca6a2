-- Each call by which a server is built: where it leads, or that memory ran out.
use Rattle.std.proofs.Common.{ℕ, List, Result, refl}
use Rattle.std.specs.Prelude.{codes}
use Rattle.fr_shape.specs.Hooks.{Meanings}
use Rattle.fr_shape.specs.Val.{nat, text}
use Rattle.fr_model.specs.Commands.{Call}
use Rattle.fr_model.specs.Tree.{initial}
use Rattle.fr_partial.specs.Builder.{Builder, IsCall}
use Rattle.fr_partial.specs.Several.{AreCalls}
use Rattle.fr_partial.specs.Spots.{set_at}
use Rattle.fr_partial.specs.Typed.{own_number}
use Rattle.fr_work.specs.declared.reflect_error.ReflectError.{ReflectError}
use Rattle.fr_example.specs.Servers.{server_table}
use Rattle.fr_example.proofs.BuildingServers.{Stands, GoesOn, by_call, by_calls}
use Rattle.fr_example.proofs.ServerSteps.{at_ports, list_begun, one_listed, both_listed, listed, hosted, enters_ports, begins_list, pushes_one, pushes_other, leaves_list, puts_host}
use Rattle.fr_example.proofs.ServerTable.{text_own, port_own, text_number, port_number}

module _ {H : Type 0} {hooks : Meanings} {before : Builder H} {result : Result (Builder H) ReflectError} {old now new : List ℕ} where
  -- the ports are entered
  pub entered : Stands (initial server_table 3) before old now → IsCall hooks before (Call.BeginField (codes "ports")) result now new
      → GoesOn at_ports result old new
  entered stands owed = by_call (λ t. refl) stands hooks at_ports _ result new (enters_ports hooks) (λ t. refl) owed

  -- their list is begun
  pub begun : Stands at_ports before old now → IsCall hooks before Call.InitList result now new → GoesOn list_begun result old new
  begun stands owed = by_call (λ t. refl) stands hooks list_begun _ result new (begins_list hooks) (λ t. refl) owed

  -- a port is pushed
  pub pushed : (port : ℕ) → Stands list_begun before old now
      → AreCalls hooks before (set_at Call.BeginListItem (own_number port_own before.shapes) (nat port)) result now new
      → GoesOn (one_listed port) result old new
  pushed port stands owed =
      by_calls (λ t. refl) stands port_own 1 hooks (one_listed port) Call.BeginListItem (nat port) result new port_number
      (pushes_one hooks port) (λ n t. refl) owed

  -- and one more
  pub pushed_more : (port other : ℕ) → Stands (one_listed port) before old now
      → AreCalls hooks before (set_at Call.BeginListItem (own_number port_own before.shapes) (nat other)) result now new
      → GoesOn (both_listed port other) result old new
  pushed_more port other stands owed =
      by_calls (λ t. refl) stands port_own 1 hooks (both_listed port other) Call.BeginListItem (nat other) result new port_number
      (pushes_other hooks port other) (λ n t. refl) owed

  -- the list is left
  pub left_list : (port other : ℕ) → Stands (both_listed port other) before old now → IsCall hooks before Call.End result now new
      → GoesOn (listed port other) result old new
  left_list port other stands owed =
      by_call (λ t. refl) stands hooks (listed port other) _ result new (leaves_list hooks port other) (λ t. refl) owed

  -- the host is put
  pub put_host : (host : List ℕ) (port other : ℕ) → Stands (listed port other) before old now
      → AreCalls hooks before (set_at (Call.BeginField (codes "host")) (own_number text_own before.shapes) (text host)) result now new
      → GoesOn (hosted host port other) result old new
  put_host host port other stands owed =
      by_calls (λ t. refl) stands text_own 0 hooks (hosted host port other) (Call.BeginField (codes "host")) (text host) result new text_number
      (puts_host hooks host port other) (λ n t. refl) owed
