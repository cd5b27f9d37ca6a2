use Rattle.std.proofs.Common.{Some, None, string_bytes, refl, ◌∙◌}
use Rattle.std.proofs.lemmas.Result.{err_from_is_err_and}
use Rattle.std.specs.Option.{option_map}
use Rattle.fr_shape.specs.Val.{nat, text}
use Rattle.fr_model.specs.Tree.{initial}
use Rattle.fr_example.specs.Servers.{server_table}
use Rattle.fr_example.proofs.BuildingServers.{Stands, room, room_with, has_shape}
use Rattle.fr_example.proofs.ServerCalls.{entered, begun, pushed, pushed_more, left_list, put_host}
use Rattle.fr_example.proofs.ServerSteps.{at_ports, list_begun, one_listed, both_listed}
use Rattle.fr_example.proofs.ServerTable.{text_own, port_own, text_found, port_found}
use Rattle.fr_example.proofs.ServersBuilt.{starts, plan_lacks_memory, with_host, none_with_host, is_server, is_no_server, build_releases_none, server_without_tokens, nothing_rose, told, reading_lacks_memory, lacks_memory, call_lacks_memory, host_there, host_missed}
use Rattle.fr_example.proofs.TextsWithoutTokens.{no_room}
use Rattle.fr_example.proofs.lead.build_server.Goals.{After-begin_field, After-init_list, After-push, After-push-2, After-end, After-build, in-Some+in_ok-partial-5, in_default}
use Rattle.fr_example.proofs.lead.build_server.Goals as goal

-- Where the builder stands before each call

before-begin_field : (c : After-begin_field) → Stands (initial server_table 3) c.in_ok-partial.partial c.args.ledger.now c.args.ledger.now
before-begin_field c =
    starts c.in_ok-partial.partial c.in_ok-table.table c.args.ledger.now c.in_ok-table.ensures.table c.in_ok-partial.ensures.shapes
    c.in_ok-partial.ensures.root c.in_ok-partial.ensures.state

before-init_list : (c : After-init_list) → Stands at_ports c.in_ok-begin_field.field-0 c.args.ledger.now c.begin_field.new.ledger
before-init_list c =
    let start = starts c.in_ok-partial.partial c.in_ok-table.table c.args.ledger.now c.in_ok-table.ensures.table c.in_ok-partial.ensures.shapes
    c.in_ok-partial.ensures.root c.in_ok-partial.ensures.state in
    entered start c.in_ok-begin_field.ensures.call

before-push : (c : After-push) → Stands list_begun c.in_ok-partial-2.partial c.args.ledger.now c.init_list.new.ledger
before-push c =
    let start = starts c.in_ok-partial.partial c.in_ok-table.table c.args.ledger.now c.in_ok-table.ensures.table c.in_ok-partial.ensures.shapes
    c.in_ok-partial.ensures.root c.in_ok-partial.ensures.state in
    let at_list = entered start c.in_ok-begin_field.ensures.call in
    begun at_list c.in_ok-partial-2.ensures.call

before-push-2 : (c : After-push-2) → Stands (one_listed c.args.ports.0) c.in_ok-push.field-0 c.args.ledger.now c.push.new.ledger
before-push-2 c =
    let start = starts c.in_ok-partial.partial c.in_ok-table.table c.args.ledger.now c.in_ok-table.ensures.table c.in_ok-partial.ensures.shapes
    c.in_ok-partial.ensures.root c.in_ok-partial.ensures.state in
    let at_list = entered start c.in_ok-begin_field.ensures.call in
    let empty = begun at_list c.in_ok-partial-2.ensures.call in
    pushed c.args.ports.0 empty c.in_ok-push.ensures.calls

before-end : (c : After-end) → Stands (both_listed c.args.ports.0 c.args.ports.1) c.in_ok-partial-3.partial c.args.ledger.now c.push-2.new.ledger
before-end c =
    let start = starts c.in_ok-partial.partial c.in_ok-table.table c.args.ledger.now c.in_ok-table.ensures.table c.in_ok-partial.ensures.shapes
    c.in_ok-partial.ensures.root c.in_ok-partial.ensures.state in
    let at_list = entered start c.in_ok-begin_field.ensures.call in
    let empty = begun at_list c.in_ok-partial-2.ensures.call in
    let one = pushed c.args.ports.0 empty c.in_ok-push.ensures.calls in
    pushed_more c.args.ports.0 c.args.ports.1 one c.in_ok-partial-3.ensures.calls

before-build : (c : After-build)
    → Stands (with_host (option_map string_bytes c.args.host) c.args.ports.0 c.args.ports.1) c.match-host-8.partial c.args.ledger.now c.match-host-8.ledger
before-build c =
    let start = starts c.in_ok-partial.partial c.in_ok-table.table c.args.ledger.now c.in_ok-table.ensures.table c.in_ok-partial.ensures.shapes
    c.in_ok-partial.ensures.root c.in_ok-partial.ensures.state in
    let at_list = entered start c.in_ok-begin_field.ensures.call in
    let empty = begun at_list c.in_ok-partial-2.ensures.call in
    let one = pushed c.args.ports.0 empty c.in_ok-push.ensures.calls in
    let both = pushed_more c.args.ports.0 c.args.ports.1 one c.in_ok-partial-3.ensures.calls in
    let listed = left_list c.args.ports.0 c.args.ports.1 both c.in_ok-partial-4.ensures.call in
    elim c.match-host-8.branch [
      | in-Some+in_ok-partial-5 w ↦ rw (w.partial-is, w.ledger-is, w.in-Some.is)
          (put_host (string_bytes w.in-Some.host) c.args.ports.0 c.args.ports.1 listed w.in_ok-partial-5.ensures.calls)
      | in_default w ↦ rw (w.partial-is, w.ledger-is, w.in_default.is) listed
    ]

-- What the calls ask

pub begin_field-requires : goal.begin_field-requires
begin_field-requires c =
    let start = starts c.in_ok-partial.partial c.in_ok-table.table c.args.ledger.now c.in_ok-table.ensures.table c.in_ok-partial.ensures.shapes
    c.in_ok-partial.ensures.root c.in_ok-partial.ensures.state in
    record { room = room (λ t. refl) start }

pub init_list-requires : goal.init_list-requires
init_list-requires c =
    let at_list = entered (before-begin_field (goal.at.init_list-requires c).After-begin_field) c.in_ok-begin_field.ensures.call in
    record { room = room (λ t. refl) at_list }

pub push-requires-clause-shape : goal.push-requires-clause-shape
push-requires-clause-shape c =
    let empty = begun (before-init_list (goal.at.push-requires-clause-shape c).After-init_list) c.in_ok-partial-2.ensures.call in
    has_shape port_own empty port_found

pub push-requires-clause-room : goal.push-requires-clause-room
push-requires-clause-room c =
    let empty = begun (before-init_list (goal.at.push-requires-clause-room c).After-init_list) c.in_ok-partial-2.ensures.call in
    room_with (λ t. refl) empty (nat c.args.ports.0) (λ t. refl)

pub push-requires-2-clause-shape : goal.push-requires-2-clause-shape
push-requires-2-clause-shape c =
    let one = pushed c.args.ports.0 (before-push (goal.at.push-requires-2-clause-shape c).After-push) c.in_ok-push.ensures.calls in
    has_shape port_own one port_found

pub push-requires-2-clause-room : goal.push-requires-2-clause-room
push-requires-2-clause-room c =
    let one = pushed c.args.ports.0 (before-push (goal.at.push-requires-2-clause-room c).After-push) c.in_ok-push.ensures.calls in
    room_with (λ t. refl) one (nat c.args.ports.1) (λ t. refl)

pub end-requires : goal.end-requires
end-requires c =
    let both = pushed_more c.args.ports.0 c.args.ports.1 (before-push-2 (goal.at.end-requires c).After-push-2) c.in_ok-partial-3.ensures.calls in
    record { room = room (λ t. refl) both }

pub set_field-requires-clause-shape : goal.set_field-requires-clause-shape
set_field-requires-clause-shape c =
    let listed = left_list c.args.ports.0 c.args.ports.1 (before-end (goal.at.set_field-requires-clause-shape c).After-end) c.in_ok-partial-4.ensures.call in
    has_shape text_own listed text_found

pub set_field-requires-clause-room : goal.set_field-requires-clause-room
set_field-requires-clause-room c =
    let listed = left_list c.args.ports.0 c.args.ports.1 (before-end (goal.at.set_field-requires-clause-room c).After-end) c.in_ok-partial-4.ensures.call in
    room_with (λ t. refl) listed (text (string_bytes c.in-Some.host)) (λ t. refl)

pub build-requires : goal.build-requires
build-requires c =
    let listed = left_list c.args.ports.0 c.args.ports.1 (before-end (goal.at.build-requires c).After-end) c.in_ok-partial-4.ensures.call in
    elim c.match-host-8.branch [
      | in-Some+in_ok-partial-5 w ↦ record {
        room = rw (w.partial-is, w.ledger-is)
            (room (none_with_host (Some (string_bytes w.in-Some.host)) c.args.ports.0 c.args.ports.1)
            (put_host (string_bytes w.in-Some.host) c.args.ports.0 c.args.ports.1 listed w.in_ok-partial-5.ensures.calls));
      }
      | in_default w ↦ record { room = rw (w.partial-is, w.ledger-is) (room (none_with_host None c.args.ports.0 c.args.ports.1) listed) }
    ]

-- Where there is no plan, or a call is refused, only memory lacks

pub returns-in_err-partial : goal.returns-in_err-partial
returns-in_err-partial c =
    let none = lacks_memory c.from_residual-in_err-partial.result _ c.from_residual-in_err-partial.ensures.1
    (plan_lacks_memory c.in_ok-table.table c.in_err-partial.field-0.0 c.in_ok-table.ensures.table c.in_err-partial.ensures.refused) in
    record {
      host = rw none tt;
      ports = rw none tt;
      memory = λ _. rw none refl;
      missing = λ _. rw none tt;
      released = refl;
    }

pub returns-in_err-begin_field : goal.returns-in_err-begin_field
returns-in_err-begin_field c =
    let fails = entered (before-begin_field (goal.at.returns-in_err-begin_field c).After-begin_field) c.in_err-begin_field.ensures.call in
    let none = call_lacks_memory c.from_residual-in_err-begin_field.result c.in_err-begin_field.field-0.0 c.from_residual-in_err-begin_field.ensures.1 fails.0 in
    record {
      host = rw none tt;
      ports = rw none tt;
      memory = λ _. rw none refl;
      missing = λ _. rw none tt;
      released = fails.1;
    }

pub returns-in_err-partial-2 : goal.returns-in_err-partial-2
returns-in_err-partial-2 c =
    let fails = begun (before-init_list (goal.at.returns-in_err-partial-2 c).After-init_list) c.in_err-partial-2.ensures.call in
    let none = call_lacks_memory c.from_residual-in_err-partial-2.result c.in_err-partial-2.field-0.0 c.from_residual-in_err-partial-2.ensures.1 fails.0 in
    record {
      host = rw none tt;
      ports = rw none tt;
      memory = λ _. rw none refl;
      missing = λ _. rw none tt;
      released = fails.1;
    }

pub returns-in_err-push : goal.returns-in_err-push
returns-in_err-push c =
    let fails = pushed c.args.ports.0 (before-push (goal.at.returns-in_err-push c).After-push) c.in_err-push.ensures.calls in
    let none = call_lacks_memory c.from_residual-in_err-push.result c.in_err-push.field-0.0 c.from_residual-in_err-push.ensures.1 fails.0 in
    record {
      host = rw none tt;
      ports = rw none tt;
      memory = λ _. rw none refl;
      missing = λ _. rw none tt;
      released = fails.1;
    }

pub returns-in_err-partial-3 : goal.returns-in_err-partial-3
returns-in_err-partial-3 c =
    let fails = pushed_more c.args.ports.0 c.args.ports.1 (before-push-2 (goal.at.returns-in_err-partial-3 c).After-push-2) c.in_err-partial-3.ensures.calls in
    let none = call_lacks_memory c.from_residual-in_err-partial-3.result c.in_err-partial-3.field-0.0 c.from_residual-in_err-partial-3.ensures.1 fails.0 in
    record {
      host = rw none tt;
      ports = rw none tt;
      memory = λ _. rw none refl;
      missing = λ _. rw none tt;
      released = fails.1;
    }

pub returns-in_err-partial-4 : goal.returns-in_err-partial-4
returns-in_err-partial-4 c =
    let fails = left_list c.args.ports.0 c.args.ports.1 (before-end (goal.at.returns-in_err-partial-4 c).After-end) c.in_err-partial-4.ensures.call in
    let none = call_lacks_memory c.from_residual-in_err-partial-4.result c.in_err-partial-4.field-0.0 c.from_residual-in_err-partial-4.ensures.1 fails.0 in
    record {
      host = rw none tt;
      ports = rw none tt;
      memory = λ _. rw none refl;
      missing = λ _. rw none tt;
      released = fails.1;
    }

pub returns-in_err-partial-5 : goal.returns-in_err-partial-5
returns-in_err-partial-5 c =
    let listed = left_list c.args.ports.0 c.args.ports.1 (before-end (goal.at.returns-in_err-partial-5 c).After-end) c.in_ok-partial-4.ensures.call in
    let fails = put_host (string_bytes c.in-Some.host) c.args.ports.0 c.args.ports.1 listed c.in_err-partial-5.ensures.calls in
    let none = call_lacks_memory c.from_residual-in_err-partial-5.result c.in_err-partial-5.field-0.0 c.from_residual-in_err-partial-5.ensures.1 fails.0 in
    record {
      host = rw none tt;
      ports = rw none tt;
      memory = λ _. rw none refl;
      missing = λ _. rw none tt;
      released = fails.1;
    }

-- Where it isn't built

pub returns-in_err-built : goal.returns-in_err-built
returns-in_err-built c =
    let stands = before-build (goal.at.returns-in_err-built c).After-build in
    let is = c.from_residual-in_err-built.ensures.1 in
    let no_server = is_no_server c.args.ports.0 c.args.ports.1 (option_map string_bytes c.args.host) c.in_err-built.field-0.0 stands c.in_err-built.ensures.build in
    let error = err_from_is_err_and c.from_residual-in_err-built.result is in
    record {
      host = rw error.1 tt;
      ports = rw error.1 tt;
      memory = λ there. rw (host_there c.args.host string_bytes _ _ is no_server there) refl;
      missing = host_missed c.args.host string_bytes _ _ is no_server;
      released = build_releases_none c.args.ports.0 c.args.ports.1 (option_map string_bytes c.args.host) _ stands c.in_err-built.ensures.build;
    }

-- Where it is built, and read back

pub materialize-requires : goal.materialize-requires
materialize-requires c =
    let stands = before-build (goal.at.materialize-requires c).After-build in
    let server = is_server c.args.ports.0 c.args.ports.1 (option_map string_bytes c.args.host) c.in_ok-built.built stands c.in_ok-built.ensures.build in
    record { room = no_room _ _ (server_without_tokens (option_map string_bytes c.args.host) c.args.ports.0 c.args.ports.1 c.in_ok-built.built.value _ server c.into_value.ensures.value) }

pub returns-in_err-materialize : goal.returns-in_err-materialize
returns-in_err-materialize c =
    let stands = before-build (goal.at.returns-in_err-materialize c).After-build in
    let server = is_server c.args.ports.0 c.args.ports.1 (option_map string_bytes c.args.host) c.in_ok-built.built stands c.in_ok-built.ensures.build in
    let none = lacks_memory c.from_residual-in_err-materialize.result _ c.from_residual-in_err-materialize.ensures.1
    (reading_lacks_memory c.match-host-8.partial _ _ _ (option_map string_bytes c.args.host) c.args.ports.0 c.args.ports.1 c.in_ok-built.built.value _
    c.in_err-materialize.field-0.0 stands c.in_ok-built.ensures.build.fitting server c.into_value.ensures.value c.in_err-materialize.ensures.read) in
    record {
      host = rw none tt;
      ports = rw none tt;
      memory = λ _. rw none refl;
      missing = λ _. rw none tt;
      released =
          nothing_rose _ _ _ c.in_err-materialize.ensures.released
          (server_without_tokens (option_map string_bytes c.args.host) c.args.ports.0 c.args.ports.1 c.in_ok-built.built.value _ server c.into_value.ensures.value)
          ∙ build_releases_none c.args.ports.0 c.args.ports.1 (option_map string_bytes c.args.host) _ stands c.in_ok-built.ensures.build;
    }

pub returns : goal.returns
returns c =
    let stands = before-build (goal.at.returns c).After-build in
    let server = is_server c.args.ports.0 c.args.ports.1 (option_map string_bytes c.args.host) c.in_ok-built.built stands c.in_ok-built.ensures.build in
    let read = told (option_map string_bytes c.args.host) c.args.ports.0 c.args.ports.1 c.in_ok-built.built.value _ _ _ server c.into_value.ensures.value
    c.in_ok-materialize.ensures.element in
    record {
      host = read.0;
      ports = read.1;
      memory = λ _. tt;
      missing = λ _. tt;
      released =
          c.in_ok-materialize.ensures.unreleased
          ∙ build_releases_none c.args.ports.0 c.args.ports.1 (option_map string_bytes c.args.host) _ stands c.in_ok-built.ensures.build;
    }
