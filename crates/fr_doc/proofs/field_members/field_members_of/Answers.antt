use Rattle.std.proofs.Common.{rules, ◌≡◌, Some, None, string_bytes, sym, ◌∙◌}
use Rattle.serde_json.specs.Find.{as_object}
use Rattle.serde_json.specs.View.{view as data_of, members_view}
use Rattle.fr_doc.specs.FieldMembers.{parts_view, parts_and, field_parts}
use Rattle.fr_doc.proofs.FieldParts.{parts_next, parts_broken, parts_start, parts_end, not_object}
use Rattle.fr_doc.proofs.field_members.field_members_of.Goals as goal

pub returns-in_err-ok_or : goal.returns-in_err-ok_or
returns-in_err-ok_or c =
    let none : as_object (data_of c.args.json.now) ≡ None = search rules in
    let broken = not_object (data_of c.args.json.now) none in
    search (rules, broken)

pub loop-key-init : goal.loop-key-init
loop-key-init c =
    let members : as_object (data_of c.args.json.now) ≡ Some (members_view c.in_ok-ok_or.field-0.now.entries) = search rules in
    rw (c.into_iter-key-iterator.ensures.into_iter_gives, c.iter-key-items.ensures.rest) (parts_start (data_of c.args.json.now) _ members)

pub returns-in_err-found : goal.returns-in_err-found
returns-in_err-found c =
    let found = parts_view c.loop-key.found in
    let key = string_bytes c.in-Some.key.now in
    let broken : parts_and found key (data_of c.in-Some.inner.now) ≡ None = search rules in
    let none : field_parts (data_of c.args.json.now) ≡ None =
    sym (rw c.in-Some.ensures.steps at c.loop-key.invariant) ∙ parts_broken found key (data_of c.in-Some.inner.now) (members_view c.next.new.self) broken in
    search (rules, none)

pub loop-key-preserved : goal.loop-key-preserved
loop-key-preserved c =
    let found = parts_view c.loop-key.found in
    let more = parts_view c.in_ok-found.found in
    let key = string_bytes c.in-Some.key.now in
    let next : parts_and found key (data_of c.in-Some.inner.now) ≡ Some more = search rules in
    sym (parts_next found more key (data_of c.in-Some.inner.now) (members_view c.next.new.self) next) ∙ rw c.in-Some.ensures.steps at c.loop-key.invariant

pub returns : goal.returns
returns c =
    sym (rw c.in-None.ensures.steps.0 at c.loop-key.invariant) ∙ parts_end (parts_view c.loop-key.found)
