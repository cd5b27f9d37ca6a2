use Rattle.std.proofs.Common.{◌≡◌, map, Some, ◌∙◌, rules}
use Rattle.serde_json.specs.View.{view as data_of}
use Rattle.fr_shape.specs.View.{dyn_view, dynamics_of, members_of}
use Rattle.fr_doc.specs.DynForms.{dyn_form, dyn_member_form}
use Rattle.fr_doc.specs.Reading.{member_view}
use Rattle.serde_json.specs.declared.value.Value.{the_lemmas as json_lemmas}
use Rattle.serde_json.specs.Find.{as_str}
use Rattle.std.specs.Prelude.{string_bytes}
use Rattle.fr_doc.proofs.DynamicLists.{dynamics_whole, members_whole, member_of, member_split}
use Rattle.fr_doc.proofs.Loops.{then_fails, so_far_next, fails, ends}
use Rattle.fr_doc.proofs.dyn_form.+dynamic.Goals as goal
use Rattle.fr_doc.proofs.dyn_form.+dynamic.Goals.{read_dyn_member-In-Some-Some-None}

pub read_dyns-returns-in_err-read_dyn : goal.read_dyns-returns-in_err-read_dyn
read_dyns-returns-in_err-read_dyn t c =
    let vs = c.deref-item-items.result.now in
    let whole = dynamics_whole c.args.items.now vs c.deref-item-items.ensures.value in
    let failed = fails dyn_form dynamics_of vs _ whole dyn_view (λ (ds : _). dynamics_of (map dyn_view ds)) c.loop-item.item-index c.item-item.result (map dyn_view c.loop-item.dyns) c.in_err-read_dyn.field-0.0 c.loop-item-test.true c.item-item.is c.in_err-read_dyn.ensures c.loop-item.invariant in
    search (rules, failed)

pub read_dyns-returns : goal.read_dyns-returns
read_dyns-returns t c =
    let vs = c.deref-item-items.result.now in
    ends dyn_form dynamics_of vs _ (dynamics_whole c.args.items.now vs c.deref-item-items.ensures.value) c.loop-item.item-index (map dyn_view c.loop-item.dyns) c.loop-item-test.false c.loop-item.invariant

pub read_dyn_members-returns-in_err-read_dyn_member :
    goal.read_dyn_members-returns-in_err-read_dyn_member
read_dyn_members-returns-in_err-read_dyn_member t c =
    let vs = c.deref-item-items.result.now in
    let whole = members_whole c.args.json.now c.in-Array.items vs c.in-Array.is c.deref-item-items.ensures.value in
    let failed = fails dyn_member_form members_of vs _ whole member_view (λ (ms : _). members_of (map member_view ms)) c.loop-item.item-index c.item-item.result (map member_view c.loop-item.members) c.in_err-read_dyn_member.field-0.0 c.loop-item-test.true c.item-item.is c.in_err-read_dyn_member.ensures c.loop-item.invariant in
    search (rules, failed)

pub read_dyn_members-loop-item-preserved : goal.read_dyn_members-loop-item-preserved
read_dyn_members-loop-item-preserved t c =
    let vs = c.deref-item-items.result.now in
    let more = so_far_next dyn_member_form member_view vs c.loop-item.item-index c.item-item.result c.loop-item.members c.in_ok-read_dyn_member.field-0 c.loop-item-test.true c.item-item.is c.in_ok-read_dyn_member.ensures c.loop-item.invariant in
    rw c.in_ok-push.ensures.ok more

pub read_dyn_members-returns : goal.read_dyn_members-returns
read_dyn_members-returns t c =
    let vs = c.deref-item-items.result.now in
    ends dyn_member_form members_of vs _ (members_whole c.args.json.now c.in-Array.items vs c.in-Array.is c.deref-item-items.ensures.value) c.loop-item.item-index _ c.loop-item-test.false c.loop-item.invariant

member_is : (t : _) (c : read_dyn_member-In-Some-Some-None t) → dyn_member_form (data_of c.args.json.now) ≡ member_of (data_of c.in-Some-Some-None.key.now, data_of c.in-Some-Some-None.inner.now)
member_is t c =
    let pair = c.in-Some-Some-None in
    member_split c.args.json.now c.in-Array.items c.iter-items.result.rest.now c.in-Array.is (c.iter-items.ensures.rest ∙ c.deref.ensures.value) _ _ _ _ pair.ensures.steps pair.ensures'.steps pair.ensures''.steps.0

pub read_dyn_member-returns-in_err-dynamic : goal.read_dyn_member-returns-in_err-dynamic
read_dyn_member-returns-in_err-dynamic t c =
    let split = member_is t (goal.at.read_dyn_member-returns-in_err-dynamic t c).In-Some-Some-None in
    let named : as_str (data_of c.in-Some-Some-None.key.now) ≡ Some (string_bytes c.in-String.key) = search (rules, json_lemmas) in
    let inner = dyn_form (data_of c.in-Some-Some-None.inner.now) in
    let failed = then_fails dyn_view member_view c.in_err-dynamic.field-0.0 inner (λ x. Some (string_bytes c.in-String.key, x)) (split ∙ rw named) c.in_err-dynamic.ensures in
    search (rules, failed)

pub read_dyn_member-returns : goal.read_dyn_member-returns
read_dyn_member-returns t c =
    let split = member_is t (goal.at.read_dyn_member-returns t c).In-Some-Some-None in
    let named : as_str (data_of c.in-Some-Some-None.key.now) ≡ Some (string_bytes c.in-String.key) = search (rules, json_lemmas) in
    split ∙ rw (named, c.in_ok-dynamic.ensures, c.in_ok-new.ensures.copy, c.as_str.ensures.value)
