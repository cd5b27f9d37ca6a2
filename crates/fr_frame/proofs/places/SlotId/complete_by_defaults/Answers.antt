use Rattle.std.proofs.Common.{◌≡◌, List, None, refl, sym, subst, arith}
use Rattle.fr_frame.specs.Common.{FillColumn, IfErr, IfInUse, Slot, WhyNotDefault, first_hole_left, shape_of}
use Rattle.std.proofs.lemmas.Grind.{common_steps}
use Rattle.std.proofs.lemmas.Result.{on_ok_weaker, IfErr-weaker}
use Rattle.fr_frame.proofs.DefaultedLaws.{HasTaken, has_taken, unmet_so, may_after, planned_after, tracker_so, left_so, there_so, invalid_so, filled_so}
use Rattle.fr_frame.proofs.places.SlotId.complete_by_defaults.Given.{Over}
use Rattle.fr_frame.proofs.places.SlotId.complete_by_defaults.Goals as goal
use Rattle.fr_frame.proofs.places.SlotId.complete_by_defaults.Goals.{In_ok-fill_defaults, In_ok-require_full_initialization}

-- the place has taken its fills
taken : (g : Over) (c : In_ok-fill_defaults g) (slots : List Slot) → slots ≡ c.fill_defaults.new.slots
    → HasTaken FillColumn.Deferred (g.H.Hooks.means c.args.hooks.now) c.args.table.now c.args.plan.now c.args.slots.now slots c.args.self.0
taken g c slots same =
    let means = g.H.Hooks.means c.args.hooks.now in
    let old = c.args.slots.now in
    let n = c.args.self.0 in
    subst (λ (after : List Slot). HasTaken FillColumn.Deferred means c.args.table.now c.args.plan.now old after n) (sym same)
    (has_taken FillColumn.Deferred means c.args.table.now c.args.plan.now old c.fill_defaults.new.slots n c.requires.place
    c.in_ok-fill_defaults.ensures.filled c.in_ok-fill_defaults.ensures.met)

took : (g : Over) (c : In_ok-require_full_initialization g) → HasTaken FillColumn.Deferred (g.H.Hooks.means c.args.hooks.now)
    c.args.table.now c.args.plan.now c.args.slots.now c.require_full_initialization.new.slots c.args.self.0
took g c =
    taken g (goal.at.In_ok-require_full_initialization g c).In_ok-fill_defaults c.require_full_initialization.new.slots
    c.require_full_initialization.ensures.unchanged

-- and nothing of it is left out
whole : (g : Over) (c : In_ok-require_full_initialization g) → IfInUse c.require_full_initialization.new.slots c.args.self.0
    (λ at. first_hole_left (shape_of c.args.plan.now at.node) at.body ≡ None)
whole g c =
    subst (λ (slots : List Slot). IfInUse slots c.args.self.0 (λ at. first_hole_left (shape_of c.args.plan.now at.node) at.body ≡ None))
    (sym c.require_full_initialization.ensures.unchanged) c.in_ok-require_full_initialization.ensures.full

pub returns-in_err-fill_defaults-clause-why : goal.returns-in_err-fill_defaults-clause-why
returns-in_err-fill_defaults-clause-why g c =
    let why : IfErr c.fill_defaults.result (λ kind. IfInUse c.args.slots.now c.args.self.0 (λ at.
    WhyNotDefault (g.H.Hooks.means c.args.hooks.now) c.args.table.now (shape_of c.args.plan.now at.node) at.body kind))
    = IfErr-weaker c.fill_defaults.result _ _ (unmet_so (g.H.Hooks.means c.args.hooks.now)
    c.args.table.now c.args.plan.now c.requires.checked c.args.slots.now c.args.self.0 c.requires.place)
    c.fill_defaults.ensures.why in
    grind (arith, common_steps)

pub require_full_initialization-requires-clause-place : goal.require_full_initialization-requires-clause-place
require_full_initialization-requires-clause-place g c =
    may_after c.requires.checked
    (taken g (goal.at.require_full_initialization-requires-clause-place g c).In_ok-fill_defaults c.fill_defaults.new.slots refl)

pub returns-in_err-require_full_initialization-clause-why : goal.returns-in_err-require_full_initialization-clause-why
returns-in_err-require_full_initialization-clause-why g c =
    let why : IfErr c.require_full_initialization.result (λ kind. IfInUse c.args.slots.now c.args.self.0 (λ at.
    WhyNotDefault (g.H.Hooks.means c.args.hooks.now) c.args.table.now (shape_of c.args.plan.now at.node) at.body kind))
    = IfErr-weaker c.require_full_initialization.result _ _ (left_so c.requires.checked
    (taken g (goal.at.returns-in_err-require_full_initialization-clause-why g c).In_ok-fill_defaults
    c.fill_defaults.new.slots refl))
    c.require_full_initialization.ensures.why in
    grind (arith, common_steps)

pub run_validators-requires : goal.run_validators-requires
run_validators-requires g c =
    let at = (goal.at.run_validators-requires g c).In_ok-require_full_initialization in record {
      planned = planned_after c.requires.checked (took g at) c.requires.plan;
      full = there_so c.requires.checked (took g at) (whole g at);
    }

pub returns-clause-filled : goal.returns-clause-filled
returns-clause-filled g c =
    let at = (goal.at.returns-clause-filled g c).In_ok-require_full_initialization in
    on_ok_weaker c.run_validators.result (filled_so c.requires.checked (took g at) (whole g at) c.requires.plan)
    c.run_validators.ensures.passing

pub returns-clause-why : goal.returns-clause-why
returns-clause-why g c =
    let at = (goal.at.returns-clause-why g c).In_ok-require_full_initialization in
    IfErr-weaker c.run_validators.result _ _ (invalid_so c.requires.checked (took g at) (whole g at) c.requires.plan)
    c.run_validators.ensures.failing

pub returns-clause-tracker : goal.returns-clause-tracker
returns-clause-tracker g c =
    let at = (goal.at.returns-clause-tracker g c).In_ok-require_full_initialization in
    on_ok_weaker c.run_validators.result (λ passing. tracker_so c.requires.checked (took g at)) c.run_validators.ensures.passing
