-- What the calls that build nodes return, against what is meant to be built. Where there was no memory nothing is said.
use Rattle.std.specs.Prelude.{◌≡◌, List, Result, Ok, Err}
use Rattle.fr_shape.specs.declared.error.PlanError.{PlanError}
use Rattle.fr_plan.specs.declared.nodes.NodeId.{NodeId}
use Rattle.fr_plan.specs.declared.outlines.Walk.{Walk}
use Rattle.fr_plan.specs.Build.{Built, Made, MadeAll}

-- the error is the refusal that is meant
abbrev pub IsMeant : {X : Type 0} → Built X → PlanError → Type 0
IsMeant meant (PlanError.Alloc refused) = meant ≡ Err refused
IsMeant meant PlanError.OutOfMemory = Unit {0}

-- the node and the walk are those that are meant
abbrev pub Gives : Built Made → Result NodeId PlanError → Walk → Type 0
Gives meant (Ok node) walk = meant ≡ Ok (record { walk = walk; node = node })
Gives meant (Err error) walk = IsMeant meant error

-- so are the nodes
abbrev pub GivesAll : Built MadeAll → Result (List NodeId) PlanError → Walk → Type 0
GivesAll meant (Ok nodes) walk = meant ≡ Ok (record { walk = walk; nodes = nodes })
GivesAll meant (Err error) walk = IsMeant meant error

-- so are the nodes that stand behind those that were there
abbrev pub GivesMore : {X : Type 0} → Built MadeAll → Result X PlanError → Walk → List NodeId → Type 0
GivesMore meant (Ok done) walk nodes = meant ≡ Ok (record { walk = walk; nodes = nodes })
GivesMore meant (Err error) walk nodes = IsMeant meant error
