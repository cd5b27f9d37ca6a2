-- What a builder works with, as contracts see it, and what is true of it. Only contracts here and inside `fr_work` speak of it.
use Rattle.std.specs.Prelude.{◌≡◌}
use Rattle.fr_shape.specs.Numbered.{IsNumbered}
use Rattle.fr_model.specs.Paths.{path_of}
use Rattle.fr_model.specs.Well.{Leads, BeganAbove, RestsAround}
use Rattle.fr_moves.specs.declared.parts.Parts.{Parts}
use Rattle.fr_moves.specs.HeldPlan.{plan_in}
use Rattle.fr_refusals.specs.Modes.{mode_of}
use Rattle.fr_moves.specs.Sites.{Site}
use Rattle.fr_moves.specs.Underway.{state_of, IsAtWork}

-- the parts as contracts see them: the table, the root's shape, the plan and the state
abbrev pub site : Parts → Site
site parts = record {
  shapes = parts.frames.table.now;
  root = parts.frames.root.0;
  plan = plan_in parts.plan;
  state = state_of parts.frames.slots parts.frames.stack (mode_of parts.frames.mode) parts.calls;
}

-- A builder whose open places stand for a state in order, at rest around the place at which it works; and
-- the path of that place.
pub record IsSound (parts : Parts) : Type 0 where
  pub numbered : IsNumbered parts.frames.table.now
  pub at_work : IsAtWork (plan_in parts.plan) parts.frames
  pub leads : Leads (site parts).state.mode (site parts).state.cursor (site parts).state.tree
  pub began : BeganAbove (site parts).state.mode (site parts).state.cursor
  pub rests : RestsAround (site parts).state.cursor (site parts).state.tree
  pub path : parts.path ≡ path_of (site parts).state
