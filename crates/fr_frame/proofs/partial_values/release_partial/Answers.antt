use Rattle.fr_frame.proofs.partial_values.release_partial.Goals as goal

pub release-requires : goal.release-requires
release-requires c = record { room = rw c.in-Whole.is at c.requires }

pub release_children-requires : goal.release_children-requires
release_children-requires c = rw c.in-Begun.is at c.requires
