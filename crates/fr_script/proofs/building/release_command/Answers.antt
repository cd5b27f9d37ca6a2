use Rattle.fr_script.proofs.building.release_command.Goals as goal

pub release-requires : goal.release-requires
release-requires c = record { room = rw c.in-Set.is at c.requires }
