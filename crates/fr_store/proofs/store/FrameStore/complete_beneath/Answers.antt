use Rattle.fr_store.proofs.store.FrameStore.complete_beneath.Goals as goal

pub walk_beneath-requires : goal.walk_beneath-requires
walk_beneath-requires g c = record { is_open = record { plan = c.args.plan.now; is_open = c.requires.is_open } }
