use Rattle.fr_frame.proofs.draining.drain.Goals as goal

pub returns-then-has_items-clause-plain : goal.returns-then-has_items-clause-plain
returns-then-has_items-clause-plain c used = c.drain_list.ensures.plain
