use Rattle.fr_frame.proofs.assembling.value_or_back.Goals as goal

pub value_of_begun-requires-clause-room : goal.value_of_begun-requires-clause-room
value_of_begun-requires-clause-room c = rw c.in-Begun.is at c.requires.room
