use Rattle.fr_example.proofs.server.ServerFacet.find.Goals as goal

pub returns : goal.returns
returns c = record {
  first = simp (c.find.ensures.first, c.find-2.ensures.first) at c.find_struct.ensures.first;
  inside = c.find_struct.ensures.inside;
}
