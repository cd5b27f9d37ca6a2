use Rattle.std.proofs.Common.{◌≡◌, drop, map, take}
use Rattle.fr_shape.specs.Lists.{is_nil}
use Rattle.fr_shape.specs.Tokens.{vals_tokens}
use Rattle.fr_shape.specs.View.{vals_of, view}
use Rattle.fr_partial.proofs.reading_as.copies_of.Given as goal

-- the first values are copied, and whether a token stands in any of them is told by the others
abbrev pub invariant-loop-i : goal.invariant-loop-i
invariant-loop-i l = record {
  copied : map view l.copies ≡ take l.i l.seen.children;
  held : is_nil (vals_tokens (vals_of l.seen.children)) ≡ is_nil (vals_tokens (vals_of (drop l.i l.seen.children)));
}
