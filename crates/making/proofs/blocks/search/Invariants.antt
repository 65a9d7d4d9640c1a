-- i blocks stand, and the search for the others goes on among the rest.
use Rattle.std.proofs.Common.{}
use Rattle.making.proofs.Searching.{Searching}
use Rattle.making.proofs.blocks.search.Given as goal

abbrev pub invariant-loop-i : goal.invariant-loop-i
invariant-loop-i l = Searching l.elements l.w l.i l.blocks l.rest
