use Rattle.std.proofs.Common.{◌≡◌, map}
use Rattle.persist_cells.specs.Calls.{entry_of}
use Rattle.persist_cells.proofs.Walks.{entries_below}
use Rattle.persist_cells.proofs.walking.walk.Given as goal

abbrev pub invariant-loop-key : goal.invariant-loop-key
invariant-loop-key g l = record {
  same : g.W.Reads.space l.words ≡ g.W.Reads.space l.initial.words;
  found : map entry_of l.found ≡ entries_below (g.W.Reads.space l.initial.words).word l.root l.key;
}
