use Rattle.pooled_region.proofs.Found.{are_within, found_fenced}
use Rattle.pooled_region.proofs.marks.fence.Goals as goal

pub sift-requires-clause-within : goal.sift-requires-clause-within
sift-requires-clause-within c = are_within c.fence_words.new.places c.fence_words.new.words c.fence_words.new.free c.fence_words.ensures.pooled

pub sift-requires-clause-found : goal.sift-requires-clause-found
sift-requires-clause-found c = found_fenced c.args.places.now c.fence_words.new.places c.args.words.now c.fence_words.new.words c.args.listed.now.items c.args.positions.now c.args.mark
    c.requires.mark c.requires.found c.fence_words.ensures.fenced
