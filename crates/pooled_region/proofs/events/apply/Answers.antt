use Rattle.pooled_region.proofs.Found.{found_stored}
use Rattle.pooled_region.proofs.events.apply.Goals as goal

pub returns-in-Store-clause-found : goal.returns-in-Store-clause-found
returns-in-Store-clause-found c =
    found_stored c.args.places.now c.push.new.places c.args.words.now c.push.new.words c.args.listed.now.items c.args.positions.now c.in-Store.address c.in-Store.value
    c.requires.found c.push.ensures.here c.push.ensures.others
