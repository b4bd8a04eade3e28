use Rattle.std.proofs.Common.{arith}
use Rattle.log_keeper.proofs.GateLists.{listing_fits, listing_goes_on}
use Rattle.log_keeper.proofs.listing.list_gates.Goals as goal

pub push_chosen-requires : goal.push_chosen-requires
push_chosen-requires c = listing_fits c.args.transaction c.args.ends c.args.entries.now c.loop-entry.entry-index _ c.loop-entry.list.items _ c.loop-entry-test.true c.loop-entry.invariant.listing c.loop-entry.invariant.room

pub loop-entry-preserved : goal.loop-entry-preserved
loop-entry-preserved c =
    let room = c.loop-entry.invariant.room in
    let capacity = c.loop-entry.invariant.capacity in
    let same = c.push_chosen.ensures.capacity in record {
      listing = listing_goes_on c.args.transaction c.args.ends c.args.entries.now c.loop-entry.entry-index _ c.loop-entry.list.items c.push_chosen.new.list.items c.loop-entry-test.true
          c.loop-entry.invariant.listing c.push_chosen.ensures.items;
      room = omega (arith, room, same);
      capacity = omega (arith, capacity, same);
    }
