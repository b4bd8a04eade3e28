use Rattle.std.proofs.Common.{◌≤◌, length, sym, ap, ◌∙◌, arith, zero}
use Rattle.std.specs.List.{list_any}
use Rattle.pooled_region.specs.Pool.{is_marked}
use Rattle.pooled_region.proofs.Apart.{count_fits}
use Rattle.pooled_region.proofs.pooled.CellsDevice.reserve.Goals as goal

pub make_room-requires : goal.make_room-requires
make_room-requires c =
    let self = c.args.self.now in
    let fits : self.free.count ≤ length self.places.items = count_fits self.places.items self.words.items self.free self.pooled zero in
    omega (arith, self.places.ok.0)

pub invariant_of-self : goal.invariant_of-self
invariant_of-self c =
    let self = c.args.self.now in
    record {
      pooled = c.make_room.ensures.pooled self.words.items self.pooled;
      none_lost = omega (arith, c.make_room.ensures.none_lost, self.none_lost);
      are_listed = self.are_listed;
      are_found = λ a own. self.are_found a (ap (list_any is_marked) (sym (c.make_room.ensures.same self.words.items self.pooled a)) ∙ own);
      long = self.long;
      list_room = self.list_room;
      small = self.small;
      events_within = self.events_within;
      budget_fits = self.budget_fits;
      stopped_fits = self.stopped_fits;
    }
