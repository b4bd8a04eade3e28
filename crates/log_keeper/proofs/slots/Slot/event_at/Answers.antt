use Rattle.std.proofs.Common.{ap, sym, ◌∙◌, option_map}
use Rattle.std.proofs.lemmas.Option.{slice_get-map}
use Rattle.persist_model.specs.Chain.{out_event}
use Rattle.atomic_list.specs.Plans.{removal}
use Rattle.log_keeper.proofs.slots.Slot.event_at.Goals as goal

pub returns-in-Drop : goal.returns-in-Drop
returns-in-Drop c = rw c.in-Drop.is (c.out_some-in-Drop.ensures ∙ ap (option_map (out_event c.args.p)) c.remove_event_at.ensures
    ∙ sym (slice_get-map (out_event c.args.p) (removal c.in-Drop.r) c.args.i))
