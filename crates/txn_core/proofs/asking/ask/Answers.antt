use Rattle.std.proofs.Common.{◌≡◌, ◌-◌, ◌^◌, ◌≤◌, min, refl, subst, arith}
use Rattle.lane_types.specs.Faces.{Base}
use Rattle.lane_book.specs.FacesOf.{lane_at, faces_of}
use Rattle.lane_book.specs.Refusals.{Told}
use Rattle.txn_core.specs.Asking.{IsExact, WritesData, need_for, room_for}
use Rattle.txn_core.specs.States.{base_of, HasWorld}
use Rattle.txn_core.proofs.AskedCalls.{can_be_asked, blocks_are, structures_are, told_anyway, stays_refused, refused_phases, is_exact, refused_face, lacks_face, kept_there}
use Rattle.txn_core.proofs.AskedData.{names_data, writes_data}
use Rattle.txn_core.proofs.AskedRoom.{need_is_told}
use Rattle.txn_core.proofs.Facts.{any_start, is_book, has_logs}
use Rattle.txn_core.proofs.Reading.{read_of}
use Rattle.txn_core.proofs.Paying.{goes_lane}
use Rattle.txn_core.proofs.Unasked.{refused_lanes, lacking_lane}
use Rattle.txn_core.proofs.asking.ask.Goals as goal
use Rattle.txn_core.proofs.AskedExactly.{beside_with}
use Rattle.lane_book.specs.Lanes.{refused_lane}
use Rattle.txn_core.proofs.asking.ask.Goals.{After-refusal}

-- ---- behind the look at what stands against it

-- what stood at the start
abbrev start : (g : _) (c : After-refusal g) → Base
start g c = base_of c.args.layout c.args.sorts.now.value (g.D.Look.words c.args.begun.now.value) (g.D.Device.counts c.args.begun.now.value)

world : (g : _) (c : After-refusal g) → HasWorld g.E.Deed.meaning c.args.layout c.args.book.now c.args.log.now (g.D.Device.cells c.args.device.now) (g.D.Device.spare c.args.device.now) (g.D.Device.counts c.args.device.now)
world g c = any_start g.E.Deed.meaning c.args.layout (start g c) c.args.book.now c.args.log.now (g.D.Device.cells c.args.device.now) (g.D.Device.spare c.args.device.now)
    (g.D.Device.counts c.args.device.now) c.requires.kept

few : (g : _) (c : After-refusal g) → c.args.layout.structures ≤ 8
few g c = let most = c.args.layout.structures_within in omega (arith, most)

-- the face says why, or that the call fits it
told : (g : _) (c : After-refusal g) → Told (faces_of (start g c) c.args.book.now c.args.lane) c.args.call c.refusal.result
told g c = told_anyway g.E.Deed.meaning c.args.layout (start g c) c.args.book.now c.args.log.now (g.D.Device.cells c.args.device.now) (g.D.Device.spare c.args.device.now) (g.D.Device.counts c.args.device.now)
    c.requires.kept c.args.lane _ _ c.args.call c.refusal.result (c.requires.phased c.args.lane) c.refusal.ensures.decides (λ shows. c.refusal.ensures.told (start g c) shows
    (names_data g.E.Deed.meaning c.args.layout (start g c) c.args.book.now c.args.lane (record { start = refl; blocks = refl }) (few g c) refl c.args.call c.requires.built c.requires.may))

-- the need is told as it is
need_told : (g : _) (c : After-refusal g) → min (need_for c.args.layout c.args.book.now c.args.lane c.args.call) (2 ^ 64 - 1) ≡ need_for c.args.layout c.args.book.now c.args.lane c.args.call
need_told g c = need_is_told c.args.layout c.args.book.now c.args.log.now (g.D.Look.words c.args.device.now) (g.D.Device.cells c.args.device.now) (g.D.Device.counts c.args.device.now) c.args.lane c.args.call
    (read_of _ _ (g.D.Device.counts c.args.device.now) (g.met.D.Device.reads c.args.device.now) (g.met.D.Device.full c.args.device.now) (g.met.D.Device.within c.args.device.now)
    (g.met.D.Device.budget_fits c.args.device.now)) g.E.Deed.meaning (g.D.Device.spare c.args.device.now) c.requires.built (world g c)

data_word : (g : _) (c : After-refusal g) → WritesData c.args.layout c.args.call
data_word g c = writes_data g.E.Deed.meaning c.args.layout (start g c) c.args.book.now c.args.lane (record { start = refl; blocks = refl }) (few g c) refl c.args.call c.requires.built c.requires.may

-- ---- what the calls ask

pub refusal-requires-clause-logs : goal.refusal-requires-clause-logs
refusal-requires-clause-logs g c = has_logs g.E.Deed.meaning c.args.layout c.args.book.now c.args.log.now (g.D.Look.words c.args.device.now) (g.D.Device.cells c.args.device.now)
    (g.D.Device.spare c.args.device.now) (g.D.Device.counts c.args.device.now)
    (read_of _ _ (g.D.Device.counts c.args.device.now) (g.met.D.Device.reads c.args.device.now) (g.met.D.Device.full c.args.device.now) (g.met.D.Device.within c.args.device.now)
    (g.met.D.Device.budget_fits c.args.device.now))
    (any_start g.E.Deed.meaning c.args.layout _ c.args.book.now c.args.log.now (g.D.Device.cells c.args.device.now)
    (g.D.Device.spare c.args.device.now) (g.D.Device.counts c.args.device.now) c.requires.kept)

pub refusal-requires-clause-many : goal.refusal-requires-clause-many
refusal-requires-clause-many g c = blocks_are g.E.Deed.meaning c.args.layout _ c.args.book.now c.args.log.now (g.D.Device.cells c.args.device.now)
    (g.D.Device.spare c.args.device.now) (g.D.Device.counts c.args.device.now) c.requires.kept

pub refusal-requires-clause-structures : goal.refusal-requires-clause-structures
refusal-requires-clause-structures g c = structures_are g.E.Deed.meaning c.args.layout _ c.args.book.now c.args.log.now (g.D.Device.cells c.args.device.now)
    (g.D.Device.spare c.args.device.now) (g.D.Device.counts c.args.device.now) c.requires.kept

pub refuse-requires-clause-book : goal.refuse-requires-clause-book
refuse-requires-clause-book g c = is_book g.E.Deed.meaning c.args.layout c.args.book.now c.args.log.now (g.D.Device.cells c.args.device.now) (g.D.Device.spare c.args.device.now) (g.D.Device.counts c.args.device.now)
    (world g (goal.at.refuse-requires-clause-book g c).After-refusal)

pub ask_whole-requires-clause-can : goal.ask_whole-requires-clause-can
ask_whole-requires-clause-can g c =
    let at = (goal.at.ask_whole-requires-clause-can g c).After-refusal in
    can_be_asked c.args.layout c.args.book.now (g.D.Look.words c.args.device.now) c.args.lane (min (need_for c.args.layout c.args.book.now c.args.lane c.args.call) (2 ^ 64 - 1)) c.args.call
    c.requires.lane c.requires.phased (need_told g at) (data_word g at) c.in-None.ensures.decides

pub ask_whole-requires-clause-world : goal.ask_whole-requires-clause-world
ask_whole-requires-clause-world g c = world g (goal.at.ask_whole-requires-clause-world g c).After-refusal

-- ---- what is left

pub returns-in-Some-clause-kept : goal.returns-in-Some-clause-kept
returns-in-Some-clause-kept g c = stays_refused g.E.Deed.meaning c.args.book.now c.refuse.new.self c.args.lane c.args.call c.in-Some.refusal c.requires.lane c.refuse.ensures.is c.refuse.ensures.book
    c.args.layout (start g (goal.at.returns-in-Some-clause-kept g c).After-refusal) c.args.log.now (g.D.Device.cells c.args.device.now) (g.D.Device.spare c.args.device.now) (g.D.Device.counts c.args.device.now) c.requires.kept

pub returns-in-Some-clause-phased : goal.returns-in-Some-clause-phased
returns-in-Some-clause-phased g c = refused_phases c.args.book.now c.refuse.new.self c.args.lane c.args.call c.in-Some.refusal c.requires.lane c.refuse.ensures.is c.requires.phased

pub returns-in-Some-clause-refuses : goal.returns-in-Some-clause-refuses
returns-in-Some-clause-refuses g c =
    let at = (goal.at.returns-in-Some-clause-refuses g c).After-refusal in
    let room = room_for c.args.layout (g.D.Look.words c.args.device.now) c.args.lane in
    record {
      why = subst (Told (faces_of (start g at) c.args.book.now c.args.lane) c.args.call) c.in-Some.is (told g at);
      exact = subst (λ n. IsExact room n c.in-Some.refusal) (need_told g at)
          (is_exact c.args.layout room (min (need_for c.args.layout c.args.book.now c.args.lane c.args.call) (2 ^ 64 - 1)) _ (lane_at c.args.book.now c.args.lane) c.args.call
          c.in-Some.refusal c.in-Some.ensures.decides);
      face = refused_face c.args.book.now c.refuse.new.self c.args.lane c.args.call c.in-Some.refusal c.refuse.ensures.is c.refuse.ensures.ask;
      lane = refused_lanes c.args.call c.in-Some.refusal (lane_at c.args.book.now c.args.lane) (lane_at c.refuse.new.self c.args.lane)
          (goes_lane c.args.book.now c.refuse.new.self c.args.lane (refused_lane c.args.call c.in-Some.refusal (lane_at c.args.book.now c.args.lane)) c.args.book.now.touched c.requires.lane c.refuse.ensures.is).lanes.here;
    }

pub returns-in-Ok-clause-kept : goal.returns-in-Ok-clause-kept
returns-in-Ok-clause-kept g c =
    let at = (goal.at.returns-in-Ok-clause-kept g c).After-refusal in
    kept_there g.E.Deed.meaning c.args.layout (start g at) c.ask_whole.new.book c.ask_whole.new.log (g.D.Device.cells c.args.device.now) (g.D.Device.cells c.ask_whole.new.device)
    (g.D.Device.spare c.ask_whole.new.device) (g.D.Device.counts c.args.device.now) (g.D.Device.counts c.ask_whole.new.device) c.ask_whole.ensures.cells c.ask_whole.ensures.counts
    (c.in-Ok.ensures.asked.stays (start g at) (subst (Told (faces_of (start g at) c.args.book.now c.args.lane) c.args.call) c.in-None.is (told g at)) c.requires.may c.requires.kept)

pub returns-in-Ok-clause-accepts : goal.returns-in-Ok-clause-accepts
returns-in-Ok-clause-accepts g c =
    let at = (goal.at.returns-in-Ok-clause-accepts g c).After-refusal in
    record { fits = subst (Told (faces_of (start g at) c.args.book.now c.args.lane) c.args.call) c.in-None.is (told g at); face = c.in-Ok.ensures.asked.face }

pub returns-in-Err-clause-refuses : goal.returns-in-Err-clause-refuses
returns-in-Err-clause-refuses g c =
    let at = (goal.at.returns-in-Err-clause-refuses g c).After-refusal in
    record {
      why = subst (Told (faces_of (start g at) c.args.book.now c.args.lane) c.args.call) c.in-None.is (told g at);
      exact = tt;
      face = lacks_face c.args.call c.args.book.now c.ask_whole.new.book c.args.lane c.in-Err.ensures.lacks.face;
      lane = lacking_lane c.args.call (lane_at c.args.book.now c.args.lane) (lane_at c.ask_whole.new.book c.args.lane) c.in-Err.ensures.leaves;
    }

pub returns-in-Some-clause-beside : goal.returns-in-Some-clause-beside
returns-in-Some-clause-beside g c = beside_with c.args.book.now c.refuse.new.self c.args.lane (refused_lane c.args.call c.in-Some.refusal (lane_at c.args.book.now c.args.lane)) c.args.book.now.touched c.requires.lane c.refuse.ensures.is
