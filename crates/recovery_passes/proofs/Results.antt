-- What recovery's clauses say, from what its stages did.
use Rattle.std.proofs.Common.{◌≡◌, ℕ, ◌+◌, ◌-◌, ◌*◌, ◌≤◌, Bool, true, false, if◌then◌else◌, List, [], length, map, reverse, refl, sym, ap, ◌∙◌, subst, arith}
use Rattle.std.specs.Prelude.{slice_index, IsTrue, ◌↔◌, Err}
use Rattle.persist_model.specs.ImageRules.{rule_number}
use Rattle.persist_model.specs.Region.{Words, Region, AreSettled, newest_words}
use Rattle.persist_model.specs.Records.{Log, IsCommitted, IsLoser}
use Rattle.persist_model.specs.Shape.{Shape, shape_of, part_of, words_of_shape}
use Rattle.persist_model.specs.State.{State, IsSoundState, HasOpen, total_need}
use Rattle.persist_model.specs.Sound.{HasState, IsSound}
use Rattle.persist_model.proofs.Images.{length-newest_words}
use Rattle.lane_traits.specs.Device.{Counts, counted}
use Rattle.lane_traits.specs.declared.device.Done.{Done}
use Rattle.lane_traits.specs.declared.device.Done.TheVariants.{Made, Stopped}
use Rattle.log_laws.specs.Parts.{EachKeeps}
use Rattle.log_laws.proofs.Soundness.{same_log}
use Rattle.region_layout.specs.declared.layout.Layout.{Layout}
use Rattle.region_layout.specs.Layout.{layout_shape}
use Rattle.log_partition.specs.declared.used.UsedBuckets.{UsedBuckets}
use Rattle.log_partition.specs.Used.{FitsBuckets}
use Rattle.bucket_log.specs.declared.scanning.Placed.{Placed}
use Rattle.bucket_log.specs.Scans.{record_of_placed}
use Rattle.recovery_undo.specs.declared.held.Held.{Held}
use Rattle.recovery_run.specs.Edges.{HasCounted, KeepsWords, IsPlainHeaderWord}
use Rattle.recovery_run.specs.Reached.{newest_at, HasSettled}
use Rattle.recovery_run.proofs.Reaching.{settled_begins}
use Rattle.recovery_analysis.specs.declared.changing.Change.{Change}
use Rattle.recovery_analysis.specs.declared.grouping.Transaction.{Transaction}
use Rattle.recovery_analysis.specs.declared.working.Work.{Work}
use Rattle.recovery_analysis.specs.Analyses.{AreThose}
use Rattle.recovery_analysis.specs.Works.{IsWorkOf}
use Rattle.persist_model.specs.Faults.{IsFirstFault}
use Rattle.sound_check.specs.declared.fault.CheckFault.{CheckFault}
use Rattle.sound_check.specs.declared.fault.CheckFault.TheVariants.{Unsound as Faulty, NoMemory as Refused}
use Rattle.sound_check.specs.Faulty.{IfUnsound}
use Rattle.recovery_passes.specs.declared.recovering.Unfinished.{Unfinished}
use Rattle.recovery_passes.specs.declared.recovering.Unfinished.TheVariants as unfinished
use Rattle.recovery_passes.specs.Reading.{IsLogRead}
use Rattle.recovery_passes.specs.Refusals.{recover_fault, unfinished_fault}
use Rattle.recovery_passes.specs.Recovery.{IsRecoveryOfSound, IsRecovery, KeepsHeader}
use Rattle.recovery_passes.specs.Recovered.{IsFinished, Restores, EachStands, AreFates, HasNeed, with_checkpoint, forced, settled as no_checkpoint, most_events, AreFew}
use Rattle.recovery_passes.specs.Stages.{AreQuiet, AreShort, IsIdle}
use Rattle.recovery_passes.specs.LoserPass.{IsCleared}
use Rattle.recovery_passes.specs.Plans.{IsPlanned}
use Rattle.recovery_passes.proofs.Ends.{IsBegun, begins_header, each_stands, restored, finished}

-- what is read of a region is sound
pub sound_read : (words : List ℕ) (region : Region) → words ≡ newest_words region → IsSound (length words) (slice_index words) → IsSound region.size (newest_at region)
sound_read words region is sound =
    subst (λ n. IsSound n (newest_at region)) (length-newest_words region) (subst (λ (xs : List ℕ). IsSound (length xs) (slice_index xs)) is sound)

-- and its shape is the one that is read of it
pub shape_read : (shape : Shape) (words : List ℕ) (region : Region) → words ≡ newest_words region → shape ≡ shape_of (slice_index words) → shape ≡ shape_of (newest_at region)
shape_read shape words region is same = same ∙ ap (λ (xs : List ℕ). shape_of (slice_index xs)) is

-- what recovery begins with: a settled region with this sound state, and the layout that its header says
pub record IsStart (layout : Layout) (old : Region) (s0 : State) : Type 0 where
  pub begun : IsBegun old s0
  pub shape_is : layout_shape layout ≡ shape_of (newest_at old)

pub start_of : (layout : Layout) (old : Region) → AreSettled old → (sound : IsSound old.size (newest_at old)) → layout_shape layout ≡ shape_of (newest_at old) → IsStart layout old sound.state
start_of layout old settled sound shape = record {
  begun = record {
    settled = settled;
    shape = sound.shape;
    has = sound.has;
    sound = sound.sound;
  };
  shape_is = shape;
}

-- the records that were read of the words are those of the region
pub records_read : (layout : Layout) (records : List Placed) (words : List ℕ) (old : Region) → words ≡ newest_words old → IsLogRead layout records (slice_index words) →
    IsLogRead layout records (newest_at old)
records_read layout records words old is h = subst (λ (xs : List ℕ). IsLogRead layout records (slice_index xs)) is h

-- what is held of the log before the first event
abbrev pub held_of : Work → UsedBuckets → Held
held_of work table = record { next = work.next; gates = work.gates; table = table }

module _ (layout : Layout) (old : Region) (s0 : State) (h : IsStart layout old s0) where
  abbrev w : Words
  w = newest_at old

  pub settled_start : HasSettled (layout_shape layout) s0 s0 old
  settled_start = subst (λ (s : Shape). HasSettled s s0 s0 old) (sym h.shape_is) (settled_begins (shape_of w) s0 old h.begun.settled (begins_header old s0 h.begun) h.begun.has)

  pub sound_start : IsSoundState (layout_shape layout) s0
  sound_start = subst (λ (s : Shape). IsSoundState s s0) (sym h.shape_is) h.begun.sound

  pub plan_of : (now : Region) (work : Work) (redo : List Change) (running : List Transaction) (table : UsedBuckets) → now ≡ old → IsWorkOf (layout_shape layout) s0.log work → redo ≡ work.redo → running ≡ work.undo →
      FitsBuckets (layout_shape layout) table → IsPlanned layout s0 redo running work.checkpoint (held_of work table) work.most now
  plan_of now work redo running table same is redo_is running_is fits = record {
    settled = subst (λ (r : Region). HasSettled (layout_shape layout) s0 s0 r) (sym same) settled_start;
    sound = sound_start;
    fits = fits;
    winners = work.winners;
    losers = work.losers;
    work = subst
        (λ (xs : List Change). IsWorkOf (layout_shape layout) s0.log (record { winners = work.winners; losers = work.losers; redo = xs; undo = running; checkpoint = work.checkpoint; gates = work.gates; next = work.next; most = work.most }))
        (sym redo_is)
        (subst
        (λ (xs : List Transaction). IsWorkOf (layout_shape layout) s0.log (record { winners = work.winners; losers = work.losers; redo = work.redo; undo = xs; checkpoint = work.checkpoint; gates = work.gates; next = work.next; most = work.most }))
        (sym running_is) is);
  }

  log_is : (s : State) → HasState (shape_of w) w s → s0.log ≡ s.log
  log_is s has = same_log (shape_of w) w s0 s h.begun.has has

  pub fates_of : (work : Work) → IsWorkOf (layout_shape layout) s0.log work → AreFates w work.winners work.losers
  fates_of work is = record {
    winners_are = λ s has. subst (λ (l : Log). AreThose (IsCommitted l) work.winners) (log_is s has) is.winners;
    losers_are = λ s has. subst (λ (l : Log). AreThose (IsLoser l) work.losers) (log_is s has) is.losers;
  }

  -- the stated bound
  pub few_are : (work : Work) (events : ℕ) → IsWorkOf (layout_shape layout) s0.log work → events ≤ work.most → AreFew w events
  few_are work events is le s n has need =
      subst (λ (l : Log). events ≤ most_events (shape_of w) (length l) n) (log_is s has)
      (subst (λ (sh : Shape). events ≤ most_events sh (length s0.log) n) h.shape_is
      (by_need (subst (λ (sh : Shape). HasNeed sh s0 n) (sym h.shape_is) (own need)) work.checkpoint is.checkpoint is.most))
    where
      own : HasNeed (shape_of w) s n → HasNeed (shape_of w) s0 n
      own (with_checkpoint two open_log e) = with_checkpoint two (subst HasOpen (sym (log_is s has)) open_log) (e ∙ ap (λ (l : Log). total_need (part_of (shape_of w)) (shape_of w).partitions l + 1) (sym (log_is s has)))
      own (forced off e) = forced off (e ∙ ap (total_need (part_of (shape_of w)) (shape_of w).partitions) (sym (log_is s has)))
      own (no_checkpoint shut e) = no_checkpoint (λ k. shut (subst HasOpen (log_is s has) k)) (e ∙ ap (total_need (part_of (shape_of w)) (shape_of w).partitions) (sym (log_is s has)))

      bound : (c : Bool) → work.most ≡ 20 + 2 * length s0.log + (23 + layout.cells) * (total_need (part_of (layout_shape layout)) layout.partitions s0.log + (if c then 1 else 0)) + 7 * layout.buckets →
          n ≡ total_need (part_of (layout_shape layout)) layout.partitions s0.log + (if c then 1 else 0) → events ≤ most_events (layout_shape layout) (length s0.log) n
      bound c most e = let times = ap (λ k. (23 + layout.cells) * k) e in omega (arith, le, most, times)

      by_need : HasNeed (layout_shape layout) s0 n → (c : Bool) → (IsTrue c ↔ (((layout_shape layout).policy ≡ 2) × HasOpen s0.log)) →
          work.most ≡ 20 + 2 * length s0.log + (23 + layout.cells) * (total_need (part_of (layout_shape layout)) layout.partitions s0.log + (if c then 1 else 0)) + 7 * layout.buckets →
          events ≤ most_events (layout_shape layout) (length s0.log) n
      by_need (with_checkpoint two open_log e) true marks most = bound true most e
      by_need (with_checkpoint two open_log e) false marks most = (let t = marks.1 (two, open_log) in cc)
      by_need (forced off e) true marks most = absurd (off (marks.0 refl).0)
      by_need (forced off e) false marks most = bound false most (omega (arith, e))
      by_need (no_checkpoint shut e) true marks most = absurd (shut (marks.0 refl).1)
      by_need (no_checkpoint shut e) false marks most = bound false most (omega (arith, e))

  -- ---- the end

  pub size_there : (later : Region) → later.size ≡ words_of_shape (layout_shape layout) → later.size ≡ old.size
  size_there later is = is ∙ ap words_of_shape h.shape_is ∙ sym h.begun.shape.long

  module _ (later : Region) (keeps : KeepsWords (IsPlainHeaderWord (layout_shape layout)) old later) where
    own_header : KeepsWords (IsPlainHeaderWord (shape_of w)) old later
    own_header = subst (λ (s : Shape). KeepsWords (IsPlainHeaderWord s) old later) h.shape_is keeps

    pub header_there : later.size ≡ words_of_shape (layout_shape layout) → KeepsHeader old later
    header_there long = record { size = size_there later long; words = own_header }

    pub stopped_there : EachKeeps (layout_shape layout) s0 later → EachStands w later
    stopped_there kept = each_stands old later s0 h.begun (size_there later kept.size) own_header (subst (λ (s : Shape). EachKeeps s s0 later) h.shape_is kept)

    module _ (end : IsCleared layout s0 later) where
      own_settled : HasSettled (shape_of w) s0 end.state later
      own_settled = subst (λ (s : Shape). HasSettled s s0 end.state later) h.shape_is end.settled

      pub restored_there : Restores w (newest_at later)
      restored_there = restored old later s0 h.begun (size_there later end.settled.come.size) own_header end.state own_settled end.empty

      pub finished_there : IsFinished later.size (newest_at later)
      finished_there = finished old later s0 h.begun (size_there later end.settled.come.size) own_header end.state own_settled end.empty
          (subst (λ (s : Shape). AreQuiet s later) h.shape_is end.quiet) (subst (λ (s : Shape). AreShort s later) h.shape_is end.short)

  -- ---- nothing to do

  module _ (done : IsFinished old.size w) where
    pub finished_empty : s0.log ≡ []
    finished_empty = done.empty s0 h.begun.has

    pub finished_quiet : AreQuiet (layout_shape layout) old
    finished_quiet = subst (λ (s : Shape). AreQuiet s old) (sym h.shape_is) done.quiet

    pub finished_short : AreShort (layout_shape layout) old
    finished_short = subst (λ (s : Shape). AreShort s old) (sym h.shape_is) done.few

    pub idle_there : {redo : List Change} {running : List Transaction} {checkpoint : Bool} {held : Held} {most : ℕ} {now later : Region} {made : Done} {before after : Counts} →
        IsPlanned layout s0 redo running checkpoint held most now → now ≡ old →
        ((first : State) (m : ℕ) → IsPlanned layout first redo running checkpoint held m now → first.log ≡ [] → AreQuiet (layout_shape layout) now → AreShort (layout_shape layout) now → IsIdle made now later before after) →
        IsIdle made now later before after
    idle_there {most = most} planned same idle = idle s0 most planned finished_empty
        (subst (λ (r : Region). AreQuiet (layout_shape layout) r) (sym same) finished_quiet) (subst (λ (r : Region). AreShort (layout_shape layout) r) (sym same) finished_short)

-- ---- the counts

pub made_counts : (most : ℕ) (before later : Counts) (events : ℕ) → HasCounted most Made before later → events ≡ later.events - before.events → later ≡ record before { events = before.events + events }
made_counts most before later events h is =
    let now = ap (λ (c : Counts). c.events) h.is in
    h.is ∙ ap (λ n. record before { events = n }) (omega (arith, is, now))

pub made_few : (most : ℕ) (before later : Counts) (events : ℕ) → HasCounted most Made before later → events ≡ later.events - before.events → events ≤ most
made_few most before later events h is =
    let now = ap (λ (c : Counts). c.events) h.is in
    let few = h.few in
    omega (arith, is, now, few)

pub made_rises : (most : ℕ) (before later : Counts) → HasCounted most Made before later → before.events ≤ later.events
made_rises most before later h = let now = ap (λ (c : Counts). c.events) h.is in omega (arith, now)

pub stopped_counts : (most : ℕ) (before later : Counts) → HasCounted most Stopped before later → later ≡ record before { events = before.budget; stopped = counted before.stopped }
stopped_counts most before later h = h.is ∙ ap (λ n. record before { events = n; stopped = counted before.stopped }) (h.cause refl)

pub stopped_few : (most n : ℕ) (before later : Counts) → HasCounted most Stopped before later → before.events + n ≡ before.budget → n ≤ most
stopped_few most n before later h is = let cause = h.cause refl in let few = h.few in omega (arith, is, cause, few)

-- ---- before the first event

-- what recovery begins with, its work, and its plan for the device that has made room
pub record IsReady (layout : Layout) (old now : Region) (s0 : State) (work : Work) (redo : List Change) (running : List Transaction) (table : UsedBuckets) : Type 0 where
  pub start : IsStart layout old s0
  pub work_is : IsWorkOf (layout_shape layout) s0.log work
  pub plan : IsPlanned layout s0 redo running work.checkpoint (held_of work table) work.most now

pub ready_of : (layout : Layout) (records : List Placed) (old now : Region) (s0 : State) (work : Work) (redo : List Change) (running : List Transaction) (table : UsedBuckets) → IsStart layout old s0 →
    IsLogRead layout records (newest_at old) → IsWorkOf (layout_shape layout) (reverse (map record_of_placed records)) work → now ≡ old → redo ≡ work.redo → running ≡ work.undo →
    FitsBuckets (layout_shape layout) table → IsReady layout old now s0 work redo running table
ready_of layout records old now s0 work redo running table start are reads same redo_is running_is fits =
    let has : HasState (layout_shape layout) (newest_at old) s0 = subst (λ (s : Shape). HasState s (newest_at old) s0) (sym start.shape_is) start.begun.has in
    let work_is = subst (λ (log : Log). IsWorkOf (layout_shape layout) log work) (are s0 has) reads in
    record { start = start; work_is = work_is; plan = plan_of layout old s0 start now work redo running table same work_is redo_is running_is fits }

-- a plan has an event to spare
pub counted_there : {layout : Layout} {s0 : State} {redo : List Change} {running : List Transaction} {checkpoint : Bool} {held : Held} {most spare : ℕ} {now : Region} {done : Done} {before taken later : Counts} →
    IsPlanned layout s0 redo running checkpoint held most now → most ≤ spare → taken ≡ before →
    ((first : State) (m : ℕ) → IsPlanned layout first redo running checkpoint held (m + 1) now → m + 1 ≤ spare → HasCounted m done taken later) → HasCounted (most - 1) done before later
counted_there {layout = layout} {s0 = s0} {redo = redo} {running = running} {checkpoint = checkpoint} {held = held} {most = most} {now = now} {done = done} {later = later} h enough same counted =
    let is = h.work.most in
    let more : most ≡ (most - 1) + 1 = omega (arith, is) in
    subst (λ (n : Counts). HasCounted (most - 1) done n later) same
    (counted s0 (most - 1) (subst (λ n. IsPlanned layout s0 redo running checkpoint held n now) more h) (omega (arith, more, enough)))

-- ---- a refusal

-- a check that refused the words, before any event
pub refusal_owes : (words : List ℕ) (region : Region) (counts : Counts) → words ≡ newest_words region → (fault : CheckFault) → IfUnsound fault (IsFirstFault (length words) (slice_index words)) →
    IsRecovery region counts region counts (Err (recover_fault fault))
refusal_owes words region counts is (Faulty found) there = record {
  first = subst (λ n. IsFirstFault n (newest_at region) (rule_number found.rule) found.address) (length-newest_words region)
      (subst (λ (xs : List ℕ). IsFirstFault (length xs) (slice_index xs) (rule_number found.rule) found.address) is there);
  untouched = record { cells = refl; unmade = refl };
}
refusal_owes words region counts is Refused there = record { cells = refl; unmade = refl }

-- ---- a recovery that wasn't finished

-- what wasn't done for want of memory
pub untouched_owes : (before after : Region) (counts counts_after : Counts) (fault : Unfinished) → fault ≡ unfinished.NoMemory → after ≡ before → counts_after ≡ counts →
    IsRecoveryOfSound before counts after counts_after (Err fault)
untouched_owes before after counts counts_after fault same cells unmade =
    subst (λ (f : Unfinished). IsRecoveryOfSound before counts after counts_after (Err f)) (sym same) (record { cells = cells; unmade = unmade })

-- to a whole recovery it is the same
pub unfinished_owes : (before after : Region) (counts counts_after : Counts) (fault : Unfinished) → IsRecoveryOfSound before counts after counts_after (Err fault) →
    IsRecovery before counts after counts_after (Err (unfinished_fault fault))
unfinished_owes before after counts counts_after unfinished.Stopped h = h
unfinished_owes before after counts counts_after unfinished.NoMemory h = h

pub header_same : (before after : Region) → after ≡ before → KeepsHeader before after
header_same before after same = subst (λ (r : Region). KeepsHeader before r) (sym same) (record { size = refl; words = λ a v plain only. only })
