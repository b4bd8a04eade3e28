-- What the code gets of a world's state, whatever stood at the start.
use Rattle.std.proofs.Common.{◌≡◌, ℕ, ◌%◌, ◌<◌, ◌≤◌, ◌^◌, true, List, length, sym, ap, ◌∙◌, subst}
use Rattle.std.proofs.Math.Logic.{∥∥₁_map, ∥∥₁_elim}
use Rattle.std.proofs.Math.Bridge.{le_prop}
use Rattle.std.proofs.Math.Nat.{ℕ_set}
use Rattle.persist_model.specs.Region.{Region, newest_words}
use Rattle.lane_traits.specs.Device.{Counts}
use Rattle.region_layout.specs.declared.layout.Layout.{Layout}
use Rattle.lane_types.specs.Deeds.{Deeds}
use Rattle.lane_types.specs.Faces.{Base}
use Rattle.lane_book.specs.declared.book.Book.{Book}
use Rattle.lane_book.specs.FacesOf.{lane_at}
use Rattle.lane_book.specs.Books.{IsBook}
use Rattle.log_keeper.specs.declared.keeper.LogKeeper.{LogKeeper}
use Rattle.txn_state.specs.Stages.{stage_of}
use Rattle.txn_state.specs.ReadLaws.{makes_events, appends_in, HasLogs}
use Rattle.txn_core.specs.Advancing.{CanBegin}
use Rattle.txn_core.specs.States.{IsWorld, IsKept, HasWorld, start_of}
use Rattle.txn_core.proofs.Propositions.{book_prop}
use Rattle.log_keeper.specs.Keeper.{keeping_of, free_places}
use Rattle.txn_state.specs.ReadLaws.{room_seen}
use Rattle.txn_core.proofs.ClearedWords.{sound_words, sound_words_by, logs_of_words}
use Rattle.txn_state.proofs.Owed.{events_are_owed, records_are_owed}
use Rattle.txn_state.proofs.ReservedRoom.{views_are_read}
use Rattle.txn_state.proofs.SmallNumbers.{numbers_are_small}

-- the device's laws, as lemmas take them
pub record IsRead (words : List ℕ) (region : Region) (counts : Counts) : Type 0 where
  pub reads : words ≡ newest_words region
  pub full : (a : ℕ) → 0 < length (region.at a)
  pub few : counts.events < 2 ^ 64

pub any_start : {E : Type 0} (deeds : Deeds E) (layout : Layout) (base : Base) (book : Book E) (keeper : LogKeeper) (region : Region) (spare : ℕ) (counts : Counts) →
    IsKept deeds layout base book keeper region spare counts → HasWorld deeds layout book keeper region spare counts
any_start deeds layout base book keeper region spare counts kept = ∥∥₁_map kept (λ (w : IsWorld deeds layout base book keeper region spare counts.events). (base, w))

pub few_lanes : {E : Type 0} (deeds : Deeds E) (layout : Layout) (book : Book E) (keeper : LogKeeper) (region : Region) (spare : ℕ) (counts : Counts) →
    HasWorld deeds layout book keeper region spare counts → length book.lanes.items ≤ 16
few_lanes deeds layout book keeper region spare counts world = ∥∥₁_elim world le_prop (λ y. y.1.state.is_book.few)

pub is_book : {E : Type 0} (deeds : Deeds E) (layout : Layout) (book : Book E) (keeper : LogKeeper) (region : Region) (spare : ℕ) (counts : Counts) →
    HasWorld deeds layout book keeper region spare counts → IsBook book
is_book deeds layout book keeper region spare counts world = ∥∥₁_elim world (book_prop book) (λ y. y.1.state.is_book.kept)

pub slots_are : {E : Type 0} (deeds : Deeds E) (layout : Layout) (book : Book E) (keeper : LogKeeper) (region : Region) (spare : ℕ) (counts : Counts) →
    HasWorld deeds layout book keeper region spare counts → length keeper.slots.items ≡ layout.partitions
slots_are deeds layout book keeper region spare counts world = ∥∥₁_elim world (ℕ_set _ _) (λ y. y.1.state.tied.slots)

pub owes_event : {E : Type 0} (deeds : Deeds E) (layout : Layout) (book : Book E) (keeper : LogKeeper) (region : Region) (spare : ℕ) (counts : Counts) (l : ℕ) →
    l < length book.lanes.items → makes_events (stage_of (lane_at book l)) ≡ true → HasWorld deeds layout book keeper region spare counts →
    (1 ≤ (lane_at book l).owed_events) × (1 ≤ spare)
owes_event deeds layout book keeper region spare counts l lt makes world =
    ∥∥₁_elim world (hlevel le_prop) (λ y. events_are_owed layout (start_of layout y.0) book keeper region spare counts.events l lt makes y.1.state)

-- ---- the newest words

-- they have a list for each partition
pub has_logs : {E : Type 0} (deeds : Deeds E) (layout : Layout) (book : Book E) (keeper : LogKeeper) (words : List ℕ) (region : Region) (spare : ℕ) (counts : Counts) →
    IsRead words region counts → HasWorld deeds layout book keeper region spare counts → HasLogs layout words
has_logs deeds layout book keeper words region spare counts read world =
    subst (HasLogs layout) (sym read.reads) (logs_of_words layout region (sound_words_by layout region (∥∥₁_map world (λ y.
    sound_words layout y.1.state.base (start_of layout y.0) y.1.state.s y.1.state.chains y.1.state.w region (λ a lt. read.full a) y.1.state.world))))

pub can_begin : {E : Type 0} (deeds : Deeds E) (layout : Layout) (book : Book E) (keeper : LogKeeper) (words : List ℕ) (region : Region) (spare : ℕ) (counts : Counts) (l : ℕ) →
    IsRead words region counts → l < length book.lanes.items → appends_in (stage_of (lane_at book l)) ≡ true → HasWorld deeds layout book keeper region spare counts →
    CanBegin layout keeper words book l
can_begin deeds layout book keeper words region spare counts l read lt appends world = record {
  lane = lt;
  slots = slots_are deeds layout book keeper region spare counts world;
  logs = has_logs deeds layout book keeper words region spare counts read world;
  room = λ free none. ∥∥₁_elim world (λ a. absurd a) (λ y.
      views_are_read.some layout (start_of layout y.0) book keeper region spare counts.events l lt read.full appends free y.1.state
      (ap (λ (ws : List ℕ). room_seen layout (l % layout.partitions) ws) (sym read.reads) ∙ none));
  owed = λ free. (owes free).0;
  places = λ free. (owes free).1;
  numbers = ∥∥₁_elim world le_prop (λ y. (numbers_are_small layout (start_of layout y.0) book keeper region spare counts.events read.few y.1.state).records);
} where
  owes : (keeping_of keeper).holder (l % layout.partitions) ≡ 17 → (1 ≤ (lane_at book l).owed_records) × (1 ≤ free_places keeper)
  owes free = ∥∥₁_elim world (hlevel le_prop) (λ y. records_are_owed layout (start_of layout y.0) book keeper region spare counts.events l lt appends free y.1.state)
