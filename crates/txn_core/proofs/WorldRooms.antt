-- The log that is read of a world's words.
use Rattle.std.proofs.Common.{ℕ, ◌<◌, ◌≤◌, List, length, refl, sym, subst, arith}
use Rattle.std.proofs.Math.Logic.{∥∥₁_elim}
use Rattle.std.proofs.Math.Bridge.{le_prop}
use Rattle.persist_model.specs.Region.{Region, newest_words}
use Rattle.lane_traits.specs.Device.{Counts}
use Rattle.region_layout.specs.declared.layout.Layout.{Layout}
use Rattle.region_layout.specs.Layout.{layout_shape}
use Rattle.lane_types.specs.Deeds.{Deeds}
use Rattle.lane_types.specs.Faces.{Base}
use Rattle.lane_book.specs.declared.book.Book.{Book}
use Rattle.log_keeper.specs.declared.keeper.LogKeeper.{LogKeeper}
use Rattle.log_keeper.proofs.Rooms.{room_is_one}
use Rattle.txn_state.specs.States.{IsStateOf, reserved_for}
use Rattle.txn_state.specs.AppendLaws.{newest_image}
use Rattle.txn_state.specs.ReadLaws.{HasLogs, room_seen}
use Rattle.txn_state.proofs.ReservedRoom.{views_are_read}
use Rattle.txn_core.specs.States.{IsKept, start_of}
use Rattle.txn_core.proofs.Facts.{IsRead, any_start, has_logs}

pub logs_there : {E : Type 0} (deeds : Deeds E) (layout : Layout) (base : Base) (book : Book E) (keeper : LogKeeper) (words : List ℕ) (region : Region) (spare : ℕ) (counts : Counts) →
    IsRead words region counts → IsKept deeds layout base book keeper region spare counts → HasLogs layout words
logs_there deeds layout base book keeper words region spare counts read kept =
    has_logs deeds layout book keeper words region spare counts read (any_start deeds layout base book keeper region spare counts kept)

pub words_there : (layout : Layout) (words : List ℕ) → HasLogs layout words → 32 ≤ length words
words_there layout words has = let long = has.long in omega (arith, long)

-- what is reserved in a partition there is room for
pub rooms_are_enough : {E : Type 0} (deeds : Deeds E) (layout : Layout) (base : Base) (book : Book E) (keeper : LogKeeper) (words : List ℕ) (region : Region) (spare : ℕ) (counts : Counts) →
    IsRead words region counts → IsKept deeds layout base book keeper region spare counts → (p : ℕ) → p < layout.partitions → reserved_for layout book p ≤ room_seen layout p words
rooms_are_enough deeds layout base book keeper words region spare counts read kept p inside =
    subst (λ (ws : List ℕ). reserved_for layout book p ≤ room_seen layout p ws) (sym read.reads) (∥∥₁_elim kept le_prop (λ w. enough w.state)) where
      enough : IsStateOf layout (start_of layout base) book keeper region spare counts.events → reserved_for layout book p ≤ room_seen layout p (newest_words region)
      enough st =
          let there = st.roomy.room p inside (newest_image region) (λ a lt. refl) in
          let seen = views_are_read.room layout (start_of layout base) book keeper region spare counts.events p inside read.full st in
          subst (λ (m : ℕ). reserved_for layout book p ≤ m) (room_is_one (layout_shape layout) p there.0 (room_seen layout p (newest_words region)) (newest_image region) there.1 seen) there.2
