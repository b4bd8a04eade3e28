-- A write is asked, for which there is room and memory.
use Rattle.std.proofs.Common.{◌≡◌, ℕ, ◌+◌, ◌<◌, ◌≤◌, true, ◌∷◌, [], length, None, sym, ap, ◌∙◌, subst, append-nil, arith}
use Rattle.std.proofs.Math.Logic.{∥∥₁_map}
use Rattle.persist_model.specs.Region.{Region}
use Rattle.lane_traits.specs.Device.{Counts}
use Rattle.lane_traits.specs.declared.draft.WordWrite.{WordWrite}
use Rattle.region_layout.specs.declared.layout.Layout.{Layout}
use Rattle.region_layout.specs.Layout.{layout_shape, IsDataWord}
use Rattle.lane_types.specs.declared.call.Call.{Call}
use Rattle.lane_types.specs.declared.call.Phase.{Phase}
use Rattle.lane_types.specs.Deeds.{Deeds}
use Rattle.lane_types.specs.Faces.{Base}
use Rattle.lane_types.specs.Asks.{Fits}
use Rattle.lane_types.specs.May.{May}
use Rattle.lane_book.specs.declared.book.Book.{Book}
use Rattle.lane_book.specs.declared.lane.Lane.{Lane}
use Rattle.lane_book.specs.declared.lane.Doing.{Doing}
use Rattle.lane_book.specs.FacesOf.{lane_at, faces_of}
use Rattle.lane_book.specs.Books.{IsBook}
use Rattle.lane_book.specs.Refusals.{is_mine, block_in}
use Rattle.lane_book.specs.Steps.{IsAskedOf, IsAskedIn}
use Rattle.log_keeper.specs.declared.keeper.LogKeeper.{LogKeeper}
use Rattle.txn_state.specs.Owing.{append_most}
use Rattle.txn_state.specs.QuietLaws.{AsksWrite, HasRoomForAsk}
use Rattle.txn_state.specs.Stages.{stage_of, stage_at, idle_stage, is_commit}
use Rattle.txn_state.proofs.Asks.{writes_are_asked}
use Rattle.lawful_book.specs.Laws as laws
use Rattle.txn_core.proofs.LawfulKept.{asks_keep}
use Rattle.txn_core.specs.States.{IsKept}
use Rattle.txn_core.proofs.Paying.{goes_lane}

abbrev pub one_write : ℕ → ℕ → WordWrite
one_write a v = record { address = a; value = v }

pub asks_write : {E : Type 0} (layout : Layout) (book : Book E) (l a v : ℕ) (lane : Lane E) → (lane_at book l).doing ≡ Doing.Nothing → (lane_at book l).phase ≡ Phase.In → (lane_at book l).entry ≡ None →
    IsAskedOf (lane_at book l) (Call.Write a v) (Doing.Write a v) (one_write a v ∷ []) [] 2 lane → IsDataWord (layout_shape layout) a → is_mine book.blocks (lane_at book l) (block_in layout a) ≡ true →
    append_most (layout_shape layout) + 1 ≤ (lane_at book l).owed_events → 1 ≤ (lane_at book l).owed_records → AsksWrite layout book l (one_write a v) lane
asks_write layout book l a v lane nothing phase none it data_word own events records = record {
  between = ap (stage_at (lane_at book l).phase (lane_at book l).has_records (lane_at book l).part) nothing ∙ ap idle_stage phase;
  naming = ap (λ (x : Lane _). stage_of x) it.asks.is;
  same = record {
    transaction = ap (λ (x : Lane _). x.transaction) it.asks.is;
    held = ap (λ (x : Lane _). x.held) it.asks.is;
    begun = ap (λ (x : Lane _). x.begun) it.asks.is;
    commits = ap (λ (x : Lane _). x.commits) it.asks.is;
    updates = it.asks.updates_stay;
    stored = ap (λ (x : Lane _). x.stored) it.asks.is;
    gives = it.asks.gives_more ∙ append-nil (lane_at book l).gives.items;
    gates = it.gates_stay;
    has_records = ap (λ (x : Lane _). x.has_records) it.asks.is;
    rolled = ap (λ (x : Lane _). x.rolled) it.asks.is;
    ended = ap (λ (x : Lane _). x.ended) it.asks.is;
    entered = ap (λ (x : Lane _). x.entered) it.asks.is;
    owed_events = ap (λ (x : Lane _). x.owed_events) it.asks.is;
    owed_records = ap (λ (x : Lane _). x.owed_records) it.asks.is;
  };
  writes = it.asks.writes_more;
  entry = it.entry_stays ∙ none;
  is_no_commit = ap (λ (x : Lane _). is_commit x.doing) it.asks.is;
  is_no_take = λ s k call. (let off : Doing.Write a v ≡ Doing.Take s k = sym (ap (λ (x : Lane _). x.doing) it.asks.is) ∙ call in cc);
  data_word = data_word;
  own = own;
  waits = record { promised = (let e : lane.promised ≡ 2 = ap (λ (x : Lane _). x.promised) it.asks.is in omega (arith, e)); place = it.updates_fit };
  owes_events = subst (λ n. append_most (layout_shape layout) + 1 ≤ n) (sym (ap (λ (x : Lane _). x.owed_events) it.asks.is)) events;
  owes_record = subst (λ n. 1 ≤ n) (sym (ap (λ (x : Lane _). x.owed_records) it.asks.is)) records;
}

pub stays_writing : {E : Type 0} (deeds : Deeds E) (layout : Layout) (base : Base) (book later : Book E) (keeper : LogKeeper) (region : Region) (spare : ℕ) (counts : Counts) (l a v : ℕ) →
    l < length book.lanes.items → (lane_at book l).doing ≡ Doing.Nothing → (lane_at book l).phase ≡ Phase.In → IsBook later →
    IsAskedIn (Call.Write a v) (Doing.Write a v) (one_write a v ∷ []) [] 2 book later l → IsDataWord (layout_shape layout) a → is_mine book.blocks (lane_at book l) (block_in layout a) ≡ true →
    append_most (layout_shape layout) + 1 ≤ (lane_at book l).owed_events → 1 ≤ (lane_at book l).owed_records → HasRoomForAsk layout book later region l →
    Fits (faces_of base book l) (Call.Write a v) → May deeds (faces_of base book l) (Call.Write a v) →
    IsKept deeds layout base book keeper region spare counts → IsKept deeds layout base later keeper region spare counts
stays_writing deeds layout base book later keeper region spare counts l a v lt nothing phase good asked data_word own events records room fits may world = ∥∥₁_map world (λ w. record {
  state = writes_are_asked layout _ book later keeper region spare counts.events l (one_write a v) (lane_at later l)
      (asks_write layout book l a v (lane_at later l) nothing phase (w.state.is_book.entries.others l (ap is_commit nothing)).none asked.lane data_word own events records)
      room (goes_lane book later l (lane_at later l) book.touched lt asked.is) good w.state;
  lawful = asks_keep deeds layout base book later l 2 (Call.Write a v) (Doing.Write a v) (one_write a v ∷ []) w.lawful lt nothing laws.write fits may asked;
})
