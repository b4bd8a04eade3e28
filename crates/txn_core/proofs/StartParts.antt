-- What a world begins with is a state that it keeps.
use Rattle.std.proofs.Common.{◌≡◌, ℕ, ◌≤◌, List, length, slice_index, refl, sym, ◌∙◌, subst, ap, arith}
use Rattle.persist_model.specs.Region.{Region, MayStand, AreSettled, newest_words}
use Rattle.persist_model.specs.Shape.{Shape, shape_of}
use Rattle.lane_traits.specs.Device.{Counts}
use Rattle.region_layout.specs.declared.layout.Layout.{Layout}
use Rattle.region_layout.specs.Layout.{layout_shape}
use Rattle.recovery_passes.specs.Recovered.{IsFinished}
use Rattle.offset_alloc.specs.declared.Standing.{Standing}
use Rattle.offset_alloc.specs.Blocks.{AreAsOwned}
use Rattle.lane_types.specs.Deeds.{Deeds}
use Rattle.lane_book.specs.declared.book.Book.{Book}
use Rattle.lane_book.specs.Books.{IsBook, IsFresh}
use Rattle.log_keeper.specs.declared.keeper.LogKeeper.{LogKeeper}
use Rattle.lawful_book.specs.LawfulBooks.{IsHeapOf}
use Rattle.txn_core.specs.LawfulWorlds.{IsLawfulWorld}
use Rattle.txn_core.proofs.LawfulKept.{fresh_books_are_lawful}
use Rattle.txn_core.proofs.LawfulKept.{owners_are_structures}
use Rattle.txn_laws.specs.StartLaws.{IsStartingRegion}
use Rattle.txn_state.specs.StartLaw.{IsFreshBook, IsFreshKeeper}
use Rattle.txn_state.proofs.Starts.{states_start}
use Rattle.txn_core.specs.States.{base_of, IsWorld}
use Rattle.txn_core.specs.Starting.{IsForced, Prepares, Starts}
use Rattle.txn_core.proofs.StartRegions.{newest_stand, settled_full, newest_size, finished_region}

pub prepares : {E : Type 0} (lanes : ℕ) (blocks : List Standing) (sorts words : List ℕ) (layout : Layout) (book : Book E) (log : LogKeeper) → IsFresh lanes blocks sorts book →
    length blocks ≡ layout.blocks → AreAsOwned (layout_shape layout) (slice_index words) blocks → IsBook book → IsFreshKeeper layout log →
    Prepares lanes sorts words layout book log
prepares lanes blocks sorts words layout book log fresh many owned kept unused = record {
  fresh = subst (λ (bs : List Standing). IsFresh lanes bs sorts book) (sym fresh.stand) fresh;
  many = ap (λ (bs : List Standing). length bs) fresh.stand ∙ many;
  owned = subst (λ (bs : List Standing). AreAsOwned (layout_shape layout) (slice_index words) bs) (sym fresh.stand) owned;
  kept = kept;
  unused = unused;
}

module _ {E : Type 0} (deeds : Deeds E) (lanes : ℕ) (sorts words : List ℕ) (region : Region) (spare : ℕ) (counts : Counts) (layout : Layout) (book : Book E) (log : LogKeeper)
    (some : 1 ≤ lanes) (few : lanes ≤ 16) (made : Prepares lanes sorts words layout book log) where
  heap_of : IsHeapOf layout (base_of layout sorts words counts)
  heap_of = record { start = refl; blocks = refl; structures = refl; few = (let most = layout.structures_within in omega (arith, most)) }

  lawful : IsLawfulWorld deeds layout (base_of layout sorts words counts) book
  lawful = fresh_books_are_lawful deeds layout (base_of layout sorts words counts) lanes book.blocks sorts book made.fresh heap_of made.many made.owned

  fresh_book : IsFreshBook layout book
  fresh_book = record {
    some = (let many = made.fresh.many in omega (arith, many));
    few = (let many = made.fresh.many in omega (arith, many));
    idle = made.fresh.idle;
    no_history = made.fresh.none_joined;
    first = made.fresh.next;
    blocks = made.many;
    structures = λ k s owned. owners_are_structures deeds layout (base_of layout sorts words counts) book lawful k s owned;
    kept = made.kept;
  }

  -- where the words are those of the layout
  world_starts : layout_shape layout ≡ shape_of (slice_index words) → length words ≡ region.size → MayStand (slice_index words) region → AreSettled region → IsForced words →
      IsFinished (length words) (slice_index words) → IsWorld deeds layout (base_of layout sorts words counts) book log region spare counts.events
  world_starts shape long stand settled force done = record {
    state = states_start layout (slice_index words) done.sound.state done.sound.has.chains book log region spare counts.events
        (λ two. force done.sound (sym (ap (λ (s : Shape). s.policy) shape) ∙ two))
        (subst (λ (s : Shape). IsStartingRegion s (slice_index words) done.sound.state done.sound.has.chains region) (sym shape)
        (finished_region (length words) (slice_index words) region long stand settled done))
        (settled_full region settled) fresh_book made.unused;
    lawful = lawful;
  }

  pub starts : words ≡ newest_words region → layout_shape layout ≡ shape_of (slice_index words) → AreSettled region → IsForced words →
      IsFinished (length words) (slice_index words) → Starts deeds lanes sorts words region spare counts layout book log
  starts reads shape settled force done = record {
    finished = done;
    shape = shape;
    prepared = made;
    stands = ∣ world_starts shape (ap (λ (ws : List ℕ). length ws) reads ∙ newest_size region)
        (subst (λ (ws : List ℕ). MayStand (slice_index ws) region) (sym reads) (newest_stand region (settled_full region settled))) settled force done ∣₁;
  }
