-- What the steps without an event get of a world's state, whatever stood at the start.
use Rattle.std.proofs.Common.{◌≡◌, ℕ, ◌+◌, ◌-◌, ◌<◌, ◌^◌, ◌&&◌, not, if◌then◌else◌, false, List, [], ◌∷◌, length, Option, Some, None, arith}
use Rattle.std.proofs.Math.Logic.{∥∥₁_elim, ∥∥₁_prop}
use Rattle.std.specs.Coded.{Coded-set, coded_list, coded_ℕ, ×_prop, Unit-prop, le_prop}
use Rattle.persist_model.specs.Region.{Region}
use Rattle.lane_traits.specs.Device.{Counts}
use Rattle.region_layout.specs.declared.layout.Layout.{Layout}
use Rattle.lane_types.specs.declared.face.Entry.{Entry}
use Rattle.lane_types.specs.Deeds.{Deeds}
use Rattle.lane_types.specs.Faces.{Base}
use Rattle.lane_types.specs.Histories.{HaveSorts}
use Rattle.lane_book.specs.declared.book.Book.{Book}
use Rattle.lane_book.specs.declared.lane.Doing.TheVariants as Doing
use Rattle.lane_book.specs.FacesOf.{lane_at}
use Rattle.lane_book.specs.Steps.{HasEntry, IsNextEntry, IsLawfulFrom}
use Rattle.txn_core.proofs.LawfulKept as fitting
use Rattle.log_keeper.specs.declared.keeper.LogKeeper.{LogKeeper}
use Rattle.txn_state.specs.Stages.{is_commit}
use Rattle.txn_state.proofs.Sums.{summand_within}
use Rattle.txn_state.specs.States.{is_joining}
use Rattle.txn_core.specs.States.{IsKept, HasWorld}
use Rattle.txn_core.proofs.Facts.{few_lanes}

module _ {E : Type 0} (deeds : Deeds E) (layout : Layout) (book : Book E) (keeper : LogKeeper) (region : Region) (spare : ℕ) (counts : Counts) where
  -- ---- a begin

  pub few_begun : (l set : ℕ) → (lane_at book l).doing ≡ Doing.Begin set → HasWorld deeds layout book keeper region spare counts → (lane_at book l).begun < 2 ^ 59
  few_begun l set doing world = ∥∥₁_elim world le_prop (λ w. (fitting.begins_may_take deeds layout w.0 book w.1.lawful l set doing).few)

  pub number_is_left : HasWorld deeds layout book keeper region spare counts → book.next_transaction < 2 ^ 64 - 1
  number_is_left world =
      let few = few_lanes deeds layout book keeper region spare counts world in ∥∥₁_elim world le_prop (λ w. fitting.numbers_are_left deeds layout w.0 book w.1.lawful few)

  sorts_prop : (sorts : List ℕ) (entries : List (Entry E)) → IsProp (HaveSorts deeds sorts entries)
  sorts_prop sorts [] = Unit-prop
  sorts_prop sorts (e ∷ entries) = ×_prop (Coded-set (coded_list coded_ℕ) (deeds.sorts e.deed) sorts) (sorts_prop sorts entries)

  pub lawful_from : (base : Base) → IsKept deeds layout base book keeper region spare counts → IsLawfulFrom deeds book.history.items base
  lawful_from base kept = record {
    lawful = ∥∥₁_elim kept ∥∥₁_prop (λ w. w.lawful.owned.lawful);
    sorts = ∥∥₁_elim kept (sorts_prop base.sorts book.history.items) (λ w. w.lawful.owned.sorts);
  }

  -- ---- a commit

  pub few_commits : (l : ℕ) → HasWorld deeds layout book keeper region spare counts → (lane_at book l).commits < 2 ^ 60
  few_commits l world = ∥∥₁_elim world le_prop (λ w. fitting.commits_are_few deeds layout w.0 book w.1.lawful l)

  entry_prop : (l begun : ℕ) (o : Option (Entry E)) → IsProp (IsNextEntry l begun o)
  entry_prop l begun None = λ x y. absurd x
  entry_prop l begun (Some e) = ×_prop (Coded-set coded_ℕ e.lane l) (Coded-set coded_ℕ begun (e.number + 1))

  -- its entry is there until it joins,
  pub has_entry : (l : ℕ) → (lane_at book l).doing ≡ Doing.Commit → (lane_at book l).entered ≡ false → HasWorld deeds layout book keeper region spare counts → HasEntry l (lane_at book l)
  has_entry l doing new world = record {
    next = ∥∥₁_elim world (entry_prop l (lane_at book l).begun (lane_at book l).entry) (λ w. (fitting.entries_are_there deeds layout w.0 book w.1.lawful l doing new).next);
    new = new;
  }

  -- and there is a place for it
  pub has_place : (l : ℕ) → l < length book.lanes.items → (lane_at book l).doing ≡ Doing.Commit → (lane_at book l).entered ≡ false → HasWorld deeds layout book keeper region spare counts →
      length book.history.items < book.history.capacity
  has_place l lt doing new world = ∥∥₁_elim world le_prop (λ w.
      (let places = w.1.state.is_book.entries.places in let some = summand_within (λ k. is_joining (lane_at book k)) l (length book.lanes.items) lt in
      let one : is_joining (lane_at book l) ≡ 1 = λ i. if is_commit (doing i) && not (new i) then 1 else 0 in omega (arith, places, some, one)))
