-- What a stop leaves of a world, and what its commits mean, whatever state it is that the world keeps.
use Rattle.std.proofs.Common.{◌≡◌, ℕ, suc, Bool, List, [], ◌∷◌, ◌++◌, get_or, option_to_list, refl, ap, ◌∙◌}
use Rattle.std.specs.List.{filter}
use Rattle.std.proofs.Math.Logic.{∥∥₁_map, ∥∥₁_elim}
use Rattle.std.proofs.Props.{props}
use Rattle.persist_model.specs.Region.{Region}
use Rattle.lane_traits.specs.Device.{Counts}
use Rattle.region_layout.specs.declared.layout.Layout.{Layout}
use Rattle.lane_types.specs.declared.face.Entry.{Entry}
use Rattle.lane_types.specs.Deeds.{Deeds}
use Rattle.lane_types.specs.Histories.{HaveSorts}
use Rattle.lane_types.specs.Faces.{Base}
use Rattle.lane_book.specs.declared.book.Book.{Book}
use Rattle.lane_book.specs.declared.lane.Lane.{Lane}
use Rattle.lane_book.specs.FacesOf.{idle_lane}
use Rattle.lane_book.specs.Books.{IsFresh}
use Rattle.lane_book.specs.Flights.{flight_of, flights_in, flights_of}
use Rattle.lane_book.specs.Steps.{IsLawfulFrom}
use Rattle.lawful_book.proofs.Histories.{Depends}
use Rattle.txn_core.proofs.LawfulKept as laws
use Rattle.log_keeper.specs.declared.keeper.LogKeeper.{LogKeeper}
use Rattle.offset_alloc.specs.declared.Standing.{Standing}
use Rattle.txn_core.specs.Phases.{ArePhased}
use Rattle.txn_core.specs.States.{IsKept, start_of}
use Rattle.txn_core.specs.Worlds.{IsNew, StandForCommits}
use Rattle.txn_core.proofs.Flights as flights

-- ---- a world that begins

none_fly : {E : Type 0} (lanes : List (Lane E)) → ((l : ℕ) → get_or lanes l idle_lane ≡ idle_lane) → flights_in lanes ≡ []
none_fly [] idle = refl
none_fly (x ∷ xs) idle = ap (λ (lane : Lane _). option_to_list (flight_of lane) ++ flights_in xs) (idle 0) ∙ none_fly xs (λ l. idle (suc l))

pub fresh_is_new : {E : Type 0} (lanes : ℕ) (blocks : List Standing) (sorts : List ℕ) (book : Book E) → IsFresh lanes blocks sorts book → IsNew lanes book
fresh_is_new lanes blocks sorts book fresh =
    record { many = fresh.many; idle = fresh.idle; no_history = fresh.none_joined; no_flight = none_fly book.lanes.items fresh.idle }

-- ---- what its history is, is a proposition

sorts_prop : {E : Type 0} (deeds : Deeds E) (sorts : List ℕ) (history : List (Entry E)) → IsProp (HaveSorts deeds sorts history)
sorts_prop deeds sorts [] = hlevel props
sorts_prop deeds sorts (e ∷ entries) = hlevel (props, sorts_prop deeds sorts entries)

lawful_prop : {E : Type 0} (deeds : Deeds E) (history : List (Entry E)) (base : Base) → IsProp (IsLawfulFrom deeds history base)
lawful_prop deeds history base = hlevel (props, sorts_prop)

-- ---- what follows

module _ {E : Type 0} (deeds : Deeds E) (layout : Layout) (base : Base) (book : Book E) (keeper : LogKeeper) (region : Region) (spare : ℕ) (counts : Counts)
    (kept : IsKept deeds layout base book keeper region spare counts) where
  pub stand_for_commits : ArePhased book → StandForCommits layout base book region
  stand_for_commits phased i m =
      ∥∥₁_map kept (λ w. flights.images_stand layout (start_of layout base) book keeper region spare counts.events phased w.state i m)

  pub history_is_lawful : IsLawfulFrom deeds book.history.items base
  history_is_lawful = ∥∥₁_elim kept (lawful_prop deeds book.history.items base) (λ w. record { lawful = w.lawful.owned.lawful; sorts = w.lawful.owned.sorts })

  pub some_flights_are_lawful : Depends deeds → (picks : Entry E → Bool) → IsLawfulFrom deeds (book.history.items ++ filter picks (flights_of book)) base
  some_flights_are_lawful depends picks = ∥∥₁_elim kept (lawful_prop deeds (book.history.items ++ filter picks (flights_of book)) base)
      (λ w. laws.some_flights_are_lawful deeds layout base book w.lawful depends picks)
