-- The commits in flight of a book are those of the plain world.
use Rattle.std.proofs.Common.{◌≡◌, ℕ, suc, ◌<◌, ◌&&◌, Bool, true, false, not, if◌then◌else◌, List, [], ◌∷◌, ◌++◌, length, map, get_or, Option, Some, None, option_to_list, refl, sym, ap, ◌∙◌, subst, arith}
use Rattle.persist_model.specs.Region.{Words, Region, MayStand}
use Rattle.persist_model.specs.Records.{Log}
use Rattle.region_layout.specs.declared.layout.Layout.{Layout}
use Rattle.region_layout.specs.Layout.{layout_shape}
use Rattle.lane_types.specs.declared.face.Entry.{Entry}
use Rattle.lane_book.specs.declared.book.Book.{Book}
use Rattle.lane_book.specs.declared.lane.Lane.{Lane}
use Rattle.lane_book.specs.FacesOf.{lane_at, idle_lane}
use Rattle.lane_book.specs.Flights.{is_commit, flight_of as book_flight, flights_in, flights_of}
use Rattle.lane_book.specs.Steps.{IsNextEntry}
use Rattle.log_keeper.specs.declared.keeper.LogKeeper.{LogKeeper}
use Rattle.history_laws.specs.Histories as plain
use Rattle.history_laws.specs.Stands.{StandsFor}
use Rattle.history_laws.specs.UnderWay.{UnderWay}
use Rattle.txn_laws.specs.Txns.{Txn, txn_at, entry_of}
use Rattle.txn_laws.specs.Flights.{is_flying, flight_of}
use Rattle.txn_laws.proofs.Moments.{worlds_stand}
use Rattle.txn_state.specs.Stages.{Stage, Free, Between, Leaving, Naming, Storing, Securing, Opening, Undoing, TakingBack, Keeping, Ending, Closing, ClosingEnd, Dropping, Unbuilt, stage_of, Deleting}
use Rattle.txn_state.specs.Ties.{IsCome, plain_entry, under_of}
use Rattle.txn_state.specs.ReadLaws.{clears_in}
use Rattle.txn_state.specs.States.{IsStateOf}
use Rattle.txn_core.specs.Phases.{ArePhased}

-- the end is fenced from the closing of the records on
over_by : (log : Log) (u : UnderWay) (x : Txn) (stage : Stage) → IsCome log u x stage → clears_in stage ≡ x.over
over_by log u x Free come = sym (ap (λ (y : Txn). y.over) come.0)
over_by log u x Between come = sym come.going.runs
over_by log u x Leaving come = sym come.between.going.runs
over_by log u x Naming come = sym come.going.runs
over_by log u x Storing come = sym come.going.runs
over_by log u x Securing come = sym come.going.runs
over_by log u x Opening come = sym come.going.runs
over_by log u x Undoing come = sym come.going.runs
over_by log u x TakingBack come = sym come.going.runs
over_by log u x Keeping come = sym come.going.runs
over_by log u x Ending come = sym come.going.runs
over_by log u x Closing come = sym come.over.is_over
over_by log u x ClosingEnd come = sym come.over.is_over
over_by log u x Dropping come = sym come.over.is_over
over_by log u x Deleting come = sym come.going.runs
over_by log u x Unbuilt come = absurd come

-- what a lane has in flight, and its transaction
abbrev flying_of : Txn → List plain.Entry
flying_of x = if is_flying x then entry_of x ∷ [] else []

abbrev FliesAlike : {E : Type 0} → Txn → Lane E → Type 0
FliesAlike x lane = flying_of x ≡ map plain_entry (option_to_list (book_flight lane))

-- ---- a lane

flown : {E : Type 0} (commits ended over : Bool) (e : plain.Entry) (entry : Option (Entry E)) →
    (commits ≡ true → over ≡ true → entry ≡ None) → (commits ≡ true → over ≡ false → (f : Entry E) × (entry ≡ Some f) × (plain_entry f ≡ e)) →
    (if commits && (ended && not over) then e ∷ [] else []) ≡ map plain_entry (option_to_list (if ended && commits then entry else None))
flown false false over e entry gone there = refl
flown false true over e entry gone there = refl
flown true false over e entry gone there = refl
flown true true true e entry gone there = sym (ap (λ (o : Option (Entry _)). map plain_entry (option_to_list o)) (gone refl refl))
flown true true false e entry gone there =
    let f = there refl refl in sym (ap (λ (o : Option (Entry _)). map plain_entry (option_to_list o)) f.1 ∙ ap (λ (p : plain.Entry). p ∷ []) f.2)

-- the entry that waits to join
waiting : {E : Type 0} (l begun : ℕ) (entry : Option (Entry E)) → IsNextEntry l begun entry → (f : Entry E) × (entry ≡ Some f)
waiting l begun None next = absurd next
waiting l begun (Some f) next = (f, refl)

-- ---- all lanes

in_front : (e : plain.Entry) (b : Bool) (rest : List plain.Entry) → (if b then e ∷ rest else rest) ≡ (if b then e ∷ [] else []) ++ rest
in_front e true rest = refl
in_front e false rest = refl

behind : {E : Type 0} (o : Option (Entry E)) (rest : List (Entry E)) → map plain_entry (option_to_list o ++ rest) ≡ map plain_entry (option_to_list o) ++ map plain_entry rest
behind None rest = refl
behind (Some e) rest = refl

alike_all : {E : Type 0} (xs : List Txn) (ys : List (Lane E)) → length xs ≡ length ys →
    ((l : ℕ) → l < length xs → FliesAlike (txn_at xs l) (get_or ys l idle_lane)) → flight_of xs ≡ map plain_entry (flights_in ys)
alike_all [] [] same alike = refl
alike_all [] (y ∷ ys) same alike = absurd (omega (arith, same))
alike_all (x ∷ xs) [] same alike = absurd (omega (arith, same))
alike_all (x ∷ xs) (y ∷ ys) same alike = by (is_flying x) (book_flight y) (alike 0 (omega arith)) (alike_all xs ys (omega (arith, same)) (λ l lt. alike (suc l) (omega (arith, lt)))) where
  by : (b : Bool) (o : Option (Entry _)) → (if b then entry_of x ∷ [] else []) ≡ map plain_entry (option_to_list o) → flight_of xs ≡ map plain_entry (flights_in ys) →
      (if b then entry_of x ∷ flight_of xs else flight_of xs) ≡ map plain_entry (option_to_list o ++ flights_in ys)
  by b o here rest = in_front (entry_of x) b (flight_of xs) ∙ ap (λ (es : List plain.Entry). es ++ flight_of xs) here ∙ ap (λ (es : List plain.Entry). map plain_entry (option_to_list o) ++ es) rest ∙ sym (behind o (flights_in ys))

module _ {E : Type 0} (layout : Layout) (start : Words) (book : Book E) (keeper : LogKeeper) (region : Region) (spare events : ℕ) (calls : ArePhased book)
    (st : IsStateOf layout start book keeper region spare events) where
  module _ (l : ℕ) (lt : l < length st.w.lanes) where
    abbrev x : Txn
    x = txn_at st.w.lanes l

    abbrev lane : Lane E
    lane = lane_at book l

    over_is : clears_in (stage_of lane) ≡ x.over
    over_is = over_by st.s.log (under_of (layout_shape layout) st.w l) x (stage_of lane) (st.tied.each l lt).come

    joined : is_commit lane.doing ≡ true → lane.entered ≡ clears_in (stage_of lane)
    joined commits = (calls l).joined ∙ ap (λ (c : Bool). c && clears_in (stage_of lane)) commits

    gone : is_commit lane.doing ≡ true → x.over ≡ true → lane.entry ≡ None
    gone commits over = (st.is_book.entries.joined l commits (joined commits ∙ over_is ∙ over)).out

    there : is_commit lane.doing ≡ true → x.over ≡ false → (f : Entry E) × (lane.entry ≡ Some f) × (plain_entry f ≡ entry_of x)
    there commits over =
        let waits = st.is_book.entries.waits l commits (joined commits ∙ over_is ∙ over) in
        let f = waiting l lane.begun lane.entry waits.next in (f.0, f.1, (st.tied.each l lt).txn.entry f.0 f.1)

    alike : FliesAlike x lane
    alike = subst (λ (c : Bool). (if c && (x.ended && not x.over) then entry_of x ∷ [] else []) ≡ map plain_entry (option_to_list (book_flight lane))) (sym (st.tied.each l lt).txn.commits)
        (subst (λ (n : Bool). (if is_commit lane.doing && (n && not x.over) then entry_of x ∷ [] else []) ≡ map plain_entry (option_to_list (book_flight lane))) (sym (st.tied.each l lt).txn.ended)
        (flown (is_commit lane.doing) lane.ended x.over (entry_of x) lane.entry gone there))

  pub flights : flight_of st.w.lanes ≡ map plain_entry (flights_of book)
  flights = alike_all st.w.lanes book.lanes.items st.tied.lanes alike

  pub images_stand : (i : Words) → MayStand i region → StandsFor region.size start (map plain_entry book.history.items) (map plain_entry (flights_of book)) i
  images_stand i m = subst (λ (f : List plain.Entry). StandsFor region.size start (map plain_entry book.history.items) f i) flights
      (subst (λ (h : List plain.Entry). StandsFor region.size start h (flight_of st.w.lanes) i) st.tied.history
      (worlds_stand (layout_shape layout) st.base st.s st.chains start st.w region st.world i m))
