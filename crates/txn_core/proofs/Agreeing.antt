-- What the faces of a world show is in its words, and no two lanes hold a structure or a word in common.
use Rattle.std.proofs.Common.{◌≡◌, ◌⊎◌, inl, inr, ℕ, ◌-◌, ◌==◌, ◌&&◌, ◌<◌, ◌≤◌, nat_lt, not, Bool, true, false, List, length, Option, Some, refl, sym, ap, ◌∙◌, subst, arith, unwrap_or}
use Rattle.std.specs.Prelude.{slice_index}
use Rattle.std.proofs.Math.Logic.{∥∥₁_elim}
use Rattle.std.proofs.Math.Nat.{ℕ_set}
use Rattle.std.proofs.lemmas.Bool.Decides.{nat_tests}
use Rattle.std.proofs.lemmas.List.{get_or_past}
use Rattle.std.specs.Coded.{Coded-set, coded_ℕ, coded_bool, coded_option, le_prop}
use Rattle.persist_model.specs.Region.{Region, newest}
use Rattle.persist_model.specs.Records.{Log}
use Rattle.persist_model.specs.Shape.{words_of_shape}
use Rattle.persist_model.proofs.Images.{length-newest_words}
use Rattle.lane_traits.specs.Device.{Counts}
use Rattle.region_layout.specs.declared.layout.Layout.{Layout}
use Rattle.region_layout.specs.Layout.{layout_shape}
use Rattle.offset_alloc.specs.declared.Standing.{Standing}
use Rattle.lane_types.specs.Asks.{is_there, has_word}
use Rattle.lane_types.specs.Deeds.{Deeds}
use Rattle.lane_types.specs.Faces.{Base}
use Rattle.lane_types.specs.Heaps.{has_bit, is_data, names_in, block_of}
use Rattle.lane_types.specs.Seen.{AreInAgreement}
use Rattle.lane_book.specs.declared.book.Book.{Book}
use Rattle.lane_book.specs.declared.lane.Lane.{Lane}
use Rattle.lane_book.specs.FacesOf.{lane_at, idle_lane}
use Rattle.lane_book.specs.Refusals.{owner_seen}
use Rattle.lane_book.specs.Steps.{held_by}
use Rattle.lawful_book.specs.OwnedBooks.{is_own_word}
use Rattle.lawful_book.specs.Laws.{words_now}
use Rattle.lawful_book.proofs.Showing.{bit_above}
use Rattle.txn_core.proofs.LawfulKept.{values_are_held, words_are_apart, own_word}
use Rattle.log_keeper.specs.declared.keeper.LogKeeper.{LogKeeper}
use Rattle.history_laws.specs.UnderWay.{UnderWay}
use Rattle.txn_laws.specs.Txns.{Txn, txn_at}
use Rattle.txn_state.specs.ReadLaws.{clears_in}
use Rattle.txn_state.specs.Stages.{Stage, Free, Between, Leaving, Naming, Storing, Deleting, Securing, Opening, Undoing, TakingBack, Keeping, Ending, Closing, ClosingEnd, Dropping, Unbuilt, stage_of, is_commit}
use Rattle.txn_state.specs.Ties.{IsCome}
use Rattle.txn_core.specs.Laning.{seen_in}
use Rattle.txn_core.specs.Phases.{IsPhased, ArePhased}
use Rattle.txn_core.specs.States.{IsWorld, IsKept}
use Rattle.txn_core.proofs.AskedData.{StandsAt, data_word}
use Rattle.txn_core.proofs.Facts.{IsRead, any_start, has_logs}
use Rattle.txn_core.proofs.Finding.{own, found_running, found_joined, found_undone}
use Rattle.txn_core.proofs.WritingWords.{word_read}

-- ---- how far a transaction is

-- its end is fenced where it closes or takes out
over_is : (log : Log) (u : UnderWay) (x : Txn) (s : Stage) → IsCome log u x s → x.over ≡ clears_in s
over_is log u x Free come = ap (λ (y : Txn). y.over) come.0
over_is log u x Between come = come.going.runs
over_is log u x Leaving come = come.between.going.runs
over_is log u x Naming come = come.going.runs
over_is log u x Storing come = come.going.runs
over_is log u x Deleting come = come.going.runs
over_is log u x Securing come = come.going.runs
over_is log u x Opening come = come.going.runs
over_is log u x Undoing come = come.going.runs
over_is log u x TakingBack come = come.going.runs
over_is log u x Keeping come = come.going.runs
over_is log u x Ending come = come.going.runs
over_is log u x Closing come = come.over.is_over
over_is log u x ClosingEnd come = come.over.is_over
over_is log u x Dropping come = come.over.is_over
over_is log u x Unbuilt come = absurd come

-- ---- a lane that is there

both : (b c : Bool) → (b && c) ≡ true → (b ≡ true) × (c ≡ true)
both true c on = (refl, on)
both false c on = cc

never : (b : Bool) → b ≡ true → b ≡ false → ⊥
never true on off = cc
never false on off = cc

-- no structure is in the empty set
none_named : (owner : ℕ) → names_in 0 owner ≡ true → ⊥
none_named owner on = never (has_bit 0 (owner - 1)) (both (not (owner == 0)) (has_bit 0 (owner - 1)) on).1 (bit_above 0 0 (owner - 1) (omega arith) (omega arith))

none_owned : (E : Type 0) (base : Base) (blocks : List Standing) (a : ℕ) → is_own_word base.heap blocks (idle_lane {E = E}) a ≡ true → ⊥
none_owned E base blocks a on =
    let owned = (both (is_data base.heap a) _ on).1 in
    none_named (owner_seen blocks (idle_lane {E = E}) (block_of base.heap a)) (both (nat_lt (block_of base.heap a) base.heap.blocks) _ owned).1

is_lane : {E : Type 0} (book : Book E) (base : Base) (l a : ℕ) → is_own_word base.heap book.blocks (lane_at book l) a ≡ true → l < length book.lanes.items
is_lane {E} book base l a on = elim (by_length l (length book.lanes.items)) [
  | inl lt ↦ lt
  | inr past ↦ absurd (none_owned E base book.blocks a (subst (λ (x : Lane E). is_own_word base.heap book.blocks x a ≡ true) (get_or_past book.lanes.items l idle_lane past) on))
]
  where
    by_length : (l n : ℕ) → (l < n) ⊎ (n ≤ l)
    by_length l n = by (nat_lt l n) refl
      where
        is_less : nat_lt l n ≡ true → l < n
        is_less e = grind (arith, nat_tests, e)

        is_past : nat_lt l n ≡ false → n ≤ l
        is_past e = grind (arith, nat_tests, e)

        by : (t : Bool) → nat_lt l n ≡ t → (l < n) ⊎ (n ≤ l)
        by true e = inl (is_less e)
        by false e = inr (is_past e)

-- ---- a word that a face shows

module _ {E : Type 0} (deeds : Deeds E) (layout : Layout) (base : Base) (book : Book E) (keeper : LogKeeper) (region : Region) (spare : ℕ) (counts : Counts)
    (phased : ArePhased book) (world : IsWorld deeds layout base book keeper region spare counts.events) where
  -- it is of a structure that the lane holds
  place : (l a : ℕ) → has_word (held_by base book l) a ≡ true → is_own_word base.heap book.blocks (lane_at book l) a ≡ true
  place l a has = own_word deeds layout base book world.lawful l a has

  shown_data : (l a : ℕ) → has_word (held_by base book l) a ≡ true → is_data base.heap a ≡ true
  shown_data l a has = (both (is_data base.heap a) _ (place l a has)).0

  -- and a read of it finds its value
  module _ (l a : ℕ) (has : has_word (held_by base book l) a ≡ true) where
    lt : l < length book.lanes.items
    lt = is_lane book base l a (place l a has)

    abbrev x : Txn
    x = txn_at world.state.w.lanes l

    over : x.over ≡ clears_in (stage_of (lane_at book l))
    over = over_is _ _ x (stage_of (lane_at book l)) (own deeds layout base book keeper region spare counts l a lt (place l a has) world).come

    one : IsPhased (lane_at book l)
    one = phased l

    by_stage : (clears commits : Bool) → clears_in (stage_of (lane_at book l)) ≡ clears → is_commit (lane_at book l).doing ≡ commits → newest (region.at a) ≡ words_now base book l a
    by_stage false commits at doing = found_running deeds layout base book keeper region spare counts l a lt (place l a has) world (over ∙ at)
        (one.joined ∙ ap (λ (t : Bool). is_commit (lane_at book l).doing && t) at ∙ off_and (is_commit (lane_at book l).doing))
      where
        off_and : (b : Bool) → (b && false) ≡ false
        off_and true = refl
        off_and false = refl
    by_stage true true at doing = found_joined deeds layout base book keeper region spare counts l a lt (place l a has) world (over ∙ at)
        (one.joined ∙ ap (λ (t : Bool). t && clears_in (stage_of (lane_at book l))) doing ∙ at)
    by_stage true false at doing = found_undone deeds layout base book keeper region spare counts l a lt (place l a has) world (over ∙ at)
        (one.joined ∙ ap (λ (t : Bool). t && clears_in (stage_of (lane_at book l))) doing) (one.undone at doing)

    value_is : (held_by base book l).word a ≡ Some (newest (region.at a))
    value_is = values_are_held deeds layout base book world.lawful world.state.is_book.kept l a has ∙
        ap (λ v. Some v) (sym (by_stage (clears_in (stage_of (lane_at book l))) (is_commit (lane_at book l).doing) refl refl))

-- ---- all of it

some_there : (o : Option ℕ) (v : ℕ) → o ≡ Some v → is_there o ≡ true
some_there o v is = ap is_there is

same_some : (u v : ℕ) → Some u ≡ Some v → u ≡ v
same_some u v is = ap (λ o. unwrap_or o 0) is

module _ {E : Type 0} (deeds : Deeds E) (layout : Layout) (base : Base) (book : Book E) (keeper : LogKeeper) (words : List ℕ) (region : Region) (spare : ℕ) (counts : Counts)
    (read : IsRead words region counts) (phased : ArePhased book) (kept : IsKept deeds layout base book keeper region spare counts) where
  long : length words ≡ words_of_shape (layout_shape layout)
  long = (has_logs deeds layout book keeper words region spare counts read (any_start deeds layout base book keeper region spare counts kept)).long

  -- a data word of the heap is one of the words
  data_inside : (a : ℕ) → is_data base.heap a ≡ true → a < length words
  data_inside a on = ∥∥₁_elim kept le_prop (λ w.
      (let stands : StandsAt layout base.heap = record { start = w.lawful.owned.place.start; blocks = w.lawful.owned.place.blocks } in
      let lt = (data_word layout base.heap a stands on).0.1 in let size = long in omega (arith, lt, size)))

  shows_data : (l a v : ℕ) → (held_by base book l).word a ≡ Some v → is_data base.heap a ≡ true
  shows_data l a v is = ∥∥₁_elim kept (Coded-set coded_bool _ _) (λ w.
      shown_data deeds layout base book keeper region spare counts phased w l a (some_there ((held_by base book l).word a) v is))

  shows_value : (l a v : ℕ) → (held_by base book l).word a ≡ Some v → slice_index words a ≡ v
  shows_value l a v is = word_read words region a read.reads within ∙
      ∥∥₁_elim kept (ℕ_set _ _) (λ w. same_some (newest (region.at a)) v
      (sym (value_is deeds layout base book keeper region spare counts phased w l a (some_there ((held_by base book l).word a) v is)) ∙ is))
    where
      within : a < region.size
      within = let lt = data_inside a (shows_data l a v is) in let same = ap (λ (ws : List ℕ). length ws) read.reads ∙ length-newest_words region in omega (arith, lt, same)

  pub agreement : AreInAgreement (seen_in words base book)
  agreement = record {
    base = λ l k. refl;
    inside = λ l a on. data_inside a on;
    data_words = λ l a v is. shows_data l a v is;
    values = λ l a v is. shows_value l a v is;
    structures_apart = λ l k n ne few on. ∥∥₁_elim kept (Coded-set coded_bool _ _) (λ w. w.lawful.owned.apart l k n ne on);
    words_apart = λ l k a v ne is. ∥∥₁_elim kept (Coded-set (coded_option coded_ℕ) _ _) (λ w. words_are_apart deeds layout base book w.lawful l k a v ne is);
  }
