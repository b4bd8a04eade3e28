-- A lawful book in which one lane is another, and one whose history has an entry more.
use Rattle.std.proofs.Common.{◌≡◌, ◌≢◌, ⊎_elim, ℕ, ◌+◌, ◌<◌, ◌≤◌, Bool, true, false, [], ◌∷◌, ◌++◌, length, refl, sym, ◌∙◌, ap, subst, arith, Option, Some, None}
use Rattle.std.proofs.lemmas.Bool.{false_from_ne_true}
use Rattle.std.proofs.lemmas.Bool.Decides.{eqb_tells}
use Rattle.lane_types.specs.declared.face.Entry.{Entry}
use Rattle.lane_types.specs.Deeds.{Deeds}
use Rattle.lane_types.specs.Heaps.{has_bit}
use Rattle.lane_types.specs.Faces.{Base}
use Rattle.region_layout.specs.declared.layout.Layout.{Layout}
use Rattle.lane_book.specs.declared.lane.Lane.{Lane}
use Rattle.lane_book.specs.declared.book.Book.{Book}
use Rattle.lane_book.specs.Lanes.{with_lane, with_history}
use Rattle.lane_book.specs.FacesOf.{lane_at, begun_heap}
use Rattle.lane_book.specs.Books.{IsBook}
use Rattle.lane_book.specs.Owed.{sum_of}
use Rattle.lane_book.proofs.Owing.{sum_with}
use Rattle.lane_book.proofs.Faces.{lane_at-same, lane_at-other}
use Rattle.lawful_book.specs.LawfulBooks.{IsPast, IsComing, IsLawfulLane, AreApart, AreOfOne, IsLawfulBook}
use Rattle.lawful_book.proofs.WordsOf.{data_of}
use Rattle.lawful_book.proofs.Histories.{Depends, IsGood, CanJoin, joined, past_owners, each_last}
use Rattle.lawful_book.proofs.Laning.{coming_can_join, others_join}

-- what holds of the new lane, and of every other as it was, holds of each
pub by_lane : {E : Type 0} (P : ℕ → Lane E → Type 0) (book : Book E) (l : ℕ) (lane : Lane E) (touched : Option ℕ) → l < length book.lanes.items → P l lane →
    ((k : ℕ) → k ≢ l → P k (lane_at book k)) → (k : ℕ) → P k (lane_at (with_lane book l lane touched) k)
by_lane P book l lane touched lt here there k = ⊎_elim (λ same. at_same same.1) (λ ne. at_other ne.1) (eqb_tells k l)
  where
    at_same : k ≡ l → P k (lane_at (with_lane book l lane touched) k)
    at_same same = subst (λ (n : ℕ). P n (lane_at (with_lane book l lane touched) n)) (sym same)
        (subst (P l) (sym (lane_at-same book l lane touched lt)) here)

    at_other : k ≢ l → P k (lane_at (with_lane book l lane touched) k)
    at_other ne = subst (P k) (sym (lane_at-other book l k lane touched ne)) (there k ne)

-- the lane holds no structure that it didn't hold, has no other transaction, and has begun as many
pub record HasNoMore {E : Type 0} (lane later : Lane E) : Type 0 where
  pub sets : (s : ℕ) → has_bit later.held s ≡ true → has_bit lane.held s ≡ true
  pub same : later.transaction ≢ 0 → later.transaction ≡ lane.transaction
  pub begun : later.begun ≡ lane.begun

both : (t : Bool) → t ≡ true → t ≡ false → ⊥
both t e f = cc

module _ {E : Type 0} (book : Book E) (l : ℕ) (lane : Lane E) (touched : Option ℕ) (lt : l < length book.lanes.items) where
  -- the lane's structures and transaction are apart from those of the others
  pub apart_with : AreApart book → ((k s : ℕ) → k ≢ l → has_bit lane.held s ≡ true → has_bit (lane_at book k).held s ≡ false) →
      AreApart (with_lane book l lane touched)
  apart_with apart mine i k s ne = by_lane (λ n x. n ≢ k → has_bit x.held s ≡ true → has_bit (lane_at (with_lane book l lane touched) k).held s ≡ false) book l lane touched lt
      (λ l_ne here. by_lane (λ n y. l ≢ n → has_bit y.held s ≡ false) book l lane touched lt
      (λ self. absurd (self refl)) (λ n n_ne ln. mine n s n_ne here) k l_ne)
      (λ n n_ne nk has. by_lane (λ m y. n ≢ m → has_bit y.held s ≡ false) book l lane touched lt
      (λ nl. false_from_ne_true (has_bit lane.held s) (λ on. both _ has (mine n s n_ne on)))
      (λ m m_ne nm. apart n m s nm has) k nk) i ne

  pub of_one_with : AreOfOne book → ((k : ℕ) → k ≢ l → lane.transaction ≢ 0 → lane.transaction ≢ (lane_at book k).transaction) → AreOfOne (with_lane book l lane touched)
  of_one_with one mine i k ne = by_lane (λ n x. n ≢ k → x.transaction ≢ 0 → x.transaction ≢ (lane_at (with_lane book l lane touched) k).transaction) book l lane touched lt
      (λ l_ne some. by_lane (λ n y. l ≢ n → lane.transaction ≢ y.transaction) book l lane touched lt
      (λ self. absurd (self refl)) (λ n n_ne ln. mine n n_ne some) k l_ne)
      (λ n n_ne nk some. by_lane (λ m y. n ≢ m → (lane_at book n).transaction ≢ y.transaction) book l lane touched lt
      (λ nl is. mine n n_ne (λ none. some (is ∙ none)) (sym is))
      (λ m m_ne nm. one n m nm some) k nk) i ne

  -- as many transactions have begun in all
  pub sum_same : lane.begun ≡ (lane_at book l).begun → sum_of (λ (x : Lane E). x.begun) (with_lane book l lane touched) ≡ sum_of (λ (x : Lane E). x.begun) book
  sum_same same = left_out _ _ _ _ (sum_with (λ (x : Lane E). x.begun) book l lane touched lt) same
    where
      left_out : (s t m n : ℕ) → s + m ≡ t + n → n ≡ m → s ≡ t
      left_out s t m n e f = omega (arith, e, f)

pub some_of : (n m : ℕ) → n ≡ m + 1 → 1 ≤ n
some_of n m is = omega (arith, is)

-- ---- one lane is another

pub replaces : {E : Type 0} (deeds : Deeds E) (layout : Layout) (base : Base) (book real : Book E) (l : ℕ) (lane : Lane E) (touched : Option ℕ) → l < length book.lanes.items →
    real ≡ with_lane book l lane touched → HasNoMore (lane_at book l) lane →
    (IsLawfulLane deeds base book.history.items book.next_transaction l (lane_at book l) → IsLawfulLane deeds base book.history.items book.next_transaction l lane) →
    IsLawfulBook deeds layout base book → IsLawfulBook deeds layout base real
replaces deeds layout base book real l lane touched lt is no_more keeps lawful = subst (λ (b : Book _). IsLawfulBook deeds layout base b) (sym is) record {
  place = lawful.place;
  many = lawful.many;
  owners = lawful.owners;
  lawful = lawful.lawful;
  sorts = lawful.sorts;
  past = lawful.past;
  numbers = lawful.numbers ∙ ap (λ (n : ℕ). n + 1) (sym (sum_same book l lane touched lt no_more.begun));
  lanes = by_lane (λ k x. IsLawfulLane deeds base book.history.items book.next_transaction k x) book l lane touched lt (keeps (lawful.lanes l)) (λ k ne. lawful.lanes k);
  apart = apart_with book l lane touched lt lawful.apart (λ k s ne on. lawful.apart l k s (λ e. ne (sym e)) (no_more.sets s on));
  of_one = of_one_with book l lane touched lt lawful.of_one
      (λ k ne some is. lawful.of_one l k (λ e. ne (sym e)) (λ none. some (no_more.same some ∙ none)) (sym (no_more.same some) ∙ is));
}

-- ---- the entry of a lane joins the history

pub good_book : {E : Type 0} (deeds : Deeds E) (layout : Layout) (base : Base) (book : Book E) → IsLawfulBook deeds layout base book → IsGood deeds base book.history.items
good_book deeds layout base book lawful = record {
  owners = past_owners base.heap book.next_transaction book.history.items base.heap.at lawful.past (λ b. refl);
  lawful = lawful.lawful;
  sorts = lawful.sorts;
}

pub joins : {E : Type 0} (deeds : Deeds E) → Depends deeds → (layout : Layout) (base : Base) (book real : Book E) (l : ℕ) (lane : Lane E) (e : Entry E) → l < length book.lanes.items →
    (lane_at book l).entry ≡ Some e → real ≡ with_history (book.history.items ++ e ∷ []) (with_lane book l lane None) → HasNoMore (lane_at book l) lane → IsBook book →
    (IsLawfulLane deeds base book.history.items book.next_transaction l (lane_at book l) → IsLawfulLane deeds base (book.history.items ++ e ∷ []) book.next_transaction l lane) →
    IsLawfulBook deeds layout base book → IsLawfulBook deeds layout base real
joins deeds depends layout base book real l lane e lt has is no_more whole keeps lawful = subst (λ (b : Book _). IsLawfulBook deeds layout base b) (sym is) record {
  place = lawful.place;
  many = lawful.many;
  owners = lawful.owners;
  lawful = good.lawful;
  sorts = good.sorts;
  past = each_last (IsPast base.heap book.next_transaction) book.history.items e lawful.past (record {
    begun = subst (λ (n : ℕ). n < book.next_transaction) (sym comes.transaction) (lawful.lanes l).begun;
    data_writes = data_of base.heap (deeds.names e.deed) e.writes can.own;
  });
  numbers = lawful.numbers ∙ ap (λ (n : ℕ). n + 1) (sym (sum_same book l lane None lt no_more.begun));
  lanes = by_lane (λ k x. IsLawfulLane deeds base (book.history.items ++ e ∷ []) book.next_transaction k x) book l lane None lt (keeps (lawful.lanes l))
      (λ k ne. others_join deeds base book.history.items book.next_transaction k (lane_at book k) e (whole k).behind before.owners (record {
        lane_is = λ own. ne (sym own ∙ comes.lane_is);
        transaction = λ own. lawful.of_one l k (λ e. ne (sym e)) comes.some (sym comes.transaction ∙ own);
        own = can.own;
        sets = λ s on. subst (λ (n : ℕ). has_bit n s ≡ false) (sym comes.names) (lawful.apart k l s ne on);
      }) (lawful.lanes k));
  apart = apart_with book l lane None lt lawful.apart (λ k s ne on. lawful.apart l k s (λ e. ne (sym e)) (no_more.sets s on));
  of_one = of_one_with book l lane None lt lawful.of_one
      (λ k ne some is. lawful.of_one l k (λ e. ne (sym e)) (λ none. some (no_more.same some ∙ none)) (sym (no_more.same some) ∙ is));
}
  where
    before : IsGood deeds base book.history.items
    before = good_book deeds layout base book lawful

    can : CanJoin deeds base book.history.items e
    can = coming_can_join deeds base book.history.items book.next_transaction l (lane_at book l) e (lawful.lanes l) has

    good : IsGood deeds base (book.history.items ++ e ∷ [])
    good = joined deeds depends base book.history.items e before can

    comes : IsComing deeds base (begun_heap base book.history.items (lane_at book l)) l (lane_at book l) e
    comes = (lawful.lanes l).coming e has
