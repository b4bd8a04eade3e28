-- What the calls of a book ask of it holds of a lawful one.
use Rattle.std.proofs.Common.{◌≡◌, ◌≢◌, ◌==◌, ℕ, zero, suc, ◌+◌, ◌-◌, ◌*◌, ◌^◌, ◌<◌, ◌≤◌, Bool, true, false, nat_lt, nat_le, if◌then◌else◌, List, [], ◌∷◌, length, refl, sym, ◌∙◌, ap, subst, arith, Option, Some, None}
use Rattle.std.specs.Prelude.{slice_get}
use Rattle.std.proofs.lemmas.Bool.Decides.{nat_tests}
use Rattle.persist_model.specs.Shape.{block}
use Rattle.region_layout.specs.Layout.{layout_shape}
use Rattle.offset_alloc.specs.declared.Standing.{Standing}
use Rattle.offset_alloc.specs.declared.Standing.TheVariants.{Free, Owned, Pending}
use Rattle.lane_types.specs.declared.call.Phase.{Phase}
use Rattle.lane_types.specs.declared.face.Entry.{Entry}
use Rattle.lane_types.specs.Deeds.{Deeds}
use Rattle.lane_book.specs.declared.lane.Lane.{Lane}
use Rattle.lane_book.specs.declared.lane.Doing.{Doing}
use Rattle.lane_book.specs.declared.book.Book.{Book}
use Rattle.lane_book.specs.FacesOf.{lane_at}
use Rattle.lane_book.specs.Entries.{AreBlocks}
use Rattle.lane_book.specs.Owed.{sum_below}
use Rattle.lane_book.specs.Steps.{IsNextEntry}
use Rattle.lawful_book.specs.LawfulBooks.{is_inside}
use Rattle.lawful_book.specs.Laws
use Rattle.lawful_book.proofs.Laning.{none_entered}

both : (t : Bool) → t ≡ true → t ≡ false → ⊥
both t e f = cc

-- a sum of numbers none of which is above 2^59
pub sum_most : {E : Type 0} (f : Lane E → ℕ) (book : Book E) (n : ℕ) → ((l : ℕ) → f (lane_at book l) ≤ 2 ^ 59) → sum_below f book n ≤ 576460752303423488 * n
sum_most f book zero most = omega arith
sum_most f book (suc n) most = let below = sum_most f book n most in let here = most n in omega (arith, below, here)

-- of an entry that isn't missing something is told
pub next_entry : {E : Type 0} (l begun : ℕ) (o : Option (Entry E)) → o ≢ None → ((e : Entry E) → o ≡ Some e → (e.lane ≡ l) × (begun ≡ e.number + 1)) → IsNextEntry l begun o
next_entry l begun None some next = absurd (some refl)
next_entry l begun (Some e) some next = next e refl

-- the structure that a block's standing names
abbrev number_of : Option Standing → ℕ
number_of (Some (Owned n)) = n
number_of _ = 0

module _ {E : Type 0} (deeds : Deeds E) where
  pub numbers_are_left : Laws.NumbersAreLeft deeds
  numbers_are_left layout base book lawful few = bounded _ _ _ lawful.numbers
      (sum_most (λ (x : Lane E). x.begun) book (length book.lanes.items) (λ l. (lawful.lanes l).counts.few)) few
    where
      bounded : (n s k : ℕ) → n ≡ s + 1 → s ≤ 576460752303423488 * k → k ≤ 16 → n < 2 ^ 64 - 1
      bounded n s k is most few = omega (arith, is, most, few)

  pub commits_are_few : Laws.CommitsAreFew deeds
  commits_are_few layout base book lawful l = let few = (lawful.lanes l).counts.few in let most = (lawful.lanes l).counts.most in omega (arith, few, most)

  pub begins_may_take : Laws.BeginsMayTake deeds
  begins_may_take layout base book lawful l set begins = (lawful.lanes l).own_set set begins

  pub transactions_have_begun : Laws.TransactionsHaveBegun deeds
  transactions_have_begun layout base book lawful l phase nothing =
      let was = lawful.lanes l in
      let less = was.counts.less (was.running (ap (λ (p : Phase). is_inside p (lane_at book l).doing) phase))
      (none_entered deeds base book.history.items book.next_transaction l (lane_at book l) (λ commit. no_commit (sym nothing ∙ commit)) was) in
      omega (arith, less)
    where
      no_commit : Doing.Nothing ≡ Doing.Commit → ⊥
      no_commit e = cc

  pub entries_are_there : Laws.EntriesAreThere deeds
  entries_are_there layout base book lawful l commit new =
      let was = lawful.lanes l in record {
        next = next_entry l (lane_at book l).begun (lane_at book l).entry (was.has_entry commit new)
            (λ e has. let comes = was.coming e has in (comes.lane_is, comes.number));
        new = new;
      }

  pub entries_have_joined : Laws.EntriesHaveJoined deeds
  entries_have_joined layout base book lawful l on = record {
    entered = on;
    out = none_left (lane_at book l).entry refl;
    mine = (lawful.lanes l).has_joined on;
  }
    where
      none_left : (o : Option (Entry E)) → (lane_at book l).entry ≡ o → o ≡ None
      none_left None is = refl
      none_left (Some e) is = absurd (both (lane_at book l).entered on ((lawful.lanes l).coming e is).new)

  pub gives_are_blocks : Laws.GivesAreBlocks deeds
  gives_are_blocks layout base book lawful l = subst (AreBlocks layout) (sym (lawful.lanes l).no_gives) tt

  pub owners_are_structures : Laws.OwnersAreStructures deeds
  owners_are_structures layout base book lawful k s owned = told (base.heap.at (block (layout_shape layout) k)) s
      (sym (lawful.owners.each k inside) ∙ owned) (let few = lawful.place.few in let is = lawful.place.structures in omega (arith, few, is))
    where
      past_end : (n : ℕ) (bs : List Standing) → length bs ≤ n → slice_get bs n ≡ None
      past_end zero [] le = refl
      past_end zero (b ∷ bs) le = absurd (omega (arith, le))
      past_end (suc n) [] le = refl
      past_end (suc n) (b ∷ bs) le = past_end n bs (omega (arith, le))

      is_none : (o : Option Standing) → o ≡ None → o ≡ Some (Owned s) → ⊥
      is_none o e f = cc

      at_most : (n m : ℕ) → nat_lt n m ≡ false → m ≤ n
      at_most n m e = grind (arith, nat_tests)

      below : (n m : ℕ) → nat_lt n m ≡ true → n < m
      below n m e = grind (arith, nat_tests)

      within : (n m : ℕ) → nat_le n m ≡ true → n ≤ m
      within n m e = grind (arith, nat_tests)

      by_test : (t : Bool) → nat_lt k layout.blocks ≡ t → k < layout.blocks
      by_test true e = below k layout.blocks e
      by_test false e = absurd (is_none _ (past_end k book.blocks (let m = lawful.many in let le = at_most k layout.blocks e in omega (arith, m, le))) owned)

      inside : k < layout.blocks
      inside = by_test (nat_lt k layout.blocks) refl

      told : (n s : ℕ) → Some (if n == 0 then (if nat_lt k layout.structures then Pending else Free) else (if nat_le n layout.structures then Owned (n - 1) else Pending)) ≡ Some (Owned s) →
          layout.structures ≤ 8 → s < 8
      told n s e few = by_zero (n == 0) e
        where
          by_last : (t : Bool) → Some (if t then Pending else Free) ≡ Some (Owned s) → s < 8
          by_last true e = cc
          by_last false e = cc

          by_most : (t : Bool) → nat_le n layout.structures ≡ t → Some (if t then Owned (n - 1) else Pending) ≡ Some (Owned s) → s < 8
          by_most true le e = let is = ap number_of e in let most = within n layout.structures le in omega (arith, is, most, few)
          by_most false le e = cc

          by_zero : (t : Bool) → Some (if t then (if nat_lt k layout.structures then Pending else Free) else (if nat_le n layout.structures then Owned (n - 1) else Pending)) ≡ Some (Owned s) → s < 8
          by_zero true e = by_last (nat_lt k layout.structures) e
          by_zero false e = by_most (nat_le n layout.structures) refl e
