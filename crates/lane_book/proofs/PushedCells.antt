-- Cells put at the end of a list one by one: what is there and what is left are the whole.
use Rattle.std.proofs.Common.{◌≡◌, ℕ, suc, ◌+◌, ◌<◌, ◌≤◌, List, [], ◌∷◌, ◌++◌, length, drop, get_or, sym, ◌∙◌, ap, subst, arith, add-one, append-nil}
use Rattle.std.proofs.Math.Seq.{drop-cons}
use Rattle.std.proofs.Math.ListN.{length-append}
use Rattle.lane_book.specs.Lanes.{has_room}
use Rattle.lane_book.specs.Stocked.{Stocked, with_items}
use Rattle.lane_book.proofs.Pushing.{one_first}
use Rattle.lane_book.proofs.Strange.{drop_past}

pub record ArePut {T : Type 0} (first stock : Stocked T) (cells : List T) (i : ℕ) : Type 0 where
  pub whole : with_items (stock.items ++ drop i cells) stock ≡ with_items (first.items ++ cells) first
  pub room : has_room (length (drop i cells)) stock

pub put_fits : {T : Type 0} (first stock : Stocked T) (cells : List T) (i : ℕ) (d : T) → ArePut first stock cells i → i < length cells → length stock.items < stock.capacity
put_fits first stock cells i d put lt =
    let room = subst (λ (xs : List _). has_room (length xs) stock) (drop-cons cells i d lt) put.room in omega (arith, room)

pub put_next : {T : Type 0} (first stock later : Stocked T) (cells : List T) (i : ℕ) (d : T) → ArePut first stock cells i → i < length cells →
    later ≡ with_items (stock.items ++ get_or cells i d ∷ []) stock → ArePut first later cells (i + 1)
put_next first stock later cells i d put lt is =
    subst (λ (s : Stocked _). ArePut first s cells (i + 1)) (sym is)
    (subst (ArePut first (with_items (stock.items ++ get_or cells i d ∷ []) stock) cells) (sym (add-one i)) record {
      whole = ap (λ (xs : List _). with_items xs stock) (sym (one_first stock.items (drop (suc i) cells) (get_or cells i d))) ∙
          ap (λ (xs : List _). with_items (stock.items ++ xs) stock) (sym (drop-cons cells i d lt)) ∙ put.whole;
      room =
          let room = subst (λ (xs : List _). has_room (length xs) stock) (drop-cons cells i d lt) put.room in
          let long = length-append stock.items (get_or cells i d ∷ []) in
          omega (arith, room, long);
    })

pub put_end : {T : Type 0} (first stock : Stocked T) (cells : List T) (i : ℕ) → ArePut first stock cells i → length cells ≤ i → stock ≡ with_items (first.items ++ cells) first
put_end first stock cells i put le =
    ap (λ (xs : List _). with_items xs stock) (sym (append-nil stock.items)) ∙
    ap (λ (xs : List _). with_items (stock.items ++ xs) stock) (sym (drop_past i cells le)) ∙ put.whole
