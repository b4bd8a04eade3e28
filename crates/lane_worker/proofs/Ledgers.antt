-- One transaction more has ended.
use Rattle.std.proofs.Common.{◌≡◌, ℕ, suc, ◌+◌, ◌<◌, List, [], ◌∷◌, ◌++◌, length, map, drop, Option, Some, refl, sym, subst, ◌∙◌, ap, arith, length-append}
use Rattle.std.specs.List.{slice_get}
use Rattle.std.proofs.lemmas.List.{append_assoc, append-nil, map-append}
use Rattle.std.proofs.lemmas.List.Elements.{All-append, All-cons, All-nil}
use Rattle.std.proofs.lemmas.List.Sums.{sum_by-cons}
use Rattle.lane_types.specs.declared.face.Entry.{Entry}
use Rattle.rewind_script.specs.declared.script.Item.{Item}
use Rattle.rewind_script.specs.declared.script.Item.TheVariants as item
use Rattle.rewind_script.specs.declared.report.Fate.{Fate}
use Rattle.rewind_script.specs.declared.report.How.{How}
use Rattle.rewind_script.specs.Limits.{count_transactions, is_one}
use Rattle.map_deeds.specs.Printed.{Transaction, transactions}
use Rattle.map_deeds.specs.declared.deed.MapDeed.{MapDeed}
use Rattle.lane_worker.specs.Ledger.{Ending, transaction_in, MayEnd, IsEnding, fate_in, fates_of, commit_in, commits_of, AreEntriesFor, IsLedger}
use Rattle.lane_worker.specs.Stages.{item_of}
use Rattle.lane_worker.proofs.Lists.{drop_here}

fates_more : (lane n : ℕ) (ends : List Ending) (e : Ending) → fates_of lane n (ends ++ e ∷ []) ≡ fates_of lane n ends ++ fate_in lane (n + length ends) e.fate
fates_more lane n [] e = append-nil (fate_in lane n e.fate) ∙ ap (λ k. fate_in lane k e.fate) (omega arith)
fates_more lane n (d ∷ ends) e =
    ap (λ xs. fate_in lane n d.fate ++ xs) (fates_more lane (n + 1) ends e)
    ∙ sym (append_assoc (fate_in lane n d.fate) (fates_of lane (n + 1) ends) (fate_in lane (n + 1 + length ends) e.fate))
    ∙ ap (λ k. (fate_in lane n d.fate ++ fates_of lane (n + 1) ends) ++ fate_in lane k e.fate) (omega arith)

commits_more : (n : ℕ) (ends : List Ending) (e : Ending) → commits_of n (ends ++ e ∷ []) ≡ commits_of n ends ++ commit_in (n + length ends) e.transaction e.fate
commits_more n [] e = append-nil (commit_in n e.transaction e.fate) ∙ ap (λ k. commit_in k e.transaction e.fate) (omega arith)
commits_more n (d ∷ ends) e =
    ap (λ xs. commit_in n d.transaction d.fate ++ xs) (commits_more (n + 1) ends e)
    ∙ sym (append_assoc (commit_in n d.transaction d.fate) (commits_of (n + 1) ends) (commit_in (n + 1 + length ends) e.transaction e.fate))
    ∙ ap (λ k. (commit_in n d.transaction d.fate ++ commits_of (n + 1) ends) ++ commit_in k e.transaction e.fate) (omega arith)

entries_more : (lane : ℕ) (cs ds : List (ℕ × Transaction)) (es fs : List (Entry MapDeed)) → AreEntriesFor lane cs es → AreEntriesFor lane ds fs → AreEntriesFor lane (cs ++ ds) (es ++ fs)
entries_more lane [] ds [] fs h k = k
entries_more lane [] ds (e ∷ es) fs h k = absurd h
entries_more lane (c ∷ cs) ds [] fs h k = absurd h
entries_more lane (c ∷ cs) ds (e ∷ es) fs h k = (h.0, entries_more lane cs ds es fs h.1 k)

-- the text from a transaction on
pub items_here : (items : List Item) (at : ℕ) (t : Transaction) → slice_get items at ≡ Some (item_of t) → transactions (drop at items) ≡ t ∷ transactions (drop (at + 1) items)
items_here items at t e = ap transactions (drop_here items at (item_of t) e)

pub checkpoint_here : (items : List Item) (at : ℕ) → slice_get items at ≡ Some item.Checkpoint → transactions (drop at items) ≡ transactions (drop (at + 1) items)
checkpoint_here items at e = ap transactions (drop_here items at item.Checkpoint e)

pub count_here : (items : List Item) (at : ℕ) (t : Transaction) → slice_get items at ≡ Some (item_of t) → count_transactions (drop at items) ≡ 1 + count_transactions (drop (at + 1) items)
count_here items at t e = ap count_transactions (drop_here items at (item_of t) e) ∙ sum_by-cons is_one (item_of t) (drop (at + 1) items)

pub count_checkpoint : (items : List Item) (at : ℕ) → slice_get items at ≡ Some item.Checkpoint → count_transactions (drop at items) ≡ count_transactions (drop (at + 1) items)
count_checkpoint items at e = ap count_transactions (drop_here items at item.Checkpoint e) ∙ sum_by-cons is_one item.Checkpoint (drop (at + 1) items) ∙ omega arith

pub count_is : (items : List Item) → length (transactions items) ≡ count_transactions items
count_is [] = refl
count_is (item.Transaction set commands commit ∷ items) = let again = count_is items in let more = sum_by-cons is_one (item.Transaction set commands commit) items in omega (arith, again, more)
count_is (item.Checkpoint ∷ items) = let again = count_is items in let more = sum_by-cons is_one item.Checkpoint items in omega (arith, again, more)

-- a transaction's number is below their number
pub number_below : (items : List Item) (at lane number : ℕ) (fates : List Fate) (mine : List (Entry MapDeed)) (t : Transaction)
    → IsLedger items at lane number fates mine → slice_get items at ≡ Some (item_of t) → number < count_transactions items
number_below items at lane number fates mine t h e =
    let whole = count_is items in
    let parts = ap length h.split ∙ length-append (map transaction_in h.ends) (transactions (drop at items)) in
    let some = ap length (items_here items at t e) in
    let mapped = length_map h.ends in
    let count = h.count in
    omega (arith, whole, parts, some, mapped, count)
  where
    length_map : (ends : List Ending) → length (map transaction_in ends) ≡ length ends
    length_map [] = refl
    length_map (d ∷ ends) = ap suc (length_map ends)

abbrev ending : Transaction → Option How → Ending
ending t fate = record { transaction = t; fate = fate }

pub ledger_more : (items : List Item) (at lane number : ℕ) (fates : List Fate) (mine extra : List (Entry MapDeed)) (t : Transaction) (fate : Option How)
    → IsLedger items at lane number fates mine → slice_get items at ≡ Some (item_of t) → MayEnd t fate → AreEntriesFor lane (commit_in number t fate) extra
    → IsLedger items (at + 1) lane (number + 1) (fates ++ fate_in lane number fate) (mine ++ extra)
ledger_more items at lane number fates mine extra t fate h e may entry = record {
  ends = h.ends ++ ending t fate ∷ [];
  count = length-append h.ends (ending t fate ∷ []) ∙ ap (λ k. k + 1) h.count;
  allowed = All-append IsEnding h.ends (ending t fate ∷ []) h.allowed (All-cons IsEnding (ending t fate) [] may (All-nil IsEnding));
  split = h.split ∙ ap (λ xs. map transaction_in h.ends ++ xs) (items_here items at t e)
      ∙ sym (append_assoc (map transaction_in h.ends) (t ∷ []) (transactions (drop (at + 1) items)))
      ∙ ap (λ xs. xs ++ transactions (drop (at + 1) items)) (sym (map-append transaction_in h.ends (ending t fate ∷ [])));
  fates_are = ap (λ xs. xs ++ fate_in lane number fate) h.fates_are ∙ ap (λ k. fates_of lane 0 h.ends ++ fate_in lane k fate) (sym number_is) ∙ sym (fates_more lane 0 h.ends (ending t fate));
  mine_are = subst (λ cs. AreEntriesFor lane cs (mine ++ extra)) (sym (commits_more 0 h.ends (ending t fate)))
      (entries_more lane (commits_of 0 h.ends) (commit_in (0 + length h.ends) t fate) mine extra h.mine_are
      (subst (λ k. AreEntriesFor lane (commit_in k t fate) extra) (sym number_is) entry));
}
  where
    number_is : 0 + length h.ends ≡ number
    number_is = let count = h.count in omega (arith, count)

pub ledger_checkpoint : (items : List Item) (at lane number : ℕ) (fates : List Fate) (mine : List (Entry MapDeed)) → IsLedger items at lane number fates mine
    → slice_get items at ≡ Some item.Checkpoint → IsLedger items (at + 1) lane number fates mine
ledger_checkpoint items at lane number fates mine h e = record {
  ends = h.ends;
  count = h.count;
  allowed = h.allowed;
  split = h.split ∙ ap (λ xs. map transaction_in h.ends ++ xs) (checkpoint_here items at e);
  fates_are = h.fates_are;
  mine_are = h.mine_are;
}
