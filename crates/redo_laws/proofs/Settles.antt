-- The last event of an append, by the kind of its record, where there is no checkpoint.
use Rattle.std.proofs.Common.{◌≡◌, inl, inr, ℕ, ◌<◌, true, false, List, [], ◌∷◌, ◌++◌, length, map, refl, sym, ap, ◌∙◌, subst, arith}
use Rattle.std.proofs.lemmas.List.{take_all}
use Rattle.persist_model.specs.declared.event.Event.{Event}
use Rattle.persist_model.specs.Region.{Words, Region, newest}
use Rattle.persist_model.specs.Kinds.{COMMITTED, END}
use Rattle.persist_model.specs.Progress.{Write, latest}
use Rattle.persist_model.specs.Records.{Record, Log, IsAmong, HasNo, IsOf}
use Rattle.persist_model.specs.Standing.{IsToDelete, Stands}
use Rattle.persist_model.specs.Shape.{Shape, part_of, heap, heap_words, IsHeapWord}
use Rattle.persist_model.specs.State.{State, IsSoundState}
use Rattle.persist_model.proofs.Candidates.{IsCandidate_newest}
use Rattle.region_layout.specs.declared.cell.Cell.{Cell}
use Rattle.bucket_log.specs.declared.append.Place.{Place}
use Rattle.bucket_log.specs.Appends.{chain_behind}
use Rattle.plan_records.specs.Cells.{IsCellOf}
use Rattle.plan_records.specs.Passing.{inserted}
use Rattle.plan_records.specs.Appends.{Keeps, Commits, with_record}
use Rattle.plan_records.specs.Courses.{own_records}
use Rattle.plan_records.proofs.Passing.{inserted_in}
use Rattle.log_keeper.specs.Parts.{appends as adds}
use Rattle.log_keeper.specs.Logged.{with_chain}
use Rattle.log_keeper.specs.Events.{IsLastEvent, region_made}
use Rattle.history_laws.specs.Histories.{Entry, fold}
use Rattle.history_laws.specs.UnderWay.{Added, an_update, a_deletion, a_rollback, a_compensation, an_undone_end, a_commit_end, Adding, record_of_adding, appends}
use Rattle.history_laws.proofs.AppendsBeside.{Leaves}
use Rattle.history_laws.proofs.Conditions.{added_plain}
use Rattle.history_laws.proofs.Folding.{value_append}
use Rattle.history_laws.proofs.Growing.{stands_grown}
use Rattle.txn_laws.specs.Txns.{Txn, txn_at, written, zero_of, entry_of}
use Rattle.txn_laws.specs.Owners.{IsMine}
use Rattle.txn_laws.specs.AreTransactions.{IsGoing, IsTransaction}
use Rattle.txn_laws.specs.NextRecords.{IsAppendOf}
use Rattle.txn_laws.specs.Worlds.{World}
use Rattle.redo_laws.proofs.Plain.{IsPlainAt}
use Rattle.txn_laws.specs.Settled.{txn_behind, settled_with, world_behind, base_behind, state_behind}
use Rattle.txn_laws.proofs.Written.{latest-append, latest_elsewhere, among_zeros}
use Rattle.txn_laws.proofs.Records.{entry_leaves, entry_is}
use Rattle.txn_laws.proofs.SameRecords.{transaction_same}
use Rattle.txn_laws.proofs.Gaining.{updated_told, undone_told, rolled_told, given_told, ended_told}
use Rattle.redo_laws.proofs.Settling.{mixed, fits, told, own_is, above, stands_in, leaves_there, sound_there, before_there, back_there, settled_there}

module _ (shape : Shape) (base : Words) (s : State) (chains : ℕ → List ℕ) (start_heap : Words) (w : World) (region : Region) (p : ℕ) (e : Event) (adding : Adding) (made : ℕ)
    (is : w.under p ≡ appends adding made) (lane_in : w.keeping.holder p < length w.lanes) (last : IsLastEvent shape w.keeping p e (adds adding.place (record_of_adding adding)))
    (world : IsPlainAt shape base s chains start_heap w region) where
  abbrev h : Words
  h = fold start_heap w.history

  abbrev l : ℕ
  l = w.keeping.holder p

  abbrev x : Txn
  x = txn_at w.lanes (w.keeping.holder p)

  abbrev r : Record
  r = record_of_adding adding

  abbrev grown : Log
  grown = inserted (record_of_adding adding) s.log

  fits_it : IsAppendOf shape s h p x adding made
  fits_it = fits shape base s chains start_heap w region p e adding made is lane_in last world

  told_it : IsTransaction shape s.log h x
  told_it = told shape base s chains start_heap w region p e adding made is lane_in last world

  there : part_of shape r.at ≡ x.part
  there = stands_in shape base s chains start_heap w region p e adding made is lane_in last world ∙ sym fits_it.here

  above_it : (q : Record) → IsAmong s.log q → IsOf x.number q → q.lsn < r.lsn
  above_it = above shape base s chains start_heap w region p e adding made is lane_in last world

  -- the first word of the heap
  first_word : IsHeapWord shape (heap shape)
  first_word = let some = world.log.logged.allowed.blocks.0 in (omega arith, omega (arith, some))

  sound_it : IsSoundState shape (state_behind shape p adding base s)
  sound_it = sound_there shape base s chains start_heap w region p e adding made is lane_in last world (heap shape) (newest (region.at (heap shape))) first_word
      (IsCandidate_newest (region.at (heap shape)) (world.heap.full (heap shape) first_word))

  -- a record that leaves the history, and the words, as they are
  module _ (y : Txn) (words_is : y.words ≡ x.words) (number_is : y.number ≡ x.number) (told_y : IsTransaction shape (r ∷ s.log) h y)
      (keeps : (v : Words) → Leaves shape v s (with_record p s r) adding.added → Keeps shape v s (with_record p s r)) (value_y : (a : ℕ) → IsMine x a → latest (written x) a (h a) ≡ latest (written y) a (h a)) where
    pub settled_plain : IsPlainAt shape (base_behind shape p adding base) (state_behind shape p adding base s) (with_chain p (chain_behind adding.place (chains p)) chains) start_heap
        (settled_with shape p y w.history w) (region_made w.keeping p e region)
    settled_plain = settled_there shape base s chains start_heap w region p e adding made is lane_in last world y w.history words_is number_is sound_it
        (transaction_same shape (r ∷ s.log) grown h y (subst (λ n. own_records n grown ≡ own_records n (r ∷ s.log)) (sym number_is)
        (own_is shape base s chains start_heap w region p e adding made is lane_in last world)) told_y)
        (λ k ne a m. refl) (λ a none. refl) (λ a m none. value_y a m)
        (λ a u m may_be. back_there shape base s chains start_heap w region p e adding made is lane_in last world a u m may_be grown (h a)
        ((keeps (mixed shape (base_behind shape p adding base) region a u) (leaves_there shape base s chains start_heap w region p e adding made is lane_in last world a u m may_be)).standing a (h a)
        (before_there shape base s chains start_heap w region p e adding made is lane_in last world a u m may_be)))

  -- a commit's end, with which the entry joins
  module _ (all : length x.updates ≡ length x.writes) (commits_is : x.commits ≡ true) (stored_is : x.stored ≡ length x.updates) (outcome : r.outcome ≡ COMMITTED)
      (end : r.kind ≡ END) (commits : (v : Words) → Leaves shape v s (with_record p s r) adding.added → Commits shape v s x.number (with_record p s r)) where
    abbrev joined : List Entry
    joined = w.history ++ entry_of x ∷ []

    abbrev y : Txn
    y = record x { over = true }

    going_it : IsGoing s.log h x
    going_it = told_it.going fits_it.runs

    heap_is : (a : ℕ) → fold start_heap joined a ≡ latest (x.writes ++ map zero_of x.gifts) a (h a)
    heap_is a = value_append w.history (entry_of x ∷ []) a (start_heap a)

    leaves_others : (a : ℕ) → (IsMine x a → ⊥) → fold start_heap joined a ≡ h a
    leaves_others a off = heap_is a ∙ entry_leaves shape s.log h x a told_it going_it off (h a)

    written_is : written x ≡ x.writes
    written_is = written_all x fits_it.runs (stored_is ∙ all)
      where
        written_all : (z : Txn) → z.over ≡ false → z.stored ≡ length z.writes → written z ≡ z.writes
        written_all z runs n = rw runs (take_all z.stored z.writes (omega (arith, n)))

    -- a gift's word is deleted
    ungiven : (a : ℕ) → HasNo (IsToDelete grown a) grown → (u : ℕ) → latest (map zero_of x.gifts) a u ≡ u
    ungiven a none u = latest_elsewhere (map zero_of x.gifts) a u (λ v m on. (
        let g = among_zeros x.gifts v m in
        let d = told_it.given g.0 g.1 in
        none d.0 (inserted_in r s.log d.0 (inr d.1)) (
          d.2.0.0,
          d.2.0.1 ∙ sym (ap (λ (z : Write). z.address) g.2) ∙ on,
          (r, inserted_in r s.log r (inl refl), ((end, fits_it.of ∙ sym d.2.0.2), outcome)),
        )))

    pub settled_commit : IsPlainAt shape (base_behind shape p adding base) (state_behind shape p adding base s) (with_chain p (chain_behind adding.place (chains p)) chains) start_heap
        (settled_with shape p y joined w) (region_made w.keeping p e region)
    settled_commit = settled_there shape base s chains start_heap w region p e adding made is lane_in last world y joined refl refl sound_it
        (transaction_same shape (r ∷ s.log) grown (fold start_heap joined) y (own_is shape base s chains start_heap w region p e adding made is lane_in last world)
        (ended_told shape s.log h x r told_it fits_it.runs fits_it.of (added_plain adding) there above_it fits_it.own (λ k. omega (arith, k, end)) (λ k. omega (arith, k, end)) (fold start_heap joined) end
        (λ on. outcome) (λ on. commits_is)))
        (λ k ne a m. leaves_others a (λ mine. ne (world.owners.apart k l a m mine)))
        (λ a none. leaves_others a (none l))
        (λ a m none. ap (λ ws. latest ws a (h a)) written_is ∙ sym (ungiven a none (latest x.writes a (h a))) ∙ sym (latest-append x.writes (map zero_of x.gifts) a (h a)) ∙ sym (heap_is a))
        (λ a u m may_be. back_there shape base s chains start_heap w region p e adding made is lane_in last world a u m may_be grown (fold start_heap joined a)
        (subst (λ k. Stands shape.policy grown (heap_words shape (mixed shape (base_behind shape p adding base) region a u)) a k) (sym (heap_is a))
        (stands_grown shape (mixed shape (base_behind shape p adding base) region a u) s (with_record p s r) x.number
        (commits (mixed shape (base_behind shape p adding base) region a u) (leaves_there shape base s chains start_heap w region p e adding made is lane_in last world a u m may_be))
        h (entry_of x) (entry_is shape s.log h x told_it going_it all) a
        (before_there shape base s chains start_heap w region p e adding made is lane_in last world a u m may_be))))

module _ (shape : Shape) (base : Words) (s : State) (chains : ℕ → List ℕ) (start_heap : Words) (w : World) (region : Region) (p : ℕ) (e : Event) (made : ℕ)
    (lane_in : w.keeping.holder p < length w.lanes) (world : IsPlainAt shape base s chains start_heap w region) where
  abbrev holder_txn : Txn
  holder_txn = txn_at w.lanes (w.keeping.holder p)

  abbrev adding_of : Place → ℕ → Added → Adding
  adding_of place number added = record { place = place; number = number; added = added }

  same_fields : (cell : Cell) (u : Record) → IsCellOf cell u → (cell.word ≡ u.word) × (cell.before ≡ u.before)
  same_fields cell u k = (ap (λ (q : Record). q.word) k, ap (λ (q : Record). q.before) k)

  by_kind : (place : Place) (number : ℕ) (added : Added) → w.under p ≡ appends (adding_of place number added) made → IsLastEvent shape w.keeping p e (adds place (record_of_adding (adding_of place number added))) →
      IsPlainAt shape (base_behind shape p (adding_of place number added) base) (state_behind shape p (adding_of place number added) base s) (with_chain p (chain_behind place (chains p)) chains) start_heap
      (world_behind shape p (adding_of place number added) w) (region_made w.keeping p e region)
  by_kind place number (an_update u) is last =
      let adding = adding_of place number (an_update u) in
      let f = fits_it shape base s chains start_heap w region p e adding made is lane_in last world in
      let t = told_it shape base s chains start_heap w region p e adding made is lane_in last world in
      settled_plain shape base s chains start_heap w region p e adding made is lane_in last world (txn_behind (an_update u) (record_of_adding adding) holder_txn) refl refl
      (updated_told shape s.log (fold start_heap w.history) holder_txn (record_of_adding adding) t f.runs f.of (added_plain adding)
      (there shape base s chains start_heap w region p e adding made is lane_in last world) (above_it shape base s chains start_heap w region p e adding made is lane_in last world) f.own refl f.next.of_write)
      (λ v k. k) (λ a m. refl)
  by_kind place number (a_deletion g) is last =
      let adding = adding_of place number (a_deletion g) in
      let f = fits_it shape base s chains start_heap w region p e adding made is lane_in last world in
      let t = told_it shape base s chains start_heap w region p e adding made is lane_in last world in
      settled_plain shape base s chains start_heap w region p e adding made is lane_in last world (txn_behind (a_deletion g) (record_of_adding adding) holder_txn) refl refl
      (given_told shape s.log (fold start_heap w.history) holder_txn (record_of_adding adding) t f.runs f.of (added_plain adding)
      (there shape base s chains start_heap w region p e adding made is lane_in last world) (above_it shape base s chains start_heap w region p e adding made is lane_in last world) f.own
      (λ k. omega (arith, k)) (λ k. omega (arith, k)) refl)
      (λ v k. k) (λ a m. refl)
  by_kind place number (a_rollback n) is last =
      let adding = adding_of place number (a_rollback n) in
      let f = fits_it shape base s chains start_heap w region p e adding made is lane_in last world in
      let t = told_it shape base s chains start_heap w region p e adding made is lane_in last world in
      settled_plain shape base s chains start_heap w region p e adding made is lane_in last world (txn_behind (a_rollback n) (record_of_adding adding) holder_txn) refl refl
      (rolled_told shape s.log (fold start_heap w.history) holder_txn (record_of_adding adding) t f.runs f.of (added_plain adding)
      (there shape base s chains start_heap w region p e adding made is lane_in last world) (above_it shape base s chains start_heap w region p e adding made is lane_in last world) f.own
      (λ k. omega (arith, k)) (λ k. omega (arith, k)) refl (λ k. omega (arith, k)) (λ k. omega (arith, k)))
      (λ v k. k) (λ a m. refl)
  by_kind place number (a_compensation u cell) is last =
      let adding = adding_of place number (a_compensation u cell) in
      let f = fits_it shape base s chains start_heap w region p e adding made is lane_in last world in
      let t = told_it shape base s chains start_heap w region p e adding made is lane_in last world in
      let k = same_fields cell u f.next.0 in
      settled_plain shape base s chains start_heap w region p e adding made is lane_in last world (txn_behind (a_compensation u cell) (record_of_adding adding) holder_txn) refl refl
      (undone_told shape s.log (fold start_heap w.history) holder_txn (record_of_adding adding) t f.runs f.of (added_plain adding)
      (there shape base s chains start_heap w region p e adding made is lane_in last world) (above_it shape base s chains start_heap w region p e adding made is lane_in last world) f.own
      refl u f.next.1.others f.next.1.newest_is k.0 k.1)
      (λ v k. k) (λ a m. refl)
  by_kind place number (an_undone_end n) is last =
      let adding = adding_of place number (an_undone_end n) in
      let f = fits_it shape base s chains start_heap w region p e adding made is lane_in last world in
      let t = told_it shape base s chains start_heap w region p e adding made is lane_in last world in
      settled_plain shape base s chains start_heap w region p e adding made is lane_in last world (txn_behind (an_undone_end n) (record_of_adding adding) holder_txn) refl refl
      (ended_told shape s.log (fold start_heap w.history) holder_txn (record_of_adding adding) t f.runs f.of (added_plain adding)
      (there shape base s chains start_heap w region p e adding made is lane_in last world) (above_it shape base s chains start_heap w region p e adding made is lane_in last world) f.own
      (λ k. omega (arith, k)) (λ k. omega (arith, k)) (fold start_heap w.history) refl (λ on. (let off = sym f.next.1.commits_is ∙ on in cc)) (λ on. absurd (omega (arith, on))))
      (λ v k. k) (λ a m. ap (λ ws. latest ws a (fold start_heap w.history a)) (none_written holder_txn f.runs (f.next.1.stored_is ∙ ap length f.next.0)))
    where
      none_written : (z : Txn) → z.over ≡ false → z.stored ≡ 0 → written z ≡ []
      none_written z runs n = rw (runs, n) refl
  by_kind place number (a_commit_end n) is last =
      let adding = adding_of place number (a_commit_end n) in
      let f = fits_it shape base s chains start_heap w region p e adding made is lane_in last world in
      settled_commit shape base s chains start_heap w region p e adding made is lane_in last world f.next.0 f.next.1.commits_is f.next.1.stored_is refl refl
      (λ v k. subst (λ m. Commits shape v s m (with_record p s (record_of_adding adding))) f.of k)

pub plain_settles : (shape : Shape) (base : Words) (s : State) (chains : ℕ → List ℕ) (start_heap : Words) (w : World) (region : Region) (p : ℕ) (e : Event) (adding : Adding) (made : ℕ) →
    w.under p ≡ appends adding made → w.keeping.holder p < length w.lanes → IsLastEvent shape w.keeping p e (adds adding.place (record_of_adding adding)) → IsPlainAt shape base s chains start_heap w region →
    IsPlainAt shape (base_behind shape p adding base) (state_behind shape p adding base s) (with_chain p (chain_behind adding.place (chains p)) chains) start_heap
    (world_behind shape p adding w) (region_made w.keeping p e region)
plain_settles shape base s chains start_heap w region p e adding made is lane_in last world =
    by_kind shape base s chains start_heap w region p e made lane_in world adding.place adding.number adding.added is last
