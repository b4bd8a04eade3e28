-- The last event of a group of a closing.
use Rattle.std.proofs.Common.{◌≡◌, ◌≢◌, inl, inr, ℕ, ◌<◌, ◌≤◌, ◌==◌, Bool, true, false, if◌then◌else◌, List, [], length, take, refl, sym, ap, ◌∙◌, subst, arith}
use Rattle.std.proofs.lemmas.Bool.Decides.{eqb_tells}
use Rattle.std.proofs.lemmas.List.{take_all}
use Rattle.persist_model.specs.declared.event.Event.{Event}
use Rattle.persist_model.specs.Region.{Words, Region, IsCandidate, newest}
use Rattle.persist_model.specs.Progress.{latest}
use Rattle.persist_model.specs.Records.{Record, Log, IsAmong, Has, HasNo, IsOf, IsDeletion, IsEnded, IsCommitted}
use Rattle.persist_model.specs.Standing.{IsToDelete, Stands}
use Rattle.persist_model.specs.Order.{Bars}
use Rattle.persist_model.specs.Need.{need_in}
use Rattle.persist_model.specs.Shape.{Shape, part_of, heap_words, IsHeapWord}
use Rattle.persist_model.specs.State.{State, IsSoundState}
use Rattle.persist_model.proofs.Candidates.{IsCandidate_newest}
use Rattle.log_laws.specs.Closing.{MayClear}
use Rattle.log_laws.specs.Recovery.{HasDecidingRecord}
use Rattle.log_laws.proofs.Closings.{stands_closed}
use Rattle.log_clearing.specs.Closed.{IsListed}
use Rattle.plan_records.proofs.Changes.{heap_word_is}
use Rattle.plan_records.specs.Courses.{own_records}
use Rattle.log_keeper.specs.Parts.{closes as shuts, words_behind, waits_for, CanRun, Running}
use Rattle.log_keeper.specs.Ledger.{left_open}
use Rattle.log_keeper.specs.Laws.{HasClosed}
use Rattle.log_keeper.specs.Making.{made_part}
use Rattle.log_keeper.specs.Newest.{AreOver}
use Rattle.log_keeper.specs.Events.{IsLastEvent, region_made}
use Rattle.log_keeper.proofs.Made.{groups_are_made}
use Rattle.log_keeper.proofs.Sounding.{groups_stay_sound}
use Rattle.log_keeper.proofs.LeftNeeds.{closings_need}
use Rattle.history_laws.specs.Histories.{fold}
use Rattle.history_laws.specs.UnderWay.{nothing, closes}
use Rattle.txn_laws.specs.Txns.{Txn, txn_at, with_txn, written}
use Rattle.txn_laws.specs.Owners.{IsMine, IsNobodys, AreOwners}
use Rattle.txn_laws.specs.Heaps.{IsHeapOf, IsKept}
use Rattle.txn_laws.specs.AreTransactions.{IsTransaction, AreTransactions}
use Rattle.txn_laws.specs.PartsOf.{IsClosingOf, Fits, IsPartIn}
use Rattle.txn_laws.specs.Going.{with_under}
use Rattle.txn_laws.specs.Worlds.{World, IsWorldAt}
use Rattle.txn_laws.specs.Closings.{HasLeft, with_words, world_closed, GroupsEnd}
use Rattle.txn_laws.proofs.Finding.{kept_is, stands_word}
use Rattle.txn_laws.proofs.Records.{bars_own}
use Rattle.txn_laws.proofs.Beginning.{stands_itself}
use Rattle.txn_laws.proofs.Lanes.{with_other, by_lane, IsFound, found_of, now_found, owners_changed, numbers_same, numbers_changed, known_same}
use Rattle.txn_laws.proofs.Storing.{among_taken}
use Rattle.txn_laws.proofs.LogEvents.{IsLogEvent, LeavesHeap, next_is_log, leaves_heap, kept_beside}
use Rattle.txn_laws.proofs.LeftOpen.{left_back, left_stays, is_closing}
use Rattle.txn_laws.proofs.ClosedTxns.{left_is_end, no_bars, closed_txn, other_own, other_txn, group_clears}
use Rattle.txn_laws.proofs.PartEnds.{log_settled, parts_settled}
use Rattle.txn_laws.proofs.StayFit.{KeepsFor, some_lane, others_fit}

-- the words with another value in a
abbrev exchanged : (ℕ → ℕ) → ℕ → ℕ → ℕ → ℕ
exchanged ws a v b = if b == a then v else ws b

exchanged_here : (ws : Words) (a v : ℕ) → v ≡ exchanged ws a v a
exchanged_here ws a v = elim (eqb_tells a a) [ inl e ↦ (rw e.0 refl) | inr ne ↦ absurd (ne.1 refl) ]

le_of : (n m : ℕ) → n ≡ m → n ≤ m
le_of n m e = omega (arith, e)

module _ (shape : Shape) (base : Words) (s : State) (chains : ℕ → List ℕ) (start : Words) (w : World) (region : Region) (p : ℕ) (e : Event) (gates ends : List ℕ) (made : ℕ) (words : ℕ → Bool)
    (under_is : w.under p ≡ closes gates ends made) (last : IsLastEvent shape w.keeping p e (shuts gates ends []))
    (sub : (a : ℕ) → words a ≡ true → (txn_at w.lanes (w.keeping.holder p)).words a ≡ true) (world : IsWorldAt shape base s chains start w region) where
  abbrev h : Words
  h = fold start w.history

  abbrev l : ℕ
  l = w.keeping.holder p

  abbrev x : Txn
  x = txn_at w.lanes (w.keeping.holder p)

  abbrev y : Txn
  y = with_words words (txn_at w.lanes (w.keeping.holder p))

  abbrev lanes : List Txn
  lanes = with_txn (w.keeping.holder p) (with_words words (txn_at w.lanes (w.keeping.holder p))) w.lanes

  abbrev log : Log
  log = left_open gates ends [] s.log

  abbrev later : Region
  later = region_made w.keeping p e region

  inside : p < shape.partitions
  inside = last.event.inside

  fits : IsClosingOf s.log p x gates ends
  fits = subst (λ u. Fits shape s h p x u) under_is (world.parts p inside).fits

  can : CanRun shape p base s (chains p) (shuts gates ends [])
  can = subst (CanRun shape p base s (chains p)) last.under_way (world.log.logged.can p inside)

  lane : l < length w.lanes
  lane = some_lane l w.lanes fits.number

  told : IsTransaction shape s.log h x
  told = world.transactions.each l

  on_log : IsLogEvent shape e
  on_log = next_is_log shape base s chains w.keeping region p e last.event world.log.logged

  leaves : LeavesHeap shape region later
  leaves = leaves_heap shape region l e on_log

  closed : HasClosed shape (words_behind shape p (shuts gates ends []) base) s chains (made_part shape p w.keeping) later log
  closed = groups_are_made shape base s chains w.keeping region p e gates ends [] last world.log.logged

  -- ---- what it gave is 0

  gift_of : (r : Record) → IsAmong s.log r → IsListed gates ends [] r → IsDeletion r → IsCommitted s.log r.transaction → (newest (region.at r.word) ≡ 0) × IsMine x r.word
  gift_of r m on six committed =
      let of = (fits.own r m on).0 in
      let g = told.deletions r.word r m (six, refl, of) in
      let all = fits.zeroed_all ((told.ended fits.is_over).commits_is (subst (IsCommitted s.log) of committed)) in (
        sym (ap (λ a. newest (region.at a)) g.2) ∙ world.heap.found l g.0 fits.is_over (subst (λ gs. IsAmong gs g.0) (sym (take_all x.zeroed x.gifts (omega (arith, all)))) g.1),
        subst (IsMine x) g.2 (told.gifts_own g.0 g.1),
      )

  has_end : Has (IsOf x.number) s.log → IsEnded s.log x.number
  has_end some = (told.ended fits.is_over).has_end some

  clears : (ws : Words) → ((r : Record) → IsAmong s.log r → IsListed gates ends [] r → IsDeletion r → IsCommitted s.log r.transaction → ws r.word ≡ 0) → MayClear shape.policy s.log ws (IsListed gates ends [])
  clears ws all_zero = group_clears shape.policy s.log ws p x gates ends world.force fits has_end all_zero

  abbrev found : Words
  found = λ b. newest (region.at b)

  sound : IsSoundState shape closed.state
  sound = groups_stay_sound shape p base found s closed.state gates ends [] world.log.logged.allowed.partitions.1 world.log.logged.has world.log.sound can.0
      (clears (heap_words shape found) (λ r m on six committed. (let g = gift_of r m on six committed in heap_word_is shape found r.word (world.owners.heap_words l r.word g.1) ∙ g.0))) closed.logged.has

  -- ---- what a stop leaves stands

  exchanged_zero : (a u : ℕ) → IsHeapWord shape a → IsCandidate (later.at a) u → (r : Record) → IsAmong s.log r → IsListed gates ends [] r → IsDeletion r → IsCommitted s.log r.transaction → exchanged found a u r.word ≡ 0
  exchanged_zero a u inner is r m on six committed =
      let g = gift_of r m on six committed in
      elim (eqb_tells r.word a) [
        | inl same ↦ (rw same.0 (kept_is l x region a u (world.kept l) fits.fenced_all (subst (IsMine x) same.1 g.1) (leaves.fewer a u inner is) ∙ ap found (sym same.1) ∙ g.0))
        | inr ne ↦ (rw ne.0 g.0)
      ]

  stands : (a u : ℕ) → IsHeapWord shape a → IsCandidate (later.at a) u → Stands shape.policy log (λ b. u) a (h a)
  stands a u inner is =
      let ws : Words = exchanged found a u in
      stands_word shape.policy log ws (λ b. u) a (h a) (sym (exchanged_here found a u))
      (stands_closed shape.policy s.log ws log (is_closing gates ends [] (part_of shape) shape.policy s.log ws world.log.sound.order (clears ws (exchanged_zero a u inner is))) a (h a)
      (stands_word shape.policy s.log (λ b. u) ws a (h a) (exchanged_here found a u) (world.stands a u inner (leaves.fewer a u inner is))))

  -- ---- the transactions

  other_number : (j : ℕ) → j ≢ l → (txn_at w.lanes j).number ≢ x.number
  other_number j ne same = ne (sym (world.transactions.apart l j fits.number (sym same)))

  each : (j : ℕ) → IsTransaction shape log h (txn_at lanes j)
  each = by_lane (λ j z. IsTransaction shape log h z) l y w.lanes lane (closed_txn shape s.log h (part_of shape) world.log.sound.order p x gates ends can.0 fits words told)
      (λ j ne. other_txn shape s.log h (part_of shape) world.log.sound.order p x gates ends can.0 fits (txn_at w.lanes j) (other_number j ne) (world.transactions.each j))

  back : (r : Record) → IsAmong log r → IsAmong s.log r
  back r m = (left_back gates ends [] s.log r m).0

  transactions : AreTransactions shape log h lanes
  transactions = record {
    each = each;
    known = λ r m. known_same l y w.lanes r lane refl (world.transactions.known r (back r m));
    apart = numbers_changed l y w.lanes lane (numbers_same l y w.lanes refl world.transactions.apart) world.transactions.apart;
  }

  owners : AreOwners shape lanes
  owners = owners_changed shape l y w.lanes lane (λ a m. world.owners.heap_words l a (sub a m)) (λ k a ne m n. ne (world.owners.apart k l a n (sub a m))) world.owners

  -- ---- what a read finds

  -- no record that is left bars others from a word that was its own
  no_bar : (a : ℕ) (r : Record) → IsMine x a → IsAmong log r → r.word ≡ a → Bars log r → ⊥
  no_bar a r mine m word bars =
      let k = world.transactions.known r (back r m) in
      elim (eqb_tells k.0 l) [
        | inl same ↦ ended r m (subst (λ j. IsOf (txn_at w.lanes j).number r) same.1 k.2) bars
        | inr ne ↦ ne.1 (world.owners.apart k.0 l a (subst (IsMine (txn_at w.lanes k.0)) word (named k.0 ne.1 r m k.2 bars)) mine)
      ]
    where
      named : (j : ℕ) → j ≢ l → (r : Record) → IsAmong log r → IsOf (txn_at w.lanes j).number r → Bars log r → IsMine (txn_at w.lanes j) r.word
      named j ne r m of bars = (other_txn shape s.log h (part_of shape) world.log.sound.order p x gates ends can.0 fits (txn_at w.lanes j) (other_number j ne) (world.transactions.each j)).names r m of bars

      ended : (r : Record) → IsAmong log r → IsOf x.number r → Bars log r → ⊥
      ended r m of bars = no_bars shape s.log h (part_of shape) world.log.sound.order p x gates ends can.0 fits r (left_is_end shape s.log h (part_of shape) world.log.sound.order p x gates ends can.0 fits r m of) bars

  undecided : (a : ℕ) → IsMine x a → HasDecidingRecord shape.policy log a → ⊥
  undecided a mine (inl u) = no_bar a u.0 mine u.1 u.2.1 (inl (inl (inl u.2.0), u.2.2))
  undecided a mine (inr (inl d)) = no_bar a d.0 mine d.1 d.2.1 (inr (d.2.0, d.2.2))
  undecided a mine (inr (inr r)) = world.force r.2.0

  own_found : (a : ℕ) → IsMine x a → newest (later.at a) ≡ h a
  own_found a mine =
      let inner = world.owners.heap_words l a mine in
      sym (stands_itself shape.policy log (λ b. newest (later.at a)) a (h a) (undecided a mine)
      (stands a (newest (later.at a)) inner (IsCandidate_newest (later.at a) (leaves.full a inner (world.heap.full a inner)))))

  was : IsFound shape s.log h w.lanes region
  was = found_of shape s.log h w.lanes region world.owners world.heap.now

  -- a record of another is left
  other_left : (j : ℕ) → j ≢ l → (r : Record) → IsAmong s.log r → r.transaction ≡ (txn_at w.lanes j).number → IsAmong log r
  other_left j ne r m of = left_stays gates ends [] s.log r m (λ on. other_number j ne (sym of ∙ (fits.own r m on).0))

  none_before : (j a : ℕ) → j ≢ l → IsMine (txn_at w.lanes j) a → HasNo (IsToDelete log a) log → HasNo (IsToDelete s.log a) s.log
  none_before j a ne mine none d m is =
      let of = bars_own shape s.log h w.lanes world.owners world.transactions j a d mine m is.1 (inr (is.0, is.2)) in
      let c = is.2 in
      none d (other_left j ne d m of.0) (is.0, is.1, (c.0, other_left j ne c.0 c.1 (c.2.0.1 ∙ of.0), c.2))

  none_nobodys : (a : ℕ) → IsNobodys w.lanes a → HasNo (IsToDelete s.log a) s.log
  none_nobodys a nobodys d m is =
      let k = world.transactions.known d m in
      nobodys k.0 (subst (IsMine (txn_at w.lanes k.0)) is.1 ((world.transactions.each k.0).names d m k.2 (inr (is.0, is.2))))

  nobodys_was : (a : ℕ) → (IsMine x a → ⊥) → IsNobodys lanes a → IsNobodys w.lanes a
  nobodys_was a off none j m = elim (eqb_tells j l) [
    | inl same ↦ off (subst (λ i. IsMine (txn_at w.lanes i) a) same.1 m)
    | inr ne ↦ none j (subst (λ z. IsMine z a) (sym (with_other l j y w.lanes ne.1)) m)
  ]

  over_writes : (a : ℕ) → h a ≡ latest (written y) a (h a)
  over_writes a = sym (ap (λ b. latest (if b then [] else take x.stored x.writes) a (h a)) fits.is_over)

  is_found : IsFound shape log h lanes later
  is_found = record {
    own = λ j a. by_lane (λ j z. IsMine z a → HasNo (IsToDelete log a) log → newest (later.at a) ≡ latest (written z) a (h a)) l y w.lanes lane
        (λ m none. own_found a (sub a m) ∙ over_writes a)
        (λ j ne m none. leaves.newest_is a (world.owners.heap_words j a m) ∙ was.own j a m (none_before j a ne m none)) j;
    others = λ a inner nobodys none. by_words a inner nobodys (x.words a) refl;
  }
    where
      by_words : (a : ℕ) → IsHeapWord shape a → IsNobodys lanes a → (b : Bool) → x.words a ≡ b → newest (later.at a) ≡ h a
      by_words a inner nobodys true mine = own_found a mine
      by_words a inner nobodys false off =
          let was_nobodys = nobodys_was a (λ mine. (let f : true ≡ false = sym mine ∙ off in cc)) nobodys in
          leaves.newest_is a inner ∙ was.others a inner was_nobodys (none_nobodys a was_nobodys)

  heap_left : IsHeapOf shape log h lanes later
  heap_left = record {
    full = λ a inner. leaves.full a inner (world.heap.full a inner);
    now = now_found shape log h lanes later owners is_found;
    found = λ j g. by_lane (λ j z. z.over ≡ true → IsAmong (take z.zeroed z.gifts) g → newest (later.at g.word) ≡ 0) l y w.lanes lane (λ over m. absurd m)
        (λ j ne over m. leaves.newest_is g.word (world.owners.heap_words j g.word ((world.transactions.each j).gifts_own g (among_taken (txn_at w.lanes j).gifts (txn_at w.lanes j).zeroed g m)))
        ∙ world.heap.found j g over m) j;
  }

  -- ---- what waits for a fence

  kept_was : (j : ℕ) → IsKept j (txn_at w.lanes j) later
  kept_was j = kept_beside shape j (txn_at w.lanes j) region l e (λ a m. world.owners.heap_words j a m) on_log (world.kept j)

  kept_left : (j : ℕ) → IsKept j (txn_at lanes j) later
  kept_left = by_lane (λ j z. IsKept j z later) l y w.lanes lane
      (record {
        progress = (kept_was l).progress;
        tracks = λ a m. (kept_was l).tracks a (sub a m);
        own = λ a v k. absurd ((kept_was l).fenced fits.fenced_all a v k);
        fenced = λ fenced a v k. absurd ((kept_was l).fenced fits.fenced_all a v k);
      }) (λ j ne. kept_was j)

  -- ---- what is under way elsewhere

  over : AreOver s.log (IsListed gates ends [])
  over = record {
    ended = λ r m on. inr (let of = fits.own r m on in subst (IsEnded s.log) (sym of.0) (has_end (r, m, of)));
    whole = λ c m on end r k of. inr (inl (fits.rest c m on end r k (of.0 ∙ (fits.own c m on).0, of.1)));
  }

  keeps : (j : ℕ) → j ≢ l → KeepsFor shape s closed.state (txn_at w.lanes j).number
  keeps j ne = record {
    own = ap (own_records (txn_at w.lanes j).number) closed.log_is ∙ other_own shape s.log h (part_of shape) world.log.sound.order p x gates ends can.0 fits (txn_at w.lanes j).number (other_number j ne);
    among = λ r m. back r (subst (λ g. IsAmong g r) closed.log_is m);
    need = λ q. le_of _ _ (ap (need_in (part_of shape) q) closed.log_is ∙ closings_need shape q s.log gates ends [] over);
    room = closed.no_less;
  }

  parts : (q : ℕ) → q < shape.partitions → IsPartIn shape closed.state h (made_part shape p w.keeping) lanes q (with_under p nothing w.under q)
  parts = parts_settled shape s closed.state h w.keeping w.lanes lanes w.under p last.last world.parts
      (λ q lt ne. others_fit shape s closed.state h l y w.lanes keeps q (w.keeping.holder q) (w.under q)
      (subst (λ (run : Running). waits_for run.part (w.keeping.holder q) ≢ l) (world.parts q lt).run (last.event.alone q lt ne)) (world.parts q lt).fits)

  world_left : IsWorldAt shape (words_behind shape p (shuts gates ends []) base) closed.state chains start (world_closed shape p words w) later
  world_left = record {
    force = world.force;
    log = log_settled shape base s chains w.keeping w.next region p e (shuts gates ends []) last world.log closed.state chains sound closed.logged;
    owners = owners;
    transactions = subst (λ g. AreTransactions shape g h lanes) (sym closed.log_is) transactions;
    heap = subst (λ g. IsHeapOf shape g h lanes later) (sym closed.log_is) heap_left;
    kept = kept_left;
    stands = λ a u inner is. subst (λ g. Stands shape.policy g (λ b. u) a (h a)) (sym closed.log_is) (stands a u inner is);
    parts = parts;
  }

  left : HasLeft shape (words_behind shape p (shuts gates ends []) base) s chains start (world_closed shape p words w) later log
  left = record { state = closed.state; log_is = closed.log_is; no_less = closed.no_less; world = world_left }

pub groups_end : GroupsEnd
groups_end shape base s chains start w region p e gates ends made words under_is last sub world = left shape base s chains start w region p e gates ends made words under_is last sub world
