-- What the last event of a group of a closing, or of a removal, leaves of the plain world.
use Rattle.std.proofs.Common.{◌≡◌, ◌≢◌, ◌⊎◌, inl, inr, ℕ, zero, suc, ◌+◌, ◌<◌, ◌==◌, Bool, true, false, not, ◌&&◌, if◌then◌else◌, List, [], ◌∷◌, ◌++◌, length, refl, sym, ap, ◌∙◌, subst, arith, length-append}
use Rattle.std.proofs.lemmas.List.{take_all, append-nil}
use Rattle.persist_model.specs.Kinds.{END}
use Rattle.persist_model.specs.declared.event.Event.{Event}
use Rattle.persist_model.specs.Region.{Words, Region}
use Rattle.persist_model.specs.Progress.{Wrote, Reaches, start, advance_all}
use Rattle.persist_model.specs.Runs.{progress_at}
use Rattle.persist_model.specs.Records.{Record, Log, IsAmong, IsOf}
use Rattle.persist_model.specs.Shape.{Shape, heap, log_words}
use Rattle.persist_model.specs.Chain.{view, out_address}
use Rattle.persist_model.specs.State.{State}
use Rattle.log_laws.proofs.Views.{view_reaches}
use Rattle.atomic_list.specs.declared.plans.Remove.{Remove}
use Rattle.atomic_list.specs.Plans.{removal}
use Rattle.atomic_list.specs.Rules.{IsAtRest, IsListWord, at_rest}
use Rattle.atomic_list.specs.Removal.{removed, RemovalLeaves}
use Rattle.atomic_list.proofs.ListChains.{list_has_chain}
use Rattle.atomic_list.proofs.Removals.{removal_ends, removal_is_on_list}
use Rattle.atomic_list.proofs.Repairs.{still}
use Rattle.atomic_list.proofs.Unique.{chain_is_one}
use Rattle.bucket_log.proofs.Addresses.{list_word_is_log_word}
use Rattle.bucket_log.proofs.Appended.{log_reaches}
use Rattle.bucket_log.proofs.ListFacts.{list_plan_stores}
use Rattle.bucket_log.proofs.Partitions.{part_word_below, few_parts, log_word_out, log_word_own}
use Rattle.log_clearing.specs.Removals.{CanDrop, region_removal}
use Rattle.log_keeper.specs.Parts.{LogPart, closes as shuts, drops as takes_out, words_behind, CanRun, IsListedGate}
use Rattle.log_keeper.specs.Ledger.{Stage, Drawn, Stored, Settled, Noted, if_settled, settled_log, newest_log, is_listed, left_open, without}
use Rattle.log_keeper.specs.Listing.{gate_if, gates_in}
use Rattle.log_keeper.specs.Making.{settled_by, made_part}
use Rattle.log_keeper.specs.Logged.{Keeping, with_chain, plan_in}
use Rattle.log_keeper.specs.Ordered.{Spares, SparesGates}
use Rattle.log_keeper.specs.Events.{IsLastEvent, region_made}
use Rattle.log_keeper.proofs.Groups.{listed_found}
use Rattle.log_keeper.proofs.Newest.{newest_logs_keep, newest_logs_made}
use Rattle.log_keeper.proofs.Runs.{parts_spare}
use Rattle.log_keeper.proofs.Steps.{last_events_end}
use Rattle.history_laws.specs.Histories.{fold}
use Rattle.history_laws.specs.UnderWay.{closes, drops}
use Rattle.txn_laws.specs.Txns.{Txn, txn_at, with_txn}
use Rattle.txn_laws.specs.PartsOf.{Fits, IsClosingOf}
use Rattle.txn_laws.specs.Worlds.{World, IsWorldAt}
use Rattle.txn_laws.specs.Closings.{HasLeft, with_words}
use Rattle.txn_laws.specs.Dropped.{dropped}
use Rattle.txn_laws.specs.Rooms.{is_append, stores_gate, taken_in}
use Rattle.txn_laws.proofs.Closings.{groups_end}
use Rattle.txn_laws.proofs.Dropping.{removals_settle}
use Rattle.txn_laws.proofs.LeftOpen.{left_back, left_or}
use Rattle.txn_state.specs.Numbers.{unpaid}
use Rattle.txn_state.specs.Beside.{TakesOnlyOf}
use Rattle.txn_state.proofs.Making.{test_other}

-- ---- the ledger

pub settled_or_not : (stage : Stage) → (stage ≡ Settled) ⊎ (stage ≢ Settled)
settled_or_not Drawn = inr (λ e. cc)
settled_or_not Stored = inr (λ e. cc)
settled_or_not Settled = inl refl

pub settled_among : (ledger : List Noted) (x : Noted) → IsAmong ledger x → x.stage ≡ Settled → IsAmong (settled_log ledger) x.entry
settled_among [] x m e = absurd m
settled_among (y ∷ ledger) x (inl same) e =
    subst (λ (st : Stage). IsAmong (if_settled st y.entry (settled_log ledger)) x.entry) (sym e ∙ ap (λ (q : Noted). q.stage) same) (inl (ap (λ (q : Noted). q.entry) same))
settled_among (y ∷ ledger) x (inr m) e = by y.stage (settled_among ledger x m e)
  where
    by : (stage : Stage) → IsAmong (settled_log ledger) x.entry → IsAmong (if_settled stage y.entry (settled_log ledger)) x.entry
    by Drawn k = k
    by Stored k = k
    by Settled k = inr k

no_gate : (t : ℕ) (ends : Bool) (x : Noted) → x.entry.transaction ≢ t → gate_if t ends x ≡ []
no_gate t ends x ne = ap (λ (b : Bool). if b then x.entry.at ∷ [] else []) (ap (λ (b : Bool). b && (if ends then x.entry.kind == END else not (x.entry.kind == END))) (test_other x.entry.transaction t ne))

-- the gates of a transaction of which none is closed stay
pub gates_without : (t : ℕ) (ends : Bool) (gates checks checkpoints : List ℕ) (ledger : List Noted) →
    ((x : Noted) → IsAmong ledger x → IsListedGate gates checks checkpoints x.entry.at → x.entry.transaction ≢ t) →
    gates_in t ends (without gates checks checkpoints ledger) ≡ gates_in t ends ledger
gates_without t ends gates checks checkpoints [] others = refl
gates_without t ends gates checks checkpoints (x ∷ ledger) others =
    by (is_listed gates checks checkpoints x.entry.at) refl (gates_without t ends gates checks checkpoints ledger (λ y m on. others y (inr m) on))
  where
    by : (b : Bool) → is_listed gates checks checkpoints x.entry.at ≡ b → gates_in t ends (without gates checks checkpoints ledger) ≡ gates_in t ends ledger →
        gates_in t ends (if b then without gates checks checkpoints ledger else x ∷ without gates checks checkpoints ledger) ≡ gates_in t ends ledger ++ gate_if t ends x
    by true on same = same ∙ sym (append-nil (gates_in t ends ledger))
        ∙ ap (λ l. gates_in t ends ledger ++ l) (sym (no_gate t ends x (others x (inl refl) (listed_found gates checks checkpoints x.entry.at on))))
    by false off same = ap (λ l. l ++ gate_if t ends x) same

-- ---- behind the last event of a part that adds no record

-- With it nothing is under way in the partition; the logs lose records of t alone, and no other partition's chain is another.
pub record IsPartOver (shape : Shape) (start_heap : Words) (s : State) (chains : ℕ → List ℕ) (w : World) (p t : ℕ) (region : Region) : Type 0 where
  pub base : Words
  pub state : State
  pub chains_behind : ℕ → List ℕ
  pub world : IsWorldAt shape base state chains_behind start_heap (dropped shape p w) region
  pub fewer : (r : Record) → IsAmong state.log r → IsAmong s.log r
  pub newest_fewer : (r : Record) → IsAmong (newest_log (made_part shape p w.keeping).ledger) r → IsAmong (newest_log w.keeping.ledger) r
  pub newest_taken : TakesOnlyOf t (newest_log w.keeping.ledger) (newest_log (made_part shape p w.keeping).ledger)
  pub noted : (u : ℕ) → u ≢ t → gates_in u false (made_part shape p w.keeping).ledger ≡ gates_in u false w.keeping.ledger
  pub chains_stay : (q : ℕ) → q ≢ p → chains_behind q ≡ chains q
  pub stores_none : stores_gate shape w.keeping p ≡ false
  pub none_unpaid : unpaid (w.under p) ≡ 0

none_stored : (part : LogPart) (b : Bool) → is_append part ≡ false → (is_append part && b) ≡ false
none_stored part b off = ap (λ (a : Bool). a && b) off

abbrev one_if : Bool → Bool → ℕ
one_if b c = if b && c then 1 else 0

one_not : (b c : Bool) → c ≡ false → one_if b c ≡ 0
one_not true c off = ap (one_if true) off
one_not false c off = refl

pub takes_none : (shape : Shape) (k : Keeping) (p q : ℕ) → stores_gate shape k p ≡ false → taken_in shape k p q ≡ 0
takes_none shape k p q off = one_not (q == p) (stores_gate shape k p) off

pub with_same : (l : ℕ) (y : Txn) (lanes : List Txn) → y ≡ txn_at lanes l → with_txn l y lanes ≡ lanes
with_same l y [] e = refl
with_same zero y (x ∷ lanes) e = ap (λ (z : Txn). z ∷ lanes) e
with_same (suc l) y (x ∷ lanes) e = ap (λ (zs : List Txn). x ∷ zs) (with_same l y lanes e)

-- the ledger behind it
pub ledger_behind : (shape : Shape) (k : Keeping) (p : ℕ) (e : Event) (part : LogPart) → IsLastEvent shape k p e part → (made_part shape p k).ledger ≡ settled_by part k.ledger
ledger_behind shape k p e part last = ap (λ (x : Keeping). x.ledger) (last_events_end shape k p last.last).kept ∙ ap (λ (x : LogPart). settled_by x k.ledger) last.under_way

-- ---- of a group

module _ (shape : Shape) (base : Words) (s : State) (chains : ℕ → List ℕ) (start_heap : Words) (w : World) (region : Region) (p : ℕ) (e : Event) (gates ends : List ℕ) (n : ℕ)
    (under : w.under p ≡ closes gates ends n) (last : IsLastEvent shape w.keeping p e (shuts gates ends [])) (world : IsWorldAt shape base s chains start_heap w region) where
  abbrev its_txn : Txn
  its_txn = txn_at w.lanes (w.keeping.holder p)

  abbrev ledger : List Noted
  ledger = w.keeping.ledger

  inside : p < shape.partitions
  inside = last.event.inside

  pub group_closing : IsClosingOf s.log p its_txn gates ends
  group_closing = subst (Fits shape s (fold start_heap w.history) p its_txn) under (world.parts p inside).fits

  pub group_can : CanRun shape p base s (chains p) (shuts gates ends [])
  group_can = subst (CanRun shape p base s (chains p)) last.under_way (world.log.logged.can p inside)

  pub group_spares : SparesGates gates ends [] ledger
  group_spares = subst (λ (part : LogPart). Spares part ledger) last.under_way (parts_spare shape base s chains w.keeping region p inside world.log.fits world.log.logged)

  newest_left : newest_log (made_part shape p w.keeping).ledger ≡ left_open gates ends [] (newest_log ledger)
  newest_left = newest_logs_made.closes shape p w.keeping gates ends [] last.under_way last.last

  -- a noted record that is closed is settled, and the transaction's
  closed_noted : (x : Noted) → IsAmong ledger x → IsListedGate gates ends [] x.entry.at → IsOf its_txn.number x.entry
  closed_noted x m on = elim (settled_or_not x.stage) [
    | inl is ↦ group_closing.own x.entry (subst (λ (log : Log). IsAmong log x.entry) (sym world.log.logged.records) (settled_among ledger x m is)) on
    | inr ne ↦ absurd (group_spares x m ne on)
  ]

  module _ (no_gifts : its_txn.gifts ≡ []) (none_zeroed : its_txn.zeroed ≡ 0) where
    group_left : HasLeft shape (words_behind shape p (shuts gates ends []) base) s chains start_heap (record (dropped shape p w) { lanes = with_txn (w.keeping.holder p) (with_words its_txn.words its_txn) w.lanes })
        (region_made w.keeping p e region) (left_open gates ends [] s.log)
    group_left = groups_end shape base s chains start_heap w region p e gates ends n its_txn.words under last (λ a m. m) world

    same_txn : with_words its_txn.words its_txn ≡ its_txn
    same_txn = λ i. record its_txn { gifts = sym no_gifts i; zeroed = sym none_zeroed i }

    pub group_over : IsPartOver shape start_heap s chains w p its_txn.number (region_made w.keeping p e region)
    group_over = record {
      base = words_behind shape p (shuts gates ends []) base;
      state = group_left.state;
      chains_behind = chains;
      world = subst (λ (lanes : List Txn). IsWorldAt shape (words_behind shape p (shuts gates ends []) base) group_left.state chains start_heap (record (dropped shape p w) { lanes = lanes })
          (region_made w.keeping p e region)) (with_same (w.keeping.holder p) (with_words its_txn.words its_txn) w.lanes same_txn) group_left.world;
      fewer = λ r m. (left_back gates ends [] s.log r (subst (λ (log : Log). IsAmong log r) group_left.log_is m)).0;
      newest_fewer = λ r m. (left_back gates ends [] (newest_log ledger) r (subst (λ (log : Log). IsAmong log r) newest_left m)).0;
      newest_taken = λ r m. elim (left_or gates ends [] (newest_log ledger) r m) [
        | inl k ↦ inl (subst (λ (log : Log). IsAmong log r) (sym newest_left) k)
        | inr on ↦ inr (group_closing.own r (subst (λ (log : Log). IsAmong log r) (sym world.log.logged.records) (newest_logs_keep.closed gates ends [] ledger r group_spares m on)) on)
      ];
      noted = λ u ne. ap (gates_in u false) (ledger_behind shape w.keeping p e (shuts gates ends []) last)
          ∙ gates_without u false gates ends [] ledger (λ x m on same. ne (sym same ∙ (closed_noted x m on).0));
      chains_stay = λ q ne. refl;
      stores_none = none_stored (w.keeping.runs p).part ((w.keeping.runs p).made + 2 == length (plan_in shape w.keeping p)) (ap is_append last.under_way);
      none_unpaid = ap unpaid under;
    }

    pub group_log : group_over.state.log ≡ left_open gates ends [] s.log
    unfolding group_over
    group_log = group_left.log_is

    pub group_chains : group_over.chains_behind ≡ chains
    unfolding group_over
    group_chains = refl

-- ---- of a removal

module _ (shape : Shape) (base : Words) (s : State) (chains : ℕ → List ℕ) (start_heap : Words) (w : World) (region : Region) (p t : ℕ) (e : Event) (r : Remove) (n : ℕ)
    (under : w.under p ≡ drops r n) (last : IsLastEvent shape w.keeping p e (takes_out r)) (world : IsWorldAt shape base s chains start_heap w region) where
  abbrev behind_it : Words
  behind_it = words_behind shape p (takes_out r) base

  part_there : p < shape.partitions
  part_there = last.event.inside

  can_drop : CanDrop shape p (view p (log_words shape base)) r
  can_drop = subst (CanRun shape p base s (chains p)) last.under_way (world.log.logged.can p part_there)

  newest_same : newest_log (made_part shape p w.keeping).ledger ≡ newest_log w.keeping.ledger
  newest_same = newest_logs_made.drops shape p w.keeping r last.under_way last.last

  pub removal_over : IsPartOver shape start_heap s chains w p t (region_made w.keeping p e region)
  removal_over = (let k = removals_settle shape base s chains start_heap w region p e r last world in record {
    base = behind_it;
    state = _;
    chains_behind = with_chain p k.0 chains;
    world = k.1;
    fewer = λ x m. m;
    newest_fewer = λ x m. subst (λ (log : Log). IsAmong log x) newest_same m;
    newest_taken = λ x m. inl (subst (λ (log : Log). IsAmong log x) (sym newest_same) m);
    noted = λ u ne. ap (gates_in u false) (ledger_behind shape w.keeping p e (takes_out r) last);
    chains_stay = λ q ne. ap (λ (b : Bool). if b then k.0 else chains q) (test_other q p ne);
    stores_none = none_stored (w.keeping.runs p).part ((w.keeping.runs p).made + 2 == length (plan_in shape w.keeping p)) (ap is_append last.under_way);
    none_unpaid = ap unpaid under;
  })

  pub removal_log : removal_over.state.log ≡ s.log
  unfolding removal_over
  removal_log = refl

  -- ---- the chain behind it is one bucket shorter

  leaves : RemovalLeaves shape p (view p (log_words shape base)) can_drop.front can_drop.rest r (removed (view p (log_words shape base)) r 7)
  leaves = removal_ends shape p (view p (log_words shape base)) can_drop.front can_drop.rest r can_drop.can_remove

  reached : Reaches (λ a. a < heap shape) (progress_at base (region_removal p r) (length (region_removal p r))) behind_it
  reached a lt = inl (ap (λ (es : List Event). (advance_all (start base) es).durable a) (sym (take_all (length (region_removal p r)) (region_removal p r) (omega arith))))

  in_view : Reaches (IsListWord shape p) (removed (view p (log_words shape base)) r 7) (view p (log_words shape behind_it))
  in_view = view_reaches (λ a. a < heap shape) (IsListWord shape p) p 7 (log_words shape base) (log_words shape behind_it) (removal r) (few_parts shape p world.log.logged.allowed part_there)
      (λ a m. log_word_own shape p a (list_word_is_log_word shape p a m))
      (λ a m. part_word_below shape p (out_address p a) world.log.logged.allowed part_there (log_word_out shape p a (list_word_is_log_word shape p a m)))
      (list_plan_stores shape p (removal r) (removal_is_on_list shape p (view p (log_words shape base)) can_drop.front can_drop.rest r can_drop.can_remove))
      (log_reaches shape base behind_it (region_removal p r) 7 reached)

  same_words : (a : ℕ) → IsListWord shape p a → view p (log_words shape behind_it) a ≡ (removed (view p (log_words shape base)) r 7).durable a
  same_words a m = elim (in_view a m) [
    | inl same ↦ same
    | inr wrote ↦ absurd (subst (λ ws. Wrote ws a (view p (log_words shape behind_it) a)) leaves.nothing_pending wrote)
  ]

  shorter : IsAtRest shape p (view p (log_words shape behind_it)) (can_drop.front ++ can_drop.rest)
  shorter = still shape p (removed (view p (log_words shape base)) r 7).durable (view p (log_words shape behind_it)) (can_drop.front ++ can_drop.rest) leaves.at_rest same_words

  one_chain : (words : Words) (xs ys : List ℕ) → IsAtRest shape p words xs → IsAtRest shape p words ys → xs ≡ ys
  one_chain words xs ys a b = chain_is_one words xs ys (list_has_chain shape p words xs (at_rest a)) (list_has_chain shape p words ys (at_rest b))

  pub removal_shortens : length (removal_over.chains_behind p) + 1 ≡ length (chains p)
  unfolding removal_over
  removal_shortens =
      let behind = ap length (one_chain (view p (log_words shape behind_it)) (removal_over.chains_behind p) (can_drop.front ++ can_drop.rest) (removal_over.world.log.logged.rest p part_there) shorter) in
      let before = ap length (one_chain (view p (log_words shape base)) (chains p) (can_drop.front ++ r.node ∷ can_drop.rest) (world.log.logged.rest p part_there) can_drop.can_remove.at_rest) in
      let long = length-append can_drop.front (r.node ∷ can_drop.rest) in
      let short = length-append can_drop.front can_drop.rest in
      omega (arith, behind, before, long, short)
