-- An event of a part that isn't its last, where there is no checkpoint.
use Rattle.std.proofs.Common.{◌≡◌, ◌≢◌, ℕ, suc, ◌+◌, ◌<◌, ◌==◌, Bool, true, if◌then◌else◌, List, length, refl, sym, ap, ◌∙◌, subst, arith}
use Rattle.persist_model.specs.declared.event.Event.{Event}
use Rattle.persist_model.specs.Region.{Words, Region, newest}
use Rattle.persist_model.specs.Progress.{latest}
use Rattle.persist_model.specs.Records.{Record, Log, HasNo}
use Rattle.persist_model.specs.Standing.{IsToDelete}
use Rattle.persist_model.specs.Shape.{Shape}
use Rattle.persist_model.specs.State.{State}
use Rattle.log_keeper.specs.Parts.{rests, appends as adds, closes as shuts, takes_back as drops_deletions, drops as takes_out, waits_for, LogPart, Running}
use Rattle.log_keeper.specs.Making.{made_part}
use Rattle.log_keeper.specs.Logged.{Keeping, one_more, plan_in}
use Rattle.log_keeper.specs.Events.{IsNextEvent, region_made}
use Rattle.log_keeper.proofs.Progressing.{by_part, waits_is}
use Rattle.log_keeper.proofs.Made.{goes_on}
use Rattle.history_laws.specs.Histories.{fold}
use Rattle.history_laws.specs.UnderWay.{Added, an_update, a_deletion, a_rollback, a_compensation, an_undone_end, a_commit_end, record_of_adding, UnderWay, nothing, appends, closes, takes_back, drops, run_of}
use Rattle.txn_laws.specs.Txns.{Txn, txn_at, with_txn, written}
use Rattle.txn_laws.specs.Owners.{IsMine, AreOwners}
use Rattle.txn_laws.specs.AreTransactions.{IsTransaction}
use Rattle.txn_laws.specs.NextRecords.{ComesNext, ended_by}
use Rattle.txn_laws.specs.PartsOf.{Fits, IsPartIn}
use Rattle.txn_laws.specs.Worlds.{World, IsLogOf}
use Rattle.redo_laws.specs.Stages.{IsNoClosing}
use Rattle.redo_laws.proofs.Beside.{log_goes_on}
use Rattle.redo_laws.proofs.Plain.{IsPlainAt, plain_found}
use Rattle.redo_laws.proofs.LaneTxns.{transactions_with}
use Rattle.txn_laws.specs.Going.{with_under, further, txn_further, gone_on}
use Rattle.txn_laws.proofs.Lanes.{by_lane, IsFound, now_found, owners_same, nobodys_same, rests_fits}
use Rattle.txn_laws.proofs.LogEvents.{LeavesHeap, next_is_log, leaves_heap}

-- all but whether its end's gate is stored is as it was
record IsAlike (x y : Txn) : Type 0 where
  ended : Bool
  is : y ≡ record x { ended = ended }

further_alike : (shape : Shape) (p : ℕ) (u : UnderWay) (x : Txn) → IsAlike x (txn_further shape p u x)
further_alike shape p nothing x = record { ended = x.ended; is = refl }
further_alike shape p (appends adding made) x = record { ended = ended_by shape p adding (suc made); is = refl }
further_alike shape p (closes gates ends made) x = record { ended = x.ended; is = refl }
further_alike shape p (takes_back gates made) x = record { ended = x.ended; is = refl }
further_alike shape p (drops r made) x = record { ended = x.ended; is = refl }

told_ended : (shape : Shape) (log : Log) (h : Words) (x : Txn) (ended : Bool) → IsTransaction shape log h x → IsTransaction shape log h (record x { ended = ended })
told_ended shape log h x ended t = record {
  in_part = t.in_part;
  going = λ runs. (let g = t.going runs in record {
    running = g.running;
    to_undo_is = g.to_undo_is;
    point_is = g.point_is;
    rolled_is = g.rolled_is;
    rolled_has = g.rolled_has;
    updates_are = g.updates_are;
    changed = g.changed;
    unchanged = g.unchanged;
    covered = g.covered;
    unzeroed = g.unzeroed;
    writes_own = g.writes_own;
  });
  ended = λ over. record { has_end = (t.ended over).has_end; committed = (t.ended over).committed; commits_is = (t.ended over).commits_is };
  deletions = t.deletions;
  given = t.given;
  gifts_own = t.gifts_own;
  names = t.names;
}

-- what comes next doesn't hang on that
comes_ended : (shape : Shape) (s : State) (h : Words) (x : Txn) (ended : Bool) (r : Record) (added : Added) → ComesNext shape s h x r added → ComesNext shape s h (record x { ended = ended }) r added
comes_ended shape s h x ended r (an_update u) n = record { no_root = n.no_root; of_write = n.of_write; point_is = n.point_is; unrolled = n.unrolled; cells = n.cells }
comes_ended shape s h x ended r (a_deletion g) n = record { plain = n.plain; unrolled = n.unrolled; cells = n.cells }
comes_ended shape s h x ended r (a_rollback t) n = n
comes_ended shape s h x ended r (a_compensation u cell) n = (n.0, record { others = n.1.others; newest_is = n.1.newest_is })
comes_ended shape s h x ended r (an_undone_end t) n = (n.0, record { commits_is = n.1.commits_is; fenced_is = n.1.fenced_is; stored_is = n.1.stored_is; cells = n.1.cells })
comes_ended shape s h x ended r (a_commit_end t) n = (n.0, record { commits_is = n.1.commits_is; fenced_is = n.1.fenced_is; stored_is = n.1.stored_is; cells = n.1.cells })

further_fits : (shape : Shape) (s : State) (h : Words) (p : ℕ) (x : Txn) (u : UnderWay) → Fits shape s h p x u → Fits shape s h p (txn_further shape p u x) (further u)
further_fits shape s h p x nothing fits = tt
further_fits shape s h p x (appends adding made) fits = record {
  number = fits.number;
  of = fits.of;
  here = fits.here;
  runs = fits.runs;
  passes = fits.passes;
  own = fits.own;
  next = comes_ended shape s h x (ended_by shape p adding (suc made)) (record_of_adding adding) adding.added fits.next;
  ended_is = refl;
}
further_fits shape s h p x (closes gates ends made) fits = fits
further_fits shape s h p x (takes_back gates made) fits = fits
further_fits shape s h p x (drops r made) fits = tt

pub further_run : (u : UnderWay) → (run_of u).part ≢ rests → one_more (run_of u) ≡ run_of (further u)
further_run nothing ne = absurd (ne refl)
further_run (appends adding made) ne = refl
further_run (closes gates ends made) ne = refl
further_run (takes_back gates made) ne = refl
further_run (drops r made) ne = refl

-- where a part has a next event something is under way
pub next_runs : (shape : Shape) (k : Keeping) (p : ℕ) (e : Event) → IsNextEvent shape k p e → (k.runs p).part ≢ rests
next_runs shape k p e next e0 =
    let e1 = waits_is shape p (k.runs p).part 0 (k.runs p).made e next.next in
    let e2 = ap (λ (part : LogPart). waits_for part 0) e0 in omega (arith, e1, e2)

module _ (shape : Shape) (base : Words) (s : State) (chains : ℕ → List ℕ) (start_heap : Words) (w : World) (region : Region) (p : ℕ) (e : Event)
    (inside : w.keeping.holder p < length w.lanes) (next : IsNextEvent shape w.keeping p e) (more : (w.keeping.runs p).made + 1 < length (plan_in shape w.keeping p))
    (world : IsPlainAt shape base s chains start_heap w region) where
  abbrev h : Words
  h = fold start_heap w.history

  abbrev l : ℕ
  l = w.keeping.holder p

  abbrev x : Txn
  x = txn_at w.lanes (w.keeping.holder p)

  abbrev y : Txn
  y = txn_further shape p (w.under p) (txn_at w.lanes (w.keeping.holder p))

  abbrev later : Region
  later = region_made w.keeping p e region

  leaves : LeavesHeap shape region later
  leaves = leaves_heap shape region l e (next_is_log shape base s chains w.keeping region p e next world.log.logged)

  alike : IsAlike x y
  alike = further_alike shape p (w.under p) x

  words_is : y.words ≡ x.words
  words_is = ap (λ (z : Txn). z.words) alike.is

  number_is : y.number ≡ x.number
  number_is = ap (λ (z : Txn). z.number) alike.is

  owners_there : AreOwners shape (with_txn l y w.lanes)
  owners_there = owners_same shape l y w.lanes inside words_is world.owners

  log_there : IsLogOf shape base s chains (made_part shape p w.keeping) w.next later
  log_there = log_goes_on shape base s chains w.keeping w.next region p e next more world.log

  found_there : IsFound shape s.log h (with_txn l y w.lanes) later
  found_there = record {
    own = λ k a. by_lane (λ j z. IsMine z a → HasNo (IsToDelete s.log a) s.log → newest (later.at a) ≡ latest (written z) a (h a)) l y w.lanes inside
        (λ m none. (let mine = subst (λ (f : ℕ → Bool). f a ≡ true) words_is m in
        leaves.newest_is a (world.owners.heap_words l a mine) ∙ (plain_found shape base s chains start_heap w region world).own l a mine none
        ∙ sym (ap (λ (z : Txn). latest (written z) a (h a)) alike.is)))
        (λ j ne m none. leaves.newest_is a (world.owners.heap_words j a m) ∙ (plain_found shape base s chains start_heap w region world).own j a m none) k;
    others = λ a m nobodys none. leaves.newest_is a m ∙ (plain_found shape base s chains start_heap w region world).others a m (nobodys_same l y w.lanes a inside words_is nobodys) none;
  }

  -- ---- the parts

  runs_there : (q : ℕ) → (made_part shape p w.keeping).runs q ≡ (if q == p then one_more (w.keeping.runs p) else w.keeping.runs q)
  runs_there q = ap (λ (k : Keeping). k.runs q) (goes_on shape w.keeping p more)

  holder_there : (q : ℕ) → (made_part shape p w.keeping).holder q ≡ w.keeping.holder q
  holder_there q = ap (λ (k : Keeping). k.holder q) (goes_on shape w.keeping p more)

  part_there : (q : ℕ) → q < shape.partitions → IsPartIn shape s h (made_part shape p w.keeping) (with_txn l y w.lanes) q (with_under p (further (w.under p)) w.under q)
  part_there q lt = record { run = run; fits = subst (λ j. Fits shape s h q (txn_at (with_txn l y w.lanes) j) (with_under p (further (w.under p)) w.under q)) (sym (holder_there q)) fits }
    where
      run : (made_part shape p w.keeping).runs q ≡ run_of (with_under p (further (w.under p)) w.under q)
      run = runs_there q ∙ by_part (λ n t. n < shape.partitions → (if t then one_more (w.keeping.runs p) else w.keeping.runs n) ≡ run_of (if t then further (w.under p) else w.under n)) p q
          (λ lt. ap one_more (world.parts p lt).run ∙ further_run (w.under p) (λ e0. next_runs shape w.keeping p e next (ap (λ (r : Running). r.part) (world.parts p lt).run ∙ e0)))
          (λ ne lt. (world.parts q lt).run) lt

      here : Fits shape s h p (txn_at (with_txn l y w.lanes) l) (further (w.under p))
      here = by_lane (λ j z. j ≡ l → Fits shape s h p z (further (w.under p))) l y w.lanes inside
          (λ e0. further_fits shape s h p x (w.under p) (world.parts p next.inside).fits) (λ j ne e0. absurd (ne e0)) l refl

      there : (n : ℕ) → n < shape.partitions → n ≢ p → Fits shape s h n (txn_at (with_txn l y w.lanes) (w.keeping.holder n)) (w.under n)
      there n lt ne = by_lane (λ j z. w.keeping.holder n ≡ j → Fits shape s h n z (w.under n)) l y w.lanes inside
          (λ held. rests_fits shape s h n y (w.under n) (sym (ap (λ (r : Running). r.part) (world.parts n lt).run) ∙ at_rest held))
          (λ j other held. subst (λ i. Fits shape s h n (txn_at w.lanes i) (w.under n)) held (world.parts n lt).fits) (w.keeping.holder n) refl
        where
          at_rest : w.keeping.holder n ≡ l → (w.keeping.runs n).part ≡ rests
          at_rest held = rests_alone (w.keeping.runs n).part refl
            where
              rests_alone : (part : LogPart) → (w.keeping.runs n).part ≡ part → (w.keeping.runs n).part ≡ rests
              rests_alone rests is = is
              rests_alone (adds place r) is = absurd (next.alone n lt ne (ap (λ (part : LogPart). waits_for part (w.keeping.holder n)) is ∙ held))
              rests_alone (shuts gates ends checkpoints) is = absurd (next.alone n lt ne (ap (λ (part : LogPart). waits_for part (w.keeping.holder n)) is ∙ held))
              rests_alone (drops_deletions gates) is = absurd (next.alone n lt ne (ap (λ (part : LogPart). waits_for part (w.keeping.holder n)) is ∙ held))
              rests_alone (takes_out r) is = absurd (next.alone n lt ne (ap (λ (part : LogPart). waits_for part (w.keeping.holder n)) is ∙ held))

      fits : Fits shape s h q (txn_at (with_txn l y w.lanes) (w.keeping.holder q)) (with_under p (further (w.under p)) w.under q)
      fits = by_part (λ n t. n < shape.partitions → Fits shape s h n (txn_at (with_txn l y w.lanes) (w.keeping.holder n)) (if t then further (w.under p) else w.under n)) p q
          (λ lt. here) (λ ne lt. there q lt ne) lt

  closing_there : (q : ℕ) → q < shape.partitions → IsNoClosing (with_under p (further (w.under p)) w.under q)
  closing_there q lt = by_part (λ n t. n < shape.partitions → IsNoClosing (if t then further (w.under p) else w.under n)) p q (λ lt. further_open (w.under p) (world.no_closing p lt)) (λ ne lt. world.no_closing q lt) lt
    where
      further_open : (u : UnderWay) → IsNoClosing u → IsNoClosing (further u)
      further_open nothing k = tt
      further_open (appends adding made) k = tt
      further_open (closes gates ends made) k = k
      further_open (takes_back gates made) k = tt
      further_open (drops r made) k = tt

  pub goes_there : IsPlainAt shape base s chains start_heap (gone_on shape p w) later
  goes_there = record {
    no_force = world.no_force;
    log = log_there;
    spare = world.spare;
    owners = owners_there;
    transactions = transactions_with shape s.log h w.lanes l y inside words_is number_is
        (subst (IsTransaction shape s.log h) (sym alike.is) (told_ended shape s.log h x alike.ended (world.transactions.each l))) world.transactions;
    heap = record { full = λ a m. leaves.full a m (world.heap.full a m); now = now_found shape s.log h (with_txn l y w.lanes) later owners_there found_there };
    stands = λ a u m is. world.stands a u m (leaves.fewer a u m is);
    unmarked = world.unmarked;
    parts = part_there;
    no_closing = closing_there;
  }
