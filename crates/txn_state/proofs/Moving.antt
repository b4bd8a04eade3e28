-- A lane that comes to another stage, with a record settled.
use Rattle.std.proofs.Common.{◌≡◌, ◌≢◌, ℕ, ◌+◌, ◌≤◌, true, false, List, [], ◌∷◌, ◌++◌, length, map, reverse, refl, sym, ap, ◌∙◌, subst, arith}
use Rattle.std.specs.Prelude.{Some}
use Rattle.persist_model.specs.Records.{Log, Record, IsAmong, Has, HasNo, IsOf, IsEnd, IsCompensation}
use Rattle.persist_model.specs.Need.{rest, has_of}
use Rattle.persist_model.specs.Shape.{Shape}
use Rattle.persist_model.specs.State.{State}
use Rattle.persist_model.specs.Region.{Words}
use Rattle.region_layout.specs.declared.layout.Layout.{Layout}
use Rattle.region_layout.specs.declared.cell.Cell.{Cell}
use Rattle.region_layout.specs.Layout.{layout_shape}
use Rattle.offset_alloc.specs.declared.Standing.{Standing}
use Rattle.lane_traits.specs.declared.draft.WordWrite.{WordWrite}
use Rattle.lane_types.specs.declared.face.Entry.{Entry}
use Rattle.lane_book.specs.declared.lane.Lane.{Lane}
use Rattle.lane_book.specs.declared.lane.Doing.{Doing}
use Rattle.history_laws.specs.UnderWay.{Added, an_update, a_deletion, a_rollback, a_compensation, an_undone_end, a_commit_end, cell_of, UnderWay, nothing, appends, Adding}
use Rattle.txn_laws.specs.Txns.{Txn, zero_of, entry_of}
use Rattle.txn_laws.specs.NextRecords.{ComesNext, IsNextUpdate, is_end}
use Rattle.txn_laws.specs.Settled.{txn_behind}
use Rattle.txn_state.specs.Stages.{Stage, Naming, Deleting, stage_of, is_commit}
use Rattle.txn_state.specs.Seen.{booked, noticed}
use Rattle.txn_state.specs.Ties.{plain_write, AreCellsOf, top_of, AreLinked, IsUpdating, IsCompensating, IsAppending, waits, appends_it, IsCome, IsLaneOf, due_by}
use Rattle.txn_state.proofs.SameTransaction.{takes_same}
use Rattle.txn_state.proofs.Settling.{KeepsTxn}
use Rattle.txn_state.proofs.Given.{given_same, deletes_none}
use Rattle.txn_state.proofs.StageSteps.{due_none}
use Rattle.lane_book.specs.Books.{ends}

-- what the book keeps of the transaction beside the stage
pub record HasSameBook {E : Type 0} (lane later : Lane E) : Type 0 where
  pub transaction : later.transaction ≡ lane.transaction
  pub held : later.held ≡ lane.held
  pub writes : later.writes.items ≡ lane.writes.items
  pub updates : later.updates.items ≡ lane.updates.items
  pub stored : later.stored ≡ lane.stored
  pub gives : later.gives.items ≡ lane.gives.items
  pub has_records : later.has_records ≡ lane.has_records
  pub rolled : later.rolled ≡ lane.rolled
  pub ended : later.ended ≡ lane.ended
  pub committing : is_commit later.doing ≡ is_commit lane.doing
  pub due : due_by later.doing ≡ due_by lane.doing
  pub ending : ends later.doing ≡ ends lane.doing
  pub gates : later.gates.items ≡ lane.gates.items
  pub takes : (s k : ℕ) → later.doing ≡ Doing.Take s k → lane.doing ≡ Doing.Take s k
  pub entry : (e : Entry E) → later.entry ≡ Some e → lane.entry ≡ Some e

entry_same : (x z : Txn) → KeepsTxn x z → z.gifts ≡ x.gifts → entry_of z ≡ entry_of x
entry_same x z keeps gifts i = record { transaction = keeps.number i; writes = keeps.writes i ++ map zero_of (gifts i) }

pub lane_as : (E : Type 0) (layout : Layout) (blocks : List Standing) (log after newest : Log) (u v : UnderWay) (p : ℕ) (x z : Txn) (lane later : Lane E) (stage : Stage) →
    IsLaneOf layout blocks log newest u p lane x → KeepsTxn x z → z.gifts ≡ x.gifts → (z.over ≡ false → x.over ≡ false) → HasSameBook lane later →
    (noticed (layout_shape layout) p v z).updates ≡ (noticed (layout_shape layout) p u x).updates → (noticed (layout_shape layout) p v z).rolled ≡ (noticed (layout_shape layout) p u x).rolled →
    AreLinked z.updates → z.point ≡ top_of z.updates → (noticed (layout_shape layout) p v z).gifts ≡ (noticed (layout_shape layout) p u x).gifts → stage_of later ≡ stage → stage ≢ Naming → stage ≢ Deleting → IsCome after v z stage →
    IsLaneOf layout blocks after newest v p later z
lane_as E layout blocks log after newest u v p x z lane later stage is keeps gifts over same updates rolled linked point noticed_gifts at other undeleted come = let t = is.txn in record {
  txn = record {
    number = keeps.number ∙ t.number ∙ sym same.transaction;
    here = λ one. keeps.part ∙ t.here (subst (λ k. 1 ≤ k) keeps.number one);
    writes = keeps.writes ∙ t.writes ∙ ap (map plain_write) (sym same.writes);
    stored = keeps.stored ∙ t.stored ∙ sym same.stored;
    zeroed = keeps.zeroed ∙ t.zeroed;
    commits = keeps.commits ∙ t.commits ∙ sym same.committing;
    updates = subst (λ (cells : List Cell). AreCellsOf (reverse cells) (noticed (layout_shape layout) p v z).updates) (sym same.updates)
        (subst (λ (us : List Record). AreCellsOf (reverse lane.updates.items) us) (sym updates) t.updates);
    rolled = rolled ∙ t.rolled ∙ sym same.rolled;
    ended = keeps.ended ∙ t.ended ∙ sym same.ended;
    linked = linked;
    point = point;
    entry = λ e has. t.entry e (same.entry e has) ∙ sym (entry_same x z keeps gifts);
  };
  come = subst (IsCome after v z) (sym at) come;
  given = given_same layout blocks lane.held later.held lane.gives.items later.gives.items lane.gates.items later.gates.items (noticed (layout_shape layout) p u x).gifts
      (noticed (layout_shape layout) p v z).gifts x.words z.words same.held same.gives same.gates noticed_gifts keeps.words is.given;
  counts = ap length same.gives ∙ (is.counts ∙ (λ i. length (sym gifts i) + sym same.due i));
  deleting = deletes_none layout v later (due_none later.phase later.has_records later.part later.doing stage at undeleted);
  ends_ungiven = λ on. same.gives ∙ is.ends_ungiven (sym same.ending ∙ on);
  written_words = λ w among. is.written_words w (subst (λ (ws : List WordWrite). IsAmong ws w) same.writes among);
  taking = takes_same layout lane later same.writes same.stored same.takes is.taking;
  naming = λ on long. absurd (other (sym at ∙ on));
  recorded = λ one has. same.has_records ∙ is.recorded (subst (λ k. 1 ≤ k) keeps.number one) (subst (λ k. has_of k newest ≡ true) keeps.number has);
  begun = λ on. subst (λ k. 1 ≤ k) (sym keeps.number) (is.begun (sym same.has_records ∙ on));
  has_some = λ one some runs. subst (λ (k : ℕ). Has (λ r. IsOf k r × (IsEnd r → ⊥)) newest) (sym keeps.number)
      (is.has_some (subst (λ k. 1 ≤ k) keeps.number one) (sym same.has_records ∙ some) (over runs));
  uncompensated = λ unrolled one runs. subst (λ (k : ℕ). HasNo (λ r. IsOf k r × IsCompensation r) newest) (sym keeps.number)
      (is.uncompensated (sym same.rolled ∙ unrolled) (subst (λ k. 1 ≤ k) keeps.number one) (over runs));
}

-- ---- what is appended

pub behind_booked : (added : Added) (r : Record) (x : Txn) → is_end added ≡ false → txn_behind added r x ≡ booked added r x
behind_booked (an_update u) r x off = refl
behind_booked (a_deletion g) r x off = refl
behind_booked (a_rollback t) r x off = refl
behind_booked (a_compensation u cell) r x off = refl
behind_booked (an_undone_end t) r x off = absurd (let e : true ≡ false = off in cc)
behind_booked (a_commit_end t) r x off = absurd (let e : true ≡ false = off in cc)

pub next_update : (shape : Shape) (s : State) (h : Words) (x : Txn) (r : Record) (added : Added) → IsUpdating added → ComesNext shape s h x r added → IsNextUpdate shape s h x r
next_update shape s h x r (an_update u) k next = next
next_update shape s h x r (a_deletion g) k next = absurd k
next_update shape s h x r (a_rollback t) k next = absurd k
next_update shape s h x r (a_compensation u cell) k next = absurd k
next_update shape s h x r (an_undone_end t) k next = absurd k
next_update shape s h x r (a_commit_end t) k next = absurd k

pub next_undo : (shape : Shape) (s : State) (h : Words) (x : Txn) (r : Record) (added : Added) → IsCompensating added → ComesNext shape s h x r added → AreLinked x.updates →
    (cell_of added).undo_next ≡ top_of (rest x.updates)
next_undo shape s h x r (an_update u) k next linked = absurd k
next_undo shape s h x r (a_deletion g) k next linked = absurd k
next_undo shape s h x r (a_rollback t) k next linked = absurd k
next_undo shape s h x r (a_compensation u cell) k next linked =
    ap (λ (q : Record). q.undo_next) next.0 ∙ (subst AreLinked next.1.newest_is linked).0 ∙ sym (ap (λ (us : List Record). top_of (rest us)) next.1.newest_is)
next_undo shape s h x r (an_undone_end t) k next linked = absurd k
next_undo shape s h x r (a_commit_end t) k next linked = absurd k

pub linked_rest : (updates : List Record) → AreLinked updates → AreLinked (rest updates)
linked_rest [] linked = tt
linked_rest (u ∷ updates) linked = linked.1

pub length_rest : (updates : List Record) → 1 ≤ length updates → length updates ≡ length (rest updates) + 1
length_rest [] one = absurd (omega (arith, one))
length_rest (u ∷ updates) one = omega arith

pub none_of : (updates : List Record) → length updates ≡ 0 → updates ≡ []
none_of [] e = refl
none_of (u ∷ updates) e = absurd (omega (arith, e))

-- an append under way
pub appended_of : (kind : Added → Type 0) (u : UnderWay) → u ≢ nothing → IsAppending kind u → (adding : Adding) × (n : ℕ) × (u ≡ appends adding n) × kind adding.added
appended_of kind u busy (waits e) = absurd (busy e)
appended_of kind u busy (appends_it adding n e k) = (adding, n, e, k)
