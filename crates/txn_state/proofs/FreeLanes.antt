-- Lanes without a transaction.
use Rattle.std.proofs.Common.{◌≡◌, ℕ, ◌+◌, ◌*◌, ◌-◌, ◌^◌, ◌==◌, Bool, true, false, not, nat_lt, ◌&&◌, List, [], map, reverse, None, refl, sym, ap, ◌∙◌, subst, arith, length, zero-add}
use Rattle.std.proofs.Math.Nat.{zero-div}
use Rattle.persist_model.specs.Records.{Log, IsAmong}
use Rattle.persist_model.specs.Shape.{heap}
use Rattle.region_layout.specs.declared.layout.Layout.{Layout}
use Rattle.region_layout.specs.Layout.{layout_shape}
use Rattle.lane_types.specs.Heaps.{has_bit, names_in}
use Rattle.offset_alloc.specs.declared.Standing.{Standing}
use Rattle.lane_book.specs.declared.lane.Lane.{Lane}
use Rattle.lane_book.specs.Refusals.{owner_seen, block_in}
use Rattle.history_laws.specs.UnderWay.{UnderWay, nothing}
use Rattle.txn_laws.specs.Txns.{idle}
use Rattle.txn_state.specs.Stages.{Free, Naming, Storing, Deleting, stage_of, is_commit}
use Rattle.txn_state.specs.Ties.{plain_write, AreCellsOf, is_lanes, IsCome, IsLaneOf, due_by}
use Rattle.txn_state.proofs.StageSteps.{no_take, due_none}
use Rattle.txn_state.proofs.Given.{none_given, deletes_none}

-- it is free, and nothing is left of a transaction
pub record IsFreeLane {E : Type 0} (lane : Lane E) : Type 0 where
  pub free : stage_of lane ≡ Free
  pub commits : is_commit lane.doing ≡ false
  pub held : lane.held ≡ 0
  pub transaction : lane.transaction ≡ 0
  pub writes : lane.writes.items ≡ []
  pub updates : lane.updates.items ≡ []
  pub stored : lane.stored ≡ 0
  pub gives : lane.gives.items ≡ []
  pub gates : lane.gates.items ≡ []
  pub records : lane.has_records ≡ false
  pub rolled : lane.rolled ≡ false
  pub ended : lane.ended ≡ false
  pub entry : lane.entry ≡ None

-- no word is its own
pub no_words : {E : Type 0} (layout : Layout) (blocks : List Standing) (lane : Lane E) (a : ℕ) → lane.held ≡ 0 → is_lanes layout blocks lane a ≡ false
no_words layout blocks lane a none =
    ap (λ set. not (nat_lt a (heap (layout_shape layout))) && (nat_lt a (heap (layout_shape layout) + 16 * layout.blocks) && names_in set (owner_seen blocks lane (block_in layout a)))) none ∙
    ap (λ b. not (nat_lt a (heap (layout_shape layout))) && (nat_lt a (heap (layout_shape layout) + 16 * layout.blocks) && b)) (unnamed (owner_seen blocks lane (block_in layout a))) ∙
    ap (λ b. not (nat_lt a (heap (layout_shape layout))) && b) (and_false (nat_lt a (heap (layout_shape layout) + 16 * layout.blocks))) ∙
    and_false (not (nat_lt a (heap (layout_shape layout))))
  where
    and_false : (b : Bool) → (b && false) ≡ false
    and_false true = refl
    and_false false = refl

    no_bit : (s : ℕ) → has_bit 0 s ≡ false
    no_bit s = rw (zero-div (2 ^ s)) refl

    unnamed : (owner : ℕ) → names_in 0 owner ≡ false
    unnamed owner = ap (λ b. not (owner == 0) && b) (no_bit (owner - 1)) ∙ and_false (not (owner == 0))

pub free_lane : {E : Type 0} (layout : Layout) (blocks : List Standing) (log newest : Log) (u : UnderWay) (p : ℕ) (lane : Lane E) → IsFreeLane lane → u ≡ nothing →
    IsLaneOf layout blocks log newest u p lane idle
free_lane layout blocks log newest u p lane is rests = subst (λ u. IsLaneOf layout blocks log newest u p lane idle) (sym rests) (record {
  txn = record {
    number = sym is.transaction;
    here = λ one. absurd (omega (arith, one));
    writes = sym (ap (map plain_write) is.writes);
    stored = sym is.stored;
    zeroed = refl;
    commits = sym is.commits;
    updates = subst (λ cells. AreCellsOf (reverse cells) []) (sym is.updates) tt;
    rolled = sym is.rolled;
    ended = sym is.ended;
    linked = tt;
    point = refl;
    entry = λ e some. (let off = sym is.entry ∙ some in cc);
  };
  come = subst (IsCome log nothing idle) (sym is.free) (refl, refl);
  given = none_given layout blocks lane.held lane.gives.items lane.gates.items (λ a. false) is.gives is.gates (λ a. sym (no_words layout blocks lane a is.held));
  counts = ap length is.gives ∙ (sym (due_none lane.phase lane.has_records lane.part lane.doing Free is.free (λ e. (let off : Free ≡ Deleting = e in cc))) ∙ sym (zero-add (due_by lane.doing)));
  deleting = deletes_none layout nothing lane (due_none lane.phase lane.has_records lane.part lane.doing Free is.free (λ e. (let off : Free ≡ Deleting = e in cc)));
  ends_ungiven = λ on. is.gives;
  written_words = λ w m. absurd (subst (λ ws. IsAmong ws w) is.writes m);
  taking = λ s k call. absurd (no_take lane.phase lane.has_records lane.part lane.doing Free s k call is.free (λ e. (let off : Free ≡ Naming = e in cc)) (λ e. (let off : Free ≡ Storing = e in cc)));
  naming = λ naming at. (let off : Free ≡ Naming = sym is.free ∙ naming in cc);
  recorded = λ one on. absurd (omega (arith, one));
  begun = λ recorded. (let off = sym is.records ∙ recorded in cc);
  has_some = λ one recorded on. absurd (omega (arith, one));
  uncompensated = λ unrolled one on. absurd (omega (arith, one));
})
