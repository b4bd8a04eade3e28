-- From a recovery's beginning to its undo.
use Rattle.std.proofs.Common.{◌≡◌, ℕ, ◌<◌, ◌≤◌, List, [], refl, arith}
use Rattle.persist_model.specs.Region.{Region}
use Rattle.persist_model.specs.Records.{IsAmong}
use Rattle.persist_model.specs.State.{State}
use Rattle.log_laws.specs.Recovering.{with_heap}
use Rattle.region_layout.specs.declared.layout.Layout.{Layout}
use Rattle.region_layout.specs.Layout.{layout_shape}
use Rattle.log_partition.specs.declared.used.UsedBuckets.{UsedBuckets}
use Rattle.recovery_undo.specs.declared.held.Held.{Held}
use Rattle.recovery_undo.specs.RecoveryAppends.{KnowsRegion}
use Rattle.recovery_run.specs.Edges.{KeepsWords}
use Rattle.recovery_run.specs.Reached.{HasSettled}
use Rattle.recovery_analysis.specs.declared.changing.Change.{Change}
use Rattle.recovery_analysis.specs.declared.grouping.Transaction.{Transaction}
use Rattle.recovery_analysis.specs.Grouping.{number_of}
use Rattle.recovery_analysis.specs.Changes.{stored}
use Rattle.recovery_analysis.proofs.Lists.{map_among}
use Rattle.recovery_run.proofs.Reaching.{settled_reached}
use Rattle.recovery_passes.proofs.Closed.{quiet_kept}
use Rattle.recovery_passes.specs.LoserPass.{Begins, Undoes}
use Rattle.recovery_passes.specs.Stages.{AreQuiet, MayStore}

module _ (layout : Layout) (first : State) (total : ℕ) (redo : List Change) (running : List Transaction) (held : Held) (region : Region)
    (h : Begins layout first total redo running held region) where
  -- the values may be stored
  pub may_store : MayStore (layout_shape layout) first redo
  may_store = record {
    above = λ c m. (h.words c m).0;
    below = λ c m. (h.words c m).1;
    covered = λ c m. h.redone.covered c m;
  }

  -- no value is for a word of the header, or of the lists
  pub stores_above : (a : ℕ) → a < 32 → (c : Change) → IsAmong redo c → a ≡ c.word → ⊥
  stores_above a lt c m e = let le = (h.words c m).0 in absurd (omega (arith, lt, le, e))

  -- what is to be undone, once all is stored again
  pub undo_begins : (table : UsedBuckets) (later : Region) → HasSettled (layout_shape layout) first (with_heap first (stored redo first.words)) later → AreQuiet (layout_shape layout) later →
      KnowsRegion layout table later → Undoes layout first total running (record held { table = table }) later
  undo_begins table later settled quiet knows = record {
    state = with_heap first (stored redo first.words);
    settled = settled;
    sound = h.sound;
    quiet = quiet;
    applied = h.redone.applied first.words;
    holds = record { next = h.next_is; gates = h.lists; table = knows };
    news = [];
    log = refl;
    of_losers = λ r m. absurd m;
    losers = λ t loser. (h.losers.each t).1 loser;
    each = λ t m. (
        let mine = (h.losers.each t.number).0 (map_among number_of running t m) in
        record { first = mine; loser = mine; records = (h.each t m).records; need = refl });
    ascending = h.losers.ascending;
    spare = h.spare;
    count = h.count;
  }

  pub undoes_at : (table : UsedBuckets) (middle later : Region) → layout.partitions ≤ 3 → HasSettled (layout_shape layout) first first middle → AreQuiet (layout_shape layout) middle →
      HasSettled (layout_shape layout) first (with_heap first (stored redo first.words)) later → KeepsWords (λ a. (c : Change) → IsAmong redo c → a ≡ c.word → ⊥) middle later →
      KnowsRegion layout table later → Undoes layout first total running (record held { table = table }) later
  undoes_at table middle later few settled quiet there keeps knows =
      undo_begins table later there
      (quiet_kept (λ a. (c : Change) → IsAmong redo c → a ≡ c.word → ⊥) (layout_shape layout) first first (with_heap first (stored redo first.words)) middle later
      (settled_reached (layout_shape layout) first first middle settled) there keeps (λ a lt. stores_above a lt) few quiet) knows
