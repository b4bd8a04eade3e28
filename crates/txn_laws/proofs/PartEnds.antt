-- Behind a part's last event, whatever it was.
use Rattle.std.proofs.Common.{◌≡◌, ◌≢◌, ℕ, ◌+◌, ◌<◌, if◌then◌else◌, List, length, refl, sym, ap, ◌∙◌, subst, arith}
use Rattle.persist_model.specs.declared.event.Event.{Event}
use Rattle.persist_model.specs.Region.{Words, Region}
use Rattle.persist_model.specs.Shape.{Shape, IsShape}
use Rattle.persist_model.specs.State.{State, IsSoundState}
use Rattle.bucket_log.specs.PartWords.{AreOnPart}
use Rattle.log_keeper.specs.Parts.{LogPart, plan_of, words_behind, CanRun}
use Rattle.log_keeper.specs.Making.{is_over, settled_by, gone_on, made_part}
use Rattle.log_keeper.specs.Logged.{Keeping, resting, ended, plan_in, IsLoggedAt}
use Rattle.log_keeper.specs.Events.{IsLastEvent, region_made}
use Rattle.log_keeper.proofs.Progressing.{by_part, size_after, part_on, words_outside}
use Rattle.log_keeper.proofs.Orders.{orders_keep}
use Rattle.log_keeper.proofs.Runs.{runs_keep, parts_spare}
use Rattle.log_keeper.proofs.Made.{over_yes}
use Rattle.history_laws.specs.Stands.{IsHeader}
use Rattle.history_laws.specs.UnderWay.{UnderWay, nothing, run_of}
use Rattle.history_laws.proofs.Headers.{header_is_none's, same_shape, is_shape}
use Rattle.txn_laws.specs.Txns.{Txn, txn_at}
use Rattle.txn_laws.specs.PartsOf.{Fits, IsPartIn}
use Rattle.txn_laws.specs.Going.{with_under}
use Rattle.txn_laws.specs.Worlds.{IsLogOf}

made_ends : (shape : Shape) (k : Keeping) (p : ℕ) → (k.runs p).made + 1 ≡ length (plan_in shape k p) → made_part shape p k ≡ ended p (settled_by (k.runs p).part k.ledger) k
made_ends shape k p last =
    ap (λ t. if t then ended p (settled_by (k.runs p).part k.ledger) k else gone_on (is_over (plan_in shape k p) ((k.runs p).made + 2)) p (k.runs p) k)
    (over_yes (plan_in shape k p) ((k.runs p).made + 1) (omega (arith, last)))

module _ (shape : Shape) (base : Words) (s : State) (chains : ℕ → List ℕ) (k : Keeping) (next : ℕ) (region : Region) (p : ℕ) (e : Event) (part : LogPart)
    (last : IsLastEvent shape k p e part) (log : IsLogOf shape base s chains k next region) where
  abbrev later : Words
  later = words_behind shape p part base

  inside : p < shape.partitions
  inside = last.event.inside

  on : AreOnPart shape p (plan_of shape p part)
  on = part_on shape p base s (chains p) part log.logged.allowed inside log.logged.has (subst (CanRun shape p base s (chains p)) last.under_way (log.logged.can p inside))

  header_same : (a : ℕ) → IsHeader a → later a ≡ base a
  header_same a header = words_outside shape p base part on a (header_is_none's shape p a (let few = log.logged.allowed.partitions.1 in omega (arith, few, inside)) header)

  pub log_settled : (y : State) (after_chains : ℕ → List ℕ) → IsSoundState shape y → IsLoggedAt shape later y after_chains (made_part shape p k) (region_made k p e region) →
      IsLogOf shape later y after_chains (made_part shape p k) next (region_made k p e region)
  log_settled y after_chains sound logged = record {
    of_shape = same_shape region.size base later log.header header_same ∙ log.of_shape;
    header = subst (λ n. IsShape n later) (sym (size_after region (k.holder p) e)) (is_shape region.size base later log.header header_same);
    logged = logged;
    sound = sound;
    ordered = orders_keep.made shape p next k log.ordered;
    fits = runs_keep.made shape p k inside log.ordered.newest_first (parts_spare shape base s chains k region p inside log.fits log.logged) log.fits;
    numbers = log.numbers;
  }

-- nothing is under way in the partition, and elsewhere what fits on
pub parts_settled : (shape : Shape) (s y : State) (h : Words) (k : Keeping) (lanes lanes_later : List Txn) (under : ℕ → UnderWay) (p : ℕ) →
    (k.runs p).made + 1 ≡ length (plan_in shape k p) → ((q : ℕ) → q < shape.partitions → IsPartIn shape s h k lanes q (under q)) →
    ((q : ℕ) → q < shape.partitions → q ≢ p → Fits shape y h q (txn_at lanes_later (k.holder q)) (under q)) →
    (q : ℕ) → q < shape.partitions → IsPartIn shape y h (made_part shape p k) lanes_later q (with_under p nothing under q)
parts_settled shape s y h k lanes lanes_later under p last parts others q lt =
    subst (λ (x : Keeping). IsPartIn shape y h x lanes_later q (with_under p nothing under q)) (sym (made_ends shape k p last)) (record {
      run = by_part (λ n t. n < shape.partitions → (if t then resting else k.runs n) ≡ run_of (if t then nothing else under n)) p q (λ inside. refl) (λ ne inside. (parts q inside).run) lt;
      fits = by_part (λ n t. n < shape.partitions → Fits shape y h n (txn_at lanes_later (k.holder n)) (if t then nothing else under n)) p q (λ inside. tt) (λ ne inside. others q inside ne) lt;
    })
