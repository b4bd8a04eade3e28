-- What is kept of the records that were passed: of each transaction, of each word, and by number.
use Rattle.std.specs.Prelude.{◌≡◌, ℕ, ◌≤◌, Bool, false, ◌==◌, ◌&&◌, not, nat_lt, if◌then◌else◌, length, Option, Some, None, unwrap_or, is_some}
use Rattle.std.specs.List.{list_any}
use Rattle.std.specs.BTreeMap.{BTreeMap, get}
use Rattle.std.specs.declared.cmp.Ordering.{Ordering}
use Rattle.std.specs.Ordering.{nat_cmp, ordering_then}
use Rattle.persist_model.specs.Records.{Record, Log}
use Rattle.persist_model.specs.Kinds.{COMMITTED, END, ROLLBACK}
use Rattle.persist_model.specs.Order.{is_kind_of, undo_point, last_new}
use Rattle.persist_model.specs.Need.{is_of, has_of, has_kind_of, to_undo}
use Rattle.bucket_log.specs.declared.scanning.Placed.{Placed}
use Rattle.bucket_log.specs.Scans.{record_of_placed}
use Rattle.log_tables.specs.declared.seen.Seen.{Seen}
use Rattle.log_tables.specs.declared.seen.Seen.TheVariants.{Nothing}
use Rattle.log_tables.specs.declared.summaries.Summary.{Summary}
use Rattle.log_tables.specs.declared.summaries.Summaries.{Summaries}
use Rattle.log_tables.specs.Seen.{has_other}

-- ---- questions to a log

-- a record of t stands outside the part p
abbrev pub has_outside : (ℕ → ℕ) → ℕ → ℕ → Log → Bool
has_outside part t p log = list_any (λ (s : Record). is_of t s && not (part s.at == p)) log

-- an end of t commits it
abbrev pub has_commit_of : ℕ → Log → Bool
has_commit_of t log = list_any (λ (s : Record). is_kind_of t END s && (s.outcome == COMMITTED)) log

-- an end of t has a number below n
abbrev pub has_end_below : ℕ → ℕ → Log → Bool
has_end_below t n log = list_any (λ (s : Record). is_kind_of t END s && nat_lt s.lsn n) log

-- ---- a transaction

-- the least number of an end is below n
abbrev pub is_end_below : Option ℕ → ℕ → Bool
is_end_below None n = false
is_end_below (Some number) n = nat_lt number n

-- what the records of t in this log come to
pub record IsSummary (part : ℕ → ℕ) (s : Summary) (t : ℕ) (log : Log) : Type 0 where
  pub some : s.has_record ≡ has_of t log
  pub parts : (p : ℕ) → has_other s.parts p ≡ has_outside part t p log
  pub rollback : s.has_rollback ≡ has_kind_of t ROLLBACK log
  pub commit : s.has_commit ≡ has_commit_of t log
  pub end : is_some s.first_end ≡ has_kind_of t END log
  pub below : (n : ℕ) → is_end_below s.first_end n ≡ has_end_below t n log
  pub point : s.undo_point ≡ undo_point t log
  pub count : s.undo_count ≡ length (to_undo t log)
  pub bound : s.undo_count ≤ length log

abbrev pub no_summary : Summary
no_summary = record {
  has_record = false;
  parts = Nothing;
  has_rollback = false;
  has_commit = false;
  first_end = None;
  undo_point = 0;
  undo_count = 0;
}

abbrev pub summary_of : Summaries → ℕ → Summary
summary_of all t = unwrap_or (get nat_cmp all.table t) no_summary

abbrev pub AreSummaries : (ℕ → ℕ) → Summaries → Log → Type 0
AreSummaries part all log = (t : ℕ) → IsSummary part (summary_of all t) t log

-- ---- tables

-- what a table has at a key behind a put
abbrev pub after_put : {X : Type 0} → ℕ → X → Option X → ℕ → Option X
after_put key value before q = if key == q then Some value else before

-- the order of keys that are a transaction and a word
abbrev pub pair_cmp : ℕ × ℕ → ℕ × ℕ → Ordering
pair_cmp a b = ordering_then (nat_cmp a.0 b.0) (nat_cmp a.1 b.1)

-- the record that was found, if one was, passes a test
abbrev pub holds_found : (Record → Bool) → Option Placed → Bool
holds_found f None = false
holds_found f (Some u) = f (record_of_placed u)

-- the only record with each number
abbrev pub AreNumbers : BTreeMap ℕ Placed → Log → Type 0
AreNumbers numbers log = (f : Record → Bool) (n : ℕ) → list_any (λ (s : Record). (s.lsn == n) && f s) log ≡ holds_found f (get nat_cmp numbers n)

-- the value after each transaction's last change of each word
abbrev pub AreNews : BTreeMap (ℕ × ℕ) ℕ → Log → Type 0
AreNews news log = (t a d : ℕ) → last_new t a d log ≡ unwrap_or (get pair_cmp news (t, a)) d

-- a marked record of another transaction than t names the word a
abbrev pub has_claim : (Record → Bool) → ℕ → ℕ → Log → Bool
has_claim marks a t log = list_any (λ (s : Record). marks s && ((s.word == a) && not (s.transaction == t))) log

-- the transactions whose marked records name each word
abbrev pub AreClaims : (Record → Bool) → BTreeMap ℕ Seen → Log → Type 0
AreClaims marks claims log = (a t : ℕ) → has_other (unwrap_or (get nat_cmp claims a) Nothing) t ≡ has_claim marks a t log
