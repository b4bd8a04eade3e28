-- A record that comes into the middle of a log keeps the order rule.
use Rattle.std.proofs.Common.{◌≡◌, ◌≢◌, inl, inr, ℕ, ◌<◌, false, ◌==◌, ◌&&◌, ◌||◌, if◌then◌else◌, [], ◌∷◌, refl, sym, ap, ◌∙◌, subst, arith}
use Rattle.std.proofs.lemmas.Bool.Decides.{nat_tests}
use Rattle.persist_model.specs.Records.{Record, Log, IsAmong, NamesWord, IsRunning}
use Rattle.persist_model.specs.Order.{is_kind_of, undo_point, last_new, UndoesWell, Bars, Follows, FollowEach}
use Rattle.plan_records.specs.Passing.{inserted, MayPass}
use Rattle.plan_records.proofs.Passing.{compared, inserted_in, inserted_out, inserted_fold}

-- ---- a transaction's last change

off : (x : Record) (t : ℕ) → x.transaction ≢ t → (x.transaction == t) ≡ false
off x t ne = grind (arith, nat_tests)

pub point_other : (t : ℕ) (x : Record) (log : Log) → x.transaction ≢ t → undo_point t (x ∷ log) ≡ undo_point t log
point_other t x log ne = let no_match = off x t ne in rw no_match refl

pub new_other : (t a d : ℕ) (x : Record) (log : Log) → x.transaction ≢ t → last_new t a d (x ∷ log) ≡ last_new t a d log
new_other t a d x log ne = let no_match = off x t ne in rw no_match refl

abbrev point_step : ℕ → Record → ℕ → ℕ
point_step t r n = if is_kind_of t 1 r then r.lsn else (if is_kind_of t 2 r then r.undo_next else n)

abbrev new_step : ℕ → ℕ → Record → ℕ → ℕ
new_step t a r n = if (is_kind_of t 1 r || is_kind_of t 2 r) && (r.word == a) then r.after else n

point_inserted : (t : ℕ) (r : Record) (log : Log) → r.transaction ≢ t → undo_point t (inserted r log) ≡ undo_point t log
point_inserted t r log ne =
    let no_match = off r t ne in
    inserted_fold (undo_point t) (point_step t) (λ x l. refl) r log (λ x m lt z. rw no_match refl) ∙ point_other t r log ne

new_inserted : (t a d : ℕ) (r : Record) (log : Log) → r.transaction ≢ t → last_new t a d (inserted r log) ≡ last_new t a d log
new_inserted t a d r log ne =
    let no_match = off r t ne in
    inserted_fold (last_new t a d) (new_step t a) (λ x l. refl) r log (λ x m lt z. rw no_match refl) ∙ new_other t a d r log ne

-- ---- what is asked of one record

bars_names : (log : Log) (s : Record) → Bars log s → NamesWord s
bars_names log s (inl k) = k.0
bars_names log s (inr k) = inr k.0

pub passes_other : (r x : Record) → MayPass r x → x.transaction ≢ r.transaction
passes_other r x may e = may.other (e, may.no_checkpoint)

module _ (part : ℕ → ℕ) (all : Log) (r x : Record) (may : MayPass r x) where
  -- what r asks holds without x, which is another transaction's
  follows_without : (earlier : Log) → Follows part all (x ∷ earlier) r → Follows part all earlier r
  follows_without earlier h = record {
    fresh = λ s m e. h.fresh s (inr m) e;
    one_part = λ s m k. h.one_part s (inr m) k;
    not_ended = λ s m k. h.not_ended s (inr m) k;
    word = λ names s m k. h.word names s (inr m) k;
    undo = λ ne running. well (h.undo ne running);
  }
    where
      other : x.transaction ≢ r.transaction
      other = passes_other r x may

      well : UndoesWell (x ∷ earlier) r → UndoesWell earlier r
      well w = record {
        no_rollback = λ k s m p. w.no_rollback k s (inr m) p;
        undo_next = λ u. w.undo_next u ∙ point_other r.transaction x earlier other;
        before = λ u. w.before u ∙ new_other r.transaction r.word r.before x earlier other;
        compensates = λ c. (let k = w.compensates c in (
          k.0,
          record {
            among = elim k.1.among [ inl e ↦ absurd (other (ap (λ (y : Record). y.transaction) (sym e) ∙ k.1.owner)) | inr m ↦ m ];
            update = k.1.update;
            owner = k.1.owner;
            point = k.1.point ∙ point_other r.transaction x earlier other;
          },
          k.2,
        ));
      }

  -- what x asks holds with r, which is another transaction's and names another word
  follows_with : (earlier : Log) → r.lsn < x.lsn → Follows part all earlier x → Follows part all (inserted r earlier) x
  follows_with earlier lt h = record {
    fresh = λ s m e. elim (inserted_out r earlier s m) [
      | inl same ↦ (let is : s.lsn ≡ r.lsn = ap (λ (y : Record). y.lsn) same in absurd (omega (arith, is, e, lt)))
      | inr k ↦ h.fresh s k e
    ];
    one_part = λ s m k. elim (inserted_out r earlier s m) [ inl same ↦ apart s same k.0.0 | inr j ↦ h.one_part s j k ];
    not_ended = λ s m k. elim (inserted_out r earlier s m) [ inl same ↦ apart s same k.0.0 | inr j ↦ h.not_ended s j k ];
    word = λ names s m k. elim (inserted_out r earlier s m) [
      | inl same ↦ may.word (subst NamesWord same (bars_names all s k.2)) names (sym k.0 ∙ ap (λ (y : Record). y.word) same)
      | inr j ↦ h.word names s j k
    ];
    undo = λ ne running. well (h.undo ne running);
  }
    where
      other : r.transaction ≢ x.transaction
      other e = passes_other r x may (sym e)

      apart : (s : Record) → s ≡ r → s.transaction ≢ x.transaction
      apart s same e = other (ap (λ (y : Record). y.transaction) (sym same) ∙ e)

      well : UndoesWell earlier x → UndoesWell (inserted r earlier) x
      well w = record {
        no_rollback = λ k s m p. elim (inserted_out r earlier s m) [ inl same ↦ apart s same p.0.0 | inr j ↦ w.no_rollback k s j p ];
        undo_next = λ u. w.undo_next u ∙ sym (point_inserted x.transaction r earlier other);
        before = λ u. w.before u ∙ sym (new_inserted x.transaction x.word x.before r earlier other);
        compensates = λ c. (let k = w.compensates c in (
          k.0,
          record {
            among = inserted_in r earlier k.0 (inr k.1.among);
            update = k.1.update;
            owner = k.1.owner;
            point = k.1.point ∙ sym (point_inserted x.transaction r earlier other);
          },
          k.2,
        ));
      }

-- ---- what is asked of each

pub follow_each_inserted : (part : ℕ → ℕ) (all : Log) (r : Record) (log : Log) → ((x : Record) → IsAmong log x → r.lsn < x.lsn → MayPass r x) →
    Follows part all log r → FollowEach part all log → FollowEach part all (inserted r log)
follow_each_inserted part all r [] newer follows each = (follows, tt)
follow_each_inserted part all r (x ∷ log) newer follows each = elim (compared r.lsn x.lsn) [
  | inl lt ↦ (
      let may = newer x (inl refl) lt.1 in
      rw lt.0 (
        follows_with part all r x may log lt.1 each.0,
        follow_each_inserted part all r log (λ y m. newer y (inr m)) (follows_without part all r x may log follows) each.1,
      ))
  | inr ge ↦ (rw ge.0 (follows, each))
]

-- ---- a log of the same transactions

module _ (part : ℕ → ℕ) (all later : Log) (running : (t : ℕ) → IsRunning later t → IsRunning all t) (bars : (s : Record) → Bars later s → Bars all s) where
  pub follows_alike : (earlier : Log) (r : Record) → Follows part all earlier r → Follows part later earlier r
  follows_alike earlier r h = record {
    fresh = h.fresh;
    one_part = h.one_part;
    not_ended = h.not_ended;
    word = λ names s m k. h.word names s m (k.0, k.1, bars s k.2);
    undo = λ ne runs. h.undo ne (running r.transaction runs);
  }

  pub follow_each_alike : (log : Log) → FollowEach part all log → FollowEach part later log
  follow_each_alike [] each = tt
  follow_each_alike (r ∷ log) each = (follows_alike log r each.0, follow_each_alike log each.1)
