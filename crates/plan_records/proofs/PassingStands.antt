-- A record that comes into the middle of a log leaves the standing values that it would leave as the last one.
use Rattle.std.proofs.Common.{◌≡◌, ◌≢◌, inl, inr, ℕ, ◌<◌, ◌≤◌, ◌∷◌, refl, sym, ap, ◌∙◌, subst, arith}
use Rattle.persist_model.specs.Region.{Words}
use Rattle.persist_model.specs.Records.{Record, Log, IsAmong, Has, HasNo, IsEndOf, IsCheckpoint, NamesWord, IsEnded, IsRunning, IsCommitted, IsSkipped}
use Rattle.persist_model.specs.Standing.{IsToUndo, IsToDelete, IsToRedo, IsEarliest, IsLatest, Stands, undone, deleted, redone, kept}
use Rattle.persist_model.specs.Order.{Bars}
use Rattle.persist_model.specs.State.{HasOpen}
use Rattle.plan_records.specs.Passing.{inserted, renumbered, Passes}
use Rattle.plan_records.proofs.Passing.{compared, inserted_in, inserted_out}

module _ (log : Log) (r : Record) (top : ℕ) (own : r.lsn ≤ top) (above : (x : Record) → IsAmong log x → x.lsn < top) (passes : Passes log r) where
  -- r as the last record
  abbrev raised : Record
  raised = renumbered top r

  abbrev last : Log
  last = raised ∷ log

  abbrev middle : Log
  middle = inserted r log

  here : IsAmong middle r
  here = inserted_in r log r (inl refl)

  there : (x : Record) → IsAmong log x → IsAmong middle x
  there x m = inserted_in r log x (inr m)

  -- ---- which records there are

  has_in : (P Q : Record → Type 0) → ((x : Record) → IsAmong log x → P x → Q x) → (P raised → Q r) → Has P last → Has Q middle
  has_in P Q to at_r h = elim h.1 [ inl e ↦ (r, here, at_r (subst P e h.2)) | inr m ↦ (h.0, there h.0 m, to h.0 m h.2) ]

  has_out : (P Q : Record → Type 0) → ((x : Record) → IsAmong log x → Q x → P x) → (Q r → P raised) → Has Q middle → Has P last
  has_out P Q back at_r h = elim (inserted_out r log h.0 h.1) [ inl e ↦ (raised, inl refl, at_r (subst Q e h.2)) | inr m ↦ (h.0, inr m, back h.0 m h.2) ]

  none_in : (P Q : Record → Type 0) → ((x : Record) → IsAmong log x → Q x → P x) → (Q r → P raised) → HasNo P last → HasNo Q middle
  none_in P Q back at_r none x m q = elim (inserted_out r log x m) [ inl e ↦ none raised (inl refl) (at_r (subst Q e q)) | inr k ↦ none x (inr k) (back x k q) ]

  none_out : (P Q : Record → Type 0) → ((x : Record) → IsAmong log x → P x → Q x) → (P raised → Q r) → HasNo Q middle → HasNo P last
  none_out P Q to at_r none x m p = elim m [ inl e ↦ none r here (at_r (subst P e p)) | inr k ↦ none x (there x k) (to x k p) ]

  -- ---- how their transactions stand

  pub running_in : (t : ℕ) → IsRunning last t → IsRunning middle t
  running_in t h = none_in (IsEndOf t) (IsEndOf t) (λ x m p. p) (λ p. p) h

  pub running_out : (t : ℕ) → IsRunning middle t → IsRunning last t
  running_out t h = none_out (IsEndOf t) (IsEndOf t) (λ x m p. p) (λ p. p) h

  ended_in : (t : ℕ) → IsEnded last t → IsEnded middle t
  ended_in t h = has_in (IsEndOf t) (IsEndOf t) (λ x m p. p) (λ p. p) h

  ended_out : (t : ℕ) → IsEnded middle t → IsEnded last t
  ended_out t h = has_out (IsEndOf t) (IsEndOf t) (λ x m p. p) (λ p. p) h

  abbrev IsCommitOf : ℕ → Record → Type 0
  IsCommitOf t e = IsEndOf t e × (e.outcome ≡ 1)

  committed_in : (t : ℕ) → IsCommitted last t → IsCommitted middle t
  committed_in t h = has_in (IsCommitOf t) (IsCommitOf t) (λ x m p. p) (λ p. p) h

  committed_out : (t : ℕ) → IsCommitted middle t → IsCommitted last t
  committed_out t h = has_out (IsCommitOf t) (IsCommitOf t) (λ x m p. p) (λ p. p) h

  pub bars_out : (s : Record) → Bars middle s → Bars last s
  bars_out s (inl k) = inl (k.0, running_out s.transaction k.1)
  bars_out s (inr k) = inr (k.0, committed_out s.transaction k.1)

  abbrev Before : Log → Record → Type 0
  Before log e = Has (λ c. IsCheckpoint c × (e.lsn < c.lsn)) log

  -- no checkpoint record is newer than r, and r is none where there are newer records
  before_in : (e : Record) → IsAmong log e → Before last e → Before middle e
  before_in e m h = elim h.1 [
    | inl same ↦ (let check : IsCheckpoint r = ap (λ (x : Record). x.kind) (sym same) ∙ h.2.0 in (r, here, (check, passes.checkpoint check e m)))
    | inr k ↦ (h.0, there h.0 k, h.2)
  ]

  before_out : (e : Record) → IsAmong log e → Before middle e → Before last e
  before_out e m h = elim (inserted_out r log h.0 h.1) [
    | inl same ↦ (raised, inl refl, (ap (λ (x : Record). x.kind) (sym same) ∙ h.2.0, above e m))
    | inr k ↦ (h.0, inr k, h.2)
  ]

  none_before_last : Before last raised → ⊥
  none_before_last h =
      let lt = h.2.1 in
      elim h.1 [
        | inl same ↦ (let is : h.0.lsn ≡ top = ap (λ (x : Record). x.lsn) same in omega (arith, is, lt))
        | inr k ↦ (let less = above h.0 k in omega (arith, lt, less))
      ]

  none_before_middle : Before middle r → ⊥
  none_before_middle h =
      let lt = h.2.1 in
      elim (inserted_out r log h.0 h.1) [
        | inl same ↦ (let is : h.0.lsn ≡ r.lsn = ap (λ (x : Record). x.lsn) same in omega (arith, is, lt))
        | inr k ↦ (passes.newer h.0 k lt).no_checkpoint h.2.0
      ]

  abbrev Skips : Log → ℕ → Record → Type 0
  Skips all t e = IsEndOf t e × Before all e

  skipped_in : (t : ℕ) → IsSkipped last t → IsSkipped middle t
  skipped_in t h = has_in (Skips last t) (Skips middle t) (λ e m k. (k.0, before_in e m k.1)) (λ k. absurd (none_before_last k.1)) h

  skipped_out : (t : ℕ) → IsSkipped middle t → IsSkipped last t
  skipped_out t h = has_out (Skips last t) (Skips middle t) (λ e m k. (k.0, before_out e m k.1)) (λ k. absurd (none_before_middle k.1)) h

  abbrev IsOpen : Log → Record → Type 0
  IsOpen all x = (x.kind ≢ 5) × (IsSkipped all x.transaction → ⊥)

  pub open_out : HasOpen middle → HasOpen last
  open_out h = has_out (IsOpen last) (IsOpen middle) (λ x m k. (k.0, λ s. k.1 (skipped_in x.transaction s))) (λ k. (k.0, λ s. k.1 (skipped_in r.transaction s))) h

  -- ---- what they are to a word

  undo_in : (a : ℕ) (x : Record) → IsToUndo last a x → IsToUndo middle a x
  undo_in a x h = (h.0, h.1, running_in x.transaction h.2)

  undo_out : (a : ℕ) (x : Record) → IsToUndo middle a x → IsToUndo last a x
  undo_out a x h = (h.0, h.1, running_out x.transaction h.2)

  delete_in : (a : ℕ) (x : Record) → IsToDelete last a x → IsToDelete middle a x
  delete_in a x h = (h.0, h.1, committed_in x.transaction h.2)

  delete_out : (a : ℕ) (x : Record) → IsToDelete middle a x → IsToDelete last a x
  delete_out a x h = (h.0, h.1, committed_out x.transaction h.2)

  redo_in : (policy a : ℕ) (x : Record) → IsToRedo policy last a x → IsToRedo policy middle a x
  redo_in policy a x h = (h.0, h.1, h.2, ended_in x.transaction h.3, λ k. h.4 (skipped_out x.transaction k))

  redo_out : (policy a : ℕ) (x : Record) → IsToRedo policy middle a x → IsToRedo policy last a x
  redo_out policy a x h = (h.0, h.1, h.2, ended_out x.transaction h.3, λ k. h.4 (skipped_in x.transaction k))

  -- ---- the earliest and the latest of a word

  -- of the records of a word r is newest
  older : (a : ℕ) (x : Record) → IsAmong log x → NamesWord x → x.word ≡ a → NamesWord r → r.word ≡ a → x.lsn < r.lsn
  older a x m names at names_r at_r = elim (compared r.lsn x.lsn) [
    | inl lt ↦ absurd ((passes.newer x m lt.1).word names_r names (at ∙ sym at_r))
    | inr ge ↦ (let le = ge.1 in let ne = passes.fresh x m in omega (arith, le, ne))
  ]

  module _ (P Q : Record → Type 0) (to : (x : Record) → P x → Q x) (back : (x : Record) → Q x → P x) (down : P raised → P r) (up : P r → P raised)
      (before_r : (x : Record) → IsAmong log x → P x → P r → x.lsn < r.lsn) where
    earliest_in : (u : Record) → IsEarliest P last u → (y : Record) × IsEarliest Q middle y × (u.before ≡ y.before)
    earliest_in u h = elim h.among [
      | inl e ↦ (
        r,
        record {
          among = here;
          has = to r (down (subst P e h.has));
          first = λ s m q. elim (inserted_out r log s m) [
            | inl same ↦ (let is : s.lsn ≡ r.lsn = ap (λ (x : Record). x.lsn) same in omega (arith, is))
            | inr k ↦ (let le = h.first s (inr k) (back s q) in let lt = above s k in let is : u.lsn ≡ top = ap (λ (x : Record). x.lsn) e in absurd (omega (arith, le, lt, is)))
          ];
        },
        ap (λ (x : Record). x.before) e,
      )
      | inr k ↦ (
        u,
        record {
          among = there u k;
          has = to u h.has;
          first = λ s m q. elim (inserted_out r log s m) [
            | inl same ↦ (let is : s.lsn ≡ r.lsn = ap (λ (x : Record). x.lsn) same in let lt = before_r u k h.has (subst P same (back s q)) in omega (arith, is, lt))
            | inr j ↦ h.first s (inr j) (back s q)
          ];
        },
        refl,
      )
    ]

    earliest_out : (y : Record) → IsEarliest Q middle y → (u : Record) × IsEarliest P last u × (y.before ≡ u.before)
    earliest_out y h = elim (inserted_out r log y h.among) [
      | inl e ↦ (
        raised,
        record {
          among = inl refl;
          has = up (subst P e (back y h.has));
          first = λ s m p. elim m [
            | inl same ↦ (let is : s.lsn ≡ top = ap (λ (x : Record). x.lsn) same in omega (arith, is))
            | inr k ↦ (let le = h.first s (there s k) (to s p) in let lt = before_r s k p (subst P e (back y h.has)) in let is : y.lsn ≡ r.lsn = ap (λ (x : Record). x.lsn) e in
                absurd (omega (arith, le, lt, is)))
          ];
        },
        ap (λ (x : Record). x.before) e,
      )
      | inr k ↦ (
        y,
        record {
          among = inr k;
          has = back y h.has;
          first = λ s m p. elim m [
            | inl same ↦ (let is : s.lsn ≡ top = ap (λ (x : Record). x.lsn) same in let lt = above y k in omega (arith, is, lt))
            | inr j ↦ h.first s (there s j) (to s p)
          ];
        },
        refl,
      )
    ]

    latest_in : (u : Record) → IsLatest P last u → (y : Record) × IsLatest Q middle y × (u.after ≡ y.after)
    latest_in u h = elim h.among [
      | inl e ↦ (let p = down (subst P e h.has) in (
        r,
        record {
          among = here;
          has = to r p;
          last = λ s m q. elim (inserted_out r log s m) [
            | inl same ↦ (let is : s.lsn ≡ r.lsn = ap (λ (x : Record). x.lsn) same in omega (arith, is))
            | inr k ↦ (let lt = before_r s k (back s q) p in omega (arith, lt))
          ];
        },
        ap (λ (x : Record). x.after) e,
      ))
      | inr k ↦ (
        u,
        record {
          among = there u k;
          has = to u h.has;
          last = λ s m q. elim (inserted_out r log s m) [
            | inl same ↦ (let le = h.last raised (inl refl) (up (subst P same (back s q))) in let lt = above u k in absurd (omega (arith, le, lt)))
            | inr j ↦ h.last s (inr j) (back s q)
          ];
        },
        refl,
      )
    ]

    latest_out : (y : Record) → IsLatest Q middle y → (u : Record) × IsLatest P last u × (y.after ≡ u.after)
    latest_out y h = elim (inserted_out r log y h.among) [
      | inl e ↦ (
        raised,
        record {
          among = inl refl;
          has = up (subst P e (back y h.has));
          last = λ s m p. elim m [
            | inl same ↦ (let is : s.lsn ≡ top = ap (λ (x : Record). x.lsn) same in omega (arith, is))
            | inr k ↦ (let lt = above s k in omega (arith, lt))
          ];
        },
        ap (λ (x : Record). x.after) e,
      )
      | inr k ↦ (
        y,
        record {
          among = inr k;
          has = back y h.has;
          last = λ s m p. elim m [
            | inl same ↦ (let q = down (subst P same p) in let le = h.last r here (to r q) in let lt = before_r y k (back y h.has) q in absurd (omega (arith, le, lt)))
            | inr j ↦ h.last s (there s j) (to s p)
          ];
        },
        refl,
      )
    ]

  -- ---- the standing values

  module _ (policy : ℕ) (w : Words) (a : ℕ) where
    before_undo : (x : Record) → IsAmong log x → IsToUndo last a x → IsToUndo last a r → x.lsn < r.lsn
    before_undo x m p q = older a x m (inl (inl p.0)) p.1 (inl (inl q.0)) q.1

    before_redo : (x : Record) → IsAmong log x → IsToRedo policy last a x → IsToRedo policy last a r → x.lsn < r.lsn
    before_redo x m p q = older a x m (inl p.1) p.2 (inl q.1) q.2

    no_undo_in : HasNo (IsToUndo last a) last → HasNo (IsToUndo middle a) middle
    no_undo_in none = none_in (IsToUndo last a) (IsToUndo middle a) (λ x m. undo_out a x) (undo_out a r) none

    no_undo_out : HasNo (IsToUndo middle a) middle → HasNo (IsToUndo last a) last
    no_undo_out none = none_out (IsToUndo last a) (IsToUndo middle a) (λ x m. undo_in a x) (undo_in a raised) none

    no_delete_in : HasNo (IsToDelete last a) last → HasNo (IsToDelete middle a) middle
    no_delete_in none = none_in (IsToDelete last a) (IsToDelete middle a) (λ x m. delete_out a x) (delete_out a r) none

    no_delete_out : HasNo (IsToDelete middle a) middle → HasNo (IsToDelete last a) last
    no_delete_out none = none_out (IsToDelete last a) (IsToDelete middle a) (λ x m. delete_in a x) (delete_in a raised) none

    no_redo_in : HasNo (IsToRedo policy last a) last → HasNo (IsToRedo policy middle a) middle
    no_redo_in none = none_in (IsToRedo policy last a) (IsToRedo policy middle a) (λ x m. redo_out policy a x) (redo_out policy a r) none

    no_redo_out : HasNo (IsToRedo policy middle a) middle → HasNo (IsToRedo policy last a) last
    no_redo_out none = none_out (IsToRedo policy last a) (IsToRedo policy middle a) (λ x m. redo_in policy a x) (redo_in policy a raised) none

    pub stands_in : (v : ℕ) → Stands policy last w a v → Stands policy middle w a v
    stands_in v (undone u first e) =
        let k = earliest_in (IsToUndo last a) (IsToUndo middle a) (undo_in a) (undo_out a) (λ p. p) (λ p. p) before_undo u first in undone k.0 k.1 (e ∙ k.2)
    stands_in v (deleted none d e) = deleted (no_undo_in none) (has_in (IsToDelete last a) (IsToDelete middle a) (λ x m. delete_in a x) (delete_in a raised) d) e
    stands_in v (redone nu nd u latest e) =
        let k = latest_in (IsToRedo policy last a) (IsToRedo policy middle a) (redo_in policy a) (redo_out policy a) (λ p. p) (λ p. p) before_redo u latest in
        redone (no_undo_in nu) (no_delete_in nd) k.0 k.1 (e ∙ k.2)
    stands_in v (kept nu nd nr e) = kept (no_undo_in nu) (no_delete_in nd) (no_redo_in nr) e

    pub stands_out : (v : ℕ) → Stands policy middle w a v → Stands policy last w a v
    stands_out v (undone u first e) =
        let k = earliest_out (IsToUndo last a) (IsToUndo middle a) (undo_in a) (undo_out a) (λ p. p) (λ p. p) before_undo u first in undone k.0 k.1 (e ∙ k.2)
    stands_out v (deleted none d e) = deleted (no_undo_out none) (has_out (IsToDelete last a) (IsToDelete middle a) (λ x m. delete_out a x) (delete_out a r) d) e
    stands_out v (redone nu nd u latest e) =
        let k = latest_out (IsToRedo policy last a) (IsToRedo policy middle a) (redo_in policy a) (redo_out policy a) (λ p. p) (λ p. p) before_redo u latest in
        redone (no_undo_out nu) (no_delete_out nd) k.0 k.1 (e ∙ k.2)
    stands_out v (kept nu nd nr e) = kept (no_undo_out nu) (no_delete_out nd) (no_redo_out nr) e
