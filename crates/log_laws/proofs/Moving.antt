-- Each move of a running transaction keeps a state sound, with its standing values; and what the end of a commit does.
use Rattle.std.proofs.Common.{◌≡◌, ◌≢◌, inl, inr, ℕ, ◌∷◌, refl, sym, ap, ◌∙◌, subst, arith}
use Rattle.persist_model.specs.Records.{Record, Log, IsUpdate, IsEnd, IsRunning}
use Rattle.persist_model.specs.Order.{undo_point, last_new, Follows}
use Rattle.persist_model.specs.Shape.{Shape, part_of}
use Rattle.persist_model.specs.ImageRecords.{IsWellFormed}
use Rattle.persist_model.specs.State.{State, HasNumbers, IsSoundState}
use Rattle.log_laws.specs.Recovery.{grown, KeepsStanding}
use Rattle.log_laws.specs.Moves.{Arrives, MayName, Move, writes_words, adds_update, adds_deletion, adds_rollback, adds_compensation, adds_rolled_end, adds_checkpoint, drops_records, drops_deletions, MayCommit, StandsCommitted}
use Rattle.log_laws.proofs.Standings.{stands_stored}
use Rattle.log_laws.proofs.Growing.{IsAbove, order_grown, stands_noted, bars_before}
use Rattle.log_laws.proofs.Undoing.{IsInPart, fresh_above, rollback_follows, compensation_follows, end_follows, checkpoint_follows, stands_ended, stands_swept}
use Rattle.log_laws.proofs.Closings.{stands_closed}
use Rattle.log_laws.proofs.Committing.{IsCommitEnd, stands_updated, stands_deleted, stands_changed, stands_uncommitted}
use Rattle.log_laws.proofs.Deferring.{stands_left, deferred_sound}
use Rattle.log_laws.proofs.Keeping.{good_of, undone_of, top_is_next, closing_sound}

-- ---- the record may follow

-- what is asked of a record by which a running transaction names a word
names_follow : (part : ℕ → ℕ) (log : Log) (r : Record) → (IsEnd r → ⊥) → IsRunning log r.transaction → IsAbove r log → IsInPart part log r → MayName log r →
    (IsUpdate r → (r.undo_next ≡ undo_point r.transaction log) × (r.before ≡ last_new r.transaction r.word r.before log)) → r.kind ≢ 2 → Follows part (r ∷ log) log r
names_follow part log r is_not running above inside name update plain = record {
  fresh = fresh_above r log above;
  one_part = λ s m k. k.2 (inside s m k.0);
  not_ended = λ s m k. running s m (k.2, k.0.0);
  word = λ names s m k. name.free s m (k.0, k.1, bars_before r log (λ e. absurd (is_not e)) s k.2);
  undo = λ ne runs. record {
    no_rollback = λ _. name.not_rolled;
    undo_next = λ u. (update u).0;
    before = λ u. (update u).1;
    compensates = λ c. absurd (plain c);
  };
}

-- ---- a state with one record more

arrived : (shape : Shape) (s : State) (r : Record) (room : ℕ → ℕ) → IsSoundState shape s → Arrives shape s r room → (IsEnd r → IsRunning s.log r.transaction) →
    Follows (part_of shape) (r ∷ s.log) s.log r → IsSoundState shape (grown s r room)
arrived shape s r room h a end follows = record {
  newest_first = (λ x m. inl (a.above x m), h.newest_first);
  gates = λ x m. elim m [ inl e ↦ (λ z. a.gate (sym (ap (λ (y : Record). y.lsn) e) ∙ z)) | inr k ↦ h.gates x k ];
  formed = λ x m. elim m [ inl e ↦ subst (λ (y : Record). IsWellFormed shape y) (sym e) a.formed | inr k ↦ h.formed x k ];
  order = order_grown (part_of shape) r s.log end follows h.order;
  room = a.fits;
  numbers = λ x m. elim m [
    | inl e ↦ subst (λ (y : Record). HasNumbers shape (r ∷ s.log) y) (sym e) a.numbers
    | inr k ↦ (let lt = a.above x k in let u = a.numbers.undo in record {
      undo = omega (arith, lt, u);
      checkpoint = λ two o. (let c = a.numbers.checkpoint two o in omega (arith, lt, c));
    })
  ];
}

-- ---- all moves

pub moves_keep : (shape : Shape) (s x : State) → IsSoundState shape s → Move shape s x → IsSoundState shape x × KeepsStanding shape.policy s x
moves_keep shape s _ h (writes_words w same) = (
  record { newest_first = h.newest_first; gates = h.gates; formed = h.formed; order = h.order; room = h.room; numbers = h.numbers },
  λ a v st. stands_stored shape.policy s.log s.words w a v (same a) st,
)
moves_keep shape s _ h (adds_update u room a of is name may) = (
  arrived shape s u room h a (λ e. absurd (omega (arith, is, e)))
      (names_follow (part_of shape) s.log u (λ e. absurd (omega (arith, is, e))) of.running a.above of.one_part name (λ _. (may.undo_next, may.last)) (λ e. absurd (omega (arith, is, e)))),
  stands_updated shape.policy s.log s.words u is of.running a.above may.standing,
)
moves_keep shape s _ h (adds_deletion d room a of is name) = (
  arrived shape s d room h a (λ e. absurd (omega (arith, is, e)))
      (names_follow (part_of shape) s.log d (λ e. absurd (omega (arith, is, e))) of.running a.above of.one_part name (λ u. absurd (omega (arith, is, u))) (λ e. absurd (omega (arith, is, e)))),
  stands_noted shape.policy s.log s.words d (λ e. absurd (omega (arith, is, e)), λ e. absurd (omega (arith, is, e))) (λ e. absurd (omega (arith, is, e))) of.running,
)
moves_keep shape s _ h (adds_rollback r room a of is fresh) = (
  arrived shape s r room h a (λ e. absurd (omega (arith, is, e))) (rollback_follows (part_of shape) s.log r is of.running a.above of.one_part fresh),
  stands_noted shape.policy s.log s.words r (λ e. absurd (omega (arith, is, e)), λ e. absurd (omega (arith, is, e))) (λ e. absurd (omega (arith, is, e))) of.running,
)
moves_keep shape s _ h (adds_compensation c u stack room a of is shape_is comp) = (
  arrived shape s c room h a (λ e. absurd (omega (arith, is, e)))
      (compensation_follows (part_of shape) s.log c u h.order is of.running a.above of.one_part (top_is_next shape s c.transaction u stack h of.running shape_is) comp),
  stands_noted shape.policy s.log s.words c (λ e. absurd (omega (arith, is, e)), λ e. absurd (omega (arith, is, e))) (λ e. absurd (omega (arith, is, e))) of.running,
)
moves_keep shape s _ h (adds_rolled_end e room a of is outcome left stored) = (
  arrived shape s e room h a (λ _. of.running) (end_follows (part_of shape) s.log e is of.running a.above of.one_part),
  stands_ended (part_of shape) shape.policy e.transaction s.log s.words e (good_of shape s h) (undone_of shape s e.transaction h of.running left stored)
      (record { end = is; owner = refl; outcome = λ one. absurd (omega (arith, outcome, one)); above = a.above }),
)
moves_keep shape s _ h (adds_checkpoint c room a is swept) = (
  arrived shape s c room h a (λ e. absurd (omega (arith, is, e))) (checkpoint_follows (part_of shape) s.log c is a.above),
  stands_swept shape.policy s.log s.words c is a.above swept,
)
moves_keep shape s _ h (drops_records later room c more) =
    (closing_sound shape s later room h c more, stands_closed shape.policy s.log s.words later c)
moves_keep shape s _ h (drops_deletions later room part more) =
    (deferred_sound shape s later room h part more, stands_left s.log later part shape.policy s.words)

-- ---- the end of a commit

pub commits_keep : (shape : Shape) (s : State) (e : Record) (room : ℕ → ℕ) → IsSoundState shape s → MayCommit shape s e room →
    IsSoundState shape (grown s e room) × StandsCommitted shape.policy s e.transaction (grown s e room)
commits_keep shape s e room h c =
    let ends : IsCommitEnd e.transaction s.log e = record { end = c.end; owner = refl; outcome = c.outcome; above = c.arrives.above; running = c.of.running } in (
      arrived shape s e room h c.arrives (λ _. c.of.running) (end_follows (part_of shape) s.log e c.end c.of.running c.arrives.above c.of.one_part),
      record {
        deleted = λ a d. stands_deleted (part_of shape) shape.policy e.transaction s.log s.words e (good_of shape s h) ends a d;
        changed = λ a r free last. stands_changed (part_of shape) shape.policy e.transaction s.log s.words e (good_of shape s h) ends a r free last (λ force. c.forced force a r free last);
        others = λ a v free unchanged st. stands_uncommitted shape.policy e.transaction s.log s.words e ends a v free unchanged st;
      },
    )
