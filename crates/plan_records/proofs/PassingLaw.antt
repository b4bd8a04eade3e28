-- A record may come into the middle of a log, behind newer records that may be there before it.
use Rattle.std.proofs.Common.{◌≡◌, ◌≢◌, inl, inr, ℕ, ◌<◌, ◌≤◌, ◌∷◌, refl, sym, ap, ◌∙◌, subst, arith}
use Rattle.persist_model.specs.Records.{Record, Log, IsAmong}
use Rattle.persist_model.specs.Shape.{part_of}
use Rattle.persist_model.specs.Order.{Compensates, Follows}
use Rattle.persist_model.specs.ImageRecords.{IsWellFormed}
use Rattle.persist_model.specs.Need.{need_in}
use Rattle.persist_model.specs.State.{total_need, HasNumbers}
use Rattle.log_laws.proofs.Needs.{total_same}
use Rattle.plan_records.specs.Passing.{inserted, renumbered, PassingsKeep}
use Rattle.plan_records.proofs.Passing.{inserted_out, inserted_newest_first}
use Rattle.plan_records.proofs.PassingOrder.{passes_other, follow_each_inserted, follows_alike, follow_each_alike}
use Rattle.plan_records.proofs.PassingStands.{running_out, bars_out, open_out, stands_in, stands_out}
use Rattle.plan_records.proofs.PassingNeeds.{need_in_inserted}

-- what is asked of the last record is asked of r, but that its number is fresh
follows_renumbered : (part : ℕ → ℕ) (all log : Log) (r : Record) (top : ℕ) → ((x : Record) → IsAmong log x → x.lsn ≢ r.lsn) → Follows part all log (renumbered top r) → Follows part all log r
follows_renumbered part all log r top fresh h = record {
  fresh = λ s m e. fresh s m e;
  one_part = h.one_part;
  not_ended = h.not_ended;
  word = h.word;
  undo = λ ne running. (let w = h.undo ne running in record { no_rollback = w.no_rollback; undo_next = w.undo_next; before = w.before; compensates = λ c. (let k = w.compensates c in (k.0, k.1, again k.0 k.2)) });
}
  where
    again : (u : Record) → Compensates (renumbered top r) u → Compensates r u
    again u k = record { word = k.word; before = k.before; after = k.after; undo_next = k.undo_next }

pub passings_keep : PassingsKeep
passings_keep shape s r room top gate own above passes sound = (
  record {
    newest_first = inserted_newest_first r s.log passes.fresh sound.newest_first.1;
    gates = λ x m. elim (inserted_out r s.log x m) [ inl e ↦ (λ z. gate (ap (λ (y : Record). y.lsn) (sym e) ∙ z)) | inr k ↦ sound.gates x (inr k) ];
    formed = λ x m. elim (inserted_out r s.log x m) [ inl e ↦ subst (λ (y : Record). IsWellFormed shape y) (sym e) formed | inr k ↦ sound.formed x (inr k) ];
    order = follow_each_inserted part middle r s.log passes.newer
        (follows_alike part last middle (running_out s.log r top own above passes) (bars_out s.log r top own above passes) s.log r
        (follows_renumbered part last s.log r top passes.fresh sound.order.0))
        (follow_each_alike part last middle (running_out s.log r top own above passes) (bars_out s.log r top own above passes) s.log sound.order.1);
    room = λ p lt. (let h = sound.room p lt in let n = need p in let u = h.undo in record {
      undo = omega (arith, n, u);
      checkpoint = λ zero two o. (let c = h.checkpoint zero two (open_out s.log r top own above passes o) in omega (arith, n, c));
    });
    numbers = λ x m. elim (inserted_out r s.log x m) [
      | inl e ↦ (let is : x.lsn ≡ r.lsn = ap (λ (y : Record). y.lsn) e in numbers_at (renumbered top r) (inl refl) x (omega (arith, is, own)))
      | inr k ↦ numbers_at x (inr k) x (omega arith)
    ];
  },
  λ a v. (stands_in s.log r top own above passes shape.policy s.words a v, stands_out s.log r top own above passes shape.policy s.words a v),
)
  where
    part : ℕ → ℕ
    part = part_of shape

    last : Log
    last = renumbered top r ∷ s.log

    middle : Log
    middle = inserted r s.log

    others : (x : Record) → IsAmong s.log x → r.lsn < x.lsn → x.transaction ≢ r.transaction
    others x m lt = passes_other r x (passes.newer x m lt)

    need : (p : ℕ) → need_in part p middle ≡ need_in part p last
    need p = need_in_inserted part p top r s.log others

    total : total_need part shape.partitions middle ≡ total_need part shape.partitions last
    total = total_same part shape.partitions last middle (λ p lt. need p)

    formed : IsWellFormed shape r
    formed = let h = sound.formed (renumbered top r) (inl refl) in
        record { kind = h.kind; transaction = h.transaction; change = h.change; deletion = h.deletion; outcome = h.outcome }

    numbers_at : (y : Record) → IsAmong last y → (x : Record) → x.lsn ≤ y.lsn → HasNumbers shape middle x
    numbers_at y m x le = let h = sound.numbers y m in let u = h.undo in record {
      undo = omega (arith, le, total, u);
      checkpoint = λ two o. (let c = h.checkpoint two (open_out s.log r top own above passes o) in omega (arith, le, total, c));
    }
