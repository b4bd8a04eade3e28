-- Behind the undo all records may be closed, at once or behind a checkpoint record.
use Rattle.std.proofs.Common.{◌≡◌, ◌≢◌, ◌⊎◌, inl, inr, ℕ, ◌<◌, [], ◌∷◌, ◌++◌, sym, subst, arith}
use Rattle.persist_model.specs.Region.{Region}
use Rattle.persist_model.specs.Records.{Record, Log, IsAmong, IsNewer, IsNewestFirst, IsSkipped, IsLoser}
use Rattle.persist_model.specs.Standing.{IsToRedo}
use Rattle.persist_model.specs.State.{State, HasOpen, IsSoundState}
use Rattle.region_layout.specs.declared.layout.Layout.{Layout}
use Rattle.region_layout.specs.Layout.{layout_shape, policy_number}
use Rattle.log_laws.proofs.Keeping.{loser_open}
use Rattle.recovery_run.specs.declared.gates.Gates.{Gates}
use Rattle.recovery_run.proofs.Reaching.{settled_reached, reached_sound}
use Rattle.recovery_undo.specs.declared.held.Held.{Held}
use Rattle.recovery_undo.specs.Checkpoint.{CanCheckpoint, IsCheckpointed}
use Rattle.recovery_passes.specs.LoserPass.{Undoes, IsReady}

among_append : (xs ys : Log) (r : Record) → IsAmong (xs ++ ys) r → IsAmong xs r ⊎ IsAmong ys r
among_append [] ys r m = inr m
among_append (x ∷ xs) ys r (inl e) = inl (inl e)
among_append (x ∷ xs) ys r (inr m) = elim (among_append xs ys r m) [ inl k ↦ inl (inr k) | inr k ↦ inr k ]

among_behind : (xs ys : Log) (r : Record) → IsAmong ys r → IsAmong (xs ++ ys) r
among_behind [] ys r m = m
among_behind (x ∷ xs) ys r m = inr (among_behind xs ys r m)

newer_front : (xs ys : Log) (r s : Record) → IsNewestFirst (xs ++ ys) → IsAmong xs r → IsAmong ys s → IsNewer r s
newer_front [] ys r s first m k = absurd m
newer_front (x ∷ xs) ys r s first (inl e) k = subst (λ z. IsNewer z s) (sym e) (first.0 s (among_behind xs ys s k))
newer_front (x ∷ xs) ys r s first (inr m) k = newer_front xs ys r s first.1 m k

not_older : (r s : Record) → IsNewer r s → r.lsn < s.lsn → ⊥
not_older r s (inl lt) k = absurd (omega (arith, lt, k))
not_older r s (inr e) k = (let same = e.0 in absurd (omega (arith, same, k)))

-- what is skipped stays skipped behind more records
skipped_behind : (news log : Log) (t : ℕ) → IsSkipped log t → IsSkipped (news ++ log) t
skipped_behind news log t k = (k.0, among_behind news log k.0 k.1, (k.2.0, (k.2.1.0, among_behind news log k.2.1.0 k.2.1.1, k.2.1.2)))

-- and nothing becomes so by newer records that are no checkpoint records
skipped_before : (news log : Log) (t : ℕ) → IsNewestFirst (news ++ log) → ((r : Record) → IsAmong news r → r.kind ≢ 5) → IsSkipped (news ++ log) t → IsSkipped log t
skipped_before news log t first plain k =
    elim (among_append news log k.2.1.0 k.2.1.1) [
      | inl new ↦ absurd (plain k.2.1.0 new k.2.1.2.0)
      | inr old ↦ elim (among_append news log k.0 k.1) [
        | inl new_end ↦ absurd (not_older k.0 k.2.1.0 (newer_front news log k.0 k.2.1.0 first new_end old) k.2.1.2.1)
        | inr old_end ↦ (k.0, old_end, (k.2.0, (k.2.1.0, old, k.2.1.2)))
      ]
    ]

module _ (layout : Layout) (first : State) (total : ℕ) (held : Held) (region : Region) (h : Undoes layout first total [] held region) where
  over : (t : ℕ) → IsLoser h.state.log t → ⊥
  over t loser = h.losers t loser

  newest_first : IsNewestFirst (h.news ++ first.log)
  newest_first = subst IsNewestFirst h.log (reached_sound (layout_shape layout) first h.state region (settled_reached (layout_shape layout) first h.state region h.settled) h.sound).0.newest_first

  opened : HasOpen first.log → HasOpen h.state.log
  opened k = subst HasOpen (sym h.log) (k.0, among_behind h.news first.log k.0 k.1, (k.2.0, (λ skipped. k.2.1 (skipped_before h.news first.log k.0.transaction newest_first (λ r m. (h.of_losers r m).1) skipped))))

  -- a record that would be redone leaves the log open
  would_open : (a : ℕ) (r : Record) → IsAmong h.state.log r → IsToRedo (policy_number layout.policy) h.state.log a r → HasOpen first.log
  would_open a r m k = elim (among_append h.news first.log r (subst (λ l. IsAmong l r) h.log m)) [
    | inl new ↦ loser_open first.log r.transaction (h.of_losers r new).0
    | inr old ↦ (r, old, (not_five k.1, (λ skipped. k.4 (subst (λ l. IsSkipped l r.transaction) (sym h.log) (skipped_behind h.news first.log r.transaction skipped)))))
  ]
    where
      not_five : (r.kind ≡ 1) ⊎ (r.kind ≡ 2) → r.kind ≢ 5
      not_five (inl one) five = absurd (omega (arith, one, five))
      not_five (inr two) five = absurd (omega (arith, two, five))

  pub ready_plain : (((policy_number layout.policy) ≡ 2) × HasOpen first.log → ⊥) → IsReady layout first held.gates region
  ready_plain none = record {
    state = h.state;
    settled = h.settled;
    sound = h.sound;
    quiet = h.quiet;
    close = record { lists = h.holds.gates; over = over; applied = h.applied; redone = λ a r m k. none (k.0, would_open a r m k) };
  }

  pub can_checkpoint : (policy_number layout.policy) ≡ 2 → HasOpen first.log → CanCheckpoint layout held first h.state region
  can_checkpoint two is_open = record {
    settled = h.settled;
    sound = h.sound;
    quiet = h.quiet;
    no_force = two;
    opened = opened is_open;
    over = over;
    applied = h.applied;
    holds = h.holds;
    fits = h.spare.of_checkpoints;
  }

pub ready_checkpointed : (layout : Layout) (first y : State) (before : Gates) (held : Held) (region : Region) → IsSoundState (layout_shape layout) first →
    IsCheckpointed layout before first y held region → IsReady layout first held.gates region
ready_checkpointed layout first y before held region sound k = record {
  state = record { log = k.checkpoint ∷ y.log; words = y.words; room = k.room };
  settled = k.settled;
  sound = sound;
  quiet = k.quiet;
  close = record { lists = k.holds.gates; over = k.over; applied = k.applied; redone = k.redone };
}
