-- The log that a closing leaves.
use Rattle.std.proofs.Common.{◌≡◌, ◌⊎◌, inl, inr, ℕ, Bool, true, false, if◌then◌else◌, List, [], ◌∷◌, refl, sym, ap, ◌∙◌}
use Rattle.persist_model.specs.Region.{Words}
use Rattle.persist_model.specs.Records.{Record, Log, IsAmong, IsOf}
use Rattle.persist_model.specs.Need.{is_of}
use Rattle.persist_model.specs.Order.{IsInOrder}
use Rattle.log_laws.specs.Closing.{IsSublog, empty, stays, goes, IsClosing, MayClear}
use Rattle.log_laws.proofs.Clearing.{closed_by}
use Rattle.log_laws.proofs.Needs.{of_test}
use Rattle.log_clearing.specs.Closed.{IsListed}
use Rattle.log_keeper.specs.Ledger.{is_listed, left_open}
use Rattle.log_keeper.proofs.Groups.{listed_told, listed_found}
use Rattle.plan_records.specs.Courses.{own_records}

module _ (gates ends checkpoints : List ℕ) where
  abbrev left : Log → Log
  left log = left_open gates ends checkpoints log

  -- what is left was there, and isn't listed
  pub left_back : (log : Log) (r : Record) → IsAmong (left log) r → IsAmong log r × (is_listed gates ends checkpoints r.at ≡ false)
  left_back [] r m = absurd m
  left_back (x ∷ log) r m = by (is_listed gates ends checkpoints x.at) refl (left_back log r) m
    where
      by : (t : Bool) → is_listed gates ends checkpoints x.at ≡ t → (IsAmong (left log) r → IsAmong log r × (is_listed gates ends checkpoints r.at ≡ false)) →
          IsAmong (if t then left log else x ∷ left log) r → IsAmong (x ∷ log) r × (is_listed gates ends checkpoints r.at ≡ false)
      by true on further k = let f = further k in (inr f.0, f.1)
      by false off further (inl e) = (inl e, ap (λ (y : Record). is_listed gates ends checkpoints y.at) e ∙ off)
      by false off further (inr k) = let f = further k in (inr f.0, f.1)

  pub not_listed : (log : Log) (r : Record) → IsAmong (left log) r → IsListed gates ends checkpoints r → ⊥
  not_listed log r m on = let off = (left_back log r m).1 in let yes = listed_told gates ends checkpoints r.at on in let f : true ≡ false = sym yes ∙ off in cc

  pub left_stays : (log : Log) (r : Record) → IsAmong log r → (IsListed gates ends checkpoints r → ⊥) → IsAmong (left log) r
  left_stays [] r m off = m
  left_stays (x ∷ log) r m off = by (is_listed gates ends checkpoints x.at) refl (λ k. left_stays log r k off) m
    where
      by : (t : Bool) → is_listed gates ends checkpoints x.at ≡ t → (IsAmong log r → IsAmong (left log) r) → IsAmong (x ∷ log) r → IsAmong (if t then left log else x ∷ left log) r
      by true on further (inl e) = absurd (off (listed_found gates ends checkpoints r.at (ap (λ (y : Record). is_listed gates ends checkpoints y.at) e ∙ on)))
      by true on further (inr k) = further k
      by false off_here further (inl e) = inl e
      by false off_here further (inr k) = inr (further k)

  -- each record is left, or is listed
  pub left_or : (log : Log) (r : Record) → IsAmong log r → IsAmong (left log) r ⊎ IsListed gates ends checkpoints r
  left_or log r m = by (is_listed gates ends checkpoints r.at) refl
    where
      by : (t : Bool) → is_listed gates ends checkpoints r.at ≡ t → IsAmong (left log) r ⊎ IsListed gates ends checkpoints r
      by true on = inr (listed_found gates ends checkpoints r.at on)
      by false off = inl (left_stays log r m (λ on. (let yes = listed_told gates ends checkpoints r.at on in let f : true ≡ false = sym yes ∙ off in cc)))

  -- a transaction of which none is listed has its records
  pub own_left : (t : ℕ) (log : Log) → ((r : Record) → IsAmong log r → IsListed gates ends checkpoints r → IsOf t r → ⊥) → own_records t (left log) ≡ own_records t log
  own_left t [] none = refl
  own_left t (x ∷ log) none = by (is_listed gates ends checkpoints x.at) refl (own_left t log (λ r m. none r (inr m)))
    where
      by : (b : Bool) → is_listed gates ends checkpoints x.at ≡ b → own_records t (left log) ≡ own_records t log → own_records t (if b then left log else x ∷ left log) ≡ own_records t (x ∷ log)
      by true on same = elim (of_test t x) [
        | inl h ↦ absurd (none x (inl refl) (listed_found gates ends checkpoints x.at on) h.1)
        | inr h ↦ (rw h.0 same)
      ]
      by false off same = ap (λ l. if is_of t x then x ∷ l else l) same

  sublog : (all log : Log) → ((r : Record) → IsAmong log r → IsAmong all r) → IsSublog (λ r. IsListed gates ends checkpoints r × (IsAmong (left all) r → ⊥)) (left log) log
  sublog all [] inside = empty
  sublog all (x ∷ log) inside = by (is_listed gates ends checkpoints x.at) refl (sublog all log (λ r m. inside r (inr m)))
    where
      by : (b : Bool) → is_listed gates ends checkpoints x.at ≡ b → IsSublog (λ r. IsListed gates ends checkpoints r × (IsAmong (left all) r → ⊥)) (left log) log →
          IsSublog (λ r. IsListed gates ends checkpoints r × (IsAmong (left all) r → ⊥)) (if b then left log else x ∷ left log) (x ∷ log)
      by true on part = let listed = listed_found gates ends checkpoints x.at on in goes x (listed, λ m. not_listed all x m listed) part
      by false off part = stays x part

  -- where the records may be cleared it is a closing
  pub is_closing : (part : ℕ → ℕ) (policy : ℕ) (log : Log) (w : Words) → IsInOrder part log → MayClear policy log w (IsListed gates ends checkpoints) → IsClosing policy log w (left log)
  is_closing part policy log w order may = closed_by part policy log w (IsListed gates ends checkpoints) (left log) order may (record {
    part = sublog log log (λ r m. m);
    ends_second = λ e m gone end r k on. absurd (not_listed log r k on);
    checkpoints_last = λ c m gone check r k on. absurd (not_listed log r k on);
  })
