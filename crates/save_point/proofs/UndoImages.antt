-- Each image that going back leaves is sound, with the same standing words, and its transaction is open in it.
use Rattle.std.proofs.Common.{◌≡◌, ◌⊎◌, inl, inr, ℕ, ◌≤◌, if◌then◌else◌, nat_lt, List, [], ◌∷◌, refl, sym, ap, ◌∙◌, subst, arith}
use Rattle.persist_model.specs.Kinds.{COMPENSATION}
use Rattle.persist_model.specs.declared.event.Event.{Event}
use Rattle.persist_model.specs.Region.{Words}
use Rattle.persist_model.specs.Records.{Record, Log, IsAmong, HasNo, IsOf, IsRollback, IsRunning}
use Rattle.persist_model.specs.Shape.{Shape, heap, words_of_shape, heap_words, part_of}
use Rattle.persist_model.specs.State.{State, IsSoundState}
use Rattle.persist_model.specs.Sound.{HasState}
use Rattle.log_laws.specs.Closing.{IsSublog}
use Rattle.log_laws.specs.Recovery.{HasDecidingRecord}
use Rattle.log_laws.proofs.Closings.{part_among}
use Rattle.log_laws.proofs.Recovering.{same_log, state_with_heap}
use Rattle.region_layout.specs.declared.cell.Cell.{Cell}
use Rattle.region_layout.specs.declared.layout.Policy.{Policy}
use Rattle.region_layout.specs.declared.layout.Policy.TheVariants.{Force, NoForce}
use Rattle.bucket_log.specs.declared.append.Place.{Place}
use Rattle.log_clearing.specs.Closed.{AreGroups, IsListed}
use Rattle.log_clearing.specs.Clearing.{AreDeferred, IsDropping}
use Rattle.log_clearing.proofs.PartPlans.{closings_are_on_part}
use Rattle.log_clearing.proofs.ClearingStates.{sound_with_heap, droppings_keep}
use Rattle.plan_records.specs.declared.parts.Part.{Part}
use Rattle.plan_records.specs.declared.parts.Part.TheVariants.{Append, Word}
use Rattle.plan_records.specs.Cells.{appended}
use Rattle.plan_records.specs.Sequences.{store_of}
use Rattle.plan_records.specs.Passing.{inserted}
use Rattle.plan_records.specs.Appends.{MayAppend, AppendKeeps, Keeps, seen, with_record}
use Rattle.plan_records.specs.Courses.{own_records, IsCoveredStore}
use Rattle.plan_records.proofs.OwnRecords.{own_in, own_out}
use Rattle.plan_records.proofs.Passing.{inserted_out}
use Rattle.plan_records.proofs.Records.{stores_keep}
use Rattle.plan_records.proofs.Going.{going_all}
use Rattle.save_point.specs.Conditions.{CanGoBack, AreOwnDeletions, Undoes}
use Rattle.save_point.specs.Images.{IsOpenImage, IsStoredIn, BacksKeep, GatesServe}
use Rattle.save_point.proofs.UndoCourse.{Stays, Fits, compensates, restores, HasUpdated, fits, stays_open, rolls_nowhere, backs_go_on}

-- t runs, and has no rollback record
record IsOpen (t : ℕ) (log : Log) : Type 0 where
  pub running : IsRunning log t
  pub not_rolled : HasNo (λ x. IsOf t x × IsRollback x) log

open_there : (shape : Shape) (p t : ℕ) (first : Log) (x : State) → Stays shape p t first (own_records t x.log) → IsOpen t x.log
open_there shape p t first x stays = record { running = (going_all shape p t x.log stays.going).running; not_rolled = rolls_nowhere shape p t first x stays }

open_more : (t : ℕ) (c : Record) (log : Log) → c.kind ≡ COMPENSATION → IsOpen t log → IsOpen t (inserted c log)
open_more t c log two h = record {
  running = λ e m end. elim (inserted_out c log e m) [
    | inl same ↦ (let four = end.0 in let k : e.kind ≡ COMPENSATION = ap (λ (y : Record). y.kind) same ∙ two in absurd (omega (arith, four, k)))
    | inr k ↦ h.running e k end
  ];
  not_rolled = λ x m roll. elim (inserted_out c log x m) [
    | inl same ↦ (let three = roll.1 in let k : x.kind ≡ COMPENSATION = ap (λ (y : Record). y.kind) same ∙ two in absurd (omega (arith, three, k)))
    | inr k ↦ h.not_rolled x k roll
  ];
}

open_image : (shape : Shape) (t : ℕ) (v : Words) (s x : State) → IsOpen t x.log → Keeps shape v s x → IsOpenImage shape t (seen shape v s) v
open_image shape t v s x h keeps = record {
  state = seen shape v x;
  has = keeps.has;
  sound = keeps.sound;
  standing = keeps.standing;
  running = h.running;
  not_rolled = h.not_rolled;
}

-- ---- appends

append_kind : (policy : Policy) (shape : Shape) (p t : ℕ) (left first o : Log) (cell : Cell) (others : List Part) → Fits policy shape p t left first o (Append cell ∷ others) → cell.kind ≡ COMPENSATION
append_kind policy shape p t left first o _ _ (compensates u us stays before) = refl

append_kept : (policy : Policy) (shape : Shape) (p t : ℕ) (s : State) (us : List Cell) (left : Log) (cell : Cell) (others : List Part) (x : State)
    (w : Words) (chain : List ℕ) (place : Place) (number : ℕ) → CanGoBack shape p t s.log us left → Undoes policy shape p t s us (Append cell ∷ others) x →
    MayAppend shape p w x chain place (appended place number cell) → cell.kind ≡ COMPENSATION → AppendKeeps shape p w x place (appended place number cell) (λ h. Unit {0})
append_kept policy shape p t s us left cell others x w chain place number can course may two =
    (backs_go_on policy shape p t s us left can (Append cell) others x course w chain place number may).keeps
    (λ one. absurd (omega (arith, one, two))) (λ four. absurd (omega (arith, four, two))) (λ six. absurd (omega (arith, six, two))) (λ three. absurd (omega (arith, three, two)))

-- ---- stores

heap_at : (shape : Shape) (w v : Words) (a : ℕ) → v a ≡ w a → heap_words shape v a ≡ heap_words shape w a
heap_at shape w v a e = ap (λ n. if nat_lt a (heap shape) then 0 else (if nat_lt a (words_of_shape shape) then n else 0)) e

-- where the store is of a word of the heap that a record decides
stored_image : (shape : Shape) (t : ℕ) (x : State) (w v : Words) (b u : ℕ) → IsOpen t x.log → HasState shape w (seen shape w x) → IsSoundState shape x →
    HasDecidingRecord shape.policy x.log b → heap shape ≤ b → ((a : ℕ) → (v a ≡ w a) ⊎ ((a ≡ b) × (v a ≡ u))) → IsOpenImage shape t (seen shape w x) v
stored_image shape t x w v b u h has sound decided high same = record {
  state = seen shape v x;
  has = state_with_heap shape w v (seen shape w x) (same_log shape w v (λ a low. elim (same a) [
    | inl e ↦ e
    | inr k ↦ (let e = k.0 in absurd (omega (arith, low, high, e)))
  ])) has;
  sound = sound_with_heap shape x (heap_words shape v) sound;
  standing = stores_keep shape.policy x (heap_words shape w) (heap_words shape v) (λ a. elim (same a) [
    | inl e ↦ inl (heap_at shape w v a e)
    | inr k ↦ inr (subst (HasDecidingRecord shape.policy x.log) (sym k.0) decided)
  ]);
  running = h.running;
  not_rolled = h.not_rolled;
}

-- the word of an update is of the heap
high_word : (shape : Shape) (t : ℕ) (x : State) (a : ℕ) → IsSoundState shape x → HasUpdated t (own_records t x.log) a → heap shape ≤ a
high_word shape t x a sound has = subst (λ b. heap shape ≤ b) has.2.1 ((sound.formed has.0 (own_out t x.log has.0 has.1).0).change (inl has.2.0)).0.0

stores_image : (policy : Policy) (shape : Shape) (p t : ℕ) (left first : Log) (e : Event) (others : List Part) (x : State) (w v : Words) →
    Fits policy shape p t left first (own_records t x.log) (Word e ∷ others) → IsCoveredStore shape.policy x.log e →
    HasState shape w (seen shape w x) → IsSoundState shape x → IsStoredIn e w v → IsOpenImage shape t (seen shape w x) v
stores_image policy shape p t left first _ _ x w v (restores u us stays before has) covered there sound stored = by policy covered stored
  where
    by : (q : Policy) → IsCoveredStore shape.policy x.log (store_of q u.word u.before) → IsStoredIn (store_of q u.word u.before) w v → IsOpenImage shape t (seen shape w x) v
    by Force decided same = stored_image shape t x w v u.word u.before (open_there shape p t first x stays) there sound decided (high_word shape t x u.word sound has) same
    by NoForce decided same = stored_image shape t x w v u.word u.before (open_there shape p t first x stays) there sound decided (high_word shape t x u.word sound has) same

-- ---- the closing

pub own_deletions : (shape : Shape) (p t : ℕ) (s x : State) (gates : List ℕ) → Stays shape p t (own_records t s.log) (own_records t x.log) → AreOwnDeletions t s.log gates →
    AreOwnDeletions t x.log gates
own_deletions shape p t s x gates stays own a m =
    let d = own a m in
    let of : IsOf t d.0 = (d.2.1.1, λ five. (let six = d.2.1.0 in absurd (omega (arith, five, six)))) in
    let there = (stays.deletions d.0 d.2.1).1 (own_in t s.log d.0 d.1 of) in
    (d.0, (own_out t x.log d.0 there).0, d.2)

pub are_deferred : (t : ℕ) (log : Log) (gates : List ℕ) → IsRunning log t → AreOwnDeletions t log gates → AreDeferred log gates
are_deferred t log gates running own a m = let d = own a m in (d.0, d.1, (d.2.0, (d.2.1.0, subst (IsRunning log) (sym d.2.1.1) running)))

-- a log without some deletions is as open
pub open_less : (P : Record → Type 0) (t : ℕ) (later log : Log) → IsSublog P later log → IsRunning log t × HasNo (λ x. IsOf t x × IsRollback x) log →
    IsRunning later t × HasNo (λ x. IsOf t x × IsRollback x) later
open_less P t later log part h = ((λ e m end. h.0 e (part_among P later log part e m) end), (λ x m roll. h.1 x (part_among P later log part x m) roll))

dropping_image : (shape : Shape) (t : ℕ) (x : State) (v : Words) (gates : List ℕ) → IsOpen t x.log → IsDropping shape v x gates → IsOpenImage shape t (seen shape v x) v
dropping_image shape t x v gates h drops =
    let k = open_less _ t drops.state.log x.log drops.part (h.running, h.not_rolled) in
    record {
      state = drops.state;
      has = drops.has;
      sound = drops.sound;
      standing = drops.keeps;
      running = k.0;
      not_rolled = k.1;
    }

pub backs_keep : BacksKeep
backs_keep = record {
  appends = λ policy shape p t s us left cell others x w chain place number k v can course may reached.
      (let two = append_kind policy shape p t left (own_records t s.log) (own_records t x.log) cell others (fits policy shape p t s us left (Append cell ∷ others) x can course) in
      let open_x = open_there shape p t (own_records t s.log) x (stays_open policy shape p t s us left (Append cell ∷ others) x can course) in
      elim ((append_kept policy shape p t s us left cell others x w chain place number can course may two).images k v tt reached) [
        | inl keeps ↦ open_image shape t v x x open_x keeps
        | inr keeps ↦ open_image shape t v x (with_record p x (appended place number cell)) (open_more t (appended place number cell) x.log two open_x) keeps
      ]);
  stores = λ policy shape p t s us left e others x w v can course has sound stored.
      stores_image policy shape p t left (own_records t s.log) e others x w v (fits policy shape p t s us left (Word e ∷ others) x can course)
      (backs_go_on policy shape p t s us left can (Word e) others x course) has sound stored;
  closes = λ policy shape p t s us left gates x w k v few can own course has sound reached.
      (let stays = stays_open policy shape p t s us left [] x can course in
      let open_x = open_there shape p t (own_records t s.log) x stays in
      dropping_image shape t x v gates open_x (droppings_keep shape w v x gates k few has sound
      (are_deferred t x.log gates open_x.running (own_deletions shape p t s x gates stays own)) reached));
}

-- ---- the deletions

not_another : (gates : List ℕ) (r : Record) → IsListed gates [] [] r → IsAmong gates r.at
not_another gates r (inl m) = m
not_another gates r (inr (inl m)) = absurd m
not_another gates r (inr (inr m)) = absurd m

pub own_groups : (t : ℕ) (log : Log) (gates : List ℕ) → AreOwnDeletions t log gates → AreGroups log gates [] []
own_groups t log gates own = record {
  of_gates = λ a m. (let d = own a m in let six = d.2.1.0 in
      (d.0, d.1, (d.2.0, (λ four. absurd (omega (arith, four, six))), (λ five. absurd (omega (arith, five, six))))));
  of_ends = λ a m. absurd m;
  of_checkpoints = λ a m. absurd m;
}

pub gates_serve : GatesServe
gates_serve = record {
  own = λ policy shape p t s us left gates others x can own course. own_deletions shape p t s x gates (stays_open policy shape p t s us left others x can course) own;
  deferred = are_deferred;
  on_part = λ shape p t w x gates allowed has going own. closings_are_on_part shape p w x gates [] [] allowed has (own_groups t x.log gates own) (λ r m listed.
      (let d = own r.at (not_another gates r listed) in
      ap (part_of shape) (sym d.2.0) ∙ going.in_part d.0 d.1 (d.2.1.1, λ five. (let six = d.2.1.0 in absurd (omega (arith, five, six))))));
}
