-- How far a part has come, in words that agree on its partition, and which plans may run.
use Rattle.std.proofs.Common.{◌≡◌, ◌≢◌, inl, inr, ℕ, zero, suc, ◌+◌, ◌<◌, ◌==◌, Bool, true, false, List, [], ◌∷◌, ◌++◌, take, Some, slice_get, refl, sym, ap, ◌∙◌, subst, arith}
use Rattle.std.proofs.lemmas.Bool.Decides.{eqb_tells}
use Rattle.persist_model.specs.declared.event.Event.{Event}
use Rattle.persist_model.specs.declared.event.Event.TheVariants.{Store, PStore, WriteBack, Fence}
use Rattle.persist_model.specs.Region.{Words, Region, after}
use Rattle.persist_model.specs.Progress.{Progress, write, latest, start, advance, advance_all, IsDurable, IsWordOf, Tracks, IsAside, AreSettledAt}
use Rattle.persist_model.specs.Runs.{progress_at}
use Rattle.persist_model.proofs.Tracking.{Tracks-aside, Tracks-settled}
use Rattle.persist_model.proofs.Projecting.{IsFixed-start, IsFixed-aways}
use Rattle.log_laws.specs.Parts.{AreDurable}
use Rattle.log_laws.proofs.Views.{AreAway-stores}
use Rattle.persist_model.specs.Records.{Log, IsAmong}
use Rattle.persist_model.specs.Shape.{Shape}
use Rattle.persist_model.specs.State.{State}
use Rattle.persist_model.specs.Sound.{HasState}
use Rattle.region_layout.specs.Layout.{IsAllowed}
use Rattle.atomic_list.specs.Plans.{removal}
use Rattle.bucket_log.specs.Plans.{append_plan}
use Rattle.bucket_log.specs.Words.{IsPartWord}
use Rattle.bucket_log.specs.PartWords.{IsOnPart, AreOnPart}
use Rattle.bucket_log.proofs.Appended.{AreDurable-out, append_durable}
use Rattle.bucket_log.proofs.PartWords.{part_stores, appends_are_on_part}
use Rattle.log_clearing.specs.Plans.{closes as closes_gates, group}
use Rattle.log_clearing.specs.Closed.{AreGroups}
use Rattle.log_clearing.proofs.PartPlans.{removals_are_on_part, closings_are_on_part}
use Rattle.log_keeper.specs.declared.slots.TheConstants.{NOBODY}
use Rattle.log_keeper.specs.Parts.{LogPart, rests, appends, closes, takes_back, drops, AreDeletions, plan_of, waits_for, words_behind, IsListedGate, CanRun}

-- ---- tests of partitions

pub by_part : (P : ℕ → Bool → Type 0) (p q : ℕ) → P p true → (q ≢ p → P q false) → P q (q == p)
by_part P p q here there = elim (eqb_tells q p) [
  | inl e ↦ subst (P q) (sym e.0) (subst (λ n. P n true) (sym e.1) here)
  | inr e ↦ subst (P q) (sym e.0) (there e.1)
]

-- ---- progress

pending_alike : (p q : Progress) (es : List Event) → p.pending ≡ q.pending → (advance_all p es).pending ≡ (advance_all q es).pending
pending_alike p q [] e = e
pending_alike p q (Store a v ∷ es) e = pending_alike p q es e
pending_alike p q (PStore a v ∷ es) e = pending_alike (advance p (PStore a v)) (advance q (PStore a v)) es (ap (λ ws. ws ++ write a v ∷ []) e)
pending_alike p q (WriteBack a ∷ es) e = pending_alike p q es e
pending_alike p q (Fence ∷ es) e = pending_alike (advance p Fence) (advance q Fence) es refl

pub durable_alike : (p q : Progress) (a : ℕ) (es : List Event) → p.pending ≡ q.pending → p.durable a ≡ q.durable a → (advance_all p es).durable a ≡ (advance_all q es).durable a
durable_alike p q a [] e d = d
durable_alike p q a (Store b v ∷ es) e d = durable_alike p q a es e d
durable_alike p q a (PStore b v ∷ es) e d = durable_alike (advance p (PStore b v)) (advance q (PStore b v)) a es (ap (λ ws. ws ++ write b v ∷ []) e) d
durable_alike p q a (WriteBack b ∷ es) e d = durable_alike p q a es e d
durable_alike p q a (Fence ∷ es) e d =
    durable_alike (advance p Fence) (advance q Fence) a es refl (ap (λ ws. latest ws a (p.durable a)) e ∙ ap (latest q.pending a) d)

-- what is pending hangs on the plan alone
pub pending_same : (w v : Words) (es : List Event) → (advance_all (start w) es).pending ≡ (advance_all (start v) es).pending
pending_same w v es = pending_alike (start w) (start v) es refl

-- words that agree on A are tracked alike
pub tracks_alike : (A : ℕ → Type 0) (lane : ℕ) (w v : Words) (plan : List Event) (k : ℕ) (region : Region) → ((a : ℕ) → A a → v a ≡ w a) →
    Tracks A lane (progress_at w plan k) region → Tracks A lane (progress_at v plan k) region
tracks_alike A lane w v plan k region same h = λ a m.
    subst (λ ws. IsWordOf (lane + 1) ((progress_at v plan k).durable a) ws a (region.at a)) (pending_same w v (take k plan))
    (subst (λ d. IsWordOf (lane + 1) d (progress_at w plan k).pending a (region.at a)) (durable_alike (start w) (start v) a (take k plan) refl (sym (same a m))) (h a m))

-- where nothing is pending, words are settled
pub settled_of : (A : ℕ → Type 0) (lane : ℕ) (p : Progress) (region : Region) → p.pending ≡ [] → Tracks A lane p region → AreSettledAt A p.durable region
settled_of A lane p region none h = λ a m v k.
    elim ((subst (λ ws. IsWordOf (lane + 1) (p.durable a) ws a (region.at a)) none (h a m)).values v k) [ inl e ↦ e | inr w ↦ absurd w ]

pub settled_aside : (A : ℕ → Type 0) (by : ℕ) (w : Words) (region : Region) (e : Event) → IsAside A NOBODY by e → AreSettledAt A w region → AreSettledAt A w (after region by e)
settled_aside A by w region e aside h =
    settled_of A NOBODY (start w) (after region by e) refl (Tracks-aside A NOBODY by (start w) region e aside (Tracks-settled A NOBODY w region h))

pub size_after : (region : Region) (by : ℕ) (e : Event) → (after region by e).size ≡ region.size
size_after region by (Store a v) = refl
size_after region by (PStore a v) = refl
size_after region by (WriteBack a) = refl
size_after region by Fence = refl

-- ---- the plans

durable_append : (es fs : List Event) → AreDurable es → AreDurable fs → AreDurable (es ++ fs)
durable_append [] fs h k = k
durable_append (e ∷ es) fs h k = (h.0, durable_append es fs h.1 k)

closes_durable : (gates : List ℕ) → AreDurable (closes_gates gates)
closes_durable [] = tt
closes_durable (a ∷ gates) = (tt, closes_durable gates)

group_durable : (gates : List ℕ) → AreDurable (group gates)
group_durable [] = tt
group_durable (a ∷ gates) = (tt, durable_append (closes_gates gates) (Fence ∷ []) (closes_durable gates) (tt, tt))

pub part_durable : (shape : Shape) (p : ℕ) (part : LogPart) → AreDurable (plan_of shape p part)
part_durable shape p rests = tt
part_durable shape p (appends place r) = AreDurable-out p (append_plan shape.cells place r) (append_durable shape.cells place r)
part_durable shape p (closes gates ends checkpoints) =
    durable_append (group gates) (group ends ++ group checkpoints) (group_durable gates) (durable_append (group ends) (group checkpoints) (group_durable ends) (group_durable checkpoints))
part_durable shape p (takes_back gates) = durable_append (group gates) [] (group_durable gates) tt
part_durable shape p (drops r) = AreDurable-out p (removal r) (tt, (tt, (tt, (tt, (tt, (tt, (tt, tt)))))))

pub durable_event : (plan : List Event) → AreDurable plan → (k : ℕ) (e : Event) → slice_get plan k ≡ Some e → IsDurable e
durable_event [] each k e found = cc
durable_event (x ∷ xs) each zero e found = let same : x ≡ e = cc in subst IsDurable same each.0
durable_event (x ∷ xs) each (suc k) e found = durable_event xs each.1 k e found

pub on_event : (shape : Shape) (p : ℕ) (plan : List Event) → AreOnPart shape p plan → (k : ℕ) (e : Event) → slice_get plan k ≡ Some e → IsOnPart shape p e
on_event shape p [] each k e found = cc
on_event shape p (x ∷ xs) each zero e found = let same : x ≡ e = cc in subst (IsOnPart shape p) same each.0
on_event shape p (x ∷ xs) each (suc k) e found = on_event shape p xs each.1 k e found

-- gates of deletions are a group of a closing
pub deletion_groups : (log : Log) (gates : List ℕ) → AreDeletions log gates → AreGroups log gates [] []
deletion_groups log gates given = record {
  of_gates = λ a m. (let d = given a m in let six = d.2.1 in (d.0, d.1, (d.2.0, (λ four. absurd (omega (arith, four, six))), (λ five. absurd (omega (arith, five, six))))));
  of_ends = λ a m. absurd m;
  of_checkpoints = λ a m. absurd m;
}

pub only_gates : (gates : List ℕ) (a : ℕ) → IsListedGate gates [] [] a → IsAmong gates a
only_gates gates a (inl m) = m
only_gates gates a (inr (inl m)) = absurd m
only_gates gates a (inr (inr m)) = absurd m

pub part_on : (shape : Shape) (p : ℕ) (base : Words) (s : State) (chain : List ℕ) (part : LogPart) → IsAllowed shape → p < shape.partitions → HasState shape base s →
    CanRun shape p base s chain part → AreOnPart shape p (plan_of shape p part)
part_on shape p base s chain rests ok inside has can = tt
part_on shape p base s chain (appends place r) ok inside has can = appends_are_on_part shape p _ chain place r inside can
part_on shape p base s chain (closes gates ends checkpoints) ok inside has can =
    closings_are_on_part shape p base s gates ends checkpoints ok has can.0 (λ r m on. can.1 r.at on)
part_on shape p base s chain (takes_back gates) ok inside has can =
    closings_are_on_part shape p base s gates [] [] ok has (deletion_groups s.log gates can.0) (λ d m on. can.1 d.at (only_gates gates d.at on))
part_on shape p base s chain (drops r) ok inside has can = removals_are_on_part shape p _ r can

-- a plan leaves the words of others
pub words_outside : (shape : Shape) (p : ℕ) (base : Words) (part : LogPart) → AreOnPart shape p (plan_of shape p part) → (a : ℕ) → (IsPartWord shape p a → ⊥) →
    words_behind shape p part base a ≡ base a
words_outside shape p base part on a off = (IsFixed-aways (start base) a (base a) (plan_of shape p part)
    (AreAway-stores (IsPartWord shape p) a (plan_of shape p part) (λ b n e. off (subst (IsPartWord shape p) e n)) (part_stores shape p (plan_of shape p part) on))
    (IsFixed-start base a)).durable

pub waits_is : (shape : Shape) (p : ℕ) (part : LogPart) (lane k : ℕ) (e : Event) → slice_get (plan_of shape p part) k ≡ Some e → waits_for part lane ≡ lane
waits_is shape p rests lane k e found = cc
waits_is shape p (appends place r) lane k e found = refl
waits_is shape p (closes gates ends checkpoints) lane k e found = refl
waits_is shape p (takes_back gates) lane k e found = refl
waits_is shape p (drops r) lane k e found = refl
