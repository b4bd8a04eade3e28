-- The closing of all records from a settled state.
use Rattle.std.proofs.Common.{◌≡◌, ◌⊎◌, inl, inr, ℕ, ◌+◌, ◌*◌, ◌<◌, ◌≤◌, ◌==◌, Bool, true, false, if◌then◌else◌, List, [], ◌∷◌, ◌++◌, refl, sym, ap, subst, arith}
use Rattle.std.proofs.lemmas.Bool.Decides.{nat_tests}
use Rattle.persist_model.specs.declared.event.Event.{Event}
use Rattle.persist_model.specs.declared.event.Event.TheVariants.{Fence}
use Rattle.persist_model.specs.Region.{Words, Region}
use Rattle.persist_model.specs.Progress.{Progress, Wrote, start}
use Rattle.persist_model.specs.Records.{Record, Log, IsAmong}
use Rattle.persist_model.specs.Shape.{Shape, heap, words_of_shape, IsBucketOf, SECOND_MAGIC}
use Rattle.persist_model.specs.Chain.{Each}
use Rattle.persist_model.specs.State.{State, IsSoundState}
use Rattle.persist_model.specs.Sound.{HasState}
use Rattle.log_laws.proofs.SameLists.{chain_buckets}
use Rattle.log_laws.proofs.Applying.{all_may_close}
use Rattle.atomic_list.proofs.Parts.{whole_bucket_fits}
use Rattle.log_laws.specs.Recovering.{RECOVERY_LANE}
use Rattle.log_laws.specs.Parts.{after_plan, HasCome, Leads}
use Rattle.log_clearing.specs.Plans.{closes as zeroes, group, closing_plan}
use Rattle.recovery_run.specs.ClosingAll.{CanCloseAll}
use Rattle.recovery_run.specs.Edges.{StoreElsewhere}
use Rattle.recovery_run.specs.Reached.{newest_at, HasHeader, HasSettled}
use Rattle.log_clearing.proofs.ClosingWords.{closing_ends}
use Rattle.recovery_run.proofs.Within.{AreWithin}
use Rattle.recovery_run.proofs.Aside.{plan_keeps}
use Rattle.recovery_run.proofs.Reaching.{settled_reached, settles, single_plan, reached_sound}
use Rattle.recovery_run.proofs.ClosingPart.{CanClose, closing_leads, closing_done}

-- where a record of the log stands
pub record IsPlaced (shape : Shape) (at : ℕ) : Type 0 where
  pub above : 32 ≤ at
  pub below : at + 8 ≤ heap shape

each_among : (P : ℕ → Type 0) (xs : List ℕ) (x : ℕ) → Each P xs → IsAmong xs x → P x
each_among P [] x h m = absurd m
each_among P (y ∷ xs) x h (inl e) = subst P (sym e) h.0
each_among P (y ∷ xs) x h (inr m) = each_among P xs x h.1 m

pub record_placed : (shape : Shape) (w : Words) (s : State) (r : Record) → HasState shape w s → IsAmong s.log r → IsPlaced shape r.at
record_placed shape w s r has m =
    let found = (has.records.each r).0 m in
    let p = found.0 in
    let is = found.2 in
    let bucket_is : IsBucketOf shape p is.bucket = each_among (IsBucketOf shape p) (has.chains p) is.bucket
    (chain_buckets (IsBucketOf shape p) _ (has.chains p) (has.lists p found.1).rules) is.is_among in
    let fits = whole_bucket_fits shape p is.bucket found.1 bucket_is in
    let at : r.at ≡ is.bucket + 8 + 8 * is.place = ap (λ (x : Record). x.at) is.is in
    let below = is.below in
    let low : 32 ≤ is.bucket = (let e = bucket_is.3 in omega (arith, e)) in
    record { above = omega (arith, at, low); below = omega (arith, at, below, fits) }

few_parts : (shape : Shape) (region : Region) → HasHeader shape region → shape.partitions ≤ 3
few_parts shape region h = subst (λ (s : Shape). s.partitions ≤ 3) h.shape_is (by_format (newest_at region 0 == SECOND_MAGIC) refl)
  where
    by_format : (q : Bool) → (newest_at region 0 == SECOND_MAGIC) ≡ q → (if q then newest_at region 6 else 1) ≤ 3
    by_format true e = (h.header.partitions (grind (arith, nat_tests))).1
    by_format false e = omega arith

module _ (shape : Shape) (first y : State) (region : Region) (gates ends checkpoints : List ℕ) (h : HasSettled shape first y region) (sound : IsSoundState shape first)
    (can : CanCloseAll shape y gates ends checkpoints) where
  abbrev plan : List Event
  plan = closing_plan gates ends checkpoints

  listed_placed : (a : ℕ) → IsAmong gates a ⊎ IsAmong ends a ⊎ IsAmong checkpoints a → IsPlaced shape a
  listed_placed a (inl m) = let r = can.lists.groups.of_gates a m in subst (IsPlaced shape) r.2.0 (record_placed shape h.durable y r.0 h.come.rest.state r.1)
  listed_placed a (inr (inl m)) = let r = can.lists.groups.of_ends a m in subst (IsPlaced shape) r.2.0 (record_placed shape h.durable y r.0 h.come.rest.state r.1)
  listed_placed a (inr (inr m)) = let r = can.lists.groups.of_checkpoints a m in subst (IsPlaced shape) r.2.0 (record_placed shape h.durable y r.0 h.come.rest.state r.1)

  pub can_close : CanClose shape y gates ends checkpoints
  can_close = record {
    few = few_parts shape region h.header;
    sound = (reached_sound shape first y region (settled_reached shape first y region h) sound).0;
    groups = can.lists.groups;
    may = record {
      ended = λ r m s. (all_may_close shape.policy y.log y.words r can.over can.applied m).ended;
      applied = λ r m s is over. (all_may_close shape.policy y.log y.words r can.over can.applied m).applied is over;
      whole = λ e m s end r k of. can.lists.each r k;
      skips = λ c m s check e k end lt r j of. can.lists.each r j;
      redone = can.redone;
    };
    inside = λ a m. let k = (listed_placed a m).below in omega (arith, k);
  }

  zeroes_low : (a : ℕ) (xs : List ℕ) → a < 32 → ((b : ℕ) → IsAmong xs b → IsPlaced shape b) → (rest : List Event) → StoreElsewhere a rest → StoreElsewhere a (zeroes xs ++ rest)
  zeroes_low a [] lt each rest off = off
  zeroes_low a (x ∷ xs) lt each rest off = ((λ e. let k = (each x (inl refl)).above in absurd (omega (arith, lt, e, k))), zeroes_low a xs lt (λ b m. each b (inr m)) rest off)

  group_low : (a : ℕ) (xs : List ℕ) → a < 32 → ((b : ℕ) → IsAmong xs b → IsPlaced shape b) → StoreElsewhere a (group xs)
  group_low a [] lt each = tt
  group_low a (x ∷ xs) lt each = zeroes_low a (x ∷ xs) lt each (Fence ∷ []) (tt, tt)

  elsewhere_append : (a : ℕ) (es fs : List Event) → StoreElsewhere a es → StoreElsewhere a fs → StoreElsewhere a (es ++ fs)
  elsewhere_append a [] fs e f = f
  elsewhere_append a (x ∷ es) fs e f = (e.0, elsewhere_append a es fs e.1 f)

  pub plan_low : (a : ℕ) → a < 32 → StoreElsewhere a plan
  plan_low a lt = elsewhere_append a (group gates) (group ends ++ group checkpoints) (group_low a gates lt (λ b m. listed_placed b (inl m)))
      (elsewhere_append a (group ends) (group checkpoints) (group_low a ends lt (λ b m. listed_placed b (inr (inl m)))) (group_low a checkpoints lt (λ b m. listed_placed b (inr (inr m)))))

  zeroes_within : (n : ℕ) (xs : List ℕ) → ((b : ℕ) → IsAmong xs b → b < n) → (rest : List Event) → AreWithin n rest → AreWithin n (zeroes xs ++ rest)
  zeroes_within n [] each rest in_rest = in_rest
  zeroes_within n (x ∷ xs) each rest in_rest = (each x (inl refl), zeroes_within n xs (λ b m. each b (inr m)) rest in_rest)

  group_within : (n : ℕ) (xs : List ℕ) → ((b : ℕ) → IsAmong xs b → b < n) → (rest : List Event) → AreWithin n rest → AreWithin n (group xs ++ rest)
  group_within n [] each rest in_rest = in_rest
  group_within n (x ∷ xs) each rest in_rest = (each x (inl refl), subst (AreWithin n) (sym (assoc (zeroes xs) (Fence ∷ []) rest)) (zeroes_within n xs (λ b m. each b (inr m)) (Fence ∷ rest) (tt, in_rest)))
    where
      assoc : (es fs ds : List Event) → (es ++ fs) ++ ds ≡ es ++ (fs ++ ds)
      assoc [] fs ds = refl
      assoc (e ∷ es) fs ds = ap (λ gs. e ∷ gs) (assoc es fs ds)

  below_size : (a : ℕ) → IsAmong gates a ⊎ IsAmong ends a ⊎ IsAmong checkpoints a → a < region.size
  below_size a m = let k = (listed_placed a m).below in let s = h.come.size in omega (arith, k, s)

  pub plan_within : AreWithin region.size plan
  plan_within = group_within region.size gates (λ b m. below_size b (inl m)) (group ends ++ group checkpoints)
      (group_within region.size ends (λ b m. below_size b (inr (inl m))) (group checkpoints)
      (subst (AreWithin region.size) (append_none (group checkpoints)) (group_within region.size checkpoints (λ b m. below_size b (inr (inr m))) [] tt)))
    where
      append_none : (es : List Event) → es ++ [] ≡ es
      append_none [] = refl
      append_none (e ∷ es) = ap (λ xs. e ∷ xs) (append_none es)

  pub close_all_leads : Leads shape (start h.durable) y plan
  close_all_leads = closing_leads shape h.durable y gates ends checkpoints h.come.rest.state can_close

  nothing_left : (log : Log) → ((r : Record) → IsAmong log r → ⊥) → log ≡ []
  nothing_left [] none = refl
  nothing_left (r ∷ log) none = absurd (none r (inl refl))

  pub close_all_done : (room : ℕ → ℕ) × HasSettled shape first (record { log = []; words = y.words; room = room }) (after_plan RECOVERY_LANE region plan)
  close_all_done =
      let end = closing_done shape h.durable y gates ends checkpoints h.come.rest.state can_close first region h.come in
      let log_is : end.state.log ≡ [] = nothing_left end.state.log (λ r m. end.none r m (can.lists.each r (end.fewer r m))) in
      let is : end.state ≡ record { log = []; words = y.words; room = end.state.room } = λ i. record { log = log_is i; words = end.heap i; room = end.state.room } in
      let later = after_plan RECOVERY_LANE region plan in (
        end.state.room,
        settles shape first y (record { log = []; words = y.words; room = end.state.room }) end.words region later (settled_reached shape first y region h)
            (λ a v is one. plan_keeps RECOVERY_LANE region plan a v (plan_low a is.below) one)
            (subst (λ (z : State). HasCome shape first (start end.words) end.words z later) is end.come)
            (λ a lt. single_plan (words_of_shape shape) (start h.durable) region plan h.come.size close_all_leads.durable h.come.tracks (λ b below none. h.settled b below) a lt
            (λ v k. subst (λ (q : Progress). Wrote q.pending a v) (closing_ends h.durable gates ends checkpoints) k)),
      )
