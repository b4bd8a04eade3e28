-- The events of a plan on a partition's view, as events on the region.
use Rattle.std.proofs.Common.{◌≡◌, inl, inr, ℕ, zero, suc, ◌<◌, ◌≤◌, List, [], ◌∷◌, Some, length, map, take, refl, ap, sym, ◌∙◌, arith, sum_by, get_or}
use Rattle.std.specs.Prelude.{slice_get, option_map, All}
use Rattle.std.proofs.lemmas.Option.{slice_get-map}
use Rattle.persist_model.specs.declared.event.Event.{Event}
use Rattle.persist_model.specs.declared.event.Event.TheVariants.{Store, PStore, WriteBack, Fence}
use Rattle.persist_model.specs.Region.{Words, Region}
use Rattle.lane_traits.specs.declared.device.Done.{Done}
use Rattle.lane_traits.specs.declared.device.Done.TheVariants.{Made, Stopped}
use Rattle.log_laws.specs.Recovering.{RECOVERY_LANE}
use Rattle.recovery_run.proofs.Composing.{size_plan}
use Rattle.persist_model.specs.Progress.{start, advance_all}
use Rattle.persist_model.specs.Shape.{Shape}
use Rattle.persist_model.specs.Chain.{out_event}
use Rattle.lane_traits.specs.Device.{IsWithin, stores_of}
use Rattle.log_laws.specs.Parts.{after_plan, AreDurable}
use Rattle.log_laws.proofs.Views.{IsStoreOn, AreStoresOn}
use Rattle.atomic_list.specs.declared.plans.Remove.{Remove}
use Rattle.atomic_list.specs.declared.repairing.Repair.{Repair}
use Rattle.atomic_list.specs.declared.repairing.Repair.TheVariants.{Nothing, Append, Remove as TakeOut}
use Rattle.atomic_list.specs.Plans.{repair_plan}
use Rattle.bucket_log.specs.Words.{IsPartWord}
use Rattle.bucket_log.proofs.Partitions.{bucket_word_above}
use Rattle.log_clearing.specs.Removals.{region_removal}
use Rattle.recovery_run.specs.Edges.{StoresElsewhere, StoreElsewhere, IsPlainHeaderWord, AreOffHeader}
use Rattle.recovery_lists.specs.Repairs.{region_repair}

-- an event of the view's plan is one of the region's
pub event_out : (p i : ℕ) (plan : List Event) (e made : Event) → slice_get plan i ≡ Some e → made ≡ out_event p e → Some made ≡ slice_get (map (out_event p) plan) i
event_out p i plan e made found is = ap Some is ∙ sym (slice_get-map (out_event p) plan i ∙ ap (option_map (out_event p)) found)

-- ---- where a plan stores

-- within the words that it stores to
pub within_of : (A : ℕ → Type 0) (n : ℕ) → ((a : ℕ) → A a → a < n) → (plan : List Event) → AreStoresOn A plan → All (IsWithin n) plan
within_of A n below [] on = λ k d lt. absurd (omega (arith, lt))
within_of A n below (e ∷ plan) on = λ k d lt. at k d lt (λ j less. within_of A n below plan on.1 j d less)
  where
    of_event : (e : Event) → IsStoreOn A e → IsWithin n e
    of_event (Store a v) m = below a m
    of_event (PStore a v) m = below a m
    of_event (WriteBack a) m = below a m
    of_event Fence m = tt

    at : (k : ℕ) (d : Event) → k < length (e ∷ plan) → ((j : ℕ) → j < length plan → IsWithin n (get_or plan j d)) → IsWithin n (get_or (e ∷ plan) k d)
    at zero d lt rest = of_event e on.0
    at (suc k) d lt rest = rest k (omega (arith, lt))

elsewhere_of : (A : ℕ → Type 0) (a : ℕ) → ((b : ℕ) → A b → a ≡ b → ⊥) → (plan : List Event) → AreStoresOn A plan → StoreElsewhere a plan
elsewhere_of A a off [] on = tt
elsewhere_of A a off (e ∷ plan) on = (of_event e on.0, elsewhere_of A a off plan on.1)
  where
    of_event : (e : Event) → IsStoreOn A e → StoresElsewhere a e
    of_event (Store b v) m = off b m
    of_event (PStore b v) m = off b m
    of_event (WriteBack b) m = tt
    of_event Fence m = tt

-- and not to the header
pub off_header : (shape : Shape) (p : ℕ) → p < shape.partitions → (plan : List Event) → AreStoresOn (IsPartWord shape p) plan → AreOffHeader shape plan
off_header shape p inside plan on = λ a is. elsewhere_of (IsPartWord shape p) a (λ b m e. apart a is b m e) plan on
  where
    apart : (a : ℕ) → IsPlainHeaderWord shape a → (b : ℕ) → IsPartWord shape p b → a ≡ b → ⊥
    apart a is b (inl k) e = (let low = k.0 in let high = k.1 in elim (is.apart p inside) [ inl x ↦ omega (arith, x, low, e) | inr x ↦ omega (arith, x, high, e) ])
    apart a is b (inr k) e = (let above = bucket_word_above shape p b k in let below = is.below in omega (arith, above, below, e))

-- ---- the two plans

pub repair_short : (r : Repair) → length (repair_plan r) ≤ 5
repair_short Nothing = omega arith
repair_short (Append a) = omega arith
repair_short (TakeOut r) = omega arith

pub repair_few : (p : ℕ) (r : Repair) → length (region_repair p r) ≤ 5
repair_few p Nothing = omega arith
repair_few p (Append a) = omega arith
repair_few p (TakeOut r) = omega arith

pub repair_stores : (p : ℕ) (r : Repair) → sum_by stores_of (region_repair p r) ≤ 5
repair_stores p Nothing = omega arith
repair_stores p (Append a) = omega arith
repair_stores p (TakeOut r) = omega arith

pub repair_durable : (r : Repair) → AreDurable (repair_plan r)
repair_durable Nothing = tt
repair_durable (Append a) = (tt, (tt, (tt, (tt, (tt, tt)))))
repair_durable (TakeOut r) = (tt, (tt, (tt, (tt, (tt, tt)))))

-- nothing is pending behind it
pub repair_settles : (p : ℕ) (w : Words) (r : Repair) → advance_all (start w) (region_repair p r) ≡ start (advance_all (start w) (region_repair p r)).durable
repair_settles p w Nothing = refl
repair_settles p w (Append a) = refl
repair_settles p w (TakeOut r) = refl

pub removal_settles : (p : ℕ) (w : Words) (r : Remove) → advance_all (start w) (region_removal p r) ≡ start (advance_all (start w) (region_removal p r)).durable
removal_settles p w r = refl

-- ---- the region's size behind a plan that was made as far as it was

pub size_made : (done : Done) (region later : Region) (plan : List Event) → (done ≡ Made → later ≡ after_plan RECOVERY_LANE region plan) →
    (done ≡ Stopped → (k : ℕ) × (later ≡ after_plan RECOVERY_LANE region (take k plan))) → later.size ≡ region.size
size_made Made region later plan made stopped = ap (λ (r : Region). r.size) (made refl) ∙ size_plan RECOVERY_LANE region plan
size_made Stopped region later plan made stopped = ap (λ (r : Region). r.size) (stopped refl).1 ∙ size_plan RECOVERY_LANE region (take (stopped refl).0 plan)
