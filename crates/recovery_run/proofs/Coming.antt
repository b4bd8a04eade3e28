-- Which records may come: a compensation and a rollback record whatever the covered heap words are, an end and a checkpoint record where nothing is pending.
use Rattle.std.proofs.Common.{◌≡◌, inl, inr, ℕ, ◌<◌, List, [], ◌∷◌, length, take, refl, sym, ap, subst, ◌∙◌, arith}
use Rattle.persist_model.specs.declared.event.Event.{Event}
use Rattle.persist_model.specs.declared.event.Event.TheVariants.{Fence}
use Rattle.persist_model.specs.Region.{Words, Region}
use Rattle.persist_model.specs.Progress.{Progress, Reaches, start, advance, advance_all}
use Rattle.persist_model.specs.Records.{Record, Log, IsOf, IsRollback, IsCompensation, HasNo}
use Rattle.persist_model.specs.Order.{Compensates}
use Rattle.persist_model.specs.Need.{to_undo}
use Rattle.persist_model.specs.Shape.{Shape, heap_words, words_of_shape}
use Rattle.persist_model.specs.State.{State}
use Rattle.log_laws.specs.Recovery.{Step, start as begins, makes, compensates, rolls_back, Appends, IsOfLoser, grown}
use Rattle.log_laws.specs.Recovering.{RECOVERY_LANE, IsAtRest, with_heap}
use Rattle.persist_model.specs.Sound.{HasState}
use Rattle.persist_model.proofs.Projecting.{advance_all-append}
use Rattle.log_laws.proofs.Parts.{part_image, part_image_settled}
use Rattle.log_laws.proofs.Recovering.{heap_step}
use Rattle.log_laws.specs.Parts.{after_plan, HasCome, Leads}
use Rattle.recovery_run.proofs.Composing.{parts_go_on}
use Rattle.recovery_run.proofs.Making.{take_whole}
use Rattle.log_laws.specs.StateAppends.{IsAppend, MayCome}
use Rattle.recovery_run.proofs.ClosingPart.{same_heap}

appends_with : (shape : Shape) (s : State) (r : Record) (room : ℕ → ℕ) (h : Words) → Appends shape s r room → Appends shape (with_heap s h) r room
appends_with shape s r room h k = record { formed = k.formed; above = k.above; next = k.next; inside = k.inside; here = k.here; elsewhere = k.elsewhere }

pub compensation_may_come : (shape : Shape) (s : State) (c u : Record) (stack : Log) (room : ℕ → ℕ) → Appends shape s c room → IsOfLoser shape s.log c → IsCompensation c →
    to_undo c.transaction s.log ≡ u ∷ stack → Compensates c u → MayCome shape s c room
compensation_may_come shape s c u stack room appends loser is top undoes = λ h stored. compensates c u stack room (appends_with shape s c room h appends) loser is top undoes

pub rollback_may_come : (shape : Shape) (s : State) (r : Record) (room : ℕ → ℕ) → Appends shape s r room → IsOfLoser shape s.log r → IsRollback r →
    HasNo (λ x. IsOf r.transaction x × IsRollback x) s.log → MayCome shape s r room
rollback_may_come shape s r room appends loser is first = λ h stored. rolls_back r room (appends_with shape s r room h appends) loser is first

-- where nothing is pending, each image has the heap words of the state
pub settled_append_leads : (shape : Shape) (w : Words) (s : State) (r : Record) (room : ℕ → ℕ) (plan : List Event) → IsAtRest shape (start w) w s →
    IsAppend shape w s r room plan → Step shape s (grown s r room) → Leads shape (start w) s plan
settled_append_leads shape w s r room plan rest append step = record {
  durable = append.durable;
  images = λ k v reached. (
      let parts = part_image shape (start w) w v s plan k rest append.on_log reached in
      let heap_is : s.words ≡ heap_words shape v = rest.state.words ∙ sym (same_heap shape w v (part_image_settled shape w v plan k append.on_log reached)) in
      elim (append.images k v parts.0) [
        | inl before ↦ (with_heap s (heap_words shape v), before, makes begins (heap_step shape w v s rest.state.words parts.1))
        | inr behind ↦ (with_heap (grown s r room) (heap_words shape v), behind, makes begins (subst (λ h. Step shape s (with_heap (grown s r room) h)) heap_is step))
      ]);
}

-- and behind it the state has the record, with the heap words as they were
pub settled_append_done : (shape : Shape) (first : State) (w : Words) (s : State) (r : Record) (room : ℕ → ℕ) (plan : List Event) (region : Region) →
    HasCome shape first (start w) w s region → IsAppend shape w s r room plan → Step shape s (grown s r room) →
    (d : Words) × HasCome shape first (start d) d (grown s r room) (after_plan RECOVERY_LANE region plan)
settled_append_done shape first w s r room plan region come append step =
    let d : Words = (advance (advance_all (start w) append.front) Fence).durable in
    let whole : advance_all (start w) plan ≡ start d = ap (advance_all (start w)) append.fenced ∙ advance_all-append (start w) append.front (Fence ∷ []) in
    let reached : Reaches (λ a. a < words_of_shape shape) (advance_all (start w) (take (length plan) plan)) d =
    subst (λ (es : List Event). Reaches (λ a. a < words_of_shape shape) (advance_all (start w) es) d) (sym (take_whole plan (length plan) (omega arith)))
    (subst (λ (z : Progress). Reaches (λ a. a < words_of_shape shape) z d) (sym whole) (λ a m. inl refl)) in
    let parts = part_image shape (start w) w d s plan (length plan) come.rest append.on_log reached in
    let heap_is : heap_words shape d ≡ s.words = same_heap shape w d (part_image_settled shape w d plan (length plan) append.on_log reached) ∙ sym come.rest.state.words in
    let has : HasState shape d (grown s r room) = subst (λ h. HasState shape d (with_heap (grown s r room) h)) heap_is (append.last d parts.0) in
    (d, parts_go_on shape first (start w) w d s (grown s r room) region plan come (settled_append_leads shape w s r room plan come.rest append step) whole has (makes begins step))
