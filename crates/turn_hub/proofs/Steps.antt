-- What an ask or a step of one lane makes of the value.
use Rattle.std.proofs.Common.{◌≡◌, ◌≢◌, ℕ, suc, ◌<◌, true, sym, ap, ◌∙◌, subst, arith, Some}
use Rattle.lane_types.specs.declared.call.Stepped.{Stepped}
use Rattle.lane_types.specs.Deeds.{Deeds}
use Rattle.lane_types.specs.Heaps.{is_data}
use Rattle.lane_types.specs.Faces.{Base, WholeFace}
use Rattle.lane_types.specs.Seen.{Seen, LeavesOtherLanes, IsStepped, AreInAgreement}
use Rattle.turn_hub.specs.Turns.{IsData, base_of}
use Rattle.turn_hub.specs.Plays.{IsChange}

module _ {E : Type 0} where
  -- another lane's face still has the base
  pub same_base : (lane : ℕ) (s t : Seen E) → LeavesOtherLanes lane s t → AreInAgreement s → AreInAgreement t → base_of t ≡ base_of s
  same_base lane s t leaves law later =
      let ne : suc lane ≢ lane = λ e. omega arith in
      later.base 0 (suc lane) ∙ ap (λ (f : WholeFace E). f.base) (leaves.others (suc lane) ne) ∙ law.base (suc lane) 0

  -- the touched word is one of the value's words
  pub touched_below : (deeds : Deeds E) (lane : ℕ) (answer : Stepped) (s t : Seen E) → AreInAgreement s → IsStepped deeds lane answer s t → (a : ℕ) → t.touched ≡ Some a → a < t.span
  touched_below deeds lane answer s t law step a e = subst (λ (n : ℕ). a < n) (sym step.leaves.span) (law.inside lane a (step.touches.data_word a e))

  -- every other data word stays
  pub other_words : (deeds : Deeds E) (lane : ℕ) (answer : Stepped) (s t : Seen E) → AreInAgreement s → IsStepped deeds lane answer s t → (a : ℕ) → IsData s a → t.touched ≢ Some a → t.word a ≡ s.word a
  other_words deeds lane answer s t law step a inside ne = step.touches.others a (subst (λ (b : Base). is_data b.heap a ≡ true) (law.base 0 lane) inside) ne

module _ {T E : Type 0} (R : T → Seen E) where
  pub changed_so : ((value : T) → AreInAgreement (R value)) → (lane : ℕ) (picture value : T) → LeavesOtherLanes lane (R picture) (R value) → IsChange R lane picture value
  changed_so law lane picture value leaves = record {
    alike = record { lanes = leaves.lanes; span = leaves.span; base = same_base lane (R picture) (R value) leaves (law picture) (law value) };
    others = leaves.others;
  }
