-- A value with lanes, as contracts see it, and what an ask or a step of one lane does to it.
use Rattle.std.specs.Prelude.{◌≡◌, ◌≢◌, ℕ, ◌<◌, true, false, Option, Some, None}
use Rattle.lane_types.specs.declared.call.Call.{Call}
use Rattle.lane_types.specs.declared.call.Refusal.{Refusal}
use Rattle.lane_types.specs.declared.call.Stepped.{Stepped}
use Rattle.lane_types.specs.Deeds.{Deeds}
use Rattle.lane_types.specs.Heaps.{Heap, has_bit, is_data}
use Rattle.lane_types.specs.Faces.{WholeFace}
use Rattle.lane_types.specs.Asks.{Fits, Why, asked, refused}
use Rattle.lane_types.specs.LaneSteps.{LaneStep}

pub record Seen (E : Type 0) : Type 0 where
  pub lanes : ℕ
  -- how many words there are, and the word at each address
  pub span : ℕ
  pub word : ℕ → ℕ
  -- the data word that the last step changed
  pub touched : Option ℕ
  pub faces : ℕ → WholeFace E

-- Lanes and words are as many, and all faces but the lane's stay.
pub record LeavesOtherLanes {E : Type 0} (lane : ℕ) (s t : Seen E) : Type 0 where
  pub lanes : t.lanes ≡ s.lanes
  pub span : t.span ≡ s.span
  pub others : (other : ℕ) → other ≢ lane → t.faces other ≡ s.faces other

-- An ask changes no word.
pub record IsAsk {E : Type 0} (lane : ℕ) (s t : Seen E) : Type 0 where
  pub leaves : LeavesOtherLanes lane s t
  pub word : t.word ≡ s.word
  pub touched : t.touched ≡ s.touched

pub record IsAccepted {E : Type 0} (lane : ℕ) (call : Call E) (s t : Seen E) : Type 0 where
  pub ask : IsAsk lane s t
  pub fits : Fits (s.faces lane) call
  pub face : t.faces lane ≡ asked call (s.faces lane)

pub record IsRefused {E : Type 0} (lane : ℕ) (call : Call E) (refusal : Refusal) (s t : Seen E) : Type 0 where
  pub ask : IsAsk lane s t
  pub why : Why refusal (s.faces lane) call
  pub face : t.faces lane ≡ refused call refusal (s.faces lane)

-- The touched word is a data word that has another value, and every other data word stays.
pub record Touches {E : Type 0} (heap : Heap) (s t : Seen E) : Type 0 where
  pub data_word : (a : ℕ) → t.touched ≡ Some a → is_data heap a ≡ true
  pub changed : (a : ℕ) → t.touched ≡ Some a → t.word a ≢ s.word a
  pub others : (a : ℕ) → is_data heap a ≡ true → t.touched ≢ Some a → t.word a ≡ s.word a

pub record IsStepped {E : Type 0} (deeds : Deeds E) (lane : ℕ) (answer : Stepped) (s t : Seen E) : Type 0 where
  pub leaves : LeavesOtherLanes lane s t
  pub touches : Touches (s.faces lane).base.heap s t
  pub step : LaneStep deeds answer (s.faces lane) (t.faces lane)

-- The faces have one base, their words are data words of its heap with the values there, and no two hold a structure or a
-- word in common.
pub record AreInAgreement {E : Type 0} (s : Seen E) : Type 0 where
  pub base : (l k : ℕ) → (s.faces l).base ≡ (s.faces k).base
  pub inside : (l a : ℕ) → is_data (s.faces l).base.heap a ≡ true → a < s.span
  pub data_words : (l a v : ℕ) → (s.faces l).words.word a ≡ Some v → is_data (s.faces l).base.heap a ≡ true
  pub values : (l a v : ℕ) → (s.faces l).words.word a ≡ Some v → s.word a ≡ v
  pub structures_apart : (l k n : ℕ) → l ≢ k → n < 8 → has_bit (s.faces l).face.held n ≡ true → has_bit (s.faces k).face.held n ≡ false
  pub words_apart : (l k a v : ℕ) → l ≢ k → (s.faces l).words.word a ≡ Some v → (s.faces k).words.word a ≡ None
