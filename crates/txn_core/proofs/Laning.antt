-- What an ask and a step leave of what is seen of a world.
use Rattle.std.proofs.Common.{◌≡◌, ◌≢◌, inl, inr, ℕ, ◌+◌, ◌-◌, ◌*◌, ◌/◌, ◌%◌, ◌==◌, ◌&&◌, ◌<◌, ◌≤◌, nat_lt, not, Bool, true, false, List, length, refl, sym, ap, ◌∙◌, subst, arith}
use Rattle.std.specs.Prelude.{slice_index, Result, Ok, Err, OnOk, IfErr}
use Rattle.std.proofs.Math.Logic.{∥∥₁_elim}
use Rattle.std.proofs.Math.Bridge.{le_prop}
use Rattle.std.proofs.Math.Nat.{ℕ_set}
use Rattle.std.proofs.Props.{props}
use Rattle.std.proofs.lemmas.Bool.Decides.{eqb_tells, nat_tests}
use Rattle.std.specs.Coded.{Coded-set, coded_bool}
use Rattle.persist_model.specs.Region.{Region, newest, newest_words}
use Rattle.persist_model.specs.Shape.{heap}
use Rattle.persist_model.proofs.Images.{length-newest_words}
use Rattle.lane_traits.specs.Device.{Counts}
use Rattle.region_layout.specs.declared.layout.Layout.{Layout}
use Rattle.region_layout.specs.Layout.{layout_shape, IsDataWord}
use Rattle.lane_types.specs.declared.call.Call.{Call}
use Rattle.lane_types.specs.declared.call.Refusal.{Refusal}
use Rattle.lane_types.specs.declared.call.Stepped.{Stepped}
use Rattle.lane_types.specs.Deeds.{Deeds}
use Rattle.lane_types.specs.Faces.{Base}
use Rattle.lane_types.specs.Heaps.{Heap, is_data}
use Rattle.lane_types.specs.Seen.{IsAccepted, IsRefused, IsStepped, Touches}
use Rattle.lane_book.specs.declared.book.Book.{Book}
use Rattle.lane_book.specs.FacesOf.{faces_of}
use Rattle.lane_book.specs.Steps.{IsStep}
use Rattle.log_keeper.specs.declared.keeper.LogKeeper.{LogKeeper}
use Rattle.txn_core.specs.Asking.{Accepts, Refuses}
use Rattle.txn_core.specs.Laning.{seen_in}
use Rattle.txn_core.specs.States.{IsKept}
use Rattle.txn_core.specs.Stepping.{TouchesWord}
use Rattle.txn_core.proofs.AskedData.{StandsAt, data_word}
use Rattle.txn_core.proofs.WritingWords.{word_read}

-- ---- an ask

-- the words are those of the same cells
pub same_words : (words later : List ℕ) (region behind : Region) → words ≡ newest_words region → later ≡ newest_words behind → behind ≡ region → later ≡ words
same_words words later region behind reads reads_later same = reads_later ∙ ap newest_words same ∙ sym reads

pub ok_then : {X Y : Type 0} {P Q : Type 0} (result : Result X Y) → (P → Q) → OnOk result P → OnOk result Q
ok_then (Ok x) f p = f p
ok_then (Err y) f p = p

pub err_then : {X Y : Type 0} {P Q : Y → Type 0} (result : Result X Y) → ((y : Y) → P y → Q y) → IfErr result P → IfErr result Q
err_then (Ok x) f p = p
err_then (Err y) f p = f y p

module _ {E : Type 0} (lane : ℕ) (call : Call E) (words words_later : List ℕ) (base base_later : Base) (book later : Book E) (same : words_later ≡ words) (stands : base_later ≡ base) where
  pub accepted : Accepts base call book later lane → IsAccepted lane call (seen_in words base book) (seen_in words_later base_later later)
  accepted accepts =
      subst (λ (ws : List ℕ). IsAccepted lane call (seen_in words base book) (seen_in ws base_later later)) (sym same)
      (subst (λ (b : Base). IsAccepted lane call (seen_in words base book) (seen_in words b later)) (sym stands) (record {
        ask = record {
          leaves = record { lanes = accepts.face.many; span = refl; others = λ other ne. (accepts.face.asks base).others other ne };
          word = refl;
          touched = accepts.face.touched;
        };
        fits = accepts.fits;
        face = (accepts.face.asks base).face;
      }))

  pub refused_so : (layout : Layout) (seen : List ℕ) (refusal : Refusal) → Refuses layout base seen call refusal book later lane →
      IsRefused lane call refusal (seen_in words base book) (seen_in words_later base_later later)
  refused_so layout seen refusal refuses =
      subst (λ (ws : List ℕ). IsRefused lane call refusal (seen_in words base book) (seen_in ws base_later later)) (sym same)
      (subst (λ (b : Base). IsRefused lane call refusal (seen_in words base book) (seen_in words b later)) (sym stands) (record {
        ask = record {
          leaves = record { lanes = refuses.face.many; span = refl; others = λ other ne. (refuses.face.asks base).others other ne };
          word = refl;
          touched = refuses.face.touched;
        };
        why = refuses.why;
        face = (refuses.face.asks base).face;
      }))

-- ---- a data word

on_off : (b : Bool) → b ≡ false → not b ≡ true
on_off b off = ap not off

isn't_below : (m n : ℕ) → n ≤ m → nat_lt m n ≡ false
isn't_below m n le = grind (arith, nat_tests, le)

is_below : (m n : ℕ) → m < n → nat_lt m n ≡ true
is_below m n lt = grind (arith, nat_tests, lt)

isn't_equal : (m n : ℕ) → m ≢ n → (m == n) ≡ false
isn't_equal m n ne = elim (eqb_tells m n) [ inl e ↦ absurd (ne e.1) | inr off ↦ off.0 ]

in_block : (a start blocks : ℕ) → start ≤ a → a < start + 16 * blocks → (a - start) / 16 < blocks
in_block a start blocks le lt = omega (arith, le, lt)

behind_first : (a start : ℕ) → start ≤ a → a ≢ start + 16 * ((a - start) / 16) → (a - start) % 16 ≢ 0
behind_first a start le other zero_there = other (omega (arith, le, zero_there))

all_three : (b c d : Bool) → b ≡ true → c ≡ true → d ≡ true → (b && (c && d)) ≡ true
all_three b c d on also third = (λ i. on i && (also i && third i))

data_of : (a start blocks : ℕ) → start ≤ a → a < start + 16 * blocks → a ≢ start + 16 * ((a - start) / 16) →
    (not (nat_lt a start) && (nat_lt ((a - start) / 16) blocks && not (((a - start) % 16) == 0))) ≡ true
data_of a start blocks le lt other = all_three (not (nat_lt a start)) (nat_lt ((a - start) / 16) blocks) (not (((a - start) % 16) == 0))
    (on_off (nat_lt a start) (isn't_below a start le)) (is_below ((a - start) / 16) blocks (in_block a start blocks le lt))
    (on_off (((a - start) % 16) == 0) (isn't_equal ((a - start) % 16) 0 (behind_first a start le other)))

-- A data word of the layout's heap is one of the heap that stands there.
is_data_of : (layout : Layout) (h : Heap) (a : ℕ) → StandsAt layout h → IsDataWord (layout_shape layout) a → is_data h a ≡ true
is_data_of layout h a stands is =
    (λ i. not (nat_lt a (stands.start i)) && (nat_lt ((a - stands.start i) / 16) (stands.blocks i) && not (((a - stands.start i) % 16) == 0))) ∙
    data_of a (heap (layout_shape layout)) layout.blocks is.0.0 is.0.1 is.1

-- ---- a step

module _ {E : Type 0} (deeds : Deeds E) (layout : Layout) (words words_later : List ℕ) (base base_later : Base) (book later : Book E) (keeper : LogKeeper) (region behind : Region) (spare : ℕ) (counts : Counts)
    (reads : words ≡ newest_words region) (reads_later : words_later ≡ newest_words behind) (kept : IsKept deeds layout base book keeper region spare counts)
    (touches : TouchesWord layout region behind later.touched) where
  is_data_there : (a : ℕ) → IsDataWord (layout_shape layout) a → is_data base.heap a ≡ true
  is_data_there a is = ∥∥₁_elim kept (Coded-set coded_bool _ _) (λ w.
      is_data_of layout base.heap a (record { start = w.lawful.owned.place.start; blocks = w.lawful.owned.place.blocks }) is)

  shown : (a : ℕ) → is_data base.heap a ≡ true → a < region.size
  shown a on = let size = ∥∥₁_elim kept (ℕ_set _ _) (λ w. w.state.world.log.logged.size) in
      ∥∥₁_elim kept le_prop (λ w. (let lt = (data_word layout base.heap a (record { start = w.lawful.owned.place.start; blocks = w.lawful.owned.place.blocks }) on).0.1 in omega (arith, lt, size)))

  word_before : (a : ℕ) → is_data base.heap a ≡ true → slice_index words a ≡ newest (region.at a)
  word_before a on = word_read words region a reads (shown a on)

  word_behind : (a : ℕ) → is_data base.heap a ≡ true → slice_index words_later a ≡ newest (behind.at a)
  word_behind a on = word_read words_later behind a reads_later (let lt = shown a on in let same = touches.size in omega (arith, lt, same))

  is_data_word : (a : ℕ) → is_data base.heap a ≡ true → IsDataWord (layout_shape layout) a
  is_data_word a on = ∥∥₁_elim kept (hlevel props) (λ w. data_word layout base.heap a (record { start = w.lawful.owned.place.start; blocks = w.lawful.owned.place.blocks }) on)

  touches_seen : Touches base.heap (seen_in words base book) (seen_in words_later base later)
  touches_seen = record {
    data_word = λ a is. is_data_there a (touches.data_word a is);
    changed = λ a is same. (let on = is_data_there a (touches.data_word a is) in
        touches.changed a is (sym (word_behind a on) ∙ same ∙ word_before a on));
    others = λ a on ne. word_behind a on ∙ touches.others a (is_data_word a on) ne ∙ sym (word_before a on);
  }

  same_span : length words_later ≡ length words
  same_span = ap (λ (ws : List ℕ). length ws) reads_later ∙ length-newest_words behind ∙ touches.size ∙ sym (ap (λ (ws : List ℕ). length ws) reads ∙ length-newest_words region)

  pub stepped_so : (lane : ℕ) (answer : Stepped) → base_later ≡ base → length later.lanes.items ≡ length book.lanes.items →
      IsStep deeds (faces_of base book) (faces_of base later) lane answer →
      IsStepped deeds lane answer (seen_in words base book) (seen_in words_later base_later later)
  stepped_so lane answer stands count step =
      subst (λ (b : Base). IsStepped deeds lane answer (seen_in words base book) (seen_in words_later b later)) (sym stands) (record {
        leaves = record { lanes = count; span = same_span; others = λ other ne. step.others other ne };
        touches = touches_seen;
        step = step.step;
      })
