-- The laws of the words of a draft, and that a list has no repeats in one way alone.
use Rattle.std.specs.Prelude.{◌≡◌, ℕ, ◌+◌, ◌-◌, ◌/◌, Bool, true, false, ◌||◌, List, [], ◌∷◌, if◌then◌else◌, ◌==◌}
use Rattle.std.specs.Coded.{×_prop, →_prop, Unit-prop}
use Rattle.std.proofs.Common.{inl, inr, sym, ◌∙◌, ap, eq-eqb}
use Rattle.std.proofs.Math.Nat.{suc-ne-zero}
use Rattle.std.proofs.Math.Numerals.{add-one}
use Rattle.persist_model.specs.Records.{IsAmong}
use Rattle.persist_model.specs.Chain.{HasNoRepeats, IsAbsent}
use Rattle.lane_traits.specs.Space.{Space, IsOwn, IsDataWordOf, AreSpare}
use Rattle.lane_traits.specs.declared.draft.WordWrite.{WordWrite}
use Rattle.lane_traits.specs.Draft.{is_among, of_structure, drafted, IsOwnAt}

IsAbsent-prop : (b : ℕ) (xs : List ℕ) → IsProp (IsAbsent b xs)
IsAbsent-prop b [] = Unit-prop
IsAbsent-prop b (x ∷ xs) = ×_prop (→_prop (λ p q. absurd p)) (IsAbsent-prop b xs)

pub HasNoRepeats-prop : (xs : List ℕ) → IsProp (HasNoRepeats xs)
HasNoRepeats-prop [] = Unit-prop
HasNoRepeats-prop (x ∷ xs) = ×_prop (IsAbsent-prop x xs) (HasNoRepeats-prop xs)

or_true : (t : Bool) → (t || true) ≡ true
or_true false = ap (λ (b : Bool). b) (λ i. true)
or_true true = λ i. true

-- the test of what is in the list
pub of_among : (xs : List ℕ) (b : ℕ) → IsAmong xs b → is_among xs b ≡ true
of_among [] b h = absurd h
of_among (x ∷ xs) b (inl e) = ap (λ t. t || is_among xs b) (eq-eqb b x e)
of_among (x ∷ xs) b (inr h) = ap (λ t. (b == x) || t) (of_among xs b h) ∙ or_true (b == x)

nobody_owns : (structure : ℕ) → 0 ≡ structure + 1 → ⊥
nobody_owns structure e = suc-ne-zero structure (sym (e ∙ add-one structure))

-- a block with this owner is neither given nor spare
pub owner_of : (s t : Bool) (n structure : ℕ) → (if s || t then 0 else n) ≡ structure + 1 → (s ≡ false) × (t ≡ false) × (n ≡ structure + 1)
owner_of true t n structure e = absurd (nobody_owns structure e)
owner_of false true n structure e = absurd (nobody_owns structure e)
owner_of false false n structure e = (λ i. false, λ i. false, e)

-- a block of the draft is one of the reader's
pub own_below : (base : Space) (structure : ℕ) (log : List WordWrite) (gives spare : List ℕ) (b : ℕ)
    → IsOwn (drafted structure log gives spare base).land b → IsOwn (of_structure structure base.land) b
own_below base structure log gives spare b own = (
  record { number = own.0.number; place = own.0.place; positive = own.0.positive; fits = own.0.fits },
  (owner_of (is_among gives b) (is_among spare b) (base.land.owner b) structure own.1).2,
)

pub data_below : (base : Space) (structure : ℕ) (log : List WordWrite) (gives spare : List ℕ) (a : ℕ)
    → IsDataWordOf (drafted structure log gives spare base).land a → IsDataWordOf (of_structure structure base.land) a
data_below base structure log gives spare a word = record {
  block = word.block;
  index = word.index;
  own = own_below base structure log gives spare word.block word.own;
  place = word.place;
  above = word.above;
  below = word.below;
}

spare_owner : (s t : Bool) (n structure : ℕ) → t ≡ true → (if s || t then 0 else n) ≡ structure + 1 → ⊥
spare_owner true t n structure on e = nobody_owns structure e
spare_owner false t n structure on e = nobody_owns structure (ap (λ b. if b then 0 else n) (sym on) ∙ e)

-- its spare blocks are nobody's
pub are_spare : (base : Space) (structure : ℕ) (log : List WordWrite) (gives spare : List ℕ)
    → ((b : ℕ) → IsAmong spare b → IsOwnAt (of_structure structure base.land) b) → HasNoRepeats spare
    → AreSpare (drafted structure log gives spare base)
are_spare base structure log gives spare own once = record {
  apart = λ b among.
      let at = own b among in (
        record { number = (b - base.land.heap) / 16; place = at.place; positive = at.positive; fits = at.fits },
        spare_owner (is_among gives b) (is_among spare b) (base.land.owner b) structure (of_among spare b among),
      );
  once = once;
}
