-- What is told of an image that isn't at rest.
use Rattle.std.proofs.Common.{◌≡◌, inl, inr, ℕ, ◌<◌, ◌≤◌, Option, Some, None, [], refl, sym, ◌∙◌, subst, arith}
use Rattle.std.specs.Prelude.{IfSome, IfNone}
use Rattle.std.proofs.lemmas.Bool.{cases_lt}
use Rattle.persist_model.specs.Region.{Words}
use Rattle.persist_model.specs.Records.{Log}
use Rattle.persist_model.specs.Shape.{Shape, shape_of}
use Rattle.persist_model.specs.State.{State}
use Rattle.persist_model.specs.Sound.{HasState, IsSound}
use Rattle.recovery_run.specs.Reached.{HasFewBuckets}
use Rattle.recovery_passes.specs.Recovered.{IsFinished}
use Rattle.rest_check.specs.Rest.{AreQuiet, IsFirstAsked, IsFirstOpen, IsFirstSecond, IsUnrested, asks, opens, goes_on, UnrestedIsUnfinished, UnrestedIsOne}
use Rattle.rest_check.proofs.Asked.{asked_is_unquiet, asked_is_one}
use Rattle.rest_check.proofs.Opened.{opened_is_one, opened_is_some}
use Rattle.rest_check.proofs.Seconds.{second_is_one, second_is_not_few}

pub unrested_is_unfinished : UnrestedIsUnfinished
unrested_is_unfinished size a w (asks h) done = asked_is_unquiet w h.part a h.asks (done.quiet h.part h.inside)
unrested_is_unfinished size a w (opens quiet h) done = opened_is_some done.sound.state.log a (h done.sound.state done.sound.has) (done.empty done.sound.state done.sound.has)
unrested_is_unfinished size a w (goes_on quiet empty h) done = second_is_not_few (shape_of w) w a done.sound.has.chains done.sound.has.lists h (done.few h.part h.inside)

first_second_is_one : (size a b : ℕ) (w : Words) → IsSound size w → IsFirstSecond (shape_of w) w a → IsFirstSecond (shape_of w) w b → a ≡ b
first_second_is_one size a b w sound h k = elim (cases_lt h.part k.part) [
  | inl less ↦ absurd (second_is_not_few (shape_of w) w a sound.has.chains sound.has.lists h (k.before h.part less))
  | inr more ↦ elim (cases_lt k.part h.part) [
    | inl less ↦ absurd (second_is_not_few (shape_of w) w b sound.has.chains sound.has.lists k (h.before k.part less))
    | inr other ↦ (let e : h.part ≡ k.part = omega (arith, more, other) in second_is_one (shape_of w) w a b sound.has.chains sound.has.lists h k e)
  ]
]

pub unrested_is_one : UnrestedIsOne
unrested_is_one size a b w sound (asks h) (asks k) = asked_is_one (shape_of w) w a b h k
unrested_is_one size a b w sound (asks h) (opens quiet k) = absurd (asked_is_unquiet w h.part a h.asks (quiet h.part h.inside))
unrested_is_one size a b w sound (asks h) (goes_on quiet empty k) = absurd (asked_is_unquiet w h.part a h.asks (quiet h.part h.inside))
unrested_is_one size a b w sound (opens quiet h) (asks k) = absurd (asked_is_unquiet w k.part b k.asks (quiet k.part k.inside))
unrested_is_one size a b w sound (opens quiet h) (opens other k) = opened_is_one sound.state.log a b (h sound.state sound.has) (k sound.state sound.has)
unrested_is_one size a b w sound (opens quiet h) (goes_on other empty k) = absurd (opened_is_some sound.state.log a (h sound.state sound.has) (empty sound.state sound.has))
unrested_is_one size a b w sound (goes_on quiet empty h) (asks k) = absurd (asked_is_unquiet w k.part b k.asks (quiet k.part k.inside))
unrested_is_one size a b w sound (goes_on quiet empty h) (opens other k) = absurd (opened_is_some sound.state.log b (k sound.state sound.has) (empty sound.state sound.has))
unrested_is_one size a b w sound (goes_on quiet empty h) (goes_on other none k) = first_second_is_one size a b w sound h k

-- ---- what is read of an image of this shape, with these records

pub some_more : (r : Option ℕ) (P Q : ℕ → Type 0) → ((a : ℕ) → P a → Q a) → IfSome r P → IfSome r Q
some_more None P Q f h = h
some_more (Some a) P Q f h = f a h

pub none_more : (r : Option ℕ) (P Q : Type 0) → (P → Q) → IfNone r P → IfNone r Q
none_more None P Q f h = f h
none_more (Some a) P Q f h = h

module _ (shape : Shape) (w : Words) (log : Log) (is : shape ≡ shape_of w) (records : (s : State) → HasState shape w s → log ≡ s.log) where
  pub asked_here : (a : ℕ) → IsFirstAsked shape w a → IsUnrested (shape_of w) w a
  asked_here a h = subst (λ (s : Shape). IsUnrested s w a) is (asks h)

  pub opened_here : (a : ℕ) → AreQuiet shape.partitions w → IsFirstOpen log a → IsUnrested (shape_of w) w a
  opened_here a quiet h = subst (λ (s : Shape). IsUnrested s w a) is (opens quiet (λ s has. subst (λ (l : Log). IsFirstOpen l a) (records s has) h))

  pub second_here : (a : ℕ) → AreQuiet shape.partitions w → log ≡ [] → IsFirstSecond shape w a → IsUnrested (shape_of w) w a
  second_here a quiet none h = subst (λ (s : Shape). IsUnrested s w a) is (goes_on quiet (λ s has. sym (records s has) ∙ none) h)

  pub rested_here : (size : ℕ) → IsSound size w → AreQuiet shape.partitions w → log ≡ [] → ((p : ℕ) → p < shape.partitions → HasFewBuckets shape p w) → IsFinished size w
  rested_here size sound quiet none few = record {
    sound = sound;
    empty = λ s has. sym (records s (subst (λ (x : Shape). HasState x w s) (sym is) has)) ∙ none;
    quiet = subst (λ (x : Shape). AreQuiet x.partitions w) is quiet;
    few = subst (λ (x : Shape). (p : ℕ) → p < x.partitions → HasFewBuckets x p w) is few;
  }
