-- What a sound image gives.
use Rattle.std.proofs.Common.{ℕ, ◌+◌, ◌<◌, subst, arith}
use Rattle.persist_model.specs.Region.{Words}
use Rattle.persist_model.specs.Shape.{Shape, IsBucketOf, log_words}
use Rattle.persist_model.specs.Chain.{view}
use Rattle.persist_model.specs.State.{IsSoundState}
use Rattle.persist_model.specs.Sound.{HasState}
use Rattle.log_laws.proofs.SameLists.{rules_same}
use Rattle.log_partition.proofs.Views.{view_below}
use Rattle.region_layout.specs.declared.layout.Layout.{Layout}
use Rattle.region_layout.specs.Layout.{layout_shape, IsAllowed}
use Rattle.region_layout.proofs.Headers.{shapes_are_read}
use Rattle.bucket_log.proofs.Partitions.{few_parts}
use Rattle.atomic_list.proofs.Parts.{whole_bucket_fits}
use Rattle.log_partition.specs.Merging.{AreLogsOf}
use Rattle.recovery_analysis.specs.Conditions.{IsSoundImage}

pub allowed_image : (layout : Layout) (size : ℕ) (w : Words) → IsSoundImage layout size w → IsAllowed (layout_shape layout)
allowed_image layout size w h = subst IsAllowed h.has_layout (shapes_are_read.allowed size w h.sound.shape)

pub state_of_image : (layout : Layout) (size : ℕ) (w : Words) → (h : IsSoundImage layout size w) → HasState (layout_shape layout) w h.sound.state
state_of_image layout size w h = subst (λ shape. HasState shape w h.sound.state) h.has_layout h.sound.has

pub sound_of_image : (layout : Layout) (size : ℕ) (w : Words) → (h : IsSoundImage layout size w) → IsSoundState (layout_shape layout) h.sound.state
sound_of_image layout size w h = subst (λ shape. IsSoundState shape h.sound.state) h.has_layout h.sound.sound

pub logs_of_image : (layout : Layout) (size : ℕ) (w : Words) → IsSoundImage layout size w → AreLogsOf layout size w
logs_of_image layout size w h = record {
  shape = h.sound.shape;
  has_layout = h.has_layout;
  lists = λ p lt. (
    has.chains p,
    rules_same (IsBucketOf shape p) (view p (log_words shape w)) (view p w)
        (λ a low high. view_below shape p w a (few p lt) (omega (arith, high)))
        (λ b is. (let fits = whole_bucket_fits shape p b lt is in (view_below shape p w b (few p lt) (omega (arith, fits)), view_below shape p w (b + 1) (few p lt) (omega (arith, fits)))))
        (has.chains p) (has.lists p lt).rules,
  );
}
  where
    shape : Shape
    shape = layout_shape layout

    has : HasState shape w h.sound.state
    has = state_of_image layout size w h

    few : (p : ℕ) → p < shape.partitions → p < 3
    few p lt = few_parts shape p (allowed_image layout size w h) lt
