-- What can't be both.
use Rattle.std.proofs.Common.{◌≡◌, ℕ, zero, suc, ◌+◌, List, [], ◌∷◌, length, sym, ◌∙◌, subst, arith, Some}
use Rattle.std.specs.List.{slice_get}
use Rattle.persist_model.specs.Region.{Words}
use Rattle.log_laws.proofs.Soundness.{sound_has_no_fault}
use Rattle.region_layout.specs.declared.layout.Kind.{Kind}
use Rattle.region_layout.specs.Contents.{IsMap}
use Rattle.image_text.specs.declared.image.Image.{Image}
use Rattle.image_runner.specs.declared.runner.Wanted.{Wanted}
use Rattle.image_runner.specs.declared.runner.Wanted.TheVariants as want
use Rattle.migration.specs.Fits.{Fit, IsLineFault, counted as miscounted, other}
use Rattle.image_runner.specs.Maps.{AreMaps, AreMapsFrom, IsFirstBroken}
use Rattle.image_runner.specs.Ends.{words_of, IsAdmitted, IsRefusedBy, unsound, unfit}

unfit_fits : (w : Words) (kinds : List Kind) (fault a : ℕ) → IsLineFault w kinds fault a → Fit w kinds → ⊥
unfit_fits w kinds fault a (miscounted none f p) fit = none fit.count
unfit_fits w kinds fault a (other count second s within wrong before f p) fit = wrong (fit.each second s within)

pub refused_admitted : (i : Image) (fault a : ℕ) → IsRefusedBy i fault a → IsAdmitted i → ⊥
refused_admitted i fault a (unsound first) h = sound_has_no_fault (length i.words) (words_of i) fault a h.sound first
refused_admitted i fault a (unfit sound line) h = unfit_fits (words_of i) i.kinds fault a line h.fit

map_at : (heap : ℕ) (w : Words) (s t : ℕ) (kinds : List Kind) (kind : Kind) → AreMapsFrom heap w s kinds → slice_get kinds t ≡ Some kind → IsMap kind heap w (s + t)
map_at heap w s t [] kind h at = absurd (cc)
map_at heap w s zero (k ∷ kinds) kind h at =
    let same : k ≡ kind = cc in
    subst (λ n. IsMap kind heap w n) (let e : s ≡ s + 0 = omega arith in e) (subst (λ (x : Kind). IsMap x heap w s) same h.0)
map_at heap w s (suc t) (k ∷ kinds) kind h at =
    subst (λ n. IsMap kind heap w n) (let e : s + 1 + t ≡ s + suc t = omega arith in e) (map_at heap w (s + 1) t kinds kind h.1 at)

pub maps_unbroken : (heap : ℕ) (w : Words) (kinds : List Kind) (a : ℕ) → AreMaps heap w kinds → IsFirstBroken heap w kinds a → ⊥
maps_unbroken heap w kinds a maps b =
    b.broken (subst (λ n. IsMap b.kind heap w n) (let e : 0 + b.structure ≡ b.structure = omega arith in e) (map_at heap w 0 b.structure kinds b.kind maps b.of))

pub report_image : (wanted : Wanted) → wanted ≡ want.Report → wanted ≡ want.Image → ⊥
report_image wanted r i = let e : ◌≡◌ {A = Wanted} want.Report want.Image = sym r ∙ i in cc
