-- What the end of a recovery says of the status.
use Rattle.std.proofs.Common.{◌≡◌, ◌⊎◌, inl, ℕ, ◌≤◌, List, length, sym, ap, subst, arith}
use Rattle.persist_model.specs.Region.{Words, Region}
use Rattle.persist_model.specs.Shape.{shape_of, heap}
use Rattle.lane_traits.specs.Device.{Counts}
use Rattle.lane_traits.specs.Stream.{HasRisen}
use Rattle.image_text.specs.declared.image.Image.{Image}
use Rattle.image_text.specs.Grammar.{IsTextOf, BreaksAt}
use Rattle.image_text.proofs.Meanings.{says_one_image, breaks_nowhere}
use Rattle.image_runner.specs.declared.runner.Wanted.{Wanted}
use Rattle.image_runner.specs.declared.runner.Wanted.TheVariants as want
use Rattle.image_runner.specs.Maps.{AreMaps, IsFirstBroken}
use Rattle.image_runner.specs.Ends.{words_of, AreStanding, IsAdmitted, IsRefusedBy, IsHalted}
use Rattle.image_runner.proofs.Excluding.{refused_admitted, maps_unbroken, report_image}
use Rattle.rewind.specs.declared.status.Status.{Status}
use Rattle.rewind.specs.declared.status.Status.TheVariants as status
use Rattle.rewind.specs.Words.{IMAGE_LIMIT}
use Rattle.rewind.specs.Due.{IsDue, long, misread, refused, broken, reported, imaged}

ok_err : (text : List ℕ) (i : Image) (line : ℕ) → IsTextOf text i → BreaksAt text line → ⊥
ok_err text i line here there = breaks_nowhere text i.kinds i.words line here there

pub ok_same : (text : List ℕ) (i j : Image) → IsTextOf text i → IsTextOf text j → i ≡ j
ok_same text i j here there =
    let same = says_one_image text i.kinds j.kinds i.words j.words here there in
    λ k. record { kinds = same.0 k; words = same.1 k }

-- ---- the status of an end

module _ (wanted : Wanted) (text : List ℕ) (short : length text ≤ IMAGE_LIMIT) where
  admitted_there : (i j : Image) → IsTextOf text i → IsTextOf text j → IsAdmitted j → IsAdmitted i
  admitted_there i j here there h = subst IsAdmitted (ok_same text j i there here) h

  pub refused_due : (i : Image) (fault a : ℕ) (due : Status) → IsTextOf text i → IsRefusedBy i fault a → IsDue wanted text due → (◌≡◌ {A = Status} status.Unsound due) ⊎ (◌≡◌ {A = Status} status.Unsound status.NoMemory)
  refused_due i fault a due here h (long more e) = absurd (omega (arith, short, more))
  refused_due i fault a due here h (misread less line e is) = absurd (ok_err text i line here e)
  refused_due i fault a due here h (refused less j there f b k is) = inl (sym is)
  refused_due i fault a due here h (broken less j there k r z standing b first is) = inl (sym is)
  refused_due i fault a due here h (reported less j there k z standing maps is) = absurd (refused_admitted i fault a h (admitted_there i j here there k))
  refused_due i fault a due here h (imaged less j there k m is) = absurd (refused_admitted i fault a h (admitted_there i j here there k))

  pub misread_due : (line : ℕ) (due : Status) → BreaksAt text line → IsDue wanted text due → (◌≡◌ {A = Status} status.Script due) ⊎ (◌≡◌ {A = Status} status.Script status.NoMemory)
  misread_due line due here (long more e) = absurd (omega (arith, short, more))
  misread_due line due here (misread less other_line e is) = inl (sym is)
  misread_due line due here (refused less j there f b k is) = absurd (ok_err text j line there here)
  misread_due line due here (broken less j there k r z standing b first is) = absurd (ok_err text j line there here)
  misread_due line due here (reported less j there k z standing maps is) = absurd (ok_err text j line there here)
  misread_due line due here (imaged less j there k m is) = absurd (ok_err text j line there here)

  pub broken_due : (i : Image) (a : ℕ) (due : Status) → IsTextOf text i → wanted ≡ want.Report → ((z : Words) → AreStanding (words_of i) z → IsFirstBroken (heap (shape_of (words_of i))) z i.kinds a)
      → IsDue wanted text due → (◌≡◌ {A = Status} status.Unsound due) ⊎ (◌≡◌ {A = Status} status.Unsound status.NoMemory)
  broken_due i a due here report h (long more e) = absurd (omega (arith, short, more))
  broken_due i a due here report h (misread less line e is) = absurd (ok_err text i line here e)
  broken_due i a due here report h (refused less j there f b k is) = inl (sym is)
  broken_due i a due here report h (broken less j there k r z standing b first is) = inl (sym is)
  broken_due i a due here report h (reported less j there k z standing maps is) =
      let same : j ≡ i = ok_same text j i there here in
      absurd (maps_unbroken (heap (shape_of (words_of i))) z i.kinds a (subst (λ (x : Image). AreMaps (heap (shape_of (words_of x))) z x.kinds) same maps)
      (h z (subst (λ (x : Image). AreStanding (words_of x) z) same standing)))
  broken_due i a due here report h (imaged less j there k m is) = absurd (report_image wanted report m)

  pub done_due : (i : Image) (due : Status) → IsTextOf text i → IsAdmitted i
      → (wanted ≡ want.Report → (z : Words) → AreStanding (words_of i) z → AreMaps (heap (shape_of (words_of i))) z i.kinds)
      → IsDue wanted text due → (◌≡◌ {A = Status} status.Done due) ⊎ (◌≡◌ {A = Status} status.Done status.NoMemory)
  done_due i due here admitted maps (long more e) = absurd (omega (arith, short, more))
  done_due i due here admitted maps (misread less line e is) = absurd (ok_err text i line here e)
  done_due i due here admitted maps (refused less j there f b k is) =
      absurd (refused_admitted i f b (subst (λ (x : Image). IsRefusedBy x f b) (ok_same text j i there here) k) admitted)
  done_due i due here admitted maps (broken less j there k r z standing b first is) =
      let same : j ≡ i = ok_same text j i there here in
      absurd (maps_unbroken (heap (shape_of (words_of i))) z i.kinds b (maps r z (subst (λ (x : Image). AreStanding (words_of x) z) same standing))
      (subst (λ (x : Image). IsFirstBroken (heap (shape_of (words_of x))) z x.kinds b) same first))
  done_due i due here admitted maps (reported less j there k z standing all is) = inl (sym is)
  done_due i due here admitted maps (imaged less j there k m is) = inl (sym is)

-- the stop is counted
pub halted_rose : (i : Image) (region : Region) (counts counts' : Counts) → IsHalted i counts region counts' → HasRisen counts.stopped counts'.stopped
halted_rose i region counts counts' h = let e = ap (λ (c : Counts). c.stopped) h.counted in omega (arith, e)
