-- What a stop leaves of a region in which recovery was at work is such a region again.
use Rattle.std.proofs.Common.{◌≡◌, ◌⊎◌, inl, inr, ℕ, zero, suc, ◌<◌, ◌≤◌, List, [], ◌∷◌, length, map, refl, sym, ◌∙◌, subst, arith}
use Rattle.std.specs.Prelude.{slice_index}
use Rattle.persist_model.specs.declared.event.Candidate.{Candidate}
use Rattle.persist_model.specs.declared.pick.Pick.{Pick}
use Rattle.persist_model.specs.declared.pick.Pick.TheVariants.{Old, New, Mix}
use Rattle.persist_model.specs.Pick.{index_of_pick}
use Rattle.persist_model.specs.Region.{Region, IsCandidate, value_of, picked, restarted, newest_words}
use Rattle.persist_model.specs.Shape.{Shape}
use Rattle.persist_model.specs.State.{State, IsSoundState}
use Rattle.persist_model.proofs.Images.{length-newest_words}
use Rattle.persist_model.specs.Sound.{HasState}
use Rattle.log_laws.specs.Recovery.{KeepsStanding}
use Rattle.log_laws.specs.Parts.{EachKeeps}
use Rattle.recovery_run.specs.Edges.{KeepsWords, IsPlainHeaderWord}
use Rattle.recovery_run.specs.Reached.{newest_at, HasHeader, HasSettled}
use Rattle.recovery_run.proofs.Reaching.{read_newest, log_word_one, settled_reached, read_is_header, header_same, settled_begins}
use Rattle.recovery_lists.specs.Lists.{IsAtState}

slice_candidate : (cs : List Candidate) (i : ℕ) → i < length cs → IsCandidate cs (slice_index (map value_of cs) i)
slice_candidate [] i lt = absurd (omega (arith, lt))
slice_candidate (c ∷ cs) zero lt = inl refl
slice_candidate (c ∷ cs) (suc i) lt = inr (slice_candidate cs i (omega (arith, lt)))

index_below : (pick : Pick) (a n : ℕ) → 0 < n → index_of_pick pick a n < n
index_below Old a n lt = lt
index_below New a n lt = omega arith
index_below (Mix m) a n lt = omega arith

picked_candidate : (pick : Pick) (a : ℕ) (cs : List Candidate) → 0 < length cs → IsCandidate cs (picked pick a cs).value
picked_candidate pick a cs some = slice_candidate cs (index_of_pick pick a (length cs)) (index_below pick a (length cs) some)

pub restarted_at : (shape : Shape) (pick : Pick) (first y : State) (before later : Region) → HasSettled shape first y before → KeepsWords (IsPlainHeaderWord shape) before later →
    later.size ≡ before.size → ((a : ℕ) → 0 < length (later.at a)) → EachKeeps shape first later → IsAtState shape (restarted pick later)
restarted_at shape pick first y before later h keeps size full each = record { first = left.0; state = left.0; settled = settled_begins shape left.0 (restarted pick later) (λ a lt. refl) header left.1 }
  where
    left : (x : State) × HasState shape (newest_at (restarted pick later)) x × IsSoundState shape x × KeepsStanding shape.policy first x
    left = each.each (newest_words (restarted pick later)) (record {
      long = length-newest_words (restarted pick later);
      each = λ a lt. subst (IsCandidate (later.at a)) (sym (read_newest (restarted pick later) a lt)) (picked_candidate pick a (later.at a) (full a));
    })

    same : (a : ℕ) → (a ≤ 7) ⊎ ((13 ≤ a) × (a ≤ 20)) → newest_at (restarted pick later) a ≡ newest_at before a
    same a k =
        let is = read_is_header shape a k in
        let low = is.below in
        let enough = h.header.header.enough in
        read_newest (restarted pick later) a (omega (arith, low, enough, size))
        ∙ keeps a (newest_at before a) is (log_word_one shape first y before (settled_reached shape first y before h) a (omega (arith, low))) (picked pick a (later.at a)).value
        (picked_candidate pick a (later.at a) (full a))

    header : HasHeader shape (restarted pick later)
    header = header_same shape before (restarted pick later) h.header size same
