-- 0 to the owner words of the blocks that commits gave back.
use Rattle.std.proofs.Common.{◌≡◌, ◌≢◌, inl, inr, ℕ, ◌+◌, ◌<◌, List, [], ◌∷◌, ◌++◌, length, refl, sym, ap, ◌∙◌, subst, arith}
use Rattle.std.proofs.lemmas.Bool.Decides.{eqb_tells}
use Rattle.persist_model.specs.declared.event.Event.TheVariants.{PStore, Fence}
use Rattle.persist_model.specs.declared.event.Candidate.{Candidate}
use Rattle.persist_model.specs.Region.{Words, Region, candidate, IsCandidate, newest, after}
use Rattle.persist_model.specs.Records.{Has}
use Rattle.persist_model.specs.Standing.{IsToUndo, IsToDelete}
use Rattle.persist_model.specs.Shape.{Shape, part_of, IsHeapWord}
use Rattle.persist_model.specs.State.{State, IsSoundState}
use Rattle.persist_model.proofs.Candidates.{newest-push, newest-fenced, IsCandidate_newest}
use Rattle.persist_model.proofs.Images.{at-with_word, at-with_word_other}
use Rattle.log_laws.proofs.Standings.{stands_stored}
use Rattle.log_laws.proofs.Growing.{word_is_one's}
use Rattle.noforce_policy.proofs.Sweeps.{sweeps_tell}
use Rattle.log_keeper.proofs.EventsPass.{events_pass, heap_events_pass}
use Rattle.history_laws.specs.Histories.{fold}
use Rattle.history_laws.specs.UnderWay.{run_of}
use Rattle.txn_laws.specs.Txns.{txn_at}
use Rattle.txn_laws.specs.PartsOf.{Fits}
use Rattle.txn_laws.proofs.LogEvents.{leaves_heap}
use Rattle.redo_laws.specs.Checkpoints.{noted, zeroed}
use Rattle.redo_laws.specs.Stages.{AreZero, IsHeldAtRest, IsZeroed, AreTold, AreSkipped}
use Rattle.redo_laws.specs.Worlds.{RedoWorld, IsRedoWorldAt}
use Rattle.redo_laws.specs.Sweeps.{at_stage}
use Rattle.redo_laws.specs.Notes.{OwnersAreZeroed, ZerosAreFenced, NoZerosPass}
use Rattle.redo_laws.proofs.Beside.{leaves_itself, beside, fence_log, stage_is}
use Rattle.redo_laws.proofs.Standing.{rest_idle}

-- no word is to be undone and deleted
pub not_both : (shape : Shape) (s : State) (a : ℕ) → IsSoundState shape s → Has (IsToUndo s.log a) s.log → Has (IsToDelete s.log a) s.log → ⊥
not_both shape s a sound u d = word_is_one's (part_of shape) s.log sound.order d.0 u.0 d.1 u.1 (inr d.2.0) (inl (inl u.2.0)) (d.2.1 ∙ sym u.2.1)
    (inr (d.2.0, d.2.2)) (inl (inl (inl u.2.0), u.2.2)) (λ e. (let c = d.2.2 in u.2.2 c.0 c.1 (c.2.0.0, c.2.0.1 ∙ e)))

module _ (shape : Shape) (base : Words) (s : State) (chains : ℕ → List ℕ) (start : Words) (z : RedoWorld) (region : Region) (l a : ℕ) (words : List ℕ)
    (is : z.checkpoint ≡ noted l words) (inside : IsHeapWord shape a) (given : Has (IsToDelete s.log a) s.log) (world : IsRedoWorldAt shape base s chains start z region) where
  abbrev later : Region
  later = after region l (PStore a 0)

  here : (b : ℕ) → b ≡ a → later.at b ≡ region.at b ++ candidate 0 (l + 1) ∷ []
  here b e = subst (λ c. later.at c ≡ region.at c ++ candidate 0 (l + 1) ∷ []) (sym e) (at-with_word a (λ cs. cs ++ candidate 0 (l + 1) ∷ []) region)

  there : (b : ℕ) → b ≢ a → later.at b ≡ region.at b
  there b ne = at-with_word_other a (λ cs. cs ++ candidate 0 (l + 1) ∷ []) region b ne

  newest_here : (b : ℕ) → b ≡ a → newest (later.at b) ≡ 0
  newest_here b e = ap newest (here b e) ∙ newest-push (region.at b) (candidate 0 (l + 1))

  pushed : (cs : List Candidate) → 0 < length (cs ++ candidate 0 (l + 1) ∷ [])
  pushed [] = omega arith
  pushed (c ∷ cs) = omega arith

  zeroed_there : IsRedoWorldAt shape base s chains start (at_stage (noted l (a ∷ words)) z) later
  zeroed_there = record {
    no_force = world.no_force;
    log = record {
      of_shape = world.log.of_shape;
      header = world.log.header;
      logged = events_pass shape base s chains z.world.keeping region l (PStore a 0) (heap_events_pass shape z.world.keeping l (PStore a 0) world.log.logged.allowed inside.0) world.log.logged;
      sound = world.log.sound;
      ordered = world.log.ordered;
      fits = world.log.fits;
      numbers = world.log.numbers;
    };
    spare = world.spare;
    owners = world.owners;
    transactions = world.transactions;
    heap = record {
      full = λ b m. elim (eqb_tells b a) [
        | inl e ↦ subst (λ (cs : List Candidate). 0 < length cs) (sym (here b e.1)) (pushed (region.at b))
        | inr ne ↦ subst (λ (cs : List Candidate). 0 < length cs) (sym (there b ne.1)) (world.heap.full b m)
      ];
      now = λ b m free. elim (eqb_tells b a) [
        | inl e ↦ (let d = subst (λ c. Has (IsToDelete s.log c) s.log) (sym e.1) given in absurd (free d.0 d.1 d.2))
        | inr ne ↦ ap newest (there b ne.1) ∙ world.heap.now b m free
      ];
    };
    stands = λ b u m may_be. elim (eqb_tells b a) [
      | inl e ↦ stands_stored shape.policy s.log (λ c. newest (region.at b)) (λ c. u) b (fold start z.world.history b) (inr (inr (inl (subst (λ c. Has (IsToDelete s.log c) s.log) (sym e.1) given))))
          (world.stands b (newest (region.at b)) m (IsCandidate_newest (region.at b) (world.heap.full b m)))
      | inr ne ↦ world.stands b u m (subst (λ (cs : List Candidate). IsCandidate cs u) (there b ne.1) may_be)
    ];
    stage = (
        let stage = stage_is shape s (fold start z.world.history) z.world z.dirty region z.checkpoint (noted l words) is world.stage in record {
          tells = sweeps_tell.stores_durably shape z.dirty l a 0 region stage.tells;
          told = λ e. cc;
          all_swept = stage.all_swept;
          skipped = stage.skipped;
          at_rest = stage.at_rest;
          deleted = λ b m. elim m [
            | inl e ↦ (subst (IsHeapWord shape) (sym e) inside, subst (λ c. Has (IsToDelete s.log c) s.log) (sym e) given)
            | inr k ↦ stage.deleted b k
          ];
          zero = λ b m. elim (eqb_tells b a) [
            | inl e ↦ newest_here b e.1
            | inr ne ↦ (ap newest (there b ne.1) ∙ elim m [ inl e ↦ absurd (ne.1 e) | inr k ↦ stage.zero b k ])
          ];
        });
  }

pub owners_are_zeroed : OwnersAreZeroed
owners_are_zeroed shape base s chains start z region l a words few is inside given world = zeroed_there shape base s chains start z region l a words is inside given world

-- behind that nothing is under way
pub zeroed_from : (shape : Shape) (s : State) (h : Words) (z : RedoWorld) (l : ℕ) (region : Region) → AreTold shape z.dirty region → AreSkipped s.log → AreZero s.log region → IsHeldAtRest shape z.world l →
    IsZeroed shape s h z.world z.dirty l region
zeroed_from shape s h z l region told skipped zero at_rest = record {
  told = told;
  skipped = skipped;
  zero = zero;
  held = at_rest.held;
  parts = λ p lt. record { run = at_rest.run p lt ∙ sym (ap run_of (at_rest.under p lt)); fits = subst (Fits shape s h p (txn_at z.world.lanes (z.world.keeping.holder p))) (sym (at_rest.under p lt)) tt };
  idle = λ p lt. rest_idle (z.world.under p) (at_rest.under p lt);
}

pub zeros_are_fenced : ZerosAreFenced
zeros_are_fenced shape base s chains start z region l words few is all world =
    let stage = stage_is shape s (fold start z.world.history) z.world z.dirty region z.checkpoint (noted l words) is world.stage in
    let told = sweeps_tell.fences shape z.dirty l region stage.tells in
    beside shape base s chains start z region (after region l Fence) z.world.keeping z.world.next z.dirty (zeroed l)
    (fence_log shape base s chains z.world.keeping z.world.next region l few stage.at_rest.run world.log) (leaves_heap shape region l Fence tt)
    (zeroed_from shape s (fold start z.world.history) z l (after region l Fence) told stage.skipped (λ a u d may_be. elim (told a (stage.deleted a (all a d)).0) [
      | inl dirty ↦ absurd (not_both shape s a world.log.sound (stage.all_swept a (stage.deleted a (all a d)).0 dirty) d)
      | inr one ↦ one u may_be ∙ newest-fenced (l + 1) (region.at a) ∙ stage.zero a (all a d)
    ]) stage.at_rest) world

pub no_zeros_pass : NoZerosPass
no_zeros_pass shape base s chains start z region l is nothing_given world =
    let stage = stage_is shape s (fold start z.world.history) z.world z.dirty region z.checkpoint (noted l []) is world.stage in
    beside shape base s chains start z region region z.world.keeping z.world.next z.dirty (zeroed l) world.log (leaves_itself shape region)
    (zeroed_from shape s (fold start z.world.history) z l region (stage.told refl) stage.skipped (λ a u d may_be. absurd (nothing_given a d)) stage.at_rest) world
