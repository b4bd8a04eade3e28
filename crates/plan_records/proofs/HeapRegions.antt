-- The events of an append and of a closing are on the log's words, and each image's heap words are as a tracked progress reaches.
use Rattle.std.proofs.Common.{◌≡◌, ◌≢◌, ◌⊎◌, inl, inr, ℕ, zero, suc, ◌+◌, ◌*◌, Bool, true, false, ◌==◌, ◌<◌, ◌≤◌, cond, List, [], ◌∷◌, ◌++◌, take, refl, sym, ap, ◌∙◌, subst, arith}
use Rattle.std.specs.Prelude.{nat_lt, ◌||◌, IsTrue}
use Rattle.std.proofs.lemmas.Bool.{ltb-true}
use Rattle.std.proofs.lemmas.Bool.Decides.{eqb_tells}
use Rattle.persist_model.specs.declared.event.Event.{Event}
use Rattle.persist_model.specs.declared.event.Event.TheVariants.{Fence}
use Rattle.persist_model.specs.Region.{Words, Region}
use Rattle.persist_model.specs.Progress.{Progress, Wrote, latest, advance_all, Tracks, IsWordOf, AreSettledAt}
use Rattle.persist_model.specs.Records.{Record, Log, IsAmong}
use Rattle.persist_model.specs.Shape.{Shape, heap, IsHeapWord, IsPlainOwner, heap_words, log_words}
use Rattle.persist_model.specs.Chain.{view}
use Rattle.persist_model.specs.State.{State}
use Rattle.persist_model.specs.ImageRecords.{cell_address}
use Rattle.persist_model.specs.Sound.{HasState}
use Rattle.persist_model.proofs.Projecting.{latest_none}
use Rattle.persist_model.proofs.Tracking.{Reaches-image}
use Rattle.log_laws.specs.Moves.{IsChangeBy}
use Rattle.log_laws.specs.Recovering.{AreOnLog}
use Rattle.log_laws.proofs.Views.{AreStoresOn-out}
use Rattle.bucket_log.specs.declared.append.Place.{Place}
use Rattle.bucket_log.specs.Words.{IsLogWord, IsPartWord}
use Rattle.bucket_log.specs.Plans.{append_plan}
use Rattle.bucket_log.specs.Appends.{region_append}
use Rattle.bucket_log.proofs.AppendImages.{append_stores}
use Rattle.bucket_log.proofs.Appended.{AreOnLog-stores, AreDurable-out, append_durable}
use Rattle.bucket_log.proofs.Partitions.{part_word_below, log_word_out}
use Rattle.log_clearing.specs.Plans.{closes, group, closing_plan}
use Rattle.plan_records.specs.Appends.{MayAppend}
use Rattle.plan_records.specs.Courses.{MayCloseOwn}
use Rattle.plan_records.specs.HeapCourses.{newest, IsChanged, IsInStep, taking, MayReach, IsTrackedImage, LogPlansAreOnLog, WordsAreTaken, HeapImagesReach}
use Rattle.plan_records.proofs.Changes.{heap_word_is}

on_log_take : (shape : Shape) (k : ℕ) (es : List Event) → AreOnLog shape es → AreOnLog shape (take k es)
on_log_take shape zero es on = tt
on_log_take shape (suc k) [] on = tt
on_log_take shape (suc k) (e ∷ es) on = (on.0, on_log_take shape k es on.1)

whole : (shape : Shape) (p : ℕ) (w : Words) (s : State) (chain : List ℕ) (place : Place) (r : Record) → MayAppend shape p w s chain place r → AreOnLog shape (region_append shape p place r)
whole shape p w s chain place r may = AreOnLog-stores shape (IsPartWord shape p) (λ a m. part_word_below shape p a may.allowed may.inside m) (region_append shape p place r)
    (AreStoresOn-out (IsLogWord shape p) (IsPartWord shape p) p (log_word_out shape p) (append_plan shape.cells place r)
    (append_stores shape p (view p (log_words shape w)) chain place r may.inside may.can))

-- ---- a closing

on_log_append : (shape : Shape) (es fs : List Event) → AreOnLog shape es → AreOnLog shape fs → AreOnLog shape (es ++ fs)
on_log_append shape [] fs h k = k
on_log_append shape (e ∷ es) fs h k = (h.0, on_log_append shape es fs h.1 k)

closes_on_log : (shape : Shape) (gates : List ℕ) → ((a : ℕ) → IsAmong gates a → a < heap shape) → AreOnLog shape (closes gates)
closes_on_log shape [] h = tt
closes_on_log shape (a ∷ gates) h = (h a (inl refl), closes_on_log shape gates (λ b m. h b (inr m)))

group_on_log : (shape : Shape) (gates : List ℕ) → ((a : ℕ) → IsAmong gates a → a < heap shape) → AreOnLog shape (group gates)
group_on_log shape [] h = tt
group_on_log shape (a ∷ gates) h = on_log_append shape (closes (a ∷ gates)) (Fence ∷ []) (closes_on_log shape (a ∷ gates) h) (tt, tt)

-- a record's gate is open in the log words, and so it is one of them
gate_inside : (shape : Shape) (w : Words) (s : State) (r : Record) → HasState shape w s → IsAmong s.log r → r.at < heap shape
gate_inside shape w s r has m = by (nat_lt r.at (heap shape)) refl
  where
    open_gate : log_words shape w r.at ≢ 0
    open_gate zeroed =
        let cell = ((has.records.each r).0 m).2 in
        let at : r.at ≡ cell_address cell.bucket cell.place = ap (λ (x : Record). x.at) cell.is in
        cell.gate (ap (λ (x : Record). x.lsn) cell.is ∙ ap (log_words shape w) (sym at) ∙ zeroed)

    by : (t : Bool) → nat_lt r.at (heap shape) ≡ t → r.at < heap shape
    by true e = ltb-true r.at (heap shape) e
    by false e = absurd (open_gate (ap (λ t. cond t (w r.at) 0) e))

closing_on_log : (shape : Shape) (t : ℕ) (w : Words) (s : State) (gates ends checkpoints : List ℕ) → MayCloseOwn shape t w s gates ends checkpoints → AreOnLog shape (closing_plan gates ends checkpoints)
closing_on_log shape t w s gates ends checkpoints may = on_log_append shape (group gates) (group ends ++ group checkpoints)
    (group_on_log shape gates (λ a m. (let r = may.groups.of_gates a m in inside a r.0 r.1 r.2.0)))
    (on_log_append shape (group ends) (group checkpoints)
    (group_on_log shape ends (λ a m. (let r = may.groups.of_ends a m in inside a r.0 r.1 r.2.0)))
    (group_on_log shape checkpoints (λ a m. (let r = may.groups.of_checkpoints a m in inside a r.0 r.1 r.2.0))))
  where
    inside : (a : ℕ) (r : Record) → IsAmong s.log r → r.at ≡ a → a < heap shape
    inside a r m e = subst (λ b. b < heap shape) e (gate_inside shape w s r may.has m)

pub log_plans_are_on_log : LogPlansAreOnLog
log_plans_are_on_log = record {
  appends = λ shape p w s chain place r k may. on_log_take shape k (region_append shape p place r) (whole shape p w s chain place r may);
  whole = whole;
  closings = λ shape t w s gates ends checkpoints k may. on_log_take shape k (closing_plan gates ends checkpoints) (closing_on_log shape t w s gates ends checkpoints may);
  durable = λ shape p place r. AreDurable-out p (append_plan shape.cells place r) (append_durable shape.cells place r);
}

-- ---- images

-- of the tracked words those of A are as they may be found
may_reach : (A : ℕ → Type 0) (shape : Shape) (test : ℕ → Bool) (lane : ℕ) (z : Progress) (events : List Event) (region : Region) (i : Words) → ((a : ℕ) → A a → IsHeapWord shape a) →
    ((a : ℕ) → A a → IsTrue (test a)) → AreOnLog shape events → IsTrackedImage test lane z events region i → MayReach shape A z (heap_words shape i)
may_reach A shape test lane z events region i heap_word has on of = (
  events,
  on,
  λ a m.
      subst (λ n. (n ≡ (advance_all z events).durable a) ⊎ Wrote (advance_all z events).pending a n) (sym (heap_word_is shape i a (heap_word a m)))
      (Reaches-image (λ b. IsTrue (test b)) lane (advance_all z events) region i of.inside of.image of.tracks a (has a m)),
)

-- a plain owner word is a heap word
pub owner_is_heap_word : (shape : Shape) (a : ℕ) → IsPlainOwner shape a → IsHeapWord shape a
owner_is_heap_word shape a k = let e : a ≡ heap shape + 16 * k.0 = k.3 in let lt : k.0 < shape.blocks = k.2 in (omega (arith, e), omega (arith, e, lt))

pub heap_images_reach : HeapImagesReach
heap_images_reach = record {
  changed = λ shape t x test lane z events region i sound has. may_reach (IsChanged x.log t) shape test lane z events region i
      (λ a m. subst (λ b. IsHeapWord shape b) m.2.1 ((sound.formed m.0 m.1).change m.2.0).0) has;
  owners = λ shape t s owners test lane z events region i sound given has. may_reach (IsAmong owners) shape test lane z events region i
      (λ a m. (let d = given a m in subst (λ b. IsHeapWord shape b) d.2.1 (owner_is_heap_word shape d.0.word ((sound.formed d.0 d.1).deletion d.2.0)))) has;
  word = λ shape a test lane z events region i heap_word on_test. may_reach (λ b. b ≡ a) shape test lane z events region i
      (λ b e. subst (λ c. IsHeapWord shape c) (sym e) heap_word) (λ b e. subst (λ c. IsTrue (test c)) (sym e) on_test);
}

-- ---- a word that is taken up

-- nothing is pending for it
still : (shape : Shape) (log : Log) (t a : ℕ) (q : Progress) → heap shape ≤ a → (IsChanged log t a → ⊥) → IsInStep shape log t q → (v : ℕ) → Wrote q.pending a v → ⊥
still shape log t a q high none h v k = none (h.no_other a v high k)

same_newest : (a v b : ℕ) (q : Progress) → b ≢ a → newest (taking a v q) b ≡ newest q b
same_newest a v b q ne = elim (eqb_tells b a) [ inl e ↦ absurd (ne e.1) | inr off ↦ ap (λ t. latest q.pending b (cond t v (q.durable b))) off.0 ]

taken_value : (a v : ℕ) (q : Progress) → (taking a v q).durable a ≡ v
taken_value a v q = elim (eqb_tells a a) [ inl e ↦ ap (λ t. cond t v (q.durable a)) e.0 | inr off ↦ absurd (off.1 refl) ]

pub words_are_taken : WordsAreTaken
words_are_taken = record { in_step = step; value = value; tracks = tracked }
  where
    step : (shape : Shape) (log : Log) (t a v : ℕ) (q : Progress) → (IsChanged log t a → ⊥) → IsInStep shape log t q → IsInStep shape log t (taking a v q)
    step shape log t a v q none h = record {
      newest_values = λ b r last. same_newest a v b q (λ e. none (r, last.among, subst (λ c. IsChangeBy t c r) e last.has)) ∙ h.newest_values b r last;
      no_other = h.no_other;
    }

    value : (shape : Shape) (log : Log) (t a v : ℕ) (q : Progress) → heap shape ≤ a → (IsChanged log t a → ⊥) → IsInStep shape log t q → newest (taking a v q) a ≡ v
    value shape log t a v q high none h = latest_none q.pending a ((taking a v q).durable a) (still shape log t a q high none h) ∙ taken_value a v q

    tracked : (shape : Shape) (log : Log) (t a v : ℕ) (q : Progress) (test : ℕ → Bool) (lane : ℕ) (region : Region) → heap shape ≤ a → (IsChanged log t a → ⊥) →
        IsInStep shape log t q → AreSettledAt (λ b. b ≡ a) (λ b. v) region → Tracks (λ b. IsTrue (test b)) lane q region →
        Tracks (λ b. IsTrue ((b == a) || test b)) lane (taking a v q) region
    tracked shape log t a v q test lane region high none h settled tracks b = by (eqb_tells b a)
      where
        here : b ≡ a → IsWordOf (lane + 1) v q.pending b (region.at b)
        here e = record {
          values = λ u k. inl (settled b e u k);
          last = λ u k. absurd (still shape log t a q high none h u (subst (λ c. Wrote q.pending c u) e k));
        }

        by : (((b == a) ≡ true) × (b ≡ a)) ⊎ (((b == a) ≡ false) × (b ≢ a)) → IsTrue ((b == a) || test b) → IsWordOf (lane + 1) ((taking a v q).durable b) q.pending b (region.at b)
        by (inl e) m = subst (λ d. IsWordOf (lane + 1) d q.pending b (region.at b)) (ap (λ t. cond t v (q.durable b)) (sym e.0)) (here e.1)
        by (inr off) m = subst (λ d. IsWordOf (lane + 1) d q.pending b (region.at b)) (ap (λ t. cond t v (q.durable b)) (sym off.0)) (tracks b (rw off.0 at m))
