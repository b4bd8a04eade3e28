-- Any words are a sound image or have a first fault, and there is one; the standing words of a sound image are determined.
use Rattle.std.proofs.Common.{◌≡◌, ◌≢◌, ◌⊎◌, inl, inr, ℕ, ◌+◌, ◌-◌, ◌*◌, ◌<◌, ◌≤◌, List, refl, sym, ap, ◌∙◌, subst, arith}
use Rattle.std.specs.List.{range_with_len}
use Rattle.persist_model.specs.Region.{Words}
use Rattle.persist_model.specs.Records.{Record, IsAmong}
use Rattle.persist_model.specs.Standing.{Stands}
use Rattle.persist_model.specs.Shape.{Shape, part_of, FIRST_MAGIC, SECOND_MAGIC, shape_of, words_of_shape, heap_words, log_words, IsMagic, IsPolicy, IsCellCount, IsBucketCount, IsBlockCount, IsStructureCount, IsPartitionCount, IsKind, IsShape}
use Rattle.persist_model.specs.Chain.{view, Each}
use Rattle.persist_model.specs.ImageRecords.{IsRecordOf}
use Rattle.persist_model.specs.State.{State, HasRoom, IsSoundState}
use Rattle.persist_model.specs.Sound.{IsListOf, HaveChains, room_of, HasState, IsSound}
use Rattle.persist_model.specs.Faults.{IsShapeFault, IsListFault, IsLogFault, parts, IsFirstFault, in_header, in_lists, in_log}
use Rattle.log_laws.specs.Soundness.{SoundHasNoFault, FirstFaultIsOne, StandingIsOne}
use Rattle.log_laws.proofs.Deciding.{IsDecided, decide_equal, decide_at_most, decide_either, decide_both, decide_implies}
use Rattle.log_laws.proofs.Tries.{CanFail, Excludes, AreOne, alike, none_fails, none_excluded, none_one, tried_some, tried_none, tried_one, each_some, each_none, each_one, each_alike}
use Rattle.persist_model.specs.Visit.{chain_from}
use Rattle.log_laws.proofs.Visits.{visit_some}
use Rattle.log_laws.proofs.AddressLists.{each_in_range, of_range}
use Rattle.log_laws.proofs.SoundLists.{chain_is_one, IsSoundPart, HasAddresses, HasPoints, sound_of_points, addresses_some, lists_some, addresses_none, lists_none, addresses_one, lists_one}
use Rattle.log_laws.proofs.RecordLists.{records_one}
use Rattle.log_laws.proofs.RecordSorting.{log_of, records_some}
use Rattle.log_laws.proofs.LogFaults.{decide_three, LogHolds, log_some, sound_of_holds, holds_of_sound, log_none, log_one}
use Rattle.log_laws.proofs.Standings.{stands_one, stands_some}
use Rattle.log_laws.proofs.Growing.{numbered}

-- ---- the header

unfoldable pub decide_within : (least most n : ℕ) → IsDecided ((least ≤ n) × (n ≤ most))
unfolding decide_both decide_at_most
decide_within least most n = decide_both _ _ (decide_at_most least n) (decide_at_most n most)

abbrev pub ShapeHolds : ℕ → Words → Type 0
ShapeHolds size w =
    ((32 ≤ size) × IsMagic (w 0)) × (IsPolicy (w 1) × (IsCellCount (w 2) × (IsBucketCount (w 3) × (IsBlockCount (w 4) × (IsStructureCount (w 5) × ((w 0 ≡ SECOND_MAGIC → IsPartitionCount (w 3) (w 6))
    × (Each (λ a. w 0 ≡ SECOND_MAGIC → IsKind (w a)) (range_with_len 13 (w 5)) × ((size ≡ words_of_shape (shape_of w)) × Unit {0}))))))))

unfoldable pub shape_some : (size : ℕ) (w : Words) → CanFail (ShapeHolds size w) (IsShapeFault size w)
unfolding tried_some each_some none_fails decide_both decide_at_most decide_either decide_equal decide_within decide_implies decide_three
shape_some size w =
    tried_some _ _ 1 0 _ (decide_both _ _ (decide_at_most 32 size) (decide_either _ _ (decide_equal (w 0) FIRST_MAGIC) (decide_equal (w 0) SECOND_MAGIC))) (λ h1.
    tried_some _ _ 2 1 _ (decide_either _ _ (decide_equal (w 1) 1) (decide_equal (w 1) 2)) (λ h2.
    tried_some _ _ 3 2 _ (decide_either _ _ (decide_equal (w 2) 1) (decide_equal (w 2) 16)) (λ h3.
    tried_some _ _ 4 3 _ (decide_within 4 1024 (w 3)) (λ h4.
    tried_some _ _ 4 4 _ (decide_within 16 65536 (w 4)) (λ h5.
    tried_some _ _ 4 5 _ (decide_within 1 8 (w 5)) (λ h6.
    tried_some _ _ 4 6 _ (decide_implies _ _ (decide_equal (w 0) SECOND_MAGIC) (λ k. decide_three _ _ _ (decide_at_most 1 (w 6)) (decide_at_most (w 6) 3) (decide_at_most (4 * w 6) (w 3)))) (λ h7.
    each_some (λ a. w 0 ≡ SECOND_MAGIC → IsKind (w a)) _ 4 (λ a. a) (range_with_len 13 (w 5)) _ (λ a. decide_implies _ _ (decide_equal (w 0) SECOND_MAGIC) (λ k. decide_within 1 3 (w a))) (λ h8.
    tried_some _ (Unit {0}) 4 0 _ (decide_equal size (words_of_shape (shape_of w))) (λ h9. none_fails)))))))))

pub shape_of_holds : (size : ℕ) (w : Words) → ShapeHolds size w → IsShape size w
shape_of_holds size w h = record {
  enough = h.0.0;
  magic = h.0.1;
  policy = h.1.0;
  cells = h.1.1.0;
  buckets = h.1.1.1.0;
  blocks = h.1.1.1.1.0;
  structures = h.1.1.1.1.1.0;
  partitions = h.1.1.1.1.1.1.0;
  kinds = λ two s lt. of_range (λ a. w 0 ≡ SECOND_MAGIC → IsKind (w a)) 13 (w 5) h.1.1.1.1.1.1.1.0 (13 + s) (omega arith) (omega (arith, lt)) two;
  long = h.1.1.1.1.1.1.1.1.0;
}

kind_at : (size : ℕ) (w : Words) → IsShape size w → (a : ℕ) → 13 ≤ a → a < 13 + w 5 → w 0 ≡ SECOND_MAGIC → IsKind (w a)
kind_at size w h a le lt two = let e : 13 + (a - 13) ≡ a = omega (arith, le) in subst (λ x. IsKind (w x)) e (h.kinds two (a - 13) (omega (arith, le, lt)))

shape_holds : (size : ℕ) (w : Words) → IsShape size w → ShapeHolds size w
shape_holds size w h =
    ((h.enough, h.magic), (h.policy, (h.cells, (h.buckets, (h.blocks, (h.structures, (h.partitions, (each_in_range (λ a. w 0 ≡ SECOND_MAGIC → IsKind (w a)) 13 (w 5) (kind_at size w h), (h.long, tt)))))))))

shape_none : (size : ℕ) (w : Words) → ShapeHolds size w → Excludes (IsShapeFault size w)
shape_none size w h =
    tried_none _ 1 0 _ h.0 (tried_none _ 2 1 _ h.1.0 (tried_none _ 3 2 _ h.1.1.0 (tried_none _ 4 3 _ h.1.1.1.0 (tried_none _ 4 4 _ h.1.1.1.1.0 (tried_none _ 4 5 _ h.1.1.1.1.1.0
    (tried_none _ 4 6 _ h.1.1.1.1.1.1.0 (each_none _ 4 (λ a. a) (range_with_len 13 (w 5)) _ h.1.1.1.1.1.1.1.0 (tried_none _ 4 0 _ h.1.1.1.1.1.1.1.1.0 none_excluded))))))))

shape_one : (size : ℕ) (w : Words) → AreOne (IsShapeFault size w) (IsShapeFault size w)
shape_one size w =
    tried_one _ _ 1 0 _ _ (alike _) (tried_one _ _ 2 1 _ _ (alike _) (tried_one _ _ 3 2 _ _ (alike _) (tried_one _ _ 4 3 _ _ (alike _) (tried_one _ _ 4 4 _ _ (alike _) (tried_one _ _ 4 5 _ _ (alike _)
    (tried_one _ _ 4 6 _ _ (alike _) (each_one _ _ 4 (λ a. a) (range_with_len 13 (w 5)) _ _ (each_alike (λ a. w 0 ≡ SECOND_MAGIC → IsKind (w a)) (range_with_len 13 (w 5))) (tried_one _ _ 4 0 _ _ (alike _) none_one))))))))

-- ---- the lists

abbrev pub ListsHold : Shape → Words → Type 0
ListsHold shape z = Each (HasAddresses shape z) (parts shape) × (Each (HasPoints shape z) (parts shape) × Unit {0})

unfoldable pub parts_some : (shape : Shape) (z : Words) → CanFail (ListsHold shape z) (IsListFault shape z)
unfolding addresses_some lists_some none_fails
parts_some shape z = addresses_some shape z (parts shape) _ _ (lists_some shape z (parts shape) (Unit {0}) _ none_fails)

each_part_sound : (shape : Shape) (w : Words) (chains : ℕ → List ℕ) → HaveChains shape w chains → Each (IsSoundPart shape (log_words shape w)) (parts shape)
each_part_sound shape w chains h = each_in_range (IsSoundPart shape (log_words shape w)) 0 shape.partitions (λ p le lt. (chains p, h p (omega (arith, lt))))

parts_none : (shape : Shape) (z : Words) → Each (IsSoundPart shape z) (parts shape) → Excludes (IsListFault shape z)
parts_none shape z h = addresses_none shape z (parts shape) _ h (lists_none shape z (parts shape) _ h none_excluded)

parts_one : (shape : Shape) (z : Words) → AreOne (IsListFault shape z) (IsListFault shape z)
parts_one shape z = addresses_one shape z (parts shape) _ _ (lists_one shape z (parts shape) _ _ none_one)

-- ---- the state of an image

-- the chains that follow from what the walks visit
unfoldable pub chains_in : (shape : Shape) (z : Words) → ℕ → List ℕ
unfolding visit_some
chains_in shape z p = chain_from (view p z) (visit_some shape p (view p z)).0

pub chains_are : (shape : Shape) (z : Words) → ListsHold shape z → (p : ℕ) → p < shape.partitions → IsListOf shape p z (chains_in shape z p)
unfolding chains_in
chains_are shape z h p lt =
    let v = visit_some shape p (view p z) in
    sound_of_points shape p z v.0 v.1 (of_range (HasAddresses shape z) 0 shape.partitions h.0 p (omega arith) (omega (arith, lt)))
    (of_range (HasPoints shape z) 0 shape.partitions h.1.0 p (omega arith) (omega (arith, lt)))

unfoldable pub state_with : (shape : Shape) (w : Words) (chains : ℕ → List ℕ) → State
unfolding log_of
state_with shape w chains = record { log = log_of shape chains (log_words shape w); words = heap_words shape w; room = λ p. room_of shape (log_words shape w) p (chains p) }

pub has_state_with : (shape : Shape) (w : Words) (chains : ℕ → List ℕ) → HaveChains shape w chains → HasState shape w (state_with shape w chains)
unfolding state_with
has_state_with shape w chains h = record { chains = chains; lists = h; records = records_some shape chains (log_words shape w); words = refl; room = λ p lt. refl }

pub state_gates : (shape : Shape) (w : Words) (s : State) → HasState shape w s → (r : Record) → IsAmong s.log r → r.lsn ≢ 0
state_gates shape w s h r m = ((h.records.each r).0 m).2.gate

-- an image has one log, and one room in each partition
same_chains : (shape : Shape) (w : Words) (s x : State) (h : HasState shape w s) (k : HasState shape w x) → (p : ℕ) → p < shape.partitions → h.chains p ≡ k.chains p
same_chains shape w s x h k p lt = chain_is_one shape p (view p (log_words shape w)) (h.chains p) (k.chains p) (h.lists p lt).rules (k.lists p lt).rules

pub same_log : (shape : Shape) (w : Words) (s x : State) → HasState shape w s → HasState shape w x → s.log ≡ x.log
same_log shape w s x h k = records_one shape h.chains (log_words shape w) s.log x.log h.records (record {
  newest_first = k.records.newest_first;
  each = λ r. (
    λ m. (let f = (k.records.each r).0 m in (f.0, f.1, subst (λ c. IsRecordOf shape.cells c (log_words shape w) r) (sym (same_chains shape w s x h k f.0 f.1)) f.2)),
    λ f. (k.records.each r).1 (f.0, f.1, subst (λ c. IsRecordOf shape.cells c (log_words shape w) r) (same_chains shape w s x h k f.0 f.1) f.2),
  );
})

pub same_room : (shape : Shape) (w : Words) (s x : State) → HasState shape w s → HasState shape w x → (p : ℕ) → p < shape.partitions → s.room p ≡ x.room p
same_room shape w s x h k p lt =
    h.room p lt ∙ ap (room_of shape (log_words shape w) p) (same_chains shape w s x h k p lt) ∙ sym (k.room p lt)

-- a state of a sound image is sound
pub sound_of_image : (shape : Shape) (w : Words) (s x : State) → HasState shape w s → HasState shape w x → IsSoundState shape s → IsSoundState shape x
sound_of_image shape w s x h k sound =
    sound_of_holds shape x k.records.newest_first (state_gates shape w x k) (moved (holds_of_sound shape s sound))
  where
    log : s.log ≡ x.log
    log = same_log shape w s x h k

    moved : LogHolds shape s → LogHolds shape x
    moved f =
        let g : LogHolds shape (record { log = x.log; words = s.words; room = s.room }) = subst (λ l. LogHolds shape (record { log = l; words = s.words; room = s.room })) log f in (
          g.0,
          (
            g.1.0,
            (
              each_in_range (λ p. HasRoom shape x.log p (x.room p)) 0 shape.partitions (λ p le lt.
                  subst (HasRoom shape x.log p) (same_room shape w s x h k p (omega (arith, lt))) (of_range (λ q. HasRoom shape x.log q (s.room q)) 0 shape.partitions g.1.1.0 p le lt)),
              g.1.1.1,
            ),
          ),
        )

-- ---- the laws

unfoldable pub log_fault : (size : ℕ) (w : Words) → IsShape size w → (s : State) → HasState (shape_of w) w s → CanFail (LogHolds (shape_of w) s) (IsLogFault (shape_of w) s) →
    IsSound size w ⊎ ((fault : ℕ) × (a : ℕ) × IsFirstFault size w fault a)
log_fault size w shape s has (inr f) = inr (f.0, f.1, in_log shape s has f.2)
log_fault size w shape s has (inl h) = inl (record { shape = shape; state = s; has = has; sound = sound_of_holds (shape_of w) s has.records.newest_first (state_gates (shape_of w) w s has) h })

unfoldable pub list_fault : (size : ℕ) (w : Words) → IsShape size w → CanFail (ListsHold (shape_of w) (log_words (shape_of w) w)) (IsListFault (shape_of w) (log_words (shape_of w) w)) →
    IsSound size w ⊎ ((fault : ℕ) × (a : ℕ) × IsFirstFault size w fault a)
unfolding log_fault log_some state_with chains_in
list_fault size w shape (inr f) = inr (f.0, f.1, in_lists shape f.2)
list_fault size w shape (inl h) =
    let chains = chains_in (shape_of w) (log_words (shape_of w) w) in
    let s = state_with (shape_of w) w chains in
    log_fault size w shape s (has_state_with (shape_of w) w chains (chains_are (shape_of w) (log_words (shape_of w) w) h)) (log_some (shape_of w) s)

unfoldable pub header_fault : (size : ℕ) (w : Words) → CanFail (ShapeHolds size w) (IsShapeFault size w) → IsSound size w ⊎ ((fault : ℕ) × (a : ℕ) × IsFirstFault size w fault a)
unfolding list_fault parts_some
header_fault size w (inr f) = inr (f.0, f.1, in_header f.2)
header_fault size w (inl h) = list_fault size w (shape_of_holds size w h) (parts_some (shape_of w) (log_words (shape_of w) w))

unfoldable pub sound_or_faulty : (size : ℕ) (w : Words) → IsSound size w ⊎ ((fault : ℕ) × (a : ℕ) × IsFirstFault size w fault a)
unfolding header_fault shape_some
sound_or_faulty size w = header_fault size w (shape_some size w)

pub first_fault_is_one : FirstFaultIsOne
first_fault_is_one size w i a j b (in_header f) (in_header g) = shape_one size w i a j b f g
first_fault_is_one size w i a j b (in_header f) (in_lists shape g) = absurd (shape_none size w (shape_holds size w shape) i a f)
first_fault_is_one size w i a j b (in_header f) (in_log shape s has g) = absurd (shape_none size w (shape_holds size w shape) i a f)
first_fault_is_one size w i a j b (in_lists shape f) (in_header g) = absurd (shape_none size w (shape_holds size w shape) j b g)
first_fault_is_one size w i a j b (in_lists shape f) (in_lists shape' g) = parts_one (shape_of w) (log_words (shape_of w) w) i a j b f g
first_fault_is_one size w i a j b (in_lists shape f) (in_log shape' s has g) =
    absurd (parts_none (shape_of w) (log_words (shape_of w) w) (each_part_sound (shape_of w) w has.chains has.lists) i a f)
first_fault_is_one size w i a j b (in_log shape s has f) (in_header g) = absurd (shape_none size w (shape_holds size w shape) j b g)
first_fault_is_one size w i a j b (in_log shape s has f) (in_lists shape' g) =
    absurd (parts_none (shape_of w) (log_words (shape_of w) w) (each_part_sound (shape_of w) w has.chains has.lists) j b g)
first_fault_is_one size w i a j b (in_log shape s has f) (in_log shape' x has' g) =
    log_one (shape_of w) x.log s x (same_log (shape_of w) w s x has has') refl (same_room (shape_of w) w s x has has') i a j b f g

pub sound_has_no_fault : SoundHasNoFault
sound_has_no_fault size w fault a h (in_header f) = shape_none size w (shape_holds size w h.shape) fault a f
sound_has_no_fault size w fault a h (in_lists shape f) = parts_none (shape_of w) (log_words (shape_of w) w) (each_part_sound (shape_of w) w h.has.chains h.has.lists) fault a f
sound_has_no_fault size w fault a h (in_log shape s has f) =
    log_none (shape_of w) s (holds_of_sound (shape_of w) s (sound_of_image (shape_of w) w h.state s h.has has h.sound)) fault a f

pub standing_is_one : StandingIsOne
standing_is_one size w a h =
    let some = stands_some (w 1) h.state.log h.state.words a in (
      some.0,
      (h.state, h.has, some.1),
      λ x k. (
          let log = same_log (shape_of w) w k.0 h.state k.1 h.has in
          let words : k.0.words ≡ h.state.words = k.1.words ∙ sym h.has.words in
          let moved : Stands (w 1) h.state.log h.state.words a x = subst (λ ws. Stands (w 1) h.state.log ws a x) words (subst (λ l. Stands (w 1) l k.0.words a x) log k.2) in
          stands_one (w 1) h.state.log h.state.words a x some.0 (numbered (part_of (shape_of w)) h.state.log h.state.log h.sound.order) moved some.1),
    )
