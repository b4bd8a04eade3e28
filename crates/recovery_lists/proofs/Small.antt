-- The tests' region holds a state without records, and what a stop leaves of such a region.
use Rattle.std.proofs.Common.{◌≡◌, inl, inr, ℕ, zero, suc, ◌+◌, ◌*◌, ◌<◌, ◌≤◌, ◌==◌, if◌then◌else◌, List, [], ◌∷◌, length, refl, sym, ap, ◌∙◌, subst, arith}
use Rattle.persist_model.specs.Region.{Words, Region, loaded}
use Rattle.persist_model.specs.Records.{Record, IsAmong}
use Rattle.persist_model.specs.Shape.{Shape, SECOND_MAGIC, shape_of, IsShape, IsBucketOf, heap_words, log_words, words_of_shape}
use Rattle.persist_model.specs.Chain.{view}
use Rattle.persist_model.specs.ImageRecords.{IsRecordOf, AreRecords, cell_address}
use Rattle.persist_model.specs.State.{State, IsSoundState}
use Rattle.persist_model.specs.Sound.{HasState, HasChain, IsListOf, room_of}
use Rattle.atomic_list.specs.Rules.{IsList, appending, removing}
use Rattle.atomic_list.proofs.Closings.{list_from_view}
use Rattle.recovery_run.specs.Reached.{newest_at, HasSettled, IsQuiet}
use Rattle.recovery_run.proofs.ClosingPart.{same_heap}
use Rattle.recovery_run.proofs.Reaching.{read_newest, settled_begins}
use Rattle.bucket_log.proofs.PartStates.{log_words_same}
use Rattle.test_regions.specs.Pairs.{word_in, words_in}
use Rattle.test_regions.proofs.Regions.{words_long, word_at}
use Rattle.recovery_lists.specs.ListRegion.{small, unrepaired}
use Rattle.recovery_lists.specs.Lists.{IsAtState, IsAtEmptyLog}

abbrev w : Words
w = word_in unrepaired

-- ---- the words

read_word : (a : ℕ) → a < 416 → newest_at (loaded (words_in unrepaired 416)) a ≡ w a
read_word a lt =
    let size : length (words_in unrepaired 416) ≡ 416 = words_long unrepaired 416 in
    read_newest (loaded (words_in unrepaired 416)) a (omega (arith, lt, size)) ∙ word_at unrepaired 416 a lt

-- ---- the lists

abbrev pub chains : ℕ → List ℕ
chains zero = 32 ∷ 48 ∷ []
chains (suc q) = 96 ∷ 128 ∷ 144 ∷ []

bucket_of : (q j : ℕ) → q < 2 → 4 * q ≤ j → j < 4 * q + 4 → IsBucketOf small q (32 + j * 16)
bucket_of zero j lt low high = (j, omega arith, omega (arith, high), refl)
bucket_of (suc zero) j lt low high = (j, omega (arith, low), omega (arith, high), refl)
bucket_of (suc (suc q)) j lt low high = absurd (omega (arith, lt))

first_list : IsList small 0 (view 0 (log_words small w)) (32 ∷ 48 ∷ [])
first_list = appending (32 ∷ []) 48 (record {
  to_append = refl;
  to_remove = refl;
  last_tail = refl;
  bucket = bucket_of 0 1 (omega arith) (omega arith) (omega arith);
  buckets = (bucket_of 0 0 (omega arith) (omega arith) (omega arith), tt);
  absent = ((λ e. omega (arith, e)), tt);
  no_repeats = (tt, tt);
  links = inl (refl, (λ e. omega (arith, e)), refl);
  links_back = (refl, tt);
  next = refl;
  prev = refl;
  tail = inl refl;
}) refl

second_list : IsList small 1 (view 1 (log_words small w)) (96 ∷ 128 ∷ 144 ∷ [])
second_list = removing (96 ∷ []) 112 (128 ∷ 144 ∷ []) (record {
  to_append = refl;
  to_remove = refl;
  last_tail = inl refl;
  bucket = bucket_of 1 5 (omega arith) (omega arith) (omega arith);
  buckets = (bucket_of 1 4 (omega arith) (omega arith) (omega arith), (bucket_of 1 6 (omega arith) (omega arith) (omega arith), (bucket_of 1 7 (omega arith) (omega arith) (omega arith), tt)));
  absent = ((λ e. omega (arith, e)), ((λ e. omega (arith, e)), ((λ e. omega (arith, e)), tt)));
  no_repeats = (((λ e. omega (arith, e)), ((λ e. omega (arith, e)), tt)), (((λ e. omega (arith, e)), tt), (tt, tt)));
  links = inl (refl, (λ e. omega (arith, e)), refl);
  next = (refl, (λ e. omega (arith, e)), (refl, (λ e. omega (arith, e)), refl));
  prev = refl;
  links_back = (refl, tt);
  rest_links_back = inl (refl, (refl, tt));
  tail = inl refl;
}) refl

gates : (b c : ℕ) → IsAmong (32 ∷ 48 ∷ 96 ∷ 112 ∷ 128 ∷ 144 ∷ []) b → c < 1 → log_words small w (cell_address b c) ≡ 0
gates b (suc c) m lt = absurd (omega (arith, lt))
gates b zero m lt = elim m [
  | inl e ↦ ap (λ n. log_words small w (cell_address n 0)) e
  | inr m ↦ elim m [
    | inl e ↦ ap (λ n. log_words small w (cell_address n 0)) e
    | inr m ↦ elim m [
      | inl e ↦ ap (λ n. log_words small w (cell_address n 0)) e
      | inr m ↦ elim m [
        | inl e ↦ ap (λ n. log_words small w (cell_address n 0)) e
        | inr m ↦ elim m [
          | inl e ↦ ap (λ n. log_words small w (cell_address n 0)) e
          | inr m ↦ elim m [ inl e ↦ ap (λ n. log_words small w (cell_address n 0)) e | inr m ↦ elim m [ ] ]
        ]
      ]
    ]
  ]
]

lists : (q : ℕ) → q < 2 → HasChain small w q (chains q)
lists zero lt = list_from_view small 0 (log_words small w) (32 ∷ 48 ∷ []) (first_list, λ ne. absurd (ne refl))
lists (suc zero) lt = list_from_view small 1 (log_words small w) (96 ∷ 128 ∷ 144 ∷ []) (second_list, λ ne c below. closed c below)
  where
    closed : (c : ℕ) → c < 1 → view 1 (log_words small w) (cell_address 112 c) ≡ 0
    closed zero below = refl
    closed (suc c) below = absurd (omega (arith, below))
lists (suc (suc q)) lt = absurd (omega (arith, lt))

chain_among : (q b : ℕ) → IsAmong (chains q) b → IsAmong (32 ∷ 48 ∷ 96 ∷ 112 ∷ 128 ∷ 144 ∷ []) b
chain_among zero b m = elim m [ inl e ↦ inl e | inr m ↦ elim m [ inl e ↦ inr (inl e) | inr m ↦ elim m [ ] ] ]
chain_among (suc q) b m = elim m [
  | inl e ↦ inr (inr (inl e))
  | inr m ↦ elim m [ inl e ↦ inr (inr (inr (inr (inl e)))) | inr m ↦ elim m [ inl e ↦ inr (inr (inr (inr (inr (inl e))))) | inr m ↦ elim m [ ] ] ]
]

no_record : (q : ℕ) (r : Record) → IsRecordOf 1 (chains q) (log_words small w) r → ⊥
no_record q r h = h.gate (ap (λ (x : Record). x.lsn) h.is ∙ gates h.bucket h.place (chain_among q h.bucket h.is_among) h.below)

abbrev pub small_state : State
small_state = record { log = []; words = heap_words small w; room = λ q. room_of small (log_words small w) q (chains q) }

pub has_small : HasState small w small_state
has_small = record {
  chains = chains;
  lists = lists;
  records = record { newest_first = tt; each = λ r. (λ m. elim m [ ], λ h. absurd (no_record h.0 r h.2)) };
  words = refl;
  room = λ q lt. refl;
}

-- ---- the region

state_of_same : (shape : Shape) (u v : Words) (s : State) → ((a : ℕ) → a < words_of_shape shape → v a ≡ u a) → HasState shape u s → HasState shape v s
state_of_same shape u v s same h =
    let logs : log_words shape v ≡ log_words shape u = λ i a. log_words_same shape u v a (λ lt. same a (omega (arith, lt))) i in
    record {
      chains = h.chains;
      lists = λ q lt. subst (λ (x : Words). IsListOf shape q x (h.chains q)) (sym logs) (h.lists q lt);
      records = subst (λ (x : Words). AreRecords shape h.chains x s.log) (sym logs) h.records;
      words = h.words ∙ sym (same_heap shape u v (λ a le lt. same a lt));
      room = λ q lt. h.room q lt ∙ ap (λ (x : Words). room_of shape x q (h.chains q)) (sym logs);
    }

abbrev region : Region
region = loaded (words_in unrepaired 416)

shape_is : shape_of (newest_at region) ≡ small
shape_is = λ i. record {
  policy = read_word 1 (omega arith) i;
  cells = read_word 2 (omega arith) i;
  buckets = read_word 3 (omega arith) i;
  blocks = read_word 4 (omega arith) i;
  structures = read_word 5 (omega arith) i;
  format = if read_word 0 (omega arith) i == SECOND_MAGIC then 2 else 1;
  partitions = if read_word 0 (omega arith) i == SECOND_MAGIC then read_word 6 (omega arith) i else 1;
}

is_shape : IsShape (length (words_in unrepaired 416)) (newest_at region)
is_shape =
    let buckets : newest_at region 3 ≡ 8 = read_word 3 (omega arith) in
    let blocks : newest_at region 4 ≡ 16 = read_word 4 (omega arith) in
    let structures : newest_at region 5 ≡ 1 = read_word 5 (omega arith) in
    let partitions : newest_at region 6 ≡ 2 = read_word 6 (omega arith) in
    let size = words_long unrepaired 416 in
    record {
      enough = omega (arith, size);
      magic = inr (read_word 0 (omega arith));
      policy = inl (read_word 1 (omega arith));
      cells = inl (read_word 2 (omega arith));
      buckets = (omega (arith, buckets), omega (arith, buckets));
      blocks = (omega (arith, blocks), omega (arith, blocks));
      structures = (omega (arith, structures), omega (arith, structures));
      partitions = λ second. (omega (arith, partitions), omega (arith, partitions), omega (arith, partitions, buckets));
      kinds = λ second s lt. kind s (omega (arith, structures, lt));
      long = size ∙ ap words_of_shape (sym shape_is);
    }
  where
    kind : (s : ℕ) → s < 1 → (1 ≤ newest_at region (13 + s)) × (newest_at region (13 + s) ≤ 3)
    kind zero lt = (let e : newest_at region 13 ≡ 1 = read_word 13 (omega arith) in (omega (arith, e), omega (arith, e)))
    kind (suc s) lt = absurd (omega (arith, lt))

pub small_settled : HasSettled small small_state small_state region
small_settled = settled_begins small small_state region (λ a lt. refl) (record { header = is_shape; shape_is = shape_is })
    (state_of_same small w (newest_at region) small_state (λ a lt. read_word a lt) has_small)

pub small_at_state : IsAtState small region
small_at_state = record { first = small_state; state = small_state; settled = small_settled }

pub small_sound : IsSoundState small small_state
small_sound = record {
  newest_first = tt;
  gates = λ r h. absurd h;
  formed = λ r h. absurd h;
  order = tt;
  room = λ p within. record { undo = omega arith; checkpoint = λ first policy has_open. absurd has_open.1 };
  numbers = λ r h. absurd h;
}

-- ---- of a device that was loaded with these words

pub settled_at : (shape : Shape) (cells : Region) → shape ≡ small → cells ≡ loaded (words_in unrepaired 416) → HasSettled shape small_state small_state cells
settled_at shape cells is loads = subst (λ (s : Shape). HasSettled s small_state small_state cells) (sym is) (subst (λ (r : Region). HasSettled small small_state small_state r) (sym loads) small_settled)

pub state_at : (shape : Shape) (cells : Region) → shape ≡ small → cells ≡ loaded (words_in unrepaired 416) → IsAtState shape cells
state_at shape cells is loads = record { first = small_state; state = small_state; settled = settled_at shape cells is loads }

pub sound_at : (shape : Shape) → shape ≡ small → IsSoundState shape small_state
sound_at shape is = subst (λ (s : Shape). IsSoundState s small_state) (sym is) small_sound

pub empty_at : (shape : Shape) (cells : Region) → HasSettled shape small_state small_state cells → IsQuiet 1 (newest_at cells) → IsAtEmptyLog shape 1 cells
empty_at shape cells h quiet = record { at = record { first = small_state; state = small_state; settled = h }; empty = refl; quiet = quiet }
