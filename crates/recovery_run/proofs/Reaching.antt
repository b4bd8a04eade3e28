-- What a reached state says of the region, and how it goes on.
use Rattle.std.proofs.Common.{◌≡◌, ◌⊎◌, inl, inr, ℕ, zero, suc, ◌+◌, ◌<◌, ◌≤◌, ◌==◌, Bool, true, false, if◌then◌else◌, List, [], ◌∷◌, ◌++◌, length, take, refl, sym, ap, ◌∙◌, subst, arith, nat_lt}
use Rattle.std.proofs.lemmas.Bool.Decides.{eqb_tells, nat_tests}
use Rattle.std.proofs.lemmas.Bool.{ltb-true}
use Rattle.persist_model.specs.declared.event.Event.{Event}
use Rattle.persist_model.specs.declared.event.Event.TheVariants.{Store, PStore, WriteBack, Fence}
use Rattle.persist_model.specs.declared.event.Candidate.{Candidate}
use Rattle.persist_model.specs.Region.{Words, Region, after, candidate, fenced, IsCandidate, IsSettled, AreSettled, newest}
use Rattle.persist_model.specs.Progress.{Progress, Wrote, Tracks, IsWordOf, IsDurable, Reaches, latest, write, start, advance, advance_all}
use Rattle.persist_model.specs.Shape.{Shape, shape_of, heap, words_of_shape, heap_words, list_words, SECOND_MAGIC, IsMagic, IsPolicy, IsCellCount, IsBucketCount, IsBlockCount, IsStructureCount, IsKind, IsPartitionCount}
use Rattle.persist_model.specs.State.{State, IsSoundState}
use Rattle.persist_model.specs.Sound.{HasState}
use Rattle.persist_model.proofs.Candidates.{IsCandidate_newest, newest-push, fenced-push}
use Rattle.persist_model.proofs.Tracking.{latest_cases, Tracks-event, Wrote-push, Wrote-pushed}
use Rattle.persist_model.proofs.Projecting.{latest_none}
use Rattle.persist_model.proofs.Images.{get_or-newest_words, settled_is}
use Rattle.log_laws.specs.Recovery.{HasDecidingRecord, Step, Steps, start as begins, makes, KeepsStanding}
use Rattle.log_laws.specs.Recovering.{RECOVERY_LANE, with_heap}
use Rattle.log_laws.specs.Parts.{after_plan, AreDurable, HasCome, Leads, EachKeeps}
use Rattle.log_laws.proofs.Recovering.{same_log, state_with_heap, heap_step, rest_image, rest_store}
use Rattle.log_laws.proofs.Keeping.{runs_keep}
use Rattle.recovery_run.specs.Edges.{HasOnlyValue, KeepsWords, IsPlainHeaderWord}
use Rattle.recovery_run.specs.Reached.{newest_at, with_value, HasHeader, AreSingle, HasReached, HasSettled}
use Rattle.recovery_run.proofs.Composing.{parts_keep, parts_go_on, recovery_begins}
use Rattle.recovery_run.proofs.Aside.{plan_keeps}
use Rattle.recovery_run.proofs.Making.{same_size}
use Rattle.recovery_run.proofs.ClosingPart.{same_heap}

-- a store to a covered heap word
pub come_store : (shape : Shape) (first : State) (p : Progress) (w : Words) (s : State) (region : Region) (a x : ℕ) → heap shape ≤ a → HasDecidingRecord shape.policy s.log a →
    HasCome shape first p w s region → HasCome shape first (advance p (PStore a x)) w s (after region RECOVERY_LANE (PStore a x))
come_store shape first p w s region a x le covered h = record {
  size = h.size;
  tracks = Tracks-event (λ b. b < words_of_shape shape) RECOVERY_LANE p region (PStore a x) tt h.tracks;
  rest = rest_store shape p w s a x le covered h.rest;
  steps = h.steps;
}

-- ---- the newest value of a word

pub newest_tracked : (m d : ℕ) (s : _) (a : ℕ) (c : List Candidate) → IsWordOf m d s a c → (((v : ℕ) → Wrote s a v → ⊥) → IsSettled c) → newest c ≡ latest s a d
newest_tracked m d s a c h single = elim (latest_cases s a d) [
  | inl none ↦ by_values (IsCandidate_newest c (let one : length c ≡ 1 = single none.1 in omega (arith, one))) none
  | inr wrote ↦ (let last = h.last (latest s a d) wrote in ap newest last.1 ∙ newest-push last.0 (candidate (latest s a d) m))
]
  where
    by_values : IsCandidate c (newest c) → (latest s a d ≡ d) × ((v : ℕ) → Wrote s a v → ⊥) → newest c ≡ latest s a d
    by_values k none = elim (h.values (newest c) k) [ inl e ↦ e ∙ sym none.0 | inr w ↦ absurd (none.1 (newest c) w) ]

pub read_newest : (region : Region) (a : ℕ) → a < region.size → newest_at region a ≡ newest (region.at a)
read_newest region a lt = get_or-newest_words region a lt

-- a word that can be nothing but v, and is something, is read as v
pub newest_one : (cs : List Candidate) (v : ℕ) → 0 < length cs → HasOnlyValue v cs → newest cs ≡ v
newest_one cs v some one = one (newest cs) (IsCandidate_newest cs some)

-- ---- what a reached state says

module _ (shape : Shape) (first y : State) (region : Region) (h : HasReached shape first y region) where
  pub newest_latest : (a : ℕ) → a < words_of_shape shape → newest_at region a ≡ latest h.progress.pending a (h.progress.durable a)
  newest_latest a lt =
      let below : a < region.size = subst (λ n. a < n) (sym h.come.size) lt in
      read_newest region a below
      ∙ newest_tracked (RECOVERY_LANE + 1) (h.progress.durable a) h.progress.pending a (region.at a) (h.come.tracks a lt) (h.single a below)

  pub newest_log : (a : ℕ) → a < heap shape → newest_at region a ≡ h.durable a
  newest_log a lt =
      let fits : a < words_of_shape shape = omega (arith, lt) in
      newest_latest a fits ∙ latest_none h.progress.pending a (h.progress.durable a) (h.come.rest.log a lt) ∙ h.come.rest.durable a fits

  -- each word of the log and the header has one value
  pub log_word_one : (a : ℕ) → a < heap shape → HasOnlyValue (newest_at region a) (region.at a)
  log_word_one a lt v k =
      let fits : a < words_of_shape shape = omega (arith, lt) in
      elim ((h.come.tracks a fits).values v k) [
        | inl e ↦ e ∙ h.come.rest.durable a fits ∙ sym (newest_log a lt)
        | inr w ↦ absurd (h.come.rest.log a lt v w)
      ]

  pub has_state : HasState shape (newest_at region) y
  has_state = subst (λ z. HasState shape (newest_at region) z) (sym h.is) (state_with_heap shape h.durable (newest_at region) h.state (same_log shape h.durable (newest_at region) newest_log) h.come.rest.state)

  pub reached_step : Step shape h.state y
  reached_step = subst (λ z. Step shape h.state z) (sym h.is) (heap_step shape h.durable (newest_at region) h.state h.come.rest.state.words
      (λ a le lt. elim (latest_cases h.progress.pending a (h.progress.durable a)) [
        | inl none ↦ inl (newest_latest a lt ∙ none.0 ∙ h.come.rest.durable a lt)
        | inr wrote ↦ inr (h.come.rest.heap a le (latest h.progress.pending a (h.progress.durable a)) wrote)
      ]))

  pub reached_steps : Steps shape first y
  reached_steps = makes h.come.steps reached_step

  pub reached_sound : IsSoundState shape first → IsSoundState shape y × KeepsStanding shape.policy first y
  reached_sound sound = runs_keep shape first y sound reached_steps

-- ---- a settled region

pub settled_newest : (shape : Shape) (first y : State) (region : Region) (h : HasSettled shape first y region) → (a : ℕ) → a < words_of_shape shape → newest_at region a ≡ h.durable a
settled_newest shape first y region h a lt =
    let below : a < region.size = subst (λ n. a < n) (sym h.come.size) lt in
    read_newest region a below ∙ newest_tracked (RECOVERY_LANE + 1) (h.durable a) [] a (region.at a) (h.come.tracks a lt) (λ none. h.settled a below)

pub settled_reached : (shape : Shape) (first y : State) (region : Region) → HasSettled shape first y region → HasReached shape first y region
settled_reached shape first y region h = record {
  header = h.header;
  progress = start h.durable;
  durable = h.durable;
  state = y;
  come = h.come;
  single = λ a lt none. h.settled a lt;
  is = λ i. record { log = y.log; words = heap_is i; room = y.room };
}
  where
    heap_is : y.words ≡ heap_words shape (newest_at region)
    heap_is = h.come.rest.state.words ∙ sym (same_heap shape h.durable (newest_at region) (λ a le lt. settled_newest shape first y region h a lt))

-- ---- the header

-- the header's words that are read
pub read_is_header : (shape : Shape) (a : ℕ) → (a ≤ 7) ⊎ ((13 ≤ a) × (a ≤ 20)) → IsPlainHeaderWord shape a
read_is_header shape a where_is = record { below = elim where_is [ inl le ↦ omega (arith, le) | inr k ↦ (let le = k.1 in omega (arith, le)) ]; apart = λ p lt. apart p }
  where
    apart : (p : ℕ) → (a < list_words p) ⊎ (list_words p + 4 < a)
    apart zero = elim where_is [ inl le ↦ inl (omega (arith, le)) | inr k ↦ (let le = k.0 in inr (omega (arith, le))) ]
    apart (suc p) = let off : (suc p == 0) ≡ false = grind (arith, nat_tests) in rw off (elim where_is [ inl le ↦ inl (omega (arith, le)) | inr k ↦ (let le = k.1 in inl (omega (arith, le))) ])

module _ (shape : Shape) (before later : Region) (h : HasHeader shape before) (size : later.size ≡ before.size)
    (same : (a : ℕ) → (a ≤ 7) ⊎ ((13 ≤ a) × (a ≤ 20)) → newest_at later a ≡ newest_at before a) where
  low : (a : ℕ) → a ≤ 7 → newest_at later a ≡ newest_at before a
  low a le = same a (inl le)

  shape_same : shape_of (newest_at later) ≡ shape_of (newest_at before)
  shape_same = λ i. record {
    policy = low 1 (omega arith) i;
    cells = low 2 (omega arith) i;
    buckets = low 3 (omega arith) i;
    blocks = low 4 (omega arith) i;
    structures = low 5 (omega arith) i;
    format = if low 0 (omega arith) i == SECOND_MAGIC then 2 else 1;
    partitions = if low 0 (omega arith) i == SECOND_MAGIC then low 6 (omega arith) i else 1;
  }

  pub header_same : HasHeader shape later
  header_same = record {
    header = record {
      enough = subst (λ n. 32 ≤ n) (sym size) h.header.enough;
      magic = subst IsMagic (sym (low 0 (omega arith))) h.header.magic;
      policy = subst IsPolicy (sym (low 1 (omega arith))) h.header.policy;
      cells = subst IsCellCount (sym (low 2 (omega arith))) h.header.cells;
      buckets = subst IsBucketCount (sym (low 3 (omega arith))) h.header.buckets;
      blocks = subst IsBlockCount (sym (low 4 (omega arith))) h.header.blocks;
      structures = subst IsStructureCount (sym (low 5 (omega arith))) h.header.structures;
      partitions = λ second. subst (λ n. IsPartitionCount n (newest_at later 6)) (sym (low 3 (omega arith)))
          (subst (λ n. IsPartitionCount (newest_at before 3) n) (sym (low 6 (omega arith))) (h.header.partitions (sym (low 0 (omega arith)) ∙ second)));
      kinds = λ second s lt.
          let less : s < newest_at before 5 = subst (λ n. s < n) (low 5 (omega arith)) lt in
          let few = h.header.structures.1 in
          subst IsKind (sym (same (13 + s) (inr (omega arith, omega (arith, less, few))))) (h.header.kinds (sym (low 0 (omega arith)) ∙ second) s less);
      long = size ∙ h.header.long ∙ ap words_of_shape (sym shape_same);
    };
    shape_is = shape_same ∙ h.shape_is;
  }

-- ---- how it goes on

-- the header's words stay where they can be nothing else, and are something
newest_kept : (shape : Shape) (first y : State) (before later : Region) → HasReached shape first y before → KeepsWords (IsPlainHeaderWord shape) before later → later.size ≡ before.size →
    ((a : ℕ) → IsPlainHeaderWord shape a → 0 < length (later.at a)) → (a : ℕ) → IsPlainHeaderWord shape a → newest_at later a ≡ newest_at before a
newest_kept shape first y before later h keeps size some a is =
    let low = is.below in
    let enough = h.header.header.enough in
    let below : a < heap shape = omega (arith, low) in
    read_newest later a (omega (arith, low, enough, size))
    ∙ newest_one (later.at a) (newest_at before a) (some a is) (keeps a (newest_at before a) is (log_word_one shape first y before h a below))

pub header_kept : (shape : Shape) (first y : State) (before later : Region) → HasReached shape first y before → KeepsWords (IsPlainHeaderWord shape) before later → later.size ≡ before.size →
    ((a : ℕ) → IsPlainHeaderWord shape a → 0 < length (later.at a)) → HasHeader shape later
header_kept shape first y before later h keeps size some =
    header_same shape before later h.header size (λ a k. newest_kept shape first y before later h keeps size some a (read_is_header shape a k))

-- a region with nothing pending behind a part
pub settles : (shape : Shape) (first y z : State) (d : Words) (before later : Region) → HasReached shape first y before → KeepsWords (IsPlainHeaderWord shape) before later →
    HasCome shape first (start d) d z later → AreSettled later → HasSettled shape first z later
settles shape first y z d before later h keeps come settled = record {
  header = header_kept shape first y before later h keeps (come.size ∙ sym h.come.size) (λ a is.
      let low = is.below in
      let enough = h.header.header.enough in
      let same : later.size ≡ before.size = come.size ∙ sym h.come.size in
      let one : length (later.at a) ≡ 1 = settled a (omega (arith, low, enough, same)) in omega (arith, one));
  durable = d;
  come = come;
  settled = settled;
}

-- a region with heap words pending
pub reaches : (shape : Shape) (first y s : State) (p : Progress) (w : Words) (before later : Region) → HasReached shape first y before → KeepsWords (IsPlainHeaderWord shape) before later →
    HasCome shape first p w s later → AreSingle p later → HasReached shape first (with_heap s (heap_words shape (newest_at later))) later
reaches shape first y s p w before later h keeps come single = record {
  header = header_kept shape first y before later h keeps (come.size ∙ sym h.come.size) (λ a is.
      let low = is.below in
      let enough = h.header.header.enough in
      let same : later.size ≡ before.size = come.size ∙ sym h.come.size in
      let one : length (later.at a) ≡ 1 = single a (omega (arith, low, enough, same)) (come.rest.log a (omega (arith, low))) in omega (arith, one));
  progress = p;
  durable = w;
  state = s;
  come = come;
  single = single;
  is = refl;
}

-- ---- words to which nothing is pending have one candidate

fenced_single : (mark : ℕ) (cs : List Candidate) → IsSettled cs → IsSettled (fenced mark cs)
fenced_single mark [] one = absurd (omega (arith, one))
fenced_single mark (c ∷ []) one = refl
fenced_single mark (c ∷ d ∷ cs) one = absurd (omega (arith, one))

pub single_event : (n : ℕ) (p : Progress) (region : Region) (e : Event) → region.size ≡ n → IsDurable e → Tracks (λ a. a < n) RECOVERY_LANE p region → AreSingle p region →
    AreSingle (advance p e) (after region RECOVERY_LANE e)
single_event n p region (Store b v) size durable tracks single = elim durable [ ]
single_event n p region (WriteBack b) size durable tracks single = elim durable [ ]
single_event n p region (PStore b v) size durable tracks single = λ a lt none. elim (eqb_tells a b) [
  | inl t ↦ absurd (none v (subst (λ c. Wrote (p.pending ++ write b v ∷ []) c v) (sym t.1) (Wrote-pushed p.pending b v)))
  | inr f ↦ subst (λ (q : Bool). IsSettled (if q then region.at a ++ candidate v (RECOVERY_LANE + 1) ∷ [] else region.at a)) (sym f.0)
      (single a lt (λ x k. none x (Wrote-push p.pending (write b v) a x k)))
]
single_event n p region Fence size durable tracks single = λ a lt none. elim (latest_cases p.pending a (p.durable a)) [
  | inl free ↦ fenced_single (RECOVERY_LANE + 1) (region.at a) (single a lt free.1)
  | inr wrote ↦ (
      let last = (tracks a (subst (λ m. a < m) size lt)).last (latest p.pending a (p.durable a)) wrote in
      let is : fenced (RECOVERY_LANE + 1) (region.at a) ≡ candidate (latest p.pending a (p.durable a)) 0 ∷ [] =
      ap (fenced (RECOVERY_LANE + 1)) last.1 ∙ fenced-push (RECOVERY_LANE + 1) last.0 (latest p.pending a (p.durable a)) in
      ap length is)
]

pub single_plan : (n : ℕ) (p : Progress) (region : Region) (plan : List Event) → region.size ≡ n → AreDurable plan → Tracks (λ a. a < n) RECOVERY_LANE p region → AreSingle p region →
    AreSingle (advance_all p plan) (after_plan RECOVERY_LANE region plan)
single_plan n p region [] size durable tracks single = single
single_plan n p region (e ∷ plan) size durable tracks single =
    single_plan n (advance p e) (after region RECOVERY_LANE e) plan (same_size region RECOVERY_LANE e ∙ size) durable.1 (Tracks-event (λ a. a < n) RECOVERY_LANE p region e durable.0 tracks)
    (single_event n p region e size durable.0 tracks single)

-- A whole part leads to a settled region: the part's images are steps further on, and its end is d with state z.
pub plan_done : (shape : Shape) (first y z : State) (region : Region) (plan : List Event) (d : Words) → (h : HasReached shape first y region) →
    Leads shape h.progress h.state plan → advance_all h.progress plan ≡ start d → HasState shape d z → Steps shape h.state z →
    KeepsWords (IsPlainHeaderWord shape) region (after_plan RECOVERY_LANE region plan) → HasSettled shape first z (after_plan RECOVERY_LANE region plan)
plan_done shape first y z region plan d h leads ends has steps keeps =
    let come = parts_go_on shape first h.progress h.durable d h.state z region plan h.come leads ends has steps in
    settles shape first y z d region (after_plan RECOVERY_LANE region plan) h keeps come
    (λ a lt. single_plan (words_of_shape shape) h.progress region plan h.come.size leads.durable h.come.tracks h.single a lt
    (λ v k. subst (λ (q : Progress). Wrote q.pending a v) ends k))

-- ---- a store and a fence

pub stored_heap : (shape : Shape) (region : Region) (a v : ℕ) → heap shape ≤ a → a < words_of_shape shape → region.size ≡ words_of_shape shape →
    heap_words shape (newest_at (after region RECOVERY_LANE (PStore a v))) ≡ with_value (heap_words shape (newest_at region)) a v
stored_heap shape region a v le lt size = λ i b. each b i
  where
    later : Region
    later = after region RECOVERY_LANE (PStore a v)

    newest_there : newest_at later a ≡ v
    newest_there = read_newest later a (subst (λ n. a < n) (sym size) lt) ∙ here (a == a) (let e : (a == a) ≡ true = grind (arith, nat_tests) in e)
      where
        here : (q : Bool) → q ≡ true → newest (if q then region.at a ++ candidate v (RECOVERY_LANE + 1) ∷ [] else region.at a) ≡ v
        here true e = newest-push (region.at a) (candidate v (RECOVERY_LANE + 1))
        here false e = cc

    newest_elsewhere : (b : ℕ) → b < words_of_shape shape → (b == a) ≡ false → newest_at later b ≡ newest_at region b
    newest_elsewhere b below off = read_newest later b (subst (λ n. b < n) (sym size) below)
        ∙ ap (λ (q : Bool). newest (if q then region.at b ++ candidate v (RECOVERY_LANE + 1) ∷ [] else region.at b)) off
        ∙ sym (read_newest region b (subst (λ n. b < n) (sym size) below))

    inner : (b : ℕ) → (t : Bool) → nat_lt b (words_of_shape shape) ≡ t → (b == a) ≡ false → (if t then newest_at later b else 0) ≡ (if t then newest_at region b else 0)
    inner b true e off = newest_elsewhere b (ltb-true b (words_of_shape shape) e) off
    inner b false e off = refl

    outer : (b : ℕ) → (t : Bool) → (b == a) ≡ false → (if t then 0 else (if nat_lt b (words_of_shape shape) then newest_at later b else 0)) ≡ (if t then 0 else (if nat_lt b (words_of_shape shape) then newest_at region b else 0))
    outer b true off = refl
    outer b false off = inner b (nat_lt b (words_of_shape shape)) refl off

    each : (b : ℕ) → heap_words shape (newest_at later) b ≡ with_value (heap_words shape (newest_at region)) a v b
    each b = elim (eqb_tells b a) [
      | inr f ↦ (let off = f.0 in rw off (outer b (nat_lt b (heap shape)) off))
      | inl t ↦ (let on = t.0 in rw on (
          let e : b ≡ a = t.1 in
          let above : nat_lt b (heap shape) ≡ false = grind (arith, nat_tests) in
          let below : nat_lt b (words_of_shape shape) ≡ true = grind (arith, nat_tests) in
          rw (above, below) (ap (newest_at later) e ∙ newest_there)))
    ]

-- a store to a covered heap word
pub store_done : (shape : Shape) (first y : State) (region : Region) (a v : ℕ) → heap shape ≤ a → a < region.size → HasDecidingRecord shape.policy y.log a → HasReached shape first y region →
    HasReached shape first (with_heap y (with_value y.words a v)) (after region RECOVERY_LANE (PStore a v))
store_done shape first y region a v le lt covered h =
    let later = after region RECOVERY_LANE (PStore a v) in
    let covered_there : HasDecidingRecord shape.policy h.state.log a = subst (λ (z : State). HasDecidingRecord shape.policy z.log a) h.is covered in
    let come = come_store shape first h.progress h.durable h.state region a v le covered_there h.come in
    let keeps : KeepsWords (IsPlainHeaderWord shape) region later = λ b x is one. plan_keeps RECOVERY_LANE region (PStore a v ∷ []) b x ((λ e. (let low = is.below in absurd (omega (arith, low, e, le)))), tt) one in
    let reached = reaches shape first y h.state (advance h.progress (PStore a v)) h.durable region later h keeps come
    (single_event (words_of_shape shape) h.progress region (PStore a v) h.come.size tt h.come.tracks h.single) in
    let heap_is : heap_words shape (newest_at later) ≡ with_value y.words a v =
    stored_heap shape region a v le (subst (λ n. a < n) h.come.size lt) h.come.size ∙ ap (λ (z : State). with_value z.words a v) (sym h.is) in
    subst (λ (z : State). HasReached shape first z later)
    (λ i. record { log = (ap (λ (z : State). z.log) (sym h.is)) i; words = heap_is i; room = (ap (λ (z : State). z.room) (sym h.is)) i }) reached

-- a fence settles what is pending
pub fence_done : (shape : Shape) (first y : State) (region : Region) → HasReached shape first y region → HasSettled shape first y (after region RECOVERY_LANE Fence)
fence_done shape first y region h =
    let d : Words = (advance h.progress Fence).durable in
    let later = after region RECOVERY_LANE Fence in
    let log_same : (a : ℕ) → a < heap shape → d a ≡ h.durable a =
    λ a lt. sym (newest_latest shape first y region h a (omega (arith, lt))) ∙ newest_log shape first y region h a lt in
    let heap_is : heap_words shape (newest_at region) ≡ heap_words shape d = same_heap shape d (newest_at region) (λ a le lt. newest_latest shape first y region h a lt) in
    let has : HasState shape d y = subst (λ (z : State). HasState shape d z) (sym (h.is ∙ ap (with_heap h.state) heap_is))
    (state_with_heap shape h.durable d h.state (same_log shape h.durable d log_same) h.come.rest.state) in
    let come : HasCome shape first (start d) d y later = record {
      size = h.come.size;
      tracks = Tracks-event (λ a. a < words_of_shape shape) RECOVERY_LANE h.progress region Fence tt h.come.tracks;
      rest = record { state = has; durable = λ a lt. refl; log = λ a lt v k. k; heap = λ a le v k. elim k [ ] };
      steps = reached_steps shape first y region h;
    } in
    settles shape first y y d region later h (λ b x is one. plan_keeps RECOVERY_LANE region (Fence ∷ []) b x (tt, tt) one) come
    (λ a lt. single_event (words_of_shape shape) h.progress region Fence h.come.size tt h.come.tracks h.single a lt (λ v k. k))

-- ---- what a stop leaves

-- wherever a part is stopped each image keeps the standing words
pub reached_keeps : (shape : Shape) (first y : State) (region : Region) (plan : List Event) (k : ℕ) → IsSoundState shape first → (h : HasReached shape first y region) →
    Leads shape h.progress h.state plan → EachKeeps shape first (after_plan RECOVERY_LANE region (take k plan))
reached_keeps shape first y region plan k sound h leads = parts_keep shape first h.progress h.durable h.state region plan k sound h.come leads

-- where nothing happens too
pub reached_images : (shape : Shape) (first y : State) (region : Region) → IsSoundState shape first → HasReached shape first y region → EachKeeps shape first region
reached_images shape first y region sound h =
    reached_keeps shape first y region [] 0 sound h (record { durable = tt; images = λ k v r. nothing k v r })
  where
    nothing : (k : ℕ) (v : Words) → Reaches (λ a. a < words_of_shape shape) (advance_all h.progress (take k [])) v → (x : State) × HasState shape v x × Steps shape h.state x
    nothing zero v r = (let k = rest_image shape h.progress h.durable v h.state (omega arith) h.come.rest r in (with_heap h.state (heap_words shape v), k.0, makes begins k.1))
    nothing (suc n) v r = (let k = rest_image shape h.progress h.durable v h.state (omega arith) h.come.rest r in (with_heap h.state (heap_words shape v), k.0, makes begins k.1))

-- a settled region with a right header begins its recovery
pub settled_begins : (shape : Shape) (first : State) (region : Region) → AreSettled region → HasHeader shape region → HasState shape (newest_at region) first → HasSettled shape first first region
settled_begins shape first region settled header has =
    let size : region.size ≡ words_of_shape shape = header.header.long ∙ ap words_of_shape header.shape_is in
    record {
      header = header;
      durable = newest_at region;
      come = recovery_begins shape (newest_at region) first region size
          (λ a lt v k. (let below : a < region.size = subst (λ n. a < n) (sym size) lt in settled_is (region.at a) v (settled a below) k ∙ sym (read_newest region a below))) has;
      settled = settled;
    }
