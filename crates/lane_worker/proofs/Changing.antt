-- What the change of a draft makes of the words that were read.
use Rattle.std.proofs.Common.{◌≡◌, ◌≢◌, ⊎_elim, ℕ, ◌+◌, ◌*◌, ◌<◌, Bool, true, false, ◌||◌, if◌then◌else◌, nat_lt, List, ◌++◌, sym, subst, ◌∙◌, ap, arith, lt-ltb, ltb-true}
use Rattle.persist_model.specs.Region.{Words}
use Rattle.persist_model.specs.Records.{IsAmong}
use Rattle.persist_model.specs.Chain.{HasNoRepeats}
use Rattle.lane_traits.specs.Space.{Land, Start, IsOwn, IsDataWordOf}
use Rattle.lane_traits.specs.Draft.{is_among, addresses, after_writes, at_start}
use Rattle.lane_traits.proofs.Among.{not_among}
use Rattle.lane_types.specs.Heaps.{Heap, block_address}
use Rattle.region_layout.specs.declared.layout.Kind.{Kind}
use Rattle.region_layout.specs.FiniteMap.{FiniteMap}
use Rattle.region_layout.specs.HeapBlocks.{land_of, root_of}
use Rattle.region_layout.specs.Contents.{IsMapIn, IsMapOf}
use Rattle.map_deeds.specs.Meanings.{words_of}
use Rattle.lane_worker.specs.Shown.{with_change}
use Rattle.lane_worker.specs.Drafts.{ChangesTo}
use Rattle.lane_worker.specs.declared.stage.Change.{Change}
use Rattle.lane_worker.proofs.Alike.{end_of, among_of}
use Rattle.lane_worker.proofs.Blocks.{AreBlocks, plain_words}
use Rattle.lane_worker.proofs.Lands.{land_with, map_same}
use Rattle.lane_worker.proofs.Reading.{swap_tests, is_among-append, among_either, after_writes_at, after_writes_off, space_of, without}

abbrev start_of : Heap → Start
start_of hp = record { word = words_of hp; owner = words_of hp }

-- the owners after gives, with nobody for what is left to take
abbrev owners_after : List ℕ → List ℕ → Heap → ℕ → ℕ
owners_after gives left hp = λ b. if is_among gives b || is_among left b then 0 else words_of hp b

-- A draft's change, by what was read.
pub record IsChanged (kind : Kind) (s root : ℕ) (spare : List ℕ) (hp : Heap) (change : Change) (m : FiniteMap) : Type 0 where
  pub gives : List ℕ
  pub left : List ℕ
  pub word : Words
  pub holds : IsMapIn kind (land_with hp.start s (owners_after gives left hp) (start_of hp)) word root m
  pub words : word ≡ after_writes change.writes (words_of hp)
  pub all_gives : change.gives ≡ gives ++ left
  pub fewer : (b : ℕ) → IsAmong left b → IsAmong spare b
  pub within : (a : ℕ) → IsAmong (addresses change.writes) a → IsDataWordOf (land_with hp.start s (words_of hp) (start_of hp)) a
  pub given : (b : ℕ) → IsAmong gives b → IsOwn (land_with hp.start s (words_of hp) (start_of hp)) b × (IsAmong left b → ⊥)
  pub given_once : HasNoRepeats gives
  pub left_once : HasNoRepeats left
  pub not_root : (b : ℕ) → IsAmong gives b → b ≢ hp.start + 16 * s
  pub written : change.written ≡ 0
  pub nothing_given : change.given ≡ 0

pub changed : (kind : Kind) (s root : ℕ) (spare : List ℕ) (hp : Heap) (change : Change) (m : FiniteMap)
    → ChangesTo kind s root spare (space_of hp) change m → IsChanged kind s root spare hp change m
changed kind s root spare hp change m h = record {
  gives = h.gives;
  left = h.space.spare;
  word = h.space.word;
  holds = subst (λ (l : Land). IsMapIn kind l h.space.word root m) land h.holds;
  words = sym h.change_is.words ∙ ap (λ (x : Start). after_writes change.writes x.word) h.start;
  all_gives = h.all_gives;
  fewer = h.fewer;
  within = λ a k. subst (λ (l : Land). IsDataWordOf (at_start l) a) land (h.change_is.within a k);
  given = λ b k. (let g = h.change_is.given b k in (subst (λ (l : Land). IsOwn (at_start l) b) land g.0, g.1));
  given_once = h.change_is.given_once;
  left_once = h.spare_once;
  not_root = λ b k. subst (λ (l : Land). b ≢ l.heap + 16 * l.structure) land (h.change_is.not_root b k);
  written = h.written;
  nothing_given = h.given;
}
  where
    owner : h.space.land.owner ≡ owners_after h.gives h.space.spare hp
    owner = h.change_is.owners ∙ ap (λ (x : Start). λ b. if is_among h.gives b || is_among h.space.spare b then 0 else x.owner b) h.start

    land : h.space.land ≡ land_with hp.start s (owners_after h.gives h.space.spare hp) (start_of hp)
    land = λ j. record { heap = h.heap j; structure = h.structure_is j; owner = owner j; start = h.start j }

module _ (kind : Kind) (s root : ℕ) (spare : List ℕ) (hp : Heap) (change : Change) (m : FiniteMap) (c : IsChanged kind s root spare hp change m)
    (blocks : AreBlocks hp spare) where
  abbrev past : ℕ → Bool
  past a = nat_lt a (hp.start + 16 * hp.blocks)

  -- the words with the change made
  abbrev later : Words
  later = words_of (with_change change.writes change.gives hp)

  gives_blocks : AreBlocks hp change.gives
  gives_blocks b k = ⊎_elim
      (λ (g : IsAmong c.gives b). (let own = c.given b g in (own.0.0.number, own.0.0.place)))
      (λ (l : IsAmong c.left b). blocks b (c.fewer b l))
      (among_either c.gives c.left b (subst (λ xs. IsAmong xs b) c.all_gives k))

  -- no owner is written
  no_owner : (n : ℕ) → IsAmong (addresses change.writes) (block_address hp n) → ⊥
  no_owner n k =
      let d = c.within (block_address hp n) k in
      let place = d.place in let block = d.own.0.place in let above = d.above in let below = d.below in
      omega (arith, place, block, above, below)

  owner_later : (n : ℕ) → later (block_address hp n) ≡ owners_after c.gives c.left hp (block_address hp n)
  owner_later n =
      let a = block_address hp n in
      ap (λ x. if past a then (if is_among change.gives a then 0 else x) else 0) (after_writes_off change.writes hp.at a (no_owner n))
      ∙ ap (λ xs. if past a then (if is_among xs a then 0 else hp.at a) else 0) c.all_gives
      ∙ ap (λ t. if past a then (if t then 0 else hp.at a) else 0) (is_among-append c.gives c.left a)
      ∙ sym (swap_tests (is_among c.gives a || is_among c.left a) (past a) (hp.at a))

  below_end : (n i : ℕ) → past (block_address hp n) ≡ true → i < 16 → past (block_address hp n + i) ≡ true
  below_end n i on small =
      let lt = ltb-true (block_address hp n) (hp.start + 16 * hp.blocks) on in
      lt-ltb (block_address hp n + i) (hp.start + 16 * hp.blocks) (omega (arith, lt, small))

  word_later : (n i : ℕ) → owners_after c.gives c.left hp (block_address hp n) ≡ s + 1 → 0 < i → i < 16 → later (block_address hp n + i) ≡ c.word (block_address hp n + i)
  word_later n i own some small =
      let a = block_address hp n + i in
      let told = among_of (is_among c.gives (block_address hp n) || is_among c.left (block_address hp n)) (words_of hp (block_address hp n)) s own in
      let on = below_end n i (end_of (past (block_address hp n)) (hp.at (block_address hp n)) s told.1).0 small in
      ap (λ t. if t then (if is_among change.gives a then 0 else after_writes change.writes hp.at a) else 0) on
      ∙ ap (λ t. if t then 0 else after_writes change.writes hp.at a) (plain_words hp change.gives gives_blocks n i some small)
      ∙ after_writes_at change.writes hp.at (words_of hp) a (ap (λ t. if t then hp.at a else 0) (sym on))
      ∙ ap (λ (w : Words). w a) (sym c.words)

  -- the structure's map
  pub changed_map : IsMapIn kind (land_of hp.start later s) later root m
  changed_map = map_same hp.start s (owners_after c.gives c.left hp) later (start_of hp) (record { word = later; owner = later }) c.word later
      (record {
        owned = λ b own. subst (λ a. later a ≡ s + 1) (sym own.0.place)
            (owner_later own.0.number ∙ subst (λ a. owners_after c.gives c.left hp a ≡ s + 1) own.0.place own.1);
        owned_back = λ b own. subst (λ a. owners_after c.gives c.left hp a ≡ s + 1) (sym own.0.place)
            (sym (owner_later own.0.number) ∙ subst (λ a. later a ≡ s + 1) own.0.place own.1);
        words = λ b i own some small. subst (λ a. later (a + i) ≡ c.word (a + i)) (sym own.0.place)
            (word_later own.0.number i (subst (λ a. owners_after c.gives c.left hp a ≡ s + 1) own.0.place own.1) some small);
      }) kind root m c.holds

  -- ---- another structure

  -- what was taken was taken for the structure
  module _ (r : ℕ) (ne : r ≢ s) (taken : (b : ℕ) → IsAmong spare b → hp.at b ≡ s + 1) where
    not_given : (n : ℕ) → past (block_address hp n) ≡ true → hp.at (block_address hp n) ≡ r + 1 → is_among change.gives (block_address hp n) ≡ false
    not_given n on own = not_among change.gives (block_address hp n) (λ k. ⊎_elim
        (λ (g : IsAmong c.gives (block_address hp n)).
        (let mine : hp.at (block_address hp n) ≡ s + 1 = (end_of (past (block_address hp n)) (hp.at (block_address hp n)) s (c.given (block_address hp n) g).0.1).1 in ne (omega (arith, own, mine))))
        (λ (l : IsAmong c.left (block_address hp n)). (let mine = taken (block_address hp n) (c.fewer (block_address hp n) l) in ne (omega (arith, own, mine))))
        (among_either c.gives c.left (block_address hp n) (subst (λ xs. IsAmong xs (block_address hp n)) c.all_gives k)))

    not_taken : (n : ℕ) → hp.at (block_address hp n) ≡ r + 1 → is_among spare (block_address hp n) ≡ false
    not_taken n own = not_among spare (block_address hp n) (λ k. (let mine = taken (block_address hp n) k in ne (omega (arith, own, mine))))

    -- what an owner word says
    told_before : (n : ℕ) → without spare hp (block_address hp n) ≡ r + 1 → (past (block_address hp n) ≡ true) × (hp.at (block_address hp n) ≡ r + 1)
    told_before n e =
        let p = end_of (past (block_address hp n)) (if is_among spare (block_address hp n) then 0 else hp.at (block_address hp n)) r e in
        (p.0, (among_of (is_among spare (block_address hp n)) (hp.at (block_address hp n)) r p.1).1)

    told_later : (n : ℕ) → later (block_address hp n) ≡ r + 1 → (past (block_address hp n) ≡ true) × (hp.at (block_address hp n) ≡ r + 1)
    told_later n e =
        let a = block_address hp n in
        let p = end_of (past a) (if is_among change.gives a then 0 else after_writes change.writes hp.at a) r e in
        (p.0, sym (after_writes_off change.writes hp.at a (no_owner n)) ∙ (among_of (is_among change.gives a) (after_writes change.writes hp.at a) r p.1).1)

    no_word : (n i : ℕ) → past (block_address hp n) ≡ true → hp.at (block_address hp n) ≡ r + 1 → i < 16 → IsAmong (addresses change.writes) (block_address hp n + i) → ⊥
    no_word n i on own small k =
        let d = c.within (block_address hp n + i) k in
        let place = d.place in let block = d.own.0.place in let above = d.above in let below = d.below in
        let same : d.block ≡ block_address hp n = omega (arith, place, block, above, below, small) in
        let mine : hp.at (block_address hp n) ≡ s + 1 = (end_of (past (block_address hp n)) (hp.at (block_address hp n)) s (subst (λ a. words_of hp a ≡ s + 1) same d.own.1)).1 in
        ne (omega (arith, own, mine))

    word_stays : (n i : ℕ) → without spare hp (block_address hp n) ≡ r + 1 → 0 < i → i < 16 → later (block_address hp n + i) ≡ without spare hp (block_address hp n + i)
    word_stays n i e some small =
        let a = block_address hp n + i in
        let told = told_before n e in
        ap (λ t. if past a then (if t then 0 else after_writes change.writes hp.at a) else 0) (plain_words hp change.gives gives_blocks n i some small)
        ∙ ap (λ x. if past a then x else 0) (after_writes_off change.writes hp.at a (no_word n i told.0 told.1 small))
        ∙ ap (λ t. if past a then (if t then 0 else hp.at a) else 0) (sym (plain_words hp spare blocks n i some small))

    owner_stays : (n : ℕ) → without spare hp (block_address hp n) ≡ r + 1 → later (block_address hp n) ≡ r + 1
    owner_stays n e =
        let a = block_address hp n in
        let told = told_before n e in
        ap (λ t. if t then (if is_among change.gives a then 0 else after_writes change.writes hp.at a) else 0) told.0
        ∙ ap (λ t. if t then 0 else after_writes change.writes hp.at a) (not_given n told.0 told.1)
        ∙ after_writes_off change.writes hp.at a (no_owner n) ∙ told.1

    owner_stayed : (n : ℕ) → later (block_address hp n) ≡ r + 1 → without spare hp (block_address hp n) ≡ r + 1
    owner_stayed n e =
        let a = block_address hp n in
        let told = told_later n e in
        ap (λ t. if t then (if is_among spare a then 0 else hp.at a) else 0) told.0
        ∙ ap (λ t. if t then 0 else hp.at a) (not_taken n told.1) ∙ told.1

    pub other_map : (other : Kind) (k : FiniteMap) → IsMapOf other hp.start (without spare hp) r k → IsMapOf other hp.start later r k
    other_map other k h = map_same hp.start r (without spare hp) later (record { word = without spare hp; owner = without spare hp }) (record { word = later; owner = later })
        (without spare hp) later
        (record {
          owned = λ b own. subst (λ a. later a ≡ r + 1) (sym own.0.place) (owner_stays own.0.number (subst (λ a. without spare hp a ≡ r + 1) own.0.place own.1));
          owned_back = λ b own. subst (λ a. without spare hp a ≡ r + 1) (sym own.0.place) (owner_stayed own.0.number (subst (λ a. later a ≡ r + 1) own.0.place own.1));
          words = λ b i own some small. subst (λ a. later (a + i) ≡ without spare hp (a + i)) (sym own.0.place)
              (word_stays own.0.number i (subst (λ a. without spare hp a ≡ r + 1) own.0.place own.1) some small);
        }) other (root_of hp.start r) k h
