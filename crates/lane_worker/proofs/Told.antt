-- A begin finds maps, where the heap held maps when the world began.
use Rattle.std.proofs.Common.{◌≡◌, ⊎_elim, ℕ, ◌+◌, ◌-◌, ◌*◌, ◌%◌, ◌<◌, ◌≤◌, ◌^◌, Bool, true, false, not, ◌&&◌, if◌then◌else◌, ◌==◌, nat_lt, List, [], ◌∷◌, length, zero, suc, Option, Some, None, refl, sym, subst, ◌∙◌, ap, arith, ltb-true, lt-ltb}
use Rattle.std.proofs.Math.Logic.{∥∥₁_map}
use Rattle.std.proofs.Math.Nat.{div-eq_of_lt, pow-le-pow_right}
use Rattle.std.proofs.lemmas.Bool.{cases_lt}
use Rattle.std.proofs.lemmas.Bool.Decides.{nat_tests}
use Rattle.std.proofs.lemmas.Option.{slice_get_within, get_or_from_slice_get}
use Rattle.rewind_script.specs.Limits.{IsItem}
use Rattle.persist_model.specs.Region.{Words}
use Rattle.lane_types.specs.declared.face.Entry.{Entry}
use Rattle.lane_types.specs.Faces.{WholeFace}
use Rattle.lane_types.specs.declared.call.Call.{Call}
use Rattle.lane_types.specs.declared.call.Call.TheVariants as call
use Rattle.lane_types.specs.Heaps.{Heap, has_bit, names_in, with_writes, holding_of, heap_of_holding, is_owned, is_data, owner_word, owner_of_held, block_address, block_of}
use Rattle.lane_types.specs.Histories.{fold, IsLawfulOn, Lawful, HaveSorts}
use Rattle.lane_types.specs.LaneSteps.{begun_face}
use Rattle.region_layout.specs.declared.layout.Kind.{Kind}
use Rattle.region_layout.specs.declared.layout.Kind.TheVariants.{Cells, Tree, Hash}
use Rattle.region_layout.specs.HeapBlocks.{OwnsAlike, root_of}
use Rattle.region_layout.specs.FiniteMap.{FiniteMap}
use Rattle.region_layout.specs.Contents.{IsMapOf}
use Rattle.map_deeds.specs.declared.deed.MapDeed.{MapDeed}
use Rattle.map_deeds.specs.Maps.{Maps, after_transaction}
use Rattle.map_deeds.specs.Meanings.{HoldMaps, words_of, kind_at, sorts_of, commands_of, map_deeds}
use Rattle.map_deeds.specs.HistoryLaw.{has_kind, HoldsMaps}
use Rattle.map_deeds.specs.Depending.{alike_map}
use Rattle.map_deeds.proofs.Naming.{same_kinds}
use Rattle.lane_worker.specs.Acts.{BeginsOnMaps}
use Rattle.lane_worker.specs.Laws.{BeginsAreTold}
use Rattle.lane_worker.specs.Stages.{item_of}
use Rattle.lane_worker.specs.Standing.{IsDue, BeginIsDue}
use Rattle.lane_worker.proofs.Alike.{at_block, at_word, map_alike}
use Rattle.lane_worker.proofs.Blocks.{data_in, number_there}
use Rattle.lane_worker.proofs.Beginning.{both_true, owned_tells}
use Rattle.lane_worker.proofs.Keeping.{call_same}
use Rattle.lane_worker.proofs.ToldMaps.{map_told}

-- ---- what a history leaves

module _ (kinds : List Kind) (heap : Heap) (maps : Maps) (e : Entry MapDeed) (held : HoldsMaps kinds heap maps) (lawful : IsLawfulOn map_deeds heap e) (same : e.deed.kinds ≡ kinds) where
  -- the contents behind an entry
  abbrev contents_after : Maps
  contents_after = λ s. if has_bit e.deed.set s then after_transaction lawful.means.maps (commands_of e.deed.steps) s else maps s

  held_by_test : (s : ℕ) (t : Bool) → has_bit e.deed.set s ≡ t → has_kind kinds s ≡ true
      → IsMapOf (kind_at kinds s) heap.start (words_of (with_writes e.writes heap)) s (if t then after_transaction lawful.means.maps (commands_of e.deed.steps) s else maps s)
  held_by_test s true bit kind = subst (λ (ks : List Kind). IsMapOf (kind_at ks s) heap.start (words_of (with_writes e.writes heap)) s
      (after_transaction lawful.means.maps (commands_of e.deed.steps) s)) same (lawful.means.after_are s bit)
  held_by_test s false bit kind = alike_map (λ t. not (has_bit e.deed.set t)) s (kind_at kinds s) (maps s) heap (with_writes e.writes heap)
      (ap not bit) refl refl lawful.others (held s kind)

  held_behind : HoldsMaps kinds (with_writes e.writes heap) contents_after
  held_behind s kind = held_by_test s (has_bit e.deed.set s) refl kind

history_holds : (kinds : List Kind) (heap : Heap) (maps : Maps) (history : List (Entry MapDeed)) → HoldsMaps kinds heap maps → Lawful map_deeds heap history
    → HaveSorts map_deeds (sorts_of kinds) history → (later : Maps) × HoldsMaps kinds (fold heap history) later
history_holds kinds heap maps [] held lawful sorts = (maps, held)
history_holds kinds heap maps (e ∷ history) held lawful sorts =
    let same = same_kinds e.deed.kinds kinds sorts.0 in
    history_holds kinds (with_writes e.writes heap) (contents_after kinds heap maps e held lawful.0 same) history
    (held_behind kinds heap maps e held lawful.0 same) lawful.2 sorts.1

-- ---- told

module _ (kinds : List Kind) (heap : Heap) (some : ∥ ((maps : Maps) × HoldsMaps kinds heap maps) ∥₁) where
  one_of : (s : ℕ) → has_kind kinds s ≡ true → (m : FiniteMap) × IsMapOf (kind_at kinds s) heap.start (words_of heap) s m
  one_of s kind = map_told (kind_at kinds s) heap.start (words_of heap) s (∥∥₁_map some (λ h. (h.0 s, h.1 s kind)))

  contents_by : (s : ℕ) (t : Bool) → has_kind kinds s ≡ t → FiniteMap
  contents_by s true kind = (one_of s kind).0
  contents_by s false out = []

  pub contents : Maps
  contents s = contents_by s (has_kind kinds s) refl

  held_by : (s : ℕ) (t : Bool) (is : has_kind kinds s ≡ t) → t ≡ true → IsMapOf (kind_at kinds s) heap.start (words_of heap) s (contents_by s t is)
  unfolding contents_by
  held_by s true kind on = (one_of s kind).1
  held_by s false out on = absurd cc

  pub contents_held : HoldsMaps kinds heap contents
  unfolding contents
  contents_held s kind = held_by s (has_kind kinds s) refl kind

-- ---- sets

bit_above : (set n s : ℕ) → set < 2 ^ n → n ≤ s → has_bit set s ≡ false
bit_above set n s small above =
    let more = pow-le-pow_right {n = 2} (omega arith) {i = n} {j = s} above in
    ap (λ (q : ℕ). (q % 2) == 1) (div-eq_of_lt {n = set} {m = 2 ^ s} (omega (arith, small, more)))

-- a structure of a set of the first ones has a kind
bit_kind : (kinds : List Kind) (set s : ℕ) → set < 2 ^ length kinds → has_bit set s ≡ true → has_kind kinds s ≡ true
bit_kind kinds set s small on = ⊎_elim
    (λ lt. lt-ltb s (length kinds) lt)
    (λ past. absurd (let off = bit_above set (length kinds) s small past in let e : false ≡ true = sym off ∙ on in cc))
    (cases_lt s (length kinds))

-- ---- the words that are held are the heap's

cut_value : (t : Bool) (x v : ℕ) → (if t then x else 0) ≡ v + 1 → (t ≡ true) × (x ≡ v + 1)
cut_value true x v e = (refl, e)
cut_value false x v e = absurd (omega (arith, e))

module _ (set : ℕ) (heap : Heap) where
  abbrev bare : Heap
  bare = heap_of_holding heap (holding_of set heap)

  inside : (n i : ℕ) → n < heap.blocks → i < 16 → nat_lt (block_address heap n + i) (heap.start + 16 * heap.blocks) ≡ true
  inside n i low small = lt-ltb (block_address heap n + i) (heap.start + 16 * heap.blocks) (omega (arith, low, small))

  first_inside : (n : ℕ) → n < heap.blocks → nat_lt (block_address heap n) (heap.start + 16 * heap.blocks) ≡ true
  first_inside n low = lt-ltb (block_address heap n) (heap.start + 16 * heap.blocks) (omega (arith, low))

  -- what an owner word says
  owner_tells : (h : Heap) (n s : ℕ) → h.start ≡ heap.start → h.blocks ≡ heap.blocks → words_of h (block_address heap n) ≡ s + 1 → (n < heap.blocks) × (h.at (block_address heap n) ≡ s + 1)
  owner_tells h n s start blocks e =
      let p = cut_value (nat_lt (block_address heap n) (h.start + 16 * h.blocks)) (h.at (block_address heap n)) s e in
      let lt = ltb-true (block_address heap n) (h.start + 16 * h.blocks) p.0 in
      (omega (arith, lt, start, blocks), p.1)

  owned_here : (n s : ℕ) → has_bit set s ≡ true → n < heap.blocks → owner_word heap n ≡ s + 1 → is_owned set heap (owner_word heap) n ≡ true
  owned_here n s bit low e =
      let some : (owner_word heap n == 0) ≡ false = grind (arith, nat_tests) in
      let named : has_bit set (owner_word heap n - 1) ≡ true = ap (has_bit set) (omega (arith, e)) ∙ bit in
      rw (lt-ltb n heap.blocks low, some) named

  owner_held : (n s : ℕ) → has_bit set s ≡ true → n < heap.blocks → owner_word heap n ≡ s + 1 → bare.at (block_address heap n) ≡ s + 1
  owner_held n s bit low e = at_block heap (holding_of set heap) n ∙ (let on = owned_here n s bit low e in rw on (omega (arith, e)))

  some_of : (o : Option ℕ) (s : ℕ) → owner_of_held o ≡ s + 1 → o ≡ Some s
  some_of None s e = absurd (omega (arith, e))
  some_of (Some n) s e = ap Some (omega (arith, e))

  owner_back : (n s : ℕ) → bare.at (block_address heap n) ≡ s + 1 → owner_word heap n ≡ s + 1
  owner_back n s e =
      let held = some_of ((holding_of set heap).owner n) s (sym (at_block heap (holding_of set heap) n) ∙ e) in
      owner_of n s (owned_tells set heap n s held).2 held
    where
      less_one : (k s : ℕ) → not (k == 0) ≡ true → k - 1 ≡ s → k ≡ s + 1
      less_one zero s on e = absurd cc
      less_one (suc k) s on e = omega (arith, e)

      some_same : (m n : ℕ) → Some m ≡ Some n → m ≡ n
      some_same m n e = cc

      owner_of : (n s : ℕ) → is_owned set heap (owner_word heap) n ≡ true → (holding_of set heap).owner n ≡ Some s → owner_word heap n ≡ s + 1
      owner_of n s on held =
          let named = both_true (nat_lt n heap.blocks) (names_in set (owner_word heap n)) on in
          let some = both_true (not (owner_word heap n == 0)) (has_bit set (owner_word heap n - 1)) named.1 in
          less_one (owner_word heap n) s some.0 (some_same (owner_word heap n - 1) s (sym (rw on refl) ∙ held))

  word_held : (n i s : ℕ) → has_bit set s ≡ true → n < heap.blocks → owner_word heap n ≡ s + 1 → 0 < i → i < 16 → bare.at (block_address heap n + i) ≡ heap.at (block_address heap n + i)
  word_held n i s bit low e some small =
      at_word heap (holding_of set heap) n i some small
      ∙ (let on : (is_data heap (block_address heap n + i) && is_owned set heap (owner_word heap) (block_of heap (block_address heap n + i))) ≡ true =
      ap (λ t. t && is_owned set heap (owner_word heap) (block_of heap (block_address heap n + i))) (data_in heap n i low some small)
      ∙ ap (is_owned set heap (owner_word heap)) (number_there heap n i small) ∙ owned_here n s bit low e in
      rw on refl)

  -- the words of a structure of the set are those that are held
  held_alike : (s : ℕ) → has_bit set s ≡ true → OwnsAlike heap.start s (words_of heap) (words_of bare)
  held_alike s bit = record {
    owned = λ b own.
        let at = owner_tells heap own.0.number s refl refl (subst (λ a. words_of heap a ≡ s + 1) own.0.place own.1) in
        subst (λ a. words_of bare a ≡ s + 1) (sym own.0.place)
        (ap (λ t. if t then bare.at (block_address heap own.0.number) else 0) (first_inside own.0.number at.0) ∙ owner_held own.0.number s bit at.0 at.1);
    owned_back = λ b own.
        let at = owner_tells bare own.0.number s refl refl (subst (λ a. words_of bare a ≡ s + 1) own.0.place own.1) in
        subst (λ a. words_of heap a ≡ s + 1) (sym own.0.place)
        (ap (λ t. if t then heap.at (block_address heap own.0.number) else 0) (first_inside own.0.number at.0) ∙ owner_back own.0.number s at.1);
    words = λ b i own some small.
        let at = owner_tells heap own.0.number s refl refl (subst (λ a. words_of heap a ≡ s + 1) own.0.place own.1) in
        subst (λ a. words_of bare (a + i) ≡ words_of heap (a + i)) (sym own.0.place)
        (ap (λ x. if nat_lt (block_address heap own.0.number + i) (heap.start + 16 * heap.blocks) then x else 0) (word_held own.0.number i s bit at.0 at.1 some small));
  }

-- ---- roots

root_named : (kind : Kind) (heap : ℕ) (w : Words) (s : ℕ) (m : FiniteMap) → IsMapOf kind heap w s m → w (root_of heap s) ≡ s + 1
root_named Cells heap w s m h = h.root_own.1
root_named Tree heap w s m h = h.is.root_own.1
root_named Hash heap w s m h = h.is.root_own.1

-- ---- a begin

-- Where all structures are maps a begin of some of them finds maps, and no root is another structure's.
module _ (kinds : List Kind) (set : ℕ) (heap : Heap) (maps : Maps) (held : HoldsMaps kinds heap maps) (few : set < 2 ^ length kinds) where
  first_are : HoldMaps (has_bit set) kinds (bare set heap) maps
  first_are s bit = map_alike (kind_at kinds s) heap.start s (words_of heap) (words_of (bare set heap)) (maps s) (held_alike set heap s bit) (held s (bit_kind kinds set s few bit))

  roots_are : (n s : ℕ) → (holding_of set heap).owner n ≡ Some s → n < length kinds → s ≡ n
  roots_are n s e low =
      let told = owned_tells set heap n s e in
      let here : owner_word heap n ≡ s + 1 = owner_back set heap n s (at_block heap (holding_of set heap) n ∙ ap owner_of_held e) in
      let root = root_named (kind_at kinds n) heap.start (words_of heap) n (maps n) (held n (lt-ltb n (length kinds) low)) in
      let there = (owner_tells set heap heap n n refl refl root).1 in
      omega (arith, here, there)

begins_told : (kinds : List Kind) (set n : ℕ) (f : WholeFace MapDeed) (heap : Heap) (maps : Maps) → HoldsMaps kinds heap maps → set < 2 ^ length kinds
    → f.base.structures ≡ length kinds → heap.start ≡ f.base.heap.start → heap.blocks ≡ f.base.heap.blocks
    → BeginsOnMaps kinds (begun_face n set (holding_of set heap) f)
begins_told kinds set n f heap maps held few many start blocks = record {
  maps = maps;
  first = subst (λ (h : Heap). HoldMaps (has_bit set) kinds h maps) same (first_are kinds set heap maps held few);
  roots = λ m s e low. roots_are kinds set heap maps held few m s e (omega (arith, low, many));
}
  where
    same : bare set heap ≡ heap_of_holding f.base.heap (holding_of set heap)
    same = λ i. heap_of_holding (record { start = start i; blocks = blocks i; at = heap.at }) (holding_of set heap)

pub begins_are_told : BeginsAreTold
begins_are_told w maps n f g held h row =
    let same = call_same w f h (call.Begin row.set) row.call in
    let due : BeginIsDue w row.set = subst (λ (c : Call MapDeed). IsDue w c f) same h.due in
    let home = h.stands.home in
    let fit : IsItem w.kinds.now (item_of due.t) = subst (IsItem w.kinds.now) (get_or_from_slice_get w.items.now w.at (item_of due.t) (item_of due.t) due.item)
    (home.text.fit w.at (item_of due.t) (slice_get_within w.items.now w.at (item_of due.t) due.item)) in
    let few : row.set < 2 ^ length w.kinds.now = subst (λ s. s < 2 ^ length w.kinds.now) (sym due.set_is) fit.0.1 in
    let some = ∥∥₁_map row.lawful (λ lawful. history_holds w.kinds.now f.base.heap maps row.history held lawful
    (subst (λ (sorts : List ℕ). HaveSorts map_deeds sorts row.history) home.sorts row.sorts)) in
    subst (λ (x : WholeFace MapDeed). BeginsOnMaps w.kinds.now x) (sym row.next)
    (begins_told w.kinds.now row.set n f (fold f.base.heap row.history) (contents w.kinds.now (fold f.base.heap row.history) some)
    (contents_held w.kinds.now (fold f.base.heap row.history) some) few home.structures refl refl)
