-- What a partition sees of a region's words and cells.
use Rattle.std.proofs.Common.{◌≡◌, ◌⊎◌, inl, inr, ℕ, zero, suc, ◌+◌, ◌-◌, ◌<◌, ◌≤◌, ◌==◌, cond, List, [], ◌∷◌, ◌++◌, length, refl, ap, sym, ◌∙◌, arith, subst}
use Rattle.std.specs.Prelude.{slice_index}
use Rattle.std.proofs.lemmas.Bool.{cases_lt}
use Rattle.std.proofs.lemmas.Bool.Decides.{nat_tests, eqb_tells}
use Rattle.std.proofs.lemmas.List.FromFn.{length-map-range_with_len, get_or-map-range_with_len}
use Rattle.persist_model.specs.declared.event.Event.TheVariants.{Store, PStore, WriteBack, Fence}
use Rattle.persist_model.specs.declared.event.Candidate.{Candidate}
use Rattle.persist_model.specs.Region.{Words, candidate, mark_last}
use Rattle.persist_model.specs.Records.{IsAmong}
use Rattle.persist_model.specs.Shape.{Shape, IsBucketOf, list_words, IsShape, IsKind, heap, log_words}
use Rattle.persist_model.specs.Chain.{view, out_address, last_or}
use Rattle.persist_model.specs.ImageRecords.{cell_address}
use Rattle.log_laws.proofs.Views.{list_words_cases, out_cases, view-out, view_behind, out_apart}
use Rattle.atomic_list.specs.Rules.{IsList}
use Rattle.atomic_list.proofs.Agreeing.{lists_agree}
use Rattle.atomic_list.proofs.Cases.{chain_is_buckets}
use Rattle.bucket_log.specs.Words.{IsLogWord}
use Rattle.bucket_log.proofs.Addresses.{list_word_is_log_word, cell_word_is_log_word}
use Rattle.bucket_log.proofs.Appended.{inside_log}
use Rattle.bucket_log.proofs.AppendImages.{Each-among, among_last}
use Rattle.bucket_log.proofs.Partitions.{bucket_word_above}
use Rattle.bucket_log.proofs.RecordSets.{same_cell}
use Rattle.bucket_log.proofs.Rooms.{room_same}
use Rattle.bucket_log.proofs.Scans.{log_same}
use Rattle.log_partition.specs.Views.{viewed, IsOutside, ViewsShowEvents, OwnWordsDecide}

-- ---- addresses

pub list_words_low : (p : ℕ) → 8 ≤ list_words p
list_words_low p = elim (eqb_tells p 0) [ inl e ↦ rw e.0 (omega arith) | inr e ↦ rw e.0 (omega arith) ]

pub list_words_high : (p : ℕ) → p < 3 → list_words p ≤ 26
list_words_high p lt = let cases = list_words_cases p lt in grind (arith, cases)

pub out_low : (p a : ℕ) → 8 ≤ a → a ≤ 12 → out_address p a ≡ list_words p + (a - 8)
out_low p a low high = elim (out_cases p a) [
  | inl h ↦ h.2
  | inr h ↦ elim h.0 [ inl x ↦ absurd (omega (arith, x, low)) | inr x ↦ absurd (omega (arith, x, high)) ]
]

pub out_high : (p a : ℕ) → (a < 8) ⊎ (12 < a) → out_address p a ≡ a
out_high p a off = elim (out_cases p a) [
  | inl h ↦ (let low = h.0 in let high = h.1 in elim off [ inl x ↦ absurd (omega (arith, x, low)) | inr x ↦ absurd (omega (arith, x, high)) ])
  | inr h ↦ h.1
]

pub out_above : (p a : ℕ) → a ≤ out_address p a
out_above p a = elim (out_cases p a) [
  | inl h ↦ (let e = h.2 in let low = list_words_low p in omega (arith, e, low))
  | inr h ↦ (let e = h.1 in omega (arith, e))
]

-- an address of a view is below what its own and the header are below
pub out_below : (p a n : ℕ) → p < 3 → 32 ≤ n → a < n → out_address p a < n
out_below p a n lt enough below = elim (out_cases p a) [
  | inl h ↦ (let e = h.2 in let low = h.0 in let high = h.1 in let most = list_words_high p lt in omega (arith, e, low, high, most, enough))
  | inr h ↦ (let e = h.1 in omega (arith, e, below))
]

-- the view of the log's words is that of the words
pub view_below : (shape : Shape) (p : ℕ) (w : Words) (a : ℕ) → p < 3 → a < heap shape → view p w a ≡ view p (log_words shape w) a
view_below shape p w a few lt =
    view-out p w a ∙ sym (inside_log shape w (out_address p a) (out_below p a (heap shape) few (omega arith) lt)) ∙ sym (view-out p (log_words shape w) a)

-- ---- rows of words

slice_index_past : (xs : List ℕ) (i : ℕ) → length xs ≤ i → slice_index xs i ≡ 0
slice_index_past [] i h = refl
slice_index_past (x ∷ xs) zero h = absurd (omega arith)
slice_index_past (x ∷ xs) (suc i) h = slice_index_past xs i (omega arith)

pub length-viewed : (p : ℕ) (xs : List ℕ) → length (viewed p xs) ≡ length xs
length-viewed p xs = length-map-range_with_len (view p (slice_index xs)) 0 (length xs)

pub viewed-at : (p : ℕ) (xs : List ℕ) (a : ℕ) → slice_index (viewed p xs) a ≡ view p (slice_index xs) a
viewed-at p xs a = elim (cases_lt a (length xs)) [
  | inl lt ↦ get_or-map-range_with_len (view p (slice_index xs)) 0 (length xs) a a 0 lt (omega arith)
  | inr ge ↦ (let size = length-viewed p xs in let above = out_above p a in
      slice_index_past (viewed p xs) a (omega (arith, size, ge)) ∙ sym (view-out p (slice_index xs) a ∙ slice_index_past xs (out_address p a) (omega (arith, ge, above))))
]

pub viewed-is : (p : ℕ) (xs : List ℕ) → slice_index (viewed p xs) ≡ view p (slice_index xs)
viewed-is p xs = λ i a. viewed-at p xs a i

-- a view reads this word of the region
pub viewed_word : (p : ℕ) (xs : List ℕ) (a out word : ℕ) → out ≡ out_address p a → word ≡ slice_index xs out → word ≡ slice_index (viewed p xs) a
viewed_word p xs a out word at is = is ∙ ap (slice_index xs) at ∙ sym (view-out p (slice_index xs) a) ∙ sym (viewed-at p xs a)

pub viewed_inside : (p : ℕ) (xs : List ℕ) (a out : ℕ) → p < 3 → 32 ≤ length xs → a < length (viewed p xs) → out ≡ out_address p a → out < length xs
viewed_inside p xs a out lt enough inside at =
    let size = length-viewed p xs in
    let below = out_below p a (length xs) lt enough (omega (arith, size, inside)) in
    omega (arith, at, below)

-- a view shows the header
pub view_shape : (size p : ℕ) (w : Words) → IsShape size w → IsShape size (view p w)
view_shape size p w is = record {
  enough = is.enough;
  magic = is.magic;
  policy = is.policy;
  cells = is.cells;
  buckets = is.buckets;
  blocks = is.blocks;
  structures = is.structures;
  partitions = is.partitions;
  kinds = λ second s lt. subst IsKind (sym (view_behind p w (13 + s) (omega arith))) (is.kinds second s lt);
  long = is.long;
}

-- ---- events

test_out : (p a b : ℕ) → p < 3 → IsOutside a → IsOutside b → (out_address p a == out_address p b) ≡ (a == b)
test_out p a b lt at from = elim (eqb_tells a b) [
  | inl e ↦ (let same : out_address p a ≡ out_address p b = ap (out_address p) e.1 in grind (arith, nat_tests, same, e))
  | inr e ↦ (let ne = out_apart p a b lt (inr at) (inr from) e.1 in grind (arith, nat_tests, ne, e))
]

stores_show : (p a b : ℕ) (change : List Candidate → List Candidate) (cs : List Candidate) → p < 3 → IsOutside a → IsOutside b →
    cond (out_address p a == out_address p b) (change cs) cs ≡ cond (a == b) (change cs) cs
stores_show p a b change cs lt at from = ap (λ t. cond t (change cs) cs) (test_out p a b lt at from)

pub views_show_events : ViewsShowEvents
views_show_events p lane region (Store b v) a lt on at = stores_show p a b (λ cs. cs ++ candidate v 0 ∷ []) (region.at (out_address p a)) lt at on
views_show_events p lane region (PStore b v) a lt on at = stores_show p a b (λ cs. cs ++ candidate v (lane + 1) ∷ []) (region.at (out_address p a)) lt at on
views_show_events p lane region (WriteBack b) a lt on at = stores_show p a b (mark_last (lane + 1)) (region.at (out_address p a)) lt at on
views_show_events p lane region Fence a lt on at = refl

-- ---- own words

outside_log_word : (shape : Shape) (p a : ℕ) → IsLogWord shape p a → IsOutside a
outside_log_word shape p a (inl h) = let high = h.1 in inl (omega (arith, high))
outside_log_word shape p a (inr h) = let above = bucket_word_above shape p a h in inr (omega (arith, above))

pub own_words_decide : OwnWordsDecide
own_words_decide shape p w v agree = record {
  list = λ chain list. lists_agree shape p w v chain (λ a m. same a (list_word_is_log_word shape p a m)) list;
  records = λ chain log list h. log_same shape.cells w v chain log
      (λ b c m below. same_cell v w (cell_address b c) (λ a low high. same a (cell_word_is_log_word shape p b c a (bucket_of chain list b m) below low high))) h;
  room = λ chain list. room_same shape v w p chain
      (λ c below ne. same (cell_address (last_or 0 chain) c) (cell_word_is_log_word shape p (last_or 0 chain) c (cell_address (last_or 0 chain) c)
      (bucket_of chain list (last_or 0 chain) (among_last chain ne)) below (omega arith) (omega arith)));
}
  where
    same : (a : ℕ) → IsLogWord shape p a → v a ≡ w a
    same a m = agree a m (outside_log_word shape p a m)

    bucket_of : (chain : List ℕ) → IsList shape p w chain → (b : ℕ) → IsAmong chain b → IsBucketOf shape p b
    bucket_of chain list b m = Each-among (IsBucketOf shape p) chain b (chain_is_buckets shape p w chain list) m
