-- The state of words in which some of a closing is done.
use Rattle.std.proofs.Common.{◌≡◌, ◌≢◌, ◌⊎◌, inl, inr, ℕ, zero, suc, Bool, true, false, ◌+◌, ◌-◌, ◌*◌, ◌<◌, ◌≤◌, ◌==◌, if◌then◌else◌, List, [], ◌∷◌, length, refl, sym, ap, subst, ◌∙◌, arith}
use Rattle.std.proofs.lemmas.Bool.{cases_lt}
use Rattle.std.proofs.lemmas.Bool.Decides.{nat_tests, eqb_tells}
use Rattle.persist_model.specs.Region.{Words}
use Rattle.persist_model.specs.Records.{Record, Log, IsAmong, Has, IsNewestFirst, IsEnd, IsCheckpoint}
use Rattle.log_laws.specs.Closing.{IsSublog, empty, stays, goes, IsClosedBy}
use Rattle.persist_model.specs.Shape.{Shape, IsBucketOf, count_buckets, list_words}
use Rattle.persist_model.specs.ImageRecords.{cell_address, record_at, AreRecords}
use Rattle.persist_model.specs.Chain.{Each, view, last_or, ListRules}
use Rattle.persist_model.specs.Sound.{IsClosedBucket, closed_cells, room_of}
use Rattle.log_laws.proofs.Deciding.{IsDecided}
use Rattle.log_laws.proofs.Closings.{part_among}
use Rattle.log_laws.proofs.RecordLists.{left_open}
use Rattle.log_clearing.specs.Closed.{IsClosedIn, AreGroups, IsListed}
use Rattle.log_laws.proofs.SameLists.{chain_buckets, rules_same, view_same}

list_word_low : (p : ℕ) → p < 3 → list_words p + 4 < 32
list_word_low p lt = grind (arith, nat_tests)

stride_apart : (s i j : ℕ) → i < j → i * s + s ≤ j * s
stride_apart s i j h = grind arith

abbrev counted_shut : ℕ → ℕ
counted_shut n = if n == 0 then 1 else 0

small : (t : Bool) → (if t then 1 else 0) ≤ 1
small true = omega arith
small false = omega arith

-- a cell is no link of a bucket
cell_is_no_link : (k i j c : ℕ) → c < k → (32 + i * (8 + 8 * k) + 8 + 8 * c ≢ 32 + j * (8 + 8 * k)) × (32 + i * (8 + 8 * k) + 8 + 8 * c ≢ 32 + j * (8 + 8 * k) + 1)
cell_is_no_link k i j c lt = elim (cases_lt i j) [
  | inl h ↦ (let g = stride_apart (8 + 8 * k) i j h in ((λ e. omega (arith, g, e, lt)), (λ e. omega (arith, g, e, lt))))
  | inr h ↦ elim (cases_lt j i) [
    | inl m ↦ (let g = stride_apart (8 + 8 * k) j i m in ((λ e. omega (arith, g, e, lt)), (λ e. omega (arith, g, e, lt))))
    | inr m ↦ (let same : i ≡ j = omega (arith, h, m) in let g : i * (8 + 8 * k) ≡ j * (8 + 8 * k) = ap (λ n. n * (8 + 8 * k)) same in
        ((λ e. omega (arith, g, e)), (λ e. omega (arith, g, e))))
  ]
]

each_among : (P : ℕ → Type 0) (xs : List ℕ) (b : ℕ) → Each P xs → IsAmong xs b → P b
each_among P [] b h m = absurd m
each_among P (x ∷ xs) b h (inl e) = subst P (sym e) h.0
each_among P (x ∷ xs) b h (inr m) = each_among P xs b h.1 m

pub part_in : (P : Record → Type 0) (later log : Log) → IsSublog P later log → (r : Record) → IsAmong log r → (P r → ⊥) → IsAmong later r
part_in P _ _ empty r m off = m
part_in P _ _ (stays x {later = later} {log = log} part) r (inl e) off = inl e
part_in P _ _ (stays x {later = later} {log = log} part) r (inr m) off = inr (part_in P later log part r m off)
part_in P _ _ (goes x {later = later} {log = log} p part) r (inl e) off = absurd (off (subst P (sym e) p))
part_in P _ _ (goes x {later = later} {log = log} p part) r (inr m) off = part_in P later log part r m off

pub part_map : (P Q : Record → Type 0) (later log : Log) → ((r : Record) → IsAmong log r → P r → Q r) → IsSublog P later log → IsSublog Q later log
part_map P Q _ _ f empty = empty
part_map P Q _ _ f (stays r {later = later} {log = log} part) = stays r (part_map P Q later log (λ s m. f s (inr m)) part)
part_map P Q _ _ f (goes r {later = later} {log = log} p part) = goes r (f r (inl refl) p) (part_map P Q later log (λ s m. f s (inr m)) part)

module _ (shape : Shape) (few : shape.partitions ≤ 3) (w v : Words) (log : Log) (chains : ℕ → List ℕ) (gates ends checkpoints : List ℕ)
    (lists : (p : ℕ) → p < shape.partitions → ListRules (IsBucketOf shape p) (view p w) (chains p))
    (records : AreRecords shape chains w log) (groups : AreGroups log gates ends checkpoints)
    (closed : IsClosedIn (λ a. Unit {0}) w v gates ends checkpoints) where
  abbrev Listed : ℕ → Type 0
  Listed a = IsAmong gates a ⊎ IsAmong ends a ⊎ IsAmong checkpoints a

  -- where a record stands
  record IsPlaced (r : Record) : Type 0 where
    number : ℕ
    place : ℕ
    below : place < shape.cells
    at_is : r.at ≡ 32 + number * (8 + 8 * shape.cells) + 8 + 8 * place
    is : r ≡ record_at w r.at
    gate : w r.at ≢ 0

  placed : (r : Record) → IsAmong log r → IsPlaced r
  placed r m =
      let k = (records.each r).0 m in
      let b = each_among (IsBucketOf shape k.0) (chains k.0) k.2.bucket (chain_buckets (IsBucketOf shape k.0) (view k.0 w) (chains k.0) (lists k.0 k.1)) k.2.is_among in
      let at_is : r.at ≡ cell_address k.2.bucket k.2.place = ap (λ (x : Record). x.at) k.2.is in
      let is : r ≡ record_at w r.at = k.2.is ∙ ap (λ a. record_at w a) (sym at_is) in
      record {
        number = b.0;
        place = k.2.place;
        below = k.2.below;
        at_is = at_is ∙ ap (λ n. n + 8 + 8 * k.2.place) b.3;
        is = is;
        gate = λ e. k.2.gate (ap (λ (x : Record). x.lsn) is ∙ e);
      }

  listed_record : (a : ℕ) → Listed a → Has (λ r. r.at ≡ a) log
  listed_record a (inl m) = let k = groups.of_gates a m in (k.0, k.1, k.2.0)
  listed_record a (inr (inl m)) = let k = groups.of_ends a m in (k.0, k.1, k.2.0)
  listed_record a (inr (inr m)) = let k = groups.of_checkpoints a m in (k.0, k.1, k.2.0)

  same_away : (a : ℕ) → (Listed a → ⊥) → v a ≡ w a
  same_away a off = elim (closed.each a tt) [ inl e ↦ e | inr k ↦ absurd (off k.0) ]

  first_words : (a : ℕ) → a < 32 → v a ≡ w a
  first_words a lt = same_away a (λ m. (let k = listed_record a m in let p = placed k.0 k.1 in let at_is = p.at_is in let e = k.2 in absurd (omega (arith, at_is, e, lt))))

  links : (p b : ℕ) → IsBucketOf shape p b → (v b ≡ w b) × (v (b + 1) ≡ w (b + 1))
  links p b is = (
    same_away b (λ m. (let k = listed_record b m in let h = placed k.0 k.1 in (cell_is_no_link shape.cells h.number is.0 h.place h.below).0 (sym h.at_is ∙ k.2 ∙ is.3))),
    same_away (b + 1) (λ m. (let k = listed_record (b + 1) m in let h = placed k.0 k.1 in
        (cell_is_no_link shape.cells h.number is.0 h.place h.below).1 (sym h.at_is ∙ k.2 ∙ ap (λ n. n + 1) is.3))),
  )

  bucket_above : (p b : ℕ) → IsBucketOf shape p b → 32 ≤ b
  bucket_above p b is = let e = is.3 in omega (arith, e)

  pub lists_closed : (p : ℕ) → p < shape.partitions → ListRules (IsBucketOf shape p) (view p v) (chains p)
  lists_closed p lt = rules_same (IsBucketOf shape p) (view p w) (view p v)
      (λ a low high. view_same p a w v (omega (arith, lt, few)) first_words (first_words a (omega (arith, high))))
      (λ b is. (
        view_same p b w v (omega (arith, lt, few)) first_words (links p b is).0,
        view_same p (b + 1) w v (omega (arith, lt, few)) first_words (links p b is).1,
      ))
      (chains p) (lists p lt)

  shut_stays : (a : ℕ) → w a ≡ 0 → v a ≡ 0
  shut_stays a e = elim (closed.each a tt) [ inl same ↦ same ∙ e | inr k ↦ k.1 ]

  pub removed_closed : (p : ℕ) → p < shape.partitions → (w (list_words p + 4) ≢ 0 → IsClosedBucket shape w (w (list_words p + 4))) →
      v (list_words p + 4) ≢ 0 → IsClosedBucket shape v (v (list_words p + 4))
  removed_closed p lt removed ne c below =
      let same = first_words (list_words p + 4) (list_word_low p (omega (arith, lt, few))) in
      subst (λ b. v (cell_address b c) ≡ 0) (sym same) (shut_stays (cell_address (w (list_words p + 4)) c) (removed (λ z. ne (same ∙ z)) c below))

  -- the words of a cell behind its gate
  body_word : (p b c n : ℕ) → IsBucketOf shape p b → 1 ≤ n → n ≤ 7 → v (cell_address b c + n) ≡ w (cell_address b c + n)
  body_word p b c n is low high = same_away (cell_address b c + n) (λ m. (
      let k = listed_record (cell_address b c + n) m in
      let h = placed k.0 k.1 in
      let e = k.2 in
      let f = h.at_is in
      let g = is.3 in
      absurd (omega (arith, e, f, g, low, high))))

  cell_same : (p b c : ℕ) → IsBucketOf shape p b → v (cell_address b c) ≡ w (cell_address b c) → record_at v (cell_address b c) ≡ record_at w (cell_address b c)
  cell_same p b c is e =
      let e1 = body_word p b c 1 is (omega arith) (omega arith) in
      let e2 = body_word p b c 2 is (omega arith) (omega arith) in
      let e3 = body_word p b c 3 is (omega arith) (omega arith) in
      let e4 = body_word p b c 4 is (omega arith) (omega arith) in
      let e5 = body_word p b c 5 is (omega arith) (omega arith) in
      let e6 = body_word p b c 6 is (omega arith) (omega arith) in
      let e7 = body_word p b c 7 is (omega arith) (omega arith) in
      λ i. record {
        at = cell_address b c;
        lsn = e i;
        transaction = e1 i;
        kind = e2 i;
        word = e3 i;
        before = e4 i;
        after = e5 i;
        undo_next = e6 i;
        outcome = e7 i;
      }

  abbrev pub IsShut : Record → Type 0
  IsShut r = v r.at ≡ 0

  decide_shut : (r : Record) → IsAmong log r → IsDecided (IsShut r)
  decide_shut r m = elim (eqb_tells (v r.at) 0) [ inl e ↦ inl e.1 | inr ne ↦ inr ne.1 ]

  -- what stays open
  pub left : (later : Log) × IsSublog IsShut later log × IsNewestFirst later × ((r : Record) → IsAmong later r → IsShut r → ⊥)
  left = left_open IsShut log decide_shut records.newest_first

  open_same : (a : ℕ) → v a ≢ 0 → v a ≡ w a
  open_same a ne = elim (closed.each a tt) [ inl e ↦ e | inr k ↦ absurd (ne k.1) ]

  in_bucket : (p b : ℕ) → p < shape.partitions → IsAmong (chains p) b → IsBucketOf shape p b
  in_bucket p b lt m = each_among (IsBucketOf shape p) (chains p) b (chain_buckets (IsBucketOf shape p) (view p w) (chains p) (lists p lt)) m

  pub records_closed : AreRecords shape chains v left.0
  records_closed = record {
    newest_first = left.2;
    each = λ r. (
      λ m. (let k = (records.each r).0 (part_among IsShut left.0 log left.1 r m) in
          let at_is : r.at ≡ cell_address k.2.bucket k.2.place = ap (λ (x : Record). x.at) k.2.is in
          let ne : v (cell_address k.2.bucket k.2.place) ≢ 0 = λ e. left.3 r m (ap v at_is ∙ e) in (
            k.0,
            k.1,
            record {
              bucket = k.2.bucket;
              is_among = k.2.is_among;
              place = k.2.place;
              below = k.2.below;
              is = k.2.is ∙ sym (cell_same k.0 k.2.bucket k.2.place (in_bucket k.0 k.2.bucket k.1 k.2.is_among) (open_same (cell_address k.2.bucket k.2.place) ne));
              gate = k.2.gate;
            },
          )),
      λ k. (let at_is : r.at ≡ cell_address k.2.bucket k.2.place = ap (λ (x : Record). x.at) k.2.is in
          let lsn_is : r.lsn ≡ v (cell_address k.2.bucket k.2.place) = ap (λ (x : Record). x.lsn) k.2.is in
          let ne : v (cell_address k.2.bucket k.2.place) ≢ 0 = λ e. k.2.gate (lsn_is ∙ e) in
          let among : IsAmong log r = (records.each r).1 (
            k.0,
            k.1,
            record {
              bucket = k.2.bucket;
              is_among = k.2.is_among;
              place = k.2.place;
              below = k.2.below;
              is = k.2.is ∙ cell_same k.0 k.2.bucket k.2.place (in_bucket k.0 k.2.bucket k.1 k.2.is_among) (open_same (cell_address k.2.bucket k.2.place) ne);
              gate = k.2.gate;
            },
          ) in
          part_in IsShut left.0 log left.1 r among (λ e. ne (ap v (sym at_is) ∙ e))),
    );
  }

  -- a record is known by its address
  one_at : (r x : Record) → IsAmong log r → IsAmong log x → r.at ≡ x.at → r ≡ x
  one_at r x m k e = (placed r m).is ∙ ap (λ a. record_at w a) e ∙ sym (placed x k).is

  changed : (r : Record) → IsAmong log r → IsShut r → v r.at ≢ w r.at
  changed r m e same = (placed r m).gate (sym same ∙ e)

  gone : (r : Record) → IsAmong log r → (IsAmong left.0 r → ⊥) → IsShut r
  gone r m off = elim (decide_shut r m) [ inl e ↦ e | inr ne ↦ absurd (off (part_in IsShut left.0 log left.1 r m ne)) ]

  in_gates : (r : Record) → IsAmong log r → IsAmong gates r.at → (IsEnd r → ⊥) × (IsCheckpoint r → ⊥)
  in_gates r m on = let k = groups.of_gates r.at on in let e = one_at k.0 r k.1 m k.2.0 in
      ((λ end. k.2.1 (subst IsEnd (sym e) end)), (λ check. k.2.2 (subst IsCheckpoint (sym e) check)))

  in_ends : (r : Record) → IsAmong log r → IsAmong ends r.at → IsEnd r
  in_ends r m on = let k = groups.of_ends r.at on in subst IsEnd (one_at k.0 r k.1 m k.2.0) k.2.1

  in_checkpoints : (r : Record) → IsAmong log r → IsAmong checkpoints r.at → IsCheckpoint r
  in_checkpoints r m on = let k = groups.of_checkpoints r.at on in subst IsCheckpoint (one_at k.0 r k.1 m k.2.0) k.2.1

  pub is_closed_by : IsClosedBy (IsListed gates ends checkpoints) log left.0
  is_closed_by = record {
    part = part_map IsShut _ left.0 log (λ r m e. (
      elim (closed.each r.at tt) [ inl same ↦ absurd (changed r m e same) | inr k ↦ k.0 ],
      λ j. left.3 r j e,
    )) left.1;
    ends_second = λ end m off is r k on. (
        let shut = gone end m off in
        let before = part_among IsShut left.0 log left.1 r k in
        elim on [
          | inl g ↦ absurd (left.3 r k (closed.second end.at r.at tt tt (changed end m shut) (λ j. (in_gates end m j).0 is) g))
          | inr (inl e) ↦ inl (in_ends r before e)
          | inr (inr c) ↦ inr (in_checkpoints r before c)
        ]);
    checkpoints_last = λ check m off is r k on. (
        let shut = gone check m off in
        let before = part_among IsShut left.0 log left.1 r k in
        elim on [
          | inl g ↦ absurd (left.3 r k (closed.second check.at r.at tt tt (changed check m shut) (λ j. (in_gates check m j).1 is) g))
          | inr (inl e) ↦ absurd (left.3 r k (closed.third check.at r.at tt tt (changed check m shut) (λ j. (in_gates check m j).1 is)
              (λ j. (let end = in_ends check m j in absurd (omega (arith, end, is)))) e))
          | inr (inr c) ↦ in_checkpoints r before c
        ]);
  }

  more_closed : (b n : ℕ) → closed_cells w b n ≤ closed_cells v b n
  more_closed b zero = omega arith
  more_closed b (suc n) =
      let so_far = more_closed b n in
      let here = one (cell_address b n) in
      omega (arith, so_far, here)
    where
      one : (a : ℕ) → (if w a == 0 then 1 else 0) ≤ (if v a == 0 then 1 else 0)
      one a = elim (closed.each a tt) [
        | inl e ↦ (let same : counted_shut (v a) ≡ counted_shut (w a) = ap counted_shut e in omega (arith, same))
        | inr k ↦ (let on : counted_shut (v a) ≡ counted_shut 0 = ap counted_shut k.1 in let at_most = small (w a == 0) in omega (arith, on, at_most))
      ]

  pub more_room : (p : ℕ) → room_of shape w p (chains p) ≤ room_of shape v p (chains p)
  more_room p = by_test (last_or 0 (chains p) == 0)
    where
      by_test : (t : Bool) → (if t then 0 else closed_cells w (last_or 0 (chains p)) shape.cells) + shape.cells * (count_buckets shape p - length (chains p))
          ≤ (if t then 0 else closed_cells v (last_or 0 (chains p)) shape.cells) + shape.cells * (count_buckets shape p - length (chains p))
      by_test true = omega arith
      by_test false = let h = more_closed (last_or 0 (chains p)) shape.cells in omega (arith, h)
