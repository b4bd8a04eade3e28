-- A fresh region is sound and empty.
use Rattle.std.proofs.Common.{◌≡◌, ◌≢◌, ◌⊎◌, ℕ, ◌+◌, ◌-◌, ◌*◌, ◌<◌, ◌≤◌, ◌==◌, ◌||◌, cond, List, [], Bool, true, false, refl, sym, ◌∙◌, ap, subst, arith, ⊎_elim, inl, inr, get_or, lt-ltb, ne_eqb, eq-eqb, nat_lt, le-leb}
use Rattle.std.proofs.lemmas.Bool.{cases_lt}
use Rattle.std.proofs.lemmas.Bool.Decides.{nat_tests}
use Rattle.std.proofs.lemmas.List.FromFn.{get_or-map-range_with_len}
use Rattle.persist_model.specs.Region.{Words}
use Rattle.persist_model.specs.Shape.{Shape, FIRST_MAGIC, SECOND_MAGIC, shape_of, heap, words_of_shape, log_words, list_words, IsBucketOf, IsShape, count_buckets}
use Rattle.persist_model.specs.Chain.{view, ListRules}
use Rattle.persist_model.specs.Sound.{HaveChains, HasState}
use Rattle.persist_model.specs.State.{IsSoundState}
use Rattle.region_layout.specs.declared.layout.Kind.{Kind}
use Rattle.region_layout.specs.declared.layout.Kind.TheVariants.{Cells, Tree, Hash}
use Rattle.region_layout.specs.Layout.{kind_number, IsAllowed}
use Rattle.region_layout.specs.Fresh.{magic_of, header_word, second_word, fresh_word, fresh_words, empty_state, FreshIsEmpty}

-- w has the words of a fresh region
pub record AreFresh (shape : Shape) (kinds : List Kind) (w : Words) : Type 0 where
  pub each : (a : ℕ) → a < words_of_shape shape → w a ≡ fresh_word shape kinds a

pub are_fresh : (shape : Shape) (kinds : List Kind) → AreFresh shape kinds (λ a. get_or (fresh_words shape kinds) a 0)
unfolding fresh_words
are_fresh shape kinds = record { each = λ a within. get_or-map-range_with_len (fresh_word shape kinds) 0 (words_of_shape shape) a a 0 within (omega arith) }

format_is : (shape : Shape) → IsAllowed shape → (shape.format ≡ 1) ⊎ (shape.format ≡ 2)
format_is shape allowed =
    ⊎_elim (λ (l : shape.format < 2). inl (omega (arith, allowed.format.0))) (λ (l : 2 ≤ shape.format). inr (omega (arith, allowed.format.1))) (cases_lt shape.format 2)

-- ---- the words of the header

second_else : (shape : Shape) (kinds : List Kind) (a : ℕ) → a ≢ 6 → (a < 13) ⊎ (13 + shape.structures ≤ a) → second_word shape kinds a ≡ 0
second_else shape kinds a six outside = grind (arith, nat_tests)

header_else : (shape : Shape) (kinds : List Kind) (a : ℕ) → 7 ≤ a → (a < 13) ⊎ (13 + shape.structures ≤ a) → header_word shape kinds a ≡ 0
header_else shape kinds a high outside = grind (arith, nat_tests, second_else)

zero_by : (b : Bool) (x y : ℕ) → b ≡ true → x ≡ 0 → cond b x y ≡ 0
zero_by true x y e h = h
zero_by false x y e h = absurd cc

header_zero : (shape : Shape) (kinds : List Kind) (w : Words) → AreFresh shape kinds w
    → (a : ℕ) → 7 ≤ a → a < 32 → (a < 13) ⊎ (13 + shape.structures ≤ a) → w a ≡ 0
header_zero shape kinds w fresh a high low outside =
    fresh.each a (omega arith) ∙ zero_by (nat_lt a 32) _ _ (lt-ltb a 32 low) (header_else shape kinds a high outside)

kind_word : (shape : Shape) (kinds : List Kind) (w : Words) → IsAllowed shape → AreFresh shape kinds w → shape.format ≡ 2 → (s : ℕ) → s < shape.structures
    → (k : Kind) × (w (13 + s) ≡ kind_number k)
kind_word shape kinds w allowed fresh second s within = (get_or kinds s Cells, fresh.each (13 + s) (omega arith) ∙ kind_header shape kinds s (omega (arith, allowed.structures.1)) second within)
  where
    kind_header : (shape : Shape) (kinds : List Kind) (s : ℕ) → s < 8 → shape.format ≡ 2 → s < shape.structures → fresh_word shape kinds (13 + s) ≡ kind_number (get_or kinds s Cells)
    kind_header shape kinds s low second within =
        let offset : 13 + s - 13 ≡ s = omega arith in
        rw (
          lt-ltb (13 + s) 32 (omega arith),
          ne_eqb (13 + s) 0 (λ e. omega arith),
          ne_eqb (13 + s) 1 (λ e. omega arith),
          ne_eqb (13 + s) 2 (λ e. omega arith),
          ne_eqb (13 + s) 3 (λ e. omega arith),
          ne_eqb (13 + s) 4 (λ e. omega arith),
          ne_eqb (13 + s) 5 (λ e. omega arith),
          eq-eqb shape.format 2 second,
          ne_eqb (13 + s) 6 (λ e. omega arith),
          le-leb 13 (13 + s) (omega arith),
          lt-ltb (13 + s) (13 + shape.structures) (omega arith),
          offset,
        ) refl

kind_within : (k : Kind) → (1 ≤ kind_number k) × (kind_number k ≤ 3)
kind_within Cells = (omega arith, omega arith)
kind_within Tree = (omega arith, omega arith)
kind_within Hash = (omega arith, omega arith)

-- ---- the shape

record HasHeader (shape : Shape) (w : Words) : Type 0 where
  magic : w 0 ≡ magic_of shape.format
  policy : w 1 ≡ shape.policy
  cells : w 2 ≡ shape.cells
  buckets : w 3 ≡ shape.buckets
  blocks : w 4 ≡ shape.blocks
  structures : w 5 ≡ shape.structures
  partitions : shape.format ≡ 2 → w 6 ≡ shape.partitions

has_header : (shape : Shape) (kinds : List Kind) (w : Words) → AreFresh shape kinds w → HasHeader shape w
has_header shape kinds w fresh = record {
  magic = fresh.each 0 (omega arith);
  policy = fresh.each 1 (omega arith);
  cells = fresh.each 2 (omega arith);
  buckets = fresh.each 3 (omega arith);
  blocks = fresh.each 4 (omega arith);
  structures = fresh.each 5 (omega arith);
  partitions = λ second. fresh.each 6 (omega arith) ∙ ap (λ b. cond b shape.partitions 0) (eq-eqb shape.format 2 second);
}

-- the shape that a header says
shape_is : (shape : Shape) (w : Words) → IsAllowed shape → HasHeader shape w → shape_of w ≡ shape
shape_is shape w allowed h =
    ⊎_elim
    (λ (first : shape.format ≡ 1).
    let whole = allowed.whole first in
    let magic : w 0 ≡ FIRST_MAGIC = h.magic ∙ ap magic_of first in
    same_shape (shape_of w) shape h.policy h.cells h.buckets h.blocks h.structures
    (ap (λ m. cond (m == SECOND_MAGIC) 2 1) magic ∙ sym first) (ap (λ m. cond (m == SECOND_MAGIC) (w 6) 1) magic ∙ sym whole))
    (λ (second : shape.format ≡ 2).
    let magic : w 0 ≡ SECOND_MAGIC = h.magic ∙ ap magic_of second in
    same_shape (shape_of w) shape h.policy h.cells h.buckets h.blocks h.structures
    (ap (λ m. cond (m == SECOND_MAGIC) 2 1) magic ∙ sym second) (ap (λ m. cond (m == SECOND_MAGIC) (w 6) 1) magic ∙ h.partitions second))
    (format_is shape allowed)
  where
    same_shape : (s t : Shape) → s.policy ≡ t.policy → s.cells ≡ t.cells → s.buckets ≡ t.buckets → s.blocks ≡ t.blocks → s.structures ≡ t.structures
        → s.format ≡ t.format → s.partitions ≡ t.partitions → s ≡ t
    same_shape s t p c b n k f q =
        ap (λ x. record s { policy = x }) p
        ∙ ap (λ x. record s { policy = t.policy; cells = x }) c
        ∙ ap (λ x. record s { policy = t.policy; cells = t.cells; buckets = x }) b
        ∙ ap (λ x. record s { policy = t.policy; cells = t.cells; buckets = t.buckets; blocks = x }) n
        ∙ ap (λ x. record t { structures = x; format = s.format; partitions = s.partitions }) k
        ∙ ap (λ x. record t { format = x; partitions = s.partitions }) f
        ∙ ap (λ x. record t { partitions = x }) q

-- ---- the chains

-- the list words of every partition are 0
list_zero : (shape : Shape) (kinds : List Kind) (w : Words) → IsAllowed shape → AreFresh shape kinds w
    → (p i : ℕ) → p < shape.partitions → i ≤ 4 → log_words shape w (list_words p + i) ≡ 0
list_zero shape kinds w allowed fresh p i within small =
    ⊎_elim
    (λ (l : p < 1). by_zero 8 (ap (λ b. cond b 8 (16 + 5 * p)) (eq-eqb p 0 (omega arith))) (omega arith) (inl (omega arith)) (omega arith))
    (λ (l : 1 ≤ p). by_zero (16 + 5 * p) (ap (λ b. cond b 8 (16 + 5 * p)) (ne_eqb p 0 (λ e. omega arith))) (omega arith)
    (inr (omega (arith, allowed.structures.1))) (omega (arith, allowed.partitions.1)))
    (cases_lt p 1)
  where
    by_zero : (start : ℕ) → list_words p ≡ start → 7 ≤ start + i → (start + i < 13) ⊎ (13 + shape.structures ≤ start + i) → start + i < 32
        → log_words shape w (list_words p + i) ≡ 0
    by_zero start is high outside low =
        zero_by (nat_lt (list_words p + i) (heap shape)) _ _ (lt-ltb _ _ (omega (arith, is)))
        (ap (λ n. w (n + i)) is ∙ header_zero shape kinds w fresh (start + i) high low outside)

record HasNoList (p : ℕ) (z : Words) : Type 0 where
  zero : (i : ℕ) → i ≤ 4 → z (list_words p + i) ≡ 0
  low : (a : ℕ) → 8 ≤ a → a ≤ 12 → z a ≡ 0

view_zero : (p : ℕ) (z : Words) → HasNoList p z → (a : ℕ) → 8 ≤ a → a ≤ 12 → view p z a ≡ 0
view_zero p z h a low high = either ((a == 8) || (a == 9) || (a == 10) || (a == 11) || (a == 12)) _ _ (h.zero (a - 8) (omega arith)) (h.low a low high)
  where
    either : (b : Bool) (x y : ℕ) → x ≡ 0 → y ≡ 0 → cond b x y ≡ 0
    either true x y e f = e
    either false x y e f = f

empty_rules : (bucket : ℕ → Type 0) (p : ℕ) (z : Words) → HasNoList p z → ListRules bucket (view p z) []
empty_rules bucket p z h =
    let at : (a : ℕ) → 8 ≤ a → a ≤ 12 → view p z a ≡ 0 = view_zero p z h in
    record {
      walk = [];
      is_walk = inl (record { to_append = at 10 (omega arith) (omega arith); links = at 8 (omega arith) (omega arith) });
      chain_is = refl;
      addresses = record {
        registers = λ a low high. inl (at a low high);
        visited = tt;
        appended = λ some. absurd (some (at 10 (omega arith) (omega arith)));
        removed = λ some. absurd (some (at 12 (omega arith) (omega arith)));
      };
      one_at_a_time = inl (at 10 (omega arith) (omega arith));
      no_repeats = tt;
      appending = λ some. absurd (some (at 10 (omega arith) (omega arith)));
      removing = λ some. absurd (some (at 12 (omega arith) (omega arith)));
      links_back = tt;
      tail = inl (at 9 (omega arith) (omega arith));
    }

empty_chains : (shape : Shape) (kinds : List Kind) (w : Words) → IsAllowed shape → AreFresh shape kinds w → HaveChains shape w (λ p. [])
empty_chains shape kinds w allowed fresh p within =
    let none : HasNoList p (log_words shape w) = record {
      zero = λ i small. list_zero shape kinds w allowed fresh p i within small;
      low = λ a low high. zero_by (nat_lt a (heap shape)) _ _ (lt-ltb a (heap shape) (omega arith)) (header_zero shape kinds w fresh a (omega arith) (omega arith) (inl (omega arith)));
    } in
    record {
      rules = empty_rules (IsBucketOf shape p) p (log_words shape w) none;
      removed = λ some. absurd (some (none.zero 4 (omega arith)));
    }

-- ---- the whole

is_shape : (shape : Shape) (kinds : List Kind) (w : Words) → IsAllowed shape → AreFresh shape kinds w → IsShape (words_of_shape shape) w
is_shape shape kinds w allowed fresh =
    let h = has_header shape kinds w fresh in
    let second : w 0 ≡ SECOND_MAGIC → shape.format ≡ 2 = λ e.
    ⊎_elim (λ (one : shape.format ≡ 1). absurd (omega (arith, e, h.magic, ap magic_of one))) (λ (two : shape.format ≡ 2). two) (format_is shape allowed) in
    record {
      enough = omega arith;
      magic = ⊎_elim (λ (one : shape.format ≡ 1). inl (h.magic ∙ ap magic_of one)) (λ (two : shape.format ≡ 2). inr (h.magic ∙ ap magic_of two)) (format_is shape allowed);
      policy = ⊎_elim (λ (l : shape.policy < 2). inl (omega (arith, h.policy, allowed.policy.0))) (λ (l : 2 ≤ shape.policy). inr (omega (arith, h.policy, allowed.policy.1))) (cases_lt shape.policy 2);
      cells = ⊎_elim (λ (e : shape.cells ≡ 1). inl (h.cells ∙ e)) (λ (e : shape.cells ≡ 16). inr (h.cells ∙ e)) allowed.cells;
      buckets = (omega (arith, h.buckets, allowed.buckets.0), omega (arith, h.buckets, allowed.buckets.1));
      blocks = (omega (arith, h.blocks, allowed.blocks.0), omega (arith, h.blocks, allowed.blocks.1));
      structures = (omega (arith, h.structures, allowed.structures.0), omega (arith, h.structures, allowed.structures.1));
      partitions = λ e.
          let is = h.partitions (second e) in
          (omega (arith, is, allowed.partitions.0), omega (arith, is, allowed.partitions.1), omega (arith, is, h.buckets, allowed.split));
      kinds = λ e s within.
          let found = kind_word shape kinds w allowed fresh (second e) s (omega (arith, within, h.structures)) in
          let limits = kind_within found.0 in
          (omega (arith, found.1, limits.0), omega (arith, found.1, limits.1));
      long = ap words_of_shape (sym (shape_is shape w allowed h));
    }

empty_has : (shape : Shape) (kinds : List Kind) (w : Words) → IsAllowed shape → AreFresh shape kinds w → HasState shape w (empty_state shape w)
empty_has shape kinds w allowed fresh = record {
  chains = λ p. [];
  lists = empty_chains shape kinds w allowed fresh;
  records = record { newest_first = tt; each = λ r. (λ h. absurd h, λ h. absurd h.2.is_among) };
  words = refl;
  room = λ p lt. refl;
}

empty_sound : (shape : Shape) (w : Words) → IsSoundState shape (empty_state shape w)
empty_sound shape w = record {
  newest_first = tt;
  gates = λ r h. absurd h;
  formed = λ r h. absurd h;
  order = tt;
  room = λ p within. record { undo = omega arith; checkpoint = λ first policy has_open. absurd has_open.1 };
  numbers = λ r h. absurd h;
}

all_room : (k n : ℕ) → 0 + k * (n - 0) ≡ k * n
all_room k n = let rest : n - 0 ≡ n = omega arith in omega (arith, ap (λ m. k * m) rest)

pub fresh_is_empty : FreshIsEmpty
fresh_is_empty shape kinds allowed count =
    let w : Words = λ a. get_or (fresh_words shape kinds) a 0 in
    let fresh = are_fresh shape kinds in
    let is = shape_is shape w allowed (has_header shape kinds w fresh) in
    let state = empty_has shape kinds w allowed fresh in
    let P : Shape → Type 0 = λ s. HasState s w (empty_state s w) in
    record {
      shape_is = is;
      sound = record {
        shape = is_shape shape kinds w allowed fresh;
        state = empty_state (shape_of w) w;
        has = subst P (sym is) state;
        sound = empty_sound (shape_of w) w;
      };
      chains = empty_chains shape kinds w allowed fresh;
      state = state;
      room = λ p. all_room shape.cells (count_buckets shape p);
    }
