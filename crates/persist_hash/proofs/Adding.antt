-- A node or a directory block more: what the words are then.
use Rattle.std.proofs.Common.{◌≡◌, ◌≢◌, ◌⊎◌, inl, inr, ⊎_elim, ℕ, ◌+◌, ◌<◌, ◌≤◌, true, false, Bool, if◌then◌else◌, ◌==◌, not, List, [], ◌∷◌, length, refl, ap, sym, ◌∙◌, arith, subst, add-zero}
use Rattle.std.specs.Prelude.{filter}
use Rattle.std.proofs.lemmas.Bool.Decides.{eqb_tells}
use Rattle.persist_model.specs.Records.{IsAmong}
use Rattle.persist_model.specs.Chain.{HasNoRepeats}
use Rattle.persist_model.specs.Region.{Words}
use Rattle.lane_traits.specs.Space.{Land, Space, AreSpare, IsTaken, IsOwn, IsDataWordOf, put_word, is_not, taken, given, written}
use Rattle.lane_traits.proofs.Writes.{put_same, put_other}
use Rattle.lane_traits.proofs.Among.{of_absent, kept_all}
use Rattle.persist_hash.specs.Calls.{TakesBlocks, IsUnwritten, KeepsOthers}
use Rattle.persist_hash.specs.Adding.{AddsNode, AddsDirectory, link_to, FillsLinks, OpensChain, AreThree}
use Rattle.persist_hash.proofs.ChainLaws.{blocks_apart}
use Rattle.persist_hash.proofs.Lands.{with_block, own_more, own_new}

-- ---- blocks that can be taken

one_left : (xs : List ℕ) (b : ℕ) → HasNoRepeats xs → filter (is_not b) xs ≡ [] → length xs < 2
one_left [] b once none = omega arith
one_left (x ∷ xs) b once none = step (x == b) (eqb_tells x b) none
  where
    step : (t : Bool) → ((t ≡ true) × (x ≡ b)) ⊎ ((t ≡ false) × (x ≢ b)) → (if not t then x ∷ filter (is_not b) xs else filter (is_not b) xs) ≡ [] → length (x ∷ xs) < 2
    step true tells empty = ⊎_elim
        (λ same. let rest : xs ≡ [] = sym (kept_all xs b (λ h. of_absent xs x once.0 (subst (IsAmong xs) (sym same.1) h))) ∙ empty in
        let long = ap length rest in omega (arith, long))
        (λ other. absurd (let q = other.0 in cc))
        tells
    step false tells empty = absurd (let q = empty in cc)

-- where none is left after one was taken, there was no more than that one
pub few_left : (s u : Space) (b : ℕ) → AreSpare s → IsTaken s b u → u.spare ≡ [] → length s.spare < 2
few_left s u b spare took none = one_left s.spare b spare.once (sym (ap (λ (v : Space). v.spare) took.space) ∙ none)

pub one_taken : (s t u : Space) (b : ℕ) → IsTaken s b t → u ≡ t → IsUnwritten 1 s u
one_taken s t u b took same =
    let is : u ≡ taken b s = same ∙ took.space in
    record {
      word = ap (λ (v : Space). v.word) is;
      writes = ap (λ (v : Space). v.writes) is;
      takes = 1;
      few = omega arith;
      took = record {
        blocks = b ∷ [];
        many = refl;
        took = (took.among, (ap (λ (v : Space). v.land) is, ap (λ (v : Space). v.spare) is));
      };
    }

pub none_taken : (s u : Space) (n : ℕ) → u ≡ s → IsUnwritten n s u
none_taken s u n is = record {
  word = ap (λ (v : Space). v.word) is;
  writes = ap (λ (v : Space). v.writes) is;
  takes = 0;
  few = omega arith;
  took = record { blocks = []; many = refl; took = (ap (λ (v : Space). v.land) is, ap (λ (v : Space). v.spare) is) };
}

-- ---- how many blocks can be taken

two_among : (xs : List ℕ) (a b : ℕ) → IsAmong xs a → IsAmong xs b → a ≢ b → 2 ≤ length xs
two_among [] a b ha hb ne = absurd ha
two_among (x ∷ []) a b (inl e) (inl f) ne = absurd (ne (e ∙ sym f))
two_among (x ∷ []) a b (inl e) (inr k) ne = absurd k
two_among (x ∷ []) a b (inr k) hb ne = absurd k
two_among (x ∷ y ∷ xs) a b ha hb ne = omega arith

some_among : (xs : List ℕ) (a : ℕ) → IsAmong xs a → 1 ≤ length xs
some_among [] a h = absurd h
some_among (x ∷ xs) a h = omega arith

pub among_kept : (b : ℕ) (xs : List ℕ) (x : ℕ) → IsAmong (filter (is_not b) xs) x → IsAmong xs x × (x ≢ b)
among_kept b [] x h = absurd h
among_kept b (y ∷ ys) x h = step (y == b) (eqb_tells y b) h (among_kept b ys x)
  where
    step : (t : Bool) → ((t ≡ true) × (y ≡ b)) ⊎ ((t ≡ false) × (y ≢ b)) → IsAmong (if not t then y ∷ filter (is_not b) ys else filter (is_not b) ys) x
        → (IsAmong (filter (is_not b) ys) x → IsAmong ys x × (x ≢ b)) → IsAmong (y ∷ ys) x × (x ≢ b)
    step true tells k again = (inr (again k).0, (again k).1)
    step false tells (inl e) again = (inl e, ⊎_elim (λ same. absurd (let q = same.0 in cc)) (λ other. λ f. other.1 (sym e ∙ f)) tells)
    step false tells (inr k) again = (inr (again k).0, (again k).1)

pub one_can : (s u : Space) (slot key value : ℕ) → AddsNode slot key value s u → 1 ≤ length s.spare
one_can s u slot key value adds = some_among s.spare adds.node adds.among

pub two_can : (s u : Space) (root index place key value : ℕ) → AddsDirectory root index place key value s u → 2 ≤ length s.spare
two_can s u root index place key value adds =
    let node = among_kept adds.directory s.spare adds.node adds.node_among in
    two_among s.spare adds.directory adds.node adds.among node.0 (λ e. node.1 (sym e))

-- ---- what a put of a present key takes

pub takes_none : (s u : Space) (a v : ℕ) → u ≡ written a v s → TakesBlocks 0 s u
takes_none s u a v is = record {
  blocks = [];
  many = refl;
  took = (ap (λ (t : Space). t.land) is, ap (λ (t : Space). t.spare) is);
}

-- ---- the words of a new directory block

pub fills_none : (directory place node : ℕ) (s : Space) → FillsLinks directory place node 0 s s
fills_none directory place node s = record {
  land = refl;
  spare = refl;
  writes = sym (add-zero s.writes);
  links = λ i lt. absurd (omega (arith, lt));
  elsewhere = λ a out. refl;
}

pub fills_more : (directory place node n x : ℕ) (s u v : Space) → FillsLinks directory place node n s u → v ≡ written (directory + (1 + n)) x u → x ≡ link_to place node n
    → FillsLinks directory place node (n + 1) s v
fills_more directory place node n x s u v h is link = record {
  land = ap (λ (t : Space). t.land) is ∙ h.land;
  spare = ap (λ (t : Space). t.spare) is ∙ h.spare;
  writes = (let e = ap (λ (t : Space). t.writes) is in let f = h.writes in omega (arith, e, f));
  links = λ i lt. ap (λ (t : Space). t.word (directory + (1 + i))) is ∙ ⊎_elim
      (λ same. let e : i ≡ n = same.1 in
      ap (λ k. put_word (directory + (1 + n)) x u.word (directory + (1 + k))) e ∙ put_same (directory + (1 + n)) x u.word ∙ link ∙ ap (link_to place node) (sym e))
      (λ other. let ne = other.1 in
      put_other (directory + (1 + n)) x (directory + (1 + i)) u.word (λ f. ne (omega (arith, f))) ∙ h.links i (omega (arith, lt, ne)))
      (eqb_tells i n);
  elsewhere = λ a out. ap (λ (t : Space). t.word a) is
      ∙ put_other (directory + (1 + n)) x a u.word (out n (omega arith)) ∙ h.elsewhere a (λ i lt. out i (omega (arith, lt)));
}

pub opens_of : (root index directory place node key value : ℕ) (s a u : Space) → AreThree s root directory node → index < 8 → FillsLinks directory place node 8 s a
    → u ≡ written (root + (1 + index)) directory (written (node + 3) 0 (written (node + 2) value (written (node + 1) key a)))
    → OpensChain root index directory place node key value s u
opens_of root index directory place node key value s a u three lt h is = record {
  land = ap (λ (t : Space). t.land) is ∙ h.land;
  spare = ap (λ (t : Space). t.spare) is ∙ h.spare;
  writes = (let e = ap (λ (t : Space). t.writes) is in let f = h.writes in omega (arith, e, f));
  named = ap (λ (t : Space). t.word (root + (1 + index))) is ∙ put_same (root + (1 + index)) directory w3;
  links = λ i small. ap (λ (t : Space). t.word (directory + (1 + i))) is
      ∙ put_other (root + (1 + index)) directory (directory + (1 + i)) w3 (λ e. blocks_apart s.land directory root (1 + i) (1 + index) three.directory_own three.root_own
      (λ f. three.root_directory (sym f)) (omega (arith, small)) (omega (arith, lt)) e)
      ∙ put_other (node + 3) 0 (directory + (1 + i)) w2 (node_apart 3 (1 + i) (omega arith) (omega (arith, small)))
      ∙ put_other (node + 2) value (directory + (1 + i)) w1 (node_apart 2 (1 + i) (omega arith) (omega (arith, small)))
      ∙ put_other (node + 1) key (directory + (1 + i)) a.word (node_apart 1 (1 + i) (omega arith) (omega (arith, small)))
      ∙ h.links i small;
  key_is = ap (λ (t : Space). t.word (node + 1)) is ∙ put_other (root + (1 + index)) directory (node + 1) w3 (root_apart 1 (omega arith))
      ∙ put_other (node + 3) 0 (node + 1) w2 (λ e. omega (arith, e)) ∙ put_other (node + 2) value (node + 1) w1 (λ e. omega (arith, e)) ∙ put_same (node + 1) key a.word;
  value_is = ap (λ (t : Space). t.word (node + 2)) is ∙ put_other (root + (1 + index)) directory (node + 2) w3 (root_apart 2 (omega arith))
      ∙ put_other (node + 3) 0 (node + 2) w2 (λ e. omega (arith, e)) ∙ put_same (node + 2) value w1;
  next_is = ap (λ (t : Space). t.word (node + 3)) is ∙ put_other (root + (1 + index)) directory (node + 3) w3 (root_apart 3 (omega arith))
      ∙ put_same (node + 3) 0 w2;
  elsewhere = λ x out n1 n2 n3 at. ap (λ (t : Space). t.word x) is ∙ put_other (root + (1 + index)) directory x w3 at
      ∙ put_other (node + 3) 0 x w2 n3 ∙ put_other (node + 2) value x w1 n2 ∙ put_other (node + 1) key x a.word n1 ∙ h.elsewhere x out;
}
  where
    w1 : Words
    w1 = put_word (node + 1) key a.word

    w2 : Words
    w2 = put_word (node + 2) value (put_word (node + 1) key a.word)

    w3 : Words
    w3 = put_word (node + 3) 0 (put_word (node + 2) value (put_word (node + 1) key a.word))

    node_apart : (i j : ℕ) → i < 16 → j < 16 → directory + j ≢ node + i
    node_apart i j li lj = blocks_apart s.land directory node j i three.directory_own three.node_own three.directory_node lj li

    root_apart : (i : ℕ) → i < 16 → node + i ≢ root + (1 + index)
    root_apart i li e = blocks_apart s.land root node (1 + index) i three.root_own three.node_own three.root_node (omega (arith, lt)) li (sym e)

-- so no other word of the structure's blocks is written
pub opens_elsewhere : (root index directory place node key value : ℕ) (s u : Space) → OpensChain root index directory place node key value s u
    → IsOwn s.land directory → IsOwn s.land node → (b i : ℕ) → IsOwn s.land b → b ≢ directory → b ≢ node → i < 16 → b + i ≢ root + (1 + index) → u.word (b + i) ≡ s.word (b + i)
opens_elsewhere root index directory place node key value s u h own_directory own_node b i own apart_directory apart_node small ne =
    h.elsewhere (b + i) (λ j lt. blocks_apart s.land b directory i (1 + j) own own_directory apart_directory small (omega (arith, lt)))
    (blocks_apart s.land b node i 1 own own_node apart_node small (omega arith))
    (blocks_apart s.land b node i 2 own own_node apart_node small (omega arith))
    (blocks_apart s.land b node i 3 own own_node apart_node small (omega arith)) ne

-- ---- words that are no data words of the structure's blocks

held : (land : Land) (b i : ℕ) → IsOwn land b → 0 < i → i < 16 → IsDataWordOf land (b + i)
held land b i own above below = record { block = b; index = i; own = own; place = refl; above = above; below = below }

no_data : (land : Land) (a b i : ℕ) → (IsDataWordOf land a → ⊥) → IsOwn land b → 0 < i → i < 16 → a ≢ b + i
no_data land a b i out own above below e = out (subst (IsDataWordOf land) (sym e) (held land b i own above below))

pub others_written : (s u : Space) (b i v : ℕ) → IsOwn s.land b → 0 < i → i < 16 → u ≡ written (b + i) v s → KeepsOthers s u
others_written s u b i v own above below is = λ a out later.
    ap (λ (t : Space). t.word a) is ∙ put_other (b + i) v a s.word (no_data s.land a b i out own above below)

pub others_added : (s u : Space) (slot key value : ℕ) → IsDataWordOf s.land slot → AddsNode slot key value s u → KeepsOthers s u
others_added s u slot key value slot_held adds = λ a out later.
    let n = adds.node in
    let land : u.land ≡ with_block n s.land = ap (λ (t : Space). t.land) adds.space in
    let own = subst (λ (l : Land). IsOwn l n) (sym land) (own_new s.land n adds.block) in
    ap (λ (t : Space). t.word a) adds.space
    ∙ put_other slot n a (put_word (n + 3) (s.word slot) (put_word (n + 2) value (put_word (n + 1) key s.word))) (λ e. out (subst (IsDataWordOf s.land) (sym e) slot_held))
    ∙ put_other (n + 3) (s.word slot) a (put_word (n + 2) value (put_word (n + 1) key s.word)) (no_data u.land a n 3 later own (omega arith) (omega arith))
    ∙ put_other (n + 2) value a (put_word (n + 1) key s.word) (no_data u.land a n 2 later own (omega arith) (omega arith))
    ∙ put_other (n + 1) key a s.word (no_data u.land a n 1 later own (omega arith) (omega arith))

pub others_opened : (s u : Space) (root index place key value : ℕ) → IsOwn s.land root → index < 8 → AddsDirectory root index place key value s u → KeepsOthers s u
others_opened s u root index place key value root_own lt adds = λ a out later.
    let d = adds.directory in
    let n = adds.node in
    let opens = adds.opens in
    let land : u.land ≡ with_block n (with_block d s.land) = opens.land in
    let own_d = subst (λ (l : Land). IsOwn l d) (sym land) (own_more (with_block d s.land) n d (own_new s.land d adds.block)) in
    let own_n = subst (λ (l : Land). IsOwn l n) (sym land) (own_new (with_block d s.land) n adds.node_block) in
    opens.elsewhere a (λ i small. no_data u.land a d (1 + i) later own_d (omega arith) (omega (arith, small)))
    (no_data u.land a n 1 later own_n (omega arith) (omega arith))
    (no_data u.land a n 2 later own_n (omega arith) (omega arith))
    (no_data u.land a n 3 later own_n (omega arith) (omega arith))
    (no_data s.land a root (1 + index) out root_own (omega arith) (omega (arith, lt)))

pub others_same : (s u : Space) → u ≡ s → KeepsOthers s u
others_same s u is = λ a out later. ap (λ (t : Space). t.word a) is

pub others_unlinked : (s u : Space) (node link x : ℕ) → IsDataWordOf s.land link → u ≡ given node (written link x s) → KeepsOthers s u
others_unlinked s u node link x link_held is = λ a out later.
    ap (λ (t : Space). t.word a) is ∙ put_other link x a s.word (λ e. out (subst (IsDataWordOf s.land) (sym e) link_held))
