-- What a draft shows of a lane's words: its structure's map.
use Rattle.std.proofs.Common.{◌≡◌, ◌≢◌, ◌⊎◌, inl, inr, ⊎_elim, ℕ, ◌+◌, ◌*◌, Bool, true, false, ◌||◌, if◌then◌else◌, ◌==◌, nat_lt, List, [], ◌∷◌, ◌++◌, refl, sym, subst, ◌∙◌, ap}
use Rattle.std.proofs.lemmas.Bool.Decides.{eqb_tells}
use Rattle.persist_model.specs.Region.{Words}
use Rattle.persist_model.specs.Records.{IsAmong}
use Rattle.lane_traits.specs.Space.{Space, put_word}
use Rattle.lane_traits.specs.Draft.{is_among, addresses, after_writes, drafted}
use Rattle.lane_traits.specs.declared.draft.WordWrite.{WordWrite}
use Rattle.lane_types.specs.Heaps.{Heap}
use Rattle.region_layout.specs.declared.layout.Kind.{Kind}
use Rattle.region_layout.specs.FiniteMap.{FiniteMap}
use Rattle.region_layout.specs.HeapBlocks.{land_of, root_of}
use Rattle.region_layout.specs.Contents.{IsMapOf}
use Rattle.map_deeds.specs.Meanings.{words_of}
use Rattle.lane_worker.specs.Shown.{with_change}
use Rattle.lane_worker.specs.Drafts.{HoldsOf}
use Rattle.lane_worker.proofs.Blocks.{AreBlocks, plain_words}
use Rattle.lane_worker.proofs.Lands.{map_same}

-- ---- lists

pub swap_tests : (t v : Bool) (x : ℕ) → (if t then 0 else (if v then x else 0)) ≡ (if v then (if t then 0 else x) else 0)
swap_tests true true x = refl
swap_tests true false x = refl
swap_tests false true x = refl
swap_tests false false x = refl

or_assoc : (s t u : Bool) → ((s || t) || u) ≡ (s || (t || u))
or_assoc true t u = refl
or_assoc false t u = refl

or_true : (t : Bool) → (t || true) ≡ true
or_true true = refl
or_true false = refl

pub is_among-append : (xs ys : List ℕ) (b : ℕ) → is_among (xs ++ ys) b ≡ (is_among xs b || is_among ys b)
is_among-append [] ys b = refl
is_among-append (x ∷ xs) ys b = ap (λ t. (b == x) || t) (is_among-append xs ys b) ∙ sym (or_assoc (b == x) (is_among xs b) (is_among ys b))

pub among_is : (xs : List ℕ) (b : ℕ) → IsAmong xs b → is_among xs b ≡ true
among_is [] b m = absurd m
among_is (x ∷ xs) b (inl e) = ⊎_elim (λ on. ap (λ t. t || is_among xs b) on.0) (λ off. absurd (off.1 e)) (eqb_tells b x)
among_is (x ∷ xs) b (inr m) = ap (λ t. (b == x) || t) (among_is xs b m) ∙ or_true (b == x)

pub among_either : (xs ys : List ℕ) (b : ℕ) → IsAmong (xs ++ ys) b → IsAmong xs b ⊎ IsAmong ys b
among_either [] ys b m = inr m
among_either (x ∷ xs) ys b (inl e) = inl (inl e)
among_either (x ∷ xs) ys b (inr m) = ⊎_elim (λ k. inl (inr k)) (λ k. inr k) (among_either xs ys b m)

-- what a word is after writes hangs on that word alone
pub after_writes_at : (log : List WordWrite) (w u : Words) (a : ℕ) → w a ≡ u a → after_writes log w a ≡ after_writes log u a
after_writes_at [] w u a e = e
after_writes_at (x ∷ log) w u a e = after_writes_at log (put_word x.address x.value w) (put_word x.address x.value u) a (ap (λ v. if a == x.address then x.value else v) e)

pub after_writes_off : (log : List WordWrite) (w : Words) (a : ℕ) → (IsAmong (addresses log) a → ⊥) → after_writes log w a ≡ w a
after_writes_off [] w a off = refl
after_writes_off (x ∷ log) w a off = after_writes_off log (put_word x.address x.value w) a (λ m. off (inr m)) ∙ off_here (eqb_tells a x.address)
  where
    off_here : (((a == x.address) ≡ true) × (a ≡ x.address)) ⊎ (((a == x.address) ≡ false) × (a ≢ x.address)) → put_word x.address x.value w a ≡ w a
    off_here (inl on) = absurd (off (inl on.1))
    off_here (inr ne) = ap (λ t. if t then x.value else w a) ne.0

-- ---- what a draft shows

-- what a reader of the heap's words shows
abbrev pub space_of : Heap → Space
space_of hp = record { land = land_of hp.start (words_of hp) 0; word = words_of hp; spare = []; writes = 0 }

-- the heap's words with nobody for some blocks
abbrev pub without : List ℕ → Heap → Words
without blocks hp = words_of (with_change [] blocks hp)

-- the structure's map stands in a draft for which these blocks were taken
pub drafted_map : (kind : Kind) (hp : Heap) (taken : List ℕ) (s : ℕ) (m : FiniteMap) → AreBlocks hp taken
    → IsMapOf kind hp.start (without taken hp) s m → HoldsOf kind (drafted s [] [] taken (space_of hp)) (root_of hp.start s) m
drafted_map kind hp taken s m blocks h =
    map_same hp.start s (without taken hp) (λ b. if is_among taken b then 0 else words_of hp b)
    (record { word = without taken hp; owner = without taken hp }) (record { word = words_of hp; owner = words_of hp }) (without taken hp) (words_of hp)
    (record {
      owned = λ b own. swap_tests (is_among taken b) (nat_lt b (hp.start + 16 * hp.blocks)) (hp.at b) ∙ own.1;
      owned_back = λ b own. sym (swap_tests (is_among taken b) (nat_lt b (hp.start + 16 * hp.blocks)) (hp.at b)) ∙ own.1;
      words = λ b i own some small.
          let off : is_among taken (b + i) ≡ false = subst (λ a. is_among taken (a + i) ≡ false) (sym own.0.place) (plain_words hp taken blocks own.0.number i some small) in
          ap (λ t. if nat_lt (b + i) (hp.start + 16 * hp.blocks) then (if t then 0 else hp.at (b + i)) else 0) (sym off);
    }) kind (root_of hp.start s) m h
