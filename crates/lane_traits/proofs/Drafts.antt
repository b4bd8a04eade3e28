-- What a draft shows: the blocks and words by their addresses, and what its calls change.
use Rattle.std.proofs.Common.{◌≡◌, ◌≢◌, ◌⊎◌, inl, inr, ⊎_elim, ℕ, ◌+◌, ◌-◌, ◌/◌, ◌≤◌, Bool, true, false, ◌||◌, List, [], ◌∷◌, ◌++◌, length, if◌then◌else◌, ◌==◌, refl, append-nil, Option, Some, None, option_to_list, Result, Ok, Err, OnOk, OnErr, sym, ◌∙◌, ap, subst, arith}
use Rattle.std.proofs.lemmas.Bool.Decides.{eqb_tells}
use Rattle.persist_model.specs.Records.{IsAmong}
use Rattle.lane_traits.specs.Space.{Land, Space, IsOwn, IsDataWordOf, IsTaken, root_block, put_word, written, taken, given}
use Rattle.lane_traits.specs.declared.draft.WordWrite.{WordWrite}
use Rattle.persist_model.specs.Chain.{HasNoRepeats}
use Rattle.lane_traits.specs.Draft.{is_among, addresses, after_writes, last_writes, of_structure, drafted, at_start, IsOwnAt, IsDataAt, IsChange, block_before}
use Rattle.lane_traits.specs.DraftLaws.{of_among, owner_of}
use Rattle.lane_traits.proofs.Among.{not_among, is_among-last, among_last, among_front, among_end, once_front, once_more, without_last}
use Rattle.lane_traits.proofs.Writes.{after_writes-last, put_same, put_other, last_writes-once, last_writes-writes, last_writes-among, last_writes-length}

-- ---- blocks and words by their addresses

pub own_at : (land : Land) (b : ℕ) → IsOwn land b → IsOwnAt land b
own_at land b own =
    let place = own.0.place in
    record {
      place = omega (arith, place);
      positive = own.0.positive;
      fits = own.0.fits;
      owned = own.1;
    }

pub at_own : (land : Land) (b : ℕ) → IsOwnAt land b → IsOwn land b
at_own land b own = (
  record { number = (b - land.heap) / 16; place = own.place; positive = own.positive; fits = own.fits },
  own.owned,
)

-- the block of a data word is found by its address
block_is : (land : Land) (a : ℕ) (word : IsDataWordOf land a) → word.block ≡ block_before land a
block_is land a word =
    let block = word.own.0.place in let place = word.place in let above = word.above in let below = word.below in
    omega (arith, block, place, above, below)

pub data_at : (land : Land) (a : ℕ) → IsDataWordOf land a → IsDataAt land a
data_at land a word =
    let e = block_is land a word in
    let place = word.place in let above = word.above in let below = word.below in
    record {
      own = subst (IsOwnAt land) e (own_at land word.block word.own);
      above = omega (arith, e, place, above);
      below = omega (arith, e, place, below);
    }

pub at_data : (land : Land) (a : ℕ) → IsDataAt land a → IsDataWordOf land a
at_data land a word =
    let above = word.above in let below = word.below in
    record {
      block = block_before land a;
      index = a - block_before land a;
      own = at_own land (block_before land a) word.own;
      place = omega (arith, above);
      above = omega (arith, above);
      below = omega (arith, above, below);
    }

-- ---- what its calls leave

pub drafted_written : (base : Space) (structure : ℕ) (log : List WordWrite) (gives spare : List ℕ) (a v : ℕ)
    → drafted structure (log ++ record { address = a; value = v } ∷ []) gives spare base ≡ written a v (drafted structure log gives spare base)
drafted_written base structure log gives spare a v = λ i. record (drafted structure log gives spare base) {
  word = after_writes-last log (record { address = a; value = v }) base.word i;
  writes = length-last log i;
}
  where
    length-last : (xs : List WordWrite) → length (xs ++ record { address = a; value = v } ∷ []) ≡ length xs + 1
    length-last [] = refl
    length-last (x ∷ xs) = let e = length-last xs in omega (arith, e)

pub drafted_taken : (base : Space) (structure : ℕ) (log : List WordWrite) (gives xs : List ℕ) (b : ℕ)
    → (IsAmong gives b → ⊥) → (IsAmong xs b → ⊥) → base.land.owner b ≡ structure + 1
    → drafted structure log gives xs base ≡ taken b (drafted structure log gives (xs ++ b ∷ []) base)
drafted_taken base structure log gives xs b not_given not_spare own = λ i. record (drafted structure log gives xs base) {
  land = record (drafted structure log gives xs base).land { owner = λ c. owners c i };
  spare = sym (without_last xs b not_spare) i;
}
  where
    before : ℕ → ℕ
    before d = if is_among gives d || is_among (xs ++ b ∷ []) d then 0 else base.land.owner d

    plain : (s t : Bool) (n : ℕ) → s ≡ false → t ≡ false → (if s || t then 0 else n) ≡ n
    plain true t n off none = absurd (let e = off in cc)
    plain false true n off none = absurd (let e = none in cc)
    plain false false n off none = refl

    other : (s t u : Bool) (n : ℕ) → u ≡ false → (if s || t then 0 else n) ≡ (if s || (t || u) then 0 else n)
    other true t u n off = refl
    other false true u n off = refl
    other false false u n off = ap (λ x. if x then 0 else n) (sym off)

    owners : (c : ℕ) → (if is_among gives c || is_among xs c then 0 else base.land.owner c)
        ≡ put_word b (structure + 1) before c
    owners c = ⊎_elim
        (λ same. let here : c ≡ b = same.1 in
        subst (λ d. (if is_among gives d || is_among xs d then 0 else base.land.owner d) ≡ put_word b (structure + 1) before d) (sym here)
        (plain (is_among gives b) (is_among xs b) (base.land.owner b) (not_among gives b not_given) (not_among xs b not_spare)
        ∙ own ∙ sym (put_same b (structure + 1) before)))
        (λ apart.
        other (is_among gives c) (is_among xs c) (c == b) (base.land.owner c) apart.0
        ∙ ap (λ t. if is_among gives c || t then 0 else base.land.owner c) (sym (is_among-last xs b c))
        ∙ sym (put_other b (structure + 1) c before apart.1))
        (eqb_tells c b)

pub taken_is : (base : Space) (structure : ℕ) (log : List WordWrite) (gives spare later : List ℕ) (b : ℕ) → spare ≡ later ++ b ∷ []
    → ((c : ℕ) → IsAmong spare c → IsOwnAt (of_structure structure base.land) c) → ((c : ℕ) → IsAmong gives c → IsAmong spare c → ⊥) → HasNoRepeats spare
    → IsTaken (drafted structure log gives spare base) b (drafted structure log gives later base)
taken_is base structure log gives spare later b is own apart once =
    let among = subst (λ (xs : List ℕ). IsAmong xs b) (sym is) (among_end later b) in
    let at = own b among in
    record {
      among = among;
      block = record { number = (b - base.land.heap) / 16; place = at.place; positive = at.positive; fits = at.fits };
      space = drafted_taken base structure log gives later b (λ h. apart b h among)
          (once_front later b (subst (λ (xs : List ℕ). HasNoRepeats xs) is once)).1 at.owned
          ∙ ap (λ (xs : List ℕ). taken b (drafted structure log gives xs base)) (sym is);
    }

pub drafted_given : (base : Space) (structure : ℕ) (log : List WordWrite) (gives spare : List ℕ) (b : ℕ)
    → drafted structure log (gives ++ b ∷ []) spare base ≡ given b (drafted structure log gives spare base)
drafted_given base structure log gives spare b = λ i. record (drafted structure log gives spare base) {
  land = record (drafted structure log gives spare base).land { owner = λ c. owners c i };
}
  where
    step : (s t u : Bool) (n : ℕ) → (if (s || u) || t then 0 else n) ≡ (if u then 0 else (if s || t then 0 else n))
    step true t true n = refl
    step true t false n = refl
    step false t true n = refl
    step false t false n = refl

    owners : (c : ℕ) → (if is_among (gives ++ b ∷ []) c || is_among spare c then 0 else base.land.owner c)
        ≡ put_word b 0 (λ d. if is_among gives d || is_among spare d then 0 else base.land.owner d) c
    owners c = ap (λ s. if s || is_among spare c then 0 else base.land.owner c) (is_among-last gives b c)
        ∙ step (is_among gives c) (is_among spare c) (c == b) (base.land.owner c)

-- ---- what stays true of its lists

pub pushed_writes : (t : Bool) (log later : List WordWrite) (x : WordWrite) → later ≡ (if t then log ++ x ∷ [] else log)
    → (a : ℕ) → IsAmong (addresses later) a → IsAmong (addresses log) a ⊎ (a ≡ x.address)
pushed_writes true log later x e a h = last_address log x a (subst (λ (xs : List WordWrite). IsAmong (addresses xs) a) e h)
  where
    last_address : (xs : List WordWrite) (y : WordWrite) (b : ℕ) → IsAmong (addresses (xs ++ y ∷ [])) b → IsAmong (addresses xs) b ⊎ (b ≡ y.address)
    last_address [] y b (inl f) = inr f
    last_address [] y b (inr k) = absurd k
    last_address (z ∷ xs) y b (inl f) = inl (inl f)
    last_address (z ∷ xs) y b (inr k) = ⊎_elim (λ m. inl (inr m)) (λ f. inr f) (last_address xs y b k)
pushed_writes false log later x e a h = inl (subst (λ (xs : List WordWrite). IsAmong (addresses xs) a) e h)

pub popped_among : (r : Option ℕ) (spare later : List ℕ) → spare ≡ later ++ option_to_list r → (b : ℕ) → IsAmong later b → IsAmong spare b
popped_among None spare later e b h = subst (λ (xs : List ℕ). IsAmong xs b) (sym (e ∙ append-nil later)) h
popped_among (Some x) spare later e b h = subst (λ (xs : List ℕ). IsAmong xs b) (sym e) (among_front later x b h)

pub popped_once : (r : Option ℕ) (spare later : List ℕ) → spare ≡ later ++ option_to_list r → HasNoRepeats spare → HasNoRepeats later
popped_once None spare later e once = subst (λ (xs : List ℕ). HasNoRepeats xs) (e ∙ append-nil later) once
popped_once (Some x) spare later e once = (once_front later x (subst (λ (xs : List ℕ). HasNoRepeats xs) e once)).0

pub pushed_list : {E : Type 0} (r : Result (Unit {0}) E) (gives later : List ℕ) (b : ℕ) → OnOk r (later ≡ gives ++ b ∷ []) → OnErr r (later ≡ gives)
    → (later ≡ gives ++ b ∷ []) ⊎ (later ≡ gives)
pushed_list (Ok u) gives later b ok err = inl ok
pushed_list (Err e) gives later b ok err = inr err

pub given_among : (gives later : List ℕ) (b : ℕ) → (later ≡ gives ++ b ∷ []) ⊎ (later ≡ gives) → (c : ℕ) → IsAmong later c → IsAmong gives c ⊎ (c ≡ b)
given_among gives later b (inl e) c h = among_last gives b c (subst (λ (xs : List ℕ). IsAmong xs c) e h)
given_among gives later b (inr e) c h = inl (subst (λ (xs : List ℕ). IsAmong xs c) e h)

pub given_once : (gives later : List ℕ) (b : ℕ) → (later ≡ gives ++ b ∷ []) ⊎ (later ≡ gives) → HasNoRepeats gives → (IsAmong gives b → ⊥) → HasNoRepeats later
given_once gives later b (inl e) once absent = subst (λ (xs : List ℕ). HasNoRepeats xs) (sym e) (once_more gives b once absent)
given_once gives later b (inr e) once absent = subst (λ (xs : List ℕ). HasNoRepeats xs) (sym e) once

-- a block of the draft is neither given nor spare
pub not_given : (base : Space) (structure : ℕ) (log : List WordWrite) (gives spare : List ℕ) (b : ℕ)
    → IsOwn (drafted structure log gives spare base).land b → IsAmong gives b → ⊥
not_given base structure log gives spare b own h =
    let off = (owner_of (is_among gives b) (is_among spare b) (base.land.owner b) structure own.1).0 in
    let on = of_among gives b h in
    true_not_false (sym on ∙ off)
  where
    true_not_false : true ≡ false → ⊥
    true_not_false e = cc

pub not_spare : (base : Space) (structure : ℕ) (log : List WordWrite) (gives spare : List ℕ) (b : ℕ)
    → IsOwn (drafted structure log gives spare base).land b → IsAmong spare b → ⊥
not_spare base structure log gives spare b own h =
    let off = (owner_of (is_among gives b) (is_among spare b) (base.land.owner b) structure own.1).1 in
    let on = of_among spare b h in
    true_not_false (sym on ∙ off)
  where
    true_not_false : true ≡ false → ⊥
    true_not_false e = cc

-- ---- what is handed back

pub change_is : (base : Space) (structure : ℕ) (log writes : List WordWrite) (gives spare : List ℕ)
    → ((b : ℕ) → IsAmong gives b → IsOwnAt (of_structure structure base.land) b)
    → ((b : ℕ) → IsAmong gives b → b ≢ root_block (of_structure structure base.land)) → ((b : ℕ) → IsAmong gives b → IsAmong spare b → ⊥) → HasNoRepeats gives
    → ((a : ℕ) → IsAmong (addresses log) a → IsDataAt (of_structure structure base.land) a) → writes ≡ last_writes log
    → IsChange (drafted structure log gives spare base) writes gives
change_is base structure log writes gives spare own not_root apart once within is = record {
  once = subst (λ (xs : List WordWrite). HasNoRepeats (addresses xs)) (sym is) (last_writes-once log);
  words = ap (λ (xs : List WordWrite). after_writes xs base.word) is ∙ last_writes-writes log base.word;
  fewer = (let e = last_writes-length log in subst (λ (xs : List WordWrite). length xs ≤ length log) (sym is) e);
  within = λ a h. started_word a (within a (last_writes-among log a (subst (λ (xs : List WordWrite). IsAmong (addresses xs) a) is h)));
  given_once = once;
  given = λ b h. (started b (own b h), apart b h);
  not_root = not_root;
  owners = refl;
}
  where
    started : (b : ℕ) → IsOwnAt (of_structure structure base.land) b → IsOwn (at_start (drafted structure log gives spare base).land) b
    started b at = (
      record { number = (b - base.land.heap) / 16; place = at.place; positive = at.positive; fits = at.fits },
      at.owned,
    )

    started_word : (a : ℕ) → IsDataAt (of_structure structure base.land) a → IsDataWordOf (at_start (drafted structure log gives spare base).land) a
    started_word a word = record {
      block = block_before base.land a;
      index = a - block_before base.land a;
      own = started (block_before base.land a) word.own;
      place = (let above = word.above in omega (arith, above));
      above = (let above = word.above in omega (arith, above));
      below = (let above = word.above in let below = word.below in omega (arith, above, below));
    }
