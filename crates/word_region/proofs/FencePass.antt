-- What a fence does to the stores, one after the other.
use Rattle.std.proofs.Common.{◌≡◌, ◌≢◌, ⊎_elim, ℕ, zero, suc, ◌+◌, ◌-◌, ◌<◌, ◌≤◌, Bool, true, false, not, List, [], ◌∷◌, ◌++◌, length, map, refl, sym, ◌∙◌, ap, subst, arith, if◌then◌else◌, ◌==◌, get_or, set, take, drop}
use Rattle.std.specs.List.{list_any, filter}
use Rattle.std.proofs.lemmas.Bool.{eqb-true, cases_lt}
use Rattle.std.proofs.Math.Bool.{or-true}
use Rattle.std.proofs.lemmas.List.{get_or-set_same, get_or-set_other, get_or_past, drop-set-lt, take_more_set, drop_more, drop_all, drop-drop, append_assoc, append-nil}
use Rattle.std.proofs.lemmas.List.Folds.{list_any-append}
use Rattle.std.proofs.lemmas.Bool.Decides.{eqb_tells}
use Rattle.persist_model.specs.declared.event.Candidate.{Candidate}
use Rattle.persist_model.specs.Region.{has_mark, candidate, unmarked, from_last, fenced}
use Rattle.persist_model.proofs.Candidates.{fenced_none}
use Rattle.word_region.specs.declared.places.Stored.{Stored}
use Rattle.word_region.specs.Places.{is_to, is_elsewhere, bears, is_marked, later_of, left_of, word_of, AreUnmarked}
use Rattle.word_region.proofs.Later.{later_of-append, later_of_here, later_of_there, unmarked_later}

-- ---- the stores to other words

later_of_elsewhere : (a : ℕ) (ss : List Stored) → later_of a (filter (is_elsewhere a) ss) ≡ []
later_of_elsewhere a [] = refl
later_of_elsewhere a (s ∷ ss) =
    let rest = later_of_elsewhere a ss in
    (elim (is_to a s) as (λ t. is_to a s ≡ t → later_of a (if not t then s ∷ filter (is_elsewhere a) ss else filter (is_elsewhere a) ss) ≡ []) [
      | true ↦ (λ e. rest)
      | false ↦ (λ e. rw e rest)
    ]) refl

later_of_kept : (a b : ℕ) (ss : List Stored) → b ≢ a → later_of b (filter (is_elsewhere a) ss) ≡ later_of b ss
later_of_kept a b [] apart = refl
later_of_kept a b (s ∷ ss) apart =
    let rest = later_of_kept a b ss apart in
    let kept = filter (is_elsewhere a) ss in
    (elim (is_to a s) as (λ t. is_to a s ≡ t → later_of b (if not t then s ∷ kept else kept) ≡ later_of b (s ∷ ss)) [
      | true ↦ (λ e. rest ∙ sym (later_of_there s b ss (λ q. apart (q ∙ eqb-true _ _ e))))
      | false ↦ (λ e. elim (is_to b s) as (λ u. (if u then s.candidate ∷ later_of b kept else later_of b kept) ≡ (if u then s.candidate ∷ later_of b ss else later_of b ss)) [
        | true ↦ ap (λ r. s.candidate ∷ r) rest
        | false ↦ rest
      ])
    ]) refl

pub none_filter : {X : Type 0} (p q : X → Bool) (xs : List X) → list_any p xs ≡ false → list_any p (filter q xs) ≡ false
none_filter p q [] none = refl
none_filter p q (x ∷ xs) none =
    let here : p x ≡ false = grind arith in
    let rest : list_any p (filter q xs) ≡ false = none_filter p q xs (grind arith) in
    elim (q x) as (λ t. list_any p (if t then x ∷ filter q xs else filter q xs) ≡ false) [
      | true ↦ rw (here, rest) refl
      | false ↦ rest
    ]

-- ---- a marked store

any_past : {X : Type 0} (p : X → Bool) (xs : List X) (x : X) (ys : List X) → p x ≡ true → list_any p (xs ++ x ∷ ys) ≡ true
any_past p [] x ys e = rw e refl
any_past p (w ∷ xs) x ys e = rw (any_past p xs x ys e) (or-true (p w))

-- what stands before a marked one is dropped
from_last_past : {X : Type 0} (p : X → Bool) (xs : List X) (x : X) (ys : List X) → p x ≡ true → from_last p (xs ++ x ∷ ys) ≡ from_last p (x ∷ ys)
from_last_past p [] x ys e = refl
from_last_past p (w ∷ xs) x ys e = rw (any_past p xs x ys e) (from_last_past p xs x ys e)

unmarked_zero : (mark value : ℕ) → unmarked mark (candidate value 0) ≡ candidate value 0
unmarked_zero mark value = elim (has_mark mark (candidate value 0)) as (λ t. (if t then candidate value 0 else candidate value 0) ≡ candidate value 0) [
  | true ↦ refl
  | false ↦ refl
]

pub unmarked_own : (mark : ℕ) (c : Candidate) → has_mark mark c ≡ true → unmarked mark c ≡ candidate c.value 0
unmarked_own mark c e = rw e refl

-- a fence leaves the same of a first candidate whether its mark was taken away before or not
settled_first : (mark : ℕ) (c : Candidate) (cs : List Candidate) → has_mark mark c ≡ true → fenced mark (candidate c.value 0 ∷ cs) ≡ fenced mark (c ∷ cs)
settled_first mark c cs e =
    let last = from_last (has_mark mark) cs in
    elim (list_any (has_mark mark) cs) as (λ t. map (unmarked mark) (if t then last else candidate c.value 0 ∷ cs) ≡ map (unmarked mark) (if t then last else c ∷ cs)) [
      | true ↦ refl
      | false ↦ ap (λ (d : Candidate). d ∷ map (unmarked mark) cs) (unmarked_zero mark c.value ∙ sym (unmarked_own mark c e))
    ]

module _ (mark : ℕ) (settled : List Candidate) (kept rest : List Stored) (s : Stored) where
  abbrev pub settled_then : List Candidate
  settled_then = set settled s.address (candidate s.candidate.value 0)

  abbrev pub stores_then : List Stored
  stores_then = filter (is_elsewhere s.address) kept ++ rest

  own : s.address < length settled → has_mark mark s.candidate ≡ true → fenced mark (word_of settled_then stores_then s.address) ≡ fenced mark (word_of settled (kept ++ s ∷ rest) s.address)
  own below e =
      let a = s.address in
      let first : get_or settled_then a (candidate 0 0) ≡ candidate s.candidate.value 0 = get_or-set_same settled a (candidate s.candidate.value 0) (candidate 0 0) below in
      let left : later_of a stores_then ≡ later_of a rest = later_of-append a (filter (is_elsewhere a) kept) rest ∙ ap (λ (cs : List Candidate). cs ++ later_of a rest) (later_of_elsewhere a kept) in
      let before : later_of a (kept ++ s ∷ rest) ≡ later_of a kept ++ s.candidate ∷ later_of a rest = later_of-append a kept (s ∷ rest) ∙ ap (λ (cs : List Candidate). later_of a kept ++ cs) (later_of_here s a rest refl) in
      let oldest = get_or settled a (candidate 0 0) in
      ap (λ (c : Candidate). fenced mark (c ∷ later_of a stores_then)) first
      ∙ ap (λ (cs : List Candidate). fenced mark (candidate s.candidate.value 0 ∷ cs)) left
      ∙ settled_first mark s.candidate (later_of a rest) e
      ∙ sym (ap (map (unmarked mark)) (from_last_past (has_mark mark) (oldest ∷ later_of a kept) s.candidate (later_of a rest) e))
      ∙ sym (ap (λ (cs : List Candidate). fenced mark (oldest ∷ cs)) before)

  other : (b : ℕ) → b ≢ s.address → word_of settled_then stores_then b ≡ word_of settled (kept ++ s ∷ rest) b
  other b apart =
      let first : get_or settled_then b (candidate 0 0) ≡ get_or settled b (candidate 0 0) = get_or-set_other settled s.address b (candidate s.candidate.value 0) (candidate 0 0) apart in
      let left : later_of b stores_then ≡ later_of b kept ++ later_of b rest = later_of-append b (filter (is_elsewhere s.address) kept) rest ∙ ap (λ (cs : List Candidate). cs ++ later_of b rest) (later_of_kept s.address b kept apart) in
      let before : later_of b (kept ++ s ∷ rest) ≡ later_of b kept ++ later_of b rest = later_of-append b kept (s ∷ rest) ∙ ap (λ (cs : List Candidate). later_of b kept ++ cs) (later_of_there s b rest apart) in
      ap (λ (c : Candidate). c ∷ later_of b stores_then) first ∙ ap (λ (cs : List Candidate). get_or settled b (candidate 0 0) ∷ cs) (left ∙ sym before)

  -- a marked store settles its word
  pub passed_marked : s.address < length settled → has_mark mark s.candidate ≡ true → (b : ℕ) → fenced mark (word_of settled_then stores_then b) ≡ fenced mark (word_of settled (kept ++ s ∷ rest) b)
  passed_marked below e b = ⊎_elim
      (λ same. let is : b ≡ s.address = same.1 in subst (λ (k : ℕ). fenced mark (word_of settled_then stores_then k) ≡ fenced mark (word_of settled (kept ++ s ∷ rest) k)) (sym is) (own below e))
      (λ apart. ap (fenced mark) (other b apart.1))
      (eqb_tells b s.address)

-- what is the same from a place on is the same from a later place on
drop_later : (ss ts : List Stored) (n m : ℕ) → n ≤ m → drop n ss ≡ drop n ts → drop m ss ≡ drop m ts
drop_later ss ts n m order same =
    let sum : m ≡ n + (m - n) = omega arith in
    ap (λ k. drop k ss) sum ∙ sym (drop-drop (m - n) n ss) ∙ ap (drop (m - n)) same ∙ drop-drop (m - n) n ts ∙ ap (λ k. drop k ts) (sym sum)

pub marked_step : (mark : ℕ) (settled : List Candidate) (ss later : List Stored) (kept at left : ℕ) (s : Stored) → kept ≤ at → at < length ss → s ≡ get_or ss at s
    → s.address < length settled → has_mark mark s.candidate ≡ true → take left later ≡ filter (is_elsewhere s.address) (take kept ss) → drop kept later ≡ drop kept ss
    → (b : ℕ) → fenced mark (word_of (set settled s.address (candidate s.candidate.value 0)) (left_of later left (at + 1)) b) ≡ fenced mark (word_of settled (left_of ss kept at) b)
marked_step mark settled ss later kept at left s order within is below e front rest b =
    let then' = set settled s.address (candidate s.candidate.value 0) in
    let back : drop (at + 1) later ≡ drop (at + 1) ss = drop_later later ss kept (at + 1) (omega arith) rest in
    let split : drop at ss ≡ s ∷ drop (at + 1) ss = drop_more ss at s within ∙ ap (λ (t : Stored). t ∷ drop (at + 1) ss) (sym is) in
    ap (λ (ts : List Stored). fenced mark (word_of then' (ts ++ drop (at + 1) later) b)) front
    ∙ ap (λ (ts : List Stored). fenced mark (word_of then' (filter (is_elsewhere s.address) (take kept ss) ++ ts) b)) back
    ∙ passed_marked mark settled (take kept ss) (drop (at + 1) ss) s below e b
    ∙ ap (λ (ts : List Stored). fenced mark (word_of settled (take kept ss ++ ts) b)) (sym split)

-- ---- another store

-- it is put behind those that stay
pub kept_behind : (ss : List Stored) (kept at : ℕ) (s : Stored) → kept ≤ at → at < length ss → s ≡ get_or ss at s → left_of (set ss kept s) (kept + 1) (at + 1) ≡ left_of ss kept at
kept_behind ss kept at s order within is =
    let front : take (kept + 1) (set ss kept s) ≡ take kept ss ++ s ∷ [] = take_more_set ss kept s (omega arith) in
    let back : drop (at + 1) (set ss kept s) ≡ drop (at + 1) ss = drop-set-lt (at + 1) ss kept s (omega arith) in
    let split : drop at ss ≡ s ∷ drop (at + 1) ss = drop_more ss at s within ∙ ap (λ (t : Stored). t ∷ drop (at + 1) ss) (sym is) in
    ap (λ (ts : List Stored). ts ++ drop (at + 1) (set ss kept s)) front ∙ ap (λ (ts : List Stored). (take kept ss ++ s ∷ []) ++ ts) back
    ∙ append_assoc (take kept ss) (s ∷ []) (drop (at + 1) ss) ∙ ap (λ (ts : List Stored). take kept ss ++ ts) (sym split)

pub quiet_behind : (mark : ℕ) (ss : List Stored) (kept : ℕ) (s : Stored) → kept < length ss → bears mark s ≡ false → list_any (bears mark) (take kept ss) ≡ false
    → list_any (bears mark) (take (kept + 1) (set ss kept s)) ≡ false
quiet_behind mark ss kept s within here none =
    ap (list_any (bears mark)) (take_more_set ss kept s within) ∙ list_any-append (bears mark) (take kept ss) (s ∷ []) ∙ rw (none, here) refl

-- ---- the end

first_mark : (settled : List Candidate) (b : ℕ) → AreUnmarked settled → (get_or settled b (candidate 0 0)).mark ≡ 0
first_mark settled b none = ⊎_elim (λ below. none b (candidate 0 0) below) (λ past. ap (λ (c : Candidate). c.mark) (get_or_past settled b (candidate 0 0) past)) (cases_lt b (length settled))

no_mark : (mark n : ℕ) → 0 < mark → n ≡ 0 → (n == mark) ≡ false
no_mark mark n some none = grind arith

-- where no oldest candidate and no store has the mark the fence does nothing
pub fenced_quiet : (mark : ℕ) (settled : List Candidate) (ss : List Stored) → 0 < mark → AreUnmarked settled → list_any (bears mark) ss ≡ false
    → (b : ℕ) → word_of settled ss b ≡ fenced mark (word_of settled ss b)
fenced_quiet mark settled ss some none quiet b =
    let first : has_mark mark (get_or settled b (candidate 0 0)) ≡ false = no_mark mark _ some (first_mark settled b none) in
    let later : list_any (has_mark mark) (later_of b ss) ≡ false = unmarked_later mark ss b quiet in
    sym (fenced_none mark (word_of settled ss b) (rw (first, later) refl))

-- ---- no oldest candidate bears a mark

unmarked_at : (cs : List Candidate) → list_any is_marked cs ≡ false → (k : ℕ) (d : Candidate) → k < length cs → (get_or cs k d).mark ≡ 0
unmarked_at [] none k d below = absurd (omega arith)
unmarked_at (c ∷ cs) none zero d below = grind arith
unmarked_at (c ∷ cs) none (suc k) d below = unmarked_at cs (grind arith) k d (omega arith)

pub unmarked_from : (cs : List Candidate) → list_any is_marked cs ≡ false → AreUnmarked cs
unmarked_from cs none = unmarked_at cs none

picked_unmarked : (c : Candidate) (value : ℕ) → c ≡ candidate value 0 → c.mark ≡ 0
picked_unmarked c value e = ap (λ (d : Candidate). d.mark) e

pub left_at_end : (ss : List Stored) (kept at : ℕ) → length ss ≤ at → left_of ss kept at ≡ take kept ss
left_at_end ss kept at past = ap (λ (ts : List Stored). take kept ss ++ ts) (drop_all at ss past) ∙ append-nil (take kept ss)
