-- What the events of a run do to the words of a map of cells.
use Rattle.std.proofs.Common.{◌≡◌, ◌≢◌, ℕ, ◌+◌, ◌-◌, ◌<◌, ◌≤◌, List, [], ◌∷◌, ◌++◌, length, map, refl, sym, ◌∙◌, ap, subst, Some, arith, get_or, drop, take, ⊎_elim, if◌then◌else◌, ◌==◌, Bool, true, false, nat_lt, ◌||◌}
use Rattle.std.specs.List.{list_any}
use Rattle.std.specs.Option.{unwrap_or}
use Rattle.std.proofs.lemmas.Bool.{le-ltb, eq-eqb, cases_lt, lt-ltb}
use Rattle.std.proofs.lemmas.Bool.Decides.{eqb_tells}
use Rattle.persist_model.specs.declared.event.Candidate.{Candidate}
use Rattle.persist_model.specs.declared.event.Event.TheVariants.{PStore, Fence}
use Rattle.persist_model.specs.Region.{Region, candidate, has_mark, unmarked, from_last, fenced, after}
use Rattle.rewind.specs.declared.script.Put.{Put}
use Rattle.rewind.specs.History.{Contents, put_in}
use Rattle.std.proofs.lemmas.List.{take_all}
use Rattle.std.proofs.lemmas.List.Sums.{sum_by-take-drop, sum_by-drop_more}
use Rattle.rewind.specs.Events.{StopsAfter, event_count, store_count, data_word, IsAtRest, IsUnderWay, EndsAt, rests, stored}

-- ---- the fence

or-true : (b : Bool) → (b || true) ≡ true
or-true true = refl
or-true false = refl

any_last : (v : ℕ) (front : List Candidate) → list_any (has_mark 1) (front ++ candidate v 1 ∷ []) ≡ true
any_last v [] = refl
any_last v (c ∷ front) = ap (λ b. has_mark 1 c || b) (any_last v front) ∙ or-true (has_mark 1 c)

from_last-push : (v : ℕ) (front : List Candidate) → from_last (has_mark 1) (front ++ candidate v 1 ∷ []) ≡ candidate v 1 ∷ []
from_last-push v [] = refl
from_last-push v (c ∷ front) =
    ap (λ b. if b then from_last (has_mark 1) (front ++ candidate v 1 ∷ []) else c ∷ front ++ candidate v 1 ∷ []) (any_last v front)
    ∙ from_last-push v front

fenced_end : (v : ℕ) (cs : List Candidate) → EndsAt v cs → fenced 1 cs ≡ candidate v 0 ∷ []
fenced_end v _ rests = refl
fenced_end v _ (stored front) = ap (map (unmarked 1)) (from_last-push v front)

pub fence_step : (root : ℕ) (m : Contents) (region : Region) → IsUnderWay root m region → IsAtRest root m (after region 0 Fence)
fence_step root m region way = λ i above below. fenced_end (data_word m i) (region.at (root + i)) (way i above below)

pub rest_step : (root : ℕ) (m : Contents) (region : Region) → IsAtRest root m region → IsUnderWay root m region
rest_step root m region rest = λ i above below. subst (EndsAt (data_word m i)) (sym (rest i above below)) rests

-- ---- a put

word_put : (m : Contents) (p : Put) (i : ℕ) → i ≡ 4 + p.key → data_word (put_in m p) i ≡ p.value
word_put m p i here =
    ap (λ b. if b then 0 else unwrap_or (put_in m p (i - 4)) 0) (le-ltb i 4 (omega arith))
    ∙ ap (λ b. unwrap_or (if b then Some p.value else m (i - 4)) 0) (eq-eqb (i - 4) p.key (omega arith))

word_kept : (m : Contents) (p : Put) (i : ℕ) → i ≢ 4 + p.key → data_word (put_in m p) i ≡ data_word m i
word_kept m p i other = ⊎_elim
    (λ (low : i < 4). ap (λ b. if b then 0 else unwrap_or (put_in m p (i - 4)) 0) (lt-ltb i 4 low) ∙ sym (ap (λ b. if b then 0 else unwrap_or (m (i - 4)) 0) (lt-ltb i 4 low)))
    (λ (high : 4 ≤ i). ap (λ b. if nat_lt i 4 then 0 else unwrap_or (if b then Some p.value else m (i - 4)) 0) (not_key high))
    (cases_lt i 4)
  where
    not_key : 4 ≤ i → (i - 4 == p.key) ≡ false
    not_key high = ⊎_elim (λ same. absurd (other (omega (arith, same.1, high)))) (λ differs. differs.0) (eqb_tells (i - 4) p.key)

pub put_step : (root : ℕ) (m : Contents) (p : Put) (a : ℕ) (region : Region) → a ≡ root + 4 + p.key → IsUnderWay root m region
    → IsUnderWay root (put_in m p) (after region 0 (PStore a p.value))
put_step root m p a region here way = λ i above below. ⊎_elim
    (λ same. rw same.0
    (subst (λ (v : ℕ). EndsAt v (region.at (root + i) ++ candidate p.value 1 ∷ [])) (sym (word_put m p i (omega (arith, same.1)))) (stored (region.at (root + i)))))
    (λ other. rw other.0
    (subst (λ (v : ℕ). EndsAt v (region.at (root + i))) (sym (word_kept m p i (λ is_key. other.1 (omega (arith, is_key))))) (way i above below)))
    (eqb_tells (root + i) a)

-- ---- the transactions

pub events-more : (ts : List (List Put)) (i : ℕ) (d : List Put) → i < length ts → event_count (take (i + 1) ts) ≡ event_count (take i ts) + (length (get_or ts i d) + 1)
events-more ts i d within =
    let size : List Put → ℕ = λ t. length t + 1 in
    omega (arith, sum_by-take-drop size ts i, sum_by-take-drop size ts (i + 1), sum_by-drop_more size ts i d within)

pub stores-more : (ts : List (List Put)) (i : ℕ) (d : List Put) → i < length ts → store_count (take (i + 1) ts) ≡ store_count (take i ts) + length (get_or ts i d)
stores-more ts i d within =
    let size : List Put → ℕ = λ t. length t in
    omega (arith, sum_by-take-drop size ts i, sum_by-take-drop size ts (i + 1), sum_by-drop_more size ts i d within)

pub stores-left : (ts : List (List Put)) (i : ℕ) (d : List Put) → i < length ts → store_count (drop i ts) ≡ length (get_or ts i d) + store_count (drop (i + 1) ts)
stores-left ts i d within = sum_by-drop_more (λ t. length t) ts i d within

pub all_events : (ts : List (List Put)) (i : ℕ) → length ts ≤ i → event_count (take i ts) ≡ event_count ts
all_events ts i past = ap event_count (take_all i ts past)

pub all_stores : (ts : List (List Put)) (i : ℕ) → length ts ≤ i → store_count (take i ts) ≡ store_count ts
all_stores ts i past = ap store_count (take_all i ts past)

pub put_done : (root : ℕ) (n : Contents) (p : Put) (region next : Region) → next ≡ after region 0 (PStore (root + 4 + p.key) p.value)
    → IsUnderWay root n region → IsUnderWay root (put_in n p) next
put_done root n p region next made way = subst (λ (r : Region). IsUnderWay root (put_in n p) r) (sym made) (put_step root n p (root + 4 + p.key) region refl way)

pub fence_done : (root : ℕ) (n m : Contents) (region next : Region) → next ≡ after region 0 Fence → IsUnderWay root n region → n ≡ m → IsAtRest root m next
fence_done root n m region next made way all =
    subst (λ (r : Region). IsAtRest root m r) (sym made) (subst (λ (f : Contents). IsAtRest root f (after region 0 Fence)) all (fence_step root n region way))

-- the device stopped within the transaction with this number
pub stops_within : (ts : List (List Put)) (i k s : ℕ) (puts : List Put) → i < length ts → i ≡ k → get_or ts i puts ≡ puts → s ≤ length puts
    → StopsAfter ts (event_count (take i ts) + s) k
stops_within ts i k s puts within same item short =
    subst (λ (n : ℕ). StopsAfter ts (event_count (take i ts) + s) n) same (record {
      within = within;
      fenced = omega arith;
      open_one = omega (arith, events-more ts i puts within, ap length item);
    })
