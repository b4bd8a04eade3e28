-- How far a checkpoint's append and its groups have come in an image, over all words of the log.
use Rattle.std.proofs.Common.{◌≡◌, ◌⊎◌, inl, inr, ℕ, zero, suc, ◌<◌, ◌≤◌, Bool, true, false, List, [], ◌∷◌, ◌++◌, length, take, refl, sym, ap, ◌∙◌, subst, arith, append-nil}
use Rattle.std.proofs.lemmas.Bool.{cases_lt}
use Rattle.std.proofs.lemmas.Bool.Decides.{eqb_tells}
use Rattle.persist_model.specs.declared.event.Event.TheVariants.{PStore, Fence}
use Rattle.persist_model.specs.Region.{Words}
use Rattle.persist_model.specs.Progress.{Write, write, Wrote, start, advance_all}
use Rattle.persist_model.specs.Runs.{progress_at}
use Rattle.persist_model.specs.Records.{IsAmong}
use Rattle.persist_model.specs.Shape.{Shape, heap}
use Rattle.region_layout.specs.Layout.{IsAllowed}
use Rattle.bucket_log.specs.Words.{IsPartWord}
use Rattle.bucket_log.specs.PartWords.{is_part_word}
use Rattle.bucket_log.proofs.PartWords.{part_words_are_told}
use Rattle.log_clearing.specs.Plans.{closes, group, closing_plan}
use Rattle.history_laws.proofs.PartWords.{some_part}
use Rattle.redo_laws.specs.Checkpoints.{Kind, of_others, of_ends, of_checkpoints, other_gates, end_gates, checkpoint_gates, in_a_row}

-- ---- whose a word of the log is

search : (shape : Shape) (a n : ℕ) → ((p : ℕ) × (p < n) × IsPartWord shape p a) ⊎ ((p : ℕ) → p < n → IsPartWord shape p a → ⊥)
search shape a zero = inr (λ p lt. absurd (omega (arith, lt)))
search shape a (suc n) = by (is_part_word shape n a) refl (search shape a n)
  where
    by : (t : Bool) → is_part_word shape n a ≡ t → ((p : ℕ) × (p < n) × IsPartWord shape p a) ⊎ ((p : ℕ) → p < n → IsPartWord shape p a → ⊥) →
        ((p : ℕ) × (p < suc n) × IsPartWord shape p a) ⊎ ((p : ℕ) → p < suc n → IsPartWord shape p a → ⊥)
    by true is before = inl (n, omega arith, (part_words_are_told shape n a).0 is)
    by false is (inl k) = let lt = k.1 in inl (k.0, omega (arith, lt), k.2)
    by false is (inr none) = inr (λ p lt m. elim (eqb_tells p n) [
      | inl e ↦ (let on = (part_words_are_told shape n a).1 (subst (λ q. IsPartWord shape q a) e.1 m) in let f = sym is ∙ on in cc)
      | inr ne ↦ (let other = ne.1 in none p (omega (arith, lt, other)) m)
    ])

-- a word of the log is some partition's, or one of the header that none has
pub part_or_header : (shape : Shape) (a : ℕ) → IsAllowed shape → a < heap shape →
    ((p : ℕ) × (p < shape.partitions) × IsPartWord shape p a) ⊎ ((a < 32) × ((p : ℕ) → p < shape.partitions → IsPartWord shape p a → ⊥))
part_or_header shape a ok lt = elim (search shape a shape.partitions) [
  | inl k ↦ inl k
  | inr none ↦ elim (cases_lt a 32) [ inl low ↦ inr (low, none) | inr high ↦ inl (some_part shape a ok high lt) ]
]

-- ---- a group

-- two of a closing's lists are empty
pub kind_plan : (kind : Kind) (gates : List ℕ) → closing_plan (other_gates kind gates) (end_gates kind gates) (checkpoint_gates kind gates) ≡ group gates
kind_plan of_others gates = append-nil (group gates)
kind_plan of_ends gates = append-nil (group gates)
kind_plan of_checkpoints gates = refl

abbrev pub zeros : List ℕ → List Write
zeros [] = []
zeros (a ∷ gates) = write a 0 ∷ zeros gates

append_one : (s : List Write) (x : Write) (t : List Write) → (s ++ x ∷ []) ++ t ≡ s ++ x ∷ t
append_one [] x t = refl
append_one (y ∷ s) x t = ap (λ z. y ∷ z) (append_one s x t)

pending_closes : (w : Words) (s : List Write) (gates : List ℕ) →
    advance_all (record { durable = w; pending = s }) (closes gates) ≡ record { durable = w; pending = s ++ zeros gates }
pending_closes w s [] = ap (λ (z : List Write). record { durable = w; pending = z }) (sym (append-nil s))
pending_closes w s (a ∷ gates) = pending_closes w (s ++ write a 0 ∷ []) gates ∙ ap (λ (z : List Write). record { durable = w; pending = z }) (append_one s (write a 0) (zeros gates))

take_closes : (k : ℕ) (gates : List ℕ) → k ≤ length gates → take k (closes gates ++ Fence ∷ []) ≡ closes (take k gates)
take_closes zero gates le = refl
take_closes (suc k) [] le = absurd (omega (arith, le))
take_closes (suc k) (a ∷ gates) le = ap (λ z. PStore a 0 ∷ z) (take_closes k gates (omega (arith, le)))

pub take_group : (k : ℕ) (gates : List ℕ) → k ≤ length gates → take k (group gates) ≡ closes (take k gates)
take_group zero gates le = refl
take_group (suc k) [] le = absurd (omega (arith, le))
take_group (suc k) (a ∷ gates) le = ap (λ z. PStore a 0 ∷ z) (take_closes k gates (omega (arith, le)))

-- before its fence a group's zeros are pending
pub group_at : (w : Words) (gates : List ℕ) (k : ℕ) → k ≤ length gates → progress_at w (group gates) k ≡ record { durable = w; pending = zeros (take k gates) }
group_at w gates k le = ap (advance_all (start w)) (take_group k gates le) ∙ pending_closes w [] (take k gates)

pub zeros_among : (gates : List ℕ) (a v : ℕ) → Wrote (zeros gates) a v → IsAmong gates a × (v ≡ 0)
zeros_among [] a v k = absurd k
zeros_among (b ∷ gates) a v (inl e) = (inl (sym e.0), e.1)
zeros_among (b ∷ gates) a v (inr k) = let h = zeros_among gates a v k in (inr h.0, h.1)

pub zeros_there : (gates : List ℕ) (a : ℕ) → IsAmong gates a → Wrote (zeros gates) a 0
zeros_there [] a m = absurd m
zeros_there (b ∷ gates) a (inl e) = inl (sym e, refl)
zeros_there (b ∷ gates) a (inr m) = inr (zeros_there gates a m)

pub among_left : {A : Type 0} (xs ys : List A) (x : A) → IsAmong xs x → IsAmong (xs ++ ys) x
among_left [] ys x m = absurd m
among_left (y ∷ xs) ys x (inl e) = inl e
among_left (y ∷ xs) ys x (inr m) = inr (among_left xs ys x m)

pub among_right : {A : Type 0} (xs ys : List A) (x : A) → IsAmong ys x → IsAmong (xs ++ ys) x
among_right [] ys x m = m
among_right (y ∷ xs) ys x m = inr (among_right xs ys x m)

pub in_row : (f : ℕ → List ℕ) (n p a : ℕ) → p < n → IsAmong (f p) a → IsAmong (in_a_row f n) a
in_row f zero p a lt m = absurd (omega (arith, lt))
in_row f (suc n) p a lt m = elim (eqb_tells p n) [
  | inl e ↦ among_right (in_a_row f n) (f n) a (subst (λ q. IsAmong (f q) a) e.1 m)
  | inr ne ↦ (let other = ne.1 in among_left (in_a_row f n) (f n) a (in_row f n p a (omega (arith, lt, other)) m))
]

either : {A : Type 0} (xs ys : List A) (x : A) → IsAmong (xs ++ ys) x → IsAmong xs x ⊎ IsAmong ys x
either [] ys x k = inr k
either (y ∷ xs) ys x (inl e) = inl (inl e)
either (y ∷ xs) ys x (inr k) = elim (either xs ys x k) [ inl j ↦ inl (inr j) | inr j ↦ inr j ]

pub from_row : (f : ℕ → List ℕ) (n a : ℕ) → IsAmong (in_a_row f n) a → (p : ℕ) × (p < n) × IsAmong (f p) a
from_row f zero a m = absurd m
from_row f (suc n) a m = elim (either (in_a_row f n) (f n) a m) [
  | inl k ↦ (let h = from_row f n a k in let lt = h.1 in (h.0, omega (arith, lt), h.2))
  | inr k ↦ (n, omega arith, k)
]
