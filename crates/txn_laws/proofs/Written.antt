-- Values behind writes.
use Rattle.std.proofs.Common.{◌≡◌, ◌≢◌, ◌⊎◌, inl, inr, ℕ, ◌==◌, Bool, true, false, if◌then◌else◌, List, [], ◌∷◌, ◌++◌, map, refl, sym, ap, ◌∙◌}
use Rattle.std.proofs.lemmas.Bool.Decides.{eqb_tells}
use Rattle.persist_model.specs.Progress.{Write, latest}
use Rattle.persist_model.specs.Records.{IsAmong}
use Rattle.txn_laws.specs.Txns.{Gift, zero_of}

pub latest-append : (xs ys : List Write) (a u : ℕ) → latest (xs ++ ys) a u ≡ latest ys a (latest xs a u)
latest-append [] ys a u = refl
latest-append (x ∷ xs) ys a u = latest-append xs ys a (if x.address == a then x.value else u)

-- writes of other words leave a
pub latest_elsewhere : (xs : List Write) (a u : ℕ) → ((x : Write) → IsAmong xs x → x.address ≢ a) → latest xs a u ≡ u
latest_elsewhere [] a u off = refl
latest_elsewhere (x ∷ xs) a u off = elim (eqb_tells x.address a) [
  | inl e ↦ absurd (off x (inl refl) e.1)
  | inr ne ↦ (rw ne.0 (latest_elsewhere xs a u (λ y m. off y (inr m))))
]

pub among_zeros : (gifts : List Gift) (w : Write) → IsAmong (map zero_of gifts) w → (g : Gift) × IsAmong gifts g × (w ≡ zero_of g)
among_zeros [] w m = absurd m
among_zeros (g ∷ gifts) w (inl e) = (g, inl refl, e)
among_zeros (g ∷ gifts) w (inr m) = let h = among_zeros gifts w m in (h.0, inr h.1, h.2)

-- the zeros of words that stay 0
pub zeros_keep : (gifts : List Gift) (a : ℕ) → latest (map zero_of gifts) a 0 ≡ 0
zeros_keep [] a = refl
zeros_keep (g ∷ gifts) a = by (g.word == a) (zeros_keep gifts a)
  where
    by : (b : Bool) → latest (map zero_of gifts) a 0 ≡ 0 → latest (map zero_of gifts) a (if b then 0 else 0) ≡ 0
    by true further = further
    by false further = further

-- an owner word that is given back becomes 0
pub zeros_make : (gifts : List Gift) (g : Gift) (a u : ℕ) → IsAmong gifts g → g.word ≡ a → latest (map zero_of gifts) a u ≡ 0
zeros_make [] g a u m e = absurd m
zeros_make (f ∷ gifts) g a u (inl same) e = by (f.word == a) (eqb_tells f.word a)
  where
    by : (b : Bool) → ((b ≡ true) × (f.word ≡ a)) ⊎ ((b ≡ false) × (f.word ≢ a)) → latest (map zero_of gifts) a (if b then 0 else u) ≡ 0
    by true told = zeros_keep gifts a
    by false (inl is) = cc
    by false (inr ne) = absurd (ne.1 (sym (ap (λ (x : Gift). x.word) same) ∙ e))
zeros_make (f ∷ gifts) g a u (inr m) e = zeros_make gifts g a (if f.word == a then 0 else u) m e
