-- Chains of words that agree, and that a chain is one.
use Rattle.std.proofs.Common.{◌≡◌, ◌≢◌, ℕ, ◌+◌, ◌*◌, ◌≤◌, false, ◌==◌, List, [], ◌∷◌, ◌++◌, refl, ap, sym, ◌∙◌, arith}
use Rattle.std.proofs.lemmas.Bool.Decides.{nat_tests}
use Rattle.persist_model.specs.Region.{Words}
use Rattle.persist_model.specs.Shape.{Shape, IsBucketOf}
use Rattle.persist_model.specs.Chain.{HEAD, next_of, prev_of, word_behind, Each, IsAbsent, HasNoRepeats, last_or, without, Links, LinksBack}

-- a bucket's address is 32 and a multiple of 8
pub bucket_shape : (shape : Shape) (part : ℕ) (b : ℕ) → IsBucketOf shape part b → (k : ℕ) × (b ≡ 32 + 8 * k)
bucket_shape shape part b h = (h.0 + h.0 * shape.cells, let e = h.3 in omega arith)

pub bucket_above : (shape : Shape) (part : ℕ) (b : ℕ) → IsBucketOf shape part b → 32 ≤ b
bucket_above shape part b h = let s = bucket_shape shape part b h in omega arith

-- a NEXT is no PREV
pub next_is_no_prev : (shape : Shape) (part : ℕ) (b c : ℕ) → IsBucketOf shape part b → IsBucketOf shape part c → next_of b ≢ prev_of c
next_is_no_prev shape part b c h k = let s = bucket_shape shape part b h in let t = bucket_shape shape part c k in omega arith

pub Each-weaker : (P Q : ℕ → Type 0) → ((x : ℕ) → P x → Q x) → (xs : List ℕ) → Each P xs → Each Q xs
Each-weaker P Q f [] h = tt
Each-weaker P Q f (x ∷ xs) h = (f x h.0, Each-weaker P Q f xs h.1)

pub Each-both : (P Q : ℕ → Type 0) (xs : List ℕ) → Each P xs → Each Q xs → Each (λ x. P x × Q x) xs
Each-both P Q [] h k = tt
Each-both P Q (x ∷ xs) h k = ((h.0, k.0), Each-both P Q xs h.1 k.1)

pub Each-append : (P : ℕ → Type 0) (xs ys : List ℕ) → Each P xs → Each P ys → Each P (xs ++ ys)
Each-append P [] ys h k = k
Each-append P (x ∷ xs) ys h k = (h.0, Each-append P xs ys h.1 k)

pub Each-push : (P : ℕ → Type 0) (xs : List ℕ) (y : ℕ) → Each P xs → P y → Each P (xs ++ y ∷ [])
Each-push P xs y h k = Each-append P xs (y ∷ []) h (k, tt)

pub last-push : (d : ℕ) (xs : List ℕ) (y : ℕ) → last_or d (xs ++ y ∷ []) ≡ y
last-push d [] y = refl
last-push d (x ∷ xs) y = last-push x xs y

pub Each-last : (P : ℕ → Type 0) (d : ℕ) (xs : List ℕ) → P d → Each P xs → P (last_or d xs)
Each-last P d [] p h = p
Each-last P d (x ∷ xs) p h = Each-last P x xs h.0 h.1

pub HasNoRepeats-push : (xs : List ℕ) (y : ℕ) → HasNoRepeats xs → IsAbsent y xs → HasNoRepeats (xs ++ y ∷ [])
HasNoRepeats-push [] y h k = (tt, tt)
HasNoRepeats-push (x ∷ xs) y h k =
    (Each-push (λ z. x ≢ z) xs y h.0 (λ e. k.0 (sym e)), HasNoRepeats-push xs y h.1 k.1)

pub without-absent : (b : ℕ) (xs : List ℕ) → IsAbsent b xs → without b xs ≡ xs
without-absent b [] h = refl
without-absent b (x ∷ xs) h =
    let off : (x == b) ≡ false = grind (arith, nat_tests, h.0) in
    rw off (ap (λ ys. x ∷ ys) (without-absent b xs h.1))

-- words that agree on the links have the same ones
pub Links-same : (P : ℕ → Type 0) (w v : Words) (from : ℕ) (xs : List ℕ) (to : ℕ) → v from ≡ w from →
    ((x : ℕ) → P x → v (next_of x) ≡ w (next_of x)) → Each P xs → Links w from xs to → Links v from xs to
Links-same P w v from [] to e same each h = e ∙ h
Links-same P w v from (x ∷ xs) to e same each h =
    (e ∙ h.0, h.1, Links-same P w v x xs to (same x each.0) same each.1 h.2)

-- words that agree on the links but the last have the same ones up to there
pub Links-end : (P : ℕ → Type 0) (w v : Words) (from : ℕ) (xs : List ℕ) (to new : ℕ) → IsAbsent from xs → HasNoRepeats xs →
    ((x : ℕ) → P x → x ≢ last_or from xs → v x ≡ w x) → P from → Each P xs → v (last_or from xs) ≡ new →
    Links w from xs to → Links v from xs new
Links-end P w v from [] to new absent once same p each e h = e
Links-end P w v from (x ∷ xs) to new absent once same p each e h = (
  same from p (Each-last (λ z. from ≢ z) x xs absent.0 absent.1) ∙ h.0,
  h.1,
  Links-end P w v x xs to new once.0 once.1 same each.0 each.1 e h.2,
)

pub Links-push : (w : Words) (from : ℕ) (xs : List ℕ) (y to : ℕ) → Links w from xs y → y ≢ 0 → w (next_of y) ≡ to →
    Links w from (xs ++ y ∷ []) to
Links-push w from [] y to h ne e = (h, ne, e)
Links-push w from (x ∷ xs) y to h ne e = (h.0, h.1, Links-push w x xs y to h.2 ne e)

pub LinksBack-same : (P : ℕ → Type 0) (w v : Words) (before : ℕ) (xs : List ℕ) →
    ((x : ℕ) → P x → v (prev_of x) ≡ w (prev_of x)) → Each P xs → LinksBack w before xs → LinksBack v before xs
LinksBack-same P w v before [] same each h = tt
LinksBack-same P w v before (x ∷ xs) same each h = (same x each.0 ∙ h.0, LinksBack-same P w v x xs same each.1 h.1)

pub LinksBack-push : (w : Words) (before : ℕ) (xs : List ℕ) (y : ℕ) → LinksBack w before xs → w (prev_of y) ≡ last_or before xs →
    LinksBack w before (xs ++ y ∷ [])
LinksBack-push w before [] y h e = (e, tt)
LinksBack-push w before (x ∷ xs) y h e = (h.0, LinksBack-push w x xs y h.1 e)

pub Links-last : (w : Words) (from : ℕ) (xs : List ℕ) (to : ℕ) → Links w from xs to → w (last_or from xs) ≡ to
Links-last w from [] to h = h
Links-last w from (x ∷ xs) to h = Links-last w x xs to h.2

-- the word that names the bucket behind the last one
pub word_behind-last : (xs : List ℕ) → IsAbsent 0 xs → word_behind (last_or 0 xs) ≡ last_or HEAD xs
word_behind-last [] h = refl
word_behind-last (x ∷ xs) h =
    let ne : 0 ≢ last_or x xs = Each-last (λ z. 0 ≢ z) x xs h.0 h.1 in
    let off : (last_or x xs == 0) ≡ false = grind (arith, nat_tests) in
    rw off
