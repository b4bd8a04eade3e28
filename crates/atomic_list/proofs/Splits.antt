-- Lists that are put together of a front, a bucket and a rest.
use Rattle.std.proofs.Common.{◌≡◌, ◌≢◌, ℕ, Bool, true, false, cond, ◌==◌, List, [], ◌∷◌, ◌++◌, refl, sym, arith}
use Rattle.std.proofs.lemmas.Bool.Decides.{nat_tests}
use Rattle.persist_model.specs.Region.{Words}
use Rattle.persist_model.specs.Chain.{next_of, Each, IsAbsent, HasNoRepeats, first_or, last_or, without, Links, LinksBack}

pub Each-left : (P : ℕ → Type 0) (xs ys : List ℕ) → Each P (xs ++ ys) → Each P xs
Each-left P [] ys h = tt
Each-left P (x ∷ xs) ys h = (h.0, Each-left P xs ys h.1)

pub Each-right : (P : ℕ → Type 0) (xs ys : List ℕ) → Each P (xs ++ ys) → Each P ys
Each-right P [] ys h = h
Each-right P (x ∷ xs) ys h = Each-right P xs ys h.1

pub Each-join : (P : ℕ → Type 0) (xs ys : List ℕ) → Each P xs → Each P ys → Each P (xs ++ ys)
Each-join P [] ys h k = k
Each-join P (x ∷ xs) ys h k = (h.0, Each-join P xs ys h.1 k)

-- each of ys is none of xs
pub HasNoRepeats-across : (xs ys : List ℕ) → HasNoRepeats (xs ++ ys) → Each (λ y. IsAbsent y xs) ys
HasNoRepeats-across xs [] h = tt
HasNoRepeats-across xs (y ∷ ys) h = (absent xs y ys h, HasNoRepeats-across xs ys (drop_one xs y ys h))
  where
    absent : (xs : List ℕ) (y : ℕ) (ys : List ℕ) → HasNoRepeats (xs ++ y ∷ ys) → IsAbsent y xs
    absent [] y ys h = tt
    absent (x ∷ xs) y ys h = (λ e. (Each-right (λ z. x ≢ z) xs (y ∷ ys) h.0).0 (sym e), absent xs y ys h.1)

    drop_one : (xs : List ℕ) (y : ℕ) (ys : List ℕ) → HasNoRepeats (xs ++ y ∷ ys) → HasNoRepeats (xs ++ ys)
    drop_one [] y ys h = h.1
    drop_one (x ∷ xs) y ys h =
        (Each-join (λ z. x ≢ z) xs ys (Each-left (λ z. x ≢ z) xs (y ∷ ys) h.0) (Each-right (λ z. x ≢ z) xs (y ∷ ys) h.0).1, drop_one xs y ys h.1)

pub HasNoRepeats-without : (xs : List ℕ) (y : ℕ) (ys : List ℕ) → HasNoRepeats (xs ++ y ∷ ys) → HasNoRepeats (xs ++ ys)
HasNoRepeats-without [] y ys h = h.1
HasNoRepeats-without (x ∷ xs) y ys h =
    (Each-join (λ z. x ≢ z) xs ys (Each-left (λ z. x ≢ z) xs (y ∷ ys) h.0) (Each-right (λ z. x ≢ z) xs (y ∷ ys) h.0).1, HasNoRepeats-without xs y ys h.1)

pub HasNoRepeats-right : (xs ys : List ℕ) → HasNoRepeats (xs ++ ys) → HasNoRepeats ys
HasNoRepeats-right [] ys h = h
HasNoRepeats-right (x ∷ xs) ys h = HasNoRepeats-right xs ys h.1

pub HasNoRepeats-left : (xs ys : List ℕ) → HasNoRepeats (xs ++ ys) → HasNoRepeats xs
HasNoRepeats-left [] ys h = tt
HasNoRepeats-left (x ∷ xs) ys h = (Each-left (λ z. x ≢ z) xs ys h.0, HasNoRepeats-left xs ys h.1)

-- the one in the middle is none of the others
pub middle_is_absent : (xs : List ℕ) (y : ℕ) (ys : List ℕ) → HasNoRepeats (xs ++ y ∷ ys) → IsAbsent y (xs ++ ys)
middle_is_absent [] y ys h = h.0
middle_is_absent (x ∷ xs) y ys h = (λ e. (Each-right (λ z. x ≢ z) xs (y ∷ ys) h.0).0 (sym e), middle_is_absent xs y ys h.1)

pub HasNoRepeats-insert : (xs : List ℕ) (y : ℕ) (ys : List ℕ) → HasNoRepeats (xs ++ ys) → IsAbsent y (xs ++ ys) → HasNoRepeats (xs ++ y ∷ ys)
HasNoRepeats-insert [] y ys h a = (a, h)
HasNoRepeats-insert (x ∷ xs) y ys h a = (
  Each-join (λ z. x ≢ z) xs (y ∷ ys) (Each-left (λ z. x ≢ z) xs ys h.0) ((λ e. a.0 (sym e)), Each-right (λ z. x ≢ z) xs ys h.0),
  HasNoRepeats-insert xs y ys h.1 a.1,
)

pub without-append : (b : ℕ) (xs ys : List ℕ) → without b (xs ++ ys) ≡ without b xs ++ without b ys
without-append b [] ys = refl
without-append b (x ∷ xs) ys = rw (without-append b xs ys) (one (x == b))
  where
    one : (t : Bool) → cond t (without b xs ++ without b ys) (x ∷ without b xs ++ without b ys) ≡ cond t (without b xs) (x ∷ without b xs) ++ without b ys
    one true = refl
    one false = refl

pub without-first : (b : ℕ) (ys : List ℕ) → without b (b ∷ ys) ≡ without b ys
without-first b ys = let on : (b == b) ≡ true = grind (arith, nat_tests) in rw on

pub last-append : (d : ℕ) (xs ys : List ℕ) → last_or d (xs ++ ys) ≡ last_or (last_or d xs) ys
last-append d [] ys = refl
last-append d (x ∷ xs) ys = last-append x xs ys

pub Links-left : (w : Words) (from : ℕ) (xs : List ℕ) (y : ℕ) (ys : List ℕ) (to : ℕ) → Links w from (xs ++ y ∷ ys) to → Links w from xs y
Links-left w from [] y ys to h = h.0
Links-left w from (x ∷ xs) y ys to h = (h.0, h.1, Links-left w x xs y ys to h.2)

pub Links-right : (w : Words) (from : ℕ) (xs : List ℕ) (y : ℕ) (ys : List ℕ) (to : ℕ) → Links w from (xs ++ y ∷ ys) to → Links w (next_of y) ys to
Links-right w from [] y ys to h = h.2
Links-right w from (x ∷ xs) y ys to h = Links-right w x xs y ys to h.2

pub Links-insert : (w : Words) (from : ℕ) (xs : List ℕ) (y : ℕ) (ys : List ℕ) (to : ℕ) → y ≢ 0 → Links w from xs y → Links w (next_of y) ys to →
    Links w from (xs ++ y ∷ ys) to
Links-insert w from [] y ys to ne h k = (h, ne, k)
Links-insert w from (x ∷ xs) y ys to ne h k = (h.0, h.1, Links-insert w x xs y ys to ne h.2 k)

-- a word that names what another one names begins the same links
pub Links-join : (w : Words) (from other : ℕ) (xs ys : List ℕ) (to : ℕ) → Links w from xs (first_or to ys) → Links w other ys to →
    Links w from (xs ++ ys) to
Links-join w from other [] [] to h k = h
Links-join w from other [] (y ∷ ys) to h k = (h, k.1, k.2)
Links-join w from other (x ∷ xs) ys to h k = (h.0, h.1, Links-join w x other xs ys to h.2 k)

pub LinksBack-left : (w : Words) (before : ℕ) (xs ys : List ℕ) → LinksBack w before (xs ++ ys) → LinksBack w before xs
LinksBack-left w before [] ys h = tt
LinksBack-left w before (x ∷ xs) ys h = (h.0, LinksBack-left w x xs ys h.1)

pub LinksBack-right : (w : Words) (before : ℕ) (xs ys : List ℕ) → LinksBack w before (xs ++ ys) → LinksBack w (last_or before xs) ys
LinksBack-right w before [] ys h = h
LinksBack-right w before (x ∷ xs) ys h = LinksBack-right w x xs ys h.1

pub LinksBack-join : (w : Words) (before : ℕ) (xs ys : List ℕ) → LinksBack w before xs → LinksBack w (last_or before xs) ys → LinksBack w before (xs ++ ys)
LinksBack-join w before [] ys h k = k
LinksBack-join w before (x ∷ xs) ys h k = (h.0, LinksBack-join w x xs ys h.1 k)

-- each of xs is none of ys
pub HasNoRepeats-across_left : (xs ys : List ℕ) → HasNoRepeats (xs ++ ys) → Each (λ x. IsAbsent x ys) xs
HasNoRepeats-across_left [] ys h = tt
HasNoRepeats-across_left (x ∷ xs) ys h = (Each-right (λ z. x ≢ z) xs ys h.0, HasNoRepeats-across_left xs ys h.1)
