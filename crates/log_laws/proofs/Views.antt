-- A plan made on a partition's view, and the same plan made on the region: what the region reaches, the view reaches.
use Rattle.std.proofs.Common.{◌≡◌, ◌≢◌, ◌⊎◌, inl, inr, ℕ, zero, suc, ◌+◌, ◌-◌, ◌<◌, ◌≤◌, Bool, true, false, cond, ◌==◌, ◌||◌, List, [], ◌∷◌, ◌++◌, map, take, refl, ap, sym, ◌∙◌, arith, subst}
use Rattle.std.proofs.lemmas.Bool.Decides.{nat_tests, eqb_tells}
use Rattle.persist_model.specs.declared.event.Event.{Event}
use Rattle.persist_model.specs.declared.event.Event.TheVariants.{Store, PStore, WriteBack, Fence}
use Rattle.persist_model.specs.Region.{Words}
use Rattle.persist_model.specs.Progress.{Write, write, Progress, Wrote, latest, start, advance, advance_all, Reaches}
use Rattle.persist_model.specs.Runs.{progress_at}
use Rattle.persist_model.specs.Shape.{list_words}
use Rattle.persist_model.specs.Chain.{view, out_address, out_event}
use Rattle.persist_model.proofs.Tracking.{Wrote-push, Wrote-pushed}
use Rattle.persist_model.proofs.Projecting.{IsEventAway, AreAway, latest-push}

-- ---- addresses

-- where the list words of a partition stand
pub list_words_cases : (p : ℕ) → p < 3 → ((p ≡ 0) × (list_words p ≡ 8)) ⊎ ((p ≡ 1) × (list_words p ≡ 21)) ⊎ ((p ≡ 2) × (list_words p ≡ 26))
list_words_cases zero lt = inl (refl, refl)
list_words_cases (suc zero) lt = inr (inl (refl, refl))
list_words_cases (suc (suc zero)) lt = inr (inr (refl, refl))
list_words_cases (suc (suc (suc n))) lt = absurd (omega arith)

-- an address of a view is that of one of its five list words, or its own
abbrev pub OutCases : ℕ → ℕ → Type 0
OutCases p a = ((8 ≤ a) × (a ≤ 12) × (out_address p a ≡ list_words p + (a - 8))) ⊎ (((a < 8) ⊎ (12 < a)) × (out_address p a ≡ a))

pub out_cases : (p a : ℕ) → OutCases p a
out_cases p a = by_test ((a == 8) || (a == 9) || (a == 10) || (a == 11) || (a == 12)) refl
  where
    by_test : (t : Bool) → ((a == 8) || (a == 9) || (a == 10) || (a == 11) || (a == 12)) ≡ t →
        ((8 ≤ a) × (a ≤ 12) × (cond t (list_words p + (a - 8)) a ≡ list_words p + (a - 8))) ⊎ (((a < 8) ⊎ (12 < a)) × (cond t (list_words p + (a - 8)) a ≡ a))
    by_test true e = inl (grind (arith, nat_tests), grind (arith, nat_tests), refl)
    by_test false e = inr (off e, refl)
      where
        off : ((a == 8) || (a == 9) || (a == 10) || (a == 11) || (a == 12)) ≡ false → (a < 8) ⊎ (12 < a)
        off e = grind (arith, nat_tests)

-- the view reads the region's words
pub view-out : (p : ℕ) (w : Words) (a : ℕ) → view p w a ≡ w (out_address p a)
view-out p w a = by_test ((a == 8) || (a == 9) || (a == 10) || (a == 11) || (a == 12))
  where
    by_test : (t : Bool) → cond t (w (list_words p + (a - 8))) (w a) ≡ w (cond t (list_words p + (a - 8)) a)
    by_test true = refl
    by_test false = refl

-- a word of the view that shows no list word of another partition
abbrev pub IsOwn : ℕ → ℕ → Type 0
IsOwn p a = (p ≡ 0) ⊎ ((a < 21) ⊎ (30 < a))

-- different own addresses are different in the region
pub out_apart : (p a b : ℕ) → p < 3 → IsOwn p a → IsOwn p b → a ≢ b → out_address p a ≢ out_address p b
out_apart p a b lt own own' ne e = elim (list_words_cases p lt) [
  | inl h ↦ by (out_cases p a) (out_cases p b) (inl h)
  | inr h ↦ by (out_cases p a) (out_cases p b) (inr h)
]
  where
    by : OutCases p a → OutCases p b → ((p ≡ 0) × (list_words p ≡ 8)) ⊎ ((p ≡ 1) × (list_words p ≡ 21)) ⊎ ((p ≡ 2) × (list_words p ≡ 26)) → ⊥
    by h k at = grind (arith, h, k, at, own, own', ne, e)

-- a word behind the header is itself
pub out_behind : (p a : ℕ) → 12 < a → out_address p a ≡ a
out_behind p a lt = elim (out_cases p a) [ inl h ↦ (let high = h.1 in absurd (omega (arith, high, lt))) | inr h ↦ h.1 ]

pub view_behind : (p : ℕ) (w : Words) (a : ℕ) → 12 < a → view p w a ≡ w a
view_behind p w a lt = view-out p w a ∙ ap w (out_behind p a lt)

-- ---- progress

pub take-map : {X Y : Type 0} (f : X → Y) (k : ℕ) (xs : List X) → take k (map f xs) ≡ map f (take k xs)
take-map f zero xs = refl
take-map f (suc k) [] = refl
take-map f (suc k) (x ∷ xs) = ap (λ ys. f x ∷ ys) (take-map f k xs)

-- the event stores to a word of A alone
abbrev pub IsStoreOn : (ℕ → Type 0) → Event → Type 0
IsStoreOn A (Store a v) = A a
IsStoreOn A (PStore a v) = A a
IsStoreOn A (WriteBack a) = A a
IsStoreOn A Fence = Unit {0}

abbrev pub AreStoresOn : (ℕ → Type 0) → List Event → Type 0
AreStoresOn A [] = Unit {0}
AreStoresOn A (e ∷ es) = IsStoreOn A e × AreStoresOn A es

pub AreStoresOn-take : (A : ℕ → Type 0) (k : ℕ) (es : List Event) → AreStoresOn A es → AreStoresOn A (take k es)
AreStoresOn-take A zero es h = tt
AreStoresOn-take A (suc k) [] h = tt
AreStoresOn-take A (suc k) (e ∷ es) h = (h.0, AreStoresOn-take A k es h.1)

pub AreStoresOn-append : (A : ℕ → Type 0) (es fs : List Event) → AreStoresOn A es → AreStoresOn A fs → AreStoresOn A (es ++ fs)
AreStoresOn-append A [] fs h k = k
AreStoresOn-append A (e ∷ es) fs h k = (h.0, AreStoresOn-append A es fs h.1 k)

IsStoreOn-map : (A B : ℕ → Type 0) → ((a : ℕ) → A a → B a) → (e : Event) → IsStoreOn A e → IsStoreOn B e
IsStoreOn-map A B f (Store a v) h = f a h
IsStoreOn-map A B f (PStore a v) h = f a h
IsStoreOn-map A B f (WriteBack a) h = f a h
IsStoreOn-map A B f Fence h = tt

pub AreStoresOn-map : (A B : ℕ → Type 0) → ((a : ℕ) → A a → B a) → (es : List Event) → AreStoresOn A es → AreStoresOn B es
AreStoresOn-map A B f [] h = tt
AreStoresOn-map A B f (e ∷ es) h = (IsStoreOn-map A B f e h.0, AreStoresOn-map A B f es h.1)

IsStoreOn-out : (A B : ℕ → Type 0) (p : ℕ) → ((a : ℕ) → A a → B (out_address p a)) → (e : Event) → IsStoreOn A e → IsStoreOn B (out_event p e)
IsStoreOn-out A B p f (Store a v) h = f a h
IsStoreOn-out A B p f (PStore a v) h = f a h
IsStoreOn-out A B p f (WriteBack a) h = f a h
IsStoreOn-out A B p f Fence h = tt

-- the region's plan stores to the region's words
pub AreStoresOn-out : (A B : ℕ → Type 0) (p : ℕ) → ((a : ℕ) → A a → B (out_address p a)) → (es : List Event) → AreStoresOn A es → AreStoresOn B (map (out_event p) es)
AreStoresOn-out A B p f [] h = tt
AreStoresOn-out A B p f (e ∷ es) h = (IsStoreOn-out A B p f e h.0, AreStoresOn-out A B p f es h.1)

IsEventAway-stores : (A : ℕ → Type 0) (a : ℕ) (e : Event) → ((b : ℕ) → A b → b ≢ a) → IsStoreOn A e → IsEventAway a e
IsEventAway-stores A a (Store b v) off h = tt
IsEventAway-stores A a (PStore b v) off h = off b h
IsEventAway-stores A a (WriteBack b) off h = tt
IsEventAway-stores A a Fence off h = tt

-- a word that isn't in A isn't stored to
pub AreAway-stores : (A : ℕ → Type 0) (a : ℕ) (es : List Event) → ((b : ℕ) → A b → b ≢ a) → AreStoresOn A es → AreAway a es
AreAway-stores A a [] off h = tt
AreAway-stores A a (e ∷ es) off h = (IsEventAway-stores A a e off h.0, AreAway-stores A a es off h.1)

-- The progress of the view is that of the region at the words of B.
record IsShown (B : ℕ → Type 0) (p : ℕ) (outer inner : Progress) : Type 0 where
  durable : (a : ℕ) → B a → outer.durable (out_address p a) ≡ inner.durable a
  pending : (a : ℕ) → B a → (v : ℕ) → Wrote outer.pending (out_address p a) v → Wrote inner.pending a v
  latests : (a : ℕ) → B a → (u : ℕ) → latest outer.pending (out_address p a) u ≡ latest inner.pending a u

abbrev AreApart : (ℕ → Type 0) → ℕ → Type 0
AreApart B p = (a b : ℕ) → B a → B b → a ≢ b → out_address p a ≢ out_address p b

test_out : (B : ℕ → Type 0) (p a b : ℕ) → AreApart B p → B a → B b → (out_address p b == out_address p a) ≡ (b == a)
test_out B p a b apart at from = elim (eqb_tells b a) [
  | inl e ↦ (let same : out_address p b ≡ out_address p a = ap (out_address p) e.1 in grind (arith, nat_tests, same, e))
  | inr e ↦ (let ne = apart b a from at e.1 in grind (arith, nat_tests, ne, e))
]

Wrote_out : (s t : List Write) (x y a c v u : ℕ) → (x ≡ a → y ≡ c) → ((n : ℕ) → Wrote s a n → Wrote t c n) → Wrote (s ++ write x u ∷ []) a v → Wrote (t ++ write y u ∷ []) c v
Wrote_out [] t x y a c v u same f (inl e) = subst (λ n. Wrote (t ++ write y u ∷ []) c n) (sym e.1) (subst (λ b. Wrote (t ++ write y u ∷ []) b u) (same e.0) (Wrote-pushed t y u))
Wrote_out [] t x y a c v u same f (inr h) = elim h [ ]
Wrote_out (z ∷ s) t x y a c v u same f (inl e) = Wrote-push t (write y u) c v (f v (inl e))
Wrote_out (z ∷ s) t x y a c v u same f (inr h) = Wrote_out s t x y a c v u same (λ n k. f n (inr k)) h

IsShown-event : (B : ℕ → Type 0) (p : ℕ) (outer inner : Progress) (e : Event) → AreApart B p → IsStoreOn B e → IsShown B p outer inner →
    IsShown B p (advance outer (out_event p e)) (advance inner e)
IsShown-event B p outer inner (Store b x) apart on h = h
IsShown-event B p outer inner (WriteBack b) apart on h = h
IsShown-event B p outer inner Fence apart on h = record {
  durable = λ a m. h.latests a m (outer.durable (out_address p a)) ∙ ap (latest inner.pending a) (h.durable a m);
  pending = λ a m v k. k;
  latests = λ a m u. refl;
}
IsShown-event B p outer inner (PStore b x) apart on h = record {
  durable = h.durable;
  pending = λ a m v k. Wrote_out outer.pending inner.pending (out_address p b) b (out_address p a) a v x (same a m) (h.pending a m) k;
  latests = λ a m u. latest-push outer.pending (out_address p b) x (out_address p a) u
      ∙ ap (λ t. cond t x (latest outer.pending (out_address p a) u)) (test_out B p a b apart m on)
      ∙ ap (cond (b == a) x) (h.latests a m u) ∙ sym (latest-push inner.pending b x a u);
}
  where
    same : (a : ℕ) → B a → out_address p b ≡ out_address p a → b ≡ a
    same a m e = elim (eqb_tells b a) [ inl f ↦ f.1 | inr f ↦ absurd (apart b a on m f.1 e) ]

IsShown-events : (B : ℕ → Type 0) (p : ℕ) (outer inner : Progress) (es : List Event) → AreApart B p → AreStoresOn B es → IsShown B p outer inner →
    IsShown B p (advance_all outer (map (out_event p) es)) (advance_all inner es)
IsShown-events B p outer inner [] apart on h = h
IsShown-events B p outer inner (e ∷ es) apart on h =
    IsShown-events B p (advance outer (out_event p e)) (advance inner e) es apart on.1 (IsShown-event B p outer inner e apart on.0 h)

shown_at_first : (B : ℕ → Type 0) (p : ℕ) (z : Words) → IsShown B p (start z) (start (view p z))
shown_at_first B p z = record { durable = λ a m. sym (view-out p z a); pending = λ a m v k. k; latests = λ a m u. refl }

-- What a region reaches by a plan of partition p, its view reaches by the plan on the view. B has no list word of other partitions.
pub view_reaches : (A B : ℕ → Type 0) (p k : ℕ) (z v : Words) (plan : List Event) → p < 3 → ((a : ℕ) → B a → IsOwn p a) → ((a : ℕ) → B a → A (out_address p a)) →
    AreStoresOn B plan → Reaches A (progress_at z (map (out_event p) plan) k) v → Reaches B (progress_at (view p z) plan k) (view p v)
view_reaches A B p k z v plan lt own inside on r a m =
    let apart : AreApart B p = λ x y mx my. out_apart p x y lt (own x mx) (own y my) in
    let shown = IsShown-events B p (start z) (start (view p z)) (take k plan) apart (AreStoresOn-take B k plan on) (shown_at_first B p z) in
    let reached : Reaches A (advance_all (start z) (map (out_event p) (take k plan))) v = subst (λ es. Reaches A (advance_all (start z) es) v) (take-map (out_event p) k plan) r in
    elim (reached (out_address p a) (inside a m)) [
      | inl e ↦ inl (view-out p v a ∙ e ∙ shown.durable a m)
      | inr w ↦ inr (subst (λ n. Wrote (advance_all (start (view p z)) (take k plan)).pending a n) (sym (view-out p v a)) (shown.pending a m (v (out_address p a)) w))
    ]
