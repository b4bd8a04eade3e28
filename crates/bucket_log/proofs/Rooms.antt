-- How many cells are closed, and the room that they make.
use Rattle.std.proofs.Common.{◌≡◌, ◌≢◌, inl, inr, ℕ, zero, suc, ◌+◌, ◌-◌, ◌*◌, ◌<◌, ◌≤◌, Bool, true, false, cond, ◌==◌, List, [], ◌∷◌, ◌++◌, length, refl, ap, sym, ◌∙◌, arith, length-append, zero-add}
use Rattle.std.proofs.lemmas.Bool.Decides.{nat_tests, eqb_tells}
use Rattle.persist_model.specs.Region.{Words}
use Rattle.persist_model.specs.Shape.{Shape, count_buckets}
use Rattle.persist_model.specs.Chain.{last_or}
use Rattle.persist_model.specs.ImageRecords.{cell_address}
use Rattle.persist_model.specs.Sound.{closed_cells, room_of}

abbrev counted : ℕ → ℕ
counted n = cond (n == 0) 1 0

counted_closed : (n : ℕ) → n ≡ 0 → counted n ≡ 1
counted_closed n e = grind (arith, nat_tests, e)

counted_open : (n : ℕ) → n ≢ 0 → counted n ≡ 0
counted_open n ne = grind (arith, nat_tests, ne)

pub closed_same : (v w : Words) (b n : ℕ) → ((c : ℕ) → c < n → v (cell_address b c) ≡ w (cell_address b c)) → closed_cells v b n ≡ closed_cells w b n
closed_same v w b zero same = refl
closed_same v w b (suc n) same =
    let e : closed_cells v b n ≡ closed_cells w b n = closed_same v w b n (λ c lt. same c (omega arith)) in
    let f : counted (v (cell_address b n)) ≡ counted (w (cell_address b n)) = ap counted (same n (omega arith)) in
    omega (arith, e, f)

pub closed_all : (w : Words) (b n : ℕ) → ((c : ℕ) → c < n → w (cell_address b c) ≡ 0) → closed_cells w b n ≡ n
closed_all w b zero each = refl
closed_all w b (suc n) each =
    let e = closed_all w b n (λ c lt. each c (omega arith)) in
    let f : counted (w (cell_address b n)) ≡ 1 = counted_closed (w (cell_address b n)) (each n (omega arith)) in
    omega (arith, e, f)

pub closed_none : (w : Words) (b n : ℕ) → ((c : ℕ) → c < n → w (cell_address b c) ≢ 0) → closed_cells w b n ≡ 0
closed_none w b zero each = refl
closed_none w b (suc n) each =
    let e = closed_none w b n (λ c lt. each c (omega arith)) in
    let f : counted (w (cell_address b n)) ≡ 0 = counted_open (w (cell_address b n)) (each n (omega arith)) in
    omega (arith, e, f)

pub closed_below : (w : Words) (b n : ℕ) → closed_cells w b n ≤ n
closed_below w b zero = omega arith
closed_below w b (suc n) =
    let e = closed_below w b n in
    let f : counted (w (cell_address b n)) ≤ 1 = small (w (cell_address b n) == 0) in
    omega (arith, e, f)
  where
    small : (t : Bool) → cond t 1 0 ≤ 1
    small true = omega arith
    small false = omega arith

-- one of the cells is open that was closed
pub closed_less : (v w : Words) (b n place : ℕ) → place < n → v (cell_address b place) ≢ 0 → w (cell_address b place) ≡ 0 →
    ((c : ℕ) → c < n → c ≢ place → v (cell_address b c) ≡ w (cell_address b c)) → closed_cells v b n + 1 ≡ closed_cells w b n
closed_less v w b zero place lt ne e same = absurd (omega arith)
closed_less v w b (suc n) place lt ne e same = elim (eqb_tells n place) [
  | inl is ↦ (let at : n ≡ place = is.1 in
      let rest : closed_cells v b n ≡ closed_cells w b n = closed_same v w b n (λ c below. same c (omega arith) (λ q. omega (arith, q, below, at))) in
      let f : counted (v (cell_address b n)) ≡ 0 = ap (λ m. counted (v (cell_address b m))) at ∙ counted_open (v (cell_address b place)) ne in
      let g : counted (w (cell_address b n)) ≡ 1 = ap (λ m. counted (w (cell_address b m))) at ∙ counted_closed (w (cell_address b place)) e in
      omega (arith, rest, f, g))
  | inr is ↦ (let off : n ≢ place = is.1 in
      let rest : closed_cells v b n + 1 ≡ closed_cells w b n = closed_less v w b n place (omega (arith, lt, off)) ne e (λ c below. same c (omega arith)) in
      let f : counted (v (cell_address b n)) ≡ counted (w (cell_address b n)) = ap counted (same n (omega arith) off) in
      omega (arith, rest, f))
]

-- ---- room

-- the room where the chain's last bucket is this one, and where it has none
pub room-last : (shape : Shape) (w : Words) (p : ℕ) (chain : List ℕ) → last_or 0 chain ≢ 0 →
    room_of shape w p chain ≡ closed_cells w (last_or 0 chain) shape.cells + shape.cells * (count_buckets shape p - length chain)
room-last shape w p chain ne =
    let off : (last_or 0 chain == 0) ≡ false = grind (arith, nat_tests, ne) in
    ap (λ t. cond t 0 (closed_cells w (last_or 0 chain) shape.cells) + shape.cells * (count_buckets shape p - length chain)) off

pub room-none : (shape : Shape) (w : Words) (p : ℕ) (chain : List ℕ) → last_or 0 chain ≡ 0 →
    room_of shape w p chain ≡ shape.cells * (count_buckets shape p - length chain)
room-none shape w p chain e =
    let on : (last_or 0 chain == 0) ≡ true = grind (arith, nat_tests, e) in
    ap (λ t. cond t 0 (closed_cells w (last_or 0 chain) shape.cells) + shape.cells * (count_buckets shape p - length chain)) on
    ∙ zero-add (shape.cells * (count_buckets shape p - length chain))

one_more : (k a n : ℕ) → n < a → k * (a - n) ≡ k + k * (a - (n + 1))
one_more k a n lt = let e : a - n ≡ 1 + (a - (n + 1)) = omega arith in rw e (omega arith)

-- the same gates make the same room
pub room_same : (shape : Shape) (v w : Words) (p : ℕ) (chain : List ℕ) → ((c : ℕ) → c < shape.cells → last_or 0 chain ≢ 0 → v (cell_address (last_or 0 chain) c) ≡ w (cell_address (last_or 0 chain) c)) →
    room_of shape v p chain ≡ room_of shape w p chain
room_same shape v w p chain same = elim (eqb_tells (last_or 0 chain) 0) [
  | inl e ↦ room-none shape v p chain e.1 ∙ sym (room-none shape w p chain e.1)
  | inr e ↦ room-last shape v p chain e.1 ∙ ap (λ n. n + shape.cells * (count_buckets shape p - length chain))
      (closed_same v w (last_or 0 chain) shape.cells (λ c lt. same c lt e.1)) ∙ sym (room-last shape w p chain e.1)
]

-- a chain that is empty, or whose last bucket is full, has room in the other buckets alone
pub room_full : (shape : Shape) (w : Words) (p : ℕ) (chain : List ℕ) → (last_or 0 chain ≢ 0 → (c : ℕ) → c < shape.cells → w (cell_address (last_or 0 chain) c) ≢ 0) →
    room_of shape w p chain ≡ shape.cells * (count_buckets shape p - length chain)
room_full shape w p chain full = elim (eqb_tells (last_or 0 chain) 0) [
  | inl e ↦ room-none shape w p chain e.1
  | inr e ↦ room-last shape w p chain e.1 ∙ ap (λ n. n + shape.cells * (count_buckets shape p - length chain)) (closed_none w (last_or 0 chain) shape.cells (full e.1))
      ∙ zero-add (shape.cells * (count_buckets shape p - length chain))
]

last_of_push : (d : ℕ) (xs : List ℕ) (n : ℕ) → last_or d (xs ++ n ∷ []) ≡ n
last_of_push d [] n = refl
last_of_push d (x ∷ xs) n = last_of_push x xs n

-- the chain with one more bucket, of which some cells are closed
pub room_of_push : (shape : Shape) (v : Words) (p : ℕ) (chain : List ℕ) (node : ℕ) → node ≢ 0 → length (chain ++ node ∷ []) ≤ count_buckets shape p →
    room_of shape v p (chain ++ node ∷ []) + shape.cells ≡ closed_cells v node shape.cells + shape.cells * (count_buckets shape p - length chain)
room_of_push shape v p chain node ne few =
    let last : last_or 0 (chain ++ node ∷ []) ≡ node = last_of_push 0 chain node in
    let size : length (chain ++ node ∷ []) ≡ length chain + 1 = length-append chain (node ∷ []) in
    let room : room_of shape v p (chain ++ node ∷ []) ≡ closed_cells v node shape.cells + shape.cells * (count_buckets shape p - (length chain + 1)) =
    room-last shape v p (chain ++ node ∷ []) (λ e. ne (sym last ∙ e))
    ∙ ap (λ n. closed_cells v n shape.cells + shape.cells * (count_buckets shape p - length (chain ++ node ∷ []))) last
    ∙ ap (λ n. closed_cells v node shape.cells + shape.cells * (count_buckets shape p - n)) size in
    let more = one_more shape.cells (count_buckets shape p) (length chain) (omega (arith, few, size)) in
    omega (arith, room, more)

-- a closed cell counts
pub closed_some : (w : Words) (b n c : ℕ) → c < n → w (cell_address b c) ≡ 0 → 1 ≤ closed_cells w b n
closed_some w b zero c lt e = absurd (omega (arith, lt))
closed_some w b (suc n) c lt e = elim (eqb_tells n c) [
  | inl is ↦ (let f : counted (w (cell_address b n)) ≡ 1 = counted_closed (w (cell_address b n)) (ap (λ m. w (cell_address b m)) is.1 ∙ e) in omega (arith, f))
  | inr is ↦ (let off = is.1 in let rest = closed_some w b n c (omega (arith, lt, off)) e in omega (arith, rest))
]
