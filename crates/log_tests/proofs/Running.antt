-- The events of lists and of closings: where they are, and how many stores they have.
use Rattle.std.proofs.Common.{◌≡◌, ℕ, suc, refl, ◌+◌, ◌<◌, ◌≤◌, List, [], ◌∷◌, ◌++◌, length, get_or, sum_by, All, arith, subst, ap, length-append}
use Rattle.std.proofs.lemmas.List.Elements.{All-nil, All-cons, All-head, All-tail, All-append}
use Rattle.std.proofs.lemmas.List.Sums.{sum_by-le}
use Rattle.persist_model.specs.declared.event.Event.{Event}
use Rattle.persist_model.specs.declared.event.Event.TheVariants.{Store, PStore, WriteBack, Fence}
use Rattle.lane_traits.specs.Device.{IsWithin, stores_of}
use Rattle.log_clearing.specs.Plans.{closes, group, closing_plan}

one_store : (event : Event) → stores_of event ≤ 1
one_store (Store a v) = omega arith
one_store (PStore a v) = omega arith
one_store (WriteBack a) = omega arith
one_store Fence = omega arith

pub few_stores : (events : List Event) → sum_by stores_of events ≤ length events
few_stores events = let most = sum_by-le stores_of 1 events (λ k d lt. one_store (get_or events k d)) in omega (arith, most)

pub stores_fit : (events : List Event) (spare : ℕ) → length events ≤ spare → sum_by stores_of events ≤ spare
stores_fit events spare h = let few = few_stores events in omega (arith, few, h)

pub inside_of : (xs events : List Event) (m n : ℕ) → xs ≡ events → m ≡ n → All (IsWithin m) xs → All (IsWithin n) events
inside_of xs events m n same e h = subst (λ (k : ℕ). All (IsWithin k) events) e (subst (λ (ys : List Event). All (IsWithin m) ys) same h)

-- ---- a closing

abbrev pub AreBelow : ℕ → List ℕ → Type 0
AreBelow size gates = All (λ a. a < size) gates

pub below_of : (xs gates : List ℕ) (m n : ℕ) → xs ≡ gates → m ≡ n → AreBelow m xs → AreBelow n gates
below_of xs gates m n same e h = subst (λ (k : ℕ). AreBelow k gates) e (subst (AreBelow m) same h)

closes_within : (size : ℕ) (gates : List ℕ) → AreBelow size gates → All (IsWithin size) (closes gates)
closes_within size [] h = All-nil (IsWithin size)
closes_within size (a ∷ gates) h = All-cons (IsWithin size) (PStore a 0) (closes gates) (All-head (λ b. b < size) a gates h)
    (closes_within size gates (All-tail (λ b. b < size) a gates h))

fence_within : (size : ℕ) → All (IsWithin size) (Fence ∷ [])
fence_within size = All-cons (IsWithin size) Fence [] tt (All-nil (IsWithin size))

group_within : (size : ℕ) (gates : List ℕ) → AreBelow size gates → All (IsWithin size) (group gates)
group_within size [] h = All-nil (IsWithin size)
group_within size (a ∷ gates) h = All-cons (IsWithin size) (PStore a 0) (closes gates ++ Fence ∷ []) (All-head (λ b. b < size) a gates h)
    (All-append (IsWithin size) (closes gates) (Fence ∷ []) (closes_within size gates (All-tail (λ b. b < size) a gates h)) (fence_within size))

pub closing_within : (size : ℕ) (gates ends checkpoints : List ℕ) → AreBelow size gates → AreBelow size ends → AreBelow size checkpoints
    → All (IsWithin size) (closing_plan gates ends checkpoints)
closing_within size gates ends checkpoints g e k = All-append (IsWithin size) (group gates) (group ends ++ group checkpoints) (group_within size gates g)
    (All-append (IsWithin size) (group ends) (group checkpoints) (group_within size ends e) (group_within size checkpoints k))

closes-length : (gates : List ℕ) → length (closes gates) ≡ length gates
closes-length [] = refl
closes-length (a ∷ gates) = ap suc (closes-length gates)

group-length : (gates : List ℕ) → length (group gates) ≤ length gates + 1
group-length [] = omega arith
group-length (a ∷ gates) =
    let all = length-append (closes gates) (Fence ∷ []) in
    let many = closes-length gates in
    omega (arith, all, many)

pub closing-length : (gates ends checkpoints : List ℕ) → length gates < 1000 → length ends < 1000 → length checkpoints < 1000
    → length (closing_plan gates ends checkpoints) ≤ 3000
closing-length gates ends checkpoints g e k =
    let first = length-append (group gates) (group ends ++ group checkpoints) in
    let second = length-append (group ends) (group checkpoints) in
    let a = group-length gates in let b = group-length ends in let c = group-length checkpoints in
    omega (arith, first, second, a, b, c, g, e, k)
