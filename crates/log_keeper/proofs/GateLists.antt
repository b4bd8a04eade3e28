-- Gates that are listed one after the other.
use Rattle.std.proofs.Common.{◌≡◌, inl, inr, ℕ, suc, ◌+◌, ◌<◌, ◌≤◌, Bool, true, false, if◌then◌else◌, List, [], ◌∷◌, ◌++◌, length, drop, get_or, refl, sym, ap, ◌∙◌, subst, arith, length-append}
use Rattle.std.specs.List.{filter, count_by}
use Rattle.std.proofs.Math.Seq.{drop-cons}
use Rattle.std.proofs.lemmas.List.Sums.{length-filter}
use Rattle.std.proofs.lemmas.List.{append_assoc, append-nil, drop_all}
use Rattle.persist_model.specs.Records.{IsAmong}
use Rattle.persist_model.proofs.Among.{among_left, among_right, among_append}
use Rattle.log_keeper.specs.declared.ledger.Entry.{Entry}
use Rattle.log_keeper.specs.Ledger.{Noted}
use Rattle.log_keeper.specs.Noting.{noted_of, ledger_of}
use Rattle.log_keeper.specs.Listing.{is_chosen, gate_if, gates_in, GatesAreListed}

gates-append : (t : ℕ) (ends : Bool) (xs ys : List Noted) → gates_in t ends (xs ++ ys) ≡ gates_in t ends ys ++ gates_in t ends xs
gates-append t ends [] ys = sym (append-nil (gates_in t ends ys))
gates-append t ends (x ∷ xs) ys = ap (λ l. l ++ gate_if t ends x) (gates-append t ends xs ys) ∙ append_assoc (gates_in t ends ys) (gates_in t ends xs) (gate_if t ends x)

-- an entry's gate comes before those of the later ones
pub gates-first : (t : ℕ) (ends : Bool) (x : Entry) (entries : List Entry) →
    gates_in t ends (ledger_of (x ∷ entries)) ≡ gate_if t ends (noted_of x) ++ gates_in t ends (ledger_of entries)
gates-first t ends x entries = gates-append t ends (ledger_of entries) (noted_of x ∷ [])

-- ---- how many there are

pub gates_counted : (t : ℕ) (ends : Bool) (entries : List Entry) → count_by (λ x. is_chosen t ends (noted_of x).entry) entries ≡ length (gates_in t ends (ledger_of entries))
gates_counted t ends entries = sym (length-filter (λ x. is_chosen t ends (noted_of x).entry) entries) ∙ counted entries
  where
    chosen : List Entry → List Entry
    chosen = filter (λ x. is_chosen t ends (noted_of x).entry)

    one : (x : Entry) (n m : ℕ) (b : Bool) → n ≡ m → (if b then suc n else n) ≡ length (if b then (noted_of x).entry.at ∷ [] else []) + m
    one x n m true e = omega (arith, e)
    one x n m false e = omega (arith, e)

    more : (x : Entry) (entries : List Entry) (b : Bool) → length (if b then x ∷ chosen entries else chosen entries) ≡ (if b then suc (length (chosen entries)) else length (chosen entries))
    more x entries true = refl
    more x entries false = refl

    counted : (entries : List Entry) → length (filter (λ x. is_chosen t ends (noted_of x).entry) entries) ≡ length (gates_in t ends (ledger_of entries))
    counted [] = refl
    counted (x ∷ entries) = more x entries (is_chosen t ends (noted_of x).entry)
        ∙ one x (length (chosen entries)) (length (gates_in t ends (ledger_of entries))) (is_chosen t ends (noted_of x).entry) (counted entries)
        ∙ sym (length-append (gate_if t ends (noted_of x)) (gates_in t ends (ledger_of entries)))
        ∙ ap length (sym (gates-first t ends x entries))

-- ---- whose they are

one_gate : (t : ℕ) (ends : Bool) (x : Noted) (a : ℕ) → IsAmong (gate_if t ends x) a → (is_chosen t ends x.entry ≡ true) × (x.entry.at ≡ a)
one_gate t ends x a = by (is_chosen t ends x.entry)
  where
    by : (b : Bool) → IsAmong (if b then x.entry.at ∷ [] else []) a → (b ≡ true) × (x.entry.at ≡ a)
    by true (inl e) = (refl, sym e)
    by true (inr m) = absurd m
    by false m = absurd m

its_gate : (t : ℕ) (ends : Bool) (x : Noted) → is_chosen t ends x.entry ≡ true → IsAmong (gate_if t ends x) x.entry.at
its_gate t ends x on = subst (λ (b : Bool). IsAmong (if b then x.entry.at ∷ [] else []) x.entry.at) (sym on) (inl refl)

own_gates : (t : ℕ) (ends : Bool) (ledger : List Noted) (a : ℕ) → IsAmong (gates_in t ends ledger) a →
    (x : Noted) × IsAmong ledger x × (is_chosen t ends x.entry ≡ true) × (x.entry.at ≡ a)
own_gates t ends [] a m = absurd m
own_gates t ends (x ∷ ledger) a m = elim (among_append (gates_in t ends ledger) (gate_if t ends x) a m) [
  | inl k ↦ (let y = own_gates t ends ledger a k in (y.0, inr y.1, y.2, y.3))
  | inr k ↦ (let y = one_gate t ends x a k in (x, inl refl, y.0, y.1))
]

all_gates : (t : ℕ) (ends : Bool) (ledger : List Noted) (x : Noted) → IsAmong ledger x → is_chosen t ends x.entry ≡ true → IsAmong (gates_in t ends ledger) x.entry.at
all_gates t ends [] x m on = absurd m
all_gates t ends (y ∷ ledger) x (inl e) on = among_right (gates_in t ends ledger) (gate_if t ends y) x.entry.at
    (subst (λ (z : Noted). IsAmong (gate_if t ends z) x.entry.at) e (its_gate t ends x on))
all_gates t ends (y ∷ ledger) x (inr m) on = among_left (gates_in t ends ledger) (gate_if t ends y) x.entry.at (all_gates t ends ledger x m on)

pub gates_are_listed : GatesAreListed
gates_are_listed = record { own = own_gates; all = all_gates }

-- ---- one entry after the other

-- what is listed, and what is left, are the whole
pub record AreListing (t : ℕ) (ends : Bool) (entries : List Entry) (i : ℕ) (gates : List ℕ) : Type 0 where
  pub whole : gates ++ gates_in t ends (ledger_of (drop i entries)) ≡ gates_in t ends (ledger_of entries)

next_gates : (t : ℕ) (ends : Bool) (entries : List Entry) (i : ℕ) (d : Entry) (gates : List ℕ) → i < length entries → AreListing t ends entries i gates →
    (gates ++ gate_if t ends (noted_of (get_or entries i d))) ++ gates_in t ends (ledger_of (drop (suc i) entries)) ≡ gates_in t ends (ledger_of entries)
next_gates t ends entries i d gates lt h =
    append_assoc gates (gate_if t ends (noted_of (get_or entries i d))) (gates_in t ends (ledger_of (drop (suc i) entries)))
    ∙ ap (λ l. gates ++ l) (sym (gates-first t ends (get_or entries i d) (drop (suc i) entries)) ∙ ap (λ xs. gates_in t ends (ledger_of xs)) (sym (drop-cons entries i d lt)))
    ∙ h.whole

pub listing_begins : (t : ℕ) (ends : Bool) (entries : List Entry) (gates : List ℕ) → gates ≡ [] → AreListing t ends entries 0 gates
listing_begins t ends entries gates none = record { whole = ap (λ l. l ++ gates_in t ends (ledger_of entries)) none }

pub listing_goes_on : (t : ℕ) (ends : Bool) (entries : List Entry) (i : ℕ) (d : Entry) (gates more : List ℕ) → i < length entries → AreListing t ends entries i gates →
    more ≡ gates ++ gate_if t ends (noted_of (get_or entries i d)) → AreListing t ends entries (i + 1) more
listing_goes_on t ends entries i d gates more lt h is =
    let e : suc i ≡ i + 1 = omega arith in
    subst (λ n. AreListing t ends entries n more) e record {
      whole = ap (λ l. l ++ gates_in t ends (ledger_of (drop (suc i) entries))) is ∙ next_gates t ends entries i d gates lt h;
    }

-- there is memory for the next one
pub listing_fits : (t : ℕ) (ends : Bool) (entries : List Entry) (i : ℕ) (d : Entry) (gates : List ℕ) (room : ℕ) → i < length entries → AreListing t ends entries i gates →
    length (gates_in t ends (ledger_of entries)) ≤ room → length gates + length (gate_if t ends (noted_of (get_or entries i d))) ≤ room
listing_fits t ends entries i d gates room lt h fits =
    let long = ap length (next_gates t ends entries i d gates lt h) in
    let both = length-append (gates ++ gate_if t ends (noted_of (get_or entries i d))) (gates_in t ends (ledger_of (drop (suc i) entries))) in
    let first = length-append gates (gate_if t ends (noted_of (get_or entries i d))) in
    omega (arith, long, both, first, fits)

pub listing_ends : (t : ℕ) (ends : Bool) (entries : List Entry) (i : ℕ) (gates : List ℕ) → length entries ≤ i → AreListing t ends entries i gates → gates ≡ gates_in t ends (ledger_of entries)
listing_ends t ends entries i gates le h =
    sym (append-nil gates) ∙ ap (λ xs. gates ++ gates_in t ends (ledger_of xs)) (sym (drop_all i entries le)) ∙ h.whole
