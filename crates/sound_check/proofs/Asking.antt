-- Tests of rows against facts on their records.
use Rattle.std.proofs.Common.{◌≡◌, ◌⊎◌, ◌↔◌, inl, inr, ℕ, Bool, true, false, not, ◌==◌, ◌&&◌, ◌||◌, List, [], ◌∷◌, map, refl, sym, ap, ◌∙◌, subst, eq-eqb}
use Rattle.std.specs.List.{list_any}
use Rattle.std.proofs.lemmas.Bool.{eqb-true}
use Rattle.persist_model.specs.Records.{Record, Log, IsAmong, Has, HasNo}
use Rattle.persist_model.specs.Order.{is_kind_of}
use Rattle.persist_model.specs.Need.{is_of, has_of, has_kind_of}
use Rattle.bucket_log.specs.declared.scanning.Placed.{Placed}
use Rattle.bucket_log.specs.Scans.{record_of_placed}
use Rattle.bucket_log.proofs.Scans.{among_map, map_among, reverse_among, among_reverse}
use Rattle.log_tables.specs.Rows.{log_of_rows}

-- the test says P
abbrev pub Tells : (Record → Type 0) → (Placed → Bool) → Type 0
Tells P test = (x : Placed) → (test x ≡ true) ↔ P (record_of_placed x)

pub row_among : (rows : List Placed) (x : Placed) → IsAmong rows x → IsAmong (log_of_rows rows) (record_of_placed x)
row_among rows x m = reverse_among (map record_of_placed rows) (record_of_placed x) (map_among rows x m)

pub among_row : (rows : List Placed) (r : Record) → IsAmong (log_of_rows rows) r → (x : Placed) × IsAmong rows x × (r ≡ record_of_placed x)
among_row rows r m = among_map rows r (among_reverse (map record_of_placed rows) r m)

or_true : (s t : Bool) → t ≡ true → (s || t) ≡ true
or_true true t e = refl
or_true false t e = e

any_by : {X : Type 0} (test : X → Bool) (x : X) (xs : List X) (t : Bool) → test x ≡ t → (test x || list_any test xs) ≡ true →
    (list_any test xs ≡ true → (y : X) × IsAmong xs y × (test y ≡ true)) → (y : X) × IsAmong (x ∷ xs) y × (test y ≡ true)
any_by test x xs true h e more = (x, inl refl, h)
any_by test x xs false h e more = let k = more (sym (ap (λ t. t || list_any test xs) h) ∙ e) in (k.0, inr k.1, k.2)

pub any_item : {X : Type 0} (test : X → Bool) (xs : List X) → list_any test xs ≡ true → (x : X) × IsAmong xs x × (test x ≡ true)
any_item test [] e = cc
any_item test (x ∷ xs) e = any_by test x xs (test x) refl e (any_item test xs)

pub item_any : {X : Type 0} (test : X → Bool) (xs : List X) (x : X) → IsAmong xs x → test x ≡ true → list_any test xs ≡ true
item_any test [] x m e = absurd m
item_any test (y ∷ xs) x (inl same) e = ap (λ t. t || list_any test xs) (ap test (sym same) ∙ e)
item_any test (y ∷ xs) x (inr m) e = or_true (test y) (list_any test xs) (item_any test xs x m e)

-- the same of a log
pub log_has : (P : Record → Type 0) (test : Record → Bool) (log : Log) (answer : Bool) → answer ≡ list_any test log → ((r : Record) → (test r ≡ true) ↔ P r) →
    (answer ≡ true) ↔ Has P log
log_has P test log answer e tells = (
  (λ t. let k = any_item test log (sym e ∙ t) in (k.0, k.1, (tells k.0).0 k.2)),
  (λ h. e ∙ item_any test log h.0 h.1 ((tells h.0).1 h.2)),
)

pub kinds_any : (t kind : ℕ) (log : Log) → list_any (is_kind_of t kind) log ≡ has_kind_of t kind log
kinds_any t kind [] = refl
kinds_any t kind (r ∷ log) = ap (λ b. is_kind_of t kind r || b) (kinds_any t kind log)

pub of_any : (t : ℕ) (log : Log) → list_any (is_of t) log ≡ has_of t log
of_any t [] = refl
of_any t (r ∷ log) = ap (λ b. is_of t r || b) (of_any t log)

pub any_has : (P : Record → Type 0) (test : Placed → Bool) (rows : List Placed) (answer : Bool) → answer ≡ list_any test rows → Tells P test →
    (answer ≡ true) ↔ Has P (log_of_rows rows)
any_has P test rows answer e tells = (
  (λ t. let k = any_item test rows (sym e ∙ t) in (record_of_placed k.0, row_among rows k.0 k.1, (tells k.0).0 k.2)),
  (λ h. let k = among_row rows h.0 h.1 in e ∙ item_any test rows k.0 k.1 ((tells k.0).1 (subst P k.2 h.2))),
)

pub both_true : (s t : Bool) (P Q : Type 0) → (s ≡ true) ↔ P → (t ≡ true) ↔ Q → ((s && t) ≡ true) ↔ (P × Q)
both_true true t P Q h k = ((λ e. (h.0 refl, k.0 e)), (λ p. k.1 p.1))
both_true false t P Q h k = ((λ e. cc), (λ p. h.1 p.0))

pub either_true : (s t : Bool) (P Q : Type 0) → (s ≡ true) ↔ P → (t ≡ true) ↔ Q → ((s || t) ≡ true) ↔ (P ⊎ Q)
either_true true t P Q h k = ((λ e. inl (h.0 refl)), (λ p. refl))
either_true false t P Q h k = ((λ e. inr (k.0 e)), (λ p. elim p [ inl p ↦ absurd (let e = h.1 p in cc) | inr q ↦ k.1 q ]))

pub equal_true : (n m : ℕ) → ((n == m) ≡ true) ↔ (n ≡ m)
equal_true n m = ((λ t. eqb-true n m t), (λ e. eq-eqb n m e))

pub not_true : (t : Bool) (P : Type 0) → (t ≡ true) ↔ P → ((not t) ≡ true) ↔ (P → ⊥)
not_true true P h = ((λ e. cc), (λ n. absurd (n (h.0 refl))))
not_true false P h = ((λ e p. let k = h.1 p in cc), (λ n. refl))

-- what the answer tells in other words
pub as_told : (t : Bool) (P Q : Type 0) → (t ≡ true) ↔ P → (P → Q) → (Q → P) → (t ≡ true) ↔ Q
as_told t P Q h on back = ((λ e. on (h.0 e)), (λ q. h.1 (back q)))

-- where it isn't there, no record has P
pub told_none : (P : Record → Type 0) (log : Log) (t : Bool) → (t ≡ true) ↔ Has P log → t ≡ false → HasNo P log
told_none P log t h e r m p = let k = h.1 (r, m, p) in cc

pub and_true : (t : Bool) → (t && true) ≡ t
and_true true = refl
and_true false = refl
