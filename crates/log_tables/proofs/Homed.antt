-- One transaction more, at its earliest record.
use Rattle.std.proofs.Common.{◌≡◌, ℕ, ◌+◌, Bool, true, false, not, ◌==◌, ◌&&◌, if◌then◌else◌, List, [], ◌∷◌, ◌++◌, refl, sym, ap, ◌∙◌, zero-add, append-nil, add_comm}
use Rattle.std.specs.Prelude.{sum_by}
use Rattle.std.proofs.lemmas.List.Sums.{sum_by_push}
use Rattle.persist_model.specs.Records.{Record, Log}
use Rattle.persist_model.specs.Need.{has_of, sum_over}
use Rattle.log_tables.specs.declared.transactions.Home.{Home}
use Rattle.log_tables.specs.Homes.{share_of, AreHomes}

and_assoc : (a b c : Bool) → (a && (b && c)) ≡ ((a && b) && c)
and_assoc true b c = refl
and_assoc false b c = refl

-- what is put behind the others adds its share
pushed : (p : ℕ) (number : ℕ → ℕ) (homes : List Home) (home : Home) (first : Bool) →
    (if first && (home.part == p) then number home.transaction else 0) + sum_by (share_of p number) homes ≡ sum_by (share_of p number) (homes ++ (if first then home ∷ [] else []))
pushed p number homes home true = add_comm (share_of p number home) (sum_by (share_of p number) homes) ∙ sym (sum_by_push (share_of p number) homes home)
pushed p number homes home false = zero-add (sum_by (share_of p number) homes) ∙ sym (ap (sum_by (share_of p number)) (append-nil homes))

pub homes_more : (part : ℕ → ℕ) (homes : List Home) (r : Record) (log : Log) (first has : Bool) → first ≡ (not (r.kind == 5) && not has) → has ≡ has_of r.transaction log → AreHomes part homes log →
    AreHomes part (homes ++ (if first then record { transaction = r.transaction; part = part r.at } ∷ [] else [])) (r ∷ log)
homes_more part homes r log first has is_first is_has homes_are p number =
    ap (λ b. (if b then number r.transaction else 0) + sum_over part p number log)
    (and_assoc (not (r.kind == 5)) (not (has_of r.transaction log)) (part r.at == p) ∙ ap (λ h. (not (r.kind == 5) && not h) && (part r.at == p)) (sym is_has) ∙ ap (λ b. b && (part r.at == p)) (sym is_first))
    ∙ ap (λ n. (if first && (part r.at == p) then number r.transaction else 0) + n) (homes_are p number)
    ∙ pushed p number homes (record { transaction = r.transaction; part = part r.at }) first
