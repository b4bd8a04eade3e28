-- Wherever a lane has come in a write or in the giving back of a block, its next part may begin.
use Rattle.std.proofs.Common.{◌≡◌, ◌≢◌, inl, inr, ℕ, List, [], ◌∷◌, refl, sym, ap, subst, arith}
use Rattle.persist_model.specs.Records.{Record, Log, Has, IsUpdate, IsRunning}
use Rattle.persist_model.specs.Shape.{Shape}
use Rattle.persist_model.specs.State.{State}
use Rattle.log_laws.specs.Recovery.{HasDecidingRecord}
use Rattle.region_layout.specs.declared.cell.Cell.{Cell}
use Rattle.region_layout.specs.declared.layout.Policy.{Policy}
use Rattle.region_layout.specs.declared.layout.Policy.TheVariants.{Force, NoForce}
use Rattle.bucket_log.specs.declared.append.Place.{Place}
use Rattle.plan_records.specs.declared.parts.Update.{Update}
use Rattle.plan_records.specs.declared.parts.Giving.{Giving}
use Rattle.plan_records.specs.declared.parts.Part.{Part}
use Rattle.plan_records.specs.declared.parts.Part.TheVariants.{Append, Word}
use Rattle.plan_records.specs.Cells.{cell_of_update, cell_of_deletion, appended}
use Rattle.plan_records.specs.Sequences.{store_of}
use Rattle.plan_records.specs.Passing.{inserted}
use Rattle.plan_records.specs.Courses.{own_records, IsAside, Course, begins, appends, makes, meanwhile, IsCoveredStore, MayBegin, write_parts, give_parts, WritesGoOn, GivesGoOn}
use Rattle.plan_records.proofs.OwnRecords.{own_gained, own_in, own_out}
use Rattle.plan_records.proofs.Records.{updates_keep, deletions_keep}

-- ---- a write

-- The next part of the write, and what follows it, fit these own records.
data Next (policy : Policy) (u : Update) (o : Log) : Part → List Part → Type 0 where
  notes : IsRunning o u.transaction → Next policy u o (Append (cell_of_update u)) (Word (store_of policy u.word u.after) ∷ [])
  stores : IsRunning o u.transaction → Has (λ r. IsUpdate r × (r.word ≡ u.word) × (r.transaction ≡ u.transaction)) o → Next policy u o (Word (store_of policy u.word u.after)) []

data Fits (policy : Policy) (u : Update) (o : Log) : List Part → Type 0 where
  comes : {part : Part} {others : List Part} → Next policy u o part others → Fits policy u o (part ∷ others)
  done : Fits policy u o []

running_own : (t : ℕ) (log : Log) → IsRunning log t → IsRunning (own_records t log) t
running_own t log running e m end = running e (own_out t log e m).0 end

running_all : (t : ℕ) (log : Log) → IsRunning (own_records t log) t → IsRunning log t
running_all t log running e m end = running e (own_in t log e m (end.1, λ five. (let four = end.0 in absurd (omega (arith, four, five))))) end

module _ (policy : Policy) (shape : Shape) (p : ℕ) (u : Update) where
  after_append : (o : Log) (cell : Cell) (place : Place) (number : ℕ) (others : List Part) → Next policy u o (Append cell) others →
      (cell.transaction ≡ u.transaction) × (cell.kind ≢ 5) × Fits policy u (appended place number cell ∷ o) others
  after_append o _ place number _ (notes running) = (
    refl,
    (λ e. absurd (omega (arith, e))),
    comes (stores (λ e m end. elim m [ inl same ↦ (let one : e.kind ≡ 1 = ap (λ (x : Record). x.kind) same in let four = end.0 in absurd (omega (arith, one, four))) | inr k ↦ running e k end ])
        (appended place number (cell_of_update u), inl refl, (refl, refl, refl))),
  )

  after_aside : (o : Log) (part : Part) (others : List Part) → Next policy u o part others → IsAside part → Fits policy u o others
  after_aside o _ _ (notes running) aside = absurd aside
  after_aside o _ _ (stores running has) aside = done

  fits : (s : State) (x : State) (others : List Part) → IsRunning s.log u.transaction → Course shape p u.transaction s (write_parts policy u) others x → Fits policy u (own_records u.transaction x.log) others
  fits s _ _ running begins = comes (notes (running_own u.transaction s.log running))
  fits s _ _ running (appends {rest = others} {x = x} cell place number course inside newest) = by (fits s x (Append cell ∷ others) running course)
    where
      by : Fits policy u (own_records u.transaction x.log) (Append cell ∷ others) → Fits policy u (own_records u.transaction (inserted (appended place number cell) x.log)) others
      by (comes next) =
          let k = after_append (own_records u.transaction x.log) cell place number others next in
          subst (λ o. Fits policy u o others) (sym (own_gained u.transaction (appended place number cell) x.log (k.0, k.1) newest)) k.2
  fits s _ _ running (makes {rest = others} {x = x} part course aside) = by (fits s x (part ∷ others) running course)
    where
      by : Fits policy u (own_records u.transaction x.log) (part ∷ others) → Fits policy u (own_records u.transaction x.log) others
      by (comes next) = after_aside (own_records u.transaction x.log) part others next aside
  fits s _ _ running (meanwhile {rest = others} {x = x} y course same) = subst (λ o. Fits policy u o others) (sym same) (fits s x others running course)

  begin : (x : State) (part : Part) (others : List Part) → Next policy u (own_records u.transaction x.log) part others → MayBegin shape p u.transaction x part
  begin x _ _ (notes running) = λ w chain place number may. record {
    updates = λ _ can. updates_keep shape p w x chain place number u may can;
    deletes = λ six. absurd (omega (arith, six));
    commits = λ four. absurd (omega (arith, four));
    ends = λ four. absurd (omega (arith, four));
    keeps = λ ne _ _. absurd (ne refl);
  }
  begin x _ _ (stores running has) = by policy
    where
      covered : HasDecidingRecord shape.policy x.log u.word
      covered = inl (has.0, (own_out u.transaction x.log has.0 has.1).0, (has.2.0, has.2.1, subst (λ y. IsRunning x.log y) (sym has.2.2) (running_all u.transaction x.log running)))

      by : (q : Policy) → IsCoveredStore shape.policy x.log (store_of q u.word u.after)
      by Force = covered
      by NoForce = covered

pub writes_go_on : WritesGoOn
writes_go_on policy shape p s u running part others x course = by (fits policy shape p u s x (part ∷ others) running course)
  where
    by : Fits policy u (own_records u.transaction x.log) (part ∷ others) → MayBegin shape p u.transaction x part
    by (comes next) = begin policy shape p u x part others next

-- ---- a block that is given back

data IsGiving (g : Giving) : List Part → Type 0 where
  gives : IsGiving g (Append (cell_of_deletion g) ∷ [])
  given : IsGiving g []

giving : (shape : Shape) (p : ℕ) (g : Giving) (s x : State) (others : List Part) → Course shape p g.transaction s (give_parts g) others x → IsGiving g others
giving shape p g s _ _ begins = gives
giving shape p g s _ _ (appends {rest = others} {x = x} cell place number course inside newest) = by cell others (giving shape p g s x (Append cell ∷ others) course)
  where
    by : (cell : Cell) (rest : List Part) → IsGiving g (Append cell ∷ rest) → IsGiving g rest
    by _ _ gives = given
giving shape p g s _ _ (makes {rest = others} {x = x} part course aside) = by part others aside (giving shape p g s x (part ∷ others) course)
  where
    by : (part : Part) (rest : List Part) → IsAside part → IsGiving g (part ∷ rest) → IsGiving g rest
    by _ _ aside gives = absurd aside
giving shape p g s _ _ (meanwhile {rest = others} {x = x} y course same) = giving shape p g s x others course

pub gives_go_on : GivesGoOn
gives_go_on shape p s g part others x course = by part others (giving shape p g s x (part ∷ others) course)
  where
    by : (part : Part) (others : List Part) → IsGiving g (part ∷ others) → MayBegin shape p g.transaction x part
    by _ _ gives = λ w chain place number may. record {
      updates = λ one. absurd (omega (arith, one));
      deletes = λ _ can. deletions_keep shape p w x chain place number g may can;
      commits = λ four. absurd (omega (arith, four));
      ends = λ four. absurd (omega (arith, four));
      keeps = λ _ _ ne. absurd (ne refl);
    }
