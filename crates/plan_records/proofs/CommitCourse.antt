-- Wherever a lane has come in a commit, its next part may begin: what is left of the plan fits the transaction's own records.
use Rattle.std.proofs.Common.{◌≡◌, ◌≢◌, inl, inr, ℕ, List, [], ◌∷◌, ◌++◌, refl, sym, ◌∙◌, subst, arith}
use Rattle.persist_model.specs.declared.event.Event.TheVariants.{PStore}
use Rattle.persist_model.specs.Records.{Record, Log, IsCommitted, IsEnded}
use Rattle.persist_model.specs.Shape.{Shape}
use Rattle.persist_model.specs.State.{State}
use Rattle.region_layout.specs.declared.cell.Cell.{Cell}
use Rattle.region_layout.specs.declared.layout.Policy.{Policy}
use Rattle.region_layout.specs.declared.layout.Policy.TheVariants.{Force, NoForce}
use Rattle.bucket_log.specs.declared.append.Place.{Place}
use Rattle.plan_records.specs.declared.parts.Part.{Part}
use Rattle.plan_records.specs.declared.parts.Part.TheVariants.{Append, Word, Fence, Clear}
use Rattle.persist_model.specs.declared.kinds.Outcome.TheVariants.{Committed}
use Rattle.plan_records.specs.Cells.{appended}
use Rattle.region_layout.specs.RecordCells.{cell_of_end}
use Rattle.plan_records.specs.Sequences.{zero_parts, owner_parts}
use Rattle.plan_records.specs.Passing.{inserted}
use Rattle.plan_records.specs.Courses.{own_records, IsAside, Course, begins, appends, makes, meanwhile, MayBegin, IsGoing, AreGiven, CanCommit, commit_parts, CommitsGoOn}
use Rattle.plan_records.proofs.OwnRecords.{own_gained, own_in, own_out}
use Rattle.plan_records.proofs.Going.{part_is, going_own, going_all, open_of, clear_serves}
use Rattle.plan_records.proofs.Records.{commit_ends_write}

-- The next part of the commit, and what follows it, fit these own records.
data Next (shape : Shape) (p t : ℕ) (o : Log) : Part → List Part → Type 0 where
  waits : (owners : List ℕ) → IsGoing shape p t o → AreGiven t o owners → Next shape p t o Fence (Append (cell_of_end t Committed) ∷ (owner_parts owners ++ Clear ∷ []))
  ends : (owners : List ℕ) → IsGoing shape p t o → AreGiven t o owners → Next shape p t o (Append (cell_of_end t Committed)) (owner_parts owners ++ Clear ∷ [])
  ends_alone : IsGoing shape p t o → Next shape p t o (Append (cell_of_end t Committed)) []
  deletes : (a : ℕ) (owners : List ℕ) → IsCommitted o t → AreGiven t o (a ∷ owners) → Next shape p t o (Word (PStore a 0)) ((zero_parts owners ++ Fence ∷ []) ++ Clear ∷ [])
  waits_again : IsCommitted o t → Next shape p t o Fence (Clear ∷ [])
  clears : IsEnded o t → Next shape p t o Clear []

data Fits (shape : Shape) (p t : ℕ) (o : Log) : List Part → Type 0 where
  comes : {part : Part} {others : List Part} → Next shape p t o part others → Fits shape p t o (part ∷ others)
  done : Fits shape p t o []

over : (o : Log) (t : ℕ) → IsCommitted o t → IsEnded o t
over o t h = (h.0, h.1, h.2.0)

given_more : (t : ℕ) (o : Log) (r : Record) (owners : List ℕ) → AreGiven t o owners → AreGiven t (r ∷ o) owners
given_more t o r owners h = λ a m. (let k = h a m in (k.0, inr k.1, k.2))

module _ (shape : Shape) (p t : ℕ) where
  -- the stores that are left, and the fence
  enter : (o : Log) (owners : List ℕ) → IsCommitted o t → AreGiven t o owners → Fits shape p t o ((zero_parts owners ++ Fence ∷ []) ++ Clear ∷ [])
  enter o [] ended given = comes (waits_again ended)
  enter o (a ∷ owners) ended given = comes (deletes a owners ended given)

  enter_all : (o : Log) (owners : List ℕ) → IsCommitted o t → AreGiven t o owners → Fits shape p t o (owner_parts owners ++ Clear ∷ [])
  enter_all o [] ended given = comes (clears (over o t ended))
  enter_all o (a ∷ owners) ended given = comes (deletes a owners ended given)

  after_append : (o : Log) (cell : Cell) (place : Place) (number : ℕ) (others : List Part) → Next shape p t o (Append cell) others →
      (cell.transaction ≡ t) × (cell.kind ≢ 5) × Fits shape p t (appended place number cell ∷ o) others
  after_append o _ place number _ (ends owners going given) = (
    refl,
    (λ e. absurd (omega (arith, e))),
    enter_all (appended place number (cell_of_end t Committed) ∷ o) owners (appended place number (cell_of_end t Committed), inl refl, ((refl, refl), refl))
        (given_more t o (appended place number (cell_of_end t Committed)) owners given),
  )
  after_append o _ place number _ (ends_alone going) = (refl, (λ e. absurd (omega (arith, e))), done)

  after_aside : (o : Log) (part : Part) (others : List Part) → Next shape p t o part others → IsAside part → Fits shape p t o others
  after_aside o _ _ (waits owners going given) aside = comes (ends owners going given)
  after_aside o _ _ (ends owners going given) aside = absurd aside
  after_aside o _ _ (ends_alone going) aside = absurd aside
  after_aside o _ _ (deletes a owners ended given) aside = enter o owners ended (λ b m. given b (inr m))
  after_aside o _ _ (waits_again ended) aside = comes (clears (over o t ended))
  after_aside o _ _ (clears ended) aside = absurd aside

  fits : (policy : Policy) (s : State) (owners : List ℕ) (x : State) (others : List Part) → CanCommit shape p t s.log owners → Course shape p t s (commit_parts policy t owners) others x →
      Fits shape p t (own_records t x.log) others
  fits policy s owners _ _ can begins = first policy
    where
      given : AreGiven t (own_records t s.log) owners
      given a m = let k = can.given a m in
          (k.0, own_in t s.log k.0 k.1 (k.2.2, λ five. (let six = k.2.0 in absurd (omega (arith, five, six)))), k.2)

      first : (policy : Policy) → Fits shape p t (own_records t s.log) (commit_parts policy t owners)
      first Force = comes (waits owners (going_own shape p t s.log can.going) given)
      first NoForce = comes (ends_alone (going_own shape p t s.log can.going))
  fits policy s owners _ _ can (appends {rest = others} {x = x} cell place number course inside newest) = by (fits policy s owners x (Append cell ∷ others) can course)
    where
      by : Fits shape p t (own_records t x.log) (Append cell ∷ others) → Fits shape p t (own_records t (inserted (appended place number cell) x.log)) others
      by (comes next) =
          let k = after_append (own_records t x.log) cell place number others next in
          subst (λ o. Fits shape p t o others) (sym (own_gained t (appended place number cell) x.log (k.0, k.1) newest)) k.2
  fits policy s owners _ _ can (makes {rest = others} {x = x} part course aside) = by (fits policy s owners x (part ∷ others) can course)
    where
      by : Fits shape p t (own_records t x.log) (part ∷ others) → Fits shape p t (own_records t x.log) others
      by (comes next) = after_aside (own_records t x.log) part others next aside
  fits policy s owners _ _ can (meanwhile {rest = others} {x = x} y course same) = subst (λ o. Fits shape p t o others) (sym same) (fits policy s owners x others can course)

  -- ---- and so the next part may begin

  end_begins : (x : State) → IsGoing shape p t (own_records t x.log) → MayBegin shape p t x (Append (cell_of_end t Committed))
  end_begins x going = λ w chain place number may. record {
    updates = λ one. absurd (omega (arith, one));
    deletes = λ six. absurd (omega (arith, six));
    commits = λ _ _ kept. commit_ends_write shape p w x chain place number t may
        (open_of shape p t x (appended place number (cell_of_end t Committed)) 1 (going_all shape p t x.log going) refl
        (part_is shape p w x chain place (appended place number (cell_of_end t Committed)) may) kept);
    ends = λ _ two _. absurd (omega (arith, two));
    keeps = λ _ ne _ _. absurd (ne refl);
  }

  begin : (x : State) (part : Part) (others : List Part) → Next shape p t (own_records t x.log) part others → MayBegin shape p t x part
  begin x _ _ (waits owners going given) = tt
  begin x _ _ (ends owners going given) = end_begins x going
  begin x _ _ (ends_alone going) = end_begins x going
  begin x _ _ (deletes a owners ended given) =
      let d = given a (inl refl) in
      inr (inl (d.0, (own_out t x.log d.0 d.1).0, (d.2.0, d.2.1, (ended.0, (own_out t x.log ended.0 ended.1).0, ((ended.2.0.0, ended.2.0.1 ∙ sym d.2.2), ended.2.1)))))
  begin x _ _ (waits_again ended) = tt
  begin x _ _ (clears ended) = clear_serves shape t x (ended.0, (own_out t x.log ended.0 ended.1).0, ended.2)

pub commits_go_on : CommitsGoOn
commits_go_on policy shape p t s owners can part others x course = by (fits shape p t policy s owners x (part ∷ others) can course)
  where
    by : Fits shape p t (own_records t x.log) (part ∷ others) → MayBegin shape p t x part
    by (comes next) = begin shape p t x part others next
