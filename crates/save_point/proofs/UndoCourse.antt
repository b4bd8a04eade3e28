-- Wherever a lane has come in going back, its next part may begin: what is left of the undo fits the transaction's own records.
use Rattle.std.proofs.Common.{◌≡◌, ◌↔◌, inl, inr, ℕ, ◌≤◌, List, [], ◌∷◌, ◌++◌, refl, sym, ap, ◌∙◌, subst, arith}
use Rattle.persist_model.specs.Kinds.{COMPENSATION}
use Rattle.persist_model.specs.Records.{Record, Log, IsAmong, Has, HasNo, IsOf, IsUpdate, IsRollback, IsRunning}
use Rattle.persist_model.specs.Shape.{Shape, part_of}
use Rattle.persist_model.specs.Need.{rest, to_undo}
use Rattle.persist_model.specs.State.{State}
use Rattle.log_laws.specs.Recovery.{HasDecidingRecord}
use Rattle.region_layout.specs.declared.cell.Cell.{Cell}
use Rattle.region_layout.specs.declared.layout.Policy.{Policy}
use Rattle.region_layout.specs.declared.layout.Policy.TheVariants.{Force, NoForce}
use Rattle.region_layout.specs.RecordCells.{cell_of_compensation}
use Rattle.bucket_log.specs.declared.append.Place.{Place}
use Rattle.bucket_log.specs.Plans.{place_address}
use Rattle.plan_records.specs.declared.parts.Part.{Part}
use Rattle.plan_records.specs.declared.parts.Part.TheVariants.{Append, Word}
use Rattle.plan_records.specs.Cells.{appended, IsCellOf}
use Rattle.plan_records.specs.Sequences.{store_of, undo_parts}
use Rattle.plan_records.specs.Courses.{own_records, IsAside, begins, appends, makes, meanwhile, IsCoveredStore, MayBegin, IsGoing, AreCellsOf}
use Rattle.plan_records.proofs.OwnRecords.{own_gained, own_in, own_out, to_undo_own, to_undo_less, to_undo_among}
use Rattle.plan_records.proofs.Going.{part_is, going_own, going_all, going_more, running_of}
use Rattle.plan_records.proofs.Records.{compensations_keep}
use Rattle.save_point.specs.Conditions.{CanGoBack, IsDeletionOf, Undoes}
use Rattle.save_point.specs.Images.{BacksGoOn, BacksStayOpen}
use Rattle.save_point.specs.Ends.{top_number}
use Rattle.save_point.proofs.OwnPoints.{HasPoint, IsLinked, undo_point_less}

-- what stays of t's own records, which were those of first
pub record Stays (shape : Shape) (p t : ℕ) (first o : Log) : Type 0 where
  pub going : IsGoing shape p t o
  pub not_rolled : HasNo (λ x. IsOf t x × IsRollback x) o
  pub deletions : (d : Record) → IsDeletionOf t d → IsAmong o d ↔ IsAmong first d
  pub point : HasPoint t first → HasPoint t o

-- the cells are those of the records before left
abbrev pub AreBefore : List Cell → Log → Log → Type 0
AreBefore cells left stack = (front : Log) × AreCellsOf cells front × (stack ≡ front ++ left)

abbrev pub HasUpdated : ℕ → Log → ℕ → Type 0
HasUpdated t o a = Has (λ u. IsUpdate u × (u.word ≡ a) × (u.transaction ≡ t)) o

-- What is left of the undo fits these own records.
pub data Fits (policy : Policy) (shape : Shape) (p t : ℕ) (left first o : Log) : List Part → Type 0 where
  compensates : (u : Cell) (us : List Cell) → Stays shape p t first o → AreBefore (u ∷ us) left (to_undo t o) →
      Fits policy shape p t left first o (Append (cell_of_compensation u) ∷ Word (store_of policy u.word u.before) ∷ undo_parts policy us)
  restores : (u : Cell) (us : List Cell) → Stays shape p t first o → AreBefore us left (to_undo t o) → HasUpdated t o u.word →
      Fits policy shape p t left first o (Word (store_of policy u.word u.before) ∷ undo_parts policy us)
  done : Stays shape p t first o → to_undo t o ≡ left → Fits policy shape p t left first o []

-- the update on top, and those below
pub first_cell : (u : Cell) (us : List Cell) (left stack : Log) → AreBefore (u ∷ us) left stack →
    (v : Record) × (below : Log) × (stack ≡ v ∷ below) × IsCellOf u v × AreBefore us left below
first_cell u us left stack h = by h.0 h.1 h.2
  where
    by : (front : Log) → AreCellsOf (u ∷ us) front → stack ≡ front ++ left → (v : Record) × (below : Log) × (stack ≡ v ∷ below) × IsCellOf u v × AreBefore us left below
    by [] cells is = absurd cells
    by (v ∷ front) cells is = (v, front ++ left, is, cells.0, (front, cells.1, refl))

nothing_before : (left stack : Log) → AreBefore [] left stack → stack ≡ left
nothing_before left stack h = by h.0 h.1 h.2
  where
    by : (front : Log) → AreCellsOf [] front → stack ≡ front ++ left → stack ≡ left
    by [] cells is = is
    by (v ∷ front) cells is = absurd cells

module _ (policy : Policy) (shape : Shape) (p t : ℕ) (left first : Log) where
  enter : (o : Log) (us : List Cell) → Stays shape p t first o → AreBefore us left (to_undo t o) → Fits policy shape p t left first o (undo_parts policy us)
  enter o [] stays before = done stays (nothing_before left (to_undo t o) before)
  enter o (u ∷ us) stays before = compensates u us stays before

  -- the compensation of the update on top
  compensated : (o : Log) (v : Record) (below : Log) (c : Record) → Stays shape p t first o → to_undo t o ≡ v ∷ below → c.kind ≡ COMPENSATION → c.transaction ≡ t →
      c.undo_next ≡ v.undo_next → part_of shape c.at ≡ p → Stays shape p t first (c ∷ o)
  compensated o v below c stays top two own next inside = record {
    going = going_more shape p t o c stays.going (λ four. absurd (omega (arith, two, four))) inside;
    not_rolled = λ x m roll. elim m [
      | inl same ↦ (let three = roll.1 in let k : x.kind ≡ COMPENSATION = ap (λ (y : Record). y.kind) same ∙ two in absurd (omega (arith, three, k)))
      | inr k ↦ stays.not_rolled x k roll
    ];
    deletions = λ d is. (
      (λ m. elim m [
        | inl same ↦ (let six = is.0 in let k : d.kind ≡ COMPENSATION = ap (λ (y : Record). y.kind) same ∙ two in absurd (omega (arith, six, k)))
        | inr k ↦ (stays.deletions d is).0 k
      ]),
      (λ m. inr ((stays.deletions d is).1 m)),
    );
    point = λ h. (let k = stays.point h in let linked : IsLinked (v ∷ below) = subst IsLinked top k.linked in
        let less : to_undo t (c ∷ o) ≡ below = to_undo_less t c o two own ∙ ap rest top in record {
          linked = subst IsLinked (sym less) linked.1;
          point = undo_point_less t c o two own ∙ next ∙ linked.0 ∙ sym (ap top_number less);
        });
  }

  pub after_append : (o : Log) (cell : Cell) (place : Place) (number : ℕ) (others : List Part) → Fits policy shape p t left first o (Append cell ∷ others) →
      part_of shape (place_address place) ≡ p → (cell.transaction ≡ t) × (cell.kind ≡ COMPENSATION) × Fits policy shape p t left first (appended place number cell ∷ o) others
  after_append o _ place number _ (compensates u us stays before) inside =
      let top = first_cell u us left (to_undo t o) before in
      let v = to_undo_among t o top.0 (subst (λ l. IsAmong l top.0) (sym top.2) (inl refl)) in
      let own : u.transaction ≡ t = ap (λ (x : Record). x.transaction) top.3 ∙ v.2 in
      let c : Record = appended place number (cell_of_compensation u) in (
        own,
        refl,
        restores u us (compensated o top.0 top.1 c stays top.2 refl own (ap (λ (x : Record). x.undo_next) top.3) inside)
            (subst (AreBefore us left) (sym (to_undo_less t c o refl own ∙ ap rest top.2)) top.4)
            (top.0, inr v.0, (v.1, ap (λ (x : Record). x.word) (sym top.3), v.2)),
      )

  after_aside : (o : Log) (part : Part) (others : List Part) → Fits policy shape p t left first o (part ∷ others) → IsAside part → Fits policy shape p t left first o others
  after_aside o _ _ (compensates u us stays before) aside = absurd aside
  after_aside o _ _ (restores u us stays before has) aside = enter o us stays before

  -- a course keeps what is left fitting
  along : (s : State) (us : List Cell) (x : State) (others : List Part) → first ≡ own_records t s.log → CanGoBack shape p t s.log us left →
      Undoes policy shape p t s us others x → Fits policy shape p t left first (own_records t x.log) others
  along s us _ _ is can begins = subst (λ o. Fits policy shape p t left first o (undo_parts policy us)) is (enter first us (record {
    going = subst (IsGoing shape p t) (sym is) (going_own shape p t s.log can.going);
    not_rolled = subst (HasNo (λ x. IsOf t x × IsRollback x)) (sym is) (λ r m k. can.not_rolled r (own_out t s.log r m).0 k);
    deletions = λ d k. ((λ m. m), (λ m. m));
    point = λ h. h;
  }) (can.front, can.cells, ap (to_undo t) is ∙ sym (to_undo_own t s.log) ∙ can.newest))
  along s us _ _ is can (appends {rest = others} {x = x} cell place number course inside newest) =
      let k = after_append (own_records t x.log) cell place number others (along s us x (Append cell ∷ others) is can course) inside in
      subst (λ o. Fits policy shape p t left first o others)
      (sym (own_gained t (appended place number cell) x.log (k.0, (let two = k.1 in λ five. absurd (omega (arith, two, five)))) newest)) k.2
  along s us _ _ is can (makes {rest = others} {x = x} part course aside) = after_aside (own_records t x.log) part others (along s us x (part ∷ others) is can course) aside
  along s us _ _ is can (meanwhile {rest = others} {x = x} y course same) = subst (λ o. Fits policy shape p t left first o others) (sym same) (along s us x others is can course)

  -- ---- and so the next part may begin

  covered : (x : State) (a : ℕ) → IsGoing shape p t (own_records t x.log) → HasUpdated t (own_records t x.log) a → HasDecidingRecord shape.policy x.log a
  covered x a going has = inl (has.0, (own_out t x.log has.0 has.1).0, (has.2.0, has.2.1, subst (λ y. IsRunning x.log y) (sym has.2.2) (going_all shape p t x.log going).running))

  begin : (x : State) (part : Part) (others : List Part) → Fits policy shape p t left first (own_records t x.log) (part ∷ others) → MayBegin shape p t x part
  begin x _ _ (compensates u us stays before) =
      let top = first_cell u us left (to_undo t (own_records t x.log)) before in
      let v = to_undo_among t (own_records t x.log) top.0 (subst (λ l. IsAmong l top.0) (sym top.2) (inl refl)) in
      let own : u.transaction ≡ t = ap (λ (y : Record). y.transaction) top.3 ∙ v.2 in
      λ w chain place number may. record {
        updates = λ one. absurd (omega (arith, one));
        deletes = λ six. absurd (omega (arith, six));
        commits = λ four. absurd (omega (arith, four));
        ends = λ four. absurd (omega (arith, four));
        keeps = λ _ _ _ _. compensations_keep shape p w x chain place number top.0 u top.3 may (record {
          transaction = subst (λ y. 1 ≤ y) (sym own) stays.going.transaction;
          running = running_of shape p t x (appended place number (cell_of_compensation u)) (going_all shape p t x.log stays.going) own
              (part_is shape p w x chain place (appended place number (cell_of_compensation u)) may);
          stack = top.1;
          newest = ap (λ y. to_undo y x.log) own ∙ to_undo_own t x.log ∙ top.2;
        });
      }
  begin x _ _ (restores u us stays before has) = by policy
    where
      by : (q : Policy) → IsCoveredStore shape.policy x.log (store_of q u.word u.before)
      by Force = covered x u.word stays.going has
      by NoForce = covered x u.word stays.going has

  -- ---- what stays of t

  staying : (o : Log) (others : List Part) → Fits policy shape p t left first o others → Stays shape p t first o
  staying o _ (compensates u us stays before) = stays
  staying o _ (restores u us stays before has) = stays
  staying o _ (done stays is) = stays

pub fits : (policy : Policy) (shape : Shape) (p t : ℕ) (s : State) (us : List Cell) (left : Log) (others : List Part) (x : State) → CanGoBack shape p t s.log us left →
    Undoes policy shape p t s us others x → Fits policy shape p t left (own_records t s.log) (own_records t x.log) others
fits policy shape p t s us left others x can course = along policy shape p t left (own_records t s.log) s us x others refl can course

pub stays_open : (policy : Policy) (shape : Shape) (p t : ℕ) (s : State) (us : List Cell) (left : Log) (others : List Part) (x : State) → CanGoBack shape p t s.log us left →
    Undoes policy shape p t s us others x → Stays shape p t (own_records t s.log) (own_records t x.log)
stays_open policy shape p t s us left others x can course =
    staying policy shape p t left (own_records t s.log) (own_records t x.log) others (fits policy shape p t s us left others x can course)

pub backs_go_on : BacksGoOn
backs_go_on policy shape p t s us left can part others x course =
    begin policy shape p t left (own_records t s.log) x part others (fits policy shape p t s us left (part ∷ others) x can course)

pub rolls_nowhere : (shape : Shape) (p t : ℕ) (first : Log) (x : State) → Stays shape p t first (own_records t x.log) → HasNo (λ y. IsOf t y × IsRollback y) x.log
rolls_nowhere shape p t first x stays y m k = stays.not_rolled y (own_in t x.log y m k.0) k

pub backs_stay_open : BacksStayOpen
backs_stay_open = record {
  running = λ policy shape p t s us left others x can course. (going_all shape p t x.log (stays_open policy shape p t s us left others x can course).going).running;
  not_rolled = λ policy shape p t s us left others x can course. rolls_nowhere shape p t (own_records t s.log) x (stays_open policy shape p t s us left others x can course);
}
