-- The definitions on a small image: one cell a bucket, three buckets in the chain, a transaction that is being undone.
use Rattle.std.proofs.Common.{◌≡◌, inl, inr, [], ◌∷◌, refl, sym, ap, subst, arith}
use Rattle.std.specs.Prelude.{slice_index}
use Rattle.persist_model.specs.Region.{Words}
use Rattle.persist_model.specs.Records.{Record, Log, HasNo}
use Rattle.persist_model.specs.Standing.{Stands, undone}
use Rattle.persist_model.specs.Order.{undo_point, last_new, Follows}
use Rattle.persist_model.specs.Shape.{Shape, shape_of, heap, words_of_shape, part_of}
use Rattle.persist_model.specs.ImageRecords.{record_at, IsWellFormed}
use Rattle.persist_model.specs.State.{State, IsSoundState, HasRoom, HasNumbers}
use Rattle.log_laws.proofs.Deciding.{decide_equal}
use Rattle.persist_model.specs.Need.{to_undo, need_of, need_in}

abbrev image : Words
image = slice_index (5933297088048660482 ∷ 1 ∷ 1 ∷ 4 ∷ 16 ∷ 1 ∷ 1 ∷ 0 ∷ 32 ∷ 64 ∷ 0 ∷ 0 ∷ 0 ∷ 1 ∷ 0 ∷ 0 ∷ 0 ∷ 0 ∷ 0 ∷ 0 ∷ 0 ∷ 0 ∷ 0 ∷ 0 ∷ 0 ∷ 0 ∷ 0 ∷ 0 ∷ 0 ∷ 0 ∷ 0 ∷ 0 ∷ 48 ∷ 0 ∷ 0 ∷ 0 ∷ 0 ∷ 0 ∷ 0 ∷ 0 ∷ 1 ∷ 7 ∷ 1 ∷ 104 ∷ 5 ∷ 6 ∷ 0 ∷ 0 ∷ 64 ∷ 32 ∷ 0 ∷ 0 ∷ 0 ∷ 0 ∷ 0 ∷ 0 ∷ 2 ∷ 7 ∷ 1 ∷ 104 ∷ 6 ∷ 9 ∷ 1 ∷ 0 ∷ 0 ∷ 48 ∷ 0 ∷ 0 ∷ 0 ∷ 0 ∷ 0 ∷ 0 ∷ 3 ∷ 7 ∷ 2 ∷ 104 ∷ 9 ∷ 6 ∷ 1 ∷ 0 ∷ 0 ∷ 0 ∷ 0 ∷ 0 ∷ 0 ∷ 0 ∷ 0 ∷ 0 ∷ 0 ∷ 0 ∷ 0 ∷ 0 ∷ 0 ∷ 0 ∷ 0 ∷ 0 ∷ [])

abbrev shape : Shape
shape = record { policy = 1; cells = 1; buckets = 4; blocks = 16; structures = 1; format = 2; partitions = 1 }

abbrev first : Record
first = record { at = 40; lsn = 1; transaction = 7; kind = 1; word = 104; before = 5; after = 6; undo_next = 0; outcome = 0 }

abbrev second : Record
second = record { at = 56; lsn = 2; transaction = 7; kind = 1; word = 104; before = 6; after = 9; undo_next = 1; outcome = 0 }

abbrev third : Record
third = record { at = 72; lsn = 3; transaction = 7; kind = 2; word = 104; before = 9; after = 6; undo_next = 1; outcome = 0 }

abbrev log : Log
log = third ∷ second ∷ first ∷ []

shape_is : shape_of image ≡ shape
shape_is = refl

sizes : (heap shape ≡ 96) × (words_of_shape shape ≡ 352)
sizes = (refl, refl)

third_is : record_at image 72 ≡ third
third_is = refl

parts : (part_of shape 40 ≡ 0) × (part_of shape 72 ≡ 0)
parts = (refl, refl)

-- the compensation named the second update, so the first is left
points : (undo_point 7 log ≡ 1) × (undo_point 7 (second ∷ first ∷ []) ≡ 2) × (to_undo 7 log ≡ first ∷ []) × (last_new 7 104 0 log ≡ 6)
points = (refl, refl, refl, refl)

-- a rollback record, one compensation, an end
needs : (need_of log 7 ≡ 3) × (need_in (part_of shape) 0 log ≡ 3)
needs = (refl, refl)

-- the earliest OLD
stands : Stands 1 log image 104 5
stands = undone first (record {
  among = inr (inr (inl refl));
  has = (refl, refl, (λ e m end. elim m [ inl a ↦ cc | inr k ↦ elim k [ inl a ↦ cc | inr j ↦ elim j [ inl a ↦ cc | inr none ↦ absurd none ] ] ]));
  first = λ s m h. elim m [ inl a ↦ rw a (omega arith) | inr k ↦ elim k [ inl a ↦ rw a (omega arith) | inr j ↦ elim j [ inl a ↦ rw a (omega arith) | inr none ↦ absurd none ] ] ];
}) refl

-- ---- a sound state, and one that isn't

abbrev one_update : State
one_update = record { log = first ∷ []; words = image; room = λ p. 3 }

none_else : (P : Record → Type 0) → HasNo P []
none_else P r m p = m

one_sound : IsSoundState shape one_update
one_sound = record {
  newest_first = ((λ s m. absurd m), tt);
  gates = λ r m. elim m [ inl e ↦ (λ z. let k : r.lsn ≡ 1 = ap (λ (y : Record). y.lsn) e in absurd (omega (arith, z, k))) | inr k ↦ absurd k ];
  formed = λ r m. elim m [ inl e ↦ subst (λ (y : Record). IsWellFormed shape y) (sym e) first_formed | inr k ↦ absurd k ];
  order = (
    record {
      fresh = none_else _;
      one_part = none_else _;
      not_ended = none_else _;
      word = λ names. none_else _;
      undo = λ ne running. record {
        no_rollback = λ k. none_else _;
        undo_next = λ u. refl;
        before = λ u. refl;
        compensates = λ two. absurd (omega arith);
      };
    },
    tt,
  );
  room = λ p lt. elim (decide_equal p 0) [
    | inl zero_p ↦ subst (λ q. HasRoom shape (first ∷ []) q 3) (sym zero_p) (record { undo = omega arith; checkpoint = λ z two. absurd (omega arith) })
    | inr other ↦ absurd (omega (arith, other, lt))
  ];
  numbers = λ r m. elim m [
    | inl e ↦ subst (λ (y : Record). HasNumbers shape (first ∷ []) y) (sym e) (record { undo = omega arith; checkpoint = λ two. absurd (omega arith) })
    | inr k ↦ absurd k
  ];
}
  where
    first_formed : IsWellFormed shape first
    first_formed = record {
      kind = (omega arith, omega arith);
      transaction = inr ((omega arith), omega arith);
      change = λ c. ((omega arith, omega arith), λ root. let e = root.2 in absurd (omega (arith, e)));
      deletion = λ six. absurd (omega arith);
      outcome = inr ((omega arith), refl);
    }

-- with two cells of room it isn't sound
two_unsound : IsSoundState shape (record { log = first ∷ []; words = image; room = λ p. 2 }) → ⊥
two_unsound h = let k = (h.room 0 (omega arith)).undo in omega (arith, k)

-- the compensation of the first update in place of the second breaks the order
wrong_third : Follows (part_of shape) log (second ∷ first ∷ []) (record { at = 72; lsn = 3; transaction = 7; kind = 2; word = 104; before = 6; after = 5; undo_next = 0; outcome = 0 }) → ⊥
wrong_third h =
    let well = h.undo (omega arith) (λ e m end. elim m [ inl a ↦ cc | inr k ↦ elim k [ inl a ↦ cc | inr j ↦ elim j [ inl a ↦ cc | inr nothing ↦ absurd nothing ] ] ]) in
    let c = well.compensates refl in
    let p = c.1.point in let n = c.2.after in
    elim c.1.among [ inl e ↦ (let o : c.0.before ≡ 6 = ap (λ (y : Record). y.before) e in omega (arith, n, o)) | inr k ↦ elim k [ inl e ↦ (let l : c.0.lsn ≡ 1 = ap (λ (y : Record). y.lsn) e in omega (arith, p, l)) | inr j ↦ absurd j ] ]
