-- How far the plan of a migration has come with its first events.
use Rattle.std.proofs.Common.{◌≡◌, ◌≢◌, ◌⊎◌, inl, inr, ℕ, zero, suc, ◌+◌, ◌<◌, ◌≤◌, ◌==◌, if◌then◌else◌, List, [], ◌∷◌, ◌++◌, map, take, refl, sym, ap, ◌∙◌, subst, arith, append-nil, append_assoc}
use Rattle.std.specs.List.{range_with_len}
use Rattle.std.proofs.lemmas.Bool.Decides.{eqb_tells}
use Rattle.persist_model.specs.declared.event.Event.{Event}
use Rattle.persist_model.specs.declared.event.Event.TheVariants.{PStore, Fence}
use Rattle.persist_model.specs.Region.{Words}
use Rattle.persist_model.specs.Progress.{Progress, Write, write, Wrote, latest, start, advance, advance_all, Reaches}
use Rattle.persist_model.specs.Records.{IsAmong}
use Rattle.persist_model.specs.Shape.{FIRST_MAGIC, SECOND_MAGIC}
use Rattle.persist_model.proofs.Projecting.{advance_all-append, take_cases, latest_none}
use Rattle.log_laws.proofs.Views.{take-map}
use Rattle.region_layout.specs.declared.layout.Kind.{Kind}
use Rattle.migration.specs.Plan.{IsReserved, reserved_words, reserved_word, store_reserved, migration_plan}
use Rattle.migration.specs.Migrated.{KeepsRest, AreMigrated, IsOnTheWay, first, second}
use Rattle.migration.specs.Laws.{PlanIsOnTheWay, PlanMigrates, WayGoesOn}

-- ---- the reserved words

range_has : (from n a : ℕ) → from ≤ a → a < from + n → IsAmong (range_with_len from n) a
range_has from zero a low high = absurd (omega (arith, low, high))
range_has from (suc n) a low high = elim (eqb_tells a from) [
  | inl e ↦ inl e.1
  | inr e ↦ (let ne = e.1 in inr (range_has (from + 1) n a (omega (arith, low, ne)) (omega (arith, high))))
]

range_within : (from n a : ℕ) → IsAmong (range_with_len from n) a → (from ≤ a) × (a < from + n)
range_within from zero a m = elim m [ ]
range_within from (suc n) a (inl e) = (omega (arith, e), omega (arith, e))
range_within from (suc n) a (inr m) = let k = range_within (from + 1) n a m in let low = k.0 in let high = k.1 in (omega (arith, low), omega (arith, high))

reserved_among : (a : ℕ) → IsReserved a → IsAmong reserved_words a
reserved_among a (inl e) = inl e
reserved_among a (inr (inl e)) = inr (inl e)
reserved_among a (inr (inr k)) = let high = k.1 in inr (inr (range_has 13 19 a k.0 (omega (arith, high))))

pub among_reserved : (a : ℕ) → IsAmong reserved_words a → IsReserved a
among_reserved a (inl e) = inl e
among_reserved a (inr (inl e)) = inr (inl e)
among_reserved a (inr (inr m)) = let k = range_within 13 19 a m in let high = k.1 in inr (inr (k.0, omega (arith, high)))

among_take : (k : ℕ) (xs : List ℕ) (a : ℕ) → IsAmong (take k xs) a → IsAmong xs a
among_take zero xs a m = elim m [ ]
among_take (suc k) [] a m = elim m [ ]
among_take (suc k) (x ∷ xs) a (inl e) = inl e
among_take (suc k) (x ∷ xs) a (inr m) = inr (among_take k xs a m)

zero_is_not : IsReserved 0 → ⊥
zero_is_not (inl e) = absurd (omega (arith, e))
zero_is_not (inr (inl e)) = absurd (omega (arith, e))
zero_is_not (inr (inr k)) = let low = k.0 in absurd (omega (arith, low))

-- ---- stores of a value for each address

module _ (value : ℕ → ℕ) where
  abbrev store_of : ℕ → Event
  store_of a = PStore a (value a)

  abbrev write_of : ℕ → Write
  write_of a = write a (value a)

  stores_advance : (p : Progress) (xs : List ℕ) → advance_all p (map store_of xs) ≡ record { durable = p.durable; pending = p.pending ++ map write_of xs }
  stores_advance p [] = λ i. record { durable = p.durable; pending = (sym (append-nil p.pending)) i }
  stores_advance p (x ∷ xs) =
      stores_advance (advance p (store_of x)) xs ∙ (λ i. record { durable = p.durable; pending = (append_assoc p.pending (write_of x ∷ []) (map write_of xs)) i })

  wrote_among : (xs : List ℕ) (a v : ℕ) → Wrote (map write_of xs) a v → IsAmong xs a
  wrote_among [] a v k = k
  wrote_among (x ∷ xs) a v (inl k) = inl (sym k.0)
  wrote_among (x ∷ xs) a v (inr k) = inr (wrote_among xs a v k)

  latest_stays : (xs : List ℕ) (a u : ℕ) → u ≡ value a → latest (map write_of xs) a u ≡ value a
  latest_stays [] a u e = e
  latest_stays (x ∷ xs) a u e = latest_stays xs a (if x == a then value x else u) (elim (eqb_tells x a) [
    | inl t ↦ (let on = t.0 in rw on (ap value t.1))
    | inr f ↦ (let off = f.0 in rw off e)
  ])

  latest_among : (xs : List ℕ) (a u : ℕ) → IsAmong xs a → latest (map write_of xs) a u ≡ value a
  latest_among [] a u m = elim m [ ]
  latest_among (x ∷ xs) a u (inl e) = latest_stays xs a (if x == a then value x else u) (elim (eqb_tells x a) [
    | inl t ↦ (let on = t.0 in rw on (ap value t.1))
    | inr f ↦ absurd (f.1 (sym e))
  ])
  latest_among (x ∷ xs) a u (inr m) = latest_among xs a (if x == a then value x else u) m

-- ---- the plan

-- what comes behind the reserved words
abbrev pub tail : List Event
tail = Fence ∷ PStore 0 SECOND_MAGIC ∷ Fence ∷ []

abbrev Everywhere : ℕ → Type 0
Everywhere a = Unit {0}

take_none : (j : ℕ) → ◌≡◌ {A = List Event} (take j []) []
take_none zero = refl
take_none (suc j) = refl

module _ (kinds : List Kind) (w : Words) where
  abbrev stored : List Write
  stored = map (write_of (reserved_word kinds)) reserved_words

  -- behind the first fence
  abbrev filled : Words
  filled = λ a. latest stored a (w a)

  -- behind the second
  abbrev whole : Words
  whole = λ a. latest (write 0 SECOND_MAGIC ∷ []) a (filled a)

  filled_reserved : (a : ℕ) → IsReserved a → filled a ≡ reserved_word kinds a
  filled_reserved a is = latest_among (reserved_word kinds) reserved_words a (w a) (reserved_among a is)

  filled_rest : (a : ℕ) → (IsReserved a → ⊥) → filled a ≡ w a
  filled_rest a off = latest_none stored a (w a) (λ v k. off (among_reserved a (wrote_among (reserved_word kinds) reserved_words a v k)))

  whole_there : whole 0 ≡ SECOND_MAGIC
  whole_there = refl

  whole_else : (a : ℕ) → a ≢ 0 → whole a ≡ filled a
  whole_else a ne = elim (eqb_tells 0 a) [
    | inl t ↦ absurd (ne (sym t.1))
    | inr f ↦ (let off = f.0 in rw off refl)
  ]

  whole_is : (i : Words) → ((a : ℕ) → i a ≡ whole a) → AreMigrated kinds w i
  whole_is i same = record {
    magic = same 0;
    reserved = λ a is. same a ∙ whole_else a (λ e. zero_is_not (subst IsReserved e is)) ∙ filled_reserved a is;
    rest = λ a ne off. same a ∙ whole_else a ne ∙ filled_rest a off;
  }

  filled_is : w 0 ≡ FIRST_MAGIC → (i : Words) → i 0 ≡ w 0 → ((a : ℕ) → a ≢ 0 → i a ≡ filled a) → IsOnTheWay kinds w i
  filled_is magic i at same = first (at ∙ magic) (λ a ne off. same a ne ∙ filled_rest a off)

  stores_there : advance_all (start w) (map (store_reserved kinds) reserved_words) ≡ record { durable = w; pending = stored }
  stores_there = stores_advance (reserved_word kinds) (start w) reserved_words

  pub plan_end : advance_all (start w) (migration_plan kinds) ≡ start whole
  unfolding migration_plan
  plan_end = advance_all-append (start w) (map (store_reserved kinds) reserved_words) tail ∙ ap (λ (p : Progress). advance_all p tail) stores_there

  pub plan_migrates_here : AreMigrated kinds w whole
  plan_migrates_here = whole_is whole (λ a. refl)

  before_fence : (k : ℕ) (i : Words) → w 0 ≡ FIRST_MAGIC → Reaches Everywhere (advance_all (start w) (map (store_reserved kinds) (take k reserved_words))) i → IsOnTheWay kinds w i
  before_fence k i magic reached = first (kept 0 zero_is_not ∙ magic) (λ a ne off. kept a off)
    where
      there : Reaches Everywhere (record { durable = w; pending = map (write_of (reserved_word kinds)) (take k reserved_words) }) i
      there = subst (λ (p : Progress). Reaches Everywhere p i) (stores_advance (reserved_word kinds) (start w) (take k reserved_words)) reached

      kept : (a : ℕ) → (IsReserved a → ⊥) → i a ≡ w a
      kept a off = elim (there a tt) [
        | inl e ↦ e
        | inr k ↦ absurd (off (among_reserved a (among_take _ reserved_words a (wrote_among (reserved_word kinds) (take _ reserved_words) a (i a) k))))
      ]

  behind_fence : (j : ℕ) (i : Words) → w 0 ≡ FIRST_MAGIC → Reaches Everywhere (advance_all (record { durable = w; pending = stored }) (take (suc j) tail)) i → IsOnTheWay kinds w i
  behind_fence zero i magic reached = filled_is magic i (same 0 ∙ filled_rest 0 zero_is_not) (λ a ne. same a)
    where
      same : (a : ℕ) → i a ≡ filled a
      same a = elim (reached a tt) [ inl e ↦ e | inr k ↦ absurd k ]
  behind_fence (suc zero) i magic reached = by_magic (reached 0 tt)
    where
      beside : (a : ℕ) → a ≢ 0 → i a ≡ filled a
      beside a ne = elim (reached a tt) [ inl e ↦ e | inr k ↦ elim k [ inl e ↦ absurd (ne (sym e.0)) | inr none ↦ absurd none ] ]

      by_magic : (i 0 ≡ filled 0) ⊎ Wrote (write 0 SECOND_MAGIC ∷ []) 0 (i 0) → IsOnTheWay kinds w i
      by_magic (inl e) = filled_is magic i (e ∙ filled_rest 0 zero_is_not) beside
      by_magic (inr (inl e)) = second (record {
        magic = e.1;
        reserved = λ a is. beside a (λ z. zero_is_not (subst IsReserved z is)) ∙ filled_reserved a is;
        rest = λ a ne off. beside a ne ∙ filled_rest a off;
      })
      by_magic (inr (inr none)) = absurd none
  behind_fence (suc (suc j)) i magic reached = second (whole_is i same)
    where
      there : Reaches Everywhere (start whole) i
      there = subst (λ (es : List Event). Reaches Everywhere (advance_all (start whole) es) i) (take_none j) reached

      same : (a : ℕ) → i a ≡ whole a
      same a = elim (there a tt) [ inl e ↦ e | inr k ↦ absurd k ]

pub plan_is_on_the_way : PlanIsOnTheWay
unfolding migration_plan
plan_is_on_the_way kinds w i k magic reached = elim (take_cases k (map (store_reserved kinds) reserved_words) tail) [
  | inl e ↦ before_fence kinds w k i magic (subst (λ (es : List Event). Reaches Everywhere (advance_all (start w) es) i) (e ∙ take-map (store_reserved kinds) k reserved_words) reached)
  | inr c ↦ behind_fence kinds w c.0 i magic (subst (λ (p : Progress). Reaches Everywhere p i)
      (ap (λ (es : List Event). advance_all (start w) es) c.1 ∙ advance_all-append (start w) (map (store_reserved kinds) reserved_words) (take (suc c.0) tail)
      ∙ ap (λ (p : Progress). advance_all p (take (suc c.0) tail)) (stores_there kinds w)) reached)
]

pub plan_migrates : PlanMigrates
plan_migrates kinds w = (whole kinds w, plan_end kinds w, plan_migrates_here kinds w)

pub way_goes_on : WayGoesOn
way_goes_on kinds w i z way there = record {
  magic = there.magic;
  reserved = there.reserved;
  rest = λ a ne off. there.rest a ne off ∙ kept way a ne off;
}
  where
    kept : IsOnTheWay kinds w i → KeepsRest w i
    kept (first magic rest) = rest
    kept (second are) = are.rest
