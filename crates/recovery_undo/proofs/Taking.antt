-- What the append of a record needs and leaves, from the conditions of the call.
use Rattle.std.proofs.Common.{◌≡◌, ◌≢◌, ◌⊎◌, inl, inr, ℕ, ◌+◌, ◌<◌, ◌≤◌, length, refl, sym, ap, ◌∙◌, subst, arith, Bool, true, false}
use Rattle.std.specs.Prelude.{All}
use Rattle.std.proofs.lemmas.Bool.Decides.{eqb_tells}
use Rattle.persist_model.specs.Region.{Words, Region}
use Rattle.persist_model.specs.Records.{Record}
use Rattle.persist_model.specs.Shape.{Shape, log_words, list_words, part_of, IsBucketOf}
use Rattle.persist_model.specs.Chain.{view}
use Rattle.persist_model.specs.State.{State}
use Rattle.lane_traits.specs.Device.{IsWithin}
use Rattle.log_laws.specs.StateAppends.{IsAppend}
use Rattle.log_laws.specs.MoveRoom.{TakesCell}
use Rattle.log_laws.specs.Recovering.{RECOVERY_LANE}
use Rattle.log_laws.specs.Parts.{after_plan}
use Rattle.log_laws.proofs.Views.{list_words_cases}
use Rattle.region_layout.specs.declared.cell.Cell.{Cell}
use Rattle.region_layout.specs.declared.layout.Layout.{Layout}
use Rattle.region_layout.specs.Cell.{record_of}
use Rattle.region_layout.specs.Layout.{layout_shape, IsAllowed}
use Rattle.bucket_log.specs.declared.append.Place.{Place}
use Rattle.bucket_log.specs.Appends.{CanAppend, region_append}
use Rattle.bucket_log.specs.Places.{IsPlaceBy}
use Rattle.bucket_log.specs.Plans.{place_address}
use Rattle.bucket_log.specs.States.{less_room}
use Rattle.bucket_log.proofs.Appended.{appends_are_states, appends_take_cell}
use Rattle.bucket_log.proofs.AppendImages.{Each-among}
use Rattle.bucket_log.proofs.Partitions.{few_parts, part_of_cell}
use Rattle.recovery_run.specs.Edges.{StoreElsewhere, HasOnlyValue, KeepsWords, IsPlainHeaderWord, AreOffHeader}
use Rattle.recovery_run.specs.Reached.{newest_at, IsQuiet}
use Rattle.recovery_run.proofs.Aside.{plan_keeps}
use Rattle.recovery_run.proofs.Composing.{size_plan}
use Rattle.recovery_run.proofs.Reaching.{log_word_one, read_newest, newest_one}
use Rattle.recovery_undo.specs.RecoveryAppends.{CanTake, IsPlaceFor}
use Rattle.recovery_undo.proofs.Places.{allowed, has}
use Rattle.recovery_undo.proofs.Planned.{IsBehind, behind, elsewhere, to_append_zero, all_within}

pub list_words_few : (p : ℕ) → p < 3 → list_words p ≤ 26
list_words_few p lt = let x = list_words_cases p lt in grind (arith, x)

-- the list words of two partitions are apart
lists_apart : (p q i : ℕ) → p < 3 → q < 3 → i ≤ 4 → q ≢ p → (list_words q + i < list_words p) ⊎ (list_words p + 3 < list_words q + i)
lists_apart p q i few few_q le ne = elim (list_words_cases p few) [
  | inl a ↦ (let x = a.1 in elim (list_words_cases q few_q) [
    | inl b ↦ absurd (ne (b.0 ∙ sym a.0))
    | inr b ↦ elim b [ inl c ↦ (let z = c.1 in inr (omega (arith, x, z))) | inr c ↦ (let z = c.1 in inr (omega (arith, x, z))) ]
  ])
  | inr a ↦ elim a [
    | inl d ↦ (let x = d.1 in elim (list_words_cases q few_q) [
      | inl b ↦ (let z = b.1 in inl (omega (arith, x, z, le)))
      | inr b ↦ elim b [ inl c ↦ absurd (ne (c.0 ∙ sym d.0)) | inr c ↦ (let z = c.1 in inr (omega (arith, x, z))) ]
    ])
    | inr d ↦ (let x = d.1 in elim (list_words_cases q few_q) [
      | inl b ↦ (let z = b.1 in inl (omega (arith, x, z, le)))
      | inr b ↦ elim b [ inl c ↦ (let z = c.1 in inl (omega (arith, x, z, le))) | inr c ↦ absurd (ne (c.0 ∙ sym d.0)) ]
    ])
  ]
]

-- words that can be nothing but 0 are read as 0
pub reads_zero : (region : Region) (a : ℕ) → a < region.size → 0 < length (region.at a) → HasOnlyValue 0 (region.at a) → newest_at region a ≡ 0
reads_zero region a lt some one = read_newest region a lt ∙ newest_one (region.at a) 0 some one

module _ (layout : Layout) (p : ℕ) (cell : Cell) (first y : State) (region : Region) (can : CanTake layout p cell first y region)
    (place : Place) (takes : IsQuiet p (newest_at region) → IsPlaceFor (layout_shape layout) p (newest_at region) place) where
  abbrev shape : Shape
  shape = layout_shape layout

  abbrev r : Record
  r = record_of (place_address place) cell

  abbrev w : Words
  w = newest_at region

  ok : IsAllowed shape
  ok = allowed layout first y region can.reached

  few : p < 3
  few = few_parts shape p ok can.inside

  pub appends : CanAppend (layout_shape layout) p (view p (log_words (layout_shape layout) (newest_at region))) (takes can.quiet).chain place (record_of (place_address place) cell)
  appends = (takes can.quiet).takes r refl can.gate

  pub is_append : IsAppend (layout_shape layout) (newest_at region) y (record_of (place_address place) cell) (less_room p y.room)
      (region_append (layout_shape layout) p place (record_of (place_address place) cell))
  is_append = appends_are_states shape p w y (takes can.quiet).chain place r ok can.inside (has layout first y region can.reached) appends can.above

  pub cell_taken : TakesCell (layout_shape layout) y (record_of (place_address place) cell) (less_room p y.room)
  cell_taken = appends_take_cell shape p w y (takes can.quiet).chain place r ok can.inside (has layout first y region can.reached) appends

  bucket_by : (fresh : Bool) → IsPlaceBy shape p (view p (log_words shape w)) (takes can.quiet).chain place fresh → IsBucketOf shape p place.bucket
  bucket_by true is = is.bucket
  bucket_by false is = Each-among (IsBucketOf shape p) (takes can.quiet).chain place.bucket appends.at_rest.buckets is.bucket

  pub in_part : part_of (layout_shape layout) (place_address place) ≡ p
  in_part = part_of_cell shape p place.bucket place.cell ok can.inside (bucket_by place.fresh appends.is_place) appends.below

  stands_behind : IsBehind place
  stands_behind = behind shape p (view p (log_words shape w)) (takes can.quiet).chain place r appends

  away : (a : ℕ) → a < 32 → (a < list_words p) ⊎ (list_words p + 3 < a) → StoreElsewhere a (region_append shape p place r)
  away a low off = elsewhere shape.cells p a place r stands_behind refl low off

  pub off_header : AreOffHeader (layout_shape layout) (region_append (layout_shape layout) p place (record_of (place_address place) cell))
  off_header a is = away a is.below (elim (is.apart p can.inside) [ inl lt ↦ inl lt | inr lt ↦ inr (omega (arith, lt)) ])

  pub within : All (IsWithin region.size) (region_append (layout_shape layout) p place (record_of (place_address place) cell))
  within = all_within shape region.size (let e = can.reached.come.size in omega (arith, e)) (region_append shape p place r) is_append.on_log

  pub keeps_header : (later : Region) → KeepsWords (λ a. StoreElsewhere a (region_append (layout_shape layout) p place (record_of (place_address place) cell))) region later →
      KeepsWords (IsPlainHeaderWord (layout_shape layout)) region later
  keeps_header later keeps a v is one = keeps a v (off_header a is) one

  -- ---- the recovery words

  one_zero : (a : ℕ) → a < 32 → w a ≡ 0 → HasOnlyValue 0 (region.at a)
  one_zero a low is = subst (λ v. HasOnlyValue v (region.at a)) is (log_word_one shape first y region can.reached a (omega (arith, low)))

  stays_zero : (later : Region) → later ≡ after_plan RECOVERY_LANE region (region_append shape p place r) → ((a : ℕ) → 0 < length (later.at a)) → (a : ℕ) → a < 32 →
      HasOnlyValue 0 ((after_plan RECOVERY_LANE region (region_append shape p place r)).at a) → newest_at later a ≡ 0
  stays_zero later is some a low one =
      let same : later.size ≡ region.size = ap (λ (z : Region). z.size) is ∙ size_plan RECOVERY_LANE region (region_append shape p place r) in
      let enough : 32 ≤ region.size = can.reached.header.header.enough in
      reads_zero later a (omega (arith, low, same, enough)) (some a) (subst (λ (z : Region). HasOnlyValue 0 (z.at a)) (sym is) one)

  pub stays_quiet : (later : Region) → later ≡ after_plan RECOVERY_LANE region (region_append (layout_shape layout) p place (record_of (place_address place) cell)) →
      ((a : ℕ) → 0 < length (later.at a)) → (q : ℕ) → q < layout.partitions → IsQuiet q (newest_at region) → IsQuiet q (newest_at later)
  stays_quiet later is some q lt quiet =
      let few_q = few_parts shape q ok lt in
      let low = list_words_few q few_q in (
        stays_zero later is some (list_words q + 2) (omega (arith, low)) (elim (eqb_tells q p) [
          | inl e ↦ subst (λ n. HasOnlyValue 0 ((after_plan RECOVERY_LANE region (region_append shape p place r)).at (list_words n + 2))) (sym e.1)
              (to_append_zero shape.cells p place r region few stands_behind refl (one_zero (list_words p + 2) (let l = list_words_few p few in omega (arith, l)) can.quiet.0))
          | inr ne ↦ kept (list_words q + 2) (omega (arith, low)) quiet.0 (apart 2 few_q (omega arith) ne.1)
        ]),
        stays_zero later is some (list_words q + 4) (omega (arith, low)) (kept (list_words q + 4) (omega (arith, low)) quiet.1 (elim (eqb_tells q p) [
          | inl e ↦ (let same : list_words q ≡ list_words p = ap list_words e.1 in inr (omega (arith, same)))
          | inr ne ↦ apart 4 few_q (omega arith) ne.1
        ])),
      )
    where
      kept : (a : ℕ) → a < 32 → w a ≡ 0 → (a < list_words p) ⊎ (list_words p + 3 < a) → HasOnlyValue 0 ((after_plan RECOVERY_LANE region (region_append shape p place r)).at a)
      kept a low none off = plan_keeps RECOVERY_LANE region (region_append shape p place r) a 0 (away a low off) (one_zero a low none)

      apart : (i : ℕ) → q < 3 → i ≤ 4 → q ≢ p → (list_words q + i < list_words p) ⊎ (list_words p + 3 < list_words q + i)
      apart i few_q le ne = lists_apart p q i few few_q le ne
