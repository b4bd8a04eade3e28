-- What the recovery words ask for.
use Rattle.std.proofs.Common.{◌≡◌, ◌≢◌, inl, inr, ℕ, ◌+◌, ◌*◌, ◌<◌, ◌≤◌, ◌==◌, Bool, true, false, if◌then◌else◌, List, refl, sym, ◌∙◌, arith}
use Rattle.std.proofs.Math.Nat.{mul-le-mul_right}
use Rattle.std.proofs.lemmas.Bool.Decides.{nat_tests}
use Rattle.persist_model.specs.declared.format.TheConstants.{MAX_WORDS}
use Rattle.persist_model.specs.Region.{Words}
use Rattle.persist_model.specs.Shape.{Shape, IsBucketOf, heap, list_words}
use Rattle.persist_model.specs.Chain.{IsLink, ListRules}
use Rattle.persist_model.specs.State.{State}
use Rattle.persist_model.specs.Sound.{HasState}
use Rattle.atomic_list.specs.declared.repairing.Repair.TheVariants.{Nothing, Append, Remove as TakeOut}
use Rattle.atomic_list.specs.Plans.{repair_asked, removal_asked, insertion_asked}
use Rattle.atomic_list.specs.Repairing.{CanRepair}
use Rattle.region_layout.specs.Layout.{IsAllowed}
use Rattle.bucket_log.proofs.Appended.{inside_log}
use Rattle.bucket_log.proofs.Partitions.{bucket_word_below, part_word_below}
use Rattle.recovery_run.specs.Reached.{IsQuiet}
use Rattle.recovery_lists.specs.Repairs.{seen, asked_in}

zero_of : (n : ℕ) → (n == 0) ≡ true → n ≡ 0
zero_of n e = grind (arith, nat_tests)

some_of : (n : ℕ) → (n == 0) ≡ false → n ≢ 0
some_of n e z = grind (arith, nat_tests)

-- the buckets of a repair are within any region
can_of : (bucket : ℕ → Type 0) (w : Words) (chain : List ℕ) → ((b : ℕ) → bucket b → b < MAX_WORDS) → ListRules bucket w chain → CanRepair (repair_asked w)
can_of bucket w chain small rules = by (w 10 == 0) (w 12 == 0) (some_of (w 12))
  where
    small_link : (b : ℕ) → IsLink bucket b → b < MAX_WORDS
    small_link b (inl e) = omega (arith, e)
    small_link b (inr is) = small b is

    by : (t u : Bool) → (u ≡ false → w 12 ≢ 0) → CanRepair (if t then (if u then Nothing else TakeOut (removal_asked w (w 12))) else Append (insertion_asked w))
    by true true some = tt
    by true false some = small_link (w (w 12)) (rules.addresses.removed (some refl)).0
    by false u some = small_link (w 10) (rules.addresses.registers 10 (omega arith) (omega arith))

-- words that ask for nothing
nothing_of : (w : Words) → repair_asked w ≡ Nothing → (w 10 ≡ 0) × (w 12 ≡ 0)
nothing_of w = by (w 10 == 0) (w 12 == 0) (zero_of (w 10)) (zero_of (w 12))
  where
    by : (t u : Bool) → (t ≡ true → w 10 ≡ 0) → (u ≡ true → w 12 ≡ 0) → (if t then (if u then Nothing else TakeOut (removal_asked w (w 12))) else Append (insertion_asked w)) ≡ Nothing →
        (w 10 ≡ 0) × (w 12 ≡ 0)
    by true true first second e = (first refl, second refl)
    by true false first second e = cc
    by false u first second e = cc

heap_small : (shape : Shape) → IsAllowed shape → heap shape ≤ 139296
heap_small shape ok = let most = ok.buckets.1 in elim ok.cells [ inl e ↦ rows shape.buckets shape.cells most (omega (arith, e)) | inr e ↦ rows shape.buckets shape.cells most (omega (arith, e)) ]
  where
    rows : (buckets cells : ℕ) → buckets ≤ 1024 → cells ≤ 16 → 32 + buckets * (8 + 8 * cells) ≤ 139296
    rows buckets cells most few =
        let a : 8 + 8 * cells ≤ 136 = omega (arith, few) in
        let b : buckets * (8 + 8 * cells) ≤ 1024 * (8 + 8 * cells) = mul-le-mul_right {m = buckets} {n = 1024} (8 + 8 * cells) most in
        omega (arith, a, b)

-- a bucket is within any region
pub bucket_small : (shape : Shape) → IsAllowed shape → (p : ℕ) → p < shape.partitions → (b : ℕ) → IsBucketOf shape p b → b < MAX_WORDS
bucket_small shape ok p inside b is =
    let below : b < heap shape = bucket_word_below shape p b ok inside (b, is, omega arith, omega arith) in
    let few = heap_small shape ok in
    omega (arith, below, few)

module _ (shape : Shape) (ok : IsAllowed shape) (p : ℕ) (inside : p < shape.partitions) (w : Words) where
  pub append_word : seen shape p w 10 ≡ w (list_words p + 2)
  append_word = inside_log shape w (list_words p + 2) (part_word_below shape p (list_words p + 2) ok inside (inl (omega arith, omega arith)))

  pub remove_word : seen shape p w 12 ≡ w (list_words p + 4)
  remove_word = inside_log shape w (list_words p + 4) (part_word_below shape p (list_words p + 4) ok inside (inl (omega arith, omega arith)))

  -- a quiet partition asks for nothing,
  pub quiet_asks_none : IsQuiet p w → asked_in shape p w ≡ Nothing
  quiet_asks_none quiet = (let first : seen shape p w 10 ≡ 0 = append_word ∙ quiet.0 in let second : seen shape p w 12 ≡ 0 = remove_word ∙ quiet.1 in asks first second)
    where
      asks : seen shape p w 10 ≡ 0 → seen shape p w 12 ≡ 0 → asked_in shape p w ≡ Nothing
      asks first second = rw (first, second)

  -- and one that does is quiet
  pub none_is_quiet : asked_in shape p w ≡ Nothing → IsQuiet p w
  none_is_quiet e = let words = nothing_of (seen shape p w) e in (sym append_word ∙ words.0, sym remove_word ∙ words.1)

  pub can_repair : (s : State) → HasState shape w s → CanRepair (asked_in shape p w)
  can_repair s has = can_of (IsBucketOf shape p) (seen shape p w) (has.chains p) (bucket_small shape ok p inside) (has.lists p inside).rules
