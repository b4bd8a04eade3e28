-- What a sweep makes of the candidates of one word.
use Rattle.std.proofs.Common.{◌≡◌, ◌≢◌, ◌⊎◌, inl, inr, ℕ, ◌+◌, ◌<◌, Bool, IsTrue, cond, List, [], ◌∷◌, ◌++◌, refl, sym, ap, ◌∙◌, subst, arith}
use Rattle.std.proofs.lemmas.Bool.Decides.{eqb_tells}
use Rattle.persist_model.specs.declared.event.Candidate.{Candidate}
use Rattle.persist_model.specs.declared.event.Event.{Event}
use Rattle.persist_model.specs.declared.event.Event.TheVariants.{Store, PStore, WriteBack, Fence}
use Rattle.persist_model.specs.Region.{Region, candidate, with_word, mark_last, fenced, after, IsCandidate, newest}
use Rattle.persist_model.specs.Law.{after_all}
use Rattle.persist_model.specs.Shape.{Shape, IsHeapWord, heap}
use Rattle.persist_model.proofs.Candidates.{newest-push, newest_same_values, map-value_of-mark_last, mark_last-push, newest-fenced, IsCandidate_same_values, IsCandidate-fenced, fenced-push}
use Rattle.persist_model.proofs.OtherFences.{fenced-other}
use Rattle.log_laws.specs.Recovering.{IsOnLog}
use Rattle.noforce_policy.specs.Backed.{HasOneValue, IsNoStoreTo, AreNoStoresTo, IsWrittenBack, IsBesideSweep, AreBesideSweep, TellsDirty}
use Rattle.noforce_policy.specs.BackedLaws.{SweepsSettle, SweptWordsSettle, SweepsTell, LogEventsAreBeside}

-- ---- one word of a region

other_word : (a b : ℕ) (change : List Candidate → List Candidate) (region : Region) → a ≢ b → (with_word b change region).at a ≡ region.at a
other_word a b change region ne = elim (eqb_tells a b) [ inl e ↦ absurd (ne e.1) | inr off ↦ ap (λ t. cond t (change (region.at a)) (region.at a)) off.0 ]

pub same_word : (a : ℕ) (change : List Candidate → List Candidate) (region : Region) → (with_word a change region).at a ≡ change (region.at a)
same_word a change region = elim (eqb_tells a a) [ inl e ↦ ap (λ t. cond t (change (region.at a)) (region.at a)) e.0 | inr off ↦ absurd (off.1 refl) ]

-- a write back changes away value
write_back_cases : (region : Region) (by a b : ℕ) → ((a ≡ b) × ((after region by (WriteBack b)).at a ≡ mark_last (by + 1) (region.at a))) ⊎ ((a ≢ b) × ((after region by (WriteBack b)).at a ≡ region.at a))
write_back_cases region by a b = elim (eqb_tells a b) [
  | inl e ↦ inl (e.1, ap (λ t. cond t (mark_last (by + 1) (region.at a)) (region.at a)) e.0)
  | inr off ↦ inr (off.1, ap (λ t. cond t (mark_last (by + 1) (region.at a)) (region.at a)) off.0)
]

pub same_newest : (region : Region) (by a : ℕ) (e : Event) → IsNoStoreTo a e → newest ((after region by e).at a) ≡ newest (region.at a)
same_newest region by a (Store b v) away = ap newest (other_word a b (λ cs. cs ++ candidate v 0 ∷ []) region away)
same_newest region by a (PStore b v) away = ap newest (other_word a b (λ cs. cs ++ candidate v (by + 1) ∷ []) region away)
same_newest region by a (WriteBack b) away = elim (write_back_cases region by a b) [
  | inl e ↦ ap newest e.1 ∙ newest_same_values (mark_last (by + 1) (region.at a)) (region.at a) (map-value_of-mark_last (by + 1) (region.at a))
  | inr e ↦ ap newest e.1
]
same_newest region by a Fence away = newest-fenced (by + 1) (region.at a)

no_more : (region : Region) (by a v : ℕ) (e : Event) → IsNoStoreTo a e → IsCandidate ((after region by e).at a) v → IsCandidate (region.at a) v
no_more region by a v (Store b u) away k = subst (λ cs. IsCandidate cs v) (other_word a b (λ cs. cs ++ candidate u 0 ∷ []) region away) k
no_more region by a v (PStore b u) away k = subst (λ cs. IsCandidate cs v) (other_word a b (λ cs. cs ++ candidate u (by + 1) ∷ []) region away) k
no_more region by a v (WriteBack b) away k = elim (write_back_cases region by a b) [
  | inl e ↦ IsCandidate_same_values (mark_last (by + 1) (region.at a)) (region.at a) v (map-value_of-mark_last (by + 1) (region.at a)) (subst (λ cs. IsCandidate cs v) e.1 k)
  | inr e ↦ subst (λ cs. IsCandidate cs v) e.1 k
]
no_more region by a v Fence away k = IsCandidate-fenced (by + 1) (region.at a) v k

pub stays : (region : Region) (by a : ℕ) (e : Event) → IsNoStoreTo a e → HasOneValue region a → HasOneValue (after region by e) a
stays region by a e away one v k = one v (no_more region by a v e away k) ∙ sym (same_newest region by a e away)

-- ---- the write back

-- the word's candidates end in this one
written_of : (region : Region) (lane a v : ℕ) (front : List Candidate) → region.at a ≡ front ++ candidate v (lane + 1) ∷ [] → IsWrittenBack lane region a
written_of region lane a v front e =
    (front, e ∙ ap (λ n. front ++ candidate n (lane + 1) ∷ []) (sym (ap newest e ∙ newest-push front (candidate v (lane + 1)))))

mark_last_is : (mark v : ℕ) (cs : List Candidate) → IsCandidate cs v → (front : List Candidate) × (mark_last mark cs ≡ front ++ candidate (newest cs) mark ∷ [])
mark_last_is mark v [] none = absurd none
mark_last_is mark v (c ∷ []) k = ([], refl)
mark_last_is mark v (c ∷ d ∷ cs) k = let again = mark_last_is mark d.value (d ∷ cs) (inl refl) in (c ∷ again.0, ap (λ rest. c ∷ rest) again.1)

written_back : (region : Region) (lane a v : ℕ) → IsCandidate (region.at a) v → IsWrittenBack lane (after region lane (WriteBack a)) a
written_back region lane a v k =
    let m = mark_last_is (lane + 1) v (region.at a) k in
    written_of (after region lane (WriteBack a)) lane a (newest (region.at a)) m.0 (same_word a (mark_last (lane + 1)) region ∙ m.1)

stored : (region : Region) (lane a v : ℕ) → IsWrittenBack lane (after region lane (PStore a v)) a
stored region lane a v = written_of (after region lane (PStore a v)) lane a v (region.at a) (same_word a (λ cs. cs ++ candidate v (lane + 1) ∷ []) region)

next_marks : (a b : ℕ) → a ≢ b → b + 1 ≢ a + 1
next_marks a b ne e = ne (omega (arith, e))

beside : (region : Region) (lane a by : ℕ) (e : Event) → IsBesideSweep lane a by e → IsWrittenBack lane region a → IsWrittenBack lane (after region by e) a
beside region lane a by (Store b v) away w =
    written_of (after region by (Store b v)) lane a (newest (region.at a)) w.0 (other_word a b (λ cs. cs ++ candidate v 0 ∷ []) region away ∙ w.1)
beside region lane a by (PStore b v) away w =
    written_of (after region by (PStore b v)) lane a (newest (region.at a)) w.0 (other_word a b (λ cs. cs ++ candidate v (by + 1) ∷ []) region away ∙ w.1)
beside region lane a by (WriteBack b) own w = elim (write_back_cases region by a b) [
  | inl e ↦ written_of (after region by (WriteBack b)) lane a (newest (region.at a)) w.0 (e.1 ∙ ap (λ n. mark_last (n + 1) (region.at a)) (own e.0)
      ∙ ap (mark_last (lane + 1)) w.1 ∙ mark_last-push (lane + 1) w.0 (candidate (newest (region.at a)) (lane + 1)))
  | inr e ↦ written_of (after region by (WriteBack b)) lane a (newest (region.at a)) w.0 (e.1 ∙ w.1)
]
beside region lane a by Fence other w =
    let f = fenced-other (by + 1) w.0 (candidate (newest (region.at a)) (lane + 1)) (next_marks by lane other) in
    written_of (after region by Fence) lane a (newest (region.at a)) f.0 (ap (fenced (by + 1)) w.1 ∙ f.1)

-- ---- the fence

one_of : (region : Region) (a v : ℕ) → region.at a ≡ candidate v 0 ∷ [] → HasOneValue region a
one_of region a v e u k = elim (subst (λ cs. IsCandidate cs u) e k) [ inl h ↦ sym h ∙ sym (ap newest e) | inr none ↦ absurd none ]

settled : (region : Region) (lane a : ℕ) → IsWrittenBack lane region a → HasOneValue (after region lane Fence) a
settled region lane a w =
    one_of (after region lane Fence) a (newest (region.at a)) (ap (fenced (lane + 1)) w.1 ∙ fenced-push (lane + 1) w.0 (newest (region.at a)))

pub sweeps_settle : SweepsSettle
sweeps_settle = record { written_back = written_back; stored = stored; beside = beside; fenced = settled; stays = stays; same = same_newest }

-- ---- the whole sweep of a word

no_store_beside : (lane a by : ℕ) (e : Event) → IsBesideSweep lane a by e → IsNoStoreTo a e
no_store_beside lane a by (Store b v) away = away
no_store_beside lane a by (PStore b v) away = away
no_store_beside lane a by (WriteBack b) own = tt
no_store_beside lane a by Fence other = tt

-- the word has one value, which is n
abbrev OneIs : Region → ℕ → ℕ → Type 0
OneIs region a n = HasOneValue region a × (newest (region.at a) ≡ n)

stays_all : (region : Region) (a n : ℕ) (rest : List (ℕ × Event)) → AreNoStoresTo a rest → OneIs region a n → OneIs (after_all region rest) a n
stays_all region a n [] away one = one
stays_all region a n (e ∷ rest) away one =
    stays_all (after region e.0 e.1) a n rest away.1 (stays region e.0 a e.1 away.0 one.0, same_newest region e.0 a e.1 away.0 ∙ one.1)

from_written : (region : Region) (lane a n : ℕ) (until rest : List (ℕ × Event)) → AreBesideSweep lane a until → AreNoStoresTo a rest →
    IsWrittenBack lane region a → newest (region.at a) ≡ n → OneIs (after_all region (until ++ (lane, Fence) ∷ rest)) a n
from_written region lane a n [] rest near away w is =
    stays_all (after region lane Fence) a n rest away (settled region lane a w, same_newest region lane a Fence tt ∙ is)
from_written region lane a n (e ∷ until) rest near away w is =
    from_written (after region e.0 e.1) lane a n until rest near.1 away (beside region lane a e.0 e.1 near.0 w)
    (same_newest region e.0 a e.1 (no_store_beside lane a e.0 e.1 near.0) ∙ is)

pub swept_words_settle : SweptWordsSettle
swept_words_settle region lane a v until rest k near away =
    from_written (after region lane (WriteBack a)) lane a (newest (region.at a)) until rest near away (written_back region lane a v k) (same_newest region lane a (WriteBack a) tt)

-- ---- the sweep of all words

tells_stored : (shape : Shape) (dirty later : ℕ → Bool) (lane by b v : ℕ) (region : Region) → ((a : ℕ) → IsTrue (dirty a) → IsTrue (later a)) → IsTrue (later b) →
    TellsDirty shape dirty lane region → TellsDirty shape later lane (after region by (Store b v))
tells_stored shape dirty later lane by b v region more here tells a word = elim (eqb_tells a b) [
  | inl e ↦ inl (subst (λ n. IsTrue (later n)) (sym e.1) here)
  | inr off ↦ elim (tells a word) [
    | inl d ↦ inl (more a d)
    | inr (inl w) ↦ inr (inl (beside region lane a by (Store b v) off.1 w))
    | inr (inr one) ↦ inr (inr (stays region by a (Store b v) off.1 one))
  ]
]

tells_written_back : (shape : Shape) (dirty later : ℕ → Bool) (lane b v : ℕ) (region : Region) → ((a : ℕ) → IsTrue (dirty a) → (a ≡ b) ⊎ IsTrue (later a)) → IsCandidate (region.at b) v →
    TellsDirty shape dirty lane region → TellsDirty shape later lane (after region lane (WriteBack b))
tells_written_back shape dirty later lane b v region less k tells a word = elim (tells a word) [
  | inl d ↦ (elim (less a d) [
    | inl e ↦ inr (inl (subst (λ n. IsWrittenBack lane (after region lane (WriteBack b)) n) (sym e) (written_back region lane b v k)))
    | inr d ↦ inl d
  ])
  | inr (inl w) ↦ inr (inl (beside region lane a lane (WriteBack b) (λ _. refl) w))
  | inr (inr one) ↦ inr (inr (stays region lane a (WriteBack b) tt one))
]

tells_stored_durably : (shape : Shape) (dirty : ℕ → Bool) (lane b v : ℕ) (region : Region) → TellsDirty shape dirty lane region → TellsDirty shape dirty lane (after region lane (PStore b v))
tells_stored_durably shape dirty lane b v region tells a word = elim (eqb_tells a b) [
  | inl e ↦ inr (inl (subst (λ n. IsWrittenBack lane (after region lane (PStore b v)) n) (sym e.1) (stored region lane b v)))
  | inr off ↦ elim (tells a word) [
    | inl d ↦ inl d
    | inr (inl w) ↦ inr (inl (beside region lane a lane (PStore b v) off.1 w))
    | inr (inr one) ↦ inr (inr (stays region lane a (PStore b v) off.1 one))
  ]
]

tells_beside : (shape : Shape) (dirty : ℕ → Bool) (lane by : ℕ) (e : Event) (region : Region) → ((a : ℕ) → IsHeapWord shape a → IsBesideSweep lane a by e) →
    TellsDirty shape dirty lane region → TellsDirty shape dirty lane (after region by e)
tells_beside shape dirty lane by e region near tells a word = elim (tells a word) [
  | inl d ↦ inl d
  | inr (inl w) ↦ inr (inl (beside region lane a by e (near a word) w))
  | inr (inr one) ↦ inr (inr (stays region by a e (no_store_beside lane a by e (near a word)) one))
]

tells_fenced : (shape : Shape) (dirty : ℕ → Bool) (lane : ℕ) (region : Region) → TellsDirty shape dirty lane region →
    (a : ℕ) → IsHeapWord shape a → IsTrue (dirty a) ⊎ HasOneValue (after region lane Fence) a
tells_fenced shape dirty lane region tells a word = elim (tells a word) [
  | inl d ↦ inl d
  | inr (inl w) ↦ inr (settled region lane a w)
  | inr (inr one) ↦ inr (stays region lane a Fence tt one)
]

pub sweeps_tell : SweepsTell
sweeps_tell = record {
  begins = λ shape dirty lane region one a word. elim (one a word) [ inl d ↦ inl d | inr k ↦ inr (inr k) ];
  stores = tells_stored;
  writes_back = tells_written_back;
  stores_durably = tells_stored_durably;
  beside = tells_beside;
  fences = tells_fenced;
  swept = λ shape dirty lane region log undone tells a is redo. elim (tells_fenced shape dirty lane region tells a is.heap_word) [
    | inl d ↦ (let u = undone a is.heap_word d in absurd (is.not_undone u.0 u.1 u.2))
    | inr one ↦ one
  ];
  kept = λ shape region log by e away swept a is redo. elim (away a is.heap_word) [
    | inl off ↦ stays region by a e off (swept a is redo)
    | inr u ↦ absurd (is.not_undone u.0 u.1 u.2)
  ];
}

-- ---- events on the log

high : (shape : Shape) (a b : ℕ) → IsHeapWord shape a → b < heap shape → a ≢ b
high shape a b word lt e = let le = word.0 in omega (arith, le, lt, e)

log_stores : (shape : Shape) (a : ℕ) (e : Event) → IsHeapWord shape a → IsOnLog shape e → IsNoStoreTo a e
log_stores shape a (Store b v) word lt = high shape a b word lt
log_stores shape a (PStore b v) word lt = high shape a b word lt
log_stores shape a (WriteBack b) word lt = tt
log_stores shape a Fence word on = tt

log_sweeps : (shape : Shape) (lane a by : ℕ) (e : Event) → IsHeapWord shape a → IsOnLog shape e → (e ≡ Fence → by ≢ lane) → IsBesideSweep lane a by e
log_sweeps shape lane a by (Store b v) word lt other = high shape a b word lt
log_sweeps shape lane a by (PStore b v) word lt other = high shape a b word lt
log_sweeps shape lane a by (WriteBack b) word lt other = λ e. absurd (high shape a b word lt e)
log_sweeps shape lane a by Fence word on other = other refl

pub log_events_are_beside : LogEventsAreBeside
log_events_are_beside = record { stores = log_stores; sweeps = log_sweeps }
