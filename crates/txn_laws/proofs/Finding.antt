-- What is found in the words of a lane.
use Rattle.std.proofs.Common.{◌≡◌, inl, inr, ℕ, zero, suc, ◌<◌, Bool, true, false, if◌then◌else◌, List, [], ◌∷◌, length, refl, sym, ◌∙◌, arith}
use Rattle.persist_model.specs.declared.event.Candidate.{Candidate}
use Rattle.persist_model.specs.Region.{Words, Region, IsCandidate, newest}
use Rattle.persist_model.specs.Progress.{latest}
use Rattle.persist_model.specs.Records.{Log}
use Rattle.persist_model.specs.Standing.{Stands, undone, deleted, redone, kept}
use Rattle.persist_model.proofs.Candidates.{IsCandidate_newest}
use Rattle.txn_laws.specs.Txns.{Txn, idle, txn_at, written}
use Rattle.txn_laws.specs.Owners.{IsMine}
use Rattle.txn_laws.specs.Heaps.{now_of, IsKept}

pub idle_none : (a : ℕ) → IsMine idle a → ⊥
idle_none a e = cc

-- a lane's own word has what the lane wrote
pub now_own : (lanes : List Txn) (h : Words) (l a : ℕ) → ((j k : ℕ) → IsMine (txn_at lanes j) a → IsMine (txn_at lanes k) a → j ≡ k) → IsMine (txn_at lanes l) a →
    now_of lanes h a ≡ latest (written (txn_at lanes l)) a (h a)
now_own [] h l a apart mine = absurd (idle_none a mine)
now_own (x ∷ lanes) h zero a apart mine = rw mine refl
now_own (x ∷ lanes) h (suc l) a apart mine = by (x.words a) refl (now_own lanes h l a (λ j k m n. (let e = apart (suc j) (suc k) m n in omega (arith, e))) mine)
  where
    by : (b : Bool) → x.words a ≡ b → now_of lanes h a ≡ latest (written (txn_at lanes l)) a (h a) →
        (if x.words a then latest (written x) a (h a) else now_of lanes h a) ≡ latest (written (txn_at lanes l)) a (h a)
    by true is further = let e = apart zero (suc l) is mine in absurd (omega (arith, e))
    by false is further = rw is further

-- nobody's word is the history's
pub now_nobodys : (lanes : List Txn) (h : Words) (a : ℕ) → ((l : ℕ) → IsMine (txn_at lanes l) a → ⊥) → now_of lanes h a ≡ h a
now_nobodys [] h a none = refl
now_nobodys (x ∷ lanes) h a none = by (x.words a) refl (now_nobodys lanes h a (λ l m. none (suc l) m))
  where
    by : (b : Bool) → x.words a ≡ b → now_of lanes h a ≡ h a → (if x.words a then latest (written x) a (h a) else now_of lanes h a) ≡ h a
    by true is further = absurd (none zero is)
    by false is further = rw is further

pub some_candidate : (cs : List Candidate) (v : ℕ) → IsCandidate cs v → 0 < length cs
some_candidate [] v m = absurd m
some_candidate (c ∷ cs) v m = omega arith

-- where nothing waits for a fence a stop leaves what a read finds
pub kept_is : (l : ℕ) (x : Txn) (region : Region) (a v : ℕ) → IsKept l x region → x.fenced ≡ true → IsMine x a → IsCandidate (region.at a) v → v ≡ newest (region.at a)
kept_is l x region a v keeps fenced mine is = durable v is ∙ sym (durable (newest (region.at a)) (IsCandidate_newest (region.at a) (some_candidate (region.at a) v is)))
  where
    durable : (u : ℕ) → IsCandidate (region.at a) u → u ≡ keeps.progress.durable a
    durable u m = elim ((keeps.tracks a mine).values u m) [ inl e ↦ e | inr k ↦ absurd (keeps.fenced fenced a u k) ]

-- the standing value of a word hangs on no other word
pub stands_word : (policy : ℕ) (log : Log) (w x : Words) (a v : ℕ) → w a ≡ x a → Stands policy log w a v → Stands policy log x a v
stands_word policy log w x a v e (undone u first is) = undone u first is
stands_word policy log w x a v e (deleted none d is) = deleted none d is
stands_word policy log w x a v e (redone none nd r last is) = redone none nd r last is
stands_word policy log w x a v e (kept none nd nr is) = kept none nd nr (is ∙ e)
