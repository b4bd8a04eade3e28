use Rattle.std.proofs.Common.{◌≡◌, ◌∙◌, sym, ap, arith, List, ℕ, ◌++◌, Option}
use Rattle.std.specs.List.{flat_map, range_with_len}
use Rattle.lane_traits.specs.declared.words.Pair.{Pair}
use Rattle.rewind.specs.History.{pair_of}
use Rattle.rewind.proofs.Reports.{each-more}
use Rattle.rewind.proofs.report.pairs_of.Goals as goal

pub loop-key-preserved : goal.loop-key-preserved
loop-key-preserved c = λ m is.
    let k : ℕ = c.loop-key.key in
    let each : ℕ → List Pair = λ j. pair_of j (m j) in
    c.in_ok-push_pair.ensures
    ∙ ap (λ (value : Option ℕ). c.loop-key.pairs ++ pair_of k value) (is k c.loop-key-test.true)
    ∙ ap (λ (front : List Pair). front ++ pair_of k (m k)) (c.loop-key.invariant m is)
    ∙ sym (each-more each k)

pub returns : goal.returns
returns c = λ m is.
    let all : c.loop-key.key ≡ 12 = omega arith in
    c.loop-key.invariant m is ∙ ap (λ (n : ℕ). flat_map (λ j. pair_of j (m j)) (range_with_len 0 n)) all
