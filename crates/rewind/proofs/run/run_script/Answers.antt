use Rattle.std.proofs.Common.{◌≡◌, ◌∙◌, sym, ap, subst, arith, length, ℕ, List, ◌∷◌, []}
use Rattle.persist_model.specs.Region.{Region}
use Rattle.persist_model.specs.Shape.{Shape, block}
use Rattle.region_layout.specs.declared.layout.Kind.TheVariants.{Cells}
use Rattle.region_layout.specs.Fresh.{fresh_words}
use Rattle.rewind.specs.declared.script.Put.{Put}
use Rattle.rewind.specs.declared.run.Ran.TheVariants.{Whole}
use Rattle.rewind.specs.History.{empty, contents, after_transactions}
use Rattle.rewind.specs.Events.{script_shape, root_of, IsAtRest}
use Rattle.rewind.proofs.Loaded.{fresh_long, loaded_rests, rests_are_cells}
use Rattle.rewind.proofs.run.run_script.Goals as goal

pub load-requires : goal.load-requires
load-requires g c =
    let shape = c.layout-layout.ensures in
    let words : c.as_slice.result.now ≡ fresh_words (script_shape c.args.script.now.buckets c.args.script.now.blocks) (Cells ∷ [])
    = c.as_slice.ensures ∙ c.in_ok-words.ensures ∙ ap (λ (s : Shape). fresh_words s (Cells ∷ [])) shape in
    let long = ap (λ (ws : List ℕ). length ws) words ∙ fresh_long (script_shape c.args.script.now.buckets c.args.script.now.blocks) (Cells ∷ []) in
    omega (arith, long, c.requires.buckets_within, c.requires.blocks_within)

pub run_transactions-requires-clause-inside : goal.run_transactions-requires-clause-inside
run_transactions-requires-clause-inside g c =
    let shape = c.layout-layout.ensures in
    let words : c.as_slice.result.now ≡ fresh_words (script_shape c.args.script.now.buckets c.args.script.now.blocks) (Cells ∷ [])
    = c.as_slice.ensures ∙ c.in_ok-words.ensures ∙ ap (λ (s : Shape). fresh_words s (Cells ∷ [])) shape in
    let long = ap (λ (ws : List ℕ). length ws) words ∙ fresh_long (script_shape c.args.script.now.buckets c.args.script.now.blocks) (Cells ∷ []) in
    let size = ap (λ (r : Region). r.size) (c.reserve.ensures.cells ∙ c.in_ok-load.ensures.cells) in
    let root = c.block.ensures ∙ ap (λ (s : Shape). block s 0) shape in
    omega (arith, long, size, root, c.requires.blocks_within)

pub returns-clause-contents : goal.returns-clause-contents
returns-clause-contents g c = λ whole.
    let shape = c.layout-layout.ensures in
    let words : c.as_slice.result.now ≡ fresh_words (script_shape c.args.script.now.buckets c.args.script.now.blocks) (Cells ∷ [])
    = c.as_slice.ensures ∙ c.in_ok-words.ensures ∙ ap (λ (s : Shape). fresh_words s (Cells ∷ [])) shape in
    let long = ap (λ (ws : List ℕ). length ws) words ∙ fresh_long (script_shape c.args.script.now.buckets c.args.script.now.blocks) (Cells ∷ []) in
    let loaded_now = c.reserve.ensures.cells ∙ c.in_ok-load.ensures.cells in
    let size = ap (λ (r : Region). r.size) loaded_now in
    let root : c.block.result ≡ root_of c.args.script.now.buckets c.args.script.now.blocks = c.block.ensures ∙ ap (λ (s : Shape). block s 0) shape ∙ omega arith in
    let ran : c.run_transactions.result ≡ Whole = cc in
    let ts : List (List Put) = c.as_slice-transactions.result.now in
    let all : ts ≡ c.args.script.now.transactions = c.as_slice-transactions.ensures in
    let at_start = loaded_rests c.args.script.now.buckets c.args.script.now.blocks (Cells ∷ []) c.as_slice.result.now (g.D.Device.cells c.reserve.new.self)
    c.requires.blocks_within.0 loaded_now words in
    let end = c.run_transactions.ensures.contents ran empty
    (subst (λ (a : ℕ). IsAtRest a empty (g.D.Device.cells c.reserve.new.self)) (sym root) at_start) in
    let here = subst (λ (a : ℕ). IsAtRest a (after_transactions empty ts) (g.D.Device.cells c.run_transactions.new.region)) root end in
    rests_are_cells (root_of c.args.script.now.buckets c.args.script.now.blocks) (contents c.args.script.now.transactions) (g.D.Device.cells c.run_transactions.new.region)
    (omega (arith, long, size, c.run_transactions.ensures.size, c.requires.blocks_within))
    (subst (λ (l : List (List Put)). IsAtRest (root_of c.args.script.now.buckets c.args.script.now.blocks) (after_transactions empty l) (g.D.Device.cells c.run_transactions.new.region)) all here)
