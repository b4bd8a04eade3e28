use Rattle.std.proofs.Common.{◌≡◌, ◌≤◌, ◌<◌, ℕ, sym, ◌∙◌, arith}
use Rattle.persist_model.specs.Shape.{heap}
use Rattle.lane_traits.specs.declared.device.Done.TheVariants.{Made, Stopped}
use Rattle.region_layout.specs.Layout.{layout_shape}
use Rattle.bucket_log.specs.Scans.{record_of_placed}
use Rattle.recovery_undo.specs.UndoProgress.{seen}
use Rattle.recovery_undo.proofs.Chains.{log_words_kept}
use Rattle.recovery_undo.proofs.Going.{counted_as, quiet_kept, at_most_three}
use Rattle.recovery_undo.proofs.Stepping.{heap_word, word_inside, covered, spare_one, old_goes, old_halts}
use Rattle.recovery_undo.proofs.undoing.store_old.Goals as goal

pub overflow_cast-word : goal.overflow_cast-word
overflow_cast-word g c =
    let at = c.requires.passes in
    let inside = word_inside c.args.target at.0 (record_of_placed c.args.update.now) at.1 at.3 _ at.2 at.4 c.requires.update in
    let small = g.met.D.Device.small c.args.device.now in
    omega (arith, inside, small)

pub store-requires-clause-word : goal.store-requires-clause-word
store-requires-clause-word g c =
    let at = c.requires.passes in
    word_inside c.args.target at.0 (record_of_placed c.args.update.now) at.1 at.3 _ at.2 at.4 c.requires.update

pub store-requires-clause-spare : goal.store-requires-clause-spare
store-requires-clause-spare g c =
    let at = c.requires.passes in
    spare_one c.args.target at.0 (record_of_placed c.args.update.now) at.1 at.3 _ at.2 at.4 c.requires.update

pub returns-clause-made : goal.returns-clause-made
returns-clause-made g c = λ made start left counter held h.
    let shape = layout_shape c.args.target.layout in
    let u = record_of_placed c.args.update.now in
    let word = heap_word c.args.target start u left held _ counter h c.requires.update in
    let low : 32 ≤ heap shape = omega arith in
    let reached = c.store.ensures.made made shape start.first h.state h.gone.reached word.0 (covered c.args.target start u left held _ counter h c.requires.update) in
    let off : (a : ℕ) → a < 32 → a ≡ c.args.update.now.cell.word → ⊥ = λ a lt e. (let le = word.0 in omega (arith, lt, e, le, low)) in
    old_goes c.args.target start u left held _ counter h c.requires.update (seen (g.D.Device.cells c.store.new.device) (g.D.Device.counts c.store.new.device) (g.D.Device.spare c.store.new.device)) reached
    (quiet_kept shape start.first h.state (g.D.Device.cells c.args.device.now) (g.D.Device.cells c.store.new.device) (λ b. b ≡ c.args.update.now.cell.word → ⊥)
    (at_most_three c.args.target start h.state _ held _ h.gone) h.gone.reached off c.store.ensures.aside
    (reached.come.size ∙ sym h.gone.reached.come.size) (g.met.D.Device.full c.store.new.device) h.gone.quiet)
    (record { counted = counted_as 1 c.store.result Made (g.D.Device.counts c.args.device.now) (g.D.Device.counts c.store.new.device) made c.store.ensures.counted; spare = c.store.ensures.spare_left; header = λ a v is one. c.store.ensures.aside a v (off a is.below) one })
    (log_words_kept c.args.target.layout start.first h.state (g.D.Device.cells c.args.device.now) h.gone.reached (λ b. b ≡ c.args.update.now.cell.word → ⊥) (g.D.Device.cells c.store.new.device)
    (λ a lt e. (let le = word.0 in omega (arith, lt, e, le))) c.store.ensures.aside (reached.come.size ∙ sym h.gone.reached.come.size) (g.met.D.Device.full c.store.new.device))

pub returns-clause-stopped : goal.returns-clause-stopped
returns-clause-stopped g c = λ stopped start left counter held h.
    let shape = layout_shape c.args.target.layout in
    let u = record_of_placed c.args.update.now in
    let word = heap_word c.args.target start u left held _ counter h c.requires.update in
    let low : 32 ≤ heap shape = omega arith in
    let off : (a : ℕ) → a < 32 → a ≡ c.args.update.now.cell.word → ⊥ = λ a lt e. (let le = word.0 in omega (arith, lt, e, le, low)) in
    old_halts c.args.target start u left held _ counter h c.requires.update (seen (g.D.Device.cells c.store.new.device) (g.D.Device.counts c.store.new.device) (g.D.Device.spare c.store.new.device))
    (c.store.ensures.stopped stopped shape start.first h.state h.gone.sound h.gone.reached)
    (record { counted = counted_as 1 c.store.result Stopped (g.D.Device.counts c.args.device.now) (g.D.Device.counts c.store.new.device) stopped c.store.ensures.counted; spare = c.store.ensures.spare_left; header = λ a v is one. c.store.ensures.aside a v (off a is.below) one })
