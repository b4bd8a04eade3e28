use Rattle.std.proofs.Common.{◌≡◌, true, false, sym, ◌∙◌, ap, subst, arith, ◌==◌}
use Rattle.lane_traits.specs.Space.{IsOwn}
use Rattle.persist_hash.proofs.Joined.{or_false}
use Rattle.persist_hash.specs.Reading.{land_in, with_block, is_root}
use Rattle.persist_hash.proofs.MarkLaws.{marks_same}
use Rattle.persist_hash.proofs.Readings.{map_of_chains, no_hash_by_block}
use Rattle.persist_hash.proofs.soundness.is_map_by.Goals as goal

pub returns-then-not-claim-clause-broken : goal.returns-then-not-claim-clause-broken
returns-then-not-claim-clause-broken g c = λ e map.
    let own = subst (IsOwn (land_in (g.L.Look.words c.args.words.now) c.args.blocks.now.heap c.args.blocks.now.structure)) (sym c.from.ensures) map.is.is.root_own in
    let q : false ≡ true = c.claim.ensures.refused c.if-not-claim.true (λ x. false) c.requires.marks own in cc

pub read_directories-requires-clause-marks : goal.read_directories-requires-clause-marks
read_directories-requires-clause-marks g c =
    marks_same c.args.blocks.now.heap c.claim.new.marks (with_block c.from.result (λ x. false)) (is_root c.args.root)
    (λ x. or_false (x == c.from.result) ∙ ap (λ r. x == r) c.from.ensures)
    (c.claim.ensures.claimed c.if-not-claim.false (λ x. false) c.requires.marks).1

pub returns-clause-sound : goal.returns-clause-sound
returns-clause-sound g c = λ on.
    map_of_chains (g.L.Look.words c.args.words.now) c.args.blocks.now.heap c.args.blocks.now.count c.args.blocks.now.structure c.args.root c.read_chains.new.marks
    c.requires.heap (c.in_ok-read_chains.ensures.read c.if-not-branch.false) (c.in_ok-read_chains.ensures.marks c.if-not-branch.false) (omega arith) (c.all_claimed.ensures.all on)

pub returns-clause-broken : goal.returns-clause-broken
returns-clause-broken g c = λ off map.
    let missed = c.all_claimed.ensures.missed off in
    no_hash_by_block (g.L.Look.words c.args.words.now) c.args.blocks.now.heap c.args.blocks.now.count c.args.blocks.now.structure c.args.root missed.0 c.read_chains.new.marks
    c.requires.heap (c.in_ok-read_chains.ensures.read c.if-not-branch.false) (c.in_ok-read_chains.ensures.marks c.if-not-branch.false) (omega arith) missed.1 missed.2 missed.3 map.is.chains map.is.is
