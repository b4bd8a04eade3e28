use Rattle.std.proofs.Common.{◌≡◌, ℕ, ◌+◌, ◌++◌, ◌∷◌, [], List, slice_index, length, take, get_or, ap, subst, sym, arith, Err}
use Rattle.std.proofs.lemmas.List.{take_more, length-take-le}
use Rattle.std.proofs.lemmas.Option.{slice_get-get_or}
use Rattle.persist_model.specs.Shape.{heap}
use Rattle.region_layout.specs.declared.layout.Kind.{Kind}
use Rattle.region_layout.specs.declared.layout.Kind.TheVariants.{Cells}
use Rattle.region_layout.specs.Layout.{layout_shape}
use Rattle.rewind_script.specs.declared.report.PairList.{PairList}
use Rattle.image_runner.specs.declared.maps.MapFault.{MapFault}
use Rattle.image_runner.specs.declared.maps.MapFault.TheVariants.{At}
use Rattle.image_runner.specs.Maps.{HoldsNone, ReadsMap, HoldMaps}
use Rattle.image_runner.proofs.MapSteps.{hold_push, are_maps}
use Rattle.image_runner.proofs.maps.read_maps.Goals as goal

pub returns-in-Err-clause-broken : goal.returns-in-Err-clause-broken
returns-in-Err-clause-broken g c = λ at same.
    let kind : Kind = get_or c.args.kinds.now c.loop-kind.kind-index Cells in
    let this : c.in-Err.fault ≡ At at = cc in
    let held = subst (λ (s : ℕ). HoldsNone (get_or c.args.kinds.now c.loop-kind.kind-index Cells) (heap (layout_shape c.args.layout)) (slice_index (g.L.Look.words c.args.words.now)) s at) c.loop-kind.invariant.structure
    (subst (λ (f : MapFault). ReadsMap (get_or c.args.kinds.now c.loop-kind.kind-index Cells) (heap (layout_shape c.args.layout)) (slice_index (g.L.Look.words c.args.words.now)) c.loop-kind.structure (Err f)) this c.in-Err.ensures) in record {
      structure = c.loop-kind.kind-index;
      kind = kind;
      of = slice_get-get_or c.args.kinds.now c.loop-kind.kind-index Cells c.loop-kind-test.true;
      before = are_maps (heap (layout_shape c.args.layout)) (slice_index (g.L.Look.words c.args.words.now)) 0 (take c.loop-kind.kind-index c.args.kinds.now) c.loop-kind.maps c.loop-kind.invariant.hold;
      broken = held.none;
      root = held.root;
    }

pub loop-kind-preserved : goal.loop-kind-preserved
loop-kind-preserved g c =
    let long : length (take c.loop-kind.kind-index c.args.kinds.now) ≡ c.loop-kind.kind-index = length-take-le c.loop-kind.kind-index c.args.kinds.now (omega (arith, c.loop-kind-test.true)) in
    let structure = c.loop-kind.invariant.structure in
    let m : PairList = record { pairs = c.in-Ok.pairs } in
    record {
      hold = subst (λ (ms : List PairList). HoldMaps (heap (layout_shape c.args.layout)) (slice_index (g.L.Look.words c.args.words.now)) (take (c.loop-kind.kind-index + 1) c.args.kinds.now) ms) (sym c.in_ok-push_map-in-Ok.ensures)
          (subst (λ (ks : List Kind). HoldMaps (heap (layout_shape c.args.layout)) (slice_index (g.L.Look.words c.args.words.now)) ks (c.loop-kind.maps ++ record { pairs = c.in-Ok.pairs } ∷ []))
          (sym (take_more c.args.kinds.now c.loop-kind.kind-index Cells c.loop-kind-test.true))
          (hold_push (heap (layout_shape c.args.layout)) (slice_index (g.L.Look.words c.args.words.now)) 0 c.loop-kind.structure (take c.loop-kind.kind-index c.args.kinds.now) c.loop-kind.maps
          (get_or c.args.kinds.now c.loop-kind.kind-index Cells) m (omega (arith, long, structure)) c.loop-kind.invariant.hold c.in-Ok.ensures));
      structure = ap (λ n. n + 1) structure;
    }
