use Rattle.std.proofs.Common.{◌≡◌, ◌∙◌, sym, ap, subst, List, ℕ, ◌++◌, append-nil, take, IfSome}
use Rattle.lane_traits.specs.Stream.{Gives}
use Rattle.rewind.specs.Call.{TookAll}
use Rattle.rewind.proofs.Inputs.{took_more, took_all}
use Rattle.rewind.proofs.input.read_chunk.Goals as goal

pub returns-clause-more : goal.returns-clause-more
returns-clause-more g c = λ before so_far.
    rw c.in_ok-extend_from_slice.ensures.items
    (took_more before (g.S.Source.left c.args.source.now) (g.S.Source.left c.read.new.self) c.args.text.now.items c.read.new.buf c.in-Ok.count so_far c.in-Ok.ensures.given)

pub returns-clause-whole : goal.returns-clause-whole
returns-clause-whole g c = λ zero before so_far.
    let none : c.in-Ok.count ≡ 0 = cc in
    let given = subst (λ (n : ℕ). IfSome (g.S.Source.left c.args.source.now) (λ bytes. Gives n bytes c.read.new.buf (g.S.Source.left c.read.new.self))) none c.in-Ok.ensures.given in
    let same = c.in_ok-extend_from_slice.ensures.items ∙ ap (λ (n : ℕ). c.args.text.now.items ++ take n c.read.new.buf) none ∙ append-nil c.args.text.now.items in
    subst (λ (text : List ℕ). TookAll before text (g.S.Source.left c.read.new.self)) (sym same)
    (took_all before (g.S.Source.left c.args.source.now) (g.S.Source.left c.read.new.self) c.args.text.now.items c.read.new.buf so_far given)
