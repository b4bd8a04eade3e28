use Rattle.std.proofs.Common.{sym, ap, ◌∙◌, ◌++◌, map, length, append-nil, eqb-true}
use Rattle.std.proofs.lemmas.List.{nil_from_length}
use Rattle.rewind_script.specs.Text.{words}
use Rattle.rewind_script.proofs.Words.{words-nil}
use Rattle.rewind_script.proofs.read.text.words_of.Goals as goal

pub returns : goal.returns
returns c =
    let none = nil_from_length c.loop-rest.rest.now (eqb-true (length c.loop-rest.rest.now) 0 (sym c.loop-rest-test.ensures)) in
    sym (append-nil _) ∙ ap (λ ws. map (λ word. word.now) c.loop-rest.words.items ++ ws) (sym (ap words none ∙ words-nil)) ∙ c.loop-rest.invariant
