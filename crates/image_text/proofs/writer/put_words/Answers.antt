use Rattle.std.proofs.Common.{ℕ, ◌∙◌, ◌+◌, ◌<◌, ◌^◌, ◌++◌, sym, ap, subst, arith, length, drop, below_more}
use Rattle.image_text.specs.Text.{text_of}
use Rattle.image_text.specs.Written.{word_lines}
use Rattle.image_text.proofs.Writing.{zero_passed, word_put, words_put}
use Rattle.image_text.proofs.writer.put_words.Goals as goal
use Rattle.image_text.proofs.writer.put_words.Goals.{then-value-ne0+in_ok-put_word, else-value-ne0}

pub loop-address-preserved : goal.loop-address-preserved
loop-address-preserved g c =
    let words = g.W.Look.words c.args.words.now in
    let total = c.args.text.now ++ text_of (word_lines 0 words) in
    let a = c.loop-address.address in
    let within : a < length words = omega (arith, c.size-address-end.ensures) in
    record {
      text = elim c.if-value-ne0.branch [
        | then-value-ne0+in_ok-put_word w ↦
            word_put a c.word-value.result words c.loop-address.text c.if-value-ne0.text total within c.word-value.ensures w.if-value-ne0.true
            (w.text-is ∙ w.in_ok-put_word.ensures) c.loop-address.invariant.text
        | else-value-ne0 w ↦
            ap (λ text. text ++ text_of (word_lines (a + 1) (drop (a + 1) words))) w.text-is
            ∙ zero_passed a words c.loop-address.text total within (sym c.word-value.ensures ∙ w.if-value-ne0.false) c.loop-address.invariant.text
      ];
      fit = below_more _ _ c.loop-address.invariant.fit (subst (λ (v : ℕ). v < 2 ^ 64) c.word-value.ensures (omega arith));
    }

pub returns-clause-text : goal.returns-clause-text
returns-clause-text g c =
    let words = g.W.Look.words c.args.words.now in
    words_put c.loop-address.address words c.loop-address.text (c.args.text.now ++ text_of (word_lines 0 words)) (omega (arith, c.size-address-end.ensures)) c.loop-address.invariant.text
