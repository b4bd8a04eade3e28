use Rattle.std.proofs.Common.{◌∙◌, ◌++◌, ◌∷◌, [], codes, ap, length}
use Rattle.image_text.specs.Text.{text_of}
use Rattle.image_text.specs.Written.{size_line, kind_lines, word_lines, image_lines}
use Rattle.image_text.proofs.Writing.{all_put}
use Rattle.image_text.proofs.writer.write_image.Goals as goal

pub returns-clause-text : goal.returns-clause-text
unfolding image_lines
returns-clause-text g c =
    let words = g.W.Look.words c.args.words.now in
    let first = c.in_ok-put_size.ensures ∙ ap (λ text. text ++ text_of (size_line c.size.result ∷ [])) c.new-text.ensures
    ∙ ap (λ n. [] ++ text_of (size_line n ∷ [])) c.size.ensures in
    all_put (size_line (length words)) (codes "end") (kind_lines c.args.kinds.now) (word_lines 0 words)
    c.put_size.new.text c.put_kinds.new.text c.put_words.new.text c.put_line.new.text
    first c.in_ok-put_kinds.ensures c.in_ok-put_words.ensures.text c.in_ok-put_line.ensures
