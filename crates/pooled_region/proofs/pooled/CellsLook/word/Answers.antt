use Rattle.std.proofs.Common.{◌≡◌, ◌<◌, List, sym, ap, ◌∙◌, arith, length, subst, get_or}
use Rattle.persist_model.specs.Region.{newest}
use Rattle.persist_model.proofs.Images.{length-newest_words, get_or-newest_words}
use Rattle.pooled_region.specs.declared.pool.Place.{Place}
use Rattle.pooled_region.specs.declared.pool.Word.{Word}
use Rattle.pooled_region.specs.Pool.{no_word, cells_of, word_of, StaysWithin}
use Rattle.pooled_region.proofs.Apart.{read_within}
use Rattle.pooled_region.proofs.pooled.CellsLook.word.Goals as goal

pub read_word-requires : goal.read_word-requires
read_word-requires c = omega (arith, length-newest_words (cells_of c.args.self.now.places.items c.args.self.now.words.items), ap length c.deref-2.ensures.value)

pub newest_value-requires : goal.newest_value-requires
newest_value-requires c =
    let self = c.args.self.now in
    let read : c.read_word.result ≡ get_or self.words.items c.args.a no_word = c.read_word.ensures ∙ ap (λ (ws : List Word). get_or ws c.args.a no_word) c.deref-2.ensures.value in
    subst (λ (ps : List Place). StaysWithin ps c.read_word.result.newest c.read_word.result.later) (sym c.deref.ensures.value)
    (read_within self.places.items self.words.items self.free self.pooled c.args.a c.read_word.result read)

pub returns : goal.returns
returns c =
    let self = c.args.self.now in
    let cells = cells_of self.places.items self.words.items in
    let below : c.args.a < cells.size = omega (arith, length-newest_words cells) in
    let read : c.read_word.result ≡ get_or self.words.items c.args.a no_word = c.read_word.ensures ∙ ap (λ (ws : List Word). get_or ws c.args.a no_word) c.deref-2.ensures.value in
    c.newest_value.ensures
    ∙ ap (λ (w : Word). newest (word_of c.deref.result.now w)) read
    ∙ ap (λ (ps : List Place). newest (word_of ps (get_or self.words.items c.args.a no_word))) c.deref.ensures.value
    ∙ sym (get_or-newest_words cells c.args.a below)
