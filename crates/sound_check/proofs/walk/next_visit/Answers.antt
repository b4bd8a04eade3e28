use Rattle.std.specs.Prelude.{slice_index}
use Rattle.std.proofs.Common.{length, refl, sym, ap, subst, ◌<◌, ◌∙◌}
use Rattle.persist_model.specs.Visit.{IsCutAt}
use Rattle.log_laws.proofs.Deciding.{absent_of}
use Rattle.sound_check.proofs.Buckets.{last_inside}
use Rattle.sound_check.proofs.walk.next_visit.Goals as goal

pub word-link-requires : goal.word-link-requires
word-link-requires g c = subst (λ n. n < length (g.W.Look.words c.args.words.now)) (sym c.last_or-2.ensures)
    (last_inside c.args.layout c.args.p (length (g.W.Look.words c.args.words.now)) c.args.visited.now c.requires.part c.requires.long c.requires.buckets)

pub returns : goal.returns
returns g c = record {
  uncut = λ h. (let e = c.is_cut.ensures.1 (subst (IsCutAt (slice_index (g.W.Look.words c.args.words.now))) (sym c.last_or.ensures) h) in cc);
  link = c.word-link.ensures ∙ ap (slice_index (g.W.Look.words c.args.words.now)) c.last_or-2.ensures;
  is_bucket = c.if-not-is_bucket.ensures.0 refl;
  fresh = absent_of c.args.visited.now c.word-link.result (λ m. let e = (c.is_marked.ensures c.args.visited.now c.requires.marks).1 m in cc);
}
