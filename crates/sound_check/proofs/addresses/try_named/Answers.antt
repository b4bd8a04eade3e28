use Rattle.std.specs.Prelude.{slice_index, length}
use Rattle.std.proofs.Common.{sym, subst, arith}
use Rattle.sound_check.specs.Rules.{IsReadable}
use Rattle.sound_check.proofs.Buckets.{link_readable}
use Rattle.sound_check.proofs.Tried.{named_is}
use Rattle.sound_check.proofs.addresses.try_named.Goals as goal

pub try_links-requires-clause-inside : goal.try_links-requires-clause-inside
try_links-requires-clause-inside g c =
    let r = subst (IsReadable (length (g.W.Look.words c.args.words.now))) (sym c.word-named.ensures) (link_readable c.args.layout c.args.p (length (g.W.Look.words c.args.words.now)) ((slice_index (g.W.Look.words c.args.words.now)) c.args.at) c.requires.part c.requires.long c.requires.link) in
    (omega (arith, r), (omega (arith, r), tt))

pub returns-clause-ok : goal.returns-clause-ok
returns-clause-ok g c = let e = named_is (slice_index (g.W.Look.words c.args.words.now)) c.args.at c.word-named.result c.word-named.ensures c.if-named-eq0.false in rw (← e) c.try_links.ensures.ok

pub returns-clause-fault : goal.returns-clause-fault
returns-clause-fault g c = let e = named_is (slice_index (g.W.Look.words c.args.words.now)) c.args.at c.word-named.result c.word-named.ensures c.if-named-eq0.false in rw (← e) c.try_links.ensures.fault
