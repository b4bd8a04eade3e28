use Rattle.log_partition.proofs.Views.{viewed_word, viewed_inside}
use Rattle.log_partition.proofs.view.PartViewLook.word.Goals as goal

pub word-requires : goal.word-requires
word-requires g c = viewed_inside c.args.self.now.partition (g.W.Look.words c.args.self.now.words.now) c.args.a c.out_address.result
    c.args.self.now.partition_within c.args.self.now.words_enough c.requires c.out_address.ensures

pub returns : goal.returns
returns g c = viewed_word c.args.self.now.partition (g.W.Look.words c.args.self.now.words.now) c.args.a c.out_address.result c.word.result c.out_address.ensures c.word.ensures
