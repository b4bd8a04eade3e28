use Rattle.lane_book.proofs.Asking.{on_ok, on_err}
use Rattle.txn_core.proofs.Asked.{is_plain, stays_asked, stays_roomier}
use Rattle.txn_core.proofs.AskedFaces.{asked_phases, roomier_phases, either_way}
use Rattle.txn_core.proofs.AskedExactly.{beside_with, quiet_owes}
use Rattle.lane_book.specs.FacesOf.{lane_at}
use Rattle.txn_core.proofs.Unasked.{unasked_quietly}
use Rattle.txn_core.proofs.ask_calls.ask_quiet.Goals as goal

pub ask_plain-requires-clause-plain : goal.ask_plain-requires-clause-plain
ask_plain-requires-clause-plain g c = is_plain c.args.call.now c.args.doing c.requires.quiet

pub returns-clause-stays : goal.returns-clause-stays
returns-clause-stays g c = on_ok c.ask_plain.result
    (λ asked. stays_asked g.E.Deed.meaning c.args.book.now c.ask_plain.new.self c.args.lane c.args.call.now c.args.doing c.requires.lane c.requires.nothing c.requires.phase c.requires.quiet c.requires.book asked
    c.ask_plain.ensures.book) c.ask_plain.ensures.asked

pub returns-clause-still : goal.returns-clause-still
returns-clause-still g c = on_err c.ask_plain.result
    (λ roomier. stays_roomier g.E.Deed.meaning c.args.book.now c.ask_plain.new.self c.args.lane c.requires.lane c.requires.nothing roomier c.ask_plain.ensures.book) c.ask_plain.ensures.roomier

pub returns-clause-phased : goal.returns-clause-phased
returns-clause-phased g c = either_way c.ask_plain.result
    (λ asked. asked_phases c.args.book.now c.ask_plain.new.self c.args.lane c.args.call.now c.args.doing _ _ _ c.requires.lane c.requires.nothing asked)
    (λ roomier. roomier_phases c.args.book.now c.ask_plain.new.self c.args.lane c.requires.lane roomier) c.ask_plain.ensures.asked c.ask_plain.ensures.roomier

pub returns-clause-beside : goal.returns-clause-beside
returns-clause-beside g c = either_way c.ask_plain.result
    (λ asked. beside_with c.args.book.now c.ask_plain.new.self c.args.lane (lane_at c.ask_plain.new.self c.args.lane) c.args.book.now.touched c.requires.lane asked.is)
    (λ roomier. beside_with c.args.book.now c.ask_plain.new.self c.args.lane (lane_at c.ask_plain.new.self c.args.lane) c.args.book.now.touched c.requires.lane roomier.is)
    c.ask_plain.ensures.asked c.ask_plain.ensures.roomier

pub returns-clause-owes : goal.returns-clause-owes
returns-clause-owes g c = on_ok c.ask_plain.result (λ asked. quiet_owes c.args.book.now c.ask_plain.new.self c.args.lane c.args.call.now c.args.doing c.requires.quiet asked) c.ask_plain.ensures.asked

pub returns-clause-unasked : goal.returns-clause-unasked
returns-clause-unasked g c = on_err c.ask_plain.result (unasked_quietly c.args.book.now c.ask_plain.new.self c.args.lane) c.ask_plain.ensures.roomier
