use Rattle.std.proofs.Common.{◌≡◌, ◌≢◌, ℕ, ◌<◌, ◌+◌, Some, ap, sym, ◌∙◌, arith, refl, unwrap_or}
use Rattle.turn_hub.specs.Turns.{IsData}
use Rattle.turn_hub.specs.Plays.{turning}
use Rattle.turn_hub.proofs.Seats.{turn_at}
use Rattle.turn_hub.proofs.Calls.{put_in, gives_alone, notes_alone, noted_at, no_change}
use Rattle.turn_hub.proofs.turn.give_stepped.Goals as goal

pub store-requires : goal.store-requires
store-requires g c =
    let R = g.T.Laned.seen in
    let picture = c.args.picture.now.value in
    let value = c.args.value in
    let missed = c.args.place.now.me.0.missed in
    let a = c.in-Some.a in
    let s = turn_at R c.args.lane picture c.args.place.now.me c.requires.seat in
    let is = put_in R (turning c.args.lane s.0 picture missed) value c.args.place.now.me c.put.new.place.me s.1 c.put.ensures.2 in
    let changed : (R value).touched ≡ Some a = sym c.touched.ensures ∙ c.in-Some.is in
    let low : a < (R value).span = c.requires.inside a changed in
    let span : (R value).span ≡ (R picture).span = c.requires.change.alike.span in
    let wide = c.requires.table.1 in
    let same : (b : ℕ) → b ≢ a → IsData (R picture) b → (R value).word b ≡ (R picture).word b = λ b ne inside. c.requires.words b inside (λ e. ne (ap (λ o. unwrap_or o 0) (sym e ∙ changed))) in
    (c.put.ensures.0 ∙ c.requires.table.0, (omega arith), notes_alone R c.args.top.now.key.value.value _ _ c.args.lane a _ _ s.0 picture value missed _ is refl c.word-word.ensures c.requires.change same (omega arith))

pub store-requires-in-Some : goal.store-requires-in-Some
store-requires-in-Some g c =
    let R = g.T.Laned.seen in
    let picture = c.args.picture.now.value in
    let value = c.args.value in
    let missed = c.args.place.now.me.0.missed in
    let wide = c.requires.table.1 in
    let s = turn_at R c.args.lane picture c.args.place.now.me c.requires.seat in
    let is = put_in R (turning c.args.lane s.0 picture missed) value c.args.place.now.me c.put.new.place.me s.1 c.put.ensures.2 in
    let now = noted_at R c.args.top.now.table_id.slots (c.in-Some.a + 1) c.word-word.result c.args.lane s.0 picture value missed _ _ is c.store.ensures.2 in
    (c.store.ensures.0 ∙ c.put.ensures.0 ∙ c.requires.table.0, (omega arith), gives_alone R c.args.top.now.key.value.value _ _ c.args.lane value value value missed _ now (no_change R c.args.lane value) (λ a inside. refl))
