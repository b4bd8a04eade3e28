-- The append of a checkpoint's record, but for its last event.
use Rattle.std.proofs.Common.{◌≡◌, ◌≢◌, inl, inr, ℕ, ◌+◌, ◌==◌, if◌then◌else◌, ◌∷◌, refl, sym, ap, ◌∙◌, arith}
use Rattle.std.proofs.lemmas.Bool.Decides.{eqb_tells}
use Rattle.plan_records.proofs.Passing.{passes_above}
use Rattle.log_keeper.specs.Parts.{appends as adds, Running}
use Rattle.log_keeper.specs.Ledger.{Drawn}
use Rattle.log_keeper.specs.Making.{made_part}
use Rattle.log_keeper.specs.Keeper.{appending}
use Rattle.log_keeper.specs.Logged.{Keeping, one_more}
use Rattle.log_keeper.specs.Events.{region_made}
use Rattle.log_keeper.proofs.EventsPass.{parts_begin as parts_begin_logged}
use Rattle.log_keeper.proofs.Made.{goes_on}
use Rattle.log_keeper.proofs.Orders.{orders_keep}
use Rattle.log_keeper.proofs.Runs.{runs_keep}
use Rattle.history_laws.specs.Histories.{fold}
use Rattle.txn_laws.proofs.LogEvents.{next_is_log, leaves_heap}
use Rattle.redo_laws.specs.Checkpoints.{swept, notes, checkpoint_record, noting_run}
use Rattle.redo_laws.specs.Notes.{NotesBegin, NotesGoOn}
use Rattle.redo_laws.proofs.Beside.{leaves_itself, beside, log_goes_on, stage_is}
use Rattle.redo_laws.proofs.Idle.{numbered_below}
use Rattle.redo_laws.proofs.Telling.{log_stores_none, told_beside}

other_run : (run : Running) (runs : ℕ → Running) (p : ℕ) → p ≢ 0 → (if p == 0 then run else runs p) ≡ runs p
other_run run runs p ne = elim (eqb_tells p 0) [ inl e ↦ absurd (ne e.1) | inr off ↦ (rw off.0 refl) ]

same_holder : (holder : ℕ → ℕ) (p : ℕ) → (if p == 0 then holder 0 else holder p) ≡ holder p
same_holder holder p = elim (eqb_tells p 0) [ inl e ↦ (rw e.0 (ap holder (sym e.1))) | inr off ↦ (rw off.0 refl) ]

pub notes_begin : NotesBegin
notes_begin shape base s chains start z region l place is may world =
    let stage = stage_is shape s (fold start z.world.history) z.world z.dirty region z.checkpoint (swept l) is world.stage in
    let k = z.world.keeping in
    let r = checkpoint_record place z.world.next in
    let first = world.log.logged.allowed.partitions.0 in
    let free = ap (λ (x : Running). x.part) (stage.at_rest.run 0 first) in
    beside shape base s chains start z region region (appending 0 place r k) (z.world.next + 1) z.dirty (notes l place z.world.next 0)
    (record {
      of_shape = world.log.of_shape;
      header = world.log.header;
      logged = parts_begin_logged shape base s chains k region 0 (k.holder 0) (adds place r) (record { lane = k.holder 0; entry = r; stage = Drawn } ∷ k.ledger) first free may.can refl world.log.logged;
      sound = world.log.sound;
      ordered = orders_keep.appends 0 z.world.next place r k refl world.log.ordered;
      fits = runs_keep.appends shape 0 z.world.next place r k first free refl world.log.ordered world.log.fits;
      numbers = may.numbers;
    })
    (leaves_itself shape region) (record {
      told = stage.told;
      all_swept = stage.all_swept;
      unmarked = stage.unmarked;
      held = record { holder = λ p lt. same_holder k.holder p ∙ stage.at_rest.held.holder p lt; landed = stage.at_rest.held.landed };
      run = refl;
      others = λ p lt ne. other_run (record { part = adds place r; made = 0 }) k.runs p ne ∙ stage.at_rest.run p lt;
      under = stage.at_rest.under;
      can = may.cell;
      passes = passes_above r s.log (numbered_below shape base s chains start z region world);
    }) world

pub notes_go_on : NotesGoOn
notes_go_on shape base s chains start z region l place number made e is next more world =
    let stage = stage_is shape s (fold start z.world.history) z.world z.dirty region z.checkpoint (notes l place number made) is world.stage in
    let k = z.world.keeping in
    let on = next_is_log shape base s chains k region 0 e next world.log.logged in
    beside shape base s chains start z region (region_made k 0 e region) (made_part shape 0 k) z.world.next z.dirty (notes l place number (made + 1))
    (log_goes_on shape base s chains k z.world.next region 0 e next more world.log)
    (leaves_heap shape region (k.holder 0) e on) (record {
      told = told_beside shape z.dirty region (k.holder 0) e (λ a m. log_stores_none shape a e m on) stage.told;
      all_swept = stage.all_swept;
      unmarked = stage.unmarked;
      held = record { holder = λ p lt. ap (λ (x : Keeping). x.holder p) (goes_on shape k 0 more) ∙ stage.held.holder p lt; landed = stage.held.landed };
      run = ap (λ (x : Keeping). x.runs 0) (goes_on shape k 0 more) ∙ ap one_more stage.run ∙ ap (noting_run place number) (omega arith);
      others = λ p lt ne. ap (λ (x : Keeping). x.runs p) (goes_on shape k 0 more) ∙ other_run (one_more (k.runs 0)) k.runs p ne ∙ stage.others p lt ne;
      under = stage.under;
      can = stage.can;
      passes = stage.passes;
    }) world
