-- What becomes of the ledger and of a run when the next event of a part was made.
use Rattle.std.specs.Prelude.{ℕ, ◌+◌, Bool, not, nat_lt, if◌then◌else◌, List, [], length}
use Rattle.persist_model.specs.declared.event.Event.{Event}
use Rattle.persist_model.specs.Shape.{Shape}
use Rattle.log_keeper.specs.Parts.{LogPart, rests, appends, closes, takes_back, drops, Running, plan_of}
use Rattle.log_keeper.specs.Ledger.{Stored, Settled, Noted, with_stage, without}
use Rattle.log_keeper.specs.Logged.{Keeping, with_run, one_more, ended}

-- the plan has no more than n events
abbrev pub is_over : List Event → ℕ → Bool
is_over plan n = not (nat_lt n (length plan))

-- with its last event a part leaves the ledger so
abbrev pub settled_by : LogPart → List Noted → List Noted
settled_by rests ledger = ledger
settled_by (appends place r) ledger = with_stage r.lsn Settled ledger
settled_by (closes gates ends checkpoints) ledger = without gates ends checkpoints ledger
settled_by (takes_back gates) ledger = without gates [] [] ledger
settled_by (drops r) ledger = ledger

-- and with the one before, which is the store of an append's gate, so
abbrev pub stored_by : LogPart → List Noted → List Noted
stored_by rests ledger = ledger
stored_by (appends place r) ledger = with_stage r.lsn Stored ledger
stored_by (closes gates ends checkpoints) ledger = ledger
stored_by (takes_back gates) ledger = ledger
stored_by (drops r) ledger = ledger

abbrev pub stored_if : Bool → LogPart → List Noted → List Noted
stored_if over part ledger = if over then stored_by part ledger else ledger

-- one event more, of a run that goes on in the partition
abbrev pub gone_on : Bool → ℕ → Running → Keeping → Keeping
gone_on over p run k = record { ledger = stored_if over run.part k.ledger; runs = with_run p (one_more run) k.runs; holder = k.holder }

abbrev pub made_of_run : Shape → ℕ → Running → Keeping → Keeping
made_of_run shape p run k =
    if is_over (plan_of shape p run.part) (run.made + 1) then ended p (settled_by run.part k.ledger) k
    else gone_on (is_over (plan_of shape p run.part) (run.made + 2)) p run k

-- the next event of the partition's part was made
abbrev pub made_part : Shape → ℕ → Keeping → Keeping
made_part shape p k = made_of_run shape p (k.runs p) k
