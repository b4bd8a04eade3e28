use Rattle.std.proofs.Common.{sym, subst}
use Rattle.lane_types.specs.declared.call.Refusal.{Refusal}
use Rattle.lane_types.specs.Asks.{Why, refused}
use Rattle.rewind_script.specs.declared.report.How.TheVariants as how
use Rattle.lane_worker.specs.declared.stage.Stage.TheVariants as stage
use Rattle.lane_worker.specs.Standing.{IsReady}
use Rattle.lane_worker.specs.Acts.{IsForWant}
use Rattle.lane_worker.proofs.Refusing.{full_ready, heap_ready}
use Rattle.lane_worker.proofs.worker.Worker.refused.Goals as goal

pub returns-in-LogFull : goal.returns-in-LogFull
returns-in-LogFull c call f h why =
    subst (λ (r : Refusal). IsReady (record c.args.self.now { stage = stage.Aborting (how.Full c.in-LogFull.room c.in-LogFull.need) }) (refused call r f)) (sym c.in-LogFull.is)
    (full_ready c.args.self.now call f c.in-LogFull.room c.in-LogFull.need h (subst (λ (r : Refusal). Why r f call) c.in-LogFull.is why))

pub returns-in-HeapFull : goal.returns-in-HeapFull
returns-in-HeapFull c call f h why =
    subst (λ (r : Refusal). IsReady (record c.args.self.now { stage = stage.Aborting how.Heap }) (refused call r f)) (sym c.in-HeapFull.is)
    (heap_ready c.args.self.now call f h (subst (λ (r : Refusal). Why r f call) c.in-HeapFull.is why))

pub returns-in-WrongPhase : goal.returns-in-WrongPhase
returns-in-WrongPhase c = absurd (subst IsForWant c.in-WrongPhase.is c.requires.want)

pub returns-in-NotHeld : goal.returns-in-NotHeld
returns-in-NotHeld c = absurd (subst IsForWant c.in-NotHeld.is c.requires.want)

pub returns-in-NoMemory : goal.returns-in-NoMemory
returns-in-NoMemory c = absurd (subst IsForWant c.in-NoMemory.is c.requires.want)
