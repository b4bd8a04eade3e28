-- What contracts see of a lane's word.
use Rattle.std.specs.Prelude.{ℕ, zero, suc, ◌==◌, if◌then◌else◌, Option, Some, None, [], false}
use Rattle.lane_types.specs.declared.call.Call.{Call}
use Rattle.lane_types.specs.declared.call.Call.TheVariants.{Write}
use Rattle.lane_types.specs.declared.call.Phase.{Phase}
use Rattle.lane_types.specs.declared.call.Phase.TheVariants.{In, Calling}
use Rattle.lane_types.specs.declared.call.Reply.TheVariants.{Written}
use Rattle.lane_types.specs.declared.call.Stepped.{Stepped}
use Rattle.lane_types.specs.declared.call.Stepped.TheVariants.{Answered, Idle}
use Rattle.lane_types.specs.Heaps.{Heap, Holding, nothing_held}
use Rattle.lane_types.specs.Faces.{Base, WholeFace, stepped_tally}
use Rattle.lane_types.specs.Asks.{accepted_tally}
use Rattle.hub_tests.specs.declared.counter.Counter.{Counter}
use Rattle.hub_tests.specs.declared.deed.Nothing.{Nothing}

abbrev pub rest : ℕ → Counter
rest word = record { word = word; job = None; answer = None; tally = record { steps = 0; last = None; cells = 0; checkpoints = 0; takes = 0; full = false; heap = false; stopped = false } }

abbrev pub answer_of : Option ℕ → Stepped
answer_of None = Idle
answer_of (Some v) = Answered Written

-- the counter after a step
abbrev pub after : Option ℕ → Counter → Counter
after None c = record c { tally = stepped_tally Idle c.tally }
after (Some v) c = record { word = v; job = None; answer = Some Written; tally = stepped_tally (Answered Written) c.tally }

-- a heap of one block
abbrev pub small_heap : Heap
small_heap = record { start = 0; blocks = 1; at = λ a. 0 }

abbrev pub small_base : Base
small_base = record {
  sorts = [];
  structures = 2;
  header = [];
  heap = small_heap;
  counts = record { events = 0; budget = 0; stopped = 0; restarts = record { loaded_at = 0; times = 0; pick = None }; origin = [] };
}

-- lane 0 holds word 1, lane 1 word 2
abbrev pub word_of : ℕ → ℕ → ℕ → Option ℕ
word_of zero word a = if a == 1 then Some word else None
word_of (suc zero) word a = if a == 2 then Some word else None
word_of (suc (suc n)) word a = None

abbrev pub held_by : ℕ → ℕ → Holding
held_by lane word = record { word = word_of lane word; owner = λ block. None; given = λ block. false }

abbrev pub phase_of : Option ℕ → Phase
phase_of None = In
phase_of (Some v) = Calling

abbrev pub call_of : ℕ → Option ℕ → Option (Call Nothing)
call_of lane None = None
call_of lane (Some v) = Some (Write (suc lane) v)

abbrev pub face_of : ℕ → Counter → WholeFace Nothing
face_of lane c = record {
  face = record { lane = lane; phase = phase_of c.job; held = 0; begun = 0; commits = 0; answer = c.answer; tally = c.tally; live = 0 };
  base = small_base;
  words = held_by lane c.word;
  first = nothing_held;
  points = [];
  mine = [];
  call = call_of lane c.job;
  entered = false;
}

abbrev pub job_of : Call Nothing → Option ℕ
job_of (Write a v) = Some v
job_of _ = None

-- the counter with the call in progress
abbrev pub asked_counter : Call Nothing → Counter → Counter
asked_counter call c = record c { job = job_of call; tally = accepted_tally call c.tally }
