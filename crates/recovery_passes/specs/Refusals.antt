-- What a refused check, and the rest of a recovery that wasn't finished, are to a whole recovery.
use Rattle.sound_check.specs.declared.fault.CheckFault.{CheckFault}
use Rattle.sound_check.specs.declared.fault.CheckFault.TheVariants.{Unsound as Faulty, NoMemory as Refused}
use Rattle.recovery_passes.specs.declared.recovering.RecoverFault.{RecoverFault}
use Rattle.recovery_passes.specs.declared.recovering.RecoverFault.TheVariants.{Unsound, Stopped, NoMemory}
use Rattle.recovery_passes.specs.declared.recovering.Unfinished.{Unfinished}
use Rattle.recovery_passes.specs.declared.recovering.Unfinished.TheVariants as unfinished

abbrev pub recover_fault : CheckFault → RecoverFault
recover_fault (Faulty found) = Unsound found
recover_fault Refused = NoMemory

abbrev pub unfinished_fault : Unfinished → RecoverFault
unfinished_fault unfinished.Stopped = Stopped
unfinished_fault unfinished.NoMemory = NoMemory
