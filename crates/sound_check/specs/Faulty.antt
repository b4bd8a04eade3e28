-- What a check answers.
use Rattle.persist_model.specs.ImageRules.{rule_number}
use Rattle.persist_model.specs.Faults.{FaultSet}
use Rattle.sound_check.specs.declared.fault.CheckFault.{CheckFault}
use Rattle.sound_check.specs.declared.fault.CheckFault.TheVariants.{Unsound, NoMemory}

-- where a rule fails it is one of these faults
abbrev pub IfUnsound : CheckFault → FaultSet → Type 0
IfUnsound (Unsound found) faults = faults (rule_number found.rule) found.address
IfUnsound NoMemory faults = Unit {0}
