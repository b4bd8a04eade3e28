pub mod Numbers
pub mod Records
pub mod RecoveryAppends
pub mod Holding
pub mod Undoing
pub mod UndoProgress
pub mod Checkpoint
pub mod UndoRegions
