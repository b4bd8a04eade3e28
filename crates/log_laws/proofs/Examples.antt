-- The definitions on small literal images and logs: four, eight or twelve buckets, 16 blocks.
mod LiteralImages
mod Logged
mod Undoing
mod FirstScript
mod HeaderFaults
mod Chains
mod Removals
mod ChainFaults
mod LogFaults
mod UndoFaults
mod TwoParts
mod FullBuckets
mod Rooms
mod Transactions
mod StandingWords
