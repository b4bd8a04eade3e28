-- What the code gets of a world's state, in one place.
pub use Rattle.txn_core.proofs.WorldFacts.{IsRead, any_start, few_lanes, is_book, slots_are, owes_event, has_logs, can_begin}
pub use Rattle.txn_core.proofs.Latching.{can_run, runs_behind, runs_behind_if_free}
