-- A bucket that is being taken out: at the front, as the only one, and in the middle.
use Rattle.std.proofs.Common.{ℕ, List, [], ◌∷◌, refl, arith}
use Rattle.persist_model.specs.Faults.{IsFirstFault}
use Rattle.persist_model.specs.Sound.{HasChain, IsSound}
use Rattle.log_laws.proofs.Soundness.{shape_some, parts_some, chains_in}
use Rattle.log_laws.proofs.RecordSorting.{log_of}
use Rattle.log_laws.proofs.LogFaults.{log_some}
use Rattle.log_laws.proofs.Verdicts.{word, words_of, is_sound, lists_fault, chain_at}
use Rattle.log_laws.proofs.Examples.LiteralImages.{simple}
use Rattle.log_laws.proofs.Examples.FirstScript.{first}
use Rattle.log_laws.proofs.Examples.Chains.{three, removing}

-- bucket 32, whose gate is closed, before 48 and 64
abbrev at_front : List (ℕ × ℕ)
at_front = word 12 32 ∷ word 40 0 ∷ three

front_is_sound : IsSound 352 (words_of at_front)
unfolding shape_some parts_some log_of log_some chains_in
front_is_sound = is_sound 352 (words_of at_front) simple [] refl refl refl refl refl

front_chain : HasChain simple (words_of at_front) 0 (48 ∷ 64 ∷ [])
unfolding parts_some chains_in
front_chain = chain_at (words_of at_front) simple 0 (48 ∷ 64 ∷ []) refl (omega arith) refl

-- the only bucket: HEAD and TAIL name it still
abbrev alone : List (ℕ × ℕ)
alone = word 12 32 ∷ word 40 0 ∷ first

alone_is_sound : IsSound 352 (words_of alone)
unfolding shape_some parts_some log_of log_some chains_in
alone_is_sound = is_sound 352 (words_of alone) simple [] refl refl refl refl refl

alone_chain : HasChain simple (words_of alone) 0 []
unfolding parts_some chains_in
alone_chain = chain_at (words_of alone) simple 0 [] refl (omega arith) refl

-- TAIL stays that of the chain while a bucket of the middle goes
middle_tail : IsFirstFault 352 (words_of (word 9 32 ∷ removing)) 6 9
unfolding shape_some parts_some
middle_tail = lists_fault 352 (words_of (word 9 32 ∷ removing)) simple 6 9 refl refl refl

middle_tail_removed : IsFirstFault 352 (words_of (word 9 48 ∷ removing)) 6 9
unfolding shape_some parts_some
middle_tail_removed = lists_fault 352 (words_of (word 9 48 ∷ removing)) simple 6 9 refl refl refl

-- what it names as the one before it isn't in the chain: 80, whose NEXT is 64 as well
neighbour_apart : IsFirstFault 352 (words_of (word 49 80 ∷ word 80 64 ∷ removing)) 6 12
unfolding shape_some parts_some
neighbour_apart = lists_fault 352 (words_of (word 49 80 ∷ word 80 64 ∷ removing)) simple 6 12 refl refl refl
