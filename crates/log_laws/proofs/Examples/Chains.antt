-- The chain of an image in the midst of an insertion and of a removal, and after its repair.
use Rattle.std.proofs.Common.{◌≡◌, ℕ, List, [], ◌∷◌, refl, arith}
use Rattle.persist_model.specs.Shape.{log_words, IsBucketOf}
use Rattle.persist_model.specs.Chain.{view, Chain}
use Rattle.persist_model.specs.Visit.{IsVisit}
use Rattle.persist_model.specs.Sound.{HasChain, IsSound, room_of}
use Rattle.log_laws.proofs.Visits.{visit_some}
use Rattle.log_laws.proofs.Soundness.{shape_some, parts_some, chains_in}
use Rattle.log_laws.proofs.RecordSorting.{log_of}
use Rattle.log_laws.proofs.LogFaults.{log_some}
use Rattle.log_laws.proofs.Verdicts.{word, words_of, is_sound, chain_at, chain_of_list, no_other_chain, visit_at}
use Rattle.log_laws.proofs.Examples.LiteralImages.{simple}
use Rattle.log_laws.proofs.Examples.FirstScript.{the_update, first}

-- ---- bucket 48 is put behind bucket 32

-- its links and LAST_TAIL are stored, TO_APPEND isn't
abbrev prepared : List (ℕ × ℕ)
prepared = word 49 32 ∷ word 11 32 ∷ first

prepared_chain : HasChain simple (words_of prepared) 0 (32 ∷ [])
unfolding parts_some chains_in
prepared_chain = chain_at (words_of prepared) simple 0 (32 ∷ []) refl (omega arith) refl

-- with the store of TO_APPEND it is in the chain, before a link names it
abbrev pub inserting : List (ℕ × ℕ)
inserting = word 10 48 ∷ prepared

inserting_chain : HasChain simple (words_of inserting) 0 (32 ∷ 48 ∷ [])
unfolding parts_some chains_in
inserting_chain = chain_at (words_of inserting) simple 0 (32 ∷ 48 ∷ []) refl (omega arith) refl

inserting_is_chain : Chain (view 0 (log_words simple (words_of inserting))) (32 ∷ 48 ∷ [])
inserting_is_chain = chain_of_list simple 0 (log_words simple (words_of inserting)) (32 ∷ 48 ∷ []) inserting_chain

inserting_no_more : HasChain simple (words_of inserting) 0 (32 ∷ []) → ⊥
inserting_no_more = no_other_chain (words_of inserting) simple 0 (32 ∷ 48 ∷ []) (32 ∷ []) inserting_chain (λ e. cc)

inserting_is_sound : IsSound 352 (words_of inserting)
unfolding shape_some parts_some log_of log_some chains_in
inserting_is_sound = is_sound 352 (words_of inserting) simple (the_update ∷ []) refl refl refl refl refl

-- its closed cell, and the two buckets that aren't in the chain
inserting_room : room_of simple (words_of inserting) 0 (32 ∷ 48 ∷ []) ≡ 3
inserting_room = refl

-- NEXT of 32 and TAIL are stored, in either order
linked_chain : HasChain simple (words_of (word 32 48 ∷ inserting)) 0 (32 ∷ 48 ∷ [])
unfolding parts_some chains_in
linked_chain = chain_at (words_of (word 32 48 ∷ inserting)) simple 0 (32 ∷ 48 ∷ []) refl (omega arith) refl

tail_chain : HasChain simple (words_of (word 9 48 ∷ inserting)) 0 (32 ∷ 48 ∷ [])
unfolding parts_some chains_in
tail_chain = chain_at (words_of (word 9 48 ∷ inserting)) simple 0 (32 ∷ 48 ∷ []) refl (omega arith) refl

-- the repair stores both, and then 0 to TO_APPEND
inserted_chain : HasChain simple (words_of (word 32 48 ∷ word 9 48 ∷ word 10 0 ∷ inserting)) 0 (32 ∷ 48 ∷ [])
unfolding parts_some chains_in
inserted_chain = chain_at (words_of (word 32 48 ∷ word 9 48 ∷ word 10 0 ∷ inserting)) simple 0 (32 ∷ 48 ∷ []) refl (omega arith) refl

-- into an empty list
first_inserting : HasChain simple (words_of (word 8 0 ∷ word 9 0 ∷ word 11 0 ∷ word 49 0 ∷ inserting)) 0 (48 ∷ [])
unfolding parts_some chains_in
first_inserting = chain_at (words_of (word 8 0 ∷ word 9 0 ∷ word 11 0 ∷ word 49 0 ∷ inserting)) simple 0 (48 ∷ []) refl (omega arith) refl

empty_chain : HasChain simple (words_of (word 8 0 ∷ word 9 0 ∷ first)) 0 []
unfolding parts_some chains_in
empty_chain = chain_at (words_of (word 8 0 ∷ word 9 0 ∷ first)) simple 0 [] refl (omega arith) refl

-- ---- bucket 48 is taken out from between 32 and 64

abbrev pub three : List (ℕ × ℕ)
three = word 32 48 ∷ word 48 64 ∷ word 49 32 ∷ word 65 48 ∷ word 9 64 ∷ first

three_chain : HasChain simple (words_of three) 0 (32 ∷ 48 ∷ 64 ∷ [])
unfolding parts_some chains_in
three_chain = chain_at (words_of three) simple 0 (32 ∷ 48 ∷ 64 ∷ []) refl (omega arith) refl

-- with the store of TO_REMOVE it isn't in the chain, while all links name it
abbrev pub removing : List (ℕ × ℕ)
removing = word 12 48 ∷ three

removing_chain : HasChain simple (words_of removing) 0 (32 ∷ 64 ∷ [])
unfolding parts_some chains_in
removing_chain = chain_at (words_of removing) simple 0 (32 ∷ 64 ∷ []) refl (omega arith) refl

removing_no_more : HasChain simple (words_of removing) 0 (32 ∷ 48 ∷ 64 ∷ []) → ⊥
removing_no_more = no_other_chain (words_of removing) simple 0 (32 ∷ 64 ∷ []) (32 ∷ 48 ∷ 64 ∷ []) removing_chain (λ e. cc)

removing_is_sound : IsSound 352 (words_of removing)
unfolding shape_some parts_some log_of log_some chains_in
removing_is_sound = is_sound 352 (words_of removing) simple (the_update ∷ []) refl refl refl refl refl

-- NEXT of 32 and PREV of 64 are stored, in either order
bridged_chain : HasChain simple (words_of (word 32 64 ∷ removing)) 0 (32 ∷ 64 ∷ [])
unfolding parts_some chains_in
bridged_chain = chain_at (words_of (word 32 64 ∷ removing)) simple 0 (32 ∷ 64 ∷ []) refl (omega arith) refl

back_chain : HasChain simple (words_of (word 65 32 ∷ removing)) 0 (32 ∷ 64 ∷ [])
unfolding parts_some chains_in
back_chain = chain_at (words_of (word 65 32 ∷ removing)) simple 0 (32 ∷ 64 ∷ []) refl (omega arith) refl

-- the repair stores both, and then 0 to TO_REMOVE
removed_chain : HasChain simple (words_of (word 32 64 ∷ word 65 32 ∷ word 12 0 ∷ removing)) 0 (32 ∷ 64 ∷ [])
unfolding parts_some chains_in
removed_chain = chain_at (words_of (word 32 64 ∷ word 65 32 ∷ word 12 0 ∷ removing)) simple 0 (32 ∷ 64 ∷ []) refl (omega arith) refl

-- ---- hostile links

-- the walk stops before a bucket that it has visited
cycle_visit : IsVisit (IsBucketOf simple 0) (view 0 (words_of (word 48 32 ∷ three))) (32 ∷ 48 ∷ [])
unfolding visit_some
cycle_visit = visit_at simple 0 (view 0 (words_of (word 48 32 ∷ three))) (32 ∷ 48 ∷ []) refl

-- and before a word of the heap
outside_visit : IsVisit (IsBucketOf simple 0) (view 0 (words_of (word 48 96 ∷ three))) (32 ∷ 48 ∷ [])
unfolding visit_some
outside_visit = visit_at simple 0 (view 0 (words_of (word 48 96 ∷ three))) (32 ∷ 48 ∷ []) refl

-- and where it is cut
cut_visit : IsVisit (IsBucketOf simple 0) (view 0 (words_of (word 10 80 ∷ word 11 48 ∷ three))) (32 ∷ 48 ∷ [])
unfolding visit_some
cut_visit = visit_at simple 0 (view 0 (words_of (word 10 80 ∷ word 11 48 ∷ three))) (32 ∷ 48 ∷ []) refl
