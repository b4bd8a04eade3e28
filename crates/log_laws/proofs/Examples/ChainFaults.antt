-- Changes of sound images that break the address rule or a list rule.
use Rattle.std.proofs.Common.{◌∷◌, refl}
use Rattle.persist_model.specs.Faults.{IsFirstFault}
use Rattle.log_laws.proofs.Soundness.{shape_some, parts_some}
use Rattle.log_laws.proofs.Verdicts.{word, words_of, lists_fault}
use Rattle.log_laws.proofs.Examples.LiteralImages.{simple, cell, update}
use Rattle.log_laws.proofs.Examples.FirstScript.{first}
use Rattle.log_laws.proofs.Examples.Chains.{inserting, removing}

-- ---- addresses: the list words, the links of what the walk visits, and of what TO_APPEND and TO_REMOVE name

head_inside : IsFirstFault 352 (words_of (word 8 33 ∷ first)) 5 8
unfolding shape_some parts_some
head_inside = lists_fault 352 (words_of (word 8 33 ∷ first)) simple 5 8 refl refl refl

tail_is_cell : IsFirstFault 352 (words_of (word 9 40 ∷ first)) 5 9
unfolding shape_some parts_some
tail_is_cell = lists_fault 352 (words_of (word 9 40 ∷ first)) simple 5 9 refl refl refl

append_outside : IsFirstFault 352 (words_of (word 10 96 ∷ first)) 5 10
unfolding shape_some parts_some
append_outside = lists_fault 352 (words_of (word 10 96 ∷ first)) simple 5 10 refl refl refl

last_tail_small : IsFirstFault 352 (words_of (word 11 7 ∷ first)) 5 11
unfolding shape_some parts_some
last_tail_small = lists_fault 352 (words_of (word 11 7 ∷ first)) simple 5 11 refl refl refl

remove_inside : IsFirstFault 352 (words_of (word 12 100 ∷ first)) 5 12
unfolding shape_some parts_some
remove_inside = lists_fault 352 (words_of (word 12 100 ∷ first)) simple 5 12 refl refl refl

next_of_first : IsFirstFault 352 (words_of (word 32 96 ∷ first)) 5 32
unfolding shape_some parts_some
next_of_first = lists_fault 352 (words_of (word 32 96 ∷ first)) simple 5 32 refl refl refl

prev_of_first : IsFirstFault 352 (words_of (word 33 5 ∷ first)) 5 33
unfolding shape_some parts_some
prev_of_first = lists_fault 352 (words_of (word 33 5 ∷ first)) simple 5 33 refl refl refl

-- the walk comes to it by a NEXT
next_of_second : IsFirstFault 352 (words_of (word 32 48 ∷ word 48 49 ∷ first)) 5 48
unfolding shape_some parts_some
next_of_second = lists_fault 352 (words_of (word 32 48 ∷ word 48 49 ∷ first)) simple 5 48 refl refl refl

-- both links of a bucket come before those of the next
prev_before_next : IsFirstFault 352 (words_of (word 33 5 ∷ word 32 48 ∷ word 48 49 ∷ first)) 5 33
unfolding shape_some parts_some
prev_before_next = lists_fault 352 (words_of (word 33 5 ∷ word 32 48 ∷ word 48 49 ∷ first)) simple 5 33 refl refl refl

next_of_appended : IsFirstFault 352 (words_of (word 10 48 ∷ word 48 5 ∷ first)) 5 48
unfolding shape_some parts_some
next_of_appended = lists_fault 352 (words_of (word 10 48 ∷ word 48 5 ∷ first)) simple 5 48 refl refl refl

prev_of_removed : IsFirstFault 352 (words_of (word 12 80 ∷ word 81 5 ∷ first)) 5 81
unfolding shape_some parts_some
prev_of_removed = lists_fault 352 (words_of (word 12 80 ∷ word 81 5 ∷ first)) simple 5 81 refl refl refl

append_before_remove : IsFirstFault 352 (words_of (word 10 48 ∷ word 12 80 ∷ word 49 5 ∷ word 80 5 ∷ first)) 5 49
unfolding shape_some parts_some
append_before_remove = lists_fault 352 (words_of (word 10 48 ∷ word 12 80 ∷ word 49 5 ∷ word 80 5 ∷ first)) simple 5 49 refl refl refl

-- ---- the list, in the order of its rules

-- both TO_APPEND and TO_REMOVE are set
both_set : IsFirstFault 352 (words_of (word 10 48 ∷ word 12 64 ∷ first)) 6 12
unfolding shape_some parts_some
both_set = lists_fault 352 (words_of (word 10 48 ∷ word 12 64 ∷ first)) simple 6 12 refl refl refl

-- the walk visits a bucket twice
cycle : IsFirstFault 352 (words_of (word 32 32 ∷ first)) 6 8
unfolding shape_some parts_some
cycle = lists_fault 352 (words_of (word 32 32 ∷ first)) simple 6 8 refl refl refl

-- it never comes to LAST_TAIL
last_tail_missed : IsFirstFault 352 (words_of (word 11 64 ∷ inserting)) 6 8
unfolding shape_some parts_some
last_tail_missed = lists_fault 352 (words_of (word 11 64 ∷ inserting)) simple 6 8 refl refl refl

-- what is put in was visited, has a NEXT, has another PREV, or a link or TAIL names another bucket
appended_visited : IsFirstFault 352 (words_of (word 10 32 ∷ word 11 32 ∷ first)) 6 10
unfolding shape_some parts_some
appended_visited = lists_fault 352 (words_of (word 10 32 ∷ word 11 32 ∷ first)) simple 6 10 refl refl refl

appended_next : IsFirstFault 352 (words_of (word 48 64 ∷ inserting)) 6 10
unfolding shape_some parts_some
appended_next = lists_fault 352 (words_of (word 48 64 ∷ inserting)) simple 6 10 refl refl refl

appended_prev : IsFirstFault 352 (words_of (word 49 0 ∷ inserting)) 6 10
unfolding shape_some parts_some
appended_prev = lists_fault 352 (words_of (word 49 0 ∷ inserting)) simple 6 10 refl refl refl

appended_tail : IsFirstFault 352 (words_of (word 9 64 ∷ inserting)) 6 10
unfolding shape_some parts_some
appended_tail = lists_fault 352 (words_of (word 9 64 ∷ inserting)) simple 6 10 refl refl refl

appended_link : IsFirstFault 352 (words_of (word 32 64 ∷ inserting)) 6 10
unfolding shape_some parts_some
appended_link = lists_fault 352 (words_of (word 32 64 ∷ inserting)) simple 6 10 refl refl refl

-- the links of what is taken out lead back
removed_twice : IsFirstFault 352 (words_of (word 48 32 ∷ removing)) 6 8
unfolding shape_some parts_some
removed_twice = lists_fault 352 (words_of (word 48 32 ∷ removing)) simple 6 8 refl refl refl

-- its neighbours are one, or no neighbours, or an open gate is left, or a link names another bucket
removed_same : IsFirstFault 352 (words_of (word 12 80 ∷ word 80 64 ∷ word 81 64 ∷ first)) 6 12
unfolding shape_some parts_some
removed_same = lists_fault 352 (words_of (word 12 80 ∷ word 80 64 ∷ word 81 64 ∷ first)) simple 6 12 refl refl refl

removed_apart : IsFirstFault 352 (words_of (word 12 80 ∷ first)) 6 12
unfolding shape_some parts_some
removed_apart = lists_fault 352 (words_of (word 12 80 ∷ first)) simple 6 12 refl refl refl

removed_open : IsFirstFault 352 (words_of (cell (update 56 2 2 104 0 8 0) removing)) 6 12
unfolding shape_some parts_some
removed_open = lists_fault 352 (words_of (cell (update 56 2 2 104 0 8 0) removing)) simple 6 12 refl refl refl

removed_back : IsFirstFault 352 (words_of (word 65 80 ∷ removing)) 6 12
unfolding shape_some parts_some
removed_back = lists_fault 352 (words_of (word 65 80 ∷ removing)) simple 6 12 refl refl refl

-- a PREV that names another bucket, and TAIL
prev_wrong : IsFirstFault 352 (words_of (word 33 48 ∷ first)) 6 33
unfolding shape_some parts_some
prev_wrong = lists_fault 352 (words_of (word 33 48 ∷ first)) simple 6 33 refl refl refl

tail_wrong : IsFirstFault 352 (words_of (word 9 48 ∷ first)) 6 9
unfolding shape_some parts_some
tail_wrong = lists_fault 352 (words_of (word 9 48 ∷ first)) simple 6 9 refl refl refl

tail_none : IsFirstFault 352 (words_of (word 9 0 ∷ first)) 6 9
unfolding shape_some parts_some
tail_none = lists_fault 352 (words_of (word 9 0 ∷ first)) simple 6 9 refl refl refl

prev_before_tail : IsFirstFault 352 (words_of (word 33 48 ∷ word 9 48 ∷ first)) 6 33
unfolding shape_some parts_some
prev_before_tail = lists_fault 352 (words_of (word 33 48 ∷ word 9 48 ∷ first)) simple 6 33 refl refl refl
