-- Changes of the image of a put that break one of the first four rules.
use Rattle.std.proofs.Common.{◌∷◌, refl}
use Rattle.persist_model.specs.Faults.{IsFirstFault}
use Rattle.log_laws.proofs.Soundness.{shape_some}
use Rattle.log_laws.proofs.Verdicts.{word, words_of, header_fault}
use Rattle.log_laws.proofs.Examples.FirstScript.{first, second}

-- another magic, and too few words
no_magic : IsFirstFault 352 (words_of (word 0 0 ∷ first)) 1 0
unfolding shape_some
no_magic = header_fault 352 (words_of (word 0 0 ∷ first)) 1 0 refl

too_few : IsFirstFault 31 (words_of first) 1 0
unfolding shape_some
too_few = header_fault 31 (words_of first) 1 0 refl

third_policy : IsFirstFault 352 (words_of (word 1 3 ∷ first)) 2 1
unfolding shape_some
third_policy = header_fault 352 (words_of (word 1 3 ∷ first)) 2 1 refl

two_cells : IsFirstFault 352 (words_of (word 2 2 ∷ first)) 3 2
unfolding shape_some
two_cells = header_fault 352 (words_of (word 2 2 ∷ first)) 3 2 refl

three_buckets : IsFirstFault 352 (words_of (word 3 3 ∷ first)) 4 3
unfolding shape_some
three_buckets = header_fault 352 (words_of (word 3 3 ∷ first)) 4 3 refl

few_blocks : IsFirstFault 352 (words_of (word 4 15 ∷ first)) 4 4
unfolding shape_some
few_blocks = header_fault 352 (words_of (word 4 15 ∷ first)) 4 4 refl

nine_structures : IsFirstFault 352 (words_of (word 5 9 ∷ first)) 4 5
unfolding shape_some
nine_structures = header_fault 352 (words_of (word 5 9 ∷ first)) 4 5 refl

-- a word more than the sizes say
one_more : IsFirstFault 353 (words_of first) 4 0
unfolding shape_some
one_more = header_fault 353 (words_of first) 4 0 refl

-- in format 2 the partitions, of which four buckets allow one, and the kinds
four_partitions : IsFirstFault 352 (words_of (word 6 4 ∷ second)) 4 6
unfolding shape_some
four_partitions = header_fault 352 (words_of (word 6 4 ∷ second)) 4 6 refl

two_partitions : IsFirstFault 352 (words_of (word 6 2 ∷ second)) 4 6
unfolding shape_some
two_partitions = header_fault 352 (words_of (word 6 2 ∷ second)) 4 6 refl

no_kind : IsFirstFault 352 (words_of (word 13 4 ∷ second)) 4 13
unfolding shape_some
no_kind = header_fault 352 (words_of (word 13 4 ∷ second)) 4 13 refl

-- the magic is tried before the policy, and the buckets before the blocks
first_of_two : IsFirstFault 352 (words_of (word 0 0 ∷ word 1 3 ∷ first)) 1 0
unfolding shape_some
first_of_two = header_fault 352 (words_of (word 0 0 ∷ word 1 3 ∷ first)) 1 0 refl

-- ---- a size above its limit, or 0

many_buckets : IsFirstFault 352 (words_of (word 3 1025 ∷ first)) 4 3
unfolding shape_some
many_buckets = header_fault 352 (words_of (word 3 1025 ∷ first)) 4 3 refl

many_blocks : IsFirstFault 352 (words_of (word 4 65537 ∷ first)) 4 4
unfolding shape_some
many_blocks = header_fault 352 (words_of (word 4 65537 ∷ first)) 4 4 refl

no_structures : IsFirstFault 352 (words_of (word 5 0 ∷ first)) 4 5
unfolding shape_some
no_structures = header_fault 352 (words_of (word 5 0 ∷ first)) 4 5 refl

no_partitions : IsFirstFault 352 (words_of (word 6 0 ∷ second)) 4 6
unfolding shape_some
no_partitions = header_fault 352 (words_of (word 6 0 ∷ second)) 4 6 refl

kind_of_0 : IsFirstFault 352 (words_of (word 13 0 ∷ second)) 4 13
unfolding shape_some
kind_of_0 = header_fault 352 (words_of (word 13 0 ∷ second)) 4 13 refl

-- a wrong kind behind a right one
second_kind : IsFirstFault 352 (words_of (word 5 2 ∷ word 14 4 ∷ second)) 4 14
unfolding shape_some
second_kind = header_fault 352 (words_of (word 5 2 ∷ word 14 4 ∷ second)) 4 14 refl
