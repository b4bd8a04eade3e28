-- The definitions on a small region: four buckets of one cell, at 32, 48, 64 and 80.
use Rattle.std.proofs.Common.{◌≡◌, inl, inr, ℕ, ◌==◌, if◌then◌else◌, [], ◌∷◌, Some, refl, arith}
use Rattle.std.specs.Prelude.{slice_get}
use Rattle.persist_model.specs.declared.event.Event.TheVariants.{PStore}
use Rattle.persist_model.specs.Region.{Words}
use Rattle.persist_model.specs.Shape.{Shape, IsBucketOf}
use Rattle.atomic_list.specs.declared.plans.Insert.{Insert}
use Rattle.atomic_list.specs.declared.plans.Remove.{Remove}
use Rattle.atomic_list.specs.declared.repairing.Repair.TheVariants.{Nothing, Append, Remove as TakeOut}
use Rattle.atomic_list.specs.Plans.{insertion, removal, repair_plan, repair_asked}
use Rattle.atomic_list.specs.Rules.{IsAtRest, IsAppending, IsRemoving}
use Rattle.atomic_list.specs.Walk.{chain_of}
use Rattle.atomic_list.specs.Reads.{next_in}

abbrev shape : Shape
shape = record { policy = 1; cells = 1; buckets = 4; blocks = 16; structures = 1; format = 2; partitions = 1 }

-- 32 and 48 are linked; these are HEAD to TO_REMOVE, and the links of 48, 64 and 80
abbrev words : ℕ → ℕ → ℕ → ℕ → ℕ → ℕ → Words
words head tail to_append last_tail to_remove last = λ a.
    if a == 8 then head else
    (if a == 9 then tail else
    (if a == 10 then to_append else
    (if a == 11 then last_tail else
    (if a == 12 then to_remove else
    (if a == 32 then 48 else
    (if a == 48 then last else
    (if a == 49 then 32 else
    (if a == 65 then 48 else 0))))))))

first_bucket_is : IsBucketOf shape 0 32
first_bucket_is = (0, omega arith, omega arith, refl)

second_bucket_is : IsBucketOf shape 0 48
second_bucket_is = (1, omega arith, omega arith, refl)

third_bucket_is : IsBucketOf shape 0 64
third_bucket_is = (2, omega arith, omega arith, refl)

-- ---- at rest

abbrev rest : Words
rest = words 32 48 0 0 0 0

rest_is : IsAtRest shape 0 rest (32 ∷ 48 ∷ [])
rest_is = record {
  to_append = refl;
  to_remove = refl;
  last_tail = inl refl;
  buckets = (first_bucket_is, (second_bucket_is, tt));
  no_repeats = ((omega arith, tt), (tt, tt));
  links = (refl, omega arith, (refl, omega arith, refl));
  links_back = (refl, (refl, tt));
  tail = refl;
}

rest_chain : chain_of shape rest ≡ 32 ∷ 48 ∷ []
unfolding chain_of
rest_chain = refl

rest_repair : repair_asked rest ≡ Nothing
rest_repair = refl

-- with a wrong TAIL it isn't
wrong_tail : IsAtRest shape 0 (words 32 32 0 0 0 0) (32 ∷ 48 ∷ []) → ⊥
wrong_tail h = let e = h.tail in omega arith

-- nor with a bucket left out
left_out : IsAtRest shape 0 rest (32 ∷ []) → ⊥
left_out h = let e = h.links.2 in omega arith

-- ---- 64 is being put behind: whether 48 and TAIL name it or not, it is in the chain

abbrev appended : Words
appended = words 32 64 64 48 0 0

appended_is : IsAppending shape 0 appended (32 ∷ 48 ∷ []) 64
appended_is = record {
  to_append = refl;
  to_remove = refl;
  last_tail = refl;
  bucket = third_bucket_is;
  buckets = (first_bucket_is, (second_bucket_is, tt));
  absent = (omega arith, (omega arith, tt));
  no_repeats = ((omega arith, tt), (tt, tt));
  links = inl (refl, omega arith, (refl, omega arith, refl));
  links_back = (refl, (refl, tt));
  next = refl;
  prev = refl;
  tail = inr refl;
}

appended_chain : (chain_of shape appended ≡ 32 ∷ 48 ∷ 64 ∷ []) × (chain_of shape (words 32 48 64 48 0 64) ≡ 32 ∷ 48 ∷ 64 ∷ [])
unfolding chain_of
appended_chain = (refl, refl)

appended_repair : repair_asked appended ≡ Append (record { node = 64; tail = 48 })
appended_repair = refl

-- ---- 32 is being taken out: whether HEAD and the PREV of 48 name it or not, it isn't in the chain

abbrev removing_first : Words
removing_first = words 48 48 0 0 32 0

removing_is : IsRemoving shape 0 removing_first [] 32 (48 ∷ [])
removing_is = record {
  to_append = refl;
  to_remove = refl;
  last_tail = inl refl;
  bucket = first_bucket_is;
  buckets = (second_bucket_is, tt);
  absent = (omega arith, tt);
  no_repeats = (tt, tt);
  links = inr refl;
  next = (refl, omega arith, refl);
  prev = refl;
  links_back = tt;
  rest_links_back = inl (refl, tt);
  tail = inl refl;
}

removing_chain : (chain_of shape removing_first ≡ 48 ∷ []) × (chain_of shape (words 32 48 0 0 32 0) ≡ 48 ∷ [])
unfolding chain_of
removing_chain = (refl, refl)

removing_repair : repair_asked removing_first ≡ TakeOut (record { node = 32; prev = 0; next = 48 })
removing_repair = refl

-- ---- what is read, and the plans

next_buckets : (next_in (32 ∷ 48 ∷ []) 0 ≡ 32) × (next_in (32 ∷ 48 ∷ []) 32 ≡ 48) × (next_in (32 ∷ 48 ∷ []) 48 ≡ 0)
next_buckets = (refl, refl, refl)

abbrev first_insertion : Insert
first_insertion = record { node = 64; tail = 0 }

-- into an empty list HEAD is stored, else the NEXT of the tail
link_events : (slice_get (insertion first_insertion) 6 ≡ Some (PStore 8 64)) × (slice_get (insertion (record { node = 64; tail = 48 })) 6 ≡ Some (PStore 48 64))
link_events = (refl, refl)

abbrev last_removal : Remove
last_removal = record { node = 48; prev = 32; next = 0 }

-- at the end of the chain TAIL is stored, else the PREV of the next
back_events : (slice_get (removal last_removal) 3 ≡ Some (PStore 9 32)) × (slice_get (removal (record { node = 32; prev = 0; next = 48 })) 3 ≡ Some (PStore 49 0))
back_events = (refl, refl)

repair_events_are : (slice_get (repair_plan (Append first_insertion)) 0 ≡ Some (PStore 8 64)) × (slice_get (repair_plan (TakeOut last_removal)) 0 ≡ Some (PStore 32 0))
repair_events_are = (refl, refl)
