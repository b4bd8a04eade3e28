-- The lines before the lanes: the region, its log, its partitions and its maps.
use Rattle.std.specs.Prelude.{ℕ, ◌*◌, List, [], ◌∷◌, ◌++◌, length, Bool, true, false, ◌&&◌, nat_lt, nat_le, Option, Some, None, Result, Ok, if◌then◌else◌, codes}
use Rattle.std.specs.Str.{bytes_eq}
use Rattle.rewind_script.specs.Steps.{◌>>=◌, guard, numeral, arg, sized, named}
use Rattle.region_layout.specs.declared.layout.Policy.{Policy}
use Rattle.region_layout.specs.declared.layout.Policy.TheVariants.{Force, NoForce}
use Rattle.region_layout.specs.declared.layout.Kind.{Kind}
use Rattle.region_layout.specs.declared.layout.Kind.TheVariants.{Cells, Tree, Hash}
use Rattle.rewind_script.specs.declared.fault.Fault.{Fault}
use Rattle.rewind_script.specs.declared.fault.Fault.TheVariants as fault
use Rattle.rewind_script.specs.declared.read.reading.Part.TheVariants as part
use Rattle.rewind_script.specs.declared.read.reading.Reading.{Reading}

abbrev pub policy_of : List ℕ → Option Policy
policy_of word =
    if bytes_eq word (codes "force") then Some Force else
    if bytes_eq word (codes "noforce") then Some NoForce else None

-- region force B N
unfoldable pub after_region : Reading → List (List ℕ) → Result Reading Fault
after_region reading args = do
  policy ← named policy_of args
  _ ← sized 3 args
  buckets ← numeral (arg args 1)
  blocks ← numeral (arg args 2)
  _ ← guard (nat_le 4 buckets && nat_le buckets 1024 && nat_le 16 blocks && nat_le blocks 65536) fault.Range
  Ok (record reading { part = part.Region; policy = policy; buckets = buckets; blocks = blocks; partitions = 1 })

-- partitions P
unfoldable pub after_partitions : Reading → List (List ℕ) → Result Reading Fault
after_partitions reading args = do
  _ ← sized 1 args
  count ← numeral (arg args 0)
  _ ← guard (nat_le 1 count && nat_le count 3 && nat_le (4 * count) reading.buckets) fault.Range
  Ok (record reading { part = part.Partitions; partitions = count })

abbrev pub kind_of : List ℕ → Option Kind
kind_of word =
    if bytes_eq word (codes "cells") then Some Cells else
    if bytes_eq word (codes "tree") then Some Tree else
    if bytes_eq word (codes "hash") then Some Hash else None

-- map cells, map tree or map hash
unfoldable pub after_map : Reading → List (List ℕ) → Result Reading Fault
after_map reading args = do
  kind ← named kind_of args
  _ ← sized 1 args
  _ ← guard (nat_lt (length reading.kinds) 8) fault.Limit
  Ok (record reading { part = part.Maps; kinds = reading.kinds ++ kind ∷ [] })

abbrev pub log_of : List ℕ → Option (ℕ × Bool)
log_of word =
    if bytes_eq word (codes "simple") then Some (1, false) else
    if bytes_eq word (codes "bucket") then Some (16, false) else
    if bytes_eq word (codes "batch") then Some (16, true) else None

-- log simple, log bucket or log batch
unfoldable pub after_log : Reading → List (List ℕ) → Result Reading Fault
after_log reading args = do
  log ← named log_of args
  _ ← sized 1 args
  Ok (record reading { part = part.Log; cells = log.0; batch = log.1 })
