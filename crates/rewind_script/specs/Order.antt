-- The first words of lines, and the order in which the lines stand.
use Rattle.std.specs.Prelude.{ℕ, List, Bool, true, false, Option, Some, None, if◌then◌else◌, codes}
use Rattle.std.specs.Str.{bytes_eq}
use Rattle.rewind_script.specs.declared.read.reading.Part.{Part}
use Rattle.rewind_script.specs.declared.read.reading.Part.TheVariants as part
use Rattle.rewind_script.specs.declared.read.reading.Keyword.{Keyword}
use Rattle.rewind_script.specs.declared.read.reading.Keyword.TheVariants as keyword

-- The first word of a line.
unfoldable pub keyword_of : List ℕ → Option Keyword
keyword_of word =
    if bytes_eq word (codes "region") then Some keyword.Region else
    if bytes_eq word (codes "log") then Some keyword.Log else
    if bytes_eq word (codes "partitions") then Some keyword.Partitions else
    if bytes_eq word (codes "map") then Some keyword.Map else
    if bytes_eq word (codes "turns") then Some keyword.Turns else
    if bytes_eq word (codes "lane") then Some keyword.Lane else
    if bytes_eq word (codes "checkpoint") then Some keyword.Checkpoint else
    if bytes_eq word (codes "begin") then Some keyword.Begin else
    if bytes_eq word (codes "put") then Some keyword.Put else
    if bytes_eq word (codes "del") then Some keyword.Del else
    if bytes_eq word (codes "get") then Some keyword.Get else
    if bytes_eq word (codes "savepoint") then Some keyword.Savepoint else
    if bytes_eq word (codes "rollback") then Some keyword.Rollback else
    if bytes_eq word (codes "commit") then Some keyword.Commit else
    if bytes_eq word (codes "abort") then Some keyword.Abort else None

-- The order of the lines. A ninth map and a 17th lane may stand there: they pass a limit.
unfoldable pub may_stand : Part → Keyword → Bool
may_stand part.Start keyword.Region = true
may_stand part.Region keyword.Log = true
may_stand part.Log keyword.Partitions = true
may_stand part.Log keyword.Map = true
may_stand part.Partitions keyword.Map = true
may_stand part.Maps keyword.Map = true
may_stand part.Maps keyword.Turns = true
may_stand part.Maps keyword.Lane = true
may_stand part.Turns keyword.Turns = true
may_stand part.Turns keyword.Lane = true
may_stand part.Lane keyword.Lane = true
may_stand part.Lane keyword.Checkpoint = true
may_stand part.Lane keyword.Begin = true
may_stand part.Transaction keyword.Put = true
may_stand part.Transaction keyword.Del = true
may_stand part.Transaction keyword.Get = true
may_stand part.Transaction keyword.Savepoint = true
may_stand part.Transaction keyword.Rollback = true
may_stand part.Transaction keyword.Commit = true
may_stand part.Transaction keyword.Abort = true
may_stand _ _ = false

abbrev pub is_lane : Part → Bool
is_lane part.Lane = true
is_lane _ = false

abbrev pub is_transaction : Part → Bool
is_transaction part.Transaction = true
is_transaction _ = false
