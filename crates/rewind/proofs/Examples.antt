-- The definitions on small histories, and on the words of stops.
use Rattle.std.proofs.Common.{◌≡◌, ℕ, List, [], ◌∷◌, ◌++◌, refl, codes, arith, Option, Some}
use Rattle.std.specs.Fmt.{digits}
use Rattle.rewind_script.specs.Report.{report as text_of_report}
use Rattle.persist_model.specs.declared.pick.Pick.TheVariants.{Old, Mix}
use Rattle.rewind_script.specs.Text.{number, spelled}
use Rattle.rewind.specs.declared.words.Job.TheVariants as job
use Rattle.rewind.specs.Words.{AreWordsOf, IsWordOfPick, IsMixOf}
use Rattle.rewind.specs.declared.script.Put.{Put}
use Rattle.rewind.specs.History.{ended_line, contents, history, report, stop_report, first_names}

abbrev put : ℕ → ℕ → Put
put k v = record { key = k; value = v }

abbrev two : List (List Put)
two = (put 3 7 ∷ put 0 1 ∷ []) ∷ (put 3 9 ∷ []) ∷ []

two_report : report (history two) (contents two)
    ≡ ended_line (codes "commit 0 0") ++ ended_line (codes "commit 0 1") ++ ended_line (codes "map 0") ++ ended_line (codes "0 1") ++ ended_line (codes "3 9") ++ ended_line (codes "end")
unfolding text_of_report digits
two_report = refl

one_stop : stop_report (first_names 1) ≡ ended_line (codes "commit 0 0") ++ ended_line (codes "stopped")
unfolding digits
one_stop = refl

-- ---- the words of a stop

stop_words : AreWordsOf (job.Migrate (Some (record { events = 23; pick = Old }))) (codes "migrate" ∷ codes "023" ∷ codes "old" ∷ [])
unfolding number spelled
stop_words = (codes "023", codes "old", refl, record { events_are = refl; pick_is = refl })

mixture : IsWordOfPick (Mix 7) (codes "mix07")
unfolding number spelled
mixture = (codes "07", refl, record { short = omega arith; spells = refl; fits = omega arith })

-- one more than the largest
no_mixture : (m : ℕ) → IsMixOf m (codes "4294967296") → ⊥
unfolding number spelled
no_mixture m h =
    let e : ◌≡◌ {A = Option ℕ} (Some 4294967296) (Some m) = h.spells in
    let is : 4294967296 ≡ m = cc in
    let fits = h.fits in
    omega (arith, is, fits)
