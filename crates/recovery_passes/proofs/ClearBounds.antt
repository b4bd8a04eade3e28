-- How many events the last stages make.
use Rattle.std.proofs.Common.{◌≡◌, ℕ, ◌+◌, ◌*◌, ◌≤◌, Bool, true, false, if◌then◌else◌, arith}
use Rattle.region_layout.specs.declared.layout.Layout.{Layout}
use Rattle.recovery_passes.specs.LoserPass.{clear_events}

pub clear_fits : (layout : Layout) (wanted : Bool) (before later : ℕ) → later ≤ before + (if wanted then 1 else 0) →
    (if wanted then layout.cells + 21 else 0) + (later + 3) + 7 * layout.buckets ≤ clear_events layout wanted before
clear_fits layout true before later le = omega (arith, le)
clear_fits layout false before later le = omega (arith, le)

pub close_fits : (layout : Layout) (wanted : Bool) (before later : ℕ) → later ≤ before + (if wanted then 1 else 0) →
    (if wanted then layout.cells + 21 else 0) + (later + 3) ≤ clear_events layout wanted before
close_fits layout true before later le = omega (arith, le)
close_fits layout false before later le = omega (arith, le)

-- places that are left for what comes
pub close_left : (layout : Layout) (wanted : Bool) (before later spare now : ℕ) → later ≤ before + (if wanted then 1 else 0) → clear_events layout wanted before ≤ spare →
    spare ≤ now + (if wanted then layout.cells + 21 else 0) → later + 3 ≤ now
close_left layout true before later spare now le enough left = omega (arith, le, enough, left)
close_left layout false before later spare now le enough left = omega (arith, le, enough, left)

pub drop_left : (layout : Layout) (wanted : Bool) (before later spare middle now : ℕ) → later ≤ before + (if wanted then 1 else 0) → clear_events layout wanted before ≤ spare →
    spare ≤ middle + (if wanted then layout.cells + 21 else 0) → middle ≤ now + (later + 3) → 7 * layout.buckets ≤ now
drop_left layout true before later spare middle now le enough left right = omega (arith, le, enough, left, right)
drop_left layout false before later spare middle now le enough left right = omega (arith, le, enough, left, right)

pub mark_fits : (layout : Layout) (wanted : Bool) (before spare : ℕ) → clear_events layout wanted before ≤ spare → (if wanted then layout.cells + 21 else 0) ≤ spare
mark_fits layout true before spare enough = omega (arith, enough)
mark_fits layout false before spare enough = omega (arith, enough)

pub mark_events : (layout : Layout) (wanted : Bool) (before : ℕ) → (if wanted then layout.cells + 21 else 0) ≤ clear_events layout wanted before
mark_events layout true before = omega arith
mark_events layout false before = omega arith

pub few_gates : (wanted : Bool) (before later : ℕ) → later ≤ before + (if wanted then 1 else 0) → later ≤ before + 1
few_gates true before later le = le
few_gates false before later le = omega (arith, le)

pub one_wanted : (wanted : Bool) (before later : ℕ) → wanted ≡ true → later ≡ before + 1 → later ≤ before + (if wanted then 1 else 0)
one_wanted true before later is e = omega (arith, e)
one_wanted false before later is e = cc
