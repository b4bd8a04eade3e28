-- What stages that follow one another have counted, and what they keep.
use Rattle.std.proofs.Common.{◌≡◌, ℕ, ◌+◌, ◌≤◌, ap, ◌∙◌, arith}
use Rattle.persist_model.specs.Region.{Region}
use Rattle.lane_traits.specs.declared.device.Done.{Done}
use Rattle.lane_traits.specs.declared.device.Done.TheVariants.{Made, Stopped}
use Rattle.lane_traits.specs.Device.{Counts}
use Rattle.recovery_run.specs.Edges.{counts_with, HasCounted, KeepsWords}

pub counted_none : (counts : Counts) → HasCounted 0 Made counts counts
counted_none counts = record { events = 0; few = omega arith; is = ap (λ n. record counts { events = n }) (omega arith); cause = λ e. absurd (cc) }

pub counted_more : (most more : ℕ) (done : Done) (before later : Counts) → most ≤ more → HasCounted most done before later → HasCounted more done before later
counted_more most more done before later le h = record { events = h.events; few = (let few = h.few in omega (arith, le, few)); is = h.is; cause = h.cause }

pub counted_then : (m n : ℕ) (done : Done) (before middle later : Counts) → HasCounted m Made before middle → HasCounted n done middle later → HasCounted (m + n) done before later
counted_then m n done before middle later first second = record {
  events = first.events + second.events;
  few = (let f = first.few in let g = second.few in omega (arith, f, g));
  is = by_done done second.is;
  cause = λ e. (let made = second.cause e in let here = ap (λ (c : Counts). c.events) first.is in let budget = ap (λ (c : Counts). c.budget) first.is in omega (arith, made, here, budget));
}
  where
    by_done : (d : Done) → later ≡ counts_with middle second.events d → later ≡ counts_with before (first.events + second.events) d
    by_done Made is = is ∙ ap (λ (c : Counts). counts_with c second.events Made) first.is ∙ ap (λ n. record before { events = n }) (omega arith)
    by_done Stopped is = is ∙ ap (λ (c : Counts). counts_with c second.events Stopped) first.is
        ∙ ap (λ n. record (counts_with before 0 Stopped) { events = n }) (omega arith)

pub keeps_then : (A : ℕ → Type 0) (before middle later : Region) → KeepsWords A before middle → KeepsWords A middle later → KeepsWords A before later
keeps_then A before middle later first second = λ a v m one. second a v m (first a v m one)
