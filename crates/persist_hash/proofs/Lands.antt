-- The land with one block more.
use Rattle.std.proofs.Common.{◌≡◌, ◌⊎◌, inl, inr, ⊎_elim, ℕ, ◌+◌, Bool, true, false, if◌then◌else◌, ◌==◌, refl, sym, ◌∙◌}
use Rattle.std.proofs.lemmas.Bool.Decides.{eqb_tells}
use Rattle.lane_traits.specs.Space.{Land, IsBlock, IsOwn, with_owner}
use Rattle.lane_traits.proofs.Writes.{put_same, put_other}

abbrev pub with_block : ℕ → Land → Land
with_block b land = with_owner b (land.structure + 1) land

pub own_more : (land : Land) (n b : ℕ) → IsOwn land b → IsOwn (with_block n land) b
own_more land n b own = (
  record { number = own.0.number; place = own.0.place; positive = own.0.positive; fits = own.0.fits },
  step (b == n),
)
  where
    step : (t : Bool) → (if t then land.structure + 1 else land.owner b) ≡ land.structure + 1
    step true = refl
    step false = own.1

pub own_new : (land : Land) (n : ℕ) → IsBlock land n → IsOwn (with_block n land) n
own_new land n block = (
  record { number = block.number; place = block.place; positive = block.positive; fits = block.fits },
  put_same n (land.structure + 1) land.owner,
)

pub own_either : (land : Land) (n b : ℕ) → IsOwn (with_block n land) b → IsOwn land b ⊎ (b ≡ n)
own_either land n b own = ⊎_elim
    (λ same. inr same.1)
    (λ other. inl (
      record { number = own.0.number; place = own.0.place; positive = own.0.positive; fits = own.0.fits },
      sym (put_other n (land.structure + 1) b land.owner other.1) ∙ own.1,
    ))
    (eqb_tells b n)
