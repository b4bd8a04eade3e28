-- Which blocks a draft holds after its calls, over words whose blocks are all structure 0's.
use Rattle.std.proofs.Common.{◌≡◌, ◌≢◌, inl, inr, ℕ, ◌+◌, ◌-◌, ◌*◌, ◌<◌, Bool, true, false, if◌then◌else◌, ◌==◌, List, [], ◌∷◌, Result, Ok, Err, refl, sym, ◌∙◌, ap, subst, lit<, lit≤, arith}
use Rattle.std.specs.Prelude.{OnOk, OnErr, IfOk}
use Rattle.persist_model.specs.Records.{IsAmong}
use Rattle.lane_traits.specs.Space.{Land, Space, IsBlock, IsOwn, IsDataWordOf, IsTaken, root_block, taken, given}
use Rattle.lane_traits.specs.Draft.{of_structure, drafted, AreSetAside}
use Rattle.lane_traits.proofs.Among.{same_eq, apart_eq}

abbrev pub numbered : Space
numbered = record {
  land = record { heap = 0; structure = 0; owner = λ _. 1; start = record { word = λ a. a; owner = λ _. 1 } };
  word = λ a. a;
  spare = [];
  writes = 0;
}

abbrev three : List ℕ
three = 32 ∷ 48 ∷ 64 ∷ []

block_two : IsBlock (of_structure 0 numbered.land) 32
block_two = record { number = 2; place = refl; positive = lit< tt; fits = lit≤ tt }

block_three : IsBlock (of_structure 0 numbered.land) 48
block_three = record { number = 3; place = refl; positive = lit< tt; fits = lit≤ tt }

block_four : IsBlock (of_structure 0 numbered.land) 64
block_four = record { number = 4; place = refl; positive = lit< tt; fits = lit≤ tt }

own_of_three : (b : ℕ) → IsAmong three b → IsOwn (of_structure 0 numbered.land) b
own_of_three b (inl e) = subst (IsOwn (of_structure 0 numbered.land)) (sym e) (block_two, refl)
own_of_three b (inr (inl e)) = subst (IsOwn (of_structure 0 numbered.land)) (sym e) (block_three, refl)
own_of_three b (inr (inr (inl e))) = subst (IsOwn (of_structure 0 numbered.land)) (sym e) (block_four, refl)
own_of_three b (inr (inr (inr h))) = absurd h

not_first : (b : ℕ) → IsAmong three b → b ≢ 0
not_first b (inl e) z = omega (arith, e, z)
not_first b (inr (inl e)) z = omega (arith, e, z)
not_first b (inr (inr (inl e))) z = omega (arith, e, z)
not_first b (inr (inr (inr h))) z = absurd h

pub three_aside : AreSetAside (of_structure 0 numbered.land) three
three_aside = record {
  own = own_of_three;
  not_root = not_first;
  once = (((λ e. omega (arith, e)), ((λ e. omega (arith, e)), tt)), (((λ e. omega (arith, e)), tt), (tt, tt)));
}

pub first_own : IsOwn (drafted 0 [] [] three numbered).land 16
first_own = (record { number = 1; place = refl; positive = lit< tt; fits = lit≤ tt }, refl)

-- the words of the block at 16
pub within_first : (land : Land) (a : ℕ) → IsOwn land 16 → 16 < a → a < 32 → IsDataWordOf land a
within_first land a own above below = record {
  block = 16;
  index = a - 16;
  own = own;
  place = omega (arith, above);
  above = omega (arith, above);
  below = omega (arith, above, below);
}

block_stays : (land other : Land) (b : ℕ) → land.heap ≡ other.heap → IsBlock land b → IsBlock other b
block_stays land other b e block =
    record { number = block.number; place = block.place ∙ ap (λ h. h + 16 * block.number) e; positive = block.positive; fits = block.fits }

owner_put : (t : Bool) (n m : ℕ) → m ≡ n → (if t then n else m) ≡ n
owner_put true n m e = refl
owner_put false n m e = e

module _ (s t : Space) where
  taken_own : (b : ℕ) → IsTaken s b t → IsOwn t.land b
  taken_own b k = subst (λ (u : Space). IsOwn u.land b) (sym k.space) (
    block_stays s.land (taken b s).land b refl k.block,
    ap (λ (on : Bool). if on then s.land.structure + 1 else s.land.owner b) (same_eq b),
  )

  taken_keeps : (b : ℕ) → IsTaken s b t → (c : ℕ) → IsOwn s.land c → IsOwn t.land c
  taken_keeps b k c own = subst (λ (u : Space). IsOwn u.land c) (sym k.space) (
    block_stays s.land (taken b s).land c refl own.0,
    owner_put (c == b) (s.land.structure + 1) (s.land.owner c) own.1,
  )

  module _ {E : Type 0} where
    pub own_taken : (r : Result ℕ E) → IfOk r (λ b. IsTaken s b t) → IfOk r (λ b. IsOwn t.land b)
    own_taken (Ok b) k = taken_own b k
    own_taken (Err e) k = tt

    pub own_kept : (r : Result ℕ E) → IfOk r (λ b. IsTaken s b t) → OnErr r (t ≡ s) → (c : ℕ) → IsOwn s.land c → IsOwn t.land c
    own_kept (Ok b) k _ c own = taken_keeps b k c own
    own_kept (Err e) _ same c own = subst (λ (u : Space). IsOwn u.land c) (sym same) own

    pub given_keeps : {T : Type 0} (r : Result T E) (b : ℕ) → OnOk r (t ≡ given b s) → OnErr r (t ≡ s) → (c : ℕ) → c ≢ b → IsOwn s.land c → IsOwn t.land c
    given_keeps (Ok x) b to _ c ne own = subst (λ (u : Space). IsOwn u.land c) (sym to) (
      block_stays s.land (given b s).land c refl own.0,
      ap (λ (on : Bool). if on then 0 else s.land.owner c) (apart_eq c b ne) ∙ own.1,
    )
    given_keeps (Err e) b _ same c ne own = subst (λ (u : Space). IsOwn u.land c) (sym same) own

    pub root_taken : (r : Result ℕ E) → IfOk r (λ b. IsTaken s b t) → OnErr r (t ≡ s) → root_block t.land ≡ root_block s.land
    root_taken (Ok b) k _ = ap (λ (u : Space). root_block u.land) k.space
    root_taken (Err e) _ same = ap (λ (u : Space). root_block u.land) same

    pub root_given : {T : Type 0} (r : Result T E) (b : ℕ) → OnOk r (t ≡ given b s) → OnErr r (t ≡ s) → root_block s.land ≡ 0 → root_block t.land ≡ 0
    root_given (Ok x) b to _ is = ap (λ (u : Space). root_block u.land) to ∙ is
    root_given (Err e) b _ same is = ap (λ (u : Space). root_block u.land) same ∙ is
