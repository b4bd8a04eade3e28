-- How many blocks a structure owns, and whether a list has them all.
use Rattle.std.proofs.Common.{◌≡◌, ◌≢◌, ◌⊎◌, inl, inr, ℕ, zero, suc, ◌+◌, ◌*◌, ◌<◌, ◌≤◌, List, [], ◌∷◌, length, refl, sym, subst, ◌∙◌, ap, arith}
use Rattle.std.proofs.lemmas.Bool.Decides.{eqb_tells}
use Rattle.persist_model.specs.Region.{Words}
use Rattle.persist_model.specs.Records.{IsAmong}
use Rattle.persist_model.specs.Chain.{Each, HasNoRepeats, without}
use Rattle.persist_tree.specs.Sound.{owned_count}
use Rattle.persist_tree.proofs.Counting.{without-absent, length-without, Each-without, HasNoRepeats-without, absent_of}

-- one of the first n blocks, of this owner
pub record IsOwnBelow (w : Words) (heap owner n b : ℕ) : Type 0 where
  pub number : ℕ
  pub below : number < n
  pub place : b ≡ heap + 16 * number
  pub owned : w b ≡ owner

pub owned_count-low : (w : Words) (heap owner n : ℕ) → owned_count w heap owner n ≤ n
owned_count-low w heap owner zero = omega arith
owned_count-low w heap owner (suc n) =
    let p = owned_count-low w heap owner n in
    elim (eqb_tells (w (heap + 16 * n)) owner) [
      | inl e ↦ (let on = e.0 in rw on (omega (arith, p)))
      | inr ne ↦ (let off = ne.0 in rw off (omega (arith, p)))
    ]

among_decided : (b : ℕ) (xs : List ℕ) → IsAmong xs b ⊎ (IsAmong xs b → ⊥)
among_decided b [] = inr (λ m. m)
among_decided b (x ∷ xs) = elim (eqb_tells b x) [
  | inl e ↦ inl (inl e.1)
  | inr ne ↦ (elim (among_decided b xs) [
    | inl m ↦ inl (inr m)
    | inr out ↦ inr (λ m. elim m [ inl e ↦ ne.1 e | inr k ↦ out k ])
  ])
]

length-without_in : (b : ℕ) (xs : List ℕ) → IsAmong xs b → suc (length (without b xs)) ≤ length xs
length-without_in b [] m = absurd m
length-without_in b (x ∷ xs) m = elim (eqb_tells x b) [
  | inl e ↦ (let on = e.0 in rw on (let p = length-without_most b xs in omega (arith, p)))
  | inr ne ↦ (let off = ne.0 in rw off (let p = length-without_in b xs (elim m [ inl e ↦ absurd (ne.1 (sym e)) | inr k ↦ k ]) in omega (arith, p)))
]
  where
    length-without_most : (b : ℕ) (xs : List ℕ) → length (without b xs) ≤ length xs
    length-without_most b [] = omega arith
    length-without_most b (x ∷ xs) = elim (eqb_tells x b) [
      | inl e ↦ (let on = e.0 in rw on (let p = length-without_most b xs in omega (arith, p)))
      | inr ne ↦ (let off = ne.0 in rw off (let p = length-without_most b xs in omega (arith, p)))
    ]

among_without : (b c : ℕ) (xs : List ℕ) → IsAmong xs c → c ≢ b → IsAmong (without b xs) c
among_without b c [] m ne = m
among_without b c (x ∷ xs) m ne = elim (eqb_tells x b) [
  | inl e ↦ (let on = e.0 in rw on (among_without b c xs (elim m [ inl same ↦ absurd (ne (same ∙ e.1)) | inr k ↦ k ]) ne))
  | inr other ↦ (let off = other.0 in rw off (elim m [ inl same ↦ inl same | inr k ↦ inr (among_without b c xs k ne) ]))
]

module _ (w : Words) (heap owner : ℕ) where
  lower : (n x : ℕ) → x ≢ heap + 16 * n → IsOwnBelow w heap owner (suc n) x → IsOwnBelow w heap owner n x
  lower n x ne h = record {
    number = h.number;
    below = elim (eqb_tells h.number n) [
      | inl e ↦ absurd (ne (h.place ∙ ap (λ m. heap + 16 * m) e.1))
      | inr other ↦ (let apart = other.1 in let lt = h.below in omega (arith, apart, lt))
    ];
    place = h.place;
    owned = h.owned;
  }

  -- no more different blocks of the owner than there are
  pub count_most : (n : ℕ) (xs : List ℕ) → HasNoRepeats xs → Each (IsOwnBelow w heap owner n) xs → length xs ≤ owned_count w heap owner n
  count_most zero [] once each = omega arith
  count_most zero (x ∷ xs) once each = let lt = each.0.below in absurd (omega (arith, lt))
  count_most (suc n) xs once each =
      let fewer = count_most n (without (heap + 16 * n) xs) (HasNoRepeats-without (heap + 16 * n) xs once)
      (Each-without (IsOwnBelow w heap owner (suc n)) (IsOwnBelow w heap owner n) (heap + 16 * n) xs (λ x ne h. lower n x ne h) each) in
      let one = length-without (heap + 16 * n) xs once in
      elim (eqb_tells (w (heap + 16 * n)) owner) [
        | inl e ↦ (let on = e.0 in rw on (omega (arith, fewer, one)))
        | inr ne ↦
            (let off = ne.0 in
            let same = ap length (without-absent (heap + 16 * n) xs (absent_of (heap + 16 * n) xs (λ m. ne.1 (owned_among xs each m)))) in
            rw off (omega (arith, fewer, same)))
      ]
    where
      owned_among : (ys : List ℕ) → Each (IsOwnBelow w heap owner (suc n)) ys → IsAmong ys (heap + 16 * n) → w (heap + 16 * n) ≡ owner
      owned_among [] all m = absurd m
      owned_among (y ∷ ys) all (inl e) = subst (λ z. w z ≡ owner) (sym e) all.0.owned
      owned_among (y ∷ ys) all (inr m) = owned_among ys all.1 m

  -- a list that has them all is as long at least
  pub count_least : (n : ℕ) (xs : List ℕ) → ((b : ℕ) → IsOwnBelow w heap owner n b → IsAmong xs b) → owned_count w heap owner n ≤ length xs
  count_least zero xs all = omega arith
  count_least (suc n) xs all =
      elim (eqb_tells (w (heap + 16 * n)) owner) [
        | inl e ↦
            (let on = e.0 in
            let here = all (heap + 16 * n) (record { number = n; below = omega arith; place = refl; owned = e.1 }) in
            let fewer = count_least n (without (heap + 16 * n) xs) (λ b h. among_without (heap + 16 * n) b xs (all b (higher b h)) (other_place b h)) in
            let one = length-without_in (heap + 16 * n) xs here in
            rw on (omega (arith, fewer, one)))
        | inr ne ↦ (let off = ne.0 in let fewer = count_least n xs (λ b h. all b (higher b h)) in rw off (omega (arith, fewer)))
      ]
    where
      higher : (b : ℕ) → IsOwnBelow w heap owner n b → IsOwnBelow w heap owner (suc n) b
      higher b h = record { number = h.number; below = (let lt = h.below in omega (arith, lt)); place = h.place; owned = h.owned }

      other_place : (b : ℕ) → IsOwnBelow w heap owner n b → b ≢ heap + 16 * n
      other_place b h e = let lt = h.below in let p = h.place in omega (arith, lt, p, e)

  -- different blocks of the owner, as many as there are, are all of them
  pub count_all : (n : ℕ) (xs : List ℕ) → HasNoRepeats xs → Each (IsOwnBelow w heap owner n) xs → length xs ≡ owned_count w heap owner n → (b : ℕ) → IsOwnBelow w heap owner n b → IsAmong xs b
  count_all n xs once each full b h = elim (among_decided b xs) [
    | inl m ↦ m
    | inr out ↦ absurd (let most = count_most n (b ∷ xs) (absent_of b xs out, once) (h, each) in omega (arith, most, full))
  ]
