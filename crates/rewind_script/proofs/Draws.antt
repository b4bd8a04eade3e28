-- Draws that follow others.
use Rattle.std.proofs.Common.{◌≡◌, ℕ, zero, suc, ◌+◌, ◌*◌, List, ◌++◌, refl, sym, ◌∙◌, ap, arith, append_assoc, append-nil}
use Rattle.rewind_script.specs.Generator.{state_after, next_state, repeated}

pub state_after-add : (a b x : ℕ) → state_after (a + b) x ≡ state_after b (state_after a x)
unfolding state_after
state_after-add zero b x = let e : zero + b ≡ b = omega arith in ap (λ n. state_after n x) e
state_after-add (suc a) b x = let e : suc a + b ≡ suc (a + b) = omega arith in ap (λ n. state_after n x) e ∙ state_after-add a b (next_state x)

-- one text more
pub repeated-more : (text : ℕ → List ℕ) (draws n x : ℕ) → repeated text draws (n + 1) x ≡ repeated text draws n x ++ text (state_after (draws * n) x)
unfolding repeated state_after
repeated-more text draws zero x = let none : draws * zero ≡ 0 = omega arith in append-nil (text x) ∙ ap (λ k. text (state_after k x)) (sym none)
repeated-more text draws (suc n) x =
    let count : suc n + 1 ≡ suc (n + 1) = omega arith in
    let drawn : draws * suc n ≡ draws + draws * n = omega arith in
    ap (λ k. repeated text draws k x) count
    ∙ ap (λ rest. text x ++ rest) (repeated-more text draws n (state_after draws x))
    ∙ sym (append_assoc (text x) (repeated text draws n (state_after draws x)) (text (state_after (draws * n) (state_after draws x))))
    ∙ ap (λ y. (text x ++ repeated text draws n (state_after draws x)) ++ text y) (sym (ap (λ k. state_after k x) drawn ∙ state_after-add draws (draws * n) x))

pub state-more : (draws n x y : ℕ) → y ≡ state_after draws (state_after (draws * n) x) → y ≡ state_after (draws * (n + 1)) x
state-more draws n x y h = let drawn : draws * (n + 1) ≡ draws * n + draws = omega arith in h ∙ sym (ap (λ k. state_after k x) drawn ∙ state_after-add (draws * n) draws x)

pub first-text : (text : ℕ → List ℕ) (draws x : ℕ) (front : List ℕ) → (front ≡ front ++ repeated text draws 0 x) × (x ≡ state_after 0 x)
unfolding repeated state_after
first-text text draws x front = (sym (append-nil front), refl)

pub next-text : (text : ℕ → List ℕ) (draws n x y : ℕ) (front before after : List ℕ) → before ≡ front ++ repeated text draws n x → y ≡ state_after (draws * n) x → after ≡ before ++ text y
    → after ≡ front ++ repeated text draws (n + 1) x
next-text text draws n x y front before after so_far state step =
    step ∙ ap (λ t. t ++ text y) so_far ∙ append_assoc front (repeated text draws n x) (text y)
    ∙ ap (λ t. front ++ t) (ap (λ z. repeated text draws n x ++ text z) state ∙ sym (repeated-more text draws n x))

pub next-state : (draws n x y z : ℕ) → y ≡ state_after (draws * n) x → z ≡ state_after draws y → z ≡ state_after (draws * (n + 1)) x
next-state draws n x y z state step = state-more draws n x z (step ∙ ap (state_after draws) state)

pub two_draws : (x : ℕ) → next_state (next_state x) ≡ state_after 2 x
unfolding state_after
two_draws x = refl
