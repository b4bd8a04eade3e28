-- What the calls leave, as cells.
use Rattle.std.proofs.Common.{◌≡◌, ◌≢◌, ⊎_elim, ℕ, zero, suc, ◌<◌, ◌≤◌, List, [], ◌∷◌, length, map, refl, sym, ◌∙◌, ap, arith, get_or}
use Rattle.std.proofs.lemmas.Bool.{cases_lt}
use Rattle.std.proofs.lemmas.List.{get_or_past, length-map}
use Rattle.persist_model.specs.declared.event.Candidate.{Candidate}
use Rattle.persist_model.specs.declared.pick.Pick.{Pick}
use Rattle.persist_model.specs.Pick.{index_of_pick}
use Rattle.persist_model.specs.Region.{candidate, with_word, fenced, fenced_by, loaded, picked, restarted}
use Rattle.persist_model.proofs.Candidates.{same_cells, with_word_is}
use Rattle.pooled_region.specs.declared.pool.Place.{Place}
use Rattle.pooled_region.specs.declared.pool.Word.{Word}
use Rattle.pooled_region.specs.Pool.{no_word, settled_word, candidates_at, cells_of, AreBare}
use Rattle.pooled_region.proofs.Found.{bare_word}

pub cells_changed : (places places' : List Place) (words words' : List Word) (a : ℕ) (change : List Candidate → List Candidate) → length words' ≡ length words
    → candidates_at places' words' a ≡ change (candidates_at places words a) → ((b : ℕ) → b ≢ a → candidates_at places' words' b ≡ candidates_at places words b)
    → cells_of places' words' ≡ with_word a change (cells_of places words)
cells_changed places places' words words' a change long here others = with_word_is a change (cells_of places words) (cells_of places' words') long here others

pub cells_fenced : (places places' : List Place) (words words' : List Word) (mark : ℕ) → length words' ≡ length words
    → ((b : ℕ) → candidates_at places' words' b ≡ fenced mark (candidates_at places words b)) → cells_of places' words' ≡ fenced_by mark (cells_of places words)
cells_fenced places places' words words' mark long each = same_cells (cells_of places' words') (fenced_by mark (cells_of places words)) long each

pub cells_same : (places places' : List Place) (words : List Word) → ((b : ℕ) → candidates_at places' words b ≡ candidates_at places words b) → cells_of places' words ≡ cells_of places words
cells_same places places' words each = same_cells (cells_of places' words) (cells_of places words) refl each

-- outside the region stands one candidate, 0
alone : (n : ℕ) → get_or {A = ℕ} (0 ∷ []) n 0 ≡ 0
alone zero = refl
alone (suc n) = refl

pub cells_restarted : (places places' : List Place) (words words' : List Word) (pick : Pick) → length words' ≡ length words → AreBare words'
    → ((b : ℕ) → b < length words' → get_or words' b no_word ≡ settled_word (picked pick b (candidates_at places words b)))
    → cells_of places' words' ≡ restarted pick (cells_of places words)
cells_restarted places places' words words' pick long bare each = same_cells (cells_of places' words') (restarted pick (cells_of places words)) long
    (λ b. bare_word places' words' b bare ∙ ap (λ (c : Candidate). c ∷ []) (oldest b))
  where
    oldest : (b : ℕ) → (get_or words' b no_word).oldest ≡ picked pick b (candidates_at places words b)
    oldest b = ⊎_elim
        (λ below. ap (λ (w : Word). w.oldest) (each b below))
        (λ past.
        let beyond : length words ≤ b = omega (arith, long, past) in
        ap (λ (w : Word). w.oldest) (get_or_past words' b no_word past)
        ∙ sym (ap (λ (w : Word). picked pick b (candidates_at places (w ∷ []) 0)) (get_or_past words b no_word beyond) ∙ ap (λ n. candidate n 0) (alone (index_of_pick pick b 1))))
        (cases_lt b (length words'))

get_or-map_settled : (values : List ℕ) (a : ℕ) → get_or (map (λ value. settled_word (candidate value 0)) values) a no_word ≡ settled_word (candidate (get_or values a 0) 0)
get_or-map_settled [] a = refl
get_or-map_settled (v ∷ values) zero = refl
get_or-map_settled (v ∷ values) (suc a) = get_or-map_settled values a

pub cells_loaded : (places : List Place) (words : List Word) (values : List ℕ) → words ≡ map (λ value. settled_word (candidate value 0)) values → cells_of places words ≡ loaded values
cells_loaded places words values made = same_cells (cells_of places words) (loaded values)
    (ap length made ∙ length-map values (λ value. settled_word (candidate value 0)))
    (λ a. ap (λ (ws : List Word). candidates_at places ws a) made ∙ ap (λ (w : Word). candidates_at places (w ∷ []) 0) (get_or-map_settled values a))
