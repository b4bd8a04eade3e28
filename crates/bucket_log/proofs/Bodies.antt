-- The part of an append that writes the cell, from any progress in which its gate is closed.
use Rattle.std.proofs.Common.{◌≡◌, ◌≢◌, ◌⊎◌, inl, inr, ℕ, zero, suc, ◌+◌, ◌<◌, ◌≤◌, List, [], ◌∷◌, ◌++◌, take, drop, ◌∙◌, arith, subst}
use Rattle.persist_model.specs.declared.event.Event.{Event}
use Rattle.persist_model.specs.declared.event.Event.TheVariants.{PStore}
use Rattle.persist_model.specs.Region.{Words}
use Rattle.persist_model.specs.Progress.{Progress, advance_all, Reaches}
use Rattle.persist_model.specs.Records.{Record}
use Rattle.persist_model.specs.ImageRecords.{record_at}
use Rattle.persist_model.proofs.Running.{take_nil}
use Rattle.persist_model.proofs.Projecting.{take_cases, AreAway, AreAway-take, IsFixed, IsFixed-aways, Reaches-fixed, fixed_by}
use Rattle.log_laws.proofs.Views.{AreStoresOn}
use Rattle.bucket_log.specs.Plans.{body, opening}

-- the cell's own events store to its eight words
pub cell_stores : (A : ℕ → Type 0) (r : Record) → ((x : ℕ) → r.at ≤ x → x < r.at + 8 → A x) → AreStoresOn A (body r ++ opening r)
cell_stores A r on =
    let e0 = on r.at (omega arith) (omega arith) in
    let e1 = on (r.at + 1) (omega arith) (omega arith) in
    let e2 = on (r.at + 2) (omega arith) (omega arith) in
    let e3 = on (r.at + 3) (omega arith) (omega arith) in
    let e4 = on (r.at + 4) (omega arith) (omega arith) in
    let e5 = on (r.at + 5) (omega arith) (omega arith) in
    let e6 = on (r.at + 6) (omega arith) (omega arith) in
    let e7 = on (r.at + 7) (omega arith) (omega arith) in
    (e1, (e2, (e3, (e4, (e5, (e6, (e7, (tt, (e0, (tt, tt))))))))))

-- words outside the cell aren't stored to
pub cell_away : (r : Record) (a : ℕ) → ((x : ℕ) → r.at ≤ x → x < r.at + 8 → x ≢ a) → AreAway a (body r ++ opening r)
cell_away r a off =
    let e0 = off r.at (omega arith) (omega arith) in
    let e1 = off (r.at + 1) (omega arith) (omega arith) in
    let e2 = off (r.at + 2) (omega arith) (omega arith) in
    let e3 = off (r.at + 3) (omega arith) (omega arith) in
    let e4 = off (r.at + 4) (omega arith) (omega arith) in
    let e5 = off (r.at + 5) (omega arith) (omega arith) in
    let e6 = off (r.at + 6) (omega arith) (omega arith) in
    let e7 = off (r.at + 7) (omega arith) (omega arith) in
    (e1, (e2, (e3, (e4, (e5, (e6, (e7, (tt, (e0, (tt, tt))))))))))

gate_away : (r : Record) → AreAway r.at (body r)
gate_away r = (omega arith, (omega arith, (omega arith, (omega arith, (omega arith, (omega arith, (omega arith, (tt, tt))))))))

-- After the body and its fence its seven words are durable, and the gate is as before.
fixed1 : (p : Progress) (r : Record) → IsFixed (advance_all p (body r)) (r.at + 1) r.transaction
fixed1 p r = fixed_by p (r.at + 1) r.transaction (take 0 (body r)) (take 6 (drop 1 (body r))) (search arith)

fixed2 : (p : Progress) (r : Record) → IsFixed (advance_all p (body r)) (r.at + 2) r.kind
fixed2 p r = fixed_by p (r.at + 2) r.kind (take 1 (body r)) (take 5 (drop 2 (body r))) (search arith)

fixed3 : (p : Progress) (r : Record) → IsFixed (advance_all p (body r)) (r.at + 3) r.word
fixed3 p r = fixed_by p (r.at + 3) r.word (take 2 (body r)) (take 4 (drop 3 (body r))) (search arith)

fixed4 : (p : Progress) (r : Record) → IsFixed (advance_all p (body r)) (r.at + 4) r.before
fixed4 p r = fixed_by p (r.at + 4) r.before (take 3 (body r)) (take 3 (drop 4 (body r))) (search arith)

fixed5 : (p : Progress) (r : Record) → IsFixed (advance_all p (body r)) (r.at + 5) r.after
fixed5 p r = fixed_by p (r.at + 5) r.after (take 4 (body r)) (take 2 (drop 5 (body r))) (search arith)

fixed6 : (p : Progress) (r : Record) → IsFixed (advance_all p (body r)) (r.at + 6) r.undo_next
fixed6 p r = fixed_by p (r.at + 6) r.undo_next (take 5 (body r)) (take 1 (drop 6 (body r))) (search arith)

fixed7 : (p : Progress) (r : Record) → IsFixed (advance_all p (body r)) (r.at + 7) r.outcome
fixed7 p r = fixed_by p (r.at + 7) r.outcome (take 6 (body r)) (take 0 (drop 7 (body r))) (search arith)

module _ (A : ℕ → Type 0) (p : Progress) (r : Record) (v : Words) (words : (a : ℕ) → r.at ≤ a → a < r.at + 8 → A a) (closed : IsFixed p r.at 0) where
  abbrev body_made : Progress
  body_made = advance_all p (body r)

  gate_closed : IsFixed body_made r.at 0
  gate_closed = IsFixed-aways p r.at 0 (body r) (gate_away r) closed

  -- the seven words of the body stay in the opening
  body_word : (i u : ℕ) (es : List Event) → 0 < i → i < 8 → IsFixed body_made (r.at + i) u → AreAway (r.at + i) es → Reaches A (advance_all body_made es) v → v (r.at + i) ≡ u
  body_word i u es low high fixed away h =
      Reaches-fixed A (advance_all body_made es) v (r.at + i) u (words (r.at + i) (omega arith) (omega arith)) (IsFixed-aways body_made (r.at + i) u es away fixed) h

  opened : (es : List Event) → ((i : ℕ) → 0 < i → i < 8 → AreAway (r.at + i) es) → Reaches A (advance_all body_made es) v → v r.at ≡ r.lsn → record_at v r.at ≡ r
  opened es away h gate =
      let e1 = body_word 1 r.transaction es (omega arith) (omega arith) (fixed1 p r) (away 1 (omega arith) (omega arith)) h in
      let e2 = body_word 2 r.kind es (omega arith) (omega arith) (fixed2 p r) (away 2 (omega arith) (omega arith)) h in
      let e3 = body_word 3 r.word es (omega arith) (omega arith) (fixed3 p r) (away 3 (omega arith) (omega arith)) h in
      let e4 = body_word 4 r.before es (omega arith) (omega arith) (fixed4 p r) (away 4 (omega arith) (omega arith)) h in
      let e5 = body_word 5 r.after es (omega arith) (omega arith) (fixed5 p r) (away 5 (omega arith) (omega arith)) h in
      let e6 = body_word 6 r.undo_next es (omega arith) (omega arith) (fixed6 p r) (away 6 (omega arith) (omega arith)) h in
      let e7 = body_word 7 r.outcome es (omega arith) (omega arith) (fixed7 p r) (away 7 (omega arith) (omega arith)) h in
      rw (gate, e1, e2, e3, e4, e5, e6, e7)

  gate_word : A r.at
  gate_word = words r.at (omega arith) (omega arith)

  -- Up to the gate's store the cell is closed.
  pub closed_in_body : (j : ℕ) → Reaches A (advance_all p (take j (body r))) v → v r.at ≡ 0
  closed_in_body j h = Reaches-fixed A (advance_all p (take j (body r))) v r.at 0 gate_word
      (IsFixed-aways p r.at 0 (take j (body r)) (AreAway-take r.at j (body r) (gate_away r)) closed) h

  -- The cell is closed, or it is the record.
  pub closed_or_record : (k : ℕ) → Reaches A (advance_all p (take k (body r ++ opening r))) v → (v r.at ≡ 0) ⊎ (record_at v r.at ≡ r)
  closed_or_record k h = elim (take_cases k (body r) (opening r)) [
    | inl e ↦ inl (closed_in_body k (subst (λ es. Reaches A (advance_all p es) v) e h))
    | inr j ↦ gates j.0 (subst (λ es. Reaches A (advance_all p es) v) j.1 h)
  ]
    where
      first : Reaches A (advance_all body_made (PStore r.at r.lsn ∷ [])) v → (v r.at ≡ 0) ⊎ (record_at v r.at ≡ r)
      first h = elim (h r.at gate_word) [
        | inl e ↦ inl (e ∙ gate_closed.durable)
        | inr k ↦ elim k [ inl e ↦ inr (opened (PStore r.at r.lsn ∷ []) (λ i low high. (omega arith, tt)) h e.1) | inr x ↦ elim x [ ] ]
      ]

      gates : (j : ℕ) → Reaches A (advance_all p (body r ++ take (suc j) (opening r))) v → (v r.at ≡ 0) ⊎ (record_at v r.at ≡ r)
      gates zero h = first h
      gates (suc j) h =
          let s = rw (take_nil {X = Event} j) at h in
          let fixed = fixed_by body_made r.at r.lsn [] [] tt in
          inr (opened (opening r) (λ i low high. (omega arith, (tt, tt))) s
          (Reaches-fixed A (advance_all body_made (opening r)) v r.at r.lsn gate_word fixed s))

  -- At the end the cell is the record.
  pub record_at_end : Reaches A (advance_all p (body r ++ opening r)) v → record_at v r.at ≡ r
  record_at_end h =
      let fixed = fixed_by body_made r.at r.lsn [] [] tt in
      opened (opening r) (λ i low high. (omega arith, (tt, tt))) h
      (Reaches-fixed A (advance_all body_made (opening r)) v r.at r.lsn gate_word fixed h)
