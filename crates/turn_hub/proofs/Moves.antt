-- Each step of the hub keeps the rule.
use Rattle.std.proofs.Common.{◌≡◌, ◌≢◌, ◌⊎◌, ℕ, suc, ◌+◌, ◌-◌, ◌<◌, ◌≤◌, Bool, true, false, cond, ltb, leb, eqb, List, [], ◌∷◌, ◌++◌, length, get_or, set, refl, sym, ap, ◌∙◌, subst, ⊎_elim, inl, inr, arith, Option, Some, None, length-set, get_or-set_same, get_or-set_other}
use Rattle.std.specs.Prelude.{◌==◌, slice_index}
use mathlib.Core.Option as maybe
use mathlib.Core.Option.{none, some, some-injective}
use lib.ListN.{get_elem?}
use lib.Seq.{set-get_or}
use prog.Atomic.{either}
use native.Mathlib.Decide.{ℕ_discrete}
use Rattle.std.proofs.lemmas.Bool.Decides.{nat_tests, eqb_tells, leb_tells}
use Rattle.atomic_table.specs.Table as Table
use Rattle.atomic_table.specs.Table.{State, step, Act, keeps, takes, gives, stepped, Allows, Splits, Joins, opening}
use Rattle.atomic_table.proofs.Lists.{set_else, set_here, exchanged, at_longer}
use Rattle.lane_types.specs.Heaps.{is_data}
use Rattle.lane_types.specs.Faces.{Base, WholeFace}
use Rattle.lane_types.specs.Seen.{Seen, AreInAgreement}
use Rattle.turn_hub.specs.declared.view.Sight.{Sight}
use Rattle.turn_hub.specs.declared.view.Grip.{Grip}
use Rattle.turn_hub.specs.declared.view.View.{View}
use Rattle.turn_hub.specs.Turns.{IsData, grip, times, seats_of, home_of, IsAlike, Shows, IsFree, IsTaken, TurnRule}
use Rattle.turn_hub.specs.Plays.{Sat, spent, took, opened, known, Reads, without_first, first_alone, joined, sights_from, opening_view, IsChange}
use Rattle.turn_hub.proofs.Views.{inside, each_set, each_push, only, seats_of_set, seats_of_push, one_seat, two_seats, times-append, Shows-append, alike_again, alike_then, Shows-elsewhere, times-split, within_from, beyond_from, Shows-other, Shows-first, Shows-from}

module _ {T : Type 0} where
  abbrev lane_in : Option (Grip T) → ℕ
  lane_in None = 0
  lane_in (Some g) = g.lane

  abbrev out_in : Option (Grip T) → Bool
  out_in None = false
  out_in (Some g) = g.out

  abbrev picture_in : T → Option (Grip T) → T
  picture_in other None = other
  picture_in other (Some g) = g.picture

module _ {T E : Type 0} (R : T → Seen E) (start : T) where
  abbrev St : Type 0
  St = State (Option T) (View T)

  abbrev Rule : St → Type 0
  Rule = TurnRule R start

  -- the state after a change of one seat's view
  abbrev with_view : St → ℕ → View T → St
  with_view s id w = record { words = s.words; homes = s.homes; views = set s.views id w }

  -- the same lanes after a seat's change that keeps its own
  seats_stay : (s : St) → Rule s → (id : ℕ) (v w : View T) → get_elem? s.views id ≡ some v → ((lane : ℕ) → times lane w.sights ≡ times lane v.sights)
      → (lane : ℕ) → seats_of lane (set s.views id w) ≡ cond (ltb lane ((R start).lanes)) 1 0
  seats_stay s r id v w at same lane = let t = seats_of_set lane s.views id v w at in let e = same lane in let before = r.seats lane in omega arith

  -- a seat without a grip isn't the holder's
  not_holder : (s : St) (picture : T) (taken : IsTaken R picture s) (id : ℕ) (v : View T) → get_elem? s.views id ≡ some v → v.grip ≡ None → taken.holder ≢ id
  not_holder s picture taken id v at no_grip same =
      let one : taken.view ≡ v = some-injective taken.view v (sym taken.seat ∙ ap (get_elem? s.views) same ∙ at) in
      let e : None ≡ Some (grip taken.lane picture taken.out) = sym no_grip ∙ sym (ap (λ (x : View T). x.grip) one) ∙ taken.has_grip in
      absurd (cc)

  -- a view with a grip is the holder's
  is_holder : (s : St) (picture : T) (taken : IsTaken R picture s) (id : ℕ) (v : View T) (g : Grip T) → get_elem? s.views id ≡ some v → v.grip ≡ Some g → Dec (id ≡ taken.holder)
      → (id ≡ taken.holder) × (taken.view ≡ v)
  is_holder s picture taken id v g at has (yes same) = (same, some-injective taken.view v (sym taken.seat ∙ ap (get_elem? s.views) (sym same) ∙ at))
  is_holder s picture taken id v g at has (no other) = let e : None ≡ Some g = sym (taken.no_other id v at other) ∙ has in absurd (cc)

  -- the turn after the change of a seat that has no grip, before and after
  turn_set : (s : St) (picture : T) (id : ℕ) (v w : View T) → get_elem? s.views id ≡ some v → v.grip ≡ None → w.grip ≡ None
      → IsFree R picture s ⊎ IsTaken R picture s → IsFree R picture (with_view s id w) ⊎ IsTaken R picture (with_view s id w)
  turn_set s picture id v w at before after turn = ⊎_elim
      (λ (free : IsFree R picture s). inl record { turn = free.turn; home = free.home; no_grip = each_set (λ j u. u.grip ≡ None) s.views id w after (λ j u ne e. free.no_grip j u e) })
      (λ (taken : IsTaken R picture s). inr record {
        holder = taken.holder;
        view = taken.view;
        lane = taken.lane;
        out = taken.out;
        seat = set_else s.views id taken.holder w (not_holder s picture taken id v at before) ∙ taken.seat;
        has_grip = taken.has_grip;
        own = taken.own;
        turn = taken.turn;
        home = taken.home;
        no_other = each_set (λ j u. j ≢ taken.holder → u.grip ≡ None) s.views id w (λ _. after) (λ j u ne e. taken.no_other j u e);
      })
      turn

  -- a change of a seat that has no grip and keeps its lanes
  renews : (s : St) (r : Rule s) (id : ℕ) (v w : View T) → get_elem? s.views id ≡ some v → v.grip ≡ None → w.grip ≡ None
      → ((lane : ℕ) → times lane w.sights ≡ times lane v.sights) → Shows R r.picture w.sights → Rule (with_view s id w)
  renews s r id v w at before after same shown = record {
    picture = r.picture;
    alike = r.alike;
    seats = seats_stay s r id v w at same;
    shows = each_set (λ j u. Shows R r.picture u.sights) s.views id w shown (λ j u ne e. r.shows j u e);
    turn = turn_set s r.picture id v w at before after r.turn;
    wide = r.wide;
    words = r.words;
  }

  -- what a step owes at the state s
  abbrev Answer : (slots id : ℕ) (me : Sat T) (i : ℕ) (f : ℕ → ℕ) (tells : ℕ → Sat T → Type 0) → St → Type 0
  Answer slots id me i f tells s = (w : View T) × (a : Act (Option T)) × Table.Valid s.homes me.1 a × Rule (stepped s i (f (slice_index s.words i)) id me.1 w a) × tells (slice_index s.words i) (w, Table.carried_after me.1 a)

  -- A turn taken, or found with another. The word becomes `new`, which is the lane and 1
  pub takes_turn : (slots id new : ℕ) (v : View T) → 0 < new → v.grip ≡ None → 0 < times (new - 1) v.sights
      → Allows Rule slots id (v, []) 0 (λ n. either (eqb n 0) new n) (took R (step slots 0 0 new none) (v, []))
  takes_turn slots id new v positive no_grip has s r deep at fits = ⊎_elim free taken r.turn
    where
      holding : View T
      holding = record v { grip = Some (grip (new - 1) r.picture true) }

      free : IsFree R r.picture s → Answer slots id (v, []) 0 (λ n. either (eqb n 0) new n) (took R (step slots 0 0 new none) (v, [])) s
      free f = (
        holding,
        takes 0 (Some r.picture),
        f.home,
        subst (λ (x : ℕ). Rule (stepped s 0 (either (eqb x 0) new x) id [] holding (takes 0 (Some r.picture)))) (sym f.turn) record {
          picture = r.picture;
          alike = r.alike;
          seats = seats_stay s r id v holding at (λ l. refl);
          shows = each_set (λ j u. Shows R r.picture u.sights) s.views id holding (r.shows id v at) (λ j u ne e. r.shows j u e);
          turn = inr record {
            holder = id;
            view = holding;
            lane = new - 1;
            out = true;
            seat = set_here s.views id holding (inside s.views id v at);
            has_grip = refl;
            own = has;
            turn = get_or-set_same s.words 0 new 0 (let w = r.wide in omega arith) ∙ (omega arith);
            home = set_here s.homes 0 none (inside s.homes 0 _ f.home);
            no_other = λ j u e ne. f.no_grip j u (sym (set_else s.views id j holding ne) ∙ e);
          };
          wide = length-set s.words 0 new ∙ r.wide;
          words = λ a below is_word. get_or-set_other s.words 0 (suc a) new 0 (omega arith) ∙ r.words a below is_word;
        },
        ((λ e. (r.picture, r.shows id v at, refl)), λ ne. absurd (ne f.turn)),
      )

      missing : View T
      missing = record v { missed = suc v.missed }

      taken : IsTaken R r.picture s → Answer slots id (v, []) 0 (λ n. either (eqb n 0) new n) (took R (step slots 0 0 new none) (v, [])) s
      taken t =
          let n : ℕ = get_or s.words 0 0 in let off : n ≢ 0 = (λ e. let f = t.turn in omega arith) in (
            missing,
            keeps,
            tt,
            exchanged n 0 new (λ (x : ℕ). Rule record { words = set s.words 0 x; homes = s.homes; views = set s.views id missing }) (λ e. absurd (off e))
                (λ _. subst (λ (ws : List ℕ). Rule record { words = ws; homes = s.homes; views = set s.views id missing }) (sym (set-get_or s.words 0 0)) (renews s r id v missing at no_grip no_grip (λ l. refl) (r.shows id v at))),
            ((λ e. absurd (off e)), λ _. refl),
          )

  -- who has a grip is the holder, and the grip's lane and picture are the rule's
  pub record Holds (s : St) (r : Rule s) (id lane : ℕ) (v : View T) (picture : T) (out : Bool) : Type 0 where
    pub taken : IsTaken R r.picture s
    pub holder_is : id ≡ taken.holder
    pub own : 0 < times lane v.sights
    pub turn_is : slice_index s.words 0 ≡ suc lane
    pub picture_is : r.picture ≡ picture
    pub out_is : taken.out ≡ out

  holds : (s : St) (r : Rule s) (id lane : ℕ) (v : View T) (picture : T) (out : Bool) → get_elem? s.views id ≡ some v → v.grip ≡ Some (grip lane picture out) → Holds s r id lane v picture out
  holds s r id lane v picture out at has = ⊎_elim
      (λ (free : IsFree R r.picture s). let e : None ≡ Some (grip lane picture out) = sym (free.no_grip id v at) ∙ has in absurd (cc))
      (λ (taken : IsTaken R r.picture s).
      let h = is_holder s r.picture taken id v (grip lane picture out) at has (ℕ_discrete id taken.holder) in
      let e : Some (grip taken.lane r.picture taken.out) ≡ Some (grip lane picture out) = sym taken.has_grip ∙ ap (λ (x : View T). x.grip) h.1 ∙ has in
      let lanes : taken.lane ≡ lane = ap lane_in e in
      let own : 0 < times lane v.sights = subst (λ (x : View T). 0 < times lane x.sights) h.1 (subst (λ (l : ℕ). 0 < times l taken.view.sights) lanes taken.own) in
      record {
        taken = taken;
        holder_is = h.0;
        own = own;
        turn_is = taken.turn ∙ ap suc lanes;
        picture_is = ap (picture_in r.picture) e;
        out_is = ap out_in e;
      })
      r.turn

  one_or_none : (b : Bool) → cond b 1 0 ≤ 1
  one_or_none true = omega arith
  one_or_none false = omega arith

  -- a lane of one seat is in no other
  not_there : (s : St) (r : Rule s) (lane id other : ℕ) (v w : View T) → other ≢ id → get_elem? s.views id ≡ some v → get_elem? s.views other ≡ some w → 0 < times lane v.sights → times lane w.sights ≡ 0
  not_there s r lane id other v w ne at there own =
      let t = two_seats lane s.views id other v w ne at there in
      let u = r.seats lane in
      let m = one_or_none (ltb lane ((R start).lanes)) in
      omega arith

  abbrev SameWords : T → T → Type 0
  SameWords picture value = (a : ℕ) → IsData (R picture) a → (R value).word a ≡ (R picture).word a

  others_see : (s : St) (r : Rule s) (id lane : ℕ) (v : View T) (value : T) → get_elem? s.views id ≡ some v → 0 < times lane v.sights → IsChange R lane r.picture value
      → (j : ℕ) (u : View T) → j ≢ id → get_elem? s.views j ≡ some u → Shows R value u.sights
  others_see s r id lane v value at own change j u ne e =
      Shows-elsewhere R r.picture value lane change.alike change.others u.sights (not_there s r lane id j v u ne at e own) (r.shows j u e)

  is_word_of : (picture : T) (a : ℕ) → IsAlike R picture start → IsData (R start) a → IsData (R picture) a
  is_word_of picture a alike h = subst (λ (b : Base). is_data b.heap a ≡ true) (sym alike.base) h

  -- the turn given back, with the value
  pub gives_turn : (slots id lane : ℕ) (v w : View T) (picture value : T) → v.grip ≡ Some (grip lane picture true) → w.grip ≡ None
      → ((l : ℕ) → times l w.sights ≡ times l v.sights) → (Shows R picture v.sights → Shows R value w.sights)
      → IsChange R lane picture value → SameWords picture value
      → Allows Rule slots id (v, (0, Some value) ∷ []) 0 (λ _. 0) (λ _ m'. m' ≡ (w, []))
  gives_turn slots id lane v w picture value has after same shown change words s r deep at fits =
      let h = holds s r id lane v picture true at has in
      let changed : IsChange R lane r.picture value = subst (λ (p : T). IsChange R lane p value) (sym h.picture_is) change in
      let kept : SameWords r.picture value = subst (λ (p : T). SameWords p value) (sym h.picture_is) words in
      let seen : Shows R r.picture v.sights = r.shows id v at in (
        w,
        gives,
        tt,
        record {
          picture = value;
          alike = alike_then R value r.picture start changed.alike r.alike;
          seats = seats_stay s r id v w at same;
          shows = each_set (λ j u. Shows R value u.sights) s.views id w (shown (subst (λ (p : T). Shows R p v.sights) h.picture_is seen)) (others_see s r id lane v value at h.own changed);
          turn = inl record {
            turn = get_or-set_same s.words 0 0 0 (let wide = r.wide in omega arith);
            home = set_here s.homes 0 (some (Some value)) (inside s.homes 0 _ h.taken.home);
            no_grip = each_set (λ j u. u.grip ≡ None) s.views id w after (λ j u ne e. h.taken.no_other j u e (λ same. ne (same ∙ sym h.holder_is)));
          };
          wide = length-set s.words 0 0 ∙ r.wide;
          words = λ a below is_word. get_or-set_other s.words 0 (suc a) 0 0 (omega arith) ∙ r.words a below is_word ∙ sym (kept a (is_word_of r.picture a r.alike is_word));
        },
        refl,
      )

  -- the turn that is not the lane's own sight: the seat's new view has the grip, in another picture
  still_taken : (s : St) (r : Rule s) (id lane : ℕ) (v w : View T) (picture value : T) (out out' : Bool) (words' : List ℕ) (homes' : List (maybe.Option (Option T)))
      → get_elem? s.views id ≡ some v → Holds s r id lane v picture out → w.grip ≡ Some (grip lane value out') → 0 < times lane w.sights
      → slice_index words' 0 ≡ suc lane → get_elem? homes' 0 ≡ some (home_of out')
      → IsTaken R value record { words = words'; homes = homes'; views = set s.views id w }
  still_taken s r id lane v w picture value out out' words' homes' at h has own turn home = record {
    holder = id;
    view = w;
    lane = lane;
    out = out';
    seat = set_here s.views id w (inside s.views id v at);
    has_grip = has;
    own = own;
    turn = turn;
    home = home;
    no_other = λ j u e ne. h.taken.no_other j u (sym (set_else s.views id j w ne) ∙ e) (λ same. ne (same ∙ sym h.holder_is));
  }

  -- a word stored in a turn: the picture is the value from then on
  pub notes_word : (slots id lane a : ℕ) (v w : View T) (picture value : T) (carried : List (ℕ × Option T)) → v.grip ≡ Some (grip lane picture true) → w.grip ≡ Some (grip lane value true)
      → ((l : ℕ) → times l w.sights ≡ times l v.sights) → (Shows R picture v.sights → Shows R value w.sights)
      → IsChange R lane picture value → ((b : ℕ) → b ≢ a → IsData (R picture) b → (R value).word b ≡ (R picture).word b) → a < (R picture).span
      → Allows Rule slots id (v, carried) (suc a) (λ _. (R value).word a) (λ _ m'. m' ≡ (w, carried))
  notes_word slots id lane a v w picture value carried has after same shown change words below s r deep at fits =
      let h = holds s r id lane v picture true at has in
      let changed : IsChange R lane r.picture value = subst (λ (p : T). IsChange R lane p value) (sym h.picture_is) change in
      let kept : (b : ℕ) → b ≢ a → IsData (R r.picture) b → (R value).word b ≡ (R r.picture).word b = subst (λ (p : T). (b : ℕ) → b ≢ a → IsData (R p) b → (R value).word b ≡ (R p).word b) (sym h.picture_is) words in
      let seen : Shows R r.picture v.sights = r.shows id v at in
      let now : ℕ = (R value).word a in
      let long : suc a < length s.words = (let p = ap (λ (p : T). (R p).span) h.picture_is in let q = r.alike.span in let wide = r.wide in omega arith) in (
        w,
        keeps,
        tt,
        record {
          picture = value;
          alike = alike_then R value r.picture start changed.alike r.alike;
          seats = seats_stay s r id v w at same;
          shows = each_set (λ j u. Shows R value u.sights) s.views id w (shown (subst (λ (p : T). Shows R p v.sights) h.picture_is seen)) (others_see s r id lane v value at h.own changed);
          turn = inr (still_taken s r id lane v w picture value true true (set s.words (suc a) now) s.homes at h after (subst (λ (n : ℕ). 0 < n) (sym (same lane)) h.own)
              (get_or-set_other s.words (suc a) 0 now 0 (omega arith) ∙ h.turn_is) (h.taken.home ∙ ap (λ (o : Bool). some (home_of {T = T} o)) h.out_is));
          wide = length-set s.words (suc a) now ∙ r.wide;
          words = λ b low is_word. ⊎_elim
              (λ (t : ((a == b) ≡ true) × (a ≡ b)). subst (λ (c : ℕ). get_or (set s.words (suc a) now) (suc c) 0 ≡ (R value).word c) t.1 (get_or-set_same s.words (suc a) now 0 long))
              (λ (t : ((a == b) ≡ false) × (a ≢ b)). let ne = t.1 in get_or-set_other s.words (suc a) (suc b) now 0 (omega arith) ∙ r.words b low is_word ∙ sym (kept b (λ e. ne (sym e)) (is_word_of r.picture b r.alike is_word)))
              (eqb_tells a b);
        },
        refl,
      )

  -- the law of `Laned`
  abbrev pub Lawful : Type 0
  Lawful = (value : T) → AreInAgreement (R value)

  -- a word of a face is a data word, with the value there
  pub word_of_face : (s : Seen E) → AreInAgreement s → (lane a v : ℕ) → (s.faces lane).words.word a ≡ Some v → (a < s.span) × IsData s a × (v ≡ s.word a)
  word_of_face s law lane a v has =
      let inside : is_data (s.faces lane).base.heap a ≡ true = law.data_words lane a v has in
      (law.inside lane a inside, subst (λ (b : Base). is_data b.heap a ≡ true) (law.base lane 0) inside, sym (law.values lane a v has))

  reads_all : Lawful → (s : St) (r : Rule s) (a : ℕ) (sights : List (Sight T)) → Shows R r.picture sights → Reads R a (slice_index s.words (suc a)) sights
  reads_all law s r a [] h = tt
  reads_all law s r a (x ∷ xs) h = (
    (λ v has.
        let t = word_of_face (R r.picture) (law r.picture) x.lane a v (ap (λ (f : WholeFace E). f.words.word a) h.0.1 ∙ has) in
        let below : a < (R start).span = subst (λ (n : ℕ). a < n) r.alike.span t.0 in
        r.words a below (subst (λ (b : Base). is_data b.heap a ≡ true) r.alike.base t.1) ∙ sym t.2),
    reads_all law s r a xs h.1,
  )

  -- a word read without the turn
  pub knows_word : Lawful → (slots id i : ℕ) (v : View T) → 0 < i → v.grip ≡ None → Allows Rule slots id (v, []) i (λ n. n) (known R (step slots i 0 0 none) (v, []))
  knows_word law slots id i v positive no_grip s r deep at fits =
      let e : suc (i - 1) ≡ i = omega arith in (
        v,
        keeps,
        tt,
        subst (λ (ws : List ℕ). Rule record { words = ws; homes = s.homes; views = set s.views id v }) (sym (set-get_or s.words i 0)) (renews s r id v v at no_grip no_grip (λ l. refl) (r.shows id v at)),
        (refl, subst (λ (k : ℕ). Reads R (i - 1) (slice_index s.words k) v.sights) e (reads_all law s r (i - 1) v.sights (r.shows id v at))),
      )

  -- the empty slot leaves its place
  pub opens : (slots id : ℕ) (v : View T) (value : T) → v.grip ≡ Some (grip 0 value false) → Allows Rule slots id (v, []) 0 (λ n. n) (opened (step slots 0 0 0 none) (v, []))
  opens slots id v value has s r deep at fits =
      let h = holds s r id 0 v value false at has in
      let w : View T = record v { grip = Some (grip 0 value true) } in
      let there : get_elem? s.homes 0 ≡ some (some None) = h.taken.home ∙ ap (λ (o : Bool). some (home_of {T = T} o)) h.out_is in
      let now : IsTaken R value record { words = s.words; homes = set s.homes 0 none; views = set s.views id w } =
      still_taken s r id 0 v w value value false true s.words (set s.homes 0 none) at h refl h.own h.turn_is (set_here s.homes 0 none (inside s.homes 0 _ there)) in (
        w,
        takes 0 None,
        there,
        subst (λ (ws : List ℕ). Rule record { words = ws; homes = set s.homes 0 none; views = set s.views id w }) (sym (set-get_or s.words 0 0)) record {
          picture = r.picture;
          alike = r.alike;
          seats = seats_stay s r id v w at (λ l. refl);
          shows = each_set (λ j u. Shows R r.picture u.sights) s.views id w (r.shows id v at) (λ j u ne e. r.shows j u e);
          turn = inr (subst (λ (p : T). IsTaken R p record { words = s.words; homes = set s.homes 0 none; views = set s.views id w }) (sym h.picture_is) now);
          wide = r.wide;
          words = r.words;
        },
        λ other e. let same : Some (grip 0 value false) ≡ Some (grip 0 other false) = sym has ∙ e in let it : value ≡ other = ap (picture_in value) same in ap (λ (x : T). (record v { grip = Some (grip 0 x true) }, (0, None) ∷ [])) it,
      )

  -- a seat is cut in two: its first lane leaves
  pub parts : (id : ℕ) (v : View T) → v.grip ≡ None → Splits Rule id v (without_first v) (first_alone v)
  parts id v no_grip s r at =
      let left : View T = without_first v in
      let right : View T = first_alone v in
      let seen : Shows R r.picture v.sights = r.shows id v at in
      let later : List (View T) = set s.views id left ++ right ∷ [] in
      let turn = turn_set s r.picture id v left at no_grip no_grip r.turn in
      let mid : St = with_view s id left in
      record {
        picture = r.picture;
        alike = r.alike;
        seats = λ lane. let t = seats_of_push lane (set s.views id left) right in let u = seats_of_set lane s.views id v left at in let w = times-split lane v.sights in let before = r.seats lane in omega arith;
        shows = each_push (λ j u. Shows R r.picture u.sights) (set s.views id left) right (λ j. Shows-first R r.picture v.sights seen)
            (each_set (λ j u. Shows R r.picture u.sights) s.views id left (Shows-other R r.picture v.sights seen) (λ j u ne e. r.shows j u e));
        turn = turn_push mid r.picture right refl turn;
        wide = r.wide;
        words = r.words;
      }
    where
      turn_push : (m : St) (picture : T) (right : View T) → right.grip ≡ None → IsFree R picture m ⊎ IsTaken R picture m
          → IsFree R picture record { words = m.words; homes = m.homes; views = m.views ++ right ∷ [] } ⊎ IsTaken R picture record { words = m.words; homes = m.homes; views = m.views ++ right ∷ [] }
      turn_push m picture right bare (inl free) = inl record { turn = free.turn; home = free.home; no_grip = each_push (λ j u. u.grip ≡ None) m.views right (λ j. bare) free.no_grip }
      turn_push m picture right bare (inr taken) = inr record {
        holder = taken.holder;
        view = taken.view;
        lane = taken.lane;
        out = taken.out;
        seat = at_longer m.views (right ∷ []) taken.holder taken.view taken.seat;
        has_grip = taken.has_grip;
        own = taken.own;
        turn = taken.turn;
        home = taken.home;
        no_other = each_push (λ j u. j ≢ taken.holder → u.grip ≡ None) m.views right (λ j _. bare) taken.no_other;
      }

  -- a seat takes in another's lanes
  pub meets : (id : ℕ) (v : View T) (other : ℕ) (w : View T) → v.grip ≡ None → w.grip ≡ None → Joins Rule id v other w (joined v w) spent
  meets id v other w bare bare' s r at ne there =
      let both : View T = joined v w in
      let was : get_elem? s.views other ≡ some w = sym (set_else s.views id other both ne) ∙ there in
      let mid : St = with_view s id both in
      record {
        picture = r.picture;
        alike = r.alike;
        seats = λ lane. let t = seats_of_set lane s.views id v both at in let u = seats_of_set lane (set s.views id both) other w spent there in let a = times-append lane v.sights w.sights in let before = r.seats lane in omega arith;
        shows = each_set (λ j u. Shows R r.picture u.sights) (set s.views id both) other spent tt
            (λ j u _ e. each_set (λ i y. Shows R r.picture y.sights) s.views id both (Shows-append R r.picture v.sights w.sights (r.shows id v at) (r.shows other w was)) (λ i y _ e'. r.shows i y e') j u e);
        turn = turn_set mid r.picture other w spent there bare' refl (turn_set s r.picture id v both at bare bare r.turn);
        wide = r.wide;
        words = r.words;
      }

  -- at the end one seat has all lanes: the value is at home, and the seat saw its faces
  pub ends : (s : St) → Rule s → (id : ℕ) (v : View T) → get_elem? s.views id ≡ some v → v.grip ≡ None → ((lane : ℕ) → lane < (R start).lanes → 0 < times lane v.sights)
      → (value : T) × (get_elem? s.homes 0 ≡ some (some (Some value))) × IsAlike R value start × Shows R value v.sights
  ends s r id v at bare all = ⊎_elim
      (λ (free : IsFree R r.picture s). (r.picture, free.home, r.alike, r.shows id v at))
      (λ (taken : IsTaken R r.picture s).
      let ne : taken.holder ≢ id = not_holder s r.picture taken id v at bare in
      let lane : ℕ = taken.lane in
      let one : times lane taken.view.sights ≤ seats_of lane s.views = one_seat lane s.views taken.holder taken.view taken.seat in
      let own : 0 < times lane taken.view.sights = taken.own in
      let before = r.seats lane in
      let some_lane : 0 < cond (ltb lane ((R start).lanes)) 1 0 = omega arith in
      let low : lane < (R start).lanes = grind (arith, nat_tests) in
      let gone : times lane taken.view.sights ≡ 0 = not_there s r lane id taken.holder v taken.view ne at taken.seat (all lane low) in
      absurd (omega arith))
      r.turn

  -- the table at the start: the slot is empty, and the first seat has all lanes and the turn
  pub begins : (words : List ℕ) → 0 < (R start).lanes → length words ≡ suc ((R start).span) → slice_index words 0 ≡ 1
      → ((a : ℕ) → a < (R start).span → slice_index words (suc a) ≡ (R start).word a)
      → Rule (opening words (None ∷ []) (opening_view start ((R start).lanes)))
  begins words some_lane wide turn at_start =
      let v : View T = opening_view start ((R start).lanes) in
      record {
        picture = start;
        alike = alike_again R start;
        seats = λ lane. all_lanes lane;
        shows = only (λ j u. Shows R start u.sights) v (Shows-from R start 0 ((R start).lanes));
        turn = inr record {
          holder = 0;
          view = v;
          lane = 0;
          out = false;
          seat = refl;
          has_grip = refl;
          own = (let t = within_from start 0 0 ((R start).lanes) (omega arith) (omega arith) in omega arith);
          turn = turn;
          home = refl;
          no_other = only (λ j u. j ≢ 0 → u.grip ≡ None) v (λ ne. absurd (ne refl));
        };
        wide = wide;
        words = λ a below _. at_start a below;
      }
    where
      all_lanes : (lane : ℕ) → times lane (sights_from start 0 ((R start).lanes)) + 0 ≡ cond (ltb lane ((R start).lanes)) 1 0
      all_lanes lane = ⊎_elim
          (λ (t : (leb ((R start).lanes) lane ≡ true) × ((R start).lanes ≤ lane)).
          let ge = t.1 in let e : ltb lane ((R start).lanes) ≡ false = grind (arith, nat_tests) in let u = beyond_from start lane 0 ((R start).lanes) (omega arith) in rw e (omega arith))
          (λ (t : (leb ((R start).lanes) lane ≡ false) × (lane < (R start).lanes)).
          let lt = t.1 in let e : ltb lane ((R start).lanes) ≡ true = grind (arith, nat_tests) in let u = within_from start lane 0 ((R start).lanes) (omega arith) (omega arith) in rw e (omega arith))
          (leb_tells ((R start).lanes) lane)
