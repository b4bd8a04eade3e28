-- A partition's list is sound exactly where its address rule and its list rules have no fault.
use Rattle.std.proofs.Common.{◌≡◌, ◌≢◌, ◌⊎◌, inl, inr, ℕ, ◌<◌, ◌≤◌, List, [], ◌∷◌, ◌++◌, refl, sym, ap, ◌∙◌, subst, arith}
use Rattle.persist_model.specs.Region.{Words}
use Rattle.persist_model.specs.Shape.{Shape, IsBucketOf, list_words}
use Rattle.persist_model.specs.ImageRecords.{cell_address}
use Rattle.persist_model.specs.Chain.{HEAD, TAIL, TO_APPEND, LAST_TAIL, TO_REMOVE, view, out_address, next_of, prev_of, IsLink, Each, AreBuckets, IsAbsent, HasNoRepeats, last_or, without, Links, IsWholeWalk, IsCutWalk, IsWalk, HasLinks, RemoveRule, IsExcepted, LinksBackBut, ListRules}
use Rattle.persist_model.specs.Visit.{IsUncut, IsVisit, HasArrived, link_behind, walk_from, chain_from, links_of, links_at, address_words}
use Rattle.persist_model.specs.Sound.{IsClosedBucket, IsListOf}
use Rattle.persist_model.specs.Faults.{FaultSet, TriedEach, TryPoints, TryAddresses, TryLists}
use Rattle.log_laws.proofs.Deciding.{decide_equal}
use Rattle.log_laws.proofs.Tries.{CanFail, Excludes, AreOne, each_some, each_none, each_one, each_alike}
use Rattle.log_laws.proofs.AddressLists.{each_left, each_right, each_join, each_last, no_repeats_push, no_repeats_left, last_is_absent, links_last, links_nonzero}
use Rattle.log_laws.proofs.Visits.{visit_some, visit_one, no_bucket_0, above_header}
use Rattle.log_laws.proofs.ListFaults.{walk_none, walk_some, links_at_none, links_at_some, view_behind, decide_link, AddressesHold, PointsHold, points_some, points_none, points_one}

-- ---- no fault: the list is sound

five : (a : ℕ) → 8 ≤ a → a ≤ 12 → (a ≡ 8) ⊎ (a ≡ 9) ⊎ (a ≡ 10) ⊎ (a ≡ 11) ⊎ (a ≡ 12)
five a le most = grind arith

links_from : (shape : Shape) (p : ℕ) (w : Words) (xs : List ℕ) → Each (λ b. IsLink (IsBucketOf shape p) (w b)) (links_of xs) → Each (HasLinks (IsBucketOf shape p) w) xs
links_from shape p w [] h = tt
links_from shape p w (x ∷ xs) h = ((h.0, h.1.0), links_from shape p w xs h.1.1)

named_links : (shape : Shape) (p : ℕ) (w : Words) (a : ℕ) → Each (λ b. IsLink (IsBucketOf shape p) (w b)) (links_at w a) → w a ≢ 0 → HasLinks (IsBucketOf shape p) w (w a)
named_links shape p w a h ne = let k = subst (λ l. Each (λ b. IsLink (IsBucketOf shape p) (w b)) l) (links_at_some w a ne) h in (k.0, k.1.0)

pub sound_of_points : (shape : Shape) (p : ℕ) (z : Words) (visited : List ℕ) (visit : IsVisit (IsBucketOf shape p) (view p z) visited) →
    AddressesHold shape z p visited → PointsHold shape (view p z) visited (Unit {0}) → IsListOf shape p z (chain_from (view p z) visited)
sound_of_points shape p z visited visit links points = record {
  rules = record {
    walk = walk_from w visited;
    is_walk = the_walk;
    chain_is = refl;
    addresses = record {
      registers = registers;
      visited = elim (decide_equal (w TO_APPEND) 0) [
        | inl e ↦ subst (λ ws. Each (HasLinks B w) ws) (sym (walk_none w visited e)) front
        | inr ne ↦ subst (λ ws. Each (HasLinks B w) ws) (sym (walk_some w visited ne)) (each_join (HasLinks B w) visited (w TO_APPEND ∷ []) front (named_links shape p w TO_APPEND appended ne, tt))
      ];
      appended = named_links shape p w TO_APPEND appended;
      removed = named_links shape p w TO_REMOVE removed;
    };
    one_at_a_time = points.0;
    no_repeats = elim (decide_equal (w TO_APPEND) 0) [
      | inl e ↦ subst HasNoRepeats (sym (walk_none w visited e)) visit.no_repeats
      | inr ne ↦ subst HasNoRepeats (sym (walk_some w visited ne)) (no_repeats_push visited (w TO_APPEND) visit.no_repeats (points.1.1.0 ne).0)
    ];
    appending = λ ne. (points.1.1.0 ne).1;
    removing = λ ne. (points.1.1.1.0 ne).0;
    links_back = points.1.1.1.1.0;
    tail = points.1.1.1.1.1.0;
  };
  removed = λ ne c below. sym (view_behind p (cell_address (w TO_REMOVE) c) z (far ne c)) ∙ (points.1.1.1.0 ne).1 c below;
}
  where
    w : Words
    w = view p z

    B : ℕ → Type 0
    B = IsBucketOf shape p

    front : Each (HasLinks B w) visited
    front = links_from shape p w visited (each_left (λ b. IsLink B (w b)) (links_of visited) _ links.1.1.1.1.1)

    appended : Each (λ b. IsLink B (w b)) (links_at w TO_APPEND)
    appended = each_left (λ b. IsLink B (w b)) (links_at w TO_APPEND) (links_at w TO_REMOVE) (each_right (λ b. IsLink B (w b)) (links_of visited) _ links.1.1.1.1.1)

    removed : Each (λ b. IsLink B (w b)) (links_at w TO_REMOVE)
    removed = each_right (λ b. IsLink B (w b)) (links_at w TO_APPEND) (links_at w TO_REMOVE) (each_right (λ b. IsLink B (w b)) (links_of visited) _ links.1.1.1.1.1)

    registers : (a : ℕ) → HEAD ≤ a → a ≤ TO_REMOVE → IsLink B (w a)
    registers a le most = elim (five a le most) [
      | inl e ↦ subst (λ x. IsLink B (w x)) (sym e) links.0
      | inr (inl e) ↦ subst (λ x. IsLink B (w x)) (sym e) links.1.0
      | inr (inr (inl e)) ↦ subst (λ x. IsLink B (w x)) (sym e) links.1.1.0
      | inr (inr (inr (inl e))) ↦ subst (λ x. IsLink B (w x)) (sym e) links.1.1.1.0
      | inr (inr (inr (inr e))) ↦ subst (λ x. IsLink B (w x)) (sym e) links.1.1.1.1.0
    ]

    far_of : IsLink B (w TO_REMOVE) → w TO_REMOVE ≢ 0 → (c : ℕ) → 12 < cell_address (w TO_REMOVE) c
    far_of (inl e) ne c = absurd (ne e)
    far_of (inr b) ne c = let le = above_header shape p (w TO_REMOVE) b in omega (arith, le)

    far : w TO_REMOVE ≢ 0 → (c : ℕ) → 12 < cell_address (w TO_REMOVE) c
    far = far_of (registers TO_REMOVE (omega arith) (omega arith))

    whole : HasArrived w visited → w TO_APPEND ≡ 0 → link_behind w visited ≡ 0
    whole (inl k) e = k.1
    whole (inr k) e = absurd (k.0 e)

    cut : HasArrived w visited → w TO_APPEND ≢ 0 → last_or 0 visited ≡ w LAST_TAIL
    cut (inl k) ne = absurd (ne k.0)
    cut (inr k) ne = k.1

    the_walk : IsWalk w (walk_from w visited)
    the_walk = elim (decide_equal (w TO_APPEND) 0) [
      | inl e ↦ inl (record {
        to_append = e;
        links = subst (λ ws. Links w HEAD ws 0) (sym (walk_none w visited e)) (subst (λ b. Links w HEAD visited b) (whole points.1.0 e) visit.links);
      })
      | inr ne ↦ inr (record {
        to_append = ne;
        front = visited;
        beyond = link_behind w visited;
        links = visit.links;
        ends = cut points.1.0 ne;
        walk_is = walk_some w visited ne;
      })
    ]

-- ---- a sound list: no fault

buckets_of : (B : ℕ → Type 0) (w : Words) (from : ℕ) (xs : List ℕ) (to : ℕ) → IsLink B (w from) → Links w from xs to → Each (HasLinks B w) xs → AreBuckets B xs
buckets_of B w from [] to link h each = tt
buckets_of B w from (x ∷ xs) to link h each = (is_bucket link, buckets_of B w x xs to each.0.0 h.2 each.1)
  where
    is_bucket : IsLink B (w from) → B x
    is_bucket (inl e) = absurd (h.1 (sym h.0 ∙ e))
    is_bucket (inr b) = subst B h.0 b

uncut_whole : (w : Words) (before : ℕ) (xs : List ℕ) → w TO_APPEND ≡ 0 → IsUncut w before xs
uncut_whole w before [] e = tt
uncut_whole w before (x ∷ xs) e = ((λ c. c.0 e), uncut_whole w x xs e)

uncut_front : (w : Words) (before : ℕ) (xs : List ℕ) → last_or before xs ≡ w LAST_TAIL → IsAbsent before xs → HasNoRepeats xs → IsUncut w before xs
uncut_front w before [] e absent once = tt
uncut_front w before (x ∷ xs) e absent once =
    ((λ c. each_last (λ z. before ≢ z) x xs absent.0 absent.1 (sym c.1 ∙ sym e)), uncut_front w x xs e once.0 once.1)

-- the walk of a sound list is the one that is visited, and it arrives
record IsSame (w : Words) (visited walk : List ℕ) : Type 0 where
  walk_is : walk_from w visited ≡ walk
  arrived : HasArrived w visited

visited_walk : (shape : Shape) (p : ℕ) (w : Words) (chain visited : List ℕ) (visit : IsVisit (IsBucketOf shape p) w visited) (rules : ListRules (IsBucketOf shape p) w chain) →
    IsSame w visited rules.walk
visited_walk shape p w chain visited visit rules = elim rules.is_walk [ inl k ↦ whole k | inr k ↦ cut k ]
  where
    B : ℕ → Type 0
    B = IsBucketOf shape p

    head : IsLink B (w HEAD)
    head = rules.addresses.registers HEAD (omega arith) (omega arith)

    whole : IsWholeWalk w rules.walk → IsSame w visited rules.walk
    whole k = record {
      walk_is = walk_none w visited k.to_append ∙ same;
      arrived = inl (k.to_append, ap (λ ws. w (last_or HEAD ws)) same ∙ links_last w HEAD rules.walk 0 k.links);
    }
      where
        ends : link_behind w rules.walk ≡ 0
        ends = links_last w HEAD rules.walk 0 k.links

        same : visited ≡ rules.walk
        same = visit_one B w visited rules.walk visit (record {
          links = subst (λ b. Links w HEAD rules.walk b) (sym ends) k.links;
          buckets = buckets_of B w HEAD rules.walk 0 head k.links rules.addresses.visited;
          no_repeats = rules.no_repeats;
          uncut = uncut_whole w 0 rules.walk k.to_append;
          stops = inr (inl (λ b. no_bucket_0 shape p (subst B ends b)));
        })

    cut : IsCutWalk w rules.walk → IsSame w visited rules.walk
    cut k = record {
      walk_is = walk_some w visited k.to_append ∙ ap (λ ws. ws ++ w TO_APPEND ∷ []) same ∙ sym k.walk_is;
      arrived = inr (k.to_append, ap (last_or 0) same ∙ k.ends);
    }
      where
        each : Each (HasLinks B w) k.front
        each = each_left (HasLinks B w) k.front (w TO_APPEND ∷ []) (subst (λ ws. Each (HasLinks B w) ws) k.walk_is rules.addresses.visited)

        once : HasNoRepeats k.front
        once = no_repeats_left k.front (w TO_APPEND ∷ []) (subst HasNoRepeats k.walk_is rules.no_repeats)

        same : visited ≡ k.front
        same = visit_one B w visited k.front visit (record {
          links = subst (λ b. Links w HEAD k.front b) (sym (links_last w HEAD k.front k.beyond k.links)) k.links;
          buckets = buckets_of B w HEAD k.front k.beyond head k.links each;
          no_repeats = once;
          uncut = uncut_front w 0 k.front k.ends (links_nonzero w HEAD k.front k.beyond k.links) once;
          stops = inl (k.to_append, sym k.ends);
        })

-- so the chain is the one that follows from what is visited
pub chain_is_visited : (shape : Shape) (p : ℕ) (w : Words) (chain visited : List ℕ) → IsVisit (IsBucketOf shape p) w visited → ListRules (IsBucketOf shape p) w chain → chain ≡ chain_from w visited
chain_is_visited shape p w chain visited visit rules = rules.chain_is ∙ ap (without (w TO_REMOVE)) (sym (visited_walk shape p w chain visited visit rules).walk_is)

-- a partition has one chain
pub chain_is_one : (shape : Shape) (p : ℕ) (w : Words) (chain other : List ℕ) → ListRules (IsBucketOf shape p) w chain → ListRules (IsBucketOf shape p) w other → chain ≡ other
chain_is_one shape p w chain other h k =
    let v = visit_some shape p w in chain_is_visited shape p w chain v.0 v.1 h ∙ sym (chain_is_visited shape p w other v.0 v.1 k)

links_back_from : (shape : Shape) (p : ℕ) (w : Words) (xs : List ℕ) → Each (HasLinks (IsBucketOf shape p) w) xs → Each (λ b. IsLink (IsBucketOf shape p) (w b)) (links_of xs)
links_back_from shape p w [] h = tt
links_back_from shape p w (x ∷ xs) h = (h.0.0, (h.0.1, links_back_from shape p w xs h.1))

named_back : (shape : Shape) (p : ℕ) (w : Words) (a : ℕ) → (w a ≢ 0 → HasLinks (IsBucketOf shape p) w (w a)) → Each (λ b. IsLink (IsBucketOf shape p) (w b)) (links_at w a)
named_back shape p w a h = elim (decide_equal (w a) 0) [
  | inl e ↦ subst (λ l. Each (λ b. IsLink (IsBucketOf shape p) (w b)) l) (sym (links_at_none w a e)) tt
  | inr ne ↦ subst (λ l. Each (λ b. IsLink (IsBucketOf shape p) (w b)) l) (sym (links_at_some w a ne)) ((h ne).0, ((h ne).1, tt))
]

pub addresses_of_sound : (shape : Shape) (p : ℕ) (z : Words) (chain visited : List ℕ) → IsVisit (IsBucketOf shape p) (view p z) visited → IsListOf shape p z chain → AddressesHold shape z p visited
addresses_of_sound shape p z chain visited visit h = (
  register 8 (omega arith) (omega arith),
  (
    register 9 (omega arith) (omega arith),
    (
      register 10 (omega arith) (omega arith),
      (
        register 11 (omega arith) (omega arith),
        (
          register 12 (omega arith) (omega arith),
          each_join (λ b. IsLink B (w b)) (links_of visited) (links_at w TO_APPEND ++ links_at w TO_REMOVE) (links_back_from shape p w visited front)
              (each_join (λ b. IsLink B (w b)) (links_at w TO_APPEND) (links_at w TO_REMOVE) (named_back shape p w TO_APPEND rules.addresses.appended) (named_back shape p w TO_REMOVE rules.addresses.removed)),
        ),
      ),
    ),
  ),
)
  where
    w : Words
    w = view p z

    B : ℕ → Type 0
    B = IsBucketOf shape p

    rules : ListRules B w chain
    rules = h.rules

    register : (a : ℕ) → HEAD ≤ a → a ≤ TO_REMOVE → IsLink B (w a)
    register = rules.addresses.registers

    walk : Each (HasLinks B w) (walk_from w visited)
    walk = subst (λ ws. Each (HasLinks B w) ws) (sym (visited_walk shape p w chain visited visit rules).walk_is) rules.addresses.visited

    front : Each (HasLinks B w) visited
    front = elim (decide_equal (w TO_APPEND) 0) [
      | inl e ↦ subst (λ ws. Each (HasLinks B w) ws) (walk_none w visited e) walk
      | inr ne ↦ each_left (HasLinks B w) visited (w TO_APPEND ∷ []) (subst (λ ws. Each (HasLinks B w) ws) (walk_some w visited ne) walk)
    ]

pub points_of_sound : (shape : Shape) (p : ℕ) (z : Words) (chain visited : List ℕ) (visit : IsVisit (IsBucketOf shape p) (view p z) visited) → IsListOf shape p z chain →
    PointsHold shape (view p z) visited (Unit {0})
points_of_sound shape p z chain visited visit h = (
  rules.one_at_a_time,
  (
    same.arrived,
    (
      (λ ne. (absent ne, rules.appending ne)),
      (
        (λ ne. (subst (λ c. RemoveRule w c (w TO_REMOVE) (w (prev_of (w TO_REMOVE))) (w (next_of (w TO_REMOVE)))) chain_is (rules.removing ne), closed ne)),
        (
          subst (λ c. LinksBackBut w 0 c) chain_is rules.links_back,
          (subst (λ c. (w TAIL ≡ last_or 0 c) ⊎ IsExcepted w TAIL) chain_is rules.tail, tt),
        ),
      ),
    ),
  ),
)
  where
    w : Words
    w = view p z

    rules : ListRules (IsBucketOf shape p) w chain
    rules = h.rules

    same : IsSame w visited rules.walk
    same = visited_walk shape p w chain visited visit rules

    chain_is : chain ≡ chain_from w visited
    chain_is = chain_is_visited shape p w chain visited visit rules

    absent : w TO_APPEND ≢ 0 → IsAbsent (w TO_APPEND) visited
    absent ne = last_is_absent visited (w TO_APPEND) (subst HasNoRepeats (walk_some w visited ne) (subst HasNoRepeats (sym same.walk_is) rules.no_repeats))

    far : IsLink (IsBucketOf shape p) (w TO_REMOVE) → w TO_REMOVE ≢ 0 → (c : ℕ) → 12 < cell_address (w TO_REMOVE) c
    far (inl e) ne c = absurd (ne e)
    far (inr b) ne c = let le = above_header shape p (w TO_REMOVE) b in omega (arith, le)

    closed : w TO_REMOVE ≢ 0 → IsClosedBucket shape w (w TO_REMOVE)
    closed ne c below = view_behind p (cell_address (w TO_REMOVE) c) z (far (rules.addresses.registers TO_REMOVE (omega arith) (omega arith)) ne c) ∙ h.removed ne c below

-- ---- the partitions, one after another

-- the partition has a sound list
abbrev pub IsSoundPart : Shape → Words → ℕ → Type 0
IsSoundPart shape z p = (chain : List ℕ) × IsListOf shape p z chain

-- what holds of the partition's words, and of its list, by what the walk visits
abbrev pub HasAddresses : Shape → Words → ℕ → Type 0
HasAddresses shape z p = AddressesHold shape z p (visit_some shape p (view p z)).0

abbrev pub HasPoints : Shape → Words → ℕ → Type 0
HasPoints shape z p = PointsHold shape (view p z) (visit_some shape p (view p z)).0 (Unit {0})

unfoldable pub addresses_some : (shape : Shape) (z : Words) (ps : List ℕ) (R : Type 0) (next : FaultSet) → CanFail R next → CanFail (Each (HasAddresses shape z) ps × R) (TryAddresses shape z ps next)
unfolding visit_some each_some decide_link
addresses_some shape z [] R next go = elim go [ inl r ↦ inl (tt, r) | inr f ↦ inr f ]
addresses_some shape z (p ∷ ps) R next go =
    let v = visit_some shape p (view p z) in
    elim (each_some (λ b. IsLink (IsBucketOf shape p) (view p z b)) (Each (HasAddresses shape z) ps × R) 5 (out_address p) (address_words (view p z) v.0) (TryAddresses shape z ps next)
    (λ b. decide_link shape p (view p z b)) (λ k. addresses_some shape z ps R next go)) [
      | inl h ↦ inl ((h.0, h.1.0), h.1.1)
      | inr f ↦ inr (f.0, f.1, (v.0, v.1, f.2))
    ]

-- the facts of a partition with those of the rest behind them
points_with : (shape : Shape) (w : Words) (visited : List ℕ) (R : Type 0) → PointsHold shape w visited R → PointsHold shape w visited (Unit {0}) × R
points_with shape w visited R h = ((h.0, (h.1.0, (h.1.1.0, (h.1.1.1.0, (h.1.1.1.1.0, (h.1.1.1.1.1.0, tt)))))), h.1.1.1.1.1.1)

unfoldable pub lists_some : (shape : Shape) (z : Words) (ps : List ℕ) (R : Type 0) (next : FaultSet) → CanFail R next → CanFail (Each (HasPoints shape z) ps × R) (TryLists shape z ps next)
unfolding visit_some points_some points_with
lists_some shape z [] R next go = elim go [ inl r ↦ inl (tt, r) | inr f ↦ inr f ]
lists_some shape z (p ∷ ps) R next go =
    let v = visit_some shape p (view p z) in
    elim (points_some shape (list_words p) (view p z) v.0 (Each (HasPoints shape z) ps × R) (TryLists shape z ps next) (lists_some shape z ps R next go)) [
      | inl h ↦ (let k = points_with shape (view p z) v.0 (Each (HasPoints shape z) ps × R) h in inl ((k.0, k.1.0), k.1.1))
      | inr f ↦ inr (f.0, f.1, (v.0, v.1, f.2))
    ]

pub addresses_none : (shape : Shape) (z : Words) (ps : List ℕ) (next : FaultSet) → Each (IsSoundPart shape z) ps → Excludes next → Excludes (TryAddresses shape z ps next)
addresses_none shape z [] next h ex i a k = ex i a k
addresses_none shape z (p ∷ ps) next h ex i a k =
    each_none (λ b. IsLink (IsBucketOf shape p) (view p z b)) 5 (out_address p) (address_words (view p z) k.0) (TryAddresses shape z ps next) (addresses_of_sound shape p z h.0.0 k.0 k.1 h.0.1)
    (addresses_none shape z ps next h.1 ex) i a k.2

pub lists_none : (shape : Shape) (z : Words) (ps : List ℕ) (next : FaultSet) → Each (IsSoundPart shape z) ps → Excludes next → Excludes (TryLists shape z ps next)
lists_none shape z [] next h ex i a k = ex i a k
lists_none shape z (p ∷ ps) next h ex i a k =
    points_none shape (list_words p) (view p z) k.0 (TryLists shape z ps next) (points_of_sound shape p z h.0.0 k.0 k.1 h.0.1) (lists_none shape z ps next h.1 ex) i a k.2

pub addresses_one : (shape : Shape) (z : Words) (ps : List ℕ) (next others : FaultSet) → AreOne next others → AreOne (TryAddresses shape z ps next) (TryAddresses shape z ps others)
addresses_one shape z [] next others one i a j b h k = one i a j b h k
addresses_one shape z (p ∷ ps) next others one i a j b h k =
    let same = visit_one (IsBucketOf shape p) (view p z) k.0 h.0 k.1 h.1 in
    let moved : TriedEach (λ b. IsLink (IsBucketOf shape p) (view p z b)) 5 (out_address p) (address_words (view p z) h.0) (TryAddresses shape z ps others) j b =
    subst (λ xs. TriedEach (λ b. IsLink (IsBucketOf shape p) (view p z b)) 5 (out_address p) (address_words (view p z) xs) (TryAddresses shape z ps others) j b) same k.2 in
    each_one _ _ 5 (out_address p) (address_words (view p z) h.0) (TryAddresses shape z ps next) (TryAddresses shape z ps others)
    (each_alike (λ b. IsLink (IsBucketOf shape p) (view p z b)) (address_words (view p z) h.0)) (addresses_one shape z ps next others one) i a j b h.2 moved

pub lists_one : (shape : Shape) (z : Words) (ps : List ℕ) (next others : FaultSet) → AreOne next others → AreOne (TryLists shape z ps next) (TryLists shape z ps others)
lists_one shape z [] next others one i a j b h k = one i a j b h k
lists_one shape z (p ∷ ps) next others one i a j b h k =
    let w : Words = view p z in
    let same = visit_one (IsBucketOf shape p) w k.0 h.0 k.1 h.1 in
    let moved : TryPoints shape (list_words p) w h.0 (TryLists shape z ps others) j b =
    subst (λ xs. TryPoints shape (list_words p) w xs (TryLists shape z ps others) j b) same k.2 in
    points_one shape (list_words p) w h.0 (TryLists shape z ps next) (TryLists shape z ps others) (lists_one shape z ps next others one) i a j b h.2 moved
