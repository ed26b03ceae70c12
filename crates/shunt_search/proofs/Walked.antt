-- A walk whose last children are closed or passed over, and one that ends.
use Rattle.std.specs.Prelude.{AllPairs}
use Rattle.std.proofs.Common.{◌≡◌, ◌⊎◌, inl, inr, ⊎_elim, Bool, true, false, ℕ, ◌+◌, ◌-◌, ◌<◌, ◌≤◌, List, [], ◌∷◌, ◌++◌, length, take, ℤ, get_or, refl, sym, subst, ap, ◌∙◌, arith}
use Rattle.std.specs.Prelude.{pos, ◌≤ℤ◌}
use Rattle.std.proofs.lemmas.Int.{ints}
use Rattle.std.proofs.lemmas.List.{append-nil, append_assoc, get_or_append_left, get_or_default, length-append, length-take}
use Rattle.shunt_lists.specs.defs.Members.{In}
use Rattle.std.proofs.lemmas.Bool.{cases_lt}
use Rattle.std.proofs.Math.Seq.{get_or-append_right}
use Rattle.std.proofs.Math.Nat.{min-le_right}
use Rattle.shunt_lists.proofs.Members.{in_left, in_right, in_cases, in_place, place_of}
use Rattle.shunt_base.specs.declared.duals.Case.{Case}
use Rattle.shunt_instance.specs.defs.Instance.{Night}
use Rattle.shunt_blocks.specs.declared.records.Block.{Block}
use Rattle.shunt_choices.specs.defs.Choices.{Choice as PathChoice, longer_by}
use Rattle.shunt_proof.specs.declared.records.NodeKind.{NodeKind}
use Rattle.shunt_proof.specs.declared.records.NodeKind.TheVariants.{Branch, Leaf, Whole}
use Rattle.shunt_proof.specs.declared.records.Node.{Node}
use Rattle.shunt_proof.specs.declared.records.Version.{Version}
use Rattle.shunt_proof.specs.defs.Nodes.{node_at}
use Rattle.shunt_proof.specs.defs.Trees.{path_at, duals_at}
use Rattle.shunt_proof.specs.defs.Versions.{HoldIn, IsStepBoundIn, StepReachesIn}
use Rattle.shunt_proof.specs.defs.Proves.{ShowsIn, IsListed, AreRightIn}
use Rattle.shunt_search.specs.declared.walk_stack.Pending.{Pending}
use Rattle.shunt_search.specs.defs.Yards.{IsNextBlock}
use Rattle.shunt_search.specs.defs.WalkStates.{kept, goal_of, cases_in, IsPending, IsApart, IsKnown, IsWalk, IsLesser, Passes}
use Rattle.shunt_proof.proofs.Locally.{lower as lower_path, step_lower as lower}

-- ---- a node shows less, where what is known no more is reached

pub shows_turn : (version : Version) (night : Night) (path : List Block) (cases : List Case) (kind : NodeKind) (Before After : PathChoice → Type 0) (L M : ℤ) → M ≤ℤ L
    → (kind ≡ Branch → (c : PathChoice) → Before c → StepReachesIn version night path (longer_by path c) cases M ⊎ After c)
    → ShowsIn version night path cases kind Before L → ShowsIn version night path cases kind After M
shows_turn version night path cases Whole Before After L M le turn s = record { covers = s.covers; cost = omega (arith, ints, le, s.cost) }
shows_turn version night path cases Leaf Before After L M le turn s = record {
  unfinished = s.unfinished;
  holds = s.holds;
  bound = lower_path version night path cases L M le
      s.bound;
}
shows_turn version night path cases Branch Before After L M le turn s = record {
  unfinished = s.unfinished;
  holds = s.holds;
  each = λ c there through. ⊎_elim (λ r. inl (lower version night path (longer_by path c) cases L M le r)) (λ k. turn refl c k) (s.each c there through);
}

pub front_pairs : {X : Type 0} (R : X → X → Type 0) (xs ys : List X) → AllPairs R (xs ++ ys) → AllPairs R xs
front_pairs {X} R xs ys h i j d before within =
    let long = length-append xs ys in
    subst (λ (x : X). R x (get_or xs j d)) (get_or_append_left xs ys d i (omega (arith, before, within)))
    (subst (λ (x : X). R (get_or (xs ++ ys) i d) x) (get_or_append_left xs ys d j within) (h i j d before (omega (arith, within, long))))

pub pairs_append : {X : Type 0} (R : X → X → Type 0) (xs ys : List X) → AllPairs R xs → AllPairs R ys → ((x y : X) → In x xs → In y ys → R x y) → AllPairs R (xs ++ ys)
pairs_append {X} R xs ys h k across i j d before within = ⊎_elim
    (λ j_in. subst (λ (x : X). R x (get_or (xs ++ ys) j d)) (sym (get_or_append_left xs ys d i (omega (arith, before, j_in))))
    (subst (λ (x : X). R (get_or xs i d) x) (sym (get_or_append_left xs ys d j j_in)) (h i j d before j_in)))
    (λ j_past.
    let long = length-append xs ys in
    let there : j - length xs < length ys = omega (arith, within, long, j_past) in
    subst (λ (x : X). R (get_or (xs ++ ys) i d) x) (sym (get_or-append_right xs ys j d j_past)) (⊎_elim
    (λ i_in. subst (λ (x : X). R x (get_or ys (j - length xs) d)) (sym (get_or_append_left xs ys d i i_in))
    (across (get_or xs i d) (get_or ys (j - length xs) d) (in_place xs i d i_in) (in_place ys (j - length xs) d there)))
    (λ i_past. subst (λ (x : X). R x (get_or ys (j - length xs) d)) (sym (get_or-append_right xs ys i d i_past))
    (k (i - length xs) (j - length xs) d (omega (arith, before, i_past)) there))
    (cases_lt i (length xs))))
    (cases_lt j (length xs))

module _ (version : Version) (night : Night) (start : List Block) (stock : List (List Case)) (floor : ℤ) (nodes : List Node) (path : List Block) (left passed : List Pending)
    (best : ℕ) (low : ℤ) (W : IsWalk version night start stock floor nodes path (left ++ passed) best low) where
  -- what was known through a child whose bound is at least M is reached
  known_less : (M : ℤ) → ((t : Pending) → In t passed → M ≤ℤ t.child.bound) → (k : ℕ) → (c : PathChoice) → IsKnown night start nodes path (left ++ passed) k c
      → StepReachesIn version night (path_at night start nodes k) (longer_by (path_at night start nodes k) c) (duals_at nodes k) M ⊎ IsKnown night start nodes path left k c
  known_less M closed k c (inl listed) = inr (inl listed)
  known_less M closed k c (inr known) =
      ⊎_elim
      (λ i. inr (inr (known.0, i, known.2, known.3)))
      (λ i. inl (
        known.0.child.bound,
        subst (λ (l : List Block). IsStepBoundIn version night (path_at night start nodes k) l (duals_at nodes k) known.0.child.bound) known.3
            (subst (λ (j : ℕ). IsStepBoundIn version night (path_at night start nodes j) (goal_of path known.0.child) (duals_at nodes j) known.0.child.bound) known.2
            (W.pending known.0 known.1).bound),
        closed known.0 i,
      ))
      (in_cases left passed known.0 known.1)

  pub shows_less : (M : ℤ) → M ≤ℤ low → ((t : Pending) → In t passed → M ≤ℤ t.child.bound) → (k : ℕ) → k < length nodes
      → ShowsIn version night (path_at night start nodes k) (duals_at nodes k) (node_at nodes k).kind (IsKnown night start nodes path left k) M
  shows_less M le closed k lt = shows_turn version night (path_at night start nodes k) (duals_at nodes k) (node_at nodes k).kind (IsKnown night start nodes path (left ++ passed) k)
      (IsKnown night start nodes path left k) low M le
      (λ branch c known. known_less M closed k c known) (W.shows k lt)

  pub walk_left : (now : ℤ) → now ≤ℤ low → ((t : Pending) → In t passed → now ≤ℤ t.child.bound) → IsWalk version night start stock floor nodes path left best now
  walk_left now le closed = record {
    formed = W.formed;
    some = W.some;
    here = W.here;
    kinds = W.kinds;
    placed = W.placed;
    lean = W.lean;
    pending = λ t i. W.pending t (in_left left passed t i);
    apart = front_pairs IsApart left passed W.apart;
    shows = λ k lt. shows_less now le closed k lt;
    within = let most = W.within in omega (arith, ints, le, most);
    cheap = W.cheap;
  }

pub passes_on : (version : Version) (night : Night) (start : List Block) (stock : List (List Case)) (floor : ℤ) (nodes : List Node) (path : List Block)
    (waiting left : List Pending) (best : ℕ) (low now : ℤ) → IsWalk version night start stock floor nodes path waiting best low → Passes waiting left low now
    → IsWalk version night start stock floor nodes path left best now
passes_on version night start stock floor nodes path waiting left best low now W p = walk_left version night start stock floor nodes path left p.passed best low
    (subst (λ (l : List Pending). IsWalk version night start stock floor nodes path l best low) p.parts W) now p.falls p.closed

pub ends_right : (version : Version) (night : Night) (start : List Block) (stock : List (List Case)) (floor : ℤ) (nodes : List Node) (path : List Block) (waiting : List Pending)
    (best : ℕ) (low M : ℤ) → IsWalk version night start stock floor nodes path waiting best low → M ≤ℤ low → ((t : Pending) → In t waiting → M ≤ℤ t.child.bound)
    → AreRightIn version night start nodes M
ends_right version night start stock floor nodes path waiting best low M W le closed k lt = record {
  placed = λ some. W.placed k some lt;
  shows = shows_turn version night (path_at night start nodes k) (duals_at nodes k) (node_at nodes k).kind (IsKnown night start nodes path [] k) (IsListed night start nodes k) M M
      (omega (arith, ints))
      (λ branch c known. inr (only_listed c known)) (shows_less version night start stock floor nodes path [] waiting best low W M le closed k lt);
}
  where
    only_listed : (c : PathChoice) → IsKnown night start nodes path [] k c → IsListed night start nodes k c
    only_listed c (inl listed) = listed
    only_listed c (inr known) = absurd known.1

-- ---- children that are closed or passed over, from the end

pub passes_first : (low : ℤ) (old : List Pending) → Passes old old low low
passes_first low old = record { passed = []; parts = sym (append-nil old); closed = λ t i. absurd i; falls = omega (arith, ints); least = inl refl }

pub passes_more : (old now rest : List Pending) (t : Pending) (low high new : ℤ) → Passes old now low high → now ≡ rest ++ t ∷ [] → new ≤ℤ high → new ≤ℤ t.child.bound
    → (new ≡ high) ⊎ (new ≡ t.child.bound) → Passes old rest low new
passes_more old now rest t low high new p e falls le which = record {
  passed = t ∷ p.passed;
  parts = p.parts ∙ ap (λ (l : List Pending). l ++ p.passed) e ∙ append_assoc rest (t ∷ []) p.passed;
  closed = λ s i. ⊎_elim (λ same. subst (λ (x : Pending). new ≤ℤ x.child.bound) (sym same) le) (λ later. let first = p.closed s later in omega (arith, ints, first, falls)) i;
  falls = let first = p.falls in omega (arith, ints, first, falls);
  least = ⊎_elim
      (λ same. ⊎_elim (λ low_is. inl (same ∙ low_is)) (λ found. inr (found.0, inr found.1, same ∙ found.2)) p.least)
      (λ same. inr (t, inl refl, same))
      which;
}

-- a child whose bound isn't below the best cost changes no bound
pub passes_closed : (old now rest : List Pending) (t : Pending) (best : ℕ) (low high : ℤ) → Passes old now low high → now ≡ rest ++ t ∷ [] → low ≤ℤ pos best
    → pos best ≤ℤ t.child.bound → Passes old rest low high
passes_closed old now rest t best low high p e within le = passes_more old now rest t low high high p e (omega (arith, ints))
    (let falls = p.falls in omega (arith, ints, falls, within, le)) (inl refl)

differ : false ≡ true → ⊥
differ e = cc

pub never_both : (b : Bool) → b ≡ false → b ≡ true → ⊥
never_both b off on = differ (sym off ∙ on)

-- another one makes it fall
pub passes_lesser : (old now rest : List Pending) (t : Pending) (low high new : ℤ) → Passes old now low high → now ≡ rest ++ t ∷ [] → IsLesser high t.child.bound new
    → Passes old rest low new
passes_lesser old now rest t low high new p e l = passes_more old now rest t low high new p e l.first l.second l.either

pub passes_to : (low high : ℤ) (old now left : List Pending) → Passes old now low high → now ≡ left → Passes old left low high
passes_to low high old now left p e = subst (λ (l : List Pending). Passes old l low high) e p

-- ---- the least of what is left

-- the least of a bound and of the bounds of the first n children
pub record IsLeastOf (start : ℤ) (waiting : List Pending) (n : ℕ) (low : ℤ) : Type 0 where
  pub within : low ≤ℤ start
  pub left : (k : ℕ) (d : Pending) → k < n → k < length waiting → low ≤ℤ (get_or waiting k d).child.bound
  pub one : (low ≡ start) ⊎ ((t : Pending) × In t waiting × (low ≡ t.child.bound))

pub least_first : (start : ℤ) (waiting : List Pending) → IsLeastOf start waiting 0 start
least_first start waiting = record { within = omega (arith, ints); left = λ k d lt within. absurd (omega (arith, lt)); one = inl refl }

pub least_next : (start : ℤ) (waiting : List Pending) (n : ℕ) (d : Pending) (low now : ℤ) → n < length waiting → IsLesser low (get_or waiting n d).child.bound now
    → IsLeastOf start waiting n low → IsLeastOf start waiting (n + 1) now
least_next start waiting n d low now lt l h =
    let first = l.first in
    let second = l.second in
    record {
      within = let w = h.within in omega (arith, ints, w, first);
      left = λ k e below within. ⊎_elim
          (λ before. let w = h.left k e before within in omega (arith, ints, w, first))
          (λ past.
          let is : n ≡ k = omega (arith, past, below) in
          let at : get_or waiting n e ≡ get_or waiting n d = get_or_default waiting n e d lt in
          subst (λ m. now ≤ℤ (get_or waiting m e).child.bound) is (subst (λ (x : Pending). now ≤ℤ x.child.bound) (sym at) second))
          (cases_lt k n);
      one = ⊎_elim
          (λ same. ⊎_elim (λ start_is. inl (same ∙ start_is)) (λ found. inr (found.0, found.1, same ∙ found.2)) h.one)
          (λ same. inr (get_or waiting n d, in_place waiting n d lt, same))
          l.either;
    }

pub least_all : (start : ℤ) (waiting : List Pending) (n : ℕ) (low : ℤ) → length waiting ≤ n → IsLeastOf start waiting n low → (t : Pending) → In t waiting → low ≤ℤ t.child.bound
least_all start waiting n low all h t i =
    let at = place_of waiting t t i in
    let lt = at.1 in
    subst (λ (x : Pending). low ≤ℤ x.child.bound) at.2 (h.left at.0 t (omega (arith, lt, all)) lt)

-- ---- the next child of a walk

abbrev pub LongerLaw : Type 0
LongerLaw = (version : Version) (night : Night) (path : List Block) (b : Block) (cases : List Case) → HoldIn version night path cases → HoldIn version night (path ++ b ∷ []) cases

branch_holds : (version : Version) (night : Night) (path : List Block) (cases : List Case) (kind : NodeKind) (IsKnownThere : PathChoice → Type 0) (L : ℤ) → kind ≡ Branch
    → ShowsIn version night path cases kind IsKnownThere L → HoldIn version night path cases
branch_holds version night path cases kind IsKnownThere L e h = holds (subst (λ kd. ShowsIn version night path cases kd IsKnownThere L) e h)
  where
    holds : ShowsIn version night path cases Branch IsKnownThere L → HoldIn version night path cases
    holds s = s.holds

module _ (version : Version) (night : Night) (start : List Block) (stock : List (List Case)) (floor : ℤ) (nodes : List Node) (path : List Block) (left : List Pending) (t : Pending)
    (best : ℕ) (low : ℤ) (W : IsWalk version night start stock floor nodes path (left ++ t ∷ []) best low) where
  its : IsPending version night start stock floor nodes path t
  its = W.pending t (in_right left (t ∷ []) t (inl refl))

  pub keeps_start : length start ≤ kept t.child
  keeps_start = let long = its.long in omega (arith, long)

  pub keeps_within : kept t.child ≤ length path
  keeps_within =
      let id = its.next.id in
      let long = length-take (kept t.child) path in
      let le = min-le_right (kept t.child) (length path) in
      omega (arith, id, long, le)

  pub is_next : IsNextBlock night (take (kept t.child) path) t.child.block
  is_next = its.next

  pub in_stock : t.cases < length stock
  in_stock = its.place

  pub cases_hold : LongerLaw → HoldIn version night (goal_of path t.child) (cases_in stock t.cases)
  cases_hold law =
      let at = branch_holds version night (path_at night start nodes t.parent) (duals_at nodes t.parent) (node_at nodes t.parent).kind
      (IsKnown night start nodes path (left ++ t ∷ []) t.parent) low its.branch (W.shows t.parent its.there) in
      let own = subst (λ (d : List Case). HoldIn version night (path_at night start nodes t.parent) d) (sym its.cases) at in
      law version night (take (kept t.child) path) t.child.block (cases_in stock t.cases) (subst (λ (l : List Block). HoldIn version night l (cases_in stock t.cases)) its.here own)

  pub its_bound : IsStepBoundIn version night (take (kept t.child) path) (goal_of path t.child) (cases_in stock t.cases) t.child.bound
  its_bound = subst (λ (d : List Case). IsStepBoundIn version night (take (kept t.child) path) (goal_of path t.child) d t.child.bound) (sym its.cases)
      (subst (λ (l : List Block). IsStepBoundIn version night l (goal_of path t.child) (duals_at nodes t.parent) t.child.bound) its.here its.bound)
