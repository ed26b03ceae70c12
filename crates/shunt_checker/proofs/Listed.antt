-- Whether a node lists a choice, by a look at each node.
use Rattle.std.specs.Prelude.{◌⊎◌}
use Rattle.std.proofs.Common.{◌≡◌, ⊎_elim, inl, inr, ℕ, zero, suc, ◌+◌, ◌<◌, List, Option, Some, None, length, refl, ap, subst, ◌∙◌, arith}
use Rattle.std.proofs.lemmas.Bool.{cases_lt, cases_eq}
use Rattle.shunt_base.specs.declared.ids.Side.{Side}
use Rattle.shunt_base.specs.declared.ids.Side.TheVariants.{A, B}
use Rattle.shunt_base.specs.declared.ids.TrackId.{TrackId}
use Rattle.shunt_instance.specs.defs.Instance.{Night}
use Rattle.shunt_blocks.specs.declared.records.Shape.{Shape}
use Rattle.shunt_blocks.specs.declared.records.Block.{Block}
use Rattle.shunt_blocks.specs.declared.records.Park.{Park}
use Rattle.shunt_choices.specs.defs.Choices.{Choice as PathChoice}
use Rattle.shunt_proof.specs.declared.records.Choice.{Choice}
use Rattle.shunt_proof.specs.declared.records.Node.{Node}
use Rattle.shunt_proof.specs.defs.Nodes.{node_at}
use Rattle.shunt_proof.specs.defs.Trees.{depth_at, parent, IsChildOf, stated_choice, path_at, choice_from}
use Rattle.shunt_proof.specs.defs.Proves.{IsListed}
use Rattle.shunt_checker.proofs.Stable.{Stable}
use Rattle.shunt_checker.specs.defs.Lows.{offer_of}

abbrev pub Decided : Type 0 → Type 0
Decided P = P ⊎ (P → ⊥)

-- ---- choices

side : (a b : Side) → Decided (a ≡ b)
side A A = inl refl
side A B = inr (λ e. cc)
side B A = inr (λ e. cc)
side B B = inl refl

pub park_from : (k l : Park) → k.track.0 ≡ l.track.0 → k.side_in ≡ l.side_in → k.side_out ≡ l.side_out → k ≡ l
park_from k l et ei eo =
    let tracks : k.track ≡ l.track = ap (λ (w : ℕ). record { 0 = w }) et in
    let a : k ≡ record { track = l.track; side_in = k.side_in; side_out = k.side_out } = ap
    (λ (t : TrackId). record { track = t; side_in = k.side_in; side_out = k.side_out }) tracks in
    let b : record { track = l.track; side_in = k.side_in; side_out = k.side_out }
    ≡ record { track = l.track; side_in = l.side_in; side_out = k.side_out } = ap (λ (s : Side). record { track = l.track; side_in = s; side_out = k.side_out }) ei in
    let c : record { track = l.track; side_in = l.side_in; side_out = k.side_out } ≡ l = ap (λ (s : Side). record { track = l.track; side_in = l.side_in; side_out = s }) eo in
    a ∙ (b ∙ c)

park : (k l : Park) → Decided (k ≡ l)
park k l = ⊎_elim
    (λ et. ⊎_elim
    (λ ei. ⊎_elim (λ eo. inl (park_from k l et ei eo)) (λ n. inr (λ e. n (ap (λ (w : Park). w.side_out) e))) (side k.side_out l.side_out))
    (λ n. inr (λ e. n (ap (λ (w : Park). w.side_in) e)))
    (side k.side_in l.side_in))
    (λ n. inr (λ e. n (ap (λ (w : Park). w.track.0) e)))
    (cases_eq k.track.0 l.track.0)

option : (o p : Option Park) → Decided (o ≡ p)
option None None = inl refl
option None (Some l) = inr (λ e. cc)
option (Some k) None = inr (λ e. cc)
option (Some k) (Some l) = ⊎_elim (λ e. inl (ap (λ (w : Park). Some w) e)) (λ n. inr (λ (e : Some k ≡ Some l). n cc)) (park k l)

-- two choices that begin at one place are one where their units, departing trains, places and options agree
module _ (c d : PathChoice) where
  record AreAlike : Type 0 where
    n : c.shape.n ≡ d.shape.n
    dep : c.shape.dep.0 ≡ d.shape.dep.0
    q : c.shape.q ≡ d.shape.q
    arr : c.shape.arr.0 ≡ d.shape.arr.0
    p : c.shape.p ≡ d.shape.p
    option : c.option ≡ d.option

abbrev run_shape : ℕ → ℕ → ℕ → ℕ → ℕ → Shape
run_shape a p n x q = record { arr = record { 0 = a }; p = p; n = n; dep = record { 0 = x }; q = q }

shape_from : (a b p r n m x y q s : ℕ) → a ≡ b → p ≡ r → n ≡ m → x ≡ y → q ≡ s → run_shape a p n x q ≡ run_shape b r m y s
shape_from a b p r n m x y q s ea ep en ex eq =
    ap (λ (w : ℕ). run_shape w p n x q) ea ∙ (ap (λ (w : ℕ). run_shape b w n x q) ep
    ∙ (ap (λ (w : ℕ). run_shape b r w x q) en ∙ (ap (λ (w : ℕ). run_shape b r m w q) ex ∙ ap (λ (w : ℕ). run_shape b r m y w) eq)))

choice_from_alike : (c d : PathChoice) → AreAlike c d → c ≡ d
choice_from_alike c d h =
    ap (λ (s : Shape). offer_of s c.option) (shape_from c.shape.arr.0 d.shape.arr.0 c.shape.p d.shape.p c.shape.n d.shape.n c.shape.dep.0 d.shape.dep.0 c.shape.q d.shape.q h.arr
    h.p h.n h.dep h.q)
    ∙ ap (λ (o : Option Park). offer_of d.shape o) h.option

pub choice : (c d : PathChoice) → Decided (c ≡ d)
choice c d = ⊎_elim
    (λ en. ⊎_elim
    (λ ed. ⊎_elim
    (λ eq. ⊎_elim
    (λ ea. ⊎_elim
    (λ ep. ⊎_elim
    (λ eo. inl (choice_from_alike c d (record { n = en; dep = ed; q = eq; arr = ea; p = ep; option = eo })))
    (λ no_o. inr (λ e. no_o (ap (λ (w : PathChoice). w.option) e)))
    (option c.option d.option))
    (λ no_p. inr (λ e. no_p (ap (λ (w : PathChoice). w.shape.p) e)))
    (cases_eq c.shape.p d.shape.p))
    (λ no_a. inr (λ e. no_a (ap (λ (w : PathChoice). w.shape.arr.0) e)))
    (cases_eq c.shape.arr.0 d.shape.arr.0))
    (λ no_q. inr (λ e. no_q (ap (λ (w : PathChoice). w.shape.q) e)))
    (cases_eq c.shape.q d.shape.q))
    (λ no_d. inr (λ e. no_d (ap (λ (w : PathChoice). w.shape.dep.0) e)))
    (cases_eq c.shape.dep.0 d.shape.dep.0))
    (λ no_n. inr (λ e. no_n (ap (λ (w : PathChoice). w.shape.n) e)))
    (cases_eq c.shape.n d.shape.n)

stated : (night : Night) (path : List Block) (o : Option Choice) (c : PathChoice) → Decided (stated_choice night path o ≡ Some c)
stated night path None c = inr (λ (e : None ≡ Some c). cc)
stated night path (Some d) c = ⊎_elim (λ e. inl (ap (λ (w : PathChoice). Some w) e)) (λ n. inr (λ (e : Some (choice_from night path d) ≡ Some c). n cc))
    (choice (choice_from night path d) c)

-- ---- nodes

below : (nodes : List Node) (k j : ℕ) → Decided (IsChildOf nodes k j)
below nodes k j = ⊎_elim
    (λ lt. ⊎_elim
    (λ ed. ⊎_elim
    (λ ep. inl (record { there = lt; depth = ed; parent = ep }))
    (λ n. inr (λ h. n h.parent))
    (cases_eq (parent nodes j) k))
    (λ n. inr (λ h. n h.depth))
    (cases_eq (depth_at nodes j) (depth_at nodes k + 1)))
    (λ past. inr (λ h. let there = h.there in omega (arith, there, past)))
    (cases_lt j (length nodes))

-- a child of a node that states a choice
record States (night : Night) (start : List Block) (nodes : List Node) (k : ℕ) (c : PathChoice) (j : ℕ) : Type 0 where
  below : IsChildOf nodes k j
  states : stated_choice night (path_at night start nodes k) (node_at nodes j).choice ≡ Some c

states : (night : Night) (start : List Block) (nodes : List Node) (k : ℕ) (c : PathChoice) (j : ℕ) → Decided (States night start nodes k c j)
states night start nodes k c j = ⊎_elim
    (λ b. ⊎_elim
    (λ e. inl (record { below = b; states = e }))
    (λ n. inr (λ h. n h.states))
    (stated night (path_at night start nodes k) (node_at nodes j).choice c))
    (λ n. inr (λ h. n h.below))
    (below nodes k j)

record IsFound (P : ℕ → Type 0) : Type 0 where
  at : ℕ
  holds : P at

-- one of the numbers below n, or none
search_below : (P : ℕ → Type 0) → ((j : ℕ) → Decided (P j)) → (n : ℕ) → IsFound P ⊎ ((j : ℕ) → j < n → P j → ⊥)
search_below P each zero = inr (λ j lt p. omega (arith, lt))
search_below P each (suc n) = ⊎_elim
    (λ p. inl (record { at = n; holds = p }))
    (λ never. ⊎_elim
    (λ found. inl found)
    (λ none. inr (λ j lt p. ⊎_elim (λ less. none j less p) (λ past. let e : j ≡ n = omega (arith, lt, past) in never (subst P e p)) (cases_lt j n)))
    (search_below P each n))
    (each n)

pub listed : (night : Night) (start : List Block) (nodes : List Node) (k : ℕ) (c : PathChoice) → Stable (IsListed night start nodes k c)
listed night start nodes k c h = ⊎_elim
    (λ found. record { child = found.at; below = found.holds.below; states = found.holds.states })
    (λ none. absurd (h (λ l. none l.child l.below.there (record { below = l.below; states = l.states }))))
    (search_below (States night start nodes k c) (states night start nodes k c) (length nodes))
