-- The children of a path, while its choices are tried one by one.
use Rattle.std.specs.Prelude.{pos, All, IfNone, Option, Some, None}
use Rattle.std.specs.List.{flat_map}
use Rattle.std.proofs.Common.{◌≡◌, inl, inr, ⊎_elim, ◌↔◌, ℕ, zero, suc, ◌+◌, ◌<◌, ◌≤◌, List, [], ◌∷◌, ◌++◌, length, map, take, get_or, refl, sym, subst, ap, ◌∙◌, arith}
use Rattle.std.proofs.lemmas.List.{append-nil, append_assoc, map-append, take_more, take_all}
use Rattle.std.proofs.lemmas.List.Elements.{All-append, All-cons, All-nil}
use Rattle.std.proofs.lemmas.List.Concat.{flat_map-cons}
use Rattle.shunt_lists.specs.defs.Members.{In, AreDistinct}
use Rattle.shunt_lists.proofs.Members.{in_left, in_right, in_cases, in_map, in_place, of_one, Distinct, each_one as of_all, to_all, place_of}
use Rattle.shunt_base.specs.declared.duals.Case.{Case}
use Rattle.shunt_instance.specs.defs.Instance.{Night, unit_total}
use Rattle.shunt_blocks.specs.declared.records.Block.{Block}
use Rattle.shunt_blocks.specs.declared.records.Shape.{Shape}
use Rattle.shunt_blocks.specs.declared.records.Park.{Park}
use Rattle.shunt_blocks.specs.defs.Lists.{RunsThrough, placed}
use Rattle.shunt_choices.specs.defs.Paths.{Masks, Trail, IsTrailOf, masks_of, next_of}
use Rattle.shunt_choices.specs.defs.Choices.{Choice, IsChoiceAt, longer_by, choices_with, choices_where, choices_of, choices_at, shapes_of}
use Rattle.shunt_choices.proofs.Trails.{length_units, length_places}
use Rattle.shunt_choices.specs.defs.Free.{AreMasksOf}
use Rattle.shunt_proof.specs.declared.records.Version.{Version}
use Rattle.shunt_proof.specs.defs.Versions.{StepReachesIn}
use Rattle.shunt_search.specs.declared.child.Child.{Child}
use Rattle.shunt_search.specs.defs.Yards.{choice_of, more_by, choices_in, IsNextBlock, IsOpen, IsClosed, IsTried, AreOpen, AreChildren}
use Rattle.shunt_choices.proofs.AtPaths.{next_in}

-- ---- the block of a choice

pub longer_is : (path : List Block) (b : Block) → b.id ≡ length path + 1 → longer_by path (choice_of b) ≡ more_by path b
longer_is path b e = ap (λ n. path ++ record b { id = n } ∷ []) (sym e)

pub is_closed : (version : Version) (night : Night) (path : List Block) (cases : List Case) (best : ℕ) (b : Block) → b.id ≡ length path + 1
    → (RunsThrough night (placed (more_by path b)) → StepReachesIn version night path (more_by path b) cases (pos best)) → IsClosed version night path cases best (choice_of b)
is_closed version night path cases best b e h = subst (λ (l : List Block). RunsThrough night (placed l) → StepReachesIn version night path l cases (pos best))
    (sym (longer_is path b e)) h

pub none_then : {X P Q : Type 0} (o : Option X) → IfNone o P → (P → Q) → IfNone o Q
none_then None p leads = leads p
none_then (Some x) p leads = tt

-- ---- lists without doubles

to_distinct : {X : Type 0} (xs : List X) → AreDistinct xs → Distinct xs
to_distinct [] h = tt
to_distinct (x ∷ xs) h = (
  λ i. let r = place_of xs x x i in let lt = r.1 in h 0 (suc r.0) x (omega arith) (omega (arith, lt)) (sym r.2),
  to_distinct xs (λ i j d before within. h (suc i) (suc j) d (omega (arith, before)) (omega (arith, within))),
)

of_distinct : {X : Type 0} (xs : List X) → Distinct xs → AreDistinct xs
of_distinct [] h i j d before within = absurd (omega (arith, within))
of_distinct (x ∷ xs) h i zero d before within = absurd (omega (arith, before))
of_distinct (x ∷ xs) h zero (suc j) d before within = λ e. h.0 (subst (λ y. In y xs) (sym e) (in_place xs j d (omega (arith, within))))
of_distinct (x ∷ xs) h (suc i) (suc j) d before within = of_distinct xs h.1 i j d (omega (arith, before)) (omega (arith, within))

snoc_from : {X : Type 0} (xs : List X) (k : X) → Distinct (xs ++ k ∷ []) → Distinct xs × (In k xs → ⊥)
snoc_from [] k h = (tt, λ i. i)
snoc_from (x ∷ xs) k h =
    let r = snoc_from xs k h.1 in (
      (λ i. h.0 (in_left xs (k ∷ []) x i), r.0),
      λ i. ⊎_elim (λ e. h.0 (subst (λ y. In y (xs ++ k ∷ [])) e (in_right xs (k ∷ []) k (inl refl)))) r.1 i,
    )

snoc_to : {X : Type 0} (xs : List X) (k : X) → Distinct xs → (In k xs → ⊥) → Distinct (xs ++ k ∷ [])
snoc_to [] k h new = (λ i. i, tt)
snoc_to (x ∷ xs) k h new = (
  λ i. ⊎_elim h.0 (λ j. new (inl (sym (of_one k x j)))) (in_cases xs (k ∷ []) x i),
  snoc_to xs k h.1 (λ i. new (inr i)),
)

-- ---- one choice more was tried

module _ (version : Version) (night : Night) (path : List Block) (cases : List Case) (best : ℕ) where
  abbrev pub Open : List Choice → List Child → Type 0
  Open tried children = AreOpen version night path cases best tried children

  none_tried : Open [] []
  none_tried = record { among = λ c i. i; each = λ c i. absurd i; others = λ k i. absurd i; once = λ h. h }

  pub closed_more : (tried : List Choice) (children : List Child) (k : Choice) → IsClosed version night path cases best k → Open tried children → Open (tried ++ k ∷ []) children
  closed_more tried children k closed h = record {
    among = λ c i. in_left tried (k ∷ []) (choice_of c.block) (h.among c i);
    each = h.each;
    others = λ j i. ⊎_elim (λ l. h.others j l) (λ r. inl (subst (IsClosed version night path cases best) (sym (of_one k j r)) closed)) (in_cases tried (k ∷ []) j i);
    once = λ d. h.once (of_distinct tried (snoc_from tried k (to_distinct (tried ++ k ∷ []) d)).0);
  }

  more_choices : (children : List Child) (c : Child) → choices_in (children ++ c ∷ []) ≡ choices_in children ++ choice_of c.block ∷ []
  more_choices children c = map-append (λ (x : Child). choice_of x.block) children (c ∷ [])

  pub of_choices : (children : List Child) (k : Choice) → In k (choices_in children) → (c : Child) × In c children × (k ≡ choice_of c.block)
  of_choices [] k i = absurd i
  of_choices (c ∷ children) k (inl e) = (c, inl refl, e)
  of_choices (c ∷ children) k (inr i) = let r = of_choices children k i in (r.0, inr r.1, r.2)

  pub open_more : (tried : List Choice) (children : List Child) (k : Choice) (c : Child) → choice_of c.block ≡ k → IsOpen version night path cases best c.block c.bound
      → Open tried children → Open (tried ++ k ∷ []) (children ++ c ∷ [])
  open_more tried children k c e fits h = record {
    among = λ x i. ⊎_elim
        (λ l. in_left tried (k ∷ []) (choice_of x.block) (h.among x l))
        (λ r. in_right tried (k ∷ []) (choice_of x.block) (inl (ap (λ (y : Child). choice_of y.block) (of_one c x r) ∙ e)))
        (in_cases children (c ∷ []) x i);
    each = λ x i. ⊎_elim (λ l. h.each x l) (λ r. subst (λ (y : Child). IsOpen version night path cases best y.block y.bound) (sym (of_one c x r)) fits)
        (in_cases children (c ∷ []) x i);
    others = λ j i. ⊎_elim
        (λ l. ⊎_elim (λ closed. inl closed) (λ there. inr (subst (λ (l : List Choice). In j l) (sym (more_choices children c))
        (in_left (choices_in children) (choice_of c.block ∷ []) j there))) (h.others j l))
        (λ r. inr (subst (λ (l : List Choice). In j l) (sym (more_choices children c)) (in_right (choices_in children) (choice_of c.block ∷ []) j (inl (of_one k j r ∙ sym e)))))
        (in_cases tried (k ∷ []) j i);
    once = λ d.
        let r = snoc_from tried k (to_distinct (tried ++ k ∷ []) d) in
        subst (λ (l : List Choice). AreDistinct l) (sym (more_choices children c))
        (of_distinct (choices_in children ++ choice_of c.block ∷ []) (snoc_to (choices_in children) (choice_of c.block)
        (to_distinct (choices_in children) (h.once (of_distinct tried r.0)))
        (λ there. let at = of_choices children (choice_of c.block) there in r.1 (subst (λ (x : Choice). In x tried) (sym at.2 ∙ e) (h.among at.0 at.1)))));
  }

  -- a list of next blocks of which one more was tried
  pub tried_more : (blocks : List Block) (k : ℕ) (d : Block) → k < length blocks → (old new : List Child) → IsTried version night path cases best (get_or blocks k d) old new
      → Open (map choice_of (take k blocks)) old → Open (map choice_of (take (k + 1) blocks)) new
  tried_more blocks k d lt old new is h =
      let more : map choice_of (take (k + 1) blocks) ≡ map choice_of (take k blocks) ++ choice_of (get_or blocks k d) ∷ [] =
      ap (λ (l : List Block). map choice_of l) (take_more blocks k d lt) ∙ map-append choice_of (take k blocks) (get_or blocks k d ∷ []) in
      subst (λ (l : List Choice). Open l new) (sym more) (⊎_elim
      (λ closed. subst (λ (l : List Child). Open (map choice_of (take k blocks) ++ choice_of (get_or blocks k d) ∷ []) l) (sym closed.1)
      (closed_more (map choice_of (take k blocks)) old (choice_of (get_or blocks k d)) closed.0 h))
      (λ found. subst (λ (l : List Child). Open (map choice_of (take k blocks) ++ choice_of (get_or blocks k d) ∷ []) l) (sym found.3)
      (open_more (map choice_of (take k blocks)) old (choice_of (get_or blocks k d)) found.0 (ap choice_of found.1) found.2 h))
      is)

  pub none_tried_yet : (now : List Child) → now ≡ [] → Open [] now
  none_tried_yet now e = subst (λ (l : List Child). Open [] l) (sym e) none_tried

  pub tried_all : (blocks : List Block) (k : ℕ) (now : List Child) → length blocks ≤ k → Open (map choice_of (take k blocks)) now → Open (map choice_of blocks) now
  tried_all blocks k now le h = subst (λ (l : List Block). Open (map choice_of l) now) (take_all k blocks le) h

  -- where these are the blocks of all choices, the open ones are the children
  pub are_children : (choices : List Choice) (now : List Child) → ((k : Choice) → In k choices ↔ IsChoiceAt night path k) → AreDistinct choices → Open choices now
      → AreChildren version night path cases best now
  are_children choices now members once h = record {
    each = h.each;
    others = λ k at. h.others k ((members k).1 at);
    once = h.once once;
  }

  pub are_next : (blocks : List Block) (choices : List Choice) → ((k : Choice) → In k choices ↔ IsChoiceAt night path k) → map choice_of blocks ≡ choices
      → All (λ b. b.id ≡ length path + 1) blocks → All (IsNextBlock night path) blocks
  are_next blocks choices members e ids = to_all (IsNextBlock night path) blocks (λ b i. record {
    choice = (members (choice_of b)).0 (subst (λ (l : List Choice). In (choice_of b) l) e (in_map choice_of blocks b i));
    id = of_all (λ x. x.id ≡ length path + 1) blocks b ids i;
  })

-- ---- the choices at a path differ

pub choices_differ : (night : Night) (path : List Block) → ((covered : Masks) (u : ℕ) → u < unit_total night → AreDistinct (choices_of night covered u))
    → AreDistinct (choices_at night path)
choices_differ night path law = at (next_of (masks_of night path)) refl
  where
    at : (o : Option ℕ) → next_of (masks_of night path) ≡ o → AreDistinct (choices_where night (masks_of night path) o)
    at None e = λ i j d before within. absurd (omega (arith, within))
    at (Some u) e = law (masks_of night path) u (next_in night path u e)

-- ---- the blocks of shapes and options

abbrev pub with_shape : Shape → Option Park → Choice
with_shape s o = record { shape = s; option = o }

pub next_option : (s : Shape) (o : Option Park) (left rest : List (Option Park)) (xs ys : List Block) (b : Block) (all : List Choice) → left ≡ o ∷ rest → ys ≡ xs ++ b ∷ []
    → choice_of b ≡ with_shape s o
    → map choice_of xs ++ map (with_shape s) left ≡ all → map choice_of ys ++ map (with_shape s) rest ≡ all
next_option s o left rest xs ys b all l e is h =
    ap (λ (x : List Block). map choice_of x ++ map (with_shape s) rest) e
    ∙ ap (λ (x : List Choice). x ++ map (with_shape s) rest) (map-append choice_of xs (b ∷ []))
    ∙ append_assoc (map choice_of xs) (choice_of b ∷ []) (map (with_shape s) rest)
    ∙ ap (λ (k : Choice). map choice_of xs ++ k ∷ map (with_shape s) rest) is
    ∙ ap (λ (x : List (Option Park)). map choice_of xs ++ map (with_shape s) x) (sym l)
    ∙ h

pub last_option : (s : Shape) (left : List (Option Park)) (xs : List Block) (all : List Choice) → left ≡ [] → map choice_of xs ++ map (with_shape s) left ≡ all
    → map choice_of xs ≡ all
last_option s left xs all l h = sym (append-nil (map choice_of xs)) ∙ ap (λ (x : List (Option Park)). map choice_of xs ++ map (with_shape s) x) (sym l) ∙ h

pub next_shape : (night : Night) (s : Shape) (left rest : List Shape) (xs ys : List Block) (all : List Choice) → left ≡ s ∷ rest
    → map choice_of ys ≡ map choice_of xs ++ choices_with night s
    → map choice_of xs ++ flat_map (choices_with night) left ≡ all → map choice_of ys ++ flat_map (choices_with night) rest ≡ all
next_shape night s left rest xs ys all l e h =
    ap (λ (x : List Choice). x ++ flat_map (choices_with night) rest) e
    ∙ append_assoc (map choice_of xs) (choices_with night s) (flat_map (choices_with night) rest)
    ∙ ap (λ (x : List Choice). map choice_of xs ++ x) (sym (flat_map-cons (choices_with night) s rest))
    ∙ ap (λ (x : List Shape). map choice_of xs ++ flat_map (choices_with night) x) (sym l)
    ∙ h

pub last_shape : (night : Night) (path : List Block) (u : ℕ) (left : List Shape) (xs : List Block) → next_of (masks_of night path) ≡ Some u → left ≡ []
    → map choice_of xs ++ flat_map (choices_with night) left ≡ flat_map (choices_with night) (shapes_of night (masks_of night path) u) → map choice_of xs ≡ choices_at night path
last_shape night path u left xs next l h =
    sym (append-nil (map choice_of xs)) ∙ ap (λ (x : List Shape). map choice_of xs ++ flat_map (choices_with night) x) (sym l) ∙ h
    ∙ ap (λ (o : Option ℕ). choices_where night (masks_of night path) o) (sym next)

pub no_shapes : (night : Night) (path xs : List Block) → next_of (masks_of night path) ≡ None → xs ≡ [] → map choice_of xs ≡ choices_at night path
no_shapes night path xs next e = ap (λ (x : List Block). map choice_of x) e ∙ ap (λ (o : Option ℕ). choices_where night (masks_of night path) o) (sym next)

pub one_more : {X : Type 0} (P : X → Type 0) (xs ys : List X) (x : X) → ys ≡ xs ++ x ∷ [] → All P xs → P x → All P ys
one_more {X} P xs ys x e all p = subst (λ (l : List X). All P l) (sym e) (All-append P xs (x ∷ []) all (All-cons P x [] p (All-nil P)))

pub masks_are : (night : Night) (t : Trail) (m : Masks) → IsTrailOf night t → m ≡ t.covered → AreMasksOf night m
masks_are night t m of e = subst (λ (w : Masks). AreMasksOf night w) (sym (e ∙ of.covered)) (record { units = length_units night t.blocks; places = length_places night t.blocks })

pub none_yet : {X : Type 0} (P : X → Type 0) (xs : List X) → xs ≡ [] → All P xs
none_yet {X} P xs e = subst (λ (l : List X). All P l) (sym e) (All-nil P)
