-- What the records of a certificate state, a file can state.
use Rattle.std.proofs.Common.{◌≡◌, ◌≢◌, ◌⊎◌, ℕ, zero, suc, ◌+◌, ◌-◌, ◌<◌, ◌≤◌, ℤ, pos, Bool, true, false, List, [], ◌∷◌, ◌++◌, length, length-append, refl, ap, sym, subst, ◌∙◌, arith, ⊎_elim, inl, inr, get_or}
use Rattle.std.specs.Prelude.{Ok, ◌==◌, Option, Some, None, All, bytes_eq, ◌&&◌, neg_ℤ, int_lt, not, slice_get, if◌then◌else◌, codes}
use Rattle.std.specs.Option.{unwrap_or}
use Rattle.std.proofs.lemmas.Int.{ints}
use Rattle.std.proofs.lemmas.Bool.{ltb-true, leb-true, not-true, eqb-true, eq-eqb, and_parts, and_from, cases_lt, true≢false}
use Rattle.std.proofs.lemmas.Bool.Decides.{nat_tests}
use Rattle.std.proofs.lemmas.List.Elements.{All-nil, All-push}
use Rattle.std.proofs.lemmas.List.Sums.{sum_by-append, sum_by-cons}
use Rattle.shunt_lists.proofs.Lists.{no_pairs, all_one}
use Rattle.shunt_base.specs.declared.ids.ArrId.{ArrId}
use Rattle.shunt_base.specs.declared.ids.TrackId.{TrackId}
use Rattle.shunt_base.specs.declared.duals.Price.{Price}
use Rattle.shunt_base.specs.declared.duals.PriceKind.{PriceKind}
use Rattle.shunt_base.specs.declared.duals.PriceKind.TheVariants as counts
use Rattle.shunt_base.specs.declared.duals.Case.{Case}
use Rattle.shunt_base.specs.defs.Spelling.{decimal_of, signed_of}
use Rattle.shunt_rows.specs.defs.Records.{at}
use Rattle.shunt_rows.specs.defs.Checks.{AllHold, Judged, answer}
use Rattle.shunt_rows.specs.defs.Fields.{is_word, no_word}
use Rattle.shunt_rows.specs.defs.Formats.{in_state, reading}
use Rattle.shunt_rows.proofs.Answered.{says, hold_first}
use Rattle.shunt_rows.proofs.KeptStates.{all_kept}
use Rattle.shunt_rows.proofs.Named.{distinct_push}
use Rattle.shunt_rows.proofs.Spelled.{there, within}
use Rattle.shunt_instance.specs.defs.Instance.{Night, unit_total, position_total, arr_of_name, dep_of_name}
use Rattle.shunt_instance.specs.defs.Words.{track_of_name}
use Rattle.shunt_instance.proofs.Found.{track_within}
use Rattle.shunt_plan.specs.defs.BlockRecords.{option_in}
use Rattle.shunt_plan.proofs.Formed.{arr_within, dep_within, option_holds}
use Rattle.shunt_prices.specs.defs.Limits.{IsValue, IsPrice, ArePrices, AreApart, place_of_price, IsCase}
use Rattle.shunt_proof.specs.declared.records.Choice.{Choice}
use Rattle.shunt_proof.specs.declared.records.NodeKind.{NodeKind}
use Rattle.shunt_proof.specs.declared.records.NodeKind.TheVariants as shows
use Rattle.shunt_proof.specs.declared.records.NodeDuals.{NodeDuals}
use Rattle.shunt_proof.specs.declared.records.NodeDuals.TheVariants as duals
use Rattle.shunt_proof.specs.declared.records.Node.{Node}
use Rattle.shunt_proof.specs.declared.records.Certificate.{Certificate}
use Rattle.shunt_proof.specs.defs.Numbers.{newest, CanBeRead}
use Rattle.shunt_proof.specs.declared.heads.HeadDuals.{HeadDuals}
use Rattle.shunt_proof.specs.declared.heads.HeadDuals.TheVariants as words
use Rattle.shunt_proof.specs.declared.heads.Head.{Head}
use Rattle.shunt_proof.specs.declared.draft.LastRead.{LastRead}
use Rattle.shunt_proof.specs.declared.draft.LastRead.TheVariants as places
use Rattle.shunt_proof.specs.defs.Nodes.{FitsChoice, FitsDepth, AreStatable, FitDuals, FitsNode, Follows, StandsAfter, CanFollow, AreNodes}
use Rattle.shunt_proof.specs.defs.Certificates.{own_cases, case_total, IsCertificate}
use Rattle.shunt_proof.specs.defs.CertificateFormat as format
use Rattle.shunt_proof.specs.defs.CertificateFormat.{CertificateDraft, empty, is_value, value_in, values_in, same_kind, is_price, has_price, settled, ends_node, cases_of, node_of, with_head, with_node, kind_of, duals_of, deepest, certificate_format}
use Rattle.shunt_proof.proofs.LongerLists.{one_more}
use Rattle.shunt_proof.proofs.Numbers.{number_low}

-- ---- nodes

stands_same : (o : Option Node) (x y : Node) → x.depth ≡ y.depth → StandsAfter o x → StandsAfter o y
stands_same None x y same is = sym same ∙ is
stands_same (Some b) x y same f = record {
  some = subst (λ k. 1 ≤ k) same f.some;
  most = subst (λ k. k ≤ b.depth + 1) same f.most;
  branch = λ e. f.branch (same ∙ e);
}

-- a node's record that can stand behind these nodes
record IsHead (night : Night) (nodes : List Node) (h : Head) : Type 0 where
  depth : h.depth ≤ 160
  choice : FitsDepth night h.depth h.choice
  place : CanFollow nodes (node_of h duals.Bare)

-- with duals that fit it is a node that can stand there
head_node : (night : Night) (nodes : List Node) (h : Head) (own : NodeDuals) → IsHead night nodes h → FitDuals night h.depth h.kind own → AreNodes night nodes
    → AreNodes night (nodes ++ node_of h own ∷ [])
head_node night nodes h own is fits are =
    one_more night nodes (node_of h own) are (record { depth = is.depth; choice = is.choice; duals = fits })
    (stands_same (slice_get nodes (length nodes - 1)) (node_of h duals.Bare) (node_of h own) refl is.place)

-- the word of a node's duals goes with its kind and depth
abbrev FitsWord : NodeKind → ℕ → HeadDuals → Type 0
FitsWord kind depth words.Bare = kind ≡ shows.Whole
FitsWord kind depth words.Same = (kind ≢ shows.Whole) × (1 ≤ depth)
FitsWord kind depth words.New = kind ≢ shows.Whole

-- ---- what is true of the states

-- how many nodes and cases aren't whole yet
abbrev pending : LastRead → ℕ
pending places.Start = 0
pending places.Node = 0
pending places.New = 1
pending places.Case = 1
pending places.Alpha = 1
pending places.Beta = 1
pending places.End = 0

abbrev both : Option Case → ℕ
both None = 1
both (Some b) = 2

abbrev pending_cases : LastRead → Option Case → ℕ
pending_cases places.Start b = 0
pending_cases places.Node b = 0
pending_cases places.New b = 0
pending_cases places.Case b = both b
pending_cases places.Alpha b = both b
pending_cases places.Beta b = both b
pending_cases places.End b = 0

-- the case before one with this limit
abbrev FitsBefore : Night → ℕ → Option Case → Type 0
FitsBefore night to None = Unit {0}
FitsBefore night to (Some b) = IsCase night b × (AreApart b.duals.prices × ((b.to < 160) × (to ≡ 160)))

-- the last of these nodes has this record
record IsLast (nodes : List Node) (h : Head) : Type 0 where
  front : List Node
  last : Node
  is : nodes ≡ front ++ last ∷ []
  depth : h.depth ≡ last.depth
  kind : h.kind ≡ last.kind

-- a node is open behind these nodes
record IsOpen (night : Night) (d : CertificateDraft) : Type 0 where
  head : IsHead night d.nodes d.head
  kind : d.head.kind ≢ shows.Whole

-- a case has its limits
record IsLimited (night : Night) (d : CertificateDraft) : Type 0 where
  to : d.now.to ≤ 160
  multiplier : IsValue d.now.multiplier
  before : FitsBefore night d.now.to d.before

record IsValued (night : Night) (d : CertificateDraft) : Type 0 where
  many : length d.now.duals.alpha ≡ unit_total night
  each : All IsValue d.now.duals.alpha

abbrev Here : Night → CertificateDraft → LastRead → Type 0
Here night d places.Start = (d.nodes ≡ []) × (d.before ≡ None)
Here night d places.Node = IsLast d.nodes d.head × (d.before ≡ None)
Here night d places.New = IsOpen night d × (d.before ≡ None)
Here night d places.Case = IsOpen night d × (IsLimited night d × (d.now.duals.prices ≡ []))
Here night d places.Alpha = IsOpen night d × (IsLimited night d × (IsValued night d × (d.now.duals.prices ≡ [])))
Here night d places.Beta = IsOpen night d × (FitsBefore night d.now.to d.before × (IsCase night d.now × AreApart d.now.duals.prices))
Here night d places.End = (1 ≤ length d.nodes) × ((d.cost ≤ 1000000000000) × (d.bound ≤ 1000000000000))

record InPlace (night : Night) (d : CertificateDraft) (p : LastRead) : Type 0 where
  version : CanBeRead d.version
  nodes : AreNodes night d.nodes
  many : length d.nodes + pending p ≤ d.begun
  few : d.begun ≤ 5000
  cases : case_total d.nodes + pending_cases p d.before ≤ d.cases
  room : d.cases ≤ 8000
  here : Here night d p

abbrev IsDraft : Night → CertificateDraft → Type 0
IsDraft night d = InPlace night d d.place

-- ---- a node is added

total_more : (nodes : List Node) (x : Node) → case_total (nodes ++ x ∷ []) ≡ case_total nodes + own_cases x.duals
total_more nodes x = sum_by-append (λ (y : Node). own_cases y.duals) nodes (x ∷ [])
    ∙ ap (λ k. case_total nodes + k) (sum_by-cons (λ (y : Node). own_cases y.duals) x [] ∙ (let e : own_cases x.duals + 0 ≡ own_cases x.duals = omega arith in e))

-- nodes that are whole, before one more
record IsSettled (night : Night) (s : CertificateDraft) : Type 0 where
  version : CanBeRead s.version
  nodes : AreNodes night s.nodes
  many : length s.nodes ≤ s.begun
  cases : case_total s.nodes ≤ s.cases
  room : s.cases ≤ 8000
  before : s.before ≡ None

head_added : (night : Night) (s : CertificateDraft) (h : Head) (w : HeadDuals) → IsSettled night s → s.begun < 5000 → IsHead night s.nodes h → FitsWord h.kind h.depth w
    → IsDraft night (with_head s h w)
head_added night s h words.New is room head fits = record {
  version = is.version;
  nodes = is.nodes;
  many = (let m = is.many in omega (arith, m));
  few = omega (arith, room);
  cases = (let c = is.cases in omega (arith, c));
  room = is.room;
  here = (record { head = record { depth = head.depth; choice = head.choice; place = head.place }; kind = fits }, is.before);
}
head_added night s h words.Same is room head fits = record {
  version = is.version;
  nodes = head_node night s.nodes h duals.Same head fits is.nodes;
  many = (let m = is.many in omega (arith, m, length-append s.nodes (node_of h duals.Same ∷ [])));
  few = omega (arith, room);
  cases = (let c = is.cases in omega (arith, c, total_more s.nodes (node_of h duals.Same)));
  room = is.room;
  here = (record { front = s.nodes; last = node_of h duals.Same; is = refl; depth = refl; kind = refl }, is.before);
}
head_added night s h words.Bare is room head fits = record {
  version = is.version;
  nodes = head_node night s.nodes h duals.Bare head fits is.nodes;
  many = (let m = is.many in omega (arith, m, length-append s.nodes (node_of h duals.Bare ∷ [])));
  few = omega (arith, room);
  cases = (let c = is.cases in omega (arith, c, total_more s.nodes (node_of h duals.Bare)));
  room = is.room;
  here = (record { front = s.nodes; last = node_of h duals.Bare; is = refl; depth = refl; kind = refl }, is.before);
}

-- ---- the last node is made whole

all_two : {X : Type 0} (P : X → Type 0) (x y : X) → P x → P y → All P (x ∷ y ∷ [])
all_two P x y p q = All-push P (x ∷ []) y (all_one P x p) q

statable : (night : Night) (b : Option Case) (c : Case) → FitsBefore night c.to b → IsCase night c → AreApart c.duals.prices → c.to ≡ 160 → AreStatable night (cases_of b c)
statable night None c before is apart last = record {
  within = record {
    some = omega arith;
    few = omega arith;
    each = all_one (IsCase night) c is;
    rise = λ i j d lt small. absurd (omega (arith, lt, small));
    last = last;
  };
  apart = all_one (λ (x : Case). AreApart x.duals.prices) c apart;
}
statable night (Some b) c before is apart last = record {
  within = record {
    some = omega arith;
    few = omega arith;
    each = all_two (IsCase night) b c before.0 is;
    rise = rise;
    last = last;
  };
  apart = all_two (λ (x : Case). AreApart x.duals.prices) b c before.1.0 apart;
}
  where
    rise : (i j : ℕ) (d : Case) → i < j → j < 2 → (get_or (b ∷ c ∷ []) i d).to < (get_or (b ∷ c ∷ []) j d).to
    rise zero zero d lt small = absurd (omega (arith, lt))
    rise zero (suc zero) d lt small = let low = before.1.1.0 in omega (arith, low, last)
    rise zero (suc (suc j)) d lt small = absurd (omega (arith, small))
    rise (suc i) zero d lt small = absurd (omega (arith, lt))
    rise (suc i) (suc zero) d lt small = absurd (omega (arith, lt))
    rise (suc i) (suc (suc j)) d lt small = absurd (omega (arith, small))

both_cases : (b : Option Case) (c : Case) → length (cases_of b c) ≡ both b
both_cases None c = refl
both_cases (Some b) c = refl

-- the node of a case that was read whole
abbrev last_node : CertificateDraft → Node
last_node d = node_of d.head (duals.New (cases_of d.before d.now))

settled_as : (d : CertificateDraft) (p : LastRead) → d.place ≡ p → settled d ≡ (if ends_node p then record d {
  nodes = d.nodes
      ++ last_node d ∷ [];
  before = None;
  now = format.no_case;
} else d)
unfolding settled
settled_as d p e = ap (λ q. if ends_node q then record d { nodes = d.nodes ++ last_node d ∷ []; before = None; now = format.no_case } else d) e

-- nodes that are whole, of which the last has this record
record IsBehind (night : Night) (s : CertificateDraft) (h : Head) : Type 0 where
  settled : IsSettled night s
  last : IsLast s.nodes h

behind_node : (night : Night) (d : CertificateDraft) → d.place ≡ places.Node → InPlace night d places.Node → IsBehind night (settled d) d.head
behind_node night d e is = subst (λ s. IsBehind night s d.head) (sym (settled_as d places.Node e)) record {
  settled = record {
    version = is.version;
    nodes = is.nodes;
    many = (let m = is.many in omega (arith, m));
    cases = (let c = is.cases in omega (arith, c));
    room = is.room;
    before =
        is.here.1;
  };
  last = is.here.0;
}

behind_beta : (night : Night) (d : CertificateDraft) → d.place ≡ places.Beta → d.now.to ≡ 160 → InPlace night d places.Beta → IsBehind night (settled d) d.head
behind_beta night d e last is =
    let open_node = is.here.0 in
    let whole = statable night d.before d.now is.here.1.0 is.here.1.1.0 is.here.1.1.1 last in
    subst (λ s. IsBehind night s d.head) (sym (settled_as d places.Beta e)) record {
      settled = record {
        version = is.version;
        nodes = head_node night d.nodes d.head (duals.New (cases_of d.before d.now)) open_node.head (open_node.kind, whole) is.nodes;
        many = (let m = is.many in omega (arith, m, length-append d.nodes (last_node d ∷ [])));
        cases = (let c = is.cases in omega (arith, c, total_more d.nodes (last_node d), both_cases d.before d.now));
        room = is.room;
        before = refl;
      };
      last = record { front = d.nodes; last = last_node d; is = refl; depth = refl; kind = refl };
    }

-- ---- the next node

at_end : (front : List Node) (x : Node) → slice_get (front ++ x ∷ []) (length front) ≡ Some x
at_end [] x = refl
at_end (y ∷ front) x = at_end front x

last_found : (nodes front : List Node) (x : Node) → nodes ≡ front ++ x ∷ [] → slice_get nodes (length nodes - 1) ≡ Some x
last_found nodes front x e =
    ap (λ l. slice_get l (length l - 1)) e
    ∙ ap (slice_get (front ++ x ∷ [])) (let k : length (front ++ x ∷ []) - 1 ≡ length front = omega (arith, length-append front (x ∷ [])) in k)
    ∙ at_end front x

next_follows : (l h : Head) (last : Node) → l.depth ≡ last.depth → l.kind ≡ last.kind → 1 ≤ h.depth → h.depth ≤ deepest l → Follows last (node_of h duals.Bare)
next_follows l h last depth kind some deep = by l.kind refl deep
  where
    by : (k : NodeKind) → l.kind ≡ k → h.depth ≤ deepest (record l { kind = k }) → Follows last (node_of h duals.Bare)
    by shows.Branch e le = record { some = some; most = omega (arith, le, depth); branch = λ same. sym kind ∙ e }
    by shows.Leaf e le = record { some = some; most = omega (arith, le, depth); branch = λ same. absurd (omega (arith, le, depth, same)) }
    by shows.Whole e le = record { some = some; most = omega (arith, le, depth); branch = λ same. absurd (omega (arith, le, depth, same)) }

next_stands : (nodes : List Node) (l h : Head) → IsLast nodes l → 1 ≤ h.depth → h.depth ≤ deepest l → CanFollow nodes (node_of h duals.Bare)
next_stands nodes l h last some deep =
    subst (λ o. StandsAfter o (node_of h duals.Bare)) (sym (last_found nodes last.front last.last last.is)) (next_follows l h last.last last.depth last.kind some deep)

-- ---- words

whole_word : (b : Bool) (w : HeadDuals) → (if b then Some words.Bare else None) ≡ Some w → w ≡ words.Bare
whole_word true w e = cc
whole_word false w e = absurd cc

other_word : (a root b : Bool) (w : HeadDuals) → (if a then Some words.New else if not root && b then Some words.Same else None) ≡ Some w
    → (w ≡ words.New) ⊎ ((w ≡ words.Same) × (root ≡ false))
other_word true root b w e = inl cc
other_word false false true w e = inr (cc, refl)
other_word false false false w e = absurd cc
other_word false true b w e = absurd cc

not_root : (depth : ℕ) → (depth == 0) ≡ false → 1 ≤ depth
not_root depth e = grind (arith, nat_tests)

word_fits : (kind : NodeKind) (depth : ℕ) (text : List ℕ) (w : HeadDuals) → duals_of kind depth text ≡ Some w → FitsWord kind depth w
unfolding duals_of
word_fits shows.Whole depth text w e = subst (FitsWord shows.Whole depth) (sym (whole_word (bytes_eq text (codes "none")) w e)) refl
word_fits shows.Branch depth text w e = ⊎_elim
    (λ new. subst (FitsWord shows.Branch depth) (sym new) (λ same. cc))
    (λ p. subst (FitsWord shows.Branch depth) (sym p.0) ((λ same. cc), not_root depth p.1))
    (other_word (bytes_eq text (codes "new")) (depth == 0) (bytes_eq text (codes "same")) w e)
word_fits shows.Leaf depth text w e = ⊎_elim
    (λ new. subst (FitsWord shows.Leaf depth) (sym new) (λ same. cc))
    (λ p. subst (FitsWord shows.Leaf depth) (sym p.0) ((λ same. cc), not_root depth p.1))
    (other_word (bytes_eq text (codes "new")) (depth == 0) (bytes_eq text (codes "same")) w e)

-- ---- records of nodes

root_holds : (n : ℕ) (night : Night) (d t : CertificateDraft) (row : List (List ℕ)) → d.place ≡ places.Start → InPlace night d places.Start → answer n (format.root_of d row) ≡ Ok t
    → IsDraft night t
unfolding format.root_of format.root_in with_node
root_holds n night d t row e is a =
    let s = says n (format.root_of d row) t a in
    let h = s.0 in
    let room = h.1.0 in
    let depth = h.1.1.1.0 in
    let head = unwrap_or (decimal_of (at row 2)) 0 in
    let range = within 0 0 head depth in
    let root : head ≡ 0 = (let le = range.1 in omega (arith, le)) in
    let kind = unwrap_or (kind_of (at row 3)) shows.Whole in
    let own = unwrap_or (duals_of kind head (at row 4)) words.Bare in
    let made : Head = record { depth = head; choice = None; kind = kind; duals = own } in
    let fits = word_fits kind head (at row 4) own (there words.Bare (duals_of kind head (at row 4)) h.1.1.1.1.1.0) in
    let same = settled_as d places.Start e in
    let settled_now : IsSettled night (settled d) = subst (IsSettled night) (sym same)
    record {
      version = is.version;
      nodes = is.nodes;
      many = (let m = is.many in omega (arith, m));
      cases = (let c = is.cases in omega (arith, c));
      room = is.room;
      before =
          is.here.1;
    } in
    let stands : CanFollow (settled d).nodes (node_of made duals.Bare) = subst (λ (x : CertificateDraft). CanFollow x.nodes (node_of made duals.Bare)) (sym same)
    (subst (λ l. CanFollow l (node_of made duals.Bare)) (sym is.here.0) root) in
    let small : (settled d).begun < 5000 = subst (λ (x : CertificateDraft). x.begun < 5000) (sym same) (ltb-true d.begun 5000 room) in
    subst (IsDraft night) s.1 (head_added night (settled d) made own settled_now small (record { depth = omega (arith, root); choice = root; place = stands }) fits)

child_holds : (n : ℕ) (night : Night) (d t : CertificateDraft) (row : List (List ℕ)) → IsBehind night (settled d) d.head → (settled d).begun ≡ d.begun
    → answer n (format.child_of night d row) ≡ Ok t → IsDraft night t
unfolding format.child_of format.child_in format.later_in with_node
child_holds n night d t row is same a =
    let s = says n (format.child_of night d row) t a in
    let option = option_in night.station row 8 in
    let h = s.0 in
    let room = h.1.0 in
    let depth = h.1.1.1.0 in
    let head = unwrap_or (decimal_of (at row 2)) 0 in
    let range = within 1 160 head depth in
    let deep = leb-true head (deepest d.head) h.1.1.1.1.0 in
    let kind = unwrap_or (kind_of (at row 3)) shows.Whole in
    let own = unwrap_or (duals_of kind head (at row 4)) words.Bare in
    let fits = word_fits kind head (at row 4) own (there words.Bare (duals_of kind head (at row 4)) h.1.1.1.1.1.1.0) in
    let units = h.1.1.1.1.1.1.1 in
    let dep = units.1.1 in
    let place = dep.1 in
    let c : Choice = record {
      n = unwrap_or (decimal_of (at row 5)) 0;
      dep = unwrap_or (dep_of_name night (at row 6)) (record { 0 = 0 });
      q = unwrap_or
          (decimal_of (at row 7)) 0;
      park = option.value;
    } in
    let made : Head = record { depth = head; choice = Some c; kind = kind; duals = own } in
    let few = within 1 8 c.n units.1.0 in
    let from = within 1 8 c.q place.1.0 in
    let choice : FitsChoice night c = record {
      some = few.0;
      few = few.1;
      dep = dep_within night (at row 6) c.dep (there (record { 0 = 0 }) (dep_of_name night (at row 6)) dep.0);
      from = from.0;
      to = from.1;
      track = option_holds night.station row 8 (hold_first option.checks [] (hold_first (option.checks ++ []) [] place.1.1));
    } in
    subst (IsDraft night) s.1 (head_added night (settled d) made own is.settled (subst (λ k. k < 5000) (sym same) (ltb-true d.begun 5000 room))
    (record { depth = range.1; choice = (range.0, choice); place = next_stands (settled d).nodes d.head made is.last range.0 deep }) fits)

-- ---- records of cases

value_is : (z : ℤ) → is_value z ≡ true → IsValue z
unfolding is_value
value_is z e =
    let p = and_parts (not (int_lt z (neg_ℤ (pos 999999999999)))) (not (int_lt (pos 999999999999) z)) e in
    let low = p.0 in
    let high = p.1 in
    record { low = grind (arith, ints); high = grind (arith, ints) }

first_case_holds : (n : ℕ) (night : Night) (d t : CertificateDraft) (row : List (List ℕ)) → InPlace night d places.New → answer n (format.first_case_of d row) ≡ Ok t
    → IsDraft night t
unfolding format.first_case_of format.first_limits_in
first_case_holds n night d t row is a =
    let s = says n (format.first_case_of d row) t a in
    let h = s.0 in
    let to = within 0 160 (unwrap_or (decimal_of (at row 2)) 0) h.1.1.1.0 in
    let value = value_is (unwrap_or (signed_of (at row 3)) (pos 0)) h.1.1.1.1.1.0 in
    let room = ltb-true d.cases 8000 h.1.0 in
    let none = is.here.1 in
    subst (IsDraft night) s.1 record {
      version = is.version;
      nodes = is.nodes;
      many = is.many;
      few = is.few;
      cases = (let c = is.cases in omega (arith, c, ap both none));
      room = omega (arith, room);
      here = (
        record { head = record { depth = is.here.0.head.depth; choice = is.here.0.head.choice; place = is.here.0.head.place }; kind = is.here.0.kind },
        (record { to = to.1; multiplier = value; before = subst (FitsBefore night (unwrap_or (decimal_of (at row 2)) 0)) (sym none) tt }, refl),
      );
    }

second_case_holds : (n : ℕ) (night : Night) (d t : CertificateDraft) (row : List (List ℕ)) → InPlace night d places.Beta → d.before ≡ None → d.now.to ≢ 160
    → answer n (format.second_case_of d row) ≡ Ok t → IsDraft night t
unfolding format.second_case_of format.second_limits_in
second_case_holds n night d t row is none early a =
    let s = says n (format.second_case_of d row) t a in
    let h = s.0 in
    let to = within 160 160 (unwrap_or (decimal_of (at row 2)) 0) h.1.1.1.0 in
    let last : unwrap_or (decimal_of (at row 2)) 0 ≡ 160 = omega (arith, to) in
    let value = value_is (unwrap_or (signed_of (at row 3)) (pos 0)) h.1.1.1.1.1.0 in
    let room = ltb-true d.cases 8000 h.1.0 in
    let now = is.here.1.1 in
    let low = now.0.to in
    subst (IsDraft night) s.1 record {
      version = is.version;
      nodes = is.nodes;
      many = is.many;
      few = is.few;
      cases = (let c = is.cases in omega (arith, c, ap both none));
      room = omega (arith, room);
      here = (
        record { head = record { depth = is.here.0.head.depth; choice = is.here.0.head.choice; place = is.here.0.head.place }; kind = is.here.0.kind },
        (record { to = to.1; multiplier = value; before = (now.0, (now.1, (below low early, last))) }, refl),
      );
    }
  where
    below : d.now.to ≤ 160 → d.now.to ≢ 160 → d.now.to < 160
    below le ne = ⊎_elim (λ lt. lt) (λ ge. absurd (ne (omega (arith, le, ge)))) (cases_lt d.now.to 160)

no_before : (night : Night) (to : ℕ) (o : Option Case) → FitsBefore night to o → to ≢ 160 → o ≡ None
no_before night to None fits early = refl
no_before night to (Some b) fits early = absurd (early fits.1.1.1)

all_more : {X : Type 0} (P : X → Type 0) (x : X) (xs : List X) → P x → All P xs → All P (x ∷ xs)
all_more P x xs p all zero d lt = p
all_more P x xs p all (suc k) d lt = all k d (omega (arith, lt))

-- values that are read are within their limits, and as many as were asked for
values_hold : (row : List (List ℕ)) (k more : ℕ) → AllHold (values_in row k more).checks → (length (values_in row k more).value ≡ more) × All IsValue (values_in row k more).value
unfolding values_in
values_hold row k zero h = (refl, All-nil IsValue)
values_hold row k (suc more) h =
    let rest = values_in row (k + 1) more in
    let p = values_hold row (k + 1) more (hold_first rest.checks [] h.1.1) in
    (ap suc p.0, all_more IsValue (value_in row k).value rest.value (value_is (value_in row k).value h.1.0) p.1)

abbrev values_read : List (List ℕ) → ℕ → List ℤ
values_read row more = (values_in row 2 more).value

opened_as : (night : Night) (d t : CertificateDraft) → d.nodes ≡ t.nodes → d.head ≡ t.head → IsOpen night d → IsOpen night t
opened_as night d t nodes head is = record {
  head = subst (λ l. IsHead night l t.head) nodes (subst (IsHead night d.nodes) head is.head);
  kind = subst (λ (h : Head). h.kind ≢ shows.Whole) head is.kind;
}

alpha_holds : (n : ℕ) (night : Night) (d t : CertificateDraft) (row : List (List ℕ)) → InPlace night d places.Case → answer n (format.alpha_of night d row) ≡ Ok t → IsDraft night t
unfolding format.alpha_of format.alpha_in
alpha_holds n night d t row is a =
    let s = says n (format.alpha_of night d row) t a in
    let read = values_in row 2 (unit_total night) in
    let v = values_hold row 2 (unit_total night) (hold_first read.checks [] s.0.1) in
    let limits = is.here.1.0 in
    subst (IsDraft night) s.1 record {
      version = is.version;
      nodes = is.nodes;
      many = is.many;
      few = is.few;
      cases = is.cases;
      room = is.room;
      here = (
        opened_as night d (format.with_alpha d read.value) refl refl is.here.0,
        (record { to = limits.to; multiplier = limits.multiplier; before = limits.before }, (record { many = v.0; each = v.1 }, is.here.1.1)),
      );
    }

lone_alpha_holds : (n : ℕ) (night : Night) (d t : CertificateDraft) (row : List (List ℕ)) → InPlace night d places.New → answer n (format.lone_alpha_of night d row) ≡ Ok t
    → IsDraft night t
unfolding format.lone_alpha_of format.lone_alpha_in
lone_alpha_holds n night d t row is a =
    let s = says n (format.lone_alpha_of night d row) t a in
    let read = values_in row 2 (unit_total night) in
    let v = values_hold row 2 (unit_total night) (hold_first read.checks [] s.0.1.1) in
    let room = ltb-true d.cases 8000 s.0.1.0 in
    let none = is.here.1 in
    subst (IsDraft night) s.1 record {
      version = is.version;
      nodes = is.nodes;
      many = is.many;
      few = is.few;
      cases = (let c = is.cases in omega (arith, c, ap both none));
      room = omega (arith, room);
      here = (
        opened_as night d (format.with_lone d read.value) refl refl is.here.0,
        (
          record { to = omega arith; multiplier = record { low = omega (arith, ints); high = omega (arith, ints) }; before = subst (FitsBefore night 160) (sym none) tt },
          (record { many = v.0; each = v.1 }, refl),
        ),
      );
    }

beta_holds : (n : ℕ) (night : Night) (d t : CertificateDraft) (row : List (List ℕ)) → InPlace night d places.Alpha → answer n (format.beta_of night d row) ≡ Ok t → IsDraft night t
unfolding format.beta_of format.beta_in
beta_holds n night d t row is a =
    let s = says n (format.beta_of night d row) t a in
    let read = values_in row 2 (position_total night) in
    let v = values_hold row 2 (position_total night) (hold_first read.checks [] s.0.1) in
    let limits = is.here.1.0 in
    let alpha = is.here.1.1.0 in
    let none = is.here.1.1.1 in
    subst (IsDraft night) s.1 record {
      version = is.version;
      nodes = is.nodes;
      many = is.many;
      few = is.few;
      cases = is.cases;
      room = is.room;
      here = (
        opened_as night d (format.with_beta d read.value) refl refl is.here.0,
        (
          limits.before,
          (
            record {
              to = limits.to;
              multiplier = limits.multiplier;
              duals = record {
                alphas = alpha.many;
                betas = v.0;
                alphas_in = alpha.each;
                betas_in = v.1;
                prices = subst (ArePrices night) (sym none) (record { few = omega arith; each = All-nil (IsPrice night) });
              };
            },
            subst AreApart (sym none) (no_pairs (λ x y. x ≢ y)),
          ),
        ),
      );
    }

-- ---- prices

kind_same : (k : PriceKind) → same_kind k k ≡ true
kind_same counts.Length = refl
kind_same (counts.Parts r) = eq-eqb r r refl

price_same : (p y : Price) → place_of_price p ≡ place_of_price y → is_price y.kind y.track y.train p ≡ true
price_same p y e =
    let kind : p.kind ≡ y.kind = ap (λ x. x.0) e in
    let track : p.track ≡ y.track = ap (λ x. x.1.0) e in
    let train : p.train ≡ y.train = ap (λ x. x.1.1) e in
    and_from (same_kind p.kind y.kind && p.track.0 == y.track.0) (p.train.0 == y.train.0)
    (and_from (same_kind p.kind y.kind) (p.track.0 == y.track.0) (subst (λ k. same_kind p.kind k ≡ true) kind (kind_same p.kind))
    (eq-eqb p.track.0 y.track.0 (ap (λ (x : TrackId). x.0) track)))
    (eq-eqb p.train.0 y.train.0 (ap (λ (x : ArrId). x.0) train))

-- one more price of a case
price_added : (night : Night) (d : CertificateDraft) (price : Price) → InPlace night d places.Beta → length d.now.duals.prices < 64
    → has_price d.now.duals.prices price.kind price.track price.train ≡ false → IsPrice night price
    → InPlace night (format.with_price d price) places.Beta
unfolding has_price
price_added night d price is room new in_range =
    let now = is.here.1.1.0 in
    let prices = d.now.duals.prices in
    record {
      version = is.version;
      nodes = is.nodes;
      many = is.many;
      few = is.few;
      cases = is.cases;
      room = is.room;
      here = (
        opened_as night d (format.with_price d price) refl refl is.here.0,
        (
          is.here.1.0,
          (
            record {
              to = now.to;
              multiplier = now.multiplier;
              duals = record {
                alphas = now.duals.alphas;
                betas = now.duals.betas;
                alphas_in = now.duals.alphas_in;
                betas_in = now.duals.betas_in;
                prices = record { few = omega (arith, room, length-append prices (price ∷ [])); each = All-push (IsPrice night) prices price now.duals.prices.each in_range };
              };
            },
            distinct_push place_of_price (is_price price.kind price.track price.train) prices price (λ p e. price_same p price e) is.here.1.1.1 new,
          ),
        ),
      );
    }

placed_as : (night : Night) (d : CertificateDraft) → d.place ≡ places.Beta → InPlace night d places.Beta → IsDraft night d
placed_as night d e is = subst (InPlace night d) (sym e) is

price_holds : (n : ℕ) (night : Night) (d t : CertificateDraft) (row : List (List ℕ)) → d.place ≡ places.Beta → InPlace night d places.Beta
    → answer n (format.price_of night d row) ≡ Ok t
    → IsDraft night t
unfolding format.price_of format.price_in
price_holds n night d t row e is a =
    let s = says n (format.price_of night d row) t a in
    let h = s.0 in
    let price = (format.price_in night d.now.duals.prices row).value in
    subst (IsDraft night) s.1 (placed_as night (format.with_price d price) e (price_added night d price is (ltb-true (length d.now.duals.prices) 64 h.1.0) (not-true _ h.1.1.1.1.0)
    record {
      kind = tt;
      track = track_within night.station (at row 2) price.track (there (record { 0 = 0 }) (track_of_name night.station (at row 2)) h.1.1.0);
      train = arr_within night (at row 3) price.train (there (record { 0 = 0 }) (arr_of_name night (at row 3)) h.1.1.1.0);
      value = (within 0 1000000000 price.value h.1.1.1.1.1.1.0).1;
    }))

part_holds : (n : ℕ) (night : Night) (d t : CertificateDraft) (row : List (List ℕ)) → d.place ≡ places.Beta → InPlace night d places.Beta
    → answer n (format.part_of night d row) ≡ Ok t
    → IsDraft night t
unfolding format.part_of format.part_in
part_holds n night d t row e is a =
    let s = says n (format.part_of night d row) t a in
    let h = s.0 in
    let price = (format.part_in night d.now.duals.prices row).value in
    let parts = unwrap_or (decimal_of (at row 4)) 0 in
    subst (IsDraft night) s.1 (placed_as night (format.with_price d price) e (price_added night d price is (ltb-true (length d.now.duals.prices) 64 h.1.0)
    (not-true _ h.1.1.1.1.1.0) record {
      kind = within 1 8 parts h.1.1.1.1.1.1.0;
      track = track_within night.station (at row 2) price.track (there (record { 0 = 0 }) (track_of_name night.station (at row 2)) h.1.1.0);
      train = arr_within night (at row 3) price.train (there (record { 0 = 0 }) (arr_of_name night (at row 3)) h.1.1.1.0);
      value = (within 0 1000000000 price.value h.1.1.1.1.1.1.1.1.0).1;
    }))

-- ---- the end

last_some : (nodes : List Node) (h : Head) → IsLast nodes h → 1 ≤ length nodes
last_some nodes h last = omega (arith, ap length last.is, length-append last.front (last.last ∷ []))

end_holds : (n : ℕ) (night : Night) (d t : CertificateDraft) (row : List (List ℕ)) → IsBehind night (settled d) d.head → (settled d).begun ≡ d.begun → d.begun ≤ 5000
    → answer n (format.end_of d row) ≡ Ok t → IsDraft night t
unfolding format.end_of format.end_in format.with_end
end_holds n night d t row is same few a =
    let s = says n (format.end_of d row) t a in
    let h = s.0 in
    let cost = within 0 1000000000000 (unwrap_or (decimal_of (at row 2)) 0) h.1.1.0 in
    let bound = within 0 1000000000000 (unwrap_or (decimal_of (at row 3)) 0) h.1.1.1.1.0 in
    subst (IsDraft night) s.1 record {
      version = is.settled.version;
      nodes = is.settled.nodes;
      many = (let m = is.settled.many in omega (arith, m));
      few = omega (arith, few, same);
      cases = (let c = is.settled.cases in omega (arith, c));
      room = is.settled.room;
      here = (last_some (settled d).nodes d.head is.last, (cost.1, bound.1));
    }

-- ---- a later record

-- a choice of two records
in_or : {A : Type 0} (n : ℕ) (b : Bool) (m k : Judged A) (z : A) (P : Type 0) → (b ≡ true → answer n m ≡ Ok z → P) → (b ≡ false → answer n k ≡ Ok z → P)
    → answer n (if b then m else k) ≡ Ok z → P
in_or n true m k z P f g e = f refl e
in_or n false m k z P f g e = g refl e

no_word_holds : {A P : Type 0} (n : ℕ) (s z : A) → answer n (no_word s) ≡ Ok z → P
no_word_holds n s z e = absurd cc

pub kept_by : {X : Type 0} (b : Bool) (d e : CertificateDraft) (f : CertificateDraft → X) → f e ≡ f d → f (if b then e else d) ≡ f d
kept_by true d e f same = same
kept_by false d e f same = refl

pub settled_begun : (d : CertificateDraft) → (settled d).begun ≡ d.begun
unfolding settled
settled_begun d = kept_by (ends_node d.place) d _ (λ x. x.begun) refl

after_node_holds : (n : ℕ) (night : Night) (d t : CertificateDraft) (row : List (List ℕ)) → IsBehind night (settled d) d.head → d.begun ≤ 5000
    → answer n (format.after_node night d row) ≡ Ok t → IsDraft night t
unfolding format.after_node
after_node_holds n night d t row is few =
    in_or n (is_word row (codes "node")) _ _ t (IsDraft night t) (λ word. child_holds n night d t row is (settled_begun d))
    (λ other. in_or n (is_word row (codes "end")) _ _ t (IsDraft night t) (λ word. end_holds n night d t row is (settled_begun d) few) (λ none. no_word_holds n d t))

after_beta_holds : (n : ℕ) (night : Night) (d t : CertificateDraft) (row : List (List ℕ)) → d.place ≡ places.Beta → InPlace night d places.Beta
    → answer n (format.after_beta night d row) ≡ Ok t → IsDraft night t
unfolding format.after_beta format.after_case
after_beta_holds n night d t row e is =
    in_or n (is_word row (codes "price")) _ _ t (IsDraft night t) (λ word. price_holds n night d t row e is)
    (λ other. in_or n (is_word row (codes "part")) _ _ t (IsDraft night t) (λ word. part_holds n night d t row e is)
    (λ neither. in_or n (d.now.to == 160) _ _ t (IsDraft night t)
    (λ whole. after_node_holds n night d t row (behind_beta night d e (eqb-true d.now.to 160 whole) is) is.few)
    (λ early. in_or n (is_word row (codes "case")) _ _ t (IsDraft night t)
    (λ word. let ne : d.now.to ≢ 160 = (λ same. true≢false (sym (eq-eqb d.now.to 160 same) ∙ early)) in second_case_holds n night d t row is
    (no_before night d.now.to d.before is.here.1.0 ne) ne)
    (λ none. no_word_holds n d t))))

after_new_holds : (n : ℕ) (night : Night) (d t : CertificateDraft) (row : List (List ℕ)) → InPlace night d places.New → answer n (format.after_new night d row) ≡ Ok t
    → IsDraft night t
unfolding format.after_new
after_new_holds n night d t row is =
    in_or n (is_word row (codes "case")) _ _ t (IsDraft night t) (λ word. first_case_holds n night d t row is)
    (λ other. in_or n (is_word row (codes "alpha")) _ _ t (IsDraft night t) (λ word. lone_alpha_holds n night d t row is) (λ none. no_word_holds n d t))

place_holds : (n : ℕ) (night : Night) (d t : CertificateDraft) (row : List (List ℕ)) (p : LastRead) → d.place ≡ p → InPlace night d p
    → answer n (format.at_place night d p row) ≡ Ok t
    → IsDraft night t
place_holds n night d t row places.Start e is = in_or n (is_word row (codes "node")) _ _ t (IsDraft night t) (λ word. root_holds n night d t row e is) (λ none. no_word_holds n d t)
place_holds n night d t row places.Node e is = after_node_holds n night d t row (behind_node night d e is) is.few
place_holds n night d t row places.New e is = after_new_holds n night d t row is
place_holds n night d t row places.Case e is = in_or n (is_word row (codes "alpha")) _ _ t (IsDraft night t) (λ word. alpha_holds n night d t row is) (λ none. no_word_holds n d t)
place_holds n night d t row places.Alpha e is = in_or n (is_word row (codes "beta")) _ _ t (IsDraft night t) (λ word. beta_holds n night d t row is) (λ none. no_word_holds n d t)
place_holds n night d t row places.Beta e is = after_beta_holds n night d t row e is
place_holds n night d t row places.End e is = no_word_holds n d t

later_holds : (n : ℕ) (night : Night) (d t : CertificateDraft) (row : List (List ℕ)) → IsDraft night d → answer n (in_state (certificate_format night) d row) ≡ Ok t
    → IsDraft night t
unfolding format.later_of
later_holds n night d t row is = in_or n (format.ended d.place) _ _ t (IsDraft night t) (λ ends e. absurd cc) (λ goes. place_holds n night d t row d.place refl is)

first_holds : (night : Night) (t : CertificateDraft) (row : List (List ℕ)) → answer 1 (format.first_of row) ≡ Ok t → IsDraft night t
unfolding format.first_of format.version_in
first_holds night t row a =
    let s = says 1 (format.first_of row) t a in
    let h = s.0 in
    let number = unwrap_or (decimal_of (at row 2)) 0 in
    let range = within 1 newest number h.1.1.1.0 in
    let low = number_low number range.0 in
    subst (IsDraft night) s.1 record {
      version = omega (arith, low, range.1);
      nodes = record { each = All-nil (FitsNode night); root = λ lt. absurd (omega (arith, lt)); follow = λ k lt. absurd (omega (arith, lt)) };
      many = omega arith;
      few = omega arith;
      cases = omega arith;
      room = omega arith;
      here = (refl, refl);
    }

-- what is stated where no record is needed any more
ended_in_range : (night : Night) (d : CertificateDraft) (p : LastRead) → format.ended p ≡ true → InPlace night d p → IsCertificate night (format.certificate_of d)
ended_in_range night d places.End e is = record {
  some = is.here.0;
  few = (let m = is.many in let f = is.few in omega (arith, m, f));
  cases = (let c = is.cases in let r = is.room in omega (arith, c, r));
  version = is.version;
  nodes = is.nodes;
  cost = is.here.1.0;
  bound = is.here.1.1;
}
ended_in_range night d places.Start e is = absurd cc
ended_in_range night d places.Node e is = absurd cc
ended_in_range night d places.New e is = absurd cc
ended_in_range night d places.Case e is = absurd cc
ended_in_range night d places.Alpha e is = absurd cc
ended_in_range night d places.Beta e is = absurd cc

pub certificate_formed : (night : Night) (rows : List (List (List ℕ))) (c : Certificate) → reading (certificate_format night) rows ≡ Ok c → IsCertificate night c
certificate_formed night rows c e =
    let l = all_kept (certificate_format night) (IsDraft night) (first_holds night) (λ n d t row. later_holds n night d t row) rows c e in
    subst (IsCertificate night) l.value (ended_in_range night l.state l.state.place l.whole l.has)
