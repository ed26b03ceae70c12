-- Nodes that were kept are noted again, and the search has come to them.
use Rattle.std.specs.Prelude.{take, drop, Option, Some, None, IfSome, sum_by}
use Rattle.std.proofs.Common.{◌≡◌, ◌↔◌, ℕ, ◌+◌, ◌<◌, ◌≤◌, List, [], ◌∷◌, ◌++◌, length, get_or, refl, sym, subst, ap, ◌∙◌, arith}
use Rattle.std.proofs.lemmas.List.{take_all, take_more, take-append-drop}
use Rattle.std.proofs.lemmas.List.Sums.{sum_by-append, sum_by-cons}
use Rattle.shunt_store.specs.defs.Files.{BothTold}
use Rattle.shunt_base.specs.declared.duals.Case.{Case}
use Rattle.shunt_instance.specs.defs.Instance.{Night}
use Rattle.shunt_blocks.specs.declared.records.Block.{Block}
use Rattle.shunt_proof.specs.declared.records.Node.{Node}
use Rattle.shunt_proof.specs.declared.records.Version.{Version}
use Rattle.shunt_proof.specs.defs.Nodes.{FitsNode, AreNodes, CanFollow}
use Rattle.shunt_proof.specs.defs.Certificates.{own_cases, case_total}
use Rattle.shunt_search.specs.declared.search_state.Search.{Search}
use Rattle.shunt_search.specs.defs.SearchStates.{IsSearch}

-- what the laws of the crates below say
pub record KeepLaws : Type 0 where
  pub exactly : (night : Night) (nodes : List Node) (n : Node) → AreNodes night (nodes ++ n ∷ []) ↔ (AreNodes night nodes × FitsNode night n × CanFollow nodes n)
  pub front : (night : Night) (nodes more : List Node) → AreNodes night (nodes ++ more) → AreNodes night nodes

module _ (laws : KeepLaws) (night : Night) (nodes : List Node) (h : AreNodes night nodes) (k : ℕ) (n : Node) (lt : k < length nodes) (is : n ≡ get_or nodes k n) where
  more : take (k + 1) nodes ≡ take k nodes ++ n ∷ []
  more = take_more nodes k n lt ∙ ap (λ (x : Node). take k nodes ++ x ∷ []) (sym is)

  whole : nodes ≡ take (k + 1) nodes ++ drop (k + 1) nodes
  whole = sym (take-append-drop (k + 1) nodes)

  follows : AreNodes night (take k nodes) × FitsNode night n × CanFollow (take k nodes) n
  follows = (laws.exactly night (take k nodes) n).0 (subst (λ (l : List Node). AreNodes night l) more
      (laws.front night (take (k + 1) nodes) (drop (k + 1) nodes) (subst (λ (l : List Node). AreNodes night l) whole h)))

  pub its_fit : FitsNode night n
  its_fit = follows.1

  pub its_place : (told : Option (List Node)) → IfSome told (λ l. l ≡ take k nodes) → IfSome told (λ l. CanFollow l n)
  its_place None told = tt
  its_place (Some l) told = subst (λ (x : List Node). CanFollow x n) (sym told) follows.2

  pub its_cases : case_total (take (k + 1) nodes) ≡ case_total (take k nodes) + own_cases n.duals
  its_cases =
      let sum = sum_by-append (λ (x : Node). own_cases x.duals) (take k nodes) (n ∷ []) in
      let one = sum_by-cons (λ (x : Node). own_cases x.duals) n [] in
      let none : sum_by (λ (x : Node). own_cases x.duals) [] ≡ 0 = refl in
      let all : case_total (take (k + 1) nodes) ≡ case_total (take k nodes ++ n ∷ []) = ap (λ (l : List Node). case_total l) more in
      omega (arith, sum, one, none, all)

  pub its_room : case_total nodes ≤ 8000 → case_total (take k nodes) + own_cases n.duals ≤ 8000
  its_room few =
      let sum = sum_by-append (λ (x : Node). own_cases x.duals) (take (k + 1) nodes) (drop (k + 1) nodes) in
      let all : case_total nodes ≡ case_total (take (k + 1) nodes ++ drop (k + 1) nodes) = ap (λ (l : List Node). case_total l) whole in
      let own = its_cases in
      omega (arith, few, sum, all, own)

  pub told_next : (old told now : Option (List Node)) → BothTold old told (λ x y. y ≡ take k nodes) → BothTold told now (λ x y. y ≡ x ++ n ∷ [])
      → BothTold old now (λ x y. y ≡ take (k + 1) nodes)
  told_next None None None first second = tt
  told_next None None (Some z) first second = absurd second
  told_next None (Some y) now first second = absurd first
  told_next (Some x) None now first second = absurd first
  told_next (Some x) (Some y) None first second = absurd second
  told_next (Some x) (Some y) (Some z) first second = second ∙ ap (λ (l : List Node). l ++ n ∷ []) first ∙ sym more

pub told_first : (nodes : List Node) (old : Option (List Node)) → IfSome old (λ l. l ≡ []) → BothTold old old (λ x y. y ≡ take 0 nodes)
told_first nodes None is = tt
told_first nodes (Some x) is = is

pub told_here : (nodes : List Node) (k : ℕ) (old told : Option (List Node)) → BothTold old told (λ x y. y ≡ take k nodes) → IfSome told (λ l. l ≡ take k nodes)
told_here nodes k None None both = tt
told_here nodes k None (Some y) both = absurd both
told_here nodes k (Some x) None both = absurd both
told_here nodes k (Some x) (Some y) both = both

pub told_all : (nodes : List Node) (k : ℕ) (old told : Option (List Node)) → length nodes ≤ k → BothTold old told (λ x y. y ≡ take k nodes) → BothTold old told (λ x y. y ≡ nodes)
told_all nodes k old told le both = subst (λ (l : List Node). BothTold old told (λ x y. y ≡ l)) (take_all k nodes le) both

pub cases_all : (nodes : List Node) (k : ℕ) → length nodes ≤ k → case_total (take k nodes) ≡ case_total nodes
cases_all nodes k le = ap (λ (l : List Node). case_total l) (take_all k nodes le)

-- ---- a search has come to its nodes, whoever keeps them

told_kept : (told now : Option (List Node)) (nodes own : List Node) → nodes ≡ own → BothTold told now (λ old new. new ≡ nodes) → IfSome now (λ l. l ≡ own)
told_kept None None nodes own is both = tt
told_kept None (Some y) nodes own is both = absurd both
told_kept (Some x) None nodes own is both = absurd both
told_kept (Some x) (Some y) nodes own is both = both ∙ is

-- the same search for others who keep its nodes
pub told_otherwise : (version : Version) (night : Night) (pins : List Block) (stock : List (List Case)) (told now : Option (List Node)) (number owned count cases : ℕ) (s : Search)
    (S : IsSearch version night pins stock told number owned s.waiting.items s)
    → IfSome now (λ l. l ≡ S.nodes) → count ≡ number → cases ≡ owned → IsSearch version night pins stock now count cases s.waiting.items s
told_otherwise version night pins stock told now number owned count cases s S tells many own = record {
  start = S.start;
  nodes = S.nodes;
  usable = S.usable;
  even = S.even;
  begins = S.begins;
  stocked = S.stocked;
  rooted = S.rooted;
  lowest = S.lowest;
  floor = S.floor;
  base = S.base;
  walk = S.walk;
  steady = S.steady;
  high = S.high;
  tells = tells;
  many = many ∙ S.many;
  counted = S.counted ∙ sym many;
  cases = own ∙ S.cases;
  cases_counted = S.cases_counted ∙ sym own;
  room = let room = S.room in omega (arith, room, own);
  yard = S.yard;
  long = S.long;
  best = S.best;
  small = S.small;
  plain = S.plain;
}

pub kept : (version : Version) (night : Night) (pins : List Block) (stock : List (List Case)) (told now : Option (List Node)) (nodes : List Node) (number owned : ℕ) (s : Search)
    → IsSearch version night pins stock (Some nodes) (length nodes) (case_total nodes) s.waiting.items s
    → BothTold told now (λ old new. new ≡ nodes) → number ≡ length nodes → owned ≡ case_total nodes → IsSearch version night pins stock now number owned s.waiting.items s
kept version night pins stock told now nodes number owned s S both many own = told_otherwise version night pins stock (Some nodes) now (length nodes)
    (case_total nodes) number owned s S (told_kept told now nodes S.nodes S.tells both) many own

-- where the nodes are told, their number and that of their cases are theirs
pub of_told_nodes : (version : Version) (night : Night) (pins : List Block) (stock : List (List Case)) (nodes : List Node) (number owned : ℕ) (s : Search)
    → IsSearch version night pins stock (Some nodes) number owned s.waiting.items s
    → IsSearch version night pins stock (Some nodes) (length nodes) (case_total nodes) s.waiting.items s
of_told_nodes version night pins stock nodes number owned s S =
    told_otherwise version night pins stock (Some nodes) (Some nodes) number owned (length nodes) (case_total nodes) s S S.tells
    (ap (λ (l : List Node). length l) S.tells ∙ sym S.many) (ap (λ (l : List Node). case_total l) S.tells ∙ sym S.cases)

pub formed_nodes : (version : Version) (night : Night) (pins : List Block) (stock : List (List Case)) (nodes : List Node) (number owned : ℕ) (s : Search)
    → IsSearch version night pins stock (Some nodes) number owned s.waiting.items s → AreNodes night nodes
formed_nodes version night pins stock nodes number owned s S = subst (λ (l : List Node). AreNodes night l) (sym S.tells) S.walk.formed

-- the same of a list that has these nodes
pub in_list : (version : Version) (night : Night) (pins : List Block) (stock : List (List Case)) (list nodes : List Node) (s : Search) → list ≡ nodes
    → IsSearch version night pins stock (Some nodes) (length nodes) (case_total nodes) s.waiting.items s
    → IsSearch version night pins stock (Some list) (length list) (case_total list) s.waiting.items s
in_list version night pins stock list nodes s e S =
    subst (λ (l : List Node). IsSearch version night pins stock (Some l) (length l) (case_total l) s.waiting.items s) (sym e) S
