-- A stack's visits with a block more, and those in the table of the path.
use Rattle.std.specs.Prelude.{◌↔◌, not}
use Rattle.std.proofs.Common.{◌≡◌, ◌⊎◌, inl, inr, ⊎_elim, ℕ, true, List, [], ◌∷◌, ◌++◌, pos, refl, sym, subst, ap, ◌∙◌}
use Rattle.shunt_lists.specs.defs.Members.{In}
use Rattle.shunt_lists.proofs.Members.{in_left, in_right, in_cases, of_one, in_map, of_map, filter_from, filter_to}
use Rattle.shunt_base.specs.declared.duals.Case.{Case}
use Rattle.shunt_instance.specs.defs.Instance.{Night}
use Rattle.shunt_blocks.specs.declared.records.Block.{Block}
use Rattle.shunt_stacks.specs.defs.Stacks.{Stack, is_of, blocks_of}
use Rattle.shunt_stacks.specs.defs.Fillings.{gain}
use Rattle.shunt_stacks.specs.defs.Spans.{Span, AreOwn, AgreeWithin, IsOutside}
use Rattle.shunt_stacks.specs.defs.Numbers.{span_of, fixed_spans, free_spans, entry_number, leave_number, shares, apart_of}
use Rattle.shunt_recount.specs.declared.offers.Offer.{Offer}
use Rattle.shunt_recount.specs.declared.tables.Table.{Table}
use Rattle.shunt_recount.specs.defs.Moments.{fixed_of, free_of}
use Rattle.shunt_recount.specs.defs.Offers.{AreOffersOf, blocks_in, offer_spans}
use Rattle.shunt_recount.specs.defs.Places.{IsTableOf, IsBeside}
use Rattle.shunt_recount.proofs.Spanned.{same_spans}

abbrev pub fixed_at : Night → Stack → List Block → List Span
fixed_at night stack path = fixed_spans night (entry_number night) (leave_number night) (blocks_of stack path)

abbrev pub free_at : Night → Case → List Block → List Span
free_at night c blocks = free_spans night (entry_number night) (leave_number night) c blocks

abbrev pub bare_span : Night → Block → Span
bare_span night b = span_of night (entry_number night) (leave_number night) (λ z. pos 0) b

-- lists with the same members agree where the others do
pub same_agree : (fixed free xs ys others more : List Span) (x y : ℕ) → ((s : Span) → In s xs ↔ In s fixed) → ((s : Span) → In s ys ↔ In s free) →
    AgreeWithin fixed free others more x y → AgreeWithin xs ys others more x y
same_agree fixed free xs ys others more x y a b are = record {
  members = λ s from past. (
    λ i. (are.members s from past).0 (⊎_elim (λ l. inl ((a s).0 l)) (λ r. inr ((b s).0 r)) i),
    λ i. ⊎_elim (λ l. inl ((a s).1 l)) (λ r. inr ((b s).1 r)) ((are.members s from past).1 i),
  );
  same = λ s from lt. (λ i. (are.same s from lt).0 ((a s).0 i), λ i. (a s).1 ((are.same s from lt).1 i));
}

module _ (night : Night) (path : List Block) (b : Block) (stack : Stack) where
  fixed_kept : (s : Span) → In s (fixed_at night stack path) → In s (fixed_at night stack (path ++ b ∷ []))
  fixed_kept s i =
      let h = of_map (bare_span night) (blocks_of stack path) s i in
      let there = filter_from (λ (d : Block). is_of stack d.park) path h.0 h.1 in
      subst (λ (t : Span). In t (fixed_at night stack (path ++ b ∷ []))) (sym h.2)
      (in_map (bare_span night) (blocks_of stack (path ++ b ∷ [])) h.0
      (filter_to (λ (d : Block). is_of stack d.park) (path ++ b ∷ []) h.0 (in_left path (b ∷ []) h.0 there.0) there.1))

  fixed_only : (s : Span) → In s (fixed_at night stack (path ++ b ∷ [])) → In s (fixed_at night stack path) ⊎ (s ≡ bare_span night b)
  fixed_only s i =
      let h = of_map (bare_span night) (blocks_of stack (path ++ b ∷ [])) s i in
      let there = filter_from (λ (d : Block). is_of stack d.park) (path ++ b ∷ []) h.0 h.1 in
      ⊎_elim
      (λ l. inl (subst (λ (t : Span). In t (fixed_at night stack path)) (sym h.2)
      (in_map (bare_span night) (blocks_of stack path) h.0 (filter_to (λ (d : Block). is_of stack d.park) path h.0 l there.1))))
      (λ r. inr (h.2 ∙ ap (bare_span night) (of_one b h.0 r)))
      (in_cases path (b ∷ []) h.0 there.0)

  pub own_there : is_of stack b.park ≡ true → In (bare_span night b) (fixed_at night stack (path ++ b ∷ []))
  own_there own = in_map (bare_span night) (blocks_of stack (path ++ b ∷ [])) b
      (filter_to (λ (d : Block). is_of stack d.park) (path ++ b ∷ []) b (in_right path (b ∷ []) b (inl refl)) own)

  free_kept : (c : Case) (blocks : List Block) (s : Span) → In s (free_at night c (apart_of night b blocks)) → In s (free_at night c blocks)
  free_kept c blocks s i =
      let h = of_map (span_of night (entry_number night) (leave_number night) (gain night c)) (apart_of night b blocks) s i in
      let there = filter_from (λ (d : Block). not (shares night b d)) blocks h.0 h.1 in
      subst (λ (t : Span). In t (free_at night c blocks)) (sym h.2) (in_map (span_of night (entry_number night) (leave_number night) (gain night c)) blocks h.0 there.0)

  -- the table of the path is that of lists with one span less
  pub table_beside : (c : Case) (os : List Offer) → AreOffersOf night path c stack os → (t : Table) → IsTableOf (fixed_at night stack path) (offer_spans night os) 5760000 t →
      is_of stack b.park ≡ true → AreOwn (fixed_at night stack (path ++ b ∷ [])) (free_at night c (apart_of night b (blocks_in os))) →
      ((x y : ℕ) → IsOutside x y (bare_span night b) → AgreeWithin (fixed_at night stack path) (free_at night c (blocks_in os))
      (fixed_at night stack (path ++ b ∷ [])) (free_at night c (apart_of night b (blocks_in os))) x y) →
      IsBeside (fixed_of t.moments) (free_of t.moments) (fixed_at night stack (path ++ b ∷ [])) (free_at night c (apart_of night b (blocks_in os))) (bare_span night b)
  table_beside c os of t is own events agree =
      let same : offer_spans night os ≡ free_at night c (blocks_in os) = same_spans night c os of.gains in
      let free_same = λ (s : Span). subst (λ (l : List Span). In s (free_of t.moments) ↔ In s l) same (is.free_same s) in
      record {
        kept = λ s i. fixed_kept s ((is.fixed_same s).0 i);
        only = λ s i. ⊎_elim (λ l. inl ((is.fixed_same s).1 l)) (λ r. inr r) (fixed_only s i);
        own_there = own_there own;
        free_are = λ s i. (free_same s).1 (free_kept c (blocks_in os) s i);
        own_events = events;
        agree = λ x y out. same_agree (fixed_at night stack path) (free_at night c (blocks_in os)) (fixed_of t.moments) (free_of t.moments)
            (fixed_at night stack (path ++ b ∷ [])) (free_at night c (apart_of night b (blocks_in os))) x y is.fixed_same free_same (agree x y out);
      }
