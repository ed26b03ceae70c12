-- The spans of a stack's pieces: their events are their own, and they gain little; and what the recursion over them tells.
use Rattle.std.specs.Prelude.{◌↔◌, Option, Some, Result, Ok, IfOk, All}
use Rattle.std.proofs.Common.{◌≡◌, inl, inr, ℕ, List, [], ◌∷◌, ℤ, pos, refl, sym, subst, ap, ◌∙◌, arith}
use Rattle.std.proofs.lemmas.Int.{ints}
use Rattle.shunt_lists.specs.defs.Members.{In}
use Rattle.shunt_lists.proofs.Members.{of_map, in_map, each_one, to_all as from_members}
use Rattle.shunt_base.specs.declared.duals.Case.{Case}
use Rattle.shunt_instance.specs.defs.Instance.{Night}
use Rattle.shunt_blocks.specs.declared.records.Block.{Block}
use Rattle.shunt_blocks.specs.defs.Shapes.{shape_of, IsWithinTrains}
use Rattle.shunt_choices.specs.defs.Paths.{masks_of}
use Rattle.shunt_prices.specs.defs.Cases.{IsFreeBlock}
use Rattle.shunt_prices.specs.defs.Sums.{IsWithin}
use Rattle.shunt_stacks.specs.defs.Stacks.{Stack, blocks_of}
use Rattle.shunt_stacks.specs.defs.Fillings.{gain}
use Rattle.shunt_stacks.specs.defs.Spans.{Span, best}
use Rattle.shunt_stacks.specs.defs.Numbers.{span_of, free_spans}
use Rattle.shunt_gains.specs.declared.numbers.Events.{Events}
use Rattle.shunt_gains.specs.declared.table.Table.{Table}
use Rattle.shunt_gains.specs.defs.Events.{entry_of, leave_of, events_in}
use Rattle.shunt_gains.specs.defs.Tables.{AreSmall, IsGain, IsTableOf, fixed_of, free_of, events_of}
use Rattle.shunt_fillings.specs.declared.candidates.Candidate.{Candidate}
use Rattle.shunt_fillings.specs.defs.Pieces.{blocks_in, AreCandidates, fixed_of_stack, span_with, spans_with}
use Rattle.shunt_blocks.proofs.Shapes.{on_track}

nothing : IsWithin 1000000000000000 (pos 0)
nothing = record { low = omega (arith, ints); high = omega (arith, ints) }

same_head : (s t : Span) (xs ys : List Span) → s ≡ t → xs ≡ ys → s ∷ xs ≡ t ∷ ys
same_head s t xs ys e f = ap (λ (r : Span). r ∷ xs) e ∙ ap (λ (zs : List Span). t ∷ zs) f

module _ (night : Night) (e : Events) (c : Case) where
  pub spans_same : (ks : List Candidate) → ((k : Candidate) → In k ks → k.gain ≡ gain night c k.block)
      → spans_with night e ks ≡ free_spans night (entry_of e) (leave_of e) c (blocks_in ks)
  spans_same [] h = refl
  spans_same (k ∷ ks) h = same_head (span_with night e k) (span_of night (entry_of e) (leave_of e) (gain night c) k.block) (spans_with night e ks)
      (free_spans night (entry_of e) (leave_of e) c (blocks_in ks))
      (ap (λ (z : ℤ). span_of night (entry_of e) (leave_of e) (λ b. z) k.block) (h k (inl refl)))
      (spans_same ks (λ d i. h d (inr i)))

  module _ (path : List Block) (stack : Stack) (ks : List Candidate) (are : AreCandidates night path c stack ks) where
    pub free_same : spans_with night e ks ≡ free_spans night (entry_of e) (leave_of e) c (blocks_in ks)
    free_same = spans_same ks are.gains

    pub all_small : AreSmall (fixed_of_stack night e path stack) (spans_with night e ks)
    all_small s (inl i) =
        let h = of_map (span_of night (entry_of e) (leave_of e) (λ b. pos 0)) (blocks_of stack path) s i in
        subst (λ (t : Span). IsWithin 1000000000000000 t.gain) (sym h.2) nothing
    all_small s (inr i) =
        let h = of_map (span_with night e) ks s i in
        subst (λ (t : Span). IsWithin 1000000000000000 t.gain) (sym h.2) (are.small h.0 h.1)

    pub little_gains : All (λ (k : Candidate). IsWithin 1000000000000000 k.gain) ks
    little_gains = from_members (λ (k : Candidate). IsWithin 1000000000000000 k.gain) ks are.small

    pub all_within : All (λ (k : Candidate). IsWithinTrains night k.block) ks
    all_within = from_members (λ (k : Candidate). IsWithinTrains night k.block) ks (λ k i.
        let h = each_one (λ (b : Block). IsFreeBlock night (masks_of night path) (shape_of b) b.park) (blocks_in ks) k.block are.free.free
        (in_map (λ (j : Candidate). j.block) ks k i) in
        record { runs = h.shape.shape.within; track = on_track night (shape_of k.block) k.block.park h.option })

-- a gain by the recursion, where that is told of others
pub gain_tells : (P : ℤ → Type 0) (n r events room : ℕ) (fixed free xs ys : List Span) (g : Option ℤ) → n ≡ events → r ≡ room → xs ≡ fixed → ys ≡ free → IsGain xs ys 0 n r g →
    ((most : ℤ) → (best events fixed free 0 events room ≡ Some most) ↔ P most) → (most : ℤ) → (g ≡ Some most) ↔ P most
gain_tells P n r events room fixed free xs ys g a b e f is law most =
    let first : IsGain fixed free 0 n r g = subst (λ (zs : List Span). IsGain fixed zs 0 n r g) f (subst (λ (zs : List Span). IsGain zs ys 0 n r g) e is) in
    let moved : IsGain fixed free 0 events room g = subst (λ (m : ℕ). IsGain fixed free 0 events m g) b (subst (λ (m : ℕ). IsGain fixed free 0 m r g) a first) in
    let same : g ≡ best events fixed free 0 events room = moved events (omega arith) in
    (λ h. (law most).0 (sym same ∙ h), λ p. same ∙ (law most).1 p)

pub ok_is : {X E : Type 0} (P : X → Type 0) (r : Result X E) (x : X) → r ≡ Ok x → IfOk r P → P x
ok_is P r x e h = subst (λ s. IfOk s P) e h

-- a table of these spans is one of the same
pub table_of : (xs ys fixed free : List Span) → xs ≡ fixed → ys ≡ free → (events : ℕ) (t : Table) → IsTableOf xs ys events t → IsTableOf fixed free events t
table_of xs ys fixed free a b events t is = subst (λ (zs : List Span). IsTableOf fixed zs events t) b (subst (λ (zs : List Span). IsTableOf zs ys events t) a is)

pub table_again : (xs ys : List Span) (events : ℕ) (t u : Table) → IsTableOf xs ys events t → IsTableOf (fixed_of t) (free_of t) (events_of t) u → IsTableOf xs ys events u
table_again xs ys events t u is next = record {
  table = next.table;
  fixed_same = next.fixed_same ∙ is.fixed_same;
  free_same = next.free_same ∙ is.free_same;
  events_same = next.events_same ∙ is.events_same;
}

-- what a table tells of a stack
pub gain_told : (P : ℤ → Type 0) (night : Night) (e : Events) (c : Case) (path : List Block) (stack : Stack) (ks : List Candidate) → AreCandidates night path c stack ks → (t : Table)
    → IsTableOf (fixed_of_stack night e path stack) (spans_with night e ks) (events_in e) t → (n r room : ℕ) → n ≡ events_in e → r ≡ room → (g : Option ℤ)
    → IsGain (fixed_of t) (free_of t) 0 n r g
    → ((most : ℤ) → (best (events_in e) (fixed_of_stack night e path stack) (free_spans night (entry_of e) (leave_of e) c (blocks_in ks)) 0 (events_in e) room ≡ Some most) ↔ P most)
    → (most : ℤ) → (g ≡ Some most) ↔ P most
gain_told P night e c path stack ks are t is n r room a b g gain law =
    gain_tells P n r (events_in e) room (fixed_of_stack night e path stack) (free_spans night (entry_of e) (leave_of e) c (blocks_in ks)) (fixed_of t) (free_of t) g a b
    is.fixed_same (is.free_same ∙ free_same night e c path stack ks are) gain law
