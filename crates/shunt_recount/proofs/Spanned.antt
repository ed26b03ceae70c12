-- What blocks and offers take of the events.
use Rattle.std.specs.Prelude.{All, cond, nat_lt}
use Rattle.std.proofs.Common.{◌≡◌, ◌⊎◌, inl, inr, ⊎_elim, ℕ, zero, suc, ◌+◌, ◌-◌, ◌<◌, ◌≤◌, List, [], ◌∷◌, ◌++◌, length, take, get_or, ℤ, pos, refl, sym, ap, subst, ◌∙◌, arith}
use Rattle.std.proofs.lemmas.Int.{ints}
use Rattle.std.proofs.lemmas.Bool.{cases_lt}
use Rattle.std.proofs.lemmas.Bool.Decides.{nat_tests}
use Rattle.std.proofs.lemmas.List.{map-append, take_more}
use Rattle.shunt_lists.specs.defs.Members.{In}
use Rattle.shunt_lists.proofs.Members.{in_map, of_map, filter_from, each_one, to_all as from_members}
use Rattle.shunt_base.specs.declared.duals.Case.{Case}
use Rattle.shunt_instance.specs.defs.Instance.{Night, unit_total}
use Rattle.shunt_blocks.specs.declared.records.Block.{Block}
use Rattle.shunt_blocks.specs.defs.Shapes.{shape_of, IsWithinTrains, unit_from}
use Rattle.shunt_choices.proofs.Given.{PlaceLaws}
use Rattle.shunt_choices.specs.defs.Paths.{masks_of}
use Rattle.shunt_prices.specs.defs.Sums.{IsWithin}
use Rattle.shunt_prices.specs.defs.Cases.{IsFreeBlock}
use Rattle.shunt_stacks.specs.defs.Stacks.{Stack, blocks_of, is_of}
use Rattle.shunt_stacks.specs.defs.Fillings.{gain}
use Rattle.shunt_stacks.specs.defs.Spans.{Span}
use Rattle.shunt_stacks.specs.defs.Numbers.{IsNumbering, span_of, fixed_spans, free_spans, entry_number, leave_number}
use Rattle.shunt_recount.specs.declared.visits.Visit.{Visit}
use Rattle.shunt_recount.specs.declared.offers.Offer.{Offer}
use Rattle.shunt_recount.specs.defs.Visits.{spans_of, AreSmall, span_of as visit_span}
use Rattle.shunt_recount.specs.defs.Offers.{blocks_in, offer_span, offer_spans, AreOffersOf}
use Rattle.shunt_lists.proofs.Tests.{flag_small as one_at_most}
use Rattle.shunt_blocks.proofs.Shapes.{is_within}

pub one_more_visit : (night : Night) (offers : List Offer) (i : ℕ) (d : Offer) (old new : List Visit) (v : Visit) (g : ℤ) → i < length offers → new ≡ old ++ v ∷ []
    → spans_of old ≡ offer_spans night (take i offers) →
    g ≡ (get_or offers i d).gain → visit_span v ≡ span_of night (entry_number night) (leave_number night) (λ b. g) (get_or offers i d).block
    → spans_of new ≡ offer_spans night (take (i + 1) offers)
one_more_visit night offers i d old new v g lt e before own is =
    ap spans_of e
    ∙ (map-append visit_span old (v ∷ [])
    ∙ (ap (λ (l : List Span). l ++ visit_span v ∷ []) before
    ∙ (ap (λ (s : Span). offer_spans night (take i offers) ++ s ∷ []) (is ∙ ap (λ (z : ℤ). span_of night (entry_number night) (leave_number night) (λ b. z)
    (get_or offers i d).block) own)
    ∙ sym (ap (offer_spans night) (take_more offers i d lt) ∙ map-append (offer_span night) (take i offers) (get_or offers i d ∷ [])))))

-- ---- offers as free blocks

module _ (night : Night) (c : Case) where
  pub same_spans : (offers : List Offer) → ((o : Offer) → In o offers → o.gain ≡ gain night c o.block)
      → offer_spans night offers ≡ free_spans night (entry_number night) (leave_number night) c (blocks_in offers)
  same_spans [] each = refl
  same_spans (o ∷ offers) each =
      ap (λ (l : List Span). offer_span night o ∷ l) (same_spans offers (λ p i. each p (inr i)))
      ∙ ap (λ (z : ℤ). span_of night (entry_number night) (leave_number night) (λ b. z) o.block ∷ free_spans night (entry_number night) (leave_number night) c (blocks_in offers))
      (each o (inl refl))

module _ (night : Night) (path : List Block) (c : Case) (stack : Stack) (offers : List Offer) (of : AreOffersOf night path c stack offers) where
  offer_within : (o : Offer) → In o offers → IsWithinTrains night o.block
  offer_within o i =
      let free = each_one (λ b. IsFreeBlock night (masks_of night path) (shape_of b) b.park) (blocks_in offers) o.block of.free.free (in_map (λ (p : Offer). p.block) offers o i) in
      is_within night o.block (record { shape = free.shape.shape; option = free.option })

  pub offers_within : All (λ o. IsWithinTrains night o.block) offers
  offers_within = from_members (λ o. IsWithinTrains night o.block) offers offer_within

  pub offers_small : All (λ o. IsWithin 16000000000000 o.gain) offers
  offers_small = from_members (λ o. IsWithin 16000000000000 o.gain) offers of.small

-- ---- how many units come before an event

abbrev pub units_before : ℕ → (ℕ → ℕ) → ℕ → ℕ
units_before zero entry x = 0
units_before (suc k) entry x = units_before k entry x + cond (nat_lt (entry k) x) 1 0

one_rises : (e x y : ℕ) → x ≤ y → cond (nat_lt e x) 1 0 ≤ cond (nat_lt e y) 1 0
one_rises e x y le = grind (arith, nat_tests)

one_new : (e x y : ℕ) → x ≤ e → e < y → cond (nat_lt e x) 1 0 + 1 ≤ cond (nat_lt e y) 1 0
one_new e x y le lt = grind (arith, nat_tests)

pub before_rises : (k : ℕ) (entry : ℕ → ℕ) (x y : ℕ) → x ≤ y → units_before k entry x ≤ units_before k entry y
before_rises zero entry x y le = omega arith
before_rises (suc k) entry x y le = omega (arith, before_rises k entry x y le, one_rises (entry k) x y le)

pub before_few : (k : ℕ) (entry : ℕ → ℕ) (x : ℕ) → units_before k entry x ≤ k
before_few zero entry x = omega arith
before_few (suc k) entry x = omega (arith, before_few k entry x, one_at_most (nat_lt (entry k) x))

pub before_counts : (k : ℕ) (entry : ℕ → ℕ) (u x y : ℕ) → u < k → x ≤ entry u → entry u < y → units_before k entry x < units_before k entry y
before_counts zero entry u x y lt le more = absurd (omega (arith, lt))
before_counts (suc k) entry u x y lt le more = ⊎_elim
    (λ (early : u < k). let r = before_counts k entry u x y early le more in let s = one_rises (entry k) x y (omega (arith, le, more)) in omega (arith, r, s))
    (λ (late : k ≤ u).
    let e : u ≡ k = omega (arith, late, lt) in
    let r = before_rises k entry x y (omega (arith, le, more)) in
    let s = one_new (entry k) x y (subst (λ (v : ℕ). x ≤ entry v) e le) (subst (λ (v : ℕ). entry v < y) e more) in
    omega (arith, r, s))
    (cases_lt u k)

module _ (night : Night) (places : PlaceLaws) (numbers : IsNumbering night 5760000 (entry_number night) (leave_number night)) where
  abbrev pub units : ℕ → ℕ
  units x = units_before (unit_total night) (entry_number night) x

  block_counts : (value : Block → ℤ) (b : Block) → IsWithinTrains night b → units (span_of night (entry_number night) (leave_number night) value b).from < units
      (span_of night (entry_number night) (leave_number night) value b).inside
  block_counts value b within =
      let u = unit_from night (shape_of b) in
      let some = within.runs.n in
      let first : u < unit_total night = places.unit_in night (shape_of b) u within.runs (record { from = omega arith; to = omega (arith, some) }) in
      let last : u + (b.n - 1) < unit_total night = places.unit_in night (shape_of b) (u + (b.n - 1)) within.runs (record { from = omega arith; to = omega (arith, some) }) in
      let rise : entry_number night u ≤ entry_number night (u + (b.n - 1)) = ⊎_elim
      (λ (less : u < u + (b.n - 1)). let r = numbers.entries u (u + (b.n - 1)) less last in omega (arith, r))
      (λ (same : u + (b.n - 1) ≤ u). let e : u ≡ u + (b.n - 1) = omega (arith, same) in let f = ap (entry_number night) e in omega (arith, f))
      (cases_lt u (u + (b.n - 1))) in
      before_counts (unit_total night) (entry_number night) u (entry_number night u) (entry_number night (u + (b.n - 1)) + 1) first (omega arith) (omega (arith, rise))

  module _ (path : List Block) (stack : Stack) (offers : List Offer) (blocks_within : All (IsWithinTrains night) path) (within : All (λ o. IsWithinTrains night o.block) offers)
      (small : All (λ o. IsWithin 16000000000000 o.gain) offers) (few : unit_total night ≤ 160) where
    abbrev pub fixed : List Span
    fixed = fixed_spans night (entry_number night) (leave_number night) (blocks_of stack path)

    little : (s : Span) → In s fixed ⊎ In s (offer_spans night offers) → IsWithin 16000000000000 s.gain
    little s (inl i) =
        let h = of_map (span_of night (entry_number night) (leave_number night) (λ b. pos 0)) (blocks_of stack path) s i in
        subst (λ (t : Span). IsWithin 16000000000000 t.gain) (sym h.2) (record { low = omega (arith, ints); high = omega (arith, ints) })
    little s (inr i) = let h = of_map (offer_span night) offers s i in subst (λ (t : Span). IsWithin 16000000000000 t.gain) (sym h.2)
        (each_one (λ o. IsWithin 16000000000000 o.gain) offers h.0 small h.1)

    counted : (s : Span) → In s fixed ⊎ In s (offer_spans night offers) → units s.from < units s.inside
    counted s (inl i) =
        let h = of_map (span_of night (entry_number night) (leave_number night) (λ b. pos 0)) (blocks_of stack path) s i in
        let there = filter_from (λ (b : Block). is_of stack b.park) path h.0 h.1 in
        subst (λ (t : Span). units t.from < units t.inside) (sym h.2) (block_counts (λ b. pos 0) h.0 (each_one (IsWithinTrains night) path h.0 blocks_within there.0))
    counted s (inr i) =
        let h = of_map (offer_span night) offers s i in
        subst (λ (t : Span). units t.from < units t.inside) (sym h.2) (block_counts (λ b. h.0.gain) h.0.block (each_one (λ o. IsWithinTrains night o.block) offers h.0 within h.1))

    pub all_small : AreSmall fixed (offer_spans night offers)
    all_small = record {
      gains = little;
      count = units;
      rises = λ x y le. before_rises (unit_total night) (entry_number night) x y le;
      counts = counted;
      few = λ x.
          let r = before_few (unit_total night) (entry_number night) x in omega (arith, r, few);
    }
