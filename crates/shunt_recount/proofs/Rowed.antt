-- Rows of gains that are known stay right when one is taken out, begun or put in its place.
use Rattle.std.specs.Prelude.{Option, Some, None, IfSome, ℤ, nat_lt}
use Rattle.std.specs.Option.{option_copied, is_some}
use Rattle.std.proofs.Common.{Bor, ◌≡◌, ◌⊎◌, inl, inr, ⊎_elim, ℕ, ◌+◌, ◌<◌, ◌≤◌, List, [], ◌∷◌, ◌++◌, length, get_or, set, sym, subst, ap, ◌∙◌, arith}
use Rattle.std.proofs.lemmas.Bool.{cases_eq, ltb-true}
use Rattle.std.proofs.lemmas.List.{get_or-set_same, get_or-set_other, length-set, get_or_default}
use Rattle.shunt_lists.specs.defs.Members.{In}
use Rattle.shunt_lists.proofs.Members.{in_place, place}
use Rattle.shunt_recount.specs.declared.known.PartEnd.{PartEnd}
use Rattle.shunt_recount.specs.declared.known.Known.{Known}
use Rattle.shunt_recount.specs.declared.known.Row.{Row}
use Rattle.shunt_recount.specs.declared.moments.Moments.{Moments}
use Rattle.shunt_recount.specs.defs.Moments.{IsRank, events_of, IsValue, AreGains, AreRows, AreKnown, IsRowAt}
use Rattle.shunt_recount.proofs.Listed.{each_more, more_each}

in_set : {X : Type 0} (xs : List X) (k : ℕ) (y x : X) → In x (set xs k y) → (x ≡ y) ⊎ In x xs
in_set xs k y x i =
    let p = place (set xs k y) x i in
    let n = length-set xs k y in
    let lt : p.0 < length xs = omega (arith, n, p.1) in
    ⊎_elim
    (λ (same : p.0 ≡ k). inl (sym (p.2 x) ∙ (ap (λ (j : ℕ). get_or (set xs k y) j x) same ∙ get_or-set_same xs k y x (omega (arith, same, lt)))))
    (λ (other : p.0 ≡ k → ⊥). inr (subst (λ z. In z xs) (sym (get_or-set_other xs k p.0 y x other) ∙ p.2 x) (in_place xs p.0 x lt)))
    (cases_eq p.0 k)

module _ (m : Moments) where
  -- a row without gains
  pub bare : (end room : ℕ) → AreGains m end room []
  bare end room top j back rank e lt = absurd (omega (arith, lt))

  pub put : (rows : List Row) (row : Row) (k : ℕ) → AreRows m rows → AreGains m row.end row.room row.gains.items → AreRows m (set rows k row)
  put rows row k are is r i = ⊎_elim
      (λ (own : r ≡ row). subst (λ (s : Row). AreGains m s.end s.room s.gains.items) (sym own) is)
      (λ other. are r other)
      (in_set rows k row r i)

  pub begun : (rows new : List Row) (row : Row) → new ≡ rows ++ row ∷ [] → AreRows m rows → AreGains m row.end row.room row.gains.items → AreRows m new
  begun rows new row e are is = more_each (λ (r : Row). AreGains m r.end r.room r.gains.items) rows new row e are is

  -- the row of a part's end
  pub of_row : (known : Known) (key : PartEnd) (k : ℕ) (d r : Row) → IsRowAt known key k → AreKnown m known → r ≡ get_or known.rows.items k d → AreGains m key.end key.room r.gains.items
  of_row known key k d r at are own =
      subst (λ (s : Row). AreGains m key.end key.room s.gains.items) (sym own)
      (subst (λ (y : ℕ). AreGains m key.end y (get_or known.rows.items k d).gains.items) (at.room d)
      (subst (λ (x : ℕ). AreGains m x (get_or known.rows.items k d).room (get_or known.rows.items k d).gains.items) (at.end d)
      (are (get_or known.rows.items k d) (in_place known.rows.items k d at.there))))

  -- a row that is one longer by the next gain
  pub longer : (end top room : ℕ) (gains new : List (Option ℤ)) (g : Option ℤ) → new ≡ gains ++ g ∷ [] → IsRank (events_of m) end top → length gains ≤ top →
      ((top' j : ℕ) → IsRank (events_of m) end top' → length gains + j ≡ top' → IsValue m j end room g) → AreGains m end room gains → AreGains m end room new
  longer end top room gains new g e last few is are top' j back rank sum lt =
      each_more (λ (i : ℕ) (o : Option ℤ). (h : ℕ) → i + h ≡ top' → IsValue m h end room o) gains new g e
      (λ i d less h s. subst (IsValue m h end room) (get_or_default gains i None d less) (are top' h i rank s less))
      (λ h s. is top' h rank s) back None lt j sum

-- what is looked up in a list
pub looked : {X : Type 0} (P : X → Type 0) (xs : List X) (k : ℕ) (o : Option (Bor X)) (r : Option X) → r ≡ option_copied o → is_some o ≡ nat_lt k (length xs) →
    IfSome o (λ x. x.now ≡ get_or xs k x.now) → ((d : X) → k < length xs → P (get_or xs k d)) → IfSome r P
looked P xs k None r e there h f = subst (λ o. IfSome o P) (sym e) tt
looked P xs k (Some b) r e there h f = subst (λ o. IfSome o P) (sym e) (subst P (sym h) (f b.now (ltb-true k (length xs) (sym there))))
