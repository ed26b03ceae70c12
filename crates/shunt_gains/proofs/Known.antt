-- Rows that are known stay right when one comes to them, and a row grows by the gain at the event before.
use Rattle.std.specs.Prelude.{Option, Some, None, IfSome, Vec, true, ℤ, List}
use Rattle.std.specs.BTreeMap.{BTreeMap, get, is_at, Updates}
use Rattle.std.specs.Option.{option_copied}
use Rattle.std.specs.Map.{lookup}
use Rattle.std.proofs.Common.{Bor, ◌≡◌, ℕ, ◌+◌, ◌<◌, ◌≤◌, length, slice_index_or, sym, subst, arith}
use Rattle.std.proofs.lemmas.List.{get_or_default}
use Rattle.std.proofs.lemmas.Bool.Decides.{nat_tests}
use Rattle.shunt_stacks.specs.defs.Spans.{Span}
use Rattle.shunt_gains.specs.declared.rows.RowKey.{RowKey}
use Rattle.shunt_gains.specs.defs.Tables.{IsGain, AreGainsBefore, IsRow, AreRows, row_cmp}
use Rattle.shunt_lists.proofs.Options.{some_either as pick}

same_parts : (k q : RowKey) → is_at (row_cmp k) q ≡ true → (k.end ≡ q.end) × (k.room ≡ q.room)
same_parts k q e = grind (arith, nat_tests)

module _ (fixed free : List Span) where
  moved : (k q : RowKey) (gains : List (Option ℤ)) → (k.end ≡ q.end) × (k.room ≡ q.room) → IsRow fixed free k.end k.room gains → IsRow fixed free q.end q.room gains
  moved k q gains e is = subst (λ (r : ℕ). IsRow fixed free q.end r gains) e.1 (subst (λ (y : ℕ). IsRow fixed free y k.room gains) e.0 is)

  pub kept : {A : Type 0} (m n : BTreeMap RowKey (Vec (Option ℤ) A)) (k : RowKey) (row : Vec (Option ℤ) A) → Updates row_cmp m n k (Some row) →
      IsRow fixed free k.end k.room row.items → AreRows fixed free m → AreRows fixed free n
  kept {A = A} m n k row updates is known q =
      subst (λ (o : Option (Vec (Option ℤ) A)). IfSome o (λ v. IsRow fixed free q.end q.room v.items)) (sym (updates.0 q))
      (pick (λ v. IsRow fixed free q.end q.room v.items) (is_at (row_cmp k) q) row (get row_cmp m q) (λ e. moved k q row.items (same_parts k q e) is) (known q))

  pub same_known : {A : Type 0} (m n : BTreeMap RowKey (Vec (Option ℤ) A)) → n.entries ≡ m.entries → AreRows fixed free m → AreRows fixed free n
  same_known {A = A} m n e known q =
      subst (λ (es : List (RowKey × Vec (Option ℤ) A)). IfSome (lookup (is_at (row_cmp q)) es) (λ v. IsRow fixed free q.end q.room v.items)) (sym e) (known q)

  -- in a row that goes down to an event, or behind it, stands the gain from there on
  pub in_row : (x y room : ℕ) (row : List (Option ℤ)) (back : ℕ) → AreGainsBefore fixed free y room row → back + x ≡ y → x ≤ y → back < length row →
      (d : Option ℤ) → IsGain fixed free x y room (slice_index_or row back d)
  in_row x y room row back each e le lt d = subst (IsGain fixed free x y room) (get_or_default row back None d lt)
      (subst (λ (w : ℕ). IsGain fixed free w y room (slice_index_or row back None)) (omega (arith, e)) (each back lt (omega (arith, e))))

  -- the row that is known at a key
  pub at_key : {A : Type 0} (rows : BTreeMap RowKey (Vec (Option ℤ) A)) (k : RowKey) (row : Vec (Option ℤ) A) → get row_cmp rows k ≡ Some row → AreRows fixed free rows →
      IsRow fixed free k.end k.room row.items
  at_key rows k row e known = subst (λ o. IfSome o (λ v. IsRow fixed free k.end k.room v.items)) e (known k)

pub copied_some : {X : Type 0} (P : X → Type 0) (at : X → X) (o : Option (Bor X)) (r : Option X) → r ≡ option_copied o → IfSome o (λ x. x.now ≡ at x.now) →
    ((d : X) → P (at d)) → IfSome r P
copied_some P at None r e h f = subst (λ o. IfSome o P) (sym e) tt
copied_some P at (Some b) r e h f = subst (λ o. IfSome o P) (sym e) (subst P (sym h) (f b.now))
