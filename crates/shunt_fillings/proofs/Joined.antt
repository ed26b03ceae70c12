-- What a stack gains beside a shape, by the stack's table at the path.
use Rattle.std.specs.Prelude.{◌↔◌, Option, Some, None, Result, Ok, Err, IfOk, IfSome, map, not, All, ◌==◌, ◌&&◌}
use Rattle.std.proofs.Common.{◌≡◌, ⊎_elim, ℕ, ◌+◌, ◌-◌, Bool, true, List, [], ◌∷◌, ◌++◌, ℤ, pos, refl, sym, subst, ap, ◌∙◌}
use Rattle.std.proofs.lemmas.List.{map-append}
use Rattle.std.proofs.lemmas.List.Elements.{filter-append}
use Rattle.shunt_lists.specs.defs.Members.{In}
use Rattle.shunt_lists.proofs.Members.{in_map, of_map, filter_from, filter_yes, in_cases, to_all}
use Rattle.shunt_lists.proofs.Tests.{equal_of}
use Rattle.std.proofs.lemmas.Bool.{and_parts}
use Rattle.shunt_base.specs.declared.duals.Case.{Case}
use Rattle.shunt_instance.specs.defs.Instance.{Night}
use Rattle.shunt_blocks.specs.declared.records.Shape.{Shape}
use Rattle.shunt_blocks.specs.declared.records.Block.{Block}
use Rattle.shunt_blocks.specs.defs.Shapes.{shape_of, unit_from, position_from}
use Rattle.shunt_blocks.specs.defs.Stays.{shape_length}
use Rattle.shunt_prices.specs.defs.Prices.{track_length}
use Rattle.shunt_prices.specs.defs.Sums.{IsWithin}
use Rattle.shunt_stacks.specs.defs.Stacks.{Stack, is_of, blocks_of}
use Rattle.shunt_stacks.specs.defs.Fillings.{gain, IsStackGain}
use Rattle.shunt_stacks.specs.defs.Spans.{Span, AreOwn, AgreeWithin, IsOutside, best}
use Rattle.shunt_stacks.specs.defs.Numbers.{span_of, free_spans, shares, apart_of}
use Rattle.shunt_gains.specs.declared.numbers.Events.{Events}
use Rattle.shunt_gains.specs.declared.pieces.Piece.{Piece}
use Rattle.shunt_gains.specs.declared.table.Table.{Table}
use Rattle.shunt_gains.specs.defs.Events.{entry_of, leave_of, events_in}
use Rattle.shunt_gains.specs.defs.Tables.{span_of as piece_span, IsTableOf, fixed_of, free_of, events_of}
use Rattle.shunt_gains.specs.defs.Places.{IsBeside}
use Rattle.shunt_fillings.specs.declared.besides.Beside.{Beside}
use Rattle.shunt_fillings.specs.declared.candidates.Candidate.{Candidate}
use Rattle.shunt_fillings.specs.declared.scenes.Scene.{Scene}
use Rattle.shunt_fillings.specs.defs.Pieces.{block_on, blocks_in, AreCandidates, fixed_of_stack, spans_with}
use Rattle.shunt_fillings.specs.defs.Scenes.{MayCome}
use Rattle.shunt_fillings.specs.defs.Besides.{IsTableAt, IsGainBeside, AreBesides}
use Rattle.shunt_fillings.proofs.Tabled.{free_same}

-- what the laws of the crates below say of a block that comes to a path
pub record ComeLaws (night : Night) (e : Events) (path : List Block) (c : Case) (stack : Stack) (ks : List Candidate) (b : Block) : Type 0 where
  pub own : AreOwn (fixed_of_stack night e (path ++ b ∷ []) stack) (free_spans night (entry_of e) (leave_of e) c (apart_of night b (blocks_in ks)))
  pub agree : (x y : ℕ) → IsOutside x y (span_of night (entry_of e) (leave_of e) (λ z. pos 0) b)
      → AgreeWithin (fixed_of_stack night e path stack) (free_spans night (entry_of e) (leave_of e) c (blocks_in ks))
      (fixed_of_stack night e (path ++ b ∷ []) stack) (free_spans night (entry_of e) (leave_of e) c (apart_of night b (blocks_in ks))) x y
  pub gains : (most : ℤ) → best (events_in e) (fixed_of_stack night e (path ++ b ∷ []) stack) (free_spans night (entry_of e) (leave_of e) c (apart_of night b (blocks_in ks)))
      0 (events_in e) (track_length night stack.track.0) ≡ Some most ↔ IsStackGain night (path ++ b ∷ []) c stack most

-- what a shape takes of the events
abbrev span_at : Night → Events → Shape → Span
span_at night e s = record {
  from = entry_of e (unit_from night s);
  inside = entry_of e (unit_from night s + (s.n - 1)) + 1;
  until = leave_of e (position_from night s + (s.n - 1));
  past = leave_of e (position_from night s) + 1;
  length = shape_length night s;
  gain = pos 0;
}

same_span : (night : Night) (e : Events) (stack : Stack) (shape : Shape) (b : Block) → shape_of b ≡ shape
    → span_of night (entry_of e) (leave_of e) (λ z. pos 0) (block_on stack shape) ≡ span_of night (entry_of e) (leave_of e) (λ z. pos 0) b
same_span night e stack shape b f = ap (span_at night e) (sym f)

-- of each block alike
each_block : {E : Type 0} (P : Block → ℤ → Type 0) (H : Block → Type 0) (r : Result (Option ℤ) E) → ((b : Block) → H b → IfOk r (λ g. IfSome g (P b)))
    → IfOk r (λ g. IfSome g (λ z. (b : Block) → H b → P b z))
each_block P H (Err f) h = tt
each_block P H (Ok None) h = tt
each_block P H (Ok (Some z)) h = h

some_alike : {E : Type 0} (P Q : ℤ → Type 0) (r : Result (Option ℤ) E) → ((z : ℤ) → P z → Q z) → IfOk r (λ g. IfSome g P) → IfOk r (λ g. IfSome g Q)
some_alike P Q (Err f) to h = tt
some_alike P Q (Ok None) to h = tt
some_alike P Q (Ok (Some z)) to h = to z h

module _ (night : Night) (e : Events) (path : List Block) (c : Case) (stack : Stack) (ks : List Candidate) (are : AreCandidates night path c stack ks) where
  module _ (b : Block) (of : is_of stack b.park ≡ true) (laws : ComeLaws night e path c stack ks b) where
    longer_fixed : fixed_of_stack night e (path ++ b ∷ []) stack ≡ fixed_of_stack night e path stack ++ span_of night (entry_of e) (leave_of e) (λ z. pos 0) b ∷ []
    longer_fixed =
        ap (λ (bs : List Block). map (span_of night (entry_of e) (leave_of e) (λ z. pos 0)) bs)
        (filter-append (λ (z : Block). is_of stack z.park) path (b ∷ []) ∙ ap (λ (bs : List Block). blocks_of stack path ++ bs)
        (filter_yes (λ (z : Block). is_of stack z.park) b [] of))
        ∙ map-append (span_of night (entry_of e) (leave_of e) (λ z. pos 0)) (blocks_of stack path) (b ∷ [])

    is_beside : IsBeside (fixed_of_stack night e path stack) (spans_with night e ks) (fixed_of_stack night e (path ++ b ∷ []) stack)
        (free_spans night (entry_of e) (leave_of e) c (apart_of night b (blocks_in ks))) (span_of night (entry_of e) (leave_of e) (λ z. pos 0) b)
    is_beside = subst (λ (free : List Span). IsBeside (fixed_of_stack night e path stack) free (fixed_of_stack night e (path ++ b ∷ []) stack)
        (free_spans night (entry_of e) (leave_of e) c (apart_of night b (blocks_in ks))) (span_of night (entry_of e) (leave_of e) (λ z. pos 0) b))
        (sym (free_same night e c path stack ks are))
        (record {
          fixed_are = longer_fixed;
          free_are = λ s j.
              let z = of_map (span_of night (entry_of e) (leave_of e) (gain night c)) (apart_of night b (blocks_in ks)) s j in
              subst (λ (t : Span). In t (free_spans night (entry_of e) (leave_of e) c (blocks_in ks))) (sym z.2)
              (in_map (span_of night (entry_of e) (leave_of e) (gain night c)) (blocks_in ks) z.0 (filter_from (λ (w : Block). not (shares night b w)) (blocks_in ks) z.0 z.1).0);
          own_events = laws.own;
          agree = laws.agree;
        })

  abbrev Comes : Shape → Block → Type 0
  Comes shape b = (shape_of b ≡ shape) × (is_of stack b.park ≡ true) × MayCome night path b

  module _ (t : Table) (is : IsTableOf (fixed_of_stack night e path stack) (spans_with night e ks) (events_in e) t) (shape : Shape) (own : Piece)
      (own_is : piece_span own ≡ span_of night (entry_of e) (leave_of e) (λ z. pos 0) (block_on stack shape)) (room : ℕ) (room_is : room ≡ track_length night stack.track.0)
      {E : Type 0} (r : Result (Option ℤ) E)
      (told : (others more : List Span) → IsBeside (fixed_of t) (free_of t) others more (piece_span own)
      → IfOk r (λ g. IfSome g (λ z. best (events_of t) others more 0 (events_of t) room ≡ Some z)))
      (laws : (b : Block) → shape_of b ≡ shape → is_of stack b.park ≡ true → MayCome night path b → ComeLaws night e path c stack ks b) where
    one_block : (b : Block) → Comes shape b → IfOk r (λ g. IfSome g (λ z. IsStackGain night (path ++ b ∷ []) c stack z))
    one_block b comes =
        let law = laws b comes.0 comes.1 comes.2 in
        let others = fixed_of_stack night e (path ++ b ∷ []) stack in
        let more = free_spans night (entry_of e) (leave_of e) c (apart_of night b (blocks_in ks)) in
        let beside : IsBeside (fixed_of t) (free_of t) others more (piece_span own) =
        subst (λ (s : Span). IsBeside (fixed_of t) (free_of t) others more s) (sym (own_is ∙ same_span night e stack shape b comes.0))
        (subst (λ (xs : List Span). IsBeside (fixed_of t) xs others more (span_of night (entry_of e) (leave_of e) (λ z. pos 0) b)) (sym is.free_same)
        (subst (λ (xs : List Span). IsBeside xs (spans_with night e ks) others more (span_of night (entry_of e) (leave_of e) (λ z. pos 0) b)) (sym is.fixed_same)
        (is_beside b comes.1 law))) in
        some_alike (λ z. best (events_of t) others more 0 (events_of t) room ≡ Some z) (λ z. IsStackGain night (path ++ b ∷ []) c stack z) r
        (λ z h. (law.gains z).0 (sym (ap (λ (n : ℕ). best n others more 0 n (track_length night stack.track.0)) is.events_same
        ∙ refl) ∙ (ap (λ (n : ℕ). best (events_of t) others more 0 (events_of t) n) (sym room_is) ∙ h)))
        (told others more beside)

    pub gains_beside : IfOk r (λ g. IfSome g (IsGainBeside night path c stack shape))
    gains_beside = some_alike (λ z. (b : Block) → Comes shape b → IsStackGain night (path ++ b ∷ []) c stack z) (IsGainBeside night path c stack shape) r
        (λ z h b a f may. h b (a, f, may))
        (each_block (λ b z. IsStackGain night (path ++ b ∷ []) c stack z) (Comes shape) r one_block)

  pub besides_more : (old new : List Beside) (k : Beside) → new ≡ old ++ k ∷ [] → AreBesides night path c stack old
      → IsGainBeside night path c stack k.shape k.gain → IsWithin 1280000000000000000 k.gain → AreBesides night path c stack new
  besides_more old new k more before is small = λ j i. ⊎_elim
      (λ l. before j l)
      (λ r. ⊎_elim
      (λ same. subst (λ (x : Beside). IsGainBeside night path c stack x.shape x.gain × IsWithin 1280000000000000000 x.gain) (sym same) (is, small))
      (λ none. absurd none) r)
      (in_cases old (k ∷ []) j (subst (λ (ls : List Beside). In j ls) more i))

-- the table by a scene's own path and candidates
pub table_moved : (s : Scene) (stack : Stack) (path : List Block) (ls ks : List Candidate) (t : Table) → path ≡ s.path.now.blocks → ls ≡ ks
    → IsTableOf (fixed_of_stack s.instance.now s.events.now path stack) (spans_with s.instance.now s.events.now ls) (events_in s.events.now) t → IsTableAt s stack ks t
table_moved s stack path ls ks t a b is =
    subst (λ (l : List Candidate). IsTableAt s stack l t) b
    (subst (λ (p : List Block). IsTableOf (fixed_of_stack s.instance.now s.events.now p stack) (spans_with s.instance.now s.events.now ls) (events_in s.events.now) t) a is)

-- ---- a shape among others

shape_eq : (s t : Shape) → s.arr.0 ≡ t.arr.0 → s.p ≡ t.p → s.n ≡ t.n → s.dep.0 ≡ t.dep.0 → s.q ≡ t.q → s ≡ t
shape_eq s t a p n d q =
    ap (λ (x : ℕ). record { arr = record { 0 = x }; p = s.p; n = s.n; dep = s.dep; q = s.q }) a
    ∙ ap (λ (x : ℕ). record { arr = t.arr; p = x; n = s.n; dep = s.dep; q = s.q }) p
    ∙ ap (λ (x : ℕ). record { arr = t.arr; p = t.p; n = x; dep = s.dep; q = s.q }) n
    ∙ ap (λ (x : ℕ). record { arr = t.arr; p = t.p; n = t.n; dep = record { 0 = x }; q = s.q }) d
    ∙ ap (λ (x : ℕ). record { arr = t.arr; p = t.p; n = t.n; dep = t.dep; q = x }) q

pub same_shape : (s t : Shape) (b : Bool) → b ≡ ((s.arr.0 == t.arr.0) && ((s.p == t.p) && ((s.n == t.n) && ((s.dep.0 == t.dep.0) && (s.q == t.q))))) → b ≡ true → s ≡ t
same_shape s t b e h =
    let one = and_parts (s.arr.0 == t.arr.0) _ (sym e ∙ h) in
    let two = and_parts (s.p == t.p) _ one.1 in
    let three = and_parts (s.n == t.n) _ two.1 in
    let four = and_parts (s.dep.0 == t.dep.0) (s.q == t.q) three.1 in
    shape_eq s t (equal_of s.arr.0 t.arr.0 one.0) (equal_of s.p t.p two.0) (equal_of s.n t.n three.0) (equal_of s.dep.0 t.dep.0 four.0) (equal_of s.q t.q four.1)

pub all_little : (night : Night) (path : List Block) (c : Case) (stack : Stack) (besides : List Beside) → AreBesides night path c stack besides
    → All (λ (k : Beside). IsWithin 1280000000000000000 k.gain) besides
all_little night path c stack besides are = to_all (λ (k : Beside). IsWithin 1280000000000000000 k.gain) besides (λ k i. (are k i).1)
