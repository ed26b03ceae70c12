-- What a stack gains with one choice after another at a path: one value for all events around, and one for each choice.
use Rattle.std.specs.Prelude.{not, ◌&&◌, nat_le, cond, All, Option, Some, None}
use Rattle.std.proofs.Common.{◌≡◌, ◌⊎◌, ⊎_elim, inl, inr, ℕ, zero, suc, ◌+◌, ◌-◌, ◌<◌, ◌≤◌, Bool, true, List, [], ◌∷◌, ◌++◌, ℤ, pos, ◌+ℤ◌, refl, sym, subst, ap, ◌∙◌, arith}
use Rattle.std.proofs.lemmas.Int.{ints}
use Rattle.std.proofs.lemmas.Bool.{cases_lt}
use Rattle.shunt_lists.specs.defs.Members.{In}
use Rattle.shunt_lists.proofs.Members.{in_map, of_map, of_one, filter_from, filter_to, in_left, in_right, in_cases, each_one}
use Rattle.shunt_base.specs.declared.duals.Case.{Case}
use Rattle.shunt_instance.specs.defs.Instance.{Night, IsInstance, unit_total}
use Rattle.shunt_blocks.specs.declared.records.Block.{Block}
use Rattle.shunt_blocks.specs.defs.Shapes.{shape_of, unit_from}
use Rattle.shunt_blocks.specs.defs.Blocks.{IsBlockButId}
use Rattle.shunt_blocks.specs.defs.Lists.{ShareNothing}
use Rattle.shunt_choices.specs.defs.Paths.{masks_of, next_of}
use Rattle.shunt_choices.proofs.Given.{PlaceLaws}
use Rattle.shunt_choices.proofs.Grown.{next_is}
use Rattle.shunt_prices.specs.defs.Prices.{track_length}
use Rattle.shunt_stacks.specs.defs.Stacks.{Stack, is_of, blocks_of}
use Rattle.shunt_stacks.specs.defs.Fillings.{gain}
use Rattle.shunt_stacks.specs.defs.Spans.{Span, IsSpan, IsOutside, AreOwn, plus, best, best_with, sum_with}
use Rattle.shunt_stacks.specs.defs.Choices.{BeginsAt, IsAround}
use Rattle.shunt_stacks.specs.defs.Numbers.{IsNumbering, span_of, fixed_spans, free_spans, AreFreeOf, shares, apart_of}
use Rattle.shunt_stacks.proofs.Parts.{IsFreeAt, unit_bare}
use Rattle.shunt_stacks.proofs.Best.{find_start}
use Rattle.shunt_stacks.proofs.Around.{at_fixed, at_none}
use Rattle.shunt_stacks.proofs.MaybeGains.{plus_none, plus_zero, with_yes}
use Rattle.shunt_stacks.proofs.Tied.{TieLaws, own_events}
use Rattle.shunt_stacks.proofs.Beside.{own_after, same_among, value_at, span_there}
use Rattle.shunt_lists.proofs.Tests.{no_le, off_right}

-- ---- gains that there may be

behind_first : (g : ℤ) (a add v : Option ℤ) → plus (Some g) (plus a (plus add v)) ≡ plus (plus (Some g) (plus a add)) v
behind_first g None add v = refl
behind_first g (Some x) None v = refl
behind_first g (Some x) (Some y) None = refl
behind_first g (Some x) (Some y) (Some z) = ap Some (same g x y z)
  where
    same : (g x y z : ℤ) → g +ℤ (x +ℤ (y +ℤ z)) ≡ (g +ℤ (x +ℤ y)) +ℤ z
    same g x y z = omega (arith, ints)

inside_first : (g : ℤ) (add v b : Option ℤ) → plus (Some g) (plus (plus add v) b) ≡ plus (plus (Some g) (plus add b)) v
inside_first g None v b = refl
inside_first g (Some x) None None = refl
inside_first g (Some x) None (Some z) = refl
inside_first g (Some x) (Some y) None = refl
inside_first g (Some x) (Some y) (Some z) = ap Some (same g x y z)
  where
    same : (g x y z : ℤ) → g +ℤ ((x +ℤ y) +ℤ z) ≡ (g +ℤ (x +ℤ z)) +ℤ y
    same g x y z = omega (arith, ints)

-- ---- one span

with_past : (rest : ℕ → ℕ → ℕ → Option ℤ) (y room : ℕ) (s : Span) → y < s.past → best_with rest y room s ≡ None
with_past rest y room s past = ap (λ (t : Bool). cond (t && nat_le s.length room) (sum_with rest y room s) None) (no_le s.past y past)

with_long : (rest : ℕ → ℕ → ℕ → Option ℤ) (y room : ℕ) (s : Span) → room < s.length → best_with rest y room s ≡ None
with_long rest y room s long =
    ap (λ (t : Bool). cond (nat_le s.past y && t) (sum_with rest y room s) None) (no_le s.length room long)
    ∙ ap (λ (t : Bool). cond t (sum_with rest y room s) None) (off_right (nat_le s.past y))

module _ (laws : TieLaws) (night : Night) (i : IsInstance night) (stack : Stack) (events : ℕ) (entry leave : ℕ → ℕ) (num : IsNumbering night events entry leave)
    (path : List Block) (all : All (IsBlockButId night) path) (apart : ShareNothing night path) (c : Case) (blocks : List Block) (are : AreFreeOf night path c stack blocks)
    (n at : ℕ) where
  abbrev fixed : List Span
  fixed = fixed_spans night entry leave (blocks_of stack path)

  abbrev free : List Span
  free = free_spans night entry leave c blocks

  abbrev fixed_with : Block → List Span
  fixed_with b = fixed_spans night entry leave (blocks_of stack (path ++ b ∷ []))

  abbrev free_with : Block → List Span
  free_with b = free_spans night entry leave c (apart_of night b blocks)

  abbrev span : Block → Span
  span b = span_of night entry leave (λ z. pos 0) b

  abbrev now : ℕ → ℕ → ℕ → Option ℤ
  now = best n fixed free

  abbrev then : Block → ℕ → ℕ → ℕ → Option ℤ
  then b = best n (fixed_with b) (free_with b)

  -- a free block of the stack that comes at this event
  pub record ComesAt (b : Block) : Type 0 where
    pub free : IsFreeAt night path b
    pub own : is_of stack b.park ≡ true
    pub comes : entry (unit_from night (shape_of b)) ≡ at

  -- the values around an event: with each choice there, what is gained is one and the same gain and what the choice gains in its room
  pub record Context (x y room : ℕ) : Type 0 where
    pub to : ℕ
    pub left : ℕ
    pub around : Option ℤ
    pub within : to ≤ y
    pub path_gain : best n (fixed_spans night entry leave (blocks_of stack path)) (free_spans night entry leave c blocks) x y room
        ≡ plus around (best n (fixed_spans night entry leave (blocks_of stack path)) (free_spans night entry leave c blocks) at to left)
    pub choice_gain : (b : Block) → ComesAt b → best n (fixed_spans night entry leave (blocks_of stack (path ++ b ∷ [])))
        (free_spans night entry leave c (apart_of night b blocks)) x y room
        ≡ plus around (best_with (best n (fixed_spans night entry leave (blocks_of stack path)) (free_spans night entry leave c blocks)) to left
        (span_of night entry leave (λ z. pos 0) b))

  module _ (b : Block) (k : ComesAt b) where
    span_is : IsSpan (span_of night entry leave (λ z. pos 0) b)
    span_is = span_there laws night i stack events entry leave num path all apart b k.free k.own c blocks are

    among : (x z r : ℕ) → z ≤ x + n → IsOutside x z (span_of night entry leave (λ w. pos 0) b) → then b x z r ≡ now x z r
    among x z r few out = same_among laws night i stack events entry leave num path all apart b k.free k.own c blocks are n x z r few out

    in_then : In (span b) (fixed_with b)
    in_then =
        in_map (span_of night entry leave (λ z. pos 0)) (blocks_of stack (path ++ b ∷ [])) b
        (filter_to (λ (x : Block). is_of stack x.park) (path ++ b ∷ []) b (in_right path (b ∷ []) b (inl refl)) k.own)

    own_then : AreOwn (fixed_with b) (free_with b)
    own_then = own_after laws night i stack events entry leave num path all apart b k.free k.own c blocks are

    fixed_then : (f : Span) → In f fixed → In f (fixed_with b)
    fixed_then f j =
        let x = of_map (span_of night entry leave (λ z. pos 0)) (blocks_of stack path) f j in
        let there = filter_from (λ (w : Block). is_of stack w.park) path x.0 x.1 in
        subst (λ (s : Span). In s (fixed_with b)) (sym x.2)
        (in_map (span_of night entry leave (λ z. pos 0)) (blocks_of stack (path ++ b ∷ [])) x.0
        (filter_to (λ (w : Block). is_of stack w.park) (path ++ b ∷ []) x.0 (in_left path (b ∷ []) x.0 there.0) there.1))

    value_there : (y room : ℕ) → at < y → y ≤ at + n → then b at y room ≡ best_with now y room (span b)
    value_there y room lt le = subst (λ (e : ℕ). then b e y room ≡ best_with now y room (span b)) k.comes
        (⊎_elim
        (λ out.
        at_fixed (fixed_with b) (free_with b) own_then n (entry (unit_from night (shape_of b))) y room (span b) in_then refl (omega (arith, lt, k.comes))
        (omega (arith, le, k.comes))
        ∙ with_past (then b) y room (span b) out
        ∙ sym (with_past now y room (span b) out))
        (λ past. value_at laws night i stack events entry leave num path all apart b k.free k.own c blocks are n y room past (omega (arith, le, k.comes)))
        (cases_lt y (span b).past))

  own_now : AreOwn fixed free
  own_now = own_events laws night i stack events entry leave num path all apart c blocks are

  module _ (clear : (s : Span) → In s (free_spans night entry leave c blocks) → at ≤ s.from) (one : Block) (one_comes : ComesAt one) where
    none_now : (x y room : ℕ) → ((f : Span) → In f fixed → f.from ≡ x → ⊥) → x < at → x < y → y ≤ x + n → now x y room ≡ now (x + 1) y room
    none_now x y room bare early lt le = at_none fixed free own_now n x y room (λ s j e. ⊎_elim (λ l. bare s l e) (λ r. absurd (omega (arith, clear s r, e, early))) j) lt le

    none_then : (b : Block) → ComesAt b → (x y room : ℕ) → ((f : Span) → In f fixed → f.from ≡ x → ⊥) → x < at → x < y → y ≤ x + n → then b x y room ≡ then b (x + 1) y room
    none_then b k x y room bare early lt le = at_none (fixed_with b) (free_with b) (own_then b k) n x y room (λ s j e. ⊎_elim (λ l. of_fixed s l e) (λ r. of_free s r e) j) lt le
      where
        of_fixed : (s : Span) → In s (fixed_with b) → s.from ≡ x → ⊥
        of_fixed s j e =
            let z = of_map (span_of night entry leave (λ w. pos 0)) (blocks_of stack (path ++ b ∷ [])) s j in
            let h = filter_from (λ (w : Block). is_of stack w.park) (path ++ b ∷ []) z.0 z.1 in
            ⊎_elim
            (λ l. bare s (subst (λ (t : Span). In t fixed) (sym z.2) (in_map (span_of night entry leave (λ w. pos 0)) (blocks_of stack path) z.0
            (filter_to (λ (w : Block). is_of stack w.park) path z.0 l h.1))) e)
            (λ r.
            let same = of_one b z.0 r in
            let from = ap (λ (t : Span). t.from) z.2 in
            let first = ap (λ (w : Block). entry (unit_from night (shape_of w))) same in
            let comes = k.comes in
            omega (arith, e, from, first, comes, early))
            (in_cases path (b ∷ []) z.0 h.0)

        of_free : (s : Span) → In s (free_with b) → s.from ≡ x → ⊥
        of_free s j e =
            let z = of_map (span_of night entry leave (gain night c)) (apart_of night b blocks) s j in
            let h = filter_from (λ (w : Block). not (shares night b w)) blocks z.0 z.1 in
            omega (arith, clear s (subst (λ (t : Span). In t free) (sym z.2) (in_map (span_of night entry leave (gain night c)) blocks z.0 h.0)), e, early)

    base : (y room : ℕ) → at < y → y ≤ at + n → Context at y room
    base y room lt le = record {
      to = y;
      left = room;
      around = Some (pos 0);
      within = omega arith;
      path_gain = plus_zero (now at y room);
      choice_gain = λ b k. value_there b k y room lt le ∙ plus_zero (best_with now y room (span b));
    }

    skip : (x y room : ℕ) → ((f : Span) → In f fixed → f.from ≡ x → ⊥) → x < at → x < y → y ≤ x + n → Context (x + 1) y room → Context x y room
    skip x y room bare early lt le k = record {
      to = k.to;
      left = k.left;
      around = k.around;
      within = k.within;
      path_gain = none_now x y room bare early lt le ∙ k.path_gain;
      choice_gain = λ b comes. none_then b comes x y room bare early lt le ∙ k.choice_gain b comes;
    }

    -- a fixed span comes before
    module _ (x y room : ℕ) (f : Span) (j : In f (fixed_spans night entry leave (blocks_of stack path))) (here : f.from ≡ x) (early : x < at) (lt : x < y) (le : y ≤ x + n) where
      f_is : IsSpan f
      f_is = own_now.spans f (inl j)

      f_now : now x y room ≡ best_with now y room f
      f_now = at_fixed fixed free own_now n x y room f j here lt le

      f_then : (b : Block) → ComesAt b → then b x y room ≡ best_with (then b) y room f
      f_then b k = at_fixed (fixed_with b) (free_with b) (own_then b k) n x y room f (fixed_then b k f j) here lt le

      no_room : room < f.length → Context x y room
      no_room long = record {
        to = y;
        left = room;
        around = None;
        within = omega arith;
        path_gain = f_now ∙ with_long now y room f long;
        choice_gain = λ b k. f_then b k ∙ with_long (then b) y room f long;
      }

      too_late : y < f.past → Context x y room
      too_late late = record {
        to = y;
        left = room;
        around = None;
        within = omega arith;
        path_gain = f_now ∙ with_past now y room f late;
        choice_gain = λ b k. f_then b k ∙ with_past (then b) y room f late;
      }

      module _ (past : f.past ≤ y) (long : f.length ≤ room) where
        -- it has left before the event
        behind : f.past ≤ at → Context f.past y room → Context x y room
        behind gone k = record {
          to = k.to;
          left = k.left;
          around = plus (Some f.gain) (plus (now f.inside f.until (room - f.length)) k.around);
          within = k.within;
          path_gain =
              f_now
              ∙ with_yes now y room f past long
              ∙ ap (λ (o : Option ℤ). plus (Some f.gain) (plus (now f.inside f.until (room - f.length)) o)) k.path_gain
              ∙ behind_first f.gain (now f.inside f.until (room - f.length)) k.around (now at k.to k.left);
          choice_gain = λ b comes.
              let first = comes.comes in
              f_then b comes
              ∙ with_yes (then b) y room f past long
              ∙ ap (λ (o : Option ℤ). plus (Some f.gain) (plus o (then b f.past y room)))
              (among b comes f.inside f.until (room - f.length) (omega (arith, past, le, here, f_is.enters, f_is.leaves)) (inl (omega (arith, first, gone, f_is.leaves))))
              ∙ ap (λ (o : Option ℤ). plus (Some f.gain) (plus (now f.inside f.until (room - f.length)) o)) (k.choice_gain b comes)
              ∙ behind_first f.gain (now f.inside f.until (room - f.length)) k.around (best_with now k.to k.left (span b));
        }

        -- it stands round the event
        inside : at < f.past → Context f.inside f.until (room - f.length) → Context x y room
        inside there k = record {
          to = k.to;
          left = k.left;
          around = plus (Some f.gain) (plus k.around (now f.past y room));
          within = omega (arith, k.within, past, f_is.leaves);
          path_gain =
              f_now
              ∙ with_yes now y room f past long
              ∙ ap (λ (o : Option ℤ). plus (Some f.gain) (plus o (now f.past y room))) k.path_gain
              ∙ inside_first f.gain k.around (now at k.to k.left) (now f.past y room);
          choice_gain = λ b comes. f_then b comes ∙ with_yes (then b) y room f past long ∙ of_choice b comes (cases_lt f.past (span b).past);
        }
          where
            of_choice : (b : Block) → ComesAt b → (f.past < (span b).past) ⊎ ((span b).past ≤ f.past)
                → sum_with (then b) y room f ≡ plus (plus (Some f.gain) (plus k.around (now f.past y room))) (best_with now k.to k.left (span b))
            of_choice b comes (inl out) =
                let none = with_past now k.to k.left (span b) (omega (arith, out, k.within, f_is.leaves)) in
                ap (λ (o : Option ℤ). plus (Some f.gain) (plus o (then b f.past y room))) (k.choice_gain b comes ∙ ap (plus k.around) none ∙ plus_none k.around)
                ∙ sym (ap (plus (plus (Some f.gain) (plus k.around (now f.past y room)))) none ∙ plus_none (plus (Some f.gain) (plus k.around (now f.past y room))))
            of_choice b comes (inr past_it) =
                ap (λ (o : Option ℤ). plus (Some f.gain) (plus (then b f.inside f.until (room - f.length)) o))
                (among b comes f.past y room (omega (arith, le, here, f_is.enters, f_is.stays, f_is.leaves)) (inr (inr past_it)))
                ∙ ap (λ (o : Option ℤ). plus (Some f.gain) (plus o (now f.past y room))) (k.choice_gain b comes)
                ∙ inside_first f.gain k.around (best_with now k.to k.left (span b)) (now f.past y room)

        -- the event is none of its own
        from_inside : f.inside ≤ at
        from_inside =
            ⊎_elim (λ less. absurd ((own_then one one_comes).entries f (span one) (inl (fixed_then one one_comes f j)) (in_then one one_comes)
            (omega (arith, one_comes.comes, here, early)) (omega (arith, one_comes.comes, less)))) (λ ge. ge) (cases_lt at f.inside)

        before_leaving : at < f.past → at < f.until
        before_leaving there =
            ⊎_elim (λ less. less) (λ ge. absurd ((own_then one one_comes).leaves f (span one) (inl (fixed_then one one_comes f j)) (in_then one one_comes)
            (omega (arith, one_comes.comes, ge)) (omega (arith, one_comes.comes, there)))) (cases_lt at f.until)

        with_fixed : ((x y room : ℕ) → f.from < x → x ≤ at → at < y → y ≤ x + n → Context x y room) → at < y → Context x y room
        with_fixed known more = ⊎_elim
            (λ there. inside there (known f.inside f.until (room - f.length) (omega (arith, f_is.enters)) from_inside (before_leaving there)
            (omega (arith, past, le, here, f_is.enters, f_is.leaves))))
            (λ gone. behind gone (known f.past y room (omega (arith, f_is.enters, f_is.stays, f_is.leaves)) gone more
            (omega (arith, le, here, f_is.enters, f_is.stays, f_is.leaves))))
            (cases_lt at f.past)

    step : (x y room : ℕ) → x < at → at < y → y ≤ x + n → ((v w r : ℕ) → x < v → v ≤ at → at < w → w ≤ v + n → Context v w r) → Context x y room
    step x y room early lt le known = ⊎_elim
        (λ f.
        let sooner : x < y = omega (arith, early, lt) in
        ⊎_elim
        (λ late. too_late x y room f.0 f.1 f.2 early sooner le late)
        (λ past. ⊎_elim
        (λ long. no_room x y room f.0 f.1 f.2 early sooner le long)
        (λ fits. with_fixed x y room f.0 f.1 f.2 early sooner le past fits (λ v w r behind_f. known v w r (omega (arith, behind_f, f.2))) lt)
        (cases_lt room f.0.length))
        (cases_lt y f.0.past))
        (λ bare. skip x y room bare early (omega (arith, early, lt)) le (known (x + 1) y room (omega arith) (omega (arith, early)) lt (omega (arith, le))))
        (find_start x fixed)

    at_event : (x y room : ℕ) → at < y → y ≤ x + n → at ≤ x → x ≤ at → Context x y room
    at_event x y room lt few ge le = let e : at ≡ x = omega (arith, ge, le) in subst (λ (v : ℕ). Context v y room) e (base y room lt (omega (arith, few, e)))

    pub context : (d x y room : ℕ) → at ≤ x + d → x ≤ at → at < y → y ≤ x + n → Context x y room
    context zero x y room far le lt few = at_event x y room lt few (omega (arith, far)) le
    context (suc d) x y room far le lt few = ⊎_elim
        (λ early. step x y room early lt few (λ v w r more least most wide. context d v w r (omega (arith, far, more)) least most wide))
        (λ ge. at_event x y room lt few ge le)
        (cases_lt x at)

-- ---- the next unit of a path

-- no free block comes before it
pub first_free : (places : PlaceLaws) (night : Night) (path : List Block) (b : Block) (u : ℕ) → next_of (masks_of night path) ≡ Some u → IsFreeAt night path b
    → u ≤ unit_from night (shape_of b)
first_free places night path b u next free = ⊎_elim
    (λ less. absurd (omega (
      arith,
      (next_is night path u next).before (unit_from night (shape_of b)) less,
      unit_bare places night path b free (unit_from night (shape_of b)) (record { from = omega arith; to = omega (arith, free.shape.shape.within.n) }),
    )))
    (λ ge. ge)
    (cases_lt (unit_from night (shape_of b)) u)

module _ (laws : TieLaws) (night : Night) (i : IsInstance night) (stack : Stack) (events : ℕ) (entry leave : ℕ → ℕ) (num : IsNumbering night events entry leave)
    (path : List Block) (all : All (IsBlockButId night) path) (apart : ShareNothing night path) (c : Case) (blocks : List Block) (are : AreFreeOf night path c stack blocks)
    (u : ℕ) (next : next_of (masks_of night path) ≡ Some u) where
  rises : (w : ℕ) → u ≤ w → w < unit_total night → entry u ≤ entry w
  rises w le within = ⊎_elim
      (λ lt. let less = num.entries u w lt within in omega (arith, less))
      (λ ge. let e : u ≡ w = omega (arith, le, ge) in let same = ap entry e in omega (arith, same))
      (cases_lt u w)

  clear : (s : Span) → In s (free_spans night entry leave c blocks) → entry u ≤ s.from
  clear s j =
      let z = of_map (span_of night entry leave (gain night c)) blocks s j in
      let free = each_one (IsFreeAt night path) blocks z.0 are.free z.1 in
      let w = unit_from night (shape_of z.0) in
      let inside = laws.places.unit_in night (shape_of z.0) w free.shape.shape.within (record { from = omega arith; to = omega (arith, free.shape.shape.within.n) }) in
      let from = ap (λ (t : Span). t.from) z.2 in
      omega (arith, from, rises w (first_free laws.places night path z.0 u next free) inside)

  comes : (b : Block) → BeginsAt night path stack u b → ComesAt laws night i stack events entry leave num path all apart c blocks are events (entry u) b
  comes b k = record { free = k.free; own = k.own; comes = ap entry k.first }

  pub around : (first : Block) → BeginsAt night path stack u first → IsAround night events entry leave c stack path blocks u
  around first k =
      let there = num.entries_in u (next_is night path u next).there in
      let x = context laws night i stack events entry leave num path all apart c blocks are events (entry u) clear first (comes first k) (entry u) 0 events
      (track_length night stack.track.0) (omega arith) (omega arith) there (omega arith) in
      record { to = x.to; left = x.left; around = x.around; path_gain = x.path_gain; choice_gain = λ b begins. x.choice_gain b (comes b begins) }
