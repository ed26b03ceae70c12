-- Facts that hold where they can't fail.
use Rattle.std.specs.Option.{IsSomeAnd}
use Rattle.std.proofs.Common.{◌≡◌, ⊎_elim, ℕ, ◌<◌, ◌≤◌, Bool, true, false, List, Option, Some, None, refl, arith}
use Rattle.std.proofs.lemmas.Bool.{cases_lt, cases_eq, true≢false, false≢true}
use Rattle.shunt_instance.specs.defs.Instance.{Night}
use Rattle.shunt_instance.specs.defs.Matching.{Entry, IsMatchable}
use Rattle.shunt_blocks.specs.declared.records.Shape.{Shape}
use Rattle.shunt_blocks.specs.declared.records.Block.{Block}
use Rattle.shunt_blocks.specs.declared.records.Park.{Park}
use Rattle.shunt_blocks.specs.defs.Shapes.{shape_of, AreRunsWithin, IsShape, IsInRange}
use Rattle.shunt_blocks.specs.defs.Blocks.{IsParkable, IsOption, IsBlock}
use Rattle.shunt_choices.specs.defs.Paths.{Masks, masks_of, next_of}
use Rattle.shunt_choices.specs.defs.Choices.{IsFreeShape, Choice, IsChoice, IsChoiceAt}

abbrev pub Stable : Type 0 → Type 0
Stable P = ((P → ⊥) → ⊥) → P

pub less : (a b : ℕ) → Stable (a < b)
less a b h = ⊎_elim (λ lt. lt) (λ past. absurd (h (λ lt. omega (arith, lt, past)))) (cases_lt a b)

pub most : (a b : ℕ) → Stable (a ≤ b)
most a b h = ⊎_elim (λ past. absurd (h (λ le. omega (arith, le, past)))) (λ le. le) (cases_lt b a)

pub same : (a b : ℕ) → Stable (a ≡ b)
same a b h = ⊎_elim (λ e. e) (λ other. absurd (h other)) (cases_eq a b)

pub flag : (b c : Bool) → Stable (b ≡ c)
flag true true h = refl
flag true false h = absurd (h (λ e. true≢false e))
flag false true h = absurd (h (λ e. false≢true e))
flag false false h = refl

matchable : (e f : Entry) → Stable (IsMatchable e f)
matchable e f h = record { kind = same e.kind f.kind (λ n. h (λ m. n m.kind)); ready = most e.minute f.minute (λ n. h (λ m. n m.ready)) }

runs : (night : Night) (s : Shape) → Stable (AreRunsWithin night s)
runs night s h = record {
  arr = less _ _ (λ n. h (λ r. n r.arr));
  dep = less _ _ (λ n. h (λ r. n r.dep));
  p = most _ _ (λ n. h (λ r. n r.p));
  n = most _ _ (λ n. h (λ r. n r.n));
  q = most _ _ (λ n. h (λ r. n r.q));
  units = most _ _ (λ n. h (λ r. n r.units));
  positions = most _ _ (λ n. h (λ r. n r.positions));
}

shape : (night : Night) (s : Shape) → Stable (IsShape night s)
shape night s h = record { within = runs night s (λ n. h (λ x. n x.within)); pairs = λ k lt. matchable _ _ (λ n. h (λ x. n (x.pairs k lt))) }

parkable : (night : Night) (s : Shape) (k : Park) → Stable (IsParkable night s k)
parkable night s k h = record {
  track = less _ _ (λ n. h (λ r. n r.track));
  permitted = flag _ _ (λ n. h (λ r. n r.permitted));
  way_in = flag _ _ (λ n. h (λ r. n r.way_in));
  way_out = flag _ _ (λ n. h (λ r. n r.way_out));
}

option : (night : Night) (s : Shape) (park : Option Park) → Stable (IsOption night s park)
option night s None h = tt
option night s (Some k) h = parkable night s k h

pub block : (night : Night) (b : Block) → IsInRange night b → Stable (IsBlock night b)
block night b range h = record {
  in_range = range;
  shape = shape night (shape_of b) (λ n. h (λ x. n x.shape));
  option = option night (shape_of b) b.park
      (λ n. h (λ x. n x.option));
}

free_shape : (night : Night) (covered : Masks) (u : ℕ) (s : Shape) → Stable (IsFreeShape night covered u s)
free_shape night covered u s h = record {
  shape = shape night s (λ n. h (λ x. n x.shape));
  first = same _ _ (λ n. h (λ x. n x.first));
  units = λ k has. flag _ _ (λ n. h (λ x. n (x.units k has)));
  positions = λ k has. flag _ _ (λ n. h (λ x. n (x.positions k has)));
}

choice : (night : Night) (covered : Masks) (u : ℕ) (c : Choice) → Stable (IsChoice night covered u c)
choice night covered u c h = record { shape = free_shape night covered u c.shape (λ n. h (λ x. n x.shape)); option = option night c.shape c.option (λ n. h (λ x. n x.option)) }

some_and : (o : Option ℕ) (P : ℕ → Type 0) → ((u : ℕ) → Stable (P u)) → Stable (IsSomeAnd o P)
some_and None P each h = h (λ (n : ⊥). n)
some_and (Some u) P each h = each u h

pub choice_at : (night : Night) (path : List Block) (c : Choice) → Stable (IsChoiceAt night path c)
choice_at night path c h = some_and (next_of (masks_of night path)) (λ u. IsChoice night (masks_of night path) u c) (λ u. choice night (masks_of night path) u c) h
