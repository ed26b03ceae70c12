-- There is no finding exactly when the blocks are a feasible plan.
use Rattle.std.proofs.Common.{◌≡◌, inl, ⊎_elim, ◌↔◌, ℕ, zero, suc, ◌<◌, ◌≤◌, List, [], ◌∷◌, get_or, refl, sym, subst, ◌∙◌, arith}
use Rattle.std.specs.Prelude.{All, IsSome, IfSome, Option, Some, None, slice_index}
use Rattle.std.proofs.lemmas.Bool.{cases_lt, false_from_ne_true, false≢true}
use Rattle.shunt_lists.proofs.Members.{in_place, place_of}
use Rattle.shunt_lists.specs.defs.Members.{In}
use Rattle.shunt_base.specs.declared.ids.DepId.{DepId}
use Rattle.shunt_base.specs.declared.keys.Stay.{Stay}
use Rattle.shunt_stays.specs.defs.Crossings.{load_after}
use Rattle.shunt_stays.proofs.Crossings.{through_clear, clear_through}
use Rattle.shunt_instance.specs.defs.Instance.{Night, IsInstance}
use Rattle.shunt_blocks.specs.declared.records.Block.{Block}
use Rattle.shunt_blocks.specs.declared.records.Park.{Park}
use Rattle.shunt_blocks.specs.declared.records.Shape.{Shape}
use Rattle.shunt_blocks.specs.defs.Shapes.{shape_of, IsInRange}
use Rattle.shunt_blocks.specs.defs.Ways.{park_way_in, park_way_out, option_way_in, option_way_out}
use Rattle.shunt_blocks.specs.defs.Blocks.{IsBlock, type_fault}
use Rattle.shunt_blocks.specs.defs.Stays.{is_too_soon, IsSoundBlock}
use Rattle.shunt_blocks.specs.defs.Lists.{times_unit, times_position, track_lengths, stays_of, AreInRange, IsFeasible, RunsThrough}
use Rattle.shunt_audit.specs.declared.types.Finding.{Finding}
use Rattle.shunt_audit.specs.declared.types.Finding.TheVariants.{UnitBare, UnitTwice, PlaceBare, PlaceTwice, WrongType, TooSoon, NoRouteIn, NoRouteOut, Crossing, TooLong, StatedCost}
use Rattle.shunt_audit.specs.defs.Findings.{kind_of, IsFinding}
use Rattle.shunt_audit.specs.defs.Listed.{findings_in}
use Rattle.shunt_audit.proofs.BlockStays.{BlockLaws}
use Rattle.shunt_audit.proofs.Exactly.{listed_from, listed_to}
use Rattle.shunt_lists.proofs.Options.{some_way, no_none}

once : (n : ℕ) → (n ≡ 0 → ⊥) → (2 ≤ n → ⊥) → n ≡ 1
once zero bare twice = absurd (bare refl)
once (suc zero) bare twice = refl
once (suc (suc n)) bare twice = absurd (twice (omega arith))

ways_in : (night : Night) (s : Shape) (o : Option Park) → (IsSome o × (option_way_in night s o ≡ None) → ⊥) → IfSome o (λ k. IsSome (park_way_in night s k))
ways_in night s None h = tt
ways_in night s (Some k) h = some_way (park_way_in night s k) (λ e. h (refl, e))

ways_out : (night : Night) (d : DepId) (o : Option Park) → (IsSome o × (option_way_out night d o ≡ None) → ⊥) → IfSome o (λ k. IsSome (park_way_out night d k))
ways_out night d None h = tt
ways_out night d (Some k) h = some_way (park_way_out night d k) (λ e. h (refl, e))

in_there : (night : Night) (s : Shape) (o : Option Park) → IfSome o (λ k. IsSome (park_way_in night s k)) → IsSome o × (option_way_in night s o ≡ None) → ⊥
in_there night s None h lacks = false≢true lacks.0
in_there night s (Some k) h lacks = no_none (park_way_in night s k) h lacks.1

out_there : (night : Night) (d : DepId) (o : Option Park) → IfSome o (λ k. IsSome (park_way_out night d k)) → IsSome o × (option_way_out night d o ≡ None) → ⊥
out_there night d None h lacks = false≢true lacks.0
out_there night d (Some k) h lacks = no_none (park_way_out night d k) h lacks.1

at_most : (m n : ℕ) → (n < m → ⊥) → m ≤ n
at_most m n h = ⊎_elim (λ lt. absurd (h lt)) (λ le. le) (cases_lt n m)

module _ (laws : BlockLaws) (night : Night) (blocks : List Block) (n : IsInstance night) (h : AreInRange night blocks) where
  abbrev lengths : List ℕ
  lengths = track_lengths night.station

  abbrev standing : List Stay
  standing = stays_of night blocks

  -- what has no finding of a later kind than the first four
  pub block_of : ((f : Finding) → 5 ≤ kind_of f → IsFinding night blocks f → ⊥) → (b : Block) → In b blocks → IsInRange night b → IsBlock night b
  block_of none b i within = (laws.sound night b).1 (record {
    in_range = within;
    types = false_from_ne_true (type_fault night b) (λ t. none (WrongType b.id) (omega arith) (record { item = b; there = i; named = refl; holds = t }));
    in_time = false_from_ne_true (is_too_soon night (shape_of b)) (λ t. none (TooSoon b.id) (omega arith) (record { item = b; there = i; named = refl; holds = t }));
    way_in = ways_in night (shape_of b) b.park (λ l. none (NoRouteIn b.id) (omega arith) (record { item = b; there = i; named = refl; holds = l }));
    way_out = ways_out night b.dep b.park (λ l. none (NoRouteOut b.id) (omega arith) (record { item = b; there = i; named = refl; holds = l }));
  })

  pub runs : ((f : Finding) → 5 ≤ kind_of f → IsFinding night blocks f → ⊥) → RunsThrough night blocks
  runs none = clear_through lengths standing (laws.stays night blocks n h) (laws.tracks night blocks h)
      (λ b c i j x. none (Crossing b.id c.id) (omega arith) (record { item = b; there = i; named = refl; holds = record { item = c; there = j; named = refl; holds = x } }))
      (λ b i. at_most (load_after standing b) (slice_index lengths b.track.0) (λ above. none (TooLong b.id (load_after standing b)) (omega arith)
      (record { item = b; there = i; named = refl; holds = record { is = refl; above = above } })))

  sound_at : All (IsBlock night) blocks → (b : Block) → In b blocks → IsSoundBlock night b
  sound_at each b i = let r = place_of blocks b b i in (laws.sound night b).0 (subst (IsBlock night) r.2 (each r.0 b r.1))

  pub sound_later : All (IsBlock night) blocks → RunsThrough night blocks → (f : Finding) → 5 ≤ kind_of f → IsFinding night blocks f → ⊥
  sound_later each through (UnitBare u) le x = absurd (omega arith)
  sound_later each through (UnitTwice u) le x = absurd (omega arith)
  sound_later each through (PlaceBare v) le x = absurd (omega arith)
  sound_later each through (PlaceTwice v) le x = absurd (omega arith)
  sound_later each through (WrongType id) le x = false≢true (sym (sound_at each x.item x.there).types ∙ x.holds)
  sound_later each through (TooSoon id) le x = false≢true (sym (sound_at each x.item x.there).in_time ∙ x.holds)
  sound_later each through (NoRouteIn id) le x = in_there night (shape_of x.item) x.item.park (sound_at each x.item x.there).way_in x.holds
  sound_later each through (NoRouteOut id) le x = out_there night x.item.dep x.item.park (sound_at each x.item x.there).way_out x.holds
  sound_later each through (Crossing i j) le x = (through_clear lengths standing (laws.stays night blocks n h) (laws.tracks night blocks h) through).0 x.item x.holds.item x.there
      x.holds.there x.holds.holds
  sound_later each through (TooLong id load) le x =
      let within : load_after standing x.item ≤ slice_index lengths x.item.track.0 = (through_clear lengths standing (laws.stays night blocks n h)
      (laws.tracks night blocks h) through).1 x.item x.there in
      let same = x.holds.is in
      let above = x.holds.above in
      absurd (omega arith)
  sound_later each through (StatedCost stated real) le x = x

  pub feasible_from : ((f : Finding) → IsFinding night blocks f → ⊥) → IsFeasible night blocks
  feasible_from none = record {
    ids = h.ids;
    each = λ k d lt. block_of (λ f le x. none f x) (get_or blocks k d) (in_place blocks k d lt) (h.each k d lt);
    covers = record {
      units = λ u lt. once (times_unit night blocks u) (λ e. none (UnitBare u) (lt, e)) (λ e. none (UnitTwice u) (lt, e));
      positions = λ v lt. once (times_position night blocks v) (λ e. none (PlaceBare v) (lt, e)) (λ e. none (PlaceTwice v) (lt, e));
    };
    through = runs (λ f le x. none f x);
  }

  pub nothing : IsFeasible night blocks → (f : Finding) → IsFinding night blocks f → ⊥
  nothing p (UnitBare u) x = absurd (let one = p.covers.units u x.0 in let none = x.1 in omega arith)
  nothing p (UnitTwice u) x = absurd (let one = p.covers.units u x.0 in let twice = x.1 in omega arith)
  nothing p (PlaceBare v) x = absurd (let one = p.covers.positions v x.0 in let none = x.1 in omega arith)
  nothing p (PlaceTwice v) x = absurd (let one = p.covers.positions v x.0 in let twice = x.1 in omega arith)
  nothing p (WrongType id) x = sound_later p.each p.through (WrongType id) (omega arith) x
  nothing p (TooSoon id) x = sound_later p.each p.through (TooSoon id) (omega arith) x
  nothing p (NoRouteIn id) x = sound_later p.each p.through (NoRouteIn id) (omega arith) x
  nothing p (NoRouteOut id) x = sound_later p.each p.through (NoRouteOut id) (omega arith) x
  nothing p (Crossing i j) x = sound_later p.each p.through (Crossing i j) (omega arith) x
  nothing p (TooLong id load) x = sound_later p.each p.through (TooLong id load) (omega arith) x
  nothing p (StatedCost stated real) x = x

pub no_member : (fs : List Finding) → ((f : Finding) → In f fs → ⊥) → fs ≡ []
no_member [] h = refl
no_member (f ∷ fs) h = absurd (h f (inl refl))

pub none_where_feasible : (laws : BlockLaws) (night : Night) (blocks : List Block) → IsInstance night → AreInRange night blocks
    → (findings_in night blocks ≡ []) ↔ IsFeasible night blocks
none_where_feasible laws night blocks n h = (
  λ e. feasible_from laws night blocks n h (λ f x. subst (λ (l : List Finding). In f l) e (listed_to night blocks f x)),
  λ p. no_member (findings_in night blocks) (λ f i. nothing laws night blocks n h p f (listed_from night blocks f i)),
)
