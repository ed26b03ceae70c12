-- Lists of blocks of which one has another option.
use Rattle.std.specs.Prelude.{Option, if◌then◌else◌}
use Rattle.std.specs.List.{AllByRecursion, cons_option}
use Rattle.std.proofs.Common.{◌≡◌, ◌≢◌, ◌↔◌, ℕ, suc, zero, ◌+◌, ◌<◌, ◌==◌, Bool, false, cond, List, [], ◌∷◌, ◌++◌, length, map, get_or, set, take, drop, refl, sym, subst, ap, ◌∙◌, arith, count_by}
use Rattle.std.proofs.lemmas.Bool.Decides.{nat_tests}
use Rattle.std.proofs.lemmas.List.{get_or-map, length-map}
use Rattle.std.proofs.lemmas.List.Elements.{All-set, filter_map-append}
use Rattle.std.proofs.lemmas.List.Sums.{sum_by-set}
use Rattle.shunt_lists.proofs.Members.{all_in, all_from, in_place, place_of}
use Rattle.shunt_lists.specs.defs.Members.{In, AreDistinct}
use Rattle.shunt_base.specs.declared.keys.Stay.{Stay}
use Rattle.shunt_instance.specs.defs.Instance.{Night}
use Rattle.shunt_blocks.specs.declared.records.Block.{Block}
use Rattle.shunt_blocks.specs.declared.records.Park.{Park}
use Rattle.shunt_blocks.specs.defs.Shapes.{shape_of}
use Rattle.shunt_blocks.specs.defs.Blocks.{IsBlock, IsOption}
use Rattle.shunt_blocks.specs.defs.Costs.{block_cost}
use Rattle.shunt_blocks.specs.defs.Stays.{stay_of}
use Rattle.shunt_blocks.specs.defs.Lists.{has_unit, has_position, RunsThrough, IsFeasible, stays_of, total_cost}
use Rattle.shunt_blocks.specs.defs.Polished.{with_option}
use Rattle.shunt_search.specs.defs.Polish.{others_of}
use Rattle.shunt_search.proofs.Stays.{to_front, as_long}
use Rattle.shunt_lists.proofs.Tests.{same_number}
use Rattle.shunt_blocks.proofs.Shapes.{on_track}

abbrev pub with_park : Block → Option Park → Block
with_park b option = record b { park = option }

abbrev pub id_of : Block → ℕ
id_of b = b.id

-- ---- the place of a block

pub around : {X : Type 0} (xs : List X) (k : ℕ) (y : X) → k < length xs → set xs k y ≡ take k xs ++ y ∷ drop (suc k) xs
around [] k y lt = absurd (omega arith)
around (x ∷ xs) zero y lt = refl
around (x ∷ xs) (suc k) y lt = ap (λ l. x ∷ l) (around xs k y (omega arith))

-- no two of these have one id
abbrev Apart : List Block → Type 0
Apart [] = Unit {0}
Apart (b ∷ blocks) = AllByRecursion (λ c. b.id ≢ c.id) blocks × Apart blocks

apart : (blocks : List Block) → AreDistinct (map id_of blocks) → Apart blocks
apart [] h = tt
apart (b ∷ blocks) h = (
  all_from (λ c. b.id ≢ c.id) blocks (λ c i. let r = place_of blocks c b i in
      let lt : r.0 < length (map id_of blocks) = omega (arith, r.1, length-map blocks id_of) in
      subst (λ n. b.id ≢ n) (get_or-map id_of blocks r.0 b 0 r.1 ∙ ap id_of r.2) (h 0 (suc r.0) 0 (omega arith) (omega arith))),
  apart blocks (λ i j d before within. h (suc i) (suc j) d (omega arith) (omega arith)),
)

others_apart : (blocks : List Block) (k : ℕ) (d : Block) → k < length blocks → Apart blocks → AllByRecursion (λ c. c.id ≢ (get_or blocks k d).id) (others_of blocks k)
others_apart [] k d lt a = absurd (omega arith)
others_apart (b ∷ blocks) zero d lt a = all_from (λ c. c.id ≢ b.id) blocks (λ c i e. all_in (λ c. b.id ≢ c.id) blocks c a.0 i (sym e))
others_apart (b ∷ blocks) (suc k) d lt a = (
  λ e. all_in (λ c. b.id ≢ c.id) blocks (get_or blocks k d) a.0 (in_place blocks k d (omega arith)) e,
  others_apart blocks k d (omega arith) a.1,
)

pub other_ids : (blocks : List Block) (k : ℕ) (d : Block) → k < length blocks → AreDistinct (map (λ b. b.id) blocks)
    → AllByRecursion (λ c. c.id ≢ (get_or blocks k d).id) (others_of blocks k)
other_ids blocks k d lt h = others_apart blocks k d lt (apart blocks h)

-- ---- another option for the one at a place

other_number : (n m : ℕ) → n ≢ m → (m == n) ≡ false
other_number n m apart = grind (arith, nat_tests)

changes : (b : Block) (option : Option Park) → (if b.id == b.id then with_park b option else b) ≡ with_park b option
changes b option = ap {A = Bool} (λ t. if t then with_park b option else b) (same_number b.id)

keeps : (b c : Block) (option : Option Park) → b.id ≢ c.id → (if c.id == b.id then with_park c option else c) ≡ c
keeps b c option apart = ap {A = Bool} (λ t. if t then with_park c option else c) (other_number b.id c.id apart)

untouched : (b : Block) (option : Option Park) (blocks : List Block) → AllByRecursion (λ c. b.id ≢ c.id) blocks → with_option b option blocks ≡ blocks
untouched b option [] a = refl
untouched b option (c ∷ blocks) a = ap (λ x. x ∷ with_option b option blocks) (keeps b c option a.0) ∙ ap (λ l. c ∷ l) (untouched b option blocks a.1)

is_set : (blocks : List Block) (k : ℕ) (d : Block) (option : Option Park) → k < length blocks → Apart blocks
    → with_option (get_or blocks k d) option blocks ≡ set blocks k (with_park (get_or blocks k d) option)
is_set [] k d option lt a = absurd (omega arith)
is_set (b ∷ blocks) zero d option lt a = ap (λ x. x ∷ with_option b option blocks) (changes b option) ∙ ap (λ l. with_park b option ∷ l) (untouched b option blocks a.0)
is_set (b ∷ blocks) (suc k) d option lt a =
    ap (λ x. x ∷ with_option (get_or blocks k d) option blocks) (keeps (get_or blocks k d) b option
    (λ e. all_in (λ c. b.id ≢ c.id) blocks (get_or blocks k d) a.0 (in_place blocks k d (omega arith)) (sym e)))
    ∙ ap (λ l. b ∷ l) (is_set blocks k d option (omega arith) a.1)

pub with_option_is : (blocks : List Block) (k : ℕ) (d : Block) (option : Option Park) → k < length blocks → AreDistinct (map (λ b. b.id) blocks)
    → with_option (get_or blocks k d) option blocks ≡ set blocks k (with_park (get_or blocks k d) option)
with_option_is blocks k d option lt h = is_set blocks k d option lt (apart blocks h)

-- ---- what stays as it is

pub same_fields : {Y : Type 0} (f : Block → Y) (blocks : List Block) (k : ℕ) (d : Block) (option : Option Park) → ((b : Block) → f (with_park b option) ≡ f b)
    → map f (set blocks k (with_park (get_or blocks k d) option)) ≡ map f blocks
same_fields f [] k d option same = refl
same_fields f (b ∷ blocks) zero d option same = ap (λ y. y ∷ map f blocks) (same b)
same_fields f (b ∷ blocks) (suc k) d option same = ap (λ l. f b ∷ l) (same_fields f blocks k d option same)

abbrev worth : Bool → ℕ
worth t = cond t 1 0

pub same_count : (test : Block → Bool) (blocks : List Block) (k : ℕ) (d : Block) (option : Option Park) → k < length blocks → ((b : Block) → test (with_park b option) ≡ test b)
    → count_by test (set blocks k (with_park (get_or blocks k d) option)) ≡ count_by test blocks
same_count test blocks k d option lt same =
    let e = sum_by-set (λ b. worth (test b)) blocks k (with_park (get_or blocks k d) option) d lt in
    let f : worth (test (with_park (get_or blocks k d) option)) ≡ worth (test (get_or blocks k d)) = ap worth (same (get_or blocks k d)) in
    omega (arith, e, f)

pub cost_change : (night : Night) (blocks : List Block) (k : ℕ) (d : Block) (option : Option Park) → k < length blocks
    → total_cost night (set blocks k (with_park (get_or blocks k d) option)) + block_cost night (get_or blocks k d)
    ≡ total_cost night blocks + block_cost night (with_park (get_or blocks k d) option)
cost_change night blocks k d option lt = sum_by-set (block_cost night) blocks k (with_park (get_or blocks k d) option) d lt

pub still_block : (night : Night) (b : Block) (option : Option Park) → IsBlock night b → IsOption night (shape_of b) option → IsBlock night (with_park b option)
still_block night b option h is = record {
  in_range = record { from = h.in_range.from; to = h.in_range.to; within = record { runs = h.in_range.within.runs; track = on_track night (shape_of b) option is } };
  shape = h.shape;
  option = is;
}

pub still_feasible : (night : Night) (blocks : List Block) (k : ℕ) (d : Block) (option : Option Park) → k < length blocks → IsFeasible night blocks
    → IsOption night (shape_of (get_or blocks k d)) option → RunsThrough night (set blocks k (with_park (get_or blocks k d) option))
    → IsFeasible night (set blocks k (with_park (get_or blocks k d) option))
still_feasible night blocks k d option lt h is through = record {
  ids = subst AreDistinct (sym (same_fields (λ b. b.id) blocks k d option (λ b. refl))) h.ids;
  each = All-set (IsBlock night) blocks k (with_park (get_or blocks k d) option) (still_block night (get_or blocks k d) option (h.each k d lt) is) h.each;
  covers = record {
    units = λ u is. same_count (λ b. has_unit night (shape_of b) u) blocks k d option lt (λ b. refl) ∙ h.covers.units u is;
    positions = λ v is. same_count (λ b. has_position night (shape_of b) v) blocks k d option lt (λ b. refl) ∙ h.covers.positions v is;
  };
  through = through;
}

-- ---- the stays of all of them

module _ (night : Night) (blocks : List Block) (k : ℕ) (b : Block) (lt : k < length blocks) where
  all_stays : stays_of night (set blocks k b) ≡ stays_of night (take k blocks) ++ cons_option (stay_of night b) (stays_of night (drop (suc k) blocks))
  all_stays = ap (stays_of night) (around blocks k b lt) ∙ filter_map-append (stay_of night) (take k blocks) (b ∷ drop (suc k) blocks)

  other_stays : stays_of night (others_of blocks k) ≡ stays_of night (take k blocks) ++ stays_of night (drop (suc k) blocks)
  other_stays = filter_map-append (stay_of night) (take k blocks) (drop (suc k) blocks)

  pub stays_front : (s : Stay) → In s (stays_of night (set blocks k b)) ↔ In s (cons_option (stay_of night b) (stays_of night (others_of blocks k)))
  stays_front s =
      let moved = to_front (stay_of night b) (stays_of night (take k blocks)) (stays_of night (drop (suc k) blocks)) s in (
        λ i. subst (λ (l : List Stay). In s (cons_option (stay_of night b) l)) (sym other_stays) (moved.0 (subst (λ (l : List Stay). In s l) all_stays i)),
        λ i. subst (λ (l : List Stay). In s l) (sym all_stays) (moved.1 (subst (λ (l : List Stay). In s (cons_option (stay_of night b) l)) other_stays i)),
      )

  pub stays_long : length (stays_of night (set blocks k b)) ≡ length (cons_option (stay_of night b) (stays_of night (others_of blocks k)))
  stays_long = ap (λ (l : List Stay). length l) all_stays ∙ as_long (stay_of night b) (stays_of night (take k blocks)) (stays_of night (drop (suc k) blocks))
      ∙ ap (λ (l : List Stay). length (cons_option (stay_of night b) l)) (sym other_stays)

pub length_others : {X : Type 0} (xs : List X) (k : ℕ) → k < length xs → length (take k xs ++ drop (suc k) xs) + 1 ≡ length xs
length_others [] k lt = absurd (omega arith)
length_others (x ∷ xs) zero lt = omega arith
length_others (x ∷ xs) (suc k) lt = let e = length_others xs k (omega arith) in omega (arith, e)
