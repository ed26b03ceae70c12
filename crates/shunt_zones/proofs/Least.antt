-- The least shared zone, and meets one after the other.
use Rattle.std.proofs.Common.{◌≡◌, ⊎_elim, ℕ, ◌+◌, ◌-◌, ◌<◌, min, List, ◌++◌, length, get_or, take, drop, refl, sym, ap, ◌∙◌, arith}
use Rattle.std.specs.Prelude.{Option, Some, None, filter, if◌then◌else◌}
use Rattle.std.specs.List.{filter_map}
use Rattle.std.proofs.lemmas.Bool.{cases_Bool, cond-true, cond-false}
use Rattle.std.proofs.lemmas.List.{append_assoc, drop_more, take_all, length-drop}
use Rattle.shunt_lists.proofs.Members.{filter_yes, filter_no}
use Rattle.shunt_zones.specs.declared.records.Meet.{Meet}
use Rattle.shunt_zones.specs.declared.passages.Passing.{Passing}
use Rattle.shunt_zones.specs.defs.Passed.{has_zone}
use Rattle.shunt_blocks.specs.defs.Least.{lesser}
use Rattle.shunt_zones.specs.defs.Meetings.{least_of, meet_of, meets_among}

min_more : (a b c : ℕ) → min (min a b) c ≡ min a (min b c)
min_more a b c = grind arith

pub lesser_none : (a : Option ℕ) → lesser a None ≡ a
lesser_none None = refl
lesser_none (Some a) = refl

lesser_more : (a b c : Option ℕ) → lesser (lesser a b) c ≡ lesser a (lesser b c)
lesser_more None b c = refl
lesser_more (Some a) None c = refl
lesser_more (Some a) (Some b) None = refl
lesser_more (Some a) (Some b) (Some c) = ap Some (min_more a b c)

abbrev pub left : List ℕ → List ℕ → ℕ → Option ℕ
left other own i = least_of (filter (has_zone other) (drop i own))

pub one_zone : (other own : List ℕ) (i d : ℕ) (least : Option ℕ) → i < length own
    → lesser (if has_zone other (get_or own i d) then lesser least (Some (get_or own i d)) else least) (left other own (i + 1)) ≡ lesser least (left other own i)
one_zone other own i d least lt =
    let x = get_or own i d in
    let rest = drop (i + 1) own in
    let now = ap (λ l. lesser least (least_of (filter (has_zone other) l))) (drop_more own i d lt) in
    ⊎_elim
    (λ t. ap (λ o. lesser o (left other own (i + 1))) (cond-true (has_zone other x) (lesser least (Some x)) least t) ∙ lesser_more least (Some x) (left other own (i + 1))
    ∙ ap (λ l. lesser least (least_of l)) (sym (filter_yes (has_zone other) x rest t)) ∙ sym now)
    (λ f. ap (λ o. lesser o (left other own (i + 1))) (cond-false (has_zone other x) (lesser least (Some x)) least f)
    ∙ ap (λ l. lesser least (least_of l)) (sym (filter_no (has_zone other) x rest f)) ∙ sym now)
    (cases_Bool (has_zone other x))

-- the moves after one
pub later_is : (moves : List Passing) (k : ℕ) → take (length moves - k) (drop k moves) ≡ drop k moves
later_is moves k = take_all (length moves - k) (drop k moves) (omega (arith, length-drop k moves))

pub one_move : (moves later : List Passing) (i : ℕ) (first d : Passing) (meets more : List Meet) → i < length moves → first ≡ get_or moves i d → later ≡ drop (i + 1) moves
    → more ≡ meets ++ filter_map (meet_of first) later
    → more ++ meets_among (drop (i + 1) moves) ≡ meets ++ meets_among (drop i moves)
one_move moves later i first d meets more lt at is grown =
    let met = filter_map (meet_of (get_or moves i d)) (drop (i + 1) moves) in
    ap (λ l. l ++ meets_among (drop (i + 1) moves)) (grown ∙ ap (λ l. meets ++ filter_map (meet_of first) l) is ∙ ap (λ a. meets ++ filter_map (meet_of a) (drop (i + 1) moves)) at)
    ∙ append_assoc meets met (meets_among (drop (i + 1) moves))
    ∙ ap (λ l. meets ++ meets_among l) (sym (drop_more moves i d lt))
