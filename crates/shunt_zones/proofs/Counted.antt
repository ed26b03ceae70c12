-- How often minutes come.
use Rattle.std.proofs.Common.{◌≡◌, ℕ, ◌+◌, ◌<◌, Bool, true, false, max, List, [], ◌∷◌, ◌++◌, length, get_or, drop, map, sym, ap, ◌∙◌, arith}
use Rattle.std.specs.Prelude.{Option, Some, find}
use Rattle.std.proofs.lemmas.Bool.{cond-true, cond-false}
use Rattle.std.specs.List.{range_with_len}
use Rattle.std.proofs.lemmas.List.{drop_more}
use Rattle.std.proofs.lemmas.List.FromFn.{map-range_with_len_more}
use Rattle.shunt_zones.specs.declared.records.ZoneLoad.{ZoneLoad}
use Rattle.shunt_zones.specs.declared.passages.Passing.{Passing}
use Rattle.shunt_zones.specs.defs.Loads.{minutes_over, times, greatest, most_of, busiest_of, load_of}

max_more : (a b c : ℕ) → max (max a b) c ≡ max a (max b c)
max_more a b c = grind arith

pub one_time : (minutes : List ℕ) (i d most now : ℕ) → i < length minutes → now ≡ max most (times minutes (get_or minutes i d))
    → max now (greatest (map (times minutes) (drop (i + 1) minutes))) ≡ max most (greatest (map (times minutes) (drop i minutes)))
one_time minutes i d most now lt is =
    ap (λ n. max n (greatest (map (times minutes) (drop (i + 1) minutes)))) is
    ∙ max_more most (times minutes (get_or minutes i d)) (greatest (map (times minutes) (drop (i + 1) minutes)))
    ∙ ap (λ l. max most (greatest (map (times minutes) l))) (sym (drop_more minutes i d lt))

-- the first that passes a test
pub found_here : (p : ℕ → Bool) (xs : List ℕ) (i d : ℕ) → i < length xs → p (get_or xs i d) ≡ true → find p (drop i xs) ≡ Some (get_or xs i d)
found_here p xs i d lt e = ap (find p) (drop_more xs i d lt) ∙ cond-true (p (get_or xs i d)) (Some (get_or xs i d)) (find p (drop (i + 1) xs)) e

pub not_here : (p : ℕ → Bool) (xs : List ℕ) (i d : ℕ) → i < length xs → p (get_or xs i d) ≡ false → find p (drop (i + 1) xs) ≡ find p (drop i xs)
not_here p xs i d lt e = sym (ap (find p) (drop_more xs i d lt) ∙ cond-false (p (get_or xs i d)) (Some (get_or xs i d)) (find p (drop (i + 1) xs)) e)

abbrev load_from : ℕ → Option ℕ → ℕ → ZoneLoad
load_from n o k = record { moves = n; busiest = o; most = k }

-- the loads of one more zone
pub one_load : (moves : List Passing) (zone : ℕ) (minutes : List ℕ) (count most : ℕ) (busiest : Option ℕ) (loads more : List ZoneLoad) → minutes ≡ minutes_over zone moves
    → count ≡ length minutes → busiest ≡ busiest_of minutes → most ≡ most_of minutes
    → loads ≡ map (λ z. load_of (minutes_over z moves)) (range_with_len 0 zone) → more ≡ loads ++ record { moves = count; busiest = busiest; most = most } ∷ []
    → more ≡ map (λ z. load_of (minutes_over z moves)) (range_with_len 0 (zone + 1))
one_load moves zone minutes count most busiest loads more are a b c so grown =
    grown
    ∙ ap (λ (l : List ZoneLoad). l ++ record { moves = count; busiest = busiest; most = most } ∷ []) so
    ∙ ap (λ (x : ZoneLoad). map (λ z. load_of (minutes_over z moves)) (range_with_len 0 zone) ++ x ∷ [])
    (ap (λ n. load_from n busiest most) a ∙ ap (λ o. load_from (length minutes) o most) b ∙ ap (λ n. load_from (length minutes) (busiest_of minutes) n) c ∙ ap load_of are)
    ∙ sym (map-range_with_len_more (λ z. load_of (minutes_over z moves)) 0 zone zone (omega arith))
