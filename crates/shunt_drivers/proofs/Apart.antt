-- No two moves have one word and one id.
use Rattle.std.proofs.Common.{◌≡◌, ◌≢◌, ℕ, zero, suc, ◌<◌, Bool, true, false, not, List, [], ◌∷◌, get_or, length, map, sym, subst, ap, ◌∙◌, arith}
use Rattle.std.specs.Prelude.{All, AllPairs, filter, if◌then◌else◌}
use Rattle.std.specs.List.{AllByRecursion}
use Rattle.std.proofs.lemmas.List.{get_or-map, length-map}
use Rattle.std.proofs.lemmas.List.Kept.{AllPairs-cons, AllPairs-filter}
use Rattle.shunt_lists.specs.defs.Members.{AreDistinct}
use Rattle.shunt_lists.proofs.Lists.{no_pairs}
use Rattle.shunt_base.specs.declared.keys.Stay.{Stay}
use Rattle.shunt_base.specs.defs.Keys.{AreStays}
use Rattle.shunt_stays.specs.defs.Events.{Move, entry_of, leave_of, key_before, insert_by_key, in_order}
use Rattle.shunt_instance.specs.defs.Instance.{Night}
use Rattle.shunt_blocks.specs.declared.records.Block.{Block}
use Rattle.shunt_blocks.specs.defs.Lists.{stays_of}
use Rattle.shunt_tracks.specs.declared.run.Event.{Event}
use Rattle.shunt_tracks.specs.defs.Answer.{event_of}
use Rattle.shunt_zones.specs.defs.Moves.{has_been, events_of, moves_of}
use Rattle.shunt_drivers.specs.defs.RosterFormat.{MoveName, name_of, no_move}

abbrev own : Move → MoveName
own m = (m.key.enters, m.key.id)

abbrev Fresh : MoveName → List Move → Type 0
Fresh name all = AllByRecursion (λ (m : Move). name ≢ own m) all

abbrev Differ : List Move → Type 0
Differ [] = Unit {0}
Differ (m ∷ all) = Fresh (own m) all × Differ all

-- ---- a move is put among others

fresh_if : (b : Bool) (name : MoveName) (xs ys : List Move) → Fresh name xs → Fresh name ys → Fresh name (if b then xs else ys)
fresh_if true name xs ys f g = f
fresh_if false name xs ys f g = g

fresh_insert : (name : MoveName) (m : Move) (all : List Move) → name ≢ own m → Fresh name all → Fresh name (insert_by_key m all)
fresh_insert name m [] new f = (new, tt)
fresh_insert name m (n ∷ all) new f = fresh_if (key_before m.key n.key) name (m ∷ n ∷ all) (n ∷ insert_by_key m all) (new, f) (f.0, fresh_insert name m all new f.1)

differ_if : (b : Bool) (xs ys : List Move) → Differ xs → Differ ys → Differ (if b then xs else ys)
differ_if true xs ys f g = f
differ_if false xs ys f g = g

differ_insert : (m : Move) (all : List Move) → Fresh (own m) all → Differ all → Differ (insert_by_key m all)
differ_insert m [] f d = (tt, tt)
differ_insert m (n ∷ all) f d =
    differ_if (key_before m.key n.key) (m ∷ n ∷ all) (n ∷ insert_by_key m all) (f, d)
    (fresh_insert (own n) m all (λ e. f.0 (sym e)) d.0, differ_insert m all f.1 d.1)

-- ---- those of stays

fresh_order : (name : MoveName) (stays : List Stay) → AreStays stays → AllByRecursion (λ (t : Stay). name.1 ≢ t.id) stays → Fresh name (in_order stays)
fresh_order name [] a new = tt
fresh_order name (t ∷ stays) a new =
    fresh_insert name (entry_of t) (insert_by_key (leave_of t) (in_order stays)) (λ e. new.0 (ap (λ (x : MoveName). x.1) e ∙ a.0.enter_id))
    (fresh_insert name (leave_of t) (in_order stays) (λ e. new.0 (ap (λ (x : MoveName). x.1) e ∙ a.0.leave_id)) (fresh_order name stays a.2 new.1))

two_words : (b c : Bool) → b ≡ true → c ≡ false → b ≡ c → ⊥
two_words b c t f e = absurd cc

own_id : (id other : ℕ) (stays : List Stay) → id ≡ other → AllByRecursion (λ (t : Stay). other ≢ t.id) stays → AllByRecursion (λ (t : Stay). id ≢ t.id) stays
own_id id other stays e new = subst (λ (k : ℕ). AllByRecursion (λ (t : Stay). k ≢ t.id) stays) (sym e) new

order_differs : (stays : List Stay) → AreStays stays → Differ (in_order stays)
order_differs [] a = tt
order_differs (s ∷ stays) a =
    let rest = in_order stays in
    let here = a.0 in
    let leave = differ_insert (leave_of s) rest (fresh_order (own (leave_of s)) stays a.2 (own_id s.leave.id s.id stays here.leave_id a.1)) (order_differs stays a.2) in
    let others = fresh_order (own (entry_of s)) stays a.2 (own_id s.enter.id s.id stays here.enter_id a.1) in
    differ_insert (entry_of s) (insert_by_key (leave_of s) rest)
    (fresh_insert (own (entry_of s)) (leave_of s) rest (λ e. two_words s.enter.enters s.leave.enters here.enters here.leaves (ap (λ (x : MoveName). x.0) e)) others) leave

-- ---- the moves of a plan

abbrev AreTwo : Event → Event → Type 0
AreTwo e f = name_of e ≢ name_of f

fresh_events : (m : Move) (all : List Move) → Fresh (own m) all → All (AreTwo (event_of m)) (map event_of all)
fresh_events m [] f k d lt = absurd (omega (arith, lt))
fresh_events m (n ∷ all) f zero d lt = f.0
fresh_events m (n ∷ all) f (suc k) d lt = fresh_events m all f.1 k d (omega (arith, lt))

events_differ : (all : List Move) → Differ all → AllPairs AreTwo (map event_of all)
events_differ [] d = no_pairs AreTwo
events_differ (m ∷ all) d = AllPairs-cons AreTwo (event_of m) (map event_of all) (fresh_events m all d.0) (events_differ all d.1)

names_differ : (events : List Event) → AllPairs AreTwo events → AreDistinct (map name_of events)
names_differ events all = λ i j d lt small e.
    let inside : j < length events = omega (arith, small, length-map events name_of) in
    let first : get_or (map name_of events) i d ≡ name_of (get_or events i no_move) = get_or-map name_of events i no_move d (omega (arith, lt, inside)) in
    let second : get_or (map name_of events) j d ≡ name_of (get_or events j no_move) = get_or-map name_of events j no_move d inside in
    all i j no_move lt inside (sym first ∙ e ∙ second)

pub moves_apart : (night : Night) (blocks : List Block) → AreStays (stays_of night blocks) → AreDistinct (map name_of (moves_of night blocks))
unfolding moves_of events_of
moves_apart night blocks a =
    names_differ (filter (λ e. not (has_been night blocks e.key)) (map event_of (in_order (stays_of night blocks))))
    (AllPairs-filter AreTwo (λ e. not (has_been night blocks e.key)) (map event_of (in_order (stays_of night blocks)))
    (events_differ (in_order (stays_of night blocks)) (order_differs (stays_of night blocks) a)))
