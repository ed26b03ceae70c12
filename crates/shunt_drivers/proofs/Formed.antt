-- What the records of a crew file and of a roster state is formed.
use Rattle.std.proofs.Common.{◌≡◌, ◌≢◌, ℕ, ◌<◌, ◌^◌, ◌&&◌, true, List, [], ◌∷◌, ◌++◌, length, map, refl, sym, subst, ap, arith}
use Rattle.std.specs.Prelude.{Ok, Some, bytes_eq, All, ◌==◌, position, codes}
use Rattle.std.specs.Option.{unwrap_or}
use Rattle.std.proofs.lemmas.Bool.{ltb-true, not-true, and_from, eq-eqb}
use Rattle.std.proofs.lemmas.List.{length_push}
use Rattle.std.proofs.lemmas.List.Elements.{All-nil, All-push}
use Rattle.std.proofs.lemmas.List.Quantifiers.{position-Some}
use Rattle.std.proofs.lemmas.Option.{none-some}
use Rattle.shunt_lists.specs.defs.Members.{In, AreDistinct}
use Rattle.shunt_lists.proofs.Lists.{no_pairs}
use Rattle.shunt_lists.proofs.Members.{in_map}
use Rattle.shunt_base.proofs.Sides.{same_side_itself}
use Rattle.shunt_base.specs.defs.Sides.{same_side}
use Rattle.shunt_base.specs.defs.Spelling.{decimal_of}
use Rattle.shunt_rows.specs.defs.Records.{at}
use Rattle.shunt_rows.specs.defs.Checks.{answer}
use Rattle.shunt_rows.specs.defs.Fields.{is_word, side_in, enters_of}
use Rattle.shunt_rows.specs.defs.Formats.{reading}
use Rattle.shunt_rows.proofs.Answered.{says, in_either}
use Rattle.shunt_rows.proofs.KeptStates.{all_kept, formed}
use Rattle.shunt_rows.proofs.Named.{distinct_push}
use Rattle.shunt_rows.proofs.Spelled.{there, within}
use Rattle.shunt_instance.specs.declared.records.Station.{Station}
use Rattle.shunt_tracks.specs.declared.run.Event.{Event}
use Rattle.shunt_zones.specs.declared.ways.Way.{Way}
use Rattle.shunt_zones.specs.defs.ZonesFormat.{way_from, way_in}
use Rattle.shunt_drivers.specs.declared.records.Takes.{Takes}
use Rattle.shunt_drivers.specs.declared.records.Crew.{Crew}
use Rattle.shunt_drivers.specs.declared.records.Duty.{Duty}
use Rattle.shunt_drivers.specs.defs.CrewFormat.{CrewDraft, no_crew, way_of, takes_over, is_over, stands, first_of, takes_in, takes_of, else_of, later_of, crew_of, crew_format, AreMinutes, IsTakes, IsCrew}
use Rattle.shunt_drivers.specs.defs.RosterFormat.{MoveName, name_of, named_by, is_one, move_named, no_move, driver_in, move_in, duty_by, duty_of, roster_first, duties_of, roster_later, roster_format, IsSpelled, IsRoster}
use Rattle.shunt_drivers.proofs.MoveNames.{one_tells, tells_one, found_in, number_small}
use Rattle.shunt_lists.proofs.Options.{some_same}

-- ---- crews

record IsDraft (s : Station) (d : CrewDraft) : Type 0 where
  takes : All (IsTakes s) d.takes
  ways_differ : AreDistinct (map way_of d.takes)
  other : (minutes : ℕ) → d.other ≡ Some minutes → AreMinutes minutes

over_itself : (w : Way) (t : Takes) → way_of t ≡ w → is_over w t ≡ true
over_itself w t e =
    subst (λ (v : Way). (t.platform.0 == v.platform.0 && t.track.0 == v.track.0 && same_side t.side v.side) ≡ true) e
    (and_from _ _ (and_from _ _ (eq-eqb t.platform.0 t.platform.0 refl) (eq-eqb t.track.0 t.track.0 refl)) (same_side_itself t.side))

takes_formed : (s : Station) (n : ℕ) (d t : CrewDraft) (row : List (List ℕ)) → IsDraft s d → answer n (takes_of s d row) ≡ Ok t → IsDraft s t
unfolding takes_of way_in takes_in stands
takes_formed s n d t row f e =
    let all = says n (takes_of s d row) t e in
    let p = all.0.1 in
    let k = p.1 in
    let side = k.1 in
    let route = side.1 in
    let new = route.1 in
    let number = new.1 in
    let range = number.1 in
    let platform = position (λ x. bytes_eq x (at row 2)) s.platforms in
    let track = position (λ x. bytes_eq x.name (at row 3)) s.tracks in
    let minutes = unwrap_or (decimal_of (at row 5)) 0 in
    let way : Way = way_from (unwrap_or platform 0) (unwrap_or track 0) (side_in row 4).value in
    let y : Takes = takes_over way minutes in
    let is : IsTakes s y = record {
      platform = (position-Some (λ x. bytes_eq x (at row 2)) s.platforms (unwrap_or platform 0) [] (there 0 platform p.0)).0;
      track = (position-Some (λ x. bytes_eq x.name (at row 3)) s.tracks (unwrap_or track 0) (record { name = []; length = 0; side_a = true; side_b = true }) (there 0 track k.0)).0;
      route = route.0;
      minutes = within 1 120 minutes range.0;
    } in
    let next : CrewDraft = record d { takes = d.takes ++ y ∷ [] } in
    let grown : IsDraft s next = record {
      takes = All-push (IsTakes s) d.takes y f.takes is;
      ways_differ = distinct_push way_of (is_over way) d.takes y (λ x same. over_itself way x same) f.ways_differ (not-true _ new.0);
      other = f.other;
    } in
    subst (IsDraft s) all.1 grown

else_formed : (s : Station) (n : ℕ) (d t : CrewDraft) (row : List (List ℕ)) → IsDraft s d → answer n (else_of d row) ≡ Ok t → IsDraft s t
unfolding else_of
else_formed s n d t row f e =
    let all = says n (else_of d row) t e in
    let minutes = unwrap_or (decimal_of (at row 2)) 0 in
    let range = within 1 120 minutes all.0.1.1.1.0 in
    let next : CrewDraft = record d { other = Some minutes } in
    let is : IsDraft s next = record { takes = f.takes; ways_differ = f.ways_differ; other = λ other same. subst AreMinutes (some_same minutes other same) range } in
    subst (IsDraft s) all.1 is

later_formed : (s : Station) (n : ℕ) (d t : CrewDraft) (row : List (List ℕ)) → IsDraft s d → answer n (later_of s d row) ≡ Ok t → IsDraft s t
unfolding later_of
later_formed s n d t row f =
    in_either n (is_word row (codes "takes")) _ _ t (IsDraft s t) (λ w. takes_formed s n d t row f)
    (in_either n (is_word row (codes "else")) _ _ t (IsDraft s t) (λ w. else_formed s n d t row f) (λ e. absurd cc))

none_formed : (s : Station) → IsDraft s no_crew
none_formed s = record { takes = All-nil (IsTakes s); ways_differ = no_pairs (λ m n. m ≢ n); other = λ minutes e. absurd (none-some minutes e) }

first_formed : (s : Station) (d : CrewDraft) (row : List (List ℕ)) → answer 1 (first_of row) ≡ Ok d → IsDraft s d
unfolding first_of
first_formed s d row e = subst (IsDraft s) (says 1 (first_of row) d e).1 (none_formed s)

pub crew_formed : (s : Station) (rows : List (List (List ℕ))) (c : Crew) → reading (crew_format s) rows ≡ Ok c → IsCrew s c
crew_formed s rows c e =
    let l = all_kept (crew_format s) (IsDraft s) (first_formed s) (λ n d t row f is. later_formed s n d t row f is) rows c e in
    let is : IsCrew s (crew_of l.state) = record {
      takes = l.has.takes;
      ways_differ = l.has.ways_differ;
      other = l.has.other (unwrap_or l.state.other 0)
          (there 0 l.state.other l.whole);
    } in
    subst (IsCrew s) l.value is

-- ---- rosters

duty_formed : (moves : List Event) (n : ℕ) (duties more : List Duty) (row : List (List ℕ)) → IsRoster moves duties → answer n (duties_of moves duties row) ≡ Ok more
    → IsRoster moves more
unfolding duties_of duty_of driver_in move_in
duty_formed moves n duties more row f e =
    let all = says n (duties_of moves duties row) more e in
    let room = all.0.1 in
    let number = room.1 in
    let range = number.1 in
    let word = range.1 in
    let id = word.1 in
    let known = id.1 in
    let new = known.1 in
    let driver = unwrap_or (decimal_of (at row 2)) 0 in
    let name : MoveName = (unwrap_or (enters_of (at row 3)) true, unwrap_or (decimal_of (at row 4)) 0) in
    let m : Event = unwrap_or (move_named name moves) no_move in
    let found = found_in (λ x. is_one (name_of x) name) moves m (there no_move (move_named name moves) known.0) in
    let named : name_of m ≡ name = one_tells (name_of m) name found.1 in
    let d : Duty = duty_by driver m in
    let few = ltb-true (length duties) 800 room.0 in
    let spelled : IsSpelled d = record {
      first = (within 1 800 driver range.0).0;
      last = (within 1 800 driver range.0).1;
      id = subst (λ (k : ℕ). k < 10 ^ 18) (sym (ap (λ (x : MoveName). x.1) named)) (number_small (at row 4) name.1 (there 0 (decimal_of (at row 4)) id.0));
    } in
    let is : IsRoster moves (duties ++ d ∷ []) = record {
      few = omega (arith, few, length_push duties d);
      spelled = All-push IsSpelled duties d f.spelled spelled;
      of_moves = record {
        each = All-push (λ x. In (named_by x) (map name_of moves)) duties d f.of_moves.each (in_map name_of moves m found.0);
        once = distinct_push named_by (λ x. is_one (named_by x) (name_of m)) duties d (λ x same. tells_one (named_by x) (name_of m) same) f.of_moves.once (not-true _ new.0);
      };
    } in
    subst (IsRoster moves) all.1 is

roster_later_formed : (moves : List Event) (n : ℕ) (duties more : List Duty) (row : List (List ℕ)) → IsRoster moves duties → answer n (roster_later moves duties row) ≡ Ok more
    → IsRoster moves more
unfolding roster_later
roster_later_formed moves n duties more row f = in_either n (is_word row (codes "duty")) _ _ more (IsRoster moves more) (λ w. duty_formed moves n duties more row f)
    (λ e. absurd cc)

no_duties : (moves : List Event) → IsRoster moves []
no_duties moves = record {
  few = omega arith;
  spelled = All-nil IsSpelled;
  of_moves = record { each = All-nil (λ d. In (named_by d) (map name_of moves)); once = no_pairs (λ m n. m ≢ n) };
}

roster_first_formed : (moves : List Event) (duties : List Duty) (row : List (List ℕ)) → answer 1 (roster_first row) ≡ Ok duties → IsRoster moves duties
unfolding roster_first
roster_first_formed moves duties row e = subst (IsRoster moves) (says 1 (roster_first row) duties e).1 (no_duties moves)

pub roster_formed : (moves : List Event) (rows : List (List (List ℕ))) (duties : List Duty) → reading (roster_format moves) rows ≡ Ok duties → IsRoster moves duties
roster_formed moves = formed (roster_format moves) (IsRoster moves) (IsRoster moves) (roster_first_formed moves)
    (λ n duties more row f e. roster_later_formed moves n duties more row f e) (λ duties is. is)
