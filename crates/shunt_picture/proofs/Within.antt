-- The stays on a track are those of blocks within their trains.
use Rattle.std.proofs.Common.{◌≡◌, Bool, true, false, List, [], ◌∷◌, map, sym, subst, ◌∙◌}
use Rattle.std.specs.Prelude.{All, Option, Some, None, ◌==◌, if◌then◌else◌}
use Rattle.std.specs.List.{cons_option}
use Rattle.std.proofs.lemmas.List.Elements.{All-nil, All-cons, All-head, All-tail}
use Rattle.shunt_base.specs.declared.ids.TrackId.{TrackId}
use Rattle.shunt_base.specs.declared.keys.Stay.{Stay}
use Rattle.shunt_instance.specs.defs.Instance.{Night}
use Rattle.shunt_blocks.specs.declared.records.Block.{Block}
use Rattle.shunt_blocks.specs.defs.Shapes.{IsWithinTrains, IsInRange}
use Rattle.shunt_blocks.specs.defs.Stays.{stay_of}
use Rattle.shunt_picture.specs.declared.track_stays.Standing.{Standing}
use Rattle.shunt_picture.specs.declared.rows.StaySeat.{StaySeat}
use Rattle.shunt_picture.specs.defs.Rows.{standing_with, standings_on}
use Rattle.shunt_picture.proofs.Seated.{all_back}

abbrev pub IsOfTrains : Night → Standing → Type 0
IsOfTrains night s = IsWithinTrains night s.block

by_test : (night : Night) (t : Bool) (x : Standing) (rest : List Standing) → IsOfTrains night x → All (IsOfTrains night) rest
    → All (IsOfTrains night) (cons_option (if t then Some x else None) rest)
by_test night true x rest w all = All-cons (IsOfTrains night) x rest w all
by_test night false x rest w all = all

kept : (night : Night) (track : TrackId) (b : Block) (o : Option Stay) (rest : List Standing) → IsWithinTrains night b → All (IsOfTrains night) rest
    → All (IsOfTrains night) (cons_option (standing_with track b o) rest)
kept night track b None rest w all = all
kept night track b (Some s) rest w all = by_test night (s.track.0 == track.0) (record { block = b; stay = s }) rest w all

pub standings_within : (night : Night) (track : TrackId) (blocks : List Block) → All (IsInRange night) blocks → All (IsOfTrains night) (standings_on night track blocks)
standings_within night track [] h = All-nil (IsOfTrains night)
standings_within night track (b ∷ blocks) h =
    kept night track b (stay_of night b) (standings_on night track blocks) (All-head (IsInRange night) b blocks h).within
    (standings_within night track blocks (All-tail (IsInRange night) b blocks h))

-- and so are the seats that are made of them
pub seats_within : (night : Night) (standings seen : List Standing) (seats given : List StaySeat) → All (IsOfTrains night) standings → seen ≡ standings
    → map (λ s. s.standing) seats ≡ seen → given ≡ seats → All (λ s. IsWithinTrains night s.standing.block) given
seats_within night standings seen seats given all is same of =
    subst (λ (l : List StaySeat). All (λ s. IsWithinTrains night s.standing.block) l) (sym of)
    (all_back (IsOfTrains night) (λ (s : StaySeat). s.standing) seats (subst (All (IsOfTrains night)) (sym (same ∙ is)) all))
