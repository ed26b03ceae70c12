-- The records of zones state them.
use Rattle.std.proofs.Common.{◌≡◌, ℕ, ◌<◌, true, false, not, List, [], ◌∷◌, ◌++◌, length, map, refl, sym, ap, subst, ◌∙◌, arith}
use Rattle.std.specs.Prelude.{Ok, bytes_eq, ◌==◌, Some, position, slice_index_or}
use Rattle.std.specs.Option.{is_some, unwrap_or}
use Rattle.std.proofs.lemmas.List.{append-nil, map-id, length-map}
use Rattle.std.proofs.lemmas.Bool.{and_parts, eqb-true}
use Rattle.std.proofs.lemmas.Option.{slice_get-get_or}
use Rattle.shunt_lists.specs.defs.Members.{AreDistinct}
use Rattle.shunt_base.proofs.Names.{name_read}
use Rattle.shunt_base.proofs.Sides.{same_side_tells}
use Rattle.shunt_base.specs.declared.ids.Side.{Side}
use Rattle.shunt_base.specs.declared.ids.Side.TheVariants.{A}
use Rattle.shunt_base.specs.defs.Sides.{same_side}
use Rattle.shunt_base.specs.defs.Spelling.{IsName}
use Rattle.shunt_rows.specs.defs.Checks.{answer}
use Rattle.shunt_rows.specs.defs.Fields.{is_within}
use Rattle.shunt_rows.specs.defs.Formats.{reading}
use Rattle.shunt_rows.specs.defs.Records.{records_of, text_of_rows, ReadsBack}
use Rattle.shunt_rows.specs.defs.Written.{Written}
use Rattle.shunt_rows.specs.defs.Records.{text_of_row}
use Rattle.shunt_rows.proofs.Again.{again}
use Rattle.shunt_rows.proofs.Answered.{holding}
use Rattle.shunt_rows.proofs.Named.{by_name, not_before, of_middle, fewer}
use Rattle.shunt_rows.proofs.Plain.{side_read}
use Rattle.shunt_rows.proofs.Sections.{section, section_then, all_read}
use Rattle.shunt_rows.proofs.Spelled.{number_read}
use Rattle.shunt_rows.proofs.Texts.{row_written, rows_written}
use Rattle.shunt_instance.specs.declared.records.Track.{Track}
use Rattle.shunt_instance.specs.declared.records.Station.{Station}
use Rattle.shunt_instance.specs.defs.Wellformed.{IsStation}
use Rattle.shunt_instance.proofs.Found.{found_there}
use Rattle.shunt_zones.specs.declared.records.Over.{Over}
use Rattle.shunt_zones.specs.declared.records.Zones.{Zones}
use Rattle.shunt_zones.specs.defs.ZonesFormat.{has_route, way_from, way_in, over_way, is_same, stands, first_of, zone_of, over_in, over_of, later_of, zones_format, IsOverWay, IsZones}
use Rattle.shunt_zones.specs.defs.ZonesRows.{head_row, zone_row, over_row, rows_of, ReadsAsZones}
use Rattle.shunt_zones.proofs.Plain.{zones_plain}

-- the parts of zones that were read
abbrev partial : List (List ℕ) → List Over → Zones
partial names over = record { names = names; over = over }

zone_read : (s : Station) (z : Zones) → IsZones s z → (n : ℕ) (xs : List (List ℕ)) (y : List ℕ) (zs : List (List ℕ)) → z.names ≡ xs ++ y ∷ zs
    → answer n (later_of s (partial xs []) (zone_row y)) ≡ Ok (partial (xs ++ y ∷ []) [])
unfolding later_of zone_of is_within
zone_read s z f n xs y zs e =
    let is = of_middle IsName z.names xs zs y f.names e in
    let apart : AreDistinct (map (λ p. p) (xs ++ y ∷ zs)) = subst AreDistinct (e ∙ sym (map-id (xs ++ y ∷ zs))) f.names_differ in
    let new = not_before (λ p. p) (λ p. bytes_eq p y) xs zs y (λ p. by_name y p) apart in
    let m = zone_of (partial xs []) (zone_row y) in
    holding n m.checks m.value (refl, (fewer z.names xs zs y 64 f.few e, (name_read y is, (ap not new, tt))))

-- a thing of a list is found by its name
found_named : {X : Type 0} (name : X → List ℕ) (xs : List X) (k : ℕ) (d : X) → AreDistinct (map name xs) → k < length xs
    → position (λ x. bytes_eq (name x) (slice_index_or (map name xs) k [])) xs ≡ Some k
found_named name xs k d h lt = found_there name xs (slice_index_or (map name xs) k []) k d h (slice_get-get_or (map name xs) k [] (omega (arith, lt, length-map xs name)))

-- the same of names
found_name : (names : List (List ℕ)) (k : ℕ) → AreDistinct names → k < length names → position (λ x. bytes_eq x (slice_index_or names k [])) names ≡ Some k
found_name names k h lt =
    subst (λ (l : List (List ℕ)). position (λ x. bytes_eq x (slice_index_or l k [])) names ≡ Some k) (map-id names)
    (found_named (λ (n : List ℕ). n) names k [] (subst AreDistinct (sym (map-id names)) h) lt)

abbrev some_track : Track
some_track = record { name = []; length = 0; side_a = false; side_b = false }

abbrev over_from : ℕ → ℕ → Side → ℕ → Over
over_from p t q z = over_way (way_from p t q) z

-- a test of four things that are read
four : {X : Type 0} (test : ℕ → ℕ → Side → ℕ → X) (p q t u : ℕ) (a b : Side) (i j : ℕ) → p ≡ q → t ≡ u → a ≡ b → i ≡ j → test p t a i ≡ test q u b j
four test p q t u a b i j e f g h = ap (λ k. test k t a i) e ∙ ap (λ k. test q k a i) f ∙ ap (λ k. test q u k i) g ∙ ap (λ k. test q u b k) h

same_tells : (o p : Over) → is_same o p ≡ true → p ≡ o
same_tells o p e =
    let c = and_parts _ _ e in
    let d = and_parts _ (same_side o.side p.side) c.0 in
    let f = and_parts (o.platform.0 == p.platform.0) _ d.0 in
    let platform = eqb-true o.platform.0 p.platform.0 f.0 in
    let track = eqb-true o.track.0 p.track.0 f.1 in
    let zone = eqb-true o.zone p.zone c.1 in
    sym (four over_from o.platform.0 p.platform.0 o.track.0 p.track.0 o.side p.side o.zone p.zone platform track (same_side_tells o.side p.side d.1) zone)

over_read : (s : Station) (z : Zones) → IsStation s → IsZones s z → (n : ℕ) (xs : List Over) (y : Over) (zs : List Over) → z.over ≡ xs ++ y ∷ zs
    → answer n (later_of s (partial z.names xs) (over_row s z.names y)) ≡ Ok (partial z.names (xs ++ y ∷ []))
unfolding later_of over_of way_in over_in stands is_within
over_read s z f g n xs y zs e =
    let is = of_middle (IsOverWay s (length z.names)) z.over xs zs y g.over e in
    let p = found_name s.platforms y.platform.0 f.platform_names is.platform in
    let t = found_named (λ (u : Track). u.name) s.tracks y.track.0 some_track f.track_names is.track in
    let q = side_read y.side in
    let k = found_name z.names y.zone g.names_differ is.zone in
    let pv = ap (λ o. unwrap_or o 0) p in
    let tv = ap (λ o. unwrap_or o 0) t in
    let qv = ap (λ o. unwrap_or o A) q in
    let kv = ap (λ o. unwrap_or o 0) k in
    let apart : AreDistinct (map (λ o. o) (xs ++ y ∷ zs)) = subst AreDistinct (e ∙ sym (map-id (xs ++ y ∷ zs))) g.over_differ in
    let new = not_before (λ o. o) (is_same y) xs zs y (same_tells y) apart in
    let m = over_of s (partial z.names xs) (over_row s z.names y) in
    let route = four (λ a b c d. has_route s (way_from a b c)) _ y.platform.0 _ y.track.0 _ y.side y.zone y.zone pv tv qv refl ∙ is.route in
    let repeats = four (λ a b c d. not (stands xs (over_from a b c d))) _ y.platform.0 _ y.track.0 _ y.side _ y.zone pv tv qv kv ∙ ap not new in
    let same = four over_from _ y.platform.0 _ y.track.0 _ y.side _ y.zone pv tv qv kv in
    holding n m.checks m.value (refl, (ap is_some p, (ap is_some t, (ap is_some q, (route, (ap is_some k, (repeats, tt)))))))
    ∙ ap (λ (o : Over). Ok (partial z.names (xs ++ o ∷ []))) same

head_read : answer 1 (first_of head_row) ≡ Ok (partial [] [])
unfolding first_of is_within
head_read =
    let v = number_read 1 1 1 (omega arith) (omega arith) (omega arith) in
    let m = first_of head_row in
    holding 1 m.checks m.value (refl, (refl, (v.there, (v.range, tt))))

-- the records of zones state them
pub zones_back : (s : Station) (z : Zones) → IsStation s → IsZones s z → reading (zones_format s) (rows_of s z) ≡ Ok z
zones_back s z f g =
    let format = zones_format s in
    all_read format head_row _ (partial [] []) z head_read
    (section_then format zone_row (λ l. partial l []) z.names z (map (over_row s z.names) z.over) (zone_read s z g)
    (λ n. section format (over_row s z.names) (λ l. partial z.names l) z.over (over_read s z f g) n [] z.over refl) 2)
    refl

-- their text is read back
pub back_from : (s : Station) (z : Zones) → IsStation s → IsZones s z → (text bytes : List ℕ) → text ≡ text_of_rows (rows_of s z) → ReadsBack text bytes → ReadsAsZones s z bytes
back_from s z f g text bytes e back =
    let rows = back (rows_of s z) (zones_plain s z f g) e in
    record { rows = rows; value = ap (reading (zones_format s)) rows ∙ zones_back s z f g }

pub text_back : (s : Station) (z : Zones) → IsStation s → IsZones s z → ReadsAsZones s z (text_of_rows (rows_of s z))
text_back s z f g = back_from s z f g (text_of_rows (rows_of s z)) (text_of_rows (rows_of s z)) refl (λ rows plain e. ap records_of e ∙ again rows plain)

abbrev wrote : List ℕ → Written
wrote text = record { text = text; row = [] }

-- all records of zones, one part after the other
pub zones_written : (s : Station) (z : Zones) (names : List (List ℕ)) (overs : List Over) (w a b c : Written) → names ≡ z.names → overs ≡ z.over
    → w ≡ record { text = []; row = [] }
    → a ≡ record { text = w.text ++ text_of_row head_row; row = [] }
    → b ≡ record { text = a.text ++ text_of_rows (map zone_row names); row = [] }
    → c ≡ record { text = b.text ++ text_of_rows (map (over_row s names) overs); row = [] }
    → c.text ≡ text_of_rows (rows_of s z)
zones_written s z names overs w a b c hn ho h0 h1 h2 h3 =
    let all = text_of_rows (rows_of s z) in
    let i2 = h2 ∙ ap (λ l. wrote (a.text ++ text_of_rows (map zone_row l))) hn in
    let i3 = h3 ∙ ap (λ l. wrote (b.text ++ text_of_rows (map (over_row s l) overs))) hn ∙ ap (λ l. wrote (b.text ++ text_of_rows (map (over_row s z.names) l))) ho in
    sym (append-nil c.text)
    ∙ rows_written b c (map (over_row s z.names) z.over) [] all i3
    (ap (λ l. b.text ++ text_of_rows l) (append-nil (map (over_row s z.names) z.over))
    ∙ rows_written a b (map zone_row z.names) (map (over_row s z.names) z.over) all i2
    (row_written w a head_row (map zone_row z.names ++ map (over_row s z.names) z.over) all h1 (ap (λ (x : Written). x.text ++ all) h0)))
