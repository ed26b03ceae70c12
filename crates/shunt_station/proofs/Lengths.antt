-- The text of a station, and its length.
use Rattle.std.proofs.Common.{◌≡◌, ℕ, suc, ◌+◌, ◌*◌, ◌<◌, ◌≤◌, Bool, true, false, ◌||◌, List, [], ◌∷◌, ◌++◌, length, map, get_or, refl, sym, ap, ◌∙◌, subst, arith}
use Rattle.std.specs.Prelude.{All}
use Rattle.std.specs.List.{list_any, IsDistinct}
use Rattle.std.proofs.lemmas.Bool.{ne_eqb, eqb-true}
use Rattle.std.proofs.lemmas.List.{map-id, get_or-map, length-map, append-nil}
use Rattle.std.proofs.lemmas.Fmt.{length-decimal-le}
use Rattle.std.proofs.lemmas.Map.Keys.{IsDistinct-from_apart}
use Rattle.std.proofs.lemmas.Map.Steps.{length-le_from_distinct_below}
use Rattle.std.proofs.Math.Dec.{eqb}
use Rattle.shunt_lists.specs.defs.Members.{AreDistinct}
use Rattle.shunt_base.specs.declared.ids.Side.{Side}
use Rattle.shunt_base.specs.declared.ids.Side.TheVariants.{A, B}
use Rattle.shunt_base.specs.defs.Spelling.{IsName}
use Rattle.shunt_rows.specs.defs.Records.{text_of_row, text_of_rows}
use Rattle.shunt_rows.specs.defs.Written.{Written}
use Rattle.shunt_rows.proofs.Widths.{row_width, rows_width}
use Rattle.shunt_instance.specs.declared.records.UnitType.{UnitType}
use Rattle.shunt_instance.specs.declared.records.Track.{Track}
use Rattle.shunt_instance.specs.declared.records.Route.{Route}
use Rattle.shunt_instance.specs.declared.records.Permit.{Permit}
use Rattle.shunt_instance.specs.declared.records.Station.{Station}
use Rattle.shunt_instance.specs.defs.Words.{way_of}
use Rattle.shunt_instance.specs.defs.Wellformed.{IsUnitType, IsTrack, IsRoute, IsPermit, IsStation}
use Rattle.shunt_rows.proofs.Plain.{side_short}
use Rattle.shunt_rows.proofs.Texts.{join_short, one_short, row_written, rows_written}
use Rattle.shunt_station.specs.defs.WrittenRows.{ends_text, head_row, type_row, platform_row, track_row, route_row, permit_row, cost_row, rows_of, rest_rows}
use Rattle.shunt_station.proofs.Plain.{platform_named, track_named, type_named, plain_head, plain_type, plain_platform, plain_track, plain_route, plain_permit, plain_cost}
use Rattle.shunt_station.proofs.Ids.{platform_id, track_id, type_id, way_from, permit_from}

type_short : (t : UnitType) → IsUnitType t → length (text_of_row (type_row t)) ≤ 32
type_short t is =
    let w = row_width (type_row t) (plain_type t is) in
    let n = is.name.1 in
    let a = length-decimal-le 4 t.length (omega arith) (let l = is.long in omega arith) (let l = is.long in omega arith) in
    let b = length-decimal-le 4 t.turn (omega arith) (let l = is.turn in omega arith) (let l = is.turn in omega arith) in
    omega (arith, w, n, a, b)

platform_short : (p : List ℕ) → IsName p → length (text_of_row (platform_row p)) ≤ 26
platform_short p is = let w = row_width (platform_row p) (plain_platform p is) in let n = is.1 in omega (arith, w, n)

ends_short : (a b : Bool) → length (ends_text a b) ≤ 2
ends_short true true = omega arith
ends_short true false = omega arith
ends_short false b = omega arith

track_short : (t : Track) → IsTrack t → length (text_of_row (track_row t)) ≤ 32
track_short t is =
    let w = row_width (track_row t) (plain_track t is) in
    let n = is.name.1 in
    let a = length-decimal-le 5 t.length (omega arith) (let l = is.long in omega arith) (let l = is.long in omega arith) in
    let b = ends_short t.side_a t.side_b in
    omega (arith, w, n, a, b)

route_short : (s : Station) → IsStation s → (r : Route) → IsRoute s r → length (text_of_row (route_row s r)) ≤ 50
route_short s f r is =
    let w = row_width (route_row s r) (plain_route s f r is) in
    let n = (platform_named s r.platform f is.platform).1 in
    let m = (track_named s r.track f is.track).1 in
    let a = length-decimal-le 7 r.cost (omega arith) (let l = is.cost in omega arith) (let l = is.cost in omega arith) in
    let b = side_short r.side in
    omega (arith, w, n, m, a, b)

permit_short : (s : Station) → IsStation s → (p : Permit) → IsPermit s p → length (text_of_row (permit_row s p)) ≤ 41
permit_short s f p is =
    let w = row_width (permit_row s p) (plain_permit s f p is) in
    let n = (track_named s p.track f is.track).1 in
    let m = (type_named s p.kind f is.kind).1 in
    omega (arith, w, n, m)

cost_short : (s : Station) → IsStation s → length (text_of_row (cost_row s)) ≤ 29
cost_short s f =
    let w = row_width (cost_row s) (plain_cost s f) in
    let a = length-decimal-le 7 s.split (omega arith) (let l = f.split in omega arith) (let l = f.split in omega arith) in
    let b = length-decimal-le 7 s.couple (omega arith) (let l = f.couple in omega arith) (let l = f.couple in omega arith) in
    let c = length-decimal-le 7 s.unparked (omega arith) (let l = f.unparked in omega arith) (let l = f.unparked in omega arith) in
    omega (arith, w, a, b, c)

head_short : (s : Station) → IsStation s → length (text_of_row (head_row s)) ≤ 27
head_short s f =
    let w = row_width (head_row s) (plain_head s f) in
    let n = f.name.1 in
    let a = length-decimal-le 1 2 (omega arith) (omega arith) (omega arith) in
    omega (arith, w, n, a)

below_all : (n : ℕ) (xs : List ℕ) → All (λ x. x < n) xs → (q : ℕ) → list_any (eqb q) xs ≡ true → q < n
below_all n [] all q e = absurd cc
below_all n (x ∷ xs) all q e = here (eqb q x) refl (λ f. below_all n xs (λ k d lt. all (suc k) d (omega arith)) q f)
  where
    here : (b : Bool) → eqb q x ≡ b → (list_any (eqb q) xs ≡ true → q < n) → q < n
    here true is rest = subst (λ y. y < n) (sym (eqb-true q x is)) (all 0 x (omega arith))
    here false is rest = rest (sym (ap (λ b. b || list_any (eqb q) xs) is) ∙ e)

-- distinct things that have numbers below n, and that their numbers tell apart, are at most n
few : {X Y : Type 0} (P : X → Type 0) (key : X → Y) (number : X → ℕ) (n : ℕ) (nothing : X) (xs : List X) (none : Y) → AreDistinct (map key xs) → All P xs
    → ((x : X) → P x → number x < n) → ((x y : X) → P x → P y → number x ≡ number y → key x ≡ key y) → length xs ≤ n
few P key number n nothing xs none all each small tells =
    let apart : IsDistinct eqb (map number xs) = IsDistinct-from_apart eqb (map number xs) (λ i j d lt within.
    let inside : j < length xs = omega (arith, within, length-map xs number) in
    let before : i < length xs = omega (arith, lt, inside) in
    ne_eqb (get_or (map number xs) i d) (get_or (map number xs) j d) (λ same.
    all i j none lt (omega (arith, inside, length-map xs key))
    (get_or-map key xs i nothing none before
    ∙ tells (get_or xs i nothing) (get_or xs j nothing) (each i nothing before) (each j nothing inside)
    (sym (get_or-map number xs i nothing d before) ∙ same ∙ get_or-map number xs j nothing d inside)
    ∙ sym (get_or-map key xs j nothing none inside)))) in
    let below : All (λ x. x < n) (map number xs) = λ k d lt.
    let inside : k < length xs = omega (arith, lt, length-map xs number) in
    subst (λ x. x < n) (sym (get_or-map number xs k nothing d inside)) (small (get_or xs k nothing) (each k nothing inside)) in
    let most = length-le_from_distinct_below (map number xs) n apart (below_all n (map number xs) below) in
    omega (arith, most, length-map xs number)

flag : Side → ℕ
flag A = 0
flag B = 1

flag_small : (q : Side) → flag q < 2
unfolding flag
flag_small A = omega arith
flag_small B = omega arith

flag_tells : (p q : Side) → flag p ≡ flag q → p ≡ q
unfolding flag
flag_tells A A e = refl
flag_tells A B e = absurd (omega arith)
flag_tells B A e = absurd (omega arith)
flag_tells B B e = refl

way_number : Route → ℕ
way_number r = 120 * r.platform.0 + 2 * r.track.0 + flag r.side

way_small : (s : Station) → IsStation s → (r : Route) → IsRoute s r → way_number r < 3600
unfolding way_number
way_small s f r is =
    let p = is.platform in let t = is.track in let a = f.few_platforms in let b = f.few_tracks in let c = flag_small r.side in
    omega arith

way_tells : (s : Station) → IsStation s → (r q : Route) → IsRoute s r → IsRoute s q → way_number r ≡ way_number q → way_of r ≡ way_of q
unfolding way_number
way_tells s f r q is js e =
    let t = is.track in let u = js.track in let b = f.few_tracks in let c = flag_small r.side in let d = flag_small q.side in
    let p_same : r.platform.0 ≡ q.platform.0 = omega arith in
    let t_same : r.track.0 ≡ q.track.0 = omega arith in
    let f_same : flag r.side ≡ flag q.side = omega arith in
    ap (λ k. way_from (platform_id k) r.track r.side) p_same ∙ ap (λ k. way_from q.platform (track_id k) r.side) t_same
    ∙ ap (λ k. way_from q.platform q.track k) (flag_tells r.side q.side f_same)

abbrev some_route : Route
some_route = record { platform = platform_id 0; track = track_id 0; side = A; cost = 0 }

few_routes : (s : Station) → IsStation s → length s.routes ≤ 3600
few_routes s f = few (IsRoute s) way_of way_number 3600 some_route s.routes (way_of some_route) f.ways f.routes (way_small s f) (way_tells s f)

pair_number : Permit → ℕ
pair_number p = 40 * p.track.0 + p.kind.0

pair_small : (s : Station) → IsStation s → (p : Permit) → IsPermit s p → pair_number p < 2400
unfolding pair_number
pair_small s f p is = let t = is.track in let k = is.kind in let a = f.few_tracks in let b = f.few_types in omega arith

pair_tells : (s : Station) → IsStation s → (p q : Permit) → IsPermit s p → IsPermit s q → pair_number p ≡ pair_number q → p ≡ q
unfolding pair_number
pair_tells s f p q is js e =
    let t = is.kind in let u = js.kind in let b = f.few_types in
    let t_same : p.track.0 ≡ q.track.0 = omega arith in
    let k_same : p.kind.0 ≡ q.kind.0 = omega arith in
    ap (λ k. permit_from (track_id k) p.kind) t_same ∙ ap (λ k. permit_from q.track (type_id k)) k_same

few_permits : (s : Station) → IsStation s → length s.permits ≤ 2400
few_permits s f = few (IsPermit s) (λ p. p) pair_number 2400 (permit_from (track_id 0) (type_id 0)) s.permits (permit_from (track_id 0) (type_id 0))
    (subst AreDistinct (sym (map-id s.permits)) f.permits_differ) f.permits (pair_small s f) (pair_tells s f)

-- the text of a station has at most 282,436 bytes
pub station_short : (s : Station) → IsStation s → length (text_of_rows (rows_of s)) ≤ 282436
station_short s f =
    let a = few_routes s f in let b = few_permits s f in
    let ct = f.few_types in let cp = f.few_platforms in let ck = f.few_tracks in
    let types : length (text_of_rows (map type_row s.types)) ≤ 1280 = let r = rows_width IsUnitType type_row 32 s.types type_short f.types in omega arith in
    let platforms : length (text_of_rows (map platform_row s.platforms)) ≤ 780 = let r = rows_width IsName platform_row 26 s.platforms platform_short f.platforms in omega arith in
    let tracks : length (text_of_rows (map track_row s.tracks)) ≤ 1920 = let r = rows_width IsTrack track_row 32 s.tracks track_short f.tracks in omega arith in
    let routes : length (text_of_rows (map (route_row s) s.routes)) ≤ 180000 = let r = rows_width (IsRoute s) (route_row s) 50 s.routes (route_short s f) f.routes in omega arith in
    let permits : length (text_of_rows (map (permit_row s) s.permits)) ≤ 98400 = let r = rows_width (IsPermit s) (permit_row s) 41 s.permits
    (permit_short s f) f.permits in omega arith in
    join_short (head_row s ∷ []) (rest_rows s) 27 282409 (one_short (head_row s) 27 (head_short s f))
    (join_short (map type_row s.types) (map platform_row s.platforms ++ (map track_row s.tracks
    ++ (map (route_row s) s.routes ++ (map (permit_row s) s.permits ++ cost_row s ∷ [])))) 1280 281129 types
    (join_short (map platform_row s.platforms) (map track_row s.tracks ++ (map (route_row s) s.routes ++ (map (permit_row s) s.permits ++ cost_row s ∷ []))) 780 280349 platforms
    (join_short (map track_row s.tracks) (map (route_row s) s.routes ++ (map (permit_row s) s.permits ++ cost_row s ∷ [])) 1920 278429 tracks
    (join_short (map (route_row s) s.routes) (map (permit_row s) s.permits ++ cost_row s ∷ []) 180000 98429 routes
    (join_short (map (permit_row s) s.permits) (cost_row s ∷ []) 98400 29 permits (one_short (cost_row s) 29 (cost_short s f)))))))

abbrev wrote : List ℕ → Written
wrote text = record { text = text; row = [] }

-- all records of a station, one part after the other
pub station_written : (s : Station) (ts : List UnitType) (ps : List (List ℕ)) (ks : List Track) (w a b c d e f g : Written)
    → ts ≡ s.types → ps ≡ s.platforms → ks ≡ s.tracks
    → w ≡ record { text = []; row = [] }
    → a ≡ record { text = w.text ++ text_of_row (head_row s); row = [] }
    → b ≡ record { text = a.text ++ text_of_rows (map type_row ts); row = [] }
    → c ≡ record { text = b.text ++ text_of_rows (map platform_row ps); row = [] }
    → d ≡ record { text = c.text ++ text_of_rows (map track_row ks); row = [] }
    → e ≡ record { text = d.text ++ text_of_rows (map (route_row s) s.routes); row = [] }
    → f ≡ record { text = e.text ++ text_of_rows (map (permit_row s) s.permits); row = [] }
    → g ≡ record { text = f.text ++ text_of_row (cost_row s); row = [] }
    → g.text ≡ text_of_rows (rows_of s)
station_written s ts ps ks w a b c d e f g ht hp hk h0 h1 h2 h3 h4 h5 h6 h7 =
    let all = text_of_rows (rows_of s) in
    let i2 = h2 ∙ ap (λ l. wrote (a.text ++ text_of_rows (map type_row l))) ht in
    let i3 = h3 ∙ ap (λ l. wrote (b.text ++ text_of_rows (map platform_row l))) hp in
    let i4 = h4 ∙ ap (λ l. wrote (c.text ++ text_of_rows (map track_row l))) hk in
    sym (append-nil g.text)
    ∙ row_written f g (cost_row s) [] all h7
    (rows_written e f (map (permit_row s) s.permits) _ all h6
    (rows_written d e (map (route_row s) s.routes) _ all h5
    (rows_written c d (map track_row s.tracks) _ all i4
    (rows_written b c (map platform_row s.platforms) _ all i3
    (rows_written a b (map type_row s.types) _ all i2
    (row_written w a (head_row s) (rest_rows s) all h1 (ap (λ (x : Written). x.text ++ all) h0)))))))
