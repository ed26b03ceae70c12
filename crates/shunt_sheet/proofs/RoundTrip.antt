-- The records of a sheet are plain, and state it.
use Rattle.std.proofs.Common.{◌≡◌, ℕ, ◌<◌, ◌≤◌, Bool, true, false, not, List, [], ◌∷◌, ◌++◌, length, map, get_or, refl, sym, ap, ◌∙◌, arith}
use Rattle.std.specs.Prelude.{All, Ok, Some, bytes_eq, ◌==◌, nat_le, position, slice_index_or, codes}
use Rattle.std.specs.Option.{is_some, unwrap_or}
use Rattle.std.proofs.lemmas.Bool.{eq-eqb, le-leb}
use Rattle.std.proofs.lemmas.List.{append-nil, length-map}
use Rattle.std.proofs.lemmas.List.Elements.{All-from_recursion}
use Rattle.std.proofs.lemmas.Option.{slice_get-get_or}
use Rattle.shunt_lists.proofs.Members.{all_from, split_at_member as split_in}
use Rattle.shunt_base.proofs.Minutes.{read_again}
use Rattle.shunt_base.specs.declared.ids.Side.{Side}
use Rattle.shunt_base.specs.declared.ids.Side.TheVariants.{A}
use Rattle.shunt_base.specs.defs.Spelling.{IsName}
use Rattle.shunt_rows.specs.defs.Checks.{answer}
use Rattle.shunt_rows.specs.defs.Fields.{is_within}
use Rattle.shunt_rows.specs.defs.Formats.{reading}
use Rattle.shunt_rows.specs.defs.Records.{records_of, text_of_row, text_of_rows, IsPlainRow, ArePlain, ReadsBack}
use Rattle.shunt_rows.specs.defs.Written.{Written}
use Rattle.shunt_rows.proofs.Again.{again}
use Rattle.shunt_rows.proofs.Answered.{holding}
use Rattle.shunt_rows.proofs.Named.{fewer, name_at}
use Rattle.shunt_rows.proofs.Plain.{plain_name, plain_number, plain_word, plain_side, plain_minute, plain_map, side_read, plain_move, word_read}
use Rattle.shunt_rows.proofs.Sections.{section, all_read}
use Rattle.shunt_rows.proofs.Spelled.{number_read, number_again, in_range}
use Rattle.shunt_rows.proofs.Texts.{row_written, rows_written}
use Rattle.shunt_instance.specs.declared.records.Track.{Track}
use Rattle.shunt_instance.specs.declared.records.Station.{Station}
use Rattle.shunt_instance.specs.defs.Wellformed.{IsStation}
use Rattle.shunt_instance.proofs.Found.{found_there}
use Rattle.shunt_sheet.specs.declared.records.Order.{Order}
use Rattle.shunt_sheet.specs.declared.reader.StatedMove.{StatedMove}
use Rattle.shunt_sheet.specs.defs.SheetFormat.{is_of, stands, entered_by, entry_in, has_entered, keeps_length, keeps_track, last_minute, start_in, move_in, place_in, order_in, sheet_first, more_of, sheet_later, sheet_format, MayFollow, AreOrders}
use Rattle.shunt_sheet.specs.defs.SheetRows.{head_row, order_row, rows_of, ReadsAsSheet}
use Rattle.shunt_sheet.proofs.Tests.{of_tells, unless, any_none, is_kept}

-- ---- plain records

-- the numbers of an order can be spelled, and its track is the station's
pub record IsSpelled (s : Station) (o : Order) : Type 0 where
  pub minute : o.minute < 2880
  pub id : o.id ≤ 1000000
  pub long : o.length ≤ 40000
  pub track : o.track.0 < length s.tracks

spelled : (s : Station) (before : List Order) (o : Order) → MayFollow s before o → IsSpelled s o
spelled s before o may = record { minute = may.minute; id = may.last_id; long = may.long; track = may.track }

pub track_named : (s : Station) (k : ℕ) → IsStation s → k < length s.tracks → IsName (get_or (map (λ (t : Track). t.name) s.tracks) k [])
track_named s k f lt = name_at (λ (t : Track). t.name) s.tracks k (λ i d small. (f.tracks i d small).name) lt

pub plain_order : (s : Station) → IsStation s → (o : Order) → IsSpelled s o → IsPlainRow (order_row s o)
plain_order s f o is =
    let id = is.id in
    let long = is.long in (
      omega arith,
      (
        plain_word (codes "order") refl refl,
        (
          plain_minute o.minute is.minute,
          (
            plain_move o.enters,
            (
              plain_number o.id (omega (arith, id)),
              (
                plain_number o.length (omega (arith, long)),
                (plain_name _ (track_named s o.track.0 f is.track), (plain_side o.side, tt)),
              ),
            ),
          ),
        ),
      ),
    )

pub plain_head : IsPlainRow head_row
plain_head = (omega arith, (plain_word (codes "sheet") refl refl, (plain_number 1 (omega arith), tt)))

-- each of formed orders can be spelled
pub all_spelled : (s : Station) (orders : List Order) → AreOrders s orders → All (IsSpelled s) orders
all_spelled s orders f =
    All-from_recursion (IsSpelled s) orders (all_from (IsSpelled s) orders (λ o i. let r = split_in orders o i in spelled s r.0 o (f.each r.0 o r.1 r.2)))

pub on_tracks : (s : Station) (orders : List Order) → AreOrders s orders → All (λ o. o.track.0 < length s.tracks) orders
on_tracks s orders f = λ k d lt. (all_spelled s orders f k d lt).track

rows_plain : (s : Station) (orders : List Order) → IsStation s → AreOrders s orders → ArePlain (rows_of s orders)
rows_plain s orders f g = (plain_head, plain_map (IsSpelled s) (order_row s) orders (plain_order s f) (all_spelled s orders g))

-- ---- each record is read

known_entry : (s : Station) (xs : List Order) (y : Order) → MayFollow s xs y → has_entered xs y.enters y.id ≡ true
unfolding has_entered
known_entry s xs y may = unless y.enters _ (λ leaves. ap is_some (may.entered leaves))

new_order : (s : Station) (xs : List Order) (y : Order) → MayFollow s xs y → not (stands xs y.enters y.id) ≡ true
unfolding stands
new_order s xs y may = ap not (any_none (is_of y.enters y.id) xs (λ p i t. let q = of_tells y.enters y.id p t in may.once p i q.0 q.1))

abbrev name_of : Order → StatedMove
name_of y = record { enters = y.enters; id = y.id }

length_kept : (s : Station) (xs : List Order) (y : Order) → MayFollow s xs y → keeps_length xs (name_of y) y.length ≡ true
unfolding keeps_length
length_kept s xs y may = unless y.enters _ (λ leaves. is_kept (λ e. e.length == y.length) (entry_in y.id xs) (entered_by y) (may.entered leaves) (eq-eqb y.length y.length refl))

track_kept : (s : Station) (xs : List Order) (y : Order) → MayFollow s xs y → keeps_track xs (name_of y) y.track.0 ≡ true
unfolding keeps_track
track_kept s xs y may = unless y.enters _ (λ leaves. is_kept (λ e. e.track.0 == y.track.0) (entry_in y.id xs) (entered_by y) (may.entered leaves) (eq-eqb y.track.0 y.track.0 refl))

some_track : Track
some_track = record { name = []; length = 0; side_a = false; side_b = false }

track_found : (s : Station) (k : ℕ) → IsStation s → k < length s.tracks → position (λ t. bytes_eq t.name (slice_index_or (map (λ (t : Track). t.name) s.tracks) k [])) s.tracks
    ≡ Some k
track_found s k f lt =
    found_there (λ (t : Track). t.name) s.tracks (slice_index_or (map (λ (t : Track). t.name) s.tracks) k []) k some_track f.track_names
    (slice_get-get_or (map (λ (t : Track). t.name) s.tracks) k [] (omega (arith, lt, length-map s.tracks (λ (t : Track). t.name))))

-- a value of two, of three and of six things that are read
two : {X : Type 0} (f : Bool → ℕ → X) (a b : Bool) (i j : ℕ) → a ≡ b → i ≡ j → f a i ≡ f b j
two f a b i j e g = ap (λ x. f x i) e ∙ ap (f b) g

three : {X : Type 0} (f : Bool → ℕ → ℕ → X) (a b : Bool) (i j k l : ℕ) → a ≡ b → i ≡ j → k ≡ l → f a i k ≡ f b j l
three f a b i j k l e g h = two (λ x y. f x y k) a b i j e g ∙ ap (f b j) h

abbrev order_from : ℕ → Bool → ℕ → ℕ → ℕ → Side → Order
order_from minute enters id long track side = record { minute = minute; enters = enters; id = id; length = long; track = record { 0 = track }; side = side }

six : (f : Order → List Order) (m n : ℕ) (a b : Bool) (i j k l t u : ℕ) (p q : Side) → m ≡ n → a ≡ b → i ≡ j → k ≡ l → t ≡ u → p ≡ q
    → f (order_from m a i k t p) ≡ f (order_from n b j l u q)
six f m n a b i j k l t u p q e g h v w z =
    ap (λ x. f (order_from x a i k t p)) e ∙ three (λ x y r. f (order_from n x y r t p)) a b i j k l g h v
    ∙ ap (λ x. f (order_from n b j l x p)) w ∙ ap (λ x. f (order_from n b j l u x)) z

order_read : (s : Station) (orders : List Order) → IsStation s → AreOrders s orders → (n : ℕ) (xs : List Order) (y : Order) (zs : List Order) → orders ≡ xs ++ y ∷ zs
    → answer n (sheet_later s xs (order_row s y)) ≡ Ok (xs ++ y ∷ [])
unfolding sheet_later more_of order_in start_in move_in place_in is_within
order_read s orders f g n xs y zs e =
    let may = g.each xs y zs e in
    let last_id = may.last_id in
    let time = read_again y.minute may.minute in
    let word = word_read y.enters in
    let id = number_again y.id (omega (arith, last_id)) in
    let v = number_read 1 40000 y.length may.some may.long (omega arith) in
    let t = track_found s y.track.0 f may.track in
    let q = side_read y.side in
    let mv = ap (λ o. unwrap_or o 0) time in
    let wv = ap (λ o. unwrap_or o true) word in
    let iv = ap (λ o. unwrap_or o 0) id in
    let tv = ap (λ o. unwrap_or o 0) t in
    let qv = ap (λ o. unwrap_or o A) q in
    let later = ap (λ k. nat_le (last_minute xs) k) mv ∙ le-leb (last_minute xs) y.minute may.later in
    let known = two (has_entered xs) _ y.enters _ y.id wv iv ∙ known_entry s xs y may in
    let new = two (λ b k. not (stands xs b k)) _ y.enters _ y.id wv iv ∙ new_order s xs y may in
    let range = ap (is_within 1 1000000) iv ∙ in_range 1 1000000 y.id may.first_id may.last_id in
    let same_length = three (λ b k l. keeps_length xs (record { enters = b; id = k }) l) _ y.enters _ y.id _ y.length wv iv v.value ∙ length_kept s xs y may in
    let same_track = three (λ b k l. keeps_track xs (record { enters = b; id = k }) l) _ y.enters _ y.id _ y.track.0 wv iv tv ∙ track_kept s xs y may in
    let r = more_of s xs (order_row s y) in
    holding n r.checks r.value (
      refl,
      (
        fewer orders xs zs y 800 g.few e,
        (
          ap is_some time,
          (later, (ap is_some word, (ap is_some id, (known, (new, (range, (v.there, (v.range, (same_length, (ap is_some t, (same_track, (ap is_some q, tt)))))))))))),
        ),
      ),
    )
    ∙ ap (λ l. Ok l) (six (λ o. xs ++ o ∷ []) _ y.minute _ y.enters _ y.id _ y.length _ y.track.0 _ y.side mv wv iv v.value tv qv)

head_read : answer 1 (sheet_first head_row) ≡ Ok []
unfolding sheet_first is_within
head_read =
    let v = number_read 1 1 1 (omega arith) (omega arith) (omega arith) in
    let m = sheet_first head_row in
    holding 1 m.checks m.value (refl, (refl, (v.there, (v.range, tt))))

-- the records of orders state them
pub orders_back : (s : Station) (orders : List Order) → IsStation s → AreOrders s orders → reading (sheet_format s) (rows_of s orders) ≡ Ok orders
orders_back s orders f g =
    let format = sheet_format s in
    all_read format head_row (map (order_row s) orders) [] orders head_read (section format (order_row s) (λ l. l) orders (order_read s orders f g) 2 [] orders refl) refl

-- ---- their text is read back

pub back_from : (s : Station) (orders : List Order) → IsStation s → AreOrders s orders → (text bytes : List ℕ) → text ≡ text_of_rows (rows_of s orders) → ReadsBack text bytes
    → ReadsAsSheet s orders bytes
back_from s orders f g text bytes e back =
    let rows = back (rows_of s orders) (rows_plain s orders f g) e in
    record { rows = rows; value = ap (reading (sheet_format s)) rows ∙ orders_back s orders f g }

pub text_back : (s : Station) (orders : List Order) → IsStation s → AreOrders s orders → ReadsAsSheet s orders (text_of_rows (rows_of s orders))
text_back s orders f g = back_from s orders f g (text_of_rows (rows_of s orders)) (text_of_rows (rows_of s orders)) refl (λ rows plain e. ap records_of e ∙ again rows plain)

abbrev wrote : List ℕ → Written
wrote text = record { text = text; row = [] }

-- all records of a sheet, one part after the other
pub sheet_written : (s : Station) (orders seen : List Order) (w a b : Written) → seen ≡ orders → w ≡ record { text = []; row = [] }
    → a ≡ record { text = w.text ++ text_of_row head_row; row = [] }
    → b ≡ record { text = a.text ++ text_of_rows (map (order_row s) seen); row = [] } → b.text ≡ text_of_rows (rows_of s orders)
sheet_written s orders seen w a b same h0 h1 h2 =
    let all = text_of_rows (rows_of s orders) in
    let i2 = h2 ∙ ap (λ l. wrote (a.text ++ text_of_rows (map (order_row s) l))) same in
    sym (append-nil b.text)
    ∙ rows_written a b (map (order_row s) orders) [] all i2
    (ap (λ l. a.text ++ text_of_rows l) (append-nil (map (order_row s) orders))
    ∙ row_written w a head_row (map (order_row s) orders) all h1 (ap (λ (x : Written). x.text ++ all) h0))
