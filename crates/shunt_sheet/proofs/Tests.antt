-- What the tests of orders tell, and where an order stands in a list.
use Rattle.std.proofs.Common.{◌≡◌, ◌⊎◌, inl, inr, ⊎_elim, ℕ, ◌+◌, ◌-◌, Bool, true, false, not, ◌||◌, List, [], ◌∷◌, ◌++◌, length, length-append, get_or, map, refl, sym, subst, ap, ◌∙◌, arith}
use Rattle.std.specs.Prelude.{◌==◌, Option, Some, if◌then◌else◌}
use Rattle.std.specs.List.{list_any}
use Rattle.std.proofs.lemmas.Bool.{cases_Bool, cond-true, cond-false, and_from, and_parts, eqb-true, eq-eqb}
use Rattle.std.proofs.lemmas.List.{get_or-map}
use Rattle.shunt_lists.specs.defs.Members.{In}
use Rattle.shunt_sheet.specs.declared.records.Order.{Order}
use Rattle.shunt_sheet.specs.declared.reader.Entered.{Entered}
use Rattle.shunt_sheet.specs.defs.SheetFormat.{is_of, entered_by, entry_in, keeps, last_minute}
use Rattle.shunt_lists.proofs.Tests.{alike_is, never_both, first_true, second_true, is_alike}

-- ---- an entry or a leave

pub of_tells : (enters : Bool) (id : ℕ) (o : Order) → is_of enters id o ≡ true → (o.enters ≡ enters) × (o.id ≡ id)
of_tells enters id o e =
    let both = and_parts (if o.enters then enters else not enters) (o.id == id) e in
    (alike_is o.enters enters both.0, eqb-true o.id id both.1)

pub tells_of : (enters : Bool) (id : ℕ) (o : Order) → o.enters ≡ enters → o.id ≡ id → is_of enters id o ≡ true
tells_of enters id o e f = and_from (if o.enters then enters else not enters) (o.id == id) (is_alike o.enters enters e) (eq-eqb o.id id f)

-- ---- one of a list

pub none_first : (a b : Bool) → a ≡ false → (a || b) ≡ true → b ≡ true
none_first true b f e = absurd cc
none_first false b f e = e

-- a test that asks nothing of an entry
pub unless : (a b : Bool) → (a ≡ false → b ≡ true) → (a || b) ≡ true
unless true b h = refl
unless false b h = h refl

pub any_to : {X : Type 0} (p : X → Bool) (xs : List X) (x : X) → In x xs → p x ≡ true → list_any p xs ≡ true
any_to p [] x i t = absurd i
any_to p (y ∷ ys) x (inl e) t = first_true (p y) (list_any p ys) (subst (λ z. p z ≡ true) e t)
any_to p (y ∷ ys) x (inr i) t = second_true (p y) (list_any p ys) (any_to p ys x i t)

pub any_none : {X : Type 0} (p : X → Bool) (xs : List X) → ((x : X) → In x xs → p x ≡ true → ⊥) → list_any p xs ≡ false
any_none p [] h = refl
any_none p (y ∷ ys) h = ⊎_elim (λ t. absurd (h y (inl refl) t)) (λ f. ap (λ b. b || list_any p ys) f ∙ any_none p ys (λ x i t. h x (inr i) t)) (cases_Bool (p y))

-- ---- an entry that was found

pub keeps_is : (test : Entered → Bool) (o : Option Entered) (e : Entered) → o ≡ Some e → keeps test o ≡ true → test e ≡ true
keeps_is test o e is t = subst (λ (x : Option Entered). keeps test x ≡ true) is t

pub is_kept : (test : Entered → Bool) (o : Option Entered) (e : Entered) → o ≡ Some e → test e ≡ true → keeps test o ≡ true
is_kept test o e is t = ap (keeps test) is ∙ t

-- the entry of a block is found among orders of which no other one is
pub first_entry : {X : Type 0} (f : X → Order) (id : ℕ) (e : X) (xs : List X) → In e xs → is_of true id (f e) ≡ true → ((x : X) → In x xs → is_of true id (f x) ≡ true → x ≡ e)
    → entry_in id (map f xs) ≡ Some (entered_by (f e))
first_entry f id e [] i t only = absurd i
first_entry f id e (x ∷ xs) i t only = ⊎_elim here (later i (λ j. first_entry f id e xs j t (λ z k v. only z (inr k) v))) (cases_Bool (is_of true id (f x)))
  where
    here : is_of true id (f x) ≡ true → entry_in id (map f (x ∷ xs)) ≡ Some (entered_by (f e))
    here u = cond-true (is_of true id (f x)) (Some (entered_by (f x))) (entry_in id (map f xs)) u ∙ ap (λ z. Some (entered_by (f z))) (only x (inl refl) u)

    later : In e (x ∷ xs) → (In e xs → entry_in id (map f xs) ≡ Some (entered_by (f e))) → is_of true id (f x) ≡ false → entry_in id (map f (x ∷ xs)) ≡ Some (entered_by (f e))
    later (inl same) rest u = absurd (never_both (is_of true id (f x)) (subst (λ z. is_of true id (f z) ≡ true) same t) u)
    later (inr j) rest u = cond-false (is_of true id (f x)) (Some (entered_by (f x))) (entry_in id (map f xs)) u ∙ rest j

-- ---- places

pub last_at : (orders : List Order) (k : ℕ) (d : Order) → k + 1 ≡ length orders → (get_or orders k d).minute ≡ last_minute orders
unfolding last_minute
last_at orders k d e =
    sym (get_or-map (λ (o : Order). o.minute) orders k d 0 (omega (arith, e)))
    ∙ ap (λ j. get_or (map (λ (o : Order). o.minute) orders) j 0) (let is : k ≡ length orders - 1 = omega (arith, e) in is)

heads : {X : Type 0} (x y : X) (xs ys : List X) → x ∷ xs ≡ y ∷ ys → x ≡ y
heads x y xs ys e = cc

tails : {X : Type 0} (x y : X) (xs ys : List X) → x ∷ xs ≡ y ∷ ys → xs ≡ ys
tails x y xs ys e = cc

-- one of a list and one more is the last one, or stands among the others
pub last_or_earlier : {X : Type 0} (xs before after : List X) (x y : X) → xs ++ x ∷ [] ≡ before ++ y ∷ after
    → ((before ≡ xs) × (y ≡ x)) ⊎ ((rest : List X) × (xs ≡ before ++ y ∷ rest))
last_or_earlier [] [] after x y e = inl (refl, sym (heads x y [] after e))
last_or_earlier [] (b ∷ before) after x y e = absurd (omega (arith, ap length (tails x b [] (before ++ y ∷ after) e), length-append before (y ∷ after)))
last_or_earlier (a ∷ xs) [] after x y e = inr (xs, ap (λ z. z ∷ xs) (heads a y (xs ++ x ∷ []) after e))
last_or_earlier (a ∷ xs) (b ∷ before) after x y e =
    let same = heads a b (xs ++ x ∷ []) (before ++ y ∷ after) e in
    ⊎_elim (λ l. inl (ap (λ z. z ∷ before) (sym same) ∙ ap (λ l. a ∷ l) l.0, l.1)) (λ r. inr (r.0, ap (λ z. z ∷ xs) same ∙ ap (λ l. b ∷ l) r.1))
    (last_or_earlier xs before after x y (tails a b (xs ++ x ∷ []) (before ++ y ∷ after) e))

-- what stands at a place of the list of values is the value of one at this place
pub record Split {X Y : Type 0} (f : X → Y) (xs : List X) (before : List Y) (y : Y) : Type 0 where
  pub front : List X
  pub one : X
  pub back : List X
  pub place : xs ≡ front ++ one ∷ back
  pub before_is : before ≡ map f front
  pub one_is : y ≡ f one

pub split_map : {X Y : Type 0} (f : X → Y) (xs : List X) (before : List Y) (y : Y) (after : List Y) → map f xs ≡ before ++ y ∷ after → Split f xs before y
split_map f [] before y after e = absurd (omega (arith, ap length e, length-append before (y ∷ after)))
split_map f (x ∷ xs) [] y after e = record { front = []; one = x; back = xs; place = refl; before_is = refl; one_is = sym (heads (f x) y (map f xs) after e) }
split_map f (x ∷ xs) (b ∷ before) y after e =
    let rest = split_map f xs before y after (tails (f x) b (map f xs) (before ++ y ∷ after) e) in
    record {
      front = x ∷ rest.front;
      one = rest.one;
      back = rest.back;
      place = ap (λ l. x ∷ l) rest.place;
      before_is = ap (λ z. z ∷ before) (sym (heads (f x) b (map f xs) (before ++ y ∷ after) e)) ∙ ap (λ l. f x ∷ l) rest.before_is;
      one_is = rest.one_is;
    }
