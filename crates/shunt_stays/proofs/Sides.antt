-- Two stays that stand on the track at once, one nearer to A.
use Rattle.std.proofs.Common.{◌≡◌, ◌≢◌, ◌⊎◌, inl, inr, ⊎_elim, ℕ, ◌<◌, List, [], ◌∷◌, ◌++◌, refl, sym, subst, ap, ◌∙◌, arith}
use Rattle.shunt_lists.proofs.Members.{in_left, in_right, in_cases, Distinct}
use Rattle.shunt_lists.specs.defs.Members.{In}
use Rattle.shunt_base.specs.defs.Keys.{rank}
use Rattle.shunt_stays.specs.defs.Run.{put}
use Rattle.shunt_stays.proofs.Track.{Meets}
use Rattle.shunt_base.specs.declared.ids.Side.{Side}
use Rattle.shunt_base.specs.declared.ids.Side.TheVariants.{A, B}
use Rattle.shunt_base.specs.declared.keys.Stay.{Stay}

-- s is nearer to A: each can go when it has to
abbrev pub Fits : Stay → Stay → Type 0
Fits s t = (rank s.leave < rank t.leave → s.side_out ≡ A) × (rank t.leave < rank s.leave → t.side_out ≡ B)

-- s stands at that side of t
abbrev pub FitsAt : Side → Stay → Stay → Type 0
FitsAt A s t = Fits s t
FitsAt B s t = Fits t s

abbrev pub Arranged : List Stay → Type 0
Arranged [] = Unit {0}
Arranged (s ∷ st) = ((t : Stay) → In t st → Fits s t) × Arranged st

pub arranged_put : (side : Side) (c : Stay) (st : List Stay) → Arranged st → ((t : Stay) → In t st → FitsAt side c t) → Arranged (put side c st)
arranged_put A c st a f = (f, a)
arranged_put B c [] a f = (λ t h. absurd h, tt)
arranged_put B c (x ∷ st) a f = (
  λ t h. ⊎_elim (λ l. a.0 t l) (λ r. ⊎_elim (λ e. subst (λ (z : Stay). Fits x z) (sym e) (f x (inl refl))) (λ n. absurd n) r) (in_cases st (c ∷ []) t h),
  arranged_put B c st a.1 (λ t h. f t (inr h)),
)

pub arranged_taken : (side : Side) (c : Stay) (st : List Stay) → Arranged (put side c st) → Arranged st × ((t : Stay) → In t st → FitsAt side c t)
arranged_taken A c st a = (a.1, a.0)
arranged_taken B c [] a = (tt, λ t h. absurd h)
arranged_taken B c (x ∷ st) a =
    let rest = arranged_taken B c st a.1 in
    ((λ t h. a.0 t (in_left st (c ∷ []) t h), rest.0), λ t h. ⊎_elim (λ e. subst (λ (z : Stay). Fits z c) (sym e) (a.0 c (in_right st (c ∷ []) c (inl refl)))) (λ r. rest.1 t r) h)

pub arranged_none : (st : List Stay) → ((s : Stay) → In s st → ⊥) → Arranged st
arranged_none [] none = tt
arranged_none (s ∷ st) none = absurd (none s (inl refl))

not_other : (x y : Side) → (x ≢ y → ⊥) → x ≡ y
not_other A A h = refl
not_other A B h = absurd (h (λ e. cc))
not_other B A h = absurd (h (λ e. cc))
not_other B B h = refl

not_A : (x : Side) → (x ≡ A → ⊥) → x ≡ B
not_A A h = absurd (h refl)
not_A B h = refl

not_B : (x : Side) → (x ≡ B → ⊥) → x ≡ A
not_B A h = refl
not_B B h = absurd (h refl)

-- over plain sides and moments
fits_clear : (i o so : Side) (lc ls : ℕ) → (i ≡ A → (lc < ls → o ≡ A) × (ls < lc → so ≡ B)) → (i ≡ B → (ls < lc → so ≡ A) × (lc < ls → o ≡ B))
    → ((lc < ls) × (o ≢ i)) ⊎ ((ls < lc) × (so ≡ i)) → ⊥
fits_clear A o so lc ls a b (inl x) = x.1 ((a refl).0 x.0)
fits_clear A o so lc ls a b (inr x) = let e : so ≡ B = (a refl).1 x.0 in let f : so ≡ A = x.1 in cc
fits_clear B o so lc ls a b (inl x) = x.1 ((b refl).1 x.0)
fits_clear B o so lc ls a b (inr x) = let e : so ≡ A = (b refl).0 x.0 in let f : so ≡ B = x.1 in cc

at_A : (i : Side) (s t : Stay) → FitsAt i s t → i ≡ A → Fits s t
at_A i s t f e = subst (λ (x : Side). FitsAt x s t) e f

at_B : (i : Side) (s t : Stay) → FitsAt i s t → i ≡ B → Fits t s
at_B i s t f e = subst (λ (x : Side). FitsAt x s t) e f

pub clear_from : (s c : Stay) → FitsAt c.side_in c s → Meets s c → ⊥
clear_from s c f x = fits_clear c.side_in c.side_out s.side_out (rank c.leave) (rank s.leave) (λ e. at_A c.side_in c s f e) (λ e. at_B c.side_in c s f e) x.blocked

fits_by : (i : Side) (c s : Stay) → (((rank c.leave < rank s.leave) × (c.side_out ≢ i)) ⊎ ((rank s.leave < rank c.leave) × (s.side_out ≡ i)) → ⊥) → FitsAt i c s
fits_by A c s never = (λ lt. not_other c.side_out A (λ ne. never (inl (lt, ne))), λ lt. not_A s.side_out (λ e. never (inr (lt, e))))
fits_by B c s never = (λ lt. not_B s.side_out (λ e. never (inr (lt, e))), λ lt. not_other c.side_out B (λ ne. never (inl (lt, ne))))

pub fits_from : (s c : Stay) → rank s.enter < rank c.enter → rank c.enter < rank s.leave → (Meets s c → ⊥) → FitsAt c.side_in c s
fits_from s c after during never = fits_by c.side_in c s (λ b. never (record { after = after; during = during; blocked = b }))

-- what leaves first at its side stands right there
leaves_by : (o : Side) (s t : Stay) → s.side_out ≡ o → rank s.leave < rank t.leave → FitsAt o s t
leaves_by A s t e lt = (λ _. e, λ gt. absurd (omega arith))
leaves_by B s t e lt = (λ gt. absurd (omega arith), λ _. e)

pub leaves_first : (s t : Stay) → rank s.leave < rank t.leave → FitsAt s.side_out s t
leaves_first s t lt = leaves_by s.side_out s t refl lt

differ : (x s : Stay) (st : List Stay) → (In x st → ⊥) → In s st → x ≢ s
differ x s st new h e = new (subst (λ (z : Stay). In z st) (sym e) h)

first_at : (s : Stay) (st : List Stay) → s.side_out ≡ A → Arranged st → Distinct st → In s st → ((t : Stay) → In t st → t ≢ s → rank s.leave < rank t.leave)
    → (rest : List Stay) × (st ≡ s ∷ rest)
first_at s [] o a d h first = absurd h
first_at s (x ∷ st) o a d (inl e) first = (st, ap (λ (z : Stay). z ∷ st) (sym e))
first_at s (x ∷ st) o a d (inr h) first =
    let out : s.side_out ≡ B = (a.0 s h).1 (first x (inl refl) (differ x s st d.0 h)) in absurd (let e : s.side_out ≡ A = o in cc)

last_at : (s : Stay) (st : List Stay) → s.side_out ≡ B → Arranged st → Distinct st → In s st → ((t : Stay) → In t st → t ≢ s → rank s.leave < rank t.leave)
    → (rest : List Stay) × (st ≡ rest ++ s ∷ [])
last_at s [] o a d h first = absurd h
last_at s (x ∷ []) o a d (inl e) first = ([], ap (λ (z : Stay). z ∷ []) (sym e))
last_at s (x ∷ []) o a d (inr h) first = absurd h
last_at s (x ∷ y ∷ st) o a d (inl e) first =
    let lt : rank s.leave < rank y.leave = first y (inr (inl refl)) (λ f. d.0 (inl (sym e ∙ sym f))) in
    let out : x.side_out ≡ A = (a.0 y (inl refl)).0 (subst (λ (z : Stay). rank z.leave < rank y.leave) e lt) in
    let is : x.side_out ≡ B = subst (λ (z : Stay). z.side_out ≡ B) e o in absurd cc
last_at s (x ∷ y ∷ st) o a d (inr h) first =
    let rest = last_at s (y ∷ st) o a.1 d.1 h (λ t k ne. first t (inr k) ne) in (x ∷ rest.0, ap (λ (l : List Stay). x ∷ l) rest.1)

end_by : (side : Side) (s : Stay) (st : List Stay) → s.side_out ≡ side → Arranged st → Distinct st → In s st → ((t : Stay) → In t st → t ≢ s → rank s.leave < rank t.leave)
    → (rest : List Stay) × (st ≡ put side s rest)
end_by A s st o a d h first = first_at s st o a d h first
end_by B s st o a d h first = last_at s st o a d h first

pub at_end : (s : Stay) (st : List Stay) → Arranged st → Distinct st → In s st → ((t : Stay) → In t st → t ≢ s → rank s.leave < rank t.leave)
    → (rest : List Stay) × (st ≡ put s.side_out s rest)
at_end s st a d h first = end_by s.side_out s st refl a d h first
