-- What following orders comes to, and the sheet that `sheet` wrote.
use Rattle.std.proofs.Common.{◌≡◌, ◌≢◌, ◌≤◌, Some, sym, subst, ap, inl, inr, refl, Result, Ok, List, [], ◌∷◌, length, ◌∙◌, ℕ, arith}
use Rattle.std.specs.Prelude.{◌⊎◌, unwrap_or}
use Rattle.shunt_store.specs.defs.Files.{Files, content}
use Rattle.shunt_store.proofs.TableLaws.{get_here, same_elsewhere}
use Rattle.shunt_rows.specs.defs.Records.{text_of_rows}
use Rattle.shunt_instance.specs.declared.records.Station.{Station}
use Rattle.shunt_instance.specs.defs.Instance.{Night, IsInstance, night_of}
use Rattle.shunt_blocks.specs.declared.records.Block.{Block}
use Rattle.shunt_blocks.specs.defs.Lists.{AreInRange, IsFeasible}
use Rattle.shunt_plan.specs.declared.records.Plan.{Plan}
use Rattle.shunt_plan.specs.defs.Plans.{IsPlanInRange}
use Rattle.shunt_sheet.specs.declared.records.Order.{Order}
use Rattle.shunt_sheet.specs.declared.records.Followed.{Followed}
use Rattle.shunt_sheet.specs.declared.records.Followed.TheVariants as answers
use Rattle.shunt_sheet.specs.defs.FollowedOrders.{followed, LeavesNone}
use Rattle.shunt_sheet.specs.defs.Orders.{orders_in}
use Rattle.shunt_sheet.specs.defs.SheetFormat.{sheet_format}
use Rattle.shunt_sheet.specs.defs.SheetRows.{rows_of as sheet_rows, ReadsAsSheet}
use Rattle.shunt_rows.specs.declared.words.FileWord.TheVariants as word
use Rattle.shunt_report.specs.defs.SheetTexts.{followed_of}
use Rattle.shunt_inputs.specs.declared.answers.Outcome.TheVariants as outcome
use Rattle.shunt_inputs.specs.defs.Inputs.{plans_in, stated_night, stated_plan, stated_plans, stated_sheet, stated_station, stated_timetable, then_stated}
use Rattle.shunt_inputs.specs.defs.Replies.{Reply, Decided, says}
use Rattle.shunt_inputs.specs.defs.Writes.{written}
use Rattle.shunt_inputs.proofs.Stated.{parted, plan_stated, stated_again}
use Rattle.shunt_dispatch.specs.defs.Followed.{Followable, following_in, followed_outcome, GoesThrough, IsFollowed, stated_following}
use Rattle.shunt_dispatch.specs.defs.Ordered.{HasSheet, IsOrdered}
use Rattle.shunt_judging.specs.defs.Audited.{IsClean}
use Rattle.shunt.specs.declared.status.Status.{Status}
use Rattle.shunt.specs.declared.status.Status.TheVariants as status
use Rattle.shunt.specs.defs.Calls.{Follow, Sheet}
use Rattle.shunt.specs.defs.Words.{IsUsable}
use Rattle.shunt.specs.defs.Ends.{Seen, Ends, IsWhole, Yields, the_status}
use Rattle.shunt.proofs.Audits.{FoundNone}
use Rattle.shunt.proofs.Either.{Parts}
use Rattle.shunt.proofs.Exactly.{early, has_reply, its_own, reply_at}
use Rattle.shunt.proofs.RosterAccepted.{both_here, other_than}
use Rattle.shunt.proofs.Sound.{sheet_answers, tells, clean_of}
use Rattle.shunt.proofs.Asked.{followable}

-- ---- that orders go through

its_parts : (f : Followed) → Parts ((left : ℕ) × (f ≡ answers.Through left)) (followed_outcome f)
its_parts (answers.Through left) = inl ((left, refl), refl)
its_parts (answers.Blocked number) = inr (λ h. (let no : answers.Blocked number ≡ answers.Through h.0 = h.1 in cc), refl)
its_parts (answers.Over number load) = inr (λ h. (let no : answers.Over number load ≡ answers.Through h.0 = h.1 in cc), refl)

pub follow_parts : (v : Followable) (r : Reply) → IsFollowed v r → Parts (GoesThrough v) r.outcome
follow_parts v r is = subst (Parts (GoesThrough v)) (sym (ap (λ (q : Reply). q.outcome) is)) (its_parts (followed v.station v.orders))

-- ---- the sheet that was written

-- what the laws of sheets say of the orders of plans
pub record SheetLaws : Type 0 where
  pub again : (night : Night) (blocks : List Block) → IsInstance night → IsFeasible night blocks
      → ReadsAsSheet night.station (orders_in night blocks) (text_of_rows (sheet_rows night.station (orders_in night blocks)))
  pub short : (night : Night) (blocks : List Block) → IsInstance night → AreInRange night blocks → length (text_of_rows (sheet_rows night.station (orders_in night blocks))) ≤ 40808
  pub followed : (night : Night) (blocks : List Block) → IsInstance night → IsFeasible night blocks → LeavesNone night.station (orders_in night blocks)

-- the station of a night that two files state is the one that the first states
night_station : (s t : List ℕ) (night : Night) → stated_night s t ≡ Ok night → stated_station s ≡ Ok night.station
night_station s t night e =
    let first = parted (stated_station s) _ night e in
    let second = parted (stated_timetable first.0 t) _ night first.2 in
    let made : night_of first.0 second.0 ≡ night = cc (second.2) in
    first.1 ∙ ap (λ (n : Night). Ok n.station) made

plans_station : (s t p : List ℕ) (y : Night × Plan) → stated_plans s t p ≡ Ok y → stated_station s ≡ Ok y.0.station
plans_station s t p y e =
    let first = parted (stated_night s t) _ y e in
    let second = parted (stated_plan first.0 p) _ y first.2 in
    let made : (first.0, second.0) ≡ y = cc (second.2) in
    night_station s t first.0 first.1 ∙ ap (λ (z : Night × Plan). Ok z.0.station) made

states_following : (s o : List ℕ) (station : Station) (orders : List Order) → stated_station s ≡ Ok station → stated_sheet station o ≡ Ok orders
    → stated_following s o ≡ Ok (followable station orders)
states_following s o station orders a b =
    ap (λ r. then_stated r (λ st. then_stated (stated_sheet st o) (λ os. Ok (followable st os)))) a
    ∙ ap (λ r. then_stated r (λ os. Ok (followable station os))) b

module _ (n text : List ℕ) (files : Files) where
  there : content (written ((n, text) ∷ []) files) n ≡ text
  there = ap (λ o. unwrap_or o []) (get_here files n text)

  other : (s : List ℕ) → s ≢ n → content (written ((n, text) ∷ []) files) s ≡ content files s
  other s ne = ap (λ o. unwrap_or o []) (same_elsewhere files n text s ne)

-- a followed reply is told, where the orders go through with no block left
gone : (v : Followable) (r : Reply) → followed v.station v.orders ≡ answers.Through 0 → IsFollowed v r → r ≡ says outcome.Done (followed_of v.orders (answers.Through 0))
gone v r e is = is ∙ ap (λ (f : Followed). says (followed_outcome f) (followed_of v.orders f)) e

module _ (found : FoundNone) (laws : SheetLaws) (s t p n : List ℕ) (files after : Files) (usable : IsUsable (Sheet s t p n)) (y : Night × Plan) (r : Reply)
    (ok : plans_in s t p files ≡ Ok y) (own : HasSheet n y r) (clean : IsClean y) (left : after ≡ written r.writes files) where
  abbrev orders : List Order
  orders = orders_in y.0 y.1.blocks

  abbrev text : List ℕ
  text = text_of_rows (sheet_rows y.0.station orders)

  left_is : after ≡ written ((n, text) ∷ []) files
  left_is = left ∙ ap (λ (ws : List (List ℕ × List ℕ)). written ws files) own.writes

  of_plan : IsInstance y.0 × IsPlanInRange y.0 y.1
  of_plan = plan_stated (content files s) (content files t) (content files p) y ok

  sheet_is : stated_sheet y.0.station text ≡ Ok orders
  sheet_is =
      let short = laws.short y.0 y.1.blocks of_plan.0 of_plan.1.blocks in
      stated_again word.Sheet (sheet_format y.0.station) text orders (omega (arith, short)) (laws.again y.0 y.1.blocks of_plan.0 clean.0).value

  pub states : following_in s n after ≡ Ok (followable y.0.station orders)
  states =
      ap (following_in s n) left_is
      ∙ ap (λ x. stated_following x (content (written ((n, text) ∷ []) files) n)) (other n text files s (λ e. (other_than (s ∷ t ∷ p ∷ []) n usable.0).0 (sym e)))
      ∙ ap (stated_following (content files s)) (there n text files)
      ∙ states_following (content files s) text y.0.station orders (plans_station (content files s) (content files t) (content files p) y ok) sheet_is

  pub goes : followed y.0.station orders ≡ answers.Through 0
  goes = laws.followed y.0 y.1.blocks of_plan.0 clean.0

abbrev pub IsGone : List Order → Seen → Seen → Status → Type 0
IsGone orders old new x = (x ≡ status.Done) × IsWhole (says outcome.Done (followed_of orders (answers.Through 0))) old new

-- the orders are those of the plan
abbrev pub PlanGone : List ℕ → List ℕ → List ℕ → Files → Seen → Seen → Status → Type 0
PlanGone s t p files old new x = (x ≡ status.Done) × ((y : Night × Plan) × (plans_in s t p files ≡ Ok y)
    × IsWhole (says outcome.Done (followed_of (orders_in y.0 y.1.blocks) (answers.Through 0))) old new)

plan_gone : (s t p : List ℕ) (files : Files) (y : Night × Plan) (old new : Seen) (x : Status) → plans_in s t p files ≡ Ok y → IsGone (orders_in y.0 y.1.blocks) old new x ⊎ Yields x
    → PlanGone s t p files old new x ⊎ Yields x
plan_gone s t p files y old new x ok (inl g) = inl (g.0, (y, ok, g.1))
plan_gone s t p files y old new x ok (inr late) = inr late

followed_well : (s n : List ℕ) (after : Files) (v : Followable) (old new : Seen) (x : Status) → old.files ≡ Some after → following_in s n after ≡ Ok v
    → followed v.station v.orders ≡ answers.Through 0 → Ends (Follow s n) old new x → IsGone v.orders old new x ⊎ Yields x
followed_well s n after v old new x known ok through (inl h) = inr (early (Follow s n) old new x h)
followed_well s n after v old new x known ok through (inr h) = at (its_own h.0 old new x h.2)
  where
    told : h.0 ≡ says outcome.Done (followed_of v.orders (answers.Through 0))
    told = gone v h.0 through (subst (λ (q : Result Followable (List ℕ)). Decided q IsFollowed h.0) ok (reply_at (Follow s n) old.files after h.0 known h.1))

    at : ((x ≡ the_status h.0.outcome) × IsWhole h.0 old new) ⊎ Yields x → IsGone v.orders old new x ⊎ Yields x
    at (inl w) = inl (w.0 ∙ ap (λ (q : Reply). the_status q.outcome) told, subst (λ q. IsWhole q old new) told w.1)
    at (inr late) = inr late

own_sheet : (n : List ℕ) (y : Night × Plan) (r : Reply) → r.outcome ≡ outcome.Done → IsOrdered n y r → HasSheet n y r
own_sheet n y r e (inl f) = absurd (let no : outcome.Findings ≡ outcome.Done = sym (ap (λ (q : Reply). q.outcome) f.reply) ∙ e in cc)
own_sheet n y r e (inr h) = h

pub goes_through : (found : FoundNone) (laws : SheetLaws) (s t p n : List ℕ) (a b old new : Seen) (x : Status) (files after : Files) → IsUsable (Sheet s t p n)
    → a.files ≡ Some files → b.files ≡ Some after → old.files ≡ Some after
    → Ends (Sheet s t p n) a b status.Done → Ends (Follow s n) old new x → PlanGone s t p files old new x ⊎ Yields x
goes_through found laws s t p n a b old new x files after usable before left known first second =
    let h = has_reply (Sheet s t p n) outcome.Done a b first in
    let is = reply_at (Sheet s t p n) a.files files h.0 before h.1 in
    let at = tells (Sheet s t p n) s t p (HasSheet n) (sheet_answers s t p n) (plans_in s t p files) h.0 outcome.Done (λ e. cc) is h.2 in
    let own = own_sheet n at.0 h.0 h.2 at.2 in
    let clean = clean_of (Sheet s t p n) s t p (HasSheet n) (sheet_answers s t p n) found files at.0 h.0 at.1 at.2 h.2 in
    let wrote : after ≡ written h.0.writes files = both_here a.files b.files files after (λ u v. v ≡ written h.0.writes u) before left h.3.files in
    plan_gone s t p files at.0 old new x at.1
    (followed_well s n after (followable at.0.0.station (orders_in at.0.0 at.0.1.blocks)) old new x known
    (states found laws s t p n files after usable at.0 h.0 at.1 own clean wrote)
    (goes found laws s t p n files after usable at.0 h.0 at.1 own clean wrote) second)
