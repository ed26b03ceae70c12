-- The roster that `drivers` writes is a sharing of the plan's moves.
use Rattle.std.proofs.Common.{◌≡◌, ◌≢◌, ◌≤◌, ℕ, List, [], ◌∷◌, ◌++◌, length, get_or, Option, Some, sym, subst, ap, ◌∙◌, Ok, arith}
use Rattle.std.specs.List.{AllByRecursion}
use Rattle.std.specs.Prelude.{◌⊎◌, unwrap_or}
use Rattle.shunt_store.specs.defs.Files.{Files, BothTold, content}
use Rattle.shunt_store.proofs.TableLaws.{get_here}
use Rattle.shunt_rows.specs.defs.Records.{text_of_rows}
use Rattle.shunt_tracks.specs.declared.run.Event.{Event}
use Rattle.shunt_zones.specs.defs.Moves.{moves_of}
use Rattle.shunt_drivers.specs.declared.records.Duty.{Duty}
use Rattle.shunt_drivers.specs.defs.RosterFormat.{roster_format, IsRoster}
use Rattle.shunt_drivers.specs.defs.RosterRows.{rows_of, ReadsAsRoster}
use Rattle.shunt_rows.specs.declared.words.FileWord.TheVariants as word
use Rattle.shunt_inputs.specs.declared.answers.Outcome.TheVariants as outcome
use Rattle.shunt.specs.declared.status.Status.{Status}
use Rattle.shunt.specs.declared.status.Status.TheVariants as status
use Rattle.shunt.specs.defs.Calls.{Drivers, Roster}
use Rattle.shunt.specs.defs.Words.{IsUsable}
use Rattle.shunt_inputs.specs.defs.Names.{AreNames}
use Rattle.shunt_throat.specs.defs.Shared.{Sharable, stated_sharing, sharing_in, IsShared}
use Rattle.shunt_inputs.specs.defs.Inputs.{stated_roster, then_stated}
use Rattle.shunt_throat.specs.defs.Rostered.{Rosterable, rostering_in, stated_rostering}
use Rattle.shunt_inputs.specs.defs.Replies.{Reply}
use Rattle.shunt_inputs.specs.defs.Writes.{written}
use Rattle.shunt.specs.defs.Ends.{Seen, Ends, Yields}
use Rattle.shunt.proofs.Exactly.{has_reply, reply_at}
use Rattle.shunt.proofs.Rostered.{DriverLaws, done_there}
use Rattle.shunt_inputs.proofs.SeenFiles.{extend}
use Rattle.shunt.proofs.Shared.{tells}
use Rattle.shunt_inputs.proofs.Stated.{stated_again}
use Rattle.shunt.proofs.Asked.{rosterable}

-- what the laws of drivers say of the texts of rosters
pub record RosterTexts : Type 0 where
  pub again : (moves : List Event) (duties : List Duty) → IsRoster moves duties → ReadsAsRoster moves duties (text_of_rows (rows_of duties))
  pub short : (moves : List Event) (duties : List Duty) → IsRoster moves duties → length (text_of_rows (rows_of duties)) ≤ 27209

then_roster : (s t p c d : List ℕ) (x : Sharable) (duties : List Duty) → stated_sharing s t p c ≡ Ok x → stated_roster x.night x.plan d ≡ Ok duties
    → stated_rostering s t p c d ≡ Ok (rosterable x duties)
unfolding stated_rostering
then_roster s t p c d x duties a e =
    ap (λ r. then_stated r (λ (y : Sharable). then_stated (stated_roster y.night y.plan d) (λ ds. Ok (rosterable y ds)))) a
    ∙ ap (λ r. then_stated r (λ ds. Ok (rosterable x ds))) e

pub both_here : {A : Type 0} (o p : Option A) (x y : A) (R : A → A → Type 0) → o ≡ Some x → p ≡ Some y → BothTold o p R → R x y
both_here o p x y R e f h = subst (λ q. BothTold (Some x) q R) f (subst (λ q. BothTold q p R) e h)

-- where a file is written, it holds what was written, and others hold what they held
module _ (files : Files) (d text : List ℕ) where
  here : content (written ((d, text) ∷ []) files) d ≡ text
  here = ap (λ o. unwrap_or o []) (get_here files d text)

  same_sharing : (s t p c : List ℕ) → AllByRecursion (λ m. d ≢ m) (s ∷ t ∷ p ∷ c ∷ []) → sharing_in s t p c (written ((d, text) ∷ []) files) ≡ sharing_in s t p c files
  same_sharing s t p c apart =
      ap (λ (bs : List (List ℕ)). stated_sharing (get_or bs 0 []) (get_or bs 1 []) (get_or bs 2 []) (get_or bs 3 [])) (extend files d text (s ∷ t ∷ p ∷ c ∷ []) apart)

-- the last of some names that can be used differs from the others
all_last : {X : Type 0} (P : X → Type 0) (xs : List X) (y : X) → AllByRecursion P (xs ++ y ∷ []) → P y
all_last P [] y h = h.0
all_last P (x ∷ xs) y h = all_last P xs y h.1

pub other_than : (ns : List (List ℕ)) (d : List ℕ) → AreNames (ns ++ d ∷ []) → AllByRecursion (λ m. d ≢ m) ns
other_than [] d h = tt
other_than (n ∷ ns) d h = (λ e. all_last (λ m. n ≢ m) ns d h.1 (sym e), other_than ns d h.2)

-- the files then state a sharing
module _ (texts : RosterTexts) (s t p c d : List ℕ) (files : Files) (usable : IsUsable (Drivers s t p c d)) (x : Sharable) (r : Reply) (ok : sharing_in s t p c files ≡ Ok x)
    (is : IsShared d x r) where
  abbrev text : List ℕ
  text = text_of_rows (rows_of is.duties)

  written_is : written r.writes files ≡ written ((d, text) ∷ []) files
  written_is = ap (λ (q : Reply). written q.writes files) is.reply

  roster_is : stated_roster x.night x.plan (content (written ((d, text) ∷ []) files) d) ≡ Ok is.duties
  roster_is =
      let moves = moves_of x.night x.plan.blocks in
      let short = texts.short moves is.duties is.roster in
      ap (stated_roster x.night x.plan) (here files d text)
      ∙ stated_again word.Roster (roster_format moves) text is.duties (omega (arith, short)) (texts.again moves is.duties is.roster).value

  states : rostering_in s t p c d (written ((d, text) ∷ []) files) ≡ Ok (rosterable x is.duties)
  states =
      let g = content (written ((d, text) ∷ []) files) in
      then_roster (g s) (g t) (g p) (g c) (g d) x is.duties
      (same_sharing files d text s t p c (other_than (s ∷ t ∷ p ∷ c ∷ []) d usable.0) ∙ ok) roster_is

  pub accepts : (after : Files) → after ≡ written r.writes files → rostering_in s t p c d after ≡ Ok (rosterable x is.duties)
  accepts after e = ap (rostering_in s t p c d) (e ∙ written_is) ∙ states

pub accepted : (laws : DriverLaws) (texts : RosterTexts) (s t p c d : List ℕ) (a b old new : Seen) (x : Status) (files after : Files) → IsUsable (Drivers s t p c d)
    → a.files ≡ Some files → b.files ≡ Some after → old.files ≡ Some after
    → Ends (Drivers s t p c d) a b status.Done → Ends (Roster s t p c d) old new x → (x ≡ status.Done) ⊎ Yields x
accepted laws texts s t p c d a b old new x files after usable before then_told known first second =
    let h = has_reply (Drivers s t p c d) outcome.Done a b first in
    let at = tells d (sharing_in s t p c files) h.0 outcome.Done (λ e. cc) (reply_at (Drivers s t p c d) a.files files h.0 before h.1) h.2 in
    let whole : after ≡ written h.0.writes files = both_here a.files b.files files after (λ u v. v ≡ written h.0.writes u) before then_told h.3.files in
    done_there laws s t p c d old new x after (rosterable at.value at.is.duties) known
    (accepts texts s t p c d files usable at.value h.0 at.ok at.is after whole) at.is.fewest.sharing second
