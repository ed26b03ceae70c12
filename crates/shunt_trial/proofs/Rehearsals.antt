-- From the files of a made night to the answer of `trial`.
use Rattle.std.proofs.Common.{◌≡◌, ◌≢◌, ◌∙◌, ◌≤◌, ℕ, List, [], ◌∷◌, ◌++◌, length, Ok, refl, subst, sym, ap, inl, inr, arith}
use Rattle.std.specs.FinMap as finmap
use Rattle.shunt_store.specs.defs.Files.{Files, content}
use Rattle.shunt_rows.specs.defs.Records.{records_of, text_of_rows, ArePlain}
use Rattle.shunt_rows.specs.defs.Formats.{reading}
use Rattle.shunt_instance.specs.declared.records.Station.{Station}
use Rattle.shunt_instance.specs.declared.records.Timetable.{Timetable}
use Rattle.shunt_instance.specs.defs.Wellformed.{IsStation, IsTimetable}
use Rattle.shunt_instance.specs.defs.Instance.{Night, IsInstance, night_of}
use Rattle.shunt_instance.proofs.Orders.{night_is, closed}
use Rattle.shunt_matching.specs.defs.Nights.{HasMatching}
use Rattle.shunt_station.specs.defs.StatedStations.{station_format}
use Rattle.shunt_station.specs.defs.WrittenRows.{ReadsAsStation}
use Rattle.shunt_timetable.specs.defs.TimetableFormat.{timetable_format}
use Rattle.shunt_timetable.proofs.Plain.{timetable_read}
use Rattle.shunt_plan.specs.declared.records.Plan.{Plan}
use Rattle.shunt_proof.specs.declared.records.Certificate.{Certificate}
use Rattle.shunt_make.specs.defs.Made.{station_of}
use Rattle.shunt_rows.specs.declared.words.FileWord.TheVariants as word
use Rattle.shunt_inputs.specs.declared.answers.Outcome.TheVariants as outcome
use Rattle.shunt_inputs.specs.defs.Names.{AreNames}
use Rattle.shunt_inputs.specs.defs.Inputs.{stated_night, stated_station, stated_timetable, then_stated}
use Rattle.shunt_inputs.specs.defs.Replies.{Reply}
use Rattle.shunt_inputs.proofs.Stated.{stated_again}
use Rattle.shunt_planning.specs.defs.Planned.{certificate_file, plan_file}
use Rattle.shunt_trial.specs.defs.Tried.{station_file, timetable_file, made_timetable, made_night, made_line, rehearsal_of, trial_line, tried, IsTried}
use Rattle.shunt_trial.specs.defs.Rehearsed.{night_files, held_files, IsNightIn, with_both, AreFit, IsProvedIn}
use Rattle.shunt_trial.proofs.Left.{TextLaws, checkable, check_left, names_apart, station_put, timetable_put, input_kept, plan_there, certificate_there}

-- ---- the night

-- what the laws of the texts of a night say
pub record NightLaws : Type 0 where
  pub station_again : (s : Station) → IsStation s → ReadsAsStation s (station_file s)
  pub station_short : (s : Station) → IsStation s → length (station_file s) ≤ 282436
  pub timetable_short : (s : Station) (t : Timetable) → IsStation s → IsTimetable s t → length (timetable_file s t) ≤ 23172
  pub rows_again : (rows : List (List (List ℕ))) → ArePlain rows → records_of (text_of_rows rows) ≡ rows

module _ (laws : NightLaws) (station : Station) (timetable : Timetable) (of_station : IsStation station) (of_timetable : IsTimetable station timetable) where
  station_back : stated_station (station_file station) ≡ Ok station
  station_back = let short = laws.station_short station of_station in stated_again word.Station station_format (station_file station) station (omega (arith, short))
      (laws.station_again station of_station).value

  timetable_back : stated_timetable station (timetable_file station timetable) ≡ Ok timetable
  timetable_back =
      let short = laws.timetable_short station timetable of_station of_timetable in
      let text = timetable_file station timetable in
      stated_again word.Timetable (timetable_format station) text timetable (omega (arith, short))
      (timetable_read station timetable text text of_station of_timetable refl (λ rows plain e. ap records_of e ∙ laws.rows_again rows plain))

  night_back : stated_night (station_file station) (timetable_file station timetable) ≡ Ok (night_of station timetable)
  night_back =
      ap (λ r. then_stated r (λ s. then_stated (stated_timetable s (timetable_file station timetable)) (λ t. Ok (night_of s t)))) station_back
      ∙ ap (λ r. then_stated r (λ t. Ok (night_of station t))) timetable_back

  pub night_held : (s t : List ℕ) (files : Files) → s ≢ t → files ≡ night_files s t station timetable → HasMatching (night_of station timetable) [] []
      → IsNightIn s t files (night_of station timetable)
  night_held s t files apart is matching =
      let a = finmap.empty in
      let first = station_put s t apart a (station_file station) (timetable_file station timetable) in
      let second = timetable_put s t apart a (station_file station) (timetable_file station timetable) in
      record {
        stated =
            ap (λ f. stated_night (content f s) (content f t)) is
            ∙ ap (λ x. stated_night x (content (night_files s t station timetable) t)) first
            ∙ ap (stated_night (station_file station)) second
            ∙ night_back;
        formed = closed (night_of station timetable) (night_is station timetable of_station of_timetable);
        matching = matching;
      }

-- ---- the plan and the certificate

pub proved_in : (laws : TextLaws) (s t p k : List ℕ) (names : AreNames (s ∷ t ∷ p ∷ k ∷ [])) (files after : Files) (night : Night) → IsNightIn s t files night
    → (most : ℕ) (plan : Plan) (c : Certificate) → AreFit night most plan c → after ≡ with_both p k night plan c files
    → IsProvedIn s t p k after (checkable night plan c)
proved_in laws s t p k names files after night is most plan c fit e = subst (λ (f : Files). IsProvedIn s t p k f (checkable night plan c)) (sym e) (record {
  stated = check_left laws s t p k names files night is.formed plan c is.stated fit.in_range fit.statable;
  formed = is.formed;
  in_range = fit.in_range;
  statable = fit.statable;
  proved = fit.meet.accepted;
})

-- ---- the answer

module _ (s t p k : List ℕ) (names : AreNames (s ∷ t ∷ p ∷ k ∷ [])) (station : Station) (timetable : Timetable) (night : Night) (plan : Plan) (c : Certificate) where
  abbrev before : Files
  before = night_files s t station timetable

  abbrev after : Files
  after = with_both p k night plan c before

  abbrev four : List ℕ → List ℕ → List ℕ → List ℕ → List (List ℕ × List ℕ)
  four a b d e = (s, a) ∷ (t, b) ∷ (p, d) ∷ (k, e) ∷ []

  same_four : (a b d e f g h i : List ℕ) → a ≡ b → d ≡ e → f ≡ g → h ≡ i → four a d f h ≡ four b e g i
  same_four a b d e f g h i q r u v = ap (λ x. four x d f h) q ∙ ap (λ x. four b x f h) r ∙ ap (λ x. four b e x h) u ∙ ap (four b e g) v

  -- what the four names hold then
  pub all_held : held_files s t p k after ≡ four (station_file station) (timetable_file station timetable) (plan_file night plan) (certificate_file night c)
  all_held =
      let P = plan_file night plan in
      let K = certificate_file night c in
      let ns : List (List ℕ) = s ∷ t ∷ [] in
      let apart = names_apart (s ∷ []) (t ∷ p ∷ k ∷ []) s t names (inl refl) (inl refl) in
      same_four _ _ _ _ _ _ _ _
      (input_kept ns p k names before P K s (inl refl) ∙ station_put s t apart finmap.empty (station_file station) (timetable_file station timetable))
      (input_kept ns p k names before P K t (inr (inl refl)) ∙ timetable_put s t apart finmap.empty (station_file station) (timetable_file station timetable))
      (plan_there ns p k names before P K)
      (certificate_there ns p k names before P K)

abbrev done_with : List (List ℕ × List ℕ) → List ℕ → Reply
done_with writes text = record { outcome = outcome.Done; writes = writes; text = text }

same_reply : (v w : List (List ℕ × List ℕ)) (x y : List ℕ) → v ≡ w → x ≡ y → done_with v x ≡ done_with w y
same_reply v w x y e f = ap (λ (l : List (List ℕ × List ℕ)). done_with l x) e ∙ ap (done_with w) f

pub answer_is : (number units most : ℕ) (s t p k : List ℕ) (names : AreNames (s ∷ t ∷ p ∷ k ∷ [])) (files after : Files) (line told text : List ℕ) (writes : List (List ℕ × List ℕ))
    → files ≡ night_files s t (station_of number units) (made_timetable number units) → line ≡ made_line number units → text ≡ line ++ told → writes ≡ held_files s t p k after
    → ((plan : Plan) × (c : Certificate) × AreFit (made_night number units) most plan c × (after ≡ with_both p k (made_night number units) plan c files)
    × (told ≡ rehearsal_of (made_night number units) plan c))
    → IsTried number units most s t p k (done_with writes text)
answer_is number units most s t p k names files after line told text writes start first whole wrote (plan, c, fit, end, second) =
    let night = made_night number units in
    let station = station_of number units in
    let timetable = made_timetable number units in
    let ended : after ≡ with_both p k night plan c (night_files s t station timetable) = end ∙ ap (with_both p k night plan c) start in
    let files_are : writes ≡ (tried number units s t p k plan c).writes = wrote ∙ ap (held_files s t p k) ended ∙ all_held s t p k names station timetable night plan c in
    let text_is : text ≡ (tried number units s t p k plan c).text = whole ∙ ap (λ l. l ++ told) first ∙ ap (λ l. made_line number units ++ l) second in
    record {
      plan = plan;
      certificate = c;
      in_range = fit.in_range;
      statable = fit.statable;
      meet = fit.meet;
      few = fit.few;
      reply = same_reply writes (tried number units s t p k plan c).writes text (tried number units s t p k plan c).text files_are text_is;
    }

-- the files and the line of a made night are those of what was made
pub same_files : (s t : List ℕ) (a b : Station) (x y : Timetable) → a ≡ b → x ≡ y → night_files s t a x ≡ night_files s t b y
same_files s t a b x y e f = ap (λ (z : Station). night_files s t z x) e ∙ ap (night_files s t b) f

pub same_line : (number units : ℕ) (a b : Station) (x y : Timetable) → a ≡ b → x ≡ y
    → trial_line number units (length x.arrive) (length x.depart) (length a.tracks) ≡ trial_line number units (length y.arrive) (length y.depart) (length b.tracks)
same_line number units a b x y e f =
    ap (λ (z : Station). trial_line number units (length x.arrive) (length x.depart) (length z.tracks)) e
    ∙ ap (λ (z : Timetable). trial_line number units (length z.arrive) (length z.depart) (length b.tracks)) f
