-- The texts of a night, a plan and a certificate, read again from the files that hold them.
use Rattle.std.proofs.Common.{◌≡◌, ◌≢◌, ◌≤◌, sym, ap, inl, inr, refl, Ok, List, [], ◌∷◌, ◌++◌, length, ◌∙◌, ℕ, arith}
use Rattle.std.specs.List.{AllByRecursion}
use Rattle.std.specs.Prelude.{unwrap_or}
use Rattle.std.specs.FinMap as finmap
use Rattle.shunt_lists.specs.defs.Members.{In}
use Rattle.shunt_store.specs.defs.Files.{Files, content}
use Rattle.shunt_store.proofs.TableLaws.{get_here, same_elsewhere}
use Rattle.shunt_instance.specs.defs.Instance.{Night, IsInstance}
use Rattle.shunt_plan.specs.declared.records.Plan.{Plan}
use Rattle.shunt_plan.specs.defs.Plans.{IsPlanInRange}
use Rattle.shunt_plan.specs.defs.PlanFormat.{plan_format}
use Rattle.shunt_plan.specs.defs.PlanRows.{ReadsAsPlan}
use Rattle.shunt_proof.specs.declared.records.Certificate.{Certificate}
use Rattle.shunt_proof.specs.defs.CertificateFormat.{certificate_format}
use Rattle.shunt_proof.specs.defs.CertificateRows.{ReadsAsCertificate}
use Rattle.shunt_proof.specs.defs.Certificates.{IsCertificate}
use Rattle.shunt_proof.proofs.Lengths.{text_short}
use Rattle.shunt_rows.specs.declared.words.FileWord.TheVariants as word
use Rattle.shunt_inputs.specs.defs.Names.{AreNames}
use Rattle.shunt_inputs.specs.defs.Inputs.{stated_certificate, stated_night, stated_plan, then_stated}
use Rattle.shunt_inputs.proofs.Stated.{plans_are, stated_again}
use Rattle.shunt_judging.specs.defs.Checked.{Checkable, check_in, stated_check}
use Rattle.shunt_planning.specs.defs.Planned.{certificate_file, plan_file}
use Rattle.shunt_trial.specs.defs.Rehearsed.{with_both}

-- ---- texts that are read again

-- what the laws of the texts say
pub record TextLaws : Type 0 where
  pub plan_again : (night : Night) (p : Plan) → IsInstance night → IsPlanInRange night p → ReadsAsPlan night p (plan_file night p)
  pub plan_short : (night : Night) (p : Plan) → IsInstance night → IsPlanInRange night p → length (plan_file night p) ≤ 32026
  pub certificate_again : (night : Night) (c : Certificate) → IsInstance night → IsCertificate night c → ReadsAsCertificate night c (certificate_file night c)

module _ (laws : TextLaws) (night : Night) (of_night : IsInstance night) where
  pub plan_back : (p : Plan) → IsPlanInRange night p → stated_plan night (plan_file night p) ≡ Ok p
  plan_back p is = let short = laws.plan_short night p of_night is in stated_again word.Plan (plan_format night) (plan_file night p) p (omega (arith, short))
      (laws.plan_again night p of_night is).value

  pub certificate_back : (c : Certificate) → IsCertificate night c → stated_certificate night (certificate_file night c) ≡ Ok c
  certificate_back c is = let short = text_short night c of_night is in stated_again word.Certificate (certificate_format night) (certificate_file night c) c (omega (arith, short))
      (laws.certificate_again night c of_night is).value

-- ---- names that differ

apart_in : (n : List ℕ) (ns : List (List ℕ)) (m : List ℕ) → AllByRecursion (λ x. n ≢ x) ns → In m ns → n ≢ m
apart_in n [] m h w = absurd w
apart_in n (x ∷ ns) m h (inl e) = λ is. h.0 (is ∙ e)
apart_in n (x ∷ ns) m h (inr w) = apart_in n ns m h.1 w

in_behind : (ns ms : List (List ℕ)) (m : List ℕ) → In m ms → In m (ns ++ ms)
in_behind [] ms m w = w
in_behind (n ∷ ns) ms m w = inr (in_behind ns ms m w)

-- a name of the first ones isn't one behind them
pub names_apart : (ns ms : List (List ℕ)) (n m : List ℕ) → AreNames (ns ++ ms) → In n ns → In m ms → n ≢ m
names_apart [] ms n m h v w = absurd v
names_apart (x ∷ ns) ms n m h (inl e) w = λ is. apart_in x (ns ++ ms) m h.1 (in_behind ns ms m w) (sym e ∙ is)
names_apart (x ∷ ns) ms n m h (inr v) w = names_apart ns ms n m h.2 v w

names_behind : (ns ms : List (List ℕ)) → AreNames (ns ++ ms) → AreNames ms
names_behind [] ms h = h
names_behind (n ∷ ns) ms h = names_behind ns ms h.2

-- ---- what the files hold

put_here : (a : Files) (name text : List ℕ) → content (finmap.insert a name text) name ≡ text
put_here a name text = ap (λ o. unwrap_or o []) (get_here a name text)

put_other : (a : Files) (name text other : List ℕ) → other ≢ name → content (finmap.insert a name text) other ≡ content a other
put_other a name text other ne = ap (λ o. unwrap_or o []) (same_elsewhere a name text other ne)

module _ (s t : List ℕ) (apart : s ≢ t) (a : Files) (station timetable : List ℕ) where
  abbrev both : Files
  both = finmap.insert (finmap.insert a s station) t timetable

  pub station_put : content both s ≡ station
  station_put = put_other (finmap.insert a s station) t timetable s apart ∙ put_here a s station

  pub timetable_put : content both t ≡ timetable
  timetable_put = put_here (finmap.insert a s station) t timetable

-- a certificate and a plan were written, whose names are none of the input files'
module _ (ns : List (List ℕ)) (p k : List ℕ) (names : AreNames (ns ++ p ∷ k ∷ [])) (a : Files) (plan certificate : List ℕ) where
  abbrev pub left : Files
  left = finmap.insert (finmap.insert a k certificate) p plan

  pub input_kept : (n : List ℕ) → In n ns → content left n ≡ content a n
  input_kept n w = put_other (finmap.insert a k certificate) p plan n (names_apart ns (p ∷ k ∷ []) n p names w (inl refl))
      ∙ put_other a k certificate n (names_apart ns (p ∷ k ∷ []) n k names w (inr (inl refl)))

  pub plan_there : content left p ≡ plan
  plan_there = put_here (finmap.insert a k certificate) p plan

  pub certificate_there : content left k ≡ certificate
  certificate_there =
      let both = names_behind ns (p ∷ k ∷ []) names in
      put_other (finmap.insert a k certificate) p plan k (λ e. names_apart (p ∷ []) (k ∷ []) p k both (inl refl) (inl refl) (sym e)) ∙ put_here a k certificate

-- ---- a plan and a certificate behind the night that the files state

abbrev pub checkable : Night → Plan → Certificate → Checkable
checkable night plan certificate = record { night = night; plan = plan; certificate = certificate }

check_is : (s t p k : List ℕ) (night : Night) (plan : Plan) (certificate : Certificate) → stated_night s t ≡ Ok night → stated_plan night p ≡ Ok plan
    → stated_certificate night k ≡ Ok certificate → stated_check s t p k ≡ Ok (checkable night plan certificate)
unfolding stated_check
check_is s t p k night plan certificate a b d =
    ap (λ r. then_stated r (λ (x : Night × Plan). then_stated (stated_certificate x.0 k) (λ c. Ok (checkable x.0 x.1 c)))) (plans_are s t p night plan a b)
    ∙ ap (λ r. then_stated r (λ c. Ok (checkable night plan c))) d

module _ (laws : TextLaws) (s t p k : List ℕ) (names : AreNames (s ∷ t ∷ p ∷ k ∷ [])) (a : Files) (night : Night) (of_night : IsInstance night) (plan : Plan)
    (c : Certificate) where
  abbrev here : Files
  here = with_both p k night plan c a

  -- they are those that the files state then
  pub check_left : stated_night (content a s) (content a t) ≡ Ok night → IsPlanInRange night plan → IsCertificate night c → check_in s t p k here ≡ Ok (checkable night plan c)
  check_left ok in_range statable =
      let ns : List (List ℕ) = s ∷ t ∷ [] in
      let station = input_kept ns p k names a (plan_file night plan) (certificate_file night c) s (inl refl) in
      let timetable = input_kept ns p k names a (plan_file night plan) (certificate_file night c) t (inr (inl refl)) in
      let its_plan = plan_there ns p k names a (plan_file night plan) (certificate_file night c) in
      let its_certificate = certificate_there ns p k names a (plan_file night plan) (certificate_file night c) in
      check_is (content here s) (content here t) (content here p) (content here k) night plan c
      (ap (λ x. stated_night x (content here t)) station ∙ ap (stated_night (content a s)) timetable ∙ ok)
      (ap (stated_plan night) its_plan ∙ plan_back laws night of_night plan in_range)
      (ap (stated_certificate night) its_certificate ∙ certificate_back laws night of_night c statable)
