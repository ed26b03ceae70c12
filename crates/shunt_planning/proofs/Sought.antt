-- From what a search found to the answers of `plan`, `pinned` and `improve`.
use Rattle.std.proofs.Common.{◌≡◌, ◌≢◌, ◌∙◌, ℕ, ◌≤◌, zero, suc, Bool, List, [], ◌∷◌, ◌++◌, length, map, Option, Some, None, Result, Ok, Err, refl, subst, sym, ap, inl, inr, arith, rules, IsPermutation}
use Rattle.std.proofs.lemmas.List.Sorted.{sum_by-IsPermutation}
use Rattle.std.specs.List.{range_with_len}
use Rattle.std.specs.Prelude.{◌==◌, not, IfNone, IfSome}
use Rattle.shunt_store.specs.defs.Files.{Files, Stage, Closed, Writing, IsWriting, BothTold, content, files_after, text_of}
use Rattle.shunt_store.specs.defs.Notes.{stored_after}
use Rattle.shunt_store.proofs.Texts.{both_map}
use Rattle.shunt_instance.specs.defs.Instance.{Night, unit_total, position_total}
use Rattle.shunt_instance.specs.defs.Matching.{Entry, IsMatchingOfRest, is_in_rest, unit_entries, position_entries}
use Rattle.shunt_matching.specs.declared.types.Shortage.{Shortage}
use Rattle.shunt_matching.specs.defs.Counts.{AreAlikeBelow}
use Rattle.shunt_matching.specs.defs.Nights.{HasItsType, HasMatching, HasNoMatching, IsShortageOf}
use Rattle.shunt_matching.specs.defs.Shortages.{IsFirstShortage}
use Rattle.shunt_blocks.specs.declared.records.Block.{Block}
use Rattle.shunt_blocks.specs.defs.Lists.{times_unit, times_position, units_taken, positions_taken}
use Rattle.shunt_blocks.specs.defs.Pins.{AreUsable}
use Rattle.shunt_plan.specs.defs.Plans.{IsPlanInRange}
use Rattle.shunt_proof.specs.declared.records.Version.{Version}
use Rattle.shunt_proof.specs.declared.records.Version.TheVariants.{Prices, Stacks}
use Rattle.shunt_proof.specs.declared.records.Certificate.{Certificate}
use Rattle.shunt_proof.specs.defs.Numbers.{CanBeRead}
use Rattle.shunt_proof.specs.defs.Recorders.{Finished}
use Rattle.shunt_proof.specs.defs.TextRecorders.{Streamed, stage_of, told_of, KeepsStream}
use Rattle.shunt_proof.proofs.Stages.{finished}
use Rattle.shunt_report.specs.defs.PlanTexts.{plan_of}
use Rattle.shunt_search.specs.declared.solved.Solved.{Solved}
use Rattle.shunt_search.specs.defs.Endings.{certificate_in, IsShownIn}
use Rattle.shunt_inputs.specs.declared.answers.Answer.{Answer}
use Rattle.shunt_inputs.specs.declared.file_loader.Halt.{Halt}
use Rattle.shunt_inputs.specs.declared.file_loader.Halt.TheVariants as halt
use Rattle.shunt_inputs.specs.defs.Names.{AreNames}
use Rattle.shunt_inputs.specs.defs.Inputs.{Agrees}
use Rattle.shunt_inputs.specs.defs.Replies.{Decided, Reply, refusal, reply_of}
use Rattle.shunt_inputs.specs.defs.Writes.{written, with_first, Known, Stays, HasFirst, LeavesOne}
use Rattle.shunt_inputs.specs.defs.Halts.{Loads}
use Rattle.shunt_inputs.specs.defs.ReadFiles.{HoldingTexts}
use Rattle.shunt_inputs.proofs.FirstFiles.{none_first}
use Rattle.shunt_inputs.proofs.SeenFiles.{FailsWith, fails, front_names, seen_texts}
use Rattle.shunt_planning.specs.defs.Matched.{IsShortBeside}
use Rattle.shunt_planning.specs.defs.Planned.{IsPlannedAt, IsSoughtOver, Lacks, certificate_file, plan_file, search_outcome}
use Rattle.shunt_planning.specs.defs.Begun.{IsOverTold, IsFound}
use Rattle.shunt_planning.proofs.Certified.{finished_text}

-- ---- what a recorder leaves

pub stream_found : (night : Night) (pins : List Block) (most : ℕ) (name : List ℕ) (s t : Streamed) (solved : Solved) → s.version ≡ solved.version → s.night ≡ night
    → s.name ≡ name
    → KeepsStream s t → stage_of t ≡ Finished solved.cost solved.bound → solved.cost ≡ solved.plan.cost
    → IsShownIn solved.version night pins most solved.plan solved.bound solved.nodes (told_of t) → (most ≤ 16 → solved.version ≡ Prices)
    → IsFound night pins most name t.place solved
stream_found night pins most name s t solved of_version of_night called keeps stage cost shown few = record {
  nodes = shown.nodes;
  many = shown.many;
  statable = shown.stated;
  meet = shown.meet;
  few = few;
  written = (finished t solved.cost solved.bound stage).place ∙ ap (λ n. Writing n (text_of t.place)) (keeps.name ∙ called) ∙ ap (Writing name) text;
}
  where
    text : text_of t.place ≡ certificate_file night (certificate_in solved.version solved.plan solved.bound shown.nodes)
    text =
        finished_text t solved.cost solved.bound shown.nodes stage shown.tells
        ∙ ap (λ (v : Version). certificate_file t.night (record { version = v; nodes = shown.nodes; cost = solved.cost; bound = solved.bound })) (keeps.version ∙ of_version)
        ∙ ap (λ (n : Night). certificate_file n (record { version = solved.version; nodes = shown.nodes; cost = solved.cost; bound = solved.bound })) (keeps.night ∙ of_night)
        ∙ ap (λ (x : ℕ). certificate_file night (record { version = solved.version; nodes = shown.nodes; cost = x; bound = solved.bound })) cost

-- either version can be read
pub readable : (v : Version) → CanBeRead v
readable Prices = omega arith
readable Stacks = omega arith

-- a file is being written where a search has found
pub found_open : (night : Night) (pins : List Block) (most : ℕ) (name : List ℕ) (place : Stage) (s : Solved) → IsFound night pins most name place s → IsWriting place
found_open night pins most name place s h = subst IsWriting (sym h.written) tt

writing_closed : (name text : List ℕ) → Writing name text ≡ Closed → ⊥
writing_closed name text e = absurd cc

pub found_not_closed : (night : Night) (pins : List Block) (most : ℕ) (name : List ℕ) (place : Stage) (s : Solved) → IsFound night pins most name place s → place ≢ Closed
found_not_closed night pins most name place s h e = writing_closed name (certificate_file night (certificate_in s.version s.plan s.bound h.nodes)) (sym h.written ∙ e)

-- ---- the answer for a night

module _ (pins : List Block) (most : ℕ) (p k : List ℕ) (night : Night) (place : Stage) (s : Solved) (h : IsFound night pins most k place s) where
  abbrev its : Certificate
  its = certificate_in s.version s.plan s.bound h.nodes

  abbrev rest : ℕ → ℕ → Reply
  rest cost count = record { outcome = search_outcome cost s.bound; writes = (p, plan_file night s.plan) ∷ []; text = plan_of s.plan s.bound count }

  abbrev its_write : List (List ℕ × List ℕ)
  its_write = (k, certificate_file night its) ∷ []

  -- the certificate is closed, and then the rest is left
  pub found_leads : (fits : ℕ → Type 0) → fits s.cost → IsPlanInRange night s.plan → s.cost ≡ s.plan.cost → (r : Reply) → r ≡ rest s.cost s.nodes → (old mid new : Known)
      → Stays old mid → BothTold mid.files new.files (λ a b. b ≡ files_after place a)
      → BothTold mid.stored new.stored (λ a b. b ≡ stored_after place a) → HasFirst (IsPlannedAt fits pins most p k night) old new r
  found_leads fits fit in_range cost r is old mid new same closed noted = record {
    first = its_write;
    reply = record {
      planned = record {
        plan = s.plan;
        certificate = its;
        in_range = in_range;
        statable = h.statable;
        meet = h.meet;
        few = h.few;
        reply = ap (with_first its_write) (is ∙ ap (λ (x : ℕ). rest x s.nodes) cost ∙ ap (rest s.plan.cost) h.many);
      };
      cost = subst fits cost fit;
    };
    files = subst (λ f. BothTold f new.files (λ a b. b ≡ written its_write a)) same.0
        (both_map (λ a b. b ≡ files_after place a) (λ a b. b ≡ written its_write a) mid.files new.files closed (λ a b e. e ∙ ap (λ st. files_after st a) h.written));
    stored = subst (λ f. BothTold f new.stored (λ a b. b ≡ a ++ its_write)) same.1
        (both_map (λ a b. b ≡ stored_after place a) (λ a b. b ≡ a ++ its_write) mid.stored new.stored noted (λ a b e. e ∙ ap (λ st. stored_after st a) h.written));
  }

-- ---- the rest

module _ (f g : ℕ → ℕ) (same : (i : ℕ) → f i ≡ g i) where
  mask_alike : (is : List ℕ) (k : ℕ) → is_in_rest (map (λ i. not (f i == 0)) is) k ≡ is_in_rest (map (λ i. not (g i == 0)) is) k
  mask_alike [] k = refl
  mask_alike (i ∷ is) zero = ap (λ (n : ℕ). not (not (n == 0))) (same i)
  mask_alike (i ∷ is) (suc k) = mask_alike is k

-- the same pins in another order leave the same
pub units_alike : (night : Night) (pins blocks : List Block) (n : ℕ) → IsPermutation pins blocks → AreAlikeBelow n (units_taken night blocks) (units_taken night pins)
units_alike night pins blocks n same = λ k lt. mask_alike (times_unit night blocks) (times_unit night pins) (λ u. sum_by-IsPermutation _ pins blocks same)
    (range_with_len 0 (unit_total night)) k

pub positions_alike : (night : Night) (pins blocks : List Block) (n : ℕ) → IsPermutation pins blocks → AreAlikeBelow n (positions_taken night blocks) (positions_taken night pins)
positions_alike night pins blocks n same = λ k lt. mask_alike (times_position night blocks) (times_position night pins) (λ v. sum_by-IsPermutation _ pins blocks same)
    (range_with_len 0 (position_total night)) k

-- what a shortage or none says
pub lacks_where : (night : Night) (us vs um vm : List Bool) (o : Option Shortage) → um ≡ us → vm ≡ vs → IfNone o (HasMatching night um vm)
    → IfSome o (λ s. HasNoMatching night um vm) → IfSome o (IsShortageOf night um vm) → IfSome o (HasItsType night) → Lacks night us vs o
lacks_where night us vs um vm o units places some none exact known = subst (λ x. Lacks night x vs o) units (subst (λ y. Lacks night um y o) places (at o some none exact known))
  where
    at : (o : Option Shortage) → IfNone o (HasMatching night um vm) → IfSome o (λ s. HasNoMatching night um vm) → IfSome o (IsShortageOf night um vm) → IfSome o (HasItsType night)
        → Lacks night um vm o
    at None some none exact known = some
    at (Some s) some none exact known = (none, exact, known)

-- that masks that leave out the same have the same matchings and shortages
pub record MaskLaws : Type 0 where
  pub matchings : (us vs : List Entry) (um vm un vn : List Bool) (place : List ℕ) → AreAlikeBelow (length us) um un → AreAlikeBelow (length vs) vm vn
      → IsMatchingOfRest us vs um vm place → IsMatchingOfRest us vs un vn place
  pub shortages : (us vs : List Entry) (um vm un vn : List Bool) (s : Shortage) → AreAlikeBelow (length us) um un → AreAlikeBelow (length vs) vm vn → IsFirstShortage us vs um vm s
      → IsFirstShortage us vs un vn s

abbrev pub AreAlike : Night → List Bool → List Bool → List Bool → List Bool → Type 0
AreAlike night um vm un vn = AreAlikeBelow (length (unit_entries night)) um un × AreAlikeBelow (length (position_entries night)) vm vn

module _ (laws : MaskLaws) (night : Night) (um vm un vn : List Bool) (to : AreAlike night um vm un vn) (back : AreAlike night un vn um vm) where
  matching_alike : HasMatching night um vm → HasMatching night un vn
  matching_alike (place, is) = (place, laws.matchings (unit_entries night) (position_entries night) um vm un vn place to.0 to.1 is)

  none_alike : HasNoMatching night um vm → HasNoMatching night un vn
  none_alike none place is = none place (laws.matchings (unit_entries night) (position_entries night) un vn um vm place back.0 back.1 is)

  shortage_alike : (s : Shortage) → IsShortageOf night um vm s → IsShortageOf night un vn s
  shortage_alike s is = laws.shortages (unit_entries night) (position_entries night) um vm un vn s to.0 to.1 is

  pub lacks_alike : (o : Option Shortage) → Lacks night um vm o → Lacks night un vn o
  lacks_alike None some = matching_alike some
  lacks_alike (Some s) (none, is, known) = (none_alike none, shortage_alike s is, known)

  short_alike : (r : Reply) → IsShortBeside um vm night r → IsShortBeside un vn night r
  short_alike r is = record { none = none_alike is.none; reply = (is.reply.0, shortage_alike is.reply.0 is.reply.1, is.reply.2) }

  pub sought_alike : (pins : List Block) (most : ℕ) (p k : List ℕ) (r : Reply) → IsSoughtOver pins um vm most p k night r → IsSoughtOver pins un vn most p k night r
  sought_alike pins most p k r (inl (some, is)) = inl (matching_alike some, is)
  sought_alike pins most p k r (inr is) = inr (short_alike r is)

-- ---- the answer over what the files hold

module _ {X : Type 0} (view : Option Files) (old : Known) (ns ms : List (List ℕ)) (stated : List (List ℕ) → Result X (List ℕ)) (P : X → Reply → Type 0)
    (names : AreNames (ns ++ ms)) where
  abbrev in_files : Files → Result X (List ℕ)
  in_files files = stated (map (content files) ns)

  -- what holds of the contents of all input files
  over : (Q : List (List ℕ) → Type 0) → HoldingTexts view ns Q → (files : Files) × Agrees view files × Q (map (content files) ns)
  over Q h = seen_texts view ns Q (front_names ns ms names) h

  pub refused_over : (new : Known) (r : Result Answer Halt) (e : Halt) → FailsWith r e → Stays old new → HoldingTexts view ns (λ bs. Loads {X = X} (Err e) (stated bs))
      → LeavesOne (IsOverTold view in_files P) old new r
  refused_over new r e is same h = subst (LeavesOne (IsOverTold view in_files P) old new) (sym (fails r e is)) (at e (over (λ bs. Loads {X = X} (Err e) (stated bs)) h))
    where
      at : (e : Halt) → (files : Files) × Agrees view files × Loads {X = X} (Err e) (in_files files) → LeavesOne (IsOverTold view in_files P) old new (Err e)
      at (halt.Input text) g = none_first (IsOverTold view in_files P) old new (refusal text.items) same
          (g.0, g.1, subst (λ (s : Result X (List ℕ)). Decided s P (refusal text.items)) (sym g.2) refl)
      at halt.Fault g = same
      at halt.Memory g = same

  module _ (x : X) (mid new : Known) (same : Stays old mid) (states : HoldingTexts view ns (λ bs. stated bs ≡ Ok x)) where
    handed : (r : Reply) → HasFirst (P x) mid new r → HasFirst (IsOverTold view in_files P) old new r
    handed r h =
        let g = over (λ bs. stated bs ≡ Ok x) states in
        record {
          first = h.first;
          reply = (g.0, g.1, subst (λ (s : Result X (List ℕ)). Decided s P (with_first h.first r)) (sym g.2) h.reply);
          files = subst (λ o. BothTold o new.files (λ a b. b ≡ written h.first a)) same.0 h.files;
          stored = subst (λ o. BothTold o new.stored (λ a b. b ≡ a ++ h.first)) same.1 h.stored;
        }

    pub found_over : (r : Result Answer Halt) → LeavesOne (P x) mid new r → LeavesOne (IsOverTold view in_files P) old new r
    found_over (Ok a) h = handed (reply_of a) h
    found_over (Err (halt.Input text)) h = handed (refusal text.items) h
    found_over (Err halt.Fault) h = (h.0 ∙ same.0, h.1 ∙ same.1)
    found_over (Err halt.Memory) h = (h.0 ∙ same.0, h.1 ∙ same.1)

-- ---- without pins

pub usable_none : (night : Night) → AreUsable night []
usable_none night = record {
  in_range = record { few = omega arith; each = λ k d lt. absurd (omega (arith, lt)); ids = search rules };
  each = λ k d lt. absurd (omega (arith, lt));
  apart = record { units = λ u. omega arith; positions = λ v. omega arith };
  through = refl;
}

-- ---- costs

-- what costs no more than something that is no dearer than what is given
pub no_dearer : {A : Type 0} (given : Option A) (cost : A → ℕ) (known now : ℕ) → now ≤ known → IfSome given (λ a. known ≤ cost a) → IfSome given (λ a. now ≤ cost a)
no_dearer None cost known now le h = tt
no_dearer (Some a) cost known now le h = omega (arith, le, h)
