-- Records of blocks and of edits, by what their parts say.
use Rattle.std.proofs.Common.{◌≡◌, ℕ, List, [], ◌∷◌, ◌++◌, sym, ap, ◌∙◌, subst, length}
use Rattle.std.specs.Prelude.{Result, Ok, Err, Option}
use Rattle.std.specs.Result.{IsErrAnd}
use Rattle.shunt_rows.specs.declared.fault.RowFault.{RowFault}
use Rattle.shunt_rows.specs.declared.fault.ReadError.{ReadError}
use Rattle.shunt_rows.specs.defs.Checks.{Judged, answer, says, ◌>>=◌}
use Rattle.shunt_rows.specs.defs.Given.{Fails, Gives}
use Rattle.shunt_rows.proofs.Joins.{part_ok, part_err, part_fails}
use Rattle.shunt_instance.specs.defs.Instance.{Night}
use Rattle.shunt_blocks.specs.declared.records.Park.{Park}
use Rattle.shunt_blocks.specs.declared.records.Block.{Block}
use Rattle.shunt_plan.specs.defs.BlockRecords.{option_in, runs_of, block_of, blocks_of}
use Rattle.shunt_plan.specs.defs.PlanFormat.{PlanDraft, more_of}
use Rattle.shunt_blocks.specs.declared.records.Shape.{Shape}
use Rattle.shunt_plan.specs.declared.edits.Turn.{Turn}
use Rattle.shunt_plan.specs.defs.Edits.{runs_in, add_of, turn_of, edits_later}
use Rattle.shunt_rows.specs.defs.Checks as judging
use Rattle.shunt_plan.specs.declared.edits.Edit.TheVariants as edits
use Rattle.shunt_plan.specs.declared.edits.Turn.TheVariants as turns

-- the block with the option that its record says
with_option : Night → List (List ℕ) → Block → Judged Block
with_option night row b = judging.◌>>=◌ (option_in night.station row 8) (λ park. says (record b { park = park }))

pub runs_fail : (n : ℕ) (night : Night) (blocks : List Block) (row : List (List ℕ)) (e : RowFault) → answer n (runs_of night blocks row) ≡ Err e
    → answer n (block_of night blocks row) ≡ Err e
unfolding block_of with_option
runs_fail n night blocks row e is = part_err n (runs_of night blocks row) (with_option night row) e is

pub option_fails : (n : ℕ) (night : Night) (blocks : List Block) (row : List (List ℕ)) (b : Block) (e : RowFault) → answer n (runs_of night blocks row) ≡ Ok b
    → answer n (option_in night.station row 8) ≡ Err e → answer n (block_of night blocks row) ≡ Err e
unfolding block_of with_option
option_fails n night blocks row b e is fails = part_ok n (runs_of night blocks row) (with_option night row) b is
    ∙ part_err n (option_in night.station row 8) (λ park. says (record b { park = park })) e fails

pub block_is : (n : ℕ) (night : Night) (blocks : List Block) (row : List (List ℕ)) (b : Block) (park : Option Park) → answer n (runs_of night blocks row) ≡ Ok b
    → answer n (option_in night.station row 8) ≡ Ok park → answer n (block_of night blocks row) ≡ Ok (record b { park = park })
unfolding block_of with_option
block_is n night blocks row b park is option = part_ok n (runs_of night blocks row) (with_option night row) b is
    ∙ part_ok n (option_in night.station row 8) (λ park. says (record b { park = park })) park option

-- the same blocks, by another word for them
pub seen_as : (n : ℕ) (night : Night) (row : List (List ℕ)) (seen blocks : List Block) (r : Result Block RowFault) → seen ≡ blocks → answer n (block_of night seen row) ≡ r
    → answer n (block_of night blocks row) ≡ r
seen_as n night row seen blocks r same is = subst (λ x. answer n (block_of night x row) ≡ r) same is

pub one_more : (n : ℕ) (night : Night) (blocks more : List Block) (row : List (List ℕ)) (b : Block) → answer n (block_of night blocks row) ≡ Ok b → more ≡ blocks ++ b ∷ []
    → answer n (blocks_of night blocks row) ≡ Ok more
unfolding blocks_of
one_more n night blocks more row b is push = part_ok n (block_of night blocks row) (λ b. says (blocks ++ b ∷ [])) b is ∙ ap (λ l. Ok l) (sym push)

pub none_more : (n : ℕ) (night : Night) (blocks : List Block) (row : List (List ℕ)) (e : RowFault) → answer n (block_of night blocks row) ≡ Err e
    → answer n (blocks_of night blocks row) ≡ Err e
unfolding blocks_of
none_more n night blocks row e is = part_err n (block_of night blocks row) (λ b. says (blocks ++ b ∷ [])) e is

-- one more block of a plan
pub plan_more : (n : ℕ) (night : Night) (d e : PlanDraft) (blocks : List Block) (row : List (List ℕ)) (r : Result (Unit {0}) ReadError) → e ≡ d
    → Gives (λ x. blocks) r (answer n (blocks_of night d.blocks row)) → Gives (λ x. record d { blocks = blocks }) r (answer n (more_of night e row))
unfolding more_of
plan_more n night d e blocks row (Ok x) same is = ap (λ x. answer n (more_of night x row)) same
    ∙ part_ok n (blocks_of night d.blocks row) (λ blocks. says (record d { blocks = blocks })) blocks is
plan_more n night d e blocks row (Err f) same is = subst (λ x. Fails f (answer n (more_of night x row))) (sym same)
    (part_fails n (blocks_of night d.blocks row) (λ blocks. says (record d { blocks = blocks })) f is)

-- the edit that adds a block with these runs, and where it is parked
abbrev pub parked : Shape → Option Park → Judged Turn
parked s park = says (turns.Edit (edits.Add s.arr s.p s.n s.dep s.q park))

abbrev pub with_park : Night → List (List ℕ) → Shape → Judged Turn
with_park night row s = option_in night.station row 7 >>= parked s

pub add_runs_fail : (n : ℕ) (night : Night) (before : ℕ) (row : List (List ℕ)) (e : RowFault) → Err e ≡ answer n (runs_in night before row)
    → Err e ≡ answer n (add_of night before row)
unfolding add_of
add_runs_fail n night before row e is = sym (part_err n (runs_in night before row) (with_park night row) e (sym is))

pub park_fails : (n : ℕ) (night : Night) (before : ℕ) (row : List (List ℕ)) (s : Shape) (e : RowFault) → Ok s ≡ answer n (runs_in night before row)
    → Err e ≡ answer n (option_in night.station row 7) → Err e ≡ answer n (add_of night before row)
unfolding add_of
park_fails n night before row s e is fails = sym (part_ok n (runs_in night before row) (with_park night row) s (sym is)
    ∙ part_err n (option_in night.station row 7) (parked s) e (sym fails))

pub add_is : (n : ℕ) (night : Night) (before : ℕ) (row : List (List ℕ)) (s : Shape) (park : Option Park) → Ok s ≡ answer n (runs_in night before row)
    → Ok park ≡ answer n (option_in night.station row 7)
    → Ok (turns.Edit (edits.Add s.arr s.p s.n s.dep s.q park)) ≡ answer n (add_of night before row)
unfolding add_of
add_is n night before row s park is option = sym (part_ok n (runs_in night before row) (with_park night row) s (sym is)
    ∙ part_ok n (option_in night.station row 7) (parked s) park (sym option))

-- a fault that is handed on
pub handed : {X : Type 0} (r stated : Result X RowFault) (e : RowFault) → IsErrAnd r (λ f. f ≡ e) → Err e ≡ stated → r ≡ stated
handed (Ok x) stated e same is = absurd same
handed (Err f) stated e same is = ap (λ (g : RowFault). Err g) same ∙ is

abbrev pub behind : List Turn → Turn → Judged (List Turn)
behind before t = says (before ++ t ∷ [])

pub one_turn : (n : ℕ) (night : Night) (before more : List Turn) (count : ℕ) (row : List (List ℕ)) (t : Turn) → count ≡ length before → Ok t ≡ answer n (turn_of night count row)
    → more ≡ before ++ t ∷ [] → answer n (edits_later night before row) ≡ Ok more
unfolding edits_later
one_turn n night before more count row t many is push =
    part_ok n (turn_of night (length before) row) (behind before) t (sym (subst (λ k. Ok t ≡ answer n (turn_of night k row)) many is)) ∙ ap (λ l. Ok l) (sym push)

pub no_turn : (n : ℕ) (night : Night) (before : List Turn) (count : ℕ) (row : List (List ℕ)) (e : RowFault) → count ≡ length before → Err e ≡ answer n (turn_of night count row)
    → answer n (edits_later night before row) ≡ Err e
unfolding edits_later
no_turn n night before count row e many is = part_err n (turn_of night (length before) row) (behind before) e (sym (subst (λ k. Err e ≡ answer n (turn_of night k row)) many is))
