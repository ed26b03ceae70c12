-- The lines of turns, one behind the other.
use Rattle.std.proofs.Common.{◌≡◌, sym, subst, ap, refl, Ok, List, [], ◌∷◌, ◌++◌, length, append_assoc, ◌∙◌, ℕ, ◌+◌, arith}
use Rattle.std.specs.Prelude.{◌↔◌}
use Rattle.shunt_lists.specs.defs.Members.{In}
use Rattle.shunt_instance.specs.defs.Instance.{Night}
use Rattle.shunt_blocks.specs.declared.records.Block.{Block}
use Rattle.shunt_blocks.specs.defs.Lists.{AreInRange}
use Rattle.shunt_plan.specs.declared.edits.Turn.{Turn}
use Rattle.shunt_audit.specs.declared.types.Finding.{Finding}
use Rattle.shunt_audit.specs.defs.Findings.{AreSorted, IsFinding}
use Rattle.shunt_audit.specs.defs.Listed.{findings_in}
use Rattle.shunt_moves.specs.defs.Benches.{Bench}
use Rattle.shunt_judging.specs.defs.Replayed.{Replayable, stated_turns, after_turn, after_turns, bench_of, line_of, lines_from, replay_lines, IsTurnLine}
use Rattle.shunt_judging.proofs.Turned.{last_in_range, turns_night}
use Rattle.shunt.proofs.Replayed.{turns_stated}

-- that the list of findings is exact
pub record FindingLaws : Type 0 where
  pub exactly : (night : Night) (blocks : List Block) (f : Finding) → In f (findings_in night blocks) ↔ IsFinding night blocks f
  pub in_order : (night : Night) (blocks : List Block) → AreInRange night blocks → AreSorted (findings_in night blocks)

after_both : (bench : Bench) (before : List Turn) (turn : Turn) → after_turns bench (before ++ turn ∷ []) ≡ after_turn (after_turns bench before) turn
after_both bench [] turn = refl
after_both bench (b ∷ bs) turn = after_both (after_turn bench b) bs turn

lines_split : (number : ℕ) (bench : Bench) (before : List Turn) (turn : Turn) (after : List Turn)
    → lines_from number bench (before ++ turn ∷ after) ≡ lines_from number bench before
    ++ (line_of (number + length before) (after_turns bench before) turn ++ lines_from (number + length before + 1) (after_turn (after_turns bench before) turn) after)
lines_split number bench [] turn after =
    let same : number + 0 ≡ number = omega arith in
    subst (λ (n : ℕ). lines_from number bench (turn ∷ after) ≡ line_of n bench turn ++ lines_from (n + 1) (after_turn bench turn) after) (sym same) refl
lines_split number bench (b ∷ bs) turn after =
    let same : number + 1 + length bs ≡ number + length (b ∷ bs) = omega arith in
    let rest : ℕ → List ℕ = λ n. line_of n (after_turns (after_turn bench b) bs) turn ++ lines_from (n + 1) (after_turn (after_turns (after_turn bench b) bs) turn) after in
    ap (λ (ls : List ℕ). line_of number bench b ++ ls) (lines_split (number + 1) (after_turn bench b) bs turn after
    ∙ ap (λ (n : ℕ). lines_from (number + 1) (after_turn bench b) bs ++ rest n) same)
    ∙ sym (append_assoc (line_of number bench b) (lines_from (number + 1) (after_turn bench b) bs) (rest (number + length (b ∷ bs))))

module _ (laws : FindingLaws) (s t p e : List ℕ) (x : Replayable) (before : List Turn) (turn : Turn) (ok : stated_turns s t p e ≡ Ok x) where
  abbrev part : Replayable
  part = record { night = x.night; plan = x.plan; turns = before ++ turn ∷ [] }

  abbrev bench : Bench
  bench = after_turns (bench_of x) before

  its_night : bench.night ≡ x.night
  its_night = turns_night (bench_of x) before

  in_range : AreInRange bench.night (after_turn bench turn).present.blocks
  in_range =
      let whole = last_in_range part (turns_stated s t p e x ok).1.blocks in
      subst (λ (night : Night). AreInRange night (after_turn bench turn).present.blocks) (sym its_night)
      (subst (λ (b : Bench). AreInRange x.night b.present.blocks) (after_both (bench_of x) before turn) whole)

  pub line_told : IsTurnLine (length before + 1) bench turn (line_of (length before + 1) bench turn)
  line_told = record {
    findings = findings_in bench.night (after_turn bench turn).present.blocks;
    told = record {
      in_order = laws.in_order bench.night (after_turn bench turn).present.blocks in_range;
      exactly = laws.exactly bench.night
          (after_turn bench turn).present.blocks;
    };
    is = refl;
  }

pub each_line : (laws : FindingLaws) (s t p e : List ℕ) (x : Replayable) (before : List Turn) (turn : Turn) (after : List Turn) → stated_turns s t p e ≡ Ok x
    → x.turns ≡ before ++ turn ∷ after
    → (line rest : List ℕ) × IsTurnLine (length before + 1) (after_turns (bench_of x) before) turn line × (replay_lines x ≡ lines_from 1 (bench_of x) before ++ (line ++ rest))
each_line laws s t p e x before turn after ok is =
    let same : 1 + length before ≡ length before + 1 = omega arith in
    let bench = after_turns (bench_of x) before in
    let rest : ℕ → List ℕ = λ n. lines_from (n + 1) (after_turn bench turn) after in (
      line_of (length before + 1) bench turn,
      rest (length before + 1),
      line_told laws s t p e x before turn ok,
      ap (λ (ts : List Turn). lines_from 1 (bench_of x) ts) is
          ∙ lines_split 1 (bench_of x) before turn after
          ∙ ap (λ (n : ℕ). lines_from 1 (bench_of x) before ++ (line_of n bench turn ++ rest n)) same,
    )
