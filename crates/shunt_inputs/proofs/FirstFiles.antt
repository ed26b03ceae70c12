-- Files that are written before the rest of a reply is delivered.
use Rattle.std.proofs.Common.{◌≡◌, ℕ, List, [], Option, Result, Ok, Err, refl, sym, subst, append-nil, ◌∷◌, ◌++◌}
use Rattle.shunt_store.specs.defs.Files.{Files}
use Rattle.shunt_store.proofs.Texts.{both_same}
use Rattle.shunt_inputs.specs.declared.answers.Answer.{Answer}
use Rattle.shunt_inputs.specs.declared.file_loader.Halt.{Halt}
use Rattle.shunt_inputs.specs.declared.file_loader.Halt.TheVariants as halt
use Rattle.shunt_inputs.specs.defs.Halts.{Loads}
use Rattle.shunt_inputs.specs.defs.Names.{AreNames}
use Rattle.shunt_inputs.specs.defs.ReadFiles.{HoldingTexts, IsAnswerOver}
use Rattle.shunt_inputs.specs.defs.Replies.{Reply, Decided, refusal, reply_of}
use Rattle.shunt_inputs.specs.defs.Writes.{Known, Stays, HasFirst, LeavesOne, written}
use Rattle.shunt_inputs.proofs.SeenFiles.{FailsWith, fails, seen_texts}
use Rattle.std.specs.FinMap as map_of

-- nothing was written before
pub none_first : (P : Reply → Type 0) (old new : Known) (r : Reply) → Stays old new → P r → HasFirst P old new r
none_first P old new r same p = record {
  first = [];
  reply = p;
  files = both_same _ old.files new.files same.0 (λ a. refl);
  stored = both_same _ old.stored new.stored same.1
      (λ a. sym (append-nil a));
}

-- what leads to a reply leads to all that follows of it
pub leads_with : (P Q : Reply → Type 0) (old new : Known) (r : Result Answer Halt) → ((reply : Reply) → P reply → Q reply) → LeavesOne P old new r → LeavesOne Q old new r
leads_with P Q old new (Ok a) step h = record { first = h.first; reply = step _ h.reply; files = h.files; stored = h.stored }
leads_with P Q old new (Err (halt.Input text)) step h = record { first = h.first; reply = step _ h.reply; files = h.files; stored = h.stored }
leads_with P Q old new (Err halt.Fault) step h = h
leads_with P Q old new (Err halt.Memory) step h = h

pub leads_memory : (P : Reply → Type 0) (old new : Known) (r : Result Answer Halt) → FailsWith r halt.Memory → Stays old new → LeavesOne P old new r
leads_memory P old new r is same = subst (λ (q : Result Answer Halt). LeavesOne P old new q) (sym (fails r halt.Memory is)) same

-- ---- the answer over what the files hold

module _ {X : Type 0} (view : Option Files) (names : List (List ℕ)) (states : List (List ℕ) → Result X (List ℕ)) (P : X → Reply → Type 0) (old new : Known) (are : AreNames names)
    (same : Stays old new) where
  abbrev IsIts : Reply → Type 0
  IsIts r = IsAnswerOver view names states P r

  pub leads_refused : (r : Result Answer Halt) (e : Halt) → FailsWith r e → HoldingTexts view names (λ texts. Loads {X = X} (Err e) (states texts)) → LeavesOne IsIts old new r
  leads_refused r e is h = subst (λ (q : Result Answer Halt). LeavesOne IsIts old new q) (sym (fails r e is)) (at e h)
    where
      at : (e : Halt) → HoldingTexts view names (λ texts. Loads {X = X} (Err e) (states texts)) → LeavesOne IsIts old new (Err e)
      at (halt.Input text) h =
          let seen = seen_texts view names (λ texts. states texts ≡ Err text.items) are h in
          none_first IsIts old new (refusal text.items) same (seen.0, seen.1, subst (λ (s : Result X (List ℕ)). Decided s P (refusal text.items)) (sym seen.2) refl)
      at halt.Fault h = same
      at halt.Memory h = same

  pub leads_answer : (x : X) (a : Answer) → HoldingTexts view names (λ texts. states texts ≡ Ok x) → P x (reply_of a) → LeavesOne IsIts old new (Ok a)
  leads_answer x a h p =
      let seen = seen_texts view names (λ texts. states texts ≡ Ok x) are h in
      none_first IsIts old new (reply_of a) same (seen.0, seen.1, subst (λ (s : Result X (List ℕ)). Decided s P (reply_of a)) (sym seen.2) p)

pub written-append : (ws vs : List (List ℕ × List ℕ)) (a : Files) → written (ws ++ vs) a ≡ written vs (written ws a)
written-append [] vs a = refl
written-append (w ∷ ws) vs a = written-append ws vs (map_of.insert a w.0 w.1)
