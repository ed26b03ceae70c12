-- Children that come to those that wait.
use Rattle.std.specs.Prelude.{take}
use Rattle.std.proofs.Common.{◌≡◌, ⊎_elim, ℕ, ◌+◌, ◌<◌, ◌≤◌, List, [], ◌∷◌, ◌++◌, length, get_or, refl, sym, subst, ap, ◌∙◌}
use Rattle.std.proofs.lemmas.List.{append-nil, append_assoc, map-append, take_more, take_all}
use Rattle.shunt_lists.proofs.Members.{in_cases, of_one}
use Rattle.shunt_search.specs.declared.child.Child.{Child}
use Rattle.shunt_search.specs.declared.walk_stack.Pending.{Pending}
use Rattle.shunt_search.specs.defs.WalkStates.{Adds}

pub adds_first : (parent place : ℕ) (old : List Pending) → Adds [] parent place old old
adds_first parent place old = record { added = []; is = sym (append-nil old); each = refl; parents = λ p i. absurd i }

adds_one : (seen : List Child) (c : Child) (parent place : ℕ) (old now : List Pending) (p : Pending) → p.child ≡ c → p.parent ≡ parent → p.cases ≡ place
    → Adds seen parent place old now → Adds (seen ++ c ∷ []) parent place old (now ++ p ∷ [])
adds_one seen c parent place old now p is up at h = record {
  added = h.added ++ p ∷ [];
  is = ap (λ (l : List Pending). l ++ p ∷ []) h.is ∙ append_assoc old h.added (p ∷ []);
  each = map-append (λ (q : Pending). q.child) h.added (p ∷ []) ∙ ap (λ (l : List Child). l ++ p.child ∷ []) h.each ∙ ap (λ (x : Child). seen ++ x ∷ []) is;
  parents = λ q i. ⊎_elim
      (λ l. h.parents q l)
      (λ r. (ap (λ (x : Pending). x.parent) (of_one p q r) ∙ up, ap (λ (x : Pending). x.cases) (of_one p q r) ∙ at))
      (in_cases h.added (p ∷ []) q i);
}

-- a list of children of which one more has come
pub adds_more : (children : List Child) (k : ℕ) (d : Child) → k < length children → (parent place : ℕ) (old now new : List Pending) (p : Pending) → new ≡ now ++ p ∷ []
    → p.child ≡ get_or children k d → p.parent ≡ parent → p.cases ≡ place
    → Adds (take k children) parent place old now → Adds (take (k + 1) children) parent place old new
adds_more children k d lt parent place old now new p e is up at h =
    subst (λ (l : List Child). Adds l parent place old new) (sym (take_more children k d lt))
    (subst (λ (l : List Pending). Adds (take k children ++ get_or children k d ∷ []) parent place old l) (sym e)
    (adds_one (take k children) (get_or children k d) parent place old now p is up at h))

pub adds_all : (children : List Child) (k : ℕ) (parent place : ℕ) (old now : List Pending) → length children ≤ k → Adds (take k children) parent place old now
    → Adds children parent place old now
adds_all children k parent place old now le h = subst (λ (l : List Child). Adds l parent place old now) (take_all k children le) h
