-- The steps of a recorder over a store.
use Rattle.std.proofs.Common.{◌≡◌, ℕ, ◌+◌, ◌<◌, ◌≤◌, true, List, [], ◌∷◌, ◌++◌, refl, ap, sym, subst, ◌∙◌}
use Rattle.std.specs.Prelude.{Option, Some, None, IfSome}
use Rattle.shunt_store.specs.defs.Files as store
use Rattle.shunt_store.specs.defs.Files.{BothTold}
use Rattle.shunt_rows.specs.defs.Records.{text_of_row, text_of_rows}
use Rattle.shunt_instance.specs.defs.Instance.{IsInstance}
use Rattle.shunt_proof.specs.declared.records.Node.{Node}
use Rattle.shunt_proof.specs.declared.text_recorder.TextState.TheVariants as doing
use Rattle.shunt_proof.specs.defs.Nodes.{FitsNode, CanFollow}
use Rattle.shunt_proof.specs.defs.Certificates.{own_cases}
use Rattle.shunt_proof.specs.defs.CertificateRows.{node_rows, head_row, end_row}
use Rattle.shunt_proof.specs.defs.TextRecorders.{nodes_told, IsTextOf, Streamed, told_of, is_sound}
use Rattle.shunt_proof.proofs.Told.{told_so, so_told, told_more, told_end, told_first}
use Rattle.shunt_proof.proofs.Stages.{IsOpen, told_open, told_finished, sound_some, nodes_of_sound}

-- what is told before and after
pub record Tells (s t : Streamed) (R : List Node → List Node → Type 0) : Type 0 where
  pub told : BothTold (told_of s) (told_of t) R
  pub sound : is_sound t ≡ true

both_some : (R : List Node → List Node → Type 0) (o p : Option (List Node)) (a b : List Node) → o ≡ Some a → p ≡ Some b → R a b → BothTold o p R
both_some R o p a b d e r = subst (λ x. BothTold x p R) (sym d) (subst (λ y. BothTold (Some a) y R) (sym e) r)

tells_some : (s t : Streamed) (R : List Node → List Node → Type 0) (a b : List Node) → told_of s ≡ Some a → told_of t ≡ Some b → R a b → Tells s t R
tells_some s t R a b d e r = record { told = both_some R (told_of s) (told_of t) a b d e r; sound = sound_some t b e }

-- what an open recorder has written
pub record OpenAt (s : Streamed) : Type 0 where
  pub nodes : List Node
  pub told : told_of s ≡ Some nodes
  pub is : IsTextOf s.version s.night None s.nodes s.cases (store.text_of s.place) nodes

pub open_at : (s : Streamed) → IsOpen s → OpenAt s
open_at s o =
    let n = nodes_of_sound s o.sound in
    record { nodes = n.0; told = n.1; is = told_so s.version s.night None s.nodes s.cases (store.text_of s.place) n.0 (sym (told_open s o.doing) ∙ n.1) }

-- the same recorder but for what it did
pub record Goes (s t : Streamed) : Type 0 where
  pub version : t.version ≡ s.version
  pub night : t.night ≡ s.night
  pub name : t.name ≡ s.name

pub told_moved : (s t : Streamed) (end : Option (ℕ × ℕ)) (text : List ℕ) (n k : ℕ) (nodes : List Node) → Goes s t → t.nodes ≡ n → t.cases ≡ k → store.text_of t.place ≡ text
    → nodes_told s.version s.night end n k text ≡ Some nodes
    → nodes_told t.version t.night end t.nodes t.cases (store.text_of t.place) ≡ Some nodes
told_moved s t end text n k nodes g x y z e =
    ap (λ version. nodes_told version t.night end t.nodes t.cases (store.text_of t.place)) g.version
    ∙ ap (λ night. nodes_told s.version night end t.nodes t.cases (store.text_of t.place)) g.night
    ∙ ap (λ m. nodes_told s.version s.night end m t.cases (store.text_of t.place)) x
    ∙ ap (λ m. nodes_told s.version s.night end n m (store.text_of t.place)) y
    ∙ ap (λ m. nodes_told s.version s.night end n k m) z
    ∙ e

-- ---- a node is noted

pub note_step : (s t : Streamed) (node : Node) → IsInstance s.night → IsOpen s → Goes s t → s.nodes < 5000 → s.cases + own_cases node.duals ≤ 8000 → FitsNode s.night node
    → IfSome (told_of s) (λ nodes. CanFollow nodes node)
    → t.doing ≡ doing.Open → t.nodes ≡ s.nodes + 1 → t.cases ≡ s.cases + own_cases node.duals
    → store.text_of t.place ≡ store.text_of s.place ++ text_of_rows (node_rows s.night node) → Tells s t (λ old new. new ≡ old ++ node ∷ [])
note_step s t node h o g few less fits can d x y z =
    let at = open_at s o in
    let follows : CanFollow at.nodes node = subst (λ p. IfSome p (λ nodes. CanFollow nodes node)) at.told can in
    let more = told_more s.version s.night s.nodes s.cases (store.text_of s.place) (store.text_of t.place) at.nodes node few less fits follows at.is z in
    let now = so_told s.version s.night None (s.nodes + 1) (s.cases + own_cases node.duals) (store.text_of t.place) (at.nodes ++ node ∷ []) h tt more in
    tells_some s t (λ old new. new ≡ old ++ node ∷ []) at.nodes (at.nodes ++ node ∷ []) at.told
    (told_open t d ∙ told_moved s t None (store.text_of t.place) (s.nodes + 1) (s.cases + own_cases node.duals) (at.nodes ++ node ∷ []) g x y refl now) refl

-- ---- the end is written

pub finish_step : (s t : Streamed) (cost bound : ℕ) → IsInstance s.night → IsOpen s → Goes s t → 0 < s.nodes → cost ≤ 1000000000000 → bound ≤ 1000000000000
    → t.doing ≡ doing.Finished cost bound → t.nodes ≡ s.nodes → t.cases ≡ s.cases → store.text_of t.place ≡ store.text_of s.place ++ text_of_row (end_row cost bound s.nodes)
    → Tells s t (λ old new. new ≡ old)
finish_step s t cost bound h o g some low high d x y z =
    let at = open_at s o in
    let more = told_end s.version s.night s.nodes s.cases (store.text_of s.place) (store.text_of t.place) at.nodes (cost, bound) at.is z in
    let now = so_told s.version s.night (Some (cost, bound)) s.nodes s.cases (store.text_of t.place) at.nodes h (some, (low, high)) more in
    tells_some s t (λ old new. new ≡ old) at.nodes at.nodes at.told (told_finished t cost bound d
    ∙ told_moved s t (Some (cost, bound)) (store.text_of t.place) s.nodes s.cases at.nodes g x y refl now) refl

-- ---- it begins again

pub restart_step : (s t : Streamed) → IsInstance s.night → IsOpen s → Goes s t → t.doing ≡ doing.Open → t.nodes ≡ 0 → t.cases ≡ 0
    → store.text_of t.place ≡ text_of_row (head_row s.version) → Tells s t (λ old new. new ≡ [])
restart_step s t h o g d x y z =
    let at = open_at s o in
    let now = so_told s.version s.night None 0 0 (store.text_of t.place) [] h tt (told_first s.version s.night (store.text_of t.place) at.is.can z) in
    tells_some s t (λ old new. new ≡ []) at.nodes [] at.told (told_open t d ∙ told_moved s t None (store.text_of t.place) 0 0 [] g x y refl now) refl
