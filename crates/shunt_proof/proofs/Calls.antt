-- What calls of a recorder over a store answer.
use Rattle.std.proofs.Common.{◌≡◌, ℕ, ◌+◌, ◌<◌, ◌≤◌, List, [], ◌∷◌, ◌++◌, true, refl, ap, sym, subst, ◌∙◌}
use Rattle.std.specs.Prelude.{Option, Some, None, IfSome}
use Rattle.shunt_store.specs.defs.Files.{BothTold}
use Rattle.shunt_store.specs.defs.Files as store
use Rattle.shunt_rows.specs.defs.Records.{text_of_row, text_of_rows}
use Rattle.shunt_instance.specs.defs.Instance.{IsInstance}
use Rattle.shunt_proof.specs.declared.records.Node.{Node}
use Rattle.shunt_proof.specs.declared.text_recorder.TextState.TheVariants as doing
use Rattle.shunt_proof.specs.defs.Nodes.{FitsNode, CanFollow}
use Rattle.shunt_proof.specs.defs.Certificates.{own_cases}
use Rattle.shunt_proof.specs.defs.CertificateRows.{node_rows, head_row, end_row}
use Rattle.shunt_proof.specs.defs.Numbers.{CanBeRead}
use Rattle.shunt_proof.specs.defs.Recorders.{Open, Finished}
use Rattle.shunt_proof.specs.defs.TextRecorders.{Streamed, told_of, stage_of, is_sound, Rests, KeepsStream}
use Rattle.shunt_proof.proofs.Told.{so_told, told_first}
use Rattle.shunt_proof.proofs.Stages.{IsOpen, opened, open_is, finished_is, told_open, sound_some}
use Rattle.shunt_proof.proofs.Steps.{Tells, Goes, told_moved, note_step, finish_step, restart_step}

pub is_writing : (s : Streamed) → stage_of s ≡ Open → store.IsWriting s.place
is_writing s e = subst store.IsWriting (sym (opened s e).place) tt

-- ---- where a recorder rests

pub rests_open : (s : Streamed) (name text : List ℕ) → s.doing ≡ doing.Open → s.place ≡ store.Writing name text → Rests s.doing s.place
rests_open s name text d p = subst (λ x. Rests x s.place) (sym d) (subst store.IsWriting (sym p) tt)

pub rests_finished : (s : Streamed) (cost bound : ℕ) (name text : List ℕ) → s.doing ≡ doing.Finished cost bound → s.place ≡ store.Writing name text → Rests s.doing s.place
rests_finished s cost bound name text d p = subst (λ x. Rests x s.place) (sym d) (subst store.IsWriting (sym p) tt)

pub keeps_by : (s t : Streamed) → Goes s t → Rests t.doing t.place → KeepsStream s t
keeps_by s t g r = record { version = g.version; night = g.night; name = g.name; rests = λ x. r }

-- what is written on has the name of this recorder's file
its_name : (s t : Streamed) (text : List ℕ) → IsOpen s → Goes s t → t.place ≡ store.Writing (store.name_of s.place) text → t.place ≡ store.Writing t.name text
its_name s t text o g p = p ∙ ap (λ n. store.Writing n text) (ap store.name_of o.place ∙ sym g.name)

-- ---- a recorder that is made

pub record Starts (s : Streamed) : Type 0 where
  pub told : told_of s ≡ Some []
  pub sound : is_sound s ≡ true

pub started : (s : Streamed) → IsInstance s.night → CanBeRead s.version → s.doing ≡ doing.Open → s.nodes ≡ 0 → s.cases ≡ 0
    → s.place ≡ store.Writing s.name (text_of_row (head_row s.version)) → Starts s
started s h can d x y p =
    let text = ap store.text_of p in
    let now = so_told s.version s.night None 0 0 (store.text_of s.place) [] h tt (told_first s.version s.night (store.text_of s.place) can text) in
    let told = told_open s d ∙ told_moved s s None (store.text_of s.place) 0 0 [] (record { version = refl; night = refl; name = refl }) x y refl now in
    record { told = told; sound = sound_some s [] told }

pub starts_open : (s : Streamed) → IsInstance s.night → CanBeRead s.version → s.doing ≡ doing.Open → s.nodes ≡ 0 → s.cases ≡ 0
    → s.place ≡ store.Writing s.name (text_of_row (head_row s.version)) → stage_of s ≡ Open
starts_open s h can d x y p = open_is s (text_of_row (head_row s.version)) d p (started s h can d x y p).sound

-- ---- a node is noted

module _ (s t : Streamed) (node : Node) (e : stage_of s ≡ Open) (g : Goes s t) (p : t.place
    ≡ store.Writing (store.name_of s.place) (store.text_of s.place ++ text_of_rows (node_rows s.night node))) (d : t.doing ≡ s.doing) where
  pub note_done : IsInstance s.night → s.nodes < 5000 → s.cases + own_cases node.duals ≤ 8000 → FitsNode s.night node → IfSome (told_of s) (λ nodes. CanFollow nodes node)
      → t.nodes ≡ s.nodes + 1 → t.cases ≡ s.cases + own_cases node.duals
      → Tells s t (λ old new. new ≡ old ++ node ∷ [])
  note_done h few less fits can x y = let o = opened s e in note_step s t node h o g few less fits can (d ∙ o.doing) x y (ap store.text_of p)

  pub note_open : Tells s t (λ old new. new ≡ old ++ node ∷ []) → stage_of t ≡ Open
  note_open tells = let o = opened s e in open_is t (store.text_of s.place ++ text_of_rows (node_rows s.night node)) (d ∙ o.doing) (its_name s t _ o g p) tells.sound

  pub note_keeps : KeepsStream s t
  note_keeps = keeps_by s t g (rests_open t _ _ (d ∙ (opened s e).doing) p)

-- ---- the end is written

module _ (s t : Streamed) (cost bound : ℕ) (e : stage_of s ≡ Open) (g : Goes s t)
    (p : t.place ≡ store.Writing (store.name_of s.place) (store.text_of s.place ++ text_of_row (end_row cost bound s.nodes))) (d : t.doing ≡ doing.Finished cost bound) where
  pub finish_done : IsInstance s.night → 0 < s.nodes → cost ≤ 1000000000000 → bound ≤ 1000000000000 → t.nodes ≡ s.nodes → t.cases ≡ s.cases → Tells s t (λ old new. new ≡ old)
  finish_done h some low high x y = finish_step s t cost bound h (opened s e) g some low high d x y (ap store.text_of p)

  pub finish_ended : Tells s t (λ old new. new ≡ old) → stage_of t ≡ Finished cost bound
  finish_ended tells = finished_is t (store.text_of s.place ++ text_of_row (end_row cost bound s.nodes)) cost bound d (its_name s t _ (opened s e) g p) tells.sound

  pub finish_keeps : KeepsStream s t
  finish_keeps = keeps_by s t g (rests_finished t cost bound _ _ d p)

-- both are told and alike, or neither
same_told : (o p : Option (List Node)) → BothTold o p (λ old new. new ≡ old) → p ≡ o
same_told None None both = refl
same_told None (Some b) both = absurd both
same_told (Some a) None both = absurd both
same_told (Some a) (Some b) both = ap (λ (x : List Node). Some x) both

pub ends_same : (s t : Streamed) → Tells s t (λ old new. new ≡ old) → told_of t ≡ told_of s
ends_same s t tells = same_told (told_of s) (told_of t) tells.told

-- ---- it begins again

module _ (s t : Streamed) (e : stage_of s ≡ Open) (g : Goes s t) (p : t.place ≡ store.Writing s.name (text_of_row (head_row s.version))) (d : t.doing ≡ s.doing) where
  pub restart_done : IsInstance s.night → t.nodes ≡ 0 → t.cases ≡ 0 → Tells s t (λ old new. new ≡ [])
  restart_done h x y = let o = opened s e in restart_step s t h o g (d ∙ o.doing) x y (ap store.text_of p)

  pub restart_open : Tells s t (λ old new. new ≡ []) → stage_of t ≡ Open
  restart_open tells = open_is t (text_of_row (head_row s.version)) (d ∙ (opened s e).doing)
      (p ∙ ap (λ n. store.Writing n (text_of_row (head_row s.version))) (sym g.name)) tells.sound

  pub restart_keeps : KeepsStream s t
  restart_keeps = keeps_by s t g (rests_open t _ _ (d ∙ (opened s e).doing) p)
