-- What a recorder over a store can do, by what it is doing and what its store is.
use Rattle.std.proofs.Common.{◌≡◌, ⊎_elim, ◌⊎◌, ℕ, Bool, true, false, List, refl, ap, sym, ◌∙◌, inl, inr, if◌then◌else◌}
use Rattle.std.specs.Prelude.{◌&&◌, Option, Some, None, is_some}
use Rattle.std.specs.Str.{bytes_eq}
use Rattle.std.proofs.lemmas.Bool.{and_parts, and_from}
use Rattle.std.proofs.lemmas.Slice.Eq.{bytes_eq-Decides}
use Rattle.shunt_store.specs.defs.Files as store
use Rattle.shunt_proof.specs.declared.records.Node.{Node}
use Rattle.shunt_proof.specs.declared.text_recorder.TextState.{TextState}
use Rattle.shunt_proof.specs.declared.text_recorder.TextState.TheVariants as doing
use Rattle.shunt_proof.specs.defs.Recorders.{Stage, Open, Stalled, Finished, Failed}
use Rattle.shunt_proof.specs.defs.TextRecorders.{Streamed, where_writing, stage_in, stage_of, is_sound, told_in, told_of, nodes_told}

if_cases : (b : Bool) (stage : Stage) → ((if b then stage else Failed) ≡ Failed) ⊎ (b ≡ true)
if_cases true stage = inr refl
if_cases false stage = inl refl

-- the named file is being written, and the test holds
pub record IsWritten (name : List ℕ) (p : store.Stage) (b : Bool) : Type 0 where
  pub place : p ≡ store.Writing name (store.text_of p)
  pub holds : b ≡ true

pub writing_cases : (name : List ℕ) (p : store.Stage) (b : Bool) (stage : Stage) → (where_writing name p b stage ≡ Failed) ⊎ IsWritten name p b
writing_cases name store.Closed b stage = inl refl
writing_cases name (store.Reading read) b stage = inl refl
writing_cases name (store.Writing written text) b stage =
    ⊎_elim inl (λ e. let a = and_parts (bytes_eq written name) b e in inr (record { place = ap (λ n. store.Writing n text) ((bytes_eq-Decides written name).0 a.0); holds = a.1 }))
    (if_cases (bytes_eq written name && b) stage)

writing_is : (name text : List ℕ) (p : store.Stage) (b : Bool) (stage : Stage) → p ≡ store.Writing name text → b ≡ true → where_writing name p b stage ≡ stage
writing_is name text p b stage e t = ap (λ q. where_writing name q b stage) e ∙ ap (λ (c : Bool). if c then stage else Failed)
    (and_from (bytes_eq name name) b ((bytes_eq-Decides name name).1 refl) t)

-- ---- an open recorder

pub record IsOpen (s : Streamed) : Type 0 where
  pub doing : s.doing ≡ doing.Open
  pub place : s.place ≡ store.Writing s.name (store.text_of s.place)
  pub sound : is_sound s ≡ true

failed_open : {P : Type 0} → Failed ≡ Open → P
failed_open e = absurd cc

stalled_open : {P : Type 0} → Stalled ≡ Open → P
stalled_open e = absurd cc

finished_open : {P : Type 0} (cost bound : ℕ) → Finished cost bound ≡ Open → P
finished_open cost bound e = absurd cc

open_in : (s : Streamed) (d : TextState) → s.doing ≡ d → stage_in s d ≡ Open → IsOpen s
open_in s doing.Open x e = ⊎_elim (λ f. failed_open (sym f ∙ e)) (λ w. record { doing = x; place = w.place; sound = w.holds }) (writing_cases s.name s.place (is_sound s) Open)
open_in s doing.Stalled x e = stalled_open e
open_in s (doing.Finished cost bound) x e =
    ⊎_elim (λ f. failed_open (sym f ∙ e)) (λ w. finished_open cost bound (sym (writing_is s.name (store.text_of s.place) s.place (is_sound s) (Finished cost bound) w.place w.holds)
    ∙ e)) (writing_cases s.name s.place (is_sound s) (Finished cost bound))
open_in s doing.Failed x e = failed_open e

pub opened : (s : Streamed) → stage_of s ≡ Open → IsOpen s
unfolding stage_of
opened s e = open_in s s.doing refl e

-- ---- a finished recorder

pub record IsFinished (s : Streamed) (cost bound : ℕ) : Type 0 where
  pub doing : s.doing ≡ doing.Finished cost bound
  pub place : s.place ≡ store.Writing s.name (store.text_of s.place)
  pub sound : is_sound s ≡ true

failed_finished : {P : Type 0} (cost bound : ℕ) → Failed ≡ Finished cost bound → P
failed_finished cost bound e = absurd cc

stalled_finished : {P : Type 0} (cost bound : ℕ) → Stalled ≡ Finished cost bound → P
stalled_finished cost bound e = absurd cc

open_finished : {P : Type 0} (cost bound : ℕ) → Open ≡ Finished cost bound → P
open_finished cost bound e = absurd cc

same_end : (x y cost bound : ℕ) → Finished x y ≡ Finished cost bound → doing.Finished x y ≡ doing.Finished cost bound
same_end x y cost bound e = cc

finished_in : (s : Streamed) (d : TextState) (cost bound : ℕ) → s.doing ≡ d → stage_in s d ≡ Finished cost bound → IsFinished s cost bound
finished_in s doing.Open cost bound x e =
    ⊎_elim (λ f. failed_finished cost bound (sym f ∙ e)) (λ w. open_finished cost bound
    (sym (writing_is s.name (store.text_of s.place) s.place (is_sound s) Open w.place w.holds) ∙ e)) (writing_cases s.name s.place (is_sound s) Open)
finished_in s doing.Stalled cost bound x e = stalled_finished cost bound e
finished_in s (doing.Finished c b) cost bound x e =
    ⊎_elim (λ f. failed_finished cost bound (sym f ∙ e)) (λ w. record {
      doing = x ∙ same_end c b cost bound (sym (writing_is s.name (store.text_of s.place) s.place (is_sound s) (Finished c b) w.place w.holds) ∙ e);
      place = w.place;
      sound = w.holds;
    }) (writing_cases s.name s.place (is_sound s) (Finished c b))
finished_in s doing.Failed cost bound x e = failed_finished cost bound e

pub finished : (s : Streamed) (cost bound : ℕ) → stage_of s ≡ Finished cost bound → IsFinished s cost bound
unfolding stage_of
finished s cost bound e = finished_in s s.doing cost bound refl e

-- ---- what it is then

pub open_is : (s : Streamed) (text : List ℕ) → s.doing ≡ doing.Open → s.place ≡ store.Writing s.name text → is_sound s ≡ true → stage_of s ≡ Open
unfolding stage_of
open_is s text d p b = ap (stage_in s) d ∙ writing_is s.name text s.place (is_sound s) Open p b

pub finished_is : (s : Streamed) (text : List ℕ) (cost bound : ℕ) → s.doing ≡ doing.Finished cost bound → s.place ≡ store.Writing s.name text → is_sound s ≡ true
    → stage_of s ≡ Finished cost bound
unfolding stage_of
finished_is s text cost bound d p b = ap (stage_in s) d ∙ writing_is s.name text s.place (is_sound s) (Finished cost bound) p b

pub stalled_is : (s : Streamed) → s.doing ≡ doing.Stalled → stage_of s ≡ Stalled
unfolding stage_of
stalled_is s d = ap (stage_in s) d

pub failed_is : (s : Streamed) → s.doing ≡ doing.Failed → stage_of s ≡ Failed
unfolding stage_of
failed_is s d = ap (stage_in s) d

-- ---- what it tells

pub told_open : (s : Streamed) → s.doing ≡ doing.Open → told_of s ≡ nodes_told s.version s.night None s.nodes s.cases (store.text_of s.place)
unfolding told_of
told_open s d = ap (told_in s) d

pub told_finished : (s : Streamed) (cost bound : ℕ) → s.doing ≡ doing.Finished cost bound
    → told_of s ≡ nodes_told s.version s.night (Some (cost, bound)) s.nodes s.cases (store.text_of s.place)
unfolding told_of
told_finished s cost bound d = ap (told_in s) d

pub sound_some : (s : Streamed) (nodes : List Node) → told_of s ≡ Some nodes → is_sound s ≡ true
sound_some s nodes e = ap (λ (o : Option (List Node)). is_some o) e

some_of : (o : Option (List Node)) → is_some o ≡ true → (nodes : List Node) × (o ≡ Some nodes)
some_of (Some nodes) e = (nodes, refl)
some_of None e = absurd cc

pub nodes_of_sound : (s : Streamed) → is_sound s ≡ true → (nodes : List Node) × (told_of s ≡ Some nodes)
nodes_of_sound s sound = some_of (told_of s) sound
