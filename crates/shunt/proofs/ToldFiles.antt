-- A run over the files as they are told, and over those that hold what was heard.
use Rattle.std.proofs.Common.{◌≡◌, ◌∙◌, ℕ, List, [], ◌++◌, take, Option, Some, None, append-nil, refl, sym, ap, subst, inl, inr}
use Rattle.std.proofs.lemmas.List.{append_cancel_left}
use Rattle.shunt_store.specs.defs.Files.{Files, BothTold}
use Rattle.shunt_store.specs.defs.Notes.{Entries}
use Rattle.shunt_inputs.specs.defs.Replies.{Reply}
use Rattle.shunt_inputs.specs.defs.Writes.{written}
use Rattle.shunt_inputs.specs.defs.Views.{IsView}
use Rattle.shunt.specs.declared.status.Status.{Status}
use Rattle.shunt.specs.declared.status.Status.TheVariants as status
use Rattle.shunt.specs.defs.Calls.{Call}
use Rattle.shunt.specs.defs.Replies.{IsReplyOver}
use Rattle.shunt.specs.defs.Ends.{Telling, StoredIn, AreMoved, AreKnown, Seen, CutInFiles, CutInText, IsWhole, Delivers, StopsEarly, Ends}

-- the same moment, with these files
abbrev pub with_files : Option Files → Seen → Seen
with_files files s = record { files = files; stored = s.stored; store_faults = s.store_faults; output = s.output; sink_faults = s.sink_faults }

-- what is known before a run is a view of it
pub view_of : (old new : Telling) (before after : Option Files) → AreKnown old new before after → IsView old.files old.heard new.heard before
view_of old new before after (inl h) = inl h.0
view_of old new before after (inr h) = inr (h.files, h.known_before, h.heard)

-- what was stored is known
one_list : (o n : Option Entries) (ws vs : Entries) → StoredIn o n ws → BothTold o n (λ a b. b ≡ a ++ vs) → ws ≡ vs
one_list None n ws vs h e = absurd h
one_list (Some a) None ws vs h e = absurd h
one_list (Some a) (Some b) ws vs h e = append_cancel_left a ws vs (sym h ∙ e)

none_stored : (o n : Option Entries) (ws : Entries) → StoredIn o n ws → n ≡ o → ws ≡ []
none_stored None n ws h e = absurd h
none_stored (Some a) None ws h e = absurd h
none_stored (Some a) (Some b) ws h e = append_cancel_left a ws [] (sym h ∙ (let same : b ≡ a = cc in same) ∙ sym (append-nil a))

module _ (t u : Telling) (old new : Seen) (before after : Option Files) (told : old.files ≡ t.files) (still : new.files ≡ u.files) (noted : old.stored ≡ t.stored)
    (now : new.stored ≡ u.stored) where
  wrote : (vs : Entries) → AreKnown t u before after → BothTold old.files new.files (λ a b. b ≡ written vs a) → BothTold old.stored new.stored (λ a b. b ≡ a ++ vs)
      → BothTold before after (λ a b. b ≡ written vs a)
  wrote vs (inl h) files stored =
      subst (λ o. BothTold o after (λ a b. b ≡ written vs a)) (sym (h.0 ∙ sym told)) (subst (λ o. BothTold old.files o (λ a b. b ≡ written vs a)) (sym (h.1 ∙ sym still)) files)
  wrote vs (inr h) files stored =
      let same : h.stores ≡ vs = one_list t.stored u.stored h.stores vs h.stored (subst (λ o. BothTold o u.stored (λ a b. b ≡ a ++ vs)) noted
      (subst (λ o. BothTold old.stored o (λ a b. b ≡ a ++ vs)) now stored)) in
      subst (λ o. BothTold o after (λ a b. b ≡ written vs a)) (sym h.known_before)
      (subst (λ o. BothTold (Some h.files) o (λ a b. b ≡ written vs a)) (sym h.known_after) (ap (λ (ws : Entries). written ws h.files) same))

  stayed : AreKnown t u before after → new.files ≡ old.files → new.stored ≡ old.stored → after ≡ before
  stayed (inl h) files stored = h.1 ∙ sym still ∙ files ∙ told ∙ sym h.0
  stayed (inr h) files stored =
      let same : h.stores ≡ [] = none_stored t.stored u.stored h.stores h.stored (sym now ∙ stored ∙ noted) in
      h.known_after ∙ ap (λ (ws : Entries). Some (written ws h.files)) same ∙ sym h.known_before

  in_files : (r : Reply) → AreKnown t u before after → CutInFiles r old new → CutInFiles r (with_files before old) (with_files after new)
  in_files r known h = record {
    some = record { many = h.some.many; files = wrote (take h.some.many r.writes) known h.some.files h.some.stored; stored = h.some.stored };
    output =
        h.output;
  }

  in_text : (r : Reply) → AreKnown t u before after → CutInText r old new → CutInText r (with_files before old) (with_files after new)
  in_text r known h = record { files = wrote r.writes known h.files h.stored; stored = h.stored; output = h.output }

  whole : (r : Reply) → AreKnown t u before after → IsWhole r old new → IsWhole r (with_files before old) (with_files after new)
  whole r known h = record { files = wrote r.writes known h.files h.stored; stored = h.stored; output = h.output }

  pub known_delivery : (r : Reply) (s : Status) → AreKnown t u before after → Delivers r old new s → Delivers r (with_files before old) (with_files after new) s
  known_delivery r status.Store known h = (h.0, in_files r known h.1)
  known_delivery r status.Memory known (inl h) = inl (in_files r known h)
  known_delivery r status.Memory known (inr h) = inr (in_text r known h)
  known_delivery r status.Sink known h = (h.0, in_text r known h.1)
  known_delivery r status.Done known h = (h.0, whole r known h.1)
  known_delivery r status.Findings known h = (h.0, whole r known h.1)
  known_delivery r status.Words known h = (h.0, whole r known h.1)
  known_delivery r status.Input known h = (h.0, whole r known h.1)
  known_delivery r status.NoMatching known h = (h.0, whole r known h.1)
  known_delivery r status.Unfinished known h = (h.0, whole r known h.1)

  pub known_early : (s : Status) → AreKnown t u before after → StopsEarly old new s → StopsEarly (with_files before old) (with_files after new) s
  known_early status.Store known h = (h.0, h.1, stayed known h.2 h.3, h.3)
  known_early status.Memory known h = (h.0, stayed known h.1 h.2, h.2)
  known_early status.Done known h = absurd h
  known_early status.Findings known h = absurd h
  known_early status.Words known h = absurd h
  known_early status.Input known h = absurd h
  known_early status.NoMatching known h = absurd h
  known_early status.Unfinished known h = absurd h
  known_early status.Sink known h = absurd h

  -- a reply over what is known that was delivered ends the run so over what is known
  pub known_ends : (c : Call) (s : Status) → AreKnown t u before after → (r : Reply) × IsReplyOver c before r × Delivers r old new s
      → Ends c (with_files before old) (with_files after new) s
  known_ends c s known d = inr (d.0, d.1, known_delivery d.0 s known d.2)
