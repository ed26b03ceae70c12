use Rattle.std.proofs.Common.{◌≡◌, ◌≢◌, ◌∙◌, ◌+◌, ◌-◌, ◌<◌, ◌≤◌, ◌∷◌, length, get_or, set, take, drop, vec_capacity, ap, subst, sym, IsPermutation}
use Rattle.std.specs.List.{All, insert}
use Rattle.std.proofs.lemmas.List.Edits.{length-insert}
use Rattle.std.proofs.lemmas.List.Sorted.{IsPermutation-insert}
use Rattle.shunt_lists.specs.defs.Members.{In}
use Rattle.shunt_base.specs.declared.keys.Stay.{Stay}
use Rattle.shunt_base.specs.defs.Keys.{AreStays}
use Rattle.shunt_timeline.specs.defs.Holdings.{Holding}
use Rattle.shunt_timeline.specs.defs.Kept.{IsKeptTrack}
use Rattle.shunt_timeline.specs.defs.Sound.{lengths_of, IsSoundTrack}
use Rattle.shunt_timeline.proofs.Whole.{with_new, kept_at, room_at, length_is, pairs_add, over_add, lengths_after, came, put_items}
use Rattle.shunt_timeline.proofs.timelines.Timelines.insert.Goals as goal

pub insert-share-requires-clause-room : goal.insert-share-requires-clause-room
insert-share-requires-clause-room c = room_at c.self.inside.stays.items c.self.inside.tracks.items c.self.inside.spare
    (vec_capacity c.self.inside.stays) c.self.inside.pairs c.self.inside.over c.self.invariant c.args.stay c.requires.formed
    (subst (λ (h : Holding). c.args.stay.track.0 < length h.lengths) (sym c.self.view_is) c.requires.track)
    (subst (λ (h : Holding). All (λ s. s.id ≢ c.args.stay.id) h.stays) (sym c.self.view_is) c.requires.new)
    (subst (λ (h : Holding). length h.stays < 65536) (sym c.self.view_is) c.requires.few) c.index_mut-track.result.now
    (c.index_mut-track.ensures.value ∙ ap (λ n. get_or c.self.inside.tracks.items n c.index_mut-track.result.now) c.from.ensures)
    (subst (λ (h : Holding). 0 < h.spare) (sym c.self.view_is) c.requires.room)

pub overflow_add-self : goal.overflow_add-self
overflow_add-self c =
    let new : AreStays (c.args.stay ∷ c.self.inside.stays.items) = with_new c.self.inside.stays.items c.self.inside.tracks.items c.self.inside.spare
    (vec_capacity c.self.inside.stays) c.self.inside.pairs c.self.inside.over c.self.invariant c.args.stay c.requires.formed
    (subst (λ (h : Holding). c.args.stay.track.0 < length h.lengths) (sym c.self.view_is) c.requires.track)
    (subst (λ (h : Holding). All (λ s. s.id ≢ c.args.stay.id) h.stays) (sym c.self.view_is) c.requires.new)
    (subst (λ (h : Holding). length h.stays < 65536) (sym c.self.view_is) c.requires.few) in
    let kept : IsKeptTrack c.self.inside.stays.items c.args.stay.track.0 c.index_mut-track.result.now.events.items = kept_at c.self.inside.stays.items c.self.inside.tracks.items
    c.self.inside.spare (vec_capacity c.self.inside.stays) c.self.inside.pairs c.self.inside.over c.self.invariant c.args.stay c.requires.formed
    (subst (λ (h : Holding). c.args.stay.track.0 < length h.lengths) (sym c.self.view_is) c.requires.track)
    (subst (λ (h : Holding). All (λ s. s.id ≢ c.args.stay.id) h.stays) (sym c.self.view_is) c.requires.new)
    (subst (λ (h : Holding). length h.stays < 65536) (sym c.self.view_is) c.requires.few) c.index_mut-track.result.now
    (c.index_mut-track.ensures.value ∙ ap (λ n. get_or c.self.inside.tracks.items n c.index_mut-track.result.now) c.from.ensures) in
    let is : get_or (lengths_of c.self.inside.tracks.items) c.args.stay.track.0 0
    ≡ c.index_mut-track.result.now.length = length_is c.self.inside.stays.items c.self.inside.tracks.items c.self.inside.spare
    (vec_capacity c.self.inside.stays) c.self.inside.pairs c.self.inside.over c.self.invariant c.args.stay c.requires.formed
    (subst (λ (h : Holding). c.args.stay.track.0 < length h.lengths) (sym c.self.view_is) c.requires.track)
    (subst (λ (h : Holding). All (λ s. s.id ≢ c.args.stay.id) h.stays) (sym c.self.view_is) c.requires.new)
    (subst (λ (h : Holding). length h.stays < 65536) (sym c.self.view_is) c.requires.few) c.index_mut-track.result.now
    (c.index_mut-track.ensures.value ∙ ap (λ n. get_or c.self.inside.tracks.items n c.index_mut-track.result.now) c.from.ensures) in
    record {
      fits = pairs_add c.self.inside.stays.items c.self.inside.tracks.items c.self.inside.spare
          (vec_capacity c.self.inside.stays) c.self.inside.pairs c.self.inside.over c.self.invariant c.args.stay c.requires.formed
          (subst (λ (h : Holding). c.args.stay.track.0 < length h.lengths) (sym c.self.view_is) c.requires.track)
          (subst (λ (h : Holding). All (λ s. s.id ≢ c.args.stay.id) h.stays) (sym c.self.view_is) c.requires.new)
          (subst (λ (h : Holding). length h.stays < 65536) (sym c.self.view_is) c.requires.few) c.index_mut-track.result.now
          (c.index_mut-track.ensures.value ∙ ap (λ n. get_or c.self.inside.tracks.items n c.index_mut-track.result.now) c.from.ensures) c.insert-share.result.pairs
          c.insert-share.result.over
          (c.insert-share.ensures.pairs c.self.inside.stays.items new kept) (c.insert-share.ensures.over c.self.inside.stays.items
          (lengths_of c.self.inside.tracks.items) new kept is);
    }

pub overflow_add-self-2 : goal.overflow_add-self-2
overflow_add-self-2 c =
    let new : AreStays (c.args.stay ∷ c.self.inside.stays.items) = with_new c.self.inside.stays.items c.self.inside.tracks.items c.self.inside.spare
    (vec_capacity c.self.inside.stays) c.self.inside.pairs c.self.inside.over c.self.invariant c.args.stay c.requires.formed
    (subst (λ (h : Holding). c.args.stay.track.0 < length h.lengths) (sym c.self.view_is) c.requires.track)
    (subst (λ (h : Holding). All (λ s. s.id ≢ c.args.stay.id) h.stays) (sym c.self.view_is) c.requires.new)
    (subst (λ (h : Holding). length h.stays < 65536) (sym c.self.view_is) c.requires.few) in
    let kept : IsKeptTrack c.self.inside.stays.items c.args.stay.track.0 c.index_mut-track.result.now.events.items = kept_at c.self.inside.stays.items c.self.inside.tracks.items
    c.self.inside.spare (vec_capacity c.self.inside.stays) c.self.inside.pairs c.self.inside.over c.self.invariant c.args.stay c.requires.formed
    (subst (λ (h : Holding). c.args.stay.track.0 < length h.lengths) (sym c.self.view_is) c.requires.track)
    (subst (λ (h : Holding). All (λ s. s.id ≢ c.args.stay.id) h.stays) (sym c.self.view_is) c.requires.new)
    (subst (λ (h : Holding). length h.stays < 65536) (sym c.self.view_is) c.requires.few) c.index_mut-track.result.now
    (c.index_mut-track.ensures.value ∙ ap (λ n. get_or c.self.inside.tracks.items n c.index_mut-track.result.now) c.from.ensures) in
    let is : get_or (lengths_of c.self.inside.tracks.items) c.args.stay.track.0 0
    ≡ c.index_mut-track.result.now.length = length_is c.self.inside.stays.items c.self.inside.tracks.items c.self.inside.spare
    (vec_capacity c.self.inside.stays) c.self.inside.pairs c.self.inside.over c.self.invariant c.args.stay c.requires.formed
    (subst (λ (h : Holding). c.args.stay.track.0 < length h.lengths) (sym c.self.view_is) c.requires.track)
    (subst (λ (h : Holding). All (λ s. s.id ≢ c.args.stay.id) h.stays) (sym c.self.view_is) c.requires.new)
    (subst (λ (h : Holding). length h.stays < 65536) (sym c.self.view_is) c.requires.few) c.index_mut-track.result.now
    (c.index_mut-track.ensures.value ∙ ap (λ n. get_or c.self.inside.tracks.items n c.index_mut-track.result.now) c.from.ensures) in
    record {
      fits = over_add c.self.inside.stays.items c.self.inside.tracks.items c.self.inside.spare
          (vec_capacity c.self.inside.stays) c.self.inside.pairs c.self.inside.over c.self.invariant c.args.stay c.requires.formed
          (subst (λ (h : Holding). c.args.stay.track.0 < length h.lengths) (sym c.self.view_is) c.requires.track)
          (subst (λ (h : Holding). All (λ s. s.id ≢ c.args.stay.id) h.stays) (sym c.self.view_is) c.requires.new)
          (subst (λ (h : Holding). length h.stays < 65536) (sym c.self.view_is) c.requires.few) c.index_mut-track.result.now
          (c.index_mut-track.ensures.value ∙ ap (λ n. get_or c.self.inside.tracks.items n c.index_mut-track.result.now) c.from.ensures) c.insert-share.result.pairs
          c.insert-share.result.over
          (c.insert-share.ensures.pairs c.self.inside.stays.items new kept) (c.insert-share.ensures.over c.self.inside.stays.items
          (lengths_of c.self.inside.tracks.items) new kept is);
    }

pub invariant_of-self : goal.invariant_of-self
invariant_of-self c =
    let new : AreStays (c.args.stay ∷ c.self.inside.stays.items) = with_new c.self.inside.stays.items c.self.inside.tracks.items c.self.inside.spare
    (vec_capacity c.self.inside.stays) c.self.inside.pairs c.self.inside.over c.self.invariant c.args.stay c.requires.formed
    (subst (λ (h : Holding). c.args.stay.track.0 < length h.lengths) (sym c.self.view_is) c.requires.track)
    (subst (λ (h : Holding). All (λ s. s.id ≢ c.args.stay.id) h.stays) (sym c.self.view_is) c.requires.new)
    (subst (λ (h : Holding). length h.stays < 65536) (sym c.self.view_is) c.requires.few) in
    let kept : IsKeptTrack c.self.inside.stays.items c.args.stay.track.0 c.index_mut-track.result.now.events.items = kept_at c.self.inside.stays.items c.self.inside.tracks.items
    c.self.inside.spare (vec_capacity c.self.inside.stays) c.self.inside.pairs c.self.inside.over c.self.invariant c.args.stay c.requires.formed
    (subst (λ (h : Holding). c.args.stay.track.0 < length h.lengths) (sym c.self.view_is) c.requires.track)
    (subst (λ (h : Holding). All (λ s. s.id ≢ c.args.stay.id) h.stays) (sym c.self.view_is) c.requires.new)
    (subst (λ (h : Holding). length h.stays < 65536) (sym c.self.view_is) c.requires.few) c.index_mut-track.result.now
    (c.index_mut-track.ensures.value ∙ ap (λ n. get_or c.self.inside.tracks.items n c.index_mut-track.result.now) c.from.ensures) in
    let is : get_or (lengths_of c.self.inside.tracks.items) c.args.stay.track.0 0
    ≡ c.index_mut-track.result.now.length = length_is c.self.inside.stays.items c.self.inside.tracks.items c.self.inside.spare
    (vec_capacity c.self.inside.stays) c.self.inside.pairs c.self.inside.over c.self.invariant c.args.stay c.requires.formed
    (subst (λ (h : Holding). c.args.stay.track.0 < length h.lengths) (sym c.self.view_is) c.requires.track)
    (subst (λ (h : Holding). All (λ s. s.id ≢ c.args.stay.id) h.stays) (sym c.self.view_is) c.requires.new)
    (subst (λ (h : Holding). length h.stays < 65536) (sym c.self.view_is) c.requires.few) c.index_mut-track.result.now
    (c.index_mut-track.ensures.value ∙ ap (λ n. get_or c.self.inside.tracks.items n c.index_mut-track.result.now) c.from.ensures) in
    let items : c.insert.new.self.items ≡ insert c.self.inside.stays.items c.place_of-place.result c.args.stay = put_items c.insert.result c.is_err.result _ _ _
    c.insert.ensures.items c.is_err.ensures.negation c.if-is_err.false in
    subst (λ n. IsSoundTrack c.insert.new.self.items (set c.self.inside.tracks.items n c.insert-share.new.self) (c.self.inside.spare - 1) (vec_capacity c.insert.new.self)
    (c.self.inside.pairs + c.insert-share.result.pairs) (c.self.inside.over + c.insert-share.result.over)) (sym c.from.ensures)
    (subst (λ l. IsSoundTrack l (set c.self.inside.tracks.items c.args.stay.track.0 c.insert-share.new.self) (c.self.inside.spare - 1) (vec_capacity c.insert.new.self)
    (c.self.inside.pairs + c.insert-share.result.pairs) (c.self.inside.over + c.insert-share.result.over)) (sym items)
    (came c.self.inside.stays.items c.self.inside.tracks.items c.self.inside.spare
    (vec_capacity c.self.inside.stays) c.self.inside.pairs c.self.inside.over c.self.invariant c.args.stay c.requires.formed
    (subst (λ (h : Holding). c.args.stay.track.0 < length h.lengths) (sym c.self.view_is) c.requires.track)
    (subst (λ (h : Holding). All (λ s. s.id ≢ c.args.stay.id) h.stays) (sym c.self.view_is) c.requires.new)
    (subst (λ (h : Holding). length h.stays < 65536) (sym c.self.view_is) c.requires.few) c.index_mut-track.result.now
    (c.index_mut-track.ensures.value ∙ ap (λ n. get_or c.self.inside.tracks.items n c.index_mut-track.result.now) c.from.ensures) c.insert-share.result.pairs
    c.insert-share.result.over
    (c.insert-share.ensures.pairs c.self.inside.stays.items new kept) (c.insert-share.ensures.over c.self.inside.stays.items (lengths_of c.self.inside.tracks.items) new kept is)
    c.insert-share.new.self c.insert-share.ensures.length c.insert-share.ensures.capacity (c.insert-share.ensures.kept c.self.inside.stays.items new kept)
    c.place_of-place.result (subst (λ l. c.place_of-place.result ≤ length l) c.deref.ensures.value c.place_of-place.ensures.bound)
    (subst (λ l. (u : Stay) → In u (take c.place_of-place.result l) → u.id < c.args.stay.id) c.deref.ensures.value c.place_of-place.ensures.before)
    (subst (λ l. (u : Stay) → In u (drop c.place_of-place.result l) → c.args.stay.id ≤ u.id) c.deref.ensures.value c.place_of-place.ensures.after)
    (subst (λ (h : Holding). 0 < h.spare) (sym c.self.view_is) c.requires.room) (vec_capacity c.insert.new.self) c.insert.ensures.capacity))

pub returns-clause-stays : goal.returns-clause-stays
returns-clause-stays c =
    let items : c.insert.new.self.items ≡ insert c.self.inside.stays.items c.place_of-place.result c.args.stay = put_items c.insert.result c.is_err.result _ _ _
    c.insert.ensures.items c.is_err.ensures.negation c.if-is_err.false in
    subst (λ (h : Holding). IsPermutation (c.args.stay ∷ h.stays) c.insert.new.self.items) c.self.view_is
    (subst (λ l. IsPermutation (c.args.stay ∷ c.self.inside.stays.items) l) (sym items) (IsPermutation-insert c.self.inside.stays.items c.place_of-place.result c.args.stay))

pub returns-clause-lengths : goal.returns-clause-lengths
returns-clause-lengths c =
    let new : AreStays (c.args.stay ∷ c.self.inside.stays.items) = with_new c.self.inside.stays.items c.self.inside.tracks.items c.self.inside.spare
    (vec_capacity c.self.inside.stays) c.self.inside.pairs c.self.inside.over c.self.invariant c.args.stay c.requires.formed
    (subst (λ (h : Holding). c.args.stay.track.0 < length h.lengths) (sym c.self.view_is) c.requires.track)
    (subst (λ (h : Holding). All (λ s. s.id ≢ c.args.stay.id) h.stays) (sym c.self.view_is) c.requires.new)
    (subst (λ (h : Holding). length h.stays < 65536) (sym c.self.view_is) c.requires.few) in
    let kept : IsKeptTrack c.self.inside.stays.items c.args.stay.track.0 c.index_mut-track.result.now.events.items = kept_at c.self.inside.stays.items c.self.inside.tracks.items
    c.self.inside.spare (vec_capacity c.self.inside.stays) c.self.inside.pairs c.self.inside.over c.self.invariant c.args.stay c.requires.formed
    (subst (λ (h : Holding). c.args.stay.track.0 < length h.lengths) (sym c.self.view_is) c.requires.track)
    (subst (λ (h : Holding). All (λ s. s.id ≢ c.args.stay.id) h.stays) (sym c.self.view_is) c.requires.new)
    (subst (λ (h : Holding). length h.stays < 65536) (sym c.self.view_is) c.requires.few) c.index_mut-track.result.now
    (c.index_mut-track.ensures.value ∙ ap (λ n. get_or c.self.inside.tracks.items n c.index_mut-track.result.now) c.from.ensures) in
    let is : get_or (lengths_of c.self.inside.tracks.items) c.args.stay.track.0 0
    ≡ c.index_mut-track.result.now.length = length_is c.self.inside.stays.items c.self.inside.tracks.items c.self.inside.spare
    (vec_capacity c.self.inside.stays) c.self.inside.pairs c.self.inside.over c.self.invariant c.args.stay c.requires.formed
    (subst (λ (h : Holding). c.args.stay.track.0 < length h.lengths) (sym c.self.view_is) c.requires.track)
    (subst (λ (h : Holding). All (λ s. s.id ≢ c.args.stay.id) h.stays) (sym c.self.view_is) c.requires.new)
    (subst (λ (h : Holding). length h.stays < 65536) (sym c.self.view_is) c.requires.few) c.index_mut-track.result.now
    (c.index_mut-track.ensures.value ∙ ap (λ n. get_or c.self.inside.tracks.items n c.index_mut-track.result.now) c.from.ensures) in
    ap (λ n. lengths_of (set c.self.inside.tracks.items n c.insert-share.new.self)) c.from.ensures
    ∙ lengths_after c.self.inside.stays.items c.self.inside.tracks.items c.self.inside.spare
    (vec_capacity c.self.inside.stays) c.self.inside.pairs c.self.inside.over c.self.invariant c.args.stay c.requires.formed
    (subst (λ (h : Holding). c.args.stay.track.0 < length h.lengths) (sym c.self.view_is) c.requires.track)
    (subst (λ (h : Holding). All (λ s. s.id ≢ c.args.stay.id) h.stays) (sym c.self.view_is) c.requires.new)
    (subst (λ (h : Holding). length h.stays < 65536) (sym c.self.view_is) c.requires.few) c.index_mut-track.result.now
    (c.index_mut-track.ensures.value ∙ ap (λ n. get_or c.self.inside.tracks.items n c.index_mut-track.result.now) c.from.ensures) c.insert-share.result.pairs
    c.insert-share.result.over
    (c.insert-share.ensures.pairs c.self.inside.stays.items new kept) (c.insert-share.ensures.over c.self.inside.stays.items (lengths_of c.self.inside.tracks.items) new kept is)
    c.insert-share.new.self c.insert-share.ensures.length c.insert-share.ensures.capacity (c.insert-share.ensures.kept c.self.inside.stays.items new kept)
    ∙ ap (λ (h : Holding). h.lengths) c.self.view_is

pub returns-clause-count : goal.returns-clause-count
returns-clause-count c =
    let items : c.insert.new.self.items ≡ insert c.self.inside.stays.items c.place_of-place.result c.args.stay = put_items c.insert.result c.is_err.result _ _ _
    c.insert.ensures.items c.is_err.ensures.negation c.if-is_err.false in
    ap (λ l. length l) items ∙ length-insert c.self.inside.stays.items c.place_of-place.result c.args.stay
    (subst (λ l. c.place_of-place.result ≤ length l) c.deref.ensures.value c.place_of-place.ensures.bound) ∙ ap (λ (h : Holding). length h.stays + 1) c.self.view_is
