use Rattle.std.proofs.Common.{◌≡◌, ◌≢◌, ◌∙◌, ◌+◌, ◌-◌, ◌<◌, ◌∷◌, length, get_or, set, vec_capacity, ap, subst, sym, IsPermutation}
use Rattle.std.specs.List.{All, remove}
use Rattle.std.proofs.lemmas.List.Sorted.{IsPermutation-remove, IsPermutation-sym}
use Rattle.shunt_base.specs.declared.keys.Stay.{Stay}
use Rattle.shunt_base.specs.defs.Keys.{AreStays}
use Rattle.shunt_timeline.specs.defs.Holdings.{Holding}
use Rattle.shunt_timeline.specs.defs.Kept.{IsKeptTrack}
use Rattle.shunt_timeline.specs.defs.Sound.{lengths_of, IsSoundTrack}
use Rattle.shunt_timeline.proofs.Gone.{with_gone, fewer, kept_all, length_was, pairs_less, over_less, lengths_left, went, id_gone}
use Rattle.std.proofs.lemmas.List.Edits.{length-remove}
use Rattle.shunt_timeline.proofs.timelines.Timelines.remove.Goals as goal

pub remove-share-requires : goal.remove-share-requires
remove-share-requires c = (
  remove c.self.inside.stays.items c.in_ok-place.place,
  with_gone c.self.inside.stays.items c.self.inside.tracks.items c.self.inside.spare
      (vec_capacity c.self.inside.stays) c.self.inside.pairs c.self.inside.over c.self.invariant c.in_ok-place.place
      (subst (λ l. c.in_ok-place.place < length l) c.deref.ensures.value c.in_ok-place.ensures.some.0) c.remove-stay.result c.remove-stay.ensures.value,
  fewer c.self.inside.stays.items c.self.inside.tracks.items c.self.inside.spare
      (vec_capacity c.self.inside.stays) c.self.inside.pairs c.self.inside.over c.self.invariant c.in_ok-place.place
      (subst (λ l. c.in_ok-place.place < length l) c.deref.ensures.value c.in_ok-place.ensures.some.0) c.remove-stay.result c.remove-stay.ensures.value,
  kept_all c.self.inside.stays.items c.self.inside.tracks.items c.self.inside.spare
      (vec_capacity c.self.inside.stays) c.self.inside.pairs c.self.inside.over c.self.invariant c.in_ok-place.place
      (subst (λ l. c.in_ok-place.place < length l) c.deref.ensures.value c.in_ok-place.ensures.some.0) c.remove-stay.result c.remove-stay.ensures.value c.index_mut-track.result.now
      (c.index_mut-track.ensures.value ∙ ap (λ n. get_or c.self.inside.tracks.items n c.index_mut-track.result.now) c.from.ensures),
)

pub overflow_sub-self : goal.overflow_sub-self
overflow_sub-self c =
    let gone : AreStays (c.remove-stay.result ∷ remove c.self.inside.stays.items c.in_ok-place.place) = with_gone c.self.inside.stays.items c.self.inside.tracks.items
    c.self.inside.spare (vec_capacity c.self.inside.stays) c.self.inside.pairs c.self.inside.over c.self.invariant c.in_ok-place.place
    (subst (λ l. c.in_ok-place.place < length l) c.deref.ensures.value c.in_ok-place.ensures.some.0) c.remove-stay.result c.remove-stay.ensures.value in
    let kept : IsKeptTrack (c.remove-stay.result ∷ remove c.self.inside.stays.items c.in_ok-place.place) c.remove-stay.result.track.0 c.index_mut-track.result.now.events.items =
    kept_all c.self.inside.stays.items c.self.inside.tracks.items c.self.inside.spare
    (vec_capacity c.self.inside.stays) c.self.inside.pairs c.self.inside.over c.self.invariant c.in_ok-place.place
    (subst (λ l. c.in_ok-place.place < length l) c.deref.ensures.value c.in_ok-place.ensures.some.0) c.remove-stay.result c.remove-stay.ensures.value
    c.index_mut-track.result.now (c.index_mut-track.ensures.value ∙ ap (λ n. get_or c.self.inside.tracks.items n c.index_mut-track.result.now) c.from.ensures) in
    let is : get_or (lengths_of c.self.inside.tracks.items) c.remove-stay.result.track.0 0
    ≡ c.index_mut-track.result.now.length = length_was c.self.inside.stays.items c.self.inside.tracks.items c.self.inside.spare
    (vec_capacity c.self.inside.stays) c.self.inside.pairs c.self.inside.over c.self.invariant c.in_ok-place.place
    (subst (λ l. c.in_ok-place.place < length l) c.deref.ensures.value c.in_ok-place.ensures.some.0) c.remove-stay.result c.remove-stay.ensures.value
    c.index_mut-track.result.now (c.index_mut-track.ensures.value ∙ ap (λ n. get_or c.self.inside.tracks.items n c.index_mut-track.result.now) c.from.ensures) in
    pairs_less c.self.inside.stays.items c.self.inside.tracks.items c.self.inside.spare
    (vec_capacity c.self.inside.stays) c.self.inside.pairs c.self.inside.over c.self.invariant c.in_ok-place.place
    (subst (λ l. c.in_ok-place.place < length l) c.deref.ensures.value c.in_ok-place.ensures.some.0) c.remove-stay.result c.remove-stay.ensures.value
    c.index_mut-track.result.now (c.index_mut-track.ensures.value ∙ ap (λ n. get_or c.self.inside.tracks.items n c.index_mut-track.result.now) c.from.ensures)
    c.remove-share.result.pairs c.remove-share.result.over
    (c.remove-share.ensures.pairs (remove c.self.inside.stays.items c.in_ok-place.place) gone kept)
    (c.remove-share.ensures.over (remove c.self.inside.stays.items c.in_ok-place.place) (lengths_of c.self.inside.tracks.items) gone kept is)

pub overflow_sub-self-2 : goal.overflow_sub-self-2
overflow_sub-self-2 c =
    let gone : AreStays (c.remove-stay.result ∷ remove c.self.inside.stays.items c.in_ok-place.place) = with_gone c.self.inside.stays.items c.self.inside.tracks.items
    c.self.inside.spare (vec_capacity c.self.inside.stays) c.self.inside.pairs c.self.inside.over c.self.invariant c.in_ok-place.place
    (subst (λ l. c.in_ok-place.place < length l) c.deref.ensures.value c.in_ok-place.ensures.some.0) c.remove-stay.result c.remove-stay.ensures.value in
    let kept : IsKeptTrack (c.remove-stay.result ∷ remove c.self.inside.stays.items c.in_ok-place.place) c.remove-stay.result.track.0 c.index_mut-track.result.now.events.items =
    kept_all c.self.inside.stays.items c.self.inside.tracks.items c.self.inside.spare
    (vec_capacity c.self.inside.stays) c.self.inside.pairs c.self.inside.over c.self.invariant c.in_ok-place.place
    (subst (λ l. c.in_ok-place.place < length l) c.deref.ensures.value c.in_ok-place.ensures.some.0) c.remove-stay.result c.remove-stay.ensures.value
    c.index_mut-track.result.now (c.index_mut-track.ensures.value ∙ ap (λ n. get_or c.self.inside.tracks.items n c.index_mut-track.result.now) c.from.ensures) in
    let is : get_or (lengths_of c.self.inside.tracks.items) c.remove-stay.result.track.0 0
    ≡ c.index_mut-track.result.now.length = length_was c.self.inside.stays.items c.self.inside.tracks.items c.self.inside.spare
    (vec_capacity c.self.inside.stays) c.self.inside.pairs c.self.inside.over c.self.invariant c.in_ok-place.place
    (subst (λ l. c.in_ok-place.place < length l) c.deref.ensures.value c.in_ok-place.ensures.some.0) c.remove-stay.result c.remove-stay.ensures.value
    c.index_mut-track.result.now (c.index_mut-track.ensures.value ∙ ap (λ n. get_or c.self.inside.tracks.items n c.index_mut-track.result.now) c.from.ensures) in
    over_less c.self.inside.stays.items c.self.inside.tracks.items c.self.inside.spare
    (vec_capacity c.self.inside.stays) c.self.inside.pairs c.self.inside.over c.self.invariant c.in_ok-place.place
    (subst (λ l. c.in_ok-place.place < length l) c.deref.ensures.value c.in_ok-place.ensures.some.0) c.remove-stay.result c.remove-stay.ensures.value
    c.index_mut-track.result.now (c.index_mut-track.ensures.value ∙ ap (λ n. get_or c.self.inside.tracks.items n c.index_mut-track.result.now) c.from.ensures)
    c.remove-share.result.pairs c.remove-share.result.over
    (c.remove-share.ensures.pairs (remove c.self.inside.stays.items c.in_ok-place.place) gone kept)
    (c.remove-share.ensures.over (remove c.self.inside.stays.items c.in_ok-place.place) (lengths_of c.self.inside.tracks.items) gone kept is)

pub invariant_of-self : goal.invariant_of-self
invariant_of-self c =
    let gone : AreStays (c.remove-stay.result ∷ remove c.self.inside.stays.items c.in_ok-place.place) = with_gone c.self.inside.stays.items c.self.inside.tracks.items
    c.self.inside.spare (vec_capacity c.self.inside.stays) c.self.inside.pairs c.self.inside.over c.self.invariant c.in_ok-place.place
    (subst (λ l. c.in_ok-place.place < length l) c.deref.ensures.value c.in_ok-place.ensures.some.0) c.remove-stay.result c.remove-stay.ensures.value in
    let kept : IsKeptTrack (c.remove-stay.result ∷ remove c.self.inside.stays.items c.in_ok-place.place) c.remove-stay.result.track.0 c.index_mut-track.result.now.events.items =
    kept_all c.self.inside.stays.items c.self.inside.tracks.items c.self.inside.spare
    (vec_capacity c.self.inside.stays) c.self.inside.pairs c.self.inside.over c.self.invariant c.in_ok-place.place
    (subst (λ l. c.in_ok-place.place < length l) c.deref.ensures.value c.in_ok-place.ensures.some.0) c.remove-stay.result c.remove-stay.ensures.value
    c.index_mut-track.result.now (c.index_mut-track.ensures.value ∙ ap (λ n. get_or c.self.inside.tracks.items n c.index_mut-track.result.now) c.from.ensures) in
    let is : get_or (lengths_of c.self.inside.tracks.items) c.remove-stay.result.track.0 0
    ≡ c.index_mut-track.result.now.length = length_was c.self.inside.stays.items c.self.inside.tracks.items c.self.inside.spare
    (vec_capacity c.self.inside.stays) c.self.inside.pairs c.self.inside.over c.self.invariant c.in_ok-place.place
    (subst (λ l. c.in_ok-place.place < length l) c.deref.ensures.value c.in_ok-place.ensures.some.0) c.remove-stay.result c.remove-stay.ensures.value
    c.index_mut-track.result.now (c.index_mut-track.ensures.value ∙ ap (λ n. get_or c.self.inside.tracks.items n c.index_mut-track.result.now) c.from.ensures) in
    subst (λ n. IsSoundTrack c.remove-stay.new.self.items (set c.self.inside.tracks.items n c.remove-share.new.self) (c.self.inside.spare + 1) (vec_capacity c.remove-stay.new.self)
    (c.self.inside.pairs - c.remove-share.result.pairs) (c.self.inside.over - c.remove-share.result.over)) (sym c.from.ensures)
    (subst (λ l. IsSoundTrack l (set c.self.inside.tracks.items c.remove-stay.result.track.0 c.remove-share.new.self) (c.self.inside.spare + 1)
    (vec_capacity c.remove-stay.new.self)
    (c.self.inside.pairs - c.remove-share.result.pairs) (c.self.inside.over - c.remove-share.result.over)) (sym c.remove-stay.ensures.items)
    (went c.self.inside.stays.items c.self.inside.tracks.items c.self.inside.spare
    (vec_capacity c.self.inside.stays) c.self.inside.pairs c.self.inside.over c.self.invariant c.in_ok-place.place
    (subst (λ l. c.in_ok-place.place < length l) c.deref.ensures.value c.in_ok-place.ensures.some.0) c.remove-stay.result c.remove-stay.ensures.value
    c.index_mut-track.result.now (c.index_mut-track.ensures.value ∙ ap (λ n. get_or c.self.inside.tracks.items n c.index_mut-track.result.now) c.from.ensures)
    c.remove-share.result.pairs c.remove-share.result.over
    (c.remove-share.ensures.pairs (remove c.self.inside.stays.items c.in_ok-place.place) gone kept)
    (c.remove-share.ensures.over (remove c.self.inside.stays.items c.in_ok-place.place) (lengths_of c.self.inside.tracks.items) gone kept is)
    c.remove-share.new.self c.remove-share.ensures.length c.remove-share.ensures.capacity
    (c.remove-share.ensures.kept (remove c.self.inside.stays.items c.in_ok-place.place) gone kept)
    (vec_capacity c.remove-stay.new.self) c.remove-stay.ensures.capacity))

pub returns-clause-some : goal.returns-clause-some
returns-clause-some c = (
  ap (λ (s : Stay). s.id) (c.remove-stay.ensures.value ∙ ap (λ l. get_or l c.in_ok-place.place c.remove-stay.result) (sym c.deref.ensures.value))
      ∙ c.in_ok-place.ensures.some.1 c.remove-stay.result,
  subst (λ (h : Holding). IsPermutation (c.remove-stay.result ∷ c.remove-stay.new.self.items) h.stays) c.self.view_is
      (subst (λ l. IsPermutation (c.remove-stay.result ∷ l) c.self.inside.stays.items) (sym c.remove-stay.ensures.items)
      (IsPermutation-sym c.self.inside.stays.items (c.remove-stay.result ∷ remove c.self.inside.stays.items c.in_ok-place.place)
      (IsPermutation-remove c.self.inside.stays.items c.in_ok-place.place c.remove-stay.result
      (subst (λ l. c.in_ok-place.place < length l) c.deref.ensures.value c.in_ok-place.ensures.some.0) c.remove-stay.ensures.value))),
  ap (λ (h : Holding). h.spare + 1) c.self.view_is,
)

pub returns-clause-lengths : goal.returns-clause-lengths
returns-clause-lengths c =
    let gone : AreStays (c.remove-stay.result ∷ remove c.self.inside.stays.items c.in_ok-place.place) = with_gone c.self.inside.stays.items c.self.inside.tracks.items
    c.self.inside.spare (vec_capacity c.self.inside.stays) c.self.inside.pairs c.self.inside.over c.self.invariant c.in_ok-place.place
    (subst (λ l. c.in_ok-place.place < length l) c.deref.ensures.value c.in_ok-place.ensures.some.0) c.remove-stay.result c.remove-stay.ensures.value in
    let kept : IsKeptTrack (c.remove-stay.result ∷ remove c.self.inside.stays.items c.in_ok-place.place) c.remove-stay.result.track.0 c.index_mut-track.result.now.events.items =
    kept_all c.self.inside.stays.items c.self.inside.tracks.items c.self.inside.spare
    (vec_capacity c.self.inside.stays) c.self.inside.pairs c.self.inside.over c.self.invariant c.in_ok-place.place
    (subst (λ l. c.in_ok-place.place < length l) c.deref.ensures.value c.in_ok-place.ensures.some.0) c.remove-stay.result c.remove-stay.ensures.value
    c.index_mut-track.result.now (c.index_mut-track.ensures.value ∙ ap (λ n. get_or c.self.inside.tracks.items n c.index_mut-track.result.now) c.from.ensures) in
    let is : get_or (lengths_of c.self.inside.tracks.items) c.remove-stay.result.track.0 0
    ≡ c.index_mut-track.result.now.length = length_was c.self.inside.stays.items c.self.inside.tracks.items c.self.inside.spare
    (vec_capacity c.self.inside.stays) c.self.inside.pairs c.self.inside.over c.self.invariant c.in_ok-place.place
    (subst (λ l. c.in_ok-place.place < length l) c.deref.ensures.value c.in_ok-place.ensures.some.0) c.remove-stay.result c.remove-stay.ensures.value
    c.index_mut-track.result.now (c.index_mut-track.ensures.value ∙ ap (λ n. get_or c.self.inside.tracks.items n c.index_mut-track.result.now) c.from.ensures) in
    ap (λ n. lengths_of (set c.self.inside.tracks.items n c.remove-share.new.self)) c.from.ensures
    ∙ lengths_left c.self.inside.stays.items c.self.inside.tracks.items c.self.inside.spare
    (vec_capacity c.self.inside.stays) c.self.inside.pairs c.self.inside.over c.self.invariant c.in_ok-place.place
    (subst (λ l. c.in_ok-place.place < length l) c.deref.ensures.value c.in_ok-place.ensures.some.0) c.remove-stay.result c.remove-stay.ensures.value
    c.index_mut-track.result.now (c.index_mut-track.ensures.value ∙ ap (λ n. get_or c.self.inside.tracks.items n c.index_mut-track.result.now) c.from.ensures)
    c.remove-share.result.pairs c.remove-share.result.over
    (c.remove-share.ensures.pairs (remove c.self.inside.stays.items c.in_ok-place.place) gone kept)
    (c.remove-share.ensures.over (remove c.self.inside.stays.items c.in_ok-place.place) (lengths_of c.self.inside.tracks.items) gone kept is) c.remove-share.new.self
    c.remove-share.ensures.length c.remove-share.ensures.capacity (c.remove-share.ensures.kept (remove c.self.inside.stays.items c.in_ok-place.place) gone kept)
    ∙ ap (λ (h : Holding). h.lengths) c.self.view_is

pub returns-clause-gone : goal.returns-clause-gone
returns-clause-gone c =
    let id : c.remove-stay.result.id ≡ c.args.id = ap (λ (s : Stay). s.id) (c.remove-stay.ensures.value
    ∙ ap (λ l. get_or l c.in_ok-place.place c.remove-stay.result) (sym c.deref.ensures.value)) ∙ c.in_ok-place.ensures.some.1 c.remove-stay.result in
    subst (λ l. All (λ s. s.id ≢ c.args.id) l) (sym c.remove-stay.ensures.items) (subst (λ n. All (λ s. s.id ≢ n) (remove c.self.inside.stays.items c.in_ok-place.place)) id
    (id_gone c.self.inside.stays.items c.self.inside.tracks.items c.self.inside.spare
    (vec_capacity c.self.inside.stays) c.self.inside.pairs c.self.inside.over c.self.invariant c.in_ok-place.place
    (subst (λ l. c.in_ok-place.place < length l) c.deref.ensures.value c.in_ok-place.ensures.some.0) c.remove-stay.result c.remove-stay.ensures.value))

pub returns-clause-count : goal.returns-clause-count
returns-clause-count c = ap (λ l. length l + 1) c.remove-stay.ensures.items ∙ length-remove c.self.inside.stays.items c.in_ok-place.place
    (subst (λ l. c.in_ok-place.place < length l) c.deref.ensures.value c.in_ok-place.ensures.some.0) ∙ ap (λ (h : Holding). length h.stays) c.self.view_is
