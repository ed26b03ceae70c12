use Rattle.std.proofs.Common.{◌≡◌, ◌≢◌, ◌∙◌, ◌<◌, ◌∷◌, length, get_or, vec_capacity, ap, subst, sym}
use Rattle.std.specs.List.{All}
use Rattle.shunt_base.specs.defs.Keys.{AreStays}
use Rattle.shunt_cross.specs.defs.Clashes.{clash_of}
use Rattle.shunt_timeline.specs.defs.Holdings.{Holding}
use Rattle.shunt_timeline.specs.defs.Kept.{IsKeptTrack}
use Rattle.shunt_timeline.specs.defs.Sound.{lengths_of}
use Rattle.shunt_timeline.proofs.Whole.{with_new, kept_at, length_is, pairs_add, over_add, clash_more}
use Rattle.shunt_timeline.proofs.timelines.Timelines.clash_with.Goals as goal

pub overflow_add-result : goal.overflow_add-result
overflow_add-result c =
    let new : AreStays (c.args.stay.now ∷ c.self.inside.stays.items) = with_new c.self.inside.stays.items c.self.inside.tracks.items c.self.inside.spare
    (vec_capacity c.self.inside.stays) c.self.inside.pairs c.self.inside.over c.self.invariant c.args.stay.now c.requires.formed
    (subst (λ (h : Holding). c.args.stay.now.track.0 < length h.lengths) (sym c.self.view_is) c.requires.track)
    (subst (λ (h : Holding). All (λ s. s.id ≢ c.args.stay.now.id) h.stays) (sym c.self.view_is) c.requires.new)
    (subst (λ (h : Holding). length h.stays < 65536) (sym c.self.view_is) c.requires.few) in
    let kept : IsKeptTrack c.self.inside.stays.items c.args.stay.now.track.0 c.index-track.result.now.events.items = kept_at c.self.inside.stays.items c.self.inside.tracks.items
    c.self.inside.spare (vec_capacity c.self.inside.stays) c.self.inside.pairs c.self.inside.over c.self.invariant c.args.stay.now c.requires.formed
    (subst (λ (h : Holding). c.args.stay.now.track.0 < length h.lengths) (sym c.self.view_is) c.requires.track)
    (subst (λ (h : Holding). All (λ s. s.id ≢ c.args.stay.now.id) h.stays) (sym c.self.view_is) c.requires.new)
    (subst (λ (h : Holding). length h.stays < 65536) (sym c.self.view_is) c.requires.few) c.index-track.result.now
    (c.index-track.ensures ∙ ap (λ n. get_or c.self.inside.tracks.items n c.index-track.result.now) c.from.ensures) in
    let is : get_or (lengths_of c.self.inside.tracks.items) c.args.stay.now.track.0 0
    ≡ c.index-track.result.now.length = length_is c.self.inside.stays.items c.self.inside.tracks.items c.self.inside.spare
    (vec_capacity c.self.inside.stays) c.self.inside.pairs c.self.inside.over c.self.invariant c.args.stay.now c.requires.formed
    (subst (λ (h : Holding). c.args.stay.now.track.0 < length h.lengths) (sym c.self.view_is) c.requires.track)
    (subst (λ (h : Holding). All (λ s. s.id ≢ c.args.stay.now.id) h.stays) (sym c.self.view_is) c.requires.new)
    (subst (λ (h : Holding). length h.stays < 65536) (sym c.self.view_is) c.requires.few) c.index-track.result.now
    (c.index-track.ensures ∙ ap (λ n. get_or c.self.inside.tracks.items n c.index-track.result.now) c.from.ensures) in
    record {
      fits = pairs_add c.self.inside.stays.items c.self.inside.tracks.items c.self.inside.spare
          (vec_capacity c.self.inside.stays) c.self.inside.pairs c.self.inside.over c.self.invariant c.args.stay.now c.requires.formed
          (subst (λ (h : Holding). c.args.stay.now.track.0 < length h.lengths) (sym c.self.view_is) c.requires.track)
          (subst (λ (h : Holding). All (λ s. s.id ≢ c.args.stay.now.id) h.stays) (sym c.self.view_is) c.requires.new)
          (subst (λ (h : Holding). length h.stays < 65536) (sym c.self.view_is) c.requires.few) c.index-track.result.now
          (c.index-track.ensures ∙ ap (λ n. get_or c.self.inside.tracks.items n c.index-track.result.now) c.from.ensures) c.share_with-share.result.pairs
          c.share_with-share.result.over
          (c.share_with-share.ensures.pairs c.self.inside.stays.items new kept) (c.share_with-share.ensures.over c.self.inside.stays.items
          (lengths_of c.self.inside.tracks.items) new kept is);
    }

pub overflow_add-result-2 : goal.overflow_add-result-2
overflow_add-result-2 c =
    let new : AreStays (c.args.stay.now ∷ c.self.inside.stays.items) = with_new c.self.inside.stays.items c.self.inside.tracks.items c.self.inside.spare
    (vec_capacity c.self.inside.stays) c.self.inside.pairs c.self.inside.over c.self.invariant c.args.stay.now c.requires.formed
    (subst (λ (h : Holding). c.args.stay.now.track.0 < length h.lengths) (sym c.self.view_is) c.requires.track)
    (subst (λ (h : Holding). All (λ s. s.id ≢ c.args.stay.now.id) h.stays) (sym c.self.view_is) c.requires.new)
    (subst (λ (h : Holding). length h.stays < 65536) (sym c.self.view_is) c.requires.few) in
    let kept : IsKeptTrack c.self.inside.stays.items c.args.stay.now.track.0 c.index-track.result.now.events.items = kept_at c.self.inside.stays.items c.self.inside.tracks.items
    c.self.inside.spare (vec_capacity c.self.inside.stays) c.self.inside.pairs c.self.inside.over c.self.invariant c.args.stay.now c.requires.formed
    (subst (λ (h : Holding). c.args.stay.now.track.0 < length h.lengths) (sym c.self.view_is) c.requires.track)
    (subst (λ (h : Holding). All (λ s. s.id ≢ c.args.stay.now.id) h.stays) (sym c.self.view_is) c.requires.new)
    (subst (λ (h : Holding). length h.stays < 65536) (sym c.self.view_is) c.requires.few) c.index-track.result.now
    (c.index-track.ensures ∙ ap (λ n. get_or c.self.inside.tracks.items n c.index-track.result.now) c.from.ensures) in
    let is : get_or (lengths_of c.self.inside.tracks.items) c.args.stay.now.track.0 0
    ≡ c.index-track.result.now.length = length_is c.self.inside.stays.items c.self.inside.tracks.items c.self.inside.spare
    (vec_capacity c.self.inside.stays) c.self.inside.pairs c.self.inside.over c.self.invariant c.args.stay.now c.requires.formed
    (subst (λ (h : Holding). c.args.stay.now.track.0 < length h.lengths) (sym c.self.view_is) c.requires.track)
    (subst (λ (h : Holding). All (λ s. s.id ≢ c.args.stay.now.id) h.stays) (sym c.self.view_is) c.requires.new)
    (subst (λ (h : Holding). length h.stays < 65536) (sym c.self.view_is) c.requires.few) c.index-track.result.now
    (c.index-track.ensures ∙ ap (λ n. get_or c.self.inside.tracks.items n c.index-track.result.now) c.from.ensures) in
    record {
      fits = over_add c.self.inside.stays.items c.self.inside.tracks.items c.self.inside.spare
          (vec_capacity c.self.inside.stays) c.self.inside.pairs c.self.inside.over c.self.invariant c.args.stay.now c.requires.formed
          (subst (λ (h : Holding). c.args.stay.now.track.0 < length h.lengths) (sym c.self.view_is) c.requires.track)
          (subst (λ (h : Holding). All (λ s. s.id ≢ c.args.stay.now.id) h.stays) (sym c.self.view_is) c.requires.new)
          (subst (λ (h : Holding). length h.stays < 65536) (sym c.self.view_is) c.requires.few) c.index-track.result.now
          (c.index-track.ensures ∙ ap (λ n. get_or c.self.inside.tracks.items n c.index-track.result.now) c.from.ensures) c.share_with-share.result.pairs
          c.share_with-share.result.over
          (c.share_with-share.ensures.pairs c.self.inside.stays.items new kept) (c.share_with-share.ensures.over c.self.inside.stays.items
          (lengths_of c.self.inside.tracks.items) new kept is);
    }

pub returns : goal.returns
returns c =
    let new : AreStays (c.args.stay.now ∷ c.self.inside.stays.items) = with_new c.self.inside.stays.items c.self.inside.tracks.items c.self.inside.spare
    (vec_capacity c.self.inside.stays) c.self.inside.pairs c.self.inside.over c.self.invariant c.args.stay.now c.requires.formed
    (subst (λ (h : Holding). c.args.stay.now.track.0 < length h.lengths) (sym c.self.view_is) c.requires.track)
    (subst (λ (h : Holding). All (λ s. s.id ≢ c.args.stay.now.id) h.stays) (sym c.self.view_is) c.requires.new)
    (subst (λ (h : Holding). length h.stays < 65536) (sym c.self.view_is) c.requires.few) in
    let kept : IsKeptTrack c.self.inside.stays.items c.args.stay.now.track.0 c.index-track.result.now.events.items = kept_at c.self.inside.stays.items c.self.inside.tracks.items
    c.self.inside.spare (vec_capacity c.self.inside.stays) c.self.inside.pairs c.self.inside.over c.self.invariant c.args.stay.now c.requires.formed
    (subst (λ (h : Holding). c.args.stay.now.track.0 < length h.lengths) (sym c.self.view_is) c.requires.track)
    (subst (λ (h : Holding). All (λ s. s.id ≢ c.args.stay.now.id) h.stays) (sym c.self.view_is) c.requires.new)
    (subst (λ (h : Holding). length h.stays < 65536) (sym c.self.view_is) c.requires.few) c.index-track.result.now
    (c.index-track.ensures ∙ ap (λ n. get_or c.self.inside.tracks.items n c.index-track.result.now) c.from.ensures) in
    let is : get_or (lengths_of c.self.inside.tracks.items) c.args.stay.now.track.0 0
    ≡ c.index-track.result.now.length = length_is c.self.inside.stays.items c.self.inside.tracks.items c.self.inside.spare
    (vec_capacity c.self.inside.stays) c.self.inside.pairs c.self.inside.over c.self.invariant c.args.stay.now c.requires.formed
    (subst (λ (h : Holding). c.args.stay.now.track.0 < length h.lengths) (sym c.self.view_is) c.requires.track)
    (subst (λ (h : Holding). All (λ s. s.id ≢ c.args.stay.now.id) h.stays) (sym c.self.view_is) c.requires.new)
    (subst (λ (h : Holding). length h.stays < 65536) (sym c.self.view_is) c.requires.few) c.index-track.result.now
    (c.index-track.ensures ∙ ap (λ n. get_or c.self.inside.tracks.items n c.index-track.result.now) c.from.ensures) in
    clash_more c.self.inside.stays.items c.self.inside.tracks.items c.self.inside.spare
    (vec_capacity c.self.inside.stays) c.self.inside.pairs c.self.inside.over c.self.invariant c.args.stay.now c.requires.formed
    (subst (λ (h : Holding). c.args.stay.now.track.0 < length h.lengths) (sym c.self.view_is) c.requires.track)
    (subst (λ (h : Holding). All (λ s. s.id ≢ c.args.stay.now.id) h.stays) (sym c.self.view_is) c.requires.new)
    (subst (λ (h : Holding). length h.stays < 65536) (sym c.self.view_is) c.requires.few) c.index-track.result.now
    (c.index-track.ensures ∙ ap (λ n. get_or c.self.inside.tracks.items n c.index-track.result.now) c.from.ensures) c.share_with-share.result.pairs
    c.share_with-share.result.over
    (c.share_with-share.ensures.pairs c.self.inside.stays.items new kept) (c.share_with-share.ensures.over c.self.inside.stays.items
    (lengths_of c.self.inside.tracks.items) new kept is)
    ∙ ap (λ (h : Holding). clash_of h.lengths (c.args.stay.now ∷ h.stays)) c.self.view_is
