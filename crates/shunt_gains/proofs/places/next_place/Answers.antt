use Rattle.std.proofs.Common.{◌<◌, ⊎_elim, inl, length, arith}
use Rattle.shunt_gains.specs.declared.places.Place.{Place}
use Rattle.shunt_gains.specs.defs.Tables.{span_of, fixed_in, free_in, events_in}
use Rattle.shunt_gains.specs.defs.Places.{IsPlaceAt, IsPast, Surround}
use Rattle.shunt_gains.proofs.Listed.{first_there, bare_there, none_long}
use Rattle.shunt_stacks.proofs.MaybeGains.{each_some}
use Rattle.shunt_gains.proofs.Beside.{past_later, past_there, past_leads, skip_leads, NestLaws}
use Rattle.shunt_gains.proofs.places.next_place.Goals as goal

pub returns-in-Some-clause-later : goal.returns-in-Some-clause-later
returns-in-Some-clause-later c =
    let p = c.args.pieces.now in
    let place = c.requires.place in
    let lt : c.args.place.x < events_in p = (let s = place.ends in let w = place.within in omega (arith, c.requires.before, s, w)) in
    let item = c.in-Some.ensures.item in
    let f = first_there (fixed_in p) (events_in p) c.args.place.x p.fixed_at.items _ c.requires.pieces.fixed_at lt c.deref.ensures.value
    c.list_at.result.now c.list_at.ensures item.3.0 c.in-Some.piece.now c.in-Some.piece.now item.1 in
    each_some (IsPast c.args.at c.args.place (span_of c.in-Some.piece.now)) (λ (q : Place). c.args.place.x < q.x) c.past_piece.result c.past_piece.ensures
    (λ q past. past_later c.args.at c.args.place q (span_of c.in-Some.piece.now) (c.requires.pieces.own.spans (span_of c.in-Some.piece.now) (inl f.0)) past f.1)

pub returns-in-Some-clause-there : goal.returns-in-Some-clause-there
returns-in-Some-clause-there c =
    let p = c.args.pieces.now in
    let place = c.requires.place in
    let lt : c.args.place.x < events_in p = (let s = place.ends in let w = place.within in omega (arith, c.requires.before, s, w)) in
    let item = c.in-Some.ensures.item in
    let f = first_there (fixed_in p) (events_in p) c.args.place.x p.fixed_at.items _ c.requires.pieces.fixed_at lt c.deref.ensures.value
    c.list_at.result.now c.list_at.ensures item.3.0 c.in-Some.piece.now c.in-Some.piece.now item.1 in
    each_some (IsPast c.args.at c.args.place (span_of c.in-Some.piece.now)) (IsPlaceAt (events_in p) c.args.at) c.past_piece.result c.past_piece.ensures
    (λ q past. past_there c.args.at c.args.place q (span_of c.in-Some.piece.now) (c.requires.pieces.own.spans (span_of c.in-Some.piece.now) (inl f.0)) past (events_in p) place)

pub returns-in-Some-clause-leads : goal.returns-in-Some-clause-leads
returns-in-Some-clause-leads c =
    let p = c.args.pieces.now in
    let place = c.requires.place in
    let lt : c.args.place.x < events_in p = (let s = place.ends in let w = place.within in omega (arith, c.requires.before, s, w)) in
    let item = c.in-Some.ensures.item in
    let f = first_there (fixed_in p) (events_in p) c.args.place.x p.fixed_at.items _ c.requires.pieces.fixed_at lt c.deref.ensures.value
    c.list_at.result.now c.list_at.ensures item.3.0 c.in-Some.piece.now c.in-Some.piece.now item.1 in
    let laws : NestLaws = record { at_fixed = c.nests.ensures.at_fixed; at_none = c.nests.ensures.at_none; agree = c.nests.ensures.agree } in
    λ room known. each_some (IsPast c.args.at c.args.place (span_of c.in-Some.piece.now)) (Surround (fixed_in p) (free_in p) (events_in p) room c.args.at)
    c.past_piece.result c.past_piece.ensures
    (λ q past. past_leads laws (fixed_in p) (free_in p) c.requires.pieces.own (events_in p) room c.args.at c.args.place place c.requires.before
    (span_of c.in-Some.piece.now) f.0 f.1 q past known)

pub returns-clause-leads : goal.returns-clause-leads
returns-clause-leads c =
    let p = c.args.pieces.now in
    let place = c.requires.place in
    let lt : c.args.place.x < events_in p = (let s = place.ends in let w = place.within in omega (arith, c.requires.before, s, w)) in
    let item = c.in_default.ensures.item in
    let no_fixed = bare_there (fixed_in p) (events_in p) c.args.place.x p.fixed_at.items _ c.requires.pieces.fixed_at lt c.deref.ensures.value
    c.list_at.result.now c.list_at.ensures (let few = item.3 in omega (arith, few)) in
    let no_free = bare_there (free_in p) (events_in p) c.args.place.x p.free_at.items _ c.requires.pieces.free_at lt c.deref-2.ensures.value
    c.list_at-2.result.now c.list_at-2.ensures (none_long (length c.list_at-2.result.now) _ c.is_empty.ensures c.if-not-is_empty.false) in
    let laws : NestLaws = record { at_fixed = c.nests.ensures.at_fixed; at_none = c.nests.ensures.at_none; agree = c.nests.ensures.agree } in
    λ room. skip_leads laws (fixed_in p) (free_in p) c.requires.pieces.own (events_in p) room c.args.at c.args.place place c.requires.before
    (λ s j. ⊎_elim (no_fixed s) (no_free s) j)
