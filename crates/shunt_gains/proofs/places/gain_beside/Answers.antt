use Rattle.std.proofs.Common.{◌≡◌, ◌≤◌, ◌+◌, ◌∙◌, ℕ, ℤ, refl, ap, arith}
use Rattle.std.specs.Prelude.{pos, Some}
use Rattle.shunt_stacks.specs.defs.Spans.{best}
use Rattle.shunt_gains.specs.defs.Tables.{span_of, fixed_in, free_in, events_in}
use Rattle.shunt_gains.specs.defs.Places.{IsInPlace}
use Rattle.shunt_gains.proofs.Small.{gain_little}
use Rattle.shunt_stacks.proofs.MaybeGains.{each_some}
use Rattle.shunt_gains.proofs.Beside.{NestLaws, whole_with}
use Rattle.shunt_gains.proofs.places.gain_beside.Goals as goal

pub in_place-requires-clause-whole : goal.in_place-requires-clause-whole
in_place-requires-clause-whole c =
    let p = c.requires.pieces in
    gain_little (fixed_in c.args.pieces.now) (free_in c.args.pieces.now) (λ s i. (p.own.spans s i, p.small s i)) _ _ _ _
    (let few = c.requires.few in let len : c.len.result ≡ events_in c.args.pieces.now = omega (arith, c.len.ensures, c.args.pieces.now.fixed_at.ok) in omega (arith, few, len)) c.in_ok-whole.ensures.is

pub in_place-requires-clause-without : goal.in_place-requires-clause-without
in_place-requires-clause-without c =
    let p = c.requires.pieces in
    gain_little (fixed_in c.args.pieces.now) (free_in c.args.pieces.now) (λ s i. (p.own.spans s i, p.small s i)) _ _ _ _
    (let few = c.requires.few in let end = c.in-Some.ensures.there.within in omega (arith, few, end)) c.in_ok-without.ensures.is

pub in_place-requires-clause-inside : goal.in_place-requires-clause-inside
in_place-requires-clause-inside c =
    let p = c.requires.pieces in
    gain_little (fixed_in c.args.pieces.now) (free_in c.args.pieces.now) (λ s i. (p.own.spans s i, p.small s i)) _ _ _ _
    (let few = c.requires.few in let end = c.requires.until in omega (arith, few, end)) c.in_ok-inside.ensures.is

pub in_place-requires-clause-behind : goal.in_place-requires-clause-behind
in_place-requires-clause-behind c =
    let p = c.requires.pieces in
    gain_little (fixed_in c.args.pieces.now) (free_in c.args.pieces.now) (λ s i. (p.own.spans s i, p.small s i)) _ _ _ _
    (let few = c.requires.few in let end = c.in-Some.ensures.there.within in omega (arith, few, end)) c.in_ok-behind.ensures.is

pub returns-clause-beside : goal.returns-clause-beside
returns-clause-beside c =
    let p = c.args.pieces.now in
    let e = events_in p in
    let len : c.len.result ≡ e = omega (arith, c.len.ensures, p.fixed_at.ok) in
    let there = c.in-Some.ensures.there in
    let end = there.within in
    let gone : c.args.own.past ≤ c.in-Some.place.end = omega (arith, c.if-own-place.false) in
    let long : c.args.own.length ≤ c.in-Some.place.room = omega (arith, c.if-own-place-2.false) in
    let until = c.requires.until in
    let laws : NestLaws = record { at_fixed = c.nests.ensures.at_fixed; at_none = c.nests.ensures.at_none; agree = c.nests.ensures.agree } in
    λ others more beside.
    each_some (IsInPlace c.in_ok-whole.whole c.in_ok-without.without c.in_ok-inside.inside c.in_ok-behind.behind)
    (λ (z : ℤ). best e others more 0 e c.args.room ≡ Some z) c.in_place.result c.in_place.ensures.exact
    (λ z is. whole_with laws (fixed_in p) (free_in p) c.requires.pieces.own others more (span_of c.args.own) beside e c.args.room c.in-Some.place
    c.in-Some.ensures.begins end c.requires.bare gone long (c.in-Some.ensures.surround others more (span_of c.args.own) beside refl)
    c.in_ok-whole.whole c.in_ok-without.without c.in_ok-inside.inside c.in_ok-behind.behind
    (c.in_ok-whole.ensures.is e (omega (arith, len)) ∙ ap (λ (n : ℕ). best e (fixed_in p) (free_in p) 0 n c.args.room) len)
    (c.in_ok-without.ensures.is e (omega (arith, end))) (c.in_ok-inside.ensures.is e (omega (arith, until))) (c.in_ok-behind.ensures.is e (omega (arith, end)))
    z is)
