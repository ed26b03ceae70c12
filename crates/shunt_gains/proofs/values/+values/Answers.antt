use Rattle.std.specs.Prelude.{pos, None}
use Rattle.std.proofs.Common.{◌≡◌, inl, inr, ⊎_elim, ◌∙◌, ◌<◌, ◌+◌, ◌≤◌, subst, length, slice_index_or, ap, sym, arith}
use Rattle.shunt_prices.specs.defs.Sums.{IsWithin}
use Rattle.shunt_stacks.specs.defs.Spans.{best, best_with}
use Rattle.shunt_gains.specs.declared.pieces.Piece.{Piece}
use Rattle.shunt_gains.specs.defs.Tables.{span_of, spans_at, fixed_in, free_in}
use Rattle.shunt_gains.proofs.Known.{in_row}
use Rattle.shunt_gains.proofs.Small.{gain_small, seen}
use Rattle.shunt_gains.proofs.Stepped.{left_with, turned, by_fixed, by_free, none_by_end, none_by_room}
use Rattle.shunt_gains.proofs.Listed.{taken, here, enough, listed, some_there, none_there, some_long, none_long}
use Rattle.shunt_gains.proofs.values.+values.Goals as goal
use Rattle.shunt_lists.proofs.Options.{if_ok}
use Rattle.shunt_stacks.proofs.Steps.{joined}

pub greatest-with_piece-requires : goal.greatest-with_piece-requires
greatest-with_piece-requires t c =
    let d : Piece = record { from = 0; inside = 0; until = 0; past = 0; length = 0; gain = pos 0 } in
    let p = slice_index_or c.list_at-piece-items.result.now c.pieces.piece-index d in
    let h = c.requires.ours (span_of p) (taken c.list_at-piece-items.result.now c.pieces.piece-index d
    (spans_at c.args.lists.now c.args.x) c.pieces-test.true c.list_at-piece-items.ensures) in
    let same : p.from ≡ c.args.x = h.1 in
    let long = c.requires.long in
    let m = c.decreases in
    (omega (arith, m), (c.requires.pieces, (c.pieces.invariant.rows, (c.requires.end, (h.0, (c.requires.row, omega (arith, long, same)))))))

pub greatest-pieces-preserved : goal.greatest-pieces-preserved
greatest-pieces-preserved t c =
    let d : Piece = record { from = 0; inside = 0; until = 0; past = 0; length = 0; gain = pos 0 } in
    let ps = c.list_at-piece-items.result.now in
    let i = c.pieces.piece-index in
    let p = slice_index_or ps i d in
    let h = c.requires.ours (span_of p) (taken ps i d (spans_at c.args.lists.now c.args.x) c.pieces-test.true c.list_at-piece-items.ensures) in
    let same : p.from ≡ c.args.x = h.1 in
    record {
      rows = c.in_ok-with_piece.ensures.rows;
      is = λ n le. let value = best_with (best n (fixed_in c.args.pieces.now) (free_in c.args.pieces.now)) c.args.key.end c.args.key.room in
          ap (left_with value ps (i + 1)) c.greater-gain.ensures
          ∙ turned value ps i d c.pieces.gain c.in_ok-with_piece.field-0 _ c.pieces-test.true (c.in_ok-with_piece.ensures.is n (omega (arith, le, same)))
          (c.pieces.invariant.is n le);
    }

pub step-greatest-requires : goal.step-greatest-requires
step-greatest-requires t c =
    let p = c.args.pieces.now in
    let start = c.requires.start in
    let end = c.requires.end in
    let m = c.decreases in
    let lt : c.args.x < length p.fixed_at.items = omega (arith, start, end) in
    let long = enough (fixed_in p) _ c.args.x p.fixed_at.items _ c.requires.pieces.fixed_at lt c.deref-then-not-is_empty.ensures.value in (
      omega (arith, m),
      (
        c.requires.pieces,
        (
          c.requires.rows,
          (
            end,
            (
              long,
              (
                λ s i. let h = listed (fixed_in p) _ c.args.x p.fixed_at.items _ c.requires.pieces.fixed_at lt c.deref-then-not-is_empty.ensures.value s i in (inl h.0, h.1),
                (c.requires.row, c.requires.long),
              ),
            ),
          ),
        ),
      ),
    )

pub step-greatest-requires-2 : goal.step-greatest-requires-2
step-greatest-requires-2 t c =
    let p = c.args.pieces.now in
    let start = c.requires.start in
    let end = c.requires.end in
    let m = c.decreases in
    let lt : c.args.x < length p.fixed_at.items = omega (arith, start, end) in
    let long = enough (free_in p) _ c.args.x p.free_at.items _ c.requires.pieces.free_at lt c.deref-2.ensures.value in (
      omega (arith, m),
      (
        c.requires.pieces,
        (
          c.requires.rows,
          (
            end,
            (
              long,
              (
                λ s i. let h = listed (free_in p) _ c.args.x p.free_at.items _ c.requires.pieces.free_at lt c.deref-2.ensures.value s i in (inr h.0, h.1),
                (c.requires.row, c.requires.long),
              ),
            ),
          ),
        ),
      ),
    )

pub step-returns-then-not-is_empty-clause-is : goal.step-returns-then-not-is_empty-clause-is
step-returns-then-not-is_empty-clause-is t c =
    let p = c.args.pieces.now in
    let start = c.requires.start in
    let end = c.requires.end in
    let lt : c.args.x < length p.fixed_at.items = omega (arith, start, end) in
    let many = some_long (length c.list_at.result.now) _ c.is_empty.ensures c.if-not-is_empty.true in
    let some = some_there (fixed_in p) _ c.args.x p.fixed_at.items _ c.requires.pieces.fixed_at lt c.deref.ensures.value c.list_at.result.now c.list_at.ensures many in
    if_ok _ _ c.greatest.result
    (λ g h n le. by_fixed (best n (fixed_in p) (free_in p)) (fixed_in p) (free_in p) c.args.x c.args.key.end c.args.key.room start
    (spans_at c.deref-then-not-is_empty.result.now c.args.x) g
    (here (fixed_in p) _ c.args.x p.fixed_at.items _ c.requires.pieces.fixed_at lt c.deref-then-not-is_empty.ensures.value) some (h n le)
    ∙ sym (c.nests.ensures.steps (fixed_in p) (free_in p) n c.args.x c.args.key.end c.args.key.room c.requires.pieces.own le)) c.greatest.ensures.is

pub step-returns-clause-is : goal.step-returns-clause-is
step-returns-clause-is t c =
    let p = c.args.pieces.now in
    let start = c.requires.start in
    let end = c.requires.end in
    let known = c.requires.long in
    let lt : c.args.x < length p.fixed_at.items = omega (arith, start, end) in
    let many = none_long (length c.list_at.result.now) _ c.is_empty.ensures c.if-not-is_empty.false in
    let none = none_there (fixed_in p) _ c.args.x p.fixed_at.items _ c.requires.pieces.fixed_at lt c.deref.ensures.value c.list_at.result.now c.list_at.ensures many in
    let back = c.from.ensures in
    let without = in_row (fixed_in p) (free_in p) (c.args.x + 1) c.args.key.end c.args.key.room c.args.row.now c.from.result c.requires.row (omega (arith, back, start))
    (omega (arith, start)) (omega (arith, back, start, known)) None in
    if_ok _ _ c.greatest-2.result
    (λ g h n le. by_free (best n (fixed_in p) (free_in p)) (fixed_in p) (free_in p) c.args.x c.args.key.end c.args.key.room start (spans_at c.deref-2.result.now c.args.x) _ g
    (here (free_in p) _ c.args.x p.free_at.items _ c.requires.pieces.free_at lt c.deref-2.ensures.value) none (without n (omega (arith, le))) (h n le)
    ∙ sym (c.nests.ensures.steps (fixed_in p) (free_in p) n c.args.x c.args.key.end c.args.key.room c.requires.pieces.own le)) c.greatest-2.ensures.is

pub value-returns-clause-is : goal.value-returns-clause-is
value-returns-clause-is t c =
    let back = c.from.ensures in
    let gain = c.index-gain.ensures in
    let long = c.in_ok-row.ensures.is.long in
    let lt = c.if-key-x.false in
    let w = in_row (fixed_in c.args.pieces.now) (free_in c.args.pieces.now) c.args.x c.args.key.end c.args.key.room c.in_ok-row.row.items c.from.result c.in_ok-row.ensures.is.each
    (omega (arith, back, lt)) (omega (arith, lt)) (omega (arith, back, lt, long)) in
    λ n le. gain ∙ w c.index-gain.result.now n le

pub with_piece-bounds-row-from : goal.with_piece-bounds-row-from
with_piece-bounds-row-from t c =
    let is = c.requires.pieces.own.spans (span_of c.args.piece) c.requires.piece in
    let a : c.args.piece.from < c.args.piece.inside = is.enters in
    let b : c.args.piece.inside ≤ c.args.piece.until = is.stays in
    let d : c.args.piece.until < c.args.piece.past = is.leaves in
    let back = c.from.ensures in
    let long = c.requires.long in
    let f = c.if-piece-key.false in
    omega (arith, a, b, d, back, long, f)

pub with_piece-value-requires : goal.with_piece-value-requires
with_piece-value-requires t c =
    let is = c.requires.pieces.own.spans (span_of c.args.piece) c.requires.piece in
    let d : c.args.piece.until < c.args.piece.past = is.leaves in
    let e = c.requires.end in
    let f = c.if-piece-key.false in
    (let m = c.decreases in omega (arith, m, d, f), (c.requires.pieces, (c.requires.rows, omega (arith, d, e, f))))

pub with_piece-plus-requires-clause-gain : goal.with_piece-plus-requires-clause-gain
with_piece-plus-requires-clause-gain t c = let w = c.requires.pieces.small (span_of c.args.piece) c.requires.piece in subst (IsWithin 1000000000000000)
    (sym (seen c.args.piece.gain w)) w

pub with_piece-plus-requires-clause-inside : goal.with_piece-plus-requires-clause-inside
with_piece-plus-requires-clause-inside t c =
    let p = c.requires.pieces in
    let is = p.own.spans (span_of c.args.piece) c.requires.piece in
    let d : c.args.piece.until < c.args.piece.past = is.leaves in
    let e = c.requires.end in
    let f = c.if-piece-key.false in
    let few = p.few in
    gain_small _ _ (λ s i. (p.own.spans s i, p.small s i)) _ _ _ c.in_ok-inside.inside (omega (arith, d, e, f, few)) c.in_ok-inside.ensures.is

pub with_piece-plus-requires-clause-behind : goal.with_piece-plus-requires-clause-behind
with_piece-plus-requires-clause-behind t c =
    let p = c.requires.pieces in
    let is = p.own.spans (span_of c.args.piece) c.requires.piece in
    let a : c.args.piece.from < c.args.piece.inside = is.enters in
    let b : c.args.piece.inside ≤ c.args.piece.until = is.stays in
    let d : c.args.piece.until < c.args.piece.past = is.leaves in
    let back = c.from.ensures in
    let long = c.requires.long in
    let f = c.if-piece-key.false in
    let behind = in_row (fixed_in c.args.pieces.now) (free_in c.args.pieces.now) c.args.piece.past c.args.key.end c.args.key.room c.args.row.now c.from.result c.requires.row
    (omega (arith, back, f)) (omega (arith, f)) (omega (arith, a, b, d, back, long, f)) None in
    let e = c.requires.end in
    let few = p.few in
    gain_small _ _ (λ s i. (p.own.spans s i, p.small s i)) _ _ _ _ (omega (arith, e, few)) behind

pub with_piece-returns-then-piece-key-clause-is : goal.with_piece-returns-then-piece-key-clause-is
with_piece-returns-then-piece-key-clause-is t c n le =
    let rest = best n (fixed_in c.args.pieces.now) (free_in c.args.pieces.now) in
    let piece = span_of c.args.piece in
    ⊎_elim (none_by_end rest c.args.key.end c.args.key.room piece) (λ long. none_by_room rest c.args.key.end c.args.key.room piece long.1) c.then-piece-key.either

pub with_piece-returns-clause-is : goal.with_piece-returns-clause-is
with_piece-returns-clause-is t c =
    let p = c.requires.pieces in
    let is = p.own.spans (span_of c.args.piece) c.requires.piece in
    let a : c.args.piece.from < c.args.piece.inside = is.enters in
    let b : c.args.piece.inside ≤ c.args.piece.until = is.stays in
    let d : c.args.piece.until < c.args.piece.past = is.leaves in
    let back = c.from.ensures in
    let long = c.requires.long in
    let f = c.if-piece-key.false in
    let behind = in_row (fixed_in c.args.pieces.now) (free_in c.args.pieces.now) c.args.piece.past c.args.key.end c.args.key.room c.args.row.now c.from.result c.requires.row
    (omega (arith, back, f)) (omega (arith, f)) (omega (arith, a, b, d, back, long, f)) None in
    let few = c.if-piece-key-2.false in
    let own = seen c.args.piece.gain (p.small (span_of c.args.piece) c.requires.piece) in
    λ n le. joined (best n (fixed_in c.args.pieces.now) (free_in c.args.pieces.now)) c.args.key.end c.args.key.room (span_of c.args.piece) _ c.in_ok-inside.inside _ _
    (omega (arith, f)) (omega (arith, few)) own (c.in_ok-inside.ensures.is n (omega (arith, le, a, b, d, f))) (behind n (omega (arith, le, a, b, d))) c.plus.ensures
