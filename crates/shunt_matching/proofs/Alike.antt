-- Masks that leave out the same entries.
use Rattle.std.proofs.Common.{◌≡◌, ℕ, Bool, ◌&&◌, ◌==◌, eqb, leb, List, length, sym, ap, ◌∙◌, arith}
use Rattle.shunt_lists.proofs.CountsBelow.{count_below-same}
use Rattle.shunt_instance.specs.defs.Matching.{Entry, entry_at, is_in_rest, IsOfRest, place_of, IsMatchingOfRest}
use Rattle.shunt_matching.specs.declared.types.Shortage.{Shortage}
use Rattle.shunt_matching.specs.declared.types.Shortage.TheVariants.{Balance, ByMinute}
use Rattle.shunt_matching.specs.defs.Counts.{is_of_kind, is_by_minute, count_of_kind, count_by_minute, AreAlikeBelow}
use Rattle.shunt_matching.specs.defs.Shortages.{IsFirstShortage}

abbrev flipped : (n : ℕ) (mask other : List Bool) → AreAlikeBelow n mask other → AreAlikeBelow n other mask
flipped n mask other h = λ i lt. sym (h i lt)

same_counts : (es : List Entry) (mask other : List Bool) (k : ℕ) → AreAlikeBelow (length es) mask other → count_of_kind es mask k ≡ count_of_kind es other k
same_counts es mask other k h = count_below-same (length es) (is_of_kind es mask k) (is_of_kind es other k) (λ i lt. ap (λ (b : Bool). b && eqb (entry_at es i).kind k) (h i lt))

same_by : (es : List Entry) (mask other : List Bool) (k m : ℕ) → AreAlikeBelow (length es) mask other → count_by_minute es mask k m ≡ count_by_minute es other k m
same_by es mask other k m h = count_below-same (length es) (is_by_minute es mask k m) (is_by_minute es other k m)
    (λ i lt. ap (λ (b : Bool). (b && eqb (entry_at es i).kind k) && leb (entry_at es i).minute m) (h i lt))

pub same_matchings : (us vs : List Entry) (um vm un vn : List Bool) (place : List ℕ) → AreAlikeBelow (length us) um un → AreAlikeBelow (length vs) vm vn
    → IsMatchingOfRest us vs um vm place → IsMatchingOfRest us vs un vn place
same_matchings us vs um vm un vn place a b m =
    let unit : (u : ℕ) → IsOfRest us un u → IsOfRest us um u = λ u r. record { there = r.there; left = a u r.there ∙ r.left } in
    record {
      same_length = m.same_length;
      given = λ u r. let g = m.given u (unit u r) in record { there = g.there; left = sym (b (place_of place u) g.there) ∙ g.left };
      serves = λ u r. m.serves u (unit u r);
      once = λ v r. count_below-same (length us) (λ u. is_in_rest un u && (place_of place u == v)) (λ u. is_in_rest um u && (place_of place u == v))
          (λ u lt. ap (λ (t : Bool). t && (place_of place u == v)) (sym (a u lt)))
          ∙ m.once v (record { there = r.there; left = b v r.there ∙ r.left });
    }

pub same_shortages : (us vs : List Entry) (um vm un vn : List Bool) (s : Shortage) → AreAlikeBelow (length us) um un → AreAlikeBelow (length vs) vm vn
    → IsFirstShortage us vs um vm s → IsFirstShortage us vs un vn s
same_shortages us vs um vm un vn (Balance kind arrive depart) a b s = record {
  arrive_is = s.arrive_is ∙ same_counts us um un kind.0 a;
  depart_is = s.depart_is ∙ same_counts vs vm vn kind.0 b;
  differ = s.differ;
  before = λ k lt. sym (same_counts us um un k a) ∙ s.before k lt ∙ same_counts vs vm vn k b;
}
same_shortages us vs um vm un vn (ByMinute kind minute need have) a b s = record {
  even = λ k. sym (same_counts us um un k a) ∙ s.even k ∙ same_counts vs vm vn k b;
  need_is = s.need_is ∙ same_by vs vm vn kind.0 minute b;
  have_is = s.have_is ∙ same_by us um un kind.0 minute a;
  short = s.short;
  sooner = λ m lt. omega (arith, s.sooner m lt, same_by us um un kind.0 m a, same_by vs vm vn kind.0 m b);
  before = λ k m lt. omega (arith, s.before k m lt, same_by us um un k m a, same_by vs vm vn k m b);
}
