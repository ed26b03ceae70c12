-- The records of a certificate state it.
use Rattle.std.proofs.Common.{◌≡◌, ℕ, ◌≤◌, true, List, [], ◌∷◌, ◌++◌, length, refl, ap, ◌∙◌, arith}
use Rattle.std.specs.Prelude.{Ok, ◌==◌, Option, Some}
use Rattle.std.specs.List.{flat_map}
use Rattle.std.specs.Fmt.{decimal}
use Rattle.std.proofs.lemmas.Bool.{eq-eqb}
use Rattle.shunt_base.specs.defs.Spelling.{decimal_of}
use Rattle.shunt_rows.specs.declared.fault.RowKind.TheVariants as kinds
use Rattle.shunt_rows.specs.defs.Records.{records_of, text_of_rows, ReadsBack}
use Rattle.shunt_rows.specs.defs.Checks.{Judged, answer, must, says, found, ◌>>=◌}
use Rattle.shunt_rows.specs.defs.Fields.{is_within}
use Rattle.shunt_rows.specs.defs.Formats.{in_state, reading}
use Rattle.shunt_rows.proofs.Again.{again}
use Rattle.shunt_rows.proofs.Answered.{holding}
use Rattle.shunt_rows.proofs.Sections.{then_reads, one_reads, all_read}
use Rattle.shunt_rows.proofs.Spelled.{number_again, in_range}
use Rattle.shunt_instance.specs.defs.Instance.{Night, IsInstance, IsOrderedNight}
use Rattle.shunt_instance.proofs.Orders.{opened}
use Rattle.shunt_proof.specs.declared.records.Node.{Node}
use Rattle.shunt_proof.specs.declared.records.Version.{Version}
use Rattle.shunt_proof.specs.declared.records.Certificate.{Certificate}
use Rattle.shunt_proof.specs.defs.Numbers.{number_of, version_with, newest, CanBeRead}
use Rattle.shunt_proof.specs.defs.Certificates.{IsCertificate}
use Rattle.shunt_proof.specs.defs.CertificateFormat.{CertificateDraft, empty, version_in, first_of, settled, end_in, with_end, end_of, after_node, certificate_of, certificate_format}
use Rattle.shunt_proof.specs.defs.CertificateRows.{node_rows, head_row, end_row, rows_of, ReadsAsCertificate}
use Rattle.shunt_proof.proofs.Parts.{then_ok}
use Rattle.shunt_proof.proofs.NodesBack.{IsReadLast, behind_node, nodes_back}
use Rattle.shunt_proof.proofs.Plain.{certificate_plain}
use Rattle.shunt_proof.proofs.Numbers.{number_back, number_small}

-- what the first record says, by what is found of it
abbrev first_by : Option ℕ → Judged CertificateDraft
first_by version = do
  _ ← must true 1 kinds.Kind
  _ ← must true 1 kinds.Fields
  n ← found 0 version 2 kinds.Number
  _ ← must (is_within 1 newest n) 2 kinds.Limit
  says (empty (version_with n))

head_read : (version : Version) → CanBeRead version → answer 1 (first_of (head_row version)) ≡ Ok (empty version)
unfolding first_of version_in is_within decimal_of
head_read version can =
    let k = number_of version in
    let size = number_small version in
    ap (λ o. answer 1 (first_by o)) (number_again k (omega (arith, size.1)))
    ∙ (let m = first_by (Some k) in holding 1 m.checks m.value (refl, (refl, (refl, (in_range 1 newest k size.0 can, tt)))))
    ∙ ap (λ (v : Version). Ok (empty v)) (number_back version)

-- what the last record says, by what is found of it
abbrev end_by : ℕ → Option ℕ → Option ℕ → Option ℕ → Judged (ℕ × ℕ)
end_by begun cost bound nodes = do
  _ ← must true 1 kinds.Fields
  c ← found 0 cost 2 kinds.Number
  _ ← must (is_within 0 1000000000000 c) 2 kinds.Limit
  b ← found 0 bound 3 kinds.Number
  _ ← must (is_within 0 1000000000000 b) 3 kinds.Limit
  k ← found 0 nodes 4 kinds.Number
  _ ← must (k == begun) 4 kinds.Limit
  says (c, b)

pub end_back : (n begun cost bound nodes : ℕ) → cost ≤ 1000000000000 → bound ≤ 1000000000000 → nodes ≤ 5000 → nodes ≡ begun
    → answer n (end_in begun (end_row cost bound nodes)) ≡ Ok (cost, bound)
unfolding end_in is_within decimal_of
end_back n begun cost bound nodes c b few many =
    let by = end_by begun in
    ap (λ o. answer n (by o (decimal_of (decimal bound)) (decimal_of (decimal nodes)))) (number_again cost (omega (arith, c)))
    ∙ ap (λ o. answer n (by (Some cost) o (decimal_of (decimal nodes)))) (number_again bound (omega (arith, b)))
    ∙ ap (λ o. answer n (by (Some cost) (Some bound) o)) (number_again nodes (omega (arith, few)))
    ∙ (let m = by (Some cost) (Some bound) (Some nodes) in
    holding n m.checks m.value (
      refl,
      (
        refl,
        (
          in_range 0 1000000000000 cost (omega arith) c,
          (refl, (in_range 0 1000000000000 bound (omega arith) b, (refl, (eq-eqb nodes begun many, tt)))),
        ),
      ),
    ))

end_read : (n : ℕ) (night : Night) (d : CertificateDraft) (last : Node) (cost bound nodes : ℕ) → IsReadLast d last → cost ≤ 1000000000000 → bound ≤ 1000000000000 → nodes ≤ 5000
    → nodes ≡ d.begun
    → answer n (in_state (certificate_format night) d (end_row cost bound nodes)) ≡ Ok (with_end d (cost, bound))
unfolding after_node end_of
end_read n night d last cost bound nodes stands c b few many =
    behind_node n night d last (end_row cost bound nodes) _ stands refl refl
    (then_ok n (end_in d.begun (end_row cost bound nodes)) (with_end d) (cost, bound) _ (end_back n d.begun cost bound nodes c b few many) refl)

abbrev certificate : Version → List Node → ℕ → ℕ → Certificate
certificate version nodes cost bound = record { version = version; nodes = nodes; cost = cost; bound = bound }

ended_value : (night : Night) (d : CertificateDraft) (c : Certificate) → (settled d).version ≡ c.version → (settled d).nodes ≡ c.nodes
    → certificate_of (with_end d (c.cost, c.bound)) ≡ c
unfolding with_end
ended_value night d c of_version same = ap (λ v. certificate v (settled d).nodes c.cost c.bound) of_version ∙ ap (λ l. certificate c.version l c.cost c.bound) same

ended_whole : (night : Night) (d : CertificateDraft) (e : ℕ × ℕ) → (certificate_format night).is_whole (with_end d e) ≡ true
unfolding with_end
ended_whole night d e = refl

from_empty : (version : Version) (d : CertificateDraft) (nodes : List Node) → (settled d).nodes ≡ (settled (empty version)).nodes ++ nodes → (settled d).nodes ≡ nodes
unfolding settled
from_empty version d nodes e = e

its_version : (version : Version) (d : CertificateDraft) → (settled d).version ≡ (settled (empty version)).version → (settled d).version ≡ version
unfolding settled
its_version version d e = e

certificate_back : (night : Night) → IsOrderedNight night → (c : Certificate) → IsCertificate night c → reading (certificate_format night) (rows_of night c) ≡ Ok c
certificate_back night h c is =
    let f = certificate_format night in
    let r = nodes_back night h c.version c.nodes is.nodes is.some is.few is.cases 2 in
    let t = with_end r.state (c.cost, c.bound) in
    let many : length c.nodes ≡ r.state.begun = (let b = r.begun in omega (arith, b)) in
    all_read f (head_row c.version) (flat_map (node_rows night) c.nodes ++ end_row c.cost c.bound (length c.nodes) ∷ []) (empty c.version) t (head_read c.version is.version)
    (then_reads f (empty c.version) r.state t 2 (flat_map (node_rows night) c.nodes) (end_row c.cost c.bound (length c.nodes) ∷ []) r.read
    (λ k. one_reads f r.state t k (end_row c.cost c.bound (length c.nodes)) (end_read k night r.state r.last c.cost c.bound
    (length c.nodes) r.stands is.cost is.bound is.few many)))
    (ended_whole night r.state (c.cost, c.bound))
    ∙ ap (λ (x : Certificate). Ok x) (ended_value night r.state c (its_version c.version r.state r.version) (from_empty c.version r.state c.nodes r.nodes))

pub records_back : (night : Night) (c : Certificate) → IsInstance night → IsCertificate night c → reading (certificate_format night) (rows_of night c) ≡ Ok c
records_back night c h is = certificate_back night (opened night h) c is

-- the certificate's text is read back
pub back_from : (night : Night) (c : Certificate) → IsInstance night → IsCertificate night c → (text bytes : List ℕ) → text ≡ text_of_rows (rows_of night c) → ReadsBack text bytes
    → ReadsAsCertificate night c bytes
back_from night c h is text bytes e back =
    let rows = back (rows_of night c) (certificate_plain night (opened night h) c is) e in
    record { rows = rows; value = ap (reading (certificate_format night)) rows ∙ records_back night c h is }

pub text_back : (night : Night) (c : Certificate) → IsInstance night → IsCertificate night c → ReadsAsCertificate night c (text_of_rows (rows_of night c))
text_back night c h is = back_from night c h is (text_of_rows (rows_of night c)) (text_of_rows (rows_of night c)) refl (λ rows plain e. ap records_of e ∙ again rows plain)
