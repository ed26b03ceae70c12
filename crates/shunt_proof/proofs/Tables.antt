-- The table of certificates stands in order.
use Rattle.std.proofs.Common.{ℕ, zero, suc, ◌+◌, ◌*◌, ◌≤◌, Bool, true, false, List, [], ◌++◌, length, refl, arith}
use Rattle.std.specs.Prelude.{codes, ◌==◌, if◌then◌else◌}
use Rattle.shunt_rows.specs.defs.Fields.{is_word}
use Rattle.shunt_rows.specs.defs.FirstFault.{HasChecksInOrder, Tells}
use Rattle.shunt_rows.proofs.InOrder.{in_if, no_word_up, Ascends, none_left, one_before, from_before, whole_up}
use Rattle.shunt_rows.proofs.Readings.{tells}
use Rattle.shunt_instance.specs.declared.records.Station.{Station}
use Rattle.shunt_instance.specs.defs.Instance.{Night, unit_total, position_total}
use Rattle.shunt_plan.specs.defs.BlockRecords.{unparked_in, parked_in, option_in}
use Rattle.shunt_proof.specs.declared.heads.Head.{Head}
use Rattle.shunt_proof.specs.declared.draft.LastRead.{LastRead}
use Rattle.shunt_proof.specs.declared.draft.LastRead.TheVariants as places
use Rattle.shunt_proof.specs.defs.CertificateFormat.{CertificateDraft, root_in, later_in, child_in, root_of, child_of, values_in, first_limits_in, second_limits_in, first_case_of, second_case_of, alpha_in, lone_alpha_in, beta_in, alpha_of, lone_alpha_of, beta_of, price_in, part_in, price_of, part_of, end_in, end_of, after_node, after_case, after_beta, after_new, at_place, later_of, version_in, first_of, certificate_format}

option_up : (s : Station) (row : List (List ℕ)) → Ascends 92 (option_in s row 8).checks
unfolding option_in unparked_in parked_in
option_up s row = by (length row == 8)
  where
    by : (b : Bool) → Ascends 92 (if b then unparked_in row 8 else parked_in s row 8).checks
    by true = record { up = refl }
    by false = record { up = refl }

root_up : (d : CertificateDraft) (row : List (List ℕ)) → HasChecksInOrder (root_of d row)
unfolding root_of root_in
root_up d row = record { up = refl }

child_in_up : (night : Night) (begun : ℕ) (last : Head) (row : List (List ℕ)) → Ascends 13 (child_in night begun last row).checks
unfolding child_in later_in
child_in_up night begun last row = record { up = (whole_up 92 (option_in night.station row 8).checks (option_up night.station row)).up }

child_up : (night : Night) (d : CertificateDraft) (row : List (List ℕ)) → HasChecksInOrder (child_of night d row)
unfolding child_of
child_up night d row = record { up = (whole_up 13 (child_in night d.begun d.head row).checks (child_in_up night d.begun d.head row)).up }

-- ---- values

values_up : (row : List (List ℕ)) (k more : ℕ) → Ascends (12 * k + 4) (values_in row k more).checks
unfolding values_in
values_up row k zero = none_left
values_up row k (suc more) =
    one_before (omega arith) (one_before (omega arith) (from_before (12 * k + 8) (12 * (k + 1) + 4) ((values_in row (k + 1) more).checks ++ []) (omega arith)
    (whole_up (12 * (k + 1) + 4) (values_in row (k + 1) more).checks (values_up row (k + 1) more))))

-- values from field 2 on
from_second : (least : ℕ) (row : List (List ℕ)) (more : ℕ) → least ≤ 28 → Ascends least ((values_in row 2 more).checks ++ [])
from_second least row more le = from_before least 28 ((values_in row 2 more).checks ++ []) le (whole_up 28 (values_in row 2 more).checks (values_up row 2 more))

alpha_up : (night : Night) (d : CertificateDraft) (row : List (List ℕ)) → HasChecksInOrder (alpha_of night d row)
unfolding alpha_of alpha_in
alpha_up night d row = record { up = (from_second 14 row (unit_total night) (omega arith)).up }

lone_alpha_up : (night : Night) (d : CertificateDraft) (row : List (List ℕ)) → HasChecksInOrder (lone_alpha_of night d row)
unfolding lone_alpha_of lone_alpha_in
lone_alpha_up night d row = record { up = (from_second 20 row (unit_total night) (omega arith)).up }

beta_up : (night : Night) (d : CertificateDraft) (row : List (List ℕ)) → HasChecksInOrder (beta_of night d row)
unfolding beta_of beta_in
beta_up night d row = record { up = (from_second 14 row (position_total night) (omega arith)).up }

-- ---- by words

first_case_up : (d : CertificateDraft) (row : List (List ℕ)) → HasChecksInOrder (first_case_of d row)
unfolding first_case_of first_limits_in
first_case_up d row = record { up = refl }

second_case_up : (d : CertificateDraft) (row : List (List ℕ)) → HasChecksInOrder (second_case_of d row)
unfolding second_case_of second_limits_in
second_case_up d row = record { up = refl }

price_up : (night : Night) (d : CertificateDraft) (row : List (List ℕ)) → HasChecksInOrder (price_of night d row)
unfolding price_of price_in
price_up night d row = record { up = refl }

part_up : (night : Night) (d : CertificateDraft) (row : List (List ℕ)) → HasChecksInOrder (part_of night d row)
unfolding part_of part_in
part_up night d row = record { up = refl }

end_up : (d : CertificateDraft) (row : List (List ℕ)) → HasChecksInOrder (end_of d row)
unfolding end_of end_in
end_up d row = record { up = refl }

after_node_up : (night : Night) (d : CertificateDraft) (row : List (List ℕ)) → HasChecksInOrder (after_node night d row)
unfolding after_node
after_node_up night d row = in_if (is_word row (codes "node")) (child_up night d row) (in_if (is_word row (codes "end")) (end_up d row) (no_word_up d))

after_case_up : (night : Night) (d : CertificateDraft) (row : List (List ℕ)) → HasChecksInOrder (after_case night d row)
unfolding after_case
after_case_up night d row = in_if (d.now.to == 160) (after_node_up night d row) (in_if (is_word row (codes "case")) (second_case_up d row) (no_word_up d))

after_beta_up : (night : Night) (d : CertificateDraft) (row : List (List ℕ)) → HasChecksInOrder (after_beta night d row)
unfolding after_beta
after_beta_up night d row = in_if (is_word row (codes "price")) (price_up night d row) (in_if (is_word row (codes "part")) (part_up night d row) (after_case_up night d row))

after_new_up : (night : Night) (d : CertificateDraft) (row : List (List ℕ)) → HasChecksInOrder (after_new night d row)
unfolding after_new
after_new_up night d row = in_if (is_word row (codes "case")) (first_case_up d row) (in_if (is_word row (codes "alpha")) (lone_alpha_up night d row) (no_word_up d))

place_up : (night : Night) (d : CertificateDraft) (place : LastRead) (row : List (List ℕ)) → HasChecksInOrder (at_place night d place row)
place_up night d places.Start row = in_if (is_word row (codes "node")) (root_up d row) (no_word_up d)
place_up night d places.Node row = after_node_up night d row
place_up night d places.New row = after_new_up night d row
place_up night d places.Case row = in_if (is_word row (codes "alpha")) (alpha_up night d row) (no_word_up d)
place_up night d places.Alpha row = in_if (is_word row (codes "beta")) (beta_up night d row) (no_word_up d)
place_up night d places.Beta row = after_beta_up night d row
place_up night d places.End row = no_word_up d

later_up : (night : Night) (d : CertificateDraft) (row : List (List ℕ)) → HasChecksInOrder (later_of night d row)
unfolding later_of
later_up night d row = place_up night d d.place row

pub certificates_tell : (night : Night) (rows : List (List (List ℕ))) → Tells (certificate_format night) rows
unfolding first_of version_in
certificates_tell night rows = tells (certificate_format night) (record { first = λ row. record { up = refl }; later = later_up night }) rows
