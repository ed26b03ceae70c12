-- What a recorder over a store does, and what it writes.
use Rattle.std.specs.Prelude.{◌≡◌, ℕ, zero, suc, ◌≤◌, ◌==◌, nat_le, ◌&&◌, Bool, List, [], ◌∷◌, ◌++◌, length, Option, Some, None, Result, Ok, Err, if◌then◌else◌, is_some}
use Rattle.std.specs.List.{flat_map}
use Rattle.std.specs.Str.{bytes_eq}
use Rattle.std.proofs.Common.{refl, ◌∙◌}
use Rattle.shunt_store.specs.defs.Files as store
use Rattle.shunt_rows.specs.declared.fault.RowFault.{RowFault}
use Rattle.shunt_rows.specs.defs.Records.{text_of_row, text_of_rows, records_of}
use Rattle.shunt_rows.specs.defs.Formats.{reading}
use Rattle.shunt_instance.specs.defs.Instance.{Night}
use Rattle.shunt_proof.specs.declared.records.Node.{Node}
use Rattle.shunt_proof.specs.declared.records.Version.{Version}
use Rattle.shunt_proof.specs.declared.records.Certificate.{Certificate}
use Rattle.shunt_proof.specs.declared.text_recorder.TextState.{TextState}
use Rattle.shunt_proof.specs.declared.text_recorder.TextState.TheVariants as doing
use Rattle.shunt_proof.specs.defs.Nodes.{AreNodes}
use Rattle.shunt_proof.specs.defs.Certificates.{case_total}
use Rattle.shunt_proof.specs.defs.CertificateFormat.{certificate_format}
use Rattle.shunt_proof.specs.defs.CertificateRows.{node_rows, head_row, end_row}
use Rattle.shunt_proof.specs.defs.Numbers.{number_of, newest, CanBeRead}
use Rattle.shunt_proof.specs.defs.Recorders.{Stage, Open, Stalled, Finished, Failed}

-- the text of the first record and of nodes
abbrev pub front_text : Version → Night → List Node → List ℕ
front_text version night nodes = text_of_rows (head_row version ∷ flat_map (node_rows night) nodes)

-- the text behind that many nodes: the last record, where a cost and a bound were stated
abbrev pub end_text : ℕ → Option (ℕ × ℕ) → List ℕ
end_text n None = []
end_text n (Some e) = text_of_row (end_row e.0 e.1 n)

-- what is written of these nodes
abbrev pub file_text : Version → Night → Option (ℕ × ℕ) → List Node → List ℕ
file_text version night end nodes = front_text version night nodes ++ end_text (length nodes) end

-- what makes a certificate's text of it
abbrev pub rest_text : ℕ → Option (ℕ × ℕ) → List ℕ
rest_text n None = end_text n (Some (0, 0))
rest_text n (Some e) = []

abbrev pub nodes_of : Result Certificate RowFault → List Node
nodes_of (Ok c) = c.nodes
nodes_of (Err e) = []

-- that many nodes as they are read of bytes
abbrev pub nodes_read : Night → Option (ℕ × ℕ) → ℕ → List ℕ → List Node
nodes_read night end zero bytes = []
nodes_read night end (suc n) bytes = nodes_of (reading (certificate_format night) (records_of (bytes ++ rest_text (suc n) end)))

-- whether the version is read, these are that many nodes with that many cases, and the bytes their text
abbrev pub is_text : Version → Night → Option (ℕ × ℕ) → ℕ → ℕ → List ℕ → List Node → Bool
is_text version night end count cases bytes nodes = nat_le (number_of version) newest &&
    (length nodes == count && (case_total nodes == cases && bytes_eq bytes (file_text version night end nodes)))

abbrev pub told_where : Bool → List Node → Option (List Node)
told_where b nodes = if b then Some nodes else None

-- the one list of that many nodes with that many cases whose text in this version the bytes are, if there is one
unfoldable pub nodes_told : Version → Night → Option (ℕ × ℕ) → ℕ → ℕ → List ℕ → Option (List Node)
nodes_told version night end count cases bytes = told_where (is_text version night end count cases bytes (nodes_read night end count bytes)) (nodes_read night end count bytes)

-- that many nodes with that many cases that a file can state, within its limits, and the bytes are their text in this version, which is
-- read
pub record IsTextOf (version : Version) (night : Night) (end : Option (ℕ × ℕ)) (count cases : ℕ) (bytes : List ℕ) (nodes : List Node) : Type 0 where
  pub are : AreNodes night nodes
  pub many : length nodes ≡ count
  pub total : case_total nodes ≡ cases
  pub few : count ≤ 5000
  pub less : cases ≤ 8000
  pub can : CanBeRead version
  pub text : bytes ≡ file_text version night end nodes

-- there is a node where a cost and a bound are stated, and these are within their limits
abbrev pub EndFits : Option (ℕ × ℕ) → ℕ → Type 0
EndFits None n = Unit {0}
EndFits (Some e) n = (1 ≤ n) × ((e.0 ≤ 1000000000000) × (e.1 ≤ 1000000000000))

-- A recorder over a store: what its version is, whose night its nodes are of, what its file is called, what its store is doing, and what it does, with how
-- many nodes and cases it noted.
pub record Streamed : Type 0 where
  pub version : Version
  pub night : Night
  pub name : List ℕ
  pub place : store.Stage
  pub doing : TextState
  pub nodes : ℕ
  pub cases : ℕ

-- the nodes that the text tells which its store is writing
abbrev pub told_in : Streamed → TextState → Option (List Node)
told_in s doing.Open = nodes_told s.version s.night None s.nodes s.cases (store.text_of s.place)
told_in s (doing.Finished cost bound) = nodes_told s.version s.night (Some (cost, bound)) s.nodes s.cases (store.text_of s.place)
told_in s _ = None

unfoldable pub told_of : Streamed → Option (List Node)
told_of s = told_in s s.doing

-- this text tells nodes
abbrev pub is_sound : Streamed → Bool
is_sound s = is_some (told_of s)

-- this stage where a store writes the named file, and where the test holds
abbrev pub where_writing : List ℕ → store.Stage → Bool → Stage → Stage
where_writing name (store.Writing written text) b stage = if bytes_eq written name && b then stage else Failed
where_writing name (store.Reading read) b stage = Failed
where_writing name store.Closed b stage = Failed

-- what it can do: while it is open or finished its store writes its file
abbrev pub stage_in : Streamed → TextState → Stage
stage_in s doing.Open = where_writing s.name s.place (is_sound s) Open
stage_in s doing.Stalled = Stalled
stage_in s (doing.Finished cost bound) = where_writing s.name s.place (is_sound s) (Finished cost bound)
stage_in s doing.Failed = Failed

unfoldable pub stage_of : Streamed → Stage
stage_of s = stage_in s s.doing

-- where it is open or finished a file is being written, and where it was refused none
abbrev pub Rests : TextState → store.Stage → Type 0
Rests doing.Open place = store.IsWriting place
Rests doing.Stalled place = place ≡ store.Closed
Rests (doing.Finished cost bound) place = store.IsWriting place
Rests doing.Failed place = place ≡ store.Closed

-- what calls of a recorder keep
pub record KeepsStream (s t : Streamed) : Type 0 where
  pub version : t.version ≡ s.version
  pub night : t.night ≡ s.night
  pub name : t.name ≡ s.name
  pub rests : Rests s.doing s.place → Rests t.doing t.place

-- what is seen of a recorder
abbrev pub seen : Version → Night → List ℕ → store.Stage → TextState → ℕ → ℕ → Streamed
seen version night name place doing nodes cases = record { version = version; night = night; name = name; place = place; doing = doing; nodes = nodes; cases = cases }

-- nothing was done, and two things one after the other
pub keeps_same : (s : Streamed) → KeepsStream s s
keeps_same s = record { version = refl; night = refl; name = refl; rests = λ r. r }

pub keeps_on : (s t u : Streamed) → KeepsStream s t → KeepsStream t u → KeepsStream s u
keeps_on s t u h k = record {
  version = k.version ∙ h.version;
  night = k.night ∙ h.night;
  name = k.name ∙ h.name;
  rests = λ r. k.rests (h.rests r);
}
