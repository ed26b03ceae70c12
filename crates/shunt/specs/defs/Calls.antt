-- What a command asks for.
use Rattle.std.specs.Prelude.{ℕ, List, map, String, string_bytes}
use Rattle.shunt.specs.declared.words.Command.{Command}
use Rattle.shunt.specs.declared.words.Command.TheVariants as command

-- the bytes of each word
abbrev pub texts : {A : Type 0} → List (String A) → List (List ℕ)
texts = map string_bytes

-- a command, by the names of its files, and by how many nodes of a search it allows; a trial by the number and the units of its night,
-- and the rest of a night by the minute from which on it is resumed
pub data Call : Type 0 where
  Match : List ℕ → List ℕ → Call
  Follow : List ℕ → List ℕ → Call
  Audit : List ℕ → List ℕ → List ℕ → Call
  Delay : List ℕ → List ℕ → List ℕ → Call
  Report : List ℕ → List ℕ → List ℕ → Call
  Check : List ℕ → List ℕ → List ℕ → List ℕ → Call
  Compare : List ℕ → List ℕ → List ℕ → List ℕ → Call
  Zones : List ℕ → List ℕ → List ℕ → List ℕ → Call
  Sheet : List ℕ → List ℕ → List ℕ → List ℕ → Call
  Draw : List ℕ → List ℕ → List ℕ → List ℕ → Call
  Page : List ℕ → List ℕ → List ℕ → List ℕ → Call
  Upgrade : List ℕ → List ℕ → List ℕ → List ℕ → Call
  Trial : ℕ → ℕ → ℕ → List ℕ → List ℕ → List ℕ → List ℕ → Call
  Drivers : List ℕ → List ℕ → List ℕ → List ℕ → List ℕ → Call
  Roster : List ℕ → List ℕ → List ℕ → List ℕ → List ℕ → Call
  CheckPinned : List ℕ → List ℕ → List ℕ → List ℕ → List ℕ → Call
  Replay : List ℕ → List ℕ → List ℕ → List ℕ → List ℕ → Call
  Resume : List ℕ → List ℕ → List ℕ → ℕ → List ℕ → List ℕ → Call
  MakePlan : List ℕ → List ℕ → ℕ → List ℕ → List ℕ → Call
  MakePinned : List ℕ → List ℕ → List ℕ → ℕ → List ℕ → List ℕ → Call
  Improve : List ℕ → List ℕ → List ℕ → List ℕ → ℕ → List ℕ → List ℕ → Call

abbrev pub call_of : Command → Call
call_of (command.Match s t) = Match s.now t.now
call_of (command.Follow s o) = Follow s.now o.now
call_of (command.Audit s t p) = Audit s.now t.now p.now
call_of (command.Delay s t p) = Delay s.now t.now p.now
call_of (command.Report s t p) = Report s.now t.now p.now
call_of (command.Check s t p k) = Check s.now t.now p.now k.now
call_of (command.Compare s t p o) = Compare s.now t.now p.now o.now
call_of (command.Zones s t p z) = Zones s.now t.now p.now z.now
call_of (command.Sheet s t p n) = Sheet s.now t.now p.now n.now
call_of (command.Draw s t p n) = Draw s.now t.now p.now n.now
call_of (command.Page s t p n) = Page s.now t.now p.now n.now
call_of (command.Upgrade s t n m) = Upgrade s.now t.now n.now m.now
call_of (command.Trial n u m s t p k) = Trial n u m s.now t.now p.now k.now
call_of (command.Drivers s t p c d) = Drivers s.now t.now p.now c.now d.now
call_of (command.Roster s t p c d) = Roster s.now t.now p.now c.now d.now
call_of (command.CheckPinned s t i p k) = CheckPinned s.now t.now i.now p.now k.now
call_of (command.Replay s t p e n) = Replay s.now t.now p.now e.now n.now
call_of (command.Resume s t p m n i) = Resume s.now t.now p.now m n.now i.now
call_of (command.MakePlan s t m p k) = MakePlan s.now t.now m p.now k.now
call_of (command.MakePinned s t i m p k) = MakePinned s.now t.now i.now m p.now k.now
call_of (command.Improve s t i h m p k) = Improve s.now t.now i.now h.now m p.now k.now
