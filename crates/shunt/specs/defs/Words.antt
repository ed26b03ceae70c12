-- The words of the command line.
use Rattle.std.specs.Prelude.{◌≡◌, ℕ, ◌<◌, ◌≤◌, List, [], ◌∷◌, ◌++◌, map}
use Rattle.std.specs.Fmt.{decimal}
use Rattle.shunt_base.specs.defs.Spelling.{minute_text}
use Rattle.shunt_inputs.specs.defs.Names.{AreNames}
use Rattle.shunt.specs.defs.Calls.{Call}
use Rattle.shunt.specs.defs.Commands.{Slot, Reads, Writes, Nodes, Number, Units, Minute, row_of}

-- the word for a place
abbrev pub word_for : Slot → List ℕ
word_for (Reads name) = name
word_for (Writes name) = name
word_for (Nodes m) = decimal m
word_for (Number n) = decimal n
word_for (Units u) = decimal u
word_for (Minute m) = minute_text m

-- the words that ask for it
abbrev pub words_of : Call → List (List ℕ)
words_of c = (row_of c).word ∷ map word_for (row_of c).slots

-- the files that are read, in the order of the words
abbrev pub reads_in : List Slot → List (List ℕ)
reads_in [] = []
reads_in (Reads name ∷ slots) = name ∷ reads_in slots
reads_in (other ∷ slots) = reads_in slots

abbrev pub inputs_of : Call → List (List ℕ)
inputs_of c = reads_in (row_of c).slots

-- the files that are written, in the order of the words
abbrev pub writes_in : List Slot → List (List ℕ)
writes_in [] = []
writes_in (Writes name ∷ slots) = name ∷ writes_in slots
writes_in (other ∷ slots) = writes_in slots

abbrev pub outputs_of : Call → List (List ℕ)
outputs_of c = writes_in (row_of c).slots

-- a search is allowed from 1 to 5,000 nodes, a night is made of a number up to 2,147,483,647 with at most 160 units,
-- and a minute is one of two days
abbrev pub AreInRange : List Slot → Type 0
AreInRange [] = Unit {0}
AreInRange (Nodes m ∷ slots) = (1 ≤ m) × (m ≤ 5000) × AreInRange slots
AreInRange (Number n ∷ slots) = (n ≤ 2147483647) × AreInRange slots
AreInRange (Units u ∷ slots) = (u ≤ 160) × AreInRange slots
AreInRange (Minute m ∷ slots) = (m < 2880) × AreInRange slots
AreInRange (file ∷ slots) = AreInRange slots

-- its files have names that can be used, and its numbers are in their ranges
abbrev pub IsUsable : Call → Type 0
IsUsable c = AreNames (inputs_of c ++ outputs_of c) × AreInRange (row_of c).slots

-- the words are those of this command, which can be used
abbrev pub Spells : List (List ℕ) → Call → Type 0
Spells words c = (words ≡ words_of c) × IsUsable c
