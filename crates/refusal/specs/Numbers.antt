-- The numbers of refusals.
use Rattle.std.specs.Prelude.{ℕ, Result, Ok, Err}
use Rattle.refusal.specs.declared.Refusal.{Refusal}
use Rattle.refusal.specs.declared.Refusal.TheVariants.{Clock, Level, Words, SmallOut, Setting, CellNumber, SmallMemory, Slot, Closing, NoMember, NotLanded, Full, NoSpace, Total, Figures, Marks, Eight, Long}

-- first what is found in what came in, then what is found in what is held
abbrev pub number_of : Refusal → ℕ
number_of Clock = 1
number_of Level = 2
number_of Words = 3
number_of SmallOut = 4
number_of Setting = 5
number_of CellNumber = 6
number_of SmallMemory = 7
number_of Slot = 8
number_of Closing = 9
number_of NoMember = 21
number_of NotLanded = 22
number_of Full = 23
number_of NoSpace = 24
number_of Total = 25
number_of Figures = 26
number_of Marks = 27
number_of Eight = 28
number_of Long = 29

-- of an answer: its refusal's number, 0 for none
abbrev pub number_in : {A : Type 0} → Result A Refusal → ℕ
number_in (Ok x) = 0
number_in (Err r) = number_of r
