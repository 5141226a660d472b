-- No refusal has number 0.
use Rattle.std.proofs.Common.{◌≡◌, false, eqb, refl}
use Rattle.refusal.specs.declared.Refusal.{Refusal}
use Rattle.refusal.specs.declared.Refusal.TheVariants.{Clock, Level, Words, SmallOut, Setting, CellNumber, SmallMemory, Slot, Closing, NoMember, NotLanded, Full, NoSpace, Total, Figures, Marks, Eight, Long}
use Rattle.refusal.specs.Numbers.{number_of}

pub is_number : (r : Refusal) → eqb (number_of r) 0 ≡ false
is_number Clock = refl
is_number Level = refl
is_number Words = refl
is_number SmallOut = refl
is_number Setting = refl
is_number CellNumber = refl
is_number SmallMemory = refl
is_number Slot = refl
is_number Closing = refl
is_number NoMember = refl
is_number NotLanded = refl
is_number Full = refl
is_number NoSpace = refl
is_number Total = refl
is_number Figures = refl
is_number Marks = refl
is_number Eight = refl
is_number Long = refl
