-- The refusal that has a number of document 01; for a number that none has, the last one.
use Rattle.std.specs.Prelude.{ℕ, cond, eqb}
use Rattle.refusal.specs.declared.Refusal.{Refusal}
use Rattle.refusal.specs.declared.Refusal.TheVariants.{Clock, Level, Words, SmallOut, Setting, CellNumber, SmallMemory, Slot, Closing, NoMember, NotLanded, Full, NoSpace, Total, Figures, Marks, Eight, Long}

abbrev pub low_refusal : ℕ → Refusal → Refusal
low_refusal n rest =
    cond (eqb n 1) Clock (cond (eqb n 2) Level (cond (eqb n 3) Words (cond (eqb n 4) SmallOut (cond (eqb n 5) Setting
    (cond (eqb n 6) CellNumber (cond (eqb n 7) SmallMemory (cond (eqb n 8) Slot (cond (eqb n 9) Closing rest))))))))

abbrev pub refusal_of : ℕ → Refusal
refusal_of n =
    low_refusal n (cond (eqb n 21) NoMember (cond (eqb n 22) NotLanded (cond (eqb n 23) Full (cond (eqb n 24) NoSpace (cond (eqb n 25) Total
    (cond (eqb n 26) Figures (cond (eqb n 27) Marks (cond (eqb n 28) Eight Long))))))))
