-- Document 01, 'Edges, P proved': each case as what a definition gives and what the document says, as a list of numbers: one number, no number for none, or the
-- seven bytes of a call.
use Rattle.std.specs.Prelude.{List, [], ◌∷◌, ℕ, replicate, Option, Some, None}
use Rattle.wire.specs.Call.{packed, unpacked, pad}
use Rattle.wire.specs.Numbers.{widened}
use Rattle.bursts.specs.Bursts.{poll_extra}
use Rattle.rx.specs.Ending.{ack_extra}

pub record Case : Type 0 where
  pub gives : List ℕ
  pub says : List ℕ

abbrev pub case : List ℕ → List ℕ → Case
case gives says = record { gives = gives; says = says }

abbrev pub one : ℕ → List ℕ
one n = n ∷ []

abbrev pub one_or_none : Option ℕ → List ℕ
one_or_none None = []
one_or_none (Some n) = one n

-- P calls: empty, `0`, `A`, seven `/`, and 114415582592 reads empty, which is seven spaces; P numbers: next 200, s 10 and so on; P extra
unfoldable pub cases : List Case
cases =
    case (one (packed (pad 7 []))) (one 0)
    ∷ case (one (packed (pad 7 (48 ∷ [])))) (one 3010936384)
    ∷ case (one (packed (pad 7 (65 ∷ [])))) (one 33120300224)
    ∷ case (one (packed (replicate 7 47))) (one 114415582591)
    ∷ case (unpacked 114415582592) (replicate 7 32)
    ∷ case (one_or_none (widened 10 200)) (one 266)
    ∷ case (one_or_none (widened 171 300)) (one 427)
    ∷ case (one_or_none (widened 172 300)) (one 172)
    ∷ case (one_or_none (widened 128 0)) []
    ∷ case (one (poll_extra 5 63 3 2)) (one 2245)
    ∷ case (one (poll_extra 5 9 3 2)) (one 12869)
    ∷ case (one (ack_extra 5 2 5)) (one 1413)
    ∷ []
