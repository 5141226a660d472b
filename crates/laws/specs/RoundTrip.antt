-- There and back (U3 of document 02): 'After calls from a start, where no `hears` row names the slot it takes, admitting an unknown call without a relay and signing
-- it off gives the former station back, the event apart.' `RoundTrip`, the last definition, is that statement over every list of calls.
use Rattle.std.specs.Prelude.{ℕ, ◌<◌, ◌≡◌, List, [], ◌∷◌, Float, length}
use Rattle.wire.specs.Call.{unpack_call}
use Rattle.out.specs.Encode.{event_word}
use Rattle.roster.specs.Relays.{heard_at}
use Rattle.net.specs.declared.Station.{Station}
use Rattle.admit.specs.declared.Seat.TheVariants.{Free}
use Rattle.admit.specs.Admission.{seat_of}
use Rattle.config.specs.declared.Given.{Given}
use Rattle.station.specs.Entries.{start_refusal}
use Rattle.promise.specs.Promise.{Net, Call, admission, signing, outcome, step, after, started}

-- no row of `hears` names the slot: every row has 63, nothing, for it
abbrev pub Unnamed : Station → ℕ → Type 0
Unnamed s slot = (r : ℕ) → r < 62 → heard_at s.hears r slot ≡ 63

-- a direct admission without a relay, whose relay is 63, and the sign-off of the slot that it took: the admission says event 1 and nothing else, the sign-off is
-- not refused and says nothing, and the net is what it was
pub record ThereAndBack (n : Net) (joins leaves : Call) (slot : ℕ) : Type 0 where
  pub event : (outcome joins n).words ≡ event_word 1 slot 63 ∷ []
  pub taken : (outcome leaves (step joins n)).refusal ≡ 0
  pub silent : (outcome leaves (step joins n)).words ≡ []
  pub back : after (joins ∷ leaves ∷ []) n ≡ n

-- a sign-off 'strikes it from .. every `hears` row': behind one that is not refused, after any calls, no row names the slot
abbrev pub StruckRows : Type 0
StruckRows =
    (s : Station) (g : Given) (store : List ℕ) → start_refusal g (length store) ≡ 0 → (cs : List Call) (slot : ℕ)
    → (outcome (signing slot) (after cs (started s g store))).refusal ≡ 0 → Unnamed (step (signing slot) (after cs (started s g store))).station slot

-- from a start that is not refused, after any calls: an unknown call that would take the slot, and an admission that is not refused
abbrev pub RoundTrip : Type 0
RoundTrip =
    (s : Station) (g : Given) (store : List ℕ) → start_refusal g (length store) ≡ 0 → (cs : List Call) (packed : List ℕ) (now : Float) (room slot : ℕ)
    → seat_of (after cs (started s g store)).station (unpack_call packed) ≡ Free slot
    → Unnamed (after cs (started s g store)).station slot
    → (outcome (admission packed 63 now room) (after cs (started s g store))).refusal ≡ 0
    → ThereAndBack (after cs (started s g store)) (admission packed 63 now room) (signing slot) slot
