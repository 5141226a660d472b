-- What ends or is drawn up in a call, as the definitions have it; a sign-off apart. Assumes nothing.
use Rattle.std.specs.Prelude.{Option, None}
use mathlib.Core.Path.{◌≡◌, refl}
use mathlib.Core.List.{◌++◌}
use Prim.Native.Nat.{ℕ}
use Rattle.words.specs.Words.{parse}
use Rattle.next.specs.Next.{ncs_next}
use Rattle.rx.specs.Reception.{ncs_rx}
use Rattle.promise.specs.Promise.{lent_to, Net, of_burst, Call, admission, reception, decision, sending, closing, reading, freeing, charging, signing, asking, posting, result, over_if, drew_if}

abbrev pub over_of : Call → Net → Option ℕ
over_of (admission packed relay now room) n = None
over_of (reception words snr now lent room numbers) n = None
over_of (decision now queue room) n = (ncs_next n.station now queue).over
over_of (posting slot message queue) n = None
over_of (sending now) n = None
over_of (closing count) n = None
over_of (reading cell lent) n = None
over_of (freeing cell) n = None
over_of (charging figures) n = None
over_of (signing slot) n = None
over_of (asking slot) n = None

abbrev pub drew_of : Call → Net → Option ℕ
drew_of (admission packed relay now room) n = None
drew_of (reception words snr now lent room numbers) n = None
drew_of (decision now queue room) n = (ncs_next n.station now queue).drew
drew_of (posting slot message queue) n = None
drew_of (sending now) n = None
drew_of (closing count) n = None
drew_of (reading cell lent) n = None
drew_of (freeing cell) n = None
drew_of (charging figures) n = None
drew_of (signing slot) n = None
drew_of (asking slot) n = None

abbrev pub behind_of : Call → Net → Option ℕ
behind_of (admission packed relay now room) n = None
behind_of (reception words snr now lent room numbers) n = of_burst (parse words) None (λ b. (ncs_rx n.station b snr now (lent_to lent n.store)).over)
behind_of (decision now queue room) n = None
behind_of (posting slot message queue) n = None
behind_of (sending now) n = None
behind_of (closing count) n = None
behind_of (reading cell lent) n = None
behind_of (freeing cell) n = None
behind_of (charging figures) n = None
behind_of (signing slot) n = None
behind_of (asking slot) n = None

pub events_are : (c : Call) (n : Net) → ((slot : ℕ) → c ≡ signing slot → ⊥)
    → ((result c n).before ≡ over_if (over_of c n) ++ drew_if (drew_of c n)) × ((result c n).behind ≡ over_if (behind_of c n))
unfolding result
events_are (admission packed relay now room) n f = (refl, refl)
events_are (reception words snr now lent room numbers) n f = (refl, refl)
events_are (decision now queue room) n f = (refl, refl)
events_are (posting slot message queue) n f = (refl, refl)
events_are (sending now) n f = (refl, refl)
events_are (closing count) n f = (refl, refl)
events_are (reading cell lent) n f = (refl, refl)
events_are (freeing cell) n f = (refl, refl)
events_are (charging figures) n f = (refl, refl)
events_are (signing slot) n f = absurd (f slot refl)
events_are (asking slot) n f = (refl, refl)
