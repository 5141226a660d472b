-- What leaves the waiting and the list alone and sends no burst: admission, and the frames of a reception. Assumes nothing.
use mathlib.Core.Path.{◌≡◌, refl, ◌∙◌}
use Prim.Native.Nat.{ℕ}
use mathlib.Core.List.{List, [], ◌∷◌}
use lib.Ieee.{Float}
use Rattle.words.specs.Words.{Heard}
use Rattle.net.specs.declared.Station.{Station}
use Rattle.net.specs.Net.{Said, said}
use Rattle.admit.specs.Admission.{admit_by}
use Rattle.admit.specs.declared.Seat.{Seat}
use Rattle.admit.specs.declared.Seat.TheVariants.{Known, Free, Full}
use Rattle.frames.specs.declared.Air.{Air}
use Rattle.frames.specs.Frames.{read_frames}
use Rattle.rx.specs.Reception.{first_reading}
use Rattle.promise.proofs.TurnsWords.{Mute, mute_none, mute_both, mute_one}
use Rattle.promise.proofs.Walk.{Allowed, Change, others, turned, over, hears, written, counted, promoted, moved, entered, piece, landed, freed, barred, signs_off, start, chain_keeps, readings, queued, posted}
use Rattle.promise.proofs.WalkRx.{frames_walk}
use Rattle.promise.proofs.WalkWords.{Events, admit_events_lem, frames_events}

-- the waiting, the list and the settings are those of s, and no burst is sent
pub record Calm (s : Station) (x : Said) : Type 0 where
  pub wait : x.station.wait ≡ s.wait
  pub list : x.station.round.list ≡ s.round.list
  pub settings : x.station.settings ≡ s.settings
  pub quiet : Mute x.words

pub calm_start : (s : Station) → Calm s (said s [])
calm_start s = record { wait = refl; list = refl; settings = refl; quiet = mute_none }

-- ### The changes

abbrev untimed : Allowed
untimed = record { level = λ x. Unit {0}; turns = ⊥; cells = Unit {0}; host = Unit {0} }

abbrev Still : Station → Station → Type 0
Still s t = (t.wait ≡ s.wait) × (t.round.list ≡ s.round.list) × (t.settings ≡ s.settings)

change_still : (s₀ s t : Station) → Change untimed s t → Still s₀ s → Still s₀ t
change_still s₀ s t (others r n e m q) h = (h.0, e ∙ h.1, h.2)
change_still s₀ s t (turned a w r n y m q) h = absurd a
change_still s₀ s t (over a r e here) h = absurd a
change_still s₀ s t (hears r c q l e) h = h
change_still s₀ s t (written i m l here f) h = h
change_still s₀ s t (counted i m n l here f) h = h
change_still s₀ s t (promoted i snr l here d) h = h
change_still s₀ s t (moved c r l here there able n) h = h
change_still s₀ s t (readings i r l here) h = h
change_still s₀ s t (entered i call v now l free r) h = h
change_still s₀ s t (queued i q l here f) h = h
change_still s₀ s t (posted a i n l here e) h = h
change_still s₀ s t (piece a store slot field p m here f l d) h = h
change_still s₀ s t (landed a store slot field p m here f l d) h = h
change_still s₀ s t (freed a cell) h = h
change_still s₀ s t (barred a store slot field p here b) h = h
change_still s₀ s t (signs_off a b c slot here) h = absurd a

pub events_mute : {M : Type 0} {n : ℕ} {ws : List ℕ} → Events M n ws → Mute ws
events_mute Events.none = mute_none
events_mute (Events.more {w} {ws} l m h e) = mute_both (w ∷ []) ws (mute_one w l) (events_mute e)

-- ### Admission, and the frames of a reception

pub admit_calm : (seat : Seat) (s : Station) (call : List ℕ) (via : ℕ) (now : Float) → Calm s (admit_by seat s call via now)
admit_calm (Known i) s call via now = record { wait = refl; list = refl; settings = refl; quiet = mute_none }
admit_calm (Free i) s call via now = record { wait = refl; list = refl; settings = refl; quiet = events_mute (admit_events_lem ⊥ (Free i) s call via now) }
admit_calm Full s call via now = calm_start s

pub frames_calm : (a : Air) (fs : List Heard) (s : Station) (store : List ℕ)
    → Calm s (said (read_frames a fs (first_reading s store)).station (read_frames a fs (first_reading s store)).words)
frames_calm a fs s store =
    let x = first_reading s store in
    let k = chain_keeps (Still s) (change_still s) (frames_walk untimed a tt tt s fs x start) (refl, refl, refl) in
    record { wait = k.0; list = k.1; settings = k.2; quiet = events_mute (frames_events (Unit {0}) a tt fs 0 x Events.none) }
