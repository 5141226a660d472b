-- `Member` of ncs.rs: what the control station knows of a boat, and what each occasion changes of it.
use Rattle.std.specs.Prelude.{ℕ, ◌+◌, ◌-◌, Bool, true, false, not, cond, ◌&&◌, ◌||◌, List, [], eqb, ltb, leb, Float, Option, Some, None, is_some}
use Rattle.bits.specs.Stop.{stop}
use Rattle.level.specs.declared.Level.{Level}
use Rattle.level.specs.declared.Level.TheVariants.{Unheard, Decibels}
use Rattle.level.specs.Levels.{smoothed, or_else}
use Rattle.wire.specs.Fields.{caps_of, relays}
use Rattle.stream.specs.declared.window.Window.{Window}
use Rattle.stream.specs.Window.{fresh_of, bitmap_of, holes_of, land_of, bar_of}
use Rattle.roster.specs.declared.Member.{Member}

-- What an element past an array's end is taken for: 0, false, [] and the first variant, in each field
abbrev pub no_member : Member
no_member =
    record { call = []; via = 0; hascaps = false; caps = 0; hasversion = false; version = 0; burst = 0; toldbits = 0; markbits = 0; missed = 0; toldnext = 0; marknext = 0; bytesin = 0; snrup = Unheard; snrdown = Unheard; direct = Unheard; lastheard = None; up = fresh_of; tried = 0 }

-- ---- one group of fields written

abbrev pub with_links : Member → Level → Level → Level → Option Float → Member
with_links m snrup snrdown direct lastheard =
    record { call = m.call; via = m.via; hascaps = m.hascaps; caps = m.caps; hasversion = m.hasversion; version = m.version; burst = m.burst; toldbits = m.toldbits; markbits = m.markbits; missed = m.missed; toldnext = m.toldnext; marknext = m.marknext; bytesin = m.bytesin; snrup = snrup; snrdown = snrdown; direct = direct; lastheard = lastheard; up = m.up; tried = m.tried }

abbrev pub with_via : Member → ℕ → Member
with_via m via =
    record { call = m.call; via = via; hascaps = m.hascaps; caps = m.caps; hasversion = m.hasversion; version = m.version; burst = m.burst; toldbits = m.toldbits; markbits = m.markbits; missed = m.missed; toldnext = m.toldnext; marknext = m.marknext; bytesin = m.bytesin; snrup = m.snrup; snrdown = m.snrdown; direct = m.direct; lastheard = m.lastheard; up = m.up; tried = m.tried }

abbrev pub with_missed : Member → ℕ → Member
with_missed m n =
    record { call = m.call; via = m.via; hascaps = m.hascaps; caps = m.caps; hasversion = m.hasversion; version = m.version; burst = m.burst; toldbits = m.toldbits; markbits = m.markbits; missed = n; toldnext = m.toldnext; marknext = m.marknext; bytesin = m.bytesin; snrup = m.snrup; snrdown = m.snrdown; direct = m.direct; lastheard = m.lastheard; up = m.up; tried = m.tried }

abbrev pub with_burst : Member → ℕ → Member
with_burst m n =
    record { call = m.call; via = m.via; hascaps = m.hascaps; caps = m.caps; hasversion = m.hasversion; version = m.version; burst = n; toldbits = m.toldbits; markbits = m.markbits; missed = m.missed; toldnext = m.toldnext; marknext = m.marknext; bytesin = m.bytesin; snrup = m.snrup; snrdown = m.snrdown; direct = m.direct; lastheard = m.lastheard; up = m.up; tried = m.tried }

abbrev pub with_mark : Member → ℕ → ℕ → ℕ → Member
with_mark m next marks tried =
    record { call = m.call; via = m.via; hascaps = m.hascaps; caps = m.caps; hasversion = m.hasversion; version = m.version; burst = m.burst; toldbits = m.toldbits; markbits = marks; missed = m.missed; toldnext = m.toldnext; marknext = next; bytesin = m.bytesin; snrup = m.snrup; snrdown = m.snrdown; direct = m.direct; lastheard = m.lastheard; up = m.up; tried = tried }

abbrev pub with_told_at : Member → ℕ → ℕ → Member
with_told_at m next marks =
    record { call = m.call; via = m.via; hascaps = m.hascaps; caps = m.caps; hasversion = m.hasversion; version = m.version; burst = m.burst; toldbits = marks; markbits = m.markbits; missed = m.missed; toldnext = next; marknext = m.marknext; bytesin = m.bytesin; snrup = m.snrup; snrdown = m.snrdown; direct = m.direct; lastheard = m.lastheard; up = m.up; tried = m.tried }

abbrev pub with_up : Member → Window → ℕ → Member
with_up m w bytes =
    record { call = m.call; via = m.via; hascaps = m.hascaps; caps = m.caps; hasversion = m.hasversion; version = m.version; burst = m.burst; toldbits = m.toldbits; markbits = m.markbits; missed = m.missed; toldnext = m.toldnext; marknext = m.marknext; bytesin = bytes; snrup = m.snrup; snrdown = m.snrdown; direct = m.direct; lastheard = m.lastheard; up = w; tried = m.tried }

abbrev pub known_caps : Member → ℕ → Member
known_caps m caps =
    record { call = m.call; via = m.via; hascaps = true; caps = caps; hasversion = m.hasversion; version = m.version; burst = m.burst; toldbits = m.toldbits; markbits = m.markbits; missed = m.missed; toldnext = m.toldnext; marknext = m.marknext; bytesin = m.bytesin; snrup = m.snrup; snrdown = m.snrdown; direct = m.direct; lastheard = m.lastheard; up = m.up; tried = m.tried }

abbrev pub known_version : Member → ℕ → Member
known_version m version =
    record { call = m.call; via = m.via; hascaps = m.hascaps; caps = m.caps; hasversion = true; version = version; burst = m.burst; toldbits = m.toldbits; markbits = m.markbits; missed = m.missed; toldnext = m.toldnext; marknext = m.marknext; bytesin = m.bytesin; snrup = m.snrup; snrdown = m.snrdown; direct = m.direct; lastheard = m.lastheard; up = m.up; tried = m.tried }

-- ---- occasions

-- `Member::new`; a boat with no relay was heard now, one with a relay never
abbrev pub heard_by : ℕ → Float → Option Float
heard_by via now = cond (eqb via 63) (Some now) None

abbrev pub new_member : List ℕ → ℕ → Float → Member
new_member call via now =
    record { call = call; via = via; hascaps = false; caps = 0; hasversion = false; version = 0; burst = 0; toldbits = 0; markbits = 0; missed = 0; toldnext = 0; marknext = 0; bytesin = 0; snrup = Unheard; snrdown = Unheard; direct = Unheard; lastheard = heard_by via now; up = fresh_of; tried = 0 }

abbrev pub with_heard : Member → Float → Member
with_heard m now = with_links m m.snrup m.snrdown m.direct (Some now)

abbrev pub with_down : Member → Level → Member
with_down m snrdown = with_links m m.snrup snrdown m.direct m.lastheard

abbrev pub with_direct : Member → Float → Member
with_direct m snr = with_links m m.snrup m.snrdown (Decibels snr) m.lastheard

-- its own burst came in at snr: the level up is smoothed, the boat hears us at snrdown
abbrev pub received_at : Member → Float → Level → Float → Member
received_at m snr snrdown now = with_links m (Decibels (smoothed m.snrup snr)) snrdown m.direct (Some now)

-- a relay reached it, at snrup
abbrev pub reached_at : Member → Level → Float → Member
reached_at m snrup now = with_missed (with_links m snrup m.snrdown m.direct (Some now)) 0

-- capability and version, where a check-in has them
abbrev pub with_caps : Member → Option ℕ → Member
with_caps m None = m
with_caps m (Some caps) = known_caps m (caps_of caps)

abbrev pub with_version : Member → Option ℕ → Member
with_version m None = m
with_version m (Some version) = known_version m version

-- a leaf heard well directly becomes a direct member
abbrev pub promoted_at : Member → Float → Member
promoted_at m snr = with_missed (with_via (with_links m (Decibels snr) m.snrdown Unheard m.lastheard) 63) 0

abbrev pub rerouted_to : Member → ℕ → Member
rerouted_to m via = with_missed (with_via m via) 0

abbrev pub missed_one : Member → Member
missed_one m = with_missed m (stop (m.missed + 1))

-- a message of n bytes has landed
abbrev pub landed_one : Member → ℕ → ℕ → Member
landed_one m number n = with_up m (land_of m.up number) (stop (m.bytesin + n))

-- its message of this number claims too much
abbrev pub barred_one : Member → ℕ → Member
barred_one m number = with_up m (bar_of m.up number) m.bytesin

-- what a received list would say of it is noted
abbrev pub told_now : Member → Member
told_now m = with_told_at m m.up.next (bitmap_of m.up)

-- ---- questions

-- `held != m.rx_told || holes`
abbrev pub is_news : Member → Bool
is_news m = not (eqb m.up.next m.toldnext) || not (eqb (bitmap_of m.up) m.toldbits) || holes_of m.up

-- unknown counts as willing
abbrev pub is_willing : Member → Bool
is_willing m = not m.hascaps || relays m.caps

-- `m.snr_down.or(m.snr_up)`
abbrev pub down_or_up : Member → Level
down_or_up m = or_else m.snrdown m.snrup

-- `active()`: a member that misses few polls and was heard
abbrev pub active : Member → ℕ → Bool
active m limit = ltb m.missed limit && is_some m.lastheard

-- `direct()`: an active member that is polled itself
abbrev pub is_direct : Member → ℕ → Bool
is_direct m limit = active m limit && eqb m.via 63

-- ---- silent boats

-- at or above the miss limit
abbrev pub silent_at : ℕ → Member → Bool
silent_at limit m = leb limit m.missed

-- the number n of silent boats, when one boat changes: whether it was silent before, and is after; it stops at 4,294,967,295, and 0 stays 0
unfoldable pub tally : ℕ → Bool → Bool → ℕ
tally n before after = cond before (cond after n (n - 1)) (cond after (stop (n + 1)) n)
