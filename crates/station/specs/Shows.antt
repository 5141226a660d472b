-- `roster` of ncs.rs: what is shown of the boat in a slot, and whom it hears.
use Rattle.std.specs.Prelude.{ℕ, cond, ◌&&◌, ltb}
use Rattle.level.specs.declared.Level.{Level}
use Rattle.level.specs.declared.Level.TheVariants.{Unheard}
use Rattle.wire.specs.Fields.{snr_from_q}
use Rattle.roster.specs.Relays.{heard_at}
use Rattle.net.specs.declared.Station.{Station}
use Rattle.net.specs.State.{member_at}
use Rattle.net.specs.Net.{is_member, cap_for}
use Rattle.station.specs.declared.show.Entry.{Entry}

-- `here` is false where the slot has no member
unfoldable pub entry_of : Station → ℕ → Entry
entry_of s slot =
    record { here = is_member s.used slot; call = (member_at s slot).call; via = (member_at s slot).via; snrup = (member_at s slot).snrup; snrdown = (member_at s slot).snrdown; cap = cap_for s.settings (member_at s slot); lastheard = (member_at s slot).lastheard; missed = (member_at s slot).missed; bytesin = (member_at s slot).bytesin; hascaps = (member_at s slot).hascaps; caps = (member_at s slot).caps; hasversion = (member_at s slot).hasversion; version = (member_at s slot).version }

-- the level at which the boat in slot r hears the one in slot a
unfoldable pub hears_of : Station → ℕ → ℕ → Level
hears_of s r a =
    cond (is_member s.used r && is_member s.used a && ltb (heard_at s.hears r a) 63) (snr_from_q (heard_at s.hears r a)) Unheard
