-- `reroute` of ncs.rs; and what `relayer_for` and `relay_src_for` go by: who could relay, who needs a relayer, whom each has tried.
use Rattle.std.specs.Prelude.{ℕ, Bool, not, cond, ◌&&◌, ◌||◌, List, [], ◌∷◌, ◌++◌, eqb, leb, get_or, set, replicate, Float}
use Rattle.std.specs.Float.{nan, binary32}
use Rattle.std.specs.Float.Ieee.{add}
use Rattle.bits.specs.Loop.{fold}
use Rattle.bits.specs.Mask.{has_bit, without_bit}
use Rattle.level.specs.declared.Level.{Level}
use Rattle.level.specs.declared.Level.TheVariants.{Unheard, Decibels}
use Rattle.out.specs.Encode.{event_word}
use Rattle.recent.specs.declared.Recent.{Recent}
use Rattle.recent.specs.Readings.{empty}
use Rattle.roster.specs.declared.Member.{Member}
use Rattle.roster.specs.Members.{promoted_at, rerouted_to}
use Rattle.roster.specs.Relays.{could_relay, needs_relay, best_high, relay_src_for, promotable_at, is_leaf}
use Rattle.net.specs.declared.Station.{Station}
use Rattle.net.specs.State.{with_members, with_totals, member_at, also_news, tallied, emptied}
use Rattle.net.specs.Net.{is_member, Said, said}
use Rattle.bursts.specs.declared.reroute.Surveyed.{Surveyed}
use Rattle.bursts.specs.Rows.{member_in, mask_where}

-- ---- what one look over the members finds

abbrev pub able_at : Station → ℕ → Bool
able_at s i = has_bit s.used i && could_relay (member_in s i)

abbrev pub able_of : Station → ℕ
able_of s = mask_where (able_at s)

abbrev pub needs_at : Station → ℕ → Bool
needs_at s i = has_bit s.used i && needs_relay (member_in s i)

abbrev pub needs_of : Station → ℕ
needs_of s = mask_where (needs_at s)

-- the relayers tried for each slot
abbrev pub tried_at : Station → ℕ → List ℕ → List ℕ
tried_at s i ts = set ts i (member_in s i).tried

unfoldable pub tried_of : Station → List ℕ
tried_of s = fold (tried_at s) 62 0 (replicate 62 0)

-- `relay_src_for(slot)`; 63 for none
unfoldable pub source_for : Station → ℕ → ℕ
source_for s slot = relay_src_for s.hears (needs_of s) (able_of s) (tried_of s) slot s.settings.relaysnr

abbrev pub survey_of : Station → Surveyed
survey_of s = record { able = able_of s; needs = needs_of s; tried = tried_of s }

-- a boat that changes its relay starts anew with no missed poll: the total of silent boats goes with it
abbrev pub with_member_in : Station → ℕ → Member → Station
with_member_in s i k = with_totals (with_members s (set s.members i k)) (tallied s (member_in s i) k)

-- ---- promotion, for all at once

-- thresholds[0] + margin
abbrev pub floor_of : Station → Float
floor_of s = add binary32 (get_or s.settings.thresholds 0 nan) s.settings.margin

-- a member that was heard directly at a level, if any; that level is its up level now, and no reading made it (U13)
abbrev pub promoted_by : Level → Member → Member
promoted_by Unheard m = m
promoted_by (Decibels snr) m = promoted_at m snr

abbrev pub recent_by : Level → Recent → Recent
recent_by Unheard r = r
recent_by (Decibels snr) r = empty

abbrev pub promote_with : Level → ℕ → Said → Said
promote_with Unheard i x = x
promote_with (Decibels snr) i x =
    said (also_news (emptied (with_member_in x.station i (promoted_at (member_in x.station i) snr)) i) i)
    (x.words ++ (event_word 5 i 63 ∷ []))

unfoldable pub promote_at : Float → ℕ → Said → Said
promote_at floor i x = promote_with (promotable_at (has_bit x.station.used i) (member_in x.station i) floor) i x

unfoldable pub promote_all : Station → Said
promote_all s = fold (promote_at (floor_of s)) 62 0 (said s [])

-- ---- the leaves by slot, each seeing the earlier ones' changes

-- leaves, and members never heard directly that keep missing their polls
abbrev pub leaf_at : Station → ℕ → Bool
leaf_at s i = has_bit s.used i && is_leaf (member_in s i) s.settings.misslimit

abbrev pub leaves_of : Station → ℕ
leaves_of s = mask_where (leaf_at s)

-- the relay is no member or misses too often, or the leaf does
abbrev pub is_down : ℕ → Member → Member → ℕ → Bool
is_down used m p limit = not (is_member used m.via) || leb limit p.missed || leb limit m.missed

-- the best that could relay for slot c as the roster now is, c itself and its relay apart; 63 for nobody
abbrev pub relay_from : List ℕ → ℕ → ℕ → ℕ → Float → ℕ
relay_from hears able via c floor = best_high hears (without_bit (without_bit able c) via) c floor

abbrev pub new_relay : Station → ℕ → ℕ
new_relay s c = relay_from s.hears (able_of s) (member_in s c).via c s.settings.relaysnr

abbrev pub move_to : ℕ → ℕ → Said → Said
move_to r c x =
    cond (eqb r 63) x
    (said (also_news (with_member_in x.station c (rerouted_to (member_in x.station c) r)) c)
    (x.words ++ (event_word 5 c r ∷ [])))

-- slot c is one of the leaves, and to be moved
abbrev pub must_move : ℕ → Station → ℕ → Bool
must_move leaves s c =
    has_bit leaves c && is_down s.used (member_in s c) (member_at s (member_in s c).via) s.settings.misslimit

unfoldable pub move_at : ℕ → ℕ → Said → Said
move_at leaves c x = cond (must_move leaves x.station c) (move_to (new_relay x.station c) c x) x

-- promotion first; the leaves are those after it
unfoldable pub move_all : Said → Said
move_all x = fold (move_at (leaves_of x.station)) 62 0 x

unfoldable pub reroute_of : Station → Said
reroute_of s = move_all (promote_all s)
