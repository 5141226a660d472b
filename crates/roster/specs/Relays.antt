-- `reroute`, `needs_relay`, `relayer_for`, `relay_src_for` and `turn_over` of ncs.rs: the choices of relays.
-- Slots that are able to relay, tried, or in need of a relayer are masks. `hears` has 62 level fields for each slot: what slot r hears of slot a stands at
-- r * 62 + a, 0 to 62, or 63 for nothing. A level field rises with its decibels (laws `field_le` and `field_lt` of wire), so the better of two is the one with the greater field.
use Rattle.std.specs.Prelude.{ℕ, ◌+◌, ◌*◌, Bool, true, false, not, cond, ◌&&◌, ◌||◌, List, eqb, ltb, leb, get_or, Float, Option, Some, None, is_some}
use Rattle.std.specs.Float.Ieee.{le}
use Rattle.bits.specs.Loop.{first, fold, any}
use Rattle.bits.specs.Mask.{has_bit, with_bit, without_bit, minus_of}
use Rattle.level.specs.declared.Level.{Level}
use Rattle.level.specs.declared.Level.TheVariants.{Unheard, Decibels}
use Rattle.level.specs.Levels.{is_heard}
use Rattle.wire.specs.Fields.{field_db}
use Rattle.stream.specs.Window.{bitmap_of, holes_of}
use Rattle.roster.specs.declared.Member.{Member}
use Rattle.roster.specs.declared.relay.Pick.{Pick}
use Rattle.roster.specs.Members.{is_willing, with_mark}

-- `m.via.is_none() && m.missed == 0 && m.last_heard.is_some() && m.willing()`
abbrev pub could_relay : Member → Bool
could_relay m = eqb m.via 63 && eqb m.missed 0 && is_some m.lastheard && is_willing m

-- `needs_relay`: it missed its poll, or messages arrived past a hole
abbrev pub needs_relay : Member → Bool
needs_relay m = eqb m.via 63 && (ltb 0 m.missed || holes_of m.up)

-- the level field at which slot r hears slot a; 63 where either is no slot
unfoldable pub heard_at : List ℕ → ℕ → ℕ → ℕ
heard_at hears r a = cond (ltb r 62 && ltb a 62) (get_or hears (r * 62 + a) 0) 63

-- heard at all, and at floor or better
abbrev pub loud_enough : ℕ → Float → Bool
loud_enough q floor = ltb q 63 && le floor (field_db q)

-- ---- the best of several

abbrev pub pick_of : ℕ → ℕ → Pick
pick_of slot level = record { slot = slot; level = level }

-- its slot; 63 for nobody
abbrev pub picked_slot : Option Pick → ℕ
picked_slot None = 63
picked_slot (Some p) = p.slot

-- of equal levels the one looked at first stays (a stable sort, best first), or with `last` the one looked at last (`max_by`)
abbrev pub wins : Bool → Option Pick → ℕ → Bool
wins last None q = true
wins last (Some p) q = cond last (leb p.level q) (ltb p.level q)

abbrev pub better : Bool → Option Pick → Bool → ℕ → ℕ → Option Pick
better last p ok slot q = cond (ok && wins last p q) (Some (pick_of slot q)) p

-- slot i of `able` hears a at floor or better
abbrev pub candidate : List ℕ → ℕ → ℕ → Float → ℕ → Bool
candidate hears able a floor i = has_bit able i && loud_enough (heard_at hears i a) floor

abbrev pub best_step : Bool → List ℕ → ℕ → ℕ → Float → ℕ → Option Pick → Option Pick
best_step last hears able a floor i p = better last p (candidate hears able a floor i) i (heard_at hears i a)

-- the slot of `able` that hears a best; 63 for nobody
abbrev pub best_of : Bool → List ℕ → ℕ → ℕ → Float → ℕ
best_of last hears able a floor = picked_slot (fold (best_step last hears able a floor) 62 0 None)

unfoldable pub best_low : List ℕ → ℕ → ℕ → Float → ℕ
best_low hears able a floor = best_of false hears able a floor

unfoldable pub best_high : List ℕ → ℕ → ℕ → Float → ℕ
best_high hears able a floor = best_of true hears able a floor

-- `relayer_for(a)`: the best untried one, else the best of all, a itself apart
abbrev pub or_best : ℕ → ℕ → ℕ
or_best untried best = cond (eqb untried 63) best untried

unfoldable pub relayer_for : List ℕ → ℕ → ℕ → ℕ → Float → ℕ
relayer_for hears able tried a floor =
    or_best (best_low hears (minus_of (without_bit able a) tried) a floor) (best_low hears (without_bit able a) a floor)

-- `relay_src_for(slot)`: the first station in need whose relayer is `slot`; 63 for none, and where `slot` is no slot. `tried` has each station's tried relayers
abbrev pub slot_or63 : Option ℕ → ℕ
slot_or63 (Some a) = a
slot_or63 None = 63

abbrev pub is_source : List ℕ → ℕ → ℕ → List ℕ → ℕ → Float → ℕ → Bool
is_source hears left able tried slot floor a =
    has_bit left a && eqb (relayer_for hears able (get_or tried a 0) a floor) slot

unfoldable pub relay_src_for : List ℕ → ℕ → ℕ → List ℕ → ℕ → Float → ℕ
relay_src_for hears needs able tried slot floor =
    cond (ltb slot 62) (slot_or63 (first (is_source hears (without_bit needs slot) able tried slot floor) 62 0)) 63

-- ---- turn_over

-- slot r is in `left` and hears a
abbrev pub hears_it : List ℕ → ℕ → ℕ → ℕ → Bool
hears_it hears left a r = has_bit left r && ltb (heard_at hears r a) 63

-- a member of `left` hears a
unfoldable pub any_hears : List ℕ → ℕ → ℕ → Bool
any_hears hears left a = any (hears_it hears left a) 62 0

-- the relayers tried, with `slot`; none once every other member that hears a has had a go
abbrev pub tried_with : List ℕ → ℕ → ℕ → ℕ → ℕ → ℕ
tried_with hears used tried a slot =
    cond (any_hears hears (minus_of (without_bit used a) (with_bit tried slot)) a) (with_bit tried slot) 0

-- what came of a turn of `slot`, which was to forward the traffic of the member m in slot a
unfoldable pub turn_over : List ℕ → ℕ → Member → ℕ → ℕ → Member
turn_over hears used m a slot =
    cond (not (eqb m.up.next m.marknext) || not (eqb (bitmap_of m.up) m.markbits))
    (with_mark m m.up.next (bitmap_of m.up) 0)
    (with_mark m m.marknext m.markbits (tried_with hears used m.tried a slot))

-- ---- reroute's tests

-- the level at which a leaf was heard directly, if it is floor or more; Unheard where there is no leaf to be promoted
abbrev pub promote_by : Level → Bool → Float → Level
promote_by Unheard leaf floor = Unheard
promote_by (Decibels snr) leaf floor = cond (leaf && le floor snr) (Decibels snr) Unheard

abbrev pub promotable_at : Bool → Member → Float → Level
promotable_at here m floor = promote_by m.direct (here && not (eqb m.via 63)) floor

-- a leaf, or a member never heard directly that keeps missing its polls
abbrev pub is_leaf : Member → ℕ → Bool
is_leaf m limit = not (eqb m.via 63) || (leb limit m.missed && not (is_heard m.snrup))
