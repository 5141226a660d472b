-- ncs.rs: the entries of `ack_frames`, of C_TREE and of the received list, `reach_level`, and the level that the weakest of some members can hear.
-- Entries stand one after the other as bytes: an acknowledgement has six, a pair of the tree two, a list entry three.
use Rattle.std.specs.Prelude.{ℕ, ◌/◌, ◌%◌, Bool, not, cond, ◌&&◌, ◌||◌, List, [], ◌∷◌, ◌++◌, eqb, ltb, length, get_or}
use Rattle.bits.specs.Loop.{fold, any}
use Rattle.bits.specs.Mask.{has_bit, with_bit}
use Rattle.wire.specs.Call.{pack_call}
use Rattle.stream.specs.Window.{bitmap_of, holes_of}
use Rattle.roster.specs.declared.Member.{Member}
use Rattle.roster.specs.Members.{no_member, is_news, is_direct}
use Rattle.net.specs.declared.Station.{Station}
use Rattle.net.specs.declared.Settings.{Settings}
use Rattle.net.specs.State.{member_at}
use Rattle.net.specs.Net.{is_member, down_level}

-- the member in slot i, of the 62
abbrev pub member_in : Station → ℕ → Member
member_in s i = get_or s.members i no_member

-- the slots below 62 of which p holds
abbrev pub mark_if : (ℕ → Bool) → ℕ → ℕ → ℕ
mark_if p i m = cond (p i) (with_bit m i) m

unfoldable pub mask_where : (ℕ → Bool) → ℕ
mask_where p = fold (mark_if p) 62 0 0

-- one row more, where it is told
abbrev pub row_where : Bool → List ℕ → List ℕ → List ℕ
row_where told bs row = cond told (bs ++ row) bs

-- the rows of the slots below 62 of which p holds, in slot order
abbrev pub row_if : (ℕ → List ℕ → Bool) → (ℕ → List ℕ) → ℕ → List ℕ → List ℕ
row_if p row i bs = row_where (p i bs) bs (row i)

-- behind the rows bs that stand there already
unfoldable pub rows_on : (ℕ → List ℕ → Bool) → (ℕ → List ℕ) → List ℕ → List ℕ
rows_on p row bs = fold (row_if p row) 62 0 bs

abbrev pub rows_of : (ℕ → List ℕ → Bool) → (ℕ → List ℕ) → List ℕ
rows_of p row = rows_on p row []

-- slot and packed call of the members in the mask, `most` rows in all
abbrev pub ack_row : Station → ℕ → List ℕ
ack_row s i = i ∷ pack_call (member_in s i).call

abbrev pub ack_at : ℕ → ℕ → ℕ → List ℕ → Bool
ack_at mask most i bs = has_bit mask i && ltb (length bs / 6) most

abbrev pub ack_rows_on : Station → ℕ → ℕ → List ℕ → List ℕ
ack_rows_on s mask most bs = rows_on (ack_at mask most) (ack_row s) bs

abbrev pub ack_rows : Station → ℕ → ℕ → List ℕ
ack_rows s mask most = ack_rows_on s mask most []

-- a leaf and its relay, or a member that moved
abbrev pub tree_row : Station → ℕ → List ℕ
tree_row s i = i ∷ (member_in s i).via ∷ []

abbrev pub tree_at : Station → ℕ → ℕ → ℕ → List ℕ → Bool
tree_at s mask moved i bs = has_bit mask i && (not (eqb (member_in s i).via 63) || has_bit moved i)

abbrev pub tree_rows : Station → ℕ → ℕ → List ℕ
tree_rows s mask moved = rows_of (tree_at s mask moved) (tree_row s)

-- the first message that is missing, mod 256, and which of the eight after it are there
abbrev pub list_row : Station → ℕ → List ℕ
list_row s i = i ∷ ((member_in s i).up.next % 256) ∷ bitmap_of (member_in s i).up ∷ []

abbrev pub list_at : Station → ℕ → List ℕ → Bool
list_at s i bs = has_bit s.used i && is_news (member_in s i)

abbrev pub list_rows : Station → List ℕ
list_rows s = rows_of (list_at s) (list_row s)

-- some member has whole messages past one that is missing
abbrev pub hole_at : Station → ℕ → Bool
hole_at s i = has_bit s.used i && holes_of (member_in s i).up

abbrev pub any_holes : Station → Bool
any_holes s = any (hole_at s) 62 0

-- ---- levels

abbrev pub least_of : ℕ → ℕ → ℕ
least_of a b = cond (ltb a b) a b

abbrev pub least_if : ℕ → Bool → ℕ → ℕ
least_if a counts b = cond counts (least_of a b) a

-- the floor where there is none
abbrev pub or_floor : ℕ → ℕ
or_floor lev = cond (ltb lev 17) lev 0

-- `reach_level`: a member's own level, or its relay's
abbrev pub reach_by : Settings → ℕ → Member → Member → ℕ
reach_by g used m p = cond (is_member used m.via) (down_level g p) (down_level g m)

abbrev pub reach_level : Station → ℕ → ℕ
reach_level s i = reach_by s.settings s.used (member_in s i) (member_at s (member_in s i).via)

-- of the members in the mask
abbrev pub reach_at : Station → ℕ → ℕ → ℕ → ℕ
reach_at s mask i lev = least_if lev (has_bit mask i) (reach_level s i)

unfoldable pub least_reach : Station → ℕ → ℕ
least_reach s mask = or_floor (fold (reach_at s mask) 62 0 17)

-- of the members that are polled directly
abbrev pub direct_at : Station → ℕ → ℕ → ℕ
direct_at s i lev =
    least_if lev (has_bit s.used i && is_direct (member_in s i) s.settings.misslimit) (down_level s.settings (member_in s i))

unfoldable pub least_direct : Station → ℕ
least_direct s = or_floor (fold (direct_at s) 62 0 17)
