-- A slot without a boat is as at a start, and nothing names it but `hears`: the invariant, and the changes that keep it. Assumes nothing.
use mathlib.Core.Path.{◌≡◌, sym, ap, ◌∙◌, subst}
use mathlib.Core.Logic.{⊎_elim}
use mathlib.Core.Bool.{true, false}
use mathlib.Core.List.{List}
use Prim.Native.Nat.{ℕ, ◌+◌, ◌*◌, ◌/◌, ◌%◌, ◌^◌, ◌<◌}
use native.Mathlib.Omega.{arith}
use lib.ListN.{length, get_or, set, length-set}
use lib.Seq.{get_or-set_same, get_or-set_other}
use Rattle.bits.specs.Mask.{has_bit, with_bit, without_bit}
use Rattle.bits.proofs.Laws.{has_none, with_same, with_other}
use Rattle.bits.proofs.Lists.{eq_or_not, never_both, cond_keeps}
use Rattle.inbox.specs.declared.keep.Kept.TheVariants.{Yes}
use Rattle.stream.specs.declared.window.Window.{Window}
use Rattle.stream.specs.declared.table.Room.{Room}
use Rattle.stream.specs.declared.table.Room.TheVariants.{Own, Free, Full}
use Rattle.stream.specs.Window.{barred_of}
use Rattle.stream.specs.Table.{Table, accept, freed_table, owner_of, cell_count, place_of, table_room, cell_for, cell_at, has_room, has_own, is_over}
use Rattle.stream.proofs.Rooms.{RoomIs, room_is, cells_most}
use Rattle.stream.proofs.Accepts.{Open, answer_of, put_as, accept_cases}
use Rattle.inbox.proofs.Rule.{yes_is}
use Rattle.roster.specs.declared.Member.{Member}
use Rattle.roster.specs.Members.{no_member}
use Rattle.roster.proofs.Laws.{without_in}
use Rattle.net.specs.declared.Station.{Station}
use Rattle.net.specs.declared.Turn.{Turn}
use Rattle.net.specs.declared.Wait.{Wait}
use Rattle.net.specs.State.{index_of, member_at, with_members, with_member, with_used, with_wait, with_hears, with_table, table_of}
use Rattle.net.specs.Net.{is_member}
use Rattle.net.proofs.Laws.{index_is, member_lt, member_has}
use Rattle.signoff.specs.SignOff.{vacant}
use Rattle.promise.proofs.WalkRoster.{set_every}
use Rattle.laws.specs.FreeSlots.{Apart, Blank, BlankIn}

-- where the slot has no boat; and the arrays are as long as they are, and no cell behind the 64 is taken
pub record Kept (i used : ℕ) (ms : List Member) (hears : List ℕ) (toack treenews list : ℕ) (turn : Turn) (busy : ℕ) (owners : List ℕ) : Type 0 where
  pub long : length ms ≡ 62
  pub wide : length hears ≡ 3844
  pub many : length owners ≡ 64
  pub held : (c : ℕ) → has_bit busy c ≡ true → c < 64
  pub blank : has_bit used i ≡ false → Blank i ms hears toack treenews list turn busy owners

abbrev pub Keeps : ℕ → Station → Type 0
Keeps i s = Kept i s.used s.members s.hears s.round.toack s.round.treenews s.round.list s.wait.turn s.busy s.owners

-- a slot with a boat is another one
pub differ : (used i j : ℕ) → has_bit used j ≡ true → has_bit used i ≡ false → j ≡ i → ⊥
differ used i j h f e = never_both (has_bit used i) (subst (λ (y : ℕ). has_bit used y ≡ true) e h) f

pub index_has : (used slot : ℕ) → is_member used slot ≡ true → has_bit used (index_of slot) ≡ true
index_has used slot h = ap (has_bit used) (index_is slot (member_lt used slot h)) ∙ member_has used slot h

-- other boats, another row, other cells
with_boats : {i : ℕ} {ms new : List Member} {hears : List ℕ} {a n r : ℕ} {y : Turn} {busy : ℕ} {owners : List ℕ} → Blank i ms hears a n r y busy owners
    → get_or new i no_member ≡ vacant → ((j : ℕ) → has_bit (get_or new j no_member).tried i ≡ false) → Blank i new hears a n r y busy owners
with_boats b m t = record { member = m; row = b.row; toack = b.toack; treenews = b.treenews; list = b.list; tried = t; turn = b.turn; cells = b.cells }

with_row : {i : ℕ} {ms : List Member} {hears new : List ℕ} {a n r : ℕ} {y : Turn} {busy : ℕ} {owners : List ℕ} → Blank i ms hears a n r y busy owners
    → ((j : ℕ) → j < 62 → get_or new (i * 62 + j) 0 ≡ 63) → Blank i ms new a n r y busy owners
with_row b w =
    record { member = b.member; row = w; toack = b.toack; treenews = b.treenews; list = b.list; tried = b.tried; turn = b.turn; cells = b.cells }

with_cells_lem : {i : ℕ} {ms : List Member} {hears : List ℕ} {a n r : ℕ} {y : Turn} {busy free : ℕ} {owners new : List ℕ} → Blank i ms hears a n r y busy owners
    → ((c : ℕ) → has_bit free c ≡ true → get_or new c 0 / 4294967296 ≡ i → ⊥) → Blank i ms hears a n r y free new
with_cells_lem b f =
    record { member = b.member; row = b.row; toack = b.toack; treenews = b.treenews; list = b.list; tried = b.tried; turn = b.turn; cells = f }

module _ (i : ℕ) (low : i < 62) where
  -- a boat written, whose tried list does not name the slot
  pub put_kept : (s : Station) (j : ℕ) (m : Member) → has_bit s.used j ≡ true → (has_bit s.used i ≡ false → BlankIn i s → has_bit m.tried i ≡ false)
      → Keeps i s → Keeps i (with_members s (set s.members j m))
  put_kept s j m h t k =
      record {
        long = length-set s.members j m ∙ k.long;
        wide = k.wide;
        many = k.many;
        held = k.held;
        blank = λ f.
            let b = k.blank f in
            let n : i ≡ j → ⊥ = λ e. differ s.used i j h f (sym e) in
            with_boats b (get_or-set_other s.members j i m no_member n ∙ b.member)
            (set_every (λ (x : Member). has_bit x.tried i ≡ false) s.members j m (t f b) b.tried);
      }

  -- with its tried list as it was
  pub seat_kept : (s : Station) (j : ℕ) (m : Member) → has_bit s.used j ≡ true → m.tried ≡ (get_or s.members j no_member).tried → Keeps i s
      → Keeps i (with_members s (set s.members j m))
  seat_kept s j m h e k = put_kept s j m h (λ f b. ap (λ (t : ℕ). has_bit t i) e ∙ b.tried j) k

  pub member_kept : (s : Station) (slot : ℕ) (m : Member) → is_member s.used slot ≡ true → m.tried ≡ (member_at s slot).tried → Keeps i s → Keeps i (with_member s slot m)
  member_kept s slot m h e k = seat_kept s (index_of slot) m (index_has s.used slot h) e k

  -- a newcomer
  pub enter_kept : (s : Station) (c : ℕ) (m : Member) → c < 62 → m.tried ≡ 0 → Keeps i s → Keeps i (with_used (with_members s (set s.members c m)) (with_bit s.used c))
  enter_kept s c m l none k =
      record {
        long = length-set s.members c m ∙ k.long;
        wide = k.wide;
        many = k.many;
        held = k.held;
        blank = λ f.
            let n : c ≡ i → ⊥ = λ e. never_both (has_bit (with_bit s.used c) i) (subst (λ (y : ℕ). has_bit (with_bit s.used c) y ≡ true) e (with_same s.used c (omega arith))) f in
            let b = k.blank (sym (with_other s.used c i n) ∙ f) in
            with_boats b (get_or-set_other s.members c i m no_member (λ e. n (sym e)) ∙ b.member)
            (set_every (λ (x : Member). has_bit x.tried i ≡ false) s.members c m (ap (λ (t : ℕ). has_bit t i) none ∙ has_none i) b.tried);
      }

  -- the round's lists written
  pub lists_kept : (s : Station) (acks news round : ℕ)
      → (has_bit s.used i ≡ false → BlankIn i s → (has_bit acks i ≡ false) × (has_bit news i ≡ false) × (has_bit round i ≡ false))
      → Keeps i s → Kept i s.used s.members s.hears acks news round s.wait.turn s.busy s.owners
  lists_kept s acks news round h k =
      record {
        long = k.long;
        wide = k.wide;
        many = k.many;
        held = k.held;
        blank = λ f. let b = k.blank f in let q = h f b in
            record { member = b.member; row = b.row; toack = q.0; treenews = q.1; list = q.2; tried = b.tried; turn = b.turn; cells = b.cells };
      }

  -- the waiting
  pub wait_kept : (s : Station) (w : Wait) → (has_bit s.used i ≡ false → BlankIn i s → Apart i w.turn) → Keeps i s → Keeps i (with_wait s w)
  wait_kept s w h k =
      record {
        long = k.long;
        wide = k.wide;
        many = k.many;
        held = k.held;
        blank = λ f. let b = k.blank f in
            record { member = b.member; row = b.row; toack = b.toack; treenews = b.treenews; list = b.list; tried = b.tried; turn = h f b; cells = b.cells };
      }

  -- whom another boat hears
  pub hears_kept : (s : Station) (r c q : ℕ) → has_bit s.used r ≡ true → c < 62 → Keeps i s → Keeps i (with_hears s (set s.hears (r * 62 + c) q))
  hears_kept s r c q here l k =
      record {
        long = k.long;
        wide = length-set s.hears (r * 62 + c) q ∙ k.wide;
        many = k.many;
        held = k.held;
        blank = λ f. let b = k.blank f in
            with_row b (λ j a. get_or-set_other s.hears (r * 62 + c) (i * 62 + j) q 0 (λ z. differ s.used i r here f (omega arith)) ∙ b.row j a);
      }

  -- a cell is freed
  pub freed_kept : (s : Station) (cell : ℕ) → Keeps i s → Keeps i (with_table s (freed_table (table_of s) cell))
  freed_kept s cell k =
      record {
        long = k.long;
        wide = k.wide;
        many = k.many;
        held = λ c h. k.held c (still cell c h);
        blank = λ f. let b = k.blank f in with_cells_lem b (λ c h e. b.cells c (still cell c h) e);
      }
    where
      still : (c d : ℕ) → has_bit (without_bit s.busy c) d ≡ true → has_bit s.busy d ≡ true
      still c d h = (without_in s.busy c d h).0

  -- a boat's piece
  pub table_kept : (s : Station) (slot field : ℕ) (w : Window) (store p : List ℕ) → is_member s.used slot ≡ true → Keeps i s
      → Keeps i (with_table s (accept (table_of s) w store slot field p).table)
  table_kept s slot field w store p h k =
      accept_cases (table_of s) w store slot field p (λ x. Keeps i (with_table s x.table)) (λ e. k) (λ n e f. k) (λ n o a q c z. k)
      (λ n o q. cond_keeps (λ (t : Table). Keeps i (with_table s t)) (has_own (table_room (table_of s) slot n)) _ _ (λ _. freed_kept s _ k) (λ _. k)) put
    where
      owns : (n : ℕ) → n < 2 ^ 32 → (has_bit s.used i ≡ false) → owner_of slot n / 4294967296 ≡ i → ⊥
      owns n l f e = differ s.used i slot (member_has s.used slot h) f (omega arith)

      place_low : (o : ℕ) → (r : Room) → RoomIs s.owners s.busy s.landed o (cell_count s.count) r → place_of r < 64
      place_low o (Own c) q = let b = q.below in let m = cells_most s.count in omega arith
      place_low o (Free c) q = let b = q.below in let m = cells_most s.count in omega arith
      place_low o Full q = omega arith

      put : (n : ℕ) → Open (table_of s) w store slot field p n → answer_of (table_of s) w store slot n (field % 65536) p ≡ Yes → Keeps i (with_table s (put_as (table_of s) w store slot n (field % 65536) p).table)
      put n o q =
          let c = place_of (table_room (table_of s) slot n) in
          let y = yes_is n (field % 65536) (length p) (is_over (barred_of w n) store (table_room (table_of s) slot n) (cell_at (table_of s) c) (field % 65536) p) (has_room (table_room (table_of s) slot n)) (cell_for (table_room (table_of s) slot n) (cell_at (table_of s) c)) q in
          let l = place_low (owner_of slot n) (table_room (table_of s) slot n) (room_is s.owners s.busy s.landed (owner_of slot n) (cell_count s.count)) in
          let z = k.many in
          record {
            long = k.long;
            wide = k.wide;
            many = length-set s.owners c (owner_of slot n) ∙ k.many;
            held = λ d u. ⊎_elim (λ x. omega arith) (λ x. k.held d (sym (with_other s.busy c d (λ v. x (sym v))) ∙ u)) (eq_or_not d c);
            blank = λ f. let b = k.blank f in
                with_cells_lem b
                (λ d u e.
                ⊎_elim (λ x. owns n (let v = y.low in omega arith) f
                (ap (λ (v : ℕ). v / 4294967296)
                (sym (ap (λ (v : ℕ). get_or (set s.owners c (owner_of slot n)) v 0) x ∙ get_or-set_same s.owners c (owner_of slot n) 0 (omega arith))) ∙ e))
                (λ x. b.cells d (sym (with_other s.busy c d (λ v. x (sym v))) ∙ u)
                (ap (λ (v : ℕ). v / 4294967296) (sym (get_or-set_other s.owners c d (owner_of slot n) 0 x)) ∙ e))
                (eq_or_not d c));
          }
