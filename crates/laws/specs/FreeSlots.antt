-- A slot without a boat is as at a start (U3 of document 02: signing off 'frees the slot'), and nothing names it but other boats' `hears` rows: a report may name any slot.
-- `FreeSlots`, the last definition, says so after any calls from a start.
use Rattle.std.specs.Prelude.{ℕ, ◌+◌, ◌*◌, ◌/◌, ◌<◌, ◌≡◌, true, false, List, length, get_or}
use Rattle.bits.specs.Mask.{has_bit}
use Rattle.recent.specs.Readings.{no_recent, empty}
use Rattle.queue.specs.Queues.{empty_queue}
use Rattle.roster.specs.declared.Member.{Member}
use Rattle.roster.specs.Members.{no_member}
use Rattle.net.specs.declared.Station.{Station}
use Rattle.net.specs.declared.Turn.{Turn}
use Rattle.net.specs.declared.Turn.TheVariants.{Idle, Sending, Waiting}
use Rattle.config.specs.declared.Given.{Given}
use Rattle.station.specs.Entries.{start_refusal}
use Rattle.signoff.specs.SignOff.{vacant}
use Rattle.promise.specs.Promise.{Call, after, started}

-- slot i is neither polled nor relayed for
abbrev pub Apart : ℕ → Turn → Type 0
Apart i Idle = Unit {0}
Apart i Sending = Unit {0}
Apart i (Waiting r) = (r.slot ≡ i → ⊥) × (r.relayfor ≡ i → ⊥)

-- nothing is left of a boat in slot i: its record is that of a start, its `hears` row has 63, nothing, for every slot; it is on no waiting list, not in the round and on no
-- boat's tried list; no turn is its own or relays for it; no cell that is taken is its own
pub record Blank (i : ℕ) (ms : List Member) (hears : List ℕ) (acks news round : ℕ) (now : Turn) (busy : ℕ) (owners : List ℕ) : Type 0 where
  pub member : get_or ms i no_member ≡ vacant
  pub row : (j : ℕ) → j < 62 → get_or hears (i * 62 + j) 0 ≡ 63
  pub toack : has_bit acks i ≡ false
  pub treenews : has_bit news i ≡ false
  pub list : has_bit round i ≡ false
  pub tried : (j : ℕ) → has_bit (get_or ms j no_member).tried i ≡ false
  pub turn : Apart i now
  pub cells : (c : ℕ) → has_bit busy c ≡ true → get_or owners c 0 / 4294967296 ≡ i → ⊥

abbrev pub BlankIn : ℕ → Station → Type 0
BlankIn i s = Blank i s.members s.hears s.round.toack s.round.treenews s.round.list s.wait.turn s.busy s.owners

-- from a start that is not refused, after any calls, of every slot without a boat; and it has no reading (U13), and its directed queue is empty (U1)
abbrev pub FreeSlots : Type 0
FreeSlots =
    (s : Station) (g : Given) (store : List ℕ) → start_refusal g (length store) ≡ 0 → (cs : List Call) (i : ℕ) → i < 62
    → has_bit (after cs (started s g store)).station.used i ≡ false
    → BlankIn i (after cs (started s g store)).station × (get_or (after cs (started s g store)).station.recent i no_recent ≡ empty)
    × (get_or (after cs (started s g store)).station.queues i empty_queue ≡ empty_queue)
