-- Every change but those of the cells leaves every message alone. Assumes nothing.
use mathlib.Core.Path.{◌≡◌, refl, subst}
use Prim.Native.Nat.{ℕ}
use Rattle.bits.specs.Mask.{with_bit}
use lib.ListN.{set}
use Rattle.roster.specs.declared.Member.{Member}
use Rattle.roster.specs.Members.{new_member}
use Rattle.net.specs.declared.Station.{Station}
use Rattle.net.specs.State.{index_of, member_at, table_of}
use Rattle.net.proofs.Laws.{index_is}
use Rattle.promise.proofs.Walk.{Allowed, stays_up, over_keeps, Change, others, turned, over, hears, written, counted, promoted, moved, entered, piece, landed, freed, barred, signs_off, Chain, chain_keeps, readings, queued, posted}
use Rattle.promise.proofs.Quiet.{Kept, Keeps, kept_self, kept_same, kept_new}

abbrev pub uncelled : Allowed
uncelled = record { level = λ x. Unit {0}; turns = Unit {0}; cells = ⊥; host = Unit {0} }

change_kept : (s₀ s t : Station) → Change uncelled s t → Keeps s₀ s → Keeps s₀ t
change_kept s₀ s t (others r n e m q) k = k
change_kept s₀ s t (turned a w r n y m q) k = k
change_kept s₀ s t (over a r e here) k =
    kept_same s₀ (table_of s) s.used s.members (index_of r.relayfor) _ (over_keeps (λ (m : Member). m.up ≡ (member_at s r.relayfor).up) s.hears s.used _ r.relayfor r.slot (λ a b c. refl)) k
change_kept s₀ s t (hears r c q l h) k = k
change_kept s₀ s t (written i m l here f) k = kept_same s₀ (table_of s) s.used s.members i _ (stays_up f) k
change_kept s₀ s t (counted i m n l here f) k = kept_same s₀ (table_of s) s.used s.members i _ (stays_up f) k
change_kept s₀ s t (promoted i snr l here d) k = kept_same s₀ (table_of s) s.used s.members i _ refl k
change_kept s₀ s t (moved c r l here there able n) k = kept_same s₀ (table_of s) s.used s.members c _ refl k
change_kept s₀ s t (readings i r l here) k = k
change_kept s₀ s t (entered i call v now l free r) k =
    subst (λ (j : ℕ). Kept s₀ (table_of s) (with_bit s.used j) (set s.members j (new_member call v now))) (index_is i l)
    (kept_new s₀ (table_of s) s.used s.members i (new_member call v now) l free refl k)
change_kept s₀ s t (queued i q l here f) k = k
change_kept s₀ s t (posted a i n l here e) k = k
change_kept s₀ s t (piece a store slot field p m here f l d) k = absurd a
change_kept s₀ s t (landed a store slot field p m here f l d) k = absurd a
change_kept s₀ s t (freed a cell) k = absurd a
change_kept s₀ s t (barred a store slot field p here b) k = absurd a
change_kept s₀ s t (signs_off a b c slot here) k = absurd b

pub keeps : {s t : Station} → Chain uncelled s t → Keeps s t
keeps {s} c = chain_keeps (Keeps s) (change_kept s) c (kept_self s)
