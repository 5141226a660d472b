-- The walk for a property of the roster alone (the slots in use, the members but for most of their fields, and the total of silent boats), of the rings and queues
-- beside it, and of every member: fewer cases, the other changes being none to them. Assumes nothing.
use mathlib.Core.Path.{◌≡◌, refl, sym, ◌∙◌, subst}
use mathlib.Core.Bool.{true, false}
use mathlib.Core.List.{List, [], ◌∷◌}
use Prim.Native.Nat.{ℕ, zero, suc, ◌<◌}
use lib.Dec.{eqb}
use lib.Ieee.{Float}
use lib.ListN.{get_or, set, replicate}
use Rattle.bits.specs.Mask.{has_bit, with_bit, without_bit}
use Rattle.bits.proofs.Lists.{cond_keeps}
use Rattle.bits.proofs.Loops.{fold_keeps}
use Rattle.level.specs.Consts.{zero_time}
use Rattle.level.specs.declared.Level.TheVariants.{Decibels}
use Rattle.recent.specs.declared.Recent.{Recent}
use Rattle.queue.specs.declared.Queue.{Queue}
use Rattle.queue.specs.Queues.{empty_queue}
use Rattle.roster.specs.declared.Member.{Member}
use Rattle.roster.specs.Members.{no_member, new_member, with_missed, with_mark, promoted_at, rerouted_to, landed_one, barred_one, silent_at, tally}
use Rattle.roster.specs.Relays.{could_relay}
use Rattle.net.specs.declared.Station.{Station}
use Rattle.net.specs.declared.Settings.{Settings}
use Rattle.net.specs.State.{index_of, with_recent, recent_at}
use Rattle.net.specs.Net.{is_member, blank_call}
use Rattle.net.proofs.Laws.{index_lt}
use Rattle.bursts.specs.Rows.{member_in}
use Rattle.bursts.specs.Reroute.{with_member_in}
use Rattle.signoff.specs.SignOff.{vacant, leave, untried, cut_off, bereft, bereft_of, bereave_at, bereave_all, struck_off, sign_off}
use Rattle.promise.proofs.Walk.{Allowed, Field, fields_keep, Stays, stays, over_keeps, over_stays, RelayOk, Change, Chain, chain_keeps}
use Rattle.promise.proofs.Walk as walk
use Rattle.promise.proofs.WalkNext.{index_member}
use Rattle.promise.proofs.Signs.{sign_beside}

-- ---- the roster

-- what a change makes of the settings, the slots in use, the members and the total of silent boats
pub data Roster (s : Station) : Settings → ℕ → List Member → ℕ → Type 0 where
  same : Roster s s.settings s.used s.members s.totals.silent
  written : (i : ℕ) (m : Member) → i < 62 → is_member s.used i ≡ true → Stays (member_in s i) m → Roster s s.settings s.used (set s.members i m) s.totals.silent
  counted : (i : ℕ) (m : Member) → i < 62 → is_member s.used i ≡ true → m.call ≡ (member_in s i).call → m.via ≡ (member_in s i).via
      → Roster s s.settings s.used (set s.members i m) (tally s.totals.silent (silent_at s.settings.misslimit (member_in s i)) (silent_at s.settings.misslimit m))
  promoted : (i : ℕ) (snr : Float) → i < 62 → is_member s.used i ≡ true
      → Roster s s.settings s.used (set s.members i (promoted_at (member_in s i) snr))
      (tally s.totals.silent (silent_at s.settings.misslimit (member_in s i)) (silent_at s.settings.misslimit (promoted_at (member_in s i) snr)))
  moved : (c r : ℕ) → c < 62 → is_member s.used c ≡ true → is_member s.used r ≡ true → could_relay (member_in s r) ≡ true → (r ≡ c → ⊥)
      → Roster s s.settings s.used (set s.members c (rerouted_to (member_in s c) r))
      (tally s.totals.silent (silent_at s.settings.misslimit (member_in s c)) (silent_at s.settings.misslimit (rerouted_to (member_in s c) r)))
  entered : (i : ℕ) (call : List ℕ) (v : ℕ) (now : Float) → i < 62 → has_bit s.used i ≡ false → RelayOk s.used v
      → Roster s s.settings (with_bit s.used i) (set s.members i (new_member call v now)) s.totals.silent
  signs_off : (slot : ℕ) → is_member s.used slot ≡ true
      → Roster s (sign_off s slot).settings (sign_off s slot).used (sign_off s slot).members (sign_off s slot).totals.silent

-- the same boats
same_silent : (s : Station) (n : ℕ) → n ≡ s.totals.silent → Roster s s.settings s.used s.members n
same_silent s n e = subst (Roster s s.settings s.used s.members) (sym e) same

pub roster : {A : Allowed} {s t : Station} → Change A s t → Roster s t.settings t.used t.members t.totals.silent
roster {s = s} (walk.others r n e m q) = same_silent s n.silent q
roster {s = s} (walk.turned a w r n y m q) = same_silent s n.silent q
roster {s = s} (walk.over a r e here) =
    written (index_of r.relayfor) _ (index_lt r.relayfor) (index_member s.used r.relayfor here) (over_stays s.hears s.used _ r.relayfor r.slot)
roster (walk.hears r c q l h) = same
roster (walk.written i m l here f) = written i m l here (stays f)
roster (walk.counted i m n l here f) = counted i (with_missed m n) l here (stays f).call (stays f).via
roster (walk.promoted i snr l here d) = promoted i snr l here
roster (walk.moved c r l here there able n) = moved c r l here there able n
roster (walk.readings i r l here) = same
roster (walk.entered i call v now l free r) = entered i call v now l free r
roster (walk.queued i q l here f) = same
roster (walk.posted a i n l here e) = same
roster {s = s} (walk.piece a store slot field p m here f l d) = written (index_of slot) m (index_lt slot) (index_member s.used slot here) (stays f)
roster {s = s} (walk.landed a store slot field p m here f l d) =
    written (index_of slot) _ (index_lt slot) (index_member s.used slot here) (record { call = (stays f).call; via = (stays f).via; missed = (stays f).missed })
roster (walk.freed a cell) = same
roster {s = s} (walk.barred a store slot field p here b) =
    written (index_of slot) _ (index_lt slot) (index_member s.used slot here) (record { call = refl; via = refl; missed = refl })
roster (walk.signs_off a b c slot here) = signs_off slot here

-- no change is one of the settings
roster_settings : {s : Station} {g : Settings} {u : ℕ} {ms : List Member} {n : ℕ} → Roster s g u ms n → g ≡ s.settings
roster_settings same = refl
roster_settings (written i m l here y) = refl
roster_settings (counted i m l here c v) = refl
roster_settings (promoted i snr l here) = refl
roster_settings (moved c r l here there able n) = refl
roster_settings (entered i call v now l free r) = refl
roster_settings {s = s} (signs_off slot here) = (sign_beside s slot).settings

pub settings_stay : {A : Allowed} {s t : Station} → Chain A s t → t.settings ≡ s.settings
settings_stay {s = s} c = chain_keeps (λ (t : Station). t.settings ≡ s.settings) (λ x y d h. roster_settings (roster d) ∙ h) c refl

-- ---- the rings and the directed queues of the slots in use

-- what a change makes of them
pub data Beside (s : Station) : ℕ → List Recent → List Queue → Type 0 where
  kept : Beside s s.used s.recent s.queues
  ring : (i : ℕ) (r : Recent) → is_member s.used i ≡ true → Beside s s.used (set s.recent i r) s.queues
  queue : (i : ℕ) (q : Queue) → is_member s.used i ≡ true → Beside s s.used s.recent (set s.queues i q)
  joins : (i : ℕ) → i < 62 → Beside s (with_bit s.used i) s.recent (set s.queues i empty_queue)
  leaves : (slot : ℕ) → is_member s.used slot ≡ true → Beside s (sign_off s slot).used (sign_off s slot).recent (sign_off s slot).queues

pub beside : {A : Allowed} {s t : Station} → Change A s t → Beside s t.used t.recent t.queues
beside (walk.others r n e m q) = kept
beside (walk.turned a w r n y m q) = kept
beside (walk.over a r e here) = kept
beside (walk.hears r c q l h) = kept
beside (walk.written i m l here f) = kept
beside (walk.counted i m n l here f) = kept
beside (walk.promoted i snr l here d) = kept
beside (walk.moved c r l here there able n) = kept
beside (walk.readings i r l here) = ring i r here
beside (walk.entered i call v now l free r) = joins i l
beside (walk.queued i q l here f) = queue i q here
beside (walk.posted a i n l here e) = queue i _ here
beside (walk.piece a store slot field p m here f l d) = kept
beside (walk.landed a store slot field p m here f l d) = kept
beside (walk.freed a cell) = kept
beside (walk.barred a store slot field p here b) = kept
beside (walk.signs_off a b c slot here) = leaves slot here

-- ---- every member

abbrev pub Every : (Member → Type 0) → Station → Type 0
Every Q s = (j : ℕ) → Q (get_or s.members j no_member)

-- what keeps Q of a member
pub record Each (A : Allowed) (Q : Member → Type 0) : Type 0 where
  pub field : (m k : Member) → Field A m k → Q m → Q k
  pub missed : (m : Member) (n : ℕ) → Q m → Q (with_missed m n)
  pub marked : (m : Member) (next marks tried : ℕ) → Q m → Q (with_mark m next marks tried)
  pub promoted : (m : Member) (snr : Float) → m.direct ≡ Decibels snr → Q m → Q (promoted_at m snr)
  pub moved : (m : Member) (r : ℕ) → Q m → Q (rerouted_to m r)
  pub landed : (m : Member) (number n : ℕ) → Q m → Q (landed_one m number n)
  pub barred : (m : Member) (number : ℕ) → Q m → Q (barred_one m number)
  pub entered : (call : List ℕ) (v : ℕ) (now : Float) → Q (new_member call v now)
  pub cut : (m : Member) (limit : ℕ) → Q m → Q (cut_off limit m)

pub set_every : (Q : Member → Type 0) (ms : List Member) (i : ℕ) (m : Member) → Q m → ((j : ℕ) → Q (get_or ms j no_member)) → (j : ℕ) → Q (get_or (set ms i m) j no_member)
set_every Q [] i m f l j = l j
set_every Q (x ∷ ms) zero m f l zero = f
set_every Q (x ∷ ms) zero m f l (suc j) = l (suc j)
set_every Q (x ∷ ms) (suc i) m f l zero = l zero
set_every Q (x ∷ ms) (suc i) m f l (suc j) = set_every Q ms i m f (λ k. l (suc k)) j

module _ (A : Allowed) (Q : Member → Type 0) (e : Each A Q) where
  -- a boat signs off: those it relayed for lose it
  bereave_every : (slot j : ℕ) (s : Station) → Every Q s → Every Q (bereave_at slot j s)
  unfolding bereave_at
  bereave_every slot j s l =
      let m = member_in s j in
      let q = e.marked m m.marknext m.markbits (without_bit m.tried slot) (l j) in
      cond_keeps (Every Q) (has_bit s.used j) (with_recent (with_member_in s j (bereft slot s.settings.misslimit m)) (set s.recent j (bereft_of slot m (recent_at s j)))) s
      (λ _. set_every Q s.members j _ (cond_keeps Q (eqb m.via slot) _ _ (λ _. e.cut (untried slot m) s.settings.misslimit q) (λ _. q)) l) (λ _. l)

  sign_every : (s : Station) (slot : ℕ) → Every Q s → Every Q (sign_off s slot)
  unfolding sign_off bereave_all
  sign_every s slot l =
      fold_keeps (Every Q) (bereave_at slot) (bereave_every slot) 62 0 (leave slot (struck_off slot s)) (set_every Q s.members slot vacant (e.entered blank_call 63 zero_time) l)

  pub every : (s t : Station) → Change A s t → Every Q s → Every Q t
  every s t (walk.others r n q m z) l = l
  every s t (walk.turned a w r n y m q) l = l
  every s t (walk.over a r q here) l =
      let i = index_of r.relayfor in
      set_every Q s.members i _ (over_keeps Q s.hears s.used (member_in s i) r.relayfor r.slot (λ next marks tried. e.marked (member_in s i) next marks tried (l i))) l
  every s t (walk.hears r c q h z) l = l
  every s t (walk.written i m h here f) l = set_every Q s.members i m (fields_keep Q e.field f (l i)) l
  every s t (walk.counted i m n h here f) l = set_every Q s.members i _ (e.missed m n (fields_keep Q e.field f (l i))) l
  every s t (walk.promoted i snr h here d) l = set_every Q s.members i _ (e.promoted (member_in s i) snr d (l i)) l
  every s t (walk.moved c r h here there able n) l = set_every Q s.members c _ (e.moved (member_in s c) r (l c)) l
  every s t (walk.readings i r h here) l = l
  every s t (walk.entered i call v now h free r) l = set_every Q s.members i _ (e.entered call v now) l
  every s t (walk.queued i q h here f) l = l
  every s t (walk.posted a i n h here q) l = l
  every s t (walk.piece a store slot field p m here f h d) l = set_every Q s.members (index_of slot) m (fields_keep Q e.field f (l (index_of slot))) l
  every s t (walk.landed a store slot field p m here f h d) l =
      set_every Q s.members (index_of slot) _ (e.landed m _ _ (fields_keep Q e.field f (l (index_of slot)))) l
  every s t (walk.freed a cell) l = l
  every s t (walk.barred a store slot field p here b) l = set_every Q s.members (index_of slot) _ (e.barred _ _ (l (index_of slot))) l
  every s t (walk.signs_off a b c slot here) l = sign_every s slot l

-- at a start
pub every_new : (Q : Member → Type 0) (n : ℕ) (m : Member) → Q no_member → Q m → (j : ℕ) → Q (get_or (replicate n m) j no_member)
every_new Q zero m z f j = z
every_new Q (suc n) m z f zero = f
every_new Q (suc n) m z f (suc j) = every_new Q n m z f j
