-- The calls of a function one after the other: what each says and leaves, put together. Assumes nothing.
use Rattle.std.proofs.Common.{◌≡◌, ℕ, ◌+◌, Bool, true, false, cond, not, ◌&&◌, ◌||◌, eqb, ltb, List, [], get_or, set, sym, refl, ap, ◌∙◌, eq-eqb, ne_eqb, Option, Some, None}
use lib.Ieee.{Float, lt}
use Rattle.bits.specs.Mask.{without_bit}
use Rattle.bits.specs.Stop.{stop}
use Rattle.bits.proofs.Lists.{cond_true, cond_false}
use Rattle.out.specs.declared.Output.{Output}
use Rattle.out.specs.Outputs.{Writes}
use Rattle.out.proofs.Laws.{writes_then, writes_none}
use Rattle.roster.specs.declared.Member.{Member}
use Rattle.roster.specs.Members.{no_member, silent_at}
use Rattle.net.specs.declared.Station.{Station}
use Rattle.net.specs.declared.Round.{Round}
use Rattle.net.specs.declared.Totals.{Totals}
use Rattle.net.specs.declared.Wait.{Wait}
use Rattle.net.specs.State.{index_of, with_members, with_wait, with_round, with_totals, with_list, with_rxsent, with_polls}
use Rattle.net.specs.declared.Turn.TheVariants.{Sending}
use Rattle.net.specs.Net.{is_member, is_idle, wait_of, Said, said, Does}
use Rattle.bursts.specs.Bursts.{poll_burst, acks_burst, beacon_of, rx_list_burst}
use Rattle.bursts.specs.Direct.{directed_to, direct_burst}
use Rattle.bursts.specs.Reroute.{reroute_of, source_for}
use Rattle.bursts.proofs.Saying.{does_then, does_as}
use Rattle.next.specs.declared.Due.{Due}
use Rattle.next.specs.declared.Act.{Act}
use Rattle.next.specs.declared.Act.TheVariants as act
use Rattle.next.specs.Next.{due_of, drawn, ncs_next}
use Rattle.next.specs.Code.Decision.{said_after, late_of, slot_of, relay_of, is_quiet, late_words, late_member, late_source, late_wait, late_totals, late_round, late_station, late_says, act_in, is_said, is_draw, spoken_of, rerouted_then, rerouting_of, list_then, round_then, ended_of, stage_by, front_of, poll_wait, word_or, word_for, word_then, next_straight}
use Rattle.next.proofs.Stages.{said_nil, next_is}

-- nothing is written
pub does_none : (s : Station) (o : Output) → Does (said s []) s o o
does_none s o = record { station = refl; wrote = writes_none o }

-- a call on the station that another left
does_on : {d : Said} (f : Station → Said) {t r : Station} {o m n : Output} → Does d t o m → Does (f t) r m n → Does (said_after d.words (f d.station)) r o n
does_on f p q = does_then p (does_as q (ap f p.station))

-- ### Rerouting

abbrev restful : Station → Float → Bool
restful s now = not s.round.traffic && ltb 0 s.round.number && lt now s.round.nextround

module _ (s : Station) (now : Float) {t : Station} {o m : Output} (h : restful s now ≡ false) (p : Does (reroute_of s) t o m) where
  pub moved_said : {r : Station} {n : Output} → (t.round.treenews ≡ 0 → ⊥) → Does (acks_burst t) r m n → Does (rerouting_of s now) r o n
  unfolding rerouting_of
  moved_said e q =
      let x = reroute_of s in
      let f : eqb x.station.round.treenews 0 ≡ false = ap (λ (u : Station). eqb u.round.treenews 0) (sym p.station) ∙ ne_eqb t.round.treenews 0 e in
      does_as (does_on acks_burst p q)
      (sym (cond_false (restful s now) (said s []) (rerouted_then x now) h ∙ ap (said_after x.words) (cond_false _ (said (drawn x.station now) []) (acks_burst x.station) f)))

  pub round_drawn : {r : Station} → t.round.treenews ≡ 0 → r ≡ drawn t now → Does (rerouting_of s now) r o m
  unfolding rerouting_of
  round_drawn e q =
      let x = reroute_of s in
      let f : eqb x.station.round.treenews 0 ≡ true = ap (λ (u : Station). eqb u.round.treenews 0) (sym p.station) ∙ eq-eqb t.round.treenews 0 e in
      does_as (does_on (λ u. said (drawn u now) []) p (record { station = q; wrote = writes_none m }))
      (sym (cond_false (restful s now) (said s []) (rerouted_then x now) h ∙ ap (said_after x.words) (cond_true _ (said (drawn x.station now) []) (acks_burst x.station) f)))

-- ### The received list

abbrev looked_at : Station → Bool
looked_at s = eqb s.round.number 0 || eqb s.round.rxsent s.round.number

abbrev looked : Station → Station
looked s = with_round s (with_rxsent s.round s.round.number)

module _ (s : Station) (now : Float) {t : Station} {o m : Output} (h : looked_at s ≡ false) (p : Does (rx_list_burst (looked s)) t o m) where
  same_idle : {b : Bool} → is_idle t.wait.turn ≡ b → is_idle (rx_list_burst (looked s)).station.wait.turn ≡ b
  same_idle e = ap (λ (u : Station). is_idle u.wait.turn) (sym p.station) ∙ e

  pub list_none : {r : Station} {n : Output} → is_idle t.wait.turn ≡ true → Does (rerouting_of t now) r m n → Does (round_then s now) r o n
  unfolding round_then
  list_none e q =
      let x = rx_list_burst (looked s) in
      does_as (does_on (λ u. rerouting_of u now) p q)
      (sym (cond_false (looked_at s) (rerouting_of s now) (list_then x now) h ∙ cond_true _ (said_after x.words (rerouting_of x.station now)) x (same_idle e)))

  pub list_said : is_idle t.wait.turn ≡ false → Does (round_then s now) t o m
  unfolding round_then
  list_said e =
      let x = rx_list_burst (looked s) in
      does_as p
      (sym (cond_false (looked_at s) (rerouting_of s now) (list_then x now) h ∙ cond_false _ (said_after x.words (rerouting_of x.station now)) x (same_idle e)))

-- ### The decision

pub not_said : (a : Act) (s : Station) (now : Float) → is_said a ≡ false → said s [] ≡ spoken_of a s now
not_said act.Wait s now e = refl
not_said act.Beacon s now e = cc
not_said act.Acks s now e = cc
not_said act.Draw s now e = refl
not_said act.Poll s now e = refl

-- a burst to all: the station waits for the end of the sending
pub spoken_did : (a : Act) (s : Station) (now : Float) {r : Round} {w : Wait} {o m : Output} → is_said a ≡ true
    → r ≡ (spoken_of a s now).station.round → w ≡ wait_of Sending s.wait.deadline → Writes o (spoken_of a s now).words m
    → Does (spoken_of a s now) (with_round (with_wait s w) r) o m
unfolding beacon_of acks_burst
spoken_did act.Wait s now e f g h = record { station = cc; wrote = h }
spoken_did act.Beacon s now e f g h = record { station = rw (f, g); wrote = h }
spoken_did act.Acks s now e f g h = record { station = rw (f, g); wrote = h }
spoken_did act.Draw s now e f g h = record { station = cc; wrote = h }
spoken_did act.Poll s now e f g h = record { station = cc; wrote = h }

pub not_draw : (a : Act) (s : Station) (now : Float) → is_draw a ≡ false → said s [] ≡ ended_of a s now
not_draw act.Wait s now e = refl
not_draw act.Beacon s now e = refl
not_draw act.Acks s now e = refl
not_draw act.Draw s now e = cc
not_draw act.Poll s now e = refl

pub is_draw_lem : (a : Act) (s : Station) (now : Float) → is_draw a ≡ true → round_then s now ≡ ended_of a s now
is_draw_lem act.Wait s now e = cc
is_draw_lem act.Beacon s now e = cc
is_draw_lem act.Acks s now e = cc
is_draw_lem act.Draw s now e = refl
is_draw_lem act.Poll s now e = cc

stage_by_is : (a : Act) (s : Station) (now : Float) → said_after (spoken_of a s now).words (ended_of a (spoken_of a s now).station now) ≡ stage_by a s now
stage_by_is act.Wait s now = refl
stage_by_is act.Beacon s now = said_nil (beacon_of s now)
stage_by_is act.Acks s now = said_nil (acks_burst s)
stage_by_is act.Draw s now = refl
stage_by_is act.Poll s now = refl

pub stage_by_did : (a : Act) (s : Station) (now : Float) (t : Station) (m : Output) {r : Station} {o n : Output}
    → Does (spoken_of a s now) t o m → Does (ended_of a t now) r m n → Does (stage_by a s now) r o n
stage_by_did a s now t m p q = does_as (does_on (λ u. ended_of a u now) p q) (stage_by_is a s now)

-- nobody is polled
pub none_did : (x : Act) (t : Station) (queue : List ℕ) {f : Option ℕ} {o : Output} → f ≡ front_of t.wait t.round.list x → f ≡ None → Does (word_then x t queue) t o o
none_did x t queue {f} {o} e n = does_as (does_none t o) (ap (λ (g : Option ℕ). word_for g t queue) (sym n ∙ e))

-- word goes out before the poll of a slot
pub direct_did : (x : Act) (t : Station) (queue : List ℕ) (slot to : ℕ) {r : Station} {o m : Output}
    → Some slot ≡ front_of t.wait t.round.list x → Some to ≡ directed_to t slot
    → Does (direct_burst t queue to) r o m → Does (word_then x t queue) r o m
direct_did x t queue slot to e d p =
    does_as p (ap (λ (g : Option ℕ). word_or g slot t queue) d ∙ ap (λ (g : Option ℕ). word_for g t queue) e)

-- the poll, with what each of its calls gives
pub poll_did : (x : Act) (t : Station) (queue : List ℕ) {slot source i polls list : ℕ} {here : Bool} {v : Wait} {o m : Output}
    → Some slot ≡ front_of t.wait t.round.list x → None ≡ directed_to t slot → source ≡ source_for t slot → i ≡ index_of slot → here ≡ is_member t.used slot
    → Writes o (poll_burst t.settings here (get_or t.members i no_member) slot source false) m
    → v ≡ poll_wait t.wait slot source → polls ≡ stop (t.totals.polls + 1) → list ≡ without_bit t.round.list slot
    → Does (word_then x t queue) (with_round (with_totals (with_wait t v) (with_polls t.totals polls)) (with_list t.round list)) o m
poll_did x t queue {slot} {source} e d f i h w a b c =
    does_as (record { station = rw (c, b, a, f); wrote = rw (h, i, f) at w }) (ap (λ (g : Option ℕ). word_or g slot t queue) d ∙ ap (λ (g : Option ℕ). word_for g t queue) e)

-- the station with the parts that the first stages leave
abbrev pub laid : Station → ℕ → Member → ℕ → Member → Wait → Totals → Round → Station
laid s a k b c v u r =
    with_round (with_totals (with_wait (with_members s (set (set s.members a k) b c)) v) u) r

-- what each call of the first stages gives
pub record Parts (s : Station) (ok : Bool) (now : Float) (d l : Due) (a : ℕ) (here : Bool) (k : Member) (b : ℕ) (c : Member) (v : Wait) (u : Totals) (r : Round) (x : Act) : Type 0 where
  pub due : d ≡ due_of s.wait s.round.closed now
  pub late : l ≡ late_of d ok
  pub first : a ≡ index_of (slot_of l)
  pub member : here ≡ is_member s.used (slot_of l)
  pub missed : k ≡ late_member (get_or s.members a no_member) l here
  pub second : b ≡ index_of (relay_of l)
  pub source : c ≡ late_source s.hears s.used (get_or (set s.members a k) b no_member) l
  pub wait : v ≡ late_wait s.wait l
  pub totals : u ≡ late_totals s.totals l (silent_at s.settings.misslimit (get_or s.members a no_member)) (silent_at s.settings.misslimit k)
  pub round : r ≡ late_round s.round l s.settings now
  pub act : x ≡ act_in (is_quiet l) r s.used now

module _ (s : Station) (ok : Bool) (now : Float) {d l : Due} {a : ℕ} {here : Bool} {k : Member} {b : ℕ} {c : Member} {v : Wait} {u : Totals} {r : Round} {x : Act}
    (p : Parts s ok now d l a here k b c v u r x) where
  abbrev late_in : Due
  late_in = late_of (due_of s.wait s.round.closed now) ok

  late_is : l ≡ late_in
  late_is = p.late ∙ ap (λ (e : Due). late_of e ok) p.due

  laid_is : laid s a k b c v u r ≡ late_station s late_in now
  laid_is = rw (p.round, p.totals, p.wait, p.source, p.second, p.missed, p.member, p.first, late_is)

  words_are : late_words l s.round.closeleft s.settings (get_or s.members a no_member) here ≡ late_says s late_in
  words_are = rw (p.member, p.first, late_is)

  act_is : x ≡ act_in (is_quiet late_in) (late_station s late_in now).round s.used now
  act_is = rw (p.act, p.round, late_is)

  pub next_said : (queue : List ℕ) (t : Station) (o₂ : Output) {q : Station} {o o₁ o₃ : Output}
      → Writes o (late_words l s.round.closeleft s.settings (get_or s.members a no_member) here) o₁
      → Does (stage_by x (laid s a k b c v u r) now) t o₁ o₂ → Does (word_then x t queue) q o₂ o₃
      → Does (cond ok (said (ncs_next s now queue).station (ncs_next s now queue).words) (said s [])) q o o₃
  unfolding next_straight
  next_said queue t o₂ w e m =
      let g = does_as e (ap (λ (y : Station). stage_by x y now) laid_is) in
      let z = does_on (λ y. word_then x y queue) g m in
      let y = rw act_is at z in
      let whole : Does (next_straight s ok now queue) _ _ _ = record { station = y.station; wrote = writes_then (rw words_are at w) y.wrote } in
      does_as whole (next_is s ok now queue)
