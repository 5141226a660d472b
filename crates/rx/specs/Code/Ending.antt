-- The end of a reception (`ncs_rx` of ncs.rs, after the frames) as the code takes it: what the burst is at its end, and one part of the station after the
-- other. Laws `end_station_lem` and `end_burst_lem` (proofs/Endings.antt) say that the parts together are what Ending.antt says.
use Rattle.std.specs.Prelude.{ℕ, ◌+◌, ◌%◌, Bool, true, false, not, cond, ◌&&◌, ◌||◌, List, [], ◌∷◌, eqb, set, Option, Some, None}
use Rattle.bits.specs.Stop.{stop}
use Rattle.wire.specs.Kinds.{tiny, k_pollack, k_ack, k_idle}
use Rattle.words.specs.declared.Head.{Head}
use Rattle.out.specs.Encode.{head_word, wave_word}
use Rattle.recent.specs.declared.Recent.{Recent}
use Rattle.recent.specs.Readings.{noted}
use Rattle.roster.specs.declared.Member.{Member}
use Rattle.roster.specs.Members.{silent_at, tally}
use Rattle.roster.specs.Relays.{turn_over}
use Rattle.net.specs.declared.Station.{Station}
use Rattle.net.specs.declared.Settings.{Settings}
use Rattle.net.specs.declared.Totals.{Totals}
use Rattle.net.specs.declared.Reply.{Reply}
use Rattle.net.specs.declared.Turn.{Turn}
use Rattle.net.specs.declared.Turn.TheVariants.{Idle, Sending, Waiting}
use Rattle.net.specs.declared.Wait.{Wait}
use Rattle.net.specs.State.{member_at, with_member, with_wait, with_totals, with_replies, with_silent, index_of, with_recent, recent_at}
use Rattle.net.specs.Net.{is_member, wait_of, idle_wait, tiny_wave}
use Rattle.frames.specs.declared.Air.{Air}
use Rattle.rx.specs.declared.ending.Kind.{Kind}
use Rattle.rx.specs.declared.ending.Kind.TheVariants as kind
use Rattle.rx.specs.declared.ending.Ending.{Ending}
use Rattle.rx.specs.Ending.{is_reply, goes_on, idle_member, reply_member, ack_extra}

-- ---- what the burst is at its end

abbrev pub no_reply : Reply
no_reply = record { slot = 255; relayfor = 63; tries = 0; turnbursts = 0 }

-- the reply that is waited for
abbrev pub awaited_of : Turn → Option Reply
awaited_of Idle = None
awaited_of Sending = None
awaited_of (Waiting r) = Some r

abbrev pub is_awaited : Option Reply → ℕ → Bool
is_awaited None slot = false
is_awaited (Some r) slot = eqb r.slot slot

abbrev pub reply_or_none : Option Reply → Reply
reply_or_none None = no_reply
reply_or_none (Some r) = r

abbrev pub ends : Kind → Bool
ends kind.Other = false
ends kind.Idle = true
ends kind.Answer = true

abbrev pub is_answer : Kind → Bool
is_answer kind.Other = false
is_answer kind.Idle = false
is_answer kind.Answer = true

abbrev pub no_ending : Ending
no_ending = record { kind = kind.Other; slot = 255; over = false; more = false; reply = no_reply }

-- K_IDLE from the polled boat ends the turn
abbrev pub idle_ending : Option Reply → Head → Ending
idle_ending w h =
    record { kind = kind.Idle; slot = h.extra % 64; over = is_awaited w (h.extra % 64); more = false; reply = reply_or_none w }

abbrev pub reply_ending : Reply → Bool → Ending
reply_ending r more = record { kind = kind.Answer; slot = r.slot; over = not more; more = more; reply = r }

abbrev pub replied_by : Reply → Option ℕ → Bool → Head → Ending
replied_by r sender more h = cond (is_reply h sender r) (reply_ending r (goes_on h more r)) no_ending

abbrev pub full_ending : Option Reply → Option ℕ → Bool → Head → Ending
full_ending None sender more h = no_ending
full_ending (Some r) sender more h = replied_by r sender more h

unfoldable pub ending_by : Option Reply → Option ℕ → Bool → Head → Ending
ending_by w sender more h =
    cond (eqb h.code tiny) (cond (eqb h.hi k_idle) (idle_ending w h) no_ending) (full_ending w sender more h)

-- ---- the parts

abbrev pub member_by : Kind → Bool → Head → Air → Member → Member
member_by kind.Other here h a m = m
member_by kind.Idle here h a m = cond here (idle_member a h.extra m) m
member_by kind.Answer here h a m = cond here (reply_member a (h.hi % 4) m) m

abbrev pub end_member : Member → Ending → Bool → Head → Air → Member
end_member m e here h a = member_by e.kind here h a m

-- the burst's own level is one more reading
abbrev pub end_recent : Recent → Ending → Bool → Air → Recent
end_recent r e here a = cond (ends e.kind && here) (noted r a.level) r

abbrev pub end_source : List ℕ → ℕ → Member → Ending → ℕ → Member
end_source hears used m e source = cond (e.over && is_member used source) (turn_over hears used m source e.slot) m

-- with the acknowledgement the boat is polled again
abbrev pub once_more : Reply → Wait
once_more r = wait_of (Waiting (record { slot = r.slot; relayfor = r.relayfor; tries = 0; turnbursts = r.turnbursts % 4 + 1 })) None

abbrev pub end_wait : Wait → Ending → Wait
end_wait w e =
    cond e.more (once_more e.reply) (cond (is_answer e.kind) (wait_of Sending None) (cond e.over idle_wait w))

-- the boat was silent before, and is after
abbrev pub end_totals : Totals → Ending → Bool → Bool → Totals
end_totals t e before after =
    with_silent (cond (is_answer e.kind || e.over) (with_replies t (stop (t.replies + 1))) t) (tally t.silent before after)

abbrev pub end_level : Settings → Member → Bool → ℕ
end_level g m here = cond here (tiny_wave g m.snrdown) 0

abbrev pub end_words : Ending → Head → ℕ → ℕ → List ℕ
end_words e h heard level =
    cond (is_answer e.kind) (head_word tiny (cond e.more k_pollack k_ack) (ack_extra e.slot (h.hi % 4) heard) ∷ wave_word level ∷ []) []

-- ---- together

-- the boat that the burst is from
abbrev pub end_first : Station → Ending → Head → Air → Station
end_first s e h a =
    with_recent (with_member s e.slot (end_member (member_at s e.slot) e (is_member s.used e.slot) h a))
    (set s.recent (index_of e.slot) (end_recent (recent_at s (index_of e.slot)) e (is_member s.used e.slot) a))

-- and the source whose traffic it was to forward
abbrev pub end_second : Station → Ending → Station
end_second s e =
    with_member s e.reply.relayfor (end_source s.hears s.used (member_at s e.reply.relayfor) e e.reply.relayfor)

unfoldable pub end_station : Station → Ending → Head → Air → Station
end_station s e h a =
    let m = member_at s e.slot in
    let k = end_member m e (is_member s.used e.slot) h a in
    let totals = end_totals s.totals e (silent_at s.settings.misslimit m) (silent_at s.settings.misslimit k) in
    with_totals (with_wait (end_second (end_first s e h a) e) (end_wait s.wait e)) totals

unfoldable pub end_burst : Station → Ending → Head → Air → ℕ → List ℕ
end_burst s e h a heard =
    end_words e h heard
    (end_level s.settings (end_member (member_at s e.slot) e (is_member s.used e.slot) h a) (is_member s.used e.slot))
