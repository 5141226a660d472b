-- The theorem `faithful`: reading back what was written is the identity, for every station. Assumes nothing.
use Rattle.std.specs.Prelude.{Option, Some, None, Float}
use mathlib.Core.Path.{◌≡◌, refl, ap}
use mathlib.Core.Bool.{Bool, true, false}
use mathlib.Core.List.{List, [], ◌∷◌, map}
use Rattle.level.specs.declared.Level.{Level}
use Rattle.level.specs.declared.Level.TheVariants.{Unheard, Decibels}
use Rattle.queue.specs.declared.Queue.{Queue}
use Rattle.roster.specs.declared.Member.{Member}
use Rattle.net.specs.declared.Turn.{Turn}
use Rattle.net.specs.declared.Turn.TheVariants.{Idle, Sending, Waiting}
use Rattle.net.specs.declared.Wait.{Wait}
use Rattle.net.specs.declared.Settings.{Settings}
use Rattle.net.specs.declared.Round.{Round}
use Rattle.outbox.specs.declared.sender.Message.{Message}
use Rattle.outbox.specs.declared.sender.Sender.{Sender}
use Rattle.shore.specs.Sending.{messages_of, sender_of, outgoing_of}
use Rattle.shore.specs.Blocks.{flag_of, is_set, reading_of, level_of, time_of, clock_of, await_by, await_of, wait_of, setup_of, settings_of, course_of, round_of, boat_of, member_of, line_of, queue_of, block_of, station_of, Faithful}

flag_back : (b : Bool) → is_set (flag_of b) ≡ b
flag_back true = refl
flag_back false = refl

pub level_back : (x : Level) → level_of (reading_of x) ≡ x
level_back Unheard = refl
level_back (Decibels x) = refl

pub clock_back : (t : Option Float) → clock_of (time_of t) ≡ t
clock_back None = refl
clock_back (Some t) = refl

turn_back : (t : Turn) (d : Option Float) → wait_of (await_by t d) ≡ record { turn = t; deadline = d }
turn_back Idle d = rw (clock_back d)
turn_back Sending d = rw (clock_back d)
turn_back (Waiting r) d = rw (clock_back d)

wait_back : (w : Wait) → wait_of (await_of w) ≡ w
wait_back w = turn_back w.turn w.deadline

settings_back : (g : Settings) → settings_of (setup_of g) ≡ g
settings_back g = rw (flag_back g.prime)

round_back : (r : Round) → round_of (course_of r) ≡ r
round_back r = rw (flag_back r.closed, flag_back r.traffic, flag_back r.rxdirty, flag_back r.activity)

member_back : (m : Member) → member_of (boat_of m) ≡ m
member_back m =
    rw (
      flag_back m.hascaps,
      flag_back m.hasversion,
      level_back m.snrup,
      level_back m.snrdown,
      level_back m.direct,
      clock_back m.lastheard,
    )

queue_back : (q : Queue) → queue_of (line_of q) ≡ q
queue_back q = rw (flag_back q.sent)

map_back : {A B : Type 0} (f : A → B) (g : B → A) → ((x : A) → g (f x) ≡ x) → (xs : List A) → map g (map f xs) ≡ xs
map_back f g e [] = refl
map_back f g e (x ∷ xs) = rw (e x, map_back f g e xs)

pub faithful : Faithful
unfolding block_of station_of
faithful s =
    rw (
      settings_back s.settings,
      wait_back s.wait,
      round_back s.round,
      map_back boat_of member_of member_back s.members,
      map_back line_of queue_of queue_back s.queues,
    )

-- the same of the sending end
messages_back : (l : List Message) → messages_of (map (λ m. m.seq) l) (map (λ m. m.total) l) (map (λ m. m.cut) l) ≡ l
unfolding messages_of
messages_back [] = refl
messages_back (m ∷ l) = ap (λ (x : List Message). m ∷ x) (messages_back l)

pub sender_back : (s : Sender) → sender_of (outgoing_of s) ≡ s
unfolding sender_of outgoing_of
sender_back s = ap (λ (x : List Message). record { next = s.next; count = s.count; messages = x }) (messages_back s.messages)
