-- The sending end as a host holds it: its numbers, field by field, and the messages' in an array for each.
use Rattle.std.specs.Prelude.{ℕ, List, [], ◌∷◌, map, Result, Ok, Err}
use Rattle.refusal.specs.declared.Refusal.{Refusal}
use Rattle.refusal.specs.Numbers.{number_of}
use Rattle.outbox.specs.declared.sender.Message.{Message}
use Rattle.outbox.specs.declared.sender.Sender.{Sender}
use Rattle.shore.specs.declared.sending.Outgoing.{Outgoing}
use Rattle.shore.specs.declared.sending.Left.{Left}
use Rattle.shore.specs.declared.sending.Unsent.{Unsent}

-- the messages of three arrays, as many as the shortest has
unfoldable pub messages_of : List ℕ → List ℕ → List ℕ → List Message
messages_of [] ts cs = []
messages_of (q ∷ qs) [] cs = []
messages_of (q ∷ qs) (t ∷ ts) [] = []
messages_of (q ∷ qs) (t ∷ ts) (c ∷ cs) = record { seq = q; total = t; cut = c } ∷ messages_of qs ts cs

unfoldable pub sender_of : Outgoing → Sender
sender_of o = record { next = o.next; count = o.count; messages = messages_of o.seqs o.totals o.cuts }

unfoldable pub outgoing_of : Sender → Outgoing
outgoing_of s =
    record { count = s.count; next = s.next; seqs = map (λ m. m.seq) s.messages; totals = map (λ m. m.total) s.messages; cuts = map (λ m. m.cut) s.messages }

abbrev pub left_of : Sender → ℕ → ℕ → Left
left_of s words refusal = record { sender = outgoing_of s; words = words; refusal = refusal }

abbrev pub waiting_of : Result ℕ Refusal → Unsent
waiting_of (Ok n) = record { bytes = n; refusal = 0 }
waiting_of (Err r) = record { bytes = 0; refusal = number_of r }
