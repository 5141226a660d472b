-- With every boat watched item 3 is what it said of all boats together: the definitions below are of that statement, with no boat's being watched in them, polls and
-- acknowledgements counted apart, and `everyone` is it, from `item_3_short`. Assumes nothing.
use Rattle.std.specs.Prelude.{Option, Some, None}
use mathlib.Core.Path.{◌≡◌, refl, sym, ap, ◌∙◌, subst}
use mathlib.Core.Bool.{Bool, true, false, not, cond, ◌&&◌}
use mathlib.Core.List.{List, [], ◌∷◌, ◌++◌}
use Prim.Native.Nat.{ℕ, suc, ◌+◌, ◌/◌, ◌%◌, ◌≤◌, ◌<◌}
use native.Mathlib.Omega.{arith}
use lib.Dec.{T, eqb}
use lib.ListN.{length, get_or}
use Rattle.bits.specs.Mask.{has_bit}
use Rattle.words.specs.Words.{Heard, lost, heard, parse}
use Rattle.inbox.specs.Messages.{framed, Cut}
use Rattle.net.specs.declared.Station.{Station}
use Rattle.config.specs.declared.Given.{Given}
use Rattle.station.specs.Entries.{start_refusal, read_refusal, reading_of}
use Rattle.promise.specs.Promise as now
use Rattle.promise.specs.Promise.{Net, InBook, brings, reads, frees, ends, changes_nothing, Call, in_book, step, after, started, LinksHold, TurnEvent, drew, over, poll, ack, struck, has, View, empty_view, begins, view, Spread, trace, Message, Ledger, Book, empty_book, Entered, unchanged, cover, also_handed, all_below, is_boats, frames_by, Event2, enter, enter_all, named, Answers, answers_of, book_ends, Lowest, LentOk, Pairs, Rising, Once, Stayed, stayed, OnceInStay}
use Rattle.promise.proofs.Item3.{item_3_short}

-- ---- the statement: turns

abbrev pub polls_till : ℕ → List TurnEvent → ℕ
polls_till s [] = 0
polls_till s (drew l ∷ es) = polls_till s es
polls_till s (over x ∷ es) = cond (eqb x s) 0 (polls_till s es)
polls_till s (poll x ∷ es) = cond (eqb x s) (suc (polls_till s es)) (polls_till s es)
polls_till s (ack x ∷ es) = polls_till s es
polls_till s (struck x ∷ es) = cond (eqb x s) 0 (polls_till s es)

abbrev pub acks_till : ℕ → List TurnEvent → ℕ
acks_till s [] = 0
acks_till s (drew l ∷ es) = acks_till s es
acks_till s (over x ∷ es) = cond (eqb x s) 0 (acks_till s es)
acks_till s (poll x ∷ es) = acks_till s es
acks_till s (ack x ∷ es) = cond (eqb x s) (suc (acks_till s es)) (acks_till s es)
acks_till s (struck x ∷ es) = cond (eqb x s) 0 (acks_till s es)

pub record OneTurn (v : View) (s : ℕ) (es : List TurnEvent) : Type 0 where
  pub alone : v.run ≡ []
  pub polls : suc (polls_till s es) ≤ 5
  pub acks : acks_till s es ≤ 4

abbrev pub AtEvent : View → TurnEvent → List TurnEvent → Type 0
AtEvent v (drew l) es = Spread l [] (view v (drew l)) es
AtEvent v (over s) es = T (has s v.run)
AtEvent v (poll s) es = T (has s v.list) × (T (begins v s) → OneTurn v s es)
AtEvent v (ack s) es = T (has s v.run)
AtEvent v (struck s) es = Unit {0}

abbrev pub TurnsHold : View → List TurnEvent → Type 0
TurnsHold v [] = Unit {0}
TurnsHold v (e ∷ es) = AtEvent v e es × TurnsHold (view v e) es

-- ---- the statement: messages

abbrev pub Stays : Type 0
Stays = ℕ → ℕ → ℕ → List ℕ

abbrev pub Sent : Type 0
Sent = ℕ → ℕ → List ℕ

abbrev pub sent_now : Stays → Book → Sent
sent_now M b s k = M s (b.stay s) k

abbrev pub completes : Sent → ℕ → ℕ → Ledger → (ℕ → ℕ → ℕ → Bool) → Bool
completes M s k l f = not (l.handed s k) && all_below (2 + length (M s k)) (f s k)

abbrev pub book_piece : Sent → ℕ → ℕ → ℕ → ℕ → Ledger → Entered Ledger
book_piece M s k o n l =
    let f = cover s k o n l.covered in
    cond (completes M s k l f)
    (record { left = record { covered = f; handed = also_handed s k l.handed }; out = record { slot = s; number = k } ∷ [] })
    (unchanged (record { covered = f; handed = l.handed }))

unfoldable pub book_frame : Sent → Heard → ℕ → ℕ → Bool → Ledger → Entered Ledger
book_frame M lost k seen marked l = unchanged l
book_frame M (heard flags field p) k seen marked l =
    cond (is_boats flags seen && not marked) (book_piece M (flags % 64) k (field % 65536) (length p) l) (unchanged l)

unfoldable pub book_frames : Sent → List Heard → ℕ → List ℕ → List ℕ → ℕ → Ledger → Entered Ledger
book_frames M [] i numbers seen mask l = unchanged l
book_frames M (f ∷ fs) i numbers seen mask l =
    let e = book_frame M f (get_or numbers i 0) (get_or seen i 0) (has_bit mask i) l in
    let r = book_frames M fs (i + 1) numbers seen mask e.left in
    record { left = r.left; out = e.out ++ r.out }

abbrev pub book_done : Sent → InBook → Answers → Book → Entered Book
book_done M (brings words numbers lent) a b =
    let r = book_frames M (frames_by (parse words)) 0 numbers a.seen a.mask b.ledger in
    record { left = record { ledger = r.left; entry = enter_all a.events r.out b.entry; stay = b.stay }; out = r.out }
book_done M (reads cell lent) a b = unchanged b
book_done M (frees cell) a b = unchanged (record { ledger = b.ledger; entry = enter cell None b.entry; stay = b.stay })
book_done M (ends slot) a b = unchanged (book_ends slot b)
book_done M changes_nothing a b = unchanged b

abbrev pub book_call : Sent → Call → Net → Book → Entered Book
book_call M c n b = cond (answers_of c n).refused (unchanged b) (book_done M (in_book c) (answers_of c n) b)

pub record PieceOk (M : Sent) (l : Ledger) (s k field : ℕ) (p : List ℕ) : Type 0 where
  pub eight : field / 65536 % 256 ≡ k % 256
  pub cut : Cut (framed (M s k)) (field % 65536) p
  pub near : (n : ℕ) → Lowest l s n → (n ≤ k + 128) × (k ≤ n + 127)

abbrev pub FrameOk : Sent → Ledger → Heard → ℕ → ℕ → Type 0
FrameOk M l lost k seen = Unit {0}
FrameOk M l (heard flags field p) k seen = is_boats flags seen ≡ true → PieceOk M l (flags % 64) k field p

abbrev pub FramesOk : Sent → List Heard → ℕ → List ℕ → List ℕ → ℕ → Ledger → Type 0
FramesOk M [] i numbers seen mask l = Unit {0}
FramesOk M (f ∷ fs) i numbers seen mask l =
    FrameOk M l f (get_or numbers i 0) (get_or seen i 0)
    × FramesOk M fs (i + 1) numbers seen mask (book_frame M f (get_or numbers i 0) (get_or seen i 0) (has_bit mask i) l).left

abbrev pub CallOk : Sent → InBook → Answers → Book → Type 0
CallOk M (brings words numbers lent) a b =
    LentOk lent a.refused × (a.refused ≡ false → FramesOk M (frames_by (parse words)) 0 numbers a.seen a.mask b.ledger)
CallOk M (reads cell lent) a b = LentOk lent a.refused
CallOk M (frees cell) a b = Unit {0}
CallOk M (ends slot) a b = Unit {0}
CallOk M changes_nothing a b = Unit {0}

unfoldable pub CallsOk : Stays → List Call → Net → Book → Type 0
CallsOk M [] n b = Unit {0}
CallsOk M (c ∷ cs) n b = CallOk (sent_now M b) (in_book c) (answers_of c n) b × CallsOk M cs (step c n) (book_call (sent_now M b) c n b).left

pub record Paired (count : ℕ) (es : List Event2) (ms : List Message) (b : Book) : Type 0 where
  pub pairs : Pairs count es ms b.entry
  pub rising : Rising ms
  pub once : Once ms b.ledger.handed

abbrev pub ReadsAs : Sent → Option Message → Net → ℕ → Type 0
ReadsAs M None n cell = read_refusal (length n.store) n.station.count n.station.landed cell ≡ 22
ReadsAs M (Some m) n cell =
    (read_refusal (length n.store) n.station.count n.station.landed cell ≡ 0)
    × (reading_of n.station n.store cell ≡ M m.slot m.number)

abbrev pub AtCall : Sent → ℕ → InBook → List Event2 → List Message → Net → Book → Type 0
AtCall M count (brings words numbers lent) es out n b = Paired count es out b
AtCall M count (reads cell lent) es out n b = (es ≡ []) × (cell < count → ReadsAs M (b.entry cell) n cell)
AtCall M count (frees cell) es out n b = es ≡ []
AtCall M count (ends slot) es out n b = es ≡ []
AtCall M count changes_nothing es out n b = es ≡ []

unfoldable pub Holds : Stays → ℕ → List Call → Net → Book → Type 0
Holds M count [] n b = Unit {0}
Holds M count (c ∷ cs) n b =
    let N = sent_now M b in
    AtCall N count (in_book c) (answers_of c n).events (book_call N c n b).out n b × Holds M count cs (step c n) (book_call N c n b).left

unfoldable pub handed_in : Stays → List Call → Net → Book → List Stayed
handed_in M [] n b = []
handed_in M (c ∷ cs) n b = stayed b.stay (book_call (sent_now M b) c n b).out ++ handed_in M cs (step c n) (book_call (sent_now M b) c n b).left

pub record Messages (M : Stays) (n : Net) (cs : List Call) : Type 0 where
  pub calls : Holds M n.station.count cs n empty_book
  pub once : OnceInStay (handed_in M cs n empty_book) (λ s t k. false)

pub record Promise (n : Net) (cs : List Call) : Type 0 where
  pub links : LinksHold (after cs n).station
  pub turns : TurnsHold empty_view (trace cs n)
  pub messages : (M : Stays) → ((s t k : ℕ) → length (M s t k) ≤ 2046) → CallsOk M cs n empty_book → Messages M n cs

abbrev pub Everyone : Type 0
Everyone = (s : Station) (g : Given) (store : List ℕ) → start_refusal g (length store) ≡ 0 → (cs : List Call) → Promise (started s g store) cs

-- ---- the same turns

counted : (b : Bool) (t n : ℕ) → t ≡ n → cond b 1 0 + t ≡ cond b (suc n) n
counted true t n e = omega arith
counted false t n e = omega arith

uncounted : (b : Bool) (t n : ℕ) → t ≡ n → cond b 0 0 + t ≡ n
uncounted true t n e = omega arith
uncounted false t n e = omega arith

polls_same : (s : ℕ) (es : List TurnEvent) → now.till 1 0 s es ≡ polls_till s es
polls_same s [] = refl
polls_same s (drew l ∷ es) = polls_same s es
polls_same s (over x ∷ es) = ap (cond (eqb x s) 0) (polls_same s es)
polls_same s (poll x ∷ es) = counted (eqb x s) (now.till 1 0 s es) (polls_till s es) (polls_same s es)
polls_same s (ack x ∷ es) = uncounted (eqb x s) (now.till 1 0 s es) (polls_till s es) (polls_same s es)
polls_same s (struck x ∷ es) = ap (cond (eqb x s) 0) (polls_same s es)

acks_same : (s : ℕ) (es : List TurnEvent) → now.till 0 1 s es ≡ acks_till s es
acks_same s [] = refl
acks_same s (drew l ∷ es) = acks_same s es
acks_same s (over x ∷ es) = ap (cond (eqb x s) 0) (acks_same s es)
acks_same s (poll x ∷ es) = uncounted (eqb x s) (now.till 0 1 s es) (acks_till s es) (acks_same s es)
acks_same s (ack x ∷ es) = counted (eqb x s) (now.till 0 1 s es) (acks_till s es) (acks_same s es)
acks_same s (struck x ∷ es) = ap (cond (eqb x s) 0) (acks_same s es)

event_same : (v : View) (e : TurnEvent) (es : List TurnEvent) → now.AtEvent v e es → AtEvent v e es
event_same v (drew l) es h = h
event_same v (over s) es h = h
event_same v (poll s) es h = (
  h.0,
  λ b.
      let o = h.1 b in
      record {
        alone = o.alone;
        polls = subst (λ (n : ℕ). suc n ≤ 5) (polls_same s es) o.polls;
        acks = subst (λ (n : ℕ). n ≤ 4) (acks_same s es) o.acks;
      },
)
event_same v (ack s) es h = h
event_same v (struck s) es h = h

turns_same : (v : View) (es : List TurnEvent) → now.TurnsHold v es → TurnsHold v es
turns_same v [] h = tt
turns_same v (e ∷ es) h = (event_same v e es h.0, turns_same (view v e) es h.1)

-- ---- every boat watched

abbrev pub all : Sent → now.Sent
all M = record { watched = λ s. true; text = M }

abbrev pub all_stays : Stays → now.Stays
all_stays M = record { watched = λ s t. true; text = M }

named_all : (es : List Event2) (ms : List Message) → named (λ s. true) es ms ≡ ms
named_all [] ms = refl
named_all (e ∷ es) [] = refl
named_all (e ∷ es) (m ∷ ms) = ap (λ (l : List Message). m ∷ l) (named_all es ms)

-- ---- the same book

frame_same : (M : Sent) (h : Heard) (k seen : ℕ) (marked : Bool) (l : Ledger) → now.book_frame (all M) h k seen marked l ≡ book_frame M h k seen marked l
unfolding book_frame now.book_frame
frame_same M lost k seen marked l = refl
frame_same M (heard flags field p) k seen marked l = refl

abbrev joined : Entered Ledger → Entered Ledger → Entered Ledger
joined e r = record { left = r.left; out = e.out ++ r.out }

frames_same : (M : Sent) (fs : List Heard) (i : ℕ) (numbers seen : List ℕ) (mask : ℕ) (l : Ledger)
    → now.book_frames (all M) fs i numbers seen mask l ≡ book_frames M fs i numbers seen mask l
unfolding book_frames now.book_frames
frames_same M [] i numbers seen mask l = refl
frames_same M (f ∷ fs) i numbers seen mask l =
    let e = book_frame M f (get_or numbers i 0) (get_or seen i 0) (has_bit mask i) l in
    ap (λ (x : Entered Ledger). joined x (now.book_frames (all M) fs (i + 1) numbers seen mask x.left)) (frame_same M f (get_or numbers i 0) (get_or seen i 0) (has_bit mask i) l)
    ∙ ap (joined e) (frames_same M fs (i + 1) numbers seen mask e.left)

done_same : (M : Sent) (k : InBook) (a : Answers) (b : Book) → now.book_done (all M) k a b ≡ book_done M k a b
done_same M (brings words numbers lent) a b =
    let r = book_frames M (frames_by (parse words)) 0 numbers a.seen a.mask b.ledger in
    ap (λ (x : Entered Ledger). entered x (named (λ s. true) a.events x.out)) (frames_same M (frames_by (parse words)) 0 numbers a.seen a.mask b.ledger)
    ∙ ap (entered r) (named_all a.events r.out)
  where
    entered : Entered Ledger → List Message → Entered Book
    entered x ms = record { left = record { ledger = x.left; entry = enter_all a.events ms b.entry; stay = b.stay }; out = x.out }
done_same M (reads cell lent) a b = refl
done_same M (frees cell) a b = refl
done_same M (ends slot) a b = refl
done_same M changes_nothing a b = refl

call_same : (M : Sent) (c : Call) (n : Net) (b : Book) → now.book_call (all M) c n b ≡ book_call M c n b
call_same M c n b = ap (cond (answers_of c n).refused (unchanged b)) (done_same M (in_book c) (answers_of c n) b)

handed_same : (M : Stays) (cs : List Call) (n : Net) (b : Book) → now.handed_in (all_stays M) cs n b ≡ handed_in M cs n b
unfolding handed_in now.handed_in
handed_same M [] n b = refl
handed_same M (c ∷ cs) n b =
    let e = book_call (sent_now M b) c n b in
    ap (λ (x : Entered Book). stayed b.stay x.out ++ now.handed_in (all_stays M) cs (step c n) x.left) (call_same (sent_now M b) c n b)
    ∙ ap (λ (l : List Stayed). stayed b.stay e.out ++ l) (handed_same M cs (step c n) e.left)

-- ---- the same premises

frame_ok : (M : Sent) (l : Ledger) (h : Heard) (k seen : ℕ) → FrameOk M l h k seen → now.FrameOk (all M) l h k seen
frame_ok M l lost k seen ok = tt
frame_ok M l (heard flags field p) k seen ok = λ w. let o = ok w in record { eight = o.eight; cut = o.cut; near = o.near }

frames_ok : (M : Sent) (fs : List Heard) (i : ℕ) (numbers seen : List ℕ) (mask : ℕ) (l : Ledger)
    → FramesOk M fs i numbers seen mask l → now.FramesOk (all M) fs i numbers seen mask l
frames_ok M [] i numbers seen mask l ok = tt
frames_ok M (f ∷ fs) i numbers seen mask l ok = (
  frame_ok M l f (get_or numbers i 0) (get_or seen i 0) ok.0,
  subst (λ (e : Entered Ledger). now.FramesOk (all M) fs (i + 1) numbers seen mask e.left) (sym (frame_same M f (get_or numbers i 0) (get_or seen i 0) (has_bit mask i) l))
      (frames_ok M fs (i + 1) numbers seen mask (book_frame M f (get_or numbers i 0) (get_or seen i 0) (has_bit mask i) l).left ok.1),
)

call_ok : (M : Sent) (k : InBook) (a : Answers) (b : Book) → CallOk M k a b → now.CallOk (all M) k a b
call_ok M (brings words numbers lent) a b ok = (ok.0, λ q. frames_ok M (frames_by (parse words)) 0 numbers a.seen a.mask b.ledger (ok.1 q))
call_ok M (reads cell lent) a b ok = ok
call_ok M (frees cell) a b ok = tt
call_ok M (ends slot) a b ok = tt
call_ok M changes_nothing a b ok = tt

calls_ok : (M : Stays) (cs : List Call) (n : Net) (b : Book) → CallsOk M cs n b → now.CallsOk (all_stays M) cs n b
unfolding CallsOk now.CallsOk
calls_ok M [] n b ok = tt
calls_ok M (c ∷ cs) n b ok = (
  call_ok (sent_now M b) (in_book c) (answers_of c n) b ok.0,
  subst (λ (e : Entered Book). now.CallsOk (all_stays M) cs (step c n) e.left) (sym (call_same (sent_now M b) c n b))
      (calls_ok M cs (step c n) (book_call (sent_now M b) c n b).left ok.1),
)

-- ---- the same promise

reads_same : (M : Sent) (o : Option Message) (n : Net) (cell : ℕ) → now.ReadsAs (all M) o n cell → ReadsAs M o n cell
reads_same M None n cell h = h
reads_same M (Some m) n cell h = (h.0, h.1 refl)

at_same : (M : Sent) (count : ℕ) (k : InBook) (es : List Event2) (out : List Message) (n : Net) (b : Book)
    → now.AtCall (all M) count k es out n b → AtCall M count k es out n b
at_same M count (brings words numbers lent) es out n b h =
    record { pairs = subst (λ (ms : List Message). Pairs count es ms b.entry) (named_all es out) h.pairs; rising = h.rising; once = h.once }
at_same M count (reads cell lent) es out n b h = (h.0, λ a. reads_same M (b.entry cell) n cell (h.1 a))
at_same M count (frees cell) es out n b h = h
at_same M count (ends slot) es out n b h = h
at_same M count changes_nothing es out n b h = h

holds_same : (M : Stays) (count : ℕ) (cs : List Call) (n : Net) (b : Book) → now.Holds (all_stays M) count cs n b → Holds M count cs n b
unfolding Holds now.Holds
holds_same M count [] n b h = tt
holds_same M count (c ∷ cs) n b h =
    let q = call_same (sent_now M b) c n b in (
      subst (λ (e : Entered Book). AtCall (sent_now M b) count (in_book c) (answers_of c n).events e.out n b) q
          (at_same (sent_now M b) count (in_book c) (answers_of c n).events (now.book_call (all (sent_now M b)) c n b).out n b h.0),
      holds_same M count cs (step c n) (book_call (sent_now M b) c n b).left
          (subst (λ (e : Entered Book). now.Holds (all_stays M) count cs (step c n) e.left) q h.1),
    )

pub everyone : Everyone
everyone s g store e cs =
    let n = started s g store in
    let p = item_3_short s g store e cs in
    record {
      links = p.links;
      turns = turns_same empty_view (trace cs n) p.turns;
      messages = λ M small ok.
          let m = p.messages (all_stays M) (λ s t k on. small s t k) (calls_ok M cs n empty_book ok) in
          record {
            calls = holds_same M n.station.count cs n empty_book m.calls;
            once = subst (λ (l : List Stayed). OnceInStay l (λ s t k. false)) (handed_same M cs n empty_book) m.once;
          };
    }
