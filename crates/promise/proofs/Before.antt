-- Of calls without sign-offs item 3 says what it said before sign-offs were there: `Before` is that statement, by its own definitions of turns and of messages, and
-- follows. Assumes nothing.
use Rattle.std.specs.Prelude.{Option, Some, None}
use mathlib.Core.Path.{◌≡◌, refl, sym, ◌∙◌, subst}
use mathlib.Core.Bool.{Bool, true, false, cond, ◌&&◌, ◌||◌}
use mathlib.Core.List.{List, [], ◌∷◌, ◌++◌}
use Prim.Native.Nat.{ℕ, ◌/◌, ◌%◌, ◌≤◌}
use lib.Dec.{T, eqb}
use lib.ListN.{length}
use Rattle.bits.proofs.Lists.{cond_keeps}
use Rattle.wire.specs.Kinds.{tiny, k_poll, k_pollack, k_ack, k_relay}
use Rattle.words.specs.Words.{head_of}
use Rattle.words.specs.declared.Head.{Head}
use Rattle.net.specs.declared.Station.{Station}
use Rattle.config.specs.declared.Given.{Given}
use Rattle.station.specs.Entries.{start_refusal}
use Rattle.promise.specs.Promise.{TurnEvent, drew, over, poll, ack, struck, over_if, drew_if, outcome, burst_by, Net, Call, admission, reception, decision, sending, closing, reading, freeing, charging, signing, asking, result, in_book, is_refused, step, after, started, LinksHold, bursts_in, turn_events, trace, has, View, empty_view, begins, view, Spread, OneTurn, TurnsHold, Stays, Sent, Message, Book, empty_book, Entered, unchanged, also_handed, same, answers_of, book_done, book_call, CallOk, AtCall, Once, Stayed, stayed, handed_in, also_stayed, OnceInStay, CallsOk, Holds, posting}
use Rattle.promise.proofs.CallEvents.{over_of, drew_of, behind_of, events_are}
use Rattle.promise.proofs.Item3.{item_3_short}

-- ---- the calls

abbrev pub NoSignOff : List Call → Type 0
NoSignOff [] = Unit {0}
NoSignOff (c ∷ cs) = ((slot : ℕ) → c ≡ signing slot → ⊥) × NoSignOff cs

-- ---- turns, as they were

-- the slots whose turns begin, in order
abbrev pub begun : View → List TurnEvent → List ℕ
begun v [] = []
begun v (drew l ∷ es) = begun (view v (drew l)) es
begun v (over s ∷ es) = begun (view v (over s)) es
begun v (poll s ∷ es) = cond (begins v s) (s ∷ begun (view v (poll s)) es) (begun (view v (poll s)) es)
begun v (ack s ∷ es) = begun v es
begun v (struck s ∷ es) = begun v es

abbrev pub SpreadBefore : List ℕ → List ℕ → List ℕ → Type 0
SpreadBefore l had [] = Unit {0}
SpreadBefore l had (s ∷ bs) = (T (has s had) → (t : ℕ) → T (has t l) → (t ≡ s → ⊥) → T (has t had)) × SpreadBefore l (s ∷ had) bs

abbrev pub AtBefore : View → TurnEvent → List TurnEvent → Type 0
AtBefore v (drew l) es = SpreadBefore l [] (begun (view v (drew l)) es)
AtBefore v (over s) es = T (has s v.run)
AtBefore v (poll s) es = T (has s v.list) × (T (begins v s) → OneTurn v s es)
AtBefore v (ack s) es = T (has s v.run)
AtBefore v (struck s) es = ⊥

abbrev pub TurnsBefore : View → List TurnEvent → Type 0
TurnsBefore v [] = Unit {0}
TurnsBefore v (e ∷ es) = AtBefore v e es × TurnsBefore (view v e) es

abbrev NoStruck : List TurnEvent → Type 0
NoStruck [] = Unit {0}
NoStruck (drew l ∷ es) = NoStruck es
NoStruck (over s ∷ es) = NoStruck es
NoStruck (poll s ∷ es) = NoStruck es
NoStruck (ack s ∷ es) = NoStruck es
NoStruck (struck s ∷ es) = ⊥

spread : (l had : List ℕ) (v : View) (es : List TurnEvent) → NoStruck es → Spread l had v es → SpreadBefore l had (begun v es)
spread l had v [] n h = tt
spread l had v (drew m ∷ es) n h = spread l had (view v (drew m)) es n h
spread l had v (over s ∷ es) n h = spread l had (view v (over s)) es n h
spread l had v (poll s ∷ es) n h =
    go (begins v s) refl h.0 (λ x q. spread l x (view v (poll s)) es n q) h.1
  where
    go : (b : Bool) → begins v s ≡ b → (T b → T (has s had) → (t : ℕ) → T (has t l) → (t ≡ s → ⊥) → T (has t had))
        → ((x : List ℕ) → Spread l x (view v (poll s)) es → SpreadBefore l x (begun (view v (poll s)) es)) → Spread l (cond b (s ∷ had) had) (view v (poll s)) es
        → SpreadBefore l had (cond b (s ∷ begun (view v (poll s)) es) (begun (view v (poll s)) es))
    go true e f ih q = (f tt, ih (s ∷ had) q)
    go false e f ih q = ih had q
spread l had v (ack s ∷ es) n h = spread l had v es n h
spread l had v (struck s ∷ es) n h = absurd n

turns_before : (v : View) (es : List TurnEvent) → NoStruck es → TurnsHold v es → TurnsBefore v es
turns_before v [] n h = tt
turns_before v (drew l ∷ es) n h = (spread l [] (view v (drew l)) es n h.0, turns_before (view v (drew l)) es n h.1)
turns_before v (over s ∷ es) n h = (h.0, turns_before (view v (over s)) es n h.1)
turns_before v (poll s ∷ es) n h = (h.0, turns_before (view v (poll s)) es n h.1)
turns_before v (ack s ∷ es) n h = (h.0, turns_before (view v (ack s)) es n h.1)
turns_before v (struck s ∷ es) n h = absurd n

-- no event of such calls is a sign-off
none_append : (es fs : List TurnEvent) → NoStruck es → NoStruck fs → NoStruck (es ++ fs)
none_append [] fs a b = b
none_append (drew l ∷ es) fs a b = none_append es fs a b
none_append (over s ∷ es) fs a b = none_append es fs a b
none_append (poll s ∷ es) fs a b = none_append es fs a b
none_append (ack s ∷ es) fs a b = none_append es fs a b
none_append (struck s ∷ es) fs a b = absurd a

none_over : (o : Option ℕ) → NoStruck (over_if o)
none_over None = tt
none_over (Some s) = tt

none_drew : (o : Option ℕ) → NoStruck (drew_if o)
none_drew None = tt
none_drew (Some m) = tt

none_burst : (h : Head) → NoStruck (burst_by h)
none_burst h = go (eqb h.code tiny && (eqb h.hi k_poll || eqb h.hi k_relay)) (eqb h.code tiny && (eqb h.hi k_pollack || eqb h.hi k_ack))
  where
    go : (a b : Bool) → NoStruck (cond a (poll (h.extra % 64) ∷ []) (cond b (ack (h.extra % 64) ∷ []) []))
    go true b = tt
    go false true = tt
    go false false = tt

none_bursts : (ws : List ℕ) → NoStruck (bursts_in ws)
unfolding bursts_in
none_bursts [] = tt
none_bursts (w ∷ ws) =
    cond_keeps NoStruck (eqb (w / 268435456) 8) (burst_by (head_of w) ++ bursts_in ws) (bursts_in ws)
    (λ _. none_append (burst_by (head_of w)) (bursts_in ws) (none_burst (head_of w)) (none_bursts ws)) (λ _. none_bursts ws)

none_result : (c : Call) (n : Net) → ((slot : ℕ) → c ≡ signing slot → ⊥) → NoStruck (result c n).before × NoStruck (result c n).behind
none_result c n f =
    let e = events_are c n f in
    (subst NoStruck (sym e.0) (none_append (over_if (over_of c n)) (drew_if (drew_of c n)) (none_over (over_of c n)) (none_drew (drew_of c n))), subst NoStruck (sym e.1) (none_over (behind_of c n)))

none_call : (c : Call) (n : Net) → ((slot : ℕ) → c ≡ signing slot → ⊥) → NoStruck (turn_events c n)
unfolding turn_events
none_call c n f =
    let r = none_result c n f in
    let ws = (outcome c n).words in
    cond_keeps NoStruck (is_refused c n) [] ((result c n).before ++ (bursts_in ws ++ (result c n).behind)) (λ _. tt)
    (λ _. none_append (result c n).before (bursts_in ws ++ (result c n).behind) r.0 (none_append (bursts_in ws) (result c n).behind (none_bursts ws) r.1))

none_trace : (cs : List Call) (n : Net) → NoSignOff cs → NoStruck (trace cs n)
unfolding trace
none_trace [] n f = tt
none_trace (c ∷ cs) n f = none_append (turn_events c n) (trace cs (step c n)) (none_call c n f.0) (none_trace cs (step c n) f.1)

-- ---- messages, as they were: of a slot and a number

unfoldable pub CallsBefore : Sent → List Call → Net → Book → Type 0
CallsBefore M [] n b = Unit {0}
CallsBefore M (c ∷ cs) n b = CallOk M (in_book c) (answers_of c n) b × CallsBefore M cs (step c n) (book_call M c n b).left

unfoldable pub HoldsBefore : Sent → ℕ → List Call → Net → Book → Type 0
HoldsBefore M count [] n b = Unit {0}
HoldsBefore M count (c ∷ cs) n b =
    AtCall M count (in_book c) (answers_of c n).events (book_call M c n b).out n b × HoldsBefore M count cs (step c n) (book_call M c n b).left

unfoldable pub handed_before : Sent → List Call → Net → Book → List Message
handed_before M [] n b = []
handed_before M (c ∷ cs) n b = (book_call M c n b).out ++ handed_before M cs (step c n) (book_call M c n b).left

-- one statement for all stays
abbrev stays : Sent → Stays
stays M = record { watched = λ s t. M.watched s; text = λ s t k. M.text s k }

calls_now : (M : Sent) (cs : List Call) (n : Net) (b : Book) → CallsBefore M cs n b → CallsOk (stays M) cs n b
unfolding CallsBefore CallsOk
calls_now M [] n b ok = tt
calls_now M (c ∷ cs) n b ok = (ok.0, calls_now M cs (step c n) (book_call M c n b).left ok.1)

holds_before : (M : Sent) (count : ℕ) (cs : List Call) (n : Net) (b : Book) → Holds (stays M) count cs n b → HoldsBefore M count cs n b
unfolding Holds HoldsBefore
holds_before M count [] n b h = tt
holds_before M count (c ∷ cs) n b h = (h.0, holds_before M count cs (step c n) (book_call M c n b).left h.1)

-- the stays are the first ones
done_stay : (M : Sent) (c : Call) (n : Net) (b : Book) → ((slot : ℕ) → c ≡ signing slot → ⊥) → (book_done M (in_book c) (answers_of c n) b).left.stay ≡ b.stay
done_stay M (admission packed relay now room) n b f = refl
done_stay M (reception words snr now lent room numbers) n b f = refl
done_stay M (decision now queue room) n b f = refl
done_stay M (posting slot message queue) n b f = refl
done_stay M (sending now) n b f = refl
done_stay M (closing count) n b f = refl
done_stay M (reading cell lent) n b f = refl
done_stay M (freeing cell) n b f = refl
done_stay M (charging figures) n b f = refl
done_stay M (signing slot) n b f = absurd (f slot refl)
done_stay M (asking slot) n b f = refl

call_stay : (M : Sent) (c : Call) (n : Net) (b : Book) → ((slot : ℕ) → c ≡ signing slot → ⊥) → (book_call M c n b).left.stay ≡ b.stay
call_stay M c n b f = cond_keeps (λ (e : Entered Book). e.left.stay ≡ b.stay) (answers_of c n).refused (unchanged b) _ (λ _. refl) (λ _. done_stay M c n b f)

also_first : (f : ℕ → ℕ → ℕ → Bool) (m : Message) → (λ (s k : ℕ). also_stayed (record { slot = m.slot; stay = 0; number = m.number }) f s 0 k) ≡ also_handed m.slot m.number (λ s k. f s 0 k)
unfolding also_stayed also_handed
also_first f m = λ j s k. at (same m.slot m.number s k) (f s 0 k) j
  where
    at : (b x : Bool) → cond (b && eqb 0 0) true x ≡ cond b true x
    at true x = refl
    at false x = refl

once_first : (ms : List Message) (xs : List Stayed) (ys : List Message) (f : ℕ → ℕ → ℕ → Bool) → ((g : ℕ → ℕ → ℕ → Bool) → OnceInStay xs g → Once ys (λ s k. g s 0 k))
    → OnceInStay (stayed (λ s. 0) ms ++ xs) f → Once (ms ++ ys) (λ s k. f s 0 k)
once_first [] xs ys f rest o = rest f o
once_first (m ∷ ms) xs ys f rest o =
    (o.0, subst (Once (ms ++ ys)) (also_first f m) (once_first ms xs ys (also_stayed (record { slot = m.slot; stay = 0; number = m.number }) f) rest o.1))

once_before : (M : Sent) (cs : List Call) (n : Net) (b : Book) → NoSignOff cs → b.stay ≡ (λ s. 0) → (f : ℕ → ℕ → ℕ → Bool)
    → OnceInStay (handed_in (stays M) cs n b) f → Once (handed_before M cs n b) (λ s k. f s 0 k)
unfolding handed_in handed_before
once_before M [] n b z e f o = tt
once_before M (c ∷ cs) n b z e f o =
    let k = book_call M c n b in
    once_first k.out (handed_in (stays M) cs (step c n) k.left) (handed_before M cs (step c n) k.left) f
    (λ g q. once_before M cs (step c n) k.left z.1 (call_stay M c n b z.0 ∙ e) g q)
    (subst (λ (stay : ℕ → ℕ). OnceInStay (stayed stay k.out ++ handed_in (stays M) cs (step c n) k.left) f) e o)

pub record MessagesBefore (M : Sent) (n : Net) (cs : List Call) : Type 0 where
  pub calls : HoldsBefore M n.station.count cs n empty_book
  pub once : Once (handed_before M cs n empty_book) (λ s k. false)

-- ---- the statement

pub record PromiseBefore (n : Net) (cs : List Call) : Type 0 where
  pub links : LinksHold (after cs n).station
  pub turns : TurnsBefore empty_view (trace cs n)
  pub messages : (M : Sent) → ((s k : ℕ) → M.watched s ≡ true → length (M.text s k) ≤ 2046) → CallsBefore M cs n empty_book → MessagesBefore M n cs

abbrev pub Before : Type 0
Before =
    (s : Station) (g : Given) (store : List ℕ) → start_refusal g (length store) ≡ 0 → (cs : List Call) → NoSignOff cs → PromiseBefore (started s g store) cs

pub before : Before
before s g store e cs z =
    let n = started s g store in
    let p = item_3_short s g store e cs in
    record {
      links = p.links;
      turns = turns_before empty_view (trace cs n) (none_trace cs n z) p.turns;
      messages = λ M small ok.
          let m = p.messages (stays M) (λ s t k. small s k) (calls_now M cs n empty_book ok) in
          record { calls = holds_before M n.station.count cs n empty_book m.calls; once = once_before M cs n empty_book z refl (λ s t k. false) m.once };
    }
