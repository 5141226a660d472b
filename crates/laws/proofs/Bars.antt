-- After any calls from a start a boat's barred numbers are near the lowest one not handed over, and those of boats that meet item 3's premises are of messages that
-- claim too much. Assumes nothing.
use mathlib.Core.Path.{ap, ◌∙◌, subst}
use Rattle.bits.proofs.Lists.{cond_true}
use Rattle.stream.specs.declared.window.Window.{Window}
use Rattle.stream.specs.Window.{fresh_of, barred_of}
use Rattle.stream.proofs.Windows.{Sound, barred_near}
use Rattle.net.specs.State.{member_at}
use Rattle.net.specs.Net.{is_member}
use Rattle.promise.specs.Promise.{after, started, sent_now, empty_book}
use Rattle.promise.proofs.Sounds.{runs_fit}
use Rattle.promise.proofs.Messages.{started_tied}
use Rattle.laws.specs.Bars.{LongBarred, BarsNear}
use Rattle.laws.proofs.Marks.{calls_tied}

pub bars_near : BarsNear
bars_near s g store e cs i here k barred =
    let n = after cs (started s g store) in
    let w = (member_at n.station i).up in
    let sound : Sound w = subst Sound (cond_true (is_member n.station.used i) w fresh_of here) ((runs_fit s g store e cs).view.sound i) in
    let near = barred_near w k sound barred in
    (near.0, near.1, sound.apart k barred)

pub long_barred : LongBarred
long_barred s g store e cs M small ok i on here k barred =
    let n = started s g store in
    let t = (after cs n).station in
    (calls_tied M small cs n empty_book (started_tied (sent_now M empty_book) s g store e) ok).tie.claimed i k on
    (ap (λ (w : Window). barred_of w k) (cond_true (is_member t.used i) (member_at t i).up fresh_of here) ∙ barred)
