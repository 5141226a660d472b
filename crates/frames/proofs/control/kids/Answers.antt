use mathlib.Core.Path.{refl, sym, ◌∙◌}
use mathlib.Core.List.{[]}
use native.Mathlib.Omega.{arith}
use Rattle.net.specs.Net.{said}
use Rattle.frames.specs.Control.{payload_of, kid_entry, kids_frame}
use Rattle.frames.proofs.Entries.{rest_on, going_end, kid_stored, kid_left, did_none}
use Rattle.frames.proofs.control.kids.Goals as goal
use Rattle.frames.proofs.control.kids.Goals.{then-is_kid, else-is_kid}

pub loop-e-init : goal.loop-e-init
loop-e-init c = (
  omega arith,
  record {
    done = said c.args.s [];
    rest = record {
      turns = 128;
      enough = omega (
        arith,
        c.type_inv.p.1.1.0,
      );
      same = refl;
    };
    did = did_none _ _;
  },
)

pub loop-e-preserved : goal.loop-e-preserved
loop-e-preserved c =
    let p = payload_of c.args.p.now in
    let g = c.loop-e.invariant.1 in
    let h = rw c.from-n.ensures at c.loop-e-test.true in
    let rest = rest_on _ _ _ _ _ _ g.rest h in
    elim c.if-is_kid.branch [
      | then-is_kid w ↦
          rw (w.o-is, w.s-is) (
            omega (arith, h, c.type_inv.p.1.1.0),
            record {
              done = kid_entry c.args.a p c.args.slot c.loop-e.e g.done;
              rest = rest;
              did = kid_stored c.args.a p c.args.slot c.loop-e.e _ _ c.byte-c.ensures c.byte-b.ensures
                  g.done c.loop-e.s _ _ _ _ _ g.did c.index-i.ensures c.is_member.ensures (sym c.is_kid.ensures ∙ w.if-is_kid.true)
                  w.kid_member-k.ensures w.kid_recent.ensures w.tally-silent.ensures w.kid_event.ensures;
            },
          )
      | else-is_kid w ↦
          rw (w.o-is, w.s-is) (
            omega (arith, h, c.type_inv.p.1.1.0),
            record {
              done = kid_entry c.args.a p c.args.slot c.loop-e.e g.done;
              rest = rest;
              did = kid_left c.args.a p c.args.slot c.loop-e.e _ _ c.byte-c.ensures c.byte-b.ensures
                  g.done c.loop-e.s _ _ g.did c.index-i.ensures c.is_member.ensures (sym c.is_kid.ensures ∙ w.if-is_kid.false);
            },
          )
    ]

pub returns : goal.returns
unfolding kids_frame
returns c = going_end _ _ _ _ _ _ _ _ c.loop-e.invariant.1 (omega (arith, c.from-n.ensures))
