-- Assumes nothing.
use Rattle.out.proofs.Laws.{writes_then, writes_none, writes_as}
use Rattle.bursts.specs.Bursts.{rx_list_burst}
use Rattle.bursts.proofs.Listing.{sent_by_lem}
use Rattle.bursts.proofs.rx_list_burst.Goals as goal

pub returns-then-news-is_empty : goal.returns-then-news-is_empty
unfolding rx_list_burst
returns-then-news-is_empty c =
    let e = sent_by_lem c.args.s _ _ _ (rw (← c.list_rows-list.ensures) c.is_empty.ensures) c.any_holes.ensures c.if-news-is_empty.true in
    rw e (record { station = c.tell_all-s.ensures; wrote = writes_none _ })

pub returns : goal.returns
unfolding rx_list_burst
returns c =
    let e = sent_by_lem c.args.s _ _ _ (rw (← c.list_rows-list.ensures) c.is_empty.ensures) c.any_holes.ensures c.if-news-is_empty.false in
    rw e
    (record {
      station = rw (c.one_more-lists.ensures, c.sending-v.ensures, c.tell_all-s.ensures);
      wrote =
          writes_as
          (writes_then c.head.ensures c.chunks.ensures)
          (rw (c.least_direct-lev.ensures, c.as_slice.ensures.value, c.list_rows-list.ensures));
    })
