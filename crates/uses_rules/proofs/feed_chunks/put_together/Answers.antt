use Rattle.std.proofs.Common.{◌≡◌, ◌++◌, true, false, [], ap, ◌∙◌}
use Rattle.bajofeki.specs.Chunked.{Chunked}
use Rattle.bajofeki.proofs.ChunkLaws.{came_more, came_whole}
use Rattle.uses_rules.proofs.Joining.{came_front, goes_on, whole_of}
use Rattle.uses_rules.proofs.feed_chunks.put_together.Goals as goal

pub returns : goal.returns
returns c =
    let r = c.args.lexer.now in
    let front = c.args.front.now in
    let text = front ++ c.args.back.now in
    let fed = c.in_ok-feed.ensures.fed in
    let came = came_front r c.new-chunks.result c.feed.new.self front c.new-chunks.ensures.nothing fed in
    let goes : c.take_pieces.new.chunks.is_ended ≡ false =
    c.in_ok-take_pieces.ensures.ended ∙ goes_on r c.new-chunks.result c.feed.new.self front c.new-chunks.ensures.nothing fed in
    let first = c.in_ok-take_pieces.ensures.taken r front [] came c.new-whole.ensures.items in
    let all = came_more r front first.0 c.take_pieces.new.chunks c.feed-2.new.self first.1.0 c.args.back.now goes c.in_ok-feed-2.ensures.fed in
    let whole = came_whole r text first.0 c.feed-2.new.self c.finish.new.self all c.finish.ensures.ended in
    let last = c.in_ok-take_pieces-2.ensures.taken r text first.0 whole first.1.1 in
    let over : c.take_pieces-2.new.chunks.is_ended ≡ true = c.in_ok-take_pieces-2.ensures.ended ∙ ap (λ (d : Chunked). d.is_ended) c.finish.ensures.ended in
    let both =
    whole_of r text c.take_pieces-2.new.whole.items last.0 c.take_pieces-2.new.chunks last.1.0 over c.in_ok-take_pieces-2.ensures.held last.1.1 in
    record {
      whole = both.0;
      pieces = (last.0, (c.take_pieces-2.new.chunks.stack, (both.1, last.1.1)));
    }
